-- The code of a `switch`, from its parts: the search, and its cases in blocks.
use Rattle.std.proofs.Common.{◌≡◌, ℕ, zero, suc, ℤ, pos, Option, Some, None, ◌+◌, ◌<◌, ◌^◌, List, [], ◌∷◌, ◌++◌, length, drop, option_map, length-drop, get_or, refl, ap, sym, subst, ◌∙◌, arith}
use Rattle.std.proofs.lemmas.List.{drop-drop}
use Rattle.std.specs.Prelude.{Vec}
use Rattle.std.specs.declared.alloc.Global.{Global}
use Rattle.c_syntax.specs.declared.place.Place.{Place}
use Rattle.c_syntax.specs.declared.expression.Expr.{Expr}
use Rattle.c_syntax.specs.declared.statement.Case.{Case}
use Rattle.c_syntax.specs.declared.statement.Stmt.{Stmt}
use Rattle.c_syntax.specs.declared.statement.StmtKind as code
use Rattle.c_syntax.specs.Expressions.{Expression, Node, Number, plain_expr, type_of}
use Rattle.c_syntax.specs.Statements.{Cases, NoCase, Switch, plain_cases, plain_stmt, plain_stmt_kind}
use Rattle.c_syntax.proofs.Rows.{switch_is}
use Rattle.c_model.specs.Meaning.{default_of}
use Rattle.mon_syntax.specs.declared.tree.MonType.{MonType}
use Rattle.mon_syntax.specs.declared.tree.MonType.TheVariants.{U64}
use Rattle.mon_syntax.specs.declared.tree.MonOp.TheVariants.{Eq}
use Rattle.mon_syntax.specs.Registers.{Names}
use Rattle.mon_syntax.specs.Trees.{MonExpression, MonStatement, MonStatements, NoStatement, Then, Register, Constant, Binary, If, Goto, Labelled}
use Rattle.c_effects.specs.Expressions.{before, one, set, value_type}
use Rattle.c_effects.specs.Full.{takes}
use Rattle.c_effects.specs.Named.{unit_of, with_registers}
use Rattle.c_effects.proofs.Sequences.{before_assoc, left_at, more, more_behind}
use Rattle.c_evaluation.specs.Evaluated.{prepare_by, result_by}
use Rattle.c_simulation.specs.Keeping.{Kept}
use Rattle.c_simulation.specs.Labels.{end_label}
use Rattle.instrument.specs.Limits.{CasesHaveNumbers, HaveNumbers}
use Rattle.instrument.specs.Options.{ItemsHaveNumbers, behind_cases, behind_items, blocks_of_cases_by, cases_in_block, chosen_by, first_cases, items_of_case, next_cases_by, number_behind, reached_by, statement_by}
use Rattle.instrument.specs.Translation.{Spot, case_label, others_in_block, returned_temporaries, search, switch_temporaries, test_case, tests_of_cases, where_reached}

pub switch_stmt : (s : Stmt) (e : Expr) (v : Vec Case Global) (l : List Case) → s.kind.value ≡ code.Switch e v → l ≡ v.items → Switch s.place (plain_expr e) (plain_cases l) ≡ plain_stmt s
switch_stmt s e v l is same = ap (λ z. Switch s.place (plain_expr e) (plain_cases z)) same ∙ sym (ap (plain_stmt_kind s.place) is ∙ switch_is s.place e v)

-- ---- the search

-- where a case has this number, or none
abbrev pub tested : ℕ → MonType → ℕ → ℕ → ℕ → Option ℤ → MonStatements
tested levels t v j i None = NoStatement
tested levels t v j i (Some n) =
    one (If (Binary Eq t (Register v) (Constant t n)) (before (set j (Constant U64 (pos i))) (one (Goto (case_label levels)))) NoStatement)

pub tested_is : (levels : ℕ) (t : MonType) (v j i : ℕ) (value : Option Expression) → test_case levels t v j i value ≡ tested levels t v j i (number_behind value)
tested_is levels t v j i (Some (Node at u (Number n k))) = refl
tested_is levels t v j i _ = refl

-- an `if` without an `else`, from its parts
pub if_alone : (t t1 : MonStatements) (s : MonStatement) (c d : MonExpression) (f g h : MonStatements) → s ≡ If c f h → c ≡ d → f ≡ g → h ≡ NoStatement → t1 ≡ before t (one s) → t1 ≡ before t (one (If d g NoStatement))
if_alone t t1 s c d f g h is test then_is else_is last = last ∙ ap (λ x. before t (one x)) (is ∙ (λ i. If (test i) (then_is i) (else_is i)))

-- one more test stands there
pub one_more_test : {all : MonStatements} (levels : ℕ) (k : MonType) (v j i : ℕ) (l : List Case) (x : Case) (t t1 : MonStatements) → i < length l → x ≡ get_or l i x
    → t1 ≡ before t (test_case levels k v j i (option_map plain_expr x.value)) → before t (tests_of_cases levels k v j i (plain_cases (drop i l))) ≡ all
    → before t1 (tests_of_cases levels k v j (i + 1) (plain_cases (drop (i + 1) l))) ≡ all
one_more_test levels k v j i l x t t1 lt is put kept =
    let next : suc i ≡ i + 1 = omega arith in
    let test = test_case levels k v j i (option_map plain_expr x.value) in
    more t test (tests_of_cases levels k v j (i + 1) (plain_cases (drop (i + 1) l)))
    (left_at (λ m. tests_of_cases levels k v j i (plain_cases m)) l i x x lt is refl ∙ ap (λ a. before test (tests_of_cases levels k v j a (plain_cases (drop (i + 1) l)))) next)
    put kept

-- the search, from its parts
pub search_code : (levels : ℕ) (k : MonType) (v j : ℕ) (cases : Cases) (t t1 t2 tests : MonStatements) (s : MonStatement) (d : ℕ) → t1 ≡ before t (set j (Constant U64 (pos d))) → d ≡ default_of cases
    → s ≡ Labelled tests (case_label levels) → tests ≡ tests_of_cases levels k v j 0 cases → t2 ≡ before t1 (one s) → t2 ≡ before t (search levels k v j cases)
search_code levels k v j cases t t1 t2 tests s d put default_is is tests_are last =
    let whole = one (Labelled (tests_of_cases levels k v j 0 cases) (case_label levels)) in
    last
    ∙ ap (λ x. before t1 (one x)) (is ∙ ap (λ a. Labelled a (case_label levels)) tests_are)
    ∙ ap (λ a. before a whole) (put ∙ ap (λ a. before t (set j (Constant U64 (pos a)))) default_is)
    ∙ before_assoc t (set j (Constant U64 (pos (default_of cases)))) whole

-- ---- the whole

-- the search, and the cases behind it
pub switch_code : (ks : List Kept) (n n1 : Names) (spot : Spot) (t t1 t2 : MonStatements) (at : Place) (e : Expression) (cases : Cases) (levels chosen : ℕ) (between : List ℕ) (body : MonStatements) → levels ≡ spot.levels + 1
    → chosen ≡ length (n.table.kinds ++ returned_temporaries (unit_of n) e) → between ≡ spot.inside ++ spot.between → n1 ≡ with_registers (switch_temporaries (unit_of n) e) n → t1 ≡ before t (chosen_by n levels e cases)
    → body ≡ blocks_of_cases_by ks n1 (record { levels = levels; innermost = spot.innermost; inside = []; between = between; outside = spot.outside; result = spot.result }) chosen 0 0 cases
    → t2 ≡ before t1 (one (Labelled body (end_label levels))) → t2 ≡ before t (statement_by ks n spot (Switch at e cases))
switch_code ks n n1 spot t t1 t2 at e cases levels chosen between body levels_is chosen_is between_is names found done last =
    let p = unit_of n in
    let first = prepare_by n e in
    let second = set (length (n.table.kinds ++ takes p e)) (result_by n e) in
    let looked = search (spot.levels + 1) (value_type (type_of e)) (length (n.table.kinds ++ takes p e)) (length (n.table.kinds ++ returned_temporaries p e)) cases in
    let third = chosen_by n (spot.levels + 1) e cases in
    let spots : List ℕ → ℕ → Spot = λ b k. record { levels = k; innermost = spot.innermost; inside = []; between = b; outside = spot.outside; result = spot.result } in
    let blocks = blocks_of_cases_by ks (with_registers (switch_temporaries p e) n) (spots (spot.inside ++ spot.between) (spot.levels + 1)) (length (n.table.kinds ++ returned_temporaries p e)) 0 0 cases in
    let end = one (Labelled blocks (end_label (spot.levels + 1))) in
    last
    ∙ ap (λ b. before t1 (one (Labelled b (end_label levels)))) done
    ∙ (λ i. before (found i) (one (Labelled (blocks_of_cases_by ks (names i) (spots (between_is i) (levels_is i)) (chosen_is i) 0 0 cases) (end_label (levels_is i)))))
    ∙ ap (λ k. before (before t (chosen_by n k e cases)) end) levels_is
    ∙ before_assoc t third end
    ∙ ap (before t) (before_assoc first (before second looked) end ∙ ap (before first) (before_assoc second looked end))

-- ---- the next cases

-- none is left of these, or none of the block
pub no_more_code : (ks : List Kept) (n : Names) (spot : Spot) (j i k : ℕ) (l : List Case) → (0 < length l → 0 < k → ⊥) → next_cases_by ks n spot j i k (plain_cases l) ≡ NoStatement
no_more_code ks n spot j i k [] none = refl
no_more_code ks n spot j i zero (x ∷ l) none = refl
no_more_code ks n spot j i (suc k) (x ∷ l) none = absurd (none (omega arith) (omega arith))

pub no_more_cases : (k : ℕ) (l : List Case) → (0 < length l → 0 < k → ⊥) → first_cases k (plain_cases l) ≡ NoCase
no_more_cases zero l none = refl
no_more_cases (suc k) [] none = refl
no_more_cases (suc k) (x ∷ l) none = absurd (none (omega arith) (omega arith))

-- the items of one more case stand there
pub one_more_case : {all : MonStatements} (ks : List Kept) (n m : Names) (spot : Spot) (j i k k' : ℕ) (l : List Case) (x : Case) (t t1 : MonStatements) → i < length l → x ≡ get_or l i x → k ≡ suc k' → t1 ≡ before t (one (reached_by ks n spot j i x))
    → m ≡ behind_items ks (items_of_case x) n → before t (next_cases_by ks n spot j i k (plain_cases (drop i l))) ≡ all → before t1 (next_cases_by ks m spot j (i + 1) k' (plain_cases (drop (i + 1) l))) ≡ all
one_more_case ks n m spot j i k k' l x t t1 lt is count put names kept =
    let next : suc i ≡ i + 1 = omega arith in
    let rest = plain_cases (drop (i + 1) l) in
    more_behind t (one (reached_by ks n spot j i x)) (behind_items ks (items_of_case x) n) (λ m. next_cases_by ks m spot j (i + 1) k' rest)
    ((λ q. next_cases_by ks n spot j i (count q) (left_at plain_cases l i x x lt is refl q)) ∙ ap (λ a. Then (reached_by ks n spot j i x) (next_cases_by ks (behind_items ks (items_of_case x) n) spot j a k' rest)) next)
    put names kept

pub more_names : {all : Names} (ks : List Kept) (n m : Names) (i k k' : ℕ) (l : List Case) (x : Case) → i < length l → x ≡ get_or l i x → k ≡ suc k' → m ≡ behind_items ks (items_of_case x) n
    → behind_cases ks (first_cases k (plain_cases (drop i l))) n ≡ all → behind_cases ks (first_cases k' (plain_cases (drop (i + 1) l))) m ≡ all
more_names ks n m i k k' l x lt is count names kept =
    ap (behind_cases ks (first_cases k' (plain_cases (drop (i + 1) l)))) names ∙ sym (λ q. behind_cases ks (first_cases (count q) (left_at plain_cases l i x x lt is refl q)) n) ∙ kept

pub more_numbers : {All : Type 0} (i k k' : ℕ) (l : List Case) (x : Case) → i < length l → x ≡ get_or l i x → k ≡ suc k' → HaveNumbers (items_of_case x)
    → (ItemsHaveNumbers (first_cases k (plain_cases (drop i l))) → All) → ItemsHaveNumbers (first_cases k' (plain_cases (drop (i + 1) l))) → All
more_numbers i k k' l x lt is count has kept rest =
    kept (subst ItemsHaveNumbers (sym (λ q. first_cases (count q) (left_at plain_cases l i x x lt is refl q))) (has, rest))

-- ---- blocks of cases

-- the first cases of a list stand in a block, and the others behind it
passed_code : (ks : List Kept) (n : Names) (spot : Spot) (j i k : ℕ) (l : List Case)
    → blocks_of_cases_by ks n spot j i k (plain_cases l) ≡ blocks_of_cases_by ks (behind_cases ks (first_cases k (plain_cases l)) n) spot j (i + k) 0 (plain_cases (drop k l))
passed_code ks n spot j i zero l =
    let same : i ≡ i + 0 = omega arith in
    ap (λ a. blocks_of_cases_by ks n spot j a 0 (plain_cases l)) same
passed_code ks n spot j i (suc k) [] = refl
passed_code ks n spot j i (suc k) (x ∷ l) =
    let same : suc i + k ≡ i + suc k = omega arith in
    let m = behind_items ks (items_of_case x) n in
    passed_code ks m spot j (suc i) k l ∙ ap (λ a. blocks_of_cases_by ks (behind_cases ks (first_cases k (plain_cases l)) m) spot j a 0 (plain_cases (drop k l))) same

passed_names : (ks : List Kept) (n : Names) (k : ℕ) (l : List Case) → behind_cases ks (plain_cases l) n ≡ behind_cases ks (plain_cases (drop k l)) (behind_cases ks (first_cases k (plain_cases l)) n)
passed_names ks n zero l = refl
passed_names ks n (suc k) [] = refl
passed_names ks n (suc k) (x ∷ l) = passed_names ks (behind_items ks (items_of_case x) n) k l

passed_numbers : (k : ℕ) (l : List Case) → ItemsHaveNumbers (first_cases k (plain_cases l)) → ItemsHaveNumbers (plain_cases (drop k l)) → ItemsHaveNumbers (plain_cases l)
passed_numbers zero l first rest = rest
passed_numbers (suc k) [] first rest = tt
passed_numbers (suc k) (x ∷ l) first rest = (first.0, passed_numbers k l first.1 rest)

-- a block, and those behind it
block_code : (ks : List Kept) (n : Names) (spot : Spot) (j i : ℕ) (l : List Case) → 0 < length l
    → blocks_of_cases_by ks n spot j i 0 (plain_cases l)
    ≡ Then (where_reached j (i + others_in_block) (next_cases_by ks n spot j i cases_in_block (plain_cases l)))
    (blocks_of_cases_by ks (behind_cases ks (first_cases cases_in_block (plain_cases l)) n) spot j (i + cases_in_block) 0 (plain_cases (drop cases_in_block l)))
block_code ks n spot j i [] some = absurd (omega (arith, some))
block_code ks n spot j i (x ∷ l) some =
    let same : suc i + others_in_block ≡ i + cases_in_block = omega arith in
    let m = behind_items ks (items_of_case x) n in
    let rest = behind_cases ks (first_cases others_in_block (plain_cases l)) m in
    ap (Then (where_reached j (i + others_in_block) (next_cases_by ks n spot j i cases_in_block (plain_cases (x ∷ l)))))
    (passed_code ks m spot j (suc i) others_in_block l ∙ ap (λ a. blocks_of_cases_by ks rest spot j a 0 (plain_cases (drop others_in_block l))) same)

-- one more block stands there
module _ (l : List Case) (i : ℕ) (lt : i < length l) where
  some_left : 0 < length (drop i l)
  some_left = omega (arith, length-drop i l)

  further : drop cases_in_block (drop i l) ≡ drop (i + cases_in_block) l
  further = drop-drop cases_in_block i l

  pub one_more_block : {all : MonStatements} (ks : List Kept) (n m : Names) (spot : Spot) (j : ℕ) (t t1 block : MonStatements) → block ≡ next_cases_by ks n spot j i cases_in_block (plain_cases (drop i l))
      → t1 ≡ before t (one (where_reached j (i + others_in_block) block)) → m ≡ behind_cases ks (first_cases cases_in_block (plain_cases (drop i l))) n
      → before t (blocks_of_cases_by ks n spot j i 0 (plain_cases (drop i l))) ≡ all → before t1 (blocks_of_cases_by ks m spot j (i + cases_in_block) 0 (plain_cases (drop (i + cases_in_block) l))) ≡ all
  one_more_block ks n m spot j t t1 block is put names kept =
      let part = one (where_reached j (i + others_in_block) (next_cases_by ks n spot j i cases_in_block (plain_cases (drop i l)))) in
      let rest = behind_cases ks (first_cases cases_in_block (plain_cases (drop i l))) n in
      more_behind t part rest (λ m. blocks_of_cases_by ks m spot j (i + cases_in_block) 0 (plain_cases (drop (i + cases_in_block) l)))
      (block_code ks n spot j i (drop i l) some_left ∙ ap (λ c. before part (blocks_of_cases_by ks rest spot j (i + cases_in_block) 0 (plain_cases c))) further)
      (put ∙ ap (λ b. before t (one (where_reached j (i + others_in_block) b))) is) names kept

  pub further_names : {all : Names} (ks : List Kept) (n m : Names) → m ≡ behind_cases ks (first_cases cases_in_block (plain_cases (drop i l))) n → behind_cases ks (plain_cases (drop i l)) n ≡ all
      → behind_cases ks (plain_cases (drop (i + cases_in_block) l)) m ≡ all
  further_names ks n m names kept =
      ap (behind_cases ks (plain_cases (drop (i + cases_in_block) l))) names
      ∙ ap (λ c. behind_cases ks (plain_cases c) (behind_cases ks (first_cases cases_in_block (plain_cases (drop i l))) n)) (sym further)
      ∙ sym (passed_names ks n cases_in_block (drop i l)) ∙ kept

  pub further_numbers : {All : Type 0} → ItemsHaveNumbers (first_cases cases_in_block (plain_cases (drop i l))) → (ItemsHaveNumbers (plain_cases (drop i l)) → All)
      → ItemsHaveNumbers (plain_cases (drop (i + cases_in_block) l)) → All
  further_numbers first kept rest = kept (passed_numbers cases_in_block (drop i l) first (subst (λ c. ItemsHaveNumbers (plain_cases c)) (sym further) rest))

-- indices of cases are few
pub have_numbers : (l : List Case) (i : ℕ) → i + length l < 2 ^ 63 → ItemsHaveNumbers (plain_cases l) → CasesHaveNumbers i (plain_cases l)
have_numbers [] i few has = omega (arith, few)
have_numbers (x ∷ l) i few has = (has.0, have_numbers l (suc i) (omega (arith, few)) has.1)
