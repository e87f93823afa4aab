-- Statements one after another, as a loop pushes them onto a vector.
use Rattle.std.proofs.Common.{◌≡◌, ℕ, suc, ◌+◌, ◌-◌, ◌^◌, ◌<◌, ◌≤◌, List, [], ◌∷◌, ◌++◌, length, length-append, length-drop, drop, take, reverse, map, get_or, refl, sym, ap, ◌∙◌, subst, arith, append_assoc}
use Rattle.std.proofs.lemmas.List.{map-append, nil_from_length, append-nil, reverse-append, take_more, take_all}
use Rattle.std.proofs.Math.Seq.{drop-cons}
use Rattle.c_syntax.specs.declared.statement.Decl.{Decl}
use Rattle.c_syntax.specs.Programs.{StructType}
use Rattle.c_syntax.specs.Statements.{Declaration, plain_decl}
use Rattle.c_syntax.specs.Layouts.{size_of}
use Rattle.mon_syntax.specs.declared.tree.MonStmt.{MonStmt}
use Rattle.mon_syntax.specs.declared.tree.MonType.TheVariants.{Ptr}
use Rattle.mon_syntax.specs.Registers.{Names, next_register, with_table}
use Rattle.mon_syntax.specs.Trees.{MonStatement, Then, plain_stmt, plain_stmts}
use Rattle.track_scopes.specs.Blocks.{AreSmall, birth, births, death, deaths, entered, with_pointer}

-- ---- births

-- the births of these variables' blocks as a list
abbrev pub birth_list : List StructType → ℕ → List Declaration → List MonStatement
birth_list structs p [] = []
birth_list structs p (d ∷ ds) = birth structs p d ∷ birth_list structs (suc p) ds

pub births_are : (structs : List StructType) (p : ℕ) (l : List MonStmt) (ds : List Declaration) → map plain_stmt l ≡ birth_list structs p ds → plain_stmts l ≡ births structs p ds
births_are structs p [] [] e = refl
births_are structs p [] (d ∷ ds) e = absurd cc
births_are structs p (s ∷ l) [] e = absurd cc
births_are structs p (s ∷ l) (d ∷ ds) e =
    let one : plain_stmt s ≡ birth structs p d = cc in
    let others : map plain_stmt l ≡ birth_list structs (suc p) ds = cc in
    (λ i. Then (one i) (births_are structs (suc p) l ds others i))

-- ---- what is left of a list

-- what is left begins with the item at the index
pub left_at {ℓ} : {B : Type ℓ} (f : List Declaration → B) (l : List Decl) (i : ℕ) (z x : Decl) → i < length l → x ≡ get_or l i z → f (map plain_decl (drop i l)) ≡ f (plain_decl x ∷ map plain_decl (drop (i + 1) l))
left_at f l i z x lt e =
    let next : suc i ≡ i + 1 = omega arith in
    ap (λ m. f (map plain_decl m)) (drop-cons l i z lt) ∙ ap (λ y. f (plain_decl y ∷ map plain_decl (drop (suc i) l))) (sym e) ∙ ap (λ j. f (plain_decl x ∷ map plain_decl (drop j l))) next

pub none_left {ℓ} : {B : Type ℓ} (f : List Declaration → B) (l : List Decl) (i : ℕ) → length l ≤ i → f (map plain_decl (drop i l)) ≡ f []
none_left f l i le = ap (λ m. f (map plain_decl m)) (nil_from_length (drop i l) (omega (arith, length-drop i l)))

-- one more is pushed
pub pushed : (done : List MonStmt) (s : MonStmt) (rest whole : List MonStatement) → map plain_stmt done ++ (plain_stmt s ∷ rest) ≡ whole → map plain_stmt (done ++ s ∷ []) ++ rest ≡ whole
pushed done s rest whole kept =
    ap (λ l. l ++ rest) (map-append plain_stmt done (s ∷ [])) ∙ append_assoc (map plain_stmt done) (plain_stmt s ∷ []) rest ∙ kept

-- a variable has got its register, and its birth is pushed
module _ (structs : List StructType) (n new : Names) (all : List Decl) (i : ℕ) (z x : Decl) (lt : i < length all) (is : x ≡ get_or all i z) (names : new ≡ with_table (with_pointer (plain_decl x) n.table) n) where
  pub birth_pushed : (done : List MonStmt) (s : MonStmt) (r : ℕ) (whole : List MonStatement) → r ≡ next_register n.table → plain_stmt s ≡ birth structs r (plain_decl x)
      → map plain_stmt done ++ birth_list structs (next_register n.table) (map plain_decl (drop i all)) ≡ whole
      → map plain_stmt (done ++ s ∷ []) ++ birth_list structs (next_register new.table) (map plain_decl (drop (i + 1) all)) ≡ whole
  birth_pushed done s r whole number born kept =
      let rest = map plain_decl (drop (i + 1) all) in
      let next : next_register new.table ≡ suc (next_register n.table) = ap (λ (m : Names). next_register m.table) names ∙ omega (arith, length-append n.table.kinds (Ptr ∷ [])) in
      pushed done s (birth_list structs (next_register new.table) rest) whole
      ((λ j. map plain_stmt done ++ ((born ∙ ap (λ q. birth structs q (plain_decl x)) number) j ∷ birth_list structs (next j) rest))
      ∙ ap (λ l. map plain_stmt done ++ l) (sym (left_at (birth_list structs (next_register n.table)) all i z x lt is)) ∙ kept)

  pub entered_more : (whole : Names) → with_table (entered (map plain_decl (drop i all)) n.table) n ≡ whole → with_table (entered (map plain_decl (drop (i + 1) all)) new.table) new ≡ whole
  entered_more whole kept =
      ap (λ (m : Names). with_table (entered (map plain_decl (drop (i + 1) all)) m.table) m) names
      ∙ sym (left_at (λ ds. with_table (entered ds n.table) n) all i z x lt is) ∙ kept

  pub small_more : size_of structs (plain_decl x).ctype < 2 ^ 64 → AreSmall structs (map plain_decl (drop (i + 1) all)) → AreSmall structs (map plain_decl (drop i all))
  small_more small others = subst (λ (p : Type 0). p) (sym (left_at (AreSmall structs) all i z x lt is)) (small, others)

-- ---- deaths

pub deaths_are : (l : List MonStmt) (ps : List ℕ) → map plain_stmt l ≡ map death ps → plain_stmts l ≡ deaths ps
deaths_are [] [] e = refl
deaths_are [] (p ∷ ps) e = absurd cc
deaths_are (s ∷ l) [] e = absurd cc
deaths_are (s ∷ l) (p ∷ ps) e =
    let one : plain_stmt s ≡ death p = cc in
    let others : map plain_stmt l ≡ map death ps = cc in
    (λ i. Then (one i) (deaths_are l ps others i))

-- one more death is pushed, of the last of those that are left
pub death_pushed : (done : List MonStmt) (s : MonStmt) (all : List ℕ) (left z x : ℕ) (whole : List MonStatement) → 0 < left → left ≤ length all → x ≡ get_or all (left - 1) z → plain_stmt s ≡ death x
    → map plain_stmt done ++ map death (reverse (take left all)) ≡ whole → map plain_stmt (done ++ s ∷ []) ++ map death (reverse (take (left - 1) all)) ≡ whole
death_pushed done s all left z x whole some le e is kept =
    let next : left ≡ left - 1 + 1 = omega (arith, some) in
    let lt : left - 1 < length all = omega (arith, some, le) in
    let last : reverse (take left all) ≡ x ∷ reverse (take (left - 1) all) =
    ap (λ k. reverse (take k all)) next ∙ ap reverse (take_more all (left - 1) z lt) ∙ reverse-append (take (left - 1) all) (get_or all (left - 1) z ∷ []) ∙ ap (λ y. y ∷ reverse (take (left - 1) all)) (sym e) in
    pushed done s (map death (reverse (take (left - 1) all))) whole
    (ap (λ m. map plain_stmt done ++ (m ∷ map death (reverse (take (left - 1) all)))) is
    ∙ ap (λ l. map plain_stmt done ++ map death l) (sym last)
    ∙ kept)

-- all deaths are pushed
pub all_pushed : (done : List MonStmt) (all : List ℕ) (left : ℕ) (whole : List MonStatement) → left ≡ 0 → map plain_stmt done ++ map death (reverse (take left all)) ≡ whole → map plain_stmt done ≡ whole
all_pushed done all left whole none kept =
    sym (append-nil (map plain_stmt done))
    ∙ ap (λ k. map plain_stmt done ++ map death (reverse (take k all))) (sym none)
    ∙ kept

-- before the first of them
pub none_pushed : (done : List MonStmt) (all : List ℕ) (left : ℕ) → done ≡ [] → left ≡ length all → map plain_stmt done ++ map death (reverse (take left all)) ≡ map death (reverse all)
none_pushed done all left none count =
    ap (λ l. map plain_stmt l ++ map death (reverse (take left all))) none ∙ ap (λ l. map death (reverse l)) (take_all left all (omega (arith, count)))
