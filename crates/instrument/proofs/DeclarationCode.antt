-- Declarations one after another: their registers, and the births and deaths of their blocks.
use Rattle.std.proofs.Common.{◌≡◌, ℕ, zero, suc, ◌+◌, ◌-◌, ◌≤◌, List, [], ◌∷◌, ◌++◌, length, reverse, refl, sym, ap, ◌∙◌, arith, append_assoc}
use Rattle.std.proofs.lemmas.List.{length-append, reverse-append}
use Rattle.std.specs.Prelude.{Result, Ok, Err, Vec, IfOk}
use Rattle.std.specs.declared.alloc.Global.{Global}
use Rattle.c_syntax.specs.Programs.{StructType}
use Rattle.c_syntax.specs.Statements.{Declaration, BlockItem, Declare, Specify, Run, Asserts, BlockItems, Then}
use Rattle.c_model.specs.Meaning.{declared_in}
use Rattle.mon_syntax.specs.declared.tree.MonType.TheVariants.{Ptr}
use Rattle.mon_syntax.specs.Registers.{Names, RegisterTable, next_register, with_table}
use Rattle.mon_syntax.specs.Trees as mon
use Rattle.mon_syntax.specs.Trees.{MonStatements}
use Rattle.track_scopes.specs.Blocks.{birth, births, death, deaths, entered, with_born, with_pointer}
use Rattle.c_effects.specs.Expressions.{before}
use Rattle.c_effects.specs.Named.{unit_of}
use Rattle.c_effects.proofs.Sequences.{before_assoc}
use Rattle.instrument.specs.Options.{births_by, declared_by, entering, youngest}

-- ---- births

births_behind : (structs : List StructType) (p : ℕ) (ds es : List Declaration) → births structs p (ds ++ es) ≡ before (births structs p ds) (births structs (p + length ds) es)
births_behind structs p [] es = let e : p ≡ p + 0 = omega arith in ap (λ k. births structs k es) e
births_behind structs p (d ∷ ds) es =
    let e : suc p + length ds ≡ p + suc (length ds) = omega arith in
    ap (mon.Then (birth structs p d)) (births_behind structs (suc p) ds es ∙ ap (λ k. before (births structs (suc p) ds) (births structs k es)) e)

entered_behind : (ds es : List Declaration) (r : RegisterTable) → entered (ds ++ es) r ≡ entered es (entered ds r)
entered_behind [] es r = refl
entered_behind (d ∷ ds) es r = entered_behind ds es (with_pointer d r)

-- so many registers are made
pub next-entered : (ds : List Declaration) (r : RegisterTable) → next_register (entered ds r) ≡ next_register r + length ds
next-entered [] r = omega arith
next-entered (d ∷ ds) r =
    let more : length (r.kinds ++ Ptr ∷ []) ≡ length r.kinds + 1 = length-append r.kinds (Ptr ∷ []) in
    next-entered ds (with_pointer d r) ∙ omega (arith, more)

-- scopes entered one after another
module _ (n n1 : Names) (ds es : List Declaration) (names : n1 ≡ entering ds n) where
  pub births_then : (t t1 t2 : MonStatements) → t1 ≡ before t (births_by n ds) → t2 ≡ before t1 (births_by n1 es) → t2 ≡ before t (births_by n (ds ++ es))
  births_then t t1 t2 first second =
      let next : next_register n1.table ≡ next_register n.table + length ds = ap (λ (m : Names). next_register m.table) names ∙ next-entered ds n.table in
      second ∙ (λ i. before (first i) (births (unit_of (names i)).structs (next i) es))
      ∙ before_assoc t (births_by n ds) (births (unit_of n).structs (next_register n.table + length ds) es)
      ∙ ap (before t) (sym (births_behind (unit_of n).structs (next_register n.table) ds es))

  pub entering_then : (n2 : Names) → n2 ≡ entering es n1 → n2 ≡ entering (ds ++ es) n
  entering_then n2 second = second ∙ ap (entering es) names ∙ ap (λ r. with_table r n) (sym (entered_behind ds es n.table))

pub declared_first_item : (i : BlockItem) (rest : BlockItems) → declared_in (Then i rest) ≡ declared_by i ++ declared_in rest
declared_first_item (Declare ds) rest = refl
declared_first_item (Specify at t) rest = refl
declared_first_item (Run a) rest = refl
declared_first_item (Asserts annots) rest = refl

-- ---- the blocks that live

-- the oldest of them
youngest-more : (p n : ℕ) → youngest p (suc n) ≡ youngest (suc p) n ++ p ∷ []
youngest-more p zero = ap (λ k. k ∷ []) (omega arith)
youngest-more p (suc n) =
    let e : p + suc n ≡ suc p + n = omega arith in
    (λ i. e i ∷ youngest-more p n i)

born_are : (p : ℕ) (ds : List Declaration) (live : List ℕ) → with_born p ds live ≡ youngest p (length ds) ++ live
born_are p [] live = refl
born_are p (d ∷ ds) live =
    born_are (suc p) ds (p ∷ live)
    ∙ sym (append_assoc (youngest (suc p) (length ds)) (p ∷ []) live)
    ∙ ap (λ l. l ++ live) (sym (youngest-more p (length ds)))

-- those that lived before stand after
pub born_front : (p : ℕ) (ds : List Declaration) (live : List ℕ) → with_born p ds [] ++ live ≡ with_born p ds live
born_front p ds live =
    ap (λ l. l ++ live) (born_are p ds []) ∙ append_assoc (youngest p (length ds)) [] live ∙ sym (born_are p ds live)

-- the registers that were made by the entry of a scope
pub between_are : (n n1 : Names) (ds : List Declaration) (first end : ℕ) (own : List ℕ) → n1 ≡ entering ds n → first ≡ next_register n.table → end ≡ next_register n1.table → own ≡ youngest first (end - first)
    → own ≡ with_born (next_register n.table) ds []
between_are n n1 ds first end own names first_is end_is own_is =
    let next : end ≡ next_register n.table + length ds = end_is ∙ ap (λ (m : Names). next_register m.table) names ∙ next-entered ds n.table in
    let count : end - first ≡ length ds = omega (arith, next, first_is) in
    own_is ∙ (λ i. youngest (first_is i) (count i)) ∙ sym (born_are (next_register n.table) ds [] ∙ nothing_more (youngest (next_register n.table) (length ds)))
  where
    nothing_more : (l : List ℕ) → l ++ [] ≡ l
    nothing_more [] = refl
    nothing_more (x ∷ l) = ap (λ m. x ∷ m) (nothing_more l)

pub between_is : {E : Type 0} (n n1 : Names) (ds : List Declaration) (first end : ℕ) (r : Result (Vec ℕ Global) E) → n1 ≡ entering ds n → first ≡ next_register n.table → end ≡ next_register n1.table
    → IfOk r (λ own. reverse own.items ≡ youngest first (end - first)) → IfOk r (λ own. reverse own.items ≡ with_born (next_register n.table) ds [])
between_is n n1 ds first end (Ok own) names first_is end_is own_is = between_are n n1 ds first end (reverse own.items) names first_is end_is own_is
between_is n n1 ds first end (Err e) names first_is end_is own_is = tt

-- one more register of a loop that counts up
pub youngest_pushed : (all all' : List ℕ) (first next : ℕ) → first ≤ next → reverse all ≡ youngest first (next - first) → all' ≡ all ++ next ∷ [] → reverse all' ≡ youngest first (next + 1 - first)
youngest_pushed all all' first next le kept more =
    let e : next + 1 - first ≡ suc (next - first) = omega (arith, le) in
    let number : next ≡ first + (next - first) = omega (arith, le) in
    ap reverse more ∙ reverse-append all (next ∷ []) ∙ (λ i. number i ∷ kept i) ∙ ap (youngest first) (sym e)

-- blocks in order of birth: those that lived around a scope, and its own
pub inside_is : (around slice own all inside : List ℕ) → slice ≡ own → all ≡ around ++ slice → inside ≡ all → reverse inside ≡ reverse own ++ reverse around
inside_is around slice own all inside slice_is all_is same = ap reverse (same ∙ all_is ∙ ap (λ l. around ++ l) slice_is) ∙ reverse-append around own

-- ---- deaths

pub deaths_behind : (a b : List ℕ) → deaths (a ++ b) ≡ before (deaths a) (deaths b)
deaths_behind [] b = refl
deaths_behind (p ∷ a) b = ap (mon.Then (death p)) (deaths_behind a b)
