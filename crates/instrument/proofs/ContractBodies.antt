-- The body of a function around which its contract is checked, from its parts.
use Rattle.std.proofs.Common.{◌≡◌, ℕ, suc, ◌+◌, ◌≤◌, ◌<◌, Bool, List, [], ◌∷◌, length, map, None, refl, ap, ◌∙◌, arith}
use Rattle.std.proofs.lemmas.List.{length-map}
use Rattle.c_syntax.specs.declared.place.Place.{Place}
use Rattle.c_syntax.specs.declared.program.Behavior.{Behavior}
use Rattle.c_syntax.specs.declared.statement.Decl.{Decl}
use Rattle.c_syntax.specs.Statements.{Declaration, plain_decl}
use Rattle.c_syntax.specs.Programs.{NamedBehavior, FunctionContract, Function, plain_behavior}
use Rattle.c_model.specs.Formed.{number_of}
use Rattle.mon_syntax.specs.Registers.{Names, next_register, with_binding, with_table}
use Rattle.mon_syntax.specs.Trees.{MonStatement, MonStatements, Labelled}
use Rattle.track_scopes.specs.Blocks.{with_born}
use Rattle.c_effects.specs.Expressions.{before, one}
use Rattle.c_effects.specs.Named.{unit_of}
use Rattle.c_effects.proofs.Sequences.{before_assoc}
use Rattle.c_simulation.specs.Keeping.{Kept}
use Rattle.c_simulation.specs.Labels.{leave_label}
use Rattle.annot_code.specs.Checks.{entry_by, names_behind_entry, names_behind_leave}
use Rattle.annot_simulation.specs.ContractCode.{flag_named, flags_from, named_flags}
use Rattle.annot_code.specs.Passages.{names_behind_snapshot, snapshot_by}
use Rattle.instrument.specs.Options.{behind_body, behind_checked, behind_contracted, behind_inner, behind_whole, bound_from, checked_by, contracted_by, end_by, entering, inner_by, known_at_end, own_code, passed, with_these_alone}
use Rattle.instrument.specs.Translation.{parameters}

module _ (ks : List Kept) (r q : ℕ) (live : List ℕ) (f : Function) (is_main : Bool) (c : FunctionContract) (n n1 n2 n3 : Names) (names1 : n1 ≡ names_behind_entry (suc r) c n) (names2 : n2 ≡ behind_body ks f.body n1)
    (names3 : n3 ≡ with_these_alone q f.params n2) where
  inside : n2 ≡ behind_inner ks r q live f c n
  inside = names2 ∙ ap (behind_body ks f.body) names1

  alone : n3 ≡ with_these_alone q f.params (behind_inner ks r q live f c n)
  alone = names3 ∙ ap (with_these_alone q f.params) inside

  pub checked_is : (t t1 t2 t3 inner : MonStatements) (s : MonStatement) (label : List ℕ) → t1 ≡ before t (entry_by n (suc r) c) → inner ≡ inner_by ks r q live f is_main n1 → s ≡ Labelled inner label → label ≡ leave_label
      → t2 ≡ before t1 (one s) → t3 ≡ before t2 (end_by ks r q live f n3 c) → t3 ≡ before t (checked_by ks r q live f is_main n c)
  checked_is t t1 t2 t3 inner s label first inner_is is label_is put last =
      let whole : s ≡ Labelled (inner_by ks r q live f is_main (names_behind_entry (suc r) c n)) leave_label = is ∙ (λ i. Labelled ((inner_is ∙ ap (inner_by ks r q live f is_main) names1) i) (label_is i)) in
      let entry = entry_by n (suc r) c in
      let end = end_by ks r q live f (with_these_alone q f.params (behind_inner ks r q live f c n)) c in
      let body = one (Labelled (inner_by ks r q live f is_main (names_behind_entry (suc r) c n)) leave_label) in
      last
      ∙ (λ i. before ((put ∙ (λ j. before (first j) (one (whole j)))) i) (end_by ks r q live f (alone i) c))
      ∙ before_assoc (before t entry) body end
      ∙ before_assoc t entry (before body end)

  pub checked_names : (n4 : Names) → n4 ≡ names_behind_leave (known_at_end ks r f.result) (suc r) c n3 → n4 ≡ behind_checked ks r q live f c n
  checked_names n4 last = last ∙ ap (names_behind_leave (known_at_end ks r f.result) (suc r) c) alone

-- births, what is kept where the label `Pre` is passed, and the body
module _ (ks plan : List Kept) (r q : ℕ) (live : List ℕ) (f : Function) (n n1 n2 : Names) (plan_is : plan ≡ ks) (q_is : q ≡ next_register n.table) (live_is : live ≡ with_born (next_register n.table) f.params [])
    (names1 : n1 ≡ entering f.params n) (names2 : n2 ≡ names_behind_snapshot None plan n1) where
  both : n2 ≡ passed ks None (entering f.params n)
  both = names2 ∙ (λ i. names_behind_snapshot None (plan_is i) (names1 i))

  pub own_code_is : (is_main : Bool) (t t1 t2 t3 : MonStatements) → t1 ≡ before t (parameters (unit_of n) (next_register n.table) 0 f.params) → t2 ≡ before t1 (snapshot_by n1 None plan)
      → t3 ≡ before t2 (contracted_by plan r q live f is_main n2 f.contract) → t3 ≡ before t (own_code ks r f is_main n)
  own_code_is is_main t t1 t2 t3 first second last =
      let born = parameters (unit_of n) (next_register n.table) 0 f.params in
      let kept = snapshot_by (entering f.params n) None ks in
      let body = contracted_by ks r (next_register n.table) (with_born (next_register n.table) f.params []) f is_main (passed ks None (entering f.params n)) f.contract in
      last
      ∙ (λ i. before ((second ∙ (λ j. before (first j) (snapshot_by (names1 j) None (plan_is j)))) i) (contracted_by (plan_is i) r (q_is i) (live_is i) f is_main (both i) f.contract))
      ∙ before_assoc (before t born) kept body
      ∙ before_assoc t born (before kept body)

  pub own_names_are : (n3 : Names) → n3 ≡ behind_contracted plan r q live f f.contract n2 → n3 ≡ behind_whole ks r f n
  own_names_are n3 last = last ∙ (λ i. behind_contracted (plan_is i) r (q_is i) (live_is i) f f.contract (both i))

-- ---- flags that are counted

all_counted : (h : ℕ) (bs : List NamedBehavior) → length (flags_from h bs) ≡ length bs
all_counted h [] = refl
all_counted h (b ∷ bs) = ap suc (all_counted (suc h) bs)

pub none_named : (listed : List (Place × ℕ)) (h : ℕ) (bs : List Behavior) → length listed < 1 → length (named_flags listed h (map plain_behavior bs)) ≡ length bs
none_named [] h bs lt = all_counted h (map plain_behavior bs) ∙ length-map bs plain_behavior
none_named (x ∷ xs) h bs lt = absurd (omega (arith, lt))

pub some_named : (x : Place × ℕ) (xs : List (Place × ℕ)) (h : ℕ) (bs : List NamedBehavior) → length (named_flags (x ∷ xs) h bs) ≡ length (x ∷ xs)
some_named x xs h bs = length-map (x ∷ xs) (λ (n : Place × ℕ). flag_named n.1 h bs)

-- ---- registers that are bound one after another

pub bound_more : {all : Names} (n n1 : Names) (k k1 : ℕ) (d : Declaration) (rest : List Declaration) → k1 ≡ k + 1 → n1 ≡ with_table (with_binding (number_of d) k n.table) n
    → with_table (record n.table { bound = bound_from k (d ∷ rest) n.table.bound }) n ≡ all → with_table (record n1.table { bound = bound_from k1 rest n1.table.bound }) n1 ≡ all
bound_more n n1 k k1 d rest next names kept =
    let e : k1 ≡ suc k = next ∙ omega arith in
    (λ i. with_table (record (names i).table { bound = bound_from (e i) rest (names i).table.bound }) (names i)) ∙ kept

-- where parameters have registers
pub room_at_end : (first : ℕ) (params slice : List Decl) {k : ℕ} → slice ≡ params → first + length (map plain_decl params) ≤ k → first + length slice ≤ k
room_at_end first params slice same le = let e = ap length same in let d = length-map params plain_decl in omega (arith, le, e, d)

pub born_room : (next first : ℕ) (params : List Declaration) {k : ℕ} → first ≡ next → next + length params ≤ k → first + length params ≤ k
born_room next first params same le = omega (arith, same, le)
