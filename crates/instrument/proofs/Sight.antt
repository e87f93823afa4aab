-- Names in sight are those that live: what typing sees is found in each scope that has their numbers.
use Rattle.std.proofs.Common.{◌≡◌, ℕ, Bool, true, false, cond, nat_eq, List, [], ◌∷◌, Some, refl, subst, sym}
use Rattle.std.specs.Prelude.{map}
use Rattle.c_syntax.specs.Statements.{Declaration}
use Rattle.c_model.specs.State.{Scope, find}
use Rattle.c_model.specs.Formed.{number_of}
use Rattle.c_model.specs.ExpressionTyping.{Entity, AnObject, AnEnumerator}
use Rattle.instrument.proofs.Births.{names_of, with_numbers}
use Rattle.interval_infer.specs.InSight.{IsFound, AreFound}
use Rattle.interval_infer.proofs.Sights.{DeclarationsFound, entities_found_more, newest_found}

-- a scope that has these numbers
abbrev pub scope_for : List ℕ → Scope
scope_for living = map (λ (x : ℕ). (x, 0)) living

in_scope : (x : ℕ) (scope : Scope) → IsFound (scope_for (names_of scope)) x → IsFound scope x
in_scope x [] h = h
in_scope x (b ∷ scope) h = by (λ i. in_scope x scope i) (nat_eq b.0 x) h
  where
    by : (IsFound (scope_for (names_of scope)) x → IsFound scope x) → (t : Bool) → ((number : ℕ) × (cond t (Some 0) (find x (scope_for (names_of scope))) ≡ Some number)) → (number : ℕ) × (cond t (Some b.1) (find x scope) ≡ Some number)
    by rest true i = (b.1, refl)
    by rest false i = rest i

are_in_scope : (entities : List Entity) (scope : Scope) → AreFound entities (scope_for (names_of scope)) → AreFound entities scope
are_in_scope [] scope h = tt
are_in_scope (AnObject b ∷ bs) scope h = (in_scope b.decl scope h.0, are_in_scope bs scope h.1)
are_in_scope (AnEnumerator c ∷ bs) scope h = (tt, are_in_scope bs scope h.1)

pub sees_found : (entities : List Entity) (living : List ℕ) (scope : Scope) → names_of scope ≡ living → AreFound entities (scope_for living) → AreFound entities scope
sees_found entities living scope e h = are_in_scope entities scope (subst (λ l. AreFound entities (scope_for l)) (sym e) h)

-- ---- births add names

pub sees_born : (entities : List Entity) (ds : List Declaration) (living : List ℕ) → AreFound entities (scope_for living) → AreFound entities (scope_for (with_numbers ds living))
sees_born entities [] living h = h
sees_born entities (d ∷ ds) living h = sees_born entities ds (number_of d ∷ living) (entities_found_more entities (number_of d) 0 (scope_for living) h)

pub declared_born : (ds : List Declaration) (living : List ℕ) → DeclarationsFound ds (scope_for (with_numbers ds living))
declared_born [] living = tt
declared_born (d ∷ ds) living =
    ((sees_born (AnObject (record { name = d.name; decl = number_of d; ctype = d.ctype }) ∷ []) ds (number_of d ∷ living) (newest_found (number_of d) 0 (scope_for living), tt)).0, declared_born ds (number_of d ∷ living))
