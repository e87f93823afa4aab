-- What contracts say once they are typed: each clause is typed with what its kind may name, and each behavior that is named is one of the contract.
use Rattle.std.proofs.Common.{◌≡◌, ℕ, not, List, [], ◌∷◌, refl, sym, ap, subst}
use Rattle.c_syntax.specs.declared.place.Place.{Place}
use Rattle.c_syntax.specs.declared.annotation.Kind.{Kind}
use Rattle.c_syntax.specs.Logic.{Annotation}
use Rattle.c_syntax.specs.Programs.{NamedBehavior, FunctionContract}
use Rattle.c_model.specs.Checked.{Checked, Good, Bad, one_part}
use Rattle.c_model.specs.ExpressionTyping.{no_name, is_among}
use Rattle.c_model.specs.AnnotationSights.{AnnotationSight}
use Rattle.c_model.specs.PredicateTyping.{typed_clause}
use Rattle.c_model.specs.ContractTyping.{typed_clauses, typed_behaviors, names_of_behaviors, named_behaviors, known_behaviors, typed_covers, typed_contract}
use Rattle.c_model.specs.TypedPredicates.{ClauseTyped, AreRead}
use Rattle.c_model.specs.TypedAnnotations.{IsSaidBy, ClausesTyped, BehaviorsTyped, AreAmong, CoversTyped, ContractTyped, BehaviorsRead, TypedContractsAreKnown}
use Rattle.c_model.proofs.TypedParts.{gives_and, Gives, gives_of, gives_one, gives_where}
use Rattle.c_model.proofs.PredicateTrees.{clause_well, clause_said}

-- ---- names of behaviors

wider : (P Q : Type 0) → (P → Q) → (c : Checked (Unit {0})) → Gives (λ u. P) c → Gives (λ u. Q) c
wider P Q f (Good u) h = f h
wider P Q f (Bad x xs) h = tt

names_known : (names : List ℕ) (xs : List (Place × ℕ)) → Gives (λ u. AreAmong names xs) (known_behaviors names xs)
names_known names [] = tt
names_known names (x ∷ xs) =
    gives_where (λ u. AreAmong names (x ∷ xs)) (is_among x.1 names) (no_name x.0) (known_behaviors names xs) (λ e.
    wider (AreAmong names xs) (AreAmong names (x ∷ xs)) (λ h. (e, h)) (known_behaviors names xs) (names_known names xs))

covers_well : (names : List ℕ) (xs : List Annotation) → Gives (λ u. CoversTyped names xs) (typed_covers names xs)
covers_well names [] = tt
covers_well names (a ∷ rest) =
    gives_one (λ u. AreAmong names (named_behaviors a.body)) (λ u. CoversTyped names (a ∷ rest)) (known_behaviors names (named_behaviors a.body)) (λ u. typed_covers names rest) (names_known names (named_behaviors a.body)) (λ u v.
    wider (CoversTyped names rest) (CoversTyped names (a ∷ rest)) (λ h. (v, h)) (typed_covers names rest) (covers_well names rest))

module _ (seen : Kind → AnnotationSight) where
  -- ---- clauses

  clauses_well : (xs : List Annotation) → AreRead xs → Gives (ClausesTyped seen) (typed_clauses seen xs)
  clauses_well [] r = tt
  clauses_well (a ∷ rest) r =
      let u = seen a.kind in
      gives_one (λ b. ClauseTyped u b × IsSaidBy a.kind b) (ClausesTyped seen) (typed_clause u a.kind a.body) (λ b. one_part (typed_clauses seen rest) (λ rest. Good (record a { body = b } ∷ rest)))
      (gives_and (ClauseTyped u) (IsSaidBy a.kind) (typed_clause u a.kind a.body) (clause_well u a.kind a.body r.0) (clause_said u a.kind a.body r.0)) (λ b v.
      gives_one (ClausesTyped seen) (ClausesTyped seen) (typed_clauses seen rest) (λ rest. Good (record a { body = b } ∷ rest)) (clauses_well rest r.1) (λ more w. (v.0, v.1, w)))

  -- ---- behaviors, which keep their names

  record AreWell (bs cs : List NamedBehavior) : Type 0 where
    typed : BehaviorsTyped seen cs
    names : names_of_behaviors cs ≡ names_of_behaviors bs

  behaviors_well : (names : List ℕ) (bs : List NamedBehavior) → BehaviorsRead bs → Gives (AreWell bs) (typed_behaviors seen names bs)
  behaviors_well names [] r = record { typed = tt; names = refl }
  behaviors_well names (b ∷ bs) r =
      gives_where (AreWell (b ∷ bs)) (not (is_among b.name names)) (no_name b.place) _ (λ e.
      gives_one (ClausesTyped seen) (AreWell (b ∷ bs)) (typed_clauses seen b.clauses) (λ clauses. one_part (typed_behaviors seen (b.name ∷ names) bs) (λ rest. Good (record b { clauses = clauses } ∷ rest)))
      (clauses_well b.clauses r.0) (λ clauses v.
      gives_one (AreWell bs) (AreWell (b ∷ bs)) (typed_behaviors seen (b.name ∷ names) bs) (λ rest. Good (record b { clauses = clauses } ∷ rest)) (behaviors_well (b.name ∷ names) bs r.1) (λ rest w.
      record { typed = (v, w.typed); names = ap (λ ns. b.name ∷ ns) w.names })))

  -- ---- contracts

  pub contract_well : (c : FunctionContract) → AreRead c.clauses → BehaviorsRead c.behaviors → Gives (ContractTyped seen) (typed_contract seen c)
  contract_well c r q =
      gives_one (ClausesTyped seen) (ContractTyped seen) (typed_clauses seen c.clauses) _ (clauses_well c.clauses r) (λ clauses v.
      gives_one (AreWell c.behaviors) (ContractTyped seen) (typed_behaviors seen [] c.behaviors) _ (behaviors_well [] c.behaviors q) (λ behaviors w.
      gives_one (λ u. CoversTyped (names_of_behaviors c.behaviors) c.covers) (ContractTyped seen) (typed_covers (names_of_behaviors c.behaviors) c.covers) _ (covers_well (names_of_behaviors c.behaviors) c.covers) (λ u x.
      record { clauses = v; behaviors = w.typed; covers = subst (λ ns. CoversTyped ns c.covers) (sym w.names) x })))

pub typed_contracts_are_known : TypedContractsAreKnown
typed_contracts_are_known seen c d r q is = gives_of (ContractTyped seen) (typed_contract seen c) d (contract_well seen c r q) is
