-- The typing of contracts (ACSL 2.3.1, 2.3.3), after that of the text's C: each clause with what its kind may name, behaviors with names of their own, and the
-- names of `complete` and `disjoint`, which are those of behaviors of the contract.
use Rattle.std.specs.Prelude.{ℕ, List, [], ◌∷◌, map, not}
use Rattle.c_syntax.specs.declared.place.Place.{Place}
use Rattle.c_syntax.specs.declared.annotation.Kind.{Kind}
use Rattle.c_syntax.specs.declared.annotation.Kind.TheVariants.{Ensures}
use Rattle.c_syntax.specs.Ctypes.{PlainType}
use Rattle.c_syntax.specs.Logic.{ClauseBody, Raw, Holds, Value, Behaviors, Annotation}
use Rattle.c_syntax.specs.Programs.{NamedBehavior, FunctionContract}
use Rattle.c_model.specs.Checked.{Checked, Good, where_so, one_part}
use Rattle.c_model.specs.ExpressionTyping.{no_name, Sight, is_among}
use Rattle.c_model.specs.AnnotationSights.{AtEntry, AtEnd, AnnotationSight}
use Rattle.c_model.specs.PredicateTyping.{typed_clause}

-- where a clause of a contract stands, by its kind: with this in sight, parameters of these numbers, and a result of this type
abbrev pub sight_of_clause : Sight → List ℕ → PlainType → Kind → AnnotationSight
sight_of_clause s formals t Ensures = record { here = s; labels = []; clause = AtEnd formals t; binders = [] }
sight_of_clause s formals t _ = record { here = s; labels = []; clause = AtEntry; binders = [] }

-- clauses, each with what is in sight of its kind
abbrev pub typed_clauses : (Kind → AnnotationSight) → List Annotation → Checked (List Annotation)
typed_clauses seen [] = Good []
typed_clauses seen (a ∷ rest) =
    one_part (typed_clause (seen a.kind) a.kind a.body) (λ b. one_part (typed_clauses seen rest) (λ rest. Good (record a { body = b } ∷ rest)))

-- behaviors behind those of these names
abbrev pub typed_behaviors : (Kind → AnnotationSight) → List ℕ → List NamedBehavior → Checked (List NamedBehavior)
typed_behaviors seen names [] = Good []
typed_behaviors seen names (b ∷ rest) =
    where_so (not (is_among b.name names)) (no_name b.place) (one_part (typed_clauses seen b.clauses) (λ clauses.
    one_part (typed_behaviors seen (b.name ∷ names) rest) (λ rest. Good (record b { clauses = clauses } ∷ rest))))

abbrev pub names_of_behaviors : List NamedBehavior → List ℕ
names_of_behaviors bs = map (λ (b : NamedBehavior). b.name) bs

-- names that a clause has, each of which is among these
abbrev pub known_behaviors : List ℕ → List (Place × ℕ) → Checked (Unit {0})
known_behaviors names [] = Good tt
known_behaviors names (x ∷ xs) = where_so (is_among x.1 names) (no_name x.0) (known_behaviors names xs)

abbrev pub named_behaviors : ClauseBody → List (Place × ℕ)
named_behaviors (Raw f) = []
named_behaviors (Holds p) = []
named_behaviors (Value t) = []
named_behaviors (Behaviors names) = names

-- `complete` and `disjoint`, of behaviors of these names
abbrev pub typed_covers : List ℕ → List Annotation → Checked (Unit {0})
typed_covers names [] = Good tt
typed_covers names (a ∷ rest) = one_part (known_behaviors names (named_behaviors a.body)) (λ u. typed_covers names rest)

abbrev pub typed_contract : (Kind → AnnotationSight) → FunctionContract → Checked FunctionContract
typed_contract seen c =
    one_part (typed_clauses seen c.clauses) (λ clauses. one_part (typed_behaviors seen [] c.behaviors) (λ behaviors.
    one_part (typed_covers (names_of_behaviors c.behaviors) c.covers) (λ u. Good (record c { clauses = clauses; behaviors = behaviors }))))
