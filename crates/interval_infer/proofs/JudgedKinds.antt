-- By the kind of an annotation: what is in sight has blocks where it is judged, and how it is typed.
use Rattle.std.proofs.Common.{◌≡◌, ◌⊎◌, inl, inr, ℕ, Bool, true, false, cond, List, [], ◌∷◌, Option, Some, None, refl, sym, ap, ◌∙◌, subst}
use Rattle.c_syntax.specs.declared.annotation.Kind.{Kind}
use Rattle.c_syntax.specs.declared.annotation.Kind.TheVariants as kind
use Rattle.c_syntax.specs.Logic as logic
use Rattle.c_syntax.specs.Logic.{ClauseBody, Predicate, Raw, Holds, Behaviors}
use Rattle.c_model.specs.AnnotationSights.{AnnotationSight}
use Rattle.c_model.specs.ExpressionTyping as entity
use Rattle.c_model.specs.ExpressionTyping.{Sight, Entity, AnObject, entity_named, or_else}
use Rattle.c_model.specs.Formed.{IsLoopKind}
use Rattle.c_model.specs.FormedContracts.{IsOwnKind, IsBehaviorKind, IsCoverKind, NamesBehaviors}
use Rattle.c_model.specs.JudgedStates.{Judgement}
use Rattle.c_model.specs.State.{Scope}
use Rattle.c_model.specs.TypedPredicates.{ClauseTyped, PredicateTyped}
use Rattle.interval_infer.specs.InSight.{EntityFound, AreFound, NamesFound, TypedBy, FoundBy, IsInSight}

-- what has a name among those that are found is found
pub found_named : (x : ℕ) (es : List Entity) (e : Entity) (scope : Scope) → AreFound es scope → entity_named x es ≡ Some e → EntityFound scope e
found_named x [] e scope h i = absurd cc
found_named x (d ∷ es) e scope h i = by (found_named x es) (entity_named x es) (entity.has_name x d) refl i
  where
    by : ((e : Entity) (scope : Scope) → AreFound es scope → entity_named x es ≡ Some e → EntityFound scope e) → (o : Option Entity) (b : Bool) → entity_named x es ≡ o → or_else o (cond b (Some d) None) ≡ Some e → EntityFound scope e
    by go (Some f) b eo j = let same : f ≡ e = cc in go e scope h.1 (eo ∙ ap Some same)
    by go None true eo j = let same : d ≡ e = cc in subst (EntityFound scope) same h.0
    by go None false eo j = absurd cc

pub names_found : (s : Sight) (scope : Scope) → AreFound s.entities scope → NamesFound s scope
names_found s scope h x b is = found_named x s.entities (AnObject b) scope h is

-- whatever is judged, each object that a name stands for has a block
names_found_by : (k : Kind) (s : Sight) (scope : Scope) → FoundBy k s scope → NamesFound s scope
names_found_by kind.Assert s scope h = names_found s scope h
names_found_by kind.Requires s scope h = h
names_found_by kind.Assumes s scope h = h
names_found_by kind.Ensures s scope h = h
names_found_by kind.Complete s scope h = h
names_found_by kind.Disjoint s scope h = h
names_found_by kind.Invariant s scope h = h
names_found_by kind.Variant s scope h = h
names_found_by kind.Rte s scope h = h

pub names_in_sight : (j : Judgement) (h : IsInSight j) → NamesFound h.sight.here j.state.scope
names_in_sight j h = names_found_by j.annotation.kind h.sight.here j.state.scope h.found

-- and a predicate is typed
typed_by : (k : Kind) (s : AnnotationSight) (p : Predicate) → TypedBy k s (Holds p) → PredicateTyped s p
typed_by kind.Assert s p h = h
typed_by kind.Requires s p h = h
typed_by kind.Assumes s p h = h
typed_by kind.Ensures s p h = h
typed_by kind.Complete s p h = absurd h
typed_by kind.Disjoint s p h = absurd h
typed_by kind.Invariant s p h = h
typed_by kind.Variant s p h = h
typed_by kind.Rte s p h = h

pub predicate_in_sight : (j : Judgement) (p : Predicate) (h : IsInSight j) → j.annotation.body ≡ Holds p → PredicateTyped h.sight p
predicate_in_sight j p h e = typed_by j.annotation.kind h.sight p (subst (TypedBy j.annotation.kind h.sight) e h.typed)

-- ---- clauses of contracts, by their kinds

abbrev pub IsClauseKind : Kind → Type 0
IsClauseKind kind.Assert = ⊥
IsClauseKind _ = Unit {0}

-- one that says something that is so
pub clause_typed : (k : Kind) (s : AnnotationSight) (b : ClauseBody) → IsBehaviorKind k → ClauseTyped s b → TypedBy k s b × IsClauseKind k
clause_typed kind.Assert s b i h = absurd i
clause_typed kind.Requires s b i h = (h, tt)
clause_typed kind.Assumes s b i h = (h, tt)
clause_typed kind.Ensures s b i h = (h, tt)
clause_typed kind.Complete s b i h = absurd i
clause_typed kind.Disjoint s b i h = absurd i
clause_typed kind.Invariant s b i h = absurd i
clause_typed kind.Variant s b i h = absurd i
clause_typed kind.Rte s b i h = absurd i

pub own_kind : (k : Kind) → IsOwnKind k → IsBehaviorKind k
own_kind kind.Assert i = absurd i
own_kind kind.Requires i = tt
own_kind kind.Assumes i = absurd i
own_kind kind.Ensures i = tt
own_kind kind.Complete i = absurd i
own_kind kind.Disjoint i = absurd i
own_kind kind.Invariant i = absurd i
own_kind kind.Variant i = absurd i
own_kind kind.Rte i = absurd i

-- one that names behaviors
pub cover_typed : (k : Kind) (s : AnnotationSight) (b : ClauseBody) → IsCoverKind k → NamesBehaviors b → TypedBy k s b × IsClauseKind k
cover_typed kind.Assert s b i h = absurd i
cover_typed kind.Requires s b i h = absurd i
cover_typed kind.Assumes s b i h = absurd i
cover_typed kind.Ensures s b i h = absurd i
cover_typed kind.Complete s b i h = (h, tt)
cover_typed kind.Disjoint s b i h = (h, tt)
cover_typed kind.Invariant s b i h = absurd i
cover_typed kind.Variant s b i h = absurd i
cover_typed kind.Rte s b i h = absurd i

pub clause_found : (k : Kind) (s : Sight) (scope : Scope) → IsClauseKind k → NamesFound s scope → FoundBy k s scope
clause_found kind.Assert s scope i h = absurd i
clause_found kind.Requires s scope i h = h
clause_found kind.Assumes s scope i h = h
clause_found kind.Ensures s scope i h = h
clause_found kind.Complete s scope i h = h
clause_found kind.Disjoint s scope i h = h
clause_found kind.Invariant s scope i h = h
clause_found kind.Variant s scope i h = h
clause_found kind.Rte s scope i h = h

-- ---- clauses of loops

pub loop_kind : (c : ClauseBody) (k : Kind) → IsLoopKind c k → (k ≡ kind.Invariant) ⊎ (k ≡ kind.Variant)
loop_kind (Raw f) k h = absurd h
loop_kind (Holds p) k h = inl h
loop_kind (logic.Value t) k h = inr h
loop_kind (Behaviors names) k h = absurd h

pub of_loop : (k : Kind) (s : AnnotationSight) (b : ClauseBody) (scope : Scope) → (k ≡ kind.Invariant) ⊎ (k ≡ kind.Variant) → ClauseTyped s b → AreFound s.here.entities scope → TypedBy k s b × FoundBy k s.here scope
of_loop k s b scope (inl e) h q = (subst (λ k. TypedBy k s b) (sym e) h, subst (λ k. FoundBy k s.here scope) (sym e) (names_found s.here scope q))
of_loop k s b scope (inr e) h q = (subst (λ k. TypedBy k s b) (sym e) h, subst (λ k. FoundBy k s.here scope) (sym e) (names_found s.here scope q))
