-- Annotations that are read are asserts, contracts, or clauses of a loop, of forms that are counted by no more tokens than they have.
use Rattle.std.proofs.Common.{◌≡◌, ℕ, ◌≤◌, List, [], ◌∷◌, ◌++◌, Option, Some, None, ◌⊎◌, inl, inr, refl, subst, arith}
use Rattle.grammar.specs.Syntax.{one}
use Rattle.grammar.proofs.Readings.{each_more, each_gives, each_one, each_then, each_choice, each_at_most, each_many}
use Rattle.c_syntax.specs.declared.annotation.Kind.{Kind}
use Rattle.c_syntax.specs.declared.annotation.Kind.TheVariants.{Assert, Requires, Assumes, Ensures, Complete, Disjoint, Invariant, Variant}
use Rattle.c_syntax.specs.Logic.{ClauseBody, Annotation}
use Rattle.c_syntax.specs.Programs.{NamedBehavior, FunctionContract}
use Rattle.c_syntax.specs.Tokens.{PlainTokenKind}
use Rattle.c_model.specs.declared.formulas.ClauseGroup.{ClauseGroup}
use Rattle.c_model.specs.declared.formulas.ClauseGroup.TheVariants as group
use Rattle.c_model.specs.declared.vocabulary.ClauseWord.{ClauseWord}
use Rattle.c_model.specs.declared.vocabulary.ClauseWord.TheVariants as clause
use Rattle.c_model.specs.Vocabulary.{Vocabulary}
use Rattle.c_model.specs.Punctuators.{colon, semicolon}
use Rattle.c_model.specs.ExpressionGrammar.{annot_open_kind, annot_close_kind, mark_kind}
use Rattle.c_model.specs.Terminals.{placed}
use Rattle.c_model.specs.ClauseGrammar.{LoopClauses, no_clauses, with_loop_clause, Assertions, Contracted, Looped, loop_kind, assigns_kind, first_own, assigns, full_assigns, looped, loop_assigns, loop_clause, full_loop_clause}
use Rattle.c_model.specs.ClauseGrammar.{next_loop_clause, more_loop_clauses, loop_clauses, next_own, more_owns, placed_own, ReadAnnotation, clause_word, kind_in, cover_kind, kind_among, fixed_word, clause_kind, first_in, first_cover}
use Rattle.c_model.specs.ClauseGrammar.{behavior_kind, behaviors_kind, form_clause, full_clause, next_clause, more_clauses, asserts, behavior, next_behavior, more_behaviors, behavior_names, cover_clause, full_cover, next_cover, more_covers}
use Rattle.c_model.specs.ClauseGrammar.{behaviors_and_covers, own_first, behavior_first, cover_first, contract, clauses, annotations}
use Rattle.c_model.specs.Formed.{IsShortReading, AreReadAsserts, AreReadLoopClauses}
use Rattle.c_model.specs.FormedContracts.{IsOwnKind, IsBehaviorKind, IsCoverKind, NamesBehaviors, IsClauseOf, AreClausesOf, BehaviorsFormed, ContractFormed}
use Rattle.c_reader.proofs.TokenForms.{Each, each_token, each_any, placed_is}
use Rattle.c_reader.proofs.ExpressionForms.{each_fixed}
use Rattle.c_reader.proofs.AnnotationForms.{form_each}

-- ---- clauses and contracts

abbrev IsLoopWord : Kind → Type 0
IsLoopWord k = (k ≡ Invariant) ⊎ (k ≡ Variant)

-- the kinds of clauses that stand in a group
abbrev IsKindIn : ClauseGroup → Kind → Type 0
IsKindIn group.Asserts k = k ≡ Assert
IsKindIn group.Contract k = IsOwnKind k
IsKindIn group.Behavior k = IsBehaviorKind k
IsKindIn group.Loop k = IsLoopWord k

abbrev IsClauseIn : ClauseGroup → Annotation → Type 0
IsClauseIn g a = IsClauseOf (IsKindIn g) IsShortReading a

abbrev AreClausesIn : ClauseGroup → List Annotation → Type 0
AreClausesIn g xs = AreClausesOf (IsKindIn g) IsShortReading xs

abbrev IsCover : Annotation → Type 0
IsCover a = IsClauseOf IsCoverKind NamesBehaviors a

abbrev IsContract : FunctionContract → Type 0
IsContract c = ContractFormed IsShortReading c

-- asserts, a contract, or clauses of a loop
abbrev pub IsReadAnnotation : ReadAnnotation → Type 0
IsReadAnnotation (Assertions asserts) = AreReadAsserts asserts
IsReadAnnotation (Contracted c) = ContractFormed IsShortReading c
IsReadAnnotation (Looped l) = AreReadLoopClauses l.clauses

of_kind : (P : Kind → Type 0) (j k : Kind) → Some j ≡ Some k → P j → P k
of_kind P j k e p = let same : j ≡ k = cc in subst P same p

kind_is_in : (g : ClauseGroup) (w : ClauseWord) (k : Kind) → kind_in g w ≡ Some k → IsKindIn g k
kind_is_in group.Asserts clause.Assert k e = of_kind (λ (j : Kind). j ≡ Assert) Assert k e refl
kind_is_in group.Contract clause.Requires k e = of_kind IsOwnKind Requires k e tt
kind_is_in group.Contract clause.Ensures k e = of_kind IsOwnKind Ensures k e tt
kind_is_in group.Behavior clause.Requires k e = of_kind IsBehaviorKind Requires k e tt
kind_is_in group.Behavior clause.Assumes k e = of_kind IsBehaviorKind Assumes k e tt
kind_is_in group.Behavior clause.Ensures k e = of_kind IsBehaviorKind Ensures k e tt
kind_is_in group.Loop clause.Invariant k e = of_kind IsLoopWord Invariant k e (inl refl)
kind_is_in group.Loop clause.Variant k e = of_kind IsLoopWord Variant k e (inr refl)
kind_is_in _ _ k e = absurd cc

kind_is_cover : (w : ClauseWord) (k : Kind) → cover_kind w ≡ Some k → IsCoverKind k
kind_is_cover clause.Complete k e = of_kind IsCoverKind Complete k e tt
kind_is_cover clause.Disjoint k e = of_kind IsCoverKind Disjoint k e tt
kind_is_cover _ k e = absurd cc

one_more : (IsKind : Kind → Type 0) (IsSo : ClauseBody → Type 0) (xs : List Annotation) (a : Annotation) → AreClausesOf IsKind IsSo xs → IsClauseOf IsKind IsSo a → AreClausesOf IsKind IsSo (xs ++ a ∷ [])
one_more IsKind IsSo [] a h p = (p, tt)
one_more IsKind IsSo (x ∷ xs) a h p = (h.0, one_more IsKind IsSo xs a h.1 p)

-- a clause of a loop, where it isn't passed over
abbrev MaybeLoopClause : Option Annotation → Type 0
MaybeLoopClause None = Unit {0}
MaybeLoopClause (Some a) = IsClauseOf IsLoopWord IsShortReading a

are_loop_clauses : (xs : List Annotation) → AreClausesIn group.Loop xs → AreReadLoopClauses xs
are_loop_clauses [] h = tt
are_loop_clauses (x ∷ xs) h = (record { kind = h.0.kind; body = h.0.body }, are_loop_clauses xs h.1)

are_asserts : (xs : List Annotation) → AreClausesIn group.Asserts xs → AreReadAsserts xs
are_asserts [] h = tt
are_asserts (x ∷ xs) h = (record { kind = h.0.kind; body = h.0.body }, are_asserts xs h.1)

one_behavior_more : (bs : List NamedBehavior) (b : NamedBehavior) → BehaviorsFormed IsShortReading bs → AreClausesOf IsBehaviorKind IsShortReading b.clauses → BehaviorsFormed IsShortReading (bs ++ b ∷ [])
one_behavior_more [] b h p = (p, tt)
one_behavior_more (c ∷ bs) b h p = (h.0, one_behavior_more bs b h.1 p)

module _ (size : ℕ) (ws : Vocabulary) where
  -- ---- clauses that say a form

  -- the first word of a clause is of a kind that stands there
  kind_is : (kinds : ClauseWord → Option Kind) (P : Kind → Type 0) → ((w : ClauseWord) (k : Kind) → kinds w ≡ Some k → P k) → (t : PlainTokenKind) (k : Kind) → kind_among ws kinds t ≡ Some k → P k
  kind_is kinds P h t k e = by (clause_word ws t) e
    where
      by : (o : Option ClauseWord) → elim o [ Some c ↦ kinds c | None ↦ None ] ≡ Some k → P k
      by (Some c) e = h c k e
      by None e = absurd cc

  kind_each : (kinds : ClauseWord → Option Kind) (P : Kind → Type 0) → ((w : ClauseWord) (k : Kind) → kinds w ≡ Some k → P k) → Each size (one (placed (kind_among ws kinds))) (λ k x. P x.0)
  kind_each kinds P h = each_one _ (λ t x _ e. kind_is kinds P h t.kind x.0 (placed_is (kind_among ws kinds) t x e))

  clause_each : (g : ClauseGroup) (n : ℕ) → Each size (form_clause ws g n) (λ k a. k ≤ 400 → IsClauseIn g a)
  unfolding form_clause
  clause_each g n =
      each_then (kind_each (kind_in g) (IsKindIn g) (kind_is_in g)) (λ i w p. each_then (form_each size ws) (λ j f q. each_then (each_fixed size ws (mark_kind semicolon)) (λ k _ _.
      each_gives _ (λ le. record { kind = p; body = record { numbered = q.is; short = omega (arith, q.few, le) } }))))

  full_clause_each : (g : ClauseGroup) (n : ℕ) → Each size (full_clause ws g n) (λ k a. IsClauseIn g a)
  unfolding full_clause
  full_clause_each g n = each_more (λ k a p. p.0 p.1) (each_at_most (clause_each g n))

  next_each : (g : ClauseGroup) (x : List Annotation × ℕ) → AreClausesIn g x.0 → Each size (next_clause ws g x) (λ k y. AreClausesIn g y.0)
  unfolding next_clause
  next_each g x h = each_then (full_clause_each g x.1) (λ k a p. each_gives _ (one_more (IsKindIn g) IsShortReading x.0 a h p))

  more_clauses_each : (g : ClauseGroup) (x : List Annotation × ℕ) → AreClausesIn g x.0 → Each size (more_clauses ws g x) (λ k y. AreClausesIn g y.0)
  unfolding more_clauses
  more_clauses_each g x h = each_many (clause_kind ws) (λ _. first_in g) {P = λ k y. AreClausesIn g y.0} (λ i y q. next_each g y q) 0 x h

  asserts_each : (n : ℕ) → Each size (asserts ws n) (λ k x. AreReadAsserts x.0)
  unfolding asserts
  asserts_each n = each_then (next_each group.Asserts ([], n) tt) (λ k x p. each_more (λ l y q. are_asserts y.0 q) (more_clauses_each group.Asserts x p))

  -- ---- what is passed over, and clauses of loops

  loop_clause_each : (n : ℕ) → Each size (loop_clause ws n) (λ k c. k ≤ 400 → MaybeLoopClause c.1)
  unfolding loop_clause loop_assigns looped
  loop_clause_each n = each_then (each_any (fixed_word ws loop_kind)) (λ i at _. each_choice (clause_kind ws) (assigns_kind ∷ []) (each_then (each_any (assigns ws)) (λ j _ _. each_gives _ (λ le. tt)))
      (each_then (clause_each group.Loop n) (λ j a p. each_gives _ (λ le. let q = p (omega (arith, le)) in record { kind = q.kind; body = q.body }))))

  full_loop_clause_each : (n : ℕ) → Each size (full_loop_clause ws n) (λ k c. MaybeLoopClause c.1)
  unfolding full_loop_clause
  full_loop_clause_each n = each_more (λ k c p. p.0 p.1) (each_at_most (loop_clause_each n))

  with_clause : (x : LoopClauses × ℕ) (c : Option Annotation) → AreClausesIn group.Loop x.0.clauses → MaybeLoopClause c → AreClausesIn group.Loop (with_loop_clause x c).0.clauses
  with_clause x None h p = h
  with_clause x (Some a) h p = one_more IsLoopWord IsShortReading x.0.clauses a h p

  next_loop_each : (x : LoopClauses × ℕ) → AreClausesIn group.Loop x.0.clauses → Each size (next_loop_clause ws x) (λ k y. AreClausesIn group.Loop y.0.clauses)
  unfolding next_loop_clause
  next_loop_each x h = each_then (full_loop_clause_each x.1) (λ k c p. each_gives _ (with_clause x c.1 h p))

  loop_clauses_each : (n : ℕ) → Each size (loop_clauses ws n) (λ k x. AreReadLoopClauses x.0.clauses)
  unfolding loop_clauses more_loop_clauses
  loop_clauses_each n = each_then (full_loop_clause_each n) (λ k c p. each_more (λ l y q. are_loop_clauses y.0.clauses q)
      (each_many (clause_kind ws) (λ _. loop_kind ∷ []) {P = λ k y. AreClausesIn group.Loop y.0.clauses} (λ i y q. next_loop_each y q) 0 (with_loop_clause (no_clauses c.0, n) c.1) (with_clause (no_clauses c.0, n) c.1 tt p)))

  -- ---- clauses of contracts and of behaviors

  next_own_each : (g : ClauseGroup) (x : List Annotation × ℕ) → AreClausesIn g x.0 → Each size (next_own ws g x) (λ k y. AreClausesIn g y.0)
  unfolding next_own
  next_own_each g x h = each_choice (clause_kind ws) (assigns_kind ∷ []) (each_then (each_any (full_assigns ws)) (λ k _ _. each_gives _ h)) (next_each g x h)

  more_owns_each : (g : ClauseGroup) (x : List Annotation × ℕ) → AreClausesIn g x.0 → Each size (more_owns ws g x) (λ k y. AreClausesIn g y.0)
  unfolding more_owns
  more_owns_each g x h = each_many (clause_kind ws) (λ _. first_own g) {P = λ k y. AreClausesIn g y.0} (λ i y q. next_own_each g y q) 0 x h

  placed_own_each : (n : ℕ) → Each size (placed_own ws n) (λ k x. AreClausesIn group.Contract x.1.0)
  unfolding placed_own
  placed_own_each n = each_choice (clause_kind ws) (assigns_kind ∷ []) (each_then (each_any (full_assigns ws)) (λ k _ _. each_gives _ tt)) (each_then (full_clause_each group.Contract n) (λ k a p. each_gives _ (p, tt)))

  -- ---- contracts

  behavior_each : (n : ℕ) → Each size (behavior ws n) (λ k x. AreClausesOf IsBehaviorKind IsShortReading x.1.clauses)
  unfolding behavior
  behavior_each n =
      each_then (each_any (fixed_word ws behavior_kind)) (λ i at _. each_then (each_token _) (λ j x _. each_then (each_fixed size ws (mark_kind colon)) (λ k _ _.
      each_then (more_owns_each group.Behavior ([], n) tt) (λ l c p. each_gives _ p))))

  next_behavior_each : (x : FunctionContract × ℕ) → IsContract x.0 → Each size (next_behavior ws x) (λ k y. IsContract y.0)
  unfolding next_behavior
  next_behavior_each x h =
      each_then (behavior_each x.1) (λ k b p. each_gives _ (record { clauses = h.clauses; behaviors = one_behavior_more x.0.behaviors b.1 h.behaviors p; covers = h.covers }))

  more_behaviors_each : (x : FunctionContract × ℕ) → IsContract x.0 → Each size (more_behaviors ws x) (λ k y. IsContract y.0)
  unfolding more_behaviors
  more_behaviors_each x h = each_many (clause_kind ws) (λ _. behavior_kind ∷ []) {P = λ k y. IsContract y.0} (λ i y q. next_behavior_each y q) 0 x h

  cover_each : (n : ℕ) → Each size (cover_clause ws n) (λ k a. IsCover a)
  unfolding cover_clause
  cover_each n =
      each_then (kind_each cover_kind IsCoverKind kind_is_cover) (λ i w p. each_then (each_any (fixed_word ws behaviors_kind)) (λ j _ _. each_then (each_any (behavior_names ws)) (λ k names _.
      each_then (each_fixed size ws (mark_kind semicolon)) (λ l _ _. each_gives _ (record { kind = p; body = tt })))))

  full_cover_each : (n : ℕ) → Each size (full_cover ws n) (λ k a. IsCover a)
  unfolding full_cover
  full_cover_each n = each_more (λ k a p. p.0) (each_at_most (cover_each n))

  next_cover_each : (x : FunctionContract × ℕ) → IsContract x.0 → Each size (next_cover ws x) (λ k y. IsContract y.0)
  unfolding next_cover
  next_cover_each x h =
      each_then (full_cover_each x.1) (λ k a p. each_gives _ (record { clauses = h.clauses; behaviors = h.behaviors; covers = one_more IsCoverKind NamesBehaviors x.0.covers a h.covers p }))

  more_covers_each : (x : FunctionContract × ℕ) → IsContract x.0 → Each size (more_covers ws x) (λ k y. IsContract y.0)
  unfolding more_covers
  more_covers_each x h = each_many (clause_kind ws) (λ _. first_cover) {P = λ k y. IsContract y.0} (λ i y q. next_cover_each y q) 0 x h

  behind_own_each : (x : FunctionContract × ℕ) → IsContract x.0 → Each size (behaviors_and_covers ws x) (λ k y. IsContract y.0)
  unfolding behaviors_and_covers
  behind_own_each x h = each_then (more_behaviors_each x h) (λ k y p. more_covers_each y p)

  own_first_each : (n : ℕ) → Each size (own_first ws n) (λ k x. IsContract x.0)
  unfolding own_first
  own_first_each n = each_then (placed_own_each n) (λ i a p. each_then (more_owns_each group.Contract a.1 p) (λ j x q.
      behind_own_each _ (record { clauses = q; behaviors = tt; covers = tt })))

  behavior_first_each : (n : ℕ) → Each size (behavior_first ws n) (λ k x. IsContract x.0)
  unfolding behavior_first
  behavior_first_each n = each_then (behavior_each n) (λ i b p. behind_own_each _ (record { clauses = tt; behaviors = (p, tt); covers = tt }))

  cover_first_each : (n : ℕ) → Each size (cover_first ws n) (λ k x. IsContract x.0)
  unfolding cover_first
  cover_first_each n = each_then (full_cover_each n) (λ i a p. more_covers_each _ (record { clauses = tt; behaviors = tt; covers = (p, tt) }))

  contract_each : (n : ℕ) → Each size (contract ws n) (λ k x. IsContract x.0)
  unfolding contract
  contract_each n = each_choice (clause_kind ws) (first_own group.Contract) (own_first_each n) (each_choice (clause_kind ws) (behavior_kind ∷ []) (behavior_first_each n) (cover_first_each n))

  -- ---- annotations

  clauses_each : (n : ℕ) → Each size (clauses ws n) (λ k x. IsReadAnnotation x.0)
  unfolding clauses
  clauses_each n =
      each_choice (clause_kind ws) (first_in group.Asserts) (each_then (asserts_each n) (λ k x p. each_gives _ p))
      (each_choice (clause_kind ws) (loop_kind ∷ []) (each_then (loop_clauses_each n) (λ k x p. each_gives _ p)) (each_then (contract_each n) (λ k x p. each_gives _ p)))

  pub annotations_each : (n : ℕ) → Each size (annotations ws n) (λ k x. IsReadAnnotation x.0)
  unfolding annotations
  annotations_each n = each_then (each_fixed size ws annot_open_kind) (λ i _ _. each_then (clauses_each n) (λ j x p. each_then (each_fixed size ws annot_close_kind) (λ k _ _. each_gives x p)))
