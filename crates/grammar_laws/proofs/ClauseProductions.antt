-- The productions of clauses, contracts and annotations are those of the head of their grammar.
use Rattle.std.proofs.Common.{ℕ, ◌+◌, List, [], ◌∷◌, Option, Some, None, refl}
use Rattle.grammar.specs.Syntax.{Syntax, gives, one, ◌then◌}
use Rattle.grammar.specs.Exact.{Same}
use Rattle.grammar.proofs.Forms.{to_left}
use Rattle.grammar_laws.specs.Plain.{◌or◌, repeated}
use Rattle.grammar_laws.proofs.Inclusions.{Within, both, forth, back, itself, ◌so◌, either, first, second, each, on, in_turn, handed, handed_back, turns, capped_within}
use Rattle.c_syntax.specs.declared.place.Place.{Place}
use Rattle.c_syntax.specs.Logic.{Raw, Annotation}
use Rattle.c_syntax.specs.Programs.{FunctionContract}
use Rattle.c_syntax.specs.Tokens.{PlainToken}
use Rattle.c_model.specs.declared.formulas.ClauseGroup.{ClauseGroup}
use Rattle.c_model.specs.declared.formulas.ClauseGroup.TheVariants as group
use Rattle.c_model.specs.Vocabulary.{Vocabulary}
use Rattle.c_model.specs.Punctuators.{colon, semicolon, comma}
use Rattle.c_model.specs.Terminals.{placed, expression_limit}
use Rattle.c_model.specs.ExpressionGrammar.{name_kind, annot_open_kind, mark_kind, most_in_expression, fixed, mark}
use Rattle.c_model.specs.AnnotationGrammar.{formula_name_of, formula_kind, some_names, next_name, placed_name, form}
use Rattle.c_model.specs.ClauseGrammar as parsed
use Rattle.c_model.specs.ClauseGrammar.{clause_kind, cover_kind, kind_in, kind_among, fixed_word, behavior_kind, behaviors_kind, loop_kind, assigns_kind, first_in, first_own, first_cover, clause_with, contract_with}
use Rattle.c_model.specs.ClauseGrammar.{passed, passed_kind, LoopClauses, no_clauses, with_loop_clause, ReadAnnotation, Assertions, Looped}
use Rattle.grammar_laws.specs.ClauseProductions as production

-- a kind that nothing asks for
abbrev no : PlainToken → ℕ
no t = 0

module _ (ws : Vocabulary) where
  -- ---- repetitions

  more_line : (g : ClauseGroup) (x : List Annotation × ℕ) → Same (parsed.more_clauses ws g x) (repeated (production.one_clause ws g) x)
  unfolding parsed.more_clauses parsed.next_clause
  more_line g x =
      both (turns (clause_kind ws) (λ _. first_in g) no (λ _. []) (λ y. itself (production.one_clause ws g y)) x) (turns no (λ _. []) (clause_kind ws) (λ _. first_in g) (λ y. itself (production.one_clause ws g y)) x)

  owns_forth : (g : ClauseGroup) (y : List Annotation × ℕ) → Within (parsed.next_own ws g y) (production.one_own ws g y)
  unfolding parsed.next_own parsed.next_clause
  owns_forth g y = each (clause_kind ws) (assigns_kind ∷ []) no [] (itself _) (itself _)

  owns_back : (g : ClauseGroup) (y : List Annotation × ℕ) → Within (production.one_own ws g y) (parsed.next_own ws g y)
  unfolding parsed.next_own parsed.next_clause
  owns_back g y = each no [] (clause_kind ws) (assigns_kind ∷ []) (itself _) (itself _)

  owns_line : (g : ClauseGroup) (x : List Annotation × ℕ) → Same (parsed.more_owns ws g x) (repeated (production.one_own ws g) x)
  unfolding parsed.more_owns
  owns_line g x = both (turns (clause_kind ws) (λ _. first_own g) no (λ _. []) (owns_forth g) x) (turns no (λ _. []) (clause_kind ws) (λ _. first_own g) (owns_back g) x)

  loops_line : (x : LoopClauses × ℕ) → Same (parsed.more_loop_clauses ws x) (repeated (production.one_loop ws) x)
  unfolding parsed.more_loop_clauses parsed.next_loop_clause
  loops_line x =
      both (turns (clause_kind ws) (λ _. loop_kind ∷ []) no (λ _. []) (λ y. itself (production.one_loop ws y)) x) (turns no (λ _. []) (clause_kind ws) (λ _. loop_kind ∷ []) (λ y. itself (production.one_loop ws y)) x)

  behaviors_line : (x : FunctionContract × ℕ) → Same (parsed.more_behaviors ws x) (repeated (production.one_behavior ws) x)
  unfolding parsed.more_behaviors parsed.next_behavior
  behaviors_line x =
      both (turns (clause_kind ws) (λ _. behavior_kind ∷ []) no (λ _. []) (λ y. itself (production.one_behavior ws y)) x)
      (turns no (λ _. []) (clause_kind ws) (λ _. behavior_kind ∷ []) (λ y. itself (production.one_behavior ws y)) x)

  covers_line : (x : FunctionContract × ℕ) → Same (parsed.more_covers ws x) (repeated (production.one_cover ws) x)
  unfolding parsed.more_covers parsed.next_cover
  covers_line x =
      both (turns (clause_kind ws) (λ _. first_cover) no (λ _. []) (λ y. itself (production.one_cover ws y)) x) (turns no (λ _. []) (clause_kind ws) (λ _. first_cover) (λ y. itself (production.one_cover ws y)) x)

  behind_line : (x : FunctionContract × ℕ) → Same (parsed.behaviors_and_covers ws x) (production.behind_own ws x)
  unfolding parsed.behaviors_and_covers
  behind_line x = both (in_turn (forth (behaviors_line x)) (λ y. forth (covers_line y))) (in_turn (back (behaviors_line x)) (λ y. back (covers_line y)))

  -- ---- clauses

  pub clause_line : (g : ClauseGroup) (n : ℕ) → Same (parsed.full_clause ws g n) (production.clause ws g n)
  unfolding parsed.full_clause parsed.form_clause
  clause_line g n = both (itself _) (itself _)

  -- ---- what is passed over, and clauses of loops

  passed_forth : Within (parsed.assigns ws) (production.passed_over ws)
  unfolding parsed.assigns
  passed_forth = on (fixed_word ws assigns_kind) (λ at. in_turn (turns passed_kind (λ _. 1 ∷ []) no (λ _. []) (λ y. itself (one passed)) (tt {0})) (λ _. itself _))

  passed_back : Within (production.passed_over ws) (parsed.assigns ws)
  unfolding parsed.assigns
  passed_back = on (fixed_word ws assigns_kind) (λ at. in_turn (turns no (λ _. []) passed_kind (λ _. 1 ∷ []) (λ y. itself (one passed)) (tt {0})) (λ _. itself _))

  pub assigns_line : Same (parsed.full_assigns ws) (production.assigns ws)
  unfolding parsed.full_assigns
  assigns_line = both (capped_within expression_limit most_in_expression passed_forth) (capped_within expression_limit most_in_expression passed_back)

  -- a clause with the place of the word `loop` before it
  abbrev at_loop : Place → Annotation → Syntax PlainToken (Place × Option Annotation)
  at_loop at a = gives (at, Some (record a { place = at }))

  abbrev Said : ℕ → Place → Syntax PlainToken (Place × Option Annotation)
  Said n at = one (placed (kind_among ws (kind_in group.Loop))) then λ k. form ws then λ f. mark ws semicolon then λ _. gives (at, Some (clause_with n k.0 at (Raw f)))

  said_forth : (n : ℕ) (at : Place) → Within (parsed.looped ws at n) (Said n at)
  unfolding parsed.looped parsed.form_clause
  said_forth n at =
      back (to_left (one (placed (kind_among ws (kind_in group.Loop)))) (λ k. form ws then λ f. mark ws semicolon then λ _. gives (clause_with n k.0 k.1 (Raw f))) (at_loop at))
      so on (one (placed (kind_among ws (kind_in group.Loop)))) (λ k. back (to_left (form ws) (λ f. mark ws semicolon then λ _. gives (clause_with n k.0 k.1 (Raw f))) (at_loop at))
      so on (form ws) (λ f. handed_back (mark ws semicolon) (λ _. clause_with n k.0 k.1 (Raw f)) (at_loop at) (λ _. refl)))

  said_back : (n : ℕ) (at : Place) → Within (Said n at) (parsed.looped ws at n)
  unfolding parsed.looped parsed.form_clause
  said_back n at =
      on (one (placed (kind_among ws (kind_in group.Loop)))) (λ k. on (form ws) (λ f. handed (mark ws semicolon) (λ _. clause_with n k.0 k.1 (Raw f)) (at_loop at))
      so forth (to_left (form ws) (λ f. mark ws semicolon then λ _. gives (clause_with n k.0 k.1 (Raw f))) (at_loop at)))
      so forth (to_left (one (placed (kind_among ws (kind_in group.Loop)))) (λ k. form ws then λ f. mark ws semicolon then λ _. gives (clause_with n k.0 k.1 (Raw f))) (at_loop at))

  pub loop_line : (n : ℕ) → Same (parsed.full_loop_clause ws n) (production.loop ws n)
  unfolding parsed.full_loop_clause parsed.loop_clause parsed.loop_assigns
  loop_line n =
      both
      (capped_within expression_limit most_in_expression (on (fixed_word ws loop_kind) (λ at. either (clause_kind ws) (assigns_kind ∷ []) (second no [] _ (in_turn passed_forth (λ _. itself _))) (first no [] _ (said_forth n at)))))
      (capped_within expression_limit most_in_expression (on (fixed_word ws loop_kind) (λ at. either no [] (second (clause_kind ws) (assigns_kind ∷ []) _ (said_back n at))
      (first (clause_kind ws) (assigns_kind ∷ []) _ (in_turn passed_back (λ _. itself _))))))

  pub behavior_line : (n : ℕ) → Same (parsed.behavior ws n) (production.behavior ws n)
  unfolding parsed.behavior
  behavior_line n =
      both (on (fixed_word ws behavior_kind) (λ at. on (one (placed (formula_name_of ws))) (λ x. on (mark ws colon) (λ _. in_turn (forth (owns_line group.Behavior ([], n))) (λ c. itself _)))))
      (on (fixed_word ws behavior_kind) (λ at. on (one (placed (formula_name_of ws))) (λ x. on (mark ws colon) (λ _. in_turn (back (owns_line group.Behavior ([], n))) (λ c. itself _)))))

  -- the name of a behavior, and one behind others
  abbrev name : Syntax PlainToken (Place × ℕ)
  name = one (placed (formula_name_of ws)) then λ x. gives (x.1, x.0)

  pub cover_line : (n : ℕ) → Same (parsed.full_cover ws n) (production.cover ws n)
  unfolding parsed.full_cover parsed.cover_clause parsed.behavior_names some_names next_name placed_name
  cover_line n =
      both
      (capped_within expression_limit most_in_expression (on (one (placed (kind_among ws cover_kind))) (λ k. on (fixed_word ws behaviors_kind) (λ _.
      in_turn (each (formula_kind ws) (name_kind ∷ []) no [] (on name (λ x. turns (formula_kind ws) (λ _. mark_kind comma ∷ []) no (λ _. []) (λ y. itself _) (x ∷ []))) (itself _)) (λ names. itself _)))))
      (capped_within expression_limit most_in_expression (on (one (placed (kind_among ws cover_kind))) (λ k. on (fixed_word ws behaviors_kind) (λ _.
      in_turn (each no [] (formula_kind ws) (name_kind ∷ []) (on name (λ x. turns no (λ _. []) (formula_kind ws) (λ _. mark_kind comma ∷ []) (λ y. itself _) (x ∷ []))) (itself _)) (λ names. itself _)))))

  -- ---- contracts

  -- the first of its own clauses
  abbrev Own : ℕ → Syntax PlainToken (Place × (List Annotation × ℕ))
  Own n =
      (parsed.full_assigns ws then λ at. gives (at, ([], n)))
      or (parsed.full_clause ws group.Contract n then λ a. gives (a.place, (a ∷ [], n + 1)))

  own_forth : (n : ℕ) → Within (parsed.own_first ws n) (Own n then λ a. repeated (production.one_own ws group.Contract) a.1 then λ x. production.behind_own ws (contract_with a.0 x.0, x.1))
  unfolding parsed.own_first parsed.placed_own
  own_forth n = in_turn (each (clause_kind ws) (assigns_kind ∷ []) no [] (itself _) (itself _)) (λ a. in_turn (forth (owns_line group.Contract a.1)) (λ x. forth (behind_line _)))

  own_back : (n : ℕ) → Within (Own n then λ a. repeated (production.one_own ws group.Contract) a.1 then λ x. production.behind_own ws (contract_with a.0 x.0, x.1)) (parsed.own_first ws n)
  unfolding parsed.own_first parsed.placed_own
  own_back n = in_turn (each no [] (clause_kind ws) (assigns_kind ∷ []) (itself _) (itself _)) (λ a. in_turn (back (owns_line group.Contract a.1)) (λ x. back (behind_line _)))

  pub contract_line : (n : ℕ) → Same (parsed.contract ws n) (production.contract ws n)
  unfolding parsed.contract parsed.behavior_first parsed.cover_first
  contract_line n =
      both
      (each (clause_kind ws) (first_own group.Contract) no [] (own_forth n)
      (each (clause_kind ws) (behavior_kind ∷ []) no [] (on (parsed.behavior ws n) (λ b. forth (behind_line _))) (on (parsed.full_cover ws n) (λ a. forth (covers_line _)))))
      (each no [] (clause_kind ws) (first_own group.Contract) (own_back n)
      (each no [] (clause_kind ws) (behavior_kind ∷ []) (on (parsed.behavior ws n) (λ b. back (behind_line _))) (on (parsed.full_cover ws n) (λ a. back (covers_line _)))))

  -- ---- annotations

  abbrev One : ℕ → Syntax PlainToken (List Annotation × ℕ)
  One n = production.one_clause ws group.Asserts ([], n)

  abbrev more : List Annotation × ℕ → Syntax PlainToken (List Annotation × ℕ)
  more x = parsed.more_clauses ws group.Asserts x

  abbrev alone : List Annotation × ℕ → Syntax PlainToken (ReadAnnotation × ℕ)
  alone x = gives (Assertions x.0, x.1)

  asserts_forth : (n : ℕ) → Within (parsed.asserts ws n then alone) (One n then λ x. repeated (production.one_clause ws group.Asserts) x then alone)
  unfolding parsed.asserts parsed.next_clause
  asserts_forth n = back (to_left (One n) more alone) so on (One n) (λ x. in_turn (forth (more_line group.Asserts x)) (λ y. itself (alone y)))

  asserts_back : (n : ℕ) → Within (One n then λ x. repeated (production.one_clause ws group.Asserts) x then alone) (parsed.asserts ws n then alone)
  unfolding parsed.asserts parsed.next_clause
  asserts_back n = on (One n) (λ x. in_turn (back (more_line group.Asserts x)) (λ y. itself (alone y))) so forth (to_left (One n) more alone)

  -- the clauses of a loop, alone
  abbrev as_loop : LoopClauses × ℕ → Syntax PlainToken (ReadAnnotation × ℕ)
  as_loop x = gives (Looped x.0, x.1)

  abbrev more_loops : ℕ → Place × Option Annotation → Syntax PlainToken (LoopClauses × ℕ)
  more_loops n c = parsed.more_loop_clauses ws (with_loop_clause (no_clauses c.0, n) c.1)

  loops_forth : (n : ℕ)
      → Within (parsed.loop_clauses ws n then as_loop) (parsed.full_loop_clause ws n then λ c. repeated (production.one_loop ws) (with_loop_clause (no_clauses c.0, n) c.1) then as_loop)
  unfolding parsed.loop_clauses
  loops_forth n =
      back (to_left (parsed.full_loop_clause ws n) (more_loops n) as_loop)
      so on (parsed.full_loop_clause ws n) (λ c. in_turn (forth (loops_line (with_loop_clause (no_clauses c.0, n) c.1))) (λ x. itself (as_loop x)))

  loops_back : (n : ℕ)
      → Within (parsed.full_loop_clause ws n then λ c. repeated (production.one_loop ws) (with_loop_clause (no_clauses c.0, n) c.1) then as_loop) (parsed.loop_clauses ws n then as_loop)
  unfolding parsed.loop_clauses
  loops_back n =
      on (parsed.full_loop_clause ws n) (λ c. in_turn (back (loops_line (with_loop_clause (no_clauses c.0, n) c.1))) (λ x. itself (as_loop x)))
      so forth (to_left (parsed.full_loop_clause ws n) (more_loops n) as_loop)

  pub annotation_line : (n : ℕ) → Same (parsed.annotations ws n) (production.annotation ws n)
  unfolding parsed.annotations parsed.clauses
  annotation_line n =
      both
      (on (fixed ws annot_open_kind) (λ _. in_turn (each (clause_kind ws) (first_in group.Asserts) no [] (asserts_forth n) (each (clause_kind ws) (loop_kind ∷ []) no [] (loops_forth n) (itself _))) (λ x. itself _)))
      (on (fixed ws annot_open_kind) (λ _. in_turn (each no [] (clause_kind ws) (first_in group.Asserts) (asserts_back n) (each no [] (clause_kind ws) (loop_kind ∷ []) (loops_back n) (itself _))) (λ x. itself _)))
