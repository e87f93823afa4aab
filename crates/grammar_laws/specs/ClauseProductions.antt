-- The productions of clauses as the head of c_model/specs/ClauseGrammar has them (ACSL 2.3, 2.4), in its order. What a production is made
-- of are the values that are parsed.
use Rattle.std.specs.Prelude.{ℕ, ◌+◌, List, [], ◌∷◌, ◌++◌, Option, Some, None}
use Rattle.grammar.specs.Syntax.{Syntax, gives, one, ◌then◌, at_most}
use Rattle.grammar_laws.specs.Plain.{◌or◌, repeated}
use Rattle.c_syntax.specs.declared.place.Place.{Place}
use Rattle.c_syntax.specs.Logic.{Raw, Behaviors, Annotation}
use Rattle.c_syntax.specs.Programs.{NamedBehavior, FunctionContract}
use Rattle.c_syntax.specs.Tokens.{PlainToken}
use Rattle.c_model.specs.declared.formulas.ClauseGroup.{ClauseGroup}
use Rattle.c_model.specs.declared.formulas.ClauseGroup.TheVariants as group
use Rattle.c_model.specs.Vocabulary.{Vocabulary}
use Rattle.c_model.specs.Punctuators.{colon, semicolon, comma}
use Rattle.c_model.specs.Terminals.{placed, expression_limit}
use Rattle.c_model.specs.ExpressionGrammar.{annot_open_kind, annot_close_kind, most_in_expression, fixed, mark}
use Rattle.c_model.specs.AnnotationGrammar.{formula_name_of, form}
use Rattle.c_model.specs.ClauseGrammar as parsed
use Rattle.c_model.specs.ClauseGrammar.{kind_in, cover_kind, kind_among, fixed_word, behavior_kind, behaviors_kind, loop_kind, assigns_kind}
use Rattle.c_model.specs.ClauseGrammar.{clause_with, behavior_with}
use Rattle.c_model.specs.ClauseGrammar.{contract_with, with_behavior, with_cover, LoopClauses, no_clauses, with_loop_clause, passed, ReadAnnotation}
use Rattle.c_model.specs.ClauseGrammar.{Assertions, Contracted, Looped}

module _ (ws : Vocabulary) where
  -- a clause after others, with the number of the next one
  abbrev pub one_clause : ClauseGroup → List Annotation × ℕ → Syntax PlainToken (List Annotation × ℕ)
  one_clause g x = parsed.full_clause ws g x.1 then λ a. gives (x.0 ++ a ∷ [], x.1 + 1)

  -- a behavior, and a clause that names behaviors, after what is read of a contract
  abbrev pub one_behavior : FunctionContract × ℕ → Syntax PlainToken (FunctionContract × ℕ)
  one_behavior x = parsed.behavior ws x.1 then λ b. gives (with_behavior x.0 b.1, b.2)

  abbrev pub one_cover : FunctionContract × ℕ → Syntax PlainToken (FunctionContract × ℕ)
  one_cover x = parsed.full_cover ws x.1 then λ a. gives (with_cover x.0 a, x.1 + 1)

  -- { behavior } { cover }
  abbrev pub behind_own : FunctionContract × ℕ → Syntax PlainToken (FunctionContract × ℕ)
  behind_own x = repeated one_behavior x then λ y. repeated one_cover y

  -- a clause of a contract or of a behavior after others, or what is passed over; and a clause of a loop
  abbrev pub one_own : ClauseGroup → List Annotation × ℕ → Syntax PlainToken (List Annotation × ℕ)
  one_own g x = (parsed.full_assigns ws then λ _. gives x) or one_clause g x

  abbrev pub one_loop : LoopClauses × ℕ → Syntax PlainToken (LoopClauses × ℕ)
  one_loop x = parsed.full_loop_clause ws x.1 then λ c. gives (with_loop_clause x c.1)

  -- annotation = ANNOT-OPEN ( assert { assert } | loop { loop } | contract ) ANNOT-CLOSE, where clauses take the numbers from n on
  abbrev pub annotation : ℕ → Syntax PlainToken (ReadAnnotation × ℕ)
  annotation n =
      fixed ws annot_open_kind then λ _.
      ((one_clause group.Asserts ([], n) then λ x. repeated (one_clause group.Asserts) x then λ y. gives (Assertions y.0, y.1))
      or (parsed.full_loop_clause ws n then λ c. repeated one_loop (with_loop_clause (no_clauses c.0, n) c.1) then λ x. gives (Looped x.0, x.1))
      or (parsed.contract ws n then λ x. gives (Contracted x.0, x.1))) then λ x.
      fixed ws annot_close_kind then λ _. gives x

  -- assigns = "assigns" { any token but ";" and ANNOT-CLOSE } ";"
  abbrev pub passed_over : Syntax PlainToken Place
  passed_over = fixed_word ws assigns_kind then λ at. repeated (λ _. one passed) (tt {0}) then λ _. mark ws semicolon then λ _. gives at

  -- the same where it has at most 400 tokens
  abbrev pub assigns : Syntax PlainToken Place
  assigns = at_most expression_limit most_in_expression passed_over

  -- loop = "loop" ( ( "invariant" | "variant" ) form ";" | assigns ): it has at most 400 tokens
  abbrev pub loop : ℕ → Syntax PlainToken (Place × Option Annotation)
  loop n =
      at_most expression_limit most_in_expression
      (fixed_word ws loop_kind then λ at.
      (one (placed (kind_among ws (kind_in group.Loop))) then λ k. form ws then λ f. mark ws semicolon then λ _. gives
      (at, Some (clause_with n k.0 at (Raw f))))
      or (passed_over then λ _. gives (at, None)))

  -- assert = "assert" form ";", in a contract ( "requires" | "ensures" ) form ";", and in a behavior ( "requires" | "assumes" | "ensures" ) form ";": each
  -- has at most 400 tokens
  abbrev pub clause : ClauseGroup → ℕ → Syntax PlainToken Annotation
  clause g n =
      at_most expression_limit most_in_expression
      (one (placed (kind_among ws (kind_in g))) then λ k. form ws then λ f. mark ws semicolon then λ _. gives (clause_with n k.0 k.1 (Raw f)))

  -- contract = own { own } { behavior } { cover } | behavior { behavior } { cover } | cover { cover }
  abbrev pub contract : ℕ → Syntax PlainToken (FunctionContract × ℕ)
  contract n =
      (own n then λ a. repeated (one_own group.Contract) a.1 then λ x. behind_own (contract_with a.0 x.0, x.1))
      or (parsed.behavior ws n then λ b. behind_own (with_behavior (contract_with b.0 []) b.1, b.2))
      or (parsed.full_cover ws n then λ a. repeated one_cover (with_cover (contract_with a.place []) a, n + 1))
    where
      own : ℕ → Syntax PlainToken (Place × (List Annotation × ℕ))
      own n =
          (parsed.full_assigns ws then λ at. gives (at, ([], n)))
          or (parsed.full_clause ws group.Contract n then λ a. gives (a.place, (a ∷ [], n + 1)))

  -- behavior = "behavior" NAME ":" { ( "requires" | "assumes" | "ensures" ) form ";" | assigns }
  abbrev pub behavior : ℕ → Syntax PlainToken (Place × NamedBehavior × ℕ)
  behavior n =
      fixed_word ws behavior_kind then λ at. one (placed (formula_name_of ws)) then λ x. mark ws colon then λ _.
      repeated (one_own group.Behavior) ([], n) then λ c. gives (at, behavior_with x c.0, c.1)

  -- cover = ( "complete" | "disjoint" ) "behaviors" [ NAME { "," NAME } ] ";", at most 400 tokens
  abbrev pub cover : ℕ → Syntax PlainToken Annotation
  cover n =
      at_most expression_limit most_in_expression
      (one (placed (kind_among ws cover_kind)) then λ k. fixed_word ws behaviors_kind then λ _.
      ((name then λ x. repeated next_name (x ∷ [])) or gives []) then λ names. mark ws semicolon then λ _.
      gives (clause_with n k.0 k.1 (Behaviors names)))
    where
      name : Syntax PlainToken (Place × ℕ)
      name = one (placed (formula_name_of ws)) then λ x. gives (x.1, x.0)

      next_name : List (Place × ℕ) → Syntax PlainToken (List (Place × ℕ))
      next_name names = mark ws comma then λ _. name then λ x. gives (names ++ x ∷ [])
