-- The grammar of the clauses of annotations (ACSL 2.3, 2.4.1); forms are those of AnnotationGrammar:
--
--   annotation = ANNOT-OPEN ( assert { assert } | loop { loop } | contract ) ANNOT-CLOSE
--   assert     = "assert" form ";"
--   loop       = "loop" ( ( "invariant" | "variant" ) form ";" | assigns )
--   contract   = own { own } { behavior } { cover } | behavior { behavior } { cover } | cover { cover }
--   own        = ( "requires" | "ensures" ) form ";" | assigns
--   behavior   = "behavior" NAME ":" { ( "requires" | "assumes" | "ensures" ) form ";" | assigns }
--   cover      = ( "complete" | "disjoint" ) "behaviors" [ NAME { "," NAME } ] ";"
--   assigns    = "assigns" { any token but ";" and ANNOT-CLOSE } ";"
--
-- The words of clauses are NAMEs besides. Each is told by its spelling also where a typedef makes it the name of a type. A clause has at most 400
-- tokens, from its first word to its `;`. Clauses are numbered in the order of the text, but for those with `assigns`, which are passed over.
use Rattle.std.specs.Prelude.{ℕ, ◌+◌, List, [], ◌∷◌, ◌++◌, Option, Some, None, Bool, true, false, ◌||◌, ◌&&◌, not, cond, eqb}
use Rattle.grammar.specs.Syntax.{Syntax, gives, one, ◌then◌, choice, many, at_most}
use Rattle.c_syntax.specs.declared.place.Place.{Place}
use Rattle.c_syntax.specs.declared.annotation.Kind.{Kind}
use Rattle.c_syntax.specs.declared.annotation.Kind.TheVariants as kind
use Rattle.c_syntax.specs.Logic.{ClauseBody, Raw, Behaviors, Annotation}
use Rattle.c_syntax.specs.Programs.{NamedBehavior, FunctionContract}
use Rattle.c_syntax.specs.Tokens as token
use Rattle.c_syntax.specs.Tokens.{PlainTokenKind, PlainToken}
use Rattle.c_model.specs.declared.formulas.ClauseGroup.{ClauseGroup}
use Rattle.c_model.specs.declared.formulas.ClauseGroup.TheVariants as group
use Rattle.c_model.specs.declared.vocabulary.ClauseWord.{ClauseWord}
use Rattle.c_model.specs.declared.vocabulary.ClauseWord.TheVariants as clause
use Rattle.c_model.specs.declared.vocabulary.TypeName.TheVariants.{DeclaredClause}
use Rattle.c_model.specs.declared.vocabulary.Word.{Word}
use Rattle.c_model.specs.declared.vocabulary.Word.TheVariants as word
use Rattle.c_model.specs.Vocabulary.{Vocabulary, word_at}
use Rattle.c_model.specs.Punctuators.{colon, semicolon, comma}
use Rattle.c_model.specs.Terminals.{placed, expression_limit}
use Rattle.c_model.specs.ExpressionGrammar.{name_kind, annot_open_kind, annot_close_kind, mark_kind, most_in_expression, fixed, mark}
use Rattle.c_model.specs.AnnotationGrammar.{formula_token_kind, formula_kind, formula_name_of, some_names, form}

-- ---- words of clauses

abbrev pub clause_word_of : Word → Option ClauseWord
clause_word_of (word.Clause c) = Some c
clause_word_of (word.TypeName (DeclaredClause c)) = Some c
clause_word_of _ = None

-- a clause that says a form, by its first word, where clauses of a group stand
abbrev pub kind_in : ClauseGroup → ClauseWord → Option Kind
kind_in group.Asserts clause.Assert = Some kind.Assert
kind_in group.Contract clause.Requires = Some kind.Requires
kind_in group.Contract clause.Ensures = Some kind.Ensures
kind_in group.Behavior clause.Requires = Some kind.Requires
kind_in group.Behavior clause.Assumes = Some kind.Assumes
kind_in group.Behavior clause.Ensures = Some kind.Ensures
kind_in group.Loop clause.Invariant = Some kind.Invariant
kind_in group.Loop clause.Variant = Some kind.Variant
kind_in _ _ = None

-- a clause that names behaviors, by its first word
abbrev pub cover_kind : ClauseWord → Option Kind
cover_kind clause.Complete = Some kind.Complete
cover_kind clause.Disjoint = Some kind.Disjoint
cover_kind _ = None

-- ---- kinds of tokens where clauses begin: the words of clauses have kinds of their own there

abbrev pub assert_kind : ℕ
assert_kind = 50

abbrev pub requires_kind : ℕ
requires_kind = 51

abbrev pub assumes_kind : ℕ
assumes_kind = 52

abbrev pub ensures_kind : ℕ
ensures_kind = 53

abbrev pub behavior_kind : ℕ
behavior_kind = 54

abbrev pub complete_kind : ℕ
complete_kind = 55

abbrev pub disjoint_kind : ℕ
disjoint_kind = 56

abbrev pub behaviors_kind : ℕ
behaviors_kind = 57

abbrev pub loop_kind : ℕ
loop_kind = 58

abbrev pub assigns_kind : ℕ
assigns_kind = 59

abbrev pub invariant_kind : ℕ
invariant_kind = 43

abbrev pub variant_kind : ℕ
variant_kind = 44

abbrev pub clause_word_kind : ClauseWord → ℕ
clause_word_kind clause.Assert = assert_kind
clause_word_kind clause.Requires = requires_kind
clause_word_kind clause.Assumes = assumes_kind
clause_word_kind clause.Ensures = ensures_kind
clause_word_kind clause.Behavior = behavior_kind
clause_word_kind clause.Complete = complete_kind
clause_word_kind clause.Disjoint = disjoint_kind
clause_word_kind clause.Behaviors = behaviors_kind
clause_word_kind clause.Assigns = assigns_kind
clause_word_kind clause.Loop = loop_kind
clause_word_kind clause.Invariant = invariant_kind
clause_word_kind clause.Variant = variant_kind

-- what begins clauses of a group that say a form, all of them, and those that name behaviors; these sets serve `parse` alone
abbrev pub first_in : ClauseGroup → List ℕ
first_in group.Asserts = assert_kind ∷ []
first_in group.Contract = requires_kind ∷ ensures_kind ∷ []
first_in group.Behavior = requires_kind ∷ assumes_kind ∷ ensures_kind ∷ []
first_in group.Loop = invariant_kind ∷ variant_kind ∷ []

abbrev pub first_own : ClauseGroup → List ℕ
first_own g = assigns_kind ∷ first_in g

abbrev pub first_cover : List ℕ
first_cover = complete_kind ∷ disjoint_kind ∷ []

-- ---- trees

abbrev pub clause_with : ℕ → Kind → Place → ClauseBody → Annotation
clause_with n k at b = record { number = n; kind = k; place = at; body = b }

-- a behavior, by its name with its place
abbrev pub behavior_with : ℕ × Place → List Annotation → NamedBehavior
behavior_with x clauses = record { place = x.1; name = x.0; clauses = clauses }

-- a contract whose first word stands at this place, with clauses of its own
abbrev pub contract_with : Place → List Annotation → FunctionContract
contract_with at clauses = record { place = at; clauses = clauses; behaviors = []; covers = [] }

abbrev pub with_behavior : FunctionContract → NamedBehavior → FunctionContract
with_behavior c b = record c { behaviors = c.behaviors ++ b ∷ [] }

abbrev pub with_cover : FunctionContract → Annotation → FunctionContract
with_cover c a = record c { covers = c.covers ++ a ∷ [] }

-- the clauses of a loop, the place of their first word, and that of the first word of a variant behind another one
pub record LoopClauses : Type 0 where
  pub place : Place
  pub clauses : List Annotation
  pub again : Option Place

-- no clauses of a loop yet, whose first word stands at this place
abbrev pub no_clauses : Place → LoopClauses
no_clauses at = record { place = at; clauses = []; again = None }

abbrev pub is_variant : Annotation → Bool
is_variant a = elim a.kind [ kind.Variant ↦ true | _ ↦ false ]

abbrev pub has_variant : List Annotation → Bool
has_variant [] = false
has_variant (a ∷ clauses) = is_variant a || has_variant clauses

abbrev pub again_with : LoopClauses → Annotation → Option Place
again_with l a = elim l.again [ Some at ↦ Some at | None ↦ cond (is_variant a && has_variant l.clauses) (Some a.place) None ]

-- with one more, which may be passed over, and the number after it
abbrev pub with_loop_clause : LoopClauses × ℕ → Option Annotation → LoopClauses × ℕ
with_loop_clause x None = x
with_loop_clause x (Some a) = (record { place = x.0.place; clauses = x.0.clauses ++ a ∷ []; again = again_with x.0 a }, x.1 + 1)

-- what an annotation is read as: asserts, a contract, or clauses of a loop
pub data ReadAnnotation : Type 0 where
  Assertions : List Annotation → ReadAnnotation
  Contracted : FunctionContract → ReadAnnotation
  Looped : LoopClauses → ReadAnnotation

-- ---- tokens that `assigns` passes over: any but ";" and the end of the annotation

abbrev pub passes : PlainTokenKind → Bool
passes (token.Mark m) = not (eqb m semicolon)
passes token.AnnotClose = false
passes _ = true

abbrev pub passed_kind : PlainToken → ℕ
passed_kind t = cond (passes t.kind) 1 0

abbrev pub passed : PlainToken → Option (Unit {0})
passed t = cond (passes t.kind) (Some tt) None

module _ (ws : Vocabulary) where
  -- ---- single tokens

  abbrev pub clause_word : PlainTokenKind → Option ClauseWord
  clause_word (token.Word n) = clause_word_of (word_at ws n)
  clause_word _ = None

  abbrev pub clause_token_kind : PlainTokenKind → ℕ
  clause_token_kind k = elim (clause_word k) [ Some c ↦ clause_word_kind c | None ↦ formula_token_kind ws k ]

  abbrev pub clause_kind : PlainToken → ℕ
  clause_kind t = clause_token_kind t.kind

  -- the first word of a clause
  abbrev pub kind_among : (ClauseWord → Option Kind) → PlainTokenKind → Option Kind
  kind_among kinds k = elim (clause_word k) [ Some c ↦ kinds c | None ↦ None ]

  -- the word of clauses with this kind, by its place
  abbrev pub fixed_word : ℕ → Syntax PlainToken Place
  fixed_word k = one (λ t. elim (clause_word t.kind) [ Some c ↦ cond (eqb (clause_word_kind c) k) (Some t.place) None | None ↦ None ])

  -- ---- what is passed over

  -- "assigns" { any token but ";" and ANNOT-CLOSE } ";", by the place of its first word
  unfoldable pub assigns : Syntax PlainToken Place
  assigns =
      fixed_word assigns_kind then λ at. many passed_kind (λ _. 1 ∷ []) (λ _. one passed) (tt {0}) then λ _. mark ws semicolon then λ _. gives at

  -- the same within the limit of its tokens
  unfoldable pub full_assigns : Syntax PlainToken Place
  full_assigns = at_most expression_limit most_in_expression assigns

  -- ---- clauses that say a form

  -- word form ";", with the number n
  unfoldable pub form_clause : ClauseGroup → ℕ → Syntax PlainToken Annotation
  form_clause g n =
      one (placed (kind_among (kind_in g))) then λ k. form ws then λ f. mark ws semicolon then λ _. gives (clause_with n k.0 k.1 (Raw f))

  -- the same within the limit of its tokens
  unfoldable pub full_clause : ClauseGroup → ℕ → Syntax PlainToken Annotation
  full_clause g n = at_most expression_limit most_in_expression (form_clause g n)

  -- a clause after others, with the number of the next one
  unfoldable pub next_clause : ClauseGroup → List Annotation × ℕ → Syntax PlainToken (List Annotation × ℕ)
  next_clause g x = full_clause g x.1 then λ a. gives (x.0 ++ a ∷ [], x.1 + 1)

  -- any number of them after others
  unfoldable pub more_clauses : ClauseGroup → List Annotation × ℕ → Syntax PlainToken (List Annotation × ℕ)
  more_clauses g x = many clause_kind (λ _. first_in g) (next_clause g) x

  -- assert { assert }, which take the numbers from n on and give the one after
  unfoldable pub asserts : ℕ → Syntax PlainToken (List Annotation × ℕ)
  asserts n = next_clause group.Asserts ([], n) then λ x. more_clauses group.Asserts x

  -- ---- clauses of loops

  -- ( "invariant" | "variant" ) form ";", with the number n, behind "loop" at this place, which is that of the clause
  unfoldable pub looped : Place → ℕ → Syntax PlainToken (Place × Option Annotation)
  looped at n = form_clause group.Loop n then λ a. gives (at, Some (record a { place = at }))

  -- assigns, which is passed over, behind "loop"
  unfoldable pub loop_assigns : Place → Syntax PlainToken (Place × Option Annotation)
  loop_assigns at = assigns then λ _. gives (at, None)

  -- "loop" ( ( "invariant" | "variant" ) form ";" | assigns ), with the number n
  unfoldable pub loop_clause : ℕ → Syntax PlainToken (Place × Option Annotation)
  loop_clause n = fixed_word loop_kind then λ at. choice clause_kind (assigns_kind ∷ []) (loop_assigns at) (looped at n)

  -- the same within the limit of its tokens
  unfoldable pub full_loop_clause : ℕ → Syntax PlainToken (Place × Option Annotation)
  full_loop_clause n = at_most expression_limit most_in_expression (loop_clause n)

  -- one after others, with the number of the next one
  unfoldable pub next_loop_clause : LoopClauses × ℕ → Syntax PlainToken (LoopClauses × ℕ)
  next_loop_clause x = full_loop_clause x.1 then λ c. gives (with_loop_clause x c.1)

  unfoldable pub more_loop_clauses : LoopClauses × ℕ → Syntax PlainToken (LoopClauses × ℕ)
  more_loop_clauses x = many clause_kind (λ _. loop_kind ∷ []) next_loop_clause x

  -- loop { loop }, which take the numbers from n on and give the one after
  unfoldable pub loop_clauses : ℕ → Syntax PlainToken (LoopClauses × ℕ)
  loop_clauses n = full_loop_clause n then λ c. more_loop_clauses (with_loop_clause (no_clauses c.0, n) c.1)

  -- ---- clauses of contracts and of behaviors

  -- one after others, or what is passed over
  unfoldable pub next_own : ClauseGroup → List Annotation × ℕ → Syntax PlainToken (List Annotation × ℕ)
  next_own g x = choice clause_kind (assigns_kind ∷ []) (full_assigns then λ _. gives x) (next_clause g x)

  -- any number of them
  unfoldable pub more_owns : ClauseGroup → List Annotation × ℕ → Syntax PlainToken (List Annotation × ℕ)
  more_owns g x = many clause_kind (λ _. first_own g) (next_own g) x

  -- ---- behaviors

  -- "behavior" NAME ":" and its clauses, with the place of its first word and the number after them
  unfoldable pub behavior : ℕ → Syntax PlainToken (Place × NamedBehavior × ℕ)
  behavior n =
      fixed_word behavior_kind then λ at. one (placed (formula_name_of ws)) then λ x. mark ws colon then λ _.
      more_owns group.Behavior ([], n) then λ c. gives (at, behavior_with x c.0, c.1)

  -- a behavior after what is read of a contract
  unfoldable pub next_behavior : FunctionContract × ℕ → Syntax PlainToken (FunctionContract × ℕ)
  next_behavior x = behavior x.1 then λ b. gives (with_behavior x.0 b.1, b.2)

  unfoldable pub more_behaviors : FunctionContract × ℕ → Syntax PlainToken (FunctionContract × ℕ)
  more_behaviors x = many clause_kind (λ _. behavior_kind ∷ []) next_behavior x

  -- ---- clauses that name behaviors

  -- [ NAME { "," NAME } ]
  unfoldable pub behavior_names : Syntax PlainToken (List (Place × ℕ))
  behavior_names = choice (formula_kind ws) (name_kind ∷ []) (some_names ws) (gives [])

  -- ( "complete" | "disjoint" ) "behaviors" [ NAME { "," NAME } ] ";", with the number n
  unfoldable pub cover_clause : ℕ → Syntax PlainToken Annotation
  cover_clause n =
      one (placed (kind_among cover_kind)) then λ k. fixed_word behaviors_kind then λ _. behavior_names then λ names. mark ws semicolon then λ _.
      gives (clause_with n k.0 k.1 (Behaviors names))

  -- the same within the limit of its tokens
  unfoldable pub full_cover : ℕ → Syntax PlainToken Annotation
  full_cover n = at_most expression_limit most_in_expression (cover_clause n)

  -- one after what is read of a contract
  unfoldable pub next_cover : FunctionContract × ℕ → Syntax PlainToken (FunctionContract × ℕ)
  next_cover x = full_cover x.1 then λ a. gives (with_cover x.0 a, x.1 + 1)

  unfoldable pub more_covers : FunctionContract × ℕ → Syntax PlainToken (FunctionContract × ℕ)
  more_covers x = many clause_kind (λ _. first_cover) next_cover x

  -- ---- contracts, whose clauses take the numbers from n on and give the one after

  -- { behavior } { cover }, after what is read of a contract
  unfoldable pub behaviors_and_covers : FunctionContract × ℕ → Syntax PlainToken (FunctionContract × ℕ)
  behaviors_and_covers x = more_behaviors x then λ y. more_covers y

  -- the first of its own clauses, with the place of its first word
  unfoldable pub placed_own : ℕ → Syntax PlainToken (Place × (List Annotation × ℕ))
  placed_own n =
      choice clause_kind (assigns_kind ∷ []) (full_assigns then λ at. gives (at, ([], n)))
      (full_clause group.Contract n then λ a. gives (a.place, (a ∷ [], n + 1)))

  -- own { own } { behavior } { cover }
  unfoldable pub own_first : ℕ → Syntax PlainToken (FunctionContract × ℕ)
  own_first n =
      placed_own n then λ a. more_owns group.Contract a.1 then λ x. behaviors_and_covers (contract_with a.0 x.0, x.1)

  -- behavior { behavior } { cover }
  unfoldable pub behavior_first : ℕ → Syntax PlainToken (FunctionContract × ℕ)
  behavior_first n = behavior n then λ b. behaviors_and_covers (with_behavior (contract_with b.0 []) b.1, b.2)

  -- cover { cover }
  unfoldable pub cover_first : ℕ → Syntax PlainToken (FunctionContract × ℕ)
  cover_first n = full_cover n then λ a. more_covers (with_cover (contract_with a.place []) a, n + 1)

  unfoldable pub contract : ℕ → Syntax PlainToken (FunctionContract × ℕ)
  contract n =
      choice clause_kind (first_own group.Contract) (own_first n)
      (choice clause_kind (behavior_kind ∷ []) (behavior_first n) (cover_first n))

  -- ---- annotations

  -- what stands in an annotation
  unfoldable pub clauses : ℕ → Syntax PlainToken (ReadAnnotation × ℕ)
  clauses n =
      choice clause_kind (first_in group.Asserts) (asserts n then λ x. gives (Assertions x.0, x.1))
      (choice clause_kind (loop_kind ∷ []) (loop_clauses n then λ x. gives (Looped x.0, x.1)) (contract n then λ x. gives (Contracted x.0, x.1)))

  unfoldable pub annotations : ℕ → Syntax PlainToken (ReadAnnotation × ℕ)
  annotations n = fixed ws annot_open_kind then λ _. clauses n then λ x. fixed ws annot_close_kind then λ _. gives x
