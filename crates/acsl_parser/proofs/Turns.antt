-- A turn of a repetition: one more, a fault, and none; and what is read is shorter.
use Rattle.std.proofs.Common.{◌≡◌, ℕ, ◌<◌, true, false, List, [], ◌∷◌, ◌++◌, length, Option, Some, None, Ok, ◌∙◌, refl}
use Rattle.grammar.specs.Syntax.{Syntax, sees, gives, one, ◌then◌, choice, many}
use Rattle.grammar.proofs.Bounds.{many_is}
use Rattle.grammar.proofs.Sets.{apart}
use Rattle.grammar.proofs.Productions.{one_lower, turn, turn_fails, turn_ends, turn_to}
use Rattle.c_syntax.specs.declared.fault.ReadFault.{ReadFault}
use Rattle.c_syntax.specs.declared.token.Token.{Token}
use Rattle.c_syntax.specs.Formulas.{Form, FormZone}
use Rattle.c_syntax.specs.declared.place.Place.{Place}
use Rattle.c_syntax.specs.Logic.{Annotation}
use Rattle.c_syntax.specs.Programs.{FunctionContract}
use Rattle.c_syntax.specs.Tokens.{PlainToken}
use Rattle.c_model.specs.declared.formulas.ClauseGroup.{ClauseGroup}
use Rattle.c_model.specs.declared.formulas.FormulaMode.{FormulaMode}
use Rattle.c_model.specs.declared.formulas.FormulaMode.TheVariants.{Zone}
use Rattle.c_model.specs.Vocabulary.{Vocabulary}
use Rattle.c_model.specs.Punctuators.{comma}
use Rattle.c_model.specs.ExpressionGrammar.{kinds_of, mark_kind}
use Rattle.c_model.specs.AnnotationGrammar.{first_behind, formula_kind, FormEnd, Spanned, unended_kinds, unended_only, joined_once, joined_more, sum_once, sum_more}
use Rattle.c_model.specs.AnnotationGrammar.{postfix_once, postfixes, next_zone, next_name, forms, form}
use Rattle.c_model.specs.ClauseGrammar.{clause_kind, first_in, first_cover, behavior_kind, next_clause, more_clauses, next_behavior, more_behaviors, next_cover, more_covers}
use Rattle.c_model.specs.ClauseGrammar.{passed_kind, passed, LoopClauses, loop_kind, first_own, next_own, more_owns, next_loop_clause, more_loop_clauses}
use Rattle.token_reader.specs.Reading.{plain_list, Fails}
use Rattle.token_reader.proofs.Faults.{again}
use Rattle.token_reader.proofs.Shorter.{shorter}
use Rattle.acsl_parser.specs.declared.tables.Level.{Level}
use Rattle.acsl_parser.specs.declared.tables.Level.TheVariants as level
use Rattle.acsl_parser.specs.Reading.{any_zone, operators, operand, more_zones, more_names, passed_over}
use Rattle.acsl_parser.proofs.FormulaTokens.{IsForm}
use Rattle.acsl_parser.proofs.ExactForms.{first_form, more_product, more_sum, more_chain, more_bit_and, more_bit_xor, more_bit_or, more_conjunction, more_exclusion, more_implication, more_form, form_good, zones_good}
use Rattle.acsl_parser.proofs.ExactForms.{AreSpans, edge, prefix_good, product_good, forms_good}
use Rattle.acsl_parser.proofs.ExactForms.{sum_good, chain_good, bit_and_good, bit_xor_good, bit_or_good, conjunction_good, exclusion_good, implication_good, once_good, sum_once_good, postfix_once_good, next_zone_good, next_name_good, turn_good, fits}
use Rattle.acsl_parser.proofs.ExactAnnotations.{passed_good, turns_in, own_turns, next_clause_good, next_own_good, next_loop_clause_good, next_behavior_good, next_cover_good}

-- what an operand of a level can go on with
abbrev more_operand : Level → List ℕ
more_operand level.Product = first_behind
more_operand level.Sum = more_product
more_operand level.Shift = more_sum
more_operand level.BitAnd = more_chain
more_operand level.BitXor = more_bit_and
more_operand level.BitOr = more_bit_xor
more_operand level.Conjunction = more_bit_or
more_operand level.Exclusion = more_conjunction
more_operand level.Disjunction = more_exclusion
more_operand level.Equivalence = more_implication

level_apart : (l : Level) → apart (kinds_of (operators l)) (more_operand l) ≡ true
level_apart level.Product = refl
level_apart level.Sum = refl
level_apart level.Shift = refl
level_apart level.BitAnd = refl
level_apart level.BitXor = refl
level_apart level.BitOr = refl
level_apart level.Conjunction = refl
level_apart level.Exclusion = refl
level_apart level.Disjunction = refl
level_apart level.Equivalence = refl

module _ (ws : Vocabulary) where
  operand_good : (m : FormulaMode) (l : Level) → AreSpans ws 0 (operand ws m l) (operand ws m l) false first_form (more_operand l)
  operand_good m level.Product = one_lower (prefix_good ws (form_good ws) (zones_good ws) (forms_good ws m))
  operand_good m level.Sum = one_lower (product_good ws (form_good ws) (zones_good ws) (forms_good ws m))
  operand_good m level.Shift = one_lower (sum_good ws (form_good ws) (zones_good ws) (forms_good ws m) m)
  operand_good m level.BitAnd = one_lower (chain_good ws (form_good ws) (zones_good ws) (forms_good ws m) m)
  operand_good m level.BitXor = one_lower (bit_and_good ws (form_good ws) (zones_good ws) (forms_good ws m) m)
  operand_good m level.BitOr = one_lower (bit_xor_good ws (form_good ws) (zones_good ws) (forms_good ws m) m)
  operand_good m level.Conjunction = one_lower (bit_or_good ws (form_good ws) (zones_good ws) (forms_good ws m) m)
  operand_good m level.Exclusion = one_lower (conjunction_good ws (form_good ws) (zones_good ws) (forms_good ws m) m)
  operand_good m level.Disjunction = one_lower (exclusion_good ws (form_good ws) (zones_good ws) (forms_good ws m) m)
  operand_good m level.Equivalence = one_lower (implication_good ws (form_good ws) (zones_good ws) (forms_good ws m) m)

  -- ---- a repetition behind a form that nothing ends

  pub sees_nothing : (ts : List PlainToken) → sees (formula_kind ws) [] ts ≡ false
  sees_nothing [] = refl
  sees_nothing (t ∷ ts) = refl

  no_more : (ts : List PlainToken) → sees (formula_kind ws) [] ts ≡ true → ⊥
  no_more [] s = cc
  no_more (t ∷ ts) s = cc

  module _ (ks m : List ℕ) (step : Form → Syntax PlainToken (Spanned Form)) (g : (x : Form) → AreSpans ws 0 (step x) (step x) false ks m) (a : apart ks m ≡ true) where
    abbrev repeated : Spanned Form → Syntax PlainToken (Spanned Form)
    repeated x = many (formula_kind ws) (unended_kinds ks) (unended_only step) x

    repeated_is : (x : Spanned Form) (ts : List PlainToken) → (repeated x).parse ts ≡ (choice (formula_kind ws) (unended_kinds ks x) (unended_only step x then λ y. repeated y) (gives x)).parse ts
    repeated_is x ts = many_is (formula_kind ws) (unended_kinds ks) (unended_kinds ks) (λ _ y. edge m y) (edge (ks ++ m)) (fits ws ks m g a) (unended_only step) (λ z. (turn_good ws ks m g z).here) x ts

    unended_turn : (x : Form) (r : Option FormEnd) (y : Spanned Form) (ts rest : List PlainToken) → sees (formula_kind ws) (unended_kinds ks (x, r)) ts ≡ true → (step x).parse ts ≡ Ok (y, rest) → (repeated (x, r)).parse ts ≡ (repeated y).parse rest
    unended_turn x None y ts rest s e = turn_to (unended_kinds ks) (unended_only step) (λ z. (turn_good ws ks m g z).here) (fits ws ks m g a) (x, None) y ts rest s e
    unended_turn x (Some r) y ts rest s e = absurd (no_more ts s)

    unended_fails : (x : Form) (r : Option FormEnd) (ts : List PlainToken) (e : ReadFault) → sees (formula_kind ws) (unended_kinds ks (x, r)) ts ≡ true → Fails e ((step x).parse ts) → Fails e ((repeated (x, r)).parse ts)
    unended_fails x None ts e s f = again e (λ d h. repeated_is (x, None) ts ∙ rw (s, h) refl) f
    unended_fails x (Some r) ts e s f = absurd (no_more ts s)

    unended_ends : (x : Spanned Form) (ts : List PlainToken) → sees (formula_kind ws) (unended_kinds ks x) ts ≡ false → (repeated x).parse ts ≡ Ok (x, ts)
    unended_ends x ts s = repeated_is x ts ∙ rw s refl

  -- operators of a level

  once_exact : (m : FormulaMode) (l : Level) (x : Form) → AreSpans ws 0 (joined_once ws (operators l) (operand ws m l) x) (joined_once ws (operators l) (operand ws m l) x) false (kinds_of (operators l)) (more_operand l)
  once_exact m l x = once_good ws (operators l) (more_operand l) (operand_good m l) x

  pub joined_turn : (m : FormulaMode) (l : Level) (x : Form) (r : Option FormEnd) (y : Spanned Form) (ts rest : List PlainToken) → sees (formula_kind ws) (unended_kinds (kinds_of (operators l)) (x, r)) ts ≡ true
      → (joined_once ws (operators l) (operand ws m l) x).parse ts ≡ Ok (y, rest) → (joined_more ws (operators l) (operand ws m l) (x, r)).parse ts ≡ (joined_more ws (operators l) (operand ws m l) y).parse rest
  unfolding joined_more
  joined_turn m l = unended_turn (kinds_of (operators l)) (more_operand l) (joined_once ws (operators l) (operand ws m l)) (once_exact m l) (level_apart l)

  pub joined_fails : (m : FormulaMode) (l : Level) (x : Form) (r : Option FormEnd) (ts : List PlainToken) (e : ReadFault) → sees (formula_kind ws) (unended_kinds (kinds_of (operators l)) (x, r)) ts ≡ true
      → Fails e ((joined_once ws (operators l) (operand ws m l) x).parse ts) → Fails e ((joined_more ws (operators l) (operand ws m l) (x, r)).parse ts)
  unfolding joined_more
  joined_fails m l = unended_fails (kinds_of (operators l)) (more_operand l) (joined_once ws (operators l) (operand ws m l)) (once_exact m l) (level_apart l)

  pub joined_ends : (m : FormulaMode) (l : Level) (x : Spanned Form) (ts : List PlainToken) → sees (formula_kind ws) (unended_kinds (kinds_of (operators l)) x) ts ≡ false
      → (joined_more ws (operators l) (operand ws m l) x).parse ts ≡ Ok (x, ts)
  unfolding joined_more
  joined_ends m l = unended_ends (kinds_of (operators l)) (more_operand l) (joined_once ws (operators l) (operand ws m l)) (once_exact m l) (level_apart l)

  -- operators of a sum in a zone, and its range

  abbrev zone_sum_once : Form → Syntax PlainToken (Spanned Form)
  zone_sum_once x = sum_once ws (form ws) (any_zone ws) (forms ws Zone) x

  abbrev zone_sum_more : Spanned Form → Syntax PlainToken (Spanned Form)
  zone_sum_more x = sum_more ws (form ws) (any_zone ws) (forms ws Zone) x

  sum_exact : (x : Form) → AreSpans ws 0 (zone_sum_once x) (zone_sum_once x) false (kinds_of (operators level.Sum)) more_product
  sum_exact x = one_lower (sum_once_good ws (form_good ws) (zones_good ws) (forms_good ws Zone) x)

  pub sum_turn : (x : Form) (r : Option FormEnd) (y : Spanned Form) (ts rest : List PlainToken) → sees (formula_kind ws) (unended_kinds (kinds_of (operators level.Sum)) (x, r)) ts ≡ true
      → (zone_sum_once x).parse ts ≡ Ok (y, rest) → (zone_sum_more (x, r)).parse ts ≡ (zone_sum_more y).parse rest
  unfolding sum_more
  sum_turn = unended_turn (kinds_of (operators level.Sum)) more_product (zone_sum_once) sum_exact refl

  pub sum_fails : (x : Form) (r : Option FormEnd) (ts : List PlainToken) (e : ReadFault) → sees (formula_kind ws) (unended_kinds (kinds_of (operators level.Sum)) (x, r)) ts ≡ true
      → Fails e ((zone_sum_once x).parse ts) → Fails e ((zone_sum_more (x, r)).parse ts)
  unfolding sum_more
  sum_fails = unended_fails (kinds_of (operators level.Sum)) more_product (zone_sum_once) sum_exact refl

  pub sum_ends : (x : Spanned Form) (ts : List PlainToken) → sees (formula_kind ws) (unended_kinds (kinds_of (operators level.Sum)) x) ts ≡ false → (zone_sum_more x).parse ts ≡ Ok (x, ts)
  unfolding sum_more
  sum_ends = unended_ends (kinds_of (operators level.Sum)) more_product (zone_sum_once) sum_exact refl

  -- ---- postfix operators

  postfix_exact : (x : Form) → IsForm ws (postfix_once ws (form ws) x) false first_behind []
  postfix_exact x = one_lower (postfix_once_good ws (form_good ws) x)

  pub postfix_turn : (x y : Form) (ts rest : List PlainToken) → sees (formula_kind ws) first_behind ts ≡ true → (postfix_once ws (form ws) x).parse ts ≡ Ok (y, rest) → (postfixes ws (form ws) x).parse ts ≡ (postfixes ws (form ws) y).parse rest
  unfolding postfixes
  postfix_turn x y ts rest s e = turn first_behind (postfix_once ws (form ws)) (λ z. (postfix_exact z).here) refl x y ts rest s e

  pub postfix_fails : (x : Form) (ts : List PlainToken) (e : ReadFault) → sees (formula_kind ws) first_behind ts ≡ true → Fails e ((postfix_once ws (form ws) x).parse ts) → Fails e ((postfixes ws (form ws) x).parse ts)
  unfolding postfixes
  postfix_fails x ts e s = again e (λ d. turn_fails first_behind (postfix_once ws (form ws)) (λ z. (postfix_exact z).here) refl x ts d s)

  pub postfix_ends : (x : Form) (ts : List PlainToken) → sees (formula_kind ws) first_behind ts ≡ false → (postfixes ws (form ws) x).parse ts ≡ Ok (x, ts)
  unfolding postfixes
  postfix_ends x ts s = turn_ends first_behind (postfix_once ws (form ws)) (λ z. (postfix_exact z).here) refl x ts s

  -- ---- zones

  zone_exact : (zs : List FormZone) → IsForm ws (next_zone ws (any_zone ws) zs) false (mark_kind comma ∷ []) more_form
  zone_exact zs = next_zone_good ws (form_good ws) (zones_good ws) zs

  pub zones_turn : (x y : List FormZone) (ts rest : List PlainToken) → sees (formula_kind ws) (mark_kind comma ∷ []) ts ≡ true → (next_zone ws (any_zone ws) x).parse ts ≡ Ok (y, rest) → (more_zones ws x).parse ts ≡ (more_zones ws y).parse rest
  unfolding more_zones
  zones_turn x y ts rest s e = turn (mark_kind comma ∷ []) (next_zone ws (any_zone ws)) (λ z. (zone_exact z).here) refl x y ts rest s e

  pub zones_fails : (x : List FormZone) (ts : List PlainToken) (e : ReadFault) → sees (formula_kind ws) (mark_kind comma ∷ []) ts ≡ true → Fails e ((next_zone ws (any_zone ws) x).parse ts) → Fails e ((more_zones ws x).parse ts)
  unfolding more_zones
  zones_fails x ts e s = again e (λ d. turn_fails (mark_kind comma ∷ []) (next_zone ws (any_zone ws)) (λ z. (zone_exact z).here) refl x ts d s)

  pub zones_end : (x : List FormZone) (ts : List PlainToken) → sees (formula_kind ws) (mark_kind comma ∷ []) ts ≡ false → (more_zones ws x).parse ts ≡ Ok (x, ts)
  unfolding more_zones
  zones_end x ts s = turn_ends (mark_kind comma ∷ []) (next_zone ws (any_zone ws)) (λ z. (zone_exact z).here) refl x ts s

  -- ---- clauses of a group

  pub clauses_turn : (g : ClauseGroup) (x y : List Annotation × ℕ) (ts rest : List PlainToken) → sees (clause_kind ws) (first_in g) ts ≡ true → (next_clause ws g x).parse ts ≡ Ok (y, rest)
      → (more_clauses ws g x).parse ts ≡ (more_clauses ws g y).parse rest
  unfolding more_clauses
  clauses_turn g x y ts rest s e = turn (first_in g) (next_clause ws g) (λ z. (next_clause_good ws {n = 0} g z).here) (turns_in g) x y ts rest s e

  pub clauses_fails : (g : ClauseGroup) (x : List Annotation × ℕ) (ts : List PlainToken) (e : ReadFault) → sees (clause_kind ws) (first_in g) ts ≡ true → Fails e ((next_clause ws g x).parse ts) → Fails e ((more_clauses ws g x).parse ts)
  unfolding more_clauses
  clauses_fails g x ts e s = again e (λ d. turn_fails (first_in g) (next_clause ws g) (λ z. (next_clause_good ws {n = 0} g z).here) (turns_in g) x ts d s)

  pub clauses_ends : (g : ClauseGroup) (x : List Annotation × ℕ) (ts : List PlainToken) → sees (clause_kind ws) (first_in g) ts ≡ false → (more_clauses ws g x).parse ts ≡ Ok (x, ts)
  unfolding more_clauses
  clauses_ends g x ts s = turn_ends (first_in g) (next_clause ws g) (λ z. (next_clause_good ws {n = 0} g z).here) (turns_in g) x ts s

  pub clauses_shorter : (g : ClauseGroup) (x y : List Annotation × ℕ) (ts rest : List Token) → (next_clause ws g x).parse (plain_list ts) ≡ Ok (y, plain_list rest) → length rest < length ts
  clauses_shorter g x y ts rest e = shorter (next_clause ws g x) (next_clause_good ws {n = 0} g x).here ts rest y e

  -- ---- clauses of contracts, and of loops

  pub owns_turn : (g : ClauseGroup) (x y : List Annotation × ℕ) (ts rest : List PlainToken) → sees (clause_kind ws) (first_own g) ts ≡ true → (next_own ws g x).parse ts ≡ Ok (y, rest)
      → (more_owns ws g x).parse ts ≡ (more_owns ws g y).parse rest
  unfolding more_owns
  owns_turn g x y ts rest s e = turn (first_own g) (next_own ws g) (λ z. (next_own_good ws {n = 0} g z).here) (own_turns g) x y ts rest s e

  pub owns_fails : (g : ClauseGroup) (x : List Annotation × ℕ) (ts : List PlainToken) (e : ReadFault) → sees (clause_kind ws) (first_own g) ts ≡ true → Fails e ((next_own ws g x).parse ts) → Fails e ((more_owns ws g x).parse ts)
  unfolding more_owns
  owns_fails g x ts e s = again e (λ d. turn_fails (first_own g) (next_own ws g) (λ z. (next_own_good ws {n = 0} g z).here) (own_turns g) x ts d s)

  pub owns_ends : (g : ClauseGroup) (x : List Annotation × ℕ) (ts : List PlainToken) → sees (clause_kind ws) (first_own g) ts ≡ false → (more_owns ws g x).parse ts ≡ Ok (x, ts)
  unfolding more_owns
  owns_ends g x ts s = turn_ends (first_own g) (next_own ws g) (λ z. (next_own_good ws {n = 0} g z).here) (own_turns g) x ts s

  pub owns_shorter : (g : ClauseGroup) (x y : List Annotation × ℕ) (ts rest : List Token) → (next_own ws g x).parse (plain_list ts) ≡ Ok (y, plain_list rest) → length rest < length ts
  owns_shorter g x y ts rest e = shorter (next_own ws g x) (next_own_good ws {n = 0} g x).here ts rest y e

  pub loops_turn : (x y : LoopClauses × ℕ) (ts rest : List PlainToken) → sees (clause_kind ws) (loop_kind ∷ []) ts ≡ true → (next_loop_clause ws x).parse ts ≡ Ok (y, rest) → (more_loop_clauses ws x).parse ts ≡ (more_loop_clauses ws y).parse rest
  unfolding more_loop_clauses
  loops_turn x y ts rest s e = turn (loop_kind ∷ []) (next_loop_clause ws) (λ z. (next_loop_clause_good ws {n = 0} z).here) refl x y ts rest s e

  pub loops_fails : (x : LoopClauses × ℕ) (ts : List PlainToken) (e : ReadFault) → sees (clause_kind ws) (loop_kind ∷ []) ts ≡ true → Fails e ((next_loop_clause ws x).parse ts) → Fails e ((more_loop_clauses ws x).parse ts)
  unfolding more_loop_clauses
  loops_fails x ts e s = again e (λ d. turn_fails (loop_kind ∷ []) (next_loop_clause ws) (λ z. (next_loop_clause_good ws {n = 0} z).here) refl x ts d s)

  pub loops_ends : (x : LoopClauses × ℕ) (ts : List PlainToken) → sees (clause_kind ws) (loop_kind ∷ []) ts ≡ false → (more_loop_clauses ws x).parse ts ≡ Ok (x, ts)
  unfolding more_loop_clauses
  loops_ends x ts s = turn_ends (loop_kind ∷ []) (next_loop_clause ws) (λ z. (next_loop_clause_good ws {n = 0} z).here) refl x ts s

  pub loops_shorter : (x y : LoopClauses × ℕ) (ts rest : List Token) → (next_loop_clause ws x).parse (plain_list ts) ≡ Ok (y, plain_list rest) → length rest < length ts
  loops_shorter x y ts rest e = shorter (next_loop_clause ws x) (next_loop_clause_good ws {n = 0} x).here ts rest y e

  -- ---- behaviors, and clauses that name them

  pub behaviors_turn : (x y : FunctionContract × ℕ) (ts rest : List PlainToken) → sees (clause_kind ws) (behavior_kind ∷ []) ts ≡ true → (next_behavior ws x).parse ts ≡ Ok (y, rest) → (more_behaviors ws x).parse ts ≡ (more_behaviors ws y).parse rest
  unfolding more_behaviors
  behaviors_turn x y ts rest s e = turn (behavior_kind ∷ []) (next_behavior ws) (λ z. (next_behavior_good ws {n = 0} z).here) refl x y ts rest s e

  pub behaviors_fails : (x : FunctionContract × ℕ) (ts : List PlainToken) (e : ReadFault) → sees (clause_kind ws) (behavior_kind ∷ []) ts ≡ true → Fails e ((next_behavior ws x).parse ts) → Fails e ((more_behaviors ws x).parse ts)
  unfolding more_behaviors
  behaviors_fails x ts e s = again e (λ d. turn_fails (behavior_kind ∷ []) (next_behavior ws) (λ z. (next_behavior_good ws {n = 0} z).here) refl x ts d s)

  pub behaviors_ends : (x : FunctionContract × ℕ) (ts : List PlainToken) → sees (clause_kind ws) (behavior_kind ∷ []) ts ≡ false → (more_behaviors ws x).parse ts ≡ Ok (x, ts)
  unfolding more_behaviors
  behaviors_ends x ts s = turn_ends (behavior_kind ∷ []) (next_behavior ws) (λ z. (next_behavior_good ws {n = 0} z).here) refl x ts s

  pub behaviors_shorter : (x y : FunctionContract × ℕ) (ts rest : List Token) → (next_behavior ws x).parse (plain_list ts) ≡ Ok (y, plain_list rest) → length rest < length ts
  behaviors_shorter x y ts rest e = shorter (next_behavior ws x) (next_behavior_good ws {n = 0} x).here ts rest y e

  pub covers_turn : (x y : FunctionContract × ℕ) (ts rest : List PlainToken) → sees (clause_kind ws) first_cover ts ≡ true → (next_cover ws x).parse ts ≡ Ok (y, rest) → (more_covers ws x).parse ts ≡ (more_covers ws y).parse rest
  unfolding more_covers
  covers_turn x y ts rest s e = turn first_cover (next_cover ws) (λ z. (next_cover_good ws {n = 0} z).here) refl x y ts rest s e

  pub covers_fails : (x : FunctionContract × ℕ) (ts : List PlainToken) (e : ReadFault) → sees (clause_kind ws) first_cover ts ≡ true → Fails e ((next_cover ws x).parse ts) → Fails e ((more_covers ws x).parse ts)
  unfolding more_covers
  covers_fails x ts e s = again e (λ d. turn_fails first_cover (next_cover ws) (λ z. (next_cover_good ws {n = 0} z).here) refl x ts d s)

  pub covers_ends : (x : FunctionContract × ℕ) (ts : List PlainToken) → sees (clause_kind ws) first_cover ts ≡ false → (more_covers ws x).parse ts ≡ Ok (x, ts)
  unfolding more_covers
  covers_ends x ts s = turn_ends first_cover (next_cover ws) (λ z. (next_cover_good ws {n = 0} z).here) refl x ts s

  pub covers_shorter : (x y : FunctionContract × ℕ) (ts rest : List Token) → (next_cover ws x).parse (plain_list ts) ≡ Ok (y, plain_list rest) → length rest < length ts
  covers_shorter x y ts rest e = shorter (next_cover ws x) (next_cover_good ws {n = 0} x).here ts rest y e

  -- ---- names of behaviors

  pub names_turn : (x y : List (Place × ℕ)) (ts rest : List PlainToken) → sees (formula_kind ws) (mark_kind comma ∷ []) ts ≡ true → (next_name ws x).parse ts ≡ Ok (y, rest) → (more_names ws x).parse ts ≡ (more_names ws y).parse rest
  unfolding more_names
  names_turn x y ts rest s e = turn (mark_kind comma ∷ []) (next_name ws) (λ z. (next_name_good ws {n = 0} z).here) refl x y ts rest s e

  pub names_fails : (x : List (Place × ℕ)) (ts : List PlainToken) (e : ReadFault) → sees (formula_kind ws) (mark_kind comma ∷ []) ts ≡ true → Fails e ((next_name ws x).parse ts) → Fails e ((more_names ws x).parse ts)
  unfolding more_names
  names_fails x ts e s = again e (λ d. turn_fails (mark_kind comma ∷ []) (next_name ws) (λ z. (next_name_good ws {n = 0} z).here) refl x ts d s)

  pub names_ends : (x : List (Place × ℕ)) (ts : List PlainToken) → sees (formula_kind ws) (mark_kind comma ∷ []) ts ≡ false → (more_names ws x).parse ts ≡ Ok (x, ts)
  unfolding more_names
  names_ends x ts s = turn_ends (mark_kind comma ∷ []) (next_name ws) (λ z. (next_name_good ws {n = 0} z).here) refl x ts s

  pub names_shorter : (x y : List (Place × ℕ)) (ts rest : List Token) → (next_name ws x).parse (plain_list ts) ≡ Ok (y, plain_list rest) → length rest < length ts
  names_shorter x y ts rest e = shorter (next_name ws x) (next_name_good ws {n = 0} x).here ts rest y e

-- ---- what is passed over

pub passed_turn : (ts rest : List PlainToken) → sees passed_kind (1 ∷ []) ts ≡ true → (one passed).parse ts ≡ Ok (tt {0}, rest) → passed_over.parse ts ≡ passed_over.parse rest
unfolding passed_over
passed_turn ts rest s e = turn (1 ∷ []) (λ _. one passed) (λ _. (passed_good {n = 0}).here) refl (tt {0}) (tt {0}) ts rest s e

pub passed_fails : (ts : List PlainToken) (e : ReadFault) → sees passed_kind (1 ∷ []) ts ≡ true → Fails e ((one passed).parse ts) → Fails e (passed_over.parse ts)
unfolding passed_over
passed_fails ts e s = again e (λ d. turn_fails (1 ∷ []) (λ _. one passed) (λ _. (passed_good {n = 0}).here) refl (tt {0}) ts d s)

pub passed_ends : (ts : List PlainToken) → sees passed_kind (1 ∷ []) ts ≡ false → passed_over.parse ts ≡ Ok (tt {0}, ts)
unfolding passed_over
passed_ends ts s = turn_ends (1 ∷ []) (λ _. one passed) (λ _. (passed_good {n = 0}).here) refl (tt {0}) ts s

-- ---- what the code of each repetition cites

pub ruleset passed_rules = (passed_turn, passed_fails, passed_ends)

pub ruleset joined_rules = (joined_turn, joined_fails, joined_ends)

pub ruleset sum_rules = (sum_turn, sum_fails, sum_ends)

pub ruleset postfix_rules = (postfix_turn, postfix_fails, postfix_ends)

pub ruleset zones_rules = (zones_turn, zones_fails, zones_end)

pub ruleset clauses_rules = (clauses_turn, clauses_fails, clauses_ends, clauses_shorter)

pub ruleset behaviors_rules = (behaviors_turn, behaviors_fails, behaviors_ends, behaviors_shorter)

pub ruleset covers_rules = (covers_turn, covers_fails, covers_ends, covers_shorter)

pub ruleset names_rules = (names_turn, names_fails, names_ends, names_shorter)

pub ruleset owns_rules = (owns_turn, owns_fails, owns_ends, owns_shorter)

pub ruleset loops_rules = (loops_turn, loops_fails, loops_ends, loops_shorter)
