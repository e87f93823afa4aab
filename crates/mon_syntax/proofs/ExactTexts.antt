-- The whole text is read exactly.
use Rattle.std.proofs.Common.{true, false, List, [], ◌∷◌, Option, refl}
use Rattle.grammar.specs.Exact.{IsExact}
use Rattle.grammar.proofs.Productions.{seq, either, again_and_again, declared, given}
use Rattle.c_model.specs.Punctuators.{assign, comma, semicolon, left_paren, right_paren, left_brace, right_brace, left_bracket, right_bracket}
use Rattle.mon_syntax.specs.declared.tree.MonType.{MonType}
use Rattle.mon_syntax.specs.Parsed.{NameUse, ParsedRegister, ParsedFunction, ParsedGlobal}
use Rattle.mon_syntax.specs.Grammar.{Vocabulary, type_kind, void_kind, static_kind, const_kind, char_kind, head_kind, mark_kind, kind, first_function, register, registers, result, parameter, next_parameter}
use Rattle.mon_syntax.specs.Grammar.{some_parameters, parameters, function_body, function, one_more_function, functions, length_of_global, zeros, literal, global, one_more_global, globals, text}
use Rattle.mon_syntax.proofs.ExactTokens.{IsRead, fixed_good, number_good, text_good, type_good, head_good}
use Rattle.mon_syntax.proofs.ExactExpressions.{named_good}
use Rattle.mon_syntax.proofs.ExactStatements.{statements_good, statement_good}

module _ (ws : Vocabulary) where
  pub register_good : (rs : List ParsedRegister) → IsRead ws (register ws rs) false (type_kind ∷ []) []
  unfolding register
  register_good rs = seq (type_good ws) (λ t. seq (named_good ws) (λ x. seq (fixed_good ws (mark_kind semicolon)) (λ _. given _) refl) refl) refl

  registers_good : IsRead ws (registers ws) true (type_kind ∷ []) (type_kind ∷ [])
  unfolding registers
  registers_good = declared (again_and_again (type_kind ∷ []) register_good refl []) refl

  result_good : IsRead ws (result ws) false first_function []
  unfolding result
  result_good = declared (either (type_kind ∷ []) (seq (type_good ws) (λ t. given _) refl) (seq (fixed_good ws void_kind) (λ _. given _) refl) refl) refl

  pub parameter_good : IsRead ws (parameter ws) false (type_kind ∷ []) []
  unfolding parameter
  parameter_good = seq (type_good ws) (λ t. seq (named_good ws) (λ x. given _) refl) refl

  pub next_parameter_good : (ps : List ParsedRegister) → IsRead ws (next_parameter ws ps) false (mark_kind comma ∷ []) []
  unfolding next_parameter
  next_parameter_good ps = seq (fixed_good ws (mark_kind comma)) (λ _. seq parameter_good (λ p. given _) refl) refl

  pub some_parameters_good : IsRead ws (some_parameters ws) false (type_kind ∷ []) (mark_kind comma ∷ [])
  unfolding some_parameters
  some_parameters_good = declared (seq parameter_good (λ p. again_and_again (mark_kind comma ∷ []) next_parameter_good refl (p ∷ [])) refl) refl

  parameters_good : IsRead ws (parameters ws) false first_function (mark_kind comma ∷ [])
  unfolding parameters
  parameters_good = declared (either (void_kind ∷ []) (seq (fixed_good ws void_kind) (λ _. given []) refl) some_parameters_good refl) refl

  function_body_good : (r : Option MonType) (f : NameUse) (ps : List ParsedRegister) → IsRead ws (function_body ws r f ps) false (mark_kind left_brace ∷ []) []
  unfolding function_body
  function_body_good r f ps =
      seq (fixed_good ws (mark_kind left_brace)) (λ _. seq registers_good (λ rs. seq (statements_good ws (statement_good ws 1999)) (λ xs. seq (fixed_good ws (mark_kind right_brace)) (λ _. given _) refl) refl) refl) refl

  pub function_good : IsRead ws (function ws) false first_function []
  unfolding function
  function_good =
      seq result_good
      (λ r. seq (named_good ws) (λ f. seq (fixed_good ws (mark_kind left_paren)) (λ _. seq parameters_good (λ ps. seq (fixed_good ws (mark_kind right_paren)) (λ _.
      function_body_good r f ps) refl) refl) refl) refl) refl

  pub one_more_function_good : (fs : List ParsedFunction) → IsRead ws (one_more_function ws fs) false first_function []
  unfolding one_more_function
  one_more_function_good fs = seq function_good (λ f. given _) refl

  functions_good : IsRead ws (functions ws) true first_function first_function
  unfolding functions
  functions_good = declared (again_and_again first_function one_more_function_good refl []) refl

  -- ---- globals

  length_good : IsRead ws (length_of_global ws) false (mark_kind left_bracket ∷ []) []
  unfolding length_of_global
  length_good = seq (fixed_good ws (mark_kind left_bracket)) (λ _. seq (number_good ws) (λ n. seq (fixed_good ws (mark_kind right_bracket)) (λ _. given _) refl) refl) refl

  zeros_good : IsRead ws (zeros ws) false (char_kind ∷ []) []
  unfolding zeros
  zeros_good = seq (fixed_good ws char_kind) (λ _. seq (named_good ws) (λ x. seq length_good (λ n. seq (fixed_good ws (mark_kind semicolon)) (λ _. given _) refl) refl) refl) refl

  literal_good : IsRead ws (literal ws) false (const_kind ∷ []) []
  unfolding literal
  literal_good =
      seq (fixed_good ws const_kind) (λ _. seq (fixed_good ws char_kind) (λ _. seq (named_good ws) (λ x. seq length_good (λ n. seq (fixed_good ws (mark_kind assign)) (λ _.
      seq (text_good ws) (λ s. seq (fixed_good ws (mark_kind semicolon)) (λ _. given _) refl) refl) refl) refl) refl) refl) refl

  global_good : IsRead ws (global ws) false (static_kind ∷ []) []
  unfolding global
  global_good = seq (fixed_good ws static_kind) (λ _. either (char_kind ∷ []) zeros_good literal_good refl) refl

  pub one_more_global_good : (gs : List ParsedGlobal) → IsRead ws (one_more_global ws gs) false (static_kind ∷ []) []
  unfolding one_more_global
  one_more_global_good gs = seq global_good (λ g. given _) refl

  globals_good : IsRead ws (globals ws) true (static_kind ∷ []) (static_kind ∷ [])
  unfolding globals
  globals_good = declared (again_and_again (static_kind ∷ []) one_more_global_good refl []) refl

  whole_good : IsRead ws (text ws) false (head_kind ∷ []) (static_kind ∷ first_function)
  unfolding text
  whole_good = declared (seq (head_good ws) (λ _. seq globals_good (λ gs. seq functions_good (λ fs. given _) refl) refl) refl) refl

  pub text_exact : IsExact (kind ws) (text ws) false (head_kind ∷ []) (λ _. static_kind ∷ first_function)
  text_exact = whole_good.here
