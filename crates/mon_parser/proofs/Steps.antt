-- What a production gives, step by step.
use Rattle.std.proofs.Common.{◌≡◌, ℕ, zero, suc, Option, ◌-◌, ◌<◌, Bool, true, false, List, [], ◌∷◌, ◌++◌, length, length-append, Ok, Err, refl, ap, subst, arith}
use Rattle.std.proofs.lemmas.List.{length-map}
use Rattle.grammar.specs.Syntax.{Syntax, At, Over, sees}
use Rattle.grammar.proofs.Productions.{turn, turn_fails, turn_ends}
use Rattle.c_syntax.specs.declared.token.Token.{Token}
use Rattle.c_syntax.specs.Tokens.{PlainToken, plain_token}
use Rattle.c_model.specs.Punctuators.{left_paren, comma}
use Rattle.c_model.specs.Terminals.{expression_limit, nesting_limit}
use Rattle.mon_syntax.specs.declared.tree.MonType.{MonType}
use Rattle.mon_syntax.specs.Parsed.{NameUse, ParsedArgument, ParsedStatement, ParsedRegister, ParsedFunction, ParsedGlobal}
use Rattle.mon_syntax.specs.Grammar.{Vocabulary, LoopRead, type_kind, static_kind, mark_kind, kind, first_statement, first_function, mark, opened, behind_paren, behind_opened, expression_in, next_argument, one_more}
use Rattle.mon_syntax.specs.Grammar.{one_more_in_loop, statement_with, statement_in, statements, register, registers, next_parameter, function_body, one_more_function}
use Rattle.mon_syntax.specs.Grammar.{one_more_global, globals, functions, text}
use Rattle.c_syntax.specs.declared.fault.ReadFault.{ReadFault}
use Rattle.mon_parser.specs.Reading.{plain_operation, behind_in_parts, function_statements, body_in_parts, text_in_parts}
use Rattle.mon_parser.specs.Reading.{more_arguments, more_statements, more_in_loop, more_registers, more_parameters, more_functions, more_globals}
use Rattle.token_reader.specs.Reading.{plain_list, Fails}
use Rattle.token_reader.proofs.Faults.{again}
use Rattle.mon_syntax.proofs.ExactTokens.{IsRead}
use Rattle.mon_syntax.proofs.ExactExpressions.{next_argument_good}
use Rattle.mon_syntax.proofs.ExactStatements.{one_more_good, one_more_in_loop_good, statement_good}
use Rattle.mon_syntax.proofs.ExactTexts.{register_good, next_parameter_good, one_more_function_good, one_more_global_good}

-- ---- limits

module _ (ws : Vocabulary) where
  pub opened_is : (n : ℕ) (ts : List PlainToken) → 0 < n → (opened ws n).parse ts ≡ (mark ws left_paren).parse ts
  unfolding opened
  opened_is zero ts h = absurd (omega arith)
  opened_is (suc n) ts h = refl

  pub opened_over : (n : ℕ) (ts : List PlainToken) → n ≡ 0 → sees (kind ws) (mark_kind left_paren ∷ []) ts ≡ true → (opened ws n).parse ts ≡ Err (Over expression_limit (length ts))
  unfolding opened
  opened_over zero ts h s = rw s refl
  opened_over (suc n) ts h s = absurd (omega arith)

  pub opened_at : (n : ℕ) (ts : List PlainToken) → n ≡ 0 → sees (kind ws) (mark_kind left_paren ∷ []) ts ≡ false → (opened ws n).parse ts ≡ Err (At (length ts))
  unfolding opened
  opened_at zero ts h s = rw s refl
  opened_at (suc n) ts h s = absurd (omega arith)

  pub behind_is : (n : ℕ) (ts : List PlainToken) → 0 < n → (behind_opened ws n).parse ts ≡ (behind_in_parts ws (n - 1)).parse ts
  unfolding behind_opened behind_paren expression_in plain_operation behind_in_parts
  behind_is zero ts h = absurd (omega arith)
  behind_is (suc n) ts h = let e : suc n - 1 ≡ n = omega arith in rw e refl

  pub behind_none : (n : ℕ) (ts : List PlainToken) → n ≡ 0 → (behind_opened ws n).parse ts ≡ Err (At (length ts))
  unfolding behind_opened
  behind_none zero ts h = refl
  behind_none (suc n) ts h = absurd (omega arith)

  pub body_is : (r : Option MonType) (f : NameUse) (ps : List ParsedRegister) (ts : List PlainToken) → (function_body ws r f ps).parse ts ≡ (body_in_parts ws r f ps).parse ts
  unfolding function_body registers statements more_registers more_statements function_statements body_in_parts
  body_is r f ps ts = refl

  pub text_is : (ts : List PlainToken) → (text ws).parse ts ≡ (text_in_parts ws).parse ts
  unfolding text globals functions more_globals more_functions text_in_parts
  text_is ts = refl

  pub statement_is : (n : ℕ) (no_step : Bool) (ts : List PlainToken) → 0 < n → (statement_in ws n no_step).parse ts ≡ (statement_with ws (statement_in ws (n - 1)) no_step).parse ts
  unfolding statement_in
  statement_is zero no_step ts h = absurd (omega arith)
  statement_is (suc n) no_step ts h = let e : suc n - 1 ≡ n = omega arith in rw e refl

  pub statement_over : (n : ℕ) (no_step : Bool) (ts : List PlainToken) → n ≡ 0 → sees (kind ws) first_statement ts ≡ true → (statement_in ws n no_step).parse ts ≡ Err (Over nesting_limit (length ts))
  unfolding statement_in
  statement_over zero no_step ts h s = rw s refl
  statement_over (suc n) no_step ts h s = absurd (omega arith)

  pub statement_at : (n : ℕ) (no_step : Bool) (ts : List PlainToken) → n ≡ 0 → sees (kind ws) first_statement ts ≡ false → (statement_in ws n no_step).parse ts ≡ Err (At (length ts))
  unfolding statement_in
  statement_at zero no_step ts h s = rw s refl
  statement_at (suc n) no_step ts h s = absurd (omega arith)

-- ---- what is read is shorter

filled : {T : Type 0} (front ts rest : List T) → ts ≡ front ++ rest → (front ≡ [] → ⊥) → length rest < length ts
filled [] ts rest e h = absurd (h refl)
filled (t ∷ front) ts rest e h = omega (arith, ap length e, length-append (t ∷ front) rest)

shorter : {A : Type 0} (ws : Vocabulary) (G : Syntax PlainToken A) {first more : List ℕ} → IsRead ws G false first more → (ts rest : List Token) (x : A) → G.parse (plain_list ts) ≡ Ok (x, plain_list rest) → length rest < length ts
shorter ws G g ts rest x e =
    let t = g.here.takes (plain_list ts) x (plain_list rest) e in
    let is = t.is in
    let k : length (plain_list rest) < length (plain_list ts) = filled t.front (plain_list ts) (plain_list rest) t.parts (λ z. let r = g.here.filled x (subst (λ (w : List PlainToken). G.reads w x) z is) in cc) in
    omega (arith, length-map ts plain_token, length-map rest plain_token)

-- ---- a turn of a repetition: one more, a fault, and none

module _ (ws : Vocabulary) where
  pub arguments_turn : (x y : List ParsedArgument) (ts rest : List PlainToken) → sees (kind ws) (mark_kind comma ∷ []) ts ≡ true → (next_argument ws x).parse ts ≡ Ok (y, rest) → (more_arguments ws x).parse ts ≡ (more_arguments ws y).parse rest
  unfolding more_arguments
  arguments_turn x y ts rest s e = turn (mark_kind comma ∷ []) (next_argument ws) (λ z. (next_argument_good ws z).here) refl x y ts rest s e

  pub arguments_fails : (x : List ParsedArgument) (ts : List PlainToken) (e : ReadFault) → sees (kind ws) (mark_kind comma ∷ []) ts ≡ true → Fails e ((next_argument ws x).parse ts) → Fails e ((more_arguments ws x).parse ts)
  unfolding more_arguments
  arguments_fails x ts e s = again e (λ d. turn_fails (mark_kind comma ∷ []) (next_argument ws) (λ z. (next_argument_good ws z).here) refl x ts d s)

  pub arguments_ends : (x : List ParsedArgument) (ts : List PlainToken) → sees (kind ws) (mark_kind comma ∷ []) ts ≡ false → (more_arguments ws x).parse ts ≡ Ok (x, ts)
  unfolding more_arguments
  arguments_ends x ts s = turn_ends (mark_kind comma ∷ []) (next_argument ws) (λ z. (next_argument_good ws z).here) refl x ts s

  pub arguments_shorter : (x y : List ParsedArgument) (ts rest : List Token) → (next_argument ws x).parse (plain_list ts) ≡ Ok (y, plain_list rest) → length rest < length ts
  arguments_shorter x y ts rest e = shorter ws (next_argument ws x) (next_argument_good ws x) ts rest y e

  pub registers_turn : (x y : List ParsedRegister) (ts rest : List PlainToken) → sees (kind ws) (type_kind ∷ []) ts ≡ true → (register ws x).parse ts ≡ Ok (y, rest) → (more_registers ws x).parse ts ≡ (more_registers ws y).parse rest
  unfolding more_registers
  registers_turn x y ts rest s e = turn (type_kind ∷ []) (register ws) (λ z. (register_good ws z).here) refl x y ts rest s e

  pub registers_fails : (x : List ParsedRegister) (ts : List PlainToken) (e : ReadFault) → sees (kind ws) (type_kind ∷ []) ts ≡ true → Fails e ((register ws x).parse ts) → Fails e ((more_registers ws x).parse ts)
  unfolding more_registers
  registers_fails x ts e s = again e (λ d. turn_fails (type_kind ∷ []) (register ws) (λ z. (register_good ws z).here) refl x ts d s)

  pub registers_ends : (x : List ParsedRegister) (ts : List PlainToken) → sees (kind ws) (type_kind ∷ []) ts ≡ false → (more_registers ws x).parse ts ≡ Ok (x, ts)
  unfolding more_registers
  registers_ends x ts s = turn_ends (type_kind ∷ []) (register ws) (λ z. (register_good ws z).here) refl x ts s

  pub registers_shorter : (x y : List ParsedRegister) (ts rest : List Token) → (register ws x).parse (plain_list ts) ≡ Ok (y, plain_list rest) → length rest < length ts
  registers_shorter x y ts rest e = shorter ws (register ws x) (register_good ws x) ts rest y e

  pub parameters_turn : (x y : List ParsedRegister) (ts rest : List PlainToken) → sees (kind ws) (mark_kind comma ∷ []) ts ≡ true → (next_parameter ws x).parse ts ≡ Ok (y, rest) → (more_parameters ws x).parse ts ≡ (more_parameters ws y).parse rest
  unfolding more_parameters
  parameters_turn x y ts rest s e = turn (mark_kind comma ∷ []) (next_parameter ws) (λ z. (next_parameter_good ws z).here) refl x y ts rest s e

  pub parameters_fails : (x : List ParsedRegister) (ts : List PlainToken) (e : ReadFault) → sees (kind ws) (mark_kind comma ∷ []) ts ≡ true → Fails e ((next_parameter ws x).parse ts) → Fails e ((more_parameters ws x).parse ts)
  unfolding more_parameters
  parameters_fails x ts e s = again e (λ d. turn_fails (mark_kind comma ∷ []) (next_parameter ws) (λ z. (next_parameter_good ws z).here) refl x ts d s)

  pub parameters_ends : (x : List ParsedRegister) (ts : List PlainToken) → sees (kind ws) (mark_kind comma ∷ []) ts ≡ false → (more_parameters ws x).parse ts ≡ Ok (x, ts)
  unfolding more_parameters
  parameters_ends x ts s = turn_ends (mark_kind comma ∷ []) (next_parameter ws) (λ z. (next_parameter_good ws z).here) refl x ts s

  pub parameters_shorter : (x y : List ParsedRegister) (ts rest : List Token) → (next_parameter ws x).parse (plain_list ts) ≡ Ok (y, plain_list rest) → length rest < length ts
  parameters_shorter x y ts rest e = shorter ws (next_parameter ws x) (next_parameter_good ws x) ts rest y e

  pub globals_turn : (x y : List ParsedGlobal) (ts rest : List PlainToken) → sees (kind ws) (static_kind ∷ []) ts ≡ true → (one_more_global ws x).parse ts ≡ Ok (y, rest) → (more_globals ws x).parse ts ≡ (more_globals ws y).parse rest
  unfolding more_globals
  globals_turn x y ts rest s e = turn (static_kind ∷ []) (one_more_global ws) (λ z. (one_more_global_good ws z).here) refl x y ts rest s e

  pub globals_fails : (x : List ParsedGlobal) (ts : List PlainToken) (e : ReadFault) → sees (kind ws) (static_kind ∷ []) ts ≡ true → Fails e ((one_more_global ws x).parse ts) → Fails e ((more_globals ws x).parse ts)
  unfolding more_globals
  globals_fails x ts e s = again e (λ d. turn_fails (static_kind ∷ []) (one_more_global ws) (λ z. (one_more_global_good ws z).here) refl x ts d s)

  pub globals_ends : (x : List ParsedGlobal) (ts : List PlainToken) → sees (kind ws) (static_kind ∷ []) ts ≡ false → (more_globals ws x).parse ts ≡ Ok (x, ts)
  unfolding more_globals
  globals_ends x ts s = turn_ends (static_kind ∷ []) (one_more_global ws) (λ z. (one_more_global_good ws z).here) refl x ts s

  pub globals_shorter : (x y : List ParsedGlobal) (ts rest : List Token) → (one_more_global ws x).parse (plain_list ts) ≡ Ok (y, plain_list rest) → length rest < length ts
  globals_shorter x y ts rest e = shorter ws (one_more_global ws x) (one_more_global_good ws x) ts rest y e

  pub functions_turn : (x y : List ParsedFunction) (ts rest : List PlainToken) → sees (kind ws) first_function ts ≡ true → (one_more_function ws x).parse ts ≡ Ok (y, rest) → (more_functions ws x).parse ts ≡ (more_functions ws y).parse rest
  unfolding more_functions
  functions_turn x y ts rest s e = turn first_function (one_more_function ws) (λ z. (one_more_function_good ws z).here) refl x y ts rest s e

  pub functions_fails : (x : List ParsedFunction) (ts : List PlainToken) (e : ReadFault) → sees (kind ws) first_function ts ≡ true → Fails e ((one_more_function ws x).parse ts) → Fails e ((more_functions ws x).parse ts)
  unfolding more_functions
  functions_fails x ts e s = again e (λ d. turn_fails first_function (one_more_function ws) (λ z. (one_more_function_good ws z).here) refl x ts d s)

  pub functions_ends : (x : List ParsedFunction) (ts : List PlainToken) → sees (kind ws) first_function ts ≡ false → (more_functions ws x).parse ts ≡ Ok (x, ts)
  unfolding more_functions
  functions_ends x ts s = turn_ends first_function (one_more_function ws) (λ z. (one_more_function_good ws z).here) refl x ts s

  pub functions_shorter : (x y : List ParsedFunction) (ts rest : List Token) → (one_more_function ws x).parse (plain_list ts) ≡ Ok (y, plain_list rest) → length rest < length ts
  functions_shorter x y ts rest e = shorter ws (one_more_function ws x) (one_more_function_good ws x) ts rest y e

  module _ (n : ℕ) where
    pub statements_turn : (x y : List ParsedStatement) (ts rest : List PlainToken) → sees (kind ws) first_statement ts ≡ true → (one_more ws (statement_in ws n) x).parse ts ≡ Ok (y, rest)
        → (more_statements ws (statement_in ws n) x).parse ts ≡ (more_statements ws (statement_in ws n) y).parse rest
    unfolding more_statements
    statements_turn x y ts rest s e = turn first_statement (one_more ws (statement_in ws n)) (λ z. (one_more_good ws (statement_good ws n) z).here) refl x y ts rest s e

    pub statements_fails : (x : List ParsedStatement) (ts : List PlainToken) (e : ReadFault) → sees (kind ws) first_statement ts ≡ true → Fails e ((one_more ws (statement_in ws n) x).parse ts)
        → Fails e ((more_statements ws (statement_in ws n) x).parse ts)
    unfolding more_statements
    statements_fails x ts e s = again e (λ d. turn_fails first_statement (one_more ws (statement_in ws n)) (λ z. (one_more_good ws (statement_good ws n) z).here) refl x ts d s)

    pub statements_ends : (x : List ParsedStatement) (ts : List PlainToken) → sees (kind ws) first_statement ts ≡ false → (more_statements ws (statement_in ws n) x).parse ts ≡ Ok (x, ts)
    unfolding more_statements
    statements_ends x ts s = turn_ends first_statement (one_more ws (statement_in ws n)) (λ z. (one_more_good ws (statement_good ws n) z).here) refl x ts s

    pub statements_shorter : (x y : List ParsedStatement) (ts rest : List Token) → (one_more ws (statement_in ws n) x).parse (plain_list ts) ≡ Ok (y, plain_list rest) → length rest < length ts
    statements_shorter x y ts rest e = shorter ws (one_more ws (statement_in ws n) x) (one_more_good ws (statement_good ws n) x) ts rest y e

    pub loop_turn : (x y : LoopRead) (ts rest : List PlainToken) → sees (kind ws) first_statement ts ≡ true → (one_more_in_loop ws (statement_in ws n) x).parse ts ≡ Ok (y, rest)
        → (more_in_loop ws (statement_in ws n) x).parse ts ≡ (more_in_loop ws (statement_in ws n) y).parse rest
    unfolding more_in_loop
    loop_turn x y ts rest s e = turn first_statement (one_more_in_loop ws (statement_in ws n)) (λ z. (one_more_in_loop_good ws (statement_good ws n) z).here) refl x y ts rest s e

    pub loop_fails : (x : LoopRead) (ts : List PlainToken) (e : ReadFault) → sees (kind ws) first_statement ts ≡ true → Fails e ((one_more_in_loop ws (statement_in ws n) x).parse ts) → Fails e ((more_in_loop ws (statement_in ws n) x).parse ts)
    unfolding more_in_loop
    loop_fails x ts e s = again e (λ d. turn_fails first_statement (one_more_in_loop ws (statement_in ws n)) (λ z. (one_more_in_loop_good ws (statement_good ws n) z).here) refl x ts d s)

    pub loop_ends : (x : LoopRead) (ts : List PlainToken) → sees (kind ws) first_statement ts ≡ false → (more_in_loop ws (statement_in ws n) x).parse ts ≡ Ok (x, ts)
    unfolding more_in_loop
    loop_ends x ts s = turn_ends first_statement (one_more_in_loop ws (statement_in ws n)) (λ z. (one_more_in_loop_good ws (statement_good ws n) z).here) refl x ts s

    pub loop_shorter : (x y : LoopRead) (ts rest : List Token) → (one_more_in_loop ws (statement_in ws n) x).parse (plain_list ts) ≡ Ok (y, plain_list rest) → length rest < length ts
    loop_shorter x y ts rest e = shorter ws (one_more_in_loop ws (statement_in ws n) x) (one_more_in_loop_good ws (statement_good ws n) x) ts rest y e

-- ---- what the code of each production cites

pub ruleset arguments_rules = (arguments_turn, arguments_fails, arguments_ends, arguments_shorter)

pub ruleset behind_rules = (behind_is, behind_none)

pub ruleset registers_rules = (registers_turn, registers_fails, registers_ends, registers_shorter)

pub ruleset parameters_rules = (parameters_turn, parameters_fails, parameters_ends, parameters_shorter)

pub ruleset functions_rules = (functions_turn, functions_fails, functions_ends, functions_shorter)

pub ruleset globals_rules = (globals_turn, globals_fails, globals_ends, globals_shorter)

pub ruleset statements_rules = (statements_turn, statements_fails, statements_ends, statements_shorter)

pub ruleset statement_rules = (statement_is, statement_over, statement_at)
