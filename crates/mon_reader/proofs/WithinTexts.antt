-- What is read of a text keeps to the limits, and so what a text spells is valid.
use Rattle.std.proofs.Common.{◌≡◌, ℕ, ◌<◌, List, [], ◌∷◌, length, Option, Result, Ok, Err, arith}
use Rattle.std.specs.Prelude.{MatchResult, IfOk}
use Rattle.std.specs.List.{AllByRecursion}
use Rattle.grammar.specs.Syntax.{one}
use Rattle.grammar.proofs.Readings.{within_gives, within_then, within_choice, within_many}
use Rattle.c_syntax.specs.Tokens.{PlainTokens}
use Rattle.c_model.specs.MonitoredTokens.{monitored_tokens}
use Rattle.c_syntax.specs.declared.refusal.FrontFault.{FrontFault}
use Rattle.c_model.specs.Punctuators.{semicolon, assign, left_paren, right_paren, left_brace, right_brace, comma}
use Rattle.c_model.specs.Terminals.{placed}
use Rattle.mon_syntax.specs.declared.tree.MonType.{MonType}
use Rattle.mon_syntax.specs.declared.tree.MonProgram.{MonProgram}
use Rattle.mon_syntax.specs.Trees.{MonitoredProgram, plain_program}
use Rattle.mon_syntax.specs.Parsed.{NameUse, ParsedRegister, ParsedFunction, ParsedGlobal, ParsedProgram}
use Rattle.mon_syntax.specs.Grammar.{type_of, result, fixed, mark, is_head}
use Rattle.mon_syntax.specs.Grammar.{Vocabulary, type_kind, void_kind, mark_kind, kind, first_function, register, registers}
use Rattle.mon_syntax.specs.Grammar.{parameter, next_parameter, some_parameters, parameters, function_body, function, one_more_function, functions, text}
use Rattle.mon_syntax.specs.Grammar.{static_kind, const_kind, char_kind, length_of_global, zeros, literal, global, one_more_global, globals}
use Rattle.mon_syntax.specs.Valid.{IsValid}
use Rattle.mon_syntax.specs.Spelled.{vocabulary, IsRead, Spells}
use Rattle.mon_typing.specs.Within.{IsGlobalWithin, IsFunctionWithin, IsProgramWithin}
use Rattle.mon_typing.proofs.Validity.{checked_is_valid}
use Rattle.mon_typing.proofs.Words.{tokens_have_names}
use Rattle.mon_reader.specs.Answers.{Refuses}
use Rattle.mon_reader.proofs.Lexed.{tokens_lexed}
use Rattle.mon_reader.proofs.WithinExpressions.{all_joined, Each, after, string_each}
use Rattle.mon_reader.proofs.WithinStatements.{name_each, statements_each, statement_each}

module _ (size : ℕ) (ws : Vocabulary) where
  -- ---- registers

  abbrev Named : ParsedRegister → Type 0
  Named r = r.name.number < size

  abbrev AreNamed : List ParsedRegister → Type 0
  AreNamed rs = AllByRecursion Named rs

  register_each : (rs : List ParsedRegister) → AreNamed rs → Each size ws (register ws rs) AreNamed
  unfolding register
  register_each rs h = after size ws (one (placed (type_of ws))) (λ t. within_then (name_each size ws) (λ x p. after size ws (mark ws semicolon) (λ _. within_gives _ (all_joined Named rs _ h p))))

  registers_each : Each size ws (registers ws) AreNamed
  unfolding registers
  registers_each = within_many (kind ws) (λ _. type_kind ∷ []) {P = AreNamed} register_each [] tt

  parameter_each : Each size ws (parameter ws) Named
  unfolding parameter
  parameter_each = after size ws (one (placed (type_of ws))) (λ t. within_then (name_each size ws) (λ x p. within_gives _ p))

  next_each : (ps : List ParsedRegister) → AreNamed ps → Each size ws (next_parameter ws ps) AreNamed
  unfolding next_parameter
  next_each ps h = after size ws (mark ws comma) (λ _. within_then parameter_each (λ p q. within_gives _ (all_joined Named ps p h q)))

  some_each : Each size ws (some_parameters ws) AreNamed
  unfolding some_parameters
  some_each = within_then parameter_each (λ p q. within_many (kind ws) (λ _. mark_kind comma ∷ []) {P = AreNamed} next_each (p ∷ []) (q, tt))

  parameters_each : Each size ws (parameters ws) AreNamed
  unfolding parameters
  parameters_each = within_choice (kind ws) (void_kind ∷ []) (after size ws (fixed ws void_kind) (λ _. within_gives [] tt)) some_each

  -- ---- functions

  body_each : (r : Option MonType) (f : NameUse) (ps : List ParsedRegister) → f.number < size → AreNamed ps → Each size ws (function_body ws r f ps) (IsFunctionWithin ws size)
  unfolding function_body
  body_each r f ps h p =
      after size ws (mark ws left_brace) (λ _. within_then registers_each (λ rs q. within_then (statements_each size ws 1999 (statement_each size ws 1999)) (λ xs s. after size ws (mark ws right_brace) (λ _. within_gives _ (
      record { name = h; parameters = p; registers = q; body = s.within; nested = let d = s.deep in omega (arith, d) })))))

  function_each : Each size ws (function ws) (IsFunctionWithin ws size)
  unfolding function
  function_each = after size ws (result ws) (λ r. within_then (name_each size ws) (λ f h. after size ws (mark ws left_paren) (λ _. within_then parameters_each (λ ps p. after size ws (mark ws right_paren) (λ _. body_each r f ps h p)))))

  abbrev AreFunctions : List ParsedFunction → Type 0
  AreFunctions fs = AllByRecursion (IsFunctionWithin ws size) fs

  one_more_each : (fs : List ParsedFunction) → AreFunctions fs → Each size ws (one_more_function ws fs) AreFunctions
  unfolding one_more_function
  one_more_each fs h = within_then function_each (λ f p. within_gives _ (all_joined (IsFunctionWithin ws size) fs f h p))

  functions_each : Each size ws (functions ws) AreFunctions
  unfolding functions
  functions_each = within_many (kind ws) (λ _. first_function) {P = AreFunctions} one_more_each [] tt

  -- ---- globals

  zeros_each : Each size ws (zeros ws) (IsGlobalWithin size)
  unfolding zeros
  zeros_each =
      after size ws (fixed ws char_kind) (λ _. within_then (name_each size ws) (λ x h. after size ws (length_of_global ws) (λ n.
      after size ws (mark ws semicolon) (λ _. within_gives _ (record { name = h; literal = tt })))))

  literal_each : Each size ws (literal ws) (IsGlobalWithin size)
  unfolding literal
  literal_each =
      after size ws (fixed ws const_kind) (λ _. after size ws (fixed ws char_kind) (λ _. within_then (name_each size ws) (λ x h.
      after size ws (length_of_global ws) (λ n. after size ws (mark ws assign) (λ _. within_then (string_each size ws) (λ s b.
      after size ws (mark ws semicolon) (λ _. within_gives _ (record { name = h; literal = b }))))))))

  global_each : Each size ws (global ws) (IsGlobalWithin size)
  unfolding global
  global_each = after size ws (fixed ws static_kind) (λ _. within_choice (kind ws) (char_kind ∷ []) zeros_each literal_each)

  abbrev AreGlobals : List ParsedGlobal → Type 0
  AreGlobals gs = AllByRecursion (IsGlobalWithin size) gs

  one_global_each : (gs : List ParsedGlobal) → AreGlobals gs → Each size ws (one_more_global ws gs) AreGlobals
  unfolding one_more_global
  one_global_each gs h = within_then global_each (λ g p. within_gives _ (all_joined (IsGlobalWithin size) gs g h p))

  globals_each : Each size ws (globals ws) AreGlobals
  unfolding globals
  globals_each = within_many (kind ws) (λ _. static_kind ∷ []) {P = AreGlobals} one_global_each [] tt

  -- ---- texts

  text_each : Each size ws (text ws) (IsProgramWithin ws size)
  unfolding text
  text_each = after size ws (one (is_head ws)) (λ _. within_then globals_each (λ gs h. within_then functions_each (λ fs g. within_gives _ (record { globals = h; functions = g }))))

-- a tree that is read keeps to the limits, to its names and to the steps of its loops
read_within : (text : List ℕ) (ts : PlainTokens) (p : ParsedProgram) → monitored_tokens text ≡ Ok ts → IsRead ts p → IsProgramWithin (vocabulary ts) (length ts.names) p
read_within source ts p e r = (text_each (length ts.names) (vocabulary ts)).holds ts.list p (tokens_lexed source ts e) r.reading r.within

pub spelled_valid : (text : List ℕ) (m : MonitoredProgram) → Spells text m → IsValid m
spelled_valid source m s = checked_is_valid s.tokens.names s.tree m (tokens_have_names source s.tokens s.has) (read_within source s.tokens s.tree s.has s.read) s.is s.whole

pub answer_valid : (text : List ℕ) (r : Result MonProgram FrontFault) → MatchResult r (λ m. Spells text (plain_program m)) (λ e. Refuses e text) → IfOk r (λ m. IsValid (plain_program m))
answer_valid source (Ok m) h = spelled_valid source (plain_program m) h
answer_valid source (Err e) h = tt
