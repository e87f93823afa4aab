-- What the productions of whole texts give, step by step.
use Rattle.std.proofs.Common.{◌≡◌, ◌<◌, true, false, List, [], ◌∷◌, length, Option, Ok, refl}
use Rattle.grammar.specs.Syntax.{sees}
use Rattle.grammar.proofs.Productions.{turn, turn_fails, turn_ends}
use Rattle.c_syntax.specs.declared.token.Token.{Token}
use Rattle.c_syntax.specs.declared.fault.ReadFault.{ReadFault}
use Rattle.c_syntax.specs.Ctypes.{PlainType}
use Rattle.c_syntax.specs.Programs.{FunctionContract}
use Rattle.c_syntax.specs.Tokens.{PlainToken}
use Rattle.c_model.specs.declared.declarations.AnnotationState.{AnnotationState}
use Rattle.c_model.specs.Punctuators.{comma}
use Rattle.c_model.specs.Vocabulary.{Vocabulary}
use Rattle.c_model.specs.ExpressionGrammar.{annot_open_kind, mark_kind, kind}
use Rattle.c_model.specs.ProgramGrammar.{FileParts, next_typedef, next_stray, external, any_kind, more_external}
use Rattle.token_reader.specs.Reading.{plain_list, Fails}
use Rattle.c_parser.specs.Reading.{other_typedefs, more_strays}
use Rattle.token_reader.proofs.Faults.{again}
use Rattle.token_reader.proofs.Shorter.{shorter}
use Rattle.c_parser.proofs.ExactPrograms.{any, next_typedef_good, next_stray_good, external_good}

pub typedefs_turn : (t : PlainType) (x y : FileParts) (ts rest : List PlainToken) → sees (kind []) (mark_kind comma ∷ []) ts ≡ true → (next_typedef t x).parse ts ≡ Ok (y, rest) → (other_typedefs t x).parse ts ≡ (other_typedefs t y).parse rest
unfolding other_typedefs
typedefs_turn t x y ts rest s e = turn (mark_kind comma ∷ []) (next_typedef t) (λ z. (next_typedef_good t z).here) refl x y ts rest s e

pub typedefs_fails : (t : PlainType) (x : FileParts) (ts : List PlainToken) (e : ReadFault) → sees (kind []) (mark_kind comma ∷ []) ts ≡ true → Fails e ((next_typedef t x).parse ts) → Fails e ((other_typedefs t x).parse ts)
unfolding other_typedefs
typedefs_fails t x ts e s = again e (λ d. turn_fails (mark_kind comma ∷ []) (next_typedef t) (λ z. (next_typedef_good t z).here) refl x ts d s)

pub typedefs_ends : (t : PlainType) (x : FileParts) (ts : List PlainToken) → sees (kind []) (mark_kind comma ∷ []) ts ≡ false → (other_typedefs t x).parse ts ≡ Ok (x, ts)
unfolding other_typedefs
typedefs_ends t x ts s = turn_ends (mark_kind comma ∷ []) (next_typedef t) (λ z. (next_typedef_good t z).here) refl x ts s

pub typedefs_shorter : (t : PlainType) (x y : FileParts) (ts rest : List Token) → (next_typedef t x).parse (plain_list ts) ≡ Ok (y, plain_list rest) → length rest < length ts
typedefs_shorter t x y ts rest e = shorter (next_typedef t x) (next_typedef_good t x).here ts rest y e

abbrev Strays : Type 0
Strays = AnnotationState × Option FunctionContract

pub strays_turn : (ws : Vocabulary) (s u : Strays) (ts rest : List PlainToken) → sees (kind ws) (annot_open_kind ∷ []) ts ≡ true → (next_stray ws s).parse ts ≡ Ok (u, rest) → (more_strays ws s).parse ts ≡ (more_strays ws u).parse rest
unfolding more_strays
strays_turn ws s u ts rest e r = turn (annot_open_kind ∷ []) (next_stray ws) (λ z. (next_stray_good ws z).here) refl s u ts rest e r

pub strays_fails : (ws : Vocabulary) (s : Strays) (ts : List PlainToken) (e : ReadFault) → sees (kind ws) (annot_open_kind ∷ []) ts ≡ true → Fails e ((next_stray ws s).parse ts) → Fails e ((more_strays ws s).parse ts)
unfolding more_strays
strays_fails ws s ts e is f = again e (λ d. turn_fails (annot_open_kind ∷ []) (next_stray ws) (λ z. (next_stray_good ws z).here) refl s ts d is) f

pub strays_ends : (ws : Vocabulary) (s : Strays) (ts : List PlainToken) → sees (kind ws) (annot_open_kind ∷ []) ts ≡ false → (more_strays ws s).parse ts ≡ Ok (s, ts)
unfolding more_strays
strays_ends ws s ts e = turn_ends (annot_open_kind ∷ []) (next_stray ws) (λ z. (next_stray_good ws z).here) refl s ts e

pub strays_shorter : (ws : Vocabulary) (s u : Strays) (ts rest : List Token) → (next_stray ws s).parse (plain_list ts) ≡ Ok (u, plain_list rest) → length rest < length ts
strays_shorter ws s u ts rest e = shorter (next_stray ws s) (next_stray_good ws s).here ts rest u e

any_sees : (ts : List Token) → (length ts ≡ 0 → ⊥) → sees any_kind any (plain_list ts) ≡ true
any_sees [] h = absurd (h refl)
any_sees (t ∷ ts) h = refl

pub externals_turn : (x y : FileParts) (ts rest : List Token) → (length ts ≡ 0 → ⊥) → (external x).parse (plain_list ts) ≡ Ok (y, plain_list rest) → (more_external x).parse (plain_list ts) ≡ (more_external y).parse (plain_list rest)
unfolding more_external
externals_turn x y ts rest s e = turn any external (λ z. (external_good z).here) refl x y (plain_list ts) (plain_list rest) (any_sees ts s) e

pub externals_fails : (x : FileParts) (ts : List Token) (e : ReadFault) → (length ts ≡ 0 → ⊥) → Fails e ((external x).parse (plain_list ts)) → Fails e ((more_external x).parse (plain_list ts))
unfolding more_external
externals_fails x ts e s = again e (λ d. turn_fails any external (λ z. (external_good z).here) refl x (plain_list ts) d (any_sees ts s))

none_left : (x : FileParts) → (more_external x).parse [] ≡ Ok (x, [])
unfolding more_external
none_left x = turn_ends any external (λ z. (external_good z).here) refl x [] refl

pub externals_ends : (x : FileParts) (ts : List Token) → length ts ≡ 0 → (more_external x).parse (plain_list ts) ≡ Ok (x, plain_list ts)
externals_ends x [] z = none_left x
externals_ends x (t ∷ ts) z = absurd cc

pub externals_shorter : (x y : FileParts) (ts rest : List Token) → (external x).parse (plain_list ts) ≡ Ok (y, plain_list rest) → length rest < length ts
externals_shorter x y ts rest e = shorter (external x) (external_good x).here ts rest y e

-- ---- what the code of each production cites

pub ruleset typedefs_rules = (typedefs_turn, typedefs_fails, typedefs_ends, typedefs_shorter)

pub ruleset strays_rules = (strays_turn, strays_fails, strays_ends, strays_shorter)

pub ruleset externals_rules = (externals_turn, externals_fails, externals_ends, externals_shorter)
