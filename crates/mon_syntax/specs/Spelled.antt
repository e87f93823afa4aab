-- Ours: the phases of a text in monitored C.
-- Which texts are monitored programs, and which are refused, why: by tokens, by grammar, by names and types, and for want of room or of `main`.
use Rattle.std.specs.Prelude.{◌≡◌, ℕ, List, [], ◌∷◌, map, Option, Some, None, Result, Ok, Err, Bool, false, true, ◌&&◌, if◌then◌else◌, codes, bytes_eq}
use Rattle.std.specs.Prelude.{◌+◌, nat_lt, unsigned_abs, option_map}
use Rattle.grammar.specs.Syntax as grammar
use Rattle.grammar.specs.Exact.{Accepts, Refused}
use Rattle.c_syntax.specs.RefusalCodes.{globals_code, main_code}
use Rattle.c_syntax.specs.declared.place.Place.{Place}
use Rattle.c_syntax.specs.Tokens.{PlainTokens}
use Rattle.c_syntax.specs.Programs.{PlainRefusal}
use Rattle.c_model.specs.Places.{first_place}
use Rattle.c_model.specs.MonitoredTokens.{monitored_tokens}
use Rattle.c_model.specs.TokenWords.{refused_at_place, syntax_refusal}
use Rattle.mon_syntax.specs.declared.tree.MonType.{MonType}
use Rattle.mon_syntax.specs.declared.tree.MonType.TheVariants.{I32}
use Rattle.mon_syntax.specs.Trees.{MonitoredProgram}
use Rattle.mon_syntax.specs.Words.{word_of}
use Rattle.mon_syntax.specs.Parsed.{ParsedRegister, ParsedFunction, ParsedGlobal, ParsedProgram}
use Rattle.mon_syntax.specs.Grammar as form
use Rattle.c_model.specs.Limits.{globals_bytes}
use Rattle.c_model.specs.Memory.{rounded}
use Rattle.mon_syntax.specs.Parsed.{NameUse}
use Rattle.mon_syntax.specs.Grammar.{Vocabulary, text}
use Rattle.mon_syntax.specs.Checking.{Fault, same_type, word_bytes, checked_program}

-- ---- the tree of a text

-- what the words of a text are
abbrev pub vocabulary : PlainTokens → Vocabulary
vocabulary ts = map word_of ts.names

-- the tokens are read as this tree
abbrev pub IsRead : PlainTokens → ParsedProgram → Type 0
IsRead ts p = Accepts (text (vocabulary ts)) ts.list p

-- ---- E5 and E6, at a token

abbrev pub check_refusal : PlainTokens → Fault → PlainRefusal
check_refusal ts f = refused_at_place ts f.code f.place

abbrev pub checked : PlainTokens → ParsedProgram → Result MonitoredProgram Fault
checked ts p = checked_program ts.names (vocabulary ts) p

-- ---- E12: the global whose rounded size takes the sum past the segment

-- after globals that take so many bytes
abbrev pub first_too_large : ℕ → List ParsedGlobal → Option NameUse
first_too_large taken [] = None
first_too_large taken (g ∷ gs) =
    let sum = taken + rounded (unsigned_abs g.size) in
    if nat_lt globals_bytes sum then Some g.name else first_too_large sum gs

abbrev pub too_large : List (List ℕ) → NameUse → PlainRefusal
too_large names x = record { code = globals_code; place = x.place; construct = word_bytes names x.number }

abbrev pub room_refusal : List (List ℕ) → List ParsedGlobal → Option PlainRefusal
room_refusal names gs = option_map (too_large names) (first_too_large 0 gs)

-- ---- E13: no `main`, or one that isn't `i32 main(void)`

abbrev pub no_main : Place → PlainRefusal
no_main at = record { code = main_code; place = at; construct = codes "main" }

abbrev pub is_i32 : Option MonType → Bool
is_i32 None = false
is_i32 (Some t) = same_type t I32

abbrev pub has_none : List ParsedRegister → Bool
has_none [] = true
has_none (r ∷ rs) = false

abbrev pub main_in : List (List ℕ) → List ParsedFunction → Option ParsedFunction
main_in names [] = None
main_in names (f ∷ fs) = if bytes_eq (word_bytes names f.name.number) (codes "main") then Some f else main_in names fs

abbrev pub is_main : ParsedFunction → Bool
is_main f = is_i32 f.result && has_none f.parameters

-- ---- the last phase: what comes first in the text, and a missing `main` comes at its beginning

-- where the globals are refused, or not
abbrev pub last_of : Option PlainRefusal → Option ParsedFunction → Option PlainRefusal
last_of room None = Some (no_main first_place)
last_of (Some r) (Some f) = Some r
last_of None (Some f) = if is_main f then None else Some (no_main f.name.place)

abbrev pub last_refusal : List (List ℕ) → ParsedProgram → Option PlainRefusal
last_refusal names p = last_of (room_refusal names p.globals) (main_in names p.functions)

-- ---- texts

-- the text spells the program
pub record Spells (text : List ℕ) (m : MonitoredProgram) : Type 0 where
  pub tokens : PlainTokens
  pub has : monitored_tokens text ≡ Ok tokens
  pub tree : ParsedProgram
  pub read : IsRead tokens tree
  pub is : checked tokens tree ≡ Ok m
  pub whole : last_refusal tokens.names tree ≡ None

-- the text is refused, by the first of four phases that finds a fault
pub data IsMonitoredRefusal (text : List ℕ) (r : PlainRefusal) : Type 0 where
  ByTokens : monitored_tokens text ≡ Err r → IsMonitoredRefusal text r
  ByGrammar : (ts : PlainTokens) (f : grammar.ParseFault) → monitored_tokens text ≡ Ok ts → Refused (form.text (vocabulary ts)) ts.list f
      → ((p : ParsedProgram) → IsRead ts p → ⊥) → r ≡ syntax_refusal ts f → IsMonitoredRefusal text r
  ByNamesAndTypes : (ts : PlainTokens) (p : ParsedProgram) (f : Fault) → monitored_tokens text ≡ Ok ts → IsRead ts p → checked ts p ≡ Err f
      → r ≡ check_refusal ts f → IsMonitoredRefusal text r
  AsAWhole : (ts : PlainTokens) (p : ParsedProgram) (m : MonitoredProgram) → monitored_tokens text ≡ Ok ts → IsRead ts p → checked ts p ≡ Ok m
      → last_refusal ts.names p ≡ Some r → IsMonitoredRefusal text r
