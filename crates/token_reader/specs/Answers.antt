-- Ours, in words of the refusals of c_model/specs/TokenWords.
-- What a refusal that is made means.
use Rattle.std.specs.Prelude.{◌≡◌, ℕ, Result, Ok, Err, Vec}
use Rattle.std.specs.declared.alloc.Global.{Global}
use Rattle.grammar.specs.Syntax.{At, Over}
use Rattle.c_syntax.specs.declared.place.Place.{Place}
use Rattle.c_syntax.specs.Tokens.{PlainTokens}
use Rattle.c_syntax.specs.Programs.{PlainRefusal, plain_refusal}
use Rattle.c_syntax.specs.declared.refusal.FrontFault.{FrontFault}
use Rattle.c_syntax.specs.declared.refusal.FrontFault.TheVariants as front
use Rattle.c_syntax.specs.declared.fault.ReadFault.{ReadFault}
use Rattle.c_syntax.specs.declared.fault.ReadFault.TheVariants as fault
use Rattle.c_model.specs.TokenWords.{syntax_refusal}
use Rattle.token_reader.specs.Reading.{label}

-- the refusal, unless memory ran out
abbrev pub RefusesWith : PlainRefusal → FrontFault → Type 0
RefusesWith r front.Memory = Unit {0}
RefusesWith r (front.Refused x) = plain_refusal x ≡ r

-- a refusal, and not out of memory
abbrev pub IsRefusal : FrontFault → Type 0
IsRefusal front.Memory = ⊥
IsRefusal (front.Refused x) = Unit {0}

-- the refusal for a fault
abbrev pub RefusesFault : PlainTokens → ReadFault → FrontFault → Type 0
RefusesFault ts (fault.At n) e = RefusesWith (syntax_refusal ts (At n)) e
RefusesFault ts (fault.Over limit n) e = RefusesWith (syntax_refusal ts (Over (label limit) n)) e
RefusesFault ts fault.Memory e = e ≡ front.Memory

-- the refusal with this code, place and word, where there is a word
abbrev pub RefusesWord : {E : Type 0} → ℕ → Place → Result (Vec ℕ Global) E → FrontFault → Type 0
RefusesWord code at (Ok word) e = RefusesWith (record { code = code; place = at; construct = word.items }) e
RefusesWord code at (Err f) e = e ≡ front.Memory
