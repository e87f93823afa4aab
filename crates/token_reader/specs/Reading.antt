-- Ours: how the code of a production compares with its grammar (C99 6.5 to 6.9, and that of monitored C).
-- What a function returned is what the production gives, unless memory ran out.
use Rattle.std.specs.Prelude.{◌≡◌, ℕ, List, map, Result, Ok, Err}
use Rattle.std.specs.Borrow.{Bor}
use Rattle.grammar.specs.Syntax.{ParseFault, At, Over}
use Rattle.c_syntax.specs.declared.token.Token.{Token}
use Rattle.c_syntax.specs.Tokens.{PlainToken, plain_token}
use Rattle.c_syntax.specs.declared.fault.Limit.{Limit}
use Rattle.c_syntax.specs.declared.fault.Limit.TheVariants as limits
use Rattle.c_syntax.specs.declared.fault.ReadFault.{ReadFault}
use Rattle.c_syntax.specs.declared.fault.ReadFault.TheVariants as fault
use Rattle.c_model.specs.Terminals.{expression_limit, nesting_limit}

abbrev pub plain_list : List Token → List PlainToken
plain_list ts = map plain_token ts

-- a table of words, by their bytes
abbrev pub plain_words : {W : Type 0} → List (Bor (List ℕ) × W) → List (List ℕ × W)
plain_words table = map (λ x. (x.0.now, x.1)) table

abbrev pub label : Limit → ℕ
label limits.Expression = expression_limit
label limits.Nesting = nesting_limit

abbrev pub Fails : {Y : Type 0} → ReadFault → Result Y ParseFault → Type 0
Fails (fault.At n) read = read ≡ Err (At n)
Fails (fault.Over limit n) read = read ≡ Err (Over (label limit) n)
Fails fault.Memory read = Unit {0}

abbrev pub Gives : {X Y : Type 0} → (X → Y) → Result X ReadFault → Result Y ParseFault → Type 0
Gives view (Ok x) read = read ≡ Ok (view x)
Gives view (Err e) read = Fails e read

-- a fault of the tokens: a call that takes no memory is never out of it
abbrev pub TakesNoMemory : ReadFault → Type 0
TakesNoMemory (fault.At n) = Unit {0}
TakesNoMemory (fault.Over limit n) = Unit {0}
TakesNoMemory fault.Memory = ⊥
