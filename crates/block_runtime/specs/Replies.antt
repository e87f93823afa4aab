-- Ours: how the runtime's methods answer as the calls that they stand for.
use Rattle.std.specs.Prelude.{◌≡◌, Option, Some, None, Result, MatchResult}
use Rattle.block_runtime.specs.declared.RunFault.{RunFault}
use Rattle.block_runtime.specs.declared.RunFault.TheVariants as fault
use Rattle.mon_syntax.specs.Memory.{Gives, IsFull, Faults}
use Rattle.mon_syntax.specs.Flat.{Flat, Answer, flat_enter}

abbrev pub refused : {A : Type 0} → RunFault → Answer A
refused (fault.Full full) = IsFull full
refused fault.Fault = Faults

-- the value and the memory after it, or why there is none, and then the memory is as before
abbrev pub Answers : {A : Type 0} → Answer A → Flat → Flat → Result A RunFault → Type 0
Answers reply old new result = MatchResult result (λ x. reply ≡ Gives x new) (λ why. (reply ≡ refused why) × (new ≡ old))

-- the same of a call without a value that changes the memory or faults
abbrev pub Changes : {A : Type 0} → Option Flat → Flat → Flat → Result A RunFault → Type 0
Changes after old new result = MatchResult result (λ x. after ≡ Some new) (λ why. (after ≡ None) × (why ≡ fault.Fault) × (new ≡ old))

-- the same of one that finds a value or faults
abbrev pub Finds : {A : Type 0} → Option A → Result A RunFault → Type 0
Finds found result = MatchResult result (λ x. found ≡ Some x) (λ why. (found ≡ None) × (why ≡ fault.Fault))

-- one more call is active, or there is no frame for it
abbrev pub Enters : {A : Type 0} → Flat → Flat → Result A RunFault → Type 0
Enters old new result = MatchResult result (λ x. flat_enter old ≡ Gives 0 new) (λ why. (flat_enter old ≡ refused why) × (new ≡ old))
