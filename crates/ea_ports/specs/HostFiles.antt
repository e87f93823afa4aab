-- Ours, in words of the library of the kit.
-- What reads and writes of the host do to the bytes that a reader is known to have left and a writer to hold.
use Rattle.std.specs.Prelude.{◌≡◌, ℕ, ◌<◌, ◌≤◌, ⊤, List, [], ◌∷◌, ◌++◌, take, length, Vec, Option, Some, None, IfSome, Result, Ok, Err}
use Rattle.std.specs.Io.KnownBytes.{Keeps, Appends, Consumes, IsAtEnd}
use Rattle.std.specs.IoError.{error_kind}
use Rattle.std.specs.declared.io.Error.{Error}
use Rattle.std.specs.declared.io.ErrorKind.{ErrorKind}
use Rattle.std.specs.declared.io.ErrorKind.TheVariants.{NotFound, OutOfMemory}
use Rattle.ea_ports.specs.declared.FetchFault.{FetchFault}
use Rattle.ea_ports.specs.declared.FetchFault.TheVariants.{Missing, TooLong, Failed, Memory}
use Rattle.ea_ports.specs.declared.Failed.{Failed as SourceFailed}

-- the fault of a fetch for an error of the host
abbrev pub fault_of : ErrorKind → FetchFault
fault_of NotFound = Missing
fault_of OutOfMemory = Memory
fault_of _ = Failed

-- a read gives all bytes that are known to be left, where they are within the limit
abbrev pub ReadsWithin : {A : Type 0} → Option (List ℕ) → ℕ → Result (Vec ℕ A) FetchFault → Type 0
ReadsWithin known limit (Ok bytes) = (length bytes.items ≤ limit) × IfSome known (λ xs. bytes.items ≡ xs)
ReadsWithin known limit (Err TooLong) = IfSome known (λ xs. limit < length xs)
ReadsWithin known limit (Err _) = ⊤

-- a fetch follows from what opening a file gave: its error's fault, or the file's bytes
abbrev pub FollowsOpened : {F A : Type 0} → (F → Option (List ℕ)) → ℕ → Result F Error → Result (Vec ℕ A) FetchFault → Type 0
FollowsOpened remaining limit (Ok file) result = ReadsWithin (remaining file) limit result
FollowsOpened remaining limit (Err error) result = result ≡ Err (fault_of (error_kind error))

-- known bytes lose at most this many
abbrev pub LosesAtMost : Option (List ℕ) → Option (List ℕ) → ℕ → Type 0
LosesAtMost left rest most = (lost : List ℕ) × Consumes left rest lost × (length lost ≤ most)

-- one read puts its piece after the bytes that are there, and is empty only at the end
abbrev pub ReadsPiece : Option (List ℕ) → Option (List ℕ) → List ℕ → List ℕ → Result ℕ FetchFault → Type 0
ReadsPiece left rest old new (Ok n) =
    (piece : List ℕ) × (new ≡ old ++ piece) × (length piece ≡ n) × Consumes left rest piece × (n ≡ 0 → IsAtEnd rest)
ReadsPiece left rest old new (Err TooLong) = ⊥
ReadsPiece left rest old new (Err _) = ⊤

-- a source takes one byte of those that its reader is known to have left, and none at the end or where it fails
abbrev pub Reads : Option (List ℕ) → Option (List ℕ) → Result (Option ℕ) SourceFailed → Type 0
Reads old new (Ok (Some byte)) = Consumes old new (byte ∷ [])
Reads old new (Ok None) = Consumes old new [] × IsAtEnd new
Reads old new (Err fault) = Keeps old new

-- all bytes go after those that a writer is known to hold, or a prefix of them at an error
abbrev pub Writes : {T E : Type 0} → Option (List ℕ) → Option (List ℕ) → List ℕ → Result T E → Type 0
Writes old new bytes (Ok done) = Appends old new bytes
Writes old new bytes (Err fault) = (k : ℕ) × Appends old new (take k bytes)
