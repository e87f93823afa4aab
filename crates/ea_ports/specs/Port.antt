-- Ours: what the top call knows of the world outside.
-- What the answers of a folder, a source and a sink say of what they tell and of their counts of faults.
use Rattle.std.specs.Prelude.{◌≡◌, ℕ, ◌+◌, ◌-◌, ◌^◌, ◌<◌, ◌≤◌, min, ⊤, List, [], ◌∷◌, ◌++◌, take, length, Vec, Option, Some, None, IfSome, Result, Ok, Err}
use Rattle.ea_ports.specs.declared.FetchFault.{FetchFault}
use Rattle.ea_ports.specs.declared.FetchFault.TheVariants.{Missing, TooLong, Failed as fetch_failed, Memory as fetch_memory}
use Rattle.ea_ports.specs.declared.SinkFault.{SinkFault}
use Rattle.ea_ports.specs.declared.SinkFault.TheVariants.{Failed as sink_failed, Memory as sink_memory}
use Rattle.ea_ports.specs.declared.Failed.{Failed}

-- a folder is asked for files of so many bytes at most
abbrev pub most_fetched : ℕ
most_fetched = 67108864

-- one more, up to the last value of a `u64`
abbrev pub raised : ℕ → ℕ
raised count = min (count + 1) (2 ^ 64 - 1)

-- the count rose, or stands at its last value
abbrev pub Rose : ℕ → ℕ → Type 0
Rose before now = (before ≤ now) × (raised before ≤ now)

-- these bytes after what is told; what isn't told stays so
abbrev pub more : Option (List ℕ) → List ℕ → Option (List ℕ)
more None bytes = None
more (Some old) bytes = Some (old ++ bytes)

-- a put appends all its bytes, or else a prefix of them
abbrev pub Puts : {T : Type 0} → Option (List ℕ) → Option (List ℕ) → List ℕ → Result T SinkFault → Type 0
Puts old new bytes (Ok done) = new ≡ more old bytes
Puts old new bytes (Err fault) = (k : ℕ) × (new ≡ more old (take k bytes))

-- a put fails only where there are bytes to put
abbrev pub FailsOnBytes : {T : Type 0} → List ℕ → Result T SinkFault → Type 0
FailsOnBytes bytes (Ok done) = ⊤
FailsOnBytes bytes (Err fault) = 0 < length bytes

-- the count rose where the sink failed, and else it is as before
abbrev pub SinkCount : {T : Type 0} → ℕ → ℕ → Result T SinkFault → Type 0
SinkCount before now (Ok done) = now ≡ before
SinkCount before now (Err sink_memory) = now ≡ before
SinkCount before now (Err sink_failed) = Rose before now

-- the first of the bytes left, or the end where none is; what isn't told stays so
abbrev pub TakesFirst : Option (List ℕ) → Option (List ℕ) → Option ℕ → Type 0
TakesFirst None new byte = new ≡ None
TakesFirst (Some []) new byte = (byte ≡ None) × (new ≡ Some [])
TakesFirst (Some (first ∷ rest)) new byte = (byte ≡ Some first) × (new ≡ Some rest)

-- a source gives the first byte or the end, and takes nothing where it fails
abbrev pub Takes : Option (List ℕ) → Option (List ℕ) → Result (Option ℕ) Failed → Type 0
Takes old new (Ok byte) = TakesFirst old new byte
Takes old new (Err fault) = new ≡ old

-- the count rose where the source failed, and else it is as before
abbrev pub SourceCount : {T : Type 0} → ℕ → ℕ → Result T Failed → Type 0
SourceCount before now (Ok byte) = now ≡ before
SourceCount before now (Err fault) = Rose before now

-- A fetch gives what stands under the name, at most `limit` bytes whether the content is told or not. Where
-- it is told, a name is missing only where nothing stands under it, and too long only past the limit.
abbrev pub Fetches : {A : Type 0} → Option (List ℕ → Option (List ℕ)) → List ℕ → ℕ → Result (Vec ℕ A) FetchFault → Type 0
Fetches content name limit (Ok bytes) = (length bytes.items ≤ limit) × IfSome content (λ files. files name ≡ Some bytes.items)
Fetches content name limit (Err Missing) = IfSome content (λ files. files name ≡ None)
Fetches content name limit (Err TooLong) = IfSome content (λ files. (bytes : List ℕ) × (files name ≡ Some bytes) × (limit < length bytes))
Fetches content name limit (Err fetch_failed) = ⊤
Fetches content name limit (Err fetch_memory) = ⊤

-- the count of a folder that refuses a name: as before where it tells its content, and risen where it doesn't
abbrev pub RefusalCount : Option (List ℕ → Option (List ℕ)) → ℕ → ℕ → Type 0
RefusalCount None before now = Rose before now
RefusalCount (Some files) before now = now ≡ before

-- the count rose where the folder failed, and where it refused without telling its content
abbrev pub FolderCount : {T : Type 0} → Option (List ℕ → Option (List ℕ)) → ℕ → ℕ → Result T FetchFault → Type 0
FolderCount content before now (Ok bytes) = now ≡ before
FolderCount content before now (Err Missing) = RefusalCount content before now
FolderCount content before now (Err TooLong) = RefusalCount content before now
FolderCount content before now (Err fetch_failed) = Rose before now
FolderCount content before now (Err fetch_memory) = now ≡ before
