-- Ours: ports for tests.
-- Files in memory, each a name and its content.
use Rattle.std.specs.Prelude.{ℕ, List, [], ◌∷◌, map, Option, Some, None, if◌then◌else◌, String, Vec, string_bytes}
use Rattle.std.specs.Str.{bytes_eq}

-- the content of the first entry of a name
abbrev pub content_of : List (List ℕ × List ℕ) → List ℕ → Option (List ℕ)
content_of [] name = None
content_of (file ∷ files) name = if bytes_eq file.0 name then Some file.1 else content_of files name

-- the bytes of the names and of the contents
abbrev pub named_contents : {A B : Type 0} → List (String A × Vec ℕ B) → List (List ℕ × List ℕ)
named_contents files = map (λ file. (string_bytes file.0, file.1.items)) files
