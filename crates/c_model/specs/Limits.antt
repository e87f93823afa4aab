-- Ours: the profile's limits on files, on calls and on the memory of a run; C99 5.2.4.1 leaves them to the implementation.
use Rattle.std.specs.Prelude.{ℕ}

-- how many calls are active at most, `main` included
abbrev pub most_frames : ℕ
most_frames = 65536

-- the segment of globals and literals, in bytes
abbrev pub globals_bytes : ℕ
globals_bytes = 1048576

-- the stack, in bytes
abbrev pub stack_bytes : ℕ
stack_bytes = 1048576

-- the heap, in bytes
abbrev pub heap_bytes : ℕ
heap_bytes = 16777216

-- an annotated file has so many bytes at most
abbrev pub most_annotated : ℕ
most_annotated = 1048576

-- a monitored file has so many bytes at most
abbrev pub most_monitored : ℕ
most_monitored = 67108864
