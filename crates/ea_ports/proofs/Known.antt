-- Known bytes over several reads or writes.
use Rattle.std.proofs.Common.{◌≡◌, ℕ, ◌+◌, ◌-◌, ◌≤◌, List, ◌++◌, take, drop, length, Option, Some, None, sym, ◌∙◌, ap, append_assoc, arith, length-append}
use Rattle.std.proofs.lemmas.Grind.{common_steps}
use Rattle.std.proofs.Math.Seq.{take-add}
use Rattle.std.specs.Io.KnownBytes.{Appends, Consumes}
use Rattle.ea_ports.specs.HostFiles.{LosesAtMost}

-- two reads
consumes-more : (a b c : Option (List ℕ)) (xs ys : List ℕ) → Consumes a b xs → Consumes b c ys → Consumes a c (xs ++ ys)
consumes-more None b c xs ys first second = tt
consumes-more (Some a) None c xs ys first second = absurd first
consumes-more (Some a) (Some b) None xs ys first second = absurd second
consumes-more (Some a) (Some b) (Some c) xs ys first second = rw (first, second) (sym (append_assoc xs ys c))

-- a read of bytes, and one of no more than there is room for
pub loses-more : (a b c : Option (List ℕ)) (xs : List ℕ) (room most : ℕ) → Consumes a b xs → LosesAtMost b c room → length xs + room ≤ most → LosesAtMost a c most
loses-more a b c xs room most read more within =
    (xs ++ more.0, consumes-more a b c xs more.0 read more.1, omega (arith, length-append xs more.0, more.2))

-- two writes
pub appends-more : (a b c : Option (List ℕ)) (xs ys : List ℕ) → Appends a b xs → Appends b c ys → Appends a c (xs ++ ys)
appends-more None b c xs ys first second = tt
appends-more (Some a) None c xs ys first second = absurd first
appends-more (Some a) (Some b) None xs ys first second = absurd second
appends-more (Some a) (Some b) (Some c) xs ys first second = second ∙ ap (λ zs. zs ++ ys) first ∙ append_assoc a xs ys

-- a write of the next bytes of a list
pub appends-next : (a b c : Option (List ℕ)) (bytes : List ℕ) (i n : ℕ) → Appends a b (take i bytes) → Appends b c (take n (take (length bytes - i) (drop i bytes))) → Appends a c (take (i + n) bytes)
appends-next a b c bytes i n before next =
    let all : take (length bytes - i) (drop i bytes) ≡ drop i bytes = grind (arith, common_steps) in
    let piece : Appends b c (take n (drop i bytes)) = rw all at next in
    rw (take-add i n bytes) (appends-more a b c (take i bytes) (take n (drop i bytes)) before piece)
