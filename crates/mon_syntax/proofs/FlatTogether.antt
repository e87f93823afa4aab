-- Pieces of pointers stand together in new blocks, which have none.
use Rattle.std.proofs.Common.{◌≡◌, ℕ, zero, suc, List, [], ◌∷◌, ◌++◌, map, replicate, get_or}
use Rattle.c_model.specs.Memory.{Pointer, Byte, Unwritten, Number, Piece}
use Rattle.c_model.specs.Together.{AreTogether}
use Rattle.mon_syntax.specs.BlockMemory.{number_bytes}

-- no byte is a piece
abbrev pub HaveNone : List Byte → Type 0
HaveNone bs = (i k : ℕ) (p : Pointer) → get_or bs i Unwritten ≡ Piece p k → ⊥

pub none_together : (bs : List Byte) → HaveNone bs → AreTogether bs
none_together bs none = record { own = λ i k p e. absurd (none i k p e); one = λ i j k l p q g e d. absurd (none i k p e) }

-- so many bytes of one kind
pub replicated_have_none : (byte : Byte) → ((k : ℕ) (p : Pointer) → byte ≡ Piece p k → ⊥) → (n : ℕ) → HaveNone (replicate n byte)
replicated_have_none byte other zero i k p e = absurd cc
replicated_have_none byte other (suc n) zero k p e = other k p e
replicated_have_none byte other (suc n) (suc i) k p e = replicated_have_none byte other n i k p e

pub unwritten_have_none : (n : ℕ) → HaveNone (replicate n Unwritten)
unwritten_have_none n = replicated_have_none Unwritten (λ k p e. absurd cc) n

pub zeros_have_none : (n : ℕ) → HaveNone (replicate n (Number 0))
zeros_have_none n = replicated_have_none (Number 0) (λ k p e. absurd cc) n

numbers_then : (first : List ℕ) (n : ℕ) → HaveNone (map Number first ++ replicate n (Number 0))
numbers_then [] n i k p e = zeros_have_none n i k p e
numbers_then (b ∷ first) n zero k p e = absurd cc
numbers_then (b ∷ first) n (suc i) k p e = numbers_then first n i k p e

-- the bytes of a global
pub numbers_have_none : (size : ℕ) (first : List ℕ) → HaveNone (number_bytes size first)
numbers_have_none size first i k p e = numbers_then first _ i k p e
