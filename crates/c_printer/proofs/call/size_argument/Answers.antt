use Rattle.std.proofs.Common.{ap, inl, inr}
use Rattle.mon_syntax.specs.Text.{size_argument, spelled}
use Rattle.c_printer.proofs.Written.{nothing, shown}
use Rattle.c_printer.proofs.call.size_argument.Goals as goal

pub returns-in-StoreBlock : goal.returns-in-StoreBlock
returns-in-StoreBlock g c = elim c.in-StoreBlock.is [
  | inl e ↦ shown (ap (λ f. spelled (size_argument f)) e) (nothing _)
  | inr e ↦ shown (ap (λ f. spelled (size_argument f)) e) (nothing _)
]

pub returns-in-Malloc : goal.returns-in-Malloc
returns-in-Malloc g c = elim c.in-Malloc.is [
  | inl e ↦ shown (ap (λ f. spelled (size_argument f)) e) (nothing _)
  | inr (inl e) ↦ shown (ap (λ f. spelled (size_argument f)) e) (nothing _)
  | inr (inr e) ↦ shown (ap (λ f. spelled (size_argument f)) e) (nothing _)
]

pub returns-in-Pointer : goal.returns-in-Pointer
returns-in-Pointer g c = elim c.in-Pointer.is [
  | inl e ↦ shown (ap (λ f. spelled (size_argument f)) e) (nothing _)
  | inr (inl e) ↦ shown (ap (λ f. spelled (size_argument f)) e) (nothing _)
  | inr (inr e) ↦ shown (ap (λ f. spelled (size_argument f)) e) (nothing _)
]

pub returns-in-BaseAddr : goal.returns-in-BaseAddr
returns-in-BaseAddr g c = elim c.in-BaseAddr.is [
  | inl e ↦ shown (ap (λ f. spelled (size_argument f)) e) (nothing _)
  | inr (inl e) ↦ shown (ap (λ f. spelled (size_argument f)) e) (nothing _)
  | inr (inr e) ↦ shown (ap (λ f. spelled (size_argument f)) e) (nothing _)
]
