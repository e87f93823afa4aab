-- The laws of questions, over numbered blocks.
use Rattle.std.proofs.Common.{◌≡◌, ℕ, ◌+◌, ℤ, pos, negsuc, ◌+ℤ◌, Bool, true, false, if◌then◌else◌, List, [], ◌∷◌, take, drop, Option, Some, None, slice_set}
use Rattle.std.proofs.Common.{refl, sym, ap, ◌∙◌}
use Rattle.c_model.specs.Integers.{truth}
use Rattle.c_model.specs.Memory.{Pointer, Null, Into, Integer, Byte, Unwritten, Number, Piece, LoosePiece, Block, Store, block_at, is_accessible, load_bytes, bytes_in, number_of, with_low_byte}
use Rattle.c_model.specs.MemoryQuestions.{address_of, address_farther, part, part_in, from_start, answered, all_bytes, is_number_byte, part_bytes, has_number}
use Rattle.mon_syntax.specs.declared.tree.MonType.TheVariants.{I128}
use Rattle.mon_syntax.specs.declared.tree.AccessSize.TheVariants.{One, Two, Four, Eight, Sixteen}
use Rattle.mon_syntax.specs.Arithmetic.{access_bytes}
use Rattle.mon_syntax.specs.BlockMemory.{at_offset, is_some, holds_number}
use Rattle.mon_syntax.specs.Meaning.{Done, Next, ◌>>=◌}
use Rattle.mem_preds.specs.declared.question.Question.TheVariants as question
use Rattle.mem_preds.specs.Laws.{QuestionsAreAnswered, QuestionsAreTyped, SizesAreAlignments, FactsAreTold, FactsAreTyped, PartsAreAnswered, PartsAreTyped, ReadsAreTyped}
use Rattle.c_syntax.specs.declared.logic.BlockFact.TheVariants as fact

-- ---- the question whether bytes hold a number, in its two forms

low_is_some : (b : ℕ) (o : Option ℕ) → is_some (with_low_byte b o) ≡ is_some o
low_is_some b None = refl
low_is_some b (Some n) = refl

some_number : (ys : List Byte) → is_some (number_of ys) ≡ all_bytes is_number_byte ys
some_number [] = refl
some_number (Unwritten ∷ ys) = refl
some_number (Number b ∷ ys) = low_is_some b (number_of ys) ∙ some_number ys
some_number (Piece p k ∷ ys) = refl
some_number (LoosePiece ∷ ys) = refl

at_place : (store : Store) (n w : ℕ) (z : ℤ) → is_some (at_offset n z >>= λ q. load_bytes store q w >>= number_of)
    ≡ answered (part_in (block_at store n) (from_start z) w w) (λ p. all_bytes is_number_byte (part_bytes p w))
at_place store n w (negsuc j) = sym (none (block_at store n))
  where
    none : (o : Option Block) → answered (part_in o None w w) (λ p. all_bytes is_number_byte (part_bytes p w)) ≡ false
    none None = refl
    none (Some b) = refl
at_place store n w (pos j) = by (block_at store n)
  where
    by_test : (b : Block) (t : Bool) → is_some ((if t then Some (take w (drop j b.bytes)) else None) >>= number_of)
        ≡ answered (if t then Some (part b j) else None) (λ p. all_bytes is_number_byte (part_bytes p w))
    by_test b false = refl
    by_test b true = some_number (take w (drop j b.bytes))

    by : (o : Option Block) → is_some (bytes_in o j w >>= number_of) ≡ answered (part_in o (Some j) w w) (λ p. all_bytes is_number_byte (part_bytes p w))
    by None = refl
    by (Some b) = by_test b (is_accessible b j w)

number_held : (store : Store) (x : Pointer) (d : ℤ) (w : ℕ) → holds_number store x d w ≡ has_number store (address_farther (address_of x) d) w
number_held store Null d w = sym (nowhere (from_start (pos 0 +ℤ d)))
  where
    nowhere : (o : Option ℕ) → answered (part_in None o w w) (λ p. all_bytes is_number_byte (part_bytes p w)) ≡ false
    nowhere o = refl
number_held store (Into n i) d w = at_place store n w (pos i +ℤ d)

-- ---- the laws

pub questions_are_answered : QuestionsAreAnswered
questions_are_answered question.Valid a p o n into gs calls turns regs s x d l h k g = rw (h, k, g) refl
questions_are_answered question.ValidRead a p o n into gs calls turns regs s x d l h k g = rw (h, k, g) refl
questions_are_answered question.Initialized a p o n into gs calls turns regs s x d l h k g = rw (h, k, g) refl
questions_are_answered question.Number a p o n into gs calls turns regs s x d l h k g =
    rw (h, k) (ap (λ b. Done (Next (slice_set regs into (Integer (truth b)))) s []) (number_held s.mem.store x d (access_bytes a)))
questions_are_answered question.Pointer a p o n into gs calls turns regs s x d l h k g = rw (h, k) refl
questions_are_answered question.Inside a p o n into gs calls turns regs s x d l h k g = rw (h, k) refl

pub questions_are_typed : QuestionsAreTyped
questions_are_typed globals gs ts result ls question.Valid a p o n into h k g r = ((h, (k, (g, tt))), r)
questions_are_typed globals gs ts result ls question.ValidRead a p o n into h k g r = ((h, (k, (g, tt))), r)
questions_are_typed globals gs ts result ls question.Initialized a p o n into h k g r = ((h, (k, (g, tt))), r)
questions_are_typed globals gs ts result ls question.Number a p o n into h k g r = ((h, (k, tt)), r)
questions_are_typed globals gs ts result ls question.Pointer a p o n into h k g r = ((h, (k, tt)), r)
questions_are_typed globals gs ts result ls question.Inside a p o n into h k g r = ((h, (k, tt)), r)

pub sizes_are_alignments : SizesAreAlignments
sizes_are_alignments One = refl
sizes_are_alignments Two = refl
sizes_are_alignments Four = refl
sizes_are_alignments Eight = refl
sizes_are_alignments Sixteen = refl

pub facts_are_told : FactsAreTold
facts_are_told fact.BaseAddr p o into gs calls turns regs s x d h k = rw (h, k) refl
facts_are_told fact.BlockLength p o into gs calls turns regs s x d h k = rw (h, k) refl
facts_are_told fact.Offset p o into gs calls turns regs s x d h k = rw (h, k) refl

pub facts_are_typed : FactsAreTyped
facts_are_typed globals gs ts result ls fact.BaseAddr p o into h k r = ((h, (k, tt)), r)
facts_are_typed globals gs ts result ls fact.BlockLength p o into h k r = ((h, (k, tt)), r)
facts_are_typed globals gs ts result ls fact.Offset p o into h k r = ((h, (k, tt)), r)

pub parts_are_answered : PartsAreAnswered
parts_are_answered p o n q u m into gs calls turns regs s x y d l e k h1 h2 h3 h4 h5 h6 = rw (h1, h2, h3, h4, h5, h6) refl

pub parts_are_typed : PartsAreTyped
parts_are_typed globals gs ts result ls p o n q u m into h1 h2 h3 h4 h5 h6 r = ((h1, (h2, (h3, (h4, (h5, (h6, tt)))))), r)

pub reads_are_typed : ReadsAreTyped
reads_are_typed globals ts t p o h k = (refl, (refl, refl, h, (refl, refl, (I128, refl, k))))
