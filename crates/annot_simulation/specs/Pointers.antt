-- Ours: a choice of code; what it has to do is ACSL 2.7, by the theorem of this crate.
-- Pieces of code of pointers, places and zones. A pointer is a base of type `ptr` and an offset of 128 bits, so that no offset wraps. A pointer that is read
-- stands in a register at once: so depth doesn't grow with the pointers that are read to find a place.
use Rattle.std.specs.Prelude.{ℕ, suc, pos, Bool, true, false, if◌then◌else◌, List, [], ◌∷◌, ◌++◌, length, Option, Some, None}
use Rattle.c_syntax.specs.declared.annotation.Relation.{Relation}
use Rattle.c_syntax.specs.declared.annotation.Relation.TheVariants as relation
use Rattle.c_syntax.specs.declared.logic.BlockFact.{BlockFact}
use Rattle.c_syntax.specs.declared.logic.BlockFact.TheVariants.{BaseAddr, Offset}
use Rattle.c_syntax.specs.declared.logic.MemoryQuestion.{MemoryQuestion}
use Rattle.c_syntax.specs.declared.logic.MemoryQuestion.TheVariants as asks
use Rattle.c_syntax.specs.declared.logic.PointerOp.{PointerOp}
use Rattle.c_syntax.specs.declared.logic.PointerOp.TheVariants.{Plus, Minus}
use Rattle.c_syntax.specs.Ctypes.{PlainType}
use Rattle.c_syntax.specs.Ctypes as ctype
use Rattle.mon_syntax.specs.declared.tree.MonOp.{MonOp}
use Rattle.mon_syntax.specs.declared.tree.MonOp.TheVariants.{Add, Sub, Mul, Div, And, Or, Eq}
use Rattle.mon_syntax.specs.declared.tree.MonType.{MonType}
use Rattle.mon_syntax.specs.declared.tree.MonType.TheVariants.{I32, I64, I128, Ptr}
use Rattle.mon_syntax.specs.Trees.{MonExpression, Register, Constant, Binary, MonStatement, Set, If, MonStatements, NoStatement, Then}
use Rattle.c_effects.specs.Expressions.{before, one, set, in_type}
use Rattle.mem_preds.specs.declared.question.Question.{Question}
use Rattle.mem_preds.specs.declared.question.Question.TheVariants as question
use Rattle.mem_preds.specs.Questions.{size_of, asked, told, type_of_fact, parted, read_at}
use Rattle.annot_simulation.specs.Pieces.{Code, access_of, conjunction, guarded, take_none, relation_operator}

-- ---- pointers

-- the statements that run first; then the flag, as of other code; a base, which is an expression of type `ptr`, and an offset in bytes from it, both of which
-- may be asked for only where the flag is 1
pub record PointerCode : Type 0 where
  pub stmts : MonStatements
  pub flag : Option MonExpression
  pub base : MonExpression
  pub offset : MonExpression
  pub used : List MonType

abbrev pub no_offset : MonExpression
no_offset = Constant I128 (pos 0)

-- a pointer whose parts need no statement and always exist
abbrev pub sure_pointer : MonExpression → MonExpression → List MonType → PointerCode
sure_pointer p o rs = record { stmts = NoStatement; flag = None; base = p; offset = o; used = rs }

-- the start of a block
abbrev pub start_pointer : MonExpression → List MonType → PointerCode
start_pointer p rs = sure_pointer p no_offset rs

abbrev pub null : MonExpression
null = Constant Ptr (pos 0)

-- what is no pointer has no code
abbrev pub no_pointer_code : List MonType → PointerCode
no_pointer_code rs = record { stmts = NoStatement; flag = Some (Constant I32 (pos 0)); base = null; offset = no_offset; used = rs }

-- the code of a literal 0 beside a pointer: null
abbrev pub null_code : Code → PointerCode
null_code c = record { stmts = c.stmts; flag = c.flag; base = null; offset = no_offset; used = c.used }

-- so many bytes farther
abbrev pub member_code : ℕ → PointerCode → PointerCode
member_code d c = record c { offset = Binary Add I128 c.offset (Constant I128 (pos d)) }

abbrev pub move_operator : PointerOp → MonOp
move_operator Plus = Add
move_operator Minus = Sub

-- so many elements of a size, in bytes
abbrev pub elements_of : ℕ → MonExpression → MonExpression
elements_of n e = Binary Mul I128 (Constant I128 (pos n)) e

-- so many elements of a size farther; their number is of the type k
abbrev pub moved_code : PointerOp → ℕ → PointerCode → MonType → Code → PointerCode
moved_code op n c k d = record {
  stmts = before c.stmts d.stmts;
  flag = conjunction c.flag d.flag;
  base = c.base;
  offset = Binary (move_operator op) I128 c.offset (elements_of n (in_type k I128 d.value));
  used = d.used;
}

-- one of two pointers, as `branch` gives one of two numbers: a flag, a base and an offset in three registers
abbrev pub take_both : PointerCode → ℕ → MonStatements
take_both c r = Then (Set (suc r) c.base) (set (suc (suc r)) c.offset)

abbrev pub take_pointer : Option MonExpression → PointerCode → ℕ → MonStatements
take_pointer None c r = Then (Set r (Constant I32 (pos 1))) (take_both c r)
take_pointer (Some f) c r = Then (Set r f) (one (If (Register r) (take_both c r) NoStatement))

abbrev pub branch_pointer : Code → PointerCode → PointerCode → PointerCode
branch_pointer c a b =
    let r = length b.used in record {
      stmts =
          before c.stmts
          (guarded c.flag (one (If c.value (before a.stmts (take_pointer a.flag a r)) (before b.stmts (take_pointer b.flag b r)))) (take_none r));
      flag = Some (Register r);
      base = Register (suc r);
      offset = Register (suc (suc r));
      used = b.used ++ I32 ∷ Ptr ∷ I128 ∷ [];
    }

-- ---- questions about one pointer

-- a question that passes over the length
abbrev pub asked_there : Question → MonType → PointerCode → ℕ → MonStatement
asked_there q k c r = asked q (access_of k) c.base c.offset no_offset r

abbrev pub told_there : BlockFact → PointerCode → ℕ → MonStatement
told_there f c r = told f c.base c.offset r

-- a register becomes an answer, where there is a pointer to ask about; elsewhere it becomes 0
abbrev pub answered_in : ℕ → PointerCode → MonStatements → MonStatements
answered_in r c a = before c.stmts (guarded c.flag a (take_none r))

-- a number of a type that is read there, in the type w
abbrev pub number_read : (w k : MonType) → PointerCode → Code
number_read w k c =
    let r = length c.used in record {
      stmts = answered_in r c (one (asked_there question.Number k c r));
      flag = Some (Register r);
      value = in_type k w (read_at k c.base c.offset);
      used = c.used ++ I32 ∷ [];
    }

-- a pointer that is read there
abbrev pub pointer_read : PointerCode → PointerCode
pointer_read c =
    let r = length c.used in record {
      stmts =
          answered_in r c
          (Then (asked_there question.Pointer Ptr c r) (one (If (Register r) (set (suc r) (read_at Ptr c.base c.offset)) NoStatement)));
      flag = Some (Register r);
      base = Register (suc r);
      offset = no_offset;
      used = c.used ++ I32 ∷ Ptr ∷ [];
    }

-- the same, where it is known that there is one
abbrev pub pointer_known : PointerCode → PointerCode
pointer_known c = record {
  stmts = before c.stmts (set (length c.used) (read_at Ptr c.base c.offset));
  flag = c.flag;
  base = Register (length c.used);
  offset = no_offset;
  used = c.used ++ Ptr ∷ [];
}

-- what a place of a type of pointers holds, by whether it is known that it holds one; an array is the pointer to its first element
abbrev pub pointer_there : Bool → Option PlainType → PointerCode → PointerCode
pointer_there known (Some (ctype.Ptr t)) c = if known then pointer_known c else pointer_read c
pointer_there known (Some (ctype.Array t n)) c = c
pointer_there known _ c = no_pointer_code c.used

-- whether there is a pointer inside a live block, and in the next register what is told of that
abbrev pub fact_told : BlockFact → PointerCode → MonStatements
fact_told f c =
    let r = length c.used in
    answered_in r c (Then (asked_there question.Inside Ptr c r) (one (told_there f c (suc r))))

abbrev pub told_number : MonType → BlockFact → PointerCode → Code
told_number w f c = record {
  stmts = fact_told f c;
  flag = Some (Register (length c.used));
  value = in_type (type_of_fact f) w (Register (suc (length c.used)));
  used = c.used ++ I32 ∷ type_of_fact f ∷ [];
}

abbrev pub told_pointer : PointerCode → PointerCode
told_pointer c = record {
  stmts = fact_told BaseAddr c;
  flag = Some (Register (length c.used));
  base = Register (suc (length c.used));
  offset = no_offset;
  used = c.used ++ I32 ∷ Ptr ∷ [];
}

-- ---- two pointers

abbrev pub one_byte : MonExpression
one_byte = Constant I128 (pos 1)

-- whether two places differ
abbrev pub places_differ : (p o q u : MonExpression) → ℕ → MonStatement
places_differ p o q u r = parted p o one_byte q u one_byte r

-- a register becomes whether a pointer may be compared: it is null, which may be known, or inside a live block or one past its end
abbrev pub comparable : Bool → PointerCode → ℕ → MonStatements
comparable true c r = set r (Constant I32 (pos 1))
comparable false c r =
    Then (asked_there question.Inside Ptr c r) (Then (places_differ c.base c.offset null no_offset (suc r))
    (set r (Binary Or I32 (Register r) (Binary Eq I32 (Register (suc r)) (Constant I32 (pos 0))))))

-- two pointers, one after the other, and what is asked about both
abbrev pub asked_of_both : PointerCode → PointerCode → MonStatements → MonStatements
asked_of_both c d a = before (before c.stmts d.stmts) (guarded (conjunction c.flag d.flag) a (take_none (length d.used)))

-- three registers: whether both may be compared, whether they differ, and one for questions
abbrev pub equality_asked : (m n : Bool) → PointerCode → PointerCode → ℕ → MonStatements
equality_asked m n c d r =
    before (comparable m c r) (before (comparable n d (suc r))
    (Then (Set r (Binary And I32 (Register r) (Register (suc r)))) (one (places_differ c.base c.offset d.base d.offset (suc r)))))

abbrev pub equality_code : (m n : Bool) → MonExpression → PointerCode → PointerCode → Code
equality_code m n e c d = record {
  stmts = asked_of_both c d (equality_asked m n c d (length d.used));
  flag = Some (Register (length d.used));
  value = e;
  used = d.used ++ I32 ∷ I32 ∷ I32 ∷ [];
}

-- six registers: whether both are inside one live block, a truth and two starts for that, and both offsets in it
abbrev pub offsets_asked : PointerCode → PointerCode → ℕ → MonStatements
offsets_asked c d r =
    Then (asked_there question.Inside Ptr c r) (Then (asked_there question.Inside Ptr d (suc r))
    (Then (told_there BaseAddr c (suc (suc r))) (Then (told_there BaseAddr d (suc (suc (suc r))))
    (Then (Set r (Binary And I32 (Binary And I32 (Register r) (Register (suc r))) (Binary Eq Ptr (Register (suc (suc r))) (Register (suc (suc (suc r)))))))
    (Then (told_there Offset c (suc (suc (suc (suc r))))) (one (told_there Offset d (suc (suc (suc (suc (suc r))))))))))))

abbrev pub offsets_code : (MonExpression → MonExpression → MonExpression) → PointerCode → PointerCode → Code
offsets_code e c d =
    let r = length d.used in record {
      stmts = asked_of_both c d (offsets_asked c d r);
      flag = Some (Register r);
      value = e (Register (suc (suc (suc (suc r))))) (Register (suc (suc (suc (suc (suc r))))));
      used = d.used ++ I32 ∷ I32 ∷ Ptr ∷ Ptr ∷ I64 ∷ I64 ∷ [];
    }

-- a relation of two pointers, of which each may be known to be null
abbrev pub addresses_code : Relation → (m n : Bool) → PointerCode → PointerCode → Code
addresses_code relation.Eq m n c d = equality_code m n (Binary Eq I32 (Register (suc (length d.used))) (Constant I32 (pos 0))) c d
addresses_code relation.Ne m n c d = equality_code m n (Register (suc (length d.used))) c d
addresses_code relation.Lt m n c d = offsets_code (Binary (relation_operator relation.Lt) I64) c d
addresses_code relation.Le m n c d = offsets_code (Binary (relation_operator relation.Le) I64) c d
addresses_code relation.Gt m n c d = offsets_code (Binary (relation_operator relation.Gt) I64) c d
addresses_code relation.Ge m n c d = offsets_code (Binary (relation_operator relation.Ge) I64) c d

-- their distance in elements of a size, in the type w
abbrev pub difference_code : (w : MonType) → ℕ → PointerCode → PointerCode → Code
difference_code w n c d = offsets_code (λ x y. in_type I64 w (Binary Div I64 (Binary Sub I64 x y) (Constant I64 (pos n)))) c d

-- ---- zones

-- a pointer, and how many bytes from it on, in 128 bits
pub record ZoneCode : Type 0 where
  pub pointer : PointerCode
  pub length : MonExpression

abbrev pub object_code : ℕ → PointerCode → ZoneCode
object_code n c = record { pointer = c; length = Constant I128 (pos n) }

-- elements of a size from one to another, whose numbers are of the types k and l
abbrev pub elements_code : ℕ → PointerCode → (k l : MonType) → Code → Code → ZoneCode
elements_code n c k l x y = record {
  pointer = record {
    stmts = before (before c.stmts x.stmts) y.stmts;
    flag = conjunction (conjunction c.flag x.flag) y.flag;
    base = c.base;
    offset = Binary Add I128 c.offset (elements_of n (in_type k I128 x.value));
    used = y.used;
  };
  length = elements_of n (Binary Add I128 (Binary Sub I128 (in_type l I128 y.value) (in_type k I128 x.value)) (Constant I128 (pos 1)));
}

abbrev pub question_of : MemoryQuestion → Question
question_of asks.Valid = question.Valid
question_of asks.ValidRead = question.ValidRead
question_of asks.Initialized = question.Initialized

-- a register becomes the answer at an alignment, where there is a zone
abbrev pub zone_asked : MemoryQuestion → ℕ → ZoneCode → Code
zone_asked f m z =
    let c = z.pointer in record {
      stmts = before c.stmts (guarded c.flag (one (asked (question_of f) (size_of m) c.base c.offset z.length (length c.used))) NoStatement);
      flag = c.flag;
      value = Register (length c.used);
      used = c.used ++ I32 ∷ [];
    }

-- some zones, one after the other
pub record ZonesCode : Type 0 where
  pub stmts : MonStatements
  pub flag : Option MonExpression
  pub zones : List ZoneCode
  pub used : List MonType

abbrev pub no_zones : List MonType → ZonesCode
no_zones rs = record { stmts = NoStatement; flag = None; zones = []; used = rs }

-- what is left of a zone when its statements ran
abbrev pub bare_zone : ZoneCode → ZoneCode
bare_zone z = record { pointer = sure_pointer z.pointer.base z.pointer.offset []; length = z.length }

abbrev pub another_zone : ZoneCode → ZonesCode → ZonesCode
another_zone z zs = record {
  stmts = before z.pointer.stmts zs.stmts;
  flag = conjunction z.pointer.flag zs.flag;
  zones = bare_zone z ∷ zs.zones;
  used = zs.used;
}

-- a register becomes whether two zones share no byte
abbrev pub zones_parted : ZoneCode → ZoneCode → ℕ → MonStatement
zones_parted z d r = parted z.pointer.base z.pointer.offset z.length d.pointer.base d.pointer.offset d.length r

-- a register stays 1 where a zone shares no byte with any of others; the next one is that of the answers
abbrev pub apart_from_each : ℕ → ZoneCode → List ZoneCode → MonStatements
apart_from_each t z [] = NoStatement
apart_from_each t z (d ∷ ds) =
    Then (zones_parted z d (suc t)) (Then (Set t (Binary And I32 (Register t) (Register (suc t)))) (apart_from_each t z ds))

abbrev pub each_pair : ℕ → List ZoneCode → MonStatements
each_pair t [] = NoStatement
each_pair t (z ∷ zs) = before (apart_from_each t z zs) (each_pair t zs)

abbrev pub separated_code : ZonesCode → Code
separated_code zs = record {
  stmts = before zs.stmts (guarded zs.flag (Then (Set (length zs.used) (Constant I32 (pos 1))) (each_pair (length zs.used) zs.zones)) NoStatement);
  flag = zs.flag;
  value = Register (length zs.used);
  used = zs.used ++ I32 ∷ I32 ∷ [];
}
