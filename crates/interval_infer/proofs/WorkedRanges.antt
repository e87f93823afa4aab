-- Ranges of terms at their edges, by computation, and the fault that refuses a predicate with a term that has none.
use Rattle.std.proofs.Common.{◌≡◌, [], ℕ, ℤ, pos, negsuc, neg_ℤ, ◌^◌, ◌-◌, ◌*◌, true, Some, None, Option, refl}
use Rattle.c_syntax.specs.declared.place.Place.{Place}
use Rattle.c_syntax.specs.declared.annotation.Range.{Range}
use Rattle.c_syntax.specs.declared.annotation.Relation.TheVariants.{Lt}
use Rattle.c_syntax.specs.declared.expression.BinOp.{BinOp}
use Rattle.c_syntax.specs.declared.expression.BinOp.TheVariants as operator
use Rattle.c_syntax.specs.declared.expression.UnOp.TheVariants as unary
use Rattle.c_syntax.specs.declared.logic.Connective.TheVariants.{And}
use Rattle.c_syntax.specs.declared.types.CInt.{CInt}
use Rattle.c_syntax.specs.declared.types.CInt.TheVariants.{I8, U8, I32, I64}
use Rattle.c_syntax.specs.declared.logic.BlockFact.TheVariants.{BlockLength, BaseAddr}
use Rattle.c_syntax.specs.declared.logic.MemoryQuestion.TheVariants as question
use Rattle.c_syntax.specs.declared.logic.PointerOp.{PointerOp}
use Rattle.c_syntax.specs.declared.logic.PointerOp.TheVariants as move
use Rattle.c_syntax.specs.Ctypes.{PlainType, Void, Int, Ptr, Array, Struct, Count}
use Rattle.c_syntax.specs.Formulas.{Integers, OfC}
use Rattle.c_syntax.specs.Logic.{LogicTerm, Number, Variable, Unary, Binary, Cast, Choice, NoLink, Linked, Predicate, Truth, Chain, Connected, range_of}
use Rattle.c_syntax.specs.Logic.{Null, Deref, Member, Address, Moved, Difference, Told, Zone, Object, Elements, NoZone, Another, Asks, Separated}
use Rattle.c_model.specs.Checked.{Checked, Good, Bad, refusing}
use Rattle.c_model.specs.Ranges.{from_to}
use Rattle.c_model.specs.TermRanges.{no_range, ranged_term, ranged_pred}
use Rattle.c_model.specs.Unranged.{unknown_range}

abbrev place : ℕ → ℕ → ℕ → Place
place line column offset = record { line = line; column = column; offset = offset }

-- terms at the places 1, 2, .. of one line, before they have ranges
abbrev number : ℤ → LogicTerm
number n = Number (place 1 1 0) None unknown_range n

abbrev variable : CInt → LogicTerm
variable k = Variable (place 1 1 0) (Some (Int k)) unknown_range (record { name = 0; decl = 0 })

abbrev operated : ℕ → BinOp → LogicTerm → LogicTerm → LogicTerm
operated n op a b = Binary (place 1 n n) None unknown_range op a b

abbrev found : Checked LogicTerm → Option Range
found (Good t) = Some (range_of t)
found (Bad f fs) = None

abbrev range : LogicTerm → Option Range
range t = found (ranged_term [] t)

-- sums go beyond the type
sums :
    (range (operated 1 operator.Add (variable I32) (number (pos 1))) ≡ Some (from_to (negsuc 2147483646) (pos 2147483648))) ×
    (range (Unary (place 1 1 0) None unknown_range unary.Minus (variable I32)) ≡ Some (from_to (negsuc 2147483646) (pos 2147483648))) ×
    (range (Unary (place 1 1 0) None unknown_range unary.Flip (variable U8)) ≡ Some (from_to (negsuc 255) (negsuc 0)))
sums = (refl, refl, refl)

-- a product of three numbers of 64 bits leaves 128 bits
products :
    (range (operated 1 operator.Mul (variable I64) (variable I64)) ≡ Some (from_to (neg_ℤ (pos (2 ^ 63 * (2 ^ 63 - 1)))) (pos (2 ^ 126)))) ×
    (range (operated 2 operator.Mul (operated 1 operator.Mul (variable I64) (variable I64)) (variable I64)) ≡ None)
products = (refl, refl)

-- a quotient by -1 leaves the type; a remainder is nearer to 0 than the divisor
quotients :
    (range (operated 1 operator.Div (variable I32) (variable I8)) ≡ Some (from_to (negsuc 2147483647) (pos 2147483648))) ×
    (range (operated 1 operator.Div (variable U8) (variable U8)) ≡ Some (from_to (pos 0) (pos 255))) ×
    (range (operated 1 operator.Rem (variable I32) (number (pos 10))) ≡ Some (from_to (negsuc 8) (pos 9)))
quotients = (refl, refl, refl)

-- a count that may be above 126 has none
shifts :
    (range (operated 1 operator.Shl (number (pos 1)) (number (pos 126))) ≡ Some (from_to (pos (2 ^ 126)) (pos (2 ^ 126)))) ×
    (range (operated 1 operator.Shl (number (pos 1)) (number (pos 127))) ≡ None) ×
    (range (operated 1 operator.Shl (number (pos 1)) (variable I8)) ≡ None) ×
    (range (operated 1 operator.Shr (variable I8) (number (pos 1))) ≡ Some (from_to (negsuc 63) (pos 63)))
shifts = (refl, refl, refl, refl)

-- a cast keeps the numbers that the type has, and else may give any of the type
casts :
    (range (Cast (place 1 1 0) None unknown_range (OfC (Int I8)) (number (pos 127))) ≡ Some (from_to (pos 127) (pos 127))) ×
    (range (Cast (place 1 1 0) None unknown_range (OfC (Int I8)) (number (pos 128))) ≡ Some (from_to (negsuc 127) (pos 127))) ×
    (range (Cast (place 1 1 0) None unknown_range Integers (variable U8)) ≡ Some (from_to (pos 0) (pos 255)))
casts = (refl, refl, refl)

-- from the least to the greatest of both branches
choices : range (Choice (place 1 1 0) None unknown_range (Truth (place 1 1 0) true) (number (negsuc 4)) (number (pos 7))) ≡ Some (from_to (negsuc 4) (pos 7))
choices = refl

-- the least fault is that of the first term in the text that has no range, on whichever side it stands
abbrev shifted : ℕ → LogicTerm
shifted n = operated n operator.Shl (number (pos 1)) (number (pos 127))

abbrev compared : ℕ → LogicTerm → LogicTerm → Predicate
compared n a b = Chain (place 1 n n) a (Linked (place 1 n n) Lt b NoLink)

faults :
    (refusing (ranged_pred [] (compared 4 (shifted 2) (shifted 6))) ≡ Some (no_range (place 1 2 2))) ×
    (refusing (ranged_pred [] (Connected (place 1 8 8) And (compared 4 (number (pos 1)) (shifted 6)) (compared 10 (shifted 9) (number (pos 1))))) ≡ Some (no_range (place 1 6 6))) ×
    (refusing (ranged_pred [] (compared 4 (operated 5 operator.Add (shifted 3) (number (pos 1))) (number (pos 1)))) ≡ Some (no_range (place 1 3 3))) ×
    (refusing (ranged_pred [] (compared 4 (variable I32) (number (pos 1)))) ≡ None)
faults = (refl, refl, refl, refl)

-- ---- pointers, by their offsets

abbrev object : PlainType → LogicTerm
object t = Variable (place 1 1 0) (Some t) unknown_range (record { name = 0; decl = 0 })

abbrev pointer : CInt → LogicTerm
pointer k = object (Ptr (Int k))

abbrev moved : ℕ → PointerOp → ℕ → LogicTerm → LogicTerm → LogicTerm
moved n op size a i = Moved (place 1 n n) (Some (Ptr (Int I32))) unknown_range op size a i

abbrev pointed : PlainType → LogicTerm → LogicTerm
pointed t a = Deref (place 1 1 0) (Some t) unknown_range a

abbrev member : PlainType → ℕ → LogicTerm → LogicTerm
member t d a = Member (place 1 1 0) (Some t) unknown_range d a

abbrev address : LogicTerm → LogicTerm
address a = Address (place 1 1 0) (Some (Ptr Void)) unknown_range a

-- a pointer that is read has an offset up to 2 ^ 32, and goes on from there by the sizes of elements
moves :
    (range (pointer I32) ≡ Some (from_to (pos 0) (pos (2 ^ 32)))) ×
    (range (Null (place 1 1 0) (Some (Ptr Void)) unknown_range) ≡ Some (from_to (pos 0) (pos 0))) ×
    (range (moved 1 move.Plus 4 (pointer I32) (variable I8)) ≡ Some (from_to (negsuc 511) (pos 4294967804))) ×
    (range (moved 1 move.Minus 4 (pointer I32) (variable I8)) ≡ Some (from_to (negsuc 507) (pos 4294967808))) ×
    (range (Difference (place 1 1 0) None unknown_range 4 (pointer I32) (pointer I32)) ≡ Some (from_to (neg_ℤ (pos (2 ^ 32))) (pos (2 ^ 32)))) ×
    (range (Told (place 1 1 0) None unknown_range BlockLength (pointer I32)) ≡ Some (from_to (pos 0) (pos (2 ^ 32)))) ×
    (range (Told (place 1 1 0) (Some (Ptr (Int I8))) unknown_range BaseAddr (pointer I32)) ≡ Some (from_to (pos 0) (pos 0)))
moves = (refl, refl, refl, refl, refl, refl, refl)

-- the last offset of 128 bits
ends :
    (range (moved 1 move.Plus 1 (pointer I8) (number (pos (2 ^ 127 - 1 - 2 ^ 32)))) ≡ Some (from_to (pos (2 ^ 127 - 1 - 2 ^ 32)) (pos (2 ^ 127 - 1)))) ×
    (range (moved 1 move.Plus 1 (pointer I8) (number (pos (2 ^ 127 - 2 ^ 32)))) ≡ None) ×
    (range (moved 1 move.Minus 1 (pointer I8) (number (pos (2 ^ 127 - 1)))) ≡ Some (from_to (neg_ℤ (pos (2 ^ 127 - 1))) (neg_ℤ (pos (2 ^ 127 - 1 - 2 ^ 32))))) ×
    (range (moved 1 move.Plus 2 (pointer I8) (number (pos (2 ^ 126)))) ≡ None)
ends = (refl, refl, refl, refl)

-- what a place holds goes by its type; an array and a struct are their addresses, and `&` gives the address of each
places :
    (range (pointed (Int U8) (moved 1 move.Plus 4 (pointer I32) (variable I8))) ≡ Some (from_to (pos 0) (pos 255))) ×
    (range (pointed (Ptr (Int I8)) (moved 1 move.Plus 8 (pointer I64) (variable I8))) ≡ Some (from_to (pos 0) (pos (2 ^ 32)))) ×
    (range (member (Array (Int I32) (Count 4)) 8 (object (Struct 0))) ≡ Some (from_to (pos 8) (pos 4294967304))) ×
    (range (member (Int I8) 8 (object (Struct 0))) ≡ Some (from_to (negsuc 127) (pos 127))) ×
    (range (address (member (Int I8) 8 (member (Struct 1) 4 (object (Struct 0))))) ≡ Some (from_to (pos 12) (pos 4294967308))) ×
    (range (address (pointed (Int I8) (number (pos 7)))) ≡ Some (from_to (pos 7) (pos 7))) ×
    (range (address (variable I8)) ≡ Some (from_to (pos 0) (pos (2 ^ 32)))) ×
    (range (pointed (Struct 0) (moved 1 move.Plus 4 (pointer I32) (number (pos 1)))) ≡ Some (from_to (pos 4) (pos 4294967300)))
places = (refl, refl, refl, refl, refl, refl, refl, refl)

-- ---- zones

abbrev asked : Zone → Predicate
asked z = Asks (place 1 1 1) question.Valid z

-- elements at the place 9, whose pointer stands at the start
abbrev elements : ℕ → LogicTerm → LogicTerm → LogicTerm → Zone
elements size a lo hi = Elements (place 1 9 9) size 1 a lo hi

abbrev square : LogicTerm
square = operated 12 operator.Mul (variable I64) (variable I64)

-- the bytes of elements lie within 128 bits, or the fault stands at the `+` before their range; those of a part that has no range come first
zones :
    (refusing (ranged_pred [] (asked (elements 1 (pointer I8) (number (pos 0)) square))) ≡ None) ×
    (refusing (ranged_pred [] (asked (elements 4 (pointer I32) (number (pos 0)) square))) ≡ Some (no_range (place 1 9 9))) ×
    (refusing (ranged_pred [] (asked (elements 1 (pointer I8) (number (pos 1)) (number (pos (2 ^ 127 - 1 - 2 ^ 32)))))) ≡ None) ×
    (refusing (ranged_pred [] (asked (elements 1 (pointer I8) (number (pos 0)) (number (pos (2 ^ 127 - 1 - 2 ^ 32)))))) ≡ Some (no_range (place 1 9 9))) ×
    (refusing (ranged_pred [] (asked (elements 1 (pointer I8) (number (pos (2 ^ 127 - 2 ^ 32))) (number (pos (2 ^ 127 - 2 ^ 32)))))) ≡ Some (no_range (place 1 9 9))) ×
    (refusing (ranged_pred [] (asked (elements 4 (pointer I32) (number (pos 0)) (shifted 12)))) ≡ Some (no_range (place 1 12 12))) ×
    (refusing (ranged_pred [] (asked (Object (place 1 1 1) 4 4 (moved 9 move.Plus 4 (pointer I32) (shifted 3))))) ≡ Some (no_range (place 1 3 3))) ×
    (refusing (ranged_pred [] (Separated (place 1 1 1) (Another (elements 4 (pointer I32) (number (pos 0)) square) (Another (Object (place 1 3 3) 4 4 (moved 3 move.Plus 4 (pointer I32) square)) NoZone)))) ≡ Some (no_range (place 1 3 3)))
zones = (refl, refl, refl, refl, refl, refl, refl, refl)
