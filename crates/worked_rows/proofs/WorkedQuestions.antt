-- Predicates about memory (ACSL 2.7), by computation.
use Rattle.std.proofs.Common.{◌≡◌, Bool, pos, negsuc, true, false, [], ◌∷◌, ◌++◌, replicate, Some, None, refl}
use Rattle.c_syntax.specs.declared.annotation.Relation.TheVariants.{Lt}
use Rattle.c_syntax.specs.declared.types.CInt.TheVariants.{I8}
use Rattle.c_syntax.specs.declared.types.BlockKind.TheVariants as block
use Rattle.c_syntax.specs.declared.logic.BlockFact.TheVariants.{BaseAddr, BlockLength, Offset}
use Rattle.c_syntax.specs.declared.logic.MemoryQuestion.TheVariants.{Valid, ValidRead, Initialized}
use Rattle.c_syntax.specs.declared.logic.PointerOp.TheVariants.{Plus}
use Rattle.c_syntax.specs.Ctypes.{Int, Ptr}
use Rattle.c_syntax.specs.Logic.{LogicTerm, Null, Deref, Member, Address, Moved, Difference, Told, Cast, Object, Elements, NoZone, Another}
use Rattle.c_syntax.specs.Logic.{Predicate, Asks, Separated, Chain, Linked, NoLink, Named, At, Connected, Quantified, Guarded, NoGuard, Binder}
use Rattle.c_syntax.specs.declared.logic.Connective.TheVariants.{Iff}
use Rattle.c_syntax.specs.declared.logic.Label.TheVariants.{Pre, Marked}
use Rattle.c_syntax.specs.declared.logic.Quantifier.TheVariants.{ForAll}
use Rattle.c_syntax.specs.Formulas.{Integers, OfC}
use Rattle.c_model.specs.ContractChecks.{result_is}
use Rattle.c_model.specs.Memory.{Points, Into, block_of, bytes_of}
use Rattle.c_model.specs.Memory as memory
use Rattle.c_model.specs.State.{State}
use Rattle.c_model.specs.Logic.{Says, SaysNothing, Mathematical}
use Rattle.c_model.specs.Predicates.{term, pred}
use Rattle.worked_rows.proofs.WorkedTerms.{here, any, int, number, at_address, plus, object, elements, same, now, a, p, x, q, s, w}

-- a pointer one past the end isn't valid, and the one before it is
one_past : pred (Asks here Valid (object p)) now [] 5 ≡ Says false 5
one_past = refl

before_it : pred (Asks here Valid (object (plus p (negsuc 0)))) now [] 5 ≡ Says true 5
before_it = refl

-- all elements, one too many, none
four : pred (Asks here Valid (elements a (pos 0) (pos 3))) now [] 5 ≡ Says true 5
four = refl

five : pred (Asks here Valid (elements a (pos 0) (pos 4))) now [] 5 ≡ Says false 5
five = refl

none_of_null : pred (Asks here Valid (elements (Null here (Some (Ptr int)) any) (pos 0) (negsuc 0))) now [] 5 ≡ Says true 5
none_of_null = refl

-- a literal can be read alone
literal_read : pred (Asks here ValidRead (Elements here 1 1 w (number (pos 0)) (number (pos 2)))) now [] 5 ≡ Says true 5
literal_read = refl

literal_not_written : pred (Asks here Valid (Object here 1 1 w)) now [] 5 ≡ Says false 5
literal_not_written = refl

-- a dead block isn't valid, and its pointer can't be compared, though another block has its place
dead_is_not_valid : pred (Asks here Valid (object q)) now [] 5 ≡ Says false 5
dead_is_not_valid = refl

dead_compares_with_none : pred (same p q) now [] 5 ≡ SaysNothing 5
dead_compares_with_none = refl

-- an unwritten object is valid and not initialized, and its value says nothing
unwritten : pred (Asks here Initialized (object (at_address x))) now [] 5 ≡ Says false 5
unwritten = refl

unwritten_is_valid : pred (Asks here Valid (object (at_address x))) now [] 5 ≡ Says true 5
unwritten_is_valid = refl

unwritten_says_nothing : pred (same x (number (pos 0))) now [] 5 ≡ SaysNothing 5
unwritten_says_nothing = refl

-- one member is written, the other isn't
member_read : pred (same (Member here (Some int) any 4 s) (number (pos 7))) now [] 5 ≡ Says true 5
member_read = refl

member_unwritten : pred (Asks here Initialized (Object here 1 1 (Address here (Some (Ptr (Int I8))) any (Member here (Some (Int I8)) any 0 s)))) now [] 5 ≡ Says false 5
member_unwritten = refl

-- a pointer's bytes are no number, but written
pieces_are_no_number : term (Deref here (Some int) any (Cast here (Some (Ptr int)) any (OfC (Ptr int)) (at_address p))) now [] ≡ None
pieces_are_no_number = refl

pieces_are_written : pred (Asks here Initialized (object (at_address p))) now [] 5 ≡ Says true 5
pieces_are_written = refl

-- elements through pointers
element : term (Deref here (Some int) any (plus p (negsuc 3))) now [] ≡ Some (Mathematical (pos 0))
element = refl

outside : term (Deref here (Some int) any p) now [] ≡ None
outside = refl

-- facts of blocks
facts : term (Told here None any BlockLength p) now [] ≡ Some (Mathematical (pos 16))
facts = refl

offset_at_end : term (Told here None any Offset (plus p (pos 0))) now [] ≡ Some (Mathematical (pos 16))
offset_at_end = refl

no_fact_outside : term (Told here None any Offset (plus p (pos 1))) now [] ≡ None
no_fact_outside = refl

base : pred (same (Told here (Some (Ptr (Int I8))) any BaseAddr p) a) now [] 5 ≡ Says true 5
base = refl

-- null and 0; a pointer outside that comes back
null_is_zero : pred (same (Null here (Some (Ptr int)) any) (number (pos 0))) now [] 5 ≡ Says true 5
null_is_zero = refl

and_back : pred (same (plus (plus p (pos 7)) (negsuc 10)) a) now [] 5 ≡ Says true 5
and_back = refl

no_order_of_blocks : pred (Chain here a (Linked here Lt (at_address x) NoLink)) now [] 5 ≡ SaysNothing 5
no_order_of_blocks = refl

distance : term (Difference here None any 4 a p) now [] ≡ Some (Mathematical (negsuc 3))
distance = refl

-- zones that share bytes, and zones that don't
apart : pred (Separated here (Another (elements a (pos 0) (pos 1)) (Another (elements a (pos 2) (pos 3)) (Another (object q) NoZone)))) now [] 5 ≡ Says true 5
apart = refl

meeting : pred (Separated here (Another (elements a (pos 0) (pos 2)) (Another (object q) (Another (elements a (pos 2) (pos 3)) NoZone)))) now [] 5 ≡ Says false 5
meeting = refl

dead_meets_itself : pred (Separated here (Another (object q) (Another (object q) NoZone))) now [] 5 ≡ Says false 5
dead_meets_itself = refl

-- ---- with quantifiers, labels and results (ACSL 2.2, 2.3, 2.4.3)

abbrev i : LogicTerm
i = Named here None any (record { name = 500; decl = 500 })

abbrev binder : Binder
binder = record { place = record { line = 1; column = 1; offset = 500 }; kind = Integers; above = false }

-- \forall integer i; 0 <= i < 4 ==> .., or 0 <= i <= 4
abbrev each : Bool → Predicate → Predicate
each below f = Quantified here ForAll (Guarded (number (pos 0)) binder [] below (number (pos 4)) NoGuard) f

-- a[i]
abbrev each_element : LogicTerm
each_element = Deref here (Some int) any (Moved here (Some (Ptr int)) any Plus 4 a i)

-- four values take four steps
all_zero : pred (each true (same each_element (number (pos 0)))) now [] 5 ≡ Says true 1
all_zero = refl

-- the fifth value is outside the array
one_too_many : pred (each false (same each_element (number (pos 0)))) now [] 5 ≡ SaysNothing 0
one_too_many = refl

-- a[0] became 1 after the beginning of the call
abbrev later : State
later = record now {
  store = block_of block.Global (bytes_of 4 1 ++ replicate 12 (memory.Number 0)) ∷ [];
  marks = record { label = None; scope = now.scope; store = now.store } ∷ [];
}

-- the first value decides now, and at the beginning none did
one_now : pred (each true (same each_element (number (pos 0)))) later [] 5 ≡ Says false 4
one_now = refl

zero_before : pred (each true (same (At here (Some int) any Pre each_element) (number (pos 0)))) later [] 5 ≡ Says true 1
zero_before = refl

-- a label that wasn't passed
not_passed : term (At here (Some int) any (Marked 7) x) later [] ≡ None
not_passed = refl

-- `<==>` takes the steps of its right side, whatever the left one says
both_sides : pred (Connected here Iff (same (at_address x) p) (each true (same each_element (number (pos 0))))) now [] 5 ≡ Says false 1
both_sides = refl

says_nothing_late : pred (Connected here Iff (same x (number (pos 0))) (each true (same each_element (number (pos 0))))) now [] 5 ≡ SaysNothing 1
says_nothing_late = refl

-- a result that is a pointer into the array
result : pred (Asks here Valid (object (Named here (Some (Ptr int)) any (record { name = 0; decl = 4294967294 })))) now (result_is (Points (Into 1 12))) 5 ≡ Says true 5
result = refl
