-- Questions about zones (ACSL 2.7), by computation: what is valid, written and apart, at the edges of blocks and for zones of no bytes.
use Rattle.std.proofs.Common.{◌≡◌, ◌^◌, pos, negsuc, true, false, [], ◌∷◌, None, refl}
use Rattle.c_syntax.specs.declared.logic.Connective.TheVariants.{And, Or, Implies, Iff}
use Rattle.c_syntax.specs.declared.logic.MemoryQuestion.TheVariants.{Valid, ValidRead, Initialized}
use Rattle.c_syntax.specs.Logic.{LogicTerm, Choice, Zone, Object, Elements, Truth, Not}
use Rattle.c_model.specs.Logic.{Says, SaysNothing}
use Rattle.worked_rows.proofs.WorkedTerms.{here, any, int, char, number, deref, member, at_address, plus, minus, as_pointer, bytes_on, null, object, elements, bytes}
use Rattle.worked_rows.proofs.WorkedTerms.{same, other, connected_by, asked, separated, a, p, x, q, s, w, z, u, n, loose, k, t, value, says, is}

-- ---- `\valid`: writing there would be defined

a_local_object : says (asked Valid (object (at_address x))) ≡ Says true 5
a_local_object = refl

behind_a_local_object : says (asked Valid (object (plus (at_address x) (pos 1)))) ≡ Says false 5
behind_a_local_object = refl

a_whole_struct : says (asked Valid (Object here 8 4 (at_address s))) ≡ Says true 5
a_whole_struct = refl

the_struct_behind_it : says (asked Valid (Object here 8 4 (at_address (member int 8 s)))) ≡ Says false 5
the_struct_behind_it = refl

a_struct_over_its_end : says (asked Valid (Object here 8 4 (at_address (member int 4 s)))) ≡ Says false 5
a_struct_over_its_end = refl

a_whole_array : says (asked Valid (Object here 16 4 (at_address a))) ≡ Says true 5
a_whole_array = refl

before_the_start : says (asked Valid (object (minus a (pos 1)))) ≡ Says false 5
before_the_start = refl

null_isnt_valid : says (asked Valid (object z)) ≡ Says false 5
null_isnt_valid = refl

an_int_in_chars : says (asked Valid (object (as_pointer int k))) ≡ Says true 5
an_int_in_chars = refl

the_second_int_in_chars : says (asked Valid (object (as_pointer int (bytes_on k (pos 4))))) ≡ Says true 5
the_second_int_in_chars = refl

an_int_off_its_alignment : says (asked Valid (object (as_pointer int (bytes_on k (pos 1))))) ≡ Says false 5
an_int_off_its_alignment = refl

a_char_has_no_alignment : says (asked Valid (Object here 1 1 (bytes_on k (pos 7)))) ≡ Says true 5
a_char_has_no_alignment = refl

an_unwritten_pointer_says_nothing : says (asked Valid (object u)) ≡ SaysNothing 5
an_unwritten_pointer_says_nothing = refl

but_its_own_place_is_valid : says (asked Valid (Object here 8 8 (at_address u))) ≡ Says true 5
but_its_own_place_is_valid = refl

the_address_of_what_is_dead : says (asked Valid (object (at_address (deref int q)))) ≡ Says false 5
the_address_of_what_is_dead = refl

-- ---- ranges of elements

all_but_the_first : says (asked Valid (elements a (pos 1) (pos 3))) ≡ Says true 5
all_but_the_first = refl

one_before_the_first : says (asked Valid (elements a (negsuc 0) (pos 0))) ≡ Says false 5
one_before_the_first = refl

back_from_one_past : says (asked Valid (elements p (negsuc 3) (negsuc 0))) ≡ Says true 5
back_from_one_past = refl

one_past_itself : says (asked Valid (elements p (pos 0) (pos 0))) ≡ Says false 5
one_past_itself = refl

one_element : says (asked Valid (elements a (pos 3) (pos 3))) ≡ Says true 5
one_element = refl

far_beyond : says (asked Valid (elements a (pos 0) (pos (2 ^ 100)))) ≡ Says false 5
far_beyond = refl

no_element_of_null : says (asked ValidRead (elements z (pos 7) (pos 3))) ≡ Says true 5
no_element_of_null = refl

no_element_of_dead : says (asked Valid (elements q (pos 0) (negsuc 0))) ≡ Says true 5
no_element_of_dead = refl

no_letter_of_a_literal : says (asked Valid (bytes w (pos 1) (pos 0))) ≡ Says true 5
no_letter_of_a_literal = refl

no_element_outside : says (asked Initialized (elements a (pos 9) (pos 8))) ≡ Says true 5
no_element_outside = refl

no_element_off_its_alignment : says (asked Valid (elements (as_pointer int (bytes_on k (pos 1))) (pos 0) (negsuc 0))) ≡ Says true 5
no_element_off_its_alignment = refl

no_element_of_nothing : says (asked Valid (elements u (pos 0) (negsuc 0))) ≡ SaysNothing 5
no_element_of_nothing = refl

up_to_an_unwritten_number : says (asked Valid (Elements here 4 4 z (number (pos 0)) x)) ≡ SaysNothing 5
up_to_an_unwritten_number = refl

from_an_unwritten_number : says (asked Valid (Elements here 4 4 a x (number (negsuc 0)))) ≡ SaysNothing 5
from_an_unwritten_number = refl

-- ---- `\valid_read`: literals too

null_cant_be_read : says (asked ValidRead (object z)) ≡ Says false 5
null_cant_be_read = refl

dead_cant_be_read : says (asked ValidRead (object q)) ≡ Says false 5
dead_cant_be_read = refl

behind_a_literal : says (asked ValidRead (bytes w (pos 0) (pos 3))) ≡ Says false 5
behind_a_literal = refl

unwritten_can_be_read : says (asked ValidRead (object (at_address x))) ≡ Says true 5
unwritten_can_be_read = refl

-- ---- `\initialized`: every byte is written besides

a_literal_is_written : says (asked Initialized (bytes w (pos 0) (pos 2))) ≡ Says true 5
a_literal_is_written = refl

static_storage_is_written : says (asked Initialized (Object here 8 8 (at_address z))) ≡ Says true 5
static_storage_is_written = refl

a_written_member : says (asked Initialized (object (at_address (member int 4 s)))) ≡ Says true 5
a_written_member = refl

a_pointer_of_null : says (asked Initialized (Object here 8 8 (at_address n))) ≡ Says true 5
a_pointer_of_null = refl

loose_pieces_are_written : says (asked Initialized (bytes loose (pos 0) (pos 7))) ≡ Says true 5
loose_pieces_are_written = refl

the_one_written_byte : says (asked Initialized (bytes k (pos 0) (pos 0))) ≡ Says true 5
the_one_written_byte = refl

and_an_unwritten_one : says (asked Initialized (bytes k (pos 0) (pos 1))) ≡ Says false 5
and_an_unwritten_one = refl

the_first_of_four_bytes : says (asked Initialized (object (as_pointer int k))) ≡ Says false 5
the_first_of_four_bytes = refl

null_isnt_written : says (asked Initialized (object z)) ≡ Says false 5
null_isnt_written = refl

dead_isnt_written : says (asked Initialized (object q)) ≡ Says false 5
dead_isnt_written = refl

written_off_its_alignment : says (asked Initialized (object (as_pointer int (bytes_on a (pos 2))))) ≡ Says false 5
written_off_its_alignment = refl

-- ---- `\separated`

neighbours : says (separated (object a ∷ object (plus a (pos 1)) ∷ [])) ≡ Says true 5
neighbours = refl

one_byte_of_both : says (separated (object a ∷ bytes (as_pointer char a) (pos 3) (pos 4) ∷ [])) ≡ Says false 5
one_byte_of_both = refl

one_inside_the_other : says (separated (elements a (pos 0) (pos 3) ∷ object (plus a (pos 2)) ∷ [])) ≡ Says false 5
one_inside_the_other = refl

a_member_of_the_struct : says (separated (Object here 8 4 (at_address s) ∷ object (at_address (member int 4 s)) ∷ [])) ≡ Says false 5
a_member_of_the_struct = refl

other_blocks : says (separated (object a ∷ object (at_address x) ∷ object t ∷ [])) ≡ Says true 5
other_blocks = refl

an_empty_zone_inside : says (separated (elements a (pos 0) (pos 3) ∷ elements a (pos 1) (pos 0) ∷ [])) ≡ Says true 5
an_empty_zone_inside = refl

null_meets_null : says (separated (object null ∷ object z ∷ [])) ≡ Says false 5
null_meets_null = refl

null_and_behind_it : says (separated (object null ∷ object (plus null (pos 1)) ∷ [])) ≡ Says true 5
null_and_behind_it = refl

dead_and_behind_it : says (separated (object q ∷ object (plus q (pos 1)) ∷ [])) ≡ Says true 5
dead_and_behind_it = refl

outside_of_their_block : says (separated (object (plus a (pos 8)) ∷ object (plus p (pos 4)) ∷ [])) ≡ Says false 5
outside_of_their_block = refl

the_first_and_the_last : says (separated (object a ∷ object (at_address x) ∷ object a ∷ [])) ≡ Says false 5
the_first_and_the_last = refl

the_last_two : says (separated (object (at_address x) ∷ object a ∷ object a ∷ [])) ≡ Says false 5
the_last_two = refl

a_zone_of_nothing : says (separated (object a ∷ object u ∷ [])) ≡ SaysNothing 5
a_zone_of_nothing = refl

a_zone_of_nothing_behind_two_that_meet : says (separated (object a ∷ object a ∷ object u ∷ [])) ≡ SaysNothing 5
a_zone_of_nothing_behind_two_that_meet = refl

-- ---- under connectives

abbrev valid : Zone → LogicTerm → LogicTerm → LogicTerm
valid zone c d = Choice here None any (asked Valid zone) c d

chosen_where_it_is_valid : value (valid (object a) (deref int a) (number (pos 7))) ≡ is (pos 0)
chosen_where_it_is_valid = refl

chosen_where_it_isnt : value (valid (object z) (deref int z) (number (pos 7))) ≡ is (pos 7)
chosen_where_it_isnt = refl

chosen_by_nothing : value (valid (object u) (number (pos 7)) (number (pos 7))) ≡ None
chosen_by_nothing = refl

not_read_where_it_isnt_valid : says (connected_by Implies (asked Valid (object z)) (same (deref int z) (number (pos 0)))) ≡ Says true 5
not_read_where_it_isnt_valid = refl

nor_behind_and : says (connected_by And (asked Valid (object z)) (same (deref int z) (number (pos 0)))) ≡ Says false 5
nor_behind_and = refl

read_first : says (connected_by Or (same (deref int z) (number (pos 0))) (Truth here true)) ≡ SaysNothing 5
read_first = refl

asked_of_nothing_first : says (connected_by Or (asked Valid (object u)) (Truth here true)) ≡ SaysNothing 5
asked_of_nothing_first = refl

not_asked : says (connected_by Or (Truth here true) (asked Valid (object u))) ≡ Says true 5
not_asked = refl

valid_or_null : says (connected_by Iff (asked Valid (object z)) (other z null)) ≡ Says true 5
valid_or_null = refl

denied_of_dead : says (Not here (asked Valid (object q))) ≡ Says true 5
denied_of_dead = refl

denied_of_nothing : says (Not here (asked Valid (object u))) ≡ SaysNothing 5
denied_of_nothing = refl
