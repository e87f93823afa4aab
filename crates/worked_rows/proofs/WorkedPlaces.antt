-- Pointers of annotations (ACSL 2.7), by computation: where they point, what is read there, how they are compared, and what is told of their blocks.
use Rattle.std.proofs.Common.{◌≡◌, ℤ, ◌^◌, pos, negsuc, true, false, None, refl}
use Rattle.c_syntax.specs.declared.annotation.Relation.TheVariants.{Lt, Le, Gt, Ge}
use Rattle.c_syntax.specs.declared.types.CInt.TheVariants.{U8, I16, I64}
use Rattle.c_syntax.specs.declared.logic.BlockFact.TheVariants.{BaseAddr, BlockLength, Offset}
use Rattle.c_syntax.specs.Ctypes.{Int, Ptr, Array, Struct, Count}
use Rattle.c_syntax.specs.Logic.{LogicTerm}
use Rattle.c_model.specs.Logic.{Says, SaysNothing}
use Rattle.worked_rows.proofs.WorkedTerms.{int, char, number, deref, member, at_address, moved_on, plus, minus, as_pointer, bytes_on, difference, null}
use Rattle.worked_rows.proofs.WorkedTerms.{told_of, related_by, same, other, a, p, x, q, s, w, z, u, pp, n, l, loose, t, k, mixed, value, says, is, into}

-- ---- a pointer has any offset in a block, or in null

null_is_at_zero : value null ≡ into 0 (pos 0)
null_is_at_zero = refl

null_moves : value (plus null (pos 3)) ≡ into 0 (pos 12)
null_moves = refl

moves_by_nothing : value (plus p (pos 0)) ≡ into 1 (pos 16)
moves_by_nothing = refl

moves_past_the_end : value (plus a (pos 9)) ≡ into 1 (pos 36)
moves_past_the_end = refl

moves_before_the_start : value (plus a (negsuc 0)) ≡ into 1 (negsuc 3)
moves_before_the_start = refl

moves_back : value (minus p (pos 5)) ≡ into 1 (negsuc 3)
moves_back = refl

moves_back_by_less_than_nothing : value (minus a (negsuc 1)) ≡ into 1 (pos 8)
moves_back_by_less_than_nothing = refl

moves_far : value (plus a (pos (2 ^ 100))) ≡ into 1 (pos (2 ^ 102))
moves_far = refl

moves_in_a_dead_block : value (plus q (pos 1)) ≡ into 5 (pos 4)
moves_in_a_dead_block = refl

moves_by_an_unwritten_number : value (moved_on 4 a x) ≡ None
moves_by_an_unwritten_number = refl

unwritten_moves : value (plus u (pos 0)) ≡ None
unwritten_moves = refl

address_of_an_unwritten_object : value (at_address x) ≡ into 4 (pos 0)
address_of_an_unwritten_object = refl

address_of_a_member : value (at_address (member int 4 s)) ≡ into 8 (pos 4)
address_of_a_member = refl

address_of_a_member_of_null : value (at_address (member int 4 (deref (Struct 0) z))) ≡ into 0 (pos 4)
address_of_a_member_of_null = refl

address_of_a_member_of_nothing : value (at_address (member int 4 (deref (Struct 0) u))) ≡ None
address_of_a_member_of_nothing = refl

address_of_what_it_points_to : value (at_address (deref int p)) ≡ into 1 (pos 16)
address_of_what_it_points_to = refl

address_of_what_null_points_to : value (at_address (deref int null)) ≡ into 0 (pos 0)
address_of_what_null_points_to = refl

-- t[i], a row of three ints, and t[i][j]
abbrev row : ℤ → LogicTerm
row i = deref (Array int (Count 3)) (moved_on 12 t (number i))

abbrev cell : ℤ → ℤ → LogicTerm
cell i j = deref int (moved_on 4 (row i) (number j))

arrays_point_to_their_start : value a ≡ into 1 (pos 0)
arrays_point_to_their_start = refl

rows_point_to_their_start : value (row (pos 1)) ≡ into 16 (pos 12)
rows_point_to_their_start = refl

rows_past_the_end : value (row (pos 7)) ≡ into 16 (pos 84)
rows_past_the_end = refl

address_of_a_cell : value (at_address (cell (pos 1) (pos 1))) ≡ into 16 (pos 16)
address_of_a_cell = refl

structs_have_no_value : value s ≡ None
structs_have_no_value = refl

casts_keep_a_pointer : value (as_pointer char p) ≡ into 1 (pos 16)
casts_keep_a_pointer = refl

casts_keep_a_dead_pointer : value (as_pointer char q) ≡ into 5 (pos 0)
casts_keep_a_dead_pointer = refl

-- ---- reading

pieces_are_a_pointer : value p ≡ into 1 (pos 16)
pieces_are_a_pointer = refl

eight_zeros_are_null : value z ≡ into 0 (pos 0)
eight_zeros_are_null = refl

pieces_of_null_are_null : value n ≡ into 0 (pos 0)
pieces_of_null_are_null = refl

an_unwritten_pointer : value u ≡ None
an_unwritten_pointer = refl

loose_pieces_are_no_pointer : value (deref (Ptr int) (as_pointer (Ptr int) loose)) ≡ None
loose_pieces_are_no_pointer = refl

half_a_pointer : value (deref (Ptr int) (as_pointer (Ptr int) mixed)) ≡ None
half_a_pointer = refl

the_other_half_is_a_number : value (deref int (as_pointer int (bytes_on mixed (pos 4)))) ≡ is (pos 0)
the_other_half_is_a_number = refl

a_number_is_no_pointer : value (deref (Ptr int) (as_pointer (Ptr int) (at_address l))) ≡ None
a_number_is_no_pointer = refl

zeros_of_a_pointer_are_a_number : value (deref (Int I64) (as_pointer (Int I64) (at_address z))) ≡ is (pos 0)
zeros_of_a_pointer_are_a_number = refl

pieces_of_null_are_no_number : value (deref (Int I64) (as_pointer (Int I64) (at_address n))) ≡ None
pieces_of_null_are_no_number = refl

a_pointer_off_its_alignment : value (deref (Ptr int) (as_pointer (Ptr int) (bytes_on (at_address p) (pos 4)))) ≡ None
a_pointer_off_its_alignment = refl

through_a_pointer_to_a_pointer : value (deref (Ptr int) pp) ≡ into 1 (pos 16)
through_a_pointer_to_a_pointer = refl

before_the_pointer_that_it_finds : value (deref int (minus (deref (Ptr int) pp) (pos 1))) ≡ is (pos 0)
before_the_pointer_that_it_finds = refl

half_a_number : value (deref int (as_pointer int (at_address l))) ≡ is (pos 5)
half_a_number = refl

through_null : value (deref int z) ≡ None
through_null = refl

a_member_through_null : value (member int 4 (deref (Struct 0) z)) ≡ None
a_member_through_null = refl

through_a_dead_pointer : value (deref int q) ≡ None
through_a_dead_pointer = refl

through_nothing : value (deref int u) ≡ None
through_nothing = refl

the_last_element : value (deref int (plus a (pos 3))) ≡ is (pos 0)
the_last_element = refl

one_past_the_last_element : value (deref int (plus a (pos 4))) ≡ None
one_past_the_last_element = refl

before_the_first_element : value (deref int (plus a (negsuc 0))) ≡ None
before_the_first_element = refl

off_its_alignment : value (deref int (as_pointer int (bytes_on a (pos 1)))) ≡ None
off_its_alignment = refl

a_short_on_its_own_alignment : value (deref (Int I16) (as_pointer (Int I16) (bytes_on t (pos 6)))) ≡ is (pos 0)
a_short_on_its_own_alignment = refl

across_a_row : value (cell (pos 0) (pos 3)) ≡ is (pos 3)
across_a_row = refl

across_all_rows : value (cell (pos 0) (pos 6)) ≡ None
across_all_rows = refl

a_letter_of_a_literal : value (deref char (moved_on 1 w (number (pos 1)))) ≡ is (pos 98)
a_letter_of_a_literal = refl

a_byte_with_its_sign : value (deref char k) ≡ is (negsuc 55)
a_byte_with_its_sign = refl

a_byte_without_sign : value (deref (Int U8) (as_pointer (Int U8) k)) ≡ is (pos 200)
a_byte_without_sign = refl

three_of_four_bytes_unwritten : value (deref int (as_pointer int k)) ≡ None
three_of_four_bytes_unwritten = refl

-- ---- `==` and `!=`: null with offset 0, and places from the start to the end of live blocks

one_past_is_the_end : says (same p (plus a (pos 4))) ≡ Says true 5
one_past_is_the_end = refl

one_past_is_no_other_object : says (other p (at_address x)) ≡ Says true 5
one_past_is_no_other_object = refl

one_past_isnt_null : says (same p null) ≡ Says false 5
one_past_isnt_null = refl

zero_is_null_on_the_left : says (same (number (pos 0)) z) ≡ Says true 5
zero_is_null_on_the_left = refl

null_is_null : says (other null n) ≡ Says false 5
null_is_null = refl

past_the_end_isnt_even_itself : says (same (plus a (pos 5)) (plus a (pos 5))) ≡ SaysNothing 5
past_the_end_isnt_even_itself = refl

before_the_start_isnt_even_itself : says (same (minus a (pos 1)) (minus a (pos 1))) ≡ SaysNothing 5
before_the_start_isnt_even_itself = refl

behind_null_isnt_null : says (same (plus null (pos 1)) null) ≡ SaysNothing 5
behind_null_isnt_null = refl

null_and_back : says (same (minus (plus null (pos 1)) (pos 1)) null) ≡ Says true 5
null_and_back = refl

dead_isnt_even_itself : says (same q q) ≡ SaysNothing 5
dead_isnt_even_itself = refl

dead_isnt_null : says (other q null) ≡ SaysNothing 5
dead_isnt_null = refl

nothing_isnt_null : says (other null u) ≡ SaysNothing 5
nothing_isnt_null = refl

pointers_of_other_types : says (same (as_pointer char a) a) ≡ Says true 5
pointers_of_other_types = refl

a_row_ends_where_the_next_begins : says (same (at_address (cell (pos 0) (pos 3))) (at_address (cell (pos 1) (pos 0)))) ≡ Says true 5
a_row_ends_where_the_next_begins = refl

-- ---- `<` and its kin: both in one live block

before_one_past : says (related_by Lt a p) ≡ Says true 5
before_one_past = refl

not_before_itself : says (related_by Lt p p) ≡ Says false 5
not_before_itself = refl

up_to_itself : says (related_by Le p p) ≡ Says true 5
up_to_itself = refl

behind_the_start : says (related_by Gt p a) ≡ Says true 5
behind_the_start = refl

not_from_one_past_on : says (related_by Ge a p) ≡ Says false 5
not_from_one_past_on = refl

null_has_no_order : says (related_by Le null null) ≡ SaysNothing 5
null_has_no_order = refl

null_isnt_before_an_object : says (related_by Lt null a) ≡ SaysNothing 5
null_isnt_before_an_object = refl

past_the_end_has_no_order : says (related_by Lt a (plus a (pos 5))) ≡ SaysNothing 5
past_the_end_has_no_order = refl

before_the_start_has_no_order : says (related_by Lt (minus a (pos 1)) a) ≡ SaysNothing 5
before_the_start_has_no_order = refl

dead_has_no_order : says (related_by Ge q q) ≡ SaysNothing 5
dead_has_no_order = refl

-- ---- `p - q`

no_distance : value (difference 4 p p) ≡ is (pos 0)
no_distance = refl

four_elements : value (difference 4 p a) ≡ is (pos 4)
four_elements = refl

half_an_element_is_dropped : value (difference 4 (as_pointer int (bytes_on a (pos 6))) a) ≡ is (pos 1)
half_an_element_is_dropped = refl

and_toward_zero : value (difference 4 a (as_pointer int (bytes_on a (pos 6)))) ≡ is (negsuc 0)
and_toward_zero = refl

no_distance_of_null : value (difference 4 null null) ≡ None
no_distance_of_null = refl

no_distance_past_the_end : value (difference 4 (plus a (pos 5)) a) ≡ None
no_distance_past_the_end = refl

no_distance_of_dead : value (difference 4 q q) ≡ None
no_distance_of_dead = refl

no_distance_of_blocks : value (difference 4 a (at_address x)) ≡ None
no_distance_of_blocks = refl

-- ---- `\base_addr`, `\block_length`, `\offset`

base_of_one_past : value (told_of BaseAddr p) ≡ into 1 (pos 0)
base_of_one_past = refl

base_of_null : value (told_of BaseAddr null) ≡ None
base_of_null = refl

base_of_dead : value (told_of BaseAddr q) ≡ None
base_of_dead = refl

base_before_the_start : value (told_of BaseAddr (minus a (pos 1))) ≡ None
base_before_the_start = refl

length_of_an_unwritten_object : value (told_of BlockLength (at_address x)) ≡ is (pos 4)
length_of_an_unwritten_object = refl

length_of_a_literal : value (told_of BlockLength w) ≡ is (pos 3)
length_of_a_literal = refl

length_of_all_rows : value (told_of BlockLength (row (pos 1))) ≡ is (pos 24)
length_of_all_rows = refl

length_past_the_end : value (told_of BlockLength (plus p (pos 1))) ≡ None
length_past_the_end = refl

length_of_nothing : value (told_of BlockLength u) ≡ None
length_of_nothing = refl

offset_at_the_start : value (told_of Offset a) ≡ is (pos 0)
offset_at_the_start = refl

offset_of_a_row : value (told_of Offset (row (pos 1))) ≡ is (pos 12)
offset_of_a_row = refl

offset_of_a_member : value (told_of Offset (at_address (member int 4 s))) ≡ is (pos 4)
offset_of_a_member = refl

offset_of_dead : value (told_of Offset q) ≡ None
offset_of_dead = refl
