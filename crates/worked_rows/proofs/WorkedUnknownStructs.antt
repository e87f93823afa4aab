-- Operators on pointers to structs whose members aren't known (C99 6.2.5 p22, 6.5.2.1, 6.5.6, 6.5.16), by computation: where the size is needed that is
-- told, whatever else isn't met; where it isn't, nothing is told of it. `struct u *w; struct e *e;`, and `A op B` stands at 0, 2 and 4.
use Rattle.std.proofs.Common.{◌≡◌, ℕ, List, [], ◌∷◌, map, refl}
use Rattle.c_syntax.specs.declared.expression.BinOp.{BinOp}
use Rattle.c_syntax.specs.declared.expression.BinOp.TheVariants.{Add, Sub, Mul, Shl, BitAnd, Eq, Ne, Lt, Ge}
use Rattle.c_syntax.specs.declared.expression.BumpOp.{BumpOp}
use Rattle.c_syntax.specs.declared.expression.BumpOp.TheVariants.{PreUp, PreDown, PostUp, PostDown}
use Rattle.c_syntax.specs.Ctypes.{PlainType, Void, Ptr}
use Rattle.c_syntax.specs.Expressions.{Expression}
use Rattle.c_model.specs.Checked.{Checked, Good}
use Rattle.worked_rows.proofs.WorkedSight.{fault, int, unsigned_long, struct_u, struct_e, c, i, p, v, a, r, w, e, one, zero, deref, address, no, both, choice, assign, compound, bump, index, n}
use Rattle.worked_rows.proofs.WorkedSight.{dot, arrow, cast, size_of_type, size_of, type_of, each, every}

-- ---- where elements are gone on by

abbrev steps : List BinOp
steps = Add ∷ Sub ∷ []

by_an_integer : each steps w one ≡ every steps (fault 5 2)
by_an_integer = refl

an_integer_by_it : each steps one w ≡ every steps (fault 5 2)
an_integer_by_it = refl

by_itself : each steps w w ≡ every steps (fault 5 2)
by_itself = refl

by_another_unknown_struct : each steps w e ≡ every steps (fault 5 2)
by_another_unknown_struct = refl

by_a_pointer_to_int : each steps w p ≡ every steps (fault 5 2)
by_a_pointer_to_int = refl

a_pointer_to_int_by_it : each steps p w ≡ every steps (fault 5 2)
a_pointer_to_int_by_it = refl

a_pointer_to_void_by_it : each steps v w ≡ every steps (fault 5 2)
a_pointer_to_void_by_it = refl

an_array_by_it : each steps a w ≡ every steps (fault 5 2)
an_array_by_it = refl

a_struct_by_it : each steps r w ≡ every steps (fault 5 2)
a_struct_by_it = refl

by_a_struct : each steps w r ≡ every steps (fault 5 2)
by_a_struct = refl

-- with `+=` and `-=`
abbrev in_place : (ℕ → Expression) → (ℕ → Expression) → List (Checked PlainType)
in_place a b = map (λ (op : BinOp). type_of (compound op 2 (a 0) (b 5))) steps

in_place_by_an_integer : in_place w one ≡ every steps (fault 5 2)
in_place_by_an_integer = refl

in_place_by_itself : in_place w w ≡ every steps (fault 5 2)
in_place_by_itself = refl

an_integer_in_place_by_it : in_place c w ≡ every steps (fault 5 2)
an_integer_in_place_by_it = refl

a_pointer_in_place_by_it : in_place p w ≡ every steps (fault 5 2)
a_pointer_in_place_by_it = refl

in_place_by_a_pointer : in_place w p ≡ every steps (fault 5 2)
in_place_by_a_pointer = refl

a_number_in_place_by_it : in_place one w ≡ every steps (fault 5 2)
a_number_in_place_by_it = refl

abbrev bumps : List BumpOp
bumps = PreUp ∷ PreDown ∷ PostUp ∷ PostDown ∷ []

bumped : map (λ (op : BumpOp). type_of (bump op 1 (w 0))) bumps ≡ every bumps (fault 5 1)
bumped = refl

-- A[B], the `[` at 1
abbrev indexed : (ℕ → Expression) → (ℕ → Expression) → Checked PlainType
indexed a b = type_of (index 1 (a 0) (b 2))

an_element : indexed w zero ≡ fault 5 1
an_element = refl

an_element_the_other_way_round : indexed zero w ≡ fault 5 1
an_element_the_other_way_round = refl

an_element_at_itself : indexed w w ≡ fault 5 1
an_element_at_itself = refl

an_element_at_another : indexed w e ≡ fault 5 1
an_element_at_another = refl

an_int_at_it : indexed p w ≡ fault 5 1
an_int_at_it = refl

an_element_at_a_struct : indexed w r ≡ fault 5 1
an_element_at_a_struct = refl

-- ---- where it is assigned, measured, or asked for a member

-- *w = 3, *w = *w, *w = *e, *w = r: the struct on the left
abbrev onto_it : Expression → Checked PlainType
onto_it b = type_of (assign 3 (deref 0 (w 1)) b)

a_number_onto_it : onto_it (one 5) ≡ fault 5 3
a_number_onto_it = refl

itself_onto_it : onto_it (deref 5 (w 6)) ≡ fault 5 3
itself_onto_it = refl

another_onto_it : onto_it (deref 5 (e 6)) ≡ fault 5 3
another_onto_it = refl

a_known_struct_onto_it : onto_it (r 5) ≡ fault 5 3
a_known_struct_onto_it = refl

-- r = *w, c = *w: of the one on the right no size is asked
onto_a_known_struct : type_of (assign 2 (r 0) (deref 4 (w 5))) ≡ fault 6 2
onto_a_known_struct = refl

onto_an_integer : type_of (assign 2 (c 0) (deref 4 (w 5))) ≡ fault 6 2
onto_an_integer = refl

measured : type_of (size_of 0 (deref 7 (w 8))) ≡ fault 5 0
measured = refl

measured_by_its_type : type_of (size_of_type 0 struct_e) ≡ fault 5 0
measured_by_its_type = refl

-- w->n, (*w).n
a_member : type_of (arrow 1 (w 0) n) ≡ fault 5 1
a_member = refl

a_member_of_what_it_points_to : type_of (dot 4 (deref 1 (w 2)) n) ≡ fault 5 4
a_member_of_what_it_points_to = refl

-- ---- where no size is needed

-- *w alone, and as the operand of `&` and of a cast to void
followed : type_of (deref 0 (w 1)) ≡ Good struct_u
followed = refl

its_address : type_of (address 0 (deref 1 (w 2))) ≡ Good (Ptr struct_u)
its_address = refl

its_value_thrown_away : type_of (cast 0 Void (deref 6 (w 7))) ≡ Good Void
its_value_thrown_away = refl

relations_of_one_type : each (Eq ∷ Ne ∷ Lt ∷ Ge ∷ []) w w ≡ every (Eq ∷ Ne ∷ Lt ∷ Ge ∷ []) (Good int)
relations_of_one_type = refl

relations_of_two_types : each (Eq ∷ Ne ∷ Lt ∷ Ge ∷ []) w e ≡ every (Eq ∷ Ne ∷ Lt ∷ Ge ∷ []) (fault 6 2)
relations_of_two_types = refl

an_order_with_a_pointer_to_int : each (Lt ∷ Ge ∷ []) w p ≡ every (Lt ∷ Ge ∷ []) (fault 6 2)
an_order_with_a_pointer_to_int = refl

operators_of_integers : each (Mul ∷ Shl ∷ BitAnd ∷ []) w one ≡ every (Mul ∷ Shl ∷ BitAnd ∷ []) (fault 6 2)
operators_of_integers = refl

operators_of_integers_in_place : type_of (compound Mul 2 (w 0) (one 5)) ≡ fault 6 2
operators_of_integers_in_place = refl

its_pointer_is_assigned : type_of (assign 2 (w 0) (w 4)) ≡ Good (Ptr struct_u)
its_pointer_is_assigned = refl

its_pointer_is_no_other : type_of (assign 2 (w 0) (e 4)) ≡ fault 6 2
its_pointer_is_no_other = refl

its_pointer_is_one_to_void : type_of (assign 2 (v 0) (w 4)) ≡ Good (Ptr Void)
its_pointer_is_one_to_void = refl

its_pointer_is_cast : type_of (cast 0 (Ptr struct_e) (w 10)) ≡ Good (Ptr struct_e)
its_pointer_is_cast = refl

its_pointer_is_measured : type_of (size_of 0 (w 7)) ≡ Good unsigned_long
its_pointer_is_measured = refl

its_pointer_is_a_condition : type_of (both 2 (w 0) (no 5 (w 6))) ≡ Good int
its_pointer_is_a_condition = refl

one_of_two_pointers : type_of (choice 2 (i 0) (w 4) (zero 8)) ≡ Good (Ptr struct_u)
one_of_two_pointers = refl

one_of_two_structs : type_of (choice 2 (i 0) (deref 4 (w 5)) (deref 9 (w 10))) ≡ fault 6 2
one_of_two_structs = refl
