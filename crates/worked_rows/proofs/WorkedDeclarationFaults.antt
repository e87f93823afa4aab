-- Declarations that typing refuses, by computation: the code and the place of the fault.
use Rattle.std.proofs.Common.{◌≡◌, pos, true, [], ◌∷◌, Some, None, codes, refl}
use Rattle.c_syntax.specs.declared.types.CInt.TheVariants.{I8, I32, I64}
use Rattle.c_syntax.specs.declared.expression.BinOp.TheVariants as operator
use Rattle.c_syntax.specs.declared.expression.UnOp.TheVariants as unary
use Rattle.c_syntax.specs.Ctypes.{Void, Int, Ptr, Array, Struct, StructTag, EnumTag, Left, Written, int_type}
use Rattle.c_syntax.specs.Expressions.{Number, Text, Unary, Binary}
use Rattle.c_syntax.specs.Expressions.{SizeOfType, Index}
use Rattle.c_syntax.specs.Statements.{One, Many, NoInitialiser, Listed, Block, Return, Run}
use Rattle.c_syntax.specs.Programs.{TranslationUnit}
use Rattle.c_model.specs.Library.{library_constant, is_library_name}
use Rattle.c_model.specs.Checked.{refusing}
use Rattle.c_model.specs.UnitTyping.{typed_unit}
use Rattle.worked_rows.proofs.WorkedTrees.{place, items_of}
use Rattle.worked_rows.proofs.WorkedDeclarationTyping.{read, named, file}

--     int a[0];
abbrev has_no_element : TranslationUnit
has_no_element = file (codes "a" ∷ []) [] [] [] [] ((record { place = (place 1 5 4); name = 0; named = true; ctype = (Array int_type (Written (read (place 1 7 6) (Number (pos 0) (Some I32))))); init = None }) ∷ []) []

typed_unit-has_no_element : refusing (typed_unit has_no_element) ≡ Some (record { code = 6; place = (place 1 7 6) })
unfolding library_constant is_library_name
typed_unit-has_no_element = refl

--     int n; int a[n];
abbrev has_a_variable_length : TranslationUnit
has_a_variable_length = file (codes "n" ∷ codes "a" ∷ []) [] [] [] [] ((record { place = (place 1 5 4); name = 0; named = true; ctype = int_type; init = None }) ∷ (record {
  place = (place 1 12 11);
  name = 1;
  named = true;
  ctype = (Array int_type (Written (read (place 1 14 13) (named 0))));
  init = None;
}) ∷ []) []

typed_unit-has_a_variable_length : refusing (typed_unit has_a_variable_length) ≡ Some (record { code = 6; place = (place 1 14 13) })
unfolding library_constant is_library_name
typed_unit-has_a_variable_length = refl

--     void v;
abbrev declares_void : TranslationUnit
declares_void = file (codes "v" ∷ []) [] [] [] [] ((record { place = (place 1 6 5); name = 0; named = true; ctype = Void; init = None }) ∷ []) []

typed_unit-declares_void : refusing (typed_unit declares_void) ≡ Some (record { code = 6; place = (place 1 6 5) })
unfolding library_constant is_library_name
typed_unit-declares_void = refl

--     struct s x;
abbrev declares_an_unknown_struct : TranslationUnit
declares_an_unknown_struct = file (codes "s" ∷ codes "x" ∷ []) [] [] [] [] ((record { place = (place 1 10 9); name = 1; named = true; ctype = (StructTag 0 (place 1 8 7)); init = None }) ∷ []) []

typed_unit-declares_an_unknown_struct : refusing (typed_unit declares_an_unknown_struct) ≡ Some (record { code = 5; place = (place 1 10 9) })
unfolding library_constant is_library_name
typed_unit-declares_an_unknown_struct = refl

--     int a[2] = {1, 2, 3};
abbrev gives_too_many_items : TranslationUnit
gives_too_many_items = file (codes "a" ∷ []) [] [] [] [] ((record {
  place = (place 1 5 4);
  name = 0;
  named = true;
  ctype = (Array int_type (Written (read (place 1 7 6) (Number (pos 2) (Some I32)))));
  init = Some (
    (place 1 10 9),
    Many (place 1 12 11) (Listed (One (read (place 1 13 12) (Number (pos 1) (Some I32)))) (Listed (One (read (place 1 16 15) (Number (pos 2) (Some I32)))) (Listed (One
        (read (place 1 19 18) (Number (pos 3) (Some I32)))) NoInitialiser))),
  );
}) ∷ []) []

typed_unit-gives_too_many_items : refusing (typed_unit gives_too_many_items) ≡ Some (record { code = 6; place = (place 1 19 18) })
unfolding library_constant is_library_name
typed_unit-gives_too_many_items = refl

--     char w[2] = "abc";
abbrev gives_too_long_a_string : TranslationUnit
gives_too_long_a_string = file (codes "w" ∷ []) ((record { place = (place 1 13 12); bytes = codes "abc" }) ∷ []) [] [] [] ((record {
  place = (place 1 6 5);
  name = 0;
  named = true;
  ctype = (Array (Int
      I8) (Written (read (place 1 8 7) (Number (pos 2) (Some I32)))));
  init = Some ((place 1 11 10), One (read (place 1 13 12) (Text 12)));
}) ∷ []) []

typed_unit-gives_too_long_a_string : refusing (typed_unit gives_too_long_a_string) ≡ Some (record { code = 6; place = (place 1 11 10) })
unfolding library_constant is_library_name
typed_unit-gives_too_long_a_string = refl

--     int x = {{1}};
abbrev gives_a_scalar_two_braces : TranslationUnit
gives_a_scalar_two_braces = file (codes "x" ∷ []) [] [] [] [] ((record {
  place = (place 1 5 4);
  name = 0;
  named = true;
  ctype = int_type;
  init = Some (
    (place 1 7 6),
    Many (place 1 9 8) (Listed (Many
        (place 1 10 9) (Listed (One (read (place 1 11 10) (Number (pos 1) (Some I32)))) NoInitialiser)) NoInitialiser),
  );
}) ∷ []) []

typed_unit-gives_a_scalar_two_braces : refusing (typed_unit gives_a_scalar_two_braces) ≡ Some (record { code = 6; place = (place 1 10 9) })
unfolding library_constant is_library_name
typed_unit-gives_a_scalar_two_braces = refl

--     int a[] = 5;
abbrev initialises_an_array_by_a_number : TranslationUnit
initialises_an_array_by_a_number = file (codes "a" ∷ []) [] [] [] [] ((record {
  place = (place 1 5 4);
  name = 0;
  named = true;
  ctype = (Array int_type Left);
  init = Some (
    (place 1 9 8),
    One (read
        (place 1 11 10) (Number (pos 5) (Some I32))),
  );
}) ∷ []) []

typed_unit-initialises_an_array_by_a_number : refusing (typed_unit initialises_an_array_by_a_number) ≡ Some (record { code = 6; place = (place 1 9 8) })
unfolding library_constant is_library_name
typed_unit-initialises_an_array_by_a_number = refl

--     int y; int x = y;
abbrev reads_in_a_constant : TranslationUnit
reads_in_a_constant = file (codes "y" ∷ codes "x" ∷ []) [] [] [] [] ((record { place = (place 1 5 4); name = 0; named = true; ctype = int_type; init = None }) ∷ (record {
  place = (place 1 12 11);
  name
      = 1;
  named = true;
  ctype = int_type;
  init = Some ((place 1 14 13), One (read (place 1 16 15) (named 0)));
}) ∷ []) []

typed_unit-reads_in_a_constant : refusing (typed_unit reads_in_a_constant) ≡ Some (record { code = 6; place = (place 1 14 13) })
unfolding library_constant is_library_name
typed_unit-reads_in_a_constant = refl

--     int x = 1 / 0;
abbrev divides_in_a_constant : TranslationUnit
divides_in_a_constant = file (codes "x" ∷ []) [] [] [] [] ((record {
  place = (place 1 5 4);
  name = 0;
  named = true;
  ctype = int_type;
  init = Some (
    (place 1 7 6),
    One (read (place 1 11 10) (Binary
        operator.Div (read (place 1 9 8) (Number (pos 1) (Some I32))) (read (place 1 13 12) (Number (pos 0) (Some I32))))),
  );
}) ∷ []) []

typed_unit-divides_in_a_constant : refusing (typed_unit divides_in_a_constant) ≡ Some (record { code = 6; place = (place 1 7 6) })
unfolding library_constant is_library_name
typed_unit-divides_in_a_constant = refl

--     int a[3]; int *p = &a[4];
abbrev leaves_an_array_in_a_constant : TranslationUnit
leaves_an_array_in_a_constant = file (codes "a" ∷ codes "p" ∷ []) [] [] [] [] ((record {
  place = (place 1 5 4);
  name = 0;
  named = true;
  ctype = (Array int_type (Written (read (place 1 7 6) (Number
      (pos 3) (Some I32)))));
  init = None;
}) ∷ (record {
  place = (place 1 16 15);
  name = 1;
  named = true;
  ctype = (Ptr int_type);
  init = Some (
    (place 1 18 17),
    One (read (place 1 20 19) (Unary
        unary.Address (read (place 1 22 21) (Index (read (place 1 21 20) (named 0)) (read (place 1 23 22) (Number (pos 4) (Some I32))))))),
  );
}) ∷ []) []

typed_unit-leaves_an_array_in_a_constant : refusing (typed_unit leaves_an_array_in_a_constant) ≡ Some (record { code = 6; place = (place 1 18 17) })
unfolding library_constant is_library_name
typed_unit-leaves_an_array_in_a_constant = refl

--     int *q; int *p = q;
abbrev reads_a_pointer_in_a_constant : TranslationUnit
reads_a_pointer_in_a_constant = file (codes "q" ∷ codes "p" ∷ []) [] [] [] [] ((record { place = (place 1 6 5); name = 0; named = true; ctype = (Ptr int_type); init = None }) ∷ (record {
  place =
      (place 1 14 13);
  name = 1;
  named = true;
  ctype = (Ptr int_type);
  init = Some ((place 1 16 15), One (read (place 1 18 17) (named 0)));
}) ∷ []) []

typed_unit-reads_a_pointer_in_a_constant : refusing (typed_unit reads_a_pointer_in_a_constant) ≡ Some (record { code = 6; place = (place 1 16 15) })
unfolding library_constant is_library_name
typed_unit-reads_a_pointer_in_a_constant = refl

--     char *p = "abc" + 1;
abbrev goes_on_in_a_string : TranslationUnit
goes_on_in_a_string = file (codes "p" ∷ []) ((record { place = (place 1 11 10); bytes = codes "abc" }) ∷ []) [] [] [] ((record {
  place = (place 1 7 6);
  name = 0;
  named = true;
  ctype = (Ptr (Int I8));
  init = Some ((place 1 9 8), One (read (place 1 17 16) (Binary operator.Add (read (place 1 11 10) (Text 10)) (read (place 1 19 18) (Number (pos 1) (Some I32))))));
}) ∷ []) []

typed_unit-goes_on_in_a_string : refusing (typed_unit goes_on_in_a_string) ≡ Some (record { code = 6; place = (place 1 9 8) })
unfolding library_constant is_library_name
typed_unit-goes_on_in_a_string = refl

--     enum e { A = 2147483647, B };
abbrev enumerates_past_int : TranslationUnit
enumerates_past_int = file (codes "e" ∷ codes "A" ∷ codes "B" ∷ []) [] [] ((record {
  place = (place 1 6 5);
  tag = (Some 0);
  items = ((record {
    place = (place 1 10 9);
    name = 1;
    value = Some (read
        (place 1 14 13) (Number (pos 2147483647) (Some I32)));
  }) ∷ (record { place = (place 1 26 25); name = 2; value = None }) ∷ []);
}) ∷ []) [] [] []

typed_unit-enumerates_past_int : refusing (typed_unit enumerates_past_int) ≡ Some (record { code = 6; place = (place 1 26 25) })
unfolding library_constant is_library_name
typed_unit-enumerates_past_int = refl

--     enum e { A = 2147483648 };
abbrev enumerates_too_large : TranslationUnit
enumerates_too_large = file (codes "e" ∷ codes "A" ∷ []) [] [] ((record {
  place = (place 1 6 5);
  tag = (Some 0);
  items = ((record {
    place = (place 1 10 9);
    name = 1;
    value = Some (read (place 1 14 13)
        (Number (pos 2147483648) (Some I64)));
  }) ∷ []);
}) ∷ []) [] [] []

typed_unit-enumerates_too_large : refusing (typed_unit enumerates_too_large) ≡ Some (record { code = 6; place = (place 1 14 13) })
unfolding library_constant is_library_name
typed_unit-enumerates_too_large = refl

--     struct s { int a; char a; };
abbrev repeats_a_member : TranslationUnit
repeats_a_member = file (codes "s" ∷ codes "a" ∷ []) [] ((record {
  place = (place 1 8 7);
  tag = (Some 0);
  members = ((record { place = (place 1 16 15); name = 1; ctype = int_type; offset = 0 }) ∷
      (record { place = (place 1 24 23); name = 1; ctype = (Int I8); offset = 0 }) ∷ []);
  size = 0;
  align = 0;
}) ∷ []) [] [] [] []

typed_unit-repeats_a_member : refusing (typed_unit repeats_a_member) ≡ Some (record { code = 5; place = (place 1 24 23) })
unfolding library_constant is_library_name
typed_unit-repeats_a_member = refl

--     struct s { int a; }; enum s { A };
abbrev repeats_a_tag : TranslationUnit
repeats_a_tag = file (codes "s" ∷ codes "a" ∷ codes "A" ∷ []) [] ((record {
  place = (place 1 8 7);
  tag = (Some 0);
  members = ((record {
    place = (place 1 16 15);
    name = 1;
    ctype = int_type;
    offset = 0;
  }) ∷ []);
  size = 0;
  align = 0;
}) ∷ []) ((record { place = (place 1 27 26); tag = (Some 0); items = ((record { place = (place 1 31 30); name = 2; value = None }) ∷ []) }) ∷ []) [] [] []

typed_unit-repeats_a_tag : refusing (typed_unit repeats_a_tag) ≡ Some (record { code = 5; place = (place 1 27 26) })
unfolding library_constant is_library_name
typed_unit-repeats_a_tag = refl

--     enum e x;
abbrev names_an_unknown_enum : TranslationUnit
names_an_unknown_enum = file (codes "e" ∷ codes "x" ∷ []) [] [] [] [] ((record { place = (place 1 8 7); name = 1; named = true; ctype = (EnumTag 0 (place 1 6 5)); init = None }) ∷ []) []

typed_unit-names_an_unknown_enum : refusing (typed_unit names_an_unknown_enum) ≡ Some (record { code = 5; place = (place 1 6 5) })
unfolding library_constant is_library_name
typed_unit-names_an_unknown_enum = refl

--     enum e { A }; struct e *p;
abbrev names_an_enum_as_a_struct : TranslationUnit
names_an_enum_as_a_struct = file (codes "e" ∷ codes "A" ∷ codes "p" ∷ []) [] [] ((record {
  place = (place 1 6 5);
  tag = (Some 0);
  items = ((record { place = (place 1 10 9); name = 1; value = None }) ∷
      []);
}) ∷ []) [] ((record { place = (place 1 25 24); name = 2; named = true; ctype = (Ptr (StructTag 0 (place 1 22 21))); init = None }) ∷ []) []

typed_unit-names_an_enum_as_a_struct : refusing (typed_unit names_an_enum_as_a_struct) ≡ Some (record { code = 5; place = (place 1 22 21) })
unfolding library_constant is_library_name
typed_unit-names_an_enum_as_a_struct = refl

--     struct o { char c[sizeof(struct i)]; struct i { int k; } x; };
abbrev asks_for_a_later_size : TranslationUnit
asks_for_a_later_size = file (codes "o" ∷ codes "c" ∷ codes "i" ∷ codes "k" ∷ codes "x" ∷ []) [] ((record {
  place = (place 1 45 44);
  tag = (Some 2);
  members = ((record {
    place = (place 1 53 52);
    name
        = 3;
    ctype = int_type;
    offset = 0;
  }) ∷ []);
  size = 0;
  align = 0;
}) ∷ (record {
  place = (place 1 8 7);
  tag = (Some 0);
  members = ((record {
    place = (place 1 17 16);
    name = 1;
    ctype = (Array (Int
        I8) (Written (read (place 1 19 18) (SizeOfType (StructTag 2 (place 1 33 32))))));
    offset = 0;
  }) ∷ (record { place = (place 1 58 57); name = 4; ctype = (Struct 0); offset = 0 }) ∷ []);
  size = 0;
  align = 0;
}) ∷ [])
    [] [] [] []

typed_unit-asks_for_a_later_size : refusing (typed_unit asks_for_a_later_size) ≡ Some (record { code = 5; place = (place 1 19 18) })
unfolding library_constant is_library_name
typed_unit-asks_for_a_later_size = refl

--     int x = sizeof(void);
abbrev asks_for_the_size_of_void : TranslationUnit
asks_for_the_size_of_void = file (codes "x" ∷ []) [] [] [] [] ((record { place = (place 1 5 4); name = 0; named = true; ctype = int_type; init = Some ((place 1 7 6), One (read (place 1 9 8) (SizeOfType Void))) }) ∷ []) []

typed_unit-asks_for_the_size_of_void : refusing (typed_unit asks_for_the_size_of_void) ≡ Some (record { code = 6; place = (place 1 9 8) })
unfolding library_constant is_library_name
typed_unit-asks_for_the_size_of_void = refl

--     struct s { char c[2147483647]; char d; };
abbrev makes_a_struct_too_large : TranslationUnit
makes_a_struct_too_large = file (codes "s" ∷ codes "c" ∷ codes "d" ∷ []) [] ((record {
  place = (place 1 8 7);
  tag = (Some 0);
  members = ((record {
    place = (place 1 17 16);
    name = 1;
    ctype = (Array
        (Int I8) (Written (read (place 1 19 18) (Number (pos 2147483647) (Some I32)))));
    offset = 0;
  }) ∷ (record { place = (place 1 37 36); name = 2; ctype = (Int I8); offset = 0 }) ∷ []);
  size = 0;
  align
      = 0;
}) ∷ []) [] [] [] []

typed_unit-makes_a_struct_too_large : refusing (typed_unit makes_a_struct_too_large) ≡ Some (record { code = 11; place = (place 1 37 36) })
unfolding library_constant is_library_name
typed_unit-makes_a_struct_too_large = refl

--     char a[2][2147483647];
abbrev makes_an_array_too_large : TranslationUnit
makes_an_array_too_large = file (codes "a" ∷ []) [] [] [] [] ((record {
  place = (place 1 6 5);
  name = 0;
  named = true;
  ctype = (Array (Array (Int I8) (Written (read (place 1 11 10) (Number (pos
      2147483647) (Some I32))))) (Written (read (place 1 8 7) (Number (pos 2) (Some I32)))));
  init = None;
}) ∷ []) []

typed_unit-makes_an_array_too_large : refusing (typed_unit makes_an_array_too_large) ≡ Some (record { code = 11; place = (place 1 6 5) })
unfolding library_constant is_library_name
typed_unit-makes_an_array_too_large = refl

--     int *****************************************************************************************************p;
abbrev has_too_many_levels : TranslationUnit
has_too_many_levels = file (codes "p" ∷ []) [] [] [] [] ((record {
  place = (place 1 106 105);
  name = 0;
  named = true;
  ctype = (Ptr (Ptr (Ptr (Ptr (Ptr (Ptr (Ptr (Ptr (Ptr (Ptr (Ptr (Ptr (Ptr (Ptr (Ptr
      (Ptr (Ptr (Ptr (Ptr (Ptr (Ptr (Ptr (Ptr (Ptr (Ptr (Ptr (Ptr (Ptr (Ptr (Ptr (Ptr (Ptr (Ptr (Ptr (Ptr (Ptr (Ptr (Ptr (Ptr (Ptr (Ptr (Ptr (Ptr (Ptr (Ptr (Ptr (Ptr (Ptr (Ptr (Ptr (Ptr (Ptr (Ptr (Ptr
      (Ptr (Ptr (Ptr (Ptr (Ptr (Ptr (Ptr (Ptr (Ptr (Ptr (Ptr (Ptr (Ptr (Ptr (Ptr (Ptr (Ptr (Ptr (Ptr (Ptr (Ptr (Ptr (Ptr (Ptr (Ptr (Ptr (Ptr (Ptr (Ptr (Ptr (Ptr (Ptr (Ptr (Ptr (Ptr (Ptr (Ptr (Ptr (Ptr
      (Ptr (Ptr (Ptr (Ptr (Ptr (Ptr (Ptr (Ptr int_type)))))))))))))))))))))))))))))))))))))))))))))))))))))))))))))))))))))))))))))))))))))))))))))))))))));
  init = None;
}) ∷ []) []

typed_unit-has_too_many_levels : refusing (typed_unit has_too_many_levels) ≡ Some (record { code = 11; place = (place 1 106 105) })
unfolding library_constant is_library_name
typed_unit-has_too_many_levels = refl

--     int f(int a); int f(char a);
abbrev declares_another_type : TranslationUnit
declares_another_type = file (codes "f" ∷ codes "a" ∷ []) [] [] [] [] [] ((record {
  place = (place 1 5 4);
  name = 0;
  result = int_type;
  params = ((record {
    place = (place 1 11 10);
    name = 1;
    named =
        true;
    ctype = int_type;
    init = None;
  }) ∷ []);
  contract = None;
  body = None;
  close = (place 1 13 12);
}) ∷ (record {
  place = (place 1 19 18);
  name = 0;
  result = int_type;
  params = ((record {
    place =
        (place 1 26 25);
    name = 1;
    named = true;
    ctype = (Int I8);
    init = None;
  }) ∷ []);
  contract = None;
  body = None;
  close = (place 1 28 27);
}) ∷ [])

typed_unit-declares_another_type : refusing (typed_unit declares_another_type) ≡ Some (record { code = 5; place = (place 1 19 18) })
unfolding library_constant is_library_name
typed_unit-declares_another_type = refl

--     int x; int x(void);
abbrev declares_a_function_and_an_object : TranslationUnit
declares_a_function_and_an_object = file (codes "x" ∷ []) [] [] [] [] ((record { place = (place 1 5 4); name = 0; named = true; ctype = int_type; init = None }) ∷ []) ((record {
  place = (place 1 12
      11);
  name = 0;
  result = int_type;
  params = [];
  contract = None;
  body = None;
  close = (place 1 19 18);
}) ∷ [])

typed_unit-declares_a_function_and_an_object : refusing (typed_unit declares_a_function_and_an_object) ≡ Some (record { code = 5; place = (place 1 12 11) })
unfolding library_constant is_library_name
typed_unit-declares_a_function_and_an_object = refl

--     struct s { int n; }; struct s f(void);
abbrev gives_a_struct : TranslationUnit
gives_a_struct = file (codes "s" ∷ codes "n" ∷ codes "f" ∷ []) [] ((record {
  place = (place 1 8 7);
  tag = (Some 0);
  members = ((record {
    place = (place 1 16 15);
    name = 1;
    ctype = int_type;
    offset = 0;
  }) ∷ []);
  size = 0;
  align = 0;
}) ∷ []) [] [] [] ((record { place = (place 1 31 30); name = 2; result = (StructTag 0 (place 1 29 28)); params = []; contract = None; body = None; close = (place 1 38 37) }) ∷ [])

typed_unit-gives_a_struct : refusing (typed_unit gives_a_struct) ≡ Some (record { code = 6; place = (place 1 31 30) })
unfolding library_constant is_library_name
typed_unit-gives_a_struct = refl

--     struct s { int n; }; int f(struct s x);
abbrev takes_a_struct : TranslationUnit
takes_a_struct = file (codes "s" ∷ codes "n" ∷ codes "f" ∷ codes "x" ∷ []) [] ((record {
  place = (place 1 8 7);
  tag = (Some 0);
  members = ((record {
    place = (place 1 16 15);
    name = 1;
    ctype =
        int_type;
    offset = 0;
  }) ∷ []);
  size = 0;
  align = 0;
}) ∷ []) [] [] [] ((record {
  place = (place 1 26 25);
  name = 2;
  result = int_type;
  params = ((record {
    place = (place 1 37 36);
    name = 3;
    named =
        true;
    ctype = (StructTag 0 (place 1 35 34));
    init = None;
  }) ∷ []);
  contract = None;
  body = None;
  close = (place 1 39 38);
}) ∷ [])

typed_unit-takes_a_struct : refusing (typed_unit takes_a_struct) ≡ Some (record { code = 6; place = (place 1 37 36) })
unfolding library_constant is_library_name
typed_unit-takes_a_struct = refl

--     int f(struct s x) { return 0; }
abbrev takes_an_unknown_struct : TranslationUnit
takes_an_unknown_struct = file (codes "f" ∷ codes "s" ∷ codes "x" ∷ []) [] [] [] [] [] ((record {
  place = (place 1 5 4);
  name = 0;
  result = int_type;
  params = ((record {
    place = (place 1 16 15);
    name
        = 2;
    named = true;
    ctype = (StructTag 1 (place 1 14 13));
    init = None;
  }) ∷ []);
  contract = None;
  body = Some (Block (place 1 19 18) (items_of ((Run (Return (place 1 21 20) (Some (read (place 1 28 27) (Number (pos
      0) (Some I32)))))) ∷ [])));
  close = (place 1 31 30);
}) ∷ [])

typed_unit-takes_an_unknown_struct : refusing (typed_unit takes_an_unknown_struct) ≡ Some (record { code = 5; place = (place 1 16 15) })
unfolding library_constant is_library_name
typed_unit-takes_an_unknown_struct = refl

--     int putchar;
abbrev declares_a_name_of_the_library : TranslationUnit
declares_a_name_of_the_library = file (codes "putchar" ∷ []) [] [] [] [] ((record { place = (place 1 5 4); name = 0; named = true; ctype = int_type; init = None }) ∷ []) []

typed_unit-declares_a_name_of_the_library : refusing (typed_unit declares_a_name_of_the_library) ≡ Some (record { code = 5; place = (place 1 5 4) })
unfolding library_constant is_library_name
typed_unit-declares_a_name_of_the_library = refl

--     int a[N]; enum { N = 3 };
abbrev uses_a_name_before_its_declarator : TranslationUnit
uses_a_name_before_its_declarator = file (codes "a" ∷ codes "N" ∷ []) [] [] ((record {
  place = (place 1 11 10);
  tag = None;
  items = ((record {
    place = (place 1 18 17);
    name = 1;
    value = Some (read
        (place 1 22 21) (Number (pos 3) (Some I32)));
  }) ∷ []);
}) ∷ []) [] ((record {
  place = (place 1 5 4);
  name = 0;
  named = true;
  ctype = (Array int_type (Written (read (place 1 7 6) (named 1))));
  init
      = None;
}) ∷ []) []

typed_unit-uses_a_name_before_its_declarator : refusing (typed_unit uses_a_name_before_its_declarator) ≡ Some (record { code = 5; place = (place 1 7 6) })
unfolding library_constant is_library_name
typed_unit-uses_a_name_before_its_declarator = refl
