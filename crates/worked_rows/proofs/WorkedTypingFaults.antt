-- Expressions that typing refuses, by computation: the code and the place of the fault.
use Rattle.std.proofs.Common.{◌≡◌, pos, true, [], ◌∷◌, Some, None, codes, refl}
use Rattle.c_syntax.specs.declared.types.CInt.TheVariants.{I8, I32}
use Rattle.c_syntax.specs.declared.expression.BinOp.TheVariants as operator
use Rattle.c_syntax.specs.declared.expression.BumpOp.TheVariants.{PostUp}
use Rattle.c_syntax.specs.declared.expression.UnOp.TheVariants as unary
use Rattle.c_syntax.specs.Ctypes.{Void, Int, Ptr, Array, Struct, StructTag, Written, int_type}
use Rattle.c_syntax.specs.Expressions.{Number, Unary, Binary, Choice, Assign, Bump, Call, Cast}
use Rattle.c_syntax.specs.Expressions.{Dot, Arrow, NoExpression, Following}
use Rattle.c_syntax.specs.Statements.{One, Eval, Block, Return, Declare, Run}
use Rattle.c_syntax.specs.Programs.{TranslationUnit}
use Rattle.c_model.specs.Library.{library_constant, is_library_name}
use Rattle.c_model.specs.Checked.{refusing}
use Rattle.c_model.specs.UnitTyping.{typed_unit}
use Rattle.worked_rows.proofs.WorkedTrees.{place, items_of}
use Rattle.worked_rows.proofs.WorkedDeclarationTyping.{read, named, file}

--     int main(void) { int *p = 3; return 0; }
abbrev initialises_a_pointer_by_a_number : TranslationUnit
initialises_a_pointer_by_a_number = file (codes "main" ∷ codes "p" ∷ []) [] [] [] [] [] ((record {
  place = (place 1 5 4);
  name = 0;
  result = int_type;
  params = [];
  contract = None;
  body = Some (Block
      (place 1 16 15) (items_of ((Declare ((record {
        place = (place 1 23 22);
        name = 1;
        named = true;
        ctype = (Ptr int_type);
        init = Some (
          (place 1 25 24),
          One (read (place 1 27 26) (Number (pos 3)
              (Some I32))),
        );
      }) ∷ [])) ∷ (Run (Return (place 1 30 29) (Some (read (place 1 37 36) (Number (pos 0) (Some I32)))))) ∷ [])));
  close = (place 1 40 39);
}) ∷ [])

typed_unit-initialises_a_pointer_by_a_number : refusing (typed_unit initialises_a_pointer_by_a_number) ≡ Some (record { code = 6; place = (place 1 25 24) })
unfolding library_constant is_library_name
typed_unit-initialises_a_pointer_by_a_number = refl

--     struct s { int a; } x; int main(void) { return x.b; }
abbrev asks_for_an_unknown_member : TranslationUnit
asks_for_an_unknown_member = file (codes "s" ∷ codes "a" ∷ codes "x" ∷ codes "main" ∷ codes "b" ∷ []) [] ((record {
  place = (place 1 8 7);
  tag = (Some 0);
  members = ((record {
    place = (place 1 16 15);
    name = 1;
    ctype = int_type;
    offset = 0;
  }) ∷ []);
  size = 0;
  align = 0;
}) ∷ []) [] [] ((record { place = (place 1 21 20); name = 2; named = true; ctype = (Struct 0); init = None }) ∷ []) ((record {
  place = (place 1 28 27);
  name = 3;
  result = int_type;
  params = [];
  contract = None;
  body = Some (Block (place 1 39 38) (items_of ((Run (Return (place 1 41 40) (Some (read (place 1 49 48) (Dot
      (read (place 1 48 47) (named 2)) 4))))) ∷ [])));
  close = (place 1 53 52);
}) ∷ [])

typed_unit-asks_for_an_unknown_member : refusing (typed_unit asks_for_an_unknown_member) ≡ Some (record { code = 5; place = (place 1 49 48) })
unfolding library_constant is_library_name
typed_unit-asks_for_an_unknown_member = refl

--     struct s *p; int main(void) { return p->a; }
abbrev asks_an_unknown_struct : TranslationUnit
asks_an_unknown_struct = file (codes "s" ∷ codes "p" ∷ codes "main" ∷ codes "a" ∷ []) [] [] [] [] ((record {
  place = (place 1 11 10);
  name = 1;
  named = true;
  ctype = (Ptr (StructTag 0 (place 1 8 7)));
  init = None;
}) ∷ []) ((record {
  place = (place 1 18 17);
  name = 2;
  result = int_type;
  params = [];
  contract = None;
  body = Some (Block (place 1 29 28) (items_of ((Run (Return (place 1 31 30) (Some (read
      (place 1 39 38) (Arrow (read (place 1 38 37) (named 1)) 3))))) ∷ [])));
  close = (place 1 44 43);
}) ∷ [])

typed_unit-asks_an_unknown_struct : refusing (typed_unit asks_an_unknown_struct) ≡ Some (record { code = 5; place = (place 1 39 38) })
unfolding library_constant is_library_name
typed_unit-asks_an_unknown_struct = refl

--     int n; int main(void) { return n.n; }
abbrev asks_a_number_for_a_member : TranslationUnit
asks_a_number_for_a_member = file (codes "n" ∷ codes "main" ∷ []) [] [] [] [] ((record { place = (place 1 5 4); name = 0; named = true; ctype = int_type; init = None }) ∷ []) ((record {
  place = (place
      1 12 11);
  name = 1;
  result = int_type;
  params = [];
  contract = None;
  body = Some (Block (place 1 23 22) (items_of ((Run (Return (place 1 25 24) (Some (read (place 1 33 32) (Dot (read (place 1 32
      31) (named 0)) 0))))) ∷ [])));
  close = (place 1 37 36);
}) ∷ [])

typed_unit-asks_a_number_for_a_member : refusing (typed_unit asks_a_number_for_a_member) ≡ Some (record { code = 6; place = (place 1 33 32) })
unfolding library_constant is_library_name
typed_unit-asks_a_number_for_a_member = refl

--     int *p; int main(void) { return p * 2; }
abbrev multiplies_a_pointer : TranslationUnit
multiplies_a_pointer = file (codes "p" ∷ codes "main" ∷ []) [] [] [] [] ((record { place = (place 1 6 5); name = 0; named = true; ctype = (Ptr int_type); init = None }) ∷ []) ((record {
  place = (place
      1 13 12);
  name = 1;
  result = int_type;
  params = [];
  contract = None;
  body = Some (Block (place 1 24 23) (items_of ((Run (Return (place 1 26 25) (Some (read (place 1 35 34) (Binary operator.Mul
      (read (place 1 33 32) (named 0)) (read (place 1 37 36) (Number (pos 2) (Some I32)))))))) ∷ [])));
  close = (place 1 40 39);
}) ∷ [])

typed_unit-multiplies_a_pointer : refusing (typed_unit multiplies_a_pointer) ≡ Some (record { code = 6; place = (place 1 35 34) })
unfolding library_constant is_library_name
typed_unit-multiplies_a_pointer = refl

--     int *p; char *q; int main(void) { return p == q; }
abbrev compares_pointers_of_two_types : TranslationUnit
compares_pointers_of_two_types = file (codes "p" ∷ codes "q" ∷ codes "main" ∷ []) [] [] [] [] ((record { place = (place 1 6 5); name = 0; named = true; ctype = (Ptr int_type); init = None }) ∷ (record
    { place = (place 1 15 14); name = 1; named = true; ctype = (Ptr (Int I8)); init = None }) ∷ []) ((record {
      place = (place 1 22 21);
      name = 2;
      result = int_type;
      params = [];
      contract = None;
      body
          = Some (Block (place 1 33 32) (items_of ((Run (Return (place 1 35 34) (Some (read (place 1 44 43) (Binary operator.Eq (read (place 1 42 41) (named 0)) (read (place 1 47 46) (named 1))))))) ∷
          [])));
      close = (place 1 50 49);
    }) ∷ [])

typed_unit-compares_pointers_of_two_types : refusing (typed_unit compares_pointers_of_two_types) ≡ Some (record { code = 6; place = (place 1 44 43) })
unfolding library_constant is_library_name
typed_unit-compares_pointers_of_two_types = refl

--     void *v; int main(void) { return *v; }
abbrev follows_a_pointer_to_void : TranslationUnit
follows_a_pointer_to_void = file (codes "v" ∷ codes "main" ∷ []) [] [] [] [] ((record { place = (place 1 7 6); name = 0; named = true; ctype = (Ptr Void); init = None }) ∷ []) ((record {
  place =
      (place 1 14 13);
  name = 1;
  result = int_type;
  params = [];
  contract = None;
  body = Some (Block (place 1 25 24) (items_of ((Run (Return (place 1 27 26) (Some (read (place 1 34 33) (Unary
      unary.Deref (read (place 1 35 34) (named 0))))))) ∷ [])));
  close = (place 1 38 37);
}) ∷ [])

typed_unit-follows_a_pointer_to_void : refusing (typed_unit follows_a_pointer_to_void) ≡ Some (record { code = 6; place = (place 1 34 33) })
unfolding library_constant is_library_name
typed_unit-follows_a_pointer_to_void = refl

--     void *v; int main(void) { v = v + 1; return 0; }
abbrev goes_on_by_void : TranslationUnit
goes_on_by_void = file (codes "v" ∷ codes "main" ∷ []) [] [] [] [] ((record { place = (place 1 7 6); name = 0; named = true; ctype = (Ptr Void); init = None }) ∷ []) ((record {
  place = (place 1 14
      13);
  name = 1;
  result = int_type;
  params = [];
  contract = None;
  body = Some (Block (place 1 25 24) (items_of ((Run (Eval (place 1 27 26) (read (place 1 29 28) (Assign None (read (place 1 27 26)
      (named 0)) (read (place 1 33 32) (Binary operator.Add (read (place 1 31 30) (named 0)) (read (place 1 35 34) (Number (pos 1) (Some I32))))))))) ∷ (Run (Return (place 1 38 37) (Some (read (place 1
      45 44) (Number (pos 0) (Some I32)))))) ∷ [])));
  close = (place 1 48 47);
}) ∷ [])

typed_unit-goes_on_by_void : refusing (typed_unit goes_on_by_void) ≡ Some (record { code = 6; place = (place 1 33 32) })
unfolding library_constant is_library_name
typed_unit-goes_on_by_void = refl

--     struct s *p; int main(void) { p++; return 0; }
abbrev goes_on_by_an_unknown_struct : TranslationUnit
goes_on_by_an_unknown_struct = file (codes "s" ∷ codes "p" ∷ codes "main" ∷ []) [] [] [] [] ((record { place = (place 1 11 10); name = 1; named = true; ctype = (Ptr (StructTag 0 (place 1 8 7))); init = None }) ∷
    []) ((record {
      place = (place 1 18 17);
      name = 2;
      result = int_type;
      params = [];
      contract = None;
      body = Some (Block (place 1 29 28) (items_of ((Run (Eval (place 1 31 30) (read (place 1 32 31)
          (Bump PostUp (read (place 1 31 30) (named 1)))))) ∷ (Run (Return (place 1 36 35) (Some (read (place 1 43 42) (Number (pos 0) (Some I32)))))) ∷ [])));
      close = (place 1 46 45);
    }) ∷ [])

typed_unit-goes_on_by_an_unknown_struct : refusing (typed_unit goes_on_by_an_unknown_struct) ≡ Some (record { code = 5; place = (place 1 32 31) })
unfolding library_constant is_library_name
typed_unit-goes_on_by_an_unknown_struct = refl

--     int a[2]; int main(void) { a = 0; return 0; }
abbrev assigns_an_array : TranslationUnit
assigns_an_array = file (codes "a" ∷ codes "main" ∷ []) [] [] [] [] ((record {
  place = (place 1 5 4);
  name = 0;
  named = true;
  ctype = (Array int_type (Written (read (place 1 7 6) (Number (pos 2) (Some
      I32)))));
  init = None;
}) ∷ []) ((record {
  place = (place 1 15 14);
  name = 1;
  result = int_type;
  params = [];
  contract = None;
  body = Some (Block (place 1 26 25) (items_of ((Run (Eval (place 1 28
      27) (read (place 1 30 29) (Assign None (read (place 1 28 27) (named 0)) (read (place 1 32 31) (Number (pos 0) (Some I32))))))) ∷ (Run (Return (place 1 35 34) (Some (read (place 1 42 41) (Number
      (pos 0) (Some I32)))))) ∷ [])));
  close = (place 1 45 44);
}) ∷ [])

typed_unit-assigns_an_array : refusing (typed_unit assigns_an_array) ≡ Some (record { code = 6; place = (place 1 30 29) })
unfolding library_constant is_library_name
typed_unit-assigns_an_array = refl

--     struct s { int n; } a; struct t { int n; } b; int main(void) { a = b; return 0; }
abbrev assigns_another_struct : TranslationUnit
assigns_another_struct = file (codes "s" ∷ codes "n" ∷ codes "a" ∷ codes "t" ∷ codes "b" ∷ codes "main" ∷ []) [] (
    record { place = (place 1 8 7); tag = (Some 0); members = (record { place = (place 1 16 15); name = 1; ctype = int_type; offset = 0 } ∷ []); size = 0; align = 0 } ∷
    record { place = (place 1 31 30); tag = (Some 3); members = (record { place = (place 1 39 38); name = 1; ctype = int_type; offset = 0 } ∷ []); size = 0; align = 0 } ∷
    []) [] [] (
    record { place = (place 1 21 20); name = 2; named = true; ctype = (Struct 0); init = None } ∷ record { place = (place 1 44 43); name = 4; named = true; ctype = (Struct 1); init = None } ∷ []) (record {
      place = (place 1 51 50);
      name = 5;
      result = int_type;
      params = [];
      contract = None;
      body = Some (Block (place 1 62 61) (items_of (
          Run (Eval (place 1 64 63) (read (place 1 66 65) (Assign None (read (place 1 64 63) (named 2)) (read (place 1 68 67) (named 4))))) ∷
          Run (Return (place 1 71 70) (Some (read (place 1 78 77) (Number (pos 0) (Some I32))))) ∷
          [])));
      close = (place 1 81 80);
    } ∷ [])

typed_unit-assigns_another_struct : refusing (typed_unit assigns_another_struct) ≡ Some (record { code = 6; place = (place 1 66 65) })
unfolding library_constant is_library_name
typed_unit-assigns_another_struct = refl

--     struct s *p; int main(void) { *p = *p; return 0; }
abbrev assigns_an_unknown_struct : TranslationUnit
assigns_an_unknown_struct = file (codes "s" ∷ codes "p" ∷ codes "main" ∷ []) [] [] [] [] ((record { place = (place 1 11 10); name = 1; named = true; ctype = (Ptr (StructTag 0 (place 1 8 7))); init = None }) ∷ [])
    ((record {
      place = (place 1 18 17);
      name = 2;
      result = int_type;
      params = [];
      contract = None;
      body = Some (Block (place 1 29 28) (items_of ((Run (Eval (place 1 31 30) (read (place 1 34 33)
          (Assign None (read (place 1 31 30) (Unary unary.Deref (read (place 1 32 31) (named 1)))) (read (place 1 36 35) (Unary unary.Deref (read (place 1 37 36) (named 1)))))))) ∷ (Run (Return (place 1 40
          39) (Some (read (place 1 47 46) (Number (pos 0) (Some I32)))))) ∷ [])));
      close = (place 1 50 49);
    }) ∷ [])

typed_unit-assigns_an_unknown_struct : refusing (typed_unit assigns_an_unknown_struct) ≡ Some (record { code = 5; place = (place 1 34 33) })
unfolding library_constant is_library_name
typed_unit-assigns_an_unknown_struct = refl

--     int n; int main(void) { return &(n + 1) == 0; }
abbrev takes_the_address_of_a_sum : TranslationUnit
takes_the_address_of_a_sum = file (codes "n" ∷ codes "main" ∷ []) [] [] [] [] ((record { place = (place 1 5 4); name = 0; named = true; ctype = int_type; init = None }) ∷ []) ((record {
  place = (place
      1 12 11);
  name = 1;
  result = int_type;
  params = [];
  contract = None;
  body = Some (Block (place 1 23 22) (items_of ((Run (Return (place 1 25 24) (Some (read (place 1 41 40) (Binary operator.Eq
      (read (place 1 32 31) (Unary unary.Address (read (place 1 36 35) (Binary operator.Add (read (place 1 34 33) (named 0)) (read (place 1 38 37) (Number (pos 1) (Some I32))))))) (read (place 1 44 43)
      (Number (pos 0) (Some I32)))))))) ∷ [])));
  close = (place 1 47 46);
}) ∷ [])

typed_unit-takes_the_address_of_a_sum : refusing (typed_unit takes_the_address_of_a_sum) ≡ Some (record { code = 6; place = (place 1 32 31) })
unfolding library_constant is_library_name
typed_unit-takes_the_address_of_a_sum = refl

--     void *v; int main(void) { return (int *****************************************************************************************************)v == x; }
abbrev casts_to_too_many_levels : TranslationUnit
casts_to_too_many_levels = file (codes "v" ∷ codes "main" ∷ codes "x" ∷ []) [] [] [] [] ((record { place = (place 1 7 6); name = 0; named = true; ctype = (Ptr Void); init = None }) ∷ []) ((record {
  place = (place 1 14 13);
  name = 1;
  result = int_type;
  params = [];
  contract = None;
  body = Some (Block (place 1 25 24) (items_of ((Run (Return (place 1 27 26) (Some (read (place 1 143 142) (Binary
      operator.Eq (read (place 1 34 33) (Cast (Ptr (Ptr (Ptr (Ptr (Ptr (Ptr (Ptr (Ptr (Ptr (Ptr (Ptr (Ptr (Ptr (Ptr (Ptr (Ptr (Ptr (Ptr (Ptr (Ptr (Ptr (Ptr (Ptr (Ptr (Ptr (Ptr (Ptr (Ptr (Ptr (Ptr (Ptr
      (Ptr (Ptr (Ptr (Ptr (Ptr (Ptr (Ptr (Ptr (Ptr (Ptr (Ptr (Ptr (Ptr (Ptr (Ptr (Ptr (Ptr (Ptr (Ptr (Ptr (Ptr (Ptr (Ptr (Ptr (Ptr (Ptr (Ptr (Ptr (Ptr (Ptr (Ptr (Ptr (Ptr (Ptr (Ptr (Ptr (Ptr (Ptr (Ptr
      (Ptr (Ptr (Ptr (Ptr (Ptr (Ptr (Ptr (Ptr (Ptr (Ptr (Ptr (Ptr (Ptr (Ptr (Ptr (Ptr (Ptr (Ptr (Ptr (Ptr (Ptr (Ptr (Ptr (Ptr (Ptr (Ptr (Ptr (Ptr (Ptr (Ptr (Ptr
      int_type))))))))))))))))))))))))))))))))))))))))))))))))))))))))))))))))))))))))))))))))))))))))))))))))))))) (read (place 1 141 140) (named 0)))) (read (place 1 146 145) (named 2))))))) ∷ [])));
  close = (place 1 149 148);
}) ∷ [])

typed_unit-casts_to_too_many_levels : refusing (typed_unit casts_to_too_many_levels) ≡ Some (record { code = 11; place = (place 1 34 33) })
unfolding library_constant is_library_name
typed_unit-casts_to_too_many_levels = refl

--     int f(int *a, int b) { return b; } int main(void) { int x = 1; return f(&x); }
abbrev calls_with_too_few : TranslationUnit
calls_with_too_few = file (codes "f" ∷ codes "a" ∷ codes "b" ∷ codes "main" ∷ codes "x" ∷ []) [] [] [] [] [] ((record {
  place = (place 1 5 4);
  name = 0;
  result = int_type;
  params = ((record {
    place =
        (place 1 12 11);
    name = 1;
    named = true;
    ctype = (Ptr int_type);
    init = None;
  }) ∷ (record { place = (place 1 19 18); name = 2; named = true; ctype = int_type; init = None }) ∷ []);
  contract =
      None;
  body = Some (Block (place 1 22 21) (items_of ((Run (Return (place 1 24 23) (Some (read (place 1 31 30) (named 2))))) ∷ [])));
  close = (place 1 34 33);
}) ∷ (record {
  place = (place 1 40 39);
  name = 3;
  result = int_type;
  params = [];
  contract = None;
  body = Some (Block (place 1 51 50) (items_of ((Declare ((record {
    place = (place 1 57 56);
    name = 4;
    named = true;
    ctype = int_type;
    init
        = Some ((place 1 59 58), One (read (place 1 61 60) (Number (pos 1) (Some I32))));
  }) ∷ [])) ∷ (Run (Return (place 1 64 63) (Some (read (place 1 72 71) (Call (record { name = 0; decl = 0 })
      (Following (read (place 1 73 72) (Unary unary.Address (read (place 1 74 73) (named 4)))) NoExpression)))))) ∷ [])));
  close = (place 1 78 77);
}) ∷ [])

typed_unit-calls_with_too_few : refusing (typed_unit calls_with_too_few) ≡ Some (record { code = 6; place = (place 1 72 71) })
unfolding library_constant is_library_name
typed_unit-calls_with_too_few = refl

--     int f(int *a) { return *a; } int main(void) { return f(2); }
abbrev calls_with_a_number : TranslationUnit
calls_with_a_number = file (codes "f" ∷ codes "a" ∷ codes "main" ∷ []) [] [] [] [] [] ((record {
  place = (place 1 5 4);
  name = 0;
  result = int_type;
  params = ((record {
    place = (place 1 12 11);
    name =
        1;
    named = true;
    ctype = (Ptr int_type);
    init = None;
  }) ∷ []);
  contract = None;
  body = Some (Block (place 1 15 14) (items_of ((Run (Return (place 1 17 16) (Some (read (place 1 24 23) (Unary
      unary.Deref (read (place 1 25 24) (named 1))))))) ∷ [])));
  close = (place 1 28 27);
}) ∷ (record {
  place = (place 1 34 33);
  name = 2;
  result = int_type;
  params = [];
  contract = None;
  body = Some
      (Block (place 1 45 44) (items_of ((Run (Return (place 1 47 46) (Some (read (place 1 55 54) (Call (record { name = 0; decl = 0 }) (Following (read (place 1 56 55) (Number (pos 2) (Some I32)))
      NoExpression)))))) ∷ [])));
  close = (place 1 60 59);
}) ∷ [])

typed_unit-calls_with_a_number : refusing (typed_unit calls_with_a_number) ≡ Some (record { code = 6; place = (place 1 56 55) })
unfolding library_constant is_library_name
typed_unit-calls_with_a_number = refl

--     int main(void) { return (int *)1 == 0; }
abbrev casts_a_number_to_a_pointer : TranslationUnit
casts_a_number_to_a_pointer = file (codes "main" ∷ []) [] [] [] [] [] ((record {
  place = (place 1 5 4);
  name = 0;
  result = int_type;
  params = [];
  contract = None;
  body = Some (Block (place 1 16 15)
      (items_of ((Run (Return (place 1 18 17) (Some (read (place 1 34 33) (Binary operator.Eq (read (place 1 25 24) (Cast (Ptr int_type) (read (place 1 32 31) (Number (pos 1) (Some I32))))) (read (place
      1 37 36) (Number (pos 0) (Some I32)))))))) ∷ [])));
  close = (place 1 40 39);
}) ∷ [])

typed_unit-casts_a_number_to_a_pointer : refusing (typed_unit casts_a_number_to_a_pointer) ≡ Some (record { code = 6; place = (place 1 25 24) })
unfolding library_constant is_library_name
typed_unit-casts_a_number_to_a_pointer = refl

--     int *p; int main(void) { return (p ? p : 1) == 0; }
abbrev chooses_between_pointer_and_number : TranslationUnit
chooses_between_pointer_and_number = file (codes "p" ∷ codes "main" ∷ []) [] [] [] [] ((record { place = (place 1 6 5); name = 0; named = true; ctype = (Ptr int_type); init = None }) ∷ []) ((record {
  place = (place 1 13 12);
  name = 1;
  result = int_type;
  params = [];
  contract = None;
  body = Some (Block (place 1 24 23) (items_of ((Run (Return (place 1 26 25) (Some (read (place 1 45 44) (Binary
      operator.Eq (read (place 1 36 35) (Choice (read (place 1 34 33) (named 0)) (read (place 1 38 37) (named 0)) (read (place 1 42 41) (Number (pos 1) (Some I32))))) (read (place 1 48 47) (Number (pos
      0) (Some I32)))))))) ∷ [])));
  close = (place 1 51 50);
}) ∷ [])

typed_unit-chooses_between_pointer_and_number : refusing (typed_unit chooses_between_pointer_and_number) ≡ Some (record { code = 6; place = (place 1 36 35) })
unfolding library_constant is_library_name
typed_unit-chooses_between_pointer_and_number = refl
