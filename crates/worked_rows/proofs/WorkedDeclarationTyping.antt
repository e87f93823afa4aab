-- What typing makes of files with pointers, arrays, structs, enums and strings, by computation: the tree, or the fault that refuses.
use Rattle.std.proofs.Common.{◌≡◌, ℕ, pos, true, List, [], ◌∷◌, Some, None, codes, refl}
use Rattle.c_syntax.specs.declared.place.Place.{Place}
use Rattle.c_syntax.specs.declared.types.CInt.TheVariants.{I8, I32}
use Rattle.c_syntax.specs.declared.expression.BinOp.TheVariants as operator
use Rattle.c_syntax.specs.declared.expression.UnOp.TheVariants as unary
use Rattle.c_syntax.specs.declared.annotation.Relation.TheVariants as relation
use Rattle.c_syntax.specs.Ctypes.{Void, Int, Ptr, Array, Struct, StructTag, Named, Left, Written, Count, int_type}
use Rattle.c_syntax.specs.Expressions.{Expression, ExpressionKind, Node, Number, Text, Variable, Unary, Binary, Both, Choice, Assign, Call, Cast}
use Rattle.c_syntax.specs.Expressions.{SizeOfType, Index, Arrow, NoExpression, Following}
use Rattle.c_syntax.specs.Logic.{Chain, NoLink, Linked}
use Rattle.c_syntax.specs.Statements.{Declaration, One, Many, NoInitialiser, Listed, Eval, Block, For, Return, First, Declare, Run, Asserts}
use Rattle.c_syntax.specs.Programs.{StructType, EnumType, StringLiteral, Function, TranslationUnit}
use Rattle.c_model.specs.Library.{library_constant, is_library_name}
use Rattle.c_model.specs.Checked.{Good, refusing}
use Rattle.c_model.specs.UnitTyping.{typed_unit, room_fault}
use Rattle.worked_rows.proofs.WorkedTrees.{place, items_of, literal_term, variable_term, assertion}
use Rattle.worked_rows.proofs.WorkedMemory.{row_one}

-- an expression as it is read: without a type, and its names without declarations
abbrev pub read : Place → ExpressionKind → Expression
read at k = Node at Void k

abbrev pub named : ℕ → ExpressionKind
named x = Variable (record { name = x; decl = 0 })

-- a file by its names, string literals, structs, enums, typedefs, globals and functions
abbrev pub file : List (List ℕ) → List StringLiteral → List StructType → List EnumType → List Declaration → List Declaration → List Function → TranslationUnit
file names texts structs enums typedefs globals funcs = record {
  names = names;
  texts = texts;
  structs = structs;
  enums = enums;
  typedefs = typedefs;
  globals = globals;
  funcs = funcs;
  strays = [];
}

--     typedef struct s { struct s *next; int n; } node;
--     enum { N = 3, M };
--     int a[] = {1, 2, 3};
--     int t[N][M];
--     int *p = &t[2][4];
--     int *q = 2 + a;
--     char *w = "hey";
--     char v[] = "hey";
--     char u[3] = {"hey"};
--     node g = {&g, sizeof(node)};
--     int *o = (int *)0;
--     void *b[] = {&b[1], NULL};
--     int x = 1 ? 2 : 1 / 0;
--     int first(const int *c, int d[N]) { return c[0] + *d; }
--     int main(void) {
--       node *r = &g;
--       int i = first(a, p);
--       r->next = r;
--       r = NULL;
--       p += i;
--       return r != NULL && *p ? p - q : N[a];
--     }
abbrev declares_much : TranslationUnit
declares_much = file (codes "s" ∷ codes "next" ∷ codes "n" ∷ codes "node" ∷ codes "N" ∷ codes "M" ∷ codes "a" ∷ codes "t" ∷ codes "p" ∷ codes "q" ∷ codes "w" ∷ codes "v" ∷ codes "u" ∷ codes "g" ∷
    codes "o" ∷ codes "b" ∷ codes "NULL" ∷ codes "x" ∷ codes "first" ∷ codes "c" ∷ codes "d" ∷ codes "main" ∷ codes "r" ∷ codes "i" ∷ []) ((record { place = (place 7 11 148); bytes = codes "hey" }) ∷
    (record { place = (place 8 12 166); bytes = codes "hey" }) ∷ (record { place = (place 9 14 186); bytes = codes "hey" }) ∷ []) ((record {
      place = (place 1 16 15);
      tag = (Some 0);
      members = ((record
          { place = (place 1 30 29); name = 1; ctype = (Ptr (StructTag 0 (place 1 27 26))); offset = 0 }) ∷ (record { place = (place 1 40 39); name = 2; ctype = int_type; offset = 0 }) ∷ []);
      size = 0;
      align = 0;
    }) ∷ [])
    ((record {
      place = (place 2 1 50);
      tag = None;
      items = ((record { place = (place 2 8 57); name = 4; value = Some (read (place 2 12 61) (Number (pos 3) (Some I32))) }) ∷ (record {
        place = (place 2
            15 64);
        name = 5;
        value = None;
      }) ∷ []);
    }) ∷ []) ((record { place = (place 1 45 44); name = 3; named = true; ctype = (Struct 0); init = None }) ∷ []) ((record {
      place = (place 3 5 73);
      name = 6;
      named = true;
      ctype = (Array int_type Left);
      init = Some (
        (place 3 9 77),
        Many (place 3 11 79) (Listed (One (read (place 3 12 80) (Number (pos 1) (Some I32)))) (Listed (One (read (place 3 15 83)
            (Number (pos 2) (Some I32)))) (Listed (One (read (place 3 18 86) (Number (pos 3) (Some I32)))) NoInitialiser))),
      );
    }) ∷ (record {
      place = (place 4 5 94);
      name = 7;
      named = true;
      ctype = (Array
          (Array int_type (Written (read (place 4 10 99) (named 5)))) (Written (read (place 4 7 96) (named 4))));
      init = None;
    }) ∷ (record {
      place = (place 5 6 108);
      name = 8;
      named = true;
      ctype = (Ptr
          int_type);
      init = Some (
        (place 5 8 110),
        One (read (place 5 10 112) (Unary unary.Address (read (place 5 15 117) (Index (read (place 5 12 114) (Index (read (place 5 11 113) (named 7)) (read (place
            5 13 115) (Number (pos 2) (Some I32))))) (read (place 5 16 118) (Number (pos 4) (Some I32))))))),
      );
    }) ∷ (record {
      place = (place 6 6 127);
      name = 9;
      named = true;
      ctype = (Ptr int_type);
      init =
          Some ((place 6 8 129), One (read (place 6 12 133) (Binary operator.Add (read (place 6 10 131) (Number (pos 2) (Some I32))) (read (place 6 14 135) (named 6)))));
    }) ∷ (record {
      place = (place 7 7
          144);
      name = 10;
      named = true;
      ctype = (Ptr (Int I8));
      init = Some ((place 7 9 146), One (read (place 7 11 148) (Text 148)));
    }) ∷ (record {
      place = (place 8 6 160);
      name = 11;
      named = true;
      ctype
          = (Array (Int I8) Left);
      init = Some ((place 8 10 164), One (read (place 8 12 166) (Text 166)));
    }) ∷ (record {
      place = (place 9 6 178);
      name = 12;
      named = true;
      ctype = (Array (Int I8) (Written
          (read (place 9 8 180) (Number (pos 3) (Some I32)))));
      init = Some ((place 9 11 183), Many (place 9 13 185) (Listed (One (read (place 9 14 186) (Text 186))) NoInitialiser));
    }) ∷ (record {
      place =
          (place 10 6 199);
      name = 13;
      named = true;
      ctype = (Named 3);
      init = Some (
        (place 10 8 201),
        Many (place 10 10 203) (Listed (One (read (place 10 11 204) (Unary unary.Address (read (place 10 12
            205) (named 13))))) (Listed (One (read (place 10 15 208) (SizeOfType (Named 3)))) NoInitialiser)),
      );
    }) ∷ (record {
      place = (place 11 6 228);
      name = 14;
      named = true;
      ctype = (Ptr int_type);
      init =
          Some ((place 11 8 230), One (read (place 11 10 232) (Cast (Ptr int_type) (read (place 11 17 239) (Number (pos 0) (Some I32))))));
    }) ∷ (record {
      place = (place 12 7 248);
      name = 15;
      named = true;
      ctype = (Array (Ptr Void) Left);
      init = Some (
        (place 12 11 252),
        Many (place 12 13 254) (Listed (One (read (place 12 14 255) (Unary unary.Address (read (place 12 16 257) (Index (read (place 12 15
            256) (named 15)) (read (place 12 17 258) (Number (pos 1) (Some I32)))))))) (Listed (One (read (place 12 21 262) (named 16))) NoInitialiser)),
      );
    }) ∷ (record {
      place = (place 13 5 273);
      name = 17;
      named = true;
      ctype = int_type;
      init = Some (
        (place 13 7 275),
        One (read (place 13 11 279) (Choice (read (place 13 9 277) (Number (pos 1) (Some I32))) (read (place 13 13 281) (Number (pos 2) (Some
            I32))) (read (place 13 19 287) (Binary operator.Div (read (place 13 17 285) (Number (pos 1) (Some I32))) (read (place 13 21 289) (Number (pos 0) (Some I32))))))),
      );
    }) ∷ []) ((record {
      place =
          (place 14 5 296);
      name = 18;
      result = int_type;
      params = ((record { place = (place 14 22 313); name = 19; named = true; ctype = (Ptr int_type); init = None }) ∷ (record {
        place = (place 14 29
            320);
        name = 20;
        named = true;
        ctype = (Array int_type (Written (read (place 14 31 322) (named 4))));
        init = None;
      }) ∷ []);
      contract = None;
      body = Some (Block (place 14 35 326) (items_of ((Run
          (Return (place 14 37 328) (Some (read (place 14 49 340) (Binary operator.Add (read (place 14 45 336) (Index (read (place 14 44 335) (named 19)) (read (place 14 46 337) (Number (pos 0) (Some
          I32))))) (read (place 14 51 342) (Unary unary.Deref (read (place 14 52 343) (named 20))))))))) ∷ [])));
      close = (place 14 55 346);
    }) ∷ (record {
      place = (place 15 5 352);
      name = 21;
      result =
          int_type;
      params = [];
      contract = None;
      body = Some (Block (place 15 16 363) (items_of ((Declare ((record {
        place = (place 16 9 373);
        name = 22;
        named = true;
        ctype = (Ptr (Named 3));
        init = Some
            ((place 16 11 375), One (read (place 16 13 377) (Unary unary.Address (read (place 16 14 378) (named 13)))));
      }) ∷ [])) ∷ (Declare ((record {
        place = (place 17 7 387);
        name = 23;
        named = true;
        ctype
            = int_type;
        init = Some (
          (place 17 9 389),
          One (read (place 17 16 396) (Call (record { name = 18; decl = 0 }) (Following (read (place 17 17 397) (named 6)) (Following (read (place 17 20 400)
              (named 8)) NoExpression)))),
        );
      }) ∷ [])) ∷ (Run (Eval (place 18 3 406) (read (place 18 11 414) (Assign None (read (place 18 4 407) (Arrow (read (place 18 3 406) (named 22)) 1)) (read (place 18 13
          416) (named 22)))))) ∷ (Run (Eval (place 19 3 421) (read (place 19 5 423) (Assign None (read (place 19 3 421) (named 22)) (read (place 19 7 425) (named 16)))))) ∷ (Run (Eval (place 20 3 433) (read
          (place 20 5 435) (Assign (Some operator.Add) (read (place 20 3 433) (named 8)) (read (place 20 8 438) (named 23)))))) ∷ (Run (Return (place 21 3 443) (Some (read (place 21 26 466) (Choice (read
          (place 21 20 460) (Both (read (place 21 12 452) (Binary operator.Ne (read (place 21 10 450) (named 22)) (read (place 21 15 455) (named 16)))) (read (place 21 23 463) (Unary unary.Deref (read
          (place 21 24 464) (named 8)))))) (read (place 21 30 470) (Binary operator.Sub (read (place 21 28 468) (named 8)) (read (place 21 32 472) (named 9)))) (read (place 21 37 477) (Index (read (place 21
          36 476) (named 4)) (read (place 21 38 478) (named 6))))))))) ∷ [])));
      close = (place 22 1 482);
    }) ∷ [])

typed_unit-declares_much : refusing (typed_unit declares_much) ≡ None
unfolding library_constant is_library_name
typed_unit-declares_much = refl

--     char a[1048560]; char b[16]; int main(void) { return 0; }
abbrev fills_the_globals : TranslationUnit
fills_the_globals = file (codes "a" ∷ codes "b" ∷ codes "main" ∷ []) [] [] [] [] ((record {
  place = (place 1 6 5);
  name = 0;
  named = true;
  ctype = (Array (Int I8) (Written (read (place 1 8 7) (Number
      (pos 1048560) (Some I32)))));
  init = None;
}) ∷ (record {
  place = (place 1 23 22);
  name = 1;
  named = true;
  ctype = (Array (Int I8) (Written (read (place 1 25 24) (Number (pos 16) (Some I32)))));
  init = None;
}) ∷ []) ((record {
  place = (place 1 34 33);
  name = 2;
  result = int_type;
  params = [];
  contract = None;
  body = Some (Block (place 1 45 44) (items_of ((Run (Return (place 1 47 46) (Some
      (read (place 1 54 53) (Number (pos 0) (Some I32)))))) ∷ [])));
  close = (place 1 57 56);
}) ∷ [])

room_fault-fills_the_globals : room_fault (record fills_the_globals {
  globals = record { place = (place 1 6 5); name = 0; named = true; ctype = Array (Int I8) (Count 1048560); init = None } ∷ record {
    place = (place 1 23 22);
    name = 1;
    named = true;
    ctype = Array (Int I8) (Count 16);
    init = None;
  } ∷ [];
}) ≡ Some (record { code = 12; place = place 1 23 22 })
room_fault-fills_the_globals = refl

-- a whole file with its tree, whose run stands with the rows of memory
abbrev row_one_read : TranslationUnit
row_one_read = file (codes "s" ∷ codes "c" ∷ codes "n" ∷ codes "g" ∷ codes "t" ∷ codes "main" ∷ codes "p" ∷ codes "i" ∷ codes "q" ∷ codes "w" ∷ codes "putchar" ∷ []) ((record {
  place = (place 8 13
      137);
  bytes = codes "hey";
}) ∷ []) ((record {
  place = (place 1 8 7);
  tag = (Some 0);
  members = ((record { place = (place 1 17 16); name = 1; ctype = (Int I8); offset = 0 }) ∷ (record {
    place =
        (place 1 24 23);
    name = 2;
    ctype = int_type;
    offset = 0;
  }) ∷ []);
  size = 0;
  align = 0;
}) ∷ []) [] [] ((record {
  place = (place 2 10 38);
  name = 3;
  named = true;
  ctype = (StructTag 0 (place 2 8 36));
  init = None;
}) ∷ (record {
  place = (place 3 5 45);
  name = 4;
  named = true;
  ctype = (Array (Array int_type (Written (read (place 3 10 50) (Number (pos 3) (Some I32))))) (Written (read (place 3 7 47) (Number
      (pos 2) (Some I32)))));
  init = None;
}) ∷ []) ((record {
  place = (place 4 5 58);
  name = 5;
  result = int_type;
  params = [];
  contract = None;
  body = Some (Block (place 4 16 69) (items_of ((Declare
      ((record {
        place = (place 5 13 83);
        name = 6;
        named = true;
        ctype = (Ptr (StructTag 0 (place 5 10 80)));
        init = Some (
          (place 5 15 85),
          One (read (place 5 17 87) (Unary unary.Address (read (place 5 18 88) (named
              3)))),
        );
      }) ∷ [])) ∷ (Declare ((record { place = (place 6 7 97); name = 7; named = true; ctype = int_type; init = Some ((place 6 9 99), One (read (place 6 11 101) (Number (pos 0) (Some I32)))) }) ∷
      [])) ∷ (Declare ((record {
        place = (place 7 8 111);
        name = 8;
        named = true;
        ctype = (Ptr int_type);
        init = Some (
          (place 7 10 113),
          One (read (place 7 12 115) (Unary unary.Address (read (place 7 17
              120) (Index (read (place 7 14 117) (Index (read (place 7 13 116) (named 4)) (read (place 7 15 118) (Number (pos 1) (Some I32))))) (read (place 7 18 121) (Number (pos 0) (Some I32))))))),
        );
      }) ∷ []))
      ∷ (Declare ((record { place = (place 8 9 133); name = 9; named = true; ctype = (Ptr (Int I8)); init = Some ((place 8 11 135), One (read (place 8 13 137) (Text 137))) }) ∷ [])) ∷ (Run (Eval (place
      9 3 146) (read (place 9 8 151) (Assign None (read (place 9 4 147) (Arrow (read (place 9 3 146) (named 6)) 2)) (read (place 9 10 153) (Number (pos 5) (Some I32))))))) ∷ (Run (For (place 10 3 158)
      [] (First (Run (Eval (place 10 8 163) (read (place 10 10 165) (Assign None (read (place 10 8 163) (named 7)) (read (place 10 12 167) (Number (pos 0) (Some I32)))))))) (Some (read (place 10 17 172)
      (Binary operator.Lt (read (place 10 15 170) (named 7)) (read (place 10 19 174) (Number (pos 3) (Some I32)))))) (Some (read (place 10 24 179) (Assign None (read (place 10 22 177) (named 7)) (read
      (place 10 28 183) (Binary operator.Add (read (place 10 26 181) (named 7)) (read (place 10 30 185) (Number (pos 1) (Some I32)))))))) (Block (place 10 33 188) (items_of ((Run (Eval (place 11 5 194)
      (read (place 11 14 203) (Assign None (read (place 11 5 194) (Unary unary.Deref (read (place 11 9 198) (Binary operator.Add (read (place 11 7 196) (named 8)) (read (place 11 11 200) (named 7))))))
      (read (place 11 21 210) (Binary operator.Add (read (place 11 17 206) (Arrow (read (place 11 16 205) (named 6)) 2)) (read (place 11 23 212) (named 7)))))))) ∷ []))))) ∷ (Asserts (assertion 1 (place
      13 7 225) (Chain (place 13 16 234) (variable_term (place 13 14 232) 7 97) (Linked (place 13 16 234) relation.Eq (literal_term (place 13 19 237) 3) NoLink)) ∷ [])) ∷ (Run (Eval (place 14 3 242)
      (read (place 14 10 249) (Call (record { name = 10; decl = 0 }) (Following (read (place 14 12 251) (Index (read (place 14 11 250) (named 9)) (read (place 14 13 252) (Number (pos 1) (Some I32)))))
      NoExpression))))) ∷ (Run (Eval (place 15 3 259) (read (place 15 10 266) (Call (record { name = 10; decl = 0 }) (Following (read (place 15 19 275) (Binary operator.Add (read (place 15 15 271)
      (Index (read (place 15 12 268) (Index (read (place 15 11 267) (named 4)) (read (place 15 13 269) (Number (pos 1) (Some I32))))) (read (place 15 16 272) (Number (pos 2) (Some I32))))) (read (place
      15 21 277) (Number (pos 58) (Some I32))))) NoExpression))))) ∷ (Run (Return (place 16 3 284) (Some (read (place 16 10 291) (SizeOfType (StructTag 0 (place 16 24 305))))))) ∷ [])));
  close = (place 17 1 309);
}) ∷ [])

typed_unit-row_one : typed_unit row_one_read ≡ Good row_one
unfolding library_constant is_library_name
typed_unit-row_one = refl
