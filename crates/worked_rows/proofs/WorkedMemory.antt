-- Whole runs of small programs with pointers, arrays, structs and strings, by computation.
use Rattle.std.proofs.Common.{◌≡◌, pos, true, [], ◌∷◌, Some, None, codes, refl}
use Rattle.c_syntax.specs.declared.types.CInt.TheVariants.{I8, I32, I64, U64}
use Rattle.c_syntax.specs.declared.types.How.TheVariants as how
use Rattle.c_syntax.specs.declared.expression.BinOp.TheVariants.{Add, Sub, Mul, Eq, Lt, Gt}
use Rattle.c_syntax.specs.declared.expression.BumpOp.TheVariants.{PostUp, PreDown}
use Rattle.c_syntax.specs.declared.expression.UnOp.TheVariants as unary
use Rattle.c_syntax.specs.declared.annotation.Kind.TheVariants.{Assert}
use Rattle.c_syntax.specs.declared.annotation.Relation.TheVariants as relation
use Rattle.c_syntax.specs.Ctypes.{Void, Int, Ptr, Array, Struct, Count, int_type}
use Rattle.c_syntax.specs.Expressions.{Node, Number, Letter, Text, Variable, Unary, Binary, Assign, Bump, Call, Cast, SizeOfType, Index, Dot, Arrow, NoExpression, Following}
use Rattle.c_syntax.specs.Logic.{Chain, NoLink, Linked}
use Rattle.c_syntax.specs.Statements.{One, Many, NoInitialiser, Listed, Eval, Block, If, NoElse, For, Return, First, Declare, Run, Asserts}
use Rattle.c_syntax.specs.Programs.{TranslationUnit}
use Rattle.c_model.specs.State.{Exits, Broken, Undefined}
use Rattle.c_model.specs.Meaning.{run}
use Rattle.worked_rows.proofs.WorkedTrees.{place, items_of, literal_term, variable_term, assertion, definition, no_input}

--     struct s { char c; int n; };
--     struct s g;
--     int t[2][3];
--     int main(void) {
--       struct s *p = &g;
--       int i = 0;
--       int *q = &t[1][0];
--       char *w = "hey";
--       p->n = 5;
--       for (i = 0; i < 3; i = i + 1) {
--         *(q + i) = p->n + i;
--       }
--       //@ assert i == 3;
--       putchar(w[1]);
--       putchar(t[1][2] + 58);
--       return sizeof(struct s);
--     }
abbrev pub row_one : TranslationUnit
row_one = record {
  names = (codes "s" ∷ codes "c" ∷ codes "n" ∷ codes "g" ∷ codes "t" ∷ codes "main" ∷ codes "p" ∷ codes "i" ∷ codes "q" ∷ codes "w" ∷ codes "putchar" ∷ []);
  texts = (record { place = place 8 13 137; bytes = codes "hey" } ∷ []);
  structs =
      record {
        place = (place 1 8 7);
        tag = Some 0;
        members = (record { place = (place 1 17 16); name = 1; ctype = (Int I8); offset = 0 }) ∷
            (record { place = (place 1 24 23); name = 2; ctype = int_type; offset = 4 }) ∷ [];
        size = 8;
        align = 4;
      } ∷ [];
  enums = [];
  typedefs = [];
  globals = (record { place = (place 2 10 38); name = 3; named = true; ctype = (Struct 0); init = None }) ∷ (record { place = (place 3 5 45); name = 4; named = true; ctype = (Array (Array int_type (Count 3)) (Count 2)); init = None }) ∷ [];
  strays = [];
  funcs =
      definition int_type (place 4 5 58) 5 [] (place 4 16 69) (place 17 1 309)
      ((Declare ((record {
        place = (place 5 13 83);
        name = 6;
        named = true;
        ctype = (Ptr (Struct 0));
        init = Some
            ((place 5 15 85), One (Node (place 5 17 87) (Ptr (Struct 0)) (Unary unary.Address (Node (place 5 18 88) (Struct 0) (Variable (record { name = 3; decl = 38 }))))));
      }) ∷ [])) ∷
      (Declare ((record { place = (place 6 7 97); name = 7; named = true; ctype = int_type; init = Some ((place 6 9 99), One (Node (place 6 11 101) int_type (Number (pos 0) (Some I32)))) }) ∷ [])) ∷
      (Declare ((record {
        place =
            (place 7 8 111);
        name = 8;
        named = true;
        ctype = (Ptr int_type);
        init = Some (
          (place 7 10 113),
          One (Node (place 7 12 115) (Ptr int_type) (Unary unary.Address
              (Node (place 7 17 120) int_type (Index (Node (place 7 14 117) (Ptr int_type)
              (Cast (Ptr int_type) (Node (place 7 14 117) (Array int_type (Count 3))
              (Index (Node (place 7 13 116) (Ptr (Array int_type (Count 3))) (Cast (Ptr (Array int_type (Count 3))) (Node (place 7 13 116) (Array (Array int_type (Count 3)) (Count 2)) (Variable (record { name = 4; decl = 45 })))))
              (Node (place 7 15 118) int_type (Number (pos 1) (Some I32))))))) (Node (place 7 18 121) int_type (Number (pos 0) (Some I32))))))),
        );
      }) ∷ [])) ∷
      (Declare ((record {
        place =
            (place 8 9 133);
        name = 9;
        named = true;
        ctype = (Ptr (Int I8));
        init = Some ((place 8 11 135), One (Node (place 8 13 137) (Ptr (Int I8)) (Cast (Ptr (Int I8)) (Node (place 8 13 137) (Array (Int I8) (Count 4)) (Text 0)))));
      }) ∷ [])) ∷
      (Run (Eval (place 9 3 146) (Node (place 9 8 151) int_type (Assign None (Node (place 9 4 147) int_type (Arrow (Node (place 9 3 146) (Ptr (Struct 0)) (Variable (record {
        name =
            6;
        decl = 83;
      }))) 2)) (Node (place 9 10 153) int_type (Number (pos 5) (Some I32))))))) ∷
      (Run (For (place 10 3 158) [] (First (Run (Eval (place 10 8 163) (Node (place 10 10 165) int_type (Assign None (Node (place 10 8 163) int_type (Variable (record {
        name =
            7;
        decl = 97;
      }))) (Node (place 10 12 167) int_type (Number (pos 0) (Some I32))))))))
      (Some (Node (place 10 17 172) int_type (Binary Lt (Node (place 10 15 170) int_type (Variable (record { name = 7; decl = 97 }))) (Node (place 10 19 174) int_type (Number (pos 3) (Some I32))))))
      (Some (Node (place 10 24 179) int_type (Assign None (Node (place 10 22 177) int_type (Variable (record { name = 7; decl = 97 })))
      (Node (place 10 28 183) int_type (Binary Add (Node (place 10 26 181) int_type (Variable (record { name = 7; decl = 97 }))) (Node (place 10 30 185) int_type (Number (pos 1) (Some I32))))))))
      (Block (place 10 33 188) (items_of ((Run (Eval (place 11 5 194) (Node (place 11 14 203) int_type
      (Assign None (Node (place 11 5 194) int_type (Unary unary.Deref (Node (place 11 9 198) (Ptr int_type)
      (Binary Add (Node (place 11 7 196) (Ptr int_type) (Variable (record { name = 8; decl = 111 }))) (Node (place 11 11 200) int_type (Variable (record { name = 7; decl = 97 })))))))
      (Node (place 11 21 210) int_type (Binary Add (Node (place 11 17 206) int_type (Arrow (Node (place 11 16 205) (Ptr (Struct 0)) (Variable (record { name = 6; decl = 83 }))) 2))
      (Node (place 11 23 212) int_type (Variable (record { name = 7; decl = 97 }))))))))) ∷
      []))))) ∷
      (Asserts (assertion 1 (place 13 7 225) (Chain (place 13 16 234) (variable_term (place 13 14 232) 7 97) (Linked (place 13 16 234) relation.Eq (literal_term (place 13 19 237) 3) NoLink)) ∷ [])) ∷
      (Run (Eval (place 14 3 242) (Node (place 14 10 249) int_type (Call (record {
        name =
            10;
        decl = 4294967295;
      }) (Following (Node (place 14 12 251) int_type
      (Cast int_type (Node (place 14 12 251) (Int I8) (Index (Node (place 14 11 250) (Ptr (Int I8)) (Variable (record { name = 9; decl = 133 }))) (Node (place 14 13 252) int_type (Number (pos 1) (Some I32))))))) NoExpression))))) ∷
      (Run (Eval (place 15 3 259) (Node (place 15 10 266) int_type (Call (record {
        name =
            10;
        decl = 4294967295;
      }) (Following (Node (place 15 19 275) int_type
      (Binary Add (Node (place 15 15 271) int_type (Index (Node (place 15 12 268) (Ptr int_type)
      (Cast (Ptr int_type) (Node (place 15 12 268) (Array int_type (Count 3))
      (Index (Node (place 15 11 267) (Ptr (Array int_type (Count 3))) (Cast (Ptr (Array int_type (Count 3))) (Node (place 15 11 267) (Array (Array int_type (Count 3)) (Count 2)) (Variable (record { name = 4; decl = 45 })))))
      (Node (place 15 13 269) int_type (Number (pos 1) (Some I32))))))) (Node (place 15 16 272) int_type (Number (pos 2) (Some I32))))) (Node (place 15 21 277) int_type (Number (pos 58) (Some I32))))) NoExpression))))) ∷
      (Run (Return (place 16 3 284) (Some (Node (place 16 10 291) int_type (Cast int_type (Node (place 16 10 291) (Int U64) (SizeOfType (Struct 0)))))))) ∷
      []) ∷ [];
}

pub row_one-runs : run row_one no_input 10 ≡ record { final = Exits (pos 8); output = codes "eA"; left = 7 }
row_one-runs = refl

pub row_one-far : run row_one no_input 10000000 ≡ record { final = Exits (pos 8); output = codes "eA"; left = 9999997 }
row_one-far = refl

--     int main(void) { int x; /*@ assert x == 0; */ return 0; }
abbrev pub row_two : TranslationUnit
row_two = record {
  names = (codes "main" ∷ codes "x" ∷ []);
  texts = [];
  structs = [];
  enums = [];
  typedefs = [];
  globals = [];
  strays = [];
  funcs = definition int_type (place 1 5 4) 0 [] (place 1 16 15) (place 1 57 56) ((Declare ((record { place = (place 1 22 21); name = 1; named = true; ctype = int_type; init = None }) ∷ [])) ∷
      (Asserts (assertion 1 (place 1 29 28) (Chain (place 1 38 37) (variable_term (place 1 36 35) 1 21) (Linked (place 1 38 37) relation.Eq (literal_term (place 1 41 40) 0) NoLink)) ∷ [])) ∷
      (Run (Return (place 1 47 46) (Some (Node (place 1 54 53) int_type (Number (pos 0) (Some I32)))))) ∷
      []) ∷ [];
}

pub row_two-runs : run row_two no_input 10 ≡ record { final = Broken 1 1 Assert how.Undefined; output = []; left = 10 }
row_two-runs = refl

--     int main(void) { int *p = NULL; putchar('A'); return *p; }
abbrev pub reads_null : TranslationUnit
reads_null = record {
  names = (codes "main" ∷ codes "p" ∷ codes "NULL" ∷ codes "putchar" ∷ []);
  texts = [];
  structs = [];
  enums = [];
  typedefs = [];
  globals = [];
  strays = [];
  funcs =
      definition int_type (place 1 5 4) 0 [] (place 1 16 15) (place 1 58 57)
      ((Declare ((record {
        place = (place 1 23 22);
        name = 1;
        named = true;
        ctype = (Ptr int_type);
        init = Some
            ((place 1 25 24), One (Node (place 1 27 26) (Ptr int_type) (Cast (Ptr int_type) (Node (place 1 27 26) (Ptr Void) (Variable (record { name = 2; decl = 4294967295 }))))));
      }) ∷ [])) ∷
      (Run (Eval (place 1 33 32) (Node (place 1 40 39) int_type (Call (record { name = 3; decl = 4294967295 }) (Following (Node (place 1 41 40) int_type (Letter (pos 65))) NoExpression))))) ∷
      (Run (Return (place 1 47 46) (Some (Node (place 1 54 53) int_type (Unary unary.Deref (Node (place 1 55 54) (Ptr int_type) (Variable (record { name = 1; decl = 22 })))))))) ∷
      []) ∷ [];
}

pub reads_null-runs : run reads_null no_input 10 ≡ record { final = Undefined (place 1 54 53); output = codes "A"; left = 10 }
reads_null-runs = refl

--     int main(void) { int a[2]; int *p = a; p = p + 2; p = p + 1; return 0; }
abbrev pub leaves_an_array : TranslationUnit
leaves_an_array = record {
  names = (codes "main" ∷ codes "a" ∷ codes "p" ∷ []);
  texts = [];
  structs = [];
  enums = [];
  typedefs = [];
  globals = [];
  strays = [];
  funcs = definition int_type (place 1 5 4) 0 [] (place 1 16 15) (place 1 72 71) ((Declare ((record { place = (place 1 22 21); name = 1; named = true; ctype = (Array int_type (Count 2)); init = None }) ∷ [])) ∷
      (Declare ((record {
        place =
            (place 1 33 32);
        name = 2;
        named = true;
        ctype = (Ptr int_type);
        init = Some
            ((place 1 35 34), One (Node (place 1 37 36) (Ptr int_type) (Cast (Ptr int_type) (Node (place 1 37 36) (Array int_type (Count 2)) (Variable (record { name = 1; decl = 21 }))))));
      }) ∷ [])) ∷
      (Run (Eval (place 1 40 39) (Node (place 1 42 41) (Ptr int_type) (Assign None (Node (place 1 40 39) (Ptr int_type) (Variable (record {
        name =
            2;
        decl = 32;
      }))) (Node (place 1 46 45) (Ptr int_type) (Binary Add (Node (place 1 44 43) (Ptr int_type) (Variable (record { name = 2; decl = 32 }))) (Node (place 1 48 47) int_type (Number (pos 2) (Some I32))))))))) ∷
      (Run (Eval (place 1 51 50) (Node (place 1 53 52) (Ptr int_type) (Assign None (Node (place 1 51 50) (Ptr int_type) (Variable (record {
        name =
            2;
        decl = 32;
      }))) (Node (place 1 57 56) (Ptr int_type) (Binary Add (Node (place 1 55 54) (Ptr int_type) (Variable (record { name = 2; decl = 32 }))) (Node (place 1 59 58) int_type (Number (pos 1) (Some I32))))))))) ∷
      (Run (Return (place 1 62 61) (Some (Node (place 1 69 68) int_type (Number (pos 0) (Some I32)))))) ∷
      []) ∷ [];
}

pub leaves_an_array-runs : run leaves_an_array no_input 10 ≡ record { final = Undefined (place 1 57 56); output = []; left = 10 }
leaves_an_array-runs = refl

--     int main(void) { char *w = "hey"; w[0] = 'x'; return 0; }
abbrev pub writes_a_literal : TranslationUnit
writes_a_literal = record {
  names = (codes "main" ∷ codes "w" ∷ []);
  texts = (record { place = place 1 28 27; bytes = codes "hey" } ∷ []);
  structs = [];
  enums = [];
  typedefs = [];
  globals = [];
  strays = [];
  funcs =
      definition int_type (place 1 5 4) 0 [] (place 1 16 15) (place 1 57 56)
      ((Declare ((record {
        place = (place 1 24 23);
        name = 1;
        named = true;
        ctype = (Ptr (Int I8));
        init = Some
            ((place 1 26 25), One (Node (place 1 28 27) (Ptr (Int I8)) (Cast (Ptr (Int I8)) (Node (place 1 28 27) (Array (Int I8) (Count 4)) (Text 0)))));
      }) ∷ [])) ∷
      (Run (Eval (place 1 35 34) (Node (place 1 40 39) (Int I8) (Assign None (Node (place 1 36 35) (Int I8) (Index (Node (place 1 35 34) (Ptr (Int I8)) (Variable (record {
        name =
            1;
        decl = 23;
      }))) (Node (place 1 37 36) int_type (Number (pos 0) (Some I32))))) (Node (place 1 42 41) (Int I8) (Cast (Int I8) (Node (place 1 42 41) int_type (Letter (pos 120))))))))) ∷
      (Run (Return (place 1 47 46) (Some (Node (place 1 54 53) int_type (Number (pos 0) (Some I32)))))) ∷
      []) ∷ [];
}

pub writes_a_literal-runs : run writes_a_literal no_input 10 ≡ record { final = Undefined (place 1 40 39); output = []; left = 10 }
writes_a_literal-runs = refl

--     int main(void) { int *p; { int x = 1; p = &x; putchar(*p + 64); } return p == NULL; }
abbrev pub compares_a_dead_pointer : TranslationUnit
compares_a_dead_pointer = record {
  names = (codes "main" ∷ codes "p" ∷ codes "x" ∷ codes "putchar" ∷ codes "NULL" ∷ []);
  texts = [];
  structs = [];
  enums = [];
  typedefs = [];
  globals = [];
  strays = [];
  funcs = definition int_type (place 1 5 4) 0 [] (place 1 16 15) (place 1 85 84) ((Declare ((record { place = (place 1 23 22); name = 1; named = true; ctype = (Ptr int_type); init = None }) ∷ [])) ∷
      (Run (Block (place 1 26 25) (items_of ((Declare ((record { place = (place 1 32 31); name = 2; named = true; ctype = int_type; init = Some ((place 1 34 33), One (Node (place 1 36 35) int_type (Number (pos 1) (Some I32)))) }) ∷ [])) ∷
      (Run (Eval (place 1 39 38) (Node (place 1 41 40) (Ptr int_type) (Assign None (Node (place 1 39 38) (Ptr int_type) (Variable (record {
        name =
            1;
        decl = 22;
      }))) (Node (place 1 43 42) (Ptr int_type) (Unary unary.Address (Node (place 1 44 43) int_type (Variable (record { name = 2; decl = 31 }))))))))) ∷
      (Run (Eval (place 1 47 46) (Node (place 1 54 53) int_type (Call (record {
        name =
            3;
        decl = 4294967295;
      }) (Following (Node (place 1 58 57) int_type (Binary Add (Node (place 1 55 54) int_type (Unary unary.Deref (Node (place 1 56 55) (Ptr int_type) (Variable (record { name = 1; decl = 22 })))))
      (Node (place 1 60 59) int_type (Number (pos 64) (Some I32))))) NoExpression))))) ∷
      [])))) ∷
      (Run (Return (place 1 67 66) (Some (Node (place 1 76 75) int_type (Binary Eq (Node (place 1 74 73) (Ptr Void) (Cast (Ptr Void) (Node (place 1 74 73) (Ptr int_type) (Variable (record {
        name =
            1;
        decl = 22;
      }))))) (Node (place 1 79 78) (Ptr Void) (Variable (record { name = 4; decl = 4294967295 })))))))) ∷
      []) ∷ [];
}

pub compares_a_dead_pointer-runs : run compares_a_dead_pointer no_input 10 ≡ record { final = Undefined (place 1 76 75); output = codes "A"; left = 10 }
compares_a_dead_pointer-runs = refl

--     int main(void) { int x; int *p = &x; char *c = (char *)&p; return *c; }
abbrev pub reads_a_piece : TranslationUnit
reads_a_piece = record {
  names = (codes "main" ∷ codes "x" ∷ codes "p" ∷ codes "c" ∷ []);
  texts = [];
  structs = [];
  enums = [];
  typedefs = [];
  globals = [];
  strays = [];
  funcs = definition int_type (place 1 5 4) 0 [] (place 1 16 15) (place 1 71 70) ((Declare ((record { place = (place 1 22 21); name = 1; named = true; ctype = int_type; init = None }) ∷ [])) ∷
      (Declare ((record {
        place =
            (place 1 30 29);
        name = 2;
        named = true;
        ctype = (Ptr int_type);
        init = Some
            ((place 1 32 31), One (Node (place 1 34 33) (Ptr int_type) (Unary unary.Address (Node (place 1 35 34) int_type (Variable (record { name = 1; decl = 21 }))))));
      }) ∷ [])) ∷
      (Declare ((record {
        place =
            (place 1 44 43);
        name = 3;
        named = true;
        ctype = (Ptr (Int I8));
        init = Some
            ((place 1 46 45), One (Node (place 1 48 47) (Ptr (Int I8)) (Cast (Ptr (Int I8)) (Node (place 1 56 55) (Ptr (Ptr int_type)) (Unary unary.Address (Node (place 1 57 56) (Ptr int_type) (Variable (record { name = 2; decl = 29 }))))))));
      }) ∷ [])) ∷
      (Run (Return (place 1 60 59) (Some (Node (place 1 67 66) int_type (Cast int_type (Node (place 1 67 66) (Int I8) (Unary unary.Deref (Node (place 1 68 67) (Ptr (Int I8)) (Variable (record { name = 3; decl = 43 })))))))))) ∷
      []) ∷ [];
}

pub reads_a_piece-runs : run reads_a_piece no_input 10 ≡ record { final = Undefined (place 1 67 66); output = []; left = 10 }
reads_a_piece-runs = refl

--     struct s { int n; char c; }; int main(void) { struct s a; struct s b; a.n = 7; a.c = 'q'; b = a; a.c = 'x'; putchar(b.c); return b.n; }
abbrev pub copies_a_struct : TranslationUnit
copies_a_struct = record {
  names = (codes "s" ∷ codes "n" ∷ codes "c" ∷ codes "main" ∷ codes "a" ∷ codes "b" ∷ codes "putchar" ∷ []);
  texts = [];
  structs =
      record {
        place = (place 1 8 7);
        tag = Some 0;
        members = (record { place = (place 1 16 15); name = 1; ctype = int_type; offset = 0 }) ∷
            (record { place = (place 1 24 23); name = 2; ctype = (Int I8); offset = 4 }) ∷ [];
        size = 8;
        align = 4;
      } ∷ [];
  enums = [];
  typedefs = [];
  globals = [];
  strays = [];
  funcs = definition int_type (place 1 34 33) 3 [] (place 1 45 44) (place 1 135 134) ((Declare ((record { place = (place 1 56 55); name = 4; named = true; ctype = (Struct 0); init = None }) ∷ [])) ∷
      (Declare ((record { place = (place 1 68 67); name = 5; named = true; ctype = (Struct 0); init = None }) ∷ [])) ∷
      (Run (Eval (place 1 71 70) (Node (place 1 75 74) int_type (Assign None (Node (place 1 72 71) int_type (Dot (Node (place 1 71 70) (Struct 0) (Variable (record {
        name =
            4;
        decl = 55;
      }))) 1)) (Node (place 1 77 76) int_type (Number (pos 7) (Some I32))))))) ∷
      (Run (Eval (place 1 80 79) (Node (place 1 84 83) (Int I8) (Assign None (Node (place 1 81 80) (Int I8) (Dot (Node (place 1 80 79) (Struct 0) (Variable (record {
        name =
            4;
        decl = 55;
      }))) 2)) (Node (place 1 86 85) (Int I8) (Cast (Int I8) (Node (place 1 86 85) int_type (Letter (pos 113))))))))) ∷
      (Run (Eval (place 1 91 90) (Node (place 1 93 92) (Struct 0) (Assign None (Node (place 1 91 90) (Struct 0) (Variable (record { name = 5; decl = 67 }))) (Node (place 1 95 94) (Struct 0) (Variable (record { name = 4; decl = 55 }))))))) ∷
      (Run (Eval (place 1 98 97) (Node (place 1 102 101) (Int I8) (Assign None (Node (place 1 99 98) (Int I8) (Dot (Node (place 1 98 97) (Struct 0) (Variable (record {
        name =
            4;
        decl = 55;
      }))) 2)) (Node (place 1 104 103) (Int I8) (Cast (Int I8) (Node (place 1 104 103) int_type (Letter (pos 120))))))))) ∷
      (Run (Eval (place 1 109 108) (Node (place 1 116 115) int_type (Call (record {
        name =
            6;
        decl = 4294967295;
      }) (Following (Node (place 1 118 117) int_type (Cast int_type (Node (place 1 118 117) (Int I8) (Dot (Node (place 1 117 116) (Struct 0) (Variable (record { name = 5; decl = 67 }))) 2)))) NoExpression))))) ∷
      (Run (Return (place 1 123 122) (Some (Node (place 1 131 130) int_type (Dot (Node (place 1 130 129) (Struct 0) (Variable (record { name = 5; decl = 67 }))) 1))))) ∷
      []) ∷ [];
}

pub copies_a_struct-runs : run copies_a_struct no_input 10 ≡ record { final = Exits (pos 7); output = codes "q"; left = 10 }
copies_a_struct-runs = refl

--     struct s { int n; char c; };
--     int a[2][2] = {{1, 2}, {3}};
--     char w[4] = "ab";
--     int *q = &a[1][0];
--     int main(void) {
--       struct s v = {7, 'q'};
--       putchar(w[1]);
--       putchar(v.c);
--       putchar(w[3] + 65);
--       return a[0][1] + *q + a[1][1];
--     }
abbrev pub initialises : TranslationUnit
initialises = record {
  names = (codes "s" ∷ codes "n" ∷ codes "c" ∷ codes "a" ∷ codes "w" ∷ codes "q" ∷ codes "main" ∷ codes "v" ∷ codes "putchar" ∷ []);
  texts = (record { place = place 3 13 70; bytes = codes "ab" } ∷ []);
  structs =
      record {
        place = (place 1 8 7);
        tag = Some 0;
        members = (record { place = (place 1 16 15); name = 1; ctype = int_type; offset = 0 }) ∷
            (record { place = (place 1 24 23); name = 2; ctype = (Int I8); offset = 4 }) ∷ [];
        size = 8;
        align = 4;
      } ∷ [];
  enums = [];
  typedefs = [];
  globals =
      (record {
        place = (place 2 5 33);
        name = 3;
        named = true;
        ctype = (Array (Array int_type (Count 2)) (Count 2));
        init = Some (
          (place 2 13 41),
          Many (place 2 15 43) (Listed (Many (place 2 16 44) (Listed (One (Node (place 2 17 45) int_type (Number (pos 1) (Some I32)))) (Listed (One (Node (place 2 20 48) int_type (Number (pos 2) (Some I32)))) NoInitialiser)))
              (Listed (Many (place 2 24 52) (Listed (One (Node (place 2 25 53) int_type (Number (pos 3) (Some I32)))) NoInitialiser)) NoInitialiser)),
        );
      }) ∷
      (record { place = (place 3 6 63); name = 4; named = true; ctype = (Array (Int I8) (Count 4)); init = Some ((place 3 11 68), One (Node (place 3 13 70) (Array (Int I8) (Count 3)) (Text 0))) }) ∷
      (record {
        place = (place 4 6 81);
        name = 5;
        named = true;
        ctype = (Ptr int_type);
        init = Some (
          (place 4 8 83),
          One (Node (place 4 10 85) (Ptr int_type) (Unary unary.Address
              (Node (place 4 15 90) int_type (Index (Node (place 4 12 87) (Ptr int_type)
              (Cast (Ptr int_type) (Node (place 4 12 87) (Array int_type (Count 2)) (Index
              (Node (place 4 11 86) (Ptr (Array int_type (Count 2))) (Cast (Ptr (Array int_type (Count 2))) (Node (place 4 11 86) (Array (Array int_type (Count 2)) (Count 2)) (Variable (record { name = 3; decl = 33 })))))
              (Node (place 4 13 88) int_type (Number (pos 1) (Some I32))))))) (Node (place 4 16 91) int_type (Number (pos 0) (Some I32))))))),
        );
      }) ∷ [];
  strays = [];
  funcs =
      definition int_type (place 5 5 99) 6 [] (place 5 16 110) (place 11 1 225)
      ((Declare ((record {
        place = (place 6 12 123);
        name = 7;
        named = true;
        ctype = (Struct 0);
        init = Some (
          (place 6 14 125),
          Many (place 6 16 127) (Listed (One (Node (place 6 17 128) int_type (Number (pos 7) (Some I32))))
              (Listed (One (Node (place 6 20 131) (Int I8) (Cast (Int I8) (Node (place 6 20 131) int_type (Letter (pos 113)))))) NoInitialiser)),
        );
      }) ∷ [])) ∷
      (Run (Eval (place 7 3 139) (Node (place 7 10 146) int_type (Call (record {
        name =
            8;
        decl = 4294967295;
      }) (Following (Node (place 7 12 148) int_type (Cast int_type
      (Node (place 7 12 148) (Int I8) (Index (Node (place 7 11 147) (Ptr (Int I8)) (Cast (Ptr (Int I8)) (Node (place 7 11 147) (Array (Int I8) (Count 4)) (Variable (record { name = 4; decl = 63 })))))
      (Node (place 7 13 149) int_type (Number (pos 1) (Some I32))))))) NoExpression))))) ∷
      (Run (Eval (place 8 3 156) (Node (place 8 10 163) int_type (Call (record {
        name =
            8;
        decl = 4294967295;
      }) (Following (Node (place 8 12 165) int_type (Cast int_type (Node (place 8 12 165) (Int I8) (Dot (Node (place 8 11 164) (Struct 0) (Variable (record { name = 7; decl = 123 }))) 2)))) NoExpression))))) ∷
      (Run (Eval (place 9 3 172) (Node (place 9 10 179) int_type (Call (record {
        name =
            8;
        decl = 4294967295;
      }) (Following (Node (place 9 16 185) int_type (Binary Add
      (Node (place 9 12 181) int_type (Cast int_type (Node (place 9 12 181) (Int I8)
      (Index (Node (place 9 11 180) (Ptr (Int I8)) (Cast (Ptr (Int I8)) (Node (place 9 11 180) (Array (Int I8) (Count 4)) (Variable (record { name = 4; decl = 63 }))))) (Node (place 9 13 182) int_type (Number (pos 3) (Some I32)))))))
      (Node (place 9 18 187) int_type (Number (pos 65) (Some I32))))) NoExpression))))) ∷
      (Run (Return (place 10 3 194) (Some (Node (place 10 23 214) int_type (Binary Add
      (Node (place 10 18 209) int_type (Binary Add (Node (place 10 14 205) int_type
      (Index (Node (place 10 11 202) (Ptr int_type) (Cast (Ptr int_type) (Node (place 10 11 202) (Array int_type (Count 2))
      (Index (Node (place 10 10 201) (Ptr (Array int_type (Count 2))) (Cast (Ptr (Array int_type (Count 2))) (Node (place 10 10 201) (Array (Array int_type (Count 2)) (Count 2)) (Variable (record { name = 3; decl = 33 })))))
      (Node (place 10 12 203) int_type (Number (pos 0) (Some I32))))))) (Node (place 10 15 206) int_type (Number (pos 1) (Some I32)))))
      (Node (place 10 20 211) int_type (Unary unary.Deref (Node (place 10 21 212) (Ptr int_type) (Variable (record { name = 5; decl = 81 })))))))
      (Node (place 10 29 220) int_type (Index (Node (place 10 26 217) (Ptr int_type)
      (Cast (Ptr int_type) (Node (place 10 26 217) (Array int_type (Count 2)) (Index
      (Node (place 10 25 216) (Ptr (Array int_type (Count 2))) (Cast (Ptr (Array int_type (Count 2))) (Node (place 10 25 216) (Array (Array int_type (Count 2)) (Count 2)) (Variable (record { name = 3; decl = 33 })))))
      (Node (place 10 27 218) int_type (Number (pos 1) (Some I32))))))) (Node (place 10 30 221) int_type (Number (pos 1) (Some I32)))))))))) ∷
      []) ∷ [];
}

pub initialises-runs : run initialises no_input 10 ≡ record { final = Exits (pos 5); output = codes "bqA"; left = 10 }
initialises-runs = refl

--     int main(void) { int t[2][3]; int *p = t[2]; p = &t[1][3]; p = &t[0][3]; *p = 5; return t[1][0]; }
abbrev pub goes_on_in_the_next_row : TranslationUnit
goes_on_in_the_next_row = record {
  names = (codes "main" ∷ codes "t" ∷ codes "p" ∷ []);
  texts = [];
  structs = [];
  enums = [];
  typedefs = [];
  globals = [];
  strays = [];
  funcs = definition int_type (place 1 5 4) 0 [] (place 1 16 15) (place 1 98 97) ((Declare ((record { place = (place 1 22 21); name = 1; named = true; ctype = (Array (Array int_type (Count 3)) (Count 2)); init = None }) ∷ [])) ∷
      (Declare ((record {
        place =
            (place 1 36 35);
        name = 2;
        named = true;
        ctype = (Ptr int_type);
        init = Some (
          (place 1 38 37),
          One (Node (place 1 41 40) (Ptr int_type) (Cast (Ptr int_type)
              (Node (place 1 41 40) (Array int_type (Count 3)) (Index (Node (place 1 40 39) (Ptr (Array int_type (Count 3)))
              (Cast (Ptr (Array int_type (Count 3))) (Node (place 1 40 39) (Array (Array int_type (Count 3)) (Count 2)) (Variable (record { name = 1; decl = 21 }))))) (Node (place 1 42 41) int_type (Number (pos 2) (Some I32))))))),
        );
      }) ∷ [])) ∷
      (Run (Eval (place 1 46 45) (Node (place 1 48 47) (Ptr int_type) (Assign None (Node (place 1 46 45) (Ptr int_type) (Variable (record {
        name =
            2;
        decl = 35;
      }))) (Node (place 1 50 49) (Ptr int_type) (Unary unary.Address
      (Node (place 1 55 54) int_type (Index (Node (place 1 52 51) (Ptr int_type)
      (Cast (Ptr int_type) (Node (place 1 52 51) (Array int_type (Count 3))
      (Index (Node (place 1 51 50) (Ptr (Array int_type (Count 3))) (Cast (Ptr (Array int_type (Count 3))) (Node (place 1 51 50) (Array (Array int_type (Count 3)) (Count 2)) (Variable (record { name = 1; decl = 21 })))))
      (Node (place 1 53 52) int_type (Number (pos 1) (Some I32))))))) (Node (place 1 56 55) int_type (Number (pos 3) (Some I32))))))))))) ∷
      (Run (Eval (place 1 60 59) (Node (place 1 62 61) (Ptr int_type) (Assign None (Node (place 1 60 59) (Ptr int_type) (Variable (record {
        name =
            2;
        decl = 35;
      }))) (Node (place 1 64 63) (Ptr int_type) (Unary unary.Address
      (Node (place 1 69 68) int_type (Index (Node (place 1 66 65) (Ptr int_type)
      (Cast (Ptr int_type) (Node (place 1 66 65) (Array int_type (Count 3))
      (Index (Node (place 1 65 64) (Ptr (Array int_type (Count 3))) (Cast (Ptr (Array int_type (Count 3))) (Node (place 1 65 64) (Array (Array int_type (Count 3)) (Count 2)) (Variable (record { name = 1; decl = 21 })))))
      (Node (place 1 67 66) int_type (Number (pos 0) (Some I32))))))) (Node (place 1 70 69) int_type (Number (pos 3) (Some I32))))))))))) ∷
      (Run (Eval (place 1 74 73) (Node (place 1 77 76) int_type (Assign None (Node (place 1 74 73) int_type (Unary unary.Deref (Node (place 1 75 74) (Ptr int_type) (Variable (record {
        name =
            2;
        decl = 35;
      }))))) (Node (place 1 79 78) int_type (Number (pos 5) (Some I32))))))) ∷
      (Run (Return (place 1 82 81) (Some (Node (place 1 93 92) int_type (Index
      (Node (place 1 90 89) (Ptr int_type) (Cast (Ptr int_type) (Node (place 1 90 89) (Array int_type (Count 3))
      (Index (Node (place 1 89 88) (Ptr (Array int_type (Count 3))) (Cast (Ptr (Array int_type (Count 3))) (Node (place 1 89 88) (Array (Array int_type (Count 3)) (Count 2)) (Variable (record { name = 1; decl = 21 })))))
      (Node (place 1 91 90) int_type (Number (pos 1) (Some I32))))))) (Node (place 1 94 93) int_type (Number (pos 0) (Some I32)))))))) ∷
      []) ∷ [];
}

pub goes_on_in_the_next_row-runs : run goes_on_in_the_next_row no_input 10 ≡ record { final = Exits (pos 5); output = []; left = 10 }
goes_on_in_the_next_row-runs = refl

--     struct c { char b[8]; }; int main(void) { int x; int *q = &x; int *r; *(struct c *)&r = *(struct c *)&q; return r == q; }
abbrev pub loosens_pieces : TranslationUnit
loosens_pieces = record {
  names = (codes "c" ∷ codes "b" ∷ codes "main" ∷ codes "x" ∷ codes "q" ∷ codes "r" ∷ []);
  texts = [];
  structs = record { place = (place 1 8 7); tag = Some 0; members = (record { place = (place 1 17 16); name = 1; ctype = (Array (Int I8) (Count 8)); offset = 0 }) ∷ []; size = 8; align = 1 } ∷ [];
  enums = [];
  typedefs = [];
  globals = [];
  strays = [];
  funcs = definition int_type (place 1 30 29) 2 [] (place 1 41 40) (place 1 121 120) ((Declare ((record { place = (place 1 47 46); name = 3; named = true; ctype = int_type; init = None }) ∷ [])) ∷
      (Declare ((record {
        place =
            (place 1 55 54);
        name = 4;
        named = true;
        ctype = (Ptr int_type);
        init = Some
            ((place 1 57 56), One (Node (place 1 59 58) (Ptr int_type) (Unary unary.Address (Node (place 1 60 59) int_type (Variable (record { name = 3; decl = 46 }))))));
      }) ∷ [])) ∷
      (Declare ((record { place = (place 1 68 67); name = 5; named = true; ctype = (Ptr int_type); init = None }) ∷ [])) ∷
      (Run (Eval (place 1 71 70) (Node (place 1 87 86) (Struct 0) (Assign None
      (Node (place 1 71 70) (Struct 0) (Unary unary.Deref (Node (place 1 72 71) (Ptr (Struct 0))
      (Cast (Ptr (Struct 0)) (Node (place 1 84 83) (Ptr (Ptr int_type)) (Unary unary.Address (Node (place 1 85 84) (Ptr int_type) (Variable (record { name = 5; decl = 67 })))))))))
      (Node (place 1 89 88) (Struct 0) (Unary unary.Deref (Node (place 1 90 89) (Ptr (Struct 0))
      (Cast (Ptr (Struct 0)) (Node (place 1 102 101) (Ptr (Ptr int_type)) (Unary unary.Address (Node (place 1 103 102) (Ptr int_type) (Variable (record { name = 4; decl = 54 }))))))))))))) ∷
      (Run (Return (place 1 106 105) (Some (Node (place 1 115 114) int_type (Binary Eq (Node (place 1 113 112) (Ptr int_type) (Variable (record {
        name =
            5;
        decl = 67;
      }))) (Node (place 1 118 117) (Ptr int_type) (Variable (record { name = 4; decl = 54 })))))))) ∷
      []) ∷ [];
}

pub loosens_pieces-runs : run loosens_pieces no_input 10 ≡ record { final = Undefined (place 1 113 112); output = []; left = 10 }
loosens_pieces-runs = refl

--     int main(void) { int a[4] = {1, 2, 3, 4}; int *p = a; p++; p += 2; --p; return *p * 10 + (p - a) + (p > a); }
abbrev pub steps_pointers : TranslationUnit
steps_pointers = record {
  names = (codes "main" ∷ codes "a" ∷ codes "p" ∷ []);
  texts = [];
  structs = [];
  enums = [];
  typedefs = [];
  globals = [];
  strays = [];
  funcs =
      definition int_type (place 1 5 4) 0 [] (place 1 16 15) (place 1 109 108)
      ((Declare ((record {
        place = (place 1 22 21);
        name = 1;
        named = true;
        ctype = (Array int_type (Count 4));
        init = Some (
          (place 1 27 26),
          Many (place 1 29 28) (Listed (One (Node (place 1 30 29) int_type (Number (pos 1) (Some I32))))
              (Listed (One (Node (place 1 33 32) int_type (Number (pos 2) (Some I32))))
              (Listed (One (Node (place 1 36 35) int_type (Number (pos 3) (Some I32)))) (Listed (One (Node (place 1 39 38) int_type (Number (pos 4) (Some I32)))) NoInitialiser)))),
        );
      }) ∷ [])) ∷
      (Declare ((record {
        place =
            (place 1 48 47);
        name = 2;
        named = true;
        ctype = (Ptr int_type);
        init = Some
            ((place 1 50 49), One (Node (place 1 52 51) (Ptr int_type) (Cast (Ptr int_type) (Node (place 1 52 51) (Array int_type (Count 4)) (Variable (record { name = 1; decl = 21 }))))));
      }) ∷ [])) ∷
      (Run (Eval (place 1 55 54) (Node (place 1 56 55) (Ptr int_type) (Bump PostUp (Node (place 1 55 54) (Ptr int_type) (Variable (record { name = 2; decl = 47 }))))))) ∷
      (Run (Eval (place 1 60 59) (Node (place 1 62 61) (Ptr int_type) (Assign (Some Add) (Node (place 1 60 59) (Ptr int_type) (Variable (record { name = 2; decl = 47 }))) (Node (place 1 65 64) int_type (Number (pos 2) (Some I32))))))) ∷
      (Run (Eval (place 1 68 67) (Node (place 1 68 67) (Ptr int_type) (Bump PreDown (Node (place 1 70 69) (Ptr int_type) (Variable (record { name = 2; decl = 47 }))))))) ∷
      (Run (Return (place 1 73 72) (Some (Node (place 1 98 97) int_type (Cast int_type
      (Node (place 1 98 97) (Int I64) (Binary Add (Node (place 1 88 87) (Int I64)
      (Binary Add (Node (place 1 83 82) (Int I64) (Cast (Int I64) (Node (place 1 83 82) int_type
      (Binary Mul (Node (place 1 80 79) int_type (Unary unary.Deref (Node (place 1 81 80) (Ptr int_type) (Variable (record { name = 2; decl = 47 }))))) (Node (place 1 85 84) int_type (Number (pos 10) (Some I32)))))))
      (Node (place 1 93 92) (Int I64) (Binary Sub (Node (place 1 91 90) (Ptr int_type) (Variable (record { name = 2; decl = 47 })))
      (Node (place 1 95 94) (Ptr int_type) (Cast (Ptr int_type) (Node (place 1 95 94) (Array int_type (Count 4)) (Variable (record { name = 1; decl = 21 })))))))))
      (Node (place 1 103 102) (Int I64) (Cast (Int I64) (Node (place 1 103 102) int_type
      (Binary Gt (Node (place 1 101 100) (Ptr int_type) (Variable (record { name = 2; decl = 47 })))
      (Node (place 1 105 104) (Ptr int_type) (Cast (Ptr int_type) (Node (place 1 105 104) (Array int_type (Count 4)) (Variable (record { name = 1; decl = 21 })))))))))))))))) ∷
      []) ∷ [];
}

pub steps_pointers-runs : run steps_pointers no_input 10 ≡ record { final = Exits (pos 33); output = []; left = 10 }
steps_pointers-runs = refl

--     struct s { char c; int n; }; int main(void) { struct s *p = NULL; int *q = &p->n; return 0; }
abbrev pub takes_a_member_of_null : TranslationUnit
takes_a_member_of_null = record {
  names = (codes "s" ∷ codes "c" ∷ codes "n" ∷ codes "main" ∷ codes "p" ∷ codes "NULL" ∷ codes "q" ∷ []);
  texts = [];
  structs =
      record {
        place = (place 1 8 7);
        tag = Some 0;
        members = (record { place = (place 1 17 16); name = 1; ctype = (Int I8); offset = 0 }) ∷
            (record { place = (place 1 24 23); name = 2; ctype = int_type; offset = 4 }) ∷ [];
        size = 8;
        align = 4;
      } ∷ [];
  enums = [];
  typedefs = [];
  globals = [];
  strays = [];
  funcs =
      definition int_type (place 1 34 33) 3 [] (place 1 45 44) (place 1 93 92)
      ((Declare ((record {
        place = (place 1 57 56);
        name = 4;
        named = true;
        ctype = (Ptr (Struct 0));
        init = Some
            ((place 1 59 58), One (Node (place 1 61 60) (Ptr (Struct 0)) (Cast (Ptr (Struct 0)) (Node (place 1 61 60) (Ptr Void) (Variable (record { name = 5; decl = 4294967295 }))))));
      }) ∷ [])) ∷
      (Declare ((record {
        place =
            (place 1 72 71);
        name = 6;
        named = true;
        ctype = (Ptr int_type);
        init = Some
            ((place 1 74 73), One (Node (place 1 76 75) (Ptr int_type) (Unary unary.Address (Node (place 1 78 77) int_type (Arrow (Node (place 1 77 76) (Ptr (Struct 0)) (Variable (record { name = 4; decl = 56 }))) 2)))));
      }) ∷ [])) ∷
      (Run (Return (place 1 83 82) (Some (Node (place 1 90 89) int_type (Number (pos 0) (Some I32)))))) ∷
      []) ∷ [];
}

pub takes_a_member_of_null-runs : run takes_a_member_of_null no_input 10 ≡ record { final = Undefined (place 1 78 77); output = []; left = 10 }
takes_a_member_of_null-runs = refl

--     int main(void) { int *p; { int x; p = &x; } if (p) return 1; return 0; }
abbrev pub tests_a_dead_pointer : TranslationUnit
tests_a_dead_pointer = record {
  names = (codes "main" ∷ codes "p" ∷ codes "x" ∷ []);
  texts = [];
  structs = [];
  enums = [];
  typedefs = [];
  globals = [];
  strays = [];
  funcs = definition int_type (place 1 5 4) 0 [] (place 1 16 15) (place 1 72 71) ((Declare ((record { place = (place 1 23 22); name = 1; named = true; ctype = (Ptr int_type); init = None }) ∷ [])) ∷
      (Run (Block (place 1 26 25) (items_of ((Declare ((record { place = (place 1 32 31); name = 2; named = true; ctype = int_type; init = None }) ∷ [])) ∷
      (Run (Eval (place 1 35 34) (Node (place 1 37 36) (Ptr int_type) (Assign None (Node (place 1 35 34) (Ptr int_type) (Variable (record {
        name =
            1;
        decl = 22;
      }))) (Node (place 1 39 38) (Ptr int_type) (Unary unary.Address (Node (place 1 40 39) int_type (Variable (record { name = 2; decl = 31 }))))))))) ∷
      [])))) ∷
      (Run (If (place 1 45 44) (Node (place 1 49 48) (Ptr int_type) (Variable (record { name = 1; decl = 22 }))) (Return (place 1 52 51) (Some (Node (place 1 59 58) int_type (Number (pos 1) (Some I32))))) NoElse)) ∷
      (Run (Return (place 1 62 61) (Some (Node (place 1 69 68) int_type (Number (pos 0) (Some I32)))))) ∷
      []) ∷ [];
}

pub tests_a_dead_pointer-runs : run tests_a_dead_pointer no_input 10 ≡ record { final = Undefined (place 1 49 48); output = []; left = 10 }
tests_a_dead_pointer-runs = refl

--     int main(void) { char b[8]; int *p = (int *)(b + 1); *p = 1; return 0; }
abbrev pub stores_beside_the_alignment : TranslationUnit
stores_beside_the_alignment = record {
  names = (codes "main" ∷ codes "b" ∷ codes "p" ∷ []);
  texts = [];
  structs = [];
  enums = [];
  typedefs = [];
  globals = [];
  strays = [];
  funcs = definition int_type (place 1 5 4) 0 [] (place 1 16 15) (place 1 72 71) ((Declare ((record { place = (place 1 23 22); name = 1; named = true; ctype = (Array (Int I8) (Count 8)); init = None }) ∷ [])) ∷
      (Declare ((record {
        place =
            (place 1 34 33);
        name = 2;
        named = true;
        ctype = (Ptr int_type);
        init = Some (
          (place 1 36 35),
          One (Node (place 1 38 37) (Ptr int_type) (Cast (Ptr int_type)
              (Node (place 1 48 47) (Ptr (Int I8)) (Binary Add (Node (place 1 46 45) (Ptr (Int I8)) (Cast (Ptr (Int I8)) (Node (place 1 46 45) (Array (Int I8) (Count 8)) (Variable (record { name = 1; decl = 22 })))))
              (Node (place 1 50 49) int_type (Number (pos 1) (Some I32))))))),
        );
      }) ∷ [])) ∷
      (Run (Eval (place 1 54 53) (Node (place 1 57 56) int_type (Assign None (Node (place 1 54 53) int_type (Unary unary.Deref (Node (place 1 55 54) (Ptr int_type) (Variable (record {
        name =
            2;
        decl = 33;
      }))))) (Node (place 1 59 58) int_type (Number (pos 1) (Some I32))))))) ∷
      (Run (Return (place 1 62 61) (Some (Node (place 1 69 68) int_type (Number (pos 0) (Some I32)))))) ∷
      []) ∷ [];
}

pub stores_beside_the_alignment-runs : run stores_beside_the_alignment no_input 10 ≡ record { final = Undefined (place 1 57 56); output = []; left = 10 }
stores_beside_the_alignment-runs = refl
