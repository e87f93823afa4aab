-- The text of a valid program with globals, loads, stores and their marks, by computation.
use Rattle.std.proofs.Common.{◌≡◌, ℕ, pos, List, [], ◌∷◌, ◌++◌, Some, None, codes, refl, arith}
use Rattle.std.specs.Fmt.{digits}
use Rattle.mon_syntax.specs.declared.tree.MonType.TheVariants.{I8, I32, I64, U64, I128, Ptr}
use Rattle.mon_syntax.specs.declared.tree.MonOp.TheVariants.{Add, Eq}
use Rattle.mon_syntax.specs.declared.tree.MemoryCall.TheVariants.{StoreBlock, DeleteBlock, Number}
use Rattle.mon_syntax.specs.declared.tree.AccessSize.TheVariants.{Four}
use Rattle.mon_syntax.specs.Trees.{Register, Global, Constant, Binary, Cast, Load, MonStatement, Set, Store, Act, If, Return, MonStatements, NoStatement, Then, Zeros, Literal, MonitoredProgram}
use Rattle.mon_syntax.specs.Names.{IsFreeName, reserved_words}
use Rattle.mon_syntax.specs.Text.{text_of}
use Rattle.mon_syntax.specs.Valid.{Signature, IsStatement, IsValid}
use Rattle.mon_syntax.specs.Spelled.{Spells}
use Rattle.mon_syntax.proofs.PrintedTexts.{text_spells}

abbrev line : List ℕ → List ℕ
line bytes = bytes ++ (10 ∷ [])

abbrev statements : List MonStatement → MonStatements
statements [] = NoStatement
statements (a ∷ rest) = Then a (statements rest)

-- the pointer to a global goes through memory, and what is stored there is a number
abbrev stores : MonitoredProgram
stores = record {
  globals = record { name = codes "g"; content = Zeros 4 } ∷ record { name = codes "s"; content = Literal (97 ∷ 10 ∷ []) } ∷ [];
  functions = record {
    result = Some I32;
    name = codes "main";
    parameters = [];
    registers = record { kind = Ptr; name = codes "p" } ∷ record { kind = Ptr; name = codes "q" } ∷ record { kind = I32; name = codes "x" } ∷ [];
    body = statements (
        Act (Some 0) StoreBlock (Constant U64 (pos 8) ∷ []) ∷
        Store 0 Ptr (Global 0) ∷
        Set 1 (Load Ptr (Register 0)) ∷
        Store 1 I32 (Cast I32 (Load I8 (Binary Add Ptr (Global 1) (Constant I64 (pos 1))))) ∷
        Act (Some 2) (Number Four) (Register 1 ∷ Constant I128 (pos 0) ∷ []) ∷
        Act None DeleteBlock (Register 0 ∷ []) ∷
        If (Binary Eq Ptr (Register 1) (Constant Ptr (pos 0))) NoStatement (statements (Return (Some (Register 2)) ∷ [])) ∷
        []);
  } ∷ [];
}

text-stores : text_of stores ≡
    line (codes "#include <e_acsl.h>")
    ++ (line (codes "static char g[4];")
    ++ (line (codes "static const char s[3] = \"a\\012\";")
    ++ (line (codes "i32 main(void) {")
    ++ (line (codes "  ptr p;")
    ++ (line (codes "  ptr q;")
    ++ (line (codes "  i32 x;")
    ++ (line (codes "  p = __e_acsl_store_block(U64(8));")
    ++ (line (codes "  *(ptr *)p = g;")
    ++ (line (codes "  __e_acsl_initialize_ptr(p);")
    ++ (line (codes "  q = (*(ptr *)p);")
    ++ (line (codes "  *(i32 *)q = ((i32)(*(i8 *)(s + I64(1))));")
    ++ (line (codes "  __e_acsl_initialize(q, 4);")
    ++ (line (codes "  x = __e_acsl_number(q, I128(0), 4);")
    ++ (line (codes "  __e_acsl_delete_block(p);")
    ++ (line (codes "  if ((q == PTR(0))) { } else {")
    ++ (line (codes "    return x;")
    ++ (line (codes "  }")
    ++ line (codes "}"))))))))))))))))))
unfolding digits
text-stores = refl

free-g : IsFreeName (codes "g")
unfolding reserved_words
free-g = record { begins = refl; parts = (refl, tt); short = omega arith; free = refl }

free-s : IsFreeName (codes "s")
unfolding reserved_words
free-s = record { begins = refl; parts = (refl, tt); short = omega arith; free = refl }

free-p : IsFreeName (codes "p")
unfolding reserved_words
free-p = record { begins = refl; parts = (refl, tt); short = omega arith; free = refl }

free-q : IsFreeName (codes "q")
unfolding reserved_words
free-q = record { begins = refl; parts = (refl, tt); short = omega arith; free = refl }

free-x : IsFreeName (codes "x")
unfolding reserved_words
free-x = record { begins = refl; parts = (refl, tt); short = omega arith; free = refl }

free-main : IsFreeName (codes "main")
unfolding reserved_words
free-main = record { begins = refl; parts = (refl, (refl, (refl, (refl, tt)))); short = omega arith; free = refl }

abbrev main_only : List Signature
main_only = record { name = codes "main"; parameters = []; result = Some I32 } ∷ []

abbrev Stands : MonStatement → Type 0
Stands a = IsStatement 2 main_only (Ptr ∷ Ptr ∷ I32 ∷ []) (Some I32) [] a

valid-stores : IsValid stores
valid-stores = record {
  globals = (free-g, refl, tt, (free-s, refl, (omega arith, (omega arith, tt)), tt));
  room = omega arith;
  functions = (
    record {
      name = free-main;
      registers = (free-p, refl, (free-q, refl, (free-x, refl, tt)));
      body = (birth, (point, (load, (number, (ask, (death, (leave, tt)))))));
      within = omega arith;
    },
    refl,
    tt,
  );
  number = 0;
  main = _;
  has = refl;
  is_main = record { name = refl; result = refl; no_parameters = refl };
}
  where
    birth : Stands (Act (Some 0) StoreBlock (Constant U64 (pos 8) ∷ []))
    birth = ((record { typed = (refl, refl); within = omega arith }, tt), refl)

    point : Stands (Store 0 Ptr (Global 0))
    point = (refl, record { typed = (refl, omega arith); within = omega arith })

    load : Stands (Set 1 (Load Ptr (Register 0)))
    load = (Ptr, refl, record { typed = (refl, refl); within = omega arith })

    number : Stands (Store 1 I32 (Cast I32 (Load I8 (Binary Add Ptr (Global 1) (Constant I64 (pos 1))))))
    number = (refl, record { typed = (refl, refl, (I8, refl, (refl, (refl, refl, (refl, omega arith), (refl, refl))))); within = omega arith })

    ask : Stands (Act (Some 2) (Number Four) (Register 1 ∷ Constant I128 (pos 0) ∷ []))
    ask = ((record { typed = refl; within = omega arith }, (record { typed = (refl, refl); within = omega arith }, tt)), refl)

    death : Stands (Act None DeleteBlock (Register 0 ∷ []))
    death = ((record { typed = refl; within = omega arith }, tt), tt)

    leave : Stands (If (Binary Eq Ptr (Register 1) (Constant Ptr (pos 0))) NoStatement (statements (Return (Some (Register 2)) ∷ [])))
    leave = (record { typed = (refl, refl, refl, (refl, refl)); within = omega arith }, tt, (record { typed = refl; within = omega arith }, tt))

pub stores-spelled : Spells (text_of stores) stores
stores-spelled = text_spells stores valid-stores
