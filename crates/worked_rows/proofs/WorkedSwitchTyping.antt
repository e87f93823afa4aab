-- The typing of `switch` (C99 6.8.4.2), by computation: its promoted type, its constants, its one default, and the jumps inside.
use Rattle.std.proofs.Common.{◌≡◌, ℕ, pos, false, List, [], ◌∷◌, Option, None, Some, codes, refl}
use Rattle.c_syntax.specs.declared.place.Place.{Place}
use Rattle.c_syntax.specs.declared.expression.BinOp.TheVariants.{Div}
use Rattle.c_syntax.specs.declared.expression.UnOp.TheVariants as unary
use Rattle.c_syntax.specs.declared.types.CInt.{CInt}
use Rattle.c_syntax.specs.declared.types.CInt.TheVariants.{I8, I32, U32, I64}
use Rattle.c_syntax.specs.Ctypes.{Void, Int, Ptr, int_type}
use Rattle.c_syntax.specs.Expressions.{Expression, Node, Number, Variable, Unary, Binary, Cast}
use Rattle.c_syntax.specs.Statements.{Statement, Cases, NoCase, AnotherCase, Switch, While, Break, Continue, BlockItem, Run, NoItem}
use Rattle.c_model.specs.Library.{library_constant}
use Rattle.c_model.specs.Checked.{Fault, Checked, Good, refusing}
use Rattle.c_model.specs.ExpressionTyping.{Sight, AnObject, AnEnumerator}
use Rattle.c_model.specs.StatementTyping.{Around, typed_statement}
use Rattle.worked_rows.proofs.WorkedTrees.{items_of}

-- a place by its offset
abbrev at : ℕ → Place
at n = record { line = 1; column = n; offset = n }

-- char c; unsigned u; long n; int *p; enum { N = 3 };  in a function that gives an int
abbrev sight : Sight
sight = record {
  names = codes "main" ∷ codes "c" ∷ codes "u" ∷ codes "n" ∷ codes "p" ∷ codes "N" ∷ [];
  texts = [];
  functions = [];
  entities = AnObject (record { name = 1; decl = 10; ctype = Int I8 }) ∷ AnObject (record { name = 2; decl = 20; ctype = Int U32 }) ∷ AnObject (record { name = 3; decl = 30; ctype = Int I64 })
      ∷ AnObject (record { name = 4; decl = 40; ctype = Ptr int_type }) ∷ AnEnumerator (record { name = 5; value = pos 3 }) ∷ [];
  innermost = 0;
  types = [];
  structs = [];
  levels = [];
  enum_tags = [];
  enums = [];
}

abbrev around : Around
around = record { result = int_type; breaks = false; loops = false }

-- as the parser leaves them: no types and no declarations
abbrev name : ℕ → ℕ → Expression
name o x = Node (at o) Void (Variable (record { name = x; decl = 0 }))

abbrev number_of : CInt → ℕ → ℕ → Expression
number_of k o n = Node (at o) Void (Number (pos n) (Some k))

abbrev number : ℕ → ℕ → Expression
number = number_of I32

abbrev minus : Expression → Expression
minus e = Node (at 4) Void (Unary unary.Minus e)

-- typed
abbrev variable : CInt → ℕ → ℕ → ℕ → Expression
variable k o x decl = Node (at o) (Int k) (Variable (record { name = x; decl = decl }))

abbrev switch : Expression → Cases → Statement
switch e cases = Switch (at 1) e cases

abbrev case : Expression → List BlockItem → Cases → Cases
case e items rest = AnotherCase (at 3) (Some e) (items_of items) rest

abbrev default_at : ℕ → Cases → Cases
default_at o rest = AnotherCase (at o) None NoItem rest

abbrev typed : Statement → Checked Statement
typed a = typed_statement sight around a

abbrev refused : Statement → Option Fault
refused a = refusing (typed a)

abbrev type_at : ℕ → Option Fault
type_at o = Some (record { code = 6; place = at o })

-- ---- types and constants

a_char_is_promoted : typed (switch (name 2 1) (case (number 5 65) [] NoCase))
    ≡ Good (switch (Node (at 2) int_type (Cast int_type (variable I8 2 1 10))) (case (Node (at 5) int_type (Number (pos 65) (Some I32))) [] NoCase))
unfolding library_constant
a_char_is_promoted = refl

a_case_is_converted : typed (switch (name 2 2) (case (minus (number 5 1)) [] NoCase))
    ≡ Good (switch (variable U32 2 2 20) (case (Node (at 4) (Int U32) (Number (pos 4294967295) (Some U32))) [] NoCase))
unfolding library_constant
a_case_is_converted = refl

an_enumerator_is_a_constant : typed (switch (name 2 3) (case (name 5 5) [] NoCase))
    ≡ Good (switch (variable I64 2 3 30) (case (Node (at 5) (Int I64) (Number (pos 3) (Some I64))) [] NoCase))
unfolding library_constant
an_enumerator_is_a_constant = refl

no_case_is_wanted : typed (switch (number 2 1) NoCase) ≡ Good (switch (Node (at 2) int_type (Number (pos 1) (Some I32))) NoCase)
no_case_is_wanted = refl

a_pointer_is_no_value : refused (switch (name 2 4) NoCase) ≡ type_at 2
unfolding library_constant
a_pointer_is_no_value = refl

a_variable_is_no_constant : refused (switch (name 2 1) (case (name 5 1) [] NoCase)) ≡ type_at 5
unfolding library_constant
a_variable_is_no_constant = refl

a_quotient_by_zero_is_no_constant : refused (switch (name 2 1) (case (Node (at 6) Void (Binary Div (number 5 1) (number 7 0))) [] NoCase)) ≡ type_at 6
unfolding library_constant
a_quotient_by_zero_is_no_constant = refl

two_cases_of_one_value : refused (switch (name 2 1) (case (number 5 1) [] (case (number 7 2) [] (case (number 9 1) [] NoCase)))) ≡ type_at 9
unfolding library_constant
two_cases_of_one_value = refl

two_cases_of_one_value_when_converted : refused (switch (name 2 2) (case (number_of I64 5 4294967295) [] (case (minus (number 7 1)) [] NoCase))) ≡ type_at 4
unfolding library_constant
two_cases_of_one_value_when_converted = refl

the_promoted_type_tells_them_apart : refused (switch (name 2 1) (case (number 5 65) [] (case (number 7 321) [] NoCase))) ≡ None
unfolding library_constant
the_promoted_type_tells_them_apart = refl

a_switch_inside_has_cases_of_its_own : refused (switch (name 2 1) (case (number 5 1) (Run (switch (number 6 2) (case (number 7 1) [] NoCase)) ∷ []) NoCase)) ≡ None
unfolding library_constant
a_switch_inside_has_cases_of_its_own = refl

-- ---- defaults and jumps

one_default : refused (switch (number 2 1) (default_at 5 (case (number 7 1) [] NoCase))) ≡ None
one_default = refl

a_second_default : refused (switch (number 2 1) (default_at 5 (case (number 7 1) [] (default_at 8 NoCase)))) ≡ type_at 8
a_second_default = refl

a_break_inside : refused (switch (number 2 1) (case (number 5 1) (Run (Break (at 6)) ∷ []) NoCase)) ≡ None
a_break_inside = refl

a_break_outside : refused (Break (at 6)) ≡ type_at 6
a_break_outside = refl

a_continue_without_a_loop : refused (switch (number 2 1) (case (number 5 1) (Run (Continue (at 6)) ∷ []) NoCase)) ≡ type_at 6
a_continue_without_a_loop = refl

a_continue_of_the_loop_around : refused (While (at 1) [] (number 2 1) (switch (number 3 1) (case (number 5 1) (Run (Continue (at 6)) ∷ []) NoCase))) ≡ None
a_continue_of_the_loop_around = refl

no_loop_around_is_left_behind : refused (switch (number 2 1) (case (number 5 1) (Run (While (at 6) [] (number 7 1) (Break (at 8))) ∷ Run (Continue (at 9)) ∷ []) NoCase)) ≡ type_at 9
no_loop_around_is_left_behind = refl
