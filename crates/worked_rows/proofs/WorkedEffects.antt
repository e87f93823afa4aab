-- Effects inside expressions and `switch`, by computation: their order, what they give, fallthrough, a default in the middle, jumps.
use Rattle.std.proofs.Common.{◌≡◌, ℕ, pos, [], ◌∷◌, List, Some, None, codes, refl}
use Rattle.c_syntax.specs.declared.expression.BinOp.TheVariants.{Add, Lt}
use Rattle.c_syntax.specs.declared.expression.BumpOp.TheVariants.{PreUp, PostUp}
use Rattle.c_syntax.specs.Ctypes.{int_type}
use Rattle.c_syntax.specs.Expressions.{Expression, Node, Comma}
use Rattle.c_syntax.specs.Statements.{Cases, NoCase, AnotherCase, Switch, BlockItem, Eval, Block, While, Break, Continue, Declare, Run}
use Rattle.c_syntax.specs.Programs.{TranslationUnit}
use Rattle.c_model.specs.State.{Exits}
use Rattle.c_model.specs.Meaning.{run}
use Rattle.worked_rows.proofs.WorkedTrees.{place, literal, letter, variable, binary, assignment, compound_assignment, bump, putchar_call, int_variable, items_of, main_alone, no_input}

-- a program of one variable x, which begins with 0
abbrev with_x : List BlockItem → TranslationUnit
with_x items = main_alone (codes "main" ∷ codes "x" ∷ codes "putchar" ∷ []) (place 1 5 4) (place 1 16 15) (place 9 1 900) (Declare (int_variable (place 2 7 23) 1 (place 2 9 25) (literal (place 2 11 27) 0) ∷ []) ∷ items)

abbrev x : Expression
x = variable (place 3 3 30) 1 23

abbrev puts : Expression → BlockItem
puts e = Run (Eval (place 4 3 40) (putchar_call (place 4 10 47) 2 e))

abbrev comma : Expression → Expression → Expression
comma a b = Node (place 4 20 60) int_type (Comma a b)

abbrev is_set : ℕ → Expression
is_set n = assignment (place 4 12 50) x (literal (place 4 14 52) n)

-- x = 65; x = x++; putchar(x);
keeps_the_old : run (with_x (Run (Eval (place 3 1 30) (is_set 65)) ∷ Run (Eval (place 3 1 30) (assignment (place 3 1 31) x (bump (place 3 1 32) PostUp x))) ∷ puts x ∷ [])) no_input 9 ≡ record { final = Exits (pos 0); output = codes "A"; left = 9 }
keeps_the_old = refl

-- putchar((x = 65, x + 1));
commas_go_on : run (with_x (puts (comma (is_set 65) (binary (place 4 1 1) Add x (literal (place 4 1 2) 1))) ∷ [])) no_input 9 ≡ record { final = Exits (pos 0); output = codes "B"; left = 9 }
commas_go_on = refl

-- putchar(x++ + ++x + (x = 65));
left_to_right : run (with_x (puts (binary (place 4 1 1) Add (binary (place 4 1 2) Add (bump (place 4 1 3) PostUp x) (bump (place 4 1 4) PreUp x)) (is_set 65)) ∷ [])) no_input 9 ≡ record { final = Exits (pos 0); output = codes "C"; left = 9 }
left_to_right = refl

-- x = 1; x += (x = 10) + x; putchar(x + 44): the current value is that before the right side
takes_the_current : run (with_x (Run (Eval (place 3 1 30) (is_set 1)) ∷ Run (Eval (place 3 1 30) (compound_assignment (place 3 1 31) Add x (binary (place 3 1 32) Add (is_set 10) x)))
    ∷ puts (binary (place 4 1 1) Add x (literal (place 4 1 2) 44)) ∷ [])) no_input 9
    ≡ record { final = Exits (pos 0); output = codes "A"; left = 9 }
takes_the_current = refl

-- ---- `switch (x) { case 1: putchar('a'); default: putchar('d'); case 3: putchar('c'); break; case 4: putchar('e'); }`, where x is n
abbrev case_at : ℕ → List BlockItem → Cases → Cases
case_at n items rest = AnotherCase (place 5 1 70) (Some (literal (place 5 6 75) n)) (items_of items) rest

abbrev default_at : List BlockItem → Cases → Cases
default_at items rest = AnotherCase (place 5 1 80) None (items_of items) rest

abbrev put : ℕ → BlockItem
put c = puts (letter (place 5 9 90) c)

abbrev four_cases : Cases
four_cases = case_at 1 (put 97 ∷ []) (default_at (put 100 ∷ []) (case_at 3 (put 99 ∷ Run (Break (place 5 9 99)) ∷ []) (case_at 4 (put 101 ∷ []) NoCase)))

abbrev switches : ℕ → TranslationUnit
switches n = with_x (Run (Switch (place 5 1 60) (is_set n) four_cases) ∷ put 46 ∷ [])

falls_through : run (switches 1) no_input 9 ≡ record { final = Exits (pos 0); output = codes "adc."; left = 9 }
falls_through = refl

takes_the_default : run (switches 7) no_input 9 ≡ record { final = Exits (pos 0); output = codes "dc."; left = 9 }
takes_the_default = refl

breaks : run (switches 3) no_input 9 ≡ record { final = Exits (pos 0); output = codes "c."; left = 9 }
breaks = refl

takes_the_last : run (switches 4) no_input 9 ≡ record { final = Exits (pos 0); output = codes "e."; left = 9 }
takes_the_last = refl

-- while (x++ < 3) { switch (x) { case 2: continue; case 3: break; } putchar('.'); } takes three steps
continues : run (with_x (Run (While (place 6 1 100) [] (binary (place 6 2 101) Lt (bump (place 6 2 102) PostUp x) (literal (place 6 2 103) 3))
    (Block (place 6 3 104) (items_of (Run (Switch (place 6 3 105) x (case_at 2 (Run (Continue (place 6 3 106)) ∷ [])
    (case_at 3 (Run (Break (place 6 3 107)) ∷ []) NoCase))) ∷ put 46 ∷ [])))) ∷ [])) no_input 9 ≡ record { final = Exits (pos 0); output = codes ".."; left = 6 }
continues = refl
