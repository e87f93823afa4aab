-- Ours: a choice of code; what it has to do is C99 6.8 and 6.9, by the theorem of this crate.
-- The program in monitored C that an annotated program becomes. A variable's value stands in its block of memory, which is born and dies where
-- the variable does, and a register points to the block.
use Rattle.std.specs.Prelude.{ℕ, zero, suc, ◌+◌, pos, Bool, List, [], ◌∷◌, ◌++◌, length, take, drop, map, Option, Some, None, if◌then◌else◌, nat_eq}
use Rattle.std.specs.Prelude.{codes, bytes_eq}
use Rattle.std.specs.Fmt.{decimal}
use Rattle.c_syntax.specs.declared.place.Place.{Place}
use Rattle.c_syntax.specs.Ctypes as source_type
use Rattle.c_syntax.specs.Ctypes.{PlainType, Int}
use Rattle.c_syntax.specs.Expressions.{Expression, Node, Number, type_of}
use Rattle.c_syntax.specs.Statements as source_statement
use Rattle.c_syntax.specs.Statements.{Declaration, Statement, ElsePart, NoElse, Else, ForFirst, NoFirst, First, BlockItem, Declare, Specify, Run, Asserts}
use Rattle.c_syntax.specs.Statements.{BlockItems}
use Rattle.c_syntax.specs.Statements.{NoItem, Initialiser, Cases, NoCase, AnotherCase}
use Rattle.c_syntax.specs.Programs.{NamedBehavior, FunctionContract, Function, TranslationUnit}
use Rattle.c_syntax.specs.Layouts.{size_of}
use Rattle.c_syntax.specs.Logic.{Annotation}
use Rattle.c_model.specs.Meaning.{declared_in, declared_first, default_of, is_definition}
use Rattle.c_model.specs.ContractChecks.{result_number}
use Rattle.c_model.specs.ExpressionTyping.{name_at}
use Rattle.c_model.specs.Formed.{number_of}
use Rattle.c_model.specs.Predicates.{variant}
use Rattle.c_model.specs.StaticObjects.{StaticObject, OfGlobal, OfLiteral, static_objects}
use Rattle.mon_syntax.specs.declared.tree.MonType.{MonType}
use Rattle.mon_syntax.specs.declared.tree.MonOp.TheVariants.{Eq, Le}
use Rattle.mon_syntax.specs.declared.tree.MonType.TheVariants.{I32, U64, Ptr}
use Rattle.mon_syntax.specs.Trees.{MonExpression, MonStatement, Register, Global, Constant, Binary, Store, If, Loop, Labelled, Goto, Return}
use Rattle.mon_syntax.specs.Trees.{MonStatements, NoStatement, Then, MonRegister}
use Rattle.mon_syntax.specs.Trees.{Zeros, Literal, MonitoredGlobal, MonFunction, MonitoredProgram}
use Rattle.mon_syntax.specs.Registers.{Bindings, RegisterTable, no_registers, with_kinds, next_register}
use Rattle.c_initialisers.specs.Translation.{declaration_temporaries, initial_temporaries, initialise, initialise_all}
use Rattle.c_effects.specs.Effects.{any_temporaries}
use Rattle.c_effects.specs.Full.{act, act_takes, condition_result, prepare, result, takes}
use Rattle.c_effects.specs.Expressions.{object_of_global, register_type, value_type, before, one, set}
use Rattle.c_simulation.specs.Keeping.{Kept}
use Rattle.c_simulation.specs.Labels.{end_label, next_label, leave_label}
use Rattle.annot_simulation.specs.Code.{assertions, behind_assertions}
use Rattle.annot_simulation.specs.ContractCode.{entry_code, behind_entry, leave_code, behind_leave}
use Rattle.annot_simulation.specs.Held.{Held}
use Rattle.annot_simulation.specs.Plan.{planned, kept_from, kept_types}
use Rattle.annot_simulation.specs.Snapshots.{snapshot, behind_snapshot}
use Rattle.instrument.specs.LoopClauses.{invariants_code, behind_invariants, variant_kept, behind_variant, variant_compared}
use Rattle.track_scopes.specs.Blocks.{entered, birth, births, deaths, with_born}

-- ---- names

-- `v7_count`, the register of a variable's value: its number first, so that names differ by it, in 255 bytes at most
abbrev pub register_name : ℕ → List ℕ → List ℕ
register_name k name = take 255 (codes "v" ++ (decimal k ++ (codes "_" ++ name)))

-- `p8`, a register that points to a variable's block
abbrev pub pointer_name : ℕ → List ℕ
pointer_name k = codes "p" ++ decimal k

-- `t12`, a temporary register
abbrev pub temporary_name : ℕ → List ℕ
temporary_name k = codes "t" ++ decimal k

-- `f3_sum`, a function, by its index
abbrev pub function_name : ℕ → List ℕ → List ℕ
function_name k name = take 255 (codes "f" ++ (decimal k ++ (codes "_" ++ name)))

-- ---- the functions that become functions, which are the definitions, in order

-- the index of the first definition of `main`
abbrev pub index_of_main : List (List ℕ) → List Function → ℕ
index_of_main names [] = 0
index_of_main names (f ∷ fs) =
    if is_definition f then (if bytes_eq (name_at names f.name) (codes "main") then 0 else suc (index_of_main names fs)) else index_of_main names fs

-- ---- the registers after a part, before which these are

-- the register that takes a value before the blocks die from which it may be read, and the type of it
abbrev pub returned_temporaries : TranslationUnit → Expression → List MonType
returned_temporaries p e = takes p e ++ value_type (type_of e) ∷ []

-- those that take the value of what is behind `switch`, and the index of the case that is chosen
abbrev pub switch_temporaries : TranslationUnit → Expression → List MonType
switch_temporaries p e = returned_temporaries p e ++ U64 ∷ []

-- after a passage of a label
abbrev pub passed_label : TranslationUnit → List Kept → Option ℕ → RegisterTable → RegisterTable
passed_label p plan l r = record r { kinds = behind_snapshot p r.bound l r.kinds plan }

-- after the invariants of a loop, and after its variant
abbrev pub after_invariants : TranslationUnit → List Kept → List Annotation → RegisterTable → RegisterTable
after_invariants p plan annots r = record r { kinds = behind_invariants p r.bound plan r.kinds annots }

abbrev pub after_variant : TranslationUnit → List Kept → List Annotation → RegisterTable → RegisterTable
after_variant p plan annots r = record r { kinds = behind_variant p r.bound plan r.kinds (variant annots) }

-- before the body of a loop: after its invariants, its condition, and its variant, which is kept
abbrev pub before_body : TranslationUnit → List Kept → List Annotation → Option Expression → RegisterTable → RegisterTable
before_body p plan annots e r = after_variant p plan annots (with_kinds (any_temporaries (takes p) e) (after_invariants p plan annots r))

-- after what stands behind the body, and the variant, which is compared
abbrev pub after_turn : TranslationUnit → List Kept → List Annotation → Option Expression → RegisterTable → RegisterTable
after_turn p plan annots behind r = after_variant p plan annots (with_kinds (any_temporaries (act_takes p) behind) r)

abbrev mutual
  pub after_statement : TranslationUnit → List Kept → Statement → RegisterTable → RegisterTable
  after_statement p plan (source_statement.Empty at) r = r
  after_statement p plan (source_statement.Eval at e) r = with_kinds (act_takes p e) r
  after_statement p plan (source_statement.Block at body) r = after_items p plan body (entered (declared_in body) r)
  after_statement p plan (source_statement.If at e a b) r = after_else p plan b (after_statement p plan a (with_kinds (takes p e) r))
  after_statement p plan (source_statement.While at annots e a) r =
      after_turn p plan annots None (after_statement p plan a (before_body p plan annots (Some e) r))
  after_statement p plan (source_statement.Do at a e) r = with_kinds (takes p e) (after_statement p plan a r)
  after_statement p plan (source_statement.For at annots first e behind a) r =
      after_turn p plan annots behind
      (after_statement p plan a (before_body p plan annots e (after_first p plan first (entered (declared_first first) r))))
  after_statement p plan (source_statement.Break at) r = r
  after_statement p plan (source_statement.Continue at) r = r
  after_statement p plan (source_statement.Return at e) r = with_kinds (any_temporaries (returned_temporaries p) e) r
  after_statement p plan (source_statement.Labelled at l a) r = after_statement p plan a (passed_label p plan (Some l) r)
  after_statement p plan (source_statement.Switch at e cases) r = after_cases p plan cases (with_kinds (switch_temporaries p e) r)

  pub after_cases : TranslationUnit → List Kept → Cases → RegisterTable → RegisterTable
  after_cases p plan NoCase r = r
  after_cases p plan (AnotherCase at v body rest) r = after_cases p plan rest (after_items p plan body r)

  pub after_else : TranslationUnit → List Kept → ElsePart → RegisterTable → RegisterTable
  after_else p plan NoElse r = r
  after_else p plan (Else a) r = after_statement p plan a r

  pub after_first : TranslationUnit → List Kept → ForFirst → RegisterTable → RegisterTable
  after_first p plan NoFirst r = r
  after_first p plan (First i) r = after_item p plan i r

  pub after_item : TranslationUnit → List Kept → BlockItem → RegisterTable → RegisterTable
  after_item p plan (Declare ds) r = with_kinds (declaration_temporaries p ds) r
  after_item p plan (Specify at t) r = r
  after_item p plan (Run a) r = after_statement p plan a r
  after_item p plan (Asserts annots) r = record r { kinds = behind_assertions p r.bound plan [] r.kinds annots }

  pub after_items : TranslationUnit → List Kept → BlockItems → RegisterTable → RegisterTable
  after_items p plan NoItem r = r
  after_items p plan (source_statement.Then i rest) r = after_items p plan rest (after_item p plan i r)

-- ---- the blocks of variables

-- these variables live as long as this is done, and the registers from p on point to their blocks
abbrev pub alive : TranslationUnit → ℕ → List Declaration → MonStatements → MonStatements
alive p r ds a = before (births p.structs r ds) (before a (deaths (with_born r ds [])))

-- ---- loops, around whose body stand so many

-- the way out, where the condition is 0
abbrev pub leave_where_zero : ℕ → MonExpression → MonStatements
leave_where_zero loops e = one (If e NoStatement (one (Goto (end_label loops))))

abbrev pub test : TranslationUnit → Bindings → List MonType → ℕ → Expression → MonStatements
test p bound rs loops e = before (prepare p bound rs e) (leave_where_zero loops (condition_result p bound rs e))

abbrev pub test_if_any : TranslationUnit → Bindings → List MonType → ℕ → Option Expression → MonStatements
test_if_any p bound rs loops None = NoStatement
test_if_any p bound rs loops (Some e) = test p bound rs loops e

-- what stands for its effects, and may be left out
abbrev pub act_if_any : TranslationUnit → Bindings → List MonType → Option Expression → MonStatements
act_if_any p bound rs None = NoStatement
act_if_any p bound rs (Some e) = act p bound rs e

-- what stands before the step, and after it; the body, and what stands after that
abbrev pub loop : ℕ → MonStatements → MonStatements → MonStatements → MonStatements → MonStatement
loop loops front kept body behind =
    Labelled (one (Loop front (before kept (Then (Labelled body (next_label loops)) behind)))) (end_label loops)

-- The turns of a `while` or a `for`: the registers before its invariants, and those after its body. Invariants and condition; after the step the variant is
-- kept; after the body comes what stands behind it, and the variant is compared.
module _ (p : TranslationUnit) (plan : List Kept) (annots : List Annotation) where
  abbrev pub front_of : ℕ → RegisterTable → Option Expression → MonStatements
  front_of loops r e =
      before (invariants_code p r.bound plan r.kinds annots) (test_if_any p r.bound (behind_invariants p r.bound plan r.kinds annots) loops e)

  abbrev pub kept_of : RegisterTable → Option Expression → MonStatements
  kept_of r e = variant_kept p r.bound plan (behind_invariants p r.bound plan r.kinds annots ++ any_temporaries (takes p) e) (variant annots)

  abbrev pub compared_of : RegisterTable → Option Expression → RegisterTable → Option Expression → MonStatements
  compared_of r e after behind =
      variant_compared p r.bound after.bound plan (behind_invariants p r.bound plan r.kinds annots ++ any_temporaries (takes p) e)
      (after.kinds ++ any_temporaries (act_takes p) behind) (variant annots)

  abbrev pub turns_of : ℕ → RegisterTable → RegisterTable → Option Expression → Option Expression → MonStatements → MonStatements
  turns_of loops r after e behind body =
      one (loop loops (front_of loops r e) (kept_of r e) body (before (act_if_any p after.bound after.kinds behind) (compared_of r e after behind)))

-- Where a statement stands: how many loops and switches stand around it, the number of the innermost loop among these, and the blocks of variables that
-- live, by the registers that point to them, the youngest first: those born inside what a `break` leaves, from there to the body of the innermost loop,
-- and the others that a `return` leaves. What is returned goes into the register of the result where a contract is checked behind the body.
pub record Spot : Type 0 where
  pub levels : ℕ
  pub innermost : ℕ
  pub inside : List ℕ
  pub between : List ℕ
  pub outside : List ℕ
  pub result : Option ℕ

-- outside all loops, where these live
abbrev pub outermost : Option ℕ → List ℕ → Spot
outermost result live = record { levels = 0; innermost = 0; inside = live; between = []; outside = []; result = result }

-- all that live
abbrev pub all_live : Spot → List ℕ
all_live spot = spot.inside ++ (spot.between ++ spot.outside)

-- the body of a loop
abbrev pub in_loop : Spot → Spot
in_loop spot = record spot { levels = spot.levels + 1; innermost = spot.levels + 1; inside = []; between = []; outside = all_live spot }

-- the items of a `switch`
abbrev pub in_switch : Spot → Spot
in_switch spot = record spot { levels = spot.levels + 1; inside = []; between = spot.inside ++ spot.between }

-- after the births of these variables, to which the registers from p on point
abbrev pub with_variables : ℕ → List Declaration → Spot → Spot
with_variables p ds spot = record spot { inside = with_born p ds spot.inside }

-- ---- `switch`, around whose items stand so many loops and switches

-- `case_3`: the end of the search for a case
abbrev pub case_label : ℕ → List ℕ
case_label levels = codes "case_" ++ decimal levels

-- where the value in the register v, of the type, is that of a case, its index goes into the register j, and the search ends
abbrev pub test_case : ℕ → MonType → ℕ → ℕ → ℕ → Option Expression → MonStatements
test_case levels t v j i (Some (Node at u (Number n k))) =
    one (If (Binary Eq t (Register v) (Constant t n)) (before (set j (Constant U64 (pos i))) (one (Goto (case_label levels)))) NoStatement)
test_case levels t v j i _ = NoStatement

-- the tests of these cases, of which the first one has the index i
abbrev pub tests_of_cases : ℕ → MonType → ℕ → ℕ → ℕ → Cases → MonStatements
tests_of_cases levels t v j i NoCase = NoStatement
tests_of_cases levels t v j i (AnotherCase at value body rest) = before (test_case levels t v j i value) (tests_of_cases levels t v j (suc i) rest)

-- the search: it begins with the index of the default, or else the number of cases
abbrev pub search : ℕ → MonType → ℕ → ℕ → Cases → MonStatements
search levels t v j cases =
    before (set j (Constant U64 (pos (default_of cases)))) (one (Labelled (tests_of_cases levels t v j 0 cases) (case_label levels)))

-- what is done where the index of the chosen case, in the register j, is at most i
abbrev pub where_reached : ℕ → ℕ → MonStatements → MonStatement
where_reached j i a = If (Binary Le U64 (Register j) (Constant U64 (pos i))) a NoStatement

-- how many cases stand behind the first one in a block, whose items are passed over by one test
abbrev pub others_in_block : ℕ
others_in_block = 15

-- ---- `return`

-- the way out: a `return`, or, where a contract is checked behind the body, to its end
abbrev pub way_out : Option ℕ → Option MonExpression → MonStatement
way_out None e = Return e
way_out (Some r) e = Goto leave_label

-- before that the blocks die to which these registers point
abbrev pub leaving : Option ℕ → List ℕ → Option MonExpression → MonStatements
leaving result live e = before (deaths live) (one (way_out result e))

-- where what is returned goes: into a register of its own, or into that of the result
abbrev pub given_register : Option ℕ → ℕ → ℕ
given_register None own = own
given_register (Some r) own = r

abbrev pub giving : Option ℕ → List ℕ → ℕ → MonExpression → MonStatements
giving result live own e = before (set (given_register result own) e) (leaving result live (Some (Register (given_register result own))))

-- ---- a function of the program

module _ (p : TranslationUnit) (plan : List Kept) where
  abbrev pub returned : Spot → RegisterTable → Option Expression → MonStatements
  returned spot r None = leaving spot.result (all_live spot) None
  returned spot r (Some e) =
      before (prepare p r.bound r.kinds e) (giving spot.result (all_live spot) (length (r.kinds ++ takes p e)) (result p r.bound r.kinds e))

  abbrev mutual
    pub statement : Spot → RegisterTable → Statement → MonStatements
    statement spot r (source_statement.Empty at) = NoStatement
    statement spot r (source_statement.Eval at e) = act p r.bound r.kinds e
    statement spot r (source_statement.Block at body) =
        alive p (next_register r) (declared_in body)
        (items (with_variables (next_register r) (declared_in body) spot) (entered (declared_in body) r) body)
    statement spot r (source_statement.If at e a b) =
        before (prepare p r.bound r.kinds e) (one (If (condition_result p r.bound r.kinds e)
        (statement spot (with_kinds (takes p e) r) a)
        (else_part spot (after_statement p plan a (with_kinds (takes p e) r)) b)))
    statement spot r (source_statement.While at annots e a) =
        turns_of p plan annots (spot.levels + 1) r (after_statement p plan a (before_body p plan annots (Some e) r)) (Some e) None
        (statement (in_loop spot) (before_body p plan annots (Some e) r) a)
    statement spot r (source_statement.Do at a e) =
        one (loop (spot.levels + 1) NoStatement NoStatement (statement (in_loop spot) r a)
        (test p (after_statement p plan a r).bound (after_statement p plan a r).kinds (spot.levels + 1) e))
    statement spot r (source_statement.For at annots first e behind a) =
        alive p (next_register r) (declared_first first)
        (before (first_part (with_variables (next_register r) (declared_first first) spot) (entered (declared_first first) r) first)
        (turns_of p plan annots (spot.levels + 1) (after_first p plan first (entered (declared_first first) r))
        (after_statement p plan a (before_body p plan annots e (after_first p plan first (entered (declared_first first) r)))) e behind
        (statement (in_loop (with_variables (next_register r) (declared_first first) spot))
        (before_body p plan annots e (after_first p plan first (entered (declared_first first) r))) a)))
    statement spot r (source_statement.Break at) = before (deaths spot.inside) (one (Goto (end_label spot.levels)))
    statement spot r (source_statement.Continue at) = before (deaths (spot.inside ++ spot.between)) (one (Goto (next_label spot.innermost)))
    statement spot r (source_statement.Return at e) = returned spot r e
    statement spot r (source_statement.Labelled at l a) =
        before (snapshot p r.bound (Some l) r.kinds plan) (statement spot (passed_label p plan (Some l) r) a)
    statement spot r (source_statement.Switch at e cases) =
        before (prepare p r.bound r.kinds e) (before (set (length (r.kinds ++ takes p e)) (result p r.bound r.kinds e))
        (before (search (spot.levels + 1) (value_type (type_of e)) (length (r.kinds ++ takes p e)) (length (r.kinds ++ returned_temporaries p e)) cases)
        (one (Labelled (blocks_of_cases (in_switch spot) (with_kinds (switch_temporaries p e) r) (length (r.kinds ++ returned_temporaries p e)) 0 0 cases)
        (end_label (spot.levels + 1))))))

    -- the items of the next k cases, of which the first one has the index i: those of the chosen case, whose index is in the register j, and of all behind it
    pub next_cases : Spot → RegisterTable → ℕ → ℕ → ℕ → Cases → MonStatements
    next_cases spot r j i k NoCase = NoStatement
    next_cases spot r j i zero (AnotherCase at v body rest) = NoStatement
    next_cases spot r j i (suc k) (AnotherCase at v body rest) =
        Then (where_reached j i (items spot r body)) (next_cases spot (after_items p plan body r) j (suc i) k rest)

    -- those of all cases but the next k, in blocks
    pub blocks_of_cases : Spot → RegisterTable → ℕ → ℕ → ℕ → Cases → MonStatements
    blocks_of_cases spot r j i k NoCase = NoStatement
    blocks_of_cases spot r j i zero (AnotherCase at v body rest) =
        Then (where_reached j (i + others_in_block)
        (Then (where_reached j i (items spot r body)) (next_cases spot (after_items p plan body r) j (suc i) others_in_block rest)))
        (blocks_of_cases spot (after_items p plan body r) j (suc i) others_in_block rest)
    blocks_of_cases spot r j i (suc k) (AnotherCase at v body rest) = blocks_of_cases spot (after_items p plan body r) j (suc i) k rest

    pub else_part : Spot → RegisterTable → ElsePart → MonStatements
    else_part spot r NoElse = NoStatement
    else_part spot r (Else a) = statement spot r a

    pub first_part : Spot → RegisterTable → ForFirst → MonStatements
    first_part spot r NoFirst = NoStatement
    first_part spot r (First i) = item spot r i

    pub item : Spot → RegisterTable → BlockItem → MonStatements
    item spot r (Declare ds) = initialise_all p r.bound r.kinds ds
    item spot r (Specify at t) = NoStatement
    item spot r (Run a) = statement spot r a
    item spot r (Asserts annots) = assertions p r.bound plan [] r.kinds annots

    pub items : Spot → RegisterTable → BlockItems → MonStatements
    items spot r NoItem = NoStatement
    items spot r (source_statement.Then i rest) = before (item spot r i) (items spot (after_item p plan i r) rest)

  -- the body of a function, outside all loops, where parameters live, to whose blocks these registers point
  abbrev pub body_part : Option ℕ → List ℕ → RegisterTable → Option Statement → MonStatements
  body_part result inside r None = NoStatement
  body_part result inside r (Some a) = statement (outermost result inside) r a

-- parameters are born in order, each with its argument: pointers stand in the registers from r on, and arguments from v on
abbrev pub parameters : TranslationUnit → ℕ → ℕ → List Declaration → MonStatements
parameters p r v [] = NoStatement
parameters p r v (d ∷ ds) =
    Then (birth p.structs r d) (Then (Store r (value_type d.ctype) (Register v)) (parameters p (suc r) (suc v) ds))

-- ---- registers of a function

-- the types of the values of these variables
abbrev pub value_types : List Declaration → List MonType
value_types ds = map (λ (d : Declaration). value_type d.ctype) ds

-- the registers at the beginning of a body: the arguments, those that a part before it takes, and those that point to the parameters' blocks
abbrev pub registers_of_body : List MonType → Function → RegisterTable
registers_of_body front f = entered f.params (with_kinds front (with_kinds (value_types f.params) no_registers))

-- those after it
abbrev pub after_body : TranslationUnit → List Kept → Option Statement → RegisterTable → RegisterTable
after_body p plan None r = r
after_body p plan (Some a) r = after_statement p plan a r

-- the name of a declaration, where it has one
abbrev pub own_name : List (List ℕ) → Declaration → List ℕ
own_name names d = if d.named then name_at names d.name else []

-- the registers of arguments, from the number k on
abbrev pub arguments_from : List (List ℕ) → ℕ → List Declaration → List MonRegister
arguments_from names k [] = []
arguments_from names k (d ∷ ds) =
    record { kind = value_type d.ctype; name = register_name k (own_name names d) } ∷ arguments_from names (suc k) ds

-- the name of a register that is no argument: pointers are told apart
abbrev pub name_of_register : ℕ → MonType → List ℕ
name_of_register k Ptr = pointer_name k
name_of_register k _ = temporary_name k

-- the registers of these types, from the number k on
abbrev pub registers_from : ℕ → List MonType → List MonRegister
registers_from k [] = []
registers_from k (t ∷ ts) = record { kind = t; name = name_of_register k t } ∷ registers_from (suc k) ts

-- ---- globals and string literals (C99 6.4.5, 6.9.2)

-- `g3_count`, a global, and `s4`, a string literal, by their places among them
abbrev pub global_name : ℕ → List ℕ → List ℕ
global_name k name = take 255 (codes "g" ++ (decimal k ++ (codes "_" ++ name)))

abbrev pub text_name : ℕ → List ℕ
text_name k = codes "s" ++ decimal k

-- the global of an object, which so many globals and so many literals stand before
abbrev pub monitored_global : TranslationUnit → ℕ → ℕ → StaticObject → MonitoredGlobal
monitored_global p k n (OfGlobal d) = record { name = global_name k (name_at p.names d.name); content = Zeros (size_of p.structs d.ctype) }
monitored_global p k n (OfLiteral l) = record { name = text_name n; content = Literal l.bytes }

abbrev pub globals_with : ℕ → StaticObject → ℕ
globals_with k (OfGlobal d) = k + 1
globals_with k (OfLiteral l) = k

abbrev pub literals_with : ℕ → StaticObject → ℕ
literals_with n (OfGlobal d) = n
literals_with n (OfLiteral l) = n + 1

abbrev pub monitored_from : TranslationUnit → ℕ → ℕ → List StaticObject → List MonitoredGlobal
monitored_from p k n [] = []
monitored_from p k n (o ∷ os) = monitored_global p k n o ∷ monitored_from p (globals_with k o) (literals_with n o) os

-- globals and literals in the order of the text
abbrev pub monitored_globals : TranslationUnit → List MonitoredGlobal
monitored_globals p = monitored_from p 0 0 (static_objects p)

-- what a global that has an initialiser takes: a register that points to it, and those of the initialiser
abbrev pub global_temporaries : TranslationUnit → Option (Place × Initialiser) → List MonType
global_temporaries p None = []
global_temporaries p (Some i) = Ptr ∷ initial_temporaries p (Some i)

abbrev pub all_global_temporaries : TranslationUnit → List Declaration → List MonType
all_global_temporaries p [] = []
all_global_temporaries p (d ∷ ds) = global_temporaries p d.init ++ all_global_temporaries p ds

abbrev pub initialise_global : TranslationUnit → List MonType → ℕ → PlainType → Option (Place × Initialiser) → MonStatements
initialise_global p rs g t None = NoStatement
initialise_global p rs g t (Some i) = before (set (length rs) (Global g)) (initialise p [] (rs ++ Ptr ∷ []) (length rs) t (Some i))

-- the globals are initialised in text order
abbrev pub initialise_globals : TranslationUnit → List MonType → List Declaration → MonStatements
initialise_globals p rs [] = NoStatement
initialise_globals p rs (d ∷ ds) =
    before (initialise_global p rs (object_of_global (number_of d) (static_objects p)) d.ctype d.init)
    (initialise_globals p (rs ++ global_temporaries p d.init) ds)

-- ---- programs

abbrev pub result_of : PlainType → Option MonType
result_of (Int k) = Some (register_type k)
result_of (source_type.Ptr t) = Some Ptr
result_of _ = None

-- ---- what a function keeps beside its variables, in registers behind the arguments

-- with a contract what it gives, and a flag for each behavior
abbrev pub contract_types : PlainType → Option FunctionContract → List MonType
contract_types t None = []
contract_types t (Some c) = value_type t ∷ map (λ (b : NamedBehavior). I32) c.behaviors

-- the terms that are kept at labels, and these
abbrev pub own_types : Function → List MonType
own_types f = kept_types (planned f) ++ contract_types f.result f.contract

-- the first of them, and the first behind them
abbrev pub first_own : Function → ℕ
first_own f = length (value_types f.params)

abbrev pub behind_own : Function → ℕ
behind_own f = length (value_types f.params ++ own_types f)

abbrev pub plan_of : Function → List Kept
plan_of f = kept_from (first_own f) (planned f)

-- what it gives stands behind those of the plan, and then the flags of behaviors
abbrev pub result_register : Function → ℕ
result_register f = first_own f + length (kept_types (planned f))

abbrev pub first_flag : Function → ℕ
first_flag f = suc (result_register f)

-- `\result` where a function gives something, in this register
abbrev pub result_held : ℕ → Option MonType → List Held
result_held r None = []
result_held r (Some t) = record { number = result_number; register = r; kind = t } ∷ []

abbrev pub held_of : Function → List Held
held_of f = result_held (result_register f) (result_of f.result)

-- the one `return` of a function that gives something
abbrev pub last_return : ℕ → Option MonType → MonStatements
last_return r None = NoStatement
last_return r (Some t) = one (Return (Some (Register r)))

-- `main` initialises the globals first
abbrev pub front_temporaries : TranslationUnit → Bool → List MonType
front_temporaries p is_main = if is_main then all_global_temporaries p p.globals else []

abbrev pub front : TranslationUnit → Bool → Function → MonStatements
front p is_main f = if is_main then initialise_globals p (value_types f.params ++ own_types f) p.globals else NoStatement

-- a function, in which registers of these types stand between its own and those that point to parameters' blocks
module _ (p : TranslationUnit) (front_types : List MonType) (f : Function) where
  -- the first that points to a parameter's block
  abbrev pub first_pointer : ℕ
  first_pointer = length (value_types f.params ++ (own_types f ++ front_types))

  abbrev pub pointers : List ℕ
  pointers = with_born first_pointer f.params []

  -- where the parameters live, and where the label `Pre` was passed
  abbrev pub at_start : RegisterTable
  at_start = registers_of_body (own_types f ++ front_types) f

  abbrev pub behind_pre : RegisterTable
  behind_pre = passed_label p (plan_of f) None at_start

  -- where a body begins that a contract stands in front of, and where it ends
  abbrev pub at_body : FunctionContract → RegisterTable
  at_body c = record behind_pre { kinds = behind_entry p behind_pre.bound (first_flag f) behind_pre.kinds c }

  abbrev pub at_leave : FunctionContract → List MonType
  at_leave c = (after_body p (plan_of f) f.body (at_body c)).kinds

  -- `main` gives 0 at its closing brace (C99 5.1.2.2.3)
  abbrev pub at_brace : Bool → MonStatements
  at_brace is_main = if is_main then set (result_register f) (Constant I32 (pos 0)) else NoStatement

  -- A body, and the deaths of the parameters. With a contract: what it asks where the body begins, the body, of which each `return` comes to its end, what
  -- the contract asks there, the deaths, and one `return`.
  abbrev pub body_code : Bool → Option FunctionContract → MonStatements
  body_code is_main None = before (body_part p (plan_of f) None pointers behind_pre f.body) (deaths pointers)
  body_code is_main (Some c) =
      before (entry_code p behind_pre.bound (first_flag f) behind_pre.kinds c)
      (Then (Labelled (before (body_part p (plan_of f) (Some (result_register f)) [] (at_body c) f.body) (at_brace is_main)) leave_label)
      (before (leave_code p behind_pre.bound (plan_of f) (held_of f) (first_flag f) (at_leave c) c)
      (before (deaths pointers) (last_return (result_register f) (result_of f.result)))))

  -- parameters are born, the label `Pre` is passed, and the body is done
  abbrev pub code_of : Bool → MonStatements
  code_of is_main =
      before (parameters p first_pointer 0 f.params) (before (snapshot p at_start.bound None at_start.kinds (plan_of f)) (body_code is_main f.contract))

  -- the types of all its registers
  abbrev pub all_kinds : Option FunctionContract → List MonType
  all_kinds None = (after_body p (plan_of f) f.body behind_pre).kinds
  all_kinds (Some c) = behind_leave p behind_pre.bound (plan_of f) (held_of f) (first_flag f) (at_leave c) c

  -- those that are no arguments
  abbrev pub registers_of : List MonRegister
  registers_of = registers_from (length f.params) (drop (length f.params) (all_kinds f.contract))

-- the definition with the index k, where `main` has this index
abbrev pub function_of : TranslationUnit → ℕ → ℕ → Function → MonFunction
function_of p main k f = record {
  result = result_of f.result;
  name = if nat_eq k main then codes "main" else function_name k (name_at p.names f.name);
  parameters = arguments_from p.names 0 f.params;
  registers = registers_of p (front_temporaries p (nat_eq k main)) f;
  body = before (front p (nat_eq k main) f) (code_of p (front_temporaries p (nat_eq k main)) f (nat_eq k main));
}

-- the definitions, from the index k on
abbrev pub functions_from : TranslationUnit → ℕ → ℕ → List Function → List MonFunction
functions_from p main k [] = []
functions_from p main k (f ∷ fs) =
    if is_definition f then function_of p main k f ∷ functions_from p main (suc k) fs else functions_from p main k fs

abbrev pub translated : TranslationUnit → MonitoredProgram
translated p = record { globals = monitored_globals p; functions = functions_from p (index_of_main p.names p.funcs) 0 p.funcs }
