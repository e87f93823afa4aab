-- Accepted programs take addresses of lvalues alone, so that each state along a run of one is sound.
use Rattle.std.proofs.Common.{◌≡◌, ℕ, zero, suc, true, List, [], ◌∷◌, ◌++◌, map, Option, Some, None, refl, sym, ap, ◌∙◌, subst}
use Rattle.std.proofs.Common.{append_assoc}
use Rattle.c_syntax.specs.declared.place.Place.{Place}
use Rattle.c_syntax.specs.declared.types.CInt.{CInt}
use Rattle.c_syntax.specs.declared.expression.UnOp.TheVariants as unary
use Rattle.c_syntax.specs.declared.expression.BinOp.{BinOp}
use Rattle.c_syntax.specs.Ctypes.{PlainType, Void, Int, Ptr, Array, Struct, Named, StructTag, EnumTag}
use Rattle.c_syntax.specs.Expressions.{Expression, Node, Number, Letter, Text, Variable, Unary, Binary, Both, Either, Choice, Assign, Bump, Call, Cast, SizeOfType, SizeOfExpr, Index, Dot, Arrow, Comma, Expressions, NoExpression, Following, type_of}
use Rattle.c_syntax.specs.Statements.{Initialiser, One, Many, Initialisers, NoInitialiser, Listed, Declaration, Statement, Empty, Eval, Block, If, While, Do, For, Break, Continue, Return, Labelled, Switch, Cases, NoCase, AnotherCase}
use Rattle.c_syntax.specs.Statements.{ElsePart, NoElse, Else, ForFirst, NoFirst, First, BlockItem, Declare, Specify, Run, Asserts, BlockItems, NoItem, Then}
use Rattle.c_syntax.specs.Programs.{StringLiteral, Function, TranslationUnit}
use Rattle.c_syntax.specs.Layouts.{Scalar, scalar_of}
use Rattle.c_model.specs.Conversions.{promoted}
use Rattle.c_model.specs.ExpressionTyping.{Sight, is_place, is_struct, inner, with_object, tables_in}
use Rattle.c_model.specs.Meaning.{is_array, parts_or_itself, text_at, call_of}
use Rattle.c_model.specs.StatementTyping.{Around, in_loop, in_switch, behind, behind_first}
use Rattle.c_model.specs.UnitTyping.{with_parameters}
use Rattle.c_model.specs.TypedTrees.{WhereAny, Assigns, ToScalar, ToStruct, CompoundTypes, ToInteger, ToPointer, WellTyped, AreWellTyped, IsCondition, InitialisedBy, ByText, ByValue, Initialises, PartsInitialised, IsDeclared, AreDeclared}
use Rattle.c_model.specs.TypedTrees.{StatementTyped, CasesTyped, ElseTyped, FirstTyped, ItemTyped, ItemsTyped, around_body, BodyTyped}
use Rattle.c_model.specs.FullExpressions.{EachInitial, EachPart, EachInDeclaration, EachDeclared, EachIn, EachInCases, EachInElse, EachInFirst, EachInItem, EachInItems}
use Rattle.c_model.specs.Formed.{AreLoopClauses, AreAsserts}
use Rattle.c_model.specs.ReadTree.{BodyRead, FunctionsRead, AreBytes, TextsAreBytes}
use Rattle.c_model.specs.AcceptedPrograms.{IsProgram}
use Rattle.c_model.specs.SoundStates.{is_direct, AreDirect, AllDirect, BodiesDirect, ProgramsAreDirect, ExpressionsKeepSound, BirthsKeepSound, StatementsKeepSound, ItemsKeepSound, BodiesKeepSound, ProgramCallsKeepSound, RunsKeepSound, RunsAreSound}
use Rattle.c_model.proofs.NeverStuckItems.{function_in_sight, global_in_sight}
use Rattle.c_model.proofs.SoundRuns.{sound_eval}
use Rattle.c_model.proofs.SoundSteps.{keeps_births}
use Rattle.c_model.proofs.SoundStatements.{keeps_exec, keeps_items, keeps_body_of}
use Rattle.c_model.proofs.SoundCalls.{own_indexed, in_functions, calls_keep_sound, whole_keeps_sound}
use Rattle.c_model.proofs.SoundStarts.{starts_are_sound}

-- ---- lvalues

-- an lvalue is neither an assignment nor a comma (C99 6.3.2.1 p1)
direct_place : (a : Expression) → is_place a ≡ true → is_direct a ≡ true
direct_place (Node at t (Number n k)) e = refl
direct_place (Node at t (Letter n)) e = refl
direct_place (Node at t (Text n)) e = refl
direct_place (Node at t (Variable x)) e = refl
direct_place (Node at t (Unary op a)) e = refl
direct_place (Node at t (Binary op a b)) e = refl
direct_place (Node at t (Both a b)) e = refl
direct_place (Node at t (Either a b)) e = refl
direct_place (Node at t (Choice a b c)) e = refl
direct_place (Node at t (Assign op a b)) e = absurd cc
direct_place (Node at t (Bump op a)) e = refl
direct_place (Node at t (Call f es)) e = refl
direct_place (Node at t (Cast to a)) e = refl
direct_place (Node at t (SizeOfType u)) e = refl
direct_place (Node at t (SizeOfExpr a)) e = refl
direct_place (Node at t (Index a b)) e = refl
direct_place (Node at t (Dot a m)) e = refl
direct_place (Node at t (Arrow a m)) e = refl
direct_place (Node at t (Comma a b)) e = absurd cc

-- an array is no scalar and no struct
array_no_scalar : (t : PlainType) (k : Scalar) → scalar_of t ≡ Some k → is_array t ≡ true → ⊥
array_no_scalar Void k e a = absurd cc
array_no_scalar (Int i) k e a = absurd cc
array_no_scalar (Ptr u) k e a = absurd cc
array_no_scalar (Array u n) k e a = absurd cc
array_no_scalar (Struct n) k e a = absurd cc
array_no_scalar (Named x) k e a = absurd cc
array_no_scalar (StructTag x tag) k e a = absurd cc
array_no_scalar (EnumTag x at) k e a = absurd cc

array_no_struct : (t : PlainType) → is_struct t ≡ true → is_array t ≡ true → ⊥
array_no_struct Void e a = absurd cc
array_no_struct (Int i) e a = absurd cc
array_no_struct (Ptr u) e a = absurd cc
array_no_struct (Array u n) e a = absurd cc
array_no_struct (Struct n) e a = absurd cc
array_no_struct (Named x) e a = absurd cc
array_no_struct (StructTag x tag) e a = absurd cc
array_no_struct (EnumTag x at) e a = absurd cc

assigns_no_array : (s : Sight) (t : PlainType) (b : Expression) → Assigns s t b → is_array t ≡ true → ⊥
assigns_no_array s t b (ToScalar i) a = array_no_scalar t i.scalar i.is a
assigns_no_array s t b (ToStruct is known object) a = array_no_struct t is a

compound_no_array : (s : Sight) (op : BinOp) (t u : PlainType) → CompoundTypes s op t u → is_array t ≡ true → ⊥
compound_no_array s op t u (ToInteger i j) a = let is = ap is_array i.is in absurd cc
compound_no_array s op t u (ToPointer step p j) a = let is = ap is_array p.is in absurd cc

-- so an array is neither (C99 6.3.2.1 p3)
direct_array : (s : Sight) (a : Expression) → WellTyped s a → is_array (type_of a) ≡ true → is_direct a ≡ true
direct_array s (Node at t (Number n k)) w e = refl
direct_array s (Node at t (Letter n)) w e = refl
direct_array s (Node at t (Text n)) w e = refl
direct_array s (Node at t (Variable x)) w e = refl
direct_array s (Node at t (Unary op a)) w e = refl
direct_array s (Node at t (Binary op a b)) w e = refl
direct_array s (Node at t (Both a b)) w e = refl
direct_array s (Node at t (Either a b)) w e = refl
direct_array s (Node at t (Choice a b c)) w e = refl
direct_array s (Node at t (Assign None a b)) w e = absurd (assigns_no_array s t b w.5 e)
direct_array s (Node at t (Assign (Some op) a b)) w e = absurd (compound_no_array s op t (type_of b) w.4 e)
direct_array s (Node at t (Bump op a)) w e = refl
direct_array s (Node at t (Call f es)) w e = refl
direct_array s (Node at t (Cast to a)) w e = refl
direct_array s (Node at t (SizeOfType u)) w e = refl
direct_array s (Node at t (SizeOfExpr a)) w e = refl
direct_array s (Node at t (Index a b)) w e = refl
direct_array s (Node at t (Dot a m)) w e = refl
direct_array s (Node at t (Arrow a m)) w e = refl
direct_array s (Node at t (Comma a b)) w e = let none = w.3 in absurd cc

-- ---- expressions

mutual
  direct : (s : Sight) (e : Expression) → WellTyped s e → AreDirect e
  direct s (Node at t (Number n k)) w = tt
  direct s (Node at t (Letter n)) w = tt
  direct s (Node at t (Text n)) w = tt
  direct s (Node at t (Variable x)) w = tt
  direct s (Node at t (Unary unary.Address a)) w = (direct_place a w.1, direct s a w.0)
  direct s (Node at t (Unary unary.Deref a)) w = direct s a w.0
  direct s (Node at t (Unary unary.Not a)) w = direct s a w.0
  direct s (Node at t (Unary unary.Plus a)) w = direct s a w.0
  direct s (Node at t (Unary unary.Minus a)) w = direct s a w.0
  direct s (Node at t (Unary unary.Flip a)) w = direct s a w.0
  direct s (Node at t (Binary op a b)) w = (direct s a w.0, direct s b w.1)
  direct s (Node at t (Both a b)) w = (direct s a w.0, direct s b w.1)
  direct s (Node at t (Either a b)) w = (direct s a w.0, direct s b w.1)
  direct s (Node at t (Choice a b c)) w = (direct s a w.0, direct s b w.1, direct s c w.2)
  direct s (Node at t (Assign None a b)) w = (direct s a w.0, direct s b w.1)
  direct s (Node at t (Assign (Some op) a b)) w = (direct s a w.0, direct s b w.1)
  direct s (Node at t (Bump op a)) w = direct s a w.0
  direct s (Node at t (Call f es)) w = all_direct s es w.0
  direct s (Node at t (Cast to a)) w = (λ e. direct_array s a w.0 e, direct s a w.0)
  direct s (Node at t (SizeOfType u)) w = tt
  direct s (Node at t (SizeOfExpr a)) w = tt
  direct s (Node at t (Index a b)) w = (direct s a w.0, direct s b w.1)
  direct s (Node at t (Dot a m)) w = direct s a w.0
  direct s (Node at t (Arrow a m)) w = direct s a w.0
  direct s (Node at t (Comma a b)) w = (direct s a w.0, direct s b w.1)

  all_direct : (s : Sight) (es : Expressions) → AreWellTyped s es → AllDirect es
  all_direct s NoExpression w = tt
  all_direct s (Following e es) w = (direct s e w.0, all_direct s es w.1)

direct_if_any : (s : Sight) (o : Option Expression) → WhereAny (WellTyped s) o → WhereAny AreDirect o
direct_if_any s None w = tt
direct_if_any s (Some e) w = direct s e w

direct_condition : (s : Sight) (o : Option Expression) → WhereAny (IsCondition s) o → WhereAny AreDirect o
direct_condition s None w = tt
direct_condition s (Some e) w = direct s e w.typed

-- ---- declarations

direct_by : (s : Sight) (t : PlainType) (e : Expression) → InitialisedBy s t e → AreDirect e
direct_by s t e (ByText f) = subst AreDirect (sym f.is) tt
direct_by s t e (ByValue v none) = direct s e v.typed

mutual
  direct_initial : (s : Sight) (t : PlainType) (i : Initialiser) → Initialises s t i → EachInitial AreDirect i
  direct_initial s t (One e) w = direct_by s t e w
  direct_initial s t (Many brace is) w = direct_parts s (parts_or_itself (tables_in s) t) is w

  direct_parts : (s : Sight) (cs : List (ℕ × PlainType)) (is : Initialisers) → PartsInitialised s cs is → EachPart AreDirect is
  direct_parts s cs NoInitialiser w = tt
  direct_parts s [] (Listed i is) w = absurd w
  direct_parts s (c ∷ cs) (Listed i is) w = (direct_initial s c.1 i w.0, direct_parts s cs is w.1)

direct_init : (s : Sight) (t : PlainType) (o : Option (Place × Initialiser)) → WhereAny (λ (i : Place × Initialiser). Initialises s t i.1) o → WhereAny (λ (i : Place × Initialiser). EachInitial AreDirect i.1) o
direct_init s t None w = tt
direct_init s t (Some i) w = direct_initial s t i.1 w

direct_declaration : (s : Sight) (d : Declaration) → IsDeclared s d → EachInDeclaration AreDirect d
direct_declaration s d w = direct_init (with_object s d) d.ctype d.init w.init

direct_declared : (s : Sight) (ds : List Declaration) → AreDeclared s ds → EachDeclared AreDirect ds
direct_declared s [] w = tt
direct_declared s (d ∷ ds) w = (direct_declaration s d w.0, direct_declared (with_object s d) ds w.1)

-- ---- statements

mutual
  direct_statement : (s : Sight) (r : Around) (a : Statement) → StatementTyped s r a → EachIn AreDirect a
  direct_statement s r (Empty at) w = tt
  direct_statement s r (Eval at e) w = direct s e w
  direct_statement s r (Block at items) w = direct_items (inner s) r items w
  direct_statement s r (If at e a b) w = (direct s e w.0.typed, direct_statement s r a w.1, direct_else s r b w.2)
  direct_statement s r (While at annots e a) w = (direct s e w.0.typed, direct_statement s (in_loop r) a w.1)
  direct_statement s r (Do at a e) w = (direct_statement s (in_loop r) a w.0, direct s e w.1.typed)
  direct_statement s r (For at annots first e step a) w =
      let t = behind_first (inner s) first in
      (direct_first (inner s) r first w.0, direct_condition t e w.1, direct_if_any t step w.2, direct_statement t (in_loop r) a w.3)
  direct_statement s r (Break at) w = tt
  direct_statement s r (Continue at) w = tt
  direct_statement s r (Return at None) w = tt
  direct_statement s r (Return at (Some e)) w = direct s e w.typed
  direct_statement s r (Labelled at l a) w = direct_statement s r a w
  direct_statement s r (Switch at e cases) w = (direct s e w.1, direct_cases s (in_switch r) (promoted w.0) cases w.3)

  direct_cases : (s : Sight) (r : Around) (k : CInt) (cases : Cases) → CasesTyped s r k cases → EachInCases AreDirect cases
  direct_cases s r k NoCase w = tt
  direct_cases s r k (AnotherCase at v items rest) w = (direct_items s r items w.1, direct_cases s r k rest w.2)

  direct_else : (s : Sight) (r : Around) (b : ElsePart) → ElseTyped s r b → EachInElse AreDirect b
  direct_else s r NoElse w = tt
  direct_else s r (Else a) w = direct_statement s r a w

  direct_first : (s : Sight) (r : Around) (first : ForFirst) → FirstTyped s r first → EachInFirst AreDirect first
  direct_first s r NoFirst w = tt
  direct_first s r (First i) w = direct_item s r i w

  direct_item : (s : Sight) (r : Around) (i : BlockItem) → ItemTyped s r i → EachInItem AreDirect i
  direct_item s r (Declare ds) w = direct_declared s ds w
  direct_item s r (Specify at t) w = tt
  direct_item s r (Run a) w = direct_statement s r a w
  direct_item s r (Asserts annots) w = tt

  direct_items : (s : Sight) (r : Around) (items : BlockItems) → ItemsTyped s r items → EachInItems AreDirect items
  direct_items s r NoItem w = tt
  direct_items s r (Then i rest) w = (direct_item s r i w.0, direct_items (behind s i) r rest w.1)

direct_body : (s : Sight) (t : PlainType) (body : Option Statement) → BodyRead AreAsserts AreLoopClauses body → BodyTyped s t body → WhereAny (EachIn AreDirect) body
direct_body s t None read w = tt
direct_body s t (Some (Block at items)) read w = direct_items s (around_body t) items w
direct_body s t (Some _) read w = absurd read

-- ---- programs

module _ (p : TranslationUnit) (q : IsProgram p) where
  bodies_direct : (front fs : List Function) → front ++ fs ≡ p.funcs → FunctionsRead AreAsserts AreLoopClauses fs → BodiesDirect fs
  bodies_direct front [] is read = tt
  bodies_direct front (f ∷ fs) is read =
      let here = function_in_sight p q.typed q.resolved front fs f is in
      (direct_body (with_parameters (inner here.sight) f.params) f.result f.body read.0.body here.typed.body, bodies_direct (front ++ f ∷ []) fs (append_assoc front (f ∷ []) fs ∙ is) read.1)

  globals_direct : (front ds : List Declaration) → front ++ ds ≡ p.globals → EachDeclared AreDirect ds
  globals_direct front [] is = tt
  globals_direct front (d ∷ ds) is =
      let here = global_in_sight p q.typed q.resolved front ds d is in
      (direct_declaration here.sight d here.declared, globals_direct (front ++ d ∷ []) ds (append_assoc front (d ∷ []) ds ∙ is))

text_bytes : (xs : List StringLiteral) (n : ℕ) → TextsAreBytes xs → AreBytes (text_at (map (λ (l : StringLiteral). l.bytes) xs) n)
text_bytes [] n h = tt
text_bytes (x ∷ xs) zero h = h.0
text_bytes (x ∷ xs) (suc n) h = text_bytes xs n h.1

pub programs_are_direct : ProgramsAreDirect
programs_are_direct p q = record {
  globals = globals_direct p q [] p.globals refl;
  bodies = bodies_direct p q [] p.funcs refl q.effects;
  octets = λ n. text_bytes p.texts n q.texts;
}

-- ---- runs

pub expressions_keep_sound : ExpressionsKeepSound
expressions_keep_sound p q e direct n s st = sound_eval (call_of p n) (calls_keep_sound p (programs_are_direct p q) n) e direct s st

pub births_keep_sound : BirthsKeepSound
births_keep_sound p ds own s st = keeps_births ds own s st

pub statements_keep_sound : StatementsKeepSound
statements_keep_sound p q a direct own n s st =
    let d = programs_are_direct p q in
    keeps_exec (call_of p n) (calls_keep_sound p d n) d.octets a direct own n s st

pub items_keep_sound : ItemsKeepSound
items_keep_sound p q items direct own n s st =
    let d = programs_are_direct p q in
    keeps_items (call_of p n) (calls_keep_sound p d n) d.octets items direct own n s st

pub bodies_keep_sound : BodiesKeepSound
bodies_keep_sound p q i f e n s st =
    let d = programs_are_direct p q in
    let own = own_indexed p i f p.funcs d.bodies (in_functions p) e in
    keeps_body_of (call_of p n) (calls_keep_sound p d n) d.octets f.body own.body own.variables n s st

pub program_calls_keep_sound : ProgramCallsKeepSound
program_calls_keep_sound p q n = calls_keep_sound p (programs_are_direct p q) n

pub runs_keep_sound : RunsKeepSound
runs_keep_sound p q n s st = whole_keeps_sound p (programs_are_direct p q) n s st

pub runs_are_sound : RunsAreSound
runs_are_sound p q input n = (runs_keep_sound p q (suc n) _ (starts_are_sound p q input n)).sound
