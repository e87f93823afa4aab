-- What is in sight where the functions of a typed file stand: its names, structs and literals, and no objects but globals.
use Rattle.std.proofs.Common.{◌≡◌, ℤ, pos, List, [], ◌∷◌, ◌++◌, inl, inr, refl, subst}
use Rattle.c_syntax.specs.Statements.{Declaration}
use Rattle.c_syntax.specs.Programs.{EnumConstant, Function, TranslationUnit}
use Rattle.c_model.specs.State.{Scope}
use Rattle.c_model.specs.Formed.{number_of}
use Rattle.c_model.specs.ExpressionTyping.{Sight}
use Rattle.c_model.specs.DeclarationTyping.{with_enumerator}
use Rattle.c_model.specs.UnitTyping.{FileItem, StructHead, Member, AnEnum, ATypedef, AGlobal, AFunction, items_of_file, sight_with, with_function, behind_item}
use Rattle.c_model.specs.UnitTyping.{with_enumerators, value_typed}
use Rattle.c_model.specs.TypedTrees.{IsDeclared, FunctionTyped}
use Rattle.c_model.specs.TypedAnnotations.{FunctionNoted}
use Rattle.c_model.specs.TypedPrograms.{ItemTyped, ItemsTyped}
use Rattle.c_model.specs.AcceptedPrograms.{ItemNoted, FileNoted, AreDefined, ItemResolved, FileResolved, IsProgram}
use Rattle.interval_infer.specs.InSight.{IsFound, AreFound}
use Rattle.interval_infer.proofs.Sights.{DeclarationsFound, IsFine, AreFine, found_behind_item, declarations_found_more, newest_found, file_is_fine}
use Rattle.instrument.proofs.Sight.{scope_for}
use Rattle.c_model.proofs.NeverStuckItems.{IsAmong, global_in_file, function_in_file}
use Rattle.instrument.proofs.Numbers.{numbers_in}

-- globals are found in their own scope
globals_found : (ds : List Declaration) → DeclarationsFound ds (scope_for (numbers_in ds))
globals_found [] = tt
globals_found (d ∷ ds) = (
  newest_found (number_of d) 0 (scope_for (numbers_in ds)),
  declarations_found_more ds (number_of d) 0 (scope_for (numbers_in ds)) (globals_found ds),
)

-- ---- places of the file

pub record IsPlace (p : TranslationUnit) (scope : Scope) (s : Sight) : Type 0 where
  pub names : s.names ≡ p.names
  pub texts : s.texts ≡ p.texts
  pub structs : s.structs ≡ p.structs
  pub found : AreFound s.entities scope

-- the names, texts and structs of the program
record IsOfFile (p : TranslationUnit) (s : Sight) : Type 0 where
  names : s.names ≡ p.names
  texts : s.texts ≡ p.texts
  structs : s.structs ≡ p.structs

of_enumerators : (p : TranslationUnit) (es : List EnumConstant) (s : Sight) (next : ℤ) → IsOfFile p s → IsOfFile p (with_enumerators s next es)
of_enumerators p [] s next h = h
of_enumerators p (e ∷ es) s next h = of_enumerators p es (with_enumerator s e.name (value_typed s next e.value)) _ (record { names = h.names; texts = h.texts; structs = h.structs })

of_behind : (p : TranslationUnit) (i : FileItem) (s : Sight) → IsOfFile p s → IsOfFile p (behind_item p s i)
of_behind p (StructHead k struct) s h = h
of_behind p (Member k m ends) s h = h
of_behind p (AnEnum e) s h = let g = of_enumerators p e.items s (pos 0) h in record { names = g.names; texts = g.texts; structs = g.structs }
of_behind p (ATypedef d) s h = record { names = h.names; texts = h.texts; structs = h.structs }
of_behind p (AGlobal d) s h = record { names = h.names; texts = h.texts; structs = h.structs }
of_behind p (AFunction g) s h = record { names = h.names; texts = h.texts; structs = h.structs }

place_behind : (p : TranslationUnit) (scope : Scope) (i : FileItem) (s : Sight) → IsFine scope i → IsPlace p scope s → IsPlace p scope (behind_item p s i)
place_behind p scope i s f h =
    let g = of_behind p i s (record { names = h.names; texts = h.texts; structs = h.structs }) in
    record { names = g.names; texts = g.texts; structs = g.structs; found = found_behind_item p scope i s f h.found }

-- the scope of all globals
abbrev pub own_scope : TranslationUnit → Scope
own_scope p = scope_for (numbers_in p.globals)

-- a function, and what is in sight where it stands, itself included
pub record FunctionInPlace (p : TranslationUnit) (f : Function) : Type 0 where
  pub sight : Sight
  pub place : IsPlace p (own_scope p) sight
  pub typed : FunctionTyped sight f
  pub noted : FunctionNoted sight f
  pub defined : AreDefined p sight.functions

-- a global, and what is in sight in front of it
pub record GlobalInPlace (p : TranslationUnit) (d : Declaration) : Type 0 where
  pub sight : Sight
  pub place : IsPlace p (own_scope p) sight
  pub itself : IsFound (own_scope p) (number_of d)
  pub declared : IsDeclared sight d
  pub defined : AreDefined p sight.functions

module _ (p : TranslationUnit) where
  own_fine : AreFine (own_scope p) (items_of_file p)
  own_fine = file_is_fine p (own_scope p) (globals_found p.globals)

  function_among : (is : List FileItem) (s : Sight) (f : Function) → IsPlace p (own_scope p) s → AreFine (own_scope p) is → ItemsTyped p s is → FileNoted p s is → FileResolved p s is → IsAmong (AFunction f) is → FunctionInPlace p f
  function_among [] s f at fine q n r h = absurd h
  function_among (j ∷ js) s f at fine q n r (inl same) = record {
    sight = with_function p s f;
    place = record { names = at.names; texts = at.texts; structs = at.structs; found = at.found };
    typed = subst (ItemTyped p s) same q.0;
    noted = subst (ItemNoted p s) same n.0;
    defined = subst (ItemResolved p s) same r.0;
  }
  function_among (j ∷ js) s f at fine q n r (inr h) = function_among js (behind_item p s j) f (place_behind p (own_scope p) j s fine.0 at) fine.1 q.1 n.1 r.1 h

  global_among : (is : List FileItem) (s : Sight) (d : Declaration) → IsPlace p (own_scope p) s → AreFine (own_scope p) is → ItemsTyped p s is → FileResolved p s is → IsAmong (AGlobal d) is → GlobalInPlace p d
  global_among [] s d at fine q r h = absurd h
  global_among (j ∷ js) s d at fine q r (inl same) = record {
    sight = s;
    place = at;
    itself = subst (IsFine (own_scope p)) same fine.0;
    declared = subst (ItemTyped p s) same q.0;
    defined = subst (ItemResolved p s) same r.0;
  }
  global_among (j ∷ js) s d at fine q r (inr h) = global_among js (behind_item p s j) d (place_behind p (own_scope p) j s fine.0 at) fine.1 q.1 r.1 h

  at_first : IsPlace p (own_scope p) (sight_with p p.structs)
  at_first = record { names = refl; texts = refl; structs = refl; found = tt }

  -- each of an accepted program
  pub function_in_place : IsProgram p → (front fs : List Function) (f : Function) → front ++ f ∷ fs ≡ p.funcs → FunctionInPlace p f
  function_in_place q front fs f is =
      function_among (items_of_file p) (sight_with p p.structs) f at_first own_fine q.typed.items q.noted q.resolved (function_in_file p front fs f is)

  abbrev pub GlobalsInPlace : Type 0
  GlobalsInPlace = (front ds : List Declaration) (d : Declaration) → front ++ d ∷ ds ≡ p.globals → GlobalInPlace p d

  pub globals_in_place : IsProgram p → GlobalsInPlace
  globals_in_place q front ds d is = global_among (items_of_file p) (sight_with p p.structs) d at_first own_fine q.typed.items q.resolved (global_in_file p front ds d is)
