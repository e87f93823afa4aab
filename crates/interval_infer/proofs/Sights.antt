-- What is in sight has blocks: those of a scope, and of those that are declared.
use Rattle.std.proofs.Common.{◌≡◌, ℕ, suc, ℤ, pos, Bool, true, false, if◌then◌else◌, nat_eq, nat_lt, cond, List, [], ◌∷◌, ◌++◌, map, Some, inl, inr, refl, ap, subst}
use Rattle.std.proofs.lemmas.Bool.{eq-eqb}
use Rattle.c_syntax.specs.Statements.{Declaration}
use Rattle.c_syntax.specs.Programs.{StringLiteral, StructMember, StructType, EnumConstant, EnumType, Function, TranslationUnit}
use Rattle.c_model.specs.AcceptedPrograms.{IsProgram}
use Rattle.c_model.specs.DeclarationTyping.{with_enumerator}
use Rattle.c_model.specs.ExpressionTyping.{Sight, Entity, AnObject, AnEnumerator, with_object, with_objects}
use Rattle.c_model.specs.FileItems.{ItemNoted, FileNoted}
use Rattle.c_model.specs.Formed.{number_of}
use Rattle.c_model.specs.Meaning.{global_scope}
use Rattle.c_model.specs.State.{Scope, find}
use Rattle.c_model.specs.StaticObjects.{OfGlobal, OfLiteral, with_global, in_text_order, scope_from}
use Rattle.c_model.specs.TypedAnnotations.{FunctionNoted}
use Rattle.c_model.specs.UnitTyping.{FileItem, StructHead, Member, AnEnum, ATypedef, AGlobal, AFunction, member_items, struct_items, offset_of_item, inserted, in_order}
use Rattle.c_model.specs.UnitTyping.{items_of_file, sight_with, with_function, with_parameter, with_parameters, behind_item, with_enumerators, value_typed}
use Rattle.c_model.proofs.NeverStuckItems.{IsAmong, function_in_file}
use Rattle.interval_infer.specs.InSight.{IsFound, EntityFound, AreFound}

-- objects that are declared have blocks
abbrev pub DeclarationsFound : List Declaration → Scope → Type 0
DeclarationsFound [] scope = Unit {0}
DeclarationsFound (d ∷ ds) scope = IsFound scope (number_of d) × DeclarationsFound ds scope

found_end : (entities : List Entity) (b : Entity) (scope : Scope) → AreFound entities scope → EntityFound scope b → AreFound (entities ++ b ∷ []) scope
found_end [] b scope h i = (i, tt)
found_end (o ∷ entities) b scope h i = (h.0, found_end entities b scope h.1 i)

pub found_with : (s : Sight) (d : Declaration) (scope : Scope) → AreFound s.entities scope → IsFound scope (number_of d) → AreFound (with_object s d).entities scope
found_with s d scope h i = found_end s.entities _ scope h i

pub found_with_all : (s : Sight) (ds : List Declaration) (scope : Scope) → AreFound s.entities scope → DeclarationsFound ds scope → AreFound (with_objects s ds).entities scope
found_with_all s [] scope h i = h
found_with_all s (d ∷ ds) scope h i = found_with_all (with_object s d) ds scope (found_with s d scope h i.0) i.1

pub found_parameters : (s : Sight) (ds : List Declaration) (scope : Scope) → AreFound s.entities scope → DeclarationsFound ds scope → AreFound (with_parameters s ds).entities scope
found_parameters s [] scope h i = h
found_parameters s (d ∷ ds) scope h i = found_parameters (with_parameter s d) ds scope (by d.named) i.1
  where
    by : (t : Bool) → AreFound (cond t (with_object s d) s).entities scope
    by true = found_with s d scope h i.0
    by false = h

pub declarations_found-append : (a b : List Declaration) (scope : Scope) → DeclarationsFound (a ++ b) scope → DeclarationsFound a scope × DeclarationsFound b scope
declarations_found-append [] b scope h = (tt, h)
declarations_found-append (d ∷ a) b scope h = let rest = declarations_found-append a b scope h.1 in ((h.0, rest.0), rest.1)

-- ---- births add to the scope

found_more : (x y number : ℕ) (scope : Scope) → IsFound scope y → IsFound ((x, number) ∷ scope) y
found_more x y number scope (k, e) = by (nat_eq x y)
  where
    by : (t : Bool) → (number2 : ℕ) × (cond t (Some number) (find y scope) ≡ Some number2)
    by true = (number, refl)
    by false = (k, e)

pub entities_found_more : (entities : List Entity) (x number : ℕ) (scope : Scope) → AreFound entities scope → AreFound entities ((x, number) ∷ scope)
entities_found_more [] x number scope h = tt
entities_found_more (AnObject b ∷ bs) x number scope h = (found_more x b.decl number scope h.0, entities_found_more bs x number scope h.1)
entities_found_more (AnEnumerator c ∷ bs) x number scope h = (tt, entities_found_more bs x number scope h.1)

pub declarations_found_more : (ds : List Declaration) (x number : ℕ) (scope : Scope) → DeclarationsFound ds scope → DeclarationsFound ds ((x, number) ∷ scope)
declarations_found_more [] x number scope h = tt
declarations_found_more (d ∷ ds) x number scope h = (found_more x (number_of d) number scope h.0, declarations_found_more ds x number scope h.1)

pub newest_found : (x number : ℕ) (scope : Scope) → IsFound ((x, number) ∷ scope) x
newest_found x number scope = (number, ap (λ t. cond t (Some number) (find x scope)) (eq-eqb x x refl))

-- ---- the globals of a program

-- those behind one are found, wherever their blocks begin
abbrev FoundBehind : List Declaration → Type 0
FoundBehind ds = (ls : List StringLiteral) (k : ℕ) → DeclarationsFound ds (scope_from k (in_text_order ds ls))

found_first : (d : Declaration) (ds : List Declaration) → FoundBehind ds → (ls : List StringLiteral) (k : ℕ)
    → DeclarationsFound (d ∷ ds) ((number_of d, k) ∷ scope_from (suc k) (in_text_order ds ls))
found_first d ds h ls k =
    let rest = scope_from (suc k) (in_text_order ds ls) in
    (newest_found (number_of d) k rest, declarations_found_more ds (number_of d) k rest (h ls (suc k)))

found_behind_literals : (d : Declaration) (ds : List Declaration) → FoundBehind ds → (ls : List StringLiteral) (k : ℕ)
    → DeclarationsFound (d ∷ ds) (scope_from k (with_global d (in_text_order ds) ls))
found_behind_literals d ds h [] k = found_first d ds h [] k
found_behind_literals d ds h (l ∷ ls) k = by (found_behind_literals d ds h ls (suc k)) (nat_lt l.place.offset d.place.offset)
  where
    by : DeclarationsFound (d ∷ ds) (scope_from (suc k) (with_global d (in_text_order ds) ls)) → (t : Bool)
        → DeclarationsFound (d ∷ ds) (scope_from k (elim t [ true ↦ OfLiteral l ∷ with_global d (in_text_order ds) ls | false ↦ OfGlobal d ∷ in_text_order ds (l ∷ ls) ]))
    by rest true = rest
    by rest false = found_first d ds h (l ∷ ls) k

globals_from : (ds : List Declaration) → FoundBehind ds
globals_from [] ls k = tt
globals_from (d ∷ ds) ls k = found_behind_literals d ds (globals_from ds) ls k

pub globals_in_scope : (p : TranslationUnit) → DeclarationsFound p.globals (global_scope p)
globals_in_scope p = globals_from p.globals p.texts 1

-- ---- items that declare no object but those of a scope

abbrev pub IsFine : Scope → FileItem → Type 0
IsFine scope (AGlobal d) = IsFound scope (number_of d)
IsFine scope _ = Unit {0}

abbrev pub AreFine : Scope → List FileItem → Type 0
AreFine scope [] = Unit {0}
AreFine scope (i ∷ is) = IsFine scope i × AreFine scope is

fine_inserted : (scope : Scope) (i : FileItem) (js : List FileItem) → IsFine scope i → AreFine scope js → AreFine scope (inserted i js)
fine_inserted scope i [] h g = (h, tt)
fine_inserted scope i (j ∷ js) h g = by (fine_inserted scope i js h g.1) (nat_lt (offset_of_item j) (offset_of_item i))
  where
    by : AreFine scope (inserted i js) → (t : Bool) → AreFine scope (if t then j ∷ inserted i js else i ∷ j ∷ js)
    by rest true = (g.0, rest)
    by rest false = (h, g)

fine_ordered : (scope : Scope) (is : List FileItem) → AreFine scope is → AreFine scope (in_order is)
fine_ordered scope [] h = tt
fine_ordered scope (i ∷ is) h = fine_inserted scope i (in_order is) h.0 (fine_ordered scope is h.1)

fine_append : (scope : Scope) (a b : List FileItem) → AreFine scope a → AreFine scope b → AreFine scope (a ++ b)
fine_append scope [] b h g = g
fine_append scope (i ∷ a) b h g = (h.0, fine_append scope a b h.1 g)

fine_members : (scope : Scope) (k : ℕ) (ms : List StructMember) → AreFine scope (member_items k ms)
fine_members scope k [] = tt
fine_members scope k (m ∷ []) = (tt, tt)
fine_members scope k (m ∷ n ∷ ms) = (tt, fine_members scope k (n ∷ ms))

fine_structs : (scope : Scope) (k : ℕ) (ss : List StructType) → AreFine scope (struct_items k ss)
fine_structs scope k [] = tt
fine_structs scope k (s ∷ ss) = (tt, fine_append scope (member_items k s.members) (struct_items (suc k) ss) (fine_members scope k s.members) (fine_structs scope (suc k) ss))

fine_enums : (scope : Scope) (es : List EnumType) → AreFine scope (map AnEnum es)
fine_enums scope [] = tt
fine_enums scope (e ∷ es) = (tt, fine_enums scope es)

fine_typedefs : (scope : Scope) (ds : List Declaration) → AreFine scope (map ATypedef ds)
fine_typedefs scope [] = tt
fine_typedefs scope (d ∷ ds) = (tt, fine_typedefs scope ds)

fine_functions : (scope : Scope) (fs : List Function) → AreFine scope (map AFunction fs)
fine_functions scope [] = tt
fine_functions scope (f ∷ fs) = (tt, fine_functions scope fs)

fine_globals : (scope : Scope) (ds : List Declaration) → DeclarationsFound ds scope → AreFine scope (map AGlobal ds)
fine_globals scope [] h = tt
fine_globals scope (d ∷ ds) h = (h.0, fine_globals scope ds h.1)

pub file_is_fine : (p : TranslationUnit) (scope : Scope) → DeclarationsFound p.globals scope → AreFine scope (items_of_file p)
file_is_fine p scope found =
    let globals = map AGlobal p.globals in
    let functions = map AFunction p.funcs in
    let typedefs = map ATypedef p.typedefs in
    let enums = map AnEnum p.enums in
    let structs = struct_items 0 p.structs in
    fine_ordered scope (structs ++ (enums ++ (typedefs ++ (globals ++ functions))))
    (fine_append scope structs (enums ++ (typedefs ++ (globals ++ functions))) (fine_structs scope 0 p.structs)
    (fine_append scope enums (typedefs ++ (globals ++ functions)) (fine_enums scope p.enums)
    (fine_append scope typedefs (globals ++ functions) (fine_typedefs scope p.typedefs)
    (fine_append scope globals functions (fine_globals scope p.globals found) (fine_functions scope p.funcs)))))

-- ---- what is in sight in a file has blocks in that scope

found_enumerators : (scope : Scope) (es : List EnumConstant) (s : Sight) (next : ℤ) → AreFound s.entities scope → AreFound (with_enumerators s next es).entities scope
found_enumerators scope [] s next h = h
found_enumerators scope (e ∷ es) s next h =
    found_enumerators scope es (with_enumerator s e.name (value_typed s next e.value)) _
    (found_end s.entities (AnEnumerator (record { name = e.name; value = value_typed s next e.value })) scope h tt)

pub found_behind_item : (p : TranslationUnit) (scope : Scope) (i : FileItem) (s : Sight) → IsFine scope i → AreFound s.entities scope → AreFound (behind_item p s i).entities scope
found_behind_item p scope (StructHead k struct) s f h = h
found_behind_item p scope (Member k m ends) s f h = h
found_behind_item p scope (AnEnum e) s f h = found_enumerators scope e.items s (pos 0) h
found_behind_item p scope (ATypedef d) s f h = h
found_behind_item p scope (AGlobal d) s f h = found_with s d scope h f
found_behind_item p scope (AFunction g) s f h = h

-- a function whose asserts are typed with what is in sight where it stands
pub record FunctionSeen (p : TranslationUnit) (f : Function) : Type 0 where
  pub sight : Sight
  pub found : AreFound sight.entities (global_scope p)
  pub noted : FunctionNoted sight f

module _ (p : TranslationUnit) where
  function_among : (is : List FileItem) (s : Sight) (f : Function) → AreFound s.entities (global_scope p) → AreFine (global_scope p) is → FileNoted p s is → IsAmong (AFunction f) is → FunctionSeen p f
  function_among [] s f found fine n h = absurd h
  function_among (j ∷ js) s f found fine n (inl same) = record { sight = with_function p s f; found = found; noted = subst (ItemNoted p s) same n.0 }
  function_among (j ∷ js) s f found fine n (inr h) = function_among js (behind_item p s j) f (found_behind_item p (global_scope p) j s fine.0 found) fine.1 n.1 h

  -- each of an accepted program
  pub function_seen : IsProgram p → (front fs : List Function) (f : Function) → front ++ f ∷ fs ≡ p.funcs → FunctionSeen p f
  function_seen q front fs f is =
      function_among (items_of_file p) (sight_with p p.structs) f tt (file_is_fine p (global_scope p) (globals_in_scope p)) q.noted (function_in_file p front fs f is)
