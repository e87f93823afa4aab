-- What a file declares is among its items in the order of the text, with what is in sight where it stands.
use Rattle.std.proofs.Common.{◌≡◌, ℤ, pos, Bool, true, false, if◌then◌else◌, nat_lt, List, [], ◌∷◌, ◌++◌, map, ◌⊎◌, inl, inr, refl, sym, subst}
use Rattle.c_syntax.specs.Statements.{Declaration}
use Rattle.c_syntax.specs.Programs.{EnumConstant, Function, TranslationUnit}
use Rattle.c_model.specs.ExpressionTyping.{Sight}
use Rattle.c_model.specs.DeclarationTyping.{with_enumerator}
use Rattle.c_model.specs.UnitTyping.{FileItem, StructHead, Member, AnEnum, ATypedef, AGlobal, AFunction, offset_of_item, struct_items, inserted, in_order, items_of_file}
use Rattle.c_model.specs.UnitTyping.{sight_with, with_function, with_enumerators, value_typed, behind_item}
use Rattle.c_model.specs.TypedTrees.{IsDeclared, FunctionTyped}
use Rattle.c_model.specs.TypedPrograms.{ItemTyped, ItemsTyped, ProgramTyped}
use Rattle.c_model.specs.FileItems.{AreDefined, ItemResolved, FileResolved}
use Rattle.c_model.proofs.NeverStuckExpressions.{Sees}

abbrev pub IsAmong : FileItem → List FileItem → Type 0
IsAmong i [] = ⊥
IsAmong i (j ∷ js) = (j ≡ i) ⊎ IsAmong i js

pub among_left : (i : FileItem) (a b : List FileItem) → IsAmong i a → IsAmong i (a ++ b)
among_left i [] b h = absurd h
among_left i (j ∷ a) b (inl same) = inl same
among_left i (j ∷ a) b (inr h) = inr (among_left i a b h)

pub among_right : (i : FileItem) (a b : List FileItem) → IsAmong i b → IsAmong i (a ++ b)
among_right i [] b h = h
among_right i (j ∷ a) b h = inr (among_right i a b h)

-- one that is put among others in order, and the others
is_inserted : (i : FileItem) (js : List FileItem) → IsAmong i (inserted i js)
is_inserted i [] = inl refl
is_inserted i (j ∷ js) = by (is_inserted i js) (nat_lt (offset_of_item j) (offset_of_item i))
  where
    by : IsAmong i (inserted i js) → (b : Bool) → IsAmong i (if b then j ∷ inserted i js else i ∷ j ∷ js)
    by rest true = inr rest
    by rest false = inl refl

stays_inserted : (i k : FileItem) (js : List FileItem) → IsAmong i js → IsAmong i (inserted k js)
stays_inserted i k [] h = absurd h
stays_inserted i k (j ∷ js) h = by (λ h. stays_inserted i k js h) h (nat_lt (offset_of_item j) (offset_of_item k))
  where
    by : (IsAmong i js → IsAmong i (inserted k js)) → IsAmong i (j ∷ js) → (b : Bool) → IsAmong i (if b then j ∷ inserted k js else k ∷ j ∷ js)
    by rest (inl same) true = inl same
    by rest (inr h) true = inr (rest h)
    by rest h false = inr h

pub among_ordered : (i : FileItem) (is : List FileItem) → IsAmong i is → IsAmong i (in_order is)
among_ordered i [] h = absurd h
among_ordered i (j ∷ is) (inl same) = subst (λ k. IsAmong i (inserted k (in_order is))) (sym same) (is_inserted i (in_order is))
among_ordered i (j ∷ is) (inr h) = stays_inserted i j (in_order is) (among_ordered i is h)

among_globals : (front ds : List Declaration) (d : Declaration) → IsAmong (AGlobal d) (map AGlobal (front ++ d ∷ ds))
among_globals [] ds d = inl refl
among_globals (c ∷ front) ds d = inr (among_globals front ds d)

among_functions : (front fs : List Function) (f : Function) → IsAmong (AFunction f) (map AFunction (front ++ f ∷ fs))
among_functions [] fs f = inl refl
among_functions (g ∷ front) fs f = inr (among_functions front fs f)

-- a global, and a function
pub global_in_file : (p : TranslationUnit) (front ds : List Declaration) (d : Declaration) → front ++ d ∷ ds ≡ p.globals → IsAmong (AGlobal d) (items_of_file p)
global_in_file p front ds d is =
    let own : IsAmong (AGlobal d) (map AGlobal p.globals) = subst (λ l. IsAmong (AGlobal d) (map AGlobal l)) is (among_globals front ds d) in
    let functions = map AFunction p.funcs in
    let typedefs = map ATypedef p.typedefs in
    let enums = map AnEnum p.enums in
    among_ordered (AGlobal d) (struct_items 0 p.structs ++ (enums ++ (typedefs ++ (map AGlobal p.globals ++ functions))))
    (among_right (AGlobal d) (struct_items 0 p.structs) (enums ++ (typedefs ++ (map AGlobal p.globals ++ functions)))
    (among_right (AGlobal d) enums (typedefs ++ (map AGlobal p.globals ++ functions))
    (among_right (AGlobal d) typedefs (map AGlobal p.globals ++ functions) (among_left (AGlobal d) (map AGlobal p.globals) functions own))))

pub function_in_file : (p : TranslationUnit) (front fs : List Function) (f : Function) → front ++ f ∷ fs ≡ p.funcs → IsAmong (AFunction f) (items_of_file p)
function_in_file p front fs f is =
    let own : IsAmong (AFunction f) (map AFunction p.funcs) = subst (λ l. IsAmong (AFunction f) (map AFunction l)) is (among_functions front fs f) in
    let globals = map AGlobal p.globals in
    let typedefs = map ATypedef p.typedefs in
    let enums = map AnEnum p.enums in
    among_ordered (AFunction f) (struct_items 0 p.structs ++ (enums ++ (typedefs ++ (globals ++ map AFunction p.funcs))))
    (among_right (AFunction f) (struct_items 0 p.structs) (enums ++ (typedefs ++ (globals ++ map AFunction p.funcs)))
    (among_right (AFunction f) enums (typedefs ++ (globals ++ map AFunction p.funcs))
    (among_right (AFunction f) typedefs (globals ++ map AFunction p.funcs) (among_right (AFunction f) globals (map AFunction p.funcs) own))))

-- ---- what is in sight where a file's functions and globals stand

-- the names and structs of the program
record IsAtFile (p : TranslationUnit) (s : Sight) : Type 0 where
  names : s.names ≡ p.names
  structs : s.structs ≡ p.structs

at_enumerators : (p : TranslationUnit) (es : List EnumConstant) (s : Sight) (next : ℤ) → IsAtFile p s → IsAtFile p (with_enumerators s next es)
at_enumerators p [] s next h = h
at_enumerators p (e ∷ es) s next h = at_enumerators p es (with_enumerator s e.name (value_typed s next e.value)) _ (record { names = h.names; structs = h.structs })

at_behind : (p : TranslationUnit) (i : FileItem) (s : Sight) → IsAtFile p s → IsAtFile p (behind_item p s i)
at_behind p (StructHead k struct) s h = h
at_behind p (Member k m ends) s h = h
at_behind p (AnEnum e) s h = let g = at_enumerators p e.items s (pos 0) h in record { names = g.names; structs = g.structs }
at_behind p (ATypedef d) s h = record { names = h.names; structs = h.structs }
at_behind p (AGlobal d) s h = record { names = h.names; structs = h.structs }
at_behind p (AFunction g) s h = record { names = h.names; structs = h.structs }

-- a function, and what is in sight where it stands, itself included
pub record FunctionInSight (p : TranslationUnit) (f : Function) : Type 0 where
  pub sight : Sight
  pub sees : Sees p sight
  pub typed : FunctionTyped sight f

-- a global, and what is in sight in front of it
pub record GlobalInSight (p : TranslationUnit) (d : Declaration) : Type 0 where
  pub sight : Sight
  pub sees : Sees p sight
  pub declared : IsDeclared sight d

module _ (p : TranslationUnit) where
  function_among : (is : List FileItem) (s : Sight) (f : Function) → IsAtFile p s → ItemsTyped p s is → FileResolved p s is → IsAmong (AFunction f) is → FunctionInSight p f
  function_among [] s f at q r h = absurd h
  function_among (j ∷ js) s f at q r (inl same) =
      let defined : AreDefined p (with_function p s f).functions = subst (ItemResolved p s) same r.0 in
      record { sight = with_function p s f; sees = record { names = at.names; structs = at.structs; defined = defined }; typed = subst (ItemTyped p s) same q.0 }
  function_among (j ∷ js) s f at q r (inr h) = function_among js (behind_item p s j) f (at_behind p j s at) q.1 r.1 h

  global_among : (is : List FileItem) (s : Sight) (d : Declaration) → IsAtFile p s → ItemsTyped p s is → FileResolved p s is → IsAmong (AGlobal d) is → GlobalInSight p d
  global_among [] s d at q r h = absurd h
  global_among (j ∷ js) s d at q r (inl same) =
      let defined : AreDefined p s.functions = subst (ItemResolved p s) same r.0 in
      record { sight = s; sees = record { names = at.names; structs = at.structs; defined = defined }; declared = subst (ItemTyped p s) same q.0 }
  global_among (j ∷ js) s d at q r (inr h) = global_among js (behind_item p s j) d (at_behind p j s at) q.1 r.1 h

  at_first : IsAtFile p (sight_with p p.structs)
  at_first = record { names = refl; structs = refl }

  module _ (typed : ProgramTyped p) (resolved : FileResolved p (sight_with p p.structs) (items_of_file p)) where
    pub function_in_sight : (front fs : List Function) (f : Function) → front ++ f ∷ fs ≡ p.funcs → FunctionInSight p f
    function_in_sight front fs f is = function_among (items_of_file p) (sight_with p p.structs) f at_first typed.items resolved (function_in_file p front fs f is)

    pub global_in_sight : (front ds : List Declaration) (d : Declaration) → front ++ d ∷ ds ≡ p.globals → GlobalInSight p d
    global_in_sight front ds d is = global_among (items_of_file p) (sight_with p p.structs) d at_first typed.items resolved (global_in_file p front ds d is)
