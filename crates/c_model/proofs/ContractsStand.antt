-- Each contract of a typed file is typed with parameters of its function and globals of the file, also where it moves from a prototype to the definition: that
-- has the prototype's types, and its own numbers by position.
use Rattle.std.proofs.Common.{◌≡◌, ℕ, zero, suc, ℤ, pos, ◌+ℤ◌, ◌⊎◌, inl, inr, refl, sym, ap, ◌∙◌, subst, arith, List, [], ◌∷◌, ◌++◌, map, append_assoc, Option, Some, None, Bool, true, false, not, ◌&&◌, cond, nat_eq, slice_get}
use Rattle.std.specs.List.{AllByRecursion}
use Rattle.std.proofs.lemmas.Bool.Decides.{nat_tests}
use Rattle.c_syntax.specs.Statements.{Declaration, Statement}
use Rattle.c_syntax.specs.Logic.{ClauseBody, Raw, Holds, Value, Behaviors, Annotation}
use Rattle.c_syntax.specs.declared.annotation.Kind.{Kind}
use Rattle.c_syntax.specs.Programs.{EnumConstant, NamedBehavior, FunctionContract, Function, TranslationUnit}
use Rattle.c_model.specs.Library.{is_there}
use Rattle.c_model.specs.Meaning.{is_definition}
use Rattle.c_model.specs.Checked.{Good, one_part}
use Rattle.c_model.specs.ExpressionTyping.{Object, Entity, AnObject, AnEnumerator, Sight, or_else, entity_named, with_object, inner}
use Rattle.c_model.specs.DeclarationTyping.{with_enumerator}
use Rattle.c_model.specs.UnitTyping.{FileItem, StructHead, Member, AnEnum, ATypedef, AGlobal, AFunction, definition_of, with_function, with_parameter, with_parameters, same_signature, is_compatible, is_compatible_with_all, types_of}
use Rattle.c_model.specs.UnitTyping.{value_typed, with_enumerators, behind_item}
use Rattle.c_model.specs.ContractTyping.{sight_of_clause, typed_contract}
use Rattle.c_model.specs.AnnotationTyping.{known_at, numbered_as, defined_parameters, numbers_of_parameters, contract_sight, noted_contract, noted_in, noted_function}
use Rattle.c_model.specs.AnnotationTyping.{noted_functions, contract_named, contract_moved, with_contract, with_contracts}
use Rattle.c_model.specs.TextOrder.{globals_among, functions_among}
use Rattle.c_model.specs.Formed.{IsShortReading}
use Rattle.c_model.specs.FormedContracts.{AreClausesOf, BehaviorsFormed, MaybeFormed, ContractsFormed}
use Rattle.c_model.specs.TypedPredicates.{IsRead, AreRead}
use Rattle.c_model.specs.TypedAnnotations.{ContractTyped, BehaviorsRead, IsOwn, OfFunction, OfFile, ContractStands, ContractNoted, ContractsNoted}
use Rattle.c_model.proofs.TypedParts.{Gives, gives_one, and_true}
use Rattle.c_model.proofs.TypedDeclarations.{anything, after_one}
use Rattle.c_model.proofs.TypedContracts.{contract_well}
use Rattle.c_model.proofs.CompatibleFunctions.{AreCompatible}
use Rattle.c_model.proofs.SignaturesInSight.{SameTypes, first_declared, first_behind}
use Rattle.c_model.proofs.NotedFiles.{HaveOtherBodies, same_name, same_definition}

-- ---- rows

each_at : {A : Type 0} (P : A → Type 0) (xs : List A) → ((n : ℕ) (x : A) → slice_get xs n ≡ Some x → P x) → AllByRecursion P xs
each_at P [] h = tt
each_at P (x ∷ xs) h = (h zero x refl, each_at P xs (λ n y e. h (suc n) y e))

abbrev IsOneOf : Function → List Function → Type 0
IsOneOf f [] = ⊥
IsOneOf f (g ∷ gs) = (g ≡ f) ⊎ IsOneOf f gs

one_at : (P : Function → Type 0) (fs : List Function) → AllByRecursion P fs → (f : Function) → IsOneOf f fs → P f
one_at P [] h f m = absurd m
one_at P (g ∷ gs) h f (inl e) = subst P e h.0
one_at P (g ∷ gs) h f (inr m) = one_at P gs h.1 f m

-- ---- objects in sight

abbrev pub object_of : Declaration → Object
object_of d = record { name = d.name; decl = d.place.offset; ctype = d.ctype }

module _ (P : Object → Type 0) where
  -- each object that a name stands for is so
  abbrev pub EachObject : Sight → Type 0
  EachObject s = (x : ℕ) (b : Object) → entity_named x s.entities ≡ Some (AnObject b) → P b

  abbrev IsSo : Entity → Type 0
  IsSo (AnObject b) = P b
  IsSo (AnEnumerator c) = Unit {0}

  each_entity : (s : Sight) → EachObject s → (x : ℕ) (r : Entity) → entity_named x s.entities ≡ Some r → IsSo r
  each_entity s h x (AnObject b) e = h x b e
  each_entity s h x (AnEnumerator c) e = tt

  object_behind : (s : Sight) (d : Declaration) → EachObject s → P (object_of d) → EachObject (with_object s d)
  object_behind s d h p x b e = after_one IsSo x s.entities (AnObject (object_of d)) (each_entity s h x) p (AnObject b) e

  enumerator_behind : (s : Sight) (y : ℕ) (z : ℤ) → EachObject s → EachObject (with_enumerator s y z)
  enumerator_behind s y z h x b e = after_one IsSo x s.entities (AnEnumerator (record { name = y; value = z })) (each_entity s h x) tt (AnObject b) e

  enumerators_behind : (s : Sight) (next : ℤ) (es : List EnumConstant) → EachObject s → EachObject (with_enumerators s next es)
  enumerators_behind s next [] h = h
  enumerators_behind s next (e ∷ es) h =
      let z = value_typed s next e.value in enumerators_behind (with_enumerator s e.name z) (z +ℤ pos 1) es (enumerator_behind s e.name z h)

  parameters_behind : (s : Sight) (ds : List Declaration) → EachObject s → AllByRecursion (λ (d : Declaration). P (object_of d)) ds → EachObject (with_parameters s ds)
  parameters_behind s [] h a = h
  parameters_behind s (d ∷ ds) h a = parameters_behind (with_parameter s d) ds (by d.named) a.1
    where
      by : (b : Bool) → EachObject (cond b (with_object s d) s)
      by true = object_behind s d h a.0
      by false = h

-- ---- a file's objects are its globals

pub record IsGlobal (q : TranslationUnit) (b : Object) : Type 0 where
  pub number : ℕ
  pub declaration : Declaration
  pub is : slice_get q.globals number ≡ Some declaration
  pub decl : b.decl ≡ declaration.place.offset
  pub ctype : b.ctype ≡ declaration.ctype

abbrev pub SeesGlobals : TranslationUnit → Sight → Type 0
SeesGlobals q s = EachObject (IsGlobal q) s

abbrev pub AreGlobals : TranslationUnit → List Declaration → Type 0
AreGlobals q ds = AllByRecursion (λ (d : Declaration). IsGlobal q (object_of d)) ds

pub own_globals : (q : TranslationUnit) → AreGlobals q q.globals
own_globals q = each_at (λ (d : Declaration). IsGlobal q (object_of d)) q.globals (λ n d e. record { number = n; declaration = d; is = e; decl = refl; ctype = refl })

-- ---- contracts as they are read

clause_read : (b : ClauseBody) → IsShortReading b → IsRead b
clause_read (Raw f) h = h.numbered
clause_read (Holds p) h = absurd h
clause_read (Value t) h = absurd h
clause_read (Behaviors names) h = absurd h

clauses_read : (IsKind : Kind → Type 0) (xs : List Annotation) → AreClausesOf IsKind IsShortReading xs → AreRead xs
clauses_read IsKind [] h = tt
clauses_read IsKind (a ∷ rest) h = (clause_read a.body h.0.body, clauses_read IsKind rest h.1)

behaviors_read : (bs : List NamedBehavior) → BehaviorsFormed IsShortReading bs → BehaviorsRead bs
behaviors_read [] h = tt
behaviors_read (b ∷ bs) h = (clauses_read _ b.clauses h.0, behaviors_read bs h.1)

-- ---- contracts where they stand in the text

-- a contract that is typed before a function, where the objects in sight are globals
pub record IsBefore (q : TranslationUnit) (f : Function) (c : FunctionContract) : Type 0 where
  pub seen : Sight
  pub globals : SeesGlobals q seen
  pub typed : ContractTyped (contract_sight q.funcs seen f) c

abbrev pub MaybeBefore : TranslationUnit → Function → Option FunctionContract → Type 0
MaybeBefore q f None = Unit {0}
MaybeBefore q f (Some c) = IsBefore q f c

abbrev pub AreBefore : TranslationUnit → List Function → Type 0
AreBefore q fs = AllByRecursion (λ (f : Function). MaybeBefore q f f.contract) fs

module _ (q : TranslationUnit) where
  contract_before : (s : Sight) (f : Function) → SeesGlobals q s → (c : Option FunctionContract) → MaybeFormed IsShortReading c → Gives (MaybeBefore q f) (noted_contract q.funcs s f c)
  contract_before s f g None h = tt
  contract_before s f g (Some c) h =
      gives_one (ContractTyped (contract_sight q.funcs (known_at c.place s) f)) (MaybeBefore q f) (typed_contract (contract_sight q.funcs (known_at c.place s) f) c) (λ c. Good (Some c))
      (contract_well (contract_sight q.funcs (known_at c.place s) f) c (clauses_read _ c.clauses h.clauses) (behaviors_read c.behaviors h.behaviors))
      (λ d w. record { seen = known_at c.place s; globals = g; typed = w })

  function_before : (s : Sight) (f : Function) → SeesGlobals q s → MaybeFormed IsShortReading f.contract → Gives (λ (g : Function). MaybeBefore q g g.contract) (noted_function q.funcs s f)
  function_before s f g h =
      gives_one (MaybeBefore q f) (λ (g : Function). MaybeBefore q g g.contract) (noted_contract q.funcs s f f.contract) _ (contract_before s f g f.contract h) (λ c v.
      gives_one (λ (b : Option Statement). Unit {0}) (λ (g : Function). MaybeBefore q g g.contract) (noted_in (known_at f.place s) f) (λ b. Good (record f { contract = c; body = b })) (anything (noted_in (known_at f.place s) f))
      (λ b u. by c b v))
    where
      by : (c : Option FunctionContract) (b : Option Statement) → MaybeBefore q f c → MaybeBefore q (record f { contract = c; body = b }) c
      by None b v = tt
      by (Some c) b v = record { seen = v.seen; globals = v.globals; typed = v.typed }

  pub contracts_before : (s : Sight) (is : List FileItem) → SeesGlobals q s → AreGlobals q (globals_among is) → ContractsFormed IsShortReading (functions_among is) → Gives (AreBefore q) (noted_functions q s is)
  contracts_before s [] g a h = tt
  contracts_before s (AFunction f ∷ is) g a h =
      gives_one (λ (f : Function). MaybeBefore q f f.contract) (AreBefore q) (noted_function q.funcs (with_function q s f) f) (λ g. one_part (noted_functions q (behind_item q s (AFunction f)) is) (λ fs. Good (g ∷ fs)))
      (function_before (with_function q s f) f g h.0) (λ x v.
      gives_one (AreBefore q) (AreBefore q) (noted_functions q (behind_item q s (AFunction f)) is) (λ fs. Good (x ∷ fs)) (contracts_before (behind_item q s (AFunction f)) is g a h.1) (λ fs w. (v, w)))
  contracts_before s (StructHead n x ∷ is) g a h = contracts_before s is g a h
  contracts_before s (Member n m ends ∷ is) g a h = contracts_before s is g a h
  contracts_before s (AnEnum e ∷ is) g a h = contracts_before (behind_item q s (AnEnum e)) is (enumerators_behind (IsGlobal q) s (pos 0) e.items g) a h
  contracts_before s (ATypedef d ∷ is) g a h = contracts_before (behind_item q s (ATypedef d)) is g a h
  contracts_before s (AGlobal d ∷ is) g a h = contracts_before (behind_item q s (AGlobal d)) is (object_behind (IsGlobal q) s d g a.0) a.1 h

-- ---- the declarations of one name

front_fits : (a b : List Function) (f : Function) → is_compatible_with_all (a ++ b) f ≡ true → is_compatible_with_all a f ≡ true
front_fits [] b f e = refl
front_fits (g ∷ a) b f e =
    let parts = and_true (is_compatible g f) (is_compatible_with_all (a ++ b) f) e in
    ap (λ t. t && is_compatible_with_all a f) parts.0 ∙ front_fits a b f parts.1

last_fits : (a : List Function) (g f : Function) → is_compatible_with_all (a ++ g ∷ []) f ≡ true → is_compatible g f ≡ true
last_fits [] g f e = (and_true (is_compatible g f) true e).0
last_fits (h ∷ a) g f e = last_fits a g f (and_true (is_compatible h f) (is_compatible_with_all (a ++ g ∷ []) f) e).1

fits_before : (before fs : List Function) → AreCompatible before fs → (f : Function) → IsOneOf f fs → is_compatible_with_all before f ≡ true
fits_before before [] h f m = absurd m
fits_before before (g ∷ gs) h f (inl e) = subst (λ g. is_compatible_with_all before g ≡ true) e h.0
fits_before before (g ∷ gs) h f (inr m) = front_fits before (g ∷ []) f (fits_before (before ++ g ∷ []) gs h.1 f m)

-- one that stands behind another fits it
fits_behind : (before : List Function) (g : Function) (gs : List Function) → AreCompatible (before ++ g ∷ []) gs → (f : Function) → IsOneOf f gs → is_compatible g f ≡ true
fits_behind before g gs h f m = last_fits before g f (fits_before (before ++ g ∷ []) gs h f m)

-- two definitions of a name don't
one_definition : (g f : Function) → g.name ≡ f.name → is_definition g ≡ true → is_definition f ≡ true → is_compatible g f ≡ true → ⊥
one_definition g f n y z c =
    let same : nat_eq g.name f.name ≡ true = grind (arith, nat_tests) in
    let parts = and_true (same_signature g f) (not (is_definition g && is_definition f)) (ap (λ t. cond t (same_signature g f && not (is_definition g && is_definition f)) true) (sym same) ∙ c) in
    let both : not (is_definition g && is_definition f) ≡ false = ap (λ t. not (t && is_definition f)) y ∙ ap not z in
    let no : true ≡ false = sym parts.1 ∙ both in
    absurd cc

-- the types of each declaration of a name are those of the first
first_types : (x : ℕ) (before fs : List Function) (h : Function) → AreCompatible before fs → first_declared x (before ++ fs) ≡ Some h → (f : Function) → IsOneOf f fs → f.name ≡ x → SameTypes h f
first_types x before [] h c e f m n = absurd m
first_types x before (g ∷ gs) h c e f (inl s) n = subst (SameTypes h) s (first_behind x before g h gs (ap (λ (g : Function). g.name) s ∙ n) e c.0)
first_types x before (g ∷ gs) h c e f (inr m) n = first_types x (before ++ g ∷ []) gs h c.1 (ap (first_declared x) (append_assoc before (g ∷ []) gs) ∙ e) f m n

record HasFirst (x : ℕ) (fs : List Function) : Type 0 where
  first : Function
  is : first_declared x fs ≡ Some first

has_first : (x : ℕ) (fs : List Function) (f : Function) → IsOneOf f fs → f.name ≡ x → HasFirst x fs
has_first x [] f m n = absurd m
has_first x (g ∷ gs) f m n = by (λ k. has_first x gs f k n) (nat_eq g.name x) refl m
  where
    by : (IsOneOf f gs → HasFirst x gs) → (t : Bool) → nat_eq g.name x ≡ t → IsOneOf f (g ∷ gs) → HasFirst x (g ∷ gs)
    by rest true y m = record { first = g; is = ap (λ t. cond t (Some g) (first_declared x gs)) y }
    by rest false y (inl e) = let same : g.name ≡ x = ap (λ (g : Function). g.name) e ∙ n in let here : nat_eq g.name x ≡ true = grind (arith, nat_tests) in let no : true ≡ false = sym here ∙ y in absurd cc
    by rest false y (inr k) = let h = rest k in record { first = h.first; is = ap (λ t. cond t (Some g) (first_declared x gs)) y ∙ h.is }

same_types_of : (fs : List Function) → AreCompatible [] fs → (f g : Function) → IsOneOf f fs → IsOneOf g fs → g.name ≡ f.name → SameTypes g f
same_types_of fs c f g m k n =
    let h = has_first f.name fs f m refl in
    let a = first_types f.name [] fs h.first c h.is f m refl in
    let b = first_types f.name [] fs h.first c h.is g k n in
    record { params = sym b.params ∙ a.params; result = sym b.result ∙ a.result }

-- ---- the parameters of the definition of a name

defined_here : (x : ℕ) (before fs : List Function) (ds : List Declaration) → AreCompatible before fs → (f : Function) → IsOneOf f fs → is_definition f ≡ true → f.name ≡ x → defined_parameters x fs ds ≡ f.params
defined_here x before [] ds c f m d n = absurd m
defined_here x before (g ∷ gs) ds c f (inl e) d n =
    let y : is_definition g ≡ true = ap (λ (g : Function). is_definition g) e ∙ d in
    let same : g.name ≡ x = ap (λ (g : Function). g.name) e ∙ n in
    let here : nat_eq g.name x ≡ true = grind (arith, nat_tests) in
    ap (λ t. cond (t && nat_eq g.name x) g.params (defined_parameters x gs ds)) y ∙ ap (λ t. cond t g.params (defined_parameters x gs ds)) here ∙ ap (λ (g : Function). g.params) e
defined_here x before (g ∷ gs) ds c f (inr m) d n = by (defined_here x (before ++ g ∷ []) gs ds c.1 f m d n) (is_definition g) (nat_eq g.name x) refl refl
  where
    by : defined_parameters x gs ds ≡ f.params → (a b : Bool) → is_definition g ≡ a → nat_eq g.name x ≡ b → cond (a && b) g.params (defined_parameters x gs ds) ≡ f.params
    by rest true true y z = let same : g.name ≡ f.name = grind (arith, nat_tests) in absurd (one_definition g f same y d (fits_behind before g gs c.1 f m))
    by rest true false y z = rest
    by rest false b y z = rest

defined_nowhere : (x : ℕ) (fs : List Function) (ds : List Declaration) → definition_of x fs ≡ None → defined_parameters x fs ds ≡ ds
defined_nowhere x [] ds e = refl
defined_nowhere x (f ∷ fs) ds e = by (λ k. defined_nowhere x fs ds k) (is_definition f && nat_eq f.name x) e
  where
    by : (definition_of x fs ≡ None → defined_parameters x fs ds ≡ ds) → (t : Bool) → cond t (Some f.place.offset) (definition_of x fs) ≡ None → cond t f.params (defined_parameters x fs ds) ≡ ds
    by rest true k = absurd cc
    by rest false k = rest k

same_defined : (x : ℕ) (fs gs : List Function) (ds : List Declaration) → HaveOtherBodies fs gs → defined_parameters x gs ds ≡ defined_parameters x fs ds
same_defined x [] [] ds h = refl
same_defined x [] (g ∷ gs) ds h = absurd h
same_defined x (f ∷ fs) [] ds h = absurd h
same_defined x (f ∷ fs) (g ∷ gs) ds h =
    ap (λ d. cond (d && nat_eq g.name x) g.params (defined_parameters x gs ds)) (same_definition f g h.0)
    ∙ ap (λ n. cond (is_definition f && nat_eq n x) g.params (defined_parameters x gs ds)) (same_name f g h.0)
    ∙ ap (λ ps. cond (is_definition f && nat_eq f.name x) ps (defined_parameters x gs ds)) (ap (λ (x : Function). x.params) h.0.is)
    ∙ ap (cond (is_definition f && nat_eq f.name x) f.params) (same_defined x fs gs ds h.1)

-- ---- parameters with the numbers of others

numbers_of_others : (ds es : List Declaration) → types_of ds ≡ types_of es → numbers_of_parameters (numbered_as ds es) ≡ numbers_of_parameters es
numbers_of_others [] [] t = refl
numbers_of_others [] (e ∷ es) t = absurd cc
numbers_of_others (d ∷ ds) [] t = absurd cc
numbers_of_others (d ∷ ds) (e ∷ es) t = let rest : types_of ds ≡ types_of es = cc in ap (λ ns. e.place.offset ∷ ns) (numbers_of_others ds es rest)

-- a declaration under any name
abbrev UnderNames : (Object → Type 0) → Declaration → Type 0
UnderNames P e = (x : ℕ) → P (record { name = x; decl = e.place.offset; ctype = e.ctype })

objects_of_others : (P : Object → Type 0) (ds es : List Declaration) → types_of ds ≡ types_of es → AllByRecursion (UnderNames P) es → AllByRecursion (λ (d : Declaration). P (object_of d)) (numbered_as ds es)
objects_of_others P [] [] t h = tt
objects_of_others P [] (e ∷ es) t h = absurd cc
objects_of_others P (d ∷ ds) [] t h = absurd cc
objects_of_others P (d ∷ ds) (e ∷ es) t h =
    let same : e.ctype ≡ d.ctype = cc in
    let rest : types_of ds ≡ types_of es = cc in
    (subst (λ u. P (record { name = d.name; decl = e.place.offset; ctype = u })) same (h.0 d.name), objects_of_others P ds es rest h.1)

-- ---- contracts that move

abbrev MaybeStands : TranslationUnit → Function → Option FunctionContract → Type 0
MaybeStands p f None = Unit {0}
MaybeStands p f (Some c) = ContractStands p f c

either_stands : (p : TranslationUnit) (f : Function) (a b : Option FunctionContract) → MaybeStands p f a → MaybeStands p f b → MaybeStands p f (or_else a b)
either_stands p f None b h k = k
either_stands p f (Some c) b h k = h

contract_noted : (p : TranslationUnit) (f : Function) (o : Option FunctionContract) → MaybeStands p f o → (c : FunctionContract) → o ≡ Some c → ContractStands p f c
contract_noted p f None h c e = absurd cc
contract_noted p f (Some d) h c e = let same : d ≡ c = cc in subst (ContractStands p f) same h

-- with these functions in the place of the file's
module _ (q : TranslationUnit) (all : List Function) where
  abbrev file : TranslationUnit
  file = record q { funcs = with_contracts all }

  -- a contract that stands before g is one of f, whose parameters it has, and whose types
  stands : (f g : Function) (c : FunctionContract) → IsBefore q g c → defined_parameters g.name q.funcs g.params ≡ f.params → types_of g.params ≡ types_of f.params → g.result ≡ f.result
      → ContractStands file (with_contract all f) c
  stands f g c h d t r = record {
    seen = with_parameters (inner h.seen) (numbered_as g.params others);
    owned = parameters_behind Own (inner h.seen) (numbered_as g.params others) (λ x b e. of_file b (h.globals x b e)) (objects_of_others Own g.params others types (subst (AllByRecursion (UnderNames Own)) (sym d) parameters));
    typed = subst (λ u. ContractTyped (sight_of_clause (with_parameters (inner h.seen) (numbered_as g.params others)) (numbers_of_parameters f.params) u) c) r
        (subst (λ ns. ContractTyped (sight_of_clause (with_parameters (inner h.seen) (numbered_as g.params others)) ns g.result) c) (numbers_of_others g.params others types ∙ ap numbers_of_parameters d) h.typed);
  }
    where
      others : List Declaration
      others = defined_parameters g.name q.funcs g.params

      types : types_of g.params ≡ types_of others
      types = t ∙ ap types_of (sym d)

      Own : Object → Type 0
      Own b = IsOwn file (with_contract all f) b

      of_file : (b : Object) → IsGlobal q b → Own b
      of_file b h = OfFile h.number h.declaration h.is h.decl h.ctype

      parameters : AllByRecursion (UnderNames Own) f.params
      parameters = each_at (UnderNames Own) f.params (λ n d e x. OfFunction n d e refl refl)

  maybe_stands : (f g : Function) → defined_parameters g.name q.funcs g.params ≡ f.params → types_of g.params ≡ types_of f.params → g.result ≡ f.result → (c : Option FunctionContract) → MaybeBefore q g c → MaybeStands file (with_contract all f) c
  maybe_stands f g d t r None h = tt
  maybe_stands f g d t r (Some c) h = stands f g c h d t r

  module _ (bodies : HaveOtherBodies q.funcs all) (compatible : AreCompatible [] all) (before : AreBefore q all) where
    before_one : (g : Function) → IsOneOf g all → MaybeBefore q g g.contract
    before_one g m = one_at (λ (g : Function). MaybeBefore q g g.contract) all before g m

    -- the contract of a definition's name is its own
    named : (f : Function) → IsOneOf f all → is_definition f ≡ true → (gs : List Function) → ((g : Function) → IsOneOf g gs → IsOneOf g all) → MaybeStands file (with_contract all f) (contract_named f.name gs)
    named f m d [] among = tt
    named f m d (g ∷ gs) among =
        either_stands file (with_contract all f) (cond (nat_eq g.name f.name) g.contract None) (contract_named f.name gs) (by (nat_eq g.name f.name) refl) (named f m d gs (λ h k. among h (inr k)))
      where
        here : IsOneOf g all
        here = among g (inl refl)

        by : (t : Bool) → nat_eq g.name f.name ≡ t → MaybeStands file (with_contract all f) (cond t g.contract None)
        by true y =
            let same : g.name ≡ f.name = grind (arith, nat_tests) in
            let types = same_types_of all compatible f g m here same in
            maybe_stands f g (sym (same_defined g.name q.funcs all g.params bodies) ∙ defined_here g.name [] all g.params compatible f m d (sym same)) types.params types.result g.contract (before_one g here)
        by false y = tt

    moved : (f : Function) → IsOneOf f all → MaybeStands file (with_contract all f) (contract_moved all f)
    moved f m = by (definition_of f.name all) refl
      where
        defined : (t : Bool) → is_definition f ≡ t → MaybeStands file (with_contract all f) (cond t (contract_named f.name all) None)
        defined true d = named f m d all (λ g k. k)
        defined false d = tt

        by : (o : Option ℕ) → definition_of f.name all ≡ o → MaybeStands file (with_contract all f) (cond (is_there o) (cond (is_definition f) (contract_named f.name all) None) f.contract)
        by None e = maybe_stands f f (sym (same_defined f.name q.funcs all f.params bodies) ∙ defined_nowhere f.name all f.params e) refl refl f.contract (before_one f m)
        by (Some n) e = defined (is_definition f) refl

    each_moved : (fs : List Function) → ((f : Function) → IsOneOf f fs → IsOneOf f all) → AllByRecursion (ContractNoted file) (map (with_contract all) fs)
    each_moved [] among = tt
    each_moved (f ∷ fs) among = (
      contract_noted file (with_contract all f) (contract_moved all f) (moved f (among f (inl refl))),
      each_moved fs (λ g k. among g (inr k)),
    )

    pub contracts_noted : ContractsNoted file
    contracts_noted = each_moved all (λ f k. k)
