-- What typing makes of a function is a typed function.
use Rattle.std.proofs.Common.{◌≡◌, ℕ, refl, sym, ap, ◌∙◌, subst, List, [], ◌∷◌, ◌++◌, Option, Some, None, Bool, true, false, not, ◌&&◌, ◌||◌, cond, nat_eq}
use Rattle.c_syntax.specs.declared.place.Place.{Place}
use Rattle.c_syntax.specs.Ctypes.{PlainType}
use Rattle.c_syntax.specs.Statements.{Declaration, Statement, Block}
use Rattle.c_syntax.specs.Programs.{Function, TranslationUnit}
use Rattle.c_model.specs.Meaning.{is_definition}
use Rattle.c_model.specs.Library.{is_library_name, is_there}
use Rattle.c_model.specs.Checked.{Checked, Good, Bad, one_part}
use Rattle.c_model.specs.ExpressionTyping.{is_unknown, Signature, Sight, name_at, function_called, type_named, with_object, inner, declared_here, is_void, is_scalar, is_struct, sized, limited, typed_type, known_type}
use Rattle.c_model.specs.DeclarationTyping.{own_name, scalar_type, typed_result, typed_parameter_type, known_parameter_type, parameter_name, typed_parameter}
use Rattle.c_model.specs.StatementTyping.{typed_items, typed_labels}
use Rattle.c_model.specs.UnitTyping.{with_function, with_parameter, with_parameters, typed_parameters, typed_heading, typed_body, typed_parts, typed_function}
use Rattle.c_model.specs.TypedTrees.{IsScalar, IsResult, GivesNothing, GivesScalar, IsParameter, AreParameters, around_body, BodyTyped, FunctionTyped, ItemsTyped}
use Rattle.c_model.specs.TypedReadings.{BodyTypedAs}
use Rattle.c_model.specs.PlacedTrees.{IsOffset, ParametersAtOffsets, BodyAtOffsets, FunctionAtOffsets}
use Rattle.c_model.specs.TextTypingLaws.{IsWholeSight}
use Rattle.c_model.proofs.TypedHeadings.{gives_heading}
use Rattle.c_model.proofs.LabelledFunctions.{gives_labelled}
use Rattle.c_model.proofs.ReadStatements.{body_as}
use Rattle.c_model.proofs.TypedLabels.{body_labels}
use Rattle.c_model.proofs.TypedParts.{Gives, gives_of, gives_one, gives_both, gives_where, void_is, scalar_is}
use Rattle.c_model.proofs.TypedSoundness.{gives_limited}
use Rattle.c_model.proofs.TypedDeclarations.{anything, none_there, own_name_is, after_object}
use Rattle.c_model.proofs.TypedStatements.{inner_sight, items_typed}

-- ---- results and parameters

scalar_type_is : (s : Sight) (defined : Bool) (at : Place) (t : PlainType) → Gives IsScalar (scalar_type s defined at t)
scalar_type_is s defined at t =
    gives_where IsScalar (not (defined && is_struct t && is_unknown (sized s.structs t))) _ _ (λ k. gives_where IsScalar (is_scalar t) _ _ (λ e. scalar_is t e))

pub result_is : (s : Sight) (defined : Bool) (at : Place) (t : PlainType) → Gives IsResult (typed_result s defined at t)
result_is s defined at t = gives_limited IsResult s at (known_type s t) _
    (gives_one (λ u. Unit {0}) IsResult (typed_type s at t) _ (anything (typed_type s at t)) (λ u v. by u (is_void u) refl))
  where
    by : (u : PlainType) (b : Bool) → is_void u ≡ b → Gives IsResult (cond b (Good u) (scalar_type s defined at u))
    by u true e = GivesNothing (void_is u e)
    by u false e = scalar_result u (scalar_type s defined at u) (scalar_type_is s defined at u)
      where
        scalar_result : (u : PlainType) (c : Checked PlainType) → Gives IsScalar c → Gives IsResult c
        scalar_result u (Good t) i = GivesScalar i
        scalar_result u (Bad f fs) i = tt

-- what is kept of a parameter, besides its type
record IsParameterThen (s : Sight) (d e : Declaration) : Type 0 where
  is : IsParameter s e
  place : e.place ≡ d.place

parameter_name_is : (s : Sight) (d : Declaration) → Gives (λ u. d.named ≡ true → declared_here s d.name ≡ None) (parameter_name s d)
parameter_name_is s d = by d.named
  where
    by : (b : Bool) → Gives (λ u. b ≡ true → declared_here s d.name ≡ None) (cond b (own_name s (is_there (declared_here s d.name)) d.place d.name) (Good tt))
    by true = own_new (own_name s (is_there (declared_here s d.name)) d.place d.name) (own_name_is s (is_there (declared_here s d.name)) d.place d.name)
      where
        own_new : (c : Checked (Unit {0})) → Gives (λ u. (is_library_name (name_at s.names d.name) ≡ false) × (is_there (declared_here s d.name) ≡ false)) c
            → Gives (λ u. true ≡ true → declared_here s d.name ≡ None) c
        own_new (Good u) h = λ e. none_there (declared_here s d.name) h.1
        own_new (Bad f fs) h = tt
    by false = λ e. absurd cc

parameter_typed : (s : Sight) (defined : Bool) (d : Declaration) → d.init ≡ None → Gives (IsParameterThen s d) (typed_parameter s defined d)
parameter_typed s defined d none =
    gives_both (λ u. d.named ≡ true → declared_here s d.name ≡ None) IsScalar (IsParameterThen s d) (parameter_name s d)
    (limited s d.place (known_parameter_type s d.ctype) (one_part (typed_parameter_type s d.place d.ctype) (scalar_type s defined d.place)))
    (λ n t. Good (record d { ctype = t })) (parameter_name_is s d)
    (gives_limited IsScalar s d.place (known_parameter_type s d.ctype) _
    (gives_one (λ u. Unit {0}) IsScalar (typed_parameter_type s d.place d.ctype) (scalar_type s defined d.place) (anything (typed_parameter_type s d.place d.ctype)) (λ u v. scalar_type_is s defined d.place u)))
    (λ n t v w. record { is = record { new = v; scalar = w; none = none }; place = refl })

-- parameters are the same where other functions are in sight
abbrev among_functions : List Signature → Sight → Sight
among_functions fs s = record s { functions = fs }

among_parameter : (fs : List Signature) (s : Sight) (d : Declaration) → with_parameter (among_functions fs s) d ≡ among_functions fs (with_parameter s d)
among_parameter fs s d = by d.named
  where
    by : (b : Bool) → cond b (with_object (among_functions fs s) d) (among_functions fs s) ≡ among_functions fs (cond b (with_object s d) s)
    by true = refl
    by false = refl

among_parameters : (fs : List Signature) (s : Sight) (ds : List Declaration) → AreParameters s ds → AreParameters (among_functions fs s) ds
among_parameters fs s [] h = tt
among_parameters fs s (d ∷ ds) h = (
  record { new = h.0.new; scalar = h.0.scalar; none = h.0.none },
  subst (λ s. AreParameters s ds) (sym (among_parameter fs s d)) (among_parameters fs (with_parameter s d) ds h.1),
)

-- parameters that are typed, at the places of those that are read
abbrev AreOffsets : List Declaration → Type 0
AreOffsets [] = Unit {0}
AreOffsets (d ∷ ds) = IsOffset d.place.offset × AreOffsets ds

record AreParametersThen (s : Sight) (ds : List Declaration) : Type 0 where
  are : AreParameters s ds
  offsets : AreOffsets ds

parameters_typed : (s : Sight) (defined : Bool) (ds : List Declaration) → ParametersAtOffsets ds → Gives (AreParametersThen s) (typed_parameters s defined ds)
parameters_typed s defined [] o = record { are = tt; offsets = tt }
parameters_typed s defined (d ∷ ds) o =
    gives_one (IsParameterThen s d) (AreParametersThen s) (typed_parameter s defined d) (λ d. one_part (typed_parameters (with_parameter s d) defined ds) (λ ds. Good (d ∷ ds)))
    (parameter_typed s defined d o.1) (λ e v.
    gives_one (AreParametersThen (with_parameter s e)) (AreParametersThen s) (typed_parameters (with_parameter s e) defined ds) (λ ds. Good (e ∷ ds))
    (parameters_typed (with_parameter s e) defined ds o.2)
    (λ es w. record { are = (v.is, w.are); offsets = (ap (λ p. nat_eq p.offset 4294967295) v.place ∙ o.0, w.offsets) }))

-- ---- what is in sight in a body

after_parameter : (s : Sight) → IsWholeSight s → (d : Declaration) → IsOffset d.place.offset → IsWholeSight (with_parameter s d)
after_parameter s i d o = by d.named
  where
    by : (b : Bool) → IsWholeSight (cond b (with_object s d) s)
    by true = after_object s i d o
    by false = i

after_parameters : (s : Sight) → IsWholeSight s → (ds : List Declaration) → AreOffsets ds → IsWholeSight (with_parameters s ds)
after_parameters s i [] o = i
after_parameters s i (d ∷ ds) o = after_parameters (with_parameter s d) (after_parameter s i d o.0) ds o.1

after_last : (x : ℕ) (fs : List Signature) (g : Signature) → ((f : Signature) → function_called x fs ≡ Some f → IsResult f.result) → IsResult g.result
    → (f : Signature) → function_called x (fs ++ g ∷ []) ≡ Some f → IsResult f.result
after_last x [] g h r f e = by (nat_eq x g.name) e
  where
    by : (b : Bool) → cond b (Some g) None ≡ Some f → IsResult f.result
    by true e = let same : g ≡ f = cc in subst (λ (f : Signature). IsResult f.result) same r
    by false e = absurd cc
after_last x (k ∷ fs) g h r f e = by (nat_eq x k.name) h (after_last x fs g) e
  where
    by : (b : Bool) → ((f : Signature) → cond b (Some k) (function_called x fs) ≡ Some f → IsResult f.result)
        → (((f : Signature) → function_called x fs ≡ Some f → IsResult f.result) → IsResult g.result → (f : Signature) → function_called x (fs ++ g ∷ []) ≡ Some f → IsResult f.result)
        → cond b (Some k) (function_called x (fs ++ g ∷ [])) ≡ Some f → IsResult f.result
    by true h next e = h f e
    by false h next e = next h r f e

pub after_function : (p : TranslationUnit) (s : Sight) → IsWholeSight s → (f : Function) → IsResult f.result → IsWholeSight (with_function p s f)
after_function p s i f r = record {
  known = record {
    objects = i.known.objects;
    enumerators = i.known.enumerators;
    results = λ x g e. after_last x s.functions _ (i.known.results x) r g e;
  };
  members = i.members;
}

body_typed : (s : Sight) → IsWholeSight s → (t : PlainType) (b : Option Statement) → BodyAtOffsets b → Gives (BodyTyped s t) (typed_body s t b)
body_typed s i t None o = tt
body_typed s i t (Some (Block at items)) o =
    gives_one (ItemsTyped s (around_body t)) (BodyTyped s t) (typed_items s (around_body t) items) (λ items. Good (Some (Block at items))) (items_typed s i (around_body t) items o) (λ items w. w)
body_typed s i t (Some _) o = tt

-- a body that is typed and has the labels of the one that was read
record IsBody (s : Sight) (t : PlainType) (a b : Option Statement) : Type 0 where
  typed : BodyTyped s t b
  labels : typed_labels b ≡ typed_labels a

whole_body : (s : Sight) → IsWholeSight s → (t : PlainType) (b : Option Statement) → BodyAtOffsets b → Gives (IsBody s t b) (typed_body s t b)
whole_body s i t b o = by (typed_body s t b) (body_typed s i t b o) (body_as s t b)
  where
    by : (c : Checked (Option Statement)) → Gives (BodyTyped s t) c → Gives (BodyTypedAs b) c → Gives (IsBody s t b) c
    by (Good d) h k = record { typed = h; labels = body_labels b d k }
    by (Bad f fs) h k = tt

-- ---- functions

-- a function with a typed heading
record IsHeading (s : Sight) (f g : Function) : Type 0 where
  own_name : is_library_name (name_at s.names g.name) ≡ false
  result : IsResult g.result
  params : AreParametersThen (inner s) g.params
  body : g.body ≡ f.body

heading_typed : (s : Sight) (before : List Function) (f : Function) → FunctionAtOffsets f → Gives (IsHeading s f) (typed_heading s before f)
heading_typed s before f o =
    gives_heading (λ u. (is_library_name (name_at s.names f.name) ≡ false) × (declared ≡ false)) IsResult (AreParametersThen (inner s)) (IsHeading s f) s before f (own_name_is s declared f.place f.name)
    (result_is s (is_definition f) f.place f.result) (parameters_typed (inner s) (is_definition f) f.params o.params) (λ n t ds u v w. record { own_name = u.0; result = v; params = w; body = refl })
  where
    declared : Bool
    declared = is_there (declared_here s f.name) || is_there (type_named f.name s.types)

-- a function, and what is in sight behind it
pub record IsFunctionThen (p : TranslationUnit) (s : Sight) (f : Function) : Type 0 where
  pub typed : FunctionTyped (with_function p s f) f
  pub sight : IsWholeSight (with_function p s f)

parts_typed : (p : TranslationUnit) (s : Sight) → IsWholeSight s → (before : List Function) (f : Function) → FunctionAtOffsets f → typed_labels f.body ≡ Good tt → Gives (IsFunctionThen p s) (typed_parts p s before f)
parts_typed p s i before f o distinct =
    gives_one (IsHeading s f) (IsFunctionThen p s) (typed_heading s before f) _ (heading_typed s before f o) (λ g v.
    let w = after_function p s i g v.result in
    let inside = with_parameters (inner (with_function p s g)) g.params in
    gives_one (IsBody inside g.result g.body) (IsFunctionThen p s) (typed_body inside g.result g.body) (λ b. Good (record g { body = b }))
    (whole_body inside (after_parameters (inner (with_function p s g)) (inner_sight (with_function p s g) w) g.params v.params.offsets) g.result g.body (subst BodyAtOffsets (sym v.body) o.body))
    (λ b h. record {
      typed = record {
        own_name = v.own_name;
        result = v.result;
        params = among_parameters (with_function p s g).functions (inner s) g.params v.params.are;
        body = h.typed;
        labels = h.labels ∙ ap typed_labels v.body ∙ distinct;
      };
      sight = after_function p s i (record g { body = b }) v.result;
    }))

pub function_typed : (p : TranslationUnit) (s : Sight) → IsWholeSight s → (before : List Function) (f : Function) → FunctionAtOffsets f → Gives (IsFunctionThen p s) (typed_function p s before f)
function_typed p s i before f o = gives_labelled (IsFunctionThen p s) p s before f (parts_typed p s i before f o)

-- the law of functions
pub function_is_typed : (p : TranslationUnit) (s : Sight) (before : List Function) (f g : Function) → IsWholeSight s → FunctionAtOffsets f → typed_function p s before f ≡ Good g
    → FunctionTyped (with_function p s g) g
function_is_typed p s before f g i o is = (gives_of (IsFunctionThen p s) (typed_function p s before f) g (function_typed p s i before f o) is).typed
