-- Each function of a typed file fits the declarations of its name before it (C99 6.7 p4, 6.9 p5).
use Rattle.std.proofs.Common.{◌≡◌, ℕ, pos, refl, sym, ap, ◌∙◌, subst, List, [], ◌∷◌, ◌++◌, Option, Some, None, Bool, true, false, not, ◌&&◌, cond, nat_eq, slice_get, append_assoc}
use Rattle.std.proofs.lemmas.List.{append-nil}
use Rattle.c_syntax.specs.Ctypes.{PlainType}
use Rattle.c_syntax.specs.Statements.{Statement, Block}
use Rattle.c_syntax.specs.Programs.{StructMember, StructType, EnumConstant, EnumType, Function, TranslationUnit}
use Rattle.c_model.specs.Meaning.{is_definition}
use Rattle.c_model.specs.Library.{is_there}
use Rattle.c_model.specs.Checked.{Checked, Good, Bad, one_part, where_so}
use Rattle.c_syntax.specs.declared.place.Place.{Place}
use Rattle.c_model.specs.ExpressionTyping.{no_name, Sight, with_object, inner, is_void, is_struct, is_scalar, is_unknown, sized, typed_type, known_type}
use Rattle.c_model.specs.DeclarationTyping.{scalar_type, typed_result, typed_global, typed_typedef, typed_member, typed_enumerators}
use Rattle.c_model.specs.StatementTyping.{typed_items}
use Rattle.c_model.specs.UnitTyping.{FileItem, StructHead, Member, AnEnum, ATypedef, AGlobal, AFunction, items_of_file, with_type, with_tag, with_function, with_parameters, same_signature, is_compatible, is_compatible_with_all}
use Rattle.c_model.specs.UnitTyping.{function_name, typed_parameters, fitting_type, typed_type_of_function, typed_heading, typed_body, typed_parts, typed_function}
use Rattle.c_model.specs.UnitTyping.{Progress, new_tag, typed_enum, typed_item_of_file, typed_items_of_file, at_start, with_progress, typed_unit}
use Rattle.c_model.proofs.LabelledFunctions.{gives_function}
use Rattle.c_model.proofs.TypedParts.{Gives, gives_of, gives_one, gives_both, gives_where, gives_self}
use Rattle.c_model.proofs.TypedSoundness.{gives_limited}
use Rattle.c_model.proofs.TypedDeclarations.{anything}

-- functions of which each fits those before it
abbrev pub AreCompatible : List Function → List Function → Type 0
AreCompatible before [] = Unit {0}
AreCompatible before (f ∷ fs) = (is_compatible_with_all before f ≡ true) × AreCompatible (before ++ f ∷ []) fs

one_more : (before fs : List Function) (f : Function) → AreCompatible before fs → is_compatible_with_all (before ++ fs) f ≡ true → AreCompatible before (fs ++ f ∷ [])
one_more before [] f h e = (subst (λ l. is_compatible_with_all l f ≡ true) (append-nil before) e, tt)
one_more before (g ∷ fs) f h e = (h.0, one_more (before ++ g ∷ []) fs f h.1 (subst (λ l. is_compatible_with_all l f ≡ true) (sym (append_assoc before (g ∷ []) fs)) e))

-- ---- a function whose body is typed

fits_with_body : (before : List Function) (g : Function) (b : Option Statement) → is_there b ≡ is_there g.body
    → is_compatible_with_all before (record g { body = b }) ≡ is_compatible_with_all before g
fits_with_body [] g b e = refl
fits_with_body (f ∷ fs) g b e =
    ap (λ d. cond (nat_eq f.name g.name) (same_signature f g && not (is_definition f && d)) true && is_compatible_with_all fs (record g { body = b })) e
    ∙ ap (λ r. is_compatible f g && r) (fits_with_body fs g b e)

body_there : (s : Sight) (t : PlainType) (b : Option Statement) → Gives (λ c. is_there c ≡ is_there b) (typed_body s t b)
body_there s t None = refl
body_there s t (Some (Block at items)) =
    gives_one (λ js. Unit {0}) (λ c. is_there c ≡ true) (typed_items s (record { result = t; breaks = false; loops = false }) items) (λ items. Good (Some (Block at items))) (anything _) (λ js u. refl)
body_there s t (Some _) = refl

abbrev Fits : List Function → Function → Type 0
Fits before g = is_compatible_with_all before g ≡ true

-- a result is of the type as it is written
one_same : (c : Checked PlainType) (k : PlainType → Checked PlainType) → ((t : PlainType) → Gives (λ u. u ≡ t) (k t)) → Gives (λ u. c ≡ Good u) (one_part c k)
one_same (Good t) k h = by (k t) (h t)
  where
    by : (c : Checked PlainType) → Gives (λ u. u ≡ t) c → Gives (λ u. Good t ≡ Good u) c
    by (Good u) e = ap Good (sym e)
    by (Bad f fs) e = tt
one_same (Bad f fs) k h = tt

result_same : (s : Sight) (defined : Bool) (at : Place) (t : PlainType) → Gives (λ u. typed_type s at t ≡ Good u) (typed_result s defined at t)
result_same s defined at t =
    let k = λ (u : PlainType). cond (is_void u) (Good u) (scalar_type s defined at u) in
    gives_limited (λ u. typed_type s at t ≡ Good u) s at (known_type s t) (one_part (typed_type s at t) k) (one_same (typed_type s at t) k (λ u. by u (is_void u)))
  where
    by : (u : PlainType) (b : Bool) → Gives (λ v. v ≡ u) (cond b (Good u) (scalar_type s defined at u))
    by u true = refl
    by u false = gives_where (λ v. v ≡ u) (not (defined && is_struct u && is_unknown (sized s.structs u))) _ _ (λ k. gives_where (λ v. v ≡ u) (is_scalar u) _ _ (λ e. refl))

heading_fits : (s : Sight) (before : List Function) (f : Function) → Gives (Fits before) (typed_heading s before f)
heading_fits s before f =
    let W = typed_type s f.place f.result in
    gives_both (λ n. Unit {0}) (Fits before) (Fits before) (function_name s f) (typed_type_of_function s before f) (λ n g. Good g) (anything (function_name s f))
    (gives_both (λ t. W ≡ Good t) Fitted (Fits before) (typed_result s (is_definition f) f.place f.result) (fitting_type s before f) (λ t g. Good (record g { result = t }))
    (result_same s (is_definition f) f.place f.result)
    (gives_both (λ t. Unit {0} × (W ≡ Good t)) (λ ds. Unit {0}) Fitted W (typed_parameters (inner s) (is_definition f) f.params)
    (λ t ds. let g = record f { result = t; params = ds } in where_so (is_compatible_with_all before g) (no_name f.place) (Good g)) (gives_self (λ t. Unit {0}) W (anything W))
    (anything (typed_parameters (inner s) (is_definition f) f.params))
    (λ t ds e u. gives_where Fitted (is_compatible_with_all before (record f { result = t; params = ds })) (no_name f.place) (Good (record f { result = t; params = ds })) (λ h. (e.1, h))))
    (λ t g e h. let same : g.result ≡ t = good_is (sym h.0 ∙ e) in subst (λ r. is_compatible_with_all before (record g { result = r }) ≡ true) same h.1)) (λ n g u h. h)
  where
    Fitted : Function → Type 0
    Fitted g = (typed_type s f.place f.result ≡ Good g.result) × Fits before g

    good_is : {t u : PlainType} → ◌≡◌ {A = Checked PlainType} (Good t) (Good u) → t ≡ u
    good_is j = cc

parts_fits : (p : TranslationUnit) (s : Sight) (before : List Function) (f : Function) → Gives (Fits before) (typed_parts p s before f)
parts_fits p s before f =
    gives_one (Fits before) (Fits before) (typed_heading s before f) (λ g. one_part (typed_body (with_parameters (inner (with_function p s g)) g.params) g.result g.body) (λ b. Good (record g { body = b })))
    (heading_fits s before f) (λ g h.
    gives_one (λ c. is_there c ≡ is_there g.body) (Fits before) (typed_body (with_parameters (inner (with_function p s g)) g.params) g.result g.body) (λ b. Good (record g { body = b }))
    (body_there (with_parameters (inner (with_function p s g)) g.params) g.result g.body) (λ b e. fits_with_body before g b e ∙ h))

function_fits : (p : TranslationUnit) (s : Sight) (before : List Function) (f : Function) → Gives (Fits before) (typed_function p s before f)
function_fits p s before f = gives_function (Fits before) p s before f (parts_fits p s before f)

-- ---- files

abbrev SoFar : Progress → Type 0
SoFar r = AreCompatible [] r.funcs

member_so_far : (r : Progress) (k : ℕ) (m : StructMember) (ends : Bool) → SoFar r
    → Gives SoFar (elim (slice_get r.sight.structs k) [ None ↦ Good r | Some struct ↦ one_part (typed_member r.sight k struct m ends) (λ s. Good (record r { sight = s })) ])
member_so_far r k m ends h = by (slice_get r.sight.structs k)
  where
    by : (o : Option StructType) → Gives SoFar (elim o [ None ↦ Good r | Some struct ↦ one_part (typed_member r.sight k struct m ends) (λ s. Good (record r { sight = s })) ])
    by None = h
    by (Some struct) = gives_one (λ s. Unit {0}) SoFar (typed_member r.sight k struct m ends) (λ s. Good (record r { sight = s })) (anything _) (λ s u. h)

enum_so_far : (r : Progress) (e : EnumType) → SoFar r → Gives SoFar (typed_enum r e)
enum_so_far r e h =
    gives_one (λ n. Unit {0}) SoFar (new_tag r.tags e.place e.tag) (λ n. one_part (typed_enumerators r.sight (pos 0) e.items) (λ x. Good (with_enum r e x))) (anything (new_tag r.tags e.place e.tag)) (λ n u.
    gives_one (λ x. Unit {0}) SoFar (typed_enumerators r.sight (pos 0) e.items) (λ x. Good (with_enum r e x)) (anything (typed_enumerators r.sight (pos 0) e.items)) (λ x v. h))
  where
    with_enum : Progress → EnumType → Sight × List EnumConstant → Progress
    with_enum r e x = record r {
      sight = record x.0 { enums = with_tag x.0.enums e.tag };
      tags = with_tag r.tags e.tag;
      enums = r.enums ++ record e { items = x.1 } ∷ [];
    }

item_so_far : (p : TranslationUnit) (r : Progress) (i : FileItem) → SoFar r → Gives SoFar (typed_item_of_file p r i)
item_so_far p r (StructHead k s) h = gives_one (λ n. Unit {0}) SoFar (new_tag r.tags s.place s.tag) (λ n. Good (record r { tags = with_tag r.tags s.tag })) (anything (new_tag r.tags s.place s.tag)) (λ n u. h)
item_so_far p r (Member k m ends) h = member_so_far r k m ends h
item_so_far p r (AnEnum e) h = enum_so_far r e h
item_so_far p r (ATypedef d) h =
    gives_one (λ d. Unit {0}) SoFar (typed_typedef r.sight d) (λ d. Good (record r { sight = with_type r.sight d; typedefs = r.typedefs ++ d ∷ [] })) (anything (typed_typedef r.sight d)) (λ d u. h)
item_so_far p r (AGlobal d) h =
    gives_one (λ d. Unit {0}) SoFar (typed_global r.sight d) (λ d. Good (record r { sight = with_object r.sight d; globals = r.globals ++ d ∷ [] })) (anything (typed_global r.sight d)) (λ d u. h)
item_so_far p r (AFunction f) h =
    gives_one (Fits r.funcs) SoFar (typed_function p r.sight r.funcs f) (λ f. Good (record r { sight = with_function p r.sight f; funcs = r.funcs ++ f ∷ [] })) (function_fits p r.sight r.funcs f) (λ g e.
    one_more [] r.funcs g h e)

items_so_far : (p : TranslationUnit) (r : Progress) (is : List FileItem) → SoFar r → Gives SoFar (typed_items_of_file p r is)
items_so_far p r [] h = h
items_so_far p r (i ∷ is) h = gives_one SoFar SoFar (typed_item_of_file p r i) (λ r. typed_items_of_file p r is) (item_so_far p r i h) (λ x k. items_so_far p x is k)

pub unit_compatible : (p q : TranslationUnit) → typed_unit p ≡ Good q → AreCompatible [] q.funcs
unit_compatible p q is = gives_of (λ (q : TranslationUnit). AreCompatible [] q.funcs) (typed_unit p) q
    (gives_one SoFar (λ (q : TranslationUnit). AreCompatible [] q.funcs) (typed_items_of_file p (at_start p) (items_of_file p)) (λ r. Good (with_progress p r)) (items_so_far p (at_start p) (items_of_file p) tt) (λ r h. h)) is
