-- What is known of functions doesn't look at the ranges of their annotations: it is the same without them.
use Rattle.std.proofs.Common.{◌≡◌, ℕ, suc, ◌≤◌, ◌&&◌, cond, nat_eq, List, [], ◌∷◌, ◌++◌, map, length, Option, Some, None, option_map, refl, sym, ap, ◌∙◌}
use Rattle.std.specs.Prelude.{bytes_eq, codes}
use Rattle.c_syntax.specs.Expressions.{Expression}
use Rattle.c_syntax.specs.Ctypes.{PlainType, int_type}
use Rattle.c_syntax.specs.Statements.{Statement, Block}
use Rattle.c_syntax.specs.Programs.{Function}
use Rattle.c_model.specs.Library.{is_there}
use Rattle.c_model.specs.Meaning.{is_definition}
use Rattle.c_model.specs.ExpressionTyping.{Sight, inner, name_at, same_type}
use Rattle.c_model.specs.UnitTyping.{definition_of, first_declaration, number_or, types_of, signature, with_parameters, has_no_parameters, no_main, main_fault}
use Rattle.c_model.specs.TypedTrees.{around_body, BodyTyped, FunctionTyped}
use Rattle.c_model.specs.AnnotationSights.{AnnotationSight}
use Rattle.c_model.specs.AnnotationTyping.{in_body}
use Rattle.c_model.specs.TypedAnnotations.{BodyNoted, FunctionNoted}
use Rattle.c_model.specs.Formed.{AreLoopClauses, AreAsserts, number_of, numbers_of, declared_in_body, AreNamed, FunctionNamed, FunctionsNamed}
use Rattle.c_model.specs.FullExpressions.{EachInBody, EachInFunctions}
use Rattle.c_model.specs.ExpressionGrammar.{most_nested}
use Rattle.c_model.specs.ReadTree.{BodyRead, FunctionRead, FunctionsRead}
use Rattle.c_model.specs.UnrangedPrograms.{unranged_statement, unranged_function}
use Rattle.c_model.proofs.UnrangedLabels.{body_labels}
use Rattle.c_model.proofs.UnrangedTerms.{Alike, alike, itself, beside}
use Rattle.c_model.proofs.UnrangedStatements.{items_typed, items_noted, each_in_items, same_depth, same_declared, items_placed}

-- ---- bodies

body_typed : (s : Sight) (t : PlainType) (b : Option Statement) → BodyTyped s t (option_map unranged_statement b) ≡ BodyTyped s t b
body_typed s t None = refl
body_typed s t (Some (Block at items)) = items_typed s (around_body t) items
body_typed s t (Some _) = refl

body_noted : (s : AnnotationSight) (b : Option Statement) → BodyNoted s (option_map unranged_statement b) ≡ BodyNoted s b
body_noted s None = refl
body_noted s (Some (Block at items)) = items_noted s items
body_noted s (Some _) = refl

body_each : (P : Expression → Type 0) (b : Option Statement) → EachInBody P (option_map unranged_statement b) ≡ EachInBody P b
body_each P None = refl
body_each P (Some (Block at items)) = each_in_items P items
body_each P (Some _) = refl

body_read : (b : Option Statement) → Alike (BodyRead AreAsserts AreLoopClauses (option_map unranged_statement b)) (BodyRead AreAsserts AreLoopClauses b)
body_read None = itself
body_read (Some (Block at items)) = beside (items_placed items) (alike (ap (λ n. n ≤ suc most_nested) (same_depth (Block at items))))
body_read (Some _) = itself

body_declared : (b : Option Statement) → declared_in_body (option_map unranged_statement b) ≡ declared_in_body b
body_declared None = refl
body_declared (Some a) = same_declared a

body_there : (b : Option Statement) → is_there (option_map unranged_statement b) ≡ is_there b
body_there None = refl
body_there (Some a) = refl

-- ---- functions

pub function_typed : (s : Sight) (f : Function) → Alike (FunctionTyped s (unranged_function f)) (FunctionTyped s f)
function_typed s f =
    let body = alike (body_typed (with_parameters (inner s) f.params) f.result f.body) in
    let labels = body_labels f.body in
    record {
      to = λ h. record { own_name = h.own_name; result = h.result; params = h.params; body = body.to h.body; labels = sym labels ∙ h.labels };
      from = λ h. record { own_name = h.own_name; result = h.result; params = h.params; body = body.from h.body; labels = labels ∙ h.labels };
    }

pub function_noted : (s : Sight) (f : Function) → FunctionNoted s (unranged_function f) ≡ FunctionNoted s f
function_noted s f = body_noted (in_body (with_parameters (inner s) f.params)) f.body

function_read : (f : Function) → Alike (FunctionRead AreAsserts AreLoopClauses (unranged_function f)) (FunctionRead AreAsserts AreLoopClauses f)
function_read f = record {
  to = λ h. record { body = (body_read f.body).to h.body };
  from = λ h. record { body = (body_read f.body).from h.body };
}

function_named : (names : List (List ℕ)) (f : Function) → Alike (FunctionNamed names (unranged_function f)) (FunctionNamed names f)
function_named names f =
    let body = alike (ap (AreNamed names) (body_declared f.body)) in
    record {
      to = λ h. record { name = h.name; params = h.params; body = body.to h.body };
      from = λ h. record { name = h.name; params = h.params; body = body.from h.body };
    }

pub same_numbers : (f : Function) → numbers_of (unranged_function f) ≡ numbers_of f
same_numbers f = λ i. f.place.offset ∷ map number_of (f.params ++ body_declared f.body i)

pub same_definition : (f : Function) → is_definition (unranged_function f) ≡ is_definition f
same_definition f = body_there f.body

-- ---- the functions of a file

pub functions_read : (fs : List Function) → Alike (FunctionsRead AreAsserts AreLoopClauses (map unranged_function fs)) (FunctionsRead AreAsserts AreLoopClauses fs)
functions_read [] = itself
functions_read (f ∷ fs) = beside (function_read f) (functions_read fs)

pub functions_named : (names : List (List ℕ)) (fs : List Function) → Alike (FunctionsNamed names (map unranged_function fs)) (FunctionsNamed names fs)
functions_named names [] = itself
functions_named names (f ∷ fs) = beside (function_named names f) (functions_named names fs)

pub functions_each : (P : Expression → Type 0) (fs : List Function) → EachInFunctions P (map unranged_function fs) ≡ EachInFunctions P fs
functions_each P [] = refl
functions_each P (f ∷ fs) = λ i. body_each P f.body i × functions_each P fs i

pub same_length : (fs : List Function) → length (map unranged_function fs) ≡ length fs
same_length [] = refl
same_length (f ∷ fs) = ap suc (same_length fs)

pub same_main : (names : List (List ℕ)) (fs : List Function) → main_fault names (map unranged_function fs) ≡ main_fault names fs
same_main names [] = refl
same_main names (f ∷ fs) = λ i.
    cond (same_definition f i && bytes_eq (name_at names f.name) (codes "main"))
    (cond (same_type f.result int_type && has_no_parameters f.params) None (Some (no_main f.place))) (same_main names fs i)

-- ---- signatures

same_definition_of : (x : ℕ) (fs : List Function) → definition_of x (map unranged_function fs) ≡ definition_of x fs
same_definition_of x [] = refl
same_definition_of x (f ∷ fs) = λ i. cond (same_definition f i && nat_eq f.name x) (Some f.place.offset) (same_definition_of x fs i)

same_first_of : (x : ℕ) (fs : List Function) → first_declaration x (map unranged_function fs) ≡ first_declaration x fs
same_first_of x [] = refl
same_first_of x (f ∷ fs) = λ i. cond (nat_eq f.name x) f.place.offset (same_first_of x fs i)

pub same_signature : (fs : List Function) (f : Function) → signature (map unranged_function fs) (unranged_function f) ≡ signature fs f
same_signature fs f = λ i. record {
  name = f.name;
  decl = number_or (same_definition_of f.name fs i) (same_first_of f.name fs i);
  defined = is_there (same_definition_of f.name fs i);
  params = types_of f.params;
  result = f.result;
}
