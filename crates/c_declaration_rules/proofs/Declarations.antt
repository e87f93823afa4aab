-- Declarations: a declarator, and its initialiser, in which its object is in sight.
use Rattle.std.proofs.Common.{◌≡◌, refl, subst, Bool, true, false, Option, Result}
use Rattle.c_syntax.specs.declared.place.Place.{Place}
use Rattle.c_syntax.specs.Ctypes.{PlainType}
use Rattle.c_syntax.specs.Statements.{Declaration, Initialiser}
use Rattle.c_model.specs.Library.{is_there}
use Rattle.c_model.specs.Checked.{Checked, Good, Bad, both_parts, one_part}
use Rattle.c_model.specs.ExpressionTyping.{Sight, declared_here, with_object}
use Rattle.c_model.specs.DeclarationTyping.{is_anything, is_declared_in_file, is_static, own_name, typed_global, typed_maybe_initialiser, typed_object_type, typed_variable}
use Rattle.c_scopes.specs.declared.fault.TypeFault.{TypeFault}
use Rattle.c_scopes.specs.Answers.{Answers}
use Rattle.c_declaration_rules.specs.Initialisers.{allowed}
use Rattle.c_declaration_rules.specs.Declarations.{declaration_typed, initialised}
use Rattle.c_declaration_rules.proofs.Parts.{one_made}

-- ---- declarations in two steps

module _ (s : Sight) (d : Declaration)
  where
    pub variable_is : typed_variable s d ≡ declaration_typed s (is_there (declared_here s d.name)) false d
    variable_is = by (own_name s (is_there (declared_here s d.name)) d.place d.name) (typed_object_type s d)
      where
        by : (m : Checked (Unit {0})) (n : Checked PlainType)
            → one_part {A = PlainType} (both_parts m n (λ n t. Good t)) (λ t. one_part (typed_maybe_initialiser (with_object s (record d { ctype = t })) is_anything t d.init) (λ i. Good (record d { ctype = t; init = i })))
            ≡ one_part {A = Declaration} (both_parts m n (λ n t. Good (record d { ctype = t }))) (initialised s false)
        by (Good u) (Good t) = refl
        by (Good u) (Bad g gs) = refl
        by (Bad f fs) (Good t) = refl
        by (Bad f fs) (Bad g gs) = refl

    pub global_is : typed_global s d ≡ declaration_typed s (is_declared_in_file s d.name) true d
    global_is = by (own_name s (is_declared_in_file s d.name) d.place d.name) (typed_object_type s d)
      where
        by : (m : Checked (Unit {0})) (n : Checked PlainType)
            → one_part {A = PlainType} (both_parts m n (λ n t. Good t)) (λ t.
            one_part (typed_maybe_initialiser (with_object s (record d { ctype = t })) (is_static (with_object s (record d { ctype = t }))) t d.init) (λ i. Good (record d { ctype = t; init = i })))
            ≡ one_part {A = Declaration} (both_parts m n (λ n t. Good (record d { ctype = t }))) (initialised s true)
        by (Good u) (Good t) = refl
        by (Good u) (Bad g gs) = refl
        by (Bad f fs) (Good t) = refl
        by (Bad f fs) (Bad g gs) = refl

-- ---- initialisers, in which the object is in sight

pub init_made : (s t : Sight) (global : Bool) (d : Declaration) (i : Option (Place × Initialiser)) (r : Result (Unit {0}) TypeFault) → t ≡ with_object s d
    → Answers (λ (u : Unit {0}). i) (typed_maybe_initialiser t (allowed t global) d.ctype d.init) r → Answers (λ (u : Unit {0}). record d { init = i }) (initialised s global d) r
init_made s t global d i r sight h =
    one_made (λ i. record d { init = i }) (λ (u : Unit {0}). i) (typed_maybe_initialiser (with_object s d) (allowed (with_object s d) global) d.ctype d.init) r
    (subst (λ z. Answers (λ (u : Unit {0}). i) (typed_maybe_initialiser z (allowed z global) d.ctype d.init) r) sight h)
