-- What a typed file declares has the names of what was read.
use Rattle.std.proofs.Common.{◌≡◌, ℕ, suc, sym, ap, ◌∙◌, subst, List, [], ◌∷◌, length}
use Rattle.c_syntax.specs.Statements.{Declaration}
use Rattle.c_syntax.specs.Programs.{Function, TranslationUnit}
use Rattle.c_model.specs.ExpressionTyping.{name_at}
use Rattle.c_model.specs.Formed.{IsName, AreNamed, AreNamedParameters, FunctionNamed, FunctionsNamed, declared_in_body}
use Rattle.c_model.specs.TypedReadings.{FunctionTypedAs}
use Rattle.c_model.specs.TypedFileItems.{FunctionsTypedAs, FileTypedAs}
use Rattle.c_model.proofs.TypedNumbers.{AreKept, parameters_kept, declarations_kept, body_kept}

module _ (names : List (List ℕ)) where
  named : (ds es : List Declaration) → AreKept ds es → AreNamed names ds → AreNamed names es
  named [] [] h n = tt
  named [] (e ∷ es) h n = absurd h
  named (d ∷ ds) [] h n = absurd h
  named (d ∷ ds) (e ∷ es) h n = (subst (λ x. IsName (name_at names x)) (sym h.0.name) n.0, named ds es h.1 n.1)

  named_parameters : (ds es : List Declaration) → AreKept ds es → AreNamedParameters names ds → AreNamedParameters names es
  named_parameters [] [] h n = tt
  named_parameters [] (e ∷ es) h n = absurd h
  named_parameters (d ∷ ds) [] h n = absurd h
  named_parameters (d ∷ ds) (e ∷ es) h n =
      (λ t. subst (λ x. IsName (name_at names x)) (sym h.0.name) (n.0 (sym h.0.named ∙ t)), named_parameters ds es h.1 n.1)

  function_named : (f g : Function) → FunctionTypedAs f g → FunctionNamed names f → FunctionNamed names g
  function_named f g h n = record {
    name = subst (λ x. IsName (name_at names x)) (sym h.name) n.name;
    params = named_parameters f.params g.params (parameters_kept f.params g.params h.params) n.params;
    body = named (declared_in_body f.body) (declared_in_body g.body) (body_kept f.body g.body h.body) n.body;
  }

  functions_named : (fs gs : List Function) → FunctionsTypedAs fs gs → FunctionsNamed names fs → FunctionsNamed names gs
  functions_named [] gs h n = subst (FunctionsNamed names) (sym h) tt
  functions_named (f ∷ fs) gs h n = subst (FunctionsNamed names) (sym h.2) (function_named f h.0 h.3 n.0, functions_named fs h.1 h.4 n.1)

pub typed_functions_named : (p q : TranslationUnit) → FileTypedAs p q → FunctionsNamed p.names p.funcs → FunctionsNamed q.names q.funcs
typed_functions_named p q h n = subst (λ names. FunctionsNamed names q.funcs) (sym h.names) (functions_named p.names p.funcs q.funcs h.functions n)

pub typed_globals_named : (p q : TranslationUnit) → FileTypedAs p q → AreNamed p.names p.globals → AreNamed q.names q.globals
typed_globals_named p q h n =
    subst (λ names. AreNamed names q.globals) (sym h.names) (named p.names p.globals q.globals (declarations_kept p.globals q.globals h.globals) n)

-- as many functions
functions_count : (fs gs : List Function) → FunctionsTypedAs fs gs → length gs ≡ length fs
functions_count [] gs h = ap length h
functions_count (f ∷ fs) gs h = ap length h.2 ∙ ap suc (functions_count fs h.1 h.4)

pub typed_functions_count : (p q : TranslationUnit) → FileTypedAs p q → length q.funcs ≡ length p.funcs
typed_functions_count p q h = functions_count p.funcs q.funcs h.functions
