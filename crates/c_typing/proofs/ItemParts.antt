-- Items with what is in sight behind them.
use Rattle.std.proofs.Common.{◌≡◌, ℕ, pos, List, sym, ap, ◌∙◌, subst, Option, Result, Ok, Err}
use Rattle.std.specs.Prelude.{OnOk}
use Rattle.c_syntax.specs.Statements.{Declaration}
use Rattle.c_syntax.specs.Programs.{EnumConstant, Function, StructType}
use Rattle.c_model.specs.Checked.{Good, one_part}
use Rattle.c_model.specs.ExpressionTyping.{Sight, with_object}
use Rattle.c_model.specs.DeclarationTyping.{typed_enumerators, typed_global, typed_typedef}
use Rattle.c_model.specs.UnitTyping.{with_type}
use Rattle.c_model.proofs.TypedBelow.{enumerators_structs}
use Rattle.c_model.proofs.TypedParts.{Gives}
use Rattle.c_scopes.specs.declared.fault.TypeFault.{TypeFault}
use Rattle.c_scopes.specs.Answers.{Answers}
use Rattle.c_scopes.proofs.Least.{one_refused}
use Rattle.c_declaration_rules.specs.declared.open_struct.OpenStructs.{OpenStructs}
use Rattle.c_declaration_rules.specs.OpenStructs.{IsOpen}
use Rattle.c_function_rules.specs.declared.heading.Callee.{Callee}
use Rattle.c_function_rules.specs.Functions.{function_in_turn, names_behind, with_function_by}
use Rattle.c_typing.specs.Files.{Course, defined_in_turn, global_in_turn, typedef_in_turn}

-- structs stay as they are where enumerators are typed
pub enumerators_keep : (s t : Sight) (es fs : List EnumConstant) → typed_enumerators s (pos 0) es ≡ Good (t, fs) → t.structs ≡ s.structs
enumerators_keep s t es fs e = subst (Gives (λ (x : Sight × List EnumConstant). x.0.structs ≡ s.structs)) e (enumerators_structs s (pos 0) es)

-- what is kept of structs stays true where they stay as they are
pub still_open : {E : Type 0} (q : Result (Unit {0}) E) (before structs : List StructType) (last : OpenStructs) → OnOk q (structs ≡ before) → IsOpen before last → OnOk q (IsOpen structs last)
still_open (Ok u) before structs last same opened = subst (λ ss. IsOpen ss last) (sym same) opened
still_open (Err e) before structs last same opened = tt

module _ (c c' : Course)
  where
    abbrev with_typedef : Declaration → Course × Declaration
    with_typedef d = (record c { sight = with_type c.sight d }, d)

    pub typedef_refused : (d d' : Declaration) (e : TypeFault) → Answers (λ (u : Unit {0}). d') (typed_typedef c.sight d) (Err e) → Answers (λ (u : Unit {0}). (c', d')) (typedef_in_turn c d) (Err e)
    typedef_refused d d' e h = one_refused (λ d. Good (with_typedef d)) (λ (u : Unit {0}). d') (λ (u : Unit {0}). (c', d')) (typed_typedef c.sight d) e h

    pub typedef_made : (d d' : Declaration) → typed_typedef c.sight d ≡ Good d' → c' ≡ record c { sight = with_type c.sight d' } → typedef_in_turn c d ≡ Good (c', d')
    typedef_made d d' h is = ap (λ m. one_part m (λ d. Good (with_typedef d))) h ∙ ap (λ x. Good (x, d')) (sym is)

    abbrev with_global : Declaration → Course × Declaration
    with_global d = (record c { sight = with_object c.sight d }, d)

    pub global_made : (d d' : Declaration) (r : Result (Unit {0}) TypeFault) → Answers (λ (u : Unit {0}). d') (typed_global c.sight d) r → OnOk r (c'.sight ≡ with_object c.sight d') → c'.tags ≡ c.tags → c'.names ≡ c.names
        → Answers (λ (u : Unit {0}). (c', d')) (global_in_turn c d) r
    global_made d d' (Ok u) h sight tags names = ap (λ m. one_part m (λ d. Good (with_global d))) h ∙ sym (λ i. Good (record { sight = sight i; tags = tags i; names = names i }, d'))
    global_made d d' (Err e) h sight tags names = one_refused (λ d. Good (with_global d)) (λ (u : Unit {0}). d') (λ (u : Unit {0}). (c', d')) (typed_global c.sight d) e h

    module _ (numbers : ℕ → Option Callee)
      where
        abbrev with_defined : Function → Course × Function
        with_defined f = (record c { sight = with_function_by numbers c.sight f; names = names_behind c.sight c.names f }, f)

        pub defined_made : (f f' : Function) (r : Result (Unit {0}) TypeFault) → Answers (λ (u : Unit {0}). f') (function_in_turn numbers c.sight c.names f) r
            → OnOk r (c'.sight ≡ with_function_by numbers c.sight f') → OnOk r ((x : ℕ) → c'.names x ≡ names_behind c.sight c.names f' x) → c'.tags ≡ c.tags
            → Answers (λ (u : Unit {0}). (c', f')) (defined_in_turn numbers c f) r
        defined_made f f' (Ok u) h sight names tags =
            ap (λ m. one_part m (λ f. Good (with_defined f))) h ∙ sym (λ i. Good (record { sight = sight i; tags = tags i; names = λ x. names x i }, f'))
        defined_made f f' (Err e) h sight names tags = one_refused (λ f. Good (with_defined f)) (λ (u : Unit {0}). f') (λ (u : Unit {0}). (c', f')) (function_in_turn numbers c.sight c.names f) e h
