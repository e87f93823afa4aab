-- A file that is read, typed, has room and `main`, and whose asserts are typed, is a program that the translation takes.
use Rattle.std.proofs.Common.{◌≡◌, ◌≤◌, ◌<◌, ◌^◌, sym, subst, map, None}
use Rattle.c_syntax.specs.Expressions.{Expression}
use Rattle.c_syntax.specs.Programs.{TranslationUnit}
use Rattle.c_model.specs.Checked.{Good}
use Rattle.c_model.specs.UnitTyping.{typed_unit, room_fault, main_fault}
use Rattle.c_model.specs.AnnotationTyping.{noted_unit}
use Rattle.c_model.specs.Formed.{AreReadLoopClauses, AreReadAsserts, number_of, Ascend, AreNamed}
use Rattle.c_model.specs.FullExpressions.{EachDeclared, EachInFunctions, EachExpression}
use Rattle.c_model.specs.LetterValues.{LettersFit}
use Rattle.c_model.specs.Sizes.{IsSmall}
use Rattle.c_model.specs.SmallTypes.{TypesSmall}
use Rattle.c_model.specs.ReadTree.{FunctionsRead, TextsAreBytes, ReadTree}
use Rattle.c_model.specs.AcceptedPrograms.{AreConstant, IsProgram}
use Rattle.c_model.proofs.TypedParts.{gives_of}
use Rattle.c_model.proofs.CompatibleFunctions.{unit_compatible}
use Rattle.c_model.proofs.SmallPrograms.{HasSmallExpressions, unit_small}
use Rattle.c_model.proofs.KeptForms.{forms_kept}
use Rattle.c_model.proofs.NotedContracts.{typed_contracts_formed}
use Rattle.c_model.proofs.NotedPrograms.{IsTypedFile, IsNotedFile, noted_file}
use Rattle.c_model.proofs.TypedPrograms.{TypedFile, typed_file}
use Rattle.c_model.proofs.TypedNumbers.{TypedInOrder, typed_in_order}
use Rattle.c_model.proofs.TypedNames.{typed_functions_named, typed_globals_named, typed_functions_count}
use Rattle.c_model.proofs.ConstantGlobals.{globals_constant}
use Rattle.c_model.proofs.SmallTypedFiles.{types_small}
use Rattle.c_model.proofs.TypedLetters.{typed_letters}
use Rattle.c_model.proofs.TypedForms.{typed_annotations_same}
use Rattle.c_model.proofs.PlacedFunctions.{unit_apart}

module _ (p q : TranslationUnit) (t : ReadTree p) (is : typed_unit p ≡ Good q)
  where
    file : TypedFile p q
    file = typed_file p q t.order is

    order : TypedInOrder q
    order = typed_in_order p q t.order is

    forms : FunctionsRead AreReadAsserts AreReadLoopClauses q.funcs
    forms = forms_kept p q t is

    letters : EachExpression LettersFit q
    letters = typed_letters p q file.read t.characters

    small : HasSmallExpressions q
    small = gives_of HasSmallExpressions (typed_unit p) q (unit_small p t.globals_short t.functions_short) is

    -- what is known of the typed file, where each full expression of its functions is so
    typed_as : (P : Expression → Type 0) → EachInFunctions P q.funcs → main_fault q.names q.funcs ≡ None → IsTypedFile P q
    typed_as P each main = record {
      typed = file.program;
      values = file.values;
      compatible = unit_compatible p q is;
      globals = order.globals;
      functions = order.functions;
      numbered = order.numbers;
      named = typed_functions_named p q file.read t.functions_named;
      effects = forms;
      contracts = typed_contracts_formed p q file.read t.contracts;
      each = each;
      few = subst (λ n. n < 2 ^ 32) (sym (typed_functions_count p q file.read)) t.few_functions;
      main = main;
    }

    pub accepted_file : (r : TranslationUnit) → room_fault q ≡ None → main_fault q.names q.funcs ≡ None → noted_unit q ≡ Good r → IsProgram r
    accepted_file r room main noted = record {
      typed = light.typed;
      noted = light.noted;
      contracts_noted = light.contracts_noted;
      resolved = light.resolved;
      effects = light.effects;
      contracts = light.contracts;
      kept_apart = unit_apart q r noted order.functions (typed_contracts_formed p q file.read t.contracts) forms (λ o. subst (λ n. n ≤ 1) (sym (typed_annotations_same p q file.read o)) (t.annotations_apart o));
      constant = subst (λ (x : TranslationUnit). AreConstant x.globals) back (globals_constant p q is);
      small = record { globals = subst (λ (x : TranslationUnit). EachDeclared IsSmall x.globals) back small.globals; funcs = light.each };
      small_types = record {
        globals = subst (λ (x : TranslationUnit). EachDeclared (TypesSmall x.structs) x.globals) back types.globals;
        funcs = subst (λ (x : TranslationUnit). EachInFunctions (TypesSmall x.structs) r.funcs) back short.each;
      };
      characters = record { globals = subst (λ (x : TranslationUnit). EachDeclared LettersFit x.globals) back letters.globals; funcs = fit.each };
      named = light.named;
      globals_named = subst (λ (x : TranslationUnit). AreNamed x.names x.globals) back (typed_globals_named p q file.read t.globals_named);
      numbered = light.numbered;
      globals_ascend = subst (λ (x : TranslationUnit). Ascend 0 (map number_of x.globals)) back order.globals_ascend;
      texts = subst (λ (x : TranslationUnit). TextsAreBytes x.texts) back (subst TextsAreBytes (sym file.read.texts) t.texts);
      few_functions = light.few;
      room = subst (λ (x : TranslationUnit). room_fault x ≡ None) back room;
      main = light.main;
    }
      where
        types : EachExpression (TypesSmall q.structs) q
        types = types_small p q t.order is room

        light : IsNotedFile IsSmall q r
        light = noted_file IsSmall q r noted (typed_as IsSmall small.funcs main)

        short : IsNotedFile (TypesSmall q.structs) q r
        short = noted_file (TypesSmall q.structs) q r noted (typed_as (TypesSmall q.structs) types.funcs main)

        fit : IsNotedFile LettersFit q r
        fit = noted_file LettersFit q r noted (typed_as LettersFit letters.funcs main)

        back : record q { funcs = r.funcs } ≡ r
        back = sym light.is
