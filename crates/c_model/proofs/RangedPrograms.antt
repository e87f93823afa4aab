-- What is known of an accepted program is known of it with ranges, and it means the same.
use Rattle.std.proofs.Common.{◌≡◌, ◌<◌, ◌^◌, map, length, None, sym, ap, ◌∙◌, subst}
use Rattle.std.specs.List.{AllByRecursion}
use Rattle.c_syntax.specs.Programs.{Function, TranslationUnit}
use Rattle.c_model.specs.UnitTyping.{items_of_file, sight_with, room_fault, main_fault}
use Rattle.c_model.specs.TypedPrograms.{ProgramTyped, ItemsTyped}
use Rattle.c_model.specs.FullExpressions.{EachDeclared, EachInFunctions}
use Rattle.c_model.specs.LetterValues.{LettersFit}
use Rattle.c_model.specs.Sizes.{IsSmall}
use Rattle.c_model.specs.SmallTypes.{TypesSmall}
use Rattle.c_model.specs.FormedContracts.{ContractsFormed}
use Rattle.c_model.specs.KeptTerms.{planned, StandApart}
use Rattle.c_model.specs.Formed.{AreLoopClauses, IsShortClause, AreAsserts, number_of, Ascend, AreNamed, FunctionsNamed}
use Rattle.c_model.specs.ReadTree.{Between, numbers_of_items, FunctionsRead, TextsAreBytes}
use Rattle.c_model.specs.FileItems.{FileNoted, FileResolved}
use Rattle.c_model.specs.AcceptedPrograms.{AreConstant, IsProgram}
use Rattle.c_model.specs.UnrangedPrograms.{unranged_unit, RangedProgramsArePrograms}
use Rattle.c_model.proofs.UnrangedTerms.{Alike, alike, itself}
use Rattle.c_model.specs.TypedAnnotations.{ContractsNoted}
use Rattle.c_model.proofs.UnrangedContracts.{contracts_formed, all_contracts_noted}
use Rattle.c_model.proofs.UnrangedFunctions.{functions_read, functions_named, functions_each, same_length, same_main}
use Rattle.c_model.proofs.UnrangedFiles.{same_items, same_numbers_of_items, file_noted, file_typed, file_resolved}
use Rattle.c_model.proofs.UnrangedPlaces.{functions_apart}
use Rattle.c_model.proofs.RangedStatements.{ranging_keeps_units}

-- what is the same without ranges is kept
kept : (F : TranslationUnit → Type 0) → ((p : TranslationUnit) → Alike (F (unranged_unit p)) (F p)) → (p q : TranslationUnit) → unranged_unit q ≡ unranged_unit p → F p → F q
kept F same p q e h = (same q).to (subst F (sym e) ((same p).from h))

abbrev NotedUnit : TranslationUnit → Type 0
NotedUnit p = FileNoted p (sight_with p p.structs) (items_of_file p)

unit_noted : (p : TranslationUnit) → Alike (NotedUnit (unranged_unit p)) (NotedUnit p)
unit_noted p = alike (ap (FileNoted (unranged_unit p) (sight_with p p.structs)) (same_items p) ∙ file_noted p (sight_with p p.structs) (items_of_file p))

abbrev ResolvedUnit : TranslationUnit → Type 0
ResolvedUnit p = FileResolved p (sight_with p p.structs) (items_of_file p)

unit_resolved : (p : TranslationUnit) → Alike (ResolvedUnit (unranged_unit p)) (ResolvedUnit p)
unit_resolved p =
    subst (λ xs. Alike (FileResolved (unranged_unit p) (sight_with p p.structs) xs) (ResolvedUnit p)) (sym (same_items p)) (file_resolved p (sight_with p p.structs) (items_of_file p))

abbrev TypedItems : TranslationUnit → Type 0
TypedItems p = ItemsTyped p (sight_with p p.structs) (items_of_file p)

items_typed : (p : TranslationUnit) → Alike (TypedItems (unranged_unit p)) (TypedItems p)
items_typed p =
    subst (λ xs. Alike (ItemsTyped (unranged_unit p) (sight_with p p.structs) xs) (TypedItems p)) (sym (same_items p)) (file_typed p (sight_with p p.structs) (items_of_file p))

program_typed : (p : TranslationUnit) → Alike (ProgramTyped (unranged_unit p)) (ProgramTyped p)
program_typed p = record {
  to = λ h. record { structs = h.structs; items = (items_typed p).to h.items };
  from = λ h. record { structs = h.structs; items = (items_typed p).from h.items };
}

abbrev IsNumbered : TranslationUnit → Type 0
IsNumbered p = Between 0 (numbers_of_items (items_of_file p)) 4294967295

numbered : (p : TranslationUnit) → Alike (IsNumbered (unranged_unit p)) (IsNumbered p)
numbered p = alike (λ i. Between 0 ((ap numbers_of_items (same_items p) ∙ same_numbers_of_items (items_of_file p)) i) 4294967295)

module _ (p q : TranslationUnit) (e : unranged_unit q ≡ unranged_unit p) (h : IsProgram p) where
  over : (F : TranslationUnit → Type 0) → ((p : TranslationUnit) → Alike (F (unranged_unit p)) (F p)) → F p → F q
  over F same x = kept F same p q e x

  program_kept : IsProgram q
  program_kept = record {
    typed = over ProgramTyped program_typed h.typed;
    noted = over NotedUnit unit_noted h.noted;
    contracts_noted = over ContractsNoted all_contracts_noted h.contracts_noted;
    resolved = over ResolvedUnit unit_resolved h.resolved;
    effects = over (λ (p : TranslationUnit). FunctionsRead AreAsserts AreLoopClauses p.funcs) (λ (p : TranslationUnit). functions_read p.funcs) h.effects;
    contracts = over (λ (p : TranslationUnit). ContractsFormed IsShortClause p.funcs) (λ (p : TranslationUnit). contracts_formed p.funcs) h.contracts;
    kept_apart = over (λ (p : TranslationUnit). AllByRecursion (λ (f : Function). StandApart (planned f)) p.funcs) (λ (p : TranslationUnit). functions_apart p.funcs) h.kept_apart;
    constant = over (λ (p : TranslationUnit). AreConstant p.globals) (λ (p : TranslationUnit). itself) h.constant;
    small = record {
      globals = over (λ (p : TranslationUnit). EachDeclared IsSmall p.globals) (λ (p : TranslationUnit). itself) h.small.globals;
      funcs = over (λ (p : TranslationUnit). EachInFunctions IsSmall p.funcs) (λ (p : TranslationUnit). alike (functions_each IsSmall p.funcs)) h.small.funcs;
    };
    small_types = record {
      globals = over (λ (p : TranslationUnit). EachDeclared (TypesSmall p.structs) p.globals) (λ (p : TranslationUnit). itself) h.small_types.globals;
      funcs = over (λ (p : TranslationUnit). EachInFunctions (TypesSmall p.structs) p.funcs) (λ (p : TranslationUnit). alike (functions_each (TypesSmall p.structs) p.funcs)) h.small_types.funcs;
    };
    characters = record {
      globals = over (λ (p : TranslationUnit). EachDeclared LettersFit p.globals) (λ (p : TranslationUnit). itself) h.characters.globals;
      funcs = over (λ (p : TranslationUnit). EachInFunctions LettersFit p.funcs) (λ (p : TranslationUnit). alike (functions_each LettersFit p.funcs)) h.characters.funcs;
    };
    named = over (λ (p : TranslationUnit). FunctionsNamed p.names p.funcs) (λ (p : TranslationUnit). functions_named p.names p.funcs) h.named;
    globals_named = over (λ (p : TranslationUnit). AreNamed p.names p.globals) (λ (p : TranslationUnit). itself) h.globals_named;
    numbered = over IsNumbered numbered h.numbered;
    globals_ascend = over (λ (p : TranslationUnit). Ascend 0 (map number_of p.globals)) (λ (p : TranslationUnit). itself) h.globals_ascend;
    texts = over (λ (p : TranslationUnit). TextsAreBytes p.texts) (λ (p : TranslationUnit). itself) h.texts;
    few_functions = over (λ (p : TranslationUnit). length p.funcs < 2 ^ 32) (λ (p : TranslationUnit). alike (ap (λ n. n < 2 ^ 32) (same_length p.funcs))) h.few_functions;
    room = over (λ (p : TranslationUnit). room_fault p ≡ None) (λ (p : TranslationUnit). itself) h.room;
    main = over (λ (p : TranslationUnit). main_fault p.names p.funcs ≡ None) (λ (p : TranslationUnit). alike (ap (λ m. m ≡ None) (same_main p.names p.funcs))) h.main;
  }

pub ranged_programs_are_programs : RangedProgramsArePrograms
ranged_programs_are_programs p q e h = program_kept p q (ranging_keeps_units p q e).same h
