-- The translation of an accepted program does what the program does.
use Rattle.std.proofs.Common.{◌≡◌, ℕ, suc, true, if◌then◌else◌, List, [], ◌∷◌, ◌++◌, append_assoc, refl, sym, ◌∙◌, subst, ◌<◌, length}
use Rattle.c_syntax.specs.Programs.{StringLiteral, Function, TranslationUnit}
use Rattle.c_model.specs.State.{Input}
use Rattle.c_model.specs.Meaning.{is_definition, run}
use Rattle.c_model.specs.Reports.{Agrees}
use Rattle.c_model.specs.UnitTyping.{items_of_file}
use Rattle.c_model.specs.ReadTree.{FunctionRead, FunctionsRead, AreBytes, TextsAreBytes}
use Rattle.c_model.specs.AcceptedPrograms.{AreDefined, IsProgram}
use Rattle.c_model.specs.UnrangedPrograms.{FunctionsRanged}
use Rattle.mon_syntax.specs.BlockMemory.{block_run}
use Rattle.c_initialisers.specs.Letters.{InitialsHaveLetters}
use Rattle.instrument.specs.Limits.{BodyHasNumbers, ContractHasNumbers, FunctionsHaveNumbers}
use Rattle.instrument.specs.Translation.{first_flag, index_of_main, translated}
use Rattle.instrument.proofs.Annotated.{AreAnnotated, IsAnnotated, are_annotated}
use Rattle.instrument.proofs.KnownContracts.{functions_stand}
use Rattle.instrument.proofs.Starts.{pointers}
use Rattle.instrument.proofs.RangedTrees.{AreRangedAsserts, AreRangedClauses, functions_ranged}
use Rattle.c_simulation.specs.Standing.{AreOctets}
use Rattle.instrument.proofs.FileScope.{AreTexts}
use Rattle.instrument.proofs.Resolved.{resolved, resolved_asks}
use Rattle.instrument.proofs.Programs.{Part, Parts}
use Rattle.instrument.proofs.Sights.{FunctionInPlace, function_in_place, globals_in_place}
use Rattle.instrument.proofs.FileNumbers.{IsNumbered, function_is_numbered, globals_apart, globals_own}
use Rattle.instrument.proofs.Correct.{GlobalsKnown, main_below, translated_agrees}

octets : (bytes : List ℕ) → AreBytes bytes → AreOctets bytes
octets [] h = tt
octets (b ∷ bytes) h = (h.0, octets bytes h.1)

texts_are : (xs : List StringLiteral) → TextsAreBytes xs → AreTexts xs
texts_are [] h = tt
texts_are (x ∷ xs) h = (octets x.bytes h.0, texts_are xs h.1)

module _ (p : TranslationUnit) (q : IsProgram p) where
  part_of : (f : Function) → FunctionInPlace p f → IsNumbered (items_of_file p) 0 4294967295 f → FunctionRead AreRangedAsserts AreRangedClauses f → (is_definition f ≡ true → BodyHasNumbers f.body) → IsAnnotated p f
      → (is_definition f ≡ true → ContractHasNumbers (first_flag f) f.contract) → Part p f
  part_of f here n read letters annotated clauses = record {
    sight = here.sight;
    names = here.place.names;
    texts = here.place.texts;
    structs = here.place.structs;
    found = here.place.found;
    typed = here.typed;
    noted = here.noted;
    read = read;
    letters = letters;
    annotated = annotated;
    clauses = clauses;
    high = n.high;
    between = n.between;
    below = n.below;
    apart = globals_apart p q.numbered f n [] p.globals refl;
    resolves = λ s names functions u t es c. resolved p s (names ∙ here.place.names) (subst (AreDefined p) (sym functions) here.defined) u t es c;
    asks = λ s names texts u t es c. resolved_asks p s (names ∙ here.place.names) (texts ∙ here.place.texts) u t es c;
  }

  parts_of : (main k : ℕ) (front fs : List Function) → front ++ fs ≡ p.funcs → FunctionsRead AreRangedAsserts AreRangedClauses fs → AreAnnotated p fs → FunctionsHaveNumbers p main k fs → Parts p fs
  parts_of main k front [] is read annotated numbers = tt
  parts_of main k front (f ∷ fs) is read annotated numbers = (
    part_of f (function_in_place p q front fs f is) (function_is_numbered p q.numbered front fs f is) read.0 (λ e. (numbers.0 e).body) annotated.0 (λ e. (numbers.0 e).contract),
    parts_of main (if is_definition f then suc k else k) (front ++ f ∷ []) fs (append_assoc front (f ∷ []) fs ∙ is) read.1 annotated.1 numbers.1,
  )

  globals_known : InitialsHaveLetters p.globals → GlobalsKnown p
  globals_known letters = record {
    places = globals_in_place p q;
    constant = q.constant;
    letters = letters;
    texts = texts_are p.texts q.texts;
    room = q.room;
    own = globals_own p q.numbered [] p.globals refl;
  }

-- what the code says of letters in initialisers of globals, where it translates `main`
abbrev pub GlobalsHaveLetters : TranslationUnit → Type 0
GlobalsHaveLetters p = index_of_main p.names p.funcs < length (translated p).functions → InitialsHaveLetters p.globals

-- on each input, up to the program's first undefined operation
pub program_agrees : (p : TranslationUnit) → IsProgram p → FunctionsRanged p.funcs → GlobalsHaveLetters p → FunctionsHaveNumbers p (index_of_main p.names p.funcs) 0 p.funcs
    → (input : Input) (n : ℕ) → Agrees (run p input n) (block_run (translated p) input n)
program_agrees p q ranged letters numbers input n =
    translated_agrees p (parts_of p q (index_of_main p.names p.funcs) 0 [] p.funcs refl (functions_ranged p.funcs q.effects ranged) (are_annotated p q ranged) numbers) q.main
    (globals_known p q (letters (main_below p q.main))) (functions_stand p (pointers p)) input n
