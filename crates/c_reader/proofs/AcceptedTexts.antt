-- The program of an accepted text is one that can be translated: it is read, typed, has room and `main`, and its annotations are typed and have
-- their ranges.
use Rattle.std.specs.Prelude.{ℕ, List}
use Rattle.c_syntax.specs.Programs.{TranslationUnit}
use Rattle.c_model.specs.Phases.{AcceptedText}
use Rattle.c_model.specs.AcceptedPrograms.{IsProgram}
use Rattle.c_model.specs.UnrangedPrograms.{FunctionsRanged}
use Rattle.c_model.proofs.AcceptedFiles.{accepted_file}
use Rattle.c_model.proofs.RangedStatements.{ranging_keeps_units}
use Rattle.c_model.proofs.RangedPrograms.{ranged_programs_are_programs}
use Rattle.c_reader.proofs.ReadTrees.{tree_is_read}

pub accepted_program : (text : List ℕ) (p : TranslationUnit) → AcceptedText text p → IsProgram p
accepted_program text p a =
    let tree = tree_is_read text a.tokens a.tree a.bytes a.few a.is_typed.tokens a.is_typed.read in
    ranged_programs_are_programs a.noted p a.ranged (accepted_file a.tree a.typed tree a.is_typed.is a.noted a.room a.main a.is_noted)

pub accepted_ranges : (text : List ℕ) (p : TranslationUnit) → AcceptedText text p → FunctionsRanged p.funcs
accepted_ranges text p a = (ranging_keeps_units a.noted p a.ranged).ranged
