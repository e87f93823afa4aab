use Rattle.std.proofs.Common.{◌≡◌, ◌<◌, length, sym, subst}
use Rattle.c_syntax.specs.Programs.{TranslationUnit, plain_program}
use Rattle.c_model.specs.Meaning.{run}
use Rattle.c_model.specs.Reports.{Agrees}
use Rattle.mon_syntax.specs.BlockMemory.{block_run}
use Rattle.mon_syntax.specs.Trees.{MonitoredProgram}
use Rattle.mon_syntax.specs.Valid.{IsValid}
use Rattle.c_initialisers.specs.Letters.{InitialsHaveLetters}
use Rattle.instrument.specs.Translation.{index_of_main, translated}
use Rattle.instrument.proofs.ProgramRuns.{GlobalsHaveLetters, program_agrees}
use Rattle.instrument.proofs.ProgramValidity.{program_valid}
use Rattle.instrument.proofs.program.instrument.Goals as goal

-- globals have letters, since what was translated is the translation
globals_have_letters : (p : TranslationUnit) (m : MonitoredProgram) → m ≡ translated p → (index_of_main p.names p.funcs < length m.functions → InitialsHaveLetters p.globals) → GlobalsHaveLetters p
globals_have_letters p m is letters below = letters (subst (λ (n : MonitoredProgram). index_of_main p.names p.funcs < length n.functions) (sym is) below)

pub returns-clause-valid : goal.returns-clause-valid
returns-clause-valid c =
    let p = plain_program c.args.p.now in
    let done = c.in_ok-m.ensures in
    subst IsValid (sym done.translated) (program_valid p c.requires.program c.requires.ranged (globals_have_letters p _ done.translated done.letters) done.numbers)

pub returns-clause-agrees : goal.returns-clause-agrees
returns-clause-agrees c input n =
    let p = plain_program c.args.p.now in
    let done = c.in_ok-m.ensures in
    subst (λ (m : MonitoredProgram). Agrees (run p input n) (block_run m input n)) (sym done.translated)
    (program_agrees p c.requires.program c.requires.ranged (globals_have_letters p _ done.translated done.letters) done.numbers input n)
