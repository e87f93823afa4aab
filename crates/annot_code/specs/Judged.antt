-- What the code that judges a predicate does, and that it is valid, where it is made after these names.
use Rattle.std.specs.Prelude.{◌≡◌, ℕ, ◌≤◌, length, List, Option}
use Rattle.c_syntax.specs.Logic.{Predicate}
use Rattle.c_model.specs.Formed.{tokens_of_predicate}
use Rattle.c_model.specs.Predicates.{pred}
use Rattle.c_model.specs.TermRanges.{Seen, PredicateRanged}
use Rattle.mon_syntax.specs.declared.tree.MonType.{MonType}
use Rattle.mon_syntax.specs.Registers.{Names}
use Rattle.mon_syntax.specs.Trees.{plain_stmts}
use Rattle.mon_syntax.specs.Valid.{Types, Labels, Signature}
use Rattle.c_effects.specs.Named.{unit_of}
use Rattle.c_simulation.specs.Keeping.{Kept}
use Rattle.quantifier_loops.specs.Laws.{IsNumber}
use Rattle.annot_code.specs.declared.judge.Judged.{Judged}
use Rattle.annot_code.specs.declared.value_of.Valued.{Valued}
use Rattle.annot_simulation.specs.Code.{Judgement, Valuation}
use Rattle.annot_simulation.specs.Held.{Held, sorts_held}
use Rattle.annot_simulation.specs.Does.{Setting, Stands, RangesHold, PredicateFound, Judges}
use Rattle.annot_simulation.specs.Validity.{PredicateWritable, HeldTyped, AreOutside, Begins, IsValidCode}

-- a judgement after which registers of these types are taken
abbrev pub judgement_of : Judged → List MonType → Judgement
judgement_of j rs = record { stmts = plain_stmts j.stmts.items; flag = j.flag; truth = j.truth; used = rs }

-- a value after which registers of these types are taken
abbrev pub valuation_of : Valued → List MonType → Valuation
valuation_of v rs = record { stmts = plain_stmts v.stmts.items; flag = v.flag; value = v.value; used = rs }

-- it judges each predicate that keeps its ranges and whose variables are in sight, where there are registers enough
abbrev pub JudgesIn : Names → List Kept → List Held → Predicate → Judgement → Type 0
JudgesIn n plan held q j =
    (w : Setting) → w.unit ≡ unit_of n → w.bound ≡ n.table.bound → w.plan ≡ plan → w.held ≡ held → Stands w
    → RangesHold w.seen w.now w.names → PredicateRanged w.seen q → PredicateFound w.plan w.now.scope (sorts_held w.held) q → w.target.steps ≤ w.turns
    → w.low ≤ length n.table.kinds → length j.used ≤ length w.regs → Judges w n.table.kinds j (pred q w.now w.names w.target.steps)

-- among any functions and in any of them, for each predicate that keeps its ranges and can be written
abbrev pub IsValidIn : Names → List Kept → List Held → Predicate → Judgement → Type 0
IsValidIn n plan held q j =
    (seen : Seen) (globals : ℕ) (gs : List Signature) (ts : Types) (result : Option MonType) (ls : Labels)
    → PredicateRanged seen q → IsNumber (length ts) → HeldTyped ts held → AreOutside ls (length n.table.kinds)
    → PredicateWritable (unit_of n) n.table.bound plan globals ts (sorts_held held) q → tokens_of_predicate q ≤ 400 → Begins j.used ts
    → IsValidCode globals gs ts result ls j
