-- Annotated loops and what they become, by computation: where the invariants stand, where the variant is kept, and where it is compared.
use Rattle.std.proofs.Common.{◌≡◌, pos, true, List, [], ◌∷◌, ◌++◌, Some, None, refl}
use Rattle.c_syntax.specs.declared.annotation.Kind.TheVariants as clause
use Rattle.c_syntax.specs.declared.place.Place.{Place}
use Rattle.c_syntax.specs.Ctypes.{int_type}
use Rattle.c_syntax.specs.Expressions as source
use Rattle.c_syntax.specs.Expressions.{Expression, Node}
use Rattle.c_syntax.specs.Logic.{Annotation, Holds, LogicTerm, Number, Truth, Value}
use Rattle.c_syntax.specs.Programs.{TranslationUnit}
use Rattle.c_syntax.specs.Statements as statement
use Rattle.c_model.specs.Ranges.{from_to}
use Rattle.c_simulation.specs.Labels.{end_label, next_label}
use Rattle.c_effects.specs.Expressions.{before, one}
use Rattle.c_effects.specs.Full.{act, act_takes, takes}
use Rattle.annot_simulation.specs.Code.{assertion, behind_assertion, type_of, Valuation, valuation}
use Rattle.mon_syntax.specs.declared.tree.MonType.{MonType}
use Rattle.mon_syntax.specs.declared.tree.MonType.TheVariants as kind
use Rattle.mon_syntax.specs.Registers.{Bindings, RegisterTable}
use Rattle.mon_syntax.specs.Trees.{Labelled, Goto, Loop, MonStatements, NoStatement, Then}
use Rattle.instrument.specs.LoopClauses.{compared_with, wanted}
use Rattle.instrument.specs.Translation as target
use Rattle.instrument.specs.Translation.{outermost, test}

abbrev here : Place
here = record { line = 1; column = 1; offset = 1 }

abbrev program : TranslationUnit
program = record { names = []; structs = []; enums = []; typedefs = []; globals = []; funcs = []; texts = []; strays = [] }

-- register 0 points to the block of 2, which is `n`
abbrev bound : Bindings
bound = (2, 0) ∷ []

abbrev n : Expression
n = Node here int_type (source.Variable (record { name = 2; decl = 2 }))

abbrev one_variable : RegisterTable
one_variable = record { kinds = kind.Ptr ∷ []; bound = bound }

abbrev five : LogicTerm
five = Number here None (from_to (pos 5) (pos 5)) (pos 5)

abbrev invariant : Annotation
invariant = record { number = 3; kind = clause.Invariant; place = here; body = Holds (Truth here true) }

abbrev variant : Annotation
variant = record { number = 4; kind = clause.Variant; place = here; body = Value five }

-- registers behind the invariant, and behind the condition
abbrev asked : List MonType
asked = behind_assertion program bound [] [] one_variable.kinds invariant

abbrev tested : List MonType
tested = asked ++ takes program n

-- the value that is kept, and the one after registers of these types that is compared with it
abbrev kept : Valuation
kept = valuation program bound [] [] five tested

abbrev later : List MonType → Valuation
later rs = valuation program bound [] [] five rs

-- what stands in a turn, with what stands behind the body
abbrev turns : MonStatements → MonStatements → MonStatements
turns body behind = one (Labelled (one (Loop (before (assertion program bound [] [] one_variable.kinds invariant) (test program bound asked 1 n))
    (before (wanted variant kept) (Then (Labelled body (next_label 1)) behind)))) (end_label 1))

-- `/*@ loop invariant \true; loop variant 5; */ while (n) continue;`
while_continue : target.statement program [] (outermost None []) one_variable (statement.While here (invariant ∷ variant ∷ []) n (statement.Continue here))
    ≡ turns (one (Goto (next_label 1))) (compared_with variant (type_of five) kept.value (later kept.used))
while_continue = refl

-- and `break;`
while_break : target.statement program [] (outermost None []) one_variable (statement.While here (invariant ∷ variant ∷ []) n (statement.Break here))
    ≡ turns (one (Goto (end_label 1))) (compared_with variant (type_of five) kept.value (later kept.used))
while_break = refl

-- the order of clauses changes nothing, and without clauses nothing stands there
order : target.statement program [] (outermost None []) one_variable (statement.While here (variant ∷ invariant ∷ []) n (statement.Continue here))
    ≡ target.statement program [] (outermost None []) one_variable (statement.While here (invariant ∷ variant ∷ []) n (statement.Continue here))
order = refl

no_clauses : target.statement program [] (outermost None []) one_variable (statement.While here [] n (statement.Continue here))
    ≡ one (Labelled (one (Loop (test program bound one_variable.kinds 1 n) (Then (Labelled (one (Goto (next_label 1))) (next_label 1)) NoStatement))) (end_label 1))
no_clauses = refl

-- `/*@ loop invariant \true; loop variant 5; */ for (; n; n) continue;`: the variant is compared behind the third part
for_continue : target.statement program [] (outermost None []) one_variable (statement.For here (invariant ∷ variant ∷ []) statement.NoFirst (Some n) (Some n) (statement.Continue here))
    ≡ turns (one (Goto (next_label 1))) (before (act program bound kept.used n) (compared_with variant (type_of five) kept.value (later (kept.used ++ act_takes program n))))
for_continue = refl
