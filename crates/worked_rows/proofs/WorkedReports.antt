-- The line of each end of a run, by computation: of each kind of annotation, and of each segment.
use Rattle.std.proofs.Common.{◌≡◌, ℕ, List, [], ◌∷◌, ◌++◌, Option, Some, codes, refl}
use Rattle.std.specs.Fmt.{digits}
use Rattle.c_syntax.specs.declared.annotation.Kind.TheVariants.{Requires, Assumes, Ensures, Complete, Disjoint, Invariant, Variant}
use Rattle.c_syntax.specs.declared.types.How.TheVariants as how
use Rattle.c_syntax.specs.declared.types.Segment.TheVariants.{Heap, Stack, Numbers}
use Rattle.c_model.specs.State.{Broken, Full}
use Rattle.c_model.specs.Reports.{Report, report}

-- a status, and the line on the error output
abbrev reports : ℕ → List ℕ → Option Report
reports status words = Some (record { status = status; line = codes "eacsl: " ++ (words ++ 10 ∷ []) })

report-requires : report (Broken 12 345 Requires how.False) ≡ reports 1 (codes "annotation 12, line 345: requires is false")
unfolding digits
report-requires = refl

report-assumes : report (Broken 12 345 Assumes how.Undefined) ≡ reports 1 (codes "annotation 12, line 345: assumes is undefined")
unfolding digits
report-assumes = refl

report-ensures : report (Broken 12 345 Ensures how.Undefined) ≡ reports 1 (codes "annotation 12, line 345: ensures is undefined")
unfolding digits
report-ensures = refl

report-complete : report (Broken 12 345 Complete how.False) ≡ reports 1 (codes "annotation 12, line 345: complete is false")
unfolding digits
report-complete = refl

report-disjoint : report (Broken 12 345 Disjoint how.False) ≡ reports 1 (codes "annotation 12, line 345: disjoint is false")
unfolding digits
report-disjoint = refl

report-invariant : report (Broken 12 345 Invariant how.Undefined) ≡ reports 1 (codes "annotation 12, line 345: invariant is undefined")
unfolding digits
report-invariant = refl

report-variant : report (Broken 12 345 Variant how.False) ≡ reports 1 (codes "annotation 12, line 345: variant is false")
unfolding digits
report-variant = refl

report-full_heap : report (Full Heap) ≡ reports 4 (codes "full heap")
report-full_heap = refl

report-full_stack : report (Full Stack) ≡ reports 4 (codes "full stack")
report-full_stack = refl

report-full_numbers : report (Full Numbers) ≡ reports 4 (codes "full numbers")
report-full_numbers = refl
