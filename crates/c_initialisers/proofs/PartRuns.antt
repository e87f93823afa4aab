-- Zeros in the parts of an object, one after the other.
use Rattle.std.proofs.Common.{◌≡◌, ℕ, ◌+◌, List, ◌++◌, drop, Some, None, sym, ap, ◌∙◌}
use Rattle.c_syntax.specs.Ctypes.{PlainType}
use Rattle.c_syntax.specs.Programs.{StructType}
use Rattle.c_syntax.specs.Layouts.{scalars_of}
use Rattle.mon_syntax.specs.Trees.{MonStatements}
use Rattle.c_effects.specs.declared.slot.Slot.{Slot}
use Rattle.c_effects.specs.declared.zeros.Row.{Row}
use Rattle.c_effects.specs.Expressions.{before}
use Rattle.c_effects.specs.Effects.{moved, scalars_in, zeros_at, zeros_from}
use Rattle.c_effects.specs.Scalars.{row_after, rows_stored}
use Rattle.c_effects.proofs.Sequences.{more}
use Rattle.c_effects.proofs.ZeroRuns.{rows_more}
use Rattle.c_initialisers.specs.Initialisers.{first_part}
use Rattle.c_initialisers.proofs.InitialiserTrees.{no_part, parts_more}

-- a turn of the loop over parts
pub parts_turn : {all : MonStatements} (structs : List StructType) (s : Slot) (d : ℕ) (row row1 : Row) (cs cs1 : List (ℕ × PlainType)) (c : ℕ × PlainType) (t0 t1 : MonStatements) → Some c ≡ first_part cs → s.offset ≡ d + c.0
    → row1 ≡ row_after s row (scalars_of structs c.1) → t1 ≡ before t0 (rows_stored s row (scalars_of structs c.1)) → cs1 ≡ drop 1 cs
    → before t0 (zeros_at s.object s.pointer row.start row.count (scalars_in structs d cs)) ≡ all → before t1 (zeros_at s.object s.pointer row1.start row1.count (scalars_in structs d cs1)) ≡ all
parts_turn structs s d row row1 cs cs1 c t0 t1 is there row_is put rest kept =
    let xs = scalars_of structs c.1 in
    let ys = scalars_in structs d (drop 1 cs) in
    (λ i. before t1 (zeros_at s.object s.pointer (row_is i).start (row_is i).count (scalars_in structs d (rest i))))
    ∙ more t0 (rows_stored s row xs) (zeros_at s.object s.pointer (row_after s row xs).start (row_after s row xs).count ys)
    (ap (zeros_at s.object s.pointer row.start row.count) (parts_more structs d cs c is ∙ ap (λ e. moved e xs ++ ys) (sym there)) ∙ rows_more s row xs ys) put kept

pub no_parts : (structs : List StructType) (r k d start count : ℕ) (cs : List (ℕ × PlainType)) → None ≡ first_part cs → zeros_at r k start count (scalars_in structs d cs) ≡ zeros_from r k start 0 count
no_parts structs r k d start count cs none = ap (zeros_at r k start count) (no_part structs d cs none)
