-- Where functions begin.
use Rattle.std.proofs.Common.{◌≡◌, ℕ, suc, ◌+◌, ◌-◌, ◌<◌, false, List, [], ◌∷◌, length, get_or, drop, Some, refl, sym, ap, ◌∙◌, arith, length-append, add-one, map, reverse}
use Rattle.std.specs.Prelude.{bytes_eq, if◌then◌else◌}
use Rattle.std.proofs.Math.Seq.{drop-cons}
use Rattle.std.proofs.lemmas.List.{drop-drop, reverse-reverse}
use Rattle.mon_syntax.specs.declared.tree.MonFunc.{MonFunc}
use Rattle.mon_syntax.specs.Trees.{MonFunction, plain_func}
use Rattle.c_lower.specs.declared.code.Entry.{Entry}
use Rattle.c_lower.specs.declared.code.Instr.{Instr}
use Rattle.c_lower.specs.Code.{function_code, functions_code, entry_at, entries_from, entry_named}
use Rattle.c_lower.specs.Entries.{entries_left, from_start}

-- in order, with places counted from the start
pub counted : (fs : List MonFunction) (start total : ℕ) → start + length (functions_code fs) ≡ total
    → map (from_start total) (entries_left fs) ≡ entries_from start fs
counted [] start total e = refl
counted (f ∷ fs) start total e =
    let cf = function_code f (length (functions_code fs)) in
    let all : length (functions_code (f ∷ fs)) ≡ length cf + length (functions_code fs) = length-append cf (functions_code fs) in
    let here : total - length (functions_code (f ∷ fs)) ≡ start = omega (arith, all, e) in
    let rest = counted fs (start + length cf) total (omega (arith, all, e)) in
    ap (λ s. entry_at s f ∷ map (from_start total) (entries_left fs)) here ∙ ap (λ es. entry_at start f ∷ es) rest

-- a function of another name is passed
pub passed : (name : List ℕ) (fs : List MonFunc) (i : ℕ) (f : MonFunc) (es : List Entry) (here : ℕ) → i < length fs → f ≡ get_or fs i f
    → bytes_eq f.name name ≡ false → drop i es ≡ entries_from here (map plain_func (drop i fs))
    → (next : ℕ) × (drop (i + 1) es ≡ entries_from next (map plain_func (drop (i + 1) fs)))
    × (entry_named name here (map plain_func (drop i fs)) ≡ entry_named name next (map plain_func (drop (i + 1) fs)))
passed name fs i f es here lt is other at =
    let rest = map plain_func (drop (i + 1) fs) in
    let next = here + length (function_code (plain_func f) (length (functions_code rest))) in
    let cut : drop i fs ≡ f ∷ drop (i + 1) fs = drop-cons fs i f lt ∙ ap (λ x. x ∷ drop (suc i) fs) (sym is) ∙ ap (λ n. f ∷ drop n fs) (sym (add-one i)) in
    let first = at ∙ ap (λ l. entries_from here (map plain_func l)) cut in (
      next,
      sym (drop-drop 1 i es) ∙ ap (drop 1) first,
      ap (λ l. entry_named name here (map plain_func l)) cut
          ∙ ap (λ b. if b then Some (entry_at here (plain_func f)) else entry_named name next rest) other,
    )

-- turned round, with places counted from the start of the whole code
pub all_counted : (fs : List MonFunction) (written : List Entry) (code : List Instr) (total : ℕ) → written ≡ reverse (entries_left fs)
    → code ≡ functions_code fs → total ≡ length code → map (from_start total) (reverse written) ≡ entries_from 0 fs
all_counted fs written code total e f g =
    ap (λ l. map (from_start total) (reverse l)) e
    ∙ ap (map (from_start total)) (reverse-reverse (entries_left fs))
    ∙ counted fs 0 total (omega (arith, g, ap length f))
