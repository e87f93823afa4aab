-- The registers of what a function keeps beside its variables.
use Rattle.std.proofs.Common.{◌≡◌, ℕ, ◌+◌, List, [], ◌∷◌, ◌++◌, length, refl, sym, ap, ◌∙◌, append_assoc}
use Rattle.std.proofs.lemmas.List.{append-nil, length-append}
use Rattle.mon_syntax.specs.declared.tree.MonType.{MonType}
use Rattle.mon_syntax.specs.declared.tree.MonType.TheVariants.{I32}
use Rattle.mon_syntax.specs.Registers.{Names, next_register, with_table}
use Rattle.c_effects.specs.Named.{with_registers}
use Rattle.c_simulation.specs.Keeping.{is_pointer_term, registers_of}
use Rattle.annot_pieces.specs.declared.kept.Kept.{Kept}
use Rattle.annot_simulation.specs.Plan.{Entry, kept_from, kept_types, value_types}
use Rattle.annot_pieces.specs.Tables.{plain_plan}
use Rattle.instrument.specs.Options.{types_of_kept}

-- registers that are made one after another
pub made_then : (n : Names) (a b : List MonType) → with_registers b (with_registers a n) ≡ with_registers (a ++ b) n
made_then n a b = ap (λ ts. with_table (record n.table { kinds = ts }) n) (append_assoc n.table.kinds a b)

pub made_two : (n n1 n2 : Names) (a b : List MonType) → n1 ≡ with_registers a n → n2 ≡ with_registers b n1 → n2 ≡ with_registers (a ++ b) n
made_two n n1 n2 a b first second = second ∙ ap (with_registers b) first ∙ made_then n a b

-- the types of the terms that a function keeps
pub types_are : (k : ℕ) (xs : List Entry) → types_of_kept (kept_from k xs) ≡ kept_types xs
types_are k [] = refl
types_are k (x ∷ xs) = ap (λ ts. I32 ∷ (value_types (is_pointer_term x.1) x.1 ++ ts)) (types_are (k + registers_of x.1) xs)

pub types_kept : (slice : List Kept) (k : ℕ) (xs : List Entry) (kept : List Kept) → slice ≡ kept → plain_plan kept ≡ kept_from k xs → types_of_kept (plain_plan slice) ≡ kept_types xs
types_kept slice k xs kept same is = ap (λ l. types_of_kept (plain_plan l)) same ∙ ap types_of_kept is ∙ types_are k xs

-- the next register behind them
pub next_behind : (n : Names) (ts : List MonType) → next_register (with_registers ts n).table ≡ next_register n.table + length ts
next_behind n ts = length-append n.table.kinds ts

-- ---- registers in a loop

pub more_made : {all : Names} (n n1 : Names) (a rest left : List MonType) → n1 ≡ with_registers a n → left ≡ a ++ rest → with_registers left n ≡ all → with_registers rest n1 ≡ all
more_made n n1 a rest left names is kept = ap (with_registers rest) names ∙ made_then n a rest ∙ ap (λ ts. with_registers ts n) (sym is) ∙ kept

none_made : (n : Names) → with_registers [] n ≡ n
none_made n = ap (λ ts. with_table (record n.table { kinds = ts }) n) (append-nil n.table.kinds)

pub all_made : {all : Names} (n : Names) (left : List MonType) → left ≡ [] → with_registers left n ≡ all → n ≡ all
all_made n left none kept = sym (none_made n) ∙ ap (λ ts. with_registers ts n) (sym none) ∙ kept
