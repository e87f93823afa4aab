-- What is answered, from how its line was said.
use Rattle.std.proofs.Common.{◌≡◌, ℕ, List, length, refl, sym, ap, ◌∙◌, arith, inl, inr}
use Rattle.std.proofs.lemmas.List.{take_all}
use Rattle.ea_ports.specs.Port.{more}
use Rattle.eacsl_cli.specs.Answers.{Answer, Change, IsLine, Answered, Given, OutputFault, LineFault, NoMemory, IsSaid, Whole, Failed, Wanting, memory_line}

module _ {Due : Answer → Type 0} {Begin : List ℕ → Type 0} {out err : Change} {result : ℕ} where
  -- the line of an answer that is due was said
  pub said_answer : (a : Answer) → Due a → Begin a.output → out.told' ≡ more out.told a.output → out.faults' ≡ out.faults → IsSaid a.line a.status err result → Answered Due Begin out err result
  said_answer a d b t f (Whole s t' f') = Given a d s t f t' f'
  said_answer a d b t f (Failed k s t' f') = LineFault a.output a.line k s b t f (inl (a, d, refl, refl)) t' f'
  said_answer a d b t f (Wanting k s t' f') = NoMemory a.output a.line k s b t f (inl (a, d, refl, refl)) t' f'

  -- the line of status 9 was said
  pub said_memory : (sent : List ℕ) → Begin sent → out.told' ≡ more out.told sent → out.faults' ≡ out.faults → IsSaid memory_line 9 err result → Answered Due Begin out err result
  said_memory sent b t f (Whole s t' f') = NoMemory sent memory_line (length memory_line) s b t f (inr refl) (t' ∙ ap (more err.told) (sym (take_all (length memory_line) memory_line (omega arith)))) f'
  said_memory sent b t f (Failed k s t' f') = LineFault sent memory_line k s b t f (inr refl) t' f'
  said_memory sent b t f (Wanting k s t' f') = NoMemory sent memory_line k s b t f (inr refl) t' f'

-- what is due or begins by one rule does so by another
pub answered_by : {Due Due' : Answer → Type 0} {Begin Begin' : List ℕ → Type 0} {out err : Change} {result : ℕ} → ((a : Answer) → Due a → Due' a) → ((sent : List ℕ) → Begin sent → Begin' sent) → Answered Due Begin out err result
    → Answered Due' Begin' out err result
answered_by {Due} {Due'} d b (Given a h s t f t' f') = Given a (d a h) s t f t' f'
answered_by {Due} {Due'} d b (OutputFault sent s h t f t' f') = OutputFault sent s (b sent h) t f t' f'
answered_by {Due} {Due'} d b (LineFault sent line k s h t f l t' f') = LineFault sent line k s (b sent h) t f (line_by l) t' f'
  where
    line_by : IsLine Due sent line → IsLine Due' sent line
    line_by (inl x) = inl (x.0, d x.0 x.1, x.2, x.3)
    line_by (inr e) = inr e
answered_by {Due} {Due'} d b (NoMemory sent line k s h t f l t' f') = NoMemory sent line k s (b sent h) t f (line_by l) t' f'
  where
    line_by : IsLine Due sent line → IsLine Due' sent line
    line_by (inl x) = inl (x.0, d x.0 x.1, x.2, x.3)
    line_by (inr e) = inr e
