use Rattle.std.proofs.Common.{ℕ, drop, map}
use Rattle.c_syntax.specs.Logic.{plain_annot}
use Rattle.c_syntax.specs.Programs.{plain_behavior}
use Rattle.instrument.specs.Limits.{CoversFew}
use Rattle.instrument.proofs.contract.few_covers.Given as goal

abbrev pub invariant-covers : goal.invariant-covers
invariant-covers l = (h : ℕ) → CoversFew h (map plain_behavior l.behaviors) (map plain_annot (drop l.annot-index l.covers)) → CoversFew h (map plain_behavior l.behaviors) (map plain_annot l.covers)
