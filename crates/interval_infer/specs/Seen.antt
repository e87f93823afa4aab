-- Ours: the names in sight as the code has them: `\result`, by the type of its function, and the binders of chains, whose bounds have their ranges.
use Rattle.std.specs.Borrow.{Bor}
use Rattle.std.specs.Prelude.{◌≡◌, Bool, true, ◌&&◌, [], ◌∷◌, Option, Some, None, Result, Ok, Err, map}
use Rattle.c_syntax.specs.declared.annotation.Range.{Range}
use Rattle.c_syntax.specs.declared.logic.Guard.{Guard}
use Rattle.c_syntax.specs.declared.place.Place.{Place}
use Rattle.c_syntax.specs.declared.types.CType.{CType}
use Rattle.c_syntax.specs.Ctypes.{plain_type}
use Rattle.c_syntax.specs.Logic.{Guards, NoGuard, Guarded, Predicate, range_of, plain_binder, plain_guards, plain_term}
use Rattle.c_scopes.specs.declared.fault.TypeFault.{TypeFault}
use Rattle.c_scopes.specs.Answers.{Answers}
use Rattle.c_model.specs.AnnotationRanges.{seen_result}
use Rattle.c_model.specs.Checked.{Checked, Good, one_part}
use Rattle.c_model.specs.TermRanges.{Seen, are_bounded, lowered, ranged_guards, seen_binders}
use Rattle.interval_infer.specs.declared.seen.Seen as code

abbrev pub plain_result : Option (Bor CType) → Seen
plain_result None = []
plain_result (Some t) = seen_result (plain_type t.now)

-- the binders of a chain in sight, and whether their ranges are within 128 bits
abbrev pub seen_guard : Guard → Seen → Seen
seen_guard g seen =
    seen_binders (range_of (plain_term g.lower)).lo (plain_binder g.first ∷ map plain_binder g.others.items)
    (lowered g.below (range_of (plain_term g.upper)).hi) seen

abbrev pub is_guarded : Guard → Bool
is_guarded g =
    are_bounded (range_of (plain_term g.lower)).lo (plain_binder g.first ∷ map plain_binder g.others.items)
    (lowered g.below (range_of (plain_term g.upper)).hi)

-- the same of all chains of a quantifier
abbrev pub seen_guards : Guards → Seen → Seen
seen_guards NoGuard seen = seen
seen_guards (Guarded a y ys below b rest) seen = seen_guards rest (seen_binders (range_of a).lo (y ∷ ys) (lowered below (range_of b).hi) seen)

abbrev pub are_guarded : Guards → Bool
are_guarded NoGuard = true
are_guarded (Guarded a y ys below b rest) = are_bounded (range_of a).lo (y ∷ ys) (lowered below (range_of b).hi) && are_guarded rest

abbrev pub plain_seen : code.Seen → Seen
plain_seen code.Nothing = []
plain_seen (code.Returned t) = seen_result (plain_type t.now)
plain_seen (code.Behind' g p others) = seen_guard g.now (plain_seen others)
plain_seen (code.Within' gs p others) = seen_guards (plain_guards gs.now) (plain_seen others)

abbrev pub AreBounded : code.Seen → Type 0
AreBounded code.Nothing = Unit {0}
AreBounded (code.Returned t) = Unit {0}
AreBounded (code.Behind' g p others) = (is_guarded g.now ≡ true) × AreBounded others
AreBounded (code.Within' gs p others) = (are_guarded (plain_guards gs.now) ≡ true) × AreBounded others

-- the range of a name, or the one that it has outside
abbrev pub or_seen : Option Range → Option Range → Option Range
or_seen None other = other
or_seen (Some r) other = Some r

-- chains whose bounds have their ranges, whatever stands within them
abbrev pub GuardsAnswer : Seen → Place → Guards → Guards → Result (Unit {0}) TypeFault → Type 0
GuardsAnswer seen at gs gs' (Ok u) = (within : Seen → Checked Predicate)
    → ranged_guards seen at gs within ≡ one_part (within (seen_guards gs' seen)) (λ p. Good (gs', p))
GuardsAnswer seen at gs gs' (Err f) = (within : Seen → Checked Predicate) (p : Predicate)
    → Answers (λ (u : Unit {0}). (gs', p)) (ranged_guards seen at gs within) (Err f)
