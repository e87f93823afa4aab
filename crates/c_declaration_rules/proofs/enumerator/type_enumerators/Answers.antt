use Rattle.std.proofs.Common.{◌<◌, ◌+◌, rules, map, ◌≡◌, ℤ, Err, arith, drop, length, slice_set, take}
use Rattle.c_syntax.specs.Programs.{plain_enumerator}
use Rattle.c_scopes.specs.Sights.{plain_sight}
use Rattle.c_scopes.proofs.InPlace.{done, left, unvisited_step, within_step}
use Rattle.c_declaration_rules.proofs.Enumerators.{enumerators_more, enumerators_refused}
use Rattle.c_declaration_rules.proofs.enumerator.type_enumerators.Goals as goal

pub loop-i-preserved : goal.loop-i-preserved
loop-i-preserved c =
    let s = plain_sight c.args.sight.now in
    let t = plain_sight c.loop-i.sight in
    let old = c.args.items.now.items in
    let cur = c.loop-i.items.items in
    let i = c.loop-i.i in
    let x = c.index_mut.result.now in
    let y = c.declare_enumerator.new.e in
    let lt : i < length cur = search (rules, arith) in
    let rest = left old cur i x lt c.loop-i.invariant.unvisited c.index_mut.ensures.value in
    record {
      unvisited = unvisited_step old cur i y c.loop-i.invariant.unvisited;
      within = within_step cur i y lt;
      typed = enumerators_more s t _ (map plain_enumerator old) (take i cur) (drop i old) x (drop (i + 1) old) c.loop-i.invariant.typed rest y c.in_ok-value.value _
          (plain_sight c.declare_enumerator.new.sight) (take (i + 1) (slice_set cur i y)) c.in_ok-value.ensures.typed c.in_ok-value.ensures.declared (search (rules, arith)) (done cur i y lt);
    }

pub returns-in_err-value : goal.returns-in_err-value
returns-in_err-value c =
    let e : c.from_residual.result ≡ Err c.in_err-value.field-0.0 = search rules in
    let old = c.args.items.now.items in
    let cur = c.loop-i.items.items in
    let i = c.loop-i.i in
    let x = c.index_mut.result.now in
    let lt : i < length cur = search (rules, arith) in
    let whole = enumerators_refused (plain_sight c.args.sight.now) (plain_sight c.loop-i.sight) _ (map plain_enumerator old) (take i cur) (drop i old) x (drop (i + 1) old) c.loop-i.invariant.typed
    (left old cur i x lt c.loop-i.invariant.unvisited c.index_mut.ensures.value) {S = Unit {0}} {T = ℤ} (λ (z : ℤ). (z, plain_enumerator c.declare_enumerator.new.e))
    (λ (u : Unit {0}). (plain_sight c.args.sight.now, map plain_enumerator old)) c.in_err-value.field-0.0 c.in_err-value.ensures.typed in
    search (rules, e, whole)
