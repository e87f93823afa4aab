use Rattle.std.proofs.Common.{◌<◌, ◌+◌, rules, map, ◌≡◌, Err, arith, drop, length, slice_set, take}
use Rattle.c_syntax.specs.Statements.{plain_decl}
use Rattle.c_scopes.specs.Sights.{plain_sight}
use Rattle.c_function_rules.proofs.Declarations.{declarations_more, declarations_refused, objects_more}
use Rattle.c_scopes.proofs.InPlace.{done, left, unvisited_step, within_step}
use Rattle.c_function_rules.proofs.statement.type_declarations.Goals as goal

pub loop-i-preserved : goal.loop-i-preserved
loop-i-preserved c =
    let s = plain_sight c.args.sight.now in
    let t = plain_sight c.loop-i.sight in
    let t' = plain_sight c.type_variable.new.sight in
    let old = c.args.list.now.items in
    let cur = c.loop-i.list.items in
    let i = c.loop-i.i in
    let x = c.index_mut.result.now in
    let y = c.type_variable.new.d in
    let lt : i < length cur = search (rules, arith) in
    let next = done cur i y lt in
    let rest = left old cur i x lt c.loop-i.invariant.unvisited c.index_mut.ensures.value in
    record {
      unvisited = unvisited_step old cur i y c.loop-i.invariant.unvisited;
      within = within_step cur i y lt;
      typed = declarations_more s t t' (take i cur) (take (i + 1) (slice_set cur i y)) y c.in_ok-type_variable.ensures.declared next (map plain_decl old) (drop i old) x (drop (i + 1) old)
          c.loop-i.invariant.typed rest c.in_ok-type_variable.ensures.typed;
      sight = objects_more s t t' (take i cur) (take (i + 1) (slice_set cur i y)) y c.in_ok-type_variable.ensures.declared next c.loop-i.invariant.sight;
    }

pub returns-in_err-type_variable-clause-typed : goal.returns-in_err-type_variable-clause-typed
returns-in_err-type_variable-clause-typed c =
    let e : c.from_residual.result ≡ Err c.in_err-type_variable.field-0.0 = search rules in
    let old = c.args.list.now.items in
    let cur = c.loop-i.list.items in
    let i = c.loop-i.i in
    let x = c.index_mut.result.now in
    let lt : i < length cur = search (rules, arith) in
    let whole = declarations_refused (λ (u : Unit {0}). plain_decl c.type_variable.new.d) (λ (u : Unit {0}). map plain_decl old) (plain_sight c.args.sight.now) (plain_sight c.loop-i.sight) (take i cur) (map plain_decl old) (drop i old) x
    (drop (i + 1) old) c.in_err-type_variable.field-0.0 c.loop-i.invariant.typed (left old cur i x lt c.loop-i.invariant.unvisited c.index_mut.ensures.value) c.in_err-type_variable.ensures.typed in
    search (rules, e, whole)
