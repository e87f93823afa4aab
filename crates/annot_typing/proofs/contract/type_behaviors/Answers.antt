use Rattle.std.proofs.Common.{◌≡◌, ◌+◌, ◌<◌, ◌≤◌, ◌∙◌, rules, sym, arith, ap, Err, [], drop, length, map, not, slice_set, subst, take}
use Rattle.c_syntax.specs.Ctypes.{plain_type}
use Rattle.c_syntax.specs.Logic.{plain_annot}
use Rattle.c_syntax.specs.Programs.{plain_behavior}
use Rattle.c_model.specs.Checked.{Good, where_so}
use Rattle.c_model.specs.ContractTyping.{names_of_behaviors, sight_of_clause, typed_behaviors, typed_clauses}
use Rattle.c_model.specs.ExpressionTyping.{is_among, no_name}
use Rattle.c_scopes.specs.Answers.{Answers}
use Rattle.c_scopes.specs.Sights.{plain_sight}
use Rattle.c_scopes.specs.declared.sight.Sight.{Sight}
use Rattle.c_scopes.specs.declared.tag.Tags.{Tags}
use Rattle.annot_typing.proofs.Contracts.{behavior_refused, behaviors_more, names_more}
use Rattle.c_scopes.proofs.InPlace.{all_done, done, left, seen, unvisited_step, within_step}
use Rattle.annot_typing.proofs.contract.type_behaviors.Goals as goal

pub loop-i-preserved : goal.loop-i-preserved
loop-i-preserved c =
    let s = plain_sight c.args.sight.now in
    let formals = c.args.formals.now.list.items in
    let ctype = plain_type c.args.ctype.now in
    let old = c.args.behaviors.now.items in
    let cur = c.loop-i.behaviors.items in
    let i = c.loop-i.i in
    let x = c.index_mut-behavior.result.now in
    let y = c.type_behavior.new.behavior in
    let names = c.loop-i.names.list.items in
    let names' = c.type_behavior.new.names.list.items in
    let lt : i < length cur = search (rules, arith) in
    let typed : where_so (not (is_among x.name names)) (no_name x.place) (typed_clauses (sight_of_clause s formals ctype) (map plain_annot x.clauses.items)) ≡ Good (map plain_annot y.clauses.items) =
    subst (λ z. where_so (not (is_among x.name names)) (no_name x.place) (typed_clauses (sight_of_clause (plain_sight z) formals ctype) (map plain_annot x.clauses.items)) ≡ Good (map plain_annot y.clauses.items))
    c.loop-i.invariant.same c.in_ok-type_behavior.ensures.typed in
    let more = c.in_ok-type_behavior.ensures.names in
    let left_of = left old cur i x lt c.loop-i.invariant.unvisited c.index_mut-behavior.ensures.value in
    record {
      unvisited = unvisited_step old cur i y c.loop-i.invariant.unvisited;
      within = within_step cur i y lt;
      typed = behaviors_more (sight_of_clause s formals ctype) (map plain_behavior old) (drop i old) (take i cur) (take (i + 1) (slice_set cur i y)) x y (drop (i + 1) old) names names' c.loop-i.invariant.typed
          left_of typed c.type_behavior.ensures.name c.type_behavior.ensures.place more (done cur i y lt);
      names = names_more (take i old) (take (i + 1) old) x names names' c.loop-i.invariant.names (seen old cur i x lt c.loop-i.invariant.unvisited c.index_mut-behavior.ensures.value) more;
      same = c.type_behavior.ensures.same ∙ c.loop-i.invariant.same;
    }

pub returns-in_err-type_behavior-clause-typed : goal.returns-in_err-type_behavior-clause-typed
returns-in_err-type_behavior-clause-typed c =
    let seen = λ (z : Sight). sight_of_clause (plain_sight z) c.args.formals.now.list.items (plain_type c.args.ctype.now) in
    let old = c.args.behaviors.now.items in
    let cur = c.loop-i.behaviors.items in
    let i = c.loop-i.i in
    let x = c.index_mut-behavior.result.now in
    let y = c.type_behavior.new.behavior in
    let h = c.in_err-type_behavior.field-0.0 in
    let names = c.loop-i.names.list.items in
    let lt : i < length cur = search (rules, arith) in
    let parts = λ (z : Sight). where_so (not (is_among x.name names)) (no_name x.place) (typed_clauses (seen z) (map plain_annot x.clauses.items)) in
    let clauses = λ (u : Unit {0}). map plain_annot y.clauses.items in
    let behaviors = λ (names : Tags). map plain_behavior (slice_set cur i y) in
    let all = map plain_behavior old in
    let e : c.from_residual.result ≡ Err h = search rules in
    let refused : Answers clauses (parts c.args.sight.now) (Err h) = subst (λ z. Answers clauses (parts z) (Err h)) c.loop-i.invariant.same c.in_err-type_behavior.ensures.typed in
    subst (λ r. Answers behaviors (typed_behaviors (seen c.args.sight.now) [] all) r) (sym e)
    (behavior_refused clauses behaviors (seen c.args.sight.now) all (map plain_behavior (take i cur)) (drop i old) x (drop (i + 1) old) names h c.loop-i.invariant.typed
    (left old cur i x lt c.loop-i.invariant.unvisited c.index_mut-behavior.ensures.value) refused)

pub returns-clause-names : goal.returns-clause-names
returns-clause-names c =
    let old = c.args.behaviors.now.items in
    let i = c.loop-i.i in
    let long : length c.loop-i.behaviors.items ≡ length old = c.loop-i.invariant.unvisited.0 in
    let past : length old ≤ i = search (rules, arith) in
    c.loop-i.invariant.names ∙ ap (λ bs. names_of_behaviors (map plain_behavior bs)) (all_done old i past)
