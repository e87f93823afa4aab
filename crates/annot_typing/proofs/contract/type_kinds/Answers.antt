use Rattle.std.proofs.Common.{◌≡◌, ◌+◌, ◌<◌, ◌∙◌, rules, arith, sym, Err, drop, length, map, slice_set, subst, take}
use Rattle.c_syntax.specs.Ctypes.{plain_type}
use Rattle.c_syntax.specs.Logic.{plain_annot, plain_body}
use Rattle.c_model.specs.Checked.{Good}
use Rattle.c_model.specs.ContractTyping.{sight_of_clause, typed_clauses}
use Rattle.c_model.specs.PredicateTyping.{typed_clause}
use Rattle.c_scopes.specs.Answers.{Answers}
use Rattle.c_scopes.specs.declared.sight.Sight.{Sight}
use Rattle.c_model.specs.AnnotationSights.{AnnotationSight}
use Rattle.c_scopes.specs.Sights.{plain_sight}
use Rattle.annot_typing.specs.Sights.{annotation_sight}
use Rattle.annot_typing.proofs.Contracts.{clause_refused, clauses_more}
use Rattle.c_scopes.proofs.InPlace.{done, left, unvisited_step, within_step}
use Rattle.annot_typing.proofs.contract.type_kinds.Goals as goal

pub loop-i-preserved : goal.loop-i-preserved
loop-i-preserved c =
    let s = plain_sight c.args.sight.now in
    let seen = sight_of_clause s c.args.formals.now.list.items (plain_type c.args.ctype.now) in
    let old = c.args.annots.now.items in
    let cur = c.loop-i.annots.items in
    let i = c.loop-i.i in
    let x = c.index_mut-annot.result.now in
    let y = record x { body = c.type_clause.new.body } in
    let lt : i < length cur = search (rules, arith) in
    let here : typed_clause (annotation_sight s c.sight_of_kind-clause.result) x.kind (plain_body x.body) ≡ Good (plain_body c.type_clause.new.body) =
    subst (λ z. typed_clause (annotation_sight (plain_sight z) c.sight_of_kind-clause.result) x.kind (plain_body x.body) ≡ Good (plain_body c.type_clause.new.body)) c.loop-i.invariant.same
    c.in_ok-type_clause.ensures.typed in
    let typed : typed_clause (seen x.kind) x.kind (plain_body x.body) ≡ Good (plain_body c.type_clause.new.body) =
    subst (λ u. typed_clause u x.kind (plain_body x.body) ≡ Good (plain_body c.type_clause.new.body)) (c.sight_of_kind-clause.ensures s) here in
    record {
      unvisited = unvisited_step old cur i y c.loop-i.invariant.unvisited;
      within = within_step cur i y lt;
      typed = clauses_more seen (map plain_annot old) (drop i old) (take i cur) (take (i + 1) (slice_set cur i y)) x c.type_clause.new.body (drop (i + 1) old) c.loop-i.invariant.typed
          (left old cur i x lt c.loop-i.invariant.unvisited c.index_mut-annot.ensures.value) typed (done cur i y lt);
      same = c.type_clause.ensures.same ∙ c.loop-i.invariant.same;
    }

pub returns-in_err-type_clause-clause-typed : goal.returns-in_err-type_clause-clause-typed
returns-in_err-type_clause-clause-typed c =
    let s = plain_sight c.args.sight.now in
    let seen = sight_of_clause s c.args.formals.now.list.items (plain_type c.args.ctype.now) in
    let old = c.args.annots.now.items in
    let cur = c.loop-i.annots.items in
    let i = c.loop-i.i in
    let x = c.index_mut-annot.result.now in
    let y = record x { body = c.type_clause.new.body } in
    let h = c.in_err-type_clause.field-0.0 in
    let lt : i < length cur = search (rules, arith) in
    let body = λ (u : Unit {0}). plain_body c.type_clause.new.body in
    let annots = λ (u : Unit {0}). map plain_annot (slice_set cur i y) in
    let e : c.from_residual.result ≡ Err h = search rules in
    let there = λ (u : AnnotationSight). Answers body (typed_clause u x.kind (plain_body x.body)) (Err h) in
    let here : there (annotation_sight s c.sight_of_kind-clause.result) =
    subst (λ (z : Sight). there (annotation_sight (plain_sight z) c.sight_of_kind-clause.result)) c.loop-i.invariant.same c.in_err-type_clause.ensures.typed in
    let refused : there (seen x.kind) = subst there (c.sight_of_kind-clause.ensures s) here in
    subst (λ r. Answers annots (typed_clauses seen (map plain_annot old)) r) (sym e)
    (clause_refused body annots seen (map plain_annot old) (map plain_annot (take i cur)) (drop i old) x (drop (i + 1) old) h c.loop-i.invariant.typed
    (left old cur i x lt c.loop-i.invariant.unvisited c.index_mut-annot.ensures.value) refused)
