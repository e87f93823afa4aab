use Rattle.std.proofs.Common.{◌≡◌, ◌+◌, ◌<◌, ◌∙◌, rules, arith, sym, Err, drop, length, map, slice_set, subst, take}
use Rattle.c_syntax.specs.Logic.{plain_annot, plain_body}
use Rattle.c_model.specs.Checked.{Good}
use Rattle.c_model.specs.PredicateTyping.{typed_annotations, typed_clause}
use Rattle.c_scopes.specs.Answers.{Answers}
use Rattle.c_scopes.specs.declared.sight.Sight.{Sight}
use Rattle.c_scopes.specs.Sights.{plain_sight}
use Rattle.annot_typing.specs.Sights.{annotation_sight}
use Rattle.annot_typing.proofs.Clauses.{annotation_refused, annotations_more}
use Rattle.c_scopes.proofs.InPlace.{done, left, unvisited_step, within_step}
use Rattle.annot_typing.proofs.clause.type_clauses.Goals as goal

pub loop-i-preserved : goal.loop-i-preserved
loop-i-preserved c =
    let s = annotation_sight (plain_sight c.args.sight.now) c.args.clause in
    let old = c.args.annots.now.items in
    let cur = c.loop-i.annots.items in
    let i = c.loop-i.i in
    let x = c.index_mut-annot.result.now in
    let y = record x { body = c.type_clause.new.body } in
    let lt : i < length cur = search (rules, arith) in
    let typed : typed_clause s x.kind (plain_body x.body) ≡ Good (plain_body c.type_clause.new.body) =
    subst (λ z. typed_clause (annotation_sight (plain_sight z) c.args.clause) x.kind (plain_body x.body) ≡ Good (plain_body c.type_clause.new.body)) c.loop-i.invariant.same c.in_ok-type_clause.ensures.typed in
    record {
      unvisited = unvisited_step old cur i y c.loop-i.invariant.unvisited;
      within = within_step cur i y lt;
      typed = annotations_more s (map plain_annot old) (drop i old) (take i cur) (take (i + 1) (slice_set cur i y)) x c.type_clause.new.body (drop (i + 1) old) c.loop-i.invariant.typed
          (left old cur i x lt c.loop-i.invariant.unvisited c.index_mut-annot.ensures.value) typed (done cur i y lt);
      same = c.type_clause.ensures.same ∙ c.loop-i.invariant.same;
    }

pub returns-in_err-type_clause-clause-typed : goal.returns-in_err-type_clause-clause-typed
returns-in_err-type_clause-clause-typed c =
    let seen = λ (z : Sight). annotation_sight (plain_sight z) c.args.clause in
    let old = c.args.annots.now.items in
    let cur = c.loop-i.annots.items in
    let i = c.loop-i.i in
    let x = c.index_mut-annot.result.now in
    let y = record x { body = c.type_clause.new.body } in
    let h = c.in_err-type_clause.field-0.0 in
    let lt : i < length cur = search (rules, arith) in
    let body = λ (u : Unit {0}). plain_body c.type_clause.new.body in
    let annots = λ (u : Unit {0}). map plain_annot (slice_set cur i y) in
    let e : c.from_residual.result ≡ Err h = search rules in
    let refused : Answers body (typed_clause (seen c.args.sight.now) x.kind (plain_body x.body)) (Err h) =
    subst (λ z. Answers body (typed_clause (seen z) x.kind (plain_body x.body)) (Err h)) c.loop-i.invariant.same c.in_err-type_clause.ensures.typed in
    subst (λ r. Answers annots (typed_annotations (seen c.args.sight.now) (map plain_annot old)) r) (sym e)
    (annotation_refused body annots (seen c.args.sight.now) (map plain_annot old) (map plain_annot (take i cur)) (drop i old) x (drop (i + 1) old) h c.loop-i.invariant.typed
    (left old cur i x lt c.loop-i.invariant.unvisited c.index_mut-annot.ensures.value) refused)
