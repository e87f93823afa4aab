use Rattle.std.proofs.Common.{◌≡◌, ◌∙◌, ap, map, option_map, subst}
use Rattle.c_syntax.specs.Statements.{plain_stmt}
use Rattle.std.specs.Prelude.{OnOk}
use Rattle.c_syntax.specs.Programs.{plain_func, plain_layout}
use Rattle.c_model.specs.ExpressionTyping.{Sight}
use Rattle.c_model.specs.AnnotationTyping.{known_at, known_before, noted_in}
use Rattle.c_scopes.specs.Answers.{Answers}
use Rattle.c_scopes.specs.Sights.{plain_sight}
use Rattle.c_typing.specs.KnownStructs.{with_sizes}
use Rattle.c_typing.proofs.KnownStructs.{on_ok, shown_again}
use Rattle.c_typing.proofs.noted.note_parts.Goals as goal

pub returns-clause-noted : goal.returns-clause-noted
returns-clause-noted c =
    let s = plain_sight c.args.sight.now in
    subst (λ ss. Answers (λ (u : Unit {0}). option_map plain_stmt c.note_within-noted.new.f.body) (noted_in (record s { structs = ss }) (plain_func c.args.f.now)) c.note_within-noted.result)
    c.in_ok-sizes.ensures.hidden c.note_within-noted.ensures.noted

pub returns-clause-same : goal.returns-clause-same
returns-clause-same c =
    let s = plain_sight c.args.sight.now in
    let t = plain_sight c.note_within-noted.new.sight in
    let structs = c.args.sight.now.structs.items in
    let at = c.args.f.now.place in
    let sizes = c.in_ok-sizes.sizes.items in
    let back : Sight → Sight = λ u. record u { structs = with_sizes sizes u.structs } in
    on_ok (t ≡ known_at at s) (record t { structs = map plain_layout c.show_all.new.structs.items } ≡ s) (λ same.
    ap (λ ss. record t { structs = ss }) (c.show_all.ensures ∙ ap (λ ns. with_sizes ns (map plain_layout c.note_within-noted.new.sight.structs.items)) c.deref.ensures.value)
    ∙ ap back same
    ∙ ap (λ ns. record s { structs = with_sizes ns (map (known_before at) (map plain_layout structs)) }) c.in_ok-sizes.ensures.sizes
    ∙ ap (λ ss. record s { structs = ss }) (shown_again at structs)) c.note_within-noted.result
    (subst (λ ss. OnOk c.note_within-noted.result (t ≡ record s { structs = ss })) c.in_ok-sizes.ensures.hidden c.note_within-noted.ensures.same)
