use Rattle.std.proofs.Common.{◌≡◌, rules, subst}
use Rattle.c_syntax.specs.Ctypes.{plain_type}
use Rattle.c_model.specs.ExpressionTyping.{known_type, typed_type}
use Rattle.c_model.specs.PredicateTyping.{size_in}
use Rattle.c_scopes.specs.Answers.{Answers}
use Rattle.c_scopes.specs.Sights.{plain_sight}
use Rattle.annot_typing.specs.Limits.{written_size}
use Rattle.annot_typing.specs.Sorts.{plain_sorted}
use Rattle.annot_typing.proofs.Casts.{size_refused}
use Rattle.annot_typing.proofs.cast.type_size.Goals as goal

pub returns : goal.returns
returns c =
    let s = plain_sight c.args.sight.now in
    let t = plain_type c.in_ok-t.t in
    let copied : t ≡ plain_type c.args.u.now = search rules in
    let whole = size_refused plain_sorted s c.args.place (known_type s t) (plain_type c.type_written.new.t) (typed_type s c.args.place t) (size_in s c.args.place) c.in-Err.f c.both.result c.within_limits.result
    c.in-Err.ensures.typed c.in-Err.ensures.known c.within_limits.ensures.checked c.both.ensures.is in
    subst (λ t. Answers plain_sorted (written_size s c.args.place t) c.both.result) copied whole
