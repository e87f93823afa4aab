use Rattle.std.proofs.Common.{◌≡◌, None, rules}
use Rattle.c_syntax.specs.Ctypes.{plain_type}
use Rattle.c_syntax.specs.Layouts.{size_of}
use Rattle.c_model.specs.Checked.{Good}
use Rattle.c_scopes.specs.Limits.{small}
use Rattle.c_scopes.specs.Sights.{plain_sight}
use Rattle.annot_typing.specs.Limits.{has_small_size}
use Rattle.annot_typing.proofs.Sizes.{none_too_large}
use Rattle.annot_typing.proofs.cast.size_in.Goals as goal

pub returns-in-None : goal.returns-in-None
returns-in-None c =
    let s = plain_sight c.args.sight.now in
    let t = plain_type c.args.u.now in
    let checked : has_small_size s c.args.place t ≡ Good tt = search rules in
    let large : small (size_of s.structs t) ≡ None = search rules in
    absurd (none_too_large s c.args.place t checked large)
