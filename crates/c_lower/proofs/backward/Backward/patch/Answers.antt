use Rattle.std.proofs.Common.{◌∙◌}
use Rattle.c_lower.proofs.Patched.{patched}
use Rattle.c_lower.proofs.backward.Backward.patch.Goals as goal

pub returns : goal.returns
returns c front back x e m = patched c.self.inside.items.items front back x c.args.instr c.args.behind (c.self.view_is ∙ e) m
