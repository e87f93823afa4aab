use Rattle.std.proofs.Common.{Ok, ap, sym, ◌∙◌}
use Rattle.mon_syntax.specs.Checking.{word_bytes}
use Rattle.mon_typing.proofs.Statements.{labelled_is}
use Rattle.mon_typing.proofs.statement.make_labelled.Goals as goal

pub returns : goal.returns
returns c = ap Ok (sym (c.in_ok-new.ensures ∙ labelled_is c.args.body c.in_ok-label.label (word_bytes c.args.scope.now.names.now c.args.label) c.in_ok-label.ensures))
