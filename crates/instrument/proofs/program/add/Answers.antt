use Rattle.std.proofs.Common.{◌++◌, length, map, ap, sym, ◌∙◌}
use Rattle.std.proofs.lemmas.List.{append-nil}
use Rattle.c_syntax.specs.Programs.{plain_func, plain_program}
use Rattle.mon_syntax.specs.Trees.{plain_func as plain_monitored_func}
use Rattle.instrument.proofs.Definitions.{no_definition, from_none}
use Rattle.instrument.proofs.program.add.Goals as goal

pub returns-in-None-clause-code : goal.returns-in-None-clause-code
returns-in-None-clause-code c =
    sym (append-nil (map plain_monitored_func c.args.to.now.items)) ∙ ap (λ l. map plain_monitored_func c.args.to.now.items ++ l) (from_none (plain_program c.args.names.now.program) c.args.main (length c.args.to.now.items)
    (plain_func c.args.f.now) (no_definition c.args.f.now c.in-None.is))

pub returns-in-None-clause-numbers : goal.returns-in-None-clause-numbers
returns-in-None-clause-numbers c one = let none = no_definition c.args.f.now c.in-None.is in absurd cc
