use Rattle.std.proofs.Common.{map, ap, sym, ◌∙◌}
use Rattle.c_syntax.specs.Ctypes.{plain_type}
use Rattle.c_syntax.specs.Layouts.{size_of}
use Rattle.c_syntax.specs.Programs.{plain_layout}
use Rattle.c_syntax.specs.Statements.{plain_decl}
use Rattle.mon_syntax.specs.Trees.{plain_stmts}
use Rattle.c_initialisers.proofs.InitialiserTrees.{born_initialised, unborn_left}
use Rattle.c_effects.proofs.Trees.{on_ok, on_ok_then}
use Rattle.c_initialisers.proofs.initialiser.initialise_local.Goals as goal

pub returns-then-may_be_born-clause-code : goal.returns-then-may_be_born-clause-code
returns-then-may_be_born-clause-code c =
    let size = c.in_ok-size.ensures ∙ ap (λ l. size_of (map plain_layout l) (plain_type c.args.d.now.ctype)) c.layouts.ensures in
    on_ok_then c.initialise.result
    (born_initialised c.args.names.now (plain_decl c.args.d.now) c.in_ok-size.size c.block_of-block.result (plain_stmts c.args.to.now.items) (plain_stmts c.initialise.new.to.items) size
    (sym c.may_be_born.ensures ∙ c.if-may_be_born.true) c.block_of-block.ensures)
    c.initialise.ensures.code

pub returns-else-may_be_born-clause-code : goal.returns-else-may_be_born-clause-code
returns-else-may_be_born-clause-code c =
    let size = c.in_ok-size.ensures ∙ ap (λ l. size_of (map plain_layout l) (plain_type c.args.d.now.ctype)) c.layouts.ensures in
    on_ok c.take_registers.result (unborn_left c.args.names.now (plain_decl c.args.d.now) c.in_ok-size.size (plain_stmts c.args.to.now.items) size (sym c.may_be_born.ensures ∙ c.if-may_be_born.false))
