use Rattle.std.proofs.Common.{ap, ◌∙◌}
use Rattle.c_syntax.specs.Ctypes.{plain_type}
use Rattle.c_syntax.specs.Statements.{plain_decl, plain_init}
use Rattle.mon_syntax.specs.Trees.{plain_stmts}
use Rattle.c_model.specs.StaticObjects.{static_objects}
use Rattle.mon_syntax.specs.Trees.{Global}
use Rattle.c_effects.specs.Named.{unit_of}
use Rattle.c_effects.specs.Expressions.{before, object_of_global, set}
use Rattle.c_effects.proofs.Sequences.{nothing}
use Rattle.c_effects.proofs.Trees.{on_ok_then}
use Rattle.instrument.proofs.GlobalCode.{has_initialiser, has_none, started_code}
use Rattle.instrument.proofs.global.initialise_global.Goals as goal

pub returns-in-None-clause-code : goal.returns-in-None-clause-code
returns-in-None-clause-code c = nothing _ _ (has_none c.args.names.now c.args.d.now c.in-None.is)

pub returns-in_ok-then-in-Some-clause-code : goal.returns-in_ok-then-in-Some-clause-code
returns-in_ok-then-in-Some-clause-code c =
    let d = c.args.d.now in
    let x = c.in-Some.field-0 in
    let pointer = c.in_ok-pointer-in-Some in
    let t0 = plain_stmts c.args.to.now.items in
    on_ok_then c.initialise.result
    (started_code c.args.names.now c.fresh.new.self (object_of_global c.args.d.now.place.offset (static_objects (unit_of c.args.names.now)))
    pointer.pointer (plain_type d.ctype) (plain_decl d).init (x.0, plain_init x.1) t0 (plain_stmts c.then.new.to.items) (plain_stmts c.initialise.new.to.items)
    (has_initialiser d x c.in-Some.is) pointer.ensures.number pointer.ensures.names (c.in_ok-then-in-Some.ensures ∙ ap (λ e. before t0 (set pointer.pointer e)) (c.in_ok-start-in-Some.ensures ∙ ap Global c.object_of_global-index.ensures)))
    c.initialise.ensures.code
