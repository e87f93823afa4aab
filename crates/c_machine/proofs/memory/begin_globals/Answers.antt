use Rattle.std.proofs.Common.{pos, [], ◌∷◌, ◌++◌, FitsSigned, sym, ap, ◌∙◌}
use Rattle.std.specs.Int.{w128}
use Rattle.std.proofs.lemmas.Int.{to_z-of_z}
use Rattle.mon_syntax.specs.Flat.{flat_enter}
use Rattle.mon_syntax.specs.FlatMemory.{valued}
use Rattle.c_machine.proofs.Beginnings.{begun_none, next_fits, next_numbered, next_begun, all_begun}
use Rattle.c_machine.proofs.memory.begin_globals.Goals as goal

pub loop-global-init : goal.loop-global-init
loop-global-init c = begun_none c.args.memory.now c.args.starts.now.items c.requires.nothing c.requires.none

pub begin_global-start-requires-clause-number : goal.begin_global-start-requires-clause-number
begin_global-start-requires-clause-number c =
    next_numbered c.args.globals.now c.loop-global.global-index c.global-item.result c.loop-global-test.true c.global-item.is c.loop-global.memory c.loop-global.starts.items c.loop-global.invariant c.requires.room

pub begin_global-start-requires-clause-room : goal.begin_global-start-requires-clause-room
begin_global-start-requires-clause-room c =
    next_fits c.args.globals.now c.loop-global.global-index c.global-item.result c.loop-global-test.true c.global-item.is c.loop-global.memory c.loop-global.starts.items c.loop-global.invariant c.requires.room

pub loop-global-preserved : goal.loop-global-preserved
loop-global-preserved c =
    let fits : FitsSigned w128 c.from.result = record { sfits = c.from.type_inv } in
    let start = to_z-of_z w128 c.from.result fits ∙ c.from.ensures ∙ ap pos c.begin_global-start.ensures.start in
    next_begun c.args.globals.now c.loop-global.global-index c.global-item.result c.loop-global-test.true c.global-item.is c.loop-global.memory c.loop-global.starts.items c.loop-global.invariant c.requires.room
    c.begin_global-start.new.memory c.push.new.self.items c.begin_global-start.ensures.memory (c.in_ok-push.ensures.items ∙ ap (λ z. c.loop-global.starts.items ++ z ∷ []) start)

pub returns-in-Ok-clause-memory : goal.returns-in-Ok-clause-memory
returns-in-Ok-clause-memory c =
    let all = all_begun c.args.globals.now c.loop-global.global-index c.loop-global.memory c.loop-global.starts.items c.loop-global-test.false c.loop-global.invariant in
    ap (λ m. valued (flat_enter m)) (sym all.memory_is) ∙ ap valued c.in-Ok.ensures

pub returns-in-Ok-clause-starts : goal.returns-in-Ok-clause-starts
returns-in-Ok-clause-starts c = (all_begun c.args.globals.now c.loop-global.global-index c.loop-global.memory c.loop-global.starts.items c.loop-global-test.false c.loop-global.invariant).starts_are
