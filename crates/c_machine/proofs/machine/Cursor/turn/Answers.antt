use Rattle.std.proofs.Common.{rules, FitsSigned, ◌+◌, refl, ap}
use Rattle.std.specs.Int.{w64}
use Rattle.std.proofs.lemmas.Int.{to_z-of_z}
use Rattle.c_lower.specs.Sound.{target}
use Rattle.c_lower.specs.declared.code.Instr.TheVariants as instr
use Rattle.c_model.specs.MonitoredRuns.{Fault}
use Rattle.c_machine.specs.Held.{links_of}
use Rattle.c_machine.proofs.Moves.{halts_by}
use Rattle.c_machine.proofs.machine.Cursor.turn.Goals as goal

pub skip_if_zero-requires-clause-place : goal.skip_if_zero-requires-clause-place
skip_if_zero-requires-clause-place g c = c.requires.jumps (c.args.self.now.place + 1 + c.in-SkipIfZero.n) (ap (target c.args.self.now.place) c.in-SkipIfZero.is)

pub go_on-requires-clause-place : goal.go_on-requires-clause-place
go_on-requires-clause-place g c = c.requires.jumps (c.args.self.now.place + 1 + c.in-GoOn.n) (ap (target c.args.self.now.place) c.in-GoOn.is)

pub returns-in-Push : goal.returns-in-Push
returns-in-Push g c =
    let f : FitsSigned w64 c.in-Push.z = search rules in
    rw (c.in-Push.is, ← to_z-of_z w64 c.in-Push.z f) (c.push_number.ensures (links_of c.args.globals.now c.args.entries.now) _)

pub returns-in-Extend : goal.returns-in-Extend
returns-in-Extend g c = rw c.in-Extend.is (c.extend.ensures (links_of c.args.globals.now c.args.entries.now) _)

pub returns-in-Global : goal.returns-in-Global
returns-in-Global g c = rw c.in-Global.is (c.global.ensures c.args.entries.now _)

pub returns-in-Get : goal.returns-in-Get
returns-in-Get g c = rw c.in-Get.is (c.get.ensures (links_of c.args.globals.now c.args.entries.now) _)

pub returns-in-Put : goal.returns-in-Put
returns-in-Put g c = rw c.in-Put.is (c.put.ensures (links_of c.args.globals.now c.args.entries.now) _)

pub returns-in-Drop : goal.returns-in-Drop
returns-in-Drop g c = rw c.in-Drop.is (c.drop_top.ensures (links_of c.args.globals.now c.args.entries.now) _)

pub returns-in-Binary : goal.returns-in-Binary
returns-in-Binary g c = rw c.in-Binary.is (c.binary.ensures (links_of c.args.globals.now c.args.entries.now) _)

pub returns-in-Pointed : goal.returns-in-Pointed
returns-in-Pointed g c = rw c.in-Pointed.is (c.point.ensures (links_of c.args.globals.now c.args.entries.now) _)

pub returns-in-Minus : goal.returns-in-Minus
returns-in-Minus g c = rw c.in-Minus.is (c.negate.ensures (links_of c.args.globals.now c.args.entries.now) _)

pub returns-in-Flip : goal.returns-in-Flip
returns-in-Flip g c = rw c.in-Flip.is (c.flip_bits.ensures (links_of c.args.globals.now c.args.entries.now) _)

pub returns-in-Cast : goal.returns-in-Cast
returns-in-Cast g c = rw c.in-Cast.is (c.cast.ensures (links_of c.args.globals.now c.args.entries.now) _)

pub returns-in-Load : goal.returns-in-Load
returns-in-Load g c = rw c.in-Load.is (c.load.ensures (links_of c.args.globals.now c.args.entries.now) _)

pub returns-in-Store : goal.returns-in-Store
returns-in-Store g c = rw c.in-Store.is (c.store.ensures (links_of c.args.globals.now c.args.entries.now) _)

pub returns-in-Assert : goal.returns-in-Assert
returns-in-Assert g c = rw c.in-Assert.is (c.judge.ensures (links_of c.args.globals.now c.args.entries.now) _)

pub returns-in-Exit : goal.returns-in-Exit
returns-in-Exit g c = rw c.in-Exit.is (c.exit.ensures (links_of c.args.globals.now c.args.entries.now) _)

pub returns-in-SkipIfZero : goal.returns-in-SkipIfZero
returns-in-SkipIfZero g c = rw c.in-SkipIfZero.is (c.skip_if_zero.ensures (links_of c.args.globals.now c.args.entries.now) _)

pub returns-in-GoOn : goal.returns-in-GoOn
returns-in-GoOn g c = rw c.in-GoOn.is (c.go_on.ensures (links_of c.args.globals.now c.args.entries.now) _)

pub returns-in-GoBack : goal.returns-in-GoBack
returns-in-GoBack g c = rw c.in-GoBack.is (c.go_back.ensures (links_of c.args.globals.now c.args.entries.now) _)

pub returns-in-Step : goal.returns-in-Step
returns-in-Step g c = rw c.in-Step.is (c.step.ensures (links_of c.args.globals.now c.args.entries.now) _)

pub returns-in-PutChar : goal.returns-in-PutChar
returns-in-PutChar g c = rw c.in-PutChar.is (c.put_char.ensures (links_of c.args.globals.now c.args.entries.now) _)

pub returns-in-PutByte : goal.returns-in-PutByte
returns-in-PutByte g c = rw c.in-PutByte.is (c.put_byte.ensures (links_of c.args.globals.now c.args.entries.now) _)

pub returns-in-PutNumber : goal.returns-in-PutNumber
returns-in-PutNumber g c = rw c.in-PutNumber.is (c.put_number.ensures (links_of c.args.globals.now c.args.entries.now) _)

pub returns-in-PutString : goal.returns-in-PutString
returns-in-PutString g c = rw c.in-PutString.is (c.put_string.ensures (links_of c.args.globals.now c.args.entries.now) _)

pub returns-in-Call : goal.returns-in-Call
returns-in-Call g c = rw c.in-Call.is (c.call.ensures c.args.globals.now _)

pub returns-in-Return : goal.returns-in-Return
returns-in-Return g c = rw c.in-Return.is (c.give_back.ensures (links_of c.args.globals.now c.args.entries.now) _)

pub returns-in-GetChar : goal.returns-in-GetChar
returns-in-GetChar g c = rw c.in-GetChar.is (c.get_char.ensures (links_of c.args.globals.now c.args.entries.now) _)

pub returns-in-Act : goal.returns-in-Act
returns-in-Act g c = rw c.in-Act.is (c.act.ensures (links_of c.args.globals.now c.args.entries.now) _)

pub returns-in-Fail : goal.returns-in-Fail
returns-in-Fail g c = rw c.in-Fail.is (halts_by (links_of c.args.globals.now c.args.entries.now) instr.Fail c.args.self.now c.args.machine.now Fault c.args.self.now.steps (λ input next. refl) _)
