use Rattle.std.proofs.Common.{◌+◌, drop, get_or}
use Rattle.mon_syntax.specs.Text.{escaped, quoted}
use Rattle.c_printer.proofs.Behind.{left_or, none_left}
use Rattle.c_printer.proofs.Written.{then, up_none, up_more, up_behind}
use Rattle.c_printer.proofs.strings.string.Goals as goal

pub bytes-init : goal.bytes-init
bytes-init g c = up_none _ (quoted c.args.bytes.now)

pub bytes-preserved : goal.bytes-preserved
bytes-preserved g c =
    let bytes = c.args.bytes.now in
    let i = c.bytes.byte-index in
    up_more (escaped (get_or bytes i 0)) (quoted (drop (i + 1) bytes)) (left_or quoted bytes i 0 c.bytes-test.true) c.bytes.invariant c.string_byte.ensures

pub returns : goal.returns
returns g c =
    then c.write.ensures (up_behind (none_left quoted c.args.bytes.now c.bytes.byte-index c.bytes-test.false) c.bytes.invariant c.write-2.ensures)
