use Rattle.std.proofs.Common.{ap, Some, rules}
use Rattle.c_conversions.proofs.Bitwise.{and_is, or_is, xor_is}
use Rattle.c_conversions.proofs.Shifts.{left_is, right_is}
use Rattle.c_conversions.proofs.arithmetic.operate_in.Goals as goal

pub returns-in-BitAnd : goal.returns-in-BitAnd
returns-in-BitAnd c = rw c.in-BitAnd.is (ap Some (and_is c.args.x c.args.y c.ranges.x c.ranges.y))

pub returns-in-BitOr : goal.returns-in-BitOr
returns-in-BitOr c = rw c.in-BitOr.is (ap Some (or_is c.args.x c.args.y c.ranges.x c.ranges.y))

pub returns-in-BitXor : goal.returns-in-BitXor
returns-in-BitXor c = rw c.in-BitXor.is (ap Some (xor_is c.args.x c.args.y c.ranges.x c.ranges.y))

pub returns-in-Shl : goal.returns-in-Shl
returns-in-Shl c = rw c.in-Shl.is (let e = left_is c.args.k c.args.x c.args.y in search (rules, e))

pub returns-in-Shr : goal.returns-in-Shr
returns-in-Shr c = rw c.in-Shr.is (let e = right_is c.args.k c.args.x c.args.y in search (rules, e))
