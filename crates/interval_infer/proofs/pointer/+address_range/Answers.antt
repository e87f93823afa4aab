use Rattle.std.proofs.Common.{◌≡◌, rules, option_map}
use Rattle.c_syntax.specs.declared.logic.TermKind as term
use Rattle.c_syntax.specs.Ctypes.{plain_type}
use Rattle.interval_infer.proofs.Ranged.{pointed_address, pointed_ordered}
use Rattle.interval_infer.specs.Seen.{plain_seen}
use Rattle.interval_infer.proofs.SeenNames.{seen_ordered}
use Rattle.interval_infer.proofs.pointer.+address_range.Goals as goal

pub returns-in-Deref-clause-is : goal.returns-in-Deref-clause-is
returns-in-Deref-clause-is t c =
    let is : c.args.t.now.kind.value ≡ term.Deref c.in-Deref.pointer = search rules in
    pointed_address c.args.t.now.place c.args.t.now.kind.value (option_map plain_type c.args.t.now.ctype) c.args.t.now.range c.in-Deref.pointer is

pub returns-in-Deref-clause-ordered : goal.returns-in-Deref-clause-ordered
returns-in-Deref-clause-ordered t c =
    let is : c.args.t.now.kind.value ≡ term.Deref c.in-Deref.pointer = search rules in
    pointed_ordered (plain_seen c.args.seen.now) (seen_ordered c.args.seen.now) c.args.t.now.place c.args.t.now.kind.value (option_map plain_type c.args.t.now.ctype) c.args.t.now.range c.in-Deref.pointer is c.requires.ranged
