use Rattle.std.proofs.Common.{◌+◌, drop, subst, sym, refl, ap, ◌∙◌, map}
use Rattle.mon_syntax.specs.Trees.{plain_stmts}
use Rattle.behavior_split.specs.Checks.{plain_clause}
use Rattle.c_effects.proofs.Sequences.{left_at, none_left, all_there}
use Rattle.annot_code.specs.Checks.{annotations_of, checks_by, names_behind_checks, plain_flags}
use Rattle.annot_simulation.specs.Numbered.{AreNumbered}
use Rattle.annot_pieces.specs.Plain.{plain_stored}
use Rattle.annot_code.proofs.Checks.{behind_next, more_checked}
use Rattle.annot_code.proofs.contract.checks.Goals as goal

pub returns-clause-code : goal.returns-clause-code
returns-clause-code c =
    all_there (none_left (λ l. checks_by (plain_stored c.args.stored.now) (plain_flags c.args.flags.now) c.turn.names c.turn.counted (map plain_clause l)) c.args.checks.now c.turn.clause-index c.turn-test.false)
    c.turn.invariant.code

pub returns-clause-names : goal.returns-clause-names
returns-clause-names c =
    sym (none_left (λ l. names_behind_checks (plain_stored c.args.stored.now) (plain_flags c.args.flags.now) c.turn.counted (map plain_clause l) c.turn.names) c.args.checks.now c.turn.clause-index c.turn-test.false)
    ∙ c.turn.invariant.names

pub returns-clause-numbered : goal.returns-clause-numbered
returns-clause-numbered c =
    c.turn.invariant.numbered (subst AreNumbered (sym (none_left (λ l. annotations_of (map plain_clause l)) c.args.checks.now c.turn.clause-index c.turn-test.false)) tt)

pub turn-preserved : goal.turn-preserved
turn-preserved c =
    let n = c.turn.names in
    let k = plain_stored c.args.stored.now in
    let f = plain_flags c.args.flags.now in
    let x = plain_clause c.clause-item.result in
    let rest = map plain_clause (drop (c.turn.clause-index + 1) c.args.checks.now) in
    let left = left_at (map plain_clause) c.args.checks.now c.turn.clause-index _ _ c.turn-test.true c.clause-item.is refl in
    record {
      code = more_checked k f n c.turn.counted x rest c.in_ok-counted.ensures.counted c.in_ok-counted.ensures.names (plain_stmts c.turn.to.items) (ap (checks_by k f n c.turn.counted) left)
          c.in_ok-counted.ensures.code c.turn.invariant.code;
      names = behind_next k f n c.turn.counted x rest c.in_ok-counted.ensures.counted c.in_ok-counted.ensures.names ∙ ap (λ l. names_behind_checks k f c.turn.counted l n) (sym left) ∙ c.turn.invariant.names;
      numbered = λ rest. c.turn.invariant.numbered (subst AreNumbered (sym (ap annotations_of left)) (c.in_ok-counted.ensures.numbered, rest));
    }
