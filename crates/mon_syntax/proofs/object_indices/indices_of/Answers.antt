use Rattle.std.proofs.Common.{◌≡◌, ℕ, map, nat_eq, None, rules, subst, sym}
use Rattle.indexmap.specs.IndexMap.{get}
use Rattle.c_syntax.specs.Programs.{plain_program, plain_text}
use Rattle.c_syntax.specs.Statements.{plain_decl}
use Rattle.c_model.specs.ObjectsLeft.{objects_left, plain_object}
use Rattle.c_model.specs.StaticObjects.{in_text_order, static_objects}
use Rattle.mon_syntax.specs.ObjectIndices.{TellGlobals, TellLiterals, TellWhich}
use Rattle.mon_syntax.proofs.ObjectIndices.{globals_begin, globals_step, literals_begin, literals_step, which_begin, which_step}
use Rattle.mon_syntax.proofs.object_indices.indices_of.Goals as goal

pub turn-init : goal.turn-init
turn-init c =
    let all = static_objects (plain_program c.args.program.now) in
    let left = in_text_order (map plain_decl c.deref.result.now) (map plain_text c.deref-2.result.now) in
    let start : left ≡ all = λ i. in_text_order (map plain_decl (c.deref.ensures.value i)) (map plain_text (c.deref-2.ensures.value i)) in
    let none : (x : ℕ) → get nat_eq c.new.result x ≡ None = λ x. search rules in
    record {
      globals = globals_begin (get nat_eq c.new.result) left all none start;
      which = which_begin (get nat_eq c.new.result) left all none start;
      literals = literals_begin c.new-2.result.items left all (search rules) start;
    }

pub turn-preserved : goal.turn-preserved
turn-preserved c =
    let all = static_objects (plain_program c.args.program.now) in
    let o = plain_object c.in-Some.object in
    let os = objects_left c.in-Some.rest in
    let left = objects_left c.turn.left in
    let here = rw c.in-Some.is at c.next.ensures in
    let old = c.turn.indices in
    let new = c.note_object.new.indices in
    let noted = c.in_ok-note_object.ensures in
    record {
      globals = globals_step (get nat_eq old.globals) (get nat_eq new.globals) old.count new.count o os left all here noted.globals noted.count c.turn.invariant.globals;
      which = which_step (get nat_eq old.globals) (get nat_eq new.globals) old.count o os left all here noted.globals c.turn.invariant.which;
      literals = literals_step old.literals.items new.literals.items old.count new.count o os left all here noted.literals noted.count c.turn.invariant.literals;
    }

pub returns-clause-globals : goal.returns-clause-globals
returns-clause-globals c =
    let none = rw c.in_default.is at c.next.ensures in
    subst (λ l. TellGlobals (get nat_eq c.turn.indices.globals) c.turn.indices.count l (static_objects (plain_program c.args.program.now))) (sym none) c.turn.invariant.globals

pub returns-clause-which : goal.returns-clause-which
returns-clause-which c =
    let none = rw c.in_default.is at c.next.ensures in
    subst (λ l. TellWhich (get nat_eq c.turn.indices.globals) l (static_objects (plain_program c.args.program.now))) (sym none) c.turn.invariant.which

pub returns-clause-literals : goal.returns-clause-literals
returns-clause-literals c =
    let none = rw c.in_default.is at c.next.ensures in
    subst (λ l. TellLiterals c.turn.indices.literals.items c.turn.indices.count l (static_objects (plain_program c.args.program.now))) (sym none) c.turn.invariant.literals
