-- Assignments and increments.
use Rattle.std.proofs.Common.{◌≡◌, ℕ, Bool, [], ◌∷◌, ◌++◌, length, map, refl, ap, sym, subst, ◌∙◌}
use Rattle.std.specs.Prelude.{IfOk, OnOk, Option, if◌then◌else◌, pos}
use Rattle.c_syntax.specs.declared.expression.BinOp.{BinOp}
use Rattle.c_syntax.specs.Ctypes.{int_type, plain_type}
use Rattle.c_syntax.specs.Expressions.{plain_expr}
use Rattle.c_syntax.specs.Layouts.{scalars_of}
use Rattle.c_syntax.specs.Programs.{plain_layout}
use Rattle.mon_syntax.specs.declared.tree.MonExpr.{MonExpr}
use Rattle.c_model.specs.Meaning.{bump_operator}
use Rattle.mon_syntax.specs.declared.tree.MonType.TheVariants.{I32, Ptr}
use Rattle.mon_syntax.specs.Registers.{next_register}
use Rattle.mon_syntax.specs.Trees.{Constant, plain_expr as plain_monitored, plain_stmts}
use Rattle.c_effects.specs.Expressions.{before, compound, value_type}
use Rattle.c_effects.specs.Full.{act_takes, inner_offset, member_type, object_register, object_setup, object_takes, object_type, takes}
use Rattle.c_effects.specs.Effects.{copies_at, variable_register}
use Rattle.c_effects.specs.Named.{unit_of, with_registers}
use Rattle.c_effects.specs.Objects.{assign_of}
use Rattle.c_effects.proofs.Objects.{direct_is, not_direct}
use Rattle.c_effects.proofs.Sequences.{nothing, registers_complete}
use Rattle.c_effects.proofs.Trees.{if_ok_then, on_ok, on_ok_then}
use Rattle.c_effects.specs.Letters.{ActHasLetters, ValueHasLetters}
use Rattle.c_evaluation.specs.Evaluated.{act_by, origin_by, prepare_by, result_by}
use Rattle.c_evaluation.specs.Ready.{early_new, early_setup, early_types, late_new, old_part, old_taken, old_types, right_part, right_setup, right_types}
use Rattle.c_evaluation.proofs.Acts.{taken_then}
use Rattle.c_evaluation.proofs.Assignments.{bump_setup_is, direct_letters, objects_are, old_part_is, old_register_is, old_taken_is, right_part_is, right_setup_is}
use Rattle.c_evaluation.proofs.Assignments.{struct_alone_code, struct_alone_takes, struct_code, struct_takes, struct_value}
use Rattle.c_evaluation.proofs.EvaluationTrees.{register_behind, set_behind, two}
use Rattle.c_evaluation.proofs.Operands.{bumped_is, early_is, late_is}
use Rattle.c_evaluation.proofs.Operands.{layouts_of, right_names_are, right_new_is, stepped_is}
use Rattle.c_evaluation.proofs.Stored.{assign_alone_is, assign_alone_names, assign_names_are, assign_setup_is, assign_value_is, bump_alone_is, bump_names_are, bump_new_is, bump_old_is, bump_value_is}
use Rattle.c_evaluation.proofs.Stored.{change_alone_is, change_alone_names, change_names_are, change_setup_is, change_value_is}
use Rattle.c_evaluation.proofs.+evaluation.Goals as goal

-- ---- assignments, with an operator or without one

pub assignment::assigned-returns-in-None-clause-value : goal.assignment::assigned-returns-in-None-clause-value
assignment::assigned-returns-in-None-clause-value t c =
    subst (λ (o : Option BinOp). IfOk c.assign.result (λ r. plain_monitored r.1 ≡ result_by c.args.names.now (assign_of o c.args.left.1.now c.args.left.0.now c.args.e.now))) (sym c.in-None.is) c.assign.ensures.value

pub assignment::assigned-returns-in-None-clause-setup : goal.assignment::assigned-returns-in-None-clause-setup
assignment::assigned-returns-in-None-clause-setup t c =
    subst (λ (o : Option BinOp). OnOk c.assign.result (plain_stmts c.assign.new.to.items ≡ before (plain_stmts c.args.to.now.items) (prepare_by c.args.names.now (assign_of o c.args.left.1.now c.args.left.0.now c.args.e.now)))) (sym
    c.in-None.is) c.assign.ensures.setup

pub assignment::assigned-returns-in-None-clause-names : goal.assignment::assigned-returns-in-None-clause-names
assignment::assigned-returns-in-None-clause-names t c =
    subst (λ (o : Option BinOp). OnOk c.assign.result (c.assign.new.names ≡ with_registers (takes (unit_of c.args.names.now) (assign_of o c.args.left.1.now c.args.left.0.now c.args.e.now)) c.args.names.now)) (sym c.in-None.is) c.assign.ensures.names

pub assignment::assigned-returns-in-None-clause-letters : goal.assignment::assigned-returns-in-None-clause-letters
assignment::assigned-returns-in-None-clause-letters t c =
    subst (λ (o : Option BinOp). OnOk c.assign.result (ValueHasLetters (assign_of o c.args.left.1.now c.args.left.0.now c.args.e.now))) (sym c.in-None.is) c.assign.ensures.letters

pub assignment::assigned-returns-in-Some-clause-value : goal.assignment::assigned-returns-in-Some-clause-value
assignment::assigned-returns-in-Some-clause-value t c =
    subst (λ (o : Option BinOp). IfOk c.change.result (λ r. plain_monitored r.1 ≡ result_by c.args.names.now (assign_of o c.args.left.1.now c.args.left.0.now c.args.e.now))) (sym c.in-Some.is) c.change.ensures.value

pub assignment::assigned-returns-in-Some-clause-setup : goal.assignment::assigned-returns-in-Some-clause-setup
assignment::assigned-returns-in-Some-clause-setup t c =
    subst (λ (o : Option BinOp). OnOk c.change.result (plain_stmts c.change.new.to.items ≡ before (plain_stmts c.args.to.now.items) (prepare_by c.args.names.now (assign_of o c.args.left.1.now c.args.left.0.now c.args.e.now)))) (sym
    c.in-Some.is) c.change.ensures.setup

pub assignment::assigned-returns-in-Some-clause-names : goal.assignment::assigned-returns-in-Some-clause-names
assignment::assigned-returns-in-Some-clause-names t c =
    subst (λ (o : Option BinOp). OnOk c.change.result (c.change.new.names ≡ with_registers (takes (unit_of c.args.names.now) (assign_of o c.args.left.1.now c.args.left.0.now c.args.e.now)) c.args.names.now)) (sym c.in-Some.is) c.change.ensures.names

pub assignment::assigned-returns-in-Some-clause-letters : goal.assignment::assigned-returns-in-Some-clause-letters
assignment::assigned-returns-in-Some-clause-letters t c =
    subst (λ (o : Option BinOp). OnOk c.change.result (ValueHasLetters (assign_of o c.args.left.1.now c.args.left.0.now c.args.e.now))) (sym c.in-Some.is) c.change.ensures.letters

pub assignment::assign_alone-returns-in-None-clause-setup : goal.assignment::assign_alone-returns-in-None-clause-setup
assignment::assign_alone-returns-in-None-clause-setup t c =
    subst (λ (o : Option BinOp). OnOk c.assign_only.result (plain_stmts c.assign_only.new.to.items ≡ before (plain_stmts c.args.to.now.items) (act_by c.args.names.now (assign_of o c.args.left.1.now c.args.left.0.now c.args.e.now)))) (sym
    c.in-None.is) c.assign_only.ensures.setup

pub assignment::assign_alone-returns-in-None-clause-names : goal.assignment::assign_alone-returns-in-None-clause-names
assignment::assign_alone-returns-in-None-clause-names t c =
    subst (λ (o : Option BinOp). OnOk c.assign_only.result (c.assign_only.new.names ≡ with_registers (act_takes (unit_of c.args.names.now) (assign_of o c.args.left.1.now c.args.left.0.now c.args.e.now)) c.args.names.now)) (sym c.in-None.is)
    c.assign_only.ensures.names

pub assignment::assign_alone-returns-in-None-clause-letters : goal.assignment::assign_alone-returns-in-None-clause-letters
assignment::assign_alone-returns-in-None-clause-letters t c =
    subst (λ (o : Option BinOp). OnOk c.assign_only.result (ActHasLetters (assign_of o c.args.left.1.now c.args.left.0.now c.args.e.now))) (sym c.in-None.is) c.assign_only.ensures.letters

pub assignment::assign_alone-returns-in-Some-clause-setup : goal.assignment::assign_alone-returns-in-Some-clause-setup
assignment::assign_alone-returns-in-Some-clause-setup t c =
    subst (λ (o : Option BinOp). OnOk c.change_only.result (plain_stmts c.change_only.new.to.items ≡ before (plain_stmts c.args.to.now.items) (act_by c.args.names.now (assign_of o c.args.left.1.now c.args.left.0.now c.args.e.now)))) (sym
    c.in-Some.is) c.change_only.ensures.setup

pub assignment::assign_alone-returns-in-Some-clause-names : goal.assignment::assign_alone-returns-in-Some-clause-names
assignment::assign_alone-returns-in-Some-clause-names t c =
    subst (λ (o : Option BinOp). OnOk c.change_only.result (c.change_only.new.names ≡ with_registers (act_takes (unit_of c.args.names.now) (assign_of o c.args.left.1.now c.args.left.0.now c.args.e.now)) c.args.names.now)) (sym c.in-Some.is)
    c.change_only.ensures.names

pub assignment::assign_alone-returns-in-Some-clause-letters : goal.assignment::assign_alone-returns-in-Some-clause-letters
assignment::assign_alone-returns-in-Some-clause-letters t c =
    subst (λ (o : Option BinOp). OnOk c.change_only.result (ActHasLetters (assign_of o c.args.left.1.now c.args.left.0.now c.args.e.now))) (sym c.in-Some.is) c.change_only.ensures.letters

-- ---- the object that is assigned to

pub assignment::object-returns-in-Some-clause-register : goal.assignment::object-returns-in-Some-clause-register
assignment::object-returns-in-Some-clause-register t c =
    let n = c.args.names.now in
    let e = plain_expr c.args.e.now in
    let d = direct_is n e c.in-Some.register (sym c.in-Some.is ∙ c.direct.ensures) in
    d.1 ∙ sym (ap (λ b. object_register b (variable_register n.table.bound e) (length (n.table.kinds ++ takes (unit_of n) e))) d.0)

pub assignment::object-returns-in-Some-clause-setup : goal.assignment::object-returns-in-Some-clause-setup
assignment::object-returns-in-Some-clause-setup t c =
    let n = c.args.names.now in
    let e = plain_expr c.args.e.now in
    let d = direct_is n e c.in-Some.register (sym c.in-Some.is ∙ c.direct.ensures) in
    nothing (plain_stmts c.args.to.now.items) _ (ap (λ b. object_setup b (length (n.table.kinds ++ takes (unit_of n) e)) (prepare_by n e) (origin_by n e)) d.0)

pub assignment::object-returns-in-Some-clause-names : goal.assignment::object-returns-in-Some-clause-names
assignment::object-returns-in-Some-clause-names t c =
    let n = c.args.names.now in
    let e = plain_expr c.args.e.now in
    let d = direct_is n e c.in-Some.register (sym c.in-Some.is ∙ c.direct.ensures) in
    registers_complete n (ap (λ b. object_type b (takes (unit_of n) e)) d.0) refl

pub assignment::object-returns-in-Some-clause-letters : goal.assignment::object-returns-in-Some-clause-letters
assignment::object-returns-in-Some-clause-letters t c =
    let n = c.args.names.now in
    let e = plain_expr c.args.e.now in
    direct_letters (unit_of n) e (direct_is n e c.in-Some.register (sym c.in-Some.is ∙ c.direct.ensures)).0

pub assignment::object-returns-in-None-clause-register : goal.assignment::object-returns-in-None-clause-register
assignment::object-returns-in-None-clause-register t c =
    let n = c.args.names.now in
    let e = plain_expr c.args.e.now in
    let d = not_direct n e (sym c.in-None.is ∙ c.direct.ensures) in
    subst (λ (b : Bool). IfOk c.pointing.result (λ r. r ≡ object_register b (variable_register n.table.bound e) (length (n.table.kinds ++ takes (unit_of n) e)))) (sym d) c.pointing.ensures.register

pub assignment::object-returns-in-None-clause-setup : goal.assignment::object-returns-in-None-clause-setup
assignment::object-returns-in-None-clause-setup t c =
    let n = c.args.names.now in
    let e = plain_expr c.args.e.now in
    let d = not_direct n e (sym c.in-None.is ∙ c.direct.ensures) in
    subst (λ (b : Bool). OnOk c.pointing.result (plain_stmts c.pointing.new.to.items ≡ before (plain_stmts c.args.to.now.items)
    (object_setup b (length (n.table.kinds ++ takes (unit_of n) e)) (prepare_by n e) (origin_by n e)))) (sym d) c.pointing.ensures.setup

pub assignment::object-returns-in-None-clause-names : goal.assignment::object-returns-in-None-clause-names
assignment::object-returns-in-None-clause-names t c =
    let n = c.args.names.now in
    let e = plain_expr c.args.e.now in
    let d = not_direct n e (sym c.in-None.is ∙ c.direct.ensures) in
    subst (λ (b : Bool). OnOk c.pointing.result (c.pointing.new.names ≡ with_registers (object_type b (takes (unit_of n) e)) n)) (sym d) c.pointing.ensures.names

pub assignment::pointing-returns-clause-register : goal.assignment::pointing-returns-clause-register
assignment::pointing-returns-clause-register t c =
    if_ok_then c.in_register.result (λ (r : ℕ) last. register_behind c.args.names.now c.origin.new.names (plain_expr c.args.e.now) c.in_ok-object.ensures.names {r = r} last) c.in_register.ensures.register

pub assignment::pointing-returns-clause-setup : goal.assignment::pointing-returns-clause-setup
assignment::pointing-returns-clause-setup t c =
    let object = c.in_ok-object in
    on_ok_then c.in_register.result (set_behind c.args.names.now c.origin.new.names (plain_stmts c.args.to.now.items) (plain_expr c.args.e.now) (plain_monitored object.object) (origin_by c.args.names.now (plain_expr c.args.e.now))
    object.ensures.setup object.ensures.names object.ensures.value) c.in_register.ensures.setup

pub assignment::pointing-returns-clause-names : goal.assignment::pointing-returns-clause-names
assignment::pointing-returns-clause-names t c =
    on_ok_then c.in_register.result (taken_then c.args.names.now (takes (unit_of c.args.names.now) (plain_expr c.args.e.now)) (λ p. Ptr ∷ []) c.in_ok-object.ensures.names) c.in_register.ensures.names

-- ---- what is ready to be stored

pub assignment::right_ready-returns-clause-part : goal.assignment::right_ready-returns-clause-part
assignment::right_ready-returns-clause-part t c =
    let object = c.in_ok-object in
    let right = c.in_ok-right in
    right_part_is c.args.names.now c.object.new.names (plain_stmts c.args.to.now.items) (plain_stmts c.object.new.to.items) (plain_expr c.args.left.now) object.object object.ensures.register
    object.ensures.setup object.ensures.names c.value.new.names (plain_stmts c.value.new.to.items) (plain_stmts c.member_in.new.to.items) (plain_expr c.args.e.now) right.ensures.setup right.ensures.names
    c.in_ok-part.part c.in_ok-part.ensures.register

pub assignment::right_ready-returns-clause-setup : goal.assignment::right_ready-returns-clause-setup
assignment::right_ready-returns-clause-setup t c =
    let object = c.in_ok-object in
    let right = c.in_ok-right in
    right_setup_is c.args.names.now c.object.new.names (plain_stmts c.args.to.now.items) (plain_stmts c.object.new.to.items) (plain_expr c.args.left.now) object.object object.ensures.register
    object.ensures.setup object.ensures.names c.value.new.names (plain_stmts c.value.new.to.items) (plain_stmts c.member_in.new.to.items) (plain_expr c.args.e.now) right.ensures.setup right.ensures.names
    c.in_ok-part.ensures.setup

pub assignment::old_ready-returns-clause-part : goal.assignment::old_ready-returns-clause-part
assignment::old_ready-returns-clause-part t c =
    let object = c.in_ok-object in
    old_part_is c.args.names.now c.object.new.names (plain_stmts c.args.to.now.items) (plain_stmts c.object.new.to.items) (plain_expr c.args.left.0.now) object.object object.ensures.register
    object.ensures.setup object.ensures.names (plain_stmts c.member_in.new.to.items) c.in_ok-part.part c.in_ok-part.ensures.register

pub assignment::old_ready-returns-clause-value : goal.assignment::old_ready-returns-clause-value
assignment::old_ready-returns-clause-value t c =
    let object = c.in_ok-object in
    old_register_is c.args.names.now c.object.new.names (plain_stmts c.args.to.now.items) (plain_stmts c.object.new.to.items) (plain_expr c.args.left.0.now) object.object object.ensures.register
    object.ensures.setup object.ensures.names (plain_stmts c.member_in.new.to.items) c.member_in.new.names c.in_ok-value.value c.in_ok-part.ensures.names c.in_ok-value.ensures.register

pub assignment::old_ready-returns-clause-setup : goal.assignment::old_ready-returns-clause-setup
assignment::old_ready-returns-clause-setup t c =
    let object = c.in_ok-object in
    let part = c.in_ok-part in
    old_taken_is c.args.names.now c.object.new.names (plain_stmts c.args.to.now.items) (plain_stmts c.object.new.to.items) (plain_expr c.args.left.0.now) object.object object.ensures.register
    object.ensures.setup object.ensures.names (plain_stmts c.member_in.new.to.items) c.member_in.new.names (plain_stmts c.in_register.new.to.items) (plain_type c.args.left.1.now) part.part
    (next_register c.member_in.new.names.table) (plain_monitored c.in_ok-old.old) part.ensures.setup part.ensures.register part.ensures.names refl c.in_ok-old.ensures c.in_ok-value.ensures.setup

pub assignment::old_ready-returns-clause-names : goal.assignment::old_ready-returns-clause-names
assignment::old_ready-returns-clause-names t c =
    let n = c.args.names.now in
    let a = plain_expr c.args.left.0.now in
    let reached = taken_then n (object_takes (unit_of n) a) (λ p. member_type a) c.in_ok-object.ensures.names c.in_ok-part.ensures.names in
    taken_then n (object_takes (unit_of n) a ++ member_type a) (λ p. value_type (plain_type c.args.left.1.now) ∷ []) reached
    (c.in_ok-value.ensures.names ∙ ap (λ u. with_registers (u ∷ []) c.member_in.new.names) c.value_type.ensures)

pub assignment::bump_ready-returns-clause-part : goal.assignment::bump_ready-returns-clause-part
assignment::bump_ready-returns-clause-part t c =
    let object = c.in_ok-object in
    old_part_is c.args.names.now c.object.new.names (plain_stmts c.args.to.now.items) (plain_stmts c.object.new.to.items) (plain_expr c.args.left.0.now) object.object object.ensures.register
    object.ensures.setup object.ensures.names (plain_stmts c.member_in.new.to.items) c.in_ok-part.part c.in_ok-part.ensures.register

pub assignment::bump_ready-returns-clause-setup : goal.assignment::bump_ready-returns-clause-setup
assignment::bump_ready-returns-clause-setup t c =
    let object = c.in_ok-object in
    bump_setup_is c.args.names.now c.object.new.names (plain_stmts c.args.to.now.items) (plain_stmts c.object.new.to.items) (plain_expr c.args.left.0.now) object.object object.ensures.register
    object.ensures.setup object.ensures.names (plain_stmts c.member_in.new.to.items) c.in_ok-part.ensures.setup

pub assignment::read_before-returns-clause-setup : goal.assignment::read_before-returns-clause-setup
assignment::read_before-returns-clause-setup t c =
    let n = c.args.names.now in
    let u = plain_type c.args.left.1.now in
    let a = plain_expr c.args.left.0.now in
    two c.old_ready.new.names (with_registers (old_types n u a) n) (plain_stmts c.args.to.now.items) (old_taken n u a) (λ m. prepare_by m (plain_expr c.args.e.now))
    c.in_ok-taken.ensures.setup c.in_ok-taken.ensures.names c.in_ok-right.ensures.setup

-- ---- `op=` by whether its right side is pure

pub assignment::change_ready-returns-then-is_pure-clause-part : goal.assignment::change_ready-returns-then-is_pure-clause-part
assignment::change_ready-returns-then-is_pure-clause-part t c =
    let n = c.args.names.now in
    let u = plain_type c.args.left.1.now in
    let a = plain_expr c.args.left.0.now in
    let b = plain_expr c.args.e.now in
    subst (λ (q : Bool). IfOk c.read_after.result (λ r. r.part ≡ (if q then right_part n a b else old_part n a))) (sym (sym c.is_pure.ensures ∙ c.if-is_pure.true)) c.read_after.ensures.part

pub assignment::change_ready-returns-then-is_pure-clause-value : goal.assignment::change_ready-returns-then-is_pure-clause-value
assignment::change_ready-returns-then-is_pure-clause-value t c =
    let n = c.args.names.now in
    let u = plain_type c.args.left.1.now in
    let a = plain_expr c.args.left.0.now in
    let b = plain_expr c.args.e.now in
    subst (λ (q : Bool). IfOk c.read_after.result (λ r. plain_monitored r.value ≡ (if q then late_new n c.args.op u a b else early_new n c.args.op u a b))) (sym (sym c.is_pure.ensures ∙ c.if-is_pure.true)) c.read_after.ensures.value

pub assignment::change_ready-returns-then-is_pure-clause-setup : goal.assignment::change_ready-returns-then-is_pure-clause-setup
assignment::change_ready-returns-then-is_pure-clause-setup t c =
    let n = c.args.names.now in
    let u = plain_type c.args.left.1.now in
    let a = plain_expr c.args.left.0.now in
    let b = plain_expr c.args.e.now in
    subst (λ (q : Bool). OnOk c.read_after.result (plain_stmts c.read_after.new.to.items ≡ before (plain_stmts c.args.to.now.items) (if q then right_setup n a b else early_setup n u a b))) (sym (sym c.is_pure.ensures ∙ c.if-is_pure.true))
    c.read_after.ensures.setup

pub assignment::change_ready-returns-then-is_pure-clause-names : goal.assignment::change_ready-returns-then-is_pure-clause-names
assignment::change_ready-returns-then-is_pure-clause-names t c =
    let n = c.args.names.now in
    let u = plain_type c.args.left.1.now in
    let a = plain_expr c.args.left.0.now in
    let b = plain_expr c.args.e.now in
    subst (λ (q : Bool). OnOk c.read_after.result (c.read_after.new.names ≡ with_registers (if q then right_types n a b else early_types n u a b) n)) (sym (sym c.is_pure.ensures ∙ c.if-is_pure.true)) c.read_after.ensures.names

pub assignment::change_ready-returns-else-is_pure-clause-part : goal.assignment::change_ready-returns-else-is_pure-clause-part
assignment::change_ready-returns-else-is_pure-clause-part t c =
    let n = c.args.names.now in
    let u = plain_type c.args.left.1.now in
    let a = plain_expr c.args.left.0.now in
    let b = plain_expr c.args.e.now in
    subst (λ (q : Bool). IfOk c.read_before.result (λ r. r.part ≡ (if q then right_part n a b else old_part n a))) (sym (sym c.is_pure.ensures ∙ c.if-is_pure.false)) c.read_before.ensures.part

pub assignment::change_ready-returns-else-is_pure-clause-value : goal.assignment::change_ready-returns-else-is_pure-clause-value
assignment::change_ready-returns-else-is_pure-clause-value t c =
    let n = c.args.names.now in
    let u = plain_type c.args.left.1.now in
    let a = plain_expr c.args.left.0.now in
    let b = plain_expr c.args.e.now in
    subst (λ (q : Bool). IfOk c.read_before.result (λ r. plain_monitored r.value ≡ (if q then late_new n c.args.op u a b else early_new n c.args.op u a b))) (sym (sym c.is_pure.ensures ∙ c.if-is_pure.false)) c.read_before.ensures.value

pub assignment::change_ready-returns-else-is_pure-clause-setup : goal.assignment::change_ready-returns-else-is_pure-clause-setup
assignment::change_ready-returns-else-is_pure-clause-setup t c =
    let n = c.args.names.now in
    let u = plain_type c.args.left.1.now in
    let a = plain_expr c.args.left.0.now in
    let b = plain_expr c.args.e.now in
    subst (λ (q : Bool). OnOk c.read_before.result (plain_stmts c.read_before.new.to.items ≡ before (plain_stmts c.args.to.now.items) (if q then right_setup n a b else early_setup n u a b))) (sym (sym c.is_pure.ensures ∙ c.if-is_pure.false))
    c.read_before.ensures.setup

pub assignment::change_ready-returns-else-is_pure-clause-names : goal.assignment::change_ready-returns-else-is_pure-clause-names
assignment::change_ready-returns-else-is_pure-clause-names t c =
    let n = c.args.names.now in
    let u = plain_type c.args.left.1.now in
    let a = plain_expr c.args.left.0.now in
    let b = plain_expr c.args.e.now in
    subst (λ (q : Bool). OnOk c.read_before.result (c.read_before.new.names ≡ with_registers (if q then right_types n a b else early_types n u a b) n)) (sym (sym c.is_pure.ensures ∙ c.if-is_pure.false)) c.read_before.ensures.names

-- ---- new values

pub assignment::read_after-returns-clause-value : goal.assignment::read_after-returns-clause-value
assignment::read_after-returns-clause-value t c =
    let n = c.args.names.now in
    let u = plain_type c.args.left.1.now in
    let a = plain_expr c.args.left.0.now in
    let b = plain_expr c.args.e.now in
    let ready = c.in_ok-ready in
    let layouts = c.layouts.ensures ∙ ap layouts_of ready.ensures.names in
    late_is n c.args.op u a b (ap (map plain_layout) layouts) ready.ready.part (plain_monitored c.in_ok-old.old) (plain_monitored ready.ready.value) ready.ensures.part c.in_ok-old.ensures ready.ensures.value c.in_ok-new.ensures

pub assignment::read_before-returns-clause-value : goal.assignment::read_before-returns-clause-value
assignment::read_before-returns-clause-value t c =
    let n = c.args.names.now in
    let u = plain_type c.args.left.1.now in
    let a = plain_expr c.args.left.0.now in
    let b = plain_expr c.args.e.now in
    let old = c.in_ok-taken in
    let right = c.in_ok-right in
    let layouts = c.layouts.ensures ∙ ap layouts_of right.ensures.names ∙ ap layouts_of old.ensures.names in
    early_is n c.args.op u a b (ap (map plain_layout) layouts) c.old_ready.new.names old.taken.value (plain_monitored c.in_ok-old.old) (plain_monitored right.right) old.ensures.names old.ensures.value c.in_ok-old.ensures
    right.ensures.value c.in_ok-new.ensures

pub assignment::read_before-returns-clause-names : goal.assignment::read_before-returns-clause-names
assignment::read_before-returns-clause-names t c =
    let n = c.args.names.now in
    let u = plain_type c.args.left.1.now in
    let a = plain_expr c.args.left.0.now in
    let b = plain_expr c.args.e.now in
    taken_then n (old_types n u a) (λ p. takes p b) c.in_ok-taken.ensures.names c.in_ok-right.ensures.names

pub assignment::bump_ready-returns-clause-value : goal.assignment::bump_ready-returns-clause-value
assignment::bump_ready-returns-clause-value t c =
    let n = c.args.names.now in
    let u = plain_type c.args.left.1.now in
    let a = plain_expr c.args.left.0.now in
    let object = c.in_ok-object in
    let part = c.in_ok-part in
    let layouts = ap layouts_of part.ensures.names ∙ ap layouts_of object.ensures.names in
    bumped_is n c.args.op u a (ap (map plain_layout) layouts) part.part (plain_monitored c.in_ok-old.old)
    (old_part_is n c.object.new.names (plain_stmts c.args.to.now.items) (plain_stmts c.object.new.to.items) a object.object object.ensures.register object.ensures.setup object.ensures.names
    (plain_stmts c.member_in.new.to.items) part.part part.ensures.register)
    c.in_ok-old.ensures c.in_ok-new.ensures

-- ---- what is stored

pub assignment::assign-returns-in_ok-value-clause-value : goal.assignment::assign-returns-in_ok-value-clause-value
assignment::assign-returns-in_ok-value-clause-value t c =
    let ready = c.in_ok-ready in
    assign_value_is c.args.names.now c.right_ready.new.names (plain_stmts c.args.to.now.items) (plain_stmts c.right_ready.new.to.items) (plain_stmts c.store_kept.new.to.items) c.args.left.0.now.place
    (plain_type c.args.left.1.now) (plain_expr c.args.left.0.now) (plain_expr c.args.e.now) ready.ready.part (plain_monitored ready.ready.value) (sym c.is_scalar.ensures ∙ c.if-is_scalar.true)
    ready.ensures.names ready.ensures.setup ready.ensures.part ready.ensures.value c.is_settled.result c.is_settled.ensures c.in_ok-value.ensures.value

pub assignment::assign-returns-in_ok-value-clause-setup : goal.assignment::assign-returns-in_ok-value-clause-setup
assignment::assign-returns-in_ok-value-clause-setup t c =
    let ready = c.in_ok-ready in
    assign_setup_is c.args.names.now c.right_ready.new.names (plain_stmts c.args.to.now.items) (plain_stmts c.right_ready.new.to.items) (plain_stmts c.store_kept.new.to.items) c.args.left.0.now.place
    (plain_type c.args.left.1.now) (plain_expr c.args.left.0.now) (plain_expr c.args.e.now) ready.ready.part (plain_monitored ready.ready.value) (sym c.is_scalar.ensures ∙ c.if-is_scalar.true)
    ready.ensures.names ready.ensures.setup ready.ensures.part ready.ensures.value c.is_settled.result c.is_settled.ensures c.in_ok-value.ensures.setup

pub assignment::assign-returns-in_ok-value-clause-names : goal.assignment::assign-returns-in_ok-value-clause-names
assignment::assign-returns-in_ok-value-clause-names t c =
    let ready = c.in_ok-ready in
    assign_names_are c.args.names.now c.right_ready.new.names (plain_stmts c.args.to.now.items) (plain_stmts c.right_ready.new.to.items) (plain_stmts c.store_kept.new.to.items) c.args.left.0.now.place
    (plain_type c.args.left.1.now) (plain_expr c.args.left.0.now) (plain_expr c.args.e.now) ready.ready.part (plain_monitored ready.ready.value) (sym c.is_scalar.ensures ∙ c.if-is_scalar.true)
    ready.ensures.names ready.ensures.setup ready.ensures.part ready.ensures.value c.is_settled.result c.is_settled.ensures c.in_ok-value.ensures.names

pub assignment::change-returns-clause-value : goal.assignment::change-returns-clause-value
assignment::change-returns-clause-value t c =
    let ready = c.in_ok-ready in
    change_value_is c.args.names.now c.change_ready.new.names (plain_stmts c.args.to.now.items) (plain_stmts c.change_ready.new.to.items) (plain_stmts c.store_kept.new.to.items) c.args.left.0.now.place
    (plain_type c.args.left.1.now) (plain_expr c.args.left.0.now) (plain_expr c.args.e.now) ready.ready.part (plain_monitored ready.ready.value) c.args.op
    ready.ensures.names ready.ensures.setup ready.ensures.part ready.ensures.value c.in_ok-value.ensures.value

pub assignment::change-returns-clause-setup : goal.assignment::change-returns-clause-setup
assignment::change-returns-clause-setup t c =
    let ready = c.in_ok-ready in
    change_setup_is c.args.names.now c.change_ready.new.names (plain_stmts c.args.to.now.items) (plain_stmts c.change_ready.new.to.items) (plain_stmts c.store_kept.new.to.items) c.args.left.0.now.place
    (plain_type c.args.left.1.now) (plain_expr c.args.left.0.now) (plain_expr c.args.e.now) ready.ready.part (plain_monitored ready.ready.value) c.args.op
    ready.ensures.names ready.ensures.setup ready.ensures.part ready.ensures.value c.in_ok-value.ensures.setup

pub assignment::change-returns-clause-names : goal.assignment::change-returns-clause-names
assignment::change-returns-clause-names t c =
    let ready = c.in_ok-ready in
    change_names_are c.args.names.now c.change_ready.new.names (plain_stmts c.args.to.now.items) (plain_stmts c.change_ready.new.to.items) (plain_stmts c.store_kept.new.to.items) c.args.left.0.now.place
    (plain_type c.args.left.1.now) (plain_expr c.args.left.0.now) (plain_expr c.args.e.now) ready.ready.part (plain_monitored ready.ready.value) c.args.op
    ready.ensures.names ready.ensures.setup ready.ensures.part ready.ensures.value c.in_ok-value.ensures.names

pub assignment::bumped-returns-in_ok-store-clause-setup : goal.assignment::bumped-returns-in_ok-store-clause-setup
assignment::bumped-returns-in_ok-store-clause-setup t c =
    let old = c.in_ok-taken in
    on_ok c.register-then-gives_old.result
    (bump_old_is c.args.names.now c.old_ready.new.names (plain_stmts c.args.to.now.items) (plain_stmts c.old_ready.new.to.items) (plain_stmts c.store.new.to.items) c.args.left.0.now.place
    (plain_type c.args.left.1.now) (plain_expr c.args.left.0.now) c.args.op old.taken.part (plain_monitored c.in_ok-new.new) old.ensures.part (sym c.gives_old.ensures ∙ c.if-gives_old.true)
    old.ensures.setup old.taken.value old.ensures.value
    (c.in_ok-new.ensures ∙ (λ i. compound (unit_of (old.ensures.names i)).structs (bump_operator c.args.op) (plain_type c.args.left.1.now) int_type (c.in_ok-old.ensures i) (Constant I32 (pos 1))))
    c.in_ok-store.ensures)

pub assignment::bumped-returns-in_ok-ready-clause-setup : goal.assignment::bumped-returns-in_ok-ready-clause-setup
assignment::bumped-returns-in_ok-ready-clause-setup t c =
    let ready = c.in_ok-ready in
    on_ok_then c.store_kept.result
    (bump_new_is c.args.names.now c.bump_ready.new.names (plain_stmts c.args.to.now.items) (plain_stmts c.bump_ready.new.to.items) (plain_stmts c.store_kept.new.to.items) c.args.left.0.now.place
    (plain_type c.args.left.1.now) (plain_expr c.args.left.0.now) c.args.op ready.ready.part (plain_monitored ready.ready.value) ready.ensures.part
    ready.ensures.names ready.ensures.setup ready.ensures.value (sym c.gives_old.ensures ∙ c.if-gives_old.false))
    c.store_kept.ensures.setup

-- ---- structs

pub assignment::assign_object-returns-clause-setup : goal.assignment::assign_object-returns-clause-setup
assignment::assign_object-returns-clause-setup t c =
    let n = c.args.names.now in
    let u = plain_type c.args.left.1.now in
    let a = plain_expr c.args.left.0.now in
    let b = plain_expr c.args.e.now in
    let place = c.in_ok-place in
    let source = c.in_ok-source in
    let first = c.in_ok-first in
    let second = c.in_ok-second in
    let layouts = c.layouts-layouts.ensures ∙ ap layouts_of source.ensures.names ∙ ap layouts_of place.ensures.names in
    let t2 = plain_stmts c.object-2.new.to.items in
    objects_are n c.object.new.names (plain_stmts c.args.to.now.items) (plain_stmts c.object.new.to.items) t2 (plain_stmts c.copy_all.new.to.items) u a b
    place.place first.first.offset source.source second.second.offset place.ensures.register place.ensures.setup place.ensures.names source.ensures.register source.ensures.setup
    (first.ensures.offset ∙ ap (λ l. inner_offset (map plain_layout l) a) layouts) (second.ensures.offset ∙ ap (λ l. inner_offset (map plain_layout l) b) layouts)
    (c.in_ok-copy_all.ensures ∙ (λ i. before t2 (copies_at (first.ensures.register i) first.first.offset (second.ensures.register i) second.second.offset (scalars_of (map plain_layout (layouts i)) u))))

pub assignment::assign_object-returns-clause-names : goal.assignment::assign_object-returns-clause-names
assignment::assign_object-returns-clause-names t c =
    let n = c.args.names.now in
    let u = plain_type c.args.left.1.now in
    let a = plain_expr c.args.left.0.now in
    let b = plain_expr c.args.e.now in
    taken_then n (object_takes (unit_of n) a) (λ p. object_takes p b) c.in_ok-place.ensures.names c.in_ok-source.ensures.names

pub assignment::assign-returns-in_ok-nothing-clause-value : goal.assignment::assign-returns-in_ok-nothing-clause-value
assignment::assign-returns-in_ok-nothing-clause-value t c =
    let n = c.args.names.now in
    let u = plain_type c.args.left.1.now in
    let a = plain_expr c.args.left.0.now in
    let b = plain_expr c.args.e.now in
    struct_value n c.args.left.0.now.place u a b (sym c.is_scalar.ensures ∙ c.if-is_scalar.false) (plain_monitored c.in_ok-nothing.nothing) c.in_ok-nothing.ensures

pub assignment::assign-returns-in_ok-nothing-clause-setup : goal.assignment::assign-returns-in_ok-nothing-clause-setup
assignment::assign-returns-in_ok-nothing-clause-setup t c =
    let n = c.args.names.now in
    let u = plain_type c.args.left.1.now in
    let a = plain_expr c.args.left.0.now in
    let b = plain_expr c.args.e.now in
    c.in_ok-object.ensures.setup ∙ ap (before (plain_stmts c.args.to.now.items)) (struct_code n c.args.left.0.now.place u a b (sym c.is_scalar.ensures ∙ c.if-is_scalar.false))

pub assignment::assign-returns-in_ok-nothing-clause-names : goal.assignment::assign-returns-in_ok-nothing-clause-names
assignment::assign-returns-in_ok-nothing-clause-names t c =
    let n = c.args.names.now in
    let u = plain_type c.args.left.1.now in
    let a = plain_expr c.args.left.0.now in
    let b = plain_expr c.args.e.now in
    c.in_ok-object.ensures.names ∙ ap (λ ts. with_registers ts n) (struct_takes n c.args.left.0.now.place u a b (sym c.is_scalar.ensures ∙ c.if-is_scalar.false))

pub assignment::assign_only-returns-in_ok-assign_object-clause-setup : goal.assignment::assign_only-returns-in_ok-assign_object-clause-setup
assignment::assign_only-returns-in_ok-assign_object-clause-setup t c =
    let n = c.args.names.now in
    let u = plain_type c.args.left.1.now in
    let a = plain_expr c.args.left.0.now in
    let b = plain_expr c.args.e.now in
    c.in_ok-assign_object.ensures.setup ∙ ap (before (plain_stmts c.args.to.now.items)) (struct_alone_code n c.args.left.0.now.place u a b (sym c.is_scalar.ensures ∙ c.if-is_scalar.false))

pub assignment::assign_only-returns-in_ok-assign_object-clause-names : goal.assignment::assign_only-returns-in_ok-assign_object-clause-names
assignment::assign_only-returns-in_ok-assign_object-clause-names t c =
    let n = c.args.names.now in
    let u = plain_type c.args.left.1.now in
    let a = plain_expr c.args.left.0.now in
    let b = plain_expr c.args.e.now in
    c.in_ok-assign_object.ensures.names ∙ ap (λ ts. with_registers ts n) (struct_alone_takes n c.args.left.0.now.place u a b (sym c.is_scalar.ensures ∙ c.if-is_scalar.false))

-- ---- effects alone

pub assignment::assign_only-returns-in_ok-ready-clause-setup : goal.assignment::assign_only-returns-in_ok-ready-clause-setup
assignment::assign_only-returns-in_ok-ready-clause-setup t c =
    let n = c.args.names.now in
    let u = plain_type c.args.left.1.now in
    let a = plain_expr c.args.left.0.now in
    let b = plain_expr c.args.e.now in
    let ready = c.in_ok-ready in
    on_ok_then c.store.result (assign_alone_is n c.right_ready.new.names (plain_stmts c.args.to.now.items) (plain_stmts c.right_ready.new.to.items) (plain_stmts c.store.new.to.items) c.args.left.0.now.place u a b ready.ready.part (plain_monitored
    ready.ready.value) (sym c.is_scalar.ensures ∙ c.if-is_scalar.true) ready.ensures.names ready.ensures.setup ready.ensures.part ready.ensures.value) c.store.ensures

pub assignment::assign_only-returns-in_ok-ready-clause-names : goal.assignment::assign_only-returns-in_ok-ready-clause-names
assignment::assign_only-returns-in_ok-ready-clause-names t c =
    let n = c.args.names.now in
    let u = plain_type c.args.left.1.now in
    let a = plain_expr c.args.left.0.now in
    let b = plain_expr c.args.e.now in
    let ready = c.in_ok-ready in
    on_ok c.store.result (assign_alone_names n c.right_ready.new.names (plain_stmts c.args.to.now.items) (plain_stmts c.right_ready.new.to.items) (plain_stmts c.store.new.to.items) c.args.left.0.now.place u a b ready.ready.part (plain_monitored
    ready.ready.value) (sym c.is_scalar.ensures ∙ c.if-is_scalar.true) ready.ensures.names ready.ensures.setup ready.ensures.part ready.ensures.value)

pub assignment::change_only-returns-clause-setup : goal.assignment::change_only-returns-clause-setup
assignment::change_only-returns-clause-setup t c =
    let n = c.args.names.now in
    let u = plain_type c.args.left.1.now in
    let a = plain_expr c.args.left.0.now in
    let b = plain_expr c.args.e.now in
    let ready = c.in_ok-ready in
    on_ok_then c.store.result (change_alone_is n c.change_ready.new.names (plain_stmts c.args.to.now.items) (plain_stmts c.change_ready.new.to.items) (plain_stmts c.store.new.to.items) c.args.left.0.now.place u a b ready.ready.part (plain_monitored
    ready.ready.value) c.args.op ready.ensures.names ready.ensures.setup ready.ensures.part ready.ensures.value) c.store.ensures

pub assignment::change_only-returns-clause-names : goal.assignment::change_only-returns-clause-names
assignment::change_only-returns-clause-names t c =
    let n = c.args.names.now in
    let u = plain_type c.args.left.1.now in
    let a = plain_expr c.args.left.0.now in
    let b = plain_expr c.args.e.now in
    let ready = c.in_ok-ready in
    on_ok c.store.result (change_alone_names n c.change_ready.new.names (plain_stmts c.args.to.now.items) (plain_stmts c.change_ready.new.to.items) (plain_stmts c.store.new.to.items) c.args.left.0.now.place u a b ready.ready.part (plain_monitored
    ready.ready.value) c.args.op ready.ensures.names ready.ensures.setup ready.ensures.part ready.ensures.value)

pub assignment::bump_alone-returns-clause-setup : goal.assignment::bump_alone-returns-clause-setup
assignment::bump_alone-returns-clause-setup t c =
    let n = c.args.names.now in
    let u = plain_type c.args.left.1.now in
    let a = plain_expr c.args.left.0.now in
    let ready = c.in_ok-ready in
    on_ok_then c.store.result (bump_alone_is n c.bump_ready.new.names (plain_stmts c.args.to.now.items) (plain_stmts c.bump_ready.new.to.items) (plain_stmts c.store.new.to.items) c.args.left.0.now.place u a c.args.op ready.ready.part (plain_monitored
    ready.ready.value) ready.ensures.part ready.ensures.names ready.ensures.setup ready.ensures.value) c.store.ensures

pub assignment::bumped-returns-in_ok-ready-clause-value : goal.assignment::bumped-returns-in_ok-ready-clause-value
assignment::bumped-returns-in_ok-ready-clause-value t c =
    let ready = c.in_ok-ready in
    if_ok_then c.store_kept.result (λ (m : MonExpr) last. bump_value_is c.args.names.now c.bump_ready.new.names (plain_stmts c.args.to.now.items) (plain_stmts c.bump_ready.new.to.items) (plain_stmts c.store_kept.new.to.items) c.args.left.0.now.place
    (plain_type c.args.left.1.now) (plain_expr c.args.left.0.now) c.args.op ready.ready.part (plain_monitored ready.ready.value) ready.ensures.part ready.ensures.names ready.ensures.setup ready.ensures.value {m = plain_monitored m} last)
    c.store_kept.ensures.value

pub assignment::bumped-returns-in_ok-ready-clause-names : goal.assignment::bumped-returns-in_ok-ready-clause-names
assignment::bumped-returns-in_ok-ready-clause-names t c =
    let ready = c.in_ok-ready in
    on_ok_then c.store_kept.result (λ last. bump_names_are c.args.names.now c.bump_ready.new.names (plain_stmts c.args.to.now.items) (plain_stmts c.bump_ready.new.to.items) (plain_stmts c.store_kept.new.to.items) c.args.left.0.now.place
    (plain_type c.args.left.1.now) (plain_expr c.args.left.0.now) c.args.op ready.ready.part (plain_monitored ready.ready.value) ready.ensures.part ready.ensures.names ready.ensures.setup ready.ensures.value {n2 = c.store_kept.new.names} last)
    c.store_kept.ensures.names

-- ---- registers and new values behind others

pub assignment::right_ready-returns-clause-value : goal.assignment::right_ready-returns-clause-value
assignment::right_ready-returns-clause-value t c =
    let object = c.in_ok-object in
    right_new_is c.args.names.now c.object.new.names c.value.new.names c.member_in.new.names (plain_expr c.args.left.now) (plain_expr c.args.e.now) object.ensures.names c.in_ok-right.ensures.value

pub assignment::right_ready-returns-clause-names : goal.assignment::right_ready-returns-clause-names
assignment::right_ready-returns-clause-names t c =
    let object = c.in_ok-object in
    right_names_are c.args.names.now c.object.new.names c.value.new.names c.member_in.new.names (plain_expr c.args.left.now) (plain_expr c.args.e.now) object.ensures.names c.in_ok-right.ensures.names c.in_ok-part.ensures.names

pub assignment::assigned_location-returns-clause-value : goal.assignment::assigned_location-returns-clause-value
assignment::assigned_location-returns-clause-value t c =
    let n = c.args.names.now in
    let made = c.in_ok-object in
    let layouts = c.layouts.ensures ∙ ap layouts_of made.ensures.names in
    if_ok_then c.stepped.result (λ (m : MonExpr) last. stepped_is n (plain_expr c.args.left.0.now) {m = plain_monitored m} made.object (ap (map plain_layout) layouts) made.ensures.object last) c.stepped.ensures

-- ---- letters of two sides

pub assignment::right_ready-returns-clause-letters : goal.assignment::right_ready-returns-clause-letters
assignment::right_ready-returns-clause-letters t c = (c.in_ok-object.ensures.letters, c.in_ok-right.ensures.letters)

pub assignment::read_before-returns-clause-letters : goal.assignment::read_before-returns-clause-letters
assignment::read_before-returns-clause-letters t c = (c.in_ok-taken.ensures.letters, c.in_ok-right.ensures.letters)

pub assignment::assign_object-returns-clause-letters : goal.assignment::assign_object-returns-clause-letters
assignment::assign_object-returns-clause-letters t c = (c.in_ok-place.ensures.letters, c.in_ok-source.ensures.letters)
