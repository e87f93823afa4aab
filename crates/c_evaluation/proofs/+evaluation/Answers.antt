mod Evaluation
mod Assignment
mod Act
use Rattle.c_evaluation.proofs.+evaluation.Goals as goal
use Rattle.c_evaluation.proofs.+evaluation.Answers.Evaluation as evaluations
use Rattle.c_evaluation.proofs.+evaluation.Answers.Assignment as assignments
use Rattle.c_evaluation.proofs.+evaluation.Answers.Act as acts

pub evaluation::value-binary-requires : goal.evaluation::value-binary-requires
evaluation::value-binary-requires = evaluations.evaluation::value-binary-requires

pub evaluation::value-and-requires : goal.evaluation::value-and-requires
evaluation::value-and-requires = evaluations.evaluation::value-and-requires

pub evaluation::value-or-requires : goal.evaluation::value-or-requires
evaluation::value-or-requires = evaluations.evaluation::value-or-requires

pub evaluation::value-choice-requires : goal.evaluation::value-choice-requires
evaluation::value-choice-requires = evaluations.evaluation::value-choice-requires

pub evaluation::value-assigned_value-requires : goal.evaluation::value-assigned_value-requires
evaluation::value-assigned_value-requires = evaluations.evaluation::value-assigned_value-requires

pub evaluation::value-element_value-requires : goal.evaluation::value-element_value-requires
evaluation::value-element_value-requires = evaluations.evaluation::value-element_value-requires

pub evaluation::location-element-requires : goal.evaluation::location-element-requires
evaluation::location-element-requires = evaluations.evaluation::location-element-requires

pub evaluation::location-assigned_location-requires : goal.evaluation::location-assigned_location-requires
evaluation::location-assigned_location-requires = evaluations.evaluation::location-assigned_location-requires

pub evaluation::origin-assigned_origin-requires : goal.evaluation::origin-assigned_origin-requires
evaluation::origin-assigned_origin-requires = evaluations.evaluation::origin-assigned_origin-requires

pub evaluation::value-second_value-requires : goal.evaluation::value-second_value-requires
evaluation::value-second_value-requires = evaluations.evaluation::value-second_value-requires

pub evaluation::location-second_location-requires : goal.evaluation::location-second_location-requires
evaluation::location-second_location-requires = evaluations.evaluation::location-second_location-requires

pub evaluation::origin-second_origin-requires : goal.evaluation::origin-second_origin-requires
evaluation::origin-second_origin-requires = evaluations.evaluation::origin-second_origin-requires

pub evaluation::binary-returns-clause-setup : goal.evaluation::binary-returns-clause-setup
evaluation::binary-returns-clause-setup = evaluations.evaluation::binary-returns-clause-setup

pub evaluation::element-returns-clause-setup : goal.evaluation::element-returns-clause-setup
evaluation::element-returns-clause-setup = evaluations.evaluation::element-returns-clause-setup

pub evaluation::and-returns-clause-setup : goal.evaluation::and-returns-clause-setup
evaluation::and-returns-clause-setup = evaluations.evaluation::and-returns-clause-setup

pub evaluation::or-returns-clause-setup : goal.evaluation::or-returns-clause-setup
evaluation::or-returns-clause-setup = evaluations.evaluation::or-returns-clause-setup

pub evaluation::choice-returns-clause-setup : goal.evaluation::choice-returns-clause-setup
evaluation::choice-returns-clause-setup = evaluations.evaluation::choice-returns-clause-setup

pub evaluation::operand-returns-clause-value : goal.evaluation::operand-returns-clause-value
evaluation::operand-returns-clause-value = evaluations.evaluation::operand-returns-clause-value

pub evaluation::operand-returns-clause-setup : goal.evaluation::operand-returns-clause-setup
evaluation::operand-returns-clause-setup = evaluations.evaluation::operand-returns-clause-setup

pub evaluation::operand-returns-clause-names : goal.evaluation::operand-returns-clause-names
evaluation::operand-returns-clause-names = evaluations.evaluation::operand-returns-clause-names

pub evaluation::binary-returns-clause-value : goal.evaluation::binary-returns-clause-value
evaluation::binary-returns-clause-value = evaluations.evaluation::binary-returns-clause-value

pub evaluation::binary-returns-clause-names : goal.evaluation::binary-returns-clause-names
evaluation::binary-returns-clause-names = evaluations.evaluation::binary-returns-clause-names

pub evaluation::element-returns-clause-value : goal.evaluation::element-returns-clause-value
evaluation::element-returns-clause-value = evaluations.evaluation::element-returns-clause-value

pub evaluation::element-returns-clause-names : goal.evaluation::element-returns-clause-names
evaluation::element-returns-clause-names = evaluations.evaluation::element-returns-clause-names

pub evaluation::second_value-returns-clause-value : goal.evaluation::second_value-returns-clause-value
evaluation::second_value-returns-clause-value = evaluations.evaluation::second_value-returns-clause-value

pub evaluation::second_value-returns-clause-setup : goal.evaluation::second_value-returns-clause-setup
evaluation::second_value-returns-clause-setup = evaluations.evaluation::second_value-returns-clause-setup

pub evaluation::second_value-returns-clause-names : goal.evaluation::second_value-returns-clause-names
evaluation::second_value-returns-clause-names = evaluations.evaluation::second_value-returns-clause-names

pub evaluation::second_location-returns-clause-value : goal.evaluation::second_location-returns-clause-value
evaluation::second_location-returns-clause-value = evaluations.evaluation::second_location-returns-clause-value

pub evaluation::second_location-returns-clause-setup : goal.evaluation::second_location-returns-clause-setup
evaluation::second_location-returns-clause-setup = evaluations.evaluation::second_location-returns-clause-setup

pub evaluation::second_location-returns-clause-names : goal.evaluation::second_location-returns-clause-names
evaluation::second_location-returns-clause-names = evaluations.evaluation::second_location-returns-clause-names

pub evaluation::second_origin-returns-clause-value : goal.evaluation::second_origin-returns-clause-value
evaluation::second_origin-returns-clause-value = evaluations.evaluation::second_origin-returns-clause-value

pub evaluation::second_origin-returns-clause-setup : goal.evaluation::second_origin-returns-clause-setup
evaluation::second_origin-returns-clause-setup = evaluations.evaluation::second_origin-returns-clause-setup

pub evaluation::second_origin-returns-clause-names : goal.evaluation::second_origin-returns-clause-names
evaluation::second_origin-returns-clause-names = evaluations.evaluation::second_origin-returns-clause-names

pub evaluation::value-returns-in-Call-clause-value : goal.evaluation::value-returns-in-Call-clause-value
evaluation::value-returns-in-Call-clause-value = evaluations.evaluation::value-returns-in-Call-clause-value

pub evaluation::value-returns-in-Call-clause-setup : goal.evaluation::value-returns-in-Call-clause-setup
evaluation::value-returns-in-Call-clause-setup = evaluations.evaluation::value-returns-in-Call-clause-setup

pub evaluation::value-returns-in-Call-clause-names : goal.evaluation::value-returns-in-Call-clause-names
evaluation::value-returns-in-Call-clause-names = evaluations.evaluation::value-returns-in-Call-clause-names

pub evaluation::value-returns-in-Call-clause-letters : goal.evaluation::value-returns-in-Call-clause-letters
evaluation::value-returns-in-Call-clause-letters = evaluations.evaluation::value-returns-in-Call-clause-letters

pub evaluation::and-returns-clause-value : goal.evaluation::and-returns-clause-value
evaluation::and-returns-clause-value = evaluations.evaluation::and-returns-clause-value

pub evaluation::and-returns-clause-names : goal.evaluation::and-returns-clause-names
evaluation::and-returns-clause-names = evaluations.evaluation::and-returns-clause-names

pub evaluation::or-returns-clause-value : goal.evaluation::or-returns-clause-value
evaluation::or-returns-clause-value = evaluations.evaluation::or-returns-clause-value

pub evaluation::or-returns-clause-names : goal.evaluation::or-returns-clause-names
evaluation::or-returns-clause-names = evaluations.evaluation::or-returns-clause-names

pub evaluation::choice-returns-clause-value : goal.evaluation::choice-returns-clause-value
evaluation::choice-returns-clause-value = evaluations.evaluation::choice-returns-clause-value

pub evaluation::choice-returns-clause-names : goal.evaluation::choice-returns-clause-names
evaluation::choice-returns-clause-names = evaluations.evaluation::choice-returns-clause-names

pub evaluation::location-returns-in-Assign-clause-setup : goal.evaluation::location-returns-in-Assign-clause-setup
evaluation::location-returns-in-Assign-clause-setup = evaluations.evaluation::location-returns-in-Assign-clause-setup

pub evaluation::origin-returns-in-Assign-clause-setup : goal.evaluation::origin-returns-in-Assign-clause-setup
evaluation::origin-returns-in-Assign-clause-setup = evaluations.evaluation::origin-returns-in-Assign-clause-setup

pub evaluation::value-returns-in-Assign-clause-setup : goal.evaluation::value-returns-in-Assign-clause-setup
evaluation::value-returns-in-Assign-clause-setup = evaluations.evaluation::value-returns-in-Assign-clause-setup

pub evaluation::value-returns-in-Assign-clause-value : goal.evaluation::value-returns-in-Assign-clause-value
evaluation::value-returns-in-Assign-clause-value = evaluations.evaluation::value-returns-in-Assign-clause-value

pub evaluation::value-returns-in-Binary-clause-value : goal.evaluation::value-returns-in-Binary-clause-value
evaluation::value-returns-in-Binary-clause-value = evaluations.evaluation::value-returns-in-Binary-clause-value

pub evaluation::value-returns-in-Choice-clause-setup : goal.evaluation::value-returns-in-Choice-clause-setup
evaluation::value-returns-in-Choice-clause-setup = evaluations.evaluation::value-returns-in-Choice-clause-setup

pub evaluation::value-returns-in-Index-clause-value : goal.evaluation::value-returns-in-Index-clause-value
evaluation::value-returns-in-Index-clause-value = evaluations.evaluation::value-returns-in-Index-clause-value

pub evaluation::origin-returns-in-Number-clause-value : goal.evaluation::origin-returns-in-Number-clause-value
evaluation::origin-returns-in-Number-clause-value = evaluations.evaluation::origin-returns-in-Number-clause-value

pub assignment::pointing-returns-clause-register : goal.assignment::pointing-returns-clause-register
assignment::pointing-returns-clause-register = assignments.assignment::pointing-returns-clause-register

pub assignment::pointing-returns-clause-setup : goal.assignment::pointing-returns-clause-setup
assignment::pointing-returns-clause-setup = assignments.assignment::pointing-returns-clause-setup

pub assignment::pointing-returns-clause-names : goal.assignment::pointing-returns-clause-names
assignment::pointing-returns-clause-names = assignments.assignment::pointing-returns-clause-names

pub assignment::assigned-returns-in-None-clause-value : goal.assignment::assigned-returns-in-None-clause-value
assignment::assigned-returns-in-None-clause-value = assignments.assignment::assigned-returns-in-None-clause-value

pub assignment::assigned-returns-in-None-clause-setup : goal.assignment::assigned-returns-in-None-clause-setup
assignment::assigned-returns-in-None-clause-setup = assignments.assignment::assigned-returns-in-None-clause-setup

pub assignment::assigned-returns-in-None-clause-names : goal.assignment::assigned-returns-in-None-clause-names
assignment::assigned-returns-in-None-clause-names = assignments.assignment::assigned-returns-in-None-clause-names

pub assignment::assigned-returns-in-None-clause-letters : goal.assignment::assigned-returns-in-None-clause-letters
assignment::assigned-returns-in-None-clause-letters = assignments.assignment::assigned-returns-in-None-clause-letters

pub assignment::assigned-returns-in-Some-clause-value : goal.assignment::assigned-returns-in-Some-clause-value
assignment::assigned-returns-in-Some-clause-value = assignments.assignment::assigned-returns-in-Some-clause-value

pub assignment::assigned-returns-in-Some-clause-setup : goal.assignment::assigned-returns-in-Some-clause-setup
assignment::assigned-returns-in-Some-clause-setup = assignments.assignment::assigned-returns-in-Some-clause-setup

pub assignment::assigned-returns-in-Some-clause-names : goal.assignment::assigned-returns-in-Some-clause-names
assignment::assigned-returns-in-Some-clause-names = assignments.assignment::assigned-returns-in-Some-clause-names

pub assignment::assigned-returns-in-Some-clause-letters : goal.assignment::assigned-returns-in-Some-clause-letters
assignment::assigned-returns-in-Some-clause-letters = assignments.assignment::assigned-returns-in-Some-clause-letters

pub assignment::assign_alone-returns-in-None-clause-setup : goal.assignment::assign_alone-returns-in-None-clause-setup
assignment::assign_alone-returns-in-None-clause-setup = assignments.assignment::assign_alone-returns-in-None-clause-setup

pub assignment::assign_alone-returns-in-None-clause-names : goal.assignment::assign_alone-returns-in-None-clause-names
assignment::assign_alone-returns-in-None-clause-names = assignments.assignment::assign_alone-returns-in-None-clause-names

pub assignment::assign_alone-returns-in-None-clause-letters : goal.assignment::assign_alone-returns-in-None-clause-letters
assignment::assign_alone-returns-in-None-clause-letters = assignments.assignment::assign_alone-returns-in-None-clause-letters

pub assignment::assign_alone-returns-in-Some-clause-setup : goal.assignment::assign_alone-returns-in-Some-clause-setup
assignment::assign_alone-returns-in-Some-clause-setup = assignments.assignment::assign_alone-returns-in-Some-clause-setup

pub assignment::assign_alone-returns-in-Some-clause-names : goal.assignment::assign_alone-returns-in-Some-clause-names
assignment::assign_alone-returns-in-Some-clause-names = assignments.assignment::assign_alone-returns-in-Some-clause-names

pub assignment::assign_alone-returns-in-Some-clause-letters : goal.assignment::assign_alone-returns-in-Some-clause-letters
assignment::assign_alone-returns-in-Some-clause-letters = assignments.assignment::assign_alone-returns-in-Some-clause-letters

pub assignment::object-returns-in-Some-clause-register : goal.assignment::object-returns-in-Some-clause-register
assignment::object-returns-in-Some-clause-register = assignments.assignment::object-returns-in-Some-clause-register

pub assignment::object-returns-in-Some-clause-setup : goal.assignment::object-returns-in-Some-clause-setup
assignment::object-returns-in-Some-clause-setup = assignments.assignment::object-returns-in-Some-clause-setup

pub assignment::object-returns-in-Some-clause-names : goal.assignment::object-returns-in-Some-clause-names
assignment::object-returns-in-Some-clause-names = assignments.assignment::object-returns-in-Some-clause-names

pub assignment::object-returns-in-Some-clause-letters : goal.assignment::object-returns-in-Some-clause-letters
assignment::object-returns-in-Some-clause-letters = assignments.assignment::object-returns-in-Some-clause-letters

pub assignment::object-returns-in-None-clause-register : goal.assignment::object-returns-in-None-clause-register
assignment::object-returns-in-None-clause-register = assignments.assignment::object-returns-in-None-clause-register

pub assignment::object-returns-in-None-clause-setup : goal.assignment::object-returns-in-None-clause-setup
assignment::object-returns-in-None-clause-setup = assignments.assignment::object-returns-in-None-clause-setup

pub assignment::object-returns-in-None-clause-names : goal.assignment::object-returns-in-None-clause-names
assignment::object-returns-in-None-clause-names = assignments.assignment::object-returns-in-None-clause-names

pub assignment::right_ready-returns-clause-part : goal.assignment::right_ready-returns-clause-part
assignment::right_ready-returns-clause-part = assignments.assignment::right_ready-returns-clause-part

pub assignment::right_ready-returns-clause-setup : goal.assignment::right_ready-returns-clause-setup
assignment::right_ready-returns-clause-setup = assignments.assignment::right_ready-returns-clause-setup

pub assignment::old_ready-returns-clause-part : goal.assignment::old_ready-returns-clause-part
assignment::old_ready-returns-clause-part = assignments.assignment::old_ready-returns-clause-part

pub assignment::old_ready-returns-clause-value : goal.assignment::old_ready-returns-clause-value
assignment::old_ready-returns-clause-value = assignments.assignment::old_ready-returns-clause-value

pub assignment::old_ready-returns-clause-names : goal.assignment::old_ready-returns-clause-names
assignment::old_ready-returns-clause-names = assignments.assignment::old_ready-returns-clause-names

pub assignment::old_ready-returns-clause-setup : goal.assignment::old_ready-returns-clause-setup
assignment::old_ready-returns-clause-setup = assignments.assignment::old_ready-returns-clause-setup

pub assignment::bump_ready-returns-clause-part : goal.assignment::bump_ready-returns-clause-part
assignment::bump_ready-returns-clause-part = assignments.assignment::bump_ready-returns-clause-part

pub assignment::bump_ready-returns-clause-setup : goal.assignment::bump_ready-returns-clause-setup
assignment::bump_ready-returns-clause-setup = assignments.assignment::bump_ready-returns-clause-setup

pub assignment::read_before-returns-clause-setup : goal.assignment::read_before-returns-clause-setup
assignment::read_before-returns-clause-setup = assignments.assignment::read_before-returns-clause-setup

pub assignment::change_ready-returns-then-is_pure-clause-part : goal.assignment::change_ready-returns-then-is_pure-clause-part
assignment::change_ready-returns-then-is_pure-clause-part = assignments.assignment::change_ready-returns-then-is_pure-clause-part

pub assignment::change_ready-returns-then-is_pure-clause-value : goal.assignment::change_ready-returns-then-is_pure-clause-value
assignment::change_ready-returns-then-is_pure-clause-value = assignments.assignment::change_ready-returns-then-is_pure-clause-value

pub assignment::change_ready-returns-then-is_pure-clause-setup : goal.assignment::change_ready-returns-then-is_pure-clause-setup
assignment::change_ready-returns-then-is_pure-clause-setup = assignments.assignment::change_ready-returns-then-is_pure-clause-setup

pub assignment::change_ready-returns-then-is_pure-clause-names : goal.assignment::change_ready-returns-then-is_pure-clause-names
assignment::change_ready-returns-then-is_pure-clause-names = assignments.assignment::change_ready-returns-then-is_pure-clause-names

pub assignment::change_ready-returns-else-is_pure-clause-part : goal.assignment::change_ready-returns-else-is_pure-clause-part
assignment::change_ready-returns-else-is_pure-clause-part = assignments.assignment::change_ready-returns-else-is_pure-clause-part

pub assignment::change_ready-returns-else-is_pure-clause-value : goal.assignment::change_ready-returns-else-is_pure-clause-value
assignment::change_ready-returns-else-is_pure-clause-value = assignments.assignment::change_ready-returns-else-is_pure-clause-value

pub assignment::change_ready-returns-else-is_pure-clause-setup : goal.assignment::change_ready-returns-else-is_pure-clause-setup
assignment::change_ready-returns-else-is_pure-clause-setup = assignments.assignment::change_ready-returns-else-is_pure-clause-setup

pub assignment::change_ready-returns-else-is_pure-clause-names : goal.assignment::change_ready-returns-else-is_pure-clause-names
assignment::change_ready-returns-else-is_pure-clause-names = assignments.assignment::change_ready-returns-else-is_pure-clause-names

pub assignment::read_after-returns-clause-value : goal.assignment::read_after-returns-clause-value
assignment::read_after-returns-clause-value = assignments.assignment::read_after-returns-clause-value

pub assignment::read_before-returns-clause-value : goal.assignment::read_before-returns-clause-value
assignment::read_before-returns-clause-value = assignments.assignment::read_before-returns-clause-value

pub assignment::read_before-returns-clause-names : goal.assignment::read_before-returns-clause-names
assignment::read_before-returns-clause-names = assignments.assignment::read_before-returns-clause-names

pub assignment::bump_ready-returns-clause-value : goal.assignment::bump_ready-returns-clause-value
assignment::bump_ready-returns-clause-value = assignments.assignment::bump_ready-returns-clause-value

pub assignment::assign-returns-in_ok-value-clause-value : goal.assignment::assign-returns-in_ok-value-clause-value
assignment::assign-returns-in_ok-value-clause-value = assignments.assignment::assign-returns-in_ok-value-clause-value

pub assignment::assign-returns-in_ok-value-clause-setup : goal.assignment::assign-returns-in_ok-value-clause-setup
assignment::assign-returns-in_ok-value-clause-setup = assignments.assignment::assign-returns-in_ok-value-clause-setup

pub assignment::assign-returns-in_ok-value-clause-names : goal.assignment::assign-returns-in_ok-value-clause-names
assignment::assign-returns-in_ok-value-clause-names = assignments.assignment::assign-returns-in_ok-value-clause-names

pub assignment::change-returns-clause-value : goal.assignment::change-returns-clause-value
assignment::change-returns-clause-value = assignments.assignment::change-returns-clause-value

pub assignment::change-returns-clause-setup : goal.assignment::change-returns-clause-setup
assignment::change-returns-clause-setup = assignments.assignment::change-returns-clause-setup

pub assignment::change-returns-clause-names : goal.assignment::change-returns-clause-names
assignment::change-returns-clause-names = assignments.assignment::change-returns-clause-names

pub assignment::bumped-returns-in_ok-store-clause-setup : goal.assignment::bumped-returns-in_ok-store-clause-setup
assignment::bumped-returns-in_ok-store-clause-setup = assignments.assignment::bumped-returns-in_ok-store-clause-setup

pub assignment::bumped-returns-in_ok-ready-clause-setup : goal.assignment::bumped-returns-in_ok-ready-clause-setup
assignment::bumped-returns-in_ok-ready-clause-setup = assignments.assignment::bumped-returns-in_ok-ready-clause-setup

pub assignment::assign_object-returns-clause-setup : goal.assignment::assign_object-returns-clause-setup
assignment::assign_object-returns-clause-setup = assignments.assignment::assign_object-returns-clause-setup

pub assignment::assign_object-returns-clause-names : goal.assignment::assign_object-returns-clause-names
assignment::assign_object-returns-clause-names = assignments.assignment::assign_object-returns-clause-names

pub assignment::assign-returns-in_ok-nothing-clause-value : goal.assignment::assign-returns-in_ok-nothing-clause-value
assignment::assign-returns-in_ok-nothing-clause-value = assignments.assignment::assign-returns-in_ok-nothing-clause-value

pub assignment::assign-returns-in_ok-nothing-clause-setup : goal.assignment::assign-returns-in_ok-nothing-clause-setup
assignment::assign-returns-in_ok-nothing-clause-setup = assignments.assignment::assign-returns-in_ok-nothing-clause-setup

pub assignment::assign-returns-in_ok-nothing-clause-names : goal.assignment::assign-returns-in_ok-nothing-clause-names
assignment::assign-returns-in_ok-nothing-clause-names = assignments.assignment::assign-returns-in_ok-nothing-clause-names

pub assignment::assign_only-returns-in_ok-assign_object-clause-setup : goal.assignment::assign_only-returns-in_ok-assign_object-clause-setup
assignment::assign_only-returns-in_ok-assign_object-clause-setup = assignments.assignment::assign_only-returns-in_ok-assign_object-clause-setup

pub assignment::assign_only-returns-in_ok-assign_object-clause-names : goal.assignment::assign_only-returns-in_ok-assign_object-clause-names
assignment::assign_only-returns-in_ok-assign_object-clause-names = assignments.assignment::assign_only-returns-in_ok-assign_object-clause-names

pub assignment::assign_only-returns-in_ok-ready-clause-setup : goal.assignment::assign_only-returns-in_ok-ready-clause-setup
assignment::assign_only-returns-in_ok-ready-clause-setup = assignments.assignment::assign_only-returns-in_ok-ready-clause-setup

pub assignment::assign_only-returns-in_ok-ready-clause-names : goal.assignment::assign_only-returns-in_ok-ready-clause-names
assignment::assign_only-returns-in_ok-ready-clause-names = assignments.assignment::assign_only-returns-in_ok-ready-clause-names

pub assignment::change_only-returns-clause-setup : goal.assignment::change_only-returns-clause-setup
assignment::change_only-returns-clause-setup = assignments.assignment::change_only-returns-clause-setup

pub assignment::change_only-returns-clause-names : goal.assignment::change_only-returns-clause-names
assignment::change_only-returns-clause-names = assignments.assignment::change_only-returns-clause-names

pub assignment::bump_alone-returns-clause-setup : goal.assignment::bump_alone-returns-clause-setup
assignment::bump_alone-returns-clause-setup = assignments.assignment::bump_alone-returns-clause-setup

pub assignment::bumped-returns-in_ok-ready-clause-value : goal.assignment::bumped-returns-in_ok-ready-clause-value
assignment::bumped-returns-in_ok-ready-clause-value = assignments.assignment::bumped-returns-in_ok-ready-clause-value

pub assignment::bumped-returns-in_ok-ready-clause-names : goal.assignment::bumped-returns-in_ok-ready-clause-names
assignment::bumped-returns-in_ok-ready-clause-names = assignments.assignment::bumped-returns-in_ok-ready-clause-names

pub assignment::right_ready-returns-clause-value : goal.assignment::right_ready-returns-clause-value
assignment::right_ready-returns-clause-value = assignments.assignment::right_ready-returns-clause-value

pub assignment::right_ready-returns-clause-names : goal.assignment::right_ready-returns-clause-names
assignment::right_ready-returns-clause-names = assignments.assignment::right_ready-returns-clause-names

pub assignment::assigned_location-returns-clause-value : goal.assignment::assigned_location-returns-clause-value
assignment::assigned_location-returns-clause-value = assignments.assignment::assigned_location-returns-clause-value

pub act::act-assign_alone-requires : goal.act::act-assign_alone-requires
act::act-assign_alone-requires = acts.act::act-assign_alone-requires

pub act::act-act_both-requires : goal.act::act-act_both-requires
act::act-act_both-requires = acts.act::act-act_both-requires

pub act::act-act_either-requires : goal.act::act-act_either-requires
act::act-act_either-requires = acts.act::act-act_either-requires

pub act::act-act_choice-requires : goal.act::act-act_choice-requires
act::act-act_choice-requires = acts.act::act-act_choice-requires

pub act::act-act_both_sides-requires : goal.act::act-act_both_sides-requires
act::act-act_both_sides-requires = acts.act::act-act_both_sides-requires

pub act::act-act_both_sides-requires-in-Index : goal.act::act-act_both_sides-requires-in-Index
act::act-act_both_sides-requires-in-Index = acts.act::act-act_both_sides-requires-in-Index

pub act::act-act_both_sides-requires-in-Comma : goal.act::act-act_both_sides-requires-in-Comma
act::act-act_both_sides-requires-in-Comma = acts.act::act-act_both_sides-requires-in-Comma

pub act::act-returns-in-Call-clause-setup : goal.act::act-returns-in-Call-clause-setup
act::act-returns-in-Call-clause-setup = acts.act::act-returns-in-Call-clause-setup

pub act::act-returns-in-Call-clause-names : goal.act::act-returns-in-Call-clause-names
act::act-returns-in-Call-clause-names = acts.act::act-returns-in-Call-clause-names

pub act::act-returns-in-Call-clause-letters : goal.act::act-returns-in-Call-clause-letters
act::act-returns-in-Call-clause-letters = acts.act::act-returns-in-Call-clause-letters

pub act::act_both_sides-returns-clause-setup : goal.act::act_both_sides-returns-clause-setup
act::act_both_sides-returns-clause-setup = acts.act::act_both_sides-returns-clause-setup

pub act::act_both-returns-then-is_pure-clause-setup : goal.act::act_both-returns-then-is_pure-clause-setup
act::act_both-returns-then-is_pure-clause-setup = acts.act::act_both-returns-then-is_pure-clause-setup

pub act::act_either-returns-then-is_pure-clause-setup : goal.act::act_either-returns-then-is_pure-clause-setup
act::act_either-returns-then-is_pure-clause-setup = acts.act::act_either-returns-then-is_pure-clause-setup

pub act::act_both-returns-in_ok-on-clause-setup : goal.act::act_both-returns-in_ok-on-clause-setup
act::act_both-returns-in_ok-on-clause-setup = acts.act::act_both-returns-in_ok-on-clause-setup

pub act::act_choice-returns-then-are_both_pure-clause-setup : goal.act::act_choice-returns-then-are_both_pure-clause-setup
act::act_choice-returns-then-are_both_pure-clause-setup = acts.act::act_choice-returns-then-are_both_pure-clause-setup

pub act::act_choice-returns-then-are_both_pure-clause-names : goal.act::act_choice-returns-then-are_both_pure-clause-names
act::act_choice-returns-then-are_both_pure-clause-names = acts.act::act_choice-returns-then-are_both_pure-clause-names

pub act::act_choice-returns-then-are_both_pure-clause-letters : goal.act::act_choice-returns-then-are_both_pure-clause-letters
act::act_choice-returns-then-are_both_pure-clause-letters = acts.act::act_choice-returns-then-are_both_pure-clause-letters

pub act::act_choice-returns-in_ok-off-clause-setup : goal.act::act_choice-returns-in_ok-off-clause-setup
act::act_choice-returns-in_ok-off-clause-setup = acts.act::act_choice-returns-in_ok-off-clause-setup

pub act::act_choice-returns-in_ok-off-clause-names : goal.act::act_choice-returns-in_ok-off-clause-names
act::act_choice-returns-in_ok-off-clause-names = acts.act::act_choice-returns-in_ok-off-clause-names

pub act::act_choice-returns-in_ok-off-clause-letters : goal.act::act_choice-returns-in_ok-off-clause-letters
act::act_choice-returns-in_ok-off-clause-letters = acts.act::act_choice-returns-in_ok-off-clause-letters

pub act::act_both_sides-returns-clause-names : goal.act::act_both_sides-returns-clause-names
act::act_both_sides-returns-clause-names = acts.act::act_both_sides-returns-clause-names

pub act::arguments-returns-clause-values : goal.act::arguments-returns-clause-values
act::arguments-returns-clause-values = acts.act::arguments-returns-clause-values

pub act::arguments-returns-clause-setup : goal.act::arguments-returns-clause-setup
act::arguments-returns-clause-setup = acts.act::arguments-returns-clause-setup

pub act::arguments-returns-clause-names : goal.act::arguments-returns-clause-names
act::arguments-returns-clause-names = acts.act::arguments-returns-clause-names

pub act::arguments-returns-clause-letters : goal.act::arguments-returns-clause-letters
act::arguments-returns-clause-letters = acts.act::arguments-returns-clause-letters

pub act::act_both-returns-then-is_pure-clause-names : goal.act::act_both-returns-then-is_pure-clause-names
act::act_both-returns-then-is_pure-clause-names = acts.act::act_both-returns-then-is_pure-clause-names

pub act::act_both-returns-then-is_pure-clause-letters : goal.act::act_both-returns-then-is_pure-clause-letters
act::act_both-returns-then-is_pure-clause-letters = acts.act::act_both-returns-then-is_pure-clause-letters

pub act::act_both-returns-in_ok-on-clause-names : goal.act::act_both-returns-in_ok-on-clause-names
act::act_both-returns-in_ok-on-clause-names = acts.act::act_both-returns-in_ok-on-clause-names

pub act::act_both-returns-in_ok-on-clause-letters : goal.act::act_both-returns-in_ok-on-clause-letters
act::act_both-returns-in_ok-on-clause-letters = acts.act::act_both-returns-in_ok-on-clause-letters

pub act::act_either-returns-then-is_pure-clause-names : goal.act::act_either-returns-then-is_pure-clause-names
act::act_either-returns-then-is_pure-clause-names = acts.act::act_either-returns-then-is_pure-clause-names

pub act::act_either-returns-then-is_pure-clause-letters : goal.act::act_either-returns-then-is_pure-clause-letters
act::act_either-returns-then-is_pure-clause-letters = acts.act::act_either-returns-then-is_pure-clause-letters

pub act::act_either-returns-in_ok-on-clause-names : goal.act::act_either-returns-in_ok-on-clause-names
act::act_either-returns-in_ok-on-clause-names = acts.act::act_either-returns-in_ok-on-clause-names

pub act::act_either-returns-in_ok-on-clause-letters : goal.act::act_either-returns-in_ok-on-clause-letters
act::act_either-returns-in_ok-on-clause-letters = acts.act::act_either-returns-in_ok-on-clause-letters

pub act::act_either-returns-in_ok-on-clause-setup : goal.act::act_either-returns-in_ok-on-clause-setup
act::act_either-returns-in_ok-on-clause-setup = acts.act::act_either-returns-in_ok-on-clause-setup

pub act::arguments-expressions-preserved : goal.act::arguments-expressions-preserved
act::arguments-expressions-preserved = acts.act::arguments-expressions-preserved

pub act::act-returns-in-Assign-clause-setup : goal.act::act-returns-in-Assign-clause-setup
act::act-returns-in-Assign-clause-setup = acts.act::act-returns-in-Assign-clause-setup

pub evaluation::value-returns-in-Unary-clause-value : goal.evaluation::value-returns-in-Unary-clause-value
evaluation::value-returns-in-Unary-clause-value = evaluations.evaluation::value-returns-in-Unary-clause-value

pub evaluation::value-returns-in-Unary-clause-setup : goal.evaluation::value-returns-in-Unary-clause-setup
evaluation::value-returns-in-Unary-clause-setup = evaluations.evaluation::value-returns-in-Unary-clause-setup

pub evaluation::value-returns-in-Unary-clause-names : goal.evaluation::value-returns-in-Unary-clause-names
evaluation::value-returns-in-Unary-clause-names = evaluations.evaluation::value-returns-in-Unary-clause-names

pub evaluation::value-returns-in-Binary-clause-setup : goal.evaluation::value-returns-in-Binary-clause-setup
evaluation::value-returns-in-Binary-clause-setup = evaluations.evaluation::value-returns-in-Binary-clause-setup

pub evaluation::value-returns-in-Binary-clause-names : goal.evaluation::value-returns-in-Binary-clause-names
evaluation::value-returns-in-Binary-clause-names = evaluations.evaluation::value-returns-in-Binary-clause-names

pub evaluation::value-returns-in-Both-clause-value : goal.evaluation::value-returns-in-Both-clause-value
evaluation::value-returns-in-Both-clause-value = evaluations.evaluation::value-returns-in-Both-clause-value

pub evaluation::value-returns-in-Both-clause-setup : goal.evaluation::value-returns-in-Both-clause-setup
evaluation::value-returns-in-Both-clause-setup = evaluations.evaluation::value-returns-in-Both-clause-setup

pub evaluation::value-returns-in-Both-clause-names : goal.evaluation::value-returns-in-Both-clause-names
evaluation::value-returns-in-Both-clause-names = evaluations.evaluation::value-returns-in-Both-clause-names

pub evaluation::value-returns-in-Either-clause-value : goal.evaluation::value-returns-in-Either-clause-value
evaluation::value-returns-in-Either-clause-value = evaluations.evaluation::value-returns-in-Either-clause-value

pub evaluation::value-returns-in-Either-clause-setup : goal.evaluation::value-returns-in-Either-clause-setup
evaluation::value-returns-in-Either-clause-setup = evaluations.evaluation::value-returns-in-Either-clause-setup

pub evaluation::value-returns-in-Either-clause-names : goal.evaluation::value-returns-in-Either-clause-names
evaluation::value-returns-in-Either-clause-names = evaluations.evaluation::value-returns-in-Either-clause-names

pub evaluation::value-returns-in-Choice-clause-value : goal.evaluation::value-returns-in-Choice-clause-value
evaluation::value-returns-in-Choice-clause-value = evaluations.evaluation::value-returns-in-Choice-clause-value

pub evaluation::value-returns-in-Choice-clause-names : goal.evaluation::value-returns-in-Choice-clause-names
evaluation::value-returns-in-Choice-clause-names = evaluations.evaluation::value-returns-in-Choice-clause-names

pub evaluation::value-returns-in-Assign-clause-names : goal.evaluation::value-returns-in-Assign-clause-names
evaluation::value-returns-in-Assign-clause-names = evaluations.evaluation::value-returns-in-Assign-clause-names

pub evaluation::value-returns-in-Bump-clause-value : goal.evaluation::value-returns-in-Bump-clause-value
evaluation::value-returns-in-Bump-clause-value = evaluations.evaluation::value-returns-in-Bump-clause-value

pub evaluation::value-returns-in-Bump-clause-setup : goal.evaluation::value-returns-in-Bump-clause-setup
evaluation::value-returns-in-Bump-clause-setup = evaluations.evaluation::value-returns-in-Bump-clause-setup

pub evaluation::value-returns-in-Bump-clause-names : goal.evaluation::value-returns-in-Bump-clause-names
evaluation::value-returns-in-Bump-clause-names = evaluations.evaluation::value-returns-in-Bump-clause-names

pub evaluation::value-returns-in-Cast-clause-value : goal.evaluation::value-returns-in-Cast-clause-value
evaluation::value-returns-in-Cast-clause-value = evaluations.evaluation::value-returns-in-Cast-clause-value

pub evaluation::value-returns-in-Cast-clause-setup : goal.evaluation::value-returns-in-Cast-clause-setup
evaluation::value-returns-in-Cast-clause-setup = evaluations.evaluation::value-returns-in-Cast-clause-setup

pub evaluation::value-returns-in-Cast-clause-names : goal.evaluation::value-returns-in-Cast-clause-names
evaluation::value-returns-in-Cast-clause-names = evaluations.evaluation::value-returns-in-Cast-clause-names

pub evaluation::value-returns-in-Index-clause-setup : goal.evaluation::value-returns-in-Index-clause-setup
evaluation::value-returns-in-Index-clause-setup = evaluations.evaluation::value-returns-in-Index-clause-setup

pub evaluation::value-returns-in-Index-clause-names : goal.evaluation::value-returns-in-Index-clause-names
evaluation::value-returns-in-Index-clause-names = evaluations.evaluation::value-returns-in-Index-clause-names

pub evaluation::value-returns-in-Dot-clause-value : goal.evaluation::value-returns-in-Dot-clause-value
evaluation::value-returns-in-Dot-clause-value = evaluations.evaluation::value-returns-in-Dot-clause-value

pub evaluation::value-returns-in-Dot-clause-setup : goal.evaluation::value-returns-in-Dot-clause-setup
evaluation::value-returns-in-Dot-clause-setup = evaluations.evaluation::value-returns-in-Dot-clause-setup

pub evaluation::value-returns-in-Dot-clause-names : goal.evaluation::value-returns-in-Dot-clause-names
evaluation::value-returns-in-Dot-clause-names = evaluations.evaluation::value-returns-in-Dot-clause-names

pub evaluation::value-returns-in-Arrow-clause-value : goal.evaluation::value-returns-in-Arrow-clause-value
evaluation::value-returns-in-Arrow-clause-value = evaluations.evaluation::value-returns-in-Arrow-clause-value

pub evaluation::value-returns-in-Arrow-clause-setup : goal.evaluation::value-returns-in-Arrow-clause-setup
evaluation::value-returns-in-Arrow-clause-setup = evaluations.evaluation::value-returns-in-Arrow-clause-setup

pub evaluation::value-returns-in-Arrow-clause-names : goal.evaluation::value-returns-in-Arrow-clause-names
evaluation::value-returns-in-Arrow-clause-names = evaluations.evaluation::value-returns-in-Arrow-clause-names

pub evaluation::value-returns-in-Comma-clause-value : goal.evaluation::value-returns-in-Comma-clause-value
evaluation::value-returns-in-Comma-clause-value = evaluations.evaluation::value-returns-in-Comma-clause-value

pub evaluation::value-returns-in-Comma-clause-setup : goal.evaluation::value-returns-in-Comma-clause-setup
evaluation::value-returns-in-Comma-clause-setup = evaluations.evaluation::value-returns-in-Comma-clause-setup

pub evaluation::value-returns-in-Comma-clause-names : goal.evaluation::value-returns-in-Comma-clause-names
evaluation::value-returns-in-Comma-clause-names = evaluations.evaluation::value-returns-in-Comma-clause-names

pub evaluation::location-returns-in-Unary-clause-value : goal.evaluation::location-returns-in-Unary-clause-value
evaluation::location-returns-in-Unary-clause-value = evaluations.evaluation::location-returns-in-Unary-clause-value

pub evaluation::location-returns-in-Unary-clause-setup : goal.evaluation::location-returns-in-Unary-clause-setup
evaluation::location-returns-in-Unary-clause-setup = evaluations.evaluation::location-returns-in-Unary-clause-setup

pub evaluation::location-returns-in-Unary-clause-names : goal.evaluation::location-returns-in-Unary-clause-names
evaluation::location-returns-in-Unary-clause-names = evaluations.evaluation::location-returns-in-Unary-clause-names

pub evaluation::location-returns-in-Index-clause-value : goal.evaluation::location-returns-in-Index-clause-value
evaluation::location-returns-in-Index-clause-value = evaluations.evaluation::location-returns-in-Index-clause-value

pub evaluation::location-returns-in-Index-clause-setup : goal.evaluation::location-returns-in-Index-clause-setup
evaluation::location-returns-in-Index-clause-setup = evaluations.evaluation::location-returns-in-Index-clause-setup

pub evaluation::location-returns-in-Index-clause-names : goal.evaluation::location-returns-in-Index-clause-names
evaluation::location-returns-in-Index-clause-names = evaluations.evaluation::location-returns-in-Index-clause-names

pub evaluation::location-returns-in-Dot-clause-value : goal.evaluation::location-returns-in-Dot-clause-value
evaluation::location-returns-in-Dot-clause-value = evaluations.evaluation::location-returns-in-Dot-clause-value

pub evaluation::location-returns-in-Dot-clause-setup : goal.evaluation::location-returns-in-Dot-clause-setup
evaluation::location-returns-in-Dot-clause-setup = evaluations.evaluation::location-returns-in-Dot-clause-setup

pub evaluation::location-returns-in-Dot-clause-names : goal.evaluation::location-returns-in-Dot-clause-names
evaluation::location-returns-in-Dot-clause-names = evaluations.evaluation::location-returns-in-Dot-clause-names

pub evaluation::location-returns-in-Arrow-clause-value : goal.evaluation::location-returns-in-Arrow-clause-value
evaluation::location-returns-in-Arrow-clause-value = evaluations.evaluation::location-returns-in-Arrow-clause-value

pub evaluation::location-returns-in-Arrow-clause-setup : goal.evaluation::location-returns-in-Arrow-clause-setup
evaluation::location-returns-in-Arrow-clause-setup = evaluations.evaluation::location-returns-in-Arrow-clause-setup

pub evaluation::location-returns-in-Arrow-clause-names : goal.evaluation::location-returns-in-Arrow-clause-names
evaluation::location-returns-in-Arrow-clause-names = evaluations.evaluation::location-returns-in-Arrow-clause-names

pub evaluation::location-returns-in-Assign-clause-value : goal.evaluation::location-returns-in-Assign-clause-value
evaluation::location-returns-in-Assign-clause-value = evaluations.evaluation::location-returns-in-Assign-clause-value

pub evaluation::location-returns-in-Assign-clause-names : goal.evaluation::location-returns-in-Assign-clause-names
evaluation::location-returns-in-Assign-clause-names = evaluations.evaluation::location-returns-in-Assign-clause-names

pub evaluation::location-returns-in-Comma-clause-value : goal.evaluation::location-returns-in-Comma-clause-value
evaluation::location-returns-in-Comma-clause-value = evaluations.evaluation::location-returns-in-Comma-clause-value

pub evaluation::location-returns-in-Comma-clause-setup : goal.evaluation::location-returns-in-Comma-clause-setup
evaluation::location-returns-in-Comma-clause-setup = evaluations.evaluation::location-returns-in-Comma-clause-setup

pub evaluation::location-returns-in-Comma-clause-names : goal.evaluation::location-returns-in-Comma-clause-names
evaluation::location-returns-in-Comma-clause-names = evaluations.evaluation::location-returns-in-Comma-clause-names

pub act::act-returns-in-Assign-clause-names : goal.act::act-returns-in-Assign-clause-names
act::act-returns-in-Assign-clause-names = acts.act::act-returns-in-Assign-clause-names

pub act::act-returns-in-Bump-clause-setup : goal.act::act-returns-in-Bump-clause-setup
act::act-returns-in-Bump-clause-setup = acts.act::act-returns-in-Bump-clause-setup

pub act::act-returns-in-Bump-clause-names : goal.act::act-returns-in-Bump-clause-names
act::act-returns-in-Bump-clause-names = acts.act::act-returns-in-Bump-clause-names

pub act::act-returns-in-Both-clause-setup : goal.act::act-returns-in-Both-clause-setup
act::act-returns-in-Both-clause-setup = acts.act::act-returns-in-Both-clause-setup

pub act::act-returns-in-Both-clause-names : goal.act::act-returns-in-Both-clause-names
act::act-returns-in-Both-clause-names = acts.act::act-returns-in-Both-clause-names

pub act::act-returns-in-Either-clause-setup : goal.act::act-returns-in-Either-clause-setup
act::act-returns-in-Either-clause-setup = acts.act::act-returns-in-Either-clause-setup

pub act::act-returns-in-Either-clause-names : goal.act::act-returns-in-Either-clause-names
act::act-returns-in-Either-clause-names = acts.act::act-returns-in-Either-clause-names

pub act::act-returns-in-Choice-clause-setup : goal.act::act-returns-in-Choice-clause-setup
act::act-returns-in-Choice-clause-setup = acts.act::act-returns-in-Choice-clause-setup

pub act::act-returns-in-Choice-clause-names : goal.act::act-returns-in-Choice-clause-names
act::act-returns-in-Choice-clause-names = acts.act::act-returns-in-Choice-clause-names

pub act::act-returns-in-Unary-clause-setup : goal.act::act-returns-in-Unary-clause-setup
act::act-returns-in-Unary-clause-setup = acts.act::act-returns-in-Unary-clause-setup

pub act::act-returns-in-Unary-clause-names : goal.act::act-returns-in-Unary-clause-names
act::act-returns-in-Unary-clause-names = acts.act::act-returns-in-Unary-clause-names

pub act::act-returns-in-Cast-clause-setup : goal.act::act-returns-in-Cast-clause-setup
act::act-returns-in-Cast-clause-setup = acts.act::act-returns-in-Cast-clause-setup

pub act::act-returns-in-Cast-clause-names : goal.act::act-returns-in-Cast-clause-names
act::act-returns-in-Cast-clause-names = acts.act::act-returns-in-Cast-clause-names

pub act::act-returns-in-Dot-clause-setup : goal.act::act-returns-in-Dot-clause-setup
act::act-returns-in-Dot-clause-setup = acts.act::act-returns-in-Dot-clause-setup

pub act::act-returns-in-Dot-clause-names : goal.act::act-returns-in-Dot-clause-names
act::act-returns-in-Dot-clause-names = acts.act::act-returns-in-Dot-clause-names

pub act::act-returns-in-Arrow-clause-setup : goal.act::act-returns-in-Arrow-clause-setup
act::act-returns-in-Arrow-clause-setup = acts.act::act-returns-in-Arrow-clause-setup

pub act::act-returns-in-Arrow-clause-names : goal.act::act-returns-in-Arrow-clause-names
act::act-returns-in-Arrow-clause-names = acts.act::act-returns-in-Arrow-clause-names

pub act::act-returns-in-Binary-clause-setup : goal.act::act-returns-in-Binary-clause-setup
act::act-returns-in-Binary-clause-setup = acts.act::act-returns-in-Binary-clause-setup

pub act::act-returns-in-Binary-clause-names : goal.act::act-returns-in-Binary-clause-names
act::act-returns-in-Binary-clause-names = acts.act::act-returns-in-Binary-clause-names

pub act::act-returns-in-Index-clause-setup : goal.act::act-returns-in-Index-clause-setup
act::act-returns-in-Index-clause-setup = acts.act::act-returns-in-Index-clause-setup

pub act::act-returns-in-Index-clause-names : goal.act::act-returns-in-Index-clause-names
act::act-returns-in-Index-clause-names = acts.act::act-returns-in-Index-clause-names

pub act::act-returns-in-Comma-clause-setup : goal.act::act-returns-in-Comma-clause-setup
act::act-returns-in-Comma-clause-setup = acts.act::act-returns-in-Comma-clause-setup

pub act::act-returns-in-Comma-clause-names : goal.act::act-returns-in-Comma-clause-names
act::act-returns-in-Comma-clause-names = acts.act::act-returns-in-Comma-clause-names

pub evaluation::value-returns-in-Number-clause-setup : goal.evaluation::value-returns-in-Number-clause-setup
evaluation::value-returns-in-Number-clause-setup = evaluations.evaluation::value-returns-in-Number-clause-setup

pub evaluation::value-returns-in-Letter-clause-setup : goal.evaluation::value-returns-in-Letter-clause-setup
evaluation::value-returns-in-Letter-clause-setup = evaluations.evaluation::value-returns-in-Letter-clause-setup

pub evaluation::value-returns-in-Text-clause-setup : goal.evaluation::value-returns-in-Text-clause-setup
evaluation::value-returns-in-Text-clause-setup = evaluations.evaluation::value-returns-in-Text-clause-setup

pub evaluation::value-returns-in-Variable-clause-setup : goal.evaluation::value-returns-in-Variable-clause-setup
evaluation::value-returns-in-Variable-clause-setup = evaluations.evaluation::value-returns-in-Variable-clause-setup

pub evaluation::value-returns-in-SizeOfType-clause-setup : goal.evaluation::value-returns-in-SizeOfType-clause-setup
evaluation::value-returns-in-SizeOfType-clause-setup = evaluations.evaluation::value-returns-in-SizeOfType-clause-setup

pub evaluation::value-returns-in-SizeOfExpr-clause-setup : goal.evaluation::value-returns-in-SizeOfExpr-clause-setup
evaluation::value-returns-in-SizeOfExpr-clause-setup = evaluations.evaluation::value-returns-in-SizeOfExpr-clause-setup

pub evaluation::binary-returns-clause-letters : goal.evaluation::binary-returns-clause-letters
evaluation::binary-returns-clause-letters = evaluations.evaluation::binary-returns-clause-letters

pub evaluation::element-returns-clause-letters : goal.evaluation::element-returns-clause-letters
evaluation::element-returns-clause-letters = evaluations.evaluation::element-returns-clause-letters

pub evaluation::and-returns-clause-letters : goal.evaluation::and-returns-clause-letters
evaluation::and-returns-clause-letters = evaluations.evaluation::and-returns-clause-letters

pub evaluation::or-returns-clause-letters : goal.evaluation::or-returns-clause-letters
evaluation::or-returns-clause-letters = evaluations.evaluation::or-returns-clause-letters

pub evaluation::choice-returns-clause-letters : goal.evaluation::choice-returns-clause-letters
evaluation::choice-returns-clause-letters = evaluations.evaluation::choice-returns-clause-letters

pub evaluation::second_value-returns-clause-letters : goal.evaluation::second_value-returns-clause-letters
evaluation::second_value-returns-clause-letters = evaluations.evaluation::second_value-returns-clause-letters

pub evaluation::second_location-returns-clause-letters : goal.evaluation::second_location-returns-clause-letters
evaluation::second_location-returns-clause-letters = evaluations.evaluation::second_location-returns-clause-letters

pub evaluation::second_origin-returns-clause-letters : goal.evaluation::second_origin-returns-clause-letters
evaluation::second_origin-returns-clause-letters = evaluations.evaluation::second_origin-returns-clause-letters

pub assignment::right_ready-returns-clause-letters : goal.assignment::right_ready-returns-clause-letters
assignment::right_ready-returns-clause-letters = assignments.assignment::right_ready-returns-clause-letters

pub assignment::read_before-returns-clause-letters : goal.assignment::read_before-returns-clause-letters
assignment::read_before-returns-clause-letters = assignments.assignment::read_before-returns-clause-letters

pub assignment::assign_object-returns-clause-letters : goal.assignment::assign_object-returns-clause-letters
assignment::assign_object-returns-clause-letters = assignments.assignment::assign_object-returns-clause-letters

pub act::act_both_sides-returns-clause-letters : goal.act::act_both_sides-returns-clause-letters
act::act_both_sides-returns-clause-letters = acts.act::act_both_sides-returns-clause-letters

pub act::called-returns-clause-value : goal.act::called-returns-clause-value
act::called-returns-clause-value = acts.act::called-returns-clause-value

pub act::called-returns-clause-setup : goal.act::called-returns-clause-setup
act::called-returns-clause-setup = acts.act::called-returns-clause-setup

pub act::called-returns-clause-names : goal.act::called-returns-clause-names
act::called-returns-clause-names = acts.act::called-returns-clause-names

pub act::call_alone-returns-clause-setup : goal.act::call_alone-returns-clause-setup
act::call_alone-returns-clause-setup = acts.act::call_alone-returns-clause-setup

pub evaluation::origin-returns-in-Dot-clause-value : goal.evaluation::origin-returns-in-Dot-clause-value
evaluation::origin-returns-in-Dot-clause-value = evaluations.evaluation::origin-returns-in-Dot-clause-value

pub evaluation::origin-returns-in-Dot-clause-setup : goal.evaluation::origin-returns-in-Dot-clause-setup
evaluation::origin-returns-in-Dot-clause-setup = evaluations.evaluation::origin-returns-in-Dot-clause-setup

pub evaluation::origin-returns-in-Dot-clause-names : goal.evaluation::origin-returns-in-Dot-clause-names
evaluation::origin-returns-in-Dot-clause-names = evaluations.evaluation::origin-returns-in-Dot-clause-names

pub evaluation::origin-returns-in-Arrow-clause-value : goal.evaluation::origin-returns-in-Arrow-clause-value
evaluation::origin-returns-in-Arrow-clause-value = evaluations.evaluation::origin-returns-in-Arrow-clause-value

pub evaluation::origin-returns-in-Arrow-clause-setup : goal.evaluation::origin-returns-in-Arrow-clause-setup
evaluation::origin-returns-in-Arrow-clause-setup = evaluations.evaluation::origin-returns-in-Arrow-clause-setup

pub evaluation::origin-returns-in-Arrow-clause-names : goal.evaluation::origin-returns-in-Arrow-clause-names
evaluation::origin-returns-in-Arrow-clause-names = evaluations.evaluation::origin-returns-in-Arrow-clause-names

pub evaluation::origin-returns-in-Assign-clause-value : goal.evaluation::origin-returns-in-Assign-clause-value
evaluation::origin-returns-in-Assign-clause-value = evaluations.evaluation::origin-returns-in-Assign-clause-value

pub evaluation::origin-returns-in-Assign-clause-names : goal.evaluation::origin-returns-in-Assign-clause-names
evaluation::origin-returns-in-Assign-clause-names = evaluations.evaluation::origin-returns-in-Assign-clause-names

pub evaluation::origin-returns-in-Comma-clause-value : goal.evaluation::origin-returns-in-Comma-clause-value
evaluation::origin-returns-in-Comma-clause-value = evaluations.evaluation::origin-returns-in-Comma-clause-value

pub evaluation::origin-returns-in-Comma-clause-setup : goal.evaluation::origin-returns-in-Comma-clause-setup
evaluation::origin-returns-in-Comma-clause-setup = evaluations.evaluation::origin-returns-in-Comma-clause-setup

pub evaluation::origin-returns-in-Comma-clause-names : goal.evaluation::origin-returns-in-Comma-clause-names
evaluation::origin-returns-in-Comma-clause-names = evaluations.evaluation::origin-returns-in-Comma-clause-names
