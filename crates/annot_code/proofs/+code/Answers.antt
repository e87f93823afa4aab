use Rattle.std.proofs.Common.{◌≡◌, ◌++◌, None, false, option_map, ap, sym, ◌∙◌, rules}
use Rattle.std.proofs.lemmas.Result.{IfOk-weaker}
use Rattle.c_syntax.specs.Ctypes.{plain_type}
use Rattle.c_syntax.specs.Formulas.{plain_cast_type}
use Rattle.c_syntax.specs.Logic.{Linked, NoLink, plain_guards, plain_links, plain_pred, plain_term, plain_zones}
use Rattle.c_model.specs.Places.{first_place}
use Rattle.c_effects.proofs.Trees.{on_ok}
use Rattle.annot_pieces.specs.Plain.{Known, guarded_of, plain_guard_opened, plain_guards_opened, plain_known, plain_readings, plain_zone, side_of, stored_with, within_guards}
use Rattle.annot_pieces.specs.Tables.{plain_helds}
use Rattle.annot_pieces.proofs.Around.{pushed}
use Rattle.annot_code.proofs.ChainForms.{of_chain, of_last, of_linked, of_more_links, of_next, of_one, of_sides}
use Rattle.annot_code.proofs.Forms.{of_binary, of_choice}
use Rattle.annot_code.proofs.GuardForms.{known_read, known_within, of_quantified, opened_more}
use Rattle.annot_code.proofs.OneForms.{of_cast, of_denied, of_deref, of_here, of_nonzero, of_pointer_there, of_separated, of_start, of_told, of_unary, place_at, pointer_at, pred_at, term_at, then_is, zone_at}
use Rattle.annot_code.proofs.PointerForms.{of_asks, of_difference, of_elements, of_more_zones, of_moved, of_pointer_choice}
use Rattle.annot_code.proofs.+code.Goals as goal

-- ---- terms

pub predicate::term_code-returns-in-Unary-clause-code : goal.predicate::term_code-returns-in-Unary-clause-code
predicate::term_code-returns-in-Unary-clause-code t c =
    term_at c.prefixed.new.names.table.kinds c.args.names.now (plain_known c.args.known.now) c.args.t.now (sym c.deref.ensures ∙ c.in-Unary.is) c.prefixed.result c.prefixed.ensures.code

pub predicate::term_code-returns-in-Unary-clause-bound : goal.predicate::term_code-returns-in-Unary-clause-bound
predicate::term_code-returns-in-Unary-clause-bound t c = c.prefixed.ensures.bound

pub predicate::term_code-returns-in-Unary-clause-program : goal.predicate::term_code-returns-in-Unary-clause-program
predicate::term_code-returns-in-Unary-clause-program t c = c.prefixed.ensures.program

pub predicate::term_code-returns-in-Binary-clause-code : goal.predicate::term_code-returns-in-Binary-clause-code
predicate::term_code-returns-in-Binary-clause-code t c =
    term_at c.binary.new.names.table.kinds c.args.names.now (plain_known c.args.known.now) c.args.t.now (sym c.deref.ensures ∙ c.in-Binary.is) c.binary.result c.binary.ensures.code

pub predicate::term_code-returns-in-Binary-clause-bound : goal.predicate::term_code-returns-in-Binary-clause-bound
predicate::term_code-returns-in-Binary-clause-bound t c = c.binary.ensures.bound

pub predicate::term_code-returns-in-Binary-clause-program : goal.predicate::term_code-returns-in-Binary-clause-program
predicate::term_code-returns-in-Binary-clause-program t c = c.binary.ensures.program

pub predicate::term_code-returns-in-Cast-clause-code : goal.predicate::term_code-returns-in-Cast-clause-code
predicate::term_code-returns-in-Cast-clause-code t c =
    term_at c.cast.new.names.table.kinds c.args.names.now (plain_known c.args.known.now) c.args.t.now (sym c.deref.ensures ∙ c.in-Cast.is) c.cast.result c.cast.ensures.code

pub predicate::term_code-returns-in-Cast-clause-bound : goal.predicate::term_code-returns-in-Cast-clause-bound
predicate::term_code-returns-in-Cast-clause-bound t c = c.cast.ensures.bound

pub predicate::term_code-returns-in-Cast-clause-program : goal.predicate::term_code-returns-in-Cast-clause-program
predicate::term_code-returns-in-Cast-clause-program t c = c.cast.ensures.program

pub predicate::term_code-returns-in-Choice-clause-code : goal.predicate::term_code-returns-in-Choice-clause-code
predicate::term_code-returns-in-Choice-clause-code t c =
    term_at c.choice.new.names.table.kinds c.args.names.now (plain_known c.args.known.now) c.args.t.now (sym c.deref.ensures ∙ c.in-Choice.is) c.choice.result c.choice.ensures.code

pub predicate::term_code-returns-in-Choice-clause-bound : goal.predicate::term_code-returns-in-Choice-clause-bound
predicate::term_code-returns-in-Choice-clause-bound t c = c.choice.ensures.bound

pub predicate::term_code-returns-in-Choice-clause-program : goal.predicate::term_code-returns-in-Choice-clause-program
predicate::term_code-returns-in-Choice-clause-program t c = c.choice.ensures.program

pub predicate::term_code-returns-in-Deref-clause-code : goal.predicate::term_code-returns-in-Deref-clause-code
predicate::term_code-returns-in-Deref-clause-code t c =
    term_at c.deref-in-Deref.new.names.table.kinds c.args.names.now (plain_known c.args.known.now) c.args.t.now (sym c.deref.ensures ∙ c.in-Deref.is) c.deref-in-Deref.result c.deref-in-Deref.ensures.code

pub predicate::term_code-returns-in-Deref-clause-bound : goal.predicate::term_code-returns-in-Deref-clause-bound
predicate::term_code-returns-in-Deref-clause-bound t c = c.deref-in-Deref.ensures.bound

pub predicate::term_code-returns-in-Deref-clause-program : goal.predicate::term_code-returns-in-Deref-clause-program
predicate::term_code-returns-in-Deref-clause-program t c = c.deref-in-Deref.ensures.program

pub predicate::term_code-returns-in-Member-clause-code : goal.predicate::term_code-returns-in-Member-clause-code
predicate::term_code-returns-in-Member-clause-code t c =
    term_at c.member.new.names.table.kinds c.args.names.now (plain_known c.args.known.now) c.args.t.now (sym c.deref.ensures ∙ c.in-Member.is) c.member.result c.member.ensures.code

pub predicate::term_code-returns-in-Member-clause-bound : goal.predicate::term_code-returns-in-Member-clause-bound
predicate::term_code-returns-in-Member-clause-bound t c = c.member.ensures.bound

pub predicate::term_code-returns-in-Member-clause-program : goal.predicate::term_code-returns-in-Member-clause-program
predicate::term_code-returns-in-Member-clause-program t c = c.member.ensures.program

pub predicate::term_code-returns-in-Difference-clause-code : goal.predicate::term_code-returns-in-Difference-clause-code
predicate::term_code-returns-in-Difference-clause-code t c =
    term_at c.difference.new.names.table.kinds c.args.names.now (plain_known c.args.known.now) c.args.t.now (sym c.deref.ensures ∙ c.in-Difference.is) c.difference.result c.difference.ensures.code

pub predicate::term_code-returns-in-Difference-clause-bound : goal.predicate::term_code-returns-in-Difference-clause-bound
predicate::term_code-returns-in-Difference-clause-bound t c = c.difference.ensures.bound

pub predicate::term_code-returns-in-Difference-clause-program : goal.predicate::term_code-returns-in-Difference-clause-program
predicate::term_code-returns-in-Difference-clause-program t c = c.difference.ensures.program

pub predicate::term_code-returns-in-Told-clause-code : goal.predicate::term_code-returns-in-Told-clause-code
predicate::term_code-returns-in-Told-clause-code t c =
    term_at c.told.new.names.table.kinds c.args.names.now (plain_known c.args.known.now) c.args.t.now (sym c.deref.ensures ∙ c.in-Told.is) c.told.result c.told.ensures.code

pub predicate::term_code-returns-in-Told-clause-bound : goal.predicate::term_code-returns-in-Told-clause-bound
predicate::term_code-returns-in-Told-clause-bound t c = c.told.ensures.bound

pub predicate::term_code-returns-in-Told-clause-program : goal.predicate::term_code-returns-in-Told-clause-program
predicate::term_code-returns-in-Told-clause-program t c = c.told.ensures.program

pub predicate::term_code-returns-in-Variable-clause-bound : goal.predicate::term_code-returns-in-Variable-clause-bound
predicate::term_code-returns-in-Variable-clause-bound t c = c.variable_code.ensures.bound

pub predicate::term_code-returns-in-Variable-clause-program : goal.predicate::term_code-returns-in-Variable-clause-program
predicate::term_code-returns-in-Variable-clause-program t c = c.variable_code.ensures.program

pub predicate::here-returns-clause-code : goal.predicate::here-returns-clause-code
predicate::here-returns-clause-code t c =
    of_here c.settled.result c.settled.new.names.table.kinds c.term_code.new.names.table.kinds (plain_term c.args.a.now) c.args.names.now (plain_known c.args.known.now) c.type_of.result c.in_ok-x.x c.type_of.ensures
    c.in_ok-x.ensures.code c.settled.ensures.code

pub predicate::here-returns-clause-bound : goal.predicate::here-returns-clause-bound
predicate::here-returns-clause-bound t c = then_is c.settled.result _ (c.in_ok-x.ensures.bound) c.settled.ensures.bound

pub predicate::here-returns-clause-program : goal.predicate::here-returns-clause-program
predicate::here-returns-clause-program t c = then_is c.settled.result _ (c.in_ok-x.ensures.program) c.settled.ensures.program

pub predicate::prefixed-returns-clause-code : goal.predicate::prefixed-returns-clause-code
predicate::prefixed-returns-clause-code t c =
    of_unary c.unary_code.result c.term_code.new.names.table.kinds c.args.names.now (plain_known c.args.known.now) c.args.a.now.place None c.args.range (plain_term c.args.a.now) c.args.op c.width_of.result c.width_of-2.result
    c.in_ok-x.x
    c.width_of.ensures c.width_of-2.ensures c.in_ok-x.ensures.code c.unary_code.ensures

pub predicate::prefixed-returns-clause-bound : goal.predicate::prefixed-returns-clause-bound
predicate::prefixed-returns-clause-bound t c = on_ok c.unary_code.result (c.in_ok-x.ensures.bound)

pub predicate::prefixed-returns-clause-program : goal.predicate::prefixed-returns-clause-program
predicate::prefixed-returns-clause-program t c = on_ok c.unary_code.result (c.in_ok-x.ensures.program)

pub predicate::cast-returns-clause-code : goal.predicate::cast-returns-clause-code
predicate::cast-returns-clause-code t c =
    of_cast c.cast_code.result c.term_code.new.names.table.kinds c.args.names.now (plain_known c.args.known.now) c.args.a.now.place None c.args.range (plain_term c.args.a.now) (plain_cast_type c.args.to.now) c.range_of.result
    c.width_of.result c.width_of-2.result c.in_ok-x.x
    c.range_of.ensures c.width_of.ensures c.width_of-2.ensures c.in_ok-x.ensures.code c.cast_code.ensures

pub predicate::cast-returns-clause-bound : goal.predicate::cast-returns-clause-bound
predicate::cast-returns-clause-bound t c = on_ok c.cast_code.result (c.in_ok-x.ensures.bound)

pub predicate::cast-returns-clause-program : goal.predicate::cast-returns-clause-program
predicate::cast-returns-clause-program t c = on_ok c.cast_code.result (c.in_ok-x.ensures.program)

pub predicate::binary-returns-clause-code : goal.predicate::binary-returns-clause-code
predicate::binary-returns-clause-code t c =
    of_binary c.operated.result c.operated.new.names.table.kinds c.args.operands.0.now.place c.args.op c.args.range c.range_of.result c.types_of.result c.args.names.now c.term_code.new.names
    c.term_code-2.new.names.table.kinds (plain_term c.args.operands.0.now) (plain_term c.args.operands.1.now) (plain_known c.args.known.now) c.in_ok-x.x c.in_ok-y.y
    c.types_of.ensures c.range_of.ensures c.in_ok-x.ensures.code c.in_ok-x.ensures.program c.in_ok-x.ensures.bound c.in_ok-y.ensures.code c.operated.ensures.code

pub predicate::binary-returns-clause-bound : goal.predicate::binary-returns-clause-bound
predicate::binary-returns-clause-bound t c = then_is c.operated.result _ (c.in_ok-y.ensures.bound ∙ c.in_ok-x.ensures.bound) c.operated.ensures.bound

pub predicate::binary-returns-clause-program : goal.predicate::binary-returns-clause-program
predicate::binary-returns-clause-program t c = then_is c.operated.result _ (c.in_ok-y.ensures.program ∙ c.in_ok-x.ensures.program) c.operated.ensures.program

pub predicate::choice-returns-clause-code : goal.predicate::choice-returns-clause-code
predicate::choice-returns-clause-code t c =
    let more = ap (stored_with c.args.known.now.stored) (ap plain_readings c.deref.ensures.value ∙ c.in_ok-readings.ensures) in
    of_choice c.chosen.result c.chosen.new.names.table.kinds c.args.c.now.place c.args.range c.type_of_range.result c.type_of.result c.type_of-2.result c.args.names.now c.pred_code.new.names c.term_code.new.names
    c.term_code-2.new.names.table.kinds (plain_pred c.args.c.now) (plain_term c.args.values.0.now) (plain_term c.args.values.1.now) (plain_known c.args.known.now) (stored_with c.args.known.now.stored (plain_readings c.deref.result.now))
    (stored_with c.args.known.now.stored (plain_readings c.deref.result.now)) c.in_ok-z.z c.in_ok-x.x c.in_ok-y.y c.type_of_range.ensures c.type_of.ensures c.type_of-2.ensures more more
    c.in_ok-z.ensures.code c.in_ok-z.ensures.program c.in_ok-z.ensures.bound c.in_ok-x.ensures.code c.in_ok-x.ensures.program c.in_ok-x.ensures.bound c.in_ok-y.ensures.code c.chosen.ensures.code

pub predicate::choice-returns-clause-bound : goal.predicate::choice-returns-clause-bound
predicate::choice-returns-clause-bound t c =
    then_is c.chosen.result _ (c.in_ok-y.ensures.bound ∙ c.in_ok-x.ensures.bound ∙ c.in_ok-z.ensures.bound) c.chosen.ensures.bound

pub predicate::choice-returns-clause-program : goal.predicate::choice-returns-clause-program
predicate::choice-returns-clause-program t c =
    then_is c.chosen.result _ (c.in_ok-y.ensures.program ∙ c.in_ok-x.ensures.program ∙ c.in_ok-z.ensures.program) c.chosen.ensures.program

pub predicate::deref-returns-clause-code : goal.predicate::deref-returns-clause-code
predicate::deref-returns-clause-code t c =
    of_deref c.number_read.result c.number_read.new.names.table.kinds c.args.names.now (plain_known c.args.known.now) c.args.a.now.place (option_map plain_type c.args.t.now) c.args.range (plain_term c.args.a.now)
    c.pointer_code.new.names.table.kinds c.type_of_range.result c.term_type.result c.in_ok-c.c
    c.type_of_range.ensures c.term_type.ensures c.in_ok-c.ensures.code c.number_read.ensures.code

pub predicate::deref-returns-clause-bound : goal.predicate::deref-returns-clause-bound
predicate::deref-returns-clause-bound t c = then_is c.number_read.result _ (c.in_ok-c.ensures.bound) c.number_read.ensures.bound

pub predicate::deref-returns-clause-program : goal.predicate::deref-returns-clause-program
predicate::deref-returns-clause-program t c = then_is c.number_read.result _ (c.in_ok-c.ensures.program) c.number_read.ensures.program

pub predicate::member-returns-clause-bound : goal.predicate::member-returns-clause-bound
predicate::member-returns-clause-bound t c = then_is c.number_read.result _ (c.in_ok-c.ensures.bound) c.number_read.ensures.bound

pub predicate::member-returns-clause-program : goal.predicate::member-returns-clause-program
predicate::member-returns-clause-program t c = then_is c.number_read.result _ (c.in_ok-c.ensures.program) c.number_read.ensures.program

pub predicate::difference-returns-clause-code : goal.predicate::difference-returns-clause-code
predicate::difference-returns-clause-code t c =
    of_difference c.difference_code.result c.difference_code.new.names.table.kinds c.args.operands.0.now.place None c.args.range c.args.n c.type_of_range.result c.args.names.now c.pointer_code.new.names
    c.pointer_code-2.new.names.table.kinds (plain_term c.args.operands.0.now) (plain_term c.args.operands.1.now) (plain_known c.args.known.now) c.in_ok-c.c c.in_ok-d.d c.type_of_range.ensures
    c.in_ok-c.ensures.code c.in_ok-c.ensures.program c.in_ok-c.ensures.bound c.in_ok-d.ensures.code c.difference_code.ensures.code

pub predicate::difference-returns-clause-bound : goal.predicate::difference-returns-clause-bound
predicate::difference-returns-clause-bound t c =
    then_is c.difference_code.result _ (c.in_ok-d.ensures.bound ∙ c.in_ok-c.ensures.bound) c.difference_code.ensures.bound

pub predicate::difference-returns-clause-program : goal.predicate::difference-returns-clause-program
predicate::difference-returns-clause-program t c =
    then_is c.difference_code.result _ (c.in_ok-d.ensures.program ∙ c.in_ok-c.ensures.program) c.difference_code.ensures.program

pub predicate::told-returns-clause-code : goal.predicate::told-returns-clause-code
predicate::told-returns-clause-code t c =
    of_told c.told_number.result c.told_number.new.names.table.kinds c.args.names.now (plain_known c.args.known.now) c.args.a.now.place None c.args.range (plain_term c.args.a.now) c.pointer_code.new.names.table.kinds
    c.type_of_range.result c.args.fact c.in_ok-c.c
    c.type_of_range.ensures c.in_ok-c.ensures.code c.told_number.ensures.code

pub predicate::told-returns-clause-bound : goal.predicate::told-returns-clause-bound
predicate::told-returns-clause-bound t c = then_is c.told_number.result _ (c.in_ok-c.ensures.bound) c.told_number.ensures.bound

pub predicate::told-returns-clause-program : goal.predicate::told-returns-clause-program
predicate::told-returns-clause-program t c = then_is c.told_number.result _ (c.in_ok-c.ensures.program) c.told_number.ensures.program

-- ---- pointers and zones

pub predicate::pointer_code-returns-in-Variable-clause-code : goal.predicate::pointer_code-returns-in-Variable-clause-code
predicate::pointer_code-returns-in-Variable-clause-code t c =
    pointer_at c.pointer_variable.new.names.table.kinds c.args.names.now (plain_known c.args.known.now) c.args.t.now (sym c.deref.ensures ∙ c.in-Variable.is) c.pointer_variable.result c.pointer_variable.ensures.code

pub predicate::pointer_code-returns-in-Variable-clause-bound : goal.predicate::pointer_code-returns-in-Variable-clause-bound
predicate::pointer_code-returns-in-Variable-clause-bound t c = c.pointer_variable.ensures.bound

pub predicate::pointer_code-returns-in-Variable-clause-program : goal.predicate::pointer_code-returns-in-Variable-clause-program
predicate::pointer_code-returns-in-Variable-clause-program t c = c.pointer_variable.ensures.program

pub predicate::pointer_code-returns-in-Deref-clause-code : goal.predicate::pointer_code-returns-in-Deref-clause-code
predicate::pointer_code-returns-in-Deref-clause-code t c =
    pointer_at c.pointer_deref.new.names.table.kinds c.args.names.now (plain_known c.args.known.now) c.args.t.now (sym c.deref.ensures ∙ c.in-Deref.is) c.pointer_deref.result c.pointer_deref.ensures.code

pub predicate::pointer_code-returns-in-Deref-clause-bound : goal.predicate::pointer_code-returns-in-Deref-clause-bound
predicate::pointer_code-returns-in-Deref-clause-bound t c = c.pointer_deref.ensures.bound

pub predicate::pointer_code-returns-in-Deref-clause-program : goal.predicate::pointer_code-returns-in-Deref-clause-program
predicate::pointer_code-returns-in-Deref-clause-program t c = c.pointer_deref.ensures.program

pub predicate::pointer_code-returns-in-Member-clause-code : goal.predicate::pointer_code-returns-in-Member-clause-code
predicate::pointer_code-returns-in-Member-clause-code t c =
    pointer_at c.pointer_member.new.names.table.kinds c.args.names.now (plain_known c.args.known.now) c.args.t.now (sym c.deref.ensures ∙ c.in-Member.is) c.pointer_member.result c.pointer_member.ensures.code

pub predicate::pointer_code-returns-in-Member-clause-bound : goal.predicate::pointer_code-returns-in-Member-clause-bound
predicate::pointer_code-returns-in-Member-clause-bound t c = c.pointer_member.ensures.bound

pub predicate::pointer_code-returns-in-Member-clause-program : goal.predicate::pointer_code-returns-in-Member-clause-program
predicate::pointer_code-returns-in-Member-clause-program t c = c.pointer_member.ensures.program

pub predicate::pointer_code-returns-in-Address-clause-code : goal.predicate::pointer_code-returns-in-Address-clause-code
predicate::pointer_code-returns-in-Address-clause-code t c =
    pointer_at c.place_code.new.names.table.kinds c.args.names.now (plain_known c.args.known.now) c.args.t.now (sym c.deref.ensures ∙ c.in-Address.is) c.place_code.result c.place_code.ensures.code

pub predicate::pointer_code-returns-in-Address-clause-bound : goal.predicate::pointer_code-returns-in-Address-clause-bound
predicate::pointer_code-returns-in-Address-clause-bound t c = c.place_code.ensures.bound

pub predicate::pointer_code-returns-in-Address-clause-program : goal.predicate::pointer_code-returns-in-Address-clause-program
predicate::pointer_code-returns-in-Address-clause-program t c = c.place_code.ensures.program

pub predicate::pointer_code-returns-in-Moved-clause-code : goal.predicate::pointer_code-returns-in-Moved-clause-code
predicate::pointer_code-returns-in-Moved-clause-code t c =
    pointer_at c.moved.new.names.table.kinds c.args.names.now (plain_known c.args.known.now) c.args.t.now (sym c.deref.ensures ∙ c.in-Moved.is) c.moved.result c.moved.ensures.code

pub predicate::pointer_code-returns-in-Moved-clause-bound : goal.predicate::pointer_code-returns-in-Moved-clause-bound
predicate::pointer_code-returns-in-Moved-clause-bound t c = c.moved.ensures.bound

pub predicate::pointer_code-returns-in-Moved-clause-program : goal.predicate::pointer_code-returns-in-Moved-clause-program
predicate::pointer_code-returns-in-Moved-clause-program t c = c.moved.ensures.program

pub predicate::pointer_code-returns-in-Cast-clause-code : goal.predicate::pointer_code-returns-in-Cast-clause-code
predicate::pointer_code-returns-in-Cast-clause-code t c =
    pointer_at c.pointer_code.new.names.table.kinds c.args.names.now (plain_known c.args.known.now) c.args.t.now (sym c.deref.ensures ∙ c.in-Cast.is) c.pointer_code.result c.pointer_code.ensures.code

pub predicate::pointer_code-returns-in-Cast-clause-bound : goal.predicate::pointer_code-returns-in-Cast-clause-bound
predicate::pointer_code-returns-in-Cast-clause-bound t c = c.pointer_code.ensures.bound

pub predicate::pointer_code-returns-in-Cast-clause-program : goal.predicate::pointer_code-returns-in-Cast-clause-program
predicate::pointer_code-returns-in-Cast-clause-program t c = c.pointer_code.ensures.program

pub predicate::pointer_code-returns-in-Choice-clause-code : goal.predicate::pointer_code-returns-in-Choice-clause-code
predicate::pointer_code-returns-in-Choice-clause-code t c =
    pointer_at c.pointer_choice.new.names.table.kinds c.args.names.now (plain_known c.args.known.now) c.args.t.now (sym c.deref.ensures ∙ c.in-Choice.is) c.pointer_choice.result c.pointer_choice.ensures.code

pub predicate::pointer_code-returns-in-Choice-clause-bound : goal.predicate::pointer_code-returns-in-Choice-clause-bound
predicate::pointer_code-returns-in-Choice-clause-bound t c = c.pointer_choice.ensures.bound

pub predicate::pointer_code-returns-in-Choice-clause-program : goal.predicate::pointer_code-returns-in-Choice-clause-program
predicate::pointer_code-returns-in-Choice-clause-program t c = c.pointer_choice.ensures.program

pub predicate::pointer_code-returns-in-Told-clause-code : goal.predicate::pointer_code-returns-in-Told-clause-code
predicate::pointer_code-returns-in-Told-clause-code t c =
    pointer_at c.start_told.new.names.table.kinds c.args.names.now (plain_known c.args.known.now) c.args.t.now (sym c.deref.ensures ∙ c.in-Told.is) c.start_told.result c.start_told.ensures.code

pub predicate::pointer_code-returns-in-Told-clause-bound : goal.predicate::pointer_code-returns-in-Told-clause-bound
predicate::pointer_code-returns-in-Told-clause-bound t c = c.start_told.ensures.bound

pub predicate::pointer_code-returns-in-Told-clause-program : goal.predicate::pointer_code-returns-in-Told-clause-program
predicate::pointer_code-returns-in-Told-clause-program t c = c.start_told.ensures.program

pub predicate::place_code-returns-in-Deref-clause-code : goal.predicate::place_code-returns-in-Deref-clause-code
predicate::place_code-returns-in-Deref-clause-code t c =
    place_at c.pointer_code.new.names.table.kinds c.args.names.now (plain_known c.args.known.now) c.args.t.now (sym c.deref.ensures ∙ c.in-Deref.is) c.pointer_code.result c.pointer_code.ensures.code

pub predicate::place_code-returns-in-Deref-clause-bound : goal.predicate::place_code-returns-in-Deref-clause-bound
predicate::place_code-returns-in-Deref-clause-bound t c = c.pointer_code.ensures.bound

pub predicate::place_code-returns-in-Deref-clause-program : goal.predicate::place_code-returns-in-Deref-clause-program
predicate::place_code-returns-in-Deref-clause-program t c = c.pointer_code.ensures.program

pub predicate::zone_code-returns-in-Elements-clause-code : goal.predicate::zone_code-returns-in-Elements-clause-code
predicate::zone_code-returns-in-Elements-clause-code t c =
    zone_at c.elements.new.names.table.kinds c.args.names.now (plain_known c.args.known.now) c.args.z.now (sym c.deref.ensures ∙ c.in-Elements.is) c.elements.result c.elements.ensures.code

pub predicate::zone_code-returns-in-Elements-clause-bound : goal.predicate::zone_code-returns-in-Elements-clause-bound
predicate::zone_code-returns-in-Elements-clause-bound t c = c.elements.ensures.bound

pub predicate::zone_code-returns-in-Elements-clause-program : goal.predicate::zone_code-returns-in-Elements-clause-program
predicate::zone_code-returns-in-Elements-clause-program t c = c.elements.ensures.program

pub predicate::pointer_deref-returns-clause-code : goal.predicate::pointer_deref-returns-clause-code
predicate::pointer_deref-returns-clause-code t c =
    of_pointer_there c.pointer_there.result c.pointer_there.new.names.table.kinds c.pointer_code.new.names.table.kinds c.args.names.now (plain_known c.args.known.now) (plain_term c.args.a.now) c.in_ok-c.c false (option_map plain_type
    c.args.t.now) c.in_ok-c.ensures.code c.pointer_there.ensures.code

pub predicate::pointer_deref-returns-clause-bound : goal.predicate::pointer_deref-returns-clause-bound
predicate::pointer_deref-returns-clause-bound t c = then_is c.pointer_there.result _ (c.in_ok-c.ensures.bound) c.pointer_there.ensures.bound

pub predicate::pointer_deref-returns-clause-program : goal.predicate::pointer_deref-returns-clause-program
predicate::pointer_deref-returns-clause-program t c = then_is c.pointer_there.result _ (c.in_ok-c.ensures.program) c.pointer_there.ensures.program

pub predicate::pointer_member-returns-clause-bound : goal.predicate::pointer_member-returns-clause-bound
predicate::pointer_member-returns-clause-bound t c = then_is c.pointer_there.result _ (c.in_ok-c.ensures.bound) c.pointer_there.ensures.bound

pub predicate::pointer_member-returns-clause-program : goal.predicate::pointer_member-returns-clause-program
predicate::pointer_member-returns-clause-program t c = then_is c.pointer_there.result _ (c.in_ok-c.ensures.program) c.pointer_there.ensures.program

pub predicate::moved-returns-clause-code : goal.predicate::moved-returns-clause-code
predicate::moved-returns-clause-code t c =
    of_moved c.moved_code.result c.term_code.new.names.table.kinds c.args.operands.0.now.place None c.args.operands.0.now.range c.args.op c.args.n c.type_of.result c.args.names.now c.pointer_code.new.names
    (plain_term c.args.operands.0.now) (plain_term c.args.operands.1.now) (plain_known c.args.known.now) c.in_ok-c.c c.in_ok-x.x c.type_of.ensures
    c.in_ok-c.ensures.code c.in_ok-c.ensures.program c.in_ok-c.ensures.bound c.in_ok-x.ensures.code c.moved_code.ensures

pub predicate::moved-returns-clause-bound : goal.predicate::moved-returns-clause-bound
predicate::moved-returns-clause-bound t c = on_ok c.moved_code.result (c.in_ok-x.ensures.bound ∙ c.in_ok-c.ensures.bound)

pub predicate::moved-returns-clause-program : goal.predicate::moved-returns-clause-program
predicate::moved-returns-clause-program t c = on_ok c.moved_code.result (c.in_ok-x.ensures.program ∙ c.in_ok-c.ensures.program)

pub predicate::pointer_choice-returns-clause-code : goal.predicate::pointer_choice-returns-clause-code
predicate::pointer_choice-returns-clause-code t c =
    let more = ap (stored_with c.args.known.now.stored) (ap plain_readings c.deref.ensures.value ∙ c.in_ok-readings.ensures) in
    of_pointer_choice c.branch_pointer.result c.branch_pointer.new.names.table.kinds c.args.c.now.place None c.args.values.0.now.range c.args.names.now c.pred_code.new.names c.pointer_code.new.names
    c.pointer_code-2.new.names.table.kinds (plain_pred c.args.c.now) (plain_term c.args.values.0.now) (plain_term c.args.values.1.now) (plain_known c.args.known.now) (stored_with c.args.known.now.stored (plain_readings c.deref.result.now))
    (stored_with c.args.known.now.stored (plain_readings c.deref.result.now)) c.in_ok-z.z c.in_ok-x.x c.in_ok-y.y more more
    c.in_ok-z.ensures.code c.in_ok-z.ensures.program c.in_ok-z.ensures.bound c.in_ok-x.ensures.code c.in_ok-x.ensures.program c.in_ok-x.ensures.bound c.in_ok-y.ensures.code c.branch_pointer.ensures.code

pub predicate::pointer_choice-returns-clause-bound : goal.predicate::pointer_choice-returns-clause-bound
predicate::pointer_choice-returns-clause-bound t c =
    then_is c.branch_pointer.result _ (c.in_ok-y.ensures.bound ∙ c.in_ok-x.ensures.bound ∙ c.in_ok-z.ensures.bound) c.branch_pointer.ensures.bound

pub predicate::pointer_choice-returns-clause-program : goal.predicate::pointer_choice-returns-clause-program
predicate::pointer_choice-returns-clause-program t c =
    then_is c.branch_pointer.result _ (c.in_ok-y.ensures.program ∙ c.in_ok-x.ensures.program ∙ c.in_ok-z.ensures.program) c.branch_pointer.ensures.program

pub predicate::start_told-returns-clause-code : goal.predicate::start_told-returns-clause-code
predicate::start_told-returns-clause-code t c =
    of_start c.told_pointer.result c.told_pointer.new.names.table.kinds c.pointer_code.new.names.table.kinds c.args.names.now (plain_known c.args.known.now) (plain_term c.args.a.now) c.in_ok-c.c c.in_ok-c.ensures.code
    c.told_pointer.ensures.code

pub predicate::start_told-returns-clause-bound : goal.predicate::start_told-returns-clause-bound
predicate::start_told-returns-clause-bound t c = then_is c.told_pointer.result _ (c.in_ok-c.ensures.bound) c.told_pointer.ensures.bound

pub predicate::start_told-returns-clause-program : goal.predicate::start_told-returns-clause-program
predicate::start_told-returns-clause-program t c = then_is c.told_pointer.result _ (c.in_ok-c.ensures.program) c.told_pointer.ensures.program

pub predicate::elements-returns-clause-code : goal.predicate::elements-returns-clause-code
predicate::elements-returns-clause-code t c =
    of_elements c.elements_code.result c.term_code-2.new.names.table.kinds c.args.a.now.place c.args.n 1 c.type_of.result c.type_of-2.result c.args.names.now c.pointer_code.new.names c.term_code.new.names
    (plain_term c.args.a.now) (plain_term c.args.bounds.0.now) (plain_term c.args.bounds.1.now) (plain_known c.args.known.now) c.in_ok-c.c c.in_ok-x.x c.in_ok-y.y
    c.type_of.ensures c.type_of-2.ensures c.in_ok-c.ensures.code c.in_ok-c.ensures.program c.in_ok-c.ensures.bound c.in_ok-x.ensures.code c.in_ok-x.ensures.program c.in_ok-x.ensures.bound
    c.in_ok-y.ensures.code c.elements_code.ensures

pub predicate::elements-returns-clause-bound : goal.predicate::elements-returns-clause-bound
predicate::elements-returns-clause-bound t c = on_ok c.elements_code.result (c.in_ok-y.ensures.bound ∙ c.in_ok-x.ensures.bound ∙ c.in_ok-c.ensures.bound)

pub predicate::elements-returns-clause-program : goal.predicate::elements-returns-clause-program
predicate::elements-returns-clause-program t c = on_ok c.elements_code.result (c.in_ok-y.ensures.program ∙ c.in_ok-x.ensures.program ∙ c.in_ok-c.ensures.program)

pub predicate::more_zones-returns-clause-code : goal.predicate::more_zones-returns-clause-code
predicate::more_zones-returns-clause-code t c =
    of_more_zones c.another_zone.result c.zones_code.new.names.table.kinds c.args.names.now c.zone_code.new.names (plain_zone c.args.z.now) (plain_zones c.args.rest.now) (plain_known c.args.known.now)
    c.in_ok-c.c c.in_ok-others.others c.in_ok-c.ensures.code c.in_ok-c.ensures.program c.in_ok-c.ensures.bound c.in_ok-others.ensures.code c.another_zone.ensures

pub predicate::more_zones-returns-clause-bound : goal.predicate::more_zones-returns-clause-bound
predicate::more_zones-returns-clause-bound t c = on_ok c.another_zone.result (c.in_ok-others.ensures.bound ∙ c.in_ok-c.ensures.bound)

pub predicate::more_zones-returns-clause-program : goal.predicate::more_zones-returns-clause-program
predicate::more_zones-returns-clause-program t c = on_ok c.another_zone.result (c.in_ok-others.ensures.program ∙ c.in_ok-c.ensures.program)

-- ---- predicates and chains

pub predicate::pred_code-returns-in-NonZero-clause-code : goal.predicate::pred_code-returns-in-NonZero-clause-code
predicate::pred_code-returns-in-NonZero-clause-code t c =
    pred_at c.nonzero.new.names.table.kinds c.args.names.now (plain_known c.args.known.now) c.args.p.now (sym c.deref.ensures ∙ c.in-NonZero.is) c.nonzero.result c.nonzero.ensures.code

pub predicate::pred_code-returns-in-NonZero-clause-bound : goal.predicate::pred_code-returns-in-NonZero-clause-bound
predicate::pred_code-returns-in-NonZero-clause-bound t c = c.nonzero.ensures.bound

pub predicate::pred_code-returns-in-NonZero-clause-program : goal.predicate::pred_code-returns-in-NonZero-clause-program
predicate::pred_code-returns-in-NonZero-clause-program t c = c.nonzero.ensures.program

pub predicate::pred_code-returns-in-Chain-clause-code : goal.predicate::pred_code-returns-in-Chain-clause-code
predicate::pred_code-returns-in-Chain-clause-code t c =
    pred_at c.chain.new.names.table.kinds c.args.names.now (plain_known c.args.known.now) c.args.p.now (sym c.deref.ensures ∙ c.in-Chain.is) c.chain.result c.chain.ensures.code

pub predicate::pred_code-returns-in-Chain-clause-bound : goal.predicate::pred_code-returns-in-Chain-clause-bound
predicate::pred_code-returns-in-Chain-clause-bound t c = c.chain.ensures.bound

pub predicate::pred_code-returns-in-Chain-clause-program : goal.predicate::pred_code-returns-in-Chain-clause-program
predicate::pred_code-returns-in-Chain-clause-program t c = c.chain.ensures.program

pub predicate::pred_code-returns-in-Not-clause-code : goal.predicate::pred_code-returns-in-Not-clause-code
predicate::pred_code-returns-in-Not-clause-code t c =
    pred_at c.denied.new.names.table.kinds c.args.names.now (plain_known c.args.known.now) c.args.p.now (sym c.deref.ensures ∙ c.in-Not.is) c.denied.result c.denied.ensures.code

pub predicate::pred_code-returns-in-Not-clause-bound : goal.predicate::pred_code-returns-in-Not-clause-bound
predicate::pred_code-returns-in-Not-clause-bound t c = c.denied.ensures.bound

pub predicate::pred_code-returns-in-Not-clause-program : goal.predicate::pred_code-returns-in-Not-clause-program
predicate::pred_code-returns-in-Not-clause-program t c = c.denied.ensures.program

pub predicate::pred_code-returns-in-Connected-clause-code : goal.predicate::pred_code-returns-in-Connected-clause-code
predicate::pred_code-returns-in-Connected-clause-code t c =
    pred_at c.sides.new.names.table.kinds c.args.names.now (plain_known c.args.known.now) c.args.p.now (sym c.deref.ensures ∙ c.in-Connected.is) c.sides.result c.sides.ensures.code

pub predicate::pred_code-returns-in-Connected-clause-bound : goal.predicate::pred_code-returns-in-Connected-clause-bound
predicate::pred_code-returns-in-Connected-clause-bound t c = c.sides.ensures.bound

pub predicate::pred_code-returns-in-Connected-clause-program : goal.predicate::pred_code-returns-in-Connected-clause-program
predicate::pred_code-returns-in-Connected-clause-program t c = c.sides.ensures.program

pub predicate::pred_code-returns-in-Choice-clause-code : goal.predicate::pred_code-returns-in-Choice-clause-code
predicate::pred_code-returns-in-Choice-clause-code t c =
    pred_at c.one_of.new.names.table.kinds c.args.names.now (plain_known c.args.known.now) c.args.p.now (sym c.deref.ensures ∙ c.in-Choice.is) c.one_of.result c.one_of.ensures.code

pub predicate::pred_code-returns-in-Choice-clause-bound : goal.predicate::pred_code-returns-in-Choice-clause-bound
predicate::pred_code-returns-in-Choice-clause-bound t c = c.one_of.ensures.bound

pub predicate::pred_code-returns-in-Choice-clause-program : goal.predicate::pred_code-returns-in-Choice-clause-program
predicate::pred_code-returns-in-Choice-clause-program t c = c.one_of.ensures.program

pub predicate::pred_code-returns-in-Asks-clause-code : goal.predicate::pred_code-returns-in-Asks-clause-code
predicate::pred_code-returns-in-Asks-clause-code t c =
    pred_at c.asks.new.names.table.kinds c.args.names.now (plain_known c.args.known.now) c.args.p.now (sym c.deref.ensures ∙ c.in-Asks.is) c.asks.result c.asks.ensures.code

pub predicate::pred_code-returns-in-Asks-clause-bound : goal.predicate::pred_code-returns-in-Asks-clause-bound
predicate::pred_code-returns-in-Asks-clause-bound t c = c.asks.ensures.bound

pub predicate::pred_code-returns-in-Asks-clause-program : goal.predicate::pred_code-returns-in-Asks-clause-program
predicate::pred_code-returns-in-Asks-clause-program t c = c.asks.ensures.program

pub predicate::pred_code-returns-in-Separated-clause-code : goal.predicate::pred_code-returns-in-Separated-clause-code
predicate::pred_code-returns-in-Separated-clause-code t c =
    pred_at c.separated.new.names.table.kinds c.args.names.now (plain_known c.args.known.now) c.args.p.now (sym c.deref.ensures ∙ c.in-Separated.is) c.separated.result c.separated.ensures.code

pub predicate::pred_code-returns-in-Separated-clause-bound : goal.predicate::pred_code-returns-in-Separated-clause-bound
predicate::pred_code-returns-in-Separated-clause-bound t c = c.separated.ensures.bound

pub predicate::pred_code-returns-in-Separated-clause-program : goal.predicate::pred_code-returns-in-Separated-clause-program
predicate::pred_code-returns-in-Separated-clause-program t c = c.separated.ensures.program

pub predicate::chain-returns-clause-code : goal.predicate::chain-returns-clause-code
predicate::chain-returns-clause-code t c =
    of_chain c.chain_code.result c.chain_code.new.names.table.kinds c.args.names.now c.side_code.new.names (plain_term c.args.t.now) c.in_ok-x.x c.args.t.now.place (plain_links c.args.links.now)
    (plain_known c.args.known.now) c.in_ok-x.ensures.code c.in_ok-x.ensures.program c.in_ok-x.ensures.bound c.chain_code.ensures.code

pub predicate::chain-returns-clause-bound : goal.predicate::chain-returns-clause-bound
predicate::chain-returns-clause-bound t c = then_is c.chain_code.result _ (c.in_ok-x.ensures.bound) c.chain_code.ensures.bound

pub predicate::chain-returns-clause-program : goal.predicate::chain-returns-clause-program
predicate::chain-returns-clause-program t c = then_is c.chain_code.result _ (c.in_ok-x.ensures.program) c.chain_code.ensures.program

pub predicate::more_links-returns-clause-code : goal.predicate::more_links-returns-clause-code
predicate::more_links-returns-clause-code t c =
    let more = ap (stored_with c.args.known.now.stored) (ap plain_readings c.deref.ensures.value ∙ c.in_ok-readings.ensures) in
    of_more_links c.connected.result c.connected.new.names.table.kinds c.args.names.now c.related_again.new.names c.chain_code.new.names.table.kinds (plain_term c.args.sides.0.now)
    (plain_term c.args.sides.1.now) c.args.codes.0 c.args.codes.1 c.in_ok-related.related.1 c.args.relation (plain_links c.args.rest.now) (plain_known c.args.known.now) (stored_with c.args.known.now.stored (plain_readings c.deref.result.now))
    c.in_ok-related.related.0 c.in_ok-others.others c.in_ok-related.ensures.again c.in_ok-related.ensures.code c.in_ok-related.ensures.program c.in_ok-related.ensures.bound more c.in_ok-others.ensures.code
    c.connected.ensures.code

pub predicate::more_links-returns-clause-bound : goal.predicate::more_links-returns-clause-bound
predicate::more_links-returns-clause-bound t c = then_is c.connected.result _ (c.in_ok-others.ensures.bound ∙ c.in_ok-related.ensures.bound) c.connected.ensures.bound

pub predicate::more_links-returns-clause-program : goal.predicate::more_links-returns-clause-program
predicate::more_links-returns-clause-program t c =
    then_is c.connected.result _ (c.in_ok-others.ensures.program ∙ c.in_ok-related.ensures.program) c.connected.ensures.program

pub predicate::nonzero-returns-clause-code : goal.predicate::nonzero-returns-clause-code
predicate::nonzero-returns-clause-code t c =
    of_nonzero c.nonzero_code.result c.term_code.new.names.table.kinds c.args.names.now (plain_known c.args.known.now) c.args.t.now.place (plain_term c.args.t.now) c.type_of.result c.in_ok-x.x c.type_of.ensures c.in_ok-x.ensures.code
    c.nonzero_code.ensures

pub predicate::nonzero-returns-clause-bound : goal.predicate::nonzero-returns-clause-bound
predicate::nonzero-returns-clause-bound t c = on_ok c.nonzero_code.result (c.in_ok-x.ensures.bound)

pub predicate::nonzero-returns-clause-program : goal.predicate::nonzero-returns-clause-program
predicate::nonzero-returns-clause-program t c = on_ok c.nonzero_code.result (c.in_ok-x.ensures.program)

pub predicate::denied-returns-clause-code : goal.predicate::denied-returns-clause-code
predicate::denied-returns-clause-code t c =
    of_denied c.denied_code.result c.pred_code.new.names.table.kinds c.args.names.now (plain_known c.args.known.now) c.args.q.now.place (plain_pred c.args.q.now) c.in_ok-x.x c.in_ok-x.ensures.code c.denied_code.ensures

pub predicate::denied-returns-clause-bound : goal.predicate::denied-returns-clause-bound
predicate::denied-returns-clause-bound t c = on_ok c.denied_code.result (c.in_ok-x.ensures.bound)

pub predicate::denied-returns-clause-program : goal.predicate::denied-returns-clause-program
predicate::denied-returns-clause-program t c = on_ok c.denied_code.result (c.in_ok-x.ensures.program)

pub predicate::sides-returns-clause-code : goal.predicate::sides-returns-clause-code
predicate::sides-returns-clause-code t c =
    let more = ap (stored_with c.args.known.now.stored) (ap plain_readings c.deref.ensures.value ∙ c.in_ok-readings.ensures) in
    of_sides c.connected.result c.connected.new.names.table.kinds c.args.names.now c.pred_code.new.names c.pred_code-2.new.names.table.kinds c.args.parts.0.now.place c.args.connective
    (plain_pred c.args.parts.0.now) (plain_pred c.args.parts.1.now) (plain_known c.args.known.now) (stored_with c.args.known.now.stored (plain_readings c.deref.result.now)) c.in_ok-x.x c.in_ok-y.y c.in_ok-x.ensures.code
    c.in_ok-x.ensures.program c.in_ok-x.ensures.bound more c.in_ok-y.ensures.code c.connected.ensures.code

pub predicate::sides-returns-clause-bound : goal.predicate::sides-returns-clause-bound
predicate::sides-returns-clause-bound t c = then_is c.connected.result _ (c.in_ok-y.ensures.bound ∙ c.in_ok-x.ensures.bound) c.connected.ensures.bound

pub predicate::sides-returns-clause-program : goal.predicate::sides-returns-clause-program
predicate::sides-returns-clause-program t c = then_is c.connected.result _ (c.in_ok-y.ensures.program ∙ c.in_ok-x.ensures.program) c.connected.ensures.program

pub predicate::one_of-returns-clause-code : goal.predicate::one_of-returns-clause-code
predicate::one_of-returns-clause-code t c =
    let more = ap (stored_with c.args.known.now.stored) (ap plain_readings c.deref.ensures.value ∙ c.in_ok-readings.ensures) in
    of_one c.branched.result c.branched.new.names.table.kinds c.args.names.now c.pred_code.new.names c.pred_code-2.new.names c.pred_code-3.new.names.table.kinds c.args.c.now.place (plain_pred c.args.c.now)
    (plain_pred c.args.parts.0.now) (plain_pred c.args.parts.1.now) (plain_known c.args.known.now) (stored_with c.args.known.now.stored (plain_readings c.deref.result.now))
    (stored_with c.args.known.now.stored (plain_readings c.deref.result.now)) c.in_ok-z.z c.in_ok-x.x
    c.in_ok-y.y more more c.in_ok-z.ensures.code c.in_ok-z.ensures.program c.in_ok-z.ensures.bound c.in_ok-x.ensures.code c.in_ok-x.ensures.program c.in_ok-x.ensures.bound
    c.in_ok-y.ensures.code c.branched.ensures.code

pub predicate::one_of-returns-clause-bound : goal.predicate::one_of-returns-clause-bound
predicate::one_of-returns-clause-bound t c =
    then_is c.branched.result _ (c.in_ok-y.ensures.bound ∙ c.in_ok-x.ensures.bound ∙ c.in_ok-z.ensures.bound) c.branched.ensures.bound

pub predicate::one_of-returns-clause-program : goal.predicate::one_of-returns-clause-program
predicate::one_of-returns-clause-program t c =
    then_is c.branched.result _ (c.in_ok-y.ensures.program ∙ c.in_ok-x.ensures.program ∙ c.in_ok-z.ensures.program) c.branched.ensures.program

pub predicate::asks-returns-clause-code : goal.predicate::asks-returns-clause-code
predicate::asks-returns-clause-code t c =
    of_asks c.zone_asked.result c.zone_asked.new.names.table.kinds c.args.names.now c.zone_code.new.names c.args.question c.args.z.now (plain_known c.args.known.now) c.in_ok-c.c c.in_ok-c.ensures.code
    c.zone_asked.ensures.code

pub predicate::asks-returns-clause-bound : goal.predicate::asks-returns-clause-bound
predicate::asks-returns-clause-bound t c = then_is c.zone_asked.result _ (c.in_ok-c.ensures.bound) c.zone_asked.ensures.bound

pub predicate::asks-returns-clause-program : goal.predicate::asks-returns-clause-program
predicate::asks-returns-clause-program t c = then_is c.zone_asked.result _ (c.in_ok-c.ensures.program) c.zone_asked.ensures.program

pub predicate::separated-returns-clause-code : goal.predicate::separated-returns-clause-code
predicate::separated-returns-clause-code t c =
    of_separated c.separated_code.result c.separated_code.new.names.table.kinds c.args.names.now (plain_known c.args.known.now) first_place c.zones_code.new.names.table.kinds (plain_zones c.args.zones.now) c.in_ok-c.c
    c.in_ok-c.ensures.code c.separated_code.ensures.code

pub predicate::separated-returns-clause-bound : goal.predicate::separated-returns-clause-bound
predicate::separated-returns-clause-bound t c = then_is c.separated_code.result _ (c.in_ok-c.ensures.bound) c.separated_code.ensures.bound

pub predicate::separated-returns-clause-program : goal.predicate::separated-returns-clause-program
predicate::separated-returns-clause-program t c = then_is c.separated_code.result _ (c.in_ok-c.ensures.program) c.separated_code.ensures.program

pub predicate::chain_code-returns-in-Link-clause-code : goal.predicate::chain_code-returns-in-Link-clause-code
predicate::chain_code-returns-in-Link-clause-code t c =
    let link = Linked c.in-Link.field-0 c.in-Link.relation (plain_term c.in-Link.u) in
    let is : plain_links c.args.links.now ≡ link (plain_links c.deref.result.now) = ap plain_links c.in-Link.is ∙ ap (λ l. link (plain_links l)) (sym c.deref.ensures) in
    let whole = of_linked c.link.result c.link.new.names.table.kinds c.args.names.now (plain_term c.args.t.now) (plain_term c.in-Link.u) (side_of c.args.x c.args.names.now.table.kinds)
    c.in-Link.u.place c.in-Link.field-0 c.in-Link.relation (plain_links c.deref.result.now) (plain_known c.args.known.now) c.link.ensures.code in
    rw is whole

pub predicate::link-returns-in-End-clause-code : goal.predicate::link-returns-in-End-clause-code
predicate::link-returns-in-End-clause-code t c =
    let is : plain_links c.args.rest.now ≡ NoLink = search rules in
    of_last c.related_code.result c.related_code.new.names.table.kinds c.args.names.now c.side_code.new.names (plain_term c.args.sides.0.now) (plain_term c.args.sides.1.now) c.args.x c.in_ok-y.y
    c.args.sides.1.now.place c.args.relation (plain_links c.args.rest.now) (plain_known c.args.known.now) is c.in_ok-y.ensures.code c.related_code.ensures.code

pub predicate::link-returns-in-Link-clause-code : goal.predicate::link-returns-in-Link-clause-code
predicate::link-returns-in-Link-clause-code t c =
    let v = plain_term c.in-Link.field-2 in
    let others = plain_links c.in-Link.field-3.value in
    let is : plain_links c.args.rest.now ≡ Linked c.in-Link.field-0 c.in-Link.field-1 v others = search rules in
    of_next c.more_links.result c.more_links.new.names.table.kinds c.args.names.now c.side_code.new.names (plain_term c.args.sides.0.now) (plain_term c.args.sides.1.now) v c.args.x c.in_ok-y.y
    c.args.sides.1.now.place c.in-Link.field-0 c.args.relation c.in-Link.field-1 (plain_links c.args.rest.now) others (plain_known c.args.known.now) is c.in_ok-y.ensures.code
    c.in_ok-y.ensures.program c.in_ok-y.ensures.bound c.more_links.ensures.code

-- ---- quantifiers

pub quantifier::open_more-returns : goal.quantifier::open_more-returns
quantifier::open_more-returns t c =
    let g = c.args.guard.now in
    let known = plain_known c.args.known.now in
    let held = plain_helds c.deref.result.now in
    let held_is = ap plain_helds c.deref.ensures.value ∙ c.in_ok-one.ensures.held in
    let readings_are = ap plain_readings c.deref-2.ensures.value ∙ c.in_ok-readings.ensures in
    let inside : Known = record { plan = known.plan; held = held; readings = plain_readings c.deref-2.result.now } in
    let whole =
    opened_more g c.args.rest.now c.args.names.now c.term_code.new.names c.term_code-2.new.names c.open_guard.new.names known inside c.in_ok-x.x c.in_ok-y.y (plain_guard_opened c.in_ok-one.one) held
    c.in_ok-x.ensures.code c.in_ok-x.ensures.program c.in_ok-x.ensures.bound c.in_ok-y.ensures.code c.in_ok-y.ensures.program c.in_ok-y.ensures.bound c.in_ok-one.ensures.guard held_is
    c.in_ok-one.ensures.kinds c.in_ok-one.ensures.program c.in_ok-one.ensures.bound (ap (known_read known held) readings_are) in
    let inner = within_guards c.open_guard.new.names (plain_guards c.args.rest.now) inside in
    let all = within_guards c.args.names.now (guarded_of g c.args.rest.now) known in
    let r = c.open_guards.result in record {
      opened =
          pushed plain_guard_opened r c.args.opened.now.items c.push.new.self.items c.open_guards.new.opened.items c.in_ok-one.one inner.guards all.guards c.in_ok-push.ensures.items (λ i. (whole i).guards)
          c.open_guards.ensures.opened;
      held = IfOk-weaker r (λ v. plain_helds v.0.items ≡ inner.held) (λ v. plain_helds v.0.items ≡ all.held) (λ v h. h ∙ (λ i. (whole i).held)) c.open_guards.ensures.held;
      readings = IfOk-weaker r (λ v. plain_readings v.1.items ≡ inner.known) (λ v. plain_readings v.1.items ≡ all.known) (λ v h. h ∙ (λ i. (whole i).known)) c.open_guards.ensures.readings;
      kinds = then_is r c.open_guards.new.names.table.kinds (λ i. (whole i).used) c.open_guards.ensures.kinds;
      bound = then_is r c.open_guards.new.names.table.bound (c.in_ok-one.ensures.bound ∙ c.in_ok-y.ensures.bound ∙ c.in_ok-x.ensures.bound) c.open_guards.ensures.bound;
      program = then_is r c.open_guards.new.names.program (c.in_ok-one.ensures.program ∙ c.in_ok-y.ensures.program ∙ c.in_ok-x.ensures.program) c.open_guards.ensures.program;
    }

pub quantifier::quantified-returns-clause-code : goal.quantifier::quantified-returns-clause-code
quantifier::quantified-returns-clause-code t c =
    let gs = plain_guards c.args.parts.0.now in
    let known = plain_known c.args.known.now in
    let w = within_guards c.args.names.now gs known in
    let held : plain_helds c.deref.result.now ≡ w.held = ap plain_helds c.deref.ensures.value ∙ c.in_ok-held.ensures.held in
    let readings : plain_readings c.deref-2.result.now ≡ w.known = ap plain_readings c.deref-2.ensures.value ∙ c.in_ok-held.ensures.readings in
    let within : Known = record { plan = known.plan; held = plain_helds c.deref.result.now; readings = plain_readings c.deref-2.result.now } in
    let same : within ≡ known_within w known = λ i. record { plan = known.plan; held = held i; readings = readings i } in
    let opened : plain_guards_opened c.open_guards.new.opened.items ≡ w.guards = c.in_ok-held.ensures.opened ∙ ap (λ xs. plain_guards_opened xs ++ w.guards) c.new-opened.ensures.items in
    of_quantified c.close_guards.result c.close_guards.new.names.table.kinds first_place c.args.q gs (plain_pred c.args.parts.1.now) c.args.names.now c.open_guards.new.names c.pred_code.new.names.table.kinds known within
    (plain_guards_opened c.open_guards.new.opened.items) c.in_ok-c.c opened c.in_ok-held.ensures.kinds c.in_ok-held.ensures.program c.in_ok-held.ensures.bound same c.in_ok-c.ensures.code c.close_guards.ensures.code
