-- Ours: parts of mon_syntax/specs/Checking, as the code does them.
-- Operators on operands that have no fault.
use Rattle.std.specs.Prelude.{ℤ, Ok, ◌&&◌}
use Rattle.c_syntax.specs.declared.place.Place.{Place}
use Rattle.mon_syntax.specs.declared.tree.MonType.{MonType}
use Rattle.mon_syntax.specs.declared.tree.MonType.TheVariants.{Ptr}
use Rattle.mon_syntax.specs.declared.tree.MonOp.{MonOp}
use Rattle.mon_syntax.specs.Trees as tree
use Rattle.mon_syntax.specs.Valid.{is_arithmetic, is_whole, has_operator, second_type, result_type, has_constant}
use Rattle.mon_syntax.specs.Checking.{Checked, Typed, ◌>>◌, demanded, same_type}

abbrev pub constant : Place → MonType → ℤ → Checked Typed
constant at t z = demanded (has_constant t z) at >> Ok (tree.Constant t z, t)

abbrev pub binary : Place → MonOp → Typed → Typed → Checked Typed
binary at op x y = demanded (same_type y.1 (second_type op x.1) && has_operator op x.1) at >> Ok (tree.Binary op x.1 x.0 y.0, result_type op x.1)

abbrev pub minus : Place → Typed → Checked Typed
minus at x = demanded (is_arithmetic x.1) at >> Ok (tree.Minus x.1 x.0, x.1)

abbrev pub flip : Place → Typed → Checked Typed
flip at x = demanded (is_arithmetic x.1) at >> Ok (tree.Flip x.1 x.0, x.1)

abbrev pub cast : Place → MonType → Typed → Checked Typed
cast at t x = demanded (is_whole x.1 && is_whole t) at >> Ok (tree.Cast t x.0, t)

abbrev pub load : Place → MonType → Typed → Checked Typed
load at t x = demanded (same_type x.1 Ptr) at >> Ok (tree.Load t x.0, t)
