-- Ours, in words of the phases of c_model/specs/Phases.
-- What the programs of the phases keep: that the phases before found no fault.
use Rattle.std.specs.Prelude.{◌≡◌, None}
use Rattle.c_syntax.specs.Tokens.{PlainTokens}
use Rattle.c_syntax.specs.Programs.{TranslationUnit}
use Rattle.c_model.specs.Checked.{Good}
use Rattle.c_model.specs.TextOrder.{InTextOrder}
use Rattle.c_model.specs.UnitTyping.{typed_unit, room_fault, main_fault}
use Rattle.c_model.specs.AnnotationTyping.{noted_unit}
use Rattle.c_model.specs.AnnotationRanges.{ranged_unit}
use Rattle.c_model.specs.Phases.{IsRead}

-- the tokens are read as the tree, and its declarations stand in the order of the text
pub record IsParsedTree (ts : PlainTokens) (tree : TranslationUnit) : Type 0 where
  pub read : IsRead ts tree
  pub order : InTextOrder tree

-- it is what the tree of the tokens is typed as, its globals have room, and it has `main`
pub record IsTypedProgram (ts : PlainTokens) (p : TranslationUnit) : Type 0 where
  pub tree : TranslationUnit
  pub parsed : IsParsedTree ts tree
  pub typed : typed_unit tree ≡ Good p
  pub room : room_fault p ≡ None
  pub main : main_fault p.names p.funcs ≡ None

-- besides, its annotations are typed
pub record IsNotedProgram (ts : PlainTokens) (p : TranslationUnit) : Type 0 where
  pub typed : TranslationUnit
  pub is_typed : IsTypedProgram ts typed
  pub noted : noted_unit typed ≡ Good p

-- besides, their terms have their ranges
pub record IsRangedProgram (ts : PlainTokens) (p : TranslationUnit) : Type 0 where
  pub noted : TranslationUnit
  pub is_noted : IsNotedProgram ts noted
  pub ranged : ranged_unit noted ≡ Good p
