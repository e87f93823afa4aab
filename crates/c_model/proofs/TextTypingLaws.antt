-- The laws of typing above expressions.
use Rattle.c_model.specs.DeclarationTyping.{typed_variable, typed_global}
use Rattle.c_model.specs.TypedReadings.{DeclarationTypedAs}
use Rattle.c_model.specs.TextTypingLaws.{TextTypingLaws}
use Rattle.c_model.proofs.TypedParts.{gives_of}
use Rattle.c_model.proofs.TypedDeclarations.{variable_is_declared, global_is_declared}
use Rattle.c_model.proofs.TypedStatements.{statement_is_typed}
use Rattle.c_model.proofs.TypedFunctions.{function_is_typed}
use Rattle.c_model.proofs.TypedUnits.{unit_stands}
use Rattle.c_model.proofs.NotedTrees.{unit_noted}
use Rattle.c_model.proofs.ReadStatements.{variable_as, global_as, statement_is_read, function_is_read}

pub text_typing_laws : TextTypingLaws
text_typing_laws = record {
  variable_is_known = variable_is_declared;
  variable_is_read = λ s d e is. gives_of (DeclarationTypedAs d) (typed_variable s d) e (variable_as s d) is;
  global_is_known = global_is_declared;
  global_is_read = λ s d e is. gives_of (DeclarationTypedAs d) (typed_global s d) e (global_as s d) is;
  statement_is_known = statement_is_typed;
  statement_is_read = statement_is_read;
  function_is_known = function_is_typed;
  function_is_read = function_is_read;
  file_is_known = unit_stands;
  asserts_are_known = unit_noted;
}
