use Rattle.c_model.proofs.TypedReading.{typing_laws}
use Rattle.c_model.proofs.TextTypingLaws.{text_typing_laws}
use Rattle.c_model.proofs.laws.typing.Goals as goal

pub returns : goal.returns
returns c = record { expressions = typing_laws; texts = text_typing_laws }
