use Rattle.mon_syntax.proofs.PrintedTexts.{text_spells}
use Rattle.mon_syntax.proofs.laws.printed_texts.Goals as goal

pub returns : goal.returns
returns c = text_spells
