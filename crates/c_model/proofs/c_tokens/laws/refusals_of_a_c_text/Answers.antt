use Rattle.c_model.proofs.CRefusalLaws.{refused_there, refused_back}
use Rattle.c_model.proofs.c_tokens.laws.refusals_of_a_c_text.Goals as goal

pub returns : goal.returns
returns c = λ text x. (refused_there text x, refused_back text x)
