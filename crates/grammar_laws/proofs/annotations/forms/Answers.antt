use Rattle.grammar_laws.proofs.ChainProductions.{chain_line}
use Rattle.grammar_laws.proofs.AnnotationProductions.{prefix_line}
use Rattle.grammar_laws.proofs.AloneLevels.{form_line, implication_line}
use Rattle.grammar_laws.proofs.ZoneLevels.{zone_line}
use Rattle.grammar_laws.proofs.annotations.forms.Goals as goal

pub returns-clause-form : goal.returns-clause-form
returns-clause-form c = form_line

pub returns-clause-implication : goal.returns-clause-implication
returns-clause-implication c = implication_line

pub returns-clause-chain : goal.returns-clause-chain
returns-clause-chain c = chain_line

pub returns-clause-prefix : goal.returns-clause-prefix
returns-clause-prefix c = prefix_line

pub returns-clause-zone : goal.returns-clause-zone
returns-clause-zone c = zone_line
