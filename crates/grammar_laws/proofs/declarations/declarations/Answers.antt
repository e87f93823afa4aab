use Rattle.grammar_laws.proofs.DeclaratorProductions.{dtor_line, decl_line}
use Rattle.grammar_laws.proofs.ParameterProductions.{param_line, params_line}
use Rattle.grammar_laws.proofs.declarations.declarations.Goals as goal

pub returns-clause-dtor : goal.returns-clause-dtor
returns-clause-dtor c = dtor_line

pub returns-clause-decl : goal.returns-clause-decl
returns-clause-decl c = decl_line

pub returns-clause-param : goal.returns-clause-param
returns-clause-param c = param_line

pub returns-clause-params : goal.returns-clause-params
returns-clause-params c = params_line
