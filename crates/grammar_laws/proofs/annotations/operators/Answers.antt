use Rattle.c_model.specs.AnnotationGrammar as parsed
use Rattle.grammar_laws.specs.AnnotationProductions as production
use Rattle.grammar_laws.proofs.AloneLevels.{joined_line}
use Rattle.grammar_laws.proofs.annotations.operators.Goals as goal

pub returns-clause-equivalence : goal.returns-clause-equivalence
returns-clause-equivalence c = λ ws. joined_line ws parsed.equivalence_operators (production.alone ws (parsed.implication ws))

pub returns-clause-disjunction : goal.returns-clause-disjunction
returns-clause-disjunction c = λ ws. joined_line ws parsed.disjunction_operators (production.alone ws (parsed.exclusion ws))

pub returns-clause-exclusion : goal.returns-clause-exclusion
returns-clause-exclusion c = λ ws. joined_line ws parsed.exclusion_operators (production.alone ws (parsed.conjunction ws))

pub returns-clause-conjunction : goal.returns-clause-conjunction
returns-clause-conjunction c = λ ws. joined_line ws parsed.conjunction_operators (production.alone ws (parsed.bit_or ws))

pub returns-clause-bit_or : goal.returns-clause-bit_or
returns-clause-bit_or c = λ ws. joined_line ws parsed.bit_or_operators (production.alone ws (parsed.bit_xor ws))

pub returns-clause-bit_xor : goal.returns-clause-bit_xor
returns-clause-bit_xor c = λ ws. joined_line ws parsed.bit_xor_operators (production.alone ws (parsed.bit_and ws))

pub returns-clause-bit_and : goal.returns-clause-bit_and
returns-clause-bit_and c = λ ws. joined_line ws parsed.bit_and_operators (production.alone ws (parsed.chain ws))

pub returns-clause-shift : goal.returns-clause-shift
returns-clause-shift c = λ ws. joined_line ws parsed.shift_operators (production.alone ws (parsed.sum ws))

pub returns-clause-sum : goal.returns-clause-sum
returns-clause-sum c = λ ws. joined_line ws parsed.sum_operators (parsed.product ws (parsed.form ws) (production.Z ws) (production.L ws))

pub returns-clause-product : goal.returns-clause-product
returns-clause-product c = λ ws. joined_line ws parsed.product_operators (parsed.prefix ws (parsed.form ws) (production.Z ws) (production.L ws))
