-- Ours: productions of ACSL 2.2 and 2.3 (c_model/specs/AnnotationGrammar, ClauseGrammar), cut as the code reads them.
-- Levels of operators, and repetitions after what is read.
use Rattle.std.specs.Prelude.{ℕ, List, [], ◌∷◌, map, Option, Some, None, option_map}
use Rattle.grammar.specs.Syntax.{Syntax, gives, one, many}
use Rattle.c_syntax.specs.declared.place.Place.{Place}
use Rattle.c_syntax.specs.declared.logic.Formula.{Formula}
use Rattle.c_syntax.specs.declared.logic.FormulaLinks.{FormulaLinks}
use Rattle.c_syntax.specs.Formulas.{Form, FormLinks, NoLink, FormZone, plain_form, plain_form_links}
use Rattle.c_syntax.specs.Tokens.{PlainToken}
use Rattle.c_model.specs.declared.formulas.ChainDirection.{ChainDirection}
use Rattle.c_model.specs.declared.formulas.FormulaMode.{FormulaMode}
use Rattle.c_model.specs.declared.formulas.FormulaOperator.{FormulaOperator}
use Rattle.c_model.specs.Vocabulary.{Vocabulary}
use Rattle.c_model.specs.AnnotationGrammar.{product_operators, sum_operators, shift_operators, bit_and_operators, bit_xor_operators, bit_or_operators}
use Rattle.c_model.specs.AnnotationGrammar.{conjunction_operators, exclusion_operators, disjunction_operators}
use Rattle.c_model.specs.AnnotationGrammar.{equivalence_operators, formula_kind, FormEnd, ByRange, ByQuantifier, Spanned}
use Rattle.c_model.specs.AnnotationGrammar.{prefix, product, sum, shift, chain, bit_and, bit_xor, bit_or, conjunction, exclusion, implication}
use Rattle.c_model.specs.AnnotationGrammar.{links, zone, next_zone, next_name, forms, form}
use Rattle.c_syntax.specs.declared.logic.Annot.{Annot}
use Rattle.c_syntax.specs.Logic.{Annotation, plain_annot}
use Rattle.c_syntax.specs.Programs.{plain_contract}
use Rattle.c_model.specs.ClauseGrammar.{LoopClauses, ReadAnnotation as Reading, Assertions, Contracted, Looped, passed_kind, passed}
use Rattle.c_model.specs.ExpressionGrammar.{mark_kind}
use Rattle.c_model.specs.Punctuators.{comma}
use Rattle.acsl_parser.specs.declared.span.Span.{Span}
use Rattle.acsl_parser.specs.declared.span.Span.TheVariants as span
use Rattle.acsl_parser.specs.declared.readings.LoopAnnotation.{LoopAnnotation}
use Rattle.acsl_parser.specs.declared.readings.ReadAnnotation.{ReadAnnotation}
use Rattle.acsl_parser.specs.declared.readings.ReadAnnotation.TheVariants as read
use Rattle.acsl_parser.specs.declared.tables.Level.{Level}
use Rattle.acsl_parser.specs.declared.tables.Level.TheVariants as level

-- the operators of a level
abbrev pub operators : Level → List (ℕ × FormulaOperator)
operators level.Product = product_operators
operators level.Sum = sum_operators
operators level.Shift = shift_operators
operators level.BitAnd = bit_and_operators
operators level.BitXor = bit_xor_operators
operators level.BitOr = bit_or_operators
operators level.Conjunction = conjunction_operators
operators level.Exclusion = exclusion_operators
operators level.Disjunction = disjunction_operators
operators level.Equivalence = equivalence_operators

-- what a form is read as that something may end
abbrev pub plain_range : Span → FormEnd
plain_range (span.Range at lo hi) = ByRange at (plain_form lo) (plain_form hi)
plain_range span.Quantifier = ByQuantifier

abbrev pub plain_spanned : (Formula × Option Span) → Spanned Form
plain_spanned x = (plain_form x.0, option_map plain_range x.1)

abbrev pub plain_spanned_links : (FormulaLinks × Option Span) → Spanned FormLinks
plain_spanned_links x = (plain_form_links x.0, option_map plain_range x.1)

-- a clause of a loop, at the place of its first word
abbrev pub plain_placed : (Place × Option Annot) → Place × Option Annotation
plain_placed x = (x.0, option_map plain_annot x.1)

abbrev pub plain_loop : LoopAnnotation → LoopClauses
plain_loop l = record { place = l.place; clauses = map plain_annot l.clauses.items; again = l.again }

-- what an annotation is read as
abbrev pub plain_read : ReadAnnotation → Reading
plain_read (read.Asserts clauses) = Assertions (map plain_annot clauses.items)
plain_read (read.Contract c) = Contracted (plain_contract c)
plain_read (read.Loop l) = Looped (plain_loop l)

-- what `assigns` passes over
unfoldable pub passed_over : Syntax PlainToken (Unit {0})
passed_over = many passed_kind (λ _. 1 ∷ []) (λ _. one passed) (tt {0})

module _ (ws : Vocabulary) where
  -- an operand of the operators of a level in a mode, where E stands for a form, Z for a zone, and L for a form that may stand last
  abbrev pub operand_of : Syntax PlainToken Form → Syntax PlainToken FormZone → Syntax PlainToken (Spanned Form) → FormulaMode → Level
      → Syntax PlainToken (Spanned Form)
  operand_of E Z L m level.Product = prefix ws E Z L
  operand_of E Z L m level.Sum = product ws E Z L
  operand_of E Z L m level.Shift = sum ws E Z L m
  operand_of E Z L m level.BitAnd = chain ws E Z L m
  operand_of E Z L m level.BitXor = bit_and ws E Z L m
  operand_of E Z L m level.BitOr = bit_xor ws E Z L m
  operand_of E Z L m level.Conjunction = bit_or ws E Z L m
  operand_of E Z L m level.Exclusion = conjunction ws E Z L m
  operand_of E Z L m level.Disjunction = exclusion ws E Z L m
  operand_of E Z L m level.Equivalence = implication ws E Z L m

  -- what stands in whole forms and zones
  abbrev pub any_zone : Syntax PlainToken FormZone
  any_zone = zone ws (forms ws)

  abbrev pub any_prefix : FormulaMode → Syntax PlainToken (Spanned Form)
  any_prefix m = prefix ws (form ws) any_zone (forms ws m)

  abbrev pub operand : FormulaMode → Level → Syntax PlainToken (Spanned Form)
  operand m l = operand_of (form ws) any_zone (forms ws m) m l

  abbrev pub any_shift : FormulaMode → Syntax PlainToken (Spanned Form)
  any_shift m = shift ws (form ws) any_zone (forms ws m) m

  -- relations and their operands, after an operand that this ends
  abbrev pub links_behind : FormulaMode → ChainDirection → Option FormEnd → Syntax PlainToken (Spanned FormLinks)
  links_behind m d r = elim r [ None ↦ links ws (any_shift m) d | Some q ↦ gives (NoLink, Some q) ]

  abbrev pub any_implication : FormulaMode → Syntax PlainToken (Spanned Form)
  any_implication m = implication ws (form ws) any_zone (forms ws m) m

  -- zones after others
  unfoldable pub more_zones : List FormZone → Syntax PlainToken (List FormZone)
  more_zones zs = many (formula_kind ws) (λ _. mark_kind comma ∷ []) (next_zone ws any_zone) zs

  -- names of behaviors after others
  unfoldable pub more_names : List (Place × ℕ) → Syntax PlainToken (List (Place × ℕ))
  more_names names = many (formula_kind ws) (λ _. mark_kind comma ∷ []) (next_name ws) names
