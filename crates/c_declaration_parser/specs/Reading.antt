-- Ours: productions of C99 6.7 (c_model/specs/DeclarationGrammar), cut as the code reads them.
-- Repetitions after what is read, and the plain forms of what is read in parts.
use Rattle.std.specs.Prelude.{List, [], ◌∷◌, map}
use Rattle.grammar.specs.Syntax.{Syntax, many}
use Rattle.c_syntax.specs.Ctypes.{PlainType}
use Rattle.c_syntax.specs.Tokens.{PlainToken}
use Rattle.c_syntax.specs.Statements.{Declaration}
use Rattle.c_syntax.specs.Programs.{StructMember, plain_layout, plain_enum}
use Rattle.c_model.specs.Vocabulary.{Vocabulary}
use Rattle.c_model.specs.Punctuators.{comma}
use Rattle.c_model.specs.ExpressionGrammar.{kind, mark_kind}
use Rattle.c_model.specs.DeclarationGrammar.{Declarator, AbstractDeclarator, TagHead, Definitions, FileSpec, next_declared, next_parameter, next_member}
use Rattle.c_expr_parser.specs.Reading.{plain_base, plain_brackets}
use Rattle.c_declaration_parser.specs.declared.declarator.Declarator as code_declarator
use Rattle.c_declaration_parser.specs.declared.declarator.AbstractDeclarator as code_abstract
use Rattle.c_declaration_parser.specs.declared.tagged.TagHead as code_head
use Rattle.c_declaration_parser.specs.declared.tagged.Definitions as code_definitions
use Rattle.c_declaration_parser.specs.declared.specifier.FileSpec as code_spec
pub use Rattle.c_model.specs.ExpressionGrammar.{closed}

-- ---- repetitions, after what is read

module _ (ws : Vocabulary) where
  unfoldable pub other_declared : PlainType → List Declaration → Syntax PlainToken (List Declaration)
  other_declared t ds = many (kind ws) (λ _. mark_kind comma ∷ []) (next_declared ws t) ds

  unfoldable pub other_parameters : List Declaration → Syntax PlainToken (List Declaration)
  other_parameters ps = many (kind ws) (λ _. mark_kind comma ∷ []) (next_parameter ws) ps

  unfoldable pub other_members : PlainType → List StructMember → Syntax PlainToken (List StructMember)
  other_members t ms = many (kind ws) (λ _. mark_kind comma ∷ []) (next_member ws t) ms

-- ---- plain forms

abbrev pub plain_declarator : code_declarator.Declarator → Declarator
plain_declarator d = record { stars = d.stars; name = d.name; place = d.place; lengths = plain_brackets d.brackets.items }

abbrev pub plain_abstract : code_abstract.AbstractDeclarator → AbstractDeclarator
plain_abstract d = record { stars = d.stars; name = d.name; lengths = plain_brackets d.brackets.items }

abbrev pub plain_head : code_head.TagHead → TagHead
plain_head h = record { defines = h.defines; place = h.place; tag = h.tag }

abbrev pub plain_definitions : code_definitions.Definitions → Definitions
plain_definitions d = record { structs = map plain_layout d.structs.items; enums = map plain_enum d.enums.items }

abbrev pub plain_spec : code_spec.FileSpec → FileSpec
plain_spec s = record { storage = s.storage; ctype = plain_base s.base; definitions = plain_definitions s.definitions }
