-- The productions of declarations as the head of c_model/specs/DeclarationGrammar has them (C99 6.7). What a production is made of are the
-- values that are parsed; L stands for a list inside another, and B for braces inside others.
use Rattle.std.specs.Prelude.{ℕ, List, [], ◌∷◌, ◌++◌, Option, Some, None}
use Rattle.grammar.specs.Syntax.{at_most, Syntax, gives, ◌then◌}
use Rattle.grammar_laws.specs.ExpressionProductions.{stars}
use Rattle.grammar_laws.specs.Plain.{◌or◌, ◌but◌, repeated, with_first}
use Rattle.c_syntax.specs.Ctypes.{PlainLength, Left, Written, PlainType}
use Rattle.c_syntax.specs.Statements.{Declaration, BlockItem, Declare, Specify, Initialiser, One, Many}
use Rattle.c_syntax.specs.declared.place.Place.{Place}
use Rattle.c_syntax.specs.Programs.{StructMember, EnumConstant}
use Rattle.c_syntax.specs.Tokens as token
use Rattle.c_syntax.specs.Tokens.{PlainToken, PlainTokenKind}
use Rattle.c_model.specs.declared.declarations.Named.{Named}
use Rattle.c_model.specs.Punctuators.{left_bracket, right_bracket, assign, semicolon, comma, left_brace, right_brace, right_paren}
use Rattle.c_model.specs.Terminals.{expression_limit, placed}
use Rattle.c_model.specs.ExpressionGrammar.{most_in_expression, expression, type_words, mark, reserved, name, any_name, consts, base, full_expression_at}
use Rattle.c_model.specs.declared.operands.Level.TheVariants.{Assignment, Conditional}
use Rattle.c_model.specs.declared.vocabulary.Keyword.TheVariants as keyword
use Rattle.c_model.specs.DeclarationGrammar.{Declarator, declared_by, declared_name, Braces, TagHead, Definitions, tag_word, initialisers, member_of}
use Rattle.c_model.specs.DeclarationGrammar.{with_struct, with_enum, AbstractDeclarator, parameter_of}
use Rattle.c_model.specs.declared.declarations.Named.TheVariants as named
use Rattle.c_model.specs.declared.declarations.Tagged.{Tagged}
use Rattle.c_model.specs.declared.declarations.Tagged.TheVariants as tagged
use Rattle.c_model.specs.Vocabulary.{Vocabulary}
use Rattle.c_model.specs.DeclarationGrammar as parsed

-- the number of a word
abbrev pub word_number : PlainTokenKind → Option ℕ
word_number (token.Word n) = Some n
word_number _ = None

module _ (ws : Vocabulary) where
  -- item { "," item } [ "," ]
  abbrev pub comma_list : {A : Type 0} → Syntax PlainToken A → Syntax PlainToken (List A)
  comma_list I =
      I then λ i. repeated (λ is. mark ws comma then λ _. I then λ j. gives (is ++ j ∷ [])) (i ∷ []) then λ is.
      (mark ws comma then λ _. gives is) or gives is

  -- init = assign | list
  abbrev pub init : Syntax PlainToken Initialiser → Syntax PlainToken Initialiser
  init L = (full_expression_at ws Assignment then λ e. gives (One e)) or L

  -- list = "{" init { "," init } [ "," ] "}"
  abbrev pub list : Syntax PlainToken Initialiser → Syntax PlainToken Initialiser
  list L = mark ws left_brace then λ at. comma_list (init L) then λ is. mark ws right_brace then λ _. gives (Many at (initialisers is))

  -- one = NAME [ "=" cond ]
  abbrev pub one : Syntax PlainToken EnumConstant
  one =
      name ws then λ x. ((mark ws assign then λ _. full_expression_at ws Conditional then λ e. gives (Some e)) or gives None) then λ v.
      gives (record { place = x.1; name = x.0; value = v })

  -- dtor { "," dtor } ";", after these members
  abbrev pub members_of : PlainType → List StructMember → Syntax PlainToken (List StructMember)
  members_of t ms =
      parsed.full_dtor ws named.Member then λ d.
      repeated (λ ns. mark ws comma then λ _. parsed.full_dtor ws named.Member then λ e. gives (ns ++ member_of t e ∷ [])) (ms ++ member_of t d ∷ [])
      then λ ns. mark ws semicolon then λ _. gives ns

  -- member = { "const" } braced { "const" } dtor { "," dtor } ";", after these members
  abbrev pub member : Braces → List StructMember × Definitions → Syntax PlainToken (List StructMember × Definitions)
  member B x =
      consts ws (tt {0}) then λ _. parsed.braced ws B x.1 then λ y. consts ws y.0 then λ t. members_of t x.0 then λ ms. gives (ms, y.1)

  -- braces = "{" member { member } "}", of a struct
  abbrev pub struct_braces : Braces → Braces
  struct_braces B h d =
      mark ws left_brace then λ _. parsed.member ws B ([], d) then λ x. repeated (parsed.member ws B) x then λ y.
      mark ws right_brace then λ _. gives (with_struct h y.0 y.1)

  -- braces = "{" one { "," one } [ "," ] "}", of an enum
  abbrev pub enum_braces : Braces
  enum_braces h d = mark ws left_brace then λ _. comma_list (parsed.constant ws) then λ es. mark ws right_brace then λ _. gives (with_enum h es d)

  abbrev pub braces : Braces → Braces
  braces B h d = elim h.defines [ tagged.Struct ↦ struct_braces B h d | tagged.Enum ↦ enum_braces h d ]

  -- [ ANYNAME ], after "struct" or "enum"
  abbrev pub tag_head : Tagged → Place → Syntax PlainToken TagHead
  tag_head k at =
      (any_name ws then λ x. gives (record { defines = k; place = x.1; tag = Some x.0 })) or gives (record { defines = k; place = at; tag = None })

  -- ( "struct" | "enum" ) [ ANYNAME ] braces
  abbrev pub defined : Braces → Tagged → Definitions → Syntax PlainToken (PlainType × Definitions)
  defined B k d = reserved ws (tag_word k) then λ at. tag_head k at then λ h. B h d

  -- braced = base | ( "struct" | "enum" ) [ ANYNAME ] braces
  abbrev pub braced : Braces → Definitions → Syntax PlainToken (PlainType × Definitions)
  braced B d = (base ws then λ t. gives (t, d)) or defined B tagged.Struct d or defined B tagged.Enum d

  -- ---- declarators and declarations

  -- { "[" [ comma ] "]" }
  abbrev pub lengths : Syntax PlainToken (List PlainLength)
  lengths =
      repeated (λ ns. (mark ws left_bracket then λ _. ((expression ws then λ e. gives (Written e)) or gives Left) then λ n.
      mark ws right_bracket then λ _. gives n) then λ n. gives (ns ++ n ∷ [])) []

  -- dtor = { "*" { "const" } } NAME { "[" [ comma ] "]" }, at most 400 tokens
  abbrev pub dtor : Named → Syntax PlainToken Declarator
  dtor k =
      at_most expression_limit most_in_expression
      (stars ws then λ s. declared_name ws k then λ x. lengths then λ ns. gives (record { stars = s; name = x.0; place = x.1; lengths = ns }))

  -- declared = dtor [ "=" init ], after its declarator
  abbrev pub declared : PlainType → Declarator → Syntax PlainToken Declaration
  declared t d =
      (mark ws assign then λ equals. parsed.initialiser ws then λ i. gives (declared_by t d (Some (equals, i)))) or gives (declared_by t d None)

  -- "," declared
  abbrev pub next_declared : PlainType → List Declaration → Syntax PlainToken (List Declaration)
  next_declared t ds = mark ws comma then λ _. parsed.full_dtor ws named.Ordinary then λ d. declared t d then λ x. gives (ds ++ x ∷ [])

  -- [ declared { "," declared } ] ";"
  abbrev pub declared_list : PlainType → Syntax PlainToken BlockItem
  declared_list t =
      (mark ws semicolon then λ at. gives (Specify at t))
      or (parsed.full_dtor ws named.Ordinary then λ d. declared t d then λ x. repeated (next_declared t) (x ∷ []) then λ ds.
      mark ws semicolon then λ _. gives (Declare ds))

  -- decl = words [ declared { "," declared } ] ";"
  abbrev pub decl : Syntax PlainToken BlockItem
  decl = type_words ws then λ t. declared_list t

  -- { "*" { "const" } } [ NAME ] { "[" [ expr ] "]" }, at most 400 tokens
  abbrev pub abstract_dtor : Syntax PlainToken AbstractDeclarator
  abstract_dtor =
      at_most expression_limit most_in_expression
      (stars ws then λ s. ((name ws then λ x. gives (Some x)) or gives None) then λ x. lengths then λ ns.
      gives (record { stars = s; name = x; lengths = ns }))

  -- param = words { "*" { "const" } } [ NAME ] { "[" [ expr ] "]" }, which is no "void" alone. One without a name has the number and the place
  -- of its first word
  abbrev pub param : Syntax PlainToken Declaration
  param =
      (with_first (placed word_number) (type_words ws) then λ t. abstract_dtor then λ d. gives (parameter_of t.0 t.1 d)) but reserved ws keyword.Void

  -- params = [ "void" ] | param { "," param }
  abbrev pub params : Syntax PlainToken (List Declaration)
  params =
      ((reserved ws keyword.Void then λ _. gives []) or gives [])
      or (parsed.parameter ws then λ p. repeated (λ ps. mark ws comma then λ _. parsed.parameter ws then λ q. gives (ps ++ q ∷ [])) (p ∷ []))

  -- params ")"
  abbrev pub closed_params : Syntax PlainToken (List Declaration)
  closed_params = params then λ ps. mark ws right_paren then λ _. gives ps
