-- The grammar of declarations, with the trees that are read (C99 6.7); `words`, `comma`, `assign` and `cond` stand in
-- ExpressionGrammar:
--
--   decl    = words [ declared { "," declared } ] ";"          declared = dtor [ "=" init ]
--   dtor    = { "*" { "const" } } NAME { "[" [ comma ] "]" }
--   init    = assign | list                                    list = "{" init { "," init } [ "," ] "}"
--   params  = [ "void" ] | param { "," param }                 param = words { "*" { "const" } } [ NAME ] { "[" [ comma ] "]" }
--
-- At file scope a type may be defined where it is named:
--
--   spec    = { "static" | "typedef" | "const" } braced { "const" }
--   braced  = base | ( "struct" | "enum" ) [ ANYNAME ] braces
--   braces  = "{" member { member } "}", of a struct, and "{" one { "," one } [ "," ] "}", of an enum
--   member  = { "const" } braced { "const" } dtor { "," dtor } ";"        one = NAME [ "=" cond ]
--
-- The NAME of a member may be the name of a type. "static" or "typedef" stands once at most, and "void" alone is no parameter. An item,
-- an initialiser, a value of an enum and a declarator, which of a parameter is what stands after its words, have at most 400 tokens. At
-- most 200 braces are open at once in an initialiser, and in a spec.
use Rattle.std.specs.Prelude.{ℕ, zero, suc, List, [], ◌∷◌, ◌++◌, length, Option, Some, None, Bool, true, false, not, ◌&&◌, cond}
use Rattle.grammar.specs.Syntax.{Syntax, none, gives, one, ◌then◌, choice, many, deep, at_most}
use Rattle.c_syntax.specs.declared.place.Place.{Place}
use Rattle.c_syntax.specs.Ctypes.{PlainType, Void, Struct, StructTag, EnumTag, PlainLength, int_type}
use Rattle.c_syntax.specs.Expressions.{Expression}
use Rattle.c_syntax.specs.Statements.{Initialiser, One, Many, Initialisers, NoInitialiser, Listed, Declaration, BlockItem, Declare, Specify}
use Rattle.c_syntax.specs.Programs.{StructMember, StructType, EnumConstant, EnumType}
use Rattle.c_syntax.specs.Tokens.{PlainToken}
use Rattle.c_model.specs.declared.declarations.Storage.{Storage}
use Rattle.c_model.specs.declared.declarations.Storage.TheVariants as storage
use Rattle.c_model.specs.declared.declarations.Tagged.{Tagged}
use Rattle.c_model.specs.declared.declarations.Tagged.TheVariants as tagged
use Rattle.c_model.specs.declared.declarations.Named.{Named}
use Rattle.c_model.specs.declared.declarations.Named.TheVariants as named
use Rattle.c_model.specs.declared.operands.Stars.{Stars}
use Rattle.c_model.specs.declared.vocabulary.Keyword.{Keyword}
use Rattle.c_model.specs.declared.vocabulary.Keyword.TheVariants as keyword
use Rattle.c_model.specs.Vocabulary.{Vocabulary}
use Rattle.c_model.specs.Punctuators.{assign, semicolon, comma, right_paren, left_brace, right_brace}
use Rattle.c_model.specs.Terminals.{placed, expression_limit, nesting_limit}
use Rattle.c_model.specs.declared.operands.Level.TheVariants.{Assignment, Conditional}
use Rattle.c_model.specs.ExpressionGrammar.{name_kind, keyword_kind, mark_kind, kind, first_type, first_expression, first_any_name}
use Rattle.c_model.specs.ExpressionGrammar.{most_in_expression, most_nested, declared_type, TypeStart, VoidStart, mark, reserved, name, any_name}
use Rattle.c_model.specs.ExpressionGrammar.{untagged_base, consts, type_words, type_start, type_behind, more_consts, star_words, length_or_none, brackets}
use Rattle.c_model.specs.ExpressionGrammar.{closed, expression, full_expression_at}

-- ---- what begins what: these sets serve `parse` alone

abbrev pub first_item_of_list : List ℕ
first_item_of_list = mark_kind left_brace ∷ first_expression

abbrev pub first_spec : List ℕ
first_spec = keyword_kind keyword.Static ∷ keyword_kind keyword.Typedef ∷ first_type

-- ---- trees

-- a declarator: its stars, its name with the place, and the lengths in its brackets (C99 6.7.5)
pub record Declarator : Type 0 where
  pub stars : Stars
  pub name : ℕ
  pub place : Place
  pub lengths : List PlainLength

-- the same where the name may be left out (C99 6.7.6)
pub record AbstractDeclarator : Type 0 where
  pub stars : Stars
  pub name : Option (ℕ × Place)
  pub lengths : List PlainLength

abbrev pub has_lengths : List PlainLength → Bool
has_lengths [] = false
has_lengths (n ∷ ns) = true

-- whether it may name a function: there is no `const` among its stars, and no bracket (this profile)
abbrev pub names_function : Declarator → Bool
names_function d = not d.stars.constant && not (has_lengths d.lengths)

-- what is declared by a declarator after words for the type
abbrev pub declared_by : PlainType → Declarator → Option (Place × Initialiser) → Declaration
declared_by t d i = record { place = d.place; name = d.name; named = true; ctype = declared_type t d.stars d.lengths; init = i }

-- a declaration without declarators, at its `;`
abbrev pub nameless : PlainType → Place → Declaration
nameless t at = record { place = at; name = 0; named = false; ctype = t; init = None }

-- a parameter, which has the number and the place of its first word where it has no name
abbrev pub parameter_of : PlainType → ℕ × Place → AbstractDeclarator → Declaration
parameter_of t first d = elim d.name [
  | Some x ↦ record { place = x.1; name = x.0; named = true; ctype = declared_type t d.stars d.lengths; init = None }
  | None ↦ record { place = first.1; name = first.0; named = false; ctype = declared_type t d.stars d.lengths; init = None }
]

-- whether nothing is read
abbrev pub is_nothing : AbstractDeclarator → Bool
is_nothing d = elim d.name [
  | Some x ↦ false
  | None ↦ elim d.stars.count [ zero ↦ not (has_lengths d.lengths) | suc n ↦ false ]
]

abbrev pub initialisers : List Initialiser → Initialisers
initialisers [] = NoInitialiser
initialisers (i ∷ is) = Listed i (initialisers is)

abbrev pub member_of : PlainType → Declarator → StructMember
member_of t d = record { place = d.place; name = d.name; ctype = declared_type t d.stars d.lengths; offset = 0 }

-- what stands before the braces of a struct or an enum, at its tag, or at the word where it has no tag
pub record TagHead : Type 0 where
  pub defines : Tagged
  pub place : Place
  pub tag : Option ℕ

-- the structs and enums that are defined so far
pub record Definitions : Type 0 where
  pub structs : List StructType
  pub enums : List EnumType

-- how the braces after a head are read, after these definitions
abbrev pub Braces : Type 1
Braces = TagHead → Definitions → Syntax PlainToken (PlainType × Definitions)

abbrev pub tag_word : Tagged → Keyword
tag_word tagged.Struct = keyword.Struct
tag_word tagged.Enum = keyword.Enum

-- the type with this tag (C99 6.7.2.3)
abbrev pub tag_type : Tagged → ℕ × Place → PlainType
tag_type tagged.Struct x = StructTag x.0 x.1
tag_type tagged.Enum x = EnumTag x.0 x.1

-- a struct, whose size and offsets are set by typing
abbrev pub with_struct : TagHead → List StructMember → Definitions → PlainType × Definitions
with_struct h ms d =
    (Struct (length d.structs), record d { structs = d.structs ++ record { place = h.place; tag = h.tag; members = ms; size = 0; align = 0 } ∷ [] })

-- an enum, whose type is `int` (this profile)
abbrev pub with_enum : TagHead → List EnumConstant → Definitions → PlainType × Definitions
with_enum h es d = (int_type, record d { enums = d.enums ++ record { place = h.place; tag = h.tag; items = es } ∷ [] })

-- what stands before the declarators at file scope
pub record FileSpec : Type 0 where
  pub storage : Storage
  pub ctype : PlainType
  pub definitions : Definitions

-- what may stand before a type at file scope, after these words; it serves `parse` alone
abbrev pub storage_words : Storage → List ℕ
storage_words storage.Nothing = keyword_kind keyword.Static ∷ keyword_kind keyword.Typedef ∷ keyword_kind keyword.Const ∷ []
storage_words storage.Static = keyword_kind keyword.Const ∷ []
storage_words storage.Typedef = keyword_kind keyword.Const ∷ []

module _ (ws : Vocabulary) where
  -- ";", after what is read
  unfoldable pub ended : {A : Type 0} → A → Syntax PlainToken A
  ended x = mark ws semicolon then λ _. gives x

  -- ---- lists in braces, whose items are read by I and begin with these kinds

  -- [ "," ], and whether one stands there
  unfoldable pub maybe_comma : {A : Type 0} → A → Syntax PlainToken (A × Bool)
  maybe_comma x = choice (kind ws) (mark_kind comma ∷ []) (mark ws comma then λ _. gives (x, true)) (gives (x, false))

  -- item [ "," ], after these items
  unfoldable pub next_item : {A : Type 0} → Syntax PlainToken A → List A → Syntax PlainToken (List A × Bool)
  next_item I xs = I then λ i. maybe_comma (xs ++ i ∷ [])

  -- the same, where a comma stands before it
  unfoldable pub item_once : {A : Type 0} → Syntax PlainToken A → List A × Bool → Syntax PlainToken (List A × Bool)
  item_once I x = cond x.1 (next_item I x.0) none

  -- { item "," } [ item ], after these items
  unfoldable pub more_items : {A : Type 0} → List ℕ → Syntax PlainToken A → List A × Bool → Syntax PlainToken (List A × Bool)
  more_items first I x = many (kind ws) (λ y. cond y.1 first []) (item_once I) x

  -- item { "," item } [ "," ] "}"
  unfoldable pub listed : {A : Type 0} → List ℕ → Syntax PlainToken A → Syntax PlainToken (List A)
  listed first I = next_item I [] then λ x. more_items first I x then λ y. mark ws right_brace then λ _. gives y.0

  -- ---- declarators (C99 6.7.5, 6.7.6)

  abbrev pub declared_name : Named → Syntax PlainToken (ℕ × Place)
  declared_name named.Ordinary = name ws
  declared_name named.Member = any_name ws

  -- { "[" [ comma ] "]" }
  unfoldable pub lengths : Syntax PlainToken (List PlainLength)
  lengths = brackets ws (length_or_none ws (expression ws))

  unfoldable pub dtor : Named → Syntax PlainToken Declarator
  dtor k = star_words ws then λ stars. declared_name k then λ x. lengths then λ ns. gives
      (record { stars = stars; name = x.0; place = x.1; lengths = ns })

  unfoldable pub full_dtor : Named → Syntax PlainToken Declarator
  full_dtor k = at_most expression_limit most_in_expression (dtor k)

  -- [ NAME ]
  unfoldable pub maybe_name : Syntax PlainToken (Option (ℕ × Place))
  maybe_name = choice (kind ws) (name_kind ∷ []) (name ws then λ x. gives (Some x)) (gives None)

  -- { "*" { "const" } } [ NAME ] { "[" [ comma ] "]" }
  unfoldable pub abstract_dtor : Syntax PlainToken AbstractDeclarator
  abstract_dtor = star_words ws then λ stars. maybe_name then λ x. lengths then λ ns. gives (record { stars = stars; name = x; lengths = ns })

  unfoldable pub full_abstract_dtor : Syntax PlainToken AbstractDeclarator
  full_abstract_dtor = at_most expression_limit most_in_expression abstract_dtor

  -- ---- initialisers (C99 6.7.8); L stands for a list inside another

  -- assign | list
  unfoldable pub item_of_list : Syntax PlainToken Initialiser → Syntax PlainToken Initialiser
  item_of_list L = choice (kind ws) (mark_kind left_brace ∷ []) L (full_expression_at ws Assignment then λ e. gives (One e))

  -- "{" init { "," init } [ "," ] "}"
  unfoldable pub list_of : Syntax PlainToken Initialiser → Syntax PlainToken Initialiser
  list_of L = mark ws left_brace then λ at. listed first_item_of_list (item_of_list L) then λ is. gives (Many at (initialisers is))

  -- a list in which braces are open at most d at once, its own included; one more passes the limit
  unfoldable pub list_in : ℕ → Syntax PlainToken Initialiser
  list_in zero = deep nesting_limit (kind ws) (mark_kind left_brace ∷ []) (list_of none)
  list_in (suc d) = list_of (list_in d)

  -- assign | list
  unfoldable pub initialiser : Syntax PlainToken Initialiser
  initialiser =
      choice (kind ws) (mark_kind left_brace ∷ []) (list_in most_nested) (full_expression_at ws Assignment then λ e. gives (One e))

  -- ---- declarations

  -- [ "=" init ], after a declarator
  unfoldable pub initialised : PlainType → Declarator → Syntax PlainToken Declaration
  initialised t d =
      choice (kind ws) (mark_kind assign ∷ []) (mark ws assign then λ equals. initialiser then λ i. gives (declared_by t d (Some (equals, i))))
      (gives (declared_by t d None))

  -- dtor [ "=" init ], after these of the same declaration
  unfoldable pub declared_once : PlainType → List Declaration → Syntax PlainToken (List Declaration)
  declared_once t ds = full_dtor named.Ordinary then λ d. initialised t d then λ x. gives (ds ++ x ∷ [])

  unfoldable pub next_declared : PlainType → List Declaration → Syntax PlainToken (List Declaration)
  next_declared t ds = mark ws comma then λ _. declared_once t ds

  -- { "," declared } ";", after these
  unfoldable pub more_declared : PlainType → List Declaration → Syntax PlainToken (List Declaration)
  more_declared t ds = many (kind ws) (λ _. mark_kind comma ∷ []) (next_declared t) ds then λ es. ended es

  -- [ declared { "," declared } ] ";", after the words for a type
  unfoldable pub declared_list : PlainType → Syntax PlainToken BlockItem
  declared_list t =
      choice (kind ws) (mark_kind semicolon ∷ []) (mark ws semicolon then λ at. gives (Specify at t))
      (declared_once t [] then λ ds. more_declared t ds then λ es. gives (Declare es))

  -- a declaration in a function
  unfoldable pub declaration : Syntax PlainToken BlockItem
  declaration = type_words ws then λ t. declared_list t

  -- ---- parameters (C99 6.7.5.3)

  -- what stands after the words of a parameter, of which this is the first
  unfoldable pub parameter_rest : PlainType → ℕ × Place → Syntax PlainToken Declaration
  parameter_rest t first = full_abstract_dtor then λ d. gives (parameter_of t first d)

  -- after "void" that begins a parameter, which is no "void" alone
  unfoldable pub void_parameter : ℕ × Place → Syntax PlainToken Declaration
  void_parameter first =
      more_consts ws false then λ c. full_abstract_dtor then λ d. cond (not c && is_nothing d) none (gives (parameter_of Void first d))

  -- a parameter after its first word
  unfoldable pub parameter_behind : TypeStart → ℕ × Place → Syntax PlainToken Declaration
  parameter_behind VoidStart first = void_parameter first
  parameter_behind start first = type_behind ws start then λ t. parameter_rest t first

  unfoldable pub parameter : Syntax PlainToken Declaration
  parameter = one (placed (type_start ws)) then λ s. parameter_behind s.0.0 (s.0.1, s.1)

  unfoldable pub next_parameter : List Declaration → Syntax PlainToken (List Declaration)
  next_parameter ps = mark ws comma then λ _. parameter then λ p. gives (ps ++ p ∷ [])

  -- { "," parameter } ")", after the first one
  unfoldable pub more_parameters : Declaration → Syntax PlainToken (List Declaration)
  more_parameters p = many (kind ws) (λ _. mark_kind comma ∷ []) next_parameter (p ∷ []) then λ ps. closed ws ps

  -- what stands after the first word: "void" may be all there is
  unfoldable pub first_parameter : TypeStart → ℕ × Place → Syntax PlainToken (List Declaration)
  first_parameter VoidStart first =
      choice (kind ws) (mark_kind right_paren ∷ []) (closed ws []) (void_parameter first then λ p. more_parameters p)
  first_parameter start first = parameter_behind start first then λ p. more_parameters p

  -- params ")"
  unfoldable pub parameters : Syntax PlainToken (List Declaration)
  parameters =
      choice (kind ws) (mark_kind right_paren ∷ []) (closed ws [])
      (one (placed (type_start ws)) then λ s. first_parameter s.0.0 (s.0.1, s.1))

  -- ---- structs and enums (C99 6.7.2.1, 6.7.2.2); B stands for the braces inside others

  unfoldable pub next_member : PlainType → List StructMember → Syntax PlainToken (List StructMember)
  next_member t ms = mark ws comma then λ _. full_dtor named.Member then λ d. gives (ms ++ member_of t d ∷ [])

  -- dtor { "," dtor } ";", after these members
  unfoldable pub members_of : PlainType → List StructMember → Syntax PlainToken (List StructMember)
  members_of t ms =
      full_dtor named.Member then λ d. many (kind ws) (λ _. mark_kind comma ∷ []) (next_member t) (ms ++ member_of t d ∷ []) then λ ns. ended ns

  -- [ braces ], after a tag
  unfoldable pub behind_tag : Braces → Tagged → ℕ × Place → Definitions → Syntax PlainToken (PlainType × Definitions)
  behind_tag B k x d =
      choice (kind ws) (mark_kind left_brace ∷ []) (B (record { defines = k; place = x.1; tag = Some x.0 }) d) (gives (tag_type k x, d))

  -- ANYNAME [ braces ] | braces, after "struct" or "enum"
  unfoldable pub behind_word : Braces → Tagged → Place → Definitions → Syntax PlainToken (PlainType × Definitions)
  behind_word B k at d =
      choice (kind ws) first_any_name (any_name ws then λ x. behind_tag B k x d) (B (record { defines = k; place = at; tag = None }) d)

  unfoldable pub tagged_type : Braces → Tagged → Definitions → Syntax PlainToken (PlainType × Definitions)
  tagged_type B k d = reserved ws (tag_word k) then λ at. behind_word B k at d

  unfoldable pub braced : Braces → Definitions → Syntax PlainToken (PlainType × Definitions)
  braced B d =
      choice (kind ws) (keyword_kind keyword.Struct ∷ []) (tagged_type B tagged.Struct d)
      (choice (kind ws) (keyword_kind keyword.Enum ∷ []) (tagged_type B tagged.Enum d) (untagged_base ws then λ t. gives (t, d)))

  -- member, after these
  unfoldable pub member : Braces → List StructMember × Definitions → Syntax PlainToken (List StructMember × Definitions)
  member B x =
      consts ws (tt {0}) then λ _. braced B x.1 then λ y. consts ws y.0 then λ t. members_of t x.0 then λ ms. gives (ms, y.1)

  -- { member }, after these
  unfoldable pub more_members : Braces → List StructMember × Definitions → Syntax PlainToken (List StructMember × Definitions)
  more_members B x = many (kind ws) (λ _. first_type) (member B) x

  -- "{" member { member } "}"
  unfoldable pub struct_braces : Braces → Braces
  struct_braces B h d =
      mark ws left_brace then λ _. member B ([], d) then λ x. more_members B x then λ y.
      mark ws right_brace then λ _. gives (with_struct h y.0 y.1)

  -- [ "=" cond ]
  unfoldable pub constant_value : Syntax PlainToken (Option Expression)
  constant_value =
      choice (kind ws) (mark_kind assign ∷ []) (mark ws assign then λ _. full_expression_at ws Conditional then λ e. gives (Some e)) (gives None)

  -- NAME [ "=" cond ]
  unfoldable pub constant : Syntax PlainToken EnumConstant
  constant = name ws then λ x. constant_value then λ v. gives (record { place = x.1; name = x.0; value = v })

  -- "{" one { "," one } [ "," ] "}"
  unfoldable pub enum_braces : Braces
  enum_braces h d = mark ws left_brace then λ _. listed (name_kind ∷ []) constant then λ es. gives (with_enum h es d)

  abbrev pub braces_for : Tagged → Braces → Braces
  braces_for tagged.Struct B = struct_braces B
  braces_for tagged.Enum B = enum_braces

  unfoldable pub braces_of : Braces → Braces
  braces_of B h d = braces_for h.defines B h d

  -- braces of which at most n are open at once, these included; one more passes the limit
  unfoldable pub braces_in : ℕ → Braces
  braces_in zero h d = deep nesting_limit (kind ws) (mark_kind left_brace ∷ []) (braces_of (λ g c. none) h d)
  braces_in (suc n) h d = braces_of (braces_in n) h d

  -- ---- specifiers at file scope (C99 6.7.1)

  unfoldable pub storage_word : Storage → Syntax PlainToken Storage
  storage_word storage.Nothing =
      choice (kind ws) (keyword_kind keyword.Static ∷ []) (reserved ws keyword.Static then λ _. gives storage.Static)
      (choice (kind ws) (keyword_kind keyword.Typedef ∷ []) (reserved ws keyword.Typedef then λ _. gives storage.Typedef)
      (reserved ws keyword.Const then λ _. gives storage.Nothing))
  storage_word s = reserved ws keyword.Const then λ _. gives s

  -- { "static" | "typedef" | "const" }, after these
  unfoldable pub more_storage : Storage → Syntax PlainToken Storage
  more_storage s = many (kind ws) storage_words storage_word s

  unfoldable pub file_spec : Definitions → Syntax PlainToken FileSpec
  file_spec d =
      more_storage storage.Nothing then λ s. braced (braces_in most_nested) d then λ y. consts ws y.0 then λ t.
      gives (record { storage = s; ctype = t; definitions = y.1 })
