-- Declarators, initialisers, declarations, parameters, structs and enums are read exactly.
use Rattle.std.proofs.Common.{◌≡◌, ℕ, zero, suc, Bool, true, false, not, ◌&&◌, cond, eqb, List, [], ◌∷◌, ◌++◌, None, refl, sym, subst, inl, inr}
use Rattle.grammar.specs.Syntax.{Syntax, none, gives, ◌then◌, among}
use Rattle.grammar.specs.Exact.{IsGood}
use Rattle.grammar.proofs.Sets.{within, apart, within_self, within_left, within_right}
use Rattle.grammar.proofs.Parts.{widen, none_exact, nil_front}
use Rattle.grammar.proofs.Bounds.{LoopFits}
use Rattle.grammar.proofs.Labels.{Unlimited, late_gives, late_one, late_then, late_choice}
use Rattle.grammar.proofs.Productions.{seq, either, again_and_again, again_and_again_to, declared, given, same, counted, seq_by, maybe_to, tail_to, too_deep, never_empty, widened}
use Rattle.c_syntax.specs.declared.place.Place.{Place}
use Rattle.c_syntax.specs.Ctypes.{PlainType, Void}
use Rattle.c_syntax.specs.Statements.{Initialiser, Declaration}
use Rattle.c_syntax.specs.Programs.{StructMember}
use Rattle.c_syntax.specs.Tokens.{PlainToken}
use Rattle.c_model.specs.declared.declarations.Storage.{Storage}
use Rattle.c_model.specs.declared.declarations.Storage.TheVariants as storage
use Rattle.c_model.specs.declared.declarations.Tagged.{Tagged}
use Rattle.c_model.specs.declared.declarations.Tagged.TheVariants as tagged
use Rattle.c_model.specs.declared.declarations.Named.{Named}
use Rattle.c_model.specs.declared.declarations.Named.TheVariants as named
use Rattle.c_model.specs.declared.vocabulary.Keyword.TheVariants as keyword
use Rattle.c_model.specs.Vocabulary.{Vocabulary}
use Rattle.c_model.specs.Punctuators.{assign, semicolon, comma, right_paren, left_brace, right_brace, left_bracket, times}
use Rattle.c_model.specs.declared.operands.Level.TheVariants.{Assignment, Conditional}
use Rattle.c_model.specs.Terminals.{expression_limit, nesting_limit}
use Rattle.c_model.specs.ExpressionGrammar.{name_kind, keyword_kind, mark_kind, kind, first_base, first_type, first_integer_words, first_any_name, most_in_expression}
use Rattle.c_model.specs.ExpressionGrammar.{most_nested, no_stars, mark, fixed, TypeStart}
use Rattle.c_model.specs.ExpressionGrammar.{ConstStart, VoidStart, StructStart, EnumStart, NameStart, IntegerStart, type_behind, more_consts, star_words, brackets}
use Rattle.c_model.specs.DeclarationGrammar.{first_item_of_list, first_spec, Declarator, AbstractDeclarator, is_nothing, parameter_of, TagHead, Definitions, Braces, tag_word, storage_words, ended, maybe_comma}
use Rattle.c_model.specs.DeclarationGrammar.{next_item, item_once, more_items, listed}
use Rattle.c_model.specs.DeclarationGrammar.{declared_name, lengths, dtor, full_dtor, maybe_name, abstract_dtor, full_abstract_dtor, item_of_list, list_of, list_in, initialiser, initialised, declared_once, next_declared, more_declared}
use Rattle.c_model.specs.DeclarationGrammar.{declared_list, declaration, parameter_rest, void_parameter, parameter_behind, parameter, next_parameter, more_parameters, first_parameter, parameters, next_member, members_of, behind_tag, behind_word}
use Rattle.c_model.specs.DeclarationGrammar.{tagged_type, braced, member, more_members, struct_braces, constant_value, constant, enum_braces, braces_for, braces_of, braces_in, storage_word, more_storage, file_spec}
use Rattle.c_expr_parser.proofs.ExactTokens.{IsRead, fixed_good, name_good, any_name_good, type_start_good}
use Rattle.c_expr_parser.proofs.ExactTypes.{enlarged, apart_none, more_type, first_behind, untagged_good, consts_good, type_good, type_behind_good, more_consts_good, stars_good}
use Rattle.c_expr_parser.proofs.ExactExpressions.{more_expression, closed_good, length_good, brackets_good, expression_good, full_level_good}
use Rattle.c_expr_parser.proofs.Unlimited.{stars_free, brackets_free, length_free, expression_free}

-- what a declarator begins with, and what it can go on with
abbrev pub first_dtor : List ℕ
first_dtor = mark_kind times ∷ first_any_name

abbrev pub more_dtor : List ℕ
more_dtor = mark_kind left_bracket ∷ []

abbrev pub first_abstract : List ℕ
first_abstract = mark_kind times ∷ name_kind ∷ mark_kind left_bracket ∷ []

abbrev pub more_abstract : List ℕ
more_abstract = keyword_kind keyword.Const ∷ first_abstract

-- what an initialised declarator can go on with
abbrev pub more_initialised : List ℕ
more_initialised = mark_kind left_bracket ∷ mark_kind assign ∷ more_expression

-- what a type with braces can go on with
abbrev pub more_braced : List ℕ
more_braced = mark_kind left_brace ∷ first_integer_words

-- what a constant of an enum can go on with
abbrev pub more_constant : List ℕ
more_constant = mark_kind assign ∷ more_expression

-- what a parameter can go on with
abbrev pub more_parameter : List ℕ
more_parameter = more_abstract ++ more_type

abbrev a_comma : List ℕ
a_comma = mark_kind comma ∷ []

-- the only kind of a set
only : (n k : ℕ) → among n (k ∷ []) ≡ true → eqb n k ≡ true
only n k h = by (eqb n k) h
  where
    by : (b : Bool) → cond b true false ≡ true → b ≡ true
    by true e = refl
    by false e = absurd cc

none_good : {A : Type 0} (ws : Vocabulary) (null : Bool) (first more : List ℕ) → IsRead ws (none {A = A}) null first more
none_good ws null first more = same (widen (kind ws) none false [] (λ _. []) null first (λ _. more) (none_exact (kind ws)) (λ h. absurd cc) refl (λ x. refl))

-- a token of a kind begins what has this token alone
pub fixed_begins : (ws : Vocabulary) (k : ℕ) (t : PlainToken) → eqb (kind ws t) k ≡ true → (fixed ws k).begun (t ∷ [])
fixed_begins ws k t h = inr (t, t.place, refl, rw h refl)

abbrev a_brace : List ℕ
a_brace = mark_kind right_brace ∷ []

-- ---- lists in braces

abbrev comma_if : Bool → List ℕ
comma_if b = cond b [] a_comma

-- what an item can go on with, if a comma is read behind it and if not, where M can follow the item itself
abbrev more_item : List ℕ → Bool → List ℕ
more_item M b = cond b [] (mark_kind comma ∷ M)

abbrev more_list : List ℕ → List ℕ → Bool → List ℕ
more_list first M b = cond b first (mark_kind comma ∷ M)

comma_within : (M : List ℕ) (b : Bool) → within (comma_if b) (more_item M b) ≡ true
comma_within M true = refl
comma_within M false = refl

items_clash : (first M : List ℕ) (b : Bool) → apart (cond b first []) (more_item M b) ≡ true
items_clash first M true = apart_none first
items_clash first M false = refl

items_over : (first M : List ℕ) (b : Bool) → within (more_item M b) (more_list first M b) ≡ true
items_over first M true = refl
items_over first M false = within_self (mark_kind comma ∷ M)

items_greedy : (first M : List ℕ) (b : Bool) → within (cond b first []) (more_list first M b) ≡ true
items_greedy first M true = within_self first
items_greedy first M false = refl

list_within : (first M : List ℕ) (b : Bool) → within (more_list first M b) (first ++ mark_kind comma ∷ M) ≡ true
list_within first M true = within_left first (mark_kind comma ∷ M)
list_within first M false = within_right first (mark_kind comma ∷ M)

rest_clash : (first M : List ℕ) → apart a_brace (mark_kind comma ∷ M) ≡ true → (b : Bool) → apart (cond b first [] ++ a_brace) (more_item M b) ≡ true
rest_clash first M c true = apart_none (first ++ a_brace)
rest_clash first M c false = c

pub items_fit : {A : Type 0} (first M : List ℕ) → LoopFits (List A × Bool) (λ y. cond y.1 first []) (λ y. cond y.1 first []) (λ _ y. more_item M y.1) (λ y. more_list first M y.1)
items_fit first M = record {
  clash = λ x y. items_clash first M y.1;
  taken = λ x. within_self (cond x.1 first []);
  over = λ x y. items_over first M y.1;
  greedy = λ x. items_greedy first M x.1;
}

module _ (ws : Vocabulary) where
  pub ended_good : {A : Type 0} (x : A) → IsRead ws (ended ws x) false (mark_kind semicolon ∷ []) []
  unfolding ended
  ended_good x = seq (fixed_good ws (mark_kind semicolon)) (λ _. given x) refl

  comma_first : {A : Type 0} (x : A) → IsRead {A = A × Bool} ws (mark ws comma then λ _. gives (x, true)) false a_comma []
  comma_first x = seq (fixed_good ws (mark_kind comma)) (λ _. given (x, true)) refl

  comma_good : {A : Type 0} (x : A) → IsGood (kind ws) 0 (maybe_comma ws x) (maybe_comma ws x) true a_comma (λ y. comma_if y.1)
  unfolding maybe_comma
  comma_good x = maybe_to a_comma (x, false) (comma_first x) refl (λ y. refl) refl

  no_comma : {A : Type 0} (x : A) (y : A × Bool) → (maybe_comma ws x).reads [] y → (x, false) ≡ y
  unfolding maybe_comma
  no_comma x y (inl r) = absurd (let f = (comma_first x).here.filled y r in cc)
  no_comma x y (inr r) = r.1

  module _ {A : Type 0} (first M : List ℕ) {I : Syntax PlainToken A} (item : IsRead ws I false first M) (c1 : apart a_comma M ≡ true) where
    next_item_good : (xs : List A) → IsGood (kind ws) 0 (next_item ws I xs) (next_item ws I xs) false first (λ y. more_item M y.1)
    unfolding next_item
    next_item_good xs =
        tail_to (λ i. (xs ++ i ∷ [], false)) item (λ i. widened (comma_good (xs ++ i ∷ [])) (λ y. comma_within M y.1)) (λ i y r. no_comma (xs ++ i ∷ []) y r) (λ i y r. no_comma (xs ++ i ∷ []) y r) (λ i. c1) (λ i. within_right a_comma M)

    pub item_once_good : (x : List A × Bool) → IsGood (kind ws) 0 (item_once ws I x) (item_once ws I x) false (cond x.1 first []) (λ y. more_item M y.1)
    unfolding item_once
    item_once_good x = by x.1
      where
        by : (b : Bool) → IsGood (kind ws) 0 (cond b (next_item ws I x.0) none) (cond b (next_item ws I x.0) none) false (cond b first []) (λ y. more_item M y.1)
        by true = next_item_good x.0
        by false = same (widen (kind ws) none false [] (λ _. []) false [] (λ y. more_item M y.1) (none_exact (kind ws)) (λ h. h) refl (λ y. refl))

    more_items_good : (x : List A × Bool) → IsGood (kind ws) 0 (more_items ws first I x) (more_items ws first I x) true (cond x.1 first []) (λ y. more_list first M y.1)
    unfolding more_items
    more_items_good x = again_and_again_to (λ y. cond y.1 first []) (λ y. more_list first M y.1) item_once_good (items_fit first M) x

    pub listed_good : apart a_brace (first ++ mark_kind comma ∷ M) ≡ true → apart a_brace (mark_kind comma ∷ M) ≡ true → IsRead ws (listed ws first I) false first []
    unfolding listed
    listed_good c2 c3 =
        seq_by (next_item_good []) (λ x. seq (enlarged ws (cond x.1 first []) (first ++ mark_kind comma ∷ M) (more_items_good x) (within_self (cond x.1 first [])) (λ y. list_within first M y.1))
        (λ y. seq (fixed_good ws (mark_kind right_brace)) (λ _. given _) refl) c2)
        (λ x. rest_clash first M c3 x.1)

  -- ---- declarators

  lengths_good : IsRead ws (lengths ws) true more_dtor more_dtor
  unfolding lengths
  lengths_good = brackets_good ws true (length_good ws (expression_good ws))

  declared_name_good : (k : Named) → IsRead ws (declared_name ws k) false first_any_name []
  declared_name_good named.Ordinary = declared (name_good ws) refl
  declared_name_good named.Member = any_name_good ws

  pub dtor_good : (k : Named) → IsRead ws (dtor ws k) false first_dtor more_dtor
  unfolding dtor
  dtor_good k = declared (seq (stars_good ws) (λ stars. seq (declared_name_good k) (λ x. seq lengths_good (λ ns. given _) refl) refl) refl) refl

  maybe_name_good : IsRead ws (maybe_name ws) true (name_kind ∷ []) (name_kind ∷ [])
  unfolding maybe_name
  maybe_name_good = declared (either (name_kind ∷ []) (seq (name_good ws) (λ x. given _) refl) (given _) refl) refl

  pub abstract_dtor_good : IsRead ws (abstract_dtor ws) true first_abstract more_abstract
  unfolding abstract_dtor
  abstract_dtor_good = declared (seq (stars_good ws) (λ stars. seq maybe_name_good (λ x. seq lengths_good (λ ns. given _) refl) refl) refl) refl

  -- no token of a declarator passes another limit

  lengths_free : Unlimited (lengths ws)
  unfolding lengths
  lengths_free = brackets_free ws (length_free ws (expression_free ws))

  declared_name_free : (k : Named) → Unlimited (declared_name ws k)
  declared_name_free named.Ordinary = late_one _
  declared_name_free named.Member = late_one _

  dtor_free : (k : Named) → Unlimited (dtor ws k)
  unfolding dtor
  dtor_free k = late_then (stars_free ws) (λ stars. late_then (declared_name_free k) (λ x. late_then lengths_free (λ ns. late_gives _)))

  maybe_name_free : Unlimited (maybe_name ws)
  unfolding maybe_name
  maybe_name_free = late_choice (kind ws) (name_kind ∷ []) (late_then (late_one _) (λ x. late_gives _)) (late_gives _)

  abstract_dtor_free : Unlimited (abstract_dtor ws)
  unfolding abstract_dtor
  abstract_dtor_free = late_then (stars_free ws) (λ stars. late_then maybe_name_free (λ x. late_then lengths_free (λ ns. late_gives _)))

  pub full_dtor_good : (k : Named) → IsRead ws (full_dtor ws k) false first_dtor more_dtor
  unfolding full_dtor
  full_dtor_good k = counted expression_limit most_in_expression (dtor_free k) (dtor_free k) (dtor_good k)

  abstract_good : IsRead ws (full_abstract_dtor ws) true first_abstract more_abstract
  unfolding full_abstract_dtor
  abstract_good = counted expression_limit most_in_expression abstract_dtor_free abstract_dtor_free abstract_dtor_good

  -- ---- initialisers

  module _ {L : Syntax PlainToken Initialiser} (l : IsRead ws L false (mark_kind left_brace ∷ []) []) where
    pub item_of_list_good : IsRead ws (item_of_list ws L) false first_item_of_list more_expression
    unfolding item_of_list
    item_of_list_good = declared (either (mark_kind left_brace ∷ []) l (seq (full_level_good ws Assignment) (λ e. given _) refl) refl) refl

    list_of_good : IsRead ws (list_of ws L) false (mark_kind left_brace ∷ []) []
    unfolding list_of
    list_of_good = declared (seq (fixed_good ws (mark_kind left_brace)) (λ at. seq (listed_good first_item_of_list more_expression item_of_list_good refl refl refl) (λ is. given _) refl) refl) refl

  list_begins : (L : Syntax PlainToken Initialiser) (t : PlainToken) → among (kind ws t) (mark_kind left_brace ∷ []) ≡ true → (list_of ws L).begun (t ∷ [])
  unfolding list_of
  list_begins L t h = inl (fixed_begins ws (mark_kind left_brace) t (only (kind ws t) (mark_kind left_brace) h))

  pub list_in_good : (d : ℕ) → IsRead ws (list_in ws d) false (mark_kind left_brace ∷ []) []
  unfolding list_in
  list_in_good zero = too_deep nesting_limit (mark_kind left_brace ∷ []) (list_of_good (none_good ws false (mark_kind left_brace ∷ []) [])).here (list_begins none)
  list_in_good (suc d) = list_of_good (list_in_good d)

  initialiser_good : IsRead ws (initialiser ws) false first_item_of_list more_expression
  unfolding initialiser
  initialiser_good = declared (either (mark_kind left_brace ∷ []) (list_in_good most_nested) (seq (full_level_good ws Assignment) (λ e. given _) refl) refl) refl

  -- ---- declarations

  pub initialised_good : (t : PlainType) (d : Declarator) → IsRead ws (initialised ws t d) true (mark_kind assign ∷ []) (mark_kind assign ∷ more_expression)
  unfolding initialised
  initialised_good t d = declared (either (mark_kind assign ∷ []) (seq (fixed_good ws (mark_kind assign)) (λ at. seq initialiser_good (λ i. given _) refl) refl) (given _) refl) refl

  declared_once_good : (t : PlainType) (ds : List Declaration) → IsRead ws (declared_once ws t ds) false first_dtor more_initialised
  unfolding declared_once
  declared_once_good t ds = declared (seq (full_dtor_good named.Ordinary) (λ d. seq (initialised_good t d) (λ x. given _) refl) refl) refl

  pub next_declared_good : (t : PlainType) (ds : List Declaration) → IsRead ws (next_declared ws t ds) false a_comma more_initialised
  unfolding next_declared
  next_declared_good t ds = declared (seq (fixed_good ws (mark_kind comma)) (λ _. declared_once_good t ds) refl) refl

  pub more_declared_good : (t : PlainType) (ds : List Declaration) → IsRead ws (more_declared ws t ds) false (mark_kind comma ∷ mark_kind semicolon ∷ []) []
  unfolding more_declared
  more_declared_good t ds = declared (seq (again_and_again a_comma (next_declared_good t) refl ds) (λ es. ended_good es) refl) refl

  declared_list_good : (t : PlainType) → IsRead ws (declared_list ws t) false (mark_kind semicolon ∷ first_dtor) []
  unfolding declared_list
  declared_list_good t = declared (either (mark_kind semicolon ∷ []) (seq (fixed_good ws (mark_kind semicolon)) (λ at. given _) refl)
      (seq (declared_once_good t []) (λ ds. seq (more_declared_good t ds) (λ es. given _) refl) refl) refl) refl

  pub declaration_good : IsRead ws (declaration ws) false first_type []
  unfolding declaration
  declaration_good = declared (seq (type_good ws) (λ t. declared_list_good t) refl) refl

  -- ---- parameters

  parameter_rest_good : (t : PlainType) (first : ℕ × Place) → IsRead ws (parameter_rest ws t first) true first_abstract more_abstract
  unfolding parameter_rest
  parameter_rest_good t first = declared (seq abstract_good (λ d. given _) refl) refl

  abbrev nothing : AbstractDeclarator
  nothing = record { stars = no_stars; name = None; lengths = [] }

  not_const : (c : Bool) → (more_consts ws false).reads [] c → c ≡ false
  unfolding more_consts
  not_const c r = (more_consts_good ws {n = 0} false).here.single [] c false r (0, inr (refl, refl))

  reads_nothing : (abstract_dtor ws).reads [] nothing
  unfolding abstract_dtor maybe_name lengths star_words brackets
  reads_nothing = ([], [], no_stars, refl, (0, inr (refl, refl)), ([], [], None, refl, inr (refl, refl), ([], [], [], refl, (0, inr (refl, refl)), (refl, refl))))

  is_nothing_read : (d : AbstractDeclarator) → (full_abstract_dtor ws).reads [] d → d ≡ nothing
  unfolding full_abstract_dtor
  is_nothing_read d r = abstract_dtor_good.here.single [] d nothing r.0 reads_nothing

  abbrev unless_alone : ℕ × Place → Bool → AbstractDeclarator → Syntax PlainToken Declaration
  unless_alone first c d = cond (not c && is_nothing d) none (gives (parameter_of Void first d))

  never_alone : (first : ℕ × Place) (c : Bool) (d : AbstractDeclarator) (y : Declaration) → c ≡ false → d ≡ nothing → (unless_alone first c d).reads [] y → ⊥
  never_alone first c d y e f r = subst (λ (z : Bool × AbstractDeclarator). (unless_alone first z.0 z.1).reads [] y) (λ i. (e i, f i)) r

  never_void : (first : ℕ × Place) (y : Declaration) → (void_parameter ws first).reads [] y → ⊥
  unfolding void_parameter
  never_void first y r =
      let b = nil_front r.0 r.1 (sym r.3) in
      let c : r.1 ≡ [] = subst (λ (w : List PlainToken). w ++ r.1 ≡ []) b (sym r.3) in
      let s = subst (λ (w : List PlainToken). (full_abstract_dtor ws then λ d. unless_alone first r.2 d).reads w y) c r.5 in
      let b2 = nil_front s.0 s.1 (sym s.3) in
      let c2 : s.1 ≡ [] = subst (λ (w : List PlainToken). w ++ s.1 ≡ []) b2 (sym s.3) in
      never_alone first r.2 s.2 y (not_const r.2 (subst (λ (w : List PlainToken). (more_consts ws false).reads w r.2) b r.4)) (is_nothing_read s.2 (subst (λ (w : List PlainToken). (full_abstract_dtor ws).reads w s.2) b2 s.4))
      (subst (λ (w : List PlainToken). (unless_alone first r.2 s.2).reads w y) c2 s.5)

  alone_good : (first : ℕ × Place) (c : Bool) (d : AbstractDeclarator) → IsRead ws (unless_alone first c d) true [] []
  alone_good first c d = by (not c && is_nothing d)
    where
      by : (b : Bool) → IsRead ws (cond b none (gives (parameter_of Void first d))) true [] []
      by true = none_good ws true [] []
      by false = given _

  maybe_void : (first : ℕ × Place) → IsRead ws (void_parameter ws first) true more_abstract more_abstract
  unfolding void_parameter
  maybe_void first = declared (seq (more_consts_good ws false) (λ c. seq abstract_good (λ d. alone_good first c d) refl) refl) refl

  void_good : (first : ℕ × Place) → IsRead ws (void_parameter ws first) false more_abstract more_abstract
  void_good first = never_empty (maybe_void first) (never_void first) (never_void first)

  behind_start_good : (s : TypeStart) (first : ℕ × Place) → IsRead ws (type_behind ws s then λ t. parameter_rest ws t first) true (first_abstract ++ first_behind) more_parameter
  behind_start_good s first = declared (seq (type_behind_good ws s) (λ t. parameter_rest_good t first) refl) refl

  parameter_behind_good : (s : TypeStart) (first : ℕ × Place) → IsRead ws (parameter_behind ws s first) true (first_abstract ++ first_behind) more_parameter
  unfolding parameter_behind
  parameter_behind_good VoidStart first = declared (void_good first) refl
  parameter_behind_good ConstStart first = behind_start_good ConstStart first
  parameter_behind_good StructStart first = behind_start_good StructStart first
  parameter_behind_good EnumStart first = behind_start_good EnumStart first
  parameter_behind_good (NameStart t) first = behind_start_good (NameStart t) first
  parameter_behind_good (IntegerStart x) first = behind_start_good (IntegerStart x) first

  parameter_good : IsRead ws (parameter ws) false first_type more_parameter
  unfolding parameter
  parameter_good = declared (seq (type_start_good ws) (λ s. parameter_behind_good s.0.0 _) refl) refl

  pub next_parameter_good : (ps : List Declaration) → IsRead ws (next_parameter ws ps) false a_comma more_parameter
  unfolding next_parameter
  next_parameter_good ps = declared (seq (fixed_good ws (mark_kind comma)) (λ _. seq parameter_good (λ p. given _) refl) refl) refl

  more_parameters_good : (p : Declaration) → IsRead ws (more_parameters ws p) false (mark_kind comma ∷ mark_kind right_paren ∷ []) []
  unfolding more_parameters
  more_parameters_good p = declared (seq (again_and_again a_comma next_parameter_good refl (p ∷ [])) (λ ps. closed_good ws ps) refl) refl

  -- what stands after the first word of the parameters
  abbrev behind_first : List ℕ
  behind_first = mark_kind comma ∷ mark_kind right_paren ∷ first_abstract ++ first_behind

  behind_first_good : (s : TypeStart) (first : ℕ × Place) → IsRead ws (parameter_behind ws s first then λ p. more_parameters ws p) false behind_first []
  behind_first_good s first = declared (seq (parameter_behind_good s first) (λ p. more_parameters_good p) refl) refl

  first_parameter_good : (s : TypeStart) (first : ℕ × Place) → IsRead ws (first_parameter ws s first) false behind_first []
  unfolding first_parameter
  first_parameter_good VoidStart first = declared (either (mark_kind right_paren ∷ []) (closed_good ws []) (seq (void_good first) (λ p. more_parameters_good p) refl) refl) refl
  first_parameter_good ConstStart first = behind_first_good ConstStart first
  first_parameter_good StructStart first = behind_first_good StructStart first
  first_parameter_good EnumStart first = behind_first_good EnumStart first
  first_parameter_good (NameStart t) first = behind_first_good (NameStart t) first
  first_parameter_good (IntegerStart x) first = behind_first_good (IntegerStart x) first

  pub parameters_good : IsRead ws (parameters ws) false (mark_kind right_paren ∷ first_type) []
  unfolding parameters
  parameters_good =
      declared (either (mark_kind right_paren ∷ []) (closed_good ws []) (seq (type_start_good ws) (λ s. first_parameter_good s.0.0 _) refl) refl) refl

  -- ---- structs and enums

  pub next_member_good : (t : PlainType) (ms : List StructMember) → IsRead ws (next_member ws t ms) false a_comma more_dtor
  unfolding next_member
  next_member_good t ms = declared (seq (fixed_good ws (mark_kind comma)) (λ _. seq (full_dtor_good named.Member) (λ d. given _) refl) refl) refl

  members_of_good : (t : PlainType) (ms : List StructMember) → IsRead ws (members_of ws t ms) false first_dtor []
  unfolding members_of
  members_of_good t ms = declared (seq (full_dtor_good named.Member) (λ d. seq (again_and_again a_comma (next_member_good t) refl _) (λ ns. ended_good ns) refl) refl) refl

  constant_value_good : IsRead ws (constant_value ws) true (mark_kind assign ∷ []) more_constant
  unfolding constant_value
  constant_value_good = declared (either (mark_kind assign ∷ []) (seq (fixed_good ws (mark_kind assign)) (λ _. seq (full_level_good ws Conditional) (λ e. given _) refl) refl) (given _) refl) refl

  pub constant_good : IsRead ws (constant ws) false (name_kind ∷ []) more_constant
  unfolding constant
  constant_good = declared (seq (name_good ws) (λ x. seq constant_value_good (λ v. given _) refl) refl) refl

  enum_braces_good : (h : TagHead) (d : Definitions) → IsRead ws (enum_braces ws h d) false (mark_kind left_brace ∷ []) []
  unfolding enum_braces
  enum_braces_good h d =
      declared (seq (fixed_good ws (mark_kind left_brace)) (λ _. seq (listed_good (name_kind ∷ []) more_constant constant_good refl refl refl) (λ es. given _) refl) refl) refl

-- braces inside others are read exactly
abbrev pub ReadsBraces : Vocabulary → Braces → Type 0
ReadsBraces ws B = (h : TagHead) (d : Definitions) → IsRead ws (B h d) false (mark_kind left_brace ∷ []) []

module _ (ws : Vocabulary) {B : Braces} (b : ReadsBraces ws B) where
  behind_tag_good : (k : Tagged) (x : ℕ × Place) (d : Definitions) → IsRead ws (behind_tag ws B k x d) true (mark_kind left_brace ∷ []) (mark_kind left_brace ∷ [])
  unfolding behind_tag
  behind_tag_good k x d = declared (either (mark_kind left_brace ∷ []) (b _ d) (given _) refl) refl

  behind_word_good : (k : Tagged) (at : Place) (d : Definitions) → IsRead ws (behind_word ws B k at d) false (mark_kind left_brace ∷ first_any_name) (mark_kind left_brace ∷ [])
  unfolding behind_word
  behind_word_good k at d = declared (either first_any_name (seq (any_name_good ws) (λ x. behind_tag_good k x d) refl) (b _ d) refl) refl

  tagged_type_good : (k : Tagged) (d : Definitions) → IsRead ws (tagged_type ws B k d) false (keyword_kind (tag_word k) ∷ []) (mark_kind left_brace ∷ [])
  unfolding tagged_type
  tagged_type_good tagged.Struct d = declared (seq (fixed_good ws (keyword_kind keyword.Struct)) (λ at. behind_word_good tagged.Struct at d) refl) refl
  tagged_type_good tagged.Enum d = declared (seq (fixed_good ws (keyword_kind keyword.Enum)) (λ at. behind_word_good tagged.Enum at d) refl) refl

  pub braced_good : (d : Definitions) → IsRead ws (braced ws B d) false first_base more_braced
  unfolding braced
  braced_good d =
      declared (either (keyword_kind keyword.Struct ∷ []) (tagged_type_good tagged.Struct d)
      (either (keyword_kind keyword.Enum ∷ []) (tagged_type_good tagged.Enum d) (seq (untagged_good ws) (λ t. given _) refl) refl) refl) refl

  pub member_good : (x : List StructMember × Definitions) → IsRead ws (member ws B x) false first_type []
  unfolding member
  member_good x = declared (seq (consts_good ws (tt {0})) (λ _. seq (braced_good x.1) (λ y. seq (consts_good ws y.0) (λ t. seq (members_of_good ws t x.0) (λ ms. given _) refl) refl) refl) refl) refl

  more_members_good : (x : List StructMember × Definitions) → IsRead ws (more_members ws B x) true first_type first_type
  unfolding more_members
  more_members_good x = declared (again_and_again first_type member_good refl x) refl

  struct_braces_good : (h : TagHead) (d : Definitions) → IsRead ws (struct_braces ws B h d) false (mark_kind left_brace ∷ []) []
  unfolding struct_braces
  struct_braces_good h d =
      declared (seq (fixed_good ws (mark_kind left_brace)) (λ _. seq (member_good ([], d)) (λ x. seq (more_members_good x) (λ y. seq (fixed_good ws (mark_kind right_brace)) (λ _. given _) refl) refl) refl) refl) refl

  braces_for_good : (k : Tagged) → ReadsBraces ws (braces_for ws k B)
  braces_for_good tagged.Struct h d = struct_braces_good h d
  braces_for_good tagged.Enum h d = enum_braces_good ws h d

  braces_of_good : ReadsBraces ws (braces_of ws B)
  unfolding braces_of
  braces_of_good h d = braces_for_good h.defines h d

module _ (ws : Vocabulary) where
  braces_begin : (k : Tagged) (B : Braces) (h : TagHead) (d : Definitions) (t : PlainToken) → eqb (kind ws t) (mark_kind left_brace) ≡ true → (braces_for ws k B h d).begun (t ∷ [])
  unfolding struct_braces enum_braces
  braces_begin tagged.Struct B h d t e = inl (fixed_begins ws (mark_kind left_brace) t e)
  braces_begin tagged.Enum B h d t e = inl (fixed_begins ws (mark_kind left_brace) t e)

  begin_braces : (B : Braces) (h : TagHead) (d : Definitions) (t : PlainToken) → among (kind ws t) (mark_kind left_brace ∷ []) ≡ true → (braces_of ws B h d).begun (t ∷ [])
  unfolding braces_of
  begin_braces B h d t e = braces_begin h.defines B h d t (only (kind ws t) (mark_kind left_brace) e)

  pub braces_in_good : (n : ℕ) → ReadsBraces ws (braces_in ws n)
  unfolding braces_in
  braces_in_good zero h d = too_deep nesting_limit (mark_kind left_brace ∷ []) (braces_of_good ws (λ g c. none_good ws false (mark_kind left_brace ∷ []) []) h d).here (begin_braces (λ g c. none) h d)
  braces_in_good (suc n) h d = braces_of_good ws (braces_in_good n) h d

  -- ---- specifiers at file scope

  -- what may stand before a type at file scope
  abbrev storage_kinds : List ℕ
  storage_kinds = keyword_kind keyword.Static ∷ keyword_kind keyword.Typedef ∷ keyword_kind keyword.Const ∷ []

  pub storage_word_good : (s : Storage) → IsRead ws (storage_word ws s) false (storage_words s) []
  unfolding storage_word
  storage_word_good storage.Nothing =
      declared (either (keyword_kind keyword.Static ∷ []) (seq (fixed_good ws (keyword_kind keyword.Static)) (λ _. given _) refl)
      (either (keyword_kind keyword.Typedef ∷ []) (seq (fixed_good ws (keyword_kind keyword.Typedef)) (λ _. given _) refl)
      (seq (fixed_good ws (keyword_kind keyword.Const)) (λ _. given _) refl) refl) refl) refl
  storage_word_good storage.Static = declared (seq (fixed_good ws (keyword_kind keyword.Const)) (λ _. given _) refl) refl
  storage_word_good storage.Typedef = declared (seq (fixed_good ws (keyword_kind keyword.Const)) (λ _. given _) refl) refl

  pub storage_fit : LoopFits Storage storage_words storage_words (λ _ _. []) storage_words
  storage_fit = record {
    clash = λ x y. apart_none (storage_words y);
    taken = λ x. within_self (storage_words x);
    over = λ x y. refl;
    greedy = λ x. within_self (storage_words x);
  }

  storage_within : (s : Storage) → within (storage_words s) storage_kinds ≡ true
  storage_within storage.Nothing = refl
  storage_within storage.Static = refl
  storage_within storage.Typedef = refl

  more_storage_good : (s : Storage) → IsRead ws (more_storage ws s) true storage_kinds storage_kinds
  unfolding more_storage
  more_storage_good s = enlarged ws storage_kinds storage_kinds (again_and_again_to storage_words storage_words storage_word_good storage_fit s) (storage_within s) storage_within

  pub file_spec_good : (d : Definitions) → IsRead ws (file_spec ws d) false first_spec (keyword_kind keyword.Const ∷ more_braced)
  unfolding file_spec
  file_spec_good d =
      declared (seq (more_storage_good storage.Nothing) (λ s. seq (braced_good ws (braces_in_good most_nested) d) (λ y. seq (consts_good ws y.0) (λ t. given _) refl) refl) refl) refl
