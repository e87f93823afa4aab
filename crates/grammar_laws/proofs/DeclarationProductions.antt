-- The productions of lists in braces, of structs and of enums are those of the head of their grammar.
use Rattle.std.proofs.Common.{ℕ, zero, suc, List, [], ◌∷◌, ◌++◌, Some, None, refl, inl}
use Rattle.grammar.specs.Syntax.{Syntax, none, gives, ◌then◌, deep}
use Rattle.grammar.specs.Exact.{Same}
use Rattle.grammar.proofs.Forms.{to_left}
use Rattle.grammar_laws.specs.Plain.{◌or◌}
use Rattle.grammar_laws.proofs.Inclusions.{Within, both, forth, back, itself, ◌so◌, either, first, second, each, on, in_turn, turns, deeper, after_either}
use Rattle.grammar_laws.proofs.Inclusions.{apart_after, either_before, handed, handed_back, given_first, given_back}
use Rattle.grammar_laws.proofs.CommaLists.{comma_list_line}
use Rattle.c_syntax.specs.declared.place.Place.{Place}
use Rattle.c_syntax.specs.Ctypes.{PlainType, StructTag, EnumTag}
use Rattle.c_syntax.specs.Statements.{Initialiser, Many}
use Rattle.c_syntax.specs.Programs.{StructMember}
use Rattle.c_syntax.specs.Tokens.{PlainToken}
use Rattle.c_model.specs.declared.declarations.Named.TheVariants as named
use Rattle.c_model.specs.declared.declarations.Tagged.{Tagged}
use Rattle.c_model.specs.declared.declarations.Tagged.TheVariants as tagged
use Rattle.c_model.specs.declared.vocabulary.Keyword.TheVariants as keyword
use Rattle.c_model.specs.Vocabulary.{Vocabulary}
use Rattle.c_model.specs.Terminals.{nesting_limit}
use Rattle.c_model.specs.Punctuators.{assign, comma, left_brace}
use Rattle.c_model.specs.ExpressionGrammar.{kind, mark_kind, name_kind, keyword_kind, first_type, first_any_name, most_nested, mark, reserved, name, any_name}
use Rattle.c_model.specs.ExpressionGrammar.{base, struct_tag, enum_tag, untagged_base, consts}
use Rattle.c_model.specs.DeclarationGrammar.{Braces, TagHead, Definitions, tag_word, tag_type, initialisers, with_struct, with_enum, first_item_of_list}
use Rattle.c_model.specs.DeclarationGrammar.{item_of_list, list_of, list_in, initialiser, full_dtor, member_of, next_member, more_members, ended}
use Rattle.c_model.specs.DeclarationGrammar.{constant_value, braces_for, braces_of, braces_in, behind_tag, behind_word, tagged_type}
use Rattle.c_model.specs.DeclarationGrammar as parsed
use Rattle.grammar_laws.specs.DeclarationProductions.{comma_list}
use Rattle.grammar_laws.specs.DeclarationProductions as production

abbrev no : PlainToken → ℕ
no t = 0

module _ (ws : Vocabulary) where
  -- ---- lists

  item_choice : (L : Syntax PlainToken Initialiser) → Same (item_of_list ws L) (production.init ws L)
  unfolding item_of_list
  item_choice L =
      both
      (either (kind ws) (mark_kind left_brace ∷ []) (second no [] _ (itself _)) (first no [] _ (itself _)))
      (either no [] (second (kind ws) (mark_kind left_brace ∷ []) _ (itself _)) (first (kind ws) (mark_kind left_brace ∷ []) _ (itself _)))

  pub initialiser_line : Same (initialiser ws) (production.init ws (list_in ws most_nested))
  unfolding initialiser
  initialiser_line =
      both
      (either (kind ws) (mark_kind left_brace ∷ []) (second no [] _ (itself _)) (first no [] _ (itself _)))
      (either no [] (second (kind ws) (mark_kind left_brace ∷ []) _ (itself _)) (first (kind ws) (mark_kind left_brace ∷ []) _ (itself _)))

  comma_lists : {A : Type 0} {I J : Syntax PlainToken A} → Within I J → Within (comma_list ws I) (comma_list ws J)
  comma_lists w = in_turn w (λ i. in_turn (turns no (λ _. []) no (λ _. []) (λ is. on (mark ws comma) (λ _. in_turn w (λ j. itself _))) (i ∷ [])) (λ is. itself _))

  list_choice : (L : Syntax PlainToken Initialiser) → Same (list_of ws L) (production.list ws L)
  unfolding list_of
  list_choice L =
      both
      (on (mark ws left_brace) (λ at. forth (comma_list_line ws first_item_of_list (item_of_list ws L) (λ is. gives (Many at (initialisers is))) (λ is. refl)) so in_turn (comma_lists (forth (item_choice L))) (λ is. itself _)))
      (on (mark ws left_brace) (λ at. in_turn (comma_lists (back (item_choice L))) (λ is. itself _) so back (comma_list_line ws first_item_of_list (item_of_list ws L) (λ is. gives (Many at (initialisers is))) (λ is. refl))))

  list_in_depth : (d : ℕ) → Same (list_in ws (suc d)) (list_of ws (list_in ws d))
  unfolding list_in
  list_in_depth d = both (itself _) (itself _)

  pub list_line : (d : ℕ) → Same (list_in ws (suc d)) (production.list ws (list_in ws d))
  list_line d = both (forth (list_in_depth d) so forth (list_choice (list_in ws d))) (back (list_choice (list_in ws d)) so back (list_in_depth d))

  pub deepest_list_line : Same (list_in ws zero) (deep nesting_limit no [] (production.list ws none))
  unfolding list_in
  deepest_list_line = both (deeper nesting_limit (kind ws) (mark_kind left_brace ∷ []) no [] (forth (list_choice none))) (deeper nesting_limit no [] (kind ws) (mark_kind left_brace ∷ []) (back (list_choice none)))

  -- ---- structs and enums

  pub one_line : Same (parsed.constant ws) (production.one ws)
  unfolding parsed.constant constant_value
  one_line =
      both (on (name ws) (λ x. in_turn (each (kind ws) (mark_kind assign ∷ []) no [] (itself _) (itself _)) (λ v. itself _)))
      (on (name ws) (λ x. in_turn (each no [] (kind ws) (mark_kind assign ∷ []) (itself _) (itself _)) (λ v. itself _)))

  members_choice : (t : PlainType) (ms : List StructMember) → Same (parsed.members_of ws t ms) (production.members_of ws t ms)
  unfolding parsed.members_of next_member ended
  members_choice t ms =
      both (on (full_dtor ws named.Member) (λ d. in_turn (turns (kind ws) (λ _. mark_kind comma ∷ []) no (λ _. []) (λ ns. itself _) (ms ++ member_of t d ∷ [])) (λ ns. itself _)))
      (on (full_dtor ws named.Member) (λ d. in_turn (turns no (λ _. []) (kind ws) (λ _. mark_kind comma ∷ []) (λ ns. itself _) (ms ++ member_of t d ∷ [])) (λ ns. itself _)))

  pub member_line : (B : Braces) (x : List StructMember × Definitions) → Same (parsed.member ws B x) (production.member ws B x)
  unfolding parsed.member
  member_line B x =
      both (on (consts ws (tt {0})) (λ _. on (parsed.braced ws B x.1) (λ y. on (consts ws y.0) (λ t. in_turn (forth (members_choice t x.0)) (λ ms. itself _)))))
      (on (consts ws (tt {0})) (λ _. on (parsed.braced ws B x.1) (λ y. on (consts ws y.0) (λ t. in_turn (back (members_choice t x.0)) (λ ms. itself _)))))

  struct_choice : (B : Braces) (h : TagHead) (d : Definitions) → Same (parsed.struct_braces ws B h d) (production.struct_braces ws B h d)
  unfolding parsed.struct_braces more_members
  struct_choice B h d =
      both (on (mark ws left_brace) (λ _. on (parsed.member ws B ([], d)) (λ x. in_turn (turns (kind ws) (λ _. first_type) no (λ _. []) (λ y. itself _) x) (λ y. itself _))))
      (on (mark ws left_brace) (λ _. on (parsed.member ws B ([], d)) (λ x. in_turn (turns no (λ _. []) (kind ws) (λ _. first_type) (λ y. itself _) x) (λ y. itself _))))

  enum_choice : (h : TagHead) (d : Definitions) → Same (parsed.enum_braces ws h d) (production.enum_braces ws h d)
  unfolding parsed.enum_braces
  enum_choice h d =
      let s = comma_list_line ws (name_kind ∷ []) (parsed.constant ws) (λ es. gives (with_enum h es d)) (λ es. refl) in
      both (on (mark ws left_brace) (λ _. forth s)) (on (mark ws left_brace) (λ _. back s))

  braces_choice : (B : Braces) (h : TagHead) (d : Definitions) → Same (braces_of ws B h d) (production.braces ws B h d)
  unfolding braces_of
  braces_choice B h d = by h.defines
    where
      by : (k : Tagged) → Same (braces_for ws k B h d) (elim k [ tagged.Struct ↦ production.struct_braces ws B h d | tagged.Enum ↦ production.enum_braces ws h d ])
      by tagged.Struct = struct_choice B h d
      by tagged.Enum = enum_choice h d

  braces_in_depth : (n : ℕ) (h : TagHead) (d : Definitions) → Same (braces_in ws (suc n) h d) (braces_of ws (braces_in ws n) h d)
  unfolding braces_in
  braces_in_depth n h d = both (itself _) (itself _)

  pub braces_line : (n : ℕ) (h : TagHead) (d : Definitions) → Same (braces_in ws (suc n) h d) (production.braces ws (braces_in ws n) h d)
  braces_line n h d =
      let s = braces_choice (braces_in ws n) h d in
      both (forth (braces_in_depth n h d) so forth s) (back s so back (braces_in_depth n h d))

  pub deepest_braces_line : (h : TagHead) (d : Definitions) → Same (braces_in ws zero h d) (deep nesting_limit no [] (production.braces ws (λ g c. none) h d))
  unfolding braces_in
  deepest_braces_line h d =
      let s = braces_choice (λ g c. none) h d in
      both (deeper nesting_limit (kind ws) (mark_kind left_brace ∷ []) no [] (forth s)) (deeper nesting_limit no [] (kind ws) (mark_kind left_brace ∷ []) (back s))

  -- ---- a type that may be defined where it is named

  module _ (B : Braces) (empty : (h : TagHead) (d : Definitions) → (B h d).begun []) (d : Definitions) where
    abbrev at_tag : Tagged → ℕ × Place → TagHead
    at_tag k x = record { defines = k; place = x.1; tag = Some x.0 }

    abbrev at_word : Tagged → Place → TagHead
    at_word k at = record { defines = k; place = at; tag = None }

    abbrev braces_at : TagHead → Syntax PlainToken (PlainType × Definitions)
    braces_at h = B h d

    abbrev with_type : PlainType → Syntax PlainToken (PlainType × Definitions)
    with_type t = gives (t, d)

    -- a tag alone
    abbrev tag_alone : Tagged → Syntax PlainToken (PlainType × Definitions)
    tag_alone k = reserved ws (tag_word k) then λ _. any_name ws then λ x. gives (tag_type k x, d)

    abbrev Word : Tagged → Syntax PlainToken Place
    Word k = reserved ws (tag_word k)

    tagged_forth : (k : Tagged) → Within (tagged_type ws B k d) (tag_alone k or production.defined ws B k d)
    unfolding tagged_type behind_word behind_tag
    tagged_forth k =
        after_either (kind ws) first_any_name (Word k) _ _
        (on (Word k) (λ at. apart_after (kind ws) (mark_kind left_brace ∷ []) (any_name ws) (λ x. B (at_tag k x) d) (λ x. gives (tag_type k x, d)))
        so after_either (kind ws) (mark_kind left_brace ∷ []) (Word k) _ _
        (second no [] _ (on (Word k) (λ at. handed (any_name ws) (at_tag k) braces_at so in_turn (first no [] _ (itself _)) (λ h. itself (braces_at h)))))
        (first no [] _ (itself _)))
        (second no [] _ (on (Word k) (λ at. given_back (at_word k at) braces_at so in_turn (second no [] _ (itself (gives (at_word k at)))) (λ h. itself (braces_at h)))))

    tagged_back : (k : Tagged) → Within (tag_alone k or production.defined ws B k d) (tagged_type ws B k d)
    unfolding tagged_type behind_word behind_tag
    tagged_back k =
        either no [] (on (Word k) (λ at. first (kind ws) first_any_name _ (on (any_name ws) (λ x. second (kind ws) (mark_kind left_brace ∷ []) _ (itself _)))))
        (on (Word k) (λ at.
        either_before no [] braces_at
        (handed_back (any_name ws) (at_tag k) braces_at (λ x. empty (at_tag k x) d) so first (kind ws) first_any_name _ (on (any_name ws) (λ x. first (kind ws) (mark_kind left_brace ∷ []) _ (itself _))))
        (given_first (at_word k at) braces_at (empty (at_word k at) d) so second (kind ws) first_any_name _ (itself _))))

    struct_in : Within (Word tagged.Struct then λ _. any_name ws then λ x. gives (StructTag x.0 x.1)) (base ws)
    unfolding base struct_tag
    struct_in = first (kind ws) (keyword_kind keyword.Struct ∷ []) _ (itself _)

    enum_in : Within (Word tagged.Enum then λ _. any_name ws then λ x. gives (EnumTag x.0 x.1)) (base ws)
    unfolding base enum_tag
    enum_in = second (kind ws) (keyword_kind keyword.Struct ∷ []) _ (first (kind ws) (keyword_kind keyword.Enum ∷ []) _ (itself _))

    untagged_in : Within (untagged_base ws) (base ws)
    unfolding base
    untagged_in = second (kind ws) (keyword_kind keyword.Struct ∷ []) _ (second (kind ws) (keyword_kind keyword.Enum ∷ []) _ (itself (untagged_base ws)))

    struct_alone : Within (tag_alone tagged.Struct) (base ws then with_type)
    struct_alone =
        on (Word tagged.Struct) (λ _. handed (any_name ws) (λ x. StructTag x.0 x.1) with_type)
        so forth (to_left (Word tagged.Struct) (λ _. any_name ws then λ x. gives (StructTag x.0 x.1)) with_type) so in_turn struct_in (λ t. itself (with_type t))

    enum_alone : Within (tag_alone tagged.Enum) (base ws then with_type)
    enum_alone =
        on (Word tagged.Enum) (λ _. handed (any_name ws) (λ x. EnumTag x.0 x.1) with_type)
        so forth (to_left (Word tagged.Enum) (λ _. any_name ws then λ x. gives (EnumTag x.0 x.1)) with_type) so in_turn enum_in (λ t. itself (with_type t))

    struct_alone_back : Within (struct_tag ws then with_type) (tag_alone tagged.Struct)
    unfolding struct_tag
    struct_alone_back =
        back (to_left (Word tagged.Struct) (λ _. any_name ws then λ x. gives (StructTag x.0 x.1)) with_type)
        so on (Word tagged.Struct) (λ _. handed_back (any_name ws) (λ x. StructTag x.0 x.1) with_type (λ x. refl))

    enum_alone_back : Within (enum_tag ws then with_type) (tag_alone tagged.Enum)
    unfolding enum_tag
    enum_alone_back =
        back (to_left (Word tagged.Enum) (λ _. any_name ws then λ x. gives (EnumTag x.0 x.1)) with_type)
        so on (Word tagged.Enum) (λ _. handed_back (any_name ws) (λ x. EnumTag x.0 x.1) with_type (λ x. refl))

    braced_forth : Within (parsed.braced ws B d) (production.braced ws B d)
    unfolding parsed.braced
    braced_forth =
        either (kind ws) (keyword_kind keyword.Struct ∷ []) (tagged_forth tagged.Struct so either no [] (first no [] _ struct_alone) (second no [] _ (first no [] _ (itself _))))
        (either (kind ws) (keyword_kind keyword.Enum ∷ []) (tagged_forth tagged.Enum so either no [] (first no [] _ enum_alone) (second no [] _ (second no [] _ (itself _))))
        (first no [] _ (in_turn untagged_in (λ t. itself (with_type t)))))

    struct_read : {X : Syntax PlainToken (PlainType × Definitions)} → Within X (tag_alone tagged.Struct or production.defined ws B tagged.Struct d) → Within X (parsed.braced ws B d)
    unfolding parsed.braced
    struct_read w = w so tagged_back tagged.Struct so first (kind ws) (keyword_kind keyword.Struct ∷ []) _ (itself (tagged_type ws B tagged.Struct d))

    enum_read : {X : Syntax PlainToken (PlainType × Definitions)} → Within X (tag_alone tagged.Enum or production.defined ws B tagged.Enum d) → Within X (parsed.braced ws B d)
    unfolding parsed.braced
    enum_read w = w so tagged_back tagged.Enum so second (kind ws) (keyword_kind keyword.Struct ∷ []) _ (first (kind ws) (keyword_kind keyword.Enum ∷ []) _ (itself (tagged_type ws B tagged.Enum d)))

    untagged_read : Within (untagged_base ws then with_type) (parsed.braced ws B d)
    unfolding parsed.braced
    untagged_read = second (kind ws) (keyword_kind keyword.Struct ∷ []) _ (second (kind ws) (keyword_kind keyword.Enum ∷ []) _ (itself _))

    base_read : Within (base ws then with_type) (parsed.braced ws B d)
    unfolding base
    base_read =
        either_before (kind ws) (keyword_kind keyword.Struct ∷ []) with_type (struct_read (struct_alone_back so first no [] _ (itself (tag_alone tagged.Struct))))
        (either_before (kind ws) (keyword_kind keyword.Enum ∷ []) with_type (enum_read (enum_alone_back so first no [] _ (itself (tag_alone tagged.Enum)))) untagged_read)

    braced_choice : Same (parsed.braced ws B d) (production.braced ws B d)
    braced_choice =
        both braced_forth (either no [] base_read (either no [] (struct_read (second no [] _ (itself (production.defined ws B tagged.Struct d)))) (enum_read (second no [] _ (itself (production.defined ws B tagged.Enum d))))))

  braces_for_empty : (k : Tagged) (B : Braces) (h : TagHead) (d : Definitions) → (braces_for ws k B h d).begun []
  unfolding parsed.struct_braces parsed.enum_braces
  braces_for_empty tagged.Struct B h d = inl (inl refl)
  braces_for_empty tagged.Enum B h d = inl (inl refl)

  braces_empty : (n : ℕ) (h : TagHead) (d : Definitions) → (braces_in ws n h d).begun []
  unfolding braces_in braces_of
  braces_empty zero h d = braces_for_empty h.defines (λ g c. none) h d
  braces_empty (suc n) h d = braces_for_empty h.defines (braces_in ws n) h d

  pub braced_line : (n : ℕ) (d : Definitions) → Same (parsed.braced ws (braces_in ws n) d) (production.braced ws (braces_in ws n) d)
  braced_line n d = braced_choice (braces_in ws n) (braces_empty n) d
