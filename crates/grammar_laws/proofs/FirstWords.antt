-- The words of a type, cut after the first of them, are those of the head of their grammar.
use Rattle.std.proofs.Common.{◌≡◌, ℕ, Bool, true, false, cond, eqb, [], ◌∷◌, Option, Some, None, refl, ap, subst, ◌∙◌, inl, inr, ◌≤◌, ◌+◌, arith}
use Rattle.std.specs.Prelude.{option_map}
use Rattle.std.proofs.lemmas.Bool.{eqb-true}
use Rattle.grammar.specs.Syntax.{Syntax, gives, one, ◌then◌, many}
use Rattle.grammar.specs.Exact.{Same}
use Rattle.grammar.proofs.Forms.{to_left, many_form}
use Rattle.grammar_laws.specs.Plain.{◌or◌, repeated}
use Rattle.grammar_laws.proofs.Inclusions.{Within, both, forth, back, itself, ◌so◌, either, first, second, on, in_turn, turns, either_before, handed, handed_back, given_first, given_back}
use Rattle.grammar_laws.proofs.Tokens.{just, by_token, just_as, one_by_one, placed_is, placed_some}
use Rattle.grammar_laws.proofs.TypeProductions.{base_line}
use Rattle.c_syntax.specs.declared.place.Place.{Place}
use Rattle.c_syntax.specs.Ctypes.{PlainType, Void, Int, StructTag, EnumTag}
use Rattle.c_syntax.specs.Tokens as token
use Rattle.c_syntax.specs.Tokens.{PlainTokenKind, PlainToken}
use Rattle.c_model.specs.declared.vocabulary.IntegerWords.{IntegerWords}
use Rattle.c_model.specs.declared.vocabulary.Keyword.{Keyword}
use Rattle.c_model.specs.declared.vocabulary.Keyword.TheVariants as keyword
use Rattle.c_model.specs.declared.vocabulary.LogicWord.{LogicWord}
use Rattle.c_model.specs.declared.vocabulary.LogicWord.TheVariants as logic
use Rattle.c_model.specs.declared.vocabulary.Word.{Word}
use Rattle.c_model.specs.declared.vocabulary.Word.TheVariants as word
use Rattle.c_model.specs.Vocabulary.{Vocabulary, word_at, no_words, words_with, integer_type}
use Rattle.c_model.specs.Terminals.{placed}
use Rattle.c_model.specs.ExpressionGrammar.{kind, word_kind, token_kind, keyword_kind, logic_word_kind, words_behind, named_type, type_named_by, TypeStart, ConstStart, VoidStart, StructStart, EnumStart}
use Rattle.c_model.specs.ExpressionGrammar.{NameStart, IntegerStart, reserved, any_name, keyword_of, next_words, integer_word, typedef_name_of, base, consts, type_words, type_start_of, type_start, type_behind}
use Rattle.grammar_laws.specs.ExpressionProductions as production

abbrev no : PlainToken → ℕ
no t = 0

-- ---- reserved words

-- a keyword whose kind no other word has
pub record IsAlone (k : Keyword) : Type 0 where
  pub most : keyword_kind k ≤ 39
  pub least : 9 ≤ keyword_kind k
  pub only : (w : Word) → eqb (word_kind w) (keyword_kind k) ≡ true → w ≡ word.Keyword k
  pub same : eqb (keyword_kind k) (keyword_kind k) ≡ true

-- no word of annotations has the kind of a keyword
no_logic_word : (w : LogicWord) (k : ℕ) → 9 ≤ k → k ≤ 34 → eqb (logic_word_kind w) k ≡ true → ⊥
no_logic_word (logic.Truth b) k l g h = let e = eqb-true 5 k h in omega (arith, l, e)
no_logic_word logic.Null k l g h = let e = eqb-true 35 k h in omega (arith, g, e)
no_logic_word (logic.Told f) k l g h = let e = eqb-true 36 k h in omega (arith, g, e)
no_logic_word (logic.Asks q) k l g h = let e = eqb-true 37 k h in omega (arith, g, e)
no_logic_word logic.Separated k l g h = let e = eqb-true 38 k h in omega (arith, g, e)
no_logic_word logic.Result k l g h = let e = eqb-true 39 k h in omega (arith, g, e)
no_logic_word logic.Old k l g h = let e = eqb-true 40 k h in omega (arith, g, e)
no_logic_word logic.At k l g h = let e = eqb-true 41 k h in omega (arith, g, e)
no_logic_word logic.Kept k l g h = let e = eqb-true 5 k h in omega (arith, l, e)
no_logic_word (logic.Quantifier q) k l g h = let e = eqb-true 42 k h in omega (arith, g, e)

const_only : (w : Word) → eqb (word_kind w) (keyword_kind keyword.Const) ≡ true → w ≡ word.Keyword keyword.Const
const_only (word.Keyword keyword.Const) e = refl
const_only (word.Logic w) e = absurd (no_logic_word w (keyword_kind keyword.Const) (omega arith) (omega arith) e)
const_only _ e = absurd cc

void_only : (w : Word) → eqb (word_kind w) (keyword_kind keyword.Void) ≡ true → w ≡ word.Keyword keyword.Void
void_only (word.Keyword keyword.Void) e = refl
void_only (word.Logic w) e = absurd (no_logic_word w (keyword_kind keyword.Void) (omega arith) (omega arith) e)
void_only _ e = absurd cc

struct_only : (w : Word) → eqb (word_kind w) (keyword_kind keyword.Struct) ≡ true → w ≡ word.Keyword keyword.Struct
struct_only (word.Keyword keyword.Struct) e = refl
struct_only (word.Logic w) e = absurd (no_logic_word w (keyword_kind keyword.Struct) (omega arith) (omega arith) e)
struct_only _ e = absurd cc

enum_only : (w : Word) → eqb (word_kind w) (keyword_kind keyword.Enum) ≡ true → w ≡ word.Keyword keyword.Enum
enum_only (word.Keyword keyword.Enum) e = refl
enum_only (word.Logic w) e = absurd (no_logic_word w (keyword_kind keyword.Enum) (omega arith) (omega arith) e)
enum_only _ e = absurd cc

const_alone : IsAlone keyword.Const
const_alone = record { most = omega arith; least = omega arith; only = const_only; same = refl }

pub void_alone : IsAlone keyword.Void
void_alone = record { most = omega arith; least = omega arith; only = void_only; same = refl }

struct_alone : IsAlone keyword.Struct
struct_alone = record { most = omega arith; least = omega arith; only = struct_only; same = refl }

enum_alone : IsAlone keyword.Enum
enum_alone = record { most = omega arith; least = omega arith; only = enum_only; same = refl }

module _ (ws : Vocabulary) where
  -- the kind of a token is that of this keyword
  abbrev is_kind : Keyword → PlainTokenKind → Bool
  is_kind k t = eqb (token_kind ws t) (keyword_kind k)

  abbrev IsWord : PlainTokenKind → Keyword → Type 0
  IsWord t k = (n : ℕ) × (t ≡ token.Word n) × (word_at ws n ≡ word.Keyword k)

  too_small : (k : Keyword) (m : ℕ) → IsAlone k → m ≤ 8 → eqb m (keyword_kind k) ≡ true → ⊥
  too_small k m s le e = let same : m ≡ keyword_kind k = eqb-true m (keyword_kind k) e in let least = s.least in omega arith

  too_great : (k : Keyword) (m : ℕ) → IsAlone k → eqb (60 + m) (keyword_kind k) ≡ true → ⊥
  too_great k m s e = let same : 60 + m ≡ keyword_kind k = eqb-true (60 + m) (keyword_kind k) e in let most = s.most in omega arith

  word_of_kind : (k : Keyword) (t : PlainTokenKind) → IsAlone k → is_kind k t ≡ true → IsWord t k
  word_of_kind k (token.Word n) s e = (n, refl, s.only (word_at ws n) e)
  word_of_kind k (token.Number z c) s e = absurd (too_small k 1 s (omega arith) e)
  word_of_kind k (token.Letter z) s e = absurd (too_small k 2 s (omega arith) e)
  word_of_kind k (token.Chars bytes) s e = absurd (too_small k 3 s (omega arith) e)
  word_of_kind k (token.Mark m) s e = absurd (too_great k m s e)
  word_of_kind k token.AnnotOpen s e = absurd (too_small k 6 s (omega arith) e)
  word_of_kind k token.AnnotClose s e = absurd (too_small k 7 s (omega arith) e)
  word_of_kind k (token.Head a b) s e = absurd (too_small k 8 s (omega arith) e)

  pub reserved_word : (k : Keyword) (t : PlainToken) (at : Place) → IsAlone k → cond (is_kind k t.kind) (Some t.place) None ≡ Some at → IsWord t.kind k
  reserved_word k t at s e = by (is_kind k t.kind) refl e
    where
      by : (b : Bool) → is_kind k t.kind ≡ b → cond b (Some t.place) None ≡ Some at → IsWord t.kind k
      by true q f = word_of_kind k t.kind s q
      by false q f = absurd cc

  pub word_reserved : (k : Keyword) (t : PlainToken) (n : ℕ) → IsAlone k → t.kind ≡ token.Word n → word_at ws n ≡ word.Keyword k → cond (is_kind k t.kind) (Some t.place) None ≡ Some t.place
  word_reserved k t n s p q =
      let of_kind : is_kind k t.kind ≡ is_kind k (token.Word n) = ap (is_kind k) p in
      let of_word : is_kind k (token.Word n) ≡ eqb (keyword_kind k) (keyword_kind k) = ap (λ (w : Word). eqb (word_kind w) (keyword_kind k)) q in
      ap (λ (b : Bool). cond b (Some t.place) None) (of_kind ∙ of_word ∙ s.same)

  -- ---- the first word of a type

  abbrev Starts : PlainTokenKind → TypeStart × ℕ → Type 0
  Starts t s = (t ≡ token.Word s.1) × (type_start_of ws s.1 (word_at ws s.1) ≡ Some s.0)

  starts_with : (t : PlainTokenKind) (s : TypeStart × ℕ) → type_start ws t ≡ Some s → Starts t s
  starts_with (token.Word n) s e = by (type_start_of ws n (word_at ws n)) refl e
    where
      by : (o : Option TypeStart) → type_start_of ws n (word_at ws n) ≡ o → option_map (λ b. (b, n)) o ≡ Some s → Starts (token.Word n) s
      by (Some b) q f = let same : (b, n) ≡ s = cc in subst (λ z. Starts (token.Word n) z) same (refl, q)
      by None q f = absurd cc
  starts_with _ s e = absurd cc

  pub start_word : (t : PlainToken) (x : (TypeStart × ℕ) × Place) → placed (type_start ws) t ≡ Some x → Starts t.kind x.0
  start_word t x e = starts_with t.kind x.0 (placed_is (type_start ws) t x e)

  word_start : (t : PlainToken) (n : ℕ) (w : Word) (s : TypeStart) → t.kind ≡ token.Word n → word_at ws n ≡ w → type_start_of ws n w ≡ Some s → placed (type_start ws) t ≡ Some ((s, n), t.place)
  word_start t n w s p q e =
      let of_word : type_start_of ws n (word_at ws n) ≡ Some s = ap (type_start_of ws n) q ∙ e in
      placed_some (type_start ws) t (s, n) (ap (type_start ws) p ∙ ap (option_map (λ (b : TypeStart). (b, n))) of_word)

  pub keyword_start : (t : PlainToken) (k : Keyword) (s : TypeStart) → (m : IsWord t.kind k) → type_start_of ws m.0 (word.Keyword k) ≡ Some s → placed (type_start ws) t ≡ Some ((s, m.0), t.place)
  keyword_start t k s m e = word_start t m.0 (word.Keyword k) s m.1 m.2 e

  -- ---- a type by its first word

  abbrev Consts : PlainType → Syntax PlainToken PlainType
  Consts t = consts ws t

  abbrev AllWords : IntegerWords → Syntax PlainToken PlainType
  AllWords x = many (kind ws) words_behind (integer_word ws) x then λ y. consts ws (Int (integer_type y))

  abbrev Typed : Type 1
  Typed = Syntax PlainToken PlainType

  abbrev ConstFirst : Typed
  ConstFirst = reserved ws keyword.Const then λ _. type_words ws

  abbrev VoidFirst : Typed
  VoidFirst = reserved ws keyword.Void then λ _. consts ws Void

  abbrev NameFirst : Typed
  NameFirst = one (placed (typedef_name_of ws)) then λ t. consts ws t.0

  abbrev StructFirst : Typed
  StructFirst = reserved ws keyword.Struct then λ _. any_name ws then λ x. consts ws (StructTag x.0 x.1)

  abbrev EnumFirst : Typed
  EnumFirst = reserved ws keyword.Enum then λ _. any_name ws then λ x. consts ws (EnumTag x.0 x.1)

  abbrev IntegerFirst : Typed
  IntegerFirst = one (placed (next_words ws no_words)) then λ y. AllWords y.0

  abbrev BaseFirst : Typed
  BaseFirst = IntegerFirst or VoidFirst or NameFirst or StructFirst or EnumFirst

  abbrev Based : Typed
  Based = base ws then Consts

  consts_empty : {A : Type 0} (x : A) → (consts ws x).begun []
  unfolding consts
  consts_empty x = (0, inr refl)

  integers_forth : Within ((integer_word ws no_words then λ x. repeated (integer_word ws) x then λ y. gives (Int (integer_type y))) then Consts) IntegerFirst
  unfolding integer_word
  integers_forth =
      back (to_left (integer_word ws no_words) (λ x. repeated (integer_word ws) x then λ y. gives (Int (integer_type y))) Consts)
      so on (integer_word ws no_words) (λ x.
      handed_back (repeated (integer_word ws) x) (λ y. Int (integer_type y)) Consts (λ y. consts_empty _)
      so in_turn (turns no (λ _. []) (kind ws) words_behind (λ y. itself _) x) (λ y. itself (consts ws (Int (integer_type y)))))
      so handed_back (one (placed (next_words ws no_words))) (λ y. y.0) AllWords (λ y. inl (0, inr refl))

  integers_back : Within IntegerFirst ((integer_word ws no_words then λ x. repeated (integer_word ws) x then λ y. gives (Int (integer_type y))) then Consts)
  unfolding integer_word
  integers_back =
      handed (one (placed (next_words ws no_words))) (λ y. y.0) AllWords
      so on (integer_word ws no_words) (λ x.
      in_turn (turns (kind ws) words_behind no (λ _. []) (λ y. itself _) x) (λ y. itself (consts ws (Int (integer_type y))))
      so handed (repeated (integer_word ws) x) (λ y. Int (integer_type y)) Consts)
      so forth (to_left (integer_word ws no_words) (λ x. repeated (integer_word ws) x then λ y. gives (Int (integer_type y))) Consts)

  tagged_forth : (W : Syntax PlainToken Place) (tag : ℕ × Place → PlainType) → Within ((W then λ _. any_name ws then λ x. gives (tag x)) then Consts) (W then λ _. any_name ws then λ x. consts ws (tag x))
  tagged_forth W tag = back (to_left W (λ _. any_name ws then λ x. gives (tag x)) Consts) so on W (λ _. handed_back (any_name ws) tag Consts (λ x. consts_empty _))

  tagged_back : (W : Syntax PlainToken Place) (tag : ℕ × Place → PlainType) → Within (W then λ _. any_name ws then λ x. consts ws (tag x)) ((W then λ _. any_name ws then λ x. gives (tag x)) then Consts)
  tagged_back W tag = on W (λ _. handed (any_name ws) tag Consts) so forth (to_left W (λ _. any_name ws then λ x. gives (tag x)) Consts)

  based_forth : Within Based BaseFirst
  based_forth =
      in_turn (forth (base_line ws)) (λ t. itself (consts ws t))
      so either_before no [] Consts (integers_forth so first no [] _ (itself IntegerFirst))
      (either_before no [] Consts (handed_back (reserved ws keyword.Void) (λ _. Void) Consts (λ _. consts_empty _) so second no [] _ (first no [] _ (itself VoidFirst)))
      (either_before no [] Consts (handed_back (one (placed (typedef_name_of ws))) (λ t. t.0) Consts (λ t. consts_empty _) so second no [] _ (second no [] _ (first no [] _ (itself NameFirst))))
      (either_before no [] Consts (tagged_forth (reserved ws keyword.Struct) (λ x. StructTag x.0 x.1) so second no [] _ (second no [] _ (second no [] _ (first no [] _ (itself StructFirst)))))
      (tagged_forth (reserved ws keyword.Enum) (λ x. EnumTag x.0 x.1) so second no [] _ (second no [] _ (second no [] _ (second no [] _ (itself EnumFirst))))))))

  into_base : {A : Typed} → Within A (production.base ws) → Within (A then Consts) Based
  into_base w = in_turn (w so back (base_line ws)) (λ t. itself (consts ws t))

  based_back : Within BaseFirst Based
  based_back =
      either no [] (integers_back so into_base (first no [] _ (itself _)))
      (either no [] (handed (reserved ws keyword.Void) (λ _. Void) Consts so into_base (second no [] _ (first no [] _ (itself _))))
      (either no [] (handed (one (placed (typedef_name_of ws))) (λ t. t.0) Consts so into_base (second no [] _ (second no [] _ (first no [] _ (itself _)))))
      (either no [] (tagged_back (reserved ws keyword.Struct) (λ x. StructTag x.0 x.1) so into_base (second no [] _ (second no [] _ (second no [] _ (first no [] _ (itself _))))))
      (tagged_back (reserved ws keyword.Enum) (λ x. EnumTag x.0 x.1) so into_base (second no [] _ (second no [] _ (second no [] _ (second no [] _ (itself _)))))))))

  abbrev Const : Syntax PlainToken Place
  Const = reserved ws keyword.Const

  abbrev after_consts : Unit {0} → Typed
  after_consts u = Based

  abbrev one_const : Unit {0} → Syntax PlainToken (Unit {0})
  one_const u = Const then λ _. gives u

  const_forth : Within ((one_const tt then λ u. consts ws u) then after_consts) ConstFirst
  unfolding type_words
  const_forth =
      back (to_left (one_const tt) (λ u. consts ws u) after_consts)
      so handed_back Const (λ _. tt) (λ u. consts ws u then after_consts) (λ _. inl (consts_empty tt))

  const_back : Within ConstFirst ((one_const tt then λ u. consts ws u) then after_consts)
  unfolding type_words
  const_back = handed Const (λ _. tt) (λ u. consts ws u then after_consts) so forth (to_left (one_const tt) (λ u. consts ws u) after_consts)

  consts_form : Same (consts ws (tt {0})) ((one_const tt then λ u. consts ws u) or gives tt)
  unfolding consts
  consts_form =
      let form = many_form (kind ws) (λ _. keyword_kind keyword.Const ∷ []) one_const tt in
      both (forth form so either (kind ws) (keyword_kind keyword.Const ∷ []) (first no [] _ (itself _)) (second no [] _ (itself _)))
      (either no [] (first (kind ws) (keyword_kind keyword.Const ∷ []) _ (itself _)) (second (kind ws) (keyword_kind keyword.Const ∷ []) _ (itself _)) so back form)

  based_empty : (base ws).begun []
  unfolding integer_word
  based_empty = (back (base_line ws)).begun [] (inl (inl (inl (inl refl))))

  words_forth : Within (type_words ws) (ConstFirst or BaseFirst)
  unfolding type_words
  words_forth =
      in_turn (forth consts_form) (λ u. itself Based)
      so either_before no [] after_consts (const_forth so first no [] _ (itself ConstFirst))
      (given_first tt after_consts (inl based_empty) so based_forth so second no [] _ (itself BaseFirst))

  words_back : Within (ConstFirst or BaseFirst) (type_words ws)
  unfolding type_words
  words_back =
      either no [] (const_back so in_turn (first no [] _ (itself _) so back consts_form) (λ u. itself Based))
      (based_back so given_back tt after_consts so in_turn (second no [] _ (itself _) so back consts_form) (λ u. itself Based))

  abbrev Behind : (TypeStart × ℕ) × Place → Typed
  Behind x = type_behind ws x.0.0

  abbrev Cut : Typed
  Cut = one (placed (type_start ws)) then Behind

  -- ---- from the cut to the words

  module _ (t : PlainToken) (x : (TypeStart × ℕ) × Place) where
    abbrev Given : Typed
    Given = just t x then Behind

    behind_const : ConstStart ≡ x.0.0 → Within (Behind x) (type_words ws)
    unfolding type_behind
    behind_const e = subst (λ s. Within (type_behind ws s) (type_words ws)) e (itself (type_words ws))

    behind_void : VoidStart ≡ x.0.0 → Within (Behind x) (consts ws Void)
    unfolding type_behind
    behind_void e = subst (λ s. Within (type_behind ws s) (consts ws Void)) e (itself (consts ws Void))

    behind_name : (u : PlainType) → NameStart u ≡ x.0.0 → Within (Behind x) (consts ws u)
    unfolding type_behind
    behind_name u e = subst (λ s. Within (type_behind ws s) (consts ws u)) e (itself (consts ws u))

    behind_struct : StructStart ≡ x.0.0 → Within (Behind x) (any_name ws then λ y. consts ws (StructTag y.0 y.1))
    unfolding type_behind
    behind_struct e = subst (λ s. Within (type_behind ws s) (any_name ws then λ y. consts ws (StructTag y.0 y.1))) e (itself _)

    behind_enum : EnumStart ≡ x.0.0 → Within (Behind x) (any_name ws then λ y. consts ws (EnumTag y.0 y.1))
    unfolding type_behind
    behind_enum e = subst (λ s. Within (type_behind ws s) (any_name ws then λ y. consts ws (EnumTag y.0 y.1))) e (itself _)

    behind_integer : (y : IntegerWords) → IntegerStart y ≡ x.0.0 → Within (Behind x) (AllWords y)
    unfolding type_behind
    behind_integer y e = subst (λ s. Within (type_behind ws s) (AllWords y)) e (itself _)

    module _ (n : ℕ) (p : t.kind ≡ token.Word n) where
      integer_given : (k : Keyword) → word_at ws n ≡ word.Keyword k → option_map IntegerStart (words_with no_words k) ≡ Some x.0.0 → Within Given (ConstFirst or BaseFirst)
      integer_given k q e = by (words_with no_words k) refl e
        where
          by : (o : Option IntegerWords) → words_with no_words k ≡ o → option_map IntegerStart o ≡ Some x.0.0 → Within Given (ConstFirst or BaseFirst)
          by (Some y) r f =
              let same : IntegerStart y ≡ x.0.0 = cc in
              let of_word : next_words ws no_words (token.Word n) ≡ Some y = ap (λ (w : Word). elim (keyword_of ws w) [ None ↦ None | Some j ↦ words_with no_words j ]) q ∙ r in
              just_as t x (y, t.place) Behind (λ z. AllWords z.0) (placed_some (next_words ws no_words) t y (ap (next_words ws no_words) p ∙ of_word)) (behind_integer y same) so second no [] _ (first no [] _ (itself IntegerFirst))
          by None r f = absurd cc

      given_word : (w : Word) → word_at ws n ≡ w → type_start_of ws n w ≡ Some x.0.0 → Within Given (ConstFirst or BaseFirst)
      given_word (word.TypeName k) q e =
          let same : NameStart (named_type n k) ≡ x.0.0 = cc in
          let named : typedef_name_of ws t.kind ≡ Some (named_type n k) = ap (typedef_name_of ws) p ∙ ap (type_named_by n) q in
          just_as t x (named_type n k, t.place) Behind (λ u. consts ws u.0) (placed_some (typedef_name_of ws) t (named_type n k) named) (behind_name (named_type n k) same)
          so second no [] _ (second no [] _ (second no [] _ (first no [] _ (itself NameFirst))))
      given_word (word.Keyword keyword.Const) q e =
          let same : ConstStart ≡ x.0.0 = cc in
          just_as t x t.place Behind (λ _. type_words ws) (word_reserved keyword.Const t n const_alone p q) (behind_const same) so first no [] _ (itself ConstFirst)
      given_word (word.Keyword keyword.Void) q e =
          let same : VoidStart ≡ x.0.0 = cc in
          just_as t x t.place Behind (λ _. consts ws Void) (word_reserved keyword.Void t n void_alone p q) (behind_void same) so second no [] _ (second no [] _ (first no [] _ (itself VoidFirst)))
      given_word (word.Keyword keyword.Struct) q e =
          let same : StructStart ≡ x.0.0 = cc in
          just_as t x t.place Behind (λ _. any_name ws then λ y. consts ws (StructTag y.0 y.1)) (word_reserved keyword.Struct t n struct_alone p q) (behind_struct same)
          so second no [] _ (second no [] _ (second no [] _ (second no [] _ (first no [] _ (itself StructFirst)))))
      given_word (word.Keyword keyword.Enum) q e =
          let same : EnumStart ≡ x.0.0 = cc in
          just_as t x t.place Behind (λ _. any_name ws then λ y. consts ws (EnumTag y.0 y.1)) (word_reserved keyword.Enum t n enum_alone p q) (behind_enum same)
          so second no [] _ (second no [] _ (second no [] _ (second no [] _ (second no [] _ (itself EnumFirst)))))
      given_word (word.Keyword keyword.Char) q e = integer_given keyword.Char q e
      given_word (word.Keyword keyword.Short) q e = integer_given keyword.Short q e
      given_word (word.Keyword keyword.Int) q e = integer_given keyword.Int q e
      given_word (word.Keyword keyword.Long) q e = integer_given keyword.Long q e
      given_word (word.Keyword keyword.Signed) q e = integer_given keyword.Signed q e
      given_word (word.Keyword keyword.Unsigned) q e = integer_given keyword.Unsigned q e
      given_word _ q e = absurd cc

  cut_forth : Within Cut (type_words ws)
  cut_forth =
      by_token (inl (inl (inl refl))) (λ t x e. let s = start_word t x e in given_word t x x.0.1 s.0 (word_at ws x.0.1) refl s.1) so words_back

  -- ---- from the words to the cut

  const_cut : Within ConstFirst Cut
  unfolding type_behind
  const_cut =
      one_by_one (λ t at e. let m = reserved_word keyword.Const t at const_alone e in (((ConstStart, m.0), t.place), keyword_start t keyword.Const ConstStart m refl, itself (type_words ws)))

  void_cut : Within VoidFirst Cut
  unfolding type_behind
  void_cut =
      one_by_one (λ t at e. let m = reserved_word keyword.Void t at void_alone e in (((VoidStart, m.0), t.place), keyword_start t keyword.Void VoidStart m refl, itself (consts ws Void)))

  struct_cut : Within StructFirst Cut
  unfolding type_behind
  struct_cut =
      one_by_one (λ t at e. let m = reserved_word keyword.Struct t at struct_alone e in (((StructStart, m.0), t.place), keyword_start t keyword.Struct StructStart m refl, itself _))

  enum_cut : Within EnumFirst Cut
  unfolding type_behind
  enum_cut =
      one_by_one (λ t at e. let m = reserved_word keyword.Enum t at enum_alone e in (((EnumStart, m.0), t.place), keyword_start t keyword.Enum EnumStart m refl, itself _))

  named_start : (n : ℕ) (w : Word) (u : PlainType) → type_named_by n w ≡ Some u → type_start_of ws n w ≡ Some (NameStart u)
  named_start n (word.TypeName k) u e = ap (option_map NameStart) e
  named_start n _ u e = absurd cc

  name_token : (t : PlainTokenKind) (u : PlainType) → typedef_name_of ws t ≡ Some u → (n : ℕ) × (t ≡ token.Word n) × (type_start_of ws n (word_at ws n) ≡ Some (NameStart u))
  name_token (token.Word n) u e = (n, refl, named_start n (word_at ws n) u e)
  name_token _ u e = absurd cc

  name_cut : Within NameFirst Cut
  unfolding type_behind
  name_cut =
      one_by_one (λ t x e.
      let m = name_token t.kind x.0 (placed_is (typedef_name_of ws) t x e) in
      (((NameStart x.0, m.0), t.place), word_start t m.0 (word_at ws m.0) (NameStart x.0) m.1 refl m.2, itself (consts ws x.0)))

  integer_start : (n : ℕ) (w : Word) (y : IntegerWords) → elim (keyword_of ws w) [ None ↦ None | Some k ↦ words_with no_words k ] ≡ Some y → type_start_of ws n w ≡ Some (IntegerStart y)
  integer_start n (word.Keyword keyword.Char) y e = ap (option_map IntegerStart) e
  integer_start n (word.Keyword keyword.Short) y e = ap (option_map IntegerStart) e
  integer_start n (word.Keyword keyword.Int) y e = ap (option_map IntegerStart) e
  integer_start n (word.Keyword keyword.Long) y e = ap (option_map IntegerStart) e
  integer_start n (word.Keyword keyword.Signed) y e = ap (option_map IntegerStart) e
  integer_start n (word.Keyword keyword.Unsigned) y e = ap (option_map IntegerStart) e
  integer_start n _ y e = absurd cc

  integer_token : (t : PlainTokenKind) (y : IntegerWords) → next_words ws no_words t ≡ Some y → (n : ℕ) × (t ≡ token.Word n) × (type_start_of ws n (word_at ws n) ≡ Some (IntegerStart y))
  integer_token (token.Word n) y e = (n, refl, integer_start n (word_at ws n) y e)
  integer_token _ y e = absurd cc

  integer_cut : Within IntegerFirst Cut
  unfolding type_behind
  integer_cut =
      one_by_one (λ t x e.
      let m = integer_token t.kind x.0 (placed_is (next_words ws no_words) t x e) in
      (((IntegerStart x.0, m.0), t.place), word_start t m.0 (word_at ws m.0) (IntegerStart x.0) m.1 refl m.2, itself (AllWords x.0)))

  cut_back : Within (type_words ws) Cut
  cut_back = words_forth so either no [] const_cut (either no [] integer_cut (either no [] void_cut (either no [] name_cut (either no [] struct_cut enum_cut))))

  pub cut_line : Same (type_words ws) Cut
  cut_line = both cut_back cut_forth
