-- Types are read exactly.
use Rattle.std.proofs.Common.{◌≡◌, ℕ, Bool, true, false, List, [], ◌∷◌, ◌++◌, refl}
use Rattle.grammar.specs.Syntax.{Syntax}
use Rattle.grammar.specs.Exact.{IsGood}
use Rattle.grammar.proofs.Sets.{within, apart, within_self, within_both}
use Rattle.grammar.proofs.Parts.{widen}
use Rattle.grammar.proofs.Bounds.{LoopFits}
use Rattle.grammar.proofs.Productions.{seq, either, again_and_again, again_and_again_to, declared, given}
use Rattle.c_syntax.specs.Tokens.{PlainToken}
use Rattle.c_model.specs.declared.operands.Stars.{Stars}
use Rattle.c_model.specs.declared.vocabulary.Keyword.TheVariants as keyword
use Rattle.c_model.specs.declared.vocabulary.SignWords.{SignWords}
use Rattle.c_model.specs.declared.vocabulary.SignWords.TheVariants as sign
use Rattle.c_model.specs.declared.vocabulary.SizeWords.{SizeWords}
use Rattle.c_model.specs.declared.vocabulary.SizeWords.TheVariants as size
use Rattle.c_model.specs.declared.vocabulary.IntegerWords.{IntegerWords}
use Rattle.c_model.specs.Vocabulary.{Vocabulary, no_words}
use Rattle.c_model.specs.Punctuators.{times}
use Rattle.c_model.specs.ExpressionGrammar.{name_kind, type_name_kind, keyword_kind, kind, first_integer_words, first_base, first_type, signs_behind, sizes_behind, words_behind, integer_word, integer_words}
use Rattle.c_model.specs.ExpressionGrammar.{typedef_name, struct_tag, enum_tag, untagged_base, base, consts, type_words, TypeStart, more_consts, star, next_star, star_words, mark_kind}
use Rattle.c_model.specs.ExpressionGrammar.{ConstStart, VoidStart, StructStart, EnumStart, NameStart, IntegerStart, type_behind}
use Rattle.c_expr_parser.proofs.ExactTokens.{AreRead, fixed_good, any_name_good, next_words_good, typedef_name_good}

pub apart_none : (xs : List ℕ) → apart xs [] ≡ true
apart_none [] = refl
apart_none (x ∷ xs) = apart_none xs

-- larger sets do no harm
pub enlarged : {A : Type 0} (ws : Vocabulary) {n : ℕ} {G H : Syntax PlainToken A} {null : Bool} {f : List ℕ} {m : A → List ℕ} (first more : List ℕ) → IsGood (kind ws) n G H null f m → within f first ≡ true → ((x : A) → within (m x) more ≡ true)
    → AreRead ws n G H null first more
enlarged ws {n} {G} {H} {null} {f} {m} first more g w v = record {
  here = widen (kind ws) G null f m null first (λ _. more) g.here (λ h. h) w v;
  there = widen (kind ws) H null f m null first (λ _. more) g.there (λ h. h) w v;
  reads = g.reads;
  begun = g.begun;
  late = g.late;
  agree = g.agree;
  reads_back = g.reads_back;
  begun_back = g.begun_back;
  late_back = g.late_back;
}

signs_within : (s : SignWords) → within (signs_behind s) first_integer_words ≡ true
signs_within sign.Nothing = refl
signs_within sign.Signed = refl
signs_within sign.Unsigned = refl

sizes_within : (z : SizeWords) → within (sizes_behind z) first_integer_words ≡ true
sizes_within size.Nothing = refl
sizes_within size.Char = refl
sizes_within size.Short = refl
sizes_within size.ShortInt = refl
sizes_within size.Int = refl
sizes_within size.Long = refl
sizes_within size.LongInt = refl
sizes_within size.LongLong = refl
sizes_within size.LongLongInt = refl

pub words_within : (x : IntegerWords) → within (words_behind x) first_integer_words ≡ true
words_within x = within_both (signs_behind x.sign) (sizes_behind x.size) first_integer_words (signs_within x.sign) (sizes_within x.size)

pub words_fit : LoopFits IntegerWords words_behind words_behind (λ _ _. []) words_behind
words_fit = record {
  clash = λ x y. apart_none (words_behind y);
  taken = λ x. within_self (words_behind x);
  over = λ x y. refl;
  greedy = λ x. within_self (words_behind x);
}

-- what stands after the first word of a type
abbrev pub first_behind : List ℕ
first_behind = name_kind ∷ first_type

abbrev pub first_untagged : List ℕ
first_untagged = keyword_kind keyword.Void ∷ type_name_kind ∷ first_integer_words

-- what a type can go on with
abbrev pub more_type : List ℕ
more_type = keyword_kind keyword.Const ∷ first_integer_words

module _ (ws : Vocabulary) where
  pub integer_word_good : {n : ℕ} (x : IntegerWords) → AreRead ws n (integer_word ws x) (integer_word ws x) false (words_behind x) []
  unfolding integer_word
  integer_word_good x = enlarged ws (words_behind x) [] (seq (next_words_good ws x) (λ y. given _) refl) (within_joined_none (words_behind x)) (λ y. refl)
    where
      within_joined_none : (xs : List ℕ) → within (xs ++ []) xs ≡ true
      within_joined_none xs = within_both xs [] xs (within_self xs) refl

  pub integer_words_good : {n : ℕ} → AreRead ws n (integer_words ws) (integer_words ws) false first_integer_words first_integer_words
  unfolding integer_words
  integer_words_good =
      declared (seq (integer_word_good no_words) (λ x. seq (enlarged ws first_integer_words first_integer_words (again_and_again_to words_behind words_behind (integer_word_good) words_fit x) (words_within x) words_within) (λ y. given _) refl) refl)
      refl

  pub untagged_good : {n : ℕ} → AreRead ws n (untagged_base ws) (untagged_base ws) false first_untagged first_integer_words
  unfolding untagged_base typedef_name
  untagged_good =
      declared (either (keyword_kind keyword.Void ∷ []) (seq (fixed_good ws (keyword_kind keyword.Void)) (λ _. given _) refl)
      (either (type_name_kind ∷ []) (seq (typedef_name_good ws) (λ t. given _) refl) integer_words_good refl) refl) refl

  pub struct_tag_good : {n : ℕ} → AreRead ws n (struct_tag ws) (struct_tag ws) false (keyword_kind keyword.Struct ∷ []) []
  unfolding struct_tag
  struct_tag_good = declared (seq (fixed_good ws (keyword_kind keyword.Struct)) (λ _. seq (any_name_good ws) (λ x. given _) refl) refl) refl

  pub enum_tag_good : {n : ℕ} → AreRead ws n (enum_tag ws) (enum_tag ws) false (keyword_kind keyword.Enum ∷ []) []
  unfolding enum_tag
  enum_tag_good = declared (seq (fixed_good ws (keyword_kind keyword.Enum)) (λ _. seq (any_name_good ws) (λ x. given _) refl) refl) refl

  pub base_good : {n : ℕ} → AreRead ws n (base ws) (base ws) false first_base first_integer_words
  unfolding base
  base_good =
      declared (either (keyword_kind keyword.Struct ∷ []) struct_tag_good (either (keyword_kind keyword.Enum ∷ []) enum_tag_good untagged_good refl) refl) refl

  pub consts_good : {A : Type 0} {n : ℕ} (x : A) → AreRead ws n (consts ws x) (consts ws x) true (keyword_kind keyword.Const ∷ []) (keyword_kind keyword.Const ∷ [])
  unfolding consts
  consts_good x = declared (again_and_again (keyword_kind keyword.Const ∷ []) (λ y. seq (fixed_good ws (keyword_kind keyword.Const)) (λ _. given y) refl) refl x) refl

  pub type_good : {n : ℕ} → AreRead ws n (type_words ws) (type_words ws) false first_type more_type
  unfolding type_words
  type_good = declared (seq (consts_good (tt {0})) (λ _. seq base_good (λ t. consts_good t) refl) refl) refl

  -- a type after its first word
  pub type_behind_good : {n : ℕ} (s : TypeStart) → AreRead ws n (type_behind ws s) (type_behind ws s) true first_behind more_type
  unfolding type_behind
  type_behind_good ConstStart = declared type_good refl
  type_behind_good VoidStart = declared (consts_good _) refl
  type_behind_good StructStart = declared (seq (any_name_good ws) (λ x. consts_good _) refl) refl
  type_behind_good EnumStart = declared (seq (any_name_good ws) (λ x. consts_good _) refl) refl
  type_behind_good (NameStart t) = declared (consts_good _) refl
  type_behind_good (IntegerStart x) =
      declared (seq (enlarged ws first_integer_words first_integer_words (again_and_again_to words_behind words_behind (integer_word_good) words_fit x) (words_within x) words_within) (λ y. consts_good _) refl) refl

  -- ---- stars

  pub more_consts_good : {n : ℕ} (b : Bool) → AreRead ws n (more_consts ws b) (more_consts ws b) true (keyword_kind keyword.Const ∷ []) (keyword_kind keyword.Const ∷ [])
  unfolding more_consts
  more_consts_good b = declared (again_and_again (keyword_kind keyword.Const ∷ []) (λ _. seq (fixed_good ws (keyword_kind keyword.Const)) (λ _. given true) refl) refl b) refl

  pub star_good : {n : ℕ} (b : Bool) → AreRead ws n (star ws b) (star ws b) false (mark_kind times ∷ []) (keyword_kind keyword.Const ∷ [])
  unfolding star
  star_good b = declared (seq (fixed_good ws (mark_kind times)) (λ _. more_consts_good b) refl) refl

  pub next_star_good : {n : ℕ} (s : Stars) → AreRead ws n (next_star ws s) (next_star ws s) false (mark_kind times ∷ []) (keyword_kind keyword.Const ∷ [])
  unfolding next_star
  next_star_good s = declared (seq (star_good s.constant) (λ c. given _) refl) refl

  pub stars_good : {n : ℕ} → AreRead ws n (star_words ws) (star_words ws) true (mark_kind times ∷ []) (mark_kind times ∷ keyword_kind keyword.Const ∷ [])
  unfolding star_words
  stars_good = declared (again_and_again (mark_kind times ∷ []) next_star_good refl _) refl
