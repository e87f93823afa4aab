-- What a call asks of its arguments: the types of the parameters, but of printf those of its format, the pieces of a literal that is its first argument.
use Rattle.std.proofs.Common.{◌≡◌, ℕ, zero, suc, ◌<◌, Bool, true, false, cond, if◌then◌else◌, nat_eq, List, [], ◌∷◌, Option, Some, None, option_map, slice_get, refl, sym, ap, ◌∙◌, subst, arith}
use Rattle.std.proofs.lemmas.Slice.Eq.{bytes_eq-Decides}
use Rattle.std.specs.Prelude.{bytes_eq, codes}
use Rattle.std.specs.List.{AllByRecursion}
use Rattle.c_syntax.specs.declared.types.CInt.TheVariants.{I8, I32, U32, I64, U64}
use Rattle.c_syntax.specs.Ctypes.{PlainType, Int, Ptr}
use Rattle.c_syntax.specs.Expressions.{Expressions}
use Rattle.c_syntax.specs.Programs.{StringLiteral, TranslationUnit}
use Rattle.c_syntax.specs.Layouts.{IntegerType, PointerType}
use Rattle.c_model.specs.Library.{is_library_name, library_constant}
use Rattle.c_model.specs.Formats.{Piece, Bytes, Number, Character, String, with_byte, pieces_of, directive, long_directive, types_of}
use Rattle.c_model.specs.ReadTree.{AreBytes, TextsAreBytes}
use Rattle.c_model.specs.ExpressionTyping.{Sight, Signature, name_at, is_printf}
use Rattle.c_model.specs.TypedTrees.{literal_in, format_types, literal_types, argument_types}
use Rattle.c_model.specs.AcceptedPrograms.{AreScalar}
use Rattle.c_effects.specs.Printing.{pieces_or_none, literal_pieces, format_pieces}

-- ---- what is asked

-- the format of a call of printf, one of these literals, with the types of the arguments
pub record HasFormat (texts : List StringLiteral) (es : Expressions) (params : List PlainType) : Type 0 where
  pub number : ℕ
  pub literal : StringLiteral
  pub pieces : List Piece
  pub first : literal_in es ≡ Some number
  pub there : slice_get texts number ≡ Some literal
  pub said : pieces_of literal.bytes ≡ Some pieces
  pub types : params ≡ Ptr (Int I8) ∷ types_of pieces

module _ (texts : List StringLiteral) (es : Expressions) (params : List PlainType) (n : ℕ) (first : literal_in es ≡ Some n) where
  with_pieces : (l : StringLiteral) → slice_get texts n ≡ Some l → (o : Option (List Piece)) → pieces_of l.bytes ≡ o → option_map (λ pieces. Ptr (Int I8) ∷ types_of pieces) o ≡ Some params → HasFormat texts es params
  with_pieces l there None said e = absurd cc
  with_pieces l there (Some ps) said e =
      let same : Ptr (Int I8) ∷ types_of ps ≡ params = cc in record { number = n; literal = l; pieces = ps; first = first; there = there; said = said; types = sym same }

  with_literal : (o : Option StringLiteral) → slice_get texts n ≡ o → format_types o ≡ Some params → HasFormat texts es params
  with_literal None there e = absurd cc
  with_literal (Some l) there e = with_pieces l there (pieces_of l.bytes) refl e

has_format : (s : Sight) (es : Expressions) (params : List PlainType) → literal_types s (literal_in es) ≡ Some params → HasFormat s.texts es params
has_format s es params e = by (literal_in es) refl e
  where
    by : (o : Option ℕ) → literal_in es ≡ o → literal_types s o ≡ Some params → HasFormat s.texts es params
    by None first e = absurd cc
    by (Some n) first e = with_literal s.texts es params n first (slice_get s.texts n) refl e

-- what a call of a function by this name asks for, where these are the function's own parameters
pub record Asks (p : TranslationUnit) (name : List ℕ) (es : Expressions) (own params : List PlainType) : Type 0 where
  pub plain : bytes_eq name (codes "printf") ≡ false → params ≡ own
  pub format : bytes_eq name (codes "printf") ≡ true → HasFormat p.texts es params

pub asks : (p : TranslationUnit) (s : Sight) → s.names ≡ p.names → s.texts ≡ p.texts → (x : ℕ) (f : Signature) → x ≡ f.name → (es : Expressions) (params : List PlainType) → argument_types s f es ≡ Some params
    → Asks p (name_at p.names x) es f.params params
asks p s names texts x f same es params e = record {
  plain = λ other. let own : f.params ≡ params = cc_of (asked false other) in sym own;
  format = λ printf. subst (λ ts. HasFormat ts es params) texts (has_format s es params (asked true printf));
}
  where
    is : is_printf s f.name ≡ bytes_eq (name_at p.names x) (codes "printf")
    is = ap (is_printf s) (sym same) ∙ ap (λ ns. bytes_eq (name_at ns x) (codes "printf")) names

    asked : (b : Bool) → bytes_eq (name_at p.names x) (codes "printf") ≡ b → cond b (literal_types s (literal_in es)) (Some f.params) ≡ Some params
    asked b h = ap (λ t. cond t (literal_types s (literal_in es)) (Some f.params)) (sym (is ∙ h)) ∙ e

    cc_of : Some f.params ≡ Some params → f.params ≡ params
    cc_of e = cc

-- no name of the library is declared, printf among them
pub not_printf : (w : List ℕ) → is_library_name w ≡ false → bytes_eq w (codes "printf") ≡ false
unfolding library_constant is_library_name
not_printf w own = by (bytes_eq w (codes "printf")) refl
  where
    by : (b : Bool) → bytes_eq w (codes "printf") ≡ b → b ≡ false
    by false e = refl
    by true e =
        let is : w ≡ codes "printf" = (bytes_eq-Decides w (codes "printf")).0 e in
        let named : is_library_name w ≡ true = subst (λ v. is_library_name v ≡ true) (sym is) refl in
        sym named ∙ own

-- ---- the pieces of a format

-- the types that they ask for are scalar
pub directives_scalar : (ps : List Piece) → AreScalar (types_of ps)
directives_scalar [] = tt
directives_scalar (Bytes bs ∷ ps) = directives_scalar ps
directives_scalar (Number k ∷ ps) = (record { scalar = IntegerType k; is = refl }, directives_scalar ps)
directives_scalar (Character ∷ ps) = (record { scalar = IntegerType _; is = refl }, directives_scalar ps)
directives_scalar (String ∷ ps) = (record { scalar = PointerType; is = refl }, directives_scalar ps)

pub format_scalar : (ps : List Piece) → AreScalar (Ptr (Int I8) ∷ types_of ps)
format_scalar ps = (record { scalar = PointerType; is = refl }, directives_scalar ps)

-- the text among them is bytes
abbrev pub AreOfBytes : List Piece → Type 0
AreOfBytes [] = Unit {0}
AreOfBytes (Bytes bs ∷ ps) = AllByRecursion (λ b. b < 256) bs × AreOfBytes ps
AreOfBytes (Number k ∷ ps) = AreOfBytes ps
AreOfBytes (Character ∷ ps) = AreOfBytes ps
AreOfBytes (String ∷ ps) = AreOfBytes ps

abbrev WhereAny : Option (List Piece) → Type 0
WhereAny None = Unit {0}
WhereAny (Some ps) = AreOfBytes ps

with_byte_of_bytes : (b : ℕ) → b < 256 → (ps : List Piece) → AreOfBytes ps → AreOfBytes (with_byte b ps)
with_byte_of_bytes b lt [] h = ((lt, tt), tt)
with_byte_of_bytes b lt (Bytes bs ∷ ps) h = ((lt, h.0), h.1)
with_byte_of_bytes b lt (Number k ∷ ps) h = ((lt, tt), h)
with_byte_of_bytes b lt (Character ∷ ps) h = ((lt, tt), h)
with_byte_of_bytes b lt (String ∷ ps) h = ((lt, tt), h)

mapped : (f : List Piece → List Piece) → ((ps : List Piece) → AreOfBytes ps → AreOfBytes (f ps)) → (o : Option (List Piece)) → WhereAny o → WhereAny (option_map f o)
mapped f keeps None h = tt
mapped f keeps (Some ps) h = keeps ps h

either : (b : Bool) (x y : Option (List Piece)) → WhereAny x → WhereAny y → WhereAny (if b then x else y)
either true x y h k = h
either false x y h k = k

mutual
  pieces_are_of_bytes : (bytes : List ℕ) → AreBytes bytes → WhereAny (pieces_of bytes)
  pieces_are_of_bytes [] h = tt
  pieces_are_of_bytes (b ∷ rest) h =
      let more = pieces_are_of_bytes rest h.1 in
      either (nat_eq b 0) (Some []) _ tt
      (either (nat_eq b 37) (directive rest) _ (directive_is_of_bytes rest h.1) (mapped (with_byte b) (with_byte_of_bytes b h.0) (pieces_of rest) more))

  directive_is_of_bytes : (bytes : List ℕ) → AreBytes bytes → WhereAny (directive bytes)
  directive_is_of_bytes [] h = tt
  directive_is_of_bytes (b ∷ rest) h =
      let more = pieces_are_of_bytes rest h.1 in
      either (nat_eq b 37) _ _ (mapped (with_byte 37) (with_byte_of_bytes 37 (omega arith)) (pieces_of rest) more)
      (either (nat_eq b 100) _ _ (mapped (λ ps. Number I32 ∷ ps) (λ ps k. k) (pieces_of rest) more)
      (either (nat_eq b 117) _ _ (mapped (λ ps. Number U32 ∷ ps) (λ ps k. k) (pieces_of rest) more)
      (either (nat_eq b 99) _ _ (mapped (λ ps. Character ∷ ps) (λ ps k. k) (pieces_of rest) more)
      (either (nat_eq b 115) _ _ (mapped (λ ps. String ∷ ps) (λ ps k. k) (pieces_of rest) more)
      (either (nat_eq b 108) _ _ (long_directive_is_of_bytes rest h.1) tt)))))

  long_directive_is_of_bytes : (bytes : List ℕ) → AreBytes bytes → WhereAny (long_directive bytes)
  long_directive_is_of_bytes [] h = tt
  long_directive_is_of_bytes (b ∷ rest) h =
      let more = pieces_are_of_bytes rest h.1 in
      either (nat_eq b 100) _ _ (mapped (λ ps. Number I64 ∷ ps) (λ ps k. k) (pieces_of rest) more)
      (either (nat_eq b 117) _ _ (mapped (λ ps. Number U64 ∷ ps) (λ ps k. k) (pieces_of rest) more) tt)

text_is_bytes : (texts : List StringLiteral) → TextsAreBytes texts → (n : ℕ) (l : StringLiteral) → slice_get texts n ≡ Some l → AreBytes l.bytes
text_is_bytes [] h n l e = absurd cc
text_is_bytes (x ∷ xs) h zero l e = let same : x ≡ l = cc in subst (λ (y : StringLiteral). AreBytes y.bytes) same h.0
text_is_bytes (x ∷ xs) h (suc n) l e = text_is_bytes xs h.1 n l e

module _ (p : TranslationUnit) (es : Expressions) (params : List PlainType) (f : HasFormat p.texts es params) where
  pub format_of_bytes : TextsAreBytes p.texts → AreOfBytes f.pieces
  format_of_bytes texts = subst WhereAny f.said (pieces_are_of_bytes f.literal.bytes (text_is_bytes p.texts texts f.number f.literal f.there))

  -- they are those that are printed
  pub format_pieces_are : format_pieces p es ≡ f.pieces
  format_pieces_are =
      ap (λ o. elim o as (λ o. List Piece) [ None ↦ [] | Some n ↦ literal_pieces (slice_get p.texts n) ]) f.first
      ∙ ap literal_pieces f.there ∙ ap pieces_or_none f.said
