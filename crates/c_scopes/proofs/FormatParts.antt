-- Pieces are found from left to right.
use Rattle.std.proofs.Common.{◌≡◌, ℕ, List, [], ◌∷◌, ◌++◌, Option, Some, None, option_map, refl, sym, ap, ◌∙◌, append_assoc, arith, length, ◌<◌, Result, Ok, Err}
use Rattle.std.specs.Prelude.{OnOk}
use Rattle.c_syntax.specs.declared.types.CInt.{CInt}
use Rattle.c_model.specs.Formats.{Piece, Bytes, Number, Character, String, with_byte, pieces_of}
use Rattle.c_scopes.specs.Pieces.{with_directive, with_text, text_pieces, with_front, Puts}
use Rattle.c_scopes.specs.declared.format.Specifier.{Specifier}
use Rattle.c_scopes.specs.declared.format.Specifier.TheVariants as specifier

-- one byte more of text
text_more : (text : List ℕ) (b : ℕ) (ps : List Piece) → with_text text (with_byte b ps) ≡ with_text (text ++ b ∷ []) ps
text_more [] b ps = refl
text_more (c ∷ cs) b ps = ap (with_byte c) (text_more cs b ps)

pub plain_more : (front : List Piece) (text : List ℕ) (b : ℕ) (o : Option (List Piece)) → option_map (with_front front text) (option_map (with_byte b) o) ≡ option_map (with_front front (text ++ b ∷ [])) o
plain_more front text b None = refl
plain_more front text b (Some ps) = ap (λ qs. Some (front ++ qs)) (text_more text b ps)

-- no more text
pub text_alone : (text : List ℕ) → with_text text [] ≡ text_pieces text
text_alone [] = refl
text_alone (b ∷ bs) = ap (with_byte b) (text_alone bs) ∙ by bs
  where
    by : (bs : List ℕ) → with_byte b (text_pieces bs) ≡ Bytes (b ∷ bs) ∷ []
    by [] = refl
    by (c ∷ cs) = refl

-- what is no text
abbrev IsNoText : Piece → Type 0
IsNoText p = (b : ℕ) (ps : List Piece) → with_byte b (p ∷ ps) ≡ Bytes (b ∷ []) ∷ (p ∷ ps)

text_before : (p : Piece) → IsNoText p → (text : List ℕ) (ps : List Piece) → with_text text (p ∷ ps) ≡ text_pieces text ++ (p ∷ ps)
text_before p n [] ps = refl
text_before p n (b ∷ bs) ps = ap (with_byte b) (text_before p n bs ps) ∙ by bs
  where
    by : (bs : List ℕ) → with_byte b (text_pieces bs ++ (p ∷ ps)) ≡ Bytes (b ∷ bs) ∷ (p ∷ ps)
    by [] = n b ps
    by (c ∷ cs) = refl

piece_more : (front : List Piece) (text : List ℕ) (p : Piece) → IsNoText p → (o : Option (List Piece))
    → option_map (with_front front text) (option_map (λ ps. p ∷ ps) o) ≡ option_map (with_front ((front ++ text_pieces text) ++ p ∷ []) []) o
piece_more front text p n None = refl
piece_more front text p n (Some ps) =
    ap Some (ap (λ qs. front ++ qs) (text_before p n text ps) ∙ sym (append_assoc front (text_pieces text) (p ∷ ps)) ∙ sym (append_assoc (front ++ text_pieces text) (p ∷ []) ps))

pub puts_percent : (s : Specifier) (front : List Piece) (text rest : List ℕ) → s ≡ specifier.Percent → rest ≡ text ++ 37 ∷ [] → Puts s front text front rest
puts_percent s front text rest is e o =
    ap (λ x. option_map (with_front front text) (with_directive x o)) is ∙ plain_more front text 37 o ∙ ap (λ x. option_map (with_front front x) o) (sym e)

-- another specifier, which stands for a piece
puts_piece : (s d : Specifier) (p : Piece) → IsNoText p → ((o : Option (List Piece)) → with_directive d o ≡ option_map (λ ps. p ∷ ps) o) → (front more : List Piece) (text rest : List ℕ)
    → s ≡ d → more ≡ (front ++ text_pieces text) ++ p ∷ [] → rest ≡ [] → Puts s front text more rest
puts_piece s d p n makes front more text rest is e f o =
    ap (λ x. option_map (with_front front text) (with_directive x o)) is ∙ ap (option_map (with_front front text)) (makes o) ∙ piece_more front text p n o
    ∙ (λ i. option_map (with_front (sym e i) (sym f i)) o)

pub puts_number : (k : CInt) (s : Specifier) (front more : List Piece) (text rest : List ℕ) → s ≡ specifier.Number k → more ≡ (front ++ text_pieces text) ++ Number k ∷ [] → rest ≡ [] → Puts s front text more rest
puts_number k s front more text rest is e f = puts_piece s (specifier.Number k) (Number k) (λ b ps. refl) (λ o. refl) front more text rest is e f

pub puts_character : (s : Specifier) (front more : List Piece) (text rest : List ℕ) → s ≡ specifier.Character → more ≡ (front ++ text_pieces text) ++ Character ∷ [] → rest ≡ [] → Puts s front text more rest
puts_character s front more text rest is e f = puts_piece s specifier.Character Character (λ b ps. refl) (λ o. refl) front more text rest is e f

pub puts_string : (s : Specifier) (front more : List Piece) (text rest : List ℕ) → s ≡ specifier.String → more ≡ (front ++ text_pieces text) ++ String ∷ [] → rest ≡ [] → Puts s front text more rest
puts_string s front more text rest is e f = puts_piece s specifier.String String (λ b ps. refl) (λ o. refl) front more text rest is e f

-- what holds where a call went well
pub on_ok : {T E A B : Type 0} (r : Result T E) → OnOk r A → (A → B) → OnOk r B
on_ok (Ok x) h f = f h
on_ok (Err e) h f = tt

-- all is read
pub all_parts : (front more : List Piece) (text rest : List ℕ) (whole : Option (List Piece)) → length rest < 1 → more ≡ front ++ text_pieces text
    → option_map (with_front front text) (pieces_of rest) ≡ whole → Some more ≡ whole
all_parts front more text [] whole lt e h = ap Some (e ∙ ap (λ qs. front ++ qs) (sym (text_alone text))) ∙ h
all_parts front more text (x ∷ xs) whole lt e h = absurd (omega (arith, lt))

-- where nothing is read yet
pub from_nothing : (o : Option (List Piece)) → option_map (with_front [] []) o ≡ o
from_nothing None = refl
from_nothing (Some ps) = refl
