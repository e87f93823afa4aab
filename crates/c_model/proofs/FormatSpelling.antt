-- The pieces of a format say all of it.
use Rattle.std.proofs.Common.{◌≡◌, ℕ, Bool, true, false, if◌then◌else◌, nat_eq, List, [], ◌∷◌, ◌++◌, Option, Some, None, option_map, refl, sym, ap, ◌∙◌, arith}
use Rattle.std.proofs.lemmas.Bool.Decides.{nat_tests}
use Rattle.c_syntax.specs.declared.types.CInt.TheVariants.{I32, U32, I64, U64}
use Rattle.c_model.specs.Formats.{Piece, Bytes, Number, Character, String, with_byte, pieces_of, directive, long_directive}
use Rattle.c_model.specs.PrintingLaws.{up_to_zero, doubled, spelling, FormatsAreSpelled}

mapped : {A B : Type 0} (f : A → B) (o : Option A) (y : B) → option_map f o ≡ Some y → (x : A) × (o ≡ Some x) × (y ≡ f x)
mapped f None y e = absurd cc
mapped f (Some x) y e = let same : f x ≡ y = cc in (x, refl, sym same)

-- one byte more of text
with_byte_spells : (b : ℕ) (ps : List Piece) → spelling (with_byte b ps) ≡ (if nat_eq b 37 then 37 ∷ 37 ∷ spelling ps else b ∷ spelling ps)
with_byte_spells b = by
  where
    one : (t : Bool) (xs ys : List ℕ) → (if t then 37 ∷ 37 ∷ xs else b ∷ xs) ++ ys ≡ (if t then 37 ∷ 37 ∷ (xs ++ ys) else b ∷ (xs ++ ys))
    one true xs ys = refl
    one false xs ys = refl

    by : (ps : List Piece) → spelling (with_byte b ps) ≡ (if nat_eq b 37 then 37 ∷ 37 ∷ spelling ps else b ∷ spelling ps)
    by [] = one (nat_eq b 37) [] []
    by (Bytes bs ∷ ps) = one (nat_eq b 37) (doubled bs) (spelling ps)
    by (Number k ∷ ps) = one (nat_eq b 37) [] (spelling (Number k ∷ ps))
    by (Character ∷ ps) = one (nat_eq b 37) [] (spelling (Character ∷ ps))
    by (String ∷ ps) = one (nat_eq b 37) [] (spelling (String ∷ ps))

abbrev Spells : List ℕ → Type 0
Spells bs = (ps : List Piece) → pieces_of bs ≡ Some ps → spelling ps ≡ up_to_zero bs

-- behind `%`, and behind `%l`
abbrev Directs : List ℕ → Type 0
Directs bs = (ps : List Piece) → directive bs ≡ Some ps → spelling ps ≡ 37 ∷ up_to_zero bs

abbrev Lengthens : List ℕ → Type 0
Lengthens bs = (ps : List Piece) → long_directive bs ≡ Some ps → spelling ps ≡ 37 ∷ 108 ∷ up_to_zero bs

first : (b : ℕ) (rest : List ℕ) (ps : List Piece) → Spells rest → Directs rest → (t : Bool) → (u : Bool) → nat_eq b 37 ≡ u
    → (if t then Some [] else (if u then directive rest else option_map (with_byte b) (pieces_of rest))) ≡ Some ps → spelling ps ≡ (if t then [] else b ∷ up_to_zero rest)
first b rest ps h d true u f g = let same : [] ≡ ps = cc in ap spelling (sym same)
first b rest ps h d false true f g = let is : 37 ≡ b = grind (arith, nat_tests, f) in d ps g ∙ ap (λ x. x ∷ up_to_zero rest) is
first b rest ps h d false false f g =
    let m = mapped (with_byte b) (pieces_of rest) ps g in
    ap spelling m.2 ∙ with_byte_spells b m.0 ∙ ap (λ t. if t then 37 ∷ 37 ∷ spelling m.0 else b ∷ spelling m.0) f ∙ ap (λ xs. b ∷ xs) (h m.0 m.1)

-- pieces that the byte n makes of those behind it
made : (front : List ℕ) (b n : ℕ) (make : List Piece → List Piece) (rest : List ℕ) (ps : List Piece) → Spells rest → ((qs : List Piece) → spelling (make qs) ≡ front ++ n ∷ spelling qs) → nat_eq n 0 ≡ false
    → nat_eq b n ≡ true → option_map make (pieces_of rest) ≡ Some ps → spelling ps ≡ front ++ up_to_zero (b ∷ rest)
made front b n make rest ps h says some e g =
    let is : n ≡ b = grind (arith, nat_tests, e) in
    let m = mapped make (pieces_of rest) ps g in
    ap spelling m.2 ∙ says m.0 ∙ ap (λ xs. front ++ n ∷ xs) (h m.0 m.1) ∙ ap (λ t. front ++ (if t then [] else n ∷ up_to_zero rest)) (sym some) ∙ ap (λ x. front ++ up_to_zero (x ∷ rest)) is

second : (b : ℕ) (rest : List ℕ) (ps : List Piece) → Spells rest → Lengthens rest → (t : Bool) → nat_eq b 37 ≡ t → (u : Bool) → nat_eq b 100 ≡ u → (v : Bool) → nat_eq b 117 ≡ v → (w : Bool) → nat_eq b 99 ≡ w
    → (x : Bool) → nat_eq b 115 ≡ x → (y : Bool) → nat_eq b 108 ≡ y → (if t then option_map (with_byte 37) (pieces_of rest) else (if u then option_map (λ ps. Number I32 ∷ ps) (pieces_of rest)
    else (if v then option_map (λ ps. Number U32 ∷ ps) (pieces_of rest) else (if w then option_map (λ ps. Character ∷ ps) (pieces_of rest) else (if x then option_map (λ ps. String ∷ ps) (pieces_of rest)
    else (if y then long_directive rest else None)))))) ≡ Some ps → spelling ps ≡ 37 ∷ up_to_zero (b ∷ rest)
second b rest ps h l true e u f v g w i x j y k z = made (37 ∷ []) b 37 (with_byte 37) rest ps h (with_byte_spells 37) refl e z
second b rest ps h l false e true f v g w i x j y k z = made (37 ∷ []) b 100 (λ ps. Number I32 ∷ ps) rest ps h (λ qs. refl) refl f z
second b rest ps h l false e false f true g w i x j y k z = made (37 ∷ []) b 117 (λ ps. Number U32 ∷ ps) rest ps h (λ qs. refl) refl g z
second b rest ps h l false e false f false g true i x j y k z = made (37 ∷ []) b 99 (λ ps. Character ∷ ps) rest ps h (λ qs. refl) refl i z
second b rest ps h l false e false f false g false i true j y k z = made (37 ∷ []) b 115 (λ ps. String ∷ ps) rest ps h (λ qs. refl) refl j z
second b rest ps h l false e false f false g false i false j true k z =
    let is : 108 ≡ b = grind (arith, nat_tests, k) in l ps z ∙ ap (λ x. 37 ∷ up_to_zero (x ∷ rest)) is
second b rest ps h l false e false f false g false i false j false k z = absurd cc

third : (b : ℕ) (rest : List ℕ) (ps : List Piece) → Spells rest → (t : Bool) → nat_eq b 100 ≡ t → (u : Bool) → nat_eq b 117 ≡ u
    → (if t then option_map (λ ps. Number I64 ∷ ps) (pieces_of rest) else (if u then option_map (λ ps. Number U64 ∷ ps) (pieces_of rest) else None)) ≡ Some ps → spelling ps ≡ 37 ∷ 108 ∷ up_to_zero (b ∷ rest)
third b rest ps h true e u f z = made (37 ∷ 108 ∷ []) b 100 (λ ps. Number I64 ∷ ps) rest ps h (λ qs. refl) refl e z
third b rest ps h false e true f z = made (37 ∷ 108 ∷ []) b 117 (λ ps. Number U64 ∷ ps) rest ps h (λ qs. refl) refl f z
third b rest ps h false e false f z = absurd cc

mutual
  spells : (bs : List ℕ) → Spells bs
  spells [] ps e = let same : [] ≡ ps = cc in ap spelling (sym same)
  spells (b ∷ rest) ps e = first b rest ps (spells rest) (directs rest) (nat_eq b 0) (nat_eq b 37) refl e

  directs : (bs : List ℕ) → Directs bs
  directs [] ps e = absurd cc
  directs (b ∷ rest) ps e =
      second b rest ps (spells rest) (lengthens rest) (nat_eq b 37) refl (nat_eq b 100) refl (nat_eq b 117) refl (nat_eq b 99) refl (nat_eq b 115) refl (nat_eq b 108) refl e

  lengthens : (bs : List ℕ) → Lengthens bs
  lengthens [] ps e = absurd cc
  lengthens (b ∷ rest) ps e = third b rest ps (spells rest) (nat_eq b 100) refl (nat_eq b 117) refl e

pub formats_are_spelled : FormatsAreSpelled
formats_are_spelled format pieces e = spells format pieces e
