-- The names of a monitored text.
use Rattle.std.proofs.Common.{◌≡◌, ℕ, zero, suc, ◌+◌, Bool, true, false, cond, not, ◌&&◌, ◌||◌, eqb, List, [], ◌∷◌, ◌++◌, slice_get, Some, Result, Ok, refl, sym, ap, subst, ◌∙◌, arith, eq-eqb, true≢false}
use Rattle.std.specs.Prelude.{bytes_eq}
use Rattle.std.specs.List.{list_any}
use Rattle.std.proofs.lemmas.Bool.{eqb-true}
use Rattle.c_syntax.specs.declared.place.Place.{Place}
use Rattle.c_syntax.specs.Tokens.{PlainTokens}
use Rattle.c_syntax.specs.Programs.{PlainRefusal}
use Rattle.c_model.specs.declared.monitored_tokens.Piece.{Piece}
use Rattle.c_model.specs.declared.monitored_tokens.Piece.TheVariants as piece
use Rattle.c_model.specs.Names.{with_name, name_number}
use Rattle.c_model.specs.MonitoredTokens.{Pieces, Ended, Broken, Cut, Read, add, whole, build, nothing_read, pieces_of, monitored_tokens}
use Rattle.c_model.specs.MonitoredTokenLaws.{word_then, words_of, with_names, AreDistinct}

same_bytes : (a b : List ℕ) → bytes_eq a b ≡ true → a ≡ b
same_bytes [] [] e = refl
same_bytes [] (y ∷ ys) e = absurd cc
same_bytes (x ∷ xs) [] e = absurd cc
same_bytes (x ∷ xs) (y ∷ ys) e = by (eqb x y) refl (same_bytes xs ys) e
  where
    by : (t : Bool) → eqb x y ≡ t → (bytes_eq xs ys ≡ true → xs ≡ ys) → t && bytes_eq xs ys ≡ true → x ∷ xs ≡ y ∷ ys
    by true f rest g = (λ i. eqb-true x y f i ∷ rest g i)
    by false f rest g = absurd cc

is_same : (a : List ℕ) → bytes_eq a a ≡ true
is_same [] = refl
is_same (x ∷ xs) = rw (eq-eqb x x refl) (is_same xs)

-- two that differ do so the other way round
differ : (a b : List ℕ) → bytes_eq a b ≡ false → bytes_eq b a ≡ false
differ a b e = by (bytes_eq b a) refl
  where
    by : (t : Bool) → bytes_eq b a ≡ t → t ≡ false
    by true f = absurd (true≢false (sym (is_same a) ∙ ap (bytes_eq a) (sym (same_bytes b a f)) ∙ e))
    by false f = refl

or_false : (a b : Bool) → a || b ≡ false → (a ≡ false) × (b ≡ false)
or_false true b e = absurd cc
or_false false b e = (refl, e)

any_push : (x : List ℕ) (ws : List (List ℕ)) (w : List ℕ) → list_any (bytes_eq x) ws ≡ false → bytes_eq x w ≡ false → list_any (bytes_eq x) (ws ++ w ∷ []) ≡ false
any_push x [] w h e = rw e refl
any_push x (v ∷ ws) w h e =
    let o = or_false (bytes_eq x v) (list_any (bytes_eq x) ws) h in
    rw (o.0) (any_push x ws w o.1 e)

push_distinct : (ws : List (List ℕ)) (w : List ℕ) → AreDistinct ws → list_any (bytes_eq w) ws ≡ false → AreDistinct (ws ++ w ∷ [])
push_distinct [] w d h = (refl, tt)
push_distinct (v ∷ ws) w d h =
    let o = or_false (bytes_eq w v) (list_any (bytes_eq w) ws) h in
    (any_push v ws w d.0 (differ w v o.0), push_distinct ws w d.1 o.1)

pub with_name_distinct : (ws : List (List ℕ)) (w : List ℕ) → AreDistinct ws → AreDistinct (with_name ws w)
with_name_distinct ws w d = by (list_any (bytes_eq w) ws) refl
  where
    by : (t : Bool) → list_any (bytes_eq w) ws ≡ t → AreDistinct (cond t ws (ws ++ w ∷ []))
    by true e = d
    by false e = push_distinct ws w d e

pub with_names_distinct : (ws vs : List (List ℕ)) → AreDistinct ws → AreDistinct (with_names ws vs)
with_names_distinct ws [] d = d
with_names_distinct ws (v ∷ vs) d = with_names_distinct (with_name ws v) vs (with_name_distinct ws v d)

add_names : (r : Read) (at : Place) (p : Piece) (bytes : List ℕ) (ws : List (List ℕ)) → with_names (add r at p bytes).names ws ≡ with_names r.names (word_then p bytes ws)
unfolding add
add_names r at piece.Blank bytes ws = refl
add_names r at piece.Word bytes ws = refl
add_names r at (piece.Number v) bytes ws = refl
add_names r at piece.Chars bytes ws = refl
add_names r at (piece.Mark m) bytes ws = refl
add_names r at piece.Head bytes ws = refl

same_tokens : (x y : PlainTokens) → (let r : Result PlainTokens PlainRefusal = Ok x in r) ≡ Ok y → x ≡ y
same_tokens x y e = cc

build_names : (r : Read) (ps : Pieces) (tokens : PlainTokens) → build r ps ≡ Ok tokens → tokens.names ≡ with_names r.names (words_of ps)
unfolding build
build_names r (Ended at) tokens e = ap (λ (x : PlainTokens). x.names) (sym (same_tokens (whole r at) tokens e))
build_names r (Broken at f rest) tokens e = absurd cc
build_names r (Cut at p bytes more) tokens e = build_names (add r at p bytes) more tokens e ∙ add_names r at p bytes (words_of more)

pub names_in_order : (text : List ℕ) (tokens : PlainTokens) → monitored_tokens text ≡ Ok tokens → tokens.names ≡ with_names [] (words_of (pieces_of text))
unfolding monitored_tokens
names_in_order text tokens e = build_names nothing_read (pieces_of text) tokens e

pub names_distinct : (text : List ℕ) (tokens : PlainTokens) → monitored_tokens text ≡ Ok tokens → AreDistinct tokens.names
names_distinct text tokens e = subst AreDistinct (sym (names_in_order text tokens e)) (with_names_distinct [] (words_of (pieces_of text)) tt)

-- ---- numbers of names

in_front : (xs ys : List (List ℕ)) (n : ℕ) (w : List ℕ) → slice_get xs n ≡ Some w → slice_get (xs ++ ys) n ≡ Some w
in_front [] ys n w e = absurd cc
in_front (x ∷ xs) ys zero w e = e
in_front (x ∷ xs) ys (suc n) w e = in_front xs ys n w e

stays : (names : List (List ℕ)) (v : List ℕ) (n : ℕ) (w : List ℕ) → slice_get names n ≡ Some w → slice_get (with_name names v) n ≡ Some w
stays names v n w e = by (list_any (bytes_eq v) names)
  where
    by : (t : Bool) → slice_get (cond t names (names ++ v ∷ [])) n ≡ Some w
    by true = e
    by false = in_front names (v ∷ []) n w e

all_stay : (names vs : List (List ℕ)) (n : ℕ) (w : List ℕ) → slice_get names n ≡ Some w → slice_get (with_names names vs) n ≡ Some w
all_stay names [] n w e = e
all_stay names (v ∷ vs) n w e = all_stay (with_name names v) vs n w (stays names v n w e)

at_number : (names : List (List ℕ)) (w : List ℕ) → slice_get (with_name names w) (name_number names w) ≡ Some w
at_number [] w = refl
at_number (v ∷ vs) w = by (bytes_eq w v) refl (at_number vs w)
  where
    behind : (t : Bool) → cond t (v ∷ vs) ((v ∷ vs) ++ w ∷ []) ≡ v ∷ cond t vs (vs ++ w ∷ [])
    behind true = refl
    behind false = refl

    by : (t : Bool) → bytes_eq w v ≡ t → slice_get (with_name vs w) (name_number vs w) ≡ Some w
        → slice_get (cond (t || list_any (bytes_eq w) vs) (v ∷ vs) ((v ∷ vs) ++ w ∷ [])) (cond (not t) (1 + name_number vs w) 0) ≡ Some w
    by true e rest = ap Some (sym (same_bytes w v e))
    by false e rest =
        let next : 1 + name_number vs w ≡ suc (name_number vs w) = omega arith in
        ap (λ (xs : List (List ℕ)). slice_get xs (1 + name_number vs w)) (behind (list_any (bytes_eq w) vs)) ∙ ap (slice_get (v ∷ with_name vs w)) next ∙ rest

-- the number that a word is given is its place among the names, whatever names come later
pub number_points : (names : List (List ℕ)) (w : List ℕ) (later : List (List ℕ)) → slice_get (with_names (with_name names w) later) (name_number names w) ≡ Some w
number_points names w later = all_stay (with_name names w) later (name_number names w) w (at_number names w)
