-- Sizes that are taken from structs and given back.
use Rattle.std.proofs.Common.{◌≡◌, ℕ, sym, ap, ◌∙◌, refl, List, [], ◌∷◌, ◌++◌, map, Bool, true, false, cond, nat_lt, append_assoc, Result, Ok, Err}
use Rattle.std.specs.Prelude.{OnOk}
use Rattle.std.proofs.lemmas.List.{map-append}
use Rattle.c_syntax.specs.declared.place.Place.{Place}
use Rattle.c_syntax.specs.declared.program.Layout.{Layout}
use Rattle.c_syntax.specs.Programs.{StructType, plain_layout}
use Rattle.c_model.specs.AnnotationTyping.{known_before}
use Rattle.c_typing.specs.KnownStructs.{sizes_of, with_sizes}

-- ---- one more struct

pub hidden_more : (at : Place) (xs xs' ys ys' : List Layout) (x y : Layout) → xs' ≡ xs ++ x ∷ [] → ys' ≡ ys ++ y ∷ [] → map plain_layout ys ≡ map (known_before at) (map plain_layout xs)
    → plain_layout y ≡ known_before at (plain_layout x) → map plain_layout ys' ≡ map (known_before at) (map plain_layout xs')
hidden_more at xs xs' ys ys' x y ex ey before is =
    ap (map plain_layout) ey ∙ map-append plain_layout ys (y ∷ []) ∙ (λ i. before i ++ is i ∷ [])
    ∙ sym (ap (λ l. map (known_before at) (map plain_layout l)) ex ∙ ap (map (known_before at)) (map-append plain_layout xs (x ∷ [])) ∙ map-append (known_before at) (map plain_layout xs) (plain_layout x ∷ []))

pub sizes_more : (xs xs' : List Layout) (x : Layout) (ns : List ℕ) → xs' ≡ xs ++ x ∷ [] → ns ≡ sizes_of xs → ns ++ x.size ∷ [] ≡ sizes_of xs'
sizes_more xs xs' x ns ex before = ap (λ l. l ++ x.size ∷ []) before ∙ sym (ap sizes_of ex ∙ map-append (λ (l : Layout). l.size) xs (x ∷ []))

pub shown_more : (ys ys' : List Layout) (ns ms : List ℕ) (left behind : List Layout) (x y : Layout) (whole : List StructType) → ys' ≡ ys ++ y ∷ [] → left ≡ x ∷ behind
    → ((ss : List StructType) → with_sizes ns (plain_layout x ∷ ss) ≡ plain_layout y ∷ with_sizes ms ss) → map plain_layout ys ++ with_sizes ns (map plain_layout left) ≡ whole
    → map plain_layout ys' ++ with_sizes ms (map plain_layout behind) ≡ whole
shown_more ys ys' ns ms left behind x y whole ey el one before =
    ap (λ l. map plain_layout l ++ with_sizes ms (map plain_layout behind)) ey
    ∙ ap (λ l. l ++ with_sizes ms (map plain_layout behind)) (map-append plain_layout ys (y ∷ []))
    ∙ append_assoc (map plain_layout ys) (plain_layout y ∷ []) (with_sizes ms (map plain_layout behind))
    ∙ ap (λ l. map plain_layout ys ++ l) (sym (one (map plain_layout behind)))
    ∙ ap (λ l. map plain_layout ys ++ with_sizes ns (map plain_layout l)) (sym el)
    ∙ before

pub no_more : (ns : List ℕ) → with_sizes ns [] ≡ []
no_more [] = refl
no_more (n ∷ ns) = refl

-- ---- all of them

shown_one : (at : Place) (l : Layout) → record (known_before at (plain_layout l)) { size = l.size } ≡ plain_layout l
shown_one at l = by (nat_lt l.place.offset at.offset)
  where
    by : (b : Bool) → record (cond b (plain_layout l) (record (plain_layout l) { size = 0 })) { size = l.size } ≡ plain_layout l
    by true = refl
    by false = refl

-- structs from which sizes were taken and to which they were given back
pub shown_again : (at : Place) (ls : List Layout) → with_sizes (sizes_of ls) (map (known_before at) (map plain_layout ls)) ≡ map plain_layout ls
shown_again at [] = refl
shown_again at (l ∷ ls) = (λ i. shown_one at l i ∷ shown_again at ls i)

pub on_ok : {A B : Type 0} (P Q : Type 0) → (P → Q) → (r : Result A B) → OnOk r P → OnOk r Q
on_ok P Q f (Ok a) h = f h
on_ok P Q f (Err e) h = tt
