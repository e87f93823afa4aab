-- An operator of a C text is the longest that begins there.
use Rattle.std.proofs.Common.{◌≡◌, ℕ, zero, suc, ◌+◌, ◌-◌, ◌<◌, ◌≤◌, true, false, ◌&&◌, ltb, List, [], ◌∷◌, ◌++◌, length, slice_get, Option, Some, None, Result, Ok, Err, ◌⊎◌, inl, inr, refl, sym, ap, subst, ◌∙◌, arith, true≢false}
use Rattle.std.proofs.lemmas.Bool.{ltb-true}
use Rattle.c_model.specs.declared.c_tokens.Mode.{Mode}
use Rattle.c_model.specs.declared.c_tokens.Mode.TheVariants.{Code, Block, Line}
use Rattle.c_model.specs.declared.c_tokens.Piece.TheVariants as piece
use Rattle.c_model.specs.declared.c_tokens.Found.{Found}
use Rattle.c_model.specs.declared.c_tokens.Fault.{Fault}
use Rattle.c_model.specs.declared.c_tokens.Fault.TheVariants as fault
use Rattle.c_model.specs.Characters.{begins_with}
use Rattle.c_model.specs.MonitoredTokens.{marks}
use Rattle.c_model.specs.MonitoredTokenLaws.{IsIn}
use Rattle.c_model.specs.Pieces.{annotation_marks, first_mark, c_mark_at, mark_at}
use Rattle.c_model.specs.CTokenLaws.{marks_of}
use Rattle.c_model.proofs.Spelling.{chosen, and_true, both_begin, none_begun, longest_first, later}

-- the mark that is found, at a place of the list
pub record Marked (i : ℕ) (ms : List (List ℕ)) (bs : List ℕ) (x : Found) : Type 0 where
  pub place : ℕ
  pub mark : List ℕ
  pub is : x ≡ record { piece = piece.Mark (place + i); more = length mark - 1 }
  pub at : slice_get ms place ≡ Some mark
  pub begins : begins_with mark bs ≡ true
  pub some : 0 < length mark
  pub longest : (q : List ℕ) → IsIn ms q → begins_with q bs ≡ true → length q ≤ length mark

same_found : (x y : Found) → (let o : Option Found = Some x in o) ≡ Some y → x ≡ y
same_found x y e = cc

marked : (i : ℕ) (ms : List (List ℕ)) (bs : List ℕ) (x : Found) → longest_first ms ≡ true → first_mark i ms bs ≡ Some x → Marked i ms bs x
unfolding longest_first
marked i [] bs x first e = absurd cc
marked i (m ∷ ms) bs x first e =
    let made : Found = record { piece = piece.Mark i; more = length m - 1 } in
    let a = and_true (ltb 0 (length m)) (none_begun m ms && longest_first ms) first in
    let b = and_true (none_begun m ms) (longest_first ms) a.1 in
    elim (chosen (begins_with m bs) (Some made) (first_mark (i + 1) ms bs) (Some x) e) [
      | inl h ↦
          let zeroed : i ≡ 0 + i = omega arith in
          record {
            place = 0;
            mark = m;
            is = sym (same_found made x h.1) ∙ ap (λ (k : ℕ). record { piece = piece.Mark k; more = length m - 1 }) zeroed;
            at = refl;
            begins = h.0;
            some = ltb-true 0 (length m) a.0;
            longest = λ q there g. elim there [ inl s ↦ omega (arith, ap length s) | inr t ↦ both_begin m q bs h.0 g (later m ms q b.0 t) ];
          }
      | inr h ↦
          let rest = marked (i + 1) ms bs x b.1 h.1 in
          let moved : rest.place + (i + 1) ≡ suc rest.place + i = omega arith in
          record {
            place = suc rest.place;
            mark = rest.mark;
            is = rest.is ∙ ap (λ (k : ℕ). record { piece = piece.Mark k; more = length rest.mark - 1 }) moved;
            at = rest.at;
            begins = rest.begins;
            some = rest.some;
            longest = λ q there g. elim there [ inl s ↦ absurd (true≢false (sym g ∙ sym (ap (λ (t : List ℕ). begins_with t bs) s) ∙ h.0)) | inr t ↦ rest.longest q t g ];
          }
    ]

pub none_begins : (i : ℕ) (ms : List (List ℕ)) (bs : List ℕ) → first_mark i ms bs ≡ None → (q : List ℕ) → IsIn ms q → begins_with q bs ≡ false
none_begins i [] bs e q there = elim there [ ]
none_begins i (o ∷ os) bs e q there = elim (chosen (begins_with o bs) _ (first_mark (i + 1) os bs) None e) [
  | inl h ↦ absurd (let k = h.1 in cc)
  | inr h ↦ elim there [ inl s ↦ sym (ap (λ (t : List ℕ). begins_with t bs) s) ∙ h.0 | inr t ↦ none_begins (i + 1) os bs h.1 q t ]
]

-- the mark at the front, at its place among those of the mode
pub record MarkedIn (m : Mode) (bs : List ℕ) (x : Found) : Type 0 where
  pub place : ℕ
  pub mark : List ℕ
  pub is : x ≡ record { piece = piece.Mark place; more = length mark - 1 }
  pub at : slice_get (marks_of m) place ≡ Some mark
  pub begins : begins_with mark bs ≡ true
  pub some : 0 < length mark
  pub longest : (q : List ℕ) → IsIn (marks_of m) q → begins_with q bs ≡ true → length q ≤ length mark

unfoldable pub of_mark : Option Found → Result Found Fault
of_mark r = elim r [ None ↦ Err fault.Byte | Some x ↦ Ok x ]

found_in : (x : Found) (r : Option Found) → of_mark r ≡ Ok x → r ≡ Some x
unfolding of_mark
found_in x None e = absurd cc
found_in x (Some y) e = cc

marks_first : longest_first marks ≡ true
unfolding longest_first none_begun marks
marks_first = refl

annotation_marks_first : longest_first annotation_marks ≡ true
unfolding longest_first none_begun annotation_marks
annotation_marks_first = refl

c_found : (bs : List ℕ) (x : Found) → c_mark_at bs ≡ Ok x → first_mark 0 marks bs ≡ Some x
unfolding c_mark_at of_mark
c_found bs x e = found_in x (first_mark 0 marks bs) e

get_front : (xs ys : List (List ℕ)) (n : ℕ) (w : List ℕ) → slice_get xs n ≡ Some w → slice_get (xs ++ ys) n ≡ Some w
get_front [] ys n w e = absurd cc
get_front (x ∷ xs) ys zero w e = e
get_front (x ∷ xs) ys (suc n) w e = get_front xs ys n w e

get_behind : (xs ys : List (List ℕ)) (n : ℕ) → slice_get (xs ++ ys) (length xs + n) ≡ slice_get ys n
get_behind [] ys n = ap (slice_get ys) (let e : 0 + n ≡ n = omega arith in e)
get_behind (x ∷ xs) ys n = ap (slice_get (x ∷ xs ++ ys)) (let e : suc (length xs) + n ≡ suc (length xs + n) = omega arith in e) ∙ get_behind xs ys n

pub in_either : (xs ys : List (List ℕ)) (q : List ℕ) → IsIn (xs ++ ys) q → IsIn xs q ⊎ IsIn ys q
in_either [] ys q h = inr h
in_either (x ∷ xs) ys q (inl e) = inl (inl e)
in_either (x ∷ xs) ys q (inr t) = elim (in_either xs ys q t) [ inl l ↦ inl (inr l) | inr r ↦ inr r ]

same_mark : (v w : List ℕ) → (let o : Option (List ℕ) = Some v in o) ≡ Some w → v ≡ w
same_mark v w e = cc

-- no operator of annotations begins one of C
none_of : (n : ℕ) (w : List ℕ) → slice_get annotation_marks n ≡ Some w → none_begun w marks ≡ true
unfolding annotation_marks marks none_begun
none_of zero w e = subst (λ (t : List ℕ). none_begun t marks ≡ true) (same_mark _ w e) refl
none_of (suc zero) w e = subst (λ (t : List ℕ). none_begun t marks ≡ true) (same_mark _ w e) refl
none_of (suc (suc zero)) w e = subst (λ (t : List ℕ). none_begun t marks ≡ true) (same_mark _ w e) refl
none_of (suc (suc (suc zero))) w e = subst (λ (t : List ℕ). none_begun t marks ≡ true) (same_mark _ w e) refl
none_of (suc (suc (suc (suc n)))) w e = absurd cc

many_marks : length marks ≡ 45
unfolding marks
many_marks = refl

-- the marks of an annotation
abbrev all_marks : List (List ℕ)
all_marks = marks ++ annotation_marks

record MarkedAmong (ms : List (List ℕ)) (bs : List ℕ) (x : Found) : Type 0 where
  place : ℕ
  mark : List ℕ
  is : x ≡ record { piece = piece.Mark place; more = length mark - 1 }
  at : slice_get ms place ≡ Some mark
  begins : begins_with mark bs ≡ true
  some : 0 < length mark
  longest : (q : List ℕ) → IsIn ms q → begins_with q bs ≡ true → length q ≤ length mark

c_marked : (bs : List ℕ) (x : Found) → c_mark_at bs ≡ Ok x → MarkedAmong marks bs x
c_marked bs x e =
    let h = marked 0 marks bs x marks_first (c_found bs x e) in
    let place : h.place + 0 ≡ h.place = omega arith in
    record { place = h.place; mark = h.mark; is = h.is ∙ ap (λ (k : ℕ). record { piece = piece.Mark k; more = length h.mark - 1 }) place; at = h.at; begins = h.begins; some = h.some; longest = h.longest }

own_marked : (bs : List ℕ) (x : Found) → first_mark 45 annotation_marks bs ≡ Some x → MarkedAmong all_marks bs x
own_marked bs x e =
    let h = marked 45 annotation_marks bs x annotation_marks_first e in
    let place : h.place + 45 ≡ length marks + h.place = omega (arith, many_marks) in
    record {
      place = length marks + h.place;
      mark = h.mark;
      is = h.is ∙ ap (λ (k : ℕ). record { piece = piece.Mark k; more = length h.mark - 1 }) place;
      at = get_behind marks annotation_marks h.place ∙ h.at;
      begins = h.begins;
      some = h.some;
      longest = λ q there g. elim (in_either marks annotation_marks q there) [
        | inl l ↦ both_begin h.mark q bs h.begins g (later h.mark marks q (none_of h.place h.mark h.at) l)
        | inr r ↦ h.longest q r g
      ];
    }

other_marked : (bs : List ℕ) (x : Found) → first_mark 45 annotation_marks bs ≡ None → c_mark_at bs ≡ Ok x → MarkedAmong all_marks bs x
other_marked bs x none e =
    let h = c_marked bs x e in
    record {
      place = h.place;
      mark = h.mark;
      is = h.is;
      at = get_front marks annotation_marks h.place h.mark h.at;
      begins = h.begins;
      some = h.some;
      longest = λ q there g. elim (in_either marks annotation_marks q there) [
        | inl l ↦ h.longest q l g
        | inr r ↦ absurd (true≢false (sym g ∙ none_begins 45 annotation_marks bs none q r))
      ];
    }

either_marked : (bs : List ℕ) (x : Found) (r : Option Found) → first_mark 45 annotation_marks bs ≡ r → (let o : Result Found Fault = elim r [ None ↦ c_mark_at bs | Some y ↦ Ok y ] in o) ≡ Ok x → MarkedAmong all_marks bs x
either_marked bs x None is e = other_marked bs x is e
either_marked bs x (Some y) is e = own_marked bs x (is ∙ (let f : Some y ≡ Some x = cc in f))

marked_in : (m : Mode) (bs : List ℕ) (x : Found) → MarkedAmong (marks_of m) bs x → MarkedIn m bs x
marked_in m bs x h = record { place = h.place; mark = h.mark; is = h.is; at = h.at; begins = h.begins; some = h.some; longest = h.longest }

pub mark_of : (m : Mode) (bs : List ℕ) (x : Found) → mark_at m bs ≡ Ok x → MarkedIn m bs x
unfolding mark_at
mark_of Code bs x e = marked_in Code bs x (c_marked bs x e)
mark_of Block bs x e = marked_in Block bs x (either_marked bs x (first_mark 45 annotation_marks bs) refl e)
mark_of Line bs x e = marked_in Line bs x (either_marked bs x (first_mark 45 annotation_marks bs) refl e)
