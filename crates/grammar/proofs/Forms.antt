-- What is read once, where alternatives begin alike: the same production in the form that the standard gives.
use Rattle.std.proofs.Common.{ℕ, zero, suc, Bool, List, ◌++◌, length, refl, sym, ap, ◌∙◌, inl, inr, append_assoc, arith}
use Rattle.grammar.specs.Syntax.{Syntax, gives, ◌then◌, choice, loop, many, knot_at, knot}
use Rattle.grammar.specs.Exact.{IsGood, Same}
use Rattle.grammar.proofs.Bounds.{limit_good}
use Rattle.grammar.proofs.Productions.{knot_grows}

-- U then (P then Q) is (U then P) then Q
module _ {T : Type 0} {A B C : Type 0} (U : Syntax T A) (P : A → Syntax T B) (Q : B → Syntax T C) where
  left_reads : (a : List T) (z : C) → (U then λ u. P u then Q).reads a z → ((U then P) then Q).reads a z
  left_reads a z (b, c, x, e, r, (d, f, y, e2, s, t)) = (b ++ d, f, y, e ∙ ap (λ (w : List T). b ++ w) e2 ∙ sym (append_assoc b d f), (b, d, x, refl, r, s), t)

  left_reads_back : (a : List T) (z : C) → ((U then P) then Q).reads a z → (U then λ u. P u then Q).reads a z
  left_reads_back a z (b, c, y, e, (d, f, x, e2, r, s), t) = (d, f ++ c, x, e ∙ ap (λ (w : List T). w ++ c) e2 ∙ append_assoc d f c, r, (f, c, y, refl, s, t))

  left_begun : (a : List T) → (U then λ u. P u then Q).begun a → ((U then P) then Q).begun a
  left_begun a (inl s) = inl (inl s)
  left_begun a (inr (b, c, x, e, r, inl s)) = inl (inr (b, c, x, e, r, s))
  left_begun a (inr (b, c, x, e, r, inr (d, f, y, e2, s, t))) = inr (b ++ d, f, y, e ∙ ap (λ (w : List T). b ++ w) e2 ∙ sym (append_assoc b d f), (b, d, x, refl, r, s), t)

  left_begun_back : (a : List T) → ((U then P) then Q).begun a → (U then λ u. P u then Q).begun a
  left_begun_back a (inl (inl s)) = inl s
  left_begun_back a (inl (inr (b, c, x, e, r, s))) = inr (b, c, x, e, r, inl s)
  left_begun_back a (inr (b, c, y, e, (d, f, x, e2, r, s), t)) = inr (d, f ++ c, x, e ∙ ap (λ (w : List T). w ++ c) e2 ∙ append_assoc d f c, r, inr (f, c, y, refl, s, t))

  left_late : (i : ℕ) (a : List T) (t : T) → (U then λ u. P u then Q).late i a t → ((U then P) then Q).late i a t
  left_late i a t (inl s) = inl (inl s)
  left_late i a t (inr (b, c, x, e, r, inl s)) = inl (inr (b, c, x, e, r, s))
  left_late i a t (inr (b, c, x, e, r, inr (d, f, y, e2, s, l))) = inr (b ++ d, f, y, e ∙ ap (λ (w : List T). b ++ w) e2 ∙ sym (append_assoc b d f), (b, d, x, refl, r, s), l)

  left_late_back : (i : ℕ) (a : List T) (t : T) → ((U then P) then Q).late i a t → (U then λ u. P u then Q).late i a t
  left_late_back i a t (inl (inl s)) = inl s
  left_late_back i a t (inl (inr (b, c, x, e, r, s))) = inr (b, c, x, e, r, inl s)
  left_late_back i a t (inr (b, c, y, e, (d, f, x, e2, r, s), l)) = inr (d, f ++ c, x, e ∙ ap (λ (w : List T). w ++ c) e2 ∙ append_assoc d f c, r, inr (f, c, y, refl, s, l))

  pub to_left : Same (U then λ u. P u then Q) ((U then P) then Q)
  to_left = record { reads = left_reads; reads_back = left_reads_back; begun = left_begun; begun_back = left_begun_back; late = left_late; late_back = left_late_back }

pub unchanged : {T A : Type 0} (G : Syntax T A) → Same G G
unchanged G = record { reads = λ a x r. r; reads_back = λ a x r. r; begun = λ a b. b; begun_back = λ a b. b; late = λ i a t l. l; late_back = λ i a t l. l }

pub joined : {T A : Type 0} {F G H : Syntax T A} → Same F G → Same G H → Same F H
joined s t = record {
  reads = λ a x r. t.reads a x (s.reads a x r);
  reads_back = λ a x r. s.reads_back a x (t.reads_back a x r);
  begun = λ a b. t.begun a (s.begun a b);
  begun_back = λ a b. s.begun_back a (t.begun_back a b);
  late =
      λ i a v l. t.late i a v (s.late i a v l);
  late_back = λ i a v l. s.late_back i a v (t.late_back i a v l);
}

-- ---- a repetition is no turn, or a turn and the repetition after it

module _ {T : Type 0} (K : T → ℕ) {A : Type 0} (ks : A → List ℕ) (step : A → Syntax T A) where
  abbrev turned : A → Syntax T A
  turned x = choice K (ks x) (step x then λ y. many K ks step y) (gives x)

  many_reads : (k : ℕ) (x : A) (a : List T) (z : A) → (loop K k ks step x).reads a z → (turned x).reads a z
  many_reads zero x a z (inl r) = absurd r
  many_reads zero x a z (inr r) = inr r
  many_reads (suc k) x a z (inl (b, c, y, e, r, s)) = inl (b, c, y, e, r, (k, s))
  many_reads (suc k) x a z (inr r) = inr r

  many_reads_back : (x : A) (a : List T) (z : A) → (turned x).reads a z → (many K ks step x).reads a z
  many_reads_back x a z (inl (b, c, y, e, r, (k, s))) = (suc k, inl (b, c, y, e, r, s))
  many_reads_back x a z (inr r) = (0, inr r)

  many_begun : (k : ℕ) (x : A) (a : List T) → (loop K k ks step x).begun a → (turned x).begun a
  many_begun zero x a (inl r) = inr r
  many_begun zero x a (inr r) = inr r
  many_begun (suc k) x a (inl (inl s)) = inl (inl s)
  many_begun (suc k) x a (inl (inr (b, c, y, e, r, s))) = inl (inr (b, c, y, e, r, (k, s)))
  many_begun (suc k) x a (inr r) = inr r

  many_begun_back : (x : A) (a : List T) → (turned x).begun a → (many K ks step x).begun a
  many_begun_back x a (inl (inl s)) = (1, inl (inl s))
  many_begun_back x a (inl (inr (b, c, y, e, r, (k, s)))) = (suc k, inl (inr (b, c, y, e, r, s)))
  many_begun_back x a (inr r) = (0, inr r)

  many_late : (k : ℕ) (x : A) (i : ℕ) (a : List T) (t : T) → (loop K k ks step x).late i a t → (turned x).late i a t
  many_late zero x i a t (inl r) = absurd r
  many_late zero x i a t (inr r) = absurd r
  many_late (suc k) x i a t (inl (inl s)) = inl (inl s)
  many_late (suc k) x i a t (inl (inr (b, c, y, e, r, s))) = inl (inr (b, c, y, e, r, (k, s)))
  many_late (suc k) x i a t (inr r) = absurd r

  many_late_back : (x : A) (i : ℕ) (a : List T) (t : T) → (turned x).late i a t → (many K ks step x).late i a t
  many_late_back x i a t (inl (inl s)) = (1, inl (inl s))
  many_late_back x i a t (inl (inr (b, c, y, e, r, (k, s)))) = (suc k, inl (inr (b, c, y, e, r, s)))
  many_late_back x i a t (inr r) = absurd r

  pub many_form : (x : A) → Same (many K ks step x) (choice K (ks x) (step x then λ y. many K ks step y) (gives x))
  many_form x = record {
    reads = λ a z r. many_reads r.0 x a z r.1;
    reads_back = many_reads_back x;
    begun = λ a r. many_begun r.0 x a r.1;
    begun_back = many_begun_back x;
    late = λ i a t r. many_late r.0 x i a t r.1;
    late_back = many_late_back x;
  }

-- ---- what stands in itself is the same as its production

module _ {T : Type 0} {K : T → ℕ} {S A : Type 0} (null : Bool) (first : List ℕ) (more : A → List ℕ) (F : (S → Syntax T A) → S → Syntax T A) (step : (k : ℕ) (U U' : S → Syntax T A) → ((s : S) → IsGood K k (U s) (U' s) null first more) → (s : S)
    → IsGood K (suc k) (F U s) (F U' s) null first more) where
  turn_good : (k : ℕ) (s : S) → IsGood K (suc k) (F (knot_at F k) s) (F (knot F) s) null first more
  turn_good k s = step k (knot_at F k) (knot F) (λ u. limit_good K (λ n. knot_at F n u) null first more (λ n. knot_grows null first more F step n u) k) s

  knot_reads : (k : ℕ) (s : S) (a : List T) (x : A) → (knot_at F k s).reads a x → (F (knot F) s).reads a x
  knot_reads zero s a x r = absurd r
  knot_reads (suc k) s a x r = (turn_good k s).reads a x r

  knot_begun : (k : ℕ) (s : S) (a : List T) → (knot_at F k s).begun a → (F (knot F) s).begun a
  knot_begun zero s a b = rw b (turn_good 0 s).there.empty
  knot_begun (suc k) s a b = (turn_good k s).begun a b

  knot_late : (k : ℕ) (s : S) (i : ℕ) (a : List T) (t : T) → (knot_at F k s).late i a t → (F (knot F) s).late i a t
  knot_late zero s i a t l = absurd l
  knot_late (suc k) s i a t l = (turn_good k s).late i a t l

  pub knot_form : (s : S) → Same (knot F s) (F (knot F) s)
  knot_form s = record {
    reads = λ a x r. knot_reads r.0 s a x r.1;
    reads_back = λ a x r. (suc (length a), (turn_good (length a) s).reads_back a x (omega arith) r);
    begun = λ a b. knot_begun b.0 s a b.1;
    begun_back = λ a b. (suc (length a), (turn_good (length a) s).begun_back a (omega arith) b);
    late = λ i a t l. knot_late l.0 s i a t l.1;
    late_back = λ i a t l. (suc (suc (length a)), (turn_good (suc (length a)) s).late_back i a t (omega arith) l);
  }
