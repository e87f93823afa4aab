-- What a range may end is what is read without one, and then maybe a range; behind what a quantifier ends it may stand too.
use Rattle.std.proofs.Common.{ℕ, zero, suc, List, [], Some, None, refl, inl, inr}
use Rattle.grammar.specs.Syntax.{Syntax, none, gives, ◌then◌, choice, loop, many, limit}
use Rattle.grammar.specs.Exact.{Same}
use Rattle.grammar.proofs.Forms.{to_left}
use Rattle.grammar_laws.proofs.Inclusions.{Within, forth, back, itself, ◌so◌, either, first, second, each, nothing, on, in_turn, either_before, handed, handed_back, given_first, given_back, limited, at_some, ended_none}
use Rattle.c_syntax.specs.Formulas.{Form}
use Rattle.c_syntax.specs.Tokens.{PlainToken}
use Rattle.c_model.specs.AnnotationGrammar.{FormEnd, Spanned, unended_kinds, unended_only}

-- a kind that nothing asks for
abbrev no : PlainToken → ℕ
no t = 0

abbrev pub Ranged : Type 0 → Type 1
Ranged A = Syntax PlainToken (Spanned A)

-- each limit's part behind another
pub limited_in : {A B : Type 0} (G : Syntax PlainToken A) (F : ℕ → A → Syntax PlainToken B) {Z : Syntax PlainToken B} → ((n : ℕ) → Within (G then λ x. F n x) Z) → Within (G then λ x. limit (λ n. F n x)) Z
limited_in {A} {B} G F {Z} w = record { reads = by_reads; begun = by_begun; late = by_late }
  where
    by_reads : (a : List PlainToken) (y : B) → (G then λ x. limit (λ n. F n x)).reads a y → Z.reads a y
    by_reads a y (b, c, x, e, r, (n, s)) = (w n).reads a y (b, c, x, e, r, s)

    by_begun : (a : List PlainToken) → (G then λ x. limit (λ n. F n x)).begun a → Z.begun a
    by_begun a (inl s) = (w 0).begun a (inl s)
    by_begun a (inr (b, c, x, e, r, (n, s))) = (w n).begun a (inr (b, c, x, e, r, s))

    by_late : (i : ℕ) (a : List PlainToken) (t : PlainToken) → (G then λ x. limit (λ n. F n x)).late i a t → Z.late i a t
    by_late i a t (inl s) = (w 0).late i a t (inl s)
    by_late i a t (inr (b, c, x, e, r, (n, s))) = (w n).late i a t (inr (b, c, x, e, r, s))

-- ---- turns of a repetition

module _ (K : PlainToken → ℕ) (ks : List ℕ) (step : Form → Ranged Form) where
  abbrev pub turns_at : ℕ → Spanned Form → Ranged Form
  turns_at n x = loop K n (unended_kinds ks) (unended_only step) x

  pub turns_empty : (n : ℕ) (x : Spanned Form) → (turns_at n x).begun []
  turns_empty zero x = inr refl
  turns_empty (suc n) x = inr refl

  -- no turn
  pub enough : (n : ℕ) (x : Spanned Form) → Within (gives x) (turns_at n x)
  enough zero x = second K (unended_kinds ks x) none (itself (gives x))
  enough (suc n) x = second K (unended_kinds ks x) _ (itself (gives x))

  -- nothing goes on behind what is ended
  pub ended : (n : ℕ) (a : Form) (e : FormEnd) → Within (turns_at n (a, Some e)) (gives (a, Some e))
  ended zero a e = either K [] (nothing _ refl) (itself _)
  ended (suc n) a e = either K [] (ended_none (turns_at n) _ refl) (itself _)

module _ (Q : Syntax PlainToken FormEnd) where
  -- a range behind a value
  abbrev pub ranged : {A : Type 0} → A → Ranged A
  ranged a = Q then λ r. gives (a, Some r)

  -- the same, if it stands there
  abbrev pub spanned : {A : Type 0} → Spanned A → Ranged A
  spanned x = choice no [] (Q then λ r. gives (x.0, Some r)) (gives x)

  -- the same, where only a quantifier can be ended by it
  abbrev pub late : {A : Type 0} → Spanned A → Ranged A
  late x = elim x.1 [ None ↦ gives x | Some e ↦ spanned x ]

  pub spanned_apart : {A B : Type 0} (x : Spanned A) (H : Spanned A → Syntax PlainToken B) {Z : Syntax PlainToken B} → ((y : Spanned A) → (H y).begun []) → Within (Q then λ r. H (x.0, Some r)) Z → Within (H x) Z → Within (spanned x then H) Z
  spanned_apart x H empty f g =
      either_before no [] H (back (to_left Q (λ r. gives (x.0, Some r)) H) so on Q (λ r. given_first (x.0, Some r) H (empty (x.0, Some r))) so f) (given_first x H (empty x) so g)

  pub spanned_enter : {A B : Type 0} (x : Spanned A) (H : Spanned A → Syntax PlainToken B) → Within (choice no [] (Q then λ r. H (x.0, Some r)) (H x)) (spanned x then H)
  spanned_enter x H =
      either no []
      (handed Q (λ r. (x.0, Some r)) H so in_turn (first no [] (gives x) (itself (ranged x.0))) (λ y. itself (H y)))
      (given_back x H so in_turn (second no [] (ranged x.0) (itself (gives x))) (λ y. itself (H y)))

  -- ---- the two tails

  pub record IsTail (T : Spanned Form → Ranged Form) : Type 1 where
    pub apart : (x : Spanned Form) (H : Spanned Form → Ranged Form) (Z : Ranged Form) → ((y : Spanned Form) → (H y).begun []) → (Within (ranged x.0) (T x) → Within (Q then λ r. H (x.0, Some r)) Z) → Within (H x) Z → Within (T x then H) Z
    pub enter : (x : Spanned Form) (H : Spanned Form → Ranged Form) → Within (H x) (T x then H)
    pub entered : (x : Spanned Form) (H : Spanned Form → Ranged Form) → ((y : Spanned Form) → Within (gives y) (H y)) → Within (T x) (T x then H)
    pub stop : (x : Spanned Form) → Within (gives x) (T x)
    pub empty : (x : Spanned Form) → (T x).begun []

  pub spanned_tail : IsTail (λ x. spanned x)
  spanned_tail = record {
    apart = λ x H Z empty f g. spanned_apart x H empty (f (first no [] (gives x) (itself (ranged x.0)))) g;
    enter = λ x H. second no [] (Q then λ r. H (x.0, Some r)) (itself (H x)) so spanned_enter x H;
    entered = λ x H h. each no [] no [] (on Q (λ r. h (x.0, Some r))) (h x) so spanned_enter x H;
    stop = λ x. second no [] (ranged x.0) (itself (gives x));
    empty = λ x. inr refl;
  }

  late_apart : (x : Spanned Form) (H : Spanned Form → Ranged Form) (Z : Ranged Form) → ((y : Spanned Form) → (H y).begun []) → (Within (ranged x.0) (late x) → Within (Q then λ r. H (x.0, Some r)) Z) → Within (H x) Z → Within (late x then H) Z
  late_apart (a, None) H Z empty f g = given_first (a, None) H (empty (a, None)) so g
  late_apart (a, Some e) H Z empty f g = spanned_apart (a, Some e) H empty (f (first no [] (gives (a, Some e)) (itself (ranged a)))) g

  late_enter : (x : Spanned Form) (H : Spanned Form → Ranged Form) → Within (H x) (late x then H)
  late_enter (a, None) H = given_back (a, None) H
  late_enter (a, Some e) H = second no [] (Q then λ r. H (a, Some r)) (itself (H (a, Some e))) so spanned_enter (a, Some e) H

  late_entered : (x : Spanned Form) (H : Spanned Form → Ranged Form) → ((y : Spanned Form) → Within (gives y) (H y)) → Within (late x) (late x then H)
  late_entered (a, None) H h = h (a, None) so given_back (a, None) H
  late_entered (a, Some e) H h = each no [] no [] (on Q (λ r. h (a, Some r))) (h (a, Some e)) so spanned_enter (a, Some e) H

  late_stop : (x : Spanned Form) → Within (gives x) (late x)
  late_stop (a, None) = itself (gives (a, None))
  late_stop (a, Some e) = second no [] (ranged a) (itself (gives (a, Some e)))

  late_empty : (x : Spanned Form) → (late x).begun []
  late_empty (a, None) = refl
  late_empty (a, Some e) = inr refl

  pub late_tail : IsTail (λ x. late x)
  late_tail = record { apart = late_apart; enter = late_enter; entered = late_entered; stop = late_stop; empty = late_empty }

  -- ---- a function of the value

  pub of_forth : {A B : Type 0} {X : Ranged A} (f : A → B) (Y : Ranged A) → Within X (Y then λ x. spanned x) → Within (X then λ y. gives (f y.0, y.1)) ((Y then λ y. gives (f y.0, y.1)) then λ x. spanned x)
  of_forth {A} f Y w =
      in_turn w (λ x. itself (gives (f x.0, x.1))) so back (to_left Y (λ x. spanned x) (λ (x : Spanned A). gives (f x.0, x.1)))
      so on Y (λ x. spanned_apart x (λ (y : Spanned A). gives (f y.0, y.1)) (λ y. refl) (first no [] (gives (f x.0, x.1)) (itself _)) (second no [] (ranged (f x.0)) (itself _))) so handed Y (λ x. (f x.0, x.1)) (λ x. spanned x)

  pub of_back : {A B : Type 0} {X : Ranged A} (f : A → B) (Y : Ranged A) → Within (Y then λ x. spanned x) X → Within ((Y then λ y. gives (f y.0, y.1)) then λ x. spanned x) (X then λ y. gives (f y.0, y.1))
  of_back {A} f Y w =
      handed_back Y (λ x. (f x.0, x.1)) (λ x. spanned x) (λ x. inr refl) so on Y (λ x. spanned_enter x (λ (y : Spanned A). gives (f y.0, y.1)))
      so forth (to_left Y (λ x. spanned x) (λ (x : Spanned A). gives (f x.0, x.1))) so in_turn w (λ x. itself (gives (f x.0, x.1)))

  late_of : (f : Form → Form) (x : Spanned Form) → Within (late x then λ y. gives (f y.0, y.1)) (late (f x.0, x.1))
  late_of f (a, None) = given_first (a, None) (λ y. gives (f y.0, y.1)) refl
  late_of f (a, Some e) = spanned_apart (a, Some e) (λ y. gives (f y.0, y.1)) (λ y. refl) (first no [] (gives (f a, Some e)) (itself _)) (second no [] (ranged (f a)) (itself _))

  late_of_back : (f : Form → Form) (x : Spanned Form) → Within (late (f x.0, x.1)) (late x then λ y. gives (f y.0, y.1))
  late_of_back f (a, None) = given_back (a, None) (λ y. gives (f y.0, y.1))
  late_of_back f (a, Some e) = spanned_enter (a, Some e) (λ y. gives (f y.0, y.1))

  pub late_forth : {X : Ranged Form} (f : Form → Form) (Y : Ranged Form) → Within X (Y then λ x. late x) → Within (X then λ y. gives (f y.0, y.1)) ((Y then λ y. gives (f y.0, y.1)) then λ x. late x)
  late_forth f Y w =
      in_turn w (λ x. itself (gives (f x.0, x.1))) so back (to_left Y (λ x. late x) (λ x. gives (f x.0, x.1))) so on Y (λ x. late_of f x) so handed Y (λ x. (f x.0, x.1)) (λ x. late x)

  pub late_back : {X : Ranged Form} (f : Form → Form) (Y : Ranged Form) → Within (Y then λ x. late x) X → Within ((Y then λ y. gives (f y.0, y.1)) then λ x. late x) (X then λ y. gives (f y.0, y.1))
  late_back f Y w =
      handed_back Y (λ x. (f x.0, x.1)) (λ x. late x) (λ x. late_empty (f x.0, x.1)) so on Y (λ x. late_of_back f x) so forth (to_left Y (λ x. late x) (λ x. gives (f x.0, x.1))) so in_turn w (λ x. itself (gives (f x.0, x.1)))

  -- ---- repetitions, with one tail

  module _ (T : Spanned Form → Ranged Form) (t : IsTail T) (K : PlainToken → ℕ) (ks : List ℕ) (step step' : Form → Ranged Form) where
    abbrev turns : ℕ → Spanned Form → Ranged Form
    turns n x = turns_at K ks step n x

    abbrev turns' : ℕ → Spanned Form → Ranged Form
    turns' n x = turns_at K ks step' n x

    stops : (n : ℕ) (x : Spanned Form) → Within (T x) (turns' n x then T)
    stops n x = given_back x T so in_turn (enough K ks step' n x) (λ y. itself (T y))

    tail_of : (n : ℕ) (x : Spanned Form) → ((a : Form) → Within (turns n (a, None)) (turns' n (a, None) then T)) → Within (T x then turns n) (turns' n x then T)
    tail_of n (a, None) h = t.apart (a, None) (turns n) (turns' n (a, None) then T) (turns_empty K ks step n) (λ i. on Q (λ r. ended K ks step n a r) so i so stops n (a, None)) (h a)
    tail_of n (a, Some e) h =
        t.apart (a, Some e) (turns n) (turns' n (a, Some e) then T) (turns_empty K ks step n) (λ i. on Q (λ r. ended K ks step n a r) so i so stops n (a, Some e)) (ended K ks step n a e so t.stop (a, Some e) so stops n (a, Some e))

    module _ (f : (a : Form) → Within (step a) (step' a then T)) where
      turns_forth : (n : ℕ) (a : Form) → Within (turns n (a, None)) (turns' n (a, None) then T)
      turns_forth zero a = either K ks (nothing _ (inl (turns_empty K ks step' zero (a, None)))) (t.stop (a, None) so stops zero (a, None))
      turns_forth (suc n) a =
          either K ks
          (in_turn (f a) (λ x. itself (turns n x)) so back (to_left (step' a) T (turns n)) so on (step' a) (λ x. tail_of n x (turns_forth n)) so forth (to_left (step' a) (turns' n) T)
          so in_turn (first K ks (gives (a, None)) (itself (step' a then turns' n))) (λ x. itself (T x))) (t.stop (a, None) so stops (suc n) (a, None))

      pub many_forth : (x : Spanned Form) → Within (T x then λ y. many K (unended_kinds ks) (unended_only step) y) (many K (unended_kinds ks) (unended_only step') x then T)
      many_forth x = limited_in (T x) turns (λ n. tail_of n x (turns_forth n) so in_turn (at_some (λ m. turns' m x) n) (λ y. itself (T y)))

    module _ (b : (a : Form) → Within (step' a then T) (step a)) where
      tail_back : (n : ℕ) (x : Spanned Form) → Within (turns' n x then T) (T x then turns n)
      tail_back zero (a, None) =
          either_before K ks T (ended_none T _ (inl (t.empty (a, None)))) (given_first (a, None) T (t.empty (a, None)) so t.entered (a, None) (turns zero) (enough K ks step zero))
      tail_back (suc n) (a, None) =
          either_before K ks T
          (back (to_left (step' a) (turns' n) T) so on (step' a) (λ x. tail_back n x) so forth (to_left (step' a) T (turns n)) so in_turn (b a) (λ x. itself (turns n x)) so first K ks (gives (a, None)) (itself (step a then turns n))
          so t.enter (a, None) (turns (suc n))) (given_first (a, None) T (t.empty (a, None)) so t.entered (a, None) (turns (suc n)) (enough K ks step (suc n)))
      tail_back zero (a, Some e) = in_turn (ended K ks step' zero a e) (λ y. itself (T y)) so given_first (a, Some e) T (t.empty (a, Some e)) so t.entered (a, Some e) (turns zero) (enough K ks step zero)
      tail_back (suc n) (a, Some e) =
          in_turn (ended K ks step' (suc n) a e) (λ y. itself (T y)) so given_first (a, Some e) T (t.empty (a, Some e)) so t.entered (a, Some e) (turns (suc n)) (enough K ks step (suc n))

      pub many_back : (x : Spanned Form) → Within (many K (unended_kinds ks) (unended_only step') x then T) (T x then λ y. many K (unended_kinds ks) (unended_only step) y)
      many_back x = limited (λ n. turns' n x) T (λ n. tail_back n x so on (T x) (λ y. at_some (λ m. turns m y) n))

  -- ---- sums: a turn is one of a sum alone with the first tail, or a range

  module _ (K : PlainToken → ℕ) (ks : List ℕ) (step O step' : Form → Ranged Form) (s : (a : Form) → Same (step a) (choice no [] (O a) (ranged a))) where
    abbrev sums : ℕ → Spanned Form → Ranged Form
    sums n x = turns_at K ks step n x

    abbrev sums' : ℕ → Spanned Form → Ranged Form
    sums' n x = turns_at K ks step' n x

    abbrev Some_range : Spanned Form → Ranged Form
    Some_range x = spanned x

    abbrev Late_range : Spanned Form → Ranged Form
    Late_range x = late x

    sum_stops : (n : ℕ) (x : Spanned Form) → Within (spanned x) (sums' n x then Some_range)
    sum_stops n x = given_back x Some_range so in_turn (enough K ks step' n x) (λ y. itself (spanned y))

    sum_tail : (n : ℕ) (x : Spanned Form) → ((a : Form) → Within (sums n (a, None)) (sums' n (a, None) then Some_range)) → Within (late x then sums n) (sums' n x then Some_range)
    sum_tail n (a, None) h = given_first (a, None) (sums n) (turns_empty K ks step n (a, None)) so h a
    sum_tail n (a, Some e) h =
        spanned_apart (a, Some e) (sums n) (turns_empty K ks step n) (on Q (λ r. ended K ks step n a r) so first no [] (gives (a, Some e)) (itself (ranged a)) so sum_stops n (a, Some e))
        (ended K ks step n a e so second no [] (ranged a) (itself (gives (a, Some e))) so sum_stops n (a, Some e))

    module _ (f : (a : Form) → Within (O a) (step' a then Late_range)) where
      sum_turns : (n : ℕ) (a : Form) → Within (sums n (a, None)) (sums' n (a, None) then Some_range)
      sum_turns zero a = either K ks (nothing _ (inl (turns_empty K ks step' zero (a, None)))) (second no [] (ranged a) (itself (gives (a, None))) so sum_stops zero (a, None))
      sum_turns (suc n) a =
          either K ks
          (in_turn (forth (s a)) (λ x. itself (sums n x))
          so either_before no [] (sums n)
          (in_turn (f a) (λ x. itself (sums n x)) so back (to_left (step' a) Late_range (sums n)) so on (step' a) (λ x. sum_tail n x (sum_turns n)) so forth (to_left (step' a) (sums' n) Some_range)
          so in_turn (first K ks (gives (a, None)) (itself (step' a then sums' n))) (λ x. itself (spanned x)))
          (back (to_left Q (λ r. gives (a, Some r)) (sums n)) so on Q (λ r. given_first (a, Some r) (sums n) (turns_empty K ks step n (a, Some r)) so ended K ks step n a r)
          so first no [] (gives (a, None)) (itself (ranged a)) so sum_stops (suc n) (a, None)))
          (second no [] (ranged a) (itself (gives (a, None))) so sum_stops (suc n) (a, None))

      pub sum_many_forth : (x : Spanned Form) → Within (late x then λ y. many K (unended_kinds ks) (unended_only step) y) (many K (unended_kinds ks) (unended_only step') x then λ y. spanned y)
      sum_many_forth x = limited_in (late x) sums (λ n. sum_tail n x (sum_turns n) so in_turn (at_some (λ m. sums' m x) n) (λ y. itself (spanned y)))

    -- one more turn than before, for the range
    last_turn : (n : ℕ) (a : Form) → Within (spanned (a, None)) (sums (suc n) (a, None))
    last_turn n a =
        either no []
        (on Q (λ r. enough K ks step n (a, Some r)) so handed Q (λ r. (a, Some r)) (sums n) so in_turn (second no [] (O a) (itself (ranged a)) so back (s a)) (λ x. itself (sums n x)) so first K ks (gives (a, None)) (itself (step a then sums n)))
        (enough K ks step (suc n) (a, None))

    module _ (b : (a : Form) → Within (step' a then Late_range) (O a)) where
      sum_back : (n : ℕ) (x : Spanned Form) → Within (sums' n x then Some_range) (late x then sums (suc n))
      sum_back zero (a, None) = either_before K ks Some_range (ended_none Some_range _ (inl refl)) (given_first (a, None) Some_range (inr refl) so last_turn zero a so given_back (a, None) (sums (suc zero)))
      sum_back (suc n) (a, None) =
          either_before K ks Some_range
          (back (to_left (step' a) (sums' n) Some_range) so on (step' a) (λ x. sum_back n x) so forth (to_left (step' a) Late_range (sums (suc n)))
          so in_turn (b a so first no [] (ranged a) (itself (O a)) so back (s a)) (λ x. itself (sums (suc n) x)) so first K ks (gives (a, None)) (itself (step a then sums (suc n))) so given_back (a, None) (sums (suc (suc n))))
          (given_first (a, None) Some_range (inr refl) so last_turn (suc n) a so given_back (a, None) (sums (suc (suc n))))
      sum_back zero (a, Some e) =
          in_turn (ended K ks step' zero a e) (λ y. itself (spanned y)) so given_first (a, Some e) Some_range (inr refl)
          so each no [] no [] (on Q (λ r. enough K ks step (suc zero) (a, Some r))) (enough K ks step (suc zero) (a, Some e)) so spanned_enter (a, Some e) (sums (suc zero))
      sum_back (suc n) (a, Some e) =
          in_turn (ended K ks step' (suc n) a e) (λ y. itself (spanned y)) so given_first (a, Some e) Some_range (inr refl)
          so each no [] no [] (on Q (λ r. enough K ks step (suc (suc n)) (a, Some r))) (enough K ks step (suc (suc n)) (a, Some e)) so spanned_enter (a, Some e) (sums (suc (suc n)))

      pub sum_many_back : (x : Spanned Form) → Within (many K (unended_kinds ks) (unended_only step') x then λ y. spanned y) (late x then λ y. many K (unended_kinds ks) (unended_only step) y)
      sum_many_back x = limited (λ n. sums' n x) Some_range (λ n. sum_back n x so on (late x) (λ y. at_some (λ m. sums m y) (suc n)))
