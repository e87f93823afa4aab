-- The exactness of a production from that of its parts, a line for each production. The sets follow from
-- those of the parts, and each side condition is a test by computation.
use Rattle.std.proofs.Common.{◌≡◌, ◌≤◌, ℕ, zero, suc, Bool, true, false, cond, List, [], ◌∷◌, ◌++◌, length, Ok, Err, refl, ◌∙◌, arith, Option, Some}
use Rattle.grammar.specs.Syntax.{Syntax, ParseFault, among, sees, none, gives, one, ◌then◌, choice, many, knot_at, knot, deep, at_most}
use Rattle.grammar.specs.Exact.{IsExact, IsGood}
use Rattle.grammar.proofs.Sets.{within, apart, cond_true, within_self, within_joined_right, within_left, within_right}
use Rattle.grammar.proofs.Parts.{none_exact, gives_exact, one_exact, widen}
use Rattle.grammar.proofs.Bounds.{LoopFits, same_good, then_good, after_good, choice_good, many_good, many_is, limit_exact, limit_good}
use Rattle.grammar.proofs.Labels.{Unlimited}
use Rattle.grammar.proofs.Limits.{deep_exact, at_most_good}

abbrev pub and : Bool → Bool → Bool
and b c = cond b c false

abbrev implies : Bool → Bool → Bool
implies b c = cond b c true

implied : (b c : Bool) → implies b c ≡ true → b ≡ true → c ≡ true
implied true c e h = e
implied false c e h = absurd cc

-- the sets of a sequence, of alternatives and of a repetition, as they follow from those of the parts
abbrev pub empties : Bool → List ℕ → List ℕ
empties b xs = cond b xs []

pub turns_fit : {A : Type 0} (ks f m : List ℕ) → and (apart ks m) (within f ks) ≡ true → LoopFits A (λ _. ks) (λ _. f) (λ _ _. m) (λ _. ks ++ m)
turns_fit ks f m e =
    let p = cond_true (apart ks m) (within f ks) e in
    record { clash = λ x y. p.0; taken = λ x. p.1; over = λ x y. within_right ks m; greedy = λ x. within_left ks m }

module _ {T : Type 0} {K : T → ℕ} where
  pub seq : {A B : Type 0} {n : ℕ} {G G' : Syntax T A} {H H' : A → Syntax T B} {n1 n2 : Bool} {f1 m1 f2 m2 : List ℕ} → IsGood K n G G' n1 f1 (λ _. m1) → ((x : A) → IsGood K n (H x) (H' x) n2 f2 (λ _. m2)) → apart f2 m1 ≡ true
      → IsGood K n (G then H) (G' then H') (and n1 n2) (f1 ++ empties n1 f2) (λ _. m2 ++ empties n2 m1)
  seq {A} {B} {n} {G} {G'} {H} {H'} {n1} {n2} {f1} {m1} {f2} {m2} g h e =
      then_good K n G G' H H' n1 f1 (λ _. m1) n2 (λ _. f2) (λ _ _. m2) (and n1 n2) (f1 ++ empties n1 f2) (λ _. m2 ++ empties n2 m1) (λ _ _. Unit {0}) (λ _ _ _. tt) (λ _ _ _. tt) (record {
        clash = λ x. e;
        late = λ x y. within_left m2 (empties n2 m1);
        over = λ x y t _. rw t (within_right m2 m1);
        begin = within_left f1 (empties n1 f2);
        next = λ x t. rw t (within_right f1 f2);
        empty = λ t u. rw (t, u) refl;
      }) g h

  -- after a token
  pub after : {A B : Type 0} {n : ℕ} {G G' : Syntax T A} {H H' : A → Syntax T B} {n2 : Bool} {f1 m1 f2 m2 : List ℕ} → IsGood K (suc n) G G' false f1 (λ _. m1) → ((x : A) → IsGood K n (H x) (H' x) n2 f2 (λ _. m2)) → apart f2 m1 ≡ true
      → IsGood K (suc n) (G then H) (G' then H') false f1 (λ _. m2 ++ empties n2 m1)
  after {A} {B} {n} {G} {G'} {H} {H'} {n2} {f1} {m1} {f2} {m2} g h e =
      after_good K n G G' H H' f1 (λ _. m1) n2 (λ _. f2) (λ _ _. m2) f1 (λ _. m2 ++ empties n2 m1) (λ _ _. Unit {0}) (λ _ _ _. tt) (λ _ _ _. tt) (record {
        clash = λ x. e;
        late = λ x y. within_left m2 (empties n2 m1);
        over = λ x y t _. rw t (within_right m2 m1);
        begin = within_self f1;
        next = λ x t. absurd cc;
        empty = λ t u. absurd cc;
      }) g h

  pub either : {A : Type 0} {n : ℕ} (ks : List ℕ) {G G' H H' : Syntax T A} {n2 : Bool} {f1 m1 f2 m2 : List ℕ} → IsGood K n G G' false f1 (λ _. m1) → IsGood K n H H' n2 f2 (λ _. m2) → and (within f1 ks) (apart f2 ks) ≡ true
      → IsGood K n (choice K ks G H) (choice K ks G' H') n2 (f1 ++ f2) (λ _. m1 ++ (m2 ++ empties n2 ks))
  either {A} {n} ks {G} {G'} {H} {H'} {n2} {f1} {m1} {f2} {m2} g h e =
      let p = cond_true (within f1 ks) (apart f2 ks) e in
      choice_good K n ks G G' H H' false f1 (λ _. m1) n2 f2 (λ _. m2) n2 (f1 ++ f2) (λ _. m1 ++ (m2 ++ empties n2 ks)) (λ _. Unit {0}) (λ _ _. tt) (λ _ _. tt) (record {
        solid = refl;
        taken = p.0;
        clash = p.1;
        over1 = λ x. within_left m1 (m2 ++ empties n2 ks);
        over2 = λ x. within_joined_right m2 m1 (m2 ++ empties n2 ks) (within_left m2 (empties n2 ks));
        greedy = λ x t _. rw t (within_joined_right ks m1 (m2 ++ ks) (within_right m2 ks));
        begin1 = within_left f1 f2;
        begin2 = within_right f1 f2;
        empty = λ t. t;
      }) g h

  -- a repetition, where the kinds are the same at each turn
  pub again_and_again : {A : Type 0} {n : ℕ} (ks : List ℕ) {f m : List ℕ} {step step' : A → Syntax T A} → ((x : A) → IsGood K n (step x) (step' x) false f (λ _. m)) → and (apart ks m) (within f ks) ≡ true → (x : A)
      → IsGood K n (many K (λ _. ks) step x) (many K (λ _. ks) step' x) true ks (λ _. ks ++ m)
  again_and_again {A} {n} ks {f} {m} {step} {step'} g e x =
      many_good K (λ _. ks) (λ _. f) (λ _ _. m) (λ _. ks ++ m) (turns_fit ks f m e) step step' n g x

  -- a repetition, where they depend on the value before each turn
  pub again_and_again_to : {A : Type 0} {n : ℕ} (ks : A → List ℕ) {f : A → List ℕ} {m : A → A → List ℕ} (more : A → List ℕ) {step step' : A → Syntax T A} → ((x : A) → IsGood K n (step x) (step' x) false (f x) (m x)) → LoopFits A ks f m more → (x : A)
      → IsGood K n (many K ks step x) (many K ks step' x) true (ks x) more
  again_and_again_to {A} {n} ks {f} {m} more {step} {step'} g fit x = many_good K ks f m more fit step step' n g x

  -- larger sets do no harm
  pub declared : {A : Type 0} {n : ℕ} {G H : Syntax T A} {n1 null : Bool} {f1 m1 first more : List ℕ} → IsGood K n G H n1 f1 (λ _. m1) → and (implies n1 null) (and (within f1 first) (within m1 more)) ≡ true → IsGood K n G H null first (λ _. more)
  declared {A} {n} {G} {H} {n1} {null} {f1} {m1} {first} {more} g e =
      let p = cond_true (implies n1 null) _ e in
      let q = cond_true (within f1 first) (within m1 more) p.1 in
      record {
        here = widen K G n1 f1 (λ _. m1) null first (λ _. more) g.here (λ h. implied n1 null p.0 h) q.0 (λ x. q.1);
        there = widen K H n1 f1 (λ _. m1) null first (λ _. more) g.there (λ h. implied n1 null p.0 h) q.0 (λ x. q.1);
        reads = g.reads;
        begun = g.begun;
        late = g.late;
        agree = g.agree;
        reads_back = g.reads_back;
        begun_back = g.begun_back;
        late_back = g.late_back;
      }

  pub given : {A : Type 0} {n : ℕ} (x : A) → IsGood K n (gives x) (gives x) true [] (λ _. [])
  given {A} {n} x = same_good K n (gives x) true [] (λ _. []) (gives_exact K x)

  pub same : {A : Type 0} {n : ℕ} {G : Syntax T A} {null : Bool} {first : List ℕ} {more : A → List ℕ} → IsExact K G null first more → IsGood K n G G null first more
  same {A} {n} {G} {null} {first} {more} g = same_good K n G null first more g

  -- what holds on longer texts holds on shorter ones
  pub lowered : {A : Type 0} {n : ℕ} {G H : Syntax T A} {null : Bool} {first : List ℕ} {more : A → List ℕ} (k : ℕ) → k ≤ n → IsGood K n G H null first more → IsGood K k G H null first more
  lowered {A} {n} {G} {H} k le g = record {
    here = g.here;
    there = g.there;
    reads = g.reads;
    begun = g.begun;
    late = g.late;
    agree = λ ts lt. g.agree ts (omega arith);
    reads_back = λ a x lt. g.reads_back a x (omega arith);
    begun_back = λ a lt. g.begun_back a (omega arith);
    late_back = λ i a t lt. g.late_back i a t (omega arith);
  }

  -- the same, for the parts of what stands after a token
  pub one_lower : {A : Type 0} {n : ℕ} {G H : Syntax T A} {null : Bool} {first : List ℕ} {more : A → List ℕ} → IsGood K (suc n) G H null first more → IsGood K n G H null first more
  one_lower {A} {n} g = lowered n (omega arith) g

  -- one token of which f makes a value, if its kind is in the set
  pub token : {A : Type 0} {n : ℕ} (f : T → Option A) (ks : List ℕ) → ((t : T) (x : A) → f t ≡ Some x → among (K t) ks ≡ true) → IsGood K n (one f) (one f) false ks (λ _. [])
  token {A} {n} f ks h = same_good K n (one f) false ks (λ _. []) (one_exact K f ks h)

  -- a production that stands one too deep for the limit with this label, each of whose first tokens begins it
  pub too_deep : {A : Type 0} {n : ℕ} (label : ℕ) (ks : List ℕ) {G : Syntax T A} {more : A → List ℕ} → IsExact K G false ks more → ((t : T) → among (K t) ks ≡ true → G.begun (t ∷ [])) → IsGood K n (deep label K ks G) (deep label K ks G) false ks more
  too_deep {A} {n} label ks {G} {more} g o = same_good K n (deep label K ks G) false ks more (deep_exact K label ks G more g o)

  -- at most so many tokens of a production without limits
  pub counted : {A : Type 0} {n : ℕ} (label most : ℕ) {G H : Syntax T A} {null : Bool} {first : List ℕ} {more : A → List ℕ} → Unlimited G → Unlimited H → IsGood K n G H null first more
      → IsGood K n (at_most label most G) (at_most label most H) null first more
  counted {A} {n} label most {G} {H} {null} {first} {more} free free' g = at_most_good K label most n G H null first more free free' g

  -- at the bound 0 nothing is read
  pub none_good : {A : Type 0} (H : Syntax T A) (null : Bool) (first : List ℕ) (more : A → List ℕ) → IsExact K H null first more → IsGood K 0 none H null first more
  none_good H null first more h =
      record {
        here = widen K none false [] (λ _. []) null first more (none_exact K) (λ e. absurd cc) refl (λ x. refl);
        there = h;
        reads = λ a x r. absurd r;
        begun = λ a e. rw e h.empty;
        late = λ i a t l. absurd l;
        agree = λ ts lt. absurd (omega arith);
        reads_back = λ a x lt. absurd (omega arith);
        begun_back = λ a lt. absurd (omega arith);
        late_back = λ i a t lt. absurd (omega arith);
      }

  -- ---- recursion

  module _ {S A : Type 0} (null : Bool) (first : List ℕ) (more : A → List ℕ) (F : (S → Syntax T A) → S → Syntax T A) (step : (k : ℕ) (U U' : S → Syntax T A) → ((s : S) → IsGood K k (U s) (U' s) null first more) → (s : S)
      → IsGood K (suc k) (F U s) (F U' s) null first more) where
    nothing : (n : ℕ) → IsGood K n none none null first more
    nothing n = same_good K n none null first more (widen K none false [] (λ _. []) null first more (none_exact K) (λ e. absurd cc) refl (λ x. refl))

    pub knot_grows : (k : ℕ) (s : S) → IsGood K k (knot_at F k s) (knot_at F (suc k) s) null first more
    knot_grows zero s = none_good (F (λ _. none) s) null first more (step 0 (λ _. none) (λ _. none) (λ _. nothing 0) s).here
    knot_grows (suc k) s = step k (knot_at F k) (knot_at F (suc k)) (knot_grows k) s

    pub knot_exact : (s : S) → IsExact K (knot F s) null first more
    knot_exact s = limit_exact K (λ n. knot_at F n s) null first more (λ n. knot_grows n s)

    -- what stands for itself is read as its production says
    pub knot_is : (s : S) (ts : List T) → (knot F s).parse ts ≡ (F (knot F) s).parse ts
    knot_is s ts = (step (length ts) (knot_at F (length ts)) (knot F) (λ u. limit_good K (λ n. knot_at F n u) null first more (λ n. knot_grows n u) (length ts)) s).agree ts (omega arith)

  -- recursion inside a production that itself depends on one still open
  module _ {S A : Type 0} (n : ℕ) (null : Bool) (first : List ℕ) (more : A → List ℕ) (F F' : (S → Syntax T A) → S → Syntax T A) (step : (k : ℕ) (U U' : S → Syntax T A) → ((s : S) → IsGood K k (U s) (U' s) null first more) → (s : S)
      → IsGood K (suc k) (F U s) (F U' s) null first more) (step' : (k : ℕ) (U U' : S → Syntax T A) → ((s : S) → IsGood K k (U s) (U' s) null first more) → (s : S) → IsGood K (suc k) (F' U s) (F' U' s) null first more) (both : (U U' : S → Syntax T A)
      → ((s : S) → IsGood K n (U s) (U' s) null first more) → (s : S) → IsGood K n (F U s) (F' U' s) null first more) where
    at_both : (k : ℕ) (s : S) → IsGood K n (knot_at F k s) (knot_at F' k s) null first more
    at_both zero s = nothing null first more F step n
    at_both (suc k) s = both (knot_at F k) (knot_at F' k) (at_both k) s

    pub knot_both : (s : S) → IsGood K n (knot F s) (knot F' s) null first more
    knot_both s = record {
      here = knot_exact null first more F step s;
      there = knot_exact null first more F' step' s;
      reads = λ a x r. (r.0, (at_both r.0 s).reads a x r.1);
      begun = λ a b. (b.0, (at_both b.0 s).begun a b.1);
      late = λ i a t l. (l.0, (at_both l.0 s).late i a t l.1);
      agree = λ ts lt. (at_both (suc (length ts)) s).agree ts lt;
      reads_back = λ a x lt r. (r.0, (at_both r.0 s).reads_back a x lt r.1);
      begun_back = λ a lt b. (b.0, (at_both b.0 s).begun_back a lt b.1);
      late_back = λ i a t lt l. (l.0, (at_both l.0 s).late_back i a t lt l.1);
    }

  -- ---- one turn of a repetition

  pub turn : {A : Type 0} (ks : List ℕ) {f m : List ℕ} (step : A → Syntax T A) → ((x : A) → IsExact K (step x) false f (λ _. m)) → and (apart ks m) (within f ks) ≡ true → (x y : A) (ts rest : List T) → sees K ks ts ≡ true
      → (step x).parse ts ≡ Ok (y, rest) → (many K (λ _. ks) step x).parse ts ≡ (many K (λ _. ks) step y).parse rest
  turn {A} ks {f} {m} step g e x y ts rest s r =
      many_is K (λ _. ks) (λ _. f) (λ _ _. m) (λ _. ks ++ m) (turns_fit ks f m e) step g x ts ∙ rw (s, r) refl

  -- a turn that fails, and no turn
  pub turn_fails : {A : Type 0} (ks : List ℕ) {f m : List ℕ} (step : A → Syntax T A) → ((x : A) → IsExact K (step x) false f (λ _. m)) → and (apart ks m) (within f ks) ≡ true → (x : A) (ts : List T) (d : ParseFault) → sees K ks ts ≡ true
      → (step x).parse ts ≡ Err d → (many K (λ _. ks) step x).parse ts ≡ Err d
  turn_fails {A} ks {f} {m} step g e x ts d s r =
      many_is K (λ _. ks) (λ _. f) (λ _ _. m) (λ _. ks ++ m) (turns_fit ks f m e) step g x ts ∙ rw (s, r) refl

  pub turn_ends : {A : Type 0} (ks : List ℕ) {f m : List ℕ} (step : A → Syntax T A) → ((x : A) → IsExact K (step x) false f (λ _. m)) → and (apart ks m) (within f ks) ≡ true → (x : A) (ts : List T) → sees K ks ts ≡ false
      → (many K (λ _. ks) step x).parse ts ≡ Ok (x, ts)
  turn_ends {A} ks {f} {m} step g e x ts s =
      many_is K (λ _. ks) (λ _. f) (λ _ _. m) (λ _. ks ++ m) (turns_fit ks f m e) step g x ts ∙ rw s refl

  -- the same, where the kinds depend on the value
  pub turn_to : {A : Type 0} (ks : A → List ℕ) {f : A → List ℕ} {m : A → A → List ℕ} {more : A → List ℕ} (step : A → Syntax T A) → ((x : A) → IsExact K (step x) false (f x) (m x)) → LoopFits A ks f m more → (x y : A) (ts rest : List T)
      → sees K (ks x) ts ≡ true → (step x).parse ts ≡ Ok (y, rest) → (many K ks step x).parse ts ≡ (many K ks step y).parse rest
  turn_to {A} ks {f} {m} {more} step g fit x y ts rest s r = many_is K ks f m more fit step g x ts ∙ rw (s, r) refl

  -- ---- sets that depend on what was read

  -- what follows isn't empty
  pub seq_to : {A B : Type 0} {n : ℕ} {G G' : Syntax T A} {H H' : A → Syntax T B} {f1 m1 f2 : List ℕ} {more : B → List ℕ} → IsGood K n G G' false f1 (λ _. m1) → ((x : A) → IsGood K n (H x) (H' x) false f2 more) → apart f2 m1 ≡ true
      → IsGood K n (G then H) (G' then H') false f1 more
  seq_to {A} {B} {n} {G} {G'} {H} {H'} {f1} {m1} {f2} {more} g h e =
      then_good K n G G' H H' false f1 (λ _. m1) false (λ _. f2) (λ _ y. more y) false f1 more (λ _ _. Unit {0}) (λ _ _ _. tt) (λ _ _ _. tt) (record {
        clash = λ x. e;
        late = λ x y. within_self (more y);
        over = λ x y t _. absurd cc;
        begin = within_self f1;
        next = λ x t. absurd cc;
        empty = λ t u. absurd cc;
      }) g h

  -- the same after a token
  pub after_to : {A B : Type 0} {n : ℕ} {G G' : Syntax T A} {H H' : A → Syntax T B} {f1 m1 f2 : List ℕ} {more : B → List ℕ} → IsGood K (suc n) G G' false f1 (λ _. m1) → ((x : A) → IsGood K n (H x) (H' x) false f2 more) → apart f2 m1 ≡ true
      → IsGood K (suc n) (G then H) (G' then H') false f1 more
  after_to {A} {B} {n} {G} {G'} {H} {H'} {f1} {m1} {f2} {more} g h e =
      after_good K n G G' H H' f1 (λ _. m1) false (λ _. f2) (λ _ y. more y) f1 more (λ _ _. Unit {0}) (λ _ _ _. tt) (λ _ _ _. tt) (record {
        clash = λ x. e;
        late = λ x y. within_self (more y);
        over = λ x y t _. absurd cc;
        begin = within_self f1;
        next = λ x t. absurd cc;
        empty = λ t u. absurd cc;
      }) g h

  -- a value made of what was read
  pub made : {A B : Type 0} {n : ℕ} {G G' : Syntax T A} {null : Bool} {f1 : List ℕ} {m1 : A → List ℕ} {more : B → List ℕ} (f : A → B) → IsGood K n G G' null f1 m1 → ((x : A) → within (m1 x) (more (f x)) ≡ true)
      → IsGood K n (G then λ x. gives (f x)) (G' then λ x. gives (f x)) null f1 more
  made {A} {B} {n} {G} {G'} {null} {f1} {m1} {more} f g e =
      then_good K n G G' (λ x. gives (f x)) (λ x. gives (f x)) null f1 m1 true (λ _. []) (λ _ _. []) null f1 more (λ x y. f x ≡ y) (λ x y r. r.1) (λ x y r. r.1) (record {
        clash = λ x. refl;
        late = λ x y. refl;
        over = λ x y t same. rw (← same) (e x);
        begin = within_self f1;
        next = λ x t. refl;
        empty = λ t u. t;
      }) g (λ x. same_good K n (gives (f x)) true [] (λ _. []) (gives_exact K (f x)))

  -- alternatives of which none is empty
  pub either_to : {A : Type 0} {n : ℕ} (ks : List ℕ) {G G' H H' : Syntax T A} {f1 f2 : List ℕ} {m1 m2 : A → List ℕ} {first : List ℕ} {more : A → List ℕ} → IsGood K n G G' false f1 m1 → IsGood K n H H' false f2 m2
      → and (within f1 ks) (and (apart f2 ks) (and (within f1 first) (within f2 first))) ≡ true → ((x : A) → within (m1 x) (more x) ≡ true) → ((x : A) → within (m2 x) (more x) ≡ true)
      → IsGood K n (choice K ks G H) (choice K ks G' H') false first more
  either_to {A} {n} ks {G} {G'} {H} {H'} {f1} {f2} {m1} {m2} {first} {more} g h e o1 o2 =
      let p = cond_true (within f1 ks) _ e in
      let q = cond_true (apart f2 ks) _ p.1 in
      let r = cond_true (within f1 first) (within f2 first) q.1 in
      choice_good K n ks G G' H H' false f1 m1 false f2 m2 false first more (λ _. Unit {0}) (λ _ _. tt) (λ _ _. tt) (record {
        solid = refl;
        taken = p.0;
        clash = q.0;
        over1 = o1;
        over2 = o2;
        greedy = λ x t _. absurd cc;
        begin1 = r.0;
        begin2 = r.1;
        empty = λ t. absurd cc;
      }) g h

  -- an optional part after which a given value stands
  pub maybe_to : {A : Type 0} {n : ℕ} (ks : List ℕ) {G G' : Syntax T A} {f1 : List ℕ} {m1 : A → List ℕ} {more : A → List ℕ} (x : A) → IsGood K n G G' false f1 m1 → within f1 ks ≡ true → ((y : A) → within (m1 y) (more y) ≡ true)
      → within ks (more x) ≡ true → IsGood K n (choice K ks G (gives x)) (choice K ks G' (gives x)) true f1 more
  maybe_to {A} {n} ks {G} {G'} {f1} {m1} {more} x g e o k =
      choice_good K n ks G G' (gives x) (gives x) false f1 m1 true [] (λ _. []) true f1 more (λ y. x ≡ y) (λ y r. r.1) (λ y r. r.1) (record {
        solid = refl;
        taken = e;
        clash = refl;
        over1 = o;
        over2 = λ y. refl;
        greedy = λ y t same. rw (← same) k;
        begin1 = within_self f1;
        begin2 = refl;
        empty = λ t. refl;
      }) g (same_good K n (gives x) true [] (λ _. []) (gives_exact K x))

  -- what follows may be empty, and then goes on with what the value before it can go on with
  pub tail_so : {A B : Type 0} {n : ℕ} {G G' : Syntax T A} {H H' : A → Syntax T B} {f1 : List ℕ} {m1 : A → List ℕ} {f2 : A → List ℕ} {more : B → List ℕ} → IsGood K n G G' false f1 m1 → ((x : A) → IsGood K n (H x) (H' x) true (f2 x) more)
      → ((x : A) (y : B) → (H x).reads [] y → within (m1 x) (more y) ≡ true) → ((x : A) (y : B) → (H' x).reads [] y → within (m1 x) (more y) ≡ true) → ((x : A) → apart (f2 x) (m1 x) ≡ true) → IsGood K n (G then H) (G' then H') false f1 more
  tail_so {A} {B} {n} {G} {G'} {H} {H'} {f1} {m1} {f2} {more} g h ends ends' c =
      then_good K n G G' H H' false f1 m1 true f2 (λ _. more) false f1 more (λ x y. within (m1 x) (more y) ≡ true) ends ends' (record {
        clash = c;
        late = λ x y. within_self (more y);
        over = λ x y t so. so;
        begin = within_self f1;
        next = λ x t. absurd cc;
        empty = λ t u. absurd cc;
      }) g h

  -- what follows may be empty, and then gives f of the value before it
  pub tail_to : {A B : Type 0} {n : ℕ} {G G' : Syntax T A} {H H' : A → Syntax T B} {f1 : List ℕ} {m1 : A → List ℕ} {f2 : A → List ℕ} {more : B → List ℕ} (f : A → B) → IsGood K n G G' false f1 m1 → ((x : A) → IsGood K n (H x) (H' x) true (f2 x) more)
      → ((x : A) (y : B) → (H x).reads [] y → f x ≡ y) → ((x : A) (y : B) → (H' x).reads [] y → f x ≡ y) → ((x : A) → apart (f2 x) (m1 x) ≡ true) → ((x : A) → within (m1 x) (more (f x)) ≡ true) → IsGood K n (G then H) (G' then H') false f1 more
  tail_to {A} {B} {n} {G} {G'} {H} {H'} {f1} {m1} {f2} {more} f g h ends ends' c o =
      then_good K n G G' H H' false f1 m1 true f2 (λ _. more) false f1 more (λ x y. f x ≡ y) ends ends' (record {
        clash = c;
        late = λ x y. within_self (more y);
        over = λ x y t same. rw (← same) (o x);
        begin = within_self f1;
        next = λ x t. absurd cc;
        empty = λ t u. absurd cc;
      }) g h

  -- what follows depends on the value, and isn't empty
  pub seq_by : {A B : Type 0} {n : ℕ} {G G' : Syntax T A} {H H' : A → Syntax T B} {f1 : List ℕ} {m1 : A → List ℕ} {f2 : A → List ℕ} {more : List ℕ} → IsGood K n G G' false f1 m1 → ((x : A) → IsGood K n (H x) (H' x) false (f2 x) (λ _. more))
      → ((x : A) → apart (f2 x) (m1 x) ≡ true) → IsGood K n (G then H) (G' then H') false f1 (λ _. more)
  seq_by {A} {B} {n} {G} {G'} {H} {H'} {f1} {m1} {f2} {more} g h e =
      then_good K n G G' H H' false f1 m1 false f2 (λ _ _. more) false f1 (λ _. more) (λ _ _. Unit {0}) (λ _ _ _. tt) (λ _ _ _. tt) (record {
        clash = e;
        late = λ x y. within_self more;
        over = λ x y t _. absurd cc;
        begin = within_self f1;
        next = λ x t. absurd cc;
        empty = λ t u. absurd cc;
      }) g h

  -- larger sets do no harm, where what can follow depends on the value
  pub enlarged_to : {A : Type 0} {n : ℕ} {G H : Syntax T A} {null : Bool} {f : List ℕ} {m : A → List ℕ} (first : List ℕ) (more : A → List ℕ) → IsGood K n G H null f m → within f first ≡ true → ((x : A) → within (m x) (more x) ≡ true)
      → IsGood K n G H null first more
  enlarged_to {A} {n} {G} {H} {null} {f} {m} first more g w e =
      record {
        here = widen K G null f m null first more g.here (λ h. h) w e;
        there = widen K H null f m null first more g.there (λ h. h) w e;
        reads = g.reads;
        begun = g.begun;
        late = g.late;
        agree = g.agree;
        reads_back = g.reads_back;
        begun_back = g.begun_back;
        late_back = g.late_back;
      }

  pub widened : {A : Type 0} {n : ℕ} {G H : Syntax T A} {null : Bool} {first : List ℕ} {m more : A → List ℕ} → IsGood K n G H null first m → ((x : A) → within (m x) (more x) ≡ true) → IsGood K n G H null first more
  widened {A} {n} {G} {H} {null} {first} {m} {more} g e = enlarged_to first more g (within_self first) e

-- What is exact for one kind of tokens is so for another that has the kinds of its sets.
pub recast : {T A : Type 0} {K J : T → ℕ} {G : Syntax T A} {null : Bool} {first : List ℕ} {more : A → List ℕ} (first' : List ℕ) (more' : A → List ℕ) → ((t : T) → among (K t) first ≡ true → among (J t) first' ≡ true)
    → ((x : A) (t : T) → among (K t) (more x) ≡ true → among (J t) (more' x) ≡ true) → IsExact K G null first more → IsExact J G null first' more'
recast {T} {A} {K} {J} {G} {null} {first} {more} first' more' f m g = record {
  takes = g.takes;
  fails = g.fails;
  overs = g.overs;
  again = λ a x b r s. g.again a x b r (blind x b s);
  lates = g.lates;
  late_begins = g.late_begins;
  runs = g.runs;
  begins = g.begins;
  fronts = g.fronts;
  empty = g.empty;
  starts = λ t ts b. f t (g.starts t ts b);
  filled = g.filled;
  single = g.single;
  goes_on = λ a x t u r b. m x t (g.goes_on a x t u r b);
  one_limit = g.one_limit;
}
  where
    tested : (x : A) (t : T) (b : Bool) → among (K t) (more x) ≡ b → among (J t) (more' x) ≡ false → b ≡ false
    tested x t true is s = let is' = m x t is in absurd cc
    tested x t false is s = refl

    blind : (x : A) (b : List T) → sees J (more' x) b ≡ false → sees K (more x) b ≡ false
    blind x [] s = refl
    blind x (t ∷ ts) s = tested x t (among (K t) (more x)) refl s

-- What reads no empty text is never empty.
pub never_empty : {T A : Type 0} {K : T → ℕ} {n : ℕ} {G H : Syntax T A} {null : Bool} {first : List ℕ} {more : A → List ℕ} → IsGood K n G H null first more → ((x : A) → G.reads [] x → ⊥) → ((x : A) → H.reads [] x → ⊥) →
    IsGood K n G H false first more
never_empty {T} {A} {K} {n} {G} {H} {null} {first} {more} g f h = record {
  here = solid G g.here f;
  there = solid H g.there h;
  reads = g.reads;
  begun = g.begun;
  late = g.late;
  agree = g.agree;
  reads_back = g.reads_back;
  begun_back = g.begun_back;
  late_back = g.late_back;
}
  where
    solid : (F : Syntax T A) → IsExact K F null first more → ((x : A) → F.reads [] x → ⊥) → IsExact K F false first more
    solid F e none_empty = record {
      takes = e.takes;
      fails = e.fails;
      overs = e.overs;
      again = e.again;
      lates = e.lates;
      late_begins = e.late_begins;
      runs = e.runs;
      begins = e.begins;
      fronts = e.fronts;
      empty = e.empty;
      starts = e.starts;
      filled = λ x r. absurd (none_empty x r);
      single = e.single;
      goes_on = e.goes_on;
      one_limit = e.one_limit;
    }
