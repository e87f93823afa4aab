-- What one production reads, begins and limits another does too. Productions of which each does so for the other are the same.
use Rattle.std.proofs.Common.{ℕ, zero, suc, Bool, true, false, cond, List, [], ◌∷◌, ◌++◌, refl, sym, subst, inl, inr}
use Rattle.std.proofs.lemmas.List.{append-nil}
use Rattle.grammar.specs.Syntax.{Syntax, none, gives, ◌then◌, choice, loop, many, limit, deep, at_most}
use Rattle.grammar.specs.Exact.{Same}
use Rattle.grammar.proofs.Forms.{to_left}
use Rattle.grammar_laws.specs.Plain.{◌but◌}

pub record Within {T A : Type 0} (G H : Syntax T A) : Type 0 where
  pub reads : (a : List T) (x : A) → G.reads a x → H.reads a x
  pub begun : (a : List T) → G.begun a → H.begun a
  pub late : (i : ℕ) (a : List T) (t : T) → G.late i a t → H.late i a t

pub both : {T A : Type 0} {G H : Syntax T A} → Within G H → Within H G → Same G H
both g h = record { reads = g.reads; reads_back = h.reads; begun = g.begun; begun_back = h.begun; late = g.late; late_back = h.late }

pub forth : {T A : Type 0} {G H : Syntax T A} → Same G H → Within G H
forth s = record { reads = s.reads; begun = s.begun; late = s.late }

pub back : {T A : Type 0} {G H : Syntax T A} → Same G H → Within H G
back s = record { reads = s.reads_back; begun = s.begun_back; late = s.late_back }

pub itself : {T A : Type 0} (G : Syntax T A) → Within G G
itself G = record { reads = λ a x r. r; begun = λ a b. b; late = λ i a t l. l }

infixl 5 ◌so◌
pub ◌so◌ : {T A : Type 0} {F G H : Syntax T A} → Within F G → Within G H → Within F H
f so g = record { reads = λ a x r. g.reads a x (f.reads a x r); begun = λ a b. g.begun a (f.begun a b); late = λ i a t l. g.late i a t (f.late i a t l) }

-- ---- alternatives

pub either : {T A : Type 0} (K : T → ℕ) (ks : List ℕ) {G H Z : Syntax T A} → Within G Z → Within H Z → Within (choice K ks G H) Z
either {T} {A} K ks {G} {H} {Z} g h = record { reads = by_reads; begun = by_begun; late = by_late }
  where
    by_reads : (a : List T) (x : A) → (choice K ks G H).reads a x → Z.reads a x
    by_reads a x (inl r) = g.reads a x r
    by_reads a x (inr r) = h.reads a x r

    by_begun : (a : List T) → (choice K ks G H).begun a → Z.begun a
    by_begun a (inl r) = g.begun a r
    by_begun a (inr r) = h.begun a r

    by_late : (i : ℕ) (a : List T) (t : T) → (choice K ks G H).late i a t → Z.late i a t
    by_late i a t (inl r) = g.late i a t r
    by_late i a t (inr r) = h.late i a t r

pub first : {T A : Type 0} (K : T → ℕ) (ks : List ℕ) {X G : Syntax T A} (H : Syntax T A) → Within X G → Within X (choice K ks G H)
first K ks H w = record { reads = λ a x r. inl (w.reads a x r); begun = λ a b. inl (w.begun a b); late = λ i a t l. inl (w.late i a t l) }

pub second : {T A : Type 0} (K : T → ℕ) (ks : List ℕ) {X H : Syntax T A} (G : Syntax T A) → Within X H → Within X (choice K ks G H)
second K ks G w = record { reads = λ a x r. inr (w.reads a x r); begun = λ a b. inr (w.begun a b); late = λ i a t l. inr (w.late i a t l) }

-- alternatives, each within its own
pub each : {T A : Type 0} (K : T → ℕ) (ks : List ℕ) (L : T → ℕ) (ls : List ℕ) {G G' H H' : Syntax T A} → Within G G' → Within H H' → Within (choice K ks G H) (choice L ls G' H')
each K ks L ls {G} {G'} {H} {H'} g h = either K ks (first L ls H' g) (second L ls G' h)

-- nothing is within what nothing begins
pub nothing : {T A : Type 0} (G : Syntax T A) → G.begun [] → Within none G
nothing {T} G e = record { reads = λ a x r. absurd r; begun = λ a b. rw b e; late = λ i a t l. absurd l }

-- ---- sequences

-- each part within the other's, the second for the values of readings
pub in_turn_where : {T A B : Type 0} {G G' : Syntax T A} {H H' : A → Syntax T B} → Within G G' → ((x : A) (a : List T) → G.reads a x → Within (H x) (H' x)) → Within (G then H) (G' then H')
in_turn_where {T} {A} {B} {G} {G'} {H} {H'} g h = record { reads = by_reads; begun = by_begun; late = by_late }
  where
    by_reads : (a : List T) (y : B) → (G then H).reads a y → (G' then H').reads a y
    by_reads a y (b, c, x, e, r, s) = (b, c, x, e, g.reads b x r, (h x b r).reads c y s)

    by_begun : (a : List T) → (G then H).begun a → (G' then H').begun a
    by_begun a (inl b) = inl (g.begun a b)
    by_begun a (inr (b, c, x, e, r, s)) = inr (b, c, x, e, g.reads b x r, (h x b r).begun c s)

    by_late : (i : ℕ) (a : List T) (t : T) → (G then H).late i a t → (G' then H').late i a t
    by_late i a t (inl l) = inl (g.late i a t l)
    by_late i a t (inr (b, c, x, e, r, s)) = inr (b, c, x, e, g.reads b x r, (h x b r).late i c t s)

pub in_turn : {T A B : Type 0} {G G' : Syntax T A} {H H' : A → Syntax T B} → Within G G' → ((x : A) → Within (H x) (H' x)) → Within (G then H) (G' then H')
in_turn g h = in_turn_where g (λ x a r. h x)

-- the same first part
pub on : {T A B : Type 0} (G : Syntax T A) {H H' : A → Syntax T B} → ((x : A) → Within (H x) (H' x)) → Within (G then H) (G then H')
on G h = in_turn (itself G) h

-- alternatives after a part
pub after_either : {T A B : Type 0} (K : T → ℕ) (ks : List ℕ) (U : Syntax T A) (X Y : A → Syntax T B) {Z : Syntax T B} → Within (U then X) Z → Within (U then Y) Z → Within (U then λ u. choice K ks (X u) (Y u)) Z
after_either {T} {A} {B} K ks U X Y {Z} f g = record { reads = by_reads; begun = by_begun; late = by_late }
  where
    by_reads : (a : List T) (y : B) → (U then λ u. choice K ks (X u) (Y u)).reads a y → Z.reads a y
    by_reads a y (b, c, x, e, r, inl s) = f.reads a y (b, c, x, e, r, s)
    by_reads a y (b, c, x, e, r, inr s) = g.reads a y (b, c, x, e, r, s)

    by_begun : (a : List T) → (U then λ u. choice K ks (X u) (Y u)).begun a → Z.begun a
    by_begun a (inl s) = f.begun a (inl s)
    by_begun a (inr (b, c, x, e, r, inl s)) = f.begun a (inr (b, c, x, e, r, s))
    by_begun a (inr (b, c, x, e, r, inr s)) = g.begun a (inr (b, c, x, e, r, s))

    by_late : (i : ℕ) (a : List T) (t : T) → (U then λ u. choice K ks (X u) (Y u)).late i a t → Z.late i a t
    by_late i a t (inl s) = f.late i a t (inl s)
    by_late i a t (inr (b, c, x, e, r, inl s)) = f.late i a t (inr (b, c, x, e, r, s))
    by_late i a t (inr (b, c, x, e, r, inr s)) = g.late i a t (inr (b, c, x, e, r, s))

-- alternatives before a part
pub either_before : {T A B : Type 0} (K : T → ℕ) (ks : List ℕ) {G H : Syntax T A} (U : A → Syntax T B) {Z : Syntax T B} → Within (G then U) Z → Within (H then U) Z → Within (choice K ks G H then U) Z
either_before {T} {A} {B} K ks {G} {H} U {Z} f g = record { reads = by_reads; begun = by_begun; late = by_late }
  where
    by_reads : (a : List T) (y : B) → (choice K ks G H then U).reads a y → Z.reads a y
    by_reads a y (b, c, x, e, inl r, s) = f.reads a y (b, c, x, e, r, s)
    by_reads a y (b, c, x, e, inr r, s) = g.reads a y (b, c, x, e, r, s)

    by_begun : (a : List T) → (choice K ks G H then U).begun a → Z.begun a
    by_begun a (inl (inl s)) = f.begun a (inl s)
    by_begun a (inl (inr s)) = g.begun a (inl s)
    by_begun a (inr (b, c, x, e, inl r, s)) = f.begun a (inr (b, c, x, e, r, s))
    by_begun a (inr (b, c, x, e, inr r, s)) = g.begun a (inr (b, c, x, e, r, s))

    by_late : (i : ℕ) (a : List T) (t : T) → (choice K ks G H then U).late i a t → Z.late i a t
    by_late i a t (inl (inl s)) = f.late i a t (inl s)
    by_late i a t (inl (inr s)) = g.late i a t (inl s)
    by_late i a t (inr (b, c, x, e, inl r, s)) = f.late i a t (inr (b, c, x, e, r, s))
    by_late i a t (inr (b, c, x, e, inr r, s)) = g.late i a t (inr (b, c, x, e, r, s))

-- a value that is made in passing
module _ {T A B C : Type 0} (G : Syntax T A) (f : A → B) (K : B → Syntax T C) where
  pub handed : Within (G then λ x. K (f x)) ((G then λ x. gives (f x)) then K)
  handed = record { reads = by_reads; begun = by_begun; late = by_late }
    where
      by_reads : (a : List T) (y : C) → (G then λ x. K (f x)).reads a y → ((G then λ x. gives (f x)) then K).reads a y
      by_reads a y (b, c, x, e, r, s) = (b, c, f x, e, (b, [], x, sym (append-nil b), r, (refl, refl)), s)

      by_begun : (a : List T) → (G then λ x. K (f x)).begun a → ((G then λ x. gives (f x)) then K).begun a
      by_begun a (inl s) = inl (inl s)
      by_begun a (inr (b, c, x, e, r, s)) = inr (b, c, f x, e, (b, [], x, sym (append-nil b), r, (refl, refl)), s)

      by_late : (i : ℕ) (a : List T) (t : T) → (G then λ x. K (f x)).late i a t → ((G then λ x. gives (f x)) then K).late i a t
      by_late i a t (inl s) = inl (inl s)
      by_late i a t (inr (b, c, x, e, r, s)) = inr (b, c, f x, e, (b, [], x, sym (append-nil b), r, (refl, refl)), s)

  pub handed_back : ((x : A) → (K (f x)).begun []) → Within ((G then λ x. gives (f x)) then K) (G then λ x. K (f x))
  handed_back empty = record { reads = by_reads; begun = by_begun; late = by_late }
    where
      by_reads : (a : List T) (y : C) → ((G then λ x. gives (f x)) then K).reads a y → (G then λ x. K (f x)).reads a y
      by_reads a y (b, c, z, e, (d, g, x, e2, r, (n, v)), s) = (d, c, x, rw (e, e2, n, append-nil d) refl, r, rw v s)

      by_begun : (a : List T) → ((G then λ x. gives (f x)) then K).begun a → (G then λ x. K (f x)).begun a
      by_begun a (inl (inl s)) = inl s
      by_begun a (inl (inr (d, g, x, e2, r, n))) = inr (d, [], x, rw (e2, n) refl, r, empty x)
      by_begun a (inr (b, c, z, e, (d, g, x, e2, r, (n, v)), s)) = inr (d, c, x, rw (e, e2, n, append-nil d) refl, r, rw v s)

      by_late : (i : ℕ) (a : List T) (t : T) → ((G then λ x. gives (f x)) then K).late i a t → (G then λ x. K (f x)).late i a t
      by_late i a t (inl (inl s)) = inl s
      by_late i a t (inl (inr (d, g, x, e2, r, n))) = absurd n
      by_late i a t (inr (b, c, z, e, (d, g, x, e2, r, (n, v)), s)) = inr (d, c, x, rw (e, e2, n, append-nil d) refl, r, rw v s)

-- ---- repetitions

-- whatever the kinds that decide
pub loops : {T A : Type 0} (K : T → ℕ) (ks : A → List ℕ) (L : T → ℕ) (ls : A → List ℕ) {step step' : A → Syntax T A} → ((x : A) → Within (step x) (step' x)) → (n : ℕ) (x : A) → Within (loop K n ks step x) (loop L n ls step' x)
loops K ks L ls g zero x = each K (ks x) L (ls x) (itself none) (itself (gives x))
loops K ks L ls g (suc n) x = each K (ks x) L (ls x) (in_turn (g x) (λ y. loops K ks L ls g n y)) (itself (gives x))

pub turns : {T A : Type 0} (K : T → ℕ) (ks : A → List ℕ) (L : T → ℕ) (ls : A → List ℕ) {step step' : A → Syntax T A} → ((x : A) → Within (step x) (step' x)) → (x : A) → Within (many K ks step x) (many L ls step' x)
turns K ks L ls g x = record {
  reads = λ a y r. (r.0, (loops K ks L ls g r.0 x).reads a y r.1);
  begun = λ a r. (r.0, (loops K ks L ls g r.0 x).begun a r.1);
  late = λ i a t r. (r.0, (loops K ks L ls g r.0 x).late i a t r.1);
}

-- ---- values that are given

pub given_first : {T A B : Type 0} (x : A) (K : A → Syntax T B) → (K x).begun [] → Within (gives x then K) (K x)
given_first {T} {A} {B} x K empty = record { reads = by_reads; begun = by_begun; late = by_late }
  where
    by_reads : (a : List T) (y : B) → (gives x then K).reads a y → (K x).reads a y
    by_reads a y (b, c, z, e, (n, v), s) = rw (e, n) (subst (λ q. (K q).reads c y) (sym v) s)

    by_begun : (a : List T) → (gives x then K).begun a → (K x).begun a
    by_begun a (inl n) = rw n empty
    by_begun a (inr (b, c, z, e, (n, v), s)) = rw (e, n) (subst (λ q. (K q).begun c) (sym v) s)

    by_late : (i : ℕ) (a : List T) (t : T) → (gives x then K).late i a t → (K x).late i a t
    by_late i a t (inl l) = absurd l
    by_late i a t (inr (b, c, z, e, (n, v), s)) = rw (e, n) (subst (λ q. (K q).late i c t) (sym v) s)

pub given_back : {T A B : Type 0} (x : A) (K : A → Syntax T B) → Within (K x) (gives x then K)
given_back x K = record {
  reads = λ a y r. ([], a, x, refl, (refl, refl), r);
  begun = λ a r. inr ([], a, x, refl, (refl, refl), r);
  late = λ i a t r. inr ([], a, x, refl, (refl, refl), r);
}

-- ---- at any bound

pub at_each : {T A : Type 0} {F : ℕ → Syntax T A} {Z : Syntax T A} → ((k : ℕ) → Within (F k) Z) → Within (limit F) Z
at_each w = record { reads = λ a x r. (w r.0).reads a x r.1; begun = λ a r. (w r.0).begun a r.1; late = λ i a t r. (w r.0).late i a t r.1 }

pub at_some : {T A : Type 0} (F : ℕ → Syntax T A) (k : ℕ) → Within (F k) (limit F)
at_some F k = record { reads = λ a x r. (k, r); begun = λ a r. (k, r); late = λ i a t r. (k, r) }

-- ---- alternatives of sequences

pub apart_before : {T A B : Type 0} (K : T → ℕ) (ks : List ℕ) (G H : Syntax T A) (U : A → Syntax T B) → Within (choice K ks G H then U) (choice K ks (G then U) (H then U))
apart_before K ks G H U = either_before K ks U (first K ks (H then U) (itself (G then U))) (second K ks (G then U) (itself (H then U)))

pub apart_after : {T A B : Type 0} (K : T → ℕ) (ks : List ℕ) (U : Syntax T A) (X Y : A → Syntax T B) → Within (U then λ u. choice K ks (X u) (Y u)) (choice K ks (U then X) (U then Y))
apart_after K ks U X Y = after_either K ks U X Y (first K ks (U then Y) (itself (U then X))) (second K ks (U then X) (itself (U then Y)))

-- three parts in a row, and what stands after them
module _ {T A B C D Z : Type 0} (G : Syntax T A) (H : A → Syntax T B) (M : A → B → Syntax T C) (f : A → B → D) (K : D → Syntax T Z) where
  pub three : Within (G then λ x. H x then λ y. M x y then λ _. K (f x y)) ((G then λ x. H x then λ y. M x y then λ _. gives (f x y)) then K)
  three =
      on G (λ x. on (H x) (λ y. handed (M x y) (λ _. f x y) K) so forth (to_left (H x) (λ y. M x y then λ _. gives (f x y)) K))
      so forth (to_left G (λ x. H x then λ y. M x y then λ _. gives (f x y)) K)

  pub three_back : ((x : A) (y : B) → (K (f x y)).begun []) → Within ((G then λ x. H x then λ y. M x y then λ _. gives (f x y)) then K) (G then λ x. H x then λ y. M x y then λ _. K (f x y))
  three_back empty =
      back (to_left G (λ x. H x then λ y. M x y then λ _. gives (f x y)) K)
      so on G (λ x. back (to_left (H x) (λ y. M x y then λ _. gives (f x y)) K) so on (H x) (λ y. handed_back (M x y) (λ _. f x y) K (λ _. empty x y)))

-- what holds of each value that is read
pub record Gives {T A : Type 0} (P : A → Type 0) (G : Syntax T A) : Type 0 where
  pub all : (a : List T) (x : A) → G.reads a x → P x

pub gives_in_turn : {T A B : Type 0} (P : B → Type 0) (G : Syntax T A) (H : A → Syntax T B) → ((x : A) → Gives P (H x)) → Gives P (G then H)
gives_in_turn {T} {A} {B} P G H h = record { all = by }
  where
    by : (a : List T) (y : B) → (G then H).reads a y → P y
    by a y (b, c, x, e, r, s) = (h x).all c y s

pub gives_either : {T A : Type 0} (P : A → Type 0) (K : T → ℕ) (ks : List ℕ) (G H : Syntax T A) → Gives P G → Gives P H → Gives P (choice K ks G H)
gives_either {T} {A} P K ks G H g h = record { all = by }
  where
    by : (a : List T) (x : A) → (choice K ks G H).reads a x → P x
    by a x (inl r) = g.all a x r
    by a x (inr r) = h.all a x r

pub gives_value : {T A : Type 0} (P : A → Type 0) (v : A) → P v → Gives {T = T} P (gives v)
gives_value P v p = record { all = λ a x r. subst P r.1 p }

-- ---- what may be left out, before what stands after it

pub unless_forth : {T A : Type 0} (K : T → ℕ) (ks : List ℕ) (L : T → ℕ) (ls : List ℕ) (b : Bool) (V B : Syntax T A) → Within (cond b V (choice K ks B V)) (choice L ls V (cond b none B))
unless_forth K ks L ls true V B = first L ls none (itself V)
unless_forth K ks L ls false V B = either K ks (second L ls V (itself B)) (first L ls B (itself V))

pub unless_back : {T A : Type 0} (K : T → ℕ) (ks : List ℕ) (L : T → ℕ) (ls : List ℕ) (b : Bool) (V B : Syntax T A) → V.begun [] → Within (choice L ls V (cond b none B)) (cond b V (choice K ks B V))
unless_back K ks L ls true V B e = either L ls (itself V) (nothing V e)
unless_back K ks L ls false V B e = either L ls (second K ks B (itself V)) (first K ks V (itself B))

module _ {T A B C Z : Type 0} (K : T → ℕ) (ks : List ℕ) (L : T → ℕ) (ls : List ℕ) (X : Syntax T A) (M : Syntax T C) (f : A → B) (v : B) (U : B → Syntax T Z) where
  abbrev closed_each : Syntax T B
  closed_each = choice K ks (X then λ x. M then λ _. gives (f x)) (M then λ _. gives v)

  abbrev left_out : Syntax T B
  left_out = choice L ls (X then λ x. gives (f x)) (gives v)

  abbrev closing : B → Syntax T Z
  closing e = M then λ _. U e

  pub maybe_forth : ((e : B) → (U e).begun []) → Within (closed_each then U) (left_out then closing)
  maybe_forth empty =
      either_before K ks U
      (back (to_left X (λ x. M then λ _. gives (f x)) U) so on X (λ x. handed_back M (λ _. f x) U (λ _. empty (f x))) so handed X f closing so in_turn (first L ls _ (itself _)) (λ e. itself (closing e)))
      (handed_back M (λ _. v) U (λ _. empty v) so given_back v closing so in_turn (second L ls _ (itself (gives v))) (λ e. itself (closing e)))

  pub maybe_back : M.begun [] → Within (left_out then closing) (closed_each then U)
  maybe_back empty =
      either_before L ls closing
      (handed_back X f closing (λ x. inl empty) so on X (λ x. handed M (λ _. f x) U) so forth (to_left X (λ x. M then λ _. gives (f x)) U) so in_turn (first K ks _ (itself _)) (λ e. itself (U e)))
      (given_first v closing (inl empty) so handed M (λ _. v) U so in_turn (second K ks _ (itself _)) (λ e. itself (U e)))

-- ---- one deeper than a limit allows

pub deeper : {T A : Type 0} (label : ℕ) (K : T → ℕ) (ks : List ℕ) (L : T → ℕ) (ls : List ℕ) {G H : Syntax T A} → Within G H → Within (deep label K ks G) (deep label L ls H)
deeper label K ks L ls w = record { reads = w.reads; begun = w.begun; late = λ i a t l. (l.0, l.1, w.begun (t ∷ []) l.2) }

-- ---- nothing, and what is read at any bound, before a part

pub ended_none : {T A B : Type 0} (U : A → Syntax T B) (Z : Syntax T B) → Z.begun [] → Within (none then U) Z
ended_none {T} {A} {B} U Z empty = record { reads = by_reads; begun = by_begun; late = by_late }
  where
    by_reads : (a : List T) (y : B) → (none then U).reads a y → Z.reads a y
    by_reads a y (b, c, x, e, r, s) = absurd r

    by_begun : (a : List T) → (none then U).begun a → Z.begun a
    by_begun a (inl e) = rw e empty
    by_begun a (inr (b, c, x, e, r, s)) = absurd r

    by_late : (i : ℕ) (a : List T) (t : T) → (none then U).late i a t → Z.late i a t
    by_late i a t (inl l) = absurd l
    by_late i a t (inr (b, c, x, e, r, s)) = absurd r

pub limited : {T A B : Type 0} (F : ℕ → Syntax T A) (U : A → Syntax T B) {Z : Syntax T B} → ((n : ℕ) → Within (F n then U) Z) → Within (limit F then U) Z
limited {T} {A} {B} F U {Z} w = record { reads = by_reads; begun = by_begun; late = by_late }
  where
    by_reads : (a : List T) (y : B) → (limit F then U).reads a y → Z.reads a y
    by_reads a y (b, c, x, e, (n, r), s) = (w n).reads a y (b, c, x, e, r, s)

    by_begun : (a : List T) → (limit F then U).begun a → Z.begun a
    by_begun a (inl (n, s)) = (w n).begun a (inl s)
    by_begun a (inr (b, c, x, e, (n, r), s)) = (w n).begun a (inr (b, c, x, e, r, s))

    by_late : (i : ℕ) (a : List T) (t : T) → (limit F then U).late i a t → Z.late i a t
    by_late i a t (inl (n, s)) = (w n).late i a t (inl s)
    by_late i a t (inr (b, c, x, e, (n, r), s)) = (w n).late i a t (inr (b, c, x, e, r, s))

pub limited_after : {T A B C : Type 0} (G : Syntax T A) (F : ℕ → A → Syntax T B) (U : B → Syntax T C) {Z : Syntax T C} → ((n : ℕ) → Within (G then λ x. F n x then U) Z) → Within (G then λ x. limit (λ n. F n x) then U) Z
limited_after {T} {A} {B} {C} G F U {Z} w = record { reads = by_reads; begun = by_begun; late = by_late }
  where
    by_reads : (a : List T) (y : C) → (G then λ x. limit (λ n. F n x) then U).reads a y → Z.reads a y
    by_reads a y (b, c, x, e, r, (d, f, z, e2, (n, s), u)) = (w n).reads a y (b, c, x, e, r, (d, f, z, e2, s, u))

    by_begun : (a : List T) → (G then λ x. limit (λ n. F n x) then U).begun a → Z.begun a
    by_begun a (inl s) = (w 0).begun a (inl s)
    by_begun a (inr (b, c, x, e, r, inl (n, s))) = (w n).begun a (inr (b, c, x, e, r, inl s))
    by_begun a (inr (b, c, x, e, r, inr (d, f, z, e2, (n, s), u))) = (w n).begun a (inr (b, c, x, e, r, inr (d, f, z, e2, s, u)))

    by_late : (i : ℕ) (a : List T) (t : T) → (G then λ x. limit (λ n. F n x) then U).late i a t → Z.late i a t
    by_late i a t (inl s) = (w 0).late i a t (inl s)
    by_late i a t (inr (b, c, x, e, r, inl (n, s))) = (w n).late i a t (inr (b, c, x, e, r, inl s))
    by_late i a t (inr (b, c, x, e, r, inr (d, f, z, e2, (n, s), u))) = (w n).late i a t (inr (b, c, x, e, r, inr (d, f, z, e2, s, u)))

-- ---- what only may stand after a value

pub guarded_forth : {T A : Type 0} (K : T → ℕ) (ks : List ℕ) (L : T → ℕ) (ls : List ℕ) (b : Bool) (F G : Syntax T A) → Within (cond b (choice K ks F G) G) (choice L ls G (cond b F none))
guarded_forth K ks L ls true F G = either K ks (second L ls G (itself F)) (first L ls F (itself G))
guarded_forth K ks L ls false F G = first L ls none (itself G)

pub guarded_back : {T A : Type 0} (K : T → ℕ) (ks : List ℕ) (L : T → ℕ) (ls : List ℕ) (b : Bool) (F G : Syntax T A) → G.begun [] → Within (choice L ls G (cond b F none)) (cond b (choice K ks F G) G)
guarded_back K ks L ls true F G e = either L ls (second K ks F (itself G)) (first K ks G (itself F))
guarded_back K ks L ls false F G e = either L ls (itself G) (nothing G e)

-- ---- at most so many tokens

pub capped_within : {T A : Type 0} (label most : ℕ) {G H : Syntax T A} → Within G H → Within (at_most label most G) (at_most label most H)
capped_within {T} {A} label most {G} {H} w = record { reads = λ a x r. (w.reads a x r.0, r.1); begun = w.begun; late = by_late }
  where
    by_late : (i : ℕ) (a : List T) (t : T) → (at_most label most G).late i a t → (at_most label most H).late i a t
    by_late i a t (inl l) = inl (w.late i a t l)
    by_late i a t (inr (e, q, b)) = inr (e, q, w.begun (a ++ (t ∷ [])) b)

-- ---- all but what another reads

pub but_forth : {T A B : Type 0} {X G : Syntax T A} (F : Syntax T B) → Within X G → ((a : List T) (x : A) (y : B) → X.reads a x → F.reads a y → ⊥) → Within X (G but F)
but_forth F w apart = record { reads = λ a x r. (w.reads a x r, λ y s. apart a x y r s); begun = w.begun; late = w.late }

-- what begins and limits G does so in X too
pub record Bounds {T A : Type 0} (G X : Syntax T A) : Type 0 where
  pub begun : (a : List T) → G.begun a → X.begun a
  pub late : (i : ℕ) (a : List T) (t : T) → G.late i a t → X.late i a t

pub but_back : {T A B : Type 0} {X G : Syntax T A} (F : Syntax T B) → Bounds G X → ((a : List T) (x : A) → G.reads a x → ((y : B) → F.reads a y → ⊥) → X.reads a x) → Within (G but F) X
but_back F w reads = record { reads = λ a x r. reads a x r.0 r.1; begun = w.begun; late = w.late }
