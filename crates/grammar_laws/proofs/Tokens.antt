-- A production that begins with a token, token by token, and what a table of punctuators says.
use Rattle.std.proofs.Common.{◌≡◌, ℕ, Bool, true, false, cond, eqb, List, [], ◌∷◌, ◌++◌, Ok, Option, Some, None, refl, sym, ap, subst, ◌∙◌, ◌⊎◌, inl, inr, append_assoc}
use Rattle.std.proofs.lemmas.Bool.{eqb-true}
use Rattle.grammar.specs.Syntax.{Syntax, one, ◌then◌}
use Rattle.grammar_laws.specs.Plain.{of_first, with_first}
use Rattle.grammar_laws.proofs.Inclusions.{Within}
use Rattle.c_syntax.specs.declared.place.Place.{Place}
use Rattle.c_syntax.specs.Tokens as token
use Rattle.c_syntax.specs.Tokens.{PlainTokenKind, PlainToken}
use Rattle.c_model.specs.Terminals.{placed, entry, mark_entry}

-- this token with this value
abbrev pub just : {T A : Type 0} → T → A → Syntax T A
just {T} t x = record {
  reads = λ a y. (a ≡ t ∷ []) × (x ≡ y);
  begun = λ a. (a ≡ []) ⊎ (a ≡ t ∷ []);
  late = λ i a u. ⊥;
  parse = λ ts. Ok (x, ts);
}

pub by_token : {T A B : Type 0} {f : T → Option A} {H : A → Syntax T B} {Z : Syntax T B} → Z.begun [] → ((t : T) (x : A) → f t ≡ Some x → Within (just t x then H) Z) → Within (one f then H) Z
by_token {T} {A} {B} {f} {H} {Z} empty w = record { reads = by_reads; begun = by_begun; late = by_late }
  where
    by_reads : (a : List T) (y : B) → (one f then H).reads a y → Z.reads a y
    by_reads a y (b, c, x, e, (t, e2, e3), s) = (w t x e3).reads a y (b, c, x, e, (e2, refl), s)

    by_begun : (a : List T) → (one f then H).begun a → Z.begun a
    by_begun a (inl (inl e)) = rw e empty
    by_begun a (inl (inr (t, x, e2, e3))) = (w t x e3).begun a (inl (inr e2))
    by_begun a (inr (b, c, x, e, (t, e2, e3), s)) = (w t x e3).begun a (inr (b, c, x, e, (e2, refl), s))

    by_late : (i : ℕ) (a : List T) (u : T) → (one f then H).late i a u → Z.late i a u
    by_late i a u (inl l) = absurd l
    by_late i a u (inr (b, c, x, e, (t, e2, e3), s)) = (w t x e3).late i a u (inr (b, c, x, e, (e2, refl), s))

pub just_then : {T A B : Type 0} {f : T → Option A} (t : T) (x : A) (H H' : A → Syntax T B) → f t ≡ Some x → Within (H x) (H' x) → Within (just t x then H) (one f then H')
just_then {T} {A} {B} {f} t x H H' p w = record { reads = by_reads; begun = by_begun; late = by_late }
  where
    by_reads : (a : List T) (y : B) → (just t x then H).reads a y → (one f then H').reads a y
    by_reads a y (b, c, z, e, (e2, v), s) = (b, c, x, e, (t, e2, p), w.reads c y (subst (λ q. (H q).reads c y) (sym v) s))

    by_begun : (a : List T) → (just t x then H).begun a → (one f then H').begun a
    by_begun a (inl (inl e)) = inl (inl e)
    by_begun a (inl (inr e)) = inl (inr (t, x, e, p))
    by_begun a (inr (b, c, z, e, (e2, v), s)) = inr (b, c, x, e, (t, e2, p), w.begun c (subst (λ q. (H q).begun c) (sym v) s))

    by_late : (i : ℕ) (a : List T) (u : T) → (just t x then H).late i a u → (one f then H').late i a u
    by_late i a u (inl l) = absurd l
    by_late i a u (inr (b, c, z, e, (e2, v), s)) = inr (b, c, x, e, (t, e2, p), w.late i c u (subst (λ q. (H q).late i c u) (sym v) s))

pub just_on : {T A B : Type 0} (t : T) (x : A) (H H' : A → Syntax T B) → Within (H x) (H' x) → Within (just t x then H) (just t x then H')
just_on {T} {A} {B} t x H H' w = record { reads = by_reads; begun = by_begun; late = by_late }
  where
    by_reads : (a : List T) (y : B) → (just t x then H).reads a y → (just t x then H').reads a y
    by_reads a y (b, c, z, e, (e2, v), s) = (b, c, x, e, (e2, refl), w.reads c y (subst (λ q. (H q).reads c y) (sym v) s))

    by_begun : (a : List T) → (just t x then H).begun a → (just t x then H').begun a
    by_begun a (inl e) = inl e
    by_begun a (inr (b, c, z, e, (e2, v), s)) = inr (b, c, x, e, (e2, refl), w.begun c (subst (λ q. (H q).begun c) (sym v) s))

    by_late : (i : ℕ) (a : List T) (u : T) → (just t x then H).late i a u → (just t x then H').late i a u
    by_late i a u (inl l) = absurd l
    by_late i a u (inr (b, c, z, e, (e2, v), s)) = inr (b, c, x, e, (e2, refl), w.late i c u (subst (λ q. (H q).late i c u) (sym v) s))

-- a token that one production begins with, and another too, with another value
pub just_as : {T A B C : Type 0} {g : T → Option B} (t : T) (x : A) (y : B) (H : A → Syntax T C) (K : B → Syntax T C) → g t ≡ Some y → Within (H x) (K y) → Within (just t x then H) (one g then K)
just_as {T} {A} {B} {C} {g} t x y H K p w = record { reads = by_reads; begun = by_begun; late = by_late }
  where
    by_reads : (a : List T) (z : C) → (just t x then H).reads a z → (one g then K).reads a z
    by_reads a z (b, c, u, e, (e2, v), s) = (b, c, y, e, (t, e2, p), w.reads c z (subst (λ q. (H q).reads c z) (sym v) s))

    by_begun : (a : List T) → (just t x then H).begun a → (one g then K).begun a
    by_begun a (inl (inl e)) = inl (inl e)
    by_begun a (inl (inr e)) = inl (inr (t, y, e, p))
    by_begun a (inr (b, c, u, e, (e2, v), s)) = inr (b, c, y, e, (t, e2, p), w.begun c (subst (λ q. (H q).begun c) (sym v) s))

    by_late : (i : ℕ) (a : List T) (u : T) → (just t x then H).late i a u → (one g then K).late i a u
    by_late i a u (inl l) = absurd l
    by_late i a u (inr (b, c, z, e, (e2, v), s)) = inr (b, c, y, e, (t, e2, p), w.late i c u (subst (λ q. (H q).late i c u) (sym v) s))

-- token by token, each with a value of its own
pub one_by_one : {T A B C : Type 0} {f : T → Option A} {g : T → Option B} {H : A → Syntax T C} {K : B → Syntax T C} → ((t : T) (x : A) → f t ≡ Some x → (y : B) × (g t ≡ Some y) × Within (H x) (K y)) → Within (one f then H) (one g then K)
one_by_one {T} {A} {B} {C} {f} {g} {H} {K} w = by_token (inl (inl refl)) (λ t x e. let m = w t x e in just_as t x m.0 H K m.1 m.2)

-- ---- what the first token says

pub grouped : {T : Type 0} (a b c g h : List T) → a ≡ b ++ c → c ≡ g ++ h → a ≡ (b ++ g) ++ h
grouped {T} a b c g h e e2 = e ∙ ap (λ (q : List T). b ++ q) e2 ∙ sym (append_assoc b g h)

spread : {T : Type 0} (a b c g h : List T) → a ≡ b ++ c → b ≡ g ++ h → a ≡ g ++ (h ++ c)
spread {T} a b c g h e e2 = e ∙ ap (λ (q : List T). q ++ c) e2 ∙ append_assoc g h c

module _ {T A B C D : Type 0} {f : T → Option A} (w : T → Option B) (v : A → B) (says : (t : T) (x : A) → f t ≡ Some x → w t ≡ Some (v x)) (G : A → Syntax T C) (Z : Syntax T C) (H : C → B → Syntax T D) where
  abbrev apart : Syntax T D
  apart = one f then λ x. G x then λ y. H y (v x)

  abbrev whole : Syntax T D
  whole = with_first w Z then λ z. H z.0 z.1

  first_is : (b g : List T) (t : T) (x : A) → b ≡ t ∷ [] → f t ≡ Some x → of_first w (b ++ g) ≡ Some (v x)
  first_is b g t x e p = rw e (says t x p)

  pub first_told : Within (one f then G) Z → Within apart whole
  first_told p = record { reads = by_reads; begun = by_begun; late = by_late }
    where
      by_reads : (a : List T) (d : D) → apart.reads a d → whole.reads a d
      by_reads a d (b, c, x, e, (t, e2, e3), (g, h, y, e4, r, s)) = (b ++ g, h, (y, v x), grouped a b c g h e e4, (p.reads (b ++ g) y (b, g, x, refl, (t, e2, e3), r), first_is b g t x e2 e3), s)

      by_begun : (a : List T) → apart.begun a → whole.begun a
      by_begun a (inl m) = inl (p.begun a (inl m))
      by_begun a (inr (b, c, x, e, m, inl s)) = inl (p.begun a (inr (b, c, x, e, m, s)))
      by_begun a (inr (b, c, x, e, (t, e2, e3), inr (g, h, y, e4, r, s))) = inr (b ++ g, h, (y, v x), grouped a b c g h e e4, (p.reads (b ++ g) y (b, g, x, refl, (t, e2, e3), r), first_is b g t x e2 e3), s)

      by_late : (i : ℕ) (a : List T) (u : T) → apart.late i a u → whole.late i a u
      by_late i a u (inl l) = absurd l
      by_late i a u (inr (b, c, x, e, m, inl s)) = inl (p.late i a u (inr (b, c, x, e, m, s)))
      by_late i a u (inr (b, c, x, e, (t, e2, e3), inr (g, h, y, e4, r, s))) = inr (b ++ g, h, (y, v x), grouped a b c g h e e4, (p.reads (b ++ g) y (b, g, x, refl, (t, e2, e3), r), first_is b g t x e2 e3), s)

  same_value : (b : List T) (u : B) (b' g : List T) (t : T) (x : A) → of_first w b ≡ Some u → b ≡ b' ++ g → b' ≡ t ∷ [] → f t ≡ Some x → u ≡ v x
  same_value b u b' g t x q e e2 p = let both : Some u ≡ Some (v x) = sym q ∙ ap (of_first w) e ∙ first_is b' g t x e2 p in cc

  pub first_told_back : Within Z (one f then G) → Within whole apart
  first_told_back p = record { reads = by_reads; begun = by_begun; late = by_late }
    where
      read_on : (a b c : List T) (z : C × B) (d : D) → a ≡ b ++ c → of_first w b ≡ Some z.1 → (H z.0 z.1).reads c d → (one f then G).reads b z.0 → apart.reads a d
      read_on a b c z d e q s (b', g, x, e1, (t, e2, e3), r) =
          (b', g ++ c, x, spread a b c b' g e e1, (t, e2, e3), (g, c, z.0, refl, r, subst (λ k. (H z.0 k).reads c d) (same_value b z.1 b' g t x q e1 e2 e3) s))

      begin_on : (a b c : List T) (z : C × B) → a ≡ b ++ c → of_first w b ≡ Some z.1 → (H z.0 z.1).begun c → (one f then G).reads b z.0 → apart.begun a
      begin_on a b c z e q s (b', g, x, e1, (t, e2, e3), r) =
          inr (b', g ++ c, x, spread a b c b' g e e1, (t, e2, e3), inr (g, c, z.0, refl, r, subst (λ k. (H z.0 k).begun c) (same_value b z.1 b' g t x q e1 e2 e3) s))

      limit_on : (i : ℕ) (a b c : List T) (u : T) (z : C × B) → a ≡ b ++ c → of_first w b ≡ Some z.1 → (H z.0 z.1).late i c u → (one f then G).reads b z.0 → apart.late i a u
      limit_on i a b c u z e q s (b', g, x, e1, (t, e2, e3), r) =
          inr (b', g ++ c, x, spread a b c b' g e e1, (t, e2, e3), inr (g, c, z.0, refl, r, subst (λ k. (H z.0 k).late i c u) (same_value b z.1 b' g t x q e1 e2 e3) s))

      begun_first : (a : List T) → (one f then G).begun a → apart.begun a
      begun_first a (inl m) = inl m
      begun_first a (inr (b, c, x, e, m, s)) = inr (b, c, x, e, m, inl s)

      late_first : (i : ℕ) (a : List T) (u : T) → (one f then G).late i a u → apart.late i a u
      late_first i a u (inl l) = absurd l
      late_first i a u (inr (b, c, x, e, m, s)) = inr (b, c, x, e, m, inl s)

      by_reads : (a : List T) (d : D) → whole.reads a d → apart.reads a d
      by_reads a d (b, c, z, e, (r, q), s) = read_on a b c z d e q s (p.reads b z.0 r)

      by_begun : (a : List T) → whole.begun a → apart.begun a
      by_begun a (inl m) = begun_first a (p.begun a m)
      by_begun a (inr (b, c, z, e, (r, q), s)) = begin_on a b c z e q s (p.reads b z.0 r)

      by_late : (i : ℕ) (a : List T) (u : T) → whole.late i a u → apart.late i a u
      by_late i a u (inl l) = late_first i a u (p.late i a u l)
      by_late i a u (inr (b, c, z, e, (r, q), s)) = limit_on i a b c u z e q s (p.reads b z.0 r)

-- ---- tables

-- what holds of each entry of a table
abbrev pub AllEntries : {A : Type 0} → (ℕ → A → Type 0) → List (ℕ × A) → Type 0
AllEntries P [] = Unit {0}
AllEntries P (x ∷ xs) = P x.0 x.1 × AllEntries P xs

pub entry_holds : {A : Type 0} (P : ℕ → A → Type 0) (m : ℕ) (table : List (ℕ × A)) (v : A) → AllEntries P table → entry m table ≡ Some v → P m v
entry_holds P m [] v h e = absurd cc
entry_holds {A} P m (x ∷ xs) v h e = by (eqb m x.0) refl e (λ f. entry_holds P m xs v h.1 f)
  where
    by : (b : Bool) → eqb m x.0 ≡ b → cond b (Some x.1) (entry m xs) ≡ Some v → (entry m xs ≡ Some v → P m v) → P m v
    by true q f more = let same : x.1 ≡ v = cc in subst (λ k. P k v) (sym (eqb-true m x.0 q)) (subst (λ y. P x.0 y) same h.0)
    by false q f more = more f

pub placed_is : {A : Type 0} (f : PlainTokenKind → Option A) (t : PlainToken) (x : A × Place) → placed f t ≡ Some x → f t.kind ≡ Some x.0
placed_is {A} f t x e = by (f t.kind) refl e
  where
    by : (o : Option A) → f t.kind ≡ o → elim o [ Some y ↦ Some (y, t.place) | None ↦ None ] ≡ Some x → f t.kind ≡ Some x.0
    by (Some y) q g = let same : (y, t.place) ≡ x = cc in q ∙ ap (λ (z : A × Place). Some z.0) same
    by None q g = absurd cc

pub place_is : {A : Type 0} (f : PlainTokenKind → Option A) (t : PlainToken) (x : A × Place) → placed f t ≡ Some x → t.place ≡ x.1
place_is {A} f t x e = by (f t.kind) e
  where
    by : (o : Option A) → elim o [ Some y ↦ Some (y, t.place) | None ↦ None ] ≡ Some x → t.place ≡ x.1
    by (Some y) g = let same : (y, t.place) ≡ x = cc in ap (λ (z : A × Place). z.1) same
    by None g = absurd cc

-- a token of this kind has this value at its place
pub placed_some : {A : Type 0} (f : PlainTokenKind → Option A) (t : PlainToken) (v : A) → f t.kind ≡ Some v → placed f t ≡ Some (v, t.place)
placed_some {A} f t v e = by (f t.kind) e
  where
    by : (o : Option A) → o ≡ Some v → ◌≡◌ {A = Option (A × Place)} (elim o [ Some y ↦ Some (y, t.place) | None ↦ None ]) (Some (v, t.place))
    by o q = rw q refl

-- what a token of a table is
abbrev pub IsEntry : {A : Type 0} → (ℕ → A → Type 0) → PlainTokenKind → A → Type 0
IsEntry P k v = (m : ℕ) × (k ≡ token.Mark m) × P m v

mark_holds : {A : Type 0} (P : ℕ → A → Type 0) (table : List (ℕ × A)) (k : PlainTokenKind) (v : A) → AllEntries P table → mark_entry table k ≡ Some v → IsEntry P k v
mark_holds P table (token.Mark m) v h e = (m, refl, entry_holds P m table v h e)
mark_holds P table _ v h e = absurd cc

pub table_holds : {A : Type 0} (P : ℕ → A → Type 0) (table : List (ℕ × A)) (t : PlainToken) (x : A × Place) → AllEntries P table → placed (mark_entry table) t ≡ Some x → IsEntry P t.kind x.0
table_holds P table t x h e = mark_holds P table t.kind x.0 h (placed_is (mark_entry table) t x e)

-- a token that one table has, and another too
pub in_table : {A : Type 0} (table other : List (ℕ × A)) (t : PlainToken) (x : A × Place) (m : ℕ) → placed (mark_entry table) t ≡ Some x → t.kind ≡ token.Mark m → entry m other ≡ Some x.0 → placed (mark_entry other) t ≡ Some x
in_table {A} table other t x m p k e = by (mark_entry other t.kind) (rw k e)
  where
    by : (o : Option A) → o ≡ Some x.0 → elim o [ Some y ↦ Some (y, t.place) | None ↦ None ] ≡ Some x
    by o q = rw (q, place_is (mark_entry table) t x p) refl
