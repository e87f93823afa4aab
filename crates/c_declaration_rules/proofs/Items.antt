-- Items of a list in braces, each for its part of an object.
use Rattle.std.proofs.Common.{◌≡◌, ℕ, zero, suc, ◌-◌, ◌<◌, ◌≤◌, List, [], ◌∷◌, ◌++◌, drop, refl, sym, ap, ◌∙◌, subst, append_assoc, slice_get, Bool, true, false, cond, nat_eq, nat_lt, Option, Some, None, option_map, Result, Ok, Err, arith}
use Rattle.std.proofs.lemmas.Bool.Decides.{nat_tests}
use Rattle.std.proofs.lemmas.Option.{slice_get-map}
use Rattle.c_syntax.specs.declared.statement.Init.{Init}
use Rattle.c_syntax.specs.Ctypes.{PlainType, Void, Int, Ptr, Array, Struct, Named, StructTag, EnumTag}
use Rattle.c_syntax.specs.Expressions.{Expression, place_of}
use Rattle.c_syntax.specs.Programs.{StructMember, StructType}
use Rattle.c_syntax.specs.Layouts.{count_of, members_of_struct}
use Rattle.c_syntax.specs.Statements.{Initialiser, One, Many, Initialisers, NoInitialiser, Listed, plain_init, plain_inits}
use Rattle.c_model.specs.Checked.{Checked, Good, Bad, both_parts, one_part, faulty}
use Rattle.c_model.specs.ExpressionTyping.{Sight, no_type, typed}
use Rattle.c_model.specs.DeclarationTyping.{Slots, Each, Members, member_types, next_slot, place_of_initialiser, too_many, typed_initialiser, typed_items}
use Rattle.c_scopes.specs.declared.fault.TypeFault.{TypeFault}
use Rattle.c_scopes.specs.declared.fault.TypeFault.TheVariants.{Refused, Memory}
use Rattle.c_scopes.specs.Answers.{Answers, both, lesser_of}
use Rattle.c_scopes.proofs.Least.{both_refused}
use Rattle.c_declaration_rules.specs.Initialisers.{slot, type_at}

-- ---- the objects that items initialise

-- those behind as many items
abbrev pub slots_at : Sight → PlainType → ℕ → Slots
slots_at s (Array t n) k = Each t (count_of n - k)
slots_at s (Struct n) k = Members (drop k (member_types (slice_get s.structs n)))
slots_at s t k = Each t (1 - k)

each_at : (t : PlainType) (n k : ℕ) → next_slot (Each t (n - k)) ≡ option_map (λ u. (u, Each t (n - suc k))) (cond (nat_lt k n) (Some t) None)
each_at t n k = by (nat_lt k n) refl
  where
    by : (b : Bool) → nat_lt k n ≡ b → next_slot (Each t (n - k)) ≡ option_map (λ u. (u, Each t (n - suc k))) (cond b (Some t) None)
    by true e = let l : k < n = grind (arith, nat_tests, e) in ap (λ m. next_slot (Each t m)) (let m : n - k ≡ suc (n - suc k) = omega (arith, l) in m)
    by false e = let l : n ≤ k = grind (arith, nat_tests, e) in ap (λ m. next_slot (Each t m)) (let m : n - k ≡ 0 = omega (arith, l) in m)

one_at : (t : PlainType) (k : ℕ) → next_slot (Each t (1 - k)) ≡ option_map (λ u. (u, Each t (1 - suc k))) (cond (nat_eq k 0) (Some t) None)
one_at t k = by (nat_eq k 0) refl
  where
    by : (b : Bool) → nat_eq k 0 ≡ b → next_slot (Each t (1 - k)) ≡ option_map (λ u. (u, Each t (1 - suc k))) (cond b (Some t) None)
    by true e = let l : k ≡ 0 = grind (arith, nat_tests, e) in ap (λ m. next_slot (Each t m)) (let m : 1 - k ≡ suc (1 - suc k) = omega (arith, l) in m)
    by false e = let l : 1 ≤ k = grind (arith, nat_tests, e) in ap (λ m. next_slot (Each t m)) (let m : 1 - k ≡ 0 = omega (arith, l) in m)

members_at : (ts : List PlainType) (k : ℕ) → next_slot (Members (drop k ts)) ≡ option_map (λ u. (u, Members (drop (suc k) ts))) (slice_get ts k)
members_at [] zero = refl
members_at [] (suc k) = refl
members_at (t ∷ ts) zero = refl
members_at (t ∷ ts) (suc k) = members_at ts k

typed_at : (o : Option StructType) (k : ℕ) → slice_get (member_types o) k ≡ type_at (members_of_struct o) k
typed_at None k = refl
typed_at (Some s) k = slice_get-map (λ (m : StructMember). m.ctype) s.members k

pub slot_is : (s : Sight) (t : PlainType) (k : ℕ) → next_slot (slots_at s t k) ≡ option_map (λ u. (u, slots_at s t (suc k))) (slot s t k)
slot_is s (Array t n) k = each_at t (count_of n) k
slot_is s (Struct n) k = members_at (member_types (slice_get s.structs n)) k ∙ ap (λ o. option_map (λ u. (u, Members (drop (suc k) (member_types (slice_get s.structs n))))) o) (typed_at (slice_get s.structs n) k)
slot_is s Void k = one_at Void k
slot_is s (Int i) k = one_at (Int i) k
slot_is s (Ptr t) k = one_at (Ptr t) k
slot_is s (Named x) k = one_at (Named x) k
slot_is s (StructTag x tag) k = one_at (StructTag x tag) k
slot_is s (EnumTag x at) k = one_at (EnumTag x at) k

-- each of these items has an object, and behind them are these
abbrev pub SlotsBehind : List Init → Slots → Slots → Type 0
SlotsBehind [] sl tl = tl ≡ sl
SlotsBehind (x ∷ xs) sl tl = (p : PlainType × Slots) × (next_slot sl ≡ Some p) × SlotsBehind xs p.1 tl

pub slots_more : (xs : List Init) (x : Init) (sl tl tl' : Slots) (u : PlainType) → SlotsBehind xs sl tl → next_slot tl ≡ Some (u, tl') → SlotsBehind (xs ++ x ∷ []) sl tl'
slots_more [] x sl tl tl' u b e = ((u, tl'), subst (λ z. next_slot z ≡ Some (u, tl')) b e, refl)
slots_more (y ∷ ys) x sl tl tl' u b e = (b.0, b.1, slots_more ys x b.0.1 tl tl' u b.2 e)

-- ---- lists of items

abbrev snoc : Initialisers → Initialiser → Initialisers
snoc NoInitialiser i = Listed i NoInitialiser
snoc (Listed j is) i = Listed j (snoc is i)

pub plain_snoc : (xs : List Init) (x : Init) → plain_inits (xs ++ x ∷ []) ≡ snoc (plain_inits xs) (plain_init x)
plain_snoc [] x = refl
plain_snoc (y ∷ ys) x = ap (Listed (plain_init y)) (plain_snoc ys x)

snoc_in_turn : (x : Checked Initialiser) (c : Checked Initialisers) (d : Checked Initialiser)
    → both_parts x (both_parts c d (λ is i. Good (snoc is i))) (λ i is. Good (Listed i is)) ≡ both_parts (both_parts x c (λ i is. Good (Listed i is))) d (λ is i. Good (snoc is i))
snoc_in_turn (Good x) (Good is) (Good i) = refl
snoc_in_turn (Good x) (Good is) (Bad g gs) = refl
snoc_in_turn (Good x) (Bad f fs) (Good i) = refl
snoc_in_turn (Good x) (Bad f fs) (Bad g gs) = refl
snoc_in_turn (Bad h hs) (Good is) (Good i) = refl
snoc_in_turn (Bad h hs) (Good is) (Bad g gs) = refl
snoc_in_turn (Bad h hs) (Bad f fs) (Good i) = refl
snoc_in_turn (Bad h hs) (Bad f fs) (Bad g gs) = ap (Bad h) (sym (append_assoc hs (f ∷ fs) (g ∷ gs)))

snoc_only : (d : Checked Initialiser) → both_parts d (Good NoInitialiser) (λ i is. Good (Listed i is)) ≡ both_parts (Good NoInitialiser) d (λ is i. Good (snoc is i))
snoc_only (Good i) = refl
snoc_only (Bad f fs) = refl

-- ---- an item without an object

module _ (s : Sight)
  where
    over_alone : (x : Initialiser) → too_many {A = Initialisers} s x ≡ both_parts (Good NoInitialiser) (too_many {A = Initialiser} s x) (λ is i. Good (snoc is i))
    over_alone (One e) = by (typed s e)
      where
        by : (c : Checked Expression) → one_part c (λ x. faulty {A = Initialisers} (no_type (place_of e))) ≡ both_parts (Good NoInitialiser) (one_part c (λ x. faulty {A = Initialiser} (no_type (place_of e)))) (λ is i. Good (snoc is i))
        by (Good x) = refl
        by (Bad f fs) = refl
    over_alone (Many at is) = refl

    over_bad : {A : Type 0} (x : Initialiser) (a : A) → too_many s x ≡ Good a → ⊥
    over_bad (One e) a h = by (typed s e) h
      where
        by : (c : Checked Expression) → one_part c (λ x. faulty (no_type (place_of e))) ≡ Good a → ⊥
        by (Good x) h = cc
        by (Bad f fs) h = cc
    over_bad (Many at is) a h = cc

    -- what is answered of it, whatever the list is
    pub over_other : {A B T : Type 0} (p : T → A) (q : T → B) (x : Initialiser) (r : Result T TypeFault) → Answers p (too_many {A = A} s x) r → Answers q (too_many {A = B} s x) r
    over_other p q (One e) r h = by (typed s e) r h
      where
        by : (c : Checked Expression) (r : Result _ TypeFault) → Answers p (one_part c (λ x. faulty (no_type (place_of e)))) r → Answers q (one_part c (λ x. faulty (no_type (place_of e)))) r
        by (Good x) (Ok t) h = absurd cc
        by (Good x) (Err (Refused f)) h = h
        by (Good x) (Err Memory) h = tt
        by (Bad f fs) (Ok t) h = absurd cc
        by (Bad f fs) (Err (Refused g)) h = h
        by (Bad f fs) (Err Memory) h = tt
    over_other p q (Many at is) (Ok t) h = absurd cc
    over_other p q (Many at is) (Err (Refused f)) h = h
    over_other p q (Many at is) (Err Memory) h = tt

module _ (s : Sight) (ok : Expression → Expression → Bool)
  where
    abbrev pub item : PlainType → Init → Checked Initialiser
    item u x = typed_initialiser s ok (place_of_initialiser (plain_init x)) u (plain_init x)

    abbrev over : Init → Checked Initialiser
    over x = too_many s (plain_init x)

    abbrev items : Slots → List Init → Checked Initialisers
    items sl xs = typed_items s ok sl (plain_inits xs)

    abbrev first_of_items : Init → List Init → Option (PlainType × Slots) → Checked Initialisers
    first_of_items x xs o = elim o [
      | None ↦ too_many s (plain_init x)
      | Some p ↦ both_parts (item p.0 x) (items p.1 xs) (λ i is. Good (Listed i is))
    ]

    item_first : (sl : Slots) (p : PlainType × Slots) (x : Init) (xs : List Init) → next_slot sl ≡ Some p → items sl (x ∷ xs) ≡ both_parts (item p.0 x) (items p.1 xs) (λ i is. Good (Listed i is))
    item_first sl p x xs e = ap (first_of_items x xs) e

    item_none : (sl : Slots) (x : Init) (xs : List Init) → next_slot sl ≡ None → items sl (x ∷ xs) ≡ too_many s (plain_init x)
    item_none sl x xs e = ap (first_of_items x xs) e

    items_snoc : (xs : List Init) (x : Init) (sl tl tl' : Slots) (u : PlainType) → SlotsBehind xs sl tl → next_slot tl ≡ Some (u, tl')
        → items sl (xs ++ x ∷ []) ≡ both_parts (items sl xs) (item u x) (λ is i. Good (snoc is i))
    items_snoc [] x sl tl tl' u b e = item_first sl (u, tl') x [] (subst (λ z. next_slot z ≡ Some (u, tl')) b e) ∙ snoc_only (item u x)
    items_snoc (y ∷ ys) x sl tl tl' u b e =
        item_first sl b.0 y (ys ++ x ∷ []) b.1
        ∙ ap (λ c. both_parts (item b.0.0 y) c (λ i is. Good (Listed i is))) (items_snoc ys x b.0.1 tl tl' u b.2 e)
        ∙ snoc_in_turn (item b.0.0 y) (items b.0.1 ys) (item u x)
        ∙ ap (λ c. both_parts c (item u x) (λ is i. Good (snoc is i))) (sym (item_first sl b.0 y ys b.1))

    items_over : (xs : List Init) (x : Init) (rest : List Init) (sl tl : Slots) → SlotsBehind xs sl tl → next_slot tl ≡ None
        → items sl (xs ++ x ∷ rest) ≡ both_parts (items sl xs) (over x) (λ is i. Good (snoc is i))
    items_over [] x rest sl tl b e = item_none sl x rest (subst (λ z. next_slot z ≡ None) b e) ∙ over_alone s (plain_init x)
    items_over (y ∷ ys) x rest sl tl b e =
        item_first sl b.0 y (ys ++ x ∷ rest) b.1
        ∙ ap (λ c. both_parts (item b.0.0 y) c (λ i is. Good (Listed i is))) (items_over ys x rest b.0.1 tl b.2 e)
        ∙ snoc_in_turn (item b.0.0 y) (items b.0.1 ys) (over x)
        ∙ ap (λ c. both_parts c (over x) (λ is i. Good (snoc is i))) (sym (item_first sl b.0 y ys b.1))

    -- one more item is typed
    pub items_step : (xs xs' ys ys' : List Init) (x y : Init) (sl tl tl' : Slots) (u : PlainType) (d r : Result (Unit {0}) TypeFault) → xs' ≡ xs ++ x ∷ [] → ys' ≡ ys ++ y ∷ []
        → SlotsBehind xs sl tl → next_slot tl ≡ Some (u, tl')
        → Answers (λ (v : Unit {0}). plain_inits ys) (items sl xs) d → Answers (λ (v : Unit {0}). plain_init y) (item u x) r → Answers (λ (v : Unit {0}). plain_inits ys') (items sl xs') (both d r)
    items_step xs xs' ys ys' x y sl tl tl' u d r ex ey b e hd hr =
        subst (λ zs. Answers (λ (v : Unit {0}). plain_inits zs) (items sl xs') (both d r)) (sym ey)
        (subst (λ zs. Answers (λ (v : Unit {0}). plain_inits (ys ++ y ∷ [])) (items sl zs) (both d r)) (sym ex)
        (subst (λ c. Answers (λ (v : Unit {0}). plain_inits (ys ++ y ∷ [])) c (both d r)) (sym (items_snoc xs x sl tl tl' u b e)) (by d r hd hr)))
      where
        whole : Checked Initialisers
        whole = both_parts (items sl xs) (item u x) (λ is i. Good (snoc is i))

        refused : (d r : Result (Unit {0}) TypeFault) (h : TypeFault) → Answers (λ (v : Unit {0}). plain_inits ys) (items sl xs) d → Answers (λ (v : Unit {0}). plain_init y) (item u x) r
            → both d r ≡ Err h → Answers (λ (v : Unit {0}). plain_inits (ys ++ y ∷ [])) (both_parts (items sl xs) (item u x) (λ is i. Good (snoc is i))) (Err h)
        refused d r h hd hr j = both_refused (λ is i. Good (snoc is i)) (λ v. plain_inits ys) (λ v. plain_init y) (λ (v : Unit {0}). plain_inits (ys ++ y ∷ [])) (items sl xs) (item u x) d r h hd hr j

        by : (d r : Result (Unit {0}) TypeFault) → Answers (λ (v : Unit {0}). plain_inits ys) (items sl xs) d → Answers (λ (v : Unit {0}). plain_init y) (item u x) r
            → Answers (λ (v : Unit {0}). plain_inits (ys ++ y ∷ [])) (both_parts (items sl xs) (item u x) (λ is i. Good (snoc is i))) (both d r)
        by (Ok v) (Ok w) hd hr =
            ap (λ c. both_parts c (item u x) (λ is i. Good (snoc is i))) hd
            ∙ ap (λ c. both_parts (Good (plain_inits ys)) c (λ is i. Good (snoc is i))) hr ∙ ap Good (sym (plain_snoc ys y))
        by (Ok v) (Err g) hd hr = refused (Ok v) (Err g) g hd hr refl
        by (Err f) (Ok w) hd hr = refused (Err f) (Ok w) f hd hr refl
        by (Err f) (Err g) hd hr = refused (Err f) (Err g) (lesser_of f g) hd hr refl

    -- an item without an object
    pub items_refused : (xs : List Init) (x : Init) (rest all : List Init) (ys : Initialisers) (new : Initialisers) (i : Initialiser) (sl tl : Slots) (d r b : Result (Unit {0}) TypeFault) → all ≡ xs ++ x ∷ rest
        → SlotsBehind xs sl tl → next_slot tl ≡ None
        → Answers (λ (v : Unit {0}). ys) (items sl xs) d → Answers (λ (v : Unit {0}). i) (over x) b
        → r ≡ both d b → Answers (λ (v : Unit {0}). new) (items sl all) r
    items_refused xs x rest all ys new i sl tl d r (Ok v) ea b e hd hg j = absurd (over_bad s (plain_init x) i hg)
    items_refused xs x rest all ys new i sl tl d r (Err g) ea b e hd hg j =
        subst (λ q. Answers (λ (v : Unit {0}). new) (items sl all) q) (sym j)
        (subst (λ zs. Answers (λ (v : Unit {0}). new) (items sl zs) (both d (Err g))) (sym ea)
        (subst (λ c. Answers (λ (v : Unit {0}). new) c (both d (Err g))) (sym (items_over xs x rest sl tl b e)) (by d hd)))
      where
        refused : (d : Result (Unit {0}) TypeFault) (h : TypeFault) → Answers (λ (v : Unit {0}). ys) (items sl xs) d → both d (Err g) ≡ Err h
            → Answers (λ (v : Unit {0}). new) (both_parts (items sl xs) (over x) (λ is i. Good (snoc is i))) (Err h)
        refused d h hd j = both_refused (λ is i. Good (snoc is i)) (λ v. ys) (λ v. i) (λ (v : Unit {0}). new) (items sl xs) (over x) d (Err g) h hd hg j

        by : (d : Result (Unit {0}) TypeFault) → Answers (λ (v : Unit {0}). ys) (items sl xs) d
            → Answers (λ (v : Unit {0}). new) (both_parts (items sl xs) (over x) (λ is i. Good (snoc is i))) (both d (Err g))
        by (Ok v) hd = refused (Ok v) g hd refl
        by (Err f) hd = refused (Err f) (lesser_of f g) hd refl
