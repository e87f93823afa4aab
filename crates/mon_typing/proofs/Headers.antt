-- The functions of a text, and which is the first of each name.
use Rattle.std.proofs.Common.{◌≡◌, ℕ, zero, suc, ◌+◌, ◌<◌, Bool, true, false, not, ◌||◌, cond, eqb, eqb-true, List, [], ◌∷◌, ◌++◌, length, map, take, add-one, Option, Some, None, option_map, slice_get, get_or, nat_eq, is_some, refl, sym, ap, subst}
use Rattle.std.proofs.Common.{◌∙◌, arith}
use Rattle.std.proofs.lemmas.List.{map-append, length-map}
use Rattle.std.proofs.Math.Seq.{take-suc}
use Rattle.std.specs.List.{list_any}
use Rattle.std.specs.Map.{lookup}
use Rattle.indexmap.specs.IndexMap.{insert_entry}
use Rattle.mon_syntax.specs.Checking.{Header, header_of, find_function}
use Rattle.mon_parser.specs.declared.parsed.ParsedFunc.{ParsedFunc}
use Rattle.mon_parser.specs.ParsedTrees.{plain_func}
use Rattle.mon_typing.specs.declared.header.Header as code
use Rattle.mon_typing.specs.Headers.{plain_header, AreFirst, is_at, with_first}
use Rattle.mon_typing.proofs.Registers.{eqb_sym, is_known, insert_new}

abbrev Headers : Type 0
Headers = List Header

abbrev Found : Type 0
Found = Option (ℕ × Header)

abbrev number : ℕ × Header → ℕ
number g = g.0

-- ---- a function that is found

abbrev IsFound : ℕ → Headers → ℕ → Found → Type 0
IsFound n gs x None = Unit {0}
IsFound n gs x (Some g) = (i : ℕ) × (g.0 ≡ n + i) × (slice_get gs i ≡ Some g.1) × (g.1.name ≡ x)

found_later : (n : ℕ) (g : Header) (gs : Headers) (x : ℕ) (o : Found) → IsFound (suc n) gs x o → IsFound n (g ∷ gs) x o
found_later n g gs x None h = tt
found_later n g gs x (Some r) h = let e : r.0 ≡ n + suc h.0 = omega (arith, h.1) in (suc h.0, e, h.2, h.3)

found_here : (n : ℕ) (g : Header) (gs : Headers) (x : ℕ) (o : Found) (b : Bool) → eqb g.name x ≡ b → IsFound (suc n) gs x o → IsFound n (g ∷ gs) x (cond b (Some (n, g)) o)
found_here n g gs x o true e h = let z : n ≡ n + 0 = omega arith in (0, z, refl, eqb-true g.name x e)
found_here n g gs x o false e h = found_later n g gs x o h

found : (n : ℕ) (gs : Headers) (x : ℕ) → IsFound n gs x (find_function n gs x)
found n [] x = tt
found n (g ∷ gs) x = found_here n g gs x (find_function (suc n) gs x) (eqb g.name x) refl (found (suc n) gs x)

-- what is found stands at its number, and has the name
pub record Stands (gs : Headers) (x : ℕ) (g : ℕ × Header) : Type 0 where
  pub at : slice_get gs g.0 ≡ Some g.1
  pub named : g.1.name ≡ x

stands_at : (gs : Headers) (x : ℕ) (g : ℕ × Header) (o : Found) → o ≡ Some g → IsFound 0 gs x o → Stands gs x g
stands_at gs x g o e h =
    let k = subst (IsFound 0 gs x) e h in
    let z : g.0 ≡ k.0 = omega (arith, k.1) in
    record { at = ap (slice_get gs) z ∙ k.2; named = k.3 }

pub stands : (gs : Headers) (x : ℕ) (g : ℕ × Header) → find_function 0 gs x ≡ Some g → Stands gs x g
stands gs x g e = stands_at gs x g (find_function 0 gs x) e (found 0 gs x)

-- ---- one function more

abbrev or_else : {A : Type 0} → Option A → Option A → Option A
or_else None o = o
or_else (Some a) o = Some a

or_none : {A : Type 0} (o : Option A) → or_else o None ≡ o
or_none None = refl
or_none (Some a) = refl

find_next : (n : ℕ) (h g : Header) (hs : Headers) (x : ℕ) (b : Bool) → find_function (suc n) (hs ++ g ∷ []) x ≡ or_else (find_function (suc n) hs x) (cond (eqb g.name x) (Some (suc n + length hs, g)) None)
    → cond b (Some (n, h)) (find_function (suc n) (hs ++ g ∷ []) x) ≡ or_else (cond b (Some (n, h)) (find_function (suc n) hs x)) (cond (eqb g.name x) (Some (n + suc (length hs), g)) None)
find_next n h g hs x true e = refl
find_next n h g hs x false e =
    let z : suc n + length hs ≡ n + suc (length hs) = omega arith in
    e ∙ ap (λ k. or_else (find_function (suc n) hs x) (cond (eqb g.name x) (Some (k, g)) None)) z

find_last : (n : ℕ) (gs : Headers) (g : Header) (x : ℕ) → find_function n (gs ++ g ∷ []) x ≡ or_else (find_function n gs x) (cond (eqb g.name x) (Some (n + length gs, g)) None)
find_last n [] g x = let z : n ≡ n + 0 = omega arith in ap (λ k. cond (eqb g.name x) (Some (k, g)) None) z
find_last n (h ∷ hs) g x = find_next n h g hs x (eqb h.name x) (find_last (suc n) hs g x)

lookup_next : {V : Type 0} (e : ℕ × V) (es : List (ℕ × V)) (last : Option V) (x : ℕ) (b : Bool) (o : Option V) → o ≡ or_else (lookup (nat_eq x) es) last → cond b (Some e.1) o ≡ or_else (cond b (Some e.1) (lookup (nat_eq x) es)) last
lookup_next e es last x true o h = refl
lookup_next e es last x false o h = h

lookup_last : {V : Type 0} (es : List (ℕ × V)) (k : ℕ) (v : V) (x : ℕ) → lookup (nat_eq x) (es ++ (k, v) ∷ []) ≡ or_else (lookup (nat_eq x) es) (cond (eqb x k) (Some v) None)
lookup_last [] k v x = refl
lookup_last (e ∷ es) k v x = lookup_next e es (cond (eqb x k) (Some v) None) x (eqb x e.0) (lookup (nat_eq x) (es ++ (k, v) ∷ [])) (lookup_last es k v x)

-- the numbers of the first functions
abbrev first_of : Headers → ℕ → Option ℕ
first_of gs x = option_map number (find_function 0 gs x)

abbrev Firsts : Headers → List (ℕ × ℕ) → Type 0
Firsts gs firsts = (x : ℕ) → lookup (nat_eq x) firsts ≡ first_of gs x

-- after functions of the name, and where there is none
old_first : (gs : Headers) (g : Header) (x : ℕ) (o : Found) (b : Bool) (l : Option ℕ) → eqb g.name x ≡ b → l ≡ option_map number o → (b ≡ true → is_some l ≡ true) → l ≡ option_map number (or_else o (cond b (Some (0 + length gs, g)) None))
old_first gs g x None true None e h some = absurd (let z = some refl in cc)
old_first gs g x None true (Some k) e h some = absurd cc
old_first gs g x (Some r) true l e h some = h
old_first gs g x o false l e h some = h ∙ ap (option_map number) (sym (or_none o))

new_first : (gs : Headers) (g : Header) (o : Found) (b : Bool) → or_else (option_map number o) (cond b (Some (length gs)) None) ≡ option_map number (or_else o (cond b (Some (0 + length gs, g)) None))
new_first gs g None true = let z : length gs ≡ 0 + length gs = omega arith in ap Some z
new_first gs g None false = refl
new_first gs g (Some r) b = refl

one_more : (gs : Headers) (g : Header) (firsts : List (ℕ × ℕ)) (known : Bool) → list_any (λ (x : ℕ × ℕ). nat_eq x.0 g.name) firsts ≡ known → Firsts gs firsts → Firsts (gs ++ g ∷ []) (cond known firsts (firsts ++ (g.name, length gs) ∷ []))
one_more gs g firsts true e h x =
    let here : is_some (lookup (nat_eq g.name) firsts) ≡ true = is_known g.name firsts ∙ e in
    old_first gs g x (find_function 0 gs x) (eqb g.name x) (lookup (nat_eq x) firsts) refl (h x) (λ b. subst (λ (y : ℕ). is_some (lookup (nat_eq y) firsts) ≡ true) (eqb-true g.name x b) here)
    ∙ ap (option_map number) (sym (find_last 0 gs g x))
one_more gs g firsts false e h x =
    lookup_last firsts g.name (length gs) x ∙ (λ i. or_else (h x i) (cond (eqb_sym x g.name i) (Some (length gs)) None)) ∙ new_first gs g (find_function 0 gs x) (eqb g.name x)
    ∙ ap (option_map number) (sym (find_last 0 gs g x))

pub next_first : (hs more : List code.Header) (g : Header) (firsts firsts1 : List (ℕ × ℕ)) → map plain_header more ≡ map plain_header hs ++ g ∷ [] → firsts1 ≡ with_first firsts g.name (length hs) → AreFirst hs firsts → AreFirst more firsts1
next_first hs more g firsts firsts1 all with_it first x =
    let m : length hs ≡ length (map plain_header hs) = sym (length-map hs plain_header) in
    ap (lookup (nat_eq x)) (with_it ∙ ap (with_first firsts g.name) m) ∙ one_more (map plain_header hs) g firsts (list_any (λ (x : ℕ × ℕ). nat_eq x.0 g.name) firsts) refl first x ∙ ap (λ gs. first_of gs x) (sym all)

-- ---- the first function of a name is at its own number

at_next : (n : ℕ) (h g : Header) (front back : Headers) (x : ℕ) (b : Bool) → is_at (suc n + length front) (find_function (suc n) (front ++ g ∷ back) x) ≡ not (list_any (λ (h : Header). nat_eq h.name x) front)
    → is_at (n + suc (length front)) (cond b (Some (n, h)) (find_function (suc n) (front ++ g ∷ back) x)) ≡ not (b || list_any (λ (h : Header). nat_eq h.name x) front)
at_next n h g front back x true e = grind arith
at_next n h g front back x false e =
    let z : n + suc (length front) ≡ suc n + length front = omega arith in
    ap (λ k. is_at k (find_function (suc n) (front ++ g ∷ back) x)) z ∙ e

first_at : (n : ℕ) (front back : Headers) (g : Header) (x : ℕ) → eqb g.name x ≡ true → is_at (n + length front) (find_function n (front ++ g ∷ back) x) ≡ not (list_any (λ (h : Header). nat_eq h.name x) front)
first_at n [] back g x e = let z : eqb n (n + 0) ≡ true = grind arith in ap (λ b. is_at (n + 0) (cond b (Some (n, g)) (find_function (suc n) back x))) e ∙ z
first_at n (h ∷ front) back g x e = at_next n h g front back x (eqb h.name x) (first_at (suc n) front back g x e)

pub is_first : (front back : Headers) (g : Header) → is_at (length front) (find_function 0 (front ++ g ∷ back) g.name) ≡ not (list_any (λ (h : Header). nat_eq h.name g.name) front)
is_first front back g =
    let z : length front ≡ 0 + length front = omega arith in
    let e : eqb g.name g.name ≡ true = grind arith in
    ap (λ k. is_at k (find_function 0 (front ++ g ∷ back) g.name)) z ∙ first_at 0 front back g g.name e

-- ---- as they are kept

number_found : (o : Found) (k : ℕ) → Some k ≡ option_map number o → (g : Header) × (o ≡ Some (k, g))
number_found None k e = absurd cc
number_found (Some r) k e = (r.1, let z : k ≡ r.0 = cc in ap (λ n. Some (n, r.1)) (sym z))

-- a header of this number
record At (hs : List code.Header) (k : ℕ) (g : Header) : Type 0 where
  within : k < length hs
  is : (h : code.Header) → h ≡ get_or hs k h → plain_header h ≡ g

at_number : (hs : List code.Header) (k : ℕ) (g : Header) → slice_get (map plain_header hs) k ≡ Some g → At hs k g
at_number [] k g e = absurd cc
at_number (h ∷ hs) zero g e = record { within = omega arith; is = λ x same. ap plain_header same ∙ (let z : plain_header h ≡ g = cc in z) }
at_number (h ∷ hs) (suc k) g e = let go = at_number hs k g e in record { within = omega (arith, go.within); is = go.is }

first_found : (hs : List code.Header) (firsts : List (ℕ × ℕ)) (x k : ℕ) → AreFirst hs firsts → Some k ≡ lookup (nat_eq x) firsts → (g : Header) × (find_function 0 (map plain_header hs) x ≡ Some (k, g)) × At hs k g
first_found hs firsts x k first e =
    let f = number_found (find_function 0 (map plain_header hs) x) k (e ∙ first x) in
    (f.0, f.1, at_number hs k f.0 (stands (map plain_header hs) x (k, f.0) f.1).at)

pub first_within : (hs : List code.Header) (firsts : List (ℕ × ℕ)) (x k : ℕ) → AreFirst hs firsts → Some k ≡ lookup (nat_eq x) firsts → k < length hs
first_within hs firsts x k first e = (first_found hs firsts x k first e).2.within

pub first_is : (hs : List code.Header) (firsts : List (ℕ × ℕ)) (x k : ℕ) (h : code.Header) → AreFirst hs firsts → Some k ≡ lookup (nat_eq x) firsts → h ≡ get_or hs k h → find_function 0 (map plain_header hs) x ≡ Some (k, plain_header h)
first_is hs firsts x k h first e same = let f = first_found hs firsts x k first e in f.1 ∙ ap (λ g. Some (k, g)) (sym (f.2.is h same))

abbrev noted : List (ℕ × ℕ) → ℕ → ℕ → Bool → List (ℕ × ℕ)
noted es n v b = cond b es (es ++ (n, v) ∷ [])

pub noted_new : (es : List (ℕ × ℕ)) (n v : ℕ) (b : Bool) → b ≡ is_some (lookup (nat_eq n) es) → b ≡ false → insert_entry nat_eq es n v ≡ with_first es n v
noted_new es n v b h z = let k = sym (is_known n es) ∙ sym h ∙ z in insert_new n v es k ∙ sym (ap (noted es n v) k)

pub noted_old : (es : List (ℕ × ℕ)) (n v : ℕ) (b : Bool) → b ≡ is_some (lookup (nat_eq n) es) → b ≡ true → es ≡ with_first es n v
noted_old es n v b h z = sym (ap (noted es n v) (sym (is_known n es) ∙ sym h ∙ z))

pub next_headers : (fs : List ParsedFunc) (i : ℕ) (f : ParsedFunc) (hs more : List code.Header) → i < length fs → f ≡ get_or fs i f → map plain_header more ≡ map plain_header hs ++ header_of (plain_func f) ∷ []
    → map plain_header hs ≡ map header_of (map plain_func (take i fs)) → map plain_header more ≡ map header_of (map plain_func (take (i + 1) fs))
next_headers fs i f hs more lt at is so_far =
    let t : take (i + 1) fs ≡ take i fs ++ f ∷ [] = rw add-one (take-suc fs i f lt ∙ ap (λ (x : ParsedFunc). take i fs ++ x ∷ []) (sym at)) in
    is ∙ (λ j. so_far j ++ header_of (plain_func f) ∷ [])
    ∙ sym (ap (λ (l : List ParsedFunc). map header_of (map plain_func l)) t ∙ ap (map header_of) (map-append plain_func (take i fs) (f ∷ [])) ∙ map-append header_of (map plain_func (take i fs)) (plain_func f ∷ []))
