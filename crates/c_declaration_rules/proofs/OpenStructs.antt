-- A struct whose members are typed one after another: where one more is added, the sizes of other types stay, and its own isn't asked for.
use Rattle.std.proofs.Common.{◌≡◌, ◌≢◌, ℕ, ◌+◌, ◌*◌, List, [], ◌∷◌, ◌++◌, refl, sym, ap, ◌∙◌, subst, arith, Bool, true, false, ◌||◌, cond, nat_eq, if◌then◌else◌, slice_get, slice_set, Option, Some, None, Result, Ok, Err, OnErr, OnOk, IfOk}
use Rattle.std.proofs.lemmas.Bool.Decides.{nat_tests}
use Rattle.indexmap.specs.IndexMap.{IndexMap, get}
use Rattle.indexmap.specs.IndexSet.{IndexSet, contains}
use Rattle.c_syntax.specs.Ctypes.{PlainType, Void, Int, Ptr, Array, Struct, Named, StructTag, EnumTag, Left, Written, Count}
use Rattle.c_syntax.specs.Programs.{StructMember, StructType}
use Rattle.c_syntax.specs.Layouts.{align_of, align_of_struct, aligned, member_among, size_of, size_of_struct}
use Rattle.c_model.specs.Library.{is_there}
use Rattle.c_model.specs.ExpressionTyping.{HasSize, NotYet, is_known, sized}
use Rattle.c_model.specs.DeclarationTyping.{greater, placed_from, widest}
use Rattle.c_model.proofs.Blocks.{slice_get-slice_set_other, slice_get-slice_set_same}
use Rattle.c_declaration_rules.specs.declared.layout.Grown.{Grown}
use Rattle.c_declaration_rules.specs.declared.open_struct.OpenStructs.{OpenStructs}
use Rattle.c_declaration_rules.specs.Layouts.{IsLaidBehind}
use Rattle.c_declaration_rules.specs.Members.{ended, with_last_member}
use Rattle.c_declaration_rules.specs.OpenStructs.{AreOpen, AreSized, HasNames, IsLaid, IsOpen, IsOpenAt}
use Rattle.c_declaration_rules.proofs.Layouts.{end_from, placed_behind, start_is, widest_more}

-- ---- a struct without a size is changed

module _ (structs : List StructType) (k : ℕ) (z struct : StructType) (at : slice_get structs k ≡ Some struct) (unsized : struct.size ≡ 0)
  where
    is_another : (n : ℕ) → is_known (slice_get structs n) ≡ HasSize → n ≢ k
    is_another n h e =
        let none : is_known (slice_get structs n) ≡ NotYet = ap (λ j. is_known (slice_get structs j)) e ∙ ap is_known at ∙ ap (λ s. cond (nat_eq s 0) NotYet HasSize) unsized in
        let wrong : NotYet ≡ HasSize = sym none ∙ h in cc

    same_struct : (n : ℕ) → is_known (slice_get structs n) ≡ HasSize → slice_get (slice_set structs k z) n ≡ slice_get structs n
    same_struct n h = slice_get-slice_set_other structs k n z (is_another n h)

    same_sized : (t : PlainType) → sized structs t ≡ HasSize → sized (slice_set structs k z) t ≡ HasSize
    same_sized Void h = h
    same_sized (Int i) h = h
    same_sized (Ptr t) h = h
    same_sized (Array t Left) h = h
    same_sized (Array t (Written e)) h = h
    same_sized (Array t (Count n)) h = same_sized t h
    same_sized (Struct n) h = ap is_known (same_struct n h) ∙ h
    same_sized (Named x) h = h
    same_sized (StructTag x p) h = h
    same_sized (EnumTag x p) h = h

    same_size : (t : PlainType) → sized structs t ≡ HasSize → size_of (slice_set structs k z) t ≡ size_of structs t
    same_size Void h = refl
    same_size (Int i) h = refl
    same_size (Ptr t) h = refl
    same_size (Array t Left) h = absurd cc
    same_size (Array t (Written e)) h = absurd cc
    same_size (Array t (Count n)) h = ap (λ s. n * s) (same_size t h)
    same_size (Struct n) h = ap size_of_struct (same_struct n h)
    same_size (Named x) h = refl
    same_size (StructTag x p) h = refl
    same_size (EnumTag x p) h = refl

    same_align : (t : PlainType) → sized structs t ≡ HasSize → align_of (slice_set structs k z) t ≡ align_of structs t
    same_align Void h = refl
    same_align (Int i) h = refl
    same_align (Ptr t) h = refl
    same_align (Array t Left) h = absurd cc
    same_align (Array t (Written e)) h = absurd cc
    same_align (Array t (Count n)) h = same_align t h
    same_align (Struct n) h = ap align_of_struct (same_struct n h)
    same_align (Named x) h = refl
    same_align (StructTag x p) h = refl
    same_align (EnumTag x p) h = refl

    all_sized : (ms : List StructMember) → AreSized structs ms → AreSized (slice_set structs k z) ms
    all_sized [] h = tt
    all_sized (m ∷ ms) h = (same_sized m.ctype h.0, all_sized ms h.1)

    same_places : (end : ℕ) (ms : List StructMember) → AreSized structs ms → placed_from (slice_set structs k z) end ms ≡ placed_from structs end ms
    same_places end [] h = refl
    same_places end (m ∷ ms) h =
        let o = aligned (align_of structs m.ctype) end in
        ap (λ a. record m { offset = aligned a end } ∷ placed_from (slice_set structs k z) (aligned a end + size_of (slice_set structs k z) m.ctype) ms) (same_align m.ctype h.0)
        ∙ ap (λ s. record m { offset = o } ∷ placed_from (slice_set structs k z) (o + s) ms) (same_size m.ctype h.0)
        ∙ ap (λ l. record m { offset = o } ∷ l) (same_places (o + size_of structs m.ctype) ms h.1)

    same_widest : (ms : List StructMember) → AreSized structs ms → widest (slice_set structs k z) ms ≡ widest structs ms
    same_widest [] h = refl
    same_widest (m ∷ ms) h =
        ap (λ a. greater a (widest (slice_set structs k z) ms)) (same_align m.ctype h.0) ∙ ap (greater (align_of structs m.ctype)) (same_widest ms h.1)

-- ---- one member more

sized_more : (structs : List StructType) (ms : List StructMember) (m : StructMember) → AreSized structs ms → sized structs m.ctype ≡ HasSize → AreSized structs (ms ++ m ∷ [])
sized_more structs [] m h e = (e, tt)
sized_more structs (x ∷ xs) m h e = (h.0, sized_more structs xs m h.1 e)

laid_more : (structs : List StructType) (k : ℕ) (struct : StructType) (m : StructMember) (g : Grown) → slice_get structs k ≡ Some struct → IsLaid structs struct → sized structs m.ctype ≡ HasSize
    → IsLaidBehind structs struct.members m.ctype g.offset g.align g.size → IsLaid (slice_set structs k (ended false (with_last_member struct m g))) (ended false (with_last_member struct m g))
laid_more structs k struct m g at laid has grows =
    let z = ended false (with_last_member struct m g) in
    let last = record m { offset = g.offset } in
    let all = struct.members ++ last ∷ [] in
    let here : AreSized structs all = sized_more structs struct.members last laid.sized has in
    let offset : aligned (align_of structs m.ctype) (end_from structs 0 struct.members) ≡ g.offset = ap (aligned (align_of structs m.ctype)) (start_is structs struct.members) ∙ sym grows.offset_is in
    record {
      placed = same_places structs k z struct at laid.unsized 0 all here ∙ placed_behind structs 0 struct.members last laid.placed ∙ ap (λ o. struct.members ++ record m { offset = o } ∷ []) offset;
      sized = all_sized structs k z struct at laid.unsized all here;
      align_is = grows.align_is ∙ sym (same_widest structs k z struct at laid.unsized all here ∙ widest_more structs struct.members last);
      unsized = refl;
    }

-- ---- names

any_more : (b c : Bool) → cond b true c ≡ (c || b)
any_more true true = refl
any_more true false = refl
any_more false true = refl
any_more false false = refl

there_more : (x : ℕ) (ms : List StructMember) (m : StructMember) → is_there (member_among x (ms ++ m ∷ [])) ≡ (is_there (member_among x ms) || nat_eq m.name x)
there_more x [] m = by (nat_eq m.name x)
  where
    by : (b : Bool) → is_there (if b then Some m else None) ≡ b
    by true = refl
    by false = refl
there_more x (y ∷ ys) m = by (nat_eq y.name x) (there_more x ys m)
  where
    by : (b : Bool) → is_there (member_among x (ys ++ m ∷ [])) ≡ (is_there (member_among x ys) || nat_eq m.name x)
        → is_there (if b then Some y else member_among x (ys ++ m ∷ [])) ≡ (is_there (if b then Some y else member_among x ys) || nat_eq m.name x)
    by true e = refl
    by false e = e

module _ {S : Type 0} (names all : IndexSet ℕ S) (name : ℕ) (more : (q : ℕ) → contains nat_eq all q ≡ cond (nat_eq name q) true (contains nat_eq names q))
  where
    names_more : (ms : List StructMember) (m : StructMember) → name ≡ m.name → HasNames names ms → HasNames all (ms ++ m ∷ [])
    names_more ms m e has x =
        more x ∙ any_more (nat_eq name x) (contains nat_eq names x) ∙ ap (λ c. c || nat_eq name x) (has x) ∙ ap (λ n. is_there (member_among x ms) || nat_eq n x) e ∙ sym (there_more x ms m)

-- ---- what is kept goes with its struct

pub open_more : {S : Type 0} (structs : List StructType) (k : ℕ) (struct : StructType) (m : StructMember) (g : Grown) (names all : IndexSet ℕ S) (name : ℕ) → slice_get structs k ≡ Some struct → IsLaid structs struct
    → HasNames names struct.members → sized structs m.ctype ≡ HasSize → IsLaidBehind structs struct.members m.ctype g.offset g.align g.size
    → ((q : ℕ) → contains nat_eq all q ≡ cond (nat_eq name q) true (contains nat_eq names q)) → name ≡ m.name → IsOpenAt (slice_set structs k (ended false (with_last_member struct m g))) k all
open_more structs k struct m g names all name at laid has size grows more e other there =
    let z = ended false (with_last_member struct m g) in
    let same : z ≡ other = let h = slice_get-slice_set_same structs k struct z at in cc in
    subst (λ s. IsLaid (slice_set structs k z) s × HasNames all s.members) same
    (laid_more structs k struct m g at laid size grows, names_more names all name more struct.members (record m { offset = g.offset }) e has)

pub open_at : {S : Type 0} (structs : List StructType) (k : ℕ) (struct : StructType) (names : IndexSet ℕ S) → slice_get structs k ≡ Some struct → IsLaid structs struct → HasNames names struct.members → IsOpenAt structs k names
open_at structs k struct names at laid named other there = let same : struct ≡ other = let h = at in cc in subst (λ s. IsLaid structs s × HasNames names s.members) same (laid, named)

-- another struct stays open where one without a size is changed
other_open : {S : Type 0} (structs : List StructType) (k j : ℕ) (z struct : StructType) (names : IndexSet ℕ S) → slice_get structs k ≡ Some struct → struct.size ≡ 0 → j ≢ k → IsOpenAt structs j names → IsOpenAt (slice_set structs k z) j names
other_open structs k j z struct names at unsized apart opened other there =
    let before = opened other (sym (slice_get-slice_set_other structs k j z apart) ∙ there) in
    let laid = before.0 in (
      record {
        placed = same_places structs k z struct at unsized 0 other.members laid.sized ∙ laid.placed;
        sized = all_sized structs k z struct at unsized other.members laid.sized;
        align_is = laid.align_is ∙ sym (same_widest structs k z struct at unsized other.members laid.sized);
        unsized = laid.unsized;
      },
      before.1,
    )

pub others_open : {S T : Type 0} (structs : List StructType) (k : ℕ) (z struct : StructType) (kept : IndexMap ℕ (IndexSet ℕ S) T) → slice_get structs k ≡ Some struct → struct.size ≡ 0 → get nat_eq kept k ≡ None → AreOpen structs kept
    → AreOpen (slice_set structs k z) kept
others_open {S} structs k z struct kept at unsized none opened j names there =
    let apart : j ≢ k = λ e. let wrong : ◌≡◌ {A = Option (IndexSet ℕ S)} (Some names) None = sym there ∙ ap (get nat_eq kept) e ∙ none in absurd cc in
    other_open structs k j z struct names at unsized apart (opened j names there)

-- one that is kept no longer, and one more
pub fewer_open : {S T : Type 0} (structs : List StructType) (k : ℕ) (kept fewer : IndexMap ℕ (IndexSet ℕ S) T) → ((q : ℕ) → get nat_eq fewer q ≡ cond (nat_eq k q) None (get nat_eq kept q)) → AreOpen structs kept → AreOpen structs fewer
fewer_open {S} structs k kept fewer without opened j names there = by (nat_eq k j) (sym (without j) ∙ there)
  where
    by : (b : Bool) → cond b None (get nat_eq kept j) ≡ Some names → IsOpenAt structs j names
    by true e = absurd cc
    by false e = opened j names e

pub one_more_open : {S T : Type 0} (structs : List StructType) (k : ℕ) (names : IndexSet ℕ S) (kept more : IndexMap ℕ (IndexSet ℕ S) T) → ((q : ℕ) → get nat_eq more q ≡ cond (nat_eq k q) (Some names) (get nat_eq kept q))
    → IsOpenAt structs k names → AreOpen structs kept → AreOpen structs more
one_more_open {S} structs k names kept more with_it here opened j others there = by (nat_eq k j) refl (sym (with_it j) ∙ there)
  where
    by : (b : Bool) → nat_eq k j ≡ b → cond b (Some names) (get nat_eq kept j) ≡ Some others → IsOpenAt structs j others
    by true t e =
        let same : k ≡ j = grind (arith, nat_tests, t) in
        let is : names ≡ others = cc in
        subst (λ n. IsOpenAt structs j n) is (subst (λ i. IsOpenAt structs i names) same here)
    by false t e = opened j others e

-- what is kept where a part is typed, and what was kept before where it is refused
pub kept_open : {E : Type 0} (r q : Result (Unit {0}) E) (structs : List StructType) (begun old new : OpenStructs) → r ≡ q → OnOk q (IsOpen structs new) → OnOk r (begun ≡ new) → OnErr r (begun ≡ old) → IsOpen structs old → IsOpen structs begun
kept_open (Ok u) q structs begun old new same opened kept refused none = subst (IsOpen structs) (sym kept) (subst (λ z. OnOk z (IsOpen structs new)) (sym same) opened)
kept_open (Err e) q structs begun old new same opened kept refused none = subst (IsOpen structs) (sym refused) none

-- names that are found anew
pub found_at : {S E : Type 0} (structs : List StructType) (k : ℕ) (struct : StructType) (r : Result (IndexSet ℕ S) E) → slice_get structs k ≡ Some struct → OnOk r (IsLaid structs struct)
    → IfOk r (λ names. HasNames names struct.members) → IfOk r (λ names. IsOpenAt structs k names)
found_at structs k struct (Ok names) at laid named = open_at structs k struct names at laid named
found_at structs k struct (Err e) at laid named = tt
