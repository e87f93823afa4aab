-- Along a file the structs that are known stay as they are.
use Rattle.std.proofs.Common.{◌≡◌, ℕ, zero, suc, ◌+◌, refl, sym, ap, ◌∙◌, subst, List, [], ◌∷◌, ◌++◌, Some, Bool, true, false, not, ◌||◌, if◌then◌else◌, nat_eq, nat_le, slice_get, slice_set, arith}
use Rattle.std.proofs.lemmas.Bool.Decides.{nat_tests}
use Rattle.c_syntax.specs.Ctypes.{PlainType}
use Rattle.c_syntax.specs.Programs.{StructMember, StructType}
use Rattle.c_syntax.specs.Layouts.{size_of, align_of, aligned, member_among}
use Rattle.c_model.specs.Library.{is_there}
use Rattle.c_model.specs.Checked.{Good, one_part, where_so}
use Rattle.c_model.specs.ExpressionTyping.{no_name, too_large, Sight, HasSize, sized, is_among, most_bytes, limited, typed_type, known_type}
use Rattle.c_model.specs.DeclarationTyping.{placed_from, object_type, member_added, with_member, typed_member_type, typed_member}
use Rattle.c_model.proofs.TypedParts.{Gives, gives_one, gives_both, gives_where, gives_sized}
use Rattle.c_model.proofs.TypedSoundness.{gives_limited}
use Rattle.c_model.proofs.TypedDeclarations.{anything}
use Rattle.c_model.proofs.TypedUnits.{after_set}
use Rattle.c_model.proofs.StableConstants.{Grows, size_kept}
use Rattle.c_model.proofs.StableStatements.{AreSized}

-- ---- an element of a list, after another one is set

pub set_same : (ss : List StructType) (k : ℕ) (x y : StructType) → slice_get ss k ≡ Some x → slice_get (slice_set ss k y) k ≡ Some y
set_same [] k x y e = absurd cc
set_same (s ∷ ss) zero x y e = refl
set_same (s ∷ ss) (suc k) x y e = set_same ss k x y e

pub set_other : (ss : List StructType) (k : ℕ) (y : StructType) (n : ℕ) → (n ≡ k → ⊥) → slice_get (slice_set ss k y) n ≡ slice_get ss n
set_other [] k y n d = refl
set_other (s ∷ ss) zero y zero d = absurd (d refl)
set_other (s ∷ ss) zero y (suc n) d = refl
set_other (s ∷ ss) (suc k) y zero d = refl
set_other (s ∷ ss) (suc k) y (suc n) d = set_other ss k y n (λ e. d (ap suc e))

pub same_number : (n m : ℕ) → nat_eq n m ≡ true → n ≡ m
same_number n m e = grind (arith, nat_tests)

pub other_number : (n m : ℕ) → nat_eq n m ≡ false → n ≡ m → ⊥
other_number n m e same = grind (arith, nat_tests)

pub clash : (b : Bool) → b ≡ true → b ≡ false → ⊥
clash true e f = absurd cc
clash false e f = absurd cc

-- ---- structs so far

-- each struct with a size has ended, and the members of all structs have sizes
pub record AreKnown (ended : List ℕ) (ss : List StructType) : Type 0 where
  pub known : (n : ℕ) (x : StructType) → slice_get ss n ≡ Some x → nat_eq x.size 0 ≡ false → is_among n ended ≡ true
  pub members : (n : ℕ) (x : StructType) → slice_get ss n ≡ Some x → AreSized ss x.members

pub grows_by : (a b c : List StructType) → Grows a b → Grows b c → Grows a c
grows_by a b c f g n x e z = g n x (f n x e z) z

set_grows : (ss : List StructType) (k : ℕ) (y : StructType) → ((x : StructType) → slice_get ss k ≡ Some x → nat_eq x.size 0 ≡ true) → Grows ss (slice_set ss k y)
set_grows ss k y h n x e z = by (nat_eq n k) refl
  where
    by : (b : Bool) → nat_eq n k ≡ b → slice_get (slice_set ss k y) n ≡ Some x
    by true f = absurd (clash (nat_eq x.size 0) (h x (subst (λ n. slice_get ss n ≡ Some x) (same_number n k f) e)) z)
    by false f = set_other ss k y n (other_number n k f) ∙ e

not_ended : (ended : List ℕ) (ss : List StructType) → AreKnown ended ss → (k : ℕ) → is_among k ended ≡ false → (x : StructType) → slice_get ss k ≡ Some x → nat_eq x.size 0 ≡ true
not_ended ended ss h k o x e = by (nat_eq x.size 0) refl
  where
    by : (b : Bool) → nat_eq x.size 0 ≡ b → b ≡ true
    by true z = refl
    by false z = absurd (clash (is_among k ended) (h.known k x e z) o)

sized_later : (old new : List StructType) → Grows old new → (ms : List StructMember) → AreSized old ms → AreSized new ms
sized_later old new g [] h = tt
sized_later old new g (m ∷ ms) h = ((size_kept old new g m.ctype h.0).known, sized_later old new g ms h.1)

pub one_more_sized : (ss : List StructType) (ms : List StructMember) (m : StructMember) → AreSized ss ms → sized ss m.ctype ≡ HasSize → AreSized ss (ms ++ m ∷ [])
one_more_sized ss [] m h k = (k, tt)
one_more_sized ss (x ∷ xs) m h k = (h.0, one_more_sized ss xs m h.1 k)

pub placed_sized : (ss structs : List StructType) (end : ℕ) (ms : List StructMember) → AreSized ss ms → AreSized ss (placed_from structs end ms)
placed_sized ss structs end [] h = tt
placed_sized ss structs end (m ∷ ms) h = (h.0, placed_sized ss structs (aligned (align_of structs m.ctype) end + size_of structs m.ctype) ms h.1)

-- ---- a member

-- the structs behind an item
pub record IsGrown (ended : List ℕ) (old new : List StructType) : Type 0 where
  pub grows : Grows old new
  pub known : AreKnown ended new

abbrev pub ended_by : ℕ → Bool → List ℕ → List ℕ
ended_by k ends ended = if ends then k ∷ ended else ended

among_more : (n k : ℕ) (ends : Bool) (ended : List ℕ) → is_among n ended ≡ true → is_among n (ended_by k ends ended) ≡ true
among_more n k true ended h = by (nat_eq n k)
  where
    by : (b : Bool) → (b || is_among n ended) ≡ true
    by true = refl
    by false = h
among_more n k false ended h = h

-- a struct that is set where it hasn't ended, with its size where it ends now
pub set_known : (ended : List ℕ) (ss : List StructType) → AreKnown ended ss → (k : ℕ) → is_among k ended ≡ false → (x : StructType) → slice_get ss k ≡ Some x → (y : StructType) → AreSized ss y.members
    → (ends : Bool) → (ends ≡ false → y.size ≡ 0) → IsGrown (ended_by k ends ended) ss (slice_set ss k y)
set_known ended ss h k o x e y m ends z = record {
  grows = grows;
  known = record {
    known = λ n u i f. by n u i f (nat_eq n k) refl;
    members = after_set (λ (u : StructType). AreSized (slice_set ss k y) u.members) ss k y (λ n u i. sized_later ss (slice_set ss k y) grows u.members (h.members n u i))
        (sized_later ss (slice_set ss k y) grows y.members m);
  };
}
  where
    grows : Grows ss (slice_set ss k y)
    grows = set_grows ss k y (not_ended ended ss h k o)

    at_itself : (n : ℕ) → nat_eq n k ≡ true → (u : StructType) → slice_get (slice_set ss k y) k ≡ Some u → nat_eq u.size 0 ≡ false → (b : Bool) → ends ≡ b → is_among n (ended_by k b ended) ≡ true
    at_itself n c u i f true d = ap (λ b. b || is_among n ended) c
    at_itself n c u i f false d =
        let same : Some y ≡ Some u = sym (set_same ss k x y e) ∙ i in
        let one : y ≡ u = cc in
        let zero_size : u.size ≡ 0 = ap (λ (u : StructType). u.size) (sym one) ∙ z d in
        absurd (clash (nat_eq u.size 0) (ap (λ n. nat_eq n 0) zero_size) f)

    by : (n : ℕ) (u : StructType) → slice_get (slice_set ss k y) n ≡ Some u → nat_eq u.size 0 ≡ false → (b : Bool) → nat_eq n k ≡ b → is_among n (ended_by k ends ended) ≡ true
    by n u i f true c = at_itself n c u (subst (λ n. slice_get (slice_set ss k y) n ≡ Some u) (same_number n k c) i) f ends refl
    by n u i f false c = among_more n k ends ended (h.known n u (sym (set_other ss k y n (other_number n k c)) ∙ i) f)

member_type_sized : (s : Sight) (struct : StructType) (m : StructMember) → Gives (λ t. sized s.structs t ≡ HasSize) (typed_member_type s struct m)
member_type_sized s struct m =
    gives_one (λ t. sized s.structs t ≡ HasSize) (λ t. sized s.structs t ≡ HasSize) (limited s m.place (known_type s m.ctype) (one_part (typed_type s m.place m.ctype) (object_type s m.place))) _
    (gives_limited (λ t. sized s.structs t ≡ HasSize) s m.place (known_type s m.ctype) (one_part (typed_type s m.place m.ctype) (object_type s m.place))
    (gives_one (λ t. Unit {0}) (λ t. sized s.structs t ≡ HasSize) (typed_type s m.place m.ctype) (object_type s m.place) (anything (typed_type s m.place m.ctype))
    (λ t v. gives_sized (λ t. sized s.structs t ≡ HasSize) s m.place t (Good t) (λ k. k))))
    (λ t w. gives_where (λ t. sized s.structs t ≡ HasSize) (nat_le (member_added s struct t m).size most_bytes) (too_large m.place) (Good t) (λ e. w))

pub member_grown : (ended : List ℕ) (s : Sight) → AreKnown ended s.structs → (k : ℕ) → is_among k ended ≡ false → (x : StructType) → slice_get s.structs k ≡ Some x → (m : StructMember) (ends : Bool)
    → Gives (λ (u : Sight). IsGrown (ended_by k ends ended) s.structs u.structs) (typed_member s k x m ends)
member_grown ended s h k o x e m ends = gives_both (λ u. Unit {0}) (λ t. sized s.structs t ≡ HasSize) (λ (u : Sight). IsGrown (ended_by k ends ended) s.structs u.structs)
    (where_so (not (is_there (member_among m.name x.members))) (no_name m.place) (Good (tt {0}))) (typed_member_type s x m) (λ n t. Good (with_member s k x t m ends))
    (anything _) (member_type_sized s x m) (λ n t v w. by t w ends)
  where
    members : (t : PlainType) → sized s.structs t ≡ HasSize → AreSized s.structs (member_added s x t m).members
    members t w = placed_sized s.structs s.structs 0 (x.members ++ record m { ctype = t } ∷ []) (one_more_sized s.structs x.members (record m { ctype = t }) (h.members k x e) w)

    by : (t : PlainType) → sized s.structs t ≡ HasSize → (b : Bool)
        → IsGrown (ended_by k b ended) s.structs (slice_set s.structs k (if b then member_added s x t m else record (member_added s x t m) { size = 0 }))
    by t w true = set_known ended s.structs h k o x e (member_added s x t m) (members t w) true (λ d. absurd cc)
    by t w false = set_known ended s.structs h k o x e (record (member_added s x t m) { size = 0 }) (members t w) false (λ d. refl)
