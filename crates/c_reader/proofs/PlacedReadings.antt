-- What holds of each reading of a production over tokens whose places ascend, by the offsets where it begins and ends.
use Rattle.std.proofs.Common.{◌≡◌, ℕ, zero, suc, ◌<◌, ◌≤◌, Bool, true, false, cond, eqb, List, [], ◌∷◌, ◌++◌, length, Option, Some, None, refl, subst, arith, inl, inr}
use Rattle.std.specs.List.{AllByRecursion}
use Rattle.grammar.specs.Syntax.{Syntax, none, gives, one, ◌then◌, choice, loop, many, deep, at_most}
use Rattle.c_syntax.specs.declared.place.Place.{Place}
use Rattle.c_syntax.specs.Tokens.{PlainTokenKind, PlainToken}
use Rattle.c_model.specs.Vocabulary.{Vocabulary}
use Rattle.c_model.specs.Terminals.{placed}
use Rattle.c_model.specs.ExpressionGrammar.{kind, fixed}
use Rattle.c_model.specs.ReadTree.{Between}
use Rattle.c_reader.proofs.TokenForms.{IsLexed, Each, placed_at}

-- tokens from the offset l on, each after the one before, up to the offset n
abbrev pub Reach : ℕ → List PlainToken → ℕ → Type 0
Reach l [] n = l ≡ n
Reach l (t ∷ ts) n = (l ≤ t.place.offset) × Reach (suc t.place.offset) ts n

-- each value that G reads of such tokens from the offset l on is P at the offset after them
pub record From (size l : ℕ) {A : Type 0} (G : Syntax PlainToken A) (P : ℕ → A → Type 0) : Type 0 where
  pub holds : (a : List PlainToken) (x : A) (n : ℕ) → AllByRecursion (IsLexed size) a → Reach l a n → G.reads a x → P n x

reach_on : (l : ℕ) (ts : List PlainToken) (n : ℕ) → Reach l ts n → l ≤ n
reach_on l [] n h = subst (λ m. l ≤ m) h (omega arith)
reach_on l (t ∷ ts) n h = omega (arith, h.0, reach_on (suc t.place.offset) ts n h.1)

-- tokens in two parts
record Parts (size l n : ℕ) (a b : List PlainToken) : Type 0 where
  middle : ℕ
  before : Reach l a middle
  behind : Reach middle b n
  first : AllByRecursion (IsLexed size) a
  second : AllByRecursion (IsLexed size) b

parts : (size l n : ℕ) (a b : List PlainToken) → AllByRecursion (IsLexed size) (a ++ b) → Reach l (a ++ b) n → Parts size l n a b
parts size l n [] b h r = record { middle = l; before = refl; behind = r; first = tt; second = h }
parts size l n (t ∷ a) b h r =
    let p = parts size (suc t.place.offset) n a b h.1 r.1 in
    record { middle = p.middle; before = (r.0, p.before); behind = p.behind; first = (h.0, p.first); second = p.second }

pub from_none : {size l : ℕ} {A : Type 0} {P : ℕ → A → Type 0} → From size l none P
from_none = record { holds = λ a x n o s r. absurd r }

pub from_more : {size l : ℕ} {A : Type 0} {G : Syntax PlainToken A} {P Q : ℕ → A → Type 0} → ((n : ℕ) (x : A) → P n x → Q n x) → From size l G P → From size l G Q
from_more h g = record { holds = λ a x n o s r. h n x (g.holds a x n o s r) }

pub from_gives : {size l : ℕ} {A : Type 0} {P : ℕ → A → Type 0} (x : A) → P l x → From size l (gives x) P
from_gives {size} {l} {A} {P} x p = record {
  holds = λ a y n o s r. let end : l ≡ n = subst (λ (w : List PlainToken). Reach l w n) r.0 s in subst (λ m. P m y) end (subst (P l) r.1 p);
}

-- a token, from its place to after it
pub from_one : {size l : ℕ} {A : Type 0} {P : ℕ → A → Type 0} (f : PlainToken → Option A) → ((t : PlainToken) (x : A) → IsLexed size t → l ≤ t.place.offset → f t ≡ Some x → P (suc t.place.offset) x) → From size l (one f) P
from_one {size} {l} {A} {P} f h = record {
  holds = λ a x n o s r.
      let at : Reach l (r.0 ∷ []) n = subst (λ (w : List PlainToken). Reach l w n) r.1 s in
      let good : AllByRecursion (IsLexed size) (r.0 ∷ []) = subst (AllByRecursion (IsLexed size)) r.1 o in
      subst (λ m. P m x) at.1 (h r.0 x good.0 at.0 r.2);
}

pub from_then : {size l : ℕ} {A B : Type 0} {G : Syntax PlainToken A} {H : A → Syntax PlainToken B} {P : ℕ → A → Type 0} {Q : ℕ → B → Type 0} → From size l G P → ((m : ℕ) (x : A) → P m x → From size m (H x) Q) → From size l (G then H) Q
from_then {size} {l} g h = record {
  holds = λ a y n o s r.
      let p = parts size l n r.0 r.1 (subst (AllByRecursion (IsLexed size)) r.3 o) (subst (λ (w : List PlainToken). Reach l w n) r.3 s) in
      (h p.middle r.2 (g.holds r.0 r.2 p.middle p.first p.before r.4)).holds r.1 y n p.second p.behind r.5;
}

pub from_choice : {size l : ℕ} {A : Type 0} (K : PlainToken → ℕ) (ks : List ℕ) {G H : Syntax PlainToken A} {P : ℕ → A → Type 0} → From size l G P → From size l H P → From size l (choice K ks G H) P
from_choice {size} {l} {A} K ks {G} {H} {P} g h = record { holds = by }
  where
    by : (a : List PlainToken) (x : A) (n : ℕ) → AllByRecursion (IsLexed size) a → Reach l a n → (choice K ks G H).reads a x → P n x
    by a x n o s (inl r) = g.holds a x n o s r
    by a x n o s (inr r) = h.holds a x n o s r

pub from_cond : {size l : ℕ} {A : Type 0} {G H : Syntax PlainToken A} {P : ℕ → A → Type 0} (b : Bool) → (b ≡ true → From size l G P) → (b ≡ false → From size l H P) → From size l (cond b G H) P
from_cond true g h = g refl
from_cond false g h = h refl

-- with a limit of tokens, and where a limit of depth is passed
pub from_at_most : {size l label n : ℕ} {A : Type 0} {G : Syntax PlainToken A} {P : ℕ → A → Type 0} → From size l G P → From size l (at_most label n G) P
from_at_most g = record { holds = λ a x n o s r. g.holds a x n o s r.0 }

pub from_deep : {size l label : ℕ} {A : Type 0} (K : PlainToken → ℕ) (ks : List ℕ) {G : Syntax PlainToken A} {P : ℕ → A → Type 0} → From size l G P → From size l (deep label K ks G) P
from_deep K ks g = record { holds = λ a x n o s r. g.holds a x n o s r }

-- what is read, and how far
pub from_any : {size l : ℕ} {A : Type 0} (G : Syntax PlainToken A) → From size l G (λ n x. l ≤ n)
from_any {size} {l} G = record { holds = λ a x n o s r. reach_on l a n s }

-- two facts of what is read
pub from_both : {size l : ℕ} {A : Type 0} {G : Syntax PlainToken A} {P Q : ℕ → A → Type 0} → From size l G P → From size l G Q → From size l G (λ n x. P n x × Q n x)
from_both g h = record { holds = λ a x n o s r. (g.holds a x n o s r, h.holds a x n o s r) }

-- what is read without regard to places
pub from_each : {size l : ℕ} {A : Type 0} {G : Syntax PlainToken A} {P : ℕ → A → Type 0} → Each size G P → From size l G (λ n x. (k : ℕ) × (l ≤ n) × P k x)
from_each {size} {l} e = record { holds = λ a x n o s r. (length a, reach_on l a n s, e.holds a x o r) }

module _ {size : ℕ} {A : Type 0} (K : PlainToken → ℕ) (ks : A → List ℕ) {step : A → Syntax PlainToken A} {P : ℕ → A → Type 0} (turn : (m : ℕ) (x : A) → P m x → From size m (step x) P) where
  from_loop : (n l : ℕ) (x : A) → P l x → From size l (loop K n ks step x) P
  from_loop zero l x p = from_choice K (ks x) from_none (from_gives x p)
  from_loop (suc n) l x p = from_choice K (ks x) (from_then (turn l x p) (λ m y q. from_loop n m y q)) (from_gives x p)

  pub from_many : (l : ℕ) (x : A) → P l x → From size l (many K ks step x) P
  from_many l x p = record { holds = λ a y n o s r. (from_loop r.0 l x p).holds a y n o s r.1 }

-- ---- numbers

pub between_lower : (k l : ℕ) (is : List ℕ) (n : ℕ) → k ≤ l → Between l is n → Between k is n
between_lower k l [] n le h = omega (arith, le, h)
between_lower k l (i ∷ is) n le h = (omega (arith, le, h.0), h.1)

pub between_joined : (l m n : ℕ) (is js : List ℕ) → Between l is m → Between m js n → Between l (is ++ js) n
between_joined l m n [] js h g = between_lower l m js n h g
between_joined l m n (i ∷ is) js h g = (h.0, between_joined (suc i) m n is js h.1 g)

pub between_higher : (l m n : ℕ) (is : List ℕ) → m ≤ n → Between l is m → Between l is n
between_higher l m n [] le h = omega (arith, le, h)
between_higher l m n (i ∷ is) le h = (h.0, between_higher (suc i) m n is le h.1)

-- ---- places of tokens

-- a place from the offset l on and before the offset n
pub record IsPlaceWithin (l n : ℕ) (at : Place) : Type 0 where
  pub from : l ≤ at.offset
  pub to : at.offset < n

pub fixed_from : {size : ℕ} (ws : Vocabulary) (k l : ℕ) → From size l (fixed ws k) (IsPlaceWithin l)
fixed_from ws k l = from_one _ (λ t at h le e. by (eqb (kind ws t) k) t at le e)
  where
    by : (b : Bool) (t : PlainToken) (at : Place) → l ≤ t.place.offset → cond b (Some t.place) None ≡ Some at → IsPlaceWithin l (suc t.place.offset) at
    by true t at le e = let same : t.place ≡ at = cc in subst (IsPlaceWithin l (suc t.place.offset)) same (record { from = le; to = omega arith })
    by false t at le e = absurd cc

pub placed_from : {size : ℕ} {A : Type 0} (f : PlainTokenKind → Option A) (l : ℕ) → From size l (one (placed f)) (λ n x. IsPlaceWithin l n x.1)
placed_from f l = from_one _ (λ t x h le e. subst (IsPlaceWithin l (suc t.place.offset)) (placed_at f t x e) (record { from = le; to = omega arith }))
