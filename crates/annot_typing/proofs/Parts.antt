-- Parts that are typed beside one another: both, or the first fault of the two.
use Rattle.std.proofs.Common.{◌≡◌, refl, ap, ◌∙◌, Result, Ok, Err}
use Rattle.c_model.specs.Checked.{Checked, Good, Bad, pair_of, refusing}
use Rattle.c_scopes.specs.declared.fault.TypeFault.{TypeFault}
use Rattle.c_scopes.specs.declared.fault.TypeFault.TheVariants.{Refused, Memory}
use Rattle.c_scopes.specs.Answers.{Answers, both, lesser_of}
use Rattle.c_scopes.proofs.Least.{both_refused}
use Rattle.annot_typing.specs.Joined.{both_answered}

-- whether a part has a fault, and nothing else of it
abbrev without : {B : Type 0} → Checked B → Checked (Unit {0})
without (Good b) = Good tt
without (Bad g gs) = Bad g gs

abbrev fault_of : {U : Type 0} → Result U TypeFault → Result (Unit {0}) TypeFault
fault_of (Ok y) = Ok tt
fault_of (Err g) = Err g

without_answers : {B U : Type 0} (q : U → B) (n : Checked B) (b : Result U TypeFault) → Answers q n b → Answers (λ (u : Unit {0}). u) (without n) (fault_of b)
without_answers q n (Ok y) h = ap without h
without_answers q (Good x) (Err (Refused g)) h = absurd cc
without_answers q (Bad f fs) (Err (Refused g)) h = h
without_answers q n (Err Memory) h = tt

same_refusal : {A B : Type 0} (m : Checked A) (n : Checked B) → refusing (pair_of m n) ≡ refusing (pair_of m (without n))
same_refusal (Good a) (Good b) = refl
same_refusal (Good a) (Bad g gs) = refl
same_refusal (Bad f fs) (Good b) = refl
same_refusal (Bad f fs) (Bad g gs) = refl

same_fault : {T U : Type 0} (a : Result T TypeFault) (b : Result U TypeFault) (h : TypeFault) → both_answered a b ≡ Err h → both a (fault_of b) ≡ Err h
same_fault (Ok x) (Ok y) h j = absurd cc
same_fault (Ok x) (Err g) h j = let e : g ≡ h = cc in ap Err e
same_fault (Err f) (Ok y) h j = let e : f ≡ h = cc in ap Err e
same_fault (Err f) (Err g) h j = let e : lesser_of f g ≡ h = cc in ap Err e

module _ {A B T U : Type 0} (p : T → A) (q : U → B) (m : Checked A) (n : Checked B) (a : Result T TypeFault) (b : Result U TypeFault)
  where
    -- one of the two is refused
    pub joined_refused : {S : Type 0} (s : S → A × B) (h : TypeFault) → Answers p m a → Answers q n b → both_answered a b ≡ Err h → Answers s (pair_of m n) (Err h)
    joined_refused s Memory ha hb j = tt
    joined_refused s (Refused f) ha hb j =
        same_refusal m n ∙ both_refused (λ x (u : Unit {0}). Good (x, u)) p (λ (u : Unit {0}). u) (λ (x : A × Unit {0}). x) m (without n) a (fault_of b) (Refused f) ha (without_answers q n b hb) (same_fault a b (Refused f) j)

-- two parts as one
pub joined_answers : {A B T U : Type 0} (p : T → A) (q : U → B) (m : Checked A) (n : Checked B) (a : Result T TypeFault) (b : Result U TypeFault)
    → Answers p m a → Answers q n b → Answers (λ (x : T × U). (p x.0, q x.1)) (pair_of m n) (both_answered a b)
joined_answers p q m n (Ok x) (Ok y) ha hb = ap (λ c. pair_of c n) ha ∙ ap (λ c. pair_of (Good (p x)) c) hb
joined_answers {T = T} {U = U} p q m n (Ok x) (Err g) ha hb = joined_refused p q m n (Ok x) (Err g) (λ (x : T × U). (p x.0, q x.1)) g ha hb refl
joined_answers {T = T} {U = U} p q m n (Err f) (Ok y) ha hb = joined_refused p q m n (Err f) (Ok y) (λ (x : T × U). (p x.0, q x.1)) f ha hb refl
joined_answers {T = T} {U = U} p q m n (Err f) (Err g) ha hb = joined_refused p q m n (Err f) (Err g) (λ (x : T × U). (p x.0, q x.1)) (lesser_of f g) ha hb refl

-- without memory for the first there is no answer
pub no_memory : {A B T U : Type 0} (s : T × U → A × B) (c : Checked (A × B)) (b : Result U TypeFault) → Answers s c (both_answered (Err Memory) b)
no_memory s c (Ok y) = tt
no_memory s c (Err g) = tt
