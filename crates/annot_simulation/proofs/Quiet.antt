-- Predicates without quantifiers take no step, and what they say.
use Rattle.std.proofs.Common.{◌≡◌, ℕ, ℤ, pos, Bool, true, false, List, [], Option, Some, None, option_map, refl, sym, ap, ◌∙◌}
use Rattle.c_syntax.specs.declared.annotation.Relation.{Relation}
use Rattle.c_syntax.specs.declared.annotation.Relation.TheVariants.{Ne}
use Rattle.c_syntax.specs.declared.expression.BinOp.{BinOp}
use Rattle.c_syntax.specs.declared.logic.Connective.{Connective}
use Rattle.c_syntax.specs.declared.logic.Connective.TheVariants.{And, Xor, Or, Implies, Iff}
use Rattle.c_syntax.specs.Logic.{LogicTerm, Links, NoLink, Linked, Predicate}
use Rattle.c_syntax.specs.Logic as logic
use Rattle.c_model.specs.Logic.{look, meant, Environment, TermValue, Mathematical, Addressed, Answer, Says, SaysNothing, OutOfSteps, lazily, denied, silenced, fully, both, compute, related, relates, related_addresses, as_address, asks, all_apart}
use Rattle.c_model.specs.Memory.{Store}
use Rattle.c_model.specs.MemoryQuestions.{Address, null_address}
use Rattle.c_model.specs.Predicates.{chosen as chosen_term, same_as, other_than, connected as connected_answers, alignment_of, term, zone, zones, chain, pred}
use Rattle.c_model.specs.QuietPredicates.{IsQuiet}
use Rattle.c_model.specs.State.{State}
use Rattle.c_model.specs.Logic.{said}
use Rattle.annot_simulation.specs.Held.{Sorted, sort_held}
use Rattle.annot_simulation.specs.Does.{TakesNoStep}
use Rattle.annot_simulation.proofs.Parts.{after, pair, chosen}
use Rattle.annot_simulation.proofs.Exact.{value_of}

-- ---- what is said, without steps

abbrev pub said_by : Answer → Option Bool
said_by (Says b n) = Some b
said_by (SaysNothing n) = None
said_by OutOfSteps = None

abbrev pub says : Predicate → State → Environment → Option Bool
says p s e = said_by (pred p s e 0)

-- the answer is the same for all steps
abbrev pub Quiet : (ℕ → Answer) → Type 0
Quiet f = (n : ℕ) → f n ≡ said (said_by (f 0)) n

pub said_again : (o : Option Bool) (n : ℕ) → said_by (said o n) ≡ o
said_again None n = refl
said_again (Some b) n = refl

-- from an equation for all steps
quiet_by : (f : ℕ → Answer) (o : Option Bool) → ((n : ℕ) → f n ≡ said o n) → Quiet f
quiet_by f o h n = h n ∙ ap (λ o. said o n) (sym (ap said_by (h 0) ∙ said_again o 0))

-- one answer by another
lazy_said : (u v w : Option Bool) (on off : ℕ → Answer) (n : ℕ) → ((n : ℕ) → on n ≡ said v n) → ((n : ℕ) → off n ≡ said w n) → lazily (said u n) on off ≡ said (chosen u v w) n
lazy_said None v w on off n p q = refl
lazy_said (Some true) v w on off n p q = p n
lazy_said (Some false) v w on off n p q = q n

pub lazy_is : (f on off : ℕ → Answer) (n : ℕ) → Quiet f → Quiet on → Quiet off → lazily (f n) on off ≡ said (chosen (said_by (f 0)) (said_by (on 0)) (said_by (off 0))) n
lazy_is f on off n p q r = ap (λ a. lazily a on off) (p n) ∙ lazy_said (said_by (f 0)) (said_by (on 0)) (said_by (off 0)) on off n q r

lazy_quiet : (f on off : ℕ → Answer) → Quiet f → Quiet on → Quiet off → Quiet (λ n. lazily (f n) on off)
lazy_quiet f on off p q r = quiet_by (λ n. lazily (f n) on off) (chosen (said_by (f 0)) (said_by (on 0)) (said_by (off 0))) (λ n. lazy_is f on off n p q r)

says_quiet : (b : Bool) → Quiet (Says b)
says_quiet b n = refl

denied_quiet : (f : ℕ → Answer) → Quiet f → Quiet (λ n. denied (f n))
denied_quiet f p = lazy_quiet f (Says false) (Says true) p (says_quiet false) (says_quiet true)

said_quiet : (o : Option Bool) → Quiet (said o)
said_quiet o = quiet_by (said o) o (λ n. refl)

pub related_quiet : (store : Store) (r : Relation) (a b : Option TermValue) → Quiet (related store r a b)
related_quiet store r None b n = refl
related_quiet store r (Some (Mathematical x)) None n = refl
related_quiet store r (Some (Addressed x)) None n = refl
related_quiet store r (Some (Mathematical x)) (Some (Mathematical y)) n = refl
related_quiet store r (Some (Mathematical x)) (Some (Addressed y)) n = said_quiet (related_addresses store r null_address y) n
related_quiet store r (Some (Addressed x)) (Some (Mathematical y)) n = said_quiet (related_addresses store r x null_address) n
related_quiet store r (Some (Addressed x)) (Some (Addressed y)) n = said_quiet (related_addresses store r x y) n

abbrev pub turned : Option Bool → Option Bool
turned u = chosen u (Some false) (Some true)

pub chain_quiet : (a : Option TermValue) (l : Links) (s : State) (e : Environment) → Quiet (chain a l s e)
chain_quiet a NoLink s e = says_quiet true
chain_quiet a (Linked at r t rest) s e = lazy_quiet (related s.store r a (term t s e)) (chain (term t s e) rest s e) (Says false) (related_quiet s.store r a (term t s e)) (chain_quiet (term t s e) rest s e) (says_quiet false)

fully_said : (f : Bool → Answer → Answer) (g : Bool → Option Bool → Option Bool) (u v : Option Bool) (b : ℕ → Answer) (n : ℕ) → ((x : Bool) (o : Option Bool) → f x (said o n) ≡ said (g x o) n) → b n ≡ said v n
    → fully (said u n) b f ≡ said (after u (λ x. g x v)) n
fully_said f g None v b n h e = ap silenced e ∙ by v
  where
    by : (o : Option Bool) → silenced (said o n) ≡ SaysNothing n
    by None = refl
    by (Some x) = refl
fully_said f g (Some x) v b n h e = ap (f x) e ∙ h x v

same_said : (n : ℕ) (x : Bool) (o : Option Bool) → same_as x (said o n) ≡ said (chosen (Some x) o (turned o)) n
same_said n true o = refl
same_said n false None = refl
same_said n false (Some true) = refl
same_said n false (Some false) = refl

other_said : (n : ℕ) (x : Bool) (o : Option Bool) → other_than x (said o n) ≡ said (chosen (Some x) (turned o) o) n
other_said n false o = refl
other_said n true None = refl
other_said n true (Some true) = refl
other_said n true (Some false) = refl

fully_quiet : (f : Bool → Answer → Answer) (g : Bool → Option Bool → Option Bool) (a b : ℕ → Answer) → ((n : ℕ) (x : Bool) (o : Option Bool) → f x (said o n) ≡ said (g x o) n) → Quiet a → Quiet b → Quiet (λ n. fully (a n) b f)
fully_quiet f g a b h p q =
    quiet_by (λ n. fully (a n) b f) (after (said_by (a 0)) (λ x. g x (said_by (b 0)))) (λ n.
    ap (λ y. fully y b f) (p n) ∙ fully_said f g (said_by (a 0)) (said_by (b 0)) b n (h n) (q n))

connected_quiet : (c : Connective) (f g : ℕ → Answer) → Quiet f → Quiet g → Quiet (λ n. connected_answers c (f n) g)
connected_quiet And f g p q = lazy_quiet f g (Says false) p q (says_quiet false)
connected_quiet Or f g p q = lazy_quiet f (Says true) g p (says_quiet true) q
connected_quiet Implies f g p q = lazy_quiet f g (Says true) p q (says_quiet true)
connected_quiet Iff f g p q = fully_quiet same_as (λ x o. chosen (Some x) o (turned o)) f g same_said p q
connected_quiet Xor f g p q = fully_quiet other_than (λ x o. chosen (Some x) (turned o) o) f g other_said p q

pub pred_quiet : (p : Predicate) → IsQuiet p → (s : State) (e : Environment) → Quiet (pred p s e)
pred_quiet (logic.Truth at b) q s e = says_quiet b
pred_quiet (logic.NonZero at t) q s e = related_quiet s.store Ne (term t s e) (Some (Mathematical (pos 0)))
pred_quiet (logic.Chain at t links) q s e = chain_quiet (term t s e) links s e
pred_quiet (logic.Not at p) q s e = denied_quiet (pred p s e) (pred_quiet p q s e)
pred_quiet (logic.Connected at c p q) h s e = connected_quiet c (pred p s e) (pred q s e) (pred_quiet p h.0 s e) (pred_quiet q h.1 s e)
pred_quiet (logic.Branch at c p q) h s e = lazy_quiet (pred c s e) (pred p s e) (pred q s e) (pred_quiet c h.0 s e) (pred_quiet p h.1 s e) (pred_quiet q h.2 s e)
pred_quiet (logic.Quantified at q gs p) h s e = absurd h
pred_quiet (logic.Asks at f z) h s e = said_quiet (option_map (asks f s.store (alignment_of z)) (zone z s e))
pred_quiet (logic.Separated at zs) h s e = said_quiet (option_map all_apart (zones zs s e))

-- ---- what each form says, by what its parts say

pub lazy_says : (f on off : ℕ → Answer) → Quiet f → Quiet on → Quiet off → said_by (lazily (f 0) on off) ≡ chosen (said_by (f 0)) (said_by (on 0)) (said_by (off 0))
lazy_says f on off p q r = ap said_by (lazy_is f on off 0 p q r) ∙ said_again (chosen (said_by (f 0)) (said_by (on 0)) (said_by (off 0))) 0

abbrev pub connected : Connective → Option Bool → Option Bool → Option Bool
connected And u v = chosen u v (Some false)
connected Or u v = chosen u (Some true) v
connected Implies u v = chosen u v (Some true)
connected Iff u v = chosen u v (turned v)
connected Xor u v = chosen u (turned v) v

-- what is no pointer
abbrev pub IsNoPointer : Option TermValue → Type 0
IsNoPointer o = (y : Address) → o ≡ Some (Addressed y) → ⊥

pub relation_says : (store : Store) (r : Relation) (a b : Option TermValue) → IsNoPointer a → IsNoPointer b
    → said_by (related store r a b 0) ≡ after (value_of a) (λ x. after (value_of b) (λ y. Some (relates r x y)))
relation_says store r None b na nb = refl
relation_says store r (Some (Mathematical x)) None na nb = refl
relation_says store r (Some (Mathematical x)) (Some (Mathematical y)) na nb = refl
relation_says store r (Some (Mathematical x)) (Some (Addressed y)) na nb = absurd (nb y refl)
relation_says store r (Some (Addressed x)) b na nb = absurd (na x refl)

-- what is no number
abbrev pub IsNoNumber : Option TermValue → Type 0
IsNoNumber o = (z : ℤ) → o ≡ Some (Mathematical z) → ⊥

-- a relation of two pointers, and of a pointer and 0
pub addresses_say : (store : Store) (r : Relation) (a b : Option TermValue) → IsNoNumber a → IsNoNumber b
    → said_by (related store r a b 0) ≡ after (as_address a) (λ x. after (as_address b) (λ y. related_addresses store r x y))
addresses_say store r None b na nb = refl
addresses_say store r (Some (Mathematical x)) b na nb = absurd (na x refl)
addresses_say store r (Some (Addressed x)) None na nb = refl
addresses_say store r (Some (Addressed x)) (Some (Mathematical y)) na nb = absurd (nb y refl)
addresses_say store r (Some (Addressed x)) (Some (Addressed y)) na nb = said_again (related_addresses store r x y) 0

pub zero_last_says : (store : Store) (r : Relation) (a : Option TermValue) → IsNoNumber a
    → said_by (related store r a (Some (Mathematical (pos 0))) 0) ≡ after (as_address a) (λ x. related_addresses store r x null_address)
zero_last_says store r None na = refl
zero_last_says store r (Some (Mathematical x)) na = absurd (na x refl)
zero_last_says store r (Some (Addressed x)) na = said_again (related_addresses store r x null_address) 0

pub zero_first_says : (store : Store) (r : Relation) (b : Option TermValue) → IsNoNumber b
    → said_by (related store r (Some (Mathematical (pos 0))) b 0) ≡ after (as_address b) (λ y. related_addresses store r null_address y)
zero_first_says store r None nb = refl
zero_first_says store r (Some (Mathematical y)) nb = absurd (nb y refl)
zero_first_says store r (Some (Addressed y)) nb = said_again (related_addresses store r null_address y) 0

pub chain_says : (r : Relation) (a : Option TermValue) (t : LogicTerm) (rest : Links) (s : State) (e : Environment)
    → said_by (lazily (related s.store r a (term t s e) 0) (chain (term t s e) rest s e) (Says false)) ≡ chosen (said_by (related s.store r a (term t s e) 0)) (said_by (chain (term t s e) rest s e 0)) (Some false)
chain_says r a t rest s e = lazy_says (related s.store r a (term t s e)) (chain (term t s e) rest s e) (Says false) (related_quiet s.store r a (term t s e)) (chain_quiet (term t s e) rest s e) (says_quiet false)

pub choice_is : (c : Predicate) (a b : LogicTerm) (s : State) (e : Environment) → value_of (chosen_term (pred c s e 0) (term a s e) (term b s e)) ≡ chosen (says c s e) (value_of (term a s e)) (value_of (term b s e))
choice_is c a b s e = by (pred c s e 0)
  where
    by : (q : Answer) → value_of (chosen_term q (term a s e) (term b s e)) ≡ chosen (said_by q) (value_of (term a s e)) (value_of (term b s e))
    by (Says true n) = refl
    by (Says false n) = refl
    by (SaysNothing n) = refl
    by OutOfSteps = refl

pub choice_address : (c : Predicate) (a b : LogicTerm) (s : State) (e : Environment)
    → as_address (chosen_term (pred c s e 0) (term a s e) (term b s e)) ≡ chosen (says c s e) (as_address (term a s e)) (as_address (term b s e))
choice_address c a b s e = by (pred c s e 0)
  where
    by : (q : Answer) → as_address (chosen_term q (term a s e) (term b s e)) ≡ chosen (said_by q) (as_address (term a s e)) (as_address (term b s e))
    by (Says true n) = refl
    by (Says false n) = refl
    by (SaysNothing n) = refl
    by OutOfSteps = refl

pub both_is : (op : BinOp) (a b : Option TermValue) → value_of (both a b (compute op)) ≡ pair (value_of a) (value_of b) (λ x y. value_of (compute op x y))
both_is op None b = refl
both_is op (Some (Mathematical x)) None = refl
both_is op (Some (Mathematical x)) (Some (Mathematical y)) = refl
both_is op (Some (Mathematical x)) (Some (Addressed y)) = refl
both_is op (Some (Addressed x)) (Some b) = refl
both_is op (Some (Addressed x)) None = refl

-- each name means a number, or a pointer, by its sort
pub record AreSorted (ns : Sorted) (s : State) (e : Environment) : Type 0 where
  pub numbers : (x : ℕ) → sort_held x ns ≡ Some false → IsNoPointer (meant s (look x e))
  pub pointers : (x : ℕ) → sort_held x ns ≡ Some true → IsNoNumber (meant s (look x e))

pub none_sorted : (s : State) (e : Environment) → AreSorted [] s e
none_sorted s e = record { numbers = λ x q. absurd cc; pointers = λ x q. absurd cc }

pub takes_no_step : TakesNoStep
takes_no_step p s e quiet = (says p s e, pred_quiet p quiet s e)
