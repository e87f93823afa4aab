-- What an annotation says doesn't depend on how many steps are left, where they suffice: neither the values of its terms do, nor what its parts say.
use Rattle.std.proofs.Common.{◌≡◌, ℕ, zero, suc, ℤ, pos, ◌+ℤ◌, refl, sym, ap, ◌∙◌, subst, List, [], ◌∷◌, Option, Some, None, option_map, Bool, true, false, cond, nat_eq}
use mathlib.Core.Path.{fun_ext}
use Rattle.c_syntax.specs.declared.annotation.Relation.{Relation}
use Rattle.c_syntax.specs.declared.annotation.Relation.TheVariants.{Ne}
use Rattle.c_syntax.specs.declared.logic.Connective.{Connective}
use Rattle.c_syntax.specs.declared.logic.Connective.TheVariants.{And, Xor, Or, Implies, Iff}
use Rattle.c_syntax.specs.declared.logic.Label.TheVariants.{Here, Pre, Marked}
use Rattle.c_syntax.specs.declared.logic.Quantifier.{Quantifier}
use Rattle.c_syntax.specs.declared.logic.Quantifier.TheVariants.{ForAll, Exists}
use Rattle.c_syntax.specs.Logic.{LogicTerm, Number, Letter, Variable, Unary, Binary, Cast, Choice, Named, Links, NoLink, Linked, Predicate, Truth, NonZero}
use Rattle.c_syntax.specs.Logic.{Chain, Not, Connected, Branch, Quantified, Guards, NoGuard, Guarded, ClauseBody, Raw, Holds, Value, Annotation, At, Binder}
use Rattle.c_syntax.specs.Logic.{Behaviors, Null, Deref, Member, Address, Moved, Difference, Told, Asks, Separated, Zone, Object, Elements, Zones, NoZone}
use Rattle.c_syntax.specs.Logic.{Another}
use Rattle.c_model.specs.Memory.{Store}
use Rattle.c_model.specs.MemoryQuestions as memory
use Rattle.c_model.specs.MemoryQuestions.{address_farther}
use Rattle.c_model.specs.State.{State}
use Rattle.c_model.specs.TermRanges.{lowered, raised}
use Rattle.c_model.specs.Logic.{TermValue, Mathematical, Addressed, Environment, look, meant, always, Answer, Says, SaysNothing, OutOfSteps, lazily, denied, silenced, fully, both, compute, related, said, Extent}
use Rattle.c_model.specs.Logic.{at_label, valued_at, held_at, as_address, addressed, moved, difference, told, object_extent, elements_extent, asks, all_apart}
use Rattle.c_model.specs.Quantifiers.{deciding, tries, first_of, last_of, values, over, between}
use Rattle.c_model.specs.Predicates.{compute_one, converted, chosen, with_extent, alignment_of, same_as, other_than, connected, place, term, zone, zones, chain, pred, guarded, clause}
use Rattle.c_model.specs.ContractLaws.{IsSaid, AnswersNeedNoSteps}

-- ---- one state with other steps

module _ (s : State) (i j : ℕ) where
  abbrev before : State
  before = record s { steps = i }

  abbrev after : State
  after = record s { steps = j }

  -- names stand for the same
  abbrev IsStill : Environment → Type 0
  IsStill e = (x : ℕ) → meant before (look x e) ≡ meant after (look x e)

  still_behind : (n : ℕ) (v : TermValue) (e : Environment) → IsStill e → IsStill ((n, always v) ∷ e)
  still_behind n v e h x = by (nat_eq n x)
    where
      by : (t : Bool) → meant before (cond t (Some (always v)) (look x e)) ≡ meant after (cond t (Some (always v)) (look x e))
      by true = refl
      by false = h x

  over_same : (q : Quantifier) (bs : List Binder) (l h : ℤ) (p r : Environment → ℕ → Answer) → ((e : Environment) → IsStill e → (n : ℕ) → p e n ≡ r e n) → (e : Environment) → IsStill e → (n : ℕ) → over q l bs h p e n ≡ over q l bs h r e n
  over_same q [] l h p r same e still n = same e still n
  over_same q (b ∷ bs) l h p r same e still n =
      ap (λ f. tries q (values (first_of b.kind (raised b.above l)) (last_of b.kind h)) (first_of b.kind (raised b.above l)) f n)
      (fun_ext (λ v. fun_ext (λ n. over_same q bs v h p r same ((b.place.offset, always (Mathematical v)) ∷ e) (still_behind b.place.offset (Mathematical v) e still) n)))

  mutual
    place_same : (t : LogicTerm) (e : Environment) → IsStill e → place t before e ≡ place t after e
    place_same (Number at t r n) e h = refl
    place_same (Letter at t r n) e h = refl
    place_same (Variable at t r x) e h = refl
    place_same (Unary at t r op a) e h = refl
    place_same (Binary at t r op a b) e h = refl
    place_same (Cast at t r to a) e h = refl
    place_same (Choice at t r c a b) e h = refl
    place_same (Named at t r x) e h = refl
    place_same (At at t r l a) e h = refl
    place_same (Null at t r) e h = refl
    place_same (Deref at t r a) e h = ap as_address (value_same a e h)
    place_same (Member at t r d a) e h = ap (option_map (λ x. address_farther x (pos d))) (place_same a e h)
    place_same (Address at t r a) e h = refl
    place_same (Moved at t r op n a b) e h = refl
    place_same (Difference at t r n a b) e h = refl
    place_same (Told at t r f a) e h = refl

    value_same : (t : LogicTerm) (e : Environment) → IsStill e → term t before e ≡ term t after e
    value_same (Number at t r n) e h = refl
    value_same (Letter at t r n) e h = refl
    value_same (Variable at t r x) e h = refl
    value_same (Unary at t r op a) e h = ap (compute_one op) (value_same a e h)
    value_same (Binary at t r op a b) e h = λ i. both (value_same a e h i) (value_same b e h i) (compute op)
    value_same (Cast at t r to a) e h = ap (converted to) (value_same a e h)
    value_same (Choice at t r c a b) e h = λ i. chosen (answer_same c e h 0 i) (value_same a e h i) (value_same b e h i)
    value_same (Named at t r x) e h = h x.decl
    value_same (At at t r Here a) e h = value_same a e h
    value_same (At at t r Pre a) e h = refl
    value_same (At at t r (Marked l) a) e h = refl
    value_same (Null at t r) e h = refl
    value_same (Deref at t r a) e h = ap (λ x. held_at s.store t (as_address x)) (value_same a e h)
    value_same (Member at t r d a) e h = ap (λ x. held_at s.store t (option_map (λ y. address_farther y (pos d)) x)) (place_same a e h)
    value_same (Address at t r a) e h = ap addressed (place_same a e h)
    value_same (Moved at t r op n a b) e h = λ i. moved op n (value_same a e h i) (value_same b e h i)
    value_same (Difference at t r n a b) e h = λ i. difference s.store n (as_address (value_same a e h i)) (as_address (value_same b e h i))
    value_same (Told at t r f a) e h = ap (λ x. told s.store f (as_address x)) (value_same a e h)

    extent_same : (z : Zone) (e : Environment) → IsStill e → zone z before e ≡ zone z after e
    extent_same (Object at n m a) e h = ap (λ x. object_extent n (as_address x)) (value_same a e h)
    extent_same (Elements at n m a lo hi) e h = λ i. elements_extent n (value_same a e h i) (value_same lo e h i) (value_same hi e h i)

    extents_same : (zs : Zones) (e : Environment) → IsStill e → zones zs before e ≡ zones zs after e
    extents_same NoZone e h = refl
    extents_same (Another z rest) e h = λ i. with_extent (extent_same z e h i) (extents_same rest e h i)

    chain_same : (l : Links) (x : Option TermValue) (e : Environment) → IsStill e → (n : ℕ) → chain x l before e n ≡ chain x l after e n
    chain_same NoLink x e h n = refl
    chain_same (Linked at r t rest) x e h n =
        ap (λ y. lazily (related s.store r x y n) (chain y rest before e) (Says false)) (value_same t e h)
        ∙ ap (λ f. lazily (related s.store r x (term t after e) n) f (Says false)) (fun_ext (chain_same rest (term t after e) e h))

    answer_same : (p : Predicate) (e : Environment) → IsStill e → (n : ℕ) → pred p before e n ≡ pred p after e n
    answer_same (Truth at b) e h n = refl
    answer_same (NonZero at t) e h n = ap (λ x. related s.store Ne x (Some (Mathematical (pos 0))) n) (value_same t e h)
    answer_same (Chain at t l) e h n = ap (λ x. chain x l before e n) (value_same t e h) ∙ chain_same l (term t after e) e h n
    answer_same (Not at p) e h n = ap denied (answer_same p e h n)
    answer_same (Connected at c p q) e h n = λ i. connected c (answer_same p e h n i) (fun_ext (answer_same q e h) i)
    answer_same (Branch at c p q) e h n = λ i. lazily (answer_same c e h n i) (fun_ext (answer_same p e h) i) (fun_ext (answer_same q e h) i)
    answer_same (Quantified at q gs p) e h n = guards_same q gs (pred p before) (pred p after) (answer_same p) e h n
    answer_same (Asks at f z) e h n = ap (λ x. said (option_map (asks f s.store (alignment_of z)) x) n) (extent_same z e h)
    answer_same (Separated at zs) e h n = ap (λ x. said (option_map all_apart x) n) (extents_same zs e h)

    guards_same : (q : Quantifier) (gs : Guards) (p r : Environment → ℕ → Answer) → ((e : Environment) → IsStill e → (n : ℕ) → p e n ≡ r e n) → (e : Environment) → IsStill e → (n : ℕ) → guarded q gs p before e n ≡ guarded q gs r after e n
    guards_same q NoGuard p r same e h n = same e h n
    guards_same q (Guarded a y ys below b rest) p r same e h n = λ i.
        between (value_same a e h i) (value_same b e h i)
        (fun_ext (λ l. fun_ext (λ m. fun_ext (over_same q (y ∷ ys) l (lowered below m) (guarded q rest p before) (guarded q rest r after) (guards_same q rest p r same) e h))) i) n

-- ---- what is said with other steps left

-- what both say, where both say something
abbrev Agree : Answer → Answer → Type 0
Agree (Says a m) (Says b n) = a ≡ b
Agree (Says a m) (SaysNothing n) = ⊥
Agree (Says a m) OutOfSteps = Unit {0}
Agree (SaysNothing m) (Says b n) = ⊥
Agree (SaysNothing m) (SaysNothing n) = Unit {0}
Agree (SaysNothing m) OutOfSteps = Unit {0}
Agree OutOfSteps (Says b n) = Unit {0}
Agree OutOfSteps (SaysNothing n) = Unit {0}
Agree OutOfSteps OutOfSteps = Unit {0}

out_first : (a : Answer) → Agree OutOfSteps a
out_first (Says b n) = tt
out_first (SaysNothing n) = tt
out_first OutOfSteps = tt

out_second : (a : Answer) → Agree a OutOfSteps
out_second (Says b n) = tt
out_second (SaysNothing n) = tt
out_second OutOfSteps = tt

abbrev Agrees : (ℕ → Answer) → Type 0
Agrees f = (m n : ℕ) → Agree (f m) (f n)

says_agrees : (b : Bool) → Agrees (Says b)
says_agrees b m n = refl

lazily_agree : (a b : Answer) (on off : ℕ → Answer) → Agree a b → Agrees on → Agrees off → Agree (lazily a on off) (lazily b on off)
lazily_agree (Says true m) (Says true n) on off h f g = f m n
lazily_agree (Says true m) (Says false n) on off h f g = absurd cc
lazily_agree (Says false m) (Says true n) on off h f g = absurd cc
lazily_agree (Says false m) (Says false n) on off h f g = g m n
lazily_agree (Says b m) (SaysNothing n) on off h f g = absurd h
lazily_agree (Says true m) OutOfSteps on off h f g = out_second (on m)
lazily_agree (Says false m) OutOfSteps on off h f g = out_second (off m)
lazily_agree (SaysNothing m) (Says b n) on off h f g = absurd h
lazily_agree (SaysNothing m) (SaysNothing n) on off h f g = tt
lazily_agree (SaysNothing m) OutOfSteps on off h f g = tt
lazily_agree OutOfSteps b on off h f g = out_first (lazily b on off)

denied_agree : (a b : Answer) → Agree a b → Agree (denied a) (denied b)
denied_agree a b h = lazily_agree a b (Says false) (Says true) h (says_agrees false) (says_agrees true)

silenced_agree : (a b : Answer) → Agree a b → Agree (silenced a) (silenced b)
silenced_agree (Says a m) (Says b n) h = tt
silenced_agree (Says a m) (SaysNothing n) h = absurd h
silenced_agree (Says a m) OutOfSteps h = tt
silenced_agree (SaysNothing m) (Says b n) h = absurd h
silenced_agree (SaysNothing m) (SaysNothing n) h = tt
silenced_agree (SaysNothing m) OutOfSteps h = tt
silenced_agree OutOfSteps b h = out_first (silenced b)

fully_agree : (a b : Answer) (g : ℕ → Answer) (f : Bool → Answer → Answer) → Agree a b → Agrees g → ((t : Bool) (x y : Answer) → Agree x y → Agree (f t x) (f t y)) → Agree (fully a g f) (fully b g f)
fully_agree (Says t m) (Says u n) g f h k l = subst (λ u. Agree (f t (g m)) (f u (g n))) h (l t (g m) (g n) (k m n))
fully_agree (Says t m) (SaysNothing n) g f h k l = absurd h
fully_agree (Says t m) OutOfSteps g f h k l = out_second (f t (g m))
fully_agree (SaysNothing m) (Says u n) g f h k l = absurd h
fully_agree (SaysNothing m) (SaysNothing n) g f h k l = silenced_agree (g m) (g n) (k m n)
fully_agree (SaysNothing m) OutOfSteps g f h k l = out_second (silenced (g m))
fully_agree OutOfSteps b g f h k l = out_first (fully b g f)

same_agree : (t : Bool) (x y : Answer) → Agree x y → Agree (same_as t x) (same_as t y)
same_agree true x y h = h
same_agree false x y h = denied_agree x y h

other_agree : (t : Bool) (x y : Answer) → Agree x y → Agree (other_than t x) (other_than t y)
other_agree true x y h = denied_agree x y h
other_agree false x y h = h

connected_agree : (c : Connective) (a b : Answer) (g : ℕ → Answer) → Agree a b → Agrees g → Agree (connected c a g) (connected c b g)
connected_agree And a b g h k = lazily_agree a b g (Says false) h k (says_agrees false)
connected_agree Or a b g h k = lazily_agree a b (Says true) g h (says_agrees true) k
connected_agree Implies a b g h k = lazily_agree a b g (Says true) h k (says_agrees true)
connected_agree Iff a b g h k = fully_agree a b g same_as h k same_agree
connected_agree Xor a b g h k = fully_agree a b g other_than h k other_agree

said_agrees : (o : Option Bool) → Agrees (said o)
said_agrees None m n = tt
said_agrees (Some b) m n = refl

related_agrees : (store : Store) (r : Relation) (a b : Option TermValue) → Agrees (related store r a b)
related_agrees store r None b m n = tt
related_agrees store r (Some a) None m n = tt
related_agrees store r (Some (Mathematical x)) (Some (Mathematical y)) m n = refl
related_agrees store r (Some (Mathematical x)) (Some (Addressed y)) m n = said_agrees _ m n
related_agrees store r (Some (Addressed x)) (Some (Mathematical y)) m n = said_agrees _ m n
related_agrees store r (Some (Addressed x)) (Some (Addressed y)) m n = said_agrees _ m n

-- ---- quantifiers

deciding_agree : (q : Quantifier) (a b : Answer) (rest : ℕ → Answer) → Agree a b → Agrees rest → Agree (deciding q a rest) (deciding q b rest)
deciding_agree ForAll a b rest h k = lazily_agree a b rest (Says false) h k (says_agrees false)
deciding_agree Exists a b rest h k = lazily_agree a b (Says true) rest h (says_agrees true) k

tries_agree : (q : Quantifier) (k : ℕ) (v : ℤ) (p : ℤ → ℕ → Answer) → ((v : ℤ) → Agrees (p v)) → Agrees (tries q k v p)
tries_agree q zero v p h m n = refl
tries_agree q (suc k) v p h zero n = out_first (tries q (suc k) v p n)
tries_agree q (suc k) v p h (suc m) zero = out_second (tries q (suc k) v p (suc m))
tries_agree q (suc k) v p h (suc m) (suc n) = deciding_agree q (p v m) (p v n) (tries q k (v +ℤ pos 1) p) (h v m n) (tries_agree q k (v +ℤ pos 1) p h)

over_agree : (q : Quantifier) (bs : List Binder) (l h : ℤ) (p : Environment → ℕ → Answer) → ((e : Environment) → Agrees (p e)) → (e : Environment) → Agrees (over q l bs h p e)
over_agree q [] l h p k e = k e
over_agree q (b ∷ bs) l h p k e =
    tries_agree q (values (first_of b.kind (raised b.above l)) (last_of b.kind h)) (first_of b.kind (raised b.above l)) (λ v. over q v bs h p ((b.place.offset, always (Mathematical v)) ∷ e))
    (λ v. over_agree q bs v h p k ((b.place.offset, always (Mathematical v)) ∷ e))

between_agree : (a b : Option TermValue) (f : ℤ → ℤ → ℕ → Answer) → ((l h : ℤ) → Agrees (f l h)) → Agrees (between a b f)
between_agree None b f k m n = tt
between_agree (Some (Addressed x)) b f k m n = tt
between_agree (Some (Mathematical l)) None f k m n = tt
between_agree (Some (Mathematical l)) (Some (Addressed y)) f k m n = tt
between_agree (Some (Mathematical l)) (Some (Mathematical h)) f k m n = k l h m n

guards_agree : (q : Quantifier) (gs : Guards) (p : Environment → ℕ → Answer) → ((e : Environment) → Agrees (p e)) → (s : State) (e : Environment) → Agrees (guarded q gs p s e)
guards_agree q NoGuard p k s e = k e
guards_agree q (Guarded a y ys below b rest) p k s e =
    between_agree (term a s e) (term b s e) (λ l h. over q l (y ∷ ys) (lowered below h) (guarded q rest p s) e) (λ l h. over_agree q (y ∷ ys) l (lowered below h) (guarded q rest p s) (guards_agree q rest p k s) e)

-- ---- predicates

chain_agree : (l : Links) (x : Option TermValue) (s : State) (e : Environment) → Agrees (chain x l s e)
chain_agree NoLink x s e m n = refl
chain_agree (Linked at r t rest) x s e m n =
    lazily_agree (related s.store r x (term t s e) m) (related s.store r x (term t s e) n) (chain (term t s e) rest s e) (Says false) (related_agrees s.store r x (term t s e) m n) (chain_agree rest (term t s e) s e) (says_agrees false)

answer_agree : (p : Predicate) (s : State) (e : Environment) → Agrees (pred p s e)
answer_agree (Truth at b) s e m n = refl
answer_agree (NonZero at t) s e m n = related_agrees s.store Ne (term t s e) (Some (Mathematical (pos 0))) m n
answer_agree (Chain at t l) s e m n = chain_agree l (term t s e) s e m n
answer_agree (Not at p) s e m n = denied_agree (pred p s e m) (pred p s e n) (answer_agree p s e m n)
answer_agree (Connected at c p q) s e m n = connected_agree c (pred p s e m) (pred p s e n) (pred q s e) (answer_agree p s e m n) (answer_agree q s e)
answer_agree (Branch at c p q) s e m n = lazily_agree (pred c s e m) (pred c s e n) (pred p s e) (pred q s e) (answer_agree c s e m n) (answer_agree p s e) (answer_agree q s e)
answer_agree (Quantified at q gs p) s e m n = guards_agree q gs (pred p s) (answer_agree p s) s e m n
answer_agree (Asks at f z) s e m n = said_agrees (option_map (asks f s.store (alignment_of z)) (zone z s e)) m n
answer_agree (Separated at zs) s e m n = said_agrees (option_map all_apart (zones zs s e)) m n

pub answers_need_no_steps : AnswersNeedNoSteps
answers_need_no_steps s a x y = by a.body x.is y.is
  where
    by : (b : ClauseBody) → clause b (record s { steps = x.before }) [] x.before ≡ Says true x.after → clause b (record s { steps = y.before }) [] y.before ≡ Says false y.after → ⊥
    by (Raw f) e k = absurd cc
    by (Holds p) e k =
        let first : pred p (record s { steps = y.before }) [] x.before ≡ Says true x.after = sym (answer_same s x.before y.before p [] (λ z. refl) x.before) ∙ e in
        let agree = answer_agree p (record s { steps = y.before }) [] x.before y.before in
        let never : true ≡ false = subst (λ b. Agree (Says true x.after) b) k (subst (λ b. Agree b (pred p (record s { steps = y.before }) [] y.before)) first agree) in
        absurd cc
    by (Value t) e k = absurd cc
    by (Behaviors names) e k = absurd cc
