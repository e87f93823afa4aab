-- Which binders the chains of guards have that typing makes, and what stands behind them.
use Rattle.std.proofs.Common.{◌≡◌, ℕ, ◌+◌, ◌-◌, Bool, true, false, cond, ◌&&◌, List, [], ◌∷◌, ◌++◌, length, take, Option, Some, None, refl, ap, sym, subst, arith, ◌∙◌}
use Rattle.c_syntax.specs.declared.place.Place.{Place}
use Rattle.c_syntax.specs.declared.annotation.Relation.{Relation}
use Rattle.c_syntax.specs.declared.logic.Connective.TheVariants.{And, Xor, Or, Implies, Iff}
use Rattle.c_syntax.specs.declared.logic.Quantifier.TheVariants.{ForAll, Exists}
use Rattle.c_syntax.specs.Formulas as read
use Rattle.c_syntax.specs.Formulas.{CastType, Form, FormLinks}
use Rattle.c_syntax.specs.Logic.{Predicate, Quantified}
use Rattle.c_model.specs.AnnotationSights.{AnnotationSight, with_binders}
use Rattle.c_model.specs.QuantifierGuards.{behind_conjunct, mentions_any, is_upward, is_name_of, behind_links, behind_chain, unguarded, is_done, left_behind, guarded_by}
use Rattle.c_model.specs.QuantifierTyping.{binder_behind, binders_in, GuardChain, guards_of, Conjuncts, both_of, joined, implied}
use Rattle.c_model.specs.Formed.{AreApart}
use Rattle.c_model.specs.TypedPredicates.{IsCastType, IsIntegerTerm, AreBinders, TermTyped, PredicateTyped, GuardsTyped}

abbrev pub Names : Type 0
Names = List (Place × ℕ)

-- ---- binders that are left

pub append_none : (xs : Names) → xs ++ [] ≡ xs
append_none [] = refl
append_none (x ∷ xs) = ap (λ ys. x ∷ ys) (append_none xs)

append_all : (xs ys zs : Names) → xs ++ (ys ++ zs) ≡ (xs ++ ys) ++ zs
append_all [] ys zs = refl
append_all (x ∷ xs) ys zs = ap (λ us. x ∷ us) (append_all xs ys zs)

length_all : (xs ys : Names) → length (xs ++ ys) ≡ length xs + length ys
length_all [] ys = omega arith
length_all (x ∷ xs) ys = let e = length_all xs ys in omega (arith, e)

take_first : (xs ys : Names) → take (length xs) (xs ++ ys) ≡ xs
take_first [] [] = refl
take_first [] (y ∷ ys) = refl
take_first (x ∷ xs) ys = ap (λ us. x ∷ us) (take_first xs ys)

taken : (own rest : Names) → take (length (own ++ rest) - length rest) (own ++ rest) ≡ own
taken own rest =
    let e : length (own ++ rest) - length rest ≡ length own = (let f = length_all own rest in omega (arith, f)) in
    ap (λ n. take n (own ++ rest)) e ∙ take_first own rest

pub left_is : (o : Option Names) (k : Names → Option Names) (rest : Names) → elim o [ None ↦ None | Some m ↦ k m ] ≡ Some rest
    → (o ≡ Some (elim o [ None ↦ [] | Some m ↦ m ])) × (k (elim o [ None ↦ [] | Some m ↦ m ]) ≡ Some rest)
left_is None k rest e = absurd cc
left_is (Some m) k rest e = (refl, e)

pub done_is : (o : Option Names) → is_done o ≡ true → o ≡ Some []
done_is None e = absurd cc
done_is (Some []) e = refl
done_is (Some (b ∷ bs)) e = absurd cc

-- the binders of a part of a guard, where these are left behind it
pub guarded_is : (bs own rest : Names) (f : Form) → unguarded bs f ≡ Some rest → bs ≡ own ++ rest → guarded_by bs f ≡ own
guarded_is bs own rest f e split =
    let left : left_behind bs f ≡ rest = ap (λ (o : Option Names). elim o [ None ↦ [] | Some m ↦ m ]) e in
    (λ i. take (length (split i) - length (left i)) (split i)) ∙ taken own rest

-- ---- chains

pub record Binds (k : CastType) (bs rest : Names) (links : FormLinks) : Type 0 where
  pub own : Names
  pub split : bs ≡ own ++ rest
  pub binders : AreBinders (binders_in k bs links) own

last_binds : (k : CastType) (bs rest : Names) (at : Place) (r : Relation) (a : Form) → bs ≡ rest → Binds k bs rest (read.Linked at r a read.NoLink)
last_binds k [] rest at r a e = record { own = []; split = e; binders = tt }
last_binds k (b ∷ bs) rest at r a e = record { own = []; split = e; binders = tt }

next_is : (c : Bool) (o : Option Names) (rest : Names) → cond c o None ≡ Some rest → o ≡ Some rest
next_is true o rest e = e
next_is false o rest e = absurd cc

pub links_bind : (k : CastType) → IsCastType k → (bs later : Names) (links : FormLinks) (rest : Names) → AreApart bs → behind_links bs later links ≡ Some rest → Binds k bs rest links
links_bind k h bs later read.NoLink rest apart e = absurd cc
links_bind k h bs later (read.Linked at r a read.NoLink) rest apart e = last_binds k bs rest at r a (by _ e)
  where
    by : (c : Bool) → cond c (Some bs) None ≡ Some rest → bs ≡ rest
    by true f = cc
    by false f = absurd cc
links_bind k h [] later (read.Linked at r a (read.Linked place t c more)) rest apart e = absurd cc
links_bind k h (b ∷ bs) later (read.Linked at r a (read.Linked place t c more)) rest apart e =
    let w = links_bind k h bs later (read.Linked place t c more) rest apart.1 (next_is (is_upward r && is_name_of b a) (behind_links bs later (read.Linked place t c more)) rest e) in
    record { own = b ∷ w.own; split = ap (λ us. b ∷ us) w.split; binders = (refl, apart.0, h, w.binders) }

-- the binders of a chain
pub record ChainBinds (k : CastType) (b : Place × ℕ) (bs rest : Names) (r : Relation) (links : FormLinks) : Type 0 where
  pub own : Names
  pub split : b ∷ bs ≡ own ++ rest
  pub binders : AreBinders (binder_behind k r b ∷ binders_in k bs links) own

not_so : (c : Bool) (o : Option Names) (rest : Names) → cond c None o ≡ Some rest → o ≡ Some rest
not_so true o rest e = absurd cc
not_so false o rest e = e

pub chain_binds : (k : CastType) → IsCastType k → (b : Place × ℕ) (bs rest : Names) (a : Form) (at : Place) (r : Relation) (c : Form) (links : FormLinks) → AreApart (b ∷ bs)
    → behind_chain (b ∷ bs) a (read.Linked at r c links) ≡ Some rest → ChainBinds k b bs rest r links
chain_binds k h b bs rest a at r c read.NoLink apart e = absurd cc
chain_binds k h b bs rest a at r c (read.Linked place t d more) apart e =
    let links : FormLinks = read.Linked place t d more in
    let whole = not_so (mentions_any (b ∷ bs) a) (behind_links (b ∷ bs) (b ∷ bs) (read.Linked at r c links)) rest e in
    let w = links_bind k h bs (b ∷ bs) links rest apart.1 (next_is (is_upward r && is_name_of b c) (behind_links bs (b ∷ bs) links) rest whole) in
    record { own = b ∷ w.own; split = ap (λ us. b ∷ us) w.split; binders = (refl, apart.0, h, w.binders) }

-- ---- binders that are left are apart as they were

apart_links : (bs later : Names) (links : FormLinks) (rest : Names) → AreApart bs → behind_links bs later links ≡ Some rest → AreApart rest
apart_links bs later read.NoLink rest h e = absurd cc
apart_links bs later (read.Linked at r a read.NoLink) rest h e = by _ e
  where
    by : (c : Bool) → cond c (Some bs) None ≡ Some rest → AreApart rest
    by true f = let same : bs ≡ rest = cc in subst AreApart same h
    by false f = absurd cc
apart_links [] later (read.Linked at r a (read.Linked place t c more)) rest h e = absurd cc
apart_links (b ∷ bs) later (read.Linked at r a (read.Linked place t c more)) rest h e =
    apart_links bs later (read.Linked place t c more) rest h.1 (next_is (is_upward r && is_name_of b a) (behind_links bs later (read.Linked place t c more)) rest e)

apart_chain : (bs : Names) (a : Form) (links : FormLinks) (rest : Names) → AreApart bs → behind_chain bs a links ≡ Some rest → AreApart rest
apart_chain bs a read.NoLink rest h e = absurd cc
apart_chain bs a (read.Linked at r b read.NoLink) rest h e = absurd cc
apart_chain bs a (read.Linked at r b (read.Linked place t c more)) rest h e =
    let links : FormLinks = read.Linked at r b (read.Linked place t c more) in
    apart_links bs bs links rest h (not_so (mentions_any bs a) (behind_links bs bs links) rest e)

apart_conjunct : (bs : Names) (chain : Option Names) (rest : Names) → AreApart bs → (chain ≡ Some rest → AreApart rest) → behind_conjunct bs chain ≡ Some rest → AreApart rest
apart_conjunct [] chain rest h k e = let same : [] ≡ rest = cc in subst AreApart same tt
apart_conjunct (b ∷ bs) chain rest h k e = k e

no_chain : (rest : Names) → None ≡ Some rest → AreApart rest
no_chain rest e = absurd cc

pub apart_behind : (bs : Names) (f : Form) (rest : Names) → AreApart bs → unguarded bs f ≡ Some rest → AreApart rest
apart_behind bs (read.Connected at And a b) rest h e =
    let parts = left_is (unguarded bs a) (λ more. unguarded more b) rest e in
    apart_behind (left_behind bs a) b rest (apart_behind bs a (left_behind bs a) h parts.0) parts.1
apart_behind bs (read.Chain at a links) rest h e = apart_conjunct bs (behind_chain bs a links) rest h (apart_chain bs a links rest h) e
apart_behind bs (read.Number at n) rest h e = apart_conjunct bs None rest h (no_chain rest) e
apart_behind bs (read.Letter at n) rest h e = apart_conjunct bs None rest h (no_chain rest) e
apart_behind bs (read.Truth at v) rest h e = apart_conjunct bs None rest h (no_chain rest) e
apart_behind bs (read.Name at x) rest h e = apart_conjunct bs None rest h (no_chain rest) e
apart_behind bs (read.Unary at op a) rest h e = apart_conjunct bs None rest h (no_chain rest) e
apart_behind bs (read.Binary at op a b) rest h e = apart_conjunct bs None rest h (no_chain rest) e
apart_behind bs (read.Cast at to a) rest h e = apart_conjunct bs None rest h (no_chain rest) e
apart_behind bs (read.SizeOf at u) rest h e = apart_conjunct bs None rest h (no_chain rest) e
apart_behind bs (read.Choice at j a b) rest h e = apart_conjunct bs None rest h (no_chain rest) e
apart_behind bs (read.Null at) rest h e = apart_conjunct bs None rest h (no_chain rest) e
apart_behind bs (read.Index at a b) rest h e = apart_conjunct bs None rest h (no_chain rest) e
apart_behind bs (read.Dot at a m) rest h e = apart_conjunct bs None rest h (no_chain rest) e
apart_behind bs (read.Arrow at a m) rest h e = apart_conjunct bs None rest h (no_chain rest) e
apart_behind bs (read.Told at f a) rest h e = apart_conjunct bs None rest h (no_chain rest) e
apart_behind bs (read.Asks at q z) rest h e = apart_conjunct bs None rest h (no_chain rest) e
apart_behind bs (read.Separated at zs) rest h e = apart_conjunct bs None rest h (no_chain rest) e
apart_behind bs (read.Result at) rest h e = apart_conjunct bs None rest h (no_chain rest) e
apart_behind bs (read.Old at a) rest h e = apart_conjunct bs None rest h (no_chain rest) e
apart_behind bs (read.At at a place l) rest h e = apart_conjunct bs None rest h (no_chain rest) e
apart_behind bs (read.Quantified at q to names a) rest h e = apart_conjunct bs None rest h (no_chain rest) e
apart_behind bs (read.Connected at Xor a b) rest h e = apart_conjunct bs None rest h (no_chain rest) e
apart_behind bs (read.Connected at Or a b) rest h e = apart_conjunct bs None rest h (no_chain rest) e
apart_behind bs (read.Connected at Implies a b) rest h e = apart_conjunct bs None rest h (no_chain rest) e
apart_behind bs (read.Connected at Iff a b) rest h e = apart_conjunct bs None rest h (no_chain rest) e

pub apart_left : (bs : Names) (f : Form) → AreApart bs → AreApart (left_behind bs f)
apart_left bs f h = by (unguarded bs f) (apart_behind bs f)
  where
    by : (o : Option Names) → ((rest : Names) → AreApart bs → o ≡ Some rest → AreApart rest) → AreApart (elim o [ None ↦ [] | Some rest ↦ rest ])
    by None k = tt
    by (Some rest) k = k rest h refl

-- ---- what is known of conjuncts

-- chains that have these binders
abbrev pub ChainsTyped : AnnotationSight → List GuardChain → Names → Type 0
ChainsTyped s [] bs = bs ≡ []
ChainsTyped s (c ∷ cs) bs =
    IsIntegerTerm c.lower × IsIntegerTerm c.upper × TermTyped s c.lower × TermTyped s c.upper
    × (own : Names) × (more : Names) × (bs ≡ own ++ more) × AreBinders (c.first ∷ c.others) own × ChainsTyped (with_binders s own) cs more

-- a hypothesis stands where no binders are left
abbrev pub OthersTyped : AnnotationSight → Names → Option Predicate → Type 0
OthersTyped s rest None = Unit {0}
OthersTyped s rest (Some p) = (rest ≡ []) × PredicateTyped s p

-- the first of these binders, with the others left
pub record ConjunctsTyped (s : AnnotationSight) (bs rest : Names) (c : Conjuncts) : Type 0 where
  pub own : Names
  pub split : bs ≡ own ++ rest
  pub chains : ChainsTyped s c.chains own
  pub others : OthersTyped (with_binders s own) rest c.others

binders_all : (s : AnnotationSight) (xs ys : Names) → with_binders (with_binders s xs) ys ≡ with_binders s (xs ++ ys)
binders_all s xs ys = λ i. record s { binders = sym (append_all s.binders xs ys) i }

binders_none : (s : AnnotationSight) → with_binders s [] ≡ s
binders_none s = λ i. record s { binders = append_none s.binders i }

chains_all : (s : AnnotationSight) (cs ds : List GuardChain) (xs ys : Names) → ChainsTyped s cs xs → ChainsTyped (with_binders s xs) ds ys → ChainsTyped s (cs ++ ds) (xs ++ ys)
chains_all s [] ds xs ys v w = subst (λ us. ChainsTyped s ds (us ++ ys)) (sym v) (subst (λ u. ChainsTyped u ds ys) (ap (with_binders s) v ∙ binders_none s) w)
chains_all s (c ∷ cs) ds xs ys v w =
    let own = v.4 in
    let more = v.5 in
    let after = subst (λ us. ChainsTyped (with_binders s us) ds ys) v.6 w in
    let next = chains_all (with_binders s own) cs ds more ys v.8 (subst (λ u. ChainsTyped u ds ys) (sym (binders_all s own more)) after) in
    (v.0, v.1, v.2, v.3, own, more ++ ys, ap (λ us. us ++ ys) v.6 ∙ sym (append_all own more ys), v.7, next)

none_first : (xs ys : Names) → xs ++ ys ≡ [] → (xs ≡ []) × (ys ≡ [])
none_first [] ys e = (refl, e)
none_first (x ∷ xs) ys e = absurd cc

others_all : (s : AnnotationSight) (at : Place) (xs ys mid rest : Names) (p q : Option Predicate) → mid ≡ ys ++ rest → OthersTyped (with_binders s xs) mid p → OthersTyped (with_binders (with_binders s xs) ys) rest q
    → OthersTyped (with_binders s (xs ++ ys)) rest (both_of at p q)
others_all s at xs ys mid rest None None e v w = tt
others_all s at xs ys mid rest None (Some q) e v w = (w.0, subst (λ u. PredicateTyped u q) (binders_all s xs ys) w.1)
others_all s at xs ys mid rest (Some p) None e v w =
    let ends = none_first ys rest (sym e ∙ v.0) in
    (ends.1, subst (λ us. PredicateTyped (with_binders s us) p) (sym (ap (λ us. xs ++ us) ends.0 ∙ append_none xs)) v.1)
others_all s at xs ys mid rest (Some p) (Some q) e v w =
    let ends = none_first ys rest (sym e ∙ v.0) in
    (w.0, (subst (λ us. PredicateTyped (with_binders s us) p) (sym (ap (λ us. xs ++ us) ends.0 ∙ append_none xs)) v.1, subst (λ u. PredicateTyped u q) (binders_all s xs ys) w.1))

pub joined_typed : (s : AnnotationSight) (at : Place) (f : Form) (bs mid rest : Names) (a b : Conjuncts) → unguarded bs f ≡ Some mid → ConjunctsTyped s bs mid a → ConjunctsTyped (with_binders s (guarded_by bs f)) mid rest b
    → ConjunctsTyped s bs rest (joined at a b)
joined_typed s at f bs mid rest a b e v w =
    let here : guarded_by bs f ≡ v.own = guarded_is bs v.own mid f e v.split in
    let x : ConjunctsTyped (with_binders s v.own) mid rest b = subst (λ us. ConjunctsTyped (with_binders s us) mid rest b) here w in
    record {
      own = v.own ++ x.own;
      split = v.split ∙ ap (λ us. v.own ++ us) x.split ∙ append_all v.own x.own rest;
      chains = chains_all s a.chains b.chains v.own x.own v.chains x.chains;
      others = others_all s at v.own x.own mid rest a.others b.others x.split v.others x.others;
    }

pub other_typed : (s : AnnotationSight) (p : Predicate) → PredicateTyped s p → ConjunctsTyped s [] [] (record { chains = []; others = Some p })
other_typed s p w = record { own = []; split = refl; chains = refl; others = (refl, subst (λ u. PredicateTyped u p) (sym (binders_none s)) w) }

guards_typed : (s : AnnotationSight) (cs : List GuardChain) (own : Names) (P : AnnotationSight → Type 0) → ChainsTyped s cs own → P (with_binders s own) → GuardsTyped s (guards_of cs) P
guards_typed s [] own P v w = subst P (ap (with_binders s) v ∙ binders_none s) w
guards_typed s (c ∷ cs) own P v w =
    (v.0, v.1, v.2, v.3, v.4, v.7, guards_typed (with_binders s v.4) cs v.5 P v.8 (subst P (ap (with_binders s) v.6 ∙ sym (binders_all s v.4 v.5)) w))

all_own : (s : AnnotationSight) (bs : Names) (c : Conjuncts) (v : ConjunctsTyped s bs [] c) → v.own ≡ bs
all_own s bs c v = sym (v.split ∙ append_none v.own)

implied_typed : (s : AnnotationSight) (at : Place) (h : Option Predicate) (p : Predicate) → OthersTyped s [] h → PredicateTyped s p → PredicateTyped s (implied at h p)
implied_typed s at None p v w = w
implied_typed s at (Some h) p v w = (v.1, w)

pub universal_typed : (s : AnnotationSight) (at place : Place) (bs : Names) (c : Conjuncts) (p : Predicate) → ConjunctsTyped s bs [] c → PredicateTyped (with_binders s bs) p
    → PredicateTyped s (Quantified at ForAll (guards_of c.chains) (implied place c.others p))
universal_typed s at place bs c p v w =
    let body = subst (λ us. PredicateTyped (with_binders s us) p) (sym (all_own s bs c v)) w in
    guards_typed s c.chains v.own (λ u. PredicateTyped u (implied place c.others p)) v.chains (implied_typed (with_binders s v.own) place c.others p v.others body)

pub existential_typed : (s : AnnotationSight) (at : Place) (bs : Names) (c : Conjuncts) (p : Predicate) → c.others ≡ Some p → ConjunctsTyped s bs [] c → PredicateTyped s (Quantified at Exists (guards_of c.chains) p)
existential_typed s at bs c p e v =
    let body = subst (OthersTyped (with_binders s v.own) []) e v.others in
    guards_typed s c.chains v.own (λ u. PredicateTyped u p) v.chains body.1
