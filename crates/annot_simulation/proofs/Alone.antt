-- Terms and predicates without names and labels see the store and the scope alone.
use Rattle.std.proofs.Common.{◌≡◌, ℕ, pos, Bool, true, false, [], Option, Some, None, option_map, refl, sym, ap, ◌∙◌}
use Rattle.c_syntax.specs.declared.annotation.Relation.TheVariants.{Ne}
use Rattle.c_syntax.specs.Logic.{LogicTerm, Number, Letter, Variable, Unary, Binary, Cast, Choice, Null, Deref, Member, Address, Moved, Difference, Told}
use Rattle.c_syntax.specs.Logic.{Links, NoLink, Linked, Zone, Object, Elements, Zones, NoZone, Another, Predicate, Truth, NonZero, Chain, Not, Connected}
use Rattle.c_syntax.specs.Logic.{Branch, Quantified, Named, At, Asks, Separated}
use Rattle.c_syntax.specs.declared.logic.Label.TheVariants.{Here, Pre, Marked}
use Rattle.c_model.specs.Logic.{TermValue, Mathematical, Environment, state_at, Says, held_at, as_address, addressed, compute, both, moved, difference, told}
use Rattle.c_model.specs.Logic.{object_extent, elements_extent, related, lazily, denied, said, asks, all_apart}
use Rattle.c_model.specs.MemoryQuestions.{address_farther}
use Rattle.c_model.specs.QuietPredicates.{IsQuiet}
use Rattle.c_model.specs.Predicates.{alignment_of, chosen, compute_one, connected, converted, with_extent, term, place, zone, zones, chain, pred}
use Rattle.c_model.specs.State.{State, Scope}
use Rattle.annot_simulation.specs.Code.{is_pointer_term}
use Rattle.annot_simulation.specs.Does.{Planned, found_by, TermFound, PointerFound, PlaceFound, ZoneFound, ZonesFound, LinksFound, PredicateFound}

either : {A : Type 0} (b : Bool) (P N : Type 0) → (P → A) → (N → A) → found_by b P N → A
either true P N f g h = f h
either false P N f g h = g h

no_entry : (a : LogicTerm) (l : Option ℕ) → Planned [] l a → ⊥
no_entry a l p = let is : None ≡ Some p.entry = p.is in absurd cc

-- what a term without names and labels sees of a state: its store and its scope
abbrev pub seen_of : State → State
seen_of s = state_at (record { label = None; scope = s.scope; store = s.store })

module _ (s : State) (e : Environment) (there : Scope) where
  abbrev u : State
  u = seen_of s

  mutual
    pub term_alone : (t : LogicTerm) → TermFound [] there [] t → term t u [] ≡ term t s e
    term_alone (Number at t r n) f = refl
    term_alone (Letter at t r n) f = refl
    term_alone (Variable at t r x) f = refl
    term_alone (Unary at t r op a) f = ap (compute_one op) (term_alone a f)
    term_alone (Binary at t r op a b) f = λ i. both (term_alone a f.0 i) (term_alone b f.1 i) (compute op)
    term_alone (Cast at t r to a) f = ap (converted to) (term_alone a f.1)
    term_alone (Choice at t r c a b) f = λ i. chosen (pred_alone c f.0 f.1 0 i) (term_alone a f.2 i) (term_alone b f.3 i)
    term_alone (Deref at t r a) f = ap (λ x. held_at s.store t (as_address x)) (pointer_alone a f.1)
    term_alone (Member at t r d a) f = ap (λ x. held_at s.store t (option_map (λ x. address_farther x (pos d)) x)) (place_alone a f.1)
    term_alone (Difference at t r n a b) f = λ i. difference s.store n (as_address (pointer_alone a f.1 i)) (as_address (pointer_alone b f.2 i))
    term_alone (Told at t r g a) f = ap (λ x. told s.store g (as_address x)) (pointer_alone a f.1)
    term_alone (Named at t r x) f = absurd cc
    term_alone (At at t r Here a) f = term_alone a f
    term_alone (At at t r Pre a) f = absurd (no_entry a None f.0)
    term_alone (At at t r (Marked l) a) f = absurd (no_entry a (Some l) f.0)
    term_alone _ f = absurd f

    pub pointer_alone : (t : LogicTerm) → PointerFound [] there [] t → term t u [] ≡ term t s e
    pointer_alone (Variable at t r x) f = refl
    pointer_alone (Null at t r) f = refl
    pointer_alone (Deref at t r a) f = ap (λ x. held_at s.store t (as_address x)) (pointer_alone a f.1)
    pointer_alone (Member at t r d a) f = ap (λ x. held_at s.store t (option_map (λ x. address_farther x (pos d)) x)) (place_alone a f.1)
    pointer_alone (Address at t r a) f = ap addressed (place_alone a f)
    pointer_alone (Moved at t r op n a b) f = λ i. moved op n (pointer_alone a f.0 i) (term_alone b f.1 i)
    pointer_alone (Cast at t r to a) f = ap (converted to) (pointer_alone a f.1)
    pointer_alone (Choice at t r c a b) f = λ i. chosen (pred_alone c f.0 f.1 0 i) (pointer_alone a f.2 i) (pointer_alone b f.3 i)
    pointer_alone (Told at t r g a) f = ap (λ x. told s.store g (as_address x)) (pointer_alone a f.1)
    pointer_alone (Named at t r x) f = absurd cc
    pointer_alone (At at t r Here a) f = pointer_alone a f
    pointer_alone (At at t r Pre a) f = absurd (no_entry a None f.0)
    pointer_alone (At at t r (Marked l) a) f = absurd (no_entry a (Some l) f.0)
    pointer_alone _ f = absurd f

    place_alone : (t : LogicTerm) → PlaceFound [] there [] t → place t u [] ≡ place t s e
    place_alone (Variable at t r x) f = refl
    place_alone (Deref at t r a) f = ap as_address (pointer_alone a f)
    place_alone (Member at t r d a) f = ap (λ x. option_map (λ x. address_farther x (pos d)) x) (place_alone a f)
    place_alone _ f = absurd f

    zone_alone : (z : Zone) → ZoneFound [] there [] z → zone z u [] ≡ zone z s e
    zone_alone (Object at n m a) f = ap (λ x. object_extent n (as_address x)) (pointer_alone a f.1)
    zone_alone (Elements at n m a lo hi) f = λ i. elements_extent n (pointer_alone a f.1 i) (term_alone lo f.2 i) (term_alone hi f.3 i)

    zones_alone : (zs : Zones) → ZonesFound [] there [] zs → zones zs u [] ≡ zones zs s e
    zones_alone NoZone f = refl
    zones_alone (Another z rest) f = λ i. with_extent (zone_alone z f.0 i) (zones_alone rest f.1 i)

    chain_alone : (a : Option TermValue) (t : LogicTerm) (links : Links) → LinksFound [] there [] t links → (n : ℕ) → chain a links u [] n ≡ chain a links s e n
    chain_alone a t NoLink f n = refl
    chain_alone a t (Linked at r v rest) f n =
        let side : term v u [] ≡ term v s e = either (is_pointer_term v) (PointerFound [] there [] v) (TermFound [] there [] v) (pointer_alone v) (term_alone v) f.1 in
        (λ i. lazily (related s.store r a (side i) n) (chain (side i) rest u []) (Says false))
        ∙ (λ i. lazily (related s.store r a (term v s e) n) (λ k. chain_alone (term v s e) v rest f.2 k i) (Says false))

    pub pred_alone : (p : Predicate) → IsQuiet p → PredicateFound [] there [] p → (n : ℕ) → pred p u [] n ≡ pred p s e n
    pred_alone (Truth at b) k f n = refl
    pred_alone (NonZero at t) k f n = ap (λ x. related s.store Ne x (Some (Mathematical (pos 0))) n) (term_alone t f)
    pred_alone (Chain at t links) k f n =
        let side : term t u [] ≡ term t s e = either (is_pointer_term t) (PointerFound [] there [] t) (TermFound [] there [] t) (pointer_alone t) (term_alone t) f.0 in
        (λ i. chain (side i) links u [] n) ∙ chain_alone (term t s e) t links f.1 n
    pred_alone (Not at p) k f n = ap denied (pred_alone p k f n)
    pred_alone (Connected at c p q) k f n = λ i. connected c (pred_alone p k.0 f.0 n i) (λ m. pred_alone q k.1 f.1 m i)
    pred_alone (Branch at c p q) k f n = λ i. lazily (pred_alone c k.0 f.0 n i) (λ m. pred_alone p k.1 f.1 m i) (λ m. pred_alone q k.2 f.2 m i)
    pred_alone (Asks at g z) k f n = ap (λ x. said (option_map (asks g s.store (alignment_of z)) x) n) (zone_alone z f)
    pred_alone (Separated at zs) k f n = ap (λ x. said (option_map all_apart x) n) (zones_alone zs f)
    pred_alone (Quantified at q gs p) k f n = absurd k

-- so it has the same value in another environment
pub term_named : (t : LogicTerm) (s : State) (e : Environment) (there : Scope) → TermFound [] there [] t → term t s e ≡ term t s []
term_named t s e there f = sym (term_alone s e there t f) ∙ term_alone s [] there t f

pub pointer_named : (t : LogicTerm) (s : State) (e : Environment) (there : Scope) → PointerFound [] there [] t → term t s e ≡ term t s []
pointer_named t s e there f = sym (pointer_alone s e there t f) ∙ pointer_alone s [] there t f
