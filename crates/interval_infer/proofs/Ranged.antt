-- A form whose parts have their ranges has its own, or is refused.
use Rattle.std.proofs.Common.{◌≡◌, ℕ, Bool, true, false, List, ◌∷◌, refl, sym, ap, ◌∙◌, subst, Option, Some, None, Result, Ok, Err, IfOk, option_map, OnOk, ◌&&◌}
use Rattle.c_syntax.specs.declared.place.Place.{Place}
use Rattle.c_syntax.specs.declared.annotation.Range.{Range}
use Rattle.c_syntax.specs.declared.annotation.Relation.{Relation}
use Rattle.c_syntax.specs.declared.expression.UnOp.{UnOp}
use Rattle.c_syntax.specs.declared.expression.Use.{Use}
use Rattle.c_syntax.specs.declared.logic.Label.{Label}
use Rattle.c_syntax.specs.declared.logic.LogicType.{LogicType}
use Rattle.c_syntax.specs.declared.logic.Connective.{Connective}
use Rattle.c_syntax.specs.declared.logic.Guards as code_guards
use Rattle.c_syntax.specs.declared.logic.Links as code_links
use Rattle.c_syntax.specs.declared.logic.Pred.{Pred}
use Rattle.c_syntax.specs.declared.logic.PredKind.{PredKind}
use Rattle.c_syntax.specs.declared.logic.PredKind as pred
use Rattle.c_syntax.specs.declared.logic.Quantifier.{Quantifier}
use Rattle.c_syntax.specs.declared.logic.Term.{Term}
use Rattle.c_syntax.specs.declared.logic.TermKind.{TermKind}
use Rattle.c_syntax.specs.declared.logic.TermKind as term
use Rattle.c_syntax.specs.declared.logic.Zone as code_zone
use Rattle.c_syntax.specs.declared.logic.ZoneKind.{ZoneKind}
use Rattle.c_syntax.specs.declared.logic.ZoneKind as zone
use Rattle.c_syntax.specs.declared.logic.Zones as code_zones
use Rattle.c_syntax.specs.Ctypes.{PlainType, plain_type}
use Rattle.c_syntax.specs.Formulas.{plain_cast_type}
use Rattle.c_syntax.specs.Logic.{LogicTerm, Variable, Unary, Cast, Choice, Named, At, Linked, Predicate, Chain, Connected, Branch, Quantified, Binder, Guards, Guarded}
use Rattle.c_syntax.specs.Logic.{Deref, Member, Address, Zone, Elements, Another}
use Rattle.c_syntax.specs.Logic.{range_of, plain_term_kind, plain_term, plain_links, plain_pred_kind, plain_pred, plain_guards, plain_zone_kind, plain_zones}
use Rattle.c_model.specs.Checked.{Checked, Good, Bad, one_part, both_parts, pair_of, given, where_so, refusing}
use Rattle.c_model.specs.TermRanges.{Seen, place_range, range_seen, unary_range, cast_range, hull, no_range, ranged_term, ranged_links, ranged_pred, ranged_guards, ranged_zone, are_bounded, seen_binders, lowered}
use Rattle.c_model.specs.TermRanges.{ranged_zones, TermRanged, address_range, held_range, member_range, has_extent}
use Rattle.c_model.specs.Ranges.{IsRange}
use Rattle.c_model.proofs.RangedTrees.{ranging_keeps_terms}
use Rattle.c_scopes.specs.declared.fault.TypeFault.{TypeFault}
use Rattle.c_scopes.specs.declared.fault.TypeFault.TheVariants.{Refused, Memory}
use Rattle.c_scopes.specs.Answers.{Answers, both}
use Rattle.c_scopes.proofs.Least.{both_answers, both_made, both_refused, one_refused}
use Rattle.interval_infer.specs.Laws.{AreSeen}
use Rattle.interval_infer.specs.Answers as answer
use Rattle.interval_infer.specs.Answers.{or_no_range, plain_zone}
use Rattle.interval_infer.specs.Seen.{GuardsAnswer, seen_guards}
use Rattle.interval_infer.proofs.Sound.{ranges_are_ordered}

-- the range of a tree's plain form is that of the tree
pub kept_range : (at : Place) (k : TermKind) (t : Option PlainType) (r : Range) → range_of (plain_term_kind at k t r) ≡ r
kept_range at (term.Number n) t r = refl
kept_range at (term.Letter n) t r = refl
kept_range at (term.Variable x) t r = refl
kept_range at (term.Unary' op pa p a ta ra) t r = refl
kept_range at (term.Binary' op pa p a ta ra pb q b tb rb) t r = refl
kept_range at (term.Cast' to pa p a ta ra) t r = refl
kept_range at (term.Choice' pc o c pa p a ta ra pb q b tb rb) t r = refl
kept_range at term.Null t r = refl
kept_range at (term.Deref' pa p a ta ra) t r = refl
kept_range at (term.Member' d pa p a ta ra) t r = refl
kept_range at (term.Address' pa p a ta ra) t r = refl
kept_range at (term.Moved' op n pa p a ta ra pb q b tb rb) t r = refl
kept_range at (term.Difference' n pa p a ta ra pb q b tb rb) t r = refl
kept_range at (term.Told' f pa p a ta ra) t r = refl
kept_range at (term.Named x) t r = refl
kept_range at (term.At' l pa p a ta ra) t r = refl

pub range_is : (a : Term) → range_of (plain_term a) ≡ a.range
range_is a = kept_range a.place a.kind.value (option_map plain_type a.ctype) a.range

given_answers : (o : Option Range) (at : Place) (form : Range → LogicTerm) → Answers form (given o (no_range at) (λ s. Good (form s))) (or_no_range o at)
given_answers None at form = refl
given_answers (Some r) at form = refl

-- a range that comes of what a part is
part_ranged : {A : Type 0} (rule : A → Option Range) (form : Range → A → LogicTerm) (at : Place) (m : Checked A) (x : A) (z : Result Range TypeFault) → m ≡ Good x → z ≡ or_no_range (rule x) at
    → Answers (λ s. form s x) (one_part m (λ b. given (rule b) (no_range at) (λ s. Good (form s b)))) z
part_ranged rule form at m x z is e =
    subst (λ c. Answers (λ s. form s x) (one_part c (λ b. given (rule b) (no_range at) (λ s. Good (form s b)))) z) (sym is)
    (subst (Answers (λ s. form s x) (given (rule x) (no_range at) (λ s. Good (form s x)))) (sym e) (given_answers (rule x) at (λ s. form s x)))

-- what comes of two parts comes of them as one
pair_then : {A B C : Type 0} (k : A → B → Checked C) (m : Checked A) (n : Checked B) → both_parts m n k ≡ one_part (pair_of m n) (λ ab. k ab.0 ab.1)
pair_then k (Good a) (Good b) = refl
pair_then k (Good a) (Bad g gs) = refl
pair_then k (Bad f fs) (Good b) = refl
pair_then k (Bad f fs) (Bad g gs) = refl

-- what two parts are, of which neither is refused
record Parts {A B : Type 0} (m : Checked A) (n : Checked B) (x : A) (y : B) : Type 0 where
  left : m ≡ Good x
  right : n ≡ Good y

good_parts : {A B : Type 0} (m : Checked A) (n : Checked B) (x : A) (y : B) (q r : Result (Unit {0}) TypeFault) (u : Unit {0}) → Answers (λ (v : Unit {0}). x) m q → Answers (λ (v : Unit {0}). y) n r → both q r ≡ Ok u → Parts m n x y
good_parts m n x y (Ok v) (Ok w) u hm hn e = record { left = hm; right = hn }
good_parts m n x y (Ok v) (Err g) u hm hn e = absurd cc
good_parts m n x y (Err f) (Ok w) u hm hn e = absurd cc
good_parts m n x y (Err f) (Err g) u hm hn e = absurd cc

-- a refusal is one whatever the tree would be
pub refused_too : {T S A : Type 0} (p : T → A) (q : S → A) (c : Checked A) (f : TypeFault) → Answers p c (Err f) → Answers q c (Err f)
refused_too p q c (Refused f) h = h
refused_too p q c Memory h = tt

-- a place that a pointer points to has the pointer's range for its address
pub pointed_address : (at : Place) (k : TermKind) (t : Option PlainType) (r : Range) (a : Term) → k ≡ term.Deref a → Some a.range ≡ address_range (plain_term_kind at k t r)
pointed_address at k t r a is = subst (λ x. Some a.range ≡ address_range (plain_term_kind at x t r)) (sym is) (ap Some (sym (range_is a)))

-- where these names of annotations are in sight
module _ (seen : Seen)
  where
    -- what a tree in its place is
    abbrev pub Is : Term → Result (Unit {0}) TypeFault → Term → Type 0
    Is a q a' = Answers (λ (u : Unit {0}). plain_term a') (ranged_term seen (plain_term a)) q

    -- one that comes of that of a term
    one_ranged : (rule : Range → Option Range) (form : Range → LogicTerm → LogicTerm) (at : Place) (a a' : Term) (z : Result Range TypeFault) → Is a (Ok tt) a' → z ≡ or_no_range (rule a'.range) at
        → Answers (λ s. form s (plain_term a')) (one_part (ranged_term seen (plain_term a)) (λ b. given (rule (range_of b)) (no_range at) (λ s. Good (form s b)))) z
    one_ranged rule form at a a' z ha e =
        part_ranged (λ b. rule (range_of b)) form at (ranged_term seen (plain_term a)) (plain_term a') z ha (e ∙ ap (λ r. or_no_range (rule r) at) (sym (range_is a')))

    -- the range of a term has a number in it
    pub in_order : AreSeen IsRange seen → (at : Place) (k k' : TermKind) (t : Option PlainType) (r s : Range) → ranged_term seen (plain_term_kind at k t r) ≡ Good (plain_term_kind at k' t s) → IsRange s
    in_order are at k k' t r s e =
        subst IsRange (kept_range at k' t s) (ranges_are_ordered seen (plain_term_kind at k' t s) are (ranging_keeps_terms seen (plain_term_kind at k t r) (plain_term_kind at k' t s) e).ranged)

    pub pointed_ordered : AreSeen IsRange seen → (at : Place) (k : TermKind) (t : Option PlainType) (r : Range) (a : Term) → k ≡ term.Deref a → TermRanged seen (plain_term_kind at k t r) → IsRange a.range
    pointed_ordered are at k t r a is h = subst IsRange (range_is a) (ranges_are_ordered seen (plain_term a) are (subst (λ x. TermRanged seen (plain_term_kind at x t r)) is h).1)

    -- two terms of which one is refused
    pub two_refused : (a a' b b' : Term) (q v : Result (Unit {0}) TypeFault) (h : TypeFault) → Is a q a' → Is b v b' → both q v ≡ Err h
        → Answers (λ (r : Range × Range). (plain_term a', plain_term b')) (pair_of (ranged_term seen (plain_term a)) (ranged_term seen (plain_term b))) (Err h)
    two_refused a a' b b' q v h ha hb j =
        let m = ranged_term seen (plain_term a) in
        let n = ranged_term seen (plain_term b) in
        refused_too (λ (u : Unit {0}). (plain_term a', plain_term b')) (λ (r : Range × Range). (plain_term a', plain_term b')) (pair_of m n) h
        (both_answers (λ (u : Unit {0}). plain_term a') (λ (u : Unit {0}). plain_term b') m n q v (Err h) ha hb j)

    -- the ranges that a term is given are right
    pub keeps_ranges : (a a' : Term) → Is a (Ok tt) a' → TermRanged seen (plain_term a')
    keeps_ranges a a' h = (ranging_keeps_terms seen (plain_term a) (plain_term a') h).ranged

    -- ---- terms in their places: the form, its parts before and after, and what they answer

    module _ (at : Place) (k : TermKind) (t : Option PlainType) (r : Range)
      where
        -- what is shown of a kind is what is shown of the form that it is
        at_kind : (k' : TermKind) (form : Range → LogicTerm) (z : Result Range TypeFault) → k ≡ k' → Answers form (ranged_term seen (plain_term_kind at k' t r)) z → Answers form (ranged_term seen (plain_term_kind at k t r)) z
        at_kind k' form z is h = subst (λ x. Answers form (ranged_term seen (plain_term_kind at x t r)) z) (sym is) h

        pub variable_in_place : (x : Use) (z : Result Range TypeFault) → k ≡ term.Variable x → z ≡ or_no_range (place_range t) at → Answers (plain_term_kind at k t) (ranged_term seen (plain_term_kind at k t r)) z
        variable_in_place x z is e =
            subst (λ y. Answers (plain_term_kind at y t) (ranged_term seen (plain_term_kind at y t r)) z) (sym is)
            (subst (Answers (λ s. Variable at t s x) (given (place_range t) (no_range at) (λ s. Good (Variable at t s x)))) (sym e) (given_answers (place_range t) at (λ s. Variable at t s x)))

        pub named_in_place : (x : Use) (z : Result Range TypeFault) → k ≡ term.Named x → z ≡ or_no_range (range_seen x.decl seen) at → Answers (λ s. Named at t s x) (ranged_term seen (plain_term_kind at k t r)) z
        named_in_place x z is e =
            at_kind (term.Named x) (λ s. Named at t s x) z is
            (subst (Answers (λ s. Named at t s x) (given (range_seen x.decl seen) (no_range at) (λ s. Good (Named at t s x)))) (sym e) (given_answers (range_seen x.decl seen) at (λ s. Named at t s x)))

        -- a term at a label has the range of the term
        pub at_in_place : (l : Label) (a a' : Term) (z : Result Range TypeFault) → k ≡ term.At l a → Answers (λ (s : Range). plain_term a') (ranged_term seen (plain_term a)) z → IfOk z (λ s. s ≡ a'.range)
            → Answers (λ s. At at t s l (plain_term a')) (ranged_term seen (plain_term_kind at k t r)) z
        at_in_place l a a' z is ha e = at_kind (term.At l a) (λ s. At at t s l (plain_term a')) z is (by z ha e)
          where
            ranged_as : LogicTerm → Checked LogicTerm
            ranged_as b = Good (At at t (range_of b) l b)

            by : (z : Result Range TypeFault) → Answers (λ (s : Range). plain_term a') (ranged_term seen (plain_term a)) z → IfOk z (λ s. s ≡ a'.range)
                → Answers (λ s. At at t s l (plain_term a')) (one_part (ranged_term seen (plain_term a)) ranged_as) z
            by (Ok s) ha e = ap (λ c. one_part c ranged_as) ha ∙ ap (λ q. Good (At at t q l (plain_term a'))) (range_is a' ∙ sym e)
            by (Err f) ha e = one_refused ranged_as (λ (s : Range). plain_term a') (λ (s : Range). At at t s l (plain_term a')) (ranged_term seen (plain_term a)) f ha

        pub unary_in_place : (op : UnOp) (a a' : Term) (z : Result Range TypeFault) → k ≡ term.Unary op a → Is a (Ok tt) a' → z ≡ or_no_range (unary_range op a'.range) at
            → Answers (λ s. Unary at t s op (plain_term a')) (ranged_term seen (plain_term_kind at k t r)) z
        unary_in_place op a a' z is ha e = at_kind (term.Unary op a) (λ s. Unary at t s op (plain_term a')) z is (one_ranged (unary_range op) (λ s. Unary at t s op) at a a' z ha e)

        pub cast_in_place : (to : LogicType) (a a' : Term) (z : Result Range TypeFault) → k ≡ term.Cast to a → Is a (Ok tt) a' → z ≡ or_no_range (cast_range (plain_cast_type to) a'.range) at
            → Answers (λ s. Cast at t s (plain_cast_type to) (plain_term a')) (ranged_term seen (plain_term_kind at k t r)) z
        cast_in_place to a a' z is ha e =
            at_kind (term.Cast to a) (λ s. Cast at t s (plain_cast_type to) (plain_term a')) z is (one_ranged (cast_range (plain_cast_type to)) (λ s. Cast at t s (plain_cast_type to)) at a a' z ha e)

        pub deref_in_place : (a a' : Term) (z : Result Range TypeFault) → k ≡ term.Deref a → Is a (Ok tt) a' → z ≡ or_no_range (held_range t (Some a'.range)) at
            → Answers (λ s. Deref at t s (plain_term a')) (ranged_term seen (plain_term_kind at k t r)) z
        deref_in_place a a' z is ha e =
            at_kind (term.Deref a) (λ s. Deref at t s (plain_term a')) z is (one_ranged (λ x. held_range t (Some x)) (λ s. Deref at t s) at a a' z ha e)

        pub member_in_place : (d : ℕ) (a a' : Term) (z : Result Range TypeFault) → k ≡ term.Member d a → Is a (Ok tt) a' → z ≡ or_no_range (held_range t (member_range d (address_range (plain_term a')))) at
            → Answers (λ s. Member at t s d (plain_term a')) (ranged_term seen (plain_term_kind at k t r)) z
        member_in_place d a a' z is ha e =
            at_kind (term.Member d a) (λ s. Member at t s d (plain_term a')) z is
            (part_ranged (λ b. held_range t (member_range d (address_range b))) (λ s. Member at t s d) at (ranged_term seen (plain_term a)) (plain_term a') z ha e)

        pub address_in_place : (a a' : Term) (z : Result Range TypeFault) → k ≡ term.Address a → Is a (Ok tt) a' → z ≡ or_no_range (address_range (plain_term a')) at
            → Answers (λ s. Address at t s (plain_term a')) (ranged_term seen (plain_term_kind at k t r)) z
        address_in_place a a' z is ha e = at_kind (term.Address a) (λ s. Address at t s (plain_term a')) z is (part_ranged address_range (λ s. Address at t s) at (ranged_term seen (plain_term a)) (plain_term a') z ha e)

        -- a form whose range comes of those of two parts
        module _ (rule : Range → Range → Option Range) (form : Range → LogicTerm → LogicTerm → LogicTerm) (k' : TermKind) (a a' b b' : Term)
            (by : ranged_term seen (plain_term_kind at k' t r)
            ≡ both_parts (ranged_term seen (plain_term a)) (ranged_term seen (plain_term b)) (λ a b. given (rule (range_of a) (range_of b)) (no_range at) (λ s. Good (form s a b))))
            (is : k ≡ k')
          where
            abbrev parts : Checked (LogicTerm × LogicTerm)
            parts = pair_of (ranged_term seen (plain_term a)) (ranged_term seen (plain_term b))

            abbrev ranged_of : LogicTerm × LogicTerm → Checked LogicTerm
            ranged_of ab = given (rule (range_of ab.0) (range_of ab.1)) (no_range at) (λ s. Good (form s ab.0 ab.1))

            of_parts : ranged_term seen (plain_term_kind at k t r) ≡ one_part parts ranged_of
            of_parts =
                ap (λ x. ranged_term seen (plain_term_kind at x t r)) is
                ∙ by
                ∙ pair_then (λ a b. given (rule (range_of a) (range_of b)) (no_range at) (λ s. Good (form s a b))) (ranged_term seen (plain_term a)) (ranged_term seen (plain_term b))

            pub two_in_place : (z : Result Range TypeFault) → parts ≡ Good (plain_term a', plain_term b') → z ≡ or_no_range (rule a'.range b'.range) at
                → Answers (λ s. form s (plain_term a') (plain_term b')) (ranged_term seen (plain_term_kind at k t r)) z
            two_in_place z h e =
                subst (λ c. Answers (λ s. form s (plain_term a') (plain_term b')) c z) (sym of_parts)
                (part_ranged (λ ab. rule (range_of ab.0) (range_of ab.1)) (λ s ab. form s ab.0 ab.1) at parts (plain_term a', plain_term b') z h
                (e ∙ (λ i. or_no_range (rule (sym (range_is a') i) (sym (range_is b') i)) at)))

        module _ (c c' : Pred) (a a' b b' : Term) (p q v w : Result (Unit {0}) TypeFault) (is : k ≡ term.Choice c a b)
            (hc : Answers (λ (u : Unit {0}). plain_pred c') (ranged_pred seen (plain_pred c)) p) (ha : Is a q a') (hb : Is b v b') (g : both q v ≡ w)
          where
            abbrev chosen_form : Predicate → LogicTerm × LogicTerm → LogicTerm
            chosen_form c ab = Choice at t (hull (range_of ab.0) (range_of ab.1)) c ab.0 ab.1

            branches : Answers (λ (u : Unit {0}). (plain_term a', plain_term b')) (pair_of (ranged_term seen (plain_term a)) (ranged_term seen (plain_term b))) w
            branches = both_answers (λ (u : Unit {0}). plain_term a') (λ (u : Unit {0}). plain_term b') (ranged_term seen (plain_term a)) (ranged_term seen (plain_term b)) q v w ha hb g

            pub choice_in_place : (u : Unit {0}) → both p w ≡ Ok u → ranged_term seen (plain_term_kind at k t r) ≡ Good (Choice at t (hull a'.range b'.range) (plain_pred c') (plain_term a') (plain_term b'))
            choice_in_place u j =
                at_kind (term.Choice c a b) (λ s. Choice at t s (plain_pred c') (plain_term a') (plain_term b')) (Ok (hull a'.range b'.range)) is
                (both_made chosen_form (λ (u : Unit {0}). plain_pred c') (λ (u : Unit {0}). (plain_term a', plain_term b')) (ranged_pred seen (plain_pred c)) (pair_of (ranged_term seen (plain_term a)) (ranged_term seen (plain_term b)))
                p w (Ok u) hc branches j
                ∙ ap (λ s. Good (Choice at t (hull s (range_of (plain_term b'))) (plain_pred c') (plain_term a') (plain_term b'))) (range_is a')
                ∙ ap (λ s. Good (Choice at t (hull a'.range s) (plain_pred c') (plain_term a') (plain_term b'))) (range_is b'))

            pub choice_refused : (h : TypeFault) (form : Range → LogicTerm) → both p w ≡ Err h → Answers form (ranged_term seen (plain_term_kind at k t r)) (Err h)
            choice_refused h form j =
                at_kind (term.Choice c a b) form (Err h) is
                (both_refused (λ c ab. Good (chosen_form c ab)) (λ (u : Unit {0}). plain_pred c') (λ (u : Unit {0}). (plain_term a', plain_term b')) form (ranged_pred seen (plain_pred c))
                (pair_of (ranged_term seen (plain_term a)) (ranged_term seen (plain_term b))) p w h hc branches j)

    -- ---- predicates in their places

    -- what a predicate in its place is
    abbrev pub IsPred : Pred → Result (Unit {0}) TypeFault → Pred → Type 0
    IsPred p q p' = Answers (λ (u : Unit {0}). plain_pred p') (ranged_pred seen (plain_pred p)) q

    module _ (at : Place) (k : PredKind) (z : Result (Unit {0}) TypeFault)
      where
        at_pred_kind : (k' : PredKind) (form : Predicate) → k ≡ k' → Answers (λ (u : Unit {0}). form) (ranged_pred seen (plain_pred_kind at k')) z → Answers (λ (u : Unit {0}). form) (ranged_pred seen (plain_pred_kind at k)) z
        at_pred_kind k' form is h = subst (λ x. Answers (λ (u : Unit {0}). form) (ranged_pred seen (plain_pred_kind at x)) z) (sym is) h

        pub chain_in_place : (a a' : Term) (l l' : code_links.Links) (q v : Result (Unit {0}) TypeFault) → k ≡ pred.Chain a l → Is a q a' → Answers (λ (u : Unit {0}). plain_links l') (ranged_links seen (plain_links l)) v → z ≡ both q v
            → Answers (λ (u : Unit {0}). Chain at (plain_term a') (plain_links l')) (ranged_pred seen (plain_pred_kind at k)) z
        chain_in_place a a' l l' q v is ha hl j =
            at_pred_kind (pred.Chain a l) (Chain at (plain_term a') (plain_links l')) is
            (both_made (Chain at) (λ (u : Unit {0}). plain_term a') (λ (u : Unit {0}). plain_links l') (ranged_term seen (plain_term a)) (ranged_links seen (plain_links l)) q v z ha hl (sym j))

        pub connected_in_place : (c : Connective) (a a' b b' : Pred) (q v : Result (Unit {0}) TypeFault) → k ≡ pred.Connected c a b → IsPred a q a' → IsPred b v b' → z ≡ both q v
            → Answers (λ (u : Unit {0}). Connected at c (plain_pred a') (plain_pred b')) (ranged_pred seen (plain_pred_kind at k)) z
        connected_in_place c a a' b b' q v is ha hb j =
            at_pred_kind (pred.Connected c a b) (Connected at c (plain_pred a') (plain_pred b')) is
            (both_made (Connected at c) (λ (u : Unit {0}). plain_pred a') (λ (u : Unit {0}). plain_pred b') (ranged_pred seen (plain_pred a)) (ranged_pred seen (plain_pred b)) q v z ha hb (sym j))

        pub branch_in_place : (c c' a a' b b' : Pred) (p q v w : Result (Unit {0}) TypeFault) → k ≡ pred.Choice c a b → IsPred c p c' → IsPred a q a' → IsPred b v b' → w ≡ both q v → z ≡ both p w
            → Answers (λ (u : Unit {0}). Branch at (plain_pred c') (plain_pred a') (plain_pred b')) (ranged_pred seen (plain_pred_kind at k)) z
        branch_in_place c c' a a' b b' p q v w is hc ha hb g j =
            at_pred_kind (pred.Choice c a b) (Branch at (plain_pred c') (plain_pred a') (plain_pred b')) is
            (both_made (λ c (ab : Predicate × Predicate). Branch at c ab.0 ab.1) (λ (u : Unit {0}). plain_pred c') (λ (u : Unit {0}). (plain_pred a', plain_pred b')) (ranged_pred seen (plain_pred c))
            (pair_of (ranged_pred seen (plain_pred a)) (ranged_pred seen (plain_pred b))) p w z hc
            (both_answers (λ (u : Unit {0}). plain_pred a') (λ (u : Unit {0}). plain_pred b') (ranged_pred seen (plain_pred a)) (ranged_pred seen (plain_pred b)) q v w ha hb (sym g)) (sym j))

    -- ---- quantifiers in their places

    -- what stands behind a quantifier's chains
    pub quantified_in_place : (at : Place) (k : PredKind) (z : Result (Unit {0}) TypeFault) (q : Quantifier) (gs gs' : code_guards.Guards) (p p' : Pred) → k ≡ pred.Quantified q gs p
        → GuardsAnswer seen at (plain_guards gs) (plain_guards gs') (Ok tt)
        → Answers (λ (u : Unit {0}). plain_pred p') (ranged_pred (seen_guards (plain_guards gs') seen) (plain_pred p)) z
        → Answers (λ (u : Unit {0}). Quantified at q (plain_guards gs') (plain_pred p')) (ranged_pred seen (plain_pred_kind at k)) z
    quantified_in_place at k z q gs gs' p p' is hg hp =
        at_pred_kind at k z (pred.Quantified q gs p) (Quantified at q (plain_guards gs') (plain_pred p')) is
        (subst (λ c. Answers (λ (u : Unit {0}). Quantified at q (plain_guards gs') (plain_pred p')) (one_part c as_form) z) (sym (hg (λ m. ranged_pred m (plain_pred p)))) (by z hp))
      where
        as_form : Guards × Predicate → Checked Predicate
        as_form gp = Good (Quantified at q gp.0 gp.1)

        beside : Predicate → Checked (Guards × Predicate)
        beside x = Good (plain_guards gs', x)

        by : (z : Result (Unit {0}) TypeFault) → Answers (λ (u : Unit {0}). plain_pred p') (ranged_pred (seen_guards (plain_guards gs') seen) (plain_pred p)) z
            → Answers (λ (u : Unit {0}). Quantified at q (plain_guards gs') (plain_pred p')) (one_part (one_part (ranged_pred (seen_guards (plain_guards gs') seen) (plain_pred p)) beside) as_form) z
        by (Ok u) h = ap (λ c. one_part (one_part c beside) as_form) h
        by (Err f) h =
            let m = ranged_pred (seen_guards (plain_guards gs') seen) (plain_pred p) in
            one_refused as_form (λ (u : Unit {0}). (plain_guards gs', plain_pred p')) (λ (u : Unit {0}). Quantified at q (plain_guards gs') (plain_pred p')) (one_part m beside) f
            (one_refused beside (λ (u : Unit {0}). plain_pred p') (λ (u : Unit {0}). (plain_guards gs', plain_pred p')) m f h)

    -- a quantifier whose chains are refused
    pub quantified_refused : (at : Place) (k : PredKind) (f : TypeFault) (q : Quantifier) (gs gs' : code_guards.Guards) (p p' : Pred) → k ≡ pred.Quantified q gs p → GuardsAnswer seen at (plain_guards gs) (plain_guards gs') (Err f)
        → Answers (λ (u : Unit {0}). Quantified at q (plain_guards gs') (plain_pred p')) (ranged_pred seen (plain_pred_kind at k)) (Err f)
    quantified_refused at k f q gs gs' p p' is hg =
        at_pred_kind at k (Err f) (pred.Quantified q gs p) (Quantified at q (plain_guards gs') (plain_pred p')) is
        (one_refused (λ (gp : Guards × Predicate). Good (Quantified at q gp.0 gp.1)) (λ (u : Unit {0}). (plain_guards gs', plain_pred p')) (λ (u : Unit {0}). Quantified at q (plain_guards gs') (plain_pred p'))
        (ranged_guards seen at (plain_guards gs) (λ m. ranged_pred m (plain_pred p))) f (hg (λ m. ranged_pred m (plain_pred p)) (plain_pred p')))

    -- binders of one chain and of others, whose ranges are within 128 bits
    pub bounded_more : (z : Result (Unit {0}) TypeFault) (b x : Bool) → b ≡ true → OnOk z (x ≡ true) → OnOk z (b && x ≡ true)
    bounded_more (Ok u) b x e h = ap (λ c. c && x) e ∙ h
    bounded_more (Err f) b x e h = tt

    -- one chain and those within it
    module _ (at : Place) (a b : LogicTerm) (y : Binder) (ys : List Binder) (below : Bool) (rest : Guards)
      where
        abbrev more_seen : LogicTerm → LogicTerm → Seen
        more_seen a b = seen_binders (range_of a).lo (y ∷ ys) (lowered below (range_of b).hi) seen

        abbrev chained : (Seen → Checked Predicate) → LogicTerm → LogicTerm → Bool → Checked (Guards × Predicate)
        chained within a b t = where_so t (no_range at) (one_part (ranged_guards (more_seen a b) at rest within) (λ gp. Good (Guarded a y ys below b gp.0, gp.1)))

        abbrev both_bounds : Checked (LogicTerm × LogicTerm)
        both_bounds = pair_of (ranged_term seen a) (ranged_term seen b)

        is_chained : (a' b' : LogicTerm) (t : Bool) (within : Seen → Checked Predicate) → both_bounds ≡ Good (a', b') → are_bounded (range_of a').lo (y ∷ ys) (lowered below (range_of b').hi) ≡ t
            → ranged_guards seen at (Guarded a y ys below b rest) within ≡ chained within a' b' t
        is_chained a' b' t within e is =
            pair_then (λ x z. chained within x z (are_bounded (range_of x).lo (y ∷ ys) (lowered below (range_of z).hi))) (ranged_term seen a) (ranged_term seen b)
            ∙ ap (λ c. one_part c (λ (xz : LogicTerm × LogicTerm). chained within xz.0 xz.1 (are_bounded (range_of xz.0).lo (y ∷ ys) (lowered below (range_of xz.1).hi)))) e
            ∙ ap (chained within a' b') is

        abbrev with_rest : Guards → Predicate → Checked (Guards × Predicate)
        with_rest rest' p = Good (rest', p)

        abbrev with_chain : LogicTerm → LogicTerm → Guards × Predicate → Checked (Guards × Predicate)
        with_chain a' b' gp = Good (Guarded a' y ys below b' gp.0, gp.1)

        twice : (a' b' : LogicTerm) (rest' : Guards) (c : Checked Predicate)
            → one_part (one_part c (with_rest rest')) (with_chain a' b') ≡ one_part c (with_rest (Guarded a' y ys below b' rest'))
        twice a' b' rest' (Good p) = refl
        twice a' b' rest' (Bad f fs) = refl

        pub guard_in_place : (a' b' : LogicTerm) (rest' : Guards) (z : Result (Unit {0}) TypeFault) → both_bounds ≡ Good (a', b') → are_bounded (range_of a').lo (y ∷ ys) (lowered below (range_of b').hi) ≡ true
            → GuardsAnswer (more_seen a' b') at rest rest' z → GuardsAnswer seen at (Guarded a y ys below b rest) (Guarded a' y ys below b' rest') z
        guard_in_place a' b' rest' (Ok u) e is h = λ within.
            is_chained a' b' true within e is ∙ ap (λ c. one_part c (λ (gp : Guards × Predicate). Good (Guarded a' y ys below b' gp.0, gp.1))) (h within)
            ∙ twice a' b' rest' (within (seen_guards rest' (more_seen a' b')))
        guard_in_place a' b' rest' (Err f) e is h = λ within p.
            let form : Unit {0} → Guards × Predicate = λ u. (Guarded a' y ys below b' rest', p) in
            subst (λ c. Answers form c (Err f)) (sym (is_chained a' b' true within e is))
            (one_refused (λ (gp : Guards × Predicate). Good (Guarded a' y ys below b' gp.0, gp.1)) (λ (u : Unit {0}). (rest', p)) form (ranged_guards (more_seen a' b') at rest within) f (h within p))

        -- bounds that are refused, and binders whose ranges are not within 128 bits
        pub bounds_refused : (a' b' : LogicTerm) (gs' : Guards) (f : TypeFault) → Answers (λ (r : Range × Range). (a', b')) both_bounds (Err f) → GuardsAnswer seen at (Guarded a y ys below b rest) gs' (Err f)
        bounds_refused a' b' gs' f h = λ within p.
            let form : Unit {0} → Guards × Predicate = λ u. (gs', p) in
            let next : LogicTerm → LogicTerm → Checked (Guards × Predicate) = λ x z. chained within x z (are_bounded (range_of x).lo (y ∷ ys) (lowered below (range_of z).hi)) in
            subst (λ c. Answers form c (Err f)) (sym (pair_then next (ranged_term seen a) (ranged_term seen b)))
            (one_refused (λ (xz : LogicTerm × LogicTerm). next xz.0 xz.1) (λ (r : Range × Range). (a', b')) form both_bounds f h)

        pub unbounded_refused : (a' b' : LogicTerm) (gs' : Guards) (f : TypeFault) → both_bounds ≡ Good (a', b') → are_bounded (range_of a').lo (y ∷ ys) (lowered below (range_of b').hi) ≡ false → f ≡ answer.no_range at
            → GuardsAnswer seen at (Guarded a y ys below b rest) gs' (Err f)
        unbounded_refused a' b' gs' f e is same = λ within p.
            subst (λ x. Answers (λ (u : Unit {0}). (gs', p)) (ranged_guards seen at (Guarded a y ys below b rest) within) (Err x)) (sym same) (ap refusing (is_chained a' b' false within e is))

    -- a relation and those after it
    pub links_in_place : (at : Place) (r : Relation) (a a' : Term) (l l' : code_links.Links) (q v z : Result (Unit {0}) TypeFault) → Is a q a' → Answers (λ (u : Unit {0}). plain_links l') (ranged_links seen (plain_links l)) v → z ≡ both q v
        → Answers (λ (u : Unit {0}). Linked at r (plain_term a') (plain_links l')) (ranged_links seen (Linked at r (plain_term a) (plain_links l))) z
    links_in_place at r a a' l l' q v z ha hl j =
        both_made (Linked at r) (λ (u : Unit {0}). plain_term a') (λ (u : Unit {0}). plain_links l') (ranged_term seen (plain_term a)) (ranged_links seen (plain_links l)) q v z ha hl (sym j)

    -- ---- zones in their places

    -- what a zone in its place is
    abbrev pub IsZone : code_zone.Zone → Result (Unit {0}) TypeFault → code_zone.Zone → Type 0
    IsZone z q z' = Answers (λ (u : Unit {0}). plain_zone z') (ranged_zone seen (plain_zone z)) q

    module _ (at : Place) (n m : ℕ) (k : ZoneKind) (a a' b b' c c' : Term) (p q v w : Result (Unit {0}) TypeFault) (is : k ≡ zone.Elements a b c)
        (ha : Is a p a') (hb : Is b q b') (hc : Is c v c') (g : both q v ≡ w)
      where
        abbrev where_inside : Bool → LogicTerm → LogicTerm × LogicTerm → Checked Zone
        where_inside t x yz = where_so t (no_range at) (Good (Elements at n m x yz.0 yz.1))

        abbrev extends : LogicTerm → LogicTerm × LogicTerm → Checked Zone
        extends x yz = where_inside (has_extent n (range_of x) (range_of yz.0) (range_of yz.1)) x yz

        ends : Answers (λ (u : Unit {0}). (plain_term b', plain_term c')) (pair_of (ranged_term seen (plain_term b)) (ranged_term seen (plain_term c))) w
        ends = both_answers (λ (u : Unit {0}). plain_term b') (λ (u : Unit {0}). plain_term c') (ranged_term seen (plain_term b)) (ranged_term seen (plain_term c)) q v w hb hc g

        elements_are : (u : Unit {0}) (t : Bool) → both p w ≡ Ok u → has_extent n a'.range b'.range c'.range ≡ t
            → ranged_zone seen (plain_zone_kind at n m k) ≡ where_inside t (plain_term a') (plain_term b', plain_term c')
        elements_are u t j e =
            let pair = pair_of (ranged_term seen (plain_term b)) (ranged_term seen (plain_term c)) in
            let good = good_parts (ranged_term seen (plain_term a)) pair (plain_term a') (plain_term b', plain_term c') p w u ha ends j in
            ap (λ x. ranged_zone seen (plain_zone_kind at n m x)) is
            ∙ ap (λ x. both_parts x pair extends) good.left
            ∙ ap (λ x. both_parts (Good (plain_term a')) x extends) good.right
            ∙ (λ i. where_inside (has_extent n (range_is a' i) (range_is b' i) (range_is c' i)) (plain_term a') (plain_term b', plain_term c'))
            ∙ ap (λ x. where_inside x (plain_term a') (plain_term b', plain_term c')) e

        -- a zone whose bytes lie within 128 bits, and one that is refused
        pub elements_in_place : (u : Unit {0}) → both p w ≡ Ok u → has_extent n a'.range b'.range c'.range ≡ true
            → ranged_zone seen (plain_zone_kind at n m k) ≡ Good (Elements at n m (plain_term a') (plain_term b') (plain_term c'))
        elements_in_place u j e = elements_are u true j e

        pub elements_outside : (u : Unit {0}) (h : TypeFault) (form : Unit {0} → Zone) → both p w ≡ Ok u → has_extent n a'.range b'.range c'.range ≡ false → h ≡ answer.no_range at
            → Answers form (ranged_zone seen (plain_zone_kind at n m k)) (Err h)
        elements_outside u h form j e is = subst (λ x. Answers form (ranged_zone seen (plain_zone_kind at n m k)) (Err x)) (sym is) (ap refusing (elements_are u false j e))

        pub elements_refused : (h : TypeFault) (form : Unit {0} → Zone) → both p w ≡ Err h → Answers form (ranged_zone seen (plain_zone_kind at n m k)) (Err h)
        elements_refused h form j =
            subst (λ x. Answers form (ranged_zone seen (plain_zone_kind at n m x)) (Err h)) (sym is)
            (both_refused extends (λ (u : Unit {0}). plain_term a') (λ (u : Unit {0}). (plain_term b', plain_term c')) form (ranged_term seen (plain_term a))
            (pair_of (ranged_term seen (plain_term b)) (ranged_term seen (plain_term c))) p w h ha ends j)

    -- a zone and those after it
    pub zones_in_place : (z z' : code_zone.Zone) (l l' : code_zones.Zones) (q v w : Result (Unit {0}) TypeFault) → IsZone z q z' → Answers (λ (u : Unit {0}). plain_zones l') (ranged_zones seen (plain_zones l)) v → w ≡ both q v
        → Answers (λ (u : Unit {0}). Another (plain_zone z') (plain_zones l')) (ranged_zones seen (Another (plain_zone z) (plain_zones l))) w
    zones_in_place z z' l l' q v w hz hl j =
        both_made Another (λ (u : Unit {0}). plain_zone z') (λ (u : Unit {0}). plain_zones l') (ranged_zone seen (plain_zone z)) (ranged_zones seen (plain_zones l)) q v w hz hl (sym j)
