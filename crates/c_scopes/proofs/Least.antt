-- The refusal is the least fault, whichever part it comes from.
use Rattle.std.proofs.Common.{◌≡◌, List, [], ◌∷◌, ◌++◌, refl, sym, ap, ◌∙◌, subst, arith, Some, Bool, true, false, cond, nat_lt, Result, Ok, Err}
use Rattle.std.proofs.lemmas.Bool.Decides.{nat_tests}
use Rattle.c_model.specs.Checked.{Fault, rank, lesser, least_fault, Checked, Good, Bad, one_part, both_parts, refusing}
use Rattle.c_model.specs.ExpressionTyping.{two}
use Rattle.c_scopes.specs.declared.fault.TypeFault.{TypeFault}
use Rattle.c_scopes.specs.declared.fault.TypeFault.TheVariants.{Refused, Memory}
use Rattle.c_scopes.specs.declared.fault.Fault as code
use Rattle.c_scopes.specs.Answers.{plain_fault, Answers, both, lesser_of}

lesser_assoc : (f g h : Fault) → lesser f (lesser g h) ≡ lesser (lesser f g) h
lesser_assoc f g h = by (nat_lt (rank g) (rank f)) (nat_lt (rank h) (rank g)) (nat_lt (rank h) (rank f)) refl refl refl
  where
    by : (p q r : Bool) → nat_lt (rank g) (rank f) ≡ p → nat_lt (rank h) (rank g) ≡ q → nat_lt (rank h) (rank f) ≡ r → cond (nat_lt (rank (cond q h g)) (rank f)) (cond q h g) f ≡ cond (nat_lt (rank h) (rank (cond p g f))) h (cond p g f)
    by true true true ep eq er = rw (er, eq) refl
    by true true false ep eq er = absurd (grind (arith, nat_tests, ep, eq, er))
    by true false r ep eq er = rw (ep, eq) refl
    by false true r ep eq er = refl
    by false false true ep eq er = absurd (grind (arith, nat_tests, ep, eq, er))
    by false false false ep eq er = rw (ep, er) refl

least_append : (f : Fault) (fs : List Fault) (g : Fault) (gs : List Fault) → least_fault f (fs ++ g ∷ gs) ≡ lesser (least_fault f fs) (least_fault g gs)
least_append f [] g gs = refl
least_append f (h ∷ hs) g gs = ap (lesser f) (least_append h hs g gs) ∙ lesser_assoc f (least_fault h hs) (least_fault g gs)

-- the lesser of two faults is the lesser of their plain forms
lesser_is : (f g : code.Fault) → plain_fault (cond (nat_lt (rank (plain_fault g)) (rank (plain_fault f))) g f) ≡ lesser (plain_fault f) (plain_fault g)
lesser_is f g = by (nat_lt (rank (plain_fault g)) (rank (plain_fault f)))
  where
    by : (t : Bool) → plain_fault (cond t g f) ≡ cond t (plain_fault g) (plain_fault f)
    by true = refl
    by false = refl

err_is : {T : Type 0} {f h : TypeFault} → ◌≡◌ {A = Result T TypeFault} (Err f) (Err h) → f ≡ h
err_is j = cc

ok_is : {T : Type 0} {x y : T} → ◌≡◌ {A = Result T TypeFault} (Ok x) (Ok y) → x ≡ y
ok_is j = cc

module _ {A B C : Type 0} (k : A → B → Checked C)
  where
    second : (t : A) (n : Checked B) (g : Fault) → refusing n ≡ Some g → refusing (both_parts (Good t) n k) ≡ Some g
    second t (Good u) g e = absurd cc
    second t (Bad g gs) g' e = e

    only_first : (u : B) (m : Checked A) (f : Fault) → refusing m ≡ Some f → refusing (both_parts m (Good u) k) ≡ Some f
    only_first u (Good t) f e = absurd cc
    only_first u (Bad f fs) f' e = e

    together : (m : Checked A) (n : Checked B) (f g : Fault) → refusing m ≡ Some f → refusing n ≡ Some g → refusing (both_parts m n k) ≡ Some (lesser f g)
    together (Good t) n f g e d = absurd cc
    together (Bad f fs) (Good u) f' g e d = absurd cc
    together (Bad f fs) (Bad g gs) f' g' e d =
        let e1 : least_fault f fs ≡ f' = cc in
        let d1 : least_fault g gs ≡ g' = cc in
        ap Some (least_append f fs g gs ∙ ap (λ x. lesser x (least_fault g gs)) e1 ∙ ap (lesser f') d1)

    -- two parts of which one is refused
    pub both_refused : {T S : Type 0} (p : T → A) (q : Unit {0} → B) (s : S → C) (m : Checked A) (n : Checked B) (a : Result T TypeFault) (b : Result (Unit {0}) TypeFault) (h : TypeFault)
        → Answers p m a → Answers q n b → both a b ≡ Err h → Answers s (both_parts m n k) (Err h)
    both_refused p q s m n (Ok t) (Ok u) h x y j = absurd cc
    both_refused p q s m n (Ok t) (Err g) h x y j =
        subst (λ e. Answers s (both_parts m n k) (Err e)) (err_is j) (subst (λ c. Answers s (both_parts c n k) (Err g)) (sym x) (by g y))
      where
        by : (g : TypeFault) → Answers q n (Err g) → Answers s (both_parts (Good (p t)) n k) (Err g)
        by (Refused g) y = second (p t) n (plain_fault g) y
        by Memory y = tt
    both_refused p q s m n (Err f) (Ok u) h x y j =
        subst (λ e. Answers s (both_parts m n k) (Err e)) (err_is j) (subst (λ c. Answers s (both_parts m c k) (Err f)) (sym y) (by f x))
      where
        by : (f : TypeFault) → Answers p m (Err f) → Answers s (both_parts m (Good (q u)) k) (Err f)
        by (Refused f) x = only_first (q u) m (plain_fault f) x
        by Memory x = tt
    both_refused p q s m n (Err f) (Err g) h x y j = subst (λ e. Answers s (both_parts m n k) (Err e)) (err_is j) (by f g x y)
      where
        by : (f g : TypeFault) → Answers p m (Err f) → Answers q n (Err g) → Answers s (both_parts m n k) (Err (lesser_of f g))
        by (Refused f) (Refused g) x y = together m n (plain_fault f) (plain_fault g) x y ∙ ap Some (sym (lesser_is f g))
        by (Refused f) Memory x y = tt
        by Memory g x y = tt

-- one part that is refused
pub one_refused : {A B S T : Type 0} (k : A → Checked B) (p : T → A) (s : S → B) (m : Checked A) (h : TypeFault) → Answers p m (Err h) → Answers s (one_part m k) (Err h)
one_refused k p s (Good a) (Refused f) x = absurd cc
one_refused k p s (Bad f fs) (Refused g) x = x
one_refused k p s m Memory x = tt

-- one part that has no fault
pub one_then : {A B S T : Type 0} (k : A → Checked B) (p : T → A) (s : S → B) (m : Checked A) (t : T) (r : Result S TypeFault) → Answers p m (Ok t) → Answers s (k (p t)) r → Answers s (one_part m k) r
one_then k p s m t r is h = subst (λ c. Answers s (one_part c k) r) (sym is) h

-- two parts as one
pub both_answers : {A B T : Type 0} (p : T → A) (q : Unit {0} → B) (m : Checked A) (n : Checked B) (a : Result T TypeFault) (b : Result (Unit {0}) TypeFault) (r : Result T TypeFault)
    → Answers p m a → Answers q n b → both a b ≡ r → Answers (λ x. (p x, q tt)) (both_parts m n two) r
both_answers {T = T} p q m n a b (Err h) ha hb j = both_refused two p q (λ (x : T). (p x, q tt)) m n a b h ha hb j
both_answers p q m n (Ok x) (Ok u) (Ok y) ha hb j =
    ap (λ c. both_parts c n two) ha ∙ ap (λ c. both_parts (Good (p x)) c two) hb ∙ ap (λ z. Good (p z, q tt)) (ok_is j)
both_answers p q m n (Ok x) (Err g) (Ok y) ha hb j = absurd cc
both_answers p q m n (Err f) (Ok u) (Ok y) ha hb j = absurd cc
both_answers p q m n (Err f) (Err g) (Ok y) ha hb j = absurd cc

-- what is made of two parts
pub both_made : {A B C T : Type 0} (f : A → B → C) (p : T → A) (q : Unit {0} → B) (m : Checked A) (n : Checked B) (a : Result T TypeFault) (b : Result (Unit {0}) TypeFault) (r : Result T TypeFault)
    → Answers p m a → Answers q n b → both a b ≡ r → Answers (λ x. f (p x) (q tt)) (both_parts m n (λ x y. Good (f x y))) r
both_made {T = T} f p q m n a b (Err h) ha hb j = both_refused (λ x y. Good (f x y)) p q (λ (x : T). f (p x) (q tt)) m n a b h ha hb j
both_made f p q m n (Ok x) (Ok u) (Ok y) ha hb j =
    ap (λ c. both_parts c n (λ x y. Good (f x y))) ha ∙ ap (λ c. both_parts (Good (p x)) c (λ x y. Good (f x y))) hb ∙ ap (λ z. Good (f (p z) (q tt))) (ok_is j)
both_made f p q m n (Ok x) (Err g) (Ok y) ha hb j = absurd cc
both_made f p q m n (Err g) (Ok u) (Ok y) ha hb j = absurd cc
both_made f p q m n (Err g) (Err h) (Ok y) ha hb j = absurd cc
