-- What follows for a whole from its parts.
use Rattle.std.proofs.Common.{◌≡◌, List, [], ◌∷◌, Ok, Err, refl, sym, ap, subst, ◌∙◌}
use Rattle.c_syntax.specs.declared.place.Place.{Place}
use Rattle.mon_syntax.specs.Parsed.{ParsedArgument}
use Rattle.mon_syntax.specs.Checking.{Scope, Checked, ◌>>=◌, ◌>>◌, type_fault, no_more, others, next}
use Rattle.mon_typing.specs.declared.fault.CheckFault.{CheckFault}
use Rattle.mon_typing.specs.declared.fault.CheckFault.TheVariants.{BadName, BadType, Memory}
use Rattle.mon_typing.specs.Answers.{Fails}
use Rattle.mon_typing.specs.Arguments.{first_of}

faulty_after : {A : Type 0} (c : Checked (Unit {0})) (at : Place) (a : A) → c >> type_fault at ≡ (c >> type_fault {A = Unit {0}} at >>= λ u. Ok a)
faulty_after (Ok u) at a = refl
faulty_after (Err e) at a = refl

-- no more arguments, after which a value is given
pub no_more_is : {A : Type 0} (s : Scope) (at : Place) (xs : List ParsedArgument) (a : A) → no_more s at xs a ≡ (no_more {A = Unit {0}} s at xs tt >>= λ u. Ok a)
no_more_is s at [] a = refl
no_more_is s at (x ∷ xs) a = faulty_after (others s (x ∷ xs)) at a

next_after : {A B : Type 0} (c : Checked A) (more : List ParsedArgument) (go : A → List ParsedArgument → Checked B) → (c >>= λ x. go x more) ≡ (c >>= (λ x. Ok (x, more)) >>= λ (x : A × List ParsedArgument). go x.0 x.1)
next_after (Ok a) more go = refl
next_after (Err e) more go = refl

-- the first argument, and what goes on after it
pub next_is : {A B : Type 0} (s : Scope) (at : Place) (f : ParsedArgument → Checked A) (xs : List ParsedArgument) (go : A → List ParsedArgument → Checked B) → next s at f xs go ≡ (first_of s at f xs >>= λ (x : A × List ParsedArgument). go x.0 x.1)
next_is s at f [] go = refl
next_is s at f (x ∷ xs) go = next_after (f x) xs go

-- ---- arguments that are taken, and that fail

pub takes : {A B : Type 0} (s : Scope) (at : Place) (f : ParsedArgument → Checked A) (xs : List ParsedArgument) (go : A → List ParsedArgument → Checked B) (x : A) (more : List ParsedArgument) → first_of s at f xs ≡ Ok (x, more)
    → next s at f xs go ≡ go x more
takes {A} s at f xs go x more h = next_is s at f xs go ∙ ap (λ (c : Checked (A × List ParsedArgument)). c >>= λ (y : A × List ParsedArgument). go y.0 y.1) h

pub fails_after : {A B : Type 0} (e : CheckFault) (c : Checked A) (go : A → Checked B) → Fails e c → Fails e (c >>= go)
fails_after {A} (BadName at) c go h = ap (λ (c : Checked A). c >>= go) h
fails_after {A} (BadType at) c go h = ap (λ (c : Checked A). c >>= go) h
fails_after Memory c go h = tt

pub fails_along : {A : Type 0} (e : CheckFault) (c d : Checked A) → c ≡ d → Fails e d → Fails e c
fails_along e c d is h = subst (Fails e) (sym is) h

pub fails_at : {A B : Type 0} (s : Scope) (at : Place) (f : ParsedArgument → Checked A) (xs : List ParsedArgument) (go : A → List ParsedArgument → Checked B) (e : CheckFault) → Fails e (first_of s at f xs) → Fails e (next s at f xs go)
fails_at {A} s at f xs go e h = fails_along e _ _ (next_is s at f xs go) (fails_after e (first_of s at f xs) (λ (y : A × List ParsedArgument). go y.0 y.1) h)

pub more_fails : {A : Type 0} (s : Scope) (at : Place) (xs : List ParsedArgument) (a : A) (e : CheckFault) → Fails e (no_more {A = Unit {0}} s at xs tt) → Fails e (no_more s at xs a)
more_fails s at xs a e h = fails_along e _ _ (no_more_is s at xs a) (fails_after e (no_more {A = Unit {0}} s at xs tt) (λ u. Ok a) h)

pub none_more : {A : Type 0} (s : Scope) (at : Place) (xs : List ParsedArgument) (a : A) (u : Unit {0}) → no_more {A = Unit {0}} s at xs tt ≡ Ok u → no_more s at xs a ≡ Ok a
none_more s at xs a u h = no_more_is s at xs a ∙ ap (λ (c : Checked (Unit {0})). c >>= λ u. Ok a) h
