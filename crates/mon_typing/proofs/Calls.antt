-- A call's arguments, one after another.
use Rattle.std.proofs.Common.{◌≡◌, List, [], ◌∷◌, Ok, Err, refl, ◌∙◌}
use Rattle.c_syntax.specs.declared.place.Place.{Place}
use Rattle.mon_syntax.specs.declared.tree.MonType.{MonType}
use Rattle.mon_syntax.specs.Trees.{MonExpression, MonStatement}
use Rattle.mon_syntax.specs.Parsed.{ParsedArgument}
use Rattle.mon_syntax.specs.Checking.{Scope, Checked, ◌>>=◌, ◌>>◌, type_fault, value_of_type, others, no_more, next, one_value}
use Rattle.mon_typing.specs.declared.fault.CheckFault.{CheckFault}
use Rattle.mon_typing.specs.Answers.{Fails}
use Rattle.mon_typing.specs.Arguments.{first_of, only_value}
use Rattle.mon_typing.proofs.Parts.{takes, fails_at, fails_after, fails_along, more_fails, none_more}

abbrev Arguments : Type 0
Arguments = List ParsedArgument

module _ (s : Scope) (at : Place) where
  pub only_value_fails : (t : MonType) (xs more : Arguments) (v : MonExpression) (e : CheckFault) → first_of s at (value_of_type s t) xs ≡ Ok (v, more) → Fails e (no_more {A = Unit {0}} s at more tt) → Fails e (only_value s at t xs)
  only_value_fails t xs more v e h k = fails_along e _ _ (takes s at (value_of_type s t) xs (λ x rest. no_more s at rest x) v more h) (more_fails s at more v e k)

  -- ---- an argument and another one, after which a statement goes on

  module _ {A B : Type 0} (f : ParsedArgument → Checked A) (g : ParsedArgument → Checked B) (go : A → B → Arguments → Checked MonStatement) where
    abbrev two : Arguments → Checked MonStatement
    two xs = next s at f xs (λ x ys. next s at g ys (go x))

    pub second_fails : (xs more : Arguments) (a : A) (e : CheckFault) → first_of s at f xs ≡ Ok (a, more) → Fails e (first_of s at g more) → Fails e (two xs)
    second_fails xs more a e h k = fails_along e _ _ (takes s at f xs (λ x ys. next s at g ys (go x)) a more h) (fails_at s at g more (go a) e k)

    pub both_taken : (xs more rest : Arguments) (a : A) (b : B) → first_of s at f xs ≡ Ok (a, more) → first_of s at g more ≡ Ok (b, rest) → two xs ≡ go a b rest
    both_taken xs more rest a b h k = takes s at f xs (λ x ys. next s at g ys (go x)) a more h ∙ takes s at g more (go a) b rest k

  -- ---- an argument, and no others

  pub last_fails : {A : Type 0} (f : ParsedArgument → Checked A) (xs more : Arguments) (a : A) (e : CheckFault) → first_of s at f xs ≡ Ok (a, more) → Fails e (no_more {A = Unit {0}} s at more tt) → Fails e (next s at f xs (λ x ys. no_more s at ys x))
  last_fails f xs more a e h k = fails_along e _ _ (takes s at f xs (λ x ys. no_more s at ys x) a more h) (more_fails s at more a e k)

  pub last_taken : {A : Type 0} (f : ParsedArgument → Checked A) (xs more : Arguments) (a : A) (u : Unit {0}) → first_of s at f xs ≡ Ok (a, more) → no_more {A = Unit {0}} s at more tt ≡ Ok u → next s at f xs (λ x ys. no_more s at ys x) ≡ Ok a
  last_taken f xs more a u h k = takes s at f xs (λ x ys. no_more s at ys x) a more h ∙ none_more s at more a u k

  -- ---- what is made of it

  made_of_fault : {A B : Type 0} (c : Checked (Unit {0})) (go : A → B) → (c >> type_fault at) ≡ ((c >> type_fault at) >>= λ (a : A). Ok (go a))
  made_of_fault (Ok u) go = refl
  made_of_fault (Err e) go = refl

  made_of_last : {A B : Type 0} (xs : Arguments) (go : A → B) (a : A) → no_more s at xs (go a) ≡ (no_more s at xs a >>= λ x. Ok (go x))
  made_of_last [] go a = refl
  made_of_last (x ∷ xs) go a = made_of_fault (others s (x ∷ xs)) go

  made_of_one : {A B : Type 0} (c : Checked A) (xs : Arguments) (go : A → B) → (c >>= λ x. no_more s at xs (go x)) ≡ (c >>= (λ x. no_more s at xs x) >>= λ x. Ok (go x))
  made_of_one (Ok a) xs go = made_of_last xs go a
  made_of_one (Err e) xs go = refl

  pub made_of_only : {A B : Type 0} (f : ParsedArgument → Checked A) (xs : Arguments) (go : A → B) → next s at f xs (λ x ys. no_more s at ys (go x)) ≡ (next s at f xs (λ x ys. no_more s at ys x) >>= λ x. Ok (go x))
  made_of_only f [] go = refl
  made_of_only f (x ∷ xs) go = made_of_one (f x) xs go

  pub one_value_fails : (t : MonType) (xs : Arguments) (f : MonExpression → MonStatement) (e : CheckFault) → Fails e (only_value s at t xs) → Fails e (one_value s at t xs f)
  one_value_fails t xs f e h = fails_along e _ _ (made_of_only (value_of_type s t) xs f) (fails_after e (only_value s at t xs) (λ v. Ok (f v)) h)
