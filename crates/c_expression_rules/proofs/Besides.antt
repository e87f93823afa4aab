-- A type that passes a limit is a fault besides those that are there.
use Rattle.std.proofs.Common.{◌≡◌, refl, sym, subst, cond, Bool, true, false, Result, Ok, Err}
use Rattle.c_syntax.specs.RefusalCodes.{limit_code}
use Rattle.c_syntax.specs.declared.place.Place.{Place}
use Rattle.c_syntax.specs.Ctypes.{PlainType}
use Rattle.c_syntax.specs.Expressions.{Expression, type_of}
use Rattle.c_model.specs.Checked.{Fault, Checked, Good, Bad, one_part, both_parts, faulty, where_so}
use Rattle.c_model.specs.ExpressionTyping.{Sight, Sized, HasSize, HasNoSize, NotYet, besides, element_type, is_within_limits, limited, no_name, no_type, sized, too_large}
use Rattle.c_scopes.specs.declared.fault.TypeFault.{TypeFault}
use Rattle.c_scopes.specs.declared.fault.TypeFault.TheVariants.{Refused, Memory}
use Rattle.c_scopes.specs.Answers.{Answers, IfTold, both}
use Rattle.c_expression_rules.specs.Operators.{has_size}
use Rattle.c_expression_rules.specs.Structs.{limit_answer, within_limits}
use Rattle.c_scopes.proofs.Least.{both_made}

-- whether a type passes a limit is answered so
pub limit_is : (s : Sight) (at : Place) (t : PlainType) → Answers (λ (u : Unit {0}). u) (within_limits s at t) (limit_answer s at t)
limit_is s at t = by (is_within_limits s t)
  where
    by : (fits : Bool) → Answers (λ (u : Unit {0}). u) (where_so fits (too_large at) (Good tt)) (cond fits (Ok tt) (Err (Refused (record { code = limit_code; place = at }))))
    by true = refl
    by false = refl

besides_is : {A : Type 0} (fits : Bool) (f : Fault) (c : Checked A) → besides fits f c ≡ both_parts c (where_so fits f (Good tt)) (λ a (u : Unit {0}). Good a)
besides_is true f (Good a) = refl
besides_is true f (Bad g gs) = refl
besides_is false f (Good a) = refl
besides_is false f (Bad g gs) = refl

-- what is checked of a node, and whether a type passes a limit, as one
pub limited_answers : {A T : Type 0} (p : T → A) (s : Sight) (at : Place) (t : PlainType) (c : Checked A) (a r : Result T TypeFault) (b : Result (Unit {0}) TypeFault)
    → Answers p c a → Answers (λ (u : Unit {0}). u) (within_limits s at t) b → both a b ≡ r → Answers p (limited s at t c) r
limited_answers p s at t c a r b ha hb j =
    subst (λ d. Answers p d r) (sym (besides_is (is_within_limits s t) (too_large at) c)) (both_made (λ x (u : Unit {0}). x) p (λ (u : Unit {0}). u) c (within_limits s at t) a b r ha hb j)

memory_first : {A T : Type 0} (p : T → A) (c : Checked A) (b : Result (Unit {0}) TypeFault) → Answers p c (both (Err Memory) b)
memory_first p c (Ok u) = tt
memory_first p c (Err g) = tt

-- the same of the type that stands there afterwards
pub limited_told : {A T : Type 0} (p : T → A) (s : Sight) (at : Place) (t u : PlainType) (c : Checked A) (a r : Result T TypeFault) (b : Result (Unit {0}) TypeFault)
    → Answers p c a → IfTold a (u ≡ t) → Answers (λ (u : Unit {0}). u) (within_limits s at u) b → r ≡ both a b → Answers p (limited s at t c) r
limited_told p s at t u c a r b ha is hb j = subst (Answers p (limited s at t c)) (sym j) (by a ha is)
  where
    within : u ≡ t → Answers (λ (u : Unit {0}). u) (within_limits s at t) b
    within e = subst (λ z. Answers (λ (u : Unit {0}). u) (within_limits s at z) b) e hb

    by : (a : Result _ TypeFault) → Answers p c a → IfTold a (u ≡ t) → Answers p (limited s at t c) (both a b)
    by (Ok x) ha e = limited_answers p s at t c (Ok x) (both (Ok x) b) b ha (within e) refl
    by (Err (Refused f)) ha e = limited_answers p s at t c (Err (Refused f)) (both (Err (Refused f)) b) b ha (within e) refl
    by (Err Memory) ha e = memory_first p (limited s at t c) b

-- what is checked of the type of an expression
pub asked_answers : {A T : Type 0} (p : T → A) (s : Sight) (at : Place) (m : Checked Expression) (k : Expression → Checked A) (e : Expression) (a r : Result T TypeFault) (b : Result (Unit {0}) TypeFault)
    → m ≡ Good e → Answers p (k e) a → Answers (λ (u : Unit {0}). u) (within_limits s at (type_of e)) b → r ≡ both a b → Answers p (one_part m (λ e. limited s at (type_of e) (k e))) r
asked_answers p s at m k e a r b is ha hb j =
    subst (λ m. Answers p (one_part m (λ e. limited s at (type_of e) (k e))) r) (sym is) (limited_answers p s at (type_of e) (k e) a r b ha hb (sym j))

-- a type that has a size
pub sized_type : (s : Sight) (at : Place) (v : PlainType) (a : Result (Unit {0}) TypeFault) → Answers (λ (u : Unit {0}). u) (has_size s at v) a → Answers (λ (u : Unit {0}). v) (element_type s at v) a
sized_type s at v a h = by (sized s.structs v) a h
  where
    by : (k : Sized) (a : Result (Unit {0}) TypeFault) → Answers (λ (u : Unit {0}). u) (elim k [ HasSize ↦ Good tt | HasNoSize ↦ faulty (no_type at) | NotYet ↦ faulty (no_name at) ]) a
        → Answers (λ (u : Unit {0}). v) (elim k [ HasSize ↦ Good v | HasNoSize ↦ faulty (no_type at) | NotYet ↦ faulty (no_name at) ]) a
    by HasSize (Ok u) h = refl
    by HasSize (Err (Refused f)) h = absurd cc
    by HasSize (Err Memory) h = tt
    by HasNoSize (Ok u) h = absurd cc
    by HasNoSize (Err (Refused f)) h = h
    by HasNoSize (Err Memory) h = tt
    by NotYet (Ok u) h = absurd cc
    by NotYet (Err (Refused f)) h = h
    by NotYet (Err Memory) h = tt
