-- Statements that stand beside answers, unless memory ran out.
use Rattle.std.proofs.Common.{◌≡◌, sym, ap, ◌∙◌, subst, Result, Ok, Err}
use Rattle.c_syntax.specs.Ctypes.{PlainType, PlainLength, Array}
use Rattle.c_model.specs.ExpressionTyping.{Sight, known_type, known_length}
use Rattle.c_scopes.specs.declared.fault.TypeFault.{TypeFault}
use Rattle.c_scopes.specs.declared.fault.TypeFault.TheVariants.{Refused, Memory}
use Rattle.c_scopes.specs.Answers.{IfTold, both}

pub told_any : {T P : Type 0} (r : Result T TypeFault) → P → IfTold r P
told_any (Ok t) h = h
told_any (Err (Refused f)) h = h
told_any (Err Memory) h = tt

pub told_map : {T P Q : Type 0} (r : Result T TypeFault) → (P → Q) → IfTold r P → IfTold r Q
told_map (Ok t) k h = k h
told_map (Err (Refused f)) k h = k h
told_map (Err Memory) k h = tt

-- of two answers as one
pub told_both : {T : Type 0} (P Q : Type 0) (a : Result T TypeFault) (b : Result (Unit {0}) TypeFault) → IfTold a P → IfTold b Q → IfTold (both a b) (P × Q)
told_both P Q (Ok t) (Ok u) h k = (h, k)
told_both P Q (Ok t) (Err (Refused g)) h k = (h, k)
told_both P Q (Ok t) (Err Memory) h k = tt
told_both P Q (Err (Refused f)) (Ok u) h k = (h, k)
told_both P Q (Err (Refused f)) (Err (Refused g)) h k = (h, k)
told_both P Q (Err (Refused f)) (Err Memory) h k = tt
told_both P Q (Err Memory) (Ok u) h k = tt
told_both P Q (Err Memory) (Err g) h k = tt

-- an array, of elements and a length
pub array_known : (s : Sight) (t u : PlainType) (n m : PlainLength) (a b r : Result (Unit {0}) TypeFault) → IfTold a (u ≡ known_type s t) → IfTold b (m ≡ known_length s n) → r ≡ both a b
    → IfTold r (Array u m ≡ known_type s (Array t n))
array_known s t u n m a b r ha hb j =
    subst (λ r. IfTold r (Array u m ≡ known_type s (Array t n))) (sym j)
    (told_map (both a b) together (told_both (u ≡ known_type s t) (m ≡ known_length s n) a b ha hb))
  where
    together : (u ≡ known_type s t) × (m ≡ known_length s n) → Array u m ≡ known_type s (Array t n)
    together p = ap (λ x. Array x m) p.0 ∙ ap (Array (known_type s t)) p.1
