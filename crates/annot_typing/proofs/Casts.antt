-- Casts to a type that is written, whose limits are faults besides the others.
use Rattle.std.proofs.Common.{◌≡◌, sym, ap, subst, Result, Ok, Err}
use Rattle.c_syntax.specs.declared.place.Place.{Place}
use Rattle.c_syntax.specs.Ctypes.{PlainType}
use Rattle.c_model.specs.Checked.{Checked, Good, one_part, pair_of}
use Rattle.c_model.specs.ExpressionTyping.{Sight, limited}
use Rattle.c_model.specs.PredicateTyping as typing
use Rattle.c_scopes.specs.declared.fault.TypeFault.{TypeFault}
use Rattle.c_scopes.specs.declared.fault.TypeFault.TheVariants.{Refused, Memory}
use Rattle.c_scopes.specs.Answers.{Answers, IfTold, both}
use Rattle.c_expression_rules.specs.Structs.{within_limits}
use Rattle.c_expression_rules.proofs.Besides.{limited_told}
use Rattle.c_scopes.proofs.Least.{one_refused}
use Rattle.c_scopes.proofs.Told.{told_any}
use Rattle.annot_typing.specs.declared.sorted.Sorted.{Sorted}
use Rattle.annot_typing.specs.Joined.{both_answered}
use Rattle.annot_typing.specs.Sorts.{plain_sorted}
use Rattle.annot_typing.proofs.Parts.{joined_refused}

memory_is : {T U : Type 0} (b : Result U TypeFault) (f : TypeFault) → ◌≡◌ {A = Result (T × U) TypeFault} (both_answered (Err Memory) b) (Err f) → Memory ≡ f
memory_is (Ok y) f j = cc
memory_is (Err g) f j = cc

ok_is : {T : Type 0} {x y : T} → ◌≡◌ {A = Result T TypeFault} (Ok x) (Ok y) → x ≡ y
ok_is j = cc

-- what stands beside the first of two answers stands beside the fault of both
told_joined : {T U : Type 0} (S P : Type 0) (w : Result T TypeFault) (o : Result U TypeFault) (f : TypeFault) → IfTold w P → both_answered w o ≡ Err f → IfTold {T = S} (Err f) P
told_joined S P (Ok t) o f h j = told_any {T = S} {P = P} (Err f) h
told_joined S P (Err (Refused g)) o f h j = told_any {T = S} {P = P} (Err f) h
told_joined {T = T} {U = U} S P (Err Memory) o f h j = subst (λ f. IfTold {T = S} (Err f) P) (memory_is {T = T} {U = U} o f j) tt

-- a type that is written, as it is typed (t) and as it stands there afterwards (u), and an operand
module _ (s : Sight) (at : Place) (t u : PlainType) (m : Checked PlainType) (n : Checked typing.Sorted) (k : (PlainType × typing.Sorted) → Checked typing.Sorted)
    (w : Result (Unit {0}) TypeFault) (o : Result Sorted TypeFault) (l : Result (Unit {0}) TypeFault)
    (hw : Answers (λ (v : Unit {0}). u) m w) (ho : Answers plain_sorted n o) (known : IfTold w (u ≡ t)) (hl : Answers (λ (v : Unit {0}). v) (within_limits s at u) l)
  where
    abbrev whole : Checked typing.Sorted
    whole = limited s at t (one_part (pair_of m n) k)

    abbrev plain_parts : (Unit {0} × Sorted) → (PlainType × typing.Sorted)
    plain_parts x = (u, plain_sorted x.1)

    -- the type or the operand is refused
    pub cast_refused : (f : TypeFault) (r : Result Sorted TypeFault) → both_answered w o ≡ Err f → r ≡ both (Err f) l → Answers plain_sorted whole r
    cast_refused f r j is = limited_told plain_sorted s at t u (one_part (pair_of m n) k) (Err f) r l
        (one_refused k plain_parts plain_sorted (pair_of m n) f (joined_refused (λ (v : Unit {0}). u) plain_sorted m n w o plain_parts f hw ho j)) (told_joined Sorted (u ≡ t) w o f known j) hl is

    -- neither is
    pub cast_answers : (a : Sorted) (c r : Result Sorted TypeFault) → both_answered w o ≡ Ok (tt, a) → Answers plain_sorted (k (u, plain_sorted a)) c → r ≡ both c l → Answers plain_sorted whole r
    cast_answers a c r j hc is = by w o hw ho known j
      where
        good : (y : Sorted) → y ≡ a → m ≡ Good u → n ≡ Good (plain_sorted y) → u ≡ t → Answers plain_sorted whole r
        good y ey hm hn same = limited_told plain_sorted s at t u (one_part (pair_of m n) k) c r l
            (subst (λ m. Answers plain_sorted (one_part (pair_of m n) k) c) (sym hm) (subst (λ n. Answers plain_sorted (one_part (pair_of (Good u) n) k) c) (sym hn)
            (subst (λ z. Answers plain_sorted (k (u, plain_sorted z)) c) (sym ey) hc))) (told_any c same) hl is

        by : (w : Result (Unit {0}) TypeFault) (o : Result Sorted TypeFault) → Answers (λ (v : Unit {0}). u) m w → Answers plain_sorted n o → IfTold w (u ≡ t) → both_answered w o ≡ Ok (tt, a)
            → Answers plain_sorted whole r
        by (Ok x) (Ok y) hw ho h j = let same : ◌≡◌ {A = Unit {0} × Sorted} (x, y) (tt, a) = ok_is j in good y (ap (λ p. p.1) same) hw ho h
        by (Ok x) (Err g) hw ho h j = absurd cc
        by (Err f) (Ok y) hw ho h j = absurd cc
        by (Err f) (Err g) hw ho h j = absurd cc

-- the size of a type that is written, which has a fault
pub size_refused : {A T : Type 0} (p : T → A) (s : Sight) (at : Place) (t u : PlainType) (m : Checked PlainType) (k : PlainType → Checked A) (f : TypeFault) (r : Result T TypeFault) (l : Result (Unit {0}) TypeFault)
    → Answers (λ (v : Unit {0}). u) m (Err f) → IfTold {T = Unit {0}} (Err f) (u ≡ t) → Answers (λ (v : Unit {0}). v) (within_limits s at u) l → r ≡ both (Err f) l → Answers p (limited s at t (one_part m k)) r
size_refused {T = T} p s at t u m k f r l hw known hl is = limited_told p s at t u (one_part m k) (Err f) r l (one_refused k (λ (v : Unit {0}). u) p m f hw) (told_err f known) hl is
  where
    told_err : (f : TypeFault) → IfTold {T = Unit {0}} (Err f) (u ≡ t) → IfTold {T = T} (Err f) (u ≡ t)
    told_err (Refused g) h = h
    told_err Memory h = tt
