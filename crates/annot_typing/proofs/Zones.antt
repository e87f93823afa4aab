-- What is asked of the type behind a zone's pointer comes before what is asked of its bounds.
use Rattle.std.proofs.Common.{◌≡◌, refl, Bool, true, false, Some, Err}
use Rattle.c_syntax.specs.declared.place.Place.{Place}
use Rattle.c_syntax.specs.declared.logic.MemoryQuestion.{MemoryQuestion}
use Rattle.c_syntax.specs.declared.logic.MemoryQuestion.TheVariants.{Valid, ValidRead, Initialized}
use Rattle.c_syntax.specs.Ctypes.{PlainType}
use Rattle.c_model.specs.Checked.{Fault, Checked, Good, faulty, refusing, where_so}
use Rattle.c_model.specs.ExpressionTyping.{Sight, Sized, HasSize, HasNoSize, NotYet, is_scalar, no_name, no_type, too_large, sized}
use Rattle.c_model.specs.PredicateTyping.{is_measured, where_measured, where_asked}
use Rattle.c_scopes.specs.declared.fault.TypeFault.{TypeFault}
use Rattle.c_scopes.specs.declared.fault.TypeFault.TheVariants.{Refused, Memory}
use Rattle.c_scopes.specs.Answers.{Answers, plain_fault}

module _ {A : Type 0} (s : Sight) (at : Place) (u : PlainType) (k : Checked A)
  where
    abbrev sized_by : {B : Type 0} → Sized → Checked B → Checked B
    sized_by z k = elim z [ HasSize ↦ k | HasNoSize ↦ faulty (no_type at) | NotYet ↦ faulty (no_name at) ]

    -- a demand within another
    by_test : (b : Bool) (f : Fault) (c d : Checked A) (e : Checked (Unit {0})) → (e ≡ Good tt → c ≡ d) → where_so b f e ≡ Good tt → where_so b f c ≡ d
    by_test true f c d e h g = h g
    by_test false f c d e h g = absurd cc

    by_bytes : (b : Bool) → where_so b (too_large at) (Good tt) ≡ Good (tt {0}) → where_so b (too_large at) k ≡ k
    by_bytes b e = by_test b (too_large at) k k (Good tt) (λ h. refl) e

    measured_good : where_measured s at u (Good tt) ≡ Good (tt {0}) → where_measured s at u k ≡ k
    measured_good e = by (sized s.structs u) e
      where
        by : (z : Sized) → sized_by z (where_so (is_measured s u) (too_large at) (Good tt)) ≡ Good (tt {0}) → sized_by z (where_so (is_measured s u) (too_large at) k) ≡ k
        by HasSize e = by_bytes (is_measured s u) e
        by HasNoSize e = absurd cc
        by NotYet e = absurd cc

    -- where the question may be asked, it goes on
    pub asked_good : (q : MemoryQuestion) → where_asked s at q u (Good tt) ≡ Good (tt {0}) → where_asked s at q u k ≡ k
    asked_good Valid e = measured_good e
    asked_good ValidRead e = measured_good e
    asked_good Initialized e = by_test (is_scalar u) (no_type at) (where_measured s at u k) k (where_measured s at u (Good tt)) measured_good e

    -- a refusal of what is asked is one of the whole
    refused_test : (b : Bool) (f g : Fault) (c : Checked A) (e : Checked (Unit {0})) → (refusing e ≡ Some g → refusing c ≡ Some g) → refusing (where_so b f e) ≡ Some g → refusing (where_so b f c) ≡ Some g
    refused_test true f g c e h x = h x
    refused_test false f g c e h x = x

    refused_bytes : (b : Bool) (g : Fault) → refusing (where_so b (too_large at) (Good (tt {0}))) ≡ Some g → refusing (where_so b (too_large at) k) ≡ Some g
    refused_bytes true g x = absurd cc
    refused_bytes false g x = x

    measured_refused : (g : Fault) → refusing (where_measured s at u (Good (tt {0}))) ≡ Some g → refusing (where_measured s at u k) ≡ Some g
    measured_refused g x = by (sized s.structs u) x
      where
        by : (z : Sized) → refusing (sized_by z (where_so (is_measured s u) (too_large at) (Good (tt {0})))) ≡ Some g → refusing (sized_by z (where_so (is_measured s u) (too_large at) k)) ≡ Some g
        by HasSize x = refused_bytes (is_measured s u) g x
        by HasNoSize x = x
        by NotYet x = x

    refused_by : (q : MemoryQuestion) (g : Fault) → refusing (where_asked s at q u (Good (tt {0}))) ≡ Some g → refusing (where_asked s at q u k) ≡ Some g
    refused_by Valid g x = measured_refused g x
    refused_by ValidRead g x = measured_refused g x
    refused_by Initialized g x = refused_test (is_scalar u) (no_type at) g (where_measured s at u k) (where_measured s at u (Good (tt {0}))) (measured_refused g) x

    pub asked_refused : {S : Type 0} (p : S → A) (q : MemoryQuestion) (h : TypeFault) → Answers (λ (v : Unit {0}). v) (where_asked s at q u (Good (tt {0}))) (Err h) → Answers p (where_asked s at q u k) (Err h)
    asked_refused p q (Refused f) x = refused_by q (plain_fault f) x
    asked_refused p q Memory x = tt
