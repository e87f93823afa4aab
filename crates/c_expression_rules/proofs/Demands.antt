-- Demands that several forms share, and what the whole is then.
use Rattle.std.proofs.Common.{◌≡◌, refl, sym, ap, ◌∙◌, subst, Result, Err, Bool, true, false, not, ◌&&◌, Option, Some, None}
use Rattle.c_syntax.specs.declared.place.Place.{Place}
use Rattle.c_syntax.specs.declared.types.CInt.{CInt}
use Rattle.c_syntax.specs.declared.expression.BinOp.{BinOp}
use Rattle.c_syntax.specs.Ctypes.{PlainType}
use Rattle.c_syntax.specs.Expressions.{Expression, Node, Index, type_of}
use Rattle.c_model.specs.Integers.{integer_type}
use Rattle.c_model.specs.Library.{is_there}
use Rattle.c_model.specs.Checked.{Checked, Good, faulty, given, one_part, where_so}
use Rattle.c_model.specs.ExpressionTyping.{Sight, Sized, HasSize, HasNoSize, NotYet, operated_in_place, is_place, is_step, is_void, no_name, no_type, pointed, sized, where_elements, where_sized}
use Rattle.c_scopes.specs.declared.fault.TypeFault.{TypeFault}
use Rattle.c_scopes.specs.Answers.{Answers}
use Rattle.c_scopes.proofs.Least.{one_refused}
use Rattle.c_expression_rules.specs.Operators.{compoundable, has_elements, has_size}

module _ {A : Type 0} (s : Sight) (at : Place) (t : PlainType) (c : Checked A)
  where
    pub sized_then : where_sized s at t c ≡ one_part (has_size s at t) (λ u. c)
    sized_then = by (sized s.structs t)
      where
        by : (k : Sized) → elim k [ HasSize ↦ c | HasNoSize ↦ faulty (no_type at) | NotYet ↦ faulty (no_name at) ] ≡ one_part (elim k [ HasSize ↦ Good tt | HasNoSize ↦ faulty (no_type at) | NotYet ↦ faulty (no_name at) ]) (λ (u : Unit {0}). c)
        by HasSize = refl
        by HasNoSize = refl
        by NotYet = refl

    pub elements_then : where_elements s at t c ≡ one_part (has_elements s at t) (λ u. c)
    elements_then = by (is_void t) sized_then
      where
        by : (v : Bool) → where_sized s at t c ≡ one_part (has_size s at t) (λ u. c) → where_so (not v) (no_type at) (where_sized s at t c) ≡ one_part (where_so (not v) (no_type at) (has_size s at t)) (λ u. c)
        by true e = refl
        by false e = e

module _ (s : Sight) (at : Place) (op : BinOp) (a b whole : Expression)
  where
    pub operated_by : operated_in_place s at op a b whole ≡ one_part (compoundable s at op a (is_there (integer_type (type_of b)))) (λ u. Good whole)
    operated_by = by (integer_type (type_of a)) (pointed (type_of a)) (is_place a && is_there (integer_type (type_of b)))
      where
        steps : (t : PlainType) (p : Bool) → where_so p (no_type at) (where_elements s at t (Good whole)) ≡ one_part (where_so p (no_type at) (has_elements s at t)) (λ u. Good whole)
        steps t true = elements_then s at t (Good whole)
        steps t false = refl

        by : (o : Option CInt) (q : Option PlainType) (p : Bool)
            → elim o [ Some k ↦ where_so p (no_type at) (Good whole) | None ↦ given q (no_type at) (λ t. where_so (p && is_step op true) (no_type at) (where_elements s at t (Good whole))) ]
            ≡ one_part (elim o [ Some k ↦ where_so p (no_type at) (Good tt) | None ↦ given q (no_type at) (λ t. where_so (p && is_step op true) (no_type at) (has_elements s at t)) ]) (λ (u : Unit {0}). Good whole)
        by (Some k) q true = refl
        by (Some k) q false = refl
        by None None p = refl
        by None (Some t) p = steps t (p && is_step op true)

    pub operated_good : compoundable s at op a (is_there (integer_type (type_of b))) ≡ Good tt → operated_in_place s at op a b whole ≡ Good whole
    operated_good e = operated_by ∙ ap (λ c. one_part c (λ (u : Unit {0}). Good whole)) e

    pub operated_bad : {T : Type 0} (p : T → Expression) (f : TypeFault) → Answers (λ (u : Unit {0}). u) (compoundable s at op a (is_there (integer_type (type_of b)))) (Err f) → Answers p (operated_in_place s at op a b whole) (Err f)
    operated_bad {T = T} p f h = let r : Result T TypeFault = Err f in
        subst (λ c. Answers p c r) (sym operated_by) (one_refused (λ (u : Unit {0}). Good whole) (λ (u : Unit {0}). u) p (compoundable s at op a (is_there (integer_type (type_of b)))) f h)

module _ (s : Sight) (at : Place) (a b : Expression)
  where
    abbrev whole : PlainType → Expression
    whole t = Node at t (Index a b)
