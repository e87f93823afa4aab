-- The value of a constant expression by its forms is that of its meaning.
use Rattle.std.proofs.Common.{◌≡◌, ℕ, ℤ, pos, Bool, true, false, cond, not, ◌&&◌, nat_le, Option, Some, None, option_map, refl, sym, ap, ◌∙◌, subst}
use Rattle.c_syntax.specs.declared.place.Place.{Place}
use Rattle.c_syntax.specs.declared.expression.UnOp.TheVariants as unary
use Rattle.c_syntax.specs.Ctypes.{PlainType, Void, Int, Ptr, Array, Struct, Named, StructTag, EnumTag}
use Rattle.c_syntax.specs.Expressions.{Expression, Node, Number, Letter, Text, Variable, Unary, Binary, Both, Either, Choice, Assign, Bump, Call, Cast, SizeOfType, SizeOfExpr, Index, Dot, Arrow, Comma, place_of, type_of}
use Rattle.c_syntax.specs.Layouts.{size_of}
use Rattle.c_model.specs.Integers.{integer_type, operate, operate_one}
use Rattle.c_model.specs.Library.{is_there}
use Rattle.c_model.specs.Memory.{Value, Integer}
use Rattle.c_model.specs.State.{End, Outcome, Normal, Stop, Evaluation, ◌>>=◌, on_outcome, give, defined, tested}
use Rattle.c_model.specs.Meaning.{Tables, address, choose, converted, eval_with, is_array, place_with, truth_value}
use Rattle.c_model.specs.ExpressionTyping.{no_callee, nowhere, integer_at, integer_value, is_constant, is_other, is_zero, most_bytes}
use Rattle.c_scopes.specs.Limits.{small}
use Rattle.c_expression_rules.specs.Constants.{from, is_nought, untrue, true_of, converted_to, folded, has_small_sizes}

-- an evaluation that gives this integer, or stops
abbrev pub Agrees : Outcome Value → Option ℤ → Type 0
Agrees o (Some z) = o ≡ Normal (Integer z) nowhere
Agrees o None = (e : End) × (o ≡ Stop e nowhere)

pub value_is : (o : Outcome Value) (r : Option ℤ) → Agrees o r → integer_at o ≡ r
value_is o (Some z) h = ap integer_at h
value_is o None h = ap integer_at h.1

agrees_from : (m : Evaluation Value) (k : Value → Evaluation Value) (r : Option ℤ) (f : ℤ → Option ℤ) → Agrees (m nowhere) r → ((z : ℤ) → r ≡ Some z → Agrees (k (Integer z) nowhere) (f z)) → Agrees ((m >>= k) nowhere) (from r f)
agrees_from m k (Some z) f h g = subst (λ o. Agrees (on_outcome o k) (f z)) (sym h) (g z refl)
agrees_from m k None f h g = (h.0, ap (λ o. on_outcome o k) h.1)

agrees_tested : (m : Evaluation Value) (at : Place) (r : Option ℤ) → Agrees (m nowhere) r → Agrees ((m >>= tested at) nowhere) r
agrees_tested m at (Some z) h = ap (λ o. on_outcome o (tested at)) h
agrees_tested m at None h = (h.0, ap (λ o. on_outcome o (tested at)) h.1)

agrees_defined : (at : Place) (o : Option ℤ) → Agrees (defined at (option_map Integer o) nowhere) o
agrees_defined at (Some z) = refl
agrees_defined at None = (_, refl)

-- `&&`, `||` and a choice
agrees_truth : (m : Evaluation Value) (at : Place) (r : Option ℤ) → Agrees (m nowhere) r → Agrees (((m >>= tested at) >>= λ y. give (truth_value y)) nowhere) (from r true_of)
agrees_truth m at r h = agrees_from (m >>= tested at) (λ y. give (truth_value y)) r true_of (agrees_tested m at r h) (λ z e. refl)

other : (r : Option ℤ) (z : ℤ) → r ≡ Some z → is_nought z ≡ false → is_other r ≡ true
other r z e n = ap is_other e ∙ ap not n

nought : (r : Option ℤ) (z : ℤ) → r ≡ Some z → is_nought z ≡ true → is_zero r ≡ true
nought r z e n = ap is_zero e ∙ n

module _ (m n : Evaluation Value) (pa pb : Place) (r q : Option ℤ) (h : Agrees (m nowhere) r)
  where
    both_agrees : (is_other r ≡ true → Agrees (n nowhere) q)
        → Agrees (((m >>= tested pa) >>= λ x. choose x ((n >>= tested pb) >>= λ y. give (truth_value y)) (give (Integer (pos 0)))) nowhere) (from r (λ x. cond (is_nought x) (Some (pos 0)) (from q true_of)))
    both_agrees g = agrees_from (m >>= tested pa) _ r _ (agrees_tested m pa r h) (λ z e. by z e (is_nought z) refl)
      where
        by : (z : ℤ) → r ≡ Some z → (b : Bool) → is_nought z ≡ b
            → Agrees (cond b (give (Integer (pos 0))) ((n >>= tested pb) >>= λ y. give (truth_value y)) nowhere) (cond b (Some (pos 0)) (from q true_of))
        by z e true t = refl
        by z e false t = agrees_truth n pb q (g (other r z e t))

    either_agrees : (is_zero r ≡ true → Agrees (n nowhere) q)
        → Agrees (((m >>= tested pa) >>= λ x. choose x (give (Integer (pos 1))) ((n >>= tested pb) >>= λ y. give (truth_value y))) nowhere) (from r (λ x. cond (is_nought x) (from q true_of) (Some (pos 1))))
    either_agrees g = agrees_from (m >>= tested pa) _ r _ (agrees_tested m pa r h) (λ z e. by z e (is_nought z) refl)
      where
        by : (z : ℤ) → r ≡ Some z → (b : Bool) → is_nought z ≡ b
            → Agrees (cond b ((n >>= tested pb) >>= λ y. give (truth_value y)) (give (Integer (pos 1))) nowhere) (cond b (from q true_of) (Some (pos 1)))
        by z e true t = agrees_truth n pb q (g (nought r z e t))
        by z e false t = refl

    choice_agrees : (l : Evaluation Value) (p : Option ℤ) → (is_other r ≡ true → Agrees (n nowhere) q) → (is_zero r ≡ true → Agrees (l nowhere) p)
        → Agrees (((m >>= tested pa) >>= λ x. choose x n l) nowhere) (from r (λ x. cond (is_nought x) p q))
    choice_agrees l p g k = agrees_from (m >>= tested pa) _ r _ (agrees_tested m pa r h) (λ z e. by z e (is_nought z) refl)
      where
        by : (z : ℤ) → r ≡ Some z → (b : Bool) → is_nought z ≡ b → Agrees (cond b l n nowhere) (cond b p q)
        by z e true t = k (nought r z e t)
        by z e false t = g (other r z e t)

-- ---- premises

and_first : (a b : Bool) → (a && b) ≡ true → a ≡ true
and_first true b e = refl
and_first false b e = absurd cc

and_second : (a b : Bool) → (a && b) ≡ true → b ≡ true
and_second true b e = e
and_second false b e = absurd cc

small_is : (n : ℕ) → nat_le n most_bytes ≡ true → Some (pos n) ≡ option_map pos (small n)
small_is n e = sym (ap (λ b. option_map pos (cond b (Some n) None)) e)

converts : (to : PlainType) (z : ℤ) → is_there (integer_type to) ≡ true → Agrees (give (converted to (Integer z)) nowhere) (converted_to to z)
converts (Int k) z e = refl
converts Void z e = absurd cc
converts (Ptr t) z e = absurd cc
converts (Array t n) z e = absurd cc
converts (Struct n) z e = absurd cc
converts (Named x) z e = absurd cc
converts (StructTag x tag) z e = absurd cc
converts (EnumTag x at) z e = absurd cc

module _ (T : Tables)
  where
    -- a constant expression is no place
    no_place : (e : Expression) → is_constant T true e ≡ true → (f : End) × (place_with T e no_callee nowhere ≡ Stop f nowhere)
    no_place (Node at t (Number n k)) c = (_, refl)
    no_place (Node at t (Letter n)) c = (_, refl)
    no_place (Node at t (Unary unary.Deref a)) c = absurd cc
    no_place (Node at t (Unary unary.Address a)) c = absurd cc
    no_place (Node at t (Unary unary.Not a)) c = (_, refl)
    no_place (Node at t (Unary unary.Plus a)) c = (_, refl)
    no_place (Node at t (Unary unary.Minus a)) c = (_, refl)
    no_place (Node at t (Unary unary.Flip a)) c = (_, refl)
    no_place (Node at t (Binary op a b)) c = (_, refl)
    no_place (Node at t (Both a b)) c = (_, refl)
    no_place (Node at t (Either a b)) c = (_, refl)
    no_place (Node at t (Choice a b d)) c = (_, refl)
    no_place (Node at t (Cast to a)) c = (_, refl)
    no_place (Node at t (SizeOfType u)) c = (_, refl)
    no_place (Node at t (SizeOfExpr a)) c = (_, refl)
    no_place (Node at t (Text n)) c = absurd cc
    no_place (Node at t (Variable x)) c = absurd cc
    no_place (Node at t (Assign op a b)) c = absurd cc
    no_place (Node at t (Bump op a)) c = absurd cc
    no_place (Node at t (Call f es)) c = absurd cc
    no_place (Node at t (Index a b)) c = absurd cc
    no_place (Node at t (Dot a m)) c = absurd cc
    no_place (Node at t (Arrow a m)) c = absurd cc
    no_place (Node at t (Comma a b)) c = absurd cc

    abbrev here : Expression → Outcome Value
    here e = eval_with T e no_callee nowhere

    -- a part that is evaluated, as its condition has this value
    part : (a b : Expression) (r : Option ℤ) (test : Option ℤ → Bool) → Agrees (here a) r → is_constant T (true && test (integer_value T a)) b ≡ true → test r ≡ true → is_constant T true b ≡ true
    part a b r test h c e = subst (λ v. is_constant T v b ≡ true) (ap test (value_is (here a) r h) ∙ e) c

    cast_agrees : (to : PlainType) (a : Expression) → is_constant T true a ≡ true → is_there (integer_type to) ≡ true → (r : Option ℤ) → Agrees (here a) r → (b : Bool)
        → Agrees (cond b (place_with T a no_callee >>= address a) (eval_with T a no_callee >>= λ x. give (converted to x)) nowhere) (cond b None (from r (converted_to to)))
    cast_agrees to a c i r h true = let p = no_place a c in (p.0, ap (λ o. on_outcome o (address a)) p.1)
    cast_agrees to a c i r h false = agrees_from (eval_with T a no_callee) (λ x. give (converted to x)) r (converted_to to) h (λ z e. converts to z i)

    pub agrees : (e : Expression) → is_constant T true e ≡ true → has_small_sizes T.structs e ≡ true → Agrees (here e) (folded T.structs e)
    agrees (Node at t (Number n k)) c w = refl
    agrees (Node at t (Letter n)) c w = refl
    agrees (Node at t (Unary unary.Not a)) c w =
        agrees_from (eval_with T a no_callee >>= tested (place_of a)) _ (folded T.structs a) untrue (agrees_tested (eval_with T a no_callee) (place_of a) (folded T.structs a) (agrees a c w)) (λ z e. refl)
    agrees (Node at t (Unary unary.Plus a)) c w = agrees_from (eval_with T a no_callee) _ (folded T.structs a) _ (agrees a c w) (λ z e. agrees_defined at (operate_one t unary.Plus z))
    agrees (Node at t (Unary unary.Minus a)) c w = agrees_from (eval_with T a no_callee) _ (folded T.structs a) _ (agrees a c w) (λ z e. agrees_defined at (operate_one t unary.Minus z))
    agrees (Node at t (Unary unary.Flip a)) c w = agrees_from (eval_with T a no_callee) _ (folded T.structs a) _ (agrees a c w) (λ z e. agrees_defined at (operate_one t unary.Flip z))
    agrees (Node at t (Unary unary.Deref a)) c w = absurd cc
    agrees (Node at t (Unary unary.Address a)) c w = absurd cc
    agrees (Node at t (Binary op a b)) c w =
        agrees_from (eval_with T a no_callee) _ (folded T.structs a) _ (agrees a (and_first _ _ c) (and_first _ _ w)) (λ x e.
        agrees_from (eval_with T b no_callee) _ (folded T.structs b) _ (agrees b (and_second _ _ c) (and_second _ _ w)) (λ y d. agrees_defined at (operate t op x y)))
    agrees (Node at t (Both a b)) c w =
        let h = agrees a (and_first _ _ c) (and_first _ _ w) in
        both_agrees (eval_with T a no_callee) (eval_with T b no_callee) (place_of a) (place_of b) (folded T.structs a) (folded T.structs b) h
        (λ e. agrees b (part a b (folded T.structs a) is_other h (and_second _ _ c) e) (and_second _ _ w))
    agrees (Node at t (Either a b)) c w =
        let h = agrees a (and_first _ _ c) (and_first _ _ w) in
        either_agrees (eval_with T a no_callee) (eval_with T b no_callee) (place_of a) (place_of b) (folded T.structs a) (folded T.structs b) h
        (λ e. agrees b (part a b (folded T.structs a) is_zero h (and_second _ _ c) e) (and_second _ _ w))
    agrees (Node at t (Choice a b d)) c w =
        let h = agrees a (and_first _ _ (and_first _ _ c)) (and_first _ _ w) in
        choice_agrees (eval_with T a no_callee) (eval_with T b no_callee) (place_of a) (place_of b) (folded T.structs a) (folded T.structs b) h (eval_with T d no_callee) (folded T.structs d)
        (λ e. agrees b (part a b (folded T.structs a) is_other h (and_second _ _ (and_first _ _ c)) e) (and_first _ _ (and_second _ _ w)))
        (λ e. agrees d (part a d (folded T.structs a) is_zero h (and_second _ _ c) e) (and_second _ _ (and_second _ _ w)))
    agrees (Node at t (Cast to a)) c w = cast_agrees to a (and_second _ _ c) (and_first _ _ c) (folded T.structs a) (agrees a (and_second _ _ c) w) (is_array (type_of a))
    agrees (Node at t (SizeOfType u)) c w = subst (Agrees (Normal (Integer (pos (size_of T.structs u))) nowhere)) (small_is (size_of T.structs u) w) refl
    agrees (Node at t (SizeOfExpr a)) c w = subst (Agrees (Normal (Integer (pos (size_of T.structs (type_of a)))) nowhere)) (small_is (size_of T.structs (type_of a)) w) refl
    agrees (Node at t (Text n)) c w = absurd cc
    agrees (Node at t (Variable x)) c w = absurd cc
    agrees (Node at t (Assign op a b)) c w = absurd cc
    agrees (Node at t (Bump op a)) c w = absurd cc
    agrees (Node at t (Call f es)) c w = absurd cc
    agrees (Node at t (Index a b)) c w = absurd cc
    agrees (Node at t (Dot a m)) c w = absurd cc
    agrees (Node at t (Arrow a m)) c w = absurd cc
    agrees (Node at t (Comma a b)) c w = absurd cc

    -- the value of a constant expression, by its forms
    pub value_by_forms : (e : Expression) → is_constant T true e ≡ true → has_small_sizes T.structs e ≡ true → integer_value T e ≡ folded T.structs e
    value_by_forms e c w = value_is (here e) (folded T.structs e) (agrees e c w)
