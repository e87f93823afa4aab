-- The value of an integer constant expression is the same from any state.
use Rattle.std.proofs.Common.{◌≡◌, ℤ, pos, Bool, true, false, cond, not, ◌&&◌, Option, Some, None, option_map, refl, sym, ap, ◌∙◌, subst}
use Rattle.std.specs.Ordering.{int_eq}
use Rattle.c_syntax.specs.declared.place.Place.{Place}
use Rattle.c_syntax.specs.declared.expression.UnOp.TheVariants as unary
use Rattle.c_syntax.specs.Ctypes.{PlainType, Void, Int, Ptr, Array, Struct, Named, StructTag, EnumTag}
use Rattle.c_syntax.specs.Expressions.{Expression, Node, Number, Letter, Text, Variable, Unary, Binary, Both, Either, Choice, Assign, Bump, Call, Cast, SizeOfType, SizeOfExpr, Index, Dot, Arrow, Comma, place_of, type_of}
use Rattle.c_model.specs.Integers.{integer_type, operate, operate_one}
use Rattle.c_model.specs.Library.{is_there}
use Rattle.c_model.specs.Memory.{Value, Integer}
use Rattle.c_model.specs.State.{End, State, Outcome, Normal, Stop, Evaluation, ◌>>=◌, on_outcome, give, defined, tested}
use Rattle.c_model.specs.Meaning.{Tables, address, choose, converted, eval_with, is_array, place_with, truth_value}
use Rattle.c_model.specs.ExpressionTyping.{Sight, constant, tables_in, no_callee, nowhere, integer_at, integer_value, is_constant, is_other, is_zero}

pub and_first : (a b : Bool) → (a && b) ≡ true → a ≡ true
and_first true b e = refl
and_first false b e = absurd cc

pub and_second : (a b : Bool) → (a && b) ≡ true → b ≡ true
and_second true b e = e
and_second false b e = absurd cc

module _ (S : State)
  where
    -- two evaluations that give one integer, each where it began, or stop
    pub data Alike (o p : Outcome Value) : Type 0 where
      GiveOne : (z : ℤ) → o ≡ Normal (Integer z) S → p ≡ Normal (Integer z) nowhere → Alike o p
      AreStopped : (e f : End) → o ≡ Stop e S → p ≡ Stop f nowhere → Alike o p

    alike_bind : (m : Evaluation Value) (k : Value → Evaluation Value) → Alike (m S) (m nowhere) → ((z : ℤ) → m nowhere ≡ Normal (Integer z) nowhere → Alike (k (Integer z) S) (k (Integer z) nowhere))
        → Alike ((m >>= k) S) ((m >>= k) nowhere)
    alike_bind m k (GiveOne z p q) g =
        subst (λ o. Alike (on_outcome o k) (on_outcome (m nowhere) k)) (sym p) (subst (λ o. Alike (k (Integer z) S) (on_outcome o k)) (sym q) (g z q))
    alike_bind m k (AreStopped e f p q) g = AreStopped e f (ap (λ o. on_outcome o k) p) (ap (λ o. on_outcome o k) q)

    alike_tested : (m : Evaluation Value) (at : Place) → Alike (m S) (m nowhere) → Alike ((m >>= tested at) S) ((m >>= tested at) nowhere)
    alike_tested m at (GiveOne z p q) = GiveOne z (ap (λ o. on_outcome o (tested at)) p) (ap (λ o. on_outcome o (tested at)) q)
    alike_tested m at (AreStopped e f p q) = AreStopped e f (ap (λ o. on_outcome o (tested at)) p) (ap (λ o. on_outcome o (tested at)) q)

    -- what a tested value is
    untested : (m : Evaluation Value) (at : Place) (z : ℤ) → Alike (m S) (m nowhere) → (m >>= tested at) nowhere ≡ Normal (Integer z) nowhere → integer_at (m nowhere) ≡ Some z
    untested m at z (GiveOne y p q) e =
        let d : ◌≡◌ {A = Outcome Value} (Normal (Integer y) nowhere) (Normal (Integer z) nowhere) = sym (ap (λ o. on_outcome o (tested at)) q) ∙ e in
        ap integer_at q ∙ ap integer_at d
    untested m at z (AreStopped x f p q) e =
        let d : ◌≡◌ {A = Outcome Value} (Stop f nowhere) (Normal (Integer z) nowhere) = sym (ap (λ o. on_outcome o (tested at)) q) ∙ e in absurd cc

    alike_defined : (at : Place) (o : Option ℤ) → Alike (defined at (option_map Integer o) S) (defined at (option_map Integer o) nowhere)
    alike_defined at (Some z) = GiveOne z refl refl
    alike_defined at None = AreStopped _ _ refl refl

    alike_truth : (m : Evaluation Value) (at : Place) → Alike (m S) (m nowhere) → Alike (((m >>= tested at) >>= λ y. give (truth_value y)) S) (((m >>= tested at) >>= λ y. give (truth_value y)) nowhere)
    alike_truth m at h = alike_bind (m >>= tested at) (λ y. give (truth_value y)) (alike_tested m at h) (λ z e. GiveOne _ refl refl)

    -- `&&`, `||` and a choice
    module _ (m n : Evaluation Value) (pa pb : Place) (h : Alike (m S) (m nowhere))
      where
        alike_both : (is_other (integer_at (m nowhere)) ≡ true → Alike (n S) (n nowhere))
            → Alike (((m >>= tested pa) >>= λ x. choose x ((n >>= tested pb) >>= λ y. give (truth_value y)) (give (Integer (pos 0)))) S)
            (((m >>= tested pa) >>= λ x. choose x ((n >>= tested pb) >>= λ y. give (truth_value y)) (give (Integer (pos 0)))) nowhere)
        alike_both g = alike_bind (m >>= tested pa) _ (alike_tested m pa h) (λ z e. by z (untested m pa z h e) (int_eq z (pos 0)) refl)
          where
            by : (z : ℤ) → integer_at (m nowhere) ≡ Some z → (b : Bool) → int_eq z (pos 0) ≡ b
                → Alike (cond b (give (Integer (pos 0))) ((n >>= tested pb) >>= λ y. give (truth_value y)) S) (cond b (give (Integer (pos 0))) ((n >>= tested pb) >>= λ y. give (truth_value y)) nowhere)
            by z e true t = GiveOne (pos 0) refl refl
            by z e false t = alike_truth n pb (g (ap is_other e ∙ ap not t))

        alike_either : (is_zero (integer_at (m nowhere)) ≡ true → Alike (n S) (n nowhere))
            → Alike (((m >>= tested pa) >>= λ x. choose x (give (Integer (pos 1))) ((n >>= tested pb) >>= λ y. give (truth_value y))) S)
            (((m >>= tested pa) >>= λ x. choose x (give (Integer (pos 1))) ((n >>= tested pb) >>= λ y. give (truth_value y))) nowhere)
        alike_either g = alike_bind (m >>= tested pa) _ (alike_tested m pa h) (λ z e. by z (untested m pa z h e) (int_eq z (pos 0)) refl)
          where
            by : (z : ℤ) → integer_at (m nowhere) ≡ Some z → (b : Bool) → int_eq z (pos 0) ≡ b
                → Alike (cond b ((n >>= tested pb) >>= λ y. give (truth_value y)) (give (Integer (pos 1))) S) (cond b ((n >>= tested pb) >>= λ y. give (truth_value y)) (give (Integer (pos 1))) nowhere)
            by z e true t = alike_truth n pb (g (ap is_zero e ∙ t))
            by z e false t = GiveOne (pos 1) refl refl

        alike_choice : (l : Evaluation Value) → (is_other (integer_at (m nowhere)) ≡ true → Alike (n S) (n nowhere)) → (is_zero (integer_at (m nowhere)) ≡ true → Alike (l S) (l nowhere))
            → Alike (((m >>= tested pa) >>= λ x. choose x n l) S) (((m >>= tested pa) >>= λ x. choose x n l) nowhere)
        alike_choice l g k = alike_bind (m >>= tested pa) _ (alike_tested m pa h) (λ z e. by z (untested m pa z h e) (int_eq z (pos 0)) refl)
          where
            by : (z : ℤ) → integer_at (m nowhere) ≡ Some z → (b : Bool) → int_eq z (pos 0) ≡ b → Alike (cond b l n S) (cond b l n nowhere)
            by z e true t = k (ap is_zero e ∙ t)
            by z e false t = g (ap is_other e ∙ ap not t)

    converts : (to : PlainType) (z : ℤ) → is_there (integer_type to) ≡ true → Alike (give (converted to (Integer z)) S) (give (converted to (Integer z)) nowhere)
    converts (Int k) z e = GiveOne _ refl refl
    converts Void z e = absurd cc
    converts (Ptr t) z e = absurd cc
    converts (Array t n) z e = absurd cc
    converts (Struct n) z e = absurd cc
    converts (Named x) z e = absurd cc
    converts (StructTag x tag) z e = absurd cc
    converts (EnumTag x at) z e = absurd cc

    module _ (T : Tables)
      where
        -- a constant expression is no place
        no_place : (e : Expression) → is_constant T true e ≡ true → (s : State) → (f : End) × (place_with T e no_callee s ≡ Stop f s)
        no_place (Node at t (Number n k)) c s = (_, refl)
        no_place (Node at t (Letter n)) c s = (_, refl)
        no_place (Node at t (Unary unary.Deref a)) c s = absurd cc
        no_place (Node at t (Unary unary.Address a)) c s = absurd cc
        no_place (Node at t (Unary unary.Not a)) c s = (_, refl)
        no_place (Node at t (Unary unary.Plus a)) c s = (_, refl)
        no_place (Node at t (Unary unary.Minus a)) c s = (_, refl)
        no_place (Node at t (Unary unary.Flip a)) c s = (_, refl)
        no_place (Node at t (Binary op a b)) c s = (_, refl)
        no_place (Node at t (Both a b)) c s = (_, refl)
        no_place (Node at t (Either a b)) c s = (_, refl)
        no_place (Node at t (Choice a b d)) c s = (_, refl)
        no_place (Node at t (Cast to a)) c s = (_, refl)
        no_place (Node at t (SizeOfType u)) c s = (_, refl)
        no_place (Node at t (SizeOfExpr a)) c s = (_, refl)
        no_place (Node at t (Text n)) c s = absurd cc
        no_place (Node at t (Variable x)) c s = absurd cc
        no_place (Node at t (Assign op a b)) c s = absurd cc
        no_place (Node at t (Bump op a)) c s = absurd cc
        no_place (Node at t (Call f es)) c s = absurd cc
        no_place (Node at t (Index a b)) c s = absurd cc
        no_place (Node at t (Dot a m)) c s = absurd cc
        no_place (Node at t (Arrow a m)) c s = absurd cc
        no_place (Node at t (Comma a b)) c s = absurd cc

        abbrev run : Expression → Evaluation Value
        run e = eval_with T e no_callee

        cast_alike : (to : PlainType) (a : Expression) → is_constant T true a ≡ true → is_there (integer_type to) ≡ true → Alike (run a S) (run a nowhere) → (b : Bool)
            → Alike (cond b (place_with T a no_callee >>= address a) (run a >>= λ x. give (converted to x)) S) (cond b (place_with T a no_callee >>= address a) (run a >>= λ x. give (converted to x)) nowhere)
        cast_alike to a c i h true =
            let p = no_place a c S in let q = no_place a c nowhere in AreStopped p.0 q.0 (ap (λ o. on_outcome o (address a)) p.1) (ap (λ o. on_outcome o (address a)) q.1)
        cast_alike to a c i h false = alike_bind (run a) (λ x. give (converted to x)) h (λ z e. converts to z i)

        pub alike : (e : Expression) → is_constant T true e ≡ true → Alike (run e S) (run e nowhere)
        alike (Node at t (Number n k)) c = GiveOne n refl refl
        alike (Node at t (Letter n)) c = GiveOne n refl refl
        alike (Node at t (Unary unary.Not a)) c = alike_bind (run a >>= tested (place_of a)) _ (alike_tested (run a) (place_of a) (alike a c)) (λ z e. GiveOne _ refl refl)
        alike (Node at t (Unary unary.Plus a)) c = alike_bind (run a) _ (alike a c) (λ z e. alike_defined at (operate_one t unary.Plus z))
        alike (Node at t (Unary unary.Minus a)) c = alike_bind (run a) _ (alike a c) (λ z e. alike_defined at (operate_one t unary.Minus z))
        alike (Node at t (Unary unary.Flip a)) c = alike_bind (run a) _ (alike a c) (λ z e. alike_defined at (operate_one t unary.Flip z))
        alike (Node at t (Unary unary.Deref a)) c = absurd cc
        alike (Node at t (Unary unary.Address a)) c = absurd cc
        alike (Node at t (Binary op a b)) c = alike_bind (run a) _ (alike a (and_first _ _ c)) (λ x e. alike_bind (run b) _ (alike b (and_second _ _ c)) (λ y d. alike_defined at (operate t op x y)))
        alike (Node at t (Both a b)) c =
            alike_both (run a) (run b) (place_of a) (place_of b) (alike a (and_first _ _ c)) (λ e. alike b (subst (λ v. is_constant T v b ≡ true) e (and_second _ _ c)))
        alike (Node at t (Either a b)) c =
            alike_either (run a) (run b) (place_of a) (place_of b) (alike a (and_first _ _ c)) (λ e. alike b (subst (λ v. is_constant T v b ≡ true) e (and_second _ _ c)))
        alike (Node at t (Choice a b d)) c =
            alike_choice (run a) (run b) (place_of a) (place_of b) (alike a (and_first _ _ (and_first _ _ c))) (run d)
            (λ e. alike b (subst (λ v. is_constant T v b ≡ true) e (and_second _ _ (and_first _ _ c))))
            (λ e. alike d (subst (λ v. is_constant T v d ≡ true) e (and_second _ _ c)))
        alike (Node at t (Cast to a)) c = cast_alike to a (and_second _ _ c) (and_first _ _ c) (alike a (and_second _ _ c)) (is_array (type_of a))
        alike (Node at t (SizeOfType u)) c = GiveOne _ refl refl
        alike (Node at t (SizeOfExpr a)) c = GiveOne _ refl refl
        alike (Node at t (Text n)) c = absurd cc
        alike (Node at t (Variable x)) c = absurd cc
        alike (Node at t (Assign op a b)) c = absurd cc
        alike (Node at t (Bump op a)) c = absurd cc
        alike (Node at t (Call f es)) c = absurd cc
        alike (Node at t (Index a b)) c = absurd cc
        alike (Node at t (Dot a m)) c = absurd cc
        alike (Node at t (Arrow a m)) c = absurd cc
        alike (Node at t (Comma a b)) c = absurd cc

        given_here : (o p : Outcome Value) (z : ℤ) → Alike o p → integer_at p ≡ Some z → o ≡ Normal (Integer z) S
        given_here o p z (GiveOne y e f) h =
            let d : ◌≡◌ {A = Option ℤ} (Some y) (Some z) = sym (ap integer_at f) ∙ h in e ∙ ap (λ x. Normal (Integer x) S) (let g : y ≡ z = cc in g)
        given_here o p z (AreStopped x f e g) h =
            let d : ◌≡◌ {A = Option ℤ} None (Some z) = sym (ap integer_at g) ∙ h in absurd cc

    -- the value of a constant from this state
    pub constant_here : (s : Sight) (e : Expression) (z : ℤ) → constant s e ≡ Some z → (is_constant (tables_in s) true e ≡ true) × (eval_with (tables_in s) e no_callee S ≡ Normal (Integer z) S)
    constant_here s e z h = by (is_constant (tables_in s) true e) refl (is_there (integer_type (type_of e))) h
      where
        by : (b : Bool) → is_constant (tables_in s) true e ≡ b → (d : Bool) → cond (b && d) (integer_value (tables_in s) e) None ≡ Some z
            → (is_constant (tables_in s) true e ≡ true) × (eval_with (tables_in s) e no_callee S ≡ Normal (Integer z) S)
        by true c true h = (c, given_here (tables_in s) (eval_with (tables_in s) e no_callee S) (eval_with (tables_in s) e no_callee nowhere) z (alike (tables_in s) e c) h)
        by true c false h = absurd cc
        by false c d h = absurd cc
