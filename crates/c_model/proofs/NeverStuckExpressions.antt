-- Typed expressions and initialisers end in no fault, where calls end in none.
use Rattle.std.proofs.Common.{◌≡◌, ℕ, pos, List, [], ◌∷◌, Option, Some, None, sym, ap, ◌∙◌, subst}
use Rattle.c_syntax.specs.declared.place.Place.{Place}
use Rattle.c_syntax.specs.declared.expression.Use.{Use}
use Rattle.c_syntax.specs.declared.expression.UnOp.{UnOp}
use Rattle.c_syntax.specs.declared.expression.UnOp.TheVariants as unary
use Rattle.c_syntax.specs.declared.expression.BinOp.TheVariants as operator
use Rattle.c_syntax.specs.declared.types.CInt.TheVariants.{I32, U64}
use Rattle.c_syntax.specs.Ctypes.{PlainType, int_type}
use Rattle.c_syntax.specs.Expressions.{Expression, Node, Number, Letter, Variable, Unary, Binary, Both, Either, Choice, Assign, Bump, Call}
use Rattle.c_syntax.specs.Expressions.{Cast, SizeOfType, SizeOfExpr, Text, Index, Dot, Arrow, Comma, Expressions, NoExpression, Following, place_of, type_of}
use Rattle.c_syntax.specs.Statements.{Initialiser, One, Many, Initialisers, NoInitialiser, Listed, Declaration}
use Rattle.c_syntax.specs.Programs.{StructType, TranslationUnit}
use Rattle.c_syntax.specs.Layouts.{Scalar, scalars_of, size_of, offset_of, target_of}
use Rattle.c_model.specs.Integers.{truth}
use Rattle.c_model.specs.Conversions.{promoted}
use Rattle.c_model.specs.Memory.{Pointer, Value, Integer, NoValue, Byte, shifted}
use Rattle.c_model.specs.State.{Leave, Undefined, ◌>>=◌, give, defined, find, tested, computed}
use Rattle.c_model.specs.Meaning.{Callee, Tables, operate_value, bump_operator, bump_value, is_zero, truth_value, size_value, eval_with, place_with, evals_with, unit_of, indexed}
use Rattle.c_model.specs.Meaning.{zero_scalars, zero_parts, string_in, padded, write_each, text_at, fill_one, parts_or_itself}
use Rattle.c_model.specs.Meaning.{fill, fill_parts, initialise, initialise_all, condition_with, effect_with, condition_of}
use Rattle.c_model.specs.ExpressionTyping.{Sight, with_object, tables_in}
use Rattle.c_model.specs.TypedTrees.{WhereAny, IsPromoted, WellTyped, AreWellTyped, Calls, IsCondition, InitialisedBy, ByText, ByValue, Initialises, PartsInitialised, IsDeclared, AreDeclared}
use Rattle.c_model.specs.FileItems.{AreDefined}
use Rattle.c_model.proofs.NeverStuckRuns.{Anything, NoJump, IsValueOf, Gives, gives_bind, gives_then, gives_give, gives_over, gives_no_jump, gives_values}
use Rattle.c_model.proofs.NeverStuckRuns.{gives_object, gives_computed, gives_tested, gives_changed, gives_write, gives_written, gives_defined, gives_choose, anything}
use Rattle.c_model.proofs.NeverStuckValues.{number_in, address_in, address_by, number_of_one, value_of_two, value_of_compound, scalar_of_compound, value_of_bump, gives_read_any}
use Rattle.c_model.proofs.NeverStuckValues.{gives_read, gives_scalar, gives_pointed, gives_assigned, named_well, gives_address, gives_cast}

-- ---- what is in sight

-- names and structs of the program, and functions that it defines
pub record Sees (p : TranslationUnit) (s : Sight) : Type 0 where
  pub names : s.names ≡ p.names
  pub structs : s.structs ≡ p.structs
  pub defined : AreDefined p s.functions

-- each typed call there gives a value of its type
abbrev pub CallsGive : TranslationUnit → Callee → Type 0
CallsGive p call = (s : Sight) → Sees p s → (f : Use) (t : PlainType) (es : Expressions) → Calls s f t es → (at : Place) (vs : List Value) → Gives (IsValueOf t) NoJump (call at f vs)

pub sees_object : (p : TranslationUnit) (d : Declaration) (s : Sight) → Sees p s → Sees p (with_object s d)
sees_object p d s see = record { names = see.names; structs = see.structs; defined = see.defined }

-- ---- bytes of objects

gives_zero_scalars : {L : Leave → Type 0} (at : Place) (q : Pointer) (cs : List (ℕ × Scalar)) → Gives Anything L (zero_scalars at q cs)
gives_zero_scalars at q [] = gives_give tt tt
gives_zero_scalars at q (c ∷ cs) = gives_then _ _ (gives_changed at _) (gives_zero_scalars at q cs)

gives_zero_parts : {L : Leave → Type 0} (structs : List StructType) (at : Place) (q : Pointer) (cs : List (ℕ × PlainType)) → Gives Anything L (zero_parts structs at q cs)
gives_zero_parts structs at q [] = gives_give tt tt
gives_zero_parts structs at q (c ∷ cs) = gives_then _ _ (gives_zero_scalars at (shifted q c.0) (scalars_of structs c.1)) (gives_zero_parts structs at q cs)

gives_write_each : {L : Leave → Type 0} (at : Place) (q : Pointer) (bytes : List Byte) → Gives Anything L (write_each at q bytes)
gives_write_each at q [] = gives_give tt tt
gives_write_each at q (b ∷ bytes) = gives_then _ _ (gives_changed at _) (gives_write_each at (shifted q 1) bytes)

-- parts depend on structs alone
abbrev parts_among : List StructType → PlainType → List (ℕ × PlainType)
parts_among structs t = parts_or_itself (record { structs = structs; texts = []; literals = [] }) t

parts_same : (t : PlainType) (a b : List StructType) → a ≡ b → parts_among a t ≡ parts_among b t
parts_same t a b e = ap (λ l. parts_among l t) e

-- ---- expressions

module _ (p : TranslationUnit) (T : Tables) (structs : T.structs ≡ p.structs) (call : Callee) (calls : CallsGive p call) where
  gives_tested_of : {P : Value → Type 0} (e : Expression) → Gives P NoJump (eval_with T e call) → Gives Anything NoJump (eval_with T e call >>= tested (place_of e))
  gives_tested_of e g = gives_bind _ _ g (λ x _. gives_tested (place_of e) x)

  gives_truth : {P : Value → Type 0} (t : PlainType) (e : Expression) → t ≡ int_type → Gives P NoJump (eval_with T e call) → Gives (IsValueOf t) NoJump ((eval_with T e call >>= tested (place_of e)) >>= λ y. give (truth_value y))
  gives_truth t e i g = gives_bind _ _ (gives_tested_of e g) (λ y _. gives_give (truth_value y) (number_in t I32 (truth_value y) i tt))

  gives_one : (at : Place) (t : PlainType) (op : UnOp) (u : PlainType) → IsPromoted u → t ≡ u → (x : Value) → Gives (IsValueOf t) NoJump (defined at (operate_value t op x))
  gives_one at t op u i e x =
      gives_values (IsValueOf t) (defined at (operate_value t op x)) (gives_defined at (operate_value t op x) (number_of_one t op x)) (λ v h. number_in t (promoted i.int) v (e ∙ i.is) h)

  gives_indexed : {L : Leave → Type 0} (at : Place) (a b : Expression) (x y : Value) → Gives Anything L (computed at (λ store. indexed (unit_of T.structs (type_of a) (type_of b)) store x y))
  gives_indexed at a b x y = gives_computed at _ (λ store. anything (indexed (unit_of T.structs (type_of a) (type_of b)) store x y))

  mutual
    gives_eval : (s : Sight) → Sees p s → (e : Expression) → WellTyped s e → Gives (IsValueOf (type_of e)) NoJump (eval_with T e call)
    gives_eval s see (Node at t (Number n None)) w = absurd w
    gives_eval s see (Node at t (Number n (Some k))) w = gives_give (Integer n) (number_in t k (Integer n) w.0 tt)
    gives_eval s see (Node at t (Letter n)) w = gives_give (Integer n) (number_in t I32 (Integer n) w tt)
    gives_eval s see (Node at t (Text n)) w = gives_give NoValue (subst (λ u. IsValueOf u NoValue) (sym w.ctype) tt)
    gives_eval s see (Node at t (Variable x)) w = record { at = λ state. named_well NoJump at t x (find x.decl state.scope) state }
    gives_eval s see (Node at t (Unary unary.Not a)) w =
        gives_bind _ _ (gives_tested_of a (gives_eval s see a w.0)) (λ x _. gives_give (Integer (truth (is_zero x))) (number_in t I32 (Integer (truth (is_zero x))) w.2 tt))
    gives_eval s see (Node at t (Unary unary.Plus a)) w = gives_bind _ _ (gives_eval s see a w.0) (λ x _. gives_one at t unary.Plus (type_of a) w.1 w.2 x)
    gives_eval s see (Node at t (Unary unary.Minus a)) w = gives_bind _ _ (gives_eval s see a w.0) (λ x _. gives_one at t unary.Minus (type_of a) w.1 w.2 x)
    gives_eval s see (Node at t (Unary unary.Flip a)) w = gives_bind _ _ (gives_eval s see a w.0) (λ x _. gives_one at t unary.Flip (type_of a) w.1 w.2 x)
    gives_eval s see (Node at t (Unary unary.Deref a)) w =
        gives_bind _ _ (gives_bind _ _ (gives_eval s see a w.0) (λ x h. gives_pointed x (address_by (type_of a) t x w.1 h))) (λ q _. gives_read_any at q t)
    gives_eval s see (Node at t (Unary unary.Address a)) w =
        gives_bind _ _ (gives_place s see a w.0) (λ q _. gives_values (IsValueOf t) _ (gives_address a q) (λ v h. address_in t (type_of a) v w.2 h))
    gives_eval s see (Node at t (Binary op a b)) w =
        gives_bind _ _ (gives_eval s see a w.0) (λ x h. gives_bind _ _ (gives_eval s see b w.1) (λ y g. gives_computed at _ (λ store.
        value_of_two s (unit_of T.structs (type_of a) (type_of b)) op t (type_of a) (type_of b) store x y w.2 h g)))
    gives_eval s see (Node at t (Both a b)) w =
        gives_bind _ _ (gives_tested_of a (gives_eval s see a w.0)) (λ x _. gives_choose x _ _ (gives_truth t b w.4 (gives_eval s see b w.1)) (gives_give (Integer (pos 0)) (number_in t I32 (Integer (pos 0)) w.4 tt)))
    gives_eval s see (Node at t (Either a b)) w =
        gives_bind _ _ (gives_tested_of a (gives_eval s see a w.0)) (λ x _. gives_choose x _ _ (gives_give (Integer (pos 1)) (number_in t I32 (Integer (pos 1)) w.4 tt)) (gives_truth t b w.4 (gives_eval s see b w.1)))
    gives_eval s see (Node at t (Choice a b c)) w =
        gives_bind _ _ (gives_tested_of a (gives_eval s see a w.0)) (λ x _. gives_choose x _ _
        (subst (λ u. Gives (IsValueOf u) NoJump (eval_with T b call)) w.4 (gives_eval s see b w.1)) (subst (λ u. Gives (IsValueOf u) NoJump (eval_with T c call)) w.5 (gives_eval s see c w.2)))
    gives_eval s see (Node at t (Assign None a b)) w =
        gives_bind _ _ (gives_place s see a w.0) (λ q _. gives_assigned T.structs at t q _ _ (subst (λ u. Gives (IsValueOf u) NoJump (eval_with T b call)) w.4 (gives_eval s see b w.1)) (gives_place s see b w.1))
    gives_eval s see (Node at t (Assign (Some op) a b)) w =
        gives_bind _ _ (gives_place s see a w.0) (λ q _. gives_scalar t _ (scalar_of_compound s op t (type_of b) w.4) (λ k e. gives_bind _ _ (gives_read at q t k e) (λ x h. gives_bind _ _ (gives_eval s see b w.1) (λ y g.
        gives_bind {P = IsValueOf t} _ _ (gives_computed at _ (λ store. value_of_compound s T.structs op op t (type_of b) store x y w.4 h g)) (λ v i. gives_written at q k v v i)))))
    gives_eval s see (Node at t (Bump op a)) w =
        gives_bind _ _ (gives_place s see a w.0) (λ q _. gives_scalar t _ (scalar_of_compound s operator.Add t int_type w.3) (λ k e. gives_bind _ _ (gives_read at q t k e) (λ x h.
        gives_bind {P = IsValueOf t} _ _ (gives_computed at _ (λ store. value_of_compound s T.structs operator.Add (bump_operator op) t int_type store x (Integer (pos 1)) w.3 h tt)) (λ v i.
        gives_written at q k v (bump_value op x v) (value_of_bump t op x v h i)))))
    gives_eval s see (Node at t (Call f args)) w = gives_bind _ _ (gives_evals s see args w.0) (λ vs _. calls s see f t args w.1 at vs)
    gives_eval s see (Node at t (Cast to a)) w =
        subst (λ u. Gives (IsValueOf u) NoJump (eval_with T (Node at t (Cast to a)) call)) (sym w.1)
        (gives_cast s to a _ _ w.2 (gives_bind _ _ (gives_place s see a w.0) (λ q _. gives_address a q)) (gives_eval s see a w.0))
    gives_eval s see (Node at t (SizeOfType u)) w = gives_give (size_value T u) (number_in t U64 (size_value T u) w.1 tt)
    gives_eval s see (Node at t (SizeOfExpr a)) w = gives_give (size_value T (type_of a)) (number_in t U64 (size_value T (type_of a)) w.2 tt)
    gives_eval s see (Node at t (Index a b)) w =
        gives_bind _ _ (gives_eval s see a w.0) (λ x _. gives_bind _ _ (gives_eval s see b w.1) (λ y _. gives_bind {P = Anything} _ _ (gives_indexed at a b x y) (λ q _. gives_read_any at q t)))
    gives_eval s see (Node at t (Dot a m)) w = gives_bind _ _ (gives_place s see a w.0) (λ q _. gives_read_any at (shifted q (offset_of T.structs (type_of a) m)) t)
    gives_eval s see (Node at t (Arrow a m)) w =
        gives_bind _ _ (gives_eval s see a w.0) (λ x h. gives_bind _ _ (gives_pointed x (address_by (type_of a) w.1.target x w.1.is h)) (λ q _.
        gives_read_any at (shifted q (offset_of T.structs (target_of (type_of a)) m)) t))
    gives_eval s see (Node at t (Comma a b)) w = gives_then _ _ (gives_eval s see a w.0) (subst (λ u. Gives (IsValueOf u) NoJump (eval_with T b call)) w.2 (gives_eval s see b w.1))

    -- where an expression designates an object
    gives_place : (s : Sight) → Sees p s → (e : Expression) → WellTyped s e → Gives Anything NoJump (place_with T e call)
    gives_place s see (Node at t (Variable x)) w = gives_object at x.decl
    gives_place s see (Node at t (Text n)) w = gives_give _ tt
    gives_place s see (Node at t (Unary unary.Deref a)) w = gives_bind _ _ (gives_eval s see a w.0) (λ x h. gives_pointed x (address_by (type_of a) t x w.1 h))
    gives_place s see (Node at t (Index a b)) w = gives_bind _ _ (gives_eval s see a w.0) (λ x _. gives_bind _ _ (gives_eval s see b w.1) (λ y _. gives_indexed at a b x y))
    gives_place s see (Node at t (Dot a m)) w = gives_bind _ _ (gives_place s see a w.0) (λ q _. gives_give (shifted q (offset_of T.structs (type_of a) m)) tt)
    gives_place s see (Node at t (Arrow a m)) w =
        gives_bind _ _ (gives_eval s see a w.0) (λ x h. gives_bind _ _ (gives_pointed x (address_by (type_of a) w.1.target x w.1.is h)) (λ q _. gives_give (shifted q (offset_of T.structs (target_of (type_of a)) m)) tt))
    gives_place s see (Node at t (Assign None a b)) w =
        gives_bind _ _ (gives_place s see a w.0) (λ q _. gives_then _ _ (gives_assigned T.structs at t q _ _ (subst (λ u. Gives (IsValueOf u) NoJump (eval_with T b call)) w.4 (gives_eval s see b w.1)) (gives_place s see b w.1))
        (gives_give q tt))
    gives_place s see (Node at t (Comma a b)) w = gives_then _ _ (gives_eval s see a w.0) (gives_place s see b w.1)
    gives_place s see (Node at t (Assign (Some op) a b)) w = gives_over (Undefined at)
    gives_place s see (Node at t (Number n k)) w = gives_over (Undefined at)
    gives_place s see (Node at t (Letter n)) w = gives_over (Undefined at)
    gives_place s see (Node at t (Unary unary.Not a)) w = gives_over (Undefined at)
    gives_place s see (Node at t (Unary unary.Plus a)) w = gives_over (Undefined at)
    gives_place s see (Node at t (Unary unary.Minus a)) w = gives_over (Undefined at)
    gives_place s see (Node at t (Unary unary.Flip a)) w = gives_over (Undefined at)
    gives_place s see (Node at t (Unary unary.Address a)) w = gives_over (Undefined at)
    gives_place s see (Node at t (Binary op a b)) w = gives_over (Undefined at)
    gives_place s see (Node at t (Both a b)) w = gives_over (Undefined at)
    gives_place s see (Node at t (Either a b)) w = gives_over (Undefined at)
    gives_place s see (Node at t (Choice a b c)) w = gives_over (Undefined at)
    gives_place s see (Node at t (Bump op a)) w = gives_over (Undefined at)
    gives_place s see (Node at t (Call f args)) w = gives_over (Undefined at)
    gives_place s see (Node at t (Cast to a)) w = gives_over (Undefined at)
    gives_place s see (Node at t (SizeOfType u)) w = gives_over (Undefined at)
    gives_place s see (Node at t (SizeOfExpr a)) w = gives_over (Undefined at)

    gives_evals : (s : Sight) → Sees p s → (es : Expressions) → AreWellTyped s es → Gives Anything NoJump (evals_with T es call)
    gives_evals s see NoExpression w = gives_give [] tt
    gives_evals s see (Following e es) w =
        gives_bind _ _ (gives_eval s see e w.0) (λ v _. gives_bind _ _ (gives_evals s see es w.1) (λ vs _. gives_give (v ∷ vs) tt))

  -- an expression in a statement
  pub gives_value : {L : Leave → Type 0} (s : Sight) → Sees p s → (e : Expression) → WellTyped s e → Gives (IsValueOf (type_of e)) L (eval_with T e call)
  gives_value s see e w = gives_no_jump _ (gives_eval s see e w)

  pub gives_condition_of : {L : Leave → Type 0} (s : Sight) → Sees p s → (e : Expression) → IsCondition s e → Gives Anything L (condition_of T e call)
  gives_condition_of s see e w = gives_no_jump _ (gives_tested_of e (gives_eval s see e w.typed))

  pub gives_condition : {L : Leave → Type 0} (s : Sight) → Sees p s → (e : Option Expression) → WhereAny (IsCondition s) e → Gives Anything L (condition_with T e call)
  gives_condition s see None w = gives_give (Integer (pos 1)) tt
  gives_condition s see (Some e) w = gives_condition_of s see e w

  pub gives_effect : {L : Leave → Type 0} (s : Sight) → Sees p s → (e : Option Expression) → WhereAny (WellTyped s) e → Gives Anything L (effect_with T e call)
  gives_effect s see None w = gives_give tt tt
  gives_effect s see (Some e) w = gives_then _ _ (gives_value s see e w) (gives_give tt tt)

  -- ---- initialisers

  gives_fill_one : {L : Leave → Type 0} (s : Sight) → Sees p s → (at : Place) (t : PlainType) (q : Pointer) (e : Expression) → InitialisedBy s t e → Gives Anything L (fill_one T at t q (string_in e) (eval_with T e call))
  gives_fill_one {L = L} s see at t q e (ByText f) =
      subst (λ (x : Expression). Gives Anything L (fill_one T at t q (string_in x) (eval_with T e call))) (sym f.is) (gives_write_each at q (padded (size_of T.structs t) (text_at T.texts f.text)))
  gives_fill_one {L = L} s see at t q e (ByValue v none) =
      subst (λ n. Gives Anything L (fill_one T at t q n (eval_with T e call))) (sym none)
      (gives_bind _ _ (gives_value s see e v.typed) (λ x _. gives_scalar t _ v.scalar (λ k _. gives_write at q k x)))

  mutual
    gives_fill : {L : Leave → Type 0} (s : Sight) → Sees p s → (at : Place) (t : PlainType) (q : Pointer) (i : Initialiser) → Initialises s t i → Gives Anything L (fill T at t q i call)
    gives_fill s see at t q (One e) w = gives_fill_one s see at t q e w
    gives_fill {L = L} s see at t q (Many brace is) w =
        subst (λ cs. Gives Anything L (fill_parts T at cs q is call)) (parts_same t s.structs T.structs (see.structs ∙ sym structs)) (gives_fill_parts s see at (parts_or_itself (tables_in s) t) q is w)

    gives_fill_parts : {L : Leave → Type 0} (s : Sight) → Sees p s → (at : Place) (cs : List (ℕ × PlainType)) (q : Pointer) (is : Initialisers) → PartsInitialised s cs is → Gives Anything L (fill_parts T at cs q is call)
    gives_fill_parts s see at cs q NoInitialiser w = gives_zero_parts T.structs at q cs
    gives_fill_parts s see at [] q (Listed i is) w = absurd w
    gives_fill_parts s see at (c ∷ cs) q (Listed i is) w = gives_then _ _ (gives_fill s see at c.1 (shifted q c.0) i w.0) (gives_fill_parts s see at cs q is w.1)

  gives_initialise : {L : Leave → Type 0} (s : Sight) → Sees p s → (d : Declaration) (i : Option (Place × Initialiser)) → WhereAny (λ (i : Place × Initialiser). Initialises s d.ctype i.1) i → Gives Anything L (initialise T d i call)
  gives_initialise s see d None w = gives_give tt tt
  gives_initialise s see d (Some (at, i)) w = gives_bind _ _ (gives_object at d.place.offset) (λ q _. gives_fill s see at d.ctype q i w)

  pub gives_declared : {L : Leave → Type 0} (s : Sight) → Sees p s → (d : Declaration) → IsDeclared s d → Gives Anything L (initialise T d d.init call)
  gives_declared s see d w = gives_initialise (with_object s d) (sees_object p d s see) d d.init w.init

  pub gives_initialise_all : {L : Leave → Type 0} (s : Sight) → Sees p s → (ds : List Declaration) → AreDeclared s ds → Gives Anything L (initialise_all T ds call)
  gives_initialise_all s see [] w = gives_give tt tt
  gives_initialise_all s see (d ∷ ds) w = gives_then _ _ (gives_declared s see d w.0) (gives_initialise_all (with_object s d) (sees_object p d s see) ds w.1)
