-- What expressions give in sound states are values of their types.
use Rattle.std.proofs.Common.{◌≡◌, pos, negsuc, ℤ, Bool, true, false, cond, List, Option, Some, None, refl, sym, ap, ◌∙◌, subst, arith}
use Rattle.std.proofs.lemmas.Bool.{lt-ltb, leb-true}
use Rattle.std.proofs.lemmas.Int.{ints}
use Rattle.c_syntax.specs.declared.place.Place.{Place}
use Rattle.c_syntax.specs.declared.expression.Use.{Use}
use Rattle.c_syntax.specs.declared.expression.UnOp.{UnOp}
use Rattle.c_syntax.specs.declared.expression.UnOp.TheVariants as unary
use Rattle.c_syntax.specs.declared.expression.BinOp.TheVariants as operator
use Rattle.c_syntax.specs.declared.types.CInt.TheVariants.{I32, U64}
use Rattle.c_syntax.specs.Ctypes.{PlainType, Void, Int, Ptr, int_type}
use Rattle.c_syntax.specs.Expressions.{Expression, Node, Number, Letter, Text, Variable, Unary, Binary, Both, Either, Choice, Assign, Bump, Call, Cast}
use Rattle.c_syntax.specs.Expressions.{SizeOfType, SizeOfExpr, Index, Dot, Arrow, Comma, Expressions, place_of, type_of}
use Rattle.c_syntax.specs.Layouts.{Scalar, scalar_of, size_of, target_of, offset_of}
use Rattle.c_syntax.specs.Programs.{TranslationUnit}
use Rattle.c_model.specs.Conversions.{promoted}
use Rattle.c_model.specs.ExpressionTyping.{Sight}
use Rattle.c_model.specs.Integers.{fits, truth, operate_one}
use Rattle.c_model.specs.Memory.{Pointer, Value, Integer, NoValue, shifted}
use Rattle.c_model.specs.Meaning.{Tables, Callee, tables_of, eval_with, place_with, evals_with, is_zero, is_array, truth_value, size_value, converted, operate_value, operate_values}
use Rattle.c_model.specs.Meaning.{unit_of, indexed, address, pointed_to, assigned, compound, bump_operator, bump_value}
use Rattle.c_model.specs.SoundStates.{IsSoundState, AreDirect, After, Any, Placed, AllPlaced, CallsKeepSound}
use Rattle.c_model.specs.State.{State, Outcome, Evaluation, ◌>>=◌, ◌>>◌, on_outcome, find, read_any, give, defined, computed, as_scalar, tested, read, write}
use Rattle.c_model.specs.TypedTrees.{WellTyped, IsPromoted, Calls, CastTypes, ToVoid, OfInteger, OfPointer, OfNullConstant, OfArray, HasKnownSize}
use Rattle.c_model.proofs.NeverStuckExpressions.{Sees}
use Rattle.c_model.proofs.NeverStuckRuns.{NoJump}
use Rattle.c_model.proofs.NeverStuckValues.{gives_address}
use Rattle.c_model.proofs.SoundRuns.{after_bind, after_read, after_write, after_any, after_defined, after_tested, after_pointed, compound_placed, sound_eval, sound_place, sound_evals, PlaceOf, PlacedAt}
use Rattle.c_model.proofs.SoundStores.{value_onward}
use Rattle.c_model.specs.LetterValues.{IsCharacter, LettersFit}
use Rattle.c_model.proofs.FittingValues.{FitsIn, fits_as, no_scalar_fits, Ends, well_ends, defined_ends, on_after, on_ends, cond_ends, some_ends, truth_fits, one_fits, plus_fits, minus_fits}
use Rattle.c_model.proofs.FittingValues.{flip_fits, pair_fits, number_fits, address_fits, null_fits, compound_fits, bump_fits, read_fits, read_scalar_fits, named_fits}

-- typed calls that begin in sound states give values of their types
abbrev pub CallsFit : TranslationUnit → Callee → Type 0
CallsFit p call = (sight : Sight) → Sees p sight → (f : Use) (t : PlainType) (es : Expressions) → Calls sight f t es → (at : Place) (vs : List Value) (s : State) → IsSoundState p s → AllPlaced vs s
    → Ends (FitsIn t) (call at f vs s)

letter_fits : (z : ℤ) → IsCharacter z → fits I32 z ≡ true
letter_fits (pos n) l = lt-ltb _ _ (omega (arith, ints, l.high))
letter_fits (negsuc n) l = lt-ltb _ _ (omega (arith, ints, l.low))

ends_as : (t u : PlainType) (o : Outcome Value) → t ≡ u → Ends (FitsIn u) o → Ends (FitsIn t) o
ends_as t u o e h = subst (λ r. Ends (FitsIn r) o) (sym e) h

address_in : (t u : PlainType) (e : Expression) (q : Pointer) (s : State) → t ≡ Ptr u → Ends (FitsIn t) (address e q s)
address_in t u e q s is = ends_as t (Ptr u) (address e q s) is (well_ends (FitsIn (Ptr u)) (address e q s) ((gives_address {L = NoJump} e q).at s))

in_void : (t : PlainType) (o : Outcome Value) → t ≡ Void → Ends (FitsIn t) o
in_void t o e = ends_as t Void o e (some_ends (FitsIn Void) o (λ v. tt))

module _ (p : TranslationUnit) (call : Callee) (c : CallsKeepSound p call) (fit : CallsFit p call) where
  abbrev T : Tables
  T = tables_of p

  in_int : (t : PlainType) (v : Value) → t ≡ int_type → FitsIn int_type v → FitsIn t v
  in_int t v e h = fits_as t int_type v e h

  -- whether a second condition isn't 0
  truth_ends : (t : PlainType) (b : Expression) (s : State) → t ≡ int_type → After p Any s ((eval_with T b call >>= tested (place_of b)) s)
      → Ends (FitsIn t) (((eval_with T b call >>= tested (place_of b)) >>= λ y. give (truth_value y)) s)
  truth_ends t b s e h = on_after Any (FitsIn t) s _ (λ y. give (truth_value y)) h (λ y u stay su g. in_int t (truth_value y) e (truth_fits _))

  one_ends : (at : Place) (t u : PlainType) (op : UnOp) (x : Value) (s : State) → ((k : _) (x w : ℤ) → fits k x ≡ true → operate_one (Int k) op x ≡ Some w → fits k w ≡ true) → IsPromoted u → t ≡ u → FitsIn u x
      → Ends (FitsIn t) (defined at (operate_value t op x) s)
  one_ends at t u op x s f i e h =
      let is = e ∙ i.is in
      subst (λ r. Ends (FitsIn r) (defined at (operate_value r op x) s)) (sym is)
      (defined_ends (FitsIn (Int (promoted i.int))) at (operate_value (Int (promoted i.int)) op x) s (one_fits (promoted i.int) op x (f (promoted i.int)) (subst (λ r. FitsIn r x) i.is h)))

  -- a value behind its write
  written : (t : PlainType) (at : Place) (q : Pointer) (k : Scalar) (v w : Value) (s : State) → IsSoundState p s → Placed v s → FitsIn t w → Ends (FitsIn t) ((write at q k v >> give w) s)
  written t at q k v w s st pl h = on_after Any (FitsIn t) s (write at q k v s) (λ _. give w) (after_write s at q k v st pl) (λ a u stay su g. h)

  assigned_ends : (t : PlainType) (at : Place) (o : Option Scalar) (q : Pointer) (b : Expression) (s : State) → scalar_of t ≡ o → IsSoundState p s → After p Placed s (eval_with T b call s) → Ends (FitsIn t) (eval_with T b call s)
      → Ends (FitsIn t) (assigned T.structs at t o q (eval_with T b call) (place_with T b call) s)
  assigned_ends t at (Some k) q b s e st h g = on_ends Placed (FitsIn t) (FitsIn t) s (eval_with T b call s) (λ x. write at q k x >> give x) h g (λ x u stay su pl f. written t at q k x x u su pl f)
  assigned_ends t at None q b s e st h g = some_ends (FitsIn t) _ (λ v. no_scalar_fits t v e)

  scalar_ends : (t : PlainType) (go : Scalar → Evaluation Value) (s : State) → ((k : Scalar) → scalar_of t ≡ Some k → Ends (FitsIn t) (go k s)) → Ends (FitsIn t) (as_scalar (scalar_of t) go s)
  scalar_ends t go s h = by (scalar_of t) refl
    where
      by : (o : Option Scalar) → scalar_of t ≡ o → Ends (FitsIn t) (as_scalar o go s)
      by None e = tt
      by (Some k) e = h k e

  abbrev cast_of : PlainType → Expression → Bool → Evaluation Value
  cast_of to a b = cond b (place_with T a call >>= address a) (eval_with T a call >>= λ x. give (converted to x))

  cast_value : (t to : PlainType) (a : Expression) (s : State) → t ≡ to → is_array (type_of a) ≡ false → ((x : Value) → FitsIn (type_of a) x → FitsIn to (converted to x)) → After p Placed s (eval_with T a call s)
      → Ends (FitsIn (type_of a)) (eval_with T a call s) → Ends (FitsIn t) (cast_of to a (is_array (type_of a)) s)
  cast_value t to a s is e f g h =
      subst (λ b. Ends (FitsIn t) (cast_of to a b s)) (sym e)
      (on_ends Placed (FitsIn (type_of a)) (FitsIn t) s (eval_with T a call s) (λ x. give (converted to x)) g h (λ x u stay su pl k. fits_as t to (converted to x) is (f x k)))

  cast_ends : (sight : Sight) (t to : PlainType) (a : Expression) (s : State) → t ≡ to → CastTypes sight to a → After p (PlaceOf a) s (place_with T a call s) → After p Placed s (eval_with T a call s)
      → Ends (FitsIn (type_of a)) (eval_with T a call s) → Ends (FitsIn t) (cast_of to a (is_array (type_of a)) s)
  cast_ends sight t to a s is (ToVoid e) h g f = in_void t _ (is ∙ e)
  cast_ends sight t to a s is (OfArray u n e ar object) h g f =
      subst (λ b. Ends (FitsIn t) (cast_of to a b s)) (sym (ap is_array ar)) (on_after (PlaceOf a) (FitsIn t) s (place_with T a call s) (address a) h (λ q w stay sw k. address_in t u a q w (is ∙ e)))
  cast_ends sight t to a s is (OfInteger i j) h g f =
      cast_value t to a s is (ap is_array j.is) (λ x k. subst (λ r. FitsIn r (converted r x)) (sym i.is) (number_fits i.int j.int x (subst (λ r. FitsIn r x) j.is k))) g f
  cast_ends sight t to a s is (OfPointer i j) h g f =
      cast_value t to a s is (ap is_array j.is) (λ x k. subst (λ r. FitsIn r (converted r x)) (sym i.is) (address_fits i.target j.target x (subst (λ r. FitsIn r x) j.is k))) g f
  cast_ends sight t to a s is (OfNullConstant i j zero) h g f =
      cast_value t to a s is (ap is_array j.is) (λ x k. subst (λ r. FitsIn r (converted r x)) (sym i.is) (null_fits i.target j.int x (subst (λ r. FitsIn r x) j.is k))) g f

  size_fits : (sight : Sight) (u : PlainType) → Sees p sight → HasKnownSize sight u → fits U64 (pos (size_of T.structs u)) ≡ true
  size_fits sight u see h =
      let few = leb-true _ _ h.small in
      let same : size_of sight.structs u ≡ size_of T.structs u = ap (λ l. size_of l u) see.structs in
      lt-ltb _ _ (omega (arith, few, same))

  pub fit_eval : (sight : Sight) → Sees p sight → (e : Expression) → WellTyped sight e → LettersFit e → AreDirect e → (s : State) → IsSoundState p s → Ends (FitsIn (type_of e)) (eval_with T e call s)
  fit_eval sight see (Node at t (Number n None)) w l d s st = absurd w
  fit_eval sight see (Node at t (Number n (Some k))) w l d s st = fits_as t (Int k) (Integer n) w.0 w.1
  fit_eval sight see (Node at t (Letter n)) w l d s st = in_int t (Integer n) w (letter_fits n l)
  fit_eval sight see (Node at t (Text n)) w l d s st = subst (λ r. FitsIn r NoValue) (sym w.ctype) tt
  fit_eval sight see (Node at t (Variable x)) w l d s st = named_fits at t x (find x.decl s.scope) s st
  fit_eval sight see (Node at t (Unary unary.Address a)) w l d s st =
      on_after (PlaceOf a) (FitsIn t) s (place_with T a call s) (address a) (sound_place call c a d.1 s st) (λ q u stay su k. address_in t (type_of a) a q u w.2)
  fit_eval sight see (Node at t (Unary unary.Deref a)) w l d s st =
      on_after PlacedAt (FitsIn t) s (on_outcome (eval_with T a call s) pointed_to) (λ q. read_any at q (scalar_of t))
      (after_bind Placed PlacedAt s (eval_with T a call s) pointed_to (sound_eval call c a d s st) (λ v u stay su g. after_pointed u v su g)) (λ q u stay su g. read_fits at q t u su)
  fit_eval sight see (Node at t (Unary unary.Not a)) w l d s st =
      on_after Any (FitsIn t) s _ (λ x. give (Integer (truth (is_zero x)))) (after_tested s (place_of a) (eval_with T a call s) (sound_eval call c a d s st))
      (λ x u stay su g. in_int t (Integer (truth (is_zero x))) w.2 (truth_fits (is_zero x)))
  fit_eval sight see (Node at t (Unary unary.Plus a)) w l d s st =
      on_ends Placed (FitsIn (type_of a)) (FitsIn t) s (eval_with T a call s) _ (sound_eval call c a d s st) (fit_eval sight see a w.0 l d s st)
      (λ x u stay su g k. one_ends at t (type_of a) unary.Plus x u plus_fits w.1 w.2 k)
  fit_eval sight see (Node at t (Unary unary.Minus a)) w l d s st =
      on_ends Placed (FitsIn (type_of a)) (FitsIn t) s (eval_with T a call s) _ (sound_eval call c a d s st) (fit_eval sight see a w.0 l d s st)
      (λ x u stay su g k. one_ends at t (type_of a) unary.Minus x u minus_fits w.1 w.2 k)
  fit_eval sight see (Node at t (Unary unary.Flip a)) w l d s st =
      on_ends Placed (FitsIn (type_of a)) (FitsIn t) s (eval_with T a call s) _ (sound_eval call c a d s st) (fit_eval sight see a w.0 l d s st)
      (λ x u stay su g k. one_ends at t (type_of a) unary.Flip x u flip_fits w.1 w.2 k)
  fit_eval sight see (Node at t (Binary op a b)) w l d s st =
      on_ends Placed (FitsIn (type_of a)) (FitsIn t) s (eval_with T a call s) _ (sound_eval call c a d.0 s st) (fit_eval sight see a w.0 l.0 d.0 s st) (λ x u stay su g k.
      on_ends Placed (FitsIn (type_of b)) (FitsIn t) u (eval_with T b call u) _ (sound_eval call c b d.1 u su) (fit_eval sight see b w.1 l.1 d.1 u su) (λ y v on sv f h.
      defined_ends (FitsIn t) at (operate_values (unit_of T.structs (type_of a) (type_of b)) t op v.store x y) v
      (pair_fits sight (unit_of T.structs (type_of a) (type_of b)) op t (type_of a) (type_of b) v.store x y sv.now.blocks (value_onward u.store v.store x on g) f w.2 k h)))
  fit_eval sight see (Node at t (Both a b)) w l d s st =
      on_after Any (FitsIn t) s _ _ (after_tested s (place_of a) (eval_with T a call s) (sound_eval call c a d.0 s st)) (λ x u stay su g.
      cond_ends (FitsIn t) (is_zero x) (give (Integer (pos 0))) _ u (in_int t (Integer (pos 0)) w.4 refl) (truth_ends t b u w.4 (after_tested u (place_of b) (eval_with T b call u) (sound_eval call c b d.1 u su))))
  fit_eval sight see (Node at t (Either a b)) w l d s st =
      on_after Any (FitsIn t) s _ _ (after_tested s (place_of a) (eval_with T a call s) (sound_eval call c a d.0 s st)) (λ x u stay su g.
      cond_ends (FitsIn t) (is_zero x) _ (give (Integer (pos 1))) u (truth_ends t b u w.4 (after_tested u (place_of b) (eval_with T b call u) (sound_eval call c b d.1 u su))) (in_int t (Integer (pos 1)) w.4 refl))
  fit_eval sight see (Node at t (Choice a b e)) w l d s st =
      on_after Any (FitsIn t) s _ _ (after_tested s (place_of a) (eval_with T a call s) (sound_eval call c a d.0 s st)) (λ x u stay su g.
      cond_ends (FitsIn t) (is_zero x) (eval_with T e call) (eval_with T b call) u
      (ends_as t (type_of e) (eval_with T e call u) (sym w.5) (fit_eval sight see e w.2 l.2 d.2 u su)) (ends_as t (type_of b) (eval_with T b call u) (sym w.4) (fit_eval sight see b w.1 l.1 d.1 u su)))
  fit_eval sight see (Node at t (Assign None a b)) w l d s st =
      on_after (PlaceOf a) (FitsIn t) s (place_with T a call s) _ (sound_place call c a d.0 s st) (λ q u stay su g.
      assigned_ends t at (scalar_of t) q b u refl su (sound_eval call c b d.1 u su) (ends_as t (type_of b) (eval_with T b call u) (sym w.4) (fit_eval sight see b w.1 l.1 d.1 u su)))
  fit_eval sight see (Node at t (Assign (Some op) a b)) w l d s st =
      on_after (PlaceOf a) (FitsIn t) s (place_with T a call s) _ (sound_place call c a d.0 s st) (λ q u stay su g. scalar_ends t _ u (λ k e.
      on_ends Placed (FitsIn t) (FitsIn t) u (read at q k u) _ (after_read u at q k su) (read_scalar_fits at q t k u e su) (λ x v on sv f h.
      on_ends Placed (FitsIn (type_of b)) (FitsIn t) v (eval_with T b call v) _ (sound_eval call c b d.1 v sv) (fit_eval sight see b w.1 l.1 d.1 v sv) (λ y z on2 sz i j.
      on_ends Placed (FitsIn t) (FitsIn t) z (computed at (λ store. compound T.structs t op store x (type_of b) y) z) (λ v. write at q k v >> give v)
      (after_defined Placed z at (compound T.structs t op z.store x (type_of b) y) sz (λ v e. compound_placed T.structs t op z.store x (type_of b) y v e))
      (defined_ends (FitsIn t) at (compound T.structs t op z.store x (type_of b) y) z (compound_fits sight T.structs op op t (type_of b) z.store x y w.4 h j))
      (λ v m on3 sm pl o. written t at q k v v m sm pl o)))))
  fit_eval sight see (Node at t (Bump op a)) w l d s st =
      on_after (PlaceOf a) (FitsIn t) s (place_with T a call s) _ (sound_place call c a d s st) (λ q u stay su g. scalar_ends t _ u (λ k e.
      on_ends Placed (FitsIn t) (FitsIn t) u (read at q k u) _ (after_read u at q k su) (read_scalar_fits at q t k u e su) (λ x v on sv f h.
      on_ends Placed (FitsIn t) (FitsIn t) v (computed at (λ store. compound T.structs t (bump_operator op) store x int_type (Integer (pos 1))) v) (λ n. write at q k n >> give (bump_value op x n))
      (after_defined Placed v at (compound T.structs t (bump_operator op) v.store x int_type (Integer (pos 1))) sv (λ n e. compound_placed T.structs t (bump_operator op) v.store x int_type (Integer (pos 1)) n e))
      (defined_ends (FitsIn t) at (compound T.structs t (bump_operator op) v.store x int_type (Integer (pos 1))) v
      (compound_fits sight T.structs operator.Add (bump_operator op) t int_type v.store x (Integer (pos 1)) w.3 h refl))
      (λ n m on2 sm pl o. written t at q k n (bump_value op x n) m sm pl (bump_fits t op x n h o)))))
  fit_eval sight see (Node at t (Call f args)) w l d s st =
      on_after AllPlaced (FitsIn t) s (evals_with T args call s) (λ vs. call at f vs) (sound_evals call c args d s st) (λ vs u stay su g. fit sight see f t args w.1 at vs u su g)
  fit_eval sight see (Node at t (Cast to a)) w l d s st =
      cast_ends sight t to a s w.1 w.2 (sound_place call c a d.1 s st) (sound_eval call c a d.1 s st) (fit_eval sight see a w.0 l d.1 s st)
  fit_eval sight see (Node at t (SizeOfType u)) w l d s st = fits_as t (Int U64) (size_value T u) w.1 (size_fits sight u see w.0)
  fit_eval sight see (Node at t (SizeOfExpr a)) w l d s st = fits_as t (Int U64) (size_value T (type_of a)) w.2 (size_fits sight (type_of a) see w.1)
  fit_eval sight see (Node at t (Index a b)) w l d s st =
      on_after Placed (FitsIn t) s (eval_with T a call s) _ (sound_eval call c a d.0 s st) (λ x u stay su g.
      on_after Placed (FitsIn t) u (eval_with T b call u) _ (sound_eval call c b d.1 u su) (λ y v on sv f.
      on_after Any (FitsIn t) v _ (λ q. read_any at q (scalar_of t)) (after_any v at (λ store. indexed (unit_of T.structs (type_of a) (type_of b)) store x y) sv) (λ q z on2 sz i. read_fits at q t z sz)))
  fit_eval sight see (Node at t (Dot a m)) w l d s st =
      on_after (PlaceOf a) (FitsIn t) s (place_with T a call s) _ (sound_place call c a d s st) (λ q u stay su g. read_fits at (shifted q (offset_of T.structs (type_of a) m)) t u su)
  fit_eval sight see (Node at t (Arrow a m)) w l d s st =
      on_after Placed (FitsIn t) s (eval_with T a call s) _ (sound_eval call c a d s st) (λ x u stay su g.
      on_after PlacedAt (FitsIn t) u (pointed_to x u) _ (after_pointed u x su g) (λ q v on sv f. read_fits at (shifted q (offset_of T.structs (target_of (type_of a)) m)) t v sv))
  fit_eval sight see (Node at t (Comma a b)) w l d s st =
      on_after Placed (FitsIn t) s (eval_with T a call s) _ (sound_eval call c a d.0 s st)
      (λ x u stay su g. ends_as t (type_of b) (eval_with T b call u) (sym w.2) (fit_eval sight see b w.1 l.1 d.1 u su))
