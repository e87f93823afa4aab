-- All expressions, with effects anywhere in them, by induction over their trees: the laws of effects.
use Rattle.std.proofs.Common.{ℕ, ◌++◌, length, Some, None, sym, subst}
use Rattle.c_syntax.specs.declared.expression.UnOp.TheVariants as prefix
use Rattle.c_syntax.specs.Expressions.{Expression, Node, Number, Letter, Text, Variable, Unary, Binary, Both, Either, Choice, Assign, Bump, Call, Cast, SizeOfType, SizeOfExpr, Index, Dot, Arrow, Comma, Expressions, NoExpression}
use Rattle.c_syntax.specs.Expressions.{Following, place_of, type_of}
use Rattle.c_model.specs.ExpressionTyping.{Sight}
use Rattle.c_model.specs.Meaning.{tables_of, condition_of, eval_with}
use Rattle.c_model.specs.TypedTrees.{WellTyped, AreWellTyped}
use Rattle.c_syntax.specs.Layouts.{scalar_of}
use Rattle.mon_syntax.specs.Registers.{Bindings}
use Rattle.c_effects.specs.Full.{act, takes, result, prepare}
use Rattle.c_simulation.specs.Standing.{Setting, Here, runs}
use Rattle.c_simulation.specs.Reaching.{Reaches, Anything, Tested}
use Rattle.c_simulation.specs.Calls.{Scene}
use Rattle.c_effects.specs.Letters.{ValuesHaveLetters}
use Rattle.c_simulation.specs.EffectLaws.{EffectValuesReach, EffectConditionsReach, EffectPlacesReach, EffectOriginsReach, EffectsReach}
use Rattle.c_effects.specs.Expressions.{condition}
use Rattle.c_simulation.proofs.PointerValues.{value_type_is}
use Rattle.c_simulation.proofs.Operands.{Kinded, reached_with}
use Rattle.c_simulation.proofs.Conditions.{tests_reach}
use Rattle.c_simulation.proofs.Arguments.{EachComputes}
use Rattle.c_simulation.proofs.EffectForms.{Does, of_number, of_letter, of_text, of_variable, of_size, of_size_of, of_plus, of_minus, of_flip, of_not, of_address, of_deref, of_cast, of_binary, of_both, of_either, of_choice}
use Rattle.c_simulation.proofs.EffectForms.{of_comma, of_index, of_dot, of_arrow, of_assign, of_compound, of_bump, of_call}

module _ (w : Setting) (n : ℕ) (h : Here) (sight : Sight) (scene : Scene w n sight) (low : ℕ) (bound : Bindings) where
  mutual
    pub does : (e : Expression) → WellTyped sight e → Does w n h sight scene low bound e
    does (Node at t (Number z i)) q = of_number w n h sight scene low bound at t z i q
    does (Node at t (Letter z)) q = of_letter w n h sight scene low bound at t z q
    does (Node at t (Text z)) q = of_text w n h sight scene low bound at t z q
    does (Node at t (Variable x)) q = of_variable w n h sight scene low bound at t x q
    does (Node at t (SizeOfType u)) q = of_size w n h sight scene low bound at t u q
    does (Node at t (SizeOfExpr a)) q = of_size_of w n h sight scene low bound at t a q
    does (Node at t (Unary prefix.Plus a)) q = of_plus w n h sight scene low bound at t a q.1 q.2 (does a q.0)
    does (Node at t (Unary prefix.Minus a)) q = of_minus w n h sight scene low bound at t a q.1 q.2 (does a q.0)
    does (Node at t (Unary prefix.Flip a)) q = of_flip w n h sight scene low bound at t a q.1 q.2 (does a q.0)
    does (Node at t (Unary prefix.Not a)) q = of_not w n h sight scene low bound at t a q.1 q.2 (does a q.0)
    does (Node at t (Unary prefix.Address a)) q = of_address w n h sight scene low bound at t a q.1 q.2 (does a q.0)
    does (Node at t (Unary prefix.Deref a)) q = of_deref w n h sight scene low bound at t a q.1 (does a q.0)
    does (Node at t (Cast to a)) q = of_cast w n h sight scene low bound at t to a q.1 q.2 q.0 (does a q.0)
    does (Node at t (Binary op a b)) q = of_binary w n h sight scene low bound at t op a b q.2 (does a q.0) (does b q.1)
    does (Node at t (Both a b)) q = of_both w n h sight scene low bound at t a b q.2 q.3 q.4 (does a q.0) (does b q.1)
    does (Node at t (Either a b)) q = of_either w n h sight scene low bound at t a b q.2 q.3 q.4 (does a q.0) (does b q.1)
    does (Node at t (Choice a b c)) q = of_choice w n h sight scene low bound at t a b c q.3 q.4 q.5 (does a q.0) (does b q.1) (does c q.2)
    does (Node at t (Comma a b)) q = of_comma w n h sight scene low bound at t a b q.2 (does a q.0) (does b q.1)
    does (Node at t (Index a b)) q = of_index w n h sight scene low bound at t a b q.2 (does a q.0) (does b q.1)
    does (Node at t (Dot a m)) q = of_dot w n h sight scene low bound at t a m q.1 (does a q.0)
    does (Node at t (Arrow a m)) q = of_arrow w n h sight scene low bound at t a m q.1.target q.1.is (does a q.0)
    does (Node at t (Assign None a b)) q = of_assign w n h sight scene low bound at t a b q.2 q.4 q.5 (does a q.0) (does b q.1)
    does (Node at t (Assign (Some op) a b)) q = of_compound w n h sight scene low bound at t op a b q.2 q.4 (does a q.0) (does b q.1)
    does (Node at t (Bump op a)) q = of_bump w n h sight scene low bound at t op a q.1 q.3 (does a q.0)
    does (Node at t (Call f es)) q = of_call w n h sight scene low bound at t f es q.0 q.1 (each es q.0)

    each : (es : Expressions) → AreWellTyped sight es → ValuesHaveLetters es → EachComputes w n h low bound es
    each NoExpression q l = tt
    each (Following e es) q l = (λ k rs is behind. (does e q.0).computes k rs is l.0 behind, each es q.1 l.1)

pub values_reach : EffectValuesReach
values_reach w n h sight low bound rs e k now target regs is l s = (does w n h sight s.scene low bound e s.typed).computes k rs is l s.taken now target regs s.few s.standing s.beside s.enough

pub places_reach : EffectPlacesReach
places_reach w n h sight low bound rs e now target regs o l s = (does w n h sight s.scene low bound e s.typed).locates rs o l s.taken now target regs s.few s.standing s.beside s.enough

pub origins_reach : EffectOriginsReach
origins_reach w n h sight low bound rs e now target regs o l s = (does w n h sight s.scene low bound e s.typed).originates rs o l s.taken now target regs s.few s.standing s.beside s.enough

pub conditions_reach : EffectConditionsReach
conditions_reach w n h sight low bound rs e k now target regs is l s =
    let high = length (rs ++ takes w.unit e) in
    let code = runs w n target (prepare w.unit bound rs e) regs in
    subst (λ m. Reaches w (Tested w high (condition m (result w.unit bound rs e))) (length rs) regs now (condition_of (tables_of w.unit) e w.call now) code) (sym (value_type_is (type_of e) k is))
    (tests_reach w n h low bound (place_of e) k (length rs) high regs now (eval_with (tables_of w.unit) e w.call now) code (result w.unit bound rs e) (values_reach w n h sight low bound rs e k now target regs is l s))

pub effects_reach : EffectsReach
effects_reach w n h sight low bound rs e now target regs l s =
    reached_with w (Kinded (scalar_of (type_of e))) Anything (length rs) regs now (eval_with (tables_of w.unit) e w.call now) (runs w n target (act w.unit bound rs e) regs)
    ((does w n h sight s.scene low bound e s.typed).acts rs l s.taken now target regs s.few s.standing s.beside s.enough) (λ a to after t same b is p. tt)
