-- Values that no effect changes: what is left of a settled expression depends on registers alone.
use Rattle.std.proofs.Common.{◌≡◌, pos, Bool, true, false, not, ◌&&◌, if◌then◌else◌, List, ◌++◌, length, ℕ, Option, Some, None, refl, sym, ap, ◌∙◌, subst}
use Rattle.c_syntax.specs.declared.expression.UnOp.TheVariants as prefix
use Rattle.c_syntax.specs.Ctypes.{PlainType, Void, Int, Ptr, Array, Struct}
use Rattle.c_syntax.specs.Expressions.{Expression, Node, Number, Letter, Text, Variable, Unary, Both, Either, Choice, Assign, Bump, Call, Cast, SizeOfType, SizeOfExpr, Comma, type_of}
use Rattle.c_syntax.specs.Layouts.{Scalar, scalar_of}
use Rattle.c_model.specs.Memory.{Value}
use Rattle.c_model.specs.Meaning.{is_array}
use Rattle.mon_syntax.specs.declared.tree.MonType.{MonType}
use Rattle.mon_syntax.specs.declared.tree.MonType.TheVariants as kind
use Rattle.mon_syntax.specs.Registers.{Bindings, register_of}
use Rattle.mon_syntax.specs.Checking.{same_type}
use Rattle.mon_syntax.specs.BlockMemory.{Blocks}
use Rattle.mon_syntax.specs.Trees.{MonExpression, Register, Constant}
use Rattle.c_effects.specs.Expressions.{value_type, register_type, converted, loaded, pointer_of, pointer_to}
use Rattle.mon_syntax.specs.Trees as tree
use Rattle.c_effects.specs.Full.{is_settled, is_whole, is_pure, keeps, kept_value, value_of, result, location, object_takes, takes, member_type, act_takes}
use Rattle.c_simulation.specs.Standing.{Setting, Has}

-- it doesn't depend on the memory
abbrev pub IsSteady : Setting → MonExpression → Type 0
IsSteady w e = (regs : List Value) (mem later : Blocks) (v : Value) → Has w e regs mem v → Has w e regs later v

-- both of them
pub both_true : (a b : Bool) → (a && b) ≡ true → (a ≡ true) × (b ≡ true)
both_true true b e = (refl, e)
both_true false b e = absurd cc

pointer_steady : (w : Setting) (o : Option ℕ) (g : ℕ) → IsSteady w (pointer_of o g)
pointer_steady w None g regs mem later v h = h
pointer_steady w (Some r) g regs mem later v h = h

-- a conversion that changes nothing, or gives a constant
converted_steady : (w : Setting) (t u : PlainType) (e : MonExpression) → same_type (value_type t) (value_type u) ≡ true → IsSteady w e → IsSteady w (converted t u e)
converted_steady w (Int k) (Int l) e same h = subst (λ c. IsSteady w (if c then e else tree.Cast (register_type l) e)) (sym same) h
converted_steady w (Int k) (Ptr u) e same h = λ regs mem later v g. g
converted_steady w (Int k) Void e same h = λ regs mem later v g. g
converted_steady w (Int k) (Array u m) e same h = λ regs mem later v g. g
converted_steady w (Int k) (Struct m) e same h = λ regs mem later v g. g
converted_steady w t (Ptr u) e same h = h
converted_steady w t u e same h = λ regs mem later v g. g

whole_steady : (w : Setting) (bound : Bindings) (rs : List MonType) (e : Expression) → is_whole e ≡ true → IsSteady w (location w.unit bound rs e)
whole_steady w bound rs (Node at t (Text n)) s = λ regs mem later v h. h
whole_steady w bound rs (Node at t (Variable x)) s = pointer_steady w (register_of bound x.decl) _
whole_steady w bound rs _ s = absurd cc

pub settled_stays : (w : Setting) (bound : Bindings) (rs : List MonType) (e : Expression) → is_settled e ≡ true → IsSteady w (result w.unit bound rs e)
settled_stays w bound rs (Node at t (Number n k)) s = λ regs mem later v h. h
settled_stays w bound rs (Node at t (Letter n)) s = λ regs mem later v h. h
settled_stays w bound rs (Node at t (Text n)) s = λ regs mem later v h. h
settled_stays w bound rs (Node at t (Variable x)) s = subst (λ c. IsSteady w (if c then Constant kind.Ptr (pos 0) else loaded t (pointer_to w.unit bound x.decl))) (sym s) (λ regs mem later v h. h)
settled_stays w bound rs (Node at t (SizeOfType u)) s = λ regs mem later v h. h
settled_stays w bound rs (Node at t (SizeOfExpr a)) s = λ regs mem later v h. h
settled_stays w bound rs (Node at t (Both a b)) s = λ regs mem later v h. h
settled_stays w bound rs (Node at t (Either a b)) s = λ regs mem later v h. h
settled_stays w bound rs (Node at t (Choice a b c)) s = λ regs mem later v h. h
settled_stays w bound rs (Node at t (Assign (Some op) a b)) s = λ regs mem later v h. h
settled_stays w bound rs (Node at t (Bump op a)) s = λ regs mem later v h. h
settled_stays w bound rs (Node at t (Call f es)) s = λ regs mem later v h. h
settled_stays w bound rs (Node at t (Unary prefix.Address a)) s = whole_steady w bound rs a s
-- the right side itself, or a register that has its value
settled_stays w bound rs (Node at t (Assign None a b)) s = by (scalar_of t) (is_settled b) refl (settled_stays w bound (rs ++ object_takes w.unit a) b)
  where
    v : ℕ
    v = length (rs ++ object_takes w.unit a ++ takes w.unit b ++ member_type a)

    e : MonExpression
    e = result w.unit bound (rs ++ object_takes w.unit a) b

    by : (o : Option Scalar) (c : Bool) → is_settled b ≡ c → (is_settled b ≡ true → IsSteady w e) → IsSteady w (value_of o (kept_value (not c) v e))
    by None c is h = λ regs mem later x g. g
    by (Some k) true is h = h is
    by (Some k) false is h = λ regs mem later x g. g
settled_stays w bound rs (Node at t (Cast to a)) s = by (is_array (type_of a)) s (settled_stays w bound rs a)
  where
    e : MonExpression
    e = result w.unit bound rs a

    by : (c : Bool) → (if c then is_whole a else (same_type (value_type (type_of a)) (value_type to) && is_settled a)) ≡ true → (is_settled a ≡ true → IsSteady w e)
        → IsSteady w (if c then location w.unit bound rs a else converted (type_of a) to e)
    by true q h = whole_steady w bound rs a q
    by false q h = let g = both_true (same_type (value_type (type_of a)) (value_type to)) (is_settled a) q in converted_steady w (type_of a) to e g.0 (h g.1)
settled_stays w bound rs (Node at t (Comma a b)) s = settled_stays w bound (rs ++ act_takes w.unit a) b s
settled_stays w bound rs _ s = absurd cc

-- a value that isn't kept is settled, or no effect comes after it
pub not_kept : (a b : Expression) → keeps a b ≡ false → is_pure b ≡ false → is_settled a ≡ true
not_kept a b k p = by (is_settled a) (ap (λ c. not (is_settled a) && not c) (sym p) ∙ k)
  where
    by : (c : Bool) → (not c && true) ≡ false → c ≡ true
    by true e = refl
    by false e = absurd cc
