-- Expressions, whose parts are typed first, and lists of arguments.
use Rattle.std.proofs.Common.{◌≡◌, ℕ, List, [], ◌∷◌, ◌++◌, refl, sym, ap, ◌∙◌, subst, append_assoc, Bool, Some, Result, Ok, Err}
use Rattle.c_syntax.specs.declared.place.Place.{Place}
use Rattle.c_syntax.specs.declared.expression.Expr.{Expr}
use Rattle.c_syntax.specs.declared.expression.ExprKind as code
use Rattle.c_syntax.specs.declared.expression.Use.{Use}
use Rattle.c_syntax.specs.declared.types.CType.{CType}
use Rattle.c_syntax.proofs.Rows.{call_kind_is}
use Rattle.std.specs.Prelude.{Vec}
use Rattle.std.specs.declared.alloc.Global.{Global}
use Rattle.c_syntax.specs.Ctypes.{PlainType, plain_type}
use Rattle.c_syntax.specs.Expressions.{Expression, ExpressionKind, Node, Number, Letter, Variable, Unary, Binary, Both, Either, Choice, Assign}
use Rattle.c_syntax.specs.Expressions.{Bump, Call, Cast, SizeOfType, SizeOfExpr, Text, Index, Dot, Arrow, Comma, Expressions, NoExpression, Following, plain_expr, plain_exprs, plain_kind, type_of}
use Rattle.c_model.specs.Checked.{Fault, Checked, Good, Bad, one_part, both_parts, refusing}
use Rattle.c_model.specs.ExpressionTyping as plain
use Rattle.c_model.specs.ExpressionTyping.{Sight, typed, typed_arguments, argument_for, first_type, rest_types, callee_for, is_printf, call, params_of, two, decayed_of}
use Rattle.c_scopes.specs.declared.fault.TypeFault.{TypeFault}
use Rattle.c_scopes.specs.declared.fault.TypeFault.TheVariants.{Refused, Memory}
use Rattle.c_scopes.specs.declared.signature.Signature.{Signature}
use Rattle.c_scopes.specs.Answers.{Answers, both, lesser_of, plain_fault}
use Rattle.c_expression_rules.specs.Callees.{known_params}
use Rattle.c_expression_rules.specs.Forms.{typed_call, typed_call_parts, typed_kind, typed_two}
use Rattle.c_scopes.specs.Signatures.{plain_signature}
use Rattle.c_scopes.proofs.Least.{both_answers, both_refused}

-- ---- the parts of an expression, and what is demanded of them

two_in_turn : {A B D : Type 0} (k : A → B → Checked D) (m : Checked A) (n : Checked B) → both_parts m n k ≡ one_part (both_parts m n two) (λ p. k p.0 p.1)
two_in_turn k (Good a) (Good b) = refl
two_in_turn k (Good a) (Bad g gs) = refl
two_in_turn k (Bad f fs) (Good b) = refl
two_in_turn k (Bad f fs) (Bad g gs) = refl

pub form_is : (s : Sight) (at : Place) (t : PlainType) (k : ExpressionKind) → typed s (Node at t k) ≡ typed_kind s at k
form_is s at t (Number n k) = refl
form_is s at t (Letter n) = refl
form_is s at t (Variable x) = refl
form_is s at t (Unary op a) = refl
form_is s at t (Binary op a b) = two_in_turn (plain.binary s at op) (decayed_of (typed s a)) (decayed_of (typed s b))
form_is s at t (Both a b) = two_in_turn (plain.both_of at) (decayed_of (typed s a)) (decayed_of (typed s b))
form_is s at t (Either a b) = two_in_turn (plain.either_of at) (decayed_of (typed s a)) (decayed_of (typed s b))
form_is s at t (Choice a b c) = two_in_turn (λ x (p : Expression × Expression). plain.choice_of s at x p.0 p.1) (decayed_of (typed s a)) (typed_two s b c)
form_is s at t (Assign op a b) = two_in_turn (plain.assign s at op) (typed s a) (decayed_of (typed s b))
form_is s at t (Bump op a) = refl
form_is s at t (Call f es) = two_in_turn (call at) (callee_for s at f.name es) (typed_arguments s (is_printf s f.name) (params_of (callee_for s at f.name es)) es)
form_is s at t (Cast to a) = refl
form_is s at t (SizeOfType u) = refl
form_is s at t (SizeOfExpr a) = refl
form_is s at t (Text n) = refl
form_is s at t (Index a b) = two_in_turn (plain.index s at) (decayed_of (typed s a)) (decayed_of (typed s b))
form_is s at t (Dot a m) = refl
form_is s at t (Arrow a m) = refl
form_is s at t (Comma a b) = two_in_turn (λ a b. Good (Node at (type_of b) (Comma a b))) (typed s a) (decayed_of (typed s b))

-- ---- refusals

-- what is refused is so, whatever would have been made
pub refused_as : {A S T : Type 0} (p : T → A) (s : S → A) (m : Checked A) (h : TypeFault) → Answers p m (Err h) → Answers s m (Err h)
refused_as p s m (Refused f) x = x
refused_as p s m Memory x = tt

-- ---- calls

-- a call by its form
pub call_form : (s : Sight) (at : Place) (x y : Use) (v w : Vec Expr Global) (r : Result CType TypeFault) → Answers (λ (t : CType). Node at (plain_type t) (Call y (plain_exprs w.items))) (typed_call s at x.name (plain_exprs v.items)) r
    → Answers (λ (t : CType). Node at (plain_type t) (plain_kind (code.Call y w))) (typed_kind s at (plain_kind (code.Call x v))) r
call_form s at x y v w r h =
    subst (λ k. Answers (λ (t : CType). Node at (plain_type t) k) (typed_kind s at (plain_kind (code.Call x v))) r) (sym (call_kind_is y w))
    (subst (λ k. Answers (λ (t : CType). Node at (plain_type t) (Call y (plain_exprs w.items))) (typed_kind s at k) r) (sym (call_kind_is x v)) h)

-- the parameters of a callee that is refused
no_params : (c : Checked plain.Signature) (f : Fault) → refusing c ≡ Some f → params_of c ≡ []
no_params (Good a) f e = absurd cc
no_params (Bad g gs) f e = refl

module _ (s : Sight) (at : Place) (x : ℕ) (es es' : Expressions) (rc : Result Signature TypeFault) (ra : Result (Unit {0}) TypeFault)
  where
    abbrev c : Checked plain.Signature
    c = callee_for s at x es

    abbrev printed : Bool
    printed = is_printf s x

    -- the arguments, by the parameters that are known
    arguments_known : (rc : Result Signature TypeFault) → Answers plain_signature c rc → Answers (λ (u : Unit {0}). es') (typed_arguments s printed (known_params rc) es) ra
        → (rc ≡ Err Memory → ⊥) → Answers (λ (u : Unit {0}). es') (typed_arguments s printed (params_of c) es) ra
    arguments_known (Ok f) hc ha m = subst (λ ts. Answers (λ (u : Unit {0}). es') (typed_arguments s printed ts es) ra) (sym (ap params_of hc)) ha
    arguments_known (Err (Refused f)) hc ha m = subst (λ ts. Answers (λ (u : Unit {0}). es') (typed_arguments s printed ts es) ra) (sym (no_params c (plain_fault f) hc)) ha
    arguments_known (Err Memory) hc ha m = absurd (m refl)

    -- a call with its function
    pub call_parts : Answers plain_signature c rc → Answers (λ (u : Unit {0}). es') (typed_arguments s printed (known_params rc) es) ra
        → Answers (λ (f : Signature). (plain_signature f, es')) (typed_call_parts s at x es) (both rc ra)
    call_parts hc ha = by rc refl hc ha
      where
        memory : (ra : Result (Unit {0}) TypeFault) → Answers (λ (f : Signature). (plain_signature f, es')) (typed_call_parts s at x es) (both (Err Memory) ra)
        memory (Ok u) = tt
        memory (Err g) = tt

        by : (q : Result Signature TypeFault) → rc ≡ q → Answers plain_signature c q → Answers (λ (u : Unit {0}). es') (typed_arguments s printed (known_params q) es) ra
            → Answers (λ (f : Signature). (plain_signature f, es')) (typed_call_parts s at x es) (both q ra)
        by (Ok f) e hc ha = both_answers plain_signature (λ (u : Unit {0}). es') c (typed_arguments s printed (params_of c) es) (Ok f) ra (both (Ok f) ra) hc (arguments_known (Ok f) hc ha (λ m. cc)) refl
        by (Err (Refused f)) e hc ha =
            both_answers plain_signature (λ (u : Unit {0}). es') c (typed_arguments s printed (params_of c) es) (Err (Refused f)) ra (both (Err (Refused f)) ra) hc (arguments_known (Err (Refused f)) hc ha (λ m. cc)) refl
        by (Err Memory) e hc ha = memory ra

-- ---- lists of arguments

-- the parameters after as many arguments
abbrev pub params_behind : {A : Type 0} → List A → List PlainType → List PlainType
params_behind [] ts = ts
params_behind (x ∷ xs) ts = params_behind xs (rest_types ts)

pub params_more : {A : Type 0} (xs : List A) (e : A) (ts : List PlainType) → params_behind (xs ++ e ∷ []) ts ≡ rest_types (params_behind xs ts)
params_more [] e ts = refl
params_more (x ∷ xs) e ts = params_more xs e (rest_types ts)

abbrev snoc : Expressions → Expression → Expressions
snoc NoExpression e = Following e NoExpression
snoc (Following x xs) e = Following x (snoc xs e)

snoc_in_turn : (x : Checked Expression) (c : Checked Expressions) (d : Checked Expression)
    → both_parts x (both_parts c d (λ es e. Good (snoc es e))) (λ x es. Good (Following x es)) ≡ both_parts (both_parts x c (λ x es. Good (Following x es))) d (λ es e. Good (snoc es e))
snoc_in_turn (Good x) (Good es) (Good e) = refl
snoc_in_turn (Good x) (Good es) (Bad g gs) = refl
snoc_in_turn (Good x) (Bad f fs) (Good e) = refl
snoc_in_turn (Good x) (Bad f fs) (Bad g gs) = refl
snoc_in_turn (Bad h hs) (Good es) (Good e) = refl
snoc_in_turn (Bad h hs) (Good es) (Bad g gs) = refl
snoc_in_turn (Bad h hs) (Bad f fs) (Good e) = refl
snoc_in_turn (Bad h hs) (Bad f fs) (Bad g gs) = ap (Bad h) (sym (append_assoc hs (f ∷ fs) (g ∷ gs)))

snoc_only : (d : Checked Expression) → both_parts d (Good NoExpression) (λ e es. Good (Following e es)) ≡ both_parts (Good NoExpression) d (λ es e. Good (snoc es e))
snoc_only (Good e) = refl
snoc_only (Bad f fs) = refl

-- an argument for the first of the parameters
abbrev pub argument_checked : Sight → Bool → List PlainType → Expr → Checked Expression
argument_checked s printed ts e = one_part (decayed_of (typed s (plain_expr e))) (argument_for s printed (first_type ts))

arguments_snoc : (s : Sight) (printed : Bool) (ts : List PlainType) (xs : List Expr) (e : Expr)
    → typed_arguments s printed ts (plain_exprs (xs ++ e ∷ [])) ≡ both_parts (typed_arguments s printed ts (plain_exprs xs)) (argument_checked s printed (params_behind xs ts) e) (λ es e. Good (snoc es e))
arguments_snoc s printed ts [] e = snoc_only (argument_checked s printed ts e)
arguments_snoc s printed ts (x ∷ xs) e =
    ap (λ c. both_parts (argument_checked s printed ts x) c (λ x es. Good (Following x es))) (arguments_snoc s printed (rest_types ts) xs e)
    ∙ snoc_in_turn (argument_checked s printed ts x) (typed_arguments s printed (rest_types ts) (plain_exprs xs)) (argument_checked s printed (params_behind xs (rest_types ts)) e)

plain_snoc : (xs : List Expr) (e : Expr) → plain_exprs (xs ++ e ∷ []) ≡ snoc (plain_exprs xs) (plain_expr e)
plain_snoc [] e = refl
plain_snoc (x ∷ xs) e = ap (Following (plain_expr x)) (plain_snoc xs e)

-- one more argument is typed
pub arguments_more : (s : Sight) (printed : Bool) (ts : List PlainType) (xs ys : List Expr) (x y : Expr) (d r : Result (Unit {0}) TypeFault)
    → Answers (λ (u : Unit {0}). plain_exprs ys) (typed_arguments s printed ts (plain_exprs xs)) d → Answers (λ (u : Unit {0}). plain_expr y) (argument_checked s printed (params_behind xs ts) x) r
    → Answers (λ (u : Unit {0}). plain_exprs (ys ++ y ∷ [])) (typed_arguments s printed ts (plain_exprs (xs ++ x ∷ []))) (both d r)
arguments_more s printed ts xs ys x y d r hd hr =
    subst (λ c. Answers (λ (u : Unit {0}). plain_exprs (ys ++ y ∷ [])) c (both d r)) (sym (arguments_snoc s printed ts xs x)) (by d r hd hr)
  where
    refused : (d r : Result (Unit {0}) TypeFault) (h : TypeFault) → Answers (λ (u : Unit {0}). plain_exprs ys) (typed_arguments s printed ts (plain_exprs xs)) d
        → Answers (λ (u : Unit {0}). plain_expr y) (argument_checked s printed (params_behind xs ts) x) r
        → both d r ≡ Err h
        → Answers (λ (u : Unit {0}). plain_exprs (ys ++ y ∷ [])) (both_parts (typed_arguments s printed ts (plain_exprs xs)) (argument_checked s printed (params_behind xs ts) x) (λ es e. Good (snoc es e))) (Err h)
    refused d r h hd hr j = both_refused (λ es e. Good (snoc es e)) (λ u. plain_exprs ys) (λ u. plain_expr y) (λ (u : Unit {0}). plain_exprs (ys ++ y ∷ [])) (typed_arguments s printed ts (plain_exprs xs))
        (argument_checked s printed (params_behind xs ts) x) d r h hd hr j

    by : (d r : Result (Unit {0}) TypeFault) → Answers (λ (u : Unit {0}). plain_exprs ys) (typed_arguments s printed ts (plain_exprs xs)) d → Answers (λ (u : Unit {0}). plain_expr y) (argument_checked s printed (params_behind xs ts) x) r
        → Answers (λ (u : Unit {0}). plain_exprs (ys ++ y ∷ [])) (both_parts (typed_arguments s printed ts (plain_exprs xs)) (argument_checked s printed (params_behind xs ts) x) (λ es e. Good (snoc es e))) (both d r)
    by (Ok u) (Ok v) hd hr =
        ap (λ c. both_parts c (argument_checked s printed (params_behind xs ts) x) (λ es e. Good (snoc es e))) hd
        ∙ ap (λ c. both_parts (Good (plain_exprs ys)) c (λ es e. Good (snoc es e))) hr ∙ ap Good (sym (plain_snoc ys y))
    by (Ok u) (Err g) hd hr = refused (Ok u) (Err g) g hd hr refl
    by (Err f) (Ok v) hd hr = refused (Err f) (Ok v) f hd hr refl
    by (Err f) (Err g) hd hr = refused (Err f) (Err g) (lesser_of f g) hd hr refl

-- one turn of the loop over arguments in their places
pub arguments_step : (s : Sight) (printed : Bool) (ts : List PlainType) (xs xs' ys ys' : List Expr) (x y : Expr) (d r : Result (Unit {0}) TypeFault) → xs' ≡ xs ++ x ∷ [] → ys' ≡ ys ++ y ∷ []
    → Answers (λ (u : Unit {0}). plain_exprs ys) (typed_arguments s printed ts (plain_exprs xs)) d → Answers (λ (u : Unit {0}). plain_expr y) (argument_checked s printed (params_behind xs ts) x) r
    → Answers (λ (u : Unit {0}). plain_exprs ys') (typed_arguments s printed ts (plain_exprs xs')) (both d r)
arguments_step s printed ts xs xs' ys ys' x y d r ex ey hd hr =
    subst (λ zs. Answers (λ (u : Unit {0}). plain_exprs zs) (typed_arguments s printed ts (plain_exprs xs')) (both d r)) (sym ey)
    (subst (λ zs. Answers (λ (u : Unit {0}). plain_exprs (ys ++ y ∷ [])) (typed_arguments s printed ts (plain_exprs zs)) (both d r)) (sym ex)
    (arguments_more s printed ts xs ys x y d r hd hr))

pub params_step : (ts : List PlainType) (xs xs' : List Expr) (x : Expr) (ps qs : List PlainType) → xs' ≡ xs ++ x ∷ [] → ps ≡ params_behind xs ts → qs ≡ rest_types ps → qs ≡ params_behind xs' ts
params_step ts xs xs' x ps qs ex before now = now ∙ ap rest_types before ∙ sym (params_more xs x ts) ∙ ap (λ zs. params_behind zs ts) (sym ex)
