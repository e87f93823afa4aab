-- Lists of initialisers, and initialisers that are lists.
use Rattle.std.proofs.Common.{◌≡◌, ℕ, zero, suc, ◌<◌, ◌≤◌, List, [], ◌∷◌, ◌++◌, length, get_or, refl, sym, ap, ◌∙◌, arith, Option, Some, None, option_map, false, ◌&&◌}
use Rattle.std.specs.Prelude.{Vec}
use Rattle.std.specs.declared.alloc.Global.{Global}
use Rattle.c_syntax.specs.declared.place.Place.{Place}
use Rattle.c_syntax.specs.declared.statement.Init.{Init}
use Rattle.c_syntax.specs.declared.statement.Init as init
use Rattle.c_syntax.specs.Ctypes.{PlainType, PlainLength, Array}
use Rattle.c_syntax.specs.Expressions.{Expression, Node, Number, Letter, Text, Variable, Unary, Binary, Both, Either, Choice, Assign, Bump, Call, Cast, SizeOfType, SizeOfExpr, Index, Dot, Arrow, Comma}
use Rattle.c_syntax.specs.Statements.{Initialiser, One, Many, Initialisers, NoInitialiser, Listed, plain_init, plain_inits}
use Rattle.c_syntax.proofs.Rows.{many_is}
use Rattle.c_model.specs.ExpressionTyping.{Sight, is_character}
use Rattle.c_model.specs.DeclarationTyping.{count_items, is_text, is_text_array, text_read}
use Rattle.c_declaration_rules.specs.Initialisers.{is_text_alone, last_item, without_braces}
use Rattle.c_declaration_rules.specs.Objects.{bytes_alone, bytes_read}

pub count_is : (xs : List Init) → count_items (plain_inits xs) ≡ length xs
count_is [] = refl
count_is (x ∷ xs) = ap suc (count_is xs)

-- a list of several is no string
pub several_text : (xs : List Init) → 2 ≤ length xs → false ≡ is_text_alone (plain_inits xs)
several_text [] le = absurd (omega (arith, le))
several_text (x ∷ []) le = absurd (omega (arith, le))
several_text (init.One e ∷ y ∷ ys) le = refl
several_text (init.Many' at shape row ∷ y ∷ ys) le = refl

pub several_bytes : (s : Sight) (xs : List Init) → 2 ≤ length xs → ◌≡◌ {A = Option ℕ} None (bytes_alone s (plain_inits xs))
several_bytes s [] le = absurd (omega (arith, le))
several_bytes s (x ∷ []) le = absurd (omega (arith, le))
several_bytes s (init.One e ∷ y ∷ ys) le = refl
several_bytes s (init.Many' at shape row ∷ y ∷ ys) le = refl

bytes_one : (s : Sight) (at : Place) (e : Expression) → option_map length (text_read s (Many at (Listed (One e) NoInitialiser))) ≡ option_map length (text_read s (One e))
bytes_one s at (Node p t (Number n k)) = refl
bytes_one s at (Node p t (Letter n)) = refl
bytes_one s at (Node p t (Text n)) = refl
bytes_one s at (Node p t (Variable x)) = refl
bytes_one s at (Node p t (Unary op a)) = refl
bytes_one s at (Node p t (Binary op a b)) = refl
bytes_one s at (Node p t (Both a b)) = refl
bytes_one s at (Node p t (Either a b)) = refl
bytes_one s at (Node p t (Choice a b c)) = refl
bytes_one s at (Node p t (Assign op a b)) = refl
bytes_one s at (Node p t (Bump op a)) = refl
bytes_one s at (Node p t (Call f es)) = refl
bytes_one s at (Node p t (Cast to a)) = refl
bytes_one s at (Node p t (SizeOfType u)) = refl
bytes_one s at (Node p t (SizeOfExpr a)) = refl
bytes_one s at (Node p t (Index a b)) = refl
bytes_one s at (Node p t (Dot a m)) = refl
bytes_one s at (Node p t (Arrow a m)) = refl
bytes_one s at (Node p t (Comma a b)) = refl

pub bytes_by : (s : Sight) (e : Expression) → bytes_read s e ≡ option_map length (text_read s (One e))
bytes_by s (Node p t (Number n k)) = refl
bytes_by s (Node p t (Letter n)) = refl
bytes_by s (Node p t (Text n)) = by _
  where
    by : (o : Option (ℕ × List ℕ)) → option_map (λ (l : ℕ × List ℕ). length l.1) o ≡ option_map length (elim o [ None ↦ None | Some l ↦ Some l.1 ])
    by None = refl
    by (Some l) = refl
bytes_by s (Node p t (Variable x)) = refl
bytes_by s (Node p t (Unary op a)) = refl
bytes_by s (Node p t (Binary op a b)) = refl
bytes_by s (Node p t (Both a b)) = refl
bytes_by s (Node p t (Either a b)) = refl
bytes_by s (Node p t (Choice a b c)) = refl
bytes_by s (Node p t (Assign op a b)) = refl
bytes_by s (Node p t (Bump op a)) = refl
bytes_by s (Node p t (Call f es)) = refl
bytes_by s (Node p t (Cast to a)) = refl
bytes_by s (Node p t (SizeOfType u)) = refl
bytes_by s (Node p t (SizeOfExpr a)) = refl
bytes_by s (Node p t (Index a b)) = refl
bytes_by s (Node p t (Dot a m)) = refl
bytes_by s (Node p t (Arrow a m)) = refl
bytes_by s (Node p t (Comma a b)) = refl

bytes_listed : (s : Sight) (at : Place) (is : Initialisers) → bytes_alone s is ≡ option_map length (text_read s (Many at is))
bytes_listed s at NoInitialiser = refl
bytes_listed s at (Listed (One e) NoInitialiser) = bytes_by s e ∙ sym (bytes_one s at e)
bytes_listed s at (Listed (Many p js) NoInitialiser) = refl
bytes_listed s at (Listed (One (Node p t k)) (Listed j js)) = several k
  where
    several : (k : _) → ◌≡◌ {A = Option ℕ} None (option_map length (text_read s (Many at (Listed (One (Node p t k)) (Listed j js)))))
    several (Number n l) = refl
    several (Letter n) = refl
    several (Text n) = refl
    several (Variable x) = refl
    several (Unary op a) = refl
    several (Binary op a b) = refl
    several (Both a b) = refl
    several (Either a b) = refl
    several (Choice a b c) = refl
    several (Assign op a b) = refl
    several (Bump op a) = refl
    several (Call f es) = refl
    several (Cast to a) = refl
    several (SizeOfType u) = refl
    several (SizeOfExpr a) = refl
    several (Index a b) = refl
    several (Dot a m) = refl
    several (Arrow a m) = refl
    several (Comma a b) = refl
bytes_listed s at (Listed (Many p js) (Listed j ks)) = refl

pub bytes_many : (s : Sight) (at : Place) (v : Vec Init Global) → bytes_alone s (plain_inits v.items) ≡ option_map length (text_read s (plain_init (init.Many at v)))
bytes_many s at v = bytes_listed s at (plain_inits v.items) ∙ ap (λ i. option_map length (text_read s i)) (sym (many_is at v))

text_one : (t : PlainType) (n : PlainLength) (e : Expression) → is_text_array (Array t n) (Listed (One e) NoInitialiser) ≡ (is_text e && is_character t)
text_one t n (Node p u (Number m k)) = refl
text_one t n (Node p u (Letter m)) = refl
text_one t n (Node p u (Text m)) = refl
text_one t n (Node p u (Variable x)) = refl
text_one t n (Node p u (Unary op a)) = refl
text_one t n (Node p u (Binary op a b)) = refl
text_one t n (Node p u (Both a b)) = refl
text_one t n (Node p u (Either a b)) = refl
text_one t n (Node p u (Choice a b c)) = refl
text_one t n (Node p u (Assign op a b)) = refl
text_one t n (Node p u (Bump op a)) = refl
text_one t n (Node p u (Call f es)) = refl
text_one t n (Node p u (Cast to a)) = refl
text_one t n (Node p u (SizeOfType v)) = refl
text_one t n (Node p u (SizeOfExpr a)) = refl
text_one t n (Node p u (Index a b)) = refl
text_one t n (Node p u (Dot a m)) = refl
text_one t n (Node p u (Arrow a m)) = refl
text_one t n (Node p u (Comma a b)) = refl

pub text_array_is : (t : PlainType) (n : PlainLength) (is : Initialisers) → is_text_array (Array t n) is ≡ (is_text_alone is && is_character t)
text_array_is t n NoInitialiser = refl
text_array_is t n (Listed (One e) NoInitialiser) = text_one t n e
text_array_is t n (Listed (Many p js) NoInitialiser) = refl
text_array_is t n (Listed (One (Node p u k)) (Listed j js)) = several k
  where
    several : (k : _) → is_text_array (Array t n) (Listed (One (Node p u k)) (Listed j js)) ≡ false
    several (Number m l) = refl
    several (Letter m) = refl
    several (Text m) = refl
    several (Variable x) = refl
    several (Unary op a) = refl
    several (Binary op a b) = refl
    several (Both a b) = refl
    several (Either a b) = refl
    several (Choice a b c) = refl
    several (Assign op a b) = refl
    several (Bump op a) = refl
    several (Call f es) = refl
    several (Cast to a) = refl
    several (SizeOfType v) = refl
    several (SizeOfExpr a) = refl
    several (Index a b) = refl
    several (Dot a m) = refl
    several (Arrow a m) = refl
    several (Comma a b) = refl
text_array_is t n (Listed (Many p js) (Listed j ks)) = refl

-- an item without its braces
last_snoc : (i : Initialiser) (xs : List Init) (x : Init) → last_item i (plain_inits (xs ++ x ∷ [])) ≡ plain_init x
last_snoc i [] x = refl
last_snoc i (y ∷ ys) x = last_snoc (plain_init y) ys x

pub braces_off : (at : Place) (v : Vec Init Global) (xs : List Init) (x : Init) → v.items ≡ xs ++ x ∷ [] → plain_init x ≡ without_braces (plain_init (init.Many at v))
braces_off at v xs x e =
    sym (ap without_braces (many_is at v) ∙ ap (λ l. last_item (Many at (plain_inits l)) (plain_inits l)) e ∙ last_snoc (Many at (plain_inits (xs ++ x ∷ []))) xs x)

-- two reads of one element
pub same_at : {A : Type 0} (xs : List A) (i : ℕ) (x y : A) → i < length xs → x ≡ get_or xs i x → y ≡ get_or xs i y → x ≡ y
same_at [] i x y lt e f = absurd (omega (arith, lt))
same_at (z ∷ zs) zero x y lt e f = e ∙ sym f
same_at (z ∷ zs) (suc i) x y lt e f = same_at zs i x y (omega (arith, lt)) e f
