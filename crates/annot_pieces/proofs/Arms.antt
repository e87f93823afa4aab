-- The code of each form, as it is written: from that of its parts.
use Rattle.std.proofs.Common.{◌≡◌, Bool, true, false, List, Option, Some, None, option_map, refl, ap, ◌∙◌}
use Rattle.c_syntax.specs.Ctypes.{PlainType, plain_type}
use Rattle.c_syntax.specs.declared.types.CType.{CType}
use Rattle.c_syntax.specs.declared.types.CType as code_type
use Rattle.c_syntax.specs.declared.annotation.Range.{Range}
use Rattle.c_syntax.specs.declared.expression.BinOp.{BinOp}
use Rattle.c_syntax.specs.declared.logic.TermKind.{TermKind}
use Rattle.c_syntax.specs.declared.logic.TermKind as term
use Rattle.c_syntax.specs.declared.logic.Term.{Term}
use Rattle.c_syntax.specs.declared.place.Place.{Place}
use Rattle.c_syntax.specs.Logic.{plain_term, plain_term_kind, range_of}
use Rattle.c_syntax.specs.Programs.{TranslationUnit, plain_program}
use Rattle.c_model.specs.PredicateTyping.{sort_of, type_of_term}
use Rattle.mon_syntax.specs.declared.tree.MonType.{MonType}
use Rattle.mon_syntax.specs.Registers.{Bindings, Names}
use Rattle.mon_syntax.specs.Trees.{MonExpression, Register, Global, Constant, Binary, Minus, Flip, Cast, Load}
use Rattle.c_effects.specs.Named.{unit_of}
use Rattle.annot_simulation.specs.Code.{Code, is_pointer_sort, is_pointer_term, judged_with, operated}
use Rattle.annot_pieces.specs.Plain.{judged_where, number_of}

range_of_kind : (at : Place) (k : TermKind) (t : Option PlainType) (r : Range) → range_of (plain_term_kind at k t r) ≡ r
range_of_kind at (term.Number n) t r = refl
range_of_kind at (term.Letter n) t r = refl
range_of_kind at (term.Variable x) t r = refl
range_of_kind at (term.Unary' op pa p a ta ra) t r = refl
range_of_kind at (term.Binary' op pa p a ta ra pb q b tb rb) t r = refl
range_of_kind at (term.Cast' to pa p a ta ra) t r = refl
range_of_kind at (term.Choice' pc o c pa p a ta ra pb q b tb rb) t r = refl
range_of_kind at term.Null t r = refl
range_of_kind at (term.Deref' pa p a ta ra) t r = refl
range_of_kind at (term.Member' d pa p a ta ra) t r = refl
range_of_kind at (term.Address' pa p a ta ra) t r = refl
range_of_kind at (term.Moved' op n pa p a ta ra pb q b tb rb) t r = refl
range_of_kind at (term.Difference' n pa p a ta ra pb q b tb rb) t r = refl
range_of_kind at (term.Told' f pa p a ta ra) t r = refl
range_of_kind at (term.Named x) t r = refl
range_of_kind at (term.At' l pa p a ta ra) t r = refl

pub range_is : (a : Term) → range_of (plain_term a) ≡ a.range
range_is a = range_of_kind a.place a.kind.value (option_map plain_type a.ctype) a.range

type_of_kind : (at : Place) (k : TermKind) (t : Option PlainType) (r : Range) → type_of_term (plain_term_kind at k t r) ≡ t
type_of_kind at (term.Number n) t r = refl
type_of_kind at (term.Letter n) t r = refl
type_of_kind at (term.Variable x) t r = refl
type_of_kind at (term.Unary' op pa p a ta ra) t r = refl
type_of_kind at (term.Binary' op pa p a ta ra pb q b tb rb) t r = refl
type_of_kind at (term.Cast' to pa p a ta ra) t r = refl
type_of_kind at (term.Choice' pc o c pa p a ta ra pb q b tb rb) t r = refl
type_of_kind at term.Null t r = refl
type_of_kind at (term.Deref' pa p a ta ra) t r = refl
type_of_kind at (term.Member' d pa p a ta ra) t r = refl
type_of_kind at (term.Address' pa p a ta ra) t r = refl
type_of_kind at (term.Moved' op n pa p a ta ra pb q b tb rb) t r = refl
type_of_kind at (term.Difference' n pa p a ta ra pb q b tb rb) t r = refl
type_of_kind at (term.Told' f pa p a ta ra) t r = refl
type_of_kind at (term.Named x) t r = refl
type_of_kind at (term.At' l pa p a ta ra) t r = refl

-- whether a type is one of pointers or of arrays
abbrev is_pointed : Option CType → Bool
is_pointed (Some (code_type.Ptr' p t)) = true
is_pointed (Some (code_type.Array' p t n)) = true
is_pointed _ = false

pointed_is : (t : Option CType) → is_pointer_sort (sort_of (option_map plain_type t)) ≡ is_pointed t
pointed_is None = refl
pointed_is (Some code_type.Void) = refl
pointed_is (Some (code_type.Int k)) = refl
pointed_is (Some (code_type.Ptr' p t)) = refl
pointed_is (Some (code_type.Array' p t n)) = refl
pointed_is (Some (code_type.Struct n)) = refl
pointed_is (Some (code_type.Named n)) = refl
pointed_is (Some (code_type.StructTag n at)) = refl
pointed_is (Some (code_type.EnumTag n at)) = refl

pub is_pointer_is : (a : Term) → is_pointer_term (plain_term a) ≡ is_pointed a.ctype
is_pointer_is a = ap (λ t. is_pointer_sort (sort_of t)) (type_of_kind a.place a.kind.value (option_map plain_type a.ctype) a.range) ∙ pointed_is a.ctype

-- ---- which registers are taken after the first part plays no part

pub operated_first :
    (b : Bool) (op : BinOp) (w k tb : MonType) (x y : Code) (e : MonExpression) (rs : List MonType) → operated b op w k tb x y e ≡ operated b op w k tb (record x { used = rs }) y e
operated_first true op w k tb x y e rs = refl
operated_first false op w k tb x y e rs = refl

-- ---- one part after another

-- the code of a part, after the same program's and the same bindings
pub next_part :
    (T : TranslationUnit → Bindings → List MonType → Code) (n0 n1 : Names) (y X : Code) → n1.table.kinds ≡ X.used → n1.program ≡ n0.program → n1.table.bound ≡ n0.table.bound
    → y ≡ T (unit_of n1) n1.table.bound n1.table.kinds → y ≡ T (unit_of n0) n0.table.bound X.used
next_part T n0 n1 y X kinds program bound second = second ∙ (λ i. T (plain_program (program i)) (bound i) (kinds i))

-- ---- a flag that is a register

pub judged_is : (e : MonExpression) (c : Code) → judged_with (Some e) c ≡ judged_where (number_of e) e c
judged_is (Register r) c = refl
judged_is (Global n) c = refl
judged_is (Constant t n) c = refl
judged_is (Binary op t a b) c = refl
judged_is (Minus t a) c = refl
judged_is (Flip t a) c = refl
judged_is (Cast t a) c = refl
judged_is (Load t a) c = refl
