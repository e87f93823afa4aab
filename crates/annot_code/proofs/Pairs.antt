-- One part after another, and what plays no part in what is made of both: which registers are taken after the first one.
use Rattle.std.proofs.Common.{◌≡◌, Bool, true, false, if◌then◌else◌, List, Option, Some, None, refl, ◌∙◌}
use Rattle.c_syntax.specs.declared.annotation.Relation.{Relation}
use Rattle.c_syntax.specs.declared.annotation.Relation.TheVariants as relation
use Rattle.c_syntax.specs.declared.logic.Connective.{Connective}
use Rattle.c_syntax.specs.declared.logic.Connective.TheVariants as connective
use Rattle.c_syntax.specs.Logic.{LogicTerm}
use Rattle.c_syntax.specs.Programs.{TranslationUnit, plain_program}
use Rattle.mon_syntax.specs.declared.tree.MonType.{MonType}
use Rattle.mon_syntax.specs.Registers.{Bindings, Names}
use Rattle.mon_syntax.specs.Trees.{MonExpression, MonStatements}
use Rattle.c_effects.specs.Named.{unit_of}
use Rattle.annot_pieces.specs.declared.side.Side as declared_side
use Rattle.annot_pieces.specs.declared.side.Side.TheVariants as side
use Rattle.annot_simulation.specs.Code.{Code, Side, OfNumber, OfPointer, both_asked, connected, is_null_term, is_sure, left_first, related_code, used_by}
use Rattle.annot_simulation.specs.Pointers.{PointerCode, addresses_code, branch_pointer, null_code}
use Rattle.annot_pieces.specs.Plain.{code_of, pointer_of, side_of}

-- what is made of a part, after the same program's and the same bindings
pub then_part :
    {A : Type 0} (T : TranslationUnit → Bindings → List MonType → A) (n0 n1 : Names) (y : A) (ks : List MonType) → n1.table.kinds ≡ ks → n1.program ≡ n0.program → n1.table.bound ≡ n0.table.bound
    → y ≡ T (unit_of n1) n1.table.bound n1.table.kinds → y ≡ T (unit_of n0) n0.table.bound ks
then_part T n0 n1 y ks kinds program bound second = second ∙ (λ i. T (plain_program (program i)) (bound i) (kinds i))

-- ---- two truths

connected_where : (b : Bool) (k : Connective) (p q : Code) (rs : List MonType)
    → (if b then both_asked k p q else left_first k p q) ≡ (if b then both_asked k (record p { used = rs }) q else left_first k (record p { used = rs }) q)
connected_where true k p q rs = refl
connected_where false connective.And p q rs = refl
connected_where false connective.Or p q rs = refl
connected_where false connective.Implies p q rs = refl
connected_where false connective.Iff p q rs = refl
connected_where false connective.Xor p q rs = refl

pub connected_first : (k : Connective) (p q : Code) (rs : List MonType) → connected k p q ≡ connected k (record p { used = rs }) q
connected_first k p q rs = connected_where (is_sure q) k p q rs

-- ---- two pointers

pub branch_first :
    (c : Code) (s : MonStatements) (f : Option MonExpression) (p o : MonExpression) (b : PointerCode) (js ks : List MonType)
    → branch_pointer c (record { stmts = s; flag = f; base = p; offset = o; used = js }) b ≡ branch_pointer c (record { stmts = s; flag = f; base = p; offset = o; used = ks }) b
branch_first c s None p o b js ks = refl
branch_first c s (Some f) p o b js ks = refl

addresses_first : (r : Relation) (m n : Bool) (c d : PointerCode) (rs : List MonType) → addresses_code r m n c d ≡ addresses_code r m n (record c { used = rs }) d
addresses_first relation.Eq true n c d rs = refl
addresses_first relation.Eq false n c d rs = refl
addresses_first relation.Ne true n c d rs = refl
addresses_first relation.Ne false n c d rs = refl
addresses_first relation.Lt m n c d rs = refl
addresses_first relation.Le m n c d rs = refl
addresses_first relation.Gt m n c d rs = refl
addresses_first relation.Ge m n c d rs = refl

-- ---- two sides

pub used_is : (x : declared_side.Side) (ks : List MonType) → used_by (side_of x ks) ≡ ks
used_is (side.Number c) ks = refl
used_is (side.Pointer c) ks = refl

pub related_first : (r : Relation) (t u : LogicTerm) (x : declared_side.Side) (y : Side) (js ks : List MonType) → related_code r t u (side_of x js) y ≡ related_code r t u (side_of x ks) y
related_first r t u (side.Number c) (OfNumber y) js ks = refl
related_first r t u (side.Number c) (OfPointer y) js ks = addresses_first r (is_null_term t) (is_null_term u) (null_code (code_of c js)) y ks
related_first r t u (side.Pointer c) (OfNumber y) js ks = addresses_first r (is_null_term t) (is_null_term u) (pointer_of c js) (null_code y) ks
related_first r t u (side.Pointer c) (OfPointer y) js ks = addresses_first r (is_null_term t) (is_null_term u) (pointer_of c js) y ks
