-- A well typed expression stays so where more structs are known.
use Rattle.std.proofs.Common.{◌≡◌, ℕ, pos, refl, sym, ap, ◌∙◌, subst, List, Option, Some, None, Bool, true, false, nat_eq, nat_le, slice_get}
use Rattle.c_syntax.specs.declared.expression.Use.{Use}
use Rattle.c_syntax.specs.declared.expression.UnOp.TheVariants as unary
use Rattle.c_syntax.specs.declared.expression.BinOp.{BinOp}
use Rattle.c_syntax.specs.declared.expression.BinOp.TheVariants as operator
use Rattle.c_syntax.specs.Ctypes.{PlainType, Struct, int_type}
use Rattle.c_syntax.specs.Expressions.{Expression, Node, Number, Letter, Text, Variable, Unary, Binary, Both, Either, Choice, Assign, Bump, Call, Cast, SizeOfType, SizeOfExpr, Index, Dot, Arrow, Comma, Expressions, NoExpression}
use Rattle.c_syntax.specs.Expressions.{Following, type_of}
use Rattle.c_syntax.specs.Programs.{StructType}
use Rattle.c_syntax.specs.Layouts.{members_of, members_of_struct, member_among}
use Rattle.c_model.specs.ExpressionTyping.{Sight, HasSize, is_known, sized, most_bytes}
use Rattle.c_model.specs.TypedTrees.{PointsToElements, HasKnownSize, IsName, OfObject, OfNull, IsText, HasMember, HasMemberBehind, BinaryTypes, OfIntegers, OfPointerAndInteger, OfIntegerAndPointer}
use Rattle.c_model.specs.TypedTrees.{OfDifference, OfPointers, IndexTypes, OnTheLeft, OnTheRight, Assigns, ToScalar, ToStruct, CompoundTypes, ToInteger, ToPointer, CastTypes, ToVoid, OfInteger, OfPointer, OfNullConstant, OfArray}
use Rattle.c_model.specs.TypedTrees.{Calls, WellTyped, AreWellTyped, IsValue, IsCondition}
use Rattle.c_model.proofs.StableConstants.{Grows, size_kept, constant_kept}

pub struct_kept : (old new : List StructType) → Grows old new → (n : ℕ) → sized old (Struct n) ≡ HasSize → slice_get new n ≡ slice_get old n
struct_kept old new g n e = by (slice_get old n) refl e
  where
    by_size : (x : StructType) → slice_get old n ≡ Some x → (b : Bool) → nat_eq x.size 0 ≡ b → is_known (Some x) ≡ HasSize → slice_get new n ≡ slice_get old n
    by_size x i true z k = absurd (clash (nat_eq x.size 0) z k)
      where
        clash : (b : Bool) → b ≡ true → is_known (Some x) ≡ HasSize → ⊥
        clash b e k = absurd cc
    by_size x i false z k = g n x i z ∙ sym i

    by : (o : Option StructType) → slice_get old n ≡ o → is_known o ≡ HasSize → slice_get new n ≡ slice_get old n
    by None i k = absurd cc
    by (Some x) i k = by_size x i (nat_eq x.size 0) refl k

-- a sight, and the same with more structs
module _ (s : Sight) (new : List StructType) (levels tags enums : List ℕ) (g : Grows s.structs new)
  where
    abbrev later : Sight
    later = record s { structs = new; levels = levels; enum_tags = tags; enums = enums }

    known_kept : (t : PlainType) → sized s.structs t ≡ HasSize → sized new t ≡ HasSize
    known_kept t k = (size_kept s.structs new g t k).known

    pub known_size_kept : (t : PlainType) → HasKnownSize s t → HasKnownSize later t
    known_size_kept t h = record { known = known_kept t h.known; small = ap (λ n. nat_le n most_bytes) (sym (size_kept s.structs new g t h.known).size) ∙ h.small }

    elements_kept : (t : PlainType) → PointsToElements s t → PointsToElements later t
    elements_kept t h = record { target = h.target; is = h.is; known = known_kept h.target h.known }

    name_kept : (x : Use) (t : PlainType) → IsName s x t → IsName later x t
    name_kept x t (OfObject d) = OfObject (record { object = d.object; found = d.found; decl = d.decl; ctype = d.ctype })
    name_kept x t (OfNull d e) = OfNull d e

    text_kept : (n : ℕ) (t : PlainType) → IsText s n t → IsText later n t
    text_kept n t h = record { text = h.text; found = h.found; ctype = h.ctype }

    member_kept : (u : PlainType) (m : ℕ) (t : PlainType) → HasMember s u m t → HasMember later u m t
    member_kept u m t h =
        let k = struct_kept s.structs new g h.struct (subst (λ u. sized s.structs u ≡ HasSize) h.is h.known) in record {
          struct = h.struct;
          is = h.is;
          known = known_kept u h.known;
          member = h.member;
          found = ap (member_among m) (ap (members_of new) h.is ∙ ap members_of_struct k ∙ sym (ap (members_of s.structs) h.is)) ∙ h.found;
          ctype = h.ctype;
        }

    member_behind_kept : (u : PlainType) (m : ℕ) (t : PlainType) → HasMemberBehind s u m t → HasMemberBehind later u m t
    member_behind_kept u m t h = record { target = h.target; is = h.is; member = member_kept h.target m t h.member }

    binary_kept : (op : BinOp) (t u v : PlainType) → BinaryTypes s op t u v → BinaryTypes later op t u v
    binary_kept op t u v (OfIntegers o) = OfIntegers o
    binary_kept op t u v (OfPointerAndInteger a p b c) = OfPointerAndInteger a (elements_kept u p) b c
    binary_kept op t u v (OfIntegerAndPointer a b p c) = OfIntegerAndPointer a b (elements_kept v p) c
    binary_kept op t u v (OfDifference a p b c) = OfDifference a (elements_kept u p) b c
    binary_kept op t u v (OfPointers a p q c) = OfPointers a p q c

    index_kept : (t u v : PlainType) → IndexTypes s t u v → IndexTypes later t u v
    index_kept t u v (OnTheLeft e k i) = OnTheLeft e (known_kept t k) i
    index_kept t u v (OnTheRight i e k) = OnTheRight i e (known_kept t k)

    assigns_kept : (t : PlainType) (b : Expression) → Assigns s t b → Assigns later t b
    assigns_kept t b (ToScalar i) = ToScalar i
    assigns_kept t b (ToStruct i k o) = ToStruct i (known_kept t k) o

    compound_kept : (op : BinOp) (t u : PlainType) → CompoundTypes s op t u → CompoundTypes later op t u
    compound_kept op t u (ToInteger i j) = ToInteger i j
    compound_kept op t u (ToPointer e p i) = ToPointer e (elements_kept t p) i

    cast_kept : (to : PlainType) (a : Expression) → WellTyped s a → CastTypes s to a → CastTypes later to a
    cast_kept to a w (ToVoid e) = ToVoid e
    cast_kept to a w (OfInteger i j) = OfInteger i j
    cast_kept to a w (OfPointer i j) = OfPointer i j
    cast_kept to a w (OfNullConstant i j c) = OfNullConstant i j (constant_kept s new g a (pos 0) w c)
    cast_kept to a w (OfArray t n e f o) = OfArray t n e f o

    calls_kept : (f : Use) (t : PlainType) (es : Expressions) → Calls s f t es → Calls later f t es
    calls_kept f t es h = record {
      callee = h.callee;
      found = h.found;
      defined = h.defined;
      not_main = h.not_main;
      decl = h.decl;
      result = h.result;
      params = h.params;
      asked = h.asked;
      arguments = h.arguments;
    }

    mutual
      pub well_kept : (e : Expression) → WellTyped s e → WellTyped later e
      well_kept (Node at t (Number n None)) w = w
      well_kept (Node at t (Number n (Some k))) w = w
      well_kept (Node at t (Letter n)) w = w
      well_kept (Node at t (Text n)) w = text_kept n t w
      well_kept (Node at t (Variable x)) w = name_kept x t w
      well_kept (Node at t (Unary unary.Not a)) w = (well_kept a w.0, w.1, w.2)
      well_kept (Node at t (Unary unary.Address a)) w = (well_kept a w.0, w.1, w.2)
      well_kept (Node at t (Unary unary.Deref a)) w = (well_kept a w.0, w.1)
      well_kept (Node at t (Unary unary.Plus a)) w = (well_kept a w.0, w.1, w.2)
      well_kept (Node at t (Unary unary.Minus a)) w = (well_kept a w.0, w.1, w.2)
      well_kept (Node at t (Unary unary.Flip a)) w = (well_kept a w.0, w.1, w.2)
      well_kept (Node at t (Binary op a b)) w = (well_kept a w.0, well_kept b w.1, binary_kept op t (type_of a) (type_of b) w.2)
      well_kept (Node at t (Both a b)) w = (well_kept a w.0, well_kept b w.1, w.2, w.3, w.4)
      well_kept (Node at t (Either a b)) w = (well_kept a w.0, well_kept b w.1, w.2, w.3, w.4)
      well_kept (Node at t (Choice a b c)) w = (well_kept a w.0, well_kept b w.1, well_kept c w.2, w.3, w.4, w.5)
      well_kept (Node at t (Assign None a b)) w = (well_kept a w.0, well_kept b w.1, w.2, w.3, w.4, assigns_kept t b w.5)
      well_kept (Node at t (Assign (Some op) a b)) w = (well_kept a w.0, well_kept b w.1, w.2, w.3, compound_kept op t (type_of b) w.4)
      well_kept (Node at t (Bump op a)) w = (well_kept a w.0, w.1, w.2, compound_kept operator.Add t int_type w.3)
      well_kept (Node at t (Call f es)) w = (all_well_kept es w.0, calls_kept f t es w.1)
      well_kept (Node at t (Cast to a)) w = (well_kept a w.0, w.1, cast_kept to a w.0 w.2)
      well_kept (Node at t (SizeOfType u)) w = (known_size_kept u w.0, w.1)
      well_kept (Node at t (SizeOfExpr a)) w = (well_kept a w.0, known_size_kept (type_of a) w.1, w.2)
      well_kept (Node at t (Index a b)) w = (well_kept a w.0, well_kept b w.1, index_kept t (type_of a) (type_of b) w.2)
      well_kept (Node at t (Dot a m)) w = (well_kept a w.0, w.1, member_kept (type_of a) m t w.2)
      well_kept (Node at t (Arrow a m)) w = (well_kept a w.0, member_behind_kept (type_of a) m t w.1)
      well_kept (Node at t (Comma a b)) w = (well_kept a w.0, well_kept b w.1, w.2, w.3)

      pub all_well_kept : (es : Expressions) → AreWellTyped s es → AreWellTyped later es
      all_well_kept NoExpression w = tt
      all_well_kept (Following e es) w = (well_kept e w.0, all_well_kept es w.1)

    pub condition_kept : (e : Expression) → IsCondition s e → IsCondition later e
    condition_kept e h = record { typed = well_kept e h.typed; scalar = h.scalar }

    pub value_kept : (t : PlainType) (e : Expression) → IsValue s t e → IsValue later t e
    value_kept t e h = record { typed = well_kept e h.typed; ctype = h.ctype; scalar = h.scalar }
