-- A typed file of a text has what is asked of it where its asserts are typed: its enumerators are known, and its declarations stand in order.
use Rattle.std.proofs.Common.{◌≡◌, ℤ, pos, ◌+ℤ◌, refl, sym, ap, ◌∙◌, subst, true, ◌&&◌, List, [], ◌∷◌, Option, Some, None}
use Rattle.c_syntax.specs.declared.expression.UnOp.TheVariants as unary
use Rattle.c_syntax.specs.Expressions.{Expression, Node, Number, Letter, Text, Variable, Unary, Binary, Both, Either, Choice, Assign, Bump, Call, Cast, SizeOfType, SizeOfExpr, Index, Dot, Arrow, Comma}
use Rattle.c_syntax.specs.Programs.{EnumConstant, TranslationUnit}
use Rattle.c_model.specs.Checked.{Good}
use Rattle.c_model.specs.ExpressionTyping.{Sight}
use Rattle.c_model.specs.DeclarationTyping.{with_enumerator}
use Rattle.c_model.specs.UnitTyping.{FileItem, StructHead, Member, AnEnum, ATypedef, AGlobal, AFunction, items_of_file, sight_with, value_typed, behind_item, typed_unit}
use Rattle.c_model.specs.TypedTrees.{WellTyped, WhereAny}
use Rattle.c_model.specs.TextOrder.{enums_among, typedefs_among, globals_among, InTextOrder}
use Rattle.c_model.specs.FileItems.{EnumeratorsTyped, FileEnumerators}
use Rattle.c_model.proofs.TypedPrograms.{typed_file}
use Rattle.c_model.proofs.TypedNumbers.{TypedInOrder, typed_in_order}
use Rattle.c_expression_rules.specs.Constants.{has_small_sizes}
use Rattle.c_expression_rules.proofs.Small.{and_both}
use Rattle.c_typing.specs.Files.{among, enum_of, typedef_of, global_of}
use Rattle.c_typing.specs.NotedContracts.{IsDefinedOnce}
use Rattle.c_typing.proofs.DefinedOnce.{defined_once}
use Rattle.c_typing.specs.NotedFiles.{IsSmallValue, ValuesKnown, EnumsKnown, IsOrdered}

-- ---- sizes

-- each size that a well typed expression asks for is within the limit
well_small : (s : Sight) (e : Expression) → WellTyped s e → has_small_sizes s.structs e ≡ true
well_small s (Node at t (Number n k)) w = refl
well_small s (Node at t (Letter n)) w = refl
well_small s (Node at t (Text n)) w = refl
well_small s (Node at t (Variable x)) w = refl
well_small s (Node at t (Unary unary.Not a)) w = well_small s a w.0
well_small s (Node at t (Unary unary.Plus a)) w = well_small s a w.0
well_small s (Node at t (Unary unary.Minus a)) w = well_small s a w.0
well_small s (Node at t (Unary unary.Flip a)) w = well_small s a w.0
well_small s (Node at t (Unary unary.Deref a)) w = well_small s a w.0
well_small s (Node at t (Unary unary.Address a)) w = well_small s a w.0
well_small s (Node at t (Binary op a b)) w = and_both (has_small_sizes s.structs a) (has_small_sizes s.structs b) (well_small s a w.0) (well_small s b w.1)
well_small s (Node at t (Both a b)) w = and_both (has_small_sizes s.structs a) (has_small_sizes s.structs b) (well_small s a w.0) (well_small s b w.1)
well_small s (Node at t (Either a b)) w = and_both (has_small_sizes s.structs a) (has_small_sizes s.structs b) (well_small s a w.0) (well_small s b w.1)
well_small s (Node at t (Choice a b c)) w = and_both (has_small_sizes s.structs a) (has_small_sizes s.structs b && has_small_sizes s.structs c) (well_small s a w.0)
    (and_both (has_small_sizes s.structs b) (has_small_sizes s.structs c) (well_small s b w.1) (well_small s c w.2))
well_small s (Node at t (Assign op a b)) w = refl
well_small s (Node at t (Bump op a)) w = refl
well_small s (Node at t (Call f es)) w = refl
well_small s (Node at t (Cast to a)) w = well_small s a w.0
well_small s (Node at t (SizeOfType u)) w = w.0.small
well_small s (Node at t (SizeOfExpr a)) w = w.1.small
well_small s (Node at t (Index a b)) w = refl
well_small s (Node at t (Dot a m)) w = refl
well_small s (Node at t (Arrow a m)) w = refl
well_small s (Node at t (Comma a b)) w = and_both (has_small_sizes s.structs a) (has_small_sizes s.structs b) (well_small s a w.0) (well_small s b w.1)

-- ---- enumerators

value_small : (s : Sight) (e : Option Expression) → WhereAny (WellTyped s) e → IsSmallValue s e
value_small s None w = tt
value_small s (Some e) w = well_small s e w

values_known : (s : Sight) (next : ℤ) (es : List EnumConstant) → EnumeratorsTyped s next es → ValuesKnown s next es
values_known s next [] h = tt
values_known s next (e ∷ es) h = (
  value_small s e.value h.0,
  h.1,
  values_known (with_enumerator s e.name (value_typed s next e.value)) (value_typed s next e.value +ℤ pos 1) es h.2,
)

enums_known : (q : TranslationUnit) (s : Sight) (is : List FileItem) → FileEnumerators q s is → EnumsKnown q s is
enums_known q s [] h = tt
enums_known q s (StructHead k x ∷ is) h = (tt, enums_known q s is h.1)
enums_known q s (Member k m ends ∷ is) h = (tt, enums_known q s is h.1)
enums_known q s (AnEnum e ∷ is) h = (values_known s (pos 0) e.items h.0, enums_known q (behind_item q s (AnEnum e)) is h.1)
enums_known q s (ATypedef d ∷ is) h = (tt, enums_known q (behind_item q s (ATypedef d)) is h.1)
enums_known q s (AGlobal d ∷ is) h = (tt, enums_known q (behind_item q s (AGlobal d)) is h.1)
enums_known q s (AFunction f ∷ is) h = (tt, enums_known q (behind_item q s (AFunction f)) is h.1)

-- ---- order

among_enums : (is : List FileItem) → among enum_of is ≡ enums_among is
among_enums [] = refl
among_enums (StructHead k s ∷ is) = among_enums is
among_enums (Member k m ends ∷ is) = among_enums is
among_enums (AnEnum e ∷ is) = ap (λ l. e ∷ l) (among_enums is)
among_enums (ATypedef d ∷ is) = among_enums is
among_enums (AGlobal d ∷ is) = among_enums is
among_enums (AFunction f ∷ is) = among_enums is

among_typedefs : (is : List FileItem) → among typedef_of is ≡ typedefs_among is
among_typedefs [] = refl
among_typedefs (StructHead k s ∷ is) = among_typedefs is
among_typedefs (Member k m ends ∷ is) = among_typedefs is
among_typedefs (AnEnum e ∷ is) = among_typedefs is
among_typedefs (ATypedef d ∷ is) = ap (λ l. d ∷ l) (among_typedefs is)
among_typedefs (AGlobal d ∷ is) = among_typedefs is
among_typedefs (AFunction f ∷ is) = among_typedefs is

among_globals : (is : List FileItem) → among global_of is ≡ globals_among is
among_globals [] = refl
among_globals (StructHead k s ∷ is) = among_globals is
among_globals (Member k m ends ∷ is) = among_globals is
among_globals (AnEnum e ∷ is) = among_globals is
among_globals (ATypedef d ∷ is) = among_globals is
among_globals (AGlobal d ∷ is) = ap (λ l. d ∷ l) (among_globals is)
among_globals (AFunction f ∷ is) = among_globals is

-- what typing makes of a file that stands in the order of the text
pub ordered : (p q : TranslationUnit) → InTextOrder p → typed_unit p ≡ Good q → IsOrdered q
ordered p q o is = record {
  known = enums_known q (sight_with q q.structs) (items_of_file q) (typed_file p q o is).enumerators;
  enums = among_enums (items_of_file q) ∙ order.enums;
  typedefs = among_typedefs (items_of_file q) ∙ order.typedefs;
  globals = among_globals (items_of_file q) ∙ order.globals;
  once = subst IsDefinedOnce (sym order.functions) (defined_once p q is);
}
  where
    order : TypedInOrder q
    order = typed_in_order p q o is
