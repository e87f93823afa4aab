-- Ours: what is asked of a typed file where its annotations are typed, as a fact that has one proof.
-- Its enums are known, its declarations of each kind stand at places that ascend, and no name is defined twice.
use Rattle.std.specs.Prelude.{◌≡◌, ℕ, suc, ℤ, pos, ◌+ℤ◌, Bool, true, false, List, [], ◌∷◌, map, Option, Some, None}
use Rattle.std.specs.Coded.{×_prop, Unit-prop, le_prop, Coded-set, coded_bool}
use Rattle.c_syntax.specs.declared.types.CInt.TheVariants.{I32}
use Rattle.c_syntax.specs.Expressions.{Expression}
use Rattle.c_syntax.specs.Programs.{EnumConstant, EnumType, Function, TranslationUnit}
use Rattle.c_model.specs.Integers.{fits}
use Rattle.c_model.specs.ExpressionTyping.{Sight}
use Rattle.c_model.specs.DeclarationTyping.{with_enumerator}
use Rattle.c_model.specs.Formed.{Ascend, number_of}
use Rattle.c_model.specs.TextOrder.{functions_among}
use Rattle.c_model.specs.UnitTyping.{FileItem, StructHead, Member, AnEnum, ATypedef, AGlobal, AFunction, items_of_file, sight_with, value_typed, behind_item}
use Rattle.c_expression_rules.specs.Constants.{has_small_sizes}
use Rattle.c_typing.specs.NotedContracts.{defines, IsDefinedOnce}
use Rattle.c_typing.specs.NotedFiles.{IsSmallValue, ValuesKnown, ItemKnown, EnumsKnown}

abbrev pub offset_of_enum : EnumType → ℕ
offset_of_enum e = e.place.offset

-- the declarations of each kind ascend
abbrev pub KindsAscend : TranslationUnit → Type 0
KindsAscend p = Ascend 0 (map offset_of_enum p.enums) × Ascend 0 (map number_of p.typedefs) × Ascend 0 (map number_of p.globals)

abbrev pub Stands : TranslationUnit → Type 0
Stands p = EnumsKnown p (sight_with p p.structs) (items_of_file p) × KindsAscend p × IsDefinedOnce (functions_among (items_of_file p))

-- ---- it has one proof

triple_prop : {A B C : Type 0} → IsProp A → IsProp B → IsProp C → IsProp (A × B × C)
triple_prop a b c = λ x y i. (a x.0 y.0 i, b x.1 y.1 i, c x.2 y.2 i)

Ascend-prop : (least : ℕ) (ns : List ℕ) → IsProp (Ascend least ns)
Ascend-prop least [] = Unit-prop
Ascend-prop least (n ∷ ns) = ×_prop le_prop (Ascend-prop (suc n) ns)

true_prop : (b : Bool) → IsProp (b ≡ true)
true_prop b = Coded-set coded_bool b true

small_prop : (s : Sight) (e : Option Expression) → IsProp (IsSmallValue s e)
small_prop s None = Unit-prop
small_prop s (Some x) = true_prop (has_small_sizes s.structs x)

values_prop : (s : Sight) (next : ℤ) (es : List EnumConstant) → IsProp (ValuesKnown s next es)
values_prop s next [] = Unit-prop
values_prop s next (e ∷ es) =
    triple_prop (small_prop s e.value) (true_prop (fits I32 (value_typed s next e.value)))
    (values_prop (with_enumerator s e.name (value_typed s next e.value)) (value_typed s next e.value +ℤ pos 1) es)

item_prop : (s : Sight) (i : FileItem) → IsProp (ItemKnown s i)
item_prop s (StructHead k struct) = Unit-prop
item_prop s (Member k m ends) = Unit-prop
item_prop s (AnEnum e) = values_prop s (pos 0) e.items
item_prop s (ATypedef d) = Unit-prop
item_prop s (AGlobal d) = Unit-prop
item_prop s (AFunction f) = Unit-prop

enums_prop : (p : TranslationUnit) (s : Sight) (is : List FileItem) → IsProp (EnumsKnown p s is)
enums_prop p s [] = Unit-prop
enums_prop p s (i ∷ is) = ×_prop (item_prop s i) (enums_prop p (behind_item p s i) is)

once_prop : (fs : List Function) → IsProp (IsDefinedOnce fs)
once_prop [] = Unit-prop
once_prop (f ∷ fs) = ×_prop (λ x y i e. Coded-set coded_bool (defines f.name fs) false (x e) (y e) i) (once_prop fs)

pub Stands-prop : (p : TranslationUnit) → IsProp (Stands p)
Stands-prop p =
    triple_prop (enums_prop p (sight_with p p.structs) (items_of_file p))
    (triple_prop (Ascend-prop 0 (map offset_of_enum p.enums)) (Ascend-prop 0 (map number_of p.typedefs)) (Ascend-prop 0 (map number_of p.globals)))
    (once_prop (functions_among (items_of_file p)))
