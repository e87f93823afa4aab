-- Typing keeps the forms of a whole file: where annotations and declarations stand in its functions, and how deep its statements are.
use Rattle.std.proofs.Common.{◌≡◌, ℕ, pos, Bool, List, [], ◌∷◌, ◌++◌, Option, Some, None, sym, subst, slice_get}
use Rattle.c_syntax.specs.Programs.{StructMember, StructType, EnumConstant, EnumType, Function, TranslationUnit}
use Rattle.c_model.specs.Checked.{Good, one_part}
use Rattle.c_model.specs.ExpressionTyping.{Sight, with_object}
use Rattle.c_model.specs.DeclarationTyping.{typed_global, typed_typedef, typed_member, typed_enumerators}
use Rattle.c_model.specs.UnitTyping.{FileItem, StructHead, Member, AnEnum, ATypedef, AGlobal, AFunction, items_of_file, with_type, with_tag, with_function, typed_function, Progress, new_tag, typed_enum}
use Rattle.c_model.specs.UnitTyping.{typed_item_of_file, typed_items_of_file, at_start, with_progress, typed_unit}
use Rattle.c_model.specs.TextOrder.{functions_among}
use Rattle.c_model.specs.Formed.{AreReadLoopClauses, AreReadAsserts}
use Rattle.c_model.specs.ReadTree.{FunctionRead, FunctionsRead, ReadTree}
use Rattle.c_model.proofs.TypedParts.{Gives, gives_of, gives_one}
use Rattle.c_model.proofs.TypedDeclarations.{anything}
use Rattle.c_model.proofs.KeptStatements.{function_kept}

-- what is typed so far
abbrev SoFar : Progress → Type 0
SoFar r = FunctionsRead AreReadAsserts AreReadLoopClauses r.funcs

one_more : (fs : List Function) (f : Function) → FunctionsRead AreReadAsserts AreReadLoopClauses fs → FunctionRead AreReadAsserts AreReadLoopClauses f → FunctionsRead AreReadAsserts AreReadLoopClauses (fs ++ f ∷ [])
one_more [] f h k = (k, tt)
one_more (g ∷ gs) f h k = (h.0, one_more gs f h.1 k)

member_kept : (r : Progress) (k : ℕ) (m : StructMember) (ends : Bool) → SoFar r
    → Gives SoFar (elim (slice_get r.sight.structs k) [ None ↦ Good r | Some struct ↦ one_part (typed_member r.sight k struct m ends) (λ s. Good (record r { sight = s })) ])
member_kept r k m ends h = by (slice_get r.sight.structs k)
  where
    by : (o : Option StructType) → Gives SoFar (elim o [ None ↦ Good r | Some struct ↦ one_part (typed_member r.sight k struct m ends) (λ s. Good (record r { sight = s })) ])
    by None = h
    by (Some struct) = gives_one (λ s. Unit {0}) SoFar (typed_member r.sight k struct m ends) (λ s. Good (record r { sight = s })) (anything _) (λ s u. h)

enum_kept : (r : Progress) (e : EnumType) → SoFar r → Gives SoFar (typed_enum r e)
enum_kept r e h =
    gives_one (λ n. Unit {0}) SoFar (new_tag r.tags e.place e.tag) (λ n. one_part (typed_enumerators r.sight (pos 0) e.items) (λ x. Good (with_enum r e x))) (anything (new_tag r.tags e.place e.tag)) (λ n u.
    gives_one (λ x. Unit {0}) SoFar (typed_enumerators r.sight (pos 0) e.items) (λ x. Good (with_enum r e x)) (anything (typed_enumerators r.sight (pos 0) e.items)) (λ x v. h))
  where
    with_enum : Progress → EnumType → Sight × List EnumConstant → Progress
    with_enum r e x = record r {
      sight = record x.0 { enums = with_tag x.0.enums e.tag };
      tags = with_tag r.tags e.tag;
      enums = r.enums ++ record e { items = x.1 } ∷ [];
    }

-- items, of which the functions are read
abbrev AreReadItems : List FileItem → Type 0
AreReadItems is = FunctionsRead AreReadAsserts AreReadLoopClauses (functions_among is)

items_kept : (p : TranslationUnit) (r : Progress) (is : List FileItem) → AreReadItems is → SoFar r → Gives SoFar (typed_items_of_file p r is)
items_kept p r [] q h = h
items_kept p r (StructHead k s ∷ is) q h =
    gives_one SoFar SoFar (typed_item_of_file p r (StructHead k s)) (λ r. typed_items_of_file p r is)
    (gives_one (λ n. Unit {0}) SoFar (new_tag r.tags s.place s.tag) (λ n. Good (record r { tags = with_tag r.tags s.tag })) (anything (new_tag r.tags s.place s.tag)) (λ n u. h)) (λ x k. items_kept p x is q k)
items_kept p r (Member k m ends ∷ is) q h =
    gives_one SoFar SoFar (typed_item_of_file p r (Member k m ends)) (λ r. typed_items_of_file p r is) (member_kept r k m ends h) (λ x k. items_kept p x is q k)
items_kept p r (AnEnum e ∷ is) q h = gives_one SoFar SoFar (typed_item_of_file p r (AnEnum e)) (λ r. typed_items_of_file p r is) (enum_kept r e h) (λ x k. items_kept p x is q k)
items_kept p r (ATypedef d ∷ is) q h =
    gives_one SoFar SoFar (typed_item_of_file p r (ATypedef d)) (λ r. typed_items_of_file p r is)
    (gives_one (λ d. Unit {0}) SoFar (typed_typedef r.sight d) (λ d. Good (record r { sight = with_type r.sight d; typedefs = r.typedefs ++ d ∷ [] })) (anything (typed_typedef r.sight d)) (λ d u. h)) (λ x k. items_kept p x is q k)
items_kept p r (AGlobal d ∷ is) q h =
    gives_one SoFar SoFar (typed_item_of_file p r (AGlobal d)) (λ r. typed_items_of_file p r is)
    (gives_one (λ d. Unit {0}) SoFar (typed_global r.sight d) (λ d. Good (record r { sight = with_object r.sight d; globals = r.globals ++ d ∷ [] })) (anything (typed_global r.sight d)) (λ d u. h)) (λ x k. items_kept p x is q k)
items_kept p r (AFunction f ∷ is) q h =
    gives_one SoFar SoFar (typed_item_of_file p r (AFunction f)) (λ r. typed_items_of_file p r is)
    (gives_one (FunctionRead AreReadAsserts AreReadLoopClauses) SoFar (typed_function p r.sight r.funcs f) (λ f. Good (record r { sight = with_function p r.sight f; funcs = r.funcs ++ f ∷ [] })) (function_kept p r.sight r.funcs f q.0) (λ f k.
    one_more r.funcs f h k)) (λ x k. items_kept p x is q.1 k)

pub forms_kept : (p q : TranslationUnit) → ReadTree p → typed_unit p ≡ Good q → FunctionsRead AreReadAsserts AreReadLoopClauses q.funcs
forms_kept p q t is = gives_of (λ (q : TranslationUnit). FunctionsRead AreReadAsserts AreReadLoopClauses q.funcs) (typed_unit p) q
    (gives_one SoFar (λ (q : TranslationUnit). FunctionsRead AreReadAsserts AreReadLoopClauses q.funcs) (typed_items_of_file p (at_start p) (items_of_file p)) (λ r. Good (with_progress p r))
    (items_kept p (at_start p) (items_of_file p) (subst (FunctionsRead AreReadAsserts AreReadLoopClauses) (sym t.order.functions) t.functions) tt) (λ r h. h)) is
