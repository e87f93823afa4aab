-- The items of a typed file, each typed with what is in sight where it stands and the structs of the whole file.
use Rattle.std.proofs.Common.{◌≡◌, ℕ, pos, refl, sym, ap, ◌∙◌, subst, List, [], ◌∷◌, ◌++◌, Option, Some, None, slice_get, append_assoc, append-nil}
use Rattle.c_syntax.specs.Statements.{Declaration}
use Rattle.c_syntax.specs.Programs.{StructType, EnumConstant, EnumType, Function, TranslationUnit}
use Rattle.c_model.specs.Checked.{Checked, Good, Bad, one_part}
use Rattle.c_model.specs.ExpressionTyping.{Sight}
use Rattle.c_model.specs.DeclarationTyping.{typed_global, typed_typedef, typed_member, typed_member_type, with_member, typed_enumerators}
use Rattle.c_model.specs.UnitTyping.{FileItem, StructHead, Member, AnEnum, ATypedef, AGlobal, AFunction, with_function, typed_function, Progress, new_tag}
use Rattle.c_model.specs.UnitTyping.{typed_item_of_file, typed_items_of_file, at_start, items_of_file, levels_from, sight_with, with_progress, typed_unit, with_enum_tag, behind_item, tags_of}
use Rattle.c_model.specs.PlacedTrees.{FileItemAtOffsets, FileAtOffsets, MembersInOrder}
use Rattle.c_model.specs.TextOrder.{enums_among, typedefs_among, globals_among, functions_among, InTextOrder}
use Rattle.c_model.specs.TypedPrograms.{ItemTyped, ItemsTyped}
use Rattle.c_model.specs.TypedReadings.{DeclarationTypedAs, SameDeclaration, EnumeratorsTypedAs, FunctionTypedAs}
use Rattle.c_model.specs.TypedFileItems.{FileItemTypedAs, FileItemsTypedAs}
use Rattle.c_model.specs.FileItems.{SeesValues, ItemEnumerators}
use Rattle.c_model.specs.TextTypingLaws.{IsWholeSight}
use Rattle.c_model.proofs.TypedParts.{Gives, gives_of, gives_one, gives_both}
use Rattle.c_model.proofs.TypedDeclarations.{anything, IsDeclaredThen, global_declared}
use Rattle.c_model.proofs.TypedFunctions.{IsFunctionThen, function_typed}
use Rattle.c_model.proofs.ReadStatements.{global_as, typedef_as, enumerators_as, function_as}
use Rattle.c_model.proofs.TypedUnits.{first_sight_whole, gives_two, StandsThen, item_stands}
use Rattle.c_model.proofs.StableConstants.{Grows}
use Rattle.c_model.proofs.StableStatements.{AreSized, Widens, declared_kept, function_kept}
use Rattle.c_model.proofs.GrownStructs.{AreKnown, grows_by}
use Rattle.c_model.proofs.TypedBelow.{ended_after, first_in_order, rest_in_order, GrownBy, item_grown, first_known}
use Rattle.c_model.proofs.TypedFileSights.{with_whole, SeesEnumerators, enumerators_seen}

-- ---- lists of declarations, behind an item

abbrev enums_with : List EnumType → FileItem → List EnumType
enums_with es (AnEnum e) = es ++ e ∷ []
enums_with es i = es

abbrev typedefs_with : List Declaration → FileItem → List Declaration
typedefs_with ds (ATypedef d) = ds ++ d ∷ []
typedefs_with ds i = ds

abbrev globals_with : List Declaration → FileItem → List Declaration
globals_with ds (AGlobal d) = ds ++ d ∷ []
globals_with ds i = ds

abbrev functions_with : List Function → FileItem → List Function
functions_with fs (AFunction f) = fs ++ f ∷ []
functions_with fs i = fs

one_enum : (es : List EnumType) (i : FileItem) (is : List FileItem) → enums_with es i ++ enums_among is ≡ es ++ enums_among (i ∷ is)
one_enum es (AnEnum e) is = append_assoc es (e ∷ []) (enums_among is)
one_enum es (StructHead k s) is = refl
one_enum es (Member k m ends) is = refl
one_enum es (ATypedef d) is = refl
one_enum es (AGlobal d) is = refl
one_enum es (AFunction f) is = refl

one_typedef : (ds : List Declaration) (i : FileItem) (is : List FileItem) → typedefs_with ds i ++ typedefs_among is ≡ ds ++ typedefs_among (i ∷ is)
one_typedef ds (ATypedef d) is = append_assoc ds (d ∷ []) (typedefs_among is)
one_typedef ds (StructHead k s) is = refl
one_typedef ds (Member k m ends) is = refl
one_typedef ds (AnEnum e) is = refl
one_typedef ds (AGlobal d) is = refl
one_typedef ds (AFunction f) is = refl

one_global : (ds : List Declaration) (i : FileItem) (is : List FileItem) → globals_with ds i ++ globals_among is ≡ ds ++ globals_among (i ∷ is)
one_global ds (AGlobal d) is = append_assoc ds (d ∷ []) (globals_among is)
one_global ds (StructHead k s) is = refl
one_global ds (Member k m ends) is = refl
one_global ds (AnEnum e) is = refl
one_global ds (ATypedef d) is = refl
one_global ds (AFunction f) is = refl

one_function : (fs : List Function) (i : FileItem) (is : List FileItem) → functions_with fs i ++ functions_among is ≡ fs ++ functions_among (i ∷ is)
one_function fs (AFunction f) is = append_assoc fs (f ∷ []) (functions_among is)
one_function fs (StructHead k s) is = refl
one_function fs (Member k m ends) is = refl
one_function fs (AnEnum e) is = refl
one_function fs (ATypedef d) is = refl
one_function fs (AGlobal d) is = refl

-- what is declared behind an item
record Declares (r : Progress) (i : FileItem) (q : Progress) : Type 0 where
  enums : q.enums ≡ enums_with r.enums i
  typedefs : q.typedefs ≡ typedefs_with r.typedefs i
  globals : q.globals ≡ globals_with r.globals i
  functions : q.funcs ≡ functions_with r.funcs i

-- ---- an item

-- more structs are known, and the members of these have sizes
record IsWider (old new : List StructType) : Type 0 where
  grows : Grows old new
  members : (n : ℕ) (x : StructType) → slice_get old n ≡ Some x → AreSized old x.members

-- an item as it is typed, in a sight with the structs of the whole file, and what is in sight behind it
record IsItem (p : TranslationUnit) (r : Progress) (i : FileItem) (q : Progress) : Type 0 where
  item : FileItem
  read : FileItemTypedAs i item
  declares : Declares r item q
  typed : (new : List StructType) (levels tags : List ℕ) → IsWider r.sight.structs new → ItemTyped p (with_whole new levels tags r.sight) item
  behind : (new : List StructType) (levels tags : List ℕ) → IsWider r.sight.structs new
      → with_whole new levels tags q.sight ≡ behind_item p (with_whole new levels tags r.sight) item
  enumerators : (new : List StructType) (levels tags : List ℕ) → IsWider r.sight.structs new → ItemEnumerators (with_whole new levels tags r.sight) item

widens : (old new : List StructType) → IsWider old new → Widens old new
widens old new w = record { grows = w.grows; members = λ n x e z. w.members n x e }

is_item : (p : TranslationUnit) (r : Progress) → IsWholeSight r.sight → (i : FileItem) → FileItemAtOffsets i → Gives (IsItem p r i) (typed_item_of_file p r i)
is_item p r w (StructHead k s) o = gives_one (λ u. Unit {0}) (IsItem p r (StructHead k s)) (new_tag r.tags s.place s.tag) _ (anything _) (λ u v. record {
  item = StructHead k s;
  read = refl;
  declares = record { enums = refl; typedefs = refl; globals = refl; functions = refl };
  typed = λ new levels tags g. tt;
  behind = λ new levels tags g. refl;
  enumerators = λ new levels tags g. tt;
})
is_item p r w (Member k m ends) o = by (slice_get r.sight.structs k)
  where
    kept : (s : Sight) → ((new : List StructType) (levels tags : List ℕ) → with_whole new levels tags s ≡ with_whole new levels tags r.sight)
        → IsItem p r (Member k m ends) (record r { sight = s })
    kept s h = record {
      item = Member k m ends;
      read = refl;
      declares = record { enums = refl; typedefs = refl; globals = refl; functions = refl };
      typed = λ new levels tags g. tt;
      behind = λ new levels tags g. h new levels tags;
      enumerators = λ new levels tags g. tt;
    }

    by : (c : Option StructType) → Gives (IsItem p r (Member k m ends)) (elim c [
      | None ↦ Good r
      | Some struct ↦ one_part (typed_member r.sight k struct m ends) (λ s. Good (record r { sight = s }))
    ])
    by None = kept r.sight (λ new levels tags. refl)
    by (Some x) = gives_one (λ (s : Sight). (new : List StructType) (levels tags : List ℕ) → with_whole new levels tags s ≡ with_whole new levels tags r.sight) (IsItem p r (Member k m ends))
        (typed_member r.sight k x m ends) (λ s. Good (record r { sight = s }))
        (gives_both (λ u. Unit {0}) (λ t. Unit {0}) (λ (s : Sight). (new : List StructType) (levels tags : List ℕ) → with_whole new levels tags s ≡ with_whole new levels tags r.sight)
        _ (typed_member_type r.sight x m) (λ n t. Good (with_member r.sight k x t m ends)) (anything _) (anything _) (λ n t u v new levels tags. refl))
        (λ s h. kept s h)
is_item p r w (AnEnum e) o = gives_one (λ u. Unit {0}) (IsItem p r (AnEnum e)) (new_tag r.tags e.place e.tag) _ (anything _) (λ u v.
    gives_one (λ (x : Sight × List EnumConstant). SeesEnumerators r.sight (pos 0) x × EnumeratorsTypedAs e.items x.1) (IsItem p r (AnEnum e)) (typed_enumerators r.sight (pos 0) e.items) _
    (gives_two (SeesEnumerators r.sight (pos 0)) (λ (x : Sight × List EnumConstant). EnumeratorsTypedAs e.items x.1) (typed_enumerators r.sight (pos 0) e.items)
    (enumerators_seen r.sight w (pos 0) e.items) (enumerators_as r.sight (pos 0) e.items)) (λ x h. record {
      item = AnEnum (record e { items = x.1 });
      read = (record e { items = x.1 }, refl, record { place = refl; tag = refl; items = h.1 });
      declares = record { enums = refl; typedefs = refl; globals = refl; functions = refl };
      typed = λ new levels tags g. tt;
      behind = λ new levels tags g. ap (λ s. with_enum_tag s e.tag) (h.0 new levels tags g.grows).0;
      enumerators = λ new levels tags g. (h.0 new levels tags g.grows).1;
    }))
is_item p r w (ATypedef d) o = gives_one (SameDeclaration d) (IsItem p r (ATypedef d)) (typed_typedef r.sight d) _ (typedef_as r.sight d) (λ x v. record {
  item = ATypedef x;
  read = (x, refl, v);
  declares = record { enums = refl; typedefs = refl; globals = refl; functions = refl };
  typed = λ new levels tags g. tt;
  behind = λ new levels tags g. refl;
  enumerators = λ new levels tags g. tt;
})
is_item p r w (AGlobal d) o = gives_one (λ x. IsDeclaredThen r.sight x × DeclarationTypedAs d x) (IsItem p r (AGlobal d)) (typed_global r.sight d) _
    (gives_two (IsDeclaredThen r.sight) (DeclarationTypedAs d) (typed_global r.sight d) (global_declared r.sight w d o) (global_as r.sight d)) (λ x v. record {
      item = AGlobal x;
      read = (x, refl, v.1);
      declares = record { enums = refl; typedefs = refl; globals = refl; functions = refl };
      typed = λ new levels tags g. declared_kept new levels tags r.sight.enums r.sight (widens r.sight.structs new g) x v.0.declared;
      behind = λ new levels tags g. refl;
      enumerators = λ new levels tags g. tt;
    })
is_item p r w (AFunction f) o = gives_one (λ x. IsFunctionThen p r.sight x × FunctionTypedAs f x) (IsItem p r (AFunction f)) (typed_function p r.sight r.funcs f) _
    (gives_two (IsFunctionThen p r.sight) (FunctionTypedAs f) (typed_function p r.sight r.funcs f) (function_typed p r.sight w r.funcs f o) (function_as p r.sight r.funcs f)) (λ x v. record {
      item = AFunction x;
      read = (x, refl, v.1);
      declares = record { enums = refl; typedefs = refl; globals = refl; functions = refl };
      typed = λ new levels tags g. function_kept new levels tags r.sight.enums (with_function p r.sight x) (widens r.sight.structs new g) x v.0.typed;
      behind = λ new levels tags g. refl;
      enumerators = λ new levels tags g. tt;
    })

-- ---- items

-- enumerators in sight are values of `int` at each item, and behind the last one; so are those of each item, which are typed
abbrev pub SeesToEnd : TranslationUnit → Sight → List FileItem → Type 0
SeesToEnd p s [] = SeesValues s
SeesToEnd p s (i ∷ is) = (SeesValues s × ItemEnumerators s i) × SeesToEnd p (behind_item p s i) is

record AreItems (p : TranslationUnit) (r : Progress) (is : List FileItem) (q : Progress) : Type 0 where
  grows : Grows r.sight.structs q.sight.structs
  items : List FileItem
  read : FileItemsTypedAs is items
  enums : q.enums ≡ r.enums ++ enums_among items
  typedefs : q.typedefs ≡ r.typedefs ++ typedefs_among items
  globals : q.globals ≡ r.globals ++ globals_among items
  functions : q.funcs ≡ r.funcs ++ functions_among items
  typed : (levels tags : List ℕ) → ItemsTyped p (with_whole q.sight.structs levels tags r.sight) items
  values : (levels tags : List ℕ) → SeesToEnd p (with_whole q.sight.structs levels tags r.sight) items

no_more : (p : TranslationUnit) (r : Progress) → IsWholeSight r.sight → AreItems p r [] r
no_more p r w = record {
  grows = λ n x e z. e;
  items = [];
  read = refl;
  enums = sym (append-nil r.enums);
  typedefs = sym (append-nil r.typedefs);
  globals = sym (append-nil r.globals);
  functions = sym (append-nil r.funcs);
  typed = λ levels tags. tt;
  values = λ levels tags. w.known.enumerators;
}

one_more : (p : TranslationUnit) (r : Progress) → IsWholeSight r.sight → (i : FileItem) (is : List FileItem) (next q : Progress) → ((n : ℕ) (x : StructType) → slice_get r.sight.structs n ≡ Some x → AreSized r.sight.structs x.members)
    → Grows r.sight.structs next.sight.structs → IsItem p r i next → AreItems p next is q → AreItems p r (i ∷ is) q
one_more p r w i is next q m g h t = record {
  grows = grows;
  items = h.item ∷ t.items;
  read = (h.item, t.items, refl, h.read, t.read);
  enums = t.enums ∙ ap (λ es. es ++ enums_among t.items) h.declares.enums ∙ one_enum r.enums h.item t.items;
  typedefs = t.typedefs ∙ ap (λ ds. ds ++ typedefs_among t.items) h.declares.typedefs ∙ one_typedef r.typedefs h.item t.items;
  globals = t.globals ∙ ap (λ ds. ds ++ globals_among t.items) h.declares.globals ∙ one_global r.globals h.item t.items;
  functions = t.functions ∙ ap (λ fs. fs ++ functions_among t.items) h.declares.functions ∙ one_function r.funcs h.item t.items;
  typed = λ levels tags. (
    h.typed q.sight.structs levels tags wider,
    subst (λ s. ItemsTyped p s t.items) (h.behind q.sight.structs levels tags wider) (t.typed levels tags),
  );
  values = λ levels tags. ((w.known.enumerators, h.enumerators q.sight.structs levels tags wider), subst (λ s. SeesToEnd p s t.items) (h.behind q.sight.structs levels tags wider) (t.values levels tags));
}
  where
    grows : Grows r.sight.structs q.sight.structs
    grows = grows_by r.sight.structs next.sight.structs q.sight.structs g t.grows

    wider : IsWider r.sight.structs q.sight.structs
    wider = record { grows = grows; members = m }

are_items : (p : TranslationUnit) (ended : List ℕ) (r : Progress) → IsWholeSight r.sight → AreKnown ended r.sight.structs → (is : List FileItem) → FileAtOffsets is → MembersInOrder ended is
    → Gives (AreItems p r is) (typed_items_of_file p r is)
are_items p ended r w h [] o m = no_more p r w
are_items p ended r w h (i ∷ is) o m =
    gives_one (λ q. (StandsThen p r i q × GrownBy ended r i q) × IsItem p r i q) (AreItems p r (i ∷ is)) (typed_item_of_file p r i) (λ r. typed_items_of_file p r is)
    (gives_two (λ q. StandsThen p r i q × GrownBy ended r i q) (IsItem p r i) (typed_item_of_file p r i)
    (gives_two (StandsThen p r i) (GrownBy ended r i) (typed_item_of_file p r i) (item_stands p r w i o.0) (item_grown p ended r h i (first_in_order ended i is m))) (is_item p r w i o.0)) (λ q v.
    rest q v (typed_items_of_file p q is) (are_items p (ended_after i ended) q v.0.0.sight v.0.1.known is o.1 (rest_in_order ended i is m)))
  where
    rest : (q : Progress) → (StandsThen p r i q × GrownBy ended r i q) × IsItem p r i q → (c : Checked Progress) → Gives (AreItems p q is) c → Gives (AreItems p r (i ∷ is)) c
    rest q v (Good z) k = one_more p r w i is q z h.members v.0.1.grows v.1 k
    rest q v (Bad f fs) k = tt

-- ---- a file

-- the items of a file as they are typed, where what was read tells the numbers of functions
pub record HasTypedItems (p q : TranslationUnit) : Type 0 where
  pub items : List FileItem
  pub read : FileItemsTypedAs (items_of_file p) items
  pub enums : enums_among items ≡ q.enums
  pub typedefs : typedefs_among items ≡ q.typedefs
  pub globals : globals_among items ≡ q.globals
  pub functions : functions_among items ≡ q.funcs
  pub typed : ItemsTyped p (sight_with q q.structs) items
  pub values : SeesToEnd p (sight_with q q.structs) items
  pub names : q.names ≡ p.names
  pub texts : q.texts ≡ p.texts
  pub strays : q.strays ≡ p.strays

pub has_typed_items : (p q : TranslationUnit) → InTextOrder p → typed_unit p ≡ Good q → HasTypedItems p q
has_typed_items p q o is = gives_of (HasTypedItems p) (typed_unit p) q
    (gives_one (AreItems p (at_start p) (items_of_file p)) (HasTypedItems p) (typed_items_of_file p (at_start p) (items_of_file p)) (λ r. Good (with_progress p r))
    (are_items p [] (at_start p) (first_sight_whole p) (first_known p.structs) (items_of_file p) o.placed o.members) (λ r v. record {
      items = v.items;
      read = v.read;
      enums = sym v.enums;
      typedefs = sym v.typedefs;
      globals = sym v.globals;
      functions = sym v.functions;
      typed = v.typed (levels_from [] r.sight.structs) (tags_of r.enums);
      values = v.values (levels_from [] r.sight.structs) (tags_of r.enums);
      names = refl;
      texts = refl;
      strays = refl;
    })) is
