-- The items of a file in the order of the text.
use Rattle.std.proofs.Common.{◌≡◌, ℕ, suc, refl, sym, ap, ◌∙◌, List, [], ◌∷◌, ◌++◌, append_assoc, map, Bool, true, false, cond, nat_lt, Option, Some, None}
use Rattle.std.proofs.lemmas.List.{map-append}
use Rattle.std.specs.Ordering.{nat_cmp}
use Rattle.std.specs.List.Sorted.{IsNonDecreasingBy, IsStableByKey}
use Rattle.c_syntax.specs.declared.program.Layout.{Layout}
use Rattle.c_syntax.specs.Programs.{StructMember, TranslationUnit, plain_layout}
use Rattle.c_model.specs.UnitTyping.{FileItem, StructHead, Member, AnEnum, ATypedef, AGlobal, AFunction, offset_of_item, member_items, struct_items, unknown, inserted, in_order, items_of_file, with_tag}
use Rattle.c_typing.specs.declared.item.FileItem as code
use Rattle.c_typing.specs.Files.{bare, head_at, plain_file_item}
use Rattle.c_typing.proofs.Orders.{ins, by_insertion, sorted_is}

-- a tag that may be there stands before those of the rest
pub with_tag_then : (tags rest : List ℕ) (tag : Option ℕ) → with_tag tags tag ++ rest ≡ tags ++ elim tag [ None ↦ rest | Some x ↦ x ∷ rest ]
with_tag_then tags rest None = refl
with_tag_then tags rest (Some x) = append_assoc tags (x ∷ []) rest

-- the number by which the code sorts
abbrev pub offset_of : code.FileItem → ℕ
offset_of i = offset_of_item (plain_file_item i)

plain_inserted : (i : code.FileItem) (js : List code.FileItem) → map plain_file_item (ins offset_of i js) ≡ inserted (plain_file_item i) (map plain_file_item js)
plain_inserted i [] = refl
plain_inserted i (j ∷ js) = by (nat_lt (offset_of j) (offset_of i)) (plain_inserted i js)
  where
    by : (b : Bool) → map plain_file_item (ins offset_of i js) ≡ inserted (plain_file_item i) (map plain_file_item js)
        → map plain_file_item (cond b (j ∷ ins offset_of i js) (i ∷ j ∷ js)) ≡ cond b (plain_file_item j ∷ inserted (plain_file_item i) (map plain_file_item js)) (plain_file_item i ∷ plain_file_item j ∷ map plain_file_item js)
    by true so = ap (λ l. plain_file_item j ∷ l) so
    by false so = refl

plain_in_order : (is : List code.FileItem) → map plain_file_item (by_insertion offset_of is) ≡ in_order (map plain_file_item is)
plain_in_order [] = refl
plain_in_order (i ∷ is) = plain_inserted i (by_insertion offset_of is) ∙ ap (inserted (plain_file_item i)) (plain_in_order is)

pub sorted_items : (xs ys : List code.FileItem) → IsNonDecreasingBy offset_of ys → IsStableByKey offset_of nat_cmp xs ys → map plain_file_item ys ≡ in_order (map plain_file_item xs)
sorted_items xs ys up stable = ap (map plain_file_item) (sorted_is offset_of xs ys up stable) ∙ plain_in_order xs

-- ---- what is left out of heads moves no item

bare_offset : (i : FileItem) → offset_of_item (bare i) ≡ offset_of_item i
bare_offset (StructHead k s) = refl
bare_offset (Member k m ends) = refl
bare_offset (AnEnum e) = refl
bare_offset (ATypedef d) = refl
bare_offset (AGlobal d) = refl
bare_offset (AFunction f) = refl

bare_inserted : (i : FileItem) (js : List FileItem) → inserted (bare i) (map bare js) ≡ map bare (inserted i js)
bare_inserted i [] = refl
bare_inserted i (j ∷ js) = (λ k. cond (nat_lt (bare_offset j k) (bare_offset i k)) (bare j ∷ bare_inserted i js k) (bare i ∷ bare j ∷ map bare js)) ∙ by (nat_lt (offset_of_item j) (offset_of_item i))
  where
    by : (b : Bool) → cond b (bare j ∷ map bare (inserted i js)) (bare i ∷ bare j ∷ map bare js) ≡ map bare (cond b (j ∷ inserted i js) (i ∷ j ∷ js))
    by true = refl
    by false = refl

bare_in_order : (is : List FileItem) → in_order (map bare is) ≡ map bare (in_order is)
bare_in_order [] = refl
bare_in_order (i ∷ is) = ap (inserted (bare i)) (bare_in_order is) ∙ bare_inserted i (in_order is)

bare_kind : {A : Type 0} (f : A → FileItem) → ((a : A) → bare (f a) ≡ f a) → (xs : List A) → map bare (map f xs) ≡ map f xs
bare_kind f same [] = refl
bare_kind f same (x ∷ xs) = (λ i. same x i ∷ bare_kind f same xs i)

abbrev pub by_kind : TranslationUnit → List FileItem
by_kind p = map bare (struct_items 0 p.structs) ++ (map AnEnum p.enums ++ (map ATypedef p.typedefs ++ (map AGlobal p.globals ++ map AFunction p.funcs)))

pub by_kind_is : (p : TranslationUnit) → in_order (by_kind p) ≡ map bare (items_of_file p)
by_kind_is p =
    let rest : map bare (map AnEnum p.enums ++ (map ATypedef p.typedefs ++ (map AGlobal p.globals ++ map AFunction p.funcs))) ≡ (map AnEnum p.enums ++ (map ATypedef p.typedefs ++ (map AGlobal p.globals ++ map AFunction p.funcs))) =
    map-append bare (map AnEnum p.enums) (map ATypedef p.typedefs ++ (map AGlobal p.globals ++ map AFunction p.funcs))
    ∙ (λ i. bare_kind AnEnum (λ e. refl) p.enums i ++ map-append bare (map ATypedef p.typedefs) (map AGlobal p.globals ++ map AFunction p.funcs) i)
    ∙ ap (λ l. map AnEnum p.enums ++ l) ((λ i. bare_kind ATypedef (λ e. refl) p.typedefs i ++ map-append bare (map AGlobal p.globals) (map AFunction p.funcs) i)
    ∙ ap (λ l. map ATypedef p.typedefs ++ l) (λ i. bare_kind AGlobal (λ e. refl) p.globals i ++ bare_kind AFunction (λ e. refl) p.funcs i)) in
    ap in_order (sym (map-append bare (struct_items 0 p.structs) (map AnEnum p.enums ++ (map ATypedef p.typedefs ++ (map AGlobal p.globals ++ map AFunction p.funcs))) ∙ ap (λ l. map bare (struct_items 0 p.structs) ++ l) rest))
    ∙ bare_in_order (struct_items 0 p.structs ++ (map AnEnum p.enums ++ (map ATypedef p.typedefs ++ (map AGlobal p.globals ++ map AFunction p.funcs))))

-- ---- structs

bare_members : (k : ℕ) (ms : List StructMember) → map bare (member_items k ms) ≡ member_items k ms
bare_members k [] = refl
bare_members k (m ∷ []) = refl
bare_members k (m ∷ n ∷ ms) = ap (λ l. Member k m false ∷ l) (bare_members k (n ∷ ms))

-- one more struct is taken
pub structs_more : (k : ℕ) (done done' all : List FileItem) (list : List Layout) (s : Layout) (rest : List Layout) → done ++ map bare (struct_items k (map plain_layout list)) ≡ all → list ≡ s ∷ rest
    → done' ≡ done ++ head_at s.place s.tag ∷ member_items k (plain_layout s).members → done' ++ map bare (struct_items (suc k) (map plain_layout rest)) ≡ all
structs_more k done done' all list s rest before is more =
    let ms = (plain_layout s).members in
    let behind = map bare (struct_items (suc k) (map plain_layout rest)) in
    ap (λ l. l ++ behind) more ∙ append_assoc done (head_at s.place s.tag ∷ member_items k ms) behind
    ∙ ap (λ l. done ++ head_at s.place s.tag ∷ l) (ap (λ l. l ++ behind) (sym (bare_members k ms)) ∙ sym (map-append bare (member_items k ms) (struct_items (suc k) (map plain_layout rest))))
    ∙ ap (λ l. done ++ map bare (struct_items k (map plain_layout l))) (sym is) ∙ before

pub structs_left : (xs xs' ys ys' : List Layout) (x y : Layout) → xs' ≡ xs ++ x ∷ [] → ys' ≡ ys ++ y ∷ [] → map plain_layout ys ≡ map unknown (map plain_layout xs) → plain_layout y ≡ unknown (plain_layout x)
    → map plain_layout ys' ≡ map unknown (map plain_layout xs')
structs_left xs xs' ys ys' x y ex ey before is =
    ap (map plain_layout) ey ∙ map-append plain_layout ys (y ∷ []) ∙ (λ i. before i ++ is i ∷ [])
    ∙ sym (ap (λ l. map unknown (map plain_layout l)) ex ∙ ap (map unknown) (map-append plain_layout xs (x ∷ [])) ∙ map-append unknown (map plain_layout xs) (plain_layout x ∷ []))

-- ---- members
