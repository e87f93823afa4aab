-- The items of a typed file have the numbers of those that were read, and so they stand in the order of the text.
use Rattle.c_model.specs.TypedReadings.{CasesTypedAs}
use Rattle.c_model.specs.Formed.{declared_in_cases}
use Rattle.std.proofs.Common.{◌≡◌, ℕ, suc, ◌≤◌, refl, sym, ap, ◌∙◌, subst, List, [], ◌∷◌, ◌++◌, map, Option, Some, None, Bool, true, false, if◌then◌else◌, nat_lt, arith}
use Rattle.c_syntax.specs.declared.place.Place.{Place}
use Rattle.c_syntax.specs.Statements.{Declaration, Statement, Empty, Eval, Block, If, While, Do, For, Break, Continue, Return, Labelled, ElsePart, NoElse}
use Rattle.c_syntax.specs.Statements.{Else, Switch, Cases, NoCase, AnotherCase}
use Rattle.c_syntax.specs.Statements.{ForFirst, NoFirst, First, BlockItem, Declare, Specify, Run, Asserts, BlockItems, NoItem, Then}
use Rattle.c_syntax.specs.Programs.{StructMember, StructType, EnumConstant, EnumType, Function, TranslationUnit}
use Rattle.c_model.specs.Checked.{Good}
use Rattle.c_model.specs.UnitTyping.{FileItem, StructHead, Member, AnEnum, ATypedef, AGlobal, AFunction, offset_of_item, member_items, struct_items, inserted, in_order, items_of_file}
use Rattle.c_model.specs.UnitTyping.{typed_unit}
use Rattle.c_model.specs.Formed.{number_of, Ascend, declared_within, declared_in_else, declared_in_first, declared_in_item, declared_in_items, declared_in_body}
use Rattle.c_model.specs.TextOrder.{Between, offset_of_constant, numbers_of_item, numbers_of_items, enums_among, typedefs_among, globals_among, functions_among, InTextOrder}
use Rattle.c_model.specs.TypedReadings.{DeclarationsTypedAs, SameDeclarations, EnumeratorsTypedAs, StatementTypedAs, ElseTypedAs, FirstTypedAs, ItemTypedAs}
use Rattle.c_model.specs.TypedReadings.{ItemsTypedAs, BodyTypedAs, FunctionTypedAs}
use Rattle.c_model.specs.TypedFileItems.{members_named, StructsTypedAs, EnumsTypedAs, FunctionsTypedAs, FileTypedAs, ordinary}
use Rattle.c_model.proofs.FileOrder.{further}
use Rattle.c_model.proofs.TypedPrograms.{TypedFile, typed_file}

-- ---- declarations at the same places, with the same names

pub record IsKept (d e : Declaration) : Type 0 where
  pub place : e.place ≡ d.place
  pub name : e.name ≡ d.name
  pub named : e.named ≡ d.named

abbrev pub AreKept : List Declaration → List Declaration → Type 0
AreKept [] [] = Unit {0}
AreKept [] (e ∷ es) = ⊥
AreKept (d ∷ ds) [] = ⊥
AreKept (d ∷ ds) (e ∷ es) = IsKept d e × AreKept ds es

kept_append : (ds es gs hs : List Declaration) → AreKept ds es → AreKept gs hs → AreKept (ds ++ gs) (es ++ hs)
kept_append [] [] gs hs a b = b
kept_append [] (e ∷ es) gs hs a b = absurd a
kept_append (d ∷ ds) [] gs hs a b = absurd a
kept_append (d ∷ ds) (e ∷ es) gs hs a b = (a.0, kept_append ds es gs hs a.1 b)

pub parameters_kept : (ds es : List Declaration) → SameDeclarations ds es → AreKept ds es
parameters_kept [] es h = subst (AreKept []) (sym h) tt
parameters_kept (d ∷ ds) es h =
    subst (AreKept (d ∷ ds)) (sym h.2) (record { place = h.3.place; name = h.3.name; named = h.3.named }, parameters_kept ds h.1 h.4)

pub declarations_kept : (ds es : List Declaration) → DeclarationsTypedAs ds es → AreKept ds es
declarations_kept [] es h = subst (AreKept []) (sym h) tt
declarations_kept (d ∷ ds) es h =
    subst (AreKept (d ∷ ds)) (sym h.2) (record { place = h.3.place; name = h.3.name; named = h.3.named }, declarations_kept ds h.1 h.4)

mutual
  within_kept : (a b : Statement) → StatementTypedAs a b → AreKept (declared_within a) (declared_within b)
  within_kept (Empty at) b h = subst (λ b. AreKept [] (declared_within b)) (sym h) tt
  within_kept (Eval at e) b h = subst (λ b. AreKept [] (declared_within b)) (sym h.1) tt
  within_kept (Block at items) b h = subst (λ b. AreKept (declared_in_items items) (declared_within b)) (sym h.1) (items_kept items h.0 h.2)
  within_kept (If at e a c) b h = subst (λ b. AreKept (declared_within a ++ declared_in_else c) (declared_within b)) (sym h.3)
      (kept_append (declared_within a) (declared_within h.1) (declared_in_else c) (declared_in_else h.2) (within_kept a h.1 h.5) (else_kept c h.2 h.6))
  within_kept (While at annots e a) b h = subst (λ b. AreKept (declared_within a) (declared_within b)) (sym h.2) (within_kept a h.1 h.4)
  within_kept (Do at a e) b h = subst (λ b. AreKept (declared_within a) (declared_within b)) (sym h.2) (within_kept a h.0 h.3)
  within_kept (For at annots first e step a) b h = subst (λ b. AreKept (declared_in_first first ++ declared_within a) (declared_within b)) (sym h.4)
      (kept_append (declared_in_first first) (declared_in_first h.0) (declared_within a) (declared_within h.3) (first_kept first h.0 h.5) (within_kept a h.3 h.8))
  within_kept (Break at) b h = subst (λ b. AreKept [] (declared_within b)) (sym h) tt
  within_kept (Continue at) b h = subst (λ b. AreKept [] (declared_within b)) (sym h) tt
  within_kept (Return at e) b h = subst (λ b. AreKept [] (declared_within b)) (sym h.1) tt
  within_kept (Labelled at l a) b h = subst (λ b. AreKept (declared_within a) (declared_within b)) (sym h.1) (within_kept a h.0 h.2)
  within_kept (Switch at e cases) b h = subst (λ b. AreKept (declared_in_cases cases) (declared_within b)) (sym h.2) (cases_kept cases h.1 h.4)

  cases_kept : (cases cs : Cases) → CasesTypedAs cases cs → AreKept (declared_in_cases cases) (declared_in_cases cs)
  cases_kept NoCase cs h = subst (λ cs. AreKept [] (declared_in_cases cs)) (sym h) tt
  cases_kept (AnotherCase at v items rest) cs h =
      subst (λ cs. AreKept (declared_in_items items ++ declared_in_cases rest) (declared_in_cases cs)) (sym h.3)
      (kept_append (declared_in_items items) (declared_in_items h.1) (declared_in_cases rest) (declared_in_cases h.2) (items_kept items h.1 h.5) (cases_kept rest h.2 h.6))

  else_kept : (a b : ElsePart) → ElseTypedAs a b → AreKept (declared_in_else a) (declared_in_else b)
  else_kept NoElse b h = subst (λ b. AreKept [] (declared_in_else b)) (sym h) tt
  else_kept (Else a) b h = subst (λ b. AreKept (declared_within a) (declared_in_else b)) (sym h.1) (within_kept a h.0 h.2)

  first_kept : (a b : ForFirst) → FirstTypedAs a b → AreKept (declared_in_first a) (declared_in_first b)
  first_kept NoFirst b h = subst (λ b. AreKept [] (declared_in_first b)) (sym h) tt
  first_kept (First i) b h = subst (λ b. AreKept (declared_in_item i) (declared_in_first b)) (sym h.1) (item_kept i h.0 h.2)

  item_kept : (a b : BlockItem) → ItemTypedAs a b → AreKept (declared_in_item a) (declared_in_item b)
  item_kept (Declare ds) b h = subst (λ b. AreKept ds (declared_in_item b)) (sym h.1) (declarations_kept ds h.0 h.2)
  item_kept (Specify at t) b h = subst (λ b. AreKept [] (declared_in_item b)) (sym h.1) tt
  item_kept (Run a) b h = subst (λ b. AreKept (declared_within a) (declared_in_item b)) (sym h.1) (within_kept a h.0 h.2)
  item_kept (Asserts annots) b h = subst (λ b. AreKept [] (declared_in_item b)) (sym h) tt

  items_kept : (a b : BlockItems) → ItemsTypedAs a b → AreKept (declared_in_items a) (declared_in_items b)
  items_kept NoItem b h = subst (λ b. AreKept [] (declared_in_items b)) (sym h) tt
  items_kept (Then i rest) b h = subst (λ b. AreKept (declared_in_item i ++ declared_in_items rest) (declared_in_items b)) (sym h.2)
      (kept_append (declared_in_item i) (declared_in_item h.0) (declared_in_items rest) (declared_in_items h.1) (item_kept i h.0 h.3) (items_kept rest h.1 h.4))

same_declared : (ds es : List Declaration) → ds ≡ es → AreKept ds es
same_declared ds es e = subst (AreKept ds) e (all_same ds)
  where
    all_same : (ds : List Declaration) → AreKept ds ds
    all_same [] = tt
    all_same (d ∷ ds) = (record { place = refl; name = refl; named = refl }, all_same ds)

pub body_kept : (a b : Option Statement) → BodyTypedAs a b → AreKept (declared_in_body a) (declared_in_body b)
body_kept None b h = same_declared [] (declared_in_body b) (ap declared_in_body (sym h))
body_kept (Some (Block at items)) b h = subst (λ b. AreKept (declared_in_items items) (declared_in_body b)) (sym h.1) (items_kept items h.0 h.2)
body_kept (Some (Empty at)) b h = same_declared [] (declared_in_body b) (ap declared_in_body (sym h))
body_kept (Some (Eval at e)) b h = same_declared [] (declared_in_body b) (ap declared_in_body (sym h))
body_kept (Some (If at e a c)) b h = same_declared _ (declared_in_body b) (ap declared_in_body (sym h))
body_kept (Some (While at annots e a)) b h = same_declared _ (declared_in_body b) (ap declared_in_body (sym h))
body_kept (Some (Do at a e)) b h = same_declared _ (declared_in_body b) (ap declared_in_body (sym h))
body_kept (Some (For at annots first e step a)) b h = same_declared _ (declared_in_body b) (ap declared_in_body (sym h))
body_kept (Some (Break at)) b h = same_declared [] (declared_in_body b) (ap declared_in_body (sym h))
body_kept (Some (Continue at)) b h = same_declared [] (declared_in_body b) (ap declared_in_body (sym h))
body_kept (Some (Return at e)) b h = same_declared [] (declared_in_body b) (ap declared_in_body (sym h))
body_kept (Some (Labelled at l a)) b h = same_declared _ (declared_in_body b) (ap declared_in_body (sym h))
body_kept (Some (Switch at e cases)) b h = same_declared _ (declared_in_body b) (ap declared_in_body (sym h))

-- ---- numbers

pub same_numbers : (ds es : List Declaration) → AreKept ds es → map number_of es ≡ map number_of ds
same_numbers [] [] h = refl
same_numbers [] (e ∷ es) h = absurd h
same_numbers (d ∷ ds) [] h = absurd h
same_numbers (d ∷ ds) (e ∷ es) h = let rest = same_numbers ds es h.1 in λ i. (h.0.place i).offset ∷ rest i

-- two items with the same numbers, of which the first is the item's own
record IsAlike (i j : FileItem) : Type 0 where
  offset : offset_of_item j ≡ offset_of_item i
  numbers : numbers_of_item j ≡ numbers_of_item i

abbrev AreAlike : List FileItem → List FileItem → Type 0
AreAlike [] [] = Unit {0}
AreAlike [] (j ∷ js) = ⊥
AreAlike (i ∷ is) [] = ⊥
AreAlike (i ∷ is) (j ∷ js) = IsAlike i j × AreAlike is js

alike_append : (is js ks ls : List FileItem) → AreAlike is js → AreAlike ks ls → AreAlike (is ++ ks) (js ++ ls)
alike_append [] [] ks ls a b = b
alike_append [] (j ∷ js) ks ls a b = absurd a
alike_append (i ∷ is) [] ks ls a b = absurd a
alike_append (i ∷ is) (j ∷ js) ks ls a b = (a.0, alike_append is js ks ls a.1 b)

alike_inserted : (i j : FileItem) → IsAlike i j → (is js : List FileItem) → AreAlike is js → AreAlike (inserted i is) (inserted j js)
alike_inserted i j a [] [] b = (a, tt)
alike_inserted i j a [] (l ∷ ls) b = absurd b
alike_inserted i j a (k ∷ ks) [] b = absurd b
alike_inserted i j a (k ∷ ks) (l ∷ ls) b =
    let test : nat_lt (offset_of_item l) (offset_of_item j) ≡ nat_lt (offset_of_item k) (offset_of_item i) = λ x. nat_lt (b.0.offset x) (a.offset x) in
    subst (λ t. AreAlike (inserted i (k ∷ ks)) (if t then l ∷ inserted j ls else j ∷ l ∷ ls)) (sym test)
    (by (nat_lt (offset_of_item k) (offset_of_item i)) (alike_inserted i j a ks ls b.1))
  where
    by : (t : Bool) → AreAlike (inserted i ks) (inserted j ls) → AreAlike (if t then k ∷ inserted i ks else i ∷ k ∷ ks) (if t then l ∷ inserted j ls else j ∷ l ∷ ls)
    by true h = (b.0, h)
    by false h = (a, (b.0, b.1))

alike_in_order : (is js : List FileItem) → AreAlike is js → AreAlike (in_order is) (in_order js)
alike_in_order [] [] a = tt
alike_in_order [] (j ∷ js) a = absurd a
alike_in_order (i ∷ is) [] a = absurd a
alike_in_order (i ∷ is) (j ∷ js) a = alike_inserted i j a.0 (in_order is) (in_order js) (alike_in_order is js a.1)

alike_numbers : (is js : List FileItem) → AreAlike is js → numbers_of_items js ≡ numbers_of_items is
alike_numbers [] [] a = refl
alike_numbers [] (j ∷ js) a = absurd a
alike_numbers (i ∷ is) [] a = absurd a
alike_numbers (i ∷ is) (j ∷ js) a = let rest = alike_numbers is js a.1 in λ x. a.0.numbers x ++ rest x

-- ---- items of each kind

abbrev first_named : List (Place × ℕ) → ℕ
first_named [] = 0
first_named (x ∷ xs) = x.0.offset

abbrev tail_named : List (Place × ℕ) → List (Place × ℕ)
tail_named [] = []
tail_named (x ∷ xs) = xs

members_alike : (k : ℕ) (ms ns : List StructMember) → members_named ns ≡ members_named ms → AreAlike (member_items k ms) (member_items k ns)
members_alike k [] [] e = tt
members_alike k [] (n ∷ ns) e = absurd (let wrong : members_named (n ∷ ns) ≡ [] = e in cc)
members_alike k (m ∷ ms) [] e = absurd (let wrong : [] ≡ members_named (m ∷ ms) = e in cc)
members_alike k (m ∷ ms) (n ∷ ns) e =
    let first : first_named (members_named (n ∷ ns)) ≡ first_named (members_named (m ∷ ms)) = ap first_named e in
    let rest : members_named ns ≡ members_named ms = ap tail_named e in
    by first ms ns rest (members_alike k ms ns rest)
  where
    by : n.place.offset ≡ m.place.offset → (ms ns : List StructMember) → members_named ns ≡ members_named ms → AreAlike (member_items k ms) (member_items k ns)
        → AreAlike (member_items k (m ∷ ms)) (member_items k (n ∷ ns))
    by o [] [] e h = (record { offset = o; numbers = ap (λ x. x ∷ []) o }, tt)
    by o [] (y ∷ ys) e h = absurd (let wrong : members_named (y ∷ ys) ≡ [] = e in cc)
    by o (x ∷ xs) [] e h = absurd (let wrong : [] ≡ members_named (x ∷ xs) = e in cc)
    by o (x ∷ xs) (y ∷ ys) e h = (record { offset = o; numbers = ap (λ x. x ∷ []) o }, h)

structs_alike : (k : ℕ) (ss xs : List StructType) → StructsTypedAs ss xs → AreAlike (struct_items k ss) (struct_items k xs)
structs_alike k [] [] h = tt
structs_alike k [] (x ∷ xs) h = absurd h
structs_alike k (s ∷ ss) [] h = absurd h
structs_alike k (s ∷ ss) (x ∷ xs) h = (
  record { offset = ap (λ p. p.offset) h.0.place; numbers = ap (λ p. p.offset ∷ []) h.0.place },
  alike_append (member_items k s.members) (member_items k x.members) (struct_items (suc k) ss) (struct_items (suc k) xs)
      (members_alike k s.members x.members h.0.members) (structs_alike (suc k) ss xs h.1),
)

same_constants : (cs ds : List EnumConstant) → EnumeratorsTypedAs cs ds → map offset_of_constant ds ≡ map offset_of_constant cs
same_constants [] ds h = ap (map offset_of_constant) h
same_constants (c ∷ cs) ds h = let rest = same_constants cs h.1 h.4 in ap (map offset_of_constant) h.2 ∙ (λ i. (h.3.place i).offset ∷ rest i)

enums_alike : (es fs : List EnumType) → EnumsTypedAs es fs → AreAlike (map AnEnum es) (map AnEnum fs)
enums_alike [] fs h = subst (λ l. AreAlike [] (map AnEnum l)) (sym h) tt
enums_alike (e ∷ es) fs h =
    let constants = same_constants e.items h.0.items h.3.items in
    subst (λ l. AreAlike (map AnEnum (e ∷ es)) (map AnEnum l)) (sym h.2)
    (record { offset = ap (λ p. p.offset) h.3.place; numbers = λ i. (h.3.place i).offset ∷ constants i }, enums_alike es h.1 h.4)

typedefs_alike : (ds es : List Declaration) → AreKept ds es → AreAlike (map ATypedef ds) (map ATypedef es)
typedefs_alike [] [] h = tt
typedefs_alike [] (e ∷ es) h = absurd h
typedefs_alike (d ∷ ds) [] h = absurd h
typedefs_alike (d ∷ ds) (e ∷ es) h = (record { offset = ap (λ p. p.offset) h.0.place; numbers = ap (λ p. p.offset ∷ []) h.0.place }, typedefs_alike ds es h.1)

globals_alike : (ds es : List Declaration) → AreKept ds es → AreAlike (map AGlobal ds) (map AGlobal es)
globals_alike [] [] h = tt
globals_alike [] (e ∷ es) h = absurd h
globals_alike (d ∷ ds) [] h = absurd h
globals_alike (d ∷ ds) (e ∷ es) h = (record { offset = ap (λ p. p.offset) h.0.place; numbers = ap (λ p. p.offset ∷ []) h.0.place }, globals_alike ds es h.1)

declared_kept : (f g : Function) → FunctionTypedAs f g → AreKept (f.params ++ declared_in_body f.body) (g.params ++ declared_in_body g.body)
declared_kept f g h = kept_append f.params g.params (declared_in_body f.body) (declared_in_body g.body) (parameters_kept f.params g.params h.params) (body_kept f.body g.body h.body)

functions_alike : (fs gs : List Function) → FunctionsTypedAs fs gs → AreAlike (map AFunction fs) (map AFunction gs)
functions_alike [] gs h = subst (λ l. AreAlike [] (map AFunction l)) (sym h) tt
functions_alike (f ∷ fs) gs h =
    let inside = same_numbers (f.params ++ declared_in_body f.body) (h.0.params ++ declared_in_body h.0.body) (declared_kept f h.0 h.3) in
    subst (λ l. AreAlike (map AFunction (f ∷ fs)) (map AFunction l)) (sym h.2)
    (record { offset = ap (λ p. p.offset) h.3.place; numbers = λ i. (h.3.place i).offset ∷ inside i }, functions_alike fs h.1 h.4)

-- ---- files

pub same_items_numbers : (p q : TranslationUnit) → FileTypedAs p q → numbers_of_items (items_of_file q) ≡ numbers_of_items (items_of_file p)
same_items_numbers p q h = alike_numbers (items_of_file p) (items_of_file q) (alike_in_order _ _
    (alike_append (struct_items 0 p.structs) (struct_items 0 q.structs) _ _ (structs_alike 0 p.structs q.structs h.structs)
    (alike_append (map AnEnum p.enums) (map AnEnum q.enums) _ _ (enums_alike p.enums q.enums h.enums)
    (alike_append (map ATypedef p.typedefs) (map ATypedef q.typedefs) _ _ (typedefs_alike p.typedefs q.typedefs (parameters_kept p.typedefs q.typedefs h.typedefs))
    (alike_append (map AGlobal p.globals) (map AGlobal q.globals) (map AFunction p.funcs) (map AFunction q.funcs)
    (globals_alike p.globals q.globals (declarations_kept p.globals q.globals h.globals)) (functions_alike p.funcs q.funcs h.functions))))))

-- ---- the declarations of each kind, structs aside

ordinary_enums : (is : List FileItem) → enums_among (ordinary is) ≡ enums_among is
ordinary_enums [] = refl
ordinary_enums (StructHead k s ∷ is) = ordinary_enums is
ordinary_enums (Member k m ends ∷ is) = ordinary_enums is
ordinary_enums (AnEnum e ∷ is) = ap (λ l. e ∷ l) (ordinary_enums is)
ordinary_enums (ATypedef d ∷ is) = ordinary_enums is
ordinary_enums (AGlobal d ∷ is) = ordinary_enums is
ordinary_enums (AFunction f ∷ is) = ordinary_enums is

ordinary_typedefs : (is : List FileItem) → typedefs_among (ordinary is) ≡ typedefs_among is
ordinary_typedefs [] = refl
ordinary_typedefs (StructHead k s ∷ is) = ordinary_typedefs is
ordinary_typedefs (Member k m ends ∷ is) = ordinary_typedefs is
ordinary_typedefs (AnEnum e ∷ is) = ordinary_typedefs is
ordinary_typedefs (ATypedef d ∷ is) = ap (λ l. d ∷ l) (ordinary_typedefs is)
ordinary_typedefs (AGlobal d ∷ is) = ordinary_typedefs is
ordinary_typedefs (AFunction f ∷ is) = ordinary_typedefs is

ordinary_globals : (is : List FileItem) → globals_among (ordinary is) ≡ globals_among is
ordinary_globals [] = refl
ordinary_globals (StructHead k s ∷ is) = ordinary_globals is
ordinary_globals (Member k m ends ∷ is) = ordinary_globals is
ordinary_globals (AnEnum e ∷ is) = ordinary_globals is
ordinary_globals (ATypedef d ∷ is) = ordinary_globals is
ordinary_globals (AGlobal d ∷ is) = ap (λ l. d ∷ l) (ordinary_globals is)
ordinary_globals (AFunction f ∷ is) = ordinary_globals is

ordinary_functions : (is : List FileItem) → functions_among (ordinary is) ≡ functions_among is
ordinary_functions [] = refl
ordinary_functions (StructHead k s ∷ is) = ordinary_functions is
ordinary_functions (Member k m ends ∷ is) = ordinary_functions is
ordinary_functions (AnEnum e ∷ is) = ordinary_functions is
ordinary_functions (ATypedef d ∷ is) = ordinary_functions is
ordinary_functions (AGlobal d ∷ is) = ordinary_functions is
ordinary_functions (AFunction f ∷ is) = ap (λ l. f ∷ l) (ordinary_functions is)

-- ---- globals ascend

globals_from : (low : ℕ) (is : List FileItem) (high : ℕ) → Between low (numbers_of_items is) high → (low2 : ℕ) → low2 ≤ low → Ascend low2 (map number_of (globals_among is))
globals_from low [] high b low2 l = tt
globals_from low (StructHead k s ∷ is) high b low2 l = globals_from (suc s.place.offset) is high b.1 low2 (omega (arith, l, b.0))
globals_from low (Member k m ends ∷ is) high b low2 l = globals_from (suc m.place.offset) is high b.1 low2 (omega (arith, l, b.0))
globals_from low (AnEnum e ∷ is) high b low2 l =
    let h = further (suc e.place.offset) (map offset_of_constant e.items) (numbers_of_items is) high b.1 in
    globals_from h.from is high h.between low2 (omega (arith, l, b.0, h.more))
globals_from low (ATypedef d ∷ is) high b low2 l = globals_from (suc d.place.offset) is high b.1 low2 (omega (arith, l, b.0))
globals_from low (AGlobal d ∷ is) high b low2 l =
    (omega (arith, l, b.0), globals_from (suc d.place.offset) is high b.1 (suc d.place.offset) (omega arith))
globals_from low (AFunction f ∷ is) high b low2 l =
    let h = further (suc f.place.offset) (map number_of (f.params ++ declared_in_body f.body)) (numbers_of_items is) high b.1 in
    globals_from h.from is high h.between low2 (omega (arith, l, b.0, h.more))

-- the places of a typed file, which are those that were read
pub record TypedInOrder (q : TranslationUnit) : Type 0 where
  pub numbers : Between 0 (numbers_of_items (items_of_file q)) 4294967295
  pub enums : enums_among (items_of_file q) ≡ q.enums
  pub typedefs : typedefs_among (items_of_file q) ≡ q.typedefs
  pub globals : globals_among (items_of_file q) ≡ q.globals
  pub functions : functions_among (items_of_file q) ≡ q.funcs
  pub globals_ascend : Ascend 0 (map number_of q.globals)

pub typed_in_order : (p q : TranslationUnit) → InTextOrder p → typed_unit p ≡ Good q → TypedInOrder q
typed_in_order p q o is = record {
  numbers = numbers;
  enums = sym (ordinary_enums (items_of_file q)) ∙ ap enums_among t.ordinary_items ∙ ordinary_enums t.items ∙ t.has.enums;
  typedefs = sym (ordinary_typedefs (items_of_file q)) ∙ ap typedefs_among t.ordinary_items ∙ ordinary_typedefs t.items ∙ t.has.typedefs;
  globals = globals;
  functions = sym (ordinary_functions (items_of_file q)) ∙ ap functions_among t.ordinary_items ∙ ordinary_functions t.items ∙ t.has.functions;
  globals_ascend = subst (λ l. Ascend 0 (map number_of l)) globals (globals_from 0 (items_of_file q) 4294967295 numbers 0 (omega arith));
}
  where
    t : TypedFile p q
    t = typed_file p q o is

    numbers : Between 0 (numbers_of_items (items_of_file q)) 4294967295
    numbers = subst (λ l. Between 0 l 4294967295) (sym (same_items_numbers p q t.read)) o.numbers

    globals : globals_among (items_of_file q) ≡ q.globals
    globals = sym (ordinary_globals (items_of_file q)) ∙ ap globals_among t.ordinary_items ∙ ordinary_globals t.items ∙ t.has.globals
