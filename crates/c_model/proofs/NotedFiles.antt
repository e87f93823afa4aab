-- A typed file whose asserts are typed is the file itself but for its asserts: its items stand in the same order, each with the same in sight,
-- and it is typed as before.
use Rattle.std.proofs.Common.{◌≡◌, ℕ, suc, List, [], ◌∷◌, ◌++◌, map, Option, Some, Bool, true, false, ◌&&◌, cond, if◌then◌else◌, nat_eq, nat_lt, refl, sym, ap, ◌∙◌, subst, arith}
use Rattle.std.proofs.lemmas.Bool.Decides.{nat_tests}
use Rattle.c_syntax.specs.Statements.{Declaration, Statement}
use Rattle.c_syntax.specs.Programs.{StructMember, StructType, EnumType, FunctionContract, Function, TranslationUnit}
use Rattle.c_model.specs.Library.{is_there}
use Rattle.c_model.specs.Meaning.{is_definition}
use Rattle.c_model.specs.UnitTyping.{FileItem, StructHead, Member, AnEnum, ATypedef, AGlobal, AFunction, offset_of_item, member_items, struct_items, inserted, in_order, items_of_file}
use Rattle.c_model.specs.UnitTyping.{definition_of, first_declaration, number_or, signature}
use Rattle.c_model.specs.TextOrder.{Between, functions_among}
use Rattle.c_model.proofs.SignaturesInSight.{offsets_of}

-- ---- functions with typed annotations

-- g is f with another contract and another body, where it has one
pub record HasOtherBody (f g : Function) : Type 0 where
  pub contract : Option FunctionContract
  pub body : Option Statement
  pub is : g ≡ record f { contract = contract; body = body }
  pub there : is_there body ≡ is_there f.body

abbrev pub HaveOtherBodies : List Function → List Function → Type 0
HaveOtherBodies [] [] = Unit {0}
HaveOtherBodies [] (g ∷ gs) = ⊥
HaveOtherBodies (f ∷ fs) [] = ⊥
HaveOtherBodies (f ∷ fs) (g ∷ gs) = HasOtherBody f g × HaveOtherBodies fs gs

pub same_place : (f g : Function) → HasOtherBody f g → g.place.offset ≡ f.place.offset
same_place f g h = ap (λ (x : Function). x.place.offset) h.is

pub same_name : (f g : Function) → HasOtherBody f g → g.name ≡ f.name
same_name f g h = ap (λ (x : Function). x.name) h.is

pub same_definition : (f g : Function) → HasOtherBody f g → is_definition g ≡ is_definition f
same_definition f g h = ap (λ (x : Function). is_definition x) h.is ∙ h.there

-- ---- signatures

same_definition_of : (x : ℕ) (fs gs : List Function) → HaveOtherBodies fs gs → definition_of x gs ≡ definition_of x fs
same_definition_of x [] [] h = refl
same_definition_of x [] (g ∷ gs) h = absurd h
same_definition_of x (f ∷ fs) [] h = absurd h
same_definition_of x (f ∷ fs) (g ∷ gs) h =
    ap (λ d. cond (d && nat_eq g.name x) (Some g.place.offset) (definition_of x gs)) (same_definition f g h.0)
    ∙ ap (λ n. cond (is_definition f && nat_eq n x) (Some g.place.offset) (definition_of x gs)) (same_name f g h.0)
    ∙ ap (λ n. cond (is_definition f && nat_eq f.name x) (Some n) (definition_of x gs)) (same_place f g h.0)
    ∙ ap (cond (is_definition f && nat_eq f.name x) (Some f.place.offset)) (same_definition_of x fs gs h.1)

same_first_of : (x : ℕ) (fs gs : List Function) → HaveOtherBodies fs gs → first_declaration x gs ≡ first_declaration x fs
same_first_of x [] [] h = refl
same_first_of x [] (g ∷ gs) h = absurd h
same_first_of x (f ∷ fs) [] h = absurd h
same_first_of x (f ∷ fs) (g ∷ gs) h =
    ap (λ n. cond (nat_eq n x) g.place.offset (first_declaration x gs)) (same_name f g h.0)
    ∙ ap (λ n. cond (nat_eq f.name x) n (first_declaration x gs)) (same_place f g h.0)
    ∙ ap (cond (nat_eq f.name x) f.place.offset) (same_first_of x fs gs h.1)

pub same_signature_of : (fs gs : List Function) (f g : Function) → HaveOtherBodies fs gs → HasOtherBody f g → signature gs g ≡ signature fs f
same_signature_of fs gs f g a h =
    ap (signature gs) h.is
    ∙ ap (λ o. record { name = f.name; decl = number_or o (first_declaration f.name gs); defined = is_there o; params = map (λ (d : Declaration). d.ctype) f.params; result = f.result }) (same_definition_of f.name fs gs a)
    ∙ ap (λ n. record { name = f.name; decl = number_or (definition_of f.name fs) n; defined = is_there (definition_of f.name fs); params = map (λ (d : Declaration). d.ctype) f.params; result = f.result })
    (same_first_of f.name fs gs a)

-- ---- items, where functions have other bodies

-- these functions in the places of those among the items
abbrev pub with_functions : List FileItem → List Function → List FileItem
with_functions [] gs = []
with_functions (AFunction f ∷ is) [] = AFunction f ∷ with_functions is []
with_functions (AFunction f ∷ is) (g ∷ gs) = AFunction g ∷ with_functions is gs
with_functions (StructHead k s ∷ is) gs = StructHead k s ∷ with_functions is gs
with_functions (Member k m ends ∷ is) gs = Member k m ends ∷ with_functions is gs
with_functions (AnEnum e ∷ is) gs = AnEnum e ∷ with_functions is gs
with_functions (ATypedef d ∷ is) gs = ATypedef d ∷ with_functions is gs
with_functions (AGlobal d ∷ is) gs = AGlobal d ∷ with_functions is gs

abbrev IsOther : FileItem → Type 0
IsOther (AFunction f) = ⊥
IsOther (StructHead k s) = Unit {0}
IsOther (Member k m ends) = Unit {0}
IsOther (AnEnum e) = Unit {0}
IsOther (ATypedef d) = Unit {0}
IsOther (AGlobal d) = Unit {0}

abbrev AreOthers : List FileItem → Type 0
AreOthers [] = Unit {0}
AreOthers (i ∷ is) = IsOther i × AreOthers is

other_among : (i : FileItem) (is : List FileItem) → IsOther i → functions_among (i ∷ is) ≡ functions_among is
other_among (AFunction f) is o = absurd o
other_among (StructHead k s) is o = refl
other_among (Member k m ends) is o = refl
other_among (AnEnum e) is o = refl
other_among (ATypedef d) is o = refl
other_among (AGlobal d) is o = refl

other_with : (i : FileItem) (is : List FileItem) (gs : List Function) → IsOther i → with_functions (i ∷ is) gs ≡ i ∷ with_functions is gs
other_with (AFunction f) is gs o = absurd o
other_with (StructHead k s) is gs o = refl
other_with (Member k m ends) is gs o = refl
other_with (AnEnum e) is gs o = refl
other_with (ATypedef d) is gs o = refl
other_with (AGlobal d) is gs o = refl

-- another item keeps the order of functions
inserted_among : (b : FileItem) (is : List FileItem) → IsOther b → functions_among (inserted b is) ≡ functions_among is
inserted_among b [] o = other_among b [] o
inserted_among b (i ∷ is) o = by (nat_lt (offset_of_item i) (offset_of_item b)) (inserted_among b is o)
  where
    front : (i : FileItem) (xs ys : List FileItem) → functions_among xs ≡ functions_among ys → functions_among (i ∷ xs) ≡ functions_among (i ∷ ys)
    front (AFunction f) xs ys e = ap (λ l. f ∷ l) e
    front (StructHead k s) xs ys e = e
    front (Member k m ends) xs ys e = e
    front (AnEnum x) xs ys e = e
    front (ATypedef d) xs ys e = e
    front (AGlobal d) xs ys e = e

    by : (t : Bool) → functions_among (inserted b is) ≡ functions_among is → functions_among (if t then i ∷ inserted b is else b ∷ i ∷ is) ≡ functions_among (i ∷ is)
    by true e = front i (inserted b is) is e
    by false e = other_among b (i ∷ is) o

behind_other : (b i : FileItem) (is : List FileItem) (gs : List Function) → IsOther b → IsOther i → inserted b (with_functions is gs) ≡ with_functions (inserted b is) gs
    → inserted b (with_functions (i ∷ is) gs) ≡ with_functions (inserted b (i ∷ is)) gs
behind_other b i is gs o q h = ap (inserted b) (other_with i is gs q) ∙ by (nat_lt (offset_of_item i) (offset_of_item b))
  where
    by : (t : Bool) → (if t then i ∷ inserted b (with_functions is gs) else b ∷ i ∷ with_functions is gs) ≡ with_functions (if t then i ∷ inserted b is else b ∷ i ∷ is) gs
    by true = ap (λ l. i ∷ l) h ∙ sym (other_with i (inserted b is) gs q)
    by false = ap (λ l. b ∷ l) (sym (other_with i is gs q)) ∙ sym (other_with b (i ∷ is) gs o)

-- and stands in the same place, whatever the bodies
inserted_with : (b : FileItem) (is : List FileItem) (gs : List Function) → IsOther b → HaveOtherBodies (functions_among is) gs → inserted b (with_functions is gs) ≡ with_functions (inserted b is) gs
inserted_with b [] gs o h = sym (other_with b [] gs o)
inserted_with b (AFunction f ∷ is) [] o h = absurd h
inserted_with b (AFunction f ∷ is) (g ∷ gs) o h =
    ap (λ n. if nat_lt n (offset_of_item b) then AFunction g ∷ inserted b (with_functions is gs) else b ∷ AFunction g ∷ with_functions is gs) (same_place f g h.0)
    ∙ by (nat_lt f.place.offset (offset_of_item b)) (inserted_with b is gs o h.1)
  where
    by : (t : Bool) → inserted b (with_functions is gs) ≡ with_functions (inserted b is) gs
        → (if t then AFunction g ∷ inserted b (with_functions is gs) else b ∷ AFunction g ∷ with_functions is gs) ≡ with_functions (if t then AFunction f ∷ inserted b is else b ∷ AFunction f ∷ is) (g ∷ gs)
    by true e = ap (λ l. AFunction g ∷ l) e
    by false e = sym (other_with b (AFunction f ∷ is) (g ∷ gs) o)
inserted_with b (StructHead k s ∷ is) gs o h = behind_other b (StructHead k s) is gs o tt (inserted_with b is gs o h)
inserted_with b (Member k m ends ∷ is) gs o h = behind_other b (Member k m ends) is gs o tt (inserted_with b is gs o h)
inserted_with b (AnEnum e ∷ is) gs o h = behind_other b (AnEnum e) is gs o tt (inserted_with b is gs o h)
inserted_with b (ATypedef d ∷ is) gs o h = behind_other b (ATypedef d) is gs o tt (inserted_with b is gs o h)
inserted_with b (AGlobal d ∷ is) gs o h = behind_other b (AGlobal d) is gs o tt (inserted_with b is gs o h)

-- ---- the items of a file

-- functions in the order of the text, behind other items
record Follows (fs gs : List Function) (xs ys : List FileItem) : Type 0 where
  items : in_order ys ≡ with_functions (in_order xs) gs
  functions : functions_among (in_order xs) ≡ fs

follows_others : (fs gs : List Function) (bs xs ys : List FileItem) → HaveOtherBodies fs gs → AreOthers bs → Follows fs gs xs ys → Follows fs gs (bs ++ xs) (bs ++ ys)
follows_others fs gs [] xs ys a o h = h
follows_others fs gs (b ∷ bs) xs ys a o h =
    let rest = follows_others fs gs bs xs ys a o.1 h in
    record {
      items = ap (inserted b) rest.items ∙ inserted_with b (in_order (bs ++ xs)) gs o.0 (subst (λ l. HaveOtherBodies l gs) (sym rest.functions) a);
      functions = inserted_among b (in_order (bs ++ xs)) o.0 ∙ rest.functions;
    }

members_others : (k : ℕ) (ms : List StructMember) → AreOthers (member_items k ms)
members_others k [] = tt
members_others k (m ∷ []) = (tt, tt)
members_others k (m ∷ n ∷ ms) = (tt, members_others k (n ∷ ms))

both_others : (a b : List FileItem) → AreOthers a → AreOthers b → AreOthers (a ++ b)
both_others [] b h k = k
both_others (i ∷ a) b h k = (h.0, both_others a b h.1 k)

structs_others : (k : ℕ) (ss : List StructType) → AreOthers (struct_items k ss)
structs_others k [] = tt
structs_others k (s ∷ ss) = (tt, both_others (member_items k s.members) (struct_items (suc k) ss) (members_others k s.members) (structs_others (suc k) ss))

enums_others : (es : List EnumType) → AreOthers (map AnEnum es)
enums_others [] = tt
enums_others (e ∷ es) = (tt, enums_others es)

typedefs_others : (ds : List Declaration) → AreOthers (map ATypedef ds)
typedefs_others [] = tt
typedefs_others (d ∷ ds) = (tt, typedefs_others ds)

globals_others : (ds : List Declaration) → AreOthers (map AGlobal ds)
globals_others [] = tt
globals_others (d ∷ ds) = (tt, globals_others ds)

-- functions whose numbers ascend are in order
ascending : (low : ℕ) (fs : List Function) (high : ℕ) → Between low (offsets_of fs) high → in_order (map AFunction fs) ≡ map AFunction fs
ascending low [] high h = refl
ascending low (f ∷ fs) high h = ap (inserted (AFunction f)) (ascending (suc f.place.offset) fs high h.1) ∙ by fs h.1
  where
    by : (fs : List Function) → Between (suc f.place.offset) (offsets_of fs) high → inserted (AFunction f) (map AFunction fs) ≡ AFunction f ∷ map AFunction fs
    by [] h = refl
    by (g ∷ fs) h =
        let above = h.0 in
        let behind : nat_lt g.place.offset f.place.offset ≡ false = grind (arith, nat_tests) in
        ap (λ t. if t then AFunction g ∷ inserted (AFunction f) (map AFunction fs) else AFunction f ∷ AFunction g ∷ map AFunction fs) behind

same_offsets : (fs gs : List Function) → HaveOtherBodies fs gs → offsets_of gs ≡ offsets_of fs
same_offsets [] [] h = refl
same_offsets [] (g ∷ gs) h = absurd h
same_offsets (f ∷ fs) [] h = absurd h
same_offsets (f ∷ fs) (g ∷ gs) h = ap (λ n. n ∷ offsets_of gs) (same_place f g h.0) ∙ ap (λ l. f.place.offset ∷ l) (same_offsets fs gs h.1)

all_with : (fs gs : List Function) → HaveOtherBodies fs gs → map AFunction gs ≡ with_functions (map AFunction fs) gs
all_with [] [] h = refl
all_with [] (g ∷ gs) h = absurd h
all_with (f ∷ fs) [] h = absurd h
all_with (f ∷ fs) (g ∷ gs) h = ap (λ l. AFunction g ∷ l) (all_with fs gs h.1)

all_among : (fs : List Function) → functions_among (map AFunction fs) ≡ fs
all_among [] = refl
all_among (f ∷ fs) = ap (λ l. f ∷ l) (all_among fs)

functions_follow : (fs gs : List Function) → HaveOtherBodies fs gs → Between 0 (offsets_of fs) 4294967295 → Follows fs gs (map AFunction fs) (map AFunction gs)
functions_follow fs gs a b =
    let ordered = ascending 0 fs 4294967295 b in
    record {
      items =
          ascending 0 gs 4294967295 (subst (λ l. Between 0 l 4294967295) (sym (same_offsets fs gs a)) b)
          ∙ all_with fs gs a
          ∙ ap (λ l. with_functions l gs) (sym ordered);
      functions = ap functions_among ordered ∙ all_among fs;
    }

-- the items of a file whose functions get other bodies
pub items_with : (q : TranslationUnit) (gs : List Function) → HaveOtherBodies q.funcs gs → Between 0 (offsets_of q.funcs) 4294967295
    → items_of_file (record q { funcs = gs }) ≡ with_functions (items_of_file q) gs
items_with q gs a b =
    let globals = follows_others q.funcs gs (map AGlobal q.globals) _ _ a (globals_others q.globals) (functions_follow q.funcs gs a b) in
    let typedefs = follows_others q.funcs gs (map ATypedef q.typedefs) _ _ a (typedefs_others q.typedefs) globals in
    let enums = follows_others q.funcs gs (map AnEnum q.enums) _ _ a (enums_others q.enums) typedefs in
    (follows_others q.funcs gs (struct_items 0 q.structs) _ _ a (structs_others 0 q.structs) enums).items

-- these functions are those among the items
pub among_with : (is : List FileItem) (gs : List Function) → HaveOtherBodies (functions_among is) gs → functions_among (with_functions is gs) ≡ gs
among_with [] [] h = refl
among_with [] (g ∷ gs) h = absurd h
among_with (AFunction f ∷ is) [] h = absurd h
among_with (AFunction f ∷ is) (g ∷ gs) h = ap (λ l. g ∷ l) (among_with is gs h.1)
among_with (StructHead k s ∷ is) gs h = among_with is gs h
among_with (Member k m ends ∷ is) gs h = among_with is gs h
among_with (AnEnum e ∷ is) gs h = among_with is gs h
among_with (ATypedef d ∷ is) gs h = among_with is gs h
among_with (AGlobal d ∷ is) gs h = among_with is gs h
