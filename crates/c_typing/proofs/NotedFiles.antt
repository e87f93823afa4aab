-- The asserts of a file's items in turn are those that the definition of a file types.
use Rattle.std.proofs.Common.{◌≡◌, ℕ, suc, pos, refl, sym, ap, ◌∙◌, subst, List, [], ◌∷◌, ◌++◌, map, Bool, true, false, cond, nat_lt, Option, Result, Ok, Err}
use Rattle.std.specs.Prelude.{OnOk, ℤ, ◌+ℤ◌}
use Rattle.std.specs.List.{filter}
use Rattle.c_syntax.specs.Programs.{EnumConstant, StructMember, StructType, Function, TranslationUnit}
use Rattle.c_model.specs.Checked.{Checked, Good, Bad, one_part}
use Rattle.c_model.specs.ExpressionTyping.{Sight, with_object}
use Rattle.c_model.specs.DeclarationTyping.{with_enumerator}
use Rattle.c_model.specs.UnitTyping as unit
use Rattle.c_model.specs.UnitTyping.{FileItem, StructHead, Member, AnEnum, ATypedef, AGlobal, AFunction, offset_of_item, member_items, struct_items, inserted, in_order, items_of_file, sight_with, value_typed, with_enumerators, behind_enum}
use Rattle.c_model.specs.AnnotationTyping.{noted_function, noted_functions, noted_unit, with_contracts}
use Rattle.c_model.specs.TextOrder.{functions_among}
use Rattle.c_model.proofs.TypedParts as Noted
use Rattle.c_model.proofs.NotedFiles.{HaveOtherBodies}
use Rattle.c_model.proofs.NotedPrograms.{noted_others}
use Rattle.c_scopes.specs.declared.fault.TypeFault.{TypeFault}
use Rattle.c_scopes.specs.Answers.{Answers}
use Rattle.c_expression_rules.proofs.Gives.{Gives, gives_of}
use Rattle.c_scopes.proofs.Least.{one_refused}
use Rattle.c_function_rules.specs.declared.heading.Callee.{Callee}
use Rattle.c_function_rules.specs.Functions.{denoted, with_function_by}
use Rattle.c_typing.specs.Files.{among, enum_of, typedef_of, global_of, function_of, kinds, without_sight, without_kinds, Finished}
use Rattle.c_typing.specs.NotedContracts.{IsDefinedOnce, defined_numbers, function_by}
use Rattle.c_typing.proofs.DefinedOnce.{once_noted}
use Rattle.c_typing.specs.NotedFiles.{EnumsKnown, IsOrdered, is_ordinary, all_behind, known_in_turn, notes_in_turn, standing_unit}
use Rattle.c_function_rules.proofs.Functions.{with_is}
use Rattle.c_typing.proofs.NotedContracts.{function_is}
use Rattle.c_typing.proofs.Orders.{ins, by_insertion, tested_insertion}
use Rattle.c_typing.proofs.Turns.{among_append}

-- ---- items without those of structs

abbrev pub ordinary : List FileItem → List FileItem
ordinary is = filter is_ordinary is

inserted_is : (i : FileItem) (js : List FileItem) → ins offset_of_item i js ≡ inserted i js
inserted_is i [] = refl
inserted_is i (j ∷ js) = ap (λ l. cond (nat_lt (offset_of_item j) (offset_of_item i)) (j ∷ l) (i ∷ j ∷ js)) (inserted_is i js)

pub in_order_is : (is : List FileItem) → by_insertion offset_of_item is ≡ in_order is
in_order_is [] = refl
in_order_is (i ∷ is) = inserted_is i (by_insertion offset_of_item is) ∙ ap (inserted i) (in_order_is is)

filter_append : (xs ys : List FileItem) → ordinary (xs ++ ys) ≡ ordinary xs ++ ordinary ys
filter_append [] ys = refl
filter_append (x ∷ xs) ys = ap (λ l. cond (is_ordinary x) (x ∷ l) l) (filter_append xs ys) ∙ by (is_ordinary x)
  where
    by : (b : Bool) → cond b (x ∷ (ordinary xs ++ ordinary ys)) (ordinary xs ++ ordinary ys) ≡ cond b (x ∷ ordinary xs) (ordinary xs) ++ ordinary ys
    by true = refl
    by false = refl

no_members : (k : ℕ) (ms : List StructMember) → ordinary (member_items k ms) ≡ []
no_members k [] = refl
no_members k (m ∷ []) = refl
no_members k (m ∷ n ∷ ms) = no_members k (n ∷ ms)

no_structs : (k : ℕ) (ss : List StructType) → ordinary (struct_items k ss) ≡ []
no_structs k [] = refl
no_structs k (s ∷ ss) = filter_append (member_items k s.members) (struct_items (suc k) ss) ∙ (λ i. no_members k s.members i ++ no_structs (suc k) ss i)

all_ordinary : {A : Type 0} (f : A → FileItem) → ((a : A) → is_ordinary (f a) ≡ true) → (xs : List A) → ordinary (map f xs) ≡ map f xs
all_ordinary f so [] = refl
all_ordinary f so (x ∷ xs) = (λ i. cond (so x i) (f x ∷ all_ordinary f so xs i) (all_ordinary f so xs i))

kinds_ordinary : (p : TranslationUnit) → ordinary (kinds p) ≡ kinds p
kinds_ordinary p =
    filter_append (map AnEnum p.enums) (map ATypedef p.typedefs ++ (map AGlobal p.globals ++ map AFunction p.funcs))
    ∙ (λ i. all_ordinary AnEnum (λ e. refl) p.enums i ++ filter_append (map ATypedef p.typedefs) (map AGlobal p.globals ++ map AFunction p.funcs) i)
    ∙ ap (λ l. map AnEnum p.enums ++ l) ((λ i. all_ordinary ATypedef (λ e. refl) p.typedefs i ++ filter_append (map AGlobal p.globals) (map AFunction p.funcs) i)
    ∙ ap (λ l. map ATypedef p.typedefs ++ l) (λ i. all_ordinary AGlobal (λ e. refl) p.globals i ++ all_ordinary AFunction (λ e. refl) p.funcs i))

-- the items of a file besides those of structs
pub ordinary_is : (p : TranslationUnit) → ordinary (items_of_file p) ≡ in_order (kinds p)
ordinary_is p =
    ap ordinary (sym (in_order_is (struct_items 0 p.structs ++ kinds p))) ∙ tested_insertion offset_of_item is_ordinary (struct_items 0 p.structs ++ kinds p)
    ∙ ap (by_insertion offset_of_item) (filter_append (struct_items 0 p.structs) (kinds p) ∙ (λ i. no_structs 0 p.structs i ++ kinds_ordinary p i)) ∙ in_order_is (kinds p)

-- ---- asserts in turn

module _ (p : TranslationUnit)
  where
    abbrev numbers : ℕ → Option Callee
    numbers = denoted p.funcs

    abbrev definitions : ℕ → Option (List ℕ)
    definitions x = defined_numbers x p.funcs

    abbrev functions_of : Checked (List FileItem) → Checked (List Function)
    functions_of m = one_part m (λ js. Good (among function_of js))

    others_in_turn : (i : FileItem) → among function_of (i ∷ []) ≡ [] → (m : Checked (List FileItem)) → functions_of (one_part m (λ js. Good (i ∷ js))) ≡ functions_of m
    others_in_turn i none (Good js) = ap Good (among_append function_of (i ∷ []) js ∙ ap (λ l. l ++ among function_of js) none)
    others_in_turn i none (Bad f fs) = refl

    -- the functions among items in turn, without those of structs
    pub notes_are : (is : List FileItem) (s : Sight) → noted_functions p s is ≡ functions_of (notes_in_turn numbers definitions s (ordinary is))
    notes_are [] s = refl
    notes_are (StructHead k struct ∷ is) s = notes_are is s
    notes_are (Member k m ends ∷ is) s = notes_are is s
    notes_are (AnEnum e ∷ is) s = notes_are is (behind_enum s e) ∙ sym (others_in_turn (AnEnum e) refl (notes_in_turn numbers definitions (behind_enum s e) (ordinary is)))
    notes_are (ATypedef d ∷ is) s = notes_are is (unit.with_type s d) ∙ sym (others_in_turn (ATypedef d) refl (notes_in_turn numbers definitions (unit.with_type s d) (ordinary is)))
    notes_are (AGlobal d ∷ is) s = notes_are is (with_object s d) ∙ sym (others_in_turn (AGlobal d) refl (notes_in_turn numbers definitions (with_object s d) (ordinary is)))
    notes_are (AFunction f ∷ is) s =
        sym (λ i. one_part (noted_function p.funcs (with_is p s f i) f) (λ g. one_part (noted_functions p (with_is p s f i) is) (λ fs. Good (g ∷ fs))))
        ∙ ap (λ m. one_part m (λ g. one_part (noted_functions p (with_function_by numbers s f) is) (λ fs. Good (g ∷ fs)))) (sym (function_is p.funcs (with_function_by numbers s f) f))
        ∙ ap (λ n. one_part (function_by definitions (with_function_by numbers s f) f) (λ g. one_part n (λ fs. Good (g ∷ fs)))) (notes_are is (with_function_by numbers s f))
        ∙ by (function_by definitions (with_function_by numbers s f) f) (notes_in_turn numbers definitions (with_function_by numbers s f) (ordinary is))
      where
        by : (m : Checked Function) (n : Checked (List FileItem)) → one_part m (λ g. one_part (functions_of n) (λ fs. Good (g ∷ fs)))
            ≡ functions_of (one_part (one_part m (λ g. Good (AFunction g))) (λ j. one_part n (λ js. Good (j ∷ js))))
        by (Good g) (Good js) = refl
        by (Good g) (Bad f fs) = refl
        by (Bad f fs) n = refl

    -- what is known of enums
    pub known_are : (is : List FileItem) (s : Sight) → EnumsKnown p s is → known_in_turn numbers s (ordinary is)
    known_are [] s h = tt
    known_are (StructHead k struct ∷ is) s h = known_are is s h.1
    known_are (Member k m ends ∷ is) s h = known_are is s h.1
    known_are (AnEnum e ∷ is) s h = (h.0, known_are is (behind_enum s e) h.1)
    known_are (ATypedef d ∷ is) s h = (tt, known_are is (unit.with_type s d) h.1)
    known_are (AGlobal d ∷ is) s h = (tt, known_are is (with_object s d) h.1)
    known_are (AFunction f ∷ is) s h = (tt, subst (λ u. known_in_turn numbers u (ordinary is)) (sym (with_is p s f)) (known_are is (unit.with_function p s f) h.1))

among_ordinary : {A : Type 0} (f : FileItem → List A) → ((k : ℕ) (s : StructType) → f (StructHead k s) ≡ []) → ((k : ℕ) (m : StructMember) (ends : Bool) → f (Member k m ends) ≡ []) → (is : List FileItem) → among f (ordinary is) ≡ among f is
among_ordinary f heads members [] = refl
among_ordinary f heads members (StructHead k s ∷ is) = among_ordinary f heads members is ∙ ap (λ l. l ++ among f is) (sym (heads k s))
among_ordinary f heads members (Member k m ends ∷ is) = among_ordinary f heads members is ∙ ap (λ l. l ++ among f is) (sym (members k m ends))
among_ordinary f heads members (AnEnum e ∷ is) = ap (λ l. f (AnEnum e) ++ l) (among_ordinary f heads members is)
among_ordinary f heads members (ATypedef d ∷ is) = ap (λ l. f (ATypedef d) ++ l) (among_ordinary f heads members is)
among_ordinary f heads members (AGlobal d ∷ is) = ap (λ l. f (AGlobal d) ++ l) (among_ordinary f heads members is)
among_ordinary f heads members (AFunction g ∷ is) = ap (λ l. f (AFunction g) ++ l) (among_ordinary f heads members is)

-- ---- what asserts leave as it is

-- the declarations of each kind besides functions
pub record SameKinds (is js : List FileItem) : Type 0 where
  pub enums : among enum_of js ≡ among enum_of is
  pub typedefs : among typedef_of js ≡ among typedef_of is
  pub globals : among global_of js ≡ among global_of is

module _ (ds : ℕ → Option Callee) (ns : ℕ → Option (List ℕ))
  where
    kinds_before : (i : FileItem) (is : List FileItem) (m : Checked (List FileItem)) → Gives (SameKinds is) m → Gives (SameKinds (i ∷ is)) (one_part m (λ js. Good (i ∷ js)))
    kinds_before i is (Good js) h = record { enums = ap (λ l. enum_of i ++ l) h.enums; typedefs = ap (λ l. typedef_of i ++ l) h.typedefs; globals = ap (λ l. global_of i ++ l) h.globals }
    kinds_before i is (Bad f fs) h = tt

    function_before : (f : Function) (is : List FileItem) (m : Checked Function) (n : Checked (List FileItem)) → Gives (SameKinds is) n
        → Gives (SameKinds (AFunction f ∷ is)) (one_part (one_part m (λ g. Good (AFunction g))) (λ j. one_part n (λ js. Good (j ∷ js))))
    function_before f is (Good g) (Good js) h = record { enums = h.enums; typedefs = h.typedefs; globals = h.globals }
    function_before f is (Good g) (Bad e es) h = tt
    function_before f is (Bad e es) n h = tt

    pub kinds_same : (is : List FileItem) (s : Sight) → Gives (SameKinds is) (notes_in_turn ds ns s is)
    kinds_same [] s = record { enums = refl; typedefs = refl; globals = refl }
    kinds_same (StructHead k struct ∷ is) s = kinds_before (StructHead k struct) is (notes_in_turn ds ns s is) (kinds_same is s)
    kinds_same (Member k m ends ∷ is) s = kinds_before (Member k m ends) is (notes_in_turn ds ns s is) (kinds_same is s)
    kinds_same (AnEnum e ∷ is) s = kinds_before (AnEnum e) is (notes_in_turn ds ns (behind_enum s e) is) (kinds_same is (behind_enum s e))
    kinds_same (ATypedef d ∷ is) s = kinds_before (ATypedef d) is (notes_in_turn ds ns (unit.with_type s d) is) (kinds_same is (unit.with_type s d))
    kinds_same (AGlobal d ∷ is) s = kinds_before (AGlobal d) is (notes_in_turn ds ns (with_object s d) is) (kinds_same is (with_object s d))
    kinds_same (AFunction f ∷ is) s = function_before f is (function_by ns (with_function_by ds s f) f) (notes_in_turn ds ns (with_function_by ds s f) is) (kinds_same is (with_function_by ds s f))

-- names, strings and structs
pub record SameText (s t : Sight) : Type 0 where
  pub names : t.names ≡ s.names
  pub texts : t.texts ≡ s.texts
  pub structs : t.structs ≡ s.structs

enumerators_same : (es : List EnumConstant) (s : Sight) (next : ℤ) → SameText s (with_enumerators s next es)
enumerators_same [] s next = record { names = refl; texts = refl; structs = refl }
enumerators_same (e ∷ es) s next =
    let v = value_typed s next e.value in
    let h = enumerators_same es (with_enumerator s e.name v) (v +ℤ pos 1) in
    record { names = h.names; texts = h.texts; structs = h.structs }

pub text_same : (ds : ℕ → Option Callee) (is : List FileItem) (s : Sight) → SameText s (all_behind ds s is)
text_same ds [] s = record { names = refl; texts = refl; structs = refl }
text_same ds (StructHead k struct ∷ is) s = text_same ds is s
text_same ds (Member k m ends ∷ is) s = text_same ds is s
text_same ds (AnEnum e ∷ is) s =
    let a = enumerators_same e.items s (pos 0) in
    let h = text_same ds is (behind_enum s e) in
    record { names = h.names ∙ a.names; texts = h.texts ∙ a.texts; structs = h.structs ∙ a.structs }
text_same ds (ATypedef d ∷ is) s = let h = text_same ds is (unit.with_type s d) in record { names = h.names; texts = h.texts; structs = h.structs }
text_same ds (AGlobal d ∷ is) s = let h = text_same ds is (with_object s d) in record { names = h.names; texts = h.texts; structs = h.structs }
text_same ds (AFunction f ∷ is) s = let h = text_same ds is (with_function_by ds s f) in record { names = h.names; texts = h.texts; structs = h.structs }

-- ---- files

module _ (p : TranslationUnit) (ordered : IsOrdered p)
  where
    abbrev start : Sight
    start = sight_with p p.structs

    abbrev whole : Checked (List FileItem)
    whole = notes_in_turn (denoted p.funcs) (λ x. defined_numbers x p.funcs) start (in_order (kinds p))

    unit_noted : standing_unit p ≡ one_part (functions_of p whole) (λ fs. Good (record p { funcs = fs }))
    unit_noted =
        ap (λ m. one_part m (λ fs. Good (record p { funcs = fs }))) (notes_are p (items_of_file p) start ∙ ap (λ is. functions_of p (notes_in_turn (denoted p.funcs) (λ x. defined_numbers x p.funcs) start is)) (ordinary_is p))

    pub start_known : known_in_turn (denoted p.funcs) start (in_order (kinds p))
    start_known = subst (known_in_turn (denoted p.funcs) start) (ordinary_is p) (known_are p (items_of_file p) start ordered.known)

    -- a file whose asserts are typed
    noted_from : (q : TranslationUnit) (t : Sight) (js : List FileItem) (r z : Result (Unit {0}) TypeFault) → Answers (λ (u : Unit {0}). js) whole r → OnOk r (t ≡ all_behind (denoted p.funcs) start (in_order (kinds p)))
        → Finished r (without_sight (without_kinds p)) t js q z → Answers (λ (u : Unit {0}). q) (standing_unit p) z
    noted_from q t js (Err e) z h sight f =
        subst (Answers (λ (u : Unit {0}). q) (standing_unit p)) (sym f) (subst (λ m. Answers (λ (u : Unit {0}). q) m (Err e)) (sym unit_noted)
        (one_refused (λ fs. Good (record p { funcs = fs })) (λ (u : Unit {0}). among function_of js) (λ (u : Unit {0}). q) (functions_of p whole) e
        (one_refused (λ js. Good (among function_of js)) (λ (u : Unit {0}). js) (λ (u : Unit {0}). among function_of js) whole e h)))
    noted_from q t js (Ok u) (Err e) h sight f = subst (λ e. Answers (λ (u : Unit {0}). q) (standing_unit p) (Err e)) (sym f) tt
    noted_from q t js (Ok u) (Ok v) h sight f =
        let same = gives_of (SameKinds (in_order (kinds p))) whole js (kinds_same (denoted p.funcs) (λ x. defined_numbers x p.funcs) (in_order (kinds p)) start) h in
        let text = subst (SameText start) (sym sight) (text_same (denoted p.funcs) (in_order (kinds p)) start) in
        let enums : among enum_of js ≡ p.enums = same.enums ∙ ap (among enum_of) (sym (ordinary_is p)) ∙ among_ordinary enum_of (λ k s. refl) (λ k m e. refl) (items_of_file p) ∙ ordered.enums in
        let typedefs : among typedef_of js ≡ p.typedefs = same.typedefs ∙ ap (among typedef_of) (sym (ordinary_is p)) ∙ among_ordinary typedef_of (λ k s. refl) (λ k m e. refl) (items_of_file p) ∙ ordered.typedefs in
        let globals : among global_of js ≡ p.globals = same.globals ∙ ap (among global_of) (sym (ordinary_is p)) ∙ among_ordinary global_of (λ k s. refl) (λ k m e. refl) (items_of_file p) ∙ ordered.globals in
        unit_noted ∙ ap (λ m. one_part (functions_of p m) (λ fs. Good (record p { funcs = fs }))) h
        ∙ sym (ap Good (f ∙ (λ i. record p { names = text.names i; texts = text.texts i; structs = text.structs i; enums = enums i; typedefs = typedefs i; globals = globals i; funcs = among function_of js })))

    -- in words of what the code keeps
    pub noted_found : (q o : TranslationUnit) (ds : ℕ → Option Callee) (ns : ℕ → Option (List ℕ)) (s t : Sight) (is js : List FileItem) (r z : Result (Unit {0}) TypeFault) → ((x : ℕ) → ds x ≡ denoted p.funcs x)
        → ((x : ℕ) → ns x ≡ defined_numbers x p.funcs) → s ≡ start → is ≡ in_order (kinds p)
        → o ≡ without_sight (without_kinds p) → Answers (λ (u : Unit {0}). js) (notes_in_turn ds ns s is) r → OnOk r (t ≡ all_behind ds s is) → Finished r o t js q z → Answers (λ (u : Unit {0}). q) (standing_unit p) z
    noted_found q o ds ns s t is js r z told defined first items emptied h sight f =
        noted_from q t js r z (subst (λ m. Answers (λ (u : Unit {0}). js) m r) (λ i. notes_in_turn (λ x. told x i) (λ x. defined x i) (first i) (items i)) h)
        (subst (λ u. OnOk r (t ≡ u)) (λ i. all_behind (λ x. told x i) (first i) (items i)) sight) (subst (λ o. Finished r o t js q z) emptied f)

    pub known_start : (ds : ℕ → Option Callee) (s : Sight) (is : List FileItem) → ((x : ℕ) → ds x ≡ denoted p.funcs x) → s ≡ start → is ≡ in_order (kinds p) → known_in_turn ds s is
    known_start ds s is told first items = subst (λ t. t) (sym (λ i. known_in_turn (λ x. told x i) (first i) (items i))) start_known

-- ---- contracts that move

-- a file whose annotations are typed, each contract where it is written, defines no name twice
pub standing_once : (p q : TranslationUnit) → IsOrdered p → standing_unit p ≡ Good q → IsDefinedOnce q.funcs
standing_once p q o is = by (noted_functions p (sight_with p p.structs) (items_of_file p)) (noted_others p (sight_with p p.structs) (items_of_file p)) is
  where
    by : (m : Checked (List Function)) → Noted.Gives (HaveOtherBodies (functions_among (items_of_file p))) m → one_part m (λ fs. Good (record p { funcs = fs })) ≡ Good q → IsDefinedOnce q.funcs
    by (Good fs) h e = let same : record p { funcs = fs } ≡ q = cc in subst (λ (q : TranslationUnit). IsDefinedOnce q.funcs) same (once_noted (functions_among (items_of_file p)) fs h o.once)
    by (Bad f fs) h e = absurd cc

-- with its contracts moved it is what the definition gives
pub moved_found : (p q r : TranslationUnit) → standing_unit p ≡ Good q → r ≡ record q { funcs = with_contracts q.funcs } → noted_unit p ≡ Good r
moved_found p q r is e = by (noted_functions p (sight_with p p.structs) (items_of_file p)) is
  where
    by : (m : Checked (List Function)) → one_part m (λ fs. Good (record p { funcs = fs })) ≡ Good q → one_part m (λ fs. Good (record p { funcs = with_contracts fs })) ≡ Good r
    by (Good fs) k = let same : record p { funcs = fs } ≡ q = cc in ap Good (ap (λ (q : TranslationUnit). record q { funcs = with_contracts q.funcs }) same ∙ sym e)
    by (Bad f fs) k = absurd cc
