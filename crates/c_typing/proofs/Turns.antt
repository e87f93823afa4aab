-- A file's items in turn are what the definition of a file types.
use Rattle.std.proofs.Common.{◌≡◌, ℕ, pos, ℤ, ◌+ℤ◌, not, refl, sym, ap, ◌∙◌, subst, append_assoc, List, [], ◌∷◌, ◌++◌, map, Option, Some, None, Bool, slice_get, Result, Ok, Err}
use Rattle.std.proofs.lemmas.List.{append-nil}
use Rattle.c_syntax.specs.Ctypes.{PlainType}
use Rattle.c_syntax.specs.Expressions.{Expression}
use Rattle.c_syntax.specs.Statements.{Declaration}
use Rattle.c_syntax.specs.Programs.{StructMember, StructType, EnumConstant, EnumType, Function, TranslationUnit}
use Rattle.c_syntax.specs.Layouts.{member_among}
use Rattle.c_model.specs.Library.{is_there}
use Rattle.c_model.specs.Checked.{Checked, Good, Bad, one_part, both_parts, where_so}
use Rattle.c_model.specs.ExpressionTyping.{no_name, Sight, with_object}
use Rattle.c_model.specs.DeclarationTyping.{own_name, is_declared_in_file, typed_member, typed_member_type, with_member, typed_value, typed_enumerators, typed_typedef, typed_global, with_enumerator}
use Rattle.c_model.specs.UnitTyping as unit
use Rattle.c_model.specs.UnitTyping.{FileItem, StructHead, Member, AnEnum, ATypedef, AGlobal, AFunction, Progress, typed_item_of_file, typed_items_of_file, first_sight, items_of_file, with_progress, typed_unit, new_tag}
use Rattle.c_declaration_rules.specs.Members.{member_typed}
use Rattle.c_scopes.specs.declared.fault.TypeFault.{TypeFault}
use Rattle.c_scopes.specs.Answers.{Answers}
use Rattle.c_expression_rules.proofs.Gives.{Gives, gives_of}
use Rattle.c_scopes.proofs.Least.{one_refused}
use Rattle.c_function_rules.specs.declared.heading.Callee.{Callee}
use Rattle.c_typing.specs.declared.item.FileItem as code
use Rattle.c_function_rules.specs.Functions.{denoted, with_function_by, names_behind, function_in_turn}
use Rattle.c_typing.specs.Files.{Course, bare, course_at, item_in_turn, items_in_turn, kept, all_kept, among, enum_of, typedef_of, global_of, function_of, plain_file_item, emptied, with_items, with_sight, without_sight, Finished}
use Rattle.c_function_rules.proofs.Functions.{Behind, with_is, function_is, behind_more}

-- ---- items are what they keep

-- items before those that are kept
abbrev pub behind_kept : List FileItem → Checked (Course × List FileItem) → Checked (Course × List FileItem)
behind_kept done c = one_part c (λ y. Good (y.0, done ++ y.1))

module _ (numbers : ℕ → Option Callee)
  where
    next_item : (done : List FileItem) (i : FileItem) (rest : List FileItem) (c c' : Course) (more : List FileItem) → item_in_turn numbers c i ≡ Good (c', more)
        → behind_kept done (items_in_turn numbers c (i ∷ rest)) ≡ behind_kept (done ++ more) (items_in_turn numbers c' rest)
    next_item done i rest c c' more good =
        ap (λ m. behind_kept done (one_part m (λ x. one_part (items_in_turn numbers x.0 rest) (λ y. Good (y.0, x.1 ++ y.1))))) good ∙ by (items_in_turn numbers c' rest)
      where
        by : (m : Checked (Course × List FileItem)) → behind_kept done (one_part m (λ y. Good (y.0, more ++ y.1))) ≡ behind_kept (done ++ more) m
        by (Good y) = ap (λ l. Good (y.0, l)) (sym (append_assoc done more y.1))
        by (Bad f fs) = refl

kept_snoc : (xs : List code.FileItem) (x : code.FileItem) → all_kept (map plain_file_item (xs ++ x ∷ [])) ≡ all_kept (map plain_file_item xs) ++ kept (plain_file_item x)
kept_snoc [] x = append-nil (kept (plain_file_item x))
kept_snoc (y ∷ ys) x = ap (λ l. kept (plain_file_item y) ++ l) (kept_snoc ys x) ∙ sym (append_assoc (kept (plain_file_item y)) (all_kept (map plain_file_item ys)) (kept (plain_file_item x)))

module _ (numbers : ℕ → Option Callee) (whole : Checked (Course × List FileItem)) (c : Course) (done list : List code.FileItem) (i : code.FileItem) (rest : List code.FileItem)
    (before : whole ≡ behind_kept (all_kept (map plain_file_item done)) (items_in_turn numbers c (map plain_file_item list))) (is : list ≡ i ∷ rest)
  where
    here : whole ≡ behind_kept (all_kept (map plain_file_item done)) (items_in_turn numbers c (plain_file_item i ∷ map plain_file_item rest))
    here = before ∙ ap (λ l. behind_kept (all_kept (map plain_file_item done)) (items_in_turn numbers c (map plain_file_item l))) is

    -- one more item is typed
    pub items_more : (c' : Course) (done' : List code.FileItem) (x : code.FileItem) → item_in_turn numbers c (plain_file_item i) ≡ Good (c', kept (plain_file_item x)) → done' ≡ done ++ x ∷ []
        → whole ≡ behind_kept (all_kept (map plain_file_item done')) (items_in_turn numbers c' (map plain_file_item rest))
    items_more c' done' x good more =
        here ∙ next_item numbers (all_kept (map plain_file_item done)) (plain_file_item i) (map plain_file_item rest) c c' (kept (plain_file_item x)) good
        ∙ ap (λ l. behind_kept l (items_in_turn numbers c' (map plain_file_item rest))) (sym (ap (λ l. all_kept (map plain_file_item l)) more ∙ kept_snoc done x))

    -- an item is refused
    pub items_refused : {S T : Type 0} (p : T → Course × List FileItem) (q : S → Course × List FileItem) (h : TypeFault) → Answers p (item_in_turn numbers c (plain_file_item i)) (Err h) → Answers q whole (Err h)
    items_refused p q h bad =
        subst (λ m. Answers q m (Err h)) (sym here)
        (one_refused (λ (y : Course × List FileItem). Good (y.0, all_kept (map plain_file_item done) ++ y.1)) q q (items_in_turn numbers c (plain_file_item i ∷ map plain_file_item rest)) h
        (one_refused (λ (x : Course × List FileItem). one_part (items_in_turn numbers x.0 (map plain_file_item rest)) (λ y. Good (y.0, x.1 ++ y.1))) p q (item_in_turn numbers c (plain_file_item i)) h bad))

-- all items are typed
pub items_done : (numbers : ℕ → Option Callee) (whole : Checked (Course × List FileItem)) (c : Course) (done list : List code.FileItem)
    → whole ≡ behind_kept (all_kept (map plain_file_item done)) (items_in_turn numbers c (map plain_file_item list)) → list ≡ [] → whole ≡ Good (c, all_kept (map plain_file_item done))
items_done numbers whole c done list before none =
    before ∙ ap (λ l. behind_kept (all_kept (map plain_file_item done)) (items_in_turn numbers c (map plain_file_item l))) none ∙ ap (λ l. Good (c, l)) (append-nil (all_kept (map plain_file_item done)))

-- ---- what items leave as it is

-- the names, the strings and the functions in sight
pub record Keeps (s t : Sight) : Type 0 where
  pub names : t.names ≡ s.names
  pub texts : t.texts ≡ s.texts
  pub functions : t.functions ≡ s.functions

keeps_same : (s : Sight) → Keeps s s
keeps_same s = record { names = refl; texts = refl; functions = refl }

member_keeps : (s : Sight) (k : ℕ) (struct : StructType) (m : StructMember) (ends : Bool) → Gives (Keeps s) (typed_member s k struct m ends)
member_keeps s k struct m ends = by (where_so (not (is_there (member_among m.name struct.members))) (no_name m.place) (Good (tt {0}))) (typed_member_type s struct m)
  where
    by : (a : Checked (Unit {0})) (b : Checked PlainType) → Gives (Keeps s) (both_parts a b (λ n t. Good (with_member s k struct t m ends)))
    by (Good n) (Good t) = record { names = refl; texts = refl; functions = refl }
    by (Good n) (Bad g gs) = tt
    by (Bad f fs) (Good t) = tt
    by (Bad f fs) (Bad g gs) = tt

enumerators_keep : (s : Sight) (next : ℤ) (es : List EnumConstant) → Gives (λ x. Keeps s x.0) (typed_enumerators s next es)
enumerators_keep s next [] = keeps_same s
enumerators_keep s next (e ∷ es) = by (both_parts (own_name s (is_declared_in_file s e.name) e.place e.name) (typed_value s e.place next e.value) (λ n v. Good v)) (λ v. enumerators_keep (with_enumerator s e.name v.0) (v.0 +ℤ pos 1) es)
  where
    more : (v : ℤ × Option Expression) (c : Checked (Sight × List EnumConstant)) → Gives (λ x. Keeps (with_enumerator s e.name v.0) x.0) c
        → Gives (λ (x : Sight × List EnumConstant). Keeps s x.0) (one_part c (λ p. Good (p.0, record e { value = v.1 } ∷ p.1)))
    more v (Good x) k = record { names = k.names; texts = k.texts; functions = k.functions }
    more v (Bad f fs) k = tt

    by : (c : Checked (ℤ × Option Expression)) → ((v : ℤ × Option Expression) → Gives (λ x. Keeps (with_enumerator s e.name v.0) x.0) (typed_enumerators (with_enumerator s e.name v.0) (v.0 +ℤ pos 1) es))
        → Gives (λ (x : Sight × List EnumConstant). Keeps s x.0) (one_part c (λ v. one_part (typed_enumerators (with_enumerator s e.name v.0) (v.0 +ℤ pos 1) es) (λ p. Good (p.0, record e { value = v.1 } ∷ p.1))))
    by (Good v) h = more v (typed_enumerators (with_enumerator s e.name v.0) (v.0 +ℤ pos 1) es) (h v)
    by (Bad f fs) h = tt

-- ---- the progress of typing, by what is kept

abbrev progress : Course → List FileItem → Progress
progress c js =
    record { sight = c.sight; tags = c.tags; enums = among enum_of js; typedefs = among typedef_of js; globals = among global_of js; funcs = among function_of js }

pub among_append : {A : Type 0} (f : FileItem → List A) (js ks : List FileItem) → among f (js ++ ks) ≡ among f js ++ among f ks
among_append f [] ks = refl
among_append f (j ∷ js) ks = ap (λ l. f j ++ l) (among_append f js ks) ∙ sym (append_assoc (f j) (among f js) (among f ks))

among_none : {A : Type 0} (f : FileItem → List A) (js ks : List FileItem) → among f ks ≡ [] → among f (js ++ ks) ≡ among f js
among_none f js ks none = among_append f js ks ∙ ap (λ l. among f js ++ l) none ∙ append-nil (among f js)

progress_same : (c : Course) (js : List FileItem) → progress c (js ++ []) ≡ progress c js
progress_same c js = ap (progress c) (append-nil js)

progress_enum : (c : Course) (js : List FileItem) (e : EnumType) → progress c (js ++ AnEnum e ∷ []) ≡ record (progress c js) { enums = among enum_of js ++ e ∷ [] }
progress_enum c js e = λ i. record {
  sight = c.sight;
  tags = c.tags;
  enums = among_append enum_of js (AnEnum e ∷ []) i;
  typedefs = among_none typedef_of js (AnEnum e ∷ []) refl i;
  globals = among_none global_of js (AnEnum e ∷ []) refl i;
  funcs = among_none function_of js (AnEnum e ∷ []) refl i;
}

progress_typedef : (c : Course) (js : List FileItem) (d : Declaration) → progress c (js ++ ATypedef d ∷ []) ≡ record (progress c js) { typedefs = among typedef_of js ++ d ∷ [] }
progress_typedef c js d = λ i. record {
  sight = c.sight;
  tags = c.tags;
  enums = among_none enum_of js (ATypedef d ∷ []) refl i;
  typedefs = among_append typedef_of js (ATypedef d ∷ []) i;
  globals = among_none global_of js (ATypedef d ∷ []) refl i;
  funcs = among_none function_of js (ATypedef d ∷ []) refl i;
}

progress_global : (c : Course) (js : List FileItem) (d : Declaration) → progress c (js ++ AGlobal d ∷ []) ≡ record (progress c js) { globals = among global_of js ++ d ∷ [] }
progress_global c js d = λ i. record {
  sight = c.sight;
  tags = c.tags;
  enums = among_none enum_of js (AGlobal d ∷ []) refl i;
  typedefs = among_none typedef_of js (AGlobal d ∷ []) refl i;
  globals = among_append global_of js (AGlobal d ∷ []) i;
  funcs = among_none function_of js (AGlobal d ∷ []) refl i;
}

progress_function : (c : Course) (js : List FileItem) (f : Function) → progress c (js ++ AFunction f ∷ []) ≡ record (progress c js) { funcs = among function_of js ++ f ∷ [] }
progress_function c js f = λ i. record {
  sight = c.sight;
  tags = c.tags;
  enums = among_none enum_of js (AFunction f ∷ []) refl i;
  typedefs = among_none typedef_of js (AFunction f ∷ []) refl i;
  globals = among_none global_of js (AFunction f ∷ []) refl i;
  funcs = among_append function_of js (AFunction f ∷ []) i;
}

-- what is kept behind items is what the definition of a file knows there
pub record Stands (p : TranslationUnit) (c : Course) (js : List FileItem) : Type 0 where
  pub behind : Behind p c.sight c.names (among function_of js)
  pub names : c.sight.names ≡ p.names
  pub texts : c.sight.texts ≡ p.texts

stands_kept : (p : TranslationUnit) (c c' : Course) (js ks : List FileItem) → Stands p c js → Keeps c.sight c'.sight → c'.names ≡ c.names → among function_of ks ≡ [] → Stands p c' (js ++ ks)
stands_kept p c c' js ks stands keeps same none = record {
  behind = subst (Behind p c'.sight c'.names) (sym (among_none function_of js ks none)) (record {
    functions = keeps.functions ∙ stands.behind.functions;
    names = λ x. ap (λ n. n x) same ∙ stands.behind.names x;
  });
  names = keeps.names ∙ stands.names;
  texts = keeps.texts ∙ stands.texts;
}

abbrev paired : {A : Type 0} → Course → A → Course × A
paired c a = (c, a)

-- from an item on
abbrev onward : List FileItem → Checked (Course × List FileItem) → Checked Progress
onward js m = one_part m (λ x. Good (progress x.0 (js ++ x.1)))

module _ (p : TranslationUnit)
  where
    abbrev numbers : ℕ → Option Callee
    numbers = denoted p.funcs

    module _ (c : Course) (js : List FileItem)
      where
        head_step : (m : Checked (Unit {0})) (tags : List ℕ)
            → one_part m (λ n. Good (record (progress c js) { tags = tags })) ≡ onward js (one_part (one_part m (λ n. Good (record c { tags = tags }))) (λ c. Good (paired c [])))
        head_step (Good n) tags = ap Good (sym (progress_same (record c { tags = tags }) js))
        head_step (Bad f fs) tags = refl

        member_step : (m : Checked Sight) → one_part m (λ s. Good (record (progress c js) { sight = s })) ≡ onward js (one_part m (λ s. Good (paired (record c { sight = s }) [])))
        member_step (Good s) = ap Good (sym (progress_same (record c { sight = s }) js))
        member_step (Bad f fs) = refl

        no_member : ◌≡◌ {A = Checked Progress} (Good (progress c js)) (Good (progress c (js ++ [])))
        no_member = ap Good (sym (progress_same c js))

        member_here : (k : ℕ) (m : StructMember) (ends : Bool) (o : Option StructType)
            → elim o [ None ↦ Good (progress c js) | Some struct ↦ one_part (typed_member c.sight k struct m ends) (λ s. Good (record (progress c js) { sight = s })) ]
            ≡ onward js (one_part (elim o [ None ↦ Good c.sight | Some struct ↦ typed_member c.sight k struct m ends ]) (λ s. Good (paired (record c { sight = s }) [])))
        member_here k m ends None = no_member
        member_here k m ends (Some struct) = member_step (typed_member c.sight k struct m ends)

        enum_step : (e : EnumType) (m : Checked (Unit {0})) (n : Checked (Sight × List EnumConstant))
            → one_part m (λ u. one_part n (λ x.
            Good (record (progress c js) {
              sight = record x.0 { enums = unit.with_tag x.0.enums e.tag };
              tags = unit.with_tag c.tags e.tag;
              enums = among enum_of js ++ record e { items = x.1 } ∷ [];
            })))
            ≡ onward js (one_part (one_part m (λ u. one_part n (λ x.
            Good (paired (record c { sight = record x.0 { enums = unit.with_tag x.0.enums e.tag }; tags = unit.with_tag c.tags e.tag }) (record e { items = x.1 }))))) (λ x. Good (paired x.0 (AnEnum x.1 ∷ []))))
        enum_step e (Bad f fs) n = refl
        enum_step e (Good u) (Bad f fs) = refl
        enum_step e (Good u) (Good x) =
            ap Good (sym (progress_enum (record c { sight = record x.0 { enums = unit.with_tag x.0.enums e.tag }; tags = unit.with_tag c.tags e.tag }) js (record e { items = x.1 })))

        typedef_step : (m : Checked Declaration) → one_part m (λ d. Good (record (progress c js) { sight = unit.with_type c.sight d; typedefs = among typedef_of js ++ d ∷ [] }))
            ≡ onward js (one_part (one_part m (λ d. Good (paired (record c { sight = unit.with_type c.sight d }) d))) (λ x. Good (paired x.0 (ATypedef x.1 ∷ []))))
        typedef_step (Good d) = ap Good (sym (progress_typedef (record c { sight = unit.with_type c.sight d }) js d))
        typedef_step (Bad f fs) = refl

        global_step : (m : Checked Declaration) → one_part m (λ d. Good (record (progress c js) { sight = with_object c.sight d; globals = among global_of js ++ d ∷ [] }))
            ≡ onward js (one_part (one_part m (λ d. Good (paired (record c { sight = with_object c.sight d }) d))) (λ x. Good (paired x.0 (AGlobal x.1 ∷ []))))
        global_step (Good d) = ap Good (sym (progress_global (record c { sight = with_object c.sight d }) js d))
        global_step (Bad f fs) = refl

        function_step : (m : Checked Function) → one_part m (λ f. Good (record (progress c js) { sight = with_function_by numbers c.sight f; funcs = among function_of js ++ f ∷ [] }))
            ≡ onward js (one_part (one_part m (λ f. Good (paired (record c { sight = with_function_by numbers c.sight f; names = names_behind c.sight c.names f }) f))) (λ x. Good (paired x.0 (AFunction x.1 ∷ []))))
        function_step (Good f) = ap Good (sym (progress_function (record c { sight = with_function_by numbers c.sight f; names = names_behind c.sight c.names f }) js f))
        function_step (Bad f fs) = refl

        pub item_step : Stands p c js → (i : FileItem) → typed_item_of_file p (progress c js) i ≡ onward js (item_in_turn numbers c (bare i))
        item_step stands (StructHead k s) = head_step (new_tag c.tags s.place s.tag) (unit.with_tag c.tags s.tag)
        item_step stands (Member k m ends) = member_here k m ends (slice_get c.sight.structs k)
        item_step stands (AnEnum e) = enum_step e (new_tag c.tags e.place e.tag) (typed_enumerators c.sight (pos 0) e.items)
        item_step stands (ATypedef d) = typedef_step (typed_typedef c.sight d)
        item_step stands (AGlobal d) = global_step (typed_global c.sight d)
        item_step stands (AFunction f) =
            sym (λ i. one_part (function_is p c.sight c.names (among function_of js) stands.behind f i) (λ f. Good (record (progress c js) { sight = with_is p c.sight f i; funcs = among function_of js ++ f ∷ [] })))
            ∙ function_step (function_in_turn numbers c.sight c.names f)

        member_stands : Stands p c js → (k : ℕ) (m : StructMember) (ends : Bool) (o : Option StructType) → Gives (Keeps c.sight) (elim o [ None ↦ Good c.sight | Some struct ↦ typed_member c.sight k struct m ends ])
        member_stands stands k m ends None = keeps_same c.sight
        member_stands stands k m ends (Some struct) = member_keeps c.sight k struct m ends

        head_stands : Stands p c js → (m : Checked (Unit {0})) (tags : List ℕ) → Gives (λ x. Stands p x.0 (js ++ x.1)) (one_part (one_part m (λ n. Good (record c { tags = tags }))) (λ c. Good (paired c [])))
        head_stands stands (Good n) tags = stands_kept p c (record c { tags = tags }) js [] stands (keeps_same c.sight) refl refl
        head_stands stands (Bad f fs) tags = tt

        inside_stands : Stands p c js → (m : Checked Sight) → Gives (Keeps c.sight) m → Gives (λ x. Stands p x.0 (js ++ x.1)) (one_part m (λ s. Good (paired (record c { sight = s }) [])))
        inside_stands stands (Good s) keeps = stands_kept p c (record c { sight = s }) js [] stands keeps refl refl
        inside_stands stands (Bad f fs) keeps = tt

        enum_stands : Stands p c js → (e : EnumType) (m : Checked (Unit {0})) (n : Checked (Sight × List EnumConstant)) → Gives (λ x. Keeps c.sight x.0) n
            → Gives (λ x. Stands p x.0 (js ++ x.1)) (one_part (one_part m (λ u. one_part n (λ x.
            Good (paired (record c { sight = record x.0 { enums = unit.with_tag x.0.enums e.tag }; tags = unit.with_tag c.tags e.tag }) (record e { items = x.1 }))))) (λ x. Good (paired x.0 (AnEnum x.1 ∷ []))))
        enum_stands stands e (Bad f fs) n k = tt
        enum_stands stands e (Good u) (Bad f fs) k = tt
        enum_stands stands e (Good u) (Good x) k =
            stands_kept p c (record c { sight = record x.0 { enums = unit.with_tag x.0.enums e.tag }; tags = unit.with_tag c.tags e.tag }) js (AnEnum (record e { items = x.1 }) ∷ []) stands
            (record { names = k.names; texts = k.texts; functions = k.functions }) refl refl

        typedef_stands : Stands p c js → (m : Checked Declaration)
            → Gives (λ x. Stands p x.0 (js ++ x.1)) (one_part (one_part m (λ d. Good (paired (record c { sight = unit.with_type c.sight d }) d))) (λ x. Good (paired x.0 (ATypedef x.1 ∷ []))))
        typedef_stands stands (Good d) = stands_kept p c (record c { sight = unit.with_type c.sight d }) js (ATypedef d ∷ []) stands (record { names = refl; texts = refl; functions = refl }) refl refl
        typedef_stands stands (Bad f fs) = tt

        global_stands : Stands p c js → (m : Checked Declaration)
            → Gives (λ x. Stands p x.0 (js ++ x.1)) (one_part (one_part m (λ d. Good (paired (record c { sight = with_object c.sight d }) d))) (λ x. Good (paired x.0 (AGlobal x.1 ∷ []))))
        global_stands stands (Good d) = stands_kept p c (record c { sight = with_object c.sight d }) js (AGlobal d ∷ []) stands (record { names = refl; texts = refl; functions = refl }) refl refl
        global_stands stands (Bad f fs) = tt

        function_stands : Stands p c js → (m : Checked Function)
            → Gives (λ x. Stands p x.0 (js ++ x.1))
            (one_part (one_part m (λ f. Good (paired (record c { sight = with_function_by numbers c.sight f; names = names_behind c.sight c.names f }) f))) (λ x. Good (paired x.0 (AFunction x.1 ∷ []))))
        function_stands stands (Bad f fs) = tt
        function_stands stands (Good f) = record {
          behind = subst (Behind p (with_function_by numbers c.sight f) (names_behind c.sight c.names f)) (sym (among_append function_of js (AFunction f ∷ [])))
              (behind_more p c.sight c.names (among function_of js) stands.behind f);
          names = stands.names;
          texts = stands.texts;
        }

        pub item_stands : Stands p c js → (i : FileItem) → Gives (λ x. Stands p x.0 (js ++ x.1)) (item_in_turn numbers c i)
        item_stands stands (StructHead k s) = head_stands stands (new_tag c.tags s.place s.tag) (unit.with_tag c.tags s.tag)
        item_stands stands (Member k m ends) = inside_stands stands (member_typed c.sight k m ends) (member_stands stands k m ends (slice_get c.sight.structs k))
        item_stands stands (AnEnum e) = enum_stands stands e (new_tag c.tags e.place e.tag) (typed_enumerators c.sight (pos 0) e.items) (enumerators_keep c.sight (pos 0) e.items)
        item_stands stands (ATypedef d) = typedef_stands stands (typed_typedef c.sight d)
        item_stands stands (AGlobal d) = global_stands stands (typed_global c.sight d)
        item_stands stands (AFunction f) = function_stands stands (function_in_turn numbers c.sight c.names f)

    -- items in turn are typed as the definition of a file types them
    items_step : (is : List FileItem) (c : Course) (js : List FileItem) → Stands p c js → typed_items_of_file p (progress c js) is ≡ onward js (items_in_turn numbers c (map bare is))
    items_step [] c js stands = ap Good (sym (progress_same c js))
    items_step (i ∷ is) c js stands =
        ap (λ m. one_part m (λ r. typed_items_of_file p r is)) (item_step c js stands i) ∙ by (item_in_turn numbers c (bare i)) (item_stands c js stands (bare i)) (λ x so. items_step is x.0 (js ++ x.1) so)
      where
        shift : (x : Course × List FileItem) (m : Checked (Course × List FileItem)) → onward (js ++ x.1) m ≡ onward js (one_part m (λ y. Good (paired y.0 (x.1 ++ y.1))))
        shift x (Good y) = ap (λ l. Good (progress y.0 l)) (append_assoc js x.1 y.1)
        shift x (Bad f fs) = refl

        by : (m : Checked (Course × List FileItem)) → Gives (λ x. Stands p x.0 (js ++ x.1)) m
            → ((x : Course × List FileItem) → Stands p x.0 (js ++ x.1) → typed_items_of_file p (progress x.0 (js ++ x.1)) is ≡ onward (js ++ x.1) (items_in_turn numbers x.0 (map bare is)))
            → one_part (onward js m) (λ r. typed_items_of_file p r is) ≡ onward js (one_part m (λ x. one_part (items_in_turn numbers x.0 (map bare is)) (λ y. Good (paired y.0 (x.1 ++ y.1)))))
        by (Good x) g h = h x g ∙ shift x (items_in_turn numbers x.0 (map bare is))
        by (Bad f fs) g h = refl

    items_stand : (is : List FileItem) (c : Course) (js : List FileItem) → Stands p c js → Gives (λ y. Stands p y.0 (js ++ y.1)) (items_in_turn numbers c is)
    items_stand [] c js stands = subst (Stands p c) (sym (append-nil js)) stands
    items_stand (i ∷ is) c js stands = by (item_in_turn numbers c i) (item_stands c js stands i) (λ x so. items_stand is x.0 (js ++ x.1) so)
      where
        shift : (x : Course × List FileItem) (m : Checked (Course × List FileItem)) → Gives (λ y. Stands p y.0 ((js ++ x.1) ++ y.1)) m → Gives (λ y. Stands p y.0 (js ++ y.1)) (one_part m (λ y. Good (paired y.0 (x.1 ++ y.1))))
        shift x (Good y) h = subst (Stands p y.0) (append_assoc js x.1 y.1) h
        shift x (Bad f fs) h = tt

        by : (m : Checked (Course × List FileItem)) → Gives (λ x. Stands p x.0 (js ++ x.1)) m
            → ((x : Course × List FileItem) → Stands p x.0 (js ++ x.1) → Gives (λ y. Stands p y.0 ((js ++ x.1) ++ y.1)) (items_in_turn numbers x.0 is))
            → Gives (λ y. Stands p y.0 (js ++ y.1)) (one_part m (λ x. one_part (items_in_turn numbers x.0 is) (λ y. Good (paired y.0 (x.1 ++ y.1)))))
        by (Good x) g h = shift x (items_in_turn numbers x.0 is) (h x g)
        by (Bad f fs) g h = tt

    start_stands : Stands p (course_at (first_sight p)) []
    start_stands = record { behind = record { functions = refl; names = λ x. refl }; names = refl; texts = refl }

    abbrev pub in_turn : Checked (Course × List FileItem)
    in_turn = items_in_turn numbers (course_at (first_sight p)) (map bare (items_of_file p))

    unit_is : typed_unit p ≡ one_part (onward [] in_turn) (λ r. Good (with_progress p r))
    unit_is = ap (λ m. one_part m (λ r. Good (with_progress p r))) (items_step (items_of_file p) (course_at (first_sight p)) [] start_stands)

    -- a file whose items are typed
    pub unit_typed : (c : Course) (js : List FileItem) → in_turn ≡ Good (c, js)
        → typed_unit p ≡ Good (record p { names = c.sight.names; texts = c.sight.texts; structs = c.sight.structs; enums = among enum_of js; typedefs = among typedef_of js; globals = among global_of js; funcs = among function_of js })
    unit_typed c js good =
        let stands = gives_of (λ y. Stands p y.0 y.1) in_turn (c, js) (items_stand (map bare (items_of_file p)) (course_at (first_sight p)) [] start_stands) good in
        unit_is ∙ ap (λ m. one_part (onward [] m) (λ r. Good (with_progress p r))) good
        ∙ (λ i. Good (record (with_progress p (progress c js)) { names = sym stands.names i; texts = sym stands.texts i }))

    -- one with an item that is refused
    pub unit_refused : {S T : Type 0} (q : T → Course × List FileItem) (w : S → TranslationUnit) (h : TypeFault) → Answers q in_turn (Err h) → Answers w (typed_unit p) (Err h)
    unit_refused q w h bad =
        subst (λ m. Answers w m (Err h)) (sym unit_is)
        (one_refused (λ r. Good (with_progress p r)) (λ (t : _). progress (q t).0 (q t).1) w (onward [] in_turn) h
        (one_refused (λ (x : Course × List FileItem). Good (progress x.0 ([] ++ x.1))) q (λ (t : _). progress (q t).0 (q t).1) in_turn h bad))

-- items without what isn't kept
pub kept_same : {A : Type 0} (f : FileItem → List A) → ((i : FileItem) → among f (kept i) ≡ f i) → (is : List FileItem) → among f (all_kept is) ≡ among f is
kept_same f same [] = refl
kept_same f same (i ∷ is) = among_append f (kept i) (all_kept is) ∙ (λ k. same i k ++ kept_same f same is k)

kept_enum : (i : FileItem) → among enum_of (kept i) ≡ enum_of i
kept_enum (StructHead k s) = refl
kept_enum (Member k m ends) = refl
kept_enum (AnEnum e) = refl
kept_enum (ATypedef d) = refl
kept_enum (AGlobal d) = refl
kept_enum (AFunction f) = refl

kept_typedef : (i : FileItem) → among typedef_of (kept i) ≡ typedef_of i
kept_typedef (StructHead k s) = refl
kept_typedef (Member k m ends) = refl
kept_typedef (AnEnum e) = refl
kept_typedef (ATypedef d) = refl
kept_typedef (AGlobal d) = refl
kept_typedef (AFunction f) = refl

kept_global : (i : FileItem) → among global_of (kept i) ≡ global_of i
kept_global (StructHead k s) = refl
kept_global (Member k m ends) = refl
kept_global (AnEnum e) = refl
kept_global (ATypedef d) = refl
kept_global (AGlobal d) = refl
kept_global (AFunction f) = refl

kept_function : (i : FileItem) → among function_of (kept i) ≡ function_of i
kept_function (StructHead k s) = refl
kept_function (Member k m ends) = refl
kept_function (AnEnum e) = refl
kept_function (ATypedef d) = refl
kept_function (AGlobal d) = refl
kept_function (AFunction f) = refl

-- a file to which what is typed is given back
pub given_back : (p : TranslationUnit) (c : Course) (is : List FileItem)
    → record p {
      names = c.sight.names;
      texts = c.sight.texts;
      structs = c.sight.structs;
      enums = among enum_of (all_kept is);
      typedefs = among typedef_of (all_kept is);
      globals = among global_of (all_kept is);
      funcs = among function_of (all_kept is);
    }
    ≡ with_items (with_sight (without_sight (emptied p)) c.sight) is
given_back p c is = λ i. record p {
  names = c.sight.names;
  texts = c.sight.texts;
  structs = c.sight.structs;
  enums = kept_same enum_of kept_enum is i;
  typedefs = kept_same typedef_of kept_typedef is i;
  globals = kept_same global_of kept_global is i;
  funcs = kept_same function_of kept_function is i;
}

-- a file whose items are taken, typed and given back
pub unit_from : (p q : TranslationUnit) (c : Course) (is : List FileItem) (r z : Result (Unit {0}) TypeFault) → Answers (λ (u : Unit {0}). (c, all_kept is)) (in_turn p) r → Finished r (without_sight (emptied p)) c.sight is q z
    → Answers (λ (u : Unit {0}). q) (typed_unit p) z
unit_from p q c is (Err e) z h f = subst (Answers (λ (u : Unit {0}). q) (typed_unit p)) (sym f) (unit_refused p (λ (u : Unit {0}). (c, all_kept is)) (λ (u : Unit {0}). q) e h)
unit_from p q c is (Ok u) (Ok v) h f = unit_typed p c (all_kept is) h ∙ ap Good (given_back p c is ∙ sym f)
unit_from p q c is (Ok u) (Err e) h f = subst (λ e. Answers (λ (u : Unit {0}). q) (typed_unit p) (Err e)) (sym f) tt

-- in words of what the code keeps
pub unit_found : (p q : TranslationUnit) (ds : ℕ → Option Callee) (b c : Course) (js is : List FileItem) (r z : Result (Unit {0}) TypeFault) (o : TranslationUnit) → ((x : ℕ) → ds x ≡ denoted p.funcs x) → b ≡ course_at (first_sight p)
    → js ≡ map bare (items_of_file p) → o ≡ without_sight (emptied p) → Answers (λ (u : Unit {0}). (c, all_kept is)) (items_in_turn ds b js) r → Finished r o c.sight is q z → Answers (λ (u : Unit {0}). q) (typed_unit p) z
unit_found p q ds b c js is r z o told first items emptied h f =
    unit_from p q c is r z (subst (λ m. Answers (λ (u : Unit {0}). (c, all_kept is)) m r) (λ i. items_in_turn (λ x. told x i) (first i) (items i)) h) (subst (λ o. Finished r o c.sight is q z) emptied f)
