-- What is known of the items of a file doesn't look at the ranges of its annotations: it is the same without them.
use Rattle.std.proofs.Common.{◌≡◌, ℕ, suc, ◌&&◌, Bool, true, false, if◌then◌else◌, nat_eq, nat_lt, List, [], ◌∷◌, ◌++◌, map, Option, Some, None, option_map, refl, sym, ap, ◌∙◌, subst}
use Rattle.c_syntax.specs.Statements.{Declaration}
use Rattle.c_syntax.specs.Programs.{StructMember, StructType, EnumType, Function, TranslationUnit}
use Rattle.c_model.specs.Meaning.{is_definition, definition_at}
use Rattle.c_model.specs.ExpressionTyping.{Signature, Sight}
use Rattle.c_model.specs.UnitTyping.{FileItem, StructHead, Member, AnEnum, ATypedef, AGlobal, AFunction, offset_of_item, member_items, struct_items, inserted, in_order, items_of_file, with_function, behind_item, types_of}
use Rattle.c_model.specs.TextOrder.{numbers_of_item, numbers_of_items}
use Rattle.c_model.specs.TypedTrees.{FunctionTyped}
use Rattle.c_model.specs.TypedAnnotations.{FunctionNoted}
use Rattle.c_model.specs.TypedPrograms.{ItemTyped, ItemsTyped}
use Rattle.c_model.specs.FileItems.{ItemNoted, FileNoted, IsDefined, AreDefined, ItemResolved, FileResolved}
use Rattle.c_model.specs.UnrangedPrograms.{unranged_function, unranged_unit}
use Rattle.c_model.proofs.UnrangedTerms.{Alike, itself, beside}
use Rattle.c_model.proofs.UnrangedFunctions.{function_typed, function_noted, same_numbers, same_definition, same_signature}

-- ---- the items of a file

abbrev pub unranged_item : FileItem → FileItem
unranged_item (StructHead k s) = StructHead k s
unranged_item (Member k m ends) = Member k m ends
unranged_item (AnEnum e) = AnEnum e
unranged_item (ATypedef d) = ATypedef d
unranged_item (AGlobal d) = AGlobal d
unranged_item (AFunction f) = AFunction (unranged_function f)

same_offset : (x : FileItem) → offset_of_item (unranged_item x) ≡ offset_of_item x
same_offset (StructHead k s) = refl
same_offset (Member k m ends) = refl
same_offset (AnEnum e) = refl
same_offset (ATypedef d) = refl
same_offset (AGlobal d) = refl
same_offset (AFunction f) = refl

same_inserted : (x : FileItem) (ys : List FileItem) → inserted (unranged_item x) (map unranged_item ys) ≡ map unranged_item (inserted x ys)
same_inserted x [] = refl
same_inserted x (y ∷ ys) =
    (λ i. if nat_lt (same_offset y i) (same_offset x i) then unranged_item y ∷ same_inserted x ys i else unranged_item x ∷ unranged_item y ∷ map unranged_item ys)
    ∙ by (nat_lt (offset_of_item y) (offset_of_item x))
  where
    by : (t : Bool) → (if t then unranged_item y ∷ map unranged_item (inserted x ys) else unranged_item x ∷ unranged_item y ∷ map unranged_item ys)
        ≡ map unranged_item (if t then y ∷ inserted x ys else x ∷ y ∷ ys)
    by true = refl
    by false = refl

same_order : (xs : List FileItem) → in_order (map unranged_item xs) ≡ map unranged_item (in_order xs)
same_order [] = refl
same_order (x ∷ xs) = ap (inserted (unranged_item x)) (same_order xs) ∙ same_inserted x (in_order xs)

-- a row of items of which all but the last ones are no functions
behind_members : (k : ℕ) (ms : List StructMember) (xs ys : List FileItem) → ys ≡ map unranged_item xs → member_items k ms ++ ys ≡ map unranged_item (member_items k ms ++ xs)
behind_members k [] xs ys e = e
behind_members k (m ∷ []) xs ys e = ap (λ l. Member k m true ∷ l) e
behind_members k (m ∷ n ∷ ms) xs ys e = ap (λ l. Member k m false ∷ l) (behind_members k (n ∷ ms) xs ys e)

in_brackets : (a b c : List FileItem) → (a ++ b) ++ c ≡ a ++ (b ++ c)
in_brackets [] b c = refl
in_brackets (x ∷ a) b c = ap (λ l. x ∷ l) (in_brackets a b c)

behind_structs : (k : ℕ) (ss : List StructType) (xs ys : List FileItem) → ys ≡ map unranged_item xs → struct_items k ss ++ ys ≡ map unranged_item (struct_items k ss ++ xs)
behind_structs k [] xs ys e = e
behind_structs k (s ∷ ss) xs ys e =
    ap (λ l. StructHead k s ∷ l)
    (in_brackets (member_items k s.members) (struct_items (suc k) ss) ys
    ∙ behind_members k s.members (struct_items (suc k) ss ++ xs) (struct_items (suc k) ss ++ ys) (behind_structs (suc k) ss xs ys e)
    ∙ ap (map unranged_item) (sym (in_brackets (member_items k s.members) (struct_items (suc k) ss) xs)))

behind_enums : (es : List EnumType) (xs ys : List FileItem) → ys ≡ map unranged_item xs → map AnEnum es ++ ys ≡ map unranged_item (map AnEnum es ++ xs)
behind_enums [] xs ys e = e
behind_enums (x ∷ es) xs ys e = ap (λ l. AnEnum x ∷ l) (behind_enums es xs ys e)

behind_typedefs : (ds : List Declaration) (xs ys : List FileItem) → ys ≡ map unranged_item xs → map ATypedef ds ++ ys ≡ map unranged_item (map ATypedef ds ++ xs)
behind_typedefs [] xs ys e = e
behind_typedefs (d ∷ ds) xs ys e = ap (λ l. ATypedef d ∷ l) (behind_typedefs ds xs ys e)

behind_globals : (ds : List Declaration) (xs ys : List FileItem) → ys ≡ map unranged_item xs → map AGlobal ds ++ ys ≡ map unranged_item (map AGlobal ds ++ xs)
behind_globals [] xs ys e = e
behind_globals (d ∷ ds) xs ys e = ap (λ l. AGlobal d ∷ l) (behind_globals ds xs ys e)

same_functions : (fs : List Function) → map AFunction (map unranged_function fs) ≡ map unranged_item (map AFunction fs)
same_functions [] = refl
same_functions (f ∷ fs) = ap (λ l. AFunction (unranged_function f) ∷ l) (same_functions fs)

pub same_items : (p : TranslationUnit) → items_of_file (unranged_unit p) ≡ map unranged_item (items_of_file p)
same_items p =
    ap in_order (behind_structs 0 p.structs _ _ (behind_enums p.enums _ _ (behind_typedefs p.typedefs _ _ (behind_globals p.globals _ _ (same_functions p.funcs)))))
    ∙ same_order (struct_items 0 p.structs ++ (map AnEnum p.enums ++ (map ATypedef p.typedefs ++ (map AGlobal p.globals ++ map AFunction p.funcs))))

pub same_numbers_of_items : (xs : List FileItem) → numbers_of_items (map unranged_item xs) ≡ numbers_of_items xs
same_numbers_of_items [] = refl
same_numbers_of_items (x ∷ xs) = λ i. by x i ++ same_numbers_of_items xs i
  where
    by : (x : FileItem) → numbers_of_item (unranged_item x) ≡ numbers_of_item x
    by (StructHead k s) = refl
    by (Member k m ends) = refl
    by (AnEnum e) = refl
    by (ATypedef d) = refl
    by (AGlobal d) = refl
    by (AFunction f) = same_numbers f

-- ---- the definitions of a file

pub same_definition_at : (n : ℕ) (fs : List Function) → definition_at n (map unranged_function fs) ≡ option_map unranged_function (definition_at n fs)
same_definition_at n [] = refl
same_definition_at n (f ∷ fs) =
    (λ i. if same_definition f i && nat_eq f.place.offset n then Some (unranged_function f) else same_definition_at n fs i) ∙ by (is_definition f && nat_eq f.place.offset n)
  where
    by : (t : Bool) → (if t then Some (unranged_function f) else option_map unranged_function (definition_at n fs)) ≡ option_map unranged_function (if t then Some f else definition_at n fs)
    by true = refl
    by false = refl

module _ (p : TranslationUnit) where
  -- what is in sight behind a function
  with_same : (s : Sight) (f : Function) → with_function (unranged_unit p) s (unranged_function f) ≡ with_function p s f
  with_same s f = λ i. record s { functions = s.functions ++ same_signature p.funcs f i ∷ [] }

  behind_same : (s : Sight) (x : FileItem) → behind_item (unranged_unit p) s (unranged_item x) ≡ behind_item p s x
  behind_same s (StructHead k struct) = refl
  behind_same s (Member k m ends) = refl
  behind_same s (AnEnum e) = refl
  behind_same s (ATypedef d) = refl
  behind_same s (AGlobal d) = refl
  behind_same s (AFunction f) = with_same s f

  -- ---- annotations

  item_noted : (s : Sight) (x : FileItem) → ItemNoted (unranged_unit p) s (unranged_item x) ≡ ItemNoted p s x
  item_noted s (StructHead k struct) = refl
  item_noted s (Member k m ends) = refl
  item_noted s (AnEnum e) = refl
  item_noted s (ATypedef d) = refl
  item_noted s (AGlobal d) = refl
  item_noted s (AFunction f) = ap (λ t. FunctionNoted t (unranged_function f)) (with_same s f) ∙ function_noted (with_function p s f) f

  pub file_noted : (s : Sight) (xs : List FileItem) → FileNoted (unranged_unit p) s (map unranged_item xs) ≡ FileNoted p s xs
  file_noted s [] = refl
  file_noted s (x ∷ xs) = λ i.
      item_noted s x i × (ap (λ t. FileNoted (unranged_unit p) t (map unranged_item xs)) (behind_same s x) ∙ file_noted (behind_item p s x) xs) i

  -- ---- types

  item_typed : (s : Sight) (x : FileItem) → Alike (ItemTyped (unranged_unit p) s (unranged_item x)) (ItemTyped p s x)
  item_typed s (StructHead k struct) = itself
  item_typed s (Member k m ends) = itself
  item_typed s (AnEnum e) = itself
  item_typed s (ATypedef d) = itself
  item_typed s (AGlobal d) = itself
  item_typed s (AFunction f) = subst (λ t. Alike (FunctionTyped t (unranged_function f)) (FunctionTyped (with_function p s f) f)) (sym (with_same s f)) (function_typed (with_function p s f) f)

  pub file_typed : (s : Sight) (xs : List FileItem) → Alike (ItemsTyped (unranged_unit p) s (map unranged_item xs)) (ItemsTyped p s xs)
  file_typed s [] = itself
  file_typed s (x ∷ xs) =
      beside (item_typed s x)
      (subst (λ t. Alike (ItemsTyped (unranged_unit p) t (map unranged_item xs)) (ItemsTyped p (behind_item p s x) xs)) (sym (behind_same s x)) (file_typed (behind_item p s x) xs))

  -- ---- calls

  with_ranges : (x : ℕ) (g : Signature) → IsDefined (unranged_unit p) x g → IsDefined p x g
  with_ranges x g h = by (definition_at g.decl p.funcs) refl
    where
      by : (o : Option Function) → definition_at g.decl p.funcs ≡ o → IsDefined p x g
      by None e = absurd (no (sym (same_definition_at g.decl p.funcs ∙ ap (option_map unranged_function) e) ∙ h.at))
        where
          no : None ≡ Some h.function → ⊥
          no e = cc
      by (Some f) e =
          let found : Some (unranged_function f) ≡ Some h.function = sym (same_definition_at g.decl p.funcs ∙ ap (option_map unranged_function) e) ∙ h.at in
          let same : unranged_function f ≡ h.function = cc in
          record {
            function = f;
            at = e;
            own = h.own;
            name = ap (λ (x : Function). x.name) same ∙ h.name;
            params = h.params ∙ ap (λ (x : Function). types_of x.params) (sym same);
            scalar = h.scalar;
            result = h.result ∙ ap (λ (x : Function). x.result) (sym same);
          }

  is_defined : (x : ℕ) (g : Signature) → Alike (IsDefined (unranged_unit p) x g) (IsDefined p x g)
  is_defined x g = record {
    to = with_ranges x g;
    from = λ h. record {
      function = unranged_function h.function;
      at = same_definition_at g.decl p.funcs ∙ ap (option_map unranged_function) h.at;
      own = h.own;
      name = h.name;
      params = h.params;
      scalar = h.scalar;
      result = h.result;
    };
  }

  are_defined : (gs : List Signature) → Alike (AreDefined (unranged_unit p) gs) (AreDefined p gs)
  are_defined gs = record { to = λ h x g e d. (is_defined x g).to (h x g e d); from = λ h x g e d. (is_defined x g).from (h x g e d) }

  item_resolved : (s : Sight) (x : FileItem) → Alike (ItemResolved (unranged_unit p) s (unranged_item x)) (ItemResolved p s x)
  item_resolved s (StructHead k struct) = itself
  item_resolved s (Member k m ends) = itself
  item_resolved s (AnEnum e) = itself
  item_resolved s (ATypedef d) = itself
  item_resolved s (AGlobal d) = are_defined s.functions
  item_resolved s (AFunction f) =
      subst (λ (t : Sight). Alike (AreDefined (unranged_unit p) t.functions) (AreDefined p (with_function p s f).functions)) (sym (with_same s f)) (are_defined (with_function p s f).functions)

  pub file_resolved : (s : Sight) (xs : List FileItem) → Alike (FileResolved (unranged_unit p) s (map unranged_item xs)) (FileResolved p s xs)
  file_resolved s [] = itself
  file_resolved s (x ∷ xs) =
      beside (item_resolved s x)
      (subst (λ t. Alike (FileResolved (unranged_unit p) t (map unranged_item xs)) (FileResolved p (behind_item p s x) xs)) (sym (behind_same s x)) (file_resolved (behind_item p s x) xs))
