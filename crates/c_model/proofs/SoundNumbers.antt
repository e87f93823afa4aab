-- Each number is that of one declaration of an accepted program, since what a file declares stands at places that ascend.
use Rattle.std.proofs.Common.{◌≡◌, ℕ, suc, ◌≤◌, List, [], ◌∷◌, ◌++◌, map, ◌⊎◌, inl, inr, Option, Some, None, refl, sym, ap, ◌∙◌, subst, arith}
use Rattle.std.proofs.Common.{append_assoc}
use Rattle.c_syntax.specs.Statements.{Declaration}
use Rattle.c_syntax.specs.Programs.{EnumConstant, Function, TranslationUnit}
use Rattle.c_model.specs.UnitTyping.{FileItem, StructHead, Member, AnEnum, ATypedef, AGlobal, AFunction, items_of_file}
use Rattle.c_model.specs.Formed.{number_of, declared_in_body}
use Rattle.c_model.specs.ReadTree.{Between, offset_of_constant, numbers_of_item, numbers_of_items}
use Rattle.c_model.specs.SoundStates.{IsAmong, declared_by, declarations, NumbersAreOne}
use Rattle.c_model.proofs.NeverStuckItems.{IsAmong as IsItem, global_in_file, function_in_file}

-- ---- numbers, each with the declaration of an object that has it

record Numbered : Type 0 where
  number : ℕ
  object : Option Declaration

abbrev by_itself : ℕ → Numbered
by_itself n = record { number = n; object = None }

abbrev of_object : Declaration → Numbered
of_object d = record { number = d.place.offset; object = Some d }

abbrev of_constants : List EnumConstant → List Numbered
of_constants [] = []
of_constants (e ∷ es) = by_itself (offset_of_constant e) ∷ of_constants es

abbrev of_objects : List Declaration → List Numbered
of_objects [] = []
of_objects (d ∷ ds) = of_object d ∷ of_objects ds

abbrev in_item : FileItem → List Numbered
in_item (StructHead k s) = by_itself s.place.offset ∷ []
in_item (Member k m ends) = by_itself m.place.offset ∷ []
in_item (AnEnum e) = by_itself e.place.offset ∷ of_constants e.items
in_item (ATypedef d) = by_itself d.place.offset ∷ []
in_item (AGlobal d) = of_object d ∷ []
in_item (AFunction f) = by_itself f.place.offset ∷ of_objects (f.params ++ declared_in_body f.body)

abbrev in_items : List FileItem → List Numbered
in_items [] = []
in_items (i ∷ is) = in_item i ++ in_items is

abbrev numbers : List Numbered → List ℕ
numbers [] = []
numbers (n ∷ ns) = n.number ∷ numbers ns

numbers_append : (a b : List Numbered) → numbers (a ++ b) ≡ numbers a ++ numbers b
numbers_append [] b = refl
numbers_append (n ∷ a) b = ap (λ l. n.number ∷ l) (numbers_append a b)

numbers_of_constants : (es : List EnumConstant) → numbers (of_constants es) ≡ map offset_of_constant es
numbers_of_constants [] = refl
numbers_of_constants (e ∷ es) = ap (λ l. offset_of_constant e ∷ l) (numbers_of_constants es)

numbers_of_objects : (ds : List Declaration) → numbers (of_objects ds) ≡ map number_of ds
numbers_of_objects [] = refl
numbers_of_objects (d ∷ ds) = ap (λ l. number_of d ∷ l) (numbers_of_objects ds)

numbers_in_item : (i : FileItem) → numbers (in_item i) ≡ numbers_of_item i
numbers_in_item (StructHead k s) = refl
numbers_in_item (Member k m ends) = refl
numbers_in_item (AnEnum e) = ap (λ l. e.place.offset ∷ l) (numbers_of_constants e.items)
numbers_in_item (ATypedef d) = refl
numbers_in_item (AGlobal d) = refl
numbers_in_item (AFunction f) = ap (λ l. f.place.offset ∷ l) (numbers_of_objects (f.params ++ declared_in_body f.body))

numbers_in_items : (is : List FileItem) → numbers (in_items is) ≡ numbers_of_items is
numbers_in_items [] = refl
numbers_in_items (i ∷ is) = numbers_append (in_item i) (in_items is) ∙ ap (λ l. l ++ numbers (in_items is)) (numbers_in_item i) ∙ ap (λ l. numbers_of_item i ++ l) (numbers_in_items is)

-- ---- among numbers that ascend

abbrev IsIn : Numbered → List Numbered → Type 0
IsIn n [] = ⊥
IsIn n (m ∷ ms) = (m ≡ n) ⊎ IsIn n ms

in_left : (n : Numbered) (a b : List Numbered) → IsIn n a → IsIn n (a ++ b)
in_left n [] b h = absurd h
in_left n (m ∷ a) b (inl same) = inl same
in_left n (m ∷ a) b (inr h) = inr (in_left n a b h)

in_right : (n : Numbered) (a b : List Numbered) → IsIn n b → IsIn n (a ++ b)
in_right n [] b h = h
in_right n (m ∷ a) b h = inr (in_right n a b h)

not_below : (low : ℕ) (ns : List Numbered) (high : ℕ) → Between low (numbers ns) high → (n : Numbered) → IsIn n ns → low ≤ n.number
not_below low [] high b n h = absurd h
not_below low (m ∷ ns) high b n (inl same) = subst (λ (x : Numbered). low ≤ x.number) same b.0
not_below low (m ∷ ns) high b n (inr h) = let le = not_below (suc m.number) ns high b.1 n h in let first = b.0 in omega (arith, le, first)

-- two of one number are one
one_number : (low : ℕ) (ns : List Numbered) (high : ℕ) → Between low (numbers ns) high → (n m : Numbered) → IsIn n ns → IsIn m ns → n.number ≡ m.number → n ≡ m
one_number low [] high b n m h g e = absurd h
one_number low (x ∷ ns) high b n m (inl same) (inl other) e = sym same ∙ other
one_number low (x ∷ ns) high b n m (inl same) (inr g) e =
    let le = not_below (suc x.number) ns high b.1 m g in
    let is = ap (λ (y : Numbered). y.number) same in
    absurd (omega (arith, le, is, e))
one_number low (x ∷ ns) high b n m (inr h) (inl same) e =
    let le = not_below (suc x.number) ns high b.1 n h in
    let is = ap (λ (y : Numbered). y.number) same in
    absurd (omega (arith, le, is, e))
one_number low (x ∷ ns) high b n m (inr h) (inr g) e = one_number (suc x.number) ns high b.1 n m h g e

-- ---- declarations of a file

of_objects_in : (d : Declaration) (ds : List Declaration) → IsAmong d ds → IsIn (of_object d) (of_objects ds)
of_objects_in d [] h = absurd h
of_objects_in d (e ∷ ds) (inl same) = inl (ap of_object same)
of_objects_in d (e ∷ ds) (inr h) = inr (of_objects_in d ds h)

in_file : (n : Numbered) (i : FileItem) (is : List FileItem) → IsItem i is → IsIn n (in_item i) → IsIn n (in_items is)
in_file n i [] h g = absurd h
in_file n i (j ∷ is) (inl same) g = in_left n (in_item j) (in_items is) (subst (λ k. IsIn n (in_item k)) (sym same) g)
in_file n i (j ∷ is) (inr h) g = in_right n (in_item j) (in_items is) (in_file n i is h g)

among_either : (d : Declaration) (a b : List Declaration) → IsAmong d (a ++ b) → IsAmong d a ⊎ IsAmong d b
among_either d [] b h = inr h
among_either d (e ∷ a) b (inl same) = inl (inl same)
among_either d (e ∷ a) b (inr h) = by (among_either d a b h)
  where
    by : IsAmong d a ⊎ IsAmong d b → IsAmong d (e ∷ a) ⊎ IsAmong d b
    by (inl g) = inl (inr g)
    by (inr g) = inr g

among_three : (d : Declaration) (a b c : List Declaration) → IsAmong d (a ++ (b ++ c)) → IsAmong d (a ++ b) ⊎ IsAmong d c
among_three d a b c h = among_either d (a ++ b) c (subst (IsAmong d) (sym (append_assoc a b c)) h)

module _ (p : TranslationUnit) where
  of_global : (d : Declaration) (front ds : List Declaration) → front ++ ds ≡ p.globals → IsAmong d ds → IsIn (of_object d) (in_items (items_of_file p))
  of_global d front [] is h = absurd h
  of_global d front (e ∷ ds) is (inl same) =
      in_file (of_object d) (AGlobal e) (items_of_file p) (global_in_file p front ds e is) (inl (ap of_object same))
  of_global d front (e ∷ ds) is (inr h) = of_global d (front ++ e ∷ []) ds (append_assoc front (e ∷ []) ds ∙ is) h

  of_function : (d : Declaration) (front fs : List Function) → front ++ fs ≡ p.funcs → IsAmong d (declared_by fs) → IsIn (of_object d) (in_items (items_of_file p))
  of_function d front [] is h = absurd h
  of_function d front (f ∷ fs) is h = by (λ g. of_function d (front ++ f ∷ []) fs (append_assoc front (f ∷ []) fs ∙ is) g) (among_three d f.params (declared_in_body f.body) (declared_by fs) h)
    where
      by : (IsAmong d (declared_by fs) → IsIn (of_object d) (in_items (items_of_file p))) → IsAmong d (f.params ++ declared_in_body f.body) ⊎ IsAmong d (declared_by fs)
          → IsIn (of_object d) (in_items (items_of_file p))
      by rest (inl g) =
          in_file (of_object d) (AFunction f) (items_of_file p) (function_in_file p front fs f is) (inr (of_objects_in d (f.params ++ declared_in_body f.body) g))
      by rest (inr g) = rest g

  of_program : (d : Declaration) → IsAmong d (declarations p) → IsIn (of_object d) (in_items (items_of_file p))
  of_program d h = by (among_either d p.globals (declared_by p.funcs) h)
    where
      by : IsAmong d p.globals ⊎ IsAmong d (declared_by p.funcs) → IsIn (of_object d) (in_items (items_of_file p))
      by (inl g) = of_global d [] p.globals refl g
      by (inr g) = of_function d [] p.funcs refl g

object_is : (d e : Declaration) → of_object d ≡ of_object e → d ≡ e
object_is d e same = let is : Some d ≡ Some e = ap (λ (n : Numbered). n.object) same in cc

pub numbers_are_one : NumbersAreOne
numbers_are_one p q d e h g same =
    let ascend : Between 0 (numbers (in_items (items_of_file p))) 4294967295 = subst (λ ns. Between 0 ns 4294967295) (sym (numbers_in_items (items_of_file p))) q.numbered in
    object_is d e (one_number 0 (in_items (items_of_file p)) 4294967295 ascend (of_object d) (of_object e) (of_program p d h) (of_program p e g) same)
