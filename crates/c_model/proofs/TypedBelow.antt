-- Each item of a typed file is typed with structs that the whole file has so too.
use Rattle.std.proofs.Common.{◌≡◌, ℕ, zero, suc, ◌||◌, ℤ, pos, ◌+ℤ◌, refl, sym, ap, subst, List, [], ◌∷◌, map, Option, Some, None, Bool, true, false, nat_eq, slice_get}
use Rattle.c_syntax.specs.Programs.{StructType, EnumConstant, TranslationUnit}
use Rattle.c_model.specs.Checked.{Good, one_part, both_parts}
use Rattle.c_model.specs.ExpressionTyping.{Sight, is_among}
use Rattle.c_model.specs.DeclarationTyping.{is_declared_in_file, own_name, typed_global, typed_typedef, typed_member, typed_value, with_enumerator, typed_enumerators}
use Rattle.c_model.specs.UnitTyping.{FileItem, StructHead, Member, AnEnum, ATypedef, AGlobal, AFunction, unknown, typed_function, Progress, new_tag, typed_item_of_file}
use Rattle.c_model.specs.PlacedTrees.{MembersInOrder}
use Rattle.c_model.proofs.TypedParts.{Gives, gives_one}
use Rattle.c_model.proofs.TypedDeclarations.{anything}
use Rattle.c_model.proofs.StableStatements.{AreSized}
use Rattle.c_model.proofs.GrownStructs.{AreKnown, IsGrown, ended_by, member_grown}

-- ---- the structs behind an item

abbrev pub ended_after : FileItem → List ℕ → List ℕ
ended_after (Member k m ends) ended = ended_by k ends ended
ended_after i ended = ended

abbrev pub IsInOrder : List ℕ → FileItem → Type 0
IsInOrder ended (Member k m ends) = is_among k ended ≡ false
IsInOrder ended i = Unit {0}

pub first_in_order : (ended : List ℕ) (i : FileItem) (is : List FileItem) → MembersInOrder ended (i ∷ is) → IsInOrder ended i
first_in_order ended (Member k m ends) is h = h.0
first_in_order ended (StructHead k s) is h = tt
first_in_order ended (AnEnum e) is h = tt
first_in_order ended (ATypedef d) is h = tt
first_in_order ended (AGlobal d) is h = tt
first_in_order ended (AFunction f) is h = tt

pub rest_in_order : (ended : List ℕ) (i : FileItem) (is : List FileItem) → MembersInOrder ended (i ∷ is) → MembersInOrder (ended_after i ended) is
rest_in_order ended (Member k m ends) is h = h.1
rest_in_order ended (StructHead k s) is h = h
rest_in_order ended (AnEnum e) is h = h
rest_in_order ended (ATypedef d) is h = h
rest_in_order ended (AGlobal d) is h = h
rest_in_order ended (AFunction f) is h = h

unchanged : (ended : List ℕ) (old new : List StructType) → AreKnown ended old → new ≡ old → IsGrown ended old new
unchanged ended old new h e = subst (IsGrown ended old) (sym e) (record { grows = λ n x i z. i; known = h })

pub enumerators_structs : (s : Sight) (next : ℤ) (es : List EnumConstant) → Gives (λ (x : Sight × List EnumConstant). x.0.structs ≡ s.structs) (typed_enumerators s next es)
enumerators_structs s next [] = refl
enumerators_structs s next (e ∷ es) =
    gives_one (λ v. Unit {0}) (λ (x : Sight × List EnumConstant). x.0.structs ≡ s.structs)
    (both_parts (own_name s (is_declared_in_file s e.name) e.place e.name) (typed_value s e.place next e.value) (λ n v. Good v)) _ (anything _) (λ v u.
    gives_one (λ (x : Sight × List EnumConstant). x.0.structs ≡ s.structs) (λ (x : Sight × List EnumConstant). x.0.structs ≡ s.structs)
    (typed_enumerators (with_enumerator s e.name v.0) (v.0 +ℤ pos 1) es) _ (enumerators_structs (with_enumerator s e.name v.0) (v.0 +ℤ pos 1) es) (λ x h. h))

abbrev pub GrownBy : List ℕ → Progress → FileItem → Progress → Type 0
GrownBy ended r i q = IsGrown (ended_after i ended) r.sight.structs q.sight.structs

pub item_grown : (p : TranslationUnit) (ended : List ℕ) (r : Progress) → AreKnown ended r.sight.structs → (i : FileItem) → IsInOrder ended i → Gives (GrownBy ended r i) (typed_item_of_file p r i)
item_grown p ended r h (StructHead k s) o =
    gives_one (λ u. Unit {0}) (GrownBy ended r (StructHead k s)) (new_tag r.tags s.place s.tag) _ (anything _) (λ u v. unchanged ended r.sight.structs r.sight.structs h refl)
item_grown p ended r h (Member k m ends) o = by (slice_get r.sight.structs k) refl
  where
    more_ended : AreKnown (ended_by k ends ended) r.sight.structs
    more_ended = record { known = λ n x e z. more n (h.known n x e z) ends; members = h.members }
      where
        more : (n : ℕ) → is_among n ended ≡ true → (b : Bool) → is_among n (ended_by k b ended) ≡ true
        more n e true = or_more (nat_eq n k)
          where
            or_more : (b : Bool) → (b || is_among n ended) ≡ true
            or_more true = refl
            or_more false = e
        more n e false = e

    by : (c : Option StructType) → slice_get r.sight.structs k ≡ c → Gives (GrownBy ended r (Member k m ends)) (elim c [
      | None ↦ Good r
      | Some struct ↦ one_part (typed_member r.sight k struct m ends) (λ s. Good (record r { sight = s }))
    ])
    by None e = unchanged (ended_by k ends ended) r.sight.structs r.sight.structs more_ended refl
    by (Some x) e = gives_one (λ (u : Sight). IsGrown (ended_by k ends ended) r.sight.structs u.structs) (GrownBy ended r (Member k m ends)) (typed_member r.sight k x m ends)
        (λ s. Good (record r { sight = s })) (member_grown ended r.sight h k o x e m ends) (λ s v. v)
item_grown p ended r h (AnEnum e) o = gives_one (λ u. Unit {0}) (GrownBy ended r (AnEnum e)) (new_tag r.tags e.place e.tag) _ (anything _) (λ u v.
    gives_one (λ (x : Sight × List EnumConstant). x.0.structs ≡ r.sight.structs) (GrownBy ended r (AnEnum e)) (typed_enumerators r.sight (pos 0) e.items) _ (enumerators_structs r.sight (pos 0) e.items)
    (λ x i. unchanged ended r.sight.structs x.0.structs h i))
item_grown p ended r h (ATypedef d) o =
    gives_one (λ u. Unit {0}) (GrownBy ended r (ATypedef d)) (typed_typedef r.sight d) _ (anything _) (λ u v. unchanged ended r.sight.structs r.sight.structs h refl)
item_grown p ended r h (AGlobal d) o =
    gives_one (λ u. Unit {0}) (GrownBy ended r (AGlobal d)) (typed_global r.sight d) _ (anything _) (λ u v. unchanged ended r.sight.structs r.sight.structs h refl)
item_grown p ended r h (AFunction f) o =
    gives_one (λ u. Unit {0}) (GrownBy ended r (AFunction f)) (typed_function p r.sight r.funcs f) _ (anything _) (λ u v. unchanged ended r.sight.structs r.sight.structs h refl)

-- ---- items

pub first_known : (ss : List StructType) → AreKnown [] (map unknown ss)
first_known ss = record { known = known ss; members = λ n x e. sized_members (map unknown ss) ss n x e }
  where
    known : (ss : List StructType) (n : ℕ) (x : StructType) → slice_get (map unknown ss) n ≡ Some x → nat_eq x.size 0 ≡ false → is_among n [] ≡ true
    known [] n x e z = absurd cc
    known (s ∷ ss) zero x e z = let same : unknown s ≡ x = cc in let size : x.size ≡ 0 = ap (λ (x : StructType). x.size) (sym same) in absurd (let f : nat_eq 0 0 ≡ false = subst (λ n. nat_eq n 0 ≡ false) size z in cc)
    known (s ∷ ss) (suc n) x e z = known ss n x e z

    sized_members : (all ss : List StructType) (n : ℕ) (x : StructType) → slice_get (map unknown ss) n ≡ Some x → AreSized all x.members
    sized_members all [] n x e = absurd cc
    sized_members all (s ∷ ss) zero x e = let same : unknown s ≡ x = cc in subst (λ (x : StructType). AreSized all x.members) same tt
    sized_members all (s ∷ ss) (suc n) x e = sized_members all ss n x e

-- ---- a global and a function with the structs of the whole file
