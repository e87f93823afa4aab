-- The structs of a typed file are laid out.
use Rattle.std.proofs.Common.{◌≡◌, ℕ, zero, suc, ◌&&◌, ◌||◌, pos, refl, sym, ap, ◌∙◌, subst, List, [], ◌∷◌, ◌++◌, map, Option, Some, None, Bool, true, false, not, if◌then◌else◌, nat_eq, nat_le, slice_get, slice_set}
use Rattle.c_syntax.specs.Ctypes.{PlainType}
use Rattle.c_syntax.specs.Programs.{StructMember, StructType, EnumConstant, TranslationUnit}
use Rattle.c_syntax.specs.Layouts.{member_among}
use Rattle.c_model.specs.Library.{is_there}
use Rattle.c_model.specs.Checked.{Good, one_part, where_so}
use Rattle.c_model.specs.ExpressionTyping.{no_name, too_large, Sight, HasSize, sized, is_among, most_bytes, limited, typed_type, known_type}
use Rattle.c_model.specs.DeclarationTyping.{object_type, typed_global, typed_typedef, member_added, with_member, typed_member_type, typed_member, typed_enumerators}
use Rattle.c_model.specs.UnitTyping.{FileItem, StructHead, Member, AnEnum, ATypedef, AGlobal, AFunction, unknown, typed_function, Progress, new_tag, typed_item_of_file, typed_items_of_file, at_start, items_of_file, with_progress}
use Rattle.c_model.specs.UnitTyping.{typed_unit}
use Rattle.c_model.specs.TypedPrograms.{IsLaidOut, AreLaidOut}
use Rattle.c_model.specs.PlacedTrees.{MembersInOrder}
use Rattle.c_model.specs.TextOrder.{InTextOrder}
use Rattle.c_model.proofs.TypedParts.{Gives, gives_of, gives_one, gives_both, gives_where, gives_sized}
use Rattle.c_model.proofs.TypedSoundness.{gives_limited}
use Rattle.c_model.proofs.TypedDeclarations.{anything}
use Rattle.c_model.proofs.TypedUnits.{gives_two}
use Rattle.c_model.proofs.StableConstants.{Grows}
use Rattle.c_model.proofs.StableStatements.{AreSized}
use Rattle.c_model.proofs.GrownStructs.{set_same, set_other, same_number, other_number, clash, AreKnown, set_known, one_more_sized, placed_sized}
use Rattle.c_model.proofs.TypedBelow.{ended_after, IsInOrder, first_in_order, rest_in_order, enumerators_structs, GrownBy, item_grown, first_known}
use Rattle.c_model.proofs.LaidOut.{laid_again, laid_out_kept}
use Rattle.c_model.proofs.EndedMembers.{ends_in, MembersEnd, members_ended}

-- a struct of the file, which is laid out where its last member isn't among the items to come
record IsLaidBut (p : TranslationUnit) (is : List FileItem) (ss : List StructType) (n : ℕ) (x : StructType) : Type 0 where
  there : is_there (slice_get p.structs n) ≡ true
  laid : ends_in n is ≡ false → IsLaidOut ss x

abbrev AreLaidBut : TranslationUnit → List FileItem → List StructType → Type 0
AreLaidBut p is ss = (n : ℕ) (x : StructType) → slice_get ss n ≡ Some x → IsLaidBut p is ss n x

-- of another struct nothing ends with a member
abbrev SameOthers : ℕ → List FileItem → List FileItem → Type 0
SameOthers k is js = (n : ℕ) → nat_eq n k ≡ false → ends_in n js ≡ ends_in n is

set_laid : (p : TranslationUnit) (ended : List ℕ) (is js : List FileItem) (ss : List StructType) → AreKnown ended ss → AreLaidBut p is ss → (k : ℕ) (x : StructType) → slice_get ss k ≡ Some x
    → (y : StructType) → AreSized ss y.members → Grows ss (slice_set ss k y) → SameOthers k is js → (ends_in k js ≡ false → IsLaidOut ss y) → AreLaidBut p js (slice_set ss k y)
set_laid p ended is js ss h l k x e y m g others own n u i = by (nat_eq n k) refl
  where
    itself : n ≡ k → slice_get (slice_set ss k y) k ≡ Some u → IsLaidBut p js (slice_set ss k y) n u
    itself same i =
        let equal : Some y ≡ Some u = sym (set_same ss k x y e) ∙ i in
        let one : y ≡ u = cc in record {
          there = subst (λ n. is_there (slice_get p.structs n) ≡ true) (sym same) (l k x e).there;
          laid = λ f. subst (IsLaidOut (slice_set ss k y)) one (laid_out_kept ss (slice_set ss k y) g y m (own (subst (λ n. ends_in n js ≡ false) same f)));
        }

    by : (b : Bool) → nat_eq n k ≡ b → IsLaidBut p js (slice_set ss k y) n u
    by true c = itself (same_number n k c) (subst (λ n. slice_get (slice_set ss k y) n ≡ Some u) (same_number n k c) i)
    by false c =
        let j = sym (set_other ss k y n (other_number n k c)) ∙ i in record {
          there = (l n u j).there;
          laid = λ f. laid_out_kept ss (slice_set ss k y) g u (h.members n u j) ((l n u j).laid (sym (others n c) ∙ f));
        }

-- a member's type has a size, and its struct stays small with it
record FitsIn (s : Sight) (struct : StructType) (m : StructMember) (t : PlainType) : Type 0 where
  sized : sized s.structs t ≡ HasSize
  small : nat_le (member_added s struct t m).size most_bytes ≡ true

member_fits : (s : Sight) (struct : StructType) (m : StructMember) → Gives (FitsIn s struct m) (typed_member_type s struct m)
member_fits s struct m =
    gives_one (λ t. sized s.structs t ≡ HasSize) (FitsIn s struct m) (limited s m.place (known_type s m.ctype) (one_part (typed_type s m.place m.ctype) (object_type s m.place))) _
    (gives_limited (λ t. sized s.structs t ≡ HasSize) s m.place (known_type s m.ctype) (one_part (typed_type s m.place m.ctype) (object_type s m.place))
    (gives_one (λ t. Unit {0}) (λ t. sized s.structs t ≡ HasSize) (typed_type s m.place m.ctype) (object_type s m.place) (anything (typed_type s m.place m.ctype))
    (λ t v. gives_sized (λ t. sized s.structs t ≡ HasSize) s m.place t (Good t) (λ k. k))))
    (λ t w. gives_where (FitsIn s struct m) (nat_le (member_added s struct t m).size most_bytes) (too_large m.place) (Good t) (λ e. record { sized = w; small = e }))

-- a member is the last one of its struct, or that one is to come
abbrev EndsOr : ℕ → Bool → List FileItem → Type 0
EndsOr k ends is = ends ≡ false → ends_in k is ≡ true

same_others : (k : ℕ) (m : StructMember) (ends : Bool) (is : List FileItem) → SameOthers k (Member k m ends ∷ is) is
same_others k m ends is n c = ap (λ b. b && ends || ends_in n is) (sym c)

member_laid : (p : TranslationUnit) (ended : List ℕ) (s : Sight) → AreKnown ended s.structs → (k : ℕ) → is_among k ended ≡ false → (x : StructType) → slice_get s.structs k ≡ Some x
    → (m : StructMember) (ends : Bool) (is : List FileItem) → AreLaidBut p (Member k m ends ∷ is) s.structs → EndsOr k ends is
    → Gives (λ (u : Sight). AreLaidBut p is u.structs) (typed_member s k x m ends)
member_laid p ended s h k o x e m ends is l z = gives_both (λ u. Unit {0}) (FitsIn s x m) (λ (u : Sight). AreLaidBut p is u.structs)
    (where_so (not (is_there (member_among m.name x.members))) (no_name m.place) (Good (tt {0}))) (typed_member_type s x m) (λ n t. Good (with_member s k x t m ends))
    (anything _) (member_fits s x m) (λ n t v w. by t w ends z (same_others k m ends is))
  where
    members : (t : PlainType) → FitsIn s x m t → AreSized s.structs (member_added s x t m).members
    members t w = placed_sized s.structs s.structs 0 (x.members ++ record m { ctype = t } ∷ []) (one_more_sized s.structs x.members (record m { ctype = t }) (h.members k x e) w.sized)

    by : (t : PlainType) → FitsIn s x m t → (b : Bool) → EndsOr k b is → SameOthers k (Member k m ends ∷ is) is
        → AreLaidBut p is (slice_set s.structs k (if b then member_added s x t m else record (member_added s x t m) { size = 0 }))
    by t w true z others = set_laid p ended (Member k m ends ∷ is) is s.structs h l k x e (member_added s x t m) (members t w)
        (set_known ended s.structs h k o x e (member_added s x t m) (members t w) true (λ d. absurd cc)).grows others
        (λ f. record { is = laid_again s.structs (record x { members = x.members ++ record m { ctype = t } ∷ [] }); small = w.small })
    by t w false z others = set_laid p ended (Member k m ends ∷ is) is s.structs h l k x e (record (member_added s x t m) { size = 0 }) (members t w)
        (set_known ended s.structs h k o x e (record (member_added s x t m) { size = 0 }) (members t w) false (λ d. refl)).grows others
        (λ f. absurd (clash (ends_in k is) (z refl) f))

-- ---- items

-- what ends no struct changes nothing
passed : (p : TranslationUnit) (is js : List FileItem) (ss : List StructType) → ((n : ℕ) → ends_in n js ≡ ends_in n is) → AreLaidBut p is ss → AreLaidBut p js ss
passed p is js ss same l n x i = record { there = (l n x i).there; laid = λ f. (l n x i).laid (sym (same n) ∙ f) }

abbrev ItemEnds : TranslationUnit → FileItem → List FileItem → Type 0
ItemEnds p (Member k m ends) is = is_there (slice_get p.structs k) ≡ true → EndsOr k ends is
ItemEnds p i is = Unit {0}

item_laid : (p : TranslationUnit) (ended : List ℕ) (r : Progress) → AreKnown ended r.sight.structs → (i : FileItem) → IsInOrder ended i → (is : List FileItem)
    → AreLaidBut p (i ∷ is) r.sight.structs → ItemEnds p i is → Gives (λ (q : Progress). AreLaidBut p is q.sight.structs) (typed_item_of_file p r i)
item_laid p ended r h (StructHead k s) o is l z =
    gives_one (λ u. Unit {0}) (λ (q : Progress). AreLaidBut p is q.sight.structs) (new_tag r.tags s.place s.tag) _ (anything _) (λ u v. passed p (StructHead k s ∷ is) is r.sight.structs (λ n. refl) l)
item_laid p ended r h (Member k m ends) o is l z = by (slice_get r.sight.structs k) refl
  where
    -- of a struct that isn't there nothing is known
    absent : slice_get r.sight.structs k ≡ None → (n : ℕ) (x : StructType) → slice_get r.sight.structs n ≡ Some x → (b : Bool) → nat_eq n k ≡ b → IsLaidBut p is r.sight.structs n x
    absent e n x i true c = let none : None ≡ Some x = sym e ∙ subst (λ n. slice_get r.sight.structs n ≡ Some x) (same_number n k c) i in absurd cc
    absent e n x i false c = record { there = (l n x i).there; laid = λ f. (l n x i).laid (sym (same_others k m ends is n c) ∙ f) }

    by : (c : Option StructType) → slice_get r.sight.structs k ≡ c → Gives (λ (q : Progress). AreLaidBut p is q.sight.structs) (elim c [
      | None ↦ Good r
      | Some struct ↦ one_part (typed_member r.sight k struct m ends) (λ s. Good (record r { sight = s }))
    ])
    by None e = λ n x i. absent e n x i (nat_eq n k) refl
    by (Some x) e = gives_one (λ (u : Sight). AreLaidBut p is u.structs) (λ (q : Progress). AreLaidBut p is q.sight.structs) (typed_member r.sight k x m ends)
        (λ s. Good (record r { sight = s })) (member_laid p ended r.sight h k o x e m ends is l (z (l k x e).there)) (λ s v. v)
item_laid p ended r h (AnEnum e) o is l z = gives_one (λ u. Unit {0}) (λ (q : Progress). AreLaidBut p is q.sight.structs) (new_tag r.tags e.place e.tag) _ (anything _) (λ u v.
    gives_one (λ (x : Sight × List EnumConstant). x.0.structs ≡ r.sight.structs) (λ (q : Progress). AreLaidBut p is q.sight.structs) (typed_enumerators r.sight (pos 0) e.items) _
    (enumerators_structs r.sight (pos 0) e.items) (λ x i. subst (AreLaidBut p is) (sym i) (passed p (AnEnum e ∷ is) is r.sight.structs (λ n. refl) l)))
item_laid p ended r h (ATypedef d) o is l z =
    gives_one (λ u. Unit {0}) (λ (q : Progress). AreLaidBut p is q.sight.structs) (typed_typedef r.sight d) _ (anything _) (λ u v. passed p (ATypedef d ∷ is) is r.sight.structs (λ n. refl) l)
item_laid p ended r h (AGlobal d) o is l z =
    gives_one (λ u. Unit {0}) (λ (q : Progress). AreLaidBut p is q.sight.structs) (typed_global r.sight d) _ (anything _) (λ u v. passed p (AGlobal d ∷ is) is r.sight.structs (λ n. refl) l)
item_laid p ended r h (AFunction f) o is l z =
    gives_one (λ u. Unit {0}) (λ (q : Progress). AreLaidBut p is q.sight.structs) (typed_function p r.sight r.funcs f) _ (anything _) (λ u v. passed p (AFunction f ∷ is) is r.sight.structs (λ n. refl) l)

items_laid : (p : TranslationUnit) (ended : List ℕ) (r : Progress) → AreKnown ended r.sight.structs → (is : List FileItem) → AreLaidBut p is r.sight.structs → MembersInOrder ended is → MembersEnd p is
    → Gives (λ (q : Progress). AreLaidBut p [] q.sight.structs) (typed_items_of_file p r is)
items_laid p ended r h [] l m z = l
items_laid p ended r h (i ∷ is) l m z =
    gives_one (λ q. GrownBy ended r i q × AreLaidBut p is q.sight.structs) (λ (q : Progress). AreLaidBut p [] q.sight.structs) (typed_item_of_file p r i) (λ r. typed_items_of_file p r is)
    (gives_two (GrownBy ended r i) (λ (q : Progress). AreLaidBut p is q.sight.structs) (typed_item_of_file p r i) (item_grown p ended r h i (first_in_order ended i is m))
    (item_laid p ended r h i (first_in_order ended i is m) is l (first_ends i z))) (λ q v.
    items_laid p (ended_after i ended) q v.0.known is v.1 (rest_in_order ended i is m) (rest_ends i z))
  where
    first_ends : (i : FileItem) → MembersEnd p (i ∷ is) → ItemEnds p i is
    first_ends (Member k m ends) h = h.0
    first_ends (StructHead k s) h = tt
    first_ends (AnEnum e) h = tt
    first_ends (ATypedef d) h = tt
    first_ends (AGlobal d) h = tt
    first_ends (AFunction f) h = tt

    rest_ends : (i : FileItem) → MembersEnd p (i ∷ is) → MembersEnd p is
    rest_ends (Member k m ends) h = h.1
    rest_ends (StructHead k s) h = h
    rest_ends (AnEnum e) h = h
    rest_ends (ATypedef d) h = h
    rest_ends (AGlobal d) h = h
    rest_ends (AFunction f) h = h

-- ---- files

-- a struct of which nothing is known has no members, and is laid out
first_laid : (p : TranslationUnit) (is : List FileItem) → AreLaidBut p is (map unknown p.structs)
first_laid p is n x e = record { there = there p.structs n x e; laid = λ f. laid p.structs n x e }
  where
    there : (ss : List StructType) (n : ℕ) (x : StructType) → slice_get (map unknown ss) n ≡ Some x → is_there (slice_get ss n) ≡ true
    there [] n x e = absurd cc
    there (s ∷ ss) zero x e = refl
    there (s ∷ ss) (suc n) x e = there ss n x e

    laid : (ss : List StructType) (n : ℕ) (x : StructType) → slice_get (map unknown ss) n ≡ Some x → IsLaidOut (map unknown p.structs) x
    laid [] n x e = absurd cc
    laid (s ∷ ss) zero x e = let same : unknown s ≡ x = cc in subst (IsLaidOut (map unknown p.structs)) same (record { is = refl; small = refl })
    laid (s ∷ ss) (suc n) x e = laid ss n x e

all_laid : (all ss : List StructType) → ((n : ℕ) (x : StructType) → slice_get ss n ≡ Some x → IsLaidOut all x) → AreLaidOut all ss
all_laid all [] h = tt
all_laid all (s ∷ ss) h = (h 0 s refl, all_laid all ss (λ n x e. h (suc n) x e))

-- the structs of a typed file are laid out
pub structs_laid_out : (p q : TranslationUnit) → InTextOrder p → typed_unit p ≡ Good q → AreLaidOut q.structs q.structs
structs_laid_out p q o is = gives_of (λ (q : TranslationUnit). AreLaidOut q.structs q.structs) (typed_unit p) q
    (gives_one (λ (r : Progress). AreLaidBut p [] r.sight.structs) (λ (q : TranslationUnit). AreLaidOut q.structs q.structs) (typed_items_of_file p (at_start p) (items_of_file p))
    (λ r. Good (with_progress p r)) (items_laid p [] (at_start p) (first_known p.structs) (items_of_file p) (first_laid p (items_of_file p)) o.members (members_ended p o))
    (λ r v. all_laid r.sight.structs r.sight.structs (λ n x e. (v n x e).laid refl))) is
