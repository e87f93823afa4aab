-- In the order of a text each struct that has members has a last one.
use Rattle.std.proofs.Common.{◌≡◌, ℕ, refl, sym, ap, ◌∙◌, subst, List, [], ◌∷◌, Option, Some, None, Bool, true, false, ◌&&◌, ◌||◌, if◌then◌else◌, nat_eq, slice_get, arith}
use Rattle.std.proofs.lemmas.Bool.Decides.{nat_tests}
use Rattle.c_syntax.specs.Programs.{StructMember, StructType, TranslationUnit}
use Rattle.c_model.specs.Library.{is_there}
use Rattle.c_model.specs.UnitTyping.{FileItem, StructHead, Member, AnEnum, ATypedef, AGlobal, AFunction, member_items, items_of_file}
use Rattle.c_model.specs.TextOrder.{struct_among, InTextOrder}
use Rattle.c_model.proofs.GrownStructs.{other_number}

-- whether the last member of a struct is among items
abbrev pub ends_in : ℕ → List FileItem → Bool
ends_in n [] = false
ends_in n (StructHead k s ∷ is) = ends_in n is
ends_in n (Member k m ends ∷ is) = nat_eq n k && ends || ends_in n is
ends_in n (AnEnum e ∷ is) = ends_in n is
ends_in n (ATypedef d ∷ is) = ends_in n is
ends_in n (AGlobal d ∷ is) = ends_in n is
ends_in n (AFunction f ∷ is) = ends_in n is

-- a member of a struct of the file that isn't its last one stands before that
abbrev pub MembersEnd : TranslationUnit → List FileItem → Type 0
MembersEnd p [] = Unit {0}
MembersEnd p (StructHead k s ∷ is) = MembersEnd p is
MembersEnd p (Member k m ends ∷ is) = (is_there (slice_get p.structs k) ≡ true → ends ≡ false → ends_in k is ≡ true) × MembersEnd p is
MembersEnd p (AnEnum e ∷ is) = MembersEnd p is
MembersEnd p (ATypedef d ∷ is) = MembersEnd p is
MembersEnd p (AGlobal d ∷ is) = MembersEnd p is
MembersEnd p (AFunction f ∷ is) = MembersEnd p is

-- the same of one struct
abbrev EachEnds : ℕ → List FileItem → Type 0
EachEnds n [] = Unit {0}
EachEnds n (StructHead k s ∷ is) = EachEnds n is
EachEnds n (Member k m ends ∷ is) = (n ≡ k → ends ≡ false → ends_in n is ≡ true) × EachEnds n is
EachEnds n (AnEnum e ∷ is) = EachEnds n is
EachEnds n (ATypedef d ∷ is) = EachEnds n is
EachEnds n (AGlobal d ∷ is) = EachEnds n is
EachEnds n (AFunction f ∷ is) = EachEnds n is

pub itself : (n : ℕ) → nat_eq n n ≡ true
itself n = grind (arith, nat_tests)

last_one : (n : ℕ) (m : StructMember) (ms : List StructMember) → ends_in n (member_items n (m ∷ ms)) ≡ true
last_one n m [] = ap (λ b. b && true || false) (itself n)
last_one n m (x ∷ ms) = ap (λ b. b && false || ends_in n (member_items n (x ∷ ms))) (itself n) ∙ last_one n x ms

members_end : (n : ℕ) (ms : List StructMember) → EachEnds n (member_items n ms)
members_end n [] = tt
members_end n (m ∷ []) = (λ e f. absurd cc, tt)
members_end n (m ∷ x ∷ ms) = (λ e f. last_one n x ms, members_end n (x ∷ ms))

ends_among : (n : ℕ) (is : List FileItem) → ends_in n (struct_among n is) ≡ ends_in n is
ends_among n [] = refl
ends_among n (StructHead k s ∷ is) = by (nat_eq n k) (ends_among n is)
  where
    by : (b : Bool) → ends_in n (struct_among n is) ≡ ends_in n is → ends_in n (if b then StructHead k s ∷ struct_among n is else struct_among n is) ≡ ends_in n is
    by true h = h
    by false h = h
ends_among n (Member k m ends ∷ is) = by (nat_eq n k) refl (ends_among n is)
  where
    by : (b : Bool) → nat_eq n k ≡ b → ends_in n (struct_among n is) ≡ ends_in n is
        → ends_in n (if b then Member k m ends ∷ struct_among n is else struct_among n is) ≡ (nat_eq n k && ends || ends_in n is)
    by true e h = ap (λ b. nat_eq n k && ends || b) h
    by false e h = h ∙ ap (λ b. b && ends || ends_in n is) (sym e)
ends_among n (AnEnum e ∷ is) = ends_among n is
ends_among n (ATypedef d ∷ is) = ends_among n is
ends_among n (AGlobal d ∷ is) = ends_among n is
ends_among n (AFunction f ∷ is) = ends_among n is

among_end : (n : ℕ) (is : List FileItem) → EachEnds n (struct_among n is) → EachEnds n is
among_end n [] h = tt
among_end n (StructHead k s ∷ is) h = by (nat_eq n k) (among_end n is) h
  where
    by : (b : Bool) → (EachEnds n (struct_among n is) → EachEnds n is) → EachEnds n (if b then StructHead k s ∷ struct_among n is else struct_among n is) → EachEnds n is
    by true next h = next h
    by false next h = next h
among_end n (Member k m ends ∷ is) h = by (nat_eq n k) refl (among_end n is) h
  where
    by : (b : Bool) → nat_eq n k ≡ b → (EachEnds n (struct_among n is) → EachEnds n is) → EachEnds n (if b then Member k m ends ∷ struct_among n is else struct_among n is)
        → (n ≡ k → ends ≡ false → ends_in n is ≡ true) × EachEnds n is
    by true e next h = (λ same f. sym (ends_among n is) ∙ h.0 same f, next h.1)
    by false e next h = (λ same f. absurd (other_number n k e same), next h)
among_end n (AnEnum e ∷ is) h = among_end n is h
among_end n (ATypedef d ∷ is) h = among_end n is h
among_end n (AGlobal d ∷ is) h = among_end n is h
among_end n (AFunction f ∷ is) h = among_end n is h

each_ends : (p : TranslationUnit) (is : List FileItem) → ((n : ℕ) → is_there (slice_get p.structs n) ≡ true → EachEnds n is) → MembersEnd p is
each_ends p [] h = tt
each_ends p (StructHead k s ∷ is) h = each_ends p is h
each_ends p (Member k m ends ∷ is) h = (λ there f. (h k there).0 refl f, each_ends p is (λ n there. (h n there).1))
each_ends p (AnEnum e ∷ is) h = each_ends p is h
each_ends p (ATypedef d ∷ is) h = each_ends p is h
each_ends p (AGlobal d ∷ is) h = each_ends p is h
each_ends p (AFunction f ∷ is) h = each_ends p is h

pub members_ended : (p : TranslationUnit) → InTextOrder p → MembersEnd p (items_of_file p)
members_ended p o = each_ends p (items_of_file p) (λ n there. by n (slice_get p.structs n) refl there)
  where
    by : (n : ℕ) (s : Option StructType) → slice_get p.structs n ≡ s → is_there s ≡ true → EachEnds n (items_of_file p)
    by n None e there = absurd cc
    by n (Some s) e there = among_end n (items_of_file p) (subst (EachEnds n) (sym (o.structs n s e)) (members_end n s.members))
