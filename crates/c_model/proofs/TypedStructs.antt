-- The structs of a typed file are those that were read, with the same members in the same order.
use Rattle.std.proofs.Common.{◌≡◌, ℕ, zero, suc, ◌+◌, pos, refl, sym, ap, ◌∙◌, subst, List, [], ◌∷◌, ◌++◌, map, length, Option, Some, None, Bool, true}
use Rattle.std.proofs.Common.{false, not, if◌then◌else◌, nat_eq, slice_get, slice_set, append_assoc, append-nil, arith}
use Rattle.c_syntax.specs.Ctypes.{PlainType}
use Rattle.c_syntax.specs.Programs.{StructMember, StructType, EnumConstant, TranslationUnit}
use Rattle.c_syntax.specs.Layouts.{size_of, align_of, aligned, member_among}
use Rattle.c_model.specs.Library.{is_there}
use Rattle.c_model.specs.Checked.{Good, one_part, where_so}
use Rattle.c_model.specs.ExpressionTyping.{no_name, Sight}
use Rattle.c_model.specs.DeclarationTyping.{placed_from, typed_global, typed_typedef, member_added, with_member, typed_member_type, typed_member, typed_enumerators}
use Rattle.c_model.specs.UnitTyping.{FileItem, StructHead, Member, AnEnum, ATypedef, AGlobal, AFunction, member_items, unknown, typed_function, Progress, new_tag, typed_item_of_file, typed_items_of_file, at_start}
use Rattle.c_model.specs.UnitTyping.{items_of_file, with_progress, typed_unit}
use Rattle.c_model.specs.TextOrder.{struct_among, InTextOrder}
use Rattle.c_model.specs.TypedFileItems.{members_named, StructTypedAs, StructsTypedAs}
use Rattle.c_model.proofs.TypedParts.{Gives, gives_of, gives_one, gives_both}
use Rattle.c_model.proofs.TypedDeclarations.{anything}
use Rattle.c_model.proofs.GrownStructs.{set_same, set_other, same_number, other_number}
use Rattle.c_model.proofs.EndedMembers.{itself}
use Rattle.c_model.proofs.TypedBelow.{enumerators_structs}

-- ---- members among items

abbrev members_to_come : ℕ → List FileItem → List StructMember
members_to_come n [] = []
members_to_come n (StructHead k s ∷ is) = members_to_come n is
members_to_come n (Member k m ends ∷ is) = if nat_eq n k then m ∷ members_to_come n is else members_to_come n is
members_to_come n (AnEnum e ∷ is) = members_to_come n is
members_to_come n (ATypedef d ∷ is) = members_to_come n is
members_to_come n (AGlobal d ∷ is) = members_to_come n is
members_to_come n (AFunction f ∷ is) = members_to_come n is

items_members : (n : ℕ) (ms : List StructMember) → members_to_come n (member_items n ms) ≡ ms
items_members n [] = refl
items_members n (m ∷ []) = ap (λ b. if b then m ∷ [] else []) (itself n)
items_members n (m ∷ x ∷ ms) =
    ap (λ b. if b then m ∷ members_to_come n (member_items n (x ∷ ms)) else members_to_come n (member_items n (x ∷ ms))) (itself n)
    ∙ ap (λ l. m ∷ l) (items_members n (x ∷ ms))

come_among : (n : ℕ) (is : List FileItem) → members_to_come n (struct_among n is) ≡ members_to_come n is
come_among n [] = refl
come_among n (StructHead k s ∷ is) = by (nat_eq n k) (come_among n is)
  where
    by : (b : Bool) → members_to_come n (struct_among n is) ≡ members_to_come n is
        → members_to_come n (if b then StructHead k s ∷ struct_among n is else struct_among n is) ≡ members_to_come n is
    by true h = h
    by false h = h
come_among n (Member k m ends ∷ is) = by (nat_eq n k) refl (come_among n is)
  where
    by : (b : Bool) → nat_eq n k ≡ b → members_to_come n (struct_among n is) ≡ members_to_come n is
        → members_to_come n (if b then Member k m ends ∷ struct_among n is else struct_among n is) ≡ (if nat_eq n k then m ∷ members_to_come n is else members_to_come n is)
    by true e h = ap (λ l. if nat_eq n k then m ∷ l else l) h
    by false e h = h ∙ ap (λ b. if b then m ∷ members_to_come n is else members_to_come n is) (sym e)
come_among n (AnEnum e ∷ is) = come_among n is
come_among n (ATypedef d ∷ is) = come_among n is
come_among n (AGlobal d ∷ is) = come_among n is
come_among n (AFunction f ∷ is) = come_among n is

-- ---- names of members

named_append : (ms ns : List StructMember) → members_named (ms ++ ns) ≡ members_named ms ++ members_named ns
named_append [] ns = refl
named_append (m ∷ ms) ns = ap (λ l. (m.place, m.name) ∷ l) (named_append ms ns)

named_placed : (ss : List StructType) (end : ℕ) (ms : List StructMember) → members_named (placed_from ss end ms) ≡ members_named ms
named_placed ss end [] = refl
named_placed ss end (m ∷ ms) = ap (λ l. (m.place, m.name) ∷ l) (named_placed ss (aligned (align_of ss m.ctype) end + size_of ss m.ctype) ms)

-- ---- structs so far

-- the struct x so far is the struct s with its first members, and its others are to come
record IsBegun (n : ℕ) (is : List FileItem) (s x : StructType) : Type 0 where
  place : x.place ≡ s.place
  tag : x.tag ≡ s.tag
  members : members_named x.members ++ members_named (members_to_come n is) ≡ members_named s.members

record Begun (p : TranslationUnit) (n : ℕ) (is : List FileItem) (x : StructType) : Type 0 where
  struct : StructType
  found : slice_get p.structs n ≡ Some struct
  begun : IsBegun n is struct x

record AreBegun (p : TranslationUnit) (is : List FileItem) (ss : List StructType) : Type 0 where
  count : length ss ≡ length p.structs
  each : (n : ℕ) (x : StructType) → slice_get ss n ≡ Some x → Begun p n is x

-- what adds no member changes nothing
passed : (p : TranslationUnit) (is js : List FileItem) (ss : List StructType) → ((n : ℕ) (x : StructType) → slice_get ss n ≡ Some x → members_to_come n js ≡ members_to_come n is) → AreBegun p is ss
    → AreBegun p js ss
passed p is js ss same h = record {
  count = h.count;
  each = λ n x e. let b = h.each n x e in record {
    struct = b.struct;
    found = b.found;
    begun = record {
      place = b.begun.place;
      tag = b.begun.tag;
      members = ap (λ l. members_named x.members ++ members_named l) (same n x e) ∙ b.begun.members;
    };
  };
}

length_set : (ss : List StructType) (k : ℕ) (y : StructType) → length (slice_set ss k y) ≡ length ss
length_set [] k y = refl
length_set (s ∷ ss) zero y = refl
length_set (s ∷ ss) (suc k) y = ap suc (length_set ss k y)

module _ (p : TranslationUnit) (k : ℕ) (m : StructMember) (ends : Bool) (is : List FileItem)
  where
    other_come : (n : ℕ) → nat_eq n k ≡ false → members_to_come n is ≡ members_to_come n (Member k m ends ∷ is)
    other_come n c = ap (λ b. if b then m ∷ members_to_come n is else members_to_come n is) (sym c)

    own_come : members_to_come k (Member k m ends ∷ is) ≡ m ∷ members_to_come k is
    own_come = ap (λ b. if b then m ∷ members_to_come k is else members_to_come k is) (itself k)

    -- a struct with the next of its members
    added : (ss : List StructType) → AreBegun p (Member k m ends ∷ is) ss → (x : StructType) → slice_get ss k ≡ Some x → (y : StructType) → y.place ≡ x.place → y.tag ≡ x.tag
        → members_named y.members ≡ members_named x.members ++ ((m.place, m.name) ∷ []) → AreBegun p is (slice_set ss k y)
    added ss h x e y same_place same_tag same_members = record { count = length_set ss k y ∙ h.count; each = λ n u i. by n u i (nat_eq n k) refl }
      where
        own : Begun p k is y
        own = let b = h.each k x e in record {
          struct = b.struct;
          found = b.found;
          begun = record {
            place = same_place ∙ b.begun.place;
            tag = same_tag ∙ b.begun.tag;
            members = ap (λ l. l ++ members_named (members_to_come k is)) same_members
                ∙ append_assoc (members_named x.members) ((m.place, m.name) ∷ []) (members_named (members_to_come k is))
                ∙ sym (ap (λ l. members_named x.members ++ members_named l) own_come) ∙ b.begun.members;
          };
        }

        by : (n : ℕ) (u : StructType) → slice_get (slice_set ss k y) n ≡ Some u → (b : Bool) → nat_eq n k ≡ b → Begun p n is u
        by n u i true c =
            let at = same_number n k c in
            let equal : Some y ≡ Some u = sym (set_same ss k x y e) ∙ subst (λ n. slice_get (slice_set ss k y) n ≡ Some u) at i in
            let one : y ≡ u = cc in
            subst (λ n. Begun p n is u) (sym at) (subst (Begun p k is) one own)
        by n u i false c =
            let b = h.each n u (sym (set_other ss k y n (other_number n k c)) ∙ i) in record {
              struct = b.struct;
              found = b.found;
              begun = record {
                place = b.begun.place;
                tag = b.begun.tag;
                members = ap (λ l. members_named u.members ++ members_named l) (other_come n c) ∙ b.begun.members;
              };
            }

    absent : (ss : List StructType) → slice_get ss k ≡ None → AreBegun p (Member k m ends ∷ is) ss → AreBegun p is ss
    absent ss e h = passed p (Member k m ends ∷ is) is ss (λ n x i. by n x i (nat_eq n k) refl) h
      where
        by : (n : ℕ) (x : StructType) → slice_get ss n ≡ Some x → (b : Bool) → nat_eq n k ≡ b → members_to_come n is ≡ members_to_come n (Member k m ends ∷ is)
        by n x i true c = absurd (let none : None ≡ Some x = sym e ∙ subst (λ n. slice_get ss n ≡ Some x) (same_number n k c) i in cc)
        by n x i false c = other_come n c

    member_begun : (s : Sight) → AreBegun p (Member k m ends ∷ is) s.structs → (x : StructType) → slice_get s.structs k ≡ Some x → Gives (λ (u : Sight). AreBegun p is u.structs) (typed_member s k x m ends)
    member_begun s h x e = gives_both (λ u. Unit {0}) (λ t. Unit {0}) (λ (u : Sight). AreBegun p is u.structs)
        (where_so (not (is_there (member_among m.name x.members))) (no_name m.place) (Good (tt {0}))) (typed_member_type s x m) (λ n t. Good (with_member s k x t m ends))
        (anything _) (anything _) (λ n t v w. by t ends)
      where
        names : (t : PlainType) → members_named (member_added s x t m).members ≡ members_named x.members ++ ((m.place, m.name) ∷ [])
        names t = named_placed s.structs 0 (x.members ++ record m { ctype = t } ∷ []) ∙ named_append x.members (record m { ctype = t } ∷ [])

        by : (t : PlainType) (b : Bool) → AreBegun p is (slice_set s.structs k (if b then member_added s x t m else record (member_added s x t m) { size = 0 }))
        by t true = added s.structs h x e (member_added s x t m) refl refl (names t)
        by t false = added s.structs h x e (record (member_added s x t m) { size = 0 }) refl refl (names t)

-- ---- items

abbrev StillBegun : TranslationUnit → List FileItem → Progress → Type 0
StillBegun p is q = AreBegun p is q.sight.structs

item_begun : (p : TranslationUnit) (r : Progress) (i : FileItem) (is : List FileItem) → AreBegun p (i ∷ is) r.sight.structs → Gives (StillBegun p is) (typed_item_of_file p r i)
item_begun p r (StructHead k s) is h =
    gives_one (λ u. Unit {0}) (StillBegun p is) (new_tag r.tags s.place s.tag) _ (anything _) (λ u v. passed p (StructHead k s ∷ is) is r.sight.structs (λ n x e. refl) h)
item_begun p r (Member k m ends) is h = by (slice_get r.sight.structs k) refl
  where
    by : (c : Option StructType) → slice_get r.sight.structs k ≡ c → Gives (StillBegun p is) (elim c [
      | None ↦ Good r
      | Some struct ↦ one_part (typed_member r.sight k struct m ends) (λ s. Good (record r { sight = s }))
    ])
    by None e = absent p k m ends is r.sight.structs e h
    by (Some x) e = gives_one (λ (u : Sight). AreBegun p is u.structs) (StillBegun p is) (typed_member r.sight k x m ends) (λ s. Good (record r { sight = s }))
        (member_begun p k m ends is r.sight h x e) (λ s v. v)
item_begun p r (AnEnum e) is h = gives_one (λ u. Unit {0}) (StillBegun p is) (new_tag r.tags e.place e.tag) _ (anything _) (λ u v.
    gives_one (λ (x : Sight × List EnumConstant). x.0.structs ≡ r.sight.structs) (StillBegun p is) (typed_enumerators r.sight (pos 0) e.items) _ (enumerators_structs r.sight (pos 0) e.items)
    (λ x i. subst (AreBegun p is) (sym i) (passed p (AnEnum e ∷ is) is r.sight.structs (λ n x e. refl) h)))
item_begun p r (ATypedef d) is h =
    gives_one (λ u. Unit {0}) (StillBegun p is) (typed_typedef r.sight d) _ (anything _) (λ u v. passed p (ATypedef d ∷ is) is r.sight.structs (λ n x e. refl) h)
item_begun p r (AGlobal d) is h =
    gives_one (λ u. Unit {0}) (StillBegun p is) (typed_global r.sight d) _ (anything _) (λ u v. passed p (AGlobal d ∷ is) is r.sight.structs (λ n x e. refl) h)
item_begun p r (AFunction f) is h =
    gives_one (λ u. Unit {0}) (StillBegun p is) (typed_function p r.sight r.funcs f) _ (anything _) (λ u v. passed p (AFunction f ∷ is) is r.sight.structs (λ n x e. refl) h)

items_begun : (p : TranslationUnit) (r : Progress) (is : List FileItem) → AreBegun p is r.sight.structs → Gives (StillBegun p []) (typed_items_of_file p r is)
items_begun p r [] h = h
items_begun p r (i ∷ is) h =
    gives_one (StillBegun p is) (StillBegun p []) (typed_item_of_file p r i) (λ r. typed_items_of_file p r is) (item_begun p r i is h) (λ q v. items_begun p q is v)

-- ---- files

first_begun : (p : TranslationUnit) → InTextOrder p → AreBegun p (items_of_file p) (map unknown p.structs)
first_begun p o = record { count = count p.structs; each = λ n x e. at n x (found p.structs n x e) }
  where
    count : (ss : List StructType) → length (map unknown ss) ≡ length ss
    count [] = refl
    count (s ∷ ss) = ap suc (count ss)

    found : (ss : List StructType) (n : ℕ) (x : StructType) → slice_get (map unknown ss) n ≡ Some x → (s : StructType) × (slice_get ss n ≡ Some s) × (unknown s ≡ x)
    found [] n x e = absurd cc
    found (s ∷ ss) zero x e = (s, refl, cc)
    found (s ∷ ss) (suc n) x e = found ss n x e

    at : (n : ℕ) (x : StructType) → (s : StructType) × (slice_get p.structs n ≡ Some s) × (unknown s ≡ x) → Begun p n (items_of_file p) x
    at n x h = subst (Begun p n (items_of_file p)) h.2 (record {
      struct = h.0;
      found = h.1;
      begun = record {
        place = refl;
        tag = refl;
        members = ap members_named (sym (come_among n (items_of_file p)) ∙ ap (members_to_come n) (o.structs n h.0 h.1) ∙ items_members n h.0.members);
      };
    })

one_by_one : (ss xs : List StructType) → length xs ≡ length ss
    → ((n : ℕ) (x : StructType) → slice_get xs n ≡ Some x → (s : StructType) × (slice_get ss n ≡ Some s) × StructTypedAs s x) → StructsTypedAs ss xs
one_by_one [] [] e h = tt
one_by_one [] (x ∷ xs) e h = absurd (omega (arith, e))
one_by_one (s ∷ ss) [] e h = absurd (omega (arith, e))
one_by_one (s ∷ ss) (x ∷ xs) e h = (first (h zero x refl), one_by_one ss xs (omega (arith, e)) (λ n y i. h (suc n) y i))
  where
    first : (y : StructType) × (Some s ≡ Some y) × StructTypedAs y x → StructTypedAs s x
    first f = let same : s ≡ f.0 = cc in subst (λ s. StructTypedAs s x) (sym same) f.2

pub structs_as : (p q : TranslationUnit) → InTextOrder p → typed_unit p ≡ Good q → StructsTypedAs p.structs q.structs
structs_as p q o is = gives_of (λ (q : TranslationUnit). StructsTypedAs p.structs q.structs) (typed_unit p) q
    (gives_one (StillBegun p []) (λ (q : TranslationUnit). StructsTypedAs p.structs q.structs) (typed_items_of_file p (at_start p) (items_of_file p)) (λ r. Good (with_progress p r))
    (items_begun p (at_start p) (items_of_file p) (first_begun p o)) (λ r v. one_by_one p.structs r.sight.structs v.count (λ n x e.
    let b = v.each n x e in (b.struct, b.found, record { place = b.begun.place; tag = b.begun.tag; members = sym (append-nil (members_named x.members)) ∙ b.begun.members })))) is
