-- What typing makes of a file is typed, each item with what is in sight where it stands.
use Rattle.std.proofs.Common.{◌≡◌, ℕ, zero, suc, ◌+◌, ℤ, pos, ◌+ℤ◌, refl, subst, List, [], ◌∷◌, ◌++◌, map, Option, Some, None, Bool, true, false, not, if◌then◌else◌, nat_le, slice_get, slice_set}
use Rattle.c_syntax.specs.declared.place.Place.{Place}
use Rattle.c_syntax.specs.declared.types.CInt.TheVariants.{I32}
use Rattle.c_syntax.specs.Ctypes.{PlainType}
use Rattle.c_syntax.specs.Expressions.{Expression}
use Rattle.c_syntax.specs.Statements.{Declaration}
use Rattle.c_syntax.specs.Programs.{StructMember, StructType, EnumConstant, TranslationUnit}
use Rattle.c_syntax.specs.Layouts.{size_of, align_of, aligned, member_among}
use Rattle.c_model.specs.Integers.{fits}
use Rattle.c_model.specs.Library.{is_there}
use Rattle.c_model.specs.Checked.{Checked, Good, Bad, one_part, both_parts, where_so}
use Rattle.c_model.specs.ExpressionTyping.{no_name, too_large, AnEnumerator, Sight, most_bytes, limited, constant, decayed_of, typed, typed_type, known_type}
use Rattle.c_model.specs.DeclarationTyping.{placed_from, is_declared_in_file, own_name, object_type, typed_global, typed_typedef, member_added, with_struct, with_member, typed_member_type, typed_member}
use Rattle.c_model.specs.DeclarationTyping.{typed_value, with_enumerator, typed_enumerators}
use Rattle.c_model.specs.UnitTyping.{FileItem, StructHead, Member, AnEnum, ATypedef, AGlobal, AFunction, unknown, first_sight, with_type, typed_function, Progress, new_tag, typed_item_of_file}
use Rattle.c_model.specs.UnitTyping.{typed_items_of_file, at_start, items_of_file, with_progress, typed_unit}
use Rattle.c_model.specs.PlacedTrees.{FileItemAtOffsets, FileAtOffsets}
use Rattle.c_model.specs.TypedReadings.{DeclarationTypedAs, SameDeclaration, EnumeratorsTypedAs, FunctionTypedAs}
use Rattle.c_model.specs.TypedFiles.{ItemStands, ItemsStand, UnitStands}
use Rattle.c_model.specs.TextTypingLaws.{is_whole, AreWhole, IsWholeSight}
use Rattle.c_model.proofs.TypedParts.{Gives, gives_of, gives_one, gives_both, gives_given, gives_where, gives_sized}
use Rattle.c_model.proofs.TypedSoundness.{gives_limited}
use Rattle.c_model.proofs.TypedInitialisers.{sized_is_whole}
use Rattle.c_model.proofs.TypedDeclarations.{anything, after_entity, IsDeclaredThen, global_declared}
use Rattle.c_model.proofs.TypedFunctions.{IsFunctionThen, function_typed}
use Rattle.c_model.proofs.ReadStatements.{global_as, typedef_as, enumerators_as, function_as}

-- ---- where a file begins

unknown_members : (ss : List StructType) (n : ℕ) (x : StructType) → slice_get (map unknown ss) n ≡ Some x → AreWhole x.members
unknown_members [] n x e = absurd cc
unknown_members (s ∷ ss) zero x e = let same : unknown s ≡ x = cc in subst (λ (x : StructType). AreWhole x.members) same tt
unknown_members (s ∷ ss) (suc n) x e = unknown_members ss n x e

pub first_sight_whole : (p : TranslationUnit) → IsWholeSight (first_sight p)
first_sight_whole p = record {
  known = record { objects = λ x b e. absurd cc; enumerators = λ x c e. absurd cc; results = λ x f e. absurd cc };
  members = unknown_members p.structs;
}

-- ---- members

one_more : (ms : List StructMember) (m : StructMember) → AreWhole ms → is_whole m.ctype ≡ true → AreWhole (ms ++ m ∷ [])
one_more [] m h w = (w, tt)
one_more (x ∷ xs) m h w = (h.0, one_more xs m h.1 w)

placed_whole : (structs : List StructType) (end : ℕ) (ms : List StructMember) → AreWhole ms → AreWhole (placed_from structs end ms)
placed_whole structs end [] h = tt
placed_whole structs end (m ∷ ms) h = (h.0, placed_whole structs (aligned (align_of structs m.ctype) end + size_of structs m.ctype) ms h.1)

pub after_set : (P : StructType → Type 0) (ss : List StructType) (k : ℕ) (s : StructType) → ((n : ℕ) (x : StructType) → slice_get ss n ≡ Some x → P x) → P s
    → (n : ℕ) (x : StructType) → slice_get (slice_set ss k s) n ≡ Some x → P x
after_set P [] k s h g n x e = absurd cc
after_set P (y ∷ ys) zero s h g zero x e = let same : s ≡ x = cc in subst P same g
after_set P (y ∷ ys) zero s h g (suc n) x e = h (suc n) x e
after_set P (y ∷ ys) (suc k) s h g zero x e = h zero x e
after_set P (y ∷ ys) (suc k) s h g (suc n) x e = after_set P ys k s (λ n x e. h (suc n) x e) g n x e

with_struct_whole : (s : Sight) → IsWholeSight s → (k : ℕ) (struct : StructType) (levels : ℕ) → AreWhole struct.members → IsWholeSight (with_struct s k struct levels)
with_struct_whole s i k struct levels h = record {
  known = record { objects = i.known.objects; enumerators = i.known.enumerators; results = i.known.results };
  members = after_set (λ (x : StructType). AreWhole x.members) s.structs k struct i.members h;
}

object_type_whole : (s : Sight) (at : Place) (t : PlainType) → Gives (λ u. is_whole u ≡ true) (object_type s at t)
object_type_whole s at t = gives_sized (λ u. is_whole u ≡ true) s at t (Good t) (λ k. sized_is_whole s.structs t k)

member_type_whole : (s : Sight) (struct : StructType) (m : StructMember) → Gives (λ t. is_whole t ≡ true) (typed_member_type s struct m)
member_type_whole s struct m =
    gives_one (λ t. is_whole t ≡ true) (λ t. is_whole t ≡ true) (limited s m.place (known_type s m.ctype) (one_part (typed_type s m.place m.ctype) (object_type s m.place))) _
    (gives_limited (λ t. is_whole t ≡ true) s m.place (known_type s m.ctype) (one_part (typed_type s m.place m.ctype) (object_type s m.place))
    (gives_one (λ t. Unit {0}) (λ t. is_whole t ≡ true) (typed_type s m.place m.ctype) (object_type s m.place) (anything (typed_type s m.place m.ctype)) (λ t v. object_type_whole s m.place t)))
    (λ t w. gives_where (λ t. is_whole t ≡ true) (nat_le (member_added s struct t m).size most_bytes) (too_large m.place) (Good t) (λ e. w))

with_member_whole : (s : Sight) → IsWholeSight s → (k : ℕ) (struct : StructType) → AreWhole struct.members → (t : PlainType) (m : StructMember) (ends : Bool) → is_whole t ≡ true
    → IsWholeSight (with_member s k struct t m ends)
with_member_whole s i k struct h t m ends w = with_struct_whole s i k _ _ (by ends)
  where
    members : AreWhole (member_added s struct t m).members
    members = placed_whole s.structs 0 (struct.members ++ record m { ctype = t } ∷ []) (one_more struct.members (record m { ctype = t }) h w)

    by : (b : Bool) → AreWhole (if b then member_added s struct t m else record (member_added s struct t m) { size = 0 }).members
    by true = members
    by false = members

member_kept : (s : Sight) → IsWholeSight s → (k : ℕ) (struct : StructType) → AreWhole struct.members → (m : StructMember) (ends : Bool) → Gives IsWholeSight (typed_member s k struct m ends)
member_kept s i k struct h m ends = gives_both (λ u. Unit {0}) (λ t. is_whole t ≡ true) IsWholeSight
    (where_so (not (is_there (member_among m.name struct.members))) (no_name m.place) (Good (tt {0}))) (typed_member_type s struct m) (λ n t. Good (with_member s k struct t m ends))
    (anything _) (member_type_whole s struct m) (λ n t v w. with_member_whole s i k struct h t m ends w)

-- ---- enumerators

value_fits : (s : Sight) (at : Place) (next : ℤ) (e : Option Expression) → Gives (λ (v : ℤ × Option Expression). fits I32 v.0 ≡ true) (typed_value s at next e)
value_fits s at next None = gives_where (λ (v : ℤ × Option Expression). fits I32 v.0 ≡ true) (fits I32 next) _ _ (λ e. e)
value_fits s at next (Some e) =
    gives_one (λ x. Unit {0}) (λ (v : ℤ × Option Expression). fits I32 v.0 ≡ true) (decayed_of (typed s e)) _ (anything (decayed_of (typed s e))) (λ x u.
    gives_given (λ (v : ℤ × Option Expression). fits I32 v.0 ≡ true) (constant s x) _ _ (λ z c. gives_where (λ (v : ℤ × Option Expression). fits I32 v.0 ≡ true) (fits I32 z) _ _ (λ f. f)))

enumerators_kept : (s : Sight) → IsWholeSight s → (next : ℤ) (es : List EnumConstant) → Gives (λ (x : Sight × List EnumConstant). IsWholeSight x.0) (typed_enumerators s next es)
enumerators_kept s i next [] = i
enumerators_kept s i next (e ∷ es) =
    gives_one (λ (v : ℤ × Option Expression). fits I32 v.0 ≡ true) (λ (x : Sight × List EnumConstant). IsWholeSight x.0)
    (both_parts (own_name s (is_declared_in_file s e.name) e.place e.name) (typed_value s e.place next e.value) (λ n v. Good v)) _
    (gives_both (λ u. Unit {0}) (λ (v : ℤ × Option Expression). fits I32 v.0 ≡ true) (λ (v : ℤ × Option Expression). fits I32 v.0 ≡ true)
    (own_name s (is_declared_in_file s e.name) e.place e.name) (typed_value s e.place next e.value) (λ n v. Good v) (anything _) (value_fits s e.place next e.value) (λ n v u f. f))
    (λ v f.
    gives_one (λ (x : Sight × List EnumConstant). IsWholeSight x.0) (λ (x : Sight × List EnumConstant). IsWholeSight x.0) (typed_enumerators (with_enumerator s e.name v.0) (v.0 +ℤ pos 1) es) _
    (enumerators_kept (with_enumerator s e.name v.0) (after_entity s i (AnEnumerator (record { name = e.name; value = v.0 })) f) (v.0 +ℤ pos 1) es) (λ x h. h))

-- ---- items

pub gives_two : {A : Type 0} (P Q : A → Type 0) (c : Checked A) → Gives P c → Gives Q c → Gives (λ a. P a × Q a) c
gives_two P Q (Good a) p q = (p, q)
gives_two P Q (Bad f fs) p q = tt

pub record StandsThen (p : TranslationUnit) (r : Progress) (i : FileItem) (q : Progress) : Type 0 where
  pub stands : ItemStands p r i q
  pub sight : IsWholeSight q.sight

same_sight : (s : Sight) → IsWholeSight s → (d : Declaration) → IsWholeSight (with_type s d)
same_sight s i d = record { known = record { objects = i.known.objects; enumerators = i.known.enumerators; results = i.known.results }; members = i.members }

pub item_stands : (p : TranslationUnit) (r : Progress) → IsWholeSight r.sight → (i : FileItem) → FileItemAtOffsets i → Gives (StandsThen p r i) (typed_item_of_file p r i)
item_stands p r w (StructHead k s) o =
    gives_one (λ u. Unit {0}) (StandsThen p r (StructHead k s)) (new_tag r.tags s.place s.tag) _ (anything _) (λ u v. record { stands = record { enums = refl; typedefs = refl; globals = refl; funcs = refl }; sight = w })
item_stands p r w (Member k m ends) o = by (slice_get r.sight.structs k) refl
  where
    by : (c : Option StructType) → slice_get r.sight.structs k ≡ c → Gives (StandsThen p r (Member k m ends)) (elim c [
      | None ↦ Good r
      | Some struct ↦ one_part (typed_member r.sight k struct m ends) (λ s. Good (record r { sight = s }))
    ])
    by None e = record { stands = record { enums = refl; typedefs = refl; globals = refl; funcs = refl }; sight = w }
    by (Some x) e = gives_one IsWholeSight (StandsThen p r (Member k m ends)) (typed_member r.sight k x m ends) (λ s. Good (record r { sight = s }))
        (member_kept r.sight w k x (w.members k x e) m ends) (λ s v. record { stands = record { enums = refl; typedefs = refl; globals = refl; funcs = refl }; sight = v })
item_stands p r w (AnEnum e) o = gives_one (λ u. Unit {0}) (StandsThen p r (AnEnum e)) (new_tag r.tags e.place e.tag) _ (anything _) (λ u v.
    gives_one (λ (x : Sight × List EnumConstant). IsWholeSight x.0 × EnumeratorsTypedAs e.items x.1) (StandsThen p r (AnEnum e)) (typed_enumerators r.sight (pos 0) e.items) _
    (gives_two (λ (x : Sight × List EnumConstant). IsWholeSight x.0) (λ (x : Sight × List EnumConstant). EnumeratorsTypedAs e.items x.1) (typed_enumerators r.sight (pos 0) e.items)
    (enumerators_kept r.sight w (pos 0) e.items) (enumerators_as r.sight (pos 0) e.items)) (λ x h. record {
      stands = record { enum = record e { items = x.1 }; read = record { place = refl; tag = refl; items = h.1 }; is = refl; typedefs = refl; globals = refl; funcs = refl };
      sight = record { known = record { objects = h.0.known.objects; enumerators = h.0.known.enumerators; results = h.0.known.results }; members = h.0.members };
    }))
item_stands p r w (ATypedef d) o = gives_one (SameDeclaration d) (StandsThen p r (ATypedef d)) (typed_typedef r.sight d) _ (typedef_as r.sight d) (λ d v.
    record { stands = record { typedef = d; read = v; is = refl }; sight = same_sight r.sight w d })
item_stands p r w (AGlobal d) o = gives_one (λ e. IsDeclaredThen r.sight e × DeclarationTypedAs d e) (StandsThen p r (AGlobal d)) (typed_global r.sight d) _
    (gives_two (IsDeclaredThen r.sight) (DeclarationTypedAs d) (typed_global r.sight d) (global_declared r.sight w d o) (global_as r.sight d)) (λ e v.
    record { stands = record { global = e; read = v.1; declared = v.0.declared; is = refl }; sight = v.0.sight })
item_stands p r w (AFunction f) o = gives_one (λ g. IsFunctionThen p r.sight g × FunctionTypedAs f g) (StandsThen p r (AFunction f)) (typed_function p r.sight r.funcs f) _
    (gives_two (IsFunctionThen p r.sight) (FunctionTypedAs f) (typed_function p r.sight r.funcs f) (function_typed p r.sight w r.funcs f o) (function_as p r.sight r.funcs f)) (λ g v.
    record { stands = record { func = g; read = v.1; typed = v.0.typed; is = refl }; sight = v.0.sight })

record StandThen (p : TranslationUnit) (r : Progress) (is : List FileItem) (q : Progress) : Type 0 where
  stand : ItemsStand p r is q
  sight : IsWholeSight q.sight

items_stand : (p : TranslationUnit) (r : Progress) → IsWholeSight r.sight → (is : List FileItem) → FileAtOffsets is → Gives (StandThen p r is) (typed_items_of_file p r is)
items_stand p r w [] o = record { stand = refl; sight = w }
items_stand p r w (i ∷ is) o =
    gives_one (StandsThen p r i) (StandThen p r (i ∷ is)) (typed_item_of_file p r i) (λ r. typed_items_of_file p r is) (item_stands p r w i o.0) (λ q v.
    rest q v (typed_items_of_file p q is) (items_stand p q v.sight is o.1))
  where
    rest : (q : Progress) → StandsThen p r i q → (c : Checked Progress) → Gives (StandThen p q is) c → Gives (StandThen p r (i ∷ is)) c
    rest q v (Good z) h = record { stand = (q, v.stands, h.stand); sight = h.sight }
    rest q v (Bad f fs) h = tt

-- the law of files
pub unit_stands : (p q : TranslationUnit) → FileAtOffsets (items_of_file p) → typed_unit p ≡ Good q → UnitStands p q
unit_stands p q o is = gives_of (UnitStands p) (typed_unit p) q
    (gives_one (StandThen p (at_start p) (items_of_file p)) (UnitStands p) (typed_items_of_file p (at_start p) (items_of_file p)) (λ r. Good (with_progress p r))
    (items_stand p (at_start p) (first_sight_whole p) (items_of_file p) o) (λ r v. record { last = r; items = v.stand; is = refl })) is
