-- The types in the expressions of a typed file have few enough bytes.
use Rattle.std.proofs.Common.{cond, ◌≡◌, ℕ, zero, suc, ◌+◌, ◌*◌, ◌≤◌, ℤ, pos, ◌+ℤ◌, refl, ap, subst, List, [], ◌∷◌, ◌++◌, map, length, Option, Some, None, Bool, true, false}
use Rattle.std.proofs.Common.{not, ◌&&◌, if◌then◌else◌, nat_le, nat_lt, slice_get, arith}
use Rattle.std.proofs.lemmas.Bool.Decides.{nat_tests}
use Rattle.c_syntax.specs.RefusalCodes.{globals_code}
use Rattle.c_syntax.specs.Ctypes.{PlainType}
use Rattle.c_syntax.specs.Statements.{Declaration}
use Rattle.c_syntax.specs.Programs.{StructMember, StructType, EnumConstant, Function, TranslationUnit}
use Rattle.c_syntax.specs.Layouts.{size_of, align_of, aligned, member_among}
use Rattle.c_model.specs.Limits.{globals_bytes}
use Rattle.c_model.specs.Memory.{rounded}
use Rattle.c_model.specs.StaticObjects.{StaticObject, OfGlobal, OfLiteral, place_of_object, static_objects}
use Rattle.c_model.specs.Library.{is_there}
use Rattle.c_model.specs.Checked.{Checked, Good, Bad, one_part, both_parts, where_so}
use Rattle.c_model.specs.ExpressionTyping.{no_name, too_large, Sight, Entity, AnObject, AnEnumerator, Enumerator, TypeName, most_bytes, limited, typed_type, known_type}
use Rattle.c_model.specs.DeclarationTyping.{placed_from, is_declared_in_file, own_name, object_type, typed_global, typed_typedef, member_added, with_member, typed_member_type, typed_member, typed_value, with_enumerator, typed_enumerators}
use Rattle.c_model.specs.UnitTyping.{FileItem, StructHead, Member, AnEnum, ATypedef, AGlobal, AFunction, unknown, typed_function, Progress, new_tag, typed_item_of_file, typed_items_of_file, at_start, items_of_file}
use Rattle.c_model.specs.UnitTyping.{with_progress, typed_unit, room_with, room_fault_from, room_fault}
use Rattle.c_model.specs.PlacedTrees.{MembersInOrder}
use Rattle.c_model.specs.TextOrder.{InTextOrder}
use Rattle.c_model.specs.TypedPrograms.{AreLaidOut}
use Rattle.c_model.specs.FullExpressions.{EachInDeclaration, EachDeclared, EachInBody, EachInFunctions, EachExpression}
use Rattle.c_model.specs.SmallTypes.{TypesSmall}
use Rattle.c_model.proofs.StaticObjects.{literals_of, literals_are}
use Rattle.c_model.proofs.TypedParts.{Gives, gives_of, gives_one, gives_both, gives_where, gives_sized}
use Rattle.c_model.proofs.KnownTypes.{type_is_known}
use Rattle.c_model.proofs.TypedSoundness.{gives_limited}
use Rattle.c_model.proofs.TypedDeclarations.{anything}
use Rattle.c_model.proofs.TypedUnits.{gives_two, after_set}
use Rattle.c_model.proofs.StableConstants.{Grows}
use Rattle.c_model.proofs.GrownStructs.{AreKnown, grows_by}
use Rattle.c_model.proofs.TypedBelow.{ended_after, first_in_order, rest_in_order, GrownBy, item_grown, first_known}
use Rattle.c_model.proofs.TypedLayouts.{structs_laid_out}
use Rattle.c_model.proofs.FirmTypes.{Firm, AreFirm, are_firm_later, typed_firm, AreSmallStructs, Small, limited_small}
use Rattle.c_model.proofs.SmallTypedExpressions.{AreSmallEntities, AreSmallMembers, AreSmallTexts, IsSmallSight}
use Rattle.c_model.proofs.SmallTypedStatements.{IsSmallThen, global_small, IsFunctionThen, function_small}

-- what holds for each of many
gives_each : {A N : Type 0} (P : N → A → Type 0) (c : Checked A) → ((n : N) → Gives (P n) c) → Gives (λ a. (n : N) → P n a) c
gives_each P (Good a) h = h
gives_each P (Bad f fs) h = tt

-- ---- so far

record SmallSoFar (new : List StructType) (r : Progress) : Type 0 where
  globals : EachDeclared (TypesSmall new) r.globals
  funcs : EachInFunctions (TypesSmall new) r.funcs

-- the structs of the whole file, and what is small among these
record IsSmallAt (r : Progress) : Type 0 where
  new : List StructType
  all : AreSmallStructs new
  grows : Grows r.sight.structs new
  sight : IsSmallSight new r.sight
  far : SmallSoFar new r

record StaysSmall (r : Progress) (h : IsSmallAt r) (q : Progress) : Type 0 where
  sight : IsSmallSight h.new q.sight
  far : SmallSoFar h.new q

-- where structs grow
abbrev BehindSmall : (r : Progress) → IsSmallAt r → Progress → Type 0
BehindSmall r h q = Grows r.sight.structs q.sight.structs → StaysSmall r h q

one_more_global : (new : List StructType) (ds : List Declaration) (d : Declaration) → EachDeclared (TypesSmall new) ds → EachInDeclaration (TypesSmall new) d → EachDeclared (TypesSmall new) (ds ++ d ∷ [])
one_more_global new [] d h k = (k, tt)
one_more_global new (c ∷ ds) d h k = (h.0, one_more_global new ds d h.1 k)

one_more_function : (new : List StructType) (fs : List Function) (f : Function) → EachInFunctions (TypesSmall new) fs → EachInBody (TypesSmall new) f.body → EachInFunctions (TypesSmall new) (fs ++ f ∷ [])
one_more_function new [] f h k = (k, tt)
one_more_function new (g ∷ fs) f h k = (h.0, one_more_function new fs f h.1 k)

-- ---- members

module _ (new : List StructType)
  where
    one_more_member : (ms : List StructMember) (m : StructMember) → AreSmallMembers new ms → Small new m.ctype → AreSmallMembers new (ms ++ m ∷ [])
    one_more_member [] m h k = (k, tt)
    one_more_member (x ∷ ms) m h k = (h.0, one_more_member ms m h.1 k)

    placed_small : (ss : List StructType) (end : ℕ) (ms : List StructMember) → AreSmallMembers new ms → AreSmallMembers new (placed_from ss end ms)
    placed_small ss end [] h = tt
    placed_small ss end (m ∷ ms) h = (h.0, placed_small ss (aligned (align_of ss m.ctype) end + size_of ss m.ctype) ms h.1)

    member_type_small : (all : AreSmallStructs new) (s : Sight) → Grows s.structs new → AreFirm s.structs s.types → (struct : StructType) (m : StructMember) → Gives (Small new) (typed_member_type s struct m)
    member_type_small all s g f struct m =
        gives_one (Small new) (Small new) (limited s m.place (known_type s m.ctype) (one_part (typed_type s m.place m.ctype) (object_type s m.place))) _
        (limited_small new all s g (Small new) m.place (known_type s m.ctype) (typed_type s m.place m.ctype) (object_type s m.place) (type_is_known s m.place m.ctype) (typed_firm s f m.place m.ctype)
        (λ t k. gives_sized (Small new) s m.place t (Good t) (λ z. k)))
        (λ t k. gives_where (Small new) (nat_le (member_added s struct t m).size most_bytes) (too_large m.place) (Good t) (λ e. k))

    -- what is in sight behind a member
    abbrev SeesMember : Sight → Sight → Type 0
    SeesMember s u = Grows s.structs u.structs → IsSmallSight new u

    sees_member : (all : AreSmallStructs new) (s : Sight) → Grows s.structs new → IsSmallSight new s → (k : ℕ) (x : StructType) → slice_get s.structs k ≡ Some x → (m : StructMember) (ends : Bool)
        → Gives (SeesMember s) (typed_member s k x m ends)
    sees_member all s g i k x e m ends = gives_both (λ u. Unit {0}) (Small new) (SeesMember s)
        (where_so (not (is_there (member_among m.name x.members))) (no_name m.place) (Good (tt {0}))) (typed_member_type s x m) (λ n t. Good (with_member s k x t m ends))
        (anything _) (member_type_small all s g i.types x m) (λ n t u w more. record {
          entities = i.entities;
          functions = i.functions;
          texts = i.texts;
          types = are_firm_later s.structs (with_member s k x t m ends).structs more s.types i.types;
          members = after_set (λ (y : StructType). AreSmallMembers new y.members) s.structs k _ i.members (by t w ends);
        })
      where
        members : (t : PlainType) → Small new t → AreSmallMembers new (member_added s x t m).members
        members t w = placed_small s.structs 0 (x.members ++ record m { ctype = t } ∷ []) (one_more_member x.members (record m { ctype = t }) (i.members k x e) w)

        by : (t : PlainType) → Small new t → (b : Bool) → AreSmallMembers new (if b then member_added s x t m else record (member_added s x t m) { size = 0 }).members
        by t w true = members t w
        by t w false = members t w

    -- ---- enumerators and names of types

    one_more_enumerator : (es : List Entity) (c : Enumerator) → AreSmallEntities new es → AreSmallEntities new (es ++ AnEnumerator c ∷ [])
    one_more_enumerator [] c h = tt
    one_more_enumerator (AnObject b ∷ es) c h = (h.0, one_more_enumerator es c h.1)
    one_more_enumerator (AnEnumerator d ∷ es) c h = one_more_enumerator es c h

    abbrev SeesThese : Sight × List EnumConstant → Type 0
    SeesThese x = IsSmallSight new x.0

    sees_enumerators : (s : Sight) → IsSmallSight new s → (next : ℤ) (es : List EnumConstant) → Gives SeesThese (typed_enumerators s next es)
    sees_enumerators s i next [] = i
    sees_enumerators s i next (e ∷ es) =
        gives_one (λ v. Unit {0}) SeesThese (both_parts (own_name s (is_declared_in_file s e.name) e.place e.name) (typed_value s e.place next e.value) (λ n v. Good v)) _ (anything _) (λ v u.
        gives_one SeesThese SeesThese (typed_enumerators (with_enumerator s e.name v.0) (v.0 +ℤ pos 1) es) _
        (sees_enumerators (with_enumerator s e.name v.0)
        (record { entities = one_more_enumerator s.entities (record { name = e.name; value = v.0 }) i.entities; functions = i.functions; texts = i.texts; types = i.types; members = i.members })
        (v.0 +ℤ pos 1) es) (λ x h. h))

one_more_type : (ss : List StructType) (ts : List TypeName) (t : TypeName) → AreFirm ss ts → Firm ss t.ctype → AreFirm ss (ts ++ t ∷ [])
one_more_type ss [] t h k = (k, tt)
one_more_type ss (x ∷ ts) t h k = (h.0, one_more_type ss ts t h.1 k)

one_named_type : (ss : List StructType) (ts : List TypeName) (t : TypeName) (named : Bool) → AreFirm ss ts → Firm ss t.ctype → AreFirm ss (cond named (ts ++ t ∷ []) ts)
one_named_type ss ts t true h k = one_more_type ss ts t h k
one_named_type ss ts t false h k = h

typedef_firm : (s : Sight) → AreFirm s.structs s.types → (d : Declaration) → Gives (λ (e : Declaration). Firm s.structs e.ctype) (typed_typedef s d)
typedef_firm s f d = by d.named
  where
    by : (b : Bool) → Gives (λ (e : Declaration). Firm s.structs e.ctype) (cond b (both_parts (own_name s (is_declared_in_file s d.name) d.place d.name)
        (limited s d.place (known_type s d.ctype) (typed_type s d.place d.ctype)) (λ n t. Good (record d { ctype = t })))
        (one_part (typed_type s d.place d.ctype) (λ t. Good (record d { ctype = t }))))
    by true = gives_both (λ u. Unit {0}) (Firm s.structs) (λ (e : Declaration). Firm s.structs e.ctype) (own_name s (is_declared_in_file s d.name) d.place d.name)
        (limited s d.place (known_type s d.ctype) (typed_type s d.place d.ctype)) (λ n t. Good (record d { ctype = t })) (anything _)
        (gives_limited (Firm s.structs) s d.place (known_type s d.ctype) (typed_type s d.place d.ctype) (typed_firm s f d.place d.ctype)) (λ n t u h. h)
    by false = gives_one (Firm s.structs) (λ (e : Declaration). Firm s.structs e.ctype) (typed_type s d.place d.ctype) (λ t. Good (record d { ctype = t })) (typed_firm s f d.place d.ctype) (λ t h. h)

-- ---- items

module _ (p : TranslationUnit) (r : Progress) (h : IsSmallAt r)
  where
    abbrev After : Progress → Type 0
    After q = BehindSmall r h q

    item_small : (i : FileItem) → Gives After (typed_item_of_file p r i)
    item_small (StructHead k s) = gives_one (λ u. Unit {0}) After (new_tag r.tags s.place s.tag) _ (anything _) (λ u v more.
        record { sight = h.sight; far = record { globals = h.far.globals; funcs = h.far.funcs } })
    item_small (Member k m ends) = by (slice_get r.sight.structs k) refl
      where
        by : (c : Option StructType) → slice_get r.sight.structs k ≡ c → Gives After (elim c [
          | None ↦ Good r
          | Some struct ↦ one_part (typed_member r.sight k struct m ends) (λ s. Good (record r { sight = s }))
        ])
        by None e = λ more. record { sight = h.sight; far = h.far }
        by (Some x) e = gives_one (SeesMember h.new r.sight) After (typed_member r.sight k x m ends) (λ s. Good (record r { sight = s }))
            (sees_member h.new h.all r.sight h.grows h.sight k x e m ends) (λ s v more. record { sight = v more; far = record { globals = h.far.globals; funcs = h.far.funcs } })
    item_small (AnEnum e) = gives_one (λ u. Unit {0}) After (new_tag r.tags e.place e.tag) _ (anything _) (λ u v.
        gives_one (SeesThese h.new) After (typed_enumerators r.sight (pos 0) e.items) _ (sees_enumerators h.new r.sight h.sight (pos 0) e.items) (λ x w more. record {
          sight = record { entities = w.entities; functions = w.functions; texts = w.texts; types = w.types; members = w.members };
          far = record { globals = h.far.globals; funcs = h.far.funcs };
        }))
    item_small (ATypedef d) = gives_one (λ (e : Declaration). Firm r.sight.structs e.ctype) After (typed_typedef r.sight d) _ (typedef_firm r.sight h.sight.types d) (λ x w more. record {
      sight = record {
        entities = h.sight.entities;
        functions = h.sight.functions;
        texts = h.sight.texts;
        types = one_named_type r.sight.structs r.sight.types (record { name = x.name; ctype = x.ctype }) x.named h.sight.types w;
        members = h.sight.members;
      };
      far = record { globals = h.far.globals; funcs = h.far.funcs };
    })
    item_small (AGlobal d) = gives_one (IsSmallThen h.new h.all r.sight) After (typed_global r.sight d) _ (global_small h.new h.all r.sight h.sight h.grows d) (λ x w more. record {
      sight = w.sight;
      far = record { globals = one_more_global h.new r.globals x h.far.globals w.init; funcs = h.far.funcs };
    })
    item_small (AFunction f) = gives_one (IsFunctionThen h.new h.all p r.sight) After (typed_function p r.sight r.funcs f) _ (function_small h.new h.all p r.sight h.sight h.grows r.funcs f) (λ x w more. record {
      sight = w.sight;
      far = record { globals = h.far.globals; funcs = one_more_function h.new r.funcs x h.far.funcs w.body };
    })

-- what is typed behind all items
record SmallBehind (r : Progress) (z : Progress) : Type 0 where
  grows : Grows r.sight.structs z.sight.structs
  small : (new : List StructType) → AreSmallStructs new → Grows z.sight.structs new → IsSmallSight new r.sight → SmallSoFar new r → SmallSoFar new z

items_small : (p : TranslationUnit) (ended : List ℕ) (r : Progress) → AreKnown ended r.sight.structs → (is : List FileItem) → MembersInOrder ended is → Gives (SmallBehind r) (typed_items_of_file p r is)
items_small p ended r h [] m = record { grows = λ n x e z. e; small = λ new all g i far. far }
items_small p ended r h (i ∷ is) m =
    gives_one (λ q. GrownBy ended r i q × ((c : IsSmallAt r) → BehindSmall r c q)) (SmallBehind r) (typed_item_of_file p r i) (λ r. typed_items_of_file p r is)
    (gives_two (GrownBy ended r i) (λ q. (c : IsSmallAt r) → BehindSmall r c q) (typed_item_of_file p r i) (item_grown p ended r h i (first_in_order ended i is m))
    (gives_each (BehindSmall r) (typed_item_of_file p r i) (λ c. item_small p r c i))) (λ q v.
    rest q v (typed_items_of_file p q is) (items_small p (ended_after i ended) q v.0.known is (rest_in_order ended i is m)))
  where
    joined : (q z : Progress) → GrownBy ended r i q → ((c : IsSmallAt r) → BehindSmall r c q) → SmallBehind q z → SmallBehind r z
    joined q z g v k = record {
      grows = grows_by r.sight.structs q.sight.structs z.sight.structs g.grows k.grows;
      small = λ new all more sight far.
          let c : IsSmallAt r = record {
            new = new;
            all = all;
            grows = grows_by r.sight.structs z.sight.structs new (grows_by r.sight.structs q.sight.structs z.sight.structs g.grows k.grows) more;
            sight = sight;
            far = far;
          } in
          let s = v c g.grows in k.small new all more s.sight s.far;
    }

    rest : (q : Progress) → GrownBy ended r i q × ((c : IsSmallAt r) → BehindSmall r c q) → (c : Checked Progress) → Gives (SmallBehind q) c → Gives (SmallBehind r) c
    rest q v (Good z) k = joined q z v.0 v.1 k
    rest q v (Bad f fs) k = tt

-- ---- literals, which have room

text_small : (n : ℕ) → rounded n ≤ globals_bytes → (nat_le (n * 1) most_bytes && true) ≡ true
text_small n r =
    let less : n ≤ rounded n = omega arith in
    let most : nat_le (n * 1) most_bytes ≡ true = grind (arith, nat_tests, less, r) in ap (λ b. b && true) most

-- one more object, which has room
one_with_room : (structs new : List StructType) (taken : ℕ) (o : StaticObject) (os : List StaticObject) → (room_fault_from structs (room_with structs taken o) os ≡ None → AreSmallTexts new (literals_of os))
    → (b : Bool) → nat_lt globals_bytes (room_with structs taken o) ≡ b
    → (if b then Some (record { code = globals_code; place = place_of_object o }) else room_fault_from structs (room_with structs taken o) os) ≡ None → AreSmallTexts new (literals_of (o ∷ os))
one_with_room structs new taken o os next true t e = absurd cc
one_with_room structs new taken (OfGlobal d) os next false t e = next e
one_with_room structs new taken (OfLiteral l) os next false t e =
    let r : rounded (length l.bytes + 1) ≤ globals_bytes = grind (arith, nat_tests, t) in (text_small (length l.bytes + 1) r, next e)

texts_small : (structs new : List StructType) (taken : ℕ) (os : List StaticObject) → room_fault_from structs taken os ≡ None → AreSmallTexts new (literals_of os)
texts_small structs new taken [] e = tt
texts_small structs new taken (o ∷ os) e =
    one_with_room structs new taken o os (texts_small structs new (room_with structs taken o) os) (nat_lt globals_bytes (room_with structs taken o)) refl e

-- ---- files

first_small : (new : List StructType) (p : TranslationUnit) → AreSmallTexts new p.texts → IsSmallSight new (at_start p).sight
first_small new p texts = record { entities = tt; functions = tt; texts = texts; types = tt; members = λ n x e. none p.structs n x e }
  where
    none : (ss : List StructType) (n : ℕ) (x : StructType) → slice_get (map unknown ss) n ≡ Some x → AreSmallMembers new x.members
    none [] n x e = absurd cc
    none (s ∷ ss) zero x e = let same : unknown s ≡ x = cc in subst (λ (x : StructType). AreSmallMembers new x.members) same tt
    none (s ∷ ss) (suc n) x e = none ss n x e

laid_small : (all ss : List StructType) → AreLaidOut all ss → AreSmallStructs ss
laid_small all [] h n x e = absurd cc
laid_small all (s ∷ ss) h zero x e = let same : s ≡ x = cc in subst (λ (x : StructType). nat_le x.size most_bytes ≡ true) same h.0.small
laid_small all (s ∷ ss) h (suc n) x e = laid_small all ss h.1 n x e

-- a file with what has to be known of it
record IsSmallFile (p q : TranslationUnit) : Type 0 where
  texts : q.texts ≡ p.texts
  small : AreSmallStructs q.structs → AreSmallTexts q.structs p.texts → EachExpression (TypesSmall q.structs) q

-- the types in the expressions of a typed file, whose literals have room, are small
pub types_small : (p q : TranslationUnit) → InTextOrder p → typed_unit p ≡ Good q → room_fault q ≡ None → EachExpression (TypesSmall q.structs) q
types_small p q o is room =
    let file = gives_of (IsSmallFile p) (typed_unit p) q
    (gives_one (SmallBehind (at_start p)) (IsSmallFile p) (typed_items_of_file p (at_start p) (items_of_file p)) (λ r. Good (with_progress p r))
    (items_small p [] (at_start p) (first_known p.structs) (items_of_file p) o.members) (λ r v. record {
      texts = refl;
      small = λ all texts.
          let far = v.small r.sight.structs all (λ n x e z. e) (first_small r.sight.structs p texts) (record { globals = tt; funcs = tt }) in
          record { globals = far.globals; funcs = far.funcs };
    })) is in
    file.small (laid_small q.structs q.structs (structs_laid_out p q o is))
    (subst (AreSmallTexts q.structs) file.texts (subst (AreSmallTexts q.structs) (literals_are q) (texts_small q.structs q.structs 0 (static_objects q) room)))
