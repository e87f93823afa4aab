-- Structs and enums that are read stand apart from one another, whatever stands in them, and what they declare stands in order.
use Rattle.std.proofs.Common.{◌≡◌, ℕ, zero, suc, ◌+◌, ◌<◌, ◌≤◌, List, [], ◌∷◌, ◌++◌, length, length-append, map, Some, None, refl, sym, subst, arith}
use Rattle.std.proofs.lemmas.List.{map-append}
use Rattle.std.specs.List.{AllByRecursion}
use Rattle.grammar.specs.Syntax.{none}
use Rattle.c_syntax.specs.declared.place.Place.{Place}
use Rattle.c_syntax.specs.Ctypes.{PlainType}
use Rattle.c_syntax.specs.Programs.{StructMember, StructType, EnumConstant, EnumType}
use Rattle.c_model.specs.declared.declarations.Storage.TheVariants as storage
use Rattle.c_model.specs.declared.declarations.Tagged.{Tagged}
use Rattle.c_model.specs.declared.declarations.Tagged.TheVariants as tagged
use Rattle.c_model.specs.declared.declarations.Named.TheVariants as named
use Rattle.c_model.specs.declared.vocabulary.Keyword.TheVariants as keyword
use Rattle.c_model.specs.Vocabulary.{Vocabulary}
use Rattle.c_model.specs.Punctuators.{semicolon, comma, left_brace, right_brace}
use Rattle.c_model.specs.ExpressionGrammar.{name_kind, keyword_kind, mark_kind, kind, first_type, first_any_name, most_nested, mark, any_name_of, untagged_base, consts, star_words}
use Rattle.c_model.specs.DeclarationGrammar.{TagHead, Definitions, Braces, with_struct, with_enum, tag_word, member_of, ended, lengths, dtor, full_dtor}
use Rattle.c_model.specs.DeclarationGrammar.{next_member, members_of, behind_tag, behind_word, tagged_type, braced, member, more_members, struct_braces, constant_value, constant, enum_braces, braces_for, braces_of, braces_in, more_storage, file_spec}
use Rattle.c_model.specs.UnitTyping.{AnEnum}
use Rattle.c_model.specs.ReadTree.{Between, offset_of_constant, numbers_of_item, HasMembers}
use Rattle.c_reader.proofs.PlacedReadings.{From, from_none, from_more, from_gives, from_then, from_choice, from_at_most, from_deep, from_any, from_many}
use Rattle.c_reader.proofs.PlacedReadings.{between_higher, between_joined, IsPlaceWithin, fixed_from, placed_from}
use Rattle.c_reader.proofs.Covers.{held, IsApart, Adds, adds_none, adds_apart, adds_same, adds_higher, adds_lower, adds_held, adds_more, apart_higher}
use Rattle.c_reader.proofs.ItemOrder.{behind_between, between_on, end_of_item}
use Rattle.c_reader.proofs.DeclarationForms.{IsLater, all_joined, name_from, listed_from}

abbrev pub offset_of_member : StructMember → ℕ
offset_of_member m = m.place.offset

abbrev pub offset_of_enum : EnumType → ℕ
offset_of_enum e = e.place.offset

-- ---- how many of them stand over an offset

abbrev pub members_cover : ℕ → List StructMember → ℕ
members_cover o [] = 0
members_cover o (m ∷ ms) = held o m.place.offset (suc m.place.offset) + members_cover o ms

abbrev pub head_cover : ℕ → ℕ → ℕ
head_cover o at = held o at (suc at)

abbrev pub structs_cover : ℕ → List StructType → ℕ
structs_cover o [] = 0
structs_cover o (s ∷ ss) = head_cover o s.place.offset + (members_cover o s.members + structs_cover o ss)

abbrev pub enums_cover : ℕ → List EnumType → ℕ
enums_cover o [] = 0
enums_cover o (e ∷ es) = held o e.place.offset (end_of_item (AnEnum e)) + enums_cover o es

abbrev pub definitions_cover : Definitions → ℕ → ℕ
definitions_cover d o = structs_cover o d.structs + enums_cover o d.enums

members_behind : (o : ℕ) (ms : List StructMember) (m : StructMember) → members_cover o (ms ++ m ∷ []) ≡ held o m.place.offset (suc m.place.offset) + members_cover o ms
members_behind o [] m = refl
members_behind o (n ∷ ms) m = let e = members_behind o ms m in omega (arith, e)

structs_behind : (o : ℕ) (ss : List StructType) (s : StructType) → structs_cover o (ss ++ s ∷ []) ≡ head_cover o s.place.offset + (members_cover o s.members + structs_cover o ss)
structs_behind o [] s = refl
structs_behind o (t ∷ ss) s = let e = structs_behind o ss s in omega (arith, e)

enums_behind : (o : ℕ) (es : List EnumType) (e : EnumType) → enums_cover o (es ++ e ∷ []) ≡ held o e.place.offset (end_of_item (AnEnum e)) + enums_cover o es
enums_behind o [] e = refl
enums_behind o (f ∷ es) e = let same = enums_behind o es e in omega (arith, same)

-- ---- what is known of those that are read before the offset n

pub record IsStruct (n : ℕ) (s : StructType) : Type 0 where
  pub filled : HasMembers s
  pub numbers : Between (suc s.place.offset) (map offset_of_member s.members) n

pub record IsEnum (n : ℕ) (e : EnumType) : Type 0 where
  pub numbers : Between e.place.offset (numbers_of_item (AnEnum e)) n

pub record AreDefinitions (n : ℕ) (d : Definitions) : Type 0 where
  pub structs : AllByRecursion (IsStruct n) d.structs
  pub enums : AllByRecursion (IsEnum n) d.enums
  pub ascend : Between 0 (map offset_of_enum d.enums) n
  pub apart : IsApart n (definitions_cover d)

structs_higher : (m n : ℕ) (ss : List StructType) → m ≤ n → AllByRecursion (IsStruct m) ss → AllByRecursion (IsStruct n) ss
structs_higher m n [] le h = tt
structs_higher m n (s ∷ ss) le h =
    (record { filled = h.0.filled; numbers = between_higher (suc s.place.offset) m n (map offset_of_member s.members) le h.0.numbers }, structs_higher m n ss le h.1)

enums_higher : (m n : ℕ) (es : List EnumType) → m ≤ n → AllByRecursion (IsEnum m) es → AllByRecursion (IsEnum n) es
enums_higher m n [] le h = tt
enums_higher m n (e ∷ es) le h = (record { numbers = between_higher e.place.offset m n (numbers_of_item (AnEnum e)) le h.0.numbers }, enums_higher m n es le h.1)

pub definitions_higher : (m n : ℕ) (d : Definitions) → m ≤ n → AreDefinitions m d → AreDefinitions n d
definitions_higher m n d le h = record {
  structs = structs_higher m n d.structs le h.structs;
  enums = enums_higher m n d.enums le h.enums;
  ascend = between_higher 0 m n (map offset_of_enum d.enums) le h.ascend;
  apart = apart_higher m n (definitions_cover d) le h.apart;
}

-- those that are read from the offset l on are added to others
pub record AreAdded (l n : ℕ) (d e : Definitions) : Type 0 where
  pub are : AreDefinitions n e
  pub adds : Adds l n (definitions_cover d) (definitions_cover e)
  pub on : l ≤ n

none_added : (l n : ℕ) (d : Definitions) → l ≤ n → AreDefinitions l d → AreAdded l n d d
none_added l n d le h = record { are = definitions_higher l n d le h; adds = adds_none l n (definitions_cover d) le h.apart; on = le }

added_higher : (l m n : ℕ) (d e : Definitions) → m ≤ n → AreAdded l m d e → AreAdded l n d e
added_higher l m n d e le h = record { are = definitions_higher m n e le h.are; adds = adds_higher l m n (definitions_cover d) (definitions_cover e) le h.adds; on = omega (arith, le, h.on) }

-- ---- enums

enum_added : (s n : ℕ) (h : TagHead) (es : List EnumConstant) (d : Definitions) → AreDefinitions s d → s ≤ h.place.offset → Between (suc h.place.offset) (map offset_of_constant es) n → AreAdded s n d (with_enum h es d).1
enum_added s n h es d known le numbers =
    let e : EnumType = record { place = h.place; tag = h.tag; items = es } in
    let whole : IsEnum n e = record { numbers = (omega arith, numbers) } in
    let end = behind_between e.place.offset n (numbers_of_item (AnEnum e)) whole.numbers in
    let on = between_on (suc h.place.offset) n (map offset_of_constant es) numbers in
    let first = between_on e.place.offset (end_of_item (AnEnum e)) (numbers_of_item (AnEnum e)) end.0 in
    let c = definitions_cover d in
    let adds : Adds s n c (definitions_cover (with_enum h es d).1) =
    adds_same s n c (λ o. held o e.place.offset (end_of_item (AnEnum e)) + c o) (definitions_cover (with_enum h es d).1) (λ o. (let same = enums_behind o d.enums e in omega (arith, same)))
    (adds_held s s n e.place.offset (end_of_item (AnEnum e)) c c (omega arith) le first end.1 (adds_none s s c (omega arith) known.apart)) in
    record {
      are = record {
        structs = structs_higher s n d.structs (omega (arith, le, on)) known.structs;
        enums = all_joined (IsEnum n) d.enums (e ∷ []) (enums_higher s n d.enums (omega (arith, le, on)) known.enums) (whole, tt);
        ascend = subst (λ is. Between 0 is n) (sym (map-append offset_of_enum d.enums (e ∷ []))) (between_joined 0 s n (map offset_of_enum d.enums) (e.place.offset ∷ []) known.ascend (le, on));
        apart = adds_apart s n c (definitions_cover (with_enum h es d).1) known.apart adds;
      };
      adds = adds;
      on = omega (arith, le, on);
    }

-- ---- members

-- how many stand over an offset while a struct is read
abbrev pub open_cover : TagHead → List StructMember → ℕ → ℕ
open_cover h ms o = head_cover o h.place.offset + members_cover o ms

-- members so far, of the struct with this head, and the definitions in them, after the definitions d that end before the offset s
pub record AreMembers (s : ℕ) (h : TagHead) (d : Definitions) (n : ℕ) (x : List StructMember × Definitions) : Type 0 where
  pub are : AreDefinitions n x.1
  pub numbers : Between (suc h.place.offset) (map offset_of_member x.0) n
  pub adds : Adds s n (definitions_cover d) (λ o. open_cover h x.0 o + definitions_cover x.1 o)

members_higher : (s m n : ℕ) (h : TagHead) (d : Definitions) (x : List StructMember × Definitions) → m ≤ n → AreMembers s h d m x → AreMembers s h d n x
members_higher s m n h d x le p = record {
  are = definitions_higher m n x.1 le p.are;
  numbers = between_higher (suc h.place.offset) m n (map offset_of_member x.0) le p.numbers;
  adds = adds_higher s m n (definitions_cover d) (λ o. open_cover h x.0 o + definitions_cover x.1 o) le p.adds;
}

no_members : (s n : ℕ) (h : TagHead) (d : Definitions) → AreDefinitions s d → s ≤ h.place.offset → h.place.offset < n → AreMembers s h d n ([], d)
no_members s n h d known le lt =
    let c = definitions_cover d in
    let at = h.place.offset in
    record {
      are = definitions_higher s n d (omega (arith, le, lt)) known;
      numbers = omega (arith, lt);
      adds = adds_same s n c (λ o. held o at (suc at) + c o) (λ o. open_cover h [] o + c o) (λ o. omega arith)
          (adds_held s s n at (suc at) c c (omega arith) le (omega arith) (omega (arith, lt)) (adds_none s s c (omega arith) known.apart));
    }

more_definitions : (s m k n : ℕ) (h : TagHead) (d : Definitions) (x : List StructMember × Definitions) (e : Definitions) → s ≤ m → m ≤ k → AreMembers s h d m x → AreAdded k n x.1 e → AreMembers s h d n (x.0, e)
more_definitions s m k n h d x e sm mk p a = record {
  are = a.are;
  numbers = between_higher (suc h.place.offset) m n (map offset_of_member x.0) (omega (arith, mk, a.on)) p.numbers;
  adds = adds_more s m k n (definitions_cover d) (open_cover h x.0) (definitions_cover x.1) (definitions_cover e) sm mk a.on p.adds a.adds;
}

one_more_member : (s m n : ℕ) (h : TagHead) (d e : Definitions) (ms : List StructMember) (x : StructMember) → s ≤ m → IsPlaceWithin m n x.place → AreMembers s h d m (ms, e) → AreMembers s h d n (ms ++ x ∷ [], e)
one_more_member s m n h d e ms x sm at p =
    let c = definitions_cover d in
    let a = x.place.offset in
    record {
      are = definitions_higher m n e (omega (arith, at.from, at.to)) p.are;
      numbers = subst (λ is. Between (suc h.place.offset) is n) (sym (map-append offset_of_member ms (x ∷ [])))
          (between_joined (suc h.place.offset) m n (map offset_of_member ms) (a ∷ []) p.numbers (at.from, at.to));
      adds = adds_same s n c (λ o. held o a (suc a) + (open_cover h ms o + definitions_cover e o)) (λ o. open_cover h (ms ++ x ∷ []) o + definitions_cover e o)
          (λ o. (let same = members_behind o ms x in omega (arith, same)))
          (adds_held s m n a (suc a) c (λ o. open_cover h ms o + definitions_cover e o) sm at.from (omega arith) (omega (arith, at.to)) p.adds);
    }

struct_added : (s m n : ℕ) (h : TagHead) (d : Definitions) (x : List StructMember × Definitions) → s ≤ m → m ≤ n → AreDefinitions s d → 0 < length x.0 → AreMembers s h d m x → AreAdded s n d (with_struct h x.0 x.1).1
struct_added s m n h d x sm le known some p =
    let new : StructType = record { place = h.place; tag = h.tag; members = x.0; size = 0; align = 0 } in
    let whole : IsStruct n new = record { filled = some; numbers = between_higher (suc h.place.offset) m n (map offset_of_member x.0) le p.numbers } in
    let c = definitions_cover d in
    let e = (with_struct h x.0 x.1).1 in
    let adds : Adds s n c (definitions_cover e) =
    adds_higher s m n c (definitions_cover e) le
    (adds_same s m c (λ o. open_cover h x.0 o + definitions_cover x.1 o) (definitions_cover e) (λ o. (let same = structs_behind o x.1.structs new in omega (arith, same))) p.adds) in
    record {
      are = record {
        structs = all_joined (IsStruct n) x.1.structs (new ∷ []) (structs_higher m n x.1.structs le p.are.structs) (whole, tt);
        enums = enums_higher m n x.1.enums le p.are.enums;
        ascend = between_higher 0 m n (map offset_of_enum x.1.enums) le p.are.ascend;
        apart = adds_apart s n c (definitions_cover e) known.apart adds;
      };
      adds = adds;
      on = omega (arith, sm, le);
    }

-- where there is one member at least
pub record AreSomeMembers (s : ℕ) (h : TagHead) (d : Definitions) (n : ℕ) (x : List StructMember × Definitions) : Type 0 where
  pub are : AreMembers s h d n x
  pub some : 0 < length x.0
  pub on : s ≤ n

some_behind : (ms : List StructMember) (x : StructMember) → 0 < length (ms ++ x ∷ [])
some_behind ms x = omega (arith, length-append ms (x ∷ []))

-- ---- productions, where what the words are comes later

module _ (size : ℕ) (old ws : Vocabulary) (later : IsLater old ws) where
  -- braces after a head, which stands behind all definitions
  pub IsBraces : Braces → Type 0
  IsBraces B = (s l : ℕ) (h : TagHead) (d : Definitions) → AreDefinitions s d → s ≤ h.place.offset → h.place.offset < l → From size l (B h d) (λ n y. AreAdded s n d y.1)

  constant_from : (l : ℕ) → From size l (constant ws) (λ n e. IsPlaceWithin l n e.place)
  unfolding constant
  constant_from l = from_then (name_from size old ws later l) (λ m x p. from_then (from_any (constant_value ws)) (λ n v le. from_gives _ (record { from = p.from; to = omega (arith, p.to, le) })))

  constants_behind : (l m n : ℕ) (es : List EnumConstant) (e : EnumConstant) → Between l (map offset_of_constant es) m → IsPlaceWithin m n e.place → Between l (map offset_of_constant (es ++ e ∷ [])) n
  constants_behind l m n es e h p =
      subst (λ is. Between l is n) (sym (map-append offset_of_constant es (e ∷ []))) (between_joined l m n (map offset_of_constant es) (e.place.offset ∷ []) h (p.from, p.to))

  enum_from : IsBraces (enum_braces ws)
  unfolding IsBraces enum_braces
  enum_from s l h d known le lt =
      from_then (from_any (mark ws left_brace)) (λ m at lm.
      from_then (listed_from size old ws later (name_kind ∷ []) (λ n es. Between (suc h.place.offset) (map offset_of_constant es) n)
      (λ i n es ge q. between_higher (suc h.place.offset) i n (map offset_of_constant es) ge q)
      (λ i es q. from_more (λ n e p. constants_behind (suc h.place.offset) i n es e q p) (constant_from i)) m (omega (arith, lt, lm))) (λ n es q.
      from_gives _ (enum_added s n h es d known le q)))

  member_name_from : (l : ℕ) → From size l (full_dtor ws named.Member) (λ n d. IsPlaceWithin l n d.place)
  unfolding full_dtor dtor
  member_name_from l =
      from_at_most (from_then (from_any (star_words ws)) (λ m _ le. from_then (placed_from (any_name_of ws) m) (λ i x p. from_then (from_any (lengths ws)) (λ n _ lf.
      from_gives _ (record { from = omega (arith, le, p.from); to = omega (arith, lf, p.to) })))))

  next_member_from : (s m : ℕ) (h : TagHead) (d e : Definitions) (t : PlainType) (ms : List StructMember) → AreSomeMembers s h d m (ms, e) → From size m (next_member ws t ms) (λ n x. AreSomeMembers s h d n (x, e))
  unfolding next_member
  next_member_from s m h d e t ms p =
      from_then (from_any (mark ws comma)) (λ i _ le. from_then (member_name_from i) (λ n x at. from_gives _ (record {
        are = one_more_member s i n h d e ms (member_of t x) (omega (arith, p.on, le)) at (members_higher s m i h d (ms, e) le p.are);
        some = some_behind ms (member_of t x);
        on = omega (arith, p.on, le, at.from, at.to);
      })))

  members_of_from : (s m : ℕ) (h : TagHead) (d e : Definitions) (t : PlainType) (ms : List StructMember) → s ≤ m → AreMembers s h d m (ms, e) → From size m (members_of ws t ms) (λ n x. AreSomeMembers s h d n (x, e))
  unfolding members_of ended
  members_of_from s m h d e t ms sm p =
      from_then (member_name_from m) (λ i x at.
      from_then (from_many (kind ws) (λ _. mark_kind comma ∷ []) {P = λ n ns. AreSomeMembers s h d n (ns, e)} (λ j ns q. next_member_from s j h d e t ns q) i (ms ++ member_of t x ∷ []) (record {
        are = one_more_member s m i h d e ms (member_of t x) sm at p;
        some = some_behind ms (member_of t x);
        on = omega (arith, sm, at.from, at.to);
      })) (λ j ns q.
      from_then (from_any (mark ws semicolon)) (λ n _ le. from_gives _ (record { are = members_higher s j n h d (ns, e) le q.are; some = q.some; on = omega (arith, q.on, le) }))))

  module _ (B : Braces) (braces : IsBraces B) where
    behind_tag_from : (s l : ℕ) (k : Tagged) (x : ℕ × Place) (d : Definitions) → AreDefinitions s d → IsPlaceWithin s l x.1 → From size l (behind_tag ws B k x d) (λ n y. AreAdded s n d y.1)
    unfolding behind_tag IsBraces
    behind_tag_from s l k x d known at =
        from_choice (kind ws) (mark_kind left_brace ∷ []) (braces s l (record { defines = k; place = x.1; tag = Some x.0 }) d known at.from at.to)
        (from_gives _ (none_added s l d (omega (arith, at.from, at.to)) known))

    behind_word_from : (s l : ℕ) (k : Tagged) (at : Place) (d : Definitions) → AreDefinitions s d → IsPlaceWithin s l at → From size l (behind_word ws B k at d) (λ n y. AreAdded s n d y.1)
    unfolding behind_word IsBraces
    behind_word_from s l k at d known p =
        from_choice (kind ws) first_any_name
        (from_then (placed_from (any_name_of ws) l) (λ n x q. behind_tag_from s n k x d known (record { from = omega (arith, p.from, p.to, q.from); to = q.to })))
        (braces s l (record { defines = k; place = at; tag = None }) d known p.from p.to)

    tagged_from : (l : ℕ) (k : Tagged) (d : Definitions) → AreDefinitions l d → From size l (tagged_type ws B k d) (λ n y. AreAdded l n d y.1)
    unfolding tagged_type
    tagged_from l k d known = from_then (fixed_from ws (keyword_kind (tag_word k)) l) (λ n at p. behind_word_from l n k at d known p)

    pub braced_from : (l : ℕ) (d : Definitions) → AreDefinitions l d → From size l (braced ws B d) (λ n y. AreAdded l n d y.1)
    unfolding braced
    braced_from l d known =
        from_choice (kind ws) (keyword_kind keyword.Struct ∷ []) (tagged_from l tagged.Struct d known)
        (from_choice (kind ws) (keyword_kind keyword.Enum ∷ []) (tagged_from l tagged.Enum d known)
        (from_then (from_any (untagged_base ws)) (λ n t le. from_gives _ (none_added l n d le known))))

    member_from : (s m : ℕ) (h : TagHead) (d : Definitions) (x : List StructMember × Definitions) → s ≤ m → AreMembers s h d m x → From size m (member ws B x) (AreSomeMembers s h d)
    unfolding member
    member_from s m h d x sm p =
        from_then (from_any (consts ws (tt {0}))) (λ i _ le. from_then (braced_from i x.1 (definitions_higher m i x.1 le p.are)) (λ j y a.
        from_then (from_any (consts ws y.0)) (λ k t lf.
        from_then (members_of_from s k h d y.1 t x.0 (omega (arith, sm, le, a.on, lf)) (more_definitions s m i k h d x y.1 sm le p (added_higher i j k x.1 y.1 lf a))) (λ n ms q.
        from_gives _ (record { are = record { are = q.are.are; numbers = q.are.numbers; adds = q.are.adds }; some = q.some; on = q.on })))))

    struct_from : IsBraces (struct_braces ws B)
    unfolding IsBraces struct_braces more_members
    struct_from s l h d known le lt =
        from_then (from_any (mark ws left_brace)) (λ m _ lm. from_then (member_from s m h d ([], d) (omega (arith, le, lt, lm)) (no_members s m h d known le (omega (arith, lt, lm)))) (λ i x p.
        from_then (from_many (kind ws) (λ _. first_type) {P = AreSomeMembers s h d} (λ j y q. member_from s j h d y q.on q.are) i x p) (λ j y q.
        from_then (from_any (mark ws right_brace)) (λ n _ lf. from_gives _ (struct_added s j n h d y q.on lf known q.some q.are)))))

    braces_of_from : IsBraces (braces_of ws B)
    unfolding IsBraces braces_of
    braces_of_from s l h d known le lt = by h.defines
      where
        by : (k : Tagged) → From size l (braces_for ws k B h d) (λ n y. AreAdded s n d y.1)
        by tagged.Struct = struct_from s l h d known le lt
        by tagged.Enum = enum_from s l h d known le lt

  pub braces_from : (n : ℕ) → IsBraces (braces_in ws n)
  unfolding IsBraces braces_in
  braces_from zero s l h d known le lt = from_deep (kind ws) (mark_kind left_brace ∷ []) (braces_of_from (λ g c. none) (λ s l g c _ _ _. from_none) s l h d known le lt)
  braces_from (suc n) s l h d known le lt = braces_of_from (braces_in ws n) (braces_from n) s l h d known le lt

  pub spec_from : (l : ℕ) (d : Definitions) → AreDefinitions l d → From size l (file_spec ws d) (λ n s. AreAdded l n d s.definitions)
  unfolding file_spec
  spec_from l d known =
      from_then (from_any (more_storage ws storage.Nothing)) (λ m s le. from_then (braced_from (braces_in ws most_nested) (braces_from most_nested) m d (definitions_higher l m d le known)) (λ i y a.
      from_then (from_any (consts ws y.0)) (λ n t lf. from_gives _ (spec_is l m i n d y.1 le lf known a))))
    where
      spec_is : (l m i n : ℕ) (d e : Definitions) → l ≤ m → i ≤ n → AreDefinitions l d → AreAdded m i d e → AreAdded l n d e
      spec_is l m i n d e lm le known a = record {
        are = definitions_higher i n e le a.are;
        adds = adds_higher l i n (definitions_cover d) (definitions_cover e) le (adds_lower l m i (definitions_cover d) (definitions_cover e) lm known.apart a.adds);
        on = omega (arith, lm, le, a.on);
      }
