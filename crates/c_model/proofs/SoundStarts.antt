-- A run of an accepted program begins in a sound state.
use Rattle.std.proofs.Common.{◌≡◌, ℕ, zero, suc, ◌+◌, ◌^◌, ◌≤◌, Bool, true, false, cond, if◌then◌else◌, nat_eq, nat_lt, List, [], ◌∷◌, ◌++◌, length, map, inl, inr, Some, None, slice_get, refl, sym, ap, ◌∙◌, subst, arith}
use Rattle.std.proofs.lemmas.Bool.{eqb-true, ltb-false}
use Rattle.std.proofs.lemmas.List.{length-replicate, length-append, length-map}
use Rattle.c_syntax.specs.RefusalCodes.{globals_code}
use Rattle.c_syntax.specs.declared.types.BlockKind.TheVariants as block
use Rattle.c_syntax.specs.Statements.{Declaration}
use Rattle.c_syntax.specs.Programs.{StructType, StringLiteral, TranslationUnit}
use Rattle.c_syntax.specs.Layouts.{size_of}
use Rattle.c_model.specs.Limits.{globals_bytes}
use Rattle.c_model.specs.Memory.{Number, Block, Store, block_at}
use Rattle.c_model.specs.State.{find}
use Rattle.c_model.specs.StaticObjects.{StaticObject, OfGlobal, OfLiteral, static_objects, place_of_object, size_of_object, scope_from, literals_from}
use Rattle.c_model.specs.Meaning.{block_of_object, global_scope}
use Rattle.c_model.specs.ReadTree.{AreBytes, TextsAreBytes}
use Rattle.c_model.specs.UnitTyping.{room_fault_from, room_with}
use Rattle.c_model.specs.AcceptedPrograms.{IsProgram}
use Rattle.c_model.specs.SoundStates.{IsSoundBlock, IsSound, HasBytes, IsAmong, declared_by, NamesHaveBlocks, LiteralsHaveBlocks, StartsAreSound, StartsAreSettled}
use Rattle.c_model.proofs.StaticObjects.{globals_of, literals_of, globals_are, literals_are}
use Rattle.c_model.proofs.SoundStores.{none_together}
use Rattle.c_model.proofs.SoundMemory.{among_left}
use Rattle.c_model.proofs.SoundSteps.{ArePlain, no_bytes, one_more, zeros_plain}

-- ---- the blocks of globals and literals

literal_plain : (bytes : List ℕ) → AreBytes bytes → ArePlain (map Number bytes ++ Number 0 ∷ [])
literal_plain [] h = one_more 0 [] (omega arith) no_bytes
literal_plain (b ∷ bs) h = one_more b (map Number bs ++ Number 0 ∷ []) h.0 (literal_plain bs h.1)

literal_long : (bytes : List ℕ) → length (map Number bytes ++ Number 0 ∷ []) ≡ length bytes + 1
literal_long bytes = let a = length-append (map Number bytes) (Number 0 ∷ []) in let m = length-map bytes Number in omega (arith, a, m)

-- the block of an object is as long as the object
long_object : (structs : List StructType) (o : StaticObject) → (block_of_object structs o).size ≡ size_of_object structs o
long_object structs (OfGlobal d) = length-replicate (size_of structs d.ctype) (Number 0)
long_object structs (OfLiteral l) = literal_long l.bytes

-- the bytes of an object that is a literal
abbrev ObjectIsBytes : StaticObject → Type 0
ObjectIsBytes (OfGlobal d) = Unit {0}
ObjectIsBytes (OfLiteral l) = AreBytes l.bytes

plain_object : (structs : List StructType) (o : StaticObject) → ObjectIsBytes o → ArePlain (block_of_object structs o).bytes
plain_object structs (OfGlobal d) h = zeros_plain (size_of structs d.ctype)
plain_object structs (OfLiteral l) h = literal_plain l.bytes h

whole_object : (structs : List StructType) (o : StaticObject) → length (block_of_object structs o).bytes ≡ (block_of_object structs o).size
whole_object structs (OfGlobal d) = refl
whole_object structs (OfLiteral l) = refl

object_sound : (structs : List StructType) (o : StaticObject) (store : Store) → ObjectIsBytes o → size_of_object structs o ≤ 2 ^ 32 → IsSoundBlock store (block_of_object structs o)
object_sound structs o store h small =
    let plain = plain_object structs o h in
    record { long = whole_object structs o; small = subst (λ n. n ≤ 2 ^ 32) (sym (long_object structs o)) small; bytes = plain.sound store; together = none_together (block_of_object structs o).bytes plain.none }

-- ---- their room

record HasRoom (size : ℕ) (rest : Type 0) : Type 0 where
  small : size ≤ 2 ^ 32
  others : rest

room_first : (structs : List StructType) (taken : ℕ) (o : StaticObject) (os : List StaticObject) → room_fault_from structs taken (o ∷ os) ≡ None
    → HasRoom (size_of_object structs o) (room_fault_from structs (room_with structs taken o) os ≡ None)
room_first structs taken o os e = by (nat_lt globals_bytes (room_with structs taken o)) refl e
  where
    by : (b : Bool) → nat_lt globals_bytes (room_with structs taken o) ≡ b
        → (if b then Some (record { code = globals_code; place = place_of_object o }) else room_fault_from structs (room_with structs taken o) os) ≡ None
        → HasRoom (size_of_object structs o) (room_fault_from structs (room_with structs taken o) os ≡ None)
    by true less f = absurd cc
    by false less f =
        let le : room_with structs taken o ≤ 1048576 = ltb-false 1048576 (room_with structs taken o) less in
        record { small = omega (arith, le); others = f }

objects_sound : (structs : List StructType) (taken : ℕ) (os : List StaticObject) → room_fault_from structs taken os ≡ None → TextsAreBytes (literals_of os)
    → (store : Store) (k : ℕ) (b : Block) → slice_get (map (block_of_object structs) os) k ≡ Some b → IsSoundBlock store b
objects_sound structs taken [] room h store k b e = absurd cc
objects_sound structs taken (OfGlobal d ∷ os) room h store zero b e =
    let r = room_first structs taken (OfGlobal d) os room in
    let same : block_of_object structs (OfGlobal d) ≡ b = cc in
    subst (IsSoundBlock store) same (object_sound structs (OfGlobal d) store tt r.small)
objects_sound structs taken (OfLiteral l ∷ os) room h store zero b e =
    let r = room_first structs taken (OfLiteral l) os room in
    let same : block_of_object structs (OfLiteral l) ≡ b = cc in
    subst (IsSoundBlock store) same (object_sound structs (OfLiteral l) store h.0 r.small)
objects_sound structs taken (OfGlobal d ∷ os) room h store (suc k) b e =
    objects_sound structs (room_with structs taken (OfGlobal d)) os (room_first structs taken (OfGlobal d) os room).others h store k b e
objects_sound structs taken (OfLiteral l ∷ os) room h store (suc k) b e =
    objects_sound structs (room_with structs taken (OfLiteral l)) os (room_first structs taken (OfLiteral l) os room).others h.1 store k b e

-- ---- the numbers of blocks

-- the object whose block has a number, where that of the first has the number k
record Stands (k : ℕ) (os : List StaticObject) (number : ℕ) (o : StaticObject) : Type 0 where
  index : ℕ
  number_is : number ≡ k + index
  at : slice_get os index ≡ Some o

one_later : (k : ℕ) (o : StaticObject) (os : List StaticObject) (number : ℕ) (a : StaticObject) → Stands (suc k) os number a → Stands k (o ∷ os) number a
one_later k o os number a h = let is = h.number_is in record { index = suc h.index; number_is = omega (arith, is); at = h.at }

record GlobalStands (k : ℕ) (os : List StaticObject) (x number : ℕ) : Type 0 where
  global : Declaration
  is : global.place.offset ≡ x
  stands : Stands k os number (OfGlobal global)

global_later : (k : ℕ) (o : StaticObject) (os : List StaticObject) (x number : ℕ) → GlobalStands (suc k) os x number → GlobalStands k (o ∷ os) x number
global_later k o os x number h = record { global = h.global; is = h.is; stands = one_later k o os number (OfGlobal h.global) h.stands }

global_found : (k : ℕ) (os : List StaticObject) (x number : ℕ) → find x (scope_from k os) ≡ Some number → GlobalStands k os x number
global_found k [] x number e = absurd cc
global_found k (OfLiteral l ∷ os) x number e = global_later k (OfLiteral l) os x number (global_found (suc k) os x number e)
global_found k (OfGlobal d ∷ os) x number e = by (λ f. global_found (suc k) os x number f) (nat_eq d.place.offset x) refl e
  where
    by : (find x (scope_from (suc k) os) ≡ Some number → GlobalStands (suc k) os x number) → (t : Bool) → nat_eq d.place.offset x ≡ t
        → cond t (Some k) (find x (scope_from (suc k) os)) ≡ Some number → GlobalStands k (OfGlobal d ∷ os) x number
    by rest true is f =
        let same : k ≡ number = cc in
        record { global = d; is = eqb-true d.place.offset x is; stands = record { index = 0; number_is = omega (arith, same); at = refl } }
    by rest false is f = global_later k (OfGlobal d) os x number (rest f)

record LiteralStands (k : ℕ) (os : List StaticObject) (n : ℕ) (l : StringLiteral) : Type 0 where
  number : ℕ
  is : slice_get (literals_from k os) n ≡ Some number
  stands : Stands k os number (OfLiteral l)

literal_later : (k : ℕ) (d : Declaration) (os : List StaticObject) (n : ℕ) (l : StringLiteral) → LiteralStands (suc k) os n l → LiteralStands k (OfGlobal d ∷ os) n l
literal_later k d os n l h = record { number = h.number; is = h.is; stands = one_later k (OfGlobal d) os h.number (OfLiteral l) h.stands }

literal_found : (k : ℕ) (os : List StaticObject) (n : ℕ) (l : StringLiteral) → slice_get (literals_of os) n ≡ Some l → LiteralStands k os n l
literal_found k [] n l e = absurd cc
literal_found k (OfGlobal d ∷ os) n l e = literal_later k d os n l (literal_found (suc k) os n l e)
literal_found k (OfLiteral x ∷ os) zero l e =
    let same : x ≡ l = cc in
    record { number = k; is = refl; stands = record { index = 0; number_is = omega arith; at = ap (λ y. Some (OfLiteral y)) same } }
literal_found k (OfLiteral x ∷ os) (suc n) l e =
    let h = literal_found (suc k) os n l e in
    record { number = h.number; is = h.is; stands = one_later k (OfLiteral x) os h.number (OfLiteral l) h.stands }

-- each has its block
mapped : (structs : List StructType) (os : List StaticObject) (i : ℕ) (o : StaticObject) → slice_get os i ≡ Some o → slice_get (map (block_of_object structs) os) i ≡ Some (block_of_object structs o)
mapped structs [] i o e = absurd cc
mapped structs (a ∷ os) zero o e = let same : a ≡ o = cc in ap (λ x. Some (block_of_object structs x)) same
mapped structs (a ∷ os) (suc i) o e = mapped structs os i o e

has_block : (structs : List StructType) (os : List StaticObject) (number : ℕ) (o : StaticObject) → Stands 1 os number o → HasBytes (map (block_of_object structs) os) number (size_of_object structs o)
has_block structs os number o h =
    let is = h.number_is in
    let next : number ≡ suc h.index = omega (arith, is) in (
      block_of_object structs o,
      subst (λ n. block_at (map (block_of_object structs) os) n ≡ Some (block_of_object structs o)) (sym next) (mapped structs os h.index o h.at),
      let long = long_object structs o in omega (arith, long),
    )

among_globals : (os : List StaticObject) (i : ℕ) (d : Declaration) → slice_get os i ≡ Some (OfGlobal d) → IsAmong d (globals_of os)
among_globals [] i d e = absurd cc
among_globals (OfGlobal x ∷ os) zero d e = let same : x ≡ d = cc in inl same
among_globals (OfLiteral l ∷ os) zero d e = absurd cc
among_globals (OfGlobal x ∷ os) (suc i) d e = inr (among_globals os i d e)
among_globals (OfLiteral l ∷ os) (suc i) d e = among_globals os i d e

-- ---- the start

globals_named : (p : TranslationUnit) → NamesHaveBlocks p (map (block_of_object p.structs) (static_objects p)) (global_scope p)
globals_named p x number e =
    let g = global_found 1 (static_objects p) x number e in
    let in_file = subst (IsAmong g.global) (globals_are p) (among_globals (static_objects p) g.stands.index g.global g.stands.at) in
    record {
      declaration = g.global;
      among = among_left g.global p.globals (declared_by p.funcs) in_file;
      is = g.is;
      long = has_block p.structs (static_objects p) number (OfGlobal g.global) g.stands;
    }

literals_there : (p : TranslationUnit) → LiteralsHaveBlocks p (map (block_of_object p.structs) (static_objects p))
literals_there p n l e =
    let h = literal_found 1 (static_objects p) n l (ap (λ ls. slice_get ls n) (literals_are p) ∙ e) in
    record { number = h.number; is = h.is; long = has_block p.structs (static_objects p) h.number (OfLiteral l) h.stands }

blocks_sound : (p : TranslationUnit) → IsProgram p → IsSound (map (block_of_object p.structs) (static_objects p))
blocks_sound p q k b e =
    objects_sound p.structs 0 (static_objects p) q.room (subst TextsAreBytes (sym (literals_are p)) q.texts) (map (block_of_object p.structs) (static_objects p)) k b e

pub starts_are_sound : StartsAreSound
starts_are_sound p q input n = record {
  now = record { blocks = blocks_sound p q; names = globals_named p; globals = globals_named p; literals = literals_there p };
  past = λ l m e. absurd cc;
}

-- ---- the heap

none_on_heap : (structs : List StructType) (os : List StaticObject) (k : ℕ) (b : Block) → slice_get (map (block_of_object structs) os) k ≡ Some b → b.kind ≡ block.Heap → ⊥
none_on_heap structs [] k b e heap = absurd cc
none_on_heap structs (OfGlobal d ∷ os) zero b e heap =
    let same : block_of_object structs (OfGlobal d) ≡ b = cc in
    let is = ap (λ (x : Block). x.kind) same in
    absurd cc
none_on_heap structs (OfLiteral l ∷ os) zero b e heap =
    let same : block_of_object structs (OfLiteral l) ≡ b = cc in
    let is = ap (λ (x : Block). x.kind) same in
    absurd cc
none_on_heap structs (o ∷ os) (suc k) b e heap = none_on_heap structs os k b e heap

none_numbered : (structs : List StructType) (os : List StaticObject) (n : ℕ) (b : Block) → block_at (map (block_of_object structs) os) n ≡ Some b → b.kind ≡ block.Heap → ⊥
none_numbered structs os zero b e heap = absurd cc
none_numbered structs os (suc k) b e heap = none_on_heap structs os k b e heap

pub starts_are_settled : StartsAreSettled
starts_are_settled p input n = record {
  inside = λ m b e live heap. absurd (none_numbered p.structs (static_objects p) m b e heap);
  apart = λ m k b c d e live heap f live' heap'. absurd (none_numbered p.structs (static_objects p) m b e heap);
}
