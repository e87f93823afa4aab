-- Names and literals keep their blocks, whatever is done to the store; and a birth brings a name.
use Rattle.std.proofs.Common.{◌≡◌, ℕ, zero, suc, ◌+◌, ◌≤◌, inl, inr, Bool, true, false, cond, nat_eq, List, [], ◌∷◌, ◌++◌, length, Option, Some, None, slice_get, refl, sym, ap, ◌∙◌, subst, arith}
use Rattle.std.proofs.lemmas.Bool.{eqb-true}
use Rattle.c_syntax.specs.Statements.{Declaration}
use Rattle.c_syntax.specs.Programs.{StringLiteral, TranslationUnit}
use Rattle.c_syntax.specs.Layouts.{size_of}
use Rattle.c_model.specs.Memory.{Pointer, Null, Into, Block, Store}
use Rattle.c_model.specs.State.{Scope, find, start_of}
use Rattle.c_model.specs.StaticObjects.{StaticObject, OfGlobal, OfLiteral, static_objects, literals_from}
use Rattle.c_model.specs.Meaning.{literal, tables_of, global_scope}
use Rattle.c_model.specs.HeapLaws.{BlocksStay}
use Rattle.c_model.specs.SoundStates.{IsPlaced, IsSound, HasBytes, IsAmong, declarations, NameHasBlock, NamesHaveBlocks, LiteralsHaveBlocks, IsSoundMemory}
use Rattle.c_model.proofs.HeapBlocks.{block_at-youngest}
use Rattle.c_model.proofs.BlocksLast.{stay_born}
use Rattle.c_model.proofs.StaticObjects.{literals_of, literals_are}

-- ---- among declarations

pub among_left : (d : Declaration) (a b : List Declaration) → IsAmong d a → IsAmong d (a ++ b)
among_left d [] b h = absurd h
among_left d (e ∷ a) b (inl same) = inl same
among_left d (e ∷ a) b (inr h) = inr (among_left d a b h)

pub among_right : (d : Declaration) (a b : List Declaration) → IsAmong d b → IsAmong d (a ++ b)
among_right d [] b h = h
among_right d (e ∷ a) b h = inr (among_right d a b h)

-- ---- blocks that stay

has_onward : (store after : Store) (number size : ℕ) → BlocksStay store after → HasBytes store number size → HasBytes after number size
has_onward store after number size stay h =
    let later = stay number h.0 h.1 in
    (later.0, later.1, subst (λ z. size ≤ z) (sym later.2.size) h.2)

named_onward : (p : TranslationUnit) (store after : Store) (x number : ℕ) → BlocksStay store after → NameHasBlock p store x number → NameHasBlock p after x number
named_onward p store after x number stay h =
    record { declaration = h.declaration; among = h.among; is = h.is; long = has_onward store after number (size_of p.structs h.declaration.ctype) stay h.long }

pub names_onward : (p : TranslationUnit) (store after : Store) (scope : Scope) → BlocksStay store after → NamesHaveBlocks p store scope → NamesHaveBlocks p after scope
names_onward p store after scope stay h x number e = named_onward p store after x number stay (h x number e)

literals_onward : (p : TranslationUnit) (store after : Store) → BlocksStay store after → LiteralsHaveBlocks p store → LiteralsHaveBlocks p after
literals_onward p store after stay h n l e =
    let is = h n l e in
    record { number = is.number; is = is.is; long = has_onward store after is.number (length l.bytes + 1) stay is.long }

-- a store that comes later, with the names from before
pub memory_onward : (p : TranslationUnit) (store after : Store) (scope : Scope) → BlocksStay store after → IsSound after → IsSoundMemory p store scope → IsSoundMemory p after scope
memory_onward p store after scope stay sound h = record {
  blocks = sound;
  names = names_onward p store after scope stay h.names;
  globals = names_onward p store after (global_scope p) stay h.globals;
  literals = literals_onward p store after stay h.literals;
}

-- globals alone are in sight where a call begins
pub memory_alone : (p : TranslationUnit) (store : Store) (scope : Scope) → IsSoundMemory p store scope → IsSoundMemory p store (global_scope p)
memory_alone p store scope h = record { blocks = h.blocks; names = h.globals; globals = h.globals; literals = h.literals }

-- ---- births

-- a block that is born for a declaration of the program
pub memory_born : (p : TranslationUnit) (store : Store) (scope : Scope) (c : Block) (d : Declaration) → IsAmong d (declarations p) → size_of p.structs d.ctype ≤ c.size
    → IsSound (store ++ c ∷ []) → IsSoundMemory p store scope → IsSoundMemory p (store ++ c ∷ []) ((d.place.offset, length store + 1) ∷ scope)
memory_born p store scope c d among long sound h =
    let later = memory_onward p store (store ++ c ∷ []) scope (stay_born store c) sound h in
    record { blocks = sound; names = λ x number e. by x number later.names (nat_eq d.place.offset x) refl e; globals = later.globals; literals = later.literals }
  where
    by : (x number : ℕ) → NamesHaveBlocks p (store ++ c ∷ []) scope → (t : Bool) → nat_eq d.place.offset x ≡ t → cond t (Some (length store + 1)) (find x scope) ≡ Some number
        → NameHasBlock p (store ++ c ∷ []) x number
    by x number names true is e =
        let same : length store + 1 ≡ number = cc in
        subst (NameHasBlock p (store ++ c ∷ []) x) same (record { declaration = d; among = among; is = eqb-true d.place.offset x is; long = (c, block_at-youngest store c, long) })
    by x number names false is e = names x number e

-- ---- pointers to names and literals

pub start_placed : (p : TranslationUnit) (store : Store) (scope : Scope) (x : ℕ) (q : Pointer) → NamesHaveBlocks p store scope → start_of (find x scope) ≡ Some q → IsPlaced store q
start_placed p store scope x q names e = by (find x scope) refl e
  where
    by : (o : Option ℕ) → find x scope ≡ o → start_of o ≡ Some q → IsPlaced store q
    by None at e = absurd cc
    by (Some n) at e =
        let same : Into n 0 ≡ q = cc in
        let b = (names x n at).long in
        subst (IsPlaced store) same (b.0, b.1, omega arith)

text_there : (k : ℕ) (os : List StaticObject) (n number : ℕ) → slice_get (literals_from k os) n ≡ Some number → (l : StringLiteral) × (slice_get (literals_of os) n ≡ Some l)
text_there k [] n number e = absurd cc
text_there k (OfGlobal d ∷ os) n number e = text_there (suc k) os n number e
text_there k (OfLiteral l ∷ os) zero number e = (l, refl)
text_there k (OfLiteral l ∷ os) (suc n) number e = text_there (suc k) os n number e

pub literal_placed : (p : TranslationUnit) (store : Store) (n : ℕ) → LiteralsHaveBlocks p store → IsPlaced store (literal (tables_of p) n)
literal_placed p store n h = by (slice_get (tables_of p).literals n) refl
  where
    by : (o : Option ℕ) → slice_get (tables_of p).literals n ≡ o → IsPlaced store (elim o [ None ↦ Null | Some k ↦ Into k 0 ])
    by None at = tt
    by (Some k) at =
        let l = text_there 1 (static_objects p) n k at in
        let is = h n l.0 (ap (λ ls. slice_get ls n) (sym (literals_are p)) ∙ l.1) in
        let same : is.number ≡ k = some_number is.number k (sym is.is ∙ at) in
        let b = is.long in
        subst (λ j. IsPlaced store (Into j 0)) same (b.0, b.1, omega arith)
      where
        some_number : (a b : ℕ) → Some a ≡ Some b → a ≡ b
        some_number a b e = cc
