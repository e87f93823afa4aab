-- What is checked is valid.
use Rattle.std.proofs.Common.{◌≡◌, ℕ, suc, ◌<◌, ◌≤◌, max, Bool, true, false, not, ◌&&◌, ◌||◌, cond, List, [], ◌∷◌, ◌++◌, map, length, drop, Option, Some, None, slice_get, Ok, Err, nat_eq, eqb, eqb-true, eq-eqb, codes, bytes_eq, refl, sym, ap, subst}
use Rattle.std.proofs.Common.{◌∙◌, true≢false, arith}
use Rattle.std.specs.List.{list_any, AllByRecursion}
use Rattle.std.specs.Prelude.{◌+◌, unsigned_abs, option_map}
use Rattle.std.proofs.lemmas.List.{map-append}
use Rattle.std.proofs.lemmas.List.Folds.{list_any-append}
use Rattle.std.proofs.Math.Seq.{drop-append_seam}
use Rattle.c_syntax.specs.declared.place.Place.{Place}
use Rattle.c_syntax.specs.Programs.{PlainRefusal}
use Rattle.mon_syntax.specs.declared.tree.MonType.{MonType}
use Rattle.mon_syntax.specs.declared.tree.MonType.TheVariants.{I32, Ptr}
use Rattle.mon_syntax.specs.Trees as tree
use Rattle.mon_syntax.specs.Trees.{MonStatement, MonStatements, MonRegister, MonFunction, MonitoredGlobal}
use Rattle.mon_syntax.specs.Parsed.{ParsedCall, ParsedStatement, Set, Store, Take, Call, If, Loop, Labelled, Goto, Return, ParsedStatements, NoStatement, Then}
use Rattle.mon_syntax.specs.Parsed.{NameUse, ParsedRegister, ParsedFunction, ParsedGlobal}
use Rattle.c_model.specs.Memory.{rounded}
use Rattle.mon_syntax.specs.Words.{word_of}
use Rattle.mon_syntax.specs.Grammar.{Vocabulary, word_at, is_step, is_step_word, has_no_argument}
use Rattle.mon_syntax.specs.Valid as valid
use Rattle.mon_syntax.specs.Valid.{Types, IsExpression, IsStatement, AreStatements, AreRegisters, Signature, IsFunction, AreFunctions, IsMain, IsValid, has_label, types_of, signature_of}
use Rattle.mon_syntax.specs.Checking.{Header, Scope, Checked, ◌>>=◌, ◌>>◌, name_fault, demanded, is_free, is_new, same_type, target_of, register_or_fault, of_type, place_of, checked_expression, condition, checked_call, taken}
use Rattle.mon_syntax.specs.Checking.{labels_in, labels_in_all, checked_statement, checked_statements, checked_registers}
use Rattle.mon_syntax.specs.Checking.{named_register, word_bytes, kinds_of, header_of, scope_of, function_of, checked_function, checked_functions, numbers_of}
use Rattle.mon_syntax.specs.Globals.{size_of_content, globals_taken}
use Rattle.mon_syntax.specs.Spelled.{no_main, is_i32, has_none, is_main, main_in, last_of, too_large, room_refusal, first_too_large}
use Rattle.mon_typing.specs.Globals.{named_global, checked_numbers, globals_of, functions_of, named_program}
use Rattle.mon_typing.specs.Within.{depth, depth_of_all, has_no_step, IsWithin, AreWithin, AreBytesWhereAny, IsGlobalWithin, IsFunctionWithin}
use Rattle.mon_typing.specs.Laws.{AreNames, CheckedIsValid}
use Rattle.mon_typing.specs.Scopes.{numbered}
use Rattle.mon_typing.proofs.Holds.{Holds, holds_behind, holds_where, holds_if, holds_at, first_true, second_true}
use Rattle.mon_typing.proofs.Names as name
use Rattle.mon_typing.proofs.Typed.{kinds, same, signature_for, IsTyped, IsTarget, typed, target_valid, register_valid, is_of_type, is_expression, call_valid, taken_valid, returned_valid}
use Rattle.mon_typing.proofs.Functions.{known_are}
use Rattle.mon_typing.proofs.Rooms.{room_of, have_room}
use Rattle.mon_typing.proofs.WholeTexts as text

-- the labels inside are none of those around
abbrev Apart : List ℕ → List ℕ → Type 0
Apart ls xs = (x : ℕ) → list_any (nat_eq x) xs ≡ true → list_any (nat_eq x) ls ≡ false

in_first : (x : ℕ) (a b : List ℕ) → list_any (nat_eq x) a ≡ true → list_any (nat_eq x) (a ++ b) ≡ true
in_first x a b h = list_any-append (nat_eq x) a b ∙ ap (λ c. c || list_any (nat_eq x) b) h

or_last : (a b : Bool) → b ≡ true → (a || b) ≡ true
or_last true b h = refl
or_last false b h = h

in_second : (x : ℕ) (a b : List ℕ) → list_any (nat_eq x) b ≡ true → list_any (nat_eq x) (a ++ b) ≡ true
in_second x a b h = list_any-append (nat_eq x) a b ∙ or_last (list_any (nat_eq x) a) (list_any (nat_eq x) b) h

apart_first : (ls a b : List ℕ) → Apart ls (a ++ b) → Apart ls a
apart_first ls a b h x k = h x (in_first x a b k)

apart_second : (ls a b : List ℕ) → Apart ls (a ++ b) → Apart ls b
apart_second ls a b h x k = h x (in_second x a b k)

apart_at : (l : ℕ) (ls xs : List ℕ) (x : ℕ) (r : Bool) → list_any (nat_eq l) xs ≡ false → list_any (nat_eq x) ls ≡ false → list_any (nat_eq x) xs ≡ true → eqb x l ≡ r → (eqb x l || list_any (nat_eq x) ls) ≡ false
apart_at l ls xs x true n h k e = absurd (true≢false (sym k ∙ ap (λ (y : ℕ). list_any (nat_eq y) xs) (eqb-true x l e) ∙ n))
apart_at l ls xs x false n h k e = ap (λ b. b || list_any (nat_eq x) ls) e ∙ h

apart_inside : (l : ℕ) (ls xs : List ℕ) → list_any (nat_eq l) xs ≡ false → Apart ls xs → Apart (l ∷ ls) xs
apart_inside l ls xs n h x k = apart_at l ls xs x (eqb x l) n (h x k) k refl

apart_itself : (l : ℕ) (ls a : List ℕ) → Apart ls (a ++ l ∷ []) → list_any (nat_eq l) ls ≡ false
apart_itself l ls a h = h l (in_second l a (l ∷ []) (ap (λ b. b || false) (eq-eqb l l refl)))

holds_known : {B : Type 0} (Q : B → Type 0) (b : Bool) (at : Place) (x : B) → (b ≡ true → Q x) → Holds Q (cond b (Ok tt) (name_fault {A = Unit {0}} at) >> Ok x)
holds_known Q true at x h = h refl
holds_known Q false at x h = tt

not_false : (b : Bool) → not b ≡ true → b ≡ false
not_false true h = absurd cc
not_false false h = refl

module _ (names : List (List ℕ)) (are : AreNames names) (hs : List Header) (globals : List ℕ) (rs : List (ℕ × MonType)) (t : Option MonType) where
  abbrev words : Vocabulary
  words = map word_of names

  abbrev scope : Scope
  scope = scope_of names words hs globals rs

  abbrev count : ℕ
  count = length globals

  abbrev callees : List Signature
  callees = map (signature_for names) hs

  abbrev types : Types
  types = kinds rs

  abbrev labels : List ℕ → List (List ℕ)
  labels ls = map (word_bytes names) ls

  abbrev Below : List ℕ → Type 0
  Below ls = AllByRecursion (λ l. l < length names) ls

  abbrev Good : List ℕ → ParsedStatement → MonStatement → Type 0
  Good ls a m = IsStatement count callees types t (labels ls) m × (valid.depth m ≡ depth a) × (valid.is_step m ≡ is_step words a)

  abbrev GoodAll : List ℕ → ParsedStatements → MonStatements → Type 0
  GoodAll ls a m = AreStatements count callees types t (labels ls) m × (valid.depth_of_all m ≡ depth_of_all a) × (valid.has_no_step m ≡ has_no_step words a)

  abbrev IsCalled : ParsedCall → List ℕ → MonStatement → Type 0
  IsCalled c ls m = IsStatement count callees types t (labels ls) m × (valid.depth m ≡ 1) × (valid.is_step m ≡ (is_step_word (word_at words c.callee.number) && has_no_argument c.arguments))

  mutual
    statement_valid : (ls : List ℕ) (a : ParsedStatement) → IsWithin words (length names) a → Below ls → Apart ls (labels_in a) → Holds (Good ls a) (checked_statement scope t ls a)
    statement_valid ls (Set x at e) w below apart =
        holds_behind (IsTarget scope) (Good ls (Set x at e)) (target_of scope x) _ (target_valid scope x) (λ target p.
        holds_behind (IsTyped scope e) (Good ls (Set x at e)) (checked_expression scope e) _ (typed scope e) (λ v q.
        holds_behind (λ r. slice_get types r.0 ≡ Some r.1) (Good ls (Set x at e)) (register_or_fault target at) _ (register_valid scope target at p) (λ r u.
        holds_where (Good ls (Set x at e)) (same_type v.1 r.1) at (Ok (tree.Set r.0 v.0)) (λ h. ((r.1, u, is_of_type scope r.1 e v w q h), refl, refl)))))
    statement_valid ls (Store k x at e) w below apart =
        holds_behind (IsTarget scope) (Good ls (Store k x at e)) (target_of scope x) _ (target_valid scope x) (λ target p.
        holds_behind (λ v. IsExpression count types v k) (Good ls (Store k x at e)) (of_type scope k at e) _ (is_expression scope k at e w) (λ v q.
        holds_behind (λ r. slice_get types r.0 ≡ Some r.1) (Good ls (Store k x at e)) (register_or_fault target at) _ (register_valid scope target at p) (λ r u.
        holds_where (Good ls (Store k x at e)) (same_type r.1 Ptr) at (Ok (tree.Store r.0 k v)) (λ h. ((u ∙ ap Some (same r.1 Ptr h), q), refl, refl)))))
    statement_valid ls (Take x at c) w below apart =
        holds_behind (IsTarget scope) (Good ls (Take x at c)) (target_of scope x) _ (target_valid scope x) (λ target p.
        holds_behind (IsCalled c ls) (Good ls (Take x at c)) (checked_call scope c) _ (call_valid scope t (labels ls) c w) (λ m q.
        holds_behind (λ r. slice_get types r.0 ≡ Some r.1) (Good ls (Take x at c)) (register_or_fault target at) (λ r. taken scope r at m) (register_valid scope target at p) (λ r u.
        taken_valid scope t (labels ls) _ r at m u q)))
    statement_valid ls (Call c) w below apart = call_valid scope t (labels ls) c w
    statement_valid ls (If e a b) w below apart =
        holds_behind (λ v. IsExpression count types v I32) (Good ls (If e a b)) (condition scope e) _ (is_expression scope I32 (place_of e) e w.0) (λ v p.
        holds_behind (GoodAll ls a) (Good ls (If e a b)) (checked_statements scope t ls a) _ (statements_valid ls a w.1 below (apart_first ls (labels_in_all a) (labels_in_all b) apart)) (λ x q.
        holds_behind (GoodAll ls b) (Good ls (If e a b)) (checked_statements scope t ls b) (λ y. Ok (tree.If v x y)) (statements_valid ls b w.2 below (apart_second ls (labels_in_all a) (labels_in_all b) apart)) (λ y r.
        ((p, q.0, r.0), (λ i. suc (max (q.1 i) (r.1 i))), refl))))
    statement_valid ls (Loop a b) w below apart =
        holds_behind (GoodAll ls a) (Good ls (Loop a b)) (checked_statements scope t ls a) _ (statements_valid ls a w.2 below (apart_first ls (labels_in_all a) (labels_in_all b) apart)) (λ x q.
        holds_behind (GoodAll ls b) (Good ls (Loop a b)) (checked_statements scope t ls b) (λ y. Ok (tree.Loop x y)) (statements_valid ls b w.3 below (apart_second ls (labels_in_all a) (labels_in_all b) apart)) (λ y r.
        ((q.2 ∙ w.0, r.2 ∙ w.1, q.0, r.0), (λ i. suc (max 1 (max (q.1 i) (r.1 i)))), refl)))
    statement_valid ls (Labelled a l) w below apart =
        holds_if (GoodAll (l.number ∷ ls) a) (Good ls (Labelled a l)) (is_free (word_at words l.number) && not (list_any (nat_eq l.number) (labels_in_all a))) l.place (checked_statements scope t (l.number ∷ ls) a)
        (λ x. tree.Labelled x (word_bytes names l.number))
        (λ h. statements_valid (l.number ∷ ls) a w.1 (w.0, below) (apart_inside l.number ls (labels_in_all a)
        (not_false (list_any (nat_eq l.number) (labels_in_all a)) (second_true (is_free (word_at words l.number)) (not (list_any (nat_eq l.number) (labels_in_all a))) h)) (apart_first ls (labels_in_all a) (l.number ∷ []) apart)))
        (λ h x p. (
          (
            name.free_name names l.number w.0 are.words (first_true (is_free (word_at words l.number)) (not (list_any (nat_eq l.number) (labels_in_all a))) h),
            name.not_around names l.number ls w.0 below are.distinct (apart_itself l.number ls (labels_in_all a) apart),
            p.0,
          ),
          ap suc p.1,
          refl,
        ))
    statement_valid ls (Goto l) w below apart =
        holds_known (Good ls (Goto l)) (list_any (nat_eq l.number) ls) l.place (tree.Goto (word_bytes names l.number)) (λ h. (name.is_around names l.number ls h, refl, refl))
    statement_valid ls (Return at e) w below apart = returned_valid scope t (labels ls) at e w

    statements_valid : (ls : List ℕ) (a : ParsedStatements) → AreWithin words (length names) a → Below ls → Apart ls (labels_in_all a) → Holds (GoodAll ls a) (checked_statements scope t ls a)
    statements_valid ls NoStatement w below apart = (tt, refl, refl)
    statements_valid ls (Then a rest) w below apart =
        holds_behind (Good ls a) (GoodAll ls (Then a rest)) (checked_statement scope t ls a) _ (statement_valid ls a w.0 below (apart_first ls (labels_in a) (labels_in_all rest) apart)) (λ x p.
        holds_behind (GoodAll ls rest) (GoodAll ls (Then a rest)) (checked_statements scope t ls rest) (λ xs. Ok (tree.Then x xs)) (statements_valid ls rest w.1 below (apart_second ls (labels_in a) (labels_in_all rest) apart)) (λ xs q.
        ((p.0, q.0), (λ i. max (p.1 i) (q.1 i)), (λ i. not (p.2 i) && q.2 i))))

-- ---- registers

eqb_sym : (a b : ℕ) → eqb a b ≡ eqb b a
eqb_sym a b = grind arith

abbrev is_named : ℕ → ℕ × MonType → Bool
is_named n x = nat_eq x.0 n

or_swap : (a b : Bool) → (a || b) ≡ (b || (a || false))
or_swap true true = refl
or_swap true false = refl
or_swap false true = refl
or_swap false false = refl

or_behind : (a b c : Bool) → (a || (b || c)) ≡ (b || (a || c))
or_behind true true c = refl
or_behind true false c = refl
or_behind false true c = refl
or_behind false false c = refl

or_both : (a b : Bool) → a ≡ false → b ≡ false → (a || b) ≡ false
or_both a b h k = ap (λ x. x || b) h ∙ k

-- the numbers are those of the globals and of the registers
abbrev SameNumbers : List ℕ → List ℕ → List (ℕ × MonType) → Type 0
SameNumbers ns globals known = (n : ℕ) → list_any (nat_eq n) ns ≡ (list_any (nat_eq n) globals || list_any (is_named n) known)

same_behind : (ns globals : List ℕ) (known : List (ℕ × MonType)) (m : ℕ) (k : MonType) → SameNumbers ns globals known → SameNumbers (m ∷ ns) globals (known ++ (m, k) ∷ [])
same_behind ns globals known m k h n =
    ap (λ b. eqb n m || b) (h n) ∙ or_behind (eqb n m) (list_any (nat_eq n) globals) (list_any (is_named n) known)
    ∙ ap (λ b. list_any (nat_eq n) globals || b) (or_swap (eqb n m) (list_any (is_named n) known) ∙ ap (λ b. list_any (is_named n) known || (b || false)) (eqb_sym n m) ∙ sym (list_any-append (is_named n) known ((m, k) ∷ [])))

module _ (names : List (List ℕ)) (are : AreNames names) (globals : List ℕ) where
  abbrev vocabulary : Vocabulary
  vocabulary = map word_of names

  registers_at : (r : ParsedRegister) (rs : List ParsedRegister) (known all : List (ℕ × MonType)) (b : Bool) (Q : Type 0) → (b ≡ true → checked_registers vocabulary globals (known ++ (r.name.number, r.kind) ∷ []) rs ≡ Ok all → Q)
      → cond b (checked_registers vocabulary globals (known ++ (r.name.number, r.kind) ∷ []) rs) (name_fault r.name.place) ≡ Ok all → Q
  registers_at r rs known all true Q h e = h refl e
  registers_at r rs known all false Q h e = absurd cc

  registers_valid : (rs : List ParsedRegister) (ns : List ℕ) (known all : List (ℕ × MonType)) → AllByRecursion (λ (r : ParsedRegister). r.name.number < length names) rs → AllByRecursion (λ n. n < length names) ns → SameNumbers ns globals known
      → checked_registers vocabulary globals known rs ≡ Ok all → AreRegisters (map (word_bytes names) ns) (map (named_register names) (numbered rs))
  registers_valid [] ns known all w below same e = tt
  registers_valid (r ∷ rs) ns known all w below same e =
      let n : ℕ = r.name.number in
      let free : Bool = is_free (word_at vocabulary n) in
      let global : Bool = list_any (nat_eq n) globals in
      let old : Bool = list_any (is_named n) known in
      registers_at r rs known all (is_new vocabulary globals n && not old) _
      (λ h e.
      let new = first_true (is_new vocabulary globals n) (not old) h in (
        name.free_name names n w.0 are.words (first_true free (not global) new),
        name.not_around names n ns w.0 below are.distinct (same n ∙ or_both global old (not_false global (second_true free (not global) new)) (not_false old (second_true (is_new vocabulary globals n) (not old) h))),
        registers_valid rs (n ∷ ns) (known ++ (n, r.kind) ∷ []) all w.1 (w.0, below) (same_behind ns globals known n r.kind same) e,
      ))
      e

kinds_are : (names : List (List ℕ)) (rs : List (ℕ × MonType)) → types_of (map (named_register names) rs) ≡ kinds rs
kinds_are names [] = refl
kinds_are names (r ∷ rs) = ap (λ (ts : Types). r.1 ∷ ts) (kinds_are names rs)

kinds_numbered : (rs : List ParsedRegister) → kinds (numbered rs) ≡ kinds_of rs
kinds_numbered [] = refl
kinds_numbered (r ∷ rs) = ap (λ (ts : Types). r.kind ∷ ts) (kinds_numbered rs)

-- parameters, and the other registers after them
both_at : (ws : Vocabulary) (globals : List ℕ) (r : ParsedRegister) (a b : List ParsedRegister) (known : List (ℕ × MonType)) (new : Bool)
    → checked_registers ws globals (known ++ (r.name.number, r.kind) ∷ []) (a ++ b) ≡ (checked_registers ws globals (known ++ (r.name.number, r.kind) ∷ []) a >>= λ k. checked_registers ws globals k b)
    → cond new (checked_registers ws globals (known ++ (r.name.number, r.kind) ∷ []) (a ++ b)) (name_fault r.name.place)
    ≡ (cond new (checked_registers ws globals (known ++ (r.name.number, r.kind) ∷ []) a) (name_fault r.name.place) >>= λ k. checked_registers ws globals k b)
both_at ws globals r a b known true e = e
both_at ws globals r a b known false e = refl

checked_both : (ws : Vocabulary) (globals : List ℕ) (a b : List ParsedRegister) (known : List (ℕ × MonType)) → checked_registers ws globals known (a ++ b) ≡ (checked_registers ws globals known a >>= λ k. checked_registers ws globals k b)
checked_both ws globals [] b known = refl
checked_both ws globals (r ∷ a) b known =
    both_at ws globals r a b known (is_new ws globals r.name.number && not (list_any (is_named r.name.number) known)) (checked_both ws globals a b (known ++ (r.name.number, r.kind) ∷ []))

all_both : (n : ℕ) (a b : List ParsedRegister) → AllByRecursion (λ (r : ParsedRegister). r.name.number < n) a → AllByRecursion (λ (r : ParsedRegister). r.name.number < n) b → AllByRecursion (λ (r : ParsedRegister). r.name.number < n) (a ++ b)
all_both n [] b h k = k
all_both n (r ∷ a) b h k = (h.0, all_both n a b h.1 k)

-- ---- globals

-- the numbers of the names of globals, the last first
abbrev numbers_before : List ℕ → List ℕ → List ℕ
numbers_before before [] = before
numbers_before before (n ∷ ns) = numbers_before (n ∷ before) ns

or_turn : (a b c : Bool) → (a || (b || c)) ≡ ((b || a) || c)
or_turn true true c = refl
or_turn true false c = refl
or_turn false true c = refl
or_turn false false c = refl

any_before : (n : ℕ) (before ns : List ℕ) → list_any (nat_eq n) (numbers_before before ns) ≡ (list_any (nat_eq n) ns || list_any (nat_eq n) before)
any_before n before [] = refl
any_before n before (m ∷ ns) = any_before n (m ∷ before) ns ∙ or_turn (list_any (nat_eq n) ns) (eqb n m) (list_any (nat_eq n) before)

all_before : (k : ℕ) (before ns : List ℕ) → AllByRecursion (λ l. l < k) before → AllByRecursion (λ l. l < k) ns → AllByRecursion (λ l. l < k) (numbers_before before ns)
all_before k before [] h w = h
all_before k before (n ∷ ns) h w = all_before k (n ∷ before) ns (w.0, h) w.1

named_before : (names : List (List ℕ)) (before : List ℕ) (gs : List ParsedGlobal) → valid.names_before (map (word_bytes names) before) (map (named_global names) gs) ≡ map (word_bytes names) (numbers_before before (numbers_of gs))
named_before names before [] = refl
named_before names before (g ∷ gs) = named_before names (g.name.number ∷ before) gs

as_many : (names : List (List ℕ)) (gs : List ParsedGlobal) → length (numbers_of gs) ≡ length (map (named_global names) gs)
as_many names [] = refl
as_many names (g ∷ gs) = ap suc (as_many names gs)

numbers_below : (n : ℕ) (gs : List ParsedGlobal) → AllByRecursion (IsGlobalWithin n) gs → AllByRecursion (λ l. l < n) (numbers_of gs)
numbers_below n [] w = tt
numbers_below n (g ∷ gs) w = (w.0.name, numbers_below n gs w.1)

content_bytes : (g : ParsedGlobal) (o : Option (List ℕ)) → AreBytesWhereAny o → valid.IsContent (text.content_at g o)
content_bytes g None w = tt
content_bytes g (Some bytes) w = w

sized : (b : Bool) (n m : ℕ) (at : Place) → eqb n m ≡ b → demanded b at ≡ Ok tt → m ≡ n
sized true n m at is e = sym (eqb-true n m is)
sized false n m at is e = absurd cc

content_size : (g : ParsedGlobal) (o : Option (List ℕ)) → text.size_at g o ≡ Ok tt → size_of_content (text.content_at g o) ≡ unsigned_abs g.size
content_size g None e = refl
content_size g (Some bytes) e = sized (eqb (unsigned_abs g.size) (length bytes + 1)) (unsigned_abs g.size) (length bytes + 1) g.place refl e

globals_valid : (names : List (List ℕ)) → AreNames names → (gs : List ParsedGlobal) (before known all : List ℕ) → AllByRecursion (IsGlobalWithin (length names)) gs → AllByRecursion (λ l. l < length names) before → text.SameNumbers before known
    → checked_numbers (map word_of names) known gs ≡ Ok all → valid.AreGlobals (map (word_bytes names) before) (map (named_global names) gs) × (globals_taken (map (named_global names) gs) ≡ room_of gs)
globals_valid names are [] before known all w below same e = (tt, refl)
globals_valid names are (g ∷ gs) before known all w below same e =
    let n : ℕ = g.name.number in
    let free : Bool = is_free (word_at (map word_of names) n) in
    let old : Bool = list_any (nat_eq n) known in
    let one = text.one_checked (map word_of names) known g gs all e in
    let others = globals_valid names are gs (n ∷ before) (known ++ n ∷ []) all w.1 (w.0.name, below) (text.same_behind before known n same) one.rest in (
      (
        name.free_name names n w.0.name are.words (first_true free (not old) one.new),
        name.not_around names n before w.0.name below are.distinct (same n ∙ not_false old (second_true free (not old) one.new)),
        content_bytes g g.literal w.0.literal,
        others.0,
      ),
      (λ i. rounded (content_size g g.literal one.size i) + others.1 i),
    )

-- ---- functions

bound_at : {A B : Type 0} (Q : Type 0) (c : Checked A) (f : A → Checked B) (b : B) → ((a : A) → c ≡ Ok a → f a ≡ Ok b → Q) → c >>= f ≡ Ok b → Q
bound_at Q (Ok a) f b h e = h a refl e
bound_at Q (Err x) f b h e = absurd cc

named_at : {B : Type 0} (Q : Type 0) (new : Bool) (at : Place) (c : Checked B) (b : B) → (new ≡ true → c ≡ Ok b → Q) → cond new (Ok tt) (name_fault {A = Unit {0}} at) >>= (λ u. c) ≡ Ok b → Q
named_at Q true at c b h e = h refl e
named_at Q false at c b h e = absurd cc

gives_i32 : (o : Option MonType) → is_i32 o ≡ true → o ≡ Some I32
gives_i32 None h = absurd cc
gives_i32 (Some t) h = ap Some (same t I32 h)

no_register : (names : List (List ℕ)) (ps : List ParsedRegister) → has_none ps ≡ true → map (named_register names) (numbered ps) ≡ []
no_register names [] h = refl
no_register names (p ∷ ps) h = absurd cc

-- one of the functions is `main`
record HasMain (gs : List MonFunction) : Type 0 where
  number : ℕ
  main : MonFunction
  has : slice_get gs number ≡ Some main
  is_main : IsMain main

module _ (names : List (List ℕ)) (are : AreNames names) (hs : List Header) (gs : List ParsedGlobal) (w : AllByRecursion (IsGlobalWithin (length names)) gs) where
  abbrev ws : Vocabulary
  ws = map word_of names

  -- the globals, by their names' numbers and with their names
  abbrev globals : List ℕ
  globals = numbers_of gs

  abbrev named_globals : List MonitoredGlobal
  named_globals = map (named_global names) gs

  -- the names of globals come before those of registers
  same_before : SameNumbers (numbers_before [] globals) globals []
  same_before n = any_before n [] globals

  abbrev signatures : List Signature
  signatures = map (signature_for names) hs

  module _ (f : ParsedFunction) (v : IsFunctionWithin ws (length names) f) where
    function_is : (ps rs : List (ℕ × MonType)) (body : MonStatements) → is_free (word_at ws f.name.number) ≡ true → checked_registers ws globals [] f.parameters ≡ Ok ps → checked_registers ws globals ps f.registers ≡ Ok rs
        → checked_statements (scope_of names ws hs globals rs) f.result [] f.body ≡ Ok body → IsFunction named_globals signatures (function_of names f ps rs body)
    function_is ps rs body free first second checked =
        let behind : rs ≡ ps ++ numbered f.registers = known_are ws globals ps rs f.registers second in
        let all : ps ++ drop (length ps) rs ≡ rs = ap (λ (l : List (ℕ × MonType)). ps ++ drop (length ps) l) behind ∙ ap (λ (l : List (ℕ × MonType)). ps ++ l) (drop-append_seam ps (numbered f.registers)) ∙ sym behind in
        let named : map (named_register names) ps ++ map (named_register names) (drop (length ps) rs) ≡ map (named_register names) rs = sym (map-append (named_register names) ps (drop (length ps) rs)) ∙ ap (map (named_register names)) all in
        let both : checked_registers ws globals [] (f.parameters ++ f.registers) ≡ Ok rs = checked_both ws globals f.parameters f.registers [] ∙ ap (λ c. c >>= λ k. checked_registers ws globals k f.registers) first ∙ second in
        let numbers : rs ≡ numbered (f.parameters ++ f.registers) = known_are ws globals [] rs (f.parameters ++ f.registers) both in
        let good = holds_at (GoodAll names are hs globals rs f.result [] f.body) (checked_statements (scope_of names ws hs globals rs) f.result [] f.body) body checked
        (statements_valid names are hs globals rs f.result [] f.body v.body tt (λ x h. refl)) in
        record {
          name = name.free_name names f.name.number v.name are.words free;
          registers = subst (λ (l : List MonRegister). AreRegisters (valid.names_before [] named_globals) l) (sym (named ∙ ap (map (named_register names)) numbers))
              (subst (λ (l : List (List ℕ)). AreRegisters l (map (named_register names) (numbered (f.parameters ++ f.registers)))) (sym (named_before names [] gs))
              (registers_valid names are globals (f.parameters ++ f.registers) (numbers_before [] globals) [] rs (all_both (length names) f.parameters f.registers v.parameters v.registers)
              (all_before (length names) [] globals tt (numbers_below (length names) gs w)) same_before both));
          body = subst (λ (n : ℕ). AreStatements n signatures (types_of (map (named_register names) ps ++ map (named_register names) (drop (length ps) rs))) f.result [] body) (as_many names gs)
              (subst (λ (ts : Types). AreStatements (length globals) signatures ts f.result [] body) (sym (ap types_of named ∙ kinds_are names rs)) good.0);
          within = subst (λ (n : ℕ). suc n ≤ valid.most_nested) (sym good.1) v.nested;
        }

    -- what is known of the function of a program
    record IsOf (g : MonFunction) : Type 0 where
      is_function : IsFunction named_globals signatures g
      named : g.name ≡ word_bytes names f.name.number
      gives : g.result ≡ f.result
      parameters : g.parameters ≡ map (named_register names) (numbered f.parameters)

    function_valid : (g : MonFunction) → is_free (word_at ws f.name.number) ≡ true → checked_function names ws hs globals f ≡ Ok g → IsOf g
    function_valid g free =
        bound_at (IsOf g) (checked_registers ws globals [] f.parameters) _ g (λ ps first.
        bound_at (IsOf g) (checked_registers ws globals ps f.registers) _ g (λ rs second.
        bound_at (IsOf g) (checked_statements (scope_of names ws hs globals rs) f.result [] f.body) (λ body. Ok (function_of names f ps rs body)) g (λ body checked e.
        let is : function_of names f ps rs body ≡ g = cc in
        subst IsOf is (record { is_function = function_is ps rs body free first second checked; named = refl; gives = refl; parameters = ap (map (named_register names)) (known_are ws globals [] ps f.parameters first) }))))

    signature_is : (g : MonFunction) → IsOf g → signature_of g ≡ signature_for names (header_of f)
    signature_is g of =
        let kinds_same : types_of g.parameters ≡ kinds_of f.parameters = ap types_of of.parameters ∙ kinds_are names (numbered f.parameters) ∙ kinds_numbered f.parameters in
        λ i. record { name = of.named i; parameters = kinds_same i; result = of.gives i }

    main_is : (g : MonFunction) → IsOf g → bytes_eq (word_bytes names f.name.number) (codes "main") ≡ true → is_i32 f.result ≡ true → has_none f.parameters ≡ true → IsMain g
    main_is g of m i n = record {
      name = of.named ∙ name.same_bytes (word_bytes names f.name.number) (codes "main") m;
      result = of.gives ∙ gives_i32 f.result i;
      no_parameters = of.parameters ∙ no_register names f.parameters n;
    }

  -- ---- functions one after another

  abbrev AreValid : List ℕ → List ParsedFunction → List MonFunction → Type 0
  AreValid before fs gs =
      AreFunctions named_globals signatures (map (word_bytes names) before) gs × (map signature_of gs ≡ map (signature_for names) (map header_of fs)) × ((h : ParsedFunction) → main_in names fs ≡ Some h → is_main h ≡ true → HasMain gs)

  main_at : (f : ParsedFunction) (v : IsFunctionWithin ws (length names) f) (g : MonFunction) (fs : List MonFunction) (b : Bool) (h : ParsedFunction) (rest : Option ParsedFunction) → IsOf f v g → (rest ≡ Some h → HasMain fs)
      → bytes_eq (word_bytes names f.name.number) (codes "main") ≡ b → is_main h ≡ true → cond b (Some f) rest ≡ Some h → HasMain (g ∷ fs)
  main_at f v g fs true h rest of go m i e =
      let same : f ≡ h = cc in
      let is : (is_i32 f.result && has_none f.parameters) ≡ true = ap is_main same ∙ i in
      record { number = 0; main = g; has = refl; is_main = main_is f v g of m (first_true (is_i32 f.result) (has_none f.parameters) is) (second_true (is_i32 f.result) (has_none f.parameters) is) }
  main_at f v g fs false h rest of go m i e = let later = go e in record { number = suc later.number; main = later.main; has = later.has; is_main = later.is_main }

  functions_valid : (fs : List ParsedFunction) (before : List ℕ) (ms : List MonFunction) → AllByRecursion (IsFunctionWithin ws (length names)) fs → AllByRecursion (λ l. l < length names) before
      → checked_functions names ws hs globals before fs ≡ Ok ms
      → AreValid before fs ms
  functions_valid [] before ms v below e = let none : [] ≡ ms = cc in subst (AreValid before []) none (tt, refl, λ h e i. absurd cc)
  functions_valid (f ∷ fs) before ms v below e =
      let free : Bool = is_free (word_at ws f.name.number) in
      let old : Bool = list_any (nat_eq f.name.number) before in
      named_at (AreValid before (f ∷ fs) ms) (free && not old) f.name.place _ ms (λ new.
      bound_at (AreValid before (f ∷ fs) ms) (checked_function names ws hs globals f) _ ms (λ g checked.
      bound_at (AreValid before (f ∷ fs) ms) (checked_functions names ws hs globals (f.name.number ∷ before) fs) (λ rest. Ok (g ∷ rest)) ms (λ rest more e.
      let of = function_valid f v.0 g (first_true free (not old) new) checked in
      let others = functions_valid fs (f.name.number ∷ before) rest v.1 (v.0.name, below) more in
      let apart = name.not_around names f.name.number before v.0.name below are.distinct (not_false old (second_true free (not old) new)) in
      let all : g ∷ rest ≡ ms = cc in
      subst (AreValid before (f ∷ fs)) all (
        (
          of.is_function,
          ap (has_label (map (word_bytes names) before)) of.named ∙ apart,
          subst (λ (n : List ℕ). AreFunctions named_globals signatures (n ∷ map (word_bytes names) before) rest) (sym of.named) others.0,
        ),
        (λ i. signature_is f v.0 g of i ∷ others.1 i),
        λ h e i. main_at f v.0 g rest (bytes_eq (word_bytes names f.name.number) (codes "main")) h (main_in names fs) of (λ k. others.2 h k i) refl i e,
      ))))
      e

-- ---- the last phase

record LastPassed (r : Option PlainRefusal) (o : Option ParsedFunction) : Type 0 where
  room : r ≡ None
  main : ParsedFunction
  has : o ≡ Some main
  is : is_main main ≡ true

main_passed : (f : ParsedFunction) (b : Bool) (r : PlainRefusal) → is_main f ≡ b → cond b None (Some r) ≡ None → LastPassed None (Some f)
main_passed f true r is e = record { room = refl; main = f; has = refl; is = is }
main_passed f false r is e = absurd cc

last_passed : (room : Option PlainRefusal) (o : Option ParsedFunction) → last_of room o ≡ None → LastPassed room o
last_passed room None e = absurd cc
last_passed (Some r) (Some f) e = absurd cc
last_passed None (Some f) e = main_passed f (is_main f) (no_main f.name.place) refl e

no_too_large : (names : List (List ℕ)) (o : Option NameUse) → option_map (too_large names) o ≡ None → o ≡ None
no_too_large names None e = refl
no_too_large names (Some x) e = absurd cc

pub checked_is_valid : CheckedIsValid
checked_is_valid names p m are within is last =
    let ws : Vocabulary = map word_of names in
    let passed = last_passed (room_refusal names p.globals) (main_in names p.functions) last in
    let room = have_room p.globals 0 (omega arith) (no_too_large names (first_too_large 0 p.globals) passed.room) in
    bound_at (IsValid m) (globals_of ws p) _ m (λ k numbers.
    bound_at (IsValid m) (functions_of names ws k p) (λ fs. Ok (named_program names p fs)) m (λ fs checked e.
    let are_globals = globals_valid names are p.globals [] [] k within.globals tt (λ n. refl) numbers in
    let known = text.numbers_are ws [] k p.globals numbers in
    let valid = functions_valid names are (map header_of p.functions) p.globals within.globals p.functions [] fs within.functions tt (ap (λ (l : List ℕ). functions_of names ws l p) (sym known) ∙ checked) in
    let found = valid.2 passed.main passed.has passed.is in
    let program_is : named_program names p fs ≡ m = cc in
    subst IsValid program_is (record {
      globals = are_globals.0;
      room = omega (arith, are_globals.1, room);
      functions = subst (λ (s : List Signature). AreFunctions (map (named_global names) p.globals) s [] fs) (sym valid.1) valid.0;
      number = found.number;
      main = found.main;
      has = found.has;
      is_main = found.is_main;
    })))
    (sym (text.program_is names ws p) ∙ is)
