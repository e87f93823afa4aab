-- Globals and functions of a text, from what is checked of them.
use Rattle.std.proofs.Common.{◌≡◌, ℕ, Bool, true, false, not, ◌&&◌, ◌||◌, cond, eqb, List, [], ◌∷◌, ◌++◌, map, nat_eq, Option, Some, None, Result, Ok, Err, refl, sym, ap, ◌∙◌, append_assoc}
use Rattle.std.proofs.lemmas.List.{append-nil}
use Rattle.std.specs.List.{list_any}
use Rattle.std.proofs.lemmas.List.Folds.{list_any-append}
use Rattle.std.specs.Prelude.{◌+◌, unsigned_abs, length, Vec}
use Rattle.std.specs.declared.alloc.Global.{Global}
use Rattle.c_syntax.specs.declared.place.Place.{Place}
use Rattle.mon_syntax.specs.declared.tree.MonFunc.{MonFunc}
use Rattle.mon_syntax.specs.Trees as tree
use Rattle.mon_syntax.specs.Trees.{PlainContent, MonFunction, MonitoredGlobal, MonitoredProgram}
use Rattle.mon_syntax.specs.Parsed.{ParsedGlobal, ParsedProgram}
use Rattle.mon_syntax.specs.Grammar.{Vocabulary, word_at}
use Rattle.mon_syntax.specs.Checking.{Checked, ◌>>=◌, ◌>>◌, name_fault, demanded, is_free, is_new, word_bytes, checked_content, checked_globals, checked_program, numbers_of}
use Rattle.mon_typing.specs.declared.fault.CheckFault.{CheckFault}
use Rattle.mon_typing.specs.Answers.{Fails, Gives}
use Rattle.mon_typing.specs.Globals.{content_of, named_global, checked_size, checked_numbers, globals_of, functions_of, named_program}
use Rattle.mon_typing.proofs.Parts.{fails_after, fails_along}

-- ---- the names' numbers, the first or the last of them first

abbrev pub SameNumbers : List ℕ → List ℕ → Type 0
SameNumbers before known = (n : ℕ) → list_any (nat_eq n) before ≡ list_any (nat_eq n) known

or_swap : (a b : Bool) → (a || b) ≡ (b || (a || false))
or_swap true true = refl
or_swap true false = refl
or_swap false true = refl
or_swap false false = refl

pub same_behind : (before known : List ℕ) (m : ℕ) → SameNumbers before known → SameNumbers (m ∷ before) (known ++ m ∷ [])
same_behind before known m h n = ap (λ b. eqb n m || b) (h n) ∙ or_swap (eqb n m) (list_any (nat_eq n) known) ∙ sym (list_any-append (nat_eq n) known (m ∷ []))

new_same : (ws : Vocabulary) (before known : List ℕ) (n : ℕ) → SameNumbers before known → is_new ws before n ≡ is_new ws known n
new_same ws before known n h = ap (λ b. is_free (word_at ws n) && not b) (h n)

-- ---- globals

abbrev pub content_at : ParsedGlobal → Option (List ℕ) → PlainContent
content_at g o = elim o [ None ↦ tree.Zeros (unsigned_abs g.size) | Some bytes ↦ tree.Literal bytes ]

abbrev pub size_at : ParsedGlobal → Option (List ℕ) → Checked (Unit {0})
size_at g o = elim o [ None ↦ Ok tt | Some bytes ↦ demanded (nat_eq (unsigned_abs g.size) (length bytes + 1)) g.place ]

abbrev checked_at : ParsedGlobal → Option (List ℕ) → Checked PlainContent
checked_at g o = elim o [
  | None ↦ Ok (tree.Zeros (unsigned_abs g.size))
  | Some bytes ↦ demanded (nat_eq (unsigned_abs g.size) (length bytes + 1)) g.place >> Ok (tree.Literal bytes)
]

content_is_at : (g : ParsedGlobal) (o : Option (List ℕ)) → checked_at g o ≡ (size_at g o >> Ok (content_at g o))
content_is_at g None = refl
content_is_at g (Some bytes) = refl

content_is : (g : ParsedGlobal) → checked_content g ≡ (checked_size g >> Ok (content_of g))
content_is g = content_is_at g g.literal

-- a global, and those after it
one_global : (d : Checked (Unit {0})) (c : PlainContent) (mk : PlainContent → MonitoredGlobal) (ns : Checked (List ℕ)) (xs : List MonitoredGlobal)
    → ((d >> Ok c) >>= λ c. (ns >>= λ k. Ok xs) >>= λ rest. Ok (mk c ∷ rest)) ≡ ((d >> ns) >>= λ k. Ok (mk c ∷ xs))
one_global (Ok u) c mk (Ok k) xs = refl
one_global (Ok u) c mk (Err e) xs = refl
one_global (Err e) c mk ns xs = refl

new_global : {A B : Type 0} (b : Bool) (at : Place) (c : Checked A) (go : A → Checked B) → (cond b (Ok tt) (name_fault {A = Unit {0}} at) >>= λ u. c >>= go) ≡ (cond b c (name_fault at) >>= go)
new_global true at c go = refl
new_global false at c go = refl

pub globals_are : (names : List (List ℕ)) (ws : Vocabulary) (gs : List ParsedGlobal) (before known : List ℕ) → SameNumbers before known
    → checked_globals names ws before gs ≡ (checked_numbers ws known gs >>= λ k. Ok (map (named_global names) gs))
globals_are names ws [] before known same = refl
globals_are names ws (g ∷ gs) before known same =
    let n : ℕ = g.name.number in
    let mk : PlainContent → MonitoredGlobal = λ c. record { name = word_bytes names n; content = c } in
    let others = globals_are names ws gs (n ∷ before) (known ++ n ∷ []) (same_behind before known n same) in
    (λ i. cond (new_same ws before known n same i) (Ok tt) (name_fault {A = Unit {0}} g.name.place) >>= λ u. content_is g i >>= λ c. others i >>= λ rest. Ok (mk c ∷ rest))
    ∙ ap (λ (c : Checked (List MonitoredGlobal)). cond (is_new ws known n) (Ok tt) (name_fault {A = Unit {0}} g.name.place) >>= λ u. c)
    (one_global (checked_size g) (content_of g) mk (checked_numbers ws (known ++ n ∷ []) gs) (map (named_global names) gs))
    ∙ new_global (is_new ws known n) g.name.place (checked_size g >> checked_numbers ws (known ++ n ∷ []) gs) (λ k. Ok (mk (content_of g) ∷ map (named_global names) gs))

-- what is known of a global that is checked, and of those after it
pub record OneChecked (ws : Vocabulary) (known : List ℕ) (g : ParsedGlobal) (gs : List ParsedGlobal) (all : List ℕ) : Type 0 where
  pub new : is_new ws known g.name.number ≡ true
  pub size : checked_size g ≡ Ok tt
  pub rest : checked_numbers ws (known ++ g.name.number ∷ []) gs ≡ Ok all

checked_by : (ws : Vocabulary) (known : List ℕ) (g : ParsedGlobal) (gs : List ParsedGlobal) (all : List ℕ) (b : Bool) (d : Checked (Unit {0})) → is_new ws known g.name.number ≡ b → checked_size g ≡ d
    → cond b (d >> checked_numbers ws (known ++ g.name.number ∷ []) gs) (name_fault g.name.place) ≡ Ok all → OneChecked ws known g gs all
checked_by ws known g gs all true (Ok u) new size e = record { new = new; size = size; rest = e }
checked_by ws known g gs all true (Err f) new size e = absurd cc
checked_by ws known g gs all false d new size e = absurd cc

pub one_checked : (ws : Vocabulary) (known : List ℕ) (g : ParsedGlobal) (gs : List ParsedGlobal) (all : List ℕ) → checked_numbers ws known (g ∷ gs) ≡ Ok all → OneChecked ws known g gs all
one_checked ws known g gs all e = checked_by ws known g gs all (is_new ws known g.name.number) (checked_size g) refl refl e

pub numbers_are : (ws : Vocabulary) (known all : List ℕ) (gs : List ParsedGlobal) → checked_numbers ws known gs ≡ Ok all → all ≡ known ++ numbers_of gs
numbers_are ws known all [] e = let f : known ≡ all = cc in sym f ∙ sym (append-nil known)
numbers_are ws known all (g ∷ gs) e =
    numbers_are ws (known ++ g.name.number ∷ []) all gs (one_checked ws known g gs all e).rest ∙ append_assoc known (g.name.number ∷ []) (numbers_of gs)

-- ---- programs

module _ (names : List (List ℕ)) (ws : Vocabulary) (p : ParsedProgram) where
  abbrev with_functions : Checked (List MonFunction) → Checked MonitoredProgram
  with_functions c = c >>= λ fs. Ok (named_program names p fs)

  behind_globals : (c : Checked (List ℕ)) → globals_of ws p ≡ c
      → ((c >>= λ k. Ok (map (named_global names) p.globals)) >>= λ globals. functions_of names ws (numbers_of p.globals) p >>= λ functions. Ok (record { globals = globals; functions = functions }))
      ≡ (c >>= λ k. with_functions (functions_of names ws k p))
  behind_globals (Ok k) e = ap (λ (k : List ℕ). with_functions (functions_of names ws k p)) (sym (numbers_are ws [] k p.globals e))
  behind_globals (Err f) e = refl

  pub program_is : checked_program names ws p ≡ (globals_of ws p >>= λ k. with_functions (functions_of names ws k p))
  program_is =
      ap (λ (c : Checked (List MonitoredGlobal)). c >>= λ globals. functions_of names ws (numbers_of p.globals) p >>= λ functions. Ok (record { globals = globals; functions = functions })) (globals_are names ws p.globals [] [] (λ n. refl))
      ∙ behind_globals (globals_of ws p) refl

  pub globals_fail : (e : CheckFault) → Fails e (globals_of ws p) → Fails e (checked_program names ws p)
  globals_fail e f = fails_along e _ _ program_is (fails_after e (globals_of ws p) (λ k. with_functions (functions_of names ws k p)) f)

  pub parts_given : (k : List ℕ) (r : Result (Vec MonFunc Global) CheckFault) → globals_of ws p ≡ Ok k → Gives (λ (v : Vec MonFunc Global). map tree.plain_func v.items) r (functions_of names ws k p)
      → Gives (λ (v : Vec MonFunc Global). named_program names p (map tree.plain_func v.items)) r (checked_program names ws p)
  parts_given k (Ok v) e h = program_is ∙ ap (λ (c : Checked (List ℕ)). c >>= λ k. with_functions (functions_of names ws k p)) e ∙ ap with_functions h
  parts_given k (Err f) e h =
      fails_along f _ _ (program_is ∙ ap (λ (c : Checked (List ℕ)). c >>= λ k. with_functions (functions_of names ws k p)) e)
      (fails_after f (functions_of names ws k p) (λ fs. Ok (named_program names p fs)) h)
