-- Functions one after another, each with a name of its own.
use Rattle.std.proofs.Common.{◌≡◌, ℕ, suc, ◌+◌, ◌<◌, Bool, true, false, not, ◌&&◌, ◌||◌, cond, List, [], ◌∷◌, ◌++◌, length, take, drop, get_or, map, reverse, nat_eq, Ok, Err, refl, sym, ap, ◌∙◌, append_assoc, drop-cons, add-one, arith}
use Rattle.std.proofs.lemmas.List.{map-append, length-map, length-take, take-append-drop}
use Rattle.std.proofs.Math.Seq.{take-suc}
use Rattle.std.specs.List.{list_any}
use Rattle.mon_syntax.specs.declared.tree.MonFunc.{MonFunc}
use Rattle.mon_syntax.specs.Trees as tree
use Rattle.mon_syntax.specs.Trees.{MonFunction}
use Rattle.mon_syntax.specs.Grammar.{Vocabulary, word_at}
use Rattle.mon_syntax.specs.Checking.{Header, Checked, ◌>>=◌, name_fault, is_free, find_function, header_of, checked_function, checked_functions}
use Rattle.mon_parser.specs.declared.parsed.ParsedFunc.{ParsedFunc}
use Rattle.mon_parser.specs.ParsedTrees.{plain_func}
use Rattle.mon_typing.specs.declared.fault.CheckFault.{CheckFault}
use Rattle.mon_typing.specs.Answers.{Fails}
use Rattle.mon_typing.specs.Functions as checked
use Rattle.mon_typing.specs.Headers.{is_at}
use Rattle.mon_typing.proofs.Parts.{fails_after, fails_along}
use Rattle.mon_typing.proofs.Registers.{eqb_sym}
use Rattle.mon_typing.proofs.Headers.{is_first}
use Rattle.mon_typing.proofs.Labels.{any_reversed, opened}

abbrev Functions : Type 0
Functions = List ParsedFunc

abbrev pub headers : Functions → List Header
headers fs = map header_of (map plain_func fs)

abbrev name_of : ParsedFunc → ℕ
name_of f = f.name.number

-- the names of the functions before one, the last first
abbrev pub names_before : ℕ → Functions → List ℕ
names_before i fs = reverse (map name_of (take i fs))

-- what is checked after functions that are checked
abbrev pub behind_functions : List MonFunc → Checked (List MonFunction) → Checked (List MonFunction)
behind_functions done c = c >>= λ gs. Ok (map tree.plain_func done ++ gs)

-- ---- whether a name is new

any_named : (n : ℕ) (fs : Functions) → list_any (λ (h : Header). nat_eq h.name n) (headers fs) ≡ list_any (nat_eq n) (map name_of fs)
any_named n [] = refl
any_named n (f ∷ fs) = λ i. (eqb_sym (name_of f) n i || any_named n fs i)

parts_are : (fs : Functions) (i : ℕ) (f : ParsedFunc) → i < length fs → f ≡ get_or fs i f → fs ≡ take i fs ++ f ∷ drop (suc i) fs
parts_are fs i f lt at = sym (take-append-drop i fs) ∙ ap (λ (l : Functions). take i fs ++ l) (drop-cons fs i f lt ∙ ap (λ (x : ParsedFunc). x ∷ drop (suc i) fs) (sym at))

headers_are : (fs : Functions) (i : ℕ) (f : ParsedFunc) → i < length fs → f ≡ get_or fs i f → headers fs ≡ headers (take i fs) ++ header_of (plain_func f) ∷ headers (drop (suc i) fs)
headers_are fs i f lt at =
    ap headers (parts_are fs i f lt at) ∙ ap (map header_of) (map-append plain_func (take i fs) (f ∷ drop (suc i) fs)) ∙ map-append header_of (map plain_func (take i fs)) (map plain_func (f ∷ drop (suc i) fs))

pub new_name : (fs : Functions) (i : ℕ) (f : ParsedFunc) → i < length fs → f ≡ get_or fs i f → is_at i (find_function 0 (headers fs) (name_of f)) ≡ not (list_any (nat_eq (name_of f)) (names_before i fs))
new_name fs i f lt at =
    let n : ℕ = name_of f in
    let front : List Header = headers (take i fs) in
    let count : i ≡ length front = omega (arith, length-map (map plain_func (take i fs)) header_of, length-map (take i fs) plain_func, length-take i fs, lt) in
    (λ j. is_at (count j) (find_function 0 (headers_are fs i f lt at j) n)) ∙ is_first front (headers (drop (suc i) fs)) (header_of (plain_func f))
    ∙ ap not (any_named n (take i fs) ∙ sym (any_reversed n (map name_of (take i fs))))

before_next : (fs : Functions) (i : ℕ) (f : ParsedFunc) → i < length fs → f ≡ get_or fs i f → names_before (i + 1) fs ≡ name_of f ∷ names_before i fs
before_next fs i f lt at =
    let t : take (i + 1) fs ≡ take i fs ++ f ∷ [] = rw add-one (take-suc fs i f lt ∙ ap (λ (x : ParsedFunc). take i fs ++ x ∷ []) (sym at)) in
    ap (λ (l : Functions). reverse (map name_of l)) t ∙ ap reverse (map-append name_of (take i fs) (f ∷ [])) ∙ opened (name_of f) (map name_of (take i fs))

rest_is : (fs : Functions) (i : ℕ) (f : ParsedFunc) → i < length fs → f ≡ get_or fs i f → drop i fs ≡ f ∷ drop (i + 1) fs
rest_is fs i f lt at = rw add-one (drop-cons fs i f lt ∙ ap (λ (x : ParsedFunc). x ∷ drop (suc i) fs) (sym at))

-- ---- a function after others

one_more : (done : List MonFunc) (g : MonFunc) (c : Checked (List MonFunction)) → behind_functions done (c >>= λ rest. Ok (tree.plain_func g ∷ rest)) ≡ behind_functions (done ++ g ∷ []) c
one_more done g (Ok rest) = ap Ok (sym (append_assoc (map tree.plain_func done) (tree.plain_func g ∷ []) rest) ∙ ap (λ (l : List MonFunction). l ++ rest) (sym (map-append tree.plain_func done (g ∷ []))))
one_more done g (Err e) = refl

module _ (names : List (List ℕ)) (ws : Vocabulary) (gs : List Header) (globals : List ℕ) where
  abbrev from : List ℕ → Functions → Checked (List MonFunction)
  from before fs = checked_functions names ws gs globals before (map plain_func fs)

  -- the functions, from one of them on, whose name is new or not
  with_name : Bool → List ℕ → ParsedFunc → Functions → Checked (List MonFunction)
  with_name b before f fs = cond b (Ok tt) (name_fault {A = Unit {0}} f.name.place) >>= λ u. checked_function names ws gs globals (plain_func f) >>= λ g. from (name_of f ∷ before) fs >>= λ rest. Ok (g ∷ rest)

  abbrev IsNew : ℕ → ParsedFunc → Bool
  IsNew i f = is_free (word_at ws (name_of f)) && is_at i (find_function 0 gs (name_of f))

  named_at : (fs : Functions) (i : ℕ) (f : ParsedFunc) (b : Bool) → gs ≡ headers fs → i < length fs → f ≡ get_or fs i f → IsNew i f ≡ b → from (names_before i fs) (drop i fs) ≡ with_name b (names_before i fs) f (drop (i + 1) fs)
  unfolding with_name
  named_at fs i f b are lt at new =
      let e : (is_free (word_at ws (name_of f)) && not (list_any (nat_eq (name_of f)) (names_before i fs))) ≡ b =
      ap (λ c. is_free (word_at ws (name_of f)) && c) (sym (new_name fs i f lt at) ∙ ap (λ (hs : List Header). is_at i (find_function 0 hs (name_of f))) (sym are)) ∙ new in
      ap (from (names_before i fs)) (rest_is fs i f lt at) ∙ ap (λ c. with_name c (names_before i fs) f (drop (i + 1) fs)) e

  next_function : (fs : Functions) (i : ℕ) (f : ParsedFunc) (done more : List MonFunc) (g : MonFunc) (total : Checked (List MonFunction)) → gs ≡ headers fs → i < length fs → f ≡ get_or fs i f → IsNew i f ≡ true
      → checked_function names ws gs globals (plain_func f) ≡ Ok (tree.plain_func g) → more ≡ done ++ g ∷ [] → behind_functions done (from (names_before i fs) (drop i fs)) ≡ total
      → behind_functions more (from (names_before (i + 1) fs) (drop (i + 1) fs)) ≡ total
  unfolding with_name
  next_function fs i f done more g total are lt at new checked with_it so_far =
      (λ j. behind_functions (with_it j) (from (before_next fs i f lt at j) (drop (i + 1) fs))) ∙ sym (one_more done g (from (name_of f ∷ names_before i fs) (drop (i + 1) fs)))
      ∙ sym (ap (behind_functions done) (named_at fs i f true are lt at new ∙ ap (λ (c : Checked MonFunction). c >>= λ g. from (name_of f ∷ names_before i fs) (drop (i + 1) fs) >>= λ rest. Ok (g ∷ rest)) checked)) ∙ so_far

  function_fails : (fs : Functions) (i : ℕ) (f : ParsedFunc) (done : List MonFunc) (e : CheckFault) (total : Checked (List MonFunction)) → gs ≡ headers fs → i < length fs → f ≡ get_or fs i f → IsNew i f ≡ true
      → Fails e (checked_function names ws gs globals (plain_func f)) → behind_functions done (from (names_before i fs) (drop i fs)) ≡ total → Fails e total
  unfolding with_name
  function_fails fs i f done e total are lt at new fails so_far =
      fails_along e _ _ (sym so_far)
      (fails_after e (from (names_before i fs) (drop i fs)) (λ gs. Ok (map tree.plain_func done ++ gs))
      (fails_along e _ _ (named_at fs i f true are lt at new) (fails_after e (checked_function names ws gs globals (plain_func f)) (λ g. from (name_of f ∷ names_before i fs) (drop (i + 1) fs) >>= λ rest. Ok (g ∷ rest)) fails)))

  name_clashes : (fs : Functions) (i : ℕ) (f : ParsedFunc) (done : List MonFunc) (total : Checked (List MonFunction)) → gs ≡ headers fs → i < length fs → f ≡ get_or fs i f → IsNew i f ≡ false
      → behind_functions done (from (names_before i fs) (drop i fs)) ≡ total → total ≡ name_fault f.name.place
  unfolding with_name
  name_clashes fs i f done total are lt at old so_far = sym so_far ∙ ap (behind_functions done) (named_at fs i f false are lt at old)

  -- ---- the next function, whose name is new or not

  abbrev chosen : Bool → ParsedFunc → Checked MonFunction
  chosen b f = cond b (checked_function names ws gs globals (plain_func f)) (name_fault f.name.place)

  one_fails_at : (fs : Functions) (i : ℕ) (f : ParsedFunc) (done : List MonFunc) (e : CheckFault) (total : Checked (List MonFunction)) (b : Bool) → gs ≡ headers fs → i < length fs → f ≡ get_or fs i f → IsNew i f ≡ b
      → Fails e (chosen b f) → behind_functions done (from (names_before i fs) (drop i fs)) ≡ total → Fails e total
  one_fails_at fs i f done e total true are lt at new k so_far = function_fails fs i f done e total are lt at new k so_far
  one_fails_at fs i f done e total false are lt at old k so_far =
      fails_along e _ _ (name_clashes fs i f done total are lt at old so_far) (fails_after e (name_fault {A = MonFunction} f.name.place) (λ g. name_fault {A = List MonFunction} f.name.place) k)

  pub one_fails : (fs : Functions) (i : ℕ) (f : ParsedFunc) (done : List MonFunc) (e : CheckFault) (total : Checked (List MonFunction)) → gs ≡ headers fs → i < length fs → f ≡ get_or fs i f
      → Fails e (checked.next_function names ws gs globals i (plain_func f)) → behind_functions done (from (names_before i fs) (drop i fs)) ≡ total → Fails e total
  one_fails fs i f done e total are lt at k so_far = one_fails_at fs i f done e total (IsNew i f) are lt at refl k so_far

  one_checked_at : (fs : Functions) (i : ℕ) (f : ParsedFunc) (done more : List MonFunc) (g : MonFunc) (total : Checked (List MonFunction)) (b : Bool) → gs ≡ headers fs → i < length fs → f ≡ get_or fs i f → IsNew i f ≡ b
      → chosen b f ≡ Ok (tree.plain_func g) → more ≡ done ++ g ∷ [] → behind_functions done (from (names_before i fs) (drop i fs)) ≡ total → behind_functions more (from (names_before (i + 1) fs) (drop (i + 1) fs)) ≡ total
  one_checked_at fs i f done more g total true are lt at new k with_it so_far = next_function fs i f done more g total are lt at new k with_it so_far
  one_checked_at fs i f done more g total false are lt at old k with_it so_far = absurd cc

  pub one_checked : (fs : Functions) (i : ℕ) (f : ParsedFunc) (done more : List MonFunc) (g : MonFunc) (total : Checked (List MonFunction)) → gs ≡ headers fs → i < length fs → f ≡ get_or fs i f
      → checked.next_function names ws gs globals i (plain_func f) ≡ Ok (tree.plain_func g) → more ≡ done ++ g ∷ [] → behind_functions done (from (names_before i fs) (drop i fs)) ≡ total
      → behind_functions more (from (names_before (i + 1) fs) (drop (i + 1) fs)) ≡ total
  one_checked fs i f done more g total are lt at k with_it so_far = one_checked_at fs i f done more g total (IsNew i f) are lt at refl k with_it so_far
