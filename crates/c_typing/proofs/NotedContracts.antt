-- Contracts as the code types and moves them are those of the definition of a file.
use Rattle.std.proofs.Common.{◌≡◌, ◌<◌, ℕ, length, refl, sym, ap, ◌∙◌, subst, arith, List, [], ◌∷◌, ◌++◌, ◌⊎◌, inl, inr, map, nat_eq, Option, Some, None, Result, Bool, true, false, ◌&&◌, cond}
use Rattle.std.proofs.lemmas.Bool.Decides.{nat_tests}
use Rattle.std.proofs.lemmas.List.{map-append}
use Rattle.c_syntax.specs.Ctypes.{PlainType}
use Rattle.c_syntax.specs.Statements.{Declaration}
use Rattle.c_syntax.specs.declared.program.Func.{Func}
use Rattle.c_syntax.specs.Programs.{FunctionContract, Function, plain_func}
use Rattle.c_model.specs.Library.{is_there}
use Rattle.c_model.specs.Meaning.{is_definition}
use Rattle.c_model.specs.Checked.{Good, one_part}
use Rattle.c_model.specs.ExpressionTyping.{Sight, inner, or_else}
use Rattle.c_model.specs.UnitTyping.{definition_of, with_parameter, with_parameters}
use Rattle.c_model.specs.ContractTyping.{sight_of_clause, typed_contract}
use Rattle.c_model.specs.AnnotationTyping.{known_at, numbered_as, defined_parameters, numbers_of_parameters, contract_sight, noted_contract, noted_in, noted_function, contract_named, with_contract, with_contracts}
use Rattle.c_scopes.specs.declared.fault.TypeFault.{TypeFault}
use Rattle.c_scopes.specs.Answers.{Answers}
use Rattle.c_scopes.proofs.Lists.{made_of}
use Rattle.c_typing.specs.NotedContracts.{defined_numbers, numbers_or_none, all_numbered, numbers_by, contract_sight_by, contract_by, function_by}
use Rattle.c_typing.specs.NotedContracts.{left_contract, kept_contract, named_contracts, given_contract, without_named, defines, IsDefinedOnce}

abbrev IsAmong : Function → List Function → Type 0
IsAmong f [] = ⊥
IsAmong f (g ∷ gs) = (g ≡ f) ⊎ IsAmong f gs

-- ---- parameters with the numbers of a definition's

own_numbers : (s : Sight) (ds : List Declaration) → all_numbered s ds [] ≡ with_parameters s ds
own_numbers s [] = refl
own_numbers s (d ∷ ds) = own_numbers (with_parameter s d) ds

seen_numbered : (s : Sight) (ds es : List Declaration) → all_numbered s ds (numbers_of_parameters es) ≡ with_parameters s (numbered_as ds es)
seen_numbered s [] es = refl
seen_numbered s (d ∷ ds) [] = own_numbers (with_parameter s d) ds
seen_numbered s (d ∷ ds) (e ∷ es) = seen_numbered (with_parameter s (record d { place = e.place })) ds es

own_by : (ds : List Declaration) → numbers_by ds [] ≡ numbers_of_parameters ds
own_by [] = refl
own_by (d ∷ ds) = ap (λ ns. d.place.offset ∷ ns) (own_by ds)

numbers_numbered : (ds es : List Declaration) → numbers_by ds (numbers_of_parameters es) ≡ numbers_of_parameters (numbered_as ds es)
numbers_numbered [] es = refl
numbers_numbered (d ∷ ds) [] = ap (λ ns. d.place.offset ∷ ns) (own_by ds)
numbers_numbered (d ∷ ds) (e ∷ es) = ap (λ ns. e.place.offset ∷ ns) (numbers_numbered ds es)

-- parameters with their own numbers are themselves
same_seen : (s : Sight) (ds : List Declaration) → with_parameters s (numbered_as ds ds) ≡ with_parameters s ds
same_seen s [] = refl
same_seen s (d ∷ ds) = same_seen (with_parameter s d) ds

same_numbers : (ds : List Declaration) → numbers_of_parameters (numbered_as ds ds) ≡ numbers_of_parameters ds
same_numbers [] = refl
same_numbers (d ∷ ds) = ap (λ ns. d.place.offset ∷ ns) (same_numbers ds)

defined_seen : (x : ℕ) (all : List Function) (s : Sight) (ds : List Declaration) → all_numbered s ds (numbers_or_none (defined_numbers x all)) ≡ with_parameters s (numbered_as ds (defined_parameters x all ds))
defined_seen x [] s ds = own_numbers s ds ∙ sym (same_seen s ds)
defined_seen x (f ∷ fs) s ds = by (is_definition f && nat_eq f.name x) (defined_seen x fs s ds)
  where
    by : (t : Bool) → all_numbered s ds (numbers_or_none (defined_numbers x fs)) ≡ with_parameters s (numbered_as ds (defined_parameters x fs ds))
        → all_numbered s ds (numbers_or_none (cond t (Some (numbers_of_parameters f.params)) (defined_numbers x fs))) ≡ with_parameters s (numbered_as ds (cond t f.params (defined_parameters x fs ds)))
    by true rest = seen_numbered s ds f.params
    by false rest = rest

defined_by : (x : ℕ) (all : List Function) (ds : List Declaration) → numbers_by ds (numbers_or_none (defined_numbers x all)) ≡ numbers_of_parameters (numbered_as ds (defined_parameters x all ds))
defined_by x [] ds = own_by ds ∙ sym (same_numbers ds)
defined_by x (f ∷ fs) ds = by (is_definition f && nat_eq f.name x) (defined_by x fs ds)
  where
    by : (t : Bool) → numbers_by ds (numbers_or_none (defined_numbers x fs)) ≡ numbers_of_parameters (numbered_as ds (defined_parameters x fs ds))
        → numbers_by ds (numbers_or_none (cond t (Some (numbers_of_parameters f.params)) (defined_numbers x fs))) ≡ numbers_of_parameters (numbered_as ds (cond t f.params (defined_parameters x fs ds)))
    by true rest = numbers_numbered ds f.params
    by false rest = rest

-- ---- contracts and functions where they stand

sight_is : (all : List Function) (s : Sight) (f : Function) → contract_sight_by (numbers_or_none (defined_numbers f.name all)) s f.params f.result ≡ contract_sight all s f
sight_is all s f = λ i. sight_of_clause (defined_seen f.name all (inner s) f.params i) (defined_by f.name all f.params i) f.result

contract_is : (all : List Function) (s : Sight) (f : Function) (c : Option FunctionContract) → contract_by (numbers_or_none (defined_numbers f.name all)) s f c ≡ noted_contract all s f c
contract_is all s f None = refl
contract_is all s f (Some c) = λ i. one_part (typed_contract (sight_is all (known_at c.place s) f i) c) (λ c. Good (Some c))

pub function_is : (all : List Function) (s : Sight) (f : Function) → function_by (λ x. defined_numbers x all) s f ≡ noted_function all s f
function_is all s f = λ i. one_part (contract_is all s f f.contract i) (λ c. one_part (noted_in (known_at f.place s) f) (λ b. Good (record f { contract = c; body = b })))

-- ---- contracts and functions in words of what the code finds

pub contract_noted : (ns ms : List ℕ) (s : Sight) (f : Function) (ds : List Declaration) (c d : FunctionContract) (r : Result (Unit {0}) TypeFault) → ns ≡ ms → ds ≡ f.params
    → Answers (λ (u : Unit {0}). d) (typed_contract (contract_sight_by ns (known_at c.place s) ds f.result) c) r → Answers (λ (u : Unit {0}). Some d) (contract_by ms s f (Some c)) r
contract_noted ns ms s f ds c d r known same h =
    made_of Some (λ (u : Unit {0}). d) (typed_contract (contract_sight_by ms (known_at c.place s) f.params f.result) c) r
    (subst (λ m. Answers (λ (u : Unit {0}). d) m r) (λ i. typed_contract (contract_sight_by (known i) (known_at c.place s) (same i) f.result) c) h)

-- a contract, where the parameters are in sight with these numbers
pub within_noted : (s t u : Sight) (ns fs : List ℕ) (ds : List Declaration) (k : PlainType) (c d : FunctionContract) (r : Result (Unit {0}) TypeFault) → t ≡ inner s → u ≡ all_numbered t ds ns → fs ≡ numbers_by ds ns
    → Answers (λ (u : Unit {0}). d) (typed_contract (sight_of_clause u fs k) c) r → Answers (λ (u : Unit {0}). d) (typed_contract (contract_sight_by ns s ds k) c) r
within_noted s t u ns fs ds k c d r inside seen known h =
    subst (λ m. Answers (λ (u : Unit {0}). d) m r) (λ i. typed_contract (sight_of_clause ((seen ∙ ap (λ v. all_numbered v ds ns) inside) i) (known i) k) c) h

pub same_noted : (numbers : ℕ → Option (List ℕ)) (s t : Sight) (f g : Function) (r : Result (Unit {0}) TypeFault) → t ≡ s → Answers (λ (u : Unit {0}). g) (function_by numbers t f) r → Answers (λ (u : Unit {0}). g) (function_by numbers s f) r
same_noted numbers s t f g r same h = subst (λ v. Answers (λ (u : Unit {0}). g) (function_by numbers v f) r) same h

-- a function whose contract is typed, before its body is
pub function_noted : (numbers : ℕ → Option (List ℕ)) (s t : Sight) (f g h : Function) (r : Result (Unit {0}) TypeFault) → contract_by (numbers_or_none (numbers f.name)) s f f.contract ≡ Good g.contract
    → g ≡ record f { contract = g.contract } → t ≡ s → Answers (λ (u : Unit {0}). h.body) (noted_in (known_at g.place t) g) r → h ≡ record g { body = h.body } → Answers (λ (u : Unit {0}). h) (function_by numbers s f) r
function_noted numbers s t f g h r good is same body then =
    let whole : h ≡ record f { contract = g.contract; body = h.body } = then ∙ ap (λ (g : Function). record g { body = h.body }) is in
    let here : Answers (λ (u : Unit {0}). h.body) (noted_in (known_at f.place s) f) r =
    subst (λ m. Answers (λ (u : Unit {0}). h.body) m r) (λ i. noted_in (known_at (is i).place (same i)) (is i)) body in
    subst (λ m. Answers (λ (u : Unit {0}). h) m r) (sym (ap (λ m. one_part m (λ c. one_part (noted_in (known_at f.place s) f) (λ b. Good (record f { contract = c; body = b })))) good))
    (subst (λ (k : Function). Answers (λ (u : Unit {0}). k) (one_part (noted_in (known_at f.place s) f) (λ b. Good (record f { contract = g.contract; body = b }))) r) (sym whole)
    (made_of (λ b. record f { contract = g.contract; body = b }) (λ (u : Unit {0}). h.body) (noted_in (known_at f.place s) f) r here))

-- ---- contracts that move

-- names have numbers where they are defined
numbers_there : (x : ℕ) (all : List Function) → is_there (defined_numbers x all) ≡ is_there (definition_of x all)
numbers_there x [] = refl
numbers_there x (f ∷ fs) = by (is_definition f && nat_eq f.name x) (numbers_there x fs)
  where
    by : (t : Bool) → is_there (defined_numbers x fs) ≡ is_there (definition_of x fs) → is_there (cond t (Some (numbers_of_parameters f.params)) (defined_numbers x fs)) ≡ is_there (cond t (Some f.place.offset) (definition_of x fs))
    by true rest = refl
    by false rest = rest

-- the contract that is kept of a name is its first one, where it is defined
kept_is : (numbers : ℕ → Option (List ℕ)) (x : ℕ) (fs : List Function) → named_contracts numbers fs x ≡ cond (is_there (numbers x)) (contract_named x fs) None
kept_is numbers x [] = by (is_there (numbers x))
  where
    by : (t : Bool) → None ≡ cond t (contract_named x []) None
    by true = refl
    by false = refl
kept_is numbers x (f ∷ fs) = ap (or_else (cond (nat_eq f.name x && is_there (numbers x)) f.contract None)) (kept_is numbers x fs) ∙ by (nat_eq f.name x) (is_there (numbers x))
  where
    by : (a t : Bool) → or_else (cond (a && t) f.contract None) (cond t (contract_named x fs) None) ≡ cond t (or_else (cond a f.contract None) (contract_named x fs)) None
    by true true = refl
    by true false = refl
    by false true = refl
    by false false = refl

no_else : (o : Option FunctionContract) → or_else o None ≡ o
no_else None = refl
no_else (Some c) = refl

-- what giving leaves of each function is what the definition moves to it
given_is : (numbers : ℕ → Option (List ℕ)) (all : List Function) → ((x : ℕ) → numbers x ≡ defined_numbers x all) → (f : Function) → (is_definition f ≡ true → is_there (definition_of f.name all) ≡ true)
    → given_contract (λ x. cond (is_there (numbers x)) (contract_named x all) None) (left_contract numbers f) ≡ with_contract all f
given_is numbers all told f defined = (λ i. given_contract (λ x. cond (there x i) (contract_named x all) None) (record f { contract = cond (there f.name i) None f.contract })) ∙ by (is_definition f) (is_there (definition_of f.name all)) refl defined
  where
    there : (x : ℕ) → is_there (numbers x) ≡ is_there (definition_of x all)
    there x = ap is_there (told x) ∙ numbers_there x all

    by : (d t : Bool) → is_definition f ≡ d → (d ≡ true → t ≡ true)
        → cond d (record f { contract = or_else (cond t (contract_named f.name all) None) (cond t None f.contract) }) (record f { contract = cond t None f.contract })
        ≡ record f { contract = cond t (cond d (contract_named f.name all) None) f.contract }
    by true true e h = ap (λ (o : Option FunctionContract). record f { contract = o }) (no_else (contract_named f.name all))
    by true false e h = let no : false ≡ true = h refl in absurd cc
    by false true e h = refl
    by false false e h = refl

-- ---- what is kept, function by function

abbrev pub numbers_from : Option (List ℕ) → List Function → ℕ → Option (List ℕ)
numbers_from o [] x = o
numbers_from o (f ∷ fs) x = numbers_from (or_else o (cond (is_definition f && nat_eq f.name x) (Some (numbers_of_parameters f.params)) None)) fs x

numbers_kept : (ns : List ℕ) (fs : List Function) (x : ℕ) → numbers_from (Some ns) fs x ≡ Some ns
numbers_kept ns [] x = refl
numbers_kept ns (f ∷ fs) x = numbers_kept ns fs x

pub no_function : (fs : List Func) → length fs < 1 → fs ≡ []
no_function [] h = refl
no_function (f ∷ fs) h = absurd (omega (arith, h))

-- those of the first definition
pub all_numbers : (fs : List Function) (x : ℕ) → numbers_from None fs x ≡ defined_numbers x fs
all_numbers [] x = refl
all_numbers (f ∷ fs) x = by (is_definition f && nat_eq f.name x) (all_numbers fs x)
  where
    by : (t : Bool) → numbers_from None fs x ≡ defined_numbers x fs
        → numbers_from (cond t (Some (numbers_of_parameters f.params)) None) fs x ≡ cond t (Some (numbers_of_parameters f.params)) (defined_numbers x fs)
    by true rest = numbers_kept (numbers_of_parameters f.params) fs x
    by false rest = rest

-- ---- one more function

pub mapped_more : {X A : Type 0} (plain : X → A) (g : A → A) (xs xs' ys ys' : List X) (x y : X) → xs' ≡ xs ++ x ∷ [] → ys' ≡ ys ++ y ∷ [] → map plain ys ≡ map g (map plain xs) → plain y ≡ g (plain x)
    → map plain ys' ≡ map g (map plain xs')
mapped_more plain g xs xs' ys ys' x y ex ey before is =
    ap (map plain) ey ∙ map-append plain ys (y ∷ []) ∙ (λ i. before i ++ is i ∷ [])
    ∙ sym (ap (λ l. map g (map plain l)) ex ∙ ap (map g) (map-append plain xs (x ∷ [])) ∙ map-append g (map plain xs) (plain x ∷ []))

or_else_in_turn : (a b c : Option FunctionContract) → or_else (or_else a b) c ≡ or_else a (or_else b c)
or_else_in_turn None b c = refl
or_else_in_turn (Some x) b c = refl

named_snoc : (numbers : ℕ → Option (List ℕ)) (fs : List Function) (f : Function) (x : ℕ) → named_contracts numbers (fs ++ f ∷ []) x ≡ kept_contract numbers (named_contracts numbers fs) f x
named_snoc numbers [] f x = no_else (cond (nat_eq f.name x && is_there (numbers x)) f.contract None)
named_snoc numbers (g ∷ fs) f x =
    ap (or_else (cond (nat_eq g.name x && is_there (numbers x)) g.contract None)) (named_snoc numbers fs f x)
    ∙ sym (or_else_in_turn (cond (nat_eq g.name x && is_there (numbers x)) g.contract None) (named_contracts numbers fs x) (cond (nat_eq f.name x && is_there (numbers x)) f.contract None))

pub named_more : (numbers : ℕ → Option (List ℕ)) (old new : ℕ → Option FunctionContract) (fs fs' : List Func) (f : Func) → fs' ≡ fs ++ f ∷ [] → ((x : ℕ) → old x ≡ named_contracts numbers (map plain_func fs) x)
    → ((x : ℕ) → new x ≡ kept_contract numbers old (plain_func f) x) → (x : ℕ) → new x ≡ named_contracts numbers (map plain_func fs') x
named_more numbers old new fs fs' f grown before now x =
    now x ∙ ap (λ o. or_else o (cond (nat_eq f.name x && is_there (numbers x)) (plain_func f).contract None)) (before x)
    ∙ sym (named_snoc numbers (map plain_func fs) (plain_func f) x) ∙ ap (λ l. named_contracts numbers l x) (sym (ap (map plain_func) grown ∙ map-append plain_func fs (f ∷ [])))

defines_snoc : (x : ℕ) (fs : List Function) (f : Function) → defines x (fs ++ f ∷ []) ≡ cond (is_definition f && nat_eq f.name x) true (defines x fs)
defines_snoc x [] f = refl
defines_snoc x (g ∷ fs) f = ap (cond (is_definition g && nat_eq g.name x) true) (defines_snoc x fs f) ∙ by (is_definition g && nat_eq g.name x) (is_definition f && nat_eq f.name x)
  where
    by : (a b : Bool) → cond a true (cond b true (defines x fs)) ≡ cond b true (cond a true (defines x fs))
    by true true = refl
    by true false = refl
    by false b = refl

-- a definition has none of its name before it
once_before : (before fs : List Function) (f : Function) → IsDefinedOnce (before ++ f ∷ fs) → is_definition f ≡ true → defines f.name before ≡ false
once_before [] fs f h d = refl
once_before (g ∷ before) fs f h d = by (is_definition g) (nat_eq g.name f.name) refl refl (once_before before fs f h.1 d)
  where
    defined : (bs : List Function) → defines f.name (bs ++ f ∷ fs) ≡ true
    defined [] = let same : nat_eq f.name f.name ≡ true = grind (arith, nat_tests) in ap (λ t. cond (t && nat_eq f.name f.name) true (defines f.name fs)) d ∙ ap (λ t. cond t true (defines f.name fs)) same
    defined (b ∷ bs) = ap (cond (is_definition b && nat_eq b.name f.name) true) (defined bs) ∙ always (is_definition b && nat_eq b.name f.name)
      where
        always : (t : Bool) → cond t true true ≡ true
        always true = refl
        always false = refl

    by : (a b : Bool) → is_definition g ≡ a → nat_eq g.name f.name ≡ b → defines f.name before ≡ false → cond (a && b) true (defines f.name before) ≡ false
    by true true y z rest =
        let same : g.name ≡ f.name = grind (arith, nat_tests) in
        let none : defines f.name (before ++ f ∷ fs) ≡ false = ap (λ x. defines x (before ++ f ∷ fs)) (sym same) ∙ h.0 y in
        let no : true ≡ false = sym (defined before) ∙ none in
        absurd cc
    by true false y z rest = rest
    by false b y z rest = rest

-- what a definition is given of what is left is what it is given of all
module _ (first old new : ℕ → Option FunctionContract) (all : List Function) (before after : List Func) (before' : List Func) (f : Func) (is : all ≡ map plain_func before ++ plain_func f ∷ map plain_func after)
    (grown : before' ≡ before ++ f ∷ []) (once : IsDefinedOnce all) (kept : (x : ℕ) → old x ≡ cond (defines x (map plain_func before)) None (first x)) (now : (x : ℕ) → new x ≡ without_named old (plain_func f) x)
  where
    pub given_same : given_contract old (plain_func f) ≡ given_contract first (plain_func f)
    given_same = by (is_definition (plain_func f)) refl
      where
        by : (d : Bool) → is_definition (plain_func f) ≡ d
            → cond d (record (plain_func f) { contract = or_else (old f.name) (plain_func f).contract }) (plain_func f) ≡ cond d (record (plain_func f) { contract = or_else (first f.name) (plain_func f).contract }) (plain_func f)
        by true e =
            let none = once_before (map plain_func before) (map plain_func after) (plain_func f) (subst IsDefinedOnce is once) e in
            ap (λ o. record (plain_func f) { contract = or_else o (plain_func f).contract }) (kept f.name ∙ ap (λ t. cond t None (first f.name)) none)
        by false e = refl

    pub kept_less : (x : ℕ) → new x ≡ cond (defines x (map plain_func before')) None (first x)
    kept_less x =
        now x ∙ ap (λ o. cond (is_definition (plain_func f) && nat_eq f.name x) None o) (kept x) ∙ by (is_definition (plain_func f) && nat_eq f.name x) (defines x (map plain_func before))
        ∙ ap (λ t. cond t None (first x)) (sym (ap (λ l. defines x l) (ap (map plain_func) grown ∙ map-append plain_func before (f ∷ [])) ∙ defines_snoc x (map plain_func before) (plain_func f)))
      where
        by : (a b : Bool) → cond a None (cond b None (first x)) ≡ cond (cond a true b) None (first x)
        by true b = refl
        by false b = refl

-- ---- all of them

left_once : (numbers : ℕ → Option (List ℕ)) (fs : List Function) → IsDefinedOnce fs → IsDefinedOnce (map (left_contract numbers) fs)
left_once numbers [] h = tt
left_once numbers (f ∷ fs) h = (λ e. same f.name fs ∙ h.0 e, left_once numbers fs h.1)
  where
    same : (x : ℕ) (gs : List Function) → defines x (map (left_contract numbers) gs) ≡ defines x gs
    same x [] = refl
    same x (g ∷ gs) = ap (cond (is_definition g && nat_eq g.name x) true) (same x gs)

pub once_left : (numbers : ℕ → Option (List ℕ)) (fs gs : List Function) → gs ≡ map (left_contract numbers) fs → IsDefinedOnce fs → IsDefinedOnce gs
once_left numbers fs gs is h = subst IsDefinedOnce (sym is) (left_once numbers fs h)

-- a definition among functions makes its name a defined one
defined_among : (all fs : List Function) (f : Function) → ((x : ℕ) → is_there (definition_of x fs) ≡ true → is_there (definition_of x all) ≡ true) → is_definition f ≡ true → is_there (definition_of f.name (f ∷ fs)) ≡ true
defined_among all fs f h d =
    let same : nat_eq f.name f.name ≡ true = grind (arith, nat_tests) in
    ap (λ t. is_there (cond (t && nat_eq f.name f.name) (Some f.place.offset) (definition_of f.name fs))) d ∙ ap (λ t. is_there (cond t (Some f.place.offset) (definition_of f.name fs))) same

module _ (numbers : ℕ → Option (List ℕ)) (kept : ℕ → Option FunctionContract) (all : List Function) (told : (x : ℕ) → numbers x ≡ defined_numbers x all) (has : (x : ℕ) → kept x ≡ named_contracts numbers all x)
  where
    each_given : (fs : List Function) → ((f : Function) → IsAmong f fs → is_definition f ≡ true → is_there (definition_of f.name all) ≡ true) → map (given_contract kept) (map (left_contract numbers) fs) ≡ map (with_contract all) fs
    each_given [] h = refl
    each_given (f ∷ fs) h =
        (λ i. given_contract (λ x. (has x ∙ kept_is numbers x all) i) (left_contract numbers f) ∷ map (given_contract kept) (map (left_contract numbers) fs))
        ∙ (λ i. given_is numbers all told f (h f (inl refl)) i ∷ each_given fs (λ g m. h g (inr m)) i)

    pub all_given : (gs hs : List Function) → gs ≡ map (left_contract numbers) all → hs ≡ map (given_contract kept) gs → hs ≡ with_contracts all
    all_given gs hs left given = given ∙ ap (map (given_contract kept)) left ∙ each_given all (λ f m d. there all f m d)
      where
        there : (fs : List Function) (f : Function) → IsAmong f fs → is_definition f ≡ true → is_there (definition_of f.name fs) ≡ true
        there [] f m d = absurd m
        there (g ∷ fs) f (inl e) d = subst (λ (g : Function). is_there (definition_of f.name (g ∷ fs)) ≡ true) (sym e) (defined_among fs fs f (λ x h. h) d)
        there (g ∷ fs) f (inr m) d = by (is_definition g && nat_eq g.name f.name) (there fs f m d)
          where
            by : (t : Bool) → is_there (definition_of f.name fs) ≡ true → is_there (cond t (Some g.place.offset) (definition_of f.name fs)) ≡ true
            by true h = refl
            by false h = h
