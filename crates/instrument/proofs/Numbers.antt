-- Declarations of a function have numbers of their own, so that none hides another.
use Rattle.std.proofs.Common.{◌≡◌, ℕ, suc, ◌^◌, ◌<◌, ◌≤◌, true, false, nat_eq, nat_le, if◌then◌else◌, List, [], ◌∷◌, ◌++◌, length, map, refl, ap, ◌∙◌, subst, arith}
use Rattle.std.proofs.lemmas.List.{map-append}
use Rattle.std.proofs.lemmas.Bool.{leb-true}
use Rattle.std.proofs.lemmas.Bool.Decides.{nat_tests}
use Rattle.c_syntax.specs.declared.types.CInt.{CInt}
use Rattle.c_syntax.specs.Ctypes.{PlainType}
use Rattle.c_syntax.specs.Programs.{StructType, TranslationUnit}
use Rattle.c_syntax.specs.Statements.{Declaration, Statement, Empty, Eval, Block, If, While, Do, For, Break, Continue, Return, ElsePart, NoElse, Else, ForFirst, NoFirst, First, Declare, Specify, Run, Asserts, BlockItems, NoItem, Then}
use Rattle.c_syntax.specs.Statements.{Labelled, Switch, Cases, NoCase, AnotherCase}
use Rattle.c_syntax.specs.Layouts.{size_of}
use Rattle.c_model.specs.Conversions.{promoted}
use Rattle.c_model.specs.Meaning.{declared_in, declared_first}
use Rattle.c_model.specs.Formed.{number_of, declared_within, declared_in_cases, declared_in_else, declared_in_first, declared_in_items}
use Rattle.c_model.specs.ExpressionTyping.{Sight, inner, with_object, with_objects}
use Rattle.c_model.specs.StatementTyping.{Around, in_loop, in_switch, behind_first}
use Rattle.c_model.specs.TypedTrees.{HasKnownSize, AreDeclared, StatementTyped, CasesTyped, ElseTyped, ItemsTyped, FirstTyped}
use Rattle.track_scopes.specs.Blocks.{AreSmall}
use Rattle.c_effects.specs.Expressions.{global_index}
use Rattle.instrument.proofs.Births.{with_numbers}
use Rattle.instrument.proofs.Declared.{Absent, AreAbsent, AreBorn, CanDeclare, CasesCanDeclare, ElseCanDeclare, ItemsCanDeclare}
use Rattle.instrument.proofs.Own.{AreOwn, AreLocal}
use Rattle.c_model.specs.TextOrder.{Between}

abbrev pub numbers_in : List Declaration → List ℕ
numbers_in ds = map number_of ds

-- ---- numbers that ascend, between these

pub in_bounds : (low high : ℕ) (ns : List ℕ) → Between low ns high → low ≤ high
in_bounds low high [] h = h
in_bounds low high (n ∷ ns) h = let le = in_bounds (suc n) high ns h.1 in omega (arith, le, h.0)

-- two parts, one after the other
pub record IsParted (low : ℕ) (a b : List ℕ) (high : ℕ) : Type 0 where
  pub middle : ℕ
  pub front : Between low a middle
  pub back : Between middle b high

pub parted : (low high : ℕ) (a b : List ℕ) → Between low (a ++ b) high → IsParted low a b high
parted low high [] b h = record { middle = low; front = omega arith; back = h }
parted low high (n ∷ a) b h = let x = parted (suc n) high a b h.1 in record { middle = x.middle; front = (h.0, x.front); back = x.back }

pub parted_in : (low high : ℕ) (ds es : List Declaration) → Between low (numbers_in (ds ++ es)) high → IsParted low (numbers_in ds) (numbers_in es) high
parted_in low high ds es h = parted low high (numbers_in ds) (numbers_in es) (subst (λ l. Between low l high) (map-append number_of ds es) h)

from_lower : (low middle high : ℕ) (ns : List ℕ) → low ≤ middle → Between middle ns high → Between low ns high
from_lower low middle high [] le h = omega (arith, le, h)
from_lower low middle high (n ∷ ns) le h = (omega (arith, le, h.0), h.1)

-- ---- numbers outside an interval

pub data IsOutside (low high x : ℕ) : Type 0 where
  Under : x < low → IsOutside low high x
  Over : high ≤ x → IsOutside low high x

abbrev pub AllOutside : ℕ → ℕ → List ℕ → Type 0
AllOutside low high [] = Unit {0}
AllOutside low high (x ∷ xs) = IsOutside low high x × AllOutside low high xs

narrower : (low low2 high high2 x : ℕ) → low ≤ low2 → high2 ≤ high → IsOutside low high x → IsOutside low2 high2 x
narrower low low2 high high2 x le le2 (Under lt) = Under (omega (arith, le, lt))
narrower low low2 high high2 x le le2 (Over ge) = Over (omega (arith, le2, ge))

pub all_narrower : (low low2 high high2 : ℕ) (xs : List ℕ) → low ≤ low2 → high2 ≤ high → AllOutside low high xs → AllOutside low2 high2 xs
all_narrower low low2 high high2 [] le le2 h = tt
all_narrower low low2 high high2 (x ∷ xs) le le2 h = (narrower low low2 high high2 x le le2 h.0, all_narrower low low2 high high2 xs le le2 h.1)

outside_differs : (low high n x : ℕ) → low ≤ n → n < high → IsOutside low high x → nat_eq x n ≡ false
outside_differs low high n x le lt (Under h) = grind (arith, nat_tests)
outside_differs low high n x le lt (Over h) = grind (arith, nat_tests)

outside_absent : (low high n : ℕ) (xs : List ℕ) → low ≤ n → n < high → AllOutside low high xs → Absent n xs
outside_absent low high n [] le lt h = tt
outside_absent low high n (x ∷ xs) le lt h = (outside_differs low high n x le lt h.0, outside_absent low high n xs le lt h.1)

-- ---- sizes

few_bytes : (n : ℕ) → nat_le n 2147483647 ≡ true → n < 2 ^ 64
few_bytes n e = let le : n ≤ 2147483647 = leb-true n 2147483647 e in omega (arith, le)

-- a type whose size is known
pub known_small : (structs : List StructType) (s : Sight) (t : PlainType) → s.structs ≡ structs → HasKnownSize s t → size_of structs t < 2 ^ 64
known_small structs s t same h = subst (λ l. size_of l t < 2 ^ 64) same (few_bytes (size_of s.structs t) h.small)

small_behind : (structs : List StructType) (a b : List Declaration) → AreSmall structs a → AreSmall structs b → AreSmall structs (a ++ b)
small_behind structs [] b h k = k
small_behind structs (d ∷ a) b h k = (h.0, small_behind structs a b h.1 k)

declared_small : (structs : List StructType) (s : Sight) (ds : List Declaration) → s.structs ≡ structs → AreDeclared s ds → AreSmall structs ds
declared_small structs s [] same k = tt
declared_small structs s (d ∷ ds) same k =
    (known_small structs s d.ctype same k.0.size, declared_small structs (with_object s d) ds same k.1)

pub structs_behind : (s : Sight) (ds : List Declaration) → (with_objects s ds).structs ≡ s.structs
structs_behind s [] = refl
structs_behind s (d ∷ ds) = structs_behind (with_object s d) ds

items_small : (structs : List StructType) (s : Sight) (r : Around) (is : BlockItems) → s.structs ≡ structs → ItemsTyped s r is → AreSmall structs (declared_in is)
items_small structs s r NoItem same q = tt
items_small structs s r (Then (Declare ds) rest) same q =
    small_behind structs ds (declared_in rest) (declared_small structs s ds same q.0) (items_small structs (with_objects s ds) r rest (structs_behind s ds ∙ same) q.1)
items_small structs s r (Then (Specify at t) rest) same q = items_small structs s r rest same q.1
items_small structs s r (Then (Run a) rest) same q = items_small structs s r rest same q.1
items_small structs s r (Then (Asserts annots) rest) same q = items_small structs s r rest same q.1

-- ---- numbers that neither the library nor globals have

pub record IsFree (p : TranslationUnit) (x : ℕ) : Type 0 where
  pub own : nat_eq x 4294967295 ≡ false
  pub local : length p.globals ≤ global_index x p.globals

-- all between these
abbrev pub AllFree : TranslationUnit → ℕ → ℕ → Type 0
AllFree p low high = (x : ℕ) → low ≤ x → x < high → IsFree p x

-- ---- what is declared inside

pub outside_absent_all : (ds : List Declaration) (low high : ℕ) (living : List ℕ) → Between low (numbers_in ds) high → AllOutside low high living → AreAbsent living ds
outside_absent_all [] low high living b h = tt
outside_absent_all (d ∷ ds) low high living b h =
    let n = number_of d in
    let le = in_bounds (suc n) high (numbers_in ds) b.1 in (
      outside_absent low high n living b.0 (omega (arith, le)) h,
      outside_absent_all ds (suc n) high living b.1 (all_narrower low (suc n) high high living (omega (arith, b.0)) (omega arith) h),
    )

pub are_free : (p : TranslationUnit) (ds : List Declaration) (low high : ℕ) → Between low (numbers_in ds) high → AllFree p low high → AreOwn ds × AreLocal p ds
are_free p [] low high b free = (tt, tt)
are_free p (d ∷ ds) low high b free =
    let n = number_of d in
    let le = in_bounds (suc n) high (numbers_in ds) b.1 in
    let first = free n b.0 (omega (arith, le)) in
    let rest = are_free p ds (suc n) high b.1 (λ x from to. free x (omega (arith, from, b.0)) to) in
    ((first.own, rest.0), (first.local, rest.1))

pub are_born : (p : TranslationUnit) (ds : List Declaration) (low high : ℕ) → AreSmall p.structs ds → Between low (numbers_in ds) high → AllFree p low high → AreBorn p ds
are_born p ds low high small b free = let h = are_free p ds low high b free in record { small = small; own = h.0; local = h.1 }

-- numbers of a part of the text in which no global is declared
pub all_free : (p : TranslationUnit) (low high : ℕ) → high ≤ 4294967295 → AllOutside low high (numbers_in p.globals) → AllFree p low high
all_free p low high le apart x from to = record { own = grind (arith, nat_tests); local = no_index p.globals apart }
  where
    no_index : (ds : List Declaration) → AllOutside low high (numbers_in ds) → length ds ≤ global_index x ds
    no_index [] h = omega arith
    no_index (d ∷ ds) h =
        let rest = no_index ds h.1 in
        let other : nat_eq (number_of d) x ≡ false = outside_differs low high x (number_of d) from to h.0 in
        let there : global_index x (d ∷ ds) ≡ suc (global_index x ds) = ap (λ t. if t then 0 else suc (global_index x ds)) other in
        omega (arith, there, rest)

-- the declarations of a block are some of those in its items
own_between : (is : BlockItems) (low high : ℕ) → Between low (numbers_in (declared_in_items is)) high → Between low (numbers_in (declared_in is)) high
own_between NoItem low high h = h
own_between (Then (Declare ds) rest) low high h =
    let x = parted_in low high ds (declared_in_items rest) h in
    joined low x.middle high ds (declared_in rest) x.front (own_between rest x.middle high x.back)
  where
    joined : (low middle high : ℕ) (ds es : List Declaration) → Between low (numbers_in ds) middle → Between middle (numbers_in es) high → Between low (numbers_in (ds ++ es)) high
    joined low middle high [] es a b = from_lower low middle high (numbers_in es) a b
    joined low middle high (d ∷ ds) es a b = (a.0, joined (suc (number_of d)) middle high ds es a.1 b)
own_between (Then (Specify at t) rest) low high h = own_between rest low high h
own_between (Then (Run a) rest) low high h =
    let x = parted_in low high (declared_within a) (declared_in_items rest) h in
    from_lower low x.middle high (numbers_in (declared_in rest)) (in_bounds low x.middle (numbers_in (declared_within a)) x.front) (own_between rest x.middle high x.back)
own_between (Then (Asserts annots) rest) low high h = own_between rest low high h

-- ---- what lives where the items of a block are: numbers outside theirs, and those of the block itself

pub data Either (A B : Type 0) : Type 0 where
  IsFirst : A → Either A B
  IsSecond : B → Either A B

abbrev pub IsOf : ℕ → List Declaration → Type 0
IsOf x [] = ⊥
IsOf x (d ∷ ds) = Either (number_of d ≡ x) (IsOf x ds)

pub data Lives (low high : ℕ) (ds : List Declaration) (x : ℕ) : Type 0 where
  IsFar : IsOutside low high x → Lives low high ds x
  IsOwn : IsOf x ds → Lives low high ds x

abbrev pub AllLive : ℕ → ℕ → List Declaration → List ℕ → Type 0
AllLive low high ds [] = Unit {0}
AllLive low high ds (x ∷ xs) = Lives low high ds x × AllLive low high ds xs

of_outside : (x : ℕ) (ds : List Declaration) (low high low2 : ℕ) → Between low (numbers_in ds) high → low2 ≤ low → IsOf x ds → low2 ≤ x
of_outside x [] low high low2 b le h = absurd h
of_outside x (d ∷ ds) low high low2 b le (IsFirst e) = omega (arith, b.0, le, e)
of_outside x (d ∷ ds) low high low2 b le (IsSecond h) = of_outside x ds (suc (number_of d)) high low2 b.1 (omega (arith, b.0, le)) h

of_below : (x : ℕ) (ds : List Declaration) (low high : ℕ) → Between low (numbers_in ds) high → IsOf x ds → x < high
of_below x [] low high b h = absurd h
of_below x (d ∷ ds) low high b (IsFirst e) = let le = in_bounds (suc (number_of d)) high (numbers_in ds) b.1 in omega (arith, e, le)
of_below x (d ∷ ds) low high b (IsSecond h) = of_below x ds (suc (number_of d)) high b.1 h

of_append : (x : ℕ) (a b : List Declaration) → IsOf x (a ++ b) → Either (IsOf x a) (IsOf x b)
of_append x [] b h = IsSecond h
of_append x (d ∷ a) b (IsFirst e) = IsFirst (IsFirst e)
of_append x (d ∷ a) b (IsSecond h) = by (of_append x a b h)
  where
    by : Either (IsOf x a) (IsOf x b) → Either (IsOf x (d ∷ a)) (IsOf x b)
    by (IsFirst i) = IsFirst (IsSecond i)
    by (IsSecond i) = IsSecond i

-- before the other items, among which the block's other declarations are
module _ (low middle high : ℕ) (le : low ≤ middle) (le2 : middle ≤ high) where
  far_front : (rest : BlockItems) → Between middle (numbers_in (declared_in rest)) high → (xs : List ℕ) → AllLive low high (declared_in rest) xs → AllOutside low middle xs
  far_front rest b [] h = tt
  far_front rest b (x ∷ xs) h = (by h.0, far_front rest b xs h.1)
    where
      by : Lives low high (declared_in rest) x → IsOutside low middle x
      by (IsFar o) = narrower low low high middle x (omega arith) le2 o
      by (IsOwn i) = Over (of_outside x (declared_in rest) middle high middle b (omega arith) i)

  live_back : (ds : List Declaration) (xs : List ℕ) → AllLive low high ds xs → AllLive middle high ds xs
  live_back ds [] h = tt
  live_back ds (x ∷ xs) h = (by h.0, live_back ds xs h.1)
    where
      by : Lives low high ds x → Lives middle high ds x
      by (IsFar o) = IsFar (narrower low middle high high x le (omega arith) o)
      by (IsOwn i) = IsOwn i

  -- after declarations of the block
  live_behind : (ds es : List Declaration) → Between low (numbers_in ds) middle → (xs : List ℕ) → AllLive low high (ds ++ es) xs → AllLive middle high es xs
  live_behind ds es b [] h = tt
  live_behind ds es b (x ∷ xs) h = (by h.0, live_behind ds es b xs h.1)
    where
      split : Either (IsOf x ds) (IsOf x es) → Lives middle high es x
      split (IsFirst i) = IsFar (Under (of_below x ds low middle b i))
      split (IsSecond i) = IsOwn i

      by : Lives low high (ds ++ es) x → Lives middle high es x
      by (IsFar o) = IsFar (narrower low middle high high x le (omega arith) o)
      by (IsOwn i) = split (of_append x ds es i)

-- after the births of a block
outside_live : (low high : ℕ) (ds : List Declaration) (xs : List ℕ) → AllOutside low high xs → AllLive low high ds xs
outside_live low high ds [] h = tt
outside_live low high ds (x ∷ xs) h = (IsFar h.0, outside_live low high ds xs h.1)

born_live : (low high : ℕ) (all : List Declaration) (ds : List Declaration) (xs : List ℕ) → ((x : ℕ) → IsOf x ds → IsOf x all) → AllLive low high all xs → AllLive low high all (with_numbers ds xs)
born_live low high all [] xs among h = h
born_live low high all (d ∷ ds) xs among h = born_live low high all ds (number_of d ∷ xs) (λ x i. among x (IsSecond i)) (IsOwn (among (number_of d) (IsFirst refl)), h)

-- declarations that lie under an interval, and what lived outside it
pub born_outside : (low high low2 high2 : ℕ) (ds : List Declaration) (xs : List ℕ) → Between low2 (numbers_in ds) high2 → high2 ≤ low → AllOutside low high xs → AllOutside low high (with_numbers ds xs)
born_outside low high low2 high2 [] xs b le h = h
born_outside low high low2 high2 (d ∷ ds) xs b le h =
    let top = in_bounds (suc (number_of d)) high2 (numbers_in ds) b.1 in
    born_outside low high (suc (number_of d)) high2 ds (number_of d ∷ xs) b.1 le (Under (omega (arith, top, le)), h)

-- ---- statements

first_between : (first : ForFirst) (low high : ℕ) → Between low (numbers_in (declared_in_first first)) high → Between low (numbers_in (declared_first first)) high
first_between NoFirst low high b = b
first_between (First (Declare ds)) low high b = b
first_between (First (Specify at t)) low high b = b
first_between (First (Run a)) low high b = in_bounds low high (numbers_in (declared_within a)) b
first_between (First (Asserts annots)) low high b = b

first_small : (structs : List StructType) (first : ForFirst) (s : Sight) (r : Around) → s.structs ≡ structs → FirstTyped s r first → AreSmall structs (declared_first first)
first_small structs NoFirst s r same q = tt
first_small structs (First (Declare ds)) s r same q = declared_small structs s ds same q
first_small structs (First (Specify at t)) s r same q = tt
first_small structs (First (Run a)) s r same q = tt
first_small structs (First (Asserts annots)) s r same q = tt

structs_behind_first : (s : Sight) (first : ForFirst) → (behind_first s first).structs ≡ s.structs
structs_behind_first s NoFirst = refl
structs_behind_first s (First (Declare ds)) = structs_behind s ds
structs_behind_first s (First (Specify at t)) = refl
structs_behind_first s (First (Run a)) = refl
structs_behind_first s (First (Asserts annots)) = refl

module _ (p : TranslationUnit) where
  mutual
    pub can_declare : (a : Statement) (s : Sight) (r : Around) (low high : ℕ) (living : List ℕ) → s.structs ≡ p.structs → AllFree p low high → StatementTyped s r a → Between low (numbers_in (declared_within a)) high
        → AllOutside low high living → CanDeclare p living a
    can_declare (Empty at) s r low high living same free q b o = tt
    can_declare (Eval at e) s r low high living same free q b o = tt
    can_declare (Block at is) s r low high living same free q b o =
        let own = declared_in is in (
          are_born p own low high (items_small p.structs (inner s) r is same q) (own_between is low high b) free,
          items_can_declare is (inner s) r low high (with_numbers own living) same free q b (born_live low high own own living (λ x i. i) (outside_live low high own living o)),
        )
    can_declare (If at e x y) s r low high living same free q b o =
        let cut = parted_in low high (declared_within x) (declared_in_else y) b in
        let front = all_narrower low low high cut.middle living (omega arith) (in_bounds cut.middle high (numbers_in (declared_in_else y)) cut.back) o in (
          outside_absent_all (declared_within x) low cut.middle living cut.front front,
          can_declare x s r low cut.middle living same (λ n from to. free n from (omega (arith, to, in_bounds cut.middle high (numbers_in (declared_in_else y)) cut.back))) q.1 cut.front front,
          else_can_declare y s r cut.middle high living same (λ n from to. free n (omega (arith, from, in_bounds low cut.middle (numbers_in (declared_within x)) cut.front)) to) q.2 cut.back
              (all_narrower low cut.middle high high living (in_bounds low cut.middle (numbers_in (declared_within x)) cut.front) (omega arith) o),
        )
    can_declare (While at annots e x) s r low high living same free q b o =
        (outside_absent_all (declared_within x) low high living b o, can_declare x s (in_loop r) low high living same free q.1 b o)
    can_declare (Do at x e) s r low high living same free q b o = (outside_absent_all (declared_within x) low high living b o, can_declare x s (in_loop r) low high living same free q.0 b o)
    can_declare (For at annots first e step x) s r low high living same free q b o =
        let cut = parted_in low high (declared_in_first first) (declared_within x) b in
        let f = first_between first low cut.middle cut.front in
        let outside =
        born_outside cut.middle high low cut.middle (declared_first first) living f (omega arith)
        (all_narrower low cut.middle high high living (in_bounds low cut.middle (numbers_in (declared_in_first first)) cut.front) (omega arith) o) in (
          are_born p (declared_first first) low cut.middle (first_small p.structs first (inner s) r same q.0) f (λ n from to. free n from (omega (arith, to, in_bounds cut.middle high (numbers_in (declared_within x)) cut.back))),
          outside_absent_all (declared_within x) cut.middle high (with_numbers (declared_first first) living) cut.back outside,
          can_declare x (behind_first (inner s) first) (in_loop r) cut.middle high (with_numbers (declared_first first) living) (structs_behind_first (inner s) first ∙ same)
              (λ n from to. free n (omega (arith, from, in_bounds low cut.middle (numbers_in (declared_in_first first)) cut.front)) to) q.3 cut.back outside,
        )
    can_declare (Break at) s r low high living same free q b o = tt
    can_declare (Continue at) s r low high living same free q b o = tt
    can_declare (Return at e) s r low high living same free q b o = tt
    can_declare (Labelled at l x) s r low high living same free q b o = can_declare x s r low high living same free q b o
    can_declare (Switch at e cases) s r low high living same free q b o = cases_can_declare cases s (in_switch r) (promoted q.0) low high living same free q.3 b o

    cases_can_declare : (cs : Cases) (s : Sight) (r : Around) (k : CInt) (low high : ℕ) (living : List ℕ) → s.structs ≡ p.structs → AllFree p low high → CasesTyped s r k cs → Between low (numbers_in (declared_in_cases cs)) high
        → AllOutside low high living → CasesCanDeclare p living cs
    cases_can_declare NoCase s r k low high living same free q b o = tt
    cases_can_declare (AnotherCase at v body rest) s r k low high living same free q b o =
        let cut = parted_in low high (declared_in_items body) (declared_in_cases rest) b in
        let le = in_bounds low cut.middle (numbers_in (declared_in_items body)) cut.front in
        let le2 = in_bounds cut.middle high (numbers_in (declared_in_cases rest)) cut.back in
        let front = all_narrower low low high cut.middle living (omega arith) le2 o in (
          outside_absent_all (declared_in_items body) low cut.middle living cut.front front,
          items_can_declare body s r low cut.middle living same (λ n from to. free n from (omega (arith, to, le2))) q.1 cut.front (outside_live low cut.middle (declared_in body) living front),
          cases_can_declare rest s r k cut.middle high living same (λ n from to. free n (omega (arith, from, le)) to) q.2 cut.back (all_narrower low cut.middle high high living le (omega arith) o),
        )

    pub else_can_declare : (b : ElsePart) (s : Sight) (r : Around) (low high : ℕ) (living : List ℕ) → s.structs ≡ p.structs → AllFree p low high → ElseTyped s r b → Between low (numbers_in (declared_in_else b)) high
        → AllOutside low high living → ElseCanDeclare p living b
    else_can_declare NoElse s r low high living same free q b o = tt
    else_can_declare (Else a) s r low high living same free q b o = can_declare a s r low high living same free q b o

    pub items_can_declare : (is : BlockItems) (s : Sight) (r : Around) (low high : ℕ) (living : List ℕ) → s.structs ≡ p.structs → AllFree p low high → ItemsTyped s r is → Between low (numbers_in (declared_in_items is)) high
        → AllLive low high (declared_in is) living
        → ItemsCanDeclare p living is
    items_can_declare NoItem s r low high living same free q b o = tt
    items_can_declare (Then (Declare ds) rest) s r low high living same free q b o =
        let cut = parted_in low high ds (declared_in_items rest) b in (
          tt,
          items_can_declare rest (with_objects s ds) r cut.middle high living (structs_behind s ds ∙ same) (λ n from to. free n (omega (arith, from, in_bounds low cut.middle (numbers_in (ds)) cut.front)) to) q.1 cut.back
              (live_behind low cut.middle high (in_bounds low cut.middle (numbers_in ds) cut.front) (in_bounds cut.middle high (numbers_in (declared_in_items rest)) cut.back) ds (declared_in rest) cut.front living o),
        )
    items_can_declare (Then (Specify at t) rest) s r low high living same free q b o = (tt, items_can_declare rest s r low high living same free q.1 b o)
    items_can_declare (Then (Run a) rest) s r low high living same free q b o =
        let cut = parted_in low high (declared_within a) (declared_in_items rest) b in
        let le = in_bounds low cut.middle (numbers_in (declared_within a)) cut.front in
        let le2 = in_bounds cut.middle high (numbers_in (declared_in_items rest)) cut.back in
        let far = far_front low cut.middle high le le2 rest (own_between rest cut.middle high cut.back) living o in (
          (outside_absent_all (declared_within a) low cut.middle living cut.front far, can_declare a s r low cut.middle living same (λ n from to. free n from (omega (arith, to, le2))) q.0 cut.front far),
          items_can_declare rest s r cut.middle high living same (λ n from to. free n (omega (arith, from, le)) to) q.1 cut.back (live_back low cut.middle high le le2 (declared_in rest) living o),
        )
    items_can_declare (Then (Asserts annots) rest) s r low high living same free q b o = (tt, items_can_declare rest s r low high living same free q.1 b o)

  -- the items of a body, whose scope is the function's
  pub body_can_declare : (is : BlockItems) (s : Sight) (r : Around) (low high : ℕ) (living : List ℕ) → s.structs ≡ p.structs → AllFree p low high → ItemsTyped s r is → Between low (numbers_in (declared_in_items is)) high → AllOutside low high living
      → AreBorn p (declared_in is) × ItemsCanDeclare p (with_numbers (declared_in is) living) is
  body_can_declare is s r low high living same free q b o =
      let own = declared_in is in (
        are_born p own low high (items_small p.structs s r is same q) (own_between is low high b) free,
        items_can_declare is s r low high (with_numbers own living) same free q b (born_live low high own own living (λ x i. i) (outside_live low high own living o)),
      )
