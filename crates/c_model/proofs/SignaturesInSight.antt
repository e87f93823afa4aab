-- The function that a declaration in sight tells of: the first declaration of a name and its definition have one type (C99 6.7 p4), and the
-- definition is the one with its number.
use Rattle.std.proofs.Common.{◌≡◌, ℕ, suc, ◌≤◌, ◌<◌, Bool, true, false, not, cond, ◌&&◌, if◌then◌else◌, nat_eq, List, [], ◌∷◌, ◌++◌, map, Option, Some, None, refl, sym, ap, ◌∙◌, subst, arith, append_assoc}
use Rattle.std.proofs.lemmas.Bool.Decides.{nat_tests}
use Rattle.c_syntax.specs.Ctypes.{PlainType}
use Rattle.c_syntax.specs.Programs.{Function, TranslationUnit}
use Rattle.c_model.specs.Library.{is_there}
use Rattle.c_model.specs.Meaning.{is_definition, definition_at}
use Rattle.c_model.specs.ExpressionTyping.{Signature, function_called, same_type}
use Rattle.c_model.specs.UnitTyping.{definition_of, first_declaration, number_or, signature, types_of, same_types, same_signature, is_compatible, is_compatible_with_all}
use Rattle.c_model.specs.TextOrder.{Between}
use Rattle.c_model.specs.FileItems.{AreScalar, IsDefined}
use Rattle.c_model.proofs.TypedParts.{and_true, same_type_is}
use Rattle.c_model.proofs.CompatibleFunctions.{AreCompatible}

-- ---- types

same_types_are : (ts us : List PlainType) → same_types ts us ≡ true → ts ≡ us
same_types_are [] [] e = refl
same_types_are (t ∷ ts) (u ∷ us) e =
    let p = and_true (same_type t u) (same_types ts us) e in
    ap (λ x. x ∷ ts) (same_type_is t u p.0) ∙ ap (λ l. u ∷ l) (same_types_are ts us p.1)
same_types_are _ _ e = absurd cc

-- two declarations of one type
pub record SameTypes (h g : Function) : Type 0 where
  pub params : types_of h.params ≡ types_of g.params
  pub result : h.result ≡ g.result

compatible : (h g : Function) (x : ℕ) → h.name ≡ x → g.name ≡ x → is_compatible h g ≡ true → SameTypes h g
compatible h g x e f c =
    let same : nat_eq h.name g.name ≡ true = grind (arith, nat_tests) in
    let p = and_true (same_signature h g) _ (ap (λ t. cond t (same_signature h g && not (is_definition h && is_definition g)) true) (sym same) ∙ c) in
    let q = and_true (same_type h.result g.result) (same_types (types_of h.params) (types_of g.params)) p.0 in
    record { params = same_types_are (types_of h.params) (types_of g.params) q.1; result = same_type_is h.result g.result q.0 }

-- ---- the first declaration of a name

abbrev pub first_declared : ℕ → List Function → Option Function
first_declared x [] = None
first_declared x (f ∷ fs) = cond (nat_eq f.name x) (Some f) (first_declared x fs)

-- what is in sight of a name is its first declaration
pub record IsSigned (all hs : List Function) (x : ℕ) (sig : Signature) : Type 0 where
  pub function : Function
  pub first : first_declared x hs ≡ Some function
  pub is : sig ≡ signature all function
  pub name : function.name ≡ x

pub signed : (all hs : List Function) (x : ℕ) (sig : Signature) → function_called x (map (signature all) hs) ≡ Some sig → IsSigned all hs x sig
signed all [] x sig e = absurd cc
signed all (h ∷ hs) x sig e = by (λ f. signed all hs x sig f) (nat_eq x h.name) refl e
  where
    by : (function_called x (map (signature all) hs) ≡ Some sig → IsSigned all hs x sig) → (t : Bool) → nat_eq x h.name ≡ t → cond t (Some (signature all h)) (function_called x (map (signature all) hs)) ≡ Some sig → IsSigned all (h ∷ hs) x sig
    by rest true g f =
        let same : signature all h ≡ sig = cc in
        let here : nat_eq h.name x ≡ true = grind (arith, nat_tests) in
        record { function = h; first = ap (λ t. cond t (Some h) (first_declared x hs)) here; is = sym same; name = grind (arith, nat_tests) }
    by rest false g f =
        let i = rest f in
        let here : nat_eq h.name x ≡ false = grind (arith, nat_tests) in
        record { function = i.function; first = ap (λ t. cond t (Some h) (first_declared x hs)) here ∙ i.first; is = i.is; name = i.name }

first_more : (x : ℕ) (hs more : List Function) (h : Function) → first_declared x hs ≡ Some h → first_declared x (hs ++ more) ≡ Some h
first_more x [] more h e = absurd cc
first_more x (g ∷ hs) more h e = by (λ f. first_more x hs more h f) (nat_eq g.name x) e
  where
    by : (first_declared x hs ≡ Some h → first_declared x (hs ++ more) ≡ Some h) → (t : Bool) → cond t (Some g) (first_declared x hs) ≡ Some h → cond t (Some g) (first_declared x (hs ++ more)) ≡ Some h
    by rest true f = f
    by rest false f = rest f

-- where a declaration of the name stands in front, one after it has its type
compatible_all : (before : List Function) (g h : Function) (x : ℕ) → g.name ≡ x → is_compatible_with_all before g ≡ true → first_declared x before ≡ Some h → SameTypes h g
compatible_all [] g h x n c e = absurd cc
compatible_all (b ∷ before) g h x n c e =
    let parts = and_true (is_compatible b g) (is_compatible_with_all before g) c in
    by (λ f. compatible_all before g h x n parts.1 f) parts.0 (nat_eq b.name x) refl e
  where
    by : (first_declared x before ≡ Some h → SameTypes h g) → is_compatible b g ≡ true → (t : Bool) → nat_eq b.name x ≡ t → cond t (Some b) (first_declared x before) ≡ Some h → SameTypes h g
    by rest c2 true y f =
        let same : b ≡ h = cc in
        let named : b.name ≡ x = grind (arith, nat_tests) in
        subst (λ i. SameTypes i g) same (compatible b g x named n c2)
    by rest c2 false y f = rest f

pub first_behind : (x : ℕ) (before : List Function) (g h : Function) (fs : List Function) → g.name ≡ x → first_declared x (before ++ (g ∷ fs)) ≡ Some h → is_compatible_with_all before g ≡ true → SameTypes h g
first_behind x before g h fs n e c = by (first_declared x before) refl
  where
    none : (bs : List Function) → first_declared x bs ≡ None → first_declared x (bs ++ (g ∷ fs)) ≡ Some g
    none [] i = let here : nat_eq g.name x ≡ true = grind (arith, nat_tests) in ap (λ t. cond t (Some g) (first_declared x fs)) here
    none (b ∷ bs) i = go (λ j. none bs j) (nat_eq b.name x) i
      where
        go : (first_declared x bs ≡ None → first_declared x (bs ++ (g ∷ fs)) ≡ Some g) → (t : Bool) → cond t (Some b) (first_declared x bs) ≡ None → cond t (Some b) (first_declared x (bs ++ (g ∷ fs))) ≡ Some g
        go rest true j = absurd cc
        go rest false j = rest j

    by : (o : Option Function) → first_declared x before ≡ o → SameTypes h g
    by None i =
        let one : Some g ≡ Some h = sym (none before i) ∙ e in
        let same : g ≡ h = cc in
        subst (λ f. SameTypes f g) same (record { params = refl; result = refl })
    by (Some f) i =
        let one : Some f ≡ Some h = sym (first_more x before (g ∷ fs) f i) ∙ e in
        let same : f ≡ h = cc in
        compatible_all before g h x n c (i ∙ ap Some same)

-- ---- the definition of a name, which is the one with its number

abbrev pub offsets_of : List Function → List ℕ
offsets_of fs = map (λ (f : Function). f.place.offset) fs

record IsFound (low high x n : ℕ) (fs : List Function) (h : Function) : Type 0 where
  definition : Function
  found : definition_at n fs ≡ Some definition
  types : SameTypes h definition
  name : definition.name ≡ x
  least : low ≤ n
  below : n < high

between_low : (low : ℕ) (ns : List ℕ) (high : ℕ) → Between low ns high → low ≤ high
between_low low [] high h = h
between_low low (n ∷ ns) high h = let l = between_low (suc n) ns high h.1 in omega (arith, h.0, l)

found : (before fs : List Function) (x n low high : ℕ) (h : Function) → AreCompatible before fs → Between low (offsets_of fs) high → first_declared x (before ++ fs) ≡ Some h → definition_of x fs ≡ Some n
    → IsFound low high x n fs h
found before [] x n low high h t a first e = absurd cc
found before (g ∷ fs) x n low high h t a first e =
    by (λ f. found (before ++ g ∷ []) fs x n (suc g.place.offset) high h t.1 a.1 (ap (first_declared x) (append_assoc before (g ∷ []) fs) ∙ first) f) (is_definition g) (nat_eq g.name x) refl refl e
  where
    skipped : (b c : Bool) → c ≡ false → (if b && c then Some g else definition_at n fs) ≡ definition_at n fs
    skipped true c z = ap (λ c. if c then Some g else definition_at n fs) z
    skipped false c z = refl

    later : (definition_of x fs ≡ Some n → IsFound (suc g.place.offset) high x n fs h) → definition_of x fs ≡ Some n → IsFound low high x n (g ∷ fs) h
    later rest f =
        let i = rest f in
        let ge = i.least in
        let least = a.0 in
        let apart : nat_eq g.place.offset n ≡ false = grind (arith, nat_tests) in
        record { definition = i.definition; found = skipped (is_definition g) (nat_eq g.place.offset n) apart ∙ i.found; types = i.types; name = i.name; least = omega (arith, least, ge); below = i.below }

    by : (definition_of x fs ≡ Some n → IsFound (suc g.place.offset) high x n fs h) → (c d : Bool)
        → is_definition g ≡ c → nat_eq g.name x ≡ d → cond (c && d) (Some g.place.offset) (definition_of x fs) ≡ Some n → IsFound low high x n (g ∷ fs) h
    by rest true true y z f =
        let number : g.place.offset ≡ n = cc in
        let named : g.name ≡ x = grind (arith, nat_tests) in
        let here : nat_eq g.place.offset n ≡ true = grind (arith, nat_tests) in
        let least = a.0 in
        let end = between_low (suc g.place.offset) (offsets_of fs) high a.1 in
        record {
          definition = g;
          found = ap (λ c. if c && nat_eq g.place.offset n then Some g else definition_at n fs) y ∙ ap (λ d. if d then Some g else definition_at n fs) here;
          types = first_behind x before g h fs named first t.0;
          name = named;
          least = omega (arith, least, number);
          below = omega (arith, end, number);
        }
    by rest true false y z f = later rest f
    by rest false d y z f = later rest f

-- ---- functions in sight

-- functions whose parameters are scalar
abbrev pub HaveScalars : List Function → Type 0
HaveScalars [] = Unit {0}
HaveScalars (f ∷ fs) = AreScalar (types_of f.params) × HaveScalars fs

first_scalar : (x : ℕ) (fs : List Function) (h : Function) → HaveScalars fs → first_declared x fs ≡ Some h → AreScalar (types_of h.params)
first_scalar x [] h k e = absurd cc
first_scalar x (f ∷ fs) h k e = by (λ g. first_scalar x fs h k.1 g) (nat_eq f.name x) e
  where
    by : (first_declared x fs ≡ Some h → AreScalar (types_of h.params)) → (t : Bool) → cond t (Some f) (first_declared x fs) ≡ Some h → AreScalar (types_of h.params)
    by rest true g = let same : f ≡ h = cc in subst (λ (f : Function). AreScalar (types_of f.params)) same k.0
    by rest false g = rest g

-- what each function that is in sight tells, where these are the first ones of the file
pub in_sight : (p : TranslationUnit) → AreCompatible [] p.funcs → Between 0 (offsets_of p.funcs) 4294967295 → HaveScalars p.funcs → (hs more : List Function) → hs ++ more ≡ p.funcs
    → (x : ℕ) (g : Signature) → function_called x (map (signature p.funcs) hs) ≡ Some g → g.defined ≡ true → IsDefined p x g
in_sight p c b k hs more whole x g e d = by (definition_of x p.funcs) refl
  where
    i : IsSigned p.funcs hs x g
    i = signed p.funcs hs x g e

    first : first_declared x p.funcs ≡ Some i.function
    first = ap (first_declared x) (sym whole) ∙ first_more x hs more i.function i.first

    there : is_there (definition_of x p.funcs) ≡ true
    there = ap (λ n. is_there (definition_of n p.funcs)) (sym i.name) ∙ ap (λ (h : Signature). h.defined) (sym i.is) ∙ d

    params : g.params ≡ types_of i.function.params
    params = ap (λ (h : Signature). h.params) i.is

    by : (o : Option ℕ) → definition_of x p.funcs ≡ o → IsDefined p x g
    by None n = let none : is_there (definition_of x p.funcs) ≡ false = ap is_there n in let some = there in absurd cc
    by (Some n) h =
        let f = found [] p.funcs x n 0 4294967295 i.function c b first h in
        let number : g.decl ≡ n =
        ap (λ (h : Signature). h.decl) i.is
        ∙ ap (λ x. number_or (definition_of x p.funcs) (first_declaration x p.funcs)) i.name
        ∙ ap (λ o. number_or o (first_declaration x p.funcs)) h in
        let below = f.below in
        record {
          function = f.definition;
          at = ap (λ n. definition_at n p.funcs) number ∙ f.found;
          own = grind (arith, nat_tests);
          name = f.name;
          params = params ∙ f.types.params;
          scalar = subst AreScalar (sym params) (first_scalar x p.funcs i.function k first);
          result = ap (λ (h : Signature). h.result) i.is ∙ f.types.result;
        }
