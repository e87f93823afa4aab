-- What is kept of functions tells of their names what the file does.
use Rattle.std.proofs.Common.{◌≡◌, ℕ, refl, sym, ap, ◌∙◌, List, [], ◌∷◌, ◌++◌, map, Option, Some, None, Bool, true, false, not, ◌&&◌, ◌||◌, cond, nat_eq, arith}
use Rattle.std.proofs.lemmas.Bool.Decides.{nat_tests}
use Rattle.c_syntax.specs.declared.place.Place.{Place}
use Rattle.c_syntax.specs.declared.types.CInt.{CInt}
use Rattle.c_syntax.specs.declared.types.CInt.TheVariants.{I8, U8, I16, U16, I32, U32, I64, U64}
use Rattle.c_syntax.specs.Ctypes.{PlainType, Void, Int, Ptr, Array, Struct, Named, StructTag, EnumTag, PlainLength, Left, Written, Count}
use Rattle.c_syntax.specs.Programs.{Function}
use Rattle.c_model.specs.Meaning.{is_definition}
use Rattle.c_model.specs.Library.{is_there}
use Rattle.c_model.specs.ExpressionTyping.{Signature, function_called, same_int, same_length, same_type}
use Rattle.c_model.specs.UnitTyping.{definition_of, first_declaration, number_or, types_of, signature, same_signature, same_types, is_compatible, is_compatible_with_all}
use Rattle.c_model.proofs.TypedParts.{same_type_is}
use Rattle.c_function_rules.specs.declared.heading.Callee.{Callee}
use Rattle.c_function_rules.specs.declared.heading.Noted.{Noted}
use Rattle.c_function_rules.specs.Functions.{first_named, denoted_by, denoted, told, was_defined, alike_with, known, is_alike, with_known, fits_earlier, declared}

-- ---- what names denote

-- what a name denotes after these functions
abbrev pub told_from : Option Callee → List Function → ℕ → Option Callee
told_from o [] x = o
told_from o (f ∷ fs) x = told_from (cond (nat_eq f.name x) (told o f) o) fs x

-- what is known first stays, save that a definition takes the place of a prototype
abbrev better : Callee → Option Callee → Option Callee
better d None = Some d
better d (Some e) = cond e.defined (Some e) (Some d)

abbrev then_denoted : Option Callee → Option Callee → Option Callee
then_denoted None e = e
then_denoted (Some d) e = cond d.defined (Some d) (better d e)

abbrev numbered : ℕ → Bool → Callee
numbered n defined = record { decl = n; defined = defined }

-- what one more function tells, by whether it is a definition
abbrev told_by : Option Callee → ℕ → Bool → Option Callee
told_by None n b = Some (numbered n b)
told_by (Some d) n b = cond (b && not d.defined) (Some (numbered n b)) (Some d)

told_by_is : (o : Option Callee) (f : Function) → told o f ≡ told_by o f.place.offset (is_definition f)
told_by_is None f = refl
told_by_is (Some d) f = refl

then_none : (o : Option Callee) → o ≡ then_denoted o None
then_none None = refl
then_none (Some d) = by d.defined
  where
    by : (b : Bool) → Some d ≡ cond b (Some d) (Some d)
    by true = refl
    by false = refl

module _ (f : Function) (n : Option ℕ) (g : Option Function)
  where
    told_more : (m : ℕ) (t b : Bool) → then_denoted (told_by (Some (numbered m t)) f.place.offset b) (denoted_by n g) ≡ then_denoted (Some (numbered m t)) (denoted_by (cond b (Some f.place.offset) n) (Some f))
    told_more m true true = refl
    told_more m true false = refl
    told_more m false true = refl
    told_more m false false = by n g
      where
        by : (n : Option ℕ) (g : Option Function) → better (numbered m false) (denoted_by n g) ≡ better (numbered m false) (denoted_by n (Some f))
        by (Some k) g = refl
        by None None = refl
        by None (Some h) = refl

    told_first : (b : Bool) → then_denoted (Some (numbered f.place.offset b)) (denoted_by n g) ≡ denoted_by (cond b (Some f.place.offset) n) (Some f)
    told_first true = refl
    told_first false = by n g
      where
        by : (n : Option ℕ) (g : Option Function) → better (numbered f.place.offset false) (denoted_by n g) ≡ denoted_by n (Some f)
        by (Some k) g = refl
        by None None = refl
        by None (Some h) = refl

    told_one : (o : Option Callee) (b : Bool) → then_denoted (told_by o f.place.offset b) (denoted_by n g) ≡ then_denoted o (denoted_by (cond b (Some f.place.offset) n) (Some f))
    told_one None b = told_first b
    told_one (Some d) b = told_more d.decl d.defined b

    -- by whether it has the name, and whether it is a definition
    told_step : (o : Option Callee) (t b : Bool) → then_denoted (cond t (told_by o f.place.offset b) o) (denoted_by n g) ≡ then_denoted o (denoted_by (cond (b && t) (Some f.place.offset) n) (cond t (Some f) g))
    told_step o true true = told_one o true
    told_step o true false = told_one o false
    told_step o false true = refl
    told_step o false false = refl

told_is : (fs : List Function) (o : Option Callee) (x : ℕ) → told_from o fs x ≡ then_denoted o (denoted fs x)
told_is [] o x = then_none o
told_is (f ∷ fs) o x =
    told_is fs (cond (nat_eq f.name x) (told o f) o) x ∙ ap (λ u. then_denoted (cond (nat_eq f.name x) u o) (denoted fs x)) (told_by_is o f)
    ∙ told_step f (definition_of x fs) (first_named x fs) o (nat_eq f.name x) (is_definition f)

-- what was told of all functions
pub all_told : (fs : List Function) (x : ℕ) → told_from None fs x ≡ denoted fs x
all_told fs x = told_is fs None x

-- ---- what a declaration tells its callers

-- the number of the first of a name
abbrev first_number : Option Function → ℕ
first_number None = 0
first_number (Some f) = f.place.offset

first_is : (x : ℕ) (fs : List Function) → first_declaration x fs ≡ first_number (first_named x fs)
first_is x [] = refl
first_is x (f ∷ fs) = by (nat_eq f.name x) (first_is x fs)
  where
    by : (b : Bool) → first_declaration x fs ≡ first_number (first_named x fs) → cond b f.place.offset (first_declaration x fs) ≡ first_number (cond b (Some f) (first_named x fs))
    by true e = refl
    by false e = e

-- what a declaration tells its callers, by its definition's number and the first of its name
abbrev told_as : Function → Option ℕ → ℕ → Signature
told_as f n k = record { name = f.name; decl = number_or n k; defined = is_there n; params = types_of f.params; result = f.result }

by_first : (f : Function) (n : Option ℕ) (g : Option Function) → declared (denoted_by n g) f ≡ told_as f n (first_number g)
by_first f (Some n) g = refl
by_first f None None = refl
by_first f None (Some h) = refl

-- what its name denotes is what the file's signature says
pub declared_is : (all : List Function) (f : Function) → declared (denoted all f.name) f ≡ signature all f
declared_is all f = by_first f (definition_of f.name all) (first_named f.name all) ∙ ap (told_as f (definition_of f.name all)) (sym (first_is f.name all))

-- ---- which names are declared

or_false : (b : Bool) → (b || false) ≡ b
or_false true = refl
or_false false = refl

or_three : (a b c : Bool) → (a || (b || c)) ≡ ((a || b) || c)
or_three true b c = refl
or_three false b c = refl

and_true : (b : Bool) → (b && true) ≡ b
and_true true = refl
and_true false = refl

eq_sym : (a b : ℕ) → nat_eq a b ≡ nat_eq b a
eq_sym a b = grind arith

alike_snoc : (g : Function) (fs : List Function) (f : Function) → alike_with g (fs ++ f ∷ []) ≡ (alike_with g fs && cond (nat_eq f.name g.name) (same_signature g f) true)
alike_snoc g [] f = and_true (cond (nat_eq f.name g.name) (same_signature g f) true)
alike_snoc g (h ∷ hs) f = ap (λ b. cond (nat_eq h.name g.name) (same_signature g h) true && b) (alike_snoc g hs f) ∙ by (cond (nat_eq h.name g.name) (same_signature g h) true)
  where
    by : (b : Bool) → (b && (alike_with g hs && cond (nat_eq f.name g.name) (same_signature g f) true)) ≡ ((b && alike_with g hs) && cond (nat_eq f.name g.name) (same_signature g f) true)
    by true = refl
    by false = refl

abbrev noted : Bool → Bool → Noted
noted d a = record { defined = d; alike = a }

module _ (all : List Function) (f : Function)
  where
    abbrev first : List Function → Option Signature
    first gs = function_called f.name (map (signature all) gs)

    -- its own name, with one more function
    known_self : (gs : List Function) → known (gs ++ f ∷ []) f.name ≡ Some (noted (was_defined (known gs f.name) || is_definition f) (is_alike (first gs) (known gs f.name) f))
    known_self [] =
        let same : nat_eq f.name f.name ≡ true = grind (arith, nat_tests) in
        ap (λ b. cond b (Some (noted (is_definition f || false) true)) None) same ∙ ap (λ b. Some (noted b true)) (or_false (is_definition f))
    known_self (g ∷ gs) = by (known_self gs) (nat_eq g.name f.name) (eq_sym f.name g.name)
      where
        by : known (gs ++ f ∷ []) f.name ≡ Some (noted (was_defined (known gs f.name) || is_definition f) (is_alike (first gs) (known gs f.name) f)) → (b : Bool) → nat_eq f.name g.name ≡ b
            → cond b (Some (noted (is_definition g || was_defined (known (gs ++ f ∷ []) f.name)) (alike_with g (gs ++ f ∷ [])))) (known (gs ++ f ∷ []) f.name)
            ≡ Some (noted (was_defined (cond b (Some (noted (is_definition g || was_defined (known gs f.name)) (alike_with g gs))) (known gs f.name)) || is_definition f)
            (is_alike (cond (nat_eq f.name g.name) (Some (signature all g)) (first gs)) (cond b (Some (noted (is_definition g || was_defined (known gs f.name)) (alike_with g gs))) (known gs f.name)) f))
        by so true e =
            ap (λ o. Some (noted (is_definition g || was_defined o) (alike_with g (gs ++ f ∷ [])))) so
            ∙ ap (λ b. Some (noted b (alike_with g (gs ++ f ∷ [])))) (or_three (is_definition g) (was_defined (known gs f.name)) (is_definition f))
            ∙ ap (λ b. Some (noted ((is_definition g || was_defined (known gs f.name)) || is_definition f) b)) (alike_snoc g gs f ∙ ap (λ b. alike_with g gs && cond b (same_signature g f) true) e)
            ∙ ap (λ b. Some (noted ((is_definition g || was_defined (known gs f.name)) || is_definition f)
            (is_alike (cond b (Some (signature all g)) (first gs)) (Some (noted (is_definition g || was_defined (known gs f.name)) (alike_with g gs))) f))) (sym e)
        by so false e = so ∙ ap (λ b. Some (noted (was_defined (known gs f.name) || is_definition f) (is_alike (cond b (Some (signature all g)) (first gs)) (known gs f.name) f))) (sym e)

    -- another name
    known_other : (x : ℕ) → nat_eq f.name x ≡ false → (gs : List Function) → known (gs ++ f ∷ []) x ≡ known gs x
    known_other x e [] = ap (λ b. cond b (Some (noted (is_definition f || false) true)) None) e
    known_other x e (g ∷ gs) = by (known_other x e gs) (nat_eq g.name x) refl
      where
        by : known (gs ++ f ∷ []) x ≡ known gs x → (b : Bool) → nat_eq g.name x ≡ b
            → cond b (Some (noted (is_definition g || was_defined (known (gs ++ f ∷ []) x)) (alike_with g (gs ++ f ∷ [])))) (known (gs ++ f ∷ []) x) ≡ cond b (Some (noted (is_definition g || was_defined (known gs x)) (alike_with g gs))) (known gs x)
        by so true t =
            let other : nat_eq f.name g.name ≡ false = grind (arith, nat_tests, e, t) in
            ap (λ o. Some (noted (is_definition g || was_defined o) (alike_with g (gs ++ f ∷ [])))) so
            ∙ ap (λ b. Some (noted (is_definition g || was_defined (known gs x)) b)) (alike_snoc g gs f ∙ ap (λ b. alike_with g gs && cond b (same_signature g f) true) other ∙ and_true (alike_with g gs))
        by so false t = so

    pub known_snoc : (gs : List Function) (x : ℕ) → with_known (first gs) (known gs) f x ≡ known (gs ++ f ∷ []) x
    known_snoc gs x = by (nat_eq f.name x) refl
      where
        by : (b : Bool) → nat_eq f.name x ≡ b → cond b (Some (noted (was_defined (known gs f.name) || is_definition f) (is_alike (first gs) (known gs f.name) f))) (known gs x) ≡ known (gs ++ f ∷ []) x
        by true e = let same : f.name ≡ x = grind (arith, nat_tests, e) in sym (known_self gs) ∙ ap (known (gs ++ f ∷ [])) same
        by false e = sym (known_other x e gs)

-- ---- types are the same where they are equal

int_sym : (k l : CInt) → same_int k l ≡ same_int l k
int_sym I8 I8 = refl
int_sym I8 U8 = refl
int_sym I8 I16 = refl
int_sym I8 U16 = refl
int_sym I8 I32 = refl
int_sym I8 U32 = refl
int_sym I8 I64 = refl
int_sym I8 U64 = refl
int_sym U8 I8 = refl
int_sym U8 U8 = refl
int_sym U8 I16 = refl
int_sym U8 U16 = refl
int_sym U8 I32 = refl
int_sym U8 U32 = refl
int_sym U8 I64 = refl
int_sym U8 U64 = refl
int_sym I16 I8 = refl
int_sym I16 U8 = refl
int_sym I16 I16 = refl
int_sym I16 U16 = refl
int_sym I16 I32 = refl
int_sym I16 U32 = refl
int_sym I16 I64 = refl
int_sym I16 U64 = refl
int_sym U16 I8 = refl
int_sym U16 U8 = refl
int_sym U16 I16 = refl
int_sym U16 U16 = refl
int_sym U16 I32 = refl
int_sym U16 U32 = refl
int_sym U16 I64 = refl
int_sym U16 U64 = refl
int_sym I32 I8 = refl
int_sym I32 U8 = refl
int_sym I32 I16 = refl
int_sym I32 U16 = refl
int_sym I32 I32 = refl
int_sym I32 U32 = refl
int_sym I32 I64 = refl
int_sym I32 U64 = refl
int_sym U32 I8 = refl
int_sym U32 U8 = refl
int_sym U32 I16 = refl
int_sym U32 U16 = refl
int_sym U32 I32 = refl
int_sym U32 U32 = refl
int_sym U32 I64 = refl
int_sym U32 U64 = refl
int_sym I64 I8 = refl
int_sym I64 U8 = refl
int_sym I64 I16 = refl
int_sym I64 U16 = refl
int_sym I64 I32 = refl
int_sym I64 U32 = refl
int_sym I64 I64 = refl
int_sym I64 U64 = refl
int_sym U64 I8 = refl
int_sym U64 U8 = refl
int_sym U64 I16 = refl
int_sym U64 U16 = refl
int_sym U64 I32 = refl
int_sym U64 U32 = refl
int_sym U64 I64 = refl
int_sym U64 U64 = refl

length_sym : (n m : PlainLength) → same_length n m ≡ same_length m n
length_sym (Count n) (Count m) = eq_sym n m
length_sym Left Left = refl
length_sym Left (Count m) = refl
length_sym Left (Written e) = refl
length_sym (Count n) Left = refl
length_sym (Count n) (Written e) = refl
length_sym (Written e) Left = refl
length_sym (Written e) (Count m) = refl
length_sym (Written e) (Written f) = refl

not_named : (u : PlainType) (x : ℕ) → same_type u (Named x) ≡ false
not_named Void x = refl
not_named _ x = refl

not_struct : (u : PlainType) (x : ℕ) (tag : Place) → same_type u (StructTag x tag) ≡ false
not_struct Void x tag = refl
not_struct _ x tag = refl

not_enum : (u : PlainType) (x : ℕ) (at : Place) → same_type u (EnumTag x at) ≡ false
not_enum Void x at = refl
not_enum _ x at = refl

type_sym : (t u : PlainType) → same_type t u ≡ same_type u t
type_sym Void Void = refl
type_sym (Int k) (Int l) = int_sym k l
type_sym (Ptr t) (Ptr u) = type_sym t u
type_sym (Array t n) (Array u m) = (λ i. length_sym n m i && type_sym t u i)
type_sym (Struct n) (Struct m) = eq_sym n m
type_sym (Named x) u = sym (not_named u x)
type_sym (StructTag x tag) u = sym (not_struct u x tag)
type_sym (EnumTag x at) u = sym (not_enum u x at)
type_sym _ Void = refl
type_sym _ _ = refl

and_left : (a b : Bool) → (a && b) ≡ true → a ≡ true
and_left true b e = refl
and_left false b e = absurd cc

and_right : (a b : Bool) → (a && b) ≡ true → b ≡ true
and_right true b e = e
and_right false b e = absurd cc

types_equal : (ts us : List PlainType) → same_types ts us ≡ true → ts ≡ us
types_equal [] [] e = refl
types_equal (t ∷ ts) (u ∷ us) e = (λ i. same_type_is t u (and_left (same_type t u) (same_types ts us) e) i ∷ types_equal ts us (and_right (same_type t u) (same_types ts us) e) i)
types_equal [] (u ∷ us) e = absurd cc
types_equal (t ∷ ts) [] e = absurd cc

types_sym : (ts us : List PlainType) → same_types ts us ≡ same_types us ts
types_sym [] [] = refl
types_sym (t ∷ ts) (u ∷ us) = (λ i. type_sym t u i && types_sym ts us i)
types_sym [] (u ∷ us) = refl
types_sym (t ∷ ts) [] = refl

-- a function of g's type has that of others exactly where g has
same_by : (g f h : Function) → same_signature g f ≡ true → same_signature h f ≡ same_signature g h
same_by g f h e =
    let result = same_type_is g.result f.result (and_left (same_type g.result f.result) (same_types (types_of g.params) (types_of f.params)) e) in
    let params = types_equal (types_of g.params) (types_of f.params) (and_right (same_type g.result f.result) (same_types (types_of g.params) (types_of f.params)) e) in
    (λ i. same_type h.result (sym result i) && same_types (types_of h.params) (sym params i)) ∙ (λ i. type_sym h.result g.result i && types_sym (types_of h.params) (types_of g.params) i)

-- ---- which declarations fit

module _ (all : List Function) (f : Function)
  where
    -- each of f's name has its type
    abbrev types : List Function → Bool
    types [] = true
    types (g ∷ gs) = cond (nat_eq g.name f.name) (same_signature g f) true && types gs

    -- the type, and the definitions: this one, those after it, and the new one
    both_fit : (s t this those new : Bool) → ((s && not (this && new)) && (t && not (new && those))) ≡ ((s && t) && not (new && (this || those)))
    both_fit false t this those new = refl
    both_fit true false true those true = refl
    both_fit true false true those false = refl
    both_fit true false false those new = refl
    both_fit true true true true true = refl
    both_fit true true true false true = refl
    both_fit true true true true false = refl
    both_fit true true true false false = refl
    both_fit true true false those new = refl

    compatible_by : (gs : List Function) → is_compatible_with_all gs f ≡ (types gs && not (is_definition f && was_defined (known gs f.name)))
    compatible_by [] = by (is_definition f)
      where
        by : (b : Bool) → true ≡ not (b && false)
        by true = refl
        by false = refl
    compatible_by (g ∷ gs) = ap (λ b. is_compatible g f && b) (compatible_by gs) ∙ by (nat_eq g.name f.name)
      where
        by : (b : Bool) → (cond b (same_signature g f && not (is_definition g && is_definition f)) true && (types gs && not (is_definition f && was_defined (known gs f.name))))
            ≡ ((cond b (same_signature g f) true && types gs) && not (is_definition f && was_defined (cond b (Some (noted (is_definition g || was_defined (known gs f.name)) (alike_with g gs))) (known gs f.name))))
        by true = both_fit (same_signature g f) (types gs) (is_definition g) (was_defined (known gs f.name)) (is_definition f)
        by false = refl

    -- where f has the type of g, which has its name, the others have f's type exactly where they have g's
    types_by : (g : Function) → g.name ≡ f.name → same_signature g f ≡ true → (gs : List Function) → types gs ≡ alike_with g gs
    types_by g same e [] = refl
    types_by g same e (h ∷ hs) =
        (λ i. cond (nat_eq h.name (sym same i)) (same_by g f h e i) true && types_by g same e hs i)

    first_types : (g : Function) (gs : List Function) → g.name ≡ f.name → (s : Bool) → same_signature g f ≡ s → (s && types gs) ≡ (alike_with g gs && s)
    first_types g gs same true e = types_by g same e gs ∙ sym (and_true (alike_with g gs))
    first_types g gs same false e = by (alike_with g gs)
      where
        by : (b : Bool) → false ≡ (b && false)
        by true = refl
        by false = refl

    -- what is kept of functions tells which of them fit
    pub fits_is : (gs : List Function) → fits_earlier (function_called f.name (map (signature all) gs)) (known gs f.name) f ≡ is_compatible_with_all gs f
    fits_is [] = refl
    fits_is (g ∷ gs) = by (fits_is gs) (nat_eq g.name f.name) refl (eq_sym f.name g.name)
      where
        by : fits_earlier (function_called f.name (map (signature all) gs)) (known gs f.name) f ≡ is_compatible_with_all gs f → (b : Bool) → nat_eq g.name f.name ≡ b → nat_eq f.name g.name ≡ b
            → fits_earlier (cond (nat_eq f.name g.name) (Some (signature all g)) (function_called f.name (map (signature all) gs))) (cond b (Some (noted (is_definition g || was_defined (known gs f.name)) (alike_with g gs))) (known gs f.name)) f
            ≡ (cond b (same_signature g f && not (is_definition g && is_definition f)) true && is_compatible_with_all gs f)
        by so true e t =
            let same : g.name ≡ f.name = grind (arith, nat_tests, e) in
            ap (λ b. fits_earlier (cond b (Some (signature all g)) (function_called f.name (map (signature all) gs))) (Some (noted (is_definition g || was_defined (known gs f.name)) (alike_with g gs))) f) t
            ∙ ap (λ b. b && not (is_definition f && (is_definition g || was_defined (known gs f.name)))) (sym (first_types g gs same (same_signature g f) refl))
            ∙ sym (both_fit (same_signature g f) (types gs) (is_definition g) (was_defined (known gs f.name)) (is_definition f))
            ∙ ap (λ b. (same_signature g f && not (is_definition g && is_definition f)) && b) (sym (compatible_by gs))
        by so false e t = ap (λ b. fits_earlier (cond b (Some (signature all g)) (function_called f.name (map (signature all) gs))) (known gs f.name) f) t ∙ so
