-- The number of the first object with each declaration, and what is found by it.
use Rattle.std.proofs.Common.{◌≡◌, ℕ, zero, suc, ◌<◌, List, [], ◌∷◌, ◌++◌, refl, sym, ap, ◌∙◌, subst, arith, length, take, cond, nat_eq, get_or, Bool, true, false, Option, Some, None, option_map}
use Rattle.std.proofs.lemmas.Bool.Decides.{nat_tests}
use Rattle.std.specs.Map.{lookup}
use Rattle.std.specs.Prelude.{Result, Ok, Err, OnOk}
use Rattle.c_model.specs.ExpressionTyping.{Entity, Object, AnObject, AnEnumerator, or_else}
use Rattle.c_scopes.specs.declared.declarations.Declared.{Declared}
use Rattle.c_scopes.specs.Firsts.{IsNoted}
use Rattle.c_scopes.specs.Newest.{entities_of, entity_of}
use Rattle.c_scopes.specs.Objects.{AreFirstObjects, NotesObject, ForgetsObject, object_in, object_with, object_number, decl_in}
use Rattle.c_scopes.proofs.Newest.{count_is, entity_at}

-- ---- an object that is found

-- the entity of this number is the first object with the declaration
pub record IsFirst (x : ℕ) (es : List Entity) (n : ℕ) : Type 0 where
  pub within : n < length es
  pub is : (e : Entity) → e ≡ get_or es n e → object_in e ≡ object_with x es

module _ (x : ℕ)
  where
    later : (e : Entity) (es : List Entity) → object_with x (e ∷ es) ≡ object_with x es → ((m : ℕ) → object_number x es ≡ Some m → IsFirst x es m) → (o : Option ℕ) → object_number x es ≡ o → (n : ℕ) → option_map suc o ≡ Some n
        → IsFirst x (e ∷ es) n
    later e es same go None eo n j = absurd cc
    later e es same go (Some m) eo n j =
        let z : suc m ≡ n = cc in
        let is = go m eo in
        subst (IsFirst x (e ∷ es)) z record {
          within = omega (arith, is.within);
          is = λ f at. is.is f at ∙ sym same;
        }

    here : (b : Object) (es : List Entity) → nat_eq b.decl x ≡ true → (n : ℕ) → Some 0 ≡ Some n → IsFirst x (AnObject b ∷ es) n
    here b es t zero j = record {
      within = omega arith;
      is = λ f at. ap object_in at ∙ ap (λ c. cond c (Some b) (object_with x es)) (sym t);
    }
    here b es t (suc n) j = absurd cc

    pub first_is : (es : List Entity) (n : ℕ) → object_number x es ≡ Some n → IsFirst x es n
    first_is [] n j = absurd cc
    first_is (AnEnumerator c ∷ es) n j = later (AnEnumerator c) es refl (first_is es) (object_number x es) refl n j
    first_is (AnObject b ∷ es) n j = by (first_is es) (nat_eq b.decl x) refl j
      where
        by : ((m : ℕ) → object_number x es ≡ Some m → IsFirst x es m) → (t : Bool) → nat_eq b.decl x ≡ t → cond t (Some 0) (option_map suc (object_number x es)) ≡ Some n → IsFirst x (AnObject b ∷ es) n
        by go true t i = here b es t n i
        by go false t i = later (AnObject b) es (ap (λ c. cond c (Some b) (object_with x es)) t) go (object_number x es) refl n i

    pub none_first : (es : List Entity) → object_number x es ≡ None → object_with x es ≡ None
    none_first [] j = refl
    none_first (AnEnumerator c ∷ es) j = by (none_first es) (object_number x es) refl j
      where
        by : (object_number x es ≡ None → object_with x es ≡ None) → (o : Option ℕ) → object_number x es ≡ o → option_map suc o ≡ None → object_with x es ≡ None
        by go None eo i = go eo
        by go (Some m) eo i = absurd cc
    none_first (AnObject b ∷ es) j = by (none_first es) (nat_eq b.decl x) (object_number x es) refl j
      where
        by : (object_number x es ≡ None → object_with x es ≡ None) → (t : Bool) (o : Option ℕ) → object_number x es ≡ o → cond t (Some 0) (option_map suc o) ≡ None → cond t (Some b) (object_with x es) ≡ None
        by go true o eo i = absurd cc
        by go false None eo i = go eo
        by go false (Some m) eo i = absurd cc

-- ---- by the firsts that are kept

module _ (ds : List Declared) (firsts : List (ℕ × ℕ)) (x : ℕ) (are : AreFirstObjects (entities_of ds) firsts) where
  pub object_within : (n : ℕ) → Some n ≡ lookup (nat_eq x) firsts → n < length ds
  object_within n e = let lt = (first_is x (entities_of ds) n (sym (are x) ∙ sym e)).within in omega (arith, lt, count_is ds)

  pub object_found : (n : ℕ) (d : Declared) → Some n ≡ lookup (nat_eq x) firsts → d ≡ get_or ds n d → object_in (entity_of d) ≡ object_with x (entities_of ds)
  object_found n d e at = (first_is x (entities_of ds) n (sym (are x) ∙ sym e)).is (entity_of d) (ap entity_of at ∙ sym (entity_at ds n d))

  pub no_object : None ≡ lookup (nat_eq x) firsts → None ≡ object_with x (entities_of ds)
  no_object e = sym (none_first x (entities_of ds) (sym (are x) ∙ sym e))

-- ---- one more

-- the number of one of this declaration
abbrev number_here : ℕ → ℕ → Option ℕ → Option ℕ
number_here x n None = None
number_here x n (Some k) = cond (nat_eq k x) (Some n) None

next : (b : Bool) (n : ℕ) → option_map suc (cond b (Some n) None) ≡ cond b (Some (suc n)) None
next true n = refl
next false n = refl

next_or : (o p q : Option ℕ) → option_map suc p ≡ q → option_map suc (or_else o p) ≡ or_else (option_map suc o) q
next_or (Some m) p q e = refl
next_or None p q e = e

next_here : (x n : ℕ) (decl : Option ℕ) → option_map suc (number_here x n decl) ≡ number_here x (suc n) decl
next_here x n None = refl
next_here x n (Some k) = next (nat_eq k x) n

number_last : (x : ℕ) (es : List Entity) (e : Entity) → object_number x (es ++ e ∷ []) ≡ or_else (object_number x es) (number_here x (length es) (decl_in e))
number_last x [] (AnObject b) = refl
number_last x [] (AnEnumerator c) = refl
number_last x (AnEnumerator d ∷ es) e = ap (option_map suc) (number_last x es e) ∙ next_or (object_number x es) _ _ (next_here x (length es) (decl_in e))
number_last x (AnObject b ∷ es) e =
    ap (λ o. cond (nat_eq b.decl x) (Some 0) (option_map suc o)) (number_last x es e)
    ∙ ap (cond (nat_eq b.decl x) (Some 0)) (next_or (object_number x es) _ _ (next_here x (length es) (decl_in e)))
    ∙ by (nat_eq b.decl x) (option_map suc (object_number x es)) (number_here x (suc (length es)) (decl_in e))
  where
    by : (t : Bool) (o p : Option ℕ) → cond t (Some 0) (or_else o p) ≡ or_else (cond t (Some 0) o) p
    by true o p = refl
    by false o p = refl

or_none : (o : Option ℕ) → or_else o None ≡ o
or_none None = refl
or_none (Some n) = refl

-- of each declaration with one more
with_last : (decl : Option ℕ) (n : ℕ) (es : List Entity) (e : Entity) → decl ≡ decl_in e → n ≡ length es
    → (x : ℕ) → object_number x (es ++ e ∷ []) ≡ or_else (object_number x es) (number_here x n decl)
with_last decl n es e same count x = number_last x es e ∙ (λ i. or_else (object_number x es) (number_here x (sym count i) (sym same i)))

pub object_noted : (firsts more : List (ℕ × ℕ)) (k n : ℕ) → IsNoted firsts k n more → NotesObject firsts (Some k) n more
object_noted firsts more k n noted es e same count are x =
    noted x ∙ ap (λ o. or_else o (cond (nat_eq k x) (Some n) None)) (are x) ∙ sym (with_last (Some k) n es e same count x)

pub ok_noted : {A E : Type 0} (r : Result A E) (firsts more : List (ℕ × ℕ)) (k n : ℕ) → OnOk r (IsNoted firsts k n more) → OnOk r (NotesObject firsts (Some k) n more)
ok_noted (Ok a) firsts more k n noted = object_noted firsts more k n noted
ok_noted (Err e) firsts more k n noted = noted

pub none_noted : (firsts : List (ℕ × ℕ)) (n : ℕ) → NotesObject firsts None n firsts
none_noted firsts n es e same count are x = are x ∙ sym (or_none (object_number x es)) ∙ sym (with_last None n es e same count x)

-- ---- one less

pub none_forgotten : (firsts : List (ℕ × ℕ)) (n : ℕ) → ForgetsObject firsts None n firsts
none_forgotten firsts n es e same count are x = are x ∙ with_last None n es e same count x ∙ or_none (object_number x es)

-- a declaration whose first object has another number keeps it
pub object_kept : (firsts : List (ℕ × ℕ)) (k n : ℕ) → (lookup (nat_eq k) firsts ≡ Some n → ⊥) → ForgetsObject firsts (Some k) n firsts
object_kept firsts k n other es e same count are x = by (nat_eq k x) refl (object_number x es) (are x ∙ with_last (Some k) n es e same count x)
  where
    by : (t : Bool) → nat_eq k x ≡ t → (o : Option ℕ) → lookup (nat_eq x) firsts ≡ or_else o (cond t (Some n) None) → lookup (nat_eq x) firsts ≡ o
    by t eb (Some m) known = known
    by false eb None known = known
    by true eb None known =
        let z : k ≡ x = grind (arith, nat_tests, eb) in
        absurd (other (subst (λ y. lookup (nat_eq y) firsts ≡ Some n) (sym z) known))

-- and one whose first object has this number has none any more
pub object_forgotten : (firsts fewer : List (ℕ × ℕ)) (k n : ℕ) → lookup (nat_eq k) firsts ≡ Some n → ((x : ℕ) → lookup (nat_eq x) fewer ≡ cond (nat_eq k x) None (lookup (nat_eq x) firsts)) → ForgetsObject firsts (Some k) n fewer
object_forgotten firsts fewer k n this without es e same count are x =
    without x ∙ by (nat_eq k x) refl (object_number x es) refl (are x ∙ with_last (Some k) n es e same count x)
  where
    by : (t : Bool) → nat_eq k x ≡ t → (o : Option ℕ) → object_number x es ≡ o → lookup (nat_eq x) firsts ≡ or_else o (cond t (Some n) None) → cond t None (lookup (nat_eq x) firsts) ≡ o
    by false eb None eo known = known
    by false eb (Some m) eo known = known
    by true eb None eo known = refl
    by true eb (Some m) eo known =
        let z : k ≡ x = grind (arith, nat_tests, eb) in
        let last : lookup (nat_eq x) firsts ≡ Some n = subst (λ y. lookup (nat_eq y) firsts ≡ Some n) z this in
        let same_number : m ≡ n = cc in
        let lt = (first_is x es m eo).within in
        absurd (omega (arith, lt, same_number, count))

-- ---- one more that is taken away again

pub one_off : {A : Type 0} (ds : List A) (d : A) → take (length ds) (ds ++ d ∷ []) ≡ ds
one_off [] d = refl
one_off (c ∷ ds) d = ap (λ l. c ∷ l) (one_off ds d)
