-- Objects and enumerators in sight, and the number of the newest of each name.
use Rattle.std.proofs.Common.{◌≡◌, ℕ, zero, suc, ◌<◌, ◌≤◌, List, [], ◌∷◌, ◌++◌, refl, sym, ap, ◌∙◌, subst, arith, length, map, drop, cond, nat_eq, get_or, Bool, true, false, Option, Some, None, option_map}
use Rattle.std.proofs.lemmas.Bool.Decides.{nat_tests}
use Rattle.std.proofs.lemmas.List.{map-append}
use Rattle.std.specs.Map.{lookup}
use Rattle.std.specs.Prelude.{Result, Ok, Err, OnOk, OnErr}
use Rattle.c_model.specs.ExpressionTyping.{Entity, AnObject, AnEnumerator, entity_named, has_name, or_else}
use Rattle.c_scopes.specs.declared.declarations.Declared.{Declared}
use Rattle.c_scopes.specs.Newest.{AreHidden, AreNewest, entities_of, entity_of, hidden_numbers, newest_number, plain_name}

pub name_is : (x : ℕ) (e : Entity) → has_name x e ≡ nat_eq x (plain_name e)
name_is x (AnObject b) = refl
name_is x (AnEnumerator c) = refl

-- ---- an entity that is found

-- the entity of this number is the newest of the name
pub record IsNewest (x : ℕ) (es : List Entity) (n : ℕ) : Type 0 where
  pub within : n < length es
  pub is : (e : Entity) → e ≡ get_or es n e → entity_named x es ≡ Some e

newest_here : (x : ℕ) (e : Entity) (es : List Entity) (n : ℕ) → entity_named x es ≡ None → (b : Bool) → has_name x e ≡ b → cond b (Some 0) None ≡ Some n → IsNewest x (e ∷ es) n
newest_here x e es zero none true t i = record {
  within = omega arith;
  is = λ f same. ap (λ o. or_else o (cond (has_name x e) (Some e) None)) none ∙ ap (λ b. cond b (Some e) None) t ∙ ap Some (sym same);
}
newest_here x e es (suc n) none true t i = absurd cc
newest_here x e es n none false t i = absurd cc

newest_later : (x : ℕ) (e : Entity) (es : List Entity) (m : ℕ) → IsNewest x es m → IsNewest x (e ∷ es) (suc m)
newest_later x e es m is = record {
  within = omega (arith, is.within);
  is = λ f same. ap (λ o. or_else o (cond (has_name x e) (Some e) None)) (is.is f same);
}

pub none_named : (x : ℕ) (es : List Entity) → newest_number x es ≡ None → entity_named x es ≡ None
none_named x [] i = refl
none_named x (e ∷ es) i = by (none_named x es) (newest_number x es) (has_name x e) refl i
  where
    by : (newest_number x es ≡ None → entity_named x es ≡ None) → (o : Option ℕ) (b : Bool) → newest_number x es ≡ o → or_else (option_map suc o) (cond b (Some 0) None) ≡ None
        → or_else (entity_named x es) (cond b (Some e) None) ≡ None
    by go (Some m) b eo j = absurd cc
    by go None true eo j = absurd cc
    by go None false eo j = ap (λ r. or_else r None) (go eo)

pub newest_is : (x : ℕ) (es : List Entity) (n : ℕ) → newest_number x es ≡ Some n → IsNewest x es n
newest_is x [] n i = absurd cc
newest_is x (e ∷ es) n i = by (newest_is x es) (newest_number x es) refl i
  where
    by : ((m : ℕ) → newest_number x es ≡ Some m → IsNewest x es m) → (o : Option ℕ) → newest_number x es ≡ o → or_else (option_map suc o) (cond (has_name x e) (Some 0) None) ≡ Some n → IsNewest x (e ∷ es) n
    by go (Some m) eo j = let same : suc m ≡ n = cc in subst (IsNewest x (e ∷ es)) same (newest_later x e es m (go m eo))
    by go None eo j = newest_here x e es n (none_named x es eo) (has_name x e) refl j

-- ---- among those from a number on

pub none_behind : (x k : ℕ) (es : List Entity) → newest_number x es ≡ None → entity_named x (drop k es) ≡ None
none_behind x zero es i = none_named x es i
none_behind x (suc k) [] i = refl
none_behind x (suc k) (e ∷ es) i = by (none_behind x k es) (newest_number x es) (has_name x e) refl i
  where
    by : (newest_number x es ≡ None → entity_named x (drop k es) ≡ None) → (o : Option ℕ) (b : Bool) → newest_number x es ≡ o → or_else (option_map suc o) (cond b (Some 0) None) ≡ None
        → entity_named x (drop k es) ≡ None
    by go (Some m) b eo j = absurd cc
    by go None true eo j = absurd cc
    by go None false eo j = go eo

pub found_behind : (x k : ℕ) (es : List Entity) (n : ℕ) → newest_number x es ≡ Some n → k ≤ n → entity_named x (drop k es) ≡ entity_named x es
found_behind x zero es n i le = refl
found_behind x (suc k) [] n i le = refl
found_behind x (suc k) (e ∷ es) n i le = by (found_behind x k es) (newest_number x es) refl i
  where
    named : (m : ℕ) → newest_number x es ≡ Some m → (r : Option Entity) → entity_named x es ≡ r → entity_named x (e ∷ es) ≡ entity_named x es
    named m eo (Some f) er = ap (λ o. or_else o (cond (has_name x e) (Some e) None)) er ∙ sym er
    named m eo None er =
        let is = newest_is x es m eo in
        let same : entity_named x es ≡ Some (get_or es m e) = is.is (get_or es m e) (get_or_any m es e is.within) in absurd cc
      where
        get_or_any : (m : ℕ) (es : List Entity) (e : Entity) → m < length es → get_or es m e ≡ get_or es m (get_or es m e)
        get_or_any m [] e lt = absurd (omega (arith, lt))
        get_or_any zero (f ∷ es) e lt = refl
        get_or_any (suc m) (f ∷ es) e lt = get_or_any m es e (omega (arith, lt))

    by : ((m : ℕ) → newest_number x es ≡ Some m → k ≤ m → entity_named x (drop k es) ≡ entity_named x es) → (o : Option ℕ) → newest_number x es ≡ o → or_else (option_map suc o) (cond (has_name x e) (Some 0) None) ≡ Some n
        → entity_named x (drop k es) ≡ entity_named x (e ∷ es)
    by go (Some m) eo j = let same : suc m ≡ n = cc in go m eo (omega (arith, le, same)) ∙ sym (named m eo (entity_named x es) refl)
    by go None eo j = absurd (zero_only (has_name x e) j)
      where
        zero_only : (b : Bool) → cond b (Some 0) None ≡ Some n → ⊥
        zero_only true h = let z : 0 ≡ n = cc in omega (arith, z, le)
        zero_only false h = absurd cc

pub hidden_behind : (x k : ℕ) (es : List Entity) (n : ℕ) → newest_number x es ≡ Some n → n < k → entity_named x (drop k es) ≡ None
hidden_behind x zero es n i lt = absurd (omega (arith, lt))
hidden_behind x (suc k) [] n i lt = refl
hidden_behind x (suc k) (e ∷ es) n i lt = by (hidden_behind x k es) (newest_number x es) refl i
  where
    by : ((m : ℕ) → newest_number x es ≡ Some m → m < k → entity_named x (drop k es) ≡ None) → (o : Option ℕ) → newest_number x es ≡ o → or_else (option_map suc o) (cond (has_name x e) (Some 0) None) ≡ Some n
        → entity_named x (drop k es) ≡ None
    by go (Some m) eo j = let same : suc m ≡ n = cc in go m eo (omega (arith, lt, same))
    by go None eo j = none_behind x k es eo

-- ---- by the numbers that are kept

pub count_is : (ds : List Declared) → length (entities_of ds) ≡ length ds
count_is [] = refl
count_is (d ∷ ds) = ap suc (count_is ds)

pub entity_at : (ds : List Declared) (n : ℕ) (d : Declared) → get_or (entities_of ds) n (entity_of d) ≡ entity_of (get_or ds n d)
entity_at [] n d = refl
entity_at (c ∷ ds) zero d = refl
entity_at (c ∷ ds) (suc n) d = entity_at ds n d

module _ (ds : List Declared) (newest : List (ℕ × ℕ)) (x : ℕ) (are : AreNewest (entities_of ds) newest) where
  pub within : (n : ℕ) → Some n ≡ lookup (nat_eq x) newest → n < length ds
  within n e = let lt = (newest_is x (entities_of ds) n (sym (are x) ∙ sym e)).within in omega (arith, lt, count_is ds)

  pub found : (n : ℕ) (d : Declared) → Some n ≡ lookup (nat_eq x) newest → d ≡ get_or ds n d → Some (entity_of d) ≡ entity_named x (entities_of ds)
  found n d e at = sym ((newest_is x (entities_of ds) n (sym (are x) ∙ sym e)).is (entity_of d) (ap entity_of at ∙ sym (entity_at ds n d)))

  pub not_found : None ≡ lookup (nat_eq x) newest → None ≡ entity_named x (entities_of ds)
  not_found e = sym (none_named x (entities_of ds) (sym (are x) ∙ sym e))

  pub found_from : (n k : ℕ) (d : Declared) → Some n ≡ lookup (nat_eq x) newest → k ≤ n → d ≡ get_or ds n d → Some (entity_of d) ≡ entity_named x (drop k (entities_of ds))
  found_from n k d e le at = found n d e at ∙ sym (found_behind x k (entities_of ds) n (sym (are x) ∙ sym e) le)

  pub hidden_from : (n k : ℕ) → Some n ≡ lookup (nat_eq x) newest → n < k → None ≡ entity_named x (drop k (entities_of ds))
  hidden_from n k e lt = sym (hidden_behind x k (entities_of ds) n (sym (are x) ∙ sym e) lt)

  pub not_from : (k : ℕ) → None ≡ lookup (nat_eq x) newest → None ≡ entity_named x (drop k (entities_of ds))
  not_from k e = sym (none_behind x k (entities_of ds) (sym (are x) ∙ sym e))

-- ---- one more

pub newest_last : (x : ℕ) (es : List Entity) (e : Entity) → newest_number x (es ++ e ∷ []) ≡ or_else (cond (has_name x e) (Some (length es)) None) (newest_number x es)
newest_last x [] e = by (has_name x e)
  where
    by : (b : Bool) → or_else {A = ℕ} None (cond b (Some 0) None) ≡ or_else {A = ℕ} (cond b (Some 0) None) None
    by true = refl
    by false = refl
newest_last x (d ∷ ds) e = ap (λ o. or_else (option_map suc o) (cond (has_name x d) (Some 0) None)) (newest_last x ds e) ∙ by (has_name x e) (newest_number x ds) (has_name x d)
  where
    by : (b : Bool) (o : Option ℕ) (c : Bool) → or_else (option_map suc (or_else (cond b (Some (length ds)) None) o)) (cond c (Some 0) None)
        ≡ or_else (cond b (Some (suc (length ds))) None) (or_else (option_map suc o) (cond c (Some 0) None))
    by true o c = refl
    by false o c = refl

-- a name's newest is the one after all
pub newest_new : (es more : List Entity) (e : Entity) (newest newest1 : List (ℕ × ℕ)) (name n : ℕ) → more ≡ es ++ e ∷ [] → name ≡ plain_name e → n ≡ length es
    → ((x : ℕ) → lookup (nat_eq x) newest1 ≡ cond (nat_eq name x) (Some n) (lookup (nat_eq x) newest)) → AreNewest es newest → AreNewest more newest1
newest_new es more e newest newest1 name n is named count with_it are x = with_it x ∙ by (nat_eq name x) refl ∙ sym (newest_last x es e) ∙ ap (newest_number x) (sym is)
  where
    by : (b : Bool) → nat_eq name x ≡ b → cond b (Some n) (lookup (nat_eq x) newest) ≡ or_else (cond (has_name x e) (Some (length es)) None) (newest_number x es)
    by true eb =
        let z : name ≡ x = grind (arith, nat_tests, eb) in
        let t : nat_eq x (plain_name e) ≡ true = grind (arith, nat_tests, z, named) in
        ap Some count ∙ ap (λ b. or_else (cond b (Some (length es)) None) (newest_number x es)) (sym (name_is x e ∙ t))
    by false eb =
        let t : nat_eq x (plain_name e) ≡ false = grind (arith, nat_tests, eb, named) in
        are x ∙ ap (λ b. or_else (cond b (Some (length es)) None) (newest_number x es)) (sym (name_is x e ∙ t))

-- ---- one less

-- the name of the last has its hidden one again
pub newest_before : (es all : List Entity) (e : Entity) (newest newest1 : List (ℕ × ℕ)) (name : ℕ) (o : Option ℕ) → all ≡ es ++ e ∷ [] → name ≡ plain_name e → o ≡ newest_number name es
    → ((x : ℕ) → lookup (nat_eq x) newest1 ≡ cond (nat_eq name x) o (lookup (nat_eq x) newest)) → AreNewest all newest → AreNewest es newest1
newest_before es all e newest newest1 name o is named hides without are x = without x ∙ by (nat_eq name x) refl
  where
    by : (b : Bool) → nat_eq name x ≡ b → cond b o (lookup (nat_eq x) newest) ≡ newest_number x es
    by true eb = let z : name ≡ x = grind (arith, nat_tests, eb) in hides ∙ ap (λ y. newest_number y es) z
    by false eb =
        let t : nat_eq x (plain_name e) ≡ false = grind (arith, nat_tests, eb, named) in
        are x ∙ ap (newest_number x) is ∙ newest_last x es e ∙ ap (λ b. or_else (cond b (Some (length es)) None) (newest_number x es)) (name_is x e ∙ t)

-- the name of the last is known
pub last_known : (es all : List Entity) (e : Entity) (newest : List (ℕ × ℕ)) (name : ℕ) → all ≡ es ++ e ∷ [] → name ≡ plain_name e → AreNewest all newest → lookup (nat_eq name) newest ≡ Some (length es)
last_known es all e newest name is named are =
    let t : nat_eq name (plain_name e) ≡ true = grind (arith, nat_tests, named) in
    are name ∙ ap (newest_number name) is ∙ newest_last name es e ∙ ap (λ b. or_else (cond b (Some (length es)) None) (newest_number name es)) (name_is name e ∙ t)

-- ---- which each hides

pub entities_last : (ds all : List Declared) (d : Declared) → all ≡ ds ++ d ∷ [] → entities_of all ≡ entities_of ds ++ entity_of d ∷ []
entities_last ds all d is = ap entities_of is ∙ map-append entity_of ds (d ∷ [])

pub append_one : (a : List Entity) (e : Entity) (b : List Entity) → (a ++ e ∷ []) ++ b ≡ a ++ e ∷ b
append_one [] e b = refl
append_one (x ∷ a) e b = ap (λ l. x ∷ l) (append_one a e b)

append_none : (a : List Entity) → a ++ [] ≡ a
append_none [] = refl
append_none (x ∷ a) = ap (λ l. x ∷ l) (append_none a)

hidden_last : (front es : List Entity) (e : Entity) → hidden_numbers front (es ++ e ∷ []) ≡ hidden_numbers front es ++ newest_number (plain_name e) (front ++ es) ∷ []
hidden_last front [] e = ap (λ l. newest_number (plain_name e) l ∷ []) (sym (append_none front))
hidden_last front (c ∷ es) e =
    ap (λ l. newest_number (plain_name c) front ∷ l) (hidden_last (front ++ c ∷ []) es e ∙ ap (λ l. hidden_numbers (front ++ c ∷ []) es ++ newest_number (plain_name e) l ∷ []) (append_one front c es))

numbers_last : (ds : List Declared) (d : Declared) → hidden_numbers [] (entities_of (ds ++ d ∷ [])) ≡ hidden_numbers [] (entities_of ds) ++ newest_number (plain_name (entity_of d)) (entities_of ds) ∷ []
numbers_last ds d = ap (hidden_numbers []) (map-append entity_of ds (d ∷ [])) ∙ hidden_last [] (entities_of ds) (entity_of d)

pub hidden_more : (ds more : List Declared) (d : Declared) → more ≡ ds ++ d ∷ [] → d.hidden ≡ newest_number (plain_name (entity_of d)) (entities_of ds) → AreHidden ds → AreHidden more
hidden_more ds more d is h are =
    ap (map (λ (c : Declared). c.hidden)) is ∙ map-append (λ (c : Declared). c.hidden) ds (d ∷ [])
    ∙ ap (λ l. l ++ d.hidden ∷ []) are ∙ ap (λ o. hidden_numbers [] (entities_of ds) ++ o ∷ []) h ∙ sym (numbers_last ds d) ∙ ap (λ l. hidden_numbers [] (entities_of l)) (sym is)

-- lists with a last element are the same if both parts are
pub record AreSame (A : Type 0) (xs ys : List A) (x y : A) : Type 0 where
  pub front : xs ≡ ys
  pub last : x ≡ y

pub same_ends : {A : Type 0} (xs ys : List A) (x y : A) → xs ++ x ∷ [] ≡ ys ++ y ∷ [] → AreSame A xs ys x y
same_ends [] [] x y e = record { front = refl; last = cc }
same_ends [] (b ∷ []) x y e = absurd cc
same_ends [] (b ∷ c ∷ ys) x y e = absurd cc
same_ends (a ∷ []) [] x y e = absurd cc
same_ends (a ∷ c ∷ xs) [] x y e = absurd cc
same_ends (a ∷ xs) (b ∷ ys) x y e =
    let head : a ≡ b = cc in
    let tail : xs ++ x ∷ [] ≡ ys ++ y ∷ [] = cc in
    let is = same_ends xs ys x y tail in
    record { front = ap (λ h. h ∷ xs) head ∙ ap (λ t. b ∷ t) is.front; last = is.last }

-- what is known of the last, and of those before it
pub record IsLast (ds : List Declared) (d : Declared) : Type 0 where
  pub before : AreHidden ds
  pub hidden : d.hidden ≡ newest_number (plain_name (entity_of d)) (entities_of ds)

pub hidden_less : (ds all : List Declared) (d : Declared) → all ≡ ds ++ d ∷ [] → AreHidden all → IsLast ds d
hidden_less ds all d is are =
    let e = sym (map-append (λ (c : Declared). c.hidden) ds (d ∷ [])) ∙ ap (map (λ (c : Declared). c.hidden)) (sym is) ∙ are ∙ ap (λ l. hidden_numbers [] (entities_of l)) is ∙ numbers_last ds d in
    let same = same_ends (map (λ (c : Declared). c.hidden) ds) (hidden_numbers [] (entities_of ds)) d.hidden (newest_number (plain_name (entity_of d)) (entities_of ds)) e in
    record { before = same.front; hidden = same.last }

-- ---- what is known of a result in either case

pub either_way : {A E G P Q : Type 0} (r : Result A E) → OnOk r P → OnErr r Q → (P → G) → (Q → G) → G
either_way (Ok a) p q f g = f p
either_way (Err e) p q f g = g q
