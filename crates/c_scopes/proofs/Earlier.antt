-- The newest of a name among the first so many, and the first object.
use Rattle.std.proofs.Common.{◌≡◌, ℕ, zero, suc, ◌<◌, ◌≤◌, List, [], ◌∷◌, ◌++◌, refl, sym, ap, ◌∙◌, subst, arith, length, map, take, drop, cond, nat_eq, get_or, Bool, true, false, Option, Some, None, option_map}
use Rattle.std.proofs.lemmas.Bool.Decides.{nat_tests}
use Rattle.std.proofs.lemmas.List.{append-nil, length-take-le, get_or-take, take-take, take_all}
use Rattle.std.proofs.Math.Seq.{take-length}
use Rattle.std.specs.Map.{lookup}
use Rattle.c_model.specs.ExpressionTyping.{Entity, Object, AnObject, AnEnumerator, entity_named, has_name, or_else}
use Rattle.c_scopes.specs.declared.declarations.Declared.{Declared}
use Rattle.c_scopes.specs.Newest.{AreHidden, AreNewest, entities_of, entity_of, hidden_numbers, newest_number, plain_name}
use Rattle.c_scopes.specs.Objects.{AreFirstObjects, object_with, object_number}
use Rattle.c_scopes.proofs.Newest.{count_is, entity_at, found_behind, hidden_behind, none_behind, none_named, newest_is, IsNewest, append_one, name_is}

-- ---- the newest of a name among the first so many

none_before : (x c : ℕ) (es : List Entity) → newest_number x es ≡ None → newest_number x (take c es) ≡ None
none_before x zero es i = refl
none_before x (suc c) [] i = refl
none_before x (suc c) (e ∷ es) i = by (none_before x c es) (newest_number x es) (has_name x e) refl i
  where
    by : (newest_number x es ≡ None → newest_number x (take c es) ≡ None) → (o : Option ℕ) (b : Bool) → newest_number x es ≡ o → or_else (option_map suc o) (cond b (Some 0) None) ≡ None
        → or_else (option_map suc (newest_number x (take c es))) (cond b (Some 0) None) ≡ None
    by go (Some m) b eo j = absurd cc
    by go None true eo j = absurd cc
    by go None false eo j = ap (λ o. or_else (option_map suc o) None) (go eo)

kept_before : (x c : ℕ) (es : List Entity) (n : ℕ) → newest_number x es ≡ Some n → n < c → newest_number x (take c es) ≡ Some n
kept_before x zero es n i lt = absurd (omega (arith, lt))
kept_before x (suc c) [] n i lt = i
kept_before x (suc c) (e ∷ es) n i lt = by (kept_before x c es) (newest_number x es) refl i
  where
    by : ((m : ℕ) → newest_number x es ≡ Some m → m < c → newest_number x (take c es) ≡ Some m) → (o : Option ℕ) → newest_number x es ≡ o → or_else (option_map suc o) (cond (has_name x e) (Some 0) None) ≡ Some n
        → or_else (option_map suc (newest_number x (take c es))) (cond (has_name x e) (Some 0) None) ≡ Some n
    by go (Some m) eo j = let same : suc m ≡ n = cc in ap (λ o. or_else (option_map suc o) (cond (has_name x e) (Some 0) None)) (go m eo (omega (arith, lt, same))) ∙ ap Some same
    by go None eo j = ap (λ o. or_else (option_map suc o) (cond (has_name x e) (Some 0) None)) (none_before x c es eo) ∙ j

-- the entity of the number has the name
has_it : (x : ℕ) (es : List Entity) (n : ℕ) (e : Entity) → newest_number x es ≡ Some n → has_name x (get_or es n e) ≡ true
has_it x [] n e i = absurd cc
has_it x (d ∷ ds) n e i = by (has_it x ds) (newest_number x ds) (has_name x d) refl refl i
  where
    by : ((m : ℕ) (e : Entity) → newest_number x ds ≡ Some m → has_name x (get_or ds m e) ≡ true) → (o : Option ℕ) (b : Bool) → newest_number x ds ≡ o → has_name x d ≡ b
        → or_else (option_map suc o) (cond b (Some 0) None) ≡ Some n → has_name x (get_or (d ∷ ds) n e) ≡ true
    by go (Some m) b eo eb j = let same : suc m ≡ n = cc in subst (λ n. has_name x (get_or (d ∷ ds) n e) ≡ true) same (go m e eo)
    by go None true eo eb j = let same : 0 ≡ n = cc in subst (λ n. has_name x (get_or (d ∷ ds) n e) ≡ true) same eb
    by go None false eo eb j = absurd cc

-- ---- the one that an entity hides

hidden_at : (front es : List Entity) (hs : List (Option ℕ)) (n : ℕ) (e : Entity) (h : Option ℕ) → n < length es → hs ≡ hidden_numbers front es
    → get_or hs n h ≡ newest_number (plain_name (get_or es n e)) (front ++ take n es)
hidden_at front [] hs n e h lt is = absurd (omega (arith, lt))
hidden_at front (d ∷ es) hs zero e h lt is = ap (λ l. get_or l 0 h) is ∙ ap (newest_number (plain_name d)) (sym (append-nil front))
hidden_at front (d ∷ es) hs (suc n) e h lt is =
    ap (λ l. get_or l (suc n) h) is ∙ hidden_at (front ++ d ∷ []) es (hidden_numbers (front ++ d ∷ []) es) n e h (omega (arith, lt)) refl
    ∙ ap (newest_number (plain_name (get_or es n e))) (append_one front d (take n es))

hidden_of : (ds : List Declared) (n : ℕ) (d : Declared) → get_or (map (λ (c : Declared). c.hidden) ds) n d.hidden ≡ (get_or ds n d).hidden
hidden_of [] n d = refl
hidden_of (c ∷ ds) zero d = refl
hidden_of (c ∷ ds) (suc n) d = hidden_of ds n d

-- ---- going back

-- the newest among the first so many, of which those that are looked at are some
pub record IsBack (x count : ℕ) (ds : List Declared) (newest : Option ℕ) : Type 0 where
  pub among : ℕ
  pub enough : take count (take among (entities_of ds)) ≡ take count (entities_of ds)
  pub is : newest ≡ newest_number x (take among (entities_of ds))

-- how many turns may be left
abbrev pub turns_of : Option ℕ → ℕ
turns_of None = 0
turns_of (Some n) = suc n

module _ (x count : ℕ) (ds : List Declared)
  where
    abbrev es : List Entity
    es = entities_of ds

    pub back_from : (newest : List (ℕ × ℕ)) (o : Option ℕ) → AreNewest es newest → o ≡ lookup (nat_eq x) newest → IsBack x count ds o
    back_from newest o are is = record {
      among = length es;
      enough = ap (take count) (take-length es);
      is = is ∙ are x ∙ ap (newest_number x) (sym (take-length es));
    }

    record IsAt (m n : ℕ) : Type 0 where
      below : n < m
      within : n < length es
      named : (e : Entity) → plain_name (get_or es n e) ≡ x

    is_at : (m n : ℕ) → newest_number x (take m es) ≡ Some n → IsAt m n
    is_at m n i =
        let is = newest_is x (take m es) n i in
        let few = length_take m es in
        let lt : n < m = omega (arith, is.within, few.0) in
        record {
          below = lt;
          within = omega (arith, is.within, few.1);
          named = λ e.
              let t : nat_eq x (plain_name (get_or es n e)) ≡ true =
              sym (name_is x (get_or es n e)) ∙ ap (has_name x) (sym (get_or-take m es n e lt)) ∙ has_it x (take m es) n e i in
              grind (arith, nat_tests, t);
        }
      where
        length_take : (m : ℕ) (l : List Entity) → (length (take m l) ≤ m) × (length (take m l) ≤ length l)
        length_take zero l = (omega arith, omega arith)
        length_take (suc m) [] = (omega arith, omega arith)
        length_take (suc m) (e ∷ l) = let r = length_take m l in (omega (arith, r.0), omega (arith, r.1))

    module _ (o : Option ℕ) (back : IsBack x count ds o)
      where
        pub back_within : (n : ℕ) → o ≡ Some n → n < length ds
        back_within n i = let at = is_at back.among n (sym back.is ∙ i) in let w = at.within in omega (arith, w, count_is ds)

        -- one that is looked at
        pub back_found : (n : ℕ) → o ≡ Some n → n < count → Some n ≡ newest_number x (take count es)
        back_found n i lt = sym (kept_before x count (take back.among es) n (sym back.is ∙ i) lt) ∙ ap (newest_number x) back.enough

        pub back_ends : o ≡ None → None ≡ newest_number x (take count es)
        back_ends i = sym (none_before x count (take back.among es) (sym back.is ∙ i)) ∙ ap (newest_number x) back.enough

        -- the one that it hides
        pub back_more : (n : ℕ) (d : Declared) → AreHidden ds → o ≡ Some n → count ≤ n → d ≡ get_or ds n d → IsBack x count ds d.hidden
        back_more n d hides i le at =
            let here = is_at back.among n (sym back.is ∙ i) in
            record {
              among = n;
              enough = take-take count n es le;
              is = ap (λ (c : Declared). c.hidden) at ∙ sym (hidden_of ds n d) ∙ hidden_at [] es (map (λ (c : Declared). c.hidden) ds) n (entity_of d) d.hidden here.within hides
                  ∙ ap (λ y. newest_number y (take n es)) (here.named (entity_of d));
            }

        back_below : (n m : ℕ) (d : Declared) → AreHidden ds → o ≡ Some n → count ≤ n → d ≡ get_or ds n d → d.hidden ≡ Some m → m < n
        unfolding back_more
        back_below n m d hides i le at j = let next = back_more n d hides i le at in (is_at n m (sym next.is ∙ j)).below

        pub back_smaller : (n : ℕ) (d : Declared) → AreHidden ds → o ≡ Some n → count ≤ n → d ≡ get_or ds n d → turns_of d.hidden < turns_of o
        back_smaller n d hides i le at = subst (λ q. turns_of d.hidden < turns_of q) (sym i) (by d.hidden refl)
          where
            by : (q : Option ℕ) → d.hidden ≡ q → turns_of q < suc n
            by None j = omega arith
            by (Some m) j = let lt = back_below n m d hides i le at j in omega (arith, lt)

-- ---- what is found by the number

module _ (x count n : ℕ) (ds : List Declared) (is : Some n ≡ newest_number x (take count (entities_of ds)))
  where
    abbrev seen : List Entity
    seen = take count (entities_of ds)

    pub seen_within : n < length ds
    seen_within = let w = (is_at x count ds count n (sym is)).within in omega (arith, w, count_is ds)

    pub seen_found : (d : Declared) → d ≡ get_or ds n d → Some (entity_of d) ≡ entity_named x seen
    seen_found d at =
        let lt = (is_at x count ds count n (sym is)).below in
        sym ((newest_is x seen n (sym is)).is (entity_of d) (ap entity_of at ∙ sym (entity_at ds n d) ∙ sym (get_or-take count (entities_of ds) n (entity_of d) lt)))

    pub seen_from : (d : Declared) (k : ℕ) → k ≤ n → d ≡ get_or ds n d → Some (entity_of d) ≡ entity_named x (drop k seen)
    seen_from d k le at = seen_found d at ∙ sym (found_behind x k seen n (sym is) le)

pub seen_none : (x count : ℕ) (ds : List Declared) → None ≡ newest_number x (take count (entities_of ds)) → None ≡ entity_named x (take count (entities_of ds))
seen_none x count ds is = sym (none_named x (take count (entities_of ds)) (sym is))

pub none_from : (x count k : ℕ) (ds : List Declared) → None ≡ newest_number x (take count (entities_of ds)) → None ≡ entity_named x (drop k (take count (entities_of ds)))
none_from x count k ds is = sym (none_behind x k (take count (entities_of ds)) (sym is))

pub seen_hidden : (x count k n : ℕ) (ds : List Declared) → Some n ≡ newest_number x (take count (entities_of ds)) → n < k → None ≡ entity_named x (drop k (take count (entities_of ds)))
seen_hidden x count k n ds is lt = sym (hidden_behind x k (take count (entities_of ds)) n (sym is) lt)

-- ---- the first object of a declaration

object_kept : (x c : ℕ) (es : List Entity) (n : ℕ) → object_number x es ≡ Some n → n < c → object_with x (take c es) ≡ object_with x es
object_kept x zero es n i lt = absurd (omega (arith, lt))
object_kept x (suc c) [] n i lt = refl
object_kept x (suc c) (AnEnumerator k ∷ es) n i lt = by (object_kept x c es) (object_number x es) refl i
  where
    by : ((m : ℕ) → object_number x es ≡ Some m → m < c → object_with x (take c es) ≡ object_with x es) → (o : Option ℕ) → object_number x es ≡ o → option_map suc o ≡ Some n → object_with x (take c es) ≡ object_with x es
    by go None eo j = absurd cc
    by go (Some m) eo j = let same : suc m ≡ n = cc in go m eo (omega (arith, lt, same))
object_kept x (suc c) (AnObject b ∷ es) n i lt = by (object_kept x c es) (nat_eq b.decl x) (object_number x es) refl i
  where
    by : ((m : ℕ) → object_number x es ≡ Some m → m < c → object_with x (take c es) ≡ object_with x es) → (t : Bool) (o : Option ℕ) → object_number x es ≡ o → cond t (Some 0) (option_map suc o) ≡ Some n
        → cond t (Some b) (object_with x (take c es)) ≡ cond t (Some b) (object_with x es)
    by go true o eo j = refl
    by go false None eo j = absurd cc
    by go false (Some m) eo j = let same : suc m ≡ n = cc in go m eo (omega (arith, lt, same))

object_later : (x c : ℕ) (es : List Entity) (n : ℕ) → object_number x es ≡ Some n → c ≤ n → object_with x (take c es) ≡ None
object_later x zero es n i le = refl
object_later x (suc c) [] n i le = refl
object_later x (suc c) (AnEnumerator k ∷ es) n i le = by (object_later x c es) (object_number x es) refl i
  where
    by : ((m : ℕ) → object_number x es ≡ Some m → c ≤ m → object_with x (take c es) ≡ None) → (o : Option ℕ) → object_number x es ≡ o → option_map suc o ≡ Some n → object_with x (take c es) ≡ None
    by go None eo j = absurd cc
    by go (Some m) eo j = let same : suc m ≡ n = cc in go m eo (omega (arith, le, same))
object_later x (suc c) (AnObject b ∷ es) n i le = by (object_later x c es) (nat_eq b.decl x) (object_number x es) refl i
  where
    by : ((m : ℕ) → object_number x es ≡ Some m → c ≤ m → object_with x (take c es) ≡ None) → (t : Bool) (o : Option ℕ) → object_number x es ≡ o → cond t (Some 0) (option_map suc o) ≡ Some n
        → cond t (Some b) (object_with x (take c es)) ≡ None
    by go true o eo j = let same : 0 ≡ n = cc in absurd (omega (arith, le, same))
    by go false None eo j = absurd cc
    by go false (Some m) eo j = let same : suc m ≡ n = cc in go m eo (omega (arith, le, same))

object_none : (x c : ℕ) (es : List Entity) → object_number x es ≡ None → object_with x (take c es) ≡ None
object_none x zero es i = refl
object_none x (suc c) [] i = refl
object_none x (suc c) (AnEnumerator k ∷ es) i = by (object_none x c es) (object_number x es) refl i
  where
    by : (object_number x es ≡ None → object_with x (take c es) ≡ None) → (o : Option ℕ) → object_number x es ≡ o → option_map suc o ≡ None → object_with x (take c es) ≡ None
    by go None eo j = go eo
    by go (Some m) eo j = absurd cc
object_none x (suc c) (AnObject b ∷ es) i = by (object_none x c es) (nat_eq b.decl x) (object_number x es) refl i
  where
    by : (object_number x es ≡ None → object_with x (take c es) ≡ None) → (t : Bool) (o : Option ℕ) → object_number x es ≡ o → cond t (Some 0) (option_map suc o) ≡ None → cond t (Some b) (object_with x (take c es)) ≡ None
    by go true o eo j = absurd cc
    by go false None eo j = go eo
    by go false (Some m) eo j = absurd cc

module _ (ds : List Declared) (firsts : List (ℕ × ℕ)) (x count : ℕ) (are : AreFirstObjects (entities_of ds) firsts) where
  pub object_seen : (n : ℕ) → Some n ≡ lookup (nat_eq x) firsts → n < count → object_with x (entities_of ds) ≡ object_with x (take count (entities_of ds))
  object_seen n e lt = sym (object_kept x count (entities_of ds) n (sym (are x) ∙ sym e) lt)

  pub object_hidden : (n : ℕ) → Some n ≡ lookup (nat_eq x) firsts → count ≤ n → None ≡ object_with x (take count (entities_of ds))
  object_hidden n e le = sym (object_later x count (entities_of ds) n (sym (are x) ∙ sym e) le)

  pub no_object_seen : None ≡ lookup (nat_eq x) firsts → None ≡ object_with x (take count (entities_of ds))
  no_object_seen e = sym (object_none x count (entities_of ds) (sym (are x) ∙ sym e))
