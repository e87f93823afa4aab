-- A constant address has a value where the code finds one.
use Rattle.std.proofs.Common.{◌≡◌, ℕ, suc, ◌+◌, ℤ, pos, negsuc, ◌+ℤ◌, ◌-ℤ◌, ◌*ℤ◌, List, [], ◌∷◌, Bool, true, false, cond}
use Rattle.std.proofs.Common.{not, ◌&&◌, ◌||◌, if◌then◌else◌, nat_eq, nat_le, slice_get, Option, Some, None, option_map, refl, sym, ap, ◌∙◌, subst, arith}
use Rattle.std.proofs.lemmas.List.{length-replicate}
use Rattle.std.proofs.lemmas.Bool.Decides.{nat_tests}
use Rattle.c_syntax.specs.declared.place.Place.{Place}
use Rattle.c_syntax.specs.declared.types.BlockKind.TheVariants.{Global}
use Rattle.c_syntax.specs.declared.expression.UnOp.TheVariants as unary
use Rattle.c_syntax.specs.declared.expression.BinOp.TheVariants as operator
use Rattle.c_syntax.specs.Ctypes.{PlainType, Void, Int, Ptr, Array, Struct, Named, StructTag, EnumTag}
use Rattle.c_syntax.specs.Expressions.{Expression, Node, Number, Letter, Text, Variable, Unary, Binary, Both, Either, Choice, Assign, Bump, Call, Cast, SizeOfType, SizeOfExpr, Index, Dot, Arrow, Comma, place_of, type_of}
use Rattle.c_syntax.specs.Programs.{StructType}
use Rattle.c_syntax.specs.Layouts.{offset_of, size_of, target_of}
use Rattle.c_model.specs.Library.{is_there}
use Rattle.c_model.specs.Memory as memory
use Rattle.c_model.specs.Memory.{Pointer, Into, Value, Integer, Points, Block, block_at, live_size, moved, shifted}
use Rattle.c_model.specs.State.{End, State, Outcome, Normal, Stop, Evaluation, ◌>>=◌, on_outcome, give, defined, computed, find, start_of, stop, Over, Undefined}
use Rattle.c_model.specs.Meaning.{address, converted, eval_with, indexed, is_array, is_member, is_of_library, is_pointer, named, operate_values, place_with, pointed_to, unit_of, zeros}
use Rattle.c_model.specs.ExpressionTyping.{Sight, Entity, Object, AnObject, AnEnumerator, constant, is_constant, no_callee, tables_in}
use Rattle.c_model.specs.DeclarationTyping.{blocks_of, has_value, is_address, is_static_address, is_static_place, numbers_from, with_globals}
use Rattle.c_scopes.specs.Objects.{object_with}
use Rattle.c_declaration_rules.specs.declared.constant.Spot.{Spot}
use Rattle.c_declaration_rules.specs.declared.constant.Spot.TheVariants.{Null, Within}
use Rattle.c_declaration_rules.specs.Statics.{address_spot, difference_spot, element_spot, member_spot, moved_spot, null_or, object_size, place_spot, spot_in, start_spot, stepped, taken_spot}
use Rattle.c_declaration_rules.proofs.Constants.{and_first, and_second, constant_here}

-- ---- the globals that are declared so far

module _ (structs : List StructType) (x : ℕ)
  where
    pub record FoundAt (k : ℕ) (es : List Entity) (z : ℕ) : Type 0 where
      pub index : ℕ
      pub number : find x (numbers_from k es) ≡ Some (k + index)
      pub block : Block
      pub at : slice_get (blocks_of structs es) index ≡ Some block
      pub live : live_size (Some block) ≡ Some z

    abbrev size_in : Option Object → Option ℕ
    size_in o = option_map (λ (b : Object). size_of structs b.ctype) o

    pub found : (k : ℕ) (es : List Entity) (z : ℕ) → object_size structs x es ≡ Some z → FoundAt k es z
    found k [] z h = absurd cc
    found k (AnEnumerator c ∷ es) z h = let r = found k es z h in record { index = r.index; number = r.number; block = r.block; at = r.at; live = r.live }
    found k (AnObject b ∷ es) z h = by (found (suc k) es z) (nat_eq b.decl x) refl h
      where
        by : (object_size structs x es ≡ Some z → FoundAt (suc k) es z) → (t : Bool) → nat_eq b.decl x ≡ t → size_in (cond t (Some b) (object_with x es)) ≡ Some z → FoundAt k (AnObject b ∷ es) z
        by more true e h =
            let size : size_of structs b.ctype ≡ z = cc in
            record {
              index = 0;
              number = ap (λ t. cond t (Some k) (find x (numbers_from (suc k) es))) e ∙ ap Some (omega arith);
              block = memory.block_of Global (zeros (size_of structs b.ctype));
              at = refl;
              live = ap Some (length-replicate (size_of structs b.ctype) (memory.Number 0) ∙ size);
            }
        by more false e h =
            let r = more h in
            record {
              index = suc r.index;
              number = ap (λ t. cond t (Some k) (find x (numbers_from (suc k) es))) e ∙ r.number ∙ ap Some (omega arith);
              block = r.block;
              at = r.at;
              live = r.live;
            }

    pub not_found : (k : ℕ) (es : List Entity) → object_with x es ≡ None → find x (numbers_from k es) ≡ None
    not_found k [] h = refl
    not_found k (AnEnumerator c ∷ es) h = not_found k es h
    not_found k (AnObject b ∷ es) h = by (not_found (suc k) es) (nat_eq b.decl x) refl h
      where
        by : (object_with x es ≡ None → find x (numbers_from (suc k) es) ≡ None) → (t : Bool) → nat_eq b.decl x ≡ t → cond t (Some b) (object_with x es) ≡ None → find x (numbers_from k (AnObject b ∷ es)) ≡ None
        by more true e h = absurd cc
        by more false e h = ap (λ t. cond t (Some k) (find x (numbers_from (suc k) es))) e ∙ more h

    pub no_size : (es : List Entity) → object_size structs x es ≡ None → object_with x es ≡ None
    no_size es h = by (object_with x es) h
      where
        by : (o : Option Object) → size_in o ≡ None → o ≡ None
        by None h = refl
        by (Some b) h = absurd cc

-- ---- sums

module _ (unit : ℕ) (p q : Option Spot) (sb : Bool)
  where
    element_none : (x y : Option ℤ) (sa : Bool) → (sa ≡ false → p ≡ None) → (sb ≡ false → q ≡ None) → (sa && is_there y || is_there x && sb) ≡ false → element_spot unit p y x q ≡ None
    element_none x (Some y) true hp hq e = absurd cc
    element_none x (Some y) false hp hq e = ap (λ o. stepped o unit y) (hp refl)
    element_none None None sa hp hq e = refl
    element_none (Some x) None true hp hq e = ap (λ o. stepped o unit x) (hq e)
    element_none (Some x) None false hp hq e = ap (λ o. stepped o unit x) (hq e)

    pub data Sides (sa : Bool) (x y : Option ℤ) : Type 0 where
      Left : (z : ℤ) → sa ≡ true → y ≡ Some z → element_spot unit p y x q ≡ stepped p unit z → Sides sa x y
      Right : (z : ℤ) → sb ≡ true → x ≡ Some z → element_spot unit p y x q ≡ stepped q unit z → Sides sa x y

    sides : (sa : Bool) (x y : Option ℤ) → (sb ≡ true → y ≡ None) → (sa && is_there y || is_there x && sb) ≡ true → Sides sa x y
    sides true x (Some y) d e = Left y refl refl refl
    sides false None (Some y) d e = absurd cc
    sides false (Some x) (Some y) d e = let n = d e in absurd cc
    sides true None None d e = absurd cc
    sides true (Some x) None d e = Right x e refl refl
    sides false None None d e = absurd cc
    sides false (Some x) None d e = Right x e refl refl

-- ---- addresses and places

module _ (s : Sight) (free : object_with 4294967295 s.entities ≡ None)
  where
    abbrev S : State
    S = with_globals s

    abbrev run : Expression → Evaluation Value
    run e = eval_with (tables_in s) e no_callee

    abbrev find_place : Expression → Evaluation Pointer
    find_place e = place_with (tables_in s) e no_callee

    abbrev num : Expression → Bool
    num i = is_there (constant s i)

    -- where a spot is in the store
    abbrev Stands : Spot → Pointer → Type 0
    Stands Null q = q ≡ memory.Null
    Stands (Within i z) q = (n : ℕ) × (q ≡ Into n i) × (live_size (block_at S.store n) ≡ Some z)

    abbrev AddressAgrees : Option Spot → Outcome Value → Type 0
    AddressAgrees None o = (e : End) × (o ≡ Stop e S)
    AddressAgrees (Some p) o = (q : Pointer) × (o ≡ Normal (Points q) S) × Stands p q

    abbrev PlaceAgrees : Option Spot → Outcome Pointer → Type 0
    PlaceAgrees None o = (e : End) × (o ≡ Stop e S)
    PlaceAgrees (Some p) o = (q : Pointer) × (o ≡ Normal q S) × Stands p q

    abbrev Moves : Option Spot → Option Pointer → Type 0
    Moves None o = o ≡ None
    Moves (Some p) o = (q : Pointer) × (o ≡ Some q) × Stands p q

    moves : (p : Spot) (q : Pointer) (d : ℤ) → Stands p q → Moves (moved_spot p d) (moved S.store q d)
    moves Null q d h = ap (λ q. moved S.store q d) h
    moves (Within i z) q d h =
        subst (λ q. Moves (spot_in (pos i +ℤ d) z) (moved S.store q d)) (sym h.1)
        (subst (λ l. Moves (spot_in (pos i +ℤ d) z) (memory.offset_in h.0 (pos i +ℤ d) l)) (sym h.2) (by (pos i +ℤ d)))
      where
        fits : (j : ℕ) (b : Bool) → Moves (cond b (Some (Within j z)) None) (if b then Some (Into h.0 j) else None)
        fits j true = (Into h.0 j, refl, (h.0, refl, h.2))
        fits j false = refl

        by : (j : ℤ) → Moves (spot_in j z) (memory.offset_in h.0 j (Some z))
        by (pos j) = fits j (nat_le j z)
        by (negsuc j) = refl

    address_moved : (at : Place) (m : Option Spot) (o : Option Pointer) → Moves m o → AddressAgrees m (defined at (option_map Points o) S)
    address_moved at None o h = subst (λ o. (e : End) × (defined at (option_map Points o) S ≡ Stop e S)) (sym h) (_, refl)
    address_moved at (Some p) o h = (h.0, ap (λ o. defined at (option_map Points o) S) h.1, h.2)

    place_moved : (at : Place) (m : Option Spot) (o : Option Pointer) → Moves m o → PlaceAgrees m (defined at o S)
    place_moved at None o h = subst (λ o. (e : End) × (defined at o S ≡ Stop e S)) (sym h) (_, refl)
    place_moved at (Some p) o h = (h.0, ap (λ o. defined at o S) h.1, h.2)

    -- an address, and a number behind it or before it
    module _ (at : Place) (unit : ℕ) (m n : Evaluation Value) (z : ℤ)
      where
        abbrev sum : PlainType → Evaluation Value
        sum t = m >>= λ x. n >>= λ y. computed at (λ store. operate_values unit t operator.Add store x y)

        abbrev less : PlainType → Evaluation Value
        less t = m >>= λ x. n >>= λ y. computed at (λ store. operate_values unit t operator.Sub store x y)

        abbrev element : Evaluation Pointer
        element = m >>= λ x. n >>= λ y. computed at (λ store. indexed unit store x y)

        number_right : (p : Option Spot) → AddressAgrees p (m S) → n S ≡ Normal (Integer z) S → (t : PlainType) → AddressAgrees (stepped p unit z) (sum t S)
        number_right None h e t = (h.0, ap (λ o. on_outcome o (λ x. n >>= λ y. computed at (λ store. operate_values unit t operator.Add store x y))) h.1)
        number_right (Some p) h e t =
            subst (λ o. AddressAgrees (moved_spot p (z *ℤ pos unit)) (on_outcome o (λ x. n >>= λ y. computed at (λ store. operate_values unit t operator.Add store x y)))) (sym h.1)
            (subst (λ o. AddressAgrees (moved_spot p (z *ℤ pos unit)) (on_outcome o (λ y. computed at (λ store. operate_values unit t operator.Add store (Points h.0) y)))) (sym e)
            (address_moved at (moved_spot p (z *ℤ pos unit)) (moved S.store h.0 (z *ℤ pos unit)) (moves p h.0 (z *ℤ pos unit) h.2)))

        number_less : (p : Option Spot) → AddressAgrees p (m S) → n S ≡ Normal (Integer z) S → (t : PlainType) → AddressAgrees (stepped p unit (pos 0 -ℤ z)) (less t S)
        number_less None h e t = (h.0, ap (λ o. on_outcome o (λ x. n >>= λ y. computed at (λ store. operate_values unit t operator.Sub store x y))) h.1)
        number_less (Some p) h e t =
            subst (λ o. AddressAgrees (moved_spot p ((pos 0 -ℤ z) *ℤ pos unit)) (on_outcome o (λ x. n >>= λ y. computed at (λ store. operate_values unit t operator.Sub store x y)))) (sym h.1)
            (subst (λ o. AddressAgrees (moved_spot p ((pos 0 -ℤ z) *ℤ pos unit)) (on_outcome o (λ y. computed at (λ store. operate_values unit t operator.Sub store (Points h.0) y)))) (sym e)
            (address_moved at (moved_spot p ((pos 0 -ℤ z) *ℤ pos unit)) (moved S.store h.0 ((pos 0 -ℤ z) *ℤ pos unit)) (moves p h.0 ((pos 0 -ℤ z) *ℤ pos unit) h.2)))

        number_left : (p : Option Spot) → m S ≡ Normal (Integer z) S → AddressAgrees p (n S) → (t : PlainType) → AddressAgrees (stepped p unit z) (sum t S)
        number_left None e h t = (
          h.0,
          ap (λ o. on_outcome o (λ x. n >>= λ y. computed at (λ store. operate_values unit t operator.Add store x y))) e
              ∙ ap (λ o. on_outcome o (λ y. computed at (λ store. operate_values unit t operator.Add store (Integer z) y))) h.1,
        )
        number_left (Some p) e h t =
            subst (λ o. AddressAgrees (moved_spot p (z *ℤ pos unit)) (on_outcome o (λ x. n >>= λ y. computed at (λ store. operate_values unit t operator.Add store x y)))) (sym e)
            (subst (λ o. AddressAgrees (moved_spot p (z *ℤ pos unit)) (on_outcome o (λ y. computed at (λ store. operate_values unit t operator.Add store (Integer z) y)))) (sym h.1)
            (address_moved at (moved_spot p (z *ℤ pos unit)) (moved S.store h.0 (z *ℤ pos unit)) (moves p h.0 (z *ℤ pos unit) h.2)))

        index_right : (p : Option Spot) → AddressAgrees p (m S) → n S ≡ Normal (Integer z) S → PlaceAgrees (stepped p unit z) (element S)
        index_right None h e = (h.0, ap (λ o. on_outcome o (λ x. n >>= λ y. computed at (λ store. indexed unit store x y))) h.1)
        index_right (Some p) h e =
            subst (λ o. PlaceAgrees (moved_spot p (z *ℤ pos unit)) (on_outcome o (λ x. n >>= λ y. computed at (λ store. indexed unit store x y)))) (sym h.1)
            (subst (λ o. PlaceAgrees (moved_spot p (z *ℤ pos unit)) (on_outcome o (λ y. computed at (λ store. indexed unit store (Points h.0) y)))) (sym e)
            (place_moved at (moved_spot p (z *ℤ pos unit)) (moved S.store h.0 (z *ℤ pos unit)) (moves p h.0 (z *ℤ pos unit) h.2)))

        index_left : (p : Option Spot) → m S ≡ Normal (Integer z) S → AddressAgrees p (n S) → PlaceAgrees (stepped p unit z) (element S)
        index_left None e h = (
          h.0,
          ap (λ o. on_outcome o (λ x. n >>= λ y. computed at (λ store. indexed unit store x y))) e
              ∙ ap (λ o. on_outcome o (λ y. computed at (λ store. indexed unit store (Integer z) y))) h.1,
        )
        index_left (Some p) e h =
            subst (λ o. PlaceAgrees (moved_spot p (z *ℤ pos unit)) (on_outcome o (λ x. n >>= λ y. computed at (λ store. indexed unit store x y)))) (sym e)
            (subst (λ o. PlaceAgrees (moved_spot p (z *ℤ pos unit)) (on_outcome o (λ y. computed at (λ store. indexed unit store (Integer z) y)))) (sym h.1)
            (place_moved at (moved_spot p (z *ℤ pos unit)) (moved S.store h.0 (z *ℤ pos unit)) (moves p h.0 (z *ℤ pos unit) h.2)))

    -- an address that is taken
    taken_is : (a : Expression) (p : Option Spot) → PlaceAgrees p (find_place a S) → AddressAgrees (taken_spot a p) ((find_place a >>= address a) S)
    taken_is a None h = (h.0, ap (λ o. on_outcome o (address a)) h.1)
    taken_is a (Some p) h = subst (λ o. AddressAgrees (taken_spot a (Some p)) (on_outcome o (address a))) (sym h.1) (by (is_member a))
      where
        by : (b : Bool) → AddressAgrees (if b then moved_spot p (pos 0) else Some p)
            ((if b then computed (place_of a) (λ store. option_map Points (moved store h.0 (pos 0))) else give (Points h.0)) S)
        by true = address_moved (place_of a) (moved_spot p (pos 0)) (moved S.store h.0 (pos 0)) (moves p h.0 (pos 0) h.2)
        by false = (h.0, refl, h.2)

    -- a member
    member_is : (offset : ℕ) (p : Spot) (q : Pointer) → Stands p q → PlaceAgrees (member_spot offset (Some p)) (give (shifted q offset) S)
    member_is offset Null q h = subst (λ q. PlaceAgrees (Some Null) (give (shifted q offset) S)) (sym h) (memory.Null, refl, refl)
    member_is offset (Within i z) q h = subst (λ q. PlaceAgrees (Some (Within (i + offset) z)) (give (shifted q offset) S)) (sym h.1) (Into h.0 (i + offset), refl, (h.0, refl, h.2))

    member_of : (offset : ℕ) (m : Evaluation Pointer) (p : Option Spot) → PlaceAgrees p (m S) → PlaceAgrees (member_spot offset p) ((m >>= λ q. give (shifted q offset)) S)
    member_of offset m None h = (h.0, ap (λ o. on_outcome o (λ q. give (shifted q offset))) h.1)
    member_of offset m (Some p) h = subst (λ o. PlaceAgrees (member_spot offset (Some p)) (on_outcome o (λ q. give (shifted q offset)))) (sym h.1) (member_is offset p h.0 h.2)

    behind : (m : Evaluation Value) (p : Option Spot) → AddressAgrees p (m S) → PlaceAgrees p ((m >>= pointed_to) S)
    behind m None h = (h.0, ap (λ o. on_outcome o pointed_to) h.1)
    behind m (Some p) h = (h.0, ap (λ o. on_outcome o pointed_to) h.1, h.2)

    member_behind : (offset : ℕ) (m : Evaluation Value) (p : Option Spot) → AddressAgrees p (m S) → PlaceAgrees (member_spot offset p) ((m >>= λ x. pointed_to x >>= λ q. give (shifted q offset)) S)
    member_behind offset m None h = (h.0, ap (λ o. on_outcome o (λ x. pointed_to x >>= λ q. give (shifted q offset))) h.1)
    member_behind offset m (Some p) h =
        subst (λ o. PlaceAgrees (member_spot offset (Some p)) (on_outcome o (λ x. pointed_to x >>= λ q. give (shifted q offset)))) (sym h.1) (member_is offset p h.0 h.2)

    -- a cast of an address or of null to a pointer
    cast_address : (u : PlainType) (m : Evaluation Value) (p : Option Spot) → AddressAgrees p (m S) → AddressAgrees p ((m >>= λ x. give (converted (Ptr u) x)) S)
    cast_address u m None h = (h.0, ap (λ o. on_outcome o (λ x. give (converted (Ptr u) x))) h.1)
    cast_address u m (Some p) h = (h.0, ap (λ o. on_outcome o (λ x. give (converted (Ptr u) x))) h.1, h.2)

    cast_number : (u : PlainType) (m : Evaluation Value) (z : ℤ) → m S ≡ Normal (Integer z) S → AddressAgrees (Some Null) ((m >>= λ x. give (converted (Ptr u) x)) S)
    cast_number u m z e = (memory.Null, ap (λ o. on_outcome o (λ x. give (converted (Ptr u) x))) e, refl)

    -- a constant address is no number
    no_number : (e : Expression) → is_static_address num e ≡ true → is_constant (tables_in s) true e ≡ true → ⊥
    no_number (Node at t (Variable x)) a c = absurd cc
    no_number (Node at t (Unary unary.Address e)) a c = absurd cc
    no_number (Node at t (Unary unary.Deref e)) a c = absurd cc
    no_number (Node at t (Unary unary.Not e)) a c = absurd cc
    no_number (Node at t (Unary unary.Plus e)) a c = absurd cc
    no_number (Node at t (Unary unary.Minus e)) a c = absurd cc
    no_number (Node at t (Unary unary.Flip e)) a c = absurd cc
    no_number (Node at t (Binary operator.Add e f)) a c = by (no_number e) (no_number f) (is_static_address num e) refl a
      where
        by : (is_static_address num e ≡ true → is_constant (tables_in s) true e ≡ true → ⊥) → (is_static_address num f ≡ true → is_constant (tables_in s) true f ≡ true → ⊥)
            → (b : Bool) → is_static_address num e ≡ b → (b && num f || num e && is_static_address num f) ≡ true → ⊥
        by left right true h a = left h (and_first _ _ c)
        by left right false h a = right (and_second _ _ a) (and_second _ _ c)
    no_number (Node at t (Binary operator.Sub e f)) a c = no_number e (and_first _ _ a) (and_first _ _ c)
    no_number (Node at t (Binary operator.Mul e f)) a c = absurd cc
    no_number (Node at t (Binary operator.Div e f)) a c = absurd cc
    no_number (Node at t (Binary operator.Rem e f)) a c = absurd cc
    no_number (Node at t (Binary operator.Shl e f)) a c = absurd cc
    no_number (Node at t (Binary operator.Shr e f)) a c = absurd cc
    no_number (Node at t (Binary operator.BitAnd e f)) a c = absurd cc
    no_number (Node at t (Binary operator.BitOr e f)) a c = absurd cc
    no_number (Node at t (Binary operator.BitXor e f)) a c = absurd cc
    no_number (Node at t (Binary operator.Eq e f)) a c = absurd cc
    no_number (Node at t (Binary operator.Ne e f)) a c = absurd cc
    no_number (Node at t (Binary operator.Lt e f)) a c = absurd cc
    no_number (Node at t (Binary operator.Le e f)) a c = absurd cc
    no_number (Node at t (Binary operator.Gt e f)) a c = absurd cc
    no_number (Node at t (Binary operator.Ge e f)) a c = absurd cc
    no_number (Node at t (Cast Void e)) a c = absurd cc
    no_number (Node at t (Cast (Int k) e)) a c = absurd cc
    no_number (Node at t (Cast (Ptr u) e)) a c = absurd cc
    no_number (Node at t (Cast (Array u n) e)) a c = absurd cc
    no_number (Node at t (Cast (Struct n) e)) a c = absurd cc
    no_number (Node at t (Cast (Named x) e)) a c = absurd cc
    no_number (Node at t (Cast (StructTag x tag) e)) a c = absurd cc
    no_number (Node at t (Cast (EnumTag x tag) e)) a c = absurd cc
    no_number (Node at t (Number n k)) a c = absurd cc
    no_number (Node at t (Letter n)) a c = absurd cc
    no_number (Node at t (Text n)) a c = absurd cc
    no_number (Node at t (Both e f)) a c = absurd cc
    no_number (Node at t (Either e f)) a c = absurd cc
    no_number (Node at t (Choice e f g)) a c = absurd cc
    no_number (Node at t (Assign op e f)) a c = absurd cc
    no_number (Node at t (Bump op e)) a c = absurd cc
    no_number (Node at t (Call f es)) a c = absurd cc
    no_number (Node at t (SizeOfType u)) a c = absurd cc
    no_number (Node at t (SizeOfExpr e)) a c = absurd cc
    no_number (Node at t (Index e f)) a c = absurd cc
    no_number (Node at t (Dot e m)) a c = absurd cc
    no_number (Node at t (Arrow e m)) a c = absurd cc
    no_number (Node at t (Comma e f)) a c = absurd cc

    apart : (e : Expression) → is_static_address num e ≡ true → constant s e ≡ None
    apart e a = by (constant s e) refl
      where
        by : (o : Option ℤ) → constant s e ≡ o → o ≡ None
        by None h = refl
        by (Some z) h = absurd (no_number e a (constant_here S s e z h).0)

    value_of : (e : Expression) (z : ℤ) → constant s e ≡ Some z → run e S ≡ Normal (Integer z) S
    value_of e z h = (constant_here S s e z h).1

    -- the sides of a sum, of which one is an address
    module _ (at : Place) (a b : Expression)
      where
        abbrev unit : ℕ
        unit = unit_of s.structs (type_of a) (type_of b)

        abbrev spot : Option Spot
        spot = element_spot unit (address_spot s a) (constant s b) (constant s a) (address_spot s b)

        sum_sides : (is_static_address num a && num b || num a && is_static_address num b) ≡ true → Sides unit (address_spot s a) (address_spot s b) (is_static_address num b) (is_static_address num a) (constant s a) (constant s b)
        sum_sides h = sides unit (address_spot s a) (address_spot s b) (is_static_address num b) (is_static_address num a) (constant s a) (constant s b) (apart b) h

        module _ (left_is : is_static_address num a ≡ true → AddressAgrees (address_spot s a) (run a S)) (right_is : is_static_address num b ≡ true → AddressAgrees (address_spot s b) (run b S))
          where
            sum_is : (t : PlainType) → Sides unit (address_spot s a) (address_spot s b) (is_static_address num b) (is_static_address num a) (constant s a) (constant s b) → AddressAgrees spot (sum at unit (run a) (run b) (pos 0) t S)
            sum_is t (Left z ha hb e) = subst (λ o. AddressAgrees o (sum at unit (run a) (run b) (pos 0) t S)) (sym e) (number_right at unit (run a) (run b) z (address_spot s a) (left_is ha) (value_of b z hb) t)
            sum_is t (Right z hb ha e) = subst (λ o. AddressAgrees o (sum at unit (run a) (run b) (pos 0) t S)) (sym e) (number_left at unit (run a) (run b) z (address_spot s b) (value_of a z ha) (right_is hb) t)

            element_is : Sides unit (address_spot s a) (address_spot s b) (is_static_address num b) (is_static_address num a) (constant s a) (constant s b) → PlaceAgrees spot (element at unit (run a) (run b) (pos 0) S)
            element_is (Left z ha hb e) = subst (λ o. PlaceAgrees o (element at unit (run a) (run b) (pos 0) S)) (sym e) (index_right at unit (run a) (run b) z (address_spot s a) (left_is ha) (value_of b z hb))
            element_is (Right z hb ha e) = subst (λ o. PlaceAgrees o (element at unit (run a) (run b) (pos 0) S)) (sym e) (index_left at unit (run a) (run b) z (address_spot s b) (value_of a z ha) (right_is hb))

    not_there : (e : Expression) (b : Bool) → num e ≡ b → b ≡ true → (z : ℤ) × (constant s e ≡ Some z)
    not_there e b h t = by (constant s e) refl (h ∙ t)
      where
        by : (o : Option ℤ) → constant s e ≡ o → is_there o ≡ true → (z : ℤ) × (constant s e ≡ Some z)
        by (Some z) h i = (z, h)
        by None h i = absurd cc

    difference_is : (at : Place) (a b : Expression) (t : PlainType) → AddressAgrees (address_spot s a) (run a S) → num b ≡ true
        → AddressAgrees (difference_spot (unit_of s.structs (type_of a) (type_of b)) (address_spot s a) (constant s b)) (less at (unit_of s.structs (type_of a) (type_of b)) (run a) (run b) (pos 0) t S)
    difference_is at a b t h i =
        let z = not_there b true i refl in
        subst (λ o. AddressAgrees (difference_spot (unit_of s.structs (type_of a) (type_of b)) (address_spot s a) o) (less at (unit_of s.structs (type_of a) (type_of b)) (run a) (run b) (pos 0) t S)) (sym z.1)
        (number_less at (unit_of s.structs (type_of a) (type_of b)) (run a) (run b) z.0 (address_spot s a) h (value_of b z.0 z.1) t)

    cast_is : (u : PlainType) (a : Expression) → (is_static_place num a ≡ true → PlaceAgrees (place_spot s a) (find_place a S)) → (is_static_address num a ≡ true → AddressAgrees (address_spot s a) (run a S))
        → (b : Bool) → (if b then is_static_place num a else is_static_address num a || num a) ≡ true
        → AddressAgrees (if b then taken_spot a (place_spot s a) else null_or (constant s a) (address_spot s a))
        (cond b (find_place a >>= address a) (run a >>= λ x. give (converted (Ptr u) x)) S)
    cast_is u a hp ha true h = taken_is a (place_spot s a) (hp h)
    cast_is u a hp ha false h = by (constant s a) refl h
      where
        only : (b : Bool) → (b || false) ≡ true → b ≡ true
        only true e = refl
        only false e = absurd cc

        by : (o : Option ℤ) → constant s a ≡ o → (is_static_address num a || is_there o) ≡ true → AddressAgrees (null_or o (address_spot s a)) ((run a >>= λ x. give (converted (Ptr u) x)) S)
        by (Some z) e h = cast_number u (run a) z (value_of a z e)
        by None e h = cast_address u (run a) (address_spot s a) (ha (only (is_static_address num a) h))

    -- `NULL`, which is no object's name
    null_is : (at : Place) (t : PlainType) (x : ℕ) → nat_eq x 4294967295 ≡ true → find x S.scope ≡ None
    null_is at t x e = let same : x ≡ 4294967295 = grind (arith, nat_tests, e) in subst (λ x. find x S.scope ≡ None) (sym same) (not_found s.structs 4294967295 1 s.entities free)

    null_value : (at : Place) (b : Bool) → AddressAgrees (if b then Some Null else None) (cond (b && true) (give (Points memory.Null)) (stop (Over (Undefined at))) S)
    null_value at true = (memory.Null, refl, refl)
    null_value at false = (_, refl)

    no_library : (b : Bool) → not b ≡ true → b ≡ false
    no_library true e = absurd cc
    no_library false e = refl

    of_library : (b : Bool) → not b ≡ false → b ≡ true
    of_library true e = refl
    of_library false e = absurd cc

    object_is : (at : Place) (x : ℕ) (o : Option ℕ) → object_size s.structs x s.entities ≡ o → PlaceAgrees (start_spot o) (defined at (start_of (find x S.scope)) S)
    object_is at x None e = subst (λ o. PlaceAgrees None (defined at (start_of o) S)) (sym (not_found s.structs x 1 s.entities (no_size s.structs x s.entities e))) (_, refl)
    object_is at x (Some z) e =
        let r = found s.structs x 1 s.entities z e in
        let one : 1 + r.index ≡ suc r.index = omega arith in
        subst (λ o. PlaceAgrees (Some (Within 0 z)) (defined at (start_of o) S)) (sym (r.number ∙ ap Some one))
        (Into (suc r.index) 0, refl, (suc r.index, refl, ap live_size r.at ∙ r.live))

    mutual
      pub address_is : (e : Expression) → is_static_address num e ≡ true → AddressAgrees (address_spot s e) (run e S)
      address_is (Node at t (Variable x)) a =
          subst (λ b. AddressAgrees (if b && is_pointer t then Some Null else None) (named at t x (find x.decl S.scope) S)) (sym a)
          (subst (λ o. AddressAgrees (if is_pointer t then Some Null else None) (named at t x o S)) (sym (null_is at t x.decl a))
          (subst (λ b. AddressAgrees (if is_pointer t then Some Null else None) (cond (is_pointer t && b) (give (Points memory.Null)) (stop (Over (Undefined at))) S)) (sym a) (null_value at (is_pointer t))))
      address_is (Node at t (Unary unary.Address e)) a = taken_is e (place_spot s e) (place_is e a)
      address_is (Node at t (Unary unary.Deref e)) a = absurd cc
      address_is (Node at t (Unary unary.Not e)) a = absurd cc
      address_is (Node at t (Unary unary.Plus e)) a = absurd cc
      address_is (Node at t (Unary unary.Minus e)) a = absurd cc
      address_is (Node at t (Unary unary.Flip e)) a = absurd cc
      address_is (Node at t (Binary operator.Add e f)) a = sum_is at e f (address_is e) (address_is f) t (sum_sides at e f a)
      address_is (Node at t (Binary operator.Sub e f)) a = difference_is at e f t (address_is e (and_first _ _ a)) (and_second _ _ a)
      address_is (Node at t (Binary operator.Mul e f)) a = absurd cc
      address_is (Node at t (Binary operator.Div e f)) a = absurd cc
      address_is (Node at t (Binary operator.Rem e f)) a = absurd cc
      address_is (Node at t (Binary operator.Shl e f)) a = absurd cc
      address_is (Node at t (Binary operator.Shr e f)) a = absurd cc
      address_is (Node at t (Binary operator.BitAnd e f)) a = absurd cc
      address_is (Node at t (Binary operator.BitOr e f)) a = absurd cc
      address_is (Node at t (Binary operator.BitXor e f)) a = absurd cc
      address_is (Node at t (Binary operator.Eq e f)) a = absurd cc
      address_is (Node at t (Binary operator.Ne e f)) a = absurd cc
      address_is (Node at t (Binary operator.Lt e f)) a = absurd cc
      address_is (Node at t (Binary operator.Le e f)) a = absurd cc
      address_is (Node at t (Binary operator.Gt e f)) a = absurd cc
      address_is (Node at t (Binary operator.Ge e f)) a = absurd cc
      address_is (Node at t (Cast (Ptr u) e)) a = cast_is u e (place_is e) (address_is e) (is_array (type_of e)) a
      address_is (Node at t (Cast Void e)) a = absurd cc
      address_is (Node at t (Cast (Int k) e)) a = absurd cc
      address_is (Node at t (Cast (Array u n) e)) a = absurd cc
      address_is (Node at t (Cast (Struct n) e)) a = absurd cc
      address_is (Node at t (Cast (Named x) e)) a = absurd cc
      address_is (Node at t (Cast (StructTag x tag) e)) a = absurd cc
      address_is (Node at t (Cast (EnumTag x tag) e)) a = absurd cc
      address_is (Node at t (Number n k)) a = absurd cc
      address_is (Node at t (Letter n)) a = absurd cc
      address_is (Node at t (Text n)) a = absurd cc
      address_is (Node at t (Both e f)) a = absurd cc
      address_is (Node at t (Either e f)) a = absurd cc
      address_is (Node at t (Choice e f g)) a = absurd cc
      address_is (Node at t (Assign op e f)) a = absurd cc
      address_is (Node at t (Bump op e)) a = absurd cc
      address_is (Node at t (Call f es)) a = absurd cc
      address_is (Node at t (SizeOfType u)) a = absurd cc
      address_is (Node at t (SizeOfExpr e)) a = absurd cc
      address_is (Node at t (Index e f)) a = absurd cc
      address_is (Node at t (Dot e m)) a = absurd cc
      address_is (Node at t (Arrow e m)) a = absurd cc
      address_is (Node at t (Comma e f)) a = absurd cc

      pub place_is : (e : Expression) → is_static_place num e ≡ true → PlaceAgrees (place_spot s e) (find_place e S)
      place_is (Node at t (Variable x)) a =
          subst (λ b. PlaceAgrees (if b then None else start_spot (object_size s.structs x.decl s.entities)) (find_place (Node at t (Variable x)) S)) (sym (no_library (is_of_library x) a))
          (object_is at x.decl (object_size s.structs x.decl s.entities) refl)
      place_is (Node at t (Unary unary.Deref e)) a = behind (run e) (address_spot s e) (address_is e a)
      place_is (Node at t (Unary unary.Address e)) a = absurd cc
      place_is (Node at t (Unary unary.Not e)) a = absurd cc
      place_is (Node at t (Unary unary.Plus e)) a = absurd cc
      place_is (Node at t (Unary unary.Minus e)) a = absurd cc
      place_is (Node at t (Unary unary.Flip e)) a = absurd cc
      place_is (Node at t (Index e f)) a = element_is at e f (address_is e) (address_is f) (sum_sides at e f a)
      place_is (Node at t (Dot e m)) a = member_of (offset_of s.structs (type_of e) m) (find_place e) (place_spot s e) (place_is e a)
      place_is (Node at t (Arrow e m)) a = member_behind (offset_of s.structs (target_of (type_of e)) m) (run e) (address_spot s e) (address_is e a)
      place_is (Node at t (Number n k)) a = absurd cc
      place_is (Node at t (Letter n)) a = absurd cc
      place_is (Node at t (Text n)) a = absurd cc
      place_is (Node at t (Binary op e f)) a = absurd cc
      place_is (Node at t (Both e f)) a = absurd cc
      place_is (Node at t (Either e f)) a = absurd cc
      place_is (Node at t (Choice e f g)) a = absurd cc
      place_is (Node at t (Assign op e f)) a = absurd cc
      place_is (Node at t (Bump op e)) a = absurd cc
      place_is (Node at t (Call f es)) a = absurd cc
      place_is (Node at t (Cast to e)) a = absurd cc
      place_is (Node at t (SizeOfType u)) a = absurd cc
      place_is (Node at t (SizeOfExpr e)) a = absurd cc
      place_is (Node at t (Comma e f)) a = absurd cc

    -- what is no constant address has no spot
    null_or_none : (o : Option ℤ) (p : Option Spot) (b : Bool) → (b ≡ false → p ≡ None) → (b || is_there o) ≡ false → null_or o p ≡ None
    null_or_none (Some z) p true h e = absurd cc
    null_or_none (Some z) p false h e = absurd cc
    null_or_none None p true h e = absurd cc
    null_or_none None p false h e = h refl

    difference_none : (unit : ℕ) (p : Option Spot) (o : Option ℤ) (b : Bool) → (b ≡ false → p ≡ None) → (b && is_there o) ≡ false → difference_spot unit p o ≡ None
    difference_none unit p None b h e = refl
    difference_none unit p (Some z) true h e = absurd cc
    difference_none unit p (Some z) false h e = ap (λ o. stepped o unit (pos 0 -ℤ z)) (h refl)

    pointer_none : (e : Expression) (b : Bool) → (is_static_place num e ≡ false → place_spot s e ≡ None) → (is_static_address num e ≡ false → address_spot s e ≡ None)
        → (if b then is_static_place num e else is_static_address num e || num e) ≡ false → (if b then taken_spot e (place_spot s e) else null_or (constant s e) (address_spot s e)) ≡ None
    pointer_none e true hp ha h = ap (taken_spot e) (hp h)
    pointer_none e false hp ha h = null_or_none (constant s e) (address_spot s e) (is_static_address num e) ha h

    mutual
      pub address_none : (e : Expression) → is_static_address num e ≡ false → address_spot s e ≡ None
      address_none (Node at t (Variable x)) a = ap (λ b. if b && is_pointer t then Some Null else None) a
      address_none (Node at t (Unary unary.Address e)) a = ap (taken_spot e) (place_none e a)
      address_none (Node at t (Unary unary.Deref e)) a = refl
      address_none (Node at t (Unary unary.Not e)) a = refl
      address_none (Node at t (Unary unary.Plus e)) a = refl
      address_none (Node at t (Unary unary.Minus e)) a = refl
      address_none (Node at t (Unary unary.Flip e)) a = refl
      address_none (Node at t (Binary operator.Add e f)) a =
          element_none (unit_of s.structs (type_of e) (type_of f)) (address_spot s e) (address_spot s f) (is_static_address num f) (constant s e) (constant s f) (is_static_address num e) (address_none e) (address_none f) a
      address_none (Node at t (Binary operator.Sub e f)) a = difference_none (unit_of s.structs (type_of e) (type_of f)) (address_spot s e) (constant s f) (is_static_address num e) (address_none e) a
      address_none (Node at t (Binary operator.Mul e f)) a = refl
      address_none (Node at t (Binary operator.Div e f)) a = refl
      address_none (Node at t (Binary operator.Rem e f)) a = refl
      address_none (Node at t (Binary operator.Shl e f)) a = refl
      address_none (Node at t (Binary operator.Shr e f)) a = refl
      address_none (Node at t (Binary operator.BitAnd e f)) a = refl
      address_none (Node at t (Binary operator.BitOr e f)) a = refl
      address_none (Node at t (Binary operator.BitXor e f)) a = refl
      address_none (Node at t (Binary operator.Eq e f)) a = refl
      address_none (Node at t (Binary operator.Ne e f)) a = refl
      address_none (Node at t (Binary operator.Lt e f)) a = refl
      address_none (Node at t (Binary operator.Le e f)) a = refl
      address_none (Node at t (Binary operator.Gt e f)) a = refl
      address_none (Node at t (Binary operator.Ge e f)) a = refl
      address_none (Node at t (Cast (Ptr u) e)) a = pointer_none e (is_array (type_of e)) (place_none e) (address_none e) a
      address_none (Node at t (Cast Void e)) a = refl
      address_none (Node at t (Cast (Int k) e)) a = refl
      address_none (Node at t (Cast (Array u n) e)) a = refl
      address_none (Node at t (Cast (Struct n) e)) a = refl
      address_none (Node at t (Cast (Named x) e)) a = refl
      address_none (Node at t (Cast (StructTag x tag) e)) a = refl
      address_none (Node at t (Cast (EnumTag x tag) e)) a = refl
      address_none (Node at t (Number n k)) a = refl
      address_none (Node at t (Letter n)) a = refl
      address_none (Node at t (Text n)) a = refl
      address_none (Node at t (Both e f)) a = refl
      address_none (Node at t (Either e f)) a = refl
      address_none (Node at t (Choice e f g)) a = refl
      address_none (Node at t (Assign op e f)) a = refl
      address_none (Node at t (Bump op e)) a = refl
      address_none (Node at t (Call f es)) a = refl
      address_none (Node at t (SizeOfType u)) a = refl
      address_none (Node at t (SizeOfExpr e)) a = refl
      address_none (Node at t (Index e f)) a = refl
      address_none (Node at t (Dot e m)) a = refl
      address_none (Node at t (Arrow e m)) a = refl
      address_none (Node at t (Comma e f)) a = refl

      pub place_none : (e : Expression) → is_static_place num e ≡ false → place_spot s e ≡ None
      place_none (Node at t (Variable x)) a = ap (λ b. if b then None else start_spot (object_size s.structs x.decl s.entities)) (of_library (is_of_library x) a)
      place_none (Node at t (Unary unary.Deref e)) a = address_none e a
      place_none (Node at t (Unary unary.Address e)) a = refl
      place_none (Node at t (Unary unary.Not e)) a = refl
      place_none (Node at t (Unary unary.Plus e)) a = refl
      place_none (Node at t (Unary unary.Minus e)) a = refl
      place_none (Node at t (Unary unary.Flip e)) a = refl
      place_none (Node at t (Index e f)) a =
          element_none (unit_of s.structs (type_of e) (type_of f)) (address_spot s e) (address_spot s f) (is_static_address num f) (constant s e) (constant s f) (is_static_address num e) (address_none e) (address_none f) a
      place_none (Node at t (Dot e m)) a = ap (member_spot (offset_of s.structs (type_of e) m)) (place_none e a)
      place_none (Node at t (Arrow e m)) a = ap (member_spot (offset_of s.structs (target_of (type_of e)) m)) (address_none e a)
      place_none (Node at t (Number n k)) a = refl
      place_none (Node at t (Letter n)) a = refl
      place_none (Node at t (Text n)) a = refl
      place_none (Node at t (Binary op e f)) a = refl
      place_none (Node at t (Both e f)) a = refl
      place_none (Node at t (Either e f)) a = refl
      place_none (Node at t (Choice e f g)) a = refl
      place_none (Node at t (Assign op e f)) a = refl
      place_none (Node at t (Bump op e)) a = refl
      place_none (Node at t (Call f es)) a = refl
      place_none (Node at t (Cast to e)) a = refl
      place_none (Node at t (SizeOfType u)) a = refl
      place_none (Node at t (SizeOfExpr e)) a = refl
      place_none (Node at t (Comma e f)) a = refl

    valued : (p : Option Spot) (o : Outcome Value) → AddressAgrees p o → is_there p ≡ has_value o
    valued None o h = sym (ap has_value h.1)
    valued (Some p) o h = sym (ap has_value h.1)

    -- a pointer's expression is a constant address with a value where it has a spot
    pub spot_is : (e : Expression) → is_pointer (type_of e) ≡ true → is_there (address_spot s e) ≡ is_address s e
    spot_is e p = by (is_static_address num e) refl ∙ ap (λ b. b && is_static_address num e && has_value (run e S)) (sym p)
      where
        by : (b : Bool) → is_static_address num e ≡ b → is_there (address_spot s e) ≡ (true && is_static_address num e && has_value (run e S))
        by true h = valued (address_spot s e) (run e S) (address_is e h) ∙ ap (λ b. true && b && has_value (run e S)) (sym h)
        by false h = ap is_there (address_none e h) ∙ ap (λ b. true && b && has_value (run e S)) (sym h)
