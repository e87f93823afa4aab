-- Code takes registers behind those taken before.
use Rattle.std.proofs.Common.{◌≡◌, ℤ, ◌≤◌, refl, Option, Some, None, Bool, true, false, if◌then◌else◌, List, [], ◌∷◌, ◌++◌, length, length-append, arith}
use Rattle.c_syntax.specs.declared.expression.BinOp.{BinOp}
use Rattle.c_syntax.specs.declared.logic.Connective.{Connective}
use Rattle.c_syntax.specs.declared.logic.Label.TheVariants.{Here, Pre, Marked}
use Rattle.c_simulation.specs.Keeping.{Kept}
use Rattle.annot_simulation.specs.Held.{Held}
use Rattle.c_syntax.specs.declared.logic.Connective.TheVariants.{And, Xor, Or, Implies, Iff}
use Rattle.c_syntax.specs.declared.annotation.Relation.{Relation}
use Rattle.c_syntax.specs.declared.annotation.Relation.TheVariants as relation
use Rattle.c_syntax.specs.Ctypes.{PlainType}
use Rattle.c_syntax.specs.Ctypes as ctype
use Rattle.c_syntax.specs.declared.logic.Quantifier.{Quantifier}
use Rattle.c_syntax.specs.Logic.{LogicTerm, Links, NoLink, Linked, Zone, Zones, NoZone, Another, Predicate, Binder, Guards, NoGuard, Guarded, range_of}
use Rattle.c_syntax.specs.Logic as logic
use Rattle.c_syntax.specs.Programs.{TranslationUnit}
use Rattle.c_model.specs.Ranges.{width_of_range}
use Rattle.c_model.specs.Quantifiers.{first_of}
use Rattle.c_model.specs.TermRanges.{lowered, raised}
use Rattle.mon_syntax.specs.declared.tree.MonType.{MonType}
use Rattle.mon_syntax.specs.declared.tree.MonType.TheVariants.{I32, I64, I128, Ptr}
use Rattle.mon_syntax.specs.Registers.{Bindings}
use Rattle.mon_syntax.specs.Trees.{MonExpression, Register}
use Rattle.c_effects.specs.Expressions.{in_type, pointer_to}
use Rattle.annot_simulation.specs.Binders.{bounded_code, greatest_of, index_behind, least_of, over_code, tried_with, tries_code, with_last}
use Rattle.mem_preds.specs.Questions.{type_of_fact}
use Rattle.annot_simulation.specs.Pointers.{PointerCode, start_pointer, null_code, member_code, pointer_there, addresses_code}
use Rattle.annot_simulation.specs.Code.{term_type, Reading, Side, OfNumber, OfPointer, used_by, side_by, again, related_code, is_pointer_term, is_null_term, pointer_code, place_code, zone_code, zones_code}
use Rattle.annot_simulation.specs.Code.{Code, operated, is_total, variable_code, is_known, connected, left_first, both_asked, is_sure, term_code, chain_code, pred_code, sure_readings, sure_readings_of_term, known_at_right}
use Rattle.annot_simulation.specs.Code.{type_of_width, wider, working, width_of, type_of, binary_value, guards_code}

pub longer : (rs ts : List MonType) → length rs ≤ length (rs ++ ts)
longer rs ts = omega (arith, length-append rs ts)

pub operated_grows : (t : Bool) (op : BinOp) (w k tb : MonType) (x y : Code) (e : MonExpression) → length y.used ≤ length (operated t op w k tb x y e).used
operated_grows true op w k tb x y e = omega arith
operated_grows false op w k tb x y e = longer y.used (I32 ∷ w ∷ [])

-- a branch takes two registers
pub connected_grows : (c : Connective) (p q : Code) → length q.used ≤ length (connected c p q).used
connected_grows c p q = by (is_sure q)
  where
    first : (o : Connective) → length q.used ≤ length (left_first o p q).used
    first And = longer q.used (I32 ∷ I32 ∷ [])
    first Or = longer q.used (I32 ∷ I32 ∷ [])
    first Implies = longer q.used (I32 ∷ I32 ∷ [])
    first Iff = omega arith
    first Xor = omega arith

    by : (t : Bool) → length q.used ≤ length (if t then both_asked c p q else left_first c p q).used
    by true = omega arith
    by false = first c

pub there_grows : (known : Bool) (t : Option PlainType) (c : PointerCode) → length c.used ≤ length (pointer_there known t c).used
there_grows true (Some (ctype.Ptr u)) c = longer c.used (Ptr ∷ [])
there_grows false (Some (ctype.Ptr u)) c = longer c.used (I32 ∷ Ptr ∷ [])
there_grows known (Some (ctype.Array u n)) c = omega arith
there_grows known (Some (ctype.Int k)) c = omega arith
there_grows known (Some (ctype.Struct n)) c = omega arith
there_grows known (Some ctype.Void) c = omega arith
there_grows known (Some (ctype.Named x)) c = omega arith
there_grows known (Some (ctype.StructTag x tag)) c = omega arith
there_grows known (Some (ctype.EnumTag x at)) c = omega arith
there_grows known None c = omega arith

pub addresses_grows : (r : Relation) (m n : Bool) (c d : PointerCode) → length d.used ≤ length (addresses_code r m n c d).used
addresses_grows relation.Eq m n c d = longer d.used (I32 ∷ I32 ∷ I32 ∷ [])
addresses_grows relation.Ne m n c d = longer d.used (I32 ∷ I32 ∷ I32 ∷ [])
addresses_grows relation.Lt m n c d = longer d.used (I32 ∷ I32 ∷ Ptr ∷ Ptr ∷ I64 ∷ I64 ∷ [])
addresses_grows relation.Le m n c d = longer d.used (I32 ∷ I32 ∷ Ptr ∷ Ptr ∷ I64 ∷ I64 ∷ [])
addresses_grows relation.Gt m n c d = longer d.used (I32 ∷ I32 ∷ Ptr ∷ Ptr ∷ I64 ∷ I64 ∷ [])
addresses_grows relation.Ge m n c d = longer d.used (I32 ∷ I32 ∷ Ptr ∷ Ptr ∷ I64 ∷ I64 ∷ [])

pub related_grows : (r : Relation) (t u : LogicTerm) (x y : Side) → length (used_by y) ≤ length (related_code r t u x y).used
related_grows r t u (OfNumber x) (OfNumber y) = omega arith
related_grows r t u (OfNumber x) (OfPointer y) = addresses_grows r (is_null_term t) (is_null_term u) (null_code x) y
related_grows r t u (OfPointer x) (OfNumber y) = addresses_grows r (is_null_term t) (is_null_term u) x (null_code y)
related_grows r t u (OfPointer x) (OfPointer y) = addresses_grows r (is_null_term t) (is_null_term u) x y

pub again_used : (x : Side) (rs : List MonType) → length (used_by (again x rs)) ≡ length rs
again_used (OfNumber c) rs = refl
again_used (OfPointer c) rs = refl

pub side_grows : (m : Bool) (c : PointerCode) (d : Code) (rs : List MonType) → length rs ≤ length c.used → length rs ≤ length d.used → length rs ≤ length (used_by (side_by m c d))
side_grows true c d rs h g = h
side_grows false c d rs h g = g

-- ---- binders

with_last_grows : (k : MonType) (to : MonExpression) (o : Option ℤ) (go : MonExpression → List MonType → Code) (rs : List MonType) → ((to : MonExpression) (js : List MonType) → length js ≤ length (go to js).used)
    → length rs ≤ length (with_last k to o go rs).used
with_last_grows k to None go rs h = h to rs
with_last_grows k to (Some z) go rs h = let x = h (Register (length rs)) (rs ++ k ∷ []) in omega (arith, x, longer rs (k ∷ []))

module _ (q : Quantifier) (k : MonType) (to : MonExpression) (most : ℤ) (inner : List Held → List MonType → Code) (h : (held : List Held) (js : List MonType) → length js ≤ length (inner held js).used) where
  pub over_grows : (from : MonExpression) (least : ℤ) (bs : List Binder) (held : List Held) (rs : List MonType) → length rs ≤ length (over_code q k to most inner from least bs held rs).used
  over_grows from least [] held rs = h held rs
  over_grows from least (b ∷ bs) held rs =
      with_last_grows k to (greatest_of b.kind most)
      (λ last js. tries_code q (record { above = b.above; kind = k; least = least_of b.kind (raised b.above least); from = from; to = last }) (length js) (others js)) rs (λ last js.
      let x = over_grows (Register (index_behind js)) (first_of b.kind (raised b.above least)) bs (record { number = b.place.offset; register = index_behind js; kind = k } ∷ held) (tried_with k js) in
      omega (arith, x, longer js (I32 ∷ I32 ∷ I32 ∷ k ∷ [])))
    where
      others : List MonType → Code
      others js =
          over_code q k to most inner (Register (index_behind js)) (first_of b.kind (raised b.above least)) bs (record { number = b.place.offset; register = index_behind js; kind = k } ∷ held) (tried_with k js)

pub bounded_grows : (q : Quantifier) (below : Bool) (k : MonType) (from to : MonExpression) (least most : ℤ) (bs : List Binder) (inner : List Held → List MonType → Code) (held : List Held) (rs : List MonType)
    → ((held : List Held) (js : List MonType) → length js ≤ length (inner held js).used) → length rs ≤ length (bounded_code q below k from to least most bs inner held rs).used
bounded_grows q below k from to least most bs inner held rs h =
    let x = over_grows q k (Register (length rs)) most inner h from least bs held (rs ++ k ∷ []) in omega (arith, x, longer rs (k ∷ []))

module _ (p : TranslationUnit) (bound : Bindings) (plan : List Kept) where
  variable_grows : (t : Bool) (w : MonType) (x : Reading) (rs : List MonType) → length rs ≤ length (variable_code p bound t w x rs).used
  variable_grows true w x rs = omega arith
  variable_grows false w x rs = longer rs (I32 ∷ [])

  mutual
    pub term_grows : (t : LogicTerm) (held : List Held) (known : List Reading) (rs : List MonType) → length rs ≤ length (term_code p bound plan t held known rs).used
    term_grows (logic.Number at t r n) held known rs = omega arith
    term_grows (logic.Letter at t r n) held known rs = omega arith
    term_grows (logic.Variable at t r x) held known rs = variable_grows (is_known known (record { decl = x.decl; kind = term_type t })) (type_of_width (width_of_range r)) (record { decl = x.decl; kind = term_type t }) rs
    term_grows (logic.Unary at t r op a) held known rs = term_grows a held known rs
    term_grows (logic.Binary at t r op a b) held known rs =
        let x = term_grows a held known rs in
        let y = term_grows b held known (term_code p bound plan a held known rs).used in
        let z = operated_grows (is_total op (range_of b)) op (type_of_width (width_of_range r)) (type_of_width (working op (width_of_range r) (width_of a) (width_of b))) (type_of b) (term_code p bound plan a held known rs)
        (term_code p bound plan b held known (term_code p bound plan a held known rs).used)
        (binary_value op (type_of_width (width_of_range r)) (type_of_width (working op (width_of_range r) (width_of a) (width_of b))) (type_of a) (type_of b) (range_of b) (term_code p bound plan a held known rs).value
        (term_code p bound plan b held known (term_code p bound plan a held known rs).used).value) in
        omega (arith, x, y, z)
    term_grows (logic.Cast at t r to a) held known rs = term_grows a held known rs
    term_grows (logic.Choice at t r c a b) held known rs =
        let x = pred_grows c held known rs in
        let y = term_grows a held (known ++ sure_readings c) (pred_code p bound plan c held known rs).used in
        let js = (term_code p bound plan a held (known ++ sure_readings c) (pred_code p bound plan c held known rs).used).used in
        let z = term_grows b held (known ++ sure_readings c) js in
        let l = longer (term_code p bound plan b held (known ++ sure_readings c) js).used (I32 ∷ type_of_width (width_of_range r) ∷ []) in
        omega (arith, x, y, z, l)
    term_grows (logic.Deref at t r a) held known rs =
        let x = pointer_grows a held known rs in
        let l = longer (pointer_code p bound plan a held known rs).used (I32 ∷ []) in
        omega (arith, x, l)
    term_grows (logic.Member at t r d a) held known rs =
        let x = place_grows a held known rs in
        let l = longer (place_code p bound plan a held known rs).used (I32 ∷ []) in
        omega (arith, x, l)
    term_grows (logic.Difference at t r n a b) held known rs =
        let x = pointer_grows a held known rs in
        let y = pointer_grows b held known (pointer_code p bound plan a held known rs).used in
        let l = longer (pointer_code p bound plan b held known (pointer_code p bound plan a held known rs).used).used (I32 ∷ I32 ∷ Ptr ∷ Ptr ∷ I64 ∷ I64 ∷ []) in
        omega (arith, x, y, l)
    term_grows (logic.Told at t r f a) held known rs =
        let x = pointer_grows a held known rs in
        let l = longer (pointer_code p bound plan a held known rs).used (I32 ∷ type_of_fact f ∷ []) in
        omega (arith, x, l)
    term_grows (logic.At at t r Here a) held known rs =
        let x = term_grows a held known rs in
        let l = longer (term_code p bound plan a held known rs).used (I32 ∷ type_of a ∷ []) in
        omega (arith, x, l)
    term_grows (logic.At at t r Pre a) held known rs = omega arith
    term_grows (logic.At at t r (Marked l) a) held known rs = omega arith
    term_grows _ held known rs = omega arith

    pub pointer_grows : (t : LogicTerm) (held : List Held) (known : List Reading) (rs : List MonType) → length rs ≤ length (pointer_code p bound plan t held known rs).used
    pointer_grows (logic.Variable at t r x) held known rs = there_grows (is_known known (record { decl = x.decl; kind = term_type t })) t (start_pointer (pointer_to p bound x.decl) rs)
    pointer_grows (logic.Deref at t r a) held known rs =
        let x = pointer_grows a held known rs in
        let l = there_grows false t (pointer_code p bound plan a held known rs) in
        omega (arith, x, l)
    pointer_grows (logic.Member at t r d a) held known rs =
        let x = place_grows a held known rs in
        let l = there_grows false t (member_code d (place_code p bound plan a held known rs)) in
        omega (arith, x, l)
    pointer_grows (logic.Address at t r a) held known rs = place_grows a held known rs
    pointer_grows (logic.Moved at t r op n a b) held known rs =
        let x = pointer_grows a held known rs in
        let y = term_grows b held known (pointer_code p bound plan a held known rs).used in
        omega (arith, x, y)
    pointer_grows (logic.Cast at t r to a) held known rs = pointer_grows a held known rs
    pointer_grows (logic.Choice at t r c a b) held known rs =
        let x = pred_grows c held known rs in
        let y = pointer_grows a held (known ++ sure_readings c) (pred_code p bound plan c held known rs).used in
        let js = (pointer_code p bound plan a held (known ++ sure_readings c) (pred_code p bound plan c held known rs).used).used in
        let z = pointer_grows b held (known ++ sure_readings c) js in
        let l = longer (pointer_code p bound plan b held (known ++ sure_readings c) js).used (I32 ∷ Ptr ∷ I128 ∷ []) in
        omega (arith, x, y, z, l)
    pointer_grows (logic.Told at t r f a) held known rs =
        let x = pointer_grows a held known rs in
        let l = longer (pointer_code p bound plan a held known rs).used (I32 ∷ Ptr ∷ []) in
        omega (arith, x, l)
    pointer_grows (logic.At at t r Here a) held known rs = pointer_grows a held known rs
    pointer_grows (logic.At at t r Pre a) held known rs = omega arith
    pointer_grows (logic.At at t r (Marked l) a) held known rs = omega arith
    pointer_grows _ held known rs = omega arith

    pub place_grows : (t : LogicTerm) (held : List Held) (known : List Reading) (rs : List MonType) → length rs ≤ length (place_code p bound plan t held known rs).used
    place_grows (logic.Deref at t r a) held known rs = pointer_grows a held known rs
    place_grows (logic.Member at t r d a) held known rs = place_grows a held known rs
    place_grows _ held known rs = omega arith

    pub zone_grows : (z : Zone) (held : List Held) (known : List Reading) (rs : List MonType) → length rs ≤ length (zone_code p bound plan z held known rs).pointer.used
    zone_grows (logic.Object at n m a) held known rs = pointer_grows a held known rs
    zone_grows (logic.Elements at n m a lo hi) held known rs =
        let js = (pointer_code p bound plan a held known rs).used in
        let x = pointer_grows a held known rs in
        let y = term_grows lo held known js in
        let z = term_grows hi held known (term_code p bound plan lo held known js).used in
        omega (arith, x, y, z)

    pub zones_grows : (zs : Zones) (held : List Held) (known : List Reading) (rs : List MonType) → length rs ≤ length (zones_code p bound plan zs held known rs).used
    zones_grows NoZone held known rs = omega arith
    zones_grows (Another z rest) held known rs =
        let x = zone_grows z held known rs in
        let y = zones_grows rest held known (zone_code p bound plan z held known rs).pointer.used in
        omega (arith, x, y)

    pub chain_grows : (t : LogicTerm) (x : Side) (l : Links) (held : List Held) (known : List Reading) → length (used_by x) ≤ length (chain_code p bound plan t x l held known).used
    chain_grows t x NoLink held known = omega arith
    chain_grows t x (Linked at r u NoLink) held known =
        let y = side_by (is_pointer_term u) (pointer_code p bound plan u held known (used_by x)) (term_code p bound plan u held known (used_by x)) in
        let a = side_grows (is_pointer_term u) (pointer_code p bound plan u held known (used_by x)) (term_code p bound plan u held known (used_by x)) (used_by x) (pointer_grows u held known (used_by x)) (term_grows u held known (used_by x)) in
        let b = related_grows r t u x y in
        omega (arith, a, b)
    chain_grows t x (Linked at r u (Linked at2 r2 v rest)) held known =
        let y = side_by (is_pointer_term u) (pointer_code p bound plan u held known (used_by x)) (term_code p bound plan u held known (used_by x)) in
        let z = related_code r t u x y in
        let more = known ++ (sure_readings_of_term t ++ sure_readings_of_term u) in
        let a = side_grows (is_pointer_term u) (pointer_code p bound plan u held known (used_by x)) (term_code p bound plan u held known (used_by x)) (used_by x) (pointer_grows u held known (used_by x)) (term_grows u held known (used_by x)) in
        let b = related_grows r t u x y in
        let c = chain_grows u (again y z.used) (Linked at2 r2 v rest) held more in
        let d = again_used y z.used in
        let e = connected_grows And z (chain_code p bound plan u (again y z.used) (Linked at2 r2 v rest) held more) in
        omega (arith, a, b, c, d, e)

    pub pred_grows : (q : Predicate) (held : List Held) (known : List Reading) (rs : List MonType) → length rs ≤ length (pred_code p bound plan q held known rs).used
    pred_grows (logic.Truth at b) held known rs = omega arith
    pred_grows (logic.NonZero at t) held known rs = term_grows t held known rs
    pred_grows (logic.Chain at t links) held known rs =
        let x = side_grows (is_pointer_term t) (pointer_code p bound plan t held known rs) (term_code p bound plan t held known rs) rs (pointer_grows t held known rs) (term_grows t held known rs) in
        let y = chain_grows t (side_by (is_pointer_term t) (pointer_code p bound plan t held known rs) (term_code p bound plan t held known rs)) links held known in
        omega (arith, x, y)
    pred_grows (logic.Not at q) held known rs = pred_grows q held known rs
    pred_grows (logic.Connected at c a b) held known rs =
        let js = (pred_code p bound plan a held known rs).used in
        let x = pred_grows a held known rs in
        let y = pred_grows b held (known_at_right c known a) js in
        let z = connected_grows c (pred_code p bound plan a held known rs) (pred_code p bound plan b held (known_at_right c known a) js) in
        omega (arith, x, y, z)
    pred_grows (logic.Branch at c a b) held known rs =
        let x = pred_grows c held known rs in
        let y = pred_grows a held (known ++ sure_readings c) (pred_code p bound plan c held known rs).used in
        let js = (pred_code p bound plan a held (known ++ sure_readings c) (pred_code p bound plan c held known rs).used).used in
        let z = pred_grows b held (known ++ sure_readings c) js in
        let l = longer (pred_code p bound plan b held (known ++ sure_readings c) js).used (I32 ∷ I32 ∷ []) in
        omega (arith, x, y, z, l)
    pred_grows (logic.Asks at f z) held known rs =
        let x = zone_grows z held known rs in
        let l = longer (zone_code p bound plan z held known rs).pointer.used (I32 ∷ []) in
        omega (arith, x, l)
    pred_grows (logic.Separated at zs) held known rs =
        let x = zones_grows zs held known rs in
        let l = longer (zones_code p bound plan zs held known rs).used (I32 ∷ I32 ∷ []) in
        omega (arith, x, l)
    pred_grows (logic.Quantified at q gs a) held known rs = guards_grows q gs (pred_code p bound plan a) held known rs (λ held known rs. pred_grows a held known rs)

    pub guards_grows : (q : Quantifier) (gs : Guards) (inner : List Held → List Reading → List MonType → Code) (held : List Held) (known : List Reading) (rs : List MonType)
        → ((held : List Held) (known : List Reading) (rs : List MonType) → length rs ≤ length (inner held known rs).used) → length rs ≤ length (guards_code p bound plan q gs inner held known rs).used
    guards_grows q NoGuard inner held known rs h = h held known rs
    guards_grows q (Guarded a y ys below b rest) inner held known rs h =
        let u = term_code p bound plan a held known rs in
        let v = term_code p bound plan b held known u.used in
        let k = type_of_width (wider (width_of a) (width_of b)) in
        let more = known ++ (sure_readings_of_term a ++ sure_readings_of_term b) in
        let c = bounded_code q below k (in_type (type_of a) k u.value) (in_type (type_of b) k v.value) (range_of a).lo (lowered below (range_of b).hi) (y ∷ ys) (λ names js. guards_code p bound plan q rest inner names more js) held v.used in
        let gx = term_grows a held known rs in
        let gy = term_grows b held known u.used in
        let gc = bounded_grows q below k (in_type (type_of a) k u.value) (in_type (type_of b) k v.value) (range_of a).lo (lowered below (range_of b).hi) (y ∷ ys) (λ names js. guards_code p bound plan q rest inner names more js) held v.used
        (λ names js. guards_grows q rest inner names more js h) in
        omega (arith, gx, gy, gc, longer c.used (I32 ∷ I32 ∷ []))
