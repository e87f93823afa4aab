-- The types of registers begin with those taken before.
use Rattle.std.proofs.Common.{ℤ, Bool, true, false, if◌then◌else◌, List, [], ◌∷◌, ◌++◌, length, Option, Some, None}
use Rattle.c_syntax.specs.declared.expression.BinOp.{BinOp}
use Rattle.c_syntax.specs.declared.logic.Connective.{Connective}
use Rattle.c_syntax.specs.declared.logic.Label.TheVariants.{Here, Pre, Marked}
use Rattle.c_simulation.specs.Keeping.{Kept}
use Rattle.annot_simulation.specs.Held.{Held}
use Rattle.c_syntax.specs.declared.logic.Connective.TheVariants.{And, Xor, Or, Implies, Iff}
use Rattle.c_syntax.specs.declared.annotation.Relation.{Relation}
use Rattle.c_syntax.specs.declared.annotation.Relation.TheVariants as relation
use Rattle.c_syntax.specs.Ctypes.{PlainType}
use Rattle.c_syntax.specs.Ctypes as ctype
use Rattle.c_syntax.specs.declared.logic.Quantifier.{Quantifier}
use Rattle.c_syntax.specs.Logic.{LogicTerm, Links, NoLink, Linked, Zone, Zones, NoZone, Another, Predicate, Binder, Guards, NoGuard, Guarded, range_of}
use Rattle.c_syntax.specs.Logic as logic
use Rattle.c_syntax.specs.Programs.{TranslationUnit}
use Rattle.c_model.specs.Ranges.{width_of_range}
use Rattle.c_model.specs.Quantifiers.{first_of}
use Rattle.c_model.specs.TermRanges.{lowered, raised}
use Rattle.mon_syntax.specs.declared.tree.MonType.{MonType}
use Rattle.mon_syntax.specs.declared.tree.MonType.TheVariants.{I32, I64, I128, Ptr}
use Rattle.mon_syntax.specs.Registers.{Bindings}
use Rattle.mon_syntax.specs.Trees.{MonExpression, Register, Global, Constant, Binary, Minus, Flip, Cast, Load}
use Rattle.mon_syntax.specs.Valid.{Types}
use Rattle.c_effects.specs.Expressions.{in_type, pointer_to}
use Rattle.annot_simulation.specs.Binders.{bounded_code, greatest_of, index_behind, least_of, over_code, tried_with, tries_code, with_last}
use Rattle.mem_preds.specs.Questions.{type_of_fact}
use Rattle.annot_simulation.specs.Pointers.{PointerCode, start_pointer, null_code, member_code, pointer_there, addresses_code}
use Rattle.annot_simulation.specs.Code.{term_type, Reading, Side, OfNumber, OfPointer, used_by, side_by, again, related_code, is_pointer_term, is_null_term, pointer_code, place_code, zone_code, zones_code}
use Rattle.annot_simulation.specs.Code.{Code, operated, is_total, variable_code, is_known, connected, left_first, both_asked, is_sure, term_code, chain_code, pred_code, sure_readings, sure_readings_of_term, known_at_right}
use Rattle.annot_simulation.specs.Code.{type_of_width, wider, working, width_of, type_of, binary_value, judged_with, guards_code}
use Rattle.annot_simulation.specs.Validity.{Begins}
use Rattle.annot_simulation.proofs.Typed.{begins_front}

module _ (ts : Types) where
  pub operated_begins : (t : Bool) (op : BinOp) (w k tb : MonType) (x y : Code) (e : MonExpression) → Begins (operated t op w k tb x y e).used ts → Begins y.used ts
  operated_begins true op w k tb x y e b = b
  operated_begins false op w k tb x y e b = begins_front y.used (I32 ∷ w ∷ []) ts b

  pub connected_begins : (c : Connective) (p q : Code) → Begins (connected c p q).used ts → Begins q.used ts
  connected_begins c p q = by (is_sure q)
    where
      first : (o : Connective) → Begins (left_first o p q).used ts → Begins q.used ts
      first And b = begins_front q.used (I32 ∷ I32 ∷ []) ts b
      first Or b = begins_front q.used (I32 ∷ I32 ∷ []) ts b
      first Implies b = begins_front q.used (I32 ∷ I32 ∷ []) ts b
      first Iff b = b
      first Xor b = b

      by : (t : Bool) → Begins (if t then both_asked c p q else left_first c p q).used ts → Begins q.used ts
      by true b = b
      by false b = first c b

  pub there_begins : (known : Bool) (t : Option PlainType) (c : PointerCode) → Begins (pointer_there known t c).used ts → Begins c.used ts
  there_begins true (Some (ctype.Ptr u)) c b = begins_front c.used (Ptr ∷ []) ts b
  there_begins false (Some (ctype.Ptr u)) c b = begins_front c.used (I32 ∷ Ptr ∷ []) ts b
  there_begins known (Some (ctype.Array u n)) c b = b
  there_begins known (Some (ctype.Int k)) c b = b
  there_begins known (Some (ctype.Struct n)) c b = b
  there_begins known (Some ctype.Void) c b = b
  there_begins known (Some (ctype.Named x)) c b = b
  there_begins known (Some (ctype.StructTag x tag)) c b = b
  there_begins known (Some (ctype.EnumTag x at)) c b = b
  there_begins known None c b = b

  addresses_begins : (r : Relation) (m n : Bool) (c d : PointerCode) → Begins (addresses_code r m n c d).used ts → Begins d.used ts
  addresses_begins relation.Eq m n c d b = begins_front d.used (I32 ∷ I32 ∷ I32 ∷ []) ts b
  addresses_begins relation.Ne m n c d b = begins_front d.used (I32 ∷ I32 ∷ I32 ∷ []) ts b
  addresses_begins relation.Lt m n c d b = begins_front d.used (I32 ∷ I32 ∷ Ptr ∷ Ptr ∷ I64 ∷ I64 ∷ []) ts b
  addresses_begins relation.Le m n c d b = begins_front d.used (I32 ∷ I32 ∷ Ptr ∷ Ptr ∷ I64 ∷ I64 ∷ []) ts b
  addresses_begins relation.Gt m n c d b = begins_front d.used (I32 ∷ I32 ∷ Ptr ∷ Ptr ∷ I64 ∷ I64 ∷ []) ts b
  addresses_begins relation.Ge m n c d b = begins_front d.used (I32 ∷ I32 ∷ Ptr ∷ Ptr ∷ I64 ∷ I64 ∷ []) ts b

  pub related_begins : (r : Relation) (t u : LogicTerm) (x y : Side) → Begins (related_code r t u x y).used ts → Begins (used_by y) ts
  related_begins r t u (OfNumber x) (OfNumber y) b = b
  related_begins r t u (OfNumber x) (OfPointer y) b = addresses_begins r (is_null_term t) (is_null_term u) (null_code x) y b
  related_begins r t u (OfPointer x) (OfNumber y) b = addresses_begins r (is_null_term t) (is_null_term u) x (null_code y) b
  related_begins r t u (OfPointer x) (OfPointer y) b = addresses_begins r (is_null_term t) (is_null_term u) x y b

  pub again_begins : (x : Side) (rs : Types) → Begins (used_by (again x rs)) ts → Begins rs ts
  again_begins (OfNumber c) rs b = b
  again_begins (OfPointer c) rs b = b

  pub side_begins : (m : Bool) (c : PointerCode) (d : Code) (rs : Types) → (Begins c.used ts → Begins rs ts) → (Begins d.used ts → Begins rs ts) → Begins (used_by (side_by m c d)) ts → Begins rs ts
  side_begins true c d rs h g b = h b
  side_begins false c d rs h g b = g b

  -- ---- binders

  with_last_begins : (k : MonType) (to : MonExpression) (o : Option ℤ) (go : MonExpression → Types → Code) (rs : Types) → ((to : MonExpression) (js : Types) → Begins (go to js).used ts → Begins js ts) → Begins (with_last k to o go rs).used ts
      → Begins rs ts
  with_last_begins k to None go rs h b = h to rs b
  with_last_begins k to (Some z) go rs h b = begins_front rs (k ∷ []) ts (h (Register (length rs)) (rs ++ k ∷ []) b)

  module _ (q : Quantifier) (k : MonType) (to : MonExpression) (most : ℤ) (inner : List Held → Types → Code) (h : (held : List Held) (js : Types) → Begins (inner held js).used ts → Begins js ts) where
    pub over_begins : (from : MonExpression) (least : ℤ) (bs : List Binder) (held : List Held) (rs : Types) → Begins (over_code q k to most inner from least bs held rs).used ts → Begins rs ts
    over_begins from least [] held rs b = h held rs b
    over_begins from least (y ∷ bs) held rs b =
        with_last_begins k to (greatest_of y.kind most)
        (λ last js. tries_code q (record { above = y.above; kind = k; least = least_of y.kind (raised y.above least); from = from; to = last }) (length js) (others js)) rs (λ last js d.
        begins_front js (I32 ∷ I32 ∷ I32 ∷ k ∷ []) ts
        (over_begins (Register (index_behind js)) (first_of y.kind (raised y.above least)) bs (record { number = y.place.offset; register = index_behind js; kind = k } ∷ held) (tried_with k js) d)) b
      where
        others : Types → Code
        others js =
            over_code q k to most inner (Register (index_behind js)) (first_of y.kind (raised y.above least)) bs (record { number = y.place.offset; register = index_behind js; kind = k } ∷ held) (tried_with k js)

  pub bounded_begins : (q : Quantifier) (below : Bool) (k : MonType) (from to : MonExpression) (least most : ℤ) (bs : List Binder) (inner : List Held → Types → Code) (held : List Held) (rs : Types)
      → ((held : List Held) (js : Types) → Begins (inner held js).used ts → Begins js ts) → Begins (bounded_code q below k from to least most bs inner held rs).used ts → Begins rs ts
  bounded_begins q below k from to least most bs inner held rs h b = begins_front rs (k ∷ []) ts (over_begins q k (Register (length rs)) most inner h from least bs held (rs ++ k ∷ []) b)

  module _ (p : TranslationUnit) (bound : Bindings) (plan : List Kept) where
    variable_begins : (t : Bool) (w : MonType) (x : Reading) (rs : Types) → Begins (variable_code p bound t w x rs).used ts → Begins rs ts
    variable_begins true w x rs b = b
    variable_begins false w x rs b = begins_front rs (I32 ∷ []) ts b

    mutual
      pub term_begins : (t : LogicTerm) (held : List Held) (known : List Reading) (rs : Types) → Begins (term_code p bound plan t held known rs).used ts → Begins rs ts
      term_begins (logic.Number at t r n) held known rs b = b
      term_begins (logic.Letter at t r n) held known rs b = b
      term_begins (logic.Variable at t r x) held known rs b = variable_begins (is_known known (record { decl = x.decl; kind = term_type t })) (type_of_width (width_of_range r)) (record { decl = x.decl; kind = term_type t }) rs b
      term_begins (logic.Unary at t r op a) held known rs b = term_begins a held known rs b
      term_begins (logic.Binary at t r op a d) held known rs b =
          let x = term_code p bound plan a held known rs in
          let y = term_code p bound plan d held known x.used in
          let wr = type_of_width (width_of_range r) in
          let k = type_of_width (working op (width_of_range r) (width_of a) (width_of d)) in
          term_begins a held known rs (term_begins d held known x.used
          (operated_begins (is_total op (range_of d)) op wr k (type_of d) x y (binary_value op wr k (type_of a) (type_of d) (range_of d) x.value y.value) b))
      term_begins (logic.Cast at t r to a) held known rs b = term_begins a held known rs b
      term_begins (logic.Choice at t r c a d) held known rs b =
          let more = known ++ sure_readings c in
          let z = pred_code p bound plan c held known rs in
          let x = term_code p bound plan a held more z.used in
          let y = term_code p bound plan d held more x.used in
          pred_begins c held known rs (term_begins a held more z.used (term_begins d held more x.used (begins_front y.used (I32 ∷ type_of_width (width_of_range r) ∷ []) ts b)))
      term_begins (logic.Deref at t r a) held known rs b = pointer_begins a held known rs (begins_front (pointer_code p bound plan a held known rs).used (I32 ∷ []) ts b)
      term_begins (logic.Member at t r d a) held known rs b = place_begins a held known rs (begins_front (place_code p bound plan a held known rs).used (I32 ∷ []) ts b)
      term_begins (logic.Difference at t r n a d) held known rs b =
          let c = pointer_code p bound plan a held known rs in
          pointer_begins a held known rs (pointer_begins d held known c.used (begins_front (pointer_code p bound plan d held known c.used).used (I32 ∷ I32 ∷ Ptr ∷ Ptr ∷ I64 ∷ I64 ∷ []) ts b))
      term_begins (logic.Told at t r f a) held known rs b = pointer_begins a held known rs (begins_front (pointer_code p bound plan a held known rs).used (I32 ∷ type_of_fact f ∷ []) ts b)
      term_begins (logic.At at t r Here a) held known rs b = term_begins a held known rs (begins_front (term_code p bound plan a held known rs).used (I32 ∷ type_of a ∷ []) ts b)
      term_begins (logic.At at t r Pre a) held known rs b = b
      term_begins (logic.At at t r (Marked l) a) held known rs b = b
      term_begins _ held known rs b = b

      pub pointer_begins : (t : LogicTerm) (held : List Held) (known : List Reading) (rs : Types) → Begins (pointer_code p bound plan t held known rs).used ts → Begins rs ts
      pointer_begins (logic.Variable at t r x) held known rs b = there_begins (is_known known (record { decl = x.decl; kind = term_type t })) t (start_pointer (pointer_to p bound x.decl) rs) b
      pointer_begins (logic.Deref at t r a) held known rs b = pointer_begins a held known rs (there_begins false t (pointer_code p bound plan a held known rs) b)
      pointer_begins (logic.Member at t r d a) held known rs b = place_begins a held known rs (there_begins false t (member_code d (place_code p bound plan a held known rs)) b)
      pointer_begins (logic.Address at t r a) held known rs b = place_begins a held known rs b
      pointer_begins (logic.Moved at t r op n a d) held known rs b = pointer_begins a held known rs (term_begins d held known (pointer_code p bound plan a held known rs).used b)
      pointer_begins (logic.Cast at t r to a) held known rs b = pointer_begins a held known rs b
      pointer_begins (logic.Choice at t r c a d) held known rs b =
          let more = known ++ sure_readings c in
          let z = pred_code p bound plan c held known rs in
          let x = pointer_code p bound plan a held more z.used in
          let y = pointer_code p bound plan d held more x.used in
          pred_begins c held known rs (pointer_begins a held more z.used (pointer_begins d held more x.used (begins_front y.used (I32 ∷ Ptr ∷ I128 ∷ []) ts b)))
      pointer_begins (logic.Told at t r f a) held known rs b = pointer_begins a held known rs (begins_front (pointer_code p bound plan a held known rs).used (I32 ∷ Ptr ∷ []) ts b)
      pointer_begins (logic.At at t r Here a) held known rs b = pointer_begins a held known rs b
      pointer_begins (logic.At at t r Pre a) held known rs b = b
      pointer_begins (logic.At at t r (Marked l) a) held known rs b = b
      pointer_begins _ held known rs b = b

      pub place_begins : (t : LogicTerm) (held : List Held) (known : List Reading) (rs : Types) → Begins (place_code p bound plan t held known rs).used ts → Begins rs ts
      place_begins (logic.Deref at t r a) held known rs b = pointer_begins a held known rs b
      place_begins (logic.Member at t r d a) held known rs b = place_begins a held known rs b
      place_begins _ held known rs b = b

      pub zone_begins : (z : Zone) (held : List Held) (known : List Reading) (rs : Types) → Begins (zone_code p bound plan z held known rs).pointer.used ts → Begins rs ts
      zone_begins (logic.Object at n m a) held known rs b = pointer_begins a held known rs b
      zone_begins (logic.Elements at n m a lo hi) held known rs b =
          let c = pointer_code p bound plan a held known rs in
          pointer_begins a held known rs (term_begins lo held known c.used (term_begins hi held known (term_code p bound plan lo held known c.used).used b))

      pub zones_begins : (zs : Zones) (held : List Held) (known : List Reading) (rs : Types) → Begins (zones_code p bound plan zs held known rs).used ts → Begins rs ts
      zones_begins NoZone held known rs b = b
      zones_begins (Another z rest) held known rs b = zone_begins z held known rs (zones_begins rest held known (zone_code p bound plan z held known rs).pointer.used b)

      pub chain_begins : (t : LogicTerm) (x : Side) (l : Links) (held : List Held) (known : List Reading) → Begins (chain_code p bound plan t x l held known).used ts → Begins (used_by x) ts
      chain_begins t x NoLink held known b = b
      chain_begins t x (Linked at r u NoLink) held known b =
          let c = pointer_code p bound plan u held known (used_by x) in
          let d = term_code p bound plan u held known (used_by x) in
          side_begins (is_pointer_term u) c d (used_by x) (λ b. pointer_begins u held known (used_by x) b) (λ b. term_begins u held known (used_by x) b) (related_begins r t u x (side_by (is_pointer_term u) c d) b)
      chain_begins t x (Linked at r u (Linked at2 r2 v rest)) held known b =
          let c = pointer_code p bound plan u held known (used_by x) in
          let d = term_code p bound plan u held known (used_by x) in
          let y = side_by (is_pointer_term u) c d in
          let z = related_code r t u x y in
          let more = known ++ (sure_readings_of_term t ++ sure_readings_of_term u) in
          let e = chain_code p bound plan u (again y z.used) (Linked at2 r2 v rest) held more in
          side_begins (is_pointer_term u) c d (used_by x) (λ b. pointer_begins u held known (used_by x) b) (λ b. term_begins u held known (used_by x) b)
          (related_begins r t u x y (again_begins y z.used (chain_begins u (again y z.used) (Linked at2 r2 v rest) held more (connected_begins And z e b))))

      pub pred_begins : (q : Predicate) (held : List Held) (known : List Reading) (rs : Types) → Begins (pred_code p bound plan q held known rs).used ts → Begins rs ts
      pred_begins (logic.Truth at v) held known rs b = b
      pred_begins (logic.NonZero at t) held known rs b = term_begins t held known rs b
      pred_begins (logic.Chain at t links) held known rs b =
          let c = pointer_code p bound plan t held known rs in
          let d = term_code p bound plan t held known rs in
          side_begins (is_pointer_term t) c d rs (λ b. pointer_begins t held known rs b) (λ b. term_begins t held known rs b) (chain_begins t (side_by (is_pointer_term t) c d) links held known b)
      pred_begins (logic.Not at q) held known rs b = pred_begins q held known rs b
      pred_begins (logic.Connected at c a d) held known rs b =
          let x = pred_code p bound plan a held known rs in
          let y = pred_code p bound plan d held (known_at_right c known a) x.used in
          pred_begins a held known rs (pred_begins d held (known_at_right c known a) x.used (connected_begins c x y b))
      pred_begins (logic.Branch at c a d) held known rs b =
          let more = known ++ sure_readings c in
          let z = pred_code p bound plan c held known rs in
          let x = pred_code p bound plan a held more z.used in
          let y = pred_code p bound plan d held more x.used in
          pred_begins c held known rs (pred_begins a held more z.used (pred_begins d held more x.used (begins_front y.used (I32 ∷ I32 ∷ []) ts b)))
      pred_begins (logic.Asks at f z) held known rs b = zone_begins z held known rs (begins_front (zone_code p bound plan z held known rs).pointer.used (I32 ∷ []) ts b)
      pred_begins (logic.Separated at zs) held known rs b = zones_begins zs held known rs (begins_front (zones_code p bound plan zs held known rs).used (I32 ∷ I32 ∷ []) ts b)
      pred_begins (logic.Quantified at q gs a) held known rs b = guards_begins q gs (pred_code p bound plan a) held known rs (λ held known rs b. pred_begins a held known rs b) b

      pub guards_begins : (q : Quantifier) (gs : Guards) (inner : List Held → List Reading → Types → Code) (held : List Held) (known : List Reading) (rs : Types)
          → ((held : List Held) (known : List Reading) (rs : Types) → Begins (inner held known rs).used ts → Begins rs ts) → Begins (guards_code p bound plan q gs inner held known rs).used ts → Begins rs ts
      guards_begins q NoGuard inner held known rs h b = h held known rs b
      guards_begins q (Guarded a y ys below d rest) inner held known rs h b =
          let u = term_code p bound plan a held known rs in
          let v = term_code p bound plan d held known u.used in
          let k = type_of_width (wider (width_of a) (width_of d)) in
          let more = known ++ (sure_readings_of_term a ++ sure_readings_of_term d) in
          let least = (range_of a).lo in
          let most = lowered below (range_of d).hi in
          let c = bounded_code q below k (in_type (type_of a) k u.value) (in_type (type_of d) k v.value) least most (y ∷ ys) (λ names js. guards_code p bound plan q rest inner names more js) held v.used in
          term_begins a held known rs (term_begins d held known u.used
          (bounded_begins q below k (in_type (type_of a) k u.value) (in_type (type_of d) k v.value) least most (y ∷ ys) (λ names js. guards_code p bound plan q rest inner names more js) held v.used
          (λ names js b. guards_begins q rest inner names more js h b) (begins_front c.used (I32 ∷ I32 ∷ []) ts b)))

-- ---- judgements

pub judged_begins : (ts : Types) (f : Option MonExpression) (c : Code) → Begins (judged_with f c).used ts → Begins c.used ts
judged_begins ts None c b = begins_front c.used (I32 ∷ []) ts (begins_front (c.used ++ I32 ∷ []) (I32 ∷ []) ts b)
judged_begins ts (Some (Register f)) c b = begins_front c.used (I32 ∷ []) ts b
judged_begins ts (Some (Global x)) c b = begins_front c.used (I32 ∷ []) ts (begins_front (c.used ++ I32 ∷ []) (I32 ∷ []) ts b)
judged_begins ts (Some (Constant t z)) c b = begins_front c.used (I32 ∷ []) ts (begins_front (c.used ++ I32 ∷ []) (I32 ∷ []) ts b)
judged_begins ts (Some (Binary op t x y)) c b = begins_front c.used (I32 ∷ []) ts (begins_front (c.used ++ I32 ∷ []) (I32 ∷ []) ts b)
judged_begins ts (Some (Minus t x)) c b = begins_front c.used (I32 ∷ []) ts (begins_front (c.used ++ I32 ∷ []) (I32 ∷ []) ts b)
judged_begins ts (Some (Flip t x)) c b = begins_front c.used (I32 ∷ []) ts (begins_front (c.used ++ I32 ∷ []) (I32 ∷ []) ts b)
judged_begins ts (Some (Cast t x)) c b = begins_front c.used (I32 ∷ []) ts (begins_front (c.used ++ I32 ∷ []) (I32 ∷ []) ts b)
judged_begins ts (Some (Load t x)) c b = begins_front c.used (I32 ∷ []) ts (begins_front (c.used ++ I32 ∷ []) (I32 ∷ []) ts b)
