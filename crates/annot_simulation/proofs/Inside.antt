-- The code of every predicate stays inside its statements.
use Rattle.std.proofs.Common.{◌≡◌, ℕ, suc, ℤ, ◌||◌, ap, pos, Bool, true, false, not, ◌&&◌, if◌then◌else◌, List, [], ◌∷◌, ◌++◌, length, Option, Some, None, Result, IfOk, refl, sym, subst}
use Rattle.std.proofs.lemmas.Result.{IfOk-weaker}
use Rattle.c_syntax.specs.declared.expression.BinOp.{BinOp}
use Rattle.c_syntax.specs.declared.logic.Connective.{Connective}
use Rattle.c_syntax.specs.declared.logic.Label.TheVariants.{Here, Pre, Marked}
use Rattle.c_simulation.specs.Keeping.{Kept}
use Rattle.annot_simulation.specs.Held.{Held}
use Rattle.c_syntax.specs.declared.logic.Connective.TheVariants.{And, Xor, Or, Implies, Iff}
use Rattle.c_syntax.specs.declared.annotation.Relation.{Relation}
use Rattle.c_syntax.specs.declared.annotation.Relation.TheVariants as relation
use Rattle.c_syntax.specs.Ctypes.{PlainType}
use Rattle.c_syntax.specs.Ctypes as ctype
use Rattle.std.specs.Prelude.{bytes_eq}
use Rattle.c_syntax.specs.declared.logic.Quantifier.{Quantifier}
use Rattle.c_syntax.specs.declared.logic.Quantifier.TheVariants.{ForAll, Exists}
use Rattle.c_syntax.specs.Logic.{LogicTerm, Links, NoLink, Linked, Zone, Zones, NoZone, Another, Predicate, Binder, Guards, NoGuard, Guarded, range_of}
use Rattle.c_syntax.specs.Logic as logic
use Rattle.c_syntax.specs.Programs.{TranslationUnit}
use Rattle.c_model.specs.Quantifiers.{first_of, undecided}
use Rattle.c_model.specs.Ranges.{width_of_range}
use Rattle.c_model.specs.TermRanges.{lowered, raised}
use Rattle.quantifier_loops.specs.Tries.{Between, first_behind, from_first, is_one_behind, noted, noted_as, nothing_noted, one_try}
use Rattle.quantifier_loops.specs.Upward.{tried_label, turn_end, upward}
use Rattle.quantifier_loops.proofs.Values.{same_label}
use Rattle.annot_simulation.specs.Binders.{bounded_code, bounds_relation, greatest_of, index_behind, least_of, over_code, tried_with, tries_code, with_last}
use Rattle.mon_syntax.specs.declared.tree.MonType.{MonType}
use Rattle.mon_syntax.specs.declared.tree.MonType.TheVariants.{I32}
use Rattle.mon_syntax.specs.Registers.{Bindings, Names}
use Rattle.mon_syntax.specs.Trees.{MonExpression, Register, Global, Constant, Binary, Minus, Flip, Cast, Load, MonStatement, MonStatements, NoStatement, Then, If, Loop, Labelled, Goto, Return, Set, Store, Step, Assert}
use Rattle.mon_syntax.specs.Trees.{PutChar, GetChar, Exit, PrintText, PrintSigned, PrintUnsigned, PrintString, Act, Call}
use Rattle.mon_syntax.specs.Valid.{Labels, has_label, is_step, has_no_step}
use Rattle.term_guards.specs.Guards.{guard}
use Rattle.c_effects.specs.Expressions.{before, one, in_type, pointer_to}
use Rattle.annot_simulation.specs.Pointers.{PointerCode, ZoneCode, start_pointer, null_code, member_code, pointer_there, answered_in, take_pointer}
use Rattle.annot_simulation.specs.Pointers.{branch_pointer, comparable, asked_of_both, equality_asked, offsets_asked, addresses_code, apart_from_each, each_pair}
use Rattle.annot_simulation.specs.Code.{Side, OfNumber, OfPointer, used_by, stmts_of, side_by, again, related_code, is_pointer_term, is_null_term, pointer_code, place_code, zone_code, zones_code}
use Rattle.c_effects.specs.Named.{unit_of}
use Rattle.annot_simulation.specs.Code.{Reading, Code, term_type, with_value, conjunction, guarded, take, take_none, branch, truth_code, is_sure, both_asked, left_first, connected, operated, is_total}
use Rattle.annot_simulation.specs.Code.{variable_code, is_known, term_code, chain_code, pred_code, sure_readings, sure_readings_of_term, known_at_right, judged_by, judged_anew, judged_with, Judgement, judgement}
use Rattle.annot_simulation.specs.Code.{type_of_width, wider, working, width_of, type_of, binary_value, relation_code, guards_code}
use Rattle.annot_simulation.specs.Inside.{StaysInside, StayInside, AreInside}

-- control stays in statements, in which no step stands directly
abbrev pub Inside : MonStatements → Type 0
Inside a = StayInside [] a × (has_no_step a ≡ true)

no_step_then : (s t : Bool) → s ≡ false → t ≡ true → (not s && t) ≡ true
no_step_then true t e h = absurd cc
no_step_then false t e h = h

no_step_first : (s t : Bool) → (not s && t) ≡ true → s ≡ false
no_step_first true t e = absurd cc
no_step_first false t e = refl

no_step_rest : (s t : Bool) → (not s && t) ≡ true → t ≡ true
no_step_rest true t e = absurd cc
no_step_rest false t e = e

pub before_inside : (a b : MonStatements) → Inside a → Inside b → Inside (before a b)
before_inside NoStatement b h k = k
before_inside (Then x a) b h k =
    let rest = before_inside a b (h.0.1, no_step_rest (is_step x) (has_no_step a) h.1) k in
    ((h.0.0, rest.0), no_step_then (is_step x) (has_no_step (before a b)) (no_step_first (is_step x) (has_no_step a) h.1) rest.1)

pub if_inside : (e : MonExpression) (a b : MonStatements) → Inside a → Inside b → Inside (one (If e a b))
if_inside e a b h k = (((h.0, k.0), tt), refl)

pub guarded_inside : (f : Option MonExpression) (a b : MonStatements) → Inside a → Inside b → Inside (guarded f a b)
guarded_inside None a b h k = h
guarded_inside (Some e) a b h k = if_inside e a b h k

pub take_inside : (f : Option MonExpression) (e : MonExpression) (r : ℕ) → Inside (take f e r)
take_inside None e r = ((tt, (tt, tt)), refl)
take_inside (Some a) e r = ((tt, (((tt, tt), tt), tt)), refl)

take_none_inside : (r : ℕ) → Inside (take_none r)
take_none_inside r = ((tt, tt), refl)

-- ---- parts

operated_inside : (t : Bool) (op : BinOp) (w k tb : MonType) (x y : Code) (e : MonExpression) → Inside x.stmts → Inside y.stmts → Inside (operated t op w k tb x y e).stmts
operated_inside true op w k tb x y e h i = before_inside x.stmts y.stmts h i
operated_inside false op w k tb x y e h i =
    let r = length y.used in
    let f = Some (guard k op (in_type tb k y.value)) in
    before_inside (before x.stmts y.stmts) (guarded (conjunction x.flag y.flag) (take f e r) (take_none r)) (before_inside x.stmts y.stmts h i)
    (guarded_inside (conjunction x.flag y.flag) (take f e r) (take_none r) (take_inside f e r) (take_none_inside r))

branch_inside : (t : MonType) (c a b : Code) → Inside c.stmts → Inside a.stmts → Inside b.stmts → Inside (branch t c a b).stmts
branch_inside t c a b hc ha hb =
    let r = length b.used in
    before_inside c.stmts _ hc
    (guarded_inside c.flag _ (take_none r)
    (if_inside c.value (before a.stmts (take a.flag a.value r)) (before b.stmts (take b.flag b.value r))
    (before_inside a.stmts (take a.flag a.value r) ha (take_inside a.flag a.value r)) (before_inside b.stmts (take b.flag b.value r) hb (take_inside b.flag b.value r))) (take_none_inside r))

pub nothing_inside : Inside NoStatement
nothing_inside = (tt, refl)

connected_inside : (c : Connective) (p q : Code) → Inside p.stmts → Inside q.stmts → Inside (connected c p q).stmts
connected_inside c p q h i = by (is_sure q)
  where
    first : (o : Connective) → Inside (left_first o p q).stmts
    first And = branch_inside I32 p q (truth_code false q.used) h i nothing_inside
    first Or = branch_inside I32 p (truth_code true q.used) q h nothing_inside i
    first Implies = branch_inside I32 p q (truth_code true q.used) h i nothing_inside
    first Iff = before_inside p.stmts q.stmts h i
    first Xor = before_inside p.stmts q.stmts h i

    by : (t : Bool) → Inside (if t then both_asked c p q else left_first c p q).stmts
    by true = before_inside p.stmts q.stmts h i
    by false = first c

-- ---- pointers

answered_inside : (r : ℕ) (c : PointerCode) (a : MonStatements) → Inside c.stmts → Inside a → Inside (answered_in r c a)
answered_inside r c a h i = before_inside c.stmts (guarded c.flag a (take_none r)) h (guarded_inside c.flag a (take_none r) i (take_none_inside r))

pointer_there_inside : (known : Bool) (t : Option PlainType) (c : PointerCode) → Inside c.stmts → Inside (pointer_there known t c).stmts
pointer_there_inside true (Some (ctype.Ptr u)) c h = before_inside c.stmts _ h ((tt, tt), refl)
pointer_there_inside false (Some (ctype.Ptr u)) c h = answered_inside (length c.used) c _ h ((tt, (((tt, tt), tt), tt)), refl)
pointer_there_inside known (Some (ctype.Array u n)) c h = h
pointer_there_inside known (Some (ctype.Int k)) c h = nothing_inside
pointer_there_inside known (Some (ctype.Struct n)) c h = nothing_inside
pointer_there_inside known (Some ctype.Void) c h = nothing_inside
pointer_there_inside known (Some (ctype.Named x)) c h = nothing_inside
pointer_there_inside known (Some (ctype.StructTag x tag)) c h = nothing_inside
pointer_there_inside known (Some (ctype.EnumTag x at)) c h = nothing_inside
pointer_there_inside known None c h = nothing_inside

take_pointer_inside : (f : Option MonExpression) (c : PointerCode) (r : ℕ) → Inside (take_pointer f c r)
take_pointer_inside None c r = ((tt, (tt, (tt, tt))), refl)
take_pointer_inside (Some a) c r = ((tt, (((tt, (tt, tt)), tt), tt)), refl)

branch_pointer_inside : (c : Code) (a b : PointerCode) → Inside c.stmts → Inside a.stmts → Inside b.stmts → Inside (branch_pointer c a b).stmts
branch_pointer_inside c a b hc ha hb =
    let r = length b.used in
    before_inside c.stmts _ hc
    (guarded_inside c.flag _ (take_none r)
    (if_inside c.value (before a.stmts (take_pointer a.flag a r)) (before b.stmts (take_pointer b.flag b r))
    (before_inside a.stmts (take_pointer a.flag a r) ha (take_pointer_inside a.flag a r)) (before_inside b.stmts (take_pointer b.flag b r) hb (take_pointer_inside b.flag b r))) (take_none_inside r))

comparable_inside : (m : Bool) (c : PointerCode) (r : ℕ) → Inside (comparable m c r)
comparable_inside true c r = ((tt, tt), refl)
comparable_inside false c r = ((tt, (tt, (tt, tt))), refl)

of_both_inside : (c d : PointerCode) (a : MonStatements) → Inside c.stmts → Inside d.stmts → Inside a → Inside (asked_of_both c d a)
of_both_inside c d a hc hd ha =
    let r = length d.used in
    before_inside (before c.stmts d.stmts) (guarded (conjunction c.flag d.flag) a (take_none r)) (before_inside c.stmts d.stmts hc hd)
    (guarded_inside (conjunction c.flag d.flag) a (take_none r) ha (take_none_inside r))

equality_inside : (m n : Bool) (c d : PointerCode) → Inside c.stmts → Inside d.stmts → Inside (asked_of_both c d (equality_asked m n c d (length d.used)))
equality_inside m n c d hc hd =
    let r = length d.used in
    of_both_inside c d (equality_asked m n c d r) hc hd
    (before_inside (comparable m c r) _ (comparable_inside m c r) (before_inside (comparable n d (suc r)) _ (comparable_inside n d (suc r)) ((tt, (tt, tt)), refl)))

offsets_inside : (c d : PointerCode) → Inside c.stmts → Inside d.stmts → Inside (asked_of_both c d (offsets_asked c d (length d.used)))
offsets_inside c d hc hd = of_both_inside c d (offsets_asked c d (length d.used)) hc hd ((tt, (tt, (tt, (tt, (tt, (tt, (tt, tt))))))), refl)

addresses_inside : (r : Relation) (m n : Bool) (c d : PointerCode) → Inside c.stmts → Inside d.stmts → Inside (addresses_code r m n c d).stmts
addresses_inside relation.Eq m n c d hc hd = equality_inside m n c d hc hd
addresses_inside relation.Ne m n c d hc hd = equality_inside m n c d hc hd
addresses_inside relation.Lt m n c d hc hd = offsets_inside c d hc hd
addresses_inside relation.Le m n c d hc hd = offsets_inside c d hc hd
addresses_inside relation.Gt m n c d hc hd = offsets_inside c d hc hd
addresses_inside relation.Ge m n c d hc hd = offsets_inside c d hc hd

related_inside : (r : Relation) (t u : LogicTerm) (x y : Side) → Inside (stmts_of x) → Inside (stmts_of y) → Inside (related_code r t u x y).stmts
related_inside r t u (OfNumber x) (OfNumber y) hx hy = before_inside x.stmts y.stmts hx hy
related_inside r t u (OfNumber x) (OfPointer y) hx hy = addresses_inside r (is_null_term t) (is_null_term u) (null_code x) y hx hy
related_inside r t u (OfPointer x) (OfNumber y) hx hy = addresses_inside r (is_null_term t) (is_null_term u) x (null_code y) hx hy
related_inside r t u (OfPointer x) (OfPointer y) hx hy = addresses_inside r (is_null_term t) (is_null_term u) x y hx hy

side_inside : (m : Bool) (c : PointerCode) (d : Code) → Inside c.stmts → Inside d.stmts → Inside (stmts_of (side_by m c d))
side_inside true c d h i = h
side_inside false c d h i = i

again_inside : (x : Side) (rs : List MonType) → Inside (stmts_of (again x rs))
again_inside (OfNumber c) rs = nothing_inside
again_inside (OfPointer c) rs = nothing_inside

each_inside : (t : ℕ) (z : ZoneCode) (ds : List ZoneCode) → Inside (apart_from_each t z ds)
each_inside t z [] = nothing_inside
each_inside t z (d ∷ ds) = let rest = each_inside t z ds in ((tt, (tt, rest.0)), rest.1)

pairs_inside : (t : ℕ) (zs : List ZoneCode) → Inside (each_pair t zs)
pairs_inside t [] = nothing_inside
pairs_inside t (z ∷ zs) = before_inside (apart_from_each t z zs) (each_pair t zs) (each_inside t z zs) (pairs_inside t zs)

-- ---- binders

one_more : (s t u : Bool) → (t ≡ true → u ≡ true) → (s || t) ≡ true → (s || u) ≡ true
one_more true t u m e = refl
one_more false t u m e = m e

-- statements stay inside more labels
mutual
  stays_more : (ls ms : Labels) (a : MonStatement) → ((l : List ℕ) → has_label ls l ≡ true → has_label ms l ≡ true) → StaysInside ls a → StaysInside ms a
  stays_more ls ms (If e a b) m h = (stay_more ls ms a m h.0, stay_more ls ms b m h.1)
  stays_more ls ms (Loop a b) m h = (stay_more ls ms a m h.0, stay_more ls ms b m h.1)
  stays_more ls ms (Labelled a l) m h = stay_more (l ∷ ls) (l ∷ ms) a (λ x e. one_more (bytes_eq x l) (has_label ls x) (has_label ms x) (m x) e) h
  stays_more ls ms (Goto l) m h = m l h
  stays_more ls ms (Return e) m h = absurd h
  stays_more ls ms (Set r e) m h = tt
  stays_more ls ms (Store r t e) m h = tt
  stays_more ls ms Step m h = tt
  stays_more ls ms (Assert d v number line kind) m h = tt
  stays_more ls ms (PutChar r e) m h = tt
  stays_more ls ms (GetChar r) m h = tt
  stays_more ls ms (Exit e) m h = tt
  stays_more ls ms (PrintText bytes) m h = tt
  stays_more ls ms (PrintSigned e) m h = tt
  stays_more ls ms (PrintUnsigned e) m h = tt
  stays_more ls ms (PrintString e) m h = tt
  stays_more ls ms (Act r f args) m h = tt
  stays_more ls ms (Call r f args) m h = tt

  stay_more : (ls ms : Labels) (a : MonStatements) → ((l : List ℕ) → has_label ls l ≡ true → has_label ms l ≡ true) → StayInside ls a → StayInside ms a
  stay_more ls ms NoStatement m h = tt
  stay_more ls ms (Then a rest) m h = (stays_more ls ms a m h.0, stay_more ls ms rest m h.1)

stay_before : (ls : Labels) (a b : MonStatements) → StayInside ls a → StayInside ls b → StayInside ls (before a b)
stay_before ls NoStatement b h k = k
stay_before ls (Then x a) b h k = (h.0, stay_before ls a b h.1 k)

-- a jump to the label of the loop around
own_label : (l : List ℕ) (ls : Labels) → has_label (l ∷ ls) l ≡ true
own_label l ls = ap (λ b. b || has_label ls l) (same_label l)

upward_inside : (k : MonType) (index : ℕ) (from to : MonExpression) (inner : MonStatements) (stop : ℕ) → Inside inner → Inside (one (upward k index from to inner stop))
upward_inside k index from to inner stop h =
    let l = tried_label index in
    let own = own_label l [] in
    ((((tt, ((tt, (own, tt)), ((tt, stay_before (l ∷ []) inner (turn_end k index to stop) (stay_more [] (l ∷ []) inner (λ x e. absurd cc) h.0) (((own, tt), tt), (((own, tt), tt), (tt, tt)))), tt)))), tt), refl)

pub tried_inside : (q : Quantifier) (r : ℕ) (a : MonStatements) (f : Option MonExpression) (e : MonExpression) → Inside a → Inside (one_try q r a f e)
tried_inside q r a f e h = before_inside a (guarded f (noted q r e) (nothing_noted r)) h (guarded_inside f (noted q r e) (nothing_noted r) (noted_inside q) ((tt, (tt, tt)), refl))
  where
    noted_inside : (q : Quantifier) → Inside (noted q r e)
    noted_inside ForAll = if_inside e NoStatement (noted_as r (pos 0)) nothing_inside ((tt, (tt, tt)), refl)
    noted_inside Exists = if_inside e (noted_as r (pos 1)) NoStatement ((tt, (tt, tt)), refl) nothing_inside

from_first_inside : (o : Option ℤ) (b : Between) (index : ℕ) (inner : MonStatements) (stop : ℕ) → Inside inner → Inside (from_first o b index inner stop)
from_first_inside None b index inner stop h = upward_inside b.kind index (first_behind b) b.to inner stop h
from_first_inside (Some z) b index inner stop h = let u = upward_inside b.kind index (Register index) b.to inner stop h in ((tt, (((tt, tt), tt), u.0)), u.1)

tries_inside : (q : Quantifier) (b : Between) (r : ℕ) (c : Code) → Inside c.stmts → Inside (tries_code q b r c).stmts
tries_inside q b r c h =
    let loops = from_first b.least b (suc (suc (suc r))) (one_try q r c.stmts c.flag c.value) (suc (suc r)) in
    let i = if_inside (is_one_behind b) loops NoStatement (from_first_inside b.least b (suc (suc (suc r))) (one_try q r c.stmts c.flag c.value) (suc (suc r)) (tried_inside q r c.stmts c.flag c.value h)) nothing_inside in
    ((tt, (tt, (tt, i.0))), i.1)

with_last_inside : (k : MonType) (to : MonExpression) (o : Option ℤ) (go : MonExpression → List MonType → Code) (rs : List MonType) → ((to : MonExpression) (js : List MonType) → Inside (go to js).stmts) → Inside (with_last k to o go rs).stmts
with_last_inside k to None go rs h = h to rs
with_last_inside k to (Some z) go rs h = let i = h (Register (length rs)) (rs ++ k ∷ []) in ((tt, (((tt, tt), tt), i.0)), i.1)

module _ (q : Quantifier) (k : MonType) (to : MonExpression) (most : ℤ) (inner : List Held → List MonType → Code) (h : (held : List Held) (js : List MonType) → Inside (inner held js).stmts) where
  pub over_inside : (from : MonExpression) (least : ℤ) (bs : List Binder) (held : List Held) (rs : List MonType) → Inside (over_code q k to most inner from least bs held rs).stmts
  over_inside from least [] held rs = h held rs
  over_inside from least (b ∷ bs) held rs =
      with_last_inside k to (greatest_of b.kind most) (λ last js. tries_code q (bounds last) (length js) (others js)) rs (λ last js.
      tries_inside q (bounds last) (length js) (others js)
      (over_inside (Register (index_behind js)) (first_of b.kind (raised b.above least)) bs (record { number = b.place.offset; register = index_behind js; kind = k } ∷ held) (tried_with k js)))
    where
      bounds : MonExpression → Between
      bounds last = record { above = b.above; kind = k; least = least_of b.kind (raised b.above least); from = from; to = last }

      others : List MonType → Code
      others js =
          over_code q k to most inner (Register (index_behind js)) (first_of b.kind (raised b.above least)) bs (record { number = b.place.offset; register = index_behind js; kind = k } ∷ held) (tried_with k js)

pub bounded_inside : (q : Quantifier) (below : Bool) (k : MonType) (from to : MonExpression) (least most : ℤ) (bs : List Binder) (inner : List Held → List MonType → Code) (held : List Held) (rs : List MonType)
    → ((held : List Held) (js : List MonType) → Inside (inner held js).stmts) → Inside (bounded_code q below k from to least most bs inner held rs).stmts
bounded_inside q below k from to least most bs inner held rs h =
    let i = over_inside q k (Register (length rs)) most inner h from least bs held (rs ++ k ∷ []) in ((tt, i.0), i.1)

-- ---- terms and predicates

module _ (p : TranslationUnit) (bound : Bindings) (plan : List Kept) where
  variable_inside : (b : Bool) (w : MonType) (x : Reading) (rs : List MonType) → Inside (variable_code p bound b w x rs).stmts
  variable_inside true w x rs = nothing_inside
  variable_inside false w x rs = ((tt, tt), refl)

  mutual
    pub term_inside : (t : LogicTerm) (held : List Held) (known : List Reading) (rs : List MonType) → Inside (term_code p bound plan t held known rs).stmts
    term_inside (logic.Variable at t r x) held known rs = variable_inside (is_known known (record { decl = x.decl; kind = term_type t })) (type_of_width (width_of_range r)) (record { decl = x.decl; kind = term_type t }) rs
    term_inside (logic.Unary at t r op a) held known rs = term_inside a held known rs
    term_inside (logic.Binary at t r op a b) held known rs =
        let x = term_code p bound plan a held known rs in
        let y = term_code p bound plan b held known x.used in
        let w = type_of_width (width_of_range r) in
        let k = type_of_width (working op (width_of_range r) (width_of a) (width_of b)) in
        operated_inside (is_total op (range_of b)) op w k (type_of b) x y (binary_value op w k (type_of a) (type_of b) (range_of b) x.value y.value) (term_inside a held known rs) (term_inside b held known x.used)
    term_inside (logic.Cast at t r to a) held known rs = term_inside a held known rs
    term_inside (logic.Choice at t r c a b) held known rs =
        let more = known ++ sure_readings c in
        let w = type_of_width (width_of_range r) in
        let z = pred_code p bound plan c held known rs in
        let x = term_code p bound plan a held more z.used in
        let y = term_code p bound plan b held more x.used in
        branch_inside w z (with_value (in_type (type_of a) w x.value) x) (with_value (in_type (type_of b) w y.value) y) (pred_inside c held known rs) (term_inside a held more z.used) (term_inside b held more x.used)
    term_inside (logic.Number at t r n) held known rs = nothing_inside
    term_inside (logic.Letter at t r n) held known rs = nothing_inside
    term_inside (logic.Named at t r x) held known rs = nothing_inside
    term_inside (logic.At at t r Here a) held known rs =
        let c = term_code p bound plan a held known rs in before_inside c.stmts _ (term_inside a held known rs) (take_inside c.flag c.value (length c.used))
    term_inside (logic.At at t r Pre a) held known rs = nothing_inside
    term_inside (logic.At at t r (Marked l) a) held known rs = nothing_inside
    term_inside (logic.Null at t r) held known rs = nothing_inside
    term_inside (logic.Deref at t r a) held known rs = answered_inside (length (pointer_code p bound plan a held known rs).used) (pointer_code p bound plan a held known rs) _ (pointer_inside a held known rs) ((tt, tt), refl)
    term_inside (logic.Member at t r d a) held known rs =
        let c = member_code d (place_code p bound plan a held known rs) in answered_inside (length c.used) c _ (place_inside a held known rs) ((tt, tt), refl)
    term_inside (logic.Address at t r a) held known rs = nothing_inside
    term_inside (logic.Moved at t r op n a b) held known rs = nothing_inside
    term_inside (logic.Difference at t r n a b) held known rs =
        let c = pointer_code p bound plan a held known rs in offsets_inside c (pointer_code p bound plan b held known c.used) (pointer_inside a held known rs) (pointer_inside b held known c.used)
    term_inside (logic.Told at t r f a) held known rs =
        let c = pointer_code p bound plan a held known rs in answered_inside (length c.used) c _ (pointer_inside a held known rs) ((tt, (tt, tt)), refl)

    pub pointer_inside : (t : LogicTerm) (held : List Held) (known : List Reading) (rs : List MonType) → Inside (pointer_code p bound plan t held known rs).stmts
    pointer_inside (logic.Variable at t r x) held known rs = pointer_there_inside (is_known known (record { decl = x.decl; kind = term_type t })) t (start_pointer (pointer_to p bound x.decl) rs) nothing_inside
    pointer_inside (logic.Deref at t r a) held known rs = pointer_there_inside false t (pointer_code p bound plan a held known rs) (pointer_inside a held known rs)
    pointer_inside (logic.Member at t r d a) held known rs = pointer_there_inside false t (member_code d (place_code p bound plan a held known rs)) (place_inside a held known rs)
    pointer_inside (logic.Address at t r a) held known rs = place_inside a held known rs
    pointer_inside (logic.Moved at t r op n a b) held known rs =
        let c = pointer_code p bound plan a held known rs in before_inside c.stmts (term_code p bound plan b held known c.used).stmts (pointer_inside a held known rs) (term_inside b held known c.used)
    pointer_inside (logic.Cast at t r to a) held known rs = pointer_inside a held known rs
    pointer_inside (logic.Choice at t r c a b) held known rs =
        let more = known ++ sure_readings c in
        let z = pred_code p bound plan c held known rs in
        let x = pointer_code p bound plan a held more z.used in
        branch_pointer_inside z x (pointer_code p bound plan b held more x.used) (pred_inside c held known rs) (pointer_inside a held more z.used) (pointer_inside b held more x.used)
    pointer_inside (logic.Told at t r f a) held known rs =
        let c = pointer_code p bound plan a held known rs in answered_inside (length c.used) c _ (pointer_inside a held known rs) ((tt, (tt, tt)), refl)
    pointer_inside (logic.Number at t r n) held known rs = nothing_inside
    pointer_inside (logic.Letter at t r n) held known rs = nothing_inside
    pointer_inside (logic.Unary at t r op a) held known rs = nothing_inside
    pointer_inside (logic.Binary at t r op a b) held known rs = nothing_inside
    pointer_inside (logic.Named at t r x) held known rs = nothing_inside
    pointer_inside (logic.At at t r Here a) held known rs = pointer_inside a held known rs
    pointer_inside (logic.At at t r Pre a) held known rs = nothing_inside
    pointer_inside (logic.At at t r (Marked l) a) held known rs = nothing_inside
    pointer_inside (logic.Null at t r) held known rs = nothing_inside
    pointer_inside (logic.Difference at t r n a b) held known rs = nothing_inside

    place_inside : (t : LogicTerm) (held : List Held) (known : List Reading) (rs : List MonType) → Inside (place_code p bound plan t held known rs).stmts
    place_inside (logic.Deref at t r a) held known rs = pointer_inside a held known rs
    place_inside (logic.Member at t r d a) held known rs = place_inside a held known rs
    place_inside _ held known rs = nothing_inside

    zone_inside : (z : Zone) (held : List Held) (known : List Reading) (rs : List MonType) → Inside (zone_code p bound plan z held known rs).pointer.stmts
    zone_inside (logic.Object at n m a) held known rs = pointer_inside a held known rs
    zone_inside (logic.Elements at n m a lo hi) held known rs =
        let c = pointer_code p bound plan a held known rs in
        let x = term_code p bound plan lo held known c.used in
        let y = term_code p bound plan hi held known x.used in
        before_inside (before c.stmts x.stmts) y.stmts (before_inside c.stmts x.stmts (pointer_inside a held known rs) (term_inside lo held known c.used)) (term_inside hi held known x.used)

    zones_inside : (zs : Zones) (held : List Held) (known : List Reading) (rs : List MonType) → Inside (zones_code p bound plan zs held known rs).stmts
    zones_inside NoZone held known rs = nothing_inside
    zones_inside (Another z rest) held known rs =
        let c = zone_code p bound plan z held known rs in
        before_inside c.pointer.stmts (zones_code p bound plan rest held known c.pointer.used).stmts (zone_inside z held known rs) (zones_inside rest held known c.pointer.used)

    chain_inside : (t : LogicTerm) (x : Side) (l : Links) (held : List Held) (known : List Reading) → Inside (stmts_of x) → Inside (chain_code p bound plan t x l held known).stmts
    chain_inside t x NoLink held known h = h
    chain_inside t x (Linked at r u NoLink) held known h =
        let c = pointer_code p bound plan u held known (used_by x) in
        let d = term_code p bound plan u held known (used_by x) in
        related_inside r t u x (side_by (is_pointer_term u) c d) h (side_inside (is_pointer_term u) c d (pointer_inside u held known (used_by x)) (term_inside u held known (used_by x)))
    chain_inside t x (Linked at r u (Linked at2 r2 v rest)) held known h =
        let c = pointer_code p bound plan u held known (used_by x) in
        let d = term_code p bound plan u held known (used_by x) in
        let y = side_by (is_pointer_term u) c d in
        let z = related_code r t u x y in
        let more = known ++ (sure_readings_of_term t ++ sure_readings_of_term u) in
        let start = again y z.used in
        connected_inside And z (chain_code p bound plan u start (Linked at2 r2 v rest) held more)
        (related_inside r t u x y h (side_inside (is_pointer_term u) c d (pointer_inside u held known (used_by x)) (term_inside u held known (used_by x)))) (chain_inside u start (Linked at2 r2 v rest) held more (again_inside y z.used))

    pub pred_inside : (q : Predicate) (held : List Held) (known : List Reading) (rs : List MonType) → Inside (pred_code p bound plan q held known rs).stmts
    pred_inside (logic.Truth at b) held known rs = nothing_inside
    pred_inside (logic.NonZero at t) held known rs = term_inside t held known rs
    pred_inside (logic.Chain at t links) held known rs =
        let c = pointer_code p bound plan t held known rs in
        let d = term_code p bound plan t held known rs in
        chain_inside t (side_by (is_pointer_term t) c d) links held known (side_inside (is_pointer_term t) c d (pointer_inside t held known rs) (term_inside t held known rs))
    pred_inside (logic.Not at q) held known rs = pred_inside q held known rs
    pred_inside (logic.Connected at c a b) held known rs =
        let x = pred_code p bound plan a held known rs in
        connected_inside c x (pred_code p bound plan b held (known_at_right c known a) x.used) (pred_inside a held known rs) (pred_inside b held (known_at_right c known a) x.used)
    pred_inside (logic.Branch at c a b) held known rs =
        let more = known ++ sure_readings c in
        let z = pred_code p bound plan c held known rs in
        let x = pred_code p bound plan a held more z.used in
        branch_inside I32 z x (pred_code p bound plan b held more x.used) (pred_inside c held known rs) (pred_inside a held more z.used) (pred_inside b held more x.used)
    pred_inside (logic.Quantified at q gs a) held known rs = guards_inside q gs (pred_code p bound plan a) held known rs (λ held known rs. pred_inside a held known rs)
    pred_inside (logic.Asks at f z) held known rs =
        let c = (zone_code p bound plan z held known rs).pointer in before_inside c.stmts _ (zone_inside z held known rs) (guarded_inside c.flag _ NoStatement ((tt, tt), refl) nothing_inside)
    pred_inside (logic.Separated at zs) held known rs =
        let c = zones_code p bound plan zs held known rs in
        let pairs = pairs_inside (length c.used) c.zones in
        before_inside c.stmts _ (zones_inside zs held known rs) (guarded_inside c.flag _ NoStatement ((tt, pairs.0), pairs.1) nothing_inside)

    pub guards_inside : (q : Quantifier) (gs : Guards) (inner : List Held → List Reading → List MonType → Code) (held : List Held) (known : List Reading) (rs : List MonType)
        → ((held : List Held) (known : List Reading) (rs : List MonType) → Inside (inner held known rs).stmts) → Inside (guards_code p bound plan q gs inner held known rs).stmts
    guards_inside q NoGuard inner held known rs h = h held known rs
    guards_inside q (Guarded a y ys below b rest) inner held known rs h =
        let u = term_code p bound plan a held known rs in
        let v = term_code p bound plan b held known u.used in
        let k = type_of_width (wider (width_of a) (width_of b)) in
        let more = known ++ (sure_readings_of_term a ++ sure_readings_of_term b) in
        let within = λ (names : List Held) (js : List MonType). guards_code p bound plan q rest inner names more js in
        let c = bounded_code q below k (in_type (type_of a) k u.value) (in_type (type_of b) k v.value) (range_of a).lo (lowered below (range_of b).hi) (y ∷ ys) within held v.used in
        branch_inside I32 (relation_code (bounds_relation below) a b u v) c (truth_code (undecided q) c.used) (before_inside u.stmts v.stmts (term_inside a held known rs) (term_inside b held known u.used))
        (bounded_inside q below k (in_type (type_of a) k u.value) (in_type (type_of b) k v.value) (range_of a).lo (lowered below (range_of b).hi) (y ∷ ys) within held v.used (λ names js. guards_inside q rest inner names more js h)) nothing_inside

-- ---- the flag and the truth

by_inside : (a : MonStatements) (f : ℕ) (e : MonExpression) (rs : List MonType) → Inside a → Inside (judged_by a f e rs).stmts
by_inside a f e rs h = before_inside a _ h ((((tt, tt), (tt, tt)), tt), refl)

pub anew_inside : (e : MonExpression) (c : Code) → Inside c.stmts → Inside (judged_anew e c).stmts
anew_inside e c h = by_inside (before c.stmts _) (length c.used) c.value _ (before_inside c.stmts _ h ((tt, tt), refl))

with_inside : (f : Option MonExpression) (c : Code) → Inside c.stmts → Inside (judged_with f c).stmts
with_inside None c h = anew_inside (Constant I32 (pos 1)) c h
with_inside (Some (Register r)) c h = by_inside c.stmts r c.value c.used h
with_inside (Some (Global x)) c h = anew_inside (Global x) c h
with_inside (Some (Constant t z)) c h = anew_inside (Constant t z) c h
with_inside (Some (Binary op t x y)) c h = anew_inside (Binary op t x y) c h
with_inside (Some (Minus t x)) c h = anew_inside (Minus t x) c h
with_inside (Some (Flip t x)) c h = anew_inside (Flip t x) c h
with_inside (Some (Cast t x)) c h = anew_inside (Cast t x) c h
with_inside (Some (Load t x)) c h = anew_inside (Load t x) c h

pub judgement_inside : (p : TranslationUnit) (bound : Bindings) (plan : List Kept) (held : List Held) (q : Predicate) (rs : List MonType) → AreInside (judgement p bound plan held q rs).stmts
judgement_inside p bound plan held q rs =
    let c = pred_code p bound plan q held [] rs in
    let h = with_inside c.flag c (pred_inside p bound plan q held [] rs) in
    record { stay = h.0; no_step = h.1 }
