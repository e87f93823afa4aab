-- How deep the code of predicates stands: twice as deep as they have tokens, at most.
use Rattle.std.proofs.Common.{◌≡◌, ℕ, suc, ℤ, ◌*◌, pos, [], ◌∷◌, ◌+◌, ◌-◌, ◌≤◌, Bool, true, false, if◌then◌else◌, max, List, ◌++◌, length, Option, Some, None, arith}
use Rattle.std.proofs.Math.Nat.{max-le, le-max_left, le-max_right}
use Rattle.c_syntax.specs.declared.annotation.Relation.{Relation}
use Rattle.c_syntax.specs.declared.expression.BinOp.{BinOp}
use Rattle.c_syntax.specs.declared.logic.Connective.{Connective}
use Rattle.c_syntax.specs.declared.logic.Label.TheVariants.{Here, Pre, Marked}
use Rattle.c_simulation.specs.Keeping.{Kept}
use Rattle.annot_simulation.specs.Held.{Held}
use Rattle.c_syntax.specs.declared.logic.Connective.TheVariants.{And, Xor, Or, Implies, Iff}
use Rattle.c_syntax.specs.declared.annotation.Relation.TheVariants as relation
use Rattle.c_syntax.specs.declared.logic.BlockFact.{BlockFact}
use Rattle.c_syntax.specs.declared.logic.BlockFact.TheVariants.{BaseAddr}
use Rattle.c_syntax.specs.Ctypes.{PlainType}
use Rattle.c_syntax.specs.Ctypes as ctype
use Rattle.c_syntax.specs.declared.logic.Quantifier.{Quantifier}
use Rattle.c_syntax.specs.declared.logic.Quantifier.TheVariants.{ForAll, Exists}
use Rattle.c_syntax.specs.Logic.{LogicTerm, Links, NoLink, Linked, Zone, Zones, NoZone, Another, Predicate, Binder, Guards, NoGuard, Guarded, range_of}
use Rattle.c_syntax.specs.Logic as logic
use Rattle.c_syntax.specs.Programs.{TranslationUnit}
use Rattle.c_model.specs.Formed.{tokens_of_term, tokens_of_zone, tokens_of_zones, tokens_of_links, tokens_of_predicate, tokens_of_guards}
use Rattle.c_model.specs.Quantifiers.{first_of, undecided}
use Rattle.c_model.specs.TermRanges.{lowered, raised}
use Rattle.quantifier_loops.specs.Tries.{Between, first_behind, from_first, is_one_behind, noted, nothing_noted, one_try}
use Rattle.quantifier_loops.specs.Upward.{turn_end, upward}
use Rattle.annot_simulation.specs.Binders.{bounded_code, bounds_relation, greatest_of, index_behind, least_of, over_code, tried_with, tries_code, with_last}
use Rattle.c_model.specs.Predicates.{alignment_of}
use Rattle.c_model.specs.Ranges.{width_of_range}
use Rattle.mon_syntax.specs.declared.tree.MonType.{MonType}
use Rattle.mon_syntax.specs.declared.tree.MonType.TheVariants.{I32, Ptr}
use Rattle.mon_syntax.specs.Registers.{Bindings}
use Rattle.mon_syntax.specs.Trees.{MonExpression, Register, Constant, Binary, MonStatements, NoStatement, Then, Set, If}
use Rattle.mon_syntax.specs.Valid.{depth, depth_of_all}
use Rattle.c_effects.specs.Expressions.{before, one, set, in_type, pointer_to}
use Rattle.mem_preds.specs.declared.question.Question.TheVariants as question
use Rattle.mem_preds.specs.Questions.{size_of, asked, read_at}
use Rattle.annot_simulation.specs.Pointers.{PointerCode, ZoneCode, start_pointer, null_code, member_code, pointer_there, answered_in, asked_there, told_there}
use Rattle.annot_simulation.specs.Pointers.{take_pointer, branch_pointer, comparable, asked_of_both, equality_asked, offsets_asked, addresses_code, question_of, apart_from_each, each_pair}
use Rattle.annot_simulation.specs.Code.{Side, OfNumber, OfPointer, used_by, stmts_of, side_by, again, related_code, is_pointer_term, is_null_term, pointer_code, place_code, zone_code, zones_code}
use Rattle.term_guards.specs.Guards.{guard}
use Rattle.annot_simulation.specs.Code.{term_type, Reading, Code, with_value, conjunction, guarded, two_code, take, take_none, branch, truth_code, is_sure, connective_operator, both_asked, left_first, connected, operated, is_total}
use Rattle.annot_simulation.specs.Code.{variable_code, is_known, relation_value, relation_code, term_code, chain_code, pred_code, sure_readings, sure_readings_of_term, known_at_right}
use Rattle.annot_simulation.specs.Code.{type_of_width, wider, working, width_of, type_of, binary_value, guards_code}

pub deep_before : (a b : MonStatements) (n : ℕ) → depth_of_all a ≤ n → depth_of_all b ≤ n → depth_of_all (before a b) ≤ n
deep_before NoStatement b n h k = k
deep_before (Then x a) b n h k =
    let l = le-max_left (depth x) (depth_of_all a) in
    let r = le-max_right (depth x) (depth_of_all a) in
    max-le (omega (arith, h, l)) (deep_before a b n (omega (arith, h, r)) k)

pub deep_if : (e : MonExpression) (a b : MonStatements) (n : ℕ) → depth_of_all a ≤ n → depth_of_all b ≤ n → depth_of_all (one (If e a b)) ≤ suc n
deep_if e a b n h k = let m : max (depth_of_all a) (depth_of_all b) ≤ n = max-le h k in max-le (omega (arith, m)) (omega arith)

pub deep_guarded : (f : Option MonExpression) (a b : MonStatements) (n : ℕ) → depth_of_all a ≤ n → depth_of_all b ≤ n → depth_of_all (guarded f a b) ≤ suc n
deep_guarded None a b n h k = omega (arith, h)
deep_guarded (Some e) a b n h k = deep_if e a b n h k

pub deep_take : (f : Option MonExpression) (e : MonExpression) (r : ℕ) → depth_of_all (take f e r) ≤ 2
deep_take None e r = omega arith
deep_take (Some a) e r = omega arith

-- ---- counts

pub some_term : (t : LogicTerm) → 1 ≤ tokens_of_term t
some_term (logic.Number at t r n) = omega arith
some_term (logic.Letter at t r n) = omega arith
some_term (logic.Variable at t r x) = omega arith
some_term (logic.Unary at t r op a) = omega arith
some_term (logic.Binary at t r op a b) = omega arith
some_term (logic.Cast at t r to a) = omega arith
some_term (logic.Choice at t r c a b) = omega arith
some_term (logic.At at t r l a) = some_term a
some_term (logic.Named at t r x) = omega arith
some_term (logic.Null at t r) = omega arith
some_term (logic.Deref at t r a) = omega arith
some_term (logic.Member at t r d a) = omega arith
some_term (logic.Address at t r a) = omega arith
some_term (logic.Moved at t r op n a b) = omega arith
some_term (logic.Difference at t r n a b) = omega arith
some_term (logic.Told at t r f a) = omega arith

pub some_tokens : (p : Predicate) → 1 ≤ tokens_of_predicate p
some_tokens (logic.Truth at b) = omega arith
some_tokens (logic.NonZero at t) = some_term t
some_tokens (logic.Chain at t links) = omega (arith, some_term t)
some_tokens (logic.Not at p) = omega arith
some_tokens (logic.Connected at c p q) = omega arith
some_tokens (logic.Branch at c p q) = omega arith
some_tokens (logic.Quantified at q gs p) = omega arith
some_tokens _ = omega arith

-- ---- parts

two_deep : (a b : Code) (e : MonExpression) (m n k : ℕ) → depth_of_all a.stmts ≤ m + m → depth_of_all b.stmts ≤ n + n → m ≤ k → n ≤ k → depth_of_all (two_code a b e).stmts ≤ k + k
two_deep a b e m n k p q lm ln = deep_before a.stmts b.stmts (k + k) (omega (arith, p, lm)) (omega (arith, q, ln))

operated_deep : (t : Bool) (op : BinOp) (w k tb : MonType) (x y : Code) (e : MonExpression) (m n : ℕ) → depth_of_all x.stmts ≤ m + m → depth_of_all y.stmts ≤ n + n → 1 ≤ m → 1 ≤ n
    → depth_of_all (operated t op w k tb x y e).stmts ≤ suc (m + n) + suc (m + n)
operated_deep true op w k tb x y e m n p q lm ln = two_deep x y e m n (suc (m + n)) p q (omega arith) (omega arith)
operated_deep false op w k tb x y e m n p q lm ln =
    let r = length y.used in
    let flag = conjunction x.flag y.flag in
    let test = guard k op (in_type tb k y.value) in
    let inner = take (Some test) e r in
    let d = deep_guarded flag inner (take_none r) 2 (deep_take (Some test) e r) (omega arith) in
    deep_before (before x.stmts y.stmts) (guarded flag inner (take_none r)) (suc (m + n) + suc (m + n)) (deep_before x.stmts y.stmts (suc (m + n) + suc (m + n)) (omega (arith, p)) (omega (arith, q)))
    (omega (arith, d, lm, ln))

branch_deep : (t : MonType) (c a b : Code) (m na nb k : ℕ) → depth_of_all c.stmts ≤ m + m → depth_of_all a.stmts ≤ na + na → depth_of_all b.stmts ≤ nb + nb → suc m ≤ k → suc na ≤ k → suc nb ≤ k → 1 ≤ na
    → depth_of_all (branch t c a b).stmts ≤ k + k
branch_deep t c a b m na nb k dc da db lm la lb some =
    deep_before c.stmts (guarded c.flag inner (take_none r)) (k + k) (omega (arith, dc, lm))
    (more (depth_of_all (guarded c.flag inner (take_none r))) (deep_guarded c.flag inner (take_none r) (suc l) (deep_if c.value (before a.stmts (take a.flag a.value r)) (before b.stmts (take b.flag b.value r)) l
    (deep_before a.stmts (take a.flag a.value r) l (omega (arith, da, ll, la)) (omega (arith, deep_take a.flag a.value r, ll, la, some)))
    (deep_before b.stmts (take b.flag b.value r) l (omega (arith, db, ll, lb)) (omega (arith, deep_take b.flag b.value r, ll, la, some)))) (omega arith)))
  where
    r : ℕ
    r = length b.used

    inner : MonStatements
    inner = one (If c.value (before a.stmts (take a.flag a.value r)) (before b.stmts (take b.flag b.value r)))

    l : ℕ
    l = k + k - 2

    ll : suc (suc l) ≡ k + k
    ll = omega (arith, la)

    more : (d : ℕ) → d ≤ suc (suc l) → d ≤ k + k
    more d h = omega (arith, ll, h)

truth_deep : (b : Bool) (rs : List MonType) → depth_of_all (truth_code b rs).stmts ≤ 2
truth_deep b rs = omega arith

connected_deep : (c : Connective) (p q : Code) (m n k : ℕ) → depth_of_all p.stmts ≤ m + m → depth_of_all q.stmts ≤ n + n → suc m ≤ k → suc n ≤ k → 1 ≤ n → depth_of_all (connected c p q).stmts ≤ k + k
connected_deep c p q m n k dp dq lm ln some = by (is_sure q)
  where
    asked : (o : Connective) → depth_of_all (both_asked o p q).stmts ≤ k + k
    asked o = two_deep p q (Binary (connective_operator o) I32 p.value q.value) m n k dp dq (omega (arith, lm)) (omega (arith, ln))

    first : (o : Connective) → depth_of_all (left_first o p q).stmts ≤ k + k
    first And = branch_deep I32 p q (truth_code false q.used) m n 1 k dp dq (truth_deep false q.used) lm ln (omega (arith, some, ln)) some
    first Or = branch_deep I32 p (truth_code true q.used) q m 1 n k dp (truth_deep true q.used) dq lm (omega (arith, some, ln)) ln (omega arith)
    first Implies = branch_deep I32 p q (truth_code true q.used) m n 1 k dp dq (truth_deep true q.used) lm ln (omega (arith, some, ln)) some
    first Iff = asked Iff
    first Xor = asked Xor

    by : (t : Bool) → depth_of_all (if t then both_asked c p q else left_first c p q).stmts ≤ k + k
    by true = asked c
    by false = first c

relation_deep : (t : LogicTerm) (r : Relation) (u : LogicTerm) (x y : Code) (m n k : ℕ) → depth_of_all x.stmts ≤ m + m → depth_of_all y.stmts ≤ n + n → m ≤ k → n ≤ k
    → depth_of_all (relation_code r t u x y).stmts ≤ k + k
relation_deep t r u x y m n k dx dy lm ln =
    two_deep x y (relation_value r (type_of_width (wider (width_of t) (width_of u))) (type_of t) (type_of u) x.value y.value) m n k dx dy lm ln

-- ---- pointers

answered_deep : (r : ℕ) (c : PointerCode) (a : MonStatements) (m n : ℕ) → depth_of_all c.stmts ≤ m + m → suc m ≤ n → 1 ≤ m → depth_of_all a ≤ 2 → depth_of_all (answered_in r c a) ≤ n + n
answered_deep r c a m n d lm some da =
    let g = deep_guarded c.flag a (take_none r) 2 da (omega arith) in
    deep_before c.stmts (guarded c.flag a (take_none r)) (n + n) (omega (arith, d, lm)) (omega (arith, g, lm, some))

pub loads_deep : (c : PointerCode) → depth_of_all (Then (asked_there question.Pointer Ptr c (length c.used)) (one (If (Register (length c.used)) (set (suc (length c.used)) (read_at Ptr c.base c.offset)) NoStatement))) ≤ 2
loads_deep c = omega arith

pub fact_deep : (f : BlockFact) (c : PointerCode) → depth_of_all (Then (asked_there question.Inside Ptr c (length c.used)) (one (told_there f c (suc (length c.used))))) ≤ 2
fact_deep f c = omega arith

there_deep : (known : Bool) (t : Option PlainType) (c : PointerCode) (m n : ℕ) → depth_of_all c.stmts ≤ m + m → suc m ≤ n → 1 ≤ m → depth_of_all (pointer_there known t c).stmts ≤ n + n
there_deep true (Some (ctype.Ptr u)) c m n d lm some = deep_before c.stmts (set (length c.used) (read_at Ptr c.base c.offset)) (n + n) (omega (arith, d, lm)) (omega (arith, lm))
there_deep false (Some (ctype.Ptr u)) c m n d lm some = answered_deep (length c.used) c _ m n d lm some (loads_deep c)
there_deep known (Some (ctype.Array u k)) c m n d lm some = omega (arith, d, lm)
there_deep known (Some (ctype.Int k)) c m n d lm some = omega arith
there_deep known (Some (ctype.Struct k)) c m n d lm some = omega arith
there_deep known (Some ctype.Void) c m n d lm some = omega arith
there_deep known (Some (ctype.Named x)) c m n d lm some = omega arith
there_deep known (Some (ctype.StructTag x tag)) c m n d lm some = omega arith
there_deep known (Some (ctype.EnumTag x at)) c m n d lm some = omega arith
there_deep known None c m n d lm some = omega arith

-- a variable, of which nothing is asked before
variable_there_deep : (known : Bool) (t : Option PlainType) (e : MonExpression) (rs : List MonType) → depth_of_all (pointer_there known t (start_pointer e rs)).stmts ≤ 2
variable_there_deep true (Some (ctype.Ptr u)) e rs = omega arith
variable_there_deep false (Some (ctype.Ptr u)) e rs = omega arith
variable_there_deep known (Some (ctype.Array u k)) e rs = omega arith
variable_there_deep known (Some (ctype.Int k)) e rs = omega arith
variable_there_deep known (Some (ctype.Struct k)) e rs = omega arith
variable_there_deep known (Some ctype.Void) e rs = omega arith
variable_there_deep known (Some (ctype.Named x)) e rs = omega arith
variable_there_deep known (Some (ctype.StructTag x tag)) e rs = omega arith
variable_there_deep known (Some (ctype.EnumTag x at)) e rs = omega arith
variable_there_deep known None e rs = omega arith

pub deep_take_pointer : (f : Option MonExpression) (c : PointerCode) (r : ℕ) → depth_of_all (take_pointer f c r) ≤ 2
deep_take_pointer None c r = omega arith
deep_take_pointer (Some a) c r = omega arith

branch_pointer_deep : (c : Code) (a b : PointerCode) (m na nb k : ℕ) → depth_of_all c.stmts ≤ m + m → depth_of_all a.stmts ≤ na + na → depth_of_all b.stmts ≤ nb + nb → suc m ≤ k → suc na ≤ k → suc nb ≤ k → 1 ≤ na
    → depth_of_all (branch_pointer c a b).stmts ≤ k + k
branch_pointer_deep c a b m na nb k dc da db lm la lb some =
    deep_before c.stmts (guarded c.flag inner (take_none r)) (k + k) (omega (arith, dc, lm))
    (more (depth_of_all (guarded c.flag inner (take_none r))) (deep_guarded c.flag inner (take_none r) (suc l) (deep_if c.value (before a.stmts (take_pointer a.flag a r)) (before b.stmts (take_pointer b.flag b r)) l
    (deep_before a.stmts (take_pointer a.flag a r) l (omega (arith, da, ll, la)) (omega (arith, deep_take_pointer a.flag a r, ll, la, some)))
    (deep_before b.stmts (take_pointer b.flag b r) l (omega (arith, db, ll, lb)) (omega (arith, deep_take_pointer b.flag b r, ll, la, some)))) (omega arith)))
  where
    r : ℕ
    r = length b.used

    inner : MonStatements
    inner = one (If c.value (before a.stmts (take_pointer a.flag a r)) (before b.stmts (take_pointer b.flag b r)))

    l : ℕ
    l = k + k - 2

    ll : suc (suc l) ≡ k + k
    ll = omega (arith, la)

    more : (d : ℕ) → d ≤ suc (suc l) → d ≤ k + k
    more d h = omega (arith, ll, h)

of_both_deep : (c d : PointerCode) (a : MonStatements) (m n k : ℕ) → depth_of_all c.stmts ≤ m + m → depth_of_all d.stmts ≤ n + n → m ≤ k → n ≤ k → 1 ≤ k → depth_of_all a ≤ 1 → depth_of_all (asked_of_both c d a) ≤ k + k
of_both_deep c d a m n k dc dd lm ln some da =
    let g = deep_guarded (conjunction c.flag d.flag) a (take_none (length d.used)) 1 da (omega arith) in
    deep_before (before c.stmts d.stmts) (guarded (conjunction c.flag d.flag) a (take_none (length d.used))) (k + k) (deep_before c.stmts d.stmts (k + k) (omega (arith, dc, lm)) (omega (arith, dd, ln)))
    (omega (arith, g, some))

comparable_deep : (m : Bool) (c : PointerCode) (r : ℕ) → depth_of_all (comparable m c r) ≤ 1
comparable_deep true c r = omega arith
comparable_deep false c r = omega arith

pub equality_deep : (m n : Bool) (c d : PointerCode) (r : ℕ) → depth_of_all (equality_asked m n c d r) ≤ 1
equality_deep m n c d r = deep_before (comparable m c r) _ 1 (comparable_deep m c r) (deep_before (comparable n d (suc r)) _ 1 (comparable_deep n d (suc r)) (omega arith))

pub offsets_deep : (c d : PointerCode) (r : ℕ) → depth_of_all (offsets_asked c d r) ≤ 1
offsets_deep c d r = omega arith

addresses_deep : (r : Relation) (p q : Bool) (c d : PointerCode) (m n k : ℕ) → depth_of_all c.stmts ≤ m + m → depth_of_all d.stmts ≤ n + n → m ≤ k → n ≤ k → 1 ≤ k → depth_of_all (addresses_code r p q c d).stmts ≤ k + k
addresses_deep relation.Eq p q c d m n k dc dd lm ln some = of_both_deep c d (equality_asked p q c d (length d.used)) m n k dc dd lm ln some (equality_deep p q c d (length d.used))
addresses_deep relation.Ne p q c d m n k dc dd lm ln some = of_both_deep c d (equality_asked p q c d (length d.used)) m n k dc dd lm ln some (equality_deep p q c d (length d.used))
addresses_deep relation.Lt p q c d m n k dc dd lm ln some = of_both_deep c d (offsets_asked c d (length d.used)) m n k dc dd lm ln some (offsets_deep c d (length d.used))
addresses_deep relation.Le p q c d m n k dc dd lm ln some = of_both_deep c d (offsets_asked c d (length d.used)) m n k dc dd lm ln some (offsets_deep c d (length d.used))
addresses_deep relation.Gt p q c d m n k dc dd lm ln some = of_both_deep c d (offsets_asked c d (length d.used)) m n k dc dd lm ln some (offsets_deep c d (length d.used))
addresses_deep relation.Ge p q c d m n k dc dd lm ln some = of_both_deep c d (offsets_asked c d (length d.used)) m n k dc dd lm ln some (offsets_deep c d (length d.used))

pub related_deep : (r : Relation) (t u : LogicTerm) (x y : Side) (m n k : ℕ) → depth_of_all (stmts_of x) ≤ m + m → depth_of_all (stmts_of y) ≤ n + n → m ≤ k → n ≤ k → 1 ≤ k → depth_of_all (related_code r t u x y).stmts ≤ k + k
related_deep r t u (OfNumber x) (OfNumber y) m n k dx dy lm ln some = relation_deep t r u x y m n k dx dy lm ln
related_deep r t u (OfNumber x) (OfPointer y) m n k dx dy lm ln some = addresses_deep r (is_null_term t) (is_null_term u) (null_code x) y m n k dx dy lm ln some
related_deep r t u (OfPointer x) (OfNumber y) m n k dx dy lm ln some = addresses_deep r (is_null_term t) (is_null_term u) x (null_code y) m n k dx dy lm ln some
related_deep r t u (OfPointer x) (OfPointer y) m n k dx dy lm ln some = addresses_deep r (is_null_term t) (is_null_term u) x y m n k dx dy lm ln some

side_deep : (s : Bool) (c : PointerCode) (d : Code) (n : ℕ) → depth_of_all c.stmts ≤ n → depth_of_all d.stmts ≤ n → depth_of_all (stmts_of (side_by s c d)) ≤ n
side_deep true c d n h i = h
side_deep false c d n h i = i

again_deep : (x : Side) (rs : List MonType) (n : ℕ) → depth_of_all (stmts_of (again x rs)) ≤ n
again_deep (OfNumber c) rs n = omega arith
again_deep (OfPointer c) rs n = omega arith

each_deep : (t : ℕ) (z : ZoneCode) (ds : List ZoneCode) → depth_of_all (apart_from_each t z ds) ≤ 1
each_deep t z [] = omega arith
each_deep t z (d ∷ ds) = max-le (omega arith) (max-le (omega arith) (each_deep t z ds))

pub pairs_deep : (t : ℕ) (zs : List ZoneCode) → depth_of_all (each_pair t zs) ≤ 1
pairs_deep t [] = omega arith
pairs_deep t (z ∷ zs) = deep_before (apart_from_each t z zs) (each_pair t zs) 1 (each_deep t z zs) (pairs_deep t zs)

-- ---- terms and predicates

-- ---- binders

-- a loop over values stands three levels deep, and what is done with a value in it
tried_deep : (q : Quantifier) (r : ℕ) (a : MonStatements) (f : Option MonExpression) (e : MonExpression) (n : ℕ) → 3 ≤ n → depth_of_all a ≤ n → depth_of_all (one_try q r a f e) ≤ n
tried_deep q r a f e n some h = deep_before a (guarded f (noted q r e) (nothing_noted r)) n h (let g = deep_guarded f (noted q r e) (nothing_noted r) 2 (noted_deep q) (omega arith) in omega (arith, g, some))
  where
    noted_deep : (q : Quantifier) → depth_of_all (noted q r e) ≤ 2
    noted_deep ForAll = omega arith
    noted_deep Exists = omega arith

upward_deep : (k : MonType) (index : ℕ) (from to : MonExpression) (inner : MonStatements) (stop n : ℕ) → 2 ≤ n → depth_of_all inner ≤ n → depth_of_all (one (upward k index from to inner stop)) ≤ 2 + n
upward_deep k index from to inner stop n some h =
    let g = deep_before inner (turn_end k index to stop) n h (omega (arith, some)) in
    max-le (omega (arith, g, some)) (omega arith)

from_first_deep : (o : Option ℤ) (b : Between) (index : ℕ) (inner : MonStatements) (stop n : ℕ) → 2 ≤ n → depth_of_all inner ≤ n → depth_of_all (from_first o b index inner stop) ≤ 2 + n
from_first_deep None b index inner stop n some h = upward_deep b.kind index (first_behind b) b.to inner stop n some h
from_first_deep (Some z) b index inner stop n some h = max-le (omega arith) (max-le (omega (arith, some)) (upward_deep b.kind index (Register index) b.to inner stop n some h))

tries_deep : (q : Quantifier) (b : Between) (r : ℕ) (c : Code) (n : ℕ) → 3 ≤ n → depth_of_all c.stmts ≤ n → depth_of_all (tries_code q b r c).stmts ≤ 3 + n
tries_deep q b r c n some h =
    let loops = from_first b.least b (suc (suc (suc r))) (one_try q r c.stmts c.flag c.value) (suc (suc r)) in
    let g = deep_if (is_one_behind b) loops NoStatement (2 + n) (from_first_deep b.least b (suc (suc (suc r))) (one_try q r c.stmts c.flag c.value) (suc (suc r)) n (omega (arith, some)) (tried_deep q r c.stmts c.flag c.value n some h)) (omega arith)
    in
    max-le (omega arith) (max-le (omega arith) (max-le (omega arith) (omega (arith, g))))

with_last_deep : (k : MonType) (to : MonExpression) (o : Option ℤ) (go : MonExpression → List MonType → Code) (rs : List MonType) (n : ℕ) → 2 ≤ n → ((to : MonExpression) (js : List MonType) → depth_of_all (go to js).stmts ≤ n)
    → depth_of_all (with_last k to o go rs).stmts ≤ n
with_last_deep k to None go rs n some h = h to rs
with_last_deep k to (Some z) go rs n some h = max-le (omega (arith, some)) (max-le (omega (arith, some)) (h (Register (length rs)) (rs ++ k ∷ [])))

module _ (q : Quantifier) (k : MonType) (to : MonExpression) (most : ℤ) (inner : List Held → List MonType → Code) (n : ℕ) (some : 3 ≤ n) (h : (held : List Held) (js : List MonType) → depth_of_all (inner held js).stmts ≤ n) where
  over_deep : (from : MonExpression) (least : ℤ) (bs : List Binder) (held : List Held) (rs : List MonType) → depth_of_all (over_code q k to most inner from least bs held rs).stmts ≤ 3 * length bs + n
  over_deep from least [] held rs = let d = h held rs in omega (arith, d)
  over_deep from least (b ∷ bs) held rs =
      with_last_deep k to (greatest_of b.kind most) (λ last js. tries_code q (bounds last) (length js) (others js)) rs (3 * length (b ∷ bs) + n) (omega (arith, some)) (λ last js.
      let d = tries_deep q (bounds last) (length js) (others js) (3 * length bs + n) (omega (arith, some))
      (over_deep (Register (index_behind js)) (first_of b.kind (raised b.above least)) bs (record { number = b.place.offset; register = index_behind js; kind = k } ∷ held) (tried_with k js)) in
      omega (arith, d))
    where
      bounds : MonExpression → Between
      bounds last = record { above = b.above; kind = k; least = least_of b.kind (raised b.above least); from = from; to = last }

      others : List MonType → Code
      others js =
          over_code q k to most inner (Register (index_behind js)) (first_of b.kind (raised b.above least)) bs (record { number = b.place.offset; register = index_behind js; kind = k } ∷ held) (tried_with k js)

pub bounded_deep : (q : Quantifier) (below : Bool) (k : MonType) (from to : MonExpression) (least most : ℤ) (bs : List Binder) (inner : List Held → List MonType → Code) (held : List Held) (rs : List MonType) (n : ℕ) → 3 ≤ n
    → ((held : List Held) (js : List MonType) → depth_of_all (inner held js).stmts ≤ n) → depth_of_all (bounded_code q below k from to least most bs inner held rs).stmts ≤ 3 * length bs + n
bounded_deep q below k from to least most bs inner held rs n some h = max-le (omega (arith, some)) (over_deep q k (Register (length rs)) most inner n some h from least bs held (rs ++ k ∷ []))

module _ (p : TranslationUnit) (bound : Bindings) (plan : List Kept) where
  variable_deep : (b : Bool) (w : MonType) (x : Reading) (rs : List MonType) → depth_of_all (variable_code p bound b w x rs).stmts ≤ 2
  variable_deep true w x rs = omega arith
  variable_deep false w x rs = omega arith

  mutual
    pub term_deep : (t : LogicTerm) (held : List Held) (known : List Reading) (rs : List MonType) → depth_of_all (term_code p bound plan t held known rs).stmts ≤ tokens_of_term t + tokens_of_term t
    term_deep (logic.Number at t r n) held known rs = omega arith
    term_deep (logic.Letter at t r n) held known rs = omega arith
    term_deep (logic.Variable at t r x) held known rs = variable_deep (is_known known (record { decl = x.decl; kind = term_type t })) (type_of_width (width_of_range r)) (record { decl = x.decl; kind = term_type t }) rs
    term_deep (logic.Unary at t r op a) held known rs = let d = term_deep a held known rs in omega (arith, d)
    term_deep (logic.Binary at t r op a b) held known rs =
        let x = term_code p bound plan a held known rs in
        let y = term_code p bound plan b held known x.used in
        let w = type_of_width (width_of_range r) in
        let k = type_of_width (working op (width_of_range r) (width_of a) (width_of b)) in
        let d = operated_deep (is_total op (range_of b)) op w k (type_of b) x y (binary_value op w k (type_of a) (type_of b) (range_of b) x.value y.value) (tokens_of_term a) (tokens_of_term b)
        (term_deep a held known rs) (term_deep b held known x.used) (some_term a) (some_term b) in
        omega (arith, d)
    term_deep (logic.Cast at t r to a) held known rs = let d = term_deep a held known rs in omega (arith, d)
    term_deep (logic.Choice at t r c a b) held known rs =
        let more = known ++ sure_readings c in
        let w = type_of_width (width_of_range r) in
        let z = pred_code p bound plan c held known rs in
        let x = term_code p bound plan a held more z.used in
        let y = term_code p bound plan b held more x.used in
        branch_deep w z (with_value (in_type (type_of a) w x.value) x) (with_value (in_type (type_of b) w y.value) y) (tokens_of_predicate c) (tokens_of_term a) (tokens_of_term b)
        (suc (tokens_of_predicate c + tokens_of_term a + tokens_of_term b)) (pred_deep c held known rs) (term_deep a held more z.used) (term_deep b held more x.used) (omega (arith, some_term a)) (omega arith) (omega arith) (some_term a)
    term_deep (logic.Deref at t r a) held known rs = answered_deep _ (pointer_code p bound plan a held known rs) _ (tokens_of_term a) (suc (tokens_of_term a)) (pointer_deep a held known rs) (omega arith) (some_term a) (omega arith)
    term_deep (logic.Member at t r d a) held known rs = answered_deep _ (member_code d (place_code p bound plan a held known rs)) _ (tokens_of_term a) (suc (tokens_of_term a)) (place_deep a held known rs) (omega arith) (some_term a) (omega arith)
    term_deep (logic.Difference at t r n a b) held known rs =
        let c = pointer_code p bound plan a held known rs in
        let d = pointer_code p bound plan b held known c.used in
        of_both_deep c d (offsets_asked c d (length d.used)) (tokens_of_term a) (tokens_of_term b) (suc (tokens_of_term a + tokens_of_term b)) (pointer_deep a held known rs) (pointer_deep b held known c.used) (omega arith) (omega arith) (omega arith)
        (offsets_deep c d (length d.used))
    term_deep (logic.Told at t r f a) held known rs =
        answered_deep _ (pointer_code p bound plan a held known rs) _ (tokens_of_term a) (suc (tokens_of_term a)) (pointer_deep a held known rs) (omega arith) (some_term a) (fact_deep f (pointer_code p bound plan a held known rs))
    term_deep (logic.At at t r Here a) held known rs =
        let c = term_code p bound plan a held known rs in
        let d = term_deep a held known rs in
        let e = deep_take c.flag c.value (length c.used) in
        deep_before c.stmts (take c.flag c.value (length c.used)) (tokens_of_term a + tokens_of_term a) d (omega (arith, e, some_term a))
    term_deep (logic.At at t r Pre a) held known rs = omega arith
    term_deep (logic.At at t r (Marked l) a) held known rs = omega arith
    term_deep _ held known rs = omega arith

    pub pointer_deep : (t : LogicTerm) (held : List Held) (known : List Reading) (rs : List MonType) → depth_of_all (pointer_code p bound plan t held known rs).stmts ≤ tokens_of_term t + tokens_of_term t
    pointer_deep (logic.Variable at t r x) held known rs = variable_there_deep (is_known known (record { decl = x.decl; kind = term_type t })) t (pointer_to p bound x.decl) rs
    pointer_deep (logic.Deref at t r a) held known rs = there_deep false t (pointer_code p bound plan a held known rs) (tokens_of_term a) (suc (tokens_of_term a)) (pointer_deep a held known rs) (omega arith) (some_term a)
    pointer_deep (logic.Member at t r d a) held known rs = there_deep false t (member_code d (place_code p bound plan a held known rs)) (tokens_of_term a) (suc (tokens_of_term a)) (place_deep a held known rs) (omega arith) (some_term a)
    pointer_deep (logic.Address at t r a) held known rs = let d = place_deep a held known rs in omega (arith, d)
    pointer_deep (logic.Moved at t r op n a b) held known rs =
        let c = pointer_code p bound plan a held known rs in
        let k = suc (tokens_of_term a + tokens_of_term b) in
        let x = pointer_deep a held known rs in
        let y = term_deep b held known c.used in
        deep_before c.stmts (term_code p bound plan b held known c.used).stmts (k + k) (omega (arith, x)) (omega (arith, y))
    pointer_deep (logic.Cast at t r to a) held known rs = let d = pointer_deep a held known rs in omega (arith, d)
    pointer_deep (logic.Choice at t r c a b) held known rs =
        let more = known ++ sure_readings c in
        let z = pred_code p bound plan c held known rs in
        let x = pointer_code p bound plan a held more z.used in
        let y = pointer_code p bound plan b held more x.used in
        branch_pointer_deep z x y (tokens_of_predicate c) (tokens_of_term a) (tokens_of_term b) (suc (tokens_of_predicate c + tokens_of_term a + tokens_of_term b)) (pred_deep c held known rs) (pointer_deep a held more z.used)
        (pointer_deep b held more x.used) (omega (arith, some_term a)) (omega arith) (omega arith) (some_term a)
    pointer_deep (logic.Told at t r f a) held known rs =
        answered_deep _ (pointer_code p bound plan a held known rs) _ (tokens_of_term a) (suc (tokens_of_term a)) (pointer_deep a held known rs) (omega arith) (some_term a) (fact_deep BaseAddr (pointer_code p bound plan a held known rs))
    pointer_deep (logic.At at t r Here a) held known rs = pointer_deep a held known rs
    pointer_deep (logic.At at t r Pre a) held known rs = omega arith
    pointer_deep (logic.At at t r (Marked l) a) held known rs = omega arith
    pointer_deep _ held known rs = omega arith

    place_deep : (t : LogicTerm) (held : List Held) (known : List Reading) (rs : List MonType) → depth_of_all (place_code p bound plan t held known rs).stmts ≤ tokens_of_term t + tokens_of_term t
    place_deep (logic.Deref at t r a) held known rs = let d = pointer_deep a held known rs in omega (arith, d)
    place_deep (logic.Member at t r n a) held known rs = let d = place_deep a held known rs in omega (arith, d)
    place_deep _ held known rs = omega arith

    zone_deep : (z : Zone) (held : List Held) (known : List Reading) (rs : List MonType) → depth_of_all (zone_code p bound plan z held known rs).pointer.stmts ≤ tokens_of_zone z + tokens_of_zone z
    zone_deep (logic.Object at n m a) held known rs = pointer_deep a held known rs
    zone_deep (logic.Elements at n m a lo hi) held known rs =
        let c = pointer_code p bound plan a held known rs in
        let x = term_code p bound plan lo held known c.used in
        let k = suc (tokens_of_term a + tokens_of_term lo + tokens_of_term hi) in
        let dc = pointer_deep a held known rs in
        let dx = term_deep lo held known c.used in
        let dy = term_deep hi held known x.used in
        deep_before (before c.stmts x.stmts) (term_code p bound plan hi held known x.used).stmts (k + k) (deep_before c.stmts x.stmts (k + k) (omega (arith, dc)) (omega (arith, dx))) (omega (arith, dy))

    zones_deep : (zs : Zones) (held : List Held) (known : List Reading) (rs : List MonType) → depth_of_all (zones_code p bound plan zs held known rs).stmts ≤ tokens_of_zones zs + tokens_of_zones zs
    zones_deep NoZone held known rs = omega arith
    zones_deep (Another z rest) held known rs =
        let c = zone_code p bound plan z held known rs in
        let k = suc (tokens_of_zone z + tokens_of_zones rest) in
        let dz = zone_deep z held known rs in
        let dr = zones_deep rest held known c.pointer.used in
        deep_before c.pointer.stmts (zones_code p bound plan rest held known c.pointer.used).stmts (k + k) (omega (arith, dz)) (omega (arith, dr))

    chain_deep : (t : LogicTerm) (x : Side) (l : Links) (m : ℕ) (held : List Held) (known : List Reading) → 1 ≤ m → depth_of_all (stmts_of x) ≤ m + m
        → depth_of_all (chain_code p bound plan t x l held known).stmts ≤ (m + tokens_of_links l) + (m + tokens_of_links l)
    chain_deep t x NoLink m held known some d = omega (arith, d)
    chain_deep t x (Linked at r u NoLink) m held known some d =
        let c = pointer_code p bound plan u held known (used_by x) in
        let e = term_code p bound plan u held known (used_by x) in
        let n = tokens_of_term u in
        related_deep r t u x (side_by (is_pointer_term u) c e) m n (m + suc (n + 0)) d (side_deep (is_pointer_term u) c e (n + n) (pointer_deep u held known (used_by x)) (term_deep u held known (used_by x))) (omega arith) (omega arith) (omega arith)
    chain_deep t x (Linked at r u (Linked at2 r2 v rest)) m held known some d =
        let c = pointer_code p bound plan u held known (used_by x) in
        let e = term_code p bound plan u held known (used_by x) in
        let y = side_by (is_pointer_term u) c e in
        let more = known ++ (sure_readings_of_term t ++ sure_readings_of_term u) in
        let n = tokens_of_term u in
        let z = related_code r t u x y in
        let start = again y z.used in
        let tail = chain_code p bound plan u start (Linked at2 r2 v rest) held more in
        let l = tokens_of_links (Linked at2 r2 v rest) in
        connected_deep And z tail (m + suc n) (n + l) (m + suc (n + l))
        (related_deep r t u x y m n (m + suc n) d (side_deep (is_pointer_term u) c e (n + n) (pointer_deep u held known (used_by x)) (term_deep u held known (used_by x))) (omega arith) (omega arith) (omega arith))
        (chain_deep u start (Linked at2 r2 v rest) n held more (some_term u) (again_deep y z.used (n + n))) (omega (arith, some_term v)) (omega (arith, some)) (omega (arith, some_term u))

    pub pred_deep : (q : Predicate) (held : List Held) (known : List Reading) (rs : List MonType) → depth_of_all (pred_code p bound plan q held known rs).stmts ≤ tokens_of_predicate q + tokens_of_predicate q
    pred_deep (logic.Truth at b) held known rs = truth_deep b rs
    pred_deep (logic.NonZero at t) held known rs = term_deep t held known rs
    pred_deep (logic.Chain at t links) held known rs =
        let c = pointer_code p bound plan t held known rs in
        let d = term_code p bound plan t held known rs in
        let n = tokens_of_term t in
        chain_deep t (side_by (is_pointer_term t) c d) links n held known (some_term t) (side_deep (is_pointer_term t) c d (n + n) (pointer_deep t held known rs) (term_deep t held known rs))
    pred_deep (logic.Not at a) held known rs = let d = pred_deep a held known rs in omega (arith, d)
    pred_deep (logic.Connected at c a b) held known rs =
        let x = pred_code p bound plan a held known rs in
        let ks = known_at_right c known a in
        connected_deep c x (pred_code p bound plan b held ks x.used) (tokens_of_predicate a) (tokens_of_predicate b) (suc (tokens_of_predicate a + tokens_of_predicate b)) (pred_deep a held known rs) (pred_deep b held ks x.used)
        (omega arith) (omega arith) (some_tokens b)
    pred_deep (logic.Branch at c a b) held known rs =
        let more = known ++ sure_readings c in
        let z = pred_code p bound plan c held known rs in
        let x = pred_code p bound plan a held more z.used in
        let y = pred_code p bound plan b held more x.used in
        branch_deep I32 z x y (tokens_of_predicate c) (tokens_of_predicate a) (tokens_of_predicate b) (suc (tokens_of_predicate c + tokens_of_predicate a + tokens_of_predicate b)) (pred_deep c held known rs)
        (pred_deep a held more z.used) (pred_deep b held more x.used) (omega (arith, some_tokens a)) (omega arith) (omega arith) (some_tokens a)
    pred_deep (logic.Asks at f z) held known rs =
        let c = zone_code p bound plan z held known rs in
        let ask = one (asked (question_of f) (size_of (alignment_of z)) c.pointer.base c.pointer.offset c.length (length c.pointer.used)) in
        let n = suc (tokens_of_zone z) in
        let d = zone_deep z held known rs in
        let g = deep_guarded c.pointer.flag ask NoStatement 1 (omega arith) (omega arith) in
        deep_before c.pointer.stmts (guarded c.pointer.flag ask NoStatement) (n + n) (omega (arith, d)) (omega (arith, g))
    pred_deep (logic.Separated at zs) held known rs =
        let c = zones_code p bound plan zs held known rs in
        let pairs = Then (Set (length c.used) (Constant I32 (pos 1))) (each_pair (length c.used) c.zones) in
        let n = suc (tokens_of_zones zs) in
        let d = zones_deep zs held known rs in
        let g = deep_guarded c.flag pairs NoStatement 1 (max-le (omega arith) (pairs_deep (length c.used) c.zones)) (omega arith) in
        deep_before c.stmts (guarded c.flag pairs NoStatement) (n + n) (omega (arith, d)) (omega (arith, g))
    pred_deep (logic.Quantified at q gs a) held known rs =
        let d = guards_deep q gs (pred_code p bound plan a) (tokens_of_predicate a) (some_tokens a) held known rs (λ held known rs. pred_deep a held known rs) in omega (arith, d)

    pub guards_deep : (q : Quantifier) (gs : Guards) (inner : List Held → List Reading → List MonType → Code) (n : ℕ) → 1 ≤ n → (held : List Held) (known : List Reading) (rs : List MonType)
        → ((held : List Held) (known : List Reading) (rs : List MonType) → depth_of_all (inner held known rs).stmts ≤ n + n)
        → depth_of_all (guards_code p bound plan q gs inner held known rs).stmts ≤ (tokens_of_guards gs + n) + (tokens_of_guards gs + n)
    guards_deep q NoGuard inner n some held known rs h = let d = h held known rs in omega (arith, d)
    guards_deep q (Guarded a y ys below b rest) inner n some held known rs h =
        let u = term_code p bound plan a held known rs in
        let v = term_code p bound plan b held known u.used in
        let k = type_of_width (wider (width_of a) (width_of b)) in
        let more = known ++ (sure_readings_of_term a ++ sure_readings_of_term b) in
        let within = λ (names : List Held) (js : List MonType). guards_code p bound plan q rest inner names more js in
        let c = bounded_code q below k (in_type (type_of a) k u.value) (in_type (type_of b) k v.value) (range_of a).lo (lowered below (range_of b).hi) (y ∷ ys) within held v.used in
        let ta = tokens_of_term a in
        let tb = tokens_of_term b in
        let m = tokens_of_guards rest + n in
        let d = bounded_deep q below k (in_type (type_of a) k u.value) (in_type (type_of b) k v.value) (range_of a).lo (lowered below (range_of b).hi) (y ∷ ys) within held v.used (suc (m + m)) (omega (arith, some))
        (λ names js. let x = guards_deep q rest inner n some names more js h in omega (arith, x)) in
        branch_deep I32 (relation_code (bounds_relation below) a b u v) c (truth_code (undecided q) c.used) (ta + tb) (length ys + suc (length ys) + ta + tb + m) 1 ((2 * length (y ∷ ys) + ta + tb + tokens_of_guards rest) + n)
        (relation_deep a (bounds_relation below) b u v ta tb (ta + tb) (term_deep a held known rs) (term_deep b held known u.used) (omega arith) (omega arith)) (omega (arith, d, some_term a, some_term b)) (truth_deep (undecided q) c.used)
        (omega (arith, some))
        (omega arith) (omega (arith, some_term a, some_term b)) (omega (arith, some))
