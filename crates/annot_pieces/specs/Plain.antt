-- Ours: plain forms.
use Rattle.std.specs.Prelude.{ℕ, suc, ℤ, pos, ◌∷◌, Bool, true, false, List, [], ◌++◌, length, map, Option, Some, None, option_map}
use Rattle.c_syntax.specs.declared.annotation.Range.{Range}
use Rattle.c_syntax.specs.declared.annotation.Relation.{Relation}
use Rattle.c_syntax.specs.declared.expression.BinOp.{BinOp}
use Rattle.c_syntax.specs.declared.expression.UnOp.{UnOp}
use Rattle.c_syntax.specs.declared.logic.BlockFact.{BlockFact}
use Rattle.c_syntax.specs.declared.logic.Connective.{Connective}
use Rattle.c_syntax.specs.declared.logic.Connective.TheVariants as connective
use Rattle.c_syntax.specs.declared.logic.Guard.{Guard}
use Rattle.c_syntax.specs.declared.logic.Guards as declared_guards
use Rattle.c_syntax.specs.declared.logic.Quantifier.{Quantifier}
use Rattle.c_syntax.specs.declared.types.CInt.{CInt}
use Rattle.c_syntax.specs.declared.logic.Links as declared_logic
use Rattle.c_syntax.specs.declared.logic.MemoryQuestion.{MemoryQuestion}
use Rattle.c_syntax.specs.declared.logic.PointerOp.{PointerOp}
use Rattle.c_syntax.specs.declared.logic.Pred.{Pred}
use Rattle.c_syntax.specs.declared.logic.Term.{Term}
use Rattle.c_syntax.specs.declared.logic.Zone as declared_logic_zone
use Rattle.c_syntax.specs.declared.logic.Zones as declared_logic_zones
use Rattle.c_syntax.specs.Ctypes.{PlainType}
use Rattle.c_syntax.specs.Formulas.{CastType, Integers, OfC}
use Rattle.c_syntax.specs.Logic.{LogicTerm, Links, Linked, Zone, Zones, Another, Predicate, ClauseBody, Annotation, Binder, Guards, Guarded, range_of}
use Rattle.c_syntax.specs.Logic.{plain_binder, plain_guards, plain_links, plain_pred, plain_term, plain_zone_kind, plain_zones}
use Rattle.c_syntax.specs.Logic as logic
use Rattle.c_syntax.specs.Programs.{TranslationUnit}
use Rattle.c_model.specs.Integers.{integer_type}
use Rattle.c_model.specs.Places.{first_place}
use Rattle.c_model.specs.TermRanges.{lowered}
use Rattle.c_model.specs.Ranges.{width_of_range}
use Rattle.mon_syntax.specs.declared.tree.MonOp.TheVariants.{Add, And, Div, Eq, Or, Sub}
use Rattle.mon_syntax.specs.declared.tree.MonType.{MonType}
use Rattle.mon_syntax.specs.declared.tree.MonType.TheVariants.{I32, I64, I128, Ptr}
use Rattle.mon_syntax.specs.Registers.{Bindings, Names, with_table}
use Rattle.mon_syntax.specs.Trees.{MonExpression, Register, Constant, Binary, Set, If, MonStatement, MonStatements, NoStatement, Then, plain_expr, plain_stmts}
use Rattle.c_effects.specs.Expressions.{before, one, set, in_type, pointer_to}
use Rattle.c_effects.specs.Named.{unit_of}
use Rattle.mem_preds.specs.declared.question.Question.TheVariants as question
use Rattle.mem_preds.specs.declared.ranges.Bytes.{Bytes}
use Rattle.mem_preds.specs.Questions.{read_at}
use Rattle.annot_pieces.specs.declared.opened.OpenBinder.{OpenBinder}
use Rattle.annot_pieces.specs.declared.guard.OpenGuard.{OpenGuard}
use Rattle.annot_pieces.specs.declared.plan.Stored.{Stored}
use Rattle.annot_pieces.specs.declared.piece.Code as declared
use Rattle.annot_pieces.specs.declared.pointer.PointerCode as declared_pointer
use Rattle.annot_pieces.specs.declared.reading.Known as declared_known
use Rattle.annot_pieces.specs.declared.reading.Reading as declared_reading
use Rattle.annot_pieces.specs.declared.side.Side as declared_side
use Rattle.annot_pieces.specs.declared.side.Side.TheVariants as side
use Rattle.annot_pieces.specs.declared.value.OperationTypes.{OperationTypes}
use Rattle.annot_pieces.specs.declared.zone.ZoneCode as declared_zone
use Rattle.annot_pieces.specs.declared.zone.ZonesCode as declared_zones
use Rattle.annot_simulation.specs.Code.{Code, Judgement, Reading, Side, OfNumber, OfPointer, again, conjunction, connected, guarded, is_known, judged_anew}
use Rattle.annot_simulation.specs.Code.{judged_by, related_code, relation_operator, stmts_of, used_by, sure_readings_of_term, take, take_none, term_type}
use Rattle.annot_simulation.specs.Code.{type_of, type_of_width, width_of, working, term_code, pointer_code, place_code, zone_code, zones_code}
use Rattle.annot_simulation.specs.Code.{side_code, chain_code, pred_code, judgement, clause_judgement, assertion, assertions, behind_assertion}
use Rattle.annot_simulation.specs.Code.{behind_assertions}
use Rattle.annot_simulation.specs.Code.{no_code, no_pointer_code, Valuation, relation_code, valuation, wider}
use Rattle.annot_simulation.specs.Binders.{bounds_relation, last_before}
use Rattle.annot_simulation.specs.Opened.{OpenedBinder, OpenedGuard, Within, held_within, open_binders, open_guards, used_within}
use Rattle.quantifier_loops.specs.Plain.{plain_bounds}
use Rattle.annot_simulation.specs.Held.{Held}
use Rattle.c_simulation.specs.Keeping.{Kept}
use Rattle.annot_pieces.specs.Tables.{plain_helds, plain_plan}
use Rattle.annot_simulation.specs.Pointers.{PointerCode, ZoneCode, ZonesCode, asked_there, told_there, each_pair, equality_asked, equality_code}
use Rattle.annot_simulation.specs.Pointers.{no_offset, null}
use Rattle.annot_simulation.specs.Pointers.{offsets_asked, offsets_code, one_byte, places_differ, pointer_there, start_pointer, sure_pointer, take_pointer}

-- code after which registers of these types are taken
abbrev pub code_of : declared.Code → List MonType → Code
code_of c rs = record { stmts = plain_stmts c.stmts.items; flag = option_map plain_expr c.flag; value = plain_expr c.value; used = rs }

abbrev pub pointer_of : declared_pointer.PointerCode → List MonType → PointerCode
pointer_of c rs = record {
  stmts = plain_stmts c.stmts.items;
  flag = option_map plain_expr c.flag;
  base = plain_expr c.base;
  offset = plain_expr c.offset;
  used = rs;
}

abbrev pub zone_of : declared_zone.ZoneCode → List MonType → ZoneCode
zone_of z rs = record { pointer = pointer_of z.pointer rs; length = plain_expr z.length }

-- bytes without statements
abbrev pub bytes_of : Bytes → ZoneCode
bytes_of b = record { pointer = sure_pointer (plain_expr b.base) (plain_expr b.offset) []; length = plain_expr b.length }

abbrev pub all_bytes : List Bytes → List ZoneCode
all_bytes bs = map bytes_of bs

abbrev pub zones_of : declared_zones.ZonesCode → List MonType → ZonesCode
zones_of c rs = record { stmts = plain_stmts c.stmts.items; flag = option_map plain_expr c.flag; zones = all_bytes c.zones.items; used = rs }

abbrev pub side_of : declared_side.Side → List MonType → Side
side_of (side.Number c) rs = OfNumber (code_of c rs)
side_of (side.Pointer c) rs = OfPointer (pointer_of c rs)

abbrev pub plain_reading : declared_reading.Reading → Reading
plain_reading x = record { decl = x.decl; kind = x.kind }

abbrev pub plain_readings : List declared_reading.Reading → List Reading
plain_readings xs = map plain_reading xs

-- ---- what stands in registers

-- a number that is kept with its flag in this register, where it is kept
abbrev pub number_in : Option ℕ → List MonType → Code
number_in None rs = no_code rs
number_in (Some r) rs = record { stmts = NoStatement; flag = Some (Register r); value = Register (suc r); used = rs }

-- a pointer
abbrev pub pointer_in : Option ℕ → List MonType → PointerCode
pointer_in None rs = no_pointer_code rs
pointer_in (Some r) rs =
    record { stmts = NoStatement; flag = Some (Register r); base = Register (suc r); offset = Register (suc (suc r)); used = rs }

-- What is known where a part is asked: the terms that are kept and the names, whose values stand in registers, and the variables that were read.
pub record Known : Type 0 where
  pub plan : List Kept
  pub held : List Held
  pub readings : List Reading

-- what stands in registers, with these variables
abbrev pub stored_with : Stored → List Reading → Known
stored_with s xs = record { plan = plain_plan s.plan.now.kept.now; held = plain_helds s.held.now; readings = xs }

abbrev pub plain_stored : Stored → Known
plain_stored s = stored_with s []

abbrev pub plain_known : declared_known.Known → Known
plain_known k = stored_with k.stored (plain_readings k.readings.now)

-- with these variables
abbrev pub known_with : List Reading → Known → Known
known_with xs k = record k { readings = xs }

-- nothing is known
abbrev pub nothing_known : Known
nothing_known = record { plan = []; held = []; readings = [] }

-- ---- pieces by the number of their first register; which registers are taken plays no part

abbrev pub joined : MonStatements → Option MonExpression → MonStatements → Option MonExpression → MonExpression → Code
joined a f b g e = record { stmts = before a b; flag = conjunction f g; value = e; used = [] }

abbrev pub in_registers : MonStatements → ℕ → Code
in_registers a r = record { stmts = a; flag = Some (Register r); value = Register (suc r); used = [] }

abbrev pub branch_in : ℕ → Code → Code → Code → Code
branch_in r c a b =
    let choice = one (If c.value (before a.stmts (take a.flag a.value r)) (before b.stmts (take b.flag b.value r))) in
    in_registers (before c.stmts (guarded c.flag choice (take_none r))) r

-- a value that exists where a test is 1
abbrev pub partial_in : ℕ → Code → MonExpression → Code
partial_in r x test = in_registers (before x.stmts (guarded x.flag (take (Some test) x.value r) (take_none r))) r

abbrev pub in_two_registers : MonStatements → ℕ → PointerCode
in_two_registers a r = record { stmts = a; flag = Some (Register r); base = Register (suc r); offset = no_offset; used = [] }

abbrev pub in_three_registers : MonStatements → ℕ → PointerCode
in_three_registers a r = record { stmts = a; flag = Some (Register r); base = Register (suc r); offset = Register (suc (suc r)); used = [] }

-- a flag in a register, and other statements where it is 1
abbrev pub taken_where : Option MonExpression → MonStatements → ℕ → MonStatements
taken_where None both r = Then (Set r (Constant I32 (pos 1))) both
taken_where (Some f) both r = Then (Set r f) (one (If (Register r) both NoStatement))

abbrev pub branch_pointer_in : ℕ → Code → PointerCode → PointerCode → PointerCode
branch_pointer_in r c a b =
    let choice = one (If c.value (before a.stmts (take_pointer a.flag a r)) (before b.stmts (take_pointer b.flag b r))) in
    in_three_registers (before c.stmts (guarded c.flag choice (take_none r))) r

-- a question whether there is a pointer, and its value where there is one
abbrev pub pointer_asked : PointerCode → ℕ → MonStatements
pointer_asked c r =
    Then (asked_there question.Pointer Ptr c r) (one (If (Register r) (set (suc r) (read_at Ptr c.base c.offset)) NoStatement))

-- whether there is a pointer inside a live block, and what is told of that
abbrev pub fact_asked : BlockFact → PointerCode → ℕ → MonStatements
fact_asked f c r = Then (asked_there question.Inside Ptr c r) (one (told_there f c (suc r)))

-- one byte at a place
abbrev pub parts_of : Bytes → MonExpression × MonExpression × MonExpression
parts_of b = (plain_expr b.base, plain_expr b.offset, plain_expr b.length)

abbrev pub with_parts : MonExpression → MonExpression → MonExpression × MonExpression × MonExpression
with_parts p o = (p, o, one_byte)

abbrev pub both_asked_in : ℕ → MonStatements → Option MonExpression → MonStatements → Option MonExpression → MonStatements → MonStatements
both_asked_in r a f b g on = before (before a b) (guarded (conjunction f g) on (take_none r))

abbrev pub equality_value : Bool → ℕ → MonExpression
equality_value true r = Binary Eq I32 (Register (suc r)) (Constant I32 (pos 0))
equality_value false r = Register (suc r)

abbrev pub equality_by : Bool → (m n : Bool) → PointerCode → PointerCode → Code
equality_by same m n c d = equality_code m n (equality_value same (length d.used)) c d

abbrev pub equality_in : ℕ → (m n : Bool) → PointerCode → PointerCode → MonStatements
equality_in r m n c d = before (before c.stmts d.stmts) (guarded (conjunction c.flag d.flag) (equality_asked m n c d r) (take_none r))

abbrev pub one_block : ℕ → MonExpression
one_block r = Binary And I32 (Binary And I32 (Register r) (Register (suc r))) (Binary Eq Ptr (Register (suc (suc r))) (Register (suc (suc (suc r)))))

abbrev pub offsets_in : ℕ → PointerCode → PointerCode → MonStatements
offsets_in r c d = before (before c.stmts d.stmts) (guarded (conjunction c.flag d.flag) (offsets_asked c d r) (take_none r))

abbrev pub order_by : Relation → PointerCode → PointerCode → Code
order_by r c d = offsets_code (Binary (relation_operator r) I64) c d

abbrev pub elements_between : MonType → ℕ → MonExpression → MonExpression → MonExpression
elements_between w n x y = in_type I64 w (Binary Div I64 (Binary Sub I64 x y) (Constant I64 (pos n)))

abbrev pub count_of : MonExpression → MonExpression → MonExpression
count_of low high = Binary Add I128 (Binary Sub I128 high low) (Constant I128 (pos 1))

-- what is asked where a flag is 1, and the answer
abbrev pub answered_by : ℕ → MonStatements → Option MonExpression → MonStatements → Code
answered_by r a f on = record { stmts = before a (guarded f on NoStatement); flag = f; value = Register r; used = [] }

-- whether no two of some zones share a byte
abbrev pub pairs_asked : ℕ → List ZoneCode → MonStatements
pairs_asked r zs = Then (Set r (Constant I32 (pos 1))) (each_pair r zs)

-- whether two places differ, where the second one is null
abbrev pub not_null : (p o : MonExpression) → ℕ → MonStatement
not_null p o r = places_differ p o null no_offset r

-- whether the first answer is 1, or the second one 0
abbrev pub comparable_value : ℕ → MonExpression
comparable_value r = Binary Or I32 (Register r) (Binary Eq I32 (Register (suc r)) (Constant I32 (pos 0)))

-- ---- terms and predicates where a function's names are these

abbrev pub term_by : Names → LogicTerm → Known → Code
term_by n t k = term_code (unit_of n) n.table.bound k.plan t k.held k.readings n.table.kinds

abbrev pub pointer_by : Names → LogicTerm → Known → PointerCode
pointer_by n t k = pointer_code (unit_of n) n.table.bound k.plan t k.held k.readings n.table.kinds

abbrev pub place_by : Names → LogicTerm → Known → PointerCode
place_by n t k = place_code (unit_of n) n.table.bound k.plan t k.held k.readings n.table.kinds

abbrev pub zone_by : Names → Zone → Known → ZoneCode
zone_by n z k = zone_code (unit_of n) n.table.bound k.plan z k.held k.readings n.table.kinds

abbrev pub zones_by : Names → Zones → Known → ZonesCode
zones_by n zs k = zones_code (unit_of n) n.table.bound k.plan zs k.held k.readings n.table.kinds

abbrev pub side_by_names : Names → LogicTerm → Known → Side
side_by_names n t k = side_code (unit_of n) n.table.bound k.plan t k.held k.readings n.table.kinds

-- a pointer in a variable
abbrev pub pointer_variable_by : Names → Option PlainType → ℕ → Known → PointerCode
pointer_variable_by n t x k =
    pointer_there (is_known k.readings (record { decl = x; kind = term_type t })) t (start_pointer (pointer_to (unit_of n) n.table.bound x) n.table.kinds)

abbrev pub chain_by : Names → LogicTerm → Side → Links → Known → Code
chain_by n t x links k = chain_code (unit_of n) n.table.bound k.plan t x links k.held k.readings

abbrev pub pred_by : Names → Predicate → Known → Code
pred_by n q k = pred_code (unit_of n) n.table.bound k.plan q k.held k.readings n.table.kinds

-- ---- quantifiers

-- a chain of a guard before others
abbrev pub guarded_of : Guard → declared_guards.Guards → Guards
guarded_of g rest = Guarded (plain_term g.lower) (plain_binder g.first) (map plain_binder g.others.items) g.below (plain_term g.upper) (plain_guards rest)

abbrev pub quantified_of : Quantifier → declared_guards.Guards → Pred → Predicate
quantified_of q gs p = logic.Quantified first_place q (plain_guards gs) (plain_pred p)

abbrev pub plain_opened : OpenBinder → OpenedBinder
plain_opened b = record { bounds = plain_bounds b.bounds; first = b.first; most = b.most }

-- the registers that are taken then are no part of it
abbrev pub plain_guard_opened : OpenGuard → OpenedGuard
plain_guard_opened g = record {
  related = code_of g.related [];
  kind = g.chain.kind;
  last = g.chain.last;
  bound = plain_expr g.bound;
  binders = map plain_opened g.binders.items;
}

abbrev pub plain_guards_opened : List OpenGuard → List OpenedGuard
plain_guards_opened gs = map plain_guard_opened gs

-- a chain whose bounds have their code
abbrev pub opened_guard : Guard → Code → Code → OpenedGuard
opened_guard g u v =
    let a = plain_term g.lower in
    let b = plain_term g.upper in
    let k = type_of_width (wider (width_of a) (width_of b)) in
    let last = length v.used in record {
      related = record (relation_code (bounds_relation g.below) a b u v) { used = [] };
      kind = k;
      last = last;
      bound = last_before g.below k (in_type (type_of b) k v.value);
      binders = open_binders k (Register last) (lowered g.below (range_of b).hi) (in_type (type_of a) k u.value) (range_of a).lo
          (plain_binder g.first ∷ map plain_binder g.others.items) (v.used ++ k ∷ []);
    }

abbrev pub index_of_guard : Guard → MonType
index_of_guard g = type_of_width (wider (width_of (plain_term g.lower)) (width_of (plain_term g.upper)))

abbrev pub held_in_guard : Guard → List Held → List MonType → List Held
held_in_guard g held rs =
    held_within (index_of_guard g) (Register (length rs)) (lowered g.below (range_of (plain_term g.upper)).hi)
    (plain_binder g.first ∷ map plain_binder g.others.items)
    held (rs ++ index_of_guard g ∷ [])

abbrev pub used_in_guard : Guard → List MonType → List MonType
used_in_guard g rs =
    used_within (index_of_guard g) (Register (length rs)) (lowered g.below (range_of (plain_term g.upper)).hi)
    (plain_binder g.first ∷ map plain_binder g.others.items)
    (rs ++ index_of_guard g ∷ [])

abbrev pub within_guards : Names → Guards → Known → Within
within_guards n gs k = open_guards (unit_of n) n.table.bound k.plan gs k.held k.readings n.table.kinds

-- the integer type of C that a binder has
abbrev pub c_type_of : CastType → Option CInt
c_type_of Integers = None
c_type_of (OfC t) = integer_type t

-- ---- values of terms

abbrev pub valuation_by : Names → LogicTerm → Known → Valuation
valuation_by n t k = valuation (unit_of n) n.table.bound k.plan k.held t n.table.kinds

-- ---- forms by their parts; their own places play no part

abbrev pub unary_of : UnOp → Range → Term → LogicTerm
unary_of op r a = logic.Unary a.place None r op (plain_term a)

abbrev pub cast_of : CastType → Range → Term → LogicTerm
cast_of to r a = logic.Cast a.place None r to (plain_term a)

abbrev pub binary_of : BinOp → Range → Term → Term → LogicTerm
binary_of op r a b = logic.Binary a.place None r op (plain_term a) (plain_term b)

abbrev pub choice_of : Range → Pred → Term → Term → LogicTerm
choice_of r c a b = logic.Choice c.place None r (plain_pred c) (plain_term a) (plain_term b)

abbrev pub deref_of : Option PlainType → Range → Term → LogicTerm
deref_of t r a = logic.Deref a.place t r (plain_term a)

abbrev pub member_of : Option PlainType → Range → ℕ → Term → LogicTerm
member_of t r d a = logic.Member a.place t r d (plain_term a)

abbrev pub difference_of : Range → ℕ → Term → Term → LogicTerm
difference_of r n a b = logic.Difference a.place None r n (plain_term a) (plain_term b)

abbrev pub told_of : Range → BlockFact → Term → LogicTerm
told_of r f a = logic.Told a.place None r f (plain_term a)

-- the ranges of pointers play no part either
abbrev pub moved_of : PointerOp → ℕ → Term → Term → LogicTerm
moved_of op n a b = logic.Moved a.place None a.range op n (plain_term a) (plain_term b)

abbrev pub pointer_choice_of : Pred → Term → Term → LogicTerm
pointer_choice_of c a b = logic.Choice c.place None a.range (plain_pred c) (plain_term a) (plain_term b)

abbrev pub plain_zone : declared_logic_zone.Zone → Zone
plain_zone z = plain_zone_kind z.place z.size z.align z.kind.value

-- the alignment plays no part in where the bytes are
abbrev pub elements_form : ℕ → Term → Term → Term → Zone
elements_form n a lo hi = logic.Elements a.place n 1 (plain_term a) (plain_term lo) (plain_term hi)

abbrev pub more_zones_of : declared_logic_zone.Zone → declared_logic_zones.Zones → Zones
more_zones_of z rest = Another (plain_zone z) (plain_zones rest)

abbrev pub asks_of : MemoryQuestion → declared_logic_zone.Zone → Predicate
asks_of f z = logic.Asks z.place f (plain_zone z)

abbrev pub separated_of : declared_logic_zones.Zones → Predicate
separated_of zs = logic.Separated first_place (plain_zones zs)

abbrev pub link_of : Relation → Term → declared_logic.Links → Links
link_of r u rest = Linked u.place r (plain_term u) (plain_links rest)

abbrev pub nonzero_of : Term → Predicate
nonzero_of t = logic.NonZero t.place (plain_term t)

abbrev pub chain_of : Term → declared_logic.Links → Predicate
chain_of t links = logic.Chain t.place (plain_term t) (plain_links links)

abbrev pub denied_of : Pred → Predicate
denied_of q = logic.Not q.place (plain_pred q)

abbrev pub connected_of : Connective → Pred → Pred → Predicate
connected_of c a b = logic.Connected a.place c (plain_pred a) (plain_pred b)

abbrev pub branch_of : Pred → Pred → Pred → Predicate
branch_of c a b = logic.Branch c.place (plain_pred c) (plain_pred a) (plain_pred b)

-- ---- parts of chains

abbrev pub ended : Side → Code
ended x = record { stmts = stmts_of x; flag = None; value = Constant I32 (pos 1); used = used_by x }

-- a relation of the terms of x and y, and the relations after y
abbrev pub more_links : TranslationUnit → Bindings → Relation → LogicTerm → LogicTerm → Side → Side → Links → Known → Code
more_links p bound r t u x y rest k =
    let z = related_code r t u x y in
    connected connective.And z (chain_code p bound k.plan u (again y z.used) rest k.held (k.readings ++ (sure_readings_of_term t ++ sure_readings_of_term u)))

-- ---- the types of an operator

abbrev pub types_of : BinOp → Range → LogicTerm → LogicTerm → OperationTypes
types_of op r a b = record {
  result = type_of_width (width_of_range r);
  working = type_of_width (working op (width_of_range r) (width_of a) (width_of b));
  left = type_of a;
  right = type_of b;
}

-- ---- judgements

abbrev pub written : MonStatements → Option MonExpression → MonExpression → List MonType → Code
written a f e rs = record { stmts = a; flag = f; value = e; used = rs }

-- the register that an expression is
abbrev pub number_of : MonExpression → Option ℕ
number_of (Register r) = Some r
number_of e = None

-- where a flag is, if it is a register
abbrev pub judged_where : Option ℕ → MonExpression → Code → Judgement
judged_where (Some r) e c = judged_by c.stmts r c.value c.used
judged_where None e c = judged_anew e c

-- ---- annotations where a function's names are these

abbrev pub judgement_by : Names → Predicate → Known → Judgement
judgement_by n q k = judgement (unit_of n) n.table.bound k.plan k.held q n.table.kinds

abbrev pub clause_by : Names → ClauseBody → Known → Judgement
clause_by n b k = clause_judgement (unit_of n) n.table.bound k.plan k.held b n.table.kinds

-- the names after which registers of these types are taken
abbrev pub names_with : List MonType → Names → Names
names_with rs n = with_table (record n.table { kinds = rs }) n

abbrev pub assertion_by : Names → Known → Annotation → MonStatements
assertion_by n k a = assertion (unit_of n) n.table.bound k.plan k.held n.table.kinds a

abbrev pub assertions_by : Names → Known → List Annotation → MonStatements
assertions_by n k annots = assertions (unit_of n) n.table.bound k.plan k.held n.table.kinds annots

-- the names after annotations: further registers are taken
abbrev pub names_behind_assertion : Annotation → Known → Names → Names
names_behind_assertion a k n = names_with (behind_assertion (unit_of n) n.table.bound k.plan k.held n.table.kinds a) n

abbrev pub names_behind_assertions : List Annotation → Known → Names → Names
names_behind_assertions annots k n = names_with (behind_assertions (unit_of n) n.table.bound k.plan k.held n.table.kinds annots) n
