-- Ours: a choice of code; what it has to do is ACSL 2.2, by the theorem of this crate.
-- The code of terms, pointers, places, zones and predicates. A term is an expression, after questions whether what it reads can be read and after what is
-- evaluated only at times.
use Rattle.std.specs.Prelude.{ℕ, suc, pos, Bool, true, false, ◌&&◌, if◌then◌else◌, nat_eq, List, [], ◌∷◌, ◌++◌, length, Option, Some, None}
use Rattle.std.specs.List.{list_any}
use Rattle.c_syntax.specs.declared.annotation.Relation.{Relation}
use Rattle.c_syntax.specs.declared.logic.Connective.{Connective}
use Rattle.c_syntax.specs.declared.logic.Connective.TheVariants as connective
use Rattle.c_syntax.specs.declared.logic.Label.TheVariants.{Here, Pre, Marked}
use Rattle.c_syntax.specs.Ctypes.{PlainType}
use Rattle.c_syntax.specs.Ctypes as ctype
use Rattle.c_syntax.specs.declared.logic.Quantifier.{Quantifier}
use Rattle.c_syntax.specs.Logic.{LogicTerm, Links, NoLink, Linked, Zone, Zones, NoZone, Another, Predicate, ClauseBody, Raw, Holds, Value, Behaviors}
use Rattle.c_syntax.specs.Logic.{Guards, NoGuard, Guarded}
use Rattle.c_syntax.specs.Logic.{Annotation, range_of}
use Rattle.c_syntax.specs.Logic as logic
use Rattle.c_syntax.specs.Programs.{TranslationUnit}
use Rattle.c_model.specs.Predicates.{alignment_of}
use Rattle.c_model.specs.PredicateTyping.{place_of_term}
use Rattle.c_model.specs.Quantifiers.{undecided}
use Rattle.c_model.specs.Ranges.{width_of_range}
use Rattle.c_model.specs.TermRanges.{lowered}
use Rattle.mon_syntax.specs.declared.tree.MonOp.TheVariants.{Eq, Ne}
use Rattle.mon_syntax.specs.declared.tree.MonType.{MonType}
use Rattle.mon_syntax.specs.declared.tree.MonType.TheVariants.{I32}
use Rattle.mon_syntax.specs.Trees.{MonExpression, Register, Constant, Binary, Load, MonStatement, Assert, If, MonStatements, NoStatement}
use Rattle.mon_syntax.specs.Checking.{same_type}
use Rattle.mon_syntax.specs.Registers.{Bindings}
use Rattle.mem_preds.specs.declared.question.Question.TheVariants as asks
use Rattle.mem_preds.specs.Questions.{asked}
use Rattle.c_effects.specs.Expressions.{before, one, set, in_type, pointer_to}
use Rattle.c_simulation.specs.Keeping.{Kept}
pub use Rattle.c_simulation.specs.Keeping.{is_pointer_sort, is_pointer_term}
use Rattle.annot_simulation.specs.Binders.{bounded_code, bounds_relation}
pub use Rattle.annot_simulation.specs.Held.{Held, held_by, held_code, held_pointer, kept_at, kept_code, kept_pointer}
pub use Rattle.annot_simulation.specs.Pieces.{term_type, access_of, relation_operator, Code, sure_code, no_code, with_value, conjunction, guarded}
pub use Rattle.annot_simulation.specs.Pieces.{two_code, take}
pub use Rattle.annot_simulation.specs.Pieces.{take_none, taken, branch, settled, type_of_width, wider, width_of, type_of, is_shift, working, is_total, count_in}
pub use Rattle.annot_simulation.specs.Pieces.{second_operand, binary_value, partial_code, operated, unary_value, relation_value, converted_to, cast_value}
pub use Rattle.annot_simulation.specs.Pieces.{truth_code, has_none, is_sure, connective_operator, both_asked, left_first, connected, relation_code}
pub use Rattle.annot_simulation.specs.Pointers.{PointerCode, no_offset, sure_pointer, start_pointer, null, no_pointer_code, null_code, member_code}
pub use Rattle.annot_simulation.specs.Pointers.{move_operator, elements_of, moved_code, take_both, take_pointer, branch_pointer, asked_there, told_there}
pub use Rattle.annot_simulation.specs.Pointers.{answered_in, number_read, pointer_read, pointer_known, pointer_there, fact_told, told_number, told_pointer}
pub use Rattle.annot_simulation.specs.Pointers.{one_byte, places_differ, comparable, asked_of_both, equality_asked, equality_code, offsets_asked, offsets_code}
pub use Rattle.annot_simulation.specs.Pointers.{addresses_code, difference_code, ZoneCode, object_code, elements_code, question_of, zone_asked, ZonesCode}
pub use Rattle.annot_simulation.specs.Pointers.{no_zones, another_zone, zones_parted, apart_from_each, each_pair, separated_code}

-- ---- variables that are read

-- a variable that is read, and the type of its value
pub record Reading : Type 0 where
  pub decl : ℕ
  pub kind : MonType

-- the register with this number becomes whether the variable holds a number: `r = __e_acsl_number(p, I128(0), size);`
abbrev pub question : TranslationUnit → Bindings → ℕ → Reading → MonStatement
question p bound r x = asked asks.Number (access_of x.kind) (pointer_to p bound x.decl) no_offset no_offset r

-- ---- what is known of variables

abbrev pub is_same_reading : Reading → Reading → Bool
is_same_reading x y = nat_eq x.decl y.decl && same_type x.kind y.kind

abbrev pub is_known : List Reading → Reading → Bool
is_known known x = list_any (is_same_reading x) known

-- a variable of numbers or of pointers
abbrev pub is_scalar : Option PlainType → Bool
is_scalar (Some (ctype.Int k)) = true
is_scalar (Some (ctype.Ptr t)) = true
is_scalar _ = false

abbrev pub readings_of_variable : Option PlainType → ℕ → List Reading
readings_of_variable t x = if is_scalar t then record { decl = x; kind = term_type t } ∷ [] else []

abbrev mutual
  -- what is read wherever a term has a value
  pub sure_readings_of_term : LogicTerm → List Reading
  sure_readings_of_term (logic.Number at t r n) = []
  sure_readings_of_term (logic.Letter at t r n) = []
  sure_readings_of_term (logic.Variable at t r x) = readings_of_variable t x.decl
  sure_readings_of_term (logic.Unary at t r op a) = sure_readings_of_term a
  sure_readings_of_term (logic.Binary at t r op a b) = sure_readings_of_term a ++ sure_readings_of_term b
  sure_readings_of_term (logic.Cast at t r to a) = sure_readings_of_term a
  sure_readings_of_term (logic.Choice at t r c a b) = []
  sure_readings_of_term (logic.Named at t r x) = []
  sure_readings_of_term (logic.At at t r l a) = []
  sure_readings_of_term (logic.Null at t r) = []
  sure_readings_of_term (logic.Deref at t r a) = sure_readings_of_term a
  sure_readings_of_term (logic.Member at t r d a) = sure_readings_of_place a
  sure_readings_of_term (logic.Address at t r a) = sure_readings_of_place a
  sure_readings_of_term (logic.Moved at t r op n a b) = sure_readings_of_term a ++ sure_readings_of_term b
  sure_readings_of_term (logic.Difference at t r n a b) = sure_readings_of_term a ++ sure_readings_of_term b
  sure_readings_of_term (logic.Told at t r f a) = sure_readings_of_term a

  -- and wherever a place stands somewhere
  pub sure_readings_of_place : LogicTerm → List Reading
  sure_readings_of_place (logic.Deref at t r a) = sure_readings_of_term a
  sure_readings_of_place (logic.Member at t r d a) = sure_readings_of_place a
  sure_readings_of_place _ = []

abbrev pub sure_readings_of_links : Links → List Reading
sure_readings_of_links NoLink = []
sure_readings_of_links (Linked at r t rest) = sure_readings_of_term t

abbrev pub sure_readings_of_zone : Zone → List Reading
sure_readings_of_zone (logic.Object at n m a) = sure_readings_of_term a
sure_readings_of_zone (logic.Elements at n m a lo hi) = sure_readings_of_term a ++ (sure_readings_of_term lo ++ sure_readings_of_term hi)

abbrev pub sure_readings_of_zones : Zones → List Reading
sure_readings_of_zones NoZone = []
sure_readings_of_zones (Another z rest) = sure_readings_of_zone z ++ sure_readings_of_zones rest

-- what is read wherever a predicate says something
abbrev pub sure_readings : Predicate → List Reading
sure_readings (logic.Truth at b) = []
sure_readings (logic.NonZero at t) = sure_readings_of_term t
sure_readings (logic.Chain at t NoLink) = []
sure_readings (logic.Chain at t (Linked at2 r u rest)) = sure_readings_of_term t ++ sure_readings_of_term u
sure_readings (logic.Not at p) = sure_readings p
sure_readings (logic.Connected at connective.And p q) = sure_readings p
sure_readings (logic.Connected at connective.Or p q) = sure_readings p
sure_readings (logic.Connected at connective.Implies p q) = sure_readings p
sure_readings (logic.Connected at connective.Iff p q) = sure_readings p ++ sure_readings q
sure_readings (logic.Connected at connective.Xor p q) = sure_readings p ++ sure_readings q
sure_readings (logic.Branch at c p q) = sure_readings c
sure_readings (logic.Quantified at quantifier guards q) = []
sure_readings (logic.Asks at question zone) = sure_readings_of_zone zone
sure_readings (logic.Separated at zones) = sure_readings_of_zones zones

-- what is known where the right side of a connective runs
abbrev pub known_at_right : Connective → List Reading → Predicate → List Reading
known_at_right connective.And known p = known ++ sure_readings p
known_at_right connective.Or known p = known ++ sure_readings p
known_at_right connective.Implies known p = known ++ sure_readings p
known_at_right connective.Iff known p = known
known_at_right connective.Xor known p = known

-- ---- sides of relations

-- null, and 0 beside a pointer
abbrev pub is_null_term : LogicTerm → Bool
is_null_term (logic.Null at t r) = true
is_null_term (logic.Number at t r n) = true
is_null_term _ = false

-- the code of a side
pub data Side : Type 0 where
  OfNumber : Code → Side
  OfPointer : PointerCode → Side

abbrev pub used_by : Side → List MonType
used_by (OfNumber c) = c.used
used_by (OfPointer c) = c.used

abbrev pub stmts_of : Side → MonStatements
stmts_of (OfNumber c) = c.stmts
stmts_of (OfPointer c) = c.stmts

abbrev pub side_by : Bool → PointerCode → Code → Side
side_by true c d = OfPointer c
side_by false c d = OfNumber d

-- a side that was computed already, after registers of these types
abbrev pub again : Side → List MonType → Side
again (OfNumber c) rs = OfNumber (sure_code c.value rs)
again (OfPointer c) rs = OfPointer (sure_pointer c.base c.offset rs)

-- a relation of two sides; beside a pointer a number is 0, which is null
abbrev pub related_code : Relation → LogicTerm → LogicTerm → Side → Side → Code
related_code r t u (OfNumber x) (OfNumber y) = relation_code r t u x y
related_code r t u (OfNumber x) (OfPointer y) = addresses_code r (is_null_term t) (is_null_term u) (null_code x) y
related_code r t u (OfPointer x) (OfNumber y) = addresses_code r (is_null_term t) (is_null_term u) x (null_code y)
related_code r t u (OfPointer x) (OfPointer y) = addresses_code r (is_null_term t) (is_null_term u) x y

-- ---- terms and predicates, where these registers are bound to variables and these variables were read, after registers of these types

module _ (p : TranslationUnit) (bound : Bindings) where
  abbrev pub variable_value : MonType → Reading → MonExpression
  variable_value w x = in_type x.kind w (Load x.kind (pointer_to p bound x.decl))

  -- it is asked whether a variable holds a number
  abbrev pub variable_code : Bool → MonType → Reading → List MonType → Code
  variable_code true w x rs = sure_code (variable_value w x) rs
  variable_code false w x rs = record {
    stmts = one (question p bound (length rs) x);
    flag = Some (Register (length rs));
    value = variable_value w x;
    used = rs ++ I32 ∷ [];
  }

-- the same, where these terms are kept
module _ (p : TranslationUnit) (bound : Bindings) (plan : List Kept) where
  abbrev mutual
    pub term_code : LogicTerm → List Held → List Reading → List MonType → Code
    term_code (logic.Number at t r n) held known rs = sure_code (Constant (type_of_width (width_of_range r)) n) rs
    term_code (logic.Letter at t r n) held known rs = sure_code (Constant (type_of_width (width_of_range r)) n) rs
    term_code (logic.Variable at t r x) held known rs =
        let y : Reading = record { decl = x.decl; kind = term_type t } in
        variable_code p bound (is_known known y) (type_of_width (width_of_range r)) y rs
    term_code (logic.Unary at t r op a) held known rs =
        let x = term_code a held known rs in
        with_value (unary_value op (type_of_width (width_of_range r)) (type_of_width (wider (width_of_range r) (width_of a))) (type_of a) x.value) x
    term_code (logic.Binary at t r op a b) held known rs =
        let x = term_code a held known rs in
        let y = term_code b held known x.used in
        let w = type_of_width (width_of_range r) in
        let k = type_of_width (working op (width_of_range r) (width_of a) (width_of b)) in
        operated (is_total op (range_of b)) op w k (type_of b) x y (binary_value op w k (type_of a) (type_of b) (range_of b) x.value y.value)
    term_code (logic.Cast at t r to a) held known rs =
        let x = term_code a held known rs in
        with_value (cast_value to (range_of a) (type_of_width (width_of_range r)) (type_of a) x.value) x
    term_code (logic.Choice at t r c a b) held known rs =
        let w = type_of_width (width_of_range r) in
        let z = pred_code c held known rs in
        let x = term_code a held (known ++ sure_readings c) z.used in
        let y = term_code b held (known ++ sure_readings c) x.used in
        branch w z (with_value (in_type (type_of a) w x.value) x) (with_value (in_type (type_of b) w y.value) y)
    term_code (logic.Deref at t r a) held known rs = number_read (type_of_width (width_of_range r)) (term_type t) (pointer_code a held known rs)
    term_code (logic.Member at t r d a) held known rs =
        number_read (type_of_width (width_of_range r)) (term_type t) (member_code d (place_code a held known rs))
    term_code (logic.Difference at t r n a b) held known rs =
        let c = pointer_code a held known rs in
        difference_code (type_of_width (width_of_range r)) n c (pointer_code b held known c.used)
    term_code (logic.Told at t r f a) held known rs = told_number (type_of_width (width_of_range r)) f (pointer_code a held known rs)
    -- pointers are no numbers
    term_code (logic.Null at t r) held known rs = no_code rs
    term_code (logic.Address at t r a) held known rs = no_code rs
    term_code (logic.Moved at t r op n a b) held known rs = no_code rs
    -- a term at a label that was passed has its value in registers
    term_code (logic.Named at t r x) held known rs = held_code (type_of_width (width_of_range r)) (held_by x.decl held) rs
    term_code (logic.At at t r Here a) held known rs = settled (type_of a) (term_code a held known rs)
    term_code (logic.At at t r Pre a) held known rs = kept_code (kept_at (place_of_term a).offset plan) rs
    term_code (logic.At at t r (Marked l) a) held known rs = kept_code (kept_at (place_of_term a).offset plan) rs

    -- a term that is a pointer
    pub pointer_code : LogicTerm → List Held → List Reading → List MonType → PointerCode
    pointer_code (logic.Variable at t r x) held known rs =
        pointer_there (is_known known (record { decl = x.decl; kind = term_type t })) t (start_pointer (pointer_to p bound x.decl) rs)
    pointer_code (logic.Null at t r) held known rs = start_pointer null rs
    pointer_code (logic.Deref at t r a) held known rs = pointer_there false t (pointer_code a held known rs)
    pointer_code (logic.Member at t r d a) held known rs = pointer_there false t (member_code d (place_code a held known rs))
    pointer_code (logic.Address at t r a) held known rs = place_code a held known rs
    pointer_code (logic.Moved at t r op n a b) held known rs =
        let c = pointer_code a held known rs in
        moved_code op n c (type_of b) (term_code b held known c.used)
    pointer_code (logic.Cast at t r to a) held known rs = pointer_code a held known rs
    pointer_code (logic.Choice at t r c a b) held known rs =
        let z = pred_code c held known rs in
        let x = pointer_code a held (known ++ sure_readings c) z.used in
        branch_pointer z x (pointer_code b held (known ++ sure_readings c) x.used)
    pointer_code (logic.Told at t r f a) held known rs = told_pointer (pointer_code a held known rs)
    pointer_code (logic.Named at t r x) held known rs = held_pointer (held_by x.decl held) rs
    pointer_code (logic.At at t r Here a) held known rs = pointer_code a held known rs
    pointer_code (logic.At at t r Pre a) held known rs = kept_pointer (kept_at (place_of_term a).offset plan) rs
    pointer_code (logic.At at t r (Marked l) a) held known rs = kept_pointer (kept_at (place_of_term a).offset plan) rs
    pointer_code _ held known rs = no_pointer_code rs

    -- where a place stands
    pub place_code : LogicTerm → List Held → List Reading → List MonType → PointerCode
    place_code (logic.Variable at t r x) held known rs = start_pointer (pointer_to p bound x.decl) rs
    place_code (logic.Deref at t r a) held known rs = pointer_code a held known rs
    place_code (logic.Member at t r d a) held known rs = member_code d (place_code a held known rs)
    place_code _ held known rs = no_pointer_code rs

    pub zone_code : Zone → List Held → List Reading → List MonType → ZoneCode
    zone_code (logic.Object at n m a) held known rs = object_code n (pointer_code a held known rs)
    zone_code (logic.Elements at n m a lo hi) held known rs =
        let c = pointer_code a held known rs in
        let x = term_code lo held known c.used in
        elements_code n c (type_of lo) (type_of hi) x (term_code hi held known x.used)

    pub zones_code : Zones → List Held → List Reading → List MonType → ZonesCode
    zones_code NoZone held known rs = no_zones rs
    zones_code (Another z rest) held known rs =
        let c = zone_code z held known rs in
        another_zone c (zones_code rest held known c.pointer.used)

    -- a chain from its first side on, whose code this is
    pub chain_code : LogicTerm → Side → Links → List Held → List Reading → Code
    chain_code t x NoLink held known = record { stmts = stmts_of x; flag = None; value = Constant I32 (pos 1); used = used_by x }
    chain_code t x (Linked at r u NoLink) held known =
        related_code r t u x (side_by (is_pointer_term u) (pointer_code u held known (used_by x)) (term_code u held known (used_by x)))
    chain_code t x (Linked at r u (Linked at2 r2 v rest)) held known =
        let y = side_by (is_pointer_term u) (pointer_code u held known (used_by x)) (term_code u held known (used_by x)) in
        let z = related_code r t u x y in
        connected connective.And z (chain_code u (again y z.used) (Linked at2 r2 v rest) held (known ++ (sure_readings_of_term t ++ sure_readings_of_term u)))

    pub pred_code : Predicate → List Held → List Reading → List MonType → Code
    pred_code (logic.Truth at b) held known rs = truth_code b rs
    pred_code (logic.NonZero at t) held known rs =
        let x = term_code t held known rs in
        with_value (Binary Ne (type_of t) x.value (Constant (type_of t) (pos 0))) x
    pred_code (logic.Chain at t links) held known rs =
        chain_code t (side_by (is_pointer_term t) (pointer_code t held known rs) (term_code t held known rs)) links held known
    pred_code (logic.Not at q) held known rs =
        let x = pred_code q held known rs in
        with_value (Binary Eq I32 x.value (Constant I32 (pos 0))) x
    pred_code (logic.Connected at c a b) held known rs =
        let x = pred_code a held known rs in
        connected c x (pred_code b held (known_at_right c known a) x.used)
    pred_code (logic.Branch at c a b) held known rs =
        let z = pred_code c held known rs in
        let x = pred_code a held (known ++ sure_readings c) z.used in
        branch I32 z x (pred_code b held (known ++ sure_readings c) x.used)
    pred_code (logic.Asks at f z) held known rs = zone_asked f (alignment_of z) (zone_code z held known rs)
    pred_code (logic.Separated at zs) held known rs = separated_code (zones_code zs held known rs)
    pred_code (logic.Quantified at q gs a) held known rs = guards_code q gs (pred_code a) held known rs

    -- what stands within guards has its code by the names that are held and the variables that were read there
    pub guards_code : Quantifier → Guards → (List Held → List Reading → List MonType → Code) → List Held → List Reading → List MonType → Code
    guards_code q NoGuard inner held known rs = inner held known rs
    guards_code q (Guarded a y ys below b rest) inner held known rs =
        let u = term_code a held known rs in
        let v = term_code b held known u.used in
        let k = type_of_width (wider (width_of a) (width_of b)) in
        let more = known ++ (sure_readings_of_term a ++ sure_readings_of_term b) in
        let c = bounded_code q below k (in_type (type_of a) k u.value) (in_type (type_of b) k v.value) (range_of a).lo (lowered below (range_of b).hi)
        (y ∷ ys) (λ names js. guards_code q rest inner names more js) held v.used in
        branch I32 (relation_code (bounds_relation below) a b u v) c (truth_code (undecided q) c.used)

  -- a side of a relation
  abbrev pub side_code : LogicTerm → List Held → List Reading → List MonType → Side
  side_code t held known rs = side_by (is_pointer_term t) (pointer_code t held known rs) (term_code t held known rs)

-- ---- the flag and the truth in registers

-- statements, a flag register, a register that is 1 where the predicate is true and else 0, and the types of all registers that are taken then
pub record Judgement : Type 0 where
  pub stmts : MonStatements
  pub flag : ℕ
  pub truth : ℕ
  pub used : List MonType

abbrev pub judged_by : MonStatements → ℕ → MonExpression → List MonType → Judgement
judged_by a f e rs = record {
  stmts = before a (one (If (Register f) (set (length rs) e) (set (length rs) (Constant I32 (pos 0)))));
  flag = f;
  truth = length rs;
  used = rs ++ I32 ∷ [];
}

-- the flag in a register of its own
abbrev pub judged_anew : MonExpression → Code → Judgement
judged_anew e c = judged_by (before c.stmts (set (length c.used) e)) (length c.used) c.value (c.used ++ I32 ∷ [])

-- a flag that is a register already stays there
abbrev pub judged_with : Option MonExpression → Code → Judgement
judged_with (Some (Register f)) c = judged_by c.stmts f c.value c.used
judged_with None c = judged_anew (Constant I32 (pos 1)) c
judged_with (Some e) c = judged_anew e c

-- the code of a predicate, after registers of these types
abbrev pub judgement : TranslationUnit → Bindings → List Kept → List Held → Predicate → List MonType → Judgement
judgement p bound plan held q rs = let x = pred_code p bound plan q held [] rs in judged_with x.flag x

-- ---- the flag and the number of a term in registers

-- statements, a flag register, a register that holds the number where there is one, and the types of all registers that are taken then
pub record Valuation : Type 0 where
  pub stmts : MonStatements
  pub flag : ℕ
  pub value : ℕ
  pub used : List MonType

-- the code of an integer term, after registers of these types
abbrev pub valuation : TranslationUnit → Bindings → List Kept → List Held → LogicTerm → List MonType → Valuation
valuation p bound plan held t rs =
    let x = term_code p bound plan t held [] rs in
    record {
      stmts = before x.stmts (take x.flag x.value (length x.used));
      flag = length x.used;
      value = suc (length x.used);
      used = x.used ++ I32 ∷ type_of t ∷ [];
    }

-- ---- annotations

-- what isn't typed says nothing, and so do the clauses that have no code yet
abbrev pub nothing_said : List MonType → Judgement
nothing_said rs = judged_anew (Constant I32 (pos 0)) (truth_code false rs)

abbrev pub clause_judgement : TranslationUnit → Bindings → List Kept → List Held → ClauseBody → List MonType → Judgement
clause_judgement p bound plan held (Raw f) rs = nothing_said rs
clause_judgement p bound plan held (Holds q) rs = judgement p bound plan held q rs
clause_judgement p bound plan held (Value t) rs = nothing_said rs
clause_judgement p bound plan held (Behaviors names) rs = nothing_said rs

-- an annotation is judged, and stops the run where it says nothing or is false
abbrev pub asserted : Annotation → Judgement → MonStatements
asserted a j = before j.stmts (one (Assert (Register j.flag) (Register j.truth) a.number a.place.line a.kind))

abbrev pub assertion : TranslationUnit → Bindings → List Kept → List Held → List MonType → Annotation → MonStatements
assertion p bound plan held rs a = asserted a (clause_judgement p bound plan held a.body rs)

-- the types of all registers that are taken after it
abbrev pub behind_assertion : TranslationUnit → Bindings → List Kept → List Held → List MonType → Annotation → List MonType
behind_assertion p bound plan held rs a = (clause_judgement p bound plan held a.body rs).used

abbrev pub assertions : TranslationUnit → Bindings → List Kept → List Held → List MonType → List Annotation → MonStatements
assertions p bound plan held rs [] = NoStatement
assertions p bound plan held rs (a ∷ rest) =
    before (assertion p bound plan held rs a) (assertions p bound plan held (behind_assertion p bound plan held rs a) rest)

abbrev pub behind_assertions : TranslationUnit → Bindings → List Kept → List Held → List MonType → List Annotation → List MonType
behind_assertions p bound plan held rs [] = rs
behind_assertions p bound plan held rs (a ∷ rest) = behind_assertions p bound plan held (behind_assertion p bound plan held rs a) rest
