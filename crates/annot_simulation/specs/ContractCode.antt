-- Ours: a choice of code; what it has to do is ACSL 2.3.2 and 2.3.3.
-- The code of a contract: a flag for each behavior says whether it holds, and the checks stand in their order.
use Rattle.std.specs.Prelude.{ℕ, suc, ◌+◌, pos, Bool, true, false, cond, nat_eq, List, [], ◌∷◌, ◌++◌, length, map, Option, Some, None}
use Rattle.c_syntax.specs.declared.place.Place.{Place}
use Rattle.c_syntax.specs.declared.annotation.Kind.{Kind}
use Rattle.c_syntax.specs.declared.annotation.Kind.TheVariants.{Disjoint}
use Rattle.c_syntax.specs.Logic as logic
use Rattle.c_syntax.specs.Logic.{ClauseBody, Raw, Holds, Behaviors, Annotation}
use Rattle.c_syntax.specs.Programs.{NamedBehavior, FunctionContract, TranslationUnit}
use Rattle.c_model.specs.ContractChecks.{Check, is_assumes, entry_checks, leave_checks}
use Rattle.mon_syntax.specs.declared.tree.MonType.{MonType}
use Rattle.mon_syntax.specs.declared.tree.MonType.TheVariants.{I32}
use Rattle.mon_syntax.specs.declared.tree.MonOp.TheVariants.{Add, Lt, Le}
use Rattle.mon_syntax.specs.Registers.{Bindings}
use Rattle.mon_syntax.specs.Trees.{MonExpression, Register, Constant, Binary, Set, Assert, If, MonStatements, NoStatement, Then}
use Rattle.c_effects.specs.Expressions.{before, one, set}
use Rattle.c_simulation.specs.Keeping.{Kept}
use Rattle.annot_simulation.specs.Code.{Judgement, assertion, behind_assertion, clause_judgement}
use Rattle.annot_simulation.specs.Held.{Held}

-- ---- flags of behaviors, from the register h on

-- none was denied yet
abbrev pub all_flagged : ℕ → List NamedBehavior → MonStatements
all_flagged h [] = NoStatement
all_flagged h (b ∷ bs) = Then (Set h (Constant I32 (pos 1))) (all_flagged (suc h) bs)

abbrev pub where_flagged : ℕ → MonStatements → MonStatements
where_flagged h a = one (If (Register h) a NoStatement)

-- the flags of all behaviors
abbrev pub flags_from : ℕ → List NamedBehavior → List ℕ
flags_from h [] = []
flags_from h (b ∷ bs) = h ∷ flags_from (suc h) bs

-- that of the first behavior of a name
abbrev pub flag_named : ℕ → ℕ → List NamedBehavior → ℕ
flag_named x h [] = h
flag_named x h (b ∷ bs) = cond (nat_eq x b.name) h (flag_named x (suc h) bs)

-- those of the behaviors that a clause names; no names are all behaviors
abbrev pub named_flags : List (Place × ℕ) → ℕ → List NamedBehavior → List ℕ
named_flags [] h bs = flags_from h bs
named_flags (x ∷ xs) h bs = map (λ (n : Place × ℕ). flag_named n.1 h bs) (x ∷ xs)

-- ---- clauses that name behaviors

-- a register becomes the sum of flags, one statement for each: an expression would open a parenthesis for each
abbrev pub summed : ℕ → List ℕ → MonStatements
summed c [] = NoStatement
summed c (f ∷ fs) = Then (Set c (Binary Add I32 (Register c) (Register f))) (summed c fs)

abbrev pub count : ℕ → List ℕ → MonStatements
count c fs = Then (Set c (Constant I32 (pos 0))) (summed c fs)

abbrev pub cover_truth : Kind → ℕ → MonExpression
cover_truth Disjoint c = Binary Le I32 (Register c) (Constant I32 (pos 1))
cover_truth _ c = Binary Lt I32 (Constant I32 (pos 0)) (Register c)

-- it is asked how many of them hold
abbrev pub cover_asked : Annotation → ℕ → MonStatements
cover_asked a c = one (Assert (Constant I32 (pos 1)) (cover_truth a.kind c) a.number a.place.line a.kind)

-- ---- a check

-- an `assumes` is broken only where it says nothing; its truth is that of its behavior
abbrev pub assumption_code : Annotation → ℕ → Judgement → MonStatements
assumption_code a h j =
    before j.stmts (Then (Assert (Register j.flag) (Constant I32 (pos 1)) a.number a.place.line a.kind) (set h (Register j.truth)))

module _ (p : TranslationUnit) (bound : Bindings) (plan : List Kept) (held : List Held) (bs : List NamedBehavior) (h : ℕ) where
  -- behaviors that are named are counted each time, all of them once: then the number of those that hold stands in a register
  abbrev pub cover_code : List (Place × ℕ) → Option ℕ → List MonType → Annotation → MonStatements
  cover_code [] None rs a = before (count (length rs) (flags_from h bs)) (cover_asked a (length rs))
  cover_code [] (Some c) rs a = cover_asked a c
  cover_code (x ∷ xs) counted rs a = before (count (length rs) (named_flags (x ∷ xs) h bs)) (cover_asked a (length rs))

  abbrev pub behind_cover : List (Place × ℕ) → Option ℕ → List MonType → List MonType
  behind_cover [] None rs = rs ++ I32 ∷ []
  behind_cover [] (Some c) rs = rs
  behind_cover (x ∷ xs) counted rs = rs ++ I32 ∷ []

  abbrev pub counted_by_cover : List (Place × ℕ) → Option ℕ → List MonType → Option ℕ
  counted_by_cover [] None rs = Some (length rs)
  counted_by_cover [] (Some c) rs = Some c
  counted_by_cover (x ∷ xs) counted rs = counted

  abbrev pub demand_code : Option ℕ → List MonType → Annotation → ClauseBody → MonStatements
  demand_code counted rs a (Raw f) = assertion p bound plan held rs a
  demand_code counted rs a (Holds q) = assertion p bound plan held rs a
  demand_code counted rs a (logic.Value t) = assertion p bound plan held rs a
  demand_code counted rs a (Behaviors names) = cover_code names counted rs a

  abbrev pub behind_demand : Option ℕ → List MonType → Annotation → ClauseBody → List MonType
  behind_demand counted rs a (Raw f) = behind_assertion p bound plan held rs a
  behind_demand counted rs a (Holds q) = behind_assertion p bound plan held rs a
  behind_demand counted rs a (logic.Value t) = behind_assertion p bound plan held rs a
  behind_demand counted rs a (Behaviors names) = behind_cover names counted rs

  abbrev pub counted_by_demand : Option ℕ → List MonType → ClauseBody → Option ℕ
  counted_by_demand counted rs (Raw f) = counted
  counted_by_demand counted rs (Holds q) = counted
  counted_by_demand counted rs (logic.Value t) = counted
  counted_by_demand counted rs (Behaviors names) = counted_by_cover names counted rs

  abbrev pub behavior_code : Option ℕ → List MonType → Annotation → ℕ → Bool → MonStatements
  behavior_code counted rs a k true = assumption_code a (h + k) (clause_judgement p bound plan held a.body rs)
  behavior_code counted rs a k false = demand_code counted rs a a.body

  abbrev pub check_code : Option ℕ → List MonType → Annotation → Option ℕ → MonStatements
  check_code counted rs a None = demand_code counted rs a a.body
  check_code counted rs a (Some k) = where_flagged (h + k) (behavior_code counted rs a k (is_assumes a.kind))

  abbrev pub behind_check : Option ℕ → List MonType → Annotation → Option ℕ → List MonType
  behind_check counted rs a None = behind_demand counted rs a a.body
  behind_check counted rs a (Some k) = cond (is_assumes a.kind) (behind_assertion p bound plan held rs a) (behind_demand counted rs a a.body)

  -- after an `assumes` another number may hold, and what is done for one behavior may not have been done
  abbrev pub counted_by : Option ℕ → List MonType → Annotation → Option ℕ → Option ℕ
  counted_by counted rs a None = counted_by_demand counted rs a.body
  counted_by counted rs a (Some k) = cond (is_assumes a.kind) None counted

  -- checks in their order, where the number of behaviors that hold may stand in a register
  abbrev pub checks_code : Option ℕ → List MonType → List Check → MonStatements
  checks_code counted rs [] = NoStatement
  checks_code counted rs (c ∷ cs) =
      before (check_code counted rs c.annotation c.behavior)
      (checks_code (counted_by counted rs c.annotation c.behavior) (behind_check counted rs c.annotation c.behavior) cs)

  abbrev pub behind_checks : Option ℕ → List MonType → List Check → List MonType
  behind_checks counted rs [] = rs
  behind_checks counted rs (c ∷ cs) =
      behind_checks (counted_by counted rs c.annotation c.behavior) (behind_check counted rs c.annotation c.behavior) cs

-- ---- a contract, whose flags stand in the registers from h on

-- no name and no label stands in what is asked at the beginning
abbrev pub entry_code : TranslationUnit → Bindings → ℕ → List MonType → FunctionContract → MonStatements
entry_code p bound h rs c = before (all_flagged h c.behaviors) (checks_code p bound [] [] c.behaviors h None rs (entry_checks c))

abbrev pub leave_code : TranslationUnit → Bindings → List Kept → List Held → ℕ → List MonType → FunctionContract → MonStatements
leave_code p bound plan held h rs c = checks_code p bound plan held c.behaviors h None rs (leave_checks c)

-- the types of all registers that are taken after them
abbrev pub behind_entry : TranslationUnit → Bindings → ℕ → List MonType → FunctionContract → List MonType
behind_entry p bound h rs c = behind_checks p bound [] [] c.behaviors h None rs (entry_checks c)

abbrev pub behind_leave : TranslationUnit → Bindings → List Kept → List Held → ℕ → List MonType → FunctionContract → List MonType
behind_leave p bound plan held h rs c = behind_checks p bound plan held c.behaviors h None rs (leave_checks c)
