-- Ours: what the grammar of monitored C keeps to.
-- What a tree that is read keeps to besides names and types: the limits of this profile, the steps of its loops, the bytes of its
-- strings, and the numbers of its names.
use Rattle.std.specs.Prelude.{◌≡◌, ℕ, suc, ◌<◌, ◌≤◌, max, List, Option, Some, None, Bool, true, not, ◌&&◌}
use Rattle.std.specs.List.{AllByRecursion}
use Rattle.mon_syntax.specs.Parsed.{ParsedExpression, Name, Constant, Binary, Minus, Flip, Cast, Load, ParsedArgument, Value, Number, Text, ParsedStatement}
use Rattle.mon_syntax.specs.Parsed.{Set, Store, Take, Call, If, Loop, Labelled, Goto, Return, ParsedStatements, NoStatement, Then, ParsedRegister}
use Rattle.mon_syntax.specs.Parsed.{ParsedFunction, ParsedGlobal, ParsedProgram}
use Rattle.mon_syntax.specs.Grammar.{Vocabulary, is_step}
use Rattle.mon_syntax.specs.Valid.{most_open_parens, most_nested}

-- how many parentheses are open at once in an expression
abbrev pub open_parens : ParsedExpression → ℕ
open_parens (Name x) = 0
open_parens (Constant at t z) = 1
open_parens (Binary at op a b) = suc (max (open_parens a) (open_parens b))
open_parens (Minus at a) = suc (open_parens a)
open_parens (Flip at a) = suc (open_parens a)
open_parens (Cast at t a) = suc (max 1 (open_parens a))
open_parens (Load at t a) = suc (max 1 (open_parens a))

abbrev pub HasFewParens : ParsedExpression → Type 0
HasFewParens e = open_parens e ≤ most_open_parens

abbrev pub HasFewParensWhereAny : Option ParsedExpression → Type 0
HasFewParensWhereAny None = Unit {0}
HasFewParensWhereAny (Some e) = HasFewParens e

abbrev pub IsArgumentWithin : ParsedArgument → Type 0
IsArgumentWithin (Value e) = HasFewParens e
IsArgumentWithin (Number at z) = Unit {0}
IsArgumentWithin (Text at bytes) = AllByRecursion (λ b. b < 256) bytes

-- how deep statements stand in one another, the step of a loop being one of its body
abbrev mutual
  pub depth : ParsedStatement → ℕ
  depth (Set x at e) = 1
  depth (Store t x at e) = 1
  depth (Take x at c) = 1
  depth (Call c) = 1
  depth (If e a b) = suc (max (depth_of_all a) (depth_of_all b))
  depth (Loop a b) = suc (max 1 (max (depth_of_all a) (depth_of_all b)))
  depth (Labelled a l) = suc (depth_of_all a)
  depth (Goto l) = 1
  depth (Return at e) = 1

  pub depth_of_all : ParsedStatements → ℕ
  depth_of_all NoStatement = 0
  depth_of_all (Then a rest) = max (depth a) (depth_of_all rest)

-- the bytes of a literal, where it is one
abbrev pub AreBytesWhereAny : Option (List ℕ) → Type 0
AreBytesWhereAny None = Unit {0}
AreBytesWhereAny (Some bytes) = AllByRecursion (λ b. b < 256) bytes

-- n is the number of names
pub record IsGlobalWithin (n : ℕ) (g : ParsedGlobal) : Type 0 where
  pub name : g.name.number < n
  pub literal : AreBytesWhereAny g.literal

module _ (ws : Vocabulary) where
  -- no `__e_acsl_step();` stands directly in these statements
  abbrev pub has_no_step : ParsedStatements → Bool
  has_no_step NoStatement = true
  has_no_step (Then a rest) = not (is_step ws a) && has_no_step rest

  -- n is the number of names
  abbrev mutual
    pub IsWithin : ℕ → ParsedStatement → Type 0
    IsWithin n (Set x at e) = HasFewParens e
    IsWithin n (Store t x at e) = HasFewParens e
    IsWithin n (Take x at c) = AllByRecursion IsArgumentWithin c.arguments
    IsWithin n (Call c) = AllByRecursion IsArgumentWithin c.arguments
    IsWithin n (If e a b) = HasFewParens e × AreWithin n a × AreWithin n b
    IsWithin n (Loop a b) = (has_no_step a ≡ true) × (has_no_step b ≡ true) × AreWithin n a × AreWithin n b
    IsWithin n (Labelled a l) = (l.number < n) × AreWithin n a
    IsWithin n (Goto l) = Unit {0}
    IsWithin n (Return at e) = HasFewParensWhereAny e

    pub AreWithin : ℕ → ParsedStatements → Type 0
    AreWithin n NoStatement = Unit {0}
    AreWithin n (Then a rest) = IsWithin n a × AreWithin n rest

  pub record IsFunctionWithin (n : ℕ) (f : ParsedFunction) : Type 0 where
    pub name : f.name.number < n
    pub parameters : AllByRecursion (λ (r : ParsedRegister). r.name.number < n) f.parameters
    pub registers : AllByRecursion (λ (r : ParsedRegister). r.name.number < n) f.registers
    pub body : AreWithin n f.body
    -- the body itself is 1 deep
    pub nested : suc (depth_of_all f.body) ≤ most_nested

  pub record IsProgramWithin (n : ℕ) (p : ParsedProgram) : Type 0 where
    pub globals : AllByRecursion (IsGlobalWithin n) p.globals
    pub functions : AllByRecursion (IsFunctionWithin n) p.functions
