-- Statements, functions and files with ranges are the same but for these, each of which is right.
use Rattle.c_model.specs.AnnotationRanges.{ranged_cases}
use Rattle.c_model.specs.UnrangedPrograms.{unranged_cases, CasesRanged}
use Rattle.std.proofs.Common.{◌≡◌, List, [], ◌∷◌, map, Option, Some, None, option_map, refl, ap}
use Rattle.c_syntax.specs.Statements.{Statement, Empty, Eval, Block, If, While, Do, For, Break, Continue, Return, Labelled, ElsePart, NoElse, Else, BlockItem}
use Rattle.c_syntax.specs.Statements.{Declare, Specify, Run, Asserts, BlockItems, NoItem, Then, Switch, Cases, NoCase, AnotherCase}
use Rattle.c_syntax.specs.Programs.{NamedBehavior, FunctionContract, Function}
use Rattle.c_model.specs.Checked.{Good, one_part}
use Rattle.c_model.specs.TermRanges.{Seen, ranged_annotations}
use Rattle.c_model.specs.AnnotationRanges.{ranged_statement, ranged_else, ranged_item, ranged_items, ranged_body, seen_result, ranged_behaviors, ranged_contract, ranged_maybe, ranged_function, ranged_functions, ranged_unit}
use Rattle.c_model.specs.Unranged.{unranged_annotations, AreRangedAnnotations}
use Rattle.c_model.specs.UnrangedPrograms.{unranged_statement, unranged_else, unranged_item, unranged_items, unranged_behavior, unranged_contract, unranged_function}
use Rattle.c_model.specs.UnrangedPrograms.{StatementRanged, ElseRanged, ItemRanged, ItemsRanged, BodyRanged, BehaviorsRanged, ContractRanged, FunctionRanged, FunctionsRanged, IsRangedUnit, RangingKeepsUnits}
use Rattle.c_model.proofs.TypedParts.{Gives, gives_of, gives_one, gives_both}
use Rattle.c_model.proofs.RangedTrees.{annotations_ranged}

record IsRanged (a b : Statement) : Type 0 where
  ranged : StatementRanged b
  same : unranged_statement b ≡ unranged_statement a

record IsRangedElse (a b : ElsePart) : Type 0 where
  ranged : ElseRanged b
  same : unranged_else b ≡ unranged_else a

record IsRangedItem (a b : BlockItem) : Type 0 where
  ranged : ItemRanged b
  same : unranged_item b ≡ unranged_item a

record AreRangedItems (a b : BlockItems) : Type 0 where
  ranged : ItemsRanged b
  same : unranged_items b ≡ unranged_items a

record AreRangedCases (a b : Cases) : Type 0 where
  ranged : CasesRanged b
  same : unranged_cases b ≡ unranged_cases a

mutual
  statement_ranged : (a : Statement) → Gives (IsRanged a) (ranged_statement a)
  statement_ranged (Empty at) = record { ranged = tt; same = refl }
  statement_ranged (Eval at e) = record { ranged = tt; same = refl }
  statement_ranged (Block at items) =
      gives_one (AreRangedItems items) (IsRanged (Block at items)) (ranged_items items) (λ x. Good (Block at x)) (items_ranged items) (λ x p. record { ranged = p.ranged; same = ap (Block at) p.same })
  statement_ranged (If at e a b) =
      gives_one (IsRanged a) (IsRanged (If at e a b)) (ranged_statement a) (λ x. one_part (ranged_else b) (λ y. Good (If at e x y))) (statement_ranged a) (λ x p.
      gives_one (IsRangedElse b) (IsRanged (If at e a b)) (ranged_else b) (λ y. Good (If at e x y)) (else_ranged b) (λ y q.
      record { ranged = (p.ranged, q.ranged); same = λ i. If at e (p.same i) (q.same i) }))
  statement_ranged (While at annots e a) =
      gives_one (AreRangedAnnotations [] annots) (IsRanged (While at annots e a)) (ranged_annotations [] annots) (λ xs. one_part (ranged_statement a) (λ x. Good (While at xs e x))) (annotations_ranged [] annots) (λ xs p.
      gives_one (IsRanged a) (IsRanged (While at annots e a)) (ranged_statement a) (λ x. Good (While at xs e x)) (statement_ranged a) (λ x q.
      record { ranged = (p.ranged, q.ranged); same = λ i. While at (p.same i) e (q.same i) }))
  statement_ranged (Do at a e) =
      gives_one (IsRanged a) (IsRanged (Do at a e)) (ranged_statement a) (λ x. Good (Do at x e)) (statement_ranged a) (λ x p. record { ranged = p.ranged; same = λ i. Do at (p.same i) e })
  statement_ranged (For at annots first e step a) =
      gives_one (AreRangedAnnotations [] annots) (IsRanged (For at annots first e step a)) (ranged_annotations [] annots) (λ xs. one_part (ranged_statement a) (λ x. Good (For at xs first e step x))) (annotations_ranged [] annots) (λ xs p.
      gives_one (IsRanged a) (IsRanged (For at annots first e step a)) (ranged_statement a) (λ x. Good (For at xs first e step x)) (statement_ranged a) (λ x q.
      record { ranged = (p.ranged, q.ranged); same = λ i. For at (p.same i) first e step (q.same i) }))
  statement_ranged (Break at) = record { ranged = tt; same = refl }
  statement_ranged (Continue at) = record { ranged = tt; same = refl }
  statement_ranged (Return at e) = record { ranged = tt; same = refl }
  statement_ranged (Labelled at l a) =
      gives_one (IsRanged a) (IsRanged (Labelled at l a)) (ranged_statement a) (λ x. Good (Labelled at l x)) (statement_ranged a) (λ x p. record { ranged = p.ranged; same = ap (Labelled at l) p.same })
  statement_ranged (Switch at e cases) =
      gives_one (AreRangedCases cases) (IsRanged (Switch at e cases)) (ranged_cases cases) (λ x. Good (Switch at e x)) (cases_ranged cases) (λ x p. record { ranged = p.ranged; same = ap (Switch at e) p.same })

  cases_ranged : (cases : Cases) → Gives (AreRangedCases cases) (ranged_cases cases)
  cases_ranged NoCase = record { ranged = tt; same = refl }
  cases_ranged (AnotherCase at v items rest) =
      gives_one (AreRangedItems items) (AreRangedCases (AnotherCase at v items rest)) (ranged_items items) (λ x. one_part (ranged_cases rest) (λ y. Good (AnotherCase at v x y))) (items_ranged items) (λ x p.
      gives_one (AreRangedCases rest) (AreRangedCases (AnotherCase at v items rest)) (ranged_cases rest) (λ y. Good (AnotherCase at v x y)) (cases_ranged rest) (λ y q.
      record { ranged = (p.ranged, q.ranged); same = λ i. AnotherCase at v (p.same i) (q.same i) }))

  else_ranged : (b : ElsePart) → Gives (IsRangedElse b) (ranged_else b)
  else_ranged NoElse = record { ranged = tt; same = refl }
  else_ranged (Else a) = gives_one (IsRanged a) (IsRangedElse (Else a)) (ranged_statement a) (λ x. Good (Else x)) (statement_ranged a) (λ x p. record { ranged = p.ranged; same = ap Else p.same })

  item_ranged : (x : BlockItem) → Gives (IsRangedItem x) (ranged_item x)
  item_ranged (Declare ds) = record { ranged = tt; same = refl }
  item_ranged (Specify at t) = record { ranged = tt; same = refl }
  item_ranged (Run a) = gives_one (IsRanged a) (IsRangedItem (Run a)) (ranged_statement a) (λ x. Good (Run x)) (statement_ranged a) (λ x p. record { ranged = p.ranged; same = ap Run p.same })
  item_ranged (Asserts annots) =
      gives_one (AreRangedAnnotations [] annots) (IsRangedItem (Asserts annots)) (ranged_annotations [] annots) (λ xs. Good (Asserts xs)) (annotations_ranged [] annots) (λ xs p. record { ranged = p.ranged; same = ap Asserts p.same })

  items_ranged : (xs : BlockItems) → Gives (AreRangedItems xs) (ranged_items xs)
  items_ranged NoItem = record { ranged = tt; same = refl }
  items_ranged (Then i rest) =
      gives_one (IsRangedItem i) (AreRangedItems (Then i rest)) (ranged_item i) (λ x. one_part (ranged_items rest) (λ more. Good (Then x more))) (item_ranged i) (λ x p.
      gives_one (AreRangedItems rest) (AreRangedItems (Then i rest)) (ranged_items rest) (λ more. Good (Then x more)) (items_ranged rest) (λ more q.
      record { ranged = (p.ranged, q.ranged); same = λ k. Then (p.same k) (q.same k) }))

-- ---- functions

record IsRangedBody (a b : Option Statement) : Type 0 where
  ranged : BodyRanged b
  same : option_map unranged_statement b ≡ option_map unranged_statement a

body_ranged : (b : Option Statement) → Gives (IsRangedBody b) (ranged_body b)
body_ranged None = record { ranged = tt; same = refl }
body_ranged (Some a) = gives_one (IsRanged a) (IsRangedBody (Some a)) (ranged_statement a) (λ x. Good (Some x)) (statement_ranged a) (λ x p. record { ranged = p.ranged; same = λ i. Some (p.same i) })

record AreRangedBehaviors (seen : Seen) (xs bs : List NamedBehavior) : Type 0 where
  ranged : BehaviorsRanged seen bs
  same : map unranged_behavior bs ≡ map unranged_behavior xs

behaviors_ranged : (seen : Seen) (bs : List NamedBehavior) → Gives (AreRangedBehaviors seen bs) (ranged_behaviors seen bs)
behaviors_ranged seen [] = record { ranged = tt; same = refl }
behaviors_ranged seen (b ∷ bs) =
    gives_one (AreRangedAnnotations seen b.clauses) (AreRangedBehaviors seen (b ∷ bs)) (ranged_annotations seen b.clauses) (λ xs. one_part (ranged_behaviors seen bs) (λ ys. Good (record b { clauses = xs } ∷ ys))) (annotations_ranged seen b.clauses)
    (λ xs p.
    gives_one (AreRangedBehaviors seen bs) (AreRangedBehaviors seen (b ∷ bs)) (ranged_behaviors seen bs) (λ ys. Good (record b { clauses = xs } ∷ ys)) (behaviors_ranged seen bs) (λ ys q.
    record { ranged = (p.ranged, q.ranged); same = λ i. record b { clauses = p.same i } ∷ q.same i }))

record IsRangedContract (seen : Seen) (c d : Option FunctionContract) : Type 0 where
  ranged : ContractRanged seen d
  same : option_map unranged_contract d ≡ option_map unranged_contract c

contract_ranged : (seen : Seen) (c : Option FunctionContract) → Gives (IsRangedContract seen c) (ranged_maybe seen c)
contract_ranged seen None = record { ranged = tt; same = refl }
contract_ranged seen (Some c) =
    gives_one (λ d. IsRangedContract seen (Some c) (Some d)) (IsRangedContract seen (Some c)) (ranged_contract seen c) (λ d. Good (Some d))
    (gives_one (AreRangedAnnotations seen c.clauses) (λ d. IsRangedContract seen (Some c) (Some d)) (ranged_annotations seen c.clauses)
    (λ xs. one_part (ranged_behaviors seen c.behaviors) (λ ys. Good (record c { clauses = xs; behaviors = ys }))) (annotations_ranged seen c.clauses) (λ xs p.
    gives_one (AreRangedBehaviors seen c.behaviors) (λ d. IsRangedContract seen (Some c) (Some d)) (ranged_behaviors seen c.behaviors) (λ ys. Good (record c { clauses = xs; behaviors = ys })) (behaviors_ranged seen c.behaviors) (λ ys q.
    record { ranged = (p.ranged, q.ranged); same = λ i. Some (record { place = c.place; clauses = p.same i; behaviors = q.same i; covers = unranged_annotations c.covers }) }))) (λ d h. h)

record IsRangedFunction (f g : Function) : Type 0 where
  ranged : FunctionRanged g
  same : unranged_function g ≡ unranged_function f

function_ranged : (f : Function) → Gives (IsRangedFunction f) (ranged_function f)
function_ranged f =
    gives_both (IsRangedContract (seen_result f.result) f.contract) (IsRangedBody f.body) (IsRangedFunction f) (ranged_maybe (seen_result f.result) f.contract) (ranged_body f.body) (λ c b. Good (record f { contract = c; body = b }))
    (contract_ranged (seen_result f.result) f.contract) (body_ranged f.body) (λ c b p q. record { ranged = (p.ranged, q.ranged); same = λ i. record f { contract = p.same i; body = q.same i } })

record AreRangedFunctions (fs gs : List Function) : Type 0 where
  ranged : FunctionsRanged gs
  same : map unranged_function gs ≡ map unranged_function fs

functions_ranged : (fs : List Function) → Gives (AreRangedFunctions fs) (ranged_functions fs)
functions_ranged [] = record { ranged = tt; same = refl }
functions_ranged (f ∷ fs) =
    gives_both (IsRangedFunction f) (AreRangedFunctions fs) (AreRangedFunctions (f ∷ fs)) (ranged_function f) (ranged_functions fs) (λ g gs. Good (g ∷ gs)) (function_ranged f) (functions_ranged fs) (λ g gs p q.
    record { ranged = (p.ranged, q.ranged); same = λ i. p.same i ∷ q.same i })

-- ---- files

pub ranging_keeps_units : RangingKeepsUnits
ranging_keeps_units p q e = gives_of (IsRangedUnit p) (ranged_unit p) q
    (gives_one (AreRangedFunctions p.funcs) (IsRangedUnit p) (ranged_functions p.funcs) (λ fs. Good (record p { funcs = fs })) (functions_ranged p.funcs) (λ fs h.
    record { ranged = h.ranged; same = λ i. record p { funcs = h.same i } })) e
