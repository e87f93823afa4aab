-- Which terms a function keeps at which of its labels (ACSL 2.4.3), in the order of the text: those under `\old` and `\at`, and parameters in an
-- `ensures`, of its contract and then of its body. Each is told from the others by where it stands in the text.
use Rattle.std.specs.Prelude.{◌≡◌, ℕ, ◌+◌, ◌≤◌, ◌⊎◌, cond, nat_eq, List, [], ◌∷◌, ◌++◌, Option, Some, None}
use Rattle.c_syntax.specs.declared.logic.Label.TheVariants.{Here, Pre, Marked}
use Rattle.c_syntax.specs.Logic.{LogicTerm, Links, NoLink, Linked, Predicate, Guards, NoGuard, Guarded, Zone, Object, Elements, Zones, NoZone, Another}
use Rattle.c_syntax.specs.Logic.{ClauseBody, Raw, Holds, Behaviors, Annotation}
use Rattle.c_syntax.specs.Logic as logic
use Rattle.c_syntax.specs.Statements.{Statement, Empty, Eval, Block, If, While, Do, For, Break, Continue, Return, Labelled, Switch, ElsePart, NoElse, Else}
use Rattle.c_syntax.specs.Statements.{ForFirst, NoFirst, First, BlockItem, Declare, Specify, Run, Asserts, BlockItems, NoItem, Then, Cases, NoCase, AnotherCase}
use Rattle.c_syntax.specs.Programs.{NamedBehavior, FunctionContract, Function}
use Rattle.c_model.specs.PredicateTyping.{place_of_term}

-- a label, none being the beginning of the call, and a term
abbrev pub Entry : Type 0
Entry = Option ℕ × LogicTerm

abbrev mutual
  pub in_term : LogicTerm → List Entry
  in_term (logic.Number at t r n) = []
  in_term (logic.Letter at t r n) = []
  in_term (logic.Variable at t r x) = []
  in_term (logic.Unary at t r op a) = in_term a
  in_term (logic.Binary at t r op a b) = in_term a ++ in_term b
  in_term (logic.Cast at t r to a) = in_term a
  in_term (logic.Choice at t r c a b) = in_predicate c ++ (in_term a ++ in_term b)
  in_term (logic.Named at t r x) = []
  in_term (logic.At at t r Here a) = in_term a
  in_term (logic.At at t r Pre a) = (None, a) ∷ []
  in_term (logic.At at t r (Marked l) a) = (Some l, a) ∷ []
  in_term (logic.Null at t r) = []
  in_term (logic.Deref at t r a) = in_term a
  in_term (logic.Member at t r d a) = in_term a
  in_term (logic.Address at t r a) = in_term a
  in_term (logic.Moved at t r op n a b) = in_term a ++ in_term b
  in_term (logic.Difference at t r n a b) = in_term a ++ in_term b
  in_term (logic.Told at t r f a) = in_term a

  pub in_links : Links → List Entry
  in_links NoLink = []
  in_links (Linked at r t rest) = in_term t ++ in_links rest

  pub in_zone : Zone → List Entry
  in_zone (Object at n m a) = in_term a
  in_zone (Elements at n m a lo hi) = in_term a ++ (in_term lo ++ in_term hi)

  pub in_zones : Zones → List Entry
  in_zones NoZone = []
  in_zones (Another z rest) = in_zone z ++ in_zones rest

  pub in_predicate : Predicate → List Entry
  in_predicate (logic.Truth at b) = []
  in_predicate (logic.NonZero at t) = in_term t
  in_predicate (logic.Chain at t links) = in_term t ++ in_links links
  in_predicate (logic.Not at p) = in_predicate p
  in_predicate (logic.Connected at c p q) = in_predicate p ++ in_predicate q
  in_predicate (logic.Branch at c p q) = in_predicate c ++ (in_predicate p ++ in_predicate q)
  in_predicate (logic.Quantified at q gs p) = in_guards gs ++ in_predicate p
  in_predicate (logic.Asks at f z) = in_zone z
  in_predicate (logic.Separated at zs) = in_zones zs

  pub in_guards : Guards → List Entry
  in_guards NoGuard = []
  in_guards (Guarded a y ys below b rest) = in_term a ++ (in_term b ++ in_guards rest)

abbrev pub in_clause : ClauseBody → List Entry
in_clause (Raw f) = []
in_clause (Holds p) = in_predicate p
in_clause (logic.Value t) = in_term t
in_clause (Behaviors names) = []

abbrev pub in_annotations : List Annotation → List Entry
in_annotations [] = []
in_annotations (a ∷ rest) = in_clause a.body ++ in_annotations rest

abbrev pub in_behaviors : List NamedBehavior → List Entry
in_behaviors [] = []
in_behaviors (b ∷ bs) = in_annotations b.clauses ++ in_behaviors bs

abbrev pub in_contract : Option FunctionContract → List Entry
in_contract None = []
in_contract (Some c) = in_annotations c.clauses ++ in_behaviors c.behaviors

abbrev mutual
  pub in_statement : Statement → List Entry
  in_statement (Empty at) = []
  in_statement (Eval at e) = []
  in_statement (Block at items) = in_items items
  in_statement (If at e a b) = in_statement a ++ in_else b
  in_statement (While at annots e a) = in_annotations annots ++ in_statement a
  in_statement (Do at a e) = in_statement a
  in_statement (For at annots first e behind a) = in_annotations annots ++ (in_first first ++ in_statement a)
  in_statement (Break at) = []
  in_statement (Continue at) = []
  in_statement (Return at e) = []
  in_statement (Labelled at l a) = in_statement a
  in_statement (Switch at e cs) = in_cases cs

  pub in_cases : Cases → List Entry
  in_cases NoCase = []
  in_cases (AnotherCase at e items rest) = in_items items ++ in_cases rest

  pub in_else : ElsePart → List Entry
  in_else NoElse = []
  in_else (Else a) = in_statement a

  pub in_first : ForFirst → List Entry
  in_first NoFirst = []
  in_first (First i) = in_item i

  pub in_item : BlockItem → List Entry
  in_item (Declare ds) = []
  in_item (Specify at t) = []
  in_item (Run a) = in_statement a
  in_item (Asserts annots) = in_annotations annots

  pub in_items : BlockItems → List Entry
  in_items NoItem = []
  in_items (Then i rest) = in_item i ++ in_items rest

abbrev pub in_body : Option Statement → List Entry
in_body None = []
in_body (Some a) = in_statement a

abbrev pub planned : Function → List Entry
planned f = in_contract f.contract ++ in_body f.body

abbrev pub IsIn : Entry → List Entry → Type 0
IsIn x [] = ⊥
IsIn x (y ∷ ys) = (y ≡ x) ⊎ IsIn x ys

abbrev pub offset_of : Entry → ℕ
offset_of x = (place_of_term x.1).offset

-- how many of them stand at an offset of the text
abbrev pub entries_at : ℕ → List Entry → ℕ
entries_at o [] = 0
entries_at o (x ∷ xs) = cond (nat_eq (offset_of x) o) 1 0 + entries_at o xs

-- no two of them stand at one place
abbrev pub StandApart : List Entry → Type 0
StandApart xs = (o : ℕ) → entries_at o xs ≤ 1
