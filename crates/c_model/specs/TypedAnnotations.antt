-- What is known of the annotations of a typed file (ACSL 2.3, 2.4): each is typed with what is known where it stands.
use Rattle.std.specs.Prelude.{◌≡◌, ℕ, true, List, [], ◌∷◌, Option, Some, slice_get}
use Rattle.std.specs.List.{AllByRecursion}
use Rattle.c_syntax.specs.declared.place.Place.{Place}
use Rattle.c_syntax.specs.declared.annotation.Kind.{Kind}
use Rattle.c_syntax.specs.declared.annotation.Kind.TheVariants.{Variant}
use Rattle.c_syntax.specs.Statements.{Statement, Empty, Eval, Block, If, While, Do, For, Break, Continue, Return, Labelled, ElsePart, NoElse, Else, Switch}
use Rattle.c_syntax.specs.Statements.{Cases, NoCase, AnotherCase}
use Rattle.c_syntax.specs.Statements.{BlockItem, Declare, Specify, Run, Asserts, BlockItems, NoItem, Then}
use Rattle.c_syntax.specs.Statements.{Declaration}
use Rattle.c_syntax.specs.Logic.{ClauseBody, Holds, Value, Annotation}
use Rattle.c_syntax.specs.Programs.{NamedBehavior, FunctionContract, Function, TranslationUnit}
use Rattle.c_model.specs.Checked.{Good}
use Rattle.c_model.specs.ExpressionTyping.{Object, AnObject, Sight, entity_named, inner, is_among}
use Rattle.c_model.specs.AnnotationSights.{AnnotationSight}
use Rattle.c_model.specs.AnnotationTyping.{inside_block, inside_for, with_label, behind_noted, behind_case, in_body, numbers_of_parameters}
use Rattle.c_model.specs.ContractTyping.{sight_of_clause, names_of_behaviors, named_behaviors, typed_contract}
use Rattle.c_model.specs.UnitTyping.{FileItem, AFunction, with_function, with_parameters, behind_item}
use Rattle.c_model.specs.TypedPredicates.{ClauseTyped, AnnotationsTyped, AreRead}

-- ---- statements whose asserts are typed

abbrev mutual
  pub StatementNoted : AnnotationSight → Statement → Type 0
  StatementNoted s (Empty at) = Unit {0}
  StatementNoted s (Eval at e) = Unit {0}
  StatementNoted s (Block at items) = ItemsNoted (inside_block s) items
  StatementNoted s (If at e a b) = StatementNoted s a × ElseNoted s b
  StatementNoted s (While at annots e a) = AnnotationsTyped s annots × StatementNoted s a
  StatementNoted s (Do at a e) = StatementNoted s a
  StatementNoted s (For at annots first e step a) = AnnotationsTyped (inside_for s first) annots × StatementNoted (inside_for s first) a
  StatementNoted s (Break at) = Unit {0}
  StatementNoted s (Continue at) = Unit {0}
  StatementNoted s (Return at e) = Unit {0}
  StatementNoted s (Labelled at l a) = StatementNoted (with_label s l) a
  StatementNoted s (Switch at e cases) = CasesNoted s cases

  pub CasesNoted : AnnotationSight → Cases → Type 0
  CasesNoted s NoCase = Unit {0}
  CasesNoted s (AnotherCase at v items rest) = ItemsNoted s items × CasesNoted (behind_case s items) rest

  pub ElseNoted : AnnotationSight → ElsePart → Type 0
  ElseNoted s NoElse = Unit {0}
  ElseNoted s (Else a) = StatementNoted s a

  pub ItemNoted : AnnotationSight → BlockItem → Type 0
  ItemNoted s (Declare ds) = Unit {0}
  ItemNoted s (Specify at t) = Unit {0}
  ItemNoted s (Run a) = StatementNoted s a
  ItemNoted s (Asserts annots) = AnnotationsTyped s annots

  pub ItemsNoted : AnnotationSight → BlockItems → Type 0
  ItemsNoted s NoItem = Unit {0}
  ItemsNoted s (Then i rest) = ItemNoted s i × ItemsNoted (behind_noted s i) rest

abbrev pub BodyNoted : AnnotationSight → Option Statement → Type 0
BodyNoted s (Some (Block at items)) = ItemsNoted s items
BodyNoted s _ = Unit {0}

-- ---- contracts

-- what a clause of a kind is: a variant is a term, and all others are predicates
abbrev pub IsSaidBy : Kind → ClauseBody → Type 0
IsSaidBy Variant (Value t) = Unit {0}
IsSaidBy Variant _ = ⊥
IsSaidBy k (Holds p) = Unit {0}
IsSaidBy k _ = ⊥

-- clauses that are typed, each with what its kind may name
abbrev pub ClausesTyped : (Kind → AnnotationSight) → List Annotation → Type 0
ClausesTyped seen [] = Unit {0}
ClausesTyped seen (a ∷ rest) = ClauseTyped (seen a.kind) a.body × IsSaidBy a.kind a.body × ClausesTyped seen rest

abbrev pub BehaviorsTyped : (Kind → AnnotationSight) → List NamedBehavior → Type 0
BehaviorsTyped seen [] = Unit {0}
BehaviorsTyped seen (b ∷ bs) = ClausesTyped seen b.clauses × BehaviorsTyped seen bs

-- clauses that name behaviors of these names
abbrev pub AreAmong : List ℕ → List (Place × ℕ) → Type 0
AreAmong names [] = Unit {0}
AreAmong names (x ∷ xs) = (is_among x.1 names ≡ true) × AreAmong names xs

abbrev pub CoversTyped : List ℕ → List Annotation → Type 0
CoversTyped names [] = Unit {0}
CoversTyped names (a ∷ rest) = AreAmong names (named_behaviors a.body) × CoversTyped names rest

pub record ContractTyped (seen : Kind → AnnotationSight) (c : FunctionContract) : Type 0 where
  pub clauses : ClausesTyped seen c.clauses
  pub behaviors : BehaviorsTyped seen c.behaviors
  pub covers : CoversTyped (names_of_behaviors c.behaviors) c.covers

-- behaviors with clauses as they are read
abbrev pub BehaviorsRead : List NamedBehavior → Type 0
BehaviorsRead [] = Unit {0}
BehaviorsRead (b ∷ bs) = AreRead b.clauses × BehaviorsRead bs

-- a contract that is typed says what its clauses may
abbrev pub TypedContractsAreKnown : Type 0
TypedContractsAreKnown =
    (seen : Kind → AnnotationSight) (c d : FunctionContract) → AreRead c.clauses → BehaviorsRead c.behaviors → typed_contract seen c ≡ Good d
    → ContractTyped seen d

-- an object that a contract names is a parameter of its function, or a global of the file
pub data IsOwn (p : TranslationUnit) (f : Function) (b : Object) : Type 0 where
  OfFunction : (n : ℕ) (d : Declaration) → slice_get f.params n ≡ Some d → b.decl ≡ d.place.offset → b.ctype ≡ d.ctype → IsOwn p f b
  OfFile : (n : ℕ) (d : Declaration) → slice_get p.globals n ≡ Some d → b.decl ≡ d.place.offset → b.ctype ≡ d.ctype → IsOwn p f b

-- a contract is typed with what is in sight at the declaration before which it is written, where parameters have the numbers of its function's
pub record ContractStands (p : TranslationUnit) (f : Function) (c : FunctionContract) : Type 0 where
  pub seen : Sight
  pub owned : (x : ℕ) (b : Object) → entity_named x seen.entities ≡ Some (AnObject b) → IsOwn p f b
  pub typed : ContractTyped (sight_of_clause seen (numbers_of_parameters f.params) f.result) c

abbrev pub ContractNoted : TranslationUnit → Function → Type 0
ContractNoted p f = (c : FunctionContract) → f.contract ≡ Some c → ContractStands p f c

abbrev pub ContractsNoted : TranslationUnit → Type 0
ContractsNoted p = AllByRecursion (ContractNoted p) p.funcs

-- ---- functions

-- a function, where this is in sight at file scope, itself included
abbrev pub FunctionNoted : Sight → Function → Type 0
FunctionNoted s f = BodyNoted (in_body (with_parameters (inner s) f.params)) f.body

-- the functions among what a file declares, with their asserts typed, each where it stands
abbrev pub FunctionsNoted : TranslationUnit → Sight → List FileItem → List Function → Type 0
FunctionsNoted p s [] gs = gs ≡ []
FunctionsNoted p s (AFunction f ∷ is) gs =
    (g : Function) × (hs : List Function) × (gs ≡ g ∷ hs) × FunctionNoted (with_function p s f) g × FunctionsNoted p (behind_item p s (AFunction f)) is hs
FunctionsNoted p s (i ∷ is) gs = FunctionsNoted p (behind_item p s i) is gs
