-- The terms that functions keep at labels stand apart in a file whose annotations are typed, since what was read of annotations stands apart.
use Rattle.std.proofs.Common.{◌≡◌, ◌∙◌, ℕ, ◌+◌, ◌≤◌, inl, inr, Bool, true, false, not, cond, nat_eq, List, [], ◌∷◌, ◌++◌, map, Option, Some, None, refl, sym, ap, subst, arith}
use Rattle.std.proofs.lemmas.Bool.Decides.{nat_tests}
use Rattle.std.specs.List.{AllByRecursion}
use Rattle.c_syntax.specs.declared.annotation.Kind.{Kind}
use Rattle.c_syntax.specs.Logic.{Annotation}
use Rattle.c_syntax.specs.Statements.{Statement, Empty, Eval, Block, If, While, Do, For, Break, Continue, Return, Labelled, Switch, Cases, NoCase, AnotherCase}
use Rattle.c_syntax.specs.Statements.{ElsePart, NoElse, Else, ForFirst, NoFirst, First, BlockItem, Declare, Specify, Run, Asserts, BlockItems, NoItem, Then}
use Rattle.c_syntax.specs.Programs.{NamedBehavior, FunctionContract, Function, TranslationUnit}
use Rattle.c_model.specs.Library.{is_there}
use Rattle.c_model.specs.Meaning.{is_definition}
use Rattle.c_model.specs.Checked.{Good, one_part}
use Rattle.c_model.specs.ExpressionTyping.{no_name, Sight, inner, is_among, or_else}
use Rattle.c_model.specs.AnnotationSights.{AnnotationSight}
use Rattle.c_model.specs.PredicateTyping.{typed_clause, typed_annotations}
use Rattle.c_model.specs.ContractTyping.{typed_clauses, typed_behaviors, names_of_behaviors, typed_covers, typed_contract}
use Rattle.c_model.specs.AnnotationTyping.{inside_block, inside_for, with_label, behind_noted, behind_case, in_body, noted_statement, noted_cases, noted_else, noted_item, noted_items, noted_body}
use Rattle.c_model.specs.AnnotationTyping.{known_at, contract_sight, noted_contract, noted_in, noted_function, noted_functions, contract_named, contract_moved, with_contract, with_contracts, noted_unit}
use Rattle.c_model.specs.UnitTyping.{FileItem, StructHead, Member, AnEnum, ATypedef, AGlobal, AFunction, definition_of, items_of_file, sight_with, with_function, with_parameters, behind_item}
use Rattle.c_model.specs.Formed.{AreReadLoopClauses, IsShortReading, AreReadAsserts}
use Rattle.c_model.specs.FormedContracts.{AreClausesOf, BehaviorsFormed, ContractFormed, MaybeFormed, ContractsFormed, IsOwnKind, IsBehaviorKind}
use Rattle.c_model.specs.EffectPlaces.{StatementPlaced, CasesPlaced, ElsePlaced, FirstPlaced, ItemPlaced, ItemsPlaced}
use Rattle.c_model.specs.ReadTree.{BodyRead, FunctionRead, FunctionsRead, functions_among}
use Rattle.c_model.specs.KeptTerms as kept
use Rattle.c_model.specs.KeptTerms.{Entry, IsIn, entries_at, offset_of, planned, StandApart, in_clause, in_annotations, in_behaviors, in_contract, in_statement, in_cases, in_else, in_first, in_item, in_items}
use Rattle.c_model.specs.PlacedForms.{clause_at, annotations_at, behaviors_at, contract_at, statement_at, cases_at, else_at, first_at, item_at, items_at, body_at, functions_at, AnnotationsApart}
use Rattle.c_model.proofs.TypedParts.{Gives, gives_of, gives_one, gives_where}
use Rattle.c_model.proofs.SortedTrees.{anything}
use Rattle.c_model.proofs.NotedTrees.{is_read, are_read, loops_read}
use Rattle.c_model.proofs.PlacedSorts.{Count, Most, most_both, joined}
use Rattle.c_model.proofs.PlacedTerms.{ClausePlaced, clause_placed, AnnotationsPlaced, annotations_placed}

-- ---- statements

abbrev StatementKept : Statement → Statement → Type 0
StatementKept a b = Most (λ o. statement_at o a) (in_statement b)

abbrev CasesKept : Cases → Cases → Type 0
CasesKept a b = Most (λ o. cases_at o a) (in_cases b)

abbrev ElseKept : ElsePart → ElsePart → Type 0
ElseKept a b = Most (λ o. else_at o a) (in_else b)

abbrev ItemKept : BlockItem → BlockItem → Type 0
ItemKept a b = Most (λ o. item_at o a) (in_item b)

abbrev ItemsKept : BlockItems → BlockItems → Type 0
ItemsKept a b = Most (λ o. items_at o a) (in_items b)

nothing : (n : Count) → Most n []
nothing n o = omega arith

two : (n m : Count) (xs ys : List Entry) → Most n xs → Most m ys → Most (λ o. n o + m o) (xs ++ ys)
two n m xs ys v w = most_both n m (λ o. n o + m o) xs ys v w (λ o. omega arith)

-- what stands first in a `for` declares
first_kept : (first : ForFirst) → FirstPlaced first → Most (λ o. first_at o first) (in_first first)
first_kept NoFirst h = nothing (λ o. first_at o NoFirst)
first_kept (First (Declare ds)) h = nothing (λ o. first_at o (First (Declare ds)))
first_kept (First (Specify at t)) h = nothing (λ o. first_at o (First (Specify at t)))
first_kept (First (Run (Eval at e))) h = nothing (λ o. first_at o (First (Run (Eval at e))))
first_kept (First (Run _)) h = absurd h
first_kept (First (Asserts annots)) h = absurd h

mutual
  statement_kept : (s : AnnotationSight) (a : Statement) → StatementPlaced AreReadAsserts AreReadLoopClauses a → Gives (StatementKept a) (noted_statement s a)
  statement_kept s (Empty at) h = nothing (λ o. 0)
  statement_kept s (Eval at e) h = nothing (λ o. 0)
  statement_kept s (Block at items) h = gives_one (ItemsKept items) (StatementKept (Block at items)) (noted_items (inside_block s) items) (λ x. Good (Block at x)) (items_kept (inside_block s) items h) (λ x v. v)
  statement_kept s (If at e a b) h =
      gives_one (StatementKept a) (StatementKept (If at e a b)) (noted_statement s a) (λ x. one_part (noted_else s b) (λ y. Good (If at e x y))) (statement_kept s a h.0) (λ x v.
      gives_one (ElseKept b) (StatementKept (If at e a b)) (noted_else s b) (λ y. Good (If at e x y)) (else_kept s b h.1)
      (λ y w. two (λ o. statement_at o a) (λ o. else_at o b) (in_statement x) (in_else y) v w))
  statement_kept s (While at annots e a) h =
      gives_one (AnnotationsPlaced annots) (StatementKept (While at annots e a)) (typed_annotations s annots) (λ xs. one_part (noted_statement s a) (λ x. Good (While at xs e x))) (annotations_placed s annots (loops_read annots h.0)) (λ xs u.
      gives_one (StatementKept a) (StatementKept (While at annots e a)) (noted_statement s a) (λ x. Good (While at xs e x)) (statement_kept s a h.1)
      (λ x v. two (λ o. annotations_at o annots) (λ o. statement_at o a) (in_annotations xs) (in_statement x) u v))
  statement_kept s (Do at a e) h = gives_one (StatementKept a) (StatementKept (Do at a e)) (noted_statement s a) (λ x. Good (Do at x e)) (statement_kept s a h) (λ x v. v)
  statement_kept s (For at annots first e step a) h =
      gives_one (AnnotationsPlaced annots) (StatementKept (For at annots first e step a)) (typed_annotations (inside_for s first) annots)
      (λ xs. one_part (noted_statement (inside_for s first) a) (λ x. Good (For at xs first e step x))) (annotations_placed (inside_for s first) annots (loops_read annots h.0)) (λ xs u.
      gives_one (StatementKept a) (StatementKept (For at annots first e step a)) (noted_statement (inside_for s first) a) (λ x. Good (For at xs first e step x)) (statement_kept (inside_for s first) a h.2)
      (λ x v. two (λ o. annotations_at o annots) (λ o. first_at o first + statement_at o a) (in_annotations xs) (in_first first ++ in_statement x) u
      (two (λ o. first_at o first) (λ o. statement_at o a) (in_first first) (in_statement x) (first_kept first h.1) v)))
  statement_kept s (Break at) h = nothing (λ o. 0)
  statement_kept s (Continue at) h = nothing (λ o. 0)
  statement_kept s (Return at e) h = nothing (λ o. 0)
  statement_kept s (Labelled at l a) h =
      gives_one (StatementKept a) (StatementKept (Labelled at l a)) (noted_statement (with_label s l) a) (λ x. Good (Labelled at l x)) (statement_kept (with_label s l) a h) (λ x v. v)
  statement_kept s (Switch at e cases) h = gives_one (CasesKept cases) (StatementKept (Switch at e cases)) (noted_cases s cases) (λ x. Good (Switch at e x)) (cases_kept s cases h) (λ x v. v)

  cases_kept : (s : AnnotationSight) (cases : Cases) → CasesPlaced AreReadAsserts AreReadLoopClauses cases → Gives (CasesKept cases) (noted_cases s cases)
  cases_kept s NoCase h = nothing (λ o. 0)
  cases_kept s (AnotherCase at v items rest) h =
      gives_one (ItemsKept items) (CasesKept (AnotherCase at v items rest)) (noted_items s items) (λ x. one_part (noted_cases (behind_case s x) rest) (λ y. Good (AnotherCase at v x y))) (items_kept s items h.1) (λ x u.
      gives_one (CasesKept rest) (CasesKept (AnotherCase at v items rest)) (noted_cases (behind_case s x) rest) (λ y. Good (AnotherCase at v x y)) (cases_kept (behind_case s x) rest h.2)
      (λ y w. two (λ o. items_at o items) (λ o. cases_at o rest) (in_items x) (in_cases y) u w))

  else_kept : (s : AnnotationSight) (b : ElsePart) → ElsePlaced AreReadAsserts AreReadLoopClauses b → Gives (ElseKept b) (noted_else s b)
  else_kept s NoElse h = nothing (λ o. 0)
  else_kept s (Else a) h = gives_one (StatementKept a) (ElseKept (Else a)) (noted_statement s a) (λ x. Good (Else x)) (statement_kept s a h) (λ x v. v)

  item_kept : (s : AnnotationSight) (i : BlockItem) → ItemPlaced AreReadAsserts AreReadLoopClauses i → Gives (ItemKept i) (noted_item s i)
  item_kept s (Declare ds) h = nothing (λ o. 0)
  item_kept s (Specify at t) h = nothing (λ o. 0)
  item_kept s (Run a) h = gives_one (StatementKept a) (ItemKept (Run a)) (noted_statement s a) (λ x. Good (Run x)) (statement_kept s a h) (λ x v. v)
  item_kept s (Asserts annots) h = gives_one (AnnotationsPlaced annots) (ItemKept (Asserts annots)) (typed_annotations s annots) (λ x. Good (Asserts x)) (annotations_placed s annots (are_read annots h)) (λ x v. v)

  items_kept : (s : AnnotationSight) (is : BlockItems) → ItemsPlaced AreReadAsserts AreReadLoopClauses is → Gives (ItemsKept is) (noted_items s is)
  items_kept s NoItem h = nothing (λ o. 0)
  items_kept s (Then i rest) h =
      gives_one (ItemKept i) (ItemsKept (Then i rest)) (noted_item s i) (λ x. one_part (noted_items (behind_noted s x) rest) (λ xs. Good (Then x xs))) (item_kept s i h.0) (λ x v.
      gives_one (ItemsKept rest) (ItemsKept (Then i rest)) (noted_items (behind_noted s x) rest) (λ xs. Good (Then x xs)) (items_kept (behind_noted s x) rest h.1)
      (λ xs w. two (λ o. item_at o i) (λ o. items_at o rest) (in_item x) (in_items xs) v w))

abbrev BodyKept : Option Statement → Option Statement → Type 0
BodyKept a b = Most (λ o. body_at o a) (kept.in_body b)

body_kept : (s : AnnotationSight) (b : Option Statement) → BodyRead AreReadAsserts AreReadLoopClauses b → Gives (BodyKept b) (noted_body s b)
body_kept s None h = nothing (λ o. 0)
body_kept s (Some (Block at items)) h = gives_one (ItemsKept items) (BodyKept (Some (Block at items))) (noted_items s items) (λ x. Good (Some (Block at x))) (items_kept s items h.0) (λ x v. v)
body_kept s (Some _) h = absurd h

-- ---- contracts

module _ (seen : Kind → AnnotationSight) where
  clauses_kept : (IsKind : Kind → Type 0) (xs : List Annotation) → AreClausesOf IsKind IsShortReading xs → Gives (AnnotationsPlaced xs) (typed_clauses seen xs)
  clauses_kept IsKind [] h = nothing (λ o. 0)
  clauses_kept IsKind (a ∷ rest) h =
      gives_one (ClausePlaced a.body) (AnnotationsPlaced (a ∷ rest)) (typed_clause (seen a.kind) a.kind a.body) (λ b. one_part (typed_clauses seen rest) (λ rest. Good (record a { body = b } ∷ rest)))
      (clause_placed (seen a.kind) a.kind a.body (is_read a.body h.0.body)) (λ b v.
      gives_one (AnnotationsPlaced rest) (AnnotationsPlaced (a ∷ rest)) (typed_clauses seen rest) (λ rest. Good (record a { body = b } ∷ rest)) (clauses_kept IsKind rest h.1)
      (λ more w. two (λ o. clause_at o a.body) (λ o. annotations_at o rest) (in_clause b) (in_annotations more) v w))

  abbrev BehaviorsKept : List NamedBehavior → List NamedBehavior → Type 0
  BehaviorsKept bs cs = Most (λ o. behaviors_at o bs) (in_behaviors cs)

  behaviors_kept : (names : List ℕ) (bs : List NamedBehavior) → BehaviorsFormed IsShortReading bs → Gives (BehaviorsKept bs) (typed_behaviors seen names bs)
  behaviors_kept names [] h = nothing (λ o. 0)
  behaviors_kept names (b ∷ bs) h =
      gives_where (BehaviorsKept (b ∷ bs)) (not (is_among b.name names)) (no_name b.place) _ (λ e.
      gives_one (AnnotationsPlaced b.clauses) (BehaviorsKept (b ∷ bs)) (typed_clauses seen b.clauses) (λ clauses. one_part (typed_behaviors seen (b.name ∷ names) bs) (λ rest. Good (record b { clauses = clauses } ∷ rest)))
      (clauses_kept IsBehaviorKind b.clauses h.0) (λ clauses v.
      gives_one (BehaviorsKept bs) (BehaviorsKept (b ∷ bs)) (typed_behaviors seen (b.name ∷ names) bs) (λ rest. Good (record b { clauses = clauses } ∷ rest)) (behaviors_kept (b.name ∷ names) bs h.1)
      (λ rest w. two (λ o. annotations_at o b.clauses) (λ o. behaviors_at o bs) (in_annotations clauses) (in_behaviors rest) v w)))

  abbrev ContractKept : FunctionContract → FunctionContract → Type 0
  ContractKept c d = Most (λ o. contract_at o (Some c)) (in_contract (Some d))

  contract_kept : (c : FunctionContract) → ContractFormed IsShortReading c → Gives (ContractKept c) (typed_contract seen c)
  contract_kept c h =
      gives_one (AnnotationsPlaced c.clauses) (ContractKept c) (typed_clauses seen c.clauses) _ (clauses_kept IsOwnKind c.clauses h.clauses) (λ clauses v.
      gives_one (BehaviorsKept c.behaviors) (ContractKept c) (typed_behaviors seen [] c.behaviors) _ (behaviors_kept [] c.behaviors h.behaviors) (λ behaviors w.
      gives_one (λ u. Unit {0}) (ContractKept c) (typed_covers (names_of_behaviors c.behaviors) c.covers) _ (anything (typed_covers (names_of_behaviors c.behaviors) c.covers)) (λ u x.
      two (λ o. annotations_at o c.clauses) (λ o. behaviors_at o c.behaviors) (in_annotations clauses) (in_behaviors behaviors) v w)))

abbrev OwnKept : Option FunctionContract → Option FunctionContract → Type 0
OwnKept c d = Most (λ o. contract_at o c) (in_contract d)

own_kept : (all : List Function) (s : Sight) (f : Function) (c : Option FunctionContract) → MaybeFormed IsShortReading c → Gives (OwnKept c) (noted_contract all s f c)
own_kept all s f None h = nothing (λ o. 0)
own_kept all s f (Some c) h =
    let seen = contract_sight all (known_at c.place s) f in
    gives_one (ContractKept seen c) (OwnKept (Some c)) (typed_contract seen c) (λ c. Good (Some c)) (contract_kept seen c h) (λ d w. w)

-- ---- functions

record FunctionKept (f g : Function) : Type 0 where
  contract : OwnKept f.contract g.contract
  body : BodyKept f.body g.body

function_kept : (all : List Function) (s : Sight) (f : Function) → MaybeFormed IsShortReading f.contract → FunctionRead AreReadAsserts AreReadLoopClauses f → Gives (FunctionKept f) (noted_function all s f)
function_kept all s f h r =
    gives_one (OwnKept f.contract) (FunctionKept f) (noted_contract all s f f.contract) (λ c. one_part (noted_in (known_at f.place s) f) (λ b. Good (record f { contract = c; body = b }))) (own_kept all s f f.contract h) (λ c v.
    gives_one (BodyKept f.body) (FunctionKept f) (noted_in (known_at f.place s) f) (λ b. Good (record f { contract = c; body = b }))
    (body_kept (in_body (with_parameters (inner (known_at f.place s)) f.params)) f.body r.body) (λ b w. record { contract = v; body = w }))

-- how many terms of contracts and of bodies stand at an offset
abbrev pub of_contracts : ℕ → List Function → ℕ
of_contracts o [] = 0
of_contracts o (f ∷ fs) = entries_at o (in_contract f.contract) + of_contracts o fs

abbrev pub of_bodies : ℕ → List Function → ℕ
of_bodies o [] = 0
of_bodies o (f ∷ fs) = entries_at o (kept.in_body f.body) + of_bodies o fs

abbrev pub FewKept : List Function → List Function → Type 0
FewKept fs gs = (o : ℕ) → of_contracts o gs + of_bodies o gs ≤ functions_at o fs

pub functions_kept : (p : TranslationUnit) (s : Sight) (is : List FileItem) → ContractsFormed IsShortReading (functions_among is) → FunctionsRead AreReadAsserts AreReadLoopClauses (functions_among is)
    → Gives (FewKept (functions_among is)) (noted_functions p s is)
functions_kept p s [] h r = λ o. omega arith
functions_kept p s (AFunction f ∷ is) h r =
    gives_one (FunctionKept f) (FewKept (functions_among (AFunction f ∷ is))) (noted_function p.funcs (with_function p s f) f) (λ g. one_part (noted_functions p (behind_item p s (AFunction f)) is) (λ fs. Good (g ∷ fs)))
    (function_kept p.funcs (with_function p s f) f h.0 r.0) (λ g v.
    gives_one (FewKept (functions_among is)) (FewKept (functions_among (AFunction f ∷ is))) (noted_functions p (behind_item p s (AFunction f)) is) (λ fs. Good (g ∷ fs)) (functions_kept p (behind_item p s (AFunction f)) is h.1 r.1)
    (λ fs w o. (let x = v.contract o in let y = v.body o in let z = w o in omega (arith, x, y, z))))
functions_kept p s (StructHead k x ∷ is) h r = functions_kept p s is h r
functions_kept p s (Member k m ends ∷ is) h r = functions_kept p s is h r
functions_kept p s (AnEnum e ∷ is) h r = functions_kept p (behind_item p s (AnEnum e)) is h r
functions_kept p s (ATypedef d ∷ is) h r = functions_kept p (behind_item p s (ATypedef d)) is h r
functions_kept p s (AGlobal d ∷ is) h r = functions_kept p (behind_item p s (AGlobal d)) is h r

-- ---- contracts that move

either_most : (n : Count) (a b : Option FunctionContract) → Most n (in_contract a) → Most n (in_contract b) → Most n (in_contract (or_else a b))
either_most n None b v w = w
either_most n (Some c) b v w = v

where_most : (n : Count) (t : Bool) (a b : Option FunctionContract) → Most n (in_contract a) → Most n (in_contract b) → Most n (in_contract (cond t a b))
where_most n true a b v w = v
where_most n false a b v w = w

-- a contract that is found is one of them
named_most : (x : ℕ) (fs : List Function) → Most (λ o. of_contracts o fs) (in_contract (contract_named x fs))
named_most x [] = nothing (λ o. 0)
named_most x (f ∷ fs) =
    let n : Count = λ o. of_contracts o (f ∷ fs) in
    either_most n (cond (nat_eq f.name x) f.contract None) (contract_named x fs)
    (where_most n (nat_eq f.name x) f.contract None (λ o. omega arith) (nothing n)) (λ o. (let e = named_most x fs o in omega (arith, e)))

-- a function with the contract of its name keeps no more terms than there are
moved_apart : (all : List Function) (f : Function) → ((o : ℕ) → of_contracts o all + of_bodies o all ≤ 1) → Most (λ o. of_contracts o all) (in_contract f.contract) → Most (λ o. of_bodies o all) (kept.in_body f.body)
    → StandApart (planned (with_contract all f))
moved_apart all f few own body o =
    let n : Count = λ o. of_contracts o all in
    let moved = contract_moved all f in
    let found : Most n (in_contract moved) = where_most n (is_there (definition_of f.name all)) (cond (is_definition f) (contract_named f.name all) None) f.contract
    (where_most n (is_definition f) (contract_named f.name all) None (named_most f.name all) (nothing n)) own in
    let e = joined o (in_contract moved) (kept.in_body f.body) in
    let x = found o in
    let y = body o in
    let z = few o in
    omega (arith, e, x, y, z)

all_moved : (all : List Function) → ((o : ℕ) → of_contracts o all + of_bodies o all ≤ 1) → (fs : List Function) → ((o : ℕ) → of_contracts o fs ≤ of_contracts o all) → ((o : ℕ) → of_bodies o fs ≤ of_bodies o all)
    → AllByRecursion (λ (f : Function). StandApart (planned f)) (map (with_contract all) fs)
all_moved all few [] c b = tt
all_moved all few (f ∷ fs) c b = (
  moved_apart all f few (λ o. (let x = c o in omega (arith, x))) (λ o. (let x = b o in omega (arith, x))),
  all_moved all few fs (λ o. (let x = c o in omega (arith, x))) (λ o. (let x = b o in omega (arith, x))),
)

pub kept_apart : (ps fs : List Function) → AnnotationsApart ps → FewKept ps fs → AllByRecursion (λ (f : Function). StandApart (planned f)) (with_contracts fs)
kept_apart ps fs apart few = all_moved fs (λ o. (let x = apart o in let y = few o in omega (arith, x, y))) fs (λ o. omega arith) (λ o. omega arith)

-- ---- files

pub unit_apart : (q r : TranslationUnit) → noted_unit q ≡ Good r → functions_among (items_of_file q) ≡ q.funcs → ContractsFormed IsShortReading q.funcs → FunctionsRead AreReadAsserts AreReadLoopClauses q.funcs → AnnotationsApart q.funcs
    → AllByRecursion (λ (f : Function). StandApart (planned f)) r.funcs
unit_apart q r is among formed read apart = gives_of (λ (r : TranslationUnit). AllByRecursion (λ (f : Function). StandApart (planned f)) r.funcs) (noted_unit q) r
    (gives_one (FewKept (functions_among items)) (λ (r : TranslationUnit). AllByRecursion (λ (f : Function). StandApart (planned f)) r.funcs) (noted_functions q sight items) (λ fs. Good (record q { funcs = with_contracts fs }))
    (functions_kept q sight items (subst (ContractsFormed IsShortReading) (sym among) formed) (subst (FunctionsRead AreReadAsserts AreReadLoopClauses) (sym among) read))
    (λ fs w. kept_apart (functions_among items) fs (subst AnnotationsApart (sym among) apart) w)) is
  where
    items : List FileItem
    items = items_of_file q

    sight : Sight
    sight = sight_with q q.structs

-- ---- entries that stand apart are one where they stand at one place

stands_there : (x : Entry) (xs : List Entry) → IsIn x xs → 1 ≤ entries_at (offset_of x) xs
stands_there x [] i = absurd i
stands_there x (y ∷ ys) (inl e) = by (nat_eq (offset_of y) (offset_of x)) refl
  where
    by : (b : Bool) → nat_eq (offset_of y) (offset_of x) ≡ b → 1 ≤ cond b 1 0 + entries_at (offset_of x) ys
    by true g = omega arith
    by false g = let f : offset_of y ≡ offset_of x = ap offset_of e in absurd (grind (arith, nat_tests))
stands_there x (y ∷ ys) (inr i) = let e = stands_there x ys i in omega (arith, e)

-- the first one stands where none of the others does
first_alone : (x y : Entry) (ys : List Entry) → StandApart (x ∷ ys) → IsIn y ys → offset_of y ≡ offset_of x → ⊥
first_alone x y ys apart i e =
    let there = stands_there y ys i in
    let once = apart (offset_of y) in
    by (nat_eq (offset_of x) (offset_of y)) refl once there
  where
    by : (b : Bool) → nat_eq (offset_of x) (offset_of y) ≡ b → cond b 1 0 + entries_at (offset_of y) ys ≤ 1 → 1 ≤ entries_at (offset_of y) ys → ⊥
    by true g once there = omega (arith, once, there)
    by false g once there = grind (arith, nat_tests)

pub entries_are_one : (xs : List Entry) → StandApart xs → (x y : Entry) → IsIn x xs → IsIn y xs → offset_of y ≡ offset_of x → y ≡ x
entries_are_one [] apart x y i j e = absurd i
entries_are_one (z ∷ zs) apart x y (inl a) (inl b) e = sym b ∙ a
entries_are_one (z ∷ zs) apart x y (inl a) (inr j) e = absurd (first_alone z y zs apart j (e ∙ ap offset_of (sym a)))
entries_are_one (z ∷ zs) apart x y (inr i) (inl b) e = absurd (first_alone z x zs apart i (sym e ∙ ap offset_of (sym b)))
entries_are_one (z ∷ zs) apart x y (inr i) (inr j) e = entries_are_one zs (λ o. (let once = apart o in omega (arith, once))) x y i j e
