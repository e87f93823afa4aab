-- Contracts that are typed are formed as they are read, also where they move from a prototype to a definition.
use Rattle.std.proofs.Common.{ℕ, Bool, true, false, not, cond, nat_eq, List, [], ◌∷◌, map, Option, Some, None, sym, subst}
use Rattle.c_syntax.specs.declared.annotation.Kind.{Kind}
use Rattle.c_syntax.specs.declared.annotation.Kind.TheVariants as kind
use Rattle.c_syntax.specs.Ctypes.{PlainType}
use Rattle.c_syntax.specs.Logic.{Annotation}
use Rattle.c_syntax.specs.Programs.{NamedBehavior, FunctionContract, Function, TranslationUnit}
use Rattle.c_model.specs.Library.{is_there}
use Rattle.c_model.specs.Meaning.{is_definition}
use Rattle.c_model.specs.Checked.{Good, one_part}
use Rattle.c_model.specs.ExpressionTyping.{no_name, Sight, inner, is_among, or_else}
use Rattle.c_model.specs.AnnotationSights.{AnnotationSight}
use Rattle.c_model.specs.PredicateTyping.{typed_clause}
use Rattle.c_model.specs.ContractTyping.{sight_of_clause, typed_clauses, typed_behaviors, names_of_behaviors, typed_covers, typed_contract}
use Rattle.c_model.specs.AnnotationTyping.{known_at, contract_parameters, numbers_of_parameters, contract_sight, noted_contract, noted_in, noted_function, noted_functions, contract_named, contract_moved, with_contract}
use Rattle.c_model.specs.UnitTyping.{FileItem, StructHead, Member, AnEnum, ATypedef, AGlobal, AFunction, definition_of, with_function, with_parameters, behind_item}
use Rattle.c_model.specs.Formed.{IsShortReading, IsShortClause}
use Rattle.c_model.specs.FormedContracts.{AreClausesOf, BehaviorsFormed, ContractFormed, MaybeFormed, ContractsFormed, IsBehaviorKind, IsOwnKind}
use Rattle.c_model.specs.TypedFileItems.{FunctionsTypedAs, FileTypedAs}
use Rattle.c_model.specs.TextOrder.{functions_among}
use Rattle.c_model.specs.FileItems.{SeesValues, FileSeesValues}
use Rattle.c_model.proofs.TypedParts.{Gives, gives_one, gives_where}
use Rattle.c_model.proofs.TypedDeclarations.{anything}
use Rattle.c_model.proofs.NotedTerms.{SeesAll, clause_kept}
use Rattle.c_model.proofs.NotedForms.{after_parameters}

-- ---- where contracts stand

clause_sees : (s : Sight) (formals : List ℕ) (t : PlainType) → SeesValues s → (k : Kind) → SeesAll (sight_of_clause s formals t k)
clause_sees s formals t v kind.Assert = record { here = v; clause = tt; labels = λ l w e. absurd cc }
clause_sees s formals t v kind.Requires = record { here = v; clause = tt; labels = λ l w e. absurd cc }
clause_sees s formals t v kind.Assumes = record { here = v; clause = tt; labels = λ l w e. absurd cc }
clause_sees s formals t v kind.Ensures = record { here = v; clause = tt; labels = λ l w e. absurd cc }
clause_sees s formals t v kind.Complete = record { here = v; clause = tt; labels = λ l w e. absurd cc }
clause_sees s formals t v kind.Disjoint = record { here = v; clause = tt; labels = λ l w e. absurd cc }
clause_sees s formals t v kind.Invariant = record { here = v; clause = tt; labels = λ l w e. absurd cc }
clause_sees s formals t v kind.Variant = record { here = v; clause = tt; labels = λ l w e. absurd cc }
clause_sees s formals t v kind.Rte = record { here = v; clause = tt; labels = λ l w e. absurd cc }

-- ---- contracts

module _ (seen : Kind → AnnotationSight) (sees : (k : Kind) → SeesAll (seen k)) where
  clauses_formed : (IsKind : Kind → Type 0) (xs : List Annotation) → AreClausesOf IsKind IsShortReading xs → Gives (AreClausesOf IsKind IsShortClause) (typed_clauses seen xs)
  clauses_formed IsKind [] h = tt
  clauses_formed IsKind (a ∷ rest) h =
      gives_one IsShortClause (AreClausesOf IsKind IsShortClause) (typed_clause (seen a.kind) a.kind a.body) (λ b. one_part (typed_clauses seen rest) (λ rest. Good (record a { body = b } ∷ rest)))
      (clause_kept (seen a.kind) (sees a.kind) a.kind a.body h.0.body)
      (λ b v.
      gives_one (AreClausesOf IsKind IsShortClause) (AreClausesOf IsKind IsShortClause) (typed_clauses seen rest) (λ rest. Good (record a { body = b } ∷ rest)) (clauses_formed IsKind rest h.1) (λ more w.
      (record { kind = h.0.kind; body = v }, w)))

  behaviors_formed : (names : List ℕ) (bs : List NamedBehavior) → BehaviorsFormed IsShortReading bs → Gives (BehaviorsFormed IsShortClause) (typed_behaviors seen names bs)
  behaviors_formed names [] h = tt
  behaviors_formed names (b ∷ bs) h =
      gives_where (BehaviorsFormed IsShortClause) (not (is_among b.name names)) (no_name b.place) _ (λ e.
      gives_one (AreClausesOf IsBehaviorKind IsShortClause) (BehaviorsFormed IsShortClause) (typed_clauses seen b.clauses) (λ clauses. one_part (typed_behaviors seen (b.name ∷ names) bs) (λ rest. Good (record b { clauses = clauses } ∷ rest)))
      (clauses_formed IsBehaviorKind b.clauses h.0) (λ clauses v.
      gives_one (BehaviorsFormed IsShortClause) (BehaviorsFormed IsShortClause) (typed_behaviors seen (b.name ∷ names) bs) (λ rest. Good (record b { clauses = clauses } ∷ rest)) (behaviors_formed (b.name ∷ names) bs h.1) (λ rest w. (v, w))))

  contract_formed : (c : FunctionContract) → ContractFormed IsShortReading c → Gives (ContractFormed IsShortClause) (typed_contract seen c)
  contract_formed c h =
      gives_one (AreClausesOf IsOwnKind IsShortClause) (ContractFormed IsShortClause) (typed_clauses seen c.clauses) _ (clauses_formed IsOwnKind c.clauses h.clauses) (λ clauses v.
      gives_one (BehaviorsFormed IsShortClause) (ContractFormed IsShortClause) (typed_behaviors seen [] c.behaviors) _ (behaviors_formed [] c.behaviors h.behaviors) (λ behaviors w.
      gives_one (λ u. Unit {0}) (ContractFormed IsShortClause) (typed_covers (names_of_behaviors c.behaviors) c.covers) _ (anything (typed_covers (names_of_behaviors c.behaviors) c.covers)) (λ u x.
      record { clauses = v; behaviors = w; covers = h.covers })))

-- ---- functions

abbrev HasFormed : Function → Type 0
HasFormed f = MaybeFormed IsShortClause f.contract

maybe_formed : (all : List Function) (s : Sight) (f : Function) → SeesValues s → (c : Option FunctionContract) → MaybeFormed IsShortReading c → Gives (MaybeFormed IsShortClause) (noted_contract all s f c)
maybe_formed all s f k None h = tt
maybe_formed all s f k (Some c) h =
    let params = contract_parameters all f in
    let inside = with_parameters (inner (known_at c.place s)) params in
    gives_one (ContractFormed IsShortClause) (MaybeFormed IsShortClause) (typed_contract (contract_sight all (known_at c.place s) f) c) (λ c. Good (Some c))
    (contract_formed (contract_sight all (known_at c.place s) f) (clause_sees inside (numbers_of_parameters params) f.result (after_parameters (inner (known_at c.place s)) params k)) c h) (λ d w. w)

function_formed : (all : List Function) (s : Sight) (f : Function) → SeesValues s → MaybeFormed IsShortReading f.contract → Gives HasFormed (noted_function all s f)
function_formed all s f k h =
    gives_one (MaybeFormed IsShortClause) HasFormed (noted_contract all s f f.contract) _ (maybe_formed all s f k f.contract h) (λ c v.
    gives_one (λ b. Unit {0}) HasFormed (noted_in (known_at f.place s) f) (λ b. Good (record f { contract = c; body = b })) (anything (noted_in (known_at f.place s) f)) (λ b u. v))

-- ---- files

pub functions_formed : (p : TranslationUnit) (s : Sight) (is : List FileItem) → FileSeesValues p s is → ContractsFormed IsShortReading (functions_among is) → Gives (ContractsFormed IsShortClause) (noted_functions p s is)
functions_formed p s [] k h = tt
functions_formed p s (AFunction f ∷ is) k h =
    gives_one HasFormed (ContractsFormed IsShortClause) (noted_function p.funcs (with_function p s f) f) (λ g. one_part (noted_functions p (behind_item p s (AFunction f)) is) (λ fs. Good (g ∷ fs)))
    (function_formed p.funcs (with_function p s f) f k.0 h.0) (λ g v.
    gives_one (ContractsFormed IsShortClause) (ContractsFormed IsShortClause) (noted_functions p (behind_item p s (AFunction f)) is) (λ fs. Good (g ∷ fs)) (functions_formed p (behind_item p s (AFunction f)) is k.1 h.1) (λ fs w. (v, w)))
functions_formed p s (StructHead n x ∷ is) k h = functions_formed p s is k.1 h
functions_formed p s (Member n m ends ∷ is) k h = functions_formed p s is k.1 h
functions_formed p s (AnEnum e ∷ is) k h = functions_formed p (behind_item p s (AnEnum e)) is k.1 h
functions_formed p s (ATypedef d ∷ is) k h = functions_formed p (behind_item p s (ATypedef d)) is k.1 h
functions_formed p s (AGlobal d ∷ is) k h = functions_formed p (behind_item p s (AGlobal d)) is k.1 h

-- ---- typing of C, which leaves contracts as they are

same_formed : (fs gs : List Function) → FunctionsTypedAs fs gs → ContractsFormed IsShortReading fs → ContractsFormed IsShortReading gs
same_formed [] gs h n = subst (ContractsFormed IsShortReading) (sym h) tt
same_formed (f ∷ fs) gs h n = subst (ContractsFormed IsShortReading) (sym h.2) (subst (MaybeFormed IsShortReading) (sym h.3.contract) n.0, same_formed fs h.1 h.4 n.1)

pub typed_contracts_formed : (p q : TranslationUnit) → FileTypedAs p q → ContractsFormed IsShortReading p.funcs → ContractsFormed IsShortReading q.funcs
typed_contracts_formed p q h n = same_formed p.funcs q.funcs h.functions n

-- ---- contracts that move

either_formed : (a b : Option FunctionContract) → MaybeFormed IsShortClause a → MaybeFormed IsShortClause b → MaybeFormed IsShortClause (or_else a b)
either_formed None b h k = k
either_formed (Some c) b h k = h

where_formed : (t : Bool) (a b : Option FunctionContract) → MaybeFormed IsShortClause a → MaybeFormed IsShortClause b → MaybeFormed IsShortClause (cond t a b)
where_formed true a b h k = h
where_formed false a b h k = k

named_formed : (x : ℕ) (fs : List Function) → ContractsFormed IsShortClause fs → MaybeFormed IsShortClause (contract_named x fs)
named_formed x [] h = tt
named_formed x (f ∷ fs) h = either_formed (cond (nat_eq f.name x) f.contract None) (contract_named x fs) (where_formed (nat_eq f.name x) f.contract None h.0 tt) (named_formed x fs h.1)

moved_formed : (all : List Function) → ContractsFormed IsShortClause all → (f : Function) → HasFormed f → MaybeFormed IsShortClause (contract_moved all f)
moved_formed all a f h =
    where_formed (is_there (definition_of f.name all)) (cond (is_definition f) (contract_named f.name all) None) f.contract
    (where_formed (is_definition f) (contract_named f.name all) None (named_formed f.name all a) tt) h

pub all_moved : (all : List Function) → ContractsFormed IsShortClause all → (fs : List Function) → ContractsFormed IsShortClause fs → ContractsFormed IsShortClause (map (with_contract all) fs)
all_moved all a [] h = tt
all_moved all a (f ∷ fs) h = (moved_formed all a f h.0, all_moved all a fs h.1)
