-- Ours: the contracts of a file (ACSL 2.3; c_model/specs/AnnotationTyping) in words of what the code keeps: the numbers of the parameters of each
-- definition, and the contracts of names that are defined.
use Rattle.std.specs.Prelude.{◌≡◌, ℕ, List, [], ◌∷◌, ◌++◌, nat_eq, Option, Some, None, option_map, Bool, true, false, ◌&&◌, cond}
use Rattle.std.specs.Global.{Vec}
use Rattle.indexmap.specs.IndexMap.{IndexMap, get}
use Rattle.c_syntax.specs.declared.annotation.Kind.{Kind}
use Rattle.c_syntax.specs.declared.program.Contract.{Contract}
use Rattle.c_syntax.specs.Ctypes.{PlainType}
use Rattle.c_syntax.specs.Statements.{Declaration}
use Rattle.c_syntax.specs.Programs.{FunctionContract, Function, plain_contract}
use Rattle.c_model.specs.Library.{is_there}
use Rattle.c_model.specs.Meaning.{is_definition}
use Rattle.c_model.specs.Checked.{Checked, Good, one_part}
use Rattle.c_model.specs.ExpressionTyping.{AnObject, Sight, inner, or_else}
use Rattle.c_model.specs.AnnotationSights.{AnnotationSight}
use Rattle.c_model.specs.ContractTyping.{sight_of_clause, typed_contract}
use Rattle.c_model.specs.AnnotationTyping.{known_at, noted_in, numbers_of_parameters}

-- ---- the numbers of parameters

-- those of the definition of a name
abbrev pub defined_numbers : ℕ → List Function → Option (List ℕ)
defined_numbers x [] = None
defined_numbers x (f ∷ fs) = cond (is_definition f && nat_eq f.name x) (Some (numbers_of_parameters f.params)) (defined_numbers x fs)

-- those of names with one more function: of a definition, where the name has none yet
abbrev pub with_numbers : (ℕ → Option (List ℕ)) → Function → ℕ → Option (List ℕ)
with_numbers numbers f x =
    or_else (numbers x) (cond (is_definition f && nat_eq f.name x) (Some (numbers_of_parameters f.params)) None)

-- what is kept of them
abbrev pub numbers_in : {S : Type 0} → IndexMap ℕ (Vec ℕ) S → ℕ → Option (List ℕ)
numbers_in m x = option_map (λ (v : Vec ℕ). v.items) (get nat_eq m x)

abbrev pub numbers_or_none : Option (List ℕ) → List ℕ
numbers_or_none None = []
numbers_or_none (Some ns) = ns

-- ---- contracts where they stand

-- what is in sight behind a parameter that has this number
abbrev pub with_numbered : Sight → Declaration → ℕ → Sight
with_numbered s d n =
    cond d.named (record s { entities = s.entities ++ AnObject (record { name = d.name; decl = n; ctype = d.ctype }) ∷ [] }) s

-- the next number, or the parameter's own where none is left
abbrev pub next_number : List ℕ → Declaration → ℕ
next_number [] d = d.place.offset
next_number (n ∷ ns) d = n

abbrev pub other_numbers : List ℕ → List ℕ
other_numbers [] = []
other_numbers (n ∷ ns) = ns

-- behind parameters that have these numbers, as far as they reach, and their own behind that
abbrev pub all_numbered : Sight → List Declaration → List ℕ → Sight
all_numbered s [] ns = s
all_numbered s (d ∷ ds) ns = all_numbered (with_numbered s d (next_number ns d)) ds (other_numbers ns)

-- the numbers that they have
abbrev pub numbers_by : List Declaration → List ℕ → List ℕ
numbers_by [] ns = []
numbers_by (d ∷ ds) ns = next_number ns d ∷ numbers_by ds (other_numbers ns)

abbrev pub contract_sight_by : List ℕ → Sight → List Declaration → PlainType → Kind → AnnotationSight
contract_sight_by ns s ds t = sight_of_clause (all_numbered (inner s) ds ns) (numbers_by ds ns) t

abbrev pub contract_by : List ℕ → Sight → Function → Option FunctionContract → Checked (Option FunctionContract)
contract_by ns s f None = Good None
contract_by ns s f (Some c) = one_part (typed_contract (contract_sight_by ns (known_at c.place s) f.params f.result) c) (λ c. Good (Some c))

-- a function, by the numbers of the parameters of definitions
abbrev pub function_by : (ℕ → Option (List ℕ)) → Sight → Function → Checked Function
function_by numbers s f =
    one_part (contract_by (numbers_or_none (numbers f.name)) s f f.contract) (λ c.
    one_part (noted_in (known_at f.place s) f) (λ b. Good (record f { contract = c; body = b })))

-- ---- contracts that move

abbrev pub contracts_in : {S : Type 0} → IndexMap ℕ Contract S → ℕ → Option FunctionContract
contracts_in m x = option_map plain_contract (get nat_eq m x)

-- a name that is defined leaves its contract
abbrev pub left_contract : (ℕ → Option (List ℕ)) → Function → Function
left_contract numbers f = record f { contract = cond (is_there (numbers f.name)) None f.contract }

-- those that are kept with one more function: the first of each name that is defined
abbrev pub kept_contract : (ℕ → Option (List ℕ)) → (ℕ → Option FunctionContract) → Function → ℕ → Option FunctionContract
kept_contract numbers kept f x = or_else (kept x) (cond (nat_eq f.name x && is_there (numbers x)) f.contract None)

abbrev pub named_contracts : (ℕ → Option (List ℕ)) → List Function → ℕ → Option FunctionContract
named_contracts numbers [] x = None
named_contracts numbers (f ∷ fs) x = or_else (cond (nat_eq f.name x && is_there (numbers x)) f.contract None) (named_contracts numbers fs x)

-- a definition gets the one of its name
abbrev pub given_contract : (ℕ → Option FunctionContract) → Function → Function
given_contract kept f = cond (is_definition f) (record f { contract = or_else (kept f.name) f.contract }) f

abbrev pub without_named : (ℕ → Option FunctionContract) → Function → ℕ → Option FunctionContract
without_named kept f x = cond (is_definition f && nat_eq f.name x) None (kept x)

-- no name is defined twice (C99 6.9 p5)
abbrev pub defines : ℕ → List Function → Bool
defines x [] = false
defines x (f ∷ fs) = cond (is_definition f && nat_eq f.name x) true (defines x fs)

abbrev pub IsDefinedOnce : List Function → Type 0
IsDefinedOnce [] = Unit {0}
IsDefinedOnce (f ∷ fs) = (is_definition f ≡ true → defines f.name fs ≡ false) × IsDefinedOnce fs
