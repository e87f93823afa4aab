-- The contract of a typed function is known where it is checked (`ContractKnown`), so what calls need of its annotations holds.
use Rattle.std.proofs.Common.{◌≡◌, ℕ, true, false, List, Some, refl, sym, ap, subst}
use Rattle.c_syntax.specs.declared.types.CInt.{CInt}
use Rattle.c_syntax.specs.declared.types.CInt.TheVariants as c
use Rattle.c_syntax.specs.Ctypes as ctype
use Rattle.c_syntax.specs.Ctypes.{PlainType, Void, Int, Array, Struct, StructTag, EnumTag}
use Rattle.c_syntax.specs.Programs.{FunctionContract, Function, TranslationUnit}
use Rattle.c_model.specs.AnnotationRanges.{seen_result}
use Rattle.c_model.specs.AnnotationSights.{AtEnd}
use Rattle.c_model.specs.AnnotationTyping.{numbers_of_parameters}
use Rattle.c_model.specs.ContractChecks.{result_number}
use Rattle.c_model.specs.ExpressionTyping.{is_void}
use Rattle.c_model.specs.Formed.{IsShortClause}
use Rattle.c_model.specs.FormedContracts.{ContractFormed, MaybeFormed}
use Rattle.c_model.specs.Library.{is_there}
use Rattle.c_model.specs.Meaning.{is_definition}
use Rattle.c_model.specs.Memory.{Value}
use Rattle.c_model.specs.PredicateTyping.{sort_of_type}
use Rattle.c_model.specs.TypedTrees.{IsResult, GivesNothing, GivesScalar}
use Rattle.c_model.specs.UnrangedPrograms.{ContractRanged}
use Rattle.c_simulation.specs.Keeping.{is_pointer_sort}
use Rattle.annot_simulation.specs.Beside.{ResultSorted}
use Rattle.annot_simulation.specs.Held.{sort_held, sorts_held}
use Rattle.interval_infer.specs.Judged.{seen_in}
use Rattle.instrument.specs.Limits.{ContractHasNumbers}
use Rattle.instrument.specs.Translation.{first_flag, held_of, result_held, result_of, result_register}
use Rattle.instrument.proofs.Annotated.{IsAnnotated}
use Rattle.instrument.proofs.Callees.{AnnotationsStand}
use Rattle.instrument.proofs.CheckedFunctions.{annotations_stand}
use Rattle.instrument.proofs.ContractGood.{ContractKnown}
use Rattle.instrument.proofs.FunctionsStand.{FunctionKnown, function_stands}
use Rattle.instrument.proofs.Programs.{Part}

-- a function gives nothing, a number or a pointer
pub result_is : (P : PlainType → Type 0) (t : PlainType) → IsResult t → P Void → ((k : CInt) → P (Int k)) → ((u : PlainType) → P (ctype.Ptr u)) → P t
result_is P t (GivesNothing e) none number pointer = subst P (sym e) none
result_is P (Int k) (GivesScalar h) none number pointer = number k
result_is P (ctype.Ptr u) (GivesScalar h) none number pointer = pointer u
result_is P Void (GivesScalar h) none number pointer = none
result_is P (Array u n) (GivesScalar h) none number pointer = let i = h.is in absurd cc
result_is P (Struct n) (GivesScalar h) none number pointer = let i = h.is in absurd cc
result_is P (ctype.Named x) (GivesScalar h) none number pointer = let i = h.is in absurd cc
result_is P (StructTag x tag) (GivesScalar h) none number pointer = let i = h.is in absurd cc
result_is P (EnumTag x at) (GivesScalar h) none number pointer = let i = h.is in absurd cc

-- what it gives has the range of its type, where it gives something
seen_is : (t : PlainType) → IsResult t → seen_result t ≡ seen_in t
seen_is t h = result_is (λ t. seen_result t ≡ seen_in t) t h refl (λ k. refl) (λ u. refl)

-- and stands in a register of its sort
IsHeld : ℕ → PlainType → Type 0
IsHeld r t = is_void t ≡ false → sort_held result_number (sorts_held (result_held r (result_of t))) ≡ Some (is_pointer_sort (sort_of_type t))

number_held : (r : ℕ) (k : CInt) → IsHeld r (Int k)
unfolding IsHeld
number_held r c.I8 e = refl
number_held r c.U8 e = refl
number_held r c.I16 e = refl
number_held r c.U16 e = refl
number_held r c.I32 e = refl
number_held r c.U32 e = refl
number_held r c.I64 e = refl
number_held r c.U64 e = refl

held_is : (r : ℕ) (t : PlainType) → IsResult t → IsHeld r t
unfolding IsHeld
held_is r t h = result_is (IsHeld r) t h (λ e. absurd cc) (number_held r) (λ u e. refl)

result_sorted : (f : Function) → IsResult f.result → ResultSorted (AtEnd (numbers_of_parameters f.params) f.result) (sorts_held (held_of f))
unfolding IsHeld
result_sorted f h = held_is (result_register f) f.result h

pub contract_known : (p : TranslationUnit) (f : Function) → IsAnnotated p f → IsResult f.result → ContractHasNumbers (first_flag f) f.contract → (c : FunctionContract) → f.contract ≡ Some c → ContractKnown p f c
contract_known p f a gives numbers c e =
    let typed : ContractRanged (seen_result f.result) (Some c) = subst (ContractRanged (seen_result f.result)) e a.ranged in
    let ranged : ContractRanged (seen_in f.result) (Some c) = subst (λ seen. ContractRanged seen (Some c)) (seen_is f.result gives) typed in
    let formed : ContractFormed IsShortClause c = subst (MaybeFormed IsShortClause) e a.formed in
    let few : ContractHasNumbers (first_flag f) (Some c) = subst (ContractHasNumbers (first_flag f)) e numbers in
    record { stands = a.contract c e; own = ranged.0; others = ranged.1; covers = formed.covers; few = few.2; sorted = result_sorted f gives }

function_known : (p : TranslationUnit) (f : Function) (part : Part p f) → is_definition f ≡ true → FunctionKnown p f
function_known p f part definition = record {
  labels = part.typed.labels;
  places = part.annotated.apart;
  contract = contract_known p f part.annotated part.typed.result (part.clauses definition);
}

pub functions_stand : (p : TranslationUnit) (globals : List Value) → AnnotationsStand p globals
functions_stand p globals = annotations_stand p globals (λ f part body. function_stands p f part body (function_known p f part (ap is_there body.is)))
