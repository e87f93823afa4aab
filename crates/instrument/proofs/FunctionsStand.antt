-- What calls need of a function's annotations holds where its labels and the places of its terms are told apart, and its contract is typed and ranged.
use Rattle.std.proofs.Common.{◌≡◌, Option, Some, None, refl, sym, subst}
use Rattle.c_syntax.specs.Programs.{FunctionContract, Function, TranslationUnit}
use Rattle.c_model.specs.Checked.{Good}
use Rattle.c_model.specs.StatementTyping.{typed_labels}
use Rattle.interval_infer.specs.Judged.{seen_in}
use Rattle.annot_simulation.specs.Does.{Planned}
use Rattle.annot_simulation.specs.Plan.{Entry, IsIn, in_contract, planned}
use Rattle.annot_simulation.specs.Plan as plan
use Rattle.instrument.specs.Translation.{first_own, plan_of}
use Rattle.instrument.proofs.Annotated.{AreApart}
use Rattle.instrument.proofs.Bodies.{HasBody}
use Rattle.instrument.proofs.CheckedFunctions.{AtBeginning, FunctionStands}
use Rattle.instrument.proofs.ContractGood.{ContractKnown, clauses_stand}
use Rattle.instrument.proofs.ContractTerms.{contract_kept}
use Rattle.instrument.proofs.KeptFunctions.{IsSeen, begins_kept, body_kept, entry_planned, in_front}
use Rattle.instrument.proofs.Programs.{Part}

pub record FunctionKnown (p : TranslationUnit) (f : Function) : Type 0 where
  -- no two labels have one name (C99 6.8.1 p3)
  pub labels : typed_labels f.body ≡ Good tt
  -- no two terms stand at one place
  pub places : AreApart (planned f)
  pub contract : (c : FunctionContract) → f.contract ≡ Some c → ContractKnown p f c

module _ (p : TranslationUnit) (f : Function) (part : Part p f) (body : HasBody p f part) (known : FunctionKnown p f) where
  of_contract : (x : Entry) → IsIn x (in_contract f.contract) → (x.0 ≡ None) × IsSeen (AtBeginning p f) x
  of_contract x i = by f.contract refl i
    where
      by : (o : Option FunctionContract) → f.contract ≡ o → IsIn x (in_contract o) → (x.0 ≡ None) × IsSeen (AtBeginning p f) x
      by None e i = absurd i
      by (Some c) e i = let k = known.contract c e in contract_kept p f c k.stands (seen_in f.result) k.own k.others x i

  contract_planned : (c : FunctionContract) → f.contract ≡ Some c → (x : Entry) → IsIn x (in_contract (Some c)) → Planned (plan_of f) x.0 x.1
  contract_planned c e x i =
      entry_planned (first_own f) (planned f) known.places x (in_front (in_contract f.contract) (plan.in_body f.body) x (subst (λ o. IsIn x (in_contract o)) (sym e) i))

  pub function_stands : FunctionStands p f part body
  function_stands = record {
    items = body_kept p f part body known.labels known.places of_contract;
    begins = begins_kept p f part body known.labels known.places of_contract;
    clauses = clauses_stand p f known.contract contract_planned;
  }
