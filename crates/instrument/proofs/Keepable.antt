-- What is known of the terms that a function keeps at its labels, and of its asserts, so that their code can be written.
use Rattle.std.proofs.Common.{◌≡◌, ◌⊎◌, ℕ, ◌≤◌, true, List, [], ◌∷◌, Option, Some, None}
use Rattle.c_syntax.specs.Logic.{LogicTerm, Annotation}
use Rattle.c_syntax.specs.Statements.{BlockItems}
use Rattle.c_syntax.specs.Programs.{Function, TranslationUnit}
use Rattle.c_model.specs.AnnotationSights.{AnnotationSight, under_label}
use Rattle.c_model.specs.ExpressionTyping.{Object, AnObject, Sight, entity_named}
use Rattle.c_model.specs.Formed.{TermNumbered, tokens_of_term}
use Rattle.c_model.specs.State.{same_label}
use Rattle.c_model.specs.TermRanges.{TermRanged}
use Rattle.c_model.specs.TypedAnnotations.{IsOwn}
use Rattle.c_model.specs.TypedPredicates.{IsIntegerTerm, IsPointerTerm, TermTyped, AnnotationsTyped}
use Rattle.c_simulation.specs.Keeping.{Kept}
use Rattle.annot_simulation.specs.Does.{Planned}
use Rattle.annot_simulation.specs.Plan.{Entry, IsIn, in_annotations, in_contract}
use Rattle.annot_simulation.proofs.SnapshotDepths.{AreShort}
use Rattle.annot_simulation.specs.Beside.{NoNames}
use Rattle.instrument.specs.Translation.{plan_of}
use Rattle.instrument.proofs.Throughout.{ThroughoutItems}

-- a term is typed under a label where this is in sight, keeps its ranges, and is short
pub record IsKeepable (a : LogicTerm) : Type 0 where
  pub view : AnnotationSight
  pub sight : Sight
  pub typed : TermTyped (under_label view sight) a
  pub side : IsIntegerTerm a ⊎ IsPointerTerm a
  pub ranged : TermRanged [] a
  pub numbered : TermNumbered a
  pub few : tokens_of_term a ≤ 400

-- so are those of a label
abbrev pub KeepableAt : List Kept → (Sight → Type 0) → Option ℕ → Type 0
KeepableAt [] There l = Unit {0}
KeepableAt (k ∷ ks) There l = (same_label k.label l ≡ true → (e : IsKeepable k.term) × There e.sight) × KeepableAt ks There l

abbrev pub LabelKeepable : List Kept → ℕ → Sight → Type 0
LabelKeepable ks l v = KeepableAt ks (λ s. s ≡ v) (Some l)

-- asserts are typed with what is in sight where they stand, and their terms at labels are planned
pub record AssertsWritable (ks : List Kept) (v : Sight) (annots : List Annotation) : Type 0 where
  pub view : AnnotationSight
  pub here : view.here ≡ v
  pub alone : NoNames view.clause
  pub unbound : view.binders ≡ []
  pub typed : AnnotationsTyped view annots
  pub planned : (x : Entry) → IsIn x (in_annotations annots) → Planned ks x.0 x.1

-- each object in sight is a parameter of the function or a global
abbrev pub OwnSight : TranslationUnit → Function → Sight → Type 0
OwnSight p f v = (x : ℕ) (b : Object) → entity_named x v.entities ≡ Some (AnObject b) → IsOwn p f b

-- what is in sight where a call begins
abbrev pub AtStart : TranslationUnit → Function → Sight → Sight → Type 0
AtStart p f root v = (v ≡ root) ⊎ OwnSight p f v

-- a function, where this is in sight in its body
pub record IsPlanned (p : TranslationUnit) (f : Function) (root : Sight) (items : BlockItems) : Type 0 where
  pub begins : KeepableAt (plan_of f) (AtStart p f root) None
  pub body : ThroughoutItems (LabelKeepable (plan_of f)) (AssertsWritable (plan_of f)) root items
  pub short : AreShort (plan_of f)
  pub contract : (x : Entry) → IsIn x (in_contract f.contract) → Planned (plan_of f) x.0 x.1
