-- What results, terms at labels and parameters in `ensures` demand, and the trees that they give; and names in contracts (ACSL 2.3, 2.4.3), by computation.
use Rattle.std.proofs.Common.{◌≡◌, ℕ, ◌+◌, true, List, [], ◌∷◌, Some, codes, refl}
use Rattle.c_syntax.specs.declared.place.Place.{Place}
use Rattle.c_syntax.specs.declared.annotation.Kind.{Kind}
use Rattle.c_syntax.specs.declared.annotation.Kind.TheVariants.{Requires, Assumes, Ensures, Complete, Disjoint}
use Rattle.c_syntax.specs.declared.expression.UnOp.TheVariants as unary
use Rattle.c_syntax.specs.declared.logic.Label.{Label}
use Rattle.c_syntax.specs.declared.logic.Label.TheVariants as label
use Rattle.c_syntax.specs.Ctypes.{PlainType, Void, Ptr, int_type}
use Rattle.c_syntax.specs.Formulas as read
use Rattle.c_syntax.specs.Formulas.{Form}
use Rattle.c_syntax.specs.Logic.{LogicTerm, Variable, Named, At, Annotation, Raw, Holds, Behaviors, NonZero}
use Rattle.c_syntax.specs.Programs.{NamedBehavior, FunctionContract}
use Rattle.c_model.specs.Checked.{Good, refusing}
use Rattle.c_model.specs.ExpressionTyping.{Sight, Entity, AnObject, use_as}
use Rattle.c_model.specs.AnnotationSights.{InBody, AtEntry, AtEnd, AnnotationSight}
use Rattle.c_model.specs.PredicateTyping.{ATerm, APlace, range_to_infer, result_use, typed_form}
use Rattle.c_model.specs.ContractTyping.{sight_of_clause, typed_contract}
use Rattle.c_model.specs.Library.{library_constant}
use Rattle.worked_rows.proofs.WorkedSight.{at, fault}

-- ---- what is in sight

-- objects by the numbers of their names, at file scope and in a function
abbrev entity : ℕ → PlainType → Entity
entity x t = AnObject (record { name = x; decl = x + 100; ctype = t })

abbrev names : List (List ℕ)
names = codes "g" ∷ codes "n" ∷ codes "p" ∷ codes "x" ∷ codes "L" ∷ codes "M" ∷ codes "Here" ∷ codes "Pre" ∷ codes "Old" ∷ codes "Post" ∷ []

abbrev seeing : List Entity → Sight
seeing entities = record {
  names = names;
  texts = [];
  functions = [];
  entities = entities;
  innermost = 0;
  types = [];
  structs = [];
  levels = [];
  enum_tags = [];
  enums = [];
}

-- g, the parameters n and p, and the variable x
abbrev at_start : Sight
at_start = seeing (entity 0 int_type ∷ entity 1 int_type ∷ entity 2 (Ptr int_type) ∷ [])

abbrev inside : Sight
inside = seeing (entity 0 int_type ∷ entity 1 int_type ∷ entity 2 (Ptr int_type) ∷ entity 3 int_type ∷ [])

-- behind the label L, before which x isn't declared
abbrev in_body : AnnotationSight
in_body = record { here = inside; labels = (4, at_start) ∷ []; clause = InBody at_start; binders = [] }

abbrev at_entry : AnnotationSight
at_entry = record { here = at_start; labels = []; clause = AtEntry; binders = [] }

abbrev at_end : PlainType → AnnotationSight
at_end t = record { here = at_start; labels = []; clause = AtEnd (101 ∷ 102 ∷ []) t; binders = [] }

-- ---- forms, each part at its offset, and trees

abbrev name : ℕ → ℕ → Form
name x p = read.Name (at p) (use_as x 0)

abbrev at_label : ℕ → Form → ℕ → ℕ → Form
at_label p f place l = read.At (at p) f (at place) l

abbrev variable : ℕ → ℕ → PlainType → LogicTerm
variable x p t = Variable (at p) (Some t) range_to_infer (use_as x (x + 100))

abbrev labelled : ℕ → PlainType → Label → LogicTerm → LogicTerm
labelled p t l a = At (at p) (Some t) range_to_infer l a

abbrev result : ℕ → LogicTerm
result p = Named (at p) (Some int_type) range_to_infer result_use

-- ---- in a body

-- \at(n, L), \at(g, Pre), \at(x, Here)
labels_in_a_body : (typed_form in_body (at_label 0 (name 1 2) 4 4) ≡ Good (ATerm (labelled 0 int_type (label.Marked 4) (variable 1 2 int_type))))
    × (typed_form in_body (at_label 0 (name 0 2) 4 7) ≡ Good (ATerm (labelled 0 int_type label.Pre (variable 0 2 int_type))))
    × (typed_form in_body (at_label 0 (name 3 2) 4 6) ≡ Good (ATerm (labelled 0 int_type label.Here (variable 3 2 int_type))))
labels_in_a_body = (refl, refl, refl)

-- x isn't in sight at L or at Pre; no label is called M, Old or Post; and a term stands under a label, with no other label under it
faults_in_a_body : (typed_form in_body (at_label 0 (name 3 2) 4 4) ≡ fault 5 2)
    × (typed_form in_body (at_label 0 (name 3 2) 4 7) ≡ fault 5 2)
    × (typed_form in_body (at_label 0 (name 3 2) 4 5) ≡ fault 9 4)
    × (typed_form in_body (at_label 0 (name 3 2) 4 8) ≡ fault 9 4)
    × (typed_form in_body (at_label 0 (name 3 2) 4 9) ≡ fault 9 4)
    × (typed_form in_body (at_label 0 (at_label 2 (name 1 4) 6 4) 8 4) ≡ fault 9 0)
    × (typed_form in_body (at_label 0 (read.Truth (at 2) true) 4 4) ≡ fault 6 0)
    × (typed_form in_body (at_label 0 (read.Result (at 2)) 4 4) ≡ fault 9 0)
    × (typed_form in_body (read.Old (at 0) (name 1 2)) ≡ fault 9 0)
    × (typed_form in_body (read.Result (at 0)) ≡ fault 6 0)
unfolding library_constant
faults_in_a_body = (refl, refl, refl, refl, refl, refl, refl, refl, refl, refl)

-- ---- in `requires` and `assumes`

labels_at_the_beginning : (typed_form at_entry (at_label 0 (name 1 2) 4 6) ≡ Good (ATerm (labelled 0 int_type label.Here (variable 1 2 int_type))))
    × (typed_form at_entry (name 1 2) ≡ Good (APlace (variable 1 2 int_type)))
    × (typed_form at_entry (at_label 0 (name 1 2) 4 7) ≡ fault 9 4)
    × (typed_form at_entry (at_label 0 (name 1 2) 4 9) ≡ fault 9 4)
    × (typed_form at_entry (read.Old (at 0) (name 1 2)) ≡ fault 9 0)
    × (typed_form at_entry (read.Result (at 0)) ≡ fault 6 0)
labels_at_the_beginning = (refl, refl, refl, refl, refl, refl)

-- ---- in `ensures`

-- n, p, g, \old(n), \old(g), \at(n, Old), \at(n, Here), \result, \at(\result, Post)
values_at_the_end : (typed_form (at_end int_type) (name 1 0) ≡ Good (ATerm (labelled 0 int_type label.Pre (variable 1 0 int_type))))
    × (typed_form (at_end int_type) (name 2 0) ≡ Good (ATerm (labelled 0 (Ptr int_type) label.Pre (variable 2 0 (Ptr int_type)))))
    × (typed_form (at_end int_type) (name 0 0) ≡ Good (APlace (variable 0 0 int_type)))
    × (typed_form (at_end int_type) (read.Old (at 0) (name 1 2)) ≡ Good (ATerm (labelled 0 int_type label.Pre (variable 1 2 int_type))))
    × (typed_form (at_end int_type) (read.Old (at 0) (name 0 2)) ≡ Good (ATerm (labelled 0 int_type label.Pre (variable 0 2 int_type))))
    × (typed_form (at_end int_type) (at_label 0 (name 1 2) 4 8) ≡ Good (ATerm (labelled 0 int_type label.Pre (variable 1 2 int_type))))
    × (typed_form (at_end int_type) (at_label 0 (name 1 2) 4 6) ≡ Good (ATerm (labelled 0 int_type label.Here (labelled 2 int_type label.Pre (variable 1 2 int_type)))))
    × (typed_form (at_end int_type) (read.Result (at 0)) ≡ Good (ATerm (result 0)))
    × (typed_form (at_end int_type) (at_label 0 (read.Result (at 2)) 4 9) ≡ Good (ATerm (labelled 0 int_type label.Here (result 2))))
values_at_the_end = (refl, refl, refl, refl, refl, refl, refl, refl, refl)

-- &n, \old(&n), \old(\old(n)), \old(\result), \at(\result, Pre), \at(n, L), and \result of a function that gives nothing
faults_at_the_end : (typed_form (at_end int_type) (read.Unary (at 0) unary.Address (name 1 1)) ≡ fault 6 0)
    × (typed_form (at_end int_type) (read.Old (at 0) (read.Unary (at 2) unary.Address (name 1 3))) ≡ fault 6 2)
    × (typed_form (at_end int_type) (read.Old (at 0) (read.Old (at 2) (name 1 4))) ≡ fault 9 0)
    × (typed_form (at_end int_type) (read.Old (at 0) (read.Result (at 2))) ≡ fault 9 0)
    × (typed_form (at_end int_type) (at_label 0 (read.Result (at 2)) 4 7) ≡ fault 9 0)
    × (typed_form (at_end int_type) (at_label 0 (name 1 2) 4 4) ≡ fault 9 4)
    × (typed_form (at_end Void) (read.Result (at 0)) ≡ fault 6 0)
faults_at_the_end = (refl, refl, refl, refl, refl, refl, refl)

-- ---- contracts

abbrev seen : Kind → AnnotationSight
seen = sight_of_clause at_start (101 ∷ 102 ∷ []) int_type

abbrev clause : Kind → Form → Annotation
clause k f = record { number = 1; kind = k; place = at 0; body = Raw f }

abbrev naming : Kind → List (Place × ℕ) → Annotation
naming k xs = record { number = 1; kind = k; place = at 0; body = Behaviors xs }

abbrev behavior : ℕ → ℕ → List Annotation → NamedBehavior
behavior x p cs = record { place = at p; name = x; clauses = cs }

abbrev contract : List Annotation → List NamedBehavior → List Annotation → FunctionContract
contract own bs covers = record { place = at 0; clauses = own; behaviors = bs; covers = covers }

abbrev holds : Kind → LogicTerm → Annotation
holds k t = record { number = 1; kind = k; place = at 0; body = Holds (NonZero (at 0) t) }

-- requires n; ensures n; behavior 3: assumes n; complete behaviors 3;
a_contract : typed_contract seen (contract (clause Requires (name 1 0) ∷ clause Ensures (name 1 0) ∷ []) (behavior 3 8 (clause Assumes (name 1 0) ∷ []) ∷ []) (naming Complete ((at 9, 3) ∷ []) ∷ []))
    ≡ Good (contract (holds Requires (variable 1 0 int_type) ∷ holds Ensures (labelled 0 int_type label.Pre (variable 1 0 int_type)) ∷ []) (behavior 3 8 (holds Assumes (variable 1 0 int_type) ∷ []) ∷ [])
    (naming Complete ((at 9, 3) ∷ []) ∷ []))
a_contract = refl

-- a second behavior of a name, a name of no behavior, and a fault before it
names_of_contracts : (refusing (typed_contract seen (contract [] (behavior 3 4 [] ∷ behavior 4 8 [] ∷ behavior 3 12 [] ∷ []) [])) ≡ Some (record { code = 5; place = at 12 }))
    × (refusing (typed_contract seen (contract [] (behavior 3 4 [] ∷ []) (naming Complete ((at 9, 3) ∷ []) ∷ naming Disjoint ((at 15, 3) ∷ (at 17, 4) ∷ []) ∷ []))) ≡ Some (record { code = 5; place = at 17 }))
    × (refusing (typed_contract seen (contract (clause Requires (read.Result (at 2)) ∷ []) (behavior 3 4 [] ∷ behavior 3 12 [] ∷ []) [])) ≡ Some (record { code = 6; place = at 2 }))
names_of_contracts = (refl, refl, refl)
