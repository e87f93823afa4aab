-- What the clauses of annotations may name where they stand (ACSL 2.3.1, 2.4.3): objects and enumerators, labels, parameters and the result of a function.
use Rattle.std.specs.Prelude.{ℕ, List, [], ◌∷◌, ◌++◌, Option, Some, None, option_map, Bool, true, false, ◌||◌, cond, nat_eq, codes, bytes_eq}
use Rattle.c_syntax.specs.declared.place.Place.{Place}
use Rattle.c_syntax.specs.declared.logic.Label.{Label}
use Rattle.c_syntax.specs.declared.logic.Label.TheVariants.{Here, Pre, Marked}
use Rattle.c_syntax.specs.Ctypes.{PlainType}
use Rattle.c_model.specs.ExpressionTyping.{Sight, name_at, or_else}

pub data ClauseSight : Type 0 where
  -- an assert or a clause of a loop, with what is in sight where the function's body begins
  InBody : Sight → ClauseSight
  -- `requires` and `assumes`
  AtEntry : ClauseSight
  -- `ensures`, with the numbers of the parameters and the type of the result
  AtEnd : List ℕ → PlainType → ClauseSight
  -- what stands under a label, with the numbers of the parameters where that is in an `ensures`
  UnderLabel : List ℕ → ClauseSight

pub record AnnotationSight : Type 0 where
  pub here : Sight
  -- the labels of C that are known, the newest first, each with what is in sight where it stands
  pub labels : List (ℕ × Sight)
  pub clause : ClauseSight
  -- the binders of quantifiers, the innermost last, each with the place of its declaration and its name
  pub binders : List (Place × ℕ)

-- ---- parameters in `ensures`

abbrev pub formals_in : ClauseSight → List ℕ
formals_in (InBody s) = []
formals_in AtEntry = []
formals_in (AtEnd formals t) = formals
formals_in (UnderLabel formals) = formals

-- what is in sight under a label, where binders have no values
abbrev pub under_label : AnnotationSight → Sight → AnnotationSight
under_label s v = record { here = v; labels = []; clause = UnderLabel (formals_in s.clause); binders = [] }

-- ---- binders (ACSL 2.2)

-- what is in sight where these binders are too
abbrev pub with_binders : AnnotationSight → List (Place × ℕ) → AnnotationSight
with_binders s bs = record s { binders = s.binders ++ bs }

-- the place of the innermost binder of a name
abbrev pub binder_named : ℕ → List (Place × ℕ) → Option Place
binder_named x [] = None
binder_named x (b ∷ bs) = or_else (binder_named x bs) (cond (nat_eq x b.1) (Some b.0) None)

-- ---- labels

-- what is in sight where a label of C stands
abbrev pub marked : ℕ → List (ℕ × Sight) → Option Sight
marked l [] = None
marked l (x ∷ xs) = cond (nat_eq x.0 l) (Some x.1) (marked l xs)

-- where the call begins
abbrev pub beginning : Sight → ClauseSight → Option Sight
beginning here (InBody v) = Some v
beginning here AtEntry = None
beginning here (AtEnd formals t) = Some here
beginning here (UnderLabel formals) = None

-- what is in sight of a term at a label
abbrev pub sight_at : AnnotationSight → Label → Option AnnotationSight
sight_at s Here = Some s
sight_at s Pre = option_map (under_label s) (beginning s.here s.clause)
sight_at s (Marked l) = option_map (under_label s) (marked l s.labels)

abbrev pub is_word : AnnotationSight → ℕ → List ℕ → Bool
is_word s l word = bytes_eq (name_at s.here.names l) word

abbrev pub label_of_c : ℕ → List (ℕ × Sight) → Option Label
label_of_c l labels = option_map (λ (v : Sight). Marked l) (marked l labels)

-- the labels that annotations have besides `Here`, and those of C
abbrev pub label_in : AnnotationSight → ℕ → ClauseSight → Option Label
label_in s l (InBody v) = cond (is_word s l (codes "Pre")) (Some Pre) (label_of_c l s.labels)
label_in s l AtEntry = None
label_in s l (AtEnd formals t) =
    cond (is_word s l (codes "Post")) (Some Here) (cond (is_word s l (codes "Pre") || is_word s l (codes "Old")) (Some Pre) None)
label_in s l (UnderLabel formals) = None

-- what the name of a label stands for; `Post` is `Here`, and `Old` is `Pre`
abbrev pub label_named : AnnotationSight → ℕ → Option Label
label_named s l = cond (is_word s l (codes "Here")) (Some Here) (label_in s l s.clause)

-- whether a term at the label doesn't depend on what is now
abbrev pub is_past : Label → Bool
is_past Here = false
is_past Pre = true
is_past (Marked l) = true
