-- The words of a command line taken apart and put together.
use Rattle.std.proofs.Common.{◌≡◌, ℕ, Bool, true, false, List, [], ◌∷◌, ◌++◌, Option, Some, None, refl, ap, sym, ◌∙◌, if◌then◌else◌, append_assoc, codes, bytes_eq, subst}
use Rattle.std.proofs.lemmas.Slice.Eq.{bytes_eq-Decides}
use Rattle.c_model.specs.declared.job.Job.{Job}
use Rattle.c_model.specs.declared.job.Job.TheVariants.{Run}
use Rattle.c_model.specs.Words.{Argument, Operand, Steps, ◌>>=◌, before_dashes, behind_dashes, argument, arguments, with_value, operands, step_values, step_number, steps_of, file_of, run_of}
use Rattle.c_model.specs.WordLaws.{AreArguments, with_steps}

-- the words before `--` and after it, past words that are none

tails : (t : Bool) (word : List ℕ) (found words : List (List ℕ)) → (if t then [] else word ∷ found) ≡ word ∷ words → (t ≡ false) × (found ≡ words)
tails true word found words e = cc
tails false word found words e = (refl, cc)

before_dashes-append : (a back : List (List ℕ)) → before_dashes a ≡ a → before_dashes (a ++ back) ≡ a ++ before_dashes back
before_dashes-append [] back e = refl
before_dashes-append (word ∷ a) back e =
    let t = tails (bytes_eq word (codes "--")) word (before_dashes a) a e in
    rw (t.0) (ap (λ words. word ∷ words) (before_dashes-append a back t.1))

behind_dashes-append : (a back : List (List ℕ)) → before_dashes a ≡ a → behind_dashes (a ++ back) ≡ behind_dashes back
behind_dashes-append [] back e = refl
behind_dashes-append (word ∷ a) back e =
    let t = tails (bytes_eq word (codes "--")) word (before_dashes a) a e in
    rw (t.0) (behind_dashes-append a back t.1)

-- where x is found, whole is x and then the rest
abbrev Joins : Option (List Argument) → Option (List Argument) → Option (List Argument) → Type 0
Joins x rest whole = (found : List Argument) → x ≡ Some found → whole ≡ (rest >>= λ more. Some (found ++ more))

joins_none : (rest : Option (List Argument)) → rest ≡ (rest >>= λ more. Some more)
joins_none None = refl
joins_none (Some more) = refl

joins_nil : (rest : Option (List Argument)) → Joins (Some []) rest rest
joins_nil rest [] e = joins_none rest
joins_nil rest (a ∷ found) e = cc

joins_test : (t : Bool) (x y rest v w : Option (List Argument)) → Joins x rest v → Joins y rest w → Joins (if t then x else y) rest (if t then v else w)
joins_test true x y rest v w h k = h
joins_test false x y rest v w h k = k

joins_rest : (first : Argument) (found g : List Argument) (rest : Option (List Argument)) → Some (first ∷ found) ≡ Some g → ((rest >>= λ more. Some (found ++ more)) >>= λ more. Some (first ∷ more)) ≡ (rest >>= λ more. Some (g ++ more))
joins_rest first found [] rest e = cc
joins_rest first found (b ∷ g) None e = refl
joins_rest first found (b ∷ g) (Some more) e = cc

joins_cons : (a : Option Argument) (x rest whole : Option (List Argument)) → Joins x rest whole → Joins (a >>= λ first. x >>= λ more. Some (first ∷ more)) rest (a >>= λ first. whole >>= λ more. Some (first ∷ more))
joins_cons None x rest whole h g e = cc
joins_cons (Some first) None rest whole h g e = cc
joins_cons (Some first) (Some found) rest whole h g e = rw (h found refl) (joins_rest first found g rest e)

joins_absurd : (rest whole : Option (List Argument)) → Joins None rest whole
joins_absurd rest whole found e = cc

mutual
  arguments-append : (a back : List (List ℕ)) → Joins (arguments a) (arguments back) (arguments (a ++ back))
  arguments-append [] back = joins_nil (arguments back)
  arguments-append (word ∷ a) back = joins_test (bytes_eq word (codes "--steps")) (with_value a) (argument word >>= λ first. arguments a >>= λ more. Some (first ∷ more)) (arguments back) (with_value (a ++ back))
      (argument word >>= λ first. arguments (a ++ back) >>= λ more. Some (first ∷ more)) (with_value-append a back) (joins_cons (argument word) (arguments a) (arguments back) (arguments (a ++ back)) (arguments-append a back))

  with_value-append : (a back : List (List ℕ)) → Joins (with_value a) (arguments back) (with_value (a ++ back))
  with_value-append [] back = joins_absurd (arguments back) (with_value back)
  with_value-append (value ∷ a) back = joins_cons (Some (Steps value)) (arguments a) (arguments back) (arguments (a ++ back)) (arguments-append a back)

operands-append : (a b : List Argument) → operands (a ++ b) ≡ operands a ++ operands b
operands-append [] b = refl
operands-append (Operand word ∷ a) b = ap (λ words. word ∷ words) (operands-append a b)
operands-append (Steps value ∷ a) b = operands-append a b

step_values-append : (a b : List Argument) → step_values (a ++ b) ≡ step_values a ++ step_values b
step_values-append [] b = refl
step_values-append (Operand word ∷ a) b = step_values-append a b
step_values-append (Steps value ∷ a) b = ap (λ words. value ∷ words) (step_values-append a b)

-- the job of arguments and of the words after `--`
abbrev pub job_with : List Argument → List (List ℕ) → Option Job
job_with found behind = file_of (operands found ++ behind) >>= λ file. steps_of (step_values found) >>= λ steps. Some (Run file steps false)

file_of-swap : (a b c : List (List ℕ)) → file_of (a ++ (b ++ c)) ≡ file_of (b ++ (a ++ c))
file_of-swap [] b c = refl
file_of-swap (x ∷ a) [] c = refl
file_of-swap (x ∷ []) (y ∷ []) c = refl
file_of-swap (x ∷ []) (y ∷ (z ∷ b)) c = refl
file_of-swap (x ∷ (z ∷ a)) (y ∷ []) c = refl
file_of-swap (x ∷ (z ∷ a)) (y ∷ (w ∷ b)) c = refl

steps_of-swap : (a b c : List (List ℕ)) → steps_of (a ++ (b ++ c)) ≡ steps_of (b ++ (a ++ c))
steps_of-swap [] b c = refl
steps_of-swap (x ∷ a) [] c = refl
steps_of-swap (x ∷ []) (y ∷ []) c = refl
steps_of-swap (x ∷ []) (y ∷ (z ∷ b)) c = refl
steps_of-swap (x ∷ (z ∷ a)) (y ∷ []) c = refl
steps_of-swap (x ∷ (z ∷ a)) (y ∷ (w ∷ b)) c = refl

operands_apart : (a b c : List Argument) (behind : List (List ℕ)) → operands (a ++ (b ++ c)) ++ behind ≡ operands a ++ (operands b ++ (operands c ++ behind))
operands_apart a b c behind = simp (operands-append, append_assoc)

values_apart : (a b c : List Argument) → step_values (a ++ (b ++ c)) ≡ step_values a ++ (step_values b ++ step_values c)
values_apart a b c = simp step_values-append

job_with-swap : (a b c : List Argument) (behind : List (List ℕ)) → job_with (a ++ (b ++ c)) behind ≡ job_with (b ++ (a ++ c)) behind
job_with-swap a b c behind = rw (
  operands_apart a b c behind,
  operands_apart b a c behind,
  values_apart a b c,
  values_apart b a c,
  file_of-swap (operands a) (operands b) (operands c ++ behind),
  steps_of-swap (step_values a) (step_values b)
      (step_values c),
) refl

bind-bind : {B : Type 0} (m : Option (List Argument)) (found : List Argument) (next : List Argument → Option B) → ((m >>= λ more. Some (found ++ more)) >>= next) ≡ (m >>= λ more. next (found ++ more))
bind-bind None found next = refl
bind-bind (Some more) found next = refl

bind_same : {B : Type 0} (m : Option (List Argument)) (f g : List Argument → Option B) → ((more : List Argument) → f more ≡ g more) → (m >>= f) ≡ (m >>= g)
bind_same None f g h = refl
bind_same (Some more) f g h = h more

-- the job of words after arguments
run_of-append : (a back : List (List ℕ)) (h : AreArguments a) → run_of (a ++ back) ≡ (arguments (before_dashes back) >>= λ more. job_with (h.found ++ more) (behind_dashes back))
run_of-append a back h =
    rw (before_dashes-append a back h.no_dashes, behind_dashes-append a back h.no_dashes, arguments-append a (before_dashes back) h.found h.are)
    (bind-bind (arguments (before_dashes back)) h.found (λ found. job_with found (behind_dashes back)))

two_parts : (a b back : List (List ℕ)) (h : AreArguments a) (k : AreArguments b) → run_of (a ++ (b ++ back)) ≡ (arguments (before_dashes back) >>= λ more. job_with (h.found ++ (k.found ++ more)) (behind_dashes back))
two_parts a b back h k =
    run_of-append a (b ++ back) h
    ∙ rw (before_dashes-append b back k.no_dashes, behind_dashes-append b back k.no_dashes, arguments-append b (before_dashes back) k.found k.are)
    (bind-bind (arguments (before_dashes back)) k.found (λ found. job_with (h.found ++ found) (behind_dashes back)))

pub order_is_free : (a b back : List (List ℕ)) → AreArguments a → AreArguments b → run_of (a ++ (b ++ back)) ≡ run_of (b ++ (a ++ back))
order_is_free a b back h k =
    two_parts a b back h k
    ∙ bind_same (arguments (before_dashes back)) _ _ (λ more. job_with-swap h.found k.found more (behind_dashes back))
    ∙ sym (two_parts b a back k h)

steps_of_bad : (before : List (List ℕ)) (value : List ℕ) (more : List (List ℕ)) → step_number value ≡ None → steps_of (before ++ (value ∷ more)) ≡ None
steps_of_bad [] value [] e = e
steps_of_bad [] value (again ∷ more) e = refl
steps_of_bad (x ∷ []) value more e = refl
steps_of_bad (x ∷ (y ∷ before)) value more e = refl

steps_of_twice : (before : List (List ℕ)) (first : List ℕ) (between : List (List ℕ)) (second : List ℕ) (more : List (List ℕ)) → steps_of (before ++ (first ∷ (between ++ (second ∷ more)))) ≡ None
steps_of_twice [] first [] second more = refl
steps_of_twice [] first (x ∷ between) second more = refl
steps_of_twice (x ∷ []) first between second more = refl
steps_of_twice (x ∷ (y ∷ before)) first between second more = refl

no_steps : (file : Option (List ℕ)) (steps : Option ℕ) → steps ≡ None → (file >>= λ f. steps >>= λ n. Some (Run f n false)) ≡ None
no_steps None steps e = refl
no_steps (Some f) steps e = rw e refl

no_job : {A : Type 0} (m : Option A) (next : A → Option Job) → ((more : A) → next more ≡ None) → (m >>= next) ≡ None
no_job None next h = refl
no_job (Some more) next h = h more

dashes_are_no_number : (value : List ℕ) → bytes_eq value (codes "--") ≡ true → step_number value ≡ None
dashes_are_no_number value e = subst (λ text. step_number text ≡ None) (sym ((bytes_eq-Decides value (codes "--")).0 e)) refl

bad_value : (found : List Argument) (value : List ℕ) (more : List Argument) (behind : List (List ℕ)) → step_number value ≡ None → job_with (found ++ (Steps value ∷ more)) behind ≡ None
bad_value found value more behind e =
    no_steps (file_of (operands (found ++ (Steps value ∷ more)) ++ behind)) _ (rw (step_values-append found (Steps value ∷ more)) (steps_of_bad (step_values found) value (step_values more) e))

bad_option : (m : Option (List Argument)) (found : List Argument) (value : List ℕ) (behind : List (List ℕ)) → step_number value ≡ None → ((m >>= λ more. Some (Steps value ∷ more)) >>= λ more. job_with (found ++ more) behind) ≡ None
bad_option None found value behind e = refl
bad_option (Some more) found value behind e = bad_value found value more behind e

forms_at : (t : Bool) (found : List Argument) (value : List ℕ) (back : List (List ℕ)) → bytes_eq value (codes "--") ≡ t
    → (arguments (before_dashes (with_steps value ∷ back)) >>= λ more. job_with (found ++ more) (behind_dashes (with_steps value ∷ back))) ≡ (arguments (before_dashes (codes "--steps" ∷ (value ∷ back))) >>= λ more. job_with (found ++ more)
    (behind_dashes (codes "--steps" ∷ (value ∷ back))))
forms_at false found value back e = rw e refl
forms_at true found value back e =
    rw e (bad_option (arguments (before_dashes back)) found value (behind_dashes back) (dashes_are_no_number value e))

pub forms_agree : (front : List (List ℕ)) (value : List ℕ) (back : List (List ℕ)) → AreArguments front → run_of (front ++ (with_steps value ∷ back)) ≡ run_of (front ++ (codes "--steps" ∷ (value ∷ back)))
forms_agree front value back h =
    run_of-append front (with_steps value ∷ back) h
    ∙ forms_at (bytes_eq value (codes "--")) h.found value back refl
    ∙ sym (run_of-append front (codes "--steps" ∷ (value ∷ back)) h)

abbrev AreArguments-append : (a b : List (List ℕ)) → AreArguments a → AreArguments b → AreArguments (a ++ b)
AreArguments-append a b h k = record {
  no_dashes = before_dashes-append a b h.no_dashes ∙ ap (λ words. a ++ words) k.no_dashes;
  found = h.found ++ k.found;
  are = rw (arguments-append a b h.found h.are, k.are) refl;
}

abbrev one_option : (value : List ℕ) → AreArguments (with_steps value ∷ [])
one_option value = record { no_dashes = refl; found = Steps value ∷ []; are = refl }

twice_apart : (a : List Argument) (first : List ℕ) (b : List Argument) (second : List ℕ) (more : List Argument)
    → step_values ((a ++ (Steps first ∷ (b ++ (Steps second ∷ [])))) ++ more) ≡ step_values a ++ (first ∷ (step_values b ++ (second ∷ step_values more)))
twice_apart a first b second more = simp (step_values-append, append_assoc)

regroup : (a : List (List ℕ)) (x : List ℕ) (b : List (List ℕ)) (y : List ℕ) (c : List (List ℕ)) → (a ++ (x ∷ (b ++ (y ∷ [])))) ++ c ≡ a ++ (x ∷ (b ++ (y ∷ c)))
regroup a x b y c = simp append_assoc

pub option_once : (front : List (List ℕ)) (first : List ℕ) (between : List (List ℕ)) (second : List ℕ) (back : List (List ℕ)) → AreArguments front → AreArguments between
    → run_of (front ++ (with_steps first ∷ (between ++ (with_steps second ∷ back)))) ≡ None
option_once front first between second back h k =
    let words : List (List ℕ) = front ++ (with_steps first ∷ (between ++ (with_steps second ∷ []))) in
    let are : AreArguments words = AreArguments-append front _ h (AreArguments-append (with_steps first ∷ []) _ (one_option first) (AreArguments-append between _ k (one_option second))) in
    ap run_of (sym (regroup front (with_steps first) between (with_steps second) back))
    ∙ run_of-append words back are
    ∙ no_job (arguments (before_dashes back)) _ (λ more. no_steps _ _ (rw (twice_apart h.found first k.found second more) (steps_of_twice (step_values h.found) first (step_values k.found) second (step_values more))))
