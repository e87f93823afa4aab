-- Where the file and the number of steps of a job come from.
use Rattle.std.proofs.Common.{◌≡◌, ◌≢◌, ℕ, suc, ◌≤◌, zero, ◌⊎◌, inl, inr, nat_le, not, ◌&&◌, Bool, true, false, List, [], ◌∷◌, ◌++◌, Option, Some, None, option_map, refl, ap, sym, ◌∙◌, arith, if◌then◌else◌, lit≤, codes, bytes_eq, subst}
use Rattle.std.specs.List.{Contains}
use Rattle.std.specs.Fmt.{decimal}
use Rattle.std.specs.Str.{all_ascii_digits}
use Rattle.std.specs.Str.Parse.{digits_value}
use Rattle.std.proofs.lemmas.List.Elements.{Contains-append_right, Contains-append_cases}
use Rattle.std.proofs.lemmas.Slice.Eq.{bytes_eq-Decides}
use Rattle.std.proofs.lemmas.Bool.{leb-true, le-leb}
use Rattle.std.proofs.lemmas.Fmt.{digits_decimal, digits_value-decimal, decimal_nonempty}
use Rattle.c_model.specs.declared.job.Job.{Job}
use Rattle.c_model.specs.declared.job.Job.TheVariants.{Run, Instrument, Exec}
use Rattle.c_model.specs.Words.{Argument, Operand, Steps, ◌>>=◌, before_dashes, behind_dashes, without_front, argument, arguments, with_value, operands, step_values, is_empty, step_number, steps_of, file_of, run_of, exec_of, without_options}
use Rattle.c_model.specs.Words.{instrument_of, job_of}
use Rattle.c_model.specs.WordLaws.{file_named, steps_asked, IsFromWords}
use Rattle.c_model.proofs.CommandLine.{own, within, number_ok}

-- the file

-- the parts of a job that is made of both
record Parts (make : List ℕ → ℕ → Job) (file : Option (List ℕ)) (steps : Option ℕ) (job : Job) : Type 0 where
  name : List ℕ
  count : ℕ
  file_is : file ≡ Some name
  steps_is : steps ≡ Some count
  job_is : make name count ≡ job

parts_of : (make : List ℕ → ℕ → Job) (file : Option (List ℕ)) (steps : Option ℕ) (job : Job) → (file >>= λ word. steps >>= λ count. Some (make word count)) ≡ Some job → Parts make file steps job
parts_of make None steps job e = absurd cc
parts_of make (Some word) None job e = absurd cc
parts_of make (Some word) (Some count) job e = record { name = word; count = count; file_is = refl; steps_is = refl; job_is = cc }

-- the file of a job without options
record File (file : Option (List ℕ)) (job : Job) : Type 0 where
  name : List ℕ
  file_is : file ≡ Some name
  job_is : Instrument name false ≡ job

file_without : (file : Option (List ℕ)) (values : List (List ℕ)) (job : Job) → (file >>= λ word. without_options values (Instrument word false)) ≡ Some job → File file job
file_without None values job e = absurd cc
file_without (Some word) [] job e = record { name = word; file_is = refl; job_is = cc }
file_without (Some word) (v ∷ more) job e = absurd cc

record IsOnly (words : List (List ℕ)) (file : List ℕ) : Type 0 where
  only : words ≡ file ∷ []
  not_empty : file ≢ []
  not_dash : file ≢ codes "-"

named : (t : Bool) (c : ℕ) (text file : List ℕ) → bytes_eq (c ∷ text) (codes "-") ≡ t → (if t then None else Some (c ∷ text)) ≡ Some file → IsOnly ((c ∷ text) ∷ []) file
named true c text file t e = cc
named false c text file t e =
    let same : c ∷ text ≡ file = cc in
    subst (λ word. IsOnly ((c ∷ text) ∷ []) word) same (record {
      only = refl;
      not_empty = λ h. cc;
      not_dash = λ h. let yes_dash = (bytes_eq-Decides (c ∷ text) (codes "-")).1 h in cc;
    })

file_of-only : (words : List (List ℕ)) (file : List ℕ) → file_of words ≡ Some file → IsOnly words file
file_of-only [] file e = cc
file_of-only ([] ∷ []) file e = cc
file_of-only ((c ∷ text) ∷ []) file e = named (bytes_eq (c ∷ text) (codes "-")) c text file refl e
file_of-only (word ∷ (again ∷ more)) file e = cc

-- the number of steps

number_test : (a b c : Bool) (value n : ℕ) → nat_le value 1000000000000 ≡ c → (if not a && (b && c) then Some value else None) ≡ Some n → n ≤ 1000000000000
number_test true b c value n t e = cc
number_test false false c value n t e = cc
number_test false true false value n t e = cc
number_test false true true value n t e = let same : value ≡ n = cc in subst (λ k. k ≤ 1000000000000) same (leb-true value 1000000000000 t)

step_number-small : (text : List ℕ) (n : ℕ) → step_number text ≡ Some n → n ≤ 1000000000000
step_number-small text n e = number_test (is_empty text) (all_ascii_digits text) _ (digits_value 10 text) n refl e

steps_of-small : (values : List (List ℕ)) (n : ℕ) → steps_of values ≡ Some n → n ≤ 1000000000000
steps_of-small [] n e = let same : 10000000 ≡ n = cc in subst (λ k. k ≤ 1000000000000) same (lit≤ tt)
steps_of-small (value ∷ []) n e = step_number-small value n e
steps_of-small (value ∷ (again ∷ more)) n e = cc

-- where the operands stand

-- the operands of what is found stand among the words
abbrev Finds : Option (List Argument) → List (List ℕ) → Type 0
Finds m words = (found : List Argument) (x : List ℕ) → m ≡ Some found → Contains (operands found) x → Contains words x

later : (word : List ℕ) (words : List (List ℕ)) (x : List ℕ) → Contains words x → Contains (word ∷ words) x
later word words x h = Contains-append_right (word ∷ []) words x h

first : (word : List ℕ) (words : List (List ℕ)) → Contains (word ∷ words) word
first word words = (0, omega arith, refl)

in_cons : (word : List ℕ) (words : List (List ℕ)) (x : List ℕ) → Contains (word ∷ words) x → (x ≡ word) ⊎ Contains words x
in_cons word words x (zero, below, e) = inl (sym e)
in_cons word words x (suc k, below, e) = inr (k, omega arith, e)

finds_test : (t : Bool) (m n : Option (List Argument)) (words : List (List ℕ)) → Finds m words → Finds n words → Finds (if t then m else n) words
finds_test true m n words h k = h
finds_test false m n words h k = k

-- an operand is the word itself
abbrev IsOperandOf : List ℕ → Option Argument → Type 0
IsOperandOf word a = (x : List ℕ) → a ≡ Some (Operand x) → x ≡ word

operand_is : (value rest : Option (List ℕ)) (word : List ℕ) → IsOperandOf word (elim value [ Some v ↦ Some (Steps v) | None ↦ elim rest [ Some r ↦ None | None ↦ Some (Operand word) ] ])
operand_is (Some v) rest word x e = cc
operand_is None (Some r) word x e = cc
operand_is None None word x e = cc

argument_is : (word : List ℕ) → IsOperandOf word (argument word)
argument_is word = operand_is (without_front (codes "--steps=") word) (without_front (codes "-") word) word

finds_first : (a : Argument) (word : List ℕ) (more : List Argument) (words : List (List ℕ)) → IsOperandOf word (Some a) → ((x : List ℕ) → Contains (operands more) x → Contains words x) → (x : List ℕ) → Contains (operands (a ∷ more)) x
    → Contains (word ∷ words) x
finds_first (Operand w) word more words is h x k =
    elim (in_cons w (operands more) x k) [ inl e ↦ subst (λ v. Contains (v ∷ words) x) (e ∙ is w refl) (first x words) | inr j ↦ later word words x (h x j) ]
finds_first (Steps value) word more words is h x k = later word words x (h x k)

finds_cons : (a : Option Argument) (word : List ℕ) (m : Option (List Argument)) (words : List (List ℕ)) → IsOperandOf word a → Finds m words → Finds (a >>= λ first. m >>= λ more. Some (first ∷ more)) (word ∷ words)
finds_cons None word m words is h found x e k = cc
finds_cons (Some a) word None words is h found x e k = cc
finds_cons (Some a) word (Some more) words is h found x e k =
    let same : found ≡ a ∷ more = cc in
    finds_first a word more words is (λ y. h more y refl) x (subst (λ f. Contains (operands f) x) same k)

finds_none : Finds (Some []) []
finds_none found x e k = let same : found ≡ [] = cc in subst (λ f. Contains (operands f) x) same k

mutual
  arguments-finds : (words : List (List ℕ)) → Finds (arguments words) words
  arguments-finds [] = finds_none
  arguments-finds (word ∷ words) = finds_test (bytes_eq word (codes "--steps")) (with_value words) (argument word >>= λ first. arguments words >>= λ more. Some (first ∷ more)) (word ∷ words)
      (λ found x e k. later word words x (with_value-finds words found x e k)) (finds_cons (argument word) word (arguments words) words (argument_is word) (arguments-finds words))

  with_value-finds : (words : List (List ℕ)) → Finds (with_value words) words
  with_value-finds [] = λ found x e k. cc
  with_value-finds (value ∷ words) = finds_cons (Some (Steps value)) value (arguments words) words (λ x e. cc) (arguments-finds words)

before_test : (t : Bool) (word : List ℕ) (before words : List (List ℕ)) (x : List ℕ) → (Contains before x → Contains words x) → Contains (if t then [] else word ∷ before) x → Contains (word ∷ words) x
before_test true word before words x h k = absurd (omega (arith, k.1))
before_test false word before words x h k = elim (in_cons word before x k) [ inl e ↦ subst (λ v. Contains (v ∷ words) x) e (first x words) | inr j ↦ later word words x (h j) ]

before_among : (words : List (List ℕ)) (x : List ℕ) → Contains (before_dashes words) x → Contains words x
before_among [] x k = k
before_among (word ∷ words) x k = before_test (bytes_eq word (codes "--")) word (before_dashes words) words x (before_among words x) k

behind_test : (t : Bool) (word : List ℕ) (behind words : List (List ℕ)) (x : List ℕ) → (Contains behind x → Contains words x) → Contains (if t then words else behind) x → Contains (word ∷ words) x
behind_test true word behind words x h k = later word words x k
behind_test false word behind words x h k = later word words x (h k)

behind_among : (words : List (List ℕ)) (x : List ℕ) → Contains (behind_dashes words) x → Contains words x
behind_among [] x k = k
behind_among (word ∷ words) x k = behind_test (bytes_eq word (codes "--")) word (behind_dashes words) words x (behind_among words x) k

-- the job

abbrev FoundAmong : Option (List Argument) → List (List ℕ) → Type 0
FoundAmong m words = (found : List Argument) (x : List ℕ) → m ≡ Some found → Contains (operands found) x → Contains words x

-- the only operand stands among the words
from_operand : (found : List Argument) (behind words : List (List ℕ)) → FoundAmong (Some found) words → ((x : List ℕ) → Contains behind x → Contains words x) → (file : List ℕ) (steps : ℕ) → file_of (operands found ++ behind) ≡ Some file
    → steps ≤ 1000000000000 → IsFromWords words file steps
from_operand found behind words h k file steps e small =
    let only = file_of-only (operands found ++ behind) file e in
    let among : Contains (operands found ++ behind) file = subst (λ ws. Contains ws file) (sym only.only) (first file []) in
    record {
      small = small;
      word = elim (Contains-append_cases (operands found) behind file among) [ inl i ↦ h found file refl i | inr j ↦ k file j ];
      not_empty = only.not_empty;
      not_dash = only.not_dash;
    }

timed_from : (make : List ℕ → ℕ → Job) → ((f : List ℕ) (n : ℕ) → (file_named (make f n) ≡ f) × (steps_asked (make f n) ≡ n)) → (m : Option (List Argument)) (behind words : List (List ℕ)) → FoundAmong m words
    → ((x : List ℕ) → Contains behind x → Contains words x) → (job : Job) → (m >>= λ found. file_of (operands found ++ behind) >>= λ file. steps_of (step_values found) >>= λ steps. Some (make file steps)) ≡ Some job
    → IsFromWords words (file_named job) (steps_asked job)
timed_from make is None behind words h k job e = absurd cc
timed_from make is (Some found) behind words h k job e =
    let p = parts_of make (file_of (operands found ++ behind)) (steps_of (step_values found)) job e in
    let q = from_operand found behind words h k p.name p.count p.file_is (steps_of-small (step_values found) p.count p.steps_is) in
    let named : file_named job ≡ p.name = ap file_named (sym p.job_is) ∙ (is p.name p.count).0 in
    let asked : steps_asked job ≡ p.count = ap steps_asked (sym p.job_is) ∙ (is p.name p.count).1 in
    rw (named, asked) q

untimed_from : (m : Option (List Argument)) (behind words : List (List ℕ)) → FoundAmong m words → ((x : List ℕ) → Contains behind x → Contains words x) → (job : Job)
    → (m >>= λ found. file_of (operands found ++ behind) >>= λ file. without_options (step_values found) (Instrument file false)) ≡ Some job → IsFromWords words (file_named job) (steps_asked job)
untimed_from None behind words h k job e = absurd cc
untimed_from (Some found) behind words h k job e =
    let p = file_without (file_of (operands found ++ behind)) (step_values found) job e in
    let q = from_operand found behind words h k p.name 0 p.file_is (omega arith) in
    rw (ap file_named (sym p.job_is), ap steps_asked (sym p.job_is)) q

found_among : (words : List (List ℕ)) → FoundAmong (arguments (before_dashes words)) words
found_among words found x is k = before_among words x (arguments-finds (before_dashes words) found x is k)

behind : (command : List ℕ) (words : List (List ℕ)) (job : Job) → IsFromWords words (file_named job) (steps_asked job) → IsFromWords (command ∷ words) (file_named job) (steps_asked job)
behind command words job is = record { small = is.small; word = later command words (file_named job) is.word; not_empty = is.not_empty; not_dash = is.not_dash }

run_from : (words : List (List ℕ)) (job : Job) → run_of words ≡ Some job → IsFromWords words (file_named job) (steps_asked job)
run_from words job e = timed_from (λ f n. Run f n false) (λ f n. (refl, refl)) (arguments (before_dashes words)) (behind_dashes words) words (found_among words) (behind_among words) job e

exec_from : (words : List (List ℕ)) (job : Job) → exec_of words ≡ Some job → IsFromWords words (file_named job) (steps_asked job)
exec_from words job e = timed_from Exec (λ f n. (refl, refl)) (arguments (before_dashes words)) (behind_dashes words) words (found_among words) (behind_among words) job e

instrument_from : (words : List (List ℕ)) (job : Job) → instrument_of words ≡ Some job → IsFromWords words (file_named job) (steps_asked job)
instrument_from words job e = untimed_from (arguments (before_dashes words)) (behind_dashes words) words (found_among words) (behind_among words) job e

command_test : (a b c : Bool) (command : List ℕ) (words : List (List ℕ)) (job : Job) → (if a then run_of words else (if b then instrument_of words else (if c then exec_of words else None))) ≡ Some job
    → IsFromWords (command ∷ words) (file_named job) (steps_asked job)
command_test true b c command words job e = behind command words job (run_from words job e)
command_test false true c command words job e = behind command words job (instrument_from words job e)
command_test false false true command words job e = behind command words job (exec_from words job e)
command_test false false false command words job e = absurd cc

pub jobs_are_from_words : (words : List (List ℕ)) (job : Job) → job_of words ≡ Some job → IsFromWords words (file_named job) (steps_asked job)
jobs_are_from_words [] job e = absurd cc
jobs_are_from_words (command ∷ words) job e = command_test (bytes_eq command (codes "run")) (bytes_eq command (codes "instrument")) (bytes_eq command (codes "exec")) command words job e

-- `exec` takes what `run` takes
exec_at : (file : Option (List ℕ)) (steps : Option ℕ) → (file >>= λ f. steps >>= λ n. Some (Exec f n)) ≡ option_map (λ job. Exec (file_named job) (steps_asked job)) (file >>= λ f. steps >>= λ n. Some (Run f n false))
exec_at None steps = refl
exec_at (Some f) None = refl
exec_at (Some f) (Some n) = refl

exec_with : (m : Option (List Argument)) (behind : List (List ℕ)) → (m >>= λ found. file_of (operands found ++ behind) >>= λ file. steps_of (step_values found) >>= λ steps. Some (Exec file steps)) ≡ option_map
    (λ job. Exec (file_named job) (steps_asked job)) (m >>= λ found. file_of (operands found ++ behind) >>= λ file. steps_of (step_values found) >>= λ steps. Some (Run file steps false))
exec_with None behind = refl
exec_with (Some found) behind = exec_at (file_of (operands found ++ behind)) (steps_of (step_values found))

pub exec_takes_words_of_run : (words : List (List ℕ)) → exec_of words ≡ option_map (λ job. Exec (file_named job) (steps_asked job)) (run_of words)
exec_takes_words_of_run words = exec_with (arguments (before_dashes words)) (behind_dashes words)

-- numbers

pub numbers_are_read : (n : ℕ) → n ≤ 1000000000000 → step_number (decimal n) ≡ Some n
numbers_are_read n small =
    number_ok (decimal n) n (digits_decimal own n (within n small)) (decimal_nonempty n (within n small)) (sym (digits_value-decimal own n (within n small)))
    ∙ rw (le-leb n 1000000000000 small) refl
