-- Code in its place, where functions begin, and how many instructions come after the ends of open labels.
use Rattle.std.proofs.Common.{◌≡◌, ℕ, zero, suc, ◌+◌, ◌<◌, ◌≤◌, ℤ, pos, negsuc, ◌+ℤ◌, ◌*ℤ◌, List, [], ◌∷◌, ◌++◌, length, Option, Some, None, Bool, true, false, refl, sym, ap, ◌∙◌, subst, arith, append_assoc, length-append, le_trans}
use Rattle.std.specs.Prelude.{◌^◌, slice_get, bytes_eq, if◌then◌else◌, unsigned_abs}
use Rattle.std.specs.Int.{int_rem_euclid}
use Rattle.std.specs.Option.{option_or}
use Rattle.std.proofs.Math.Seq.{get_or-append_seam}
use Rattle.std.proofs.lemmas.Option.{slice_get-get_or}
use Rattle.std.proofs.lemmas.Int.{ints}
use Rattle.c_model.specs.Operators.{floor_quotient}
use Rattle.mon_syntax.specs.Trees.{MonFunction}
use Rattle.mon_syntax.specs.Meaning.{function_named}
use Rattle.c_lower.specs.declared.code.Entry.{Entry}
use Rattle.c_lower.specs.declared.code.Instr.{Instr}
use Rattle.c_lower.specs.declared.code.Instr.TheVariants as instr
use Rattle.c_lower.specs.Code.{choice_code, loop_code, OpenLabel, behind_label, function_code, functions_code, entry_at, entries_from, entry_named}

-- ---- instructions

-- the instructions stand in the code at this place
abbrev pub HasAt : List Instr → ℕ → List Instr → Type 0
HasAt code p [] = Unit {0}
HasAt code p (i ∷ is) = (slice_get code p ≡ Some i) × HasAt code (p + 1) is

pub has_front : (code : List Instr) (p : ℕ) (a b : List Instr) → HasAt code p (a ++ b) → HasAt code p a
has_front code p [] b h = tt
has_front code p (i ∷ a) b h = (h.0, has_front code (p + 1) a b h.1)

pub has_back : (code : List Instr) (p : ℕ) (a b : List Instr) → HasAt code p (a ++ b) → HasAt code (p + length a) b
has_back code p [] b h = let e : p ≡ p + 0 = omega arith in subst (λ n. HasAt code n b) e h
has_back code p (i ∷ a) b h =
    let e : p + 1 + length a ≡ p + length (i ∷ a) = omega arith in
    subst (λ n. HasAt code n b) e (has_back code (p + 1) a b h.1)

pub has_join : (code : List Instr) (p : ℕ) (a b : List Instr) → HasAt code p a → HasAt code (p + length a) b → HasAt code p (a ++ b)
has_join code p [] b g h = let e : p + 0 ≡ p = omega arith in subst (λ n. HasAt code n b) e h
has_join code p (i ∷ a) b g h =
    let e : p + length (i ∷ a) ≡ p + 1 + length a = omega arith in
    (g.0, has_join code (p + 1) a b g.1 (subst (λ n. HasAt code n b) e h))

-- after what stands before them
pub has_behind : (is front : List Instr) → HasAt (front ++ is) (length front) is
has_behind [] front = tt
has_behind (i ∷ is) front =
    let within : length front < length (front ++ i ∷ is) = omega (arith, length-append front (i ∷ is)) in
    let here = slice_get-get_or (front ++ i ∷ is) (length front) i within ∙ ap Some (get_or-append_seam front i is i) in
    let n : length (front ++ i ∷ []) ≡ length front + 1 = omega (arith, length-append front (i ∷ [])) in
    let rest = has_behind is (front ++ i ∷ []) in
    let rest' = subst (λ l. HasAt l (length (front ++ i ∷ [])) is) (append_assoc front (i ∷ []) is) rest in
    (here, subst (λ m. HasAt (front ++ i ∷ is) m is) n rest')

-- ---- lengths

pub length_two : (a b : List Instr) (i : Instr) → length (a ++ (b ++ i ∷ [])) ≡ length a + length b + 1
length_two a b i = omega (arith, length-append a (b ++ i ∷ []), length-append b (i ∷ []))

pub length_choice : (test first second : List Instr)
    → length (choice_code test first second) ≡ length test + (1 + (length first + (1 + length second)))
length_choice test first second =
    let rest = first ++ instr.GoOn (length second) ∷ second in
    omega (arith, length-append test (instr.SkipIfZero (length first + 1) ∷ rest), length-append first (instr.GoOn (length second) ∷ second))

pub length_loop : (before behind : List Instr) → length (loop_code before behind) ≡ 1 + (1 + (length behind + (length before + 1)))
length_loop before behind =
    let turn = instr.GoBack (length behind + length before + 1) in
    omega (arith, length-append behind (before ++ turn ∷ []), length-append before (turn ∷ []))

-- ---- functions

-- the function's code stands where its entry says
abbrev pub FunctionAt : List Instr → Option MonFunction → Option Entry → Type 0
FunctionAt code None None = Unit {0}
FunctionAt code None (Some e) = ⊥
FunctionAt code (Some f) None = ⊥
FunctionAt code (Some f) (Some e) =
    (e.registers ≡ length f.parameters + length f.registers) × (behind : ℕ) × HasAt code e.start (function_code f behind)

choice_at : (b : Bool) (code : List Instr) (f : MonFunction) (e : Entry) (g : Option MonFunction) (d : Option Entry) → FunctionAt code (Some f) (Some e)
    → FunctionAt code g d → FunctionAt code (if b then Some f else g) (if b then Some e else d)
choice_at true code f e g d h k = h
choice_at false code f e g d h k = k

pub named_at : (code : List Instr) (name : List ℕ) (fs : List MonFunction) (start : ℕ) → HasAt code start (functions_code fs)
    → FunctionAt code (function_named name fs) (entry_named name start fs)
named_at code name [] start h = tt
named_at code name (f ∷ fs) start h =
    let behind = length (functions_code fs) in
    let cf = function_code f behind in
    choice_at (bytes_eq f.name name) code f (entry_at start f) _ _ (refl, behind, has_front code start cf (functions_code fs) h)
    (named_at code name fs (start + length cf) (has_back code start cf (functions_code fs) h))

pub numbered_at : (code : List Instr) (fs : List MonFunction) (start : ℕ) → HasAt code start (functions_code fs) → (f : ℕ)
    → FunctionAt code (slice_get fs f) (slice_get (entries_from start fs) f)
numbered_at code [] start h f = tt
numbered_at code (g ∷ gs) start h zero =
    let behind = length (functions_code gs) in
    (refl, behind, has_front code start (function_code g behind) (functions_code gs) h)
numbered_at code (g ∷ gs) start h (suc f) =
    let cg = function_code g (length (functions_code gs)) in
    numbered_at code gs (start + length cg) (has_back code start cg (functions_code gs) h) f

-- ---- labels

-- each body with a label ends where at most so many instructions are left
abbrev pub Within : List OpenLabel → ℕ → Type 0
Within [] n = Unit {0}
Within (o ∷ os) n = (o.behind ≤ n) × Within os n

pub within_more : (os : List OpenLabel) (m n : ℕ) → m ≤ n → Within os m → Within os n
within_more [] m n le h = tt
within_more (o ∷ os) m n le h = (le_trans h.0 le, within_more os m n le h.1)

pub within_last : (os : List OpenLabel) (l : List ℕ) (n : ℕ) → Within os n → Within (os ++ record { label = l; behind = n } ∷ []) n
within_last [] l n h = (omega arith, tt)
within_last (o ∷ os) l n h = (h.0, within_last os l n h.1)

-- an end that was found, if any
abbrev pub Below : Option ℕ → ℕ → Type 0
Below None n = Unit {0}
Below (Some a) n = a ≤ n

or_below : (o p : Option ℕ) (n : ℕ) → Below o n → Below p n → Below (option_or o p) n
or_below None p n h k = k
or_below (Some a) p n h k = h

if_below : (b : Bool) (a n : ℕ) → a ≤ n → Below (if b then Some a else None) n
if_below true a n h = h
if_below false a n h = tt

pub label_below : (os : List OpenLabel) (l : List ℕ) (n : ℕ) → Within os n → Below (behind_label os l) n
label_below [] l n h = tt
label_below (o ∷ os) l n h =
    or_below (behind_label os l) (if bytes_eq o.label l then Some o.behind else None) n (label_below os l n h.1) (if_below (bytes_eq o.label l) o.behind n h.0)

or_or : (o p q : Option ℕ) → option_or (option_or o p) q ≡ option_or o (option_or p q)
or_or None p q = refl
or_or (Some a) p q = refl

or_none : (o : Option ℕ) → option_or o None ≡ o
or_none None = refl
or_none (Some a) = refl

-- the last label is the innermost
pub label_last : (os : List OpenLabel) (l : List ℕ) (a : ℕ) (k : List ℕ)
    → behind_label (os ++ record { label = l; behind = a } ∷ []) k ≡ option_or (if bytes_eq l k then Some a else None) (behind_label os k)
label_last [] l a k = sym (or_none (if bytes_eq l k then Some a else None))
label_last (o ∷ os) l a k =
    ap (λ z. option_or z (if bytes_eq o.label k then Some o.behind else None)) (label_last os l a k)
    ∙ or_or (if bytes_eq l k then Some a else None) (behind_label os k) (if bytes_eq o.label k then Some o.behind else None)

pub label_here : (os : List OpenLabel) (l : List ℕ) (a : ℕ) (k : List ℕ) → bytes_eq l k ≡ true
    → behind_label (os ++ record { label = l; behind = a } ∷ []) k ≡ Some a
label_here os l a k e = label_last os l a k ∙ ap (λ b. option_or (if b then Some a else None) (behind_label os k)) e

pub label_further : (os : List OpenLabel) (l : List ℕ) (a : ℕ) (k : List ℕ) → bytes_eq l k ≡ false
    → behind_label (os ++ record { label = l; behind = a } ∷ []) k ≡ behind_label os k
label_further os l a k e = label_last os l a k ∙ ap (λ b. option_or (if b then Some a else None) (behind_label os k)) e

-- ---- constants

-- a number is its high bits and its 64 low ones
pub high_and_low : (z : ℤ) → (floor_quotient z (2 ^ 64) *ℤ pos (2 ^ 64)) +ℤ pos (unsigned_abs (int_rem_euclid z (pos (2 ^ 64)))) ≡ z
high_and_low (pos n) = ap pos (omega arith)
high_and_low (negsuc n) = omega (arith, ints)
