-- Options and courses, and arguments that are put onto the operands and taken off them.
use Rattle.std.proofs.Common.{◌≡◌, ℕ, suc, ◌+◌, List, [], ◌∷◌, ◌++◌, length, Option, Some, None, refl, sym, ap, ◌∙◌, arith, append_assoc, append-nil}
use Rattle.mon_syntax.specs.Meaning.{Result, Done, Stops, writes, ◌>>=◌}
use Rattle.c_lower.specs.Machine.{Course, Over, GoesOn, puts, with_some, with_arguments}

pub some_then : {A B : Type 0} (o : Option A) (g : A → Option B) (n : ℕ) (go : B → Course) → with_some o n (λ a. with_some (g a) n go) ≡ with_some (o >>= g) n go
some_then None g n go = refl
some_then (Some a) g n go = refl

pub two_then : {A B C : Type 0} (o : Option A) (p : Option B) (g : A → B → Option C) (n : ℕ) (go : C → Course)
    → with_some o n (λ a. with_some p n (λ b. with_some (g a b) n go)) ≡ with_some (o >>= λ a. p >>= λ b. g a b) n go
two_then None p g n go = refl
two_then (Some a) p g n go = some_then p (g a) n go

pub puts-puts : (o p : List ℕ) (x : Course) → puts o (puts p x) ≡ puts (o ++ p) x
puts-puts o p (Over e n q) = ap (Over e n) (sym (append_assoc o p q))
puts-puts o p (GoesOn q) = ap GoesOn (sym (append_assoc o p q))

pub puts-nil : (x : Course) → puts [] x ≡ x
puts-nil (Over e n q) = refl
puts-nil (GoesOn q) = refl

pub writes-nil : {S A : Type 0} (x : Result S A) → writes [] x ≡ x
writes-nil (Done a s o) = refl
writes-nil (Stops e n o) = refl

-- arguments onto operands, the last one topmost
abbrev pub onto : {A : Type 0} → List A → List A → List A
onto [] s = s
onto (v ∷ vs) s = onto vs (v ∷ s)

some_taken : {A : Type 0} (vs : List A) (m : ℕ) (got s : List A) (n : ℕ) (go : List A → List A → Course)
    → with_arguments (length vs + m) got (onto vs s) n go ≡ with_arguments m (vs ++ got) s n go
some_taken [] m got s n go = let e : 0 + m ≡ m = omega arith in ap (λ k. with_arguments k got s n go) e
some_taken (v ∷ vs) m got s n go =
    let e : suc (length vs) + m ≡ length vs + suc m = omega arith in
    ap (λ k. with_arguments k got (onto vs (v ∷ s)) n go) e ∙ some_taken vs (suc m) got (v ∷ s) n go

-- so many arguments are taken off them again
pub all_taken : {A : Type 0} (k : ℕ) (vs s : List A) (n : ℕ) (go : List A → List A → Course) → length vs ≡ k
    → with_arguments k [] (onto vs s) n go ≡ go vs s
all_taken k vs s n go e =
    let f : k ≡ length vs + 0 = omega (arith, e) in
    ap (λ i. with_arguments i [] (onto vs s) n go) f ∙ some_taken vs 0 [] s n go ∙ ap (λ l. go l s) (append-nil vs)
