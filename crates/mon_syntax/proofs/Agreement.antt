-- Where one memory stands for another, the runs over the two agree.
use Rattle.std.proofs.Common.{◌≡◌, ℕ, zero, suc, ℤ, pos, List, [], ◌∷◌, ◌++◌, length, drop, Option, Some, None, Bool, true, false, ◌&&◌, if◌then◌else◌, slice_get, slice_set, bytes_eq, codes, refl, sym, ap, ◌∙◌, subst, append_assoc}
use Rattle.std.proofs.lemmas.List.{append-nil}
use Rattle.std.specs.Ordering.{int_eq}
use Rattle.std.specs.Fmt.{signed_decimal}
use Rattle.c_syntax.specs.declared.types.How.TheVariants as how
use Rattle.c_model.specs.Integers.{byte_of}
use Rattle.c_model.specs.State.{Input}
use Rattle.c_model.specs.MonitoredRuns.{Final, Exits, Broken, Fault, Spent, Full, ReadFault}
use Rattle.c_model.specs.Reports.{Extends, AgreesToFault}
use Rattle.mon_syntax.specs.declared.tree.MonType.{MonType}
use Rattle.mon_syntax.specs.declared.tree.MonOp.{MonOp}
use Rattle.mon_syntax.specs.Trees.{MonExpression, Register, Global, Constant, Binary, Minus, Flip, Cast, Load, MonStatement, Set, Store, Step, Assert, PutChar, GetChar, Exit}
use Rattle.mon_syntax.specs.Trees.{PrintText, PrintSigned, PrintUnsigned, PrintString, Act, Call, If, Loop, Labelled, Goto, Return, MonStatements, NoStatement, Then, MonRegister, MonFunction, MonitoredProgram}
use Rattle.mon_syntax.specs.Arithmetic.{is_pointer, wrap, operate, minus, flipped}
use Rattle.mon_syntax.specs.Memory.{Memory, Reply, Gives, IsFull, Faults}
use Rattle.mon_syntax.specs.Meaning.{State, Result, Done, Stops, Flow, Next, Goes, Returns, writes, then_do, at_next, at_label, ◌>>=◌, with_value, choose, step_from, given_to, got, with_read}
use Rattle.mon_syntax.specs.Meaning.{number_or_none, constant, zeros, zero_result, registers, on_numbers, replied, Calls, Does, turns, left_frame, at_return, exit_of, ran, function_named, eval, eval_all, eval_number, exec, exec_all, body_runs}
use Rattle.mon_syntax.specs.Meaning.{printed, level, run}
use Rattle.mon_syntax.specs.Following.{Kept, AllKept, Replied, Follows}
use Rattle.mon_syntax.specs.Strings.{GoesWith}

-- ---- what is written

abbrev output_of : {S A : Type 0} → Result S A → List ℕ
output_of (Done a s o) = o
output_of (Stops e n o) = o

output-writes : {S A : Type 0} (o : List ℕ) (x : Result S A) → output_of (writes o x) ≡ o ++ output_of x
output-writes o (Done a s p) = refl
output-writes o (Stops e n p) = refl

-- what a part wrote stands before what is written after it
extends-then : {S A B : Type 0} (x : Result S A) (go : A → S → Result S B) → Extends (output_of x) (output_of (then_do x go))
extends-then (Done a s o) go = record { rest = output_of (go a s); is = output-writes o (go a s) }
extends-then (Stops e n o) go = record { rest = []; is = sym (append-nil o) }

-- what a part does where another stops so: the same, or anything after the same output where the other faults
abbrev StopsAs : {S A : Type 0} → Final → ℕ → List ℕ → Result S A → Type 0
StopsAs (Exits z) n o r = r ≡ Stops (Exits z) n o
StopsAs (Broken number line kind how) n o r = r ≡ Stops (Broken number line kind how) n o
StopsAs Fault n o r = Extends o (output_of r)
StopsAs Spent n o r = r ≡ Stops Spent n o
StopsAs (Full g) n o r = r ≡ Stops (Full g) n o
StopsAs ReadFault n o r = r ≡ Stops ReadFault n o

extends-writes : {S A : Type 0} (o p : List ℕ) (y : Result S A) → Extends p (output_of y) → Extends (o ++ p) (output_of (writes o y))
extends-writes o p y h = record { rest = h.rest; is = output-writes o y ∙ ap (λ l. o ++ l) h.is ∙ sym (append_assoc o p h.rest) }

stops_as-writes : {S A : Type 0} (e : Final) (n : ℕ) (o p : List ℕ) (y : Result S A) → StopsAs e n p y → StopsAs e n (o ++ p) (writes o y)
stops_as-writes (Exits z) n o p y h = ap (writes o) h
stops_as-writes (Broken number line kind how) n o p y h = ap (writes o) h
stops_as-writes Fault n o p y h = extends-writes o p y h
stops_as-writes Spent n o p y h = ap (writes o) h
stops_as-writes (Full g) n o p y h = ap (writes o) h
stops_as-writes ReadFault n o p y h = ap (writes o) h

extends-more : {S A B : Type 0} (o : List ℕ) (y : Result S A) (go : A → S → Result S B) → Extends o (output_of y) → Extends o (output_of (then_do y go))
extends-more o y go h =
    let more = extends-then y go in
    record { rest = h.rest ++ more.rest; is = more.is ∙ ap (λ l. l ++ more.rest) h.is ∙ append_assoc o h.rest more.rest }

stops_as-then : {S A B : Type 0} (e : Final) (n : ℕ) (o : List ℕ) (y : Result S A) (go : A → S → Result S B) → StopsAs e n o y → StopsAs e n o (then_do y go)
stops_as-then (Exits z) n o y go h = ap (λ r. then_do r go) h
stops_as-then (Broken number line kind how) n o y go h = ap (λ r. then_do r go) h
stops_as-then Fault n o y go h = extends-more o y go h
stops_as-then Spent n o y go h = ap (λ r. then_do r go) h
stops_as-then (Full g) n o y go h = ap (λ r. then_do r go) h
stops_as-then ReadFault n o y go h = ap (λ r. then_do r go) h

-- ---- values and lists of values

kept_bind : {A B A' B' : Type 0} (P : A → B → Type 0) (Q : A' → B' → Type 0) (a : Option A) (b : Option B) (f : A → Option A') (g : B → Option B') → Kept P a b → ((x : A) (y : B) → P x y → Kept Q (f x) (g y)) → Kept Q (a >>= f) (b >>= g)
kept_bind P Q None b f g k go = tt
kept_bind P Q (Some a) None f g k go = absurd k
kept_bind P Q (Some a) (Some b) f g k go = go a b k

kept_get : {A B : Type 0} (P : A → B → Type 0) (xs : List A) (ys : List B) (i : ℕ) → AllKept P xs ys → Kept P (slice_get xs i) (slice_get ys i)
kept_get P [] [] i k = tt
kept_get P [] (y ∷ ys) i k = absurd k
kept_get P (x ∷ xs) [] i k = absurd k
kept_get P (x ∷ xs) (y ∷ ys) zero k = k.0
kept_get P (x ∷ xs) (y ∷ ys) (suc i) k = kept_get P xs ys i k.1

kept_set : {A B : Type 0} (P : A → B → Type 0) (xs : List A) (ys : List B) (i : ℕ) (a : A) (b : B) → AllKept P xs ys → P a b → AllKept P (slice_set xs i a) (slice_set ys i b)
kept_set P [] [] i a b k h = tt
kept_set P [] (y ∷ ys) i a b k h = absurd k
kept_set P (x ∷ xs) [] i a b k h = absurd k
kept_set P (x ∷ xs) (y ∷ ys) zero a b k h = (h, k.1)
kept_set P (x ∷ xs) (y ∷ ys) (suc i) a b k h = (k.0, kept_set P xs ys i a b k.1 h)

kept_given : {A B : Type 0} (P : A → B → Type 0) (r : Option ℕ) (xs : List A) (ys : List B) (a : A) (b : B) → AllKept P xs ys → P a b → AllKept P (given_to r a xs) (given_to r b ys)
kept_given P None xs ys a b k h = k
kept_given P (Some r) xs ys a b k h = kept_set P xs ys r a b k h

kept_map : {A B : Type 0} (P Q : A → B → Type 0) (xs : List A) (ys : List B) → ((a : A) (b : B) → P a b → Q a b) → AllKept P xs ys → AllKept Q xs ys
kept_map P Q [] [] h k = tt
kept_map P Q [] (y ∷ ys) h k = absurd k
kept_map P Q (x ∷ xs) [] h k = absurd k
kept_map P Q (x ∷ xs) (y ∷ ys) h k = (h x y k.0, kept_map P Q xs ys h k.1)

kept_drop : {A B : Type 0} (P : A → B → Type 0) (n : ℕ) (xs : List A) (ys : List B) → AllKept P xs ys → AllKept P (drop n xs) (drop n ys)
kept_drop P zero xs ys k = k
kept_drop P (suc n) [] [] k = k
kept_drop P (suc n) [] (y ∷ ys) k = absurd k
kept_drop P (suc n) (x ∷ xs) [] k = absurd k
kept_drop P (suc n) (x ∷ xs) (y ∷ ys) k = kept_drop P n xs ys k.1

kept_append : {A B : Type 0} (P : A → B → Type 0) (xs us : List A) (ys vs : List B) → AllKept P xs ys → AllKept P us vs → AllKept P (xs ++ us) (ys ++ vs)
kept_append P [] us [] vs k h = h
kept_append P [] us (y ∷ ys) vs k h = absurd k
kept_append P (x ∷ xs) us [] vs k h = absurd k
kept_append P (x ∷ xs) us (y ∷ ys) vs k h = (k.0, kept_append P xs us ys vs k.1 h)

kept_length : {A B : Type 0} (P : A → B → Type 0) (xs : List A) (ys : List B) → AllKept P xs ys → length xs ≡ length ys
kept_length P [] [] k = refl
kept_length P [] (y ∷ ys) k = absurd k
kept_length P (x ∷ xs) [] k = absurd k
kept_length P (x ∷ xs) (y ∷ ys) k = ap suc (kept_length P xs ys k.1)

-- both have a value, or neither
abbrev BothOrNone : {A B : Type 0} → (A → B → Type 0) → Option A → Option B → Type 0
BothOrNone Q None None = Unit {0}
BothOrNone Q None (Some b) = ⊥
BothOrNone Q (Some a) None = ⊥
BothOrNone Q (Some a) (Some b) = Q a b

-- over two memories, with the pointers to the starts of the globals in each
module _ (L F : Memory) (S : Follows L F) (gsL : List L.Val) (gsF : List F.Val) where
  abbrev Values : S.World → List L.Val → List F.Val → Type 0
  Values w = AllKept (S.Same w)

  values_later : (w u : S.World) (xs : List L.Val) (ys : List F.Val) → S.Later w u → Values w xs ys → Values u xs ys
  values_later w u xs ys le k = kept_map (S.Same w) (S.Same u) xs ys (λ a b. S.same_later w u a b le) k

  -- states that stand for one another, in a world that knows the globals
  abbrev Alike : S.World → State L.Mem → State F.Mem → Type 0
  Alike w s t = S.Holds w s.mem t.mem × (s.steps ≡ t.steps) × (s.input ≡ t.input) × Values w gsL gsF

  -- what two parts do
  abbrev Related : {A B : Type 0} → S.World → (S.World → A → B → Type 0) → Result (State L.Mem) A → Result (State F.Mem) B → Type 0
  Related w Q (Done a s o) (Done b t p) = (u : S.World) × S.Later w u × Alike u s t × Q u a b × (p ≡ o)
  Related w Q (Done a s o) (Stops e n p) = ⊥
  Related w Q (Stops e n o) r = StopsAs e n o r

  -- from a later world, and after some output
  related_later : {A B : Type 0} (w u : S.World) (Q : S.World → A → B → Type 0) (o : List ℕ) (x : Result (State L.Mem) A) (y : Result (State F.Mem) B) → S.Later w u → Related u Q x y → Related w Q (writes o x) (writes o y)
  related_later w u Q o (Done a s p) (Done b t q) le r = (r.0, S.later_trans w u r.0 le r.1, r.2, r.3, ap (λ l. o ++ l) r.4)
  related_later w u Q o (Done a s p) (Stops e n q) le r = r
  related_later w u Q o (Stops e n p) y le r = stops_as-writes e n o p y r

  related_then : {A B A' B' : Type 0} (w : S.World) (Q : S.World → A → B → Type 0) (Q' : S.World → A' → B' → Type 0) (x : Result (State L.Mem) A) (y : Result (State F.Mem) B) (f : A → State L.Mem → Result (State L.Mem) A') (g : B → State F.Mem
      → Result (State F.Mem) B') → Related w Q x y → ((u : S.World) (a : A) (b : B) (s : State L.Mem) (t : State F.Mem) → S.Later w u → Alike u s t → Q u a b → Related u Q' (f a s) (g b t)) → Related w Q' (then_do x f) (then_do y g)
  related_then w Q Q' (Done a s o) (Done b t p) f g r go =
      let k = related_later w r.0 Q' o (f a s) (g b t) r.1 (go r.0 a b s t r.1 r.2 r.3) in
      subst (λ l. Related w Q' (writes o (f a s)) (writes l (g b t))) (sym r.4) k
  related_then w Q Q' (Done a s o) (Stops e n p) f g r go = absurd r
  related_then w Q Q' (Stops e n o) y f g r go = stops_as-then e n o y g r

  related_done : {A B : Type 0} (w : S.World) (Q : S.World → A → B → Type 0) (a : A) (b : B) (s : State L.Mem) (t : State F.Mem) (o : List ℕ) → Alike w s t → Q w a b → Related w Q (Done a s o) (Done b t o)
  related_done w Q a b s t o k h = (w, S.later_refl w, k, h, refl)

  related_value : {A B A' B' : Type 0} (w : S.World) (P : A → B → Type 0) (Q : S.World → A' → B' → Type 0) (a : Option A) (b : Option B) (m n : ℕ) (f : A → Result (State L.Mem) A') (g : B → Result (State F.Mem) B') → Kept P a b
      → ((x : A) (y : B) → P x y → Related w Q (f x) (g y)) → Related w Q (with_value a m f) (with_value b n g)
  related_value w P Q None b m n f g k go = record { rest = output_of (with_value b n g); is = refl }
  related_value w P Q (Some a) None m n f g k go = absurd k
  related_value w P Q (Some a) (Some b) m n f g k go = go a b k

  -- ---- expressions

  kept_number : (w : S.World) (o : Option ℤ) → Kept (S.Same w) (number_or_none L o) (number_or_none F o)
  kept_number w None = tt
  kept_number w (Some z) = S.number w z

  -- an operation on the number of a value
  kept_operation : (w : S.World) (f : ℤ → ℤ) (a : Option L.Val) (b : Option F.Val) → Kept (S.Same w) a b → Kept (S.Same w) (a >>= λ x. L.number_of x >>= λ i. Some (L.number (f i))) (b >>= λ x. F.number_of x >>= λ i. Some (F.number (f i)))
  kept_operation w f a b k =
      kept_bind (S.Same w) (S.Same w) a b _ _ k (λ x y kx.
      kept_bind (λ i j. i ≡ j) (S.Same w) (L.number_of x) (F.number_of y) _ _ (S.number_of w x y kx) (λ i j e.
      subst (λ z. S.Same w (L.number (f i)) (F.number (f z))) e (S.number w (f i))))

  kept_constant : (w : S.World) (t : MonType) (z : ℤ) → S.Same w (constant L t z) (constant F t z)
  kept_constant w t z = by (is_pointer t && int_eq z (pos 0))
    where
      by : (b : Bool) → S.Same w (if b then L.null else L.number z) (if b then F.null else F.number z)
      by true = S.null w
      by false = S.number w z

  kept_zeros : (w : S.World) (rs : List MonRegister) → Values w (zeros L rs) (zeros F rs)
  kept_zeros w [] = tt
  kept_zeros w (r ∷ rs) = (kept_constant w r.kind (pos 0), kept_zeros w rs)

  kept_zero_result : (w : S.World) (t : Option MonType) → S.Same w (zero_result L t) (zero_result F t)
  kept_zero_result w None = S.number w (pos 0)
  kept_zero_result w (Some t) = kept_constant w t (pos 0)

  kept_registers : (w : S.World) (rs : List MonRegister) (xs : List L.Val) (ys : List F.Val) → Values w xs ys → Values w (registers L rs xs) (registers F rs ys)
  kept_registers w rs xs ys k =
      let rest = kept_drop (S.Same w) (length xs) (zeros L rs) (zeros F rs) (kept_zeros w rs) in
      kept_append (S.Same w) xs _ ys _ k (subst (λ i. Values w (drop (length xs) (zeros L rs)) (drop i (zeros F rs))) (kept_length (S.Same w) xs ys k) rest)

  kept_on_numbers : (w : S.World) (op : MonOp) (t : MonType) (x y : L.Val) (x' y' : F.Val) → S.Same w x x' → S.Same w y y' → Kept (S.Same w) (on_numbers L op t x y) (on_numbers F op t x' y')
  kept_on_numbers w op t x y x' y' kx ky =
      kept_bind (λ i j. i ≡ j) (S.Same w) (L.number_of x) (F.number_of x') _ _ (S.number_of w x x' kx) (λ i i' ei.
      kept_bind (λ i j. i ≡ j) (S.Same w) (L.number_of y) (F.number_of y') _ _ (S.number_of w y y' ky) (λ j j' ej.
      subst (λ o. Kept (S.Same w) (number_or_none L (operate op t i j)) (number_or_none F o)) (ap (λ z. operate op t z j) ei ∙ ap (λ z. operate op t i' z) ej) (kept_number w (operate op t i j))))

  kept_if : (w : S.World) (b : Bool) (x x' : Option L.Val) (y y' : Option F.Val) → Kept (S.Same w) x y → Kept (S.Same w) x' y' → Kept (S.Same w) (if b then x else x') (if b then y else y')
  kept_if w true x x' y y' k k' = k
  kept_if w false x x' y y' k k' = k'

  kept_binary : (w : S.World) (op : MonOp) (t : MonType) (x y : L.Val) (x' y' : F.Val) (m : L.Mem) (n : F.Mem) → S.Holds w m n → S.Same w x x' → S.Same w y y'
      → Kept (S.Same w) (if is_pointer t then L.pointed op x y m else on_numbers L op t x y) (if is_pointer t then F.pointed op x' y' n else on_numbers F op t x' y')
  kept_binary w op t x y x' y' m n h kx ky =
      kept_if w (is_pointer t) _ _ _ _ (S.pointed w op x y x' y' m n kx ky h) (kept_on_numbers w op t x y x' y' kx ky)

  kept_eval : (e : MonExpression) (w : S.World) (xs : List L.Val) (ys : List F.Val) (s : State L.Mem) (t : State F.Mem) → Values w xs ys → Alike w s t → Kept (S.Same w) (eval L gsL e xs s.mem) (eval F gsF e ys t.mem)
  kept_eval (Register r) w xs ys s t k l = kept_get (S.Same w) xs ys r k
  kept_eval (Global g) w xs ys s t k l = kept_get (S.Same w) gsL gsF g l.3
  kept_eval (Constant k z) w xs ys s t q l = kept_constant w k z
  kept_eval (Binary op k a b) w xs ys s t q l =
      kept_bind (S.Same w) (S.Same w) (eval L gsL a xs s.mem) (eval F gsF a ys t.mem) _ _ (kept_eval a w xs ys s t q l) (λ x x' kx.
      kept_bind (S.Same w) (S.Same w) (eval L gsL b xs s.mem) (eval F gsF b ys t.mem) _ _ (kept_eval b w xs ys s t q l) (λ y y' ky.
      kept_binary w op k x y x' y' s.mem t.mem l.0 kx ky))
  kept_eval (Minus k a) w xs ys s t q l = kept_operation w (minus k) (eval L gsL a xs s.mem) (eval F gsF a ys t.mem) (kept_eval a w xs ys s t q l)
  kept_eval (Flip k a) w xs ys s t q l = kept_operation w (flipped k) (eval L gsL a xs s.mem) (eval F gsF a ys t.mem) (kept_eval a w xs ys s t q l)
  kept_eval (Cast k a) w xs ys s t q l = kept_operation w (wrap k) (eval L gsL a xs s.mem) (eval F gsF a ys t.mem) (kept_eval a w xs ys s t q l)
  kept_eval (Load k a) w xs ys s t q l =
      kept_bind (S.Same w) (S.Same w) (eval L gsL a xs s.mem) (eval F gsF a ys t.mem) _ _ (kept_eval a w xs ys s t q l) (λ x x' kx. S.load w k x x' s.mem t.mem kx l.0)

  kept_eval_number : (e : MonExpression) (w : S.World) (xs : List L.Val) (ys : List F.Val) (s : State L.Mem) (t : State F.Mem) → Values w xs ys → Alike w s t
      → Kept (λ i j. i ≡ j) (eval_number L gsL e xs s.mem) (eval_number F gsF e ys t.mem)
  kept_eval_number e w xs ys s t k l =
      kept_bind (S.Same w) (λ i j. i ≡ j) (eval L gsL e xs s.mem) (eval F gsF e ys t.mem) L.number_of F.number_of (kept_eval e w xs ys s t k l) (λ x y kx. S.number_of w x y kx)

  kept_eval_all : (es : List MonExpression) (w : S.World) (xs : List L.Val) (ys : List F.Val) (s : State L.Mem) (t : State F.Mem) → Values w xs ys → Alike w s t
      → Kept (Values w) (eval_all L gsL es xs s.mem) (eval_all F gsF es ys t.mem)
  kept_eval_all [] w xs ys s t k l = tt
  kept_eval_all (e ∷ es) w xs ys s t k l =
      kept_bind (S.Same w) (Values w) (eval L gsL e xs s.mem) (eval F gsF e ys t.mem) _ _ (kept_eval e w xs ys s t k l) (λ x y kx.
      kept_bind (Values w) (Values w) (eval_all L gsL es xs s.mem) (eval_all F gsF es ys t.mem) _ _ (kept_eval_all es w xs ys s t k l) (λ us vs ks. (kx, ks)))

  -- ---- parts of statements

  abbrev SameFlow : S.World → Flow L.Val → Flow F.Val → Type 0
  SameFlow w (Next r) (Next q) = Values w r q
  SameFlow w (Next r) (Goes k q) = ⊥
  SameFlow w (Next r) (Returns x) = ⊥
  SameFlow w (Goes l r) (Next q) = ⊥
  SameFlow w (Goes l r) (Goes k q) = (l ≡ k) × Values w r q
  SameFlow w (Goes l r) (Returns x) = ⊥
  SameFlow w (Returns v) (Next q) = ⊥
  SameFlow w (Returns v) (Goes k q) = ⊥
  SameFlow w (Returns v) (Returns x) = BothOrNone (S.Same w) v x

  -- what two calls do, and what two statements do
  abbrev CallsAlike : Calls L → Calls F → Type 0
  CallsAlike c d = (f : ℕ) (w : S.World) (xs : List L.Val) (ys : List F.Val) (s : State L.Mem) (t : State F.Mem) → Values w xs ys → Alike w s t → Related w S.Same (c f xs s) (d f ys t)

  abbrev DoAlike : Does L → Does F → Type 0
  DoAlike f g = (w : S.World) (xs : List L.Val) (ys : List F.Val) (s : State L.Mem) (t : State F.Mem) → Values w xs ys → Alike w s t → Related w SameFlow (f xs s) (g ys t)

  replied_alike : (w : S.World) (x : Reply L.Mem L.Val) (y : Reply F.Mem F.Val) (s : State L.Mem) (t : State F.Mem) → Alike w s t → Replied S.World S.Later S.Same S.Holds w x y → Related w S.Same (replied L x s) (replied F y t)
  replied_alike w (Gives v m) (Gives x n) s t l k = (k.0, k.1, (k.3, l.1, l.2, values_later w k.0 gsL gsF k.1 l.3), k.2, refl)
  replied_alike w (Gives v m) (IsFull g) s t l k = absurd k
  replied_alike w (Gives v m) Faults s t l k = absurd k
  replied_alike w (IsFull g) (Gives x n) s t l k = absurd k
  replied_alike w (IsFull g) (IsFull h) s t l k = ap (λ z. Stops (Full z) t.steps []) (sym k) ∙ ap (λ z. Stops (Full g) z []) (sym l.1)
  replied_alike w (IsFull g) Faults s t l k = absurd k
  replied_alike w Faults y s t l k = record { rest = output_of (replied F y t); is = refl }

  next_alike : (f : Does L) (g : Does F) → DoAlike f g → (w : S.World) (a : Flow L.Val) (b : Flow F.Val) (s : State L.Mem) (t : State F.Mem) → Alike w s t → SameFlow w a b → Related w SameFlow (at_next f a s) (at_next g b t)
  next_alike f g h w (Next r) (Next q) s t k e = h w r q s t e k
  next_alike f g h w (Next r) (Goes l q) s t k e = absurd e
  next_alike f g h w (Next r) (Returns x) s t k e = absurd e
  next_alike f g h w (Goes l r) (Next q) s t k e = absurd e
  next_alike f g h w (Goes l r) (Goes l' q) s t k e = related_done w SameFlow (Goes l r) (Goes l' q) s t [] k e
  next_alike f g h w (Goes l r) (Returns x) s t k e = absurd e
  next_alike f g h w (Returns v) (Next q) s t k e = absurd e
  next_alike f g h w (Returns v) (Goes l q) s t k e = absurd e
  next_alike f g h w (Returns v) (Returns x) s t k e = related_done w SameFlow (Returns v) (Returns x) s t [] k e

  label_choice : (w : S.World) (l : List ℕ) (b : Bool) (r : List L.Val) (q : List F.Val) (s : State L.Mem) (t : State F.Mem) → Alike w s t → Values w r q
      → Related w SameFlow (if b then Done (Next r) s [] else Done (Goes l r) s []) (if b then Done (Next q) t [] else Done (Goes l q) t [])
  label_choice w l true r q s t k e = related_done w SameFlow (Next r) (Next q) s t [] k e
  label_choice w l false r q s t k e = related_done w SameFlow (Goes l r) (Goes l q) s t [] k (refl, e)

  label_alike : (l : List ℕ) (w : S.World) (a : Flow L.Val) (b : Flow F.Val) (s : State L.Mem) (t : State F.Mem) → Alike w s t → SameFlow w a b → Related w SameFlow (at_label l a s) (at_label l b t)
  label_alike l w (Next r) (Next q) s t k e = related_done w SameFlow (Next r) (Next q) s t [] k e
  label_alike l w (Next r) (Goes i q) s t k e = absurd e
  label_alike l w (Next r) (Returns x) s t k e = absurd e
  label_alike l w (Goes i r) (Next q) s t k e = absurd e
  label_alike l w (Goes i r) (Goes j q) s t k e =
      subst (λ z. Related w SameFlow (at_label l (Goes i r) s) (at_label l (Goes z q) t)) e.0 (label_choice w i (bytes_eq l i) r q s t k e.1)
  label_alike l w (Goes i r) (Returns x) s t k e = absurd e
  label_alike l w (Returns v) (Next q) s t k e = absurd e
  label_alike l w (Returns v) (Goes i q) s t k e = absurd e
  label_alike l w (Returns v) (Returns x) s t k e = related_done w SameFlow (Returns v) (Returns x) s t [] k e

  choose_alike : {A B : Type 0} (w : S.World) (Q : S.World → A → B → Type 0) (i j : ℤ) (x x' : Result (State L.Mem) A) (y y' : Result (State F.Mem) B) → i ≡ j → Related w Q x y → Related w Q x' y' → Related w Q (choose i x x') (choose j y y')
  choose_alike w Q i j x x' y y' e h h' = subst (λ z. Related w Q (choose i x x') (choose z y y')) e (by (int_eq i (pos 0)))
    where
      by : (z : Bool) → Related w Q (if z then x' else x) (if z then y' else y)
      by true = h'
      by false = h

  step_alike : {A B : Type 0} (w : S.World) (Q : S.World → A → B → Type 0) (m n : ℕ) (f : ℕ → Result (State L.Mem) A) (g : ℕ → Result (State F.Mem) B) → m ≡ n → ((k : ℕ) → Related w Q (f k) (g k)) → Related w Q (step_from m f) (step_from n g)
  step_alike w Q m n f g e h = subst (λ z. Related w Q (step_from m f) (step_from z g)) e (at m)
    where
      at : (z : ℕ) → Related w Q (step_from z f) (step_from z g)
      at zero = refl
      at (suc z) = h z

  read_alike : {A B : Type 0} (w : S.World) (Q : S.World → A → B → Type 0) (i j : Input) (m n : ℕ) (f : ℤ → Input → Result (State L.Mem) A) (g : ℤ → Input → Result (State F.Mem) B)
      → i ≡ j → m ≡ n → ((z : ℤ) (r : Input) → Related w Q (f z r) (g z r))
      → Related w Q (with_read (got i.bytes i.tail) m f) (with_read (got j.bytes j.tail) n g)
  read_alike w Q i j m n f g e d h =
      subst (λ k. Related w Q (with_read (got i.bytes i.tail) m f) (with_read (got k.bytes k.tail) n g)) e (by (got i.bytes i.tail))
    where
      by : (o : Option (ℤ × Input)) → Related w Q (with_read o m f) (with_read o n g)
      by None = ap (λ k. Stops ReadFault k []) (sym d)
      by (Some (z, r)) = h z r

  -- the value of a call goes to a register, in the world after the call
  value_alike : (x : Option ℕ) (w : S.World) (xs : List L.Val) (ys : List F.Val) (r : Result (State L.Mem) L.Val) (q : Result (State F.Mem) F.Val)
      → Values w xs ys → Related w S.Same r q
      → Related w SameFlow (then_do r (λ v s. Done (Next (given_to x v xs)) s [])) (then_do q (λ v s. Done (Next (given_to x v ys)) s []))
  value_alike x w xs ys r q k h =
      related_then w S.Same SameFlow r q _ _ h (λ u v z s t le e same.
      related_done u SameFlow (Next (given_to x v xs)) (Next (given_to x z ys)) s t [] e
      (kept_given (S.Same u) x xs ys v z (values_later w u xs ys le k) same))

  turns_alike : (n : ℕ) (f g : Does L) (f' g' : Does F) → DoAlike f f' → DoAlike g g' → DoAlike (turns L n f g) (turns F n f' g')
  turns_alike zero f g f' g' hf hg w xs ys s t k e =
      related_then w SameFlow SameFlow (f xs s) (f' ys t) _ _ (hf w xs ys s t k e) (λ u a b s1 t1 le e1 q.
      next_alike (λ r s. Stops Spent 0 []) (λ r s. Stops Spent 0 []) (λ w xs ys s t k e. refl) u a b s1 t1 e1 q)
  turns_alike (suc n) f g f' g' hf hg w xs ys s t k e =
      related_then w SameFlow SameFlow (f xs s) (f' ys t) _ _ (hf w xs ys s t k e) (λ u a b s1 t1 le e1 q.
      next_alike _ _ (λ w2 xs2 ys2 s2 t2 k2 e2.
      step_alike w2 SameFlow s2.steps t2.steps _ _ e2.1 (λ i.
      related_then w2 SameFlow SameFlow (g xs2 (record s2 { steps = i })) (g' ys2 (record t2 { steps = i })) _ _ (hg w2 xs2 ys2 (record s2 { steps = i }) (record t2 { steps = i }) k2 (e2.0, refl, e2.2, e2.3)) (λ u3 a3 b3 s3 t3 le3 e3 q3.
      next_alike (turns L n f g) (turns F n f' g') (turns_alike n f g f' g' hf hg) u3 a3 b3 s3 t3 e3 q3))) u a b s1 t1 e1 q)

  -- ---- statements

  -- the same bytes are written, and control goes on
  wrote_alike : (f : ℤ → List ℕ) (w : S.World) (i j : ℤ) (xs : List L.Val) (ys : List F.Val) (s : State L.Mem) (t : State F.Mem) → i ≡ j → Values w xs ys → Alike w s t → Related w SameFlow (Done (Next xs) s (f i)) (Done (Next ys) t (f j))
  wrote_alike f w i j xs ys s t e k l = (w, S.later_refl w, l, k, ap f (sym e))

  output-printed : (string : List ℕ × Bool) (ys : List F.Val) (t : State F.Mem) → output_of (printed F string ys t) ≡ string.0
  output-printed string ys t = by string.1
    where
      by : (b : Bool) → output_of (if b then Done (Next ys) t string.0 else Stops Fault t.steps string.0) ≡ string.0
      by true = refl
      by false = refl

  -- the bytes of a string are written; where it breaks off over the first memory more may follow over the second
  printed_alike : (w : S.World) (u v : List ℕ × Bool) (xs : List L.Val) (ys : List F.Val) (s : State L.Mem) (t : State F.Mem) → GoesWith u.1 u.0 v → Values w xs ys → Alike w s t
      → Related w SameFlow (printed L u xs s) (printed F v ys t)
  printed_alike w u v xs ys s t g k l = by u.1 g
    where
      by : (b : Bool) → GoesWith b u.0 v → Related w SameFlow (if b then Done (Next xs) s u.0 else Stops Fault s.steps u.0) (printed F v ys t)
      by true e = subst (λ z. Related w SameFlow (Done (Next xs) s u.0) (printed F z ys t)) (sym e) (related_done w SameFlow (Next xs) (Next ys) s t u.0 l k)
      by false e = subst (Extends u.0) (sym (output-printed v ys t)) e

  mutual
    exec_alike : (a : MonStatement) (c : Calls L) (d : Calls F) (n : ℕ) → CallsAlike c d → DoAlike (exec L gsL a c n) (exec F gsF a d n)
    exec_alike (Set x e) c d n h w xs ys s t k l =
        related_value w (S.Same w) SameFlow _ _ s.steps t.steps _ _ (kept_eval e w xs ys s t k l) (λ v z q.
        related_done w SameFlow (Next (slice_set xs x v)) (Next (slice_set ys x z)) s t [] l (kept_set (S.Same w) xs ys x v z k q))
    exec_alike (Store x i e) c d n h w xs ys s t k l =
        related_value w (S.Same w) SameFlow _ _ s.steps t.steps _ _ (kept_get (S.Same w) xs ys x k) (λ p q kp.
        related_value w (S.Same w) SameFlow _ _ s.steps t.steps _ _ (kept_eval e w xs ys s t k l) (λ v z kv.
        related_value w (S.Holds w) SameFlow _ _ s.steps t.steps _ _ (S.store w i p v q z s.mem t.mem kp kv l.0) (λ m m' km.
        related_done w SameFlow (Next xs) (Next ys) (record s { mem = m }) (record t { mem = m' }) [] (km, l.1, l.2, l.3) k)))
    exec_alike Step c d n h w xs ys s t k l =
        step_alike w SameFlow s.steps t.steps _ _ l.1 (λ i. related_done w SameFlow (Next xs) (Next ys) (record s { steps = i }) (record t { steps = i }) [] (l.0, refl, l.2, l.3) k)
    exec_alike (Assert e1 e2 number line kind) c d n h w xs ys s t k l =
        related_value w (λ i j. i ≡ j) SameFlow _ _ s.steps t.steps _ _ (kept_eval_number e1 w xs ys s t k l) (λ i j q.
        related_value w (λ i j. i ≡ j) SameFlow _ _ s.steps t.steps _ _ (kept_eval_number e2 w xs ys s t k l) (λ i' j' q'.
        choose_alike w SameFlow i j _ _ _ _ q (choose_alike w SameFlow i' j' _ _ _ _ q' (related_done w SameFlow (Next xs) (Next ys) s t [] l k) (ap (λ z. Stops (Broken number line kind how.False) z []) (sym l.1)))
        (ap (λ z. Stops (Broken number line kind how.Undefined) z []) (sym l.1))))
    exec_alike (PutChar r e) c d n h w xs ys s t k l =
        related_value w (λ i j. i ≡ j) SameFlow _ _ s.steps t.steps _ _ (kept_eval_number e w xs ys s t k l) (λ i j q.
        (w, S.later_refl w, l, kept_given (S.Same w) r xs ys _ _ k (subst (λ z. S.Same w (L.number (pos (byte_of i))) (F.number (pos (byte_of z)))) q (S.number w (pos (byte_of i)))), ap (λ z. byte_of z ∷ []) (sym q)))
    exec_alike (GetChar x) c d n h w xs ys s t k l =
        read_alike w SameFlow s.input t.input s.steps t.steps _ _ l.2 l.1 (λ z r.
        related_done w SameFlow (Next (given_to x (L.number z) xs)) (Next (given_to x (F.number z) ys)) (record s { input = r }) (record t { input = r }) []
        (l.0, l.1, refl, l.3) (kept_given (S.Same w) x xs ys _ _ k (S.number w z)))
    exec_alike (Exit e) c d n h w xs ys s t k l =
        related_value w (λ i j. i ≡ j) SameFlow _ _ s.steps t.steps _ _ (kept_eval_number e w xs ys s t k l) (λ i j q.
        ap (λ z. Stops (Exits z) t.steps []) (sym q) ∙ ap (λ z. Stops (Exits i) z []) (sym l.1))
    exec_alike (PrintText bytes) c d n h w xs ys s t k l = related_done w SameFlow (Next xs) (Next ys) s t bytes l k
    exec_alike (PrintSigned e) c d n h w xs ys s t k l =
        related_value w (λ i j. i ≡ j) SameFlow _ _ s.steps t.steps _ _ (kept_eval_number e w xs ys s t k l) (λ i j q. wrote_alike signed_decimal w i j xs ys s t q k l)
    exec_alike (PrintUnsigned e) c d n h w xs ys s t k l =
        related_value w (λ i j. i ≡ j) SameFlow _ _ s.steps t.steps _ _ (kept_eval_number e w xs ys s t k l) (λ i j q. wrote_alike signed_decimal w i j xs ys s t q k l)
    exec_alike (PrintString e) c d n h w xs ys s t k l =
        related_value w (S.Same w) SameFlow _ _ s.steps t.steps _ _ (kept_eval e w xs ys s t k l) (λ p q same.
        printed_alike w (L.string p s.mem) (F.string q t.mem) xs ys s t (S.string w p q s.mem t.mem same l.0) k l)
    exec_alike (Act x f args) c d n h w xs ys s t k l =
        related_value w (Values w) SameFlow _ _ s.steps t.steps _ _ (kept_eval_all args w xs ys s t k l) (λ us vs q.
        value_alike x w xs ys _ _ k (replied_alike w _ _ s t l (S.act w f us vs s.mem t.mem q l.0)))
    exec_alike (Call x f args) c d n h w xs ys s t k l =
        related_value w (Values w) SameFlow _ _ s.steps t.steps _ _ (kept_eval_all args w xs ys s t k l)
        (λ us vs q. value_alike x w xs ys _ _ k (h f w us vs s t q l))
    exec_alike (If e a b) c d n h w xs ys s t k l =
        related_value w (λ i j. i ≡ j) SameFlow _ _ s.steps t.steps _ _ (kept_eval_number e w xs ys s t k l) (λ i j r.
        choose_alike w SameFlow i j _ _ _ _ r (exec_all_alike a c d n h w xs ys s t k l) (exec_all_alike b c d n h w xs ys s t k l))
    exec_alike (Loop a b) c d n h w xs ys s t k l =
        turns_alike n (exec_all L gsL a c n) (exec_all L gsL b c n) (exec_all F gsF a d n) (exec_all F gsF b d n) (exec_all_alike a c d n h) (exec_all_alike b c d n h) w xs ys s t k l
    exec_alike (Labelled a i) c d n h w xs ys s t k l =
        related_then w SameFlow SameFlow _ _ _ _ (exec_all_alike a c d n h w xs ys s t k l) (λ u x y s1 t1 le e r. label_alike i u x y s1 t1 e r)
    exec_alike (Goto i) c d n h w xs ys s t k l = related_done w SameFlow (Goes i xs) (Goes i ys) s t [] l (refl, k)
    exec_alike (Return None) c d n h w xs ys s t k l = related_done w SameFlow (Returns None) (Returns None) s t [] l tt
    exec_alike (Return (Some e)) c d n h w xs ys s t k l =
        related_value w (S.Same w) SameFlow _ _ s.steps t.steps _ _ (kept_eval e w xs ys s t k l) (λ v z q. related_done w SameFlow (Returns (Some v)) (Returns (Some z)) s t [] l q)

    exec_all_alike : (a : MonStatements) (c : Calls L) (d : Calls F) (n : ℕ) → CallsAlike c d → DoAlike (exec_all L gsL a c n) (exec_all F gsF a d n)
    exec_all_alike NoStatement c d n h w xs ys s t k l = related_done w SameFlow (Next xs) (Next ys) s t [] l k
    exec_all_alike (Then a rest) c d n h w xs ys s t k l =
        related_then w SameFlow SameFlow _ _ _ _ (exec_alike a c d n h w xs ys s t k l) (λ u x y s1 t1 le e r.
        next_alike (exec_all L gsL rest c n) (exec_all F gsF rest d n) (exec_all_alike rest c d n h) u x y s1 t1 e r)

  -- ---- programs

  left_alike : (w : S.World) (s : State L.Mem) (t : State F.Mem) → Alike w s t → Alike w (left_frame L s) (left_frame F t)
  left_alike w s t k = (S.leave w s.mem t.mem k.0, k.1, k.2, k.3)

  return_alike : (w : S.World) (x : L.Val) (y : F.Val) (a : Flow L.Val) (b : Flow F.Val) (s : State L.Mem) (t : State F.Mem) → S.Same w x y → Alike w s t → SameFlow w a b
      → Related w S.Same (at_return L x a s) (at_return F y b t)
  return_alike w x y (Next r) (Next q) s t h k e = (w, S.later_refl w, left_alike w s t k, h, refl)
  return_alike w x y (Next r) (Goes l q) s t h k e = absurd e
  return_alike w x y (Next r) (Returns z) s t h k e = absurd e
  return_alike w x y (Goes l r) (Next q) s t h k e = absurd e
  return_alike w x y (Goes l r) (Goes l' q) s t h k e = record { rest = []; is = refl }
  return_alike w x y (Goes l r) (Returns z) s t h k e = absurd e
  return_alike w x y (Returns v) (Next q) s t h k e = absurd e
  return_alike w x y (Returns v) (Goes l q) s t h k e = absurd e
  return_alike w x y (Returns None) (Returns None) s t h k e = (w, S.later_refl w, left_alike w s t k, h, refl)
  return_alike w x y (Returns None) (Returns (Some z)) s t h k e = absurd e
  return_alike w x y (Returns (Some v)) (Returns None) s t h k e = absurd e
  return_alike w x y (Returns (Some v)) (Returns (Some z)) s t h k e = (w, S.later_refl w, left_alike w s t k, e, refl)

  body_alike : (o : Option MonFunction) (c : Calls L) (d : Calls F) (n : ℕ) → CallsAlike c d → (w : S.World) (xs : List L.Val) (ys : List F.Val) (s : State L.Mem) (t : State F.Mem) → Values w xs ys → Alike w s t
      → Related w S.Same (body_runs L gsL o c n xs s) (body_runs F gsF o d n ys t)
  body_alike None c d n h w xs ys s t k l = record { rest = []; is = refl }
  body_alike (Some f) c d n h w xs ys s t k l =
      let rs = f.parameters ++ f.registers in
      related_then w S.Same S.Same _ _ _ _ (replied_alike w _ _ s t l (S.enter w s.mem t.mem l.0)) (λ u v z s1 t1 le e r.
      related_then u SameFlow S.Same _ _ (at_return L (zero_result L f.result)) (at_return F (zero_result F f.result))
      (exec_all_alike f.body c d n h u (registers L rs xs) (registers F rs ys) s1 t1 (kept_registers u rs xs ys (values_later w u xs ys le k)) e)
      (λ u2 a b s2 t2 le2 e2 r2. return_alike u2 _ _ a b s2 t2 (kept_zero_result u2 f.result) e2 r2))

  level_alike : (fs : List MonFunction) (n : ℕ) → CallsAlike (level L gsL fs n) (level F gsF fs n)
  level_alike fs zero f w xs ys s t k l = refl
  level_alike fs (suc n) f w xs ys s t k l =
      step_alike w S.Same s.steps t.steps _ _ l.1 (λ i. body_alike (slice_get fs f) (level L gsL fs n) (level F gsF fs n) n (level_alike fs n) w xs ys (record s { steps = i }) (record t { steps = i }) k (l.0, refl, l.2, l.3))

  output-ran : (M : Memory) (y : Result (State M.Mem) M.Val) → (ran M y).output ≡ output_of y
  output-ran M (Done v s o) = by (M.number_of v)
    where
      by : (z : Option ℤ) → (exit_of M z s.steps o).output ≡ o
      by None = refl
      by (Some z) = refl
  output-ran M (Stops e n o) = refl

  extends_ran : (o : List ℕ) (y : Result (State F.Mem) F.Val) → Extends o (output_of y) → Extends o (ran F y).output
  extends_ran o y h = subst (Extends o) (sym (output-ran F y)) h

  exits_agree : (i : Option ℤ) (j : Option ℤ) (m n : ℕ) (o p : List ℕ) → Kept (λ x y. x ≡ y) i j → m ≡ n → p ≡ o → AgreesToFault (exit_of L i m o) (exit_of F j n p)
  exits_agree None None m n o p k e q = record { rest = []; is = q ∙ sym (append-nil o) }
  exits_agree None (Some j) m n o p k e q = record { rest = []; is = q ∙ sym (append-nil o) }
  exits_agree (Some i) None m n o p k e q = absurd k
  exits_agree (Some i) (Some j) m n o p k e q =
      ap (λ z. record { final = Exits z; output = p; left = n }) (sym k) ∙ ap (λ z. record { final = Exits i; output = z; left = n }) q ∙ ap (λ z. record { final = Exits i; output = o; left = z }) (sym e)

  ran_agrees : (w : S.World) (x : Result (State L.Mem) L.Val) (y : Result (State F.Mem) F.Val) → Related w S.Same x y → AgreesToFault (ran L x) (ran F y)
  ran_agrees w (Done v s o) (Done z t p) k = exits_agree (L.number_of v) (F.number_of z) s.steps t.steps o p (S.number_of k.0 v z k.3) k.2.1 k.4
  ran_agrees w (Done v s o) (Stops e n p) k = absurd k
  ran_agrees w (Stops (Exits i) n o) y k = ap (ran F) k
  ran_agrees w (Stops (Broken number line kind how) n o) y k = ap (ran F) k
  ran_agrees w (Stops Fault n o) y k = extends_ran o y k
  ran_agrees w (Stops Spent n o) y k = ap (ran F) k
  ran_agrees w (Stops (Full g) n o) y k = ap (ran F) k
  ran_agrees w (Stops ReadFault n o) y k = ap (ran F) k

-- runs from two memories of which the second stands for the first agree, where the pointers to the globals do
pub runs_agree : (L F : Memory) (S : Follows L F) (p : MonitoredProgram) (w : S.World) (m : L.Mem) (n : F.Mem) (input : Input) (steps : ℕ)
    → AllKept (S.Same w) (L.starts p.globals) (F.starts p.globals) → S.Holds w m n → AgreesToFault (run L p m input steps) (run F p n input steps)
runs_agree L F S p w m n input steps k h =
    let gsL = L.starts p.globals in
    let gsF = F.starts p.globals in
    let s : State L.Mem = record { mem = m; steps = steps; input = input } in
    let t : State F.Mem = record { mem = n; steps = steps; input = input } in
    let main = function_named (codes "main") p.functions in
    let c = level L gsL p.functions steps in
    let d = level F gsF p.functions steps in
    let calls = level_alike L F S gsL gsF p.functions steps in
    ran_agrees L F S gsL gsF w _ _ (body_alike L F S gsL gsF main c d steps calls w [] [] s t tt (h, refl, refl, k))
