-- What parts of a monitored program write, and parts one after the other.
use Rattle.std.proofs.Common.{◌≡◌, ℕ, List, [], ◌++◌, refl, sym, ap, ◌∙◌, append_assoc}
use Rattle.std.proofs.lemmas.List.{append-nil}
use Rattle.c_model.specs.Reports.{Extends}
use Rattle.mon_syntax.specs.Meaning.{Result, Done, Stops, Flow, Next, Goes, Returns, writes, then_do, at_next}
use Rattle.mon_syntax.specs.Meaning as monitored
use Rattle.mon_syntax.specs.BlockMemory.{over_blocks}
use Rattle.mon_syntax.specs.Trees.{MonStatement, MonStatements, NoStatement, Then}
use Rattle.c_effects.specs.Expressions.{before, one}
use Rattle.c_simulation.specs.Following.{written}

pub writes_none : {S A : Type 0} (q : Result S A) → writes [] q ≡ q
writes_none (Done a s p) = refl
writes_none (Stops e n p) = refl

writes_writes : {S A : Type 0} (o p : List ℕ) (q : Result S A) → writes (o ++ p) q ≡ writes o (writes p q)
writes_writes o p (Done a s r) = ap (Done a s) (append_assoc o p r)
writes_writes o p (Stops e n r) = ap (Stops e n) (append_assoc o p r)

pub written_writes : {S A : Type 0} (o : List ℕ) (q : Result S A) → written (writes o q) ≡ o ++ written q
written_writes o (Done a s p) = refl
written_writes o (Stops e n p) = refl

-- what follows takes back nothing
pub written_then : {S A B : Type 0} (q : Result S A) (go : A → S → Result S B) → Extends (written q) (written (then_do q go))
written_then (Done a s o) go = record { rest = written (go a s); is = written_writes o (go a s) }
written_then (Stops e n o) go = record { rest = []; is = sym (append-nil o) }

then_writes : {S A B : Type 0} (o : List ℕ) (q : Result S A) (go : A → S → Result S B) → then_do (writes o q) go ≡ writes o (then_do q go)
then_writes o (Done a s p) go = writes_writes o p (go a s)
then_writes o (Stops e n p) go = refl

-- ---- statements one after the other

abbrev Target : Type 0
Target = monitored.State over_blocks.Mem

-- a statement alone
pub one_is : (gs : List over_blocks.Val) (a : MonStatement) (calls : monitored.Calls over_blocks) (n : ℕ) (regs : List over_blocks.Val) (s : Target)
    → monitored.exec_all over_blocks gs (one a) calls n regs s ≡ monitored.exec over_blocks gs a calls n regs s
one_is gs a calls n regs s = last (monitored.exec over_blocks gs a calls n regs s)
  where
    last : (q : Result Target (Flow over_blocks.Val)) → then_do q (at_next (λ r t. Done (Next r) t [])) ≡ q
    last (Done (Next r) t o) = ap (Done (Next r) t) (append-nil o)
    last (Done (Goes l r) t o) = ap (Done (Goes l r) t) (append-nil o)
    last (Done (Returns v) t o) = ap (Done (Returns v) t) (append-nil o)
    last (Stops e n o) = refl

-- what a part leads to, by way of its rest or at once
pub rest_first : (q : Result Target (Flow over_blocks.Val)) (whole rest behind : monitored.Does over_blocks) → ((r : List over_blocks.Val) (t : Target) → whole r t ≡ then_do (rest r t) (at_next behind))
    → then_do q (at_next whole) ≡ then_do (then_do q (at_next rest)) (at_next behind)
rest_first (Done (Next r) t o) whole rest behind h = ap (writes o) (h r t) ∙ sym (then_writes o (rest r t) (at_next behind))
rest_first (Done (Goes l r) t o) whole rest behind h = sym (ap (Done (Goes l r) t) (append-nil (o ++ [])))
rest_first (Done (Returns v) t o) whole rest behind h = sym (ap (Done (Returns v) t) (append-nil (o ++ [])))
rest_first (Stops e n o) whole rest behind h = refl

pub before_is : (gs : List over_blocks.Val) (a b : MonStatements) (calls : monitored.Calls over_blocks) (n : ℕ) (regs : List over_blocks.Val) (s : Target)
    → monitored.exec_all over_blocks gs (before a b) calls n regs s ≡ then_do (monitored.exec_all over_blocks gs a calls n regs s) (at_next (monitored.exec_all over_blocks gs b calls n))
before_is gs NoStatement b calls n regs s = sym (writes_none (monitored.exec_all over_blocks gs b calls n regs s))
before_is gs (Then a rest) b calls n regs s =
    rest_first (monitored.exec over_blocks gs a calls n regs s) (monitored.exec_all over_blocks gs (before rest b) calls n) (monitored.exec_all over_blocks gs rest calls n)
    (monitored.exec_all over_blocks gs b calls n) (λ r t. before_is gs rest b calls n r t)
