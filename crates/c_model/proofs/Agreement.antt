-- Agreement of runs: each agrees with itself, and what agrees in turn agrees.
use Rattle.std.proofs.Common.{◌≡◌, ℕ, List, [], ◌++◌, Option, Some, None, refl, sym, ap, ◌∙◌, subst, append_assoc}
use Rattle.std.proofs.lemmas.List.{append-nil}
use Rattle.c_model.specs.State as source
use Rattle.c_model.specs.Meaning as source_run
use Rattle.c_model.specs.MonitoredRuns.{Final, Exits, Broken, Fault, Spent, Full, ReadFault, Ran, machine_end, end_without_fault}
use Rattle.c_model.specs.Reports.{Extends, agrees_at, Agrees, AgreesToFault}

pub extends_same : (a : List ℕ) → Extends a a
extends_same a = record { rest = []; is = sym (append-nil a) }

pub extends_trans : (a b c : List ℕ) → Extends a b → Extends b c → Extends a c
extends_trans a b c f g = record { rest = f.rest ++ g.rest; is = g.is ∙ ap (λ x. x ++ g.rest) f.is ∙ append_assoc a f.rest g.rest }

agrees_same : (e : Final) (output : List ℕ) (left : ℕ) → agrees_at (end_without_fault e) output left (record { final = e; output = output; left = left })
agrees_same (Exits z) output left = refl
agrees_same (Broken number line kind how) output left = refl
agrees_same Fault output left = extends_same output
agrees_same Spent output left = refl
agrees_same (Full segment) output left = refl
agrees_same ReadFault output left = refl

pub AgreesToFault-same : (a : Ran) → AgreesToFault a a
AgreesToFault-same a = agrees_same a.final a.output a.left

-- what agrees with a run prints at least as much
agrees_extends : (e : Option Final) (output : List ℕ) (left : ℕ) (b : Ran) → agrees_at e output left b → Extends output b.output
agrees_extends None output left b h = h
agrees_extends (Some e) output left b h = subst (λ (x : Ran). Extends output x.output) (sym h) (extends_same output)

-- an end that is no fault stays one
keeps_end : (f e : Final) → end_without_fault f ≡ Some e → end_without_fault e ≡ Some e
keeps_end (Exits z) e q = let same : Exits z ≡ e = cc in subst (λ x. end_without_fault x ≡ Some x) same refl
keeps_end (Broken number line kind how) e q = let same : Broken number line kind how ≡ e = cc in subst (λ x. end_without_fault x ≡ Some x) same refl
keeps_end Fault e q = absurd cc
keeps_end Spent e q = let same : Spent ≡ e = cc in subst (λ x. end_without_fault x ≡ Some x) same refl
keeps_end (Full segment) e q = let same : Full segment ≡ e = cc in subst (λ x. end_without_fault x ≡ Some x) same refl
keeps_end ReadFault e q = let same : ReadFault ≡ e = cc in subst (λ x. end_without_fault x ≡ Some x) same refl

-- no end of the source is a fault
source_keeps_end : (f : source.Final) (e : Final) → machine_end f ≡ Some e → end_without_fault e ≡ Some e
source_keeps_end (source.Exits z) e q = keeps_end (Exits z) e q
source_keeps_end (source.Broken number line kind how) e q = keeps_end (Broken number line kind how) e q
source_keeps_end (source.Undefined at) e q = absurd cc
source_keeps_end source.Spent e q = keeps_end Spent e q
source_keeps_end (source.Full segment) e q = keeps_end (Full segment) e q
source_keeps_end source.ReadFault e q = keeps_end ReadFault e q

agrees_on : (o : Option Final) (output : List ℕ) (left : ℕ) (b c : Ran) → ((e : Final) → o ≡ Some e → end_without_fault e ≡ Some e) → agrees_at o output left b → AgreesToFault b c → agrees_at o output left c
agrees_on None output left b c keeps h g = extends_trans output b.output c.output h (agrees_extends (end_without_fault b.final) b.output b.left c g)
agrees_on (Some e) output left b c keeps h g =
    let further : AgreesToFault (record { final = e; output = output; left = left }) c = subst (λ x. AgreesToFault x c) h g in
    subst (λ o. agrees_at o output left c) (keeps e refl) further

pub AgreesToFault-trans : (a b c : Ran) → AgreesToFault a b → AgreesToFault b c → AgreesToFault a c
AgreesToFault-trans a b c h g = agrees_on (end_without_fault a.final) a.output a.left b c (keeps_end a.final) h g

pub Agrees-trans : (a : source_run.Ran) (b c : Ran) → Agrees a b → AgreesToFault b c → Agrees a c
Agrees-trans a b c h g = agrees_on (machine_end a.final) a.output a.left b c (source_keeps_end a.final) h g
