-- How the target follows the source through statements, and how it goes on from part to part.
use Rattle.std.proofs.Common.{◌≡◌, inr, ℕ, ◌≤◌, ℤ, pos, Bool, true, false, cond, List, [], ◌++◌, length, Option, Some, None, refl, sym, ap, ◌∙◌, subst, arith, append_assoc}
use Rattle.std.proofs.lemmas.List.{append-nil}
use Rattle.std.specs.Ordering.{int_eq}
use Rattle.c_model.specs.Memory.{Value}
use Rattle.c_model.specs.State.{State, Scope, Mark, Outcome, Normal, Evaluation, on_outcome}
use Rattle.c_model.specs.Meaning.{is_zero}
use Rattle.c_model.specs.Meaning as source_meaning
use Rattle.c_model.proofs.Agreement.{extends_trans}
use Rattle.mon_syntax.specs.Registers.{Bindings}
use Rattle.mon_syntax.specs.Meaning.{Done, Flow, Next, Goes, Returns, writes, then_do, at_next, at_label, choose}
use Rattle.mon_syntax.specs.LiveBlocks.{live_in}
use Rattle.c_simulation.specs.Following.{Later, Passes, IsResult, Follows, GoesOn, Breaks, Continues, IsLeft, IsOver, IsUndefined}
use Rattle.c_simulation.specs.Labels.{end_label, next_label, leave_label}
use Rattle.c_simulation.proofs.Results.{written_writes, written_then}
use Rattle.c_simulation.specs.Following.{written, left_by}
use Rattle.c_simulation.specs.Standing.{Keeps, Target, Did, Setting, Bounded, Here, Beside, IsAnchored, InRegister, AtGlobal, Anchored, IsKept, Standing}
use Rattle.c_simulation.specs.SameRegisters.{Same, Stays}
use Rattle.c_simulation.proofs.Registers.{same_all, keeps_same, stays_same, stays_trans}

-- ---- later states

pub later_same : (s : State) → Bounded s.store → Later s s []
later_same s bounded = record { scope = refl; calls = refl; live = refl; longer = omega arith; bounded = bounded; spent = omega arith; output = sym (append-nil s.output); marks = refl }

pub later_trans : (a b c : State) (o p : List ℕ) → Later a b o → Later b c p → Later a c (o ++ p)
later_trans a b c o p h g = record {
  scope = g.scope ∙ h.scope;
  calls = g.calls ∙ h.calls;
  live = g.live ∙ h.live;
  longer = omega (arith, h.longer, g.longer);
  bounded = g.bounded;
  spent = omega (arith, h.spent, g.spent);
  output = g.output ∙ ap (λ l. l ++ p) h.output ∙ append_assoc a.output o p;
  marks = g.marks ∙ h.marks;
}

-- where no label was passed, and where some may have been
pub passes_later : (from to : State) (o : List ℕ) → Later from to o → Passes from to o
passes_later from to o l = record { scope = l.scope; calls = l.calls; live = l.live; longer = l.longer; bounded = l.bounded; spent = l.spent; output = l.output; marks = refl }

pub passes_trans : (a b c : State) (o p : List ℕ) → Passes a b o → Passes b c p → Passes a c (o ++ p)
passes_trans a b c o p h g = record {
  scope = g.scope ∙ h.scope;
  calls = g.calls ∙ h.calls;
  live = g.live ∙ h.live;
  longer = omega (arith, h.longer, g.longer);
  bounded = g.bounded;
  spent = omega (arith, h.spent, g.spent);
  output = g.output ∙ ap (λ l. l ++ p) h.output ∙ append_assoc a.output o p;
  marks = refl;
}

-- what is kept where labels are passed is kept by expressions
pub kept_same : (w : Setting) (low : ℕ) (marks : List Mark) (regs after : List Value) → Same low regs after → IsKept w low marks regs → IsKept w low marks after
kept_same w low marks regs after same k = record {
  below = k.below;
  planned = k.planned;
  given = k.given;
  keeps = keeps_same low w.plan_to w.plan marks regs after k.below k.planned same k.keeps;
}

pub kept_later : (w : Setting) (low : ℕ) (regs after : List Value) (s to : State) (o : List ℕ) → Same low regs after → Later s to o → IsKept w low s.marks regs → IsKept w low to.marks after
kept_later w low regs after s to o same l k = subst (λ ms. IsKept w low ms after) (sym l.marks) (kept_same w low s.marks regs after same k)

-- names in sight stand where they stood, as long as their registers stay
pub anchored_stays : (w : Setting) (low : ℕ) (bound : Bindings) (regs after : List Value) (scope : Scope) → Stays w.plan_from w.plan_to low regs after → Anchored w low bound regs scope → Anchored w low bound after scope
anchored_stays w low bound regs after scope same h x number e = let a = h x number e in record { own = a.own; anchor = of_anchor a.anchor }
  where
    of_anchor : IsAnchored w low bound regs x number → IsAnchored w low bound after x number
    of_anchor (InRegister r is_bound below behind points) = InRegister r is_bound below behind (same.kept r below (inr behind) ∙ points)
    of_anchor (AtGlobal free is_global points) = AtGlobal free is_global points

pub anchored_same : (w : Setting) (low : ℕ) (bound : Bindings) (regs after : List Value) (scope : Scope) → Same low regs after → Anchored w low bound regs scope → Anchored w low bound after scope
anchored_same w low bound regs after scope same h = anchored_stays w low bound regs after scope (stays_same w.plan_from w.plan_to low regs after same) h

-- where the blocks of a call live as before, and its names are in sight
pub standing_as : (w : Setting) (h : Here) (low high : ℕ) (bound also : Bindings) (regs after : List Value) (s to : State) (breaks looped : Bool) → Standing w h low bound regs s → Anchored w high also after to.scope → to.calls ≡ s.calls
    → live_in to.store ≡ live_in s.store → length s.store ≤ length to.store → Bounded to.store → length after ≡ length regs → IsKept w high to.marks after
    → Standing w (record h { breaks = breaks; looped = looped }) high also after to
standing_as w h low high bound also regs after s to breaks looped st anchored calls live longer bounded long kept = record {
  anchored = anchored;
  active = calls ∙ st.active;
  live = live ∙ st.live;
  since_left = st.since_left;
  before_left = st.before_left;
  since_loop = st.since_loop;
  before_loop = st.before_loop;
  since_call = st.since_call;
  before_call = st.before_call;
  nested = st.nested;
  deeper = st.deeper;
  longer = omega (arith, st.longer, longer);
  bounded = bounded;
  registers = long ∙ st.registers;
  kept = kept;
}

pub standing_later : (w : Setting) (h : Here) (low : ℕ) (bound : Bindings) (regs after : List Value) (s to : State) (o : List ℕ) → Same low regs after → Later s to o → Standing w h low bound regs s → Standing w h low bound after to
standing_later w h low bound regs after s to o same l st =
    standing_as w h low low bound bound regs after s to h.breaks h.looped st (subst (Anchored w low bound after) (sym l.scope) (anchored_same w low bound regs after s.scope same st.anchored)) l.calls l.live l.longer l.bounded same.long
    (kept_later w low regs after s to o same l st.kept)

-- after a statement
pub standing_after : (w : Setting) (h : Here) (low : ℕ) (bound : Bindings) (regs after : List Value) (s to : State) (o : List ℕ) → Stays w.plan_from w.plan_to low regs after → Keeps w.plan to.marks after → Passes s to o
    → Standing w h low bound regs s → Standing w h low bound after to
standing_after w h low bound regs after s to o same keeps l st =
    standing_as w h low low bound bound regs after s to h.breaks h.looped st (subst (Anchored w low bound after) (sym l.scope) (anchored_stays w low bound regs after s.scope same st.anchored)) l.calls l.live l.longer l.bounded same.long
    (record { below = st.kept.below; planned = st.kept.planned; given = st.kept.given; keeps = keeps })

-- ---- the way out

-- where a call is left, nothing is done that stands behind, and no label of a loop or of its body catches the jump
pub left_next : (result : Option ℕ) (v : Option Value) (after : List Value) (t : Target) (o : List ℕ) (g : List Value → Target → Did) → then_do (Done (left_by result v after) t o) (at_next g) ≡ Done (left_by result v after) t o
left_next None v after t o g = ap (Done (Returns v) t) (append-nil o)
left_next (Some r) v after t o g = ap (Done (Goes leave_label after) t) (append-nil o)

pub left_end : (loops : ℕ) (result : Option ℕ) (v : Option Value) (after : List Value) (t : Target) (o : List ℕ) → then_do (Done (left_by result v after) t o) (at_label (end_label loops)) ≡ Done (left_by result v after) t o
left_end loops None v after t o = ap (Done (Returns v) t) (append-nil o)
left_end loops (Some r) v after t o = ap (Done (Goes leave_label after) t) (append-nil o)

pub left_turn : (loops : ℕ) (result : Option ℕ) (v : Option Value) (after : List Value) (t : Target) (o : List ℕ) → then_do (Done (left_by result v after) t o) (at_label (next_label loops)) ≡ Done (left_by result v after) t o
left_turn loops None v after t o = ap (Done (Returns v) t) (append-nil o)
left_turn loops (Some r) v after t o = ap (Done (Goes leave_label after) t) (append-nil o)

module _ (w : Setting) (h : Here) (low : ℕ) where
  abbrev pub Follow : List Value → (List Value → Flow Value) → State → Outcome (Unit {0}) → Did → Type 0
  Follow regs on from r q = Follows w h low regs on from r q

  -- nothing is done
  pub stays : (regs : List Value) (s : State) (t : Target) → Bounded s.store → Keeps w.plan s.marks regs → Beside w s.store s t → Follow regs Next s (Normal tt s) (Done (Next regs) t [])
  stays regs s t bounded keeps b = GoesOn s regs t [] (stays_same w.plan_from w.plan_to low regs regs (same_all low regs)) keeps (passes_later s s [] (later_same s bounded)) b refl refl

  -- what was done before is in front
  pub onward : (regs mid : List Value) (on : List Value → Flow Value) (from s : State) (o : List ℕ) (r : Outcome (Unit {0})) (q : Did) → Stays w.plan_from w.plan_to low regs mid → Passes from s o → Follow mid on s r q
      → Follow regs on from r (writes o q)
  onward regs mid on from s o r q same l (GoesOn u after t p m g k b e f) =
      GoesOn u after t (o ++ p) (stays_trans w.plan_from w.plan_to low low regs mid after (omega arith) same m) g (passes_trans from s u o p l k) b e (ap (writes o) f)
  onward regs mid on from s o r q same l (Breaks u after t p i m g k b e f) =
      Breaks u after t (o ++ p) i (stays_trans w.plan_from w.plan_to low low regs mid after (omega arith) same m) g (passes_trans from s u o p l k) b e (ap (writes o) f)
  onward regs mid on from s o r q same l (Continues u after t p i m g k b e f) =
      Continues u after t (o ++ p) i (stays_trans w.plan_from w.plan_to low low regs mid after (omega arith) same m) g (passes_trans from s u o p l k) b e (ap (writes o) f)
  onward regs mid on from s o r q same l (IsLeft v u after t p i m g x k b e f) =
      IsLeft v u after t (o ++ p) i (stays_trans w.plan_from w.plan_to low low regs mid after (omega arith) same m) g x (passes_trans from s u o p l k) b e (ap (writes o) f)
  onward regs mid on from s o r q same l (IsOver x z u p d e k f) = IsOver x z u (o ++ p) d e (k ∙ ap (λ y. y ++ p) l.output ∙ append_assoc from.output o p) (ap (writes o) f)
  onward regs mid on from s o r q same l (IsUndefined at u p e k x) =
      IsUndefined at u (o ++ p) e (k ∙ ap (λ y. y ++ p) l.output ∙ append_assoc from.output o p)
      (record { rest = x.rest; is = written_writes o q ∙ ap (λ y. o ++ y) x.is ∙ sym (append_assoc o p x.rest) })

  -- what an expression did
  pub onward_same : (regs mid : List Value) (on : List Value → Flow Value) (from s : State) (o : List ℕ) (r : Outcome (Unit {0})) (q : Did) → Same low regs mid → Later from s o → Follow mid on s r q → Follow regs on from r (writes o q)
  onward_same regs mid on from s o r q same l f = onward regs mid on from s o r q (stays_same w.plan_from w.plan_to low regs mid same) (passes_later from s o l) f

  -- 0 chooses the second on both sides
  pub follows_choice : (regs : List Value) (on : List Value → Flow Value) (from s : State) (v : Value) (i : ℤ) (a b : Evaluation (Unit {0})) (p q : Did) → int_eq i (pos 0) ≡ is_zero v → Follow regs on from (a s) p → Follow regs on from (b s) q
      → Follow regs on from (source_meaning.choose v a b s) (choose i p q)
  follows_choice regs on from s v i a b p q same f k =
      subst (λ t. Follow regs on from (source_meaning.choose v a b s) (cond t q p)) (sym same) (by (is_zero v))
    where
      by : (t : Bool) → Follow regs on from (cond t b a s) (cond t q p)
      by true = k
      by false = f

  -- a statement, and then what follows
  pub follows_then : (regs : List Value) (on : List Value → Flow Value) (from : State) (r : Outcome (Unit {0})) (q : Did) (f : Evaluation (Unit {0})) (g : List Value → Target → Did) → Follow regs Next from r q
      → ((s : State) (after : List Value) (t : Target) (o : List ℕ) → Stays w.plan_from w.plan_to low regs after → Keeps w.plan s.marks after → Passes from s o → Beside w s.store s t
      → Follow after on s (f s) (g after t)) → Follow regs on from (on_outcome r (λ _. f)) (then_do q (at_next g))
  follows_then regs on from r q f g (GoesOn s after t o m g2 l b e e') k =
      subst (λ r. Follow regs on from (on_outcome r (λ _. f)) (then_do q (at_next g))) (sym e)
      (subst (λ q. Follow regs on from (f s) (then_do q (at_next g))) (sym e')
      (onward regs after on from s o (f s) (g after t) m l (k s after t o m g2 l b)))
  follows_then regs on from r q f g (Breaks s after t o i m g2 l b e e') k =
      Breaks s after t o i m g2 l b (ap (λ r. on_outcome r (λ _. f)) e) (ap (λ q. then_do q (at_next g)) e' ∙ ap (Done (Goes (end_label h.levels) after) t) (append-nil o))
  follows_then regs on from r q f g (Continues s after t o i m g2 l b e e') k =
      Continues s after t o i m g2 l b (ap (λ r. on_outcome r (λ _. f)) e) (ap (λ q. then_do q (at_next g)) e' ∙ ap (Done (Goes (next_label h.innermost) after) t) (append-nil o))
  follows_then regs on from r q f g (IsLeft v s after t o i m g2 x l b e e') k =
      IsLeft v s after t o i m g2 x l b (ap (λ r. on_outcome r (λ _. f)) e) (ap (λ q. then_do q (at_next g)) e' ∙ left_next w.result v after t o g)
  follows_then regs on from r q f g (IsOver x z s o d e l e') k =
      IsOver x z s o d (ap (λ r. on_outcome r (λ _. f)) e) l (ap (λ q. then_do q (at_next g)) e')
  follows_then regs on from r q f g (IsUndefined at s o e l ext) k =
      IsUndefined at s o (ap (λ r. on_outcome r (λ _. f)) e) l (extends_trans o (written q) _ ext (written_then q (at_next g)))

-- what leaves no loop and no switch stands anywhere in the call
pub anywhere : (w : Setting) (h there : Here) (low : ℕ) (regs : List Value) (on : List Value → Flow Value) (from : State) (r : Outcome (Unit {0})) (q : Did) → h.breaks ≡ false → h.looped ≡ false
    → h.result ≡ there.result → Follows w h low regs on from r q
    → Follows w there low regs on from r q
anywhere w h there low regs on from r q closed outside same (GoesOn s after t o m g l b e f) = GoesOn s after t o m g l b e f
anywhere w h there low regs on from r q closed outside same (Breaks s after t o i m g l b e f) = absurd cc
anywhere w h there low regs on from r q closed outside same (Continues s after t o i m g l b e f) = absurd cc
anywhere w h there low regs on from r q closed outside same (IsLeft v s after t o i m g x l b e f) = IsLeft v s after t o (subst (λ k. IsResult k v) same i) m g x l b e f
anywhere w h there low regs on from r q closed outside same (IsOver x z s o d e l f) = IsOver x z s o d e l f
anywhere w h there low regs on from r q closed outside same (IsUndefined at s o e l ext) = IsUndefined at s o e l ext
