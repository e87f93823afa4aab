-- Pieces of code are valid where their parts are.
use Rattle.std.proofs.Common.{◌≡◌, ℕ, suc, ◌+◌, ◌-◌, ◌*◌, ◌≤◌, ℤ, pos, Bool, true, false, if◌then◌else◌, List, [], ◌∷◌, ◌++◌, length, Option, Some, None, slice_get, refl, arith}
use Rattle.c_syntax.specs.declared.logic.Connective.{Connective}
use Rattle.c_syntax.specs.declared.logic.Connective.TheVariants.{And, Xor, Or, Implies, Iff}
use Rattle.c_syntax.specs.declared.types.Width.TheVariants.{W32}
use Rattle.mon_syntax.specs.declared.tree.MonType.{MonType}
use Rattle.mon_syntax.specs.declared.tree.MonType.TheVariants.{I32}
use Rattle.mon_syntax.specs.declared.tree.MonOp.TheVariants as mon
use Rattle.mon_syntax.specs.Trees.{MonExpression, Register, Constant, Binary, MonStatements, NoStatement, Then, If}
use Rattle.mon_syntax.specs.Valid.{Types, HasType, IsExpression, AreStatements, Labels, Signature, open_parens, depth_of_all}
use Rattle.c_effects.specs.Expressions.{before, one, set}
use Rattle.annot_simulation.specs.Code.{Code, with_value, conjunction, guarded, two_code, take, take_none, branch, truth_code, is_sure, connective_operator, both_asked, left_first, connected}
use Rattle.annot_simulation.specs.Validity.{Begins}
use Rattle.annot_simulation.specs.Inside.{open_in_all, open_if_any}
use Rattle.annot_simulation.proofs.Opens.{open_before, open_if, open_guarded, open_take, open_none}
use Rattle.annot_simulation.proofs.Depths.{deep_before, deep_if, deep_guarded, deep_take}
use Rattle.annot_simulation.proofs.Typed.{first_type, second_type_at, arithmetic_typed, relation_typed, binary_less}

module _ (g : ℕ) (gs : List Signature) (ts : Types) (result : Option MonType) (ls : Labels) where
  abbrev Stmts : MonStatements → Type 0
  Stmts a = AreStatements g gs ts result ls a

  pub before_valid : (a b : MonStatements) → Stmts a → Stmts b → Stmts (before a b)
  before_valid NoStatement b h k = k
  before_valid (Then x a) b h k = (h.0, before_valid a b h.1 k)

  -- an expression within the limit
  pub expression : (e : MonExpression) (t : MonType) (n : ℕ) → HasType g ts e t → open_parens e ≤ n → n ≤ 2000 → IsExpression g ts e t
  expression e t n h p le = record { typed = h; within = omega (arith, p, le) }

  pub set_valid : (r : ℕ) (e : MonExpression) (t : MonType) → slice_get ts r ≡ Some t → IsExpression g ts e t → Stmts (set r e)
  set_valid r e t at h = ((t, at, h), tt)

  pub number_valid : (z : ℤ) → HasType g ts (Constant I32 z) I32 → IsExpression g ts (Constant I32 z) I32
  number_valid z h = record { typed = h; within = omega arith }

  pub register_valid : (r : ℕ) (t : MonType) → slice_get ts r ≡ Some t → IsExpression g ts (Register r) t
  register_valid r t h = record { typed = h; within = omega arith }

  -- a flag that stands within n parentheses
  abbrev pub FlagValid : Option MonExpression → ℕ → Type 0
  FlagValid None n = Unit {0}
  FlagValid (Some e) n = HasType g ts e I32 × (open_parens e ≤ n)

  -- the code of n tokens, with a value of a type: three parentheses for each token are open at most, and two more in the statements, s / 2 in the value
  pub record Valid (c : Code) (t : MonType) (n s : ℕ) : Type 0 where
    pub statements : Stmts c.stmts
    pub deep : depth_of_all c.stmts ≤ n + n
    pub opened : open_in_all c.stmts ≤ 3 * n + 2
    pub flag : FlagValid c.flag n
    pub typed : HasType g ts c.value t
    pub parens : 2 * open_parens c.value ≤ 6 * n + s

  pub flag_open : (f : Option MonExpression) (n : ℕ) → FlagValid f n → open_if_any f ≤ n
  flag_open None n h = omega arith
  flag_open (Some e) n h = h.1

  pub flag_more : (f : Option MonExpression) (m n : ℕ) → m ≤ n → FlagValid f m → FlagValid f n
  flag_more None m n le h = tt
  flag_more (Some e) m n le h = let p = h.1 in (h.0, omega (arith, p, le))

  pub flag_both : (f h : Option MonExpression) (m n k : ℕ) → suc m ≤ k → suc n ≤ k → FlagValid f m → FlagValid h n → FlagValid (conjunction f h) k
  flag_both None h m n k lm ln p q = flag_more h n k (omega (arith, ln)) q
  flag_both (Some a) None m n k lm ln p q = flag_more (Some a) m k (omega (arith, lm)) p
  flag_both (Some a) (Some b) m n k lm ln p q =
      let x = p.1 in
      let y = q.1 in
      (arithmetic_typed g ts mon.And W32 a b refl p.0 q.0, binary_less mon.And I32 a b k (omega (arith, x, lm)) (omega (arith, y, ln)))

  pub guarded_valid : (f : Option MonExpression) (a b : MonStatements) (n : ℕ) → n ≤ 2000 → FlagValid f n → Stmts a → Stmts b → Stmts (guarded f a b)
  guarded_valid None a b n le h p q = p
  guarded_valid (Some e) a b n le h p q = ((expression e I32 n h.0 h.1 le, p, q), tt)

  pub take_valid : (f : Option MonExpression) (e : MonExpression) (t : MonType) (r n : ℕ) → n ≤ 2000 → FlagValid f n → IsExpression g ts e t → slice_get ts r ≡ Some I32 → slice_get ts (suc r) ≡ Some t → Stmts (take f e r)
  take_valid None e t r n le f h at at2 = ((I32, at, number_valid (pos 1) (refl, refl)), set_valid (suc r) e t at2 h)
  take_valid (Some a) e t r n le f h at at2 = ((I32, at, expression a I32 n f.0 f.1 le), ((register_valid r I32 at, set_valid (suc r) e t at2 h, tt), tt))

  pub take_none_valid : (r : ℕ) → slice_get ts r ≡ Some I32 → Stmts (take_none r)
  take_none_valid r at = set_valid r (Constant I32 (pos 0)) I32 at (number_valid (pos 0) (refl, refl))

  -- ---- parts

  pub two_valid : (a b : Code) (e : MonExpression) (ta tb t : MonType) (m n sa sb k s : ℕ) → Valid a ta m sa → Valid b tb n sb → suc m ≤ k → suc n ≤ k → HasType g ts e t → 2 * open_parens e ≤ 6 * k + s → Valid (two_code a b e) t k s
  two_valid a b e ta tb t m n sa sb k s p q lm ln h l = record {
    statements = before_valid a.stmts b.stmts p.statements q.statements;
    deep = deep_before a.stmts b.stmts (k + k) (omega (arith, p.deep, lm)) (omega (arith, q.deep, ln));
    opened = open_before a.stmts b.stmts (3 * k + 2) (omega (arith, p.opened, lm)) (omega (arith, q.opened, ln));
    flag = flag_both a.flag b.flag m n k lm ln p.flag q.flag;
    typed = h;
    parens = l;
  }

  pub changed_valid : (c : Code) (e : MonExpression) (ta t : MonType) (n sa k s : ℕ) → Valid c ta n sa → n ≤ k → HasType g ts e t → 2 * open_parens e ≤ 6 * k + s → Valid (with_value e c) t k s
  changed_valid c e ta t n sa k s p le h l = record {
    statements = p.statements;
    deep = omega (arith, p.deep, le);
    opened = omega (arith, p.opened, le);
    flag = flag_more c.flag n k le p.flag;
    typed = h;
    parens = l;
  }

  pub branch_valid : (t : MonType) (c a b : Code) (m na nb k s : ℕ) → Valid c I32 m 4 → Valid a t na 4 → Valid b t nb 4 → suc m ≤ k → suc na ≤ k → suc nb ≤ k → 1 ≤ na → k ≤ 400 → Begins (b.used ++ I32 ∷ t ∷ []) ts
      → Valid (branch t c a b) t k s
  branch_valid t c a b m na nb k s vc va vb lm la lb some few begins = record {
    statements =
        before_valid c.stmts (guarded c.flag inner (take_none r)) vc.statements
        (guarded_valid c.flag inner (take_none r) m (omega (arith, lm, few)) vc.flag ((expression c.value I32 (3 * m + 2) vc.typed (omega (arith, vc.parens)) (omega (arith, lm, few)), side a na va la, side b nb vb lb), tt)
        (take_none_valid r at));
    deep =
        deep_before c.stmts (guarded c.flag inner (take_none r)) (k + k) (omega (arith, vc.deep, lm))
        (more (depth_of_all (guarded c.flag inner (take_none r))) (deep_guarded c.flag inner (take_none r) (suc l) (deep_if c.value (before a.stmts (take a.flag a.value r)) (before b.stmts (take b.flag b.value r)) l
        (deep_before a.stmts (take a.flag a.value r) l (omega (arith, va.deep, ll, la)) (omega (arith, deep_take a.flag a.value r, ll, la, some)))
        (deep_before b.stmts (take b.flag b.value r) l (omega (arith, vb.deep, ll, lb)) (omega (arith, deep_take b.flag b.value r, ll, la, some)))) (omega arith)));
    opened =
        open_before c.stmts (guarded c.flag inner (take_none r)) (3 * k + 2) (omega (arith, vc.opened, lm))
        (open_guarded c.flag inner (take_none r) (3 * k + 2) (let l = flag_open c.flag m vc.flag in omega (arith, l, lm))
        (open_if c.value (before a.stmts (take a.flag a.value r)) (before b.stmts (take b.flag b.value r)) (3 * k + 2) (omega (arith, vc.parens, lm)) (side_open a na va la) (side_open b nb vb lb)) (open_none r (3 * k + 2) (omega (arith, lm))));
    flag = (at, omega arith);
    typed = at2;
    parens = omega arith;
  }
    where
      r : ℕ
      r = length b.used

      inner : MonStatements
      inner = one (If c.value (before a.stmts (take a.flag a.value r)) (before b.stmts (take b.flag b.value r)))

      at : slice_get ts r ≡ Some I32
      at = first_type b.used ts I32 t begins

      at2 : slice_get ts (suc r) ≡ Some t
      at2 = second_type_at b.used ts I32 t begins

      side : (d : Code) (n : ℕ) → Valid d t n 4 → suc n ≤ k → Stmts (before d.stmts (take d.flag d.value r))
      side d n v le =
          before_valid d.stmts (take d.flag d.value r) v.statements
          (take_valid d.flag d.value t r n (omega (arith, le, few)) v.flag (expression d.value t (3 * n + 2) v.typed (omega (arith, v.parens)) (omega (arith, le, few))) at at2)

      side_open : (d : Code) (n : ℕ) → Valid d t n 4 → suc n ≤ k → open_in_all (before d.stmts (take d.flag d.value r)) ≤ 3 * k + 2
      side_open d n v le =
          open_before d.stmts (take d.flag d.value r) (3 * k + 2) (omega (arith, v.opened, le))
          (open_take d.flag d.value r (3 * k + 2) (omega (arith, le)) (let l = flag_open d.flag n v.flag in omega (arith, l, le)) (omega (arith, v.parens, le)))

      l : ℕ
      l = k + k - 2

      ll : suc (suc l) ≡ k + k
      ll = omega (arith, la)

      more : (d : ℕ) → d ≤ suc (suc l) → d ≤ k + k
      more d h = omega (arith, ll, h)

  -- ---- connectives

  pub truth_valid : (b : Bool) (rs : Types) (s : ℕ) → Valid (truth_code b rs) I32 1 s
  truth_valid true rs s = record { statements = tt; deep = omega arith; opened = omega arith; flag = tt; typed = (refl, refl); parens = omega arith }
  truth_valid false rs s = record { statements = tt; deep = omega arith; opened = omega arith; flag = tt; typed = (refl, refl); parens = omega arith }

  connective_typed : (c : Connective) (x y : MonExpression) → HasType g ts x I32 → HasType g ts y I32 → HasType g ts (Binary (connective_operator c) I32 x y) I32
  connective_typed And x y p q = arithmetic_typed g ts mon.And W32 x y refl p q
  connective_typed Or x y p q = arithmetic_typed g ts mon.Or W32 x y refl p q
  connective_typed Implies x y p q = relation_typed g ts mon.Le W32 x y refl p q
  connective_typed Iff x y p q = relation_typed g ts mon.Eq W32 x y refl p q
  connective_typed Xor x y p q = relation_typed g ts mon.Ne W32 x y refl p q

  pub connected_valid : (c : Connective) (p q : Code) (m n k : ℕ) → Valid p I32 m 4 → Valid q I32 n 4 → suc m ≤ k → suc n ≤ k → 1 ≤ n → k ≤ 400 → Begins (connected c p q).used ts → Valid (connected c p q) I32 k 4
  connected_valid c p q m n k vp vq lm ln some few = by (is_sure q)
    where
      asked : (o : Connective) → Valid (both_asked o p q) I32 k 4
      asked o =
          let less : open_parens (Binary (connective_operator o) I32 p.value q.value) ≤ 3 * k + 2 = binary_less (connective_operator o) I32 p.value q.value (3 * k + 2) (omega (arith, vp.parens, lm)) (omega (arith, vq.parens, ln)) in
          two_valid p q (Binary (connective_operator o) I32 p.value q.value) I32 I32 I32 m n 4 4 k 4 vp vq lm ln (connective_typed o p.value q.value vp.typed vq.typed) (omega (arith, less))

      first : (o : Connective) → Begins (left_first o p q).used ts → Valid (left_first o p q) I32 k 4
      first And b = branch_valid I32 p q (truth_code false q.used) m n 1 k 4 vp vq (truth_valid false q.used 4) lm ln (omega (arith, some, ln)) some few b
      first Or b = branch_valid I32 p (truth_code true q.used) q m 1 n k 4 vp (truth_valid true q.used 4) vq lm (omega (arith, some, ln)) ln (omega arith) few b
      first Implies b = branch_valid I32 p q (truth_code true q.used) m n 1 k 4 vp vq (truth_valid true q.used 4) lm ln (omega (arith, some, ln)) some few b
      first Iff b = asked Iff
      first Xor b = asked Xor

      by : (t : Bool) → Begins (if t then both_asked c p q else left_first c p q).used ts → Valid (if t then both_asked c p q else left_first c p q) I32 k 4
      by true b = asked c
      by false b = first c b
