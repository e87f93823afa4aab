-- Pieces of code: what they leave in registers, by what their parts do.
use Rattle.std.proofs.Common.{◌≡◌, ℕ, suc, ◌<◌, ◌≤◌, ℤ, pos, Bool, true, false, ◌&&◌, List, [], ◌∷◌, ◌++◌, length, length-append, Option, Some, None, slice_get, slice_set, refl, sym, ◌∙◌, arith, ap, subst}
use Rattle.c_model.specs.Integers.{truth}
use Rattle.c_model.specs.Memory.{Value, Integer}
use Rattle.mon_syntax.specs.declared.tree.MonType.{MonType}
use Rattle.mon_syntax.specs.declared.tree.MonType.TheVariants.{I32}
use Rattle.mon_syntax.specs.declared.tree.MonOp.TheVariants.{And}
use Rattle.mon_syntax.specs.Arithmetic.{operate}
use Rattle.mon_syntax.specs.BlockMemory.{is_some}
use Rattle.mon_syntax.specs.Meaning.{Done, Next}
use Rattle.mon_syntax.specs.Trees.{MonExpression, Register, Constant, If, MonStatements, NoStatement}
use Rattle.c_effects.specs.Expressions.{before, one, set}
use Rattle.annot_simulation.specs.Code.{Code, conjunction, guarded, two_code, take, take_none, taken, branch, settled, with_value as code_with_value, sure_code}
use Rattle.annot_simulation.specs.Does.{Setting, runs}
use Rattle.c_simulation.specs.SameRegisters.{Same}
use Rattle.annot_simulation.proofs.Steps.{same_all, same_less, same_trans, same_set, get-set_same, after_runs, HasNumber, set_first, set_runs, if_true, if_false, operation}

-- ---- answers that may be missing

-- a part and what is made of its number
abbrev pub after : {A B : Type 0} → Option A → (A → Option B) → Option B
after None f = None
after (Some x) f = f x

abbrev pub pair : Option ℤ → Option ℤ → (ℤ → ℤ → Option ℤ) → Option ℤ
pair a b f = after a (λ x. after b (f x))

-- the number of a truth
abbrev pub truths : Option Bool → Option ℤ
truths None = None
truths (Some b) = Some (truth b)

-- one of two, by a condition
abbrev pub chosen : {A : Type 0} → Option Bool → Option A → Option A → Option A
chosen None a b = None
chosen (Some true) a b = a
chosen (Some false) a b = b

pub both_are : (a b : Bool) → operate And I32 (truth a) (truth b) ≡ Some (truth (a && b))
both_are true true = refl
both_are true false = refl
both_are false true = refl
both_are false false = refl

pub and_true : (a : Bool) → (a && true) ≡ a
and_true true = refl
and_true false = refl

module _ (w : Setting) where
  -- ---- flags and values

  -- the flag says whether there is a number
  abbrev pub FlagIs : Option MonExpression → Bool → List Value → Type 0
  FlagIs None there regs = there ≡ true
  FlagIs (Some e) there regs = HasNumber w e regs (truth there)

  pub record Holds (flag : Option MonExpression) (e : MonExpression) (o : Option ℤ) (regs : List Value) : Type 0 where
    pub flag_is : FlagIs flag (is_some o) regs
    pub value_is : (z : ℤ) → o ≡ Some z → HasNumber w e regs z

  -- the statements of a code leave alone what was taken before, and then it holds this, whatever comes in registers behind its own
  pub record Codes (c : Code) (o : Option ℤ) (rs : List MonType) (regs : List Value) : Type 0 where
    pub end : List Value
    pub same : Same (length rs) regs end
    pub is : runs w c.stmts regs ≡ Done (Next end) w.target []
    pub holds : (later : List Value) → Same (length c.used) end later → Holds c.flag c.value o later

  pub flag_both : (f g : Option MonExpression) (a b : Bool) (regs : List Value) → FlagIs f a regs → FlagIs g b regs → FlagIs (conjunction f g) (a && b) regs
  flag_both None None a b regs p q = ap (λ x. x && b) p ∙ q
  flag_both None (Some g) a b regs p q = q ∙ ap (λ x. Some (Integer (truth (x && b)))) (sym p)
  flag_both (Some f) None a b regs p q = p ∙ ap (λ x. Some (Integer (truth x))) (sym (and_true a) ∙ ap (λ x. a && x) (sym q))
  flag_both (Some f) (Some g) a b regs p q = operation w And I32 f g regs (truth a) (truth b) (truth (a && b)) refl p q (both_are a b)

  pub guarded_true : (f : Option MonExpression) (a b : MonStatements) (regs : List Value) → FlagIs f true regs → runs w (guarded f a b) regs ≡ runs w a regs
  guarded_true None a b regs h = refl
  guarded_true (Some e) a b regs h = if_true w e a b regs h

  pub guarded_false : (f : Option MonExpression) (a b : MonStatements) (regs : List Value) → FlagIs f false regs → runs w (guarded f a b) regs ≡ runs w b regs
  guarded_false None a b regs h = absurd cc
  guarded_false (Some e) a b regs h = if_false w e a b regs h

  -- ---- a flag and a value in two registers

  pub record Taken (a : MonStatements) (o : Option ℤ) (r : ℕ) (regs : List Value) : Type 0 where
    pub end : List Value
    pub same : Same r regs end
    pub is : runs w a regs ≡ Done (Next end) w.target []
    pub flag_is : slice_get end r ≡ Some (Integer (truth (is_some o)))
    pub value_is : (z : ℤ) → o ≡ Some z → slice_get end (suc r) ≡ Some (Integer z)

  pub none_taken : (r : ℕ) (regs : List Value) → r < length regs → Taken (take_none r) None r regs
  none_taken r regs lt = record {
    end = slice_set regs r (Integer (pos 0));
    same = same_set r r regs (Integer (pos 0)) (omega arith);
    is = set_runs w r (Constant I32 (pos 0)) regs (pos 0) refl;
    flag_is = get-set_same regs r (Integer (pos 0)) lt;
    value_is = λ z e. absurd cc;
  }

  -- a value into the second register, where the first one is set
  second_set : (r : ℕ) (first : List Value) (e : MonExpression) (z : ℤ) → suc r < length first → slice_get first r ≡ Some (Integer (pos 1)) → HasNumber w e first z
      → (regs : List Value) (a : MonStatements) → Same r regs first → runs w a regs ≡ runs w (set (suc r) e) first → Taken a (Some z) r regs
  second_set r first e z lt one_is has regs a same leads =
      let next = slice_set first (suc r) (Integer z) in
      let more : Same (suc r) first next = same_set (suc r) (suc r) first (Integer z) (omega arith) in record {
        end = next;
        same = same_trans r (suc r) regs first next (omega arith) same more;
        is = leads ∙ set_runs w (suc r) e first z has;
        flag_is = more.below r (omega arith) ∙ one_is;
        value_is = λ y q. let same_number : z ≡ y = cc in get-set_same first (suc r) (Integer z) lt ∙ ap (λ y. Some (Integer y)) same_number;
      }

  pub take_runs : (f : Option MonExpression) (e : MonExpression) (o : Option ℤ) (r : ℕ) (regs : List Value) → suc r < length regs
      → ((later : List Value) → Same r regs later → Holds f e o later) → Taken (take f e r) o r regs
  take_runs None e o r regs lt h = by o refl
    where
      first : List Value
      first = slice_set regs r (Integer (pos 1))

      same : Same r regs first
      same = same_set r r regs (Integer (pos 1)) (omega arith)

      by : (q : Option ℤ) → o ≡ q → Taken (take None e r) q r regs
      by None q = let there = (h regs (same_all r regs)).flag_is in absurd cc
      by (Some z) q =
          second_set r first e z (omega (arith, same.long, lt)) (get-set_same regs r (Integer (pos 1)) (omega (arith, lt))) ((h first same).value_is z q) regs (take None e r) same
          (set_first w r (Constant I32 (pos 1)) (set (suc r) e) regs (pos 1) refl)
  take_runs (Some f) e o r regs lt h = by o refl
    where
      first : ℤ → List Value
      first x = slice_set regs r (Integer x)

      same : (x : ℤ) → Same r regs (first x)
      same x = same_set r r regs (Integer x) (omega arith)

      rest : MonStatements
      rest = one (If (Register r) (set (suc r) e) NoStatement)

      flag : (q : Option ℤ) → o ≡ q → HasNumber w f regs (truth (is_some q))
      flag q p = (h regs (same_all r regs)).flag_is ∙ ap (λ q. Some (Integer (truth (is_some q)))) p

      holds : (x : ℤ) → slice_get (first x) r ≡ Some (Integer x)
      holds x = get-set_same regs r (Integer x) (omega (arith, lt))

      by : (q : Option ℤ) → o ≡ q → Taken (take (Some f) e r) q r regs
      by None q = record {
        end = first (pos 0);
        same = same (pos 0);
        is = set_first w r f rest regs (pos 0) (flag None q) ∙ if_false w (Register r) (set (suc r) e) NoStatement (first (pos 0)) (holds (pos 0));
        flag_is = holds (pos 0);
        value_is = λ z e. absurd cc;
      }
      by (Some z) q =
          second_set r (first (pos 1)) e z (omega (arith, (same (pos 1)).long, lt)) (holds (pos 1)) ((h (first (pos 1)) (same (pos 1))).value_is z q) regs (take (Some f) e r) (same (pos 1))
          (set_first w r f rest regs (pos 1) (flag (Some z) q) ∙ if_true w (Register r) (set (suc r) e) NoStatement (first (pos 1)) (holds (pos 1)))

  length_two : (rs : List MonType) (t : MonType) → length (rs ++ I32 ∷ t ∷ []) ≡ suc (suc (length rs))
  length_two rs t = omega (arith, length-append rs (I32 ∷ t ∷ []))

  -- what is taken is code
  taken_codes : (a : MonStatements) (t : MonType) (js : List MonType) (o : Option ℤ) (rs : List MonType) (regs mid : List Value) (b : MonStatements) → length rs ≤ length js → Same (length rs) regs mid
      → runs w a regs ≡ runs w b mid → Taken b o (length js) mid → Codes (taken a t js) o rs regs
  taken_codes a t js o rs regs mid b le same leads h = record {
    end = h.end;
    same = same_trans (length rs) (length js) regs mid h.end le same h.same;
    is = leads ∙ h.is;
    holds = λ later s. record {
      flag_is = s.below (length js) (omega (arith, length_two js t)) ∙ h.flag_is;
      value_is = λ z e. s.below (suc (length js)) (omega (arith, length_two js t)) ∙ h.value_is z e;
    };
  }

  -- ---- two parts

  -- one part and then another, and what both hold in the end
  pub record Both (a b : Code) (oa ob : Option ℤ) (rs : List MonType) (regs : List Value) : Type 0 where
    pub end : List Value
    pub same : Same (length rs) regs end
    pub is : runs w (before a.stmts b.stmts) regs ≡ Done (Next end) w.target []
    pub first : (later : List Value) → Same (length b.used) end later → Holds a.flag a.value oa later
    pub second : (later : List Value) → Same (length b.used) end later → Holds b.flag b.value ob later

  pub both_run : (a b : Code) (oa ob : Option ℤ) (rs : List MonType) (regs : List Value) → length rs ≤ length a.used → length a.used ≤ length b.used
      → (ca : Codes a oa rs regs) → Codes b ob a.used ca.end → Both a b oa ob rs regs
  both_run a b oa ob rs regs le more ca c = record {
    end = c.end;
    same = same_trans (length rs) (length a.used) regs ca.end c.end le ca.same c.same;
    is = after_runs w a.stmts b.stmts regs ca.end ca.is ∙ c.is;
    first = λ later s. ca.holds later (same_trans (length a.used) (length b.used) ca.end c.end later more c.same s);
    second = c.holds;
  }

  -- two parts as code, after which both still hold what they did
  pub record Two (a b : Code) (e : MonExpression) (oa ob o : Option ℤ) (rs : List MonType) (regs : List Value) : Type 0 where
    pub codes : Codes (two_code a b e) o rs regs
    pub first : (later : List Value) → Same (length b.used) codes.end later → Holds a.flag a.value oa later
    pub second : (later : List Value) → Same (length b.used) codes.end later → Holds b.flag b.value ob later

  pub two_runs : (a b : Code) (e : MonExpression) (oa ob o : Option ℤ) (rs : List MonType) (regs : List Value) → Both a b oa ob rs regs
      → is_some o ≡ (is_some oa && is_some ob) → ((later : List Value) → ((x : ℤ) → oa ≡ Some x → HasNumber w a.value later x) → ((y : ℤ) → ob ≡ Some y → HasNumber w b.value later y) → (z : ℤ) → o ≡ Some z → HasNumber w e later z)
      → Two a b e oa ob o rs regs
  two_runs a b e oa ob o rs regs h there has = record {
    codes = record {
      end = h.end;
      same = h.same;
      is = h.is;
      holds = λ later s.
          let ha = h.first later s in
          let hb = h.second later s in record {
            flag_is = subst (λ t. FlagIs (conjunction a.flag b.flag) t later) (sym there) (flag_both a.flag b.flag (is_some oa) (is_some ob) later ha.flag_is hb.flag_is);
            value_is = λ z q. has later ha.value_is hb.value_is z q;
          };
    };
    first = h.first;
    second = h.second;
  }

  -- a part, and what is made of its value without further statements
  pub changed : (c : Code) (e : MonExpression) (a o : Option ℤ) (rs : List MonType) (regs : List Value) → Codes c a rs regs → is_some o ≡ is_some a
      → ((later : List Value) → ((x : ℤ) → a ≡ Some x → HasNumber w c.value later x) → (z : ℤ) → o ≡ Some z → HasNumber w e later z) → Codes (code_with_value e c) o rs regs
  changed c e a o rs regs h there has = record {
    end = h.end;
    same = h.same;
    is = h.is;
    holds = λ later s.
        let hs = h.holds later s in record {
          flag_is = subst (λ t. FlagIs c.flag t later) (sym there) hs.flag_is;
          value_is = λ z q. has later hs.value_is z q;
        };
  }

  pub sure_codes : (e : MonExpression) (o : Option ℤ) (z : ℤ) (rs : List MonType) (regs : List Value) → o ≡ Some z → ((later : List Value) → Same (length rs) regs later → HasNumber w e later z) → Codes (sure_code e rs) o rs regs
  sure_codes e o z rs regs p has = record {
    end = regs;
    same = same_all (length rs) regs;
    is = refl;
    holds = λ later s. record {
      flag_is = ap is_some p;
      value_is = λ y q. let same_number : z ≡ y = cc in has later s ∙ ap (λ y. Some (Integer y)) same_number;
    };
  }

  -- two parts, and what may be made of them
  pub partial_runs : (a b : Code) (g e : MonExpression) (t : MonType) (oa ob : Option ℤ) (f : ℤ → ℤ → Option ℤ) (rs : List MonType) (regs : List Value) → length rs ≤ length b.used
      → suc (length b.used) < length regs → Both a b oa ob rs regs
      → ((x y : ℤ) → oa ≡ Some x → ob ≡ Some y → (later : List Value) → HasNumber w a.value later x → HasNumber w b.value later y → Holds (Some g) e (f x y) later)
      → Codes (taken (before (before a.stmts b.stmts) (guarded (conjunction a.flag b.flag) (take (Some g) e (length b.used)) (take_none (length b.used)))) t b.used) (pair oa ob f) rs regs
  partial_runs a b g e t oa ob f rs regs le room h makes = cases oa ob refl refl
    where
      on : MonStatements
      on = take (Some g) e (length b.used)

      off : MonStatements
      off = take_none (length b.used)

      flag : Option MonExpression
      flag = conjunction a.flag b.flag

      all : MonStatements
      all = before (before a.stmts b.stmts) (guarded flag on off)

      leads : runs w all regs ≡ runs w (guarded flag on off) h.end
      leads = after_runs w (before a.stmts b.stmts) (guarded flag on off) regs h.end h.is

      room_there : suc (length b.used) < length h.end
      room_there = omega (arith, room, h.same.long)

      flag_is : (x y : Bool) → is_some oa ≡ x → is_some ob ≡ y → FlagIs flag (x && y) h.end
      flag_is x y p q =
          subst (λ t. FlagIs flag (t && y) h.end) p (subst (λ t. FlagIs flag (is_some oa && t) h.end) q
          (flag_both a.flag b.flag (is_some oa) (is_some ob) h.end (h.first h.end (same_all (length b.used) h.end)).flag_is (h.second h.end (same_all (length b.used) h.end)).flag_is))

      missing : FlagIs flag false h.end → Codes (taken all t b.used) None rs regs
      missing p =
          taken_codes all t b.used None rs regs h.end off le h.same (leads ∙ guarded_false flag on off h.end p)
          (none_taken (length b.used) h.end (omega (arith, room_there)))

      made : (x y : ℤ) → oa ≡ Some x → ob ≡ Some y → Codes (taken all t b.used) (f x y) rs regs
      made x y p q =
          taken_codes all t b.used (f x y) rs regs h.end on le h.same
          (leads ∙ guarded_true flag on off h.end (flag_is true true (ap is_some p) (ap is_some q)))
          (take_runs (Some g) e (f x y) (length b.used) h.end room_there (λ later s. makes x y p q later ((h.first later s).value_is x p) ((h.second later s).value_is y q)))

      cases : (u v : Option ℤ) → oa ≡ u → ob ≡ v → Codes (taken all t b.used) (pair u v f) rs regs
      cases None v p q = missing (flag_is false (is_some ob) (ap is_some p) refl)
      cases (Some x) None p q = missing (flag_is true false (ap is_some p) (ap is_some q))
      cases (Some x) (Some y) p q = made x y p q

  -- a part that stands in registers then
  pub settled_runs : (t : MonType) (c : Code) (o : Option ℤ) (rs : List MonType) (regs : List Value) → length rs ≤ length c.used → suc (length c.used) < length regs → Codes c o rs regs → Codes (settled t c) o rs regs
  settled_runs t c o rs regs le room h =
      taken_codes (before c.stmts (take c.flag c.value (length c.used))) t c.used o rs regs h.end (take c.flag c.value (length c.used)) le h.same (after_runs w c.stmts (take c.flag c.value (length c.used)) regs h.end h.is)
      (take_runs c.flag c.value o (length c.used) h.end (omega (arith, room, h.same.long)) (λ later s. h.holds later s))

  -- ---- a choice

  -- one of the two runs, each after registers of its own
  pub branch_runs : (t : MonType) (c a b : Code) (oc : Option Bool) (oa ob : Option ℤ) (rs ja jb : List MonType) (regs : List Value) → length rs ≤ length ja → length rs ≤ length jb → length rs ≤ length b.used → length a.used ≤ length b.used
      → suc (length b.used) < length regs → (cc : Codes c (truths oc) rs regs) → (oc ≡ Some true → Codes a oa ja cc.end) → (oc ≡ Some false → Codes b ob jb cc.end) → Codes (branch t c a b) (chosen oc oa ob) rs regs
  branch_runs t c a b oc oa ob rs ja jb regs le_a le_b le more room cc ca cb = by oc refl
    where
      r : ℕ
      r = length b.used

      on : MonStatements
      on = before a.stmts (take a.flag a.value r)

      off : MonStatements
      off = before b.stmts (take b.flag b.value r)

      inner : MonStatements
      inner = one (If c.value on off)

      all : MonStatements
      all = before c.stmts (guarded c.flag inner (take_none r))

      leads : runs w all regs ≡ runs w (guarded c.flag inner (take_none r)) cc.end
      leads = after_runs w c.stmts (guarded c.flag inner (take_none r)) regs cc.end cc.is

      here : Holds c.flag c.value (truths oc) cc.end
      here = cc.holds cc.end (same_all (length c.used) cc.end)

      flag_is : (u : Option Bool) → oc ≡ u → FlagIs c.flag (is_some (truths u)) cc.end
      flag_is u p = subst (λ u. FlagIs c.flag (is_some (truths u)) cc.end) p here.flag_is

      value_is : (x : Bool) → oc ≡ Some x → HasNumber w c.value cc.end (truth x)
      value_is x p = here.value_is (truth x) (ap truths p)

      part : (d : Code) (o : Option ℤ) (js : List MonType) → length rs ≤ length js → length d.used ≤ r → (h : Codes d o js cc.end) → runs w all regs ≡ runs w (before d.stmts (take d.flag d.value r)) cc.end → Codes (branch t c a b) o rs regs
      part d o js l1 l3 h at =
          let same : Same (length rs) regs h.end = same_trans (length rs) (length js) regs cc.end h.end l1 cc.same h.same in
          taken_codes all t b.used o rs regs h.end (take d.flag d.value r) le same (at ∙ after_runs w d.stmts (take d.flag d.value r) cc.end h.end h.is)
          (take_runs d.flag d.value o r h.end (omega (arith, room, same.long)) (λ later s. h.holds later (same_less (length d.used) r h.end later l3 s)))

      by : (u : Option Bool) → oc ≡ u → Codes (branch t c a b) (chosen u oa ob) rs regs
      by None p =
          taken_codes all t b.used None rs regs cc.end (take_none r) le cc.same (leads ∙ guarded_false c.flag inner (take_none r) cc.end (flag_is None p))
          (none_taken r cc.end (omega (arith, room, cc.same.long)))
      by (Some true) p =
          part a oa ja le_a more (ca p) (leads ∙ guarded_true c.flag inner (take_none r) cc.end (flag_is (Some true) p) ∙ if_true w c.value on off cc.end (value_is true p))
      by (Some false) p =
          part b ob jb le_b (omega arith) (cb p)
          (leads ∙ guarded_true c.flag inner (take_none r) cc.end (flag_is (Some false) p) ∙ if_false w c.value on off cc.end (value_is false p))
