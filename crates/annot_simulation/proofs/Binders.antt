-- The code of a chain's binders tries their values as the quantifier does.
use Rattle.std.proofs.Common.{◌≡◌, ℕ, suc, ◌<◌, ◌≤◌, ℤ, pos, ◌≤ℤ◌, Bool, true, false, ◌&&◌, if◌then◌else◌, cond, int_lt, nat_eq, List, [], ◌∷◌, ◌++◌, length, length-append, Option, Some, None, slice_get, refl, sym, ap, ◌∙◌, subst, arith}
use Rattle.std.proofs.lemmas.Int.{ints, clamps}
use Rattle.std.specs.Int.{int_max, int_min}
use Rattle.c_syntax.specs.declared.annotation.Range.{Range}
use Rattle.c_syntax.specs.declared.types.CInt.{CInt}
use Rattle.c_syntax.specs.declared.types.Width.{Width}
use Rattle.c_syntax.specs.declared.types.Width.TheVariants.{W32, W64, W128}
use Rattle.c_syntax.specs.declared.logic.Quantifier.{Quantifier}
use Rattle.c_syntax.specs.Formulas.{CastType, Integers, OfC}
use Rattle.c_syntax.specs.Logic.{Binder}
use Rattle.c_model.specs.Integers.{integer_type}
use Rattle.c_model.specs.Logic.{Mathematical, Environment, always, look, meant, Answer, Says, SaysNothing, OutOfSteps, of_value}
use Rattle.c_model.specs.Memory.{Value, Integer}
use Rattle.c_model.specs.Quantifiers.{tries, first_of, last_of, values, over}
use Rattle.c_model.specs.Ranges.{LiesIn, IsWithin128, range_in_bits}
use Rattle.c_model.specs.TermRanges.{Seen, range_seen, type_range, raised, tried_range, seen_binders, are_bounded}
use Rattle.c_model.proofs.Along.{steps_of, steps_over}
use Rattle.c_simulation.specs.Keeping.{Kept, is_pointer_term, registers_by}
use Rattle.c_simulation.specs.SameRegisters.{Same}
use Rattle.c_simulation.proofs.Registers.{gives_same}
use Rattle.ea_num.proofs.Bounded.{bounded_some}
use Rattle.interval_infer.specs.Terms.{NamesFit}
use Rattle.interval_infer.proofs.Binders.{one_fits, tried_lies}
use Rattle.mon_syntax.specs.declared.tree.MonType.{MonType}
use Rattle.mon_syntax.specs.declared.tree.MonType.TheVariants.{I32, Ptr}
use Rattle.mon_syntax.specs.Arithmetic.{wrap}
use Rattle.mon_syntax.specs.Checking.{same_type}
use Rattle.mon_syntax.specs.Trees.{MonExpression, Register}
use Rattle.quantifier_loops.proofs.Values.{between_fits}
use Rattle.annot_simulation.specs.Binders.{greatest_of, index_behind, least_of, over_code, tried_with, tries_code, with_last}
use Rattle.annot_simulation.specs.Code.{Code, type_of_width}
use Rattle.annot_simulation.specs.Does.{Setting, Stands, IsHeld, HasKept, IsSorted, with_steps}
use Rattle.annot_simulation.specs.Held.{Held, Sorted, held_by, kept_at, sorts_held, sorts_within}
use Rattle.annot_simulation.proofs.Exact.{is_number}
use Rattle.annot_simulation.proofs.Grows.{over_grows}
use Rattle.annot_simulation.proofs.Steps.{same_all, same_less, same_trans, HasNumber}
use Rattle.annot_simulation.proofs.Told.{Told, at_most_told}
use Rattle.annot_simulation.proofs.Tries.{from_least, tries_told}
use Rattle.annot_simulation.proofs.Variables.{some_same}

-- ---- other names in the same place

-- the same place, where other names are held, from other registers and with so many steps left
abbrev pub moved : Setting → List Held → Seen → Environment → ℕ → List Value → ℕ → Setting
moved w hs m e low base n = record w { held = hs; seen = m; names = e; low = low; regs = base; target = record w.target { steps = n } }

-- what code comes to doesn't depend on what is held
pub told_moved : (w : Setting) (hs hs2 : List Held) (m m2 : Seen) (e e2 : Environment) (low low2 : ℕ) (base base2 : List Value) (n : ℕ) (c : Code) (A : Answer) (rs : List MonType) (regs : List Value)
    → Told (moved w hs m e low base n) c A rs regs → Told (moved w hs2 m2 e2 low2 base2 n) c A rs regs
told_moved w hs hs2 m m2 e e2 low low2 base base2 n c (Says b k) rs regs h =
    record { end = h.end; same = h.same; is = h.is; holds = λ later s. let g = h.holds later s in record { flag_is = g.flag_is; value_is = g.value_is } }
told_moved w hs hs2 m m2 e e2 low low2 base base2 n c (SaysNothing k) rs regs h =
    record { end = h.end; same = h.same; is = h.is; holds = λ later s. let g = h.holds later s in record { flag_is = g.flag_is; value_is = g.value_is } }
told_moved w hs hs2 m m2 e e2 low low2 base base2 n c OutOfSteps rs regs h = h

-- the part inside binders, wherever these names are held
abbrev pub Inner : Setting → (List Held → List MonType → Code) → (Environment → ℕ → Answer) → (Seen → Type 0) → (Sorted → Type 0) → Type 0
Inner w inner P R F =
    (hs : List Held) (m : Seen) (e : Environment) (low : ℕ) (base : List Value) (n : ℕ) (js : List MonType) (regs : List Value) → Stands (moved w hs m e low base n) → NamesFit m w.now e → R m → F (sorts_held hs) → low ≤ length js → Same low base regs
    → length (inner hs js).used ≤ length regs → n ≤ w.turns → Told (moved w hs m e low base n) (inner hs js) (P e n) js regs

-- ---- one more name

-- an index is no pointer
pub is_no_pointer : (width : Width) → same_type (type_of_width width) Ptr ≡ false
is_no_pointer W32 = refl
is_no_pointer W64 = refl
is_no_pointer W128 = refl

module _ (w : Setting) (hs : List Held) (m : Seen) (e : Environment) (low : ℕ) (base : List Value) (n : ℕ) (number : ℕ) (width : Width) (r : Range) (js : List MonType) (mid : List Value) (v : ℤ) (index : ℕ) where
  abbrev new : Held
  new = record { number = number; register = index; kind = type_of_width width }

  abbrev there : Setting
  there = moved w (new ∷ hs) ((number, r) ∷ m) ((number, always (Mathematical v)) ∷ e) (length js) mid n

  one_held : (o : ℕ) → Stands (moved w hs m e low base o) → index < length js → slice_get mid index ≡ Some (Integer v) → Same low base mid → low ≤ length js → Stands there
  one_held o st behind index_is near le = record {
    store_is = st.store_is;
    points = λ x number found later s. st.points x number found later (same_trans low (length js) base mid later le near s);
    held = λ x h f. by x h (nat_eq number x) refl f;
    keeps = λ at k f.
        let kept = st.keeps at k f in
        let b = kept.below in record {
          below = omega (arith, b, le);
          gives = gives_same low k.term _ k.register base mid (is_pointer_term k.term) refl kept.below near kept.gives;
        };
    sound = st.sound;
  }
    where
      by : (x : ℕ) (h : Held) (t : Bool) → nat_eq number x ≡ t → cond t (Some new) (held_by x hs) ≡ Some h → IsHeld there x h
      by x h true p f =
          let same_held : new ≡ h = some_same new h f in
          subst (IsHeld there x) same_held (record {
            value = Integer v;
            sorted = subst (λ b. IsSorted b (Integer v)) (sym (is_no_pointer width)) (v, refl);
            starts = λ pointer s g. let no : false ≡ true = sym (is_no_pointer width) ∙ pointer in absurd cc;
            is = ap (λ t. meant w.now (cond t (Some (always (Mathematical v))) (look x e))) p;
            holds = λ later s. s.below index behind ∙ index_is;
          })
      by x h false p f =
          let i = st.held x h f in record {
            value = i.value;
            sorted = i.sorted;
            starts = λ pointer s g. i.starts pointer s (sym (ap (λ t. cond t (Some r) (range_seen x m)) p) ∙ g);
            is = ap (λ t. meant w.now (cond t (Some (always (Mathematical v))) (look x e))) p ∙ i.is;
            holds = λ later s. i.holds later (same_trans low (length js) base mid later le near s);
          }

-- ---- ranges of binders

raised_up : (above : Bool) (x y : ℤ) → x ≤ℤ y → raised above x ≤ℤ raised above y
raised_up true x y l = omega (arith, ints, l)
raised_up false x y l = l

pub raised_more : (above : Bool) (x : ℤ) → x ≤ℤ raised above x
raised_more true x = omega (arith, ints)
raised_more false x = omega (arith, ints)

pub first_more : (kind : CastType) (x : ℤ) → x ≤ℤ first_of kind x
first_more Integers x = omega (arith, ints)
first_more (OfC t) x = by (integer_type t)
  where
    by : (o : Option CInt) → x ≤ℤ elim o [ None ↦ x | Some k ↦ int_max x (type_range k).lo ]
    by None = omega (arith, ints)
    by (Some k) = omega (arith, ints, clamps)

pub last_less : (kind : CastType) (x : ℤ) → last_of kind x ≤ℤ x
last_less Integers x = omega (arith, ints)
last_less (OfC t) x = by (integer_type t)
  where
    by : (o : Option CInt) → elim o [ None ↦ x | Some k ↦ int_min x (type_range k).hi ] ≤ℤ x
    by None = omega (arith, ints)
    by (Some k) = omega (arith, ints, clamps)

first_up : (kind : CastType) (x y : ℤ) → x ≤ℤ y → first_of kind x ≤ℤ first_of kind y
first_up Integers x y l = l
first_up (OfC t) x y l = by (integer_type t)
  where
    by : (o : Option CInt) → elim o [ None ↦ x | Some k ↦ int_max x (type_range k).lo ] ≤ℤ elim o [ None ↦ y | Some k ↦ int_max y (type_range k).lo ]
    by None = l
    by (Some k) = omega (arith, ints, clamps, l)

-- the first value is computed where the range doesn't exclude the least of the type
first_is : (kind : CastType) (lr x : ℤ) → lr ≤ℤ x → from_least (least_of kind lr) x ≡ first_of kind x
first_is Integers lr x le = refl
first_is (OfC t) lr x le = by (integer_type t)
  where
    by : (o : Option CInt) → from_least (elim o [ None ↦ None | Some k ↦ if int_lt lr (type_range k).lo then Some (type_range k).lo else None ]) x ≡ elim o [ None ↦ x | Some k ↦ int_max x (type_range k).lo ]
    by None = refl
    by (Some k) = of_test (int_lt lr (type_range k).lo) refl
      where
        of_test : (t : Bool) → int_lt lr (type_range k).lo ≡ t → from_least (if t then Some (type_range k).lo else None) x ≡ int_max x (type_range k).lo
        of_test true f = refl
        of_test false f = omega (arith, ints, clamps, f, le)

-- the last one by the greatest of the type, where an upper bound of the chain may lie above that
abbrev until_most : Option ℤ → ℤ → ℤ
until_most None x = x
until_most (Some z) x = int_min x z

last_is : (kind : CastType) (hr x : ℤ) → x ≤ℤ hr → until_most (greatest_of kind hr) x ≡ last_of kind x
last_is Integers hr x le = refl
last_is (OfC t) hr x le = by (integer_type t)
  where
    by : (o : Option CInt) → until_most (elim o [ None ↦ None | Some k ↦ if int_lt (type_range k).hi hr then Some (type_range k).hi else None ]) x ≡ elim o [ None ↦ x | Some k ↦ int_min x (type_range k).hi ]
    by None = refl
    by (Some k) = of_test (int_lt (type_range k).hi hr) refl
      where
        of_test : (t : Bool) → int_lt (type_range k).hi hr ≡ t → until_most (if t then Some (type_range k).hi else None) x ≡ int_min x (type_range k).hi
        of_test true f = refl
        of_test false f = omega (arith, ints, clamps, f, le)

both_true : (a b : Bool) → (a && b) ≡ true → (a ≡ true) × (b ≡ true)
both_true true b e = (refl, e)
both_true false b e = absurd cc

within_bits : (r : Range) → range_in_bits 127 r ≡ true → IsWithin128 r
within_bits r e = (bounded_some r r (ap (λ t. if t then Some r else None) e)).within

-- ---- binders

module _ (w : Setting) (q : Quantifier) (width : Width) (inner : List Held → List MonType → Code) (P : Environment → ℕ → Answer) (R : Seen → Type 0) (F : Sorted → Type 0) (inside : Inner w inner P R F)
    (grows : (hs : List Held) (js : List MonType) → length js ≤ length (inner hs js).used) (falls : (e : Environment) (n : ℕ) → steps_of (P e n) ≤ n) (to : MonExpression) (last hr : ℤ) (below : last ≤ℤ hr)
    (last_fits : wrap (type_of_width width) last ≡ last) where
  abbrev k : MonType
  k = type_of_width width

  abbrev chain_code : MonExpression → ℤ → List Binder → List Held → List MonType → Code
  chain_code u at bs hs rs = over_code q k to hr inner u at bs hs rs

  -- the ranges of binders go from one number on, and their code from another, as a type of C alone may have lesser values than the code ever tries
  abbrev OverTold : List Binder → Type 0
  OverTold bs =
      (u : MonExpression) (l lr at : ℤ) → lr ≤ℤ l → at ≤ℤ l → wrap (type_of_width width) l ≡ l → are_bounded lr bs hr ≡ true
      → (hs : List Held) (m : Seen) (e : Environment) (low : ℕ) (base : List Value) (n : ℕ) (rs : List MonType) (regs : List Value) → Stands (moved w hs m e low base n) → NamesFit m w.now e → R (seen_binders lr bs hr m)
      → F (sorts_within bs (sorts_held hs))
      → low ≤ length rs → Same low base regs → ((later : List Value) → Same (length rs) regs later → HasNumber w u later l) → ((later : List Value) → Same (length rs) regs later → HasNumber w to later last)
      → length (over_code q (type_of_width width) to hr inner u at bs hs rs).used ≤ length regs → n ≤ w.turns
      → Told (moved w hs m e low base n) (over_code q (type_of_width width) to hr inner u at bs hs rs) (over q l bs last P e n) rs regs

  pub over_told : (bs : List Binder) → OverTold bs
  over_told [] u l lr at lle ale l_fits small hs m e low base n rs regs st ft r f le near u_has to_has room lt = inside hs m e low base n rs regs st ft r f le near room lt
  over_told (b ∷ bs) u l lr at lle ale l_fits small hs m e low base n rs regs st ft r f le near u_has to_has room lt = by (over_told bs) (greatest_of b.kind hr) refl room
    where
      range : Range
      range = tried_range b.kind (raised b.above lr) hr

      bounded : (range_in_bits 127 range ≡ true) × (are_bounded range.lo bs hr ≡ true)
      bounded = both_true (range_in_bits 127 range) (are_bounded range.lo bs hr) small

      first : ℤ
      first = first_of b.kind (raised b.above l)

      p : ℤ → ℕ → Answer
      p v = over q v bs last P ((b.place.offset, always (Mathematical v)) ∷ e)

      place : Setting
      place = moved w hs m e low base n

      lower : raised b.above lr ≤ℤ raised b.above l
      lower = raised_up b.above lr l lle

      least : ℤ
      least = first_of b.kind (raised b.above at)

      lower_code : raised b.above at ≤ℤ raised b.above l
      lower_code = raised_up b.above at l ale

      first_here : from_least (least_of b.kind (raised b.above at)) (raised b.above l) ≡ first
      first_here = first_is b.kind (raised b.above at) (raised b.above l) lower_code

      -- the loop, after registers of these types, with the last value in an expression
      loop_code : MonExpression → List MonType → Code
      loop_code end js =
          tries_code q (record { above = b.above; kind = k; least = least_of b.kind (raised b.above at); from = u; to = end }) (length js)
          (chain_code (Register (index_behind js)) least bs (record { number = b.place.offset; register = index_behind js; kind = k } ∷ hs) (tried_with k js))

      looped : OverTold bs → (js : List MonType) (here : List Value) (end : MonExpression) → length rs ≤ length js → Same (length rs) regs here → ((later : List Value) → Same (length js) here later → HasNumber w end later (last_of b.kind last))
          → length (loop_code end js).used ≤ length here → Told place (loop_code end js) (over q l (b ∷ bs) last P e n) js here
      looped others js here end more near_here end_has room_here =
          subst (λ (A : Answer). Told place (loop_code end js) A js here) (ap (λ z. tries q (values z (last_of b.kind last)) z p n) first_here)
          (tries_told place q b.above width (least_of b.kind (raised b.above at)) u end l (last_of b.kind last) c p js here (over_grows q k to hr inner grows (Register index) least bs hs2 zs) room_here
          (λ later s. u_has later (same_trans (length rs) (length js) regs here later more near_here s)) end_has l_fits
          (λ some. let less = last_less b.kind last in between_fits k l (last_of b.kind last) last (omega (arith, ints, raised_more b.above l, some)) less l_fits last_fits)
          (λ v n2 mid ge lev lt2 near2 index_is.
          let from_first : first ≤ℤ v = subst (λ z. z ≤ℤ v) first_here ge in
          let v_lies = tried_lies b.kind (raised b.above lr) (raised b.above l) last hr v lower below from_first lev in
          let near_regs : Same (length rs) regs mid = same_trans (length rs) (length js) regs here mid more near_here near2 in
          let near_mid : Same low base mid = same_trans low (length rs) base regs mid le near near_regs in
          let v_fits = between_fits k l v last (omega (arith, ints, raised_more b.above l, first_more b.kind (raised b.above l), from_first)) (omega (arith, ints, lev, last_less b.kind last)) l_fits last_fits in
          told_moved w hs2 hs ((b.place.offset, range) ∷ m) m ((b.place.offset, always (Mathematical v)) ∷ e) e (length zs) low mid base n2 c (p v n2) zs mid
          (others (Register index) v range.lo least v_lies.above (omega (arith, ints, first_up b.kind (raised b.above at) (raised b.above l) lower_code, from_first)) v_fits bounded.1 hs2 ((b.place.offset, range) ∷ m)
          ((b.place.offset, always (Mathematical v)) ∷ e) (length zs) mid n2 zs mid
          (one_held w hs m e low base n2 b.place.offset width range zs mid v index n st (omega (arith, zs_long)) index_is near_mid (omega (arith, le, more, zs_long)))
          (one_fits m w.now e b.place.offset range (Mathematical v) ft v_lies (within_bits range bounded.0)) r
          (subst (λ t. F (sorts_within bs ((b.place.offset, t) ∷ sorts_held hs))) (sym (is_no_pointer width)) f)
          (omega arith) (same_all (length zs) mid)
          (λ later s. s.below index (omega (arith, zs_long)) ∙ index_is)
          (λ later s. to_has later (same_trans (length rs) (length zs) regs mid later (omega (arith, zs_long, more)) near_regs s)) (omega (arith, room_here, near2.long)) lt2))
          (λ v n2. steps_over q v bs last P falls ((b.place.offset, always (Mathematical v)) ∷ e) n2) lt)
        where
          index : ℕ
          index = index_behind js

          zs : List MonType
          zs = tried_with k js

          zs_long : length zs ≡ suc (suc (suc (suc (length js))))
          zs_long = omega (arith, length-append js (I32 ∷ I32 ∷ I32 ∷ type_of_width width ∷ []))

          hs2 : List Held
          hs2 = record { number = b.place.offset; register = index; kind = k } ∷ hs

          c : Code
          c = chain_code (Register index) least bs hs2 zs

      last_here : (o : Option ℤ) → greatest_of b.kind hr ≡ o → until_most o last ≡ last_of b.kind last
      last_here o g = ap (λ o. until_most o last) (sym g) ∙ last_is b.kind hr last below

      by : OverTold bs → (o : Option ℤ) → greatest_of b.kind hr ≡ o → length (with_last k to o loop_code rs).used ≤ length regs → Told place (with_last k to o loop_code rs) (over q l (b ∷ bs) last P e n) rs regs
      by others None g enough =
          looped others rs regs to (omega arith) (same_all (length rs) regs) (λ later s. to_has later s ∙ ap (λ z. Some (Integer z)) (last_here None g)) enough
      by others (Some z) g enough =
          let one_more = length-append rs (k ∷ []) in
          let grown = over_grows q k to hr inner grows (Register (index_behind (rs ++ k ∷ []))) least bs (record { number = b.place.offset; register = index_behind (rs ++ k ∷ []); kind = k } ∷ hs) (tried_with k (rs ++ k ∷ [])) in
          let four = length-append (rs ++ k ∷ []) (I32 ∷ I32 ∷ I32 ∷ k ∷ []) in
          at_most_told place to last z (loop_code (Register (length rs)) (rs ++ k ∷ [])) (over q l (b ∷ bs) last P e n) rs k regs (is_number width) (to_has regs (same_all (length rs) regs)) (omega (arith, enough, one_more, grown, four))
          (λ next s at_is.
          looped others (rs ++ k ∷ []) next (Register (length rs)) (omega (arith, one_more)) s
          (λ later t. t.below (length rs) (omega (arith, one_more)) ∙ at_is ∙ ap (λ z. Some (Integer z)) (last_here (Some z) g)) (omega (arith, enough, s.long)))
