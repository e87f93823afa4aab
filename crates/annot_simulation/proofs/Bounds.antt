-- The code of a chain asks for both bounds once, and then tries the values between them.
use Rattle.std.proofs.Common.{◌≡◌, ℕ, suc, ◌+◌, ◌<◌, ◌≤◌, ℤ, pos, ◌-ℤ◌, ◌≤ℤ◌, ◌<ℤ◌, int_le, int_lt, Bool, true, false, if◌then◌else◌, List, [], ◌∷◌, ◌++◌, length, length-append, Option, Some, None, slice_get, slice_set, refl, sym, ap, ◌∙◌}
use Rattle.std.proofs.Common.{subst, arith}
use Rattle.std.proofs.lemmas.Int.{ints, clamps}
use Rattle.c_syntax.specs.declared.annotation.Relation.{Relation}
use Rattle.c_syntax.specs.declared.types.CInt.{CInt}
use Rattle.c_syntax.specs.declared.types.Width.{Width}
use Rattle.c_syntax.specs.declared.logic.Quantifier.{Quantifier}
use Rattle.c_syntax.specs.Formulas.{CastType, Integers, OfC}
use Rattle.c_syntax.specs.Logic.{LogicTerm, Binder, range_of}
use Rattle.c_model.specs.Integers.{truth}
use Rattle.c_model.specs.Logic.{TermValue, Mathematical, Addressed, Environment, always, Answer, Says, SaysNothing, OutOfSteps, related, relates}
use Rattle.c_model.specs.Memory.{Store, Value, Integer}
use Rattle.c_model.specs.Predicates.{term}
use Rattle.c_model.specs.Quantifiers.{undecided, tries, first_of, last_of, values, over, between}
use Rattle.c_model.specs.TermRanges.{Seen, raised, lowered, seen_binders, are_bounded, TermRanged}
use Rattle.c_model.proofs.Along.{steps_of}
use Rattle.c_simulation.specs.SameRegisters.{Same}
use Rattle.interval_infer.specs.Terms.{NamesFit, StateFits}
use Rattle.mon_syntax.specs.declared.tree.MonOp.TheVariants as mon
use Rattle.mon_syntax.specs.declared.tree.MonType.{MonType}
use Rattle.mon_syntax.specs.declared.tree.MonType.TheVariants.{I32}
use Rattle.mon_syntax.specs.Arithmetic.{wrap}
use Rattle.mon_syntax.specs.Trees.{MonExpression, Register, Constant}
use Rattle.c_effects.specs.Expressions.{in_type}
use Rattle.quantifier_loops.proofs.Values.{between_fits, values_none}
use Rattle.annot_simulation.specs.Binders.{bounded_code, bounds_relation, last_before, over_code}
use Rattle.annot_simulation.specs.Code.{Code, Reading, branch, relation_code, relation_value, sure_readings_of_term, truth_code, type_of, type_of_width, width_of, wider}
use Rattle.annot_simulation.specs.Does.{Setting, Stands, RangesHold, TermFound}
use Rattle.annot_simulation.specs.Held.{Held, Sorted, sorts_held, sorts_within}
use Rattle.annot_simulation.proofs.Binders.{Inner, first_more, last_less, moved, over_told, raised_more}
use Rattle.annot_simulation.proofs.Exact.{Fits, value_of, wrap_in, fits_left, fits_right, is_number}
use Rattle.annot_simulation.proofs.Grows.{bounded_grows, over_grows}
use Rattle.annot_simulation.proofs.Held.{number_in, stands_sorted}
use Rattle.annot_simulation.proofs.Parts.{truths, Codes, Two, both_run}
use Rattle.annot_simulation.proofs.Quiet.{IsNoPointer, relation_says, said_by}
use Rattle.annot_simulation.proofs.Sides.{numbers_related, relation_truth}
use Rattle.annot_simulation.proofs.Steps.{same_all, same_trans, same_set, get-set_same, HasNumber, constant_has, in_type_has, operation}
use Rattle.annot_simulation.proofs.Terms.{from_value, term_fits, term_lies}
use Rattle.annot_simulation.proofs.Told.{Told, branch_quiet, chosen_answer, set_told, truth_told}
use Rattle.annot_simulation.proofs.Variables.{AllRead, read-append, related_there, term_read}

-- ---- both bounds

related_up : (below : Bool) (l h : ℤ) → truth (relates (bounds_relation below) l h) ≡ truth true → l ≤ℤ lowered below h
related_up true l h e = by (int_lt l h) refl e
  where
    by : (t : Bool) → int_lt l h ≡ t → truth t ≡ truth true → l ≤ℤ (h -ℤ pos 1)
    by true p f = omega (arith, ints, p)
    by false p f = absurd cc
related_up false l h e = by (int_le l h) refl e
  where
    by : (t : Bool) → int_le l h ≡ t → truth t ≡ truth true → l ≤ℤ h
    by true p f = omega (arith, ints, p)
    by false p f = absurd cc

lowered_down : (below : Bool) (h : ℤ) → lowered below h ≤ℤ h
lowered_down true h = omega (arith, ints)
lowered_down false h = omega (arith, ints)

lowered_up : (below : Bool) (x y : ℤ) → x ≤ℤ y → lowered below x ≤ℤ lowered below y
lowered_up true x y l = omega (arith, ints, l)
lowered_up false x y l = l

-- the last value of a chain
last_has : (w : Setting) (below : Bool) (width : Width) (t : MonExpression) (h : ℤ) (regs : List Value) → HasNumber w t regs h → wrap (type_of_width width) (lowered below h) ≡ lowered below h
    → HasNumber w (last_before below (type_of_width width) t) regs (lowered below h)
last_has w true width t h regs has f = operation w mon.Sub (type_of_width width) t (Constant (type_of_width width) (pos 1)) regs h (pos 1) (h -ℤ pos 1) (is_number width) has (constant_has w (type_of_width width) (pos 1) regs (is_number width))
    (ap Some f)
last_has w false width t h regs has f = has

-- where the relation of both bounds is false there is no value, and the quantifier says so at once
guard_answer : (store : Store) (r : Relation) (a b : Option TermValue) → IsNoPointer a → IsNoPointer b → (f : ℤ → ℤ → ℕ → Answer) (n : ℕ) (x : Bool) → ((l h : ℤ) → relates r l h ≡ false → f l h n ≡ Says x n)
    → chosen_answer (said_by (related store r a b 0)) n (between a b f n) (Says x n) ≡ between a b f n
guard_answer store r None b na nb f n x e = refl
guard_answer store r (Some (Mathematical l)) None na nb f n x e = refl
guard_answer store r (Some (Mathematical l)) (Some (Mathematical h)) na nb f n x e = by (relates r l h) (e l h)
  where
    by : (t : Bool) → (t ≡ false → f l h n ≡ Says x n) → chosen_answer (Some t) n (f l h n) (Says x n) ≡ f l h n
    by true g = refl
    by false g = sym (g refl)
guard_answer store r (Some (Mathematical l)) (Some (Addressed y)) na nb f n x e = absurd (nb y refl)
guard_answer store r (Some (Addressed x)) b na nb f n y e = absurd (na x refl)

none_over : (q : Quantifier) (below : Bool) (b : Binder) (bs : List Binder) (l h : ℤ) (P : Environment → ℕ → Answer) (e : Environment) (n : ℕ) → relates (bounds_relation below) l h ≡ false
    → over q l (b ∷ bs) (lowered below h) P e n ≡ Says (undecided q) n
none_over q below b bs l h P e n not_related =
    ap (λ j. tries q j (first_of b.kind (raised b.above l)) (λ v. over q v bs (lowered below h) P ((b.place.offset, always (Mathematical v)) ∷ e)) n)
    (values_none (first_of b.kind (raised b.above l)) (last_of b.kind (lowered below h)) none)
  where
    less : (below above : Bool) → relates (bounds_relation below) l h ≡ false → lowered below h <ℤ raised above l
    less true true p = omega (arith, ints, p)
    less true false p = omega (arith, ints, p)
    less false true p = omega (arith, ints, p)
    less false false p = omega (arith, ints, p)

    none : last_of b.kind (lowered below h) <ℤ first_of b.kind (raised b.above l)
    none = omega (arith, ints, less below b.above not_related, first_more b.kind (raised b.above l), last_less b.kind (lowered below h))

-- a chain takes a register for its last value
bounded_more : (q : Quantifier) (below : Bool) (k : MonType) (u t : MonExpression) (least most : ℤ) (bs : List Binder) (inner : List Held → List MonType → Code) (hs : List Held) (ys : List MonType)
    → ((hs : List Held) (js : List MonType) → length js ≤ length (inner hs js).used) → suc (length ys) ≤ length (bounded_code q below k u t least most bs inner hs ys).used
bounded_more q below k u t least most bs inner hs ys h =
    let g = over_grows q k (Register (length ys)) most inner h u least bs hs (ys ++ k ∷ []) in omega (arith, g, length-append ys (k ∷ []))

-- ---- a chain

-- code that holds the names of the inner part is what they are there for
module _ (w : Setting) (fits : StateFits w.now) (q : Quantifier) (a : LogicTerm) (y : Binder) (ys : List Binder) (below : Bool) (b : LogicTerm) (inner : List Held → List MonType → Code) (P : Environment → ℕ → Answer) (R : Seen → Type 0)
    (F : Sorted → Type 0)
    (known : List Reading) (all : AllRead w.now known) (inside : AllRead w.now (known ++ (sure_readings_of_term a ++ sure_readings_of_term b)) → Inner w inner P R F)
    (grows : (hs : List Held) (js : List MonType) → length js ≤ length (inner hs js).used)
    (falls : (e : Environment) (n : ℕ) → steps_of (P e n) ≤ n) (hs : List Held) (m : Seen) (e : Environment) (low : ℕ) (base : List Value) (n : ℕ) (js : List MonType) (regs : List Value) (st : Stands (moved w hs m e low base n))
    (ft : NamesFit m w.now e)
    (ra : TermRanged m a) (rb : TermRanged m b) (small : are_bounded (range_of a).lo (y ∷ ys) (lowered below (range_of b).hi) ≡ true) (r : R (seen_binders (range_of a).lo (y ∷ ys) (lowered below (range_of b).hi) m))
    (fa : TermFound w.plan w.now.scope (sorts_held hs) a) (fb : TermFound w.plan w.now.scope (sorts_held hs) b) (f : F (sorts_within (y ∷ ys) (sorts_held hs))) (le : low ≤ length js) (near : Same low base regs) where
  abbrev v : Setting
  v = moved w hs m e low base n

  ranges : RangesHold m w.now e
  ranges = record { state = fits; names = ft }

  abbrev width : Width
  width = wider (width_of a) (width_of b)

  abbrev k : MonType
  k = type_of_width width

  abbrev ta : Option TermValue
  ta = term a w.now e

  abbrev tb : Option TermValue
  tb = term b w.now e

  abbrev go : ℤ → ℤ → ℕ → Answer
  go l h = over q l (y ∷ ys) (lowered below h) P e

  module _ (x z : Code) (gx : length js ≤ length x.used) (gz : length x.used ≤ length z.used) (cx : Codes v x (value_of (term a w.now e)) js regs) (cz : Codes v z (value_of (term b w.now e)) x.used cx.end) where
    abbrev u : MonExpression
    u = in_type (type_of a) k x.value

    abbrev t : MonExpression
    t = in_type (type_of b) k z.value

    abbrev c : Code
    c = bounded_code q below k u t (range_of a).lo (lowered below (range_of b).hi) (y ∷ ys) inner hs z.used

    abbrev related_code : Code
    related_code = relation_code (bounds_relation below) a b x z

    pub bounds_told : length (branch I32 related_code c (truth_code (undecided q) c.used)).used ≤ length regs → n ≤ w.turns → Told v (branch I32 related_code c (truth_code (undecided q) c.used)) (between ta tb go n) js regs
    bounds_told room lt =
        subst (λ (A : Answer). Told v (branch I32 related_code c (truth_code (undecided q) c.used)) A js regs)
        (guard_answer w.now.store (bounds_relation below) ta tb na nb go n (undecided q) (λ l h not_related. none_over q below y ys l h P e n not_related))
        (branch_quiet v related_code c (truth_code (undecided q) c.used) (said_by (related w.now.store (bounds_relation below) ta tb 0)) (between ta tb go n) (Says (undecided q) n) js z.used c.used regs (omega (arith, gx, gz))
        (omega (arith, gx, gz, gc))
        (omega (arith, gx, gz, gc)) (omega arith) (omega (arith, two, room)) both.codes there (λ not_related. truth_told v (undecided q) n c.used both.codes.end))
      where
        na : IsNoPointer ta
        na = number_in v st a fa

        nb : IsNoPointer tb
        nb = number_in v st b fb

        gc : length z.used ≤ length c.used
        gc = bounded_grows q below k u t (range_of a).lo (lowered below (range_of b).hi) (y ∷ ys) inner hs z.used grows

        two : length (c.used ++ I32 ∷ I32 ∷ []) ≡ length c.used + 2
        two = length-append c.used (I32 ∷ I32 ∷ [])

        both : Two v x z (relation_value (bounds_relation below) (type_of_width (wider (width_of a) (width_of b))) (type_of a) (type_of b) x.value z.value) (value_of ta) (value_of tb)
            (truths (said_by (related w.now.store (bounds_relation below) ta tb 0))) js regs
        both = numbers_related v st ranges (bounds_relation below) a b js regs ra rb fa fb x z (both_run v x z (value_of ta) (value_of tb) js regs gx gz cx cz)

        -- where they are so related
        there : said_by (related w.now.store (bounds_relation below) ta tb 0) ≡ Some true → Told v c (between ta tb go n) z.used both.codes.end
        there related_so =
            let i = relation_truth (value_of ta) (value_of tb) (relates (bounds_relation below)) (truth true) (sym (ap truths (relation_says w.now.store (bounds_relation below) ta tb na nb)) ∙ ap truths related_so) in
            numbers_told i.0 i.1 i.2 i.3 (related_up below i.0 i.1 i.4)
          where
            at : ℕ
            at = length z.used

            zs : List MonType
            zs = z.used ++ k ∷ []

            long : length zs ≡ suc at
            long = omega (arith, length-append z.used (k ∷ []))

            end : List Value
            end = both.codes.end

            known_there : AllRead w.now (known ++ (sure_readings_of_term a ++ sure_readings_of_term b))
            known_there =
                let seen = related_there w.now.store (bounds_relation below) ta tb true related_so in
                read-append w.now known (sure_readings_of_term a ++ sure_readings_of_term b) all
                (read-append w.now (sure_readings_of_term a) (sure_readings_of_term b) (term_read w.plan (sorts_held hs) m w.now e (stands_sorted v st) st.sound.together a ra fa seen.0.0 seen.0.1)
                (term_read w.plan (sorts_held hs) m w.now e (stands_sorted v st) st.sound.together b rb fb seen.1.0 seen.1.1))

            numbers_told : (l h : ℤ) → value_of ta ≡ Some l → value_of tb ≡ Some h → l ≤ℤ lowered below h → Told v c (between ta tb go n) z.used end
            numbers_told l h ea eb up =
                subst (λ (A : Answer). Told v c A z.used end) (λ j. between (sym (from_value ta l ea) j) (sym (from_value tb h eb) j) go n)
                (set_told v (last_before below k t) (lowered below h) (over_code q k (Register at) (lowered below (range_of b).hi) inner u (range_of a).lo (y ∷ ys) hs zs) (go l h n) z.used k end
                (last_has v below width t h end (in_type_has v (type_of b) k z.value end h h_fits ((both.second end (same_all at end)).value_is h eb)) last_fits)
                (over_told w q width inner P R F (inside known_there) grows falls (Register at) (lowered below h) (lowered below (range_of b).hi) (lowered_up below h (range_of b).hi (term_lies v st ranges b fb rb h eb).below) last_fits (y ∷ ys) u l
                (range_of a).lo (range_of a).lo
                (term_lies v st ranges a fa ra l ea).above (term_lies v st ranges a fa ra l ea).above l_fits small hs m e low base n zs next st ft r f (omega (arith, le, gx, gz, long))
                (same_trans low at base end next (omega (arith, le, gx, gz)) (same_trans low (length js) base regs end le near both.codes.same) next_same)
                (λ later s. in_type_has v (type_of a) k x.value later l l_fits ((both.first later (same_trans at (length zs) end next later (omega (arith, long)) next_same s)).value_is l ea))
                (λ later s. s.below at (omega (arith, long)) ∙ get-set_same end at (Integer (lowered below h)) (omega (arith, room, two, more, both.codes.same.long))) (omega (arith, room, two, both.codes.same.long, next_same.long)) lt))
              where
                l_fits : wrap k l ≡ l
                l_fits = wrap_in width l (fits_left (width_of a) (width_of b) l (term_fits v st ranges a fa ra l ea))

                h_fits : wrap k h ≡ h
                h_fits = wrap_in width h (fits_right (width_of a) (width_of b) h (term_fits v st ranges b fb rb h eb))

                last_fits : wrap k (lowered below h) ≡ lowered below h
                last_fits = between_fits k l (lowered below h) h up (lowered_down below h) l_fits h_fits

                next : List Value
                next = slice_set end at (Integer (lowered below h))

                next_same : Same at end next
                next_same = same_set at at end (Integer (lowered below h)) (omega arith)

                more : suc at ≤ length c.used
                more = bounded_more q below k u t (range_of a).lo (lowered below (range_of b).hi) (y ∷ ys) inner hs z.used grows
