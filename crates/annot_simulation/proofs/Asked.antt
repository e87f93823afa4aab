-- What is asked about a pointer: where a place is read, it was asked first.
use Rattle.std.proofs.Common.{◌≡◌, ℕ, suc, ◌<◌, ◌≤◌, ℤ, pos, Bool, true, false, List, [], ◌∷◌, ◌++◌, length, length-append, slice_get, slice_set, Option, Some, None, option_map, refl, sym, ap, ◌∙◌, subst, arith}
use Rattle.std.specs.Prelude.{is_some as std_is_some}
use Rattle.std.proofs.lemmas.Int.{ints}
use Rattle.c_syntax.specs.declared.annotation.Range.{Range}
use Rattle.c_syntax.specs.declared.logic.BlockFact.{BlockFact}
use Rattle.c_syntax.specs.declared.types.CInt.{CInt}
use Rattle.c_syntax.specs.declared.types.CInt.TheVariants as c
use Rattle.c_syntax.specs.declared.types.Width.{Width}
use Rattle.c_syntax.specs.Ctypes.{PlainType, Int}
use Rattle.c_syntax.specs.Ctypes as ctype
use Rattle.c_syntax.specs.Layouts.{IntegerType, PointerType, int_size}
use Rattle.c_model.specs.Integers.{truth, value_of_bits}
use Rattle.c_model.specs.Logic.{as_address, held_at, load_from, pointer_at, of_value}
use Rattle.c_model.specs.Together.{AllTogether}
use Rattle.c_model.specs.Memory.{Pointer, Value, Integer, Points, Byte, Store, load_bytes, value_from, number_of, pointer_of}
use Rattle.c_model.specs.Memory.{◌>>=◌ as bind_loaded}
use Rattle.c_model.specs.MemoryQuestions.{Address, address_of, address_farther, has_number, has_pointer}
use Rattle.c_model.specs.Ranges.{LiesIn}
use Rattle.c_model.specs.TermRanges.{offset_range}
use Rattle.mon_syntax.specs.declared.tree.MonType.{MonType}
use Rattle.mon_syntax.specs.declared.tree.MonType.TheVariants.{I32, Ptr}
use Rattle.mon_syntax.specs.Arithmetic.{access_bytes}
use Rattle.mon_syntax.specs.BlockMemory.{over_blocks, is_some, scalar_type}
use Rattle.mon_syntax.specs.Meaning.{Done, Next, at_next, then_do, with_value, eval, exec}
use Rattle.mon_syntax.specs.Meaning as monitored
use Rattle.mon_syntax.specs.Trees.{MonExpression, MonStatement, Register, Constant, Set, If, MonStatements, NoStatement, Then}
use Rattle.c_effects.specs.Expressions.{one, set, register_type}
use Rattle.c_simulation.specs.SameRegisters.{Same}
use Rattle.mem_preds.specs.declared.question.Question.{Question}
use Rattle.mem_preds.specs.declared.question.Question.TheVariants as question
use Rattle.mem_preds.specs.Questions.{read_at}
use Rattle.mem_preds.specs.Laws.{holds as holds_there, fact_of}
use Rattle.mem_preds.specs.Reads.{AreSmall, held, pointer_held}
use Rattle.mem_preds.proofs.Questions.{questions_are_answered, facts_are_told}
use Rattle.mem_preds.proofs.ReadPlaces.{numbers_are_read, pointers_are_read}
use Rattle.annot_simulation.specs.Pieces.{Code, guarded, type_of_width, access_of, take_none}
use Rattle.annot_simulation.specs.Pointers.{PointerCode, no_offset, answered_in, asked_there, told_there, number_read, pointer_read, pointer_known}
use Rattle.annot_simulation.specs.Does.{Setting, runs, IsSound}
use Rattle.annot_simulation.proofs.Steps.{same_all, same_less, same_trans, same_set, get-set_same, after_runs, last_is, writes_none, HasNumber, in_type_has, set_runs, if_true, if_false}
use Rattle.annot_simulation.proofs.Parts.{Codes, guarded_true, guarded_false}
use Rattle.annot_simulation.proofs.Exact.{Fits, wrap_in, value_of}
use Rattle.annot_simulation.proofs.Addresses.{farther_none, Based, based_in, PointerCodes}

std_some : {A : Type 0} (o : Option A) → std_is_some o ≡ is_some o
std_some None = refl
std_some (Some x) = refl

-- ---- what memory holds

-- a number, or nothing
data NumberOrNone (o : Option Value) : Type 0 where
  NoNumber : o ≡ None → NumberOrNone o
  IsNumber : (z : ℤ) → o ≡ Some (Integer z) → NumberOrNone o

number_loaded : (k : CInt) (store : Store) (x : Address) → NumberOrNone (held store k x)
number_loaded k store x = at (pointer_at x)
  where
    number : (o : Option ℕ) → NumberOrNone (option_map (λ n. Integer (value_of_bits k n)) o)
    number None = NoNumber refl
    number (Some n) = IsNumber (value_of_bits k n) refl

    by : (o : Option (List Byte)) → NumberOrNone (bind_loaded o (value_from (IntegerType k)))
    by None = NoNumber refl
    by (Some bytes) = number (number_of bytes)

    at : (o : Option Pointer) → NumberOrNone (load_from store (IntegerType k) o)
    at None = NoNumber refl
    at (Some p) = by (load_bytes store p (int_size k))

-- a pointer, or nothing
pub data PointerOrNone (o : Option Value) : Type 0 where
  NoPointer : o ≡ None → PointerOrNone o
  IsPointer : (p : Pointer) → o ≡ Some (Points p) → PointerOrNone o

pub pointer_loaded : (store : Store) (x : Address) → PointerOrNone (pointer_held store x)
pointer_loaded store x = at (pointer_at x)
  where
    pointer : (o : Option Pointer) → PointerOrNone (option_map Points o)
    pointer None = NoPointer refl
    pointer (Some p) = IsPointer p refl

    by : (o : Option (List Byte)) → PointerOrNone (bind_loaded o (value_from PointerType))
    by None = NoPointer refl
    by (Some bytes) = pointer (pointer_of bytes)

    at : (o : Option Pointer) → PointerOrNone (load_from store PointerType o)
    at None = NoPointer refl
    at (Some p) = by (load_bytes store p 8)

scalar_is : (k : CInt) → scalar_type (register_type k) ≡ Some (IntegerType k)
scalar_is c.I8 = refl
scalar_is c.U8 = refl
scalar_is c.I16 = refl
scalar_is c.U16 = refl
scalar_is c.I32 = refl
scalar_is c.U32 = refl
scalar_is c.I64 = refl
scalar_is c.U64 = refl

pub access_is : (k : CInt) → access_bytes (access_of (register_type k)) ≡ int_size k
access_is c.I8 = refl
access_is c.U8 = refl
access_is c.I16 = refl
access_is c.U16 = refl
access_is c.I32 = refl
access_is c.U32 = refl
access_is c.I64 = refl
access_is c.U64 = refl

module _ (w : Setting) where
  -- ---- statements that ask

  pub ask_first : (a : MonStatement) (b : MonStatements) (regs next : List Value) → exec over_blocks w.globals a w.calls w.turns regs w.target ≡ Done (Next next) w.target []
      → runs w (Then a b) regs ≡ runs w b next
  ask_first a b regs next e =
      ap (λ q. then_do q (at_next (monitored.exec_all over_blocks w.globals b w.calls w.turns))) e ∙ writes_none (runs w b next)

  pub ask_runs : (a : MonStatement) (regs next : List Value) → exec over_blocks w.globals a w.calls w.turns regs w.target ≡ Done (Next next) w.target []
      → runs w (one a) regs ≡ Done (Next next) w.target []
  ask_runs a regs next e = last_is w (exec over_blocks w.globals a w.calls w.turns regs w.target) ∙ e

  pub set_any : (r : ℕ) (e : MonExpression) (regs : List Value) (v : Value) → eval over_blocks w.globals e regs w.target.mem ≡ Some v → runs w (set r e) regs ≡ Done (Next (slice_set regs r v)) w.target []
  set_any r e regs v h =
      ap (λ q. then_do (with_value q w.target.steps (λ v. Done (Next (slice_set regs r v)) w.target [])) (at_next (monitored.exec_all over_blocks w.globals NoStatement w.calls w.turns))) h

  pub set_any_first : (r : ℕ) (e : MonExpression) (b : MonStatements) (regs : List Value) (v : Value) → eval over_blocks w.globals e regs w.target.mem ≡ Some v
      → runs w (Then (Set r e) b) regs ≡ runs w b (slice_set regs r v)
  set_any_first r e b regs v h =
      ap (λ q. then_do (with_value q w.target.steps (λ v. Done (Next (slice_set regs r v)) w.target [])) (at_next (monitored.exec_all over_blocks w.globals b w.calls w.turns))) h
      ∙ writes_none (runs w b (slice_set regs r v))

  -- no pointer, and so no answer
  pub record NoAnswer (c : PointerCode) (a : MonStatements) (rs : List MonType) (regs : List Value) : Type 0 where
    pub end : List Value
    pub same : Same (length rs) regs end
    pub is : runs w (answered_in (length c.used) c a) regs ≡ Done (Next end) w.target []
    pub flag_is : slice_get end (length c.used) ≡ Some (Integer (pos 0))

  pub no_answer : (c : PointerCode) (a : MonStatements) (r : Range) (rs : List MonType) (regs : List Value) → length rs ≤ length c.used → length c.used < length regs → PointerCodes w c None r rs regs
      → NoAnswer c a rs regs
  no_answer c a r rs regs le lt h =
      let at = length c.used in
      let end = slice_set h.end at (Integer (pos 0)) in record {
        end = end;
        same = same_trans (length rs) at regs h.end end le h.same (same_set at at h.end (Integer (pos 0)) (omega arith));
        is =
            after_runs w c.stmts (guarded c.flag a (take_none at)) regs h.end h.is
            ∙ guarded_false w c.flag a (take_none at) h.end (h.flag_is h.end (same_all at h.end))
            ∙ set_runs w at (Constant I32 (pos 0)) h.end (pos 0) refl;
        flag_is = get-set_same h.end at (Integer (pos 0)) (omega (arith, lt, h.same.long));
      }

  pub answer_leads : (c : PointerCode) (a : MonStatements) (x : Address) (r : Range) (rs : List MonType) (regs : List Value) → (h : PointerCodes w c (Some x) r rs regs)
      → runs w (answered_in (length c.used) c a) regs ≡ runs w a h.end
  answer_leads c a x r rs regs h =
      after_runs w c.stmts (guarded c.flag a (take_none (length c.used))) regs h.end h.is
      ∙ guarded_true w c.flag a (take_none (length c.used)) h.end (h.flag_is h.end (same_all (length c.used) h.end))

  module _ (same_store : w.target.mem.store ≡ w.now.store) where
    pub there_asked : (q : Question) (k : MonType) (c : PointerCode) (r : ℕ) (x : Address) (a : Range) (regs : List Value) → Based w c.base c.offset x a regs
        → exec over_blocks w.globals (asked_there q k c r) w.calls w.turns regs w.target
        ≡ Done (Next (slice_set regs r (Integer (truth (holds_there q w.now.store x (pos 0) (access_bytes (access_of k))))))) w.target []
    there_asked q k c r x a regs b =
        questions_are_answered q (access_of k) c.base c.offset no_offset r w.globals w.calls w.turns regs w.target b.pointer b.distance (pos 0) b.base_is b.offset_is refl
        ∙ (λ i. Done (Next (slice_set regs r (Integer (truth (holds_there q (same_store i) (b.is i) (pos 0) (access_bytes (access_of k))))))) w.target [])

    pub there_told : (f : BlockFact) (c : PointerCode) (r : ℕ) (x : Address) (a : Range) (regs : List Value) → Based w c.base c.offset x a regs
        → exec over_blocks w.globals (told_there f c r) w.calls w.turns regs w.target ≡ Done (Next (slice_set regs r (fact_of f w.now.store x))) w.target []
    there_told f c r x a regs b =
        facts_are_told f c.base c.offset r w.globals w.calls w.turns regs w.target b.pointer b.distance b.base_is b.offset_is
        ∙ (λ i. Done (Next (slice_set regs r (fact_of f (same_store i) (b.is i)))) w.target [])

    module _ (sound : IsSound w.now.store) where
      small_here : AreSmall w.target.mem.store
      small_here = subst AreSmall (sym same_store) sound.small

      together_here : AllTogether w.target.mem.store
      together_here = subst AllTogether (sym same_store) sound.together

      -- ---- what is read

      module _ (p o : MonExpression) (x : Address) (a : Range) (regs : List Value) (b : Based w p o x a regs) where
        pub number_told : (k : CInt) → has_number w.now.store x (int_size k) ≡ is_some (held w.now.store k x)
        number_told k =
            sym (λ i. has_number (same_store i) (b.is i) (int_size k))
            ∙ (numbers_are_read w.globals regs w.target.mem (register_type k) k p o b.pointer b.distance (scalar_is k) small_here b.small b.base_is b.offset_is).0
            ∙ std_some (held w.target.mem.store k (address_farther (address_of b.pointer) b.distance))
            ∙ (λ i. is_some (held (same_store i) k (b.is i)))

        pub number_loads : (k : CInt) → has_number w.now.store x (int_size k) ≡ true → eval over_blocks w.globals (read_at (register_type k) p o) regs w.target.mem ≡ held w.now.store k x
        number_loads k found =
            (numbers_are_read w.globals regs w.target.mem (register_type k) k p o b.pointer b.distance (scalar_is k) small_here b.small b.base_is b.offset_is).1
            ((λ i. has_number (same_store i) (b.is i) (int_size k)) ∙ found)
            ∙ (λ i. held (same_store i) k (b.is i))

        pub pointer_told : has_pointer w.now.store x ≡ is_some (pointer_held w.now.store x)
        pointer_told =
            sym (λ i. has_pointer (same_store i) (b.is i))
            ∙ (pointers_are_read w.globals regs w.target.mem p o b.pointer b.distance together_here small_here b.small b.base_is b.offset_is).0
            ∙ std_some (pointer_held w.target.mem.store (address_farther (address_of b.pointer) b.distance))
            ∙ (λ i. is_some (pointer_held (same_store i) (b.is i)))

        pub pointer_loads : has_pointer w.now.store x ≡ true → eval over_blocks w.globals (read_at Ptr p o) regs w.target.mem ≡ pointer_held w.now.store x
        pointer_loads found =
            (pointers_are_read w.globals regs w.target.mem p o b.pointer b.distance together_here small_here b.small b.base_is b.offset_is).1
            ((λ i. has_pointer (same_store i) (b.is i)) ∙ found)
            ∙ (λ i. pointer_held (same_store i) (b.is i))

      -- ---- a number

      module _ (k : CInt) (width : Width) (c : PointerCode) (r : Range) (rs : List MonType) (regs : List Value) (le : length rs ≤ length c.used) (room : length (c.used ++ I32 ∷ []) ≤ length regs) where
        abbrev at : ℕ
        at = length c.used

        long : length (c.used ++ I32 ∷ []) ≡ suc at
        long = omega (arith, length-append c.used (I32 ∷ []))

        abbrev code : Code
        code = number_read (type_of_width width) (register_type k) c

        abbrev there : Option Address → Option ℤ
        there o = value_of (held_at w.now.store (Some (Int k)) o)

        abbrev asks : MonStatement
        asks = asked_there question.Number (register_type k) c at

        -- what is loaded, as a term
        value_there : (o : Option Value) → NumberOrNone o → is_some o ≡ is_some (value_of (of_value o))
        value_there o (NoNumber e) = ap is_some e ∙ ap (λ o. is_some (value_of (of_value o))) (sym e)
        value_there o (IsNumber z e) = ap is_some e ∙ ap (λ o. is_some (value_of (of_value o))) (sym e)

        loaded : (o : Option Value) → NumberOrNone o → (z : ℤ) → value_of (of_value o) ≡ Some z → o ≡ Some (Integer z)
        loaded o (NoNumber e) z f = let no : None ≡ Some z = ap (λ o. value_of (of_value o)) (sym e) ∙ f in absurd cc
        loaded o (IsNumber y e) z f =
            let is : Some y ≡ Some z = ap (λ o. value_of (of_value o)) (sym e) ∙ f in
            let same_number : y ≡ z = cc in e ∙ ap (λ y. Some (Integer y)) same_number

        none_read : PointerCodes w c None r rs regs → Codes w code None rs regs
        none_read h =
            let n = no_answer c (one asks) r rs regs le (omega (arith, long, room)) h in record {
              end = n.end;
              same = n.same;
              is = n.is;
              holds = λ later s. record { flag_is = s.below at (omega (arith, long)) ∙ n.flag_is; value_is = λ z e. absurd cc };
            }

        some_read : (x : Address) → PointerCodes w c (Some x) r rs regs → ((z : ℤ) → there (Some x) ≡ Some z → Fits width z) → Codes w code (there (Some x)) rs regs
        some_read x h fit = record {
          end = end;
          same = same_trans (length rs) at regs h.end end le h.same same;
          is = answer_leads c (one asks) x r rs regs h ∙ ask_runs asks h.end end (there_asked question.Number (register_type k) c at x r h.end b);
          holds = λ later s. record {
            flag_is = s.below at (omega (arith, long)) ∙ get-set_same h.end at (Integer (truth answer)) (omega (arith, long, room, h.same.long)) ∙ ap (λ t. Some (Integer (truth t))) answer_is;
            value_is = λ z e. by later (same_trans at at h.end end later (omega arith) same (same_less at (length (c.used ++ I32 ∷ [])) end later (omega (arith, long)) s)) z e;
          };
        }
          where
            b : Based w c.base c.offset x r h.end
            b = based_in w c x r h.end (h.placed x refl) h.end (same_all at h.end)

            answer : Bool
            answer = has_number w.now.store x (access_bytes (access_of (register_type k)))

            end : List Value
            end = slice_set h.end at (Integer (truth answer))

            same : Same at h.end end
            same = same_set at at h.end (Integer (truth answer)) (omega arith)

            held_is : has_number w.now.store x (int_size k) ≡ is_some (held w.now.store k x)
            held_is = number_told c.base c.offset x r h.end b k

            answer_is : answer ≡ is_some (there (Some x))
            answer_is = ap (has_number w.now.store x) (access_is k) ∙ held_is ∙ value_there (held w.now.store k x) (number_loaded k w.now.store x)

            by : (later : List Value) → Same at h.end later → (z : ℤ) → there (Some x) ≡ Some z → HasNumber w code.value later z
            by later s z e =
                let is = loaded (held w.now.store k x) (number_loaded k w.now.store x) z e in
                in_type_has w (register_type k) (type_of_width width) (read_at (register_type k) c.base c.offset) later z (wrap_in width z (fit z e))
                (number_loads c.base c.offset x r later (based_in w c x r h.end (h.placed x refl) later s) k (held_is ∙ ap is_some is) ∙ is)

        pub number_read_codes : (o : Option Address) → PointerCodes w c o r rs regs → ((z : ℤ) → there o ≡ Some z → Fits width z) → Codes w code (there o) rs regs
        number_read_codes None h fit = none_read h
        number_read_codes (Some x) h fit = some_read x h fit

      -- ---- a pointer

      zero_in_offsets : LiesIn offset_range (pos 0)
      zero_in_offsets = record { above = omega (arith, ints); below = omega (arith, ints) }

      module _ (u : PlainType) (c : PointerCode) (r : Range) (rs : List MonType) (regs : List Value) (le : length rs ≤ length c.used) where
        abbrev spot : ℕ
        spot = length c.used

        abbrev behind : Option Address → Option Address
        behind o = as_address (held_at w.now.store (Some (ctype.Ptr u)) o)

        module _ (room : length (c.used ++ I32 ∷ Ptr ∷ []) ≤ length regs) where
          long_two : length (c.used ++ I32 ∷ Ptr ∷ []) ≡ suc (suc spot)
          long_two = omega (arith, length-append c.used (I32 ∷ Ptr ∷ []))

          abbrev loads : MonStatements
          loads = one (If (Register spot) (set (suc spot) (read_at Ptr c.base c.offset)) NoStatement)

          abbrev asking : MonStatements
          asking = Then (asked_there question.Pointer Ptr c spot) loads

          no_pointer_read : PointerCodes w c None r rs regs → PointerCodes w (pointer_read c) None offset_range rs regs
          no_pointer_read h =
              let n = no_answer c asking r rs regs le (omega (arith, long_two, room)) h in record {
                end = n.end;
                same = n.same;
                is = n.is;
                flag_is = λ later s. s.below spot (omega (arith, long_two)) ∙ n.flag_is;
                placed = λ x e. absurd cc;
              }

          a_pointer_read : (x : Address) → PointerCodes w c (Some x) r rs regs → PointerCodes w (pointer_read c) (behind (Some x)) offset_range rs regs
          a_pointer_read x h = by (pointer_held w.now.store x) refl (pointer_loaded w.now.store x)
            where
              b : Based w c.base c.offset x r h.end
              b = based_in w c x r h.end (h.placed x refl) h.end (same_all spot h.end)

              answer : Bool
              answer = has_pointer w.now.store x

              mid : Bool → List Value
              mid t = slice_set h.end spot (Integer (truth t))

              mid_same : (t : Bool) → Same spot h.end (mid t)
              mid_same t = same_set spot spot h.end (Integer (truth t)) (omega arith)

              mid_is : (t : Bool) → slice_get (mid t) spot ≡ Some (Integer (truth t))
              mid_is t = get-set_same h.end spot (Integer (truth t)) (omega (arith, long_two, room, h.same.long))

              leads : (t : Bool) → answer ≡ t → runs w (pointer_read c).stmts regs ≡ runs w loads (mid t)
              leads t e =
                  answer_leads c asking x r rs regs h
                  ∙ ask_first (asked_there question.Pointer Ptr c spot) loads h.end (mid answer) (there_asked question.Pointer Ptr c spot x r h.end b)
                  ∙ ap (λ t. runs w loads (mid t)) e

              answer_by : (o : Option Value) → pointer_held w.now.store x ≡ o → answer ≡ is_some o
              answer_by o p = pointer_told c.base c.offset x r h.end b ∙ ap is_some p

              by : (o : Option Value) → pointer_held w.now.store x ≡ o → PointerOrNone o → PointerCodes w (pointer_read c) (behind (Some x)) offset_range rs regs
              by o p (NoPointer e) =
                  let none : behind (Some x) ≡ None = ap (λ o. as_address (of_value o)) (p ∙ e) in
                  subst (λ y. PointerCodes w (pointer_read c) y offset_range rs regs) (sym none) (record {
                    end = mid false;
                    same = same_trans (length rs) spot regs h.end (mid false) le h.same (mid_same false);
                    is = leads false (answer_by None (p ∙ e)) ∙ if_false w (Register spot) (set (suc spot) (read_at Ptr c.base c.offset)) NoStatement (mid false) (mid_is false);
                    flag_is = λ later s. s.below spot (omega (arith, long_two)) ∙ mid_is false;
                    placed = λ y e. absurd cc;
                  })
              by o p (IsPointer q e) =
                  let there : behind (Some x) ≡ Some (address_of q) = ap (λ o. as_address (of_value o)) (p ∙ e) in
                  let found : answer ≡ true = answer_by (Some (Points q)) (p ∙ e) in
                  let end = slice_set (mid true) (suc spot) (Points q) in
                  let last : Same (suc spot) (mid true) end = same_set (suc spot) (suc spot) (mid true) (Points q) (omega arith) in
                  let near : Same spot (mid true) end = same_less spot (suc spot) (mid true) end (omega arith) last in
                  let load : eval over_blocks w.globals (read_at Ptr c.base c.offset) (mid true) w.target.mem ≡ Some (Points q) =
                  pointer_loads c.base c.offset x r (mid true) (based_in w c x r h.end (h.placed x refl) (mid true) (mid_same true)) found ∙ p ∙ e in
                  subst (λ y. PointerCodes w (pointer_read c) y offset_range rs regs) (sym there) (record {
                    end = end;
                    same = same_trans (length rs) spot regs h.end end le h.same (same_trans spot spot h.end (mid true) end (omega arith) (mid_same true) near);
                    is =
                        leads true found
                        ∙ if_true w (Register spot) (set (suc spot) (read_at Ptr c.base c.offset)) NoStatement (mid true) (mid_is true)
                        ∙ set_any (suc spot) (read_at Ptr c.base c.offset) (mid true) (Points q) load;
                    flag_is = λ later s. s.below spot (omega (arith, long_two)) ∙ last.below spot (omega arith) ∙ mid_is true;
                    placed = λ y f.
                        let same_address : address_of q ≡ y = cc in record {
                          pointer = q;
                          distance = pos 0;
                          base_is = λ later s.
                              s.below (suc spot) (omega (arith, long_two)) ∙ get-set_same (mid true) (suc spot) (Points q) (omega (arith, long_two, room, h.same.long, (mid_same true).long));
                          offset_is = λ later s. refl;
                          is = farther_none (address_of q) ∙ same_address;
                          small = sound.bounded x q (p ∙ e);
                          lies = zero_in_offsets;
                        };
                  })

          pub pointer_read_codes : (o : Option Address) → PointerCodes w c o r rs regs → PointerCodes w (pointer_read c) (behind o) offset_range rs regs
          pointer_read_codes None h = no_pointer_read h
          pointer_read_codes (Some x) h = a_pointer_read x h

        -- the same, where it is known that there is one
        pub pointer_known_codes : (x : Address) → has_pointer w.now.store x ≡ true → length (c.used ++ Ptr ∷ []) ≤ length regs → PointerCodes w c (Some x) r rs regs
            → PointerCodes w (pointer_known c) (behind (Some x)) offset_range rs regs
        pointer_known_codes x found room h = by (pointer_held w.now.store x) refl (pointer_loaded w.now.store x)
          where
            b : Based w c.base c.offset x r h.end
            b = based_in w c x r h.end (h.placed x refl) h.end (same_all spot h.end)

            long_one : length (c.used ++ Ptr ∷ []) ≡ suc spot
            long_one = omega (arith, length-append c.used (Ptr ∷ []))

            by : (o : Option Value) → pointer_held w.now.store x ≡ o → PointerOrNone o → PointerCodes w (pointer_known c) (behind (Some x)) offset_range rs regs
            by o p (NoPointer e) =
                let no : true ≡ false = sym found ∙ pointer_told c.base c.offset x r h.end b ∙ ap is_some (p ∙ e) in absurd cc
            by o p (IsPointer q e) =
                let there : behind (Some x) ≡ Some (address_of q) = ap (λ o. as_address (of_value o)) (p ∙ e) in
                let end = slice_set h.end spot (Points q) in
                let last : Same spot h.end end = same_set spot spot h.end (Points q) (omega arith) in
                subst (λ y. PointerCodes w (pointer_known c) y offset_range rs regs) (sym there) (record {
                  end = end;
                  same = same_trans (length rs) spot regs h.end end le h.same last;
                  is =
                      after_runs w c.stmts (set spot (read_at Ptr c.base c.offset)) regs h.end h.is
                      ∙ set_any spot (read_at Ptr c.base c.offset) h.end (Points q) (pointer_loads c.base c.offset x r h.end b found ∙ p ∙ e);
                  flag_is = λ later s. h.flag_is later (same_trans spot spot h.end end later (omega arith) last (same_less spot (length (c.used ++ Ptr ∷ [])) end later (omega (arith, long_one)) s));
                  placed = λ y f.
                      let same_address : address_of q ≡ y = cc in record {
                        pointer = q;
                        distance = pos 0;
                        base_is = λ later s. s.below spot (omega (arith, long_one)) ∙ get-set_same h.end spot (Points q) (omega (arith, long_one, room, h.same.long));
                        offset_is = λ later s. refl;
                        is = farther_none (address_of q) ∙ same_address;
                        small = sound.bounded x q (p ∙ e);
                        lies = zero_in_offsets;
                      };
                })
