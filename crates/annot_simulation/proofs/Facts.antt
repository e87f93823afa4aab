-- What is told of the block that a pointer is inside: it is asked first whether there is one.
use Rattle.std.proofs.Common.{◌≡◌, ℕ, suc, ◌<◌, ◌≤◌, ℤ, pos, true, List, [], ◌∷◌, ◌++◌, length, length-append, slice_get, slice_set, Option, Some, None, option_map, refl, sym, ap, ◌∙◌, arith}
use Rattle.std.proofs.lemmas.Int.{ints}
use Rattle.c_syntax.specs.declared.annotation.Range.{Range}
use Rattle.c_syntax.specs.declared.logic.BlockFact.{BlockFact}
use Rattle.c_syntax.specs.declared.logic.BlockFact.TheVariants.{BaseAddr, BlockLength, Offset}
use Rattle.c_syntax.specs.declared.types.Width.{Width}
use Rattle.c_model.specs.Integers.{truth}
use Rattle.c_model.specs.Logic.{as_address, fact, told}
use Rattle.c_model.specs.Memory.{Pointer, Into, Value, Integer, Points}
use Rattle.c_model.specs.MemoryQuestions.{Address, Part, answered, inside, is_inside, length_in, offset_in, base_pointer}
use Rattle.c_model.specs.TermRanges.{start_range}
use Rattle.mon_syntax.specs.declared.tree.MonType.{MonType}
use Rattle.mon_syntax.specs.declared.tree.MonType.TheVariants.{I32, Ptr}
use Rattle.mon_syntax.specs.BlockMemory.{is_some}
use Rattle.mon_syntax.specs.Meaning.{Done, Next}
use Rattle.mon_syntax.specs.Trees.{Register, MonStatements, Then}
use Rattle.c_effects.specs.Expressions.{one}
use Rattle.c_simulation.specs.SameRegisters.{Same}
use Rattle.mem_preds.specs.declared.question.Question.TheVariants as question
use Rattle.mem_preds.specs.Questions.{type_of_fact}
use Rattle.mem_preds.specs.Laws.{fact_of}
use Rattle.annot_simulation.specs.Pieces.{type_of_width}
use Rattle.annot_simulation.specs.Pointers.{PointerCode, asked_there, told_there, fact_told, told_number, told_pointer}
use Rattle.annot_simulation.specs.Does.{Setting, runs, IsNumberFact}
use Rattle.annot_simulation.proofs.Steps.{same_all, same_trans, same_set, get-set_same, in_type_has}
use Rattle.annot_simulation.proofs.Parts.{Codes}
use Rattle.annot_simulation.proofs.Exact.{Fits, wrap_in, value_of}
use Rattle.annot_simulation.proofs.Addresses.{farther_none, based_in, PointerCodes}
use Rattle.annot_simulation.proofs.Asked.{ask_first, ask_runs, no_answer, answer_leads, there_asked, there_told}

-- the number that is told
abbrev number_in : BlockFact → Option Part → ℕ
number_in BaseAddr o = 0
number_in BlockLength o = length_in o
number_in Offset o = offset_in o

told_where : (f : BlockFact) → IsNumberFact f → (x : Address) (o : Option Part) → is_some (value_of (option_map (fact f x) o)) ≡ answered o (λ p. true)
told_where BaseAddr n x o = absurd n
told_where BlockLength n x None = refl
told_where BlockLength n x (Some p) = refl
told_where Offset n x None = refl
told_where Offset n x (Some p) = refl

told_value : (f : BlockFact) → IsNumberFact f → (x : Address) (o : Option Part) (z : ℤ) → value_of (option_map (fact f x) o) ≡ Some z → pos (number_in f o) ≡ z
told_value BaseAddr n x o z e = absurd n
told_value BlockLength n x None z e = absurd cc
told_value BlockLength n x (Some p) z e = cc
told_value Offset n x None z e = absurd cc
told_value Offset n x (Some p) z e = cc

base_where : (x : Address) (o : Option Part) → is_some (as_address (option_map (fact BaseAddr x) o)) ≡ answered o (λ p. true)
base_where x None = refl
base_where x (Some p) = refl

-- the start of the block
record StartIs (x y : Address) (q : Pointer) : Type 0 where
  to : q ≡ Into x.block 0
  address : record { block = x.block; offset = pos 0 } ≡ y

start_is : (x y : Address) (o : Option Part) → as_address (option_map (fact BaseAddr x) o) ≡ Some y → StartIs x y (base_pointer x.block o)
start_is x y None e = absurd cc
start_is x y (Some p) e = record { to = refl; address = cc }

module _ (w : Setting) (same_store : w.target.mem.store ≡ w.now.store) where
  -- a pointer's answer, and what is told of its block
  pub record FactIs (f : BlockFact) (c : PointerCode) (x : Address) (rs : List MonType) (regs : List Value) : Type 0 where
    pub end : List Value
    pub same : Same (length rs) regs end
    pub is : runs w (fact_told f c) regs ≡ Done (Next end) w.target []
    pub inside_is : slice_get end (length c.used) ≡ Some (Integer (truth (is_inside w.now.store x)))
    pub fact_is : slice_get end (suc (length c.used)) ≡ Some (fact_of f w.now.store x)

  module _ (f : BlockFact) (c : PointerCode) (r : Range) (rs : List MonType) (regs : List Value) (le : length rs ≤ length c.used) (room : suc (length c.used) < length regs) where
    abbrev spot : ℕ
    spot = length c.used

    abbrev last : MonStatements
    last = one (told_there f c (suc spot))

    abbrev asking : MonStatements
    asking = Then (asked_there question.Inside Ptr c spot) last

    fact_runs : (x : Address) → PointerCodes w c (Some x) r rs regs → FactIs f c x rs regs
    fact_runs x h = record {
      end = end;
      same = same_trans (length rs) spot regs h.end end le h.same (same_trans spot (suc spot) h.end mid end (omega arith) mid_same end_same);
      is =
          answer_leads w c asking x r rs regs h
          ∙ ask_first w (asked_there question.Inside Ptr c spot) last h.end mid (there_asked w same_store question.Inside Ptr c spot x r h.end (based_in w c x r h.end (h.placed x refl) h.end (same_all spot h.end)))
          ∙ ask_runs w (told_there f c (suc spot)) mid end (there_told w same_store f c (suc spot) x r mid (based_in w c x r h.end (h.placed x refl) mid mid_same));
      inside_is = end_same.below spot (omega arith) ∙ get-set_same h.end spot (Integer (truth (is_inside w.now.store x))) (omega (arith, room, h.same.long));
      fact_is = get-set_same mid (suc spot) (fact_of f w.now.store x) (omega (arith, room, h.same.long, mid_same.long));
    }
      where
        mid : List Value
        mid = slice_set h.end spot (Integer (truth (is_inside w.now.store x)))

        mid_same : Same spot h.end mid
        mid_same = same_set spot spot h.end (Integer (truth (is_inside w.now.store x))) (omega arith)

        end : List Value
        end = slice_set mid (suc spot) (fact_of f w.now.store x)

        end_same : Same (suc spot) mid end
        end_same = same_set (suc spot) (suc spot) mid (fact_of f w.now.store x) (omega arith)

  -- ---- a number

  pub told_number_codes : (f : BlockFact) → IsNumberFact f → (width : Width) (c : PointerCode) (r : Range) (rs : List MonType) (regs : List Value) → length rs ≤ length c.used
      → length (c.used ++ I32 ∷ type_of_fact f ∷ []) ≤ length regs → (o : Option Address) → PointerCodes w c o r rs regs → ((z : ℤ) → value_of (told w.now.store f o) ≡ Some z → Fits width z)
      → Codes w (told_number (type_of_width width) f c) (value_of (told w.now.store f o)) rs regs
  told_number_codes f numeric width c r rs regs le room None h fit =
      let long : length (c.used ++ I32 ∷ type_of_fact f ∷ []) ≡ suc (suc (length c.used)) = omega (arith, length-append c.used (I32 ∷ type_of_fact f ∷ [])) in
      let n = no_answer w c (asking f c r rs regs le (omega (arith, long, room))) r rs regs le (omega (arith, long, room)) h in record {
        end = n.end;
        same = n.same;
        is = n.is;
        holds = λ later s. record { flag_is = s.below (length c.used) (omega (arith, long)) ∙ n.flag_is; value_is = λ z e. absurd cc };
      }
  told_number_codes f numeric width c r rs regs le room (Some x) h fit =
      let long : length (c.used ++ I32 ∷ type_of_fact f ∷ []) ≡ suc (suc (length c.used)) = omega (arith, length-append c.used (I32 ∷ type_of_fact f ∷ [])) in
      let t = fact_runs f c r rs regs le (omega (arith, long, room)) x h in record {
        end = t.end;
        same = t.same;
        is = t.is;
        holds = λ later s. record {
          flag_is =
              s.below (length c.used) (omega (arith, long)) ∙ t.inside_is
              ∙ ap (λ t. Some (Integer (truth t))) (sym (told_where f numeric x (inside w.now.store x)));
          value_is = λ z e.
              in_type_has w (type_of_fact f) (type_of_width width) (Register (suc (length c.used))) later z (wrap_in width z (fit z e))
              (s.below (suc (length c.used)) (omega (arith, long)) ∙ t.fact_is ∙ number_is f numeric x z e);
        };
      }
    where
      number_is : (f : BlockFact) → IsNumberFact f → (x : Address) (z : ℤ) → value_of (told w.now.store f (Some x)) ≡ Some z → Some (fact_of f w.now.store x) ≡ Some (Integer z)
      number_is BaseAddr n x z e = absurd n
      number_is BlockLength n x z e = ap (λ z. Some (Integer z)) (told_value BlockLength n x (inside w.now.store x) z e)
      number_is Offset n x z e = ap (λ z. Some (Integer z)) (told_value Offset n x (inside w.now.store x) z e)

  -- ---- a pointer

  pub told_pointer_codes : (c : PointerCode) (r : Range) (rs : List MonType) (regs : List Value) → length rs ≤ length c.used → length (c.used ++ I32 ∷ Ptr ∷ []) ≤ length regs → (o : Option Address) → PointerCodes w c o r rs regs
      → PointerCodes w (told_pointer c) (as_address (told w.now.store BaseAddr o)) start_range rs regs
  told_pointer_codes c r rs regs le room None h =
      let long : length (c.used ++ I32 ∷ Ptr ∷ []) ≡ suc (suc (length c.used)) = omega (arith, length-append c.used (I32 ∷ Ptr ∷ [])) in
      let n = no_answer w c (asking BaseAddr c r rs regs le (omega (arith, long, room))) r rs regs le (omega (arith, long, room)) h in record {
        end = n.end;
        same = n.same;
        is = n.is;
        flag_is = λ later s. s.below (length c.used) (omega (arith, long)) ∙ n.flag_is;
        placed = λ x e. absurd cc;
      }
  told_pointer_codes c r rs regs le room (Some x) h =
      let long : length (c.used ++ I32 ∷ Ptr ∷ []) ≡ suc (suc (length c.used)) = omega (arith, length-append c.used (I32 ∷ Ptr ∷ [])) in
      let t = fact_runs BaseAddr c r rs regs le (omega (arith, long, room)) x h in record {
        end = t.end;
        same = t.same;
        is = t.is;
        flag_is = λ later s.
            s.below (length c.used) (omega (arith, long)) ∙ t.inside_is
            ∙ ap (λ t. Some (Integer (truth t))) (sym (base_where x (inside w.now.store x)));
        placed = λ y e.
            let i = start_is x y (inside w.now.store x) e in record {
              pointer = Into x.block 0;
              distance = pos 0;
              base_is = λ later s. s.below (suc (length c.used)) (omega (arith, long)) ∙ t.fact_is ∙ ap (λ q. Some (Points q)) i.to;
              offset_is = λ later s. refl;
              is = farther_none (record { block = x.block; offset = pos 0 }) ∙ i.address;
              small = omega arith;
              lies = record { above = omega (arith, ints); below = omega (arith, ints) };
            };
      }
