-- What is printed, and literals by the pointers to them.
use Rattle.std.proofs.Common.{◌≡◌, ℕ, zero, suc, ◌≤◌, if◌then◌else◌, nat_eq, true, false, List, [], ◌∷◌, ◌++◌, map, Some, None, slice_get, refl, sym, ap, ◌∙◌, append_assoc, append-nil, arith}
use Rattle.std.proofs.lemmas.Bool.Decides.{nat_tests}
use Rattle.c_syntax.specs.Programs.{StringLiteral}
use Rattle.c_model.specs.Memory.{Pointer, Null, Into}
use Rattle.c_model.specs.State.{Normal}
use Rattle.c_model.specs.StaticObjects.{StaticObject, OfGlobal, OfLiteral, static_objects, literals_from}
use Rattle.c_model.specs.Meaning.{tables_of, literal, text_of_block, text_at_pointer}
use Rattle.c_model.specs.PrintingLaws.{BytesArePrinted, LiteralsAreFound}
use Rattle.c_model.proofs.StaticObjects.{literals_of, literals_are}

pub bytes_are_printed : BytesArePrinted
bytes_are_printed [] s = ap (λ o. Normal tt (record s { output = o })) (sym (append-nil s.output))
bytes_are_printed (b ∷ bs) s =
    bytes_are_printed bs (record s { output = s.output ++ b ∷ [] }) ∙ ap (λ o. Normal tt (record s { output = o })) (append_assoc s.output (b ∷ []) bs)

-- the block of a literal has a number of its own among those of literals
record IsFound (k : ℕ) (os : List StaticObject) (n : ℕ) (l : StringLiteral) : Type 0 where
  number : ℕ
  there : slice_get (literals_from k os) n ≡ Some number
  from : k ≤ number
  text : text_of_block number (literals_from k os) (map (λ (l : StringLiteral). l.bytes) (literals_of os)) ≡ Some l.bytes

found : (k : ℕ) (os : List StaticObject) (n : ℕ) (l : StringLiteral) → slice_get (literals_of os) n ≡ Some l → IsFound k os n l
found k [] n l e = absurd cc
found k (OfGlobal d ∷ os) n l e = let h = found (suc k) os n l e in record { number = h.number; there = h.there; from = omega (arith, h.from); text = h.text }
found k (OfLiteral x ∷ os) zero l e =
    let same : x ≡ l = cc in
    let own : nat_eq k k ≡ true = grind (arith, nat_tests) in
    record {
      number = k;
      there = refl;
      from = omega arith;
      text = ap (λ t. if t then Some x.bytes else text_of_block k (literals_from (suc k) os) (map (λ (l : StringLiteral). l.bytes) (literals_of os))) own ∙ ap (λ (y : StringLiteral). Some y.bytes) same;
    }
found k (OfLiteral x ∷ os) (suc n) l e =
    let h = found (suc k) os n l e in
    let other : nat_eq k h.number ≡ false = grind (arith, nat_tests, h.from) in
    record {
      number = h.number;
      there = h.there;
      from = omega (arith, h.from);
      text = ap (λ t. if t then Some x.bytes else text_of_block h.number (literals_from (suc k) os) (map (λ (l : StringLiteral). l.bytes) (literals_of os))) other ∙ h.text;
    }

pub literals_are_found : LiteralsAreFound
literals_are_found p n l e =
    let h = found 1 (static_objects p) n l (ap (λ ls. slice_get ls n) (literals_are p) ∙ e) in
    let stands : literal (tables_of p) n ≡ Into h.number 0 = ap (λ o. elim o as (λ o. Pointer) [ None ↦ Null | Some k ↦ Into k 0 ]) h.there in
    ap (text_at_pointer (tables_of p)) stands
    ∙ ap (λ ls. text_of_block h.number (literals_from 1 (static_objects p)) (map (λ (l : StringLiteral). l.bytes) ls)) (sym (literals_are p)) ∙ h.text
