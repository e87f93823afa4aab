-- Pieces of code of zones are valid where their parts are.
use Rattle.std.proofs.Common.{◌≡◌, ℕ, suc, ◌+◌, ◌*◌, ◌≤◌, pos, true, List, [], ◌∷◌, ◌++◌, length, Option, Some, slice_get, refl, arith}
use Rattle.std.proofs.Math.Nat.{max-le}
use Rattle.c_syntax.specs.declared.logic.MemoryQuestion.{MemoryQuestion}
use Rattle.c_syntax.specs.declared.logic.MemoryQuestion.TheVariants as asks
use Rattle.c_syntax.specs.declared.types.Width.TheVariants.{W32, W128}
use Rattle.c_model.specs.TypedPredicates.{IsExtent}
use Rattle.mon_syntax.specs.declared.tree.MonType.{MonType}
use Rattle.mon_syntax.specs.declared.tree.MonType.TheVariants.{I32, I128, Ptr}
use Rattle.mon_syntax.specs.declared.tree.MonOp.TheVariants as mon
use Rattle.mon_syntax.specs.Trees.{MonExpression, Register, Constant, Binary, Set, MonStatements, NoStatement, Then}
use Rattle.mon_syntax.specs.Valid.{Types, HasType, IsExpression, IsStatement, AreStatements, Labels, Signature, open_parens, depth_of_all, is_whole}
use Rattle.c_effects.specs.Expressions.{before, one, in_type}
use Rattle.mem_preds.specs.Questions.{size_of, asked}
use Rattle.mem_preds.proofs.Questions.{questions_are_typed, parts_are_typed}
use Rattle.annot_simulation.specs.Pieces.{Code, conjunction, guarded}
use Rattle.annot_simulation.specs.Pointers.{PointerCode, ZoneCode, ZonesCode, elements_of, object_code, elements_code, question_of, zone_asked, no_zones, bare_zone, another_zone, apart_from_each, each_pair, separated_code}
use Rattle.annot_simulation.specs.Validity.{Begins}
use Rattle.annot_simulation.specs.Inside.{open_in, open_in_all}
use Rattle.annot_simulation.proofs.Opens.{open_before, open_guarded}
use Rattle.annot_simulation.proofs.Typed.{in_type_typed, arithmetic_typed, binary_parens, in_type_parens}
use Rattle.annot_simulation.proofs.ValidParts.{Valid, FlagValid, before_valid, expression, number_valid, flag_open, flag_more, flag_both, guarded_valid}
use Rattle.annot_simulation.proofs.ValidPointers.{behind, wide_constant, PointerValid}

module _ (g : ℕ) (gs : List Signature) (ts : Types) (result : Option MonType) (ls : Labels) where
  abbrev Stmts : MonStatements → Type 0
  Stmts a = AreStatements g gs ts result ls a

  abbrev IsFlag : Option MonExpression → ℕ → Type 0
  IsFlag f n = FlagValid g gs ts result ls f n

  -- a base, an offset and a length within so many parentheses
  pub record ZoneParts (z : ZoneCode) (m : ℕ) : Type 0 where
    pub base : HasType g ts z.pointer.base Ptr
    pub base_parens : open_parens z.pointer.base ≤ m
    pub offset : HasType g ts z.pointer.offset I128
    pub offset_parens : open_parens z.pointer.offset ≤ m
    pub length : HasType g ts z.length I128
    pub length_parens : open_parens z.length ≤ m

  parts_more : (z : ZoneCode) (m n : ℕ) → m ≤ n → ZoneParts z m → ZoneParts z n
  parts_more z m n le v = record {
    base = v.base;
    base_parens = omega (arith, v.base_parens, le);
    offset = v.offset;
    offset_parens = omega (arith, v.offset_parens, le);
    length = v.length;
    length_parens = omega (arith, v.length_parens, le);
  }

  pub record ZoneValid (z : ZoneCode) (n : ℕ) : Type 0 where
    pub statements : Stmts z.pointer.stmts
    pub opened : open_in_all z.pointer.stmts ≤ 3 * n + 2
    pub flag : IsFlag z.pointer.flag n
    pub parts : ZoneParts z (3 * n + 2)

  pub object_valid : (n : ℕ) (c : PointerCode) (m : ℕ) → IsExtent n → PointerValid g gs ts result ls c m → ZoneValid (object_code n c) m
  object_valid n c m word v = record {
    statements = v.statements;
    opened = v.opened;
    flag = v.flag;
    parts = record {
      base = v.base;
      base_parens = omega (arith, v.base_parens);
      offset = v.offset;
      offset_parens = omega (arith, v.offset_parens);
      length = (refl, wide_constant n word);
      length_parens = omega arith;
    };
  }

  pub elements_valid : (n : ℕ) (c : PointerCode) (k l : MonType) (x y : Code) (nc nx ny : ℕ) → IsExtent n → is_whole k ≡ true → is_whole l ≡ true → 1 ≤ nc → 1 ≤ nx → 1 ≤ ny → PointerValid g gs ts result ls c nc
      → Valid g gs ts result ls x k nx 2 → Valid g gs ts result ls y l ny 2 → ZoneValid (elements_code n c k l x y) (suc (nc + nx + ny))
  elements_valid n c k l x y nc nx ny word wk wl sc sx sy v vx vy =
      let all = suc (nc + nx + ny) in
      let low = in_type k I128 x.value in
      let high = in_type l I128 y.value in
      let pl = in_type_parens k I128 x.value (3 * nx + 1) (omega arith) (omega (arith, vx.parens)) in
      let ph = in_type_parens l I128 y.value (3 * ny + 1) (omega arith) (omega (arith, vy.parens)) in
      let low_typed = in_type_typed g ts k I128 x.value wk refl vx.typed in
      let high_typed = in_type_typed g ts l I128 y.value wl refl vy.typed in
      let size = Constant I128 (pos n) in
      let begin = binary_parens mon.Mul I128 size low (3 * nx + 2) (omega arith) (omega (arith, pl)) in
      let offset = binary_parens mon.Add I128 c.offset (elements_of n low) (3 * nc + 3 * nx) (omega (arith, v.offset_parens)) (omega (arith, begin, sc)) in
      let minus = Binary mon.Sub I128 high low in
      let minus_parens = binary_parens mon.Sub I128 high low (3 * nx + 3 * ny) (omega (arith, ph, sx)) (omega (arith, pl, sy)) in
      let plus = Binary mon.Add I128 minus (Constant I128 (pos 1)) in
      let plus_parens = binary_parens mon.Add I128 minus (Constant I128 (pos 1)) (suc (3 * nx + 3 * ny)) minus_parens (omega arith) in
      let span = binary_parens mon.Mul I128 size plus (suc (suc (3 * nx + 3 * ny))) (omega arith) plus_parens in record {
        statements = before_valid g gs ts result ls (before c.stmts x.stmts) y.stmts (before_valid g gs ts result ls c.stmts x.stmts v.statements vx.statements) vy.statements;
        opened =
            open_before (before c.stmts x.stmts) y.stmts (3 * all + 2) (open_before c.stmts x.stmts (3 * all + 2) (omega (arith, v.opened)) (omega (arith, vx.opened))) (omega (arith, vy.opened));
        flag =
            flag_both g gs ts result ls (conjunction c.flag x.flag) y.flag (nc + nx) ny all (omega arith) (omega arith)
            (flag_both g gs ts result ls c.flag x.flag nc nx (nc + nx) (omega (arith, sx)) (omega (arith, sc)) v.flag vx.flag) vy.flag;
        parts = record {
          base = v.base;
          base_parens = omega (arith, v.base_parens);
          offset = arithmetic_typed g ts mon.Add W128 c.offset (elements_of n low) refl v.offset (arithmetic_typed g ts mon.Mul W128 size low refl (refl, wide_constant n word) low_typed);
          offset_parens = omega (arith, offset);
          length =
              arithmetic_typed g ts mon.Mul W128 size plus refl (refl, wide_constant n word)
              (arithmetic_typed g ts mon.Add W128 minus (Constant I128 (pos 1)) refl (arithmetic_typed g ts mon.Sub W128 high low refl high_typed low_typed) (refl, refl));
          length_parens = omega (arith, span, sc);
        };
      }

  -- ---- questions

  base_written : (z : ZoneCode) (m : ℕ) → m ≤ 2000 → ZoneParts z m → IsExpression g ts z.pointer.base Ptr
  base_written z m le v = expression g gs ts result ls z.pointer.base Ptr m v.base v.base_parens le

  offset_written : (z : ZoneCode) (m : ℕ) → m ≤ 2000 → ZoneParts z m → IsExpression g ts z.pointer.offset I128
  offset_written z m le v = expression g gs ts result ls z.pointer.offset I128 m v.offset v.offset_parens le

  length_written : (z : ZoneCode) (m : ℕ) → m ≤ 2000 → ZoneParts z m → IsExpression g ts z.length I128
  length_written z m le v = expression g gs ts result ls z.length I128 m v.length v.length_parens le

  ask_valid : (f : MemoryQuestion) (a : ℕ) (z : ZoneCode) (m r : ℕ) → m ≤ 2000 → ZoneParts z m → slice_get ts r ≡ Some I32
      → IsStatement g gs ts result ls (asked (question_of f) (size_of a) z.pointer.base z.pointer.offset z.length r)
  ask_valid f a z m r le v at =
      questions_are_typed g gs ts result ls (question_of f) (size_of a) z.pointer.base z.pointer.offset z.length r (base_written z m le v) (offset_written z m le v) (length_written z m le v) at

  ask_open : (f : MemoryQuestion) (a : ℕ) (z : ZoneCode) (m r : ℕ) → ZoneParts z m → open_in (asked (question_of f) (size_of a) z.pointer.base z.pointer.offset z.length r) ≤ m
  ask_open asks.Valid a z m r v = max-le v.base_parens (max-le v.offset_parens (max-le v.length_parens (omega arith)))
  ask_open asks.ValidRead a z m r v = max-le v.base_parens (max-le v.offset_parens (max-le v.length_parens (omega arith)))
  ask_open asks.Initialized a z m r v = max-le v.base_parens (max-le v.offset_parens (max-le v.length_parens (omega arith)))

  pub zone_asked_valid : (f : MemoryQuestion) (a : ℕ) (z : ZoneCode) (n : ℕ) → n ≤ 400 → ZoneValid z n → Begins (z.pointer.used ++ I32 ∷ []) ts → depth_of_all (zone_asked f a z).stmts ≤ suc n + suc n
      → Valid g gs ts result ls (zone_asked f a z) I32 (suc n) 4
  zone_asked_valid f a z n few v b deep =
      let r = length z.pointer.used in
      let at = behind 0 r z.pointer.used (I32 ∷ []) ts I32 b (omega arith) (λ rest. refl) in
      let ask = asked (question_of f) (size_of a) z.pointer.base z.pointer.offset z.length r in
      let opening = ask_open f a z (3 * n + 2) r v.parts in record {
        statements =
            before_valid g gs ts result ls z.pointer.stmts (guarded z.pointer.flag (one ask) NoStatement) v.statements
            (guarded_valid g gs ts result ls z.pointer.flag (one ask) NoStatement n (omega (arith, few)) v.flag (ask_valid f a z (3 * n + 2) r (omega (arith, few)) v.parts at, tt) tt);
        deep = deep;
        opened =
            open_before z.pointer.stmts (guarded z.pointer.flag (one ask) NoStatement) (3 * suc n + 2) (omega (arith, v.opened))
            (open_guarded z.pointer.flag (one ask) NoStatement (3 * suc n + 2) (let l = flag_open g gs ts result ls z.pointer.flag n v.flag in omega (arith, l)) (max-le (omega (arith, opening)) (omega arith)) (omega arith));
        flag = flag_more g gs ts result ls z.pointer.flag n (suc n) (omega arith) v.flag;
        typed = at;
        parens = omega arith;
      }

  -- ---- zones

  abbrev AreParts : List ZoneCode → ℕ → Type 0
  AreParts [] m = Unit {0}
  AreParts (z ∷ zs) m = ZoneParts z m × AreParts zs m

  all_more : (zs : List ZoneCode) (m n : ℕ) → m ≤ n → AreParts zs m → AreParts zs n
  all_more [] m n le v = tt
  all_more (z ∷ zs) m n le v = (parts_more z m n le v.0, all_more zs m n le v.1)

  pub record ZonesValid (zs : ZonesCode) (n : ℕ) : Type 0 where
    pub statements : Stmts zs.stmts
    pub opened : open_in_all zs.stmts ≤ 3 * n + 2
    pub flag : IsFlag zs.flag n
    pub parts : AreParts zs.zones (3 * n + 2)

  pub none_valid : (rs : Types) → ZonesValid (no_zones rs) 0
  none_valid rs = record { statements = tt; opened = omega arith; flag = tt; parts = tt }

  bare_parts : (z : ZoneCode) (m : ℕ) → ZoneParts z m → ZoneParts (bare_zone z) m
  bare_parts z m v = record {
    base = v.base;
    base_parens = v.base_parens;
    offset = v.offset;
    offset_parens = v.offset_parens;
    length = v.length;
    length_parens = v.length_parens;
  }

  pub another_valid : (z : ZoneCode) (zs : ZonesCode) (m n : ℕ) → ZoneValid z m → ZonesValid zs n → ZonesValid (another_zone z zs) (suc (m + n))
  another_valid z zs m n v w = record {
    statements = before_valid g gs ts result ls z.pointer.stmts zs.stmts v.statements w.statements;
    opened = open_before z.pointer.stmts zs.stmts (3 * suc (m + n) + 2) (omega (arith, v.opened)) (omega (arith, w.opened));
    flag = flag_both g gs ts result ls z.pointer.flag zs.flag m n (suc (m + n)) (omega arith) (omega arith) v.flag w.flag;
    parts = (bare_parts z (3 * suc (m + n) + 2) (parts_more z (3 * m + 2) (3 * suc (m + n) + 2) (omega arith) v.parts), all_more zs.zones (3 * n + 2) (3 * suc (m + n) + 2) (omega arith) w.parts);
  }

  module _ (t m : ℕ) (le : m ≤ 2000) (some : 1 ≤ m) (at : slice_get ts t ≡ Some I32) (at2 : slice_get ts (suc t) ≡ Some I32) where
    each_valid : (z : ZoneCode) (ds : List ZoneCode) → ZoneParts z m → AreParts ds m → Stmts (apart_from_each t z ds) × (open_in_all (apart_from_each t z ds) ≤ m)
    each_valid z [] v w = (tt, omega arith)
    each_valid z (d ∷ ds) v w =
        let rest = each_valid z ds v w.1 in
        let x = w.0 in (
          (
            parts_are_typed g gs ts result ls z.pointer.base z.pointer.offset z.length d.pointer.base d.pointer.offset d.length (suc t) (base_written z m le v) (offset_written z m le v) (length_written z m le v)
                (base_written d m le x) (offset_written d m le x) (length_written d m le x) at2,
            ((I32, at, record { typed = arithmetic_typed g ts mon.And W32 (Register t) (Register (suc t)) refl at at2; within = omega arith }), rest.0),
          ),
          max-le (max-le v.base_parens (max-le v.offset_parens (max-le v.length_parens (max-le x.base_parens (max-le x.offset_parens (max-le x.length_parens (omega arith))))))) (max-le (omega (arith, some)) rest.1),
        )

    pairs_valid : (zs : List ZoneCode) → AreParts zs m → Stmts (each_pair t zs) × (open_in_all (each_pair t zs) ≤ m)
    pairs_valid [] v = (tt, omega arith)
    pairs_valid (z ∷ zs) v =
        let first = each_valid z zs v.0 v.1 in
        let rest = pairs_valid zs v.1 in (
          before_valid g gs ts result ls (apart_from_each t z zs) (each_pair t zs) first.0 rest.0,
          open_before (apart_from_each t z zs) (each_pair t zs) m first.1 rest.1,
        )

  pub separated_valid : (zs : ZonesCode) (n : ℕ) → n ≤ 400 → ZonesValid zs n → Begins (zs.used ++ I32 ∷ I32 ∷ []) ts → depth_of_all (separated_code zs).stmts ≤ suc n + suc n
      → Valid g gs ts result ls (separated_code zs) I32 (suc n) 4
  separated_valid zs n few v b deep =
      let r = length zs.used in
      let at = behind 0 r zs.used (I32 ∷ I32 ∷ []) ts I32 b (omega arith) (λ rest. refl) in
      let at2 = behind 1 (suc r) zs.used (I32 ∷ I32 ∷ []) ts I32 b (omega arith) (λ rest. refl) in
      let pairs = pairs_valid r (3 * n + 2) (omega (arith, few)) (omega arith) at at2 zs.zones v.parts in
      let all = Then (Set r (Constant I32 (pos 1))) (each_pair r zs.zones) in
      let opening = pairs.1 in record {
        statements =
            before_valid g gs ts result ls zs.stmts (guarded zs.flag all NoStatement) v.statements
            (guarded_valid g gs ts result ls zs.flag all NoStatement n (omega (arith, few)) v.flag ((I32, at, number_valid g gs ts result ls (pos 1) (refl, refl)), pairs.0) tt);
        deep = deep;
        opened =
            open_before zs.stmts (guarded zs.flag all NoStatement) (3 * suc n + 2) (omega (arith, v.opened))
            (open_guarded zs.flag all NoStatement (3 * suc n + 2) (let l = flag_open g gs ts result ls zs.flag n v.flag in omega (arith, l)) (max-le (omega arith) (omega (arith, opening))) (omega arith));
        flag = flag_more g gs ts result ls zs.flag n (suc n) (omega arith) v.flag;
        typed = at;
        parens = omega arith;
      }
