-- Pieces of code of pointers and zones are valid where their parts are.
use Rattle.std.proofs.Common.{◌≡◌, ℕ, zero, suc, ◌+◌, ◌-◌, ◌*◌, ◌^◌, ◌≤◌, ℤ, pos, Bool, true, false, not, int_le, max, List, [], ◌∷◌, ◌++◌, length, Option, Some, None, slice_get, refl, ap, ◌∙◌, arith}
use Rattle.std.proofs.lemmas.Bool.{and_from}
use Rattle.std.proofs.lemmas.Int.{ints}
use Rattle.std.proofs.Math.Nat.{max-le}
use Rattle.std.specs.Prelude.{neg_ℤ}
use Rattle.std.specs.Ordering.{int_eq}
use Rattle.c_syntax.specs.declared.annotation.Relation.{Relation}
use Rattle.c_syntax.specs.declared.annotation.Relation.TheVariants as relation
use Rattle.c_syntax.specs.declared.logic.BlockFact.{BlockFact}
use Rattle.c_syntax.specs.declared.logic.BlockFact.TheVariants.{BaseAddr, BlockLength, Offset}
use Rattle.c_syntax.specs.declared.logic.PointerOp.{PointerOp}
use Rattle.c_syntax.specs.declared.logic.PointerOp.TheVariants as step
use Rattle.c_syntax.specs.declared.types.Width.TheVariants.{W32, W64, W128}
use Rattle.c_syntax.specs.Ctypes.{PlainType}
use Rattle.c_syntax.specs.Ctypes as ctype
use Rattle.c_model.specs.TypedPredicates.{IsExtent}
use Rattle.mon_syntax.specs.declared.tree.MonType.{MonType}
use Rattle.mon_syntax.specs.declared.tree.MonType.TheVariants.{I32, I64, I128, Ptr}
use Rattle.mon_syntax.specs.declared.tree.MonOp.{MonOp}
use Rattle.mon_syntax.specs.declared.tree.MonOp.TheVariants as mon
use Rattle.mon_syntax.specs.Arithmetic.{fits, least, greatest}
use Rattle.mon_syntax.specs.Trees.{MonExpression, Register, Constant, Binary, Set, MonStatements, NoStatement, Then, If}
use Rattle.mon_syntax.specs.Valid.{Types, HasType, IsExpression, IsStatement, AreStatements, Labels, Signature, open_parens, depth_of_all, has_constant, is_whole}
use Rattle.c_effects.specs.Expressions.{before, one, set, in_type}
use Rattle.mem_preds.specs.declared.question.Question.{Question}
use Rattle.mem_preds.specs.declared.question.Question.TheVariants as question
use Rattle.mem_preds.specs.Questions.{type_of_fact, read_at}
use Rattle.mem_preds.proofs.Questions.{questions_are_typed, facts_are_typed, parts_are_typed, reads_are_typed}
use Rattle.annot_simulation.specs.Pieces.{Code, access_of, conjunction, guarded, take_none}
use Rattle.annot_simulation.specs.Pointers.{PointerCode, no_offset, start_pointer, null, no_pointer_code, null_code, member_code, move_operator, elements_of, moved_code, take_both, take_pointer, branch_pointer}
use Rattle.annot_simulation.specs.Pointers.{asked_there, told_there, answered_in, number_read, pointer_read, pointer_known, pointer_there, fact_told, told_number, told_pointer, one_byte, places_differ, comparable, asked_of_both}
use Rattle.annot_simulation.specs.Pointers.{equality_asked, equality_code, offsets_asked, offsets_code, addresses_code, difference_code}
use Rattle.annot_simulation.specs.Does.{IsNumberFact}
use Rattle.annot_simulation.specs.Validity.{Begins}
use Rattle.annot_simulation.specs.Inside.{open_in, open_in_all}
use Rattle.annot_simulation.proofs.Opens.{open_before, open_one, open_if, open_guarded, open_none}
use Rattle.annot_simulation.proofs.Typed.{in_type_typed, arithmetic_typed, relation_typed, binary_parens, in_type_parens}
use Rattle.annot_simulation.proofs.ValidParts.{Valid, FlagValid, before_valid, expression, set_valid, number_valid, register_valid, flag_open, flag_more, flag_both, guarded_valid, take_none_valid}

-- ---- lists of types

at_end : (n k : ℕ) (rs more rest : Types) → k ≡ length rs + n → slice_get ((rs ++ more) ++ rest) k ≡ slice_get (more ++ rest) n
at_end n k [] more rest e = let i : k ≡ n = omega (arith, e) in ap (slice_get (more ++ rest)) i
at_end n zero (r ∷ rs) more rest e = absurd (omega (arith, e))
at_end n (suc k) (r ∷ rs) more rest e = at_end n k rs more rest (omega (arith, e))

-- a register behind those taken
pub behind : (n k : ℕ) (rs more ts : Types) (t : MonType) → Begins (rs ++ more) ts → k ≡ length rs + n → ((rest : Types) → slice_get (more ++ rest) n ≡ Some t) → slice_get ts k ≡ Some t
behind n k rs more ts t h e at = (λ i. slice_get (h.is i) k) ∙ at_end n k rs more h.rest e ∙ at h.rest

-- ---- sizes and offsets, which have 32 bits

not_equal : (n : ℕ) (z : ℤ) → int_le (pos 0) z ≡ false → not (int_eq (pos n) z) ≡ true
not_equal n z e = by (int_eq (pos n) z) refl
  where
    by : (t : Bool) → int_eq (pos n) z ≡ t → not t ≡ true
    by true p = grind (arith, ints, e, p)
    by false p = refl

abbrev lowest : ℤ
lowest = neg_ℤ (pos (2 ^ 127))

pub wide_constant : (n : ℕ) → IsExtent n → has_constant I128 (pos n) ≡ true
wide_constant n le =
    let low : int_le (least I128) (pos n) ≡ true = grind (arith, ints, le) in
    let high : int_le (pos n) (greatest I128) ≡ true = grind (arith, ints, le) in
    and_from (fits I128 (pos n)) (not (int_eq (pos n) lowest)) (and_from (int_le (least I128) (pos n)) (int_le (pos n) (greatest I128)) low high) (not_equal n lowest refl)

pub long_constant : (n : ℕ) → IsExtent n → has_constant I64 (pos n) ≡ true
long_constant n le =
    let low : int_le (least I64) (pos n) ≡ true = grind (arith, ints, le) in
    let high : int_le (pos n) (greatest I64) ≡ true = grind (arith, ints, le) in
    and_from (fits I64 (pos n)) (not (int_eq (pos n) lowest)) (and_from (int_le (least I64) (pos n)) (int_le (pos n) (greatest I64)) low high) (not_equal n lowest refl)

-- a load at a base and an offset
load_parens : (p o m : ℕ) → p ≤ 1 → 1 ≤ m → o ≤ m → suc (max 1 (suc (max p (suc (max 1 o))))) ≤ 3 + m
load_parens p o m base some h =
    let a : max 1 o ≤ m = max-le some h in
    let b : max p (suc (max 1 o)) ≤ suc m = max-le (omega (arith, base)) (omega (arith, a)) in
    let c : max 1 (suc (max p (suc (max 1 o)))) ≤ suc (suc m) = max-le (omega arith) (omega (arith, b)) in omega (arith, c)

module _ (g : ℕ) (gs : List Signature) (ts : Types) (result : Option MonType) (ls : Labels) where
  abbrev Stmts : MonStatements → Type 0
  Stmts a = AreStatements g gs ts result ls a

  abbrev IsFlag : Option MonExpression → ℕ → Type 0
  IsFlag f n = FlagValid g gs ts result ls f n

  -- the code of n tokens, as of other terms; a base is one token, and an offset leaves room for what stands around it
  pub record PointerValid (c : PointerCode) (n : ℕ) : Type 0 where
    pub statements : Stmts c.stmts
    pub opened : open_in_all c.stmts ≤ 3 * n + 2
    pub flag : IsFlag c.flag n
    pub base : HasType g ts c.base Ptr
    pub base_parens : open_parens c.base ≤ 1
    pub offset : HasType g ts c.offset I128
    pub offset_parens : suc (suc (open_parens c.offset)) ≤ 3 * n

  pub pointer_more : (c : PointerCode) (m n : ℕ) → m ≤ n → PointerValid c m → PointerValid c n
  pointer_more c m n le v = record {
    statements = v.statements;
    opened = omega (arith, v.opened, le);
    flag = flag_more g gs ts result ls c.flag m n le v.flag;
    base = v.base;
    base_parens = v.base_parens;
    offset = v.offset;
    offset_parens = omega (arith, v.offset_parens, le);
  }

  pub start_valid : (e : MonExpression) (rs : Types) → HasType g ts e Ptr → open_parens e ≤ 1 → PointerValid (start_pointer e rs) 1
  start_valid e rs h p = record {
    statements = tt;
    opened = omega arith;
    flag = tt;
    base = h;
    base_parens = p;
    offset = (refl, refl);
    offset_parens = omega arith;
  }

  pub no_pointer_valid : (rs : Types) (n : ℕ) → 1 ≤ n → PointerValid (no_pointer_code rs) n
  no_pointer_valid rs n some = record {
    statements = tt;
    opened = omega arith;
    flag = ((refl, refl), omega (arith, some));
    base = (refl, refl);
    base_parens = omega arith;
    offset = (refl, refl);
    offset_parens = omega (arith, some);
  }

  -- ---- questions

  module _ (c : PointerCode) (n : ℕ) (few : n ≤ 400) (v : PointerValid c n) where
    base_written : IsExpression g ts c.base Ptr
    base_written = expression g gs ts result ls c.base Ptr 1 v.base v.base_parens (omega arith)

    offset_written : IsExpression g ts c.offset I128
    offset_written = expression g gs ts result ls c.offset I128 (3 * n) v.offset (omega (arith, v.offset_parens)) (omega (arith, few))

    zero_written : IsExpression g ts no_offset I128
    zero_written = record { typed = (refl, refl); within = omega arith }

    some_n : 1 ≤ n
    some_n = by n v.offset_parens
      where
        by : (m : ℕ) → suc (suc (open_parens c.offset)) ≤ 3 * m → 1 ≤ m
        by zero h = absurd (omega (arith, h))
        by (suc m) h = omega arith

    pub asks_valid : (q : Question) (k : MonType) (r : ℕ) → slice_get ts r ≡ Some I32 → IsStatement g gs ts result ls (asked_there q k c r)
    asks_valid q k r at = questions_are_typed g gs ts result ls q (access_of k) c.base c.offset no_offset r base_written offset_written zero_written at

    pub tells_valid : (f : BlockFact) (r : ℕ) → slice_get ts r ≡ Some (type_of_fact f) → IsStatement g gs ts result ls (told_there f c r)
    tells_valid f r at = facts_are_typed g gs ts result ls f c.base c.offset r base_written offset_written at

    two_open : (m : ℕ) → 3 * n ≤ m → max (open_parens c.base) (max (open_parens c.offset) 0) ≤ m
    two_open m le = max-le (omega (arith, v.base_parens, some_n, le)) (max-le (omega (arith, v.offset_parens, le)) (omega arith))

    three_open : (m : ℕ) → 3 * n ≤ m → max (open_parens c.base) (max (open_parens c.offset) (max 1 0)) ≤ m
    three_open m le = max-le (omega (arith, v.base_parens, some_n, le)) (max-le (omega (arith, v.offset_parens, le)) (omega (arith, some_n, le)))

    pub asks_open : (q : Question) (k : MonType) (r m : ℕ) → 3 * n ≤ m → open_in (asked_there q k c r) ≤ m
    asks_open question.Valid k r m le = three_open m le
    asks_open question.ValidRead k r m le = three_open m le
    asks_open question.Initialized k r m le = three_open m le
    asks_open question.Number k r m le = two_open m le
    asks_open question.Pointer k r m le = two_open m le
    asks_open question.Inside k r m le = two_open m le

    pub tells_open : (f : BlockFact) (r m : ℕ) → 3 * n ≤ m → open_in (told_there f c r) ≤ m
    tells_open f r m le = two_open m le

    pub answered_valid : (a : MonStatements) → Stmts a → slice_get ts (length c.used) ≡ Some I32 → Stmts (answered_in (length c.used) c a)
    answered_valid a h at =
        before_valid g gs ts result ls c.stmts (guarded c.flag a (take_none (length c.used))) v.statements
        (guarded_valid g gs ts result ls c.flag a (take_none (length c.used)) n (omega (arith, few)) v.flag h (take_none_valid g gs ts result ls (length c.used) at))

    pub answered_open : (a : MonStatements) (k : ℕ) → n ≤ k → open_in_all a ≤ 3 * k + 2 → open_in_all (answered_in (length c.used) c a) ≤ 3 * k + 2
    answered_open a k le h =
        open_before c.stmts (guarded c.flag a (take_none (length c.used))) (3 * k + 2) (omega (arith, v.opened, le))
        (open_guarded c.flag a (take_none (length c.used)) (3 * k + 2) (let l = flag_open g gs ts result ls c.flag n v.flag in omega (arith, l, le)) h (open_none (length c.used) (3 * k + 2) (omega arith)))

    pub read_typed : (t : MonType) → HasType g ts (read_at t c.base c.offset) t
    read_typed t = reads_are_typed g ts t c.base c.offset v.base v.offset

    pub read_open : (t : MonType) → open_parens (read_at t c.base c.offset) ≤ 3 * n + 2
    read_open t =
        let l = load_parens (open_parens c.base) (open_parens c.offset) (3 * n - 2) v.base_parens (let some = some_n in omega (arith, some)) (omega (arith, v.offset_parens)) in
        let some = some_n in omega (arith, l, some)

  -- ---- reads

  pub number_read_valid : (w k : MonType) → is_whole w ≡ true → is_whole k ≡ true → (c : PointerCode) (n m : ℕ) → n ≤ 400 → PointerValid c n → 1 ≤ m → open_parens c.offset ≤ m → 4 + m ≤ 3 * n → Begins (c.used ++ I32 ∷ []) ts
      → depth_of_all (number_read w k c).stmts ≤ n + n → Valid g gs ts result ls (number_read w k c) w n 0
  number_read_valid w k ww wk c n m few v some_m inner room b deep =
      let at = behind 0 (length c.used) c.used (I32 ∷ []) ts I32 b (omega arith) (λ rest. refl) in
      let asks = asked_there question.Number k c (length c.used) in
      let loads = load_parens (open_parens c.base) (open_parens c.offset) m v.base_parens some_m inner in
      let l = in_type_parens k w (read_at k c.base c.offset) (3 + m) (omega arith) loads in record {
        statements = answered_valid c n few v (one asks) (asks_valid c n few v question.Number k (length c.used) at, tt) at;
        deep = deep;
        opened = answered_open c n few v (one asks) n (omega arith) (max-le (asks_open c n few v question.Number k (length c.used) (3 * n + 2) (omega arith)) (omega arith));
        flag = (at, omega (arith, room));
        typed = in_type_typed g ts k w (read_at k c.base c.offset) wk ww (read_typed c n few v k);
        parens = omega (arith, l, room);
      }

  pub pointer_read_valid : (c : PointerCode) (n : ℕ) → n ≤ 400 → PointerValid c n → Begins (c.used ++ I32 ∷ Ptr ∷ []) ts → PointerValid (pointer_read c) n
  pointer_read_valid c n few v b =
      let r = length c.used in
      let at = behind 0 r c.used (I32 ∷ Ptr ∷ []) ts I32 b (omega arith) (λ rest. refl) in
      let at2 = behind 1 (suc r) c.used (I32 ∷ Ptr ∷ []) ts Ptr b (omega arith) (λ rest. refl) in
      let load = set (suc r) (read_at Ptr c.base c.offset) in
      let load_open = open_one (read_at Ptr c.base c.offset) (suc r) (3 * n + 2) (read_open c n few v Ptr) in
      let asks = asked_there question.Pointer Ptr c r in
      let inner = Then asks (one (If (Register r) load NoStatement)) in
      let some = some_n c n few v in record {
        statements =
            answered_valid c n few v inner (
              asks_valid c n few v question.Pointer Ptr r at,
              (
                (
                  register_valid g gs ts result ls r I32 at,
                  set_valid g gs ts result ls (suc r) (read_at Ptr c.base c.offset) Ptr at2 (expression g gs ts result ls (read_at Ptr c.base c.offset) Ptr (3 * n + 2) (read_typed c n few v Ptr) (read_open c n few v Ptr) (omega (arith, few))),
                  tt,
                ),
                tt,
              ),
            ) at;
        opened = answered_open c n few v inner n (omega arith) (max-le (asks_open c n few v question.Pointer Ptr r (3 * n + 2) (omega arith)) (open_if (Register r) load NoStatement (3 * n + 2) (omega arith) load_open (omega arith)));
        flag = (at, omega arith);
        base = at2;
        base_parens = omega arith;
        offset = (refl, refl);
        offset_parens = omega (arith, some);
      }

  pub pointer_known_valid : (c : PointerCode) (n : ℕ) → n ≤ 400 → PointerValid c n → Begins (c.used ++ Ptr ∷ []) ts → PointerValid (pointer_known c) n
  pointer_known_valid c n few v b =
      let r = length c.used in
      let at = behind 0 r c.used (Ptr ∷ []) ts Ptr b (omega arith) (λ rest. refl) in
      let load = set r (read_at Ptr c.base c.offset) in
      let some = some_n c n few v in record {
        statements =
            before_valid g gs ts result ls c.stmts load v.statements
            (set_valid g gs ts result ls r (read_at Ptr c.base c.offset) Ptr at (expression g gs ts result ls (read_at Ptr c.base c.offset) Ptr (3 * n + 2) (read_typed c n few v Ptr) (read_open c n few v Ptr) (omega (arith, few))));
        opened = open_before c.stmts load (3 * n + 2) v.opened (open_one (read_at Ptr c.base c.offset) r (3 * n + 2) (read_open c n few v Ptr));
        flag = v.flag;
        base = at;
        base_parens = omega arith;
        offset = (refl, refl);
        offset_parens = omega (arith, some);
      }

  pub there_valid : (known : Bool) (t : Option PlainType) (c : PointerCode) (n : ℕ) → n ≤ 400 → PointerValid c n → Begins (pointer_there known t c).used ts → PointerValid (pointer_there known t c) n
  there_valid true (Some (ctype.Ptr u)) c n few v b = pointer_known_valid c n few v b
  there_valid false (Some (ctype.Ptr u)) c n few v b = pointer_read_valid c n few v b
  there_valid known (Some (ctype.Array u k)) c n few v b = v
  there_valid known (Some (ctype.Int k)) c n few v b = no_pointer_valid c.used n (some_n c n few v)
  there_valid known (Some (ctype.Struct k)) c n few v b = no_pointer_valid c.used n (some_n c n few v)
  there_valid known (Some ctype.Void) c n few v b = no_pointer_valid c.used n (some_n c n few v)
  there_valid known (Some (ctype.Named x)) c n few v b = no_pointer_valid c.used n (some_n c n few v)
  there_valid known (Some (ctype.StructTag x tag)) c n few v b = no_pointer_valid c.used n (some_n c n few v)
  there_valid known (Some (ctype.EnumTag x at)) c n few v b = no_pointer_valid c.used n (some_n c n few v)
  there_valid known None c n few v b = no_pointer_valid c.used n (some_n c n few v)

  -- ---- what is told

  facts_valid : (f : BlockFact) (c : PointerCode) (n k : ℕ) → n ≤ 400 → n ≤ k → PointerValid c n → slice_get ts (length c.used) ≡ Some I32 → slice_get ts (suc (length c.used)) ≡ Some (type_of_fact f)
      → Stmts (fact_told f c) × (open_in_all (fact_told f c) ≤ 3 * k + 2)
  facts_valid f c n k few le v at at2 =
      let r = length c.used in
      let inner = Then (asked_there question.Inside Ptr c r) (one (told_there f c (suc r))) in (
        answered_valid c n few v inner (asks_valid c n few v question.Inside Ptr r at, (tells_valid c n few v f (suc r) at2, tt)) at,
        answered_open c n few v inner k le (max-le (asks_open c n few v question.Inside Ptr r (3 * k + 2) (omega (arith, le))) (max-le (tells_open c n few v f (suc r) (3 * k + 2) (omega (arith, le))) (omega arith))),
      )

  fact_whole : (f : BlockFact) → IsNumberFact f → is_whole (type_of_fact f) ≡ true
  fact_whole BaseAddr n = absurd n
  fact_whole BlockLength n = refl
  fact_whole Offset n = refl

  pub told_number_valid : (w : MonType) → is_whole w ≡ true → (f : BlockFact) → IsNumberFact f → (c : PointerCode) (n : ℕ) → n ≤ 400 → PointerValid c n → Begins (c.used ++ I32 ∷ type_of_fact f ∷ []) ts
      → depth_of_all (told_number w f c).stmts ≤ suc n + suc n → Valid g gs ts result ls (told_number w f c) w (suc n) 0
  told_number_valid w ww f numeric c n few v b deep =
      let r = length c.used in
      let at = behind 0 r c.used (I32 ∷ type_of_fact f ∷ []) ts I32 b (omega arith) (λ rest. refl) in
      let at2 = behind 1 (suc r) c.used (I32 ∷ type_of_fact f ∷ []) ts (type_of_fact f) b (omega arith) (λ rest. refl) in
      let facts = facts_valid f c n (suc n) few (omega arith) v at at2 in
      let l = in_type_parens (type_of_fact f) w (Register (suc r)) 1 (omega arith) (omega arith) in record {
        statements = facts.0;
        deep = deep;
        opened = facts.1;
        flag = (at, omega arith);
        typed = in_type_typed g ts (type_of_fact f) w (Register (suc r)) (fact_whole f numeric) ww at2;
        parens = omega (arith, l);
      }

  pub told_pointer_valid : (c : PointerCode) (n : ℕ) → n ≤ 400 → PointerValid c n → Begins (c.used ++ I32 ∷ Ptr ∷ []) ts → PointerValid (told_pointer c) n
  told_pointer_valid c n few v b =
      let r = length c.used in
      let at = behind 0 r c.used (I32 ∷ Ptr ∷ []) ts I32 b (omega arith) (λ rest. refl) in
      let at2 = behind 1 (suc r) c.used (I32 ∷ Ptr ∷ []) ts Ptr b (omega arith) (λ rest. refl) in
      let facts = facts_valid BaseAddr c n n few (omega arith) v at at2 in
      let some = some_n c n few v in record {
        statements = facts.0;
        opened = facts.1;
        flag = (at, omega arith);
        base = at2;
        base_parens = omega arith;
        offset = (refl, refl);
        offset_parens = omega (arith, some);
      }

  -- ---- pointers farther

  pub member_parens : (d : ℕ) (c : PointerCode) (n : ℕ) → n ≤ 400 → PointerValid c n → open_parens (member_code d c).offset ≤ 3 * n - 1
  member_parens d c n few v =
      let some = some_n c n few v in
      let l = binary_parens mon.Add I128 c.offset (Constant I128 (pos d)) (3 * n - 2) (omega (arith, v.offset_parens)) (omega (arith, some)) in omega (arith, l, some)

  pub member_valid : (d : ℕ) (c : PointerCode) (n : ℕ) → IsExtent d → n ≤ 400 → PointerValid c n → PointerValid (member_code d c) (suc n)
  member_valid d c n word few v =
      let l = member_parens d c n few v in record {
        statements = v.statements;
        opened = omega (arith, v.opened);
        flag = flag_more g gs ts result ls c.flag n (suc n) (omega arith) v.flag;
        base = v.base;
        base_parens = v.base_parens;
        offset = arithmetic_typed g ts mon.Add W128 c.offset (Constant I128 (pos d)) refl v.offset (refl, wide_constant d word);
        offset_parens = omega (arith, l);
      }

  elements_typed : (n : ℕ) (e : MonExpression) → IsExtent n → HasType g ts e I128 → HasType g ts (elements_of n e) I128
  elements_typed n e word h = arithmetic_typed g ts mon.Mul W128 (Constant I128 (pos n)) e refl (refl, wide_constant n word) h

  move_typed : (op : PointerOp) (a b : MonExpression) → HasType g ts a I128 → HasType g ts b I128 → HasType g ts (Binary (move_operator op) I128 a b) I128
  move_typed step.Plus a b ha hb = arithmetic_typed g ts mon.Add W128 a b refl ha hb
  move_typed step.Minus a b ha hb = arithmetic_typed g ts mon.Sub W128 a b refl ha hb

  elements_parens : (n : ℕ) (k : MonType) (e : MonExpression) (m : ℕ) → 1 ≤ m → open_parens e ≤ m → open_parens (elements_of n (in_type k I128 e)) ≤ m + 2
  elements_parens n k e m some h =
      let l = in_type_parens k I128 e m some h in
      let b = binary_parens mon.Mul I128 (Constant I128 (pos n)) (in_type k I128 e) (suc m) (omega (arith, some)) l in omega (arith, b)

  pub moved_valid : (op : PointerOp) (n : ℕ) (c : PointerCode) (k : MonType) (d : Code) (nc nd : ℕ) → IsExtent n → is_whole k ≡ true → nc ≤ 400 → 1 ≤ nd → PointerValid c nc → Valid g gs ts result ls d k nd 2
      → PointerValid (moved_code op n c k d) (suc (nc + nd))
  moved_valid op n c k d nc nd word whole few some_d v w =
      let some = some_n c nc few v in
      let e = elements_parens n k d.value (3 * nd + 1) (omega arith) (omega (arith, w.parens)) in
      let l = binary_parens (move_operator op) I128 c.offset (elements_of n (in_type k I128 d.value)) (3 * nc + 3 * nd) (omega (arith, v.offset_parens)) (omega (arith, e, some)) in record {
        statements = before_valid g gs ts result ls c.stmts d.stmts v.statements w.statements;
        opened = open_before c.stmts d.stmts (3 * suc (nc + nd) + 2) (omega (arith, v.opened)) (omega (arith, w.opened));
        flag = flag_both g gs ts result ls c.flag d.flag nc nd (suc (nc + nd)) (omega arith) (omega arith) v.flag w.flag;
        base = v.base;
        base_parens = v.base_parens;
        offset = move_typed op c.offset (elements_of n (in_type k I128 d.value)) v.offset (elements_typed n (in_type k I128 d.value) word (in_type_typed g ts k I128 d.value whole refl w.typed));
        offset_parens = omega (arith, l);
      }

  -- ---- one of two pointers

  module _ (c : Code) (a b : PointerCode) (m na nb k : ℕ) (few : k ≤ 400) (vc : Valid g gs ts result ls c I32 m 4) (va : PointerValid a na) (vb : PointerValid b nb) (lm : suc m ≤ k) (la : suc na ≤ k) (lb : suc nb ≤ k)
      (begins : Begins (b.used ++ I32 ∷ Ptr ∷ I128 ∷ []) ts) where
    abbrev r : ℕ
    r = length b.used

    at : slice_get ts (length b.used) ≡ Some I32
    at = behind 0 (length b.used) b.used (I32 ∷ Ptr ∷ I128 ∷ []) ts I32 begins (omega arith) (λ rest. refl)

    at2 : slice_get ts (suc (length b.used)) ≡ Some Ptr
    at2 = behind 1 (suc (length b.used)) b.used (I32 ∷ Ptr ∷ I128 ∷ []) ts Ptr begins (omega arith) (λ rest. refl)

    at3 : slice_get ts (suc (suc (length b.used))) ≡ Some I128
    at3 = behind 2 (suc (suc (length b.used))) b.used (I32 ∷ Ptr ∷ I128 ∷ []) ts I128 begins (omega arith) (λ rest. refl)

    both_stmts : (d : PointerCode) (n : ℕ) → n ≤ 400 → PointerValid d n → Stmts (take_both d r)
    both_stmts d n fd v = ((Ptr, at2, base_written d n fd v), set_valid g gs ts result ls (suc (suc r)) d.offset I128 at3 (offset_written d n fd v))

    both_open : (d : PointerCode) (n : ℕ) → n ≤ 400 → n ≤ k → PointerValid d n → open_in_all (take_both d r) ≤ 3 * k + 2
    both_open d n fd le v = max-le (omega (arith, v.base_parens)) (open_one d.offset (suc (suc r)) (3 * k + 2) (omega (arith, v.offset_parens, le)))

    take_stmts : (f : Option MonExpression) (d : PointerCode) (n : ℕ) → n ≤ 400 → IsFlag f n → PointerValid d n → Stmts (take_pointer f d r)
    take_stmts None d n fd f v = ((I32, at, number_valid g gs ts result ls (pos 1) (refl, refl)), both_stmts d n fd v)
    take_stmts (Some e) d n fd f v = ((I32, at, expression g gs ts result ls e I32 n f.0 f.1 (omega (arith, fd))), ((register_valid g gs ts result ls r I32 at, both_stmts d n fd v, tt), tt))

    take_open : (f : Option MonExpression) (d : PointerCode) (n : ℕ) → n ≤ 400 → n ≤ k → IsFlag f n → PointerValid d n → open_in_all (take_pointer f d r) ≤ 3 * k + 2
    take_open None d n fd le f v = max-le (omega arith) (both_open d n fd le v)
    take_open (Some e) d n fd le f v = let p = f.1 in max-le (omega (arith, p, le)) (open_if (Register r) (take_both d r) NoStatement (3 * k + 2) (omega arith) (both_open d n fd le v) (omega arith))

    side_stmts : (d : PointerCode) (n : ℕ) → suc n ≤ k → PointerValid d n → Stmts (before d.stmts (take_pointer d.flag d r))
    side_stmts d n le v = before_valid g gs ts result ls d.stmts (take_pointer d.flag d r) v.statements (take_stmts d.flag d n (omega (arith, le, few)) v.flag v)

    side_open : (d : PointerCode) (n : ℕ) → suc n ≤ k → PointerValid d n → open_in_all (before d.stmts (take_pointer d.flag d r)) ≤ 3 * k + 2
    side_open d n le v = open_before d.stmts (take_pointer d.flag d r) (3 * k + 2) (omega (arith, v.opened, le)) (take_open d.flag d n (omega (arith, le, few)) (omega (arith, le)) v.flag v)

    pub branch_pointer_valid : PointerValid (branch_pointer c a b) k
    branch_pointer_valid = record {
      statements =
          before_valid g gs ts result ls c.stmts (guarded c.flag inner (take_none r)) vc.statements
          (guarded_valid g gs ts result ls c.flag inner (take_none r) m (omega (arith, lm, few)) vc.flag
          ((expression g gs ts result ls c.value I32 (3 * m + 2) vc.typed (omega (arith, vc.parens)) (omega (arith, lm, few)), side_stmts a na la va, side_stmts b nb lb vb), tt) (take_none_valid g gs ts result ls r at));
      opened =
          open_before c.stmts (guarded c.flag inner (take_none r)) (3 * k + 2) (omega (arith, vc.opened, lm))
          (open_guarded c.flag inner (take_none r) (3 * k + 2) (let l = flag_open g gs ts result ls c.flag m vc.flag in omega (arith, l, lm))
          (open_if c.value (before a.stmts (take_pointer a.flag a r)) (before b.stmts (take_pointer b.flag b r)) (3 * k + 2) (omega (arith, vc.parens, lm)) (side_open a na la va) (side_open b nb lb vb))
          (open_none r (3 * k + 2) (omega arith)));
      flag = (at, omega arith);
      base = at2;
      base_parens = omega arith;
      offset = at3;
      offset_parens = omega (arith, lm);
    }
      where
        inner : MonStatements
        inner = one (If c.value (before a.stmts (take_pointer a.flag a r)) (before b.stmts (take_pointer b.flag b r)))

  -- ---- two pointers

  pub null_valid : (x : Code) (t : MonType) (n s : ℕ) → 1 ≤ n → Valid g gs ts result ls x t n s → PointerValid (null_code x) n
  null_valid x t n s some v = record {
    statements = v.statements;
    opened = v.opened;
    flag = v.flag;
    base = (refl, refl);
    base_parens = omega arith;
    offset = (refl, refl);
    offset_parens = omega (arith, some);
  }

  module _ (c d : PointerCode) (m n k : ℕ) (few : k ≤ 400) (vc : PointerValid c m) (vd : PointerValid d n) (lm : suc m ≤ k) (ln : suc n ≤ k) where
    abbrev at_d : ℕ
    at_d = length d.used

    abbrev both : Option MonExpression
    both = conjunction c.flag d.flag

    both_flag : IsFlag both k
    both_flag = flag_both g gs ts result ls c.flag d.flag m n k lm ln vc.flag vd.flag

    of_both_stmts : (a : MonStatements) → slice_get ts at_d ≡ Some I32 → Stmts a → Stmts (asked_of_both c d a)
    of_both_stmts a at h =
        before_valid g gs ts result ls (before c.stmts d.stmts) (guarded both a (take_none at_d)) (before_valid g gs ts result ls c.stmts d.stmts vc.statements vd.statements)
        (guarded_valid g gs ts result ls both a (take_none at_d) k (omega (arith, few)) both_flag h (take_none_valid g gs ts result ls at_d at))

    of_both_open : (a : MonStatements) → open_in_all a ≤ 3 * k + 2 → open_in_all (asked_of_both c d a) ≤ 3 * k + 2
    of_both_open a h =
        open_before (before c.stmts d.stmts) (guarded both a (take_none at_d)) (3 * k + 2)
        (open_before c.stmts d.stmts (3 * k + 2) (omega (arith, vc.opened, lm)) (omega (arith, vd.opened, ln)))
        (open_guarded both a (take_none at_d) (3 * k + 2) (let l = flag_open g gs ts result ls both k both_flag in omega (arith, l)) h (open_none at_d (3 * k + 2) (omega arith)))

    one_written : IsExpression g ts one_byte I128
    one_written = record { typed = (refl, refl); within = omega arith }

    differ_stmt : (p q : PointerCode) (x y r : ℕ) → x ≤ 400 → y ≤ 400 → PointerValid p x → PointerValid q y → slice_get ts r ≡ Some I32 → IsStatement g gs ts result ls (places_differ p.base p.offset q.base q.offset r)
    differ_stmt p q x y r fx fy vp vq at =
        parts_are_typed g gs ts result ls p.base p.offset one_byte q.base q.offset one_byte r (base_written p x fx vp) (offset_written p x fx vp) one_written (base_written q y fy vq) (offset_written q y fy vq) one_written at

    differ_open : (p q : PointerCode) (x y r : ℕ) → x ≤ k → y ≤ k → PointerValid p x → PointerValid q y → open_in (places_differ p.base p.offset q.base q.offset r) ≤ 3 * k + 2
    differ_open p q x y r lx ly vp vq =
        max-le (omega (arith, vp.base_parens)) (max-le (omega (arith, vp.offset_parens, lx)) (max-le (omega arith) (max-le (omega (arith, vq.base_parens)) (max-le (omega (arith, vq.offset_parens, ly)) (omega arith)))))

    comparable_stmts : (s : Bool) (p : PointerCode) (x r : ℕ) → x ≤ 400 → PointerValid p x → slice_get ts r ≡ Some I32 → slice_get ts (suc r) ≡ Some I32 → Stmts (comparable s p r)
    comparable_stmts true p x r fx v at at2 = set_valid g gs ts result ls r (Constant I32 (pos 1)) I32 at (number_valid g gs ts result ls (pos 1) (refl, refl))
    comparable_stmts false p x r fx v at at2 = (
      asks_valid p x fx v question.Inside Ptr r at,
      (
        differ_stmt p (start_pointer null []) x 1 (suc r) fx (omega arith) v (start_valid null [] (refl, refl) (omega arith)) at2,
        set_valid g gs ts result ls r (Binary mon.Or I32 (Register r) (Binary mon.Eq I32 (Register (suc r)) (Constant I32 (pos 0)))) I32 at (record {
          typed = arithmetic_typed g ts mon.Or W32 (Register r) (Binary mon.Eq I32 (Register (suc r)) (Constant I32 (pos 0))) refl at (relation_typed g ts mon.Eq W32 (Register (suc r)) (Constant I32 (pos 0)) refl at2 (refl, refl));
          within = omega arith;
        }),
      ),
    )

    comparable_open : (s : Bool) (p : PointerCode) (x r : ℕ) → x ≤ k → x ≤ 400 → PointerValid p x → open_in_all (comparable s p r) ≤ 3 * k + 2
    comparable_open true p x r lx fx v = omega (arith, lm)
    comparable_open false p x r lx fx v =
        max-le (asks_open p x fx v question.Inside Ptr r (3 * k + 2) (omega (arith, lx)))
        (max-le (differ_open p (start_pointer null []) x 1 (suc r) lx (omega (arith, lm)) v (start_valid null [] (refl, refl) (omega arith))) (omega (arith, lm)))

    equality_valid : (s t : Bool) (e : MonExpression) → Begins (d.used ++ I32 ∷ I32 ∷ I32 ∷ []) ts → HasType g ts e I32 → open_parens e ≤ 2 → depth_of_all (equality_code s t e c d).stmts ≤ k + k
        → Valid g gs ts result ls (equality_code s t e c d) I32 k 4
    equality_valid s t e b typed parens deep =
        let r = at_d in
        let at = behind 0 r d.used (I32 ∷ I32 ∷ I32 ∷ []) ts I32 b (omega arith) (λ rest. refl) in
        let at2 = behind 1 (suc r) d.used (I32 ∷ I32 ∷ I32 ∷ []) ts I32 b (omega arith) (λ rest. refl) in
        let at3 = behind 2 (suc (suc r)) d.used (I32 ∷ I32 ∷ I32 ∷ []) ts I32 b (omega arith) (λ rest. refl) in
        let differ = places_differ c.base c.offset d.base d.offset (suc r) in
        let join = Then (Set r (Binary mon.And I32 (Register r) (Register (suc r)))) (one differ) in
        let fc : m ≤ 400 = omega (arith, lm, few) in
        let fd : n ≤ 400 = omega (arith, ln, few) in record {
          statements =
              of_both_stmts (equality_asked s t c d r) at
              (before_valid g gs ts result ls (comparable s c r) (before (comparable t d (suc r)) join) (comparable_stmts s c m r fc vc at at2)
              (before_valid g gs ts result ls (comparable t d (suc r)) join (comparable_stmts t d n (suc r) fd vd at2 at3) (
                (I32, at, record { typed = arithmetic_typed g ts mon.And W32 (Register r) (Register (suc r)) refl at at2; within = omega arith }),
                (differ_stmt c d m n (suc r) fc fd vc vd at2, tt),
              )));
          deep = deep;
          opened =
              of_both_open (equality_asked s t c d r)
              (open_before (comparable s c r) (before (comparable t d (suc r)) join) (3 * k + 2) (comparable_open s c m r (omega (arith, lm)) fc vc)
              (open_before (comparable t d (suc r)) join (3 * k + 2) (comparable_open t d n (suc r) (omega (arith, ln)) fd vd)
              (max-le (omega arith) (max-le (differ_open c d m n (suc r) (omega (arith, lm)) (omega (arith, ln)) vc vd) (omega arith)))));
          flag = (at, omega arith);
          typed = typed;
          parens = omega (arith, parens, lm);
        }

    -- what is made of the two offsets, in so many parentheses
    offsets_valid : (e : MonExpression → MonExpression → MonExpression) (w : MonType) (s : ℕ) → Begins (d.used ++ I32 ∷ I32 ∷ Ptr ∷ Ptr ∷ I64 ∷ I64 ∷ []) ts
        → ((x y : MonExpression) → HasType g ts x I64 → HasType g ts y I64 → HasType g ts (e x y) w) → ((x y : ℕ) → open_parens (e (Register x) (Register y)) ≤ 3) → depth_of_all (offsets_code e c d).stmts ≤ k + k
        → Valid g gs ts result ls (offsets_code e c d) w k s
    offsets_valid e w s b typed parens deep =
        let r = at_d in
        let more = I32 ∷ I32 ∷ Ptr ∷ Ptr ∷ I64 ∷ I64 ∷ [] in
        let at0 = behind 0 r d.used more ts I32 b (omega arith) (λ rest. refl) in
        let at1 = behind 1 (suc r) d.used more ts I32 b (omega arith) (λ rest. refl) in
        let at2 = behind 2 (suc (suc r)) d.used more ts Ptr b (omega arith) (λ rest. refl) in
        let at3 = behind 3 (suc (suc (suc r))) d.used more ts Ptr b (omega arith) (λ rest. refl) in
        let at4 = behind 4 (suc (suc (suc (suc r)))) d.used more ts I64 b (omega arith) (λ rest. refl) in
        let at5 = behind 5 (suc (suc (suc (suc (suc r))))) d.used more ts I64 b (omega arith) (λ rest. refl) in
        let fc : m ≤ 400 = omega (arith, lm, few) in
        let fd : n ≤ 400 = omega (arith, ln, few) in
        let l = parens (suc (suc (suc (suc r)))) (suc (suc (suc (suc (suc r))))) in record {
          statements = of_both_stmts (offsets_asked c d r) at0 (
            asks_valid c m fc vc question.Inside Ptr r at0,
            (
              asks_valid d n fd vd question.Inside Ptr (suc r) at1,
              (
                tells_valid c m fc vc BaseAddr (suc (suc r)) at2,
                (
                  tells_valid d n fd vd BaseAddr (suc (suc (suc r))) at3,
                  (
                    (
                      I32,
                      at0,
                      record {
                        typed = arithmetic_typed g ts mon.And W32 (Binary mon.And I32 (Register r) (Register (suc r))) (Binary mon.Eq Ptr (Register (suc (suc r))) (Register (suc (suc (suc r))))) refl
                            (arithmetic_typed g ts mon.And W32 (Register r) (Register (suc r)) refl at0 at1) (refl, refl, at2, at3);
                        within = omega arith;
                      },
                    ),
                    (
                      tells_valid c m fc vc Offset (suc (suc (suc (suc r)))) at4,
                      (tells_valid d n fd vd Offset (suc (suc (suc (suc (suc r))))) at5, tt),
                    ),
                  ),
                ),
              ),
            ),
          );
          deep = deep;
          opened =
              of_both_open (offsets_asked c d r)
              (max-le (asks_open c m fc vc question.Inside Ptr r (3 * k + 2) (omega (arith, lm))) (max-le (asks_open d n fd vd question.Inside Ptr (suc r) (3 * k + 2) (omega (arith, ln)))
              (max-le (tells_open c m fc vc BaseAddr (suc (suc r)) (3 * k + 2) (omega (arith, lm))) (max-le (tells_open d n fd vd BaseAddr (suc (suc (suc r))) (3 * k + 2) (omega (arith, ln))) (max-le (omega arith)
              (max-le (tells_open c m fc vc Offset (suc (suc (suc (suc r)))) (3 * k + 2) (omega (arith, lm))) (max-le (tells_open d n fd vd Offset (suc (suc (suc (suc (suc r))))) (3 * k + 2) (omega (arith, ln))) (omega arith))))))));
          flag = (at0, omega arith);
          typed = typed (Register (suc (suc (suc (suc r))))) (Register (suc (suc (suc (suc (suc r)))))) at4 at5;
          parens = omega (arith, l, lm);
        }

    order_valid : (op : MonOp) → ((x y : MonExpression) → HasType g ts x I64 → HasType g ts y I64 → HasType g ts (Binary op I64 x y) I32) → Begins (d.used ++ I32 ∷ I32 ∷ Ptr ∷ Ptr ∷ I64 ∷ I64 ∷ []) ts
        → depth_of_all (offsets_code (Binary op I64) c d).stmts ≤ k + k → Valid g gs ts result ls (offsets_code (Binary op I64) c d) I32 k 4
    order_valid op typed b deep = offsets_valid (Binary op I64) I32 4 b typed (λ x y. omega arith) deep

    pub addresses_valid : (r : Relation) (s t : Bool) → Begins (addresses_code r s t c d).used ts → depth_of_all (addresses_code r s t c d).stmts ≤ k + k → Valid g gs ts result ls (addresses_code r s t c d) I32 k 4
    addresses_valid relation.Eq s t b deep =
        let at2 = behind 1 (suc at_d) d.used (I32 ∷ I32 ∷ I32 ∷ []) ts I32 b (omega arith) (λ rest. refl) in
        equality_valid s t (Binary mon.Eq I32 (Register (suc at_d)) (Constant I32 (pos 0))) b (relation_typed g ts mon.Eq W32 (Register (suc at_d)) (Constant I32 (pos 0)) refl at2 (refl, refl)) (omega arith) deep
    addresses_valid relation.Ne s t b deep =
        let at2 = behind 1 (suc at_d) d.used (I32 ∷ I32 ∷ I32 ∷ []) ts I32 b (omega arith) (λ rest. refl) in
        equality_valid s t (Register (suc at_d)) b at2 (omega arith) deep
    addresses_valid relation.Lt s t b deep = order_valid mon.Lt (λ x y hx hy. relation_typed g ts mon.Lt W64 x y refl hx hy) b deep
    addresses_valid relation.Le s t b deep = order_valid mon.Le (λ x y hx hy. relation_typed g ts mon.Le W64 x y refl hx hy) b deep
    addresses_valid relation.Gt s t b deep = order_valid mon.Gt (λ x y hx hy. relation_typed g ts mon.Gt W64 x y refl hx hy) b deep
    addresses_valid relation.Ge s t b deep = order_valid mon.Ge (λ x y hx hy. relation_typed g ts mon.Ge W64 x y refl hx hy) b deep

    pub difference_valid : (w : MonType) (z : ℕ) → is_whole w ≡ true → IsExtent z → Begins (difference_code w z c d).used ts → depth_of_all (difference_code w z c d).stmts ≤ k + k → Valid g gs ts result ls (difference_code w z c d) w k 0
    difference_valid w z whole word b deep =
        offsets_valid (λ x y. in_type I64 w (Binary mon.Div I64 (Binary mon.Sub I64 x y) (Constant I64 (pos z)))) w 0 b
        (λ x y hx hy.
        in_type_typed g ts I64 w (Binary mon.Div I64 (Binary mon.Sub I64 x y) (Constant I64 (pos z))) refl whole
        (arithmetic_typed g ts mon.Div W64 (Binary mon.Sub I64 x y) (Constant I64 (pos z)) refl (arithmetic_typed g ts mon.Sub W64 x y refl hx hy) (refl, long_constant z word)))
        (λ x y. in_type_parens I64 w (Binary mon.Div I64 (Binary mon.Sub I64 (Register x) (Register y)) (Constant I64 (pos z))) 2 (omega arith) (omega arith)) deep
