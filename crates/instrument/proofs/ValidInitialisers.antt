-- Translated initialisers are valid: types and depth.
use Rattle.std.proofs.Common.{◌≡◌, ℕ, zero, suc, ◌+◌, ◌-◌, ◌≤◌, Bool, false, nat_eq, ◌<◌, pos, true, not, if◌then◌else◌, List, [], ◌∷◌, ◌++◌, length, map, Option, Some, None, slice_get, refl, sym, ap, subst, arith}
use Rattle.std.proofs.lemmas.Bool.{eqb-true}
use Rattle.std.proofs.lemmas.Bool.Decides.{nat_tests}
use Rattle.std.proofs.lemmas.Int.{ints}
use Rattle.c_syntax.specs.declared.place.Place.{Place}
use Rattle.c_syntax.specs.declared.types.CInt.{CInt}
use Rattle.c_syntax.specs.declared.types.CInt.TheVariants as c
use Rattle.c_syntax.specs.Ctypes.{PlainType}
use Rattle.c_syntax.specs.Expressions.{Expression}
use Rattle.c_syntax.specs.Statements.{Initialiser, One, Many, Initialisers, NoInitialiser, Listed}
use Rattle.c_syntax.specs.Programs.{StringLiteral, TranslationUnit}
use Rattle.c_syntax.specs.Layouts.{Scalar, int_size, scalar_size, size_of}
use Rattle.c_model.specs.Library.{is_there}
use Rattle.c_model.specs.Meaning.{string_in, text_at, parts_or_itself, tables_of}
use Rattle.c_model.specs.ExpressionTyping.{Sight, tables_in}
use Rattle.mon_syntax.specs.declared.tree.MonType.{MonType}
use Rattle.mon_syntax.specs.declared.tree.MonType.TheVariants.{U8, Ptr}
use Rattle.mon_syntax.specs.Trees.{MonExpression, MonStatements}
use Rattle.mon_syntax.specs.Registers.{Bindings}
use Rattle.mon_syntax.specs.Trees as tree
use Rattle.mon_syntax.specs.Valid.{Types, Labels, Signature, IsExpression, AreStatements, has_constant, depth_of_all}
use Rattle.c_initialisers.specs.Letters.{InitialiserHasLetters, InitialisersHaveLetters, InitialHasLetters}
use Rattle.c_effects.specs.Letters.{ValueHasLetters}
use Rattle.c_model.specs.ReadTree.{AreBytes, TextsAreBytes}
use Rattle.c_model.specs.FullExpressions.{EachInitial, EachPart}
use Rattle.c_model.specs.SmallTypes.{TypesSmall}
use Rattle.c_model.specs.Sizes.{IsSmall, weight_of, most_weight, most_forms}
use Rattle.instrument.proofs.FormedTrees.{InitialFormed}
use Rattle.c_model.specs.TypedTrees.{IsScalar, InitialisedBy, ByText, ByValue, Initialises, PartsInitialised, WhereAny}
use Rattle.c_effects.specs.Expressions.{register_type, value_type, before, one, set, farther}
use Rattle.c_initialisers.specs.Translation.{initial_temporaries, one_temporaries, fill_temporaries, parts_temporaries, bytes_at, fill_one, fill, fill_parts, initialise}
use Rattle.c_effects.specs.Full.{prepare, takes}
use Rattle.c_effects.specs.Full as full
use Rattle.c_effects.specs.Effects.{store, stored_at, scalars_in, widest, zeros_at, zeros_from, zero_parts}
use Rattle.c_effects.proofs.ZeroRuns.{zero_at}
use Rattle.annot_simulation.proofs.Depths.{deep_before}
use Rattle.annot_simulation.proofs.ValidParts.{before_valid, set_valid}
use Rattle.annot_simulation.specs.Validity.{Begins}
use Rattle.instrument.proofs.Typed.{begins_left, begins_right, register_at, Knows, count_of_globals, bytes_constant}
use Rattle.instrument.proofs.FullDepths.{deep_behind, deep_one, deep_prepare, deep_set}
use Rattle.instrument.proofs.FullValid.{CallsValid, full_valid, assigned_valid}
use Rattle.instrument.proofs.Parts.{StructsFit, PartsInside, ScalarsInside, parts_inside, parts_scalars}

pub initial_letters : (o : Option (Place × Initialiser)) → InitialHasLetters o → WhereAny (λ (i : Place × Initialiser). InitialiserHasLetters i.1) o
initial_letters None h = tt
initial_letters (Some i) h = h

-- ---- how deep they stand

deep_stored : (r k d : ℕ) (t : MonType) (e : MonExpression) (n : ℕ) → 1 ≤ n → depth_of_all (stored_at r k d t e) ≤ n
deep_stored r k d t e n le = deep_before (set k (farther (tree.Register r) d)) (one (tree.Store k t e)) n (deep_set k (farther (tree.Register r) d) n le) (deep_one (tree.Store k t e) n le)

deep_from : (r k d stored count n : ℕ) → 1 ≤ n → depth_of_all (zeros_from r k d stored count) ≤ n
deep_from r k d stored zero n le = omega arith
deep_from r k d zero (suc count) n le =
    let t = register_type (widest d (suc count)) in
    let stored = int_size (widest d (suc count)) - 1 in
    deep_before (zero_at r k d t) (zeros_from r k (suc d) stored count) n (deep_stored r k d t (tree.Constant t (pos 0)) n le) (deep_from r k (suc d) stored count n le)
deep_from r k d (suc stored) (suc count) n le = deep_from r k (suc d) stored count n le

deep_bytes : (r k d size : ℕ) (bytes : List ℕ) (n : ℕ) → 1 ≤ n → depth_of_all (bytes_at r k d size bytes) ≤ n
deep_bytes r k d zero bytes n le = omega arith
deep_bytes r k d (suc size) [] n le = deep_from r k d 0 (suc size) n le
deep_bytes r k d (suc size) (b ∷ bs) n le = deep_before (stored_at r k d U8 (tree.Constant U8 (pos b))) (bytes_at r k (suc d) size bs) n (deep_stored r k d U8 (tree.Constant U8 (pos b)) n le) (deep_bytes r k (suc d) size bs n le)

deep_zeros : (r k d m : ℕ) (cs : List (ℕ × Scalar)) (n : ℕ) → 1 ≤ n → depth_of_all (zeros_at r k d m cs) ≤ n
deep_zeros r k d m [] n le = deep_from r k d 0 m n le
deep_zeros r k d m (s ∷ cs) n le = by (deep_zeros r k d (m + scalar_size s.1) cs n le) (deep_zeros r k s.0 (scalar_size s.1) cs n le) (nat_eq s.0 (d + m))
  where
    by : depth_of_all (zeros_at r k d (m + scalar_size s.1) cs) ≤ n → depth_of_all (zeros_at r k s.0 (scalar_size s.1) cs) ≤ n → (on : Bool)
        → depth_of_all (if on then zeros_at r k d (m + scalar_size s.1) cs else before (zeros_from r k d 0 m) (zeros_at r k s.0 (scalar_size s.1) cs)) ≤ n
    by on_it begun true = on_it
    by on_it begun false = deep_before (zeros_from r k d 0 m) (zeros_at r k s.0 (scalar_size s.1) cs) n (deep_from r k d 0 m n le) begun

module _ (p : TranslationUnit) (bound : Bindings) where
  deep_one_filled : (r d : ℕ) (rs : List MonType) (t : PlainType) (o : Option ℕ) (e : Expression) → IsSmall e → depth_of_all (fill_one p bound r d rs t o e) ≤ suc most_forms
  deep_one_filled r d rs t (Some n) e small = deep_bytes r (length rs) d (size_of p.structs t) (text_at (map (λ (x : StringLiteral). x.bytes) p.texts) n) (suc most_forms) (omega arith)
  deep_one_filled r d rs t None e small =
      let x = deep_prepare p bound rs e in
      let few = small.few in
      let k = length (rs ++ takes p e) in
      deep_before (prepare p bound rs e) (stored_at r k d (value_type t) (full.result p bound rs e)) (suc most_forms) (omega (arith, x, few)) (deep_stored r k d (value_type t) (full.result p bound rs e) (suc most_forms) (omega arith))

  mutual
    deep_fill : (r d : ℕ) (rs : List MonType) (t : PlainType) (i : Initialiser) → EachInitial IsSmall i → depth_of_all (fill p bound r d rs t i) ≤ suc most_forms
    deep_fill r d rs t (One e) small = deep_one_filled r d rs t (string_in e) e small
    deep_fill r d rs t (Many brace is) small = deep_parts r d rs (parts_or_itself (tables_of p) t) is small

    deep_parts : (r d : ℕ) (rs : List MonType) (cs : List (ℕ × PlainType)) (is : Initialisers) → EachPart IsSmall is → depth_of_all (fill_parts p bound r d rs cs is) ≤ suc most_forms
    deep_parts r d rs cs NoInitialiser small = deep_zeros r (length rs) d 0 (scalars_in p.structs d cs) (suc most_forms) (omega arith)
    deep_parts r d rs [] (Listed i is) small = omega arith
    deep_parts r d rs (x ∷ cs) (Listed i is) small =
        deep_before (fill p bound r (d + x.0) rs x.1 i) (fill_parts p bound r d (rs ++ fill_temporaries p i) cs is) (suc most_forms) (deep_fill r (d + x.0) rs x.1 i small.0) (deep_parts r d (rs ++ fill_temporaries p i) cs is small.1)

  pub deep_initialise : (rs : List MonType) (r : ℕ) (t : PlainType) (o : Option (Place × Initialiser)) → InitialFormed p.structs o → depth_of_all (initialise p bound rs r t o) ≤ suc most_forms
  deep_initialise rs r t None f = omega arith
  deep_initialise rs r t (Some (at, One e)) f = by (string_in e) refl
    where
      by : (o : Option ℕ) → string_in e ≡ o → depth_of_all (initialise p bound rs r t (Some (at, One e))) ≤ suc most_forms
      by None none =
          let few = f.small.few in
          subst (λ b. depth_of_all (if not (is_there b) then before (prepare p bound rs e) (store r t (full.result p bound rs e)) else fill_one p bound r 0 rs t b e) ≤ suc most_forms) (sym none)
          (deep_behind p bound rs e (tree.Store r (value_type t) (full.result p bound rs e)) (suc most_forms) (omega (arith, few)) (omega arith))
      by (Some n) text =
          subst (λ b. depth_of_all (if not (is_there b) then before (prepare p bound rs e) (store r t (full.result p bound rs e)) else fill_one p bound r 0 rs t b e) ≤ suc most_forms) (sym text)
          (deep_one_filled r 0 rs t (Some n) e f.small)
  deep_initialise rs r t (Some (at, Many brace is)) f = deep_parts r 0 rs (parts_or_itself (tables_of p) t) is f.small

-- ---- they are valid

byte_constant : (b : ℕ) → b < 256 → has_constant U8 (pos b) ≡ true
byte_constant b h = grind (arith, nat_tests, ints)

zero_constant : (k : CInt) → has_constant (register_type k) (pos 0) ≡ true
zero_constant c.I8 = refl
zero_constant c.U8 = refl
zero_constant c.I16 = refl
zero_constant c.U16 = refl
zero_constant c.I32 = refl
zero_constant c.U32 = refl
zero_constant c.I64 = refl
zero_constant c.U64 = refl

text_bytes : (xs : List StringLiteral) (n : ℕ) → TextsAreBytes xs → AreBytes (text_at (map (λ (x : StringLiteral). x.bytes) xs) n)
text_bytes [] n h = tt
text_bytes (x ∷ xs) zero h = h.0
text_bytes (x ∷ xs) (suc n) h = text_bytes xs n h.1

module _ (p : TranslationUnit) (gs : List Signature) (ts : Types) (result : Option MonType) (bound : Bindings) (s : Sight) (knows : Knows p ts bound s) (calls : CallsValid p gs ts s) (ls : Labels) (fits : StructsFit p.structs)
    (texts : TextsAreBytes p.texts) where
  abbrev Are : MonStatements → Type 0
  Are a = AreStatements (count_of_globals p) gs ts result ls a

  abbrev G : ℕ
  G = count_of_globals p

  abbrev IsPoint : ℕ → Type 0
  IsPoint r = slice_get ts r ≡ Some Ptr

  behind : (a b : MonStatements) → Are a → Are b → Are (before a b)
  behind a b h k = before_valid G gs ts result ls a b h k

  stored_valid : (r k d : ℕ) (t : MonType) (e : MonExpression) → IsPoint r → IsPoint k → d ≤ 2147483647 → IsExpression G ts e t → Are (stored_at r k d t e)
  stored_valid r k d t e points at small h =
      let pointer : IsExpression G ts (farther (tree.Register r) d) Ptr = record { typed = (refl, refl, points, (refl, bytes_constant d small)); within = omega arith } in
      behind (set k (farther (tree.Register r) d)) (one (tree.Store k t e)) (set_valid G gs ts result ls k (farther (tree.Register r) d) Ptr at pointer) ((at, h), tt)

  byte_valid : (b : ℕ) → b < 256 → IsExpression G ts (tree.Constant U8 (pos b)) U8
  byte_valid b h = record { typed = (refl, byte_constant b h); within = omega arith }

  from_valid : (r k d stored count : ℕ) → IsPoint r → IsPoint k → d + count ≤ 2147483647 → Are (zeros_from r k d stored count)
  from_valid r k d stored zero points at small = tt
  from_valid r k d zero (suc count) points at small =
      let m = widest d (suc count) in
      let t = register_type m in
      behind (zero_at r k d t) (zeros_from r k (suc d) (int_size m - 1) count)
      (stored_valid r k d t (tree.Constant t (pos 0)) points at (omega (arith, small)) (record { typed = (refl, zero_constant m); within = omega arith }))
      (from_valid r k (suc d) (int_size m - 1) count points at (omega (arith, small)))
  from_valid r k d (suc stored) (suc count) points at small = from_valid r k (suc d) stored count points at (omega (arith, small))

  bytes_valid : (r k d n : ℕ) (bytes : List ℕ) → IsPoint r → IsPoint k → d + n ≤ 2147483647 → AreBytes bytes → Are (bytes_at r k d n bytes)
  bytes_valid r k d zero bytes points at small h = tt
  bytes_valid r k d (suc n) [] points at small h = from_valid r k d 0 (suc n) points at small
  bytes_valid r k d (suc n) (b ∷ bs) points at small h =
      behind (stored_at r k d U8 (tree.Constant U8 (pos b))) (bytes_at r k (suc d) n bs) (stored_valid r k d U8 (tree.Constant U8 (pos b)) points at (omega (arith, small)) (byte_valid b h.0))
      (bytes_valid r k (suc d) n bs points at (omega (arith, small)) h.1)

  zeros_valid : (r k d m most : ℕ) (cs : List (ℕ × Scalar)) → IsPoint r → IsPoint k → most ≤ 2147483647 → d + m ≤ most → ScalarsInside most cs → Are (zeros_at r k d m cs)
  zeros_valid r k d m most [] points at small within h = from_valid r k d 0 m points at (omega (arith, small, within))
  zeros_valid r k d m most (x ∷ cs) points at small within h =
      by (λ le. zeros_valid r k d (m + scalar_size x.1) most cs points at small le h.1) (zeros_valid r k x.0 (scalar_size x.1) most cs points at small h.0 h.1) (nat_eq x.0 (d + m)) refl
    where
      by : (d + (m + scalar_size x.1) ≤ most → Are (zeros_at r k d (m + scalar_size x.1) cs)) → Are (zeros_at r k x.0 (scalar_size x.1) cs) → (on : Bool) → nat_eq x.0 (d + m) ≡ on
          → Are (if on then zeros_at r k d (m + scalar_size x.1) cs else before (zeros_from r k d 0 m) (zeros_at r k x.0 (scalar_size x.1) cs))
      by on_it begun true e = let inside = h.0 in let next = eqb-true x.0 (d + m) e in on_it (omega (arith, inside, next))
      by on_it begun false e =
          behind (zeros_from r k d 0 m) (zeros_at r k x.0 (scalar_size x.1) cs) (from_valid r k d 0 m points at (omega (arith, small, within)))
          begun

  zero_parts_valid : (r k d most : ℕ) (cs : List (ℕ × PlainType)) → IsPoint r → IsPoint k → d + most ≤ 2147483647 → PartsInside p.structs most cs → Are (zero_parts p.structs r k d cs)
  zero_parts_valid r k d most cs points at small h =
      zeros_valid r k d 0 (d + most) (scalars_in p.structs d cs) points at small (omega arith) (parts_scalars p.structs d most cs fits h)

  -- ---- what fills an object to which a register points

  -- a string literal, or a value
  filled_valid : (r d : ℕ) (rs : Types) (t : PlainType) (e : Expression) → IsPoint r → d + size_of p.structs t ≤ 2147483647 → InitialisedBy s t e → TypesSmall p.structs e → ValueHasLetters e → weight_of e ≤ most_weight
      → Begins (rs ++ one_temporaries p (string_in e) e) ts → Are (fill_one p bound r d rs t (string_in e) e)
  filled_valid r d rs t e points small (ByText text) parts l light b =
      let is : string_in e ≡ Some text.text = ap string_in text.is in
      subst (λ o. Are (fill_one p bound r d rs t o e)) (sym is)
      (bytes_valid r (length rs) d (size_of p.structs t) (text_at (map (λ (x : StringLiteral). x.bytes) p.texts) text.text) points (register_at rs ts Ptr (subst (λ o. Begins (rs ++ one_temporaries p o e) ts) is b)) small
      (text_bytes p.texts text.text texts))
  filled_valid r d rs t e points small (ByValue val none) parts l light b =
      let te = takes p e in
      let here = subst (λ o. Begins (rs ++ one_temporaries p o e) ts) none b in
      let v = full_valid p gs ts result bound s knows calls ls e rs (subst IsScalar (sym val.ctype) val.scalar) val.typed parts l light (begins_left rs te (Ptr ∷ []) ts here) in
      subst (λ o. Are (fill_one p bound r d rs t o e)) (sym none)
      (behind (prepare p bound rs e) (stored_at r (length (rs ++ te)) d (value_type t) (full.result p bound rs e)) v.setup
      (stored_valid r (length (rs ++ te)) d (value_type t) (full.result p bound rs e) points (register_at (rs ++ te) ts Ptr (begins_right rs te (Ptr ∷ []) ts here)) (omega (arith, small))
      (subst (λ u. IsExpression G ts (full.result p bound rs e) (value_type u)) val.ctype v.value)))

  own_parts : (t : PlainType) (is : Initialisers) → PartsInitialised s (parts_or_itself (tables_in s) t) is → PartsInitialised s (parts_or_itself (tables_of p) t) is
  own_parts t is h = subst (λ x. PartsInitialised s (parts_or_itself (record { structs = x; texts = map (λ (l : StringLiteral). l.bytes) s.texts; literals = [] }) t) is) knows.structs_are h

  mutual
    fill_valid : (r d : ℕ) (rs : Types) (t : PlainType) (i : Initialiser) → IsPoint r → d + size_of p.structs t ≤ 2147483647 → Initialises s t i → EachInitial IsSmall i → EachInitial (TypesSmall p.structs) i
        → InitialiserHasLetters i
        → Begins (rs ++ fill_temporaries p i) ts → Are (fill p bound r d rs t i)
    fill_valid r d rs t (One e) points small q f parts l b = filled_valid r d rs t e points small q parts l f.light b
    fill_valid r d rs t (Many brace is) points small q f parts l b =
        fill_parts_valid r d (size_of p.structs t) rs (parts_or_itself (tables_of p) t) is points small (parts_inside (tables_of p) t fits) (own_parts t is q) f parts l b

    fill_parts_valid : (r d most : ℕ) (rs : Types) (cs : List (ℕ × PlainType)) (is : Initialisers) → IsPoint r → d + most ≤ 2147483647 → PartsInside p.structs most cs → PartsInitialised s cs is → EachPart IsSmall is
        → EachPart (TypesSmall p.structs) is → InitialisersHaveLetters is → Begins (rs ++ parts_temporaries p is) ts → Are (fill_parts p bound r d rs cs is)
    fill_parts_valid r d most rs cs NoInitialiser points small h q f parts l b = zero_parts_valid r (length rs) d most cs points (register_at rs ts Ptr b) small h
    fill_parts_valid r d most rs [] (Listed i is) points small h q f parts l b = absurd q
    fill_parts_valid r d most rs (x ∷ cs) (Listed i is) points small h q f parts l b =
        let inside = h.0 in
        let ti = fill_temporaries p i in
        behind (fill p bound r (d + x.0) rs x.1 i) (fill_parts p bound r d (rs ++ ti) cs is)
        (fill_valid r (d + x.0) rs x.1 i points (omega (arith, small, inside)) q.0 f.0 parts.0 l.0 (begins_left rs ti (parts_temporaries p is) ts b))
        (fill_parts_valid r d most (rs ++ ti) cs is points small h.1 q.1 f.1 parts.1 l.1 (begins_right rs ti (parts_temporaries p is) ts b))

  one_initialised : (at : Place) (rs : Types) (r : ℕ) (t : PlainType) (e : Expression) → IsPoint r → size_of p.structs t ≤ 2147483647 → InitialisedBy s t e → TypesSmall p.structs e → ValueHasLetters e → weight_of e ≤ most_weight
      → Begins (rs ++ initial_temporaries p (Some (at, One e))) ts → Are (initialise p bound rs r t (Some (at, One e)))
  one_initialised at rs r t e points small (ByText text) parts l light b =
      let is : string_in e ≡ Some text.text = ap string_in text.is in
      let k : Begins (rs ++ Ptr ∷ []) ts = subst (λ o. Begins (rs ++ (if is_there o then Ptr ∷ [] else takes p e)) ts) is b in
      let whole = filled_valid r 0 rs t e points (omega (arith, small)) (ByText text) parts l light (subst (λ o. Begins (rs ++ one_temporaries p o e) ts) (sym is) k) in
      subst (λ o. Are (if not (is_there o) then before (prepare p bound rs e) (store r t (full.result p bound rs e)) else fill_one p bound r 0 rs t (string_in e) e)) (sym is) whole
  one_initialised at rs r t e points small (ByValue val none) parts l light b =
      let k = subst (λ o. Begins (rs ++ (if is_there o then Ptr ∷ [] else takes p e)) ts) none b in
      subst (λ o. Are (if not (is_there o) then before (prepare p bound rs e) (store r t (full.result p bound rs e)) else fill_one p bound r 0 rs t (string_in e) e)) (sym none)
      (assigned_valid p gs ts result bound s knows calls ls r t e rs points val.ctype val.scalar val.typed parts l light k)

  -- an object of the type is initialised
  pub initialise_valid : (rs : Types) (r : ℕ) (t : PlainType) (o : Option (Place × Initialiser)) → IsPoint r → size_of p.structs t ≤ 2147483647 → WhereAny (λ (i : Place × Initialiser). Initialises s t i.1) o → InitialFormed p.structs o
      → WhereAny (λ (i : Place × Initialiser). InitialiserHasLetters i.1) o → Begins (rs ++ initial_temporaries p o) ts → Are (initialise p bound rs r t o)
  initialise_valid rs r t None points small q f l b = tt
  initialise_valid rs r t (Some (at, One e)) points small q f l b = one_initialised at rs r t e points small q f.types l f.small.light b
  initialise_valid rs r t (Some (at, Many brace is)) points small q f l b =
      fill_parts_valid r 0 (size_of p.structs t) rs (parts_or_itself (tables_of p) t) is points (omega (arith, small)) (parts_inside (tables_of p) t fits) (own_parts t is q) f.small f.types l b
