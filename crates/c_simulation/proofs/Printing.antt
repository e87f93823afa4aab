-- printf prints the same on both sides, piece by piece. A print changes no memory and no register, so that the values of the arguments stay.
use Rattle.std.proofs.Common.{◌≡◌, ℕ, zero, suc, ℤ, pos, negsuc, Bool, true, false, if◌then◌else◌, List, [], ◌∷◌, ◌++◌, Option, Some, None, slice_get, slice_set, refl, sym, ap, ◌∙◌, subst, append_assoc, append-nil, arith}
use Rattle.std.proofs.lemmas.Bool.Decides.{nat_tests}
use Rattle.std.specs.Fmt.{signed_decimal}
use Rattle.c_syntax.specs.declared.place.Place.{Place}
use Rattle.c_syntax.specs.declared.types.CInt.{CInt}
use Rattle.c_syntax.specs.declared.types.CInt.TheVariants.{I8, U8, I16, U16, I32, U32, I64, U64}
use Rattle.c_syntax.specs.Ctypes.{Void, Int, Ptr}
use Rattle.c_syntax.specs.Expressions.{Expressions}
use Rattle.c_syntax.specs.Programs.{StringLiteral}
use Rattle.c_model.specs.Integers.{fits, is_signed, convert, byte_of}
use Rattle.c_model.specs.Memory.{Pointer, Value, Integer, Points, NoValue}
use Rattle.c_model.specs.State.{State, Over, Undefined, Outcome, Normal, Stop, Evaluation, on_outcome, ◌>>=◌, ◌>>◌, defined, print, print_all}
use Rattle.c_model.specs.Strings.{string_at}
use Rattle.c_model.specs.Formats.{Piece, Bytes, Number, Character, String, pieces_of, types_of}
use Rattle.c_model.specs.Printing.{at_end_of_string, print_string, print_pieces}
use Rattle.c_model.specs.Meaning.{tables_of, literal, printf_with}
use Rattle.c_model.specs.MonitoredRuns.{Fault}
use Rattle.c_model.proofs.Printing.{bytes_are_printed, literals_are_found}
use Rattle.mon_syntax.specs.Meaning.{Done, Stops, Next, writes, then_do, at_next, with_value, given_to, printed, eval, eval_all, exec, exec_all}
use Rattle.mon_syntax.specs.Meaning.{◌>>=◌ as bind}
use Rattle.mon_syntax.specs.BlockMemory.{Blocks, integer_of, over_blocks, string_in}
use Rattle.mon_syntax.specs.Trees.{MonExpression, MonStatement, PutChar, PrintText, PrintSigned, PrintUnsigned, PrintString, MonStatements, Then}
use Rattle.c_effects.specs.Expressions.{in_type, register_type}
use Rattle.c_model.specs.StaticObjects.{static_objects}
use Rattle.c_model.specs.TypedTrees.{literal_in}
use Rattle.c_effects.specs.Expressions.{object_of_literal}
use Rattle.c_effects.specs.Printing.{print_number, prints, pieces_or_none, literal_pieces, format_pieces, print_call}
use Rattle.c_simulation.specs.Standing.{Setting, Target, Did, runs, Has, Bounded}
use Rattle.c_simulation.specs.Calls.{Even, AreOf, HaveAll, Begin, CallDoes, DoesCall, Gives, HasNoMeaning}
use Rattle.c_simulation.proofs.Integers.{convert_is, wrap_is}
use Rattle.c_simulation.proofs.Values.{in_type_converts}

-- ---- numbers

widens : (k : CInt) (z : ℤ) → fits k z ≡ true → fits (if is_signed k then I64 else U64) z ≡ true
widens I8 (pos n) f = grind (arith, nat_tests, f)
widens I8 (negsuc n) f = grind (arith, nat_tests, f)
widens U8 (pos n) f = grind (arith, nat_tests, f)
widens U8 (negsuc n) f = absurd cc
widens I16 (pos n) f = grind (arith, nat_tests, f)
widens I16 (negsuc n) f = grind (arith, nat_tests, f)
widens U16 (pos n) f = grind (arith, nat_tests, f)
widens U16 (negsuc n) f = absurd cc
widens I32 (pos n) f = grind (arith, nat_tests, f)
widens I32 (negsuc n) f = grind (arith, nat_tests, f)
widens U32 (pos n) f = grind (arith, nat_tests, f)
widens U32 (negsuc n) f = absurd cc
widens I64 z f = f
widens U64 z f = f

converts_to_itself : (k : CInt) (z : ℤ) → fits k z ≡ true → convert k z ≡ z
converts_to_itself k z f = convert_is k z ∙ wrap_is k z f

-- a register that is given what it has
same_at : (regs : List Value) (r : ℕ) → (v : Value) × (slice_set regs r v ≡ regs)
same_at [] r = (NoValue, refl)
same_at (x ∷ xs) zero = (x, refl)
same_at (x ∷ xs) (suc r) = let m = same_at xs r in (m.0, ap (λ ys. x ∷ ys) m.1)

given_same : (regs : List Value) (r : Option ℕ) → (v : Value) × (given_to r v regs ≡ regs)
given_same regs None = (NoValue, refl)
given_same regs (Some r) = same_at regs r

module _ (w : Setting) (n : ℕ) (regs : List Value) where
  -- all is printed, or a string can't be read to its end
  pub data PrintsAlike (s : State) (t : Target) (r : Outcome Value) (d : Did) : Type 0 where
    PrintsAll : (o : List ℕ) → r ≡ Normal NoValue (record s { output = s.output ++ o }) → d ≡ Done (Next regs) t o → PrintsAlike s t r d
    BreaksOff : (at : Place) (o : List ℕ) → r ≡ Stop (Over (Undefined at)) (record s { output = s.output ++ o }) → d ≡ Stops Fault t.steps o → PrintsAlike s t r d

  -- after these bytes
  behind : (o : List ℕ) (s : State) (t : Target) (r : Outcome Value) (d : Did) → PrintsAlike (record s { output = s.output ++ o }) t r d → PrintsAlike s t r (writes o d)
  behind o s t r d (PrintsAll p e f) = PrintsAll (o ++ p) (e ∙ ap (λ x. Normal NoValue (record s { output = x })) (append_assoc s.output o p)) (ap (writes o) f)
  behind o s t r d (BreaksOff at p e f) = BreaksOff at (o ++ p) (e ∙ ap (λ x. Stop (Over (Undefined at)) (record s { output = x })) (append_assoc s.output o p)) (ap (writes o) f)

  piece_first : (o : List ℕ) (m : Evaluation (Unit {0})) (k : Evaluation Value) (a : MonStatement) (rest : MonStatements) (s : State) (t : Target)
      → m s ≡ Normal tt (record s { output = s.output ++ o }) → exec over_blocks w.globals a w.calls n regs t ≡ Done (Next regs) t o
      → PrintsAlike (record s { output = s.output ++ o }) t (k (record s { output = s.output ++ o })) (runs w n t rest regs) → PrintsAlike s t ((m >> k) s) (runs w n t (Then a rest) regs)
  piece_first o m k a rest s t source target h =
      subst (λ x. PrintsAlike s t (on_outcome x (λ _. k)) (runs w n t (Then a rest) regs)) (sym source)
      (subst (λ q. PrintsAlike s t (k (record s { output = s.output ++ o })) (then_do q (at_next (exec_all over_blocks w.globals rest w.calls n)))) (sym target)
      (behind o s t (k (record s { output = s.output ++ o })) (runs w n t rest regs) h))

  -- the first of the values, and the others
  parts : (e : MonExpression) (args : List MonExpression) (v : Value) (vs : List Value) (mem : Blocks) → HaveAll w (e ∷ args) regs mem (v ∷ vs) → Has w e regs mem v × HaveAll w args regs mem vs
  parts e args v vs mem h = by (eval over_blocks w.globals e regs mem) refl (eval_all over_blocks w.globals args regs mem) refl h
    where
      by : (o : Option Value) → eval over_blocks w.globals e regs mem ≡ o → (q : Option (List Value)) → eval_all over_blocks w.globals args regs mem ≡ q
          → bind o (λ u. bind q (λ us. Some (u ∷ us))) ≡ Some (v ∷ vs) → Has w e regs mem v × HaveAll w args regs mem vs
      by None i q j h = absurd cc
      by (Some u) i None j h = absurd cc
      by (Some u) i (Some us) j h = let one : u ≡ v = cc in let more : us ≡ vs = cc in (i ∙ ap Some one, j ∙ ap Some more)

  no_values : (v : Value) (vs : List Value) (mem : Blocks) → HaveAll w [] regs mem (v ∷ vs) → ⊥
  no_values v vs mem h = absurd cc

  -- ---- one piece

  number_prints : (k : CInt) (z : ℤ) (e : MonExpression) (t : Target) → fits k z ≡ true → Has w e regs t.mem (Integer z)
      → exec over_blocks w.globals (print_number k e) w.calls n regs t ≡ Done (Next regs) t (signed_decimal z)
  number_prints k z e t f h = by (is_signed k) (widens k z f)
    where
      -- converted to a type that has the number
      shown : (l : CInt) → fits l z ≡ true
          → with_value (bind (eval over_blocks w.globals (in_type (register_type k) (register_type l) e) regs t.mem) integer_of) t.steps (λ i. Done (Next regs) t (signed_decimal i)) ≡ Done (Next regs) t (signed_decimal z)
      shown l g =
          ap (λ o. with_value (bind o integer_of) t.steps (λ i. Done (Next regs) t (signed_decimal i))) (in_type_converts w regs t.mem k l e z f h)
          ∙ ap (λ i. Done (Next regs) t (signed_decimal i)) (converts_to_itself l z g)

      by : (b : Bool) → fits (if b then I64 else U64) z ≡ true
          → exec over_blocks w.globals (if b then PrintSigned (in_type (register_type k) (register_type I64) e) else PrintUnsigned (in_type (register_type k) (register_type U64) e)) w.calls n regs t ≡ Done (Next regs) t (signed_decimal z)
      by true g = shown I64 g
      by false g = shown U64 g

  character_prints : (z : ℤ) (e : MonExpression) (t : Target) → Has w e regs t.mem (Integer z) → exec over_blocks w.globals (PutChar None e) w.calls n regs t ≡ Done (Next regs) t (byte_of z ∷ [])
  character_prints z e t h = ap (λ o. with_value (bind o integer_of) t.steps (λ i. Done (Next regs) t (byte_of i ∷ []))) h

  -- a string is printed to its end, or as far as it can be read
  string_prints : (at : Place) (p : Pointer) (k : Evaluation Value) (e : MonExpression) (rest : MonStatements) (s : State) (t : Target) → t.mem.store ≡ s.store → Has w e regs t.mem (Points p)
      → ((s : State) → t.mem.store ≡ s.store → PrintsAlike s t (k s) (runs w n t rest regs)) → PrintsAlike s t ((print_string at p >> k) s) (runs w n t (Then (PrintString e) rest) regs)
  string_prints at p k e rest s t same h next = by (string_at s.store p) refl
    where
      source : (string : List ℕ × Bool) → string_at s.store p ≡ string → print_string at p s ≡ at_end_of_string at string.1 (record s { output = s.output ++ string.0 })
      source string is =
          ap (λ (z : List ℕ × Bool). on_outcome (print_all z.0 s) (λ _. at_end_of_string at z.1)) is
          ∙ ap (λ o. on_outcome o (λ _. at_end_of_string at string.1)) (bytes_are_printed string.0 s)

      target : (string : List ℕ × Bool) → string_at s.store p ≡ string → exec over_blocks w.globals (PrintString e) w.calls n regs t ≡ printed over_blocks string regs t
      target string is =
          ap (λ o. with_value o t.steps (λ v. printed over_blocks (string_in v t.mem) regs t)) h ∙ ap (λ z. printed over_blocks z regs t) (ap (λ store. string_at store p) same ∙ is)

      by : (string : List ℕ × Bool) → string_at s.store p ≡ string → PrintsAlike s t ((print_string at p >> k) s) (runs w n t (Then (PrintString e) rest) regs)
      by (bytes, true) is = piece_first bytes (print_string at p) k (PrintString e) rest s t (source (bytes, true) is) (target (bytes, true) is) (next (record s { output = s.output ++ bytes }) same)
      by (bytes, false) is =
          BreaksOff at bytes (ap (λ o. on_outcome o (λ _. k)) (source (bytes, false) is)) (ap (λ q. then_do q (at_next (exec_all over_blocks w.globals rest w.calls n))) (target (bytes, false) is))

  -- ---- all pieces

  pub prints_alike : (at : Place) (ps : List Piece) (vs : List Value) (args : List MonExpression) → AreOf (types_of ps) vs → (s : State) (t : Target) → t.mem.store ≡ s.store → HaveAll w args regs t.mem vs
      → PrintsAlike s t (print_pieces at ps vs s) (runs w n t (prints ps args) regs)
  prints_alike at [] vs args are s t same has = PrintsAll [] (ap (λ o. Normal NoValue (record s { output = o })) (sym (append-nil s.output))) refl
  prints_alike at (Bytes bs ∷ ps) vs args are s t same has =
      piece_first bs (print_all bs) (print_pieces at ps vs) (PrintText bs) (prints ps args) s t (bytes_are_printed bs s) refl (prints_alike at ps vs args are (record s { output = s.output ++ bs }) t same has)
  prints_alike at (Number k ∷ ps) [] args are s t same has = absurd are
  prints_alike at (Number k ∷ ps) (v ∷ vs) [] are s t same has = absurd (no_values v vs t.mem has)
  prints_alike at (Number k ∷ ps) (v ∷ vs) (e ∷ args) are s t same has =
      let h = parts e args v vs t.mem has in
      let z = are.0.0 in
      let is : v ≡ Integer z = are.0.1 in
      subst (λ u. PrintsAlike s t (print_pieces at (Number k ∷ ps) (u ∷ vs) s) (runs w n t (prints (Number k ∷ ps) (e ∷ args)) regs)) (sym is)
      (piece_first (signed_decimal z) (print_all (signed_decimal z)) (print_pieces at ps vs) (print_number k e) (prints ps args) s t (bytes_are_printed (signed_decimal z) s)
      (number_prints k z e t are.0.2 (h.0 ∙ ap Some is)) (prints_alike at ps vs args are.1 (record s { output = s.output ++ signed_decimal z }) t same h.1))
  prints_alike at (Character ∷ ps) [] args are s t same has = absurd are
  prints_alike at (Character ∷ ps) (v ∷ vs) [] are s t same has = absurd (no_values v vs t.mem has)
  prints_alike at (Character ∷ ps) (v ∷ vs) (e ∷ args) are s t same has =
      let h = parts e args v vs t.mem has in
      let z = are.0.0 in
      let is : v ≡ Integer z = are.0.1 in
      subst (λ u. PrintsAlike s t (print_pieces at (Character ∷ ps) (u ∷ vs) s) (runs w n t (prints (Character ∷ ps) (e ∷ args)) regs)) (sym is)
      (piece_first (byte_of z ∷ []) (print (byte_of z)) (print_pieces at ps vs) (PutChar None e) (prints ps args) s t refl (character_prints z e t (h.0 ∙ ap Some is))
      (prints_alike at ps vs args are.1 (record s { output = s.output ++ byte_of z ∷ [] }) t same h.1))
  prints_alike at (String ∷ ps) [] args are s t same has = absurd are
  prints_alike at (String ∷ ps) (v ∷ vs) [] are s t same has = absurd (no_values v vs t.mem has)
  prints_alike at (String ∷ ps) (v ∷ vs) (e ∷ args) are s t same has =
      let h = parts e args v vs t.mem has in
      let p = are.0.0 in
      let is : v ≡ Points p = are.0.1 in
      subst (λ u. PrintsAlike s t (print_pieces at (String ∷ ps) (u ∷ vs) s) (runs w n t (prints (String ∷ ps) (e ∷ args)) regs)) (sym is)
      (string_prints at p (print_pieces at ps vs) e (prints ps args) s t same (h.0 ∙ ap Some is) (λ s2 same2. prints_alike at ps vs args are.1 s2 t same2 h.1))

  -- ---- a call of printf, of whose values the first is the address of a literal

  pub printf_alike : (at : Place) (k : ℕ) (l : StringLiteral) (ps : List Piece) (vs : List Value) (args : List MonExpression) → slice_get w.unit.texts k ≡ Some l → pieces_of l.bytes ≡ Some ps
      → AreOf (types_of ps) vs → (s : State) (t : Target) → t.mem.store ≡ s.store → HaveAll w args regs t.mem vs
      → PrintsAlike s t (printf_with (tables_of w.unit) at (Points (literal (tables_of w.unit) k) ∷ vs) s) (runs w n t (prints ps args) regs)
  printf_alike at k l ps vs args there pieces are s t same has =
      let T = tables_of w.unit in
      subst (λ r. PrintsAlike s t r (runs w n t (prints ps args) regs)) (sym (
      ap (λ o. on_outcome (defined at o s) (λ bytes. defined at (pieces_of bytes) >>= λ ps. print_pieces at ps vs)) (literals_are_found w.unit k l there)
      ∙ ap (λ o. on_outcome (defined at o s) (λ ps. print_pieces at ps vs)) pieces))
      (prints_alike at ps vs args are s t same has)

  -- as a call without a value
  pub called_alike : (s : State) (t : Target) (r : Outcome Value) (d : Did) (into : Option ℕ) → Even s t → Bounded s.store → PrintsAlike s t r d → CallDoes s Void r into regs d
  called_alike s t r d into even bounded (PrintsAll o e f) =
      let g = given_same regs into in
      DoesCall (Done g.0 t o) (f ∙ ap (λ x. Done (Next x) t o) (sym g.1) ∙ ap (λ x. Done (Next (given_to into g.0 regs)) t x) (sym (append-nil o)))
      (Gives None g.0 (record s { output = s.output ++ o }) t o tt tt
      (record { scope = refl; calls = refl; live = refl; longer = omega arith; bounded = bounded; spent = omega arith; output = refl; marks = refl })
      (record { store_is = even.store_is; frames = even.frames; steps = even.steps; input = even.input }) e refl)
  called_alike s t r d into even bounded (BreaksOff at o e f) =
      DoesCall (Stops Fault t.steps o) f (HasNoMeaning at (record s { output = s.output ++ o }) o e refl (record { rest = []; is = sym (append-nil o) }))

-- a call of printf, where its first argument is a literal
pub printf_does : (w : Setting) (n : ℕ) (es : Expressions) (k : ℕ) (l : StringLiteral) (ps : List Piece) → literal_in es ≡ Some k → slice_get w.unit.texts k ≡ Some l → pieces_of l.bytes ≡ Some ps
    → slice_get w.globals (object_of_literal k (static_objects w.unit)) ≡ Some (Points (literal (tables_of w.unit) k))
    → (vs : List Value) → AreOf (Ptr (Int I8) ∷ types_of ps) vs → (s : State) (t : Target) → Even s t → Bounded s.store → (at : Place) (into : Option ℕ) (regs : List Value) (args : List MonExpression)
    → HaveAll w args regs t.mem vs → Begin w es args → CallDoes s Void (printf_with (tables_of w.unit) at vs s) into regs (runs w n t (print_call w.unit es args) regs)
printf_does w n es k l ps first there pieces stands [] are s t even bounded at into regs args has begin = absurd are
printf_does w n es k l ps first there pieces stands (v ∷ vs) are s t even bounded at into regs [] has begin = absurd (no_values w n regs v vs t.mem has)
printf_does w n es k l ps first there pieces stands (v ∷ vs) are s t even bounded at into regs (e ∷ args) has begin =
    let h = parts w n regs e args v vs t.mem has in
    let given : Some v ≡ Some (Points (literal (tables_of w.unit) k)) = sym (subst (λ x. Has w x regs t.mem v) (begin k first) h.0) ∙ stands in
    let value : v ≡ Points (literal (tables_of w.unit) k) = cc in
    let said : format_pieces w.unit es ≡ ps =
    ap (λ o. elim o as (λ o. List Piece) [ None ↦ [] | Some n ↦ literal_pieces (slice_get w.unit.texts n) ]) first ∙ ap literal_pieces there ∙ ap pieces_or_none pieces in
    subst (λ u. CallDoes s Void (printf_with (tables_of w.unit) at (u ∷ vs) s) into regs (runs w n t (prints (format_pieces w.unit es) args) regs)) (sym value)
    (subst (λ qs. CallDoes s Void (printf_with (tables_of w.unit) at (Points (literal (tables_of w.unit) k) ∷ vs) s) into regs (runs w n t (prints qs args) regs)) (sym said)
    (called_alike w n regs s t _ _ into even bounded (printf_alike w n regs at k l ps vs args there pieces are.1 s t even.store_is h.1)))
