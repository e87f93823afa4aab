-- A printed statement with no body is read, and checks as the statement that was printed.
use Rattle.std.proofs.Common.{◌≡◌, ℕ, Bool, true, false, cond, ◌&&◌, ◌||◌, ◌⊎◌, inl, inr, List, [], ◌∷◌, ◌++◌, length, map, slice_get, codes, Option, Some, None, Ok, refl, sym, ap, subst, ◌∙◌, eq-eqb}
use Rattle.std.specs.Prelude.{bytes_eq, nat_eq, if◌then◌else◌}
use Rattle.std.specs.List.{list_any}
use Rattle.grammar.specs.Syntax.{sees}
use Rattle.c_syntax.specs.declared.place.Place.{Place}
use Rattle.c_syntax.specs.Tokens as token
use Rattle.c_syntax.specs.Tokens.{PlainToken}
use Rattle.c_model.specs.Names.{name_number}
use Rattle.c_model.specs.MonitoredTokens as made
use Rattle.c_model.specs.Punctuators.{assign, semicolon, times}
use Rattle.mon_syntax.specs.declared.tree.MonType.{MonType}
use Rattle.mon_syntax.specs.declared.tree.MonType.TheVariants.{Ptr}
use Rattle.mon_syntax.specs.declared.word.Word.{Word}
use Rattle.mon_syntax.specs.declared.word.Word.TheVariants as word
use Rattle.mon_syntax.specs.Words.{word_of}
use Rattle.mon_syntax.specs.Trees.{MonExpression, Register, Global, Constant, Binary, Minus, Flip, Cast, Load, MonStatement, Set, Store, Goto, Return}
use Rattle.mon_syntax.specs.Text as text
use Rattle.mon_syntax.specs.Text.{InSight, name_of, expression_pieces, call_pieces, set_or_none, mark_pieces, FunctionNames, statement_pieces}
use Rattle.mon_syntax.specs.Arithmetic.{byte_count, is_pointer}
use Rattle.mon_syntax.specs.Valid as valid
use Rattle.mon_syntax.specs.Valid.{Types, IsExpression, TakesValue, Labels, has_label, ReturnsResult}
use Rattle.mon_syntax.specs.Parsed as parsed
use Rattle.mon_syntax.specs.Parsed.{NameUse, ParsedExpression, ParsedCall, ParsedStatement}
use Rattle.mon_syntax.specs.Grammar as form
use Rattle.mon_syntax.specs.Grammar.{Vocabulary, name_kind, goto_kind, return_kind, word_kind, kind, first_statement, is_step_word, has_no_argument, behind_name, number_mark, pointer_mark, store_mark}
use Rattle.mon_syntax.specs.Grammar.{statement_with, statement_in}
use Rattle.mon_syntax.specs.Checking.{Scope, Header, scope_of, checked_expression, checked_call, returned, call_of_word, value_type, with_target, taken, checked_statement, labels_in}
use Rattle.mon_syntax.proofs.PrintedPieces.{AreTokens}
use Rattle.mon_syntax.proofs.PrintedForms.{Pieces, ended_is, store_is}
use Rattle.mon_syntax.proofs.PrintedAlone.{same_bytes}
use Rattle.mon_syntax.proofs.PrintedSteps.{type_word_is, sees_mark, sees_word}
use Rattle.mon_syntax.proofs.PrintedExpressions.{IsOther, IsName, AreWords, AreFound, same_types, pointed_read}
use Rattle.mon_syntax.proofs.PrintedCalls.{name_statement, call_behind, take_behind, set_name_behind, set_behind, number_mark_read, pointer_mark_read, store_read}
use Rattle.mon_syntax.proofs.PrintedArguments as call_form
use Rattle.mon_syntax.proofs.PrintedBodies.{jump_read, return_read, return_value_read}

or_true : (a b : Bool) → b ≡ true → a || b ≡ true
or_true true b h = refl
or_true false b h = h

name_or_other : (e : MonExpression) → IsName e ⊎ IsOther e
name_or_other (Register r) = inl tt
name_or_other (Global g) = inl tt
name_or_other (Constant t z) = inr tt
name_or_other (Binary op t a b) = inr tt
name_or_other (Minus t a) = inr tt
name_or_other (Flip t a) = inr tt
name_or_other (Cast t a) = inr tt
name_or_other (Load t a) = inr tt

-- the words of other statements
goto_word : word_of (codes "goto") ≡ word.Goto
unfolding word_of
goto_word = refl

return_word : word_of (codes "return") ≡ word.Return
unfolding word_of
return_word = refl

-- the words of marks
number_mark_word : word_of (codes "__e_acsl_initialize") ≡ word.Initialize
unfolding word_of
number_mark_word = refl

pointer_mark_word : word_of (codes "__e_acsl_initialize_ptr") ≡ word.InitializePointer
unfolding word_of
pointer_mark_word = refl

module _ (names : List (List ℕ)) (ws : Vocabulary) (words : AreWords names ws) (functions : List Header) (globals : List ℕ)
    (types : Types) (rs : InSight) (regs : List (ℕ × MonType)) (found : AreFound names types rs globals regs) (result : Option MonType) where
  abbrev count : ℕ
  count = length rs.globals

  abbrev IsCallAs : List ℕ → Word → MonStatement → Pieces → List PlainToken → Type 0
  IsCallAs = call_form.IsCallAs names ws words functions globals types rs regs found

  abbrev Whole : MonExpression → MonType → Pieces → List PlainToken → Type 0
  Whole = call_form.Whole names ws words functions globals types rs regs found

  abbrev number : List ℕ → ℕ
  number = name_number names

  abbrev scope : Scope
  scope = scope_of names ws functions globals regs

  whole : (e : MonExpression) (t : MonType) (more : Pieces) (ts : List PlainToken) → IsExpression count types e t
      → AreTokens names (expression_pieces rs e ++ more) ts → Whole e t more ts
  whole = call_form.whole names ws words functions globals types rs regs found

  -- the labels by their numbers
  abbrev pub numbers : Labels → List ℕ
  numbers ls = map number ls

  -- none of these labels is among the numbers
  abbrev pub AreFresh : Labels → List ℕ → Type 0
  AreFresh ls ns = (w : List ℕ) → has_label ls w ≡ true → slice_get names (number w) ≡ Some w → list_any (nat_eq (number w)) ns ≡ false

  -- each label is a name
  abbrev pub AreNames : Labels → Type 0
  AreNames ls = (w : List ℕ) → has_label ls w ≡ true → word_of w ≡ word.Name

  -- with statements n deep in it the tokens are read as the statement, up to those of the pieces after it
  pub record IsStatementAs (n : ℕ) (a : MonStatement) (ls : Labels) (more : Pieces) (ts : List PlainToken) : Type 0 where
    pub tree : ParsedStatement
    pub rest : List PlainToken
    pub after : AreTokens names more rest
    pub begins : sees (kind ws) first_statement ts ≡ true
    pub parsed : (no_step : Bool) → no_step && valid.is_step a ≡ false → (statement_with ws (statement_in ws n) no_step).parse ts ≡ Ok (tree, rest)
    pub step : form.is_step ws tree ≡ valid.is_step a
    pub checked : checked_statement scope result (numbers ls) tree ≡ Ok a
    pub fresh : AreFresh ls (labels_in tree)

  -- a call whose value is not taken
  pub call_is : (n : ℕ) (w : List ℕ) (k : Word) (a : MonStatement) (ls : Labels) (more : Pieces) (ts : List PlainToken) {at : Place} (us : List PlainToken)
      → word_of w ≡ k → word_kind k ≡ name_kind → is_step_word k ≡ valid.is_step a → slice_get names (number w) ≡ Some w
      → ts ≡ made.token at (token.Word (number w)) ∷ us → IsCallAs w k a more us → IsStatementAs n a ls more ts
  call_is n w k a ls more ts {at} us is named flag there t c =
      let word_is = words (number w) w there ∙ is in
      let name = ap word_kind word_is ∙ named in
      let u : NameUse = record { place = at; number = number w } in
      let call : ParsedCall = record { callee = u; place = c.opening; arguments = c.arguments_list } in
      record {
        tree = parsed.Call call;
        rest = c.rest;
        after = c.after;
        begins = sees_word ws (number w) name_kind t name first_statement true refl;
        parsed = λ no_step h. name_statement ws (statement_in ws n) no_step (number w) t name (call_behind ws (statement_in ws n) no_step u (ap (λ x. no_step && is_step_word x) word_is ∙ ap (λ (b : Bool). no_step && b) flag ∙ h) c.is
            (c.read u) c.ends);
        step = ap (λ x. is_step_word x && has_no_argument c.arguments_list) word_is ∙ c.step;
        checked = ap (λ x. call_of_word scope call x) word_is ∙ c.checked there at;
        fresh = λ v _ _. refl;
      }

  taken_checked : (r : ℕ) (t : MonType) (a b : MonStatement) (ls : Labels) (x_at at : Place) (c : ParsedCall) → slice_get types r ≡ Some t
      → checked_call scope c ≡ Ok a → value_type scope a ≡ Some t → with_target r a ≡ b
      → checked_statement scope result (numbers ls) (parsed.Take (record { place = x_at; number = number (name_of rs r) }) at c) ≡ Ok b
  taken_checked r t a b ls x_at at c h p v e = rw (found.register r t h, p, v, taken, same_types t) (ap Ok e)

  -- a call whose value a register takes
  take_is : (n r : ℕ) (t : MonType) (w : List ℕ) (k : Word) (a b : MonStatement) (arguments : Pieces) (ls : Labels) (more : Pieces) (ts : List PlainToken)
      → word_of w ≡ k → word_kind k ≡ name_kind → slice_get types r ≡ Some t → value_type scope a ≡ Some t → with_target r a ≡ b → valid.is_step b ≡ false
      → ((us : List PlainToken) → AreTokens names (text.left_paren ∷ ((arguments ++ (text.right_paren ∷ text.semicolon ∷ [])) ++ more)) us → IsCallAs w k a more us)
      → AreTokens names (text.Word (name_of rs r) ∷ text.blank ∷ text.Mark (codes "=") ∷ text.blank ∷ (call_pieces w arguments ++ more)) ts
      → IsStatementAs n b ls more ts
  take_is n r t w k a b arguments ls more ts is named h v e no_step inner g =
      let name = ap word_kind (words _ _ g.0 ∙ found.register_name r t h) in
      let to = g.1.3 in
      let callee = to.3 in
      let callee_is = words _ _ callee.0 ∙ is in
      let c = inner callee.1.1 callee.1.3 in
      let x : NameUse = record { place = g.1.0; number = number (name_of rs r) } in
      let u : NameUse = record { place = callee.1.0; number = number w } in
      let call : ParsedCall = record { callee = u; place = c.opening; arguments = c.arguments_list } in
      record {
        tree = parsed.Take x to.0 call;
        rest = c.rest;
        after = c.after;
        begins = sees_word ws _ name_kind g.1.2 name first_statement true refl;
        parsed = λ no_step _. name_statement ws (statement_in ws n) no_step _ g.1.2 name
            (take_behind ws (statement_in ws n) no_step x (number w) to.2 callee.1.2 (ap word_kind callee_is ∙ named) c.is (c.read u) c.ends);
        step = sym no_step;
        checked = taken_checked r t a b ls g.1.0 to.0 call h (ap (λ z. call_of_word scope call z) callee_is ∙ c.checked callee.0 callee.1.0) v e;
        fresh = λ v _ _. refl;
      }

  -- a call whose value a register takes, or none
  pub taken_or_not : (n : ℕ) (r : Option ℕ) (v : Option MonType) (w : List ℕ) (k : Word) (a : Option ℕ → MonStatement) (arguments : Pieces) (ls : Labels) (more : Pieces) (ts : List PlainToken)
      → word_of w ≡ k → word_kind k ≡ name_kind → is_step_word k ≡ false → ((o : Option ℕ) → valid.is_step (a o) ≡ false)
      → ((i : ℕ) → with_target i (a None) ≡ a (Some i)) → value_type scope (a None) ≡ v → TakesValue types r v
      → ((us : List PlainToken) → AreTokens names (text.left_paren ∷ ((arguments ++ (text.right_paren ∷ text.semicolon ∷ [])) ++ more)) us → IsCallAs w k (a None) more us)
      → AreTokens names ((set_or_none rs r ++ call_pieces w arguments) ++ more) ts → IsStatementAs n (a r) ls more ts
  taken_or_not n None v w k a arguments ls more ts is named no_word no_step target value h inner g =
      call_is n w k (a None) ls more ts g.1.1 is named (no_word ∙ sym (no_step None)) g.0 g.1.2 (inner g.1.1 g.1.3)
  taken_or_not n (Some r) None w k a arguments ls more ts is named no_word no_step target value h inner g = absurd h
  taken_or_not n (Some r) (Some t) w k a arguments ls more ts is named no_word no_step target value h inner g =
      take_is n r t w k (a None) (a (Some r)) arguments ls more ts is named h value (target r) (no_step (Some r)) inner g

  set_checked : (r : ℕ) (t : MonType) (e : MonExpression) (ls : Labels) (x_at at : Place) (x : ParsedExpression) → slice_get types r ≡ Some t → checked_expression scope x ≡ Ok (e, t)
      → checked_statement scope result (numbers ls) (parsed.Set (record { place = x_at; number = number (name_of rs r) }) at x) ≡ Ok (Set r e)
  set_checked r t e ls x_at at x h p = rw (found.register r t h, p, same_types t) refl

  set_read : (n : ℕ) (no_step : Bool) (e : MonExpression) (t : MonType) (more : Pieces) (u : NameUse) {at end : Place} {ts : List PlainToken} (us : List PlainToken) {rest : List PlainToken} → ts ≡ made.token at (token.Mark assign) ∷ us
      → (x : Whole e t more us) → x.rest ≡ made.token end (token.Mark semicolon) ∷ rest
      → (behind_name ws no_step u).parse ts ≡ Ok (parsed.Set u at x.tree, rest)
  set_read n no_step e t more u {at} {end} {ts} us {rest} h x s = by (name_or_other e)
    where
      by : IsName e ⊎ IsOther e → (behind_name ws no_step u).parse ts ≡ Ok (parsed.Set u at x.tree, rest)
      by (inl i) = let k = x.named i in set_name_behind ws (statement_in ws n) no_step u k.number h k.token k.name s ∙ ap (λ (y : ParsedExpression). Ok (parsed.Set u at y, rest)) (sym k.is)
      by (inr i) = let k = x.other i in set_behind ws (statement_in ws n) no_step u h k.1 k.0 s

  pub set_is : (n r : ℕ) (t : MonType) (e : MonExpression) (ls : Labels) (more : Pieces) (ts : List PlainToken) → slice_get types r ≡ Some t → IsExpression count types e t
      → AreTokens names (text.Word (name_of rs r) ∷ text.blank ∷ text.Mark (codes "=") ∷ text.blank ∷ ((expression_pieces rs e ++ (text.semicolon ∷ [])) ++ more)) ts → IsStatementAs n (Set r e) ls more ts
  set_is n r t e ls more ts h typed a0 =
      let a = subst (λ (l : Pieces). AreTokens names (text.Word (name_of rs r) ∷ text.blank ∷ text.Mark (codes "=") ∷ text.blank ∷ l) ts) (ended_is rs more e) a0 in
      let name = ap word_kind (words _ _ a.0 ∙ found.register_name r t h) in
      let to = a.1.3 in
      let x = whole e t (text.semicolon ∷ more) to.1 typed to.3 in
      let u : NameUse = record { place = a.1.0; number = number (name_of rs r) } in
      record {
        tree = parsed.Set u to.0 x.tree;
        rest = x.after.1;
        after = x.after.3;
        begins = sees_word ws _ name_kind a.1.2 name first_statement true refl;
        parsed = λ no_step _. name_statement ws (statement_in ws n) no_step _ a.1.2 name (set_read n no_step e t (text.semicolon ∷ more) u to.1 to.2 x x.after.2);
        step = refl;
        checked = set_checked r t e ls a.1.0 to.0 x.tree h x.checked;
        fresh = λ v _ _. refl;
      }

  -- ---- stores

  -- a name where it stands
  abbrev used : Place → ℕ → NameUse
  used place n = record { place = place; number = n }

  -- the mark of a store through the register with this name
  record IsMarkAs (n : ℕ) (t : MonType) (more : Pieces) (ts : List PlainToken) : Type 0 where
    rest : List PlainToken
    after : AreTokens names more rest
    read : (place : Place) (a : ParsedStatement) → (store_mark ws t (used place n) a).parse ts ≡ Ok (a, rest)

  mark_is : (r : ℕ) (t : MonType) (more : Pieces) (ts : List PlainToken) → AreTokens names (mark_pieces rs r t ++ more) ts
      → IsMarkAs (number (name_of rs r)) t more ts
  unfolding store_mark
  mark_is r t more ts a = let x = by (is_pointer t) a in record { rest = x.0; after = x.1; read = x.2 }
    where
      by : (b : Bool) → AreTokens names ((if b then call_pieces (codes "__e_acsl_initialize_ptr") (text.Word (name_of rs r) ∷ [])
          else call_pieces (codes "__e_acsl_initialize") (text.Word (name_of rs r) ∷ (text.comma ++ (text.Number (byte_count t) ∷ [])))) ++ more) ts
          → (rest : List PlainToken) × AreTokens names more rest
          × ((place : Place) (c : ParsedStatement) → (cond b (pointer_mark ws (used place (number (name_of rs r))) c)
          (number_mark ws (byte_count t) (used place (number (name_of rs r))) c)).parse ts ≡ Ok (c, rest))
      by true g =
          let w = ap word_kind (words _ _ g.0 ∙ pointer_mark_word) in
          let opening = g.1.3 in
          let name = opening.3 in
          let closing = name.1.3 in
          let end = closing.3 in
          (end.1, end.3, λ place c. pointer_mark_read ws _ (number (name_of rs r)) place c g.1.2 w opening.2 name.1.2 closing.2 end.2)
      by false g =
          let w = ap word_kind (words _ _ g.0 ∙ number_mark_word) in
          let opening = g.1.3 in
          let name = opening.3 in
          let second = name.1.3 in
          let bytes = second.3 in
          let closing = bytes.3 in
          let end = closing.3 in
          (end.1, end.3, λ place c. number_mark_read ws (byte_count t) _ (number (name_of rs r)) place c g.1.2 w opening.2 name.1.2 second.2 bytes.2 closing.2 end.2)

  store_checked : (r : ℕ) (t : MonType) (e : MonExpression) (ls : Labels) (x_at at : Place) (x : ParsedExpression) → slice_get types r ≡ Some Ptr → checked_expression scope x ≡ Ok (e, t)
      → checked_statement scope result (numbers ls) (parsed.Store t (record { place = x_at; number = number (name_of rs r) }) at x) ≡ Ok (Store r t e)
  store_checked r t e ls x_at at x h p = rw (found.register r Ptr h, p, same_types t) refl

  pub stored_is : (called : FunctionNames) (n depth r : ℕ) (t : MonType) (e : MonExpression) (ls : Labels) (more : Pieces) (ts : List PlainToken) → slice_get types r ≡ Some Ptr
      → IsExpression count types e t → AreTokens names (statement_pieces called rs depth (Store r t e) ++ more) ts → IsStatementAs n (Store r t e) ls more ts
  stored_is called n depth r t e ls more ts h typed a0 =
      let a = subst (λ (l : Pieces). AreTokens names l ts) (store_is called rs more depth r t e) a0 in
      let opening = a.3 in
      let kind_there = opening.3 in
      let kind_is = words _ _ kind_there.0 ∙ type_word_is t in
      let star = kind_there.1.3 in
      let closing = star.3 in
      let name = closing.3 in
      let name_is = ap word_kind (words _ _ name.0 ∙ found.register_name r Ptr h) in
      let to = name.1.3 in
      let x = whole e t (text.semicolon ∷ text.new_line depth ∷ (mark_pieces rs r t ++ more)) to.1 typed to.3 in
      let end = x.after in
      let m = mark_is r t more end.1 end.3 in
      record {
        tree = parsed.Store t (record { place = name.1.0; number = number (name_of rs r) }) to.0 x.tree;
        rest = m.rest;
        after = m.after;
        begins = sees_mark ws times a.2 first_statement true refl;
        parsed = λ no_step _. store_read ws (statement_in ws n) no_step t _ a.2 opening.2 (pointed_read ws t _ kind_there.1.2 kind_is star.2 closing.2) name.1.2 name_is to.2 x.parsed end.2 (m.read name.1.0);
        step = refl;
        checked = store_checked r t e ls name.1.0 to.0 x.tree h x.checked;
        fresh = λ v _ _. refl;
      }

  -- ---- jumps

  label_known : (ls : Labels) (l : List ℕ) → has_label ls l ≡ true → list_any (nat_eq (number l)) (numbers ls) ≡ true
  label_known [] l h = absurd cc
  label_known (w ∷ ls) l h = by (bytes_eq l w) refl h (label_known ls l)
    where
      by : (t : Bool) → bytes_eq l w ≡ t → t || has_label ls l ≡ true → (has_label ls l ≡ true → list_any (nat_eq (number l)) (numbers ls) ≡ true) → nat_eq (number l) (number w) || list_any (nat_eq (number l)) (numbers ls) ≡ true
      by true e g rest = ap (λ (b : Bool). b || list_any (nat_eq (number l)) (numbers ls)) (eq-eqb (number l) (number w) (ap number (same_bytes l w e)))
      by false e g rest = or_true (nat_eq (number l) (number w)) (list_any (nat_eq (number l)) (numbers ls)) (rest g)

  goto_checked : (l : List ℕ) (ls : Labels) (at : Place) → has_label ls l ≡ true → slice_get names (number l) ≡ Some l → checked_statement scope result (numbers ls) (parsed.Goto (record { place = at; number = number l })) ≡ Ok (Goto l)
  goto_checked l ls at h there = rw (label_known ls l h, call_form.bytes_are names ws words functions globals types rs regs found (number l) l there) refl

  pub goto_is : (n : ℕ) (l : List ℕ) (ls : Labels) (more : Pieces) (ts : List PlainToken) → AreNames ls → has_label ls l ≡ true → AreTokens names (text.Word (codes "goto") ∷ text.blank ∷ text.Word l ∷ text.semicolon ∷ more) ts
      → IsStatementAs n (Goto l) ls more ts
  goto_is n l ls more ts labels h a =
      let goto_kind_is = ap word_kind (words _ _ a.0 ∙ goto_word) in
      let to = a.1.3 in
      let label = ap word_kind (words _ _ to.0 ∙ labels l h) in
      let end = to.1.3 in
      record {
        tree = parsed.Goto (record { place = to.1.0; number = number l });
        rest = end.1;
        after = end.3;
        begins = sees_word ws _ goto_kind a.1.2 goto_kind_is first_statement true refl;
        parsed = λ no_step _. jump_read ws n _ _ a.1.2 goto_kind_is to.1.2 label end.2 no_step;
        step = refl;
        checked = goto_checked l ls to.1.0 h to.0;
        fresh = λ v _ _. refl;
      }

  returned_none : (r : Option MonType) → ReturnsResult count types r None → r ≡ None
  returned_none None h = refl
  returned_none (Some t) h = absurd h

  returned_some : (r : Option MonType) (e : MonExpression) → ReturnsResult count types r (Some e) → (t : MonType) × (r ≡ Some t) × IsExpression count types e t
  returned_some None e h = absurd h
  returned_some (Some t) e h = (t, refl, h)

  pub return_is : (n : ℕ) (ls : Labels) (more : Pieces) (ts : List PlainToken) → ReturnsResult count types result None → AreTokens names (text.Word (codes "return") ∷ text.semicolon ∷ more) ts → IsStatementAs n (Return None) ls more ts
  return_is n ls more ts h a =
      let return_kind_is = ap word_kind (words _ _ a.0 ∙ return_word) in
      let end = a.1.3 in
      record {
        tree = parsed.Return a.1.0 None;
        rest = end.1;
        after = end.3;
        begins = sees_word ws _ return_kind a.1.2 return_kind_is first_statement true refl;
        parsed = λ no_step _. return_read ws n _ a.1.2 return_kind_is end.2 no_step;
        step = refl;
        checked = ap (λ (r : Option MonType). returned scope r a.1.0 None) (returned_none result h);
        fresh = λ v _ _. refl;
      }

  value_returned : (t : MonType) (e : MonExpression) (at : Place) (x : ParsedExpression) → checked_expression scope x ≡ Ok (e, t) → returned scope (Some t) at (Some x) ≡ Ok (Return (Some e))
  value_returned t e at x p = rw (p, same_types t) refl

  pub return_value_is : (n : ℕ) (e : MonExpression) (ls : Labels) (more : Pieces) (ts : List PlainToken) → ReturnsResult count types result (Some e)
      → AreTokens names (text.Word (codes "return") ∷ text.blank ∷ ((expression_pieces rs e ++ (text.semicolon ∷ [])) ++ more)) ts → IsStatementAs n (Return (Some e)) ls more ts
  return_value_is n e ls more ts h a0 =
      let a = subst (λ (l : Pieces). AreTokens names (text.Word (codes "return") ∷ text.blank ∷ l) ts) (ended_is rs more e) a0 in
      let return_kind_is = ap word_kind (words _ _ a.0 ∙ return_word) in
      let typed = returned_some result e h in
      let x = whole e typed.0 (text.semicolon ∷ more) a.1.1 typed.2 a.1.3 in
      record {
        tree = parsed.Return a.1.0 (Some x.tree);
        rest = x.after.1;
        after = x.after.3;
        begins = sees_word ws _ return_kind a.1.2 return_kind_is first_statement true refl;
        parsed = λ no_step _. return_value_read ws n _ a.1.2 return_kind_is x.begins x.parsed x.after.2 no_step;
        step = refl;
        checked = ap (λ (r : Option MonType). returned scope r a.1.0 (Some x.tree)) typed.1 ∙ value_returned typed.0 e a.1.0 x.tree x.checked;
        fresh = λ v _ _. refl;
      }
