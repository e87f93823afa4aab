-- A printed expression is read, and checks as the expression that was printed.
use Rattle.std.proofs.Common.{◌≡◌, ℕ, zero, suc, ◌<◌, ◌≤◌, Bool, true, false, List, [], ◌∷◌, ◌++◌, length, slice_get, codes, ℤ, pos, negsuc, Some, None, Ok, refl, ap, subst, ◌∙◌, arith}
use Rattle.grammar.specs.Syntax.{Syntax, among, sees}
use Rattle.c_syntax.specs.declared.place.Place.{Place}
use Rattle.c_syntax.specs.Tokens as token
use Rattle.c_syntax.specs.Tokens.{PlainToken}
use Rattle.c_model.specs.Names.{name_number}
use Rattle.c_model.specs.MonitoredTokens as made
use Rattle.c_model.specs.Punctuators.{minus, tilde, times, left_paren, right_paren}
use Rattle.mon_syntax.specs.declared.tree.MonType.{MonType}
use Rattle.mon_syntax.specs.declared.tree.MonType.TheVariants.{I8, U8, I16, U16, I32, U32, I64, U64, I128, Ptr}
use Rattle.mon_syntax.specs.declared.tree.MonOp.{MonOp}
use Rattle.mon_syntax.specs.declared.word.Word.TheVariants as word
use Rattle.mon_syntax.specs.Names.{type_word}
use Rattle.mon_syntax.specs.Words.{word_of}
use Rattle.mon_syntax.specs.Trees.{MonExpression, Register, Global, Constant, Binary, Minus, Flip, Cast, Load}
use Rattle.mon_syntax.specs.Text as text
use Rattle.mon_syntax.specs.Text.{InSight, name_of, global_name, pointed_type, number_pieces, expression_pieces}
use Rattle.mon_syntax.specs.Valid.{Types, is_arithmetic, is_whole, has_operator, second_type, result_type, HasType, open_parens}
use Rattle.mon_syntax.specs.Parsed as parsed
use Rattle.mon_syntax.specs.Parsed.{ParsedExpression}
use Rattle.mon_syntax.specs.Grammar.{Vocabulary, name_kind, type_kind, constant_kind, mark_kind, word_kind, word_at, kind, number_of, type_of_word, type_of, constant_of_word, constant_of, operator_of}
use Rattle.mon_syntax.specs.Grammar.{signed_number, constant, other_expression, expression_with, second_operand, negation, complement, cast, load, behind_two, plain_operand, behind_paren, opened, behind_opened, expression_in}
use Rattle.mon_syntax.specs.Grammar as form
use Rattle.mon_syntax.specs.Checking.{Scope, Header, same_type, find_register, find_global, scope_of, named, checked_expression}
use Rattle.mon_syntax.proofs.PrintedPieces.{punctuator, AreTokens}
use Rattle.mon_syntax.proofs.PrintedForms.{Pieces, binary_is, closed_is}
use Rattle.mon_syntax.proofs.PrintedSteps.{type_word_is, constant_word_is, operator_mark_is, mark_read, placed_read, name_read, opened_read, sees_mark, sees_word}

pub same_types : (t : MonType) → same_type t t ≡ true
same_types I8 = refl
same_types U8 = refl
same_types I16 = refl
same_types U16 = refl
same_types I32 = refl
same_types U32 = refl
same_types I64 = refl
same_types U64 = refl
same_types I128 = refl
same_types Ptr = refl

-- ---- productions, given what their parts read

module _ (ws : Vocabulary) where
  module _ {at : Place} {ts more : List PlainToken} where
    negation_read : (E : Syntax PlainToken ParsedExpression) {x : ParsedExpression} {end : Place} {r rest : List PlainToken} → ts ≡ made.token at (token.Mark minus) ∷ more → E.parse more ≡ Ok (x, r)
        → r ≡ made.token end (token.Mark right_paren) ∷ rest → (negation ws E).parse ts ≡ Ok (parsed.Minus at x, rest)
    unfolding negation
    negation_read E t e c = rw (mark_read ws minus t, e, mark_read ws right_paren c) refl

    complement_read : (E : Syntax PlainToken ParsedExpression) {x : ParsedExpression} {end : Place} {r rest : List PlainToken} → ts ≡ made.token at (token.Mark tilde) ∷ more → E.parse more ≡ Ok (x, r)
        → r ≡ made.token end (token.Mark right_paren) ∷ rest → (complement ws E).parse ts ≡ Ok (parsed.Flip at x, rest)
    unfolding complement
    complement_read E t e c = rw (mark_read ws tilde t, e, mark_read ws right_paren c) refl

    second_read : (E : Syntax PlainToken ParsedExpression) (op : MonOp) (left : ParsedExpression) {x : ParsedExpression} {end : Place} {r rest : List PlainToken} → ts ≡ made.token at (token.Mark (punctuator (text.operator_mark op))) ∷ more
        → E.parse more ≡ Ok (x, r) → r ≡ made.token end (token.Mark right_paren) ∷ rest → (second_operand ws E left).parse ts ≡ Ok (parsed.Binary at op left x, rest)
    unfolding second_operand
    second_read E op left t e c = rw (placed_read ws operator_of (token.Mark (punctuator (text.operator_mark op))) op t (operator_mark_is op), e, mark_read ws right_paren c) refl

  cast_read : (E : Syntax PlainToken ParsedExpression) (place : Place) (k : MonType) (n : ℕ) {at close end : Place} {ts us more r rest : List PlainToken} {x : ParsedExpression} → ts ≡ made.token at (token.Word n) ∷ us → word_at ws n ≡ word.TypeName k
      → us ≡ made.token close (token.Mark right_paren) ∷ more → E.parse more ≡ Ok (x, r) → r ≡ made.token end (token.Mark right_paren) ∷ rest → (cast ws E place).parse ts ≡ Ok (parsed.Cast place k x, rest)
  unfolding cast
  cast_read E place k n t w u e c = rw (placed_read ws (type_of ws) (token.Word n) k t (ap type_of_word w), mark_read ws right_paren u, e, mark_read ws right_paren c) refl

  -- the type of what is read or stored at a pointer
  pub pointed_read : (k : MonType) (n : ℕ) {at to end : Place} {ts us vs rest : List PlainToken} → ts ≡ made.token at (token.Word n) ∷ us → word_at ws n ≡ word.TypeName k
      → us ≡ made.token to (token.Mark times) ∷ vs → vs ≡ made.token end (token.Mark right_paren) ∷ rest → (form.pointed_type ws).parse ts ≡ Ok (k, rest)
  unfolding form.pointed_type
  pointed_read k n t w u c = rw (placed_read ws (type_of ws) (token.Word n) k t (ap type_of_word w), mark_read ws times u, mark_read ws right_paren c) refl

  load_read : (O : Syntax PlainToken Place) (E : Syntax PlainToken ParsedExpression) (k : MonType) {at opening end : Place} {ts us vs more r rest : List PlainToken} {x : ParsedExpression}
      → ts ≡ made.token at (token.Mark times) ∷ us → O.parse us ≡ Ok (opening, vs)
      → (form.pointed_type ws).parse vs ≡ Ok (k, more) → E.parse more ≡ Ok (x, r) → r ≡ made.token end (token.Mark right_paren) ∷ rest → (load ws O E).parse ts ≡ Ok (parsed.Load at k x, rest)
  unfolding load
  load_read O E k t o p e c = rw (mark_read ws times t, o, p, e, mark_read ws right_paren c) refl

  positive_read : (n : ℕ) {at : Place} {ts more : List PlainToken} → ts ≡ made.token at (token.Number (pos n) None) ∷ more → (signed_number ws).parse ts ≡ Ok (pos n, more)
  unfolding signed_number
  positive_read n {at} {ts} {more} t =
      let other : sees (kind ws) (mark_kind minus ∷ []) ts ≡ false = ap (sees (kind ws) (mark_kind minus ∷ [])) t in
      rw (other, placed_read ws number_of (token.Number (pos n) None) (pos n) t refl) refl

  negative_read : (n : ℕ) {at to : Place} {ts us more : List PlainToken} → ts ≡ made.token at (token.Mark minus) ∷ us → us ≡ made.token to (token.Number (pos (suc n)) None) ∷ more → (signed_number ws).parse ts ≡ Ok (negsuc n, more)
  unfolding signed_number
  negative_read n t u = rw (sees_mark ws minus t (mark_kind minus ∷ []) true refl, mark_read ws minus t, placed_read ws number_of (token.Number (pos (suc n)) None) (pos (suc n)) u refl) refl

  constant_read : (O : Syntax PlainToken Place) (k : MonType) (z : ℤ) (n : ℕ) {at opening close : Place} {ts us vs r rest : List PlainToken} → ts ≡ made.token at (token.Word n) ∷ us → word_at ws n ≡ word.Constant k → O.parse us ≡ Ok (opening, vs)
      → (signed_number ws).parse vs ≡ Ok (z, r) → r ≡ made.token close (token.Mark right_paren) ∷ rest → (constant ws O).parse ts ≡ Ok (parsed.Constant at k z, rest)
  unfolding constant
  constant_read O k z n t w o e c = rw (placed_read ws (constant_of ws) (token.Word n) k t (ap constant_of_word w), o, e, mark_read ws right_paren c) refl

  -- what stands after a parenthesis
  behind_suc : (m : ℕ) (ts : List PlainToken) → (behind_opened ws (suc m)).parse ts ≡ (behind_paren ws (opened ws m) (behind_opened ws m)).parse ts
  unfolding behind_opened
  behind_suc m ts = refl

  minus_behind : (m : ℕ) {at : Place} {ts more : List PlainToken} → ts ≡ made.token at (token.Mark minus) ∷ more → (behind_opened ws (suc m)).parse ts ≡ (negation ws (expression_in ws m)).parse ts
  unfolding behind_opened behind_paren expression_in
  minus_behind m t = rw (sees_mark ws minus t (mark_kind minus ∷ []) true refl) refl

  tilde_behind : (m : ℕ) {at : Place} {ts more : List PlainToken} → ts ≡ made.token at (token.Mark tilde) ∷ more → (behind_opened ws (suc m)).parse ts ≡ (complement ws (expression_in ws m)).parse ts
  unfolding behind_opened behind_paren expression_in
  tilde_behind m t = rw (sees_mark ws tilde t (mark_kind minus ∷ []) false refl, sees_mark ws tilde t (mark_kind tilde ∷ []) true refl) refl

  times_behind : (m : ℕ) {at : Place} {ts more : List PlainToken} → ts ≡ made.token at (token.Mark times) ∷ more → (behind_opened ws (suc m)).parse ts ≡ (load ws (opened ws m) (expression_in ws m)).parse ts
  unfolding behind_opened behind_paren expression_in
  times_behind m t = rw (sees_mark ws times t (mark_kind minus ∷ []) false refl, sees_mark ws times t (mark_kind tilde ∷ []) false refl, sees_mark ws times t (mark_kind times ∷ []) true refl) refl

  cast_behind : (m n : ℕ) {at to : Place} {ts us more : List PlainToken} → 0 < m → ts ≡ made.token at (token.Mark left_paren) ∷ us → us ≡ made.token to (token.Word n) ∷ more → word_kind (word_at ws n) ≡ type_kind
      → (behind_opened ws (suc m)).parse ts ≡ (cast ws (expression_in ws m) at).parse us
  unfolding behind_opened behind_paren behind_two expression_in
  cast_behind m n some t u w =
      rw (
        sees_mark ws left_paren t (mark_kind minus ∷ []) false refl,
        sees_mark ws left_paren t (mark_kind tilde ∷ []) false refl,
        sees_mark ws left_paren t (mark_kind times ∷ []) false refl,
        sees_mark ws left_paren t (mark_kind left_paren ∷ []) true refl,
        opened_read ws m some t,
        sees_word ws n type_kind u w (type_kind ∷ []) true refl,
      ) refl

  -- an expression that begins with a parenthesis
  module _ (n : ℕ) {at : Place} {ts inner rest : List PlainToken} {x : ParsedExpression} (some : 0 < n) (t : ts ≡ made.token at (token.Mark left_paren) ∷ inner) (is : (behind_opened ws n).parse inner ≡ Ok (x, rest)) where
    paren_other : (other_expression ws (opened ws n) (behind_opened ws n)).parse ts ≡ Ok (x, rest)
    unfolding other_expression
    paren_other = rw (sees_mark ws left_paren t (constant_kind ∷ []) false refl, opened_read ws n some t, is) refl

    paren_parsed : (expression_in ws n).parse ts ≡ Ok (x, rest)
    unfolding expression_in expression_with
    paren_parsed = rw (sees_mark ws left_paren t (name_kind ∷ []) false refl, paren_other) refl

    paren_first : sees (kind ws) (type_kind ∷ []) inner ≡ false → (behind_paren ws (opened ws n) (behind_opened ws n)).parse ts ≡ (second_operand ws (expression_in ws n) x).parse rest
    unfolding behind_paren behind_two expression_in
    paren_first no_type =
        rw (
          sees_mark ws left_paren t (mark_kind minus ∷ []) false refl,
          sees_mark ws left_paren t (mark_kind tilde ∷ []) false refl,
          sees_mark ws left_paren t (mark_kind times ∷ []) false refl,
          sees_mark ws left_paren t (mark_kind left_paren ∷ []) true refl,
          opened_read ws n some t,
          no_type,
          is,
        ) refl

  -- an expression that is a name
  module _ (n k : ℕ) {at : Place} {ts rest : List PlainToken} (t : ts ≡ made.token at (token.Word k) ∷ rest) (w : word_kind (word_at ws k) ≡ name_kind) where
    abbrev the_name : ParsedExpression
    the_name = parsed.Name (record { place = at; number = k })

    name_parsed : (expression_in ws n).parse ts ≡ Ok (the_name, rest)
    unfolding expression_in expression_with
    name_parsed = rw (sees_word ws k name_kind t w (name_kind ∷ []) true refl, name_read ws k t w) refl

    name_first : (behind_paren ws (opened ws n) (behind_opened ws n)).parse ts ≡ (second_operand ws (expression_in ws n) the_name).parse rest
    unfolding behind_paren plain_operand expression_in
    name_first =
        let sees_name = sees_word ws k name_kind t w in
        rw (
          sees_name (mark_kind minus ∷ []) false refl,
          sees_name (mark_kind tilde ∷ []) false refl,
          sees_name (mark_kind times ∷ []) false refl,
          sees_name (mark_kind left_paren ∷ []) false refl,
          sees_name (name_kind ∷ []) true refl,
          name_read ws k t w,
        ) refl

  -- an expression that is a constant
  module _ (n k : ℕ) {at : Place} {ts us rest : List PlainToken} {x : ParsedExpression} (t : ts ≡ made.token at (token.Word k) ∷ us) (w : word_kind (word_at ws k) ≡ constant_kind) (is : (constant ws (opened ws n)).parse ts ≡ Ok (x, rest)) where
    constant_other : (other_expression ws (opened ws n) (behind_opened ws n)).parse ts ≡ Ok (x, rest)
    unfolding other_expression
    constant_other = rw (sees_word ws k constant_kind t w (constant_kind ∷ []) true refl, is) refl

    constant_parsed : (expression_in ws n).parse ts ≡ Ok (x, rest)
    unfolding expression_in expression_with
    constant_parsed = rw (sees_word ws k constant_kind t w (name_kind ∷ []) false refl, constant_other) refl

    constant_first : (behind_paren ws (opened ws n) (behind_opened ws n)).parse ts ≡ (second_operand ws (expression_in ws n) x).parse rest
    unfolding behind_paren plain_operand expression_in
    constant_first =
        let sees_constant = sees_word ws k constant_kind t w in
        rw (
          sees_constant (mark_kind minus ∷ []) false refl,
          sees_constant (mark_kind tilde ∷ []) false refl,
          sees_constant (mark_kind times ∷ []) false refl,
          sees_constant (mark_kind left_paren ∷ []) false refl,
          sees_constant (name_kind ∷ []) false refl,
          is,
        ) refl

-- ---- expressions

-- the first token is one with which an expression begins
abbrev pub Begins : Vocabulary → List PlainToken → Type 0
Begins ws ts = (ks : List ℕ) (b : Bool) → among name_kind ks ≡ b → among constant_kind ks ≡ b → among (mark_kind left_paren) ks ≡ b → sees (kind ws) ks ts ≡ b

-- no name
abbrev pub IsOther : MonExpression → Type 0
IsOther (Register r) = ⊥
IsOther (Global g) = ⊥
IsOther (Constant t z) = Unit {0}
IsOther (Binary op t a b) = Unit {0}
IsOther (Minus t a) = Unit {0}
IsOther (Flip t a) = Unit {0}
IsOther (Cast t a) = Unit {0}
IsOther (Load t a) = Unit {0}

-- a register or a global
abbrev pub IsName : MonExpression → Type 0
IsName (Register r) = Unit {0}
IsName (Global g) = Unit {0}
IsName (Constant t z) = ⊥
IsName (Binary op t a b) = ⊥
IsName (Minus t a) = ⊥
IsName (Flip t a) = ⊥
IsName (Cast t a) = ⊥
IsName (Load t a) = ⊥

-- the tokens begin with a name, of which the expression is made
pub record IsNamed (ws : Vocabulary) (tree : ParsedExpression) (ts rest : List PlainToken) : Type 0 where
  pub place : Place
  pub number : ℕ
  pub is : tree ≡ parsed.Name (record { place = place; number = number })
  pub token : ts ≡ made.token place (token.Word number) ∷ rest
  pub name : word_kind (word_at ws number) ≡ name_kind

-- what the names of a text are
abbrev pub AreWords : List (List ℕ) → Vocabulary → Type 0
AreWords names ws = (n : ℕ) (w : List ℕ) → slice_get names n ≡ Some w → word_at ws n ≡ word_of w

-- each register is found by its name, which is no other word, and each global by its own, which no register has
pub record AreFound (names : List (List ℕ)) (types : Types) (rs : InSight) (globals : List ℕ) (regs : List (ℕ × MonType)) : Type 0 where
  pub register : (r : ℕ) (t : MonType) → slice_get types r ≡ Some t → find_register 0 regs (name_number names (name_of rs r)) ≡ Some (r, t)
  pub register_name : (r : ℕ) (t : MonType) → slice_get types r ≡ Some t → word_of (name_of rs r) ≡ word.Name
  pub no_register : (g : ℕ) → g < length rs.globals → slice_get names (name_number names (global_name rs g)) ≡ Some (global_name rs g)
      → find_register 0 regs (name_number names (global_name rs g)) ≡ None
  pub global : (g : ℕ) → g < length rs.globals → find_global 0 globals (name_number names (global_name rs g)) ≡ Some g
  pub global_name : (g : ℕ) → g < length rs.globals → word_of (global_name rs g) ≡ word.Name

module _ (names : List (List ℕ)) (ws : Vocabulary) (words : AreWords names ws) (functions : List Header) (globals : List ℕ)
    (types : Types) (rs : InSight) (regs : List (ℕ × MonType)) (found : AreFound names types rs globals regs) where
  abbrev pub count : ℕ
  count = length rs.globals

  abbrev pub scope : Scope
  scope = scope_of names ws functions globals regs

  -- with n parentheses left the tokens are read as the expression of its type, up to those of the pieces after it
  pub record IsReadAs (n : ℕ) (e : MonExpression) (t : MonType) (more : Pieces) (ts : List PlainToken) : Type 0 where
    pub tree : ParsedExpression
    pub rest : List PlainToken
    pub after : AreTokens names more rest
    pub checked : checked_expression scope tree ≡ Ok (e, t)
    pub begins : Begins ws ts
    pub parsed : (expression_in ws n).parse ts ≡ Ok (tree, rest)
    pub first : (behind_paren ws (opened ws n) (behind_opened ws n)).parse ts ≡ (second_operand ws (expression_in ws n) tree).parse rest
    pub other : IsOther e → ((other_expression ws (opened ws n) (behind_opened ws n)).parse ts ≡ Ok (tree, rest)) × (sees (kind ws) (name_kind ∷ []) ts ≡ false)
    pub named : IsName e → IsNamed ws tree ts rest

  paren_is : (n : ℕ) (e : MonExpression) (t : MonType) (more : Pieces) {at : Place} {ts inner : List PlainToken} (x : ParsedExpression) (rest : List PlainToken)
      → 0 < n → ts ≡ made.token at (token.Mark left_paren) ∷ inner → (behind_opened ws n).parse inner ≡ Ok (x, rest)
      → sees (kind ws) (type_kind ∷ []) inner ≡ false → AreTokens names more rest → checked_expression scope x ≡ Ok (e, t)
      → (IsName e → ⊥) → IsReadAs n e t more ts
  paren_is n e t more x rest some h is no_type after checked no_name = record {
    tree = x;
    rest = rest;
    after = after;
    checked = checked;
    begins = λ ks b _ _ i. sees_mark ws left_paren h ks b i;
    parsed = paren_parsed ws n some h is;
    first = paren_first ws n some h is no_type;
    other = λ _. (paren_other ws n some h is, sees_mark ws left_paren h (name_kind ∷ []) false refl);
    named = λ z. absurd (no_name z);
  }

  constant_is : (n : ℕ) (k : MonType) (z : ℤ) (t : MonType) (more : Pieces) (ts : List PlainToken) → 1 ≤ n → HasType count types (Constant k z) t → AreTokens names (expression_pieces rs (Constant k z) ++ more) ts → IsReadAs n (Constant k z) t more ts
  constant_is n k z t more ts some h a =
      let w = words _ _ a.0 ∙ constant_word_is k in
      let c = ap word_kind w in
      let opening = opened_read ws n some a.1.3.2 in
      let value = number_is z a.1.3.1 a.1.3.3 in
      let is = constant_read ws (opened ws n) k z _ a.1.2 w opening value.1 value.2.2 in
      record {
        tree = parsed.Constant a.1.0 k z;
        rest = value.2.1;
        after = value.2.3;
        checked = rw (h.1) (ap (λ (y : MonType). Ok (Constant k z, y)) h.0);
        begins = λ ks b _ i _. sees_word ws _ constant_kind a.1.2 c ks b i;
        parsed = constant_parsed ws n _ a.1.2 c is;
        first = constant_first ws n _ a.1.2 c is;
        other = λ _. (constant_other ws n _ a.1.2 c is, sees_word ws _ constant_kind a.1.2 c (name_kind ∷ []) false refl);
        named = λ z. absurd z;
      }
    where
      number_is : (z : ℤ) (us : List PlainToken) → AreTokens names ((number_pieces z ++ (text.right_paren ∷ [])) ++ more) us
          → (r : List PlainToken) × ((signed_number ws).parse us ≡ Ok (z, r)) × ((end : Place) × (rest : List PlainToken) × (r ≡ made.token end (token.Mark right_paren) ∷ rest) × AreTokens names more rest)
      number_is (pos m) us b = (b.1, positive_read ws m b.2, b.3)
      number_is (negsuc m) us b = (b.3.1, negative_read ws m b.2 b.3.2, b.3.3)

  binary_checked : (op : MonOp) (k t : MonType) (a b : MonExpression) (at : Place) (x y : ParsedExpression)
      → checked_expression scope x ≡ Ok (a, k) → checked_expression scope y ≡ Ok (b, second_type op k)
      → has_operator op k ≡ true → result_type op k ≡ t
      → checked_expression scope (parsed.Binary at op x y) ≡ Ok (Binary op k a b, t)
  binary_checked op k t a b at x y p q h e = rw (p, q, same_types (second_type op k), h) (ap (λ (z : MonType). Ok (Binary op k a b, z)) e)

  minus_checked : (k t : MonType) (a : MonExpression) (at : Place) (x : ParsedExpression)
      → checked_expression scope x ≡ Ok (a, k) → is_arithmetic k ≡ true → k ≡ t
      → checked_expression scope (parsed.Minus at x) ≡ Ok (Minus k a, t)
  minus_checked k t a at x p h e = rw (p, h) (ap (λ (z : MonType). Ok (Minus k a, z)) e)

  flip_checked : (k t : MonType) (a : MonExpression) (at : Place) (x : ParsedExpression) → checked_expression scope x ≡ Ok (a, k)
      → is_arithmetic k ≡ true → k ≡ t → checked_expression scope (parsed.Flip at x) ≡ Ok (Flip k a, t)
  flip_checked k t a at x p h e = rw (p, h) (ap (λ (z : MonType). Ok (Flip k a, z)) e)

  cast_checked : (k t «from» : MonType) (a : MonExpression) (at : Place) (x : ParsedExpression)
      → checked_expression scope x ≡ Ok (a, «from») → is_whole «from» ≡ true → is_whole k ≡ true → k ≡ t
      → checked_expression scope (parsed.Cast at k x) ≡ Ok (Cast k a, t)
  cast_checked k t «from» a at x p i j e = rw (p, i, j) (ap (λ (z : MonType). Ok (Cast k a, z)) e)

  load_checked : (k t : MonType) (a : MonExpression) (at : Place) (x : ParsedExpression) → checked_expression scope x ≡ Ok (a, Ptr) → k ≡ t
      → checked_expression scope (parsed.Load at k x) ≡ Ok (Load k a, t)
  load_checked k t a at x p e = rw p (ap (λ (z : MonType). Ok (Load k a, z)) e)

  -- a name
  name_is : (n : ℕ) (e : MonExpression) (t : MonType) (w : List ℕ) (more : Pieces) (ts : List PlainToken) → word_of w ≡ word.Name
      → (slice_get names (name_number names w) ≡ Some w → (at : Place) → named scope (record { place = at; number = name_number names w }) ≡ Ok (e, t))
      → (IsOther e → ⊥) → AreTokens names (text.Word w ∷ more) ts → IsReadAs n e t more ts
  name_is n e t w more ts is checks no_other a =
      let k = ap word_kind (words _ _ a.0 ∙ is) in
      record {
        tree = parsed.Name (record { place = a.1.0; number = name_number names w });
        rest = a.1.1;
        after = a.1.3;
        checked = checks a.0 a.1.0;
        begins = λ ks b i _ _. sees_word ws _ name_kind a.1.2 k ks b i;
        parsed = name_parsed ws n _ a.1.2 k;
        first = name_first ws n _ a.1.2 k;
        other = λ z. absurd (no_other z);
        named = λ _. record { place = a.1.0; number = name_number names w; is = refl; token = a.1.2; name = k };
      }

  register_checked : (r : ℕ) (t : MonType) (at : Place) → slice_get types r ≡ Some t
      → named scope (record { place = at; number = name_number names (name_of rs r) }) ≡ Ok (Register r, t)
  register_checked r t at h = rw (found.register r t h) refl

  global_checked : (g : ℕ) (t : MonType) (at : Place) → (Ptr ≡ t) × (g < count) → slice_get names (name_number names (global_name rs g)) ≡ Some (global_name rs g)
      → named scope (record { place = at; number = name_number names (global_name rs g) }) ≡ Ok (Global g, t)
  global_checked g t at h there = rw (found.no_register g h.1 there, found.global g h.1) (ap (λ (z : MonType). Ok (Global g, z)) h.0)

  -- an expression within the parentheses that are left is read as itself
  pub expression_is : (e : MonExpression) (n : ℕ) (t : MonType) (more : Pieces) (ts : List PlainToken) → open_parens e ≤ n → HasType count types e t → AreTokens names (expression_pieces rs e ++ more) ts → IsReadAs n e t more ts
  expression_is (Register r) n t more ts le h a = name_is n (Register r) t (name_of rs r) more ts (found.register_name r t h) (λ _ at. register_checked r t at h) (λ z. z) a
  expression_is (Global g) n t more ts le h a = name_is n (Global g) t (global_name rs g) more ts (found.global_name g h.1) (λ there at. global_checked g t at h there) (λ z. z) a
  expression_is (Constant k z) n t more ts le h a = constant_is n k z t more ts le h a
  expression_is (Binary op k a b) zero t more ts le h g = absurd (omega arith)
  expression_is (Binary op k a b) (suc m) t more ts le h g0 =
      let g = subst (λ (l : Pieces). AreTokens names l ts) (binary_is rs more op k a b) g0 in
      let x = expression_is a m k _ g.1 (omega arith) h.2 g.3 in
      let y = expression_is b m (second_type op k) _ x.after.1 (omega arith) h.3 x.after.3 in
      let is = behind_suc ws m g.1 ∙ x.first ∙ second_read ws (expression_in ws m) op x.tree x.after.2 y.parsed y.after.2 in
      paren_is (suc m) (Binary op k a b) t more (parsed.Binary x.after.0 op x.tree y.tree) y.after.1 (omega arith) g.2 is (x.begins (type_kind ∷ []) false refl refl refl) y.after.3
      (binary_checked op k t a b x.after.0 x.tree y.tree x.checked y.checked h.1 h.0) (λ z. z)
  expression_is (Minus k a) zero t more ts le h g = absurd (omega arith)
  expression_is (Minus k a) (suc m) t more ts le h g0 =
      let g = subst (λ (l : Pieces). AreTokens names (text.left_paren ∷ text.Mark (codes "-") ∷ l) ts) (closed_is rs more a) g0 in
      let x = expression_is a m k _ g.3.1 (omega arith) h.2 g.3.3 in
      let is = minus_behind ws m g.3.2 ∙ negation_read ws (expression_in ws m) g.3.2 x.parsed x.after.2 in
      paren_is (suc m) (Minus k a) t more (parsed.Minus g.3.0 x.tree) x.after.1 (omega arith) g.2 is (sees_mark ws minus g.3.2 (type_kind ∷ []) false refl) x.after.3 (minus_checked k t a g.3.0 x.tree x.checked h.1 h.0) (λ z. z)
  expression_is (Flip k a) zero t more ts le h g = absurd (omega arith)
  expression_is (Flip k a) (suc m) t more ts le h g0 =
      let g = subst (λ (l : Pieces). AreTokens names (text.left_paren ∷ text.Mark (codes "~") ∷ l) ts) (closed_is rs more a) g0 in
      let x = expression_is a m k _ g.3.1 (omega arith) h.2 g.3.3 in
      let is = tilde_behind ws m g.3.2 ∙ complement_read ws (expression_in ws m) g.3.2 x.parsed x.after.2 in
      paren_is (suc m) (Flip k a) t more (parsed.Flip g.3.0 x.tree) x.after.1 (omega arith) g.2 is (sees_mark ws tilde g.3.2 (type_kind ∷ []) false refl) x.after.3 (flip_checked k t a g.3.0 x.tree x.checked h.1 h.0) (λ z. z)
  expression_is (Cast k a) zero t more ts le h g = absurd (omega arith)
  expression_is (Cast k a) (suc m) t more ts le h g0 =
      let g = subst (λ (l : Pieces). AreTokens names (text.left_paren ∷ text.left_paren ∷ text.Word (type_word k) ∷ text.right_paren ∷ l) ts) (closed_is rs more a) g0 in
      let typed = g.3.3 in
      let w = words _ _ typed.0 ∙ type_word_is k in
      let close = typed.1.3 in
      let x = expression_is a m h.2.0 _ close.1 (omega arith) h.2.2 close.3 in
      let is = cast_behind ws m _ (omega arith) g.3.2 typed.1.2 (ap word_kind w) ∙ cast_read ws (expression_in ws m) g.3.0 k _ typed.1.2 w close.2 x.parsed x.after.2 in
      paren_is (suc m) (Cast k a) t more (parsed.Cast g.3.0 k x.tree) x.after.1 (omega arith) g.2 is
      (sees_mark ws left_paren g.3.2 (type_kind ∷ []) false refl) x.after.3 (cast_checked k t h.2.0 a g.3.0 x.tree x.checked h.2.1 h.1 h.0) (λ z. z)
  expression_is (Load k a) zero t more ts le h g = absurd (omega arith)
  expression_is (Load k a) (suc m) t more ts le h g0 =
      let g = subst (λ (l : Pieces). AreTokens names (text.left_paren ∷ text.Mark (codes "*") ∷ (pointed_type k ++ l)) ts) (closed_is rs more a) g0 in
      let opening = g.3.3 in
      let typed = opening.3 in
      let w = words _ _ typed.0 ∙ type_word_is k in
      let star = typed.1.3 in
      let close = star.3 in
      let x = expression_is a m Ptr _ close.1 (omega arith) h.1 close.3 in
      let is = times_behind ws m g.3.2 ∙ load_read ws (opened ws m) (expression_in ws m) k g.3.2 (opened_read ws m (omega arith) opening.2) (pointed_read ws k _ typed.1.2 w star.2 close.2) x.parsed x.after.2 in
      paren_is (suc m) (Load k a) t more (parsed.Load g.3.0 k x.tree) x.after.1 (omega arith) g.2 is
      (sees_mark ws times g.3.2 (type_kind ∷ []) false refl) x.after.3 (load_checked k t a g.3.0 x.tree x.checked h.0) (λ z. z)
