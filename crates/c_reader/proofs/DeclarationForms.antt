-- Declarations that are read have names of C, their numbers ascend, and the expressions of their initialisers are formed.
use Rattle.std.proofs.Common.{◌≡◌, ℕ, zero, suc, ◌<◌, ◌≤◌, Bool, true, false, cond, eqb, List, [], ◌∷◌, ◌++◌, map, Option, Some, None, refl, sym, ap, subst, ◌∙◌, append_assoc, arith}
use Rattle.std.specs.Prelude.{slice_set}
use Rattle.std.proofs.lemmas.Bool.{eqb-true}
use Rattle.std.proofs.lemmas.List.{map-append}
use Rattle.std.specs.List.{AllByRecursion}
use Rattle.grammar.specs.Syntax.{Syntax, none}
use Rattle.c_syntax.specs.declared.place.Place.{Place}
use Rattle.c_syntax.specs.Ctypes.{PlainType}
use Rattle.c_syntax.specs.Statements.{Initialiser, Declaration, First, BlockItem, Declare, Specify}
use Rattle.c_syntax.specs.Tokens as token
use Rattle.c_syntax.specs.Tokens.{PlainTokenKind, PlainToken}
use Rattle.c_model.specs.declared.declarations.Named.TheVariants as named
use Rattle.c_model.specs.declared.vocabulary.Word.{Word}
use Rattle.c_model.specs.declared.vocabulary.Word.TheVariants as word
use Rattle.c_model.specs.declared.operands.Level.TheVariants.{Assignment}
use Rattle.c_model.specs.Vocabulary.{Vocabulary, word_at, declared_word}
use Rattle.c_model.specs.Punctuators.{assign, comma, semicolon, left_brace, right_brace}
use Rattle.c_model.specs.ExpressionGrammar.{name_kind, word_kind, mark_kind, kind, name_of, name, mark, type_words, star_words}
use Rattle.c_model.specs.DeclarationGrammar.{Declarator, declared_by, initialisers, ended, maybe_comma, next_item, item_once, more_items, listed, lengths, dtor, full_dtor, item_of_list, first_item_of_list, list_of, list_in, initialiser}
use Rattle.c_model.specs.DeclarationGrammar.{initialised, declared_once, next_declared, more_declared, declared_list, declaration}
use Rattle.c_model.specs.ExpressionGrammar.{most_nested}
use Rattle.c_model.specs.Formed.{AreReadAsserts, AreReadLoopClauses, depth_of_item, declared_in_item, number_of}
use Rattle.c_model.specs.FullExpressions.{EachInitial, EachPart, EachDeclared, EachInItem}
use Rattle.c_model.specs.EffectPlaces.{FirstPlaced, ItemPlaced}
use Rattle.c_model.specs.ReadTree.{Between}
use Rattle.c_reader.proofs.TokenForms.{IsLexedKind, placed_is, placed_at}
use Rattle.c_reader.proofs.ExpressionForms.{IsFormed, full_level_each}
use Rattle.c_reader.proofs.PlacedReadings.{From, from_none, from_more, from_gives, from_one, from_then, from_choice, from_cond, from_at_most, from_deep, from_any, from_each, from_many}
use Rattle.c_reader.proofs.PlacedReadings.{between_lower, between_higher, between_joined}

pub all_joined : {A : Type 0} (P : A → Type 0) (xs ys : List A) → AllByRecursion P xs → AllByRecursion P ys → AllByRecursion P (xs ++ ys)
all_joined P [] ys h g = g
all_joined P (x ∷ xs) ys h g = (h.0, all_joined P xs ys h.1 g)

pub short_joined : (ds es : List Declaration) → EachDeclared IsFormed ds → EachDeclared IsFormed es → EachDeclared IsFormed (ds ++ es)
short_joined [] es h g = g
short_joined (d ∷ ds) es h g = (h.0, short_joined ds es h.1 g)

items_behind : (is : List Initialiser) (i : Initialiser) → EachPart IsFormed (initialisers is) → EachInitial IsFormed i → EachPart IsFormed (initialisers (is ++ i ∷ []))
items_behind [] i h p = (p, tt)
items_behind (j ∷ is) i h p = (h.0, items_behind is i h.1 p)

-- a name of the later vocabulary is one of the earlier
abbrev pub IsLater : Vocabulary → Vocabulary → Type 0
IsLater old ws = (n : ℕ) → word_kind (word_at ws n) ≡ name_kind → word_kind (word_at old n) ≡ name_kind

-- a name of a type is no name
declared_is_no_name : (w : Word) → word_kind (declared_word w) ≡ name_kind → ⊥
declared_is_no_name (word.Clause c) e = cc
declared_is_no_name _ e = cc

set_name : (ws : Vocabulary) (m n : ℕ) (w : Word) → word_kind (word_at (slice_set ws m (declared_word w)) n) ≡ name_kind → word_kind (word_at ws n) ≡ name_kind
set_name [] m n w e = e
set_name (v ∷ ws) zero zero w e = absurd (declared_is_no_name w e)
set_name (v ∷ ws) zero (suc n) w e = e
set_name (v ∷ ws) (suc m) zero w e = e
set_name (v ∷ ws) (suc m) (suc n) w e = set_name ws m n w e

pub later_typedef : (old ws : Vocabulary) (m : ℕ) → IsLater old ws → IsLater old (slice_set ws m (declared_word (word_at ws m)))
later_typedef old ws m h n e = h n (set_name ws m n (word_at ws m) e)

module _ (size : ℕ) (old : Vocabulary) where
  -- ---- names

  -- the number of a name that a text may declare
  pub record IsNewName (n : ℕ) : Type 0 where
    pub there : n < size
    pub kind : word_kind (word_at old n) ≡ name_kind

  -- such a name with its place, from the offset l on and before the offset n
  pub record IsNameWithin (l n : ℕ) (x : ℕ × Place) : Type 0 where
    pub new : IsNewName x.0
    pub from : l ≤ x.1.offset
    pub to : x.1.offset < n

  pub name_wider : (k l m n : ℕ) (x : ℕ × Place) → k ≤ l → m ≤ n → IsNameWithin l m x → IsNameWithin k n x
  name_wider k l m n x le lf p = record { new = p.new; from = omega (arith, le, p.from); to = omega (arith, lf, p.to) }

  -- ---- what is declared

  -- declarations with new names, whose numbers ascend from the offset l on and before the offset n
  pub record Declares (l : ℕ) (ds : List Declaration) (n : ℕ) : Type 0 where
    pub names : AllByRecursion (λ (d : Declaration). IsNewName d.name) ds
    pub numbers : Between l (map number_of ds) n

  pub declares_none : (l n : ℕ) → l ≤ n → Declares l [] n
  declares_none l n le = record { names = tt; numbers = le }

  pub declares_joined : (l m n : ℕ) (ds es : List Declaration) → Declares l ds m → Declares m es n → Declares l (ds ++ es) n
  declares_joined l m n ds es p q = record {
    names = all_joined (λ (d : Declaration). IsNewName d.name) ds es p.names q.names;
    numbers = subst (λ is. Between l is n) (sym (map-append number_of ds es)) (between_joined l m n (map number_of ds) (map number_of es) p.numbers q.numbers);
  }

  pub declares_lower : (k l n : ℕ) (ds : List Declaration) → k ≤ l → Declares l ds n → Declares k ds n
  declares_lower k l n ds le p = record { names = p.names; numbers = between_lower k l (map number_of ds) n le p.numbers }

  pub declares_higher : (l m n : ℕ) (ds : List Declaration) → m ≤ n → Declares l ds m → Declares l ds n
  declares_higher l m n ds le p = record { names = p.names; numbers = between_higher l m n (map number_of ds) le p.numbers }

  -- the declarators of a declaration, with their initialisers
  pub record AreDeclarators (l n : ℕ) (ds : List Declaration) : Type 0 where
    pub declares : Declares l ds n
    pub short : EachDeclared IsFormed ds

  pub declarators_joined : (l m n : ℕ) (ds es : List Declaration) → AreDeclarators l m ds → AreDeclarators m n es → AreDeclarators l n (ds ++ es)
  declarators_joined l m n ds es p q = record { declares = declares_joined l m n ds es p.declares q.declares; short = short_joined ds es p.short q.short }

  pub declarators_higher : (l m n : ℕ) (ds : List Declaration) → m ≤ n → AreDeclarators l m ds → AreDeclarators l n ds
  declarators_higher l m n ds le p = record { declares = declares_higher l m n ds le p.declares; short = p.short }

  -- the same behind others
  pub record AreMore (before : List Declaration) (l n : ℕ) (ds : List Declaration) : Type 0 where
    pub new : List Declaration
    pub is : ds ≡ before ++ new
    pub are : AreDeclarators l n new

  more_higher : (before : List Declaration) (l m n : ℕ) (ds : List Declaration) → m ≤ n → AreMore before l m ds → AreMore before l n ds
  more_higher before l m n ds le p = record { new = p.new; is = p.is; are = declarators_higher l m n p.new le p.are }

  pub one_more : (before : List Declaration) (l m n : ℕ) (ds : List Declaration) (d : Declaration) → AreMore before l m ds → AreDeclarators m n (d ∷ []) → AreMore before l n (ds ++ d ∷ [])
  one_more before l m n ds d p q = record {
    new = p.new ++ d ∷ [];
    is = ap (λ (w : List Declaration). w ++ d ∷ []) p.is ∙ append_assoc before p.new (d ∷ []);
    are = declarators_joined l m n p.new (d ∷ []) p.are q;
  }

  one_declarator : (l n : ℕ) (t : PlainType) (d : Declarator) (i : Option (Place × Initialiser)) → IsNameWithin l n (d.name, d.place) → EachDeclared IsFormed (declared_by t d i ∷ []) → AreDeclarators l n (declared_by t d i ∷ [])
  one_declarator l n t d i p q = record { declares = record { names = (p.new, tt); numbers = (p.from, p.to) }; short = q }

  -- a declaration, as an item or at the head of a `for`
  pub record IsDeclaration (l n : ℕ) (i : BlockItem) : Type 0 where
    pub is : ItemPlaced AreReadAsserts AreReadLoopClauses i
    pub first : FirstPlaced (First i)
    pub short : EachInItem IsFormed i
    pub flat : depth_of_item i ≡ 0
    pub declares : Declares l (declared_in_item i) n

  -- ---- productions, where what the words are comes later

  module _ (ws : Vocabulary) (later : IsLater old ws) where
    is_name : (t : PlainTokenKind) (n : ℕ) → name_of ws t ≡ Some n → (t ≡ token.Word n) × (word_kind (word_at ws n) ≡ name_kind)
    is_name (token.Word m) n e = by (eqb (word_kind (word_at ws m)) name_kind) refl e
      where
        by : (b : Bool) → eqb (word_kind (word_at ws m)) name_kind ≡ b → cond b (Some m) None ≡ Some n → (token.Word m ≡ token.Word n) × (word_kind (word_at ws n) ≡ name_kind)
        by true is e =
            let same : m ≡ n = cc in
            (ap token.Word same, subst (λ k. word_kind (word_at ws k) ≡ name_kind) same (eqb-true (word_kind (word_at ws m)) name_kind is))
        by false is e = absurd cc
    is_name (token.Number y c) n e = absurd cc
    is_name (token.Letter y) n e = absurd cc
    is_name (token.Chars bytes) n e = absurd cc
    is_name (token.Mark m) n e = absurd cc
    is_name token.AnnotOpen n e = absurd cc
    is_name token.AnnotClose n e = absurd cc
    is_name (token.Head k m) n e = absurd cc

    pub name_from : (l : ℕ) → From size l (name ws) (IsNameWithin l)
    name_from l = from_one _ (λ t x h le e.
        let i = is_name t.kind x.0 (placed_is (name_of ws) t x e) in
        let at : t.place.offset ≡ x.1.offset = ap (λ (p : Place). p.offset) (placed_at (name_of ws) t x e) in
        record { new = record { there = subst (IsLexedKind size) i.0 h.0; kind = later x.0 i.1 }; from = omega (arith, le, at); to = omega (arith, at) })

    pub ended_from : {l : ℕ} {A : Type 0} (P : ℕ → A → Type 0) (x : A) → ((n : ℕ) → l ≤ n → P n x) → From size l (ended ws x) P
    unfolding ended
    ended_from P x p = from_then (from_any (mark ws semicolon)) (λ n _ le. from_gives x (p n le))

    -- ---- declarators

    pub dtor_from : (l : ℕ) → From size l (full_dtor ws named.Ordinary) (λ n d. IsNameWithin l n (d.name, d.place))
    unfolding full_dtor dtor
    dtor_from l = from_at_most (from_then (from_any (star_words ws)) (λ m _ le. from_then (name_from m) (λ i x p. from_then (from_any (lengths ws)) (λ n _ lf.
        from_gives _ (name_wider l m i n x le lf p)))))

    -- ---- lists in braces

    -- each item adds to what is known of those before it
    module _ {A : Type 0} (first : List ℕ) {I : Syntax PlainToken A} (Q : ℕ → List A → Type 0) (on : (m n : ℕ) (xs : List A) → m ≤ n → Q m xs → Q n xs) (item : (m : ℕ) (xs : List A) → Q m xs → From size m I (λ n x. Q n (xs ++ x ∷ []))) where
      maybe_comma_from : (m : ℕ) (xs : List A) → Q m xs → From size m (maybe_comma ws xs) (λ n x. Q n x.0)
      unfolding maybe_comma
      maybe_comma_from m xs h =
          from_choice (kind ws) (mark_kind comma ∷ []) (from_then (from_any (mark ws comma)) (λ n _ le. from_gives _ (on m n xs le h))) (from_gives _ h)

      next_item_from : (m : ℕ) (xs : List A) → Q m xs → From size m (next_item ws I xs) (λ n x. Q n x.0)
      unfolding next_item
      next_item_from m xs h = from_then (item m xs h) (λ n x q. maybe_comma_from n (xs ++ x ∷ []) q)

      item_once_from : (m : ℕ) (x : List A × Bool) → Q m x.0 → From size m (item_once ws I x) (λ n y. Q n y.0)
      unfolding item_once
      item_once_from m x h = from_cond x.1 (λ _. next_item_from m x.0 h) (λ _. from_none)

      pub listed_from : (m : ℕ) → Q m [] → From size m (listed ws first I) Q
      unfolding listed more_items
      listed_from m h =
          from_then (next_item_from m [] h) (λ i x q.
          from_then (from_many (kind ws) (λ (y : List A × Bool). cond y.1 first []) {P = λ n y. Q n y.0} (λ j y r. item_once_from j y r) i x q) (λ j y r.
          from_then (from_any (mark ws right_brace)) (λ n _ le. from_gives _ (on j n y.0 le r))))

    -- ---- initialisers

    IsReadFrom : ℕ → ℕ → Initialiser → Type 0
    IsReadFrom l n i = (l ≤ n) × EachInitial IsFormed i

    AreItemsFrom : ℕ → ℕ → List Initialiser → Type 0
    AreItemsFrom l n is = (l ≤ n) × EachPart IsFormed (initialisers is)

    item_of_list_from : (l : ℕ) {L : Syntax PlainToken Initialiser} → From size l L (IsReadFrom l) → From size l (item_of_list ws L) (IsReadFrom l)
    unfolding item_of_list IsReadFrom
    item_of_list_from l list =
        from_choice (kind ws) (mark_kind left_brace ∷ []) list
        (from_then (from_each (full_level_each size ws Assignment)) (λ n e p. from_gives _ (p.1, p.2)))

    list_of_from : (l : ℕ) {L : Syntax PlainToken Initialiser} → ((m : ℕ) → From size m L (IsReadFrom m)) → From size l (list_of ws L) (IsReadFrom l)
    unfolding list_of IsReadFrom AreItemsFrom
    list_of_from l {L} list =
        from_then (from_any (mark ws left_brace)) (λ m at le.
        from_then (listed_from first_item_of_list (AreItemsFrom m) (λ i j is lf h. (omega (arith, lf, h.0), h.1))
        (λ i is h. from_more (λ n x p. (omega (arith, h.0, p.0), items_behind is x h.1 p.1)) (item_of_list_from i (list i))) m (omega arith, tt)) (λ n is h. from_gives _ (omega (arith, le, h.0), h.1)))

    none_item : (m : ℕ) → From size m none (IsReadFrom m)
    none_item m = from_none

    list_from : (d l : ℕ) → From size l (list_in ws d) (IsReadFrom l)
    unfolding list_in
    list_from zero l = from_deep (kind ws) (mark_kind left_brace ∷ []) (list_of_from l none_item)
    list_from (suc d) l = list_of_from l (λ m. list_from d m)

    initialiser_from : (l : ℕ) → From size l (initialiser ws) (IsReadFrom l)
    unfolding initialiser IsReadFrom
    initialiser_from l =
        from_choice (kind ws) (mark_kind left_brace ∷ []) (list_from most_nested l)
        (from_then (from_each (full_level_each size ws Assignment)) (λ n e p. from_gives _ (p.1, p.2)))

    pub initialised_from : (t : PlainType) (d : Declarator) (l m : ℕ) → IsNameWithin l m (d.name, d.place) → From size m (initialised ws t d) (λ n x. AreDeclarators l n (x ∷ []))
    unfolding initialised IsReadFrom
    initialised_from t d l m p =
        from_choice (kind ws) (mark_kind assign ∷ [])
        (from_then (from_any (mark ws assign)) (λ j at le. from_then (initialiser_from j) (λ n i q.
        from_gives _ (one_declarator l n t d (Some (at, i)) (name_wider l l m n (d.name, d.place) (omega arith) (omega (arith, le, q.0)) p) (q.1, tt)))))
        (from_gives _ (one_declarator l m t d None p (tt, tt)))

    -- ---- declarations

    once_from : (t : PlainType) (before : List Declaration) (l m : ℕ) (ds : List Declaration) → AreMore before l m ds → From size m (declared_once ws t ds) (AreMore before l)
    unfolding declared_once
    once_from t before l m ds h = from_then (dtor_from m) (λ i d p. from_then (initialised_from t d m i p) (λ n x q. from_gives _ (one_more before l m n ds x h q)))

    next_from : (t : PlainType) (before : List Declaration) (l m : ℕ) (ds : List Declaration) → AreMore before l m ds → From size m (next_declared ws t ds) (AreMore before l)
    unfolding next_declared
    next_from t before l m ds h = from_then (from_any (mark ws comma)) (λ k _ le. once_from t before l k ds (more_higher before l m k ds le h))

    pub more_from : (t : PlainType) (before : List Declaration) (l m : ℕ) (ds : List Declaration) → AreMore before l m ds → From size m (more_declared ws t ds) (AreMore before l)
    unfolding more_declared
    more_from t before l m ds h =
        from_then (from_many (kind ws) (λ _. mark_kind comma ∷ []) {P = AreMore before l} (λ j es q. next_from t before l j es q) m ds h) (λ j es q.
        ended_from (AreMore before l) es (λ n le. more_higher before l j n es le q))

    declaration_is : (l m n : ℕ) (ds : List Declaration) → l ≤ m → AreMore [] m n ds → IsDeclaration l n (Declare ds)
    declaration_is l m n ds le p =
        let h : AreDeclarators m n ds = subst (λ (es : List Declaration). AreDeclarators m n es) (sym p.is) p.are in
        record { is = tt; first = tt; short = h.short; flat = refl; declares = declares_lower l m n ds le h.declares }

    specified_is : (l n : ℕ) (at : Place) (t : PlainType) → l ≤ n → IsDeclaration l n (Specify at t)
    specified_is l n at t le = record { is = tt; first = tt; short = tt; flat = refl; declares = declares_none l n le }

    list_declared_from : (t : PlainType) (l m : ℕ) → l ≤ m → From size m (declared_list ws t) (IsDeclaration l)
    unfolding declared_list
    list_declared_from t l m le =
        from_choice (kind ws) (mark_kind semicolon ∷ []) (from_then (from_any (mark ws semicolon)) (λ n at lf. from_gives _ (specified_is l n at t (omega (arith, le, lf)))))
        (from_then (once_from t [] m m [] no_more) (λ j ds h. from_then (more_from t [] m j ds h) (λ n es g. from_gives _ (declaration_is l m n es le g))))
      where
        no_more : AreMore [] m m []
        no_more = record { new = []; is = refl; are = record { declares = declares_none m m (omega arith); short = tt } }

    pub declaration_from : (l : ℕ) → From size l (declaration ws) (IsDeclaration l)
    unfolding declaration
    declaration_from l = from_then (from_any (type_words ws)) (λ m t le. list_declared_from t l m le)
