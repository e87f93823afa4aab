-- The productions of parameters are those of the head of their grammar. What is parsed is cut after the first word of a type, and whether
-- "void" stands alone is told by what is read after it.
use Rattle.std.proofs.Common.{◌≡◌, ℕ, zero, suc, ◌+◌, Bool, true, false, cond, List, [], ◌∷◌, ◌++◌, Option, Some, None, refl, sym, ap, subst, ◌∙◌, ◌⊎◌, inl, inr, arith}
use Rattle.std.specs.Prelude.{not, ◌&&◌}
use Rattle.grammar.specs.Syntax.{Syntax, none, gives, one, ◌then◌, loop, many}
use Rattle.grammar.specs.Exact.{Same}
use Rattle.grammar.proofs.Forms.{to_left, many_form}
use Rattle.grammar_laws.specs.Plain.{◌or◌, repeated, with_first}
use Rattle.grammar_laws.proofs.Inclusions.{Within, both, forth, back, itself, ◌so◌, either, first, second, each, on, in_turn, turns, either_before, after_either, handed, handed_back}
use Rattle.grammar_laws.proofs.Inclusions.{given_first, given_back, nothing, ended_none, limited, capped_within, Bounds, but_forth, but_back}
use Rattle.grammar_laws.proofs.Tokens.{grouped, just, by_token, just_as, just_on, one_by_one, place_is, placed_some, first_told, first_told_back}
use Rattle.grammar_laws.proofs.TypeProductions.{stars_line}
use Rattle.grammar_laws.proofs.DeclaratorProductions.{lengths_line}
use Rattle.grammar_laws.proofs.FirstWords.{cut_line, start_word, keyword_start, reserved_word, word_reserved, void_alone}
use Rattle.c_syntax.specs.declared.place.Place.{Place}
use Rattle.c_syntax.specs.Ctypes.{PlainType, Void, PlainLength}
use Rattle.c_syntax.specs.Statements.{Declaration}
use Rattle.c_syntax.specs.Tokens as token
use Rattle.c_syntax.specs.Tokens.{PlainTokenKind, PlainToken}
use Rattle.c_model.specs.declared.operands.Stars.{Stars}
use Rattle.c_model.specs.declared.vocabulary.Keyword.TheVariants as keyword
use Rattle.c_model.specs.declared.vocabulary.Word.{Word}
use Rattle.c_model.specs.declared.vocabulary.Word.TheVariants as word
use Rattle.c_model.specs.Vocabulary.{Vocabulary, word_at}
use Rattle.c_model.specs.Terminals.{placed, expression_limit}
use Rattle.c_model.specs.Punctuators.{times, comma, left_bracket, right_paren}
use Rattle.c_model.specs.ExpressionGrammar.{kind, name_kind, keyword_kind, mark_kind, most_in_expression, TypeStart, ConstStart, VoidStart, StructStart, EnumStart, NameStart, IntegerStart}
use Rattle.c_model.specs.ExpressionGrammar.{no_stars, expression, reserved, mark, consts, type_words, type_start_of, type_start, type_behind, more_consts, star, next_star, star_words}
use Rattle.c_model.specs.ExpressionGrammar.{length_or_none, bracket, next_bracket, brackets, closed}
use Rattle.c_model.specs.DeclarationGrammar.{AbstractDeclarator, has_lengths, parameter_of, is_nothing, lengths, maybe_name, abstract_dtor, full_abstract_dtor, parameter_rest, void_parameter}
use Rattle.c_model.specs.DeclarationGrammar.{parameter_behind, parameter, next_parameter, more_parameters, first_parameter, parameters}
use Rattle.grammar_laws.specs.DeclarationProductions as production
use Rattle.grammar_laws.specs.DeclarationProductions.{word_number}

abbrev no : PlainToken → ℕ
no t = 0

-- ---- the same turns, with other values

module _ {T P A B C : Type 0} (K : T → ℕ) (ks : A → List ℕ) (L : T → ℕ) (ls : B → List ℕ) (W : Syntax T P) (f : A → A) (g : B → B) (X : A → Syntax T C) (Y : B → Syntax T C) (R : A → B → Type 0) (goes : (x : A) (y : B) → R x y → R (f x) (g y))
    (ends : (x : A) (y : B) → R x y → Within (X x) (Y y)) (empty : (x : A) → (X x).begun []) where
  abbrev step : A → Syntax T A
  step x = W then λ _. gives (f x)

  abbrev other_step : B → Syntax T B
  other_step y = W then λ _. gives (g y)

  abbrev Target : B → Syntax T C
  Target y = many L ls other_step y then Y

  target_empty : (y : B) → (Target y).begun []
  target_empty y = inl (0, inr refl)

  loop_empty : (n : ℕ) (x : A) → (loop K n ks step x then X).begun []
  loop_empty zero x = inl (inr refl)
  loop_empty (suc n) x = inl (inr refl)

  stops : (x : A) (y : B) → R x y → Within (gives x then X) (Target y)
  stops x y r =
      given_first x X (empty x)
      so ends x y r
      so given_back y Y
      so in_turn (second L (ls y) _ (itself (gives y)) so back (many_form L ls other_step y)) (λ z. itself (Y z))

  one_turn : (y : B) → Within (W then λ _. Target (g y)) (Target y)
  one_turn y =
      handed W (λ _. g y) Target
      so forth (to_left (other_step y) (λ z. many L ls other_step z) Y)
      so in_turn (first L (ls y) _ (itself _) so back (many_form L ls other_step y)) (λ z. itself (Y z))

  at_bound : (n : ℕ) (x : A) (y : B) → R x y → Within (loop K n ks step x then X) (Target y)
  at_bound zero x y r = either_before K (ks x) X (ended_none X (Target y) (target_empty y)) (stops x y r)
  at_bound (suc n) x y r =
      either_before K (ks x) X
      (back (to_left (step x) (λ z. loop K n ks step z) X)
      so handed_back W (λ _. f x) (λ z. loop K n ks step z then X) (λ _. loop_empty n (f x))
      so on W (λ _. at_bound n (f x) (g y) (goes x y r))
      so one_turn y)
      (stops x y r)

  other_values : (x : A) (y : B) → R x y → Within (many K ks step x then X) (Target y)
  other_values x y r = limited (λ n. loop K n ks step x) X (λ n. at_bound n x y r)

-- ---- what is read of no token

abbrev IsFilled : {T : Type 0} → List T → Type 0
IsFilled a = a ≡ [] → ⊥

-- nothing is read and this value stays, or something is and the value is another
abbrev Tells : {T A : Type 0} → A → (A → Type 0) → List T → A → Type 0
Tells x P a y = ((a ≡ []) × (x ≡ y)) ⊎ (IsFilled a × P y)

filled_front : {T : Type 0} (a b c : List T) → a ≡ b ++ c → IsFilled b → IsFilled a
filled_front a [] c e f n = f refl
filled_front a (t ∷ b) c e f n = let q : [] ≡ t ∷ (b ++ c) = sym n ∙ e in absurd cc

filled_back : {T : Type 0} (a b c : List T) → a ≡ b ++ c → IsFilled c → IsFilled a
filled_back a [] c e f n = f (sym e ∙ n)
filled_back a (t ∷ b) c e f n = let q : [] ≡ t ∷ (b ++ c) = sym n ∙ e in absurd cc

filled_one : {T : Type 0} (a b c : List T) (t : T) → a ≡ b ++ c → b ≡ t ∷ [] → IsFilled a
filled_one a b c t e p = filled_front a b c e (λ n. let q : [] ≡ t ∷ [] = sym n ∙ p in absurd cc)

empty_both : {T : Type 0} (a b c : List T) → a ≡ b ++ c → b ≡ [] → c ≡ [] → a ≡ []
empty_both a b c e p q = rw (e, p, q) refl

module _ {T A : Type 0} (K : T → ℕ) (ks : A → List ℕ) (step : A → Syntax T A) (P : A → Type 0) (moves : (x y : A) (a : List T) → (step x).reads a y → IsFilled a × P y) where
  loop_tells : (n : ℕ) (x y : A) (a : List T) → (loop K n ks step x).reads a y → Tells x P a y
  loop_tells zero x y a (inl r) = absurd r
  loop_tells zero x y a (inr r) = inl r
  loop_tells (suc n) x y a (inl (b, c, z, e, r, s)) = inr (filled_front a b c e (moves x z b r).0, moved (loop_tells n z y c s))
    where
      moved : Tells z P c y → P y
      moved (inl q) = subst P q.1 (moves x z b r).1
      moved (inr q) = q.1
  loop_tells (suc n) x y a (inr r) = inl r

  many_tells : (x y : A) (a : List T) → (many K ks step x).reads a y → Tells x P a y
  many_tells x y a r = loop_tells r.0 x y a r.1

module _ (ws : Vocabulary) where
  abbrev Const : Syntax PlainToken Place
  Const = reserved ws keyword.Const

  abbrev IsTrue : Bool → Type 0
  IsTrue b = b ≡ true

  const_moves : (x y : Bool) (a : List PlainToken) → (Const then λ _. gives true).reads a y → IsFilled a × IsTrue y
  const_moves x y a (b, c, u, e, (t, e2, e3), (n, v)) = (filled_one a b c t e e2, sym v)

  consts_tell : (b : Bool) (a : List PlainToken) → (more_consts ws false).reads a b → Tells false IsTrue a b
  unfolding more_consts
  consts_tell b a r = many_tells (kind ws) (λ _. keyword_kind keyword.Const ∷ []) (λ (_ : Bool). Const then λ _. gives true) IsTrue const_moves false b a r

  abbrev IsCounted : Stars → Type 0
  IsCounted s = s.count ≡ 0 → ⊥

  star_moves : (x y : Stars) (a : List PlainToken) → (next_star ws x).reads a y → IsFilled a × IsCounted y
  unfolding next_star star
  star_moves x y a (b, c, u, e, (b2, c2, z, e4, (t, e2, e3), r), (n, v)) =
      (filled_front a b c e (filled_one b b2 c2 t e4 e2), λ q. let counted : x.count + 1 ≡ 0 = ap (λ (s : Stars). s.count) v ∙ q in omega arith)

  stars_tell : (s : Stars) (a : List PlainToken) → (star_words ws).reads a s → Tells no_stars IsCounted a s
  unfolding star_words
  stars_tell s a r = many_tells (kind ws) (λ _. mark_kind times ∷ []) (next_star ws) IsCounted star_moves no_stars s a r

  abbrev IsNamed : Option (ℕ × Place) → Type 0
  IsNamed x = (v : ℕ × Place) × (x ≡ Some v)

  name_tells : (x : Option (ℕ × Place)) (a : List PlainToken) → (maybe_name ws).reads a x → Tells None IsNamed a x
  unfolding maybe_name
  name_tells x a (inl (b, c, v, e, (t, e2, e3), (n, s))) = inr (filled_one a b c t e e2, (v, sym s))
  name_tells x a (inr r) = inl r

  abbrev HasLengths : List PlainLength → Type 0
  HasLengths ns = has_lengths ns ≡ true

  one_more : (xs : List PlainLength) (n : PlainLength) → HasLengths (xs ++ n ∷ [])
  one_more [] n = refl
  one_more (x ∷ xs) n = refl

  length_moves : (x y : List PlainLength) (a : List PlainToken) → (next_bracket ws (length_or_none ws (expression ws)) x).reads a y → IsFilled a × HasLengths y
  unfolding next_bracket bracket
  length_moves x y a (b, c, z, e, (b2, c2, u, e4, (t, e2, e3), r), (n, v)) = (filled_front a b c e (filled_one b b2 c2 t e4 e2), subst HasLengths v (one_more x z))

  lengths_tell : (ns : List PlainLength) (a : List PlainToken) → (lengths ws).reads a ns → Tells [] HasLengths a ns
  unfolding lengths brackets
  lengths_tell ns a r = many_tells (kind ws) (λ _. mark_kind left_bracket ∷ []) (next_bracket ws (length_or_none ws (expression ws))) HasLengths length_moves [] ns a r

  -- whether a declarator is nothing is told by whether there are tokens of it
  abbrev Knows : List PlainToken → Bool → Type 0
  Knows a b = ((a ≡ []) × (b ≡ true)) ⊎ (IsFilled a × (b ≡ false))

  abbrev made : Stars → Option (ℕ × Place) → List PlainLength → AbstractDeclarator
  made s x ns = record { stars = s; name = x; lengths = ns }

  counted_is_something : (s : Stars) (x : Option (ℕ × Place)) (ns : List PlainLength) → IsCounted s → is_nothing (made s x ns) ≡ false
  counted_is_something s (Some v) ns f = refl
  counted_is_something s None ns f = by s.count f
    where
      by : (n : ℕ) → (n ≡ 0 → ⊥) → elim n [ zero ↦ not (has_lengths ns) | suc m ↦ false ] ≡ false
      by zero g = absurd (g refl)
      by (suc m) g = refl

  nothing_of : (s : Stars) (x : Option (ℕ × Place)) (ns : List PlainLength) (b : Bool) → no_stars ≡ s → None ≡ x → has_lengths ns ≡ b → is_nothing (made s x ns) ≡ not b
  nothing_of s x ns b p q h =
      ap (λ (k : Stars). is_nothing (made k x ns)) (sym p) ∙ ap (λ (y : Option (ℕ × Place)). is_nothing (made no_stars y ns)) (sym q) ∙ ap not h

  dtor_knows : (a : List PlainToken) (d : AbstractDeclarator) → (abstract_dtor ws).reads a d → Knows a (is_nothing d)
  unfolding abstract_dtor
  dtor_knows a d (b, c, s, e, r, (b2, c2, x, e2, r2, (b3, c3, ns, e3, r3, (n, v)))) =
      subst (λ (k : AbstractDeclarator). Knows a (is_nothing k)) v (by (stars_tell s b r) (name_tells x b2 r2) (lengths_tell ns b3 r3))
    where
      by : Tells no_stars IsCounted b s → Tells None IsNamed b2 x → Tells [] HasLengths b3 ns → Knows a (is_nothing (made s x ns))
      by (inr p) q l = inr (filled_front a b c e p.0, counted_is_something s x ns p.1)
      by (inl p) (inr q) l = inr (filled_back a b c e (filled_front c b2 c2 e2 q.0), rw q.1.1 refl)
      by (inl p) (inl q) (inr l) = inr (filled_back a b c e (filled_back c b2 c2 e2 (filled_front c2 b3 c3 e3 l.0)), nothing_of s x ns true p.1 q.1 l.1)
      by (inl p) (inl q) (inl l) =
          inl (empty_both a b c e p.0 (empty_both c b2 c2 e2 q.0 (empty_both c2 b3 c3 e3 l.0 n)), nothing_of s x ns false p.1 q.1 (ap has_lengths (sym l.1)))

  full_knows : (a : List PlainToken) (d : AbstractDeclarator) → (full_abstract_dtor ws).reads a d → Knows a (is_nothing d)
  unfolding full_abstract_dtor
  full_knows a d r = dtor_knows a d r.0

  -- the same after "void"
  alone_known : (a b c : List PlainToken) (constant : Bool) (d : AbstractDeclarator) → a ≡ b ++ c → Tells false IsTrue b constant → Knows c (is_nothing d) → Knows a (not constant && is_nothing d)
  alone_known a b c constant d e (inr p) k = inr (filled_front a b c e p.0, rw p.1 refl)
  alone_known a b c constant d e (inl p) (inr k) = inr (filled_back a b c e k.0, rw (sym p.1, k.1) refl)
  alone_known a b c constant d e (inl p) (inl k) = inl (empty_both a b c e p.0 k.0, rw (sym p.1, k.1) refl)

  -- ---- what stands after the words of a parameter

  abstract_line : Same (full_abstract_dtor ws) (production.abstract_dtor ws)
  unfolding full_abstract_dtor abstract_dtor maybe_name
  abstract_line =
      both
      (capped_within expression_limit most_in_expression (in_turn (forth (stars_line ws)) (λ s. in_turn (each (kind ws) (name_kind ∷ []) no [] (itself _) (itself _)) (λ x. in_turn (forth (lengths_line ws)) (λ ns. itself _)))))
      (capped_within expression_limit most_in_expression (in_turn (back (stars_line ws)) (λ s. in_turn (each no [] (kind ws) (name_kind ∷ []) (itself _) (itself _)) (λ x. in_turn (back (lengths_line ws)) (λ ns. itself _)))))

  abbrev Rest : PlainType → ℕ × Place → Syntax PlainToken Declaration
  Rest = parameter_rest ws

  rest_line : (t : PlainType) (w : ℕ × Place) → Same (Rest t w) (production.abstract_dtor ws then λ d. gives (parameter_of t w d))
  unfolding parameter_rest
  rest_line t w = both (in_turn (forth abstract_line) (λ d. itself _)) (in_turn (back abstract_line) (λ d. itself _))

  rest_empty : (t : PlainType) (w : ℕ × Place) → (Rest t w).begun []
  unfolding parameter_rest full_abstract_dtor abstract_dtor star_words
  rest_empty t w = inl (inl (0, inr refl))

  -- ---- the words of a parameter, cut after the first

  abbrev Start : Syntax PlainToken ((TypeStart × ℕ) × Place)
  Start = one (placed (type_start ws))

  abbrev word_of : (TypeStart × ℕ) × Place → ℕ × Place
  word_of s = (s.0.1, s.1)

  -- a parameter, or "void" alone
  abbrev Cut : Syntax PlainToken Declaration
  Cut = Start then λ s. type_behind ws s.0.0 then λ t. Rest t (word_of s)

  abbrev Whole : Syntax PlainToken Declaration
  Whole = with_first (placed word_number) (type_words ws) then λ z. Rest z.0 z.1

  says_word : (t : PlainToken) (x : (TypeStart × ℕ) × Place) → placed (type_start ws) t ≡ Some x → placed word_number t ≡ Some (word_of x)
  says_word t x e = let s = start_word ws t x e in placed_some word_number t x.0.1 (ap word_number s.0) ∙ ap (λ (at : Place). Some (x.0.1, at)) (place_is (type_start ws) t x e)

  cut_forth : Within Cut Whole
  cut_forth = first_told (placed word_number) word_of says_word (λ s. type_behind ws s.0.0) (type_words ws) Rest (back (cut_line ws))

  cut_back : Within Whole Cut
  cut_back = first_told_back (placed word_number) word_of says_word (λ s. type_behind ws s.0.0) (type_words ws) Rest (forth (cut_line ws))

  -- ---- after "void", without the question whether it stands alone

  abbrev Loose : ℕ × Place → Syntax PlainToken Declaration
  Loose w = more_consts ws false then λ _. Rest Void w

  rest_is : (t u : PlainType) (w : ℕ × Place) → t ≡ u → Within (Rest t w) (Rest u w)
  rest_is t u w e = subst (λ k. Within (Rest t w) (Rest k w)) e (itself (Rest t w))

  loose_forth : (w : ℕ × Place) → Within (Loose w) (consts ws Void then λ t. Rest t w)
  unfolding more_consts consts
  loose_forth w =
      other_values (kind ws) (λ (_ : Bool). keyword_kind keyword.Const ∷ []) (kind ws) (λ (_ : PlainType). keyword_kind keyword.Const ∷ []) Const (λ _. true) (λ t. t) (λ _. Rest Void w) (λ t. Rest t w) (λ _ t. Void ≡ t) (λ _ t e. e)
      (λ _ t e. rest_is Void t w e) (λ _. rest_empty Void w) false Void refl

  loose_back : (w : ℕ × Place) → Within (consts ws Void then λ t. Rest t w) (Loose w)
  unfolding more_consts consts
  loose_back w =
      other_values (kind ws) (λ (_ : PlainType). keyword_kind keyword.Const ∷ []) (kind ws) (λ (_ : Bool). keyword_kind keyword.Const ∷ []) Const (λ t. t) (λ _. true) (λ t. Rest t w) (λ _. Rest Void w) (λ t _. t ≡ Void) (λ t _ e. e)
      (λ t _ e. rest_is t Void w e) (λ t. rest_empty t w) Void false refl

  abbrev tested : Bool → Declaration → Syntax PlainToken Declaration
  tested b p = cond b none (gives p)

  tested_within : (b : Bool) (p : Declaration) → Within (tested b p) (gives p)
  tested_within true p = nothing (gives p) refl
  tested_within false p = itself (gives p)

  tested_bounds : (b : Bool) (p : Declaration) → Bounds (gives p) (tested b p)
  tested_bounds true p = record { begun = λ a e. e; late = λ i a t l. l }
  tested_bounds false p = record { begun = λ a e. e; late = λ i a t l. l }

  void_within : (w : ℕ × Place) → Within (void_parameter ws w) (Loose w)
  unfolding void_parameter parameter_rest
  void_within w = on (more_consts ws false) (λ c. on (full_abstract_dtor ws) (λ d. tested_within (not c && is_nothing d) (parameter_of Void w d)))

  then_bounds : {A B : Type 0} (G : Syntax PlainToken A) (H H' : A → Syntax PlainToken B) → ((x : A) → Bounds (H x) (H' x)) → Bounds (G then H) (G then H')
  then_bounds {A} {B} G H H' w = record { begun = by_begun; late = by_late }
    where
      by_begun : (a : List PlainToken) → (G then H).begun a → (G then H').begun a
      by_begun a (inl m) = inl m
      by_begun a (inr (b, c, x, e, r, s)) = inr (b, c, x, e, r, (w x).begun c s)

      by_late : (i : ℕ) (a : List PlainToken) (t : PlainToken) → (G then H).late i a t → (G then H').late i a t
      by_late i a t (inl m) = inl m
      by_late i a t (inr (b, c, x, e, r, s)) = inr (b, c, x, e, r, (w x).late i c t s)

  void_bounds : (w : ℕ × Place) → Bounds (Loose w) (void_parameter ws w)
  unfolding void_parameter parameter_rest
  void_bounds w =
      then_bounds (more_consts ws false) _ _ (λ c. then_bounds (full_abstract_dtor ws) (λ d. gives (parameter_of Void w d)) (λ d. tested (not c && is_nothing d) (parameter_of Void w d))
      (λ d. tested_bounds (not c && is_nothing d) (parameter_of Void w d)))

  -- something stands after it
  void_filled : (w : ℕ × Place) (a : List PlainToken) (p : Declaration) → (void_parameter ws w).reads a p → IsFilled a
  unfolding void_parameter
  void_filled w a p (b, c, k, e, r, (b2, c2, d, e2, r2, s)) =
      filled_front a (b ++ b2) c2 (grouped a b c b2 c2 e e2) (by (not k && is_nothing d) (alone_known (b ++ b2) b b2 k d refl (consts_tell k b r) (full_knows b2 d r2)) s)
    where
      by : (q : Bool) → Knows (b ++ b2) q → (tested q (parameter_of Void w d)).reads c2 p → IsFilled (b ++ b2)
      by true n m = absurd m
      by false (inl n) m = absurd cc
      by false (inr n) m = n.0

  -- and where something does, it is a parameter
  void_read : (w : ℕ × Place) (a : List PlainToken) (p : Declaration) → IsFilled a → (Loose w).reads a p → (void_parameter ws w).reads a p
  unfolding void_parameter parameter_rest
  void_read w a p f (b, c, k, e, r, (b2, c2, d, e2, r2, (n, v))) =
      (b, c, k, e, r, (b2, c2, d, e2, r2, by (not k && is_nothing d) (alone_known (b ++ b2) b b2 k d refl (consts_tell k b r) (full_knows b2 d r2))))
    where
      by : (q : Bool) → Knows (b ++ b2) q → (tested q (parameter_of Void w d)).reads c2 p
      by true (inl m) = absurd (f (empty_both a (b ++ b2) c2 (grouped a b c b2 c2 e e2) m.0 n))
      by true (inr m) = absurd cc
      by false m = (n, v)

  -- ---- a parameter

  abbrev Alone : Syntax PlainToken Place
  Alone = reserved ws keyword.Void

  behind_within : (s : TypeStart) (w : ℕ × Place) → Within (parameter_behind ws s w) (type_behind ws s then λ t. Rest t w)
  unfolding parameter_behind type_behind
  behind_within VoidStart w = void_within w so loose_forth w
  behind_within ConstStart w = itself _
  behind_within StructStart w = itself _
  behind_within EnumStart w = itself _
  behind_within (NameStart t) w = itself _
  behind_within (IntegerStart x) w = itself _

  behind_bounds : (s : TypeStart) (w : ℕ × Place) → Bounds (type_behind ws s then λ t. Rest t w) (parameter_behind ws s w)
  unfolding parameter_behind type_behind
  behind_bounds VoidStart w = record { begun = λ a b. (void_bounds w).begun a ((loose_back w).begun a b); late = λ i a t l. (void_bounds w).late i a t ((loose_back w).late i a t l) }
  behind_bounds ConstStart w = record { begun = λ a b. b; late = λ i a t l. l }
  behind_bounds StructStart w = record { begun = λ a b. b; late = λ i a t l. l }
  behind_bounds EnumStart w = record { begun = λ a b. b; late = λ i a t l. l }
  behind_bounds (NameStart t) w = record { begun = λ a b. b; late = λ i a t l. l }
  behind_bounds (IntegerStart x) w = record { begun = λ a b. b; late = λ i a t l. l }

  behind_read : (s : TypeStart) (w : ℕ × Place) (a : List PlainToken) (p : Declaration) → (s ≡ VoidStart → IsFilled a) → (type_behind ws s then λ t. Rest t w).reads a p → (parameter_behind ws s w).reads a p
  unfolding parameter_behind type_behind
  behind_read VoidStart w a p f r = void_read w a p (f refl) ((loose_back w).reads a p r)
  behind_read ConstStart w a p f r = r
  behind_read StructStart w a p f r = r
  behind_read EnumStart w a p f r = r
  behind_read (NameStart t) w a p f r = r
  behind_read (IntegerStart x) w a p f r = r

  behind_filled : (w : ℕ × Place) (a : List PlainToken) (p : Declaration) → (parameter_behind ws VoidStart w).reads a p → IsFilled a
  unfolding parameter_behind
  behind_filled w a p r = void_filled w a p r

  parameter_form : Same (parameter ws) (Start then λ s. parameter_behind ws s.0.0 (word_of s))
  unfolding parameter
  parameter_form = both (itself _) (itself _)

  abbrev Behind : (TypeStart × ℕ) × Place → Syntax PlainToken Declaration
  Behind s = parameter_behind ws s.0.0 (word_of s)

  void_word : (n : ℕ) (v : Word) → type_start_of ws n v ≡ Some VoidStart → v ≡ word.Keyword keyword.Void
  void_word n (word.Keyword keyword.Void) e = refl
  void_word n _ e = absurd cc

  -- a token that is all there is
  lone : (a b c : List PlainToken) (t u : PlainToken) → a ≡ b ++ c → b ≡ t ∷ [] → a ≡ u ∷ [] → (u ≡ t) × (c ≡ [])
  lone a b c t u e p q = let same : u ∷ [] ≡ t ∷ c = sym q ∙ e ∙ ap (λ (k : List PlainToken). k ++ c) p in (cc, cc)

  -- "void" alone is none
  never_alone : (a : List PlainToken) (p : Declaration) (y : Place) → (Start then Behind).reads a p → Alone.reads a y → ⊥
  never_alone a p y (b, c, s, e, (t, e2, e3), r) (u, f, g) =
      let m = lone a b c t u e e2 f in
      let z = start_word ws t s e3 in
      let k = reserved_word ws keyword.Void u y void_alone g in
      let number : k.0 ≡ s.0.1 = let same : token.Word k.0 ≡ token.Word s.0.1 = sym k.1 ∙ ap (λ (v : PlainToken). v.kind) m.0 ∙ z.0 in cc in
      let starts : type_start_of ws s.0.1 (word_at ws s.0.1) ≡ Some VoidStart = ap (type_start_of ws s.0.1) (ap (word_at ws) (sym number) ∙ k.2) in
      let void : s.0.0 ≡ VoidStart = let same : Some s.0.0 ≡ Some VoidStart = sym z.1 ∙ starts in cc in
      behind_filled (word_of s) c p (subst (λ q. (parameter_behind ws q (word_of s)).reads c p) void r) m.1

  parameter_forth : Within (parameter ws) (production.param ws)
  parameter_forth =
      forth parameter_form
      so but_forth Alone (on Start (λ s. behind_within s.0.0 (word_of s)) so cut_forth so on (with_first (placed word_number) (type_words ws)) (λ z. forth (rest_line z.0 z.1))) never_alone

  parameter_bounds : Bounds Cut (Start then Behind)
  parameter_bounds = then_bounds Start _ _ (λ s. behind_bounds s.0.0 (word_of s))

  parameter_read : (a : List PlainToken) (p : Declaration) → Cut.reads a p → ((y : Place) → Alone.reads a y → ⊥) → (Start then Behind).reads a p
  parameter_read a p (b, c, s, e, (t, e2, e3), r) never = (b, c, s, e, (t, e2, e3), behind_read s.0.0 (word_of s) c p filled r)
    where
      filled : s.0.0 ≡ VoidStart → IsFilled c
      filled void n =
          let z = start_word ws t s e3 in
          let word : word_at ws s.0.1 ≡ word.Keyword keyword.Void = void_word s.0.1 (word_at ws s.0.1) (z.1 ∙ ap (λ (q : TypeStart). Some q) void) in
          never t.place (t, (e ∙ rw (e2, n) refl), word_reserved ws keyword.Void t s.0.1 void_alone z.0 word)

  whole_cut : Within (with_first (placed word_number) (type_words ws) then λ z. production.abstract_dtor ws then λ d. gives (parameter_of z.0 z.1 d)) Cut
  whole_cut = on (with_first (placed word_number) (type_words ws)) (λ z. back (rest_line z.0 z.1)) so cut_back

  parameter_back : Within (production.param ws) (parameter ws)
  parameter_back =
      but_back Alone
      (record { begun = λ a b. parameter_bounds.begun a (whole_cut.begun a b); late = λ i a t l. parameter_bounds.late i a t (whole_cut.late i a t l) })
      (λ a p r never. parameter_read a p (whole_cut.reads a p r) never)
      so back parameter_form

  pub param_line : Same (parameter ws) (production.param ws)
  param_line = both parameter_forth parameter_back

  -- ---- parameters

  abbrev Close : List Declaration → Syntax PlainToken (List Declaration)
  Close ps = mark ws right_paren then λ _. gives ps

  close_line : (ps : List Declaration) → Same (closed ws ps) (Close ps)
  unfolding closed
  close_line ps = both (itself _) (itself _)

  abbrev More : Declaration → Syntax PlainToken (List Declaration)
  More p = repeated (λ ps. mark ws comma then λ _. parameter ws then λ q. gives (ps ++ q ∷ [])) (p ∷ [])

  more_line : (p : Declaration) → Same (more_parameters ws p) (More p then Close)
  unfolding more_parameters next_parameter
  more_line p =
      both (in_turn (turns (kind ws) (λ _. mark_kind comma ∷ []) no (λ _. []) (λ ps. itself _) (p ∷ [])) (λ ps. forth (close_line ps)))
      (in_turn (turns no (λ _. []) (kind ws) (λ _. mark_kind comma ∷ []) (λ ps. itself _) (p ∷ [])) (λ ps. back (close_line ps)))

  abbrev Many : Syntax PlainToken (List Declaration)
  Many = parameter ws then More

  abbrev VoidAlone : Syntax PlainToken (List Declaration)
  VoidAlone = Alone then λ _. gives []

  abbrev Params : Syntax PlainToken (List Declaration)
  Params = production.closed_params ws

  nothing_in : {X : Syntax PlainToken (List Declaration)} → Within X (closed ws []) → Within X Params
  nothing_in w = w so forth (close_line []) so given_back [] Close so in_turn (first no [] Many (second no [] VoidAlone (itself (gives [])))) (λ ps. itself (Close ps))

  alone_in : Within (Alone then λ _. closed ws []) Params
  alone_in = on Alone (λ _. forth (close_line [])) so handed Alone (λ _. []) Close so in_turn (first no [] Many (first no [] (gives []) (itself VoidAlone))) (λ ps. itself (Close ps))

  many_in : Within (Start then λ s. Behind s then λ p. more_parameters ws p) Params
  many_in =
      forth (to_left Start Behind (more_parameters ws))
      so in_turn (back parameter_form) (λ p. forth (more_line p))
      so forth (to_left (parameter ws) More Close)
      so in_turn (second no [] _ (itself Many)) (λ ps. itself (Close ps))

  params_empty : Params.begun []
  params_empty = inl (inl (inr refl))

  -- what is read after one first word
  module _ (t : PlainToken) (x : (TypeStart × ℕ) × Place) (e : placed (type_start ws) t ≡ Some x) where
    abbrev after_word : (TypeStart × ℕ) × Place → Syntax PlainToken (List Declaration)
    after_word s = Behind s then λ p. more_parameters ws p

    given_many : Within (just t x then after_word) Params
    given_many = just_as t x x after_word after_word e (itself (after_word x)) so many_in

    given_alone : VoidStart ≡ x.0.0 → Within (just t x then λ _. closed ws []) Params
    given_alone v =
        let z = start_word ws t x e in
        let word : word_at ws x.0.1 ≡ word.Keyword keyword.Void = void_word x.0.1 (word_at ws x.0.1) (z.1 ∙ ap (λ (q : TypeStart). Some q) (sym v)) in
        just_as t x t.place (λ _. closed ws []) (λ _. closed ws []) (word_reserved ws keyword.Void t x.0.1 void_alone z.0 word) (itself (closed ws [])) so alone_in

    abbrev First : (TypeStart × ℕ) × Place → Syntax PlainToken (List Declaration)
    First s = first_parameter ws s.0.0 (word_of s)

    -- after "void" it may be the end
    first_void : (s : TypeStart) (w : ℕ × Place) → s ≡ VoidStart → Within (first_parameter ws s w) (closed ws [] or (parameter_behind ws s w then λ p. more_parameters ws p))
    unfolding first_parameter parameter_behind
    first_void VoidStart w v = each (kind ws) (mark_kind right_paren ∷ []) no [] (itself _) (itself _)
    first_void _ w v = absurd cc

    by_start : (s : TypeStart) → s ≡ x.0.0 → Within (first_parameter ws s (word_of x)) (parameter_behind ws s (word_of x) then λ p. more_parameters ws p) ⊎ (VoidStart ≡ x.0.0)
    unfolding first_parameter parameter_behind
    by_start VoidStart v = inr v
    by_start ConstStart v = inl (itself _)
    by_start StructStart v = inl (itself _)
    by_start EnumStart v = inl (itself _)
    by_start (NameStart u) v = inl (itself _)
    by_start (IntegerStart y) v = inl (itself _)

    given : Within (First x) (after_word x) ⊎ (VoidStart ≡ x.0.0) → Within (just t x then First) Params
    given (inl w) = just_on t x First after_word w so given_many
    given (inr v) =
        just_on t x First (λ s. closed ws [] or after_word s) (first_void x.0.0 (word_of x) (sym v))
        so after_either no [] (just t x) (λ _. closed ws []) after_word (given_alone v) given_many

    given_first_word : Within (just t x then First) Params
    given_first_word = given (by_start x.0.0 refl)

  first_is : (s : TypeStart) (w : ℕ × Place) → Within (parameter_behind ws s w then λ p. more_parameters ws p) (first_parameter ws s w)
  unfolding first_parameter parameter_behind
  first_is VoidStart w = second (kind ws) (mark_kind right_paren ∷ []) _ (itself _)
  first_is ConstStart w = itself _
  first_is StructStart w = itself _
  first_is EnumStart w = itself _
  first_is (NameStart t) w = itself _
  first_is (IntegerStart x) w = itself _

  params_forth : Within (parameters ws) Params
  unfolding parameters
  params_forth = either (kind ws) (mark_kind right_paren ∷ []) (nothing_in (itself (closed ws []))) (by_token params_empty (λ t x e. given_first_word t x e))

  abbrev Starts : Syntax PlainToken (List Declaration)
  Starts = Start then λ s. first_parameter ws s.0.0 (word_of s)

  alone_start : Within (Alone then λ _. closed ws []) Starts
  unfolding first_parameter
  alone_start =
      one_by_one (λ t at e.
      let m = reserved_word ws keyword.Void t at void_alone e in
      (((VoidStart, m.0), t.place), keyword_start ws t keyword.Void VoidStart m refl, first (kind ws) (mark_kind right_paren ∷ []) _ (itself (closed ws []))))

  many_start : Within (parameter ws then λ p. more_parameters ws p) Starts
  many_start = in_turn (forth parameter_form) (λ p. itself (more_parameters ws p)) so back (to_left Start Behind (more_parameters ws)) so on Start (λ s. first_is s.0.0 (word_of s))

  params_back : Within Params (parameters ws)
  unfolding parameters
  params_back =
      either_before no [] Close
      (either_before no [] Close (handed_back Alone (λ _. []) Close (λ _. inl (inl refl)) so on Alone (λ _. back (close_line [])) so alone_start so second (kind ws) (mark_kind right_paren ∷ []) _ (itself Starts))
      (given_first [] Close (inl (inl refl)) so back (close_line []) so first (kind ws) (mark_kind right_paren ∷ []) _ (itself (closed ws []))))
      (back (to_left (parameter ws) More Close) so on (parameter ws) (λ p. back (more_line p)) so many_start so second (kind ws) (mark_kind right_paren ∷ []) _ (itself Starts))

  pub params_line : Same (parameters ws) (production.closed_params ws)
  params_line = both params_forth params_back
