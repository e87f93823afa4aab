-- A chain of relations goes up, or down, or has one relation alone (ACSL 2.2.1).
use Rattle.std.proofs.Common.{◌≡◌, ℕ, zero, suc, List, [], Some, None, refl, sym, subst, ◌⊎◌, inl, inr}
use Rattle.grammar.specs.Syntax.{Syntax, none, gives, one, ◌then◌, knot_at}
use Rattle.grammar.specs.Exact.{Same}
use Rattle.grammar.proofs.Forms.{to_left}
use Rattle.grammar_laws.specs.Plain.{◌or◌}
use Rattle.grammar_laws.proofs.Inclusions.{Within, both, forth, back, itself, ◌so◌, either, first, second, each, nothing, on, in_turn, in_turn_where}
use Rattle.grammar_laws.proofs.Inclusions.{after_either, handed, handed_back, given_first, given_back, at_each, at_some, apart_before, apart_after}
use Rattle.grammar_laws.proofs.Tokens.{just, by_token, just_then, just_on, AllEntries, IsEntry, table_holds, in_table}
use Rattle.grammar_laws.proofs.AnnotationKnots.{links_knot}
use Rattle.c_syntax.specs.declared.place.Place.{Place}
use Rattle.c_syntax.specs.declared.annotation.Relation.{Relation}
use Rattle.c_syntax.specs.Formulas.{Form, FormLinks, NoLink}
use Rattle.c_syntax.specs.Tokens.{PlainToken}
use Rattle.c_model.specs.declared.formulas.ChainDirection.{ChainDirection}
use Rattle.c_model.specs.declared.formulas.ChainDirection.TheVariants.{Start, Equal, Up, Down, Ended}
use Rattle.c_model.specs.Vocabulary.{Vocabulary}
use Rattle.c_model.specs.Terminals.{placed, entry, mark_entry}
use Rattle.c_model.specs.ExpressionGrammar.{kinds_of}
use Rattle.c_model.specs.AnnotationGrammar.{formula_kind, Spanned, unended, unended_only, as_it_is, relations_behind, direction_behind, chained, links_of, links as parsed_links, linked as parsed_linked, chain_behind, chain_of, shift, chain}
use Rattle.grammar_laws.specs.AnnotationProductions.{upward, downward, unequal, linked, link, folded_open}
use Rattle.grammar_laws.specs.AnnotationProductions as production

abbrev no : PlainToken → ℕ
no t = 0

abbrev Links : Type 1
Links = Syntax PlainToken (Spanned FormLinks)

module _ (ws : Vocabulary) where
  abbrev R : Syntax PlainToken (Spanned Form)
  R = production.alone ws (shift ws)

  -- links of the parser at most k deep, and of one table
  abbrev U : ℕ → ChainDirection → Links
  U k d = knot_at (links_of ws R) k d

  abbrev links : ChainDirection → Links
  links d = parsed_links ws R d

  links_line : (d : ChainDirection) → Same (links d) (links_of ws R links d)
  links_line d = links_knot ws R d

  abbrev V : ℕ → List (ℕ × Relation) → Links
  V k table =
      knot_at {S = Unit {0}} (λ L u. (link ws table then λ l. unended (λ (_ : Relation × Place × Form). L u) (λ _. NoLink) l then λ rest. gives (linked l.0 rest.0, rest.1)) or gives (NoLink, None)) k tt

  abbrev W : List (ℕ × Relation) → Links
  W table = folded_open (link ws table) linked NoLink

  -- the links X after an operand, which may end them
  abbrev behind : Links → Spanned Form → Links
  behind X x = unended (λ (_ : Form). X) (λ _. NoLink) x

  behind_within : {X Y : Links} → Within X Y → (x : Spanned Form) → Within (behind X x) (behind Y x)
  behind_within w (a, None) = w
  behind_within w (a, Some e) = itself _

  behind_apart : (X Y : Links) (x : Spanned Form) → Within (behind (X or Y) x) (behind X x or behind Y x)
  behind_apart X Y (a, None) = itself (X or Y)
  behind_apart X Y (a, Some e) = first no [] (gives (NoLink, Some e)) (itself _)

  -- the operand after a relation, and the links X after it
  abbrev ending : Relation × Place → Spanned Form → Spanned FormLinks → Links
  ending r x rest = gives (linked (r.0, r.1, x.0) rest.0, rest.1)

  abbrev body : Links → Relation × Place → Links
  body X r = R then λ x. behind X x then ending r x

  body_within : {X Y : Links} (r : Relation × Place) → Within X Y → Within (body X r) (body Y r)
  body_within r w = on R (λ x. in_turn (behind_within w x) (λ rest. itself _))

  body_apart : (X Y : Links) (r : Relation × Place) → Within (body (X or Y) r) (body X r or body Y r)
  body_apart X Y r =
      on R (λ x. in_turn (behind_apart X Y x) (λ rest. itself (ending r x rest)) so apart_before no [] (behind X x) (behind Y x) (ending r x))
      so apart_after no [] R (λ x. behind X x then ending r x) (λ x. behind Y x then ending r x)

  -- a link and what stands after it
  module _ (table : List (ℕ × Relation)) (X : Links) where
    abbrev K : Spanned (Relation × Place × Form) → Links
    K l = unended (λ (_ : Relation × Place × Form). X) (λ _. NoLink) l then λ rest. gives (linked l.0 rest.0, rest.1)

    abbrev with_form : Relation × Place → Spanned Form → Spanned (Relation × Place × Form)
    with_form r x = ((r.0, r.1, x.0), x.1)

    to_link : Within (one (placed (mark_entry table)) then body X) (link ws table then K)
    to_link =
        on (one (placed (mark_entry table))) (λ r. handed R (with_form r) K) so forth (to_left (one (placed (mark_entry table))) (λ r. R then λ x. gives (with_form r x)) K)

    from_link : ((l : Spanned (Relation × Place × Form)) → (K l).begun []) → Within (link ws table then K) (one (placed (mark_entry table)) then body X)
    from_link empty =
        back (to_left (one (placed (mark_entry table))) (λ r. R then λ x. gives (with_form r x)) K)
        so on (one (placed (mark_entry table))) (λ r. handed_back R (with_form r) K (λ x. empty (with_form r x)))

  V_empty : (k : ℕ) (table : List (ℕ × Relation)) → (V k table).begun []
  V_empty zero table = refl
  V_empty (suc k) table = inr refl

  turn : (k : ℕ) (table : List (ℕ × Relation)) → Within (one (placed (mark_entry table)) then body (V k table)) (V (suc k) table)
  turn k table = to_link table (V k table) so first no [] (gives (NoLink, None)) (itself _)

  K_empty : (k : ℕ) (table : List (ℕ × Relation)) (l : Spanned (Relation × Place × Form)) → (K table (V k table) l).begun []
  K_empty k table (a, None) = inl (V_empty k table)
  K_empty k table (a, Some e) = inl refl

  turn_back : (k : ℕ) (table : List (ℕ × Relation)) {Z : Links} → Within (one (placed (mark_entry table)) then body (V k table)) Z → Within (gives (NoLink, None)) Z → Within (V (suc k) table) Z
  turn_back k table w v = either no [] (from_link table (V k table) (K_empty k table) so w) v

  -- the parser's links, a turn at a time
  parser_turn : (k : ℕ) (d : ChainDirection) {Z : Links} → Within (one (placed (mark_entry (relations_behind d))) then λ r. body (U k (direction_behind d r.0)) r) Z → Within (gives (NoLink, None)) Z → Within (U (suc k) d) Z
  unfolding links_of parsed_linked
  parser_turn k d w v = either (formula_kind ws) (kinds_of (relations_behind d)) w v

  into_parser : (d : ChainDirection) → Within (one (placed (mark_entry (relations_behind d))) then λ r. body (links (direction_behind d r.0)) r) (links_of ws R links d)
  unfolding links_of parsed_linked
  into_parser d = first (formula_kind ws) (kinds_of (relations_behind d)) (gives (NoLink, None)) (itself _)

  end_parser : (d : ChainDirection) → Within (gives (NoLink, None)) (links_of ws R links d)
  unfolding links_of parsed_linked
  end_parser d = second (formula_kind ws) (kinds_of (relations_behind d)) _ (itself (gives (NoLink, None)))

  to_parser : (d : ChainDirection) → Within (one (placed (mark_entry (relations_behind d))) then λ r. body (links (direction_behind d r.0)) r) (links d)
  to_parser d = into_parser d so back (links_line d)

  ends_parser : (d : ChainDirection) → Within (gives (NoLink, None)) (links d)
  ends_parser d = end_parser d so back (links_line d)

  links_empty : (d : ChainDirection) → (links d).begun []
  unfolding parsed_links
  links_empty d = (0, refl)

  -- ---- which way a chain goes on

  -- a way that each of its relations keeps
  module _ (d : ChainDirection) (keeps : AllEntries (λ m r. direction_behind d r ≡ d) (relations_behind d)) where
    stays : (t : PlainToken) (x : Relation × Place) → placed (mark_entry (relations_behind d)) t ≡ Some x → direction_behind d x.0 ≡ d
    stays t x e = (table_holds (λ m r. direction_behind d r ≡ d) (relations_behind d) t x keeps e).2

    one_way : (k : ℕ) → Within (U k d) (V k (relations_behind d))
    one_way zero = itself none
    one_way (suc k) =
        parser_turn k d
        (in_turn_where (itself (one (placed (mark_entry (relations_behind d))))) (λ x a r. body_within x (subst (λ c. Within (U k c) (V k (relations_behind d))) (sym (stays r.0 x r.2)) (one_way k)))
        so turn k (relations_behind d)) (second no [] _ (itself (gives (NoLink, None))))

    one_way_back : (k : ℕ) → Within (V k (relations_behind d)) (links d)
    one_way_back zero = nothing (links d) (links_empty d)
    one_way_back (suc k) =
        turn_back k (relations_behind d)
        (in_turn_where (itself (one (placed (mark_entry (relations_behind d))))) (λ x a r. body_within x (subst (λ c. Within (V k (relations_behind d)) (links c)) (sym (stays r.0 x r.2)) (one_way_back k)))
        so to_parser d) (ends_parser d)

  up_forth : (k : ℕ) → Within (U k Up) (V k upward)
  up_forth = one_way Up (refl, (refl, (refl, tt)))

  down_forth : (k : ℕ) → Within (U k Down) (V k downward)
  down_forth = one_way Down (refl, (refl, (refl, tt)))

  -- ---- after `==` alone, a chain goes up or down

  abbrev Turned : (ℕ → Relation → Type 0)
  Turned m r =
      ((direction_behind Equal r ≡ Up) × (entry m upward ≡ Some r)) ⊎ (((direction_behind Equal r ≡ Down) × (entry m downward ≡ Some r))
      ⊎ ((direction_behind Equal r ≡ Equal) × ((entry m upward ≡ Some r) × (entry m downward ≡ Some r))))

  turned : AllEntries Turned (relations_behind Equal)
  turned = (inl (refl, refl), (inl (refl, refl), (inr (inl (refl, refl)), (inr (inl (refl, refl)), (inr (inr (refl, (refl, refl))), tt)))))

  abbrev Either : ℕ → Links
  Either k = V k upward or V k downward

  go_up : (k : ℕ) (t : PlainToken) (x : Relation × Place) {X : Links} → placed (mark_entry upward) t ≡ Some x → Within X (V k upward) → Within (just t x then λ r. body X r) (V (suc k) upward)
  go_up k t x {X} p w = just_then t x (λ r. body X r) (λ r. body (V k upward) r) p (body_within x w) so turn k upward

  go_down : (k : ℕ) (t : PlainToken) (x : Relation × Place) {X : Links} → placed (mark_entry downward) t ≡ Some x → Within X (V k downward) → Within (just t x then λ r. body X r) (V (suc k) downward)
  go_down k t x {X} p w = just_then t x (λ r. body X r) (λ r. body (V k downward) r) p (body_within x w) so turn k downward

  go_on : (k : ℕ) (t : PlainToken) (x : Relation × Place) {X : Links} → placed (mark_entry upward) t ≡ Some x → placed (mark_entry downward) t ≡ Some x → Within X (Either k) → Within (just t x then λ r. body X r) (Either (suc k))
  go_on k t x {X} p q w =
      just_on t x (λ r. body X r) (λ r. body (V k upward) r or body (V k downward) r) (body_within x w so body_apart (V k upward) (V k downward) x)
      so after_either no [] (just t x) (λ r. body (V k upward) r) (λ r. body (V k downward) r)
      (first no [] (V (suc k) downward) (go_up k t x p (itself (V k upward)))) (second no [] (V (suc k) upward) (go_down k t x q (itself (V k downward))))

  equal_token : (k : ℕ) (t : PlainToken) (x : Relation × Place) → Within (U k Equal) (Either k) → placed (mark_entry (relations_behind Equal)) t ≡ Some x
      → Within (just t x then λ r. body (U k (direction_behind Equal r.0)) r) (Either (suc k))
  equal_token k t x equal e = by (table_holds Turned (relations_behind Equal) t x turned e)
    where
      by : IsEntry Turned t.kind x.0 → Within (just t x then λ r. body (U k (direction_behind Equal r.0)) r) (Either (suc k))
      by (m, q, inl (d, p)) =
          just_on t x (λ r. body (U k (direction_behind Equal r.0)) r) (λ r. body (V k upward) r) (body_within x (subst (λ c. Within (U k c) (V k upward)) (sym d) (up_forth k)))
          so first no [] (V (suc k) downward) (go_up k t x (in_table (relations_behind Equal) upward t x m e q p) (itself (V k upward)))
      by (m, q, inr (inl (d, p))) =
          just_on t x (λ r. body (U k (direction_behind Equal r.0)) r) (λ r. body (V k downward) r) (body_within x (subst (λ c. Within (U k c) (V k downward)) (sym d) (down_forth k)))
          so second no [] (V (suc k) upward) (go_down k t x (in_table (relations_behind Equal) downward t x m e q p) (itself (V k downward)))
      by (m, q, inr (inr (d, (p, r)))) =
          just_on t x (λ r. body (U k (direction_behind Equal r.0)) r) (λ r. body (Either k) r) (body_within x (subst (λ c. Within (U k c) (Either k)) (sym d) equal))
          so go_on k t x (in_table (relations_behind Equal) upward t x m e q p) (in_table (relations_behind Equal) downward t x m e q r) (itself (Either k))

  equal_forth : (k : ℕ) → Within (U k Equal) (Either k)
  equal_forth zero = first no [] none (itself none)
  equal_forth (suc k) =
      parser_turn k Equal (by_token (inl (V_empty (suc k) upward)) (λ t x e. equal_token k t x (equal_forth k) e)) (first no [] _ (second no [] _ (itself (gives (NoLink, None)))))

  -- ---- from the start, it has one relation `!=` alone besides

  abbrev N : Links
  N = link ws unequal then λ l. gives (linked l.0 NoLink, l.1)

  ended_forth : (k : ℕ) → Within (U k Ended) (gives (NoLink, None))
  ended_forth zero = nothing (gives (NoLink, None)) refl
  ended_forth (suc k) = parser_turn k Ended (by_token refl (λ t x e. absurd (table_holds (λ m r. ⊥) [] t x tt e).2)) (itself (gives (NoLink, None)))

  -- an operand, and no link behind it
  abbrev last : Relation × Place → Spanned Form → Links
  last r y = gives (linked (r.0, r.1, y.0) NoLink, y.1)

  alone : Within (one (placed (mark_entry unequal)) then λ r. R then last r) N
  alone =
      on (one (placed (mark_entry unequal))) (λ r. handed R (λ y. ((r.0, r.1, y.0), y.1)) (λ l. gives (linked l.0 NoLink, l.1)))
      so forth (to_left (one (placed (mark_entry unequal))) (λ r. R then λ y. gives ((r.0, r.1, y.0), y.1)) (λ l. gives (linked l.0 NoLink, l.1)))

  alone_back : Within N (one (placed (mark_entry unequal)) then λ r. R then last r)
  alone_back =
      back (to_left (one (placed (mark_entry unequal))) (λ r. R then λ y. gives ((r.0, r.1, y.0), y.1)) (λ l. gives (linked l.0 NoLink, l.1)))
      so on (one (placed (mark_entry unequal))) (λ r. handed_back R (λ y. ((r.0, r.1, y.0), y.1)) (λ l. gives (linked l.0 NoLink, l.1)) (λ y. refl))

  last_of : (r : Relation × Place) (y : Spanned Form) → Within (behind (gives (NoLink, None)) y then ending r y) (last r y)
  last_of r (a, None) = given_first (NoLink, None) (ending r (a, None)) refl
  last_of r (a, Some e) = given_first (NoLink, Some e) (ending r (a, Some e)) refl

  of_last : {X : Links} (r : Relation × Place) → Within (gives (NoLink, None)) X → (y : Spanned Form) → Within (last r y) (behind X y then ending r y)
  of_last r w (a, None) = given_back (NoLink, None) (ending r (a, None)) so in_turn w (λ rest. itself _)
  of_last r w (a, Some e) = given_back (NoLink, Some e) (ending r (a, Some e))

  abbrev Started : (ℕ → Relation → Type 0)
  Started m r =
      ((direction_behind Start r ≡ Up) × (entry m upward ≡ Some r)) ⊎ (((direction_behind Start r ≡ Down) × (entry m downward ≡ Some r))
      ⊎ (((direction_behind Start r ≡ Equal) × ((entry m upward ≡ Some r) × (entry m downward ≡ Some r))) ⊎ ((direction_behind Start r ≡ Ended) × (entry m unequal ≡ Some r))))

  started : AllEntries Started (relations_behind Start)
  started = (inl (refl, refl), (inl (refl, refl), (inr (inl (refl, refl)), (inr (inl (refl, refl)), (inr (inr (inl (refl, (refl, refl)))), (inr (inr (inr (refl, refl))), tt))))))

  abbrev Any : ℕ → Links
  Any k = V k upward or V k downward or N

  start_token : (k : ℕ) (t : PlainToken) (x : Relation × Place) → placed (mark_entry (relations_behind Start)) t ≡ Some x → Within (just t x then λ r. body (U k (direction_behind Start r.0)) r) (Any (suc k))
  start_token k t x e = by (table_holds Started (relations_behind Start) t x started e)
    where
      by : IsEntry Started t.kind x.0 → Within (just t x then λ r. body (U k (direction_behind Start r.0)) r) (Any (suc k))
      by (m, q, inl (d, p)) =
          just_on t x (λ r. body (U k (direction_behind Start r.0)) r) (λ r. body (V k upward) r) (body_within x (subst (λ c. Within (U k c) (V k upward)) (sym d) (up_forth k)))
          so first no [] (V (suc k) downward or N) (go_up k t x (in_table (relations_behind Start) upward t x m e q p) (itself (V k upward)))
      by (m, q, inr (inl (d, p))) =
          just_on t x (λ r. body (U k (direction_behind Start r.0)) r) (λ r. body (V k downward) r) (body_within x (subst (λ c. Within (U k c) (V k downward)) (sym d) (down_forth k)))
          so second no [] (V (suc k) upward) (first no [] N (go_down k t x (in_table (relations_behind Start) downward t x m e q p) (itself (V k downward))))
      by (m, q, inr (inr (inl (d, (p, r))))) =
          just_on t x (λ r. body (U k (direction_behind Start r.0)) r) (λ r. body (Either k) r) (body_within x (subst (λ c. Within (U k c) (Either k)) (sym d) (equal_forth k)))
          so go_on k t x (in_table (relations_behind Start) upward t x m e q p) (in_table (relations_behind Start) downward t x m e q r) (itself (Either k))
          so each no [] no [] (itself (V (suc k) upward)) (first no [] N (itself (V (suc k) downward)))
      by (m, q, inr (inr (inr (d, p)))) =
          just_on t x (λ r. body (U k (direction_behind Start r.0)) r) (λ r. body (gives (NoLink, None)) r) (body_within x (subst (λ c. Within (U k c) (gives (NoLink, None))) (sym d) (ended_forth k)))
          so just_then t x (λ r. body (gives (NoLink, None)) r) (λ r. R then last r) (in_table (relations_behind Start) unequal t x m e q p) (on R (last_of x))
          so alone so second no [] (V (suc k) upward) (second no [] (V (suc k) downward) (itself N))

  start_forth : (k : ℕ) → Within (U k Start) (Any k)
  start_forth zero = first no [] (none or N) (itself none)
  start_forth (suc k) = parser_turn k Start (by_token (inl (V_empty (suc k) upward)) (start_token k)) (first no [] _ (second no [] _ (itself (gives (NoLink, None)))))

  start_links : Within (links Start) (W upward or W downward or N)
  unfolding parsed_links
  start_links = at_each (λ k. start_forth k so each no [] no [] (at_some (λ n. V n upward) k) (each no [] no [] (at_some (λ n. V n downward) k) (itself N)))

  -- ---- and back

  abbrev Back : ChainDirection → ChainDirection → ℕ → Relation → Type 0
  Back d way m r = (entry m (relations_behind d) ≡ Some r) × ((direction_behind d r ≡ way) ⊎ (direction_behind d r ≡ Equal))

  way_back : (d way : ChainDirection) (table : List (ℕ × Relation)) → AllEntries (Back d way) table → (k : ℕ) → Within (V k table) (links way) → Within (V k table) (links Equal) → Within (V (suc k) table) (links d)
  way_back d way table all k on_way equal =
      turn_back k table
      (by_token (inl (inl refl)) (λ t x e.
      let s = by t x e (table_holds (Back d way) table t x all e) in
      just_then t x (λ r. body (V k table) r) (λ r. body (links (direction_behind d r.0)) r) s.0 (body_within x s.1))
      so to_parser d) (ends_parser d)
    where
      by : (t : PlainToken) (x : Relation × Place) → placed (mark_entry table) t ≡ Some x → IsEntry (Back d way) t.kind x.0
          → (placed (mark_entry (relations_behind d)) t ≡ Some x) × Within (V k table) (links (direction_behind d x.0))
      by t x e (m, q, (p, inl g)) = (in_table table (relations_behind d) t x m e q p, subst (λ c. Within (V k table) (links c)) (sym g) on_way)
      by t x e (m, q, (p, inr g)) = (in_table table (relations_behind d) t x m e q p, subst (λ c. Within (V k table) (links c)) (sym g) equal)

  up_back : (k : ℕ) → Within (V k upward) (links Up)
  up_back = one_way_back Up (refl, (refl, (refl, tt)))

  down_back : (k : ℕ) → Within (V k downward) (links Down)
  down_back = one_way_back Down (refl, (refl, (refl, tt)))

  equal_up_back : (k : ℕ) → Within (V k upward) (links Equal)
  equal_up_back zero = nothing (links Equal) (links_empty Equal)
  equal_up_back (suc k) = way_back Equal Up upward ((refl, inl refl), ((refl, inl refl), ((refl, inr refl), tt))) k (up_back k) (equal_up_back k)

  equal_down_back : (k : ℕ) → Within (V k downward) (links Equal)
  equal_down_back zero = nothing (links Equal) (links_empty Equal)
  equal_down_back (suc k) = way_back Equal Down downward ((refl, inl refl), ((refl, inl refl), ((refl, inr refl), tt))) k (down_back k) (equal_down_back k)

  start_up_back : (k : ℕ) → Within (V k upward) (links Start)
  start_up_back zero = nothing (links Start) (links_empty Start)
  start_up_back (suc k) = way_back Start Up upward ((refl, inl refl), ((refl, inl refl), ((refl, inr refl), tt))) k (up_back k) (equal_up_back k)

  start_down_back : (k : ℕ) → Within (V k downward) (links Start)
  start_down_back zero = nothing (links Start) (links_empty Start)
  start_down_back (suc k) = way_back Start Down downward ((refl, inl refl), ((refl, inl refl), ((refl, inr refl), tt))) k (down_back k) (equal_down_back k)

  abbrev Alone : (ℕ → Relation → Type 0)
  Alone m r = (entry m (relations_behind Start) ≡ Some r) × (direction_behind Start r ≡ Ended)

  start_alone_back : Within N (links Start)
  start_alone_back = alone_back so by_token (inl (inl refl)) alone_token so to_parser Start
    where
      by : (t : PlainToken) (x : Relation × Place) → placed (mark_entry unequal) t ≡ Some x → IsEntry Alone t.kind x.0
          → (placed (mark_entry (relations_behind Start)) t ≡ Some x) × Within (gives (NoLink, None)) (links (direction_behind Start x.0))
      by t x e (m, q, (p, g)) = (in_table unequal (relations_behind Start) t x m e q p, subst (λ c. Within (gives (NoLink, None)) (links c)) (sym g) (ends_parser Ended))

      alone_token : (t : PlainToken) (x : Relation × Place) → placed (mark_entry unequal) t ≡ Some x
          → Within (just t x then λ r. R then last r) (one (placed (mark_entry (relations_behind Start))) then λ r. body (links (direction_behind Start r.0)) r)
      alone_token t x e =
          let s = by t x e (table_holds Alone unequal t x ((refl, refl), tt) e) in
          just_then t x (λ r. R then last r) (λ r. body (links (direction_behind Start r.0)) r) s.0 (on R (of_last x s.1))

  -- ---- chains

  abbrev end : Form → Spanned FormLinks → Syntax PlainToken (Spanned Form)
  end x links = gives (chained x links.0, links.1)

  -- what stands behind an operand
  abbrev All : Spanned Form → Syntax PlainToken (Spanned Form)
  All x = unended (λ a. links Start then end a) as_it_is x

  abbrev Three : Spanned Form → Syntax PlainToken (Spanned Form)
  Three x = unended (production.one_way ws upward) as_it_is x or unended (production.one_way ws downward) as_it_is x or unended_only (production.apart ws) x

  all_forth : (x : Spanned Form) → Within (All x) (Three x)
  all_forth (a, None) =
      in_turn start_links (λ ls. itself _) so apart_before no [] (W upward) (W downward or N) (end a) so each no [] no [] (itself _) (apart_before no [] (W downward) N (end a))
  all_forth (a, Some e) = first no [] _ (itself _)

  up_in : (x : Spanned Form) → Within (unended (production.one_way ws upward) as_it_is x) (All x)
  up_in (a, None) = in_turn (at_each start_up_back) (λ ls. itself _)
  up_in (a, Some e) = itself _

  down_in : (x : Spanned Form) → Within (unended (production.one_way ws downward) as_it_is x) (All x)
  down_in (a, None) = in_turn (at_each start_down_back) (λ ls. itself _)
  down_in (a, Some e) = itself _

  apart_in : (x : Spanned Form) → Within (unended_only (production.apart ws) x) (All x)
  apart_in (a, None) = in_turn start_alone_back (λ ls. itself _)
  apart_in (a, Some e) = nothing _ refl

  pub chain_line : Same (production.alone ws (chain ws)) (production.chain ws)
  unfolding chain_of chain_behind
  chain_line =
      both
      (on R all_forth so apart_after no [] R (λ x. unended (production.one_way ws upward) as_it_is x) (λ x. unended (production.one_way ws downward) as_it_is x or unended_only (production.apart ws) x)
      so each no [] no [] (itself _) (apart_after no [] R (λ x. unended (production.one_way ws downward) as_it_is x) (λ x. unended_only (production.apart ws) x)))
      (either no [] (on R up_in) (either no [] (on R down_in) (on R apart_in)))
