-- The labels of a body, each with what is in sight where it stands: no two of one function have one name (C99 6.8.1 p3).
use Rattle.std.proofs.Common.{◌≡◌, ◌⊎◌, inl, inr, ℕ, Bool, true, false, not, ◌||◌, nat_eq, List, [], ◌∷◌, ◌++◌, map, refl, sym, ap, ◌∙◌, subst}
use Rattle.std.proofs.lemmas.Bool.{eq-eqb}
use Rattle.std.proofs.lemmas.List.{map-append}
use Rattle.c_syntax.specs.declared.place.Place.{Place}
use Rattle.c_syntax.specs.Statements.{Statement, Empty, Eval, Block, If, While, Do, For, Break, Continue, Return, Labelled, Switch, Cases, NoCase, AnotherCase, ElsePart, NoElse, Else}
use Rattle.c_syntax.specs.Statements.{BlockItem, Declare, Specify, Run, Asserts, BlockItems, NoItem, Then}
use Rattle.c_model.specs.Checked.{Good, where_so}
use Rattle.c_model.specs.ExpressionTyping.{Sight, inner, is_among, no_name}
use Rattle.c_model.specs.StatementTyping.{behind, behind_first, distinct_labels, labels_within, labels_in_cases, labels_in_else, labels_in_item, labels_in_items}
use Rattle.instrument.proofs.KeptTerms.{Sites, CasesSites, ElseSites, ItemSites, ItemsSites}

abbrev pub Site : Type 0
Site = ℕ × Sight

abbrev mutual
  pub sites : Sight → Statement → List Site
  sites s (Block at items) = sites_in_items (inner s) items
  sites s (If at e a b) = sites s a ++ sites_in_else s b
  sites s (While at annots e a) = sites s a
  sites s (Do at a e) = sites s a
  sites s (For at annots first e step a) = sites (behind_first (inner s) first) a
  sites s (Labelled at l a) = (l, s) ∷ sites s a
  sites s (Switch at e cases) = sites_in_cases s cases
  sites s _ = []

  pub sites_in_cases : Sight → Cases → List Site
  sites_in_cases s NoCase = []
  sites_in_cases s (AnotherCase at v items rest) = sites_in_items s items ++ sites_in_cases s rest

  pub sites_in_else : Sight → ElsePart → List Site
  sites_in_else s NoElse = []
  sites_in_else s (Else a) = sites s a

  pub sites_in_item : Sight → BlockItem → List Site
  sites_in_item s (Run a) = sites s a
  sites_in_item s _ = []

  pub sites_in_items : Sight → BlockItems → List Site
  sites_in_items s NoItem = []
  sites_in_items s (Then i rest) = sites_in_item s i ++ sites_in_items (behind s i) rest

abbrev pub Member : Site → List Site → Type 0
Member x [] = ⊥
Member x (y ∷ ys) = (y ≡ x) ⊎ Member x ys

front : (xs ys : List Site) (x : Site) → Member x xs → Member x (xs ++ ys)
front [] ys x i = absurd i
front (y ∷ xs) ys x (inl e) = inl e
front (y ∷ xs) ys x (inr i) = inr (front xs ys x i)

back : (xs ys : List Site) (x : Site) → Member x ys → Member x (xs ++ ys)
back [] ys x i = i
back (y ∷ xs) ys x i = inr (back xs ys x i)

-- ---- each label is one of them

module _ (whole : List Site) where
  abbrev pub StandsThere : ℕ → Sight → Type 0
  StandsThere l v = Member (l, v) whole

  abbrev Within : List Site → Type 0
  Within xs = (x : Site) → Member x xs → Member x whole

  mutual
    statement_sites : (a : Statement) (s : Sight) → Within (sites s a) → Sites StandsThere s a
    statement_sites (Empty at) s h = tt
    statement_sites (Eval at e) s h = tt
    statement_sites (Block at items) s h = items_sites items (inner s) h
    statement_sites (If at e a b) s h = (statement_sites a s (λ x i. h x (front (sites s a) (sites_in_else s b) x i)), else_sites b s (λ x i. h x (back (sites s a) (sites_in_else s b) x i)))
    statement_sites (While at annots e a) s h = statement_sites a s h
    statement_sites (Do at a e) s h = statement_sites a s h
    statement_sites (For at annots first e step a) s h = statement_sites a (behind_first (inner s) first) h
    statement_sites (Break at) s h = tt
    statement_sites (Continue at) s h = tt
    statement_sites (Return at e) s h = tt
    statement_sites (Labelled at l a) s h = (h (l, s) (inl refl), statement_sites a s (λ x i. h x (inr i)))
    statement_sites (Switch at e cases) s h = cases_sites cases s h

    cases_sites : (cs : Cases) (s : Sight) → Within (sites_in_cases s cs) → CasesSites StandsThere s cs
    cases_sites NoCase s h = tt
    cases_sites (AnotherCase at v items rest) s h =
        (items_sites items s (λ x i. h x (front (sites_in_items s items) (sites_in_cases s rest) x i)), cases_sites rest s (λ x i. h x (back (sites_in_items s items) (sites_in_cases s rest) x i)))

    else_sites : (b : ElsePart) (s : Sight) → Within (sites_in_else s b) → ElseSites StandsThere s b
    else_sites NoElse s h = tt
    else_sites (Else a) s h = statement_sites a s h

    item_sites : (i : BlockItem) (s : Sight) → Within (sites_in_item s i) → ItemSites StandsThere s i
    item_sites (Declare ds) s h = tt
    item_sites (Specify at t) s h = tt
    item_sites (Run a) s h = statement_sites a s h
    item_sites (Asserts annots) s h = tt

    pub items_sites : (is : BlockItems) (s : Sight) → Within (sites_in_items s is) → ItemsSites StandsThere s is
    items_sites NoItem s h = tt
    items_sites (Then i rest) s h =
        (item_sites i s (λ x j. h x (front (sites_in_item s i) (sites_in_items (behind s i) rest) x j)), items_sites rest (behind s i) (λ x j. h x (back (sites_in_item s i) (sites_in_items (behind s i) rest) x j)))

-- ---- they are told apart

abbrev named : List Site → List ℕ
named xs = map (λ (x : Site). x.0) xs

abbrev labels : List (Place × ℕ) → List ℕ
labels ls = map (λ (l : Place × ℕ). l.1) ls

-- none has a name of these, or of one before it
abbrev Apart : List ℕ → List ℕ → Type 0
Apart names [] = Unit {0}
Apart names (l ∷ ls) = (is_among l names ≡ false) × Apart (l ∷ names) ls

labels_apart : (names : List ℕ) (ls : List (Place × ℕ)) → distinct_labels names ls ≡ Good tt → Apart names (labels ls)
labels_apart names [] e = tt
labels_apart names (l ∷ ls) e = by (is_among l.1 names) refl e (λ h. labels_apart (l.1 ∷ names) ls h)
  where
    by : (t : Bool) → is_among l.1 names ≡ t → where_so (not t) (no_name l.0) (distinct_labels (l.1 ∷ names) ls) ≡ Good tt → (distinct_labels (l.1 ∷ names) ls ≡ Good tt → Apart (l.1 ∷ names) (labels ls))
        → Apart names (l.1 ∷ labels ls)
    by false is h go = (is, go h)
    by true is h go = absurd cc

among_more : (l y : ℕ) (names : List ℕ) → is_among l names ≡ true → is_among l (y ∷ names) ≡ true
among_more l y names e = by (nat_eq l y)
  where
    by : (t : Bool) → (t || is_among l names) ≡ true
    by true = refl
    by false = e

not_there : (names : List ℕ) (xs : List Site) (l : ℕ) (v : Sight) → is_among l names ≡ true → Apart names (named xs) → Member (l, v) xs → ⊥
not_there names [] l v e a i = i
not_there names (y ∷ ys) l v e a (inl same) = let is : y.0 ≡ l = ap (λ (x : Site). x.0) same in let free : is_among l names ≡ false = subst (λ k. is_among k names ≡ false) is a.0 in cc
not_there names (y ∷ ys) l v e a (inr i) = not_there (y.0 ∷ names) ys l v (among_more l y.0 names e) a.1 i

first_among : (l : ℕ) (names : List ℕ) → is_among l (l ∷ names) ≡ true
first_among l names = ap (λ t. t || is_among l names) (eq-eqb l l refl)

one_site : (names : List ℕ) (xs : List Site) (l : ℕ) (v w : Sight) → Apart names (named xs) → Member (l, v) xs → Member (l, w) xs → v ≡ w
one_site names [] l v w a i j = absurd i
one_site names (y ∷ ys) l v w a (inl e) (inl h) = sym (ap (λ (x : Site). x.1) e) ∙ ap (λ (x : Site). x.1) h
one_site names (y ∷ ys) l v w a (inl e) (inr j) =
    absurd (not_there (y.0 ∷ names) ys l w (subst (λ k. is_among k (y.0 ∷ names) ≡ true) (ap (λ (x : Site). x.0) e) (first_among y.0 names)) a.1 j)
one_site names (y ∷ ys) l v w a (inr i) (inl h) =
    absurd (not_there (y.0 ∷ names) ys l v (subst (λ k. is_among k (y.0 ∷ names) ≡ true) (ap (λ (x : Site). x.0) h) (first_among y.0 names)) a.1 i)
one_site names (y ∷ ys) l v w a (inr i) (inr j) = one_site (y.0 ∷ names) ys l v w a.1 i j

-- their names are those of the labels, in the order of the text
named_both : (xs ys : List Site) (ls ms : List (Place × ℕ)) → named xs ≡ labels ls → named ys ≡ labels ms → named (xs ++ ys) ≡ labels (ls ++ ms)
named_both xs ys ls ms e h =
    map-append (λ (x : Site). x.0) xs ys ∙ ap (λ l. l ++ named ys) e ∙ ap (λ l. labels ls ++ l) h ∙ sym (map-append (λ (l : Place × ℕ). l.1) ls ms)

mutual
  statement_named : (a : Statement) (s : Sight) → named (sites s a) ≡ labels (labels_within a)
  statement_named (Empty at) s = refl
  statement_named (Eval at e) s = refl
  statement_named (Block at items) s = items_named items (inner s)
  statement_named (If at e a b) s = named_both (sites s a) (sites_in_else s b) (labels_within a) (labels_in_else b) (statement_named a s) (else_named b s)
  statement_named (While at annots e a) s = statement_named a s
  statement_named (Do at a e) s = statement_named a s
  statement_named (For at annots first e step a) s = statement_named a (behind_first (inner s) first)
  statement_named (Break at) s = refl
  statement_named (Continue at) s = refl
  statement_named (Return at e) s = refl
  statement_named (Labelled at l a) s = ap (λ ns. l ∷ ns) (statement_named a s)
  statement_named (Switch at e cases) s = cases_named cases s

  cases_named : (cs : Cases) (s : Sight) → named (sites_in_cases s cs) ≡ labels (labels_in_cases cs)
  cases_named NoCase s = refl
  cases_named (AnotherCase at v items rest) s = named_both (sites_in_items s items) (sites_in_cases s rest) (labels_in_items items) (labels_in_cases rest) (items_named items s) (cases_named rest s)

  else_named : (b : ElsePart) (s : Sight) → named (sites_in_else s b) ≡ labels (labels_in_else b)
  else_named NoElse s = refl
  else_named (Else a) s = statement_named a s

  item_named : (i : BlockItem) (s : Sight) → named (sites_in_item s i) ≡ labels (labels_in_item i)
  item_named (Declare ds) s = refl
  item_named (Specify at t) s = refl
  item_named (Run a) s = statement_named a s
  item_named (Asserts annots) s = refl

  items_named : (is : BlockItems) (s : Sight) → named (sites_in_items s is) ≡ labels (labels_in_items is)
  items_named NoItem s = refl
  items_named (Then i rest) s = named_both (sites_in_item s i) (sites_in_items (behind s i) rest) (labels_in_item i) (labels_in_items rest) (item_named i s) (items_named rest (behind s i))

-- so a label of a body stands where one thing is in sight
pub one_place : (items : BlockItems) (s : Sight) → distinct_labels [] (labels_in_items items) ≡ Good tt → (l : ℕ) (v w : Sight) → StandsThere (sites_in_items s items) l v → StandsThere (sites_in_items s items) l w → v ≡ w
one_place items s distinct l v w i j =
    one_site [] (sites_in_items s items) l v w (subst (Apart []) (sym (items_named items s)) (labels_apart [] (labels_in_items items) distinct)) i j

pub each_stands : (items : BlockItems) (s : Sight) → ItemsSites (StandsThere (sites_in_items s items)) s items
each_stands items s = items_sites (sites_in_items s items) items s (λ x i. i)
