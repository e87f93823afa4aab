-- What a function keeps at its labels is in sight there and keeps its ranges, and what its asserts read is in sight where they stand (`KeptIn`), as its
-- annotations are typed.
use Rattle.std.proofs.Common.{◌≡◌, ◌⊎◌, inl, inr, ℕ, ◌+◌, Bool, true, false, cond, nat_eq, List, [], ◌∷◌, ◌++◌, Option, Some, None, refl, sym, ap, ◌∙◌, subst}
use Rattle.std.proofs.lemmas.Bool.{eqb-true}
use Rattle.c_syntax.specs.Statements.{Statement, Empty, Eval, Block, If, While, Do, For, Break, Continue, Return, Labelled, Switch, Cases, NoCase, AnotherCase, ElsePart, NoElse, Else}
use Rattle.c_syntax.specs.Statements.{ForFirst, NoFirst, First, BlockItem, Declare, Specify, Run, Asserts, BlockItems, NoItem, Then}
use Rattle.c_syntax.specs.Logic.{ClauseBody, Raw, Holds, Behaviors, Annotation}
use Rattle.c_syntax.specs.Logic as logic
use Rattle.c_model.specs.AnnotationSights.{AnnotationSight, InBody, beginning, marked, under_label}
use Rattle.c_model.specs.AnnotationTyping.{inside_block, inside_for, with_label, behind_labels, labels_behind, behind_noted, behind_case}
use Rattle.c_model.specs.EffectPlaces.{FirstPlaced, DeclareNothing, StatementPlaced, CasesPlaced, ElsePlaced, ItemPlaced, ItemsPlaced}
use Rattle.c_model.specs.ExpressionTyping.{Sight, inner}
use Rattle.c_model.specs.Formed.{IsShortClause}
use Rattle.c_model.specs.State.{Scope, same_label}
use Rattle.c_model.specs.StatementTyping.{behind, behind_first}
use Rattle.c_model.specs.TermRanges.{TermRanged}
use Rattle.c_model.specs.TypedAnnotations.{StatementNoted, CasesNoted, ElseNoted, ItemNoted, ItemsNoted}
use Rattle.c_model.specs.TypedPredicates.{IsBound, IsIntegerTerm, IsPointerTerm, TermTyped, ClauseTyped, AnnotationsTyped}
use Rattle.c_model.specs.Unranged.{ClauseRanged, AnnotationsRanged}
use Rattle.c_simulation.specs.Keeping.{Kept, registers_of}
use Rattle.interval_infer.specs.InSight.{AreFound}
use Rattle.annot_simulation.specs.Beside.{BindersSorted, NoNames, ResultSorted}
use Rattle.annot_simulation.specs.Does.{Planned, SideFound}
use Rattle.annot_simulation.specs.Plan.{Entry, IsIn, kept_from, in_annotations, in_cases, in_clause, in_else, in_first, in_item, in_items, in_statement}
use Rattle.annot_simulation.proofs.Beside.{terms_under_labels_are_found, typed_predicates_are_found, typed_terms_are_found}
use Rattle.annot_simulation.proofs.ShortEntries.{IsShortEntry, predicate_short, term_short}
use Rattle.annot_simulation.proofs.TypedEntries.{EntryStands, sight_of, predicate_stands, value_stands}
use Rattle.instrument.proofs.Passages.{ClauseFound, AnnotationsFound, AssertsKept, ItemsKept, KeptAt, LabelKept}
use Rattle.instrument.proofs.Throughout.{Throughout, ThroughoutCases, ThroughoutElse, ThroughoutItem, ThroughoutItems}
use Rattle.instrument.proofs.RangedTrees.{AreRangedAsserts, AreRangedClauses, AreShort, short_asserts, short_clauses}

-- ---- the labels of a body

-- each label of a statement stands where this is in sight
module _ (Stands : ℕ → Sight → Type 0) where
  abbrev mutual
    pub Sites : Sight → Statement → Type 0
    Sites s (Block at items) = ItemsSites (inner s) items
    Sites s (If at e a b) = Sites s a × ElseSites s b
    Sites s (While at annots e a) = Sites s a
    Sites s (Do at a e) = Sites s a
    Sites s (For at annots first e step a) = Sites (behind_first (inner s) first) a
    Sites s (Labelled at l a) = Stands l s × Sites s a
    Sites s (Switch at e cases) = CasesSites s cases
    Sites s _ = Unit {0}

    pub CasesSites : Sight → Cases → Type 0
    CasesSites s NoCase = Unit {0}
    CasesSites s (AnotherCase at v items rest) = ItemsSites s items × CasesSites s rest

    pub ElseSites : Sight → ElsePart → Type 0
    ElseSites s NoElse = Unit {0}
    ElseSites s (Else a) = Sites s a

    pub ItemSites : Sight → BlockItem → Type 0
    ItemSites s (Run a) = Sites s a
    ItemSites s _ = Unit {0}

    pub ItemsSites : Sight → BlockItems → Type 0
    ItemsSites s NoItem = Unit {0}
    ItemsSites s (Then i rest) = ItemSites s i × ItemsSites (behind s i) rest

  -- ---- terms at labels

  -- this is in sight at the label, or where the body begins
  abbrev pub Where : Sight → Option ℕ → Sight → Type 0
  Where root None v = v ≡ root
  Where root (Some l) v = Stands l v

  -- the term of an entry is typed at its label, and keeps its ranges there
  pub record EntryAt (root : Sight) (x : Entry) : Type 0 where
    pub view : AnnotationSight
    pub sight : Sight
    pub there : Where root x.0 sight
    pub typed : TermTyped (under_label view sight) x.1
    pub side : IsIntegerTerm x.1 ⊎ IsPointerTerm x.1
    pub ranged : TermRanged [] x.1
    pub short : IsShortEntry x

  module _ (root : Sight) where
    -- labels that are known stand where they say, in a body that begins where this is in sight
    pub record Known (view : AnnotationSight) : Type 0 where
      pub body : view.clause ≡ InBody root
      pub binders : view.binders ≡ []
      pub labels : (l : ℕ) (v : Sight) → marked l view.labels ≡ Some v → Stands l v

    abbrev pub AllAt : List Entry → Type 0
    AllAt xs = (x : Entry) → IsIn x xs → EntryAt root x

    none : AllAt []
    none x i = absurd i

    both : (xs ys : List Entry) → AllAt xs → AllAt ys → AllAt (xs ++ ys)
    both [] ys f g x i = g x i
    both (y ∷ xs) ys f g x (inl e) = f x (inl e)
    both (y ∷ xs) ys f g x (inr i) = both xs ys (λ x i. f x (inr i)) g x i

    entry_at : (view : AnnotationSight) → Known view → (x : Entry) → EntryStands view [] x → IsShortEntry x → EntryAt root x
    entry_at view k x e short = record { view = view; sight = e.sight; there = by x.0 e.there; typed = e.typed; side = e.side; ranged = e.ranged; short = short }
      where
        by : (o : Option ℕ) → sight_of view o ≡ Some e.sight → Where root o e.sight
        by None h = let first : Some root ≡ Some e.sight = sym (ap (beginning view.here) k.body) ∙ h in cc
        by (Some l) h = k.labels l e.sight h

    clause_at : (view : AnnotationSight) → Known view → (c : ClauseBody) → ClauseTyped view c → ClauseRanged [] c → IsShortClause c → AllAt (in_clause c)
    clause_at view k (Raw f) q r short = absurd q
    clause_at view k (Holds p) q r short = λ x i. entry_at view k x (predicate_stands view [] p q r x i) (predicate_short p short.numbered short.short x i)
    clause_at view k (logic.Value t) q r short = λ x i. entry_at view k x (value_stands view [] t q.0 q.1 r x i) (term_short t short.0 short.1 x i)
    clause_at view k (Behaviors names) q r short = absurd q

    annotations_at : (view : AnnotationSight) → Known view → (annots : List Annotation) → AnnotationsTyped view annots → AnnotationsRanged [] annots → AreShort annots → AllAt (in_annotations annots)
    annotations_at view k [] q r are = none
    annotations_at view k (a ∷ rest) q r are = both (in_clause a.body) (in_annotations rest) (clause_at view k a.body q.0 r.0 are.0) (annotations_at view k rest q.1 r.1 are.1)

    -- behind labels
    labelled : (view : AnnotationSight) (l : ℕ) → Known view → Stands l view.here → Known (with_label view l)
    labelled view l k st = record { body = k.body; binders = k.binders; labels = λ m v e. by m v (nat_eq l m) refl e }
      where
        by : (m : ℕ) (v : Sight) (t : Bool) → nat_eq l m ≡ t → cond t (Some view.here) (marked m view.labels) ≡ Some v → Stands m v
        by m v true same e = let there : view.here ≡ v = cc in subst (λ m. Stands m v) (eqb-true l m same) (subst (Stands l) there st)
        by m v false same e = k.labels m v e

    behind_known : (a : Statement) (view : AnnotationSight) → Known view → Sites view.here a → Known (behind_labels view a)
    behind_known (Labelled at l a) view k st = behind_known a (with_label view l) (labelled view l k st.0) st.1
    behind_known _ view k st = k

    item_known : (i : BlockItem) (view : AnnotationSight) → Known view → ItemSites view.here i → Known (labels_behind view i)
    item_known (Declare ds) view k st = k
    item_known (Specify at t) view k st = k
    item_known (Run a) view k st = behind_known a view k st
    item_known (Asserts annots) view k st = k

    elsewhere : (view : AnnotationSight) (s : Sight) → Known view → Known (record view { here = s })
    elsewhere view s k = record { body = k.body; binders = k.binders; labels = k.labels }

    -- labels change nothing of what is in sight
    labels_here : (a : Statement) (view : AnnotationSight) → (behind_labels view a).here ≡ view.here
    labels_here (Labelled at l a) view = labels_here a (with_label view l)
    labels_here _ view = refl

    -- behind the items of a case
    record BehindCase (view later : AnnotationSight) : Type 0 where
      known : Known later
      here : later.here ≡ view.here

    behind_items : (items : BlockItems) (view : AnnotationSight) → DeclareNothing items → Known view → ItemsSites view.here items → BehindCase view (behind_case view items)
    behind_items NoItem view d k st = record { known = k; here = refl }
    behind_items (Then (Declare ds) rest) view d k st = absurd d.0
    behind_items (Then (Specify at t) rest) view d k st = absurd d.0
    behind_items (Then (Run a) rest) view d k st =
        let same = labels_here a view in
        let later = behind_items rest (behind_labels view a) d.1 (behind_known a view k st.0) (subst (λ s. ItemsSites s rest) (sym same) st.1) in
        record { known = later.known; here = later.here ∙ same }
    behind_items (Then (Asserts annots) rest) view d k st = behind_items rest view d.1 k st.1

    first_at : (first : ForFirst) → FirstPlaced first → AllAt (in_first first)
    first_at NoFirst p = none
    first_at (First (Declare ds)) p = none
    first_at (First (Specify at t)) p = none
    first_at (First (Run (Eval at e))) p = none
    first_at (First (Run (Empty at))) p = absurd p
    first_at (First (Run (Block at items))) p = absurd p
    first_at (First (Run (If at e a b))) p = absurd p
    first_at (First (Run (While at annots e a))) p = absurd p
    first_at (First (Run (Do at a e))) p = absurd p
    first_at (First (Run (For at annots first e step a))) p = absurd p
    first_at (First (Run (Break at))) p = absurd p
    first_at (First (Run (Continue at))) p = absurd p
    first_at (First (Run (Return at e))) p = absurd p
    first_at (First (Run (Labelled at l a))) p = absurd p
    first_at (First (Run (Switch at e cases))) p = absurd p
    first_at (First (Asserts annots)) p = absurd p

    mutual
      statement_at : (a : Statement) (view : AnnotationSight) → Known view → StatementNoted view a → StatementPlaced AreRangedAsserts AreRangedClauses a → Sites view.here a → AllAt (in_statement a)
      statement_at (Empty at) view k m p st = none
      statement_at (Eval at e) view k m p st = none
      statement_at (Block at items) view k m p st = items_at items (inside_block view) (elsewhere view (inner view.here) k) m p st
      statement_at (If at e a b) view k m p st = both (in_statement a) (in_else b) (statement_at a view k m.0 p.0 st.0) (else_at b view k m.1 p.1 st.1)
      statement_at (While at annots e a) view k m p st = both (in_annotations annots) (in_statement a) (annotations_at view k annots m.0 p.0.ranged (short_clauses annots p.0.are)) (statement_at a view k m.1 p.1 st)
      statement_at (Do at a e) view k m p st = statement_at a view k m p st
      statement_at (For at annots first e step a) view k m p st =
          both (in_annotations annots) (in_first first ++ in_statement a)
          (annotations_at (inside_for view first) (elsewhere view (behind_first (inner view.here) first) k) annots m.0 p.0.ranged (short_clauses annots p.0.are))
          (both (in_first first) (in_statement a) (first_at first p.1) (statement_at a (inside_for view first) (elsewhere view (behind_first (inner view.here) first) k) m.1 p.2 st))
      statement_at (Break at) view k m p st = none
      statement_at (Continue at) view k m p st = none
      statement_at (Return at e) view k m p st = none
      statement_at (Labelled at l a) view k m p st = statement_at a (with_label view l) (labelled view l k st.0) m p st.1
      statement_at (Switch at e cases) view k m p st = cases_at cases view k m p st

      cases_at : (cs : Cases) (view : AnnotationSight) → Known view → CasesNoted view cs → CasesPlaced AreRangedAsserts AreRangedClauses cs → CasesSites view.here cs → AllAt (in_cases cs)
      cases_at NoCase view k m p st = none
      cases_at (AnotherCase at v items rest) view k m p st =
          let later = behind_items items view p.0 k st.0 in
          both (in_items items) (in_cases rest) (items_at items view k m.0 p.1 st.0) (cases_at rest (behind_case view items) later.known m.1 p.2 (subst (λ s. CasesSites s rest) (sym later.here) st.1))

      else_at : (b : ElsePart) (view : AnnotationSight) → Known view → ElseNoted view b → ElsePlaced AreRangedAsserts AreRangedClauses b → ElseSites view.here b → AllAt (in_else b)
      else_at NoElse view k m p st = none
      else_at (Else a) view k m p st = statement_at a view k m p st

      item_at : (i : BlockItem) (view : AnnotationSight) → Known view → ItemNoted view i → ItemPlaced AreRangedAsserts AreRangedClauses i → ItemSites view.here i → AllAt (in_item i)
      item_at (Declare ds) view k m p st = none
      item_at (Specify at t) view k m p st = none
      item_at (Run a) view k m p st = statement_at a view k m p st
      item_at (Asserts annots) view k m p st = annotations_at view k annots m p.ranged (short_asserts annots p.are)

      pub items_at : (is : BlockItems) (view : AnnotationSight) → Known view → ItemsNoted view is → ItemsPlaced AreRangedAsserts AreRangedClauses is → ItemsSites view.here is → AllAt (in_items is)
      items_at NoItem view k m p st = none
      items_at (Then i rest) view k m p st =
          both (in_item i) (in_items rest) (item_at i view k m.0 p.0 st.0) (items_at rest (behind_noted view i) (elsewhere (labels_behind view i) (behind view.here i) (item_known i view k st.0)) m.1 p.1 st.1)

    -- ---- what is so at labels and at asserts

    module _ (ks : List Kept) where
      abbrev pub AllPlanned : List Entry → Type 0
      AllPlanned xs = (x : Entry) → IsIn x xs → Planned ks x.0 x.1

      front : (xs ys : List Entry) → AllPlanned (xs ++ ys) → AllPlanned xs
      front [] ys h x i = absurd i
      front (y ∷ xs) ys h x (inl e) = h x (inl e)
      front (y ∷ xs) ys h x (inr i) = front xs ys (λ x i. h x (inr i)) x i

      back : (xs ys : List Entry) → AllPlanned (xs ++ ys) → AllPlanned ys
      back [] ys h = h
      back (y ∷ xs) ys h = back xs ys (λ x i. h x (inr i))

      module _ (AtLabel : ℕ → Sight → Type 0) (AtAsserts : Sight → List Annotation → Type 0) (labels : (l : ℕ) (v : Sight) → Stands l v → AtLabel l v)
          (asserts : (view : AnnotationSight) → Known view → (annots : List Annotation) → AnnotationsTyped view annots → AllPlanned (in_annotations annots) → AtAsserts view.here annots) where
        mutual
          statement_so : (a : Statement) (view : AnnotationSight) → Known view → StatementNoted view a → StatementPlaced AreRangedAsserts AreRangedClauses a → Sites view.here a → AllPlanned (in_statement a) → Throughout AtLabel AtAsserts view.here a
          statement_so (Empty at) view k m p st h = tt
          statement_so (Eval at e) view k m p st h = tt
          statement_so (Block at items) view k m p st h = items_so items (inside_block view) (elsewhere view (inner view.here) k) m p st h
          statement_so (If at e a b) view k m p st h =
              (statement_so a view k m.0 p.0 st.0 (front (in_statement a) (in_else b) h), else_so b view k m.1 p.1 st.1 (back (in_statement a) (in_else b) h))
          statement_so (While at annots e a) view k m p st h =
              (asserts view k annots m.0 (front (in_annotations annots) (in_statement a) h), statement_so a view k m.1 p.1 st (back (in_annotations annots) (in_statement a) h))
          statement_so (Do at a e) view k m p st h = statement_so a view k m p st h
          statement_so (For at annots first e step a) view k m p st h =
              let there = inside_for view first in
              let known = elsewhere view (behind_first (inner view.here) first) k in (
                asserts there known annots m.0 (front (in_annotations annots) (in_first first ++ in_statement a) h),
                statement_so a there known m.1 p.2 st (back (in_first first) (in_statement a) (back (in_annotations annots) (in_first first ++ in_statement a) h)),
              )
          statement_so (Break at) view k m p st h = tt
          statement_so (Continue at) view k m p st h = tt
          statement_so (Return at e) view k m p st h = tt
          statement_so (Labelled at l a) view k m p st h = (labels l view.here st.0, statement_so a (with_label view l) (labelled view l k st.0) m p st.1 h)
          statement_so (Switch at e cases) view k m p st h = cases_so cases view k m p st h

          cases_so : (cs : Cases) (view : AnnotationSight) → Known view → CasesNoted view cs → CasesPlaced AreRangedAsserts AreRangedClauses cs → CasesSites view.here cs → AllPlanned (in_cases cs) → ThroughoutCases AtLabel AtAsserts view.here cs
          cases_so NoCase view k m p st h = tt
          cases_so (AnotherCase at v items rest) view k m p st h =
              let later = behind_items items view p.0 k st.0 in (
                items_so items view k m.0 p.1 st.0 (front (in_items items) (in_cases rest) h),
                subst (λ s. ThroughoutCases AtLabel AtAsserts s rest) later.here
                    (cases_so rest (behind_case view items) later.known m.1 p.2 (subst (λ s. CasesSites s rest) (sym later.here) st.1) (back (in_items items) (in_cases rest) h)),
              )

          else_so : (b : ElsePart) (view : AnnotationSight) → Known view → ElseNoted view b → ElsePlaced AreRangedAsserts AreRangedClauses b → ElseSites view.here b → AllPlanned (in_else b) → ThroughoutElse AtLabel AtAsserts view.here b
          else_so NoElse view k m p st h = tt
          else_so (Else a) view k m p st h = statement_so a view k m p st h

          item_so : (i : BlockItem) (view : AnnotationSight) → Known view → ItemNoted view i → ItemPlaced AreRangedAsserts AreRangedClauses i → ItemSites view.here i → AllPlanned (in_item i) → ThroughoutItem AtLabel AtAsserts view.here i
          item_so (Declare ds) view k m p st h = tt
          item_so (Specify at t) view k m p st h = tt
          item_so (Run a) view k m p st h = statement_so a view k m p st h
          item_so (Asserts annots) view k m p st h = asserts view k annots m h

          pub items_so : (is : BlockItems) (view : AnnotationSight) → Known view → ItemsNoted view is → ItemsPlaced AreRangedAsserts AreRangedClauses is → ItemsSites view.here is → AllPlanned (in_items is)
              → ThroughoutItems AtLabel AtAsserts view.here is
          items_so NoItem view k m p st h = tt
          items_so (Then i rest) view k m p st h = (
            item_so i view k m.0 p.0 st.0 (front (in_item i) (in_items rest) h),
            items_so rest (behind_noted view i) (elsewhere (labels_behind view i) (behind view.here i) (item_known i view k st.0)) m.1 p.1 st.1 (back (in_item i) (in_items rest) h),
          )

      -- ---- what asserts read

      unbound : (view : AnnotationSight) → Known view → BindersSorted view.binders []
      unbound view k = λ x i. absurd (subst (λ bs. IsBound bs x) k.binders i)

      clause_found : (view : AnnotationSight) → Known view → (scope : Scope) → AreFound view.here.entities scope → (c : ClauseBody) → ClauseTyped view c → AllPlanned (in_clause c) → ClauseFound ks scope c
      clause_found view k scope found (Raw f) q h = absurd q
      clause_found view k scope found (Holds p) q h =
          let sorted : ResultSorted view.clause [] = subst (λ c. ResultSorted c []) (sym k.body) tt in
          typed_predicates_are_found view scope ks [] found sorted (unbound view k) p (inl (subst NoNames (sym k.body) (λ t x i. i))) h q
      clause_found view k scope found (logic.Value t) q h =
          let sorted : ResultSorted view.clause [] = subst (λ c. ResultSorted c []) (sym k.body) tt in
          typed_terms_are_found view scope ks [] found sorted (unbound view k) t h q.0 q.1
      clause_found view k scope found (Behaviors names) q h = absurd q

      annotations_found : (view : AnnotationSight) → Known view → (scope : Scope) → AreFound view.here.entities scope → (annots : List Annotation) → AnnotationsTyped view annots → AllPlanned (in_annotations annots)
          → AnnotationsFound ks scope annots
      annotations_found view k scope found [] q h = tt
      annotations_found view k scope found (a ∷ rest) q h =
          (clause_found view k scope found a.body q.0 (front (in_clause a.body) (in_annotations rest) h), annotations_found view k scope found rest q.1 (back (in_clause a.body) (in_annotations rest) h))

      pub items_kept : ((l : ℕ) (v : Sight) → Stands l v → LabelKept ks l v) → (is : BlockItems) (view : AnnotationSight) → Known view → ItemsNoted view is → ItemsPlaced AreRangedAsserts AreRangedClauses is → ItemsSites view.here is
          → AllPlanned (in_items is)
          → ItemsKept ks view.here is
      items_kept labels is view k m p st h = items_so (LabelKept ks) (AssertsKept ks) labels (λ view k annots q planned scope found. annotations_found view k scope found annots q planned) is view k m p st h

-- ---- a plan

-- a term at a label is found where what is in sight there has blocks
pub entry_kept : (Stands : ℕ → Sight → Type 0) (root : Sight) (x : Entry) (e : EntryAt Stands root x) (scope : Scope) → AreFound e.sight.entities scope → SideFound [] scope [] x.1
entry_kept Stands root x e scope found = terms_under_labels_are_found e.view e.sight scope found x.1 e.typed e.side

pub kept_of : (n : ℕ) (xs : List Entry) (There : Scope → Type 0) (l : Option ℕ)
    → ((x : Entry) → IsIn x xs → same_label x.0 l ≡ true → TermRanged [] x.1 × ((scope : Scope) → There scope → SideFound [] scope [] x.1)) → KeptAt (kept_from n xs) There l
kept_of n [] There l h = tt
kept_of n (x ∷ xs) There l h = (λ e. h x (inl refl) e, kept_of (n + registers_of x.1) xs There l (λ y i e. h y (inr i) e))
