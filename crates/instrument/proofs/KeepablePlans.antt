-- The terms that a function keeps at its labels can be written there, and so can its asserts, as its annotations are typed (`IsPlanned`).
use Rattle.std.proofs.Common.{◌≡◌, ◌⊎◌, inl, inr, ℕ, ◌+◌, ◌≤◌, true, List, [], ◌∷◌, ◌++◌, Option, Some, None, refl, sym, ap, ◌∙◌, subst}
use Rattle.c_syntax.specs.declared.annotation.Kind.{Kind}
use Rattle.c_syntax.specs.declared.place.Place.{Place}
use Rattle.c_syntax.specs.Logic.{ClauseBody, Raw, Holds, Behaviors, Annotation}
use Rattle.c_syntax.specs.Logic as logic
use Rattle.c_syntax.specs.Statements.{Block, BlockItems}
use Rattle.c_syntax.specs.Programs.{NamedBehavior, FunctionContract, Function, TranslationUnit}
use Rattle.c_model.specs.AnnotationRanges.{seen_result}
use Rattle.c_model.specs.AnnotationSights.{AnnotationSight, under_label}
use Rattle.c_model.specs.AnnotationTyping.{in_body, numbers_of_parameters}
use Rattle.c_model.specs.Checked.{Good}
use Rattle.c_model.specs.ContractTyping.{sight_of_clause}
use Rattle.c_model.specs.EffectPlaces.{ItemsPlaced}
use Rattle.c_model.specs.ExpressionTyping.{AnObject, Sight, entity_named, inner}
use Rattle.c_model.specs.Formed.{IsShortClause, tokens_of_term}
use Rattle.c_model.specs.FormedContracts.{AreClausesOf, BehaviorsFormed, ContractFormed, IsBehaviorKind, MaybeFormed}
use Rattle.c_model.specs.State.{same_label}
use Rattle.c_model.specs.StatementTyping.{distinct_labels, labels_in_items, typed_labels}
use Rattle.c_model.specs.TermRanges.{Seen}
use Rattle.c_model.specs.TypedAnnotations.{BehaviorsTyped, ClausesTyped, ContractStands, ItemsNoted}
use Rattle.c_model.specs.TypedPredicates.{ClauseTyped}
use Rattle.c_model.specs.Unranged.{AnnotationsRanged, ClauseRanged}
use Rattle.c_model.specs.UnitTyping.{with_parameters}
use Rattle.c_model.specs.UnrangedPrograms.{BehaviorsRanged, ContractRanged}
use Rattle.c_simulation.specs.Keeping.{registers_of}
use Rattle.annot_simulation.specs.Plan.{Entry, IsIn, in_annotations, in_behaviors, in_clause, in_contract, in_items, kept_from, planned}
use Rattle.annot_simulation.specs.Plan as plan
use Rattle.annot_simulation.proofs.ShortEntries.{IsShortEntry, predicate_short, term_short}
use Rattle.annot_simulation.proofs.SnapshotDepths.{AreShort}
use Rattle.annot_simulation.specs.Beside.{NoNames}
use Rattle.annot_simulation.proofs.TypedEntries.{EntryStands, predicate_stands, term_alone, value_stands}
use Rattle.instrument.specs.Translation.{first_own, plan_of}
use Rattle.instrument.proofs.Annotated.{IsAnnotated}
use Rattle.instrument.proofs.ContractTerms.{of_kind}
use Rattle.instrument.proofs.Keepable.{AssertsWritable, AtStart, IsKeepable, IsPlanned, KeepableAt, LabelKeepable, OwnSight}
use Rattle.instrument.proofs.KeptFunctions.{entry_planned, in_back, in_either, in_front, same_is}
use Rattle.instrument.proofs.KeptTerms.{EntryAt, ItemsSites, Known, Where, items_at, items_so}
use Rattle.instrument.proofs.LabelSites.{Site, StandsThere, each_stands, one_place, sites_in_items}
use Rattle.instrument.proofs.RangedTrees.{AreRangedAsserts, AreRangedClauses}

-- ---- plans

keepable_of : (n : ℕ) (xs : List Entry) (There : Sight → Type 0) (l : Option ℕ) → ((x : Entry) → IsIn x xs → same_label x.0 l ≡ true → (e : IsKeepable x.1) × There e.sight) → KeepableAt (kept_from n xs) There l
keepable_of n [] There l h = tt
keepable_of n (x ∷ xs) There l h = (λ e. h x (inl refl) e, keepable_of (n + registers_of x.1) xs There l (λ y i e. h y (inr i) e))

short_of : (n : ℕ) (xs : List Entry) → ((x : Entry) → IsIn x xs → tokens_of_term x.1 ≤ 400) → AreShort (kept_from n xs)
short_of n [] h = tt
short_of n (x ∷ xs) h = (h x (inl refl), short_of (n + registers_of x.1) xs (λ y i. h y (inr i)))

-- ---- contracts

module _ (p : TranslationUnit) (f : Function) where
  -- a term at a label of a contract is one of the beginning, and sees what the contract sees
  abbrev IsOfContract : Entry → Type 0
  IsOfContract x = (x.0 ≡ None) × (e : IsKeepable x.1) × OwnSight p f e.sight

  module _ (c : FunctionContract) (stands : ContractStands p f c) (seen : Seen) where
    abbrev views : Kind → AnnotationSight
    views = sight_of_clause stands.seen (numbers_of_parameters f.params) f.result

    entry_of : (k : Kind) (x : Entry) → EntryStands (views k) seen x → IsShortEntry x → IsOfContract x
    entry_of k x e short =
        let is = of_kind p f c stands k x.0 e.sight e.there in (
          is.0,
          record {
            view = views k;
            sight = e.sight;
            typed = e.typed;
            side = e.side;
            ranged = term_alone seen (under_label (views k) e.sight) (λ t x i. i) (λ x i. i) x.1 e.typed e.ranged;
            numbered = short.numbered;
            few = short.few;
          },
          λ y b g. stands.owned y b (subst (λ (v : Sight). entity_named y v.entities ≡ Some (AnObject b)) is.1 g),
        )

    either : (xs ys : List Entry) (x : Entry) → IsIn x (xs ++ ys) → (IsIn x xs → IsOfContract x) → (IsIn x ys → IsOfContract x) → IsOfContract x
    either xs ys x i f g = by (in_either xs ys x i)
      where
        by : IsIn x xs ⊎ IsIn x ys → IsOfContract x
        by (inl j) = f j
        by (inr j) = g j

    clause_of : (k : Kind) (b : ClauseBody) → ClauseTyped (views k) b → ClauseRanged seen b → IsShortClause b → (x : Entry) → IsIn x (in_clause b) → IsOfContract x
    clause_of k (Raw g) q r short x i = absurd q
    clause_of k (Holds b) q r short x i = entry_of k x (predicate_stands (views k) seen b q r x i) (predicate_short b short.numbered short.short x i)
    clause_of k (logic.Value t) q r short x i = entry_of k x (value_stands (views k) seen t q.0 q.1 r x i) (term_short t short.0 short.1 x i)
    clause_of k (Behaviors names) q r short x i = absurd q

    clauses_of : (IsKind : Kind → Type 0) (annots : List Annotation) → ClausesTyped views annots → AnnotationsRanged seen annots → AreClausesOf IsKind IsShortClause annots → (x : Entry) → IsIn x (in_annotations annots) → IsOfContract x
    clauses_of IsKind [] q r short x i = absurd i
    clauses_of IsKind (a ∷ rest) q r short x i =
        either (in_clause a.body) (in_annotations rest) x i (λ j. clause_of a.kind a.body q.0 r.0 short.0.body x j) (λ j. clauses_of IsKind rest q.2 r.1 short.1 x j)

    behaviors_of : (bs : List NamedBehavior) → BehaviorsTyped views bs → BehaviorsRanged seen bs → BehaviorsFormed IsShortClause bs → (x : Entry) → IsIn x (in_behaviors bs) → IsOfContract x
    behaviors_of [] q r short x i = absurd i
    behaviors_of (b ∷ bs) q r short x i =
        either (in_annotations b.clauses) (in_behaviors bs) x i (λ j. clauses_of IsBehaviorKind b.clauses q.0 r.0 short.0 x j) (λ j. behaviors_of bs q.1 r.1 short.1 x j)

  of_contract : IsAnnotated p f → (o : Option FunctionContract) → f.contract ≡ o → (x : Entry) → IsIn x (in_contract o) → IsOfContract x
  of_contract a None e x i = absurd i
  of_contract a (Some c) e x i =
      let stands = a.contract c e in
      let ranged : ContractRanged (seen_result f.result) (Some c) = subst (ContractRanged (seen_result f.result)) e a.ranged in
      let formed : ContractFormed IsShortClause c = subst (MaybeFormed IsShortClause) e a.formed in
      either c stands (seen_result f.result) (in_annotations c.clauses) (in_behaviors c.behaviors) x i (λ j. clauses_of c stands (seen_result f.result) _ c.clauses stands.typed.clauses ranged.0 formed.clauses x j)
      (λ j. behaviors_of c stands (seen_result f.result) c.behaviors stands.typed.behaviors ranged.1 formed.behaviors x j)

  -- ---- a function

  module _ (sight : Sight) (place : Place) (items : BlockItems) (is : f.body ≡ Some (Block place items)) (noted : ItemsNoted (in_body (with_parameters (inner sight) f.params)) items)
      (placed : ItemsPlaced AreRangedAsserts AreRangedClauses items) (distinct : typed_labels f.body ≡ Good tt) (a : IsAnnotated p f) where
    abbrev root : Sight
    root = with_parameters (inner sight) f.params

    abbrev all : List Site
    all = sites_in_items root items

    abbrev Stands : ℕ → Sight → Type 0
    Stands = StandsThere all

    labels_distinct : distinct_labels [] (labels_in_items items) ≡ Good tt
    labels_distinct = subst (λ o. typed_labels o ≡ Good tt) is distinct

    sites : ItemsSites Stands root items
    sites = each_stands items root

    known : Known Stands root (in_body root)
    known = record { body = refl; binders = refl; labels = λ l v e. absurd cc }

    body_is : plan.in_body f.body ≡ in_items items
    body_is = ap plan.in_body is

    of_body : (x : Entry) → IsIn x (plan.in_body f.body) → EntryAt Stands root x
    of_body x i = items_at Stands root items (in_body root) known noted placed sites x (subst (IsIn x) body_is i)

    abbrev keepable : (x : Entry) (e : EntryAt Stands root x) → IsKeepable x.1
    keepable x e = record { view = e.view; sight = e.sight; typed = e.typed; side = e.side; ranged = e.ranged; numbered = e.short.numbered; few = e.short.few }

    contract_or_body : (P : Entry → Type 0) (x : Entry) → IsIn x (planned f) → (IsOfContract x → P x) → (EntryAt Stands root x → P x) → P x
    contract_or_body P x i g h = by (in_either (in_contract f.contract) (plan.in_body f.body) x i)
      where
        by : IsIn x (in_contract f.contract) ⊎ IsIn x (plan.in_body f.body) → P x
        by (inl j) = g (of_contract a f.contract refl x j)
        by (inr j) = h (of_body x j)

    at_beginning : (x : Entry) → IsIn x (planned f) → same_label x.0 None ≡ true → (e : IsKeepable x.1) × AtStart p f root e.sight
    at_beginning x i same =
        contract_or_body (λ x. same_label x.0 None ≡ true → (e : IsKeepable x.1) × AtStart p f root e.sight) x i (λ e same. (e.1, inr e.2))
        (λ e same. (keepable x e, inl (subst (λ l. Where Stands root l e.sight) (same_is x.0 None same) e.there))) same

    at_label : (l : ℕ) (v : Sight) → Stands l v → (x : Entry) → IsIn x (planned f) → same_label x.0 (Some l) ≡ true → (e : IsKeepable x.1) × (e.sight ≡ v)
    at_label l v there x i same =
        contract_or_body (λ x. same_label x.0 (Some l) ≡ true → (e : IsKeepable x.1) × (e.sight ≡ v)) x i (λ e same. let none : None ≡ Some l = sym e.0 ∙ same_is x.0 (Some l) same in absurd cc)
        (λ e same. (keepable x e, one_place items root labels_distinct l e.sight v (subst (λ l. Where Stands root l e.sight) (same_is x.0 (Some l) same) e.there) there)) same

    few : (x : Entry) → IsIn x (planned f) → tokens_of_term x.1 ≤ 400
    few x i = contract_or_body (λ x. tokens_of_term x.1 ≤ 400) x i (λ e. e.1.few) (λ e. e.short.few)

    pub is_planned : IsPlanned p f root items
    is_planned =
        let ks = plan_of f in
        record {
          begins = keepable_of (first_own f) (planned f) (AtStart p f root) None at_beginning;
          body = items_so Stands root ks (LabelKeepable ks) (AssertsWritable ks) (λ l v st. keepable_of (first_own f) (planned f) (λ s. s ≡ v) (Some l) (at_label l v st))
              (λ view k annots q all_planned. record { view = view; here = refl; alone = subst NoNames (sym k.body) (λ t x i. i); unbound = k.binders; typed = q; planned = all_planned }) items (in_body root) known noted placed sites
              (λ x i. entry_planned (first_own f) (planned f) a.apart x (in_back (in_contract f.contract) (plan.in_body f.body) x (subst (IsIn x) (sym body_is) i)));
          short = short_of (first_own f) (planned f) few;
          contract = λ x i. entry_planned (first_own f) (planned f) a.apart x (in_front (in_contract f.contract) (plan.in_body f.body) x i);
        }
