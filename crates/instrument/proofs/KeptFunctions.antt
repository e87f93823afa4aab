-- What a function keeps at its labels is in sight there, where labels and the places of terms tell apart what they name (`FunctionStands`).
use Rattle.std.proofs.Common.{◌≡◌, ◌⊎◌, inl, inr, ℕ, true, List, [], ◌∷◌, ◌++◌, Option, Some, None, refl, sym, ap, subst}
use Rattle.std.proofs.lemmas.Bool.{eqb-true}
use Rattle.c_syntax.specs.Programs.{Function, TranslationUnit}
use Rattle.c_model.specs.AnnotationTyping.{in_body}
use Rattle.c_model.specs.Checked.{Good}
use Rattle.c_model.specs.ExpressionTyping.{Sight, inner}
use Rattle.c_model.specs.StatementTyping.{distinct_labels, labels_in_items, typed_labels}
use Rattle.c_model.specs.State.{Scope, same_label}
use Rattle.c_model.specs.TermRanges.{TermRanged}
use Rattle.c_model.specs.UnitTyping.{with_parameters}
use Rattle.interval_infer.specs.InSight.{AreFound}
use Rattle.annot_simulation.specs.Does.{Planned, SideFound}
use Rattle.annot_simulation.specs.Plan.{Entry, IsIn, in_contract, in_items, kept_from, offset_of, planned}
use Rattle.annot_simulation.specs.Plan as plan
use Rattle.annot_simulation.proofs.Plans.{entries_are_found}
use Rattle.instrument.specs.Translation.{first_own, plan_of}
use Rattle.instrument.proofs.Bodies.{HasBody}
use Rattle.instrument.proofs.KeptTerms.{ItemsSites, Where, EntryAt, Known, items_at, items_kept, entry_kept, kept_of}
use Rattle.instrument.proofs.CheckedFunctions.{AtBeginning}
use Rattle.instrument.proofs.LabelSites.{Site, StandsThere, each_stands, one_place, sites_in_items}
use Rattle.instrument.proofs.Passages.{ItemsKept, KeptAt}
use Rattle.instrument.proofs.Programs.{Part}
use Rattle.instrument.proofs.Births.{with_numbers}
use Rattle.instrument.proofs.Numbers.{numbers_in}
use Rattle.instrument.proofs.Sight.{scope_for, sees_born, sees_found, declared_born}
use Rattle.interval_infer.proofs.Sights.{found_parameters}

pub same_is : (a b : Option ℕ) → same_label a b ≡ true → a ≡ b
same_is None None e = refl
same_is None (Some y) e = absurd cc
same_is (Some x) None e = absurd cc
same_is (Some x) (Some y) e = ap Some (eqb-true x y e)

pub in_front : (xs ys : List Entry) (x : Entry) → IsIn x xs → IsIn x (xs ++ ys)
in_front [] ys x i = absurd i
in_front (y ∷ xs) ys x (inl e) = inl e
in_front (y ∷ xs) ys x (inr i) = inr (in_front xs ys x i)

pub in_back : (xs ys : List Entry) (x : Entry) → IsIn x ys → IsIn x (xs ++ ys)
in_back [] ys x i = i
in_back (y ∷ xs) ys x i = inr (in_back xs ys x i)

pub in_either : (xs ys : List Entry) (x : Entry) → IsIn x (xs ++ ys) → IsIn x xs ⊎ IsIn x ys
in_either [] ys x i = inr i
in_either (y ∷ xs) ys x (inl e) = inl (inl e)
in_either (y ∷ xs) ys x (inr i) = by (in_either xs ys x i)
  where
    by : IsIn x xs ⊎ IsIn x ys → IsIn x (y ∷ xs) ⊎ IsIn x ys
    by (inl j) = inl (inr j)
    by (inr j) = inr j

-- each entry is in the plan, where no other one has its place
pub entry_planned : (n : ℕ) (xs : List Entry) → ((x y : Entry) → IsIn x xs → IsIn y xs → offset_of y ≡ offset_of x → y ≡ x) → (x : Entry) → IsIn x xs → Planned (kept_from n xs) x.0 x.1
entry_planned n xs apart x i =
    let found = entries_are_found n xs x i (λ y j e. apart x y i j e) in
    record { entry = found.0; is = found.1; label_is = found.2; term_is = found.3 }

-- a term is ranged, and what it reads is found in scopes that are so
abbrev pub IsSeen : (Scope → Type 0) → Entry → Type 0
IsSeen There x = TermRanged [] x.1 × ((scope : Scope) → There scope → SideFound [] scope [] x.1)

module _ (p : TranslationUnit) (f : Function) (part : Part p f) (body : HasBody p f part) where
  abbrev root : Sight
  root = with_parameters (inner part.sight) f.params

  -- what is in sight where the body begins is found there
  root_found : (scope : Scope) → AtBeginning p f scope → AreFound root.entities scope
  root_found scope names =
      let living = with_numbers f.params (numbers_in p.globals) in
      sees_found root.entities living scope names (found_parameters (inner part.sight) f.params (scope_for living) (sees_born part.sight.entities f.params (numbers_in p.globals) part.found) (declared_born f.params (numbers_in p.globals)))

  module _ (distinct : typed_labels f.body ≡ Good tt) (apart : (x y : Entry) → IsIn x (planned f) → IsIn y (planned f) → offset_of y ≡ offset_of x → y ≡ x)
      (contract : (x : Entry) → IsIn x (in_contract f.contract) → (x.0 ≡ None) × IsSeen (AtBeginning p f) x) where
    abbrev all : List Site
    all = sites_in_items root body.items

    abbrev Stands : ℕ → Sight → Type 0
    Stands = StandsThere all

    labels_distinct : distinct_labels [] (labels_in_items body.items) ≡ Good tt
    labels_distinct = subst (λ o. typed_labels o ≡ Good tt) body.is distinct

    sites : ItemsSites Stands root body.items
    sites = each_stands body.items root

    known : Known Stands root (in_body root)
    known = record { body = refl; binders = refl; labels = λ l v e. absurd cc }

    body_is : plan.in_body f.body ≡ in_items body.items
    body_is = ap plan.in_body body.is

    in_body_of : (x : Entry) → IsIn x (plan.in_body f.body) → EntryAt Stands root x
    in_body_of x i = items_at Stands root body.items (in_body root) known body.noted body.formed sites x (subst (IsIn x) body_is i)

    seen_of : (x : Entry) (e : EntryAt Stands root x) → IsSeen (AreFound e.sight.entities) x
    seen_of x e = (e.ranged, λ scope found. entry_kept Stands root x e scope found)

    -- at the beginning
    at_beginning : (x : Entry) → IsIn x (planned f) → same_label x.0 None ≡ true → IsSeen (AtBeginning p f) x
    at_beginning x i same = by (in_either (in_contract f.contract) (plan.in_body f.body) x i)
      where
        by : IsIn x (in_contract f.contract) ⊎ IsIn x (plan.in_body f.body) → IsSeen (AtBeginning p f) x
        by (inl j) = (contract x j).1
        by (inr j) =
            let e = in_body_of x j in
            let is : e.sight ≡ root = subst (λ l. Where Stands root l e.sight) (same_is x.0 None same) e.there in
            let seen : IsSeen (AreFound root.entities) x = subst (λ v. IsSeen (AreFound v.entities) x) is (seen_of x e) in
            (seen.0, λ scope names. seen.1 scope (root_found scope names))

    -- and at a label
    at_label : (l : ℕ) (v : Sight) → Stands l v → (x : Entry) → IsIn x (planned f) → same_label x.0 (Some l) ≡ true → IsSeen (AreFound v.entities) x
    at_label l v there x i same = by (in_either (in_contract f.contract) (plan.in_body f.body) x i)
      where
        is : x.0 ≡ Some l
        is = same_is x.0 (Some l) same

        by : IsIn x (in_contract f.contract) ⊎ IsIn x (plan.in_body f.body) → IsSeen (AreFound v.entities) x
        by (inl j) = let none : x.0 ≡ None = (contract x j).0 in absurd cc
        by (inr j) =
            let e = in_body_of x j in
            let same : e.sight ≡ v = one_place body.items root labels_distinct l e.sight v (subst (λ l. Where Stands root l e.sight) is e.there) there in
            subst (λ v. IsSeen (AreFound v.entities) x) same (seen_of x e)

    pub begins_kept : KeptAt (plan_of f) (AtBeginning p f) None
    begins_kept = kept_of (first_own f) (planned f) (AtBeginning p f) None at_beginning

    pub body_kept : ItemsKept (plan_of f) root body.items
    body_kept =
        items_kept Stands root (plan_of f) (λ l v st. kept_of (first_own f) (planned f) (AreFound v.entities) (Some l) (at_label l v st)) body.items (in_body root) known body.noted body.formed sites
        (λ x i. entry_planned (first_own f) (planned f) apart x (in_back (in_contract f.contract) (plan.in_body f.body) x (subst (IsIn x) (sym body_is) i)))
