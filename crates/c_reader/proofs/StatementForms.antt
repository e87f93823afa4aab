-- Statements that are read have annotations and declarations only where they may stand, are no deeper than the limit, and their expressions are short.
use Rattle.std.proofs.Common.{◌≡◌, ℕ, zero, suc, ◌+◌, ◌≤◌, List, [], ◌∷◌, ◌++◌, Some, None, refl, sym, ap, subst, ◌∙◌, Option, append_assoc, append-nil, arith}
use Rattle.std.specs.List.{AllByRecursion}
use Rattle.c_syntax.specs.declared.place.Place.{Place}
use Rattle.c_syntax.specs.Expressions.{Expression}
use Rattle.c_syntax.specs.Statements.{Declaration, Statement, Eval, If, NoElse, ForFirst, NoFirst, First, BlockItem, Declare, Specify, Run, Asserts}
use Rattle.c_model.specs.declared.declarations.AnnotationState.{AnnotationState}
use Rattle.c_model.specs.declared.vocabulary.Keyword.TheVariants as keyword
use Rattle.c_model.specs.Vocabulary.{Vocabulary}
use Rattle.c_model.specs.Punctuators.{semicolon, colon, left_paren, right_paren, left_brace, right_brace}
use Rattle.c_model.specs.ExpressionGrammar.{name_kind, annot_open_kind, keyword_kind, mark_kind, kind, first_type, first_expression, mark, reserved, name, closed}
use Rattle.c_syntax.specs.Logic.{Annotation}
use Rattle.c_model.specs.ClauseGrammar.{ReadAnnotation, Assertions, Contracted, Looped}
use Rattle.c_model.specs.ProgramGrammar.{Numbered, Annotated, Looping, ReadCase, cases_of, first_loop, first_branch, first_case, first_item, is_open, block_items, nothing, run_item, behind_annotation, annotated_item, condition}
use Rattle.c_model.specs.ProgramGrammar.{else_branch, else_part, selection, while_loop, do_loop, for_first}
use Rattle.c_model.specs.ProgramGrammar.{maybe_ended, returned, for_behind, for_loop, jump}
use Rattle.c_model.specs.ProgramGrammar.{return_statement, item, items_once, items, block, case_label, case_item, case_items_once, case_items, next_case, cases, switch_statement, empty_statement, effect_statement, effect_behind}
use Rattle.c_model.specs.ProgramGrammar.{labelled_statement, named_statement, loop_of, unlooped_of, statement_of, branch_of, inside_of, too_deep}
use Rattle.c_model.specs.ProgramGrammar.{statement_in, branch_in, behind_in, inside_in}
use Rattle.c_model.specs.PlacedForms.{annotations_at, statement_at, cases_at, first_at, item_at, items_at}
use Rattle.c_model.specs.TypedTrees.{WhereAny}
use Rattle.c_model.specs.Formed.{AreReadAsserts, AreReadLoopClauses, depth, depth_of_cases, depth_of_item, depth_of_items, declared_within, declared_in_cases, declared_in_first, declared_in_item, declared_in_items}
use Rattle.c_model.specs.FullExpressions.{EachIn, EachInCases, EachInFirst, EachInItem, EachInItems}
use Rattle.c_model.specs.EffectPlaces.{IsNoDeclaration, DeclareNothing, FirstPlaced, StatementPlaced, CasesPlaced, ItemPlaced, ItemsPlaced}
use Rattle.c_reader.proofs.ExpressionForms.{IsFormed, full_each, full_placed_each, full_nameless_each, full_behind_each}
use Rattle.c_model.specs.DeclarationGrammar.{declaration, ended}
use Rattle.c_reader.proofs.ClauseForms.{IsReadAnnotation, annotations_each}
use Rattle.c_reader.proofs.Places.{Within, within_none, within_two, within_as, within_wider}
use Rattle.c_reader.proofs.FormPlaces.{AnnotationIn, annotations_from}
use Rattle.c_reader.proofs.PlacedReadings.{From, from_none, from_more, from_gives, from_then, from_choice, from_cond, from_any, from_each, from_both, from_many}
use Rattle.c_reader.proofs.DeclarationForms.{IsLater, Declares, declares_none, declares_joined, declares_lower, declares_higher, ended_from, declaration_from}

-- ---- items in a list

-- an item in which statements stand at most d deep
pub record IsItem (d : ℕ) (i : BlockItem) : Type 0 where
  pub is : ItemPlaced AreReadAsserts AreReadLoopClauses i
  pub short : EachInItem IsFormed i
  pub deep : depth_of_item i ≤ d

pub all_behind : {A : Type 0} (P : A → Type 0) (xs : List A) (y : A) → AllByRecursion P xs → P y → AllByRecursion P (xs ++ (y ∷ []))
all_behind P [] y h p = (p, tt)
all_behind P (x ∷ xs) y h p = (h.0, all_behind P xs y h.1 p)

pub items_placed : (d : ℕ) (l : List BlockItem) → AllByRecursion (IsItem d) l → ItemsPlaced AreReadAsserts AreReadLoopClauses (block_items l)
items_placed d [] h = tt
items_placed d (i ∷ l) h = (h.0.is, items_placed d l h.1)

pub items_short : (d : ℕ) (l : List BlockItem) → AllByRecursion (IsItem d) l → EachInItems IsFormed (block_items l)
items_short d [] h = tt
items_short d (i ∷ l) h = (h.0.short, items_short d l h.1)

pub items_deep : (d : ℕ) (l : List BlockItem) → AllByRecursion (IsItem d) l → depth_of_items (block_items l) ≤ d
items_deep d [] h = omega arith
items_deep d (i ∷ l) h = omega (arith, h.0.deep, items_deep d l h.1)

declared_behind : (l : List BlockItem) (i : BlockItem) → declared_in_items (block_items (l ++ (i ∷ []))) ≡ declared_in_items (block_items l) ++ declared_in_item i
declared_behind [] i = append-nil (declared_in_item i)
declared_behind (j ∷ l) i = ap (λ (w : List Declaration). declared_in_item j ++ w) (declared_behind l i) ∙ sym (append_assoc (declared_in_item j) (declared_in_items (block_items l)) (declared_in_item i))

items_behind : (o : ℕ) (l : List BlockItem) (i : BlockItem) → items_at o (block_items (l ++ (i ∷ []))) ≡ items_at o (block_items l) + item_at o i
items_behind o [] i = omega arith
items_behind o (j ∷ l) i = let e = items_behind o l i in omega (arith, e)

-- what stands first in a `for` has no annotation
first_none : (o : ℕ) (first : ForFirst) → FirstPlaced first → first_at o first ≡ 0
first_none o NoFirst h = refl
first_none o (First (Run (Eval at e))) h = refl
first_none o (First (Declare ds)) h = refl
first_none o (First (Specify at t)) h = refl
first_none o (First (Run _)) h = absurd h
first_none o (First (Asserts annots)) h = absurd h

-- ---- cases in a list

declare_nothing : (l : List BlockItem) → AllByRecursion IsNoDeclaration l → DeclareNothing (block_items l)
declare_nothing [] h = tt
declare_nothing (i ∷ l) h = (h.0, declare_nothing l h.1)

-- a case in which statements stand at most d deep
record IsCase (d : ℕ) (c : ReadCase) : Type 0 where
  is : ItemsPlaced AreReadAsserts AreReadLoopClauses (block_items c.items)
  none : DeclareNothing (block_items c.items)
  short : EachInItems IsFormed (block_items c.items)
  deep : depth_of_items (block_items c.items) ≤ d

cases_placed : (d : ℕ) (l : List ReadCase) → AllByRecursion (IsCase d) l → CasesPlaced AreReadAsserts AreReadLoopClauses (cases_of l)
cases_placed d [] h = tt
cases_placed d (c ∷ l) h = (h.0.none, h.0.is, cases_placed d l h.1)

cases_short : (d : ℕ) (l : List ReadCase) → AllByRecursion (IsCase d) l → EachInCases IsFormed (cases_of l)
cases_short d [] h = tt
cases_short d (c ∷ l) h = (h.0.short, cases_short d l h.1)

cases_deep : (d : ℕ) (l : List ReadCase) → AllByRecursion (IsCase d) l → depth_of_cases (cases_of l) ≤ d
cases_deep d [] h = omega arith
cases_deep d (c ∷ l) h = omega (arith, h.0.deep, cases_deep d l h.1)

declared_case_behind : (l : List ReadCase) (c : ReadCase) → declared_in_cases (cases_of (l ++ (c ∷ []))) ≡ declared_in_cases (cases_of l) ++ declared_in_items (block_items c.items)
declared_case_behind [] c = append-nil (declared_in_items (block_items c.items))
declared_case_behind (b ∷ l) c =
    let first = declared_in_items (block_items b.items) in
    ap (λ (w : List Declaration). first ++ w) (declared_case_behind l c) ∙ sym (append_assoc first (declared_in_cases (cases_of l)) (declared_in_items (block_items c.items)))

cases_behind : (o : ℕ) (l : List ReadCase) (c : ReadCase) → cases_at o (cases_of (l ++ (c ∷ []))) ≡ cases_at o (cases_of l) + items_at o (block_items c.items)
cases_behind o [] c = omega arith
cases_behind o (b ∷ l) c = let e = cases_behind o l c in omega (arith, e)

module _ (size : ℕ) (old : Vocabulary) where
  -- a statement d deep at most, after the offset l
  pub record IsWithin (d l n : ℕ) (x : Statement × AnnotationState) : Type 0 where
    pub is : StatementPlaced AreReadAsserts AreReadLoopClauses x.0
    pub short : EachIn IsFormed x.0
    pub deep : depth x.0 ≤ d
    pub declares : Declares size old l (declared_within x.0) n
    pub annots : Within l n (λ o. statement_at o x.0)

  pub record IsItemWithin (d l n : ℕ) (x : BlockItem × AnnotationState) : Type 0 where
    pub item : IsItem d x.0
    pub declares : Declares size old l (declared_in_item x.0) n
    pub annots : Within l n (λ o. item_at o x.0)

  pub record AreItems (d l n : ℕ) (x : List BlockItem × AnnotationState) : Type 0 where
    pub are : AllByRecursion (IsItem d) x.0
    pub declares : Declares size old l (declared_in_items (block_items x.0)) n
    pub annots : Within l n (λ o. items_at o (block_items x.0))

  -- items of a case, and cases
  record AreCaseItems (d l n : ℕ) (x : List BlockItem × AnnotationState) : Type 0 where
    items : AreItems d l n x
    none : AllByRecursion IsNoDeclaration x.0

  record AreCases (d l n : ℕ) (x : List ReadCase × AnnotationState) : Type 0 where
    are : AllByRecursion (IsCase d) x.0
    declares : Declares size old l (declared_in_cases (cases_of x.0)) n
    annots : Within l n (λ o. cases_at o (cases_of x.0))

  -- what declares nothing
  record IsAlone {A : Type 0} (P : A → Type 0) (l n : ℕ) (x : A) : Type 0 where
    is : P x
    on : l ≤ n

  -- an expression that may be left out
  record IsOptional (l n : ℕ) (e : Option Expression) : Type 0 where
    short : WhereAny IsFormed e
    on : l ≤ n

  record IsFirst (l n : ℕ) (x : ForFirst × AnnotationState) : Type 0 where
    is : FirstPlaced x.0
    short : EachInFirst IsFormed x.0
    declares : Declares size old l (declared_in_first x.0) n
    annots : Within l n (λ o. first_at o x.0)

  lower : (d k l n : ℕ) (x : Statement × AnnotationState) → k ≤ l → IsWithin d l n x → IsWithin d k n x
  lower d k l n x le p = record { is = p.is; short = p.short; deep = p.deep; declares = declares_lower size old k l n (declared_within x.0) le p.declares; annots = within_wider k n le (omega arith) p.annots }

  pub closed_from : (ws : Vocabulary) {l : ℕ} {A : Type 0} (P : ℕ → A → Type 0) (x : A) → ((n : ℕ) → l ≤ n → P n x) → From size l (closed ws x) P
  unfolding closed
  closed_from ws P x p = from_then (from_any (mark ws right_paren)) (λ n _ le. from_gives x (p n le))

  -- ---- productions without statements in them, where what the words are comes later

  module _ (ws : Vocabulary) (later : IsLater old ws) where
    end_from : {l : ℕ} {A : Type 0} (P : ℕ → A → Type 0) (x : A) → ((n : ℕ) → l ≤ n → P n x) → From size l (ended ws x) P
    end_from P x p = ended_from size old ws later P x p

    condition_from : (l : ℕ) → From size l (condition ws) (IsAlone IsFormed l)
    unfolding condition
    condition_from l = from_then (from_any (mark ws left_paren)) (λ m _ le. from_then (from_each (full_each size ws)) (λ i e p. closed_from ws (IsAlone IsFormed l) e (λ n lf. record { is = p.2; on = omega (arith, le, lf, p.1) })))

    for_first_from : (l : ℕ) (c : AnnotationState) → From size l (for_first ws c) (IsFirst l)
    unfolding for_first
    for_first_from l c =
        from_choice (kind ws) first_type
        (from_then (from_both (from_any (declaration ws)) (declaration_from size old ws later l)) (λ n x h.
        from_gives _ (record { is = h.1.first; short = h.1.short; declares = h.1.declares; annots = within_as (within_none l n h.0) (λ o. first_none o (First x) h.1.first) })))
        (from_choice (kind ws) first_expression
        (from_then (from_each (full_placed_each size ws)) (λ i e p. end_from (IsFirst l) _ (λ n le. record { is = tt; short = p.2; declares = declares_none size old l n (omega (arith, le, p.1)); annots = within_none l n (omega (arith, le, p.1)) })))
        (end_from (IsFirst l) _ (λ n le. record { is = tt; short = tt; declares = declares_none size old l n le; annots = within_none l n le })))

    maybe_from : (l : ℕ) → From size l (maybe_ended ws) (IsOptional l)
    unfolding maybe_ended
    maybe_from l =
        let P = IsOptional l in
        from_choice (kind ws) first_expression
        (from_then (from_each (full_each size ws)) (λ i e p. end_from P (Some e) (λ n le. record { short = p.2; on = omega (arith, le, p.1) })))
        (end_from P None (λ n le. record { short = tt; on = le }))

    returned_from : (l : ℕ) → From size l (returned ws) (IsOptional l)
    unfolding returned
    returned_from l =
        let P = IsOptional l in
        from_choice (kind ws) first_expression
        (from_then (from_each (full_each size ws)) (λ i e p. end_from P (Some e) (λ n le. record { short = p.2; on = omega (arith, le, p.1) })))
        (end_from P None (λ n le. record { short = tt; on = le }))

    behind_from : (l : ℕ) → From size l (for_behind ws) (IsOptional l)
    unfolding for_behind
    behind_from l =
        let P = IsOptional l in
        from_choice (kind ws) first_expression
        (from_then (from_each (full_each size ws)) (λ i e p. closed_from ws P (Some e) (λ n le. record { short = p.2; on = omega (arith, le, p.1) })))
        (closed_from ws P None (λ n le. record { short = tt; on = le }))

    jump_from : (d l : ℕ) (c : AnnotationState) → From size l (jump ws c) (IsWithin (suc d) l)
    unfolding jump
    jump_from d l c =
        let P = IsWithin (suc d) l in
        from_choice (kind ws) (keyword_kind keyword.Break ∷ [])
        (from_then (from_any (reserved ws keyword.Break)) (λ m at le.
        end_from P _ (λ n lf. record { is = tt; short = tt; deep = omega arith; declares = declares_none size old l n (omega (arith, le, lf)); annots = within_none l n (omega (arith, le, lf)) })))
        (from_then (from_any (reserved ws keyword.Continue)) (λ m at le.
        end_from P _ (λ n lf. record { is = tt; short = tt; deep = omega arith; declares = declares_none size old l n (omega (arith, le, lf)); annots = within_none l n (omega (arith, le, lf)) })))

    return_from : (d l : ℕ) (c : AnnotationState) → From size l (return_statement ws c) (IsWithin (suc d) l)
    unfolding return_statement
    return_from d l c = from_then (from_any (reserved ws keyword.Return)) (λ m at le. from_then (returned_from m)
        (λ n e p. from_gives _ (record { is = tt; short = p.short; deep = omega arith; declares = declares_none size old l n (omega (arith, le, p.on)); annots = within_none l n (omega (arith, le, p.on)) })))

    empty_from : (d l : ℕ) (c : AnnotationState) → From size l (empty_statement ws c) (IsWithin (suc d) l)
    unfolding empty_statement
    empty_from d l c = from_then (from_any (mark ws semicolon)) (λ n at le. from_gives _ (record { is = tt; short = tt; deep = omega arith; declares = declares_none size old l n le; annots = within_none l n le }))

    effect_from : (d l : ℕ) (c : AnnotationState) → From size l (effect_statement ws c) (IsWithin (suc d) l)
    unfolding effect_statement
    effect_from d l c = from_then (from_each (full_nameless_each size ws)) (λ m e p. end_from (IsWithin (suc d) l) _
        (λ n le. record { is = tt; short = p.2; deep = omega arith; declares = declares_none size old l n (omega (arith, le, p.1)); annots = within_none l n (omega (arith, le, p.1)) }))

    effect_behind_from : (d l m : ℕ) (x : ℕ × Place) (c : AnnotationState) → l ≤ m → From size m (effect_behind ws x c) (IsWithin (suc d) l)
    unfolding effect_behind
    effect_behind_from d l m x c le = from_then (from_each (full_behind_each size ws x)) (λ i e p. end_from (IsWithin (suc d) l) _
        (λ n lf. record { is = tt; short = p.2; deep = omega arith; declares = declares_none size old l n (omega (arith, le, lf, p.1)); annots = within_none l n (omega (arith, le, lf, p.1)) }))

    -- ---- statements in statements

    -- what stands inside a statement behind an annotation, which stands after the offset l
    abbrev pub AnnotatedFrom : ℕ → Annotated → Type 0
    AnnotatedFrom d A = (x : ReadAnnotation × ℕ) (l m : ℕ) (c : AnnotationState) → l ≤ m → IsReadAnnotation x.0 → AnnotationIn size ws l m x → From size m (A x c) (IsWithin d l)

    -- what stands behind an annotation declares nothing
    module _ (d : ℕ) {B : Annotated} (inside : AnnotatedFrom d B) where
      behind_from_annotation : (l m : ℕ) (c : AnnotationState) (x : ReadAnnotation × ℕ) → l ≤ m → IsReadAnnotation x.0 → AnnotationIn size ws l m x → From size m (behind_annotation ws B c x) (λ n y. IsItemWithin d l n y × IsNoDeclaration y.0)
      unfolding behind_annotation run_item
      behind_from_annotation l m c (Assertions a, k) le h g = from_gives _ (record { item = record { is = h; short = tt; deep = omega arith }; declares = declares_none size old l m le; annots = g }, tt)
      behind_from_annotation l m c (Contracted o, k) le h g =
          from_then (inside (Contracted o, k) l m c le h g) (λ n x p. from_gives _ (record { item = record { is = p.is; short = p.short; deep = p.deep }; declares = p.declares; annots = p.annots }, tt))
      behind_from_annotation l m c (Looped o, k) le h g =
          from_then (inside (Looped o, k) l m c le h g) (λ n x p. from_gives _ (record { item = record { is = p.is; short = p.short; deep = p.deep }; declares = p.declares; annots = p.annots }, tt))

      annotated_from : (l : ℕ) (c : AnnotationState) → From size l (annotated_item ws B c) (λ n x. IsItemWithin d l n x × IsNoDeclaration x.0)
      unfolding annotated_item
      annotated_from l c = from_then (from_both (from_each (annotations_each size ws c.number)) (annotations_from size ws c.number l)) (λ n x p. behind_from_annotation l n c x (p.0).1 (p.0).2 p.1)

    module _ (d : ℕ) {T : Numbered} {B : Annotated} (each : (l : ℕ) (c : AnnotationState) → From size l (T c) (IsWithin d l)) (inside : AnnotatedFrom d B) where
      item_from : (l : ℕ) (c : AnnotationState) → From size l (item ws T B c) (IsItemWithin d l)
      unfolding item run_item
      item_from l c =
          from_choice (kind ws) (annot_open_kind ∷ []) (from_more (λ n x p. p.0) (annotated_from d inside l c))
          (from_choice (kind ws) first_type
          (from_then (from_both (from_any (declaration ws)) (declaration_from size old ws later l)) (λ n x h.
          from_gives _ (record { item = record { is = h.1.is; short = h.1.short; deep = omega (arith, h.1.flat) }; declares = h.1.declares; annots = within_as (within_none l n h.0) (λ o. first_none o (First x) h.1.first) })))
          (from_then (each l c) (λ n x p. from_gives _ (record { item = record { is = p.is; short = p.short; deep = p.deep }; declares = p.declares; annots = p.annots }))))

      once_from : (l m : ℕ) (x : List BlockItem × AnnotationState) → AreItems d l m x → From size m (items_once ws T B x) (AreItems d l)
      unfolding items_once
      once_from l m x h = from_then (item_from m x.1) (λ n i p. from_gives _ (record {
        are = all_behind (IsItem d) x.0 i.0 h.are p.item;
        declares = subst (λ (ds : List Declaration). Declares size old l ds n) (sym (declared_behind x.0 i.0))
            (declares_joined size old l m n (declared_in_items (block_items x.0)) (declared_in_item i.0) h.declares p.declares);
        annots = within_as (within_two l m n (λ o. items_at o (block_items x.0)) (λ o. item_at o i.0) h.annots p.annots) (λ o. items_behind o x.0 i.0);
      }))

      pub items_from : (l m : ℕ) (x : List BlockItem × AnnotationState) → AreItems d l m x → From size m (items ws T B x) (AreItems d l)
      unfolding items
      items_from l m x h = from_many (kind ws) (λ _. first_item) {P = AreItems d l} (λ i y g. once_from l i y g) m x h

      block_from : (l : ℕ) (c : AnnotationState) → From size l (block ws T B c) (IsWithin (suc d) l)
      unfolding block
      block_from l c =
          from_then (from_any (mark ws left_brace)) (λ m at le. from_then (items_from l m ([], c) (record { are = tt; declares = declares_none size old l m le; annots = within_none l m le })) (λ i x h.
          from_then (from_any (mark ws right_brace)) (λ n _ lf. from_gives _ (record {
            is = items_placed d x.0 h.are;
            short = items_short d x.0 h.are;
            deep = omega (arith, items_deep d x.0 h.are);
            declares = declares_higher size old l i n (declared_in_items (block_items x.0)) lf h.declares;
            annots = within_wider l n (omega arith) lf h.annots;
          }))))

      -- ---- `switch`

      case_item_from : (l : ℕ) (c : AnnotationState) → From size l (case_item ws T B c) (λ n x. IsItemWithin d l n x × IsNoDeclaration x.0)
      unfolding case_item run_item
      case_item_from l c =
          from_choice (kind ws) (annot_open_kind ∷ []) (annotated_from d inside l c)
          (from_then (each l c) (λ n x p. from_gives _ (record { item = record { is = p.is; short = p.short; deep = p.deep }; declares = p.declares; annots = p.annots }, tt)))

      case_once_from : (l m : ℕ) (x : List BlockItem × AnnotationState) → AreCaseItems d l m x → From size m (case_items_once ws T B x) (AreCaseItems d l)
      unfolding case_items_once
      case_once_from l m x h = from_then (case_item_from m x.1) (λ n i p. from_gives _ (record {
        items = record {
          are = all_behind (IsItem d) x.0 i.0 h.items.are p.0.item;
          declares = subst (λ (ds : List Declaration). Declares size old l ds n) (sym (declared_behind x.0 i.0))
              (declares_joined size old l m n (declared_in_items (block_items x.0)) (declared_in_item i.0) h.items.declares p.0.declares);
          annots = within_as (within_two l m n (λ o. items_at o (block_items x.0)) (λ o. item_at o i.0) h.items.annots p.0.annots) (λ o. items_behind o x.0 i.0);
        };
        none = all_behind IsNoDeclaration x.0 i.0 h.none p.1;
      }))

      case_items_from : (l m : ℕ) (x : List BlockItem × AnnotationState) → AreCaseItems d l m x → From size m (case_items ws T B x) (AreCaseItems d l)
      unfolding case_items
      case_items_from l m x h = from_many (kind ws) (λ _. first_branch) {P = AreCaseItems d l} (λ i y g. case_once_from l i y g) m x h

      next_case_from : (l m : ℕ) (x : List ReadCase × AnnotationState) → AreCases d l m x → From size m (next_case ws T B x) (AreCases d l)
      unfolding next_case
      next_case_from l m x h =
          from_then (from_any (case_label ws)) (λ i w le.
          from_then (case_items_from i i ([], x.1) (record { items = record { are = tt; declares = declares_none size old i i (omega arith); annots = within_none i i (omega arith) }; none = tt })) (λ n y g. from_gives _ (
          let new : ReadCase = record { place = w.0; value = w.1; items = y.0 } in
          record {
            are = all_behind (IsCase d) x.0 new h.are (record { is = items_placed d y.0 g.items.are; none = declare_nothing y.0 g.none; short = items_short d y.0 g.items.are; deep = items_deep d y.0 g.items.are });
            declares = subst (λ (ds : List Declaration). Declares size old l ds n) (sym (declared_case_behind x.0 new))
                (declares_joined size old l m n (declared_in_cases (cases_of x.0)) (declared_in_items (block_items y.0)) h.declares (declares_lower size old m i n (declared_in_items (block_items y.0)) le g.items.declares));
            annots = within_as (within_two l m n (λ o. cases_at o (cases_of x.0)) (λ o. items_at o (block_items y.0)) h.annots (within_wider m n le (omega arith) g.items.annots)) (λ o. cases_behind o x.0 new);
          })))

      cases_from : (l m : ℕ) (x : List ReadCase × AnnotationState) → AreCases d l m x → From size m (cases ws T B x) (AreCases d l)
      unfolding cases
      cases_from l m x h = from_many (kind ws) (λ _. first_case) {P = AreCases d l} (λ i y g. next_case_from l i y g) m x h

      switch_from : (l : ℕ) (c : AnnotationState) → From size l (switch_statement ws T B c) (IsWithin (suc d) l)
      unfolding switch_statement
      switch_from l c =
          from_then (from_any (reserved ws keyword.Switch)) (λ m at le. from_then (condition_from m) (λ i e p. from_then (from_any (mark ws left_brace)) (λ j _ lf.
          from_then (cases_from l j ([], c) (record { are = tt; declares = declares_none size old l j (omega (arith, le, lf, p.on)); annots = within_none l j (omega (arith, le, lf, p.on)) })) (λ k x h.
          from_then (from_any (mark ws right_brace)) (λ n _ lg. from_gives _ (record {
            is = cases_placed d x.0 h.are;
            short = (p.is, cases_short d x.0 h.are);
            deep = omega (arith, cases_deep d x.0 h.are);
            declares = declares_higher size old l k n (declared_in_cases (cases_of x.0)) lg h.declares;
            annots = within_wider l n (omega arith) lg h.annots;
          }))))))

    module _ (d : ℕ) {S : Numbered} (each : (l : ℕ) (c : AnnotationState) → From size l (S c) (IsWithin d l)) where
      else_branch_from : (at : Place) (e : Expression) (l m : ℕ) (x : Statement × AnnotationState) → IsFormed e → IsWithin d l m x → From size m (else_branch ws S at e x) (IsWithin (suc d) l)
      unfolding else_branch
      else_branch_from at e l m x p q =
          from_then (from_any (reserved ws keyword.Else)) (λ i _ le. from_then (each i x.1) (λ n y r. from_gives _ (record {
            is = (q.is, r.is);
            short = (p, q.short, r.short);
            deep = omega (arith, q.deep, r.deep);
            declares = declares_joined size old l m n (declared_within x.0) (declared_within y.0) q.declares (declares_lower size old m i n (declared_within y.0) le r.declares);
            annots = within_two l m n (λ o. statement_at o x.0) (λ o. statement_at o y.0) q.annots (within_wider m n le (omega arith) r.annots);
          })))

      else_part_from : (at : Place) (e : Expression) (l m : ℕ) (x : Statement × AnnotationState) → IsFormed e → IsWithin d l m x → From size m (else_part ws S at e x) (IsWithin (suc d) l)
      unfolding else_part
      else_part_from at e l m x p q =
          let alone : IsWithin (suc d) l m (If at e x.0 NoElse, x.1) = record {
            is = (q.is, tt);
            short = (p, q.short, tt);
            deep = omega (arith, q.deep);
            declares = subst (λ (ds : List Declaration). Declares size old l ds m) (sym (append-nil (declared_within x.0))) q.declares;
            annots = within_as q.annots (λ o. omega arith);
          } in
          from_cond (is_open x.0) (λ _. from_gives _ alone) (λ _. from_choice (kind ws) (keyword_kind keyword.Else ∷ []) (else_branch_from at e l m x p q) (from_gives _ alone))

      selection_from : (l : ℕ) (c : AnnotationState) → From size l (selection ws S c) (IsWithin (suc d) l)
      unfolding selection
      selection_from l c =
          from_then (from_any (reserved ws keyword.If)) (λ m at le. from_then (condition_from m) (λ i e p. from_then (each i c) (λ n x q.
          else_part_from at e l n x p.is (lower d l i n x (omega (arith, le, p.on)) q))))

      -- a loop behind its annotations, which stand after the offset l
      module _ (annots : List Annotation) (h : AreReadLoopClauses annots) where
        while_from : (l m : ℕ) (c : AnnotationState) → l ≤ m → Within l m (λ o. annotations_at o annots) → From size m (while_loop ws S annots c) (IsWithin (suc d) l)
        unfolding while_loop
        while_from l m c le g =
            from_then (from_any (reserved ws keyword.While)) (λ i at lf. from_then (condition_from i) (λ j e p. from_then (each j c) (λ n x q. from_gives _ (record {
              is = (h, q.is);
              short = (p.is, q.short);
              deep = omega (arith, q.deep);
              declares = (lower d l j n x (omega (arith, le, lf, p.on)) q).declares;
              annots = within_two l m n (λ o. annotations_at o annots) (λ o. statement_at o x.0) g (lower d m j n x (omega (arith, lf, p.on)) q).annots;
            }))))

        for_from : (l m : ℕ) (c : AnnotationState) → l ≤ m → Within l m (λ o. annotations_at o annots) → From size m (for_loop ws S annots c) (IsWithin (suc d) l)
        unfolding for_loop
        for_from l m c le g =
            from_then (from_any (reserved ws keyword.For)) (λ y at lf. from_then (from_any (mark ws left_paren)) (λ i _ lg. from_then (for_first_from i c) (λ j f r. from_then (maybe_from j) (λ k e p.
            from_then (behind_from k) (λ o b s. from_then (each o f.1) (λ n x q. from_gives _ (record {
              is = (h, r.is, q.is);
              short = (r.short, p.short, s.short, q.short);
              deep = omega (arith, q.deep);
              declares = declares_joined size old l j n (declared_in_first f.0) (declared_within x.0)
                  (declares_lower size old l i j (declared_in_first f.0) (omega (arith, le, lf, lg)) r.declares)
                  (lower d j o n x (omega (arith, p.on, s.on)) q).declares;
              annots = within_two l m n (λ z. annotations_at z annots) (λ z. first_at z f.0 + statement_at z x.0) g
                  (within_two m j n (λ z. first_at z f.0) (λ z. statement_at z x.0) (within_wider m j (omega (arith, lf, lg)) (omega arith) r.annots) (lower d j o n x (omega (arith, p.on, s.on)) q).annots);
            })))))))

        loop_from : (l m : ℕ) (c : AnnotationState) → l ≤ m → Within l m (λ o. annotations_at o annots) → From size m (loop_of ws S annots c) (IsWithin (suc d) l)
        unfolding loop_of
        loop_from l m c le g = from_choice (kind ws) (keyword_kind keyword.While ∷ []) (while_from l m c le g) (for_from l m c le g)

      do_from : (l : ℕ) (c : AnnotationState) → From size l (do_loop ws S c) (IsWithin (suc d) l)
      unfolding do_loop
      do_from l c =
          from_then (from_any (reserved ws keyword.Do)) (λ m at le. from_then (each m c) (λ i x q. from_then (from_any (reserved ws keyword.While)) (λ j _ lf. from_then (condition_from j) (λ k e p.
          end_from (IsWithin (suc d) l) _ (λ n lg. record {
            is = q.is;
            short = (q.short, p.is);
            deep = omega (arith, q.deep);
            declares = declares_higher size old l i n (declared_within x.0) (omega (arith, lf, p.on, lg)) (lower d l m i x le q).declares;
            annots = within_wider l n (omega arith) (omega (arith, lf, p.on, lg)) (lower d l m i x le q).annots;
          })))))

      labelled_from : (l m : ℕ) (x : ℕ × Place) (c : AnnotationState) → l ≤ m → From size m (labelled_statement ws S x c) (IsWithin (suc d) l)
      unfolding labelled_statement
      labelled_from l m x c le = from_then (from_any (mark ws colon)) (λ i _ lf. from_then (each i c) (λ n y p.
          let q = lower d l i n y (omega (arith, le, lf)) p in from_gives _ (record { is = q.is; short = q.short; deep = omega (arith, q.deep); declares = q.declares; annots = q.annots })))

      named_from : (l : ℕ) (c : AnnotationState) → From size l (named_statement ws S c) (IsWithin (suc d) l)
      unfolding named_statement
      named_from l c = from_then (from_any (name ws)) (λ m x le. from_choice (kind ws) (mark_kind colon ∷ []) (labelled_from l m x c le) (effect_behind_from d l m x c le))

    module _ (d : ℕ) {T S : Numbered} {B : Annotated} (t : (l : ℕ) (c : AnnotationState) → From size l (T c) (IsWithin d l)) (b : AnnotatedFrom d B) (s : (l : ℕ) (c : AnnotationState) → From size l (S c) (IsWithin d l)) where
      unlooped_from : (l : ℕ) (c : AnnotationState) → From size l (unlooped_of ws T B S c) (IsWithin (suc d) l)
      unfolding unlooped_of
      unlooped_from l c =
          from_choice (kind ws) (mark_kind left_brace ∷ []) (block_from d t b l c)
          (from_choice (kind ws) (mark_kind semicolon ∷ []) (empty_from d l c)
          (from_choice (kind ws) (keyword_kind keyword.If ∷ []) (selection_from d s l c)
          (from_choice (kind ws) (keyword_kind keyword.Do ∷ []) (do_from d s l c)
          (from_choice (kind ws) (keyword_kind keyword.Switch ∷ []) (switch_from d t b l c)
          (from_choice (kind ws) (keyword_kind keyword.Return ∷ []) (return_from d l c)
          (from_choice (kind ws) (keyword_kind keyword.Break ∷ keyword_kind keyword.Continue ∷ []) (jump_from d l c)
          (from_choice (kind ws) (name_kind ∷ []) (named_from d s l c) (effect_from d l c))))))))

      statement_of_from : (l : ℕ) (c : AnnotationState) → From size l (statement_of ws T B S c) (IsWithin (suc d) l)
      unfolding statement_of
      statement_of_from l c = from_choice (kind ws) first_loop (loop_from d s [] tt l l c (omega arith) (within_none l l (omega arith))) (unlooped_from l c)

    deepen : (d l n : ℕ) (x : Statement × AnnotationState) → IsWithin d l n x → IsWithin (suc d) l n x
    deepen d l n x p = record { is = p.is; short = p.short; deep = omega (arith, p.deep); declares = p.declares; annots = p.annots }

    -- with an annotation before it, which may belong to what stands behind it
    branch_of_from : (d : ℕ) {T : Numbered} {A : Annotated} → ((l : ℕ) (c : AnnotationState) → From size l (T c) (IsWithin (suc d) l)) → AnnotatedFrom d A → (l : ℕ) (c : AnnotationState) → From size l (branch_of ws T A c) (IsWithin (suc d) l)
    unfolding branch_of
    branch_of_from d t a l c =
        from_choice (kind ws) (annot_open_kind ∷ [])
        (from_then (from_both (from_each (annotations_each size ws c.number)) (annotations_from size ws c.number l)) (λ m x p. from_more (λ n y q. deepen d l n y q) (a x l m c (p.0).1 (p.0).2 p.1)))
        (t l c)

    inside_of_from : (d : ℕ) {W : Looping} {T U : Numbered} {A : Annotated} → ((annots : List Annotation) → AreReadLoopClauses annots → (l m : ℕ) (c : AnnotationState) → l ≤ m → Within l m (λ o. annotations_at o annots)
        → From size m (W annots c) (IsWithin (suc d) l)) → ((l : ℕ) (c : AnnotationState) → From size l (T c) (IsWithin (suc d) l)) → ((l : ℕ) (c : AnnotationState) → From size l (U c) (IsWithin (suc d) l)) → AnnotatedFrom d A
        → AnnotatedFrom (suc d) (inside_of ws W T U A)
    unfolding inside_of
    inside_of_from d w t u a (Assertions asserts, k) l m c le h g = from_more (λ n y p. lower (suc d) l m n y le p) (branch_of_from d t a m _)
    inside_of_from d w t u a (Contracted o, k) l m c le h g = from_more (λ n y p. lower (suc d) l m n y le p) (branch_of_from d t a m _)
    inside_of_from d w t u a (Looped o, k) l m c le h g = from_choice (kind ws) first_loop (w o.clauses h l m _ le g) (from_more (λ n y p. lower (suc d) l m n y le p) (branch_of_from d u a m _))

    -- a statement of the last depth is read as if none could stand in it
    record AreFrom (d : ℕ) : Type 0 where
      statement : (l : ℕ) (c : AnnotationState) → From size l (statement_in ws d c) (IsWithin (suc d) l)
      branch : (l : ℕ) (c : AnnotationState) → From size l (branch_in ws d c) (IsWithin (suc d) l)
      behind : AnnotatedFrom (suc d) (behind_in ws d)
      inside : AnnotatedFrom (suc d) (inside_in ws d)

    nothing_behind : AnnotatedFrom 0 (λ x. nothing ws)
    nothing_behind x l m c le h g = from_none

    last_from : (l : ℕ) (c : AnnotationState) → From size l (statement_of ws (nothing ws) (λ x. nothing ws) (nothing ws) c) (IsWithin 1 l)
    last_from = statement_of_from 0 (λ m k. from_none) nothing_behind (λ m k. from_none)

    deep_from : (l : ℕ) (c : AnnotationState) → From size l (too_deep ws c) (IsWithin 1 l)
    unfolding too_deep
    deep_from l c = record { holds = (branch_of_from 0 last_from nothing_behind l c).holds }

    at_depth : (d : ℕ) → AreFrom d
    unfolding statement_in
    at_depth zero = record {
      statement = λ l c. record { holds = (last_from l c).holds };
      branch = deep_from;
      behind = λ x l m c le h g. from_more (λ n y p. lower 1 l m n y le p) (deep_from m _);
      inside = λ x l m c le h g. from_more (λ n y p. lower 1 l m n y le p) (deep_from m _);
    }
    at_depth (suc d) =
        let h = at_depth d in
        let each = statement_of_from (suc d) h.statement h.inside h.branch in
        record {
          statement = each;
          branch = branch_of_from (suc d) each h.behind;
          behind = inside_of_from (suc d) (λ annots k. loop_from (suc d) h.branch annots k) each (unlooped_from (suc d) h.statement h.inside h.branch) h.behind;
          inside = λ x l m c le k g. from_more (λ n y p. deepen (suc d) l n y p) (h.behind x l m c le k g);
        }

    pub statement_in_from : (d l : ℕ) (c : AnnotationState) → From size l (statement_in ws d c) (IsWithin (suc d) l)
    statement_in_from d l c = (at_depth d).statement l c

    pub inside_in_from : (d : ℕ) → AnnotatedFrom (suc d) (inside_in ws d)
    inside_in_from d = (at_depth d).inside
