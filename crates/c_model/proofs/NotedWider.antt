-- Annotations that are typed where the sizes of fewer structs are known are so where those of more are.
use Rattle.c_model.specs.TypedAnnotations.{CasesNoted}
use Rattle.std.proofs.Common.{◌≡◌, ℕ, Bool, true, false, cond, nat_eq, refl, sym, ap, ◌∙◌, subst, List, [], ◌∷◌, Option, Some, None, inl, inr}
use Rattle.std.specs.Prelude.{option_map}
use Rattle.c_syntax.specs.declared.expression.Use.{Use}
use Rattle.c_syntax.specs.declared.logic.Label.{Label}
use Rattle.c_syntax.specs.declared.logic.Label.TheVariants as label
use Rattle.c_syntax.specs.Ctypes.{PlainType}
use Rattle.c_syntax.specs.Logic.{LogicTerm, Number, Letter, Variable, Unary, Binary, Cast, Choice, Named, Links, NoLink, Linked, Predicate, Truth, NonZero}
use Rattle.c_syntax.specs.Logic.{Guards, NoGuard, Guarded, Chain, Not, Connected, Branch, Quantified, ClauseBody, Raw, Holds, Value, Annotation, At, Behaviors, Null, Deref, Member}
use Rattle.c_syntax.specs.Logic.{Address, Moved, Difference, Told, Asks, Separated, Zone, Object, Elements, Zones, NoZone, Another}
use Rattle.c_syntax.specs.Statements.{Statement, Empty, Eval, Block, If, While, Do, For, Break, Continue, Return, ElsePart, NoElse, Else, BlockItem, Declare, Specify}
use Rattle.c_syntax.specs.Statements.{ForFirst, Run, Asserts, BlockItems, NoItem, Then, Labelled, Switch, Cases, NoCase, AnotherCase}
use Rattle.c_syntax.specs.Programs.{StructType, Function}
use Rattle.c_model.specs.ExpressionTyping.{Sight, inner}
use Rattle.c_model.specs.UnitTyping.{with_parameters}
use Rattle.c_model.specs.AnnotationSights.{ClauseSight, InBody, AtEntry, AtEnd, UnderLabel, AnnotationSight, formals_in, under_label, marked, beginning, sight_at}
use Rattle.c_model.specs.AnnotationTyping.{inside_block, inside_for, with_label, behind_labels, labels_behind, behind_noted, behind_case, in_body}
use Rattle.c_model.specs.AnnotationSights.{with_binders}
use Rattle.c_model.specs.TypedPredicates.{GuardsTyped, TermDenotes, IsResult, TermTyped, LinksTyped, ZoneTyped, ZonesTyped, PredicateTyped, ClauseTyped, AnnotationsTyped}
use Rattle.c_model.specs.TypedAnnotations.{StatementNoted, ElseNoted, ItemNoted, ItemsNoted, BodyNoted, FunctionNoted}
use Rattle.c_model.proofs.StableStatements.{at_last, behind_last, first_last, parameters_last}

module _ (structs : List StructType) (levels tags enums : List ℕ)
  where
    abbrev narrow : Sight → Sight
    narrow = at_last structs levels tags enums

    abbrev narrow_labels : List (ℕ × Sight) → List (ℕ × Sight)
    narrow_labels [] = []
    narrow_labels (x ∷ xs) = (x.0, narrow x.1) ∷ narrow_labels xs

    abbrev narrow_clause : ClauseSight → ClauseSight
    narrow_clause (InBody v) = InBody (narrow v)
    narrow_clause AtEntry = AtEntry
    narrow_clause (AtEnd formals t) = AtEnd formals t
    narrow_clause (UnderLabel formals) = UnderLabel formals

    abbrev narrowed : AnnotationSight → AnnotationSight
    narrowed s = record { here = narrow s.here; labels = narrow_labels s.labels; clause = narrow_clause s.clause; binders = s.binders }

    -- ---- labels

    formals_same : (k : ClauseSight) → formals_in (narrow_clause k) ≡ formals_in k
    formals_same (InBody v) = refl
    formals_same AtEntry = refl
    formals_same (AtEnd formals t) = refl
    formals_same (UnderLabel formals) = refl

    under_same : (s : AnnotationSight) (v : Sight) → under_label (narrowed s) (narrow v) ≡ narrowed (under_label s v)
    under_same s v = λ i. record { here = narrow v; labels = []; clause = UnderLabel (formals_same s.clause i); binders = [] }

    under_all : (s : AnnotationSight) (o : Option Sight) → option_map (under_label (narrowed s)) (option_map narrow o) ≡ option_map narrowed (option_map (under_label s) o)
    under_all s None = refl
    under_all s (Some v) = ap Some (under_same s v)

    beginning_same : (here : Sight) (k : ClauseSight) → beginning (narrow here) (narrow_clause k) ≡ option_map narrow (beginning here k)
    beginning_same here (InBody v) = refl
    beginning_same here AtEntry = refl
    beginning_same here (AtEnd formals t) = refl
    beginning_same here (UnderLabel formals) = refl

    marked_same : (l : ℕ) (labels : List (ℕ × Sight)) → marked l (narrow_labels labels) ≡ option_map narrow (marked l labels)
    marked_same l [] = refl
    marked_same l (x ∷ xs) = by (nat_eq x.0 l) (marked_same l xs)
      where
        by : (b : Bool) → marked l (narrow_labels xs) ≡ option_map narrow (marked l xs) → cond b (Some (narrow x.1)) (marked l (narrow_labels xs)) ≡ option_map narrow (cond b (Some x.1) (marked l xs))
        by true e = refl
        by false e = e

    at_same : (s : AnnotationSight) (l : Label) → sight_at (narrowed s) l ≡ option_map narrowed (sight_at s l)
    at_same s label.Here = refl
    at_same s label.Pre = ap (option_map (under_label (narrowed s))) (beginning_same s.here s.clause) ∙ under_all s (beginning s.here s.clause)
    at_same s (label.Marked l) = ap (option_map (under_label (narrowed s))) (marked_same l s.labels) ∙ under_all s (marked l s.labels)

    result_wider : (k : ClauseSight) (t : Option PlainType) (x : Use) → IsResult (narrow_clause k) t x → IsResult k t x
    result_wider (InBody v) t x h = absurd h
    result_wider AtEntry t x h = absurd h
    result_wider (AtEnd formals u) t x h = h
    result_wider (UnderLabel formals) t x h = absurd h

    -- ---- annotations

    denotes_wider : (s : Sight) (t : Option PlainType) (x : Use) → TermDenotes (narrow s) t x → TermDenotes s t x
    denotes_wider s t x h = record {
      ctype = h.ctype;
      is = h.is;
      denotes = record { object = h.denotes.object; found = h.denotes.found; decl = h.denotes.decl; ctype = h.denotes.ctype };
    }

    mutual
      term_wider : (s : AnnotationSight) (t : LogicTerm) → TermTyped (narrowed s) t → TermTyped s t
      term_wider s (Number at t r n) h = h
      term_wider s (Letter at t r n) h = h
      term_wider s (Variable at t r x) h = denotes_wider s.here t x h
      term_wider s (Unary at t r op a) h = (h.0, h.1, h.2, term_wider s a h.3)
      term_wider s (Binary at t r op a b) h = (h.0, h.1, h.2, term_wider s a h.3, term_wider s b h.4)
      term_wider s (Cast at t r to a) h = (h.0, term_wider s a h.1)
      term_wider s (Choice at t r c a b) h = (h.0, h.1, predicate_wider s c h.2, term_wider s a h.3, term_wider s b h.4)
      term_wider s (Named at t r x) (inl h) = inl (result_wider s.clause t x h)
      term_wider s (Named at t r x) (inr h) = inr h
      term_wider s (At at t r l a) h = by (λ u v. term_wider u a v) (sight_at s l) refl (sym (at_same s l) ∙ h.1)
        where
          by : ((u : AnnotationSight) → TermTyped (narrowed u) a → TermTyped u a) → (o : Option AnnotationSight) → sight_at s l ≡ o → option_map narrowed o ≡ Some h.0 → TermTyped s (At at t r l a)
          by wider None e f = absurd cc
          by wider (Some u) e f = let same : narrowed u ≡ h.0 = cc in (u, e, h.2, wider u (subst (λ w. TermTyped w a) (sym same) h.3))
      term_wider s (Null at t r) h = h
      term_wider s (Deref at t r a) h = (h.0, h.1, h.2, term_wider s a h.3)
      term_wider s (Member at t r d a) h = (h.0, h.1, h.2, h.3, h.4, term_wider s a h.5, h.6)
      term_wider s (Address at t r a) h = (h.0, h.1, h.2, h.3, term_wider s a h.4)
      term_wider s (Moved at t r op n a b) h = (h.0, h.1, h.2, h.3, term_wider s a h.4, term_wider s b h.5, h.6)
      term_wider s (Difference at t r n a b) h = (h.0, h.1, h.2, term_wider s a h.3, term_wider s b h.4, h.5)
      term_wider s (Told at t r f a) h = (h.0, h.1, term_wider s a h.2)

      links_wider : (s : AnnotationSight) (a : LogicTerm) (links : Links) → LinksTyped (narrowed s) a links → LinksTyped s a links
      links_wider s a NoLink h = tt
      links_wider s a (Linked at r t rest) h = (h.0, term_wider s t h.1, links_wider s t rest h.2)

      zone_wider : (s : AnnotationSight) (z : Zone) → ZoneTyped (narrowed s) z → ZoneTyped s z
      zone_wider s (Object at n m a) h = (h.0, term_wider s a h.1, h.2, h.3)
      zone_wider s (Elements at n m a lo hi) h = (h.0, h.1, h.2, term_wider s a h.3, term_wider s lo h.4, term_wider s hi h.5, h.6, h.7)

      zones_wider : (s : AnnotationSight) (zs : Zones) → ZonesTyped (narrowed s) zs → ZonesTyped s zs
      zones_wider s NoZone h = tt
      zones_wider s (Another z rest) h = (zone_wider s z h.0, zones_wider s rest h.1)

      predicate_wider : (s : AnnotationSight) (p : Predicate) → PredicateTyped (narrowed s) p → PredicateTyped s p
      predicate_wider s (Truth at b) h = tt
      predicate_wider s (NonZero at t) h = (h.0, term_wider s t h.1)
      predicate_wider s (Chain at t links) h = (term_wider s t h.0, links_wider s t links h.1, h.2)
      predicate_wider s (Not at p) h = predicate_wider s p h
      predicate_wider s (Connected at c p q) h = (predicate_wider s p h.0, predicate_wider s q h.1)
      predicate_wider s (Branch at c p q) h = (predicate_wider s c h.0, predicate_wider s p h.1, predicate_wider s q h.2)
      predicate_wider s (Quantified at q gs p) h = guards_wider s gs p (λ u. predicate_wider u p) h
      predicate_wider s (Asks at f z) h = zone_wider s z h
      predicate_wider s (Separated at zs) h = zones_wider s zs h

      guards_wider : (s : AnnotationSight) (gs : Guards) (p : Predicate) → ((u : AnnotationSight) → PredicateTyped (narrowed u) p → PredicateTyped u p) → GuardsTyped (narrowed s) gs (λ u. PredicateTyped u p)
          → GuardsTyped s gs (λ u. PredicateTyped u p)
      guards_wider s NoGuard p wider h = wider s h
      guards_wider s (Guarded a y ys below b rest) p wider h = (h.0, h.1, term_wider s a h.2, term_wider s b h.3, h.4, h.5, guards_wider (with_binders s h.4) rest p wider h.6)

    clause_wider : (s : AnnotationSight) (b : ClauseBody) → ClauseTyped (narrowed s) b → ClauseTyped s b
    clause_wider s (Raw f) h = absurd h
    clause_wider s (Holds p) h = predicate_wider s p h
    clause_wider s (Value t) h = (h.0, term_wider s t h.1)
    clause_wider s (Behaviors names) h = absurd h

    annotations_wider : (s : AnnotationSight) (annots : List Annotation) → AnnotationsTyped (narrowed s) annots → AnnotationsTyped s annots
    annotations_wider s [] h = tt
    annotations_wider s (a ∷ rest) h = (clause_wider s a.body h.0, annotations_wider s rest h.1)

    -- ---- what is known where statements stand

    for_same : (s : AnnotationSight) (first : ForFirst) → inside_for (narrowed s) first ≡ narrowed (inside_for s first)
    for_same s first = λ i. record { here = first_last structs levels tags enums (inner s.here) first i; labels = narrow_labels s.labels; clause = narrow_clause s.clause; binders = s.binders }

    statement_same : (s : AnnotationSight) (a : Statement) → behind_labels (narrowed s) a ≡ narrowed (behind_labels s a)
    statement_same s (Empty at) = refl
    statement_same s (Eval at e) = refl
    statement_same s (Block at items) = refl
    statement_same s (If at e a b) = refl
    statement_same s (While at annots e a) = refl
    statement_same s (Do at a e) = refl
    statement_same s (For at annots first e step a) = refl
    statement_same s (Break at) = refl
    statement_same s (Continue at) = refl
    statement_same s (Return at e) = refl
    statement_same s (Labelled at l a) = statement_same (with_label s l) a
    statement_same s (Switch at e cases) = refl

    item_same : (s : AnnotationSight) (i : BlockItem) → labels_behind (narrowed s) i ≡ narrowed (labels_behind s i)
    item_same s (Declare ds) = refl
    item_same s (Specify at t) = refl
    item_same s (Run a) = statement_same s a
    item_same s (Asserts annots) = refl

    noted_same : (s : AnnotationSight) (i : BlockItem) → behind_noted (narrowed s) i ≡ narrowed (behind_noted s i)
    noted_same s i = λ j. record (item_same s i j) { here = behind_last structs levels tags enums s.here i j }

    case_same : (s : AnnotationSight) (items : BlockItems) → behind_case (narrowed s) items ≡ narrowed (behind_case s items)
    case_same s NoItem = refl
    case_same s (Then i rest) = ap (λ t. behind_case t rest) (item_same s i) ∙ case_same (labels_behind s i) rest

    -- ---- statements

    mutual
      statement_wider : (s : AnnotationSight) (a : Statement) → StatementNoted (narrowed s) a → StatementNoted s a
      statement_wider s (Empty at) h = tt
      statement_wider s (Eval at e) h = tt
      statement_wider s (Block at items) h = items_wider (inside_block s) items h
      statement_wider s (If at e a b) h = (statement_wider s a h.0, else_wider s b h.1)
      statement_wider s (While at annots e a) h = (annotations_wider s annots h.0, statement_wider s a h.1)
      statement_wider s (Do at a e) h = statement_wider s a h
      statement_wider s (For at annots first e step a) h = (
        annotations_wider (inside_for s first) annots (subst (λ t. AnnotationsTyped t annots) (for_same s first) h.0),
        statement_wider (inside_for s first) a (subst (λ t. StatementNoted t a) (for_same s first) h.1),
      )
      statement_wider s (Break at) h = tt
      statement_wider s (Continue at) h = tt
      statement_wider s (Return at e) h = tt
      statement_wider s (Labelled at l a) h = statement_wider (with_label s l) a h
      statement_wider s (Switch at e cases) h = cases_wider s cases h

      cases_wider : (s : AnnotationSight) (cases : Cases) → CasesNoted (narrowed s) cases → CasesNoted s cases
      cases_wider s NoCase h = tt
      cases_wider s (AnotherCase at v items rest) h = (items_wider s items h.0, cases_wider (behind_case s items) rest (subst (λ t. CasesNoted t rest) (case_same s items) h.1))

      else_wider : (s : AnnotationSight) (b : ElsePart) → ElseNoted (narrowed s) b → ElseNoted s b
      else_wider s NoElse h = tt
      else_wider s (Else a) h = statement_wider s a h

      item_wider : (s : AnnotationSight) (i : BlockItem) → ItemNoted (narrowed s) i → ItemNoted s i
      item_wider s (Declare ds) h = tt
      item_wider s (Specify at t) h = tt
      item_wider s (Run a) h = statement_wider s a h
      item_wider s (Asserts annots) h = annotations_wider s annots h

      items_wider : (s : AnnotationSight) (items : BlockItems) → ItemsNoted (narrowed s) items → ItemsNoted s items
      items_wider s NoItem h = tt
      items_wider s (Then i rest) h = (item_wider s i h.0, items_wider (behind_noted s i) rest (subst (λ t. ItemsNoted t rest) (noted_same s i) h.1))

    body_wider : (s : AnnotationSight) (b : Option Statement) → BodyNoted (narrowed s) b → BodyNoted s b
    body_wider s None h = tt
    body_wider s (Some (Block at items)) h = items_wider s items h
    body_wider s (Some _) h = tt

    pub function_wider : (s : Sight) (f : Function) → FunctionNoted (at_last structs levels tags enums s) f → FunctionNoted s f
    function_wider s f h =
        body_wider (in_body (with_parameters (inner s) f.params)) f.body (subst (λ t. BodyNoted (in_body t) f.body) (parameters_last structs levels tags enums (inner s) f.params) h)
