-- Typing the annotations of statements keeps what they declare, how deep they are, their full expressions and their form.
use Rattle.c_model.specs.AnnotationTyping.{noted_cases}
use Rattle.c_model.specs.AnnotationSights.{AnnotationSight, marked}
use Rattle.c_model.specs.AnnotationTyping.{inside_block, inside_for, with_label, behind_labels, labels_behind, behind_noted, behind_case, in_body}
use Rattle.c_model.specs.FullExpressions.{EachInCases}
use Rattle.c_model.specs.Formed.{AreLoopClauses, AreReadLoopClauses, depth_of_cases, declared_in_cases}
use Rattle.std.proofs.Common.{◌≡◌, ℕ, suc, ◌+◌, ◌≤◌, max, Bool, true, false, cond, nat_eq, List, [], ◌∷◌, ◌++◌, Option, Some, None, refl, sym, ap, subst}
use Rattle.c_syntax.specs.Expressions.{Expression}
use Rattle.c_syntax.specs.Statements.{Declaration, Statement, Empty, Eval, Block, If, While, Do, For, Break, Continue, Return, Labelled, ElsePart, NoElse}
use Rattle.c_syntax.specs.Statements.{Else, ForFirst, NoFirst, First, BlockItem, Declare, Specify, Run, Asserts, BlockItems, NoItem, Then, Switch, Cases, NoCase}
use Rattle.c_syntax.specs.Statements.{AnotherCase}
use Rattle.c_model.specs.Checked.{Good, one_part}
use Rattle.c_model.specs.ExpressionTyping.{Entity, AnObject, AnEnumerator, Sight, entity_named, with_object, with_objects, inner}
use Rattle.c_model.specs.Integers.{fits}
use Rattle.c_syntax.specs.declared.types.CInt.TheVariants.{I32}
use Rattle.c_model.specs.StatementTyping.{behind, behind_first}
use Rattle.c_model.specs.UnitTyping.{with_parameter, with_parameters}
use Rattle.c_model.specs.PredicateTyping.{typed_annotations}
use Rattle.c_model.specs.AnnotationTyping.{noted_statement, noted_else, noted_item, noted_items, noted_body}
use Rattle.c_model.specs.Formed.{AreAsserts, AreReadAsserts, depth, depth_of_else, depth_of_item, depth_of_items, declared_within, declared_in_else, declared_in_first, declared_in_item, declared_in_items, declared_in_body}
use Rattle.c_model.specs.FullExpressions.{EachIn, EachInElse, EachInItem, EachInItems, EachInBody}
use Rattle.c_model.specs.EffectPlaces.{IsNoDeclaration, DeclareNothing, StatementPlaced, CasesPlaced, ElsePlaced, ItemPlaced, ItemsPlaced}
use Rattle.c_model.specs.ExpressionGrammar.{most_nested}
use Rattle.c_model.specs.ReadTree.{BodyRead}
use Rattle.c_model.specs.FileItems.{SeesValues}
use Rattle.c_model.proofs.TypedParts.{Gives, gives_one}
use Rattle.c_model.proofs.TypedDeclarations.{after_one}
use Rattle.c_model.proofs.NotedTerms.{SeesAll, AreSameNotes, annotations_kept}

-- ---- objects hide enumerators, and are none

abbrev IsValue : Entity → Type 0
IsValue (AnObject b) = Unit {0}
IsValue (AnEnumerator c) = fits I32 c.value ≡ true

all_values : (s : Sight) → SeesValues s → (x : ℕ) (r : Entity) → entity_named x s.entities ≡ Some r → IsValue r
all_values s k x (AnObject b) e = tt
all_values s k x (AnEnumerator c) e = k x c e

after_object : (s : Sight) (d : Declaration) → SeesValues s → SeesValues (with_object s d)
after_object s d k x c e = after_one IsValue x s.entities (AnObject (record { name = d.name; decl = d.place.offset; ctype = d.ctype })) (all_values s k x) tt (AnEnumerator c) e

after_objects : (s : Sight) (ds : List Declaration) → SeesValues s → SeesValues (with_objects s ds)
after_objects s [] k = k
after_objects s (d ∷ ds) k = after_objects (with_object s d) ds (after_object s d k)

values_behind : (s : Sight) (i : BlockItem) → SeesValues s → SeesValues (behind s i)
values_behind s (Declare ds) k = after_objects s ds k
values_behind s (Specify at t) k = k
values_behind s (Run a) k = k
values_behind s (Asserts annots) k = k

values_behind_first : (s : Sight) (first : ForFirst) → SeesValues s → SeesValues (behind_first s first)
values_behind_first s NoFirst k = k
values_behind_first s (First i) k = values_behind s i k

pub after_parameters : (s : Sight) (ds : List Declaration) → SeesValues s → SeesValues (with_parameters s ds)
after_parameters s [] k = k
after_parameters s (d ∷ ds) k = after_parameters (with_parameter s d) ds (by d.named)
  where
    by : (b : Bool) → SeesValues (cond b (with_object s d) s)
    by true = after_object s d k
    by false = k

-- ---- and so where annotations stand

pub values_in_body : (s : Sight) → SeesValues s → SeesAll (in_body s)
values_in_body s k = record { here = k; clause = k; labels = λ l v e. absurd cc }

values_inside : (s : AnnotationSight) → SeesAll s → SeesAll (inside_block s)
values_inside s k = record { here = k.here; clause = k.clause; labels = k.labels }

values_inside_for : (s : AnnotationSight) (first : ForFirst) → SeesAll s → SeesAll (inside_for s first)
values_inside_for s first k = record { here = values_behind_first (inner s.here) first k.here; clause = k.clause; labels = k.labels }

values_with_label : (s : AnnotationSight) (l : ℕ) → SeesAll s → SeesAll (with_label s l)
values_with_label s l k = record { here = k.here; clause = k.clause; labels = labels }
  where
    labels : (m : ℕ) (v : Sight) → marked m ((l, s.here) ∷ s.labels) ≡ Some v → SeesValues v
    labels m v e = by (nat_eq l m) e
      where
        by : (b : Bool) → cond b (Some s.here) (marked m s.labels) ≡ Some v → SeesValues v
        by true g = let same : s.here ≡ v = cc in subst SeesValues same k.here
        by false g = k.labels m v g

values_behind_labels : (s : AnnotationSight) (a : Statement) → SeesAll s → SeesAll (behind_labels s a)
values_behind_labels s (Empty at) k = k
values_behind_labels s (Eval at e) k = k
values_behind_labels s (Block at items) k = k
values_behind_labels s (If at e a b) k = k
values_behind_labels s (While at annots e a) k = k
values_behind_labels s (Do at a e) k = k
values_behind_labels s (For at annots first e step a) k = k
values_behind_labels s (Break at) k = k
values_behind_labels s (Continue at) k = k
values_behind_labels s (Return at e) k = k
values_behind_labels s (Labelled at l a) k = values_behind_labels (with_label s l) a (values_with_label s l k)
values_behind_labels s (Switch at e cases) k = k

values_labels_behind : (s : AnnotationSight) (i : BlockItem) → SeesAll s → SeesAll (labels_behind s i)
values_labels_behind s (Declare ds) k = k
values_labels_behind s (Specify at t) k = k
values_labels_behind s (Run a) k = values_behind_labels s a k
values_labels_behind s (Asserts annots) k = k

values_behind_noted : (s : AnnotationSight) (i : BlockItem) → SeesAll s → SeesAll (behind_noted s i)
values_behind_noted s i k = let m = values_labels_behind s i k in record { here = values_behind s.here i k.here; clause = m.clause; labels = m.labels }

values_behind_case : (s : AnnotationSight) (items : BlockItems) → SeesAll s → SeesAll (behind_case s items)
values_behind_case s NoItem k = k
values_behind_case s (Then i rest) k = values_behind_case (labels_behind s i) rest (values_labels_behind s i k)

-- ---- statements

module _ (P : Expression → Type 0) where
  record IsKept (s : AnnotationSight) (a b : Statement) : Type 0 where
    deep : depth b ≡ depth a
    declares : declared_within b ≡ declared_within a
    each : EachIn P a → EachIn P b
    placed : SeesAll s → StatementPlaced AreReadAsserts AreReadLoopClauses a → StatementPlaced AreAsserts AreLoopClauses b

  record IsElseKept (s : AnnotationSight) (a b : ElsePart) : Type 0 where
    deep : depth_of_else b ≡ depth_of_else a
    declares : declared_in_else b ≡ declared_in_else a
    each : EachInElse P a → EachInElse P b
    placed : SeesAll s → ElsePlaced AreReadAsserts AreReadLoopClauses a → ElsePlaced AreAsserts AreLoopClauses b

  record IsItemKept (s : AnnotationSight) (a b : BlockItem) : Type 0 where
    deep : depth_of_item b ≡ depth_of_item a
    declares : declared_in_item b ≡ declared_in_item a
    each : EachInItem P a → EachInItem P b
    placed : SeesAll s → ItemPlaced AreReadAsserts AreReadLoopClauses a → ItemPlaced AreAsserts AreLoopClauses b
    none : IsNoDeclaration a → IsNoDeclaration b

  record AreKept (s : AnnotationSight) (a b : BlockItems) : Type 0 where
    deep : depth_of_items b ≡ depth_of_items a
    declares : declared_in_items b ≡ declared_in_items a
    each : EachInItems P a → EachInItems P b
    placed : SeesAll s → ItemsPlaced AreReadAsserts AreReadLoopClauses a → ItemsPlaced AreAsserts AreLoopClauses b
    none : DeclareNothing a → DeclareNothing b

  record AreCasesKept (s : AnnotationSight) (a b : Cases) : Type 0 where
    deep : depth_of_cases b ≡ depth_of_cases a
    declares : declared_in_cases b ≡ declared_in_cases a
    each : EachInCases P a → EachInCases P b
    placed : SeesAll s → CasesPlaced AreReadAsserts AreReadLoopClauses a → CasesPlaced AreAsserts AreLoopClauses b

  mutual
    statement_kept : (s : AnnotationSight) (a : Statement) → Gives (IsKept s a) (noted_statement s a)
    statement_kept s (Empty at) = record { deep = refl; declares = refl; each = λ h. h; placed = λ k h. h }
    statement_kept s (Eval at e) = record { deep = refl; declares = refl; each = λ h. h; placed = λ k h. h }
    statement_kept s (Block at items) = gives_one (AreKept (inside_block s) items) (IsKept s (Block at items)) (noted_items (inside_block s) items) (λ x. Good (Block at x)) (items_kept (inside_block s) items)
        (λ x p. record { deep = ap (λ n. 1 + n) p.deep; declares = p.declares; each = p.each; placed = λ k. p.placed (values_inside s k) })
    statement_kept s (If at e a b) =
        gives_one (IsKept s a) (IsKept s (If at e a b)) (noted_statement s a) (λ x. one_part (noted_else s b) (λ y. Good (If at e x y))) (statement_kept s a) (λ x p.
        gives_one (IsElseKept s b) (IsKept s (If at e a b)) (noted_else s b) (λ y. Good (If at e x y)) (else_kept s b) (λ y q. record {
          deep = λ i. 1 + max (p.deep i) (q.deep i);
          declares = λ i. p.declares i ++ q.declares i;
          each = λ h. (h.0, p.each h.1, q.each h.2);
          placed = λ k h. (p.placed k h.0, q.placed k h.1);
        }))
    statement_kept s (While at annots e a) =
        gives_one (AreSameNotes s annots) (IsKept s (While at annots e a)) (typed_annotations s annots) (λ xs. one_part (noted_statement s a) (λ x. Good (While at xs e x))) (annotations_kept s annots) (λ xs n.
        gives_one (IsKept s a) (IsKept s (While at annots e a)) (noted_statement s a) (λ x. Good (While at xs e x)) (statement_kept s a) (λ x p. record {
          deep = ap (λ k. 1 + k) p.deep;
          declares = p.declares;
          each = λ h. (h.0, p.each h.1);
          placed = λ k h. (n.loops k h.0, p.placed k h.1);
        }))
    statement_kept s (Do at a e) = gives_one (IsKept s a) (IsKept s (Do at a e)) (noted_statement s a) (λ x. Good (Do at x e)) (statement_kept s a)
        (λ x p. record { deep = ap (λ n. 1 + n) p.deep; declares = p.declares; each = λ h. (p.each h.0, h.1); placed = p.placed })
    statement_kept s (For at annots first e step a) =
        gives_one (AreSameNotes (inside_for s first) annots) (IsKept s (For at annots first e step a)) (typed_annotations (inside_for s first) annots)
        (λ xs. one_part (noted_statement (inside_for s first) a) (λ x. Good (For at xs first e step x))) (annotations_kept (inside_for s first) annots) (λ xs n.
        gives_one (IsKept (inside_for s first) a) (IsKept s (For at annots first e step a)) (noted_statement (inside_for s first) a) (λ x. Good (For at xs first e step x))
        (statement_kept (inside_for s first) a) (λ x p. record {
          deep = ap (λ k. 1 + k) p.deep;
          declares = ap (λ ds. declared_in_first first ++ ds) p.declares;
          each = λ h. (h.0, h.1, h.2, p.each h.3);
          placed = λ k h. (n.loops (values_inside_for s first k) h.0, h.1, p.placed (values_inside_for s first k) h.2);
        }))
    statement_kept s (Break at) = record { deep = refl; declares = refl; each = λ h. h; placed = λ k h. h }
    statement_kept s (Continue at) = record { deep = refl; declares = refl; each = λ h. h; placed = λ k h. h }
    statement_kept s (Return at e) = record { deep = refl; declares = refl; each = λ h. h; placed = λ k h. h }
    statement_kept s (Labelled at l a) = gives_one (IsKept (with_label s l) a) (IsKept s (Labelled at l a)) (noted_statement (with_label s l) a) (λ x. Good (Labelled at l x)) (statement_kept (with_label s l) a)
        (λ x p. record { deep = ap (λ n. 1 + n) p.deep; declares = p.declares; each = p.each; placed = λ k. p.placed (values_with_label s l k) })
    statement_kept s (Switch at e cases) =
        gives_one (AreCasesKept s cases) (IsKept s (Switch at e cases)) (noted_cases s cases) (λ x. Good (Switch at e x)) (cases_kept s cases)
        (λ x p. record { deep = ap (λ n. 1 + n) p.deep; declares = p.declares; each = λ h. (h.0, p.each h.1); placed = p.placed })

    cases_kept : (s : AnnotationSight) (cases : Cases) → Gives (AreCasesKept s cases) (noted_cases s cases)
    cases_kept s NoCase = record { deep = refl; declares = refl; each = λ h. h; placed = λ k h. h }
    cases_kept s (AnotherCase at v items rest) =
        gives_one (AreKept s items) (AreCasesKept s (AnotherCase at v items rest)) (noted_items s items) (λ x. one_part (noted_cases (behind_case s x) rest) (λ y. Good (AnotherCase at v x y))) (items_kept s items) (λ x p.
        gives_one (AreCasesKept (behind_case s x) rest) (AreCasesKept s (AnotherCase at v items rest)) (noted_cases (behind_case s x) rest) (λ y. Good (AnotherCase at v x y)) (cases_kept (behind_case s x) rest) (λ y q. record {
          deep = λ k. max (p.deep k) (q.deep k);
          declares = λ k. p.declares k ++ q.declares k;
          each = λ h. (p.each h.0, q.each h.1);
          placed = λ k h. (p.none h.0, p.placed k h.1, q.placed (values_behind_case s x k) h.2);
        }))

    else_kept : (s : AnnotationSight) (b : ElsePart) → Gives (IsElseKept s b) (noted_else s b)
    else_kept s NoElse = record { deep = refl; declares = refl; each = λ h. h; placed = λ k h. h }
    else_kept s (Else a) = gives_one (IsKept s a) (IsElseKept s (Else a)) (noted_statement s a) (λ x. Good (Else x)) (statement_kept s a) (λ x p. record { deep = p.deep; declares = p.declares; each = p.each; placed = p.placed })

    item_kept : (s : AnnotationSight) (i : BlockItem) → Gives (IsItemKept s i) (noted_item s i)
    item_kept s (Declare ds) = record { deep = refl; declares = refl; each = λ h. h; placed = λ k h. h; none = λ h. h }
    item_kept s (Run a) =
        gives_one (IsKept s a) (IsItemKept s (Run a)) (noted_statement s a) (λ x. Good (Run x)) (statement_kept s a) (λ x p. record { deep = p.deep; declares = p.declares; each = p.each; placed = p.placed; none = λ h. h })
    item_kept s (Specify at t) = record { deep = refl; declares = refl; each = λ h. h; placed = λ k h. h; none = λ h. h }
    item_kept s (Asserts annots) = gives_one (AreSameNotes s annots) (IsItemKept s (Asserts annots)) (typed_annotations s annots) (λ x. Good (Asserts x)) (annotations_kept s annots)
        (λ x p. record { deep = refl; declares = refl; each = λ h. h; placed = p.asserts; none = λ h. h })

    items_kept : (s : AnnotationSight) (is : BlockItems) → Gives (AreKept s is) (noted_items s is)
    items_kept s NoItem = record { deep = refl; declares = refl; each = λ h. h; placed = λ k h. h; none = λ h. h }
    items_kept s (Then i rest) =
        gives_one (IsItemKept s i) (AreKept s (Then i rest)) (noted_item s i) (λ x. one_part (noted_items (behind_noted s x) rest) (λ xs. Good (Then x xs))) (item_kept s i) (λ x p.
        gives_one (AreKept (behind_noted s x) rest) (AreKept s (Then i rest)) (noted_items (behind_noted s x) rest) (λ xs. Good (Then x xs)) (items_kept (behind_noted s x) rest) (λ xs q. record {
          deep = λ k. max (p.deep k) (q.deep k);
          declares = λ k. p.declares k ++ q.declares k;
          each = λ h. (p.each h.0, q.each h.1);
          placed = λ k h. (p.placed k h.0, q.placed (values_behind_noted s x k) h.1);
          none = λ h. (p.none h.0, q.none h.1);
        }))

  -- ---- bodies

  pub record IsBodyKept (s : AnnotationSight) (a b : Option Statement) : Type 0 where
    pub declares : declared_in_body b ≡ declared_in_body a
    pub each : EachInBody P a → EachInBody P b
    pub read : SeesAll s → BodyRead AreReadAsserts AreReadLoopClauses a → BodyRead AreAsserts AreLoopClauses b

  pub body_kept : (s : AnnotationSight) (b : Option Statement) → Gives (IsBodyKept s b) (noted_body s b)
  body_kept s None = record { declares = refl; each = λ h. h; read = λ k h. h }
  body_kept s (Some (Block at items)) = gives_one (AreKept s items) (IsBodyKept s (Some (Block at items))) (noted_items s items) (λ x. Good (Some (Block at x))) (items_kept s items) (λ x p. record {
    declares = p.declares;
    each = p.each;
    read = λ k h. (p.placed k h.0, subst (λ n. 1 + n ≤ suc most_nested) (sym p.deep) h.1);
  })
  body_kept s (Some _) = record { declares = refl; each = λ h. h; read = λ k h. h }
