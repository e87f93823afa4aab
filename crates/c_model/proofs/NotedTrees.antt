-- Asserts that are typed are well typed where each was read and not typed before, and a statement, a body or a function that was typed stays so
-- when its asserts are typed.
use Rattle.c_syntax.specs.declared.types.CInt.{CInt}
use Rattle.c_model.specs.StatementTyping.{in_switch}
use Rattle.c_model.specs.Conversions.{promoted}
use Rattle.c_model.specs.TypedTrees.{CasesTyped}
use Rattle.c_model.specs.AnnotationTyping.{noted_cases}
use Rattle.std.proofs.Common.{◌≡◌, refl, sym, ap, ◌∙◌, subst, List, [], ◌∷◌, ◌++◌, map, Option, Some, None}
use Rattle.c_syntax.specs.Ctypes.{PlainType}
use Rattle.c_syntax.specs.Logic.{ClauseBody, Raw, Holds, Value, Annotation, Behaviors}
use Rattle.c_syntax.specs.Statements.{Statement, Empty, Eval, Block, If, While, Do, For, Break, Continue, Return, ElsePart, NoElse, Else, BlockItem, Declare, Specify}
use Rattle.c_syntax.specs.Statements.{Run, Asserts, BlockItems, NoItem, Then, Labelled, Switch, Cases, NoCase, AnotherCase}
use Rattle.c_syntax.specs.Programs.{FunctionContract, Function, TranslationUnit}
use Rattle.c_model.specs.Checked.{Good, one_part}
use Rattle.c_model.specs.ExpressionTyping.{Sight, inner}
use Rattle.c_model.specs.StatementTyping.{Around, in_loop, behind, behind_first, labels_within, labels_in_cases, labels_in_else, labels_in_item, labels_in_items, distinct_labels, typed_labels}
use Rattle.c_model.specs.UnitTyping.{FileItem, StructHead, Member, AnEnum, ATypedef, AGlobal, AFunction, items_of_file, sight_with, with_function, with_parameters, behind_item}
use Rattle.c_model.specs.PredicateTyping.{typed_annotations}
use Rattle.c_model.specs.AnnotationTyping.{noted_statement, noted_else, noted_item, noted_items, noted_body, known_before, known_at, noted_in, noted_contract, noted_function, noted_functions, noted_unit, with_contract, with_contracts}
use Rattle.c_model.specs.AnnotationSights.{AnnotationSight}
use Rattle.c_model.specs.AnnotationTyping.{inside_block, inside_for, with_label, behind_noted, behind_case, in_body}
use Rattle.c_model.specs.TypedTrees.{StatementTyped, ElseTyped, ItemTyped, ItemsTyped, around_body, BodyTyped, FunctionTyped}
use Rattle.c_model.specs.TypedPredicates.{AnnotationsTyped, IsRead, AreRead}
use Rattle.c_model.specs.TypedAnnotations.{StatementNoted, CasesNoted, ElseNoted, ItemNoted, ItemsNoted, BodyNoted, FunctionNoted, FunctionsNoted}
use Rattle.c_model.specs.Formed.{AreReadLoopClauses, IsShortReading, AreReadAsserts}
use Rattle.c_model.specs.EffectPlaces.{StatementPlaced, CasesPlaced, ElsePlaced, ItemPlaced, ItemsPlaced}
use Rattle.c_model.specs.ReadTree.{BodyRead, FunctionRead, FunctionsRead, functions_among}
use Rattle.c_model.proofs.TypedParts.{Gives, gives_of, gives_one, gives_if}
use Rattle.c_model.proofs.SortedTrees.{anything}
use Rattle.c_model.proofs.PredicateTrees.{annotations_well}
use Rattle.c_model.proofs.NotedWider.{function_wider}

-- ---- annotations

pub is_read : (b : ClauseBody) → IsShortReading b → IsRead b
is_read (Raw f) h = h.numbered
is_read (Holds p) h = absurd h
is_read (Value t) h = absurd h
is_read (Behaviors names) h = absurd h

pub are_read : (annots : List Annotation) → AreReadAsserts annots → AreRead annots
are_read [] h = tt
are_read (a ∷ rest) h = (is_read a.body h.0.body, are_read rest h.1)

pub loops_read : (annots : List Annotation) → AreReadLoopClauses annots → AreRead annots
loops_read [] h = tt
loops_read (a ∷ rest) h = (is_read a.body h.0.body, loops_read rest h.1)

-- those that were read are well typed
abbrev WellNoted : AnnotationSight → List Annotation → List Annotation → Type 0
WellNoted s a b = AreRead a → AnnotationsTyped s b

annotations_noted : (s : AnnotationSight) (annots : List Annotation) → Gives (WellNoted s annots) (typed_annotations s annots)
annotations_noted s annots = gives_if (AreRead annots) (AnnotationsTyped s) (typed_annotations s annots) (annotations_well s annots)

-- ---- statements whose annotations are typed

-- b is a with typed annotations
record IsNoted (s : AnnotationSight) (a b : Statement) : Type 0 where
  noted : StatementPlaced AreReadAsserts AreReadLoopClauses a → StatementNoted s b
  kept : (u : Sight) (r : Around) → StatementTyped u r a → StatementTyped u r b
  labels : labels_within b ≡ labels_within a

record IsElseNoted (s : AnnotationSight) (a b : ElsePart) : Type 0 where
  noted : ElsePlaced AreReadAsserts AreReadLoopClauses a → ElseNoted s b
  kept : (u : Sight) (r : Around) → ElseTyped u r a → ElseTyped u r b
  labels : labels_in_else b ≡ labels_in_else a

record IsItemNoted (s : AnnotationSight) (a b : BlockItem) : Type 0 where
  noted : ItemPlaced AreReadAsserts AreReadLoopClauses a → ItemNoted s b
  kept : (u : Sight) (r : Around) → ItemTyped u r a → ItemTyped u r b
  labels : labels_in_item b ≡ labels_in_item a
  sight : (u : Sight) → behind u b ≡ behind u a

record AreNoted (s : AnnotationSight) (a b : BlockItems) : Type 0 where
  noted : ItemsPlaced AreReadAsserts AreReadLoopClauses a → ItemsNoted s b
  kept : (u : Sight) (r : Around) → ItemsTyped u r a → ItemsTyped u r b
  labels : labels_in_items b ≡ labels_in_items a

record AreCasesNoted (s : AnnotationSight) (a b : Cases) : Type 0 where
  noted : CasesPlaced AreReadAsserts AreReadLoopClauses a → CasesNoted s b
  kept : (u : Sight) (r : Around) (k : CInt) → CasesTyped u r k a → CasesTyped u r k b
  labels : labels_in_cases b ≡ labels_in_cases a

mutual
  statement_noted : (s : AnnotationSight) (a : Statement) → Gives (IsNoted s a) (noted_statement s a)
  statement_noted s (Empty at) = record { noted = λ p. tt; kept = λ u r w. w; labels = refl }
  statement_noted s (Eval at e) = record { noted = λ p. tt; kept = λ u r w. w; labels = refl }
  statement_noted s (Block at items) =
      gives_one (AreNoted (inside_block s) items) (IsNoted s (Block at items)) (noted_items (inside_block s) items) (λ items. Good (Block at items)) (items_noted (inside_block s) items)
      (λ b w. record { noted = w.noted; kept = λ u. w.kept (inner u); labels = w.labels })
  statement_noted s (If at e a b) =
      gives_one (IsNoted s a) (IsNoted s (If at e a b)) (noted_statement s a) (λ a. one_part (noted_else s b) (λ b. Good (If at e a b))) (statement_noted s a) (λ c v.
      gives_one (IsElseNoted s b) (IsNoted s (If at e a b)) (noted_else s b) (λ b. Good (If at e c b)) (else_noted s b) (λ d w.
      record { noted = λ p. (v.noted p.0, w.noted p.1); kept = λ u r h. (h.0, v.kept u r h.1, w.kept u r h.2); labels = λ i. v.labels i ++ w.labels i }))
  statement_noted s (While at annots e a) =
      gives_one (WellNoted s annots) (IsNoted s (While at annots e a)) (typed_annotations s annots) (λ annots. one_part (noted_statement s a) (λ a. Good (While at annots e a))) (annotations_noted s annots) (λ n v.
      gives_one (IsNoted s a) (IsNoted s (While at annots e a)) (noted_statement s a) (λ a. Good (While at n e a)) (statement_noted s a) (λ c w.
      record { noted = λ p. (v (loops_read annots p.0), w.noted p.1); kept = λ u r h. (h.0, w.kept u (in_loop r) h.1); labels = w.labels }))
  statement_noted s (Do at a e) =
      gives_one (IsNoted s a) (IsNoted s (Do at a e)) (noted_statement s a) (λ a. Good (Do at a e)) (statement_noted s a) (λ c w.
      record { noted = w.noted; kept = λ u r h. (w.kept u (in_loop r) h.0, h.1); labels = w.labels })
  statement_noted s (For at annots first e step a) =
      gives_one (WellNoted (inside_for s first) annots) (IsNoted s (For at annots first e step a)) (typed_annotations (inside_for s first) annots)
      (λ annots. one_part (noted_statement (inside_for s first) a) (λ a. Good (For at annots first e step a))) (annotations_noted (inside_for s first) annots) (λ n v.
      gives_one (IsNoted (inside_for s first) a) (IsNoted s (For at annots first e step a)) (noted_statement (inside_for s first) a) (λ a. Good (For at n first e step a)) (statement_noted (inside_for s first) a) (λ c w.
      record { noted = λ p. (v (loops_read annots p.0), w.noted p.2); kept = λ u r h. (h.0, h.1, h.2, w.kept (behind_first (inner u) first) (in_loop r) h.3); labels = w.labels }))
  statement_noted s (Break at) = record { noted = λ p. tt; kept = λ u r w. w; labels = refl }
  statement_noted s (Continue at) = record { noted = λ p. tt; kept = λ u r w. w; labels = refl }
  statement_noted s (Return at e) = record { noted = λ p. tt; kept = λ u r w. w; labels = refl }
  statement_noted s (Labelled at l a) =
      gives_one (IsNoted (with_label s l) a) (IsNoted s (Labelled at l a)) (noted_statement (with_label s l) a) (λ a. Good (Labelled at l a)) (statement_noted (with_label s l) a) (λ c w.
      record { noted = w.noted; kept = w.kept; labels = ap (λ ls. (at, l) ∷ ls) w.labels })
  statement_noted s (Switch at e cases) =
      gives_one (AreCasesNoted s cases) (IsNoted s (Switch at e cases)) (noted_cases s cases) (λ x. Good (Switch at e x)) (cases_noted s cases) (λ x w.
      record { noted = w.noted; kept = λ u r h. (h.0, h.1, h.2, w.kept u (in_switch r) (promoted h.0) h.3); labels = w.labels })

  cases_noted : (s : AnnotationSight) (cases : Cases) → Gives (AreCasesNoted s cases) (noted_cases s cases)
  cases_noted s NoCase = record { noted = λ p. tt; kept = λ u r k w. w; labels = refl }
  cases_noted s (AnotherCase at v items rest) =
      gives_one (AreNoted s items) (AreCasesNoted s (AnotherCase at v items rest)) (noted_items s items) (λ x. one_part (noted_cases (behind_case s x) rest) (λ y. Good (AnotherCase at v x y))) (items_noted s items) (λ x p.
      gives_one (AreCasesNoted (behind_case s x) rest) (AreCasesNoted s (AnotherCase at v items rest)) (noted_cases (behind_case s x) rest) (λ y. Good (AnotherCase at v x y)) (cases_noted (behind_case s x) rest) (λ y q.
      record { noted = λ h. (p.noted h.1, q.noted h.2); kept = λ u r k h. (h.0, p.kept u r h.1, q.kept u r k h.2); labels = λ i. p.labels i ++ q.labels i }))

  else_noted : (s : AnnotationSight) (b : ElsePart) → Gives (IsElseNoted s b) (noted_else s b)
  else_noted s NoElse = record { noted = λ p. tt; kept = λ u r w. w; labels = refl }
  else_noted s (Else a) = gives_one (IsNoted s a) (IsElseNoted s (Else a)) (noted_statement s a) (λ a. Good (Else a)) (statement_noted s a) (λ c w. record { noted = w.noted; kept = w.kept; labels = w.labels })

  item_noted : (s : AnnotationSight) (i : BlockItem) → Gives (IsItemNoted s i) (noted_item s i)
  item_noted s (Declare ds) = record { noted = λ p. tt; kept = λ u r w. w; labels = refl; sight = λ u. refl }
  item_noted s (Specify at t) = record { noted = λ p. tt; kept = λ u r w. w; labels = refl; sight = λ u. refl }
  item_noted s (Run a) = gives_one (IsNoted s a) (IsItemNoted s (Run a)) (noted_statement s a) (λ a. Good (Run a)) (statement_noted s a) (λ c w. record { noted = w.noted; kept = w.kept; labels = w.labels; sight = λ u. refl })
  item_noted s (Asserts annots) =
      gives_one (WellNoted s annots) (IsItemNoted s (Asserts annots)) (typed_annotations s annots) (λ annots. Good (Asserts annots)) (annotations_noted s annots) (λ n w.
      record { noted = λ p. w (are_read annots p); kept = λ u r h. tt; labels = refl; sight = λ u. refl })

  items_noted : (s : AnnotationSight) (items : BlockItems) → Gives (AreNoted s items) (noted_items s items)
  items_noted s NoItem = record { noted = λ p. tt; kept = λ u r w. w; labels = refl }
  items_noted s (Then i rest) =
      gives_one (IsItemNoted s i) (AreNoted s (Then i rest)) (noted_item s i) (λ i. one_part (noted_items (behind_noted s i) rest) (λ rest. Good (Then i rest))) (item_noted s i) (λ j v.
      gives_one (AreNoted (behind_noted s j) rest) (AreNoted s (Then i rest)) (noted_items (behind_noted s j) rest) (λ rest. Good (Then j rest)) (items_noted (behind_noted s j) rest) (λ more w.
      record { noted = λ p. (v.noted p.0, w.noted p.1); kept = λ u r h. (v.kept u r h.0, w.kept (behind u j) r (subst (λ t. ItemsTyped t r rest) (sym (v.sight u)) h.1)); labels = λ k. v.labels k ++ w.labels k }))

-- ---- functions

record IsBodyNoted (s : AnnotationSight) (t : PlainType) (a b : Option Statement) : Type 0 where
  noted : BodyRead AreReadAsserts AreReadLoopClauses a → BodyNoted s b
  kept : (u : Sight) → BodyTyped u t a → BodyTyped u t b
  labels : typed_labels b ≡ typed_labels a

body_noted : (s : AnnotationSight) (t : PlainType) (b : Option Statement) → Gives (IsBodyNoted s t b) (noted_body s b)
body_noted s t None = record { noted = λ p. tt; kept = λ u h. h; labels = refl }
body_noted s t (Some (Block at items)) =
    gives_one (AreNoted s items) (IsBodyNoted s t (Some (Block at items))) (noted_items s items) (λ items. Good (Some (Block at items))) (items_noted s items) (λ b w.
    record { noted = λ p. w.noted p.0; kept = λ u. w.kept u (around_body t); labels = ap (distinct_labels []) w.labels })
body_noted s t (Some _) = record { noted = λ p. tt; kept = λ u h. h; labels = refl }

-- a function whose asserts are typed
pub record IsFunctionNoted (s : Sight) (f g : Function) : Type 0 where
  pub noted : FunctionRead AreReadAsserts AreReadLoopClauses f → FunctionNoted s g
  pub kept : FunctionTyped s f → FunctionTyped s g

pub function_noted : (all : List Function) (s : Sight) (f : Function) → Gives (IsFunctionNoted s f) (noted_function all s f)
function_noted all s f =
    gives_one (λ (c : Option FunctionContract). Unit {0}) (IsFunctionNoted s f) (noted_contract all s f f.contract) (λ c. one_part (noted_in (known_at f.place s) f) (λ b. Good (record f { contract = c; body = b })))
    (anything (noted_contract all s f f.contract)) (λ c u.
    gives_one (IsBodyNoted seen f.result f.body) (IsFunctionNoted s f) (noted_body seen f.body) (λ b. Good (record f { contract = c; body = b })) (body_noted seen f.result f.body) (λ b w. record {
      noted = λ p. function_wider (map (known_before f.place) s.structs) s.levels s.enum_tags s.enums s (record f { contract = c; body = b }) (w.noted p.body);
      kept = λ h. record { own_name = h.own_name; result = h.result; params = h.params; body = w.kept (with_parameters (inner s) f.params) h.body; labels = w.labels ∙ h.labels };
    }))
  where
    seen : AnnotationSight
    seen = in_body (with_parameters (inner (known_at f.place s)) f.params)

functions_noted : (p : TranslationUnit) (s : Sight) (is : List FileItem) → FunctionsRead AreReadAsserts AreReadLoopClauses (functions_among is) → Gives (FunctionsNoted p s is) (noted_functions p s is)
functions_noted p s [] r = refl
functions_noted p s (AFunction f ∷ is) r =
    gives_one (IsFunctionNoted (with_function p s f) f) (FunctionsNoted p s (AFunction f ∷ is)) (noted_function p.funcs (with_function p s f) f)
    (λ g. one_part (noted_functions p (behind_item p s (AFunction f)) is) (λ fs. Good (g ∷ fs))) (function_noted p.funcs (with_function p s f) f) (λ g v.
    gives_one (FunctionsNoted p (behind_item p s (AFunction f)) is) (FunctionsNoted p s (AFunction f ∷ is)) (noted_functions p (behind_item p s (AFunction f)) is) (λ fs. Good (g ∷ fs))
    (functions_noted p (behind_item p s (AFunction f)) is r.1) (λ fs w. (g, fs, refl, v.noted r.0, w)))
functions_noted p s (StructHead k x ∷ is) r = functions_noted p s is r
functions_noted p s (Member k m ends ∷ is) r = functions_noted p s is r
functions_noted p s (AnEnum e ∷ is) r = functions_noted p (behind_item p s (AnEnum e)) is r
functions_noted p s (ATypedef d ∷ is) r = functions_noted p (behind_item p s (ATypedef d)) is r
functions_noted p s (AGlobal d ∷ is) r = functions_noted p (behind_item p s (AGlobal d)) is r

-- contracts move, and bodies stay
moved_noted : (all : List Function) (p : TranslationUnit) (s : Sight) (is : List FileItem) (gs : List Function) → FunctionsNoted p s is gs → FunctionsNoted p s is (map (with_contract all) gs)
moved_noted all p s [] gs h = ap (map (with_contract all)) h
moved_noted all p s (AFunction f ∷ is) gs h =
    (with_contract all h.0, map (with_contract all) h.1, ap (map (with_contract all)) h.2, h.3, moved_noted all p (behind_item p s (AFunction f)) is h.1 h.4)
moved_noted all p s (StructHead k x ∷ is) gs h = moved_noted all p s is gs h
moved_noted all p s (Member k m ends ∷ is) gs h = moved_noted all p s is gs h
moved_noted all p s (AnEnum e ∷ is) gs h = moved_noted all p (behind_item p s (AnEnum e)) is gs h
moved_noted all p s (ATypedef d ∷ is) gs h = moved_noted all p (behind_item p s (ATypedef d)) is gs h
moved_noted all p s (AGlobal d ∷ is) gs h = moved_noted all p (behind_item p s (AGlobal d)) is gs h

-- the functions of a text whose annotations are typed
pub unit_noted : (p q : TranslationUnit) → FunctionsRead AreReadAsserts AreReadLoopClauses (functions_among (items_of_file p)) → noted_unit p ≡ Good q
    → FunctionsNoted p (sight_with p p.structs) (items_of_file p) q.funcs
unit_noted p q r is = gives_of (λ (q : TranslationUnit). FunctionsNoted p (sight_with p p.structs) (items_of_file p) q.funcs) (noted_unit p) q
    (gives_one (FunctionsNoted p (sight_with p p.structs) (items_of_file p)) (λ (q : TranslationUnit). FunctionsNoted p (sight_with p p.structs) (items_of_file p) q.funcs)
    (noted_functions p (sight_with p p.structs) (items_of_file p)) (λ fs. Good (record p { funcs = with_contracts fs })) (functions_noted p (sight_with p p.structs) (items_of_file p) r)
    (λ fs w. moved_noted fs p (sight_with p p.structs) (items_of_file p) fs w)) is
