-- Labels that are known in a body are those that the definition knows: what is in sight at a mark doesn't change where more is declared behind it.
use Rattle.std.proofs.Common.{◌≡◌, ℕ, zero, suc, ◌≤◌, refl, sym, ap, ◌∙◌, subst, arith, List, [], ◌∷◌, ◌++◌, length, take, append_assoc, Bool, true, false, cond}
use Rattle.std.proofs.lemmas.List.{append-nil}
use Rattle.c_syntax.specs.Statements.{Declaration, Statement, Empty, Eval, Block, If, While, Do, For, Break, Continue, Return, Labelled, Switch, ForFirst, NoFirst, First}
use Rattle.c_syntax.specs.declared.statement.Item.{Item}
use Rattle.c_syntax.specs.Statements.{BlockItem, Declare, Specify, Run, Asserts, BlockItems, NoItem, Then, plain_item, plain_items}
use Rattle.c_model.specs.ExpressionTyping.{Sight, Entity, AnObject, with_object, with_objects, inner}
use Rattle.c_model.specs.AnnotationSights.{InBody, AnnotationSight}
use Rattle.c_model.specs.StatementTyping.{behind, behind_first}
use Rattle.c_model.specs.AnnotationTyping.{inside_block, inside_for, in_body, with_label, behind_labels, labels_behind, behind_noted, behind_case}
use Rattle.c_scopes.specs.declared.sight.Mark.{Mark}
use Rattle.c_scopes.specs.KnownLabels.{sight_of, known_labels}
use Rattle.c_scopes.specs.Sights.{left}
use Rattle.c_scopes.proofs.BlockItems.{append, plain_snoc}
use Rattle.c_scopes.proofs.Labels.{known_more}
use Rattle.c_function_rules.specs.Blocks.{behind_items}
use Rattle.c_typing.specs.NotedContracts.{all_numbered, next_number, other_numbers, with_numbered}
use Rattle.c_typing.specs.NotedLabels.{here, marks_before, marks_of_item, marks_in_items, marks_in_case, seen_in_body, AreMarks, IsInBody}

-- ---- lists

take_front : {A : Type 0} (n : ℕ) (xs ys : List A) → n ≤ length xs → take n (xs ++ ys) ≡ take n xs
take_front zero xs ys h = refl
take_front (suc n) [] ys h = absurd (omega (arith, h))
take_front (suc n) (x ∷ xs) ys h = let less : n ≤ length xs = omega (arith, h) in ap (λ l. x ∷ l) (take_front n xs ys less)

take_whole : {A : Type 0} (xs : List A) → take (length xs) xs ≡ xs
take_whole [] = refl
take_whole (x ∷ xs) = ap (λ l. x ∷ l) (take_whole xs)

longer : {A : Type 0} (xs : List A) (x : A) → length xs ≤ length (xs ++ x ∷ [])
longer [] x = omega arith
longer (y ∷ xs) x = let h = longer xs x in omega (arith, h)

-- ---- what grows

-- what was in sight at a mark of s is the same where t is in sight
pub record Grows (s t : Sight) : Type 0 where
  pub long : length s.entities ≤ length t.entities
  pub same : (m : Mark) → m.count ≤ length s.entities → sight_of t m ≡ sight_of s m

pub grows_same : (s : Sight) → Grows s s
grows_same s = record { long = omega arith; same = λ m h. refl }

grows_then : (s t u : Sight) → Grows s t → Grows t u → Grows s u
grows_then s t u g h =
    let a = g.long in
    let b = h.long in
    record { long = omega (arith, a, b); same = λ m k. let le : m.count ≤ length t.entities = omega (arith, a, k) in h.same m le ∙ g.same m k }

grows_entity : (s : Sight) (e : Entity) → Grows s (record s { entities = s.entities ++ e ∷ [] })
grows_entity s e = record { long = longer s.entities e; same = λ m h. ap (λ es. record s { entities = es; innermost = m.innermost }) (take_front m.count s.entities (e ∷ []) h) }

grows_object : (s : Sight) (d : Declaration) → Grows s (with_object s d)
grows_object s d = grows_entity s (AnObject (record { name = d.name; decl = d.place.offset; ctype = d.ctype }))

grows_objects : (s : Sight) (ds : List Declaration) → Grows s (with_objects s ds)
grows_objects s [] = grows_same s
grows_objects s (d ∷ ds) = grows_then s (with_object s d) (with_objects (with_object s d) ds) (grows_object s d) (grows_objects (with_object s d) ds)

pub grows_behind : (s : Sight) (i : BlockItem) → Grows s (behind s i)
grows_behind s (Declare ds) = grows_objects s ds
grows_behind s (Specify at t) = grows_same s
grows_behind s (Run a) = grows_same s
grows_behind s (Asserts annots) = grows_same s

pub grows_inner : (s : Sight) → Grows s (inner s)
grows_inner s = record { long = omega arith; same = λ m h. refl }

pub grows_first : (s : Sight) (first : ForFirst) → Grows s (behind_first (inner s) first)
grows_first s NoFirst = grows_inner s
grows_first s (First i) = grows_then s (inner s) (behind (inner s) i) (grows_inner s) (grows_behind (inner s) i)

grows_numbered : (s : Sight) (d : Declaration) (n : ℕ) → Grows s (with_numbered s d n)
grows_numbered s d n = by d.named
  where
    by : (t : Bool) → Grows s (cond t (record s { entities = s.entities ++ AnObject (record { name = d.name; decl = n; ctype = d.ctype }) ∷ [] }) s)
    by true = grows_entity s (AnObject (record { name = d.name; decl = n; ctype = d.ctype }))
    by false = grows_same s

grows_all_numbered : (s : Sight) (ds : List Declaration) (ns : List ℕ) → Grows s (all_numbered s ds ns)
grows_all_numbered s [] ns = grows_same s
grows_all_numbered s (d ∷ ds) ns =
    grows_then s (with_numbered s d (next_number ns d)) (all_numbered s (d ∷ ds) ns) (grows_numbered s d (next_number ns d)) (grows_all_numbered (with_numbered s d (next_number ns d)) ds (other_numbers ns))

-- parameters that had numbers are out of sight again
pub numbered_left : (s t u v : Sight) (count innermost : ℕ) (ds : List Declaration) (ns : List ℕ) → t ≡ inner s → count ≡ length s.entities → innermost ≡ s.innermost → v ≡ left count innermost u → u ≡ all_numbered t ds ns → v ≡ s
numbered_left s t u v count innermost ds ns inside counted kept ends seen =
    let m : Mark = here s in
    let some : length s.entities ≤ length (inner s).entities = omega arith in
    ends ∙ (λ i. left (counted i) (kept i) (seen i)) ∙ ap (λ w. sight_of (all_numbered w ds ns) m) inside
    ∙ (grows_all_numbered (inner s) ds ns).same m some ∙ ap (λ es. record s { entities = es }) (take_whole s.entities)

-- ---- labels

known_same : (s t : Sight) → Grows s t → (ls : List (ℕ × Mark)) → AreMarks s ls → known_labels t ls ≡ known_labels s ls
known_same s t g [] h = refl
known_same s t g (l ∷ ls) h = λ i. known_same s t g ls h.1 i ++ (l.0, g.same l.1 h.0 i) ∷ []

marks_more : (s t : Sight) → Grows s t → (ls : List (ℕ × Mark)) → AreMarks s ls → AreMarks t ls
marks_more s t g [] h = tt
marks_more s t g (l ∷ ls) h = let a = h.0 in let b = g.long in (omega (arith, a, b), marks_more s t g ls h.1)

marks_joined : (s : Sight) (ls ks : List (ℕ × Mark)) → AreMarks s ls → AreMarks s ks → AreMarks s (ls ++ ks)
marks_joined s [] ks h k = k
marks_joined s (l ∷ ls) ks h k = (h.0, marks_joined s ls ks h.1 k)

-- labels that stand in a body stand there where more is in sight
pub in_body_more : (s t : Sight) (begin : Mark) (ls : List (ℕ × Mark)) → Grows s t → IsInBody s begin ls → IsInBody t begin ls
in_body_more s t begin ls g h = let a = h.start in let b = g.long in record { start = omega (arith, a, b); labels = marks_more s t g ls h.labels }

-- one label more, which stands here
one_here : (s : Sight) (begin : Mark) (ls : List (ℕ × Mark)) (l : ℕ) → IsInBody s begin ls → IsInBody s begin (ls ++ (l, here s) ∷ [])
one_here s begin ls l h = record { start = h.start; labels = marks_joined s ls ((l, here s) ∷ []) h.labels (omega arith, tt) }

-- what a clause may name, where more is in sight
pub seen_more : (s t : Sight) (begin : Mark) (ls : List (ℕ × Mark)) → Grows s t → IsInBody s begin ls → record (seen_in_body s begin ls) { here = t } ≡ seen_in_body t begin ls
seen_more s t begin ls g h = λ i. record { here = t; labels = sym (known_same s t g ls h.labels) i; clause = InBody (sym (g.same begin h.start) i); binders = [] }

pub seen_inside : (s : Sight) (begin : Mark) (ls : List (ℕ × Mark)) → IsInBody s begin ls → inside_block (seen_in_body s begin ls) ≡ seen_in_body (inner s) begin ls
seen_inside s begin ls h = seen_more s (inner s) begin ls (grows_inner s) h

pub seen_inside_for : (s : Sight) (begin : Mark) (ls : List (ℕ × Mark)) (first : ForFirst) → IsInBody s begin ls → inside_for (seen_in_body s begin ls) first ≡ seen_in_body (behind_first (inner s) first) begin ls
seen_inside_for s begin ls first h = seen_more s (behind_first (inner s) first) begin ls (grows_first s first) h

-- a label that stands here
pub seen_label : (s : Sight) (begin : Mark) (ls : List (ℕ × Mark)) (l : ℕ) → with_label (seen_in_body s begin ls) l ≡ seen_in_body s begin (ls ++ (l, here s) ∷ [])
seen_label s begin ls l =
    let now : s ≡ sight_of s (here s) = ap (λ es. record s { entities = es }) (sym (take_whole s.entities)) in
    λ i. record { here = s; labels = (ap (λ (t : Sight). (l, t) ∷ known_labels s ls) now ∙ sym (known_more s ls (l, here s))) i; clause = InBody (sight_of s begin); binders = [] }

nothing_more : (s : Sight) (begin : Mark) (ls : List (ℕ × Mark)) → seen_in_body s begin ls ≡ seen_in_body s begin (ls ++ [])
nothing_more s begin ls = ap (seen_in_body s begin) (sym (append-nil ls))

-- behind the labels before a statement
seen_behind_labels : (s : Sight) (begin : Mark) (ls : List (ℕ × Mark)) (a : Statement) → behind_labels (seen_in_body s begin ls) a ≡ seen_in_body s begin (ls ++ marks_before (here s) a)
seen_behind_labels s begin ls (Labelled at l a) =
    ap (λ v. behind_labels v a) (seen_label s begin ls l) ∙ seen_behind_labels s begin (ls ++ (l, here s) ∷ []) a ∙ ap (seen_in_body s begin) (append_assoc ls ((l, here s) ∷ []) (marks_before (here s) a))
seen_behind_labels s begin ls (Empty at) = nothing_more s begin ls
seen_behind_labels s begin ls (Eval at e) = nothing_more s begin ls
seen_behind_labels s begin ls (Block at items) = nothing_more s begin ls
seen_behind_labels s begin ls (If at e a b) = nothing_more s begin ls
seen_behind_labels s begin ls (While at annots e a) = nothing_more s begin ls
seen_behind_labels s begin ls (Do at a e) = nothing_more s begin ls
seen_behind_labels s begin ls (For at annots first e step a) = nothing_more s begin ls
seen_behind_labels s begin ls (Break at) = nothing_more s begin ls
seen_behind_labels s begin ls (Continue at) = nothing_more s begin ls
seen_behind_labels s begin ls (Return at e) = nothing_more s begin ls
seen_behind_labels s begin ls (Switch at e cases) = nothing_more s begin ls

seen_labels_behind : (s : Sight) (begin : Mark) (ls : List (ℕ × Mark)) (i : BlockItem) → labels_behind (seen_in_body s begin ls) i ≡ seen_in_body s begin (ls ++ marks_of_item (here s) i)
seen_labels_behind s begin ls (Declare ds) = nothing_more s begin ls
seen_labels_behind s begin ls (Specify at t) = nothing_more s begin ls
seen_labels_behind s begin ls (Run a) = seen_behind_labels s begin ls a
seen_labels_behind s begin ls (Asserts annots) = nothing_more s begin ls

before_here : (s : Sight) (a : Statement) → AreMarks s (marks_before (here s) a)
before_here s (Labelled at l a) = (omega arith, before_here s a)
before_here s (Empty at) = tt
before_here s (Eval at e) = tt
before_here s (Block at items) = tt
before_here s (If at e a b) = tt
before_here s (While at annots e a) = tt
before_here s (Do at a e) = tt
before_here s (For at annots first e step a) = tt
before_here s (Break at) = tt
before_here s (Continue at) = tt
before_here s (Return at e) = tt
before_here s (Switch at e cases) = tt

item_here : (s : Sight) (i : BlockItem) → AreMarks s (marks_of_item (here s) i)
item_here s (Declare ds) = tt
item_here s (Specify at t) = tt
item_here s (Run a) = before_here s a
item_here s (Asserts annots) = tt

-- the labels before an item stand in the body
labels_here : (s : Sight) (begin : Mark) (ls : List (ℕ × Mark)) (i : BlockItem) → IsInBody s begin ls → IsInBody s begin (ls ++ marks_of_item (here s) i)
labels_here s begin ls i h = record { start = h.start; labels = marks_joined s ls (marks_of_item (here s) i) h.labels (item_here s i) }

pub in_body_behind : (s : Sight) (begin : Mark) (ls : List (ℕ × Mark)) (i : BlockItem) → IsInBody s begin ls → IsInBody (behind s i) begin (ls ++ marks_of_item (here s) i)
in_body_behind s begin ls i h = in_body_more s (behind s i) begin (ls ++ marks_of_item (here s) i) (grows_behind s i) (labels_here s begin ls i h)

-- behind an item
pub seen_behind : (s : Sight) (begin : Mark) (ls : List (ℕ × Mark)) (i : BlockItem) → IsInBody s begin ls → behind_noted (seen_in_body s begin ls) i ≡ seen_in_body (behind s i) begin (ls ++ marks_of_item (here s) i)
seen_behind s begin ls i h =
    ap (λ (v : AnnotationSight). record v { here = behind s i }) (seen_labels_behind s begin ls i)
    ∙ seen_more s (behind s i) begin (ls ++ marks_of_item (here s) i) (grows_behind s i) (labels_here s begin ls i h)

-- ---- cases

pub in_body_case : (s : Sight) (begin : Mark) (ls : List (ℕ × Mark)) (items : BlockItems) → IsInBody s begin ls → IsInBody s begin (ls ++ marks_in_case (here s) items)
in_body_case s begin ls NoItem h = subst (IsInBody s begin) (sym (append-nil ls)) h
in_body_case s begin ls (Then i rest) h =
    subst (IsInBody s begin) (append_assoc ls (marks_of_item (here s) i) (marks_in_case (here s) rest)) (in_body_case s begin (ls ++ marks_of_item (here s) i) rest (labels_here s begin ls i h))

pub seen_behind_case : (s : Sight) (begin : Mark) (ls : List (ℕ × Mark)) (items : BlockItems) → behind_case (seen_in_body s begin ls) items ≡ seen_in_body s begin (ls ++ marks_in_case (here s) items)
seen_behind_case s begin ls NoItem = nothing_more s begin ls
seen_behind_case s begin ls (Then i rest) =
    ap (λ v. behind_case v rest) (seen_labels_behind s begin ls i) ∙ seen_behind_case s begin (ls ++ marks_of_item (here s) i) rest
    ∙ ap (seen_in_body s begin) (append_assoc ls (marks_of_item (here s) i) (marks_in_case (here s) rest))

-- ---- rows of items

-- the labels before items, with one more
marks_snoc : (s : Sight) (is : BlockItems) (i : BlockItem) → marks_in_items s (append is (Then i NoItem)) ≡ marks_in_items s is ++ marks_of_item (here (behind_items s is)) i
marks_snoc s NoItem i = append-nil (marks_of_item (here s) i)
marks_snoc s (Then j js) i =
    ap (λ l. marks_of_item (here s) j ++ l) (marks_snoc (behind s j) js i)
    ∙ sym (append_assoc (marks_of_item (here s) j) (marks_in_items (behind s j) js) (marks_of_item (here (behind_items (behind s j) js)) i))

pub labels_more : (s u : Sight) (ls ks ks' : List (ℕ × Mark)) (done done' : List Item) (x : Item) → u ≡ behind_items s (plain_items done) → ks ≡ ls ++ marks_in_items s (plain_items done) → ks' ≡ ks ++ marks_of_item (here u) (plain_item x)
    → done' ≡ done ++ x ∷ [] → ks' ≡ ls ++ marks_in_items s (plain_items done')
labels_more s u ls ks ks' done done' x before labels now more =
    now ∙ ap (λ l. l ++ marks_of_item (here u) (plain_item x)) labels ∙ append_assoc ls (marks_in_items s (plain_items done)) (marks_of_item (here u) (plain_item x))
    ∙ ap (λ v. ls ++ (marks_in_items s (plain_items done) ++ marks_of_item (here v) (plain_item x))) before
    ∙ ap (λ l. ls ++ l) (sym (marks_snoc s (plain_items done) (plain_item x)))
    ∙ ap (λ is. ls ++ marks_in_items s is) (sym (ap plain_items more ∙ plain_snoc done x))

-- labels that were there before others are left where only as many are kept
pub labels_left : (ls ks js : List (ℕ × Mark)) (count : ℕ) (more : List (ℕ × Mark)) → count ≡ length ls → ks ≡ ls ++ more → js ≡ take count ks → js ≡ ls
labels_left ls ks js count more counted grown left =
    left ∙ ap (λ n. take n ks) counted ∙ ap (take (length ls)) grown ∙ front (length ls) ls more
  where
    same : (ls more : List (ℕ × Mark)) → length ls ≤ length ls
    same ls more = omega arith

    front : (n : ℕ) (ls more : List (ℕ × Mark)) → take (length ls) (ls ++ more) ≡ ls
    front n ls more = take_front (length ls) ls more (same ls more) ∙ take_whole ls

-- labels that begin with others, also behind more
pub begins_more : (n : ℕ) (ls ks ks' more : List (ℕ × Mark)) → take n ks ≡ ls → ks' ≡ ks ++ more → n ≤ length ks → take n ks' ≡ ls
begins_more n ls ks ks' more begins grown long = ap (take n) grown ∙ take_front n ks more long ∙ begins

pub longer_more : (ls ks ks' more : List (ℕ × Mark)) → ks' ≡ ks ++ more → length ls ≤ length ks → length ls ≤ length ks'
longer_more ls ks ks' more grown long = subst (λ l. length ls ≤ length l) (sym grown) (let h = longer_by ks more in omega (arith, h, long))
  where
    longer_by : (xs ys : List (ℕ × Mark)) → length xs ≤ length (xs ++ ys)
    longer_by [] ys = omega arith
    longer_by (x ∷ xs) ys = let h = longer_by xs ys in omega (arith, h)

-- ---- in words of what the code finds

pub in_body_inside : (s t : Sight) (begin : Mark) (ls : List (ℕ × Mark)) → t ≡ inner s → IsInBody s begin ls → IsInBody t begin ls
in_body_inside s t begin ls is h = subst (λ v. IsInBody v begin ls) (sym is) (in_body_more s (inner s) begin ls (grows_inner s) h)

pub in_body_label : (s : Sight) (begin : Mark) (ls ks : List (ℕ × Mark)) (l : ℕ) (m : Mark) → m ≡ here s → ks ≡ ls ++ (l, m) ∷ [] → IsInBody s begin ls → IsInBody s begin ks
in_body_label s begin ls ks l m is grown h = subst (IsInBody s begin) (sym (grown ∙ ap (λ m. ls ++ (l, m) ∷ []) is)) (one_here s begin ls l h)

-- in a `for`, behind what stands first
pub in_body_for : (s t u : Sight) (begin : Mark) (ls : List (ℕ × Mark)) (first : ForFirst) → t ≡ inner s → u ≡ behind_first t first → IsInBody s begin ls → IsInBody u begin ls
in_body_for s t u begin ls first inside seen h =
    subst (λ v. IsInBody v begin ls) (sym (seen ∙ ap (λ v. behind_first v first) inside)) (in_body_more s (behind_first (inner s) first) begin ls (grows_first s first) h)

pub seen_for : (s t u : Sight) (begin : Mark) (ls : List (ℕ × Mark)) (first : ForFirst) → t ≡ inner s → u ≡ behind_first t first → IsInBody s begin ls → seen_in_body u begin ls ≡ inside_for (seen_in_body s begin ls) first
seen_for s t u begin ls first inside seen h = ap (λ v. seen_in_body v begin ls) (seen ∙ ap (λ v. behind_first v first) inside) ∙ sym (seen_inside_for s begin ls first h)

pub seen_at_label : (s : Sight) (begin : Mark) (ls ks : List (ℕ × Mark)) (l : ℕ) (m : Mark) → m ≡ here s → ks ≡ ls ++ (l, m) ∷ [] → seen_in_body s begin ks ≡ with_label (seen_in_body s begin ls) l
seen_at_label s begin ls ks l m is grown = ap (seen_in_body s begin) (grown ∙ ap (λ m. ls ++ (l, m) ∷ []) is) ∙ sym (seen_label s begin ls l)

-- behind an item
pub seen_after : (s t : Sight) (begin : Mark) (ls ks : List (ℕ × Mark)) (x : Item) → IsInBody s begin ls → t ≡ behind s (plain_item x) → ks ≡ ls ++ marks_of_item (here s) (plain_item x)
    → seen_in_body t begin ks ≡ behind_noted (seen_in_body s begin ls) (plain_item x)
seen_after s t begin ls ks x h now grown = (λ i. seen_in_body (now i) begin (grown i)) ∙ sym (seen_behind s begin ls (plain_item x) h)

pub in_body_after : (s t : Sight) (begin : Mark) (ls ks : List (ℕ × Mark)) (x : Item) → IsInBody s begin ls → t ≡ behind s (plain_item x) → ks ≡ ls ++ marks_of_item (here s) (plain_item x) → IsInBody t begin ks
in_body_after s t begin ls ks x h now grown = subst (λ v. IsInBody v begin ks) (sym now) (subst (IsInBody (behind s (plain_item x)) begin) (sym grown) (in_body_behind s begin ls (plain_item x) h))

-- ---- where a body begins

pub begins_body : (s : Sight) (m : Mark) (ls : List (ℕ × Mark)) → m ≡ here s → ls ≡ [] → IsInBody s m ls
begins_body s m ls is none = subst (IsInBody s m) (sym none) (subst (λ m. IsInBody s m []) (sym is) (record { start = omega arith; labels = tt }))

pub seen_at_beginning : (s : Sight) (m : Mark) (ls : List (ℕ × Mark)) → m ≡ here s → ls ≡ [] → seen_in_body s m ls ≡ in_body s
seen_at_beginning s m ls is none =
    (λ i. seen_in_body s (is i) (none i)) ∙ (λ i. record { here = s; labels = []; clause = InBody (ap (λ es. record s { entities = es }) (take_whole s.entities) i); binders = [] })
