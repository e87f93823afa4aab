-- The places of the terms that a function keeps at labels are those of its terms without ranges.
use Rattle.std.proofs.Common.{◌≡◌, ℕ, ◌+◌, ◌≤◌, cond, nat_eq, List, [], ◌∷◌, ◌++◌, map, Option, Some, None, option_map, refl, sym, ap, subst, ◌∙◌}
use Rattle.std.specs.List.{AllByRecursion}
use Rattle.c_syntax.specs.declared.place.Place.{Place}
use Rattle.c_syntax.specs.declared.logic.Label.{Label}
use Rattle.c_syntax.specs.declared.logic.Label.TheVariants as label
use Rattle.c_syntax.specs.Logic as logic
use Rattle.c_syntax.specs.Logic.{LogicTerm, Links, NoLink, Linked, Predicate, Guards, NoGuard, Guarded, Zone, Object, Elements, Zones, NoZone, Another, ClauseBody, Raw, Holds, Behaviors, Annotation}
use Rattle.c_syntax.specs.Statements.{Statement, Empty, Eval, Block, If, While, Do, For, Break, Continue, Return, Labelled, Switch, Cases, NoCase, AnotherCase}
use Rattle.c_syntax.specs.Statements.{ElsePart, NoElse, Else, BlockItem, Declare, Specify, Run, Asserts, BlockItems, NoItem, Then}
use Rattle.c_syntax.specs.Programs.{NamedBehavior, FunctionContract, Function}
use Rattle.c_model.specs.PredicateTyping.{place_of_term}
use Rattle.c_model.specs.KeptTerms.{Entry, entries_at, offset_of, planned, StandApart, in_term, in_links, in_zone, in_zones, in_predicate, in_guards, in_clause, in_annotations, in_behaviors, in_contract}
use Rattle.c_model.specs.KeptTerms.{in_statement, in_cases, in_else, in_first, in_item, in_items, in_body}
use Rattle.c_model.specs.Unranged.{unranged_term, unranged_links, unranged_zone, unranged_zones, unranged_pred, unranged_guards, unranged_clause, unranged_annotations}
use Rattle.c_model.specs.UnrangedPrograms.{unranged_statement, unranged_cases, unranged_else, unranged_item, unranged_items, unranged_behavior, unranged_contract, unranged_function}
use Rattle.c_model.proofs.UnrangedTerms.{Alike, itself, beside}
use Rattle.c_model.proofs.PlacedSorts.{joined}

abbrev without : Entry → Entry
without x = (x.0, unranged_term x.1)

same_place : (t : LogicTerm) → place_of_term (unranged_term t) ≡ place_of_term t
same_place (logic.Number at t r n) = refl
same_place (logic.Letter at t r n) = refl
same_place (logic.Variable at t r x) = refl
same_place (logic.Unary at t r op a) = refl
same_place (logic.Binary at t r op a b) = refl
same_place (logic.Cast at t r to a) = refl
same_place (logic.Choice at t r c a b) = refl
same_place (logic.Named at t r x) = refl
same_place (logic.At at t r l a) = refl
same_place (logic.Null at t r) = refl
same_place (logic.Deref at t r a) = refl
same_place (logic.Member at t r d a) = refl
same_place (logic.Address at t r a) = refl
same_place (logic.Moved at t r op n a b) = refl
same_place (logic.Difference at t r n a b) = refl
same_place (logic.Told at t r f a) = refl

same_count : (o : ℕ) (xs : List Entry) → entries_at o (map without xs) ≡ entries_at o xs
same_count o [] = refl
same_count o (x ∷ xs) = λ i. cond (nat_eq (ap (λ (p : Place). p.offset) (same_place x.1) i) o) 1 0 + same_count o xs i

mapped : (xs ys : List Entry) → map without xs ++ map without ys ≡ map without (xs ++ ys)
mapped [] ys = refl
mapped (x ∷ xs) ys = ap (λ l. without x ∷ l) (mapped xs ys)

two : (a b : List Entry) (xs ys : List Entry) → a ≡ map without xs → b ≡ map without ys → a ++ b ≡ map without (xs ++ ys)
two a b xs ys e f = (λ i. e i ++ f i) ∙ mapped xs ys

mutual
  term_kept : (t : LogicTerm) → in_term (unranged_term t) ≡ map without (in_term t)
  term_kept (logic.Number at t r n) = refl
  term_kept (logic.Letter at t r n) = refl
  term_kept (logic.Variable at t r x) = refl
  term_kept (logic.Unary at t r op a) = term_kept a
  term_kept (logic.Binary at t r op a b) = two _ _ (in_term a) (in_term b) (term_kept a) (term_kept b)
  term_kept (logic.Cast at t r to a) = term_kept a
  term_kept (logic.Choice at t r c a b) = two _ _ (in_predicate c) (in_term a ++ in_term b) (predicate_kept c) (two _ _ (in_term a) (in_term b) (term_kept a) (term_kept b))
  term_kept (logic.Named at t r x) = refl
  term_kept (logic.At at t r label.Here a) = term_kept a
  term_kept (logic.At at t r label.Pre a) = refl
  term_kept (logic.At at t r (label.Marked l) a) = refl
  term_kept (logic.Null at t r) = refl
  term_kept (logic.Deref at t r a) = term_kept a
  term_kept (logic.Member at t r d a) = term_kept a
  term_kept (logic.Address at t r a) = term_kept a
  term_kept (logic.Moved at t r op n a b) = two _ _ (in_term a) (in_term b) (term_kept a) (term_kept b)
  term_kept (logic.Difference at t r n a b) = two _ _ (in_term a) (in_term b) (term_kept a) (term_kept b)
  term_kept (logic.Told at t r f a) = term_kept a

  links_kept : (l : Links) → in_links (unranged_links l) ≡ map without (in_links l)
  links_kept NoLink = refl
  links_kept (Linked at r t rest) = two _ _ (in_term t) (in_links rest) (term_kept t) (links_kept rest)

  zone_kept : (z : Zone) → in_zone (unranged_zone z) ≡ map without (in_zone z)
  zone_kept (Object at n m a) = term_kept a
  zone_kept (Elements at n m a lo hi) = two _ _ (in_term a) (in_term lo ++ in_term hi) (term_kept a) (two _ _ (in_term lo) (in_term hi) (term_kept lo) (term_kept hi))

  zones_kept : (zs : Zones) → in_zones (unranged_zones zs) ≡ map without (in_zones zs)
  zones_kept NoZone = refl
  zones_kept (Another z rest) = two _ _ (in_zone z) (in_zones rest) (zone_kept z) (zones_kept rest)

  predicate_kept : (p : Predicate) → in_predicate (unranged_pred p) ≡ map without (in_predicate p)
  predicate_kept (logic.Truth at b) = refl
  predicate_kept (logic.NonZero at t) = term_kept t
  predicate_kept (logic.Chain at t links) = two _ _ (in_term t) (in_links links) (term_kept t) (links_kept links)
  predicate_kept (logic.Not at p) = predicate_kept p
  predicate_kept (logic.Connected at c p q) = two _ _ (in_predicate p) (in_predicate q) (predicate_kept p) (predicate_kept q)
  predicate_kept (logic.Branch at c p q) =
      two _ _ (in_predicate c) (in_predicate p ++ in_predicate q) (predicate_kept c) (two _ _ (in_predicate p) (in_predicate q) (predicate_kept p) (predicate_kept q))
  predicate_kept (logic.Quantified at q gs p) = two _ _ (in_guards gs) (in_predicate p) (guards_kept gs) (predicate_kept p)
  predicate_kept (logic.Asks at f z) = zone_kept z
  predicate_kept (logic.Separated at zs) = zones_kept zs

  guards_kept : (gs : Guards) → in_guards (unranged_guards gs) ≡ map without (in_guards gs)
  guards_kept NoGuard = refl
  guards_kept (Guarded a y ys below b rest) = two _ _ (in_term a) (in_term b ++ in_guards rest) (term_kept a) (two _ _ (in_term b) (in_guards rest) (term_kept b) (guards_kept rest))

clause_kept : (b : ClauseBody) → in_clause (unranged_clause b) ≡ map without (in_clause b)
clause_kept (Raw f) = refl
clause_kept (Holds p) = predicate_kept p
clause_kept (logic.Value t) = term_kept t
clause_kept (Behaviors names) = refl

annotations_kept : (xs : List Annotation) → in_annotations (unranged_annotations xs) ≡ map without (in_annotations xs)
annotations_kept [] = refl
annotations_kept (a ∷ rest) = two _ _ (in_clause a.body) (in_annotations rest) (clause_kept a.body) (annotations_kept rest)

behaviors_kept : (bs : List NamedBehavior) → in_behaviors (map unranged_behavior bs) ≡ map without (in_behaviors bs)
behaviors_kept [] = refl
behaviors_kept (b ∷ bs) = two _ _ (in_annotations b.clauses) (in_behaviors bs) (annotations_kept b.clauses) (behaviors_kept bs)

contract_kept : (c : Option FunctionContract) → in_contract (option_map unranged_contract c) ≡ map without (in_contract c)
contract_kept None = refl
contract_kept (Some c) = two _ _ (in_annotations c.clauses) (in_behaviors c.behaviors) (annotations_kept c.clauses) (behaviors_kept c.behaviors)

-- ---- statements; what stands first in a `for` is as it was

module _ (o : ℕ) where
  count_two : (a b xs ys : List Entry) → entries_at o a ≡ entries_at o xs → entries_at o b ≡ entries_at o ys → entries_at o (a ++ b) ≡ entries_at o (xs ++ ys)
  count_two a b xs ys e f = joined o a b ∙ (λ i. e i + f i) ∙ sym (joined o xs ys)

  annotations_count : (xs : List Annotation) → entries_at o (in_annotations (unranged_annotations xs)) ≡ entries_at o (in_annotations xs)
  annotations_count xs = ap (entries_at o) (annotations_kept xs) ∙ same_count o (in_annotations xs)

  mutual
    statement_count : (a : Statement) → entries_at o (in_statement (unranged_statement a)) ≡ entries_at o (in_statement a)
    statement_count (Empty at) = refl
    statement_count (Eval at e) = refl
    statement_count (Block at items) = items_count items
    statement_count (If at e a b) = count_two _ _ (in_statement a) (in_else b) (statement_count a) (else_count b)
    statement_count (While at annots e a) = count_two _ _ (in_annotations annots) (in_statement a) (annotations_count annots) (statement_count a)
    statement_count (Do at a e) = statement_count a
    statement_count (For at annots first e step a) =
        count_two _ _ (in_annotations annots) (in_first first ++ in_statement a) (annotations_count annots) (count_two (in_first first) _ (in_first first) (in_statement a) refl (statement_count a))
    statement_count (Break at) = refl
    statement_count (Continue at) = refl
    statement_count (Return at e) = refl
    statement_count (Labelled at l a) = statement_count a
    statement_count (Switch at e cases) = cases_count cases

    cases_count : (cases : Cases) → entries_at o (in_cases (unranged_cases cases)) ≡ entries_at o (in_cases cases)
    cases_count NoCase = refl
    cases_count (AnotherCase at v items rest) = count_two _ _ (in_items items) (in_cases rest) (items_count items) (cases_count rest)

    else_count : (b : ElsePart) → entries_at o (in_else (unranged_else b)) ≡ entries_at o (in_else b)
    else_count NoElse = refl
    else_count (Else a) = statement_count a

    item_count : (x : BlockItem) → entries_at o (in_item (unranged_item x)) ≡ entries_at o (in_item x)
    item_count (Declare ds) = refl
    item_count (Specify at t) = refl
    item_count (Run a) = statement_count a
    item_count (Asserts annots) = annotations_count annots

    items_count : (xs : BlockItems) → entries_at o (in_items (unranged_items xs)) ≡ entries_at o (in_items xs)
    items_count NoItem = refl
    items_count (Then x rest) = count_two _ _ (in_item x) (in_items rest) (item_count x) (items_count rest)

  body_count : (b : Option Statement) → entries_at o (in_body (option_map unranged_statement b)) ≡ entries_at o (in_body b)
  body_count None = refl
  body_count (Some a) = statement_count a

  planned_count : (f : Function) → entries_at o (planned (unranged_function f)) ≡ entries_at o (planned f)
  planned_count f =
      count_two _ _ (in_contract f.contract) (in_body f.body) (ap (entries_at o) (contract_kept f.contract) ∙ same_count o (in_contract f.contract)) (body_count f.body)

-- ---- functions

function_apart : (f : Function) → Alike (StandApart (planned (unranged_function f))) (StandApart (planned f))
function_apart f = record {
  to = λ h o. subst (λ n. n ≤ 1) (planned_count o f) (h o);
  from = λ h o. subst (λ n. n ≤ 1) (sym (planned_count o f)) (h o);
}

pub functions_apart : (fs : List Function) → Alike (AllByRecursion (λ (f : Function). StandApart (planned f)) (map unranged_function fs)) (AllByRecursion (λ (f : Function). StandApart (planned f)) fs)
functions_apart [] = itself
functions_apart (f ∷ fs) = beside (function_apart f) (functions_apart fs)
