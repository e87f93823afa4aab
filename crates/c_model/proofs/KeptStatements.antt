-- Typing keeps the forms of statements and functions: annotations and declarations stay where they may stand, and statements are as deep.
use Rattle.std.proofs.Common.{◌≡◌, suc, ◌+◌, ◌≤◌, max, List, [], ◌∷◌, Option, Some, None, not, ◌&&◌, refl, sym, ap, subst}
use Rattle.c_syntax.specs.declared.place.Place.{Place}
use Rattle.c_syntax.specs.declared.types.CInt.{CInt}
use Rattle.std.specs.Prelude.{ℤ, Bool, true, false}
use Rattle.c_syntax.specs.Ctypes.{PlainType}
use Rattle.c_syntax.specs.Expressions.{Expression, place_of}
use Rattle.c_syntax.specs.Statements.{Statement, Empty, Eval, Block, If, While, Do, For, Break, Continue, Return, Labelled, Switch, Cases, NoCase, AnotherCase}
use Rattle.c_syntax.specs.Statements.{ElsePart, NoElse, Else, ForFirst, NoFirst, First, BlockItem, Declare, Specify, Run, Asserts, BlockItems, NoItem, Then}
use Rattle.c_syntax.specs.Programs.{Function, TranslationUnit}
use Rattle.c_model.specs.Meaning.{is_definition}
use Rattle.c_model.specs.Checked.{Checked, Good, Bad, one_part}
use Rattle.c_model.specs.ExpressionGrammar.{most_nested}
use Rattle.c_model.specs.ExpressionTyping.{no_type, Sight, inner, is_void, is_assigned, decayed_of, typed, typed_type}
use Rattle.c_model.specs.StatementTyping.{Around, in_loop, in_switch, behind, behind_first, typed_condition, typed_maybe, returned, typed_declarations, typed_statement, typed_else, typed_first, typed_item, typed_items}
use Rattle.c_model.specs.StatementTyping.{case_number, case_value, controlling, typed_cases}
use Rattle.c_model.specs.UnitTyping.{with_function, with_parameters, function_name, typed_parameters, typed_heading, typed_body, typed_parts, typed_function}
use Rattle.c_model.specs.TypedTrees.{IsResult}
use Rattle.c_model.specs.Formed.{AreReadLoopClauses, AreReadAsserts, depth, depth_of_cases, depth_of_else, depth_of_item, depth_of_items}
use Rattle.c_model.specs.EffectPlaces.{IsNoDeclaration, DeclareNothing, FirstPlaced, StatementPlaced, CasesPlaced, ElsePlaced, ItemPlaced, ItemsPlaced}
use Rattle.c_model.specs.ReadTree.{BodyRead, FunctionRead}
use Rattle.c_model.proofs.LabelledFunctions.{gives_function}
use Rattle.c_model.proofs.TypedParts.{Gives, gives_one, gives_where}
use Rattle.c_model.proofs.TypedDeclarations.{anything}
use Rattle.c_model.proofs.TypedHeadings.{gives_heading}
use Rattle.c_model.proofs.TypedFunctions.{result_is}

-- ---- statements

-- b has the form of a
record IsKept (a b : Statement) : Type 0 where
  placed : StatementPlaced AreReadAsserts AreReadLoopClauses b
  deep : depth b ≡ depth a

record AreCasesKept (a b : Cases) : Type 0 where
  placed : CasesPlaced AreReadAsserts AreReadLoopClauses b
  deep : depth_of_cases b ≡ depth_of_cases a

record IsElseKept (a b : ElsePart) : Type 0 where
  placed : ElsePlaced AreReadAsserts AreReadLoopClauses b
  deep : depth_of_else b ≡ depth_of_else a

record IsItemKept (a b : BlockItem) : Type 0 where
  placed : ItemPlaced AreReadAsserts AreReadLoopClauses b
  deep : depth_of_item b ≡ depth_of_item a
  none : IsNoDeclaration a → IsNoDeclaration b

record AreKept (a b : BlockItems) : Type 0 where
  placed : ItemsPlaced AreReadAsserts AreReadLoopClauses b
  deep : depth_of_items b ≡ depth_of_items a
  none : DeclareNothing a → DeclareNothing b

returned_kept : (s : Sight) (at : Place) (t : PlainType) (o : Option Expression) → Gives (λ a. StatementPlaced AreReadAsserts AreReadLoopClauses a × (depth a ≡ 1)) (returned s at t o)
returned_kept s at t None = gives_where (λ a. StatementPlaced AreReadAsserts AreReadLoopClauses a × (depth a ≡ 1)) (is_void t) _ _ (λ e. (tt, refl))
returned_kept s at t (Some e) = gives_where (λ a. StatementPlaced AreReadAsserts AreReadLoopClauses a × (depth a ≡ 1)) (not (is_void t) && is_assigned s e t) _ _ (λ c. (tt, refl))

first_kept : (s : Sight) (r : Around) (first : ForFirst) → FirstPlaced first → Gives FirstPlaced (typed_first s r first)
first_kept s r NoFirst p = tt
first_kept s r (First (Run (Eval at e))) p =
    gives_one (λ i. FirstPlaced (First i)) FirstPlaced (typed_item s r (Run (Eval at e))) (λ i. Good (First i))
    (gives_one (λ a. FirstPlaced (First (Run a))) (λ i. FirstPlaced (First i)) (typed_statement s r (Eval at e)) (λ a. Good (Run a))
    (gives_one (λ x. Unit {0}) (λ a. FirstPlaced (First (Run a))) (typed s e) (λ e. Good (Eval at e)) (anything (typed s e)) (λ x k. tt)) (λ a k. k)) (λ i k. k)
first_kept s r (First (Declare ds)) p =
    gives_one (λ i. FirstPlaced (First i)) FirstPlaced (typed_item s r (Declare ds)) (λ i. Good (First i))
    (gives_one (λ xs. Unit {0}) (λ i. FirstPlaced (First i)) (typed_declarations s ds) (λ ds. Good (Declare ds)) (anything (typed_declarations s ds)) (λ xs k. tt)) (λ i k. k)
first_kept s r (First (Specify at t)) p =
    gives_one (λ i. FirstPlaced (First i)) FirstPlaced (typed_item s r (Specify at t)) (λ i. Good (First i))
    (gives_one (λ u. Unit {0}) (λ i. FirstPlaced (First i)) (typed_type s at t) (λ u. Good (Specify at u)) (anything (typed_type s at t)) (λ u v. tt)) (λ i k. k)
first_kept s r _ p = absurd p

mutual
  statement_kept : (s : Sight) (r : Around) (a : Statement) → StatementPlaced AreReadAsserts AreReadLoopClauses a → Gives (IsKept a) (typed_statement s r a)
  statement_kept s r (Empty at) p = record { placed = tt; deep = refl }
  statement_kept s r (Eval at e) p = gives_one (λ x. Unit {0}) (IsKept (Eval at e)) (typed s e) (λ e. Good (Eval at e)) (anything (typed s e)) (λ x u. record { placed = tt; deep = refl })
  statement_kept s r (Block at items) p =
      gives_one (AreKept items) (IsKept (Block at items)) (typed_items (inner s) r items) (λ items. Good (Block at items)) (items_kept (inner s) r items p) (λ x k. record { placed = k.placed; deep = ap (λ n. 1 + n) k.deep })
  statement_kept s r (If at e a b) p =
      gives_one (λ x. Unit {0}) (IsKept (If at e a b)) (typed_condition s e) (λ e. one_part (typed_statement s r a) (λ a. one_part (typed_else s r b) (λ b. Good (If at e a b)))) (anything (typed_condition s e)) (λ x u.
      gives_one (IsKept a) (IsKept (If at e a b)) (typed_statement s r a) (λ a. one_part (typed_else s r b) (λ b. Good (If at x a b))) (statement_kept s r a p.0) (λ y g.
      gives_one (IsElseKept b) (IsKept (If at e a b)) (typed_else s r b) (λ b. Good (If at x y b)) (else_kept s r b p.1) (λ z k.
      record { placed = (g.placed, k.placed); deep = λ i. 1 + max (g.deep i) (k.deep i) })))
  statement_kept s r (While at annots e a) p =
      gives_one (λ x. Unit {0}) (IsKept (While at annots e a)) (typed_condition s e) (λ e. one_part (typed_statement s (in_loop r) a) (λ a. Good (While at annots e a))) (anything (typed_condition s e)) (λ x u.
      gives_one (IsKept a) (IsKept (While at annots e a)) (typed_statement s (in_loop r) a) (λ a. Good (While at annots x a)) (statement_kept s (in_loop r) a p.1) (λ y g.
      record { placed = (p.0, g.placed); deep = ap (λ n. 1 + n) g.deep }))
  statement_kept s r (Do at a e) p =
      gives_one (IsKept a) (IsKept (Do at a e)) (typed_statement s (in_loop r) a) (λ a. one_part (typed_condition s e) (λ e. Good (Do at a e))) (statement_kept s (in_loop r) a p) (λ y g.
      gives_one (λ x. Unit {0}) (IsKept (Do at a e)) (typed_condition s e) (λ e. Good (Do at y e)) (anything (typed_condition s e)) (λ x u. record { placed = g.placed; deep = ap (λ n. 1 + n) g.deep }))
  statement_kept s r (For at annots first e step a) p =
      gives_one FirstPlaced (IsKept (For at annots first e step a)) (typed_first (inner s) r first) (λ first.
      let s = behind_first (inner s) first in
      one_part (typed_maybe (typed_condition s) e) (λ e. one_part (typed_maybe (typed s) step) (λ step.
      one_part (typed_statement s (in_loop r) a) (λ a. Good (For at annots first e step a))))) (first_kept (inner s) r first p.1) (λ w f.
      let z = behind_first (inner s) w in
      gives_one (λ x. Unit {0}) (IsKept (For at annots first e step a)) (typed_maybe (typed_condition z) e) (λ e. one_part (typed_maybe (typed z) step) (λ step. one_part (typed_statement z (in_loop r) a) (λ a. Good (For at annots w e step a))))
      (anything (typed_maybe (typed_condition z) e)) (λ x u.
      gives_one (λ y. Unit {0}) (IsKept (For at annots first e step a)) (typed_maybe (typed z) step) (λ step. one_part (typed_statement z (in_loop r) a) (λ a. Good (For at annots w x step a)))
      (anything (typed_maybe (typed z) step)) (λ y v.
      gives_one (IsKept a) (IsKept (For at annots first e step a)) (typed_statement z (in_loop r) a) (λ a. Good (For at annots w x y a)) (statement_kept z (in_loop r) a p.2) (λ b l.
      record { placed = (p.0, f, l.placed); deep = ap (λ n. 1 + n) l.deep }))))
  statement_kept s r (Break at) p = gives_where (IsKept (Break at)) r.breaks (no_type at) (Good (Break at)) (λ e. record { placed = tt; deep = refl })
  statement_kept s r (Continue at) p = gives_where (IsKept (Continue at)) r.loops (no_type at) (Good (Continue at)) (λ e. record { placed = tt; deep = refl })
  statement_kept s r (Labelled at l a) p =
      gives_one (IsKept a) (IsKept (Labelled at l a)) (typed_statement s r a) (λ a. Good (Labelled at l a)) (statement_kept s r a p) (λ x k. record { placed = k.placed; deep = ap (λ n. 1 + n) k.deep })
  statement_kept s r (Switch at e cases) p =
      gives_one (λ (x : CInt × Expression). Unit {0}) (IsKept (Switch at e cases)) (one_part (decayed_of (typed s e)) controlling) (λ x. one_part (typed_cases s (in_switch r) x.0 [] false cases) (λ cases. Good (Switch at x.1 cases)))
      (anything (one_part (decayed_of (typed s e)) controlling)) (λ x u.
      gives_one (AreCasesKept cases) (IsKept (Switch at e cases)) (typed_cases s (in_switch r) x.0 [] false cases) (λ cases. Good (Switch at x.1 cases)) (cases_kept s (in_switch r) x.0 [] false cases p) (λ y k.
      record { placed = k.placed; deep = ap (λ n. 1 + n) k.deep }))
  statement_kept s r (Return at e) p =
      gives_one (λ x. Unit {0}) (IsKept (Return at e)) (typed_maybe (λ e. decayed_of (typed s e)) e) (returned s at r.result)
      (anything (typed_maybe (λ e. decayed_of (typed s e)) e)) (λ o f. by (returned s at r.result o) (returned_kept s at r.result o))
    where
      by : (c : Checked Statement) → Gives (λ a. StatementPlaced AreReadAsserts AreReadLoopClauses a × (depth a ≡ 1)) c → Gives (IsKept (Return at e)) c
      by (Good a) k = record { placed = k.0; deep = k.1 }
      by (Bad f fs) k = tt

  cases_kept : (s : Sight) (r : Around) (k : CInt) (used : List ℤ) (has_default : Bool) (cases : Cases) → CasesPlaced AreReadAsserts AreReadLoopClauses cases → Gives (AreCasesKept cases) (typed_cases s r k used has_default cases)
  cases_kept s r k used has_default NoCase p = record { placed = tt; deep = refl }
  cases_kept s r k used has_default (AnotherCase at None items rest) p =
      gives_where (AreCasesKept (AnotherCase at None items rest)) (not has_default) _ _ (λ h.
      gives_one (AreKept items) (AreCasesKept (AnotherCase at None items rest)) (typed_items s r items) (λ items. one_part (typed_cases s r k used true rest) (λ rest. Good (AnotherCase at None items rest))) (items_kept s r items p.1) (λ x f.
      gives_one (AreCasesKept rest) (AreCasesKept (AnotherCase at None items rest)) (typed_cases s r k used true rest) (λ rest. Good (AnotherCase at None x rest)) (cases_kept s r k used true rest p.2) (λ y g.
      record { placed = (f.none p.0, f.placed, g.placed); deep = λ i. max (f.deep i) (g.deep i) })))
  cases_kept s r k used has_default (AnotherCase at (Some e) items rest) p =
      gives_one (λ (z : ℤ). Unit {0}) (AreCasesKept (AnotherCase at (Some e) items rest)) (case_value s k used e) (λ z. one_part (typed_items s r items) (λ items.
      one_part (typed_cases s r k (z ∷ used) has_default rest) (λ rest. Good (AnotherCase at (Some (case_number k (place_of e) z)) items rest)))) (anything (case_value s k used e)) (λ z u.
      gives_one (AreKept items) (AreCasesKept (AnotherCase at (Some e) items rest)) (typed_items s r items) (λ items.
      one_part (typed_cases s r k (z ∷ used) has_default rest) (λ rest. Good (AnotherCase at (Some (case_number k (place_of e) z)) items rest))) (items_kept s r items p.1) (λ x f.
      gives_one (AreCasesKept rest) (AreCasesKept (AnotherCase at (Some e) items rest)) (typed_cases s r k (z ∷ used) has_default rest) (λ rest. Good (AnotherCase at (Some (case_number k (place_of e) z)) x rest))
      (cases_kept s r k (z ∷ used) has_default rest p.2) (λ y g.
      record { placed = (f.none p.0, f.placed, g.placed); deep = λ i. max (f.deep i) (g.deep i) })))

  else_kept : (s : Sight) (r : Around) (b : ElsePart) → ElsePlaced AreReadAsserts AreReadLoopClauses b → Gives (IsElseKept b) (typed_else s r b)
  else_kept s r NoElse p = record { placed = tt; deep = refl }
  else_kept s r (Else a) p = gives_one (IsKept a) (IsElseKept (Else a)) (typed_statement s r a) (λ a. Good (Else a)) (statement_kept s r a p) (λ x k. record { placed = k.placed; deep = k.deep })

  item_kept : (s : Sight) (r : Around) (i : BlockItem) → ItemPlaced AreReadAsserts AreReadLoopClauses i → Gives (IsItemKept i) (typed_item s r i)
  item_kept s r (Declare ds) p = gives_one (λ xs. Unit {0}) (IsItemKept (Declare ds)) (typed_declarations s ds) (λ ds. Good (Declare ds)) (anything (typed_declarations s ds)) (λ xs u. record { placed = tt; deep = refl; none = λ h. h })
  item_kept s r (Specify at t) p = gives_one (λ u. Unit {0}) (IsItemKept (Specify at t)) (typed_type s at t) (λ u. Good (Specify at u)) (anything (typed_type s at t)) (λ u v. record { placed = tt; deep = refl; none = λ h. h })
  item_kept s r (Run a) p = gives_one (IsKept a) (IsItemKept (Run a)) (typed_statement s r a) (λ a. Good (Run a)) (statement_kept s r a p) (λ x k. record { placed = k.placed; deep = k.deep; none = λ h. h })
  item_kept s r (Asserts annots) p = record { placed = p; deep = refl; none = λ h. h }

  items_kept : (s : Sight) (r : Around) (is : BlockItems) → ItemsPlaced AreReadAsserts AreReadLoopClauses is → Gives (AreKept is) (typed_items s r is)
  items_kept s r NoItem p = record { placed = tt; deep = refl; none = λ h. h }
  items_kept s r (Then i rest) p =
      gives_one (IsItemKept i) (AreKept (Then i rest)) (typed_item s r i) (λ i. one_part (typed_items (behind s i) r rest) (λ rest. Good (Then i rest))) (item_kept s r i p.0) (λ x f.
      gives_one (AreKept rest) (AreKept (Then i rest)) (typed_items (behind s x) r rest) (λ rest. Good (Then x rest)) (items_kept (behind s x) r rest p.1) (λ y g.
      record { placed = (f.placed, g.placed); deep = λ i. max (f.deep i) (g.deep i); none = λ h. (f.none h.0, g.none h.1) }))

-- ---- functions

body_kept : (s : Sight) (t : PlainType) (b : Option Statement) → BodyRead AreReadAsserts AreReadLoopClauses b → Gives (BodyRead AreReadAsserts AreReadLoopClauses) (typed_body s t b)
body_kept s t None p = tt
body_kept s t (Some (Block at items)) p =
    gives_one (AreKept items) (BodyRead AreReadAsserts AreReadLoopClauses) (typed_items s (record { result = t; breaks = false; loops = false }) items) (λ items. Good (Some (Block at items)))
    (items_kept s (record { result = t; breaks = false; loops = false }) items p.0)
    (λ x k. (k.placed, subst (λ n. 1 + n ≤ suc most_nested) (sym k.deep) p.1))
body_kept s t (Some _) p = absurd p

record IsHeading (f g : Function) : Type 0 where
  result : IsResult g.result
  body : g.body ≡ f.body

heading_kept : (s : Sight) (before : List Function) (f : Function) → Gives (IsHeading f) (typed_heading s before f)
heading_kept s before f =
    gives_heading (λ n. Unit {0}) IsResult (λ ds. Unit {0}) (IsHeading f) s before f (anything (function_name s f)) (result_is s (is_definition f) f.place f.result)
    (anything (typed_parameters (inner s) (is_definition f) f.params)) (λ n t ds u i v. record { result = i; body = refl })

parts_kept : (p : TranslationUnit) (s : Sight) (before : List Function) (f : Function) → FunctionRead AreReadAsserts AreReadLoopClauses f → Gives (FunctionRead AreReadAsserts AreReadLoopClauses) (typed_parts p s before f)
parts_kept p s before f q =
    gives_one (IsHeading f) (FunctionRead AreReadAsserts AreReadLoopClauses) (typed_heading s before f)
    (λ f. one_part (typed_body (with_parameters (inner (with_function p s f)) f.params) f.result f.body) (λ b. Good (record f { body = b }))) (heading_kept s before f) (λ g k.
    let inside = with_parameters (inner (with_function p s g)) g.params in
    gives_one (BodyRead AreReadAsserts AreReadLoopClauses) (FunctionRead AreReadAsserts AreReadLoopClauses) (typed_body inside g.result g.body) (λ b. Good (record g { body = b }))
    (body_kept inside g.result g.body (subst (BodyRead AreReadAsserts AreReadLoopClauses) (sym k.body) q.body))
    (λ b r. record { body = r }))

pub function_kept : (p : TranslationUnit) (s : Sight) (before : List Function) (f : Function) → FunctionRead AreReadAsserts AreReadLoopClauses f → Gives (FunctionRead AreReadAsserts AreReadLoopClauses) (typed_function p s before f)
function_kept p s before f q = gives_function (FunctionRead AreReadAsserts AreReadLoopClauses) p s before f (parts_kept p s before f q)
