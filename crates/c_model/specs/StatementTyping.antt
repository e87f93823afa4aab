-- The typing of declarations in blocks and of statements (C99 6.2.1, 6.7, 6.8): the typed tree, or the faults of its smallest faulty parts.
use Rattle.std.specs.Prelude.{ℕ, ℤ, Bool, true, false, not, ◌&&◌, ◌||◌, List, [], ◌∷◌, ◌++◌, Option, Some, None}
use Rattle.std.specs.Ordering.{int_eq}
use Rattle.c_syntax.specs.declared.place.Place.{Place}
use Rattle.c_syntax.specs.Ctypes.{PlainType, Int}
use Rattle.c_syntax.specs.Expressions.{Expression, place_of, type_of, Node, Number}
use Rattle.c_syntax.specs.Statements.{Declaration, Statement, Empty, Eval, Block, If, While, Do, For, Break, Continue, Return, Labelled, ElsePart, NoElse}
use Rattle.c_syntax.specs.Statements.{Else, Switch, Cases, NoCase, AnotherCase}
use Rattle.c_syntax.specs.declared.types.CInt.{CInt}
use Rattle.c_syntax.specs.Statements.{ForFirst, NoFirst, First, BlockItem, Declare, Specify, Run, Asserts, BlockItems, NoItem, Then}
use Rattle.c_model.specs.Checked.{Checked, Good, one_part, given, where_so}
use Rattle.c_model.specs.Integers.{convert, integer_type}
use Rattle.c_model.specs.Conversions.{promoted}
use Rattle.c_model.specs.ExpressionTyping.{no_type, Sight, with_object, with_objects, inner, is_void, is_scalar, in_type, in_int, is_assigned, constant}
use Rattle.c_model.specs.ExpressionTyping.{decayed_of, typed, typed_type, no_name, is_among}
use Rattle.c_model.specs.DeclarationTyping.{typed_variable}

-- where a statement stands: what its function gives, whether `break` leaves something there, and whether it is inside a loop
pub record Around : Type 0 where
  pub result : PlainType
  pub breaks : Bool
  pub loops : Bool

abbrev pub in_loop : Around → Around
in_loop r = record r { breaks = true; loops = true }

abbrev pub in_switch : Around → Around
in_switch r = record r { breaks = true }

-- what is in sight after an item
abbrev pub behind : Sight → BlockItem → Sight
behind s (Declare ds) = with_objects s ds
behind s (Specify at t) = s
behind s (Run a) = s
behind s (Asserts annots) = s

-- what is in sight after the first part of a `for`
abbrev pub behind_first : Sight → ForFirst → Sight
behind_first s NoFirst = s
behind_first s (First i) = behind s i

-- a condition is a scalar (C99 6.8.4.1, 6.8.5)
abbrev pub condition : Expression → Checked Expression
condition e = where_so (is_scalar (type_of e)) (no_type (place_of e)) (Good e)

abbrev pub typed_condition : Sight → Expression → Checked Expression
typed_condition s e = one_part (decayed_of (typed s e)) condition

-- what may be left out
abbrev pub typed_maybe : (Expression → Checked Expression) → Option Expression → Checked (Option Expression)
typed_maybe check None = Good None
typed_maybe check (Some e) = one_part (check e) (λ e. Good (Some e))

-- `return` has an expression exactly in a function that isn't void (C99 6.8.6.4)
abbrev pub returned : Sight → Place → PlainType → Option Expression → Checked Statement
returned s at t None = where_so (is_void t) (no_type at) (Good (Return at None))
returned s at t (Some e) = where_so (not (is_void t) && is_assigned s e t) (no_type at) (Good (Return at (Some (in_type t e))))

-- ---- what stands behind `switch` and `case` (C99 6.8.4.2)

-- an integer, which is promoted
abbrev pub controlling : Expression → Checked (CInt × Expression)
controlling e = given (integer_type (type_of e)) (no_type (place_of e)) (λ k. Good (promoted k, in_int (promoted k) e))

abbrev pub is_used : ℤ → List ℤ → Bool
is_used z [] = false
is_used z (x ∷ xs) = int_eq z x || is_used z xs

-- a constant, converted to the type, which no case before has
abbrev pub case_value : Sight → CInt → List ℤ → Expression → Checked ℤ
case_value s k used e =
    one_part (decayed_of (typed s e)) (λ x. given (constant s x) (no_type (place_of e)) (λ z.
    where_so (not (is_used (convert k z) used)) (no_type (place_of e)) (Good (convert k z))))

abbrev pub case_number : CInt → Place → ℤ → Expression
case_number k at z = Node at (Int k) (Number z (Some k))

-- declarations, each in sight behind its declarator
abbrev pub typed_declarations : Sight → List Declaration → Checked (List Declaration)
typed_declarations s [] = Good []
typed_declarations s (d ∷ ds) = one_part (typed_variable s d) (λ d. one_part (typed_declarations (with_object s d) ds) (λ ds. Good (d ∷ ds)))

-- ---- labels, which have names of their own (C99 6.2.3, 6.8.1)

-- the labels of a statement in the order of the text, each at its place
abbrev mutual
  pub labels_within : Statement → List (Place × ℕ)
  labels_within (Empty at) = []
  labels_within (Eval at e) = []
  labels_within (Block at items) = labels_in_items items
  labels_within (If at e a b) = labels_within a ++ labels_in_else b
  labels_within (While at annots e a) = labels_within a
  labels_within (Do at a e) = labels_within a
  labels_within (For at annots first e step a) = labels_within a
  labels_within (Break at) = []
  labels_within (Continue at) = []
  labels_within (Return at e) = []
  labels_within (Labelled at l a) = (at, l) ∷ labels_within a
  labels_within (Switch at e cases) = labels_in_cases cases

  pub labels_in_cases : Cases → List (Place × ℕ)
  labels_in_cases NoCase = []
  labels_in_cases (AnotherCase at v items rest) = labels_in_items items ++ labels_in_cases rest

  pub labels_in_else : ElsePart → List (Place × ℕ)
  labels_in_else NoElse = []
  labels_in_else (Else a) = labels_within a

  pub labels_in_items : BlockItems → List (Place × ℕ)
  labels_in_items NoItem = []
  labels_in_items (Then i rest) = labels_in_item i ++ labels_in_items rest

  pub labels_in_item : BlockItem → List (Place × ℕ)
  labels_in_item (Declare ds) = []
  labels_in_item (Specify at t) = []
  labels_in_item (Run a) = labels_within a
  labels_in_item (Asserts annots) = []

-- labels behind those of these names: no two of one function have one name (C99 6.8.1 p3)
abbrev pub distinct_labels : List ℕ → List (Place × ℕ) → Checked (Unit {0})
distinct_labels names [] = Good tt
distinct_labels names (l ∷ ls) = where_so (not (is_among l.1 names)) (no_name l.0) (distinct_labels (l.1 ∷ names) ls)

abbrev pub typed_labels : Option Statement → Checked (Unit {0})
typed_labels None = Good tt
typed_labels (Some a) = distinct_labels [] (labels_within a)

-- ---- statements

-- an expression statement reads nothing of an object that has no scalar type, and so an array is no pointer there (C99 6.8.3)
abbrev mutual
  pub typed_statement : Sight → Around → Statement → Checked Statement
  typed_statement s r (Empty at) = Good (Empty at)
  typed_statement s r (Eval at e) = one_part (typed s e) (λ e. Good (Eval at e))
  typed_statement s r (Block at items) = one_part (typed_items (inner s) r items) (λ items. Good (Block at items))
  typed_statement s r (If at e a b) =
      one_part (typed_condition s e) (λ e. one_part (typed_statement s r a) (λ a. one_part (typed_else s r b) (λ b. Good (If at e a b))))
  typed_statement s r (While at annots e a) =
      one_part (typed_condition s e) (λ e. one_part (typed_statement s (in_loop r) a) (λ a. Good (While at annots e a)))
  typed_statement s r (Do at a e) =
      one_part (typed_statement s (in_loop r) a) (λ a. one_part (typed_condition s e) (λ e. Good (Do at a e)))
  typed_statement s r (For at annots first e step a) =
      one_part (typed_first (inner s) r first) (λ first.
      let s = behind_first (inner s) first in
      one_part (typed_maybe (typed_condition s) e) (λ e. one_part (typed_maybe (typed s) step) (λ step.
      one_part (typed_statement s (in_loop r) a) (λ a. Good (For at annots first e step a)))))
  typed_statement s r (Break at) = where_so r.breaks (no_type at) (Good (Break at))
  typed_statement s r (Continue at) = where_so r.loops (no_type at) (Good (Continue at))
  typed_statement s r (Return at e) = one_part (typed_maybe (λ e. decayed_of (typed s e)) e) (returned s at r.result)
  typed_statement s r (Labelled at l a) = one_part (typed_statement s r a) (λ a. Good (Labelled at l a))
  typed_statement s r (Switch at e cases) =
      one_part (one_part (decayed_of (typed s e)) controlling) (λ x.
      one_part (typed_cases s (in_switch r) x.0 [] false cases) (λ cases. Good (Switch at x.1 cases)))

  -- cases of the type, after those of these values and perhaps a `default`
  pub typed_cases : Sight → Around → CInt → List ℤ → Bool → Cases → Checked Cases
  typed_cases s r k used has_default NoCase = Good NoCase
  typed_cases s r k used has_default (AnotherCase at None items rest) =
      where_so (not has_default) (no_type at) (one_part (typed_items s r items) (λ items.
      one_part (typed_cases s r k used true rest) (λ rest. Good (AnotherCase at None items rest))))
  typed_cases s r k used has_default (AnotherCase at (Some e) items rest) =
      one_part (case_value s k used e) (λ z. one_part (typed_items s r items) (λ items.
      one_part (typed_cases s r k (z ∷ used) has_default rest) (λ rest. Good (AnotherCase at (Some (case_number k (place_of e) z)) items rest))))

  pub typed_else : Sight → Around → ElsePart → Checked ElsePart
  typed_else s r NoElse = Good NoElse
  typed_else s r (Else a) = one_part (typed_statement s r a) (λ a. Good (Else a))

  pub typed_first : Sight → Around → ForFirst → Checked ForFirst
  typed_first s r NoFirst = Good NoFirst
  typed_first s r (First i) = one_part (typed_item s r i) (λ i. Good (First i))

  pub typed_item : Sight → Around → BlockItem → Checked BlockItem
  typed_item s r (Declare ds) = one_part (typed_declarations s ds) (λ ds. Good (Declare ds))
  typed_item s r (Specify at t) = one_part (typed_type s at t) (λ u. Good (Specify at u))
  typed_item s r (Run a) = one_part (typed_statement s r a) (λ a. Good (Run a))
  typed_item s r (Asserts annots) = Good (Asserts annots)

  pub typed_items : Sight → Around → BlockItems → Checked BlockItems
  typed_items s r NoItem = Good NoItem
  typed_items s r (Then i rest) = one_part (typed_item s r i) (λ i. one_part (typed_items (behind s i) r rest) (λ rest. Good (Then i rest)))
