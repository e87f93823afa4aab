-- What typing makes of statements is well typed.
use Rattle.std.proofs.Common.{Bool}
use Rattle.std.proofs.Common.{ℤ, false, subst}
use Rattle.c_syntax.specs.declared.types.CInt.{CInt}
use Rattle.c_syntax.specs.Expressions.{place_of}
use Rattle.c_model.specs.StatementTyping.{in_switch, controlling, case_value, case_number, typed_cases, is_used}
use Rattle.c_model.specs.Conversions.{promoted}
use Rattle.c_model.specs.Integers.{convert, fits}
use Rattle.c_model.specs.ExpressionTyping.{in_int, no_type, constant}
use Rattle.c_model.specs.TypedTrees.{CasesTyped, OfInteger}
use Rattle.c_model.proofs.TypedParts.{gives_given, integer_is}
use Rattle.c_model.proofs.TypedDeclarations.{anything}
use Rattle.c_model.proofs.Conversions.{fits-convert}
use Rattle.c_model.specs.PlacedTrees.{CasesAtOffsets}
use Rattle.std.proofs.Common.{◌≡◌, refl, List, [], ◌∷◌, Option, Some, None, true, not, ◌&&◌, ◌||◌}
use Rattle.c_syntax.specs.declared.place.Place.{Place}
use Rattle.c_syntax.specs.Ctypes.{PlainType, Void, Int, Ptr}
use Rattle.c_syntax.specs.Expressions.{Expression, type_of}
use Rattle.c_syntax.specs.Statements.{Declaration, Statement, Empty, Eval, Block, If, While, Do, For, Break, Continue, Return, Labelled, Switch, Cases}
use Rattle.c_syntax.specs.Statements.{NoCase, AnotherCase}
use Rattle.c_syntax.specs.Statements.{ElsePart, NoElse, Else, ForFirst, NoFirst, First, BlockItem, Declare, Specify, Run, Asserts, BlockItems, NoItem, Then}
use Rattle.c_model.specs.Integers.{integer_type}
use Rattle.c_model.specs.Meaning.{is_pointer}
use Rattle.c_model.specs.Library.{is_there}
use Rattle.c_model.specs.Checked.{Checked, Good, Bad, one_part}
use Rattle.c_model.specs.ExpressionTyping.{Sight, with_object, with_objects, inner, is_void, is_scalar, is_null, are_compatible, are_integers, is_assigned, decayed, decayed_of, typed, typed_type}
use Rattle.c_model.specs.StatementTyping.{Around, in_loop, behind, behind_first, condition, typed_condition, typed_maybe, returned, typed_declarations, typed_statement, typed_else, typed_first}
use Rattle.c_model.specs.StatementTyping.{typed_item, typed_items}
use Rattle.c_model.specs.DeclarationTyping.{typed_variable}
use Rattle.c_model.specs.TypedTrees.{IsCondition, WellTyped, WhereAny, AreDeclared, StatementTyped, ElseTyped, FirstTyped, ItemTyped, ItemsTyped}
use Rattle.c_model.specs.PlacedTrees.{AreAtOffsets, StatementAtOffsets, ElseAtOffsets, FirstAtOffsets, ItemAtOffsets, ItemsAtOffsets}
use Rattle.c_model.specs.TextTypingLaws.{IsWholeSight}
use Rattle.c_model.proofs.TypedParts.{Gives, gives_of, gives_one, gives_where, and_true, scalar_is}
use Rattle.c_model.proofs.TypedOperators.{Sound, decayed_sound, in_type_well, in_type_type, or_cases}
use Rattle.c_model.proofs.TypedExpressions.{assigned_casts}
use Rattle.c_model.proofs.TypedSoundness.{typed_sound}
use Rattle.c_model.proofs.TypedDeclarations.{IsDeclaredThen, variable_declared}

-- ---- types of what is assigned

integer_scalar : (t : PlainType) → is_there (integer_type t) ≡ true → is_scalar t ≡ true
integer_scalar (Int k) e = refl
integer_scalar _ e = absurd cc

pointer_scalar : (t : PlainType) → is_pointer t ≡ true → is_scalar t ≡ true
pointer_scalar (Ptr t) e = refl
pointer_scalar _ e = absurd cc

assigned_scalar : (s : Sight) (e : Expression) (t : PlainType) → is_assigned s e t ≡ true → is_scalar t ≡ true
assigned_scalar s e t a = or_cases (are_integers (type_of e) t || are_compatible (type_of e) t) (is_null s e && is_pointer t) a
    (λ b. or_cases (are_integers (type_of e) t) (are_compatible (type_of e) t) b
    (λ c. integer_scalar t (and_true (is_there (integer_type (type_of e))) (is_there (integer_type t)) c).1)
    (λ c. pointer_scalar t (and_true (is_pointer (type_of e)) (is_pointer t) (and_true (is_pointer (type_of e) && is_pointer t) _ c).0).1))
    (λ n. pointer_scalar t (and_true (is_null s e) (is_pointer t) n).1)

-- what a sequence of declarations is, and what is in sight behind it
record AreDeclaredThen (s : Sight) (ds : List Declaration) : Type 0 where
  declared : AreDeclared s ds
  sight : IsWholeSight (with_objects s ds)

record IsItemThen (s : Sight) (r : Around) (i : BlockItem) : Type 0 where
  typed : ItemTyped s r i
  sight : IsWholeSight (behind s i)

record IsFirstThen (s : Sight) (r : Around) (i : ForFirst) : Type 0 where
  typed : FirstTyped s r i
  sight : IsWholeSight (behind_first s i)

pub inner_sight : (s : Sight) → IsWholeSight s → IsWholeSight (inner s)
inner_sight s i = record { known = record { objects = i.known.objects; enumerators = i.known.enumerators; results = i.known.results }; members = i.members }

maybe_typed : (P : Expression → Type 0) (check : Expression → Checked Expression) (e : Option Expression) → ((e : Expression) → Gives P (check e)) → Gives (WhereAny P) (typed_maybe check e)
maybe_typed P check None h = tt
maybe_typed P check (Some e) h = gives_one P (WhereAny P) (check e) (λ e. Good (Some e)) (h e) (λ e p. p)

module _ (s : Sight) (i : IsWholeSight s)
  where
    value_typed : (e : Expression) → Gives (WellTyped s) (decayed_of (typed s e))
    value_typed e = gives_one (Sound s) (WellTyped s) (typed s e) (λ e. Good (decayed e)) (typed_sound s i.known e) (λ e h. (decayed_sound s e h).sound.well)

    expression_typed : (e : Expression) → Gives (WellTyped s) (typed s e)
    expression_typed e = by (typed s e) (typed_sound s i.known e)
      where
        by : (c : Checked Expression) → Gives (Sound s) c → Gives (WellTyped s) c
        by (Good e) h = h.well
        by (Bad f fs) h = tt

    condition_typed : (e : Expression) → Gives (IsCondition s) (typed_condition s e)
    condition_typed e = gives_one (WellTyped s) (IsCondition s) (decayed_of (typed s e)) condition (value_typed e)
        (λ e w. gives_where (IsCondition s) (is_scalar (type_of e)) _ _ (λ t. record { typed = w; scalar = scalar_is (type_of e) t }))

    void_is : (t : PlainType) → is_void t ≡ true → t ≡ Void
    void_is Void e = refl
    void_is _ e = absurd cc

    returned_typed : (at : Place) (r : Around) (e : Option Expression) → WhereAny (WellTyped s) e → Gives (StatementTyped s r) (returned s at r.result e)
    returned_typed at r None w = gives_where (StatementTyped s r) (is_void r.result) _ _ (λ t. void_is r.result t)
    returned_typed at r (Some e) w = gives_where (StatementTyped s r) (not (is_void r.result) && is_assigned s e r.result) _ _ (λ t.
        let p = and_true (not (is_void r.result)) (is_assigned s e r.result) t in record {
          typed = in_type_well s r.result e w (assigned_casts s i.known r.result e w p.1);
          ctype = in_type_type r.result e;
          scalar = scalar_is r.result (assigned_scalar s e r.result p.1);
        })

declarations_typed : (s : Sight) → IsWholeSight s → (ds : List Declaration) → AreAtOffsets ds → Gives (AreDeclaredThen s) (typed_declarations s ds)
declarations_typed s i [] o = record { declared = tt; sight = i }
declarations_typed s i (d ∷ ds) o =
    gives_one (IsDeclaredThen s) (AreDeclaredThen s) (typed_variable s d) (λ d. one_part (typed_declarations (with_object s d) ds) (λ ds. Good (d ∷ ds))) (variable_declared s i d o.0) (λ d v.
    gives_one (AreDeclaredThen (with_object s d)) (AreDeclaredThen s) (typed_declarations (with_object s d) ds) (λ ds. Good (d ∷ ds)) (declarations_typed (with_object s d) v.sight ds o.1)
    (λ ds w. record { declared = (v.declared, w.declared); sight = w.sight }))

-- ---- statements

-- an integer, promoted to this type
abbrev IsControlling : Sight → CInt × Expression → Type 0
IsControlling s x = (k : CInt) × (x.0 ≡ promoted k) × WellTyped s x.1 × (type_of x.1 ≡ Int (promoted k))

controlling_typed : (s : Sight) → IsWholeSight s → (e : Expression) → Gives (IsControlling s) (one_part (decayed_of (typed s e)) controlling)
controlling_typed s i e =
    gives_one (WellTyped s) (IsControlling s) (decayed_of (typed s e)) controlling (value_typed s i e) (λ x w.
    gives_given (IsControlling s) (integer_type (type_of x)) (no_type (place_of x)) (λ k. Good (promoted k, in_int (promoted k) x)) (λ k c.
    (k, refl, in_type_well s (Int (promoted k)) x w (OfInteger (record { int = promoted k; is = refl }) (record { int = k; is = integer_is (type_of x) k c })), in_type_type (Int (promoted k)) x)))

-- a value of the type
case_fits : (s : Sight) (k : CInt) (used : List ℤ) (e : Expression) → Gives (λ z. fits k z ≡ true) (case_value s k used e)
case_fits s k used e =
    gives_one (λ x. Unit {0}) (λ z. fits k z ≡ true) (decayed_of (typed s e)) _ (anything (decayed_of (typed s e))) (λ x _.
    gives_given (λ z. fits k z ≡ true) (constant s x) (no_type (place_of e)) _ (λ z c.
    gives_where (λ z. fits k z ≡ true) (not (is_used (convert k z) used)) (no_type (place_of e)) (Good (convert k z)) (λ _. fits-convert k z)))

mutual
  statement_typed : (s : Sight) → IsWholeSight s → (r : Around) (a : Statement) → StatementAtOffsets a → Gives (StatementTyped s r) (typed_statement s r a)
  statement_typed s i r (Empty at) o = tt
  statement_typed s i r (Eval at e) o = gives_one (WellTyped s) (StatementTyped s r) (typed s e) (λ e. Good (Eval at e)) (expression_typed s i e) (λ e w. w)
  statement_typed s i r (Block at items) o =
      gives_one (ItemsTyped (inner s) r) (StatementTyped s r) (typed_items (inner s) r items) (λ items. Good (Block at items)) (items_typed (inner s) (inner_sight s i) r items o) (λ items w. w)
  statement_typed s i r (If at e a b) o =
      gives_one (IsCondition s) (StatementTyped s r) (typed_condition s e) (λ e. one_part (typed_statement s r a) (λ a. one_part (typed_else s r b) (λ b. Good (If at e a b)))) (condition_typed s i e) (λ e u.
      gives_one (StatementTyped s r) (StatementTyped s r) (typed_statement s r a) (λ a. one_part (typed_else s r b) (λ b. Good (If at e a b))) (statement_typed s i r a o.0) (λ a v.
      gives_one (ElseTyped s r) (StatementTyped s r) (typed_else s r b) (λ b. Good (If at e a b)) (else_typed s i r b o.1) (λ b w. (u, v, w))))
  statement_typed s i r (While at annots e a) o =
      gives_one (IsCondition s) (StatementTyped s r) (typed_condition s e) (λ e. one_part (typed_statement s (in_loop r) a) (λ a. Good (While at annots e a))) (condition_typed s i e) (λ e u.
      gives_one (StatementTyped s (in_loop r)) (StatementTyped s r) (typed_statement s (in_loop r) a) (λ a. Good (While at annots e a)) (statement_typed s i (in_loop r) a o) (λ a v. (u, v)))
  statement_typed s i r (Do at a e) o =
      gives_one (StatementTyped s (in_loop r)) (StatementTyped s r) (typed_statement s (in_loop r) a) (λ a. one_part (typed_condition s e) (λ e. Good (Do at a e))) (statement_typed s i (in_loop r) a o)
      (λ a v. gives_one (IsCondition s) (StatementTyped s r) (typed_condition s e) (λ e. Good (Do at a e)) (condition_typed s i e) (λ e u. (v, u)))
  statement_typed s i r (For at annots first e step a) o =
      gives_one (IsFirstThen (inner s) r) (StatementTyped s r) (typed_first (inner s) r first) (λ first.
      one_part (typed_maybe (typed_condition (behind_first (inner s) first)) e) (λ e. one_part (typed_maybe (typed (behind_first (inner s) first)) step) (λ step.
      one_part (typed_statement (behind_first (inner s) first) (in_loop r) a) (λ a. Good (For at annots first e step a))))) (first_typed (inner s) (inner_sight s i) r first o.0) (λ first u.
      gives_one (WhereAny (IsCondition (behind_first (inner s) first))) (StatementTyped s r) (typed_maybe (typed_condition (behind_first (inner s) first)) e) (λ e.
      one_part (typed_maybe (typed (behind_first (inner s) first)) step) (λ step. one_part (typed_statement (behind_first (inner s) first) (in_loop r) a) (λ a. Good (For at annots first e step a))))
      (maybe_typed (IsCondition (behind_first (inner s) first)) (typed_condition (behind_first (inner s) first)) e (condition_typed (behind_first (inner s) first) u.sight)) (λ e v.
      gives_one (WhereAny (WellTyped (behind_first (inner s) first))) (StatementTyped s r) (typed_maybe (typed (behind_first (inner s) first)) step) (λ step.
      one_part (typed_statement (behind_first (inner s) first) (in_loop r) a) (λ a. Good (For at annots first e step a)))
      (maybe_typed (WellTyped (behind_first (inner s) first)) (typed (behind_first (inner s) first)) step (expression_typed (behind_first (inner s) first) u.sight)) (λ step w.
      gives_one (StatementTyped (behind_first (inner s) first) (in_loop r)) (StatementTyped s r) (typed_statement (behind_first (inner s) first) (in_loop r) a) (λ a. Good (For at annots first e step a))
      (statement_typed (behind_first (inner s) first) u.sight (in_loop r) a o.1) (λ a x. (u.typed, v, w, x)))))
  statement_typed s i r (Break at) o = gives_where (StatementTyped s r) r.breaks _ _ (λ t. t)
  statement_typed s i r (Continue at) o = gives_where (StatementTyped s r) r.loops _ _ (λ t. t)
  statement_typed s i r (Return at e) o =
      gives_one (WhereAny (WellTyped s)) (StatementTyped s r) (typed_maybe (λ e. decayed_of (typed s e)) e) (returned s at r.result)
      (maybe_typed (WellTyped s) (λ e. decayed_of (typed s e)) e (value_typed s i)) (λ e w. returned_typed s i at r e w)
  statement_typed s i r (Labelled at l a) o = gives_one (StatementTyped s r) (StatementTyped s r) (typed_statement s r a) (λ a. Good (Labelled at l a)) (statement_typed s i r a o) (λ a v. v)
  statement_typed s i r (Switch at e cases) o =
      gives_one (IsControlling s) (StatementTyped s r) (one_part (decayed_of (typed s e)) controlling) (λ x. one_part (typed_cases s (in_switch r) x.0 [] false cases) (λ cases. Good (Switch at x.1 cases))) (controlling_typed s i e) (λ x u.
      gives_one (CasesTyped s (in_switch r) x.0) (StatementTyped s r) (typed_cases s (in_switch r) x.0 [] false cases) (λ cs. Good (Switch at x.1 cs)) (cases_typed s i (in_switch r) x.0 [] false cases o)
      (λ cs v. (u.0, u.2, u.3, subst (λ k. CasesTyped s (in_switch r) k cs) u.1 v)))

  cases_typed : (s : Sight) → IsWholeSight s → (r : Around) (k : CInt) (used : List ℤ) (has_default : Bool) (cases : Cases) → CasesAtOffsets cases → Gives (CasesTyped s r k) (typed_cases s r k used has_default cases)
  cases_typed s i r k used d NoCase o = tt
  cases_typed s i r k used d (AnotherCase at None items rest) o =
      gives_where (CasesTyped s r k) (not d) (no_type at) _ (λ _.
      gives_one (ItemsTyped s r) (CasesTyped s r k) (typed_items s r items) (λ items. one_part (typed_cases s r k used true rest) (λ rest. Good (AnotherCase at None items rest))) (items_typed s i r items o.0) (λ js v.
      gives_one (CasesTyped s r k) (CasesTyped s r k) (typed_cases s r k used true rest) (λ rest. Good (AnotherCase at None js rest)) (cases_typed s i r k used true rest o.1) (λ cs w. (tt, v, w))))
  cases_typed s i r k used d (AnotherCase at (Some e) items rest) o =
      gives_one (λ z. fits k z ≡ true) (CasesTyped s r k) (case_value s k used e) (λ z. one_part (typed_items s r items) (λ items.
      one_part (typed_cases s r k (z ∷ used) d rest) (λ rest. Good (AnotherCase at (Some (case_number k (place_of e) z)) items rest)))) (case_fits s k used e) (λ z f.
      gives_one (ItemsTyped s r) (CasesTyped s r k) (typed_items s r items)
      (λ items. one_part (typed_cases s r k (z ∷ used) d rest) (λ rest. Good (AnotherCase at (Some (case_number k (place_of e) z)) items rest))) (items_typed s i r items o.0) (λ js v.
      gives_one (CasesTyped s r k) (CasesTyped s r k) (typed_cases s r k (z ∷ used) d rest) (λ rest. Good (AnotherCase at (Some (case_number k (place_of e) z)) js rest))
      (cases_typed s i r k (z ∷ used) d rest o.1) (λ cs w. ((refl, refl, f), v, w))))

  else_typed : (s : Sight) → IsWholeSight s → (r : Around) (b : ElsePart) → ElseAtOffsets b → Gives (ElseTyped s r) (typed_else s r b)
  else_typed s i r NoElse o = tt
  else_typed s i r (Else a) o = gives_one (StatementTyped s r) (ElseTyped s r) (typed_statement s r a) (λ a. Good (Else a)) (statement_typed s i r a o) (λ a w. w)

  first_typed : (s : Sight) → IsWholeSight s → (r : Around) (b : ForFirst) → FirstAtOffsets b → Gives (IsFirstThen s r) (typed_first s r b)
  first_typed s i r NoFirst o = record { typed = tt; sight = i }
  first_typed s i r (First b) o = gives_one (IsItemThen s r) (IsFirstThen s r) (typed_item s r b) (λ i. Good (First i)) (item_typed s i r b o) (λ b w. record { typed = w.typed; sight = w.sight })

  item_typed : (s : Sight) → IsWholeSight s → (r : Around) (b : BlockItem) → ItemAtOffsets b → Gives (IsItemThen s r) (typed_item s r b)
  item_typed s i r (Declare ds) o =
      gives_one (AreDeclaredThen s) (IsItemThen s r) (typed_declarations s ds) (λ ds. Good (Declare ds)) (declarations_typed s i ds o) (λ ds w. record { typed = w.declared; sight = w.sight })
  item_typed s i r (Specify at t) o = gives_one (λ u. Unit {0}) (IsItemThen s r) (typed_type s at t) (λ u. Good (Specify at u)) (anything (typed_type s at t)) (λ u v. record { typed = tt; sight = i })
  item_typed s i r (Run a) o = gives_one (StatementTyped s r) (IsItemThen s r) (typed_statement s r a) (λ a. Good (Run a)) (statement_typed s i r a o) (λ a w. record { typed = w; sight = i })
  item_typed s i r (Asserts annots) o = record { typed = tt; sight = i }

  pub items_typed : (s : Sight) → IsWholeSight s → (r : Around) (items : BlockItems) → ItemsAtOffsets items → Gives (ItemsTyped s r) (typed_items s r items)
  items_typed s i r NoItem o = tt
  items_typed s i r (Then b rest) o =
      gives_one (IsItemThen s r) (ItemsTyped s r) (typed_item s r b) (λ i. one_part (typed_items (behind s i) r rest) (λ rest. Good (Then i rest))) (item_typed s i r b o.0) (λ b v.
      gives_one (ItemsTyped (behind s b) r) (ItemsTyped s r) (typed_items (behind s b) r rest) (λ rest. Good (Then b rest)) (items_typed (behind s b) v.sight r rest o.1) (λ rest w. (v.typed, w)))

-- a typed statement is well typed
pub statement_is_typed : (s : Sight) (r : Around) (a b : Statement) → IsWholeSight s → StatementAtOffsets a → typed_statement s r a ≡ Good b → StatementTyped s r b
statement_is_typed s r a b i o is = gives_of (StatementTyped s r) (typed_statement s r a) b (statement_typed s i r a o) is
