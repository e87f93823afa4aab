-- Declared objects, statements and functions that are well typed stay so where more structs are known.
use Rattle.c_syntax.specs.declared.types.CInt.{CInt}
use Rattle.c_model.specs.StatementTyping.{in_switch}
use Rattle.c_model.specs.Conversions.{promoted}
use Rattle.c_model.specs.TypedTrees.{CasesTyped}
use Rattle.std.proofs.Common.{◌≡◌, ℕ, zero, suc, ◌+◌, refl, sym, ap, ◌∙◌, subst, List, [], ◌∷◌, Option, Some, None, Bool, true, false, cond, nat_eq, slice_get}
use Rattle.c_syntax.specs.declared.place.Place.{Place}
use Rattle.c_syntax.specs.Ctypes.{PlainType, Int, Ptr, Array, Struct, Count}
use Rattle.c_syntax.specs.Expressions.{Expression}
use Rattle.c_syntax.specs.Statements.{Initialiser, One, Many, Initialisers, NoInitialiser, Listed, Declaration, Statement, Empty, Eval, Block, If, While, Do}
use Rattle.c_syntax.specs.Statements.{For, Break, Continue, Return, Labelled, Switch, Cases, NoCase, AnotherCase}
use Rattle.c_syntax.specs.Statements.{ElsePart, NoElse, Else, ForFirst, NoFirst, First, BlockItem, Declare, Specify, Run, Asserts, BlockItems, NoItem, Then}
use Rattle.c_syntax.specs.Programs.{StructMember, StructType, Function}
use Rattle.c_syntax.specs.Layouts.{size_of, elements, member_parts, members_of_struct}
use Rattle.c_model.specs.Meaning.{parts_or_itself}
use Rattle.c_model.specs.ExpressionTyping.{Sight, HasSize, is_known, sized, tables_in, with_object, with_objects, inner}
use Rattle.c_model.specs.StatementTyping.{Around, in_loop, behind, behind_first}
use Rattle.c_model.specs.UnitTyping.{with_parameter, with_parameters}
use Rattle.c_model.specs.TypedTrees.{InitialisedBy, ByText, ByValue, Initialises, PartsInitialised, WhereAny, IsDeclared, AreDeclared, Returned, StatementTyped, ElseTyped, FirstTyped, ItemTyped, ItemsTyped}
use Rattle.c_model.specs.TypedTrees.{AreParameters, around_body, BodyTyped, FunctionTyped, IsCondition, WellTyped}
use Rattle.c_model.proofs.StableConstants.{Grows, size_kept}
use Rattle.c_model.proofs.StableTrees.{struct_kept, known_size_kept, well_kept, condition_kept, value_kept}

abbrev pub AreSized : List StructType → List StructMember → Type 0
AreSized structs [] = Unit {0}
AreSized structs (m ∷ ms) = (sized structs m.ctype ≡ HasSize) × AreSized structs ms

-- more structs are known, and the members of known structs have a size
pub record Widens (old new : List StructType) : Type 0 where
  pub grows : Grows old new
  pub members : (n : ℕ) (x : StructType) → slice_get old n ≡ Some x → nat_eq x.size 0 ≡ false → AreSized old x.members

-- ---- parts

abbrev PartsSized : List StructType → List (ℕ × PlainType) → Type 0
PartsSized structs [] = Unit {0}
PartsSized structs (c ∷ cs) = (sized structs c.1 ≡ HasSize) × PartsSized structs cs

elements_sized : (structs : List StructType) (offset size n : ℕ) (t : PlainType) → sized structs t ≡ HasSize → PartsSized structs (elements offset size n t)
elements_sized structs offset size zero t k = tt
elements_sized structs offset size (suc n) t k = (k, elements_sized structs (offset + size) size n t k)

members_sized : (structs : List StructType) (ms : List StructMember) → AreSized structs ms → PartsSized structs (member_parts ms)
members_sized structs [] h = tt
members_sized structs (m ∷ ms) h = (h.0, members_sized structs ms h.1)

parts_sized : (s : Sight) (new : List StructType) → Widens s.structs new → (t : PlainType) → sized s.structs t ≡ HasSize → PartsSized s.structs (parts_or_itself (tables_in s) t)
parts_sized s new w (Int k) e = (refl, tt)
parts_sized s new w (Ptr t) e = (refl, tt)
parts_sized s new w (Array t (Count n)) e = elements_sized s.structs 0 (size_of s.structs t) n t e
parts_sized s new w (Struct n) e = by (slice_get s.structs n) refl e
  where
    by_size : (x : StructType) → slice_get s.structs n ≡ Some x → (b : Bool) → nat_eq x.size 0 ≡ b → is_known (Some x) ≡ HasSize → PartsSized s.structs (member_parts x.members)
    by_size x i true z k = absurd (clash (nat_eq x.size 0) z k)
      where
        clash : (b : Bool) → b ≡ true → is_known (Some x) ≡ HasSize → ⊥
        clash b e k = absurd cc
    by_size x i false z k = members_sized s.structs x.members (w.members n x i z)

    by : (o : Option StructType) → slice_get s.structs n ≡ o → is_known o ≡ HasSize → PartsSized s.structs (member_parts (members_of_struct o))
    by None i k = absurd cc
    by (Some x) i k = by_size x i (nat_eq x.size 0) refl k
parts_sized s new w _ e = absurd cc

parts_kept : (s : Sight) (new : List StructType) → Widens s.structs new → (t : PlainType) → sized s.structs t ≡ HasSize
    → parts_or_itself (tables_in s) t ≡ parts_or_itself (tables_in (record s { structs = new })) t
parts_kept s new w (Int k) e = refl
parts_kept s new w (Ptr t) e = refl
parts_kept s new w (Array t (Count n)) e = ap (λ z. elements 0 z n t) (size_kept s.structs new w.grows t e).size
parts_kept s new w (Struct n) e = ap (λ o. member_parts (members_of_struct o)) (sym (struct_kept s.structs new w.grows n e))
parts_kept s new w _ e = absurd cc

module _ (new : List StructType) (levels tags enums : List ℕ)
  where
    abbrev pub at_last : Sight → Sight
    at_last s = record s { structs = new; levels = levels; enum_tags = tags; enums = enums }

    -- ---- initialisers

    module _ (s : Sight) (w : Widens s.structs new)
      where
        value_initialised : (t : PlainType) (e : Expression) → InitialisedBy s t e → InitialisedBy (at_last s) t e
        value_initialised t e (ByText f) = ByText (record {
          place = f.place;
          ctype = f.ctype;
          text = f.text;
          is = f.is;
          typed = record { text = f.typed.text; found = f.typed.found; ctype = f.typed.ctype };
          element = f.element;
          count = f.count;
          array = f.array;
          characters = f.characters;
          room = f.room;
        })
        value_initialised t e (ByValue v n) = ByValue (value_kept s new levels tags enums w.grows t e v) n

        mutual
          initialiser_kept : (t : PlainType) → sized s.structs t ≡ HasSize → (i : Initialiser) → Initialises s t i → Initialises (at_last s) t i
          initialiser_kept t k (One e) h = value_initialised t e h
          initialiser_kept t k (Many at is) h =
              subst (λ cs. PartsInitialised (at_last s) cs is) (parts_kept s new w t k) (initialisers_kept (parts_or_itself (tables_in s) t) (parts_sized s new w t k) is h)

          initialisers_kept : (cs : List (ℕ × PlainType)) → PartsSized s.structs cs → (is : Initialisers) → PartsInitialised s cs is → PartsInitialised (at_last s) cs is
          initialisers_kept [] k NoInitialiser h = tt
          initialisers_kept (c ∷ cs) k NoInitialiser h = tt
          initialisers_kept [] k (Listed i is) h = h
          initialisers_kept (c ∷ cs) k (Listed i is) h = (initialiser_kept c.1 k.0 i h.0, initialisers_kept cs k.1 is h.1)

        maybe_kept : (t : PlainType) → sized s.structs t ≡ HasSize → (o : Option (Place × Initialiser)) → WhereAny (λ (i : Place × Initialiser). Initialises s t i.1) o
            → WhereAny (λ (i : Place × Initialiser). Initialises (at_last s) t i.1) o
        maybe_kept t k None h = tt
        maybe_kept t k (Some i) h = initialiser_kept t k i.1 h

    -- ---- declarations

    pub declared_kept : (s : Sight) → Widens s.structs new → (d : Declaration) → IsDeclared s d → IsDeclared (at_last s) d
    declared_kept s w d h = record {
      own_name = h.own_name;
      new = h.new;
      size = known_size_kept s new levels tags enums w.grows d.ctype h.size;
      init = maybe_kept (with_object s d) w d.ctype h.size.known d.init h.init;
    }

    all_declared_kept : (s : Sight) → Widens s.structs new → (ds : List Declaration) → AreDeclared s ds → AreDeclared (at_last s) ds
    all_declared_kept s w [] h = tt
    all_declared_kept s w (d ∷ ds) h = (declared_kept s w d h.0, all_declared_kept (with_object s d) w ds h.1)

    objects_last : (s : Sight) (ds : List Declaration) → with_objects (at_last s) ds ≡ at_last (with_objects s ds)
    objects_last s [] = refl
    objects_last s (d ∷ ds) = objects_last (with_object s d) ds

    objects_structs : (s : Sight) (ds : List Declaration) → (with_objects s ds).structs ≡ s.structs
    objects_structs s [] = refl
    objects_structs s (d ∷ ds) = objects_structs (with_object s d) ds

    pub behind_last : (s : Sight) (i : BlockItem) → behind (at_last s) i ≡ at_last (behind s i)
    behind_last s (Declare ds) = objects_last s ds
    behind_last s (Specify at t) = refl
    behind_last s (Run a) = refl
    behind_last s (Asserts annots) = refl

    behind_structs : (s : Sight) (i : BlockItem) → (behind s i).structs ≡ s.structs
    behind_structs s (Declare ds) = objects_structs s ds
    behind_structs s (Specify at t) = refl
    behind_structs s (Run a) = refl
    behind_structs s (Asserts annots) = refl

    pub first_last : (s : Sight) (i : ForFirst) → behind_first (at_last s) i ≡ at_last (behind_first s i)
    first_last s NoFirst = refl
    first_last s (First i) = behind_last s i

    first_structs : (s : Sight) (i : ForFirst) → (behind_first s i).structs ≡ s.structs
    first_structs s NoFirst = refl
    first_structs s (First i) = behind_structs s i

    -- ---- statements

    condition_last : (s : Sight) → Widens s.structs new → (e : Expression) → IsCondition s e → IsCondition (at_last s) e
    condition_last s w e h = condition_kept s new levels tags enums w.grows e h

    well_last : (s : Sight) → Widens s.structs new → (e : Expression) → WellTyped s e → WellTyped (at_last s) e
    well_last s w e h = well_kept s new levels tags enums w.grows e h

    any_kept : (P Q : Expression → Type 0) → ((e : Expression) → P e → Q e) → (e : Option Expression) → WhereAny P e → WhereAny Q e
    any_kept P Q k None h = tt
    any_kept P Q k (Some e) h = k e h

    returned_kept : (s : Sight) → Widens s.structs new → (t : PlainType) (e : Option Expression) → Returned s t e → Returned (at_last s) t e
    returned_kept s w t None h = h
    returned_kept s w t (Some e) h = value_kept s new levels tags enums w.grows t e h

    mutual
      statement_kept : (s : Sight) → Widens s.structs new → (r : Around) (a : Statement) → StatementTyped s r a → StatementTyped (at_last s) r a
      statement_kept s w r (Empty at) h = tt
      statement_kept s w r (Eval at e) h = well_last s w e h
      statement_kept s w r (Block at items) h = items_kept (inner s) w r items h
      statement_kept s w r (If at e a b) h = (condition_last s w e h.0, statement_kept s w r a h.1, else_kept s w r b h.2)
      statement_kept s w r (While at annots e a) h = (condition_last s w e h.0, statement_kept s w (in_loop r) a h.1)
      statement_kept s w r (Do at a e) h = (statement_kept s w (in_loop r) a h.0, condition_last s w e h.1)
      statement_kept s w r (For at annots first e step a) h =
          let v = subst (λ ss. Widens ss new) (sym (first_structs (inner s) first)) w in
          let back = sym (first_last (inner s) first) in (
            first_kept (inner s) w r first h.0,
            subst (λ s. WhereAny (IsCondition s) e) back (any_kept (IsCondition (behind_first (inner s) first)) (IsCondition (at_last (behind_first (inner s) first))) (condition_last (behind_first (inner s) first) v) e h.1),
            subst (λ s. WhereAny (WellTyped s) step) back (any_kept (WellTyped (behind_first (inner s) first)) (WellTyped (at_last (behind_first (inner s) first))) (well_last (behind_first (inner s) first) v) step h.2),
            subst (λ s. StatementTyped s (in_loop r) a) back (statement_kept (behind_first (inner s) first) v (in_loop r) a h.3),
          )
      statement_kept s w r (Break at) h = h
      statement_kept s w r (Continue at) h = h
      statement_kept s w r (Return at e) h = returned_kept s w r.result e h
      statement_kept s w r (Labelled at l a) h = statement_kept s w r a h
      statement_kept s w r (Switch at e cases) h = (h.0, well_last s w e h.1, h.2, cases_kept s w (in_switch r) (promoted h.0) cases h.3)

      cases_kept : (s : Sight) → Widens s.structs new → (r : Around) (k : CInt) (cases : Cases) → CasesTyped s r k cases → CasesTyped (at_last s) r k cases
      cases_kept s w r k NoCase h = tt
      cases_kept s w r k (AnotherCase at v items rest) h = (h.0, items_kept s w r items h.1, cases_kept s w r k rest h.2)

      else_kept : (s : Sight) → Widens s.structs new → (r : Around) (b : ElsePart) → ElseTyped s r b → ElseTyped (at_last s) r b
      else_kept s w r NoElse h = tt
      else_kept s w r (Else a) h = statement_kept s w r a h

      first_kept : (s : Sight) → Widens s.structs new → (r : Around) (b : ForFirst) → FirstTyped s r b → FirstTyped (at_last s) r b
      first_kept s w r NoFirst h = tt
      first_kept s w r (First i) h = item_kept s w r i h

      item_kept : (s : Sight) → Widens s.structs new → (r : Around) (i : BlockItem) → ItemTyped s r i → ItemTyped (at_last s) r i
      item_kept s w r (Declare ds) h = all_declared_kept s w ds h
      item_kept s w r (Specify at t) h = tt
      item_kept s w r (Run a) h = statement_kept s w r a h
      item_kept s w r (Asserts annots) h = tt

      items_kept : (s : Sight) → Widens s.structs new → (r : Around) (items : BlockItems) → ItemsTyped s r items → ItemsTyped (at_last s) r items
      items_kept s w r NoItem h = tt
      items_kept s w r (Then i rest) h = (
        item_kept s w r i h.0,
        subst (λ s. ItemsTyped s r rest) (sym (behind_last s i)) (items_kept (behind s i) (subst (λ ss. Widens ss new) (sym (behind_structs s i)) w) r rest h.1),
      )

    -- ---- functions

    parameter_last : (s : Sight) (d : Declaration) → with_parameter (at_last s) d ≡ at_last (with_parameter s d)
    parameter_last s d = by d.named
      where
        by : (b : Bool) → cond b (with_object (at_last s) d) (at_last s) ≡ at_last (cond b (with_object s d) s)
        by true = refl
        by false = refl

    parameter_structs : (s : Sight) (d : Declaration) → (with_parameter s d).structs ≡ s.structs
    parameter_structs s d = by d.named
      where
        by : (b : Bool) → (cond b (with_object s d) s).structs ≡ s.structs
        by true = refl
        by false = refl

    pub parameters_last : (s : Sight) (ds : List Declaration) → with_parameters (at_last s) ds ≡ at_last (with_parameters s ds)
    parameters_last s [] = refl
    parameters_last s (d ∷ ds) = ap (λ s. with_parameters s ds) (parameter_last s d) ∙ parameters_last (with_parameter s d) ds

    parameters_structs : (s : Sight) (ds : List Declaration) → (with_parameters s ds).structs ≡ s.structs
    parameters_structs s [] = refl
    parameters_structs s (d ∷ ds) = parameters_structs (with_parameter s d) ds ∙ parameter_structs s d

    are_parameters_kept : (s : Sight) (ds : List Declaration) → AreParameters s ds → AreParameters (at_last s) ds
    are_parameters_kept s [] h = tt
    are_parameters_kept s (d ∷ ds) h = (
      record { new = h.0.new; scalar = h.0.scalar; none = h.0.none },
      subst (λ s. AreParameters s ds) (sym (parameter_last s d)) (are_parameters_kept (with_parameter s d) ds h.1),
    )

    body_kept : (s : Sight) → Widens s.structs new → (t : PlainType) (b : Option Statement) → BodyTyped s t b → BodyTyped (at_last s) t b
    body_kept s w t None h = tt
    body_kept s w t (Some (Block at items)) h = items_kept s w (around_body t) items h
    body_kept s w t (Some _) h = tt

    pub function_kept : (s : Sight) → Widens s.structs new → (f : Function) → FunctionTyped s f → FunctionTyped (at_last s) f
    function_kept s w f h = record {
      own_name = h.own_name;
      result = h.result;
      params = are_parameters_kept (inner s) f.params h.params;
      body = subst (λ s. BodyTyped s f.result f.body) (sym (parameters_last (inner s) f.params))
          (body_kept (with_parameters (inner s) f.params) (subst (λ ss. Widens ss new) (sym (parameters_structs (inner s) f.params)) w) f.result f.body h.body);
      labels = h.labels;
    }
