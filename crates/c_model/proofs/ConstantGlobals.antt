-- Initialisers of globals have no effect, since they are constant (C99 6.7.8 p4).
use Rattle.std.proofs.Common.{◌≡◌, ℕ, pos, refl, sym, ap, subst, List, [], ◌∷◌, ◌++◌, Option, Some, None, Bool, true, false, not, ◌&&◌, ◌||◌, if◌then◌else◌, slice_get}
use Rattle.c_syntax.specs.declared.place.Place.{Place}
use Rattle.c_syntax.specs.Ctypes.{PlainType, Array}
use Rattle.c_syntax.specs.declared.expression.UnOp.TheVariants as prefix
use Rattle.c_syntax.specs.declared.expression.BinOp.TheVariants as operator
use Rattle.c_syntax.specs.Expressions.{Expression, Node, Number, Letter, Text, Variable, Unary, Binary, Both, Either, Choice, Cast, SizeOfType, SizeOfExpr, Index, Dot, Arrow, Comma, type_of, place_of}
use Rattle.c_syntax.specs.Statements.{Declaration, Initialiser, One, Many, Initialisers, NoInitialiser, Listed}
use Rattle.c_syntax.specs.Programs.{StructType, EnumConstant, TranslationUnit}
use Rattle.c_model.specs.Integers.{integer_type}
use Rattle.c_model.specs.Library.{is_there}
use Rattle.c_model.specs.Checked.{Good, one_part, both_parts, where_so}
use Rattle.c_model.specs.Meaning.{Tables, eval_with, string_in, is_array, is_pointer}
use Rattle.c_model.specs.ExpressionTyping.{no_type, Sight, integer_value, no_callee, is_constant, is_constant_operator, is_other, is_zero, has_object, tables_in, constant, is_scalar, in_type, is_assigned, decayed, typed, with_object}
use Rattle.c_model.specs.DeclarationTyping.{is_static_address, is_static_place, has_value, with_globals, is_address, is_text, is_static, takes_text, is_text_array, initial_value}
use Rattle.c_model.specs.DeclarationTyping.{no_more, next_slot, Slots, too_many, typed_alone, typed_initialiser, typed_text, slots_of}
use Rattle.c_model.specs.DeclarationTyping.{typed_items, typed_maybe_initialiser, own_name, is_declared_in_file, typed_object_type, typed_global, typed_typedef, typed_member, typed_enumerators, place_of_initialiser}
use Rattle.c_model.specs.UnitTyping.{FileItem, StructHead, Member, AnEnum, ATypedef, AGlobal, AFunction, typed_function, Progress, new_tag, typed_item_of_file, typed_items_of_file, at_start, items_of_file, with_progress}
use Rattle.c_model.specs.UnitTyping.{typed_unit}
use Rattle.c_model.specs.TypedTrees.{WhereAny, in_casts, TypedAs}
use Rattle.c_syntax.specs.Trees.{kind_of}
use Rattle.c_model.specs.AcceptedPrograms.{AreConstant}
use Rattle.c_model.specs.Pure.{IsPure, IsPureInitialiser, ArePureInitialisers}
use Rattle.c_model.proofs.TypedParts.{Gives, gives_of, gives_one, gives_both, gives_where, gives_too_many, and_true}
use Rattle.c_model.proofs.TypedDeclarations.{anything}
use Rattle.c_model.proofs.TypedOperators.{or_cases}
use Rattle.c_model.proofs.TypedReading.{in_type_as, decayed_as, typed_as}

-- ---- constants

casts_pure : (ts : List PlainType) (e : Expression) → IsPure e → IsPure (in_casts ts e)
casts_pure [] e h = h
casts_pure (t ∷ ts) e h = casts_pure ts e h

all_true : (a b c : Bool) → (a && b && c) ≡ true → (a ≡ true) × (b ≡ true) × (c ≡ true)
all_true true true true h = (refl, refl, refl)
all_true true true false h = absurd cc
all_true true false c h = absurd cc
all_true false b c h = absurd cc

module _ (T : Tables)
  where
    no_object : (b : Bool) (e : Expression) → is_constant T b e ≡ true → has_object e ≡ false
    no_object b (Node at t (Number n k)) h = refl
    no_object b (Node at t (Letter n)) h = refl
    no_object b (Node at t (Unary prefix.Plus x)) h = refl
    no_object b (Node at t (Unary prefix.Minus x)) h = refl
    no_object b (Node at t (Unary prefix.Flip x)) h = refl
    no_object b (Node at t (Unary prefix.Not x)) h = refl
    no_object b (Node at t (Unary prefix.Address x)) h = absurd cc
    no_object b (Node at t (Unary prefix.Deref x)) h = absurd cc
    no_object b (Node at t (Binary op x y)) h = refl
    no_object b (Node at t (Both x y)) h = refl
    no_object b (Node at t (Either x y)) h = refl
    no_object b (Node at t (Choice x y z)) h = refl
    no_object b (Node at t (Cast to x)) h = refl
    no_object b (Node at t (SizeOfType u)) h = refl
    no_object b (Node at t (SizeOfExpr x)) h = refl
    no_object b (Node at t (Comma x y)) h = no_object b y (all_true (not b) (is_constant T b x) (is_constant T b y) h).2
    no_object b e h = absurd cc

    constant_pure : (b : Bool) (e : Expression) → is_constant T b e ≡ true → IsPure e
    constant_pure b (Node at t (Number n k)) h = tt
    constant_pure b (Node at t (Letter n)) h = tt
    constant_pure b (Node at t (Unary op x)) h = constant_pure b x (and_true (is_constant_operator op) (is_constant T b x) h).1
    constant_pure b (Node at t (Binary op x y)) h =
        let q = and_true (is_constant T b x) (is_constant T b y) h in
        (constant_pure b x q.0, constant_pure b y q.1)
    constant_pure b (Node at t (Both x y)) h =
        let q = and_true (is_constant T b x) (is_constant T (b && is_other (integer_value T x)) y) h in
        (constant_pure b x q.0, constant_pure (b && is_other (integer_value T x)) y q.1)
    constant_pure b (Node at t (Either x y)) h =
        let q = and_true (is_constant T b x) (is_constant T (b && is_zero (integer_value T x)) y) h in
        (constant_pure b x q.0, constant_pure (b && is_zero (integer_value T x)) y q.1)
    constant_pure b (Node at t (Choice x y z)) h =
        let q = all_true (is_constant T b x) (is_constant T (b && is_other (integer_value T x)) y) (is_constant T (b && is_zero (integer_value T x)) z) h in
        (constant_pure b x q.0, constant_pure (b && is_other (integer_value T x)) y q.1, constant_pure (b && is_zero (integer_value T x)) z q.2)
    constant_pure b (Node at t (Cast to x)) h = constant_pure b x (and_true (is_there (integer_type to)) (is_constant T b x) h).1
    constant_pure b (Node at t (SizeOfType u)) h = tt
    constant_pure b (Node at t (SizeOfExpr x)) h = tt
    constant_pure b (Node at t (Comma x y)) h =
        let q = all_true (not b) (is_constant T b x) (is_constant T b y) h in
        (constant_pure b x q.1, constant_pure b y q.2, no_object b y q.2)
    constant_pure b e h = absurd cc

module _ (s : Sight)
  where
    -- an expression that has a value as a constant
    number_pure : (e : Expression) → is_there (constant s e) ≡ true → IsPure e
    number_pure e h = by (is_constant (tables_in s) true e) refl h
      where
        by : (b : Bool) → is_constant (tables_in s) true e ≡ b → is_there (constant s e) ≡ true → IsPure e
        by true same h = constant_pure (tables_in s) true e same
        by false same h = absurd (let none : constant s e ≡ None = ap (λ b. if b && is_there (integer_type (type_of e)) then integer_value (tables_in s) e else None) same in
            let absent : is_there (constant s e) ≡ false = ap is_there none in cc)

    abbrev is_number : Expression → Bool
    is_number i = is_there (constant s i)

    -- one of two is an address, and the other one a number
    abbrev one_address : Expression → Expression → Bool
    one_address x y = is_static_address is_number x && is_number y || is_number x && is_static_address is_number y

    sum_pure : (x y : Expression) → (is_static_address is_number x ≡ true → IsPure x) → (is_static_address is_number y ≡ true → IsPure y) → one_address x y ≡ true → IsPure x × IsPure y
    sum_pure x y a b h = or_cases (is_static_address is_number x && is_number y) (is_number x && is_static_address is_number y) h
        (λ g. let q = and_true (is_static_address is_number x) (is_number y) g in (a q.0, number_pure y q.1))
        (λ g. let q = and_true (is_number x) (is_static_address is_number y) g in (number_pure x q.0, b q.1))

    cast_pure : (x : Expression) → (is_static_place is_number x ≡ true → IsPure x) → (is_static_address is_number x ≡ true → IsPure x)
        → (b : Bool) → (if b then is_static_place is_number x else (is_static_address is_number x || is_number x)) ≡ true → IsPure x
    cast_pure x p a true h = p h
    cast_pure x p a false h = or_cases (is_static_address is_number x) (is_number x) h a (number_pure x)

    mutual
      address_pure : (e : Expression) → is_static_address is_number e ≡ true → IsPure e
      address_pure (Node at t (Variable x)) h = tt
      address_pure (Node at t (Unary prefix.Address x)) h = place_pure x h
      address_pure (Node at t (Binary operator.Add x y)) h = sum_pure x y (λ g. address_pure x g) (λ g. address_pure y g) h
      address_pure (Node at t (Binary operator.Sub x y)) h =
          let q = and_true (is_static_address is_number x) (is_number y) h in
          (address_pure x q.0, number_pure y q.1)
      address_pure (Node at t (Cast to x)) h =
          cast_pure x (λ g. place_pure x g) (λ g. address_pure x g) (is_array (type_of x))
          (and_true (is_pointer to) (if is_array (type_of x) then is_static_place is_number x else (is_static_address is_number x || is_number x)) h).1
      address_pure e h = absurd cc

      place_pure : (e : Expression) → is_static_place is_number e ≡ true → IsPure e
      place_pure (Node at t (Variable x)) h = tt
      place_pure (Node at t (Unary prefix.Deref x)) h = address_pure x h
      place_pure (Node at t (Index x y)) h = sum_pure x y (λ g. address_pure x g) (λ g. address_pure y g) h
      place_pure (Node at t (Dot x m)) h = place_pure x h
      place_pure (Node at t (Arrow x m)) h = address_pure x h
      place_pure e h = absurd cc

    pointer_pure : (e : Expression) → is_address s e ≡ true → IsPure e
    pointer_pure e h = address_pure e (all_true (is_pointer (type_of e)) (is_static_address is_number e) (has_value (eval_with (tables_in s) e no_callee (with_globals s))) h).1

-- ---- string literals

text_pure : (read e : Expression) → TypedAs read e → is_text read ≡ true → IsPure e
text_pure (Node at t (Text offset)) e h x = subst IsPure (sym h.2) (casts_pure h.0 h.1 (by h.1 h.4))
  where
    by : (x : Expression) → (n : ℕ) × (kind_of x ≡ Text n) → IsPure x
    by (Node p u k) w = subst (λ k. IsPure (Node p u k)) (sym w.1) tt
text_pure (Node at t _) e h x = absurd cc

string_pure : (s : Sight) (t : PlainType) (e : Expression) → takes_text s t (string_in e) ≡ true → IsPure e
string_pure s t (Node at u (Text n)) h = tt
string_pure s (Array t n) (Node at u _) h = absurd cc
string_pure s _ (Node at u _) h = absurd cc

-- ---- initialisers

abbrev MaybePure : Option (Place × Initialiser) → Type 0
MaybePure o = WhereAny (λ (i : Place × Initialiser). IsPureInitialiser i.1) o

-- where these are static in such a sight
module _ (s around : Sight) where
  static_pure : (read e : Expression) → TypedAs read e → is_static around read e ≡ true → IsPure e
  static_pure read e h x = or_cases (is_text read || is_there (constant around e)) (is_address around e) x
      (λ y. or_cases (is_text read) (is_there (constant around e)) y (text_pure read e h) (number_pure around e)) (pointer_pure around e)

  value_pure : (here : Place) (t : PlainType) (read e : Expression) → TypedAs read e → Gives IsPureInitialiser (initial_value s (is_static around) here t read e)
  value_pure here t read e h = by (takes_text s t (string_in e)) refl
    where
      by : (b : Bool) → takes_text s t (string_in e) ≡ b → Gives IsPureInitialiser (
          if b then Good (One e)
          else where_so (is_scalar t && is_assigned s (decayed e) t && is_static around read (in_type t (decayed e))) (no_type here) (Good (One (in_type t (decayed e)))))
      by true c = string_pure s t e c
      by false c = gives_where IsPureInitialiser (is_scalar t && is_assigned s (decayed e) t && is_static around read (in_type t (decayed e))) _ _ (λ g.
          static_pure read (in_type t (decayed e)) (in_type_as read (decayed e) t (decayed_as read e h))
          (and_true (is_scalar t && is_assigned s (decayed e) t) (is_static around read (in_type t (decayed e))) g).1)

  one_pure : (here : Place) (t : PlainType) (e : Expression) → Gives IsPureInitialiser (one_part (typed s e) (initial_value s (is_static around) here t e))
  one_pure here t e = gives_one (TypedAs e) IsPureInitialiser (typed s e) (initial_value s (is_static around) here t e) (typed_as s e) (λ x h. value_pure here t e x h)

  no_more_pure : (is : Initialisers) → Gives ArePureInitialisers (no_more s is)
  no_more_pure NoInitialiser = tt
  no_more_pure (Listed i is) = gives_too_many ArePureInitialisers s i

  alone_pure : (t : PlainType) (is : Initialisers) → Gives ArePureInitialisers (typed_alone s (is_static around) t is)
  alone_pure t NoInitialiser = tt
  alone_pure t (Listed (One e) is) =
      gives_both IsPureInitialiser ArePureInitialisers ArePureInitialisers (one_part (typed s e) (initial_value s (is_static around) (place_of e) t e)) (no_more s is) (λ i is. Good (Listed i is))
      (one_pure (place_of e) t e) (no_more_pure is) (λ i is p q. (p, q))
  alone_pure t (Listed (Many at is) more) = tt

  mutual
    initialiser_pure : (here : Place) (t : PlainType) (i : Initialiser) → Gives IsPureInitialiser (typed_initialiser s (is_static around) here t i)
    initialiser_pure here t (One e) = one_pure here t e
    initialiser_pure here t (Many at is) = by (is_scalar t) (is_text_array t is) (text_item_pure t is) (items_pure (slots_of s t) is)
      where
        by : (b c : Bool) → Gives IsPureInitialiser (typed_text s (is_static around) t is) → Gives ArePureInitialisers (typed_items s (is_static around) (slots_of s t) is) → Gives IsPureInitialiser (
            if b then one_part (typed_alone s (is_static around) t is) (λ is. Good (Many at is))
            else (if c then typed_text s (is_static around) t is else one_part (typed_items s (is_static around) (slots_of s t) is) (λ is. Good (Many at is))))
        by true c h k = gives_one ArePureInitialisers IsPureInitialiser (typed_alone s (is_static around) t is) (λ is. Good (Many at is)) (alone_pure t is) (λ is v. v)
        by false true h k = h
        by false false h k = gives_one ArePureInitialisers IsPureInitialiser (typed_items s (is_static around) (slots_of s t) is) (λ is. Good (Many at is)) k (λ is v. v)

    text_item_pure : (t : PlainType) (is : Initialisers) → Gives IsPureInitialiser (typed_text s (is_static around) t is)
    text_item_pure t NoInitialiser = tt
    text_item_pure t (Listed i is) = initialiser_pure (place_of_initialiser i) t i

    items_pure : (slots : Slots) (is : Initialisers) → Gives ArePureInitialisers (typed_items s (is_static around) slots is)
    items_pure slots NoInitialiser = tt
    items_pure slots (Listed i is) = by (next_slot slots) (λ p. initialiser_pure (place_of_initialiser i) p.0 i) (λ p. items_pure p.1 is)
      where
        by : (o : Option (PlainType × Slots)) → ((p : PlainType × Slots) → Gives IsPureInitialiser (typed_initialiser s (is_static around) (place_of_initialiser i) p.0 i))
            → ((p : PlainType × Slots) → Gives ArePureInitialisers (typed_items s (is_static around) p.1 is)) → Gives ArePureInitialisers (elim o [
              | None ↦ too_many s i
              | Some p ↦ both_parts (typed_initialiser s (is_static around) (place_of_initialiser i) p.0 i) (typed_items s (is_static around) p.1 is) (λ i is. Good (Listed i is))
            ])
        by None h k = gives_too_many ArePureInitialisers s i
        by (Some p) h k = gives_both IsPureInitialiser ArePureInitialisers ArePureInitialisers (typed_initialiser s (is_static around) (place_of_initialiser i) p.0 i) (typed_items s (is_static around) p.1 is)
            (λ i is. Good (Listed i is)) (h p) (k p) (λ i is a b. (a, b))

  maybe_pure : (t : PlainType) (o : Option (Place × Initialiser)) → Gives MaybePure (typed_maybe_initialiser s (is_static around) t o)
  maybe_pure t None = tt
  maybe_pure t (Some i) = gives_one IsPureInitialiser MaybePure (typed_initialiser s (is_static around) i.0 t i.1) (λ j. Good (Some (i.0, j))) (initialiser_pure i.0 t i.1) (λ j h. h)

global_pure : (s : Sight) (d : Declaration) → Gives (λ (e : Declaration). MaybePure e.init) (typed_global s d)
global_pure s d =
    gives_one (λ t. Unit {0}) (λ (e : Declaration). MaybePure e.init) (both_parts (own_name s (is_declared_in_file s d.name) d.place d.name) (typed_object_type s d) (λ n t. Good t)) _ (anything _) (λ t u.
    gives_one MaybePure (λ (e : Declaration). MaybePure e.init)
    (typed_maybe_initialiser (with_object s (record d { ctype = t })) (is_static (with_object s (record d { ctype = t }))) t d.init) _
    (maybe_pure (with_object s (record d { ctype = t })) (with_object s (record d { ctype = t })) t d.init) (λ i h. h))

-- ---- globals

one_more : (ds : List Declaration) (d : Declaration) → AreConstant ds → MaybePure d.init → AreConstant (ds ++ d ∷ [])
one_more [] d h n = (n, tt)
one_more (x ∷ xs) d h n = (h.0, one_more xs d h.1 n)

abbrev GlobalsConstant : Progress → Type 0
GlobalsConstant q = AreConstant q.globals

item_constant : (p : TranslationUnit) (r : Progress) (i : FileItem) → GlobalsConstant r → Gives GlobalsConstant (typed_item_of_file p r i)
item_constant p r (StructHead k s) h = gives_one (λ u. Unit {0}) GlobalsConstant (new_tag r.tags s.place s.tag) _ (anything _) (λ u v. h)
item_constant p r (Member k m ends) h = by (slice_get r.sight.structs k)
  where
    by : (c : Option StructType) → Gives GlobalsConstant (elim c [
      | None ↦ Good r
      | Some struct ↦ one_part (typed_member r.sight k struct m ends) (λ s. Good (record r { sight = s }))
    ])
    by None = h
    by (Some x) = gives_one (λ u. Unit {0}) GlobalsConstant (typed_member r.sight k x m ends) (λ s. Good (record r { sight = s })) (anything _) (λ s v. h)
item_constant p r (AnEnum e) h = gives_one (λ u. Unit {0}) GlobalsConstant (new_tag r.tags e.place e.tag) _ (anything _) (λ u v.
    gives_one (λ (x : Sight × List EnumConstant). Unit {0}) GlobalsConstant (typed_enumerators r.sight (pos 0) e.items) _ (anything _) (λ x w. h))
item_constant p r (ATypedef d) h = gives_one (λ u. Unit {0}) GlobalsConstant (typed_typedef r.sight d) _ (anything _) (λ u v. h)
item_constant p r (AGlobal d) h = gives_one (λ (e : Declaration). MaybePure e.init) GlobalsConstant (typed_global r.sight d) _ (global_pure r.sight d) (λ e v. one_more r.globals e h v)
item_constant p r (AFunction f) h = gives_one (λ u. Unit {0}) GlobalsConstant (typed_function p r.sight r.funcs f) _ (anything _) (λ u v. h)

items_constant : (p : TranslationUnit) (r : Progress) (is : List FileItem) → GlobalsConstant r → Gives GlobalsConstant (typed_items_of_file p r is)
items_constant p r [] h = h
items_constant p r (i ∷ is) h =
    gives_one GlobalsConstant GlobalsConstant (typed_item_of_file p r i) (λ r. typed_items_of_file p r is) (item_constant p r i h) (λ q v. items_constant p q is v)

-- the globals of a typed file are constant
pub globals_constant : (p q : TranslationUnit) → typed_unit p ≡ Good q → AreConstant q.globals
globals_constant p q is = gives_of (λ (q : TranslationUnit). AreConstant q.globals) (typed_unit p) q
    (gives_one GlobalsConstant (λ (q : TranslationUnit). AreConstant q.globals) (typed_items_of_file p (at_start p) (items_of_file p)) (λ r. Good (with_progress p r))
    (items_constant p (at_start p) (items_of_file p) tt) (λ r v. v)) is
