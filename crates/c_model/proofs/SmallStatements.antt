-- Typing keeps full expressions small, in initialisers, declarations, statements and functions: where each that is read has at most 400 forms, each
-- typed one is as small as the translation needs.
use Rattle.std.proofs.Common.{ℤ}
use Rattle.c_syntax.specs.declared.types.CInt.{CInt}
use Rattle.c_syntax.specs.Ctypes.{Int}
use Rattle.c_model.specs.StatementTyping.{in_switch, controlling, case_value, case_number, typed_cases}
use Rattle.c_model.specs.Conversions.{promoted}
use Rattle.c_model.specs.Integers.{integer_type}
use Rattle.c_model.specs.ExpressionTyping.{in_int}
use Rattle.c_model.specs.FullExpressions.{EachInCases}
use Rattle.c_model.proofs.TypedParts.{gives_given, gives_where}
use Rattle.std.proofs.Common.{◌≤◌, List, [], ◌∷◌, Option, Some, None, Bool, true, false, not, ◌&&◌, if◌then◌else◌}
use Rattle.c_syntax.specs.declared.place.Place.{Place}
use Rattle.c_syntax.specs.Ctypes.{PlainType}
use Rattle.c_syntax.specs.Expressions.{Expression, place_of, type_of}
use Rattle.c_syntax.specs.Statements.{Switch, Cases, NoCase, AnotherCase}
use Rattle.c_syntax.specs.Statements.{Initialiser, One, Many, Initialisers, NoInitialiser, Listed, Declaration, Statement, Empty, Eval, Block, If, While, Do}
use Rattle.c_syntax.specs.Statements.{For, Break, Continue, Return, Labelled, ElsePart, NoElse, Else, ForFirst, NoFirst, First, BlockItem, Declare, Specify, Run, Asserts, BlockItems, NoItem, Then}
use Rattle.c_model.specs.Meaning.{string_in}
use Rattle.c_model.specs.Library.{is_there}
use Rattle.c_model.specs.Checked.{Checked, Good, one_part, both_parts, where_so}
use Rattle.c_model.specs.Formed.{nodes_of, most_read}
use Rattle.c_model.specs.ExpressionTyping.{no_type, Sight, with_object, inner, is_void, is_scalar, decayed, in_type, is_assigned, decayed_of, typed, typed_type, declared_here}
use Rattle.c_model.specs.DeclarationTyping.{Slots, next_slot, slots_of, takes_text, is_text_array, no_more, too_many, initial_value, typed_alone, typed_initialiser, typed_text, place_of_initialiser}
use Rattle.c_model.specs.DeclarationTyping.{typed_maybe_initialiser, is_anything, is_static, own_name, typed_object_type, typed_variable, typed_global, is_declared_in_file}
use Rattle.c_model.specs.DeclarationTyping as declaration
use Rattle.c_model.specs.StatementTyping.{Around, in_loop, behind, behind_first, condition, typed_condition, typed_maybe, returned, typed_declarations, typed_statement, typed_else, typed_first, typed_item, typed_items}
use Rattle.c_model.specs.TypedTrees.{WhereAny}
use Rattle.c_model.specs.FullExpressions.{EachInitial, EachPart, EachInDeclaration, EachDeclared, EachIn, EachInElse, EachInFirst, EachInItem, EachInItems}
use Rattle.c_model.specs.Sizes.{IsSmall}
use Rattle.c_model.proofs.TypedParts.{Gives, gives_one, gives_both, gives_too_many}
use Rattle.c_model.proofs.TypedDeclarations.{anything}
use Rattle.c_model.proofs.TypedSizes.{gives_if, IsLight, decayed_light, operand_light, light_small, operand_small, typed_light, effect_small, value_small, converted_small}

-- read from at most 400 tokens
abbrev pub IsShort : Expression → Type 0
IsShort e = nodes_of e ≤ most_read

-- ---- initialisers (C99 6.7.8)

module _ (s : Sight) (allowed : Expression → Expression → Bool) where
  value_small_at : (here : Place) (t : PlainType) (read e : Expression) → IsShort read → IsLight (nodes_of read) e → Gives (EachInitial IsSmall) (initial_value s allowed here t read e)
  value_small_at here t read e le h = by (takes_text s t (string_in e))
    where
      by : (b : Bool) → Gives (EachInitial IsSmall) (if b then Good (One e)
          else where_so (is_scalar t && is_assigned s (decayed e) t && allowed read (in_type t (decayed e))) (no_type here) (Good (One (in_type t (decayed e)))))
      by true = light_small (nodes_of read) e le h
      by false =
          gives_if (EachInitial IsSmall) (is_scalar t && is_assigned s (decayed e) t && allowed read (in_type t (decayed e))) (no_type here) (Good (One (in_type t (decayed e))))
          (operand_small (nodes_of read) (in_type t (decayed e)) le (operand_light (nodes_of read) t (decayed e) (decayed_light (nodes_of read) e h)))

  one_small : (here : Place) (t : PlainType) (e : Expression) → IsShort e → Gives (EachInitial IsSmall) (one_part (typed s e) (initial_value s allowed here t e))
  one_small here t e le = gives_one (IsLight (nodes_of e)) (EachInitial IsSmall) (typed s e) (initial_value s allowed here t e) (typed_light s e) (λ x h. value_small_at here t e x le h)

  no_more_small : (is : Initialisers) → Gives (EachPart IsSmall) (no_more s is)
  no_more_small NoInitialiser = tt
  no_more_small (Listed i is) = gives_too_many (EachPart IsSmall) s i

  alone_small : (t : PlainType) (is : Initialisers) → EachPart IsShort is → Gives (EachPart IsSmall) (typed_alone s allowed t is)
  alone_small t NoInitialiser h = tt
  alone_small t (Listed (One e) is) h =
      gives_both (EachInitial IsSmall) (EachPart IsSmall) (EachPart IsSmall) (one_part (typed s e) (initial_value s allowed (place_of e) t e)) (no_more s is) (λ i is. Good (Listed i is)) (one_small (place_of e) t e h.0) (no_more_small is)
      (λ x y f g. (f, g))
  alone_small t (Listed (Many at is) more) h = tt

  mutual
    pub initialiser_small : (here : Place) (t : PlainType) (i : Initialiser) → EachInitial IsShort i → Gives (EachInitial IsSmall) (typed_initialiser s allowed here t i)
    initialiser_small here t (One e) h = one_small here t e h
    initialiser_small here t (Many at is) h = by (is_scalar t) (is_text_array t is) (alone_small t is h) (text_small t is h) (parts_small (slots_of s t) is h)
      where
        by : (x y : Bool) → Gives (EachPart IsSmall) (typed_alone s allowed t is) → Gives (EachInitial IsSmall) (typed_text s allowed t is) → Gives (EachPart IsSmall) (declaration.typed_items s allowed (slots_of s t) is)
            → Gives (EachInitial IsSmall) (if x then one_part (typed_alone s allowed t is) (λ is. Good (Many at is))
            else (if y then typed_text s allowed t is else one_part (declaration.typed_items s allowed (slots_of s t) is) (λ is. Good (Many at is))))
        by true y a b c = gives_one (EachPart IsSmall) (EachInitial IsSmall) (typed_alone s allowed t is) (λ is. Good (Many at is)) a (λ x g. g)
        by false true a b c = b
        by false false a b c = gives_one (EachPart IsSmall) (EachInitial IsSmall) (declaration.typed_items s allowed (slots_of s t) is) (λ is. Good (Many at is)) c (λ x g. g)

    text_small : (t : PlainType) (is : Initialisers) → EachPart IsShort is → Gives (EachInitial IsSmall) (typed_text s allowed t is)
    text_small t NoInitialiser h = tt
    text_small t (Listed i is) h = initialiser_small (place_of_initialiser i) t i h.0

    parts_small : (slots : Slots) (is : Initialisers) → EachPart IsShort is → Gives (EachPart IsSmall) (declaration.typed_items s allowed slots is)
    parts_small slots NoInitialiser h = tt
    parts_small slots (Listed i is) h = by (next_slot slots) (λ t. initialiser_small (place_of_initialiser i) t i h.0) (λ rest. parts_small rest is h.1)
      where
        by : (o : Option (PlainType × Slots)) → ((t : PlainType) → Gives (EachInitial IsSmall) (typed_initialiser s allowed (place_of_initialiser i) t i))
            → ((rest : Slots) → Gives (EachPart IsSmall) (declaration.typed_items s allowed rest is))
            → Gives (EachPart IsSmall) (elim o [
              | None ↦ too_many s i
              | Some p ↦ both_parts (typed_initialiser s allowed (place_of_initialiser i) p.0 i) (declaration.typed_items s allowed p.1 is) (λ i is. Good (Listed i is))
            ])
        by None f g = gives_too_many (EachPart IsSmall) s i
        by (Some p) f g =
            gives_both (EachInitial IsSmall) (EachPart IsSmall) (EachPart IsSmall) (typed_initialiser s allowed (place_of_initialiser i) p.0 i) (declaration.typed_items s allowed p.1 is) (λ i is. Good (Listed i is)) (f p.0) (g p.1)
            (λ x y a b. (a, b))

abbrev InitialSmall : Option (Place × Initialiser) → Type 0
InitialSmall o = WhereAny (λ (i : Place × Initialiser). EachInitial IsSmall i.1) o

maybe_initial_small : (s : Sight) (allowed : Expression → Expression → Bool) (t : PlainType) (o : Option (Place × Initialiser)) → WhereAny (λ (i : Place × Initialiser). EachInitial IsShort i.1) o
    → Gives InitialSmall (typed_maybe_initialiser s allowed t o)
maybe_initial_small s allowed t None h = tt
maybe_initial_small s allowed t (Some i) h = gives_one (EachInitial IsSmall) InitialSmall (typed_initialiser s allowed i.0 t i.1) (λ j. Good (Some (i.0, j))) (initialiser_small s allowed i.0 t i.1 h) (λ j g. g)

-- ---- declarations (C99 6.7)

variable_small : (s : Sight) (d : Declaration) → EachInDeclaration IsShort d → Gives (EachInDeclaration IsSmall) (typed_variable s d)
variable_small s d h =
    let c = both_parts (own_name s (is_there (declared_here s d.name)) d.place d.name) (typed_object_type s d) (λ n t. Good t) in
    gives_one (λ t. Unit {0}) (EachInDeclaration IsSmall) c (λ t.
    one_part (typed_maybe_initialiser (with_object s (record d { ctype = t })) is_anything t d.init) (λ i. Good (record d { ctype = t; init = i }))) (anything c) (λ t u.
    gives_one InitialSmall (EachInDeclaration IsSmall) (typed_maybe_initialiser (with_object s (record d { ctype = t })) is_anything t d.init) (λ i. Good (record d { ctype = t; init = i }))
    (maybe_initial_small (with_object s (record d { ctype = t })) is_anything t d.init h) (λ i g. g))

pub global_small : (s : Sight) (d : Declaration) → EachInDeclaration IsShort d → Gives (EachInDeclaration IsSmall) (typed_global s d)
global_small s d h =
    let c = both_parts (own_name s (is_declared_in_file s d.name) d.place d.name) (typed_object_type s d) (λ n t. Good t) in
    gives_one (λ t. Unit {0}) (EachInDeclaration IsSmall) c (λ t.
    one_part (typed_maybe_initialiser (with_object s (record d { ctype = t })) (is_static (with_object s (record d { ctype = t }))) t d.init) (λ i. Good (record d { ctype = t; init = i }))) (anything c) (λ t u.
    gives_one InitialSmall (EachInDeclaration IsSmall) (typed_maybe_initialiser (with_object s (record d { ctype = t })) (is_static (with_object s (record d { ctype = t }))) t d.init) (λ i. Good (record d { ctype = t; init = i }))
    (maybe_initial_small (with_object s (record d { ctype = t })) (is_static (with_object s (record d { ctype = t }))) t d.init h) (λ i g. g))

declarations_small : (s : Sight) (ds : List Declaration) → EachDeclared IsShort ds → Gives (EachDeclared IsSmall) (typed_declarations s ds)
declarations_small s [] h = tt
declarations_small s (d ∷ ds) h =
    gives_one (EachInDeclaration IsSmall) (EachDeclared IsSmall) (typed_variable s d) (λ d. one_part (typed_declarations (with_object s d) ds) (λ ds. Good (d ∷ ds))) (variable_small s d h.0) (λ x f.
    gives_one (EachDeclared IsSmall) (EachDeclared IsSmall) (typed_declarations (with_object s x) ds) (λ ds. Good (x ∷ ds)) (declarations_small (with_object s x) ds h.1) (λ xs g. (f, g)))

-- ---- statements (C99 6.8)

condition_small : (s : Sight) (e : Expression) → IsShort e → Gives IsSmall (typed_condition s e)
condition_small s e le =
    gives_one IsSmall IsSmall (decayed_of (typed s e)) condition (value_small s e le) (λ x h. gives_if IsSmall (is_scalar (type_of x)) (no_type (place_of x)) (Good x) h)

maybe_small : (P : Expression → Type 0) (check : Expression → Checked Expression) (o : Option Expression) → WhereAny IsShort o → ((e : Expression) → IsShort e → Gives P (check e)) → Gives (WhereAny P) (typed_maybe check o)
maybe_small P check None h f = tt
maybe_small P check (Some e) h f = gives_one P (WhereAny P) (check e) (λ e. Good (Some e)) (f e h) (λ x g. g)

-- what is small in each type
abbrev IsSmallIn : Expression → Type 0
IsSmallIn x = (t : PlainType) → IsSmall (in_type t x)

returned_small : (s : Sight) (at : Place) (t : PlainType) (o : Option Expression) → WhereAny IsSmallIn o → Gives (EachIn IsSmall) (returned s at t o)
returned_small s at t None h = gives_if (EachIn IsSmall) (is_void t) (no_type at) (Good (Return at None)) tt
returned_small s at t (Some e) h = gives_if (EachIn IsSmall) (not (is_void t) && is_assigned s e t) (no_type at) (Good (Return at (Some (in_type t e)))) (h t)

abbrev Small : Statement → Type 0
Small a = EachIn IsSmall a

controlling_small : (s : Sight) (e : Expression) → IsShort e → Gives (λ (x : CInt × Expression). IsSmall x.1) (one_part (decayed_of (typed s e)) controlling)
controlling_small s e le =
    gives_one IsSmallIn (λ (x : CInt × Expression). IsSmall x.1) (decayed_of (typed s e)) controlling (converted_small s e le) (λ x f.
    gives_given (λ (x : CInt × Expression). IsSmall x.1) (integer_type (type_of x)) (no_type (place_of x)) (λ k. Good (promoted k, in_int (promoted k) x)) (λ k c. f (Int (promoted k))))

mutual
  pub statement_small : (s : Sight) (r : Around) (a : Statement) → EachIn IsShort a → Gives Small (typed_statement s r a)
  statement_small s r (Empty at) h = tt
  statement_small s r (Eval at e) h = gives_one IsSmall Small (typed s e) (λ e. Good (Eval at e)) (effect_small s e h) (λ x f. f)
  statement_small s r (Block at items) h = gives_one (EachInItems IsSmall) Small (typed_items (inner s) r items) (λ items. Good (Block at items)) (items_small (inner s) r items h) (λ x f. f)
  statement_small s r (If at e a b) h =
      gives_one IsSmall Small (typed_condition s e) (λ e. one_part (typed_statement s r a) (λ a. one_part (typed_else s r b) (λ b. Good (If at e a b)))) (condition_small s e h.0) (λ x f.
      gives_one Small Small (typed_statement s r a) (λ a. one_part (typed_else s r b) (λ b. Good (If at x a b))) (statement_small s r a h.1) (λ y g.
      gives_one (EachInElse IsSmall) Small (typed_else s r b) (λ b. Good (If at x y b)) (else_small s r b h.2) (λ z k. (f, g, k))))
  statement_small s r (While at annots e a) h =
      gives_one IsSmall Small (typed_condition s e) (λ e. one_part (typed_statement s (in_loop r) a) (λ a. Good (While at annots e a))) (condition_small s e h.0) (λ x f.
      gives_one Small Small (typed_statement s (in_loop r) a) (λ a. Good (While at annots x a)) (statement_small s (in_loop r) a h.1) (λ y g. (f, g)))
  statement_small s r (Do at a e) h =
      gives_one Small Small (typed_statement s (in_loop r) a) (λ a. one_part (typed_condition s e) (λ e. Good (Do at a e))) (statement_small s (in_loop r) a h.0) (λ y g.
      gives_one IsSmall Small (typed_condition s e) (λ e. Good (Do at y e)) (condition_small s e h.1) (λ x f. (g, f)))
  statement_small s r (For at annots first e step a) h =
      gives_one (EachInFirst IsSmall) Small (typed_first (inner s) r first) (λ first.
      let s = behind_first (inner s) first in
      one_part (typed_maybe (typed_condition s) e) (λ e. one_part (typed_maybe (typed s) step) (λ step.
      one_part (typed_statement s (in_loop r) a) (λ a. Good (For at annots first e step a))))) (first_small (inner s) r first h.0) (λ w f.
      let z = behind_first (inner s) w in
      gives_one (WhereAny IsSmall) Small (typed_maybe (typed_condition z) e) (λ e. one_part (typed_maybe (typed z) step) (λ step. one_part (typed_statement z (in_loop r) a) (λ a. Good (For at annots w e step a))))
      (maybe_small IsSmall (typed_condition z) e h.1 (λ x le. condition_small z x le)) (λ x g.
      gives_one (WhereAny IsSmall) Small (typed_maybe (typed z) step) (λ step. one_part (typed_statement z (in_loop r) a) (λ a. Good (For at annots w x step a))) (maybe_small IsSmall (typed z) step h.2 (λ x le. effect_small z x le)) (λ y k.
      gives_one Small Small (typed_statement z (in_loop r) a) (λ a. Good (For at annots w x y a)) (statement_small z (in_loop r) a h.3) (λ b l. (f, g, k, l)))))
  statement_small s r (Break at) h = gives_if Small r.breaks (no_type at) (Good (Break at)) tt
  statement_small s r (Continue at) h = gives_if Small r.loops (no_type at) (Good (Continue at)) tt
  statement_small s r (Return at e) h =
      gives_one (WhereAny IsSmallIn) Small (typed_maybe (λ e. decayed_of (typed s e)) e) (returned s at r.result) (maybe_small IsSmallIn (λ e. decayed_of (typed s e)) e h (λ x le. converted_small s x le))
      (λ o f. returned_small s at r.result o f)
  statement_small s r (Labelled at l a) h = gives_one Small Small (typed_statement s r a) (λ a. Good (Labelled at l a)) (statement_small s r a h) (λ x f. f)
  statement_small s r (Switch at e cases) h =
      gives_one (λ (x : CInt × Expression). IsSmall x.1) Small (one_part (decayed_of (typed s e)) controlling) (λ x. one_part (typed_cases s (in_switch r) x.0 [] false cases) (λ cases. Good (Switch at x.1 cases))) (controlling_small s e h.0) (λ x f.
      gives_one (EachInCases IsSmall) Small (typed_cases s (in_switch r) x.0 [] false cases) (λ cs. Good (Switch at x.1 cs)) (cases_small s (in_switch r) x.0 [] false cases h.1) (λ cs g. (f, g)))

  cases_small : (s : Sight) (r : Around) (k : CInt) (used : List ℤ) (has_default : Bool) (cases : Cases) → EachInCases IsShort cases → Gives (EachInCases IsSmall) (typed_cases s r k used has_default cases)
  cases_small s r k used d NoCase h = tt
  cases_small s r k used d (AnotherCase at None items rest) h =
      gives_where (EachInCases IsSmall) (not d) (no_type at) _ (λ _.
      gives_one (EachInItems IsSmall) (EachInCases IsSmall) (typed_items s r items) (λ items. one_part (typed_cases s r k used true rest) (λ rest. Good (AnotherCase at None items rest))) (items_small s r items h.0) (λ js v.
      gives_one (EachInCases IsSmall) (EachInCases IsSmall) (typed_cases s r k used true rest) (λ rest. Good (AnotherCase at None js rest)) (cases_small s r k used true rest h.1) (λ cs w. (v, w))))
  cases_small s r k used d (AnotherCase at (Some e) items rest) h =
      gives_one (λ z. Unit {0}) (EachInCases IsSmall) (case_value s k used e) (λ z. one_part (typed_items s r items) (λ items.
      one_part (typed_cases s r k (z ∷ used) d rest) (λ rest. Good (AnotherCase at (Some (case_number k (place_of e) z)) items rest)))) (anything (case_value s k used e)) (λ z _.
      gives_one (EachInItems IsSmall) (EachInCases IsSmall) (typed_items s r items)
      (λ items. one_part (typed_cases s r k (z ∷ used) d rest) (λ rest. Good (AnotherCase at (Some (case_number k (place_of e) z)) items rest))) (items_small s r items h.0) (λ js v.
      gives_one (EachInCases IsSmall) (EachInCases IsSmall) (typed_cases s r k (z ∷ used) d rest) (λ rest. Good (AnotherCase at (Some (case_number k (place_of e) z)) js rest))
      (cases_small s r k (z ∷ used) d rest h.1) (λ cs w. (v, w))))

  else_small : (s : Sight) (r : Around) (b : ElsePart) → EachInElse IsShort b → Gives (EachInElse IsSmall) (typed_else s r b)
  else_small s r NoElse h = tt
  else_small s r (Else a) h = gives_one Small (EachInElse IsSmall) (typed_statement s r a) (λ a. Good (Else a)) (statement_small s r a h) (λ x f. f)

  first_small : (s : Sight) (r : Around) (first : ForFirst) → EachInFirst IsShort first → Gives (EachInFirst IsSmall) (typed_first s r first)
  first_small s r NoFirst h = tt
  first_small s r (First i) h = gives_one (EachInItem IsSmall) (EachInFirst IsSmall) (typed_item s r i) (λ i. Good (First i)) (item_small s r i h) (λ x f. f)

  item_small : (s : Sight) (r : Around) (i : BlockItem) → EachInItem IsShort i → Gives (EachInItem IsSmall) (typed_item s r i)
  item_small s r (Declare ds) h = gives_one (EachDeclared IsSmall) (EachInItem IsSmall) (typed_declarations s ds) (λ ds. Good (Declare ds)) (declarations_small s ds h) (λ x f. f)
  item_small s r (Specify at t) h = gives_one (λ u. Unit {0}) (EachInItem IsSmall) (typed_type s at t) (λ u. Good (Specify at u)) (anything (typed_type s at t)) (λ u v. tt)
  item_small s r (Run a) h = gives_one Small (EachInItem IsSmall) (typed_statement s r a) (λ a. Good (Run a)) (statement_small s r a h) (λ x f. f)
  item_small s r (Asserts annots) h = tt

  pub items_small : (s : Sight) (r : Around) (is : BlockItems) → EachInItems IsShort is → Gives (EachInItems IsSmall) (typed_items s r is)
  items_small s r NoItem h = tt
  items_small s r (Then i rest) h =
      gives_one (EachInItem IsSmall) (EachInItems IsSmall) (typed_item s r i) (λ i. one_part (typed_items (behind s i) r rest) (λ rest. Good (Then i rest))) (item_small s r i h.0) (λ x f.
      gives_one (EachInItems IsSmall) (EachInItems IsSmall) (typed_items (behind s x) r rest) (λ rest. Good (Then x rest)) (items_small (behind s x) r rest h.1) (λ y g. (f, g)))
