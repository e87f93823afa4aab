-- What typing makes of declarations, statements and functions is what was read, but for types, casts and constants.
use Rattle.c_syntax.specs.declared.types.CInt.{CInt}
use Rattle.c_syntax.specs.Ctypes.{Int}
use Rattle.c_model.specs.StatementTyping.{in_switch, controlling, case_value, case_number, typed_cases}
use Rattle.c_model.specs.Conversions.{promoted}
use Rattle.c_model.specs.Integers.{integer_type}
use Rattle.c_model.specs.ExpressionTyping.{in_int}
use Rattle.c_model.specs.TypedReadings.{CasesTypedAs}
use Rattle.std.proofs.Common.{cond, ◌≡◌, ℤ, pos, ◌+ℤ◌, refl, sym, subst, List, [], ◌∷◌, Option, Some, None, Bool, true, false, not, ◌&&◌, if◌then◌else◌}
use Rattle.c_syntax.specs.declared.place.Place.{Place}
use Rattle.c_syntax.specs.declared.types.CInt.TheVariants.{I32}
use Rattle.c_syntax.specs.Ctypes.{PlainType, Array}
use Rattle.c_syntax.specs.Expressions.{Expression, Node, Text, place_of, type_of}
use Rattle.c_syntax.specs.Statements.{Initialiser, One, Many, Initialisers, NoInitialiser, Listed, Declaration, Statement, Empty, Eval, Block, If, While, Do}
use Rattle.c_syntax.specs.Statements.{For, Break, Continue, Return, Labelled, Switch, Cases, NoCase, AnotherCase}
use Rattle.c_syntax.specs.Statements.{ElsePart, NoElse, Else, ForFirst, NoFirst, First, BlockItem, Declare, Specify, Run, Asserts, BlockItems, NoItem, Then}
use Rattle.c_syntax.specs.Programs.{EnumConstant, Function, TranslationUnit}
use Rattle.c_model.specs.Integers.{fits}
use Rattle.c_model.specs.Meaning.{string_in, is_definition}
use Rattle.c_model.specs.Library.{is_there}
use Rattle.c_model.specs.Checked.{Checked, Good, Bad, one_part, both_parts, where_so}
use Rattle.c_model.specs.ExpressionTyping.{no_type, Sight, with_object, inner, is_void, is_scalar, in_type, is_assigned, decayed, decayed_of, constant, limited, typed, typed_type, known_type, declared_here}
use Rattle.c_model.specs.DeclarationTyping.{place_of_initialiser, Slots, next_slot, slots_of, takes_text, is_text_array, no_more, too_many, initial_value, typed_alone, typed_initialiser, typed_text, typed_items as typed_parts}
use Rattle.c_model.specs.DeclarationTyping.{typed_maybe_initialiser, own_name, typed_object_type, is_anything, is_static, is_declared_in_file, typed_variable, typed_global, typed_typedef, typed_parameter, parameter_name}
use Rattle.c_model.specs.DeclarationTyping.{scalar_type, typed_parameter_type, known_parameter_type, typed_result, typed_value, with_enumerator, typed_enumerators}
use Rattle.c_model.specs.StatementTyping.{Around, in_loop, behind, behind_first, condition, typed_condition, typed_maybe, returned, typed_declarations, typed_statement, typed_else, typed_first}
use Rattle.c_model.specs.StatementTyping.{typed_item, typed_items}
use Rattle.c_model.specs.UnitTyping.{with_function, with_parameter, with_parameters, function_name, typed_parameters, typed_heading, typed_body, typed_parts as function_parts, typed_function}
use Rattle.c_model.specs.TypedTrees.{TypedAs, around_body}
use Rattle.c_model.specs.TypedReadings.{MaybeTypedAs, InBraces, WithoutBraces, InitialiserTypedAs, InitialisersTypedAs, AloneTypedAs, MaybeInitialiserTypedAs, DeclarationTypedAs, DeclarationsTypedAs, SameDeclaration}
use Rattle.c_model.specs.TypedReadings.{SameDeclarations, EnumeratorsTypedAs, StatementTypedAs, ElseTypedAs, FirstTypedAs, ItemTypedAs, ItemsTypedAs, BodyTypedAs, FunctionTypedAs}
use Rattle.c_model.proofs.TypedHeadings.{gives_heading}
use Rattle.c_model.proofs.LabelledFunctions.{gives_function}
use Rattle.c_model.proofs.TypedParts.{Gives, gives_of, gives_one, gives_both, gives_given, gives_where, gives_too_many}
use Rattle.c_model.proofs.TypedReading.{in_type_as, decayed_as, typed_as}
use Rattle.c_model.proofs.TypedDeclarations.{anything}

value_as : (s : Sight) (e : Expression) → Gives (TypedAs e) (decayed_of (typed s e))
value_as s e = gives_one (TypedAs e) (TypedAs e) (typed s e) (λ e. Good (decayed e)) (typed_as s e) (λ x v. decayed_as e x v)

maybe_as : (check : Expression → Checked Expression) → ((e : Expression) → Gives (TypedAs e) (check e)) → (e : Option Expression) → Gives (MaybeTypedAs e) (typed_maybe check e)
maybe_as check h None = refl
maybe_as check h (Some e) = gives_one (TypedAs e) (MaybeTypedAs (Some e)) (check e) (λ e. Good (Some e)) (h e) (λ x v. (x, refl, v))

condition_as : (s : Sight) (e : Expression) → Gives (TypedAs e) (typed_condition s e)
condition_as s e = gives_one (TypedAs e) (TypedAs e) (decayed_of (typed s e)) condition (value_as s e) (λ x v. gives_where (TypedAs e) (is_scalar (type_of x)) _ _ (λ t. v))

-- ---- initialisers

many_items : (t : PlainType) (i j : Initialiser) (is : Initialisers) → is_text_array t (Listed i (Listed j is)) ≡ true → ⊥
many_items (Array t n) (One (Node at u (Text k))) j is e = absurd cc
many_items _ _ j is e = absurd cc

no_item : (t : PlainType) → is_text_array t NoInitialiser ≡ true → ⊥
no_item (Array t n) e = absurd cc
no_item _ e = absurd cc

module _ (s : Sight) (is_allowed : Expression → Expression → Bool)
  where
    initial_value_as : (here : Place) (t : PlainType) (read r x : Expression) → TypedAs r x → Gives (InitialiserTypedAs (One r)) (initial_value s is_allowed here t read x)
    initial_value_as here t read r x v = by (takes_text s t (string_in x))
      where
        by : (b : Bool) → Gives (InitialiserTypedAs (One r)) (
            if b then Good (One x)
            else where_so (is_scalar t && is_assigned s (decayed x) t && is_allowed read (in_type t (decayed x))) (no_type here) (Good (One (in_type t (decayed x)))))
        by true = (x, refl, v)
        by false = gives_where (InitialiserTypedAs (One r)) (is_scalar t && is_assigned s (decayed x) t && is_allowed read (in_type t (decayed x))) _ _ (λ g.
            (in_type t (decayed x), refl, in_type_as r (decayed x) t (decayed_as r x v)))

    expression_as : (here : Place) (t : PlainType) (e : Expression) → Gives (InitialiserTypedAs (One e)) (one_part (typed s e) (initial_value s is_allowed here t e))
    expression_as here t e = gives_one (TypedAs e) (InitialiserTypedAs (One e)) (typed s e) (initial_value s is_allowed here t e) (typed_as s e) (λ x v. initial_value_as here t e e x v)

    none_more : (is : Initialisers) → Gives (InitialisersTypedAs is) (no_more s is)
    none_more NoInitialiser = refl
    none_more (Listed i is) = gives_too_many (InitialisersTypedAs (Listed i is)) s i

    alone_as : (t : PlainType) (is : Initialisers) → Gives (InitialisersTypedAs is) (typed_alone s is_allowed t is)
    alone_as t NoInitialiser = refl
    alone_as t (Listed (One e) is) =
        gives_both (InitialiserTypedAs (One e)) (InitialisersTypedAs is) (InitialisersTypedAs (Listed (One e) is)) (one_part (typed s e) (initial_value s is_allowed (place_of e) t e)) (no_more s is)
        (λ i is. Good (Listed i is)) (expression_as (place_of e) t e) (none_more is) (λ k ks v w. (k, ks, refl, v, w))
    alone_as t (Listed (Many at is) more) = tt

    mutual
      initialiser_as : (here : Place) (t : PlainType) (i : Initialiser) → Gives (InitialiserTypedAs i) (typed_initialiser s is_allowed here t i)
      initialiser_as here t (One e) = expression_as here t e
      initialiser_as here t (Many at is) = by (is_scalar t) (is_text_array t is) (λ e. text_as t is e) (parts_as (slots_of s t) is)
        where
          by : (b : Bool) (c : Bool) → (c ≡ true → Gives (AloneTypedAs is) (typed_text s is_allowed t is)) → Gives (InitialisersTypedAs is) (typed_parts s is_allowed (slots_of s t) is)
              → Gives (InitialiserTypedAs (Many at is)) (
              if b then one_part (typed_alone s is_allowed t is) (λ is. Good (Many at is))
              else (if c then typed_text s is_allowed t is else one_part (typed_parts s is_allowed (slots_of s t) is) (λ is. Good (Many at is))))
          by true c text parts = gives_one (InitialisersTypedAs is) (InitialiserTypedAs (Many at is)) (typed_alone s is_allowed t is) (λ is. Good (Many at is)) (alone_as t is) (λ js v. InBraces js refl v)
          by false true text parts = without (typed_text s is_allowed t is) (text refl)
            where
              without : (c : Checked Initialiser) → Gives (AloneTypedAs is) c → Gives (InitialiserTypedAs (Many at is)) c
              without (Good j) h = WithoutBraces h
              without (Bad f fs) h = tt
          by false false text parts =
              gives_one (InitialisersTypedAs is) (InitialiserTypedAs (Many at is)) (typed_parts s is_allowed (slots_of s t) is) (λ is. Good (Many at is)) parts (λ js v. InBraces js refl v)

      text_as : (t : PlainType) (is : Initialisers) → is_text_array t is ≡ true → Gives (AloneTypedAs is) (typed_text s is_allowed t is)
      text_as t NoInitialiser e = absurd (no_item t e)
      text_as t (Listed i NoInitialiser) e = alone (typed_initialiser s is_allowed (place_of_initialiser i) t i) (initialiser_as (place_of_initialiser i) t i)
        where
          alone : (c : Checked Initialiser) → Gives (InitialiserTypedAs i) c → Gives (AloneTypedAs (Listed i NoInitialiser)) c
          alone (Good j) h = (refl, h)
          alone (Bad f fs) h = tt
      text_as t (Listed i (Listed j is)) e = absurd (many_items t i j is e)

      parts_as : (slots : Slots) (is : Initialisers) → Gives (InitialisersTypedAs is) (typed_parts s is_allowed slots is)
      parts_as slots NoInitialiser = refl
      parts_as slots (Listed i is) = by (next_slot slots) (λ t. initialiser_as (place_of_initialiser i) t i) (λ slots. parts_as slots is)
        where
          by : (o : Option (PlainType × Slots)) → ((t : PlainType) → Gives (InitialiserTypedAs i) (typed_initialiser s is_allowed (place_of_initialiser i) t i))
              → ((slots : Slots) → Gives (InitialisersTypedAs is) (typed_parts s is_allowed slots is)) → Gives (InitialisersTypedAs (Listed i is)) (elim o [
                | None ↦ too_many s i
                | Some p ↦ both_parts (typed_initialiser s is_allowed (place_of_initialiser i) p.0 i) (typed_parts s is_allowed p.1 is) (λ i is. Good (Listed i is))
              ])
          by None first rest = gives_too_many (InitialisersTypedAs (Listed i is)) s i
          by (Some p) first rest =
              gives_both (InitialiserTypedAs i) (InitialisersTypedAs is) (InitialisersTypedAs (Listed i is)) (typed_initialiser s is_allowed (place_of_initialiser i) p.0 i) (typed_parts s is_allowed p.1 is)
              (λ i is. Good (Listed i is)) (first p.0) (rest p.1) (λ k ks v w. (k, ks, refl, v, w))

    pub maybe_initialiser_as : (t : PlainType) (o : Option (Place × Initialiser)) → Gives (MaybeInitialiserTypedAs o) (typed_maybe_initialiser s is_allowed t o)
    maybe_initialiser_as t None = refl
    maybe_initialiser_as t (Some i) =
        gives_one (InitialiserTypedAs i.1) (MaybeInitialiserTypedAs (Some i)) (typed_initialiser s is_allowed i.0 t i.1) (λ j. Good (Some (i.0, j))) (initialiser_as i.0 t i.1) (λ k v. (k, refl, v))

-- ---- declarations

declared_as : (s : Sight) (d : Declaration) (declared : Bool) (is_allowed : PlainType → Expression → Expression → Bool) → Gives (DeclarationTypedAs d)
    (one_part (both_parts (own_name s declared d.place d.name) (typed_object_type s d) (λ n t. Good t)) (λ t.
    one_part (typed_maybe_initialiser (with_object s (record d { ctype = t })) (is_allowed t) t d.init) (λ i. Good (record d { ctype = t; init = i }))))
declared_as s d declared is_allowed =
    gives_one (λ t. Unit {0}) (DeclarationTypedAs d) (both_parts (own_name s declared d.place d.name) (typed_object_type s d) (λ n t. Good t)) _ (anything _) (λ t u.
    gives_one (MaybeInitialiserTypedAs d.init) (DeclarationTypedAs d) (typed_maybe_initialiser (with_object s (record d { ctype = t })) (is_allowed t) t d.init) _
    (maybe_initialiser_as (with_object s (record d { ctype = t })) (is_allowed t) t d.init) (λ j v. record { place = refl; name = refl; named = refl; init = v }))

pub variable_as : (s : Sight) (d : Declaration) → Gives (DeclarationTypedAs d) (typed_variable s d)
variable_as s d = declared_as s d (is_there (declared_here s d.name)) (λ t. is_anything)

pub global_as : (s : Sight) (d : Declaration) → Gives (DeclarationTypedAs d) (typed_global s d)
global_as s d = declared_as s d (is_declared_in_file s d.name) (λ t. is_static (with_object s (record d { ctype = t })))

declarations_as : (s : Sight) (ds : List Declaration) → Gives (DeclarationsTypedAs ds) (typed_declarations s ds)
declarations_as s [] = refl
declarations_as s (d ∷ ds) =
    gives_one (DeclarationTypedAs d) (DeclarationsTypedAs (d ∷ ds)) (typed_variable s d) (λ d. one_part (typed_declarations (with_object s d) ds) (λ ds. Good (d ∷ ds))) (variable_as s d) (λ e v.
    gives_one (DeclarationsTypedAs ds) (DeclarationsTypedAs (d ∷ ds)) (typed_declarations (with_object s e) ds) (λ ds. Good (e ∷ ds)) (declarations_as (with_object s e) ds) (λ es w. (e, es, refl, v, w)))

pub typedef_as : (s : Sight) (d : Declaration) → Gives (SameDeclaration d) (typed_typedef s d)
typedef_as s d = by d.named
  where
    by : (b : Bool) → Gives (SameDeclaration d) (cond b (both_parts (own_name s (is_declared_in_file s d.name) d.place d.name)
        (limited s d.place (known_type s d.ctype) (typed_type s d.place d.ctype)) (λ n t. Good (record d { ctype = t })))
        (one_part (typed_type s d.place d.ctype) (λ t. Good (record d { ctype = t }))))
    by true = gives_both (λ u. Unit {0}) (λ u. Unit {0}) (SameDeclaration d) (own_name s (is_declared_in_file s d.name) d.place d.name)
        (limited s d.place (known_type s d.ctype) (typed_type s d.place d.ctype)) (λ n t. Good (record d { ctype = t })) (anything _) (anything _)
        (λ n t u v. record { place = refl; name = refl; named = refl; init = refl })
    by false = gives_one (λ u. Unit {0}) (SameDeclaration d) (typed_type s d.place d.ctype) (λ t. Good (record d { ctype = t })) (anything _) (λ t u. record { place = refl; name = refl; named = refl; init = refl })

parameter_as : (s : Sight) (defined : Bool) (d : Declaration) → Gives (SameDeclaration d) (typed_parameter s defined d)
parameter_as s defined d = gives_both (λ u. Unit {0}) (λ u. Unit {0}) (SameDeclaration d) (parameter_name s d)
    (limited s d.place (known_parameter_type s d.ctype) (one_part (typed_parameter_type s d.place d.ctype) (scalar_type s defined d.place))) (λ n t. Good (record d { ctype = t }))
    (anything _) (anything _) (λ n t u v. record { place = refl; name = refl; named = refl; init = refl })

parameters_as : (s : Sight) (defined : Bool) (ds : List Declaration) → Gives (SameDeclarations ds) (typed_parameters s defined ds)
parameters_as s defined [] = refl
parameters_as s defined (d ∷ ds) =
    gives_one (SameDeclaration d) (SameDeclarations (d ∷ ds)) (typed_parameter s defined d) (λ d. one_part (typed_parameters (with_parameter s d) defined ds) (λ ds. Good (d ∷ ds)))
    (parameter_as s defined d) (λ e v.
    gives_one (SameDeclarations ds) (SameDeclarations (d ∷ ds)) (typed_parameters (with_parameter s e) defined ds) (λ ds. Good (e ∷ ds)) (parameters_as (with_parameter s e) defined ds)
    (λ es w. (e, es, refl, v, w)))

-- ---- enumerators

value_typed_as : (s : Sight) (at : Place) (next : ℤ) (e : Option Expression) → Gives (λ (v : ℤ × Option Expression). MaybeTypedAs e v.1) (typed_value s at next e)
value_typed_as s at next None = gives_where (λ (v : ℤ × Option Expression). MaybeTypedAs None v.1) (fits I32 next) _ _ (λ f. refl)
value_typed_as s at next (Some e) =
    gives_one (TypedAs e) (λ (v : ℤ × Option Expression). MaybeTypedAs (Some e) v.1) (decayed_of (typed s e)) _ (value_as s e) (λ x u.
    gives_given (λ (v : ℤ × Option Expression). MaybeTypedAs (Some e) v.1) (constant s x) _ _ (λ z c.
    gives_where (λ (v : ℤ × Option Expression). MaybeTypedAs (Some e) v.1) (fits I32 z) _ _ (λ f. (x, refl, u))))

pub enumerators_as : (s : Sight) (next : ℤ) (es : List EnumConstant) → Gives (λ (x : Sight × List EnumConstant). EnumeratorsTypedAs es x.1) (typed_enumerators s next es)
enumerators_as s next [] = refl
enumerators_as s next (e ∷ es) =
    gives_one (λ (v : ℤ × Option Expression). MaybeTypedAs e.value v.1) (λ (x : Sight × List EnumConstant). EnumeratorsTypedAs (e ∷ es) x.1)
    (both_parts (own_name s (is_declared_in_file s e.name) e.place e.name) (typed_value s e.place next e.value) (λ n v. Good v)) _
    (gives_both (λ u. Unit {0}) (λ (v : ℤ × Option Expression). MaybeTypedAs e.value v.1) (λ (v : ℤ × Option Expression). MaybeTypedAs e.value v.1)
    (own_name s (is_declared_in_file s e.name) e.place e.name) (typed_value s e.place next e.value) (λ n v. Good v) (anything _) (value_typed_as s e.place next e.value) (λ n v u f. f))
    (λ v f.
    gives_one (λ (x : Sight × List EnumConstant). EnumeratorsTypedAs es x.1) (λ (x : Sight × List EnumConstant). EnumeratorsTypedAs (e ∷ es) x.1)
    (typed_enumerators (with_enumerator s e.name v.0) (v.0 +ℤ pos 1) es) _ (enumerators_as (with_enumerator s e.name v.0) (v.0 +ℤ pos 1) es)
    (λ x h. (_, x.1, refl, record { place = refl; name = refl; value = f }, h)))

-- ---- statements

returned_as : (s : Sight) (at : Place) (t : PlainType) (r x : Option Expression) → MaybeTypedAs r x → Gives (StatementTypedAs (Return at r)) (returned s at t x)
returned_as s at t r None h = gives_where (StatementTypedAs (Return at r)) (is_void t) _ _ (λ e. (None, refl, h))
returned_as s at t None (Some e) h = absurd cc
returned_as s at t (Some r) (Some e) h = gives_where (StatementTypedAs (Return at (Some r))) (not (is_void t) && is_assigned s e t) _ _ (λ c.
    let same : e ≡ h.0 = cc in (Some (in_type t e), refl, (in_type t e, refl, in_type_as r e t (subst (TypedAs r) (sym same) h.2))))

controlling_as : (s : Sight) (e : Expression) → Gives (λ (x : CInt × Expression). TypedAs e x.1) (one_part (decayed_of (typed s e)) controlling)
controlling_as s e =
    gives_one (TypedAs e) (λ (x : CInt × Expression). TypedAs e x.1) (decayed_of (typed s e)) controlling (value_as s e) (λ x u.
    gives_given (λ (x : CInt × Expression). TypedAs e x.1) (integer_type (type_of x)) (no_type (place_of x)) (λ k. Good (promoted k, in_int (promoted k) x)) (λ k c. in_type_as e x (Int (promoted k)) u))

mutual
  statement_as : (s : Sight) (r : Around) (a : Statement) → Gives (StatementTypedAs a) (typed_statement s r a)
  statement_as s r (Empty at) = refl
  statement_as s r (Eval at e) = gives_one (TypedAs e) (StatementTypedAs (Eval at e)) (typed s e) (λ e. Good (Eval at e)) (typed_as s e) (λ x v. (x, refl, v))
  statement_as s r (Block at items) =
      gives_one (ItemsTypedAs items) (StatementTypedAs (Block at items)) (typed_items (inner s) r items) (λ items. Good (Block at items)) (items_as (inner s) r items) (λ js v. (js, refl, v))
  statement_as s r (If at e a b) =
      gives_one (TypedAs e) (StatementTypedAs (If at e a b)) (typed_condition s e) (λ e. one_part (typed_statement s r a) (λ a. one_part (typed_else s r b) (λ b. Good (If at e a b)))) (condition_as s e) (λ x u.
      gives_one (StatementTypedAs a) (StatementTypedAs (If at e a b)) (typed_statement s r a) (λ a. one_part (typed_else s r b) (λ b. Good (If at x a b))) (statement_as s r a) (λ y v.
      gives_one (ElseTypedAs b) (StatementTypedAs (If at e a b)) (typed_else s r b) (λ b. Good (If at x y b)) (else_as s r b) (λ z w. (x, y, z, refl, u, v, w))))
  statement_as s r (While at annots e a) =
      gives_one (TypedAs e) (StatementTypedAs (While at annots e a)) (typed_condition s e) (λ e. one_part (typed_statement s (in_loop r) a) (λ a. Good (While at annots e a))) (condition_as s e) (λ x u.
      gives_one (StatementTypedAs a) (StatementTypedAs (While at annots e a)) (typed_statement s (in_loop r) a) (λ a. Good (While at annots x a)) (statement_as s (in_loop r) a) (λ y v. (x, y, refl, u, v)))
  statement_as s r (Do at a e) =
      gives_one (StatementTypedAs a) (StatementTypedAs (Do at a e)) (typed_statement s (in_loop r) a) (λ a. one_part (typed_condition s e) (λ e. Good (Do at a e))) (statement_as s (in_loop r) a) (λ y v.
      gives_one (TypedAs e) (StatementTypedAs (Do at a e)) (typed_condition s e) (λ e. Good (Do at y e)) (condition_as s e) (λ x u. (y, x, refl, v, u)))
  statement_as s r (For at annots first e step a) =
      gives_one (FirstTypedAs first) (StatementTypedAs (For at annots first e step a)) (typed_first (inner s) r first) (λ first.
      one_part (typed_maybe (typed_condition (behind_first (inner s) first)) e) (λ e. one_part (typed_maybe (typed (behind_first (inner s) first)) step) (λ step.
      one_part (typed_statement (behind_first (inner s) first) (in_loop r) a) (λ a. Good (For at annots first e step a))))) (first_as (inner s) r first) (λ f t.
      gives_one (MaybeTypedAs e) (StatementTypedAs (For at annots first e step a)) (typed_maybe (typed_condition (behind_first (inner s) f)) e) (λ e.
      one_part (typed_maybe (typed (behind_first (inner s) f)) step) (λ step. one_part (typed_statement (behind_first (inner s) f) (in_loop r) a) (λ a. Good (For at annots f e step a))))
      (maybe_as (typed_condition (behind_first (inner s) f)) (condition_as (behind_first (inner s) f)) e) (λ x u.
      gives_one (MaybeTypedAs step) (StatementTypedAs (For at annots first e step a)) (typed_maybe (typed (behind_first (inner s) f)) step) (λ step.
      one_part (typed_statement (behind_first (inner s) f) (in_loop r) a) (λ a. Good (For at annots f x step a)))
      (maybe_as (typed (behind_first (inner s) f)) (typed_as (behind_first (inner s) f)) step) (λ y v.
      gives_one (StatementTypedAs a) (StatementTypedAs (For at annots first e step a)) (typed_statement (behind_first (inner s) f) (in_loop r) a) (λ a. Good (For at annots f x y a))
      (statement_as (behind_first (inner s) f) (in_loop r) a) (λ z w. (f, x, y, z, refl, t, u, v, w)))))
  statement_as s r (Break at) = gives_where (StatementTypedAs (Break at)) r.breaks _ _ (λ t. refl)
  statement_as s r (Continue at) = gives_where (StatementTypedAs (Continue at)) r.loops _ _ (λ t. refl)
  statement_as s r (Return at e) =
      gives_one (MaybeTypedAs e) (StatementTypedAs (Return at e)) (typed_maybe (λ e. decayed_of (typed s e)) e) (returned s at r.result) (maybe_as (λ e. decayed_of (typed s e)) (value_as s) e)
      (λ x v. returned_as s at r.result e x v)
  statement_as s r (Labelled at l a) = gives_one (StatementTypedAs a) (StatementTypedAs (Labelled at l a)) (typed_statement s r a) (λ a. Good (Labelled at l a)) (statement_as s r a) (λ y v. (y, refl, v))
  statement_as s r (Switch at e cases) =
      gives_one (λ (x : CInt × Expression). TypedAs e x.1) (StatementTypedAs (Switch at e cases)) (one_part (decayed_of (typed s e)) controlling)
      (λ x. one_part (typed_cases s (in_switch r) x.0 [] false cases) (λ cases. Good (Switch at x.1 cases))) (controlling_as s e) (λ x u.
      gives_one (CasesTypedAs cases) (StatementTypedAs (Switch at e cases)) (typed_cases s (in_switch r) x.0 [] false cases) (λ cs. Good (Switch at x.1 cs)) (cases_as s (in_switch r) x.0 [] false cases)
      (λ cs v. (x.1, cs, refl, u, v)))

  cases_as : (s : Sight) (r : Around) (k : CInt) (used : List ℤ) (has_default : Bool) (cases : Cases) → Gives (CasesTypedAs cases) (typed_cases s r k used has_default cases)
  cases_as s r k used d NoCase = refl
  cases_as s r k used d (AnotherCase at None items rest) =
      gives_where (CasesTypedAs (AnotherCase at None items rest)) (not d) (no_type at) _ (λ _.
      gives_one (ItemsTypedAs items) (CasesTypedAs (AnotherCase at None items rest)) (typed_items s r items) (λ items. one_part (typed_cases s r k used true rest) (λ rest. Good (AnotherCase at None items rest))) (items_as s r items) (λ js v.
      gives_one (CasesTypedAs rest) (CasesTypedAs (AnotherCase at None items rest)) (typed_cases s r k used true rest) (λ rest. Good (AnotherCase at None js rest)) (cases_as s r k used true rest) (λ cs w. (None, js, cs, refl, refl, v, w))))
  cases_as s r k used d (AnotherCase at (Some e) items rest) =
      gives_one (λ z. Unit {0}) (CasesTypedAs (AnotherCase at (Some e) items rest)) (case_value s k used e) (λ z. one_part (typed_items s r items) (λ items.
      one_part (typed_cases s r k (z ∷ used) d rest) (λ rest. Good (AnotherCase at (Some (case_number k (place_of e) z)) items rest)))) (anything (case_value s k used e)) (λ z _.
      gives_one (ItemsTypedAs items) (CasesTypedAs (AnotherCase at (Some e) items rest)) (typed_items s r items)
      (λ items. one_part (typed_cases s r k (z ∷ used) d rest) (λ rest. Good (AnotherCase at (Some (case_number k (place_of e) z)) items rest))) (items_as s r items) (λ js v.
      gives_one (CasesTypedAs rest) (CasesTypedAs (AnotherCase at (Some e) items rest)) (typed_cases s r k (z ∷ used) d rest) (λ rest. Good (AnotherCase at (Some (case_number k (place_of e) z)) js rest))
      (cases_as s r k (z ∷ used) d rest) (λ cs w. (Some (case_number k (place_of e) z), js, cs, refl, (k, z, refl), v, w))))

  else_as : (s : Sight) (r : Around) (b : ElsePart) → Gives (ElseTypedAs b) (typed_else s r b)
  else_as s r NoElse = refl
  else_as s r (Else a) = gives_one (StatementTypedAs a) (ElseTypedAs (Else a)) (typed_statement s r a) (λ a. Good (Else a)) (statement_as s r a) (λ y v. (y, refl, v))

  first_as : (s : Sight) (r : Around) (b : ForFirst) → Gives (FirstTypedAs b) (typed_first s r b)
  first_as s r NoFirst = refl
  first_as s r (First i) = gives_one (ItemTypedAs i) (FirstTypedAs (First i)) (typed_item s r i) (λ i. Good (First i)) (item_as s r i) (λ j v. (j, refl, v))

  item_as : (s : Sight) (r : Around) (i : BlockItem) → Gives (ItemTypedAs i) (typed_item s r i)
  item_as s r (Declare ds) = gives_one (DeclarationsTypedAs ds) (ItemTypedAs (Declare ds)) (typed_declarations s ds) (λ ds. Good (Declare ds)) (declarations_as s ds) (λ es v. (es, refl, v))
  item_as s r (Specify at t) = gives_one (λ u. Unit {0}) (ItemTypedAs (Specify at t)) (typed_type s at t) (λ u. Good (Specify at u)) (anything (typed_type s at t)) (λ u v. (u, refl))
  item_as s r (Run a) = gives_one (StatementTypedAs a) (ItemTypedAs (Run a)) (typed_statement s r a) (λ a. Good (Run a)) (statement_as s r a) (λ y v. (y, refl, v))
  item_as s r (Asserts annots) = refl

  items_as : (s : Sight) (r : Around) (items : BlockItems) → Gives (ItemsTypedAs items) (typed_items s r items)
  items_as s r NoItem = refl
  items_as s r (Then i rest) =
      gives_one (ItemTypedAs i) (ItemsTypedAs (Then i rest)) (typed_item s r i) (λ i. one_part (typed_items (behind s i) r rest) (λ rest. Good (Then i rest))) (item_as s r i) (λ k v.
      gives_one (ItemsTypedAs rest) (ItemsTypedAs (Then i rest)) (typed_items (behind s k) r rest) (λ rest. Good (Then k rest)) (items_as (behind s k) r rest) (λ ks w. (k, ks, refl, v, w)))

-- a typed statement says what was read
pub statement_is_read : (s : Sight) (r : Around) (a b : Statement) → typed_statement s r a ≡ Good b → StatementTypedAs a b
statement_is_read s r a b is = gives_of (StatementTypedAs a) (typed_statement s r a) b (statement_as s r a) is

-- ---- functions

pub body_as : (s : Sight) (t : PlainType) (b : Option Statement) → Gives (BodyTypedAs b) (typed_body s t b)
body_as s t None = refl
body_as s t (Some (Block at items)) =
    gives_one (ItemsTypedAs items) (BodyTypedAs (Some (Block at items))) (typed_items s (around_body t) items) (λ items. Good (Some (Block at items))) (items_as s (around_body t) items)
    (λ js v. (js, refl, v))
body_as s t (Some _) = refl

-- a heading, with the body that was read
record HeadingAs (f g : Function) : Type 0 where
  place : g.place ≡ f.place
  name : g.name ≡ f.name
  params : SameDeclarations f.params g.params
  contract : g.contract ≡ f.contract
  body : g.body ≡ f.body
  close : g.close ≡ f.close

heading_as : (s : Sight) (before : List Function) (f : Function) → Gives (HeadingAs f) (typed_heading s before f)
heading_as s before f =
    gives_heading (λ n. Unit {0}) (λ t. Unit {0}) (SameDeclarations f.params) (HeadingAs f) s before f (anything (function_name s f)) (anything (typed_result s (is_definition f) f.place f.result))
    (parameters_as (inner s) (is_definition f) f.params) (λ n t ds u v w. record { place = refl; name = refl; params = w; contract = refl; body = refl; close = refl })

function_parts_as : (p : TranslationUnit) (s : Sight) (before : List Function) (f : Function) → Gives (FunctionTypedAs f) (function_parts p s before f)
function_parts_as p s before f = gives_one (HeadingAs f) (FunctionTypedAs f) (typed_heading s before f) _ (heading_as s before f) (λ g v.
    gives_one (BodyTypedAs g.body) (FunctionTypedAs f) (typed_body (with_parameters (inner (with_function p s g)) g.params) g.result g.body) (λ b. Good (record g { body = b }))
    (body_as (with_parameters (inner (with_function p s g)) g.params) g.result g.body) (λ b w. record {
      place = v.place;
      name = v.name;
      params = v.params;
      contract = v.contract;
      body = subst (λ a. BodyTypedAs a b) v.body w;
      close = v.close;
    }))

pub function_as : (p : TranslationUnit) (s : Sight) (before : List Function) (f : Function) → Gives (FunctionTypedAs f) (typed_function p s before f)
function_as p s before f = gives_function (FunctionTypedAs f) p s before f (function_parts_as p s before f)

-- a typed function says what was read
pub function_is_read : (p : TranslationUnit) (s : Sight) (before : List Function) (f g : Function) → typed_function p s before f ≡ Good g → FunctionTypedAs f g
function_is_read p s before f g is = gives_of (FunctionTypedAs f) (typed_function p s before f) g (function_as p s before f) is
