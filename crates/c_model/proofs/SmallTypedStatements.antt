-- The types in a typed initialiser, declaration, statement and function have few enough bytes, where those in sight have.
use Rattle.std.proofs.Common.{ℤ}
use Rattle.c_syntax.specs.declared.types.CInt.{CInt}
use Rattle.c_model.specs.StatementTyping.{in_switch, controlling, case_value, case_number, typed_cases}
use Rattle.c_model.specs.Conversions.{promoted}
use Rattle.c_model.specs.Integers.{integer_type}
use Rattle.c_model.specs.ExpressionTyping.{in_int}
use Rattle.c_model.specs.FullExpressions.{EachInCases}
use Rattle.c_model.proofs.TypedHeadings.{gives_heading}
use Rattle.c_model.proofs.LabelledFunctions.{gives_function}
use Rattle.c_model.proofs.TypedParts.{gives_given}
use Rattle.std.proofs.Common.{◌≡◌, zero, suc, refl, sym, ◌∙◌, subst, List, [], ◌∷◌, ◌++◌, map, Option, Some, None, Bool, true, false, not, ◌&&◌, cond, if◌then◌else◌, slice_get}
use Rattle.c_syntax.specs.declared.place.Place.{Place}
use Rattle.c_syntax.specs.Ctypes.{PlainType, Void, Int, Ptr, Array, Struct, Named, StructTag, EnumTag}
use Rattle.c_syntax.specs.Expressions.{Expression, place_of, type_of}
use Rattle.c_syntax.specs.Statements.{Switch, Cases, NoCase, AnotherCase}
use Rattle.c_syntax.specs.Statements.{Initialiser, One, Many, Initialisers, NoInitialiser, Listed, Declaration, Statement, Empty, Eval, Block, If, While, Do}
use Rattle.c_syntax.specs.Statements.{For, Break, Continue, Return, Labelled, ElsePart, NoElse, Else, ForFirst, NoFirst, First, BlockItem, Declare, Specify, Run, Asserts, BlockItems, NoItem, Then}
use Rattle.c_syntax.specs.Programs.{StructMember, StructType, Function, TranslationUnit}
use Rattle.c_model.specs.Meaning.{string_in, is_definition}
use Rattle.c_model.specs.Library.{is_there}
use Rattle.c_model.specs.Checked.{Checked, Good, one_part, both_parts, where_so}
use Rattle.c_model.specs.ExpressionTyping.{no_type, Sight, Entity, AnObject, AnEnumerator, Object, Signature, with_object, with_objects, inner, is_void, is_scalar, decayed, in_type, is_assigned, decayed_of, typed, typed_type}
use Rattle.c_model.specs.ExpressionTyping.{declared_here}
use Rattle.c_model.specs.DeclarationTyping.{Slots, Each, Members, next_slot, slots_of, member_types, takes_text, is_text_array, no_more, too_many, initial_value, typed_alone, typed_initialiser, typed_text}
use Rattle.c_model.specs.DeclarationTyping.{place_of_initialiser, typed_maybe_initialiser, is_anything, is_static, own_name, typed_object_type, typed_variable, typed_global, is_declared_in_file, typed_result, typed_parameter}
use Rattle.c_model.specs.DeclarationTyping as declaration
use Rattle.c_model.specs.StatementTyping.{Around, in_loop, behind, behind_first, condition, typed_condition, typed_maybe, returned, typed_declarations, typed_statement, typed_else, typed_first, typed_item, typed_items}
use Rattle.c_model.specs.UnitTyping.{types_of, signature, with_function, with_parameter, with_parameters, function_name, typed_parameters, typed_heading, typed_body, typed_parts, typed_function}
use Rattle.c_model.specs.TypedTrees.{WhereAny, around_body}
use Rattle.c_model.specs.FullExpressions.{EachInitial, EachPart, EachInDeclaration, EachDeclared, EachIn, EachInElse, EachInFirst, EachInItem, EachInItems, EachInBody}
use Rattle.c_model.specs.SmallTypes.{TypesSmall}
use Rattle.c_model.proofs.TypedParts.{Gives, gives_one, gives_both, gives_where, gives_too_many}
use Rattle.c_model.proofs.TypedDeclarations.{anything}
use Rattle.c_model.proofs.StableConstants.{Grows}
use Rattle.c_model.proofs.FirmTypes.{AreSmallStructs, Small, elements_small, object_small, result_small, parameter_small}
use Rattle.c_model.proofs.SmallTypedExpressions.{AreSmallEntities, AllSmall, AreSmallSignatures, AreSmallMembers, IsSmallSight, in_type_small, decayed_small, typed_small, value_small}

module _ (new : List StructType) (all : AreSmallStructs new)
  where
    abbrev E : Expression → Type 0
    E e = TypesSmall new e

    -- ---- what is in sight

    one_more_entity : (es : List Entity) (b : Object) → AreSmallEntities new es → Small new b.ctype → AreSmallEntities new (es ++ AnObject b ∷ [])
    one_more_entity [] b h k = (k, tt)
    one_more_entity (AnObject c ∷ es) b h k = (h.0, one_more_entity es b h.1 k)
    one_more_entity (AnEnumerator c ∷ es) b h k = one_more_entity es b h k

    pub sees_object : (s : Sight) → IsSmallSight new s → (d : Declaration) → Small new d.ctype → IsSmallSight new (with_object s d)
    sees_object s i d k = record {
      entities = one_more_entity s.entities (record { name = d.name; decl = d.place.offset; ctype = d.ctype }) i.entities k;
      functions = i.functions;
      texts = i.texts;
      types = i.types;
      members = i.members;
    }

    sees_inner : (s : Sight) → IsSmallSight new s → IsSmallSight new (inner s)
    sees_inner s i = record { entities = i.entities; functions = i.functions; texts = i.texts; types = i.types; members = i.members }

    -- ---- initialisers (C99 6.7.8)

    abbrev AreSmallSlots : Slots → Type 0
    AreSmallSlots (Each t n) = Small new t
    AreSmallSlots (Members ts) = AllSmall new ts

    module _ (s : Sight) (i : IsSmallSight new s) (g : Grows s.structs new) (allowed : Expression → Expression → Bool)
      where
        value_initial : (here : Place) (t : PlainType) (read e : Expression) → Small new t → E e → Gives (EachInitial E) (initial_value s allowed here t read e)
        value_initial here t read e k h = by (takes_text s t (string_in e))
          where
            by : (b : Bool) → Gives (EachInitial E) (if b then Good (One e)
                else where_so (is_scalar t && is_assigned s (decayed e) t && allowed read (in_type t (decayed e))) (no_type here) (Good (One (in_type t (decayed e)))))
            by true = h
            by false = gives_where (EachInitial E) (is_scalar t && is_assigned s (decayed e) t && allowed read (in_type t (decayed e))) _ _ (λ v. in_type_small new t (decayed e) k (decayed_small new e h))

        one_initial : (here : Place) (t : PlainType) (e : Expression) → Small new t → Gives (EachInitial E) (one_part (typed s e) (initial_value s allowed here t e))
        one_initial here t e k = gives_one E (EachInitial E) (typed s e) (initial_value s allowed here t e) (typed_small new s i all g e) (λ x h. value_initial here t e x k h)

        no_more_initial : (is : Initialisers) → Gives (EachPart E) (no_more s is)
        no_more_initial NoInitialiser = tt
        no_more_initial (Listed j is) = gives_too_many (EachPart E) s j

        alone_initial : (t : PlainType) (is : Initialisers) → Small new t → Gives (EachPart E) (typed_alone s allowed t is)
        alone_initial t NoInitialiser k = tt
        alone_initial t (Listed (One e) is) k =
            gives_both (EachInitial E) (EachPart E) (EachPart E) (one_part (typed s e) (initial_value s allowed (place_of e) t e)) (no_more s is) (λ i is. Good (Listed i is)) (one_initial (place_of e) t e k)
            (no_more_initial is) (λ x y f g. (f, g))
        alone_initial t (Listed (Many at is) more) k = tt

        types_of_members : (ms : List StructMember) → AreSmallMembers new ms → AllSmall new (map (λ (m : StructMember). m.ctype) ms)
        types_of_members [] h = tt
        types_of_members (m ∷ ms) h = (h.0, types_of_members ms h.1)

        slots_small : (t : PlainType) → Small new t → AreSmallSlots (slots_of s t)
        slots_small (Array t n) k = elements_small new t n k
        slots_small (Struct n) k = by (slice_get s.structs n) refl
          where
            by : (o : Option StructType) → slice_get s.structs n ≡ o → AllSmall new (member_types o)
            by None e = tt
            by (Some x) e = types_of_members x.members (i.members n x e)
        slots_small Void k = k
        slots_small (Int l) k = k
        slots_small (Ptr t) k = k
        slots_small (Named x) k = k
        slots_small (StructTag x tag) k = k
        slots_small (EnumTag x at) k = k

        -- an object with a small type, and those behind it
        slot_small : (slots : Slots) → AreSmallSlots slots → (p : PlainType × Slots) → next_slot slots ≡ Some p → Small new p.0 × AreSmallSlots p.1
        slot_small (Each t zero) k p e = absurd cc
        slot_small (Each t (suc n)) k p e = let same : (t, Each t n) ≡ p = cc in subst (λ (p : PlainType × Slots). Small new p.0 × AreSmallSlots p.1) same (k, k)
        slot_small (Members []) k p e = absurd cc
        slot_small (Members (t ∷ ts)) k p e = let same : (t, Members ts) ≡ p = cc in subst (λ (p : PlainType × Slots). Small new p.0 × AreSmallSlots p.1) same (k.0, k.1)

        mutual
          initial_small : (here : Place) (t : PlainType) (j : Initialiser) → Small new t → Gives (EachInitial E) (typed_initialiser s allowed here t j)
          initial_small here t (One e) k = one_initial here t e k
          initial_small here t (Many at is) k = by (is_scalar t) (is_text_array t is) (alone_initial t is k) (text_initial t is k) (parts_initial (slots_of s t) is (slots_small t k))
            where
              by : (x y : Bool) → Gives (EachPart E) (typed_alone s allowed t is) → Gives (EachInitial E) (typed_text s allowed t is) → Gives (EachPart E) (declaration.typed_items s allowed (slots_of s t) is)
                  → Gives (EachInitial E) (if x then one_part (typed_alone s allowed t is) (λ is. Good (Many at is))
                  else (if y then typed_text s allowed t is else one_part (declaration.typed_items s allowed (slots_of s t) is) (λ is. Good (Many at is))))
              by true y a b c = gives_one (EachPart E) (EachInitial E) (typed_alone s allowed t is) (λ is. Good (Many at is)) a (λ x g. g)
              by false true a b c = b
              by false false a b c = gives_one (EachPart E) (EachInitial E) (declaration.typed_items s allowed (slots_of s t) is) (λ is. Good (Many at is)) c (λ x g. g)

          text_initial : (t : PlainType) (is : Initialisers) → Small new t → Gives (EachInitial E) (typed_text s allowed t is)
          text_initial t NoInitialiser k = tt
          text_initial t (Listed j is) k = initial_small (place_of_initialiser j) t j k

          parts_initial : (slots : Slots) (is : Initialisers) → AreSmallSlots slots → Gives (EachPart E) (declaration.typed_items s allowed slots is)
          parts_initial slots NoInitialiser k = tt
          parts_initial slots (Listed j is) k = by (next_slot slots) refl (λ t w. initial_small (place_of_initialiser j) t j w) (λ rest w. parts_initial rest is w)
            where
              by : (o : Option (PlainType × Slots)) → next_slot slots ≡ o → ((t : PlainType) → Small new t → Gives (EachInitial E) (typed_initialiser s allowed (place_of_initialiser j) t j))
                  → ((rest : Slots) → AreSmallSlots rest → Gives (EachPart E) (declaration.typed_items s allowed rest is))
                  → Gives (EachPart E) (elim o [
                    | None ↦ too_many s j
                    | Some p ↦ both_parts (typed_initialiser s allowed (place_of_initialiser j) p.0 j) (declaration.typed_items s allowed p.1 is) (λ i is. Good (Listed i is))
                  ])
              by None e f h = gives_too_many (EachPart E) s j
              by (Some p) e f h =
                  let w = slot_small slots k p e in
                  gives_both (EachInitial E) (EachPart E) (EachPart E) (typed_initialiser s allowed (place_of_initialiser j) p.0 j) (declaration.typed_items s allowed p.1 is) (λ i is. Good (Listed i is))
                  (f p.0 w.0) (h p.1 w.1) (λ x y a b. (a, b))

        abbrev InitialSmall : Option (Place × Initialiser) → Type 0
        InitialSmall o = WhereAny (λ (i : Place × Initialiser). EachInitial E i.1) o

        maybe_initial : (t : PlainType) (o : Option (Place × Initialiser)) → Small new t → Gives InitialSmall (typed_maybe_initialiser s allowed t o)
        maybe_initial t None k = tt
        maybe_initial t (Some j) k = gives_one (EachInitial E) InitialSmall (typed_initialiser s allowed j.0 t j.1) (λ x. Good (Some (j.0, x))) (initial_small j.0 t j.1 k) (λ x h. h)

    -- ---- declarations (C99 6.7)

    -- a small declaration of a small type
    pub record IsSmallThen (s : Sight) (d : Declaration) : Type 0 where
      pub init : EachInDeclaration E d
      pub sight : IsSmallSight new (with_object s d)

    declared_small : (s : Sight) → IsSmallSight new s → Grows s.structs new → (d : Declaration) (declared : Bool) (allowed : PlainType → Expression → Expression → Bool) → Gives (IsSmallThen s)
        (one_part (both_parts (own_name s declared d.place d.name) (typed_object_type s d) (λ n t. Good t)) (λ t.
        one_part (typed_maybe_initialiser (with_object s (record d { ctype = t })) (allowed t) t d.init) (λ i. Good (record d { ctype = t; init = i }))))
    declared_small s i g d declared allowed =
        gives_one (Small new) (IsSmallThen s) (both_parts (own_name s declared d.place d.name) (typed_object_type s d) (λ n t. Good t)) _
        (gives_both (λ u. Unit {0}) (Small new) (Small new)
        (own_name s declared d.place d.name) (typed_object_type s d) (λ n t. Good t) (anything _) (object_small new all s g i.types d) (λ n t u k. k))
        (λ t k.
        let before = sees_object s i (record d { ctype = t }) k in
        gives_one (InitialSmall (with_object s (record d { ctype = t })) before g (allowed t)) (IsSmallThen s) (typed_maybe_initialiser (with_object s (record d { ctype = t })) (allowed t) t d.init) _
        (maybe_initial (with_object s (record d { ctype = t })) before g (allowed t) t d.init k) (λ j h.
        record { init = h; sight = sees_object s i (record d { ctype = t; init = j }) k }))

    variable_small : (s : Sight) → IsSmallSight new s → Grows s.structs new → (d : Declaration) → Gives (IsSmallThen s) (typed_variable s d)
    variable_small s i g d = declared_small s i g d (is_there (declared_here s d.name)) (λ t. is_anything)

    pub global_small : (s : Sight) → IsSmallSight new s → Grows s.structs new → (d : Declaration) → Gives (IsSmallThen s) (typed_global s d)
    global_small s i g d = declared_small s i g d (is_declared_in_file s d.name) (λ t. is_static (with_object s (record d { ctype = t })))

    record AreSmallThen (s : Sight) (ds : List Declaration) : Type 0 where
      each : EachDeclared E ds
      sight : IsSmallSight new (with_objects s ds)
      structs : (with_objects s ds).structs ≡ s.structs

    declarations_small : (s : Sight) → IsSmallSight new s → Grows s.structs new → (ds : List Declaration) → Gives (AreSmallThen s) (typed_declarations s ds)
    declarations_small s i g [] = record { each = tt; sight = i; structs = refl }
    declarations_small s i g (d ∷ ds) =
        gives_one (IsSmallThen s) (AreSmallThen s) (typed_variable s d) (λ d. one_part (typed_declarations (with_object s d) ds) (λ ds. Good (d ∷ ds))) (variable_small s i g d) (λ x f.
        gives_one (AreSmallThen (with_object s x)) (AreSmallThen s) (typed_declarations (with_object s x) ds) (λ ds. Good (x ∷ ds)) (declarations_small (with_object s x) f.sight g ds) (λ xs h.
        record { each = (f.init, h.each); sight = h.sight; structs = h.structs }))

    -- ---- statements (C99 6.8)

    condition_small : (s : Sight) → IsSmallSight new s → Grows s.structs new → (e : Expression) → Gives E (typed_condition s e)
    condition_small s i g e = gives_one E E (decayed_of (typed s e)) condition (value_small new s i all g e) (λ x h. gives_where E (is_scalar (type_of x)) _ _ (λ v. h))

    maybe_small : (check : Expression → Checked Expression) (o : Option Expression) → ((e : Expression) → Gives E (check e)) → Gives (WhereAny E) (typed_maybe check o)
    maybe_small check None f = tt
    maybe_small check (Some e) f = gives_one E (WhereAny E) (check e) (λ e. Good (Some e)) (f e) (λ x h. h)

    abbrev A : Statement → Type 0
    A a = EachIn E a

    returned_small : (s : Sight) (at : Place) (t : PlainType) → Small new t → (o : Option Expression) → WhereAny E o → Gives A (returned s at t o)
    returned_small s at t k None h = gives_where A (is_void t) _ _ (λ v. tt)
    returned_small s at t k (Some e) h = gives_where A (not (is_void t) && is_assigned s e t) _ _ (λ v. in_type_small new t e k h)

    record IsItemThen (s : Sight) (j : BlockItem) : Type 0 where
      each : EachInItem E j
      sight : IsSmallSight new (behind s j)
      structs : (behind s j).structs ≡ s.structs

    record IsFirstThen (s : Sight) (j : ForFirst) : Type 0 where
      each : EachInFirst E j
      sight : IsSmallSight new (behind_first s j)
      structs : (behind_first s j).structs ≡ s.structs

    grows_same : (old same : List StructType) → same ≡ old → Grows old new → Grows same new
    grows_same old same e g = subst (λ ss. Grows ss new) (sym e) g

    mutual
      statement_small : (s : Sight) → IsSmallSight new s → Grows s.structs new → (r : Around) → Small new r.result → (a : Statement) → Gives A (typed_statement s r a)
      statement_small s i g r k (Empty at) = tt
      statement_small s i g r k (Eval at e) = gives_one E A (typed s e) (λ e. Good (Eval at e)) (typed_small new s i all g e) (λ x f. f)
      statement_small s i g r k (Block at items) = gives_one (EachInItems E) A (typed_items (inner s) r items) (λ items. Good (Block at items)) (items_small (inner s) (sees_inner s i) g r k items) (λ x f. f)
      statement_small s i g r k (If at e a b) =
          gives_one E A (typed_condition s e) (λ e. one_part (typed_statement s r a) (λ a. one_part (typed_else s r b) (λ b. Good (If at e a b)))) (condition_small s i g e) (λ x f.
          gives_one A A (typed_statement s r a) (λ a. one_part (typed_else s r b) (λ b. Good (If at x a b))) (statement_small s i g r k a) (λ y h.
          gives_one (EachInElse E) A (typed_else s r b) (λ b. Good (If at x y b)) (else_small s i g r k b) (λ z l. (f, h, l))))
      statement_small s i g r k (While at annots e a) =
          gives_one E A (typed_condition s e) (λ e. one_part (typed_statement s (in_loop r) a) (λ a. Good (While at annots e a))) (condition_small s i g e) (λ x f.
          gives_one A A (typed_statement s (in_loop r) a) (λ a. Good (While at annots x a)) (statement_small s i g (in_loop r) k a) (λ y h. (f, h)))
      statement_small s i g r k (Do at a e) =
          gives_one A A (typed_statement s (in_loop r) a) (λ a. one_part (typed_condition s e) (λ e. Good (Do at a e))) (statement_small s i g (in_loop r) k a) (λ y h.
          gives_one E A (typed_condition s e) (λ e. Good (Do at y e)) (condition_small s i g e) (λ x f. (h, f)))
      statement_small s i g r k (For at annots first e step a) =
          gives_one (IsFirstThen (inner s)) A (typed_first (inner s) r first) (λ first.
          let s = behind_first (inner s) first in
          one_part (typed_maybe (typed_condition s) e) (λ e. one_part (typed_maybe (typed s) step) (λ step.
          one_part (typed_statement s (in_loop r) a) (λ a. Good (For at annots first e step a))))) (first_small (inner s) (sees_inner s i) g r k first) (λ w f.
          let z = behind_first (inner s) w in
          let more = grows_same s.structs (behind_first (inner s) w).structs f.structs g in
          gives_one (WhereAny E) A (typed_maybe (typed_condition z) e) (λ e. one_part (typed_maybe (typed z) step) (λ step. one_part (typed_statement z (in_loop r) a) (λ a. Good (For at annots w e step a))))
          (maybe_small (typed_condition z) e (λ x. condition_small z f.sight more x)) (λ x h.
          gives_one (WhereAny E) A (typed_maybe (typed z) step) (λ step. one_part (typed_statement z (in_loop r) a) (λ a. Good (For at annots w x step a)))
          (maybe_small (typed z) step (λ x. typed_small new z f.sight all more x)) (λ y l.
          gives_one A A (typed_statement z (in_loop r) a) (λ a. Good (For at annots w x y a)) (statement_small z f.sight more (in_loop r) k a) (λ b m. (f.each, h, l, m)))))
      statement_small s i g r k (Break at) = gives_where A r.breaks _ _ (λ v. tt)
      statement_small s i g r k (Continue at) = gives_where A r.loops _ _ (λ v. tt)
      statement_small s i g r k (Return at e) = gives_one (WhereAny E) A (typed_maybe (λ e. decayed_of (typed s e)) e) (returned s at r.result)
          (maybe_small (λ e. decayed_of (typed s e)) e (λ x. value_small new s i all g x)) (λ o f. returned_small s at r.result k o f)
      statement_small s i g r k (Labelled at l a) = gives_one A A (typed_statement s r a) (λ a. Good (Labelled at l a)) (statement_small s i g r k a) (λ x f. f)
      statement_small s i g r k (Switch at e cases) =
          gives_one (λ (x : CInt × Expression). E x.1) A (one_part (decayed_of (typed s e)) controlling) (λ x. one_part (typed_cases s (in_switch r) x.0 [] false cases) (λ cases. Good (Switch at x.1 cases)))
          (gives_one E (λ (x : CInt × Expression). E x.1) (decayed_of (typed s e)) controlling (value_small new s i all g e) (λ x h.
          gives_given (λ (x : CInt × Expression). E x.1) (integer_type (type_of x)) (no_type (place_of x)) (λ j. Good (promoted j, in_int (promoted j) x)) (λ j c. in_type_small new (Int (promoted j)) x refl h))) (λ x f.
          gives_one (EachInCases E) A (typed_cases s (in_switch r) x.0 [] false cases) (λ cs. Good (Switch at x.1 cs)) (cases_small s i g (in_switch r) k x.0 [] false cases) (λ cs h. (f, h)))

      cases_small : (s : Sight) → IsSmallSight new s → Grows s.structs new → (r : Around) → Small new r.result → (j : CInt) (used : List ℤ) (has_default : Bool) (cases : Cases) → Gives (EachInCases E) (typed_cases s r j used has_default cases)
      cases_small s i g r k j used d NoCase = tt
      cases_small s i g r k j used d (AnotherCase at None items rest) =
          gives_where (EachInCases E) (not d) (no_type at) _ (λ _.
          gives_one (EachInItems E) (EachInCases E) (typed_items s r items) (λ items. one_part (typed_cases s r j used true rest) (λ rest. Good (AnotherCase at None items rest))) (items_small s i g r k items) (λ js v.
          gives_one (EachInCases E) (EachInCases E) (typed_cases s r j used true rest) (λ rest. Good (AnotherCase at None js rest)) (cases_small s i g r k j used true rest) (λ cs w. (v, w))))
      cases_small s i g r k j used d (AnotherCase at (Some e) items rest) =
          gives_one (λ z. Unit {0}) (EachInCases E) (case_value s j used e) (λ z. one_part (typed_items s r items) (λ items.
          one_part (typed_cases s r j (z ∷ used) d rest) (λ rest. Good (AnotherCase at (Some (case_number j (place_of e) z)) items rest)))) (anything (case_value s j used e)) (λ z _.
          gives_one (EachInItems E) (EachInCases E) (typed_items s r items)
          (λ items. one_part (typed_cases s r j (z ∷ used) d rest) (λ rest. Good (AnotherCase at (Some (case_number j (place_of e) z)) items rest))) (items_small s i g r k items) (λ js v.
          gives_one (EachInCases E) (EachInCases E) (typed_cases s r j (z ∷ used) d rest) (λ rest. Good (AnotherCase at (Some (case_number j (place_of e) z)) js rest))
          (cases_small s i g r k j (z ∷ used) d rest) (λ cs w. (v, w))))

      else_small : (s : Sight) → IsSmallSight new s → Grows s.structs new → (r : Around) → Small new r.result → (b : ElsePart) → Gives (EachInElse E) (typed_else s r b)
      else_small s i g r k NoElse = tt
      else_small s i g r k (Else a) = gives_one A (EachInElse E) (typed_statement s r a) (λ a. Good (Else a)) (statement_small s i g r k a) (λ x f. f)

      first_small : (s : Sight) → IsSmallSight new s → Grows s.structs new → (r : Around) → Small new r.result → (first : ForFirst) → Gives (IsFirstThen s) (typed_first s r first)
      first_small s i g r k NoFirst = record { each = tt; sight = i; structs = refl }
      first_small s i g r k (First j) = gives_one (IsItemThen s) (IsFirstThen s) (typed_item s r j) (λ j. Good (First j)) (item_small s i g r k j) (λ x f.
          record { each = f.each; sight = f.sight; structs = f.structs })

      item_small : (s : Sight) → IsSmallSight new s → Grows s.structs new → (r : Around) → Small new r.result → (j : BlockItem) → Gives (IsItemThen s) (typed_item s r j)
      item_small s i g r k (Declare ds) = gives_one (AreSmallThen s) (IsItemThen s) (typed_declarations s ds) (λ ds. Good (Declare ds)) (declarations_small s i g ds) (λ x f.
          record { each = f.each; sight = f.sight; structs = f.structs })
      item_small s i g r k (Specify at t) = gives_one (λ u. Unit {0}) (IsItemThen s) (typed_type s at t) (λ u. Good (Specify at u)) (anything (typed_type s at t)) (λ u v. record { each = tt; sight = i; structs = refl })
      item_small s i g r k (Run a) = gives_one A (IsItemThen s) (typed_statement s r a) (λ a. Good (Run a)) (statement_small s i g r k a) (λ x f. record { each = f; sight = i; structs = refl })
      item_small s i g r k (Asserts annots) = record { each = tt; sight = i; structs = refl }

      items_small : (s : Sight) → IsSmallSight new s → Grows s.structs new → (r : Around) → Small new r.result → (is : BlockItems) → Gives (EachInItems E) (typed_items s r is)
      items_small s i g r k NoItem = tt
      items_small s i g r k (Then j rest) =
          gives_one (IsItemThen s) (EachInItems E) (typed_item s r j) (λ i. one_part (typed_items (behind s i) r rest) (λ rest. Good (Then i rest))) (item_small s i g r k j) (λ x f.
          gives_one (EachInItems E) (EachInItems E) (typed_items (behind s x) r rest) (λ rest. Good (Then x rest))
          (items_small (behind s x) f.sight (grows_same s.structs (behind s x).structs f.structs g) r k rest) (λ y h. (f.each, h)))

    -- ---- functions (C99 6.7.5.3, 6.9.1)

    body_small : (s : Sight) → IsSmallSight new s → Grows s.structs new → (t : PlainType) → Small new t → (b : Option Statement) → Gives (EachInBody E) (typed_body s t b)
    body_small s i g t k (Some (Block at items)) =
        gives_one (EachInItems E) (EachInBody E) (typed_items s (around_body t) items) (λ items. Good (Some (Block at items))) (items_small s i g (around_body t) k items) (λ x f. f)
    body_small s i g t k None = tt
    body_small s i g t k (Some (Empty at)) = tt
    body_small s i g t k (Some (Eval at e)) = tt
    body_small s i g t k (Some (If at e a b)) = tt
    body_small s i g t k (Some (While at annots e a)) = tt
    body_small s i g t k (Some (Do at a e)) = tt
    body_small s i g t k (Some (For at annots first e step a)) = tt
    body_small s i g t k (Some (Break at)) = tt
    body_small s i g t k (Some (Continue at)) = tt
    body_small s i g t k (Some (Return at e)) = tt
    body_small s i g t k (Some (Labelled at l a)) = tt
    body_small s i g t k (Some (Switch at e cases)) = tt

    sees_parameter : (s : Sight) → IsSmallSight new s → (d : Declaration) → Small new d.ctype → IsSmallSight new (with_parameter s d)
    sees_parameter s i d k = by d.named
      where
        by : (b : Bool) → IsSmallSight new (cond b (with_object s d) s)
        by true = sees_object s i d k
        by false = i

    parameter_structs : (s : Sight) (d : Declaration) → (with_parameter s d).structs ≡ s.structs
    parameter_structs s d = by d.named
      where
        by : (b : Bool) → (cond b (with_object s d) s).structs ≡ s.structs
        by true = refl
        by false = refl

    sees_parameters : (s : Sight) → IsSmallSight new s → (ds : List Declaration) → AllSmall new (types_of ds) → IsSmallSight new (with_parameters s ds)
    sees_parameters s i [] k = i
    sees_parameters s i (d ∷ ds) k = sees_parameters (with_parameter s d) (sees_parameter s i d k.0) ds k.1

    parameters_structs : (s : Sight) (ds : List Declaration) → (with_parameters s ds).structs ≡ s.structs
    parameters_structs s [] = refl
    parameters_structs s (d ∷ ds) = parameters_structs (with_parameter s d) ds ∙ parameter_structs s d

    parameters_small : (s : Sight) → IsSmallSight new s → Grows s.structs new → (defined : Bool) (ds : List Declaration) → Gives (λ es. AllSmall new (types_of es)) (typed_parameters s defined ds)
    parameters_small s i g defined [] = tt
    parameters_small s i g defined (d ∷ ds) =
        gives_one (λ (e : Declaration). Small new e.ctype) (λ es. AllSmall new (types_of es)) (typed_parameter s defined d) (λ d. one_part (typed_parameters (with_parameter s d) defined ds) (λ ds. Good (d ∷ ds)))
        (parameter_small new all s g i.types defined d) (λ e k.
        gives_one (λ es. AllSmall new (types_of es)) (λ es. AllSmall new (types_of es)) (typed_parameters (with_parameter s e) defined ds) (λ ds. Good (e ∷ ds))
        (parameters_small (with_parameter s e) (sees_parameter s i e k) (grows_same s.structs (with_parameter s e).structs (parameter_structs s e) g) defined ds) (λ es h. (k, h)))

    -- a function with a small type
    abbrev HasSmallType : Function → Type 0
    HasSmallType f = Small new f.result × AllSmall new (types_of f.params)

    one_more_function : (fs : List Signature) (f : Signature) → AreSmallSignatures new fs → Small new f.result × AllSmall new f.params → AreSmallSignatures new (fs ++ f ∷ [])
    one_more_function [] f h k = (k, tt)
    one_more_function (g ∷ fs) f h k = (h.0, one_more_function fs f h.1 k)

    sees_function : (p : TranslationUnit) (s : Sight) → IsSmallSight new s → (f : Function) → HasSmallType f → IsSmallSight new (with_function p s f)
    sees_function p s i f k = record {
      entities = i.entities;
      functions = one_more_function s.functions (signature p.funcs f) i.functions k;
      texts = i.texts;
      types = i.types;
      members = i.members;
    }

    heading_small : (s : Sight) → IsSmallSight new s → Grows s.structs new → (before : List Function) (f : Function) → Gives HasSmallType (typed_heading s before f)
    heading_small s i g before f =
        gives_heading (λ n. Unit {0}) (Small new) (λ ds. AllSmall new (types_of ds)) HasSmallType s before f (anything (function_name s f)) (result_small new all s g i.types (is_definition f) f.place f.result)
        (parameters_small (inner s) (sees_inner s i) g (is_definition f) f.params) (λ n t ds u v w. (v, w))

    -- a function whose expressions are small, and what is in sight behind it
    pub record IsFunctionThen (p : TranslationUnit) (s : Sight) (f : Function) : Type 0 where
      pub body : EachInBody E f.body
      pub sight : IsSmallSight new (with_function p s f)

    parts_small : (p : TranslationUnit) (s : Sight) → IsSmallSight new s → Grows s.structs new → (before : List Function) (f : Function) → Gives (IsFunctionThen p s) (typed_parts p s before f)
    parts_small p s i g before f =
        gives_one HasSmallType (IsFunctionThen p s) (typed_heading s before f) (λ f. one_part (typed_body (with_parameters (inner (with_function p s f)) f.params) f.result f.body) (λ b. Good (record f { body = b })))
        (heading_small s i g before f) (λ h k.
        let w = sees_function p s i h k in
        let inside = with_parameters (inner (with_function p s h)) h.params in
        gives_one (EachInBody E) (IsFunctionThen p s) (typed_body (with_parameters (inner (with_function p s h)) h.params) h.result h.body) (λ b. Good (record h { body = b }))
        (body_small inside (sees_parameters (inner (with_function p s h)) (sees_inner (with_function p s h) w) h.params k.1)
        (grows_same s.structs inside.structs (parameters_structs (inner (with_function p s h)) h.params) g) h.result k.0 h.body)
        (λ b l. record { body = l; sight = sees_function p s i (record h { body = b }) k }))

    pub function_small : (p : TranslationUnit) (s : Sight) → IsSmallSight new s → Grows s.structs new → (before : List Function) (f : Function) → Gives (IsFunctionThen p s) (typed_function p s before f)
    function_small p s i g before f = gives_function (IsFunctionThen p s) p s before f (parts_small p s i g before f)
