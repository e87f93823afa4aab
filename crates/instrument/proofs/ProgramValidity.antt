-- The translation of an accepted program is valid.
use Rattle.std.proofs.Common.{◌≡◌, ℕ, suc, ◌<◌, Bool, true, false, cond, if◌then◌else◌, nat_eq, List, [], ◌∷◌, ◌++◌, length, Option, Some, None, append_assoc, refl, sym, ap, ◌∙◌, subst, arith}
use Rattle.std.proofs.lemmas.Bool.{eqb-true, lt-ltb}
use Rattle.c_syntax.specs.declared.place.Place.{Place}
use Rattle.c_syntax.specs.Statements.{Declaration, Statement, Empty, Eval, Block, If, While, Do, For, Break, Continue, Return, BlockItems}
use Rattle.c_syntax.specs.Programs.{Function, TranslationUnit}
use Rattle.c_model.specs.Library.{is_library_name}
use Rattle.c_model.specs.State.{find}
use Rattle.c_model.specs.Meaning.{is_definition}
use Rattle.c_model.specs.Formed.{number_of, FunctionNamed, FunctionsNamed, declared_in_body, declared_in_items}
use Rattle.c_model.specs.ExpressionTyping.{Sight, AnObject, inner, name_at, with_object}
use Rattle.c_model.specs.UnitTyping.{items_of_file, with_parameters}
use Rattle.c_model.specs.TypedTrees.{BodyTyped}
use Rattle.c_model.specs.TypedAnnotations.{BodyNoted}
use Rattle.c_model.specs.Sizes.{IsSmall}
use Rattle.c_model.specs.SmallTypes.{TypesSmall}
use Rattle.c_model.specs.FullExpressions.{EachDeclared, EachInBody, EachInFunctions}
use Rattle.c_model.specs.ReadTree.{BodyRead, FunctionsRead}
use Rattle.c_model.specs.UnrangedPrograms.{FunctionsRanged}
use Rattle.c_model.specs.AnnotationTyping.{in_body}
use Rattle.instrument.proofs.RangedTrees.{AreRangedAsserts, AreRangedClauses, functions_ranged}
use Rattle.instrument.proofs.Annotated.{AreAnnotated, IsAnnotated, are_annotated}
use Rattle.instrument.proofs.KeepablePlans.{is_planned}
use Rattle.c_model.specs.AcceptedPrograms.{AreDefined, IsProgram}
use Rattle.mon_syntax.specs.Valid.{Types, IsValid}
use Rattle.c_initialisers.specs.Letters.{InitialHasLetters, InitialsHaveLetters}
use Rattle.instrument.specs.Limits.{BodyHasNumbers, FunctionHasNumbers, FunctionsHaveNumbers}
use Rattle.c_effects.specs.Expressions.{global_index}
use Rattle.instrument.specs.Translation.{index_of_main, front_temporaries, translated}
use Rattle.instrument.proofs.Sight.{scope_for}
use Rattle.interval_infer.specs.InSight.{IsFound}
use Rattle.interval_infer.proofs.Sights.{found_with}
use Rattle.annot_simulation.proofs.Beside.{found_named}
use Rattle.instrument.proofs.Own.{AreOwn, between_own, own_parts, items_own}
use Rattle.instrument.proofs.Sights.{own_scope, IsPlace, FunctionInPlace, function_in_place, GlobalInPlace, globals_in_place}
use Rattle.instrument.proofs.FileNumbers.{IsNumbered, function_is_numbered, globals_own}
use Rattle.instrument.proofs.FormedSizes.{initial_formed, items_formed}
use Rattle.instrument.proofs.Typed.{known_small}
use Rattle.instrument.proofs.TypedDefinitions.{IsFileSight, GlobalTyped, GlobalsTyped, DefinitionTyped, DefinitionsTyped}
use Rattle.instrument.proofs.ValidPrograms.{translated_valid}
use Rattle.instrument.proofs.Correct.{main_below}
use Rattle.instrument.proofs.ProgramRuns.{GlobalsHaveLetters}
use Rattle.instrument.proofs.ValidInitialisers.{initial_letters}
use Rattle.instrument.proofs.Numbers.{numbers_in}

-- ---- what is in sight at file scope

-- a number that is found among those of globals
found_global : (x : ℕ) (ds : List Declaration) → AreOwn ds → IsFound (scope_for (numbers_in ds)) x → (nat_eq x 4294967295 ≡ false) × (global_index x ds < length ds)
found_global x [] own (n, e) = absurd cc
found_global x (d ∷ ds) own h = by (λ f. found_global x ds own.1 f) (nat_eq (number_of d) x) refl h
  where
    by : (IsFound (scope_for (numbers_in ds)) x → (nat_eq x 4294967295 ≡ false) × (global_index x ds < length ds)) → (t : Bool) → nat_eq (number_of d) x ≡ t
        → ((number : ℕ) × (cond t (Some 0) (find x (scope_for (numbers_in ds))) ≡ Some number)) → (nat_eq x 4294967295 ≡ false) × (global_index x (d ∷ ds) < suc (length ds))
    by rest true same f =
        let here : global_index x (d ∷ ds) ≡ 0 = ap (λ t. if t then 0 else suc (global_index x ds)) same in
        (subst (λ y. nat_eq y 4294967295 ≡ false) (eqb-true (number_of d) x same) own.0, omega (arith, here))
    by rest false other f =
        let there : global_index x (d ∷ ds) ≡ suc (global_index x ds) = ap (λ t. if t then 0 else suc (global_index x ds)) other in
        let r = rest f in
        let below = r.1 in
        (r.0, omega (arith, there, below))

file_sight : (p : TranslationUnit) (s : Sight) → AreOwn p.globals → IsPlace p (own_scope p) s → AreDefined p s.functions → IsFileSight p s
file_sight p s own at defined = record {
  objects = λ x b e.
      let g = found_global b.decl p.globals own (found_named x s.entities (AnObject b) (own_scope p) at.found e) in
      (g.0, lt-ltb (global_index b.decl p.globals) (length p.globals) g.1);
  structs_are = at.structs;
  texts_are = at.texts;
  names_are = at.names;
  functions = defined;
}

-- ---- globals

module _ (p : TranslationUnit) (q : IsProgram p) where
  own : AreOwn p.globals
  own = globals_own p q.numbered [] p.globals refl

  global_typed : (d : Declaration) → GlobalInPlace p d → EachDeclared IsSmall (d ∷ []) → EachDeclared (TypesSmall p.structs) (d ∷ []) → InitialHasLetters d.init → GlobalTyped p d
  global_typed d here small types letters =
      let at : IsPlace p (own_scope p) (with_object here.sight d) =
      record { names = here.place.names; texts = here.place.texts; structs = here.place.structs; found = found_with here.sight d (own_scope p) here.place.found here.itself } in
      record {
        sight = with_object here.sight d;
        file = file_sight p (with_object here.sight d) own at here.defined;
        size = known_small p.structs here.sight d.ctype here.place.structs here.declared.size;
        init = here.declared.init;
        formed = initial_formed p.structs d.init small.0 types.0;
        letters = initial_letters d.init letters;
      }

  globals_typed : (front ds : List Declaration) → front ++ ds ≡ p.globals → EachDeclared IsSmall ds → EachDeclared (TypesSmall p.structs) ds → InitialsHaveLetters ds → GlobalsTyped p ds
  globals_typed front [] is small types letters = tt
  globals_typed front (d ∷ ds) is small types letters = (
    global_typed d (globals_in_place p q front ds d is) (small.0, tt) (types.0, tt) letters.0,
    globals_typed (front ++ d ∷ []) ds (append_assoc front (d ∷ []) ds ∙ is) small.1 types.1 letters.1,
  )

  -- ---- functions

  definition_typed : (front : Types) (f : Function) → FunctionInPlace p f → IsNumbered (items_of_file p) 0 4294967295 f → FunctionNamed p.names f → BodyRead AreRangedAsserts AreRangedClauses f.body → EachInBody IsSmall f.body
      → EachInBody (TypesSmall p.structs) f.body → IsAnnotated p f
      → is_definition f ≡ true → FunctionHasNumbers p front f → DefinitionTyped p front f
  definition_typed front f here n named formed small types annotated definition numbers = by f.body refl
    where
      sight : Sight
      sight = with_parameters (inner here.sight) f.params

      parts : AreOwn f.params × AreOwn (declared_in_body f.body)
      parts = own_parts f.params (declared_in_body f.body) (between_own (suc f.place.offset) n.high (f.params ++ declared_in_body f.body) n.between n.below)

      block : (at : Place) (items : BlockItems) → f.body ≡ Some (Block at items) → DefinitionTyped p front f
      block at items e =
          let placed : BodyRead AreRangedAsserts AreRangedClauses (Some (Block at items)) = subst (BodyRead AreRangedAsserts AreRangedClauses) e formed in
          let light : EachInBody IsSmall (Some (Block at items)) = subst (EachInBody IsSmall) e small in
          let few : EachInBody (TypesSmall p.structs) (Some (Block at items)) = subst (EachInBody (TypesSmall p.structs)) e types in
          let typed : BodyTyped sight f.result (Some (Block at items)) = subst (BodyTyped sight f.result) e here.typed.body in
          let noted : BodyNoted (in_body sight) (Some (Block at items)) = subst (BodyNoted (in_body sight)) e here.noted in
          let letters : BodyHasNumbers (Some (Block at items)) = subst BodyHasNumbers e numbers.body in
          let declared : AreOwn (declared_in_items items) = subst (λ b. AreOwn (declared_in_body b)) e parts.1 in
          let shallow = placed.1 in
          record {
            sight = here.sight;
            file = file_sight p here.sight own here.place here.defined;
            named = named;
            own_name = ap (λ l. is_library_name (name_at l f.name)) (sym here.place.names) ∙ here.typed.own_name;
            params = here.typed.params;
            own = parts.0;
            place = at;
            items = items;
            is = e;
            formed = items_formed p.structs items placed.0 light few;
            shallow = omega (arith, shallow);
            typed = typed;
            planned = is_planned p f here.sight at items e noted placed.0 here.typed.labels annotated;
            numbers = items_own items declared;
            letters = letters;
            gives = here.typed.result;
            annotated = annotated;
            clauses = numbers.contract;
            few = numbers.few;
          }

      by : (o : Option Statement) → f.body ≡ o → DefinitionTyped p front f
      by None e = absurd cc
      by (Some (Block at items)) e = block at items e
      by (Some (Empty at)) e = absurd (subst (BodyRead AreRangedAsserts AreRangedClauses) e formed)
      by (Some (Eval at x)) e = absurd (subst (BodyRead AreRangedAsserts AreRangedClauses) e formed)
      by (Some (If at x a b)) e = absurd (subst (BodyRead AreRangedAsserts AreRangedClauses) e formed)
      by (Some (While at annots x a)) e = absurd (subst (BodyRead AreRangedAsserts AreRangedClauses) e formed)
      by (Some (Do at a x)) e = absurd (subst (BodyRead AreRangedAsserts AreRangedClauses) e formed)
      by (Some (For at annots first x step a)) e = absurd (subst (BodyRead AreRangedAsserts AreRangedClauses) e formed)
      by (Some (Break at)) e = absurd (subst (BodyRead AreRangedAsserts AreRangedClauses) e formed)
      by (Some (Continue at)) e = absurd (subst (BodyRead AreRangedAsserts AreRangedClauses) e formed)
      by (Some (Return at x)) e = absurd (subst (BodyRead AreRangedAsserts AreRangedClauses) e formed)
      by (Some _) e = absurd (subst (BodyRead AreRangedAsserts AreRangedClauses) e formed)

  definitions_typed : (main k : ℕ) (front fs : List Function) → front ++ fs ≡ p.funcs → FunctionsNamed p.names fs → FunctionsRead AreRangedAsserts AreRangedClauses fs → EachInFunctions IsSmall fs → EachInFunctions (TypesSmall p.structs) fs
      → AreAnnotated p fs → FunctionsHaveNumbers p main k fs → DefinitionsTyped p main k fs
  definitions_typed main k front [] is named formed small types annotated numbers = tt
  definitions_typed main k front (f ∷ fs) is named formed small types annotated numbers = (
    λ e. definition_typed (front_temporaries p (nat_eq k main)) f (function_in_place p q front fs f is) (function_is_numbered p q.numbered front fs f is) named.0 formed.0.body small.0 types.0 annotated.0 e (numbers.0 e),
    definitions_typed main (if is_definition f then suc k else k) (front ++ f ∷ []) fs (append_assoc front (f ∷ []) fs ∙ is) named.1 formed.1 small.1 types.1 annotated.1 numbers.1,
  )

pub program_valid : (p : TranslationUnit) → IsProgram p → FunctionsRanged p.funcs → GlobalsHaveLetters p → FunctionsHaveNumbers p (index_of_main p.names p.funcs) 0 p.funcs → IsValid (translated p)
program_valid p q ranged letters numbers = translated_valid p (record {
  structs = q.typed.structs;
  texts = q.texts;
  few_functions = q.few_functions;
  globals_named = q.globals_named;
  globals = globals_typed p q [] p.globals refl q.small.globals q.small_types.globals (letters (main_below p q.main));
  room = q.room;
  definitions = definitions_typed p q (index_of_main p.names p.funcs) 0 [] p.funcs refl q.named (functions_ranged p.funcs q.effects ranged) q.small.funcs q.small_types.funcs (are_annotated p q ranged) numbers;
  main = q.main;
})
