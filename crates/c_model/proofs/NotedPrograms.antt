-- A typed program whose asserts are typed is a typed program, and what it calls and declares is the same.
use Rattle.std.proofs.Common.{◌≡◌, ℕ, suc, ◌<◌, ◌^◌, List, [], ◌∷◌, ◌++◌, map, length, Option, Some, None, true, not, ◌&&◌, cond, nat_eq, refl, sym, ap, ◌∙◌, subst}
use Rattle.std.specs.Prelude.{bytes_eq, codes}
use Rattle.c_syntax.specs.Expressions.{Expression}
use Rattle.c_syntax.specs.Ctypes.{int_type}
use Rattle.c_syntax.specs.Logic.{Annotation}
use Rattle.c_syntax.specs.Statements.{Statement, Block}
use Rattle.c_syntax.specs.Programs.{FunctionContract, Function, TranslationUnit}
use Rattle.c_model.specs.Checked.{Checked, Good, Bad, one_part}
use Rattle.c_model.specs.Library.{is_there}
use Rattle.c_model.specs.Meaning.{is_definition}
use Rattle.c_model.specs.ExpressionTyping.{Sight, inner, name_at, same_type}
use Rattle.c_model.specs.UnitTyping.{FileItem, StructHead, Member, AnEnum, ATypedef, AGlobal, AFunction, items_of_file, sight_with, with_function, with_parameters, behind_item}
use Rattle.c_model.specs.UnitTyping.{is_compatible, is_compatible_with_all, same_signature, has_no_parameters, no_main, main_fault}
use Rattle.c_model.specs.AnnotationSights.{AnnotationSight}
use Rattle.c_model.specs.AnnotationTyping.{in_body, noted_items, noted_body, noted_contract, known_at, noted_function, noted_functions, noted_unit, contract_moved, with_contract, with_contracts}
use Rattle.c_model.specs.TypedTrees.{FunctionTyped}
use Rattle.c_model.specs.TypedPrograms.{ItemsTyped, ProgramTyped}
use Rattle.c_model.specs.TypedAnnotations.{FunctionNoted, ContractsNoted}
use Rattle.c_model.specs.FormedContracts.{ContractsFormed}
use Rattle.c_model.specs.Formed.{AreLoopClauses, AreReadLoopClauses, IsShortReading, IsShortClause, AreAsserts, AreReadAsserts, IsName, number_of, numbers_of, declared_in_body, AreNamed, AreNamedParameters, FunctionNamed, FunctionsNamed}
use Rattle.c_model.specs.FullExpressions.{EachInFunctions}
use Rattle.c_model.specs.TextOrder.{Between, numbers_of_item, numbers_of_items, globals_among, functions_among}
use Rattle.c_model.specs.ReadTree.{FunctionRead, FunctionsRead}
use Rattle.c_model.specs.FileItems.{FileNoted, FileResolved, SeesValues, FileSeesValues}
use Rattle.c_model.proofs.TypedParts.{Gives, gives_of, gives_one}
use Rattle.c_model.proofs.TypedDeclarations.{anything}
use Rattle.c_model.proofs.NotedTrees.{IsFunctionNoted, function_noted}
use Rattle.c_model.proofs.NotedForms.{IsBodyKept, body_kept, after_parameters, values_in_body}
use Rattle.c_model.proofs.NotedContracts.{functions_formed, all_moved}
use Rattle.c_model.proofs.ContractsStand.{AreBefore, contracts_before, own_globals, contracts_noted, AreGlobals}
use Rattle.c_model.proofs.CompatibleFunctions.{AreCompatible}
use Rattle.c_model.proofs.SignaturesInSight.{offsets_of}
use Rattle.c_model.proofs.ResolvedCalls.{offsets_between, file_resolved}
use Rattle.c_model.proofs.NotedFiles.{HasOtherBody, HaveOtherBodies, same_place, same_name, same_signature_of, with_functions, items_with, among_with}

-- ---- functions

-- where the annotations of a body stand
abbrev seen_in : Sight → Function → AnnotationSight
seen_in s f = in_body (with_parameters (inner (known_at f.place s)) f.params)

-- a function whose contract is typed, and then its body
behind_contract : (R : Function → Type 0) (all : List Function) (s : Sight) (f : Function)
    → ((c : Option FunctionContract) → Gives R (one_part (noted_body (seen_in s f) f.body) (λ b. Good (record f { contract = c; body = b })))) → Gives R (noted_function all s f)
behind_contract R all s f h = gives_one (λ (c : Option FunctionContract). Unit {0}) R (noted_contract all s f f.contract) (λ c. one_part (noted_body (seen_in s f) f.body) (λ b. Good (record f { contract = c; body = b })))
    (anything (noted_contract all s f f.contract)) (λ c u. h c)

other_body : (all : List Function) (s : Sight) (f : Function) → Gives (HasOtherBody f) (noted_function all s f)
other_body all s f = behind_contract (HasOtherBody f) all s f (λ c. by c f.body refl)
  where
    by : (c : Option FunctionContract) (o : Option Statement) → f.body ≡ o → Gives (HasOtherBody f) (one_part (noted_body (seen_in s f) o) (λ b. Good (record f { contract = c; body = b })))
    by c None e = record { contract = c; body = None; is = refl; there = ap is_there (sym e) }
    by c (Some (Block at items)) e =
        gives_one (λ b. is_there b ≡ true) (HasOtherBody f) (noted_body (seen_in s f) (Some (Block at items))) (λ b. Good (record f { contract = c; body = b }))
        (gives_one (λ js. Unit {0}) (λ b. is_there b ≡ true) (noted_items (seen_in s f) items) (λ items. Good (Some (Block at items))) (anything _) (λ js u. refl))
        (λ b t. record { contract = c; body = b; is = refl; there = t ∙ ap is_there (sym e) })
    by c (Some a) e = record { contract = c; body = Some a; is = refl; there = ap is_there (sym e) }

module _ (P : Expression → Type 0) where
  -- what is kept of a function, where these are in sight
  pub record IsFunctionKept (s : Sight) (f g : Function) : Type 0 where
    pub typed : IsFunctionNoted s f g
    pub other : HasOtherBody f g
    pub body : IsBodyKept P (seen_in s f) f.body g.body

  function_kept : (all : List Function) (s : Sight) (f : Function) → Gives (IsFunctionKept s f) (noted_function all s f)
  function_kept all s f = by (noted_function all s f) (function_noted all s f) (other_body all s f) bodies
    where
      bodies : Gives (λ (g : Function). IsBodyKept P (seen_in s f) f.body g.body) (noted_function all s f)
      bodies = behind_contract (λ (g : Function). IsBodyKept P (seen_in s f) f.body g.body) all s f (λ c.
          gives_one (IsBodyKept P (seen_in s f) f.body) (λ (g : Function). IsBodyKept P (seen_in s f) f.body g.body) (noted_body (seen_in s f) f.body) (λ b. Good (record f { contract = c; body = b })) (body_kept P (seen_in s f) f.body) (λ b h. h))

      by : (c : Checked Function) → Gives (IsFunctionNoted s f) c → Gives (HasOtherBody f) c → Gives (λ (g : Function). IsBodyKept P (seen_in s f) f.body g.body) c → Gives (IsFunctionKept s f) c
      by (Good g) a b c = record { typed = a; other = b; body = c }
      by (Bad x xs) a b c = tt

  -- the same with another contract
  moved_kept : (s : Sight) (f g : Function) (c : Option FunctionContract) → IsFunctionKept s f g → IsFunctionKept s f (record g { contract = c })
  moved_kept s f g c h = record {
    typed = record { noted = h.typed.noted; kept = λ t. let u = h.typed.kept t in record { own_name = u.own_name; result = u.result; params = u.params; body = u.body; labels = u.labels } };
    other = record { contract = c; body = h.other.body; is = ap (λ (x : Function). record x { contract = c }) h.other.is; there = h.other.there };
    body = h.body;
  }

  -- ---- the functions among the items of a file

  abbrev pub AreKept : TranslationUnit → Sight → List FileItem → List Function → Type 0
  AreKept p s [] [] = Unit {0}
  AreKept p s [] (g ∷ gs) = ⊥
  AreKept p s (AFunction f ∷ is) [] = ⊥
  AreKept p s (AFunction f ∷ is) (g ∷ gs) = IsFunctionKept (with_function p s f) f g × AreKept p (behind_item p s (AFunction f)) is gs
  AreKept p s (StructHead k x ∷ is) gs = AreKept p (behind_item p s (StructHead k x)) is gs
  AreKept p s (Member k m ends ∷ is) gs = AreKept p (behind_item p s (Member k m ends)) is gs
  AreKept p s (AnEnum e ∷ is) gs = AreKept p (behind_item p s (AnEnum e)) is gs
  AreKept p s (ATypedef d ∷ is) gs = AreKept p (behind_item p s (ATypedef d)) is gs
  AreKept p s (AGlobal d ∷ is) gs = AreKept p (behind_item p s (AGlobal d)) is gs

  functions_kept : (p : TranslationUnit) (s : Sight) (is : List FileItem) → Gives (AreKept p s is) (noted_functions p s is)
  functions_kept p s [] = tt
  functions_kept p s (AFunction f ∷ is) =
      gives_one (IsFunctionKept (with_function p s f) f) (AreKept p s (AFunction f ∷ is)) (noted_function p.funcs (with_function p s f) f)
      (λ g. one_part (noted_functions p (behind_item p s (AFunction f)) is) (λ fs. Good (g ∷ fs))) (function_kept p.funcs (with_function p s f) f) (λ g v.
      gives_one (AreKept p (behind_item p s (AFunction f)) is) (AreKept p s (AFunction f ∷ is)) (noted_functions p (behind_item p s (AFunction f)) is) (λ fs. Good (g ∷ fs))
      (functions_kept p (behind_item p s (AFunction f)) is) (λ fs w. (v, w)))
  functions_kept p s (StructHead k x ∷ is) = functions_kept p s is
  functions_kept p s (Member k m ends ∷ is) = functions_kept p s is
  functions_kept p s (AnEnum e ∷ is) = functions_kept p (behind_item p s (AnEnum e)) is
  functions_kept p s (ATypedef d ∷ is) = functions_kept p (behind_item p s (ATypedef d)) is
  functions_kept p s (AGlobal d ∷ is) = functions_kept p (behind_item p s (AGlobal d)) is

  contracts_moved : (all : List Function) (p : TranslationUnit) (s : Sight) (is : List FileItem) (gs : List Function) → AreKept p s is gs → AreKept p s is (map (with_contract all) gs)
  contracts_moved all p s [] [] h = tt
  contracts_moved all p s [] (g ∷ gs) h = absurd h
  contracts_moved all p s (AFunction f ∷ is) [] h = absurd h
  contracts_moved all p s (AFunction f ∷ is) (g ∷ gs) h = (moved_kept (with_function p s f) f g (contract_moved all g) h.0, contracts_moved all p (behind_item p s (AFunction f)) is gs h.1)
  contracts_moved all p s (StructHead k x ∷ is) gs h = contracts_moved all p s is gs h
  contracts_moved all p s (Member k m ends ∷ is) gs h = contracts_moved all p s is gs h
  contracts_moved all p s (AnEnum e ∷ is) gs h = contracts_moved all p (behind_item p s (AnEnum e)) is gs h
  contracts_moved all p s (ATypedef d ∷ is) gs h = contracts_moved all p (behind_item p s (ATypedef d)) is gs h
  contracts_moved all p s (AGlobal d ∷ is) gs h = contracts_moved all p (behind_item p s (AGlobal d)) is gs h

  bodies_of : (p : TranslationUnit) (s : Sight) (is : List FileItem) (gs : List Function) → AreKept p s is gs → HaveOtherBodies (functions_among is) gs
  bodies_of p s [] [] h = tt
  bodies_of p s [] (g ∷ gs) h = absurd h
  bodies_of p s (AFunction f ∷ is) [] h = absurd h
  bodies_of p s (AFunction f ∷ is) (g ∷ gs) h = (h.0.other, bodies_of p (behind_item p s (AFunction f)) is gs h.1)
  bodies_of p s (StructHead k x ∷ is) gs h = bodies_of p s is gs h
  bodies_of p s (Member k m ends ∷ is) gs h = bodies_of p s is gs h
  bodies_of p s (AnEnum e ∷ is) gs h = bodies_of p (behind_item p s (AnEnum e)) is gs h
  bodies_of p s (ATypedef d ∷ is) gs h = bodies_of p (behind_item p s (ATypedef d)) is gs h
  bodies_of p s (AGlobal d ∷ is) gs h = bodies_of p (behind_item p s (AGlobal d)) is gs h

  -- ---- the file whose functions these are

  module _ (q : TranslationUnit) (fs : List Function) (a : HaveOtherBodies q.funcs fs) where
    abbrev noted : TranslationUnit
    noted = record q { funcs = fs }

    -- the same is in sight behind a function
    same_behind : (s : Sight) (f g : Function) → HasOtherBody f g → with_function noted s g ≡ with_function q s f
    same_behind s f g h = ap (λ x. record s { functions = s.functions ++ x ∷ [] }) (same_signature_of q.funcs fs f g a h)

    asserts_typed : (s : Sight) (is : List FileItem) (gs : List Function) → AreKept q s is gs → FunctionsRead AreReadAsserts AreReadLoopClauses (functions_among is) → FileNoted noted s (with_functions is gs)
    asserts_typed s [] gs h r = tt
    asserts_typed s (AFunction f ∷ is) [] h r = absurd h
    asserts_typed s (AFunction f ∷ is) (g ∷ gs) h r =
        let same = same_behind s f g h.0.other in
        (subst (λ s. FunctionNoted s g) (sym same) (h.0.typed.noted r.0), subst (λ s. FileNoted noted s (with_functions is gs)) (sym same) (asserts_typed (behind_item q s (AFunction f)) is gs h.1 r.1))
    asserts_typed s (StructHead k x ∷ is) gs h r = (tt, asserts_typed s is gs h r)
    asserts_typed s (Member k m ends ∷ is) gs h r = (tt, asserts_typed s is gs h r)
    asserts_typed s (AnEnum e ∷ is) gs h r = (tt, asserts_typed (behind_item q s (AnEnum e)) is gs h r)
    asserts_typed s (ATypedef d ∷ is) gs h r = (tt, asserts_typed (behind_item q s (ATypedef d)) is gs h r)
    asserts_typed s (AGlobal d ∷ is) gs h r = (tt, asserts_typed (behind_item q s (AGlobal d)) is gs h r)

    items_typed : (s : Sight) (is : List FileItem) (gs : List Function) → AreKept q s is gs → ItemsTyped q s is → ItemsTyped noted s (with_functions is gs)
    items_typed s [] gs h t = tt
    items_typed s (AFunction f ∷ is) [] h t = absurd h
    items_typed s (AFunction f ∷ is) (g ∷ gs) h t =
        let same = same_behind s f g h.0.other in
        (subst (λ s. FunctionTyped s g) (sym same) (h.0.typed.kept t.0), subst (λ s. ItemsTyped noted s (with_functions is gs)) (sym same) (items_typed (behind_item q s (AFunction f)) is gs h.1 t.1))
    items_typed s (StructHead k x ∷ is) gs h t = (tt, items_typed s is gs h t.1)
    items_typed s (Member k m ends ∷ is) gs h t = (tt, items_typed s is gs h t.1)
    items_typed s (AnEnum e ∷ is) gs h t = (tt, items_typed (behind_item q s (AnEnum e)) is gs h t.1)
    items_typed s (ATypedef d ∷ is) gs h t = (tt, items_typed (behind_item q s (ATypedef d)) is gs h t.1)
    items_typed s (AGlobal d ∷ is) gs h t = (t.0, items_typed (behind_item q s (AGlobal d)) is gs h t.1)

  -- ---- what else is kept

  same_numbers : (s : Sight) (f g : Function) → IsFunctionKept s f g → numbers_of g ≡ numbers_of f
  same_numbers s f g h =
      ap (λ n. n ∷ map number_of (g.params ++ declared_in_body g.body)) (same_place f g h.other)
      ∙ ap (λ (x : Function). f.place.offset ∷ map number_of (x.params ++ declared_in_body g.body)) h.other.is
      ∙ ap (λ ds. f.place.offset ∷ map number_of (f.params ++ ds)) h.body.declares

  items_numbers : (p : TranslationUnit) (s : Sight) (is : List FileItem) (gs : List Function) → AreKept p s is gs → numbers_of_items (with_functions is gs) ≡ numbers_of_items is
  items_numbers p s [] gs h = refl
  items_numbers p s (AFunction f ∷ is) [] h = absurd h
  items_numbers p s (AFunction f ∷ is) (g ∷ gs) h =
      ap (λ ns. ns ++ numbers_of_items (with_functions is gs)) (same_numbers (with_function p s f) f g h.0) ∙ ap (λ ns. numbers_of f ++ ns) (items_numbers p (behind_item p s (AFunction f)) is gs h.1)
  items_numbers p s (StructHead k x ∷ is) gs h = ap (λ ns. numbers_of_item (StructHead k x) ++ ns) (items_numbers p s is gs h)
  items_numbers p s (Member k m ends ∷ is) gs h = ap (λ ns. numbers_of_item (Member k m ends) ++ ns) (items_numbers p s is gs h)
  items_numbers p s (AnEnum e ∷ is) gs h = ap (λ ns. numbers_of_item (AnEnum e) ++ ns) (items_numbers p (behind_item p s (AnEnum e)) is gs h)
  items_numbers p s (ATypedef d ∷ is) gs h = ap (λ ns. numbers_of_item (ATypedef d) ++ ns) (items_numbers p (behind_item p s (ATypedef d)) is gs h)
  items_numbers p s (AGlobal d ∷ is) gs h = ap (λ ns. numbers_of_item (AGlobal d) ++ ns) (items_numbers p (behind_item p s (AGlobal d)) is gs h)

  function_named : (names : List (List ℕ)) (s : Sight) (f g : Function) → IsFunctionKept s f g → FunctionNamed names f → FunctionNamed names g
  function_named names s f g h n = record {
    name = subst (λ x. IsName (name_at names x)) (sym (same_name f g h.other)) n.name;
    params = subst (λ (x : Function). AreNamedParameters names x.params) (sym h.other.is) n.params;
    body = subst (AreNamed names) (sym h.body.declares) n.body;
  }

  function_read : (p : TranslationUnit) (s : Sight) (f g : Function) → SeesValues s → IsFunctionKept (with_function p s f) f g → FunctionRead AreReadAsserts AreReadLoopClauses f → FunctionRead AreAsserts AreLoopClauses g
  function_read p s f g k h r = record {
    body = h.body.read (values_in_body (with_parameters (inner (known_at f.place (with_function p s f))) f.params) (after_parameters (inner (known_at f.place (with_function p s f))) f.params k)) r.body;
  }

  -- of functions that are named, read, their annotations being so, and of which each full expression is P
  record AreForms (AreSo AreLoops : List Annotation → Type 0) (names : List (List ℕ)) (fs : List Function) : Type 0 where
    named : FunctionsNamed names fs
    read : FunctionsRead AreSo AreLoops fs
    each : EachInFunctions P fs

  forms_kept : (names : List (List ℕ)) (p : TranslationUnit) (s : Sight) (is : List FileItem) (gs : List Function) → AreKept p s is gs → FileSeesValues p s is → AreForms AreReadAsserts AreReadLoopClauses names (functions_among is)
      → AreForms AreAsserts AreLoopClauses names gs
  forms_kept names p s [] [] h k r = record { named = tt; read = tt; each = tt }
  forms_kept names p s [] (g ∷ gs) h k r = absurd h
  forms_kept names p s (AFunction f ∷ is) [] h k r = absurd h
  forms_kept names p s (AFunction f ∷ is) (g ∷ gs) h k r =
      let rest = forms_kept names p (behind_item p s (AFunction f)) is gs h.1 k.1 (record { named = r.named.1; read = r.read.1; each = r.each.1 }) in
      record {
        named = (function_named names (with_function p s f) f g h.0 r.named.0, rest.named);
        read = (function_read p s f g k.0 h.0 r.read.0, rest.read);
        each = (h.0.body.each r.each.0, rest.each);
      }
  forms_kept names p s (StructHead k x ∷ is) gs h v r = forms_kept names p s is gs h v.1 r
  forms_kept names p s (Member k m ends ∷ is) gs h v r = forms_kept names p s is gs h v.1 r
  forms_kept names p s (AnEnum e ∷ is) gs h v r = forms_kept names p (behind_item p s (AnEnum e)) is gs h v.1 r
  forms_kept names p s (ATypedef d ∷ is) gs h v r = forms_kept names p (behind_item p s (ATypedef d)) is gs h v.1 r
  forms_kept names p s (AGlobal d ∷ is) gs h v r = forms_kept names p (behind_item p s (AGlobal d)) is gs h v.1 r

-- functions whose annotations are typed have other contracts and other bodies, and are the same besides
pub noted_others : (p : TranslationUnit) (s : Sight) (is : List FileItem) → Gives (HaveOtherBodies (functions_among is)) (noted_functions p s is)
noted_others p s is = by (noted_functions p s is) (functions_kept (λ (e : Expression). Unit {0}) p s is)
  where
    by : (c : Checked (List Function)) → Gives (AreKept (λ (e : Expression). Unit {0}) p s is) c → Gives (HaveOtherBodies (functions_among is)) c
    by (Good gs) h = bodies_of (λ (e : Expression). Unit {0}) p s is gs h
    by (Bad x xs) h = tt

-- ---- declarations of one name, and `main`

same_fit : (b c f g : Function) → HasOtherBody b c → HasOtherBody f g → is_compatible c g ≡ is_compatible b f
same_fit b c f g h k =
    ap (λ c. is_compatible c g) h.is
    ∙ ap (is_compatible (record b { contract = h.contract; body = h.body })) k.is
    ∙ ap (λ d. cond (nat_eq b.name f.name) (same_signature b f && not (d && is_there k.body)) true) h.there
    ∙ ap (λ d. cond (nat_eq b.name f.name) (same_signature b f && not (is_definition b && d)) true) k.there

same_fits : (bs cs : List Function) (f g : Function) → HaveOtherBodies bs cs → HasOtherBody f g → is_compatible_with_all cs g ≡ is_compatible_with_all bs f
same_fits [] [] f g h k = refl
same_fits [] (c ∷ cs) f g h k = absurd h
same_fits (b ∷ bs) [] f g h k = absurd h
same_fits (b ∷ bs) (c ∷ cs) f g h k = ap (λ t. t && is_compatible_with_all cs g) (same_fit b c f g h.0 k) ∙ ap (λ t. is_compatible b f && t) (same_fits bs cs f g h.1 k)

one_more : (bs cs : List Function) (f g : Function) → HaveOtherBodies bs cs → HasOtherBody f g → HaveOtherBodies (bs ++ f ∷ []) (cs ++ g ∷ [])
one_more [] [] f g h k = (k, tt)
one_more [] (c ∷ cs) f g h k = absurd h
one_more (b ∷ bs) [] f g h k = absurd h
one_more (b ∷ bs) (c ∷ cs) f g h k = (h.0, one_more bs cs f g h.1 k)

same_compatible : (bs cs fs gs : List Function) → HaveOtherBodies bs cs → HaveOtherBodies fs gs → AreCompatible bs fs → AreCompatible cs gs
same_compatible bs cs [] [] h k a = tt
same_compatible bs cs [] (g ∷ gs) h k a = absurd k
same_compatible bs cs (f ∷ fs) [] h k a = absurd k
same_compatible bs cs (f ∷ fs) (g ∷ gs) h k a = (same_fits bs cs f g h k.0 ∙ a.0, same_compatible (bs ++ f ∷ []) (cs ++ g ∷ []) fs gs (one_more bs cs f g h k.0) k.1 a.1)

same_length : (fs gs : List Function) → HaveOtherBodies fs gs → length gs ≡ length fs
same_length [] [] h = refl
same_length [] (g ∷ gs) h = absurd h
same_length (f ∷ fs) [] h = absurd h
same_length (f ∷ fs) (g ∷ gs) h = ap suc (same_length fs gs h.1)

same_main : (names : List (List ℕ)) (fs gs : List Function) → HaveOtherBodies fs gs → main_fault names gs ≡ main_fault names fs
same_main names [] [] h = refl
same_main names [] (g ∷ gs) h = absurd h
same_main names (f ∷ fs) [] h = absurd h
same_main names (f ∷ fs) (g ∷ gs) h =
    ap (λ (x : Function). main_fault names (x ∷ gs)) h.0.is
    ∙ ap (λ d. cond (d && bytes_eq (name_at names f.name) (codes "main")) (cond (same_type f.result int_type && has_no_parameters f.params) None (Some (no_main f.place))) (main_fault names gs)) h.0.there
    ∙ ap (cond (is_definition f && bytes_eq (name_at names f.name) (codes "main")) (cond (same_type f.result int_type && has_no_parameters f.params) None (Some (no_main f.place)))) (same_main names fs gs h.1)

-- ---- programs

-- what is known of a typed file
pub record IsTypedFile (P : Expression → Type 0) (q : TranslationUnit) : Type 0 where
  pub typed : ProgramTyped q
  pub values : FileSeesValues q (sight_with q q.structs) (items_of_file q)
  pub compatible : AreCompatible [] q.funcs
  pub globals : globals_among (items_of_file q) ≡ q.globals
  pub functions : functions_among (items_of_file q) ≡ q.funcs
  pub numbered : Between 0 (numbers_of_items (items_of_file q)) 4294967295
  pub named : FunctionsNamed q.names q.funcs
  pub effects : FunctionsRead AreReadAsserts AreReadLoopClauses q.funcs
  pub contracts : ContractsFormed IsShortReading q.funcs
  pub each : EachInFunctions P q.funcs
  pub few : length q.funcs < 2 ^ 32
  pub main : main_fault q.names q.funcs ≡ None

-- what is known of it once its asserts are typed
pub record IsNotedFile (P : Expression → Type 0) (q r : TranslationUnit) : Type 0 where
  pub is : r ≡ record q { funcs = r.funcs }
  pub typed : ProgramTyped r
  pub noted : FileNoted r (sight_with r r.structs) (items_of_file r)
  pub contracts_noted : ContractsNoted r
  pub resolved : FileResolved r (sight_with r r.structs) (items_of_file r)
  pub functions : functions_among (items_of_file r) ≡ r.funcs
  pub numbered : Between 0 (numbers_of_items (items_of_file r)) 4294967295
  pub named : FunctionsNamed r.names r.funcs
  pub effects : FunctionsRead AreAsserts AreLoopClauses r.funcs
  pub contracts : ContractsFormed IsShortClause r.funcs
  pub each : EachInFunctions P r.funcs
  pub few : length r.funcs < 2 ^ 32
  pub main : main_fault r.names r.funcs ≡ None

module _ (P : Expression → Type 0) (q : TranslationUnit) (t : IsTypedFile P q) where
  with_asserts : (fs : List Function) → AreKept P q (sight_with q q.structs) (items_of_file q) fs → ContractsFormed IsShortClause fs → ContractsNoted (record q { funcs = fs }) → IsNotedFile P q (record q { funcs = fs })
  with_asserts fs h formed stand = record {
    is = refl;
    typed = whole;
    contracts_noted = stand;
    noted = subst (FileNoted r sight) (sym items) (asserts_typed P q fs bodies sight (items_of_file q) fs h (subst (FunctionsRead AreReadAsserts AreReadLoopClauses) (sym t.functions) t.effects));
    resolved = file_resolved r whole (same_compatible [] [] q.funcs fs tt bodies t.compatible) numbers among;
    functions = among;
    numbered = numbers;
    named = forms.named;
    effects = forms.read;
    contracts = formed;
    each = forms.each;
    few = subst (λ n. n < 2 ^ 32) (sym (same_length q.funcs fs bodies)) t.few;
    main = same_main q.names q.funcs fs bodies ∙ t.main;
  }
    where
      r : TranslationUnit
      r = record q { funcs = fs }

      sight : Sight
      sight = sight_with q q.structs

      bodies_among : HaveOtherBodies (functions_among (items_of_file q)) fs
      bodies_among = bodies_of P q sight (items_of_file q) fs h

      bodies : HaveOtherBodies q.funcs fs
      bodies = subst (λ l. HaveOtherBodies l fs) t.functions bodies_among

      items : items_of_file r ≡ with_functions (items_of_file q) fs
      items = items_with q fs bodies (subst (λ l. Between 0 (offsets_of l) 4294967295) t.functions (offsets_between 0 (items_of_file q) 4294967295 t.numbered))

      whole : ProgramTyped r
      whole = record { structs = t.typed.structs; items = subst (ItemsTyped r sight) (sym items) (items_typed P q fs bodies sight (items_of_file q) fs h t.typed.items) }

      among : functions_among (items_of_file r) ≡ fs
      among = ap functions_among items ∙ among_with (items_of_file q) fs bodies_among

      numbers : Between 0 (numbers_of_items (items_of_file r)) 4294967295
      numbers = subst (λ ns. Between 0 ns 4294967295) (sym (ap numbers_of_items items ∙ items_numbers P q sight (items_of_file q) fs h)) t.numbered

      forms : AreForms P AreAsserts AreLoopClauses q.names fs
      forms = forms_kept P q.names q sight (items_of_file q) fs h t.values (subst (AreForms P AreReadAsserts AreReadLoopClauses q.names) (sym t.functions) (record { named = t.named; read = t.effects; each = t.each }))

-- a typed file stays one when its annotations are typed
pub noted_file : (P : Expression → Type 0) (q r : TranslationUnit) → noted_unit q ≡ Good r → IsTypedFile P q → IsNotedFile P q r
noted_file P q r is t = gives_of (IsNotedFile P q) (noted_unit q) r (by (noted_functions q sight (items_of_file q)) (functions_kept P q sight (items_of_file q)) formed before) is
  where
    sight : Sight
    sight = sight_with q q.structs

    formed : Gives (ContractsFormed IsShortClause) (noted_functions q sight (items_of_file q))
    formed = functions_formed q sight (items_of_file q) t.values (subst (ContractsFormed IsShortReading) (sym t.functions) t.contracts)

    -- at the beginning of the file nothing is in sight
    before : Gives (AreBefore q) (noted_functions q sight (items_of_file q))
    before = contracts_before q sight (items_of_file q) (λ x b e. absurd cc) (subst (AreGlobals q) (sym t.globals) (own_globals q)) (subst (ContractsFormed IsShortReading) (sym t.functions) t.contracts)

    by : (c : Checked (List Function)) → Gives (AreKept P q sight (items_of_file q)) c → Gives (ContractsFormed IsShortClause) c → Gives (AreBefore q) c → Gives (IsNotedFile P q) (one_part c (λ fs. Good (record q { funcs = with_contracts fs })))
    by (Good fs) w v b =
        let bodies = subst (λ l. HaveOtherBodies l fs) t.functions (bodies_of P q sight (items_of_file q) fs w) in
        with_asserts P q t (with_contracts fs) (contracts_moved P fs q sight (items_of_file q) fs w) (all_moved fs v fs v) (contracts_noted q fs bodies (same_compatible [] [] q.funcs fs tt bodies t.compatible) b)
    by (Bad x xs) w v b = tt
