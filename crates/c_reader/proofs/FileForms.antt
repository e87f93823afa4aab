-- What is read of a file: its functions are formed, what it declares has names of C, and the places of all that it declares are apart and in order.
use Rattle.std.proofs.Common.{◌≡◌, ℕ, suc, ◌+◌, ◌-◌, ◌<◌, ◌≤◌, slice_set, List, [], ◌∷◌, ◌++◌, map, Option, Some, None, Bool, true, false, refl, sym, ap, subst, ◌∙◌, arith}
use Rattle.std.proofs.lemmas.List.{map-append}
use Rattle.std.specs.List.{AllByRecursion}
use Rattle.c_syntax.specs.declared.place.Place.{Place}
use Rattle.c_syntax.specs.Ctypes.{PlainType}
use Rattle.c_syntax.specs.Statements.{Declaration, Block, BlockItem}
use Rattle.c_syntax.specs.Programs.{FunctionContract, Function, StringLiteral, TranslationUnit}
use Rattle.c_model.specs.declared.declarations.AnnotationState.{AnnotationState}
use Rattle.c_model.specs.declared.declarations.Storage.{Storage}
use Rattle.c_model.specs.declared.declarations.Storage.TheVariants as storage
use Rattle.c_model.specs.Vocabulary.{Vocabulary, word_at, declared_word}
use Rattle.c_model.specs.Punctuators.{semicolon, comma, left_paren, left_brace, right_brace}
use Rattle.c_model.specs.ClauseGrammar.{ReadAnnotation, Assertions, Contracted, Looped}
use Rattle.c_model.specs.ExpressionGrammar.{annot_open_kind, mark_kind, kind, mark, pointers, most_nested}
use Rattle.c_model.specs.DeclarationGrammar.{Declarator, Definitions, names_function, ended, declared_by, nameless}
use Rattle.c_model.specs.ProgramGrammar.{FileParts, no_parts, with_typedef, with_nameless, block_items, function_with, has_contract, taken, contract_taken, after_contract, awaiting_nothing, after_placed, after_misplaced, without, unit_with}
use Rattle.c_model.specs.ProgramGrammar.{function_rest, function, globals, behind_declarator, declared_at_file}
use Rattle.c_model.specs.ProgramGrammar.{next_typedef, more_typedefs, typedefs, behind_spec, next_stray, strays, declared_external, external, any_kind, more_external, unit}
use Rattle.c_model.specs.FormedContracts.{MaybeFormed}
use Rattle.c_model.specs.Formed.{AreReadAsserts, AreReadLoopClauses, IsShortReading, declared_in_body, declared_in_items, number_of, numbers_of}
use Rattle.c_model.specs.FullExpressions.{EachInBody}
use Rattle.c_model.specs.PlacedForms.{contract_at, body_at, functions_at}
use Rattle.c_model.specs.UnitTyping.{AFunction}
use Rattle.c_model.specs.ReadTree.{Between, FunctionRead}
use Rattle.c_reader.proofs.ClauseForms.{IsReadAnnotation, annotations_each}
use Rattle.c_reader.proofs.Places.{Within, within_none, within_two, within_fewer, within_wider}
use Rattle.c_reader.proofs.FormPlaces.{annotation_at, annotations_from}
use Rattle.c_reader.proofs.PlacedReadings.{From, from_gives, from_then, from_choice, from_cond, from_any, from_each, from_both, from_many, between_lower, between_higher, between_joined, IsPlaceWithin, fixed_from}
use Rattle.c_reader.proofs.ExpressionForms.{IsFormed}
use Rattle.c_reader.proofs.Covers.{held, IsApart, apart_held, apart_higher, apart_more, apart_same}
use Rattle.c_reader.proofs.ItemOrder.{behind_between, between_on, end_of_item}
use Rattle.c_reader.proofs.DeclarationForms.{IsLater, later_typedef, IsNewName, IsNameWithin, name_wider, dtor_from, all_joined, declares_none, AreDeclarators, declarators_joined, declarators_higher, AreMore, initialised_from, more_from}
use Rattle.c_reader.proofs.StatementForms.{items_placed, items_short, items_deep, AreItems, items_from, statement_in_from, inside_in_from}
use Rattle.c_reader.proofs.StructForms.{definitions_cover, AreDefinitions, definitions_higher, AreAdded, spec_from}
use Rattle.c_reader.proofs.ParameterForms.{HasNoInitialiser, IsNamed, AreParameters, parameters_from}

-- ---- how many things of a file stand over an offset

abbrev pub declared_cover : ℕ → List Declaration → ℕ
declared_cover o [] = 0
declared_cover o (d ∷ ds) = held o d.place.offset (suc d.place.offset) + declared_cover o ds

abbrev pub functions_cover : ℕ → List Function → ℕ
functions_cover o [] = 0
functions_cover o (f ∷ fs) = held o f.place.offset (end_of_item (AFunction f)) + functions_cover o fs

abbrev pub others_cover : FileParts → ℕ → ℕ
others_cover x o = declared_cover o x.typedefs + (declared_cover o x.globals + functions_cover o x.functions)

abbrev pub parts_cover : FileParts → ℕ → ℕ
parts_cover x o = others_cover x o + definitions_cover x.definitions o

declared_joined : (o : ℕ) (ds es : List Declaration) → declared_cover o (ds ++ es) ≡ declared_cover o ds + declared_cover o es
declared_joined o [] es = omega arith
declared_joined o (d ∷ ds) es = let e = declared_joined o ds es in omega (arith, e)

functions_behind : (o : ℕ) (fs : List Function) (f : Function) → functions_cover o (fs ++ f ∷ []) ≡ held o f.place.offset (end_of_item (AFunction f)) + functions_cover o fs
functions_behind o [] f = omega arith
functions_behind o (g ∷ fs) f = let e = functions_behind o fs f in omega (arith, e)

-- declarations behind all others
declared_apart : (l n : ℕ) (ds : List Declaration) (c : ℕ → ℕ) → Between l (map number_of ds) n → IsApart l c → IsApart n (λ o. declared_cover o ds + c o)
declared_apart l n [] c h a = apart_same n c (λ o. 0 + c o) (λ o. omega arith) (apart_higher l n c h a)
declared_apart l n (d ∷ ds) c h a =
    let at = d.place.offset in
    let first = apart_held l (suc at) at (suc at) c h.0 (omega arith) (omega arith) a in
    apart_same n (λ o. declared_cover o ds + (held o at (suc at) + c o)) (λ o. declared_cover o (d ∷ ds) + c o) (λ o. omega arith)
    (declared_apart (suc at) n ds (λ o. held o at (suc at) + c o) h.1 first)

abbrev pub offset_of_function : Function → ℕ
offset_of_function f = f.place.offset

module _ (size : ℕ) (old : Vocabulary) where
  -- ---- functions

  -- what a function declares: names of C
  pub record DeclaresNames (f : Function) : Type 0 where
    pub name : IsNewName size old f.name
    pub params : AllByRecursion (IsNamed size old) f.params
    pub body : AllByRecursion (λ (d : Declaration). IsNewName size old d.name) (declared_in_body f.body)

  pub record IsFunction (n : ℕ) (f : Function) : Type 0 where
    pub read : FunctionRead AreReadAsserts AreReadLoopClauses f
    pub contract : MaybeFormed IsShortReading f.contract
    pub short : EachInBody IsFormed f.body
    pub declares : DeclaresNames f
    pub bare : AllByRecursion HasNoInitialiser f.params
    pub numbers : Between f.place.offset (numbers_of f) n

  -- a function that begins at the offset l or behind
  record IsFunctionFrom (l n : ℕ) (f : Function) : Type 0 where
    is : IsFunction n f
    from : l ≤ f.place.offset

  -- one with this contract, whose body stands from the offset m on
  record IsFunctionRead (l m n : ℕ) (o : Option FunctionContract) (f : Function) : Type 0 where
    function : IsFunctionFrom l n f
    body : Within m n (λ k. body_at k f.body)
    contract : f.contract ≡ o

  numbers_joined : (l m n : ℕ) (ds es : List Declaration) → Between l (map number_of ds) m → Between m (map number_of es) n → Between l (map number_of (ds ++ es)) n
  numbers_joined l m n ds es p q = subst (λ is. Between l is n) (sym (map-append number_of ds es)) (between_joined l m n (map number_of ds) (map number_of es) p q)

  prototype_is : (l k m n : ℕ) (t : PlainType) (f : ℕ × Place) (ds : List Declaration) (o : Option FunctionContract) (at : Place) → MaybeFormed IsShortReading o → IsNameWithin size old l k f → AreParameters size old k m ds → m ≤ n
      → IsFunctionFrom l n (function_with t f ds o None at)
  prototype_is l k m n t f ds o at c p h le = record {
    is = record {
      read = record { body = tt };
      contract = c;
      short = tt;
      declares = record { name = p.new; params = h.named; body = tt };
      bare = h.bare;
      numbers = (omega arith, numbers_joined (suc f.1.offset) m n ds [] (between_lower (suc f.1.offset) k (map number_of ds) m (omega (arith, p.to)) h.numbers) le);
    };
    from = p.from;
  }

  definition_is : (l k m i n : ℕ) (t : PlainType) (f : ℕ × Place) (ds : List Declaration) (o : Option FunctionContract) (start close : Place) (x : List BlockItem × AnnotationState) → MaybeFormed IsShortReading o
      → IsNameWithin size old l k f → AreParameters size old k m ds → m ≤ i
      → AreItems size old most_nested i n x → IsFunctionFrom l n (function_with t f ds o (Some (Block start (block_items x.0))) close)
  definition_is l k m i n t f ds o start close x c p h le b =
      let body = declared_in_items (block_items x.0) in
      record {
        is = record {
          read = record { body = (items_placed most_nested x.0 b.are, omega (arith, items_deep most_nested x.0 b.are)) };
          contract = c;
          short = items_short most_nested x.0 b.are;
          declares = record { name = p.new; params = h.named; body = b.declares.names };
          bare = h.bare;
          numbers = (
            omega arith,
            numbers_joined (suc f.1.offset) m n ds body (between_lower (suc f.1.offset) k (map number_of ds) m (omega (arith, p.to)) h.numbers) (between_lower m i (map number_of body) n le b.declares.numbers),
          );
        };
        from = p.from;
      }

  function_higher : (m n : ℕ) (f : Function) → m ≤ n → IsFunction m f → IsFunction n f
  function_higher m n f le p = record { read = p.read; contract = p.contract; short = p.short; declares = p.declares; bare = p.bare; numbers = between_higher f.place.offset m n (numbers_of f) le p.numbers }

  functions_higher : (m n : ℕ) (fs : List Function) → m ≤ n → AllByRecursion (IsFunction m) fs → AllByRecursion (IsFunction n) fs
  functions_higher m n [] le h = tt
  functions_higher m n (f ∷ fs) le h = (function_higher m n f le h.0, functions_higher m n fs le h.1)

  -- ---- what is read of a text so far

  pub record IsFile (n : ℕ) (x : FileParts) : Type 0 where
    pub later : IsLater old x.words
    pub definitions : AreDefinitions n x.definitions
    pub typedefs : Between 0 (map number_of x.typedefs) n
    pub globals : AreDeclarators size old 0 n x.globals
    pub functions : AllByRecursion (IsFunction n) x.functions
    pub ascend : Between 0 (map offset_of_function x.functions) n
    pub apart : IsApart n (parts_cover x)
    pub awaiting : MaybeFormed IsShortReading x.awaiting
    pub annots : Within 0 n (λ o. functions_at o x.functions + contract_at o x.awaiting)

  file_higher : (m n : ℕ) (x : FileParts) → m ≤ n → IsFile m x → IsFile n x
  file_higher m n x le h = record {
    later = h.later;
    definitions = definitions_higher m n x.definitions le h.definitions;
    typedefs = between_higher 0 m n (map number_of x.typedefs) le h.typedefs;
    globals = declarators_higher size old 0 m n x.globals le h.globals;
    functions = functions_higher m n x.functions le h.functions;
    ascend = between_higher 0 m n (map offset_of_function x.functions) le h.ascend;
    apart = apart_higher m n (parts_cover x) le h.apart;
    awaiting = h.awaiting;
    annots = within_wider 0 n (omega arith) le h.annots;
  }

  -- with one more function
  annotated_behind : (o : ℕ) (fs : List Function) (f : Function) → functions_at o (fs ++ f ∷ []) ≡ functions_at o fs + (contract_at o f.contract + body_at o f.body)
  annotated_behind o [] f = omega arith
  annotated_behind o (g ∷ fs) f = let e = annotated_behind o fs f in omega (arith, e)

  with_function_is : (m l n : ℕ) (x : FileParts) (f : Function) (state : AnnotationState) → m ≤ l → IsFile m x → IsFunctionFrom l n f → Within l n (λ o. body_at o f.body) → ((o : ℕ) → contract_at o f.contract ≤ contract_at o x.awaiting)
      → IsFile n (record x { functions = x.functions ++ f ∷ []; annotations = state; awaiting = None })
  with_function_is m l n x f state le h p body fewer =
      let end = behind_between f.place.offset n (numbers_of f) p.is.numbers in
      let first = between_on f.place.offset (end_of_item (AFunction f)) (numbers_of f) end.0 in
      let on = between_on f.place.offset n (numbers_of f) p.is.numbers in
      let next = between_on (suc f.place.offset) n (map number_of (f.params ++ declared_in_body f.body)) p.is.numbers.1 in
      let higher = file_higher m n x (omega (arith, le, p.from, on)) h in
      record {
        later = h.later;
        definitions = higher.definitions;
        typedefs = higher.typedefs;
        globals = higher.globals;
        functions = all_joined (IsFunction n) x.functions (f ∷ []) higher.functions (p.is, tt);
        ascend = subst (λ is. Between 0 is n) (sym (map-append offset_of_function x.functions (f ∷ [])))
            (between_joined 0 m n (map offset_of_function x.functions) (f.place.offset ∷ []) h.ascend (omega (arith, le, p.from), next));
        apart = apart_same n (λ o. held o f.place.offset (end_of_item (AFunction f)) + parts_cover x o) (parts_cover (record x { functions = x.functions ++ f ∷ []; annotations = state; awaiting = None }))
            (λ o. (let e = functions_behind o x.functions f in omega (arith, e)))
            (apart_held m n f.place.offset (end_of_item (AFunction f)) (parts_cover x) (omega (arith, le, p.from)) first end.1 h.apart);
        awaiting = tt;
        annots = within_fewer (within_two 0 l n (λ o. functions_at o x.functions + contract_at o x.awaiting) (λ o. body_at o f.body) (within_wider 0 l (omega arith) le h.annots) body)
            (λ o. (let e = annotated_behind o x.functions f in let k = fewer o in omega (arith, e, k)));
      }

  with_globals_is : (m n : ℕ) (x : FileParts) (gs : List Declaration) → IsFile m x → AreMore size old x.globals m n gs → IsFile n (record x { globals = gs })
  with_globals_is m n x gs h p =
      let on = between_on m n (map number_of p.new) p.are.declares.numbers in
      let higher = file_higher m n x on h in
      record {
        later = h.later;
        definitions = higher.definitions;
        typedefs = higher.typedefs;
        globals = subst (λ (ds : List Declaration). AreDeclarators size old 0 n ds) (sym p.is) (declarators_joined size old 0 m n x.globals p.new h.globals p.are);
        functions = higher.functions;
        ascend = higher.ascend;
        apart = apart_same n (λ o. declared_cover o p.new + parts_cover x o) (parts_cover (record x { globals = gs }))
            (λ o. (let e = ap (declared_cover o) p.is ∙ declared_joined o x.globals p.new in omega (arith, e)))
            (declared_apart m n p.new (parts_cover x) p.are.declares.numbers h.apart);
        awaiting = h.awaiting;
        annots = higher.annots;
      }

  -- one more name of a type, or declaration without declarators
  one_more_type : (ws : Vocabulary) (m n : ℕ) (x : FileParts) (new : Declaration) → IsLater old ws → IsFile m x → m ≤ new.place.offset → new.place.offset < n
      → IsFile n (record x { words = ws; typedefs = x.typedefs ++ new ∷ [] })
  one_more_type ws m n x new later h from to =
      let numbers : Between m (map number_of (new ∷ [])) n = (from, to) in
      let higher = file_higher m n x (omega (arith, from, to)) h in
      record {
        later = later;
        definitions = higher.definitions;
        typedefs = subst (λ is. Between 0 is n) (sym (map-append number_of x.typedefs (new ∷ []))) (between_joined 0 m n (map number_of x.typedefs) (map number_of (new ∷ [])) h.typedefs numbers);
        globals = higher.globals;
        functions = higher.functions;
        ascend = higher.ascend;
        apart = apart_same n (λ o. declared_cover o (new ∷ []) + parts_cover x o) (parts_cover (record x { words = ws; typedefs = x.typedefs ++ new ∷ [] }))
            (λ o. (let e = declared_joined o x.typedefs (new ∷ []) in omega (arith, e)))
            (declared_apart m n (new ∷ []) (parts_cover x) numbers h.apart);
        awaiting = h.awaiting;
        annots = higher.annots;
      }

  typedef_is : (t : PlainType) (m n : ℕ) (x : FileParts) (d : Declarator) → IsFile m x → IsNameWithin size old m n (d.name, d.place) → IsFile n (with_typedef t x d)
  typedef_is t m n x d h p =
      one_more_type (slice_set x.words d.name (declared_word (word_at x.words d.name))) m n x (declared_by t d None) (later_typedef old x.words d.name h.later) h p.from p.to

  nameless_is : (t : PlainType) (m n : ℕ) (x : FileParts) (at : Place) → IsFile m x → IsPlaceWithin m n at → IsFile n (with_nameless t x at)
  nameless_is t m n x at h p = one_more_type x.words m n x (nameless t at) h.later h p.from p.to

  with_definitions_is : (m n : ℕ) (x : FileParts) (d : Definitions) → IsFile m x → AreAdded m n x.definitions d → IsFile n (record x { definitions = d })
  with_definitions_is m n x d h p =
      let higher = file_higher m n x p.on h in
      record {
        later = h.later;
        definitions = p.are;
        typedefs = higher.typedefs;
        globals = higher.globals;
        functions = higher.functions;
        ascend = higher.ascend;
        apart = apart_more m m n (others_cover x) (definitions_cover x.definitions) (definitions_cover d) (omega arith) p.on h.apart p.adds;
        awaiting = h.awaiting;
        annots = higher.annots;
      }

  -- ---- productions, where what the words are comes later

  module _ (ws : Vocabulary) (later : IsLater old ws) where
    function_rest_from : (t : PlainType) (f : ℕ × Place) (ds : List Declaration) (o : Option FunctionContract) (c : AnnotationState) (l k m : ℕ) → MaybeFormed IsShortReading o → IsNameWithin size old l k f → AreParameters size old k m ds
        → From size m (function_rest ws t f ds o c) (λ n x. IsFunctionRead l m n o x.0)
    unfolding function_rest
    function_rest_from t f ds o c l k m formed p h =
        from_choice (kind ws) (mark_kind semicolon ∷ [])
        (from_then (from_any (mark ws semicolon)) (λ n at le. from_gives _ (record { function = prototype_is l k m n t f ds o at formed p h le; body = within_none m n le; contract = refl })))
        (from_then (from_any (mark ws left_brace)) (λ i start le.
        from_then (items_from size old ws later most_nested (statement_in_from size old ws later (most_nested - 1)) (inside_in_from size old ws later (most_nested - 1)) i i ([], c)
        (record { are = tt; declares = declares_none size old i i (omega arith); annots = within_none i i (omega arith) })) (λ j x b.
        from_then (from_any (mark ws right_brace)) (λ n close lf.
        from_gives _ (let g = definition_is l k m i j t f ds o start close x formed p h le b in
        record { function = record { is = function_higher j n _ lf g.is; from = g.from }; body = within_wider m n le lf b.annots; contract = refl })))))

    taken_formed : (o : Option FunctionContract) (again : Bool) → MaybeFormed IsShortReading o → MaybeFormed IsShortReading (taken o again)
    taken_formed o true h = tt
    taken_formed o false h = h

    taken_fewer : (o : ℕ) (c : Option FunctionContract) (again : Bool) → contract_at o (taken c again) ≤ contract_at o c
    taken_fewer o c true = omega arith
    taken_fewer o c false = omega arith

    function_from : (t : PlainType) (x : FileParts) (d : Declarator) (l m : ℕ) → IsFile l x → IsNameWithin size old l m (d.name, d.place) → From size m (function ws t x d) IsFile
    unfolding function
    function_from t x d l m h p =
        from_then (from_any (mark ws left_paren)) (λ k _ lf. from_then (parameters_from size old ws later k) (λ i ds q.
        from_then (function_rest_from (pointers d.stars.count t) (d.name, d.place) ds (contract_taken x d.name) (after_contract x d.name) l k i (taken_formed x.awaiting (has_contract d.name x.functions) h.awaiting)
        (name_wider size old l l m k (d.name, d.place) (omega arith) lf p) q) (λ n f g.
        from_gives _ (
        let on = between_on k i (map number_of ds) q.numbers in
        with_function_is l l n x f.0 f.1 (omega arith) h g.function (within_wider l n (omega (arith, p.from, p.to, lf, on)) (omega arith) g.body)
        (λ o. subst (λ c. contract_at o c ≤ contract_at o x.awaiting) (sym g.contract) (taken_fewer o x.awaiting (has_contract d.name x.functions)))))))

    globals_from : (t : PlainType) (x : FileParts) (d : Declarator) (l m : ℕ) → IsFile l x → IsNameWithin size old l m (d.name, d.place) → From size m (globals ws t x d) IsFile
    unfolding globals
    globals_from t x d l m h p =
        from_then (initialised_from size old ws later t d l m p) (λ i g q. from_then (more_from size old ws later t x.globals l i (x.globals ++ g ∷ []) (record { new = g ∷ []; is = refl; are = q })) (λ n gs r.
        from_gives _ (with_globals_is l n x gs h r)))

    behind_from : (t : PlainType) (x : FileParts) (d : Declarator) (l m : ℕ) → IsFile l x → IsNameWithin size old l m (d.name, d.place) → From size m (behind_declarator ws t x d) IsFile
    unfolding behind_declarator
    behind_from t x d l m h p =
        from_cond (names_function d)
        (λ _. from_choice (kind ws) (mark_kind left_paren ∷ []) (function_from t x d l m h p) (globals_from t x d l m h p))
        (λ _. globals_from t x d l m h p)

    at_file_from : (t : PlainType) (x : FileParts) (l : ℕ) → IsFile l x → From size l (declared_at_file ws t x) IsFile
    unfolding declared_at_file
    at_file_from t x l h =
        from_choice (kind ws) (mark_kind semicolon ∷ [])
        (from_then (fixed_from ws (mark_kind semicolon) l) (λ n at p. from_gives _ (nameless_is t l n x at h p)))
        (from_then (dtor_from size old ws later l) (λ m d p. behind_from t x d l m h p))

  -- ---- texts

  next_typedef_from : (t : PlainType) (m : ℕ) (x : FileParts) → IsFile m x → From size m (next_typedef t x) IsFile
  unfolding next_typedef
  next_typedef_from t m x h = from_then (from_any (mark x.words comma)) (λ i _ le. from_then (dtor_from size old x.words h.later i) (λ n d p.
      from_gives _ (typedef_is t i n x d (file_higher m i x le h) p)))

  more_typedefs_from : (t : PlainType) (m : ℕ) (x : FileParts) → IsFile m x → From size m (more_typedefs t x) IsFile
  unfolding more_typedefs ended
  more_typedefs_from t m x h =
      from_then (from_many (kind []) (λ _. mark_kind comma ∷ []) {P = IsFile} (λ i y g. next_typedef_from t i y g) m x h) (λ i y g.
      from_then (from_any (mark y.words semicolon)) (λ n _ le. from_gives y (file_higher i n y le g)))

  typedefs_from : (t : PlainType) (m : ℕ) (x : FileParts) → IsFile m x → From size m (typedefs t x) IsFile
  unfolding typedefs
  typedefs_from t m x h = from_then (dtor_from size old x.words h.later m) (λ i d p. more_typedefs_from t i (with_typedef t x d) (typedef_is t m i x d h p))

  behind_spec_from : (s : Storage) (t : PlainType) (m : ℕ) (x : FileParts) → IsFile m x → From size m (behind_spec s t x) IsFile
  behind_spec_from storage.Typedef t m x h = typedefs_from t m x h
  behind_spec_from storage.Static t m x h = at_file_from x.words h.later t x m h
  behind_spec_from storage.Nothing t m x h = at_file_from x.words h.later t x m h

  with_annotations_is : (m n : ℕ) (x : FileParts) (s : AnnotationState) (o : Option FunctionContract) → m ≤ n → MaybeFormed IsShortReading o → Within m n (λ k. contract_at k o) → IsFile m x → IsFile n (record x { annotations = s; awaiting = o })
  with_annotations_is m n x s o le c a h =
      let higher = file_higher m n x le h in
      record {
        later = h.later;
        definitions = higher.definitions;
        typedefs = higher.typedefs;
        globals = higher.globals;
        functions = higher.functions;
        ascend = higher.ascend;
        apart = apart_same n (parts_cover x) (parts_cover (record x { annotations = s; awaiting = o })) (λ o. refl) higher.apart;
        awaiting = c;
        annots = within_two 0 m n (λ k. functions_at k x.functions) (λ k. contract_at k o) (within_fewer h.annots (λ k. omega arith)) a;
      }

  declared_from : (m : ℕ) (x : FileParts) → IsFile m x → From size m (declared_external x) IsFile
  unfolding declared_external
  declared_from m x h = from_then (spec_from size old x.words h.later m x.definitions h.definitions) (λ n s p.
      behind_spec_from s.storage s.ctype n (record x { definitions = s.definitions }) (with_definitions_is m n x s.definitions h p))

  -- the contract that is the last of the annotations before a declaration
  record IsStray (l n : ℕ) (s : AnnotationState × Option FunctionContract) : Type 0 where
    on : l ≤ n
    formed : MaybeFormed IsShortReading s.1
    annots : Within l n (λ o. contract_at o s.1)

  behind_stray : (l n : ℕ) (s : AnnotationState × Option FunctionContract) (y : ReadAnnotation × ℕ) → l ≤ n → IsReadAnnotation y.0 → Within l n (λ o. annotation_at o y.0)
      → IsStray l n (elim y.0 [
        | Assertions asserts ↦ (after_misplaced (without s.0 s.1) y, None)
        | Contracted c ↦ (after_placed (without s.0 s.1) y.1, Some c)
        | Looped o ↦ (after_misplaced (without s.0 s.1) y, None)
      ])
  behind_stray l n s (Assertions a, k) le h g = record { on = le; formed = tt; annots = within_none l n le }
  behind_stray l n s (Contracted c, k) le h g = record { on = le; formed = h; annots = g }
  behind_stray l n s (Looped o, k) le h g = record { on = le; formed = tt; annots = within_none l n le }

  stray_from : (ws : Vocabulary) (l m : ℕ) (s : AnnotationState × Option FunctionContract) → IsStray l m s → From size m (next_stray ws s) (IsStray l)
  unfolding next_stray
  stray_from ws l m s h = from_then (from_both (from_each (annotations_each size ws s.0.number)) (annotations_from size ws s.0.number m)) (λ n y p.
      from_gives _ (behind_stray l n s y (omega (arith, h.on, (p.0).1)) (p.0).2 (within_wider l n h.on (omega arith) p.1)))

  strays_from : (ws : Vocabulary) (l : ℕ) (c : AnnotationState) → From size l (strays ws c) (IsStray l)
  unfolding strays
  strays_from ws l c = from_many (kind ws) (λ _. annot_open_kind ∷ []) {P = IsStray l} (λ m s h. stray_from ws l m s h) l (c, None) (record { on = omega arith; formed = tt; annots = within_none l l (omega arith) })

  external_from : (m : ℕ) (x : FileParts) → IsFile m x → From size m (external x) IsFile
  unfolding external
  external_from m x h = from_then (strays_from x.words m x.annotations) (λ n s p.
      from_then (declared_from n (record x { annotations = s.0; awaiting = s.1 }) (with_annotations_is m n x s.0 s.1 p.on p.formed p.annots h)) (λ k y g.
      from_gives _ (with_annotations_is k k y (awaiting_nothing y).annotations None (omega arith) tt (within_none k k (omega arith)) g)))

  nothing_read : (ws : Vocabulary) → IsLater old ws → IsFile 0 (no_parts ws)
  nothing_read ws later = record {
    later = later;
    definitions = record { structs = tt; enums = tt; ascend = omega arith; apart = record { once = λ o. omega arith; behind = λ o ge. omega arith } };
    typedefs = omega arith;
    globals = record { declares = declares_none size old 0 0 (omega arith); short = tt };
    functions = tt;
    ascend = omega arith;
    apart = record { once = λ o. omega arith; behind = λ o ge. omega arith };
    awaiting = tt;
    annots = within_none 0 0 (omega arith);
  }

-- what is known of a text that is read
pub record IsReadUnit (size : ℕ) (ws : Vocabulary) (names : List (List ℕ)) (texts : List StringLiteral) (n : ℕ) (p : TranslationUnit) : Type 0 where
  pub parts : FileParts
  pub is : p ≡ unit_with names texts parts
  pub file : IsFile size ws n parts

pub unit_from : (size : ℕ) (ws : Vocabulary) (names : List (List ℕ)) (texts : List StringLiteral) → From size 0 (unit ws names texts) (λ n x. IsReadUnit size ws names texts n x.0)
unfolding unit more_external
unit_from size ws names texts =
    from_then (from_many any_kind (λ _. 0 ∷ []) {P = IsFile size ws} (λ m x h. external_from size ws m x h) 0 (no_parts ws) (nothing_read size ws ws (λ n e. e))) (λ n x h.
    from_gives _ (record { parts = x; is = refl; file = h }))
