-- The table of registers while a function is translated: registers are only added, and each declaration that is bound has a register that points.
use Rattle.std.proofs.Common.{◌≡◌, ℕ, suc, Bool, true, false, nat_eq, List, [], ◌∷◌, ◌++◌, length, Option, Some, None, slice_get, refl, sym, ap, ◌∙◌, subst, arith, append_assoc}
use Rattle.std.proofs.lemmas.List.{append-nil, length-append}
use Rattle.std.proofs.lemmas.Bool.Decides.{nat_tests}
use Rattle.c_syntax.specs.Statements.{Declaration, Statement, Empty, Eval, Block, If, While, Do, For, Break, Continue, Return, ElsePart, NoElse, Else, ForFirst, NoFirst, First, BlockItem, Declare, Specify, Run, Asserts, BlockItems, NoItem, Then}
use Rattle.c_syntax.specs.Statements.{Labelled, Switch, Cases, NoCase, AnotherCase}
use Rattle.c_syntax.specs.Expressions.{Expression}
use Rattle.c_syntax.specs.Logic.{LogicTerm, ClauseBody, Raw, Holds, Value, Behaviors, Annotation}
use Rattle.c_syntax.specs.Programs.{TranslationUnit}
use Rattle.c_model.specs.Meaning.{declared_in, declared_first}
use Rattle.c_model.specs.Formed.{number_of}
use Rattle.c_model.specs.Predicates.{variant}
use Rattle.mon_syntax.specs.declared.tree.MonType.TheVariants.{Ptr}
use Rattle.mon_syntax.specs.Registers.{Bindings, RegisterTable, with_kinds, bound_with}
use Rattle.mon_syntax.specs.Valid.{Types}
use Rattle.track_scopes.specs.Blocks.{with_pointer, entered, with_born}
use Rattle.c_initialisers.specs.Translation.{declaration_temporaries}
use Rattle.c_effects.specs.Effects.{any_temporaries}
use Rattle.c_effects.specs.Full.{act_takes, takes}
use Rattle.annot_simulation.specs.Code.{behind_assertion, behind_assertions, valuation}
use Rattle.annot_simulation.specs.Snapshots.{behind_snapshot}
use Rattle.annot_simulation.proofs.Asserted.{assertion_begins, behind_begins, valuation_begins}
use Rattle.annot_simulation.proofs.CheckPrefixes.{snapshot_begins}
use Rattle.c_simulation.specs.Keeping.{Kept}
use Rattle.instrument.specs.LoopClauses.{behind_invariant, behind_invariants, behind_variant}
use Rattle.instrument.specs.Translation.{after_invariants, before_body, after_turn, returned_temporaries, switch_temporaries, after_statement, after_cases, after_else, after_first, after_item, after_items, passed_label}
use Rattle.mon_syntax.specs.Registers.{register_of}
use Rattle.annot_simulation.specs.Validity.{Begins}
use Rattle.instrument.proofs.Typed.{begins_front, register_at, HasPointer, Aim, has_aim, aim_has}
use Rattle.c_simulation.proofs.Registers.{register_of-bound_same, register_of-bound_other}

-- ---- registers are only added

pub begins_itself : (ts : Types) → Begins ts ts
begins_itself ts = record { rest = []; is = sym (append-nil ts) }

pub begins_then : (a b c : Types) → Begins a b → Begins b c → Begins a c
begins_then a b c h k = record { rest = h.rest ++ k.rest; is = k.is ∙ ap (λ l. l ++ k.rest) h.is ∙ append_assoc a h.rest k.rest }

begins_added : (a b : Types) → Begins a (a ++ b)
begins_added a b = record { rest = b; is = refl }

behind_asserts : (p : TranslationUnit) (bound : Bindings) (plan : List Kept) (rs : Types) (l : List Annotation) → Begins rs (behind_assertions p bound plan [] rs l)
behind_asserts p bound plan rs l =
    let all = behind_assertions p bound plan [] rs l in
    behind_begins all p bound plan [] rs l (record { rest = []; is = sym (append-nil all) })

pub label_begins : (p : TranslationUnit) (plan : List Kept) (l : Option ℕ) (r : RegisterTable) → Begins r.kinds (passed_label p plan l r).kinds
label_begins p plan l r = let all = behind_snapshot p r.bound l r.kinds plan in snapshot_begins all p r.bound l plan r.kinds (begins_itself all)

pub entered_begins : (ds : List Declaration) (r : RegisterTable) → Begins r.kinds (entered ds r).kinds
entered_begins [] r = begins_itself r.kinds
entered_begins (d ∷ ds) r = begins_then r.kinds (r.kinds ++ Ptr ∷ []) (entered ds (with_pointer d r)).kinds (begins_added r.kinds (Ptr ∷ [])) (entered_begins ds (with_pointer d r))

-- invariants, and the variant
pub invariants_begin : (p : TranslationUnit) (bound : Bindings) (plan : List Kept) (rs : Types) (annots : List Annotation) → Begins rs (behind_invariants p bound plan rs annots)
invariants_begin p bound plan rs [] = begins_itself rs
invariants_begin p bound plan rs (a ∷ annots) =
    begins_then rs (behind_invariant p bound plan rs a a.body) (behind_invariants p bound plan (behind_invariant p bound plan rs a a.body) annots) (by a.body)
    (invariants_begin p bound plan (behind_invariant p bound plan rs a a.body) annots)
  where
    assertion : Begins rs (behind_assertion p bound plan [] rs a)
    assertion = let all = behind_assertion p bound plan [] rs a in assertion_begins all p bound plan [] rs a (begins_itself all)

    by : (c : ClauseBody) → Begins rs (behind_invariant p bound plan rs a c)
    by (Raw f) = assertion
    by (Holds q) = assertion
    by (Value t) = begins_itself rs
    by (Behaviors names) = assertion

pub variant_begins : (p : TranslationUnit) (bound : Bindings) (plan : List Kept) (rs : Types) (o : Option (Annotation × LogicTerm)) → Begins rs (behind_variant p bound plan rs o)
variant_begins p bound plan rs None = begins_itself rs
variant_begins p bound plan rs (Some v) = let all = (valuation p bound plan [] v.1 rs).used in valuation_begins p bound plan [] v.1 rs all (begins_itself all)

-- the parts of a loop
module _ (p : TranslationUnit) (plan : List Kept) (annots : List Annotation) where
  pub invariants_first : (e : Option Expression) (r : RegisterTable) → Begins (after_invariants p plan annots r).kinds (before_body p plan annots e r).kinds
  invariants_first e r =
      let x = after_invariants p plan annots r in
      let y = with_kinds (any_temporaries (takes p) e) x in
      begins_then x.kinds y.kinds (before_body p plan annots e r).kinds (begins_added x.kinds (any_temporaries (takes p) e)) (variant_begins p r.bound plan y.kinds (variant annots))

  pub condition_first : (e : Option Expression) (r : RegisterTable) → Begins (with_kinds (any_temporaries (takes p) e) (after_invariants p plan annots r)).kinds (before_body p plan annots e r).kinds
  condition_first e r = variant_begins p r.bound plan (with_kinds (any_temporaries (takes p) e) (after_invariants p plan annots r)).kinds (variant annots)

  pub body_begins : (e : Option Expression) (r : RegisterTable) → Begins r.kinds (before_body p plan annots e r).kinds
  body_begins e r =
      begins_then r.kinds (after_invariants p plan annots r).kinds (before_body p plan annots e r).kinds (invariants_begin p r.bound plan r.kinds annots) (invariants_first e r)

  pub step_first : (behind : Option Expression) (r : RegisterTable) → Begins (with_kinds (any_temporaries (act_takes p) behind) r).kinds (after_turn p plan annots behind r).kinds
  step_first behind r = variant_begins p r.bound plan (with_kinds (any_temporaries (act_takes p) behind) r).kinds (variant annots)

  pub turn_begins : (behind : Option Expression) (r : RegisterTable) → Begins r.kinds (after_turn p plan annots behind r).kinds
  turn_begins behind r =
      let x = with_kinds (any_temporaries (act_takes p) behind) r in
      begins_then r.kinds x.kinds (after_turn p plan annots behind r).kinds (begins_added r.kinds (any_temporaries (act_takes p) behind)) (step_first behind r)

mutual
  pub statement_begins : (p : TranslationUnit) (plan : List Kept) (a : Statement) (r : RegisterTable) → Begins r.kinds (after_statement p plan a r).kinds
  statement_begins p plan (Empty at) r = begins_itself r.kinds
  statement_begins p plan (Eval at e) r = begins_added r.kinds (act_takes p e)
  statement_begins p plan (Block at body) r =
      let inside = entered (declared_in body) r in
      begins_then r.kinds inside.kinds (after_items p plan body inside).kinds (entered_begins (declared_in body) r) (items_begin p plan body inside)
  statement_begins p plan (If at e a b) r =
      let x = with_kinds (takes p e) r in
      let y = after_statement p plan a x in
      begins_then r.kinds x.kinds (after_else p plan b y).kinds (begins_added r.kinds (takes p e)) (begins_then x.kinds y.kinds (after_else p plan b y).kinds (statement_begins p plan a x) (else_begins p plan b y))
  statement_begins p plan (While at annots e a) r =
      let x = before_body p plan annots (Some e) r in
      let y = after_statement p plan a x in
      let z = after_turn p plan annots None y in
      begins_then r.kinds x.kinds z.kinds (body_begins p plan annots (Some e) r) (begins_then x.kinds y.kinds z.kinds (statement_begins p plan a x) (turn_begins p plan annots None y))
  statement_begins p plan (Do at a e) r =
      let x = after_statement p plan a r in
      begins_then r.kinds x.kinds (x.kinds ++ takes p e) (statement_begins p plan a r) (begins_added x.kinds (takes p e))
  statement_begins p plan (For at annots first e behind a) r =
      let x = entered (declared_first first) r in
      let y = after_first p plan first x in
      let z = before_body p plan annots e y in
      let w = after_statement p plan a z in
      let v = after_turn p plan annots behind w in
      begins_then r.kinds x.kinds v.kinds (entered_begins (declared_first first) r)
      (begins_then x.kinds y.kinds v.kinds (first_begins p plan first x)
      (begins_then y.kinds z.kinds v.kinds (body_begins p plan annots e y)
      (begins_then z.kinds w.kinds v.kinds (statement_begins p plan a z) (turn_begins p plan annots behind w))))
  statement_begins p plan (Break at) r = begins_itself r.kinds
  statement_begins p plan (Continue at) r = begins_itself r.kinds
  statement_begins p plan (Return at e) r = begins_added r.kinds (any_temporaries (returned_temporaries p) e)
  statement_begins p plan (Labelled at l a) r =
      let x = passed_label p plan (Some l) r in
      begins_then r.kinds x.kinds (after_statement p plan a x).kinds (label_begins p plan (Some l) r) (statement_begins p plan a x)
  statement_begins p plan (Switch at e cases) r =
      let x = with_kinds (switch_temporaries p e) r in
      begins_then r.kinds x.kinds (after_cases p plan cases x).kinds (begins_added r.kinds (switch_temporaries p e)) (cases_begin p plan cases x)

  pub cases_begin : (p : TranslationUnit) (plan : List Kept) (cs : Cases) (r : RegisterTable) → Begins r.kinds (after_cases p plan cs r).kinds
  cases_begin p plan NoCase r = begins_itself r.kinds
  cases_begin p plan (AnotherCase at v body rest) r =
      let x = after_items p plan body r in
      begins_then r.kinds x.kinds (after_cases p plan rest x).kinds (items_begin p plan body r) (cases_begin p plan rest x)

  pub else_begins : (p : TranslationUnit) (plan : List Kept) (b : ElsePart) (r : RegisterTable) → Begins r.kinds (after_else p plan b r).kinds
  else_begins p plan NoElse r = begins_itself r.kinds
  else_begins p plan (Else a) r = statement_begins p plan a r

  pub first_begins : (p : TranslationUnit) (plan : List Kept) (first : ForFirst) (r : RegisterTable) → Begins r.kinds (after_first p plan first r).kinds
  first_begins p plan NoFirst r = begins_itself r.kinds
  first_begins p plan (First i) r = item_begins p plan i r

  pub item_begins : (p : TranslationUnit) (plan : List Kept) (i : BlockItem) (r : RegisterTable) → Begins r.kinds (after_item p plan i r).kinds
  item_begins p plan (Declare ds) r = begins_added r.kinds (declaration_temporaries p ds)
  item_begins p plan (Specify at t) r = begins_itself r.kinds
  item_begins p plan (Run a) r = statement_begins p plan a r
  item_begins p plan (Asserts annots) r = behind_asserts p r.bound plan r.kinds annots

  pub items_begin : (p : TranslationUnit) (plan : List Kept) (is : BlockItems) (r : RegisterTable) → Begins r.kinds (after_items p plan is r).kinds
  items_begin p plan NoItem r = begins_itself r.kinds
  items_begin p plan (Then i rest) r =
      let x = after_item p plan i r in
      begins_then r.kinds x.kinds (after_items p plan rest x).kinds (item_begins p plan i r) (items_begin p plan rest x)

-- ---- pointers

module _ (ts : Types) where
  -- the declaration that is bound, and others
  new_pointer : (x r : ℕ) (bound : Bindings) → slice_get ts r ≡ Some Ptr → HasPointer ts (bound_with x r bound) x
  new_pointer x r bound h = record { register = r; is_bound = register_of-bound_same x r bound; points = h }

  aim_stays : (x y r : ℕ) (g : Bool) (bound : Bindings) → slice_get ts r ≡ Some Ptr → Aim ts g (register_of bound x) → Aim ts g (register_of (bound_with y r bound) x)
  aim_stays x y r g bound h k = by (nat_eq y x) refl
    where
      by : (t : Bool) → nat_eq y x ≡ t → Aim ts g (register_of (bound_with y r bound) x)
      by true e = let same : y ≡ x = grind (arith, nat_tests) in subst (λ z. Aim ts g (register_of (bound_with y r bound) z)) same (subst (Aim ts g) (sym (register_of-bound_same y r bound)) h)
      by false e = subst (Aim ts g) (sym (register_of-bound_other y r x bound e)) k

  -- the register of the first of some variables
  pub entered_points : (d : Declaration) (ds : List Declaration) (r : RegisterTable) → Begins (entered (d ∷ ds) r).kinds ts → slice_get ts (length r.kinds) ≡ Some Ptr
  entered_points d ds r b = register_at r.kinds ts Ptr (begins_then (r.kinds ++ Ptr ∷ []) (entered ds (with_pointer d r)).kinds ts (entered_begins ds (with_pointer d r)) b)

  pub entered_keep : (x : ℕ) (g : Bool) (ds : List Declaration) (r : RegisterTable) → Begins (entered ds r).kinds ts → Aim ts g (register_of r.bound x) → Aim ts g (register_of (entered ds r).bound x)
  entered_keep x g [] r b h = h
  entered_keep x g (d ∷ ds) r b h = entered_keep x g ds (with_pointer d r) b (aim_stays x (number_of d) (length r.kinds) g r.bound (entered_points d ds r b) h)

  -- ---- those of these declarations

  abbrev pub HavePointers : Bindings → List Declaration → Type 0
  HavePointers bound [] = Unit {0}
  HavePointers bound (d ∷ ds) = HasPointer ts bound (number_of d) × HavePointers bound ds

  pub pointers_front : (bound : Bindings) (ds es : List Declaration) → HavePointers bound (ds ++ es) → HavePointers bound ds
  pointers_front bound [] es h = tt
  pointers_front bound (d ∷ ds) es h = (h.0, pointers_front bound ds es h.1)

  pub pointers_back : (bound : Bindings) (ds es : List Declaration) → HavePointers bound (ds ++ es) → HavePointers bound es
  pointers_back bound [] es h = h
  pointers_back bound (d ∷ ds) es h = pointers_back bound ds es h.1

  pub entered_have : (ds : List Declaration) (r : RegisterTable) → Begins (entered ds r).kinds ts → HavePointers (entered ds r).bound ds
  entered_have [] r b = tt
  entered_have (d ∷ ds) r b =
      let born = new_pointer (number_of d) (length r.kinds) r.bound (entered_points d ds r b) in
      (aim_has ts (entered (d ∷ ds) r).bound (number_of d) (entered_keep (number_of d) false ds (with_pointer d r) b (has_aim ts false (with_pointer d r).bound (number_of d) born)), entered_have ds (with_pointer d r) b)

  -- what is bound later leaves none without a pointer
  abbrev pub Keeps : RegisterTable → RegisterTable → Type 0
  Keeps r after = (x : ℕ) (g : Bool) → Aim ts g (register_of r.bound x) → Aim ts g (register_of after.bound x)

  pub pointers_kept : (r after : RegisterTable) (ds : List Declaration) → Keeps r after → HavePointers r.bound ds → HavePointers after.bound ds
  pointers_kept r after [] k h = tt
  pointers_kept r after (d ∷ ds) k h = (aim_has ts after.bound (number_of d) (k (number_of d) false (has_aim ts false r.bound (number_of d) h.0)), pointers_kept r after ds k h.1)

  mutual
    pub statement_keeps : (p : TranslationUnit) (plan : List Kept) (a : Statement) (r : RegisterTable) → Begins (after_statement p plan a r).kinds ts → Keeps r (after_statement p plan a r)
    statement_keeps p plan (Empty at) r b x g h = h
    statement_keeps p plan (Eval at e) r b x g h = h
    statement_keeps p plan (Block at body) r b x g h =
        let inside = entered (declared_in body) r in
        items_keep p plan body inside b x g (entered_keep x g (declared_in body) r (begins_then inside.kinds (after_items p plan body inside).kinds ts (items_begin p plan body inside) b) h)
    statement_keeps p plan (If at e a c) r b x g h =
        let y = with_kinds (takes p e) r in
        let z = after_statement p plan a y in
        else_keeps p plan c z b x g (statement_keeps p plan a y (begins_then z.kinds (after_else p plan c z).kinds ts (else_begins p plan c z) b) x g h)
    statement_keeps p plan (While at annots e a) r b x g h =
        let y = before_body p plan annots (Some e) r in
        let z = after_statement p plan a y in
        statement_keeps p plan a y (begins_then z.kinds (after_turn p plan annots None z).kinds ts (turn_begins p plan annots None z) b) x g h
    statement_keeps p plan (Do at a e) r b x g h = statement_keeps p plan a r (begins_front (after_statement p plan a r).kinds (takes p e) ts b) x g h
    statement_keeps p plan (For at annots first e behind a) r b x g h =
        let own = declared_first first in
        let y = entered own r in
        let z = after_first p plan first y in
        let v = before_body p plan annots e z in
        let w = after_statement p plan a v in
        let last = begins_then w.kinds (after_turn p plan annots behind w).kinds ts (turn_begins p plan annots behind w) b in
        let third = begins_then v.kinds w.kinds ts (statement_begins p plan a v) last in
        let second = begins_then z.kinds v.kinds ts (body_begins p plan annots e z) third in
        let one = begins_then y.kinds z.kinds ts (first_begins p plan first y) second in
        statement_keeps p plan a v last x g (first_keeps p plan first y second x g (entered_keep x g own r one h))
    statement_keeps p plan (Break at) r b x g h = h
    statement_keeps p plan (Continue at) r b x g h = h
    statement_keeps p plan (Return at e) r b x g h = h
    statement_keeps p plan (Labelled at l a) r b x g h = statement_keeps p plan a (passed_label p plan (Some l) r) b x g h
    statement_keeps p plan (Switch at e cases) r b x g h = cases_keep p plan cases (with_kinds (switch_temporaries p e) r) b x g h

    pub cases_keep : (p : TranslationUnit) (plan : List Kept) (cs : Cases) (r : RegisterTable) → Begins (after_cases p plan cs r).kinds ts → Keeps r (after_cases p plan cs r)
    cases_keep p plan NoCase r b x g h = h
    cases_keep p plan (AnotherCase at v body rest) r b x g h =
        let y = after_items p plan body r in
        cases_keep p plan rest y b x g (items_keep p plan body r (begins_then y.kinds (after_cases p plan rest y).kinds ts (cases_begin p plan rest y) b) x g h)

    pub else_keeps : (p : TranslationUnit) (plan : List Kept) (c : ElsePart) (r : RegisterTable) → Begins (after_else p plan c r).kinds ts → Keeps r (after_else p plan c r)
    else_keeps p plan NoElse r b x g h = h
    else_keeps p plan (Else a) r b x g h = statement_keeps p plan a r b x g h

    pub first_keeps : (p : TranslationUnit) (plan : List Kept) (first : ForFirst) (r : RegisterTable) → Begins (after_first p plan first r).kinds ts → Keeps r (after_first p plan first r)
    first_keeps p plan NoFirst r b x g h = h
    first_keeps p plan (First i) r b x g h = item_keeps p plan i r b x g h

    pub item_keeps : (p : TranslationUnit) (plan : List Kept) (i : BlockItem) (r : RegisterTable) → Begins (after_item p plan i r).kinds ts → Keeps r (after_item p plan i r)
    item_keeps p plan (Declare ds) r b x g h = h
    item_keeps p plan (Specify at t) r b x g h = h
    item_keeps p plan (Run a) r b x g h = statement_keeps p plan a r b x g h
    item_keeps p plan (Asserts annots) r b x g h = h

    pub items_keep : (p : TranslationUnit) (plan : List Kept) (is : BlockItems) (r : RegisterTable) → Begins (after_items p plan is r).kinds ts → Keeps r (after_items p plan is r)
    items_keep p plan NoItem r b x g h = h
    items_keep p plan (Then i rest) r b x g h =
        let y = after_item p plan i r in
        items_keep p plan rest y b x g (item_keeps p plan i r (begins_then y.kinds (after_items p plan rest y).kinds ts (items_begin p plan rest y) b) x g h)

-- ---- these registers point to blocks

abbrev pub AllPoint : Types → List ℕ → Type 0
AllPoint ts [] = Unit {0}
AllPoint ts (r ∷ live) = (slice_get ts r ≡ Some Ptr) × AllPoint ts live

pub point_both : (ts : Types) (a b : List ℕ) → AllPoint ts a → AllPoint ts b → AllPoint ts (a ++ b)
point_both ts [] b h k = k
point_both ts (r ∷ a) b h k = (h.0, point_both ts a b h.1 k)

-- as many from this one on as these variables are point to blocks
abbrev pub PointFrom : Types → ℕ → List Declaration → Type 0
PointFrom ts p [] = Unit {0}
PointFrom ts p (d ∷ ds) = (slice_get ts p ≡ Some Ptr) × PointFrom ts (suc p) ds

pub entered_from : (ts : Types) (ds : List Declaration) (r : RegisterTable) → Begins (entered ds r).kinds ts → PointFrom ts (length r.kinds) ds
entered_from ts [] r b = tt
entered_from ts (d ∷ ds) r b =
    let long : length (r.kinds ++ Ptr ∷ []) ≡ suc (length r.kinds) = omega (arith, length-append r.kinds (Ptr ∷ [])) in
    (entered_points ts d ds r b, subst (λ p. PointFrom ts p ds) long (entered_from ts ds (with_pointer d r) b))

pub point_born : (ts : Types) (p : ℕ) (ds : List Declaration) (live : List ℕ) → PointFrom ts p ds → AllPoint ts live → AllPoint ts (with_born p ds live)
point_born ts p [] live h k = k
point_born ts p (d ∷ ds) live h k = point_born ts (suc p) ds (p ∷ live) h.1 (h.0, k)
