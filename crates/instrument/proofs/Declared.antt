-- What is declared in statements: it is new there, so that the names in sight keep their registers.
use Rattle.std.proofs.Common.{◌≡◌, ℕ, ◌≤◌, Bool, true, false, cond, nat_eq, List, [], ◌∷◌, ◌++◌, length, length-append, Option, None, Some, refl, sym, ◌∙◌, subst, arith}
use Rattle.std.proofs.lemmas.Bool.Decides.{nat_tests}
use Rattle.c_syntax.specs.Expressions.{Expression}
use Rattle.c_syntax.specs.Logic.{Annotation, LogicTerm}
use Rattle.c_syntax.specs.Programs.{TranslationUnit}
use Rattle.c_syntax.specs.Statements.{Declaration, Statement, Empty, Eval, Block, If, While, Do, For, Break, Continue, Return, ElsePart, NoElse, Else, ForFirst, NoFirst, First, BlockItem, Declare, Specify, Run, Asserts, BlockItems, NoItem, Then}
use Rattle.c_syntax.specs.Statements.{Labelled, Switch, Cases, NoCase, AnotherCase}
use Rattle.c_model.specs.Memory.{Value}
use Rattle.c_model.specs.State.{State, Scope, find}
use Rattle.c_model.specs.Meaning.{declared_in, declared_first}
use Rattle.c_model.specs.Predicates.{variant}
use Rattle.c_model.specs.Formed.{number_of, declared_within, declared_in_cases, declared_in_else, declared_in_first, declared_in_item, declared_in_items}
use Rattle.mon_syntax.specs.declared.tree.MonType.{MonType}
use Rattle.mon_syntax.specs.Registers.{Bindings, RegisterTable, register_of, with_kinds, next_register}
use Rattle.annot_simulation.proofs.Asserted.{behind_grows}
use Rattle.c_simulation.specs.Keeping.{Kept}
use Rattle.instrument.proofs.Passages.{snapshot_grows}
use Rattle.c_initialisers.specs.Translation.{declaration_temporaries}
use Rattle.c_effects.specs.Effects.{any_temporaries}
use Rattle.c_effects.specs.Full.{act_takes, takes}
use Rattle.track_scopes.specs.Blocks.{AreSmall, with_pointer, entered}
use Rattle.instrument.specs.LoopClauses.{behind_variant}
use Rattle.instrument.specs.Translation.{Spot, after_invariants, before_body, after_turn, after_statement, after_cases, after_else, after_first, after_item, after_items, passed_label, returned_temporaries, switch_temporaries}
use Rattle.instrument.proofs.DeclarationCode.{next-entered}
use Rattle.c_simulation.specs.Standing.{Target, Setting, Here, IsAnchored, InRegister, AtGlobal, Anchored}
use Rattle.c_simulation.proofs.Following.{standing_as}
use Rattle.instrument.proofs.Births.{names_of, with_numbers}
use Rattle.instrument.proofs.Asserts.{invariants_grow, valuation_grows}
use Rattle.instrument.proofs.Blocks.{Meets}
use Rattle.instrument.proofs.Own.{AreOwn, AreLocal}
use Rattle.c_simulation.proofs.Registers.{register_of-bound_other}

-- ---- what can be declared in statements, where names with these numbers are in sight

abbrev pub Absent : ℕ → List ℕ → Type 0
Absent x [] = Unit {0}
Absent x (y ∷ ys) = (nat_eq y x ≡ false) × Absent x ys

abbrev pub AreAbsent : List ℕ → List Declaration → Type 0
AreAbsent living [] = Unit {0}
AreAbsent living (d ∷ ds) = Absent (number_of d) living × AreAbsent living ds

-- variables of functions: each is small, and none of the library's
pub record AreBorn (p : TranslationUnit) (ds : List Declaration) : Type 0 where
  pub small : AreSmall p.structs ds
  pub own : AreOwn ds
  pub local : AreLocal p ds

abbrev mutual
  -- what is born is such a variable, and what is declared inside has numbers that none in sight has
  pub CanDeclare : TranslationUnit → List ℕ → Statement → Type 0
  CanDeclare p living (Block at items) = AreBorn p (declared_in items) × ItemsCanDeclare p (with_numbers (declared_in items) living) items
  CanDeclare p living (If at e a b) = AreAbsent living (declared_within a) × CanDeclare p living a × ElseCanDeclare p living b
  CanDeclare p living (While at annots e a) = AreAbsent living (declared_within a) × CanDeclare p living a
  CanDeclare p living (Do at a e) = AreAbsent living (declared_within a) × CanDeclare p living a
  CanDeclare p living (For at annots first e step a) =
      AreBorn p (declared_first first) × AreAbsent (with_numbers (declared_first first) living) (declared_within a) × CanDeclare p (with_numbers (declared_first first) living) a
  CanDeclare p living (Labelled at l a) = CanDeclare p living a
  CanDeclare p living (Switch at e cases) = CasesCanDeclare p living cases
  CanDeclare p living _ = Unit {0}

  pub CasesCanDeclare : TranslationUnit → List ℕ → Cases → Type 0
  CasesCanDeclare p living NoCase = Unit {0}
  CasesCanDeclare p living (AnotherCase at v body rest) = AreAbsent living (declared_in_items body) × ItemsCanDeclare p living body × CasesCanDeclare p living rest

  pub ElseCanDeclare : TranslationUnit → List ℕ → ElsePart → Type 0
  ElseCanDeclare p living NoElse = Unit {0}
  ElseCanDeclare p living (Else a) = CanDeclare p living a

  pub ItemCanDeclare : TranslationUnit → List ℕ → BlockItem → Type 0
  ItemCanDeclare p living (Declare ds) = Unit {0}
  ItemCanDeclare p living (Specify at t) = Unit {0}
  ItemCanDeclare p living (Run a) = AreAbsent living (declared_within a) × CanDeclare p living a
  ItemCanDeclare p living (Asserts annots) = Unit {0}

  pub ItemsCanDeclare : TranslationUnit → List ℕ → BlockItems → Type 0
  ItemsCanDeclare p living NoItem = Unit {0}
  ItemsCanDeclare p living (Then i rest) = ItemCanDeclare p living i × ItemsCanDeclare p living rest

-- ---- registers of names that are declared elsewhere

abbrev NotIn : ℕ → List Declaration → Type 0
NotIn x [] = Unit {0}
NotIn x (d ∷ ds) = (nat_eq (number_of d) x ≡ false) × NotIn x ds

not_front : (x : ℕ) (ds es : List Declaration) → NotIn x (ds ++ es) → NotIn x ds
not_front x [] es h = tt
not_front x (d ∷ ds) es h = (h.0, not_front x ds es h.1)

not_back : (x : ℕ) (ds es : List Declaration) → NotIn x (ds ++ es) → NotIn x es
not_back x [] es h = h
not_back x (d ∷ ds) es h = not_back x ds es h.1

not_both : (x : ℕ) (ds es : List Declaration) → NotIn x ds → NotIn x es → NotIn x (ds ++ es)
not_both x [] es h g = g
not_both x (d ∷ ds) es h g = (h.0, not_both x ds es h.1 g)

not_own : (x : ℕ) (is : BlockItems) → NotIn x (declared_in_items is) → NotIn x (declared_in is)
not_own x NoItem h = tt
not_own x (Then (Declare ds) rest) h = not_both x ds (declared_in rest) (not_front x ds (declared_in_items rest) h) (not_own x rest (not_back x ds (declared_in_items rest) h))
not_own x (Then (Specify at t) rest) h = not_own x rest h
not_own x (Then (Run a) rest) h = not_own x rest (not_back x (declared_within a) (declared_in_items rest) h)
not_own x (Then (Asserts annots) rest) h = not_own x rest h

not_first : (x : ℕ) (first : ForFirst) → NotIn x (declared_in_first first) → NotIn x (declared_first first)
not_first x NoFirst h = tt
not_first x (First (Declare ds)) h = h
not_first x (First (Specify at t)) h = tt
not_first x (First (Run a)) h = tt
not_first x (First (Asserts annots)) h = tt

entered_other : (x : ℕ) (ds : List Declaration) (r : RegisterTable) → NotIn x ds → register_of (entered ds r).bound x ≡ register_of r.bound x
entered_other x [] r h = refl
entered_other x (d ∷ ds) r h = entered_other x ds (with_pointer d r) h.1 ∙ register_of-bound_other (number_of d) (length r.kinds) x r.bound h.0

mutual
  statement_other : (p : TranslationUnit) (plan : List Kept) (x : ℕ) (a : Statement) (r : RegisterTable) → NotIn x (declared_within a) → register_of (after_statement p plan a r).bound x ≡ register_of r.bound x
  statement_other p plan x (Empty at) r h = refl
  statement_other p plan x (Eval at e) r h = refl
  statement_other p plan x (Block at body) r h = items_other p plan x body (entered (declared_in body) r) h ∙ entered_other x (declared_in body) r (not_own x body h)
  statement_other p plan x (If at e a b) r h =
      else_other p plan x b (after_statement p plan a (with_kinds (takes p e) r)) (not_back x (declared_within a) (declared_in_else b) h)
      ∙ statement_other p plan x a (with_kinds (takes p e) r) (not_front x (declared_within a) (declared_in_else b) h)
  statement_other p plan x (While at annots e a) r h = statement_other p plan x a (before_body p plan annots (Some e) r) h
  statement_other p plan x (Do at a e) r h = statement_other p plan x a r h
  statement_other p plan x (For at annots first e behind a) r h =
      let own = not_front x (declared_in_first first) (declared_within a) h in
      statement_other p plan x a (before_body p plan annots e (after_first p plan first (entered (declared_first first) r))) (not_back x (declared_in_first first) (declared_within a) h)
      ∙ first_other p plan x first (entered (declared_first first) r) own
      ∙ entered_other x (declared_first first) r (not_first x first own)
  statement_other p plan x (Break at) r h = refl
  statement_other p plan x (Continue at) r h = refl
  statement_other p plan x (Return at e) r h = refl
  statement_other p plan x (Labelled at l a) r h = statement_other p plan x a (passed_label p plan (Some l) r) h
  statement_other p plan x (Switch at e cases) r h = cases_other p plan x cases (with_kinds (switch_temporaries p e) r) h

  cases_other : (p : TranslationUnit) (plan : List Kept) (x : ℕ) (cs : Cases) (r : RegisterTable) → NotIn x (declared_in_cases cs) → register_of (after_cases p plan cs r).bound x ≡ register_of r.bound x
  cases_other p plan x NoCase r h = refl
  cases_other p plan x (AnotherCase at v body rest) r h =
      cases_other p plan x rest (after_items p plan body r) (not_back x (declared_in_items body) (declared_in_cases rest) h) ∙ items_other p plan x body r (not_front x (declared_in_items body) (declared_in_cases rest) h)

  else_other : (p : TranslationUnit) (plan : List Kept) (x : ℕ) (b : ElsePart) (r : RegisterTable) → NotIn x (declared_in_else b) → register_of (after_else p plan b r).bound x ≡ register_of r.bound x
  else_other p plan x NoElse r h = refl
  else_other p plan x (Else a) r h = statement_other p plan x a r h

  first_other : (p : TranslationUnit) (plan : List Kept) (x : ℕ) (first : ForFirst) (r : RegisterTable) → NotIn x (declared_in_first first) → register_of (after_first p plan first r).bound x ≡ register_of r.bound x
  first_other p plan x NoFirst r h = refl
  first_other p plan x (First i) r h = item_other p plan x i r h

  item_other : (p : TranslationUnit) (plan : List Kept) (x : ℕ) (i : BlockItem) (r : RegisterTable) → NotIn x (declared_in_item i) → register_of (after_item p plan i r).bound x ≡ register_of r.bound x
  item_other p plan x (Declare ds) r h = refl
  item_other p plan x (Specify at t) r h = refl
  item_other p plan x (Run a) r h = statement_other p plan x a r h
  item_other p plan x (Asserts annots) r h = refl

  items_other : (p : TranslationUnit) (plan : List Kept) (x : ℕ) (is : BlockItems) (r : RegisterTable) → NotIn x (declared_in_items is) → register_of (after_items p plan is r).bound x ≡ register_of r.bound x
  items_other p plan x NoItem r h = refl
  items_other p plan x (Then i rest) r h = items_other p plan x rest (after_item p plan i r) (not_back x (declared_in_item i) (declared_in_items rest) h) ∙ item_other p plan x i r (not_front x (declared_in_item i) (declared_in_items rest) h)

-- ---- names in sight keep their registers

differs : (x y number : ℕ) (scope : Scope) → Absent x (names_of scope) → find y scope ≡ Some number → nat_eq x y ≡ false
differs x y number [] h e = absurd cc
differs x y number (b ∷ scope) h e = by (λ f. differs x y number scope h.1 f) (nat_eq b.0 y) refl e
  where
    by : (find y scope ≡ Some number → nat_eq x y ≡ false) → (t : Bool) → nat_eq b.0 y ≡ t → cond t (Some b.1) (find y scope) ≡ Some number → nat_eq x y ≡ false
    by rest true g f = let other = h.0 in grind (arith, nat_tests)
    by rest false g f = rest f

not_in_sight : (y number : ℕ) (scope : Scope) (ds : List Declaration) → AreAbsent (names_of scope) ds → find y scope ≡ Some number → NotIn y ds
not_in_sight y number scope [] h e = tt
not_in_sight y number scope (d ∷ ds) h e = (differs (number_of d) y number scope h.0 e, not_in_sight y number scope ds h.1 e)

-- where these declarations alone are bound further
anchored_other : (w : Setting) (low : ℕ) (bound later : Bindings) (regs : List Value) (scope : Scope) (ds : List Declaration) → ((x : ℕ) → NotIn x ds → register_of later x ≡ register_of bound x) → AreAbsent (names_of scope) ds
    → Anchored w low bound regs scope → Anchored w low later regs scope
anchored_other w low bound later regs scope ds others absent h x number e =
    let i = h x number e in record { own = i.own; anchor = of_anchor i.anchor }
  where
    same : register_of later x ≡ register_of bound x
    same = others x (not_in_sight x number scope ds absent e)

    of_anchor : IsAnchored w low bound regs x number → IsAnchored w low later regs x number
    of_anchor (InRegister k is_bound below behind points) = InRegister k (same ∙ is_bound) below behind points
    of_anchor (AtGlobal free is_global points) = AtGlobal (same ∙ free) is_global points

meets_other : (w : Setting) (h : Here) (spot : Spot) (low : ℕ) (bound later : Bindings) (living : List ℕ) (regs : List Value) (s : State) (t : Target) (ds : List Declaration)
    → ((x : ℕ) → NotIn x ds → register_of later x ≡ register_of bound x) → AreAbsent living ds → Meets w h spot low bound living regs s t → Meets w h spot low later living regs s t
meets_other w h spot low bound later living regs s t ds others absent m = record {
  standing = standing_as w h low low bound later regs regs s s h.breaks h.looped m.standing
      (anchored_other w low bound later regs s.scope ds others (subst (λ l. AreAbsent l ds) (sym m.names) absent) m.standing.anchored) refl refl (omega arith) m.standing.bounded refl m.standing.kept;
  beside = m.beside;
  inside = m.inside;
  between = m.between;
  outside = m.outside;
  names = m.names;
  result = m.result;
}

pub meets_behind : (w : Setting) (h : Here) (spot : Spot) (low : ℕ) (a : Statement) (r : RegisterTable) (living : List ℕ) (regs : List Value) (s : State) (t : Target) → AreAbsent living (declared_within a)
    → Meets w h spot low r.bound living regs s t → Meets w h spot low (after_statement w.unit w.plan a r).bound living regs s t
meets_behind w h spot low a r living regs s t absent m =
    meets_other w h spot low r.bound (after_statement w.unit w.plan a r).bound living regs s t (declared_within a) (λ x apart. statement_other w.unit w.plan x a r apart) absent m

pub meets_behind_items : (w : Setting) (h : Here) (spot : Spot) (low : ℕ) (is : BlockItems) (r : RegisterTable) (living : List ℕ) (regs : List Value) (s : State) (t : Target) → AreAbsent living (declared_in_items is)
    → Meets w h spot low r.bound living regs s t → Meets w h spot low (after_items w.unit w.plan is r).bound living regs s t
meets_behind_items w h spot low is r living regs s t absent m =
    meets_other w h spot low r.bound (after_items w.unit w.plan is r).bound living regs s t (declared_in_items is) (λ x apart. items_other w.unit w.plan x is r apart) absent m

-- ---- how many registers there are

pub more_kinds : (ts : List MonType) (r : RegisterTable) → next_register r ≤ next_register (with_kinds ts r)
more_kinds ts r = omega (arith, length-append r.kinds ts)

-- after the variant of a loop, its invariants and its condition, and after a turn
pub variant_grows : (p : TranslationUnit) (bound : Bindings) (plan : List Kept) (rs : List MonType) (o : Option (Annotation × LogicTerm)) → length rs ≤ length (behind_variant p bound plan rs o)
variant_grows p bound plan rs None = omega arith
variant_grows p bound plan rs (Some v) = valuation_grows p bound plan [] v.1 rs

pub body_behind : (p : TranslationUnit) (plan : List Kept) (annots : List Annotation) (e : Option Expression) (r : RegisterTable) → next_register r ≤ next_register (before_body p plan annots e r)
body_behind p plan annots e r =
    let one = after_invariants p plan annots r in
    let two = with_kinds (any_temporaries (takes p) e) one in
    omega (arith, invariants_grow p r.bound plan r.kinds annots, more_kinds (any_temporaries (takes p) e) one, variant_grows p r.bound plan two.kinds (variant annots))

pub turn_grows : (p : TranslationUnit) (plan : List Kept) (annots : List Annotation) (e : Option Expression) (r : RegisterTable) → next_register r ≤ next_register (after_turn p plan annots e r)
turn_grows p plan annots e r =
    let one = with_kinds (any_temporaries (act_takes p) e) r in
    omega (arith, more_kinds (any_temporaries (act_takes p) e) r, variant_grows p r.bound plan one.kinds (variant annots))

mutual
  pub statement_grows : (p : TranslationUnit) (plan : List Kept) (a : Statement) (r : RegisterTable) → next_register r ≤ next_register (after_statement p plan a r)
  statement_grows p plan (Empty at) r = omega arith
  statement_grows p plan (Eval at e) r = more_kinds (act_takes p e) r
  statement_grows p plan (Block at body) r = omega (arith, next-entered (declared_in body) r, items_grow p plan body (entered (declared_in body) r))
  statement_grows p plan (If at e a b) r =
      let one = with_kinds (takes p e) r in
      omega (arith, more_kinds (takes p e) r, statement_grows p plan a one, else_grows p plan b (after_statement p plan a one))
  statement_grows p plan (While at annots e a) r =
      let one = before_body p plan annots (Some e) r in
      omega (arith, body_behind p plan annots (Some e) r, statement_grows p plan a one, turn_grows p plan annots None (after_statement p plan a one))
  statement_grows p plan (Do at a e) r = omega (arith, statement_grows p plan a r, more_kinds (takes p e) (after_statement p plan a r))
  statement_grows p plan (For at annots first e behind a) r =
      let one = entered (declared_first first) r in
      let two = after_first p plan first one in
      let three = before_body p plan annots e two in
      omega (
        arith,
        next-entered (declared_first first) r,
        first_grows p plan first one,
        body_behind p plan annots e two,
        statement_grows p plan a three,
        turn_grows p plan annots behind (after_statement p plan a three),
      )
  statement_grows p plan (Break at) r = omega arith
  statement_grows p plan (Continue at) r = omega arith
  statement_grows p plan (Return at e) r = more_kinds (any_temporaries (returned_temporaries p) e) r
  statement_grows p plan (Labelled at l a) r = omega (arith, snapshot_grows p r.bound (Some l) plan r.kinds, statement_grows p plan a (passed_label p plan (Some l) r))
  statement_grows p plan (Switch at e cases) r = omega (arith, more_kinds (switch_temporaries p e) r, cases_grow p plan cases (with_kinds (switch_temporaries p e) r))

  pub cases_grow : (p : TranslationUnit) (plan : List Kept) (cs : Cases) (r : RegisterTable) → next_register r ≤ next_register (after_cases p plan cs r)
  cases_grow p plan NoCase r = omega arith
  cases_grow p plan (AnotherCase at v body rest) r = omega (arith, items_grow p plan body r, cases_grow p plan rest (after_items p plan body r))

  pub else_grows : (p : TranslationUnit) (plan : List Kept) (b : ElsePart) (r : RegisterTable) → next_register r ≤ next_register (after_else p plan b r)
  else_grows p plan NoElse r = omega arith
  else_grows p plan (Else a) r = statement_grows p plan a r

  pub first_grows : (p : TranslationUnit) (plan : List Kept) (first : ForFirst) (r : RegisterTable) → next_register r ≤ next_register (after_first p plan first r)
  first_grows p plan NoFirst r = omega arith
  first_grows p plan (First i) r = item_grows p plan i r

  pub item_grows : (p : TranslationUnit) (plan : List Kept) (i : BlockItem) (r : RegisterTable) → next_register r ≤ next_register (after_item p plan i r)
  item_grows p plan (Declare ds) r = more_kinds (declaration_temporaries p ds) r
  item_grows p plan (Specify at t) r = omega arith
  item_grows p plan (Run a) r = statement_grows p plan a r
  item_grows p plan (Asserts annots) r = behind_grows p r.bound plan [] r.kinds annots

  pub items_grow : (p : TranslationUnit) (plan : List Kept) (is : BlockItems) (r : RegisterTable) → next_register r ≤ next_register (after_items p plan is r)
  items_grow p plan NoItem r = omega arith
  items_grow p plan (Then i rest) r = omega (arith, item_grows p plan i r, items_grow p plan rest (after_item p plan i r))
