-- The code of a predicate is valid monitored C: its types, and how deep it stands.
use Rattle.std.specs.Prelude.{◌≡◌, ℕ, suc, ◌≤◌, true, false, length, List, [], ◌∷◌, ◌++◌, Option, Some, slice_get}
use Rattle.std.specs.Ordering.{int_eq}
use Rattle.c_syntax.specs.declared.logic.Label.TheVariants.{Here, Pre, Marked}
use Rattle.c_syntax.specs.Logic.{LogicTerm, Links, NoLink, Linked, Zone, Zones, NoZone, Another, Predicate, Guards, NoGuard, Guarded}
use Rattle.c_syntax.specs.Logic as logic
use Rattle.c_syntax.specs.Programs.{TranslationUnit}
use Rattle.c_model.specs.Formed.{tokens_of_predicate, tokens_of_term}
use Rattle.c_model.specs.Ranges.{least_i128}
use Rattle.c_model.specs.PredicateTyping.{place_of_term}
use Rattle.c_model.specs.TermRanges.{Seen, PredicateRanged, TermRanged}
use Rattle.c_model.specs.TypedPredicates.{IsCastType, IsExtent}
use Rattle.mon_syntax.specs.declared.tree.MonType.{MonType}
use Rattle.mon_syntax.specs.declared.tree.MonType.TheVariants.{I32, I128, Ptr}
use Rattle.mon_syntax.specs.Registers.{Bindings}
use Rattle.mon_syntax.specs.Valid.{Types, HasType, AreStatements, Labels, Signature, depth_of_all, has_label}
use Rattle.quantifier_loops.specs.Laws.{IsNumber}
use Rattle.quantifier_loops.specs.Upward.{tried_label}
use Rattle.c_effects.specs.Expressions.{pointer_to}
use Rattle.c_simulation.specs.Keeping.{Kept, is_pointer_term}
use Rattle.annot_simulation.specs.Code.{Judgement, Valuation, judgement, valuation}
use Rattle.annot_simulation.specs.Held.{Held, Sorted, held_by, kept_at, sort_held, sorts_held, sorts_within}
use Rattle.annot_simulation.specs.Pieces.{type_of}
use Rattle.annot_simulation.specs.Does.{HasIntegers, IsNumberFact, found_by}
use Rattle.annot_simulation.specs.Inside.{open_in_all}

-- registers of these types stand from a number on
abbrev pub StandIn : Types → ℕ → List MonType → Type 0
StandIn ts r [] = Unit {0}
StandIn ts r (k ∷ ks) = (slice_get ts r ≡ Some k) × StandIn ts (suc r) ks

-- each name has a register of its type
abbrev pub HeldTyped : Types → List Held → Type 0
HeldTyped ts held = (x : ℕ) (h : Held) → held_by x held ≡ Some h → slice_get ts h.register ≡ Some h.kind

-- a kept term has a register for its flag, and one for its number or two for its pointer
pub record HasRegisters (plan : List Kept) (ts : Types) (a : LogicTerm) (kinds : List MonType) : Type 0 where
  pub entry : Kept
  pub is : kept_at (place_of_term a).offset plan ≡ Some entry
  pub typed : StandIn ts entry.register (I32 ∷ kinds)

-- numbers can be written, and the pointers to variables are pointers, where there are so many globals and registers of these types
module _ (p : TranslationUnit) (bound : Bindings) (plan : List Kept) (globals : ℕ) (ts : Types) where
  abbrev mutual
    pub TermWritable : Sorted → LogicTerm → Type 0
    TermWritable ns (logic.Number at t r n) = int_eq n least_i128 ≡ false
    TermWritable ns (logic.Letter at t r n) = int_eq n least_i128 ≡ false
    TermWritable ns (logic.Variable at t r x) = HasIntegers t × HasType globals ts (pointer_to p bound x.decl) Ptr
    TermWritable ns (logic.Unary at t r op a) = TermWritable ns a
    TermWritable ns (logic.Binary at t r op a b) = TermWritable ns a × TermWritable ns b
    TermWritable ns (logic.Cast at t r to a) = IsCastType to × TermWritable ns a
    TermWritable ns (logic.Choice at t r c a b) = PredicateWritable ns c × TermWritable ns a × TermWritable ns b
    TermWritable ns (logic.Deref at t r a) = HasIntegers t × PointerWritable ns a
    TermWritable ns (logic.Member at t r d a) = HasIntegers t × IsExtent d × PlaceWritable ns a
    TermWritable ns (logic.Difference at t r n a b) = IsExtent n × PointerWritable ns a × PointerWritable ns b
    TermWritable ns (logic.Told at t r f a) = IsNumberFact f × PointerWritable ns a
    TermWritable ns (logic.Named at t r x) = sort_held x.decl ns ≡ Some false
    TermWritable ns (logic.At at t r Here a) = TermWritable ns a
    TermWritable ns (logic.At at t r Pre a) = HasRegisters plan ts a (type_of a ∷ [])
    TermWritable ns (logic.At at t r (Marked l) a) = HasRegisters plan ts a (type_of a ∷ [])
    TermWritable ns _ = ⊥

    pub PointerWritable : Sorted → LogicTerm → Type 0
    PointerWritable ns (logic.Variable at t r x) = HasType globals ts (pointer_to p bound x.decl) Ptr
    PointerWritable ns (logic.Null at t r) = Unit {0}
    PointerWritable ns (logic.Deref at t r a) = PointerWritable ns a
    PointerWritable ns (logic.Member at t r d a) = IsExtent d × PlaceWritable ns a
    PointerWritable ns (logic.Address at t r a) = PlaceWritable ns a
    PointerWritable ns (logic.Moved at t r op n a b) = IsExtent n × PointerWritable ns a × TermWritable ns b
    PointerWritable ns (logic.Cast at t r to a) = PointerWritable ns a
    PointerWritable ns (logic.Choice at t r c a b) = PredicateWritable ns c × PointerWritable ns a × PointerWritable ns b
    PointerWritable ns (logic.Told at t r f a) = PointerWritable ns a
    PointerWritable ns (logic.Named at t r x) = sort_held x.decl ns ≡ Some true
    PointerWritable ns (logic.At at t r Here a) = PointerWritable ns a
    PointerWritable ns (logic.At at t r Pre a) = HasRegisters plan ts a (Ptr ∷ I128 ∷ [])
    PointerWritable ns (logic.At at t r (Marked l) a) = HasRegisters plan ts a (Ptr ∷ I128 ∷ [])
    PointerWritable ns _ = ⊥

    pub PlaceWritable : Sorted → LogicTerm → Type 0
    PlaceWritable ns (logic.Variable at t r x) = HasType globals ts (pointer_to p bound x.decl) Ptr
    PlaceWritable ns (logic.Deref at t r a) = PointerWritable ns a
    PlaceWritable ns (logic.Member at t r d a) = IsExtent d × PlaceWritable ns a
    PlaceWritable ns _ = ⊥

    pub ZoneWritable : Sorted → Zone → Type 0
    ZoneWritable ns (logic.Object at n m a) = IsExtent n × PointerWritable ns a
    ZoneWritable ns (logic.Elements at n m a lo hi) = IsExtent n × PointerWritable ns a × TermWritable ns lo × TermWritable ns hi

    pub ZonesWritable : Sorted → Zones → Type 0
    ZonesWritable ns NoZone = Unit {0}
    ZonesWritable ns (Another z rest) = ZoneWritable ns z × ZonesWritable ns rest

    -- the sides of relations
    pub LinksWritable : Sorted → Links → Type 0
    LinksWritable ns NoLink = Unit {0}
    LinksWritable ns (Linked at r t rest) = found_by (is_pointer_term t) (PointerWritable ns t) (TermWritable ns t) × LinksWritable ns rest

    pub PredicateWritable : Sorted → Predicate → Type 0
    PredicateWritable ns (logic.Truth at b) = Unit {0}
    PredicateWritable ns (logic.NonZero at t) = TermWritable ns t
    PredicateWritable ns (logic.Chain at t links) = found_by (is_pointer_term t) (PointerWritable ns t) (TermWritable ns t) × LinksWritable ns links
    PredicateWritable ns (logic.Not at q) = PredicateWritable ns q
    PredicateWritable ns (logic.Connected at c a b) = PredicateWritable ns a × PredicateWritable ns b
    PredicateWritable ns (logic.Branch at c a b) = PredicateWritable ns c × PredicateWritable ns a × PredicateWritable ns b
    PredicateWritable ns (logic.Quantified at q gs a) = GuardsWritable ns gs (λ ns. PredicateWritable ns a)
    PredicateWritable ns (logic.Asks at f z) = ZoneWritable ns z
    PredicateWritable ns (logic.Separated at zs) = ZonesWritable ns zs

    -- what stands within guards is written where their binders are names
    pub GuardsWritable : Sorted → Guards → (Sorted → Type 0) → Type 0
    GuardsWritable ns NoGuard a = a ns
    GuardsWritable ns (Guarded a y ys below b rest) c = TermWritable ns a × TermWritable ns b × GuardsWritable (sorts_within (y ∷ ys) ns) rest c

-- types that begin with these
pub record Begins (rs ts : Types) : Type 0 where
  pub rest : Types
  pub is : ts ≡ rs ++ rest

-- no body around has the label of a loop over values whose index is this register or a later one
abbrev pub AreOutside : Labels → ℕ → Type 0
AreOutside ls r = (i : ℕ) → r ≤ i → IsNumber i → has_label ls (tried_label i) ≡ false

-- how deep the statements of an annotation stand at most
abbrev pub most_deep : ℕ
most_deep = 1300

-- how many parentheses are open in them at once, at most: three for each token of the annotation, and two
abbrev pub most_open : ℕ
most_open = 1300

-- among functions of these signatures, in a function of the result with registers of these types, inside bodies of these labels
pub record IsValidCode (globals : ℕ) (gs : List Signature) (ts : Types) (result : Option MonType) (ls : Labels) (j : Judgement) : Type 0 where
  pub statements : AreStatements globals gs ts result ls j.stmts
  pub deep : depth_of_all j.stmts ≤ most_deep
  pub parens : open_in_all j.stmts ≤ most_open
  pub flag_type : slice_get ts j.flag ≡ Some I32
  pub truth_type : slice_get ts j.truth ≡ Some I32

abbrev pub CodeIsValid : Type 0
CodeIsValid =
    (p : TranslationUnit) (bound : Bindings) (plan : List Kept) (held : List Held) (seen : Seen) (globals : ℕ) (gs : List Signature) (ts : Types)
    (result : Option MonType) (ls : Labels) (q : Predicate) (rs : List MonType)
    → PredicateRanged seen q → IsNumber (length ts) → HeldTyped ts held → AreOutside ls (length rs)
    → PredicateWritable p bound plan globals ts (sorts_held held) q
    → tokens_of_predicate q ≤ 400
    → Begins (judgement p bound plan held q rs).used ts → IsValidCode globals gs ts result ls (judgement p bound plan held q rs)

-- ---- the code of a term

pub record IsValidValuation (globals : ℕ) (gs : List Signature) (ts : Types) (result : Option MonType) (ls : Labels) (t : LogicTerm) (j : Valuation) : Type 0
  where
    pub statements : AreStatements globals gs ts result ls j.stmts
    pub deep : depth_of_all j.stmts ≤ most_deep
    pub parens : open_in_all j.stmts ≤ most_open
    pub flag_type : slice_get ts j.flag ≡ Some I32
    pub value_type : slice_get ts j.value ≡ Some (type_of t)

abbrev pub ValuesAreValid : Type 0
ValuesAreValid =
    (p : TranslationUnit) (bound : Bindings) (plan : List Kept) (held : List Held) (seen : Seen) (globals : ℕ) (gs : List Signature) (ts : Types)
    (result : Option MonType) (ls : Labels) (t : LogicTerm) (rs : List MonType)
    → TermRanged seen t → IsNumber (length ts) → HeldTyped ts held → AreOutside ls (length rs) → TermWritable p bound plan globals ts (sorts_held held) t
    → tokens_of_term t ≤ 400
    → Begins (valuation p bound plan held t rs).used ts
    → IsValidValuation globals gs ts result ls t (valuation p bound plan held t rs)
