-- The code of each form of one part as the program writes it, from the code of that part; and that of a whole from that of its form.
use Rattle.std.proofs.Common.{◌≡◌, ℕ, pos, Bool, List, [], Option, option_map, Result, Ok, Err, IfOk, OnOk, ap, sym, subst, ◌∙◌}
use Rattle.std.proofs.lemmas.Result.{IfOk-weaker}
use Rattle.c_syntax.specs.declared.annotation.Range.{Range}
use Rattle.c_syntax.specs.declared.expression.UnOp.{UnOp}
use Rattle.c_syntax.specs.declared.logic.BlockFact.{BlockFact}
use Rattle.c_syntax.specs.declared.logic.Pred.{Pred}
use Rattle.c_syntax.specs.declared.logic.PredKind.{PredKind}
use Rattle.c_syntax.specs.declared.logic.Term.{Term}
use Rattle.c_syntax.specs.declared.logic.TermKind.{TermKind}
use Rattle.c_syntax.specs.declared.logic.Zone as zone_tree
use Rattle.c_syntax.specs.declared.logic.ZoneKind.{ZoneKind}
use Rattle.c_syntax.specs.declared.types.Width.{Width}
use Rattle.c_syntax.specs.declared.place.Place.{Place}
use Rattle.c_syntax.specs.Ctypes.{PlainType, plain_type}
use Rattle.c_syntax.specs.Formulas.{CastType}
use Rattle.c_syntax.specs.Logic.{LogicTerm, Predicate, Zone, Zones, plain_pred, plain_pred_kind, plain_term, plain_term_kind, plain_zone_kind, range_of}
use Rattle.c_syntax.specs.Logic as logic
use Rattle.c_model.specs.Ranges.{width_of_range}
use Rattle.mon_syntax.specs.declared.tree.MonOp.TheVariants.{Eq, Ne}
use Rattle.mon_syntax.specs.declared.tree.MonType.{MonType}
use Rattle.mon_syntax.specs.declared.tree.MonType.TheVariants.{I32}
use Rattle.mon_syntax.specs.Registers.{Names}
use Rattle.mon_syntax.specs.Trees.{Binary, Constant, plain_expr}
use Rattle.annot_pieces.specs.declared.piece.Code as declared
use Rattle.annot_pieces.specs.declared.pointer.PointerCode as declared_pointer
use Rattle.annot_pieces.specs.declared.zone.ZoneCode as declared_zone
use Rattle.annot_pieces.specs.declared.zone.ZonesCode as declared_zones
use Rattle.annot_simulation.specs.Code.{Code, cast_value, settled, term_type, type_of, type_of_width, unary_value, width_of, wider, with_value}
use Rattle.annot_simulation.specs.Pointers.{PointerCode, member_code, number_read, pointer_there, separated_code, told_number, told_pointer}
use Rattle.annot_pieces.specs.Plain.{Known, code_of, place_by, plain_zone, pointer_by, pointer_of, pred_by, term_by, zone_by, zone_of, zones_by, zones_of}

-- ---- one equation after another

pub then_is : {A E X : Type 0} (r : Result A E) (a : X) {b c : X} → b ≡ c → OnOk r (a ≡ b) → OnOk r (a ≡ c)
then_is (Ok x) a e p = p ∙ e
then_is (Err x) a e p = tt

-- ---- after these registers

module _ {E : Type 0} (ks : List MonType) where
  pub code_after : (r : Result declared.Code E) (X : Code) → IfOk r (λ c. code_of c [] ≡ X) → IfOk r (λ c. code_of c ks ≡ record X { used = ks })
  code_after r X made = IfOk-weaker r (λ c. code_of c [] ≡ X) (λ c. code_of c ks ≡ record X { used = ks }) (λ c h. ap (λ (y : Code). record y { used = ks }) h) made

  pub pointer_after : (r : Result declared_pointer.PointerCode E) (X : PointerCode) → IfOk r (λ c. pointer_of c [] ≡ X) → IfOk r (λ c. pointer_of c ks ≡ record X { used = ks })
  pointer_after r X made = IfOk-weaker r (λ c. pointer_of c [] ≡ X) (λ c. pointer_of c ks ≡ record X { used = ks }) (λ c h. ap (λ (y : PointerCode). record y { used = ks }) h) made

-- ---- numbers of one part

module _ {E : Type 0} (r : Result declared.Code E) (ks : List MonType) (n : Names) (known : Known) (at : Place) (t : Option PlainType) (range : Range) (a : LogicTerm) where
  abbrev IsTerm : LogicTerm → Type 0
  IsTerm b = IfOk r (λ c. code_of c ks ≡ term_by n b known)

  -- a part whose value is changed
  changed : (X Y : Code) → X ≡ Y → IfOk r (λ c. code_of c [] ≡ X) → IfOk r (λ c. code_of c ks ≡ record Y { used = ks })
  changed X Y e made = IfOk-weaker r (λ c. code_of c [] ≡ X) (λ c. code_of c ks ≡ record Y { used = ks }) (λ c h. ap (λ (y : Code). record y { used = ks }) (h ∙ e)) made

  same : (X Y : Code) → X ≡ Y → IfOk r (λ c. code_of c ks ≡ X) → IfOk r (λ c. code_of c ks ≡ Y)
  same X Y e made = IfOk-weaker r (λ c. code_of c ks ≡ X) (λ c. code_of c ks ≡ Y) (λ c h. h ∙ e) made

  pub of_unary :
      (op : UnOp) (whole w : Width) (x : declared.Code) → whole ≡ width_of_range range → w ≡ width_of a → code_of x ks ≡ term_by n a known
      → IfOk r (λ c. code_of c [] ≡ with_value (unary_value op (type_of_width whole) (type_of_width (wider whole w)) (type_of_width w) (plain_expr x.value)) (code_of x []))
      → IsTerm (logic.Unary at t range op a)
  of_unary op whole w x whole_is w_is part made =
      IfOk-weaker r (λ c. code_of c [] ≡ with_value (unary_value op (type_of_width whole) (type_of_width (wider whole w)) (type_of_width w) (plain_expr x.value)) (code_of x []))
      (λ c. code_of c ks ≡ term_by n (logic.Unary at t range op a) known)
      (λ c h. ap (λ (y : Code). record y { used = ks }) h
      ∙ (λ i. with_value (unary_value op (type_of_width (whole_is i)) (type_of_width (wider (whole_is i) (w_is i))) (type_of_width (w_is i)) (part i).value) (part i))) made

  pub of_cast :
      (to : CastType) (ra : Range) (whole w : Width) (x : declared.Code) → ra ≡ range_of a → whole ≡ width_of_range range → w ≡ width_of a → code_of x ks ≡ term_by n a known
      → IfOk r (λ c. code_of c [] ≡ with_value (cast_value to ra (type_of_width whole) (type_of_width w) (plain_expr x.value)) (code_of x [])) → IsTerm (logic.Cast at t range to a)
  of_cast to ra whole w x ra_is whole_is w_is part made =
      IfOk-weaker r (λ c. code_of c [] ≡ with_value (cast_value to ra (type_of_width whole) (type_of_width w) (plain_expr x.value)) (code_of x []))
      (λ c. code_of c ks ≡ term_by n (logic.Cast at t range to a) known)
      (λ c h. ap (λ (y : Code). record y { used = ks }) h ∙ (λ i. with_value (cast_value to (ra_is i) (type_of_width (whole_is i)) (type_of_width (w_is i)) (part i).value) (part i))) made

  pub of_deref :
      (js : List MonType) (w k : MonType) (x : declared_pointer.PointerCode) → w ≡ type_of_width (width_of_range range) → k ≡ term_type t → pointer_of x js ≡ pointer_by n a known
      → IfOk r (λ c. code_of c ks ≡ number_read w k (pointer_of x js)) → IsTerm (logic.Deref at t range a)
  of_deref js w k x w_is k_is part made = same (number_read w k (pointer_of x js)) (term_by n (logic.Deref at t range a) known) (λ i. number_read (w_is i) (k_is i) (part i)) made

  pub of_member :
      (js : List MonType) (w k : MonType) (d : ℕ) (x y : declared_pointer.PointerCode) → w ≡ type_of_width (width_of_range range) → k ≡ term_type t → pointer_of x js ≡ place_by n a known
      → pointer_of y [] ≡ member_code d (pointer_of x []) → IfOk r (λ c. code_of c ks ≡ number_read w k (pointer_of y js)) → IsTerm (logic.Member at t range d a)
  of_member js w k d x y w_is k_is part farther made =
      same (number_read w k (pointer_of y js)) (term_by n (logic.Member at t range d a) known)
      (ap (λ (z : PointerCode). number_read w k (record z { used = js })) farther ∙ (λ i. number_read (w_is i) (k_is i) (member_code d (part i)))) made

  pub of_told :
      (js : List MonType) (w : MonType) (f : BlockFact) (x : declared_pointer.PointerCode) → w ≡ type_of_width (width_of_range range) → pointer_of x js ≡ pointer_by n a known
      → IfOk r (λ c. code_of c ks ≡ told_number w f (pointer_of x js)) → IsTerm (logic.Told at t range f a)
  of_told js w f x w_is part made = same (told_number w f (pointer_of x js)) (term_by n (logic.Told at t range f a) known) (λ i. told_number (w_is i) f (part i)) made

-- a number here, in a register
pub of_here :
    {E : Type 0} (r : Result declared.Code E) (ks js : List MonType) (a : LogicTerm) (n : Names) (known : Known) (w : MonType) (x : declared.Code) → w ≡ type_of a → code_of x js ≡ term_by n a known
    → IfOk r (λ c. code_of c ks ≡ settled w (code_of x js)) → IfOk r (λ c. code_of c ks ≡ settled (type_of a) (term_by n a known))
of_here r ks js a n known w x w_is part made =
    IfOk-weaker r (λ c. code_of c ks ≡ settled w (code_of x js)) (λ c. code_of c ks ≡ settled (type_of a) (term_by n a known)) (λ c h. h ∙ (λ i. settled (w_is i) (part i))) made

-- ---- pointers of one part

module _ {E : Type 0} (r : Result declared_pointer.PointerCode E) (ks js : List MonType) (n : Names) (known : Known) (a : LogicTerm) (x : declared_pointer.PointerCode) where
  same_pointer : (X Y : PointerCode) → X ≡ Y → IfOk r (λ c. pointer_of c ks ≡ X) → IfOk r (λ c. pointer_of c ks ≡ Y)
  same_pointer X Y e made = IfOk-weaker r (λ c. pointer_of c ks ≡ X) (λ c. pointer_of c ks ≡ Y) (λ c h. h ∙ e) made

  pub of_pointer_there :
      (b : Bool) (t : Option PlainType) → pointer_of x js ≡ pointer_by n a known → IfOk r (λ c. pointer_of c ks ≡ pointer_there b t (pointer_of x js))
      → IfOk r (λ c. pointer_of c ks ≡ pointer_there b t (pointer_by n a known))
  of_pointer_there b t part made = same_pointer (pointer_there b t (pointer_of x js)) (pointer_there b t (pointer_by n a known)) (ap (pointer_there b t) part) made

  pub of_pointer_member :
      (b : Bool) (t : Option PlainType) (d : ℕ) (y : declared_pointer.PointerCode) → pointer_of x js ≡ place_by n a known → pointer_of y [] ≡ member_code d (pointer_of x [])
      → IfOk r (λ c. pointer_of c ks ≡ pointer_there b t (pointer_of y js)) → IfOk r (λ c. pointer_of c ks ≡ pointer_there b t (member_code d (place_by n a known)))
  of_pointer_member b t d y part farther made =
      same_pointer (pointer_there b t (pointer_of y js)) (pointer_there b t (member_code d (place_by n a known)))
      (ap (λ (z : PointerCode). pointer_there b t (record z { used = js })) farther ∙ ap (λ z. pointer_there b t (member_code d z)) part) made

  pub of_start : pointer_of x js ≡ pointer_by n a known → IfOk r (λ c. pointer_of c ks ≡ told_pointer (pointer_of x js)) → IfOk r (λ c. pointer_of c ks ≡ told_pointer (pointer_by n a known))
  of_start part made = same_pointer (told_pointer (pointer_of x js)) (told_pointer (pointer_by n a known)) (ap told_pointer part) made

-- the place of a member
pub of_place_member :
    {E : Type 0} (r : Result declared_pointer.PointerCode E) (ks : List MonType) (n : Names) (known : Known) (a : LogicTerm) (d : ℕ) (x : declared_pointer.PointerCode)
    → pointer_of x ks ≡ place_by n a known → IfOk r (λ c. pointer_of c [] ≡ member_code d (pointer_of x [])) → IfOk r (λ c. pointer_of c ks ≡ member_code d (place_by n a known))
of_place_member r ks n known a d x part made =
    IfOk-weaker r (λ c. pointer_of c [] ≡ member_code d (pointer_of x [])) (λ c. pointer_of c ks ≡ member_code d (place_by n a known))
    (λ c h. ap (λ (y : PointerCode). record y { used = ks }) h ∙ ap (member_code d) part) made

-- ---- predicates of one part

module _ {E : Type 0} (r : Result declared.Code E) (ks : List MonType) (n : Names) (known : Known) (at : Place) where
  pub of_nonzero :
      (a : LogicTerm) (k : MonType) (x : declared.Code) → k ≡ type_of a → code_of x ks ≡ term_by n a known
      → IfOk r (λ c. code_of c [] ≡ with_value (Binary Ne k (plain_expr x.value) (Constant k (pos 0))) (code_of x []))
      → IfOk r (λ c. code_of c ks ≡ pred_by n (logic.NonZero at a) known)
  of_nonzero a k x k_is part made =
      IfOk-weaker r (λ c. code_of c [] ≡ with_value (Binary Ne k (plain_expr x.value) (Constant k (pos 0))) (code_of x [])) (λ c. code_of c ks ≡ pred_by n (logic.NonZero at a) known)
      (λ c h. ap (λ (y : Code). record y { used = ks }) h ∙ (λ i. with_value (Binary Ne (k_is i) (part i).value (Constant (k_is i) (pos 0))) (part i))) made

  pub of_denied :
      (q : Predicate) (x : declared.Code) → code_of x ks ≡ pred_by n q known
      → IfOk r (λ c. code_of c [] ≡ with_value (Binary Eq I32 (plain_expr x.value) (Constant I32 (pos 0))) (code_of x []))
      → IfOk r (λ c. code_of c ks ≡ pred_by n (logic.Not at q) known)
  of_denied q x part made =
      IfOk-weaker r (λ c. code_of c [] ≡ with_value (Binary Eq I32 (plain_expr x.value) (Constant I32 (pos 0))) (code_of x [])) (λ c. code_of c ks ≡ pred_by n (logic.Not at q) known)
      (λ c h. ap (λ (y : Code). record y { used = ks }) h ∙ (λ i. with_value (Binary Eq I32 (part i).value (Constant I32 (pos 0))) (part i))) made

  pub of_separated :
      (js : List MonType) (zs : Zones) (x : declared_zones.ZonesCode) → zones_of x js ≡ zones_by n zs known → IfOk r (λ c. code_of c ks ≡ separated_code (zones_of x js))
      → IfOk r (λ c. code_of c ks ≡ pred_by n (logic.Separated at zs) known)
  of_separated js zs x part made =
      IfOk-weaker r (λ c. code_of c ks ≡ separated_code (zones_of x js)) (λ c. code_of c ks ≡ pred_by n (logic.Separated at zs) known) (λ c h. h ∙ ap separated_code part) made

-- ---- a whole from its form

module _ {E : Type 0} (ks : List MonType) (n : Names) (known : Known) where
  module _ (t : Term) {k : TermKind} (is : t.kind.value ≡ k) where
    pub term_at :
        (r : Result declared.Code E)
        → IfOk r (λ c. code_of c ks ≡ term_by n (plain_term_kind t.place k (option_map plain_type t.ctype) t.range) known)
        → IfOk r (λ c. code_of c ks ≡ term_by n (plain_term t) known)
    term_at r = subst (λ x. IfOk r (λ c. code_of c ks ≡ term_by n x known)) (ap (λ x. plain_term_kind t.place x (option_map plain_type t.ctype) t.range) (sym is))

    pub pointer_at :
        (r : Result declared_pointer.PointerCode E)
        → IfOk r (λ c. pointer_of c ks ≡ pointer_by n (plain_term_kind t.place k (option_map plain_type t.ctype) t.range) known)
        → IfOk r (λ c. pointer_of c ks ≡ pointer_by n (plain_term t) known)
    pointer_at r = subst (λ x. IfOk r (λ c. pointer_of c ks ≡ pointer_by n x known)) (ap (λ x. plain_term_kind t.place x (option_map plain_type t.ctype) t.range) (sym is))

    pub place_at :
        (r : Result declared_pointer.PointerCode E)
        → IfOk r (λ c. pointer_of c ks ≡ place_by n (plain_term_kind t.place k (option_map plain_type t.ctype) t.range) known)
        → IfOk r (λ c. pointer_of c ks ≡ place_by n (plain_term t) known)
    place_at r = subst (λ x. IfOk r (λ c. pointer_of c ks ≡ place_by n x known)) (ap (λ x. plain_term_kind t.place x (option_map plain_type t.ctype) t.range) (sym is))

  module _ (q : Pred) {k : PredKind} (is : q.kind.value ≡ k) where
    pub pred_at : (r : Result declared.Code E) → IfOk r (λ c. code_of c ks ≡ pred_by n (plain_pred_kind q.place k) known) → IfOk r (λ c. code_of c ks ≡ pred_by n (plain_pred q) known)
    pred_at r = subst (λ x. IfOk r (λ c. code_of c ks ≡ pred_by n x known)) (ap (plain_pred_kind q.place) (sym is))

  module _ (z : zone_tree.Zone) {k : ZoneKind} (is : z.kind.value ≡ k) where
    pub zone_at :
        (r : Result declared_zone.ZoneCode E) → IfOk r (λ c. zone_of c ks ≡ zone_by n (plain_zone_kind z.place z.size z.align k) known) → IfOk r (λ c. zone_of c ks ≡ zone_by n (plain_zone z) known)
    zone_at r = subst (λ x. IfOk r (λ c. zone_of c ks ≡ zone_by n x known)) (ap (plain_zone_kind z.place z.size z.align) (sym is))
