-- The code of pointers and of zones of more than one part as the program writes it, from the code of their parts.
use Rattle.std.proofs.Common.{◌≡◌, ℕ, List, [], ◌++◌, Option, Result, IfOk, refl, ap, sym, ◌∙◌}
use Rattle.std.proofs.lemmas.Result.{IfOk-weaker}
use Rattle.c_syntax.specs.declared.annotation.Range.{Range}
use Rattle.c_syntax.specs.declared.logic.MemoryQuestion.{MemoryQuestion}
use Rattle.c_syntax.specs.declared.logic.PointerOp.{PointerOp}
use Rattle.c_syntax.specs.declared.logic.Zone as zone_tree
use Rattle.c_syntax.specs.declared.logic.ZoneKind.{ZoneKind}
use Rattle.c_syntax.specs.declared.logic.ZoneKind as zone_kind
use Rattle.c_syntax.specs.declared.place.Place.{Place}
use Rattle.c_syntax.specs.Ctypes.{PlainType}
use Rattle.c_syntax.specs.Logic.{LogicTerm, Predicate, Zone, Zones, Another, plain_zone_kind}
use Rattle.c_syntax.specs.Logic as logic
use Rattle.c_model.specs.Predicates.{alignment_of}
use Rattle.c_model.specs.Ranges.{width_of_range}
use Rattle.mon_syntax.specs.declared.tree.MonType.{MonType}
use Rattle.mon_syntax.specs.Registers.{Names}
use Rattle.c_effects.specs.Named.{unit_of}
use Rattle.annot_pieces.specs.declared.piece.Code as declared
use Rattle.annot_pieces.specs.declared.pointer.PointerCode as declared_pointer
use Rattle.annot_pieces.specs.declared.zone.ZoneCode as declared_zone
use Rattle.annot_pieces.specs.declared.zone.ZonesCode as declared_zones
use Rattle.annot_simulation.specs.Code.{pointer_code, sure_readings, term_code, type_of, type_of_width, zones_code}
use Rattle.annot_simulation.specs.Pointers.{PointerCode, ZoneCode, ZonesCode, another_zone, branch_pointer, difference_code, elements_code, moved_code, object_code}
use Rattle.annot_simulation.specs.Pointers.{zone_asked}
use Rattle.annot_pieces.specs.Plain.{Known, asks_of, code_of, known_with, plain_zone, pointer_by, pointer_of, pred_by, term_by, zone_by, zone_of, zones_by, zones_of}
use Rattle.annot_code.proofs.Pairs.{branch_first, then_part}

module _ {E : Type 0} (r : Result declared_pointer.PointerCode E) (ks : List MonType) where
  pub of_moved :
      (at : Place) (t : Option PlainType) (range : Range) (op : PointerOp) (n : ℕ) (k : MonType) (n0 n1 : Names) (a b : LogicTerm) (known : Known) (c : declared_pointer.PointerCode)
      (x : declared.Code) → k ≡ type_of b → pointer_of c n1.table.kinds ≡ pointer_by n0 a known → n1.program ≡ n0.program → n1.table.bound ≡ n0.table.bound → code_of x ks ≡ term_by n1 b known
      → IfOk r (λ p. pointer_of p [] ≡ moved_code op n (pointer_of c []) k (code_of x []))
      → IfOk r (λ p. pointer_of p ks ≡ pointer_by n0 (logic.Moved at t range op n a b) known)
  of_moved at t range op n k n0 n1 a b known c x k_is first program bound last made =
      let second = then_part (λ p bs rs. term_code p bs known.plan b known.held known.readings rs) n0 n1 (code_of x ks) (pointer_by n0 a known).used (λ i. (first i).used) program bound last in
      IfOk-weaker r (λ p. pointer_of p [] ≡ moved_code op n (pointer_of c []) k (code_of x [])) (λ p. pointer_of p ks ≡ pointer_by n0 (logic.Moved at t range op n a b) known)
      (λ p h. ap (λ (y : PointerCode). record y { used = ks }) h ∙ (λ i. moved_code op n (first i) (k_is i) (second i))) made

  pub of_pointer_choice :
      (at : Place) (t : Option PlainType) (range : Range) (n0 n1 n2 : Names) (k3 : List MonType) (q : Predicate) (a b : LogicTerm) (known more more2 : Known) (z : declared.Code)
      (x y : declared_pointer.PointerCode) → more ≡ known_with (known.readings ++ sure_readings q) known → more2 ≡ known_with (known.readings ++ sure_readings q) known
      → code_of z n1.table.kinds ≡ pred_by n0 q known → n1.program ≡ n0.program → n1.table.bound ≡ n0.table.bound
      → pointer_of x n2.table.kinds ≡ pointer_by n1 a more → n2.program ≡ n1.program → n2.table.bound ≡ n1.table.bound → pointer_of y k3 ≡ pointer_by n2 b more2
      → IfOk r (λ c. pointer_of c ks ≡ branch_pointer (code_of z []) (pointer_of x []) (pointer_of y k3))
      → IfOk r (λ c. pointer_of c ks ≡ pointer_by n0 (logic.Choice at t range q a b) known)
  of_pointer_choice at t range n0 n1 n2 k3 q a b known more more2 z x y more_is more2_is first program bound middle program2 bound2 last made =
      let after = known_with (known.readings ++ sure_readings q) known in
      let second = then_part (λ p bs rs. pointer_code p bs more.plan a more.held more.readings rs) n0 n1 (pointer_of x n2.table.kinds) (pred_by n0 q known).used (λ i. (first i).used) program bound middle
      ∙ ap (λ (k : Known). pointer_code (unit_of n0) n0.table.bound k.plan a k.held k.readings (pred_by n0 q known).used) more_is in
      let used = (pointer_code (unit_of n0) n0.table.bound after.plan a after.held after.readings (pred_by n0 q known).used).used in
      let third = then_part (λ p bs rs. pointer_code p bs more2.plan b more2.held more2.readings rs) n0 n2 (pointer_of y k3) used (λ i. (second i).used) (program2 ∙ program) (bound2 ∙ bound) last
      ∙ ap (λ (k : Known). pointer_code (unit_of n0) n0.table.bound k.plan b k.held k.readings used) more2_is in
      let x0 = pointer_of x [] in
      IfOk-weaker r (λ c. pointer_of c ks ≡ branch_pointer (code_of z []) x0 (pointer_of y k3)) (λ c. pointer_of c ks ≡ pointer_by n0 (logic.Choice at t range q a b) known)
      (λ c h. h ∙ branch_first (code_of z []) x0.stmts x0.flag x0.base x0.offset (pointer_of y k3) [] n2.table.kinds ∙ (λ i. branch_pointer (first i) (second i) (third i))) made

pub of_difference :
    {E : Type 0} (r : Result declared.Code E) (ks : List MonType) (at : Place) (t : Option PlainType) (range : Range) (n : ℕ) (w : MonType) (n0 n1 : Names) (k2 : List MonType) (a b : LogicTerm)
    (known : Known) (c d : declared_pointer.PointerCode) → w ≡ type_of_width (width_of_range range)
    → pointer_of c n1.table.kinds ≡ pointer_by n0 a known → n1.program ≡ n0.program → n1.table.bound ≡ n0.table.bound → pointer_of d k2 ≡ pointer_by n1 b known
    → IfOk r (λ p. code_of p ks ≡ difference_code w n (pointer_of c []) (pointer_of d k2)) → IfOk r (λ p. code_of p ks ≡ term_by n0 (logic.Difference at t range n a b) known)
of_difference r ks at t range n w n0 n1 k2 a b known c d w_is first program bound last made =
    let second = then_part (λ p bs rs. pointer_code p bs known.plan b known.held known.readings rs) n0 n1 (pointer_of d k2) (pointer_by n0 a known).used (λ i. (first i).used) program bound last in
    IfOk-weaker r (λ p. code_of p ks ≡ difference_code w n (pointer_of c []) (pointer_of d k2)) (λ p. code_of p ks ≡ term_by n0 (logic.Difference at t range n a b) known)
    (λ p h. h ∙ (λ i. difference_code (w_is i) n (first i) (second i))) made

-- ---- zones

pub of_object :
    {E : Type 0} (r : Result declared_zone.ZoneCode E) (ks : List MonType) (n0 : Names) (z : Zone) (at : Place) (n m : ℕ) (a : LogicTerm) (known : Known) (c : declared_pointer.PointerCode)
    → z ≡ logic.Object at n m a → pointer_of c ks ≡ pointer_by n0 a known → IfOk r (λ p. zone_of p [] ≡ object_code n (pointer_of c [])) → IfOk r (λ p. zone_of p ks ≡ zone_by n0 z known)
of_object r ks n0 z at n m a known c is first made =
    IfOk-weaker r (λ p. zone_of p [] ≡ object_code n (pointer_of c [])) (λ p. zone_of p ks ≡ zone_by n0 z known)
    (λ p h. ap (λ (v : ZoneCode). record v { pointer = record v.pointer { used = ks } }) h ∙ ap (λ x. object_code n x) first ∙ ap (λ y. zone_by n0 y known) (sym is)) made

alignment_of_kind : (at : Place) (n m : ℕ) (k : ZoneKind) → alignment_of (plain_zone_kind at n m k) ≡ m
alignment_of_kind at n m (zone_kind.Object' pa p a ta ra) = refl
alignment_of_kind at n m (zone_kind.Elements' pa p a ta ra pb q b tb rb pc o c tc rc) = refl

pub of_asks :
    {E : Type 0} (r : Result declared.Code E) (ks : List MonType) (n0 n1 : Names) (f : MemoryQuestion) (z : zone_tree.Zone) (known : Known) (c : declared_zone.ZoneCode)
    → zone_of c n1.table.kinds ≡ zone_by n0 (plain_zone z) known → IfOk r (λ p. code_of p ks ≡ zone_asked f z.align (zone_of c n1.table.kinds))
    → IfOk r (λ p. code_of p ks ≡ pred_by n0 (asks_of f z) known)
of_asks r ks n0 n1 f z known c first made =
    let align = sym (alignment_of_kind z.place z.size z.align z.kind.value) in
    IfOk-weaker r (λ p. code_of p ks ≡ zone_asked f z.align (zone_of c n1.table.kinds)) (λ p. code_of p ks ≡ pred_by n0 (asks_of f z) known)
    (λ p h. h ∙ (λ i. zone_asked f (align i) (first i))) made

pub of_elements :
    {E : Type 0} (r : Result declared_zone.ZoneCode E) (ks : List MonType) (at : Place) (n m : ℕ) (k l : MonType) (n0 n1 n2 : Names) (a lo hi : LogicTerm) (known : Known)
    (c : declared_pointer.PointerCode) (x y : declared.Code) → k ≡ type_of lo → l ≡ type_of hi → pointer_of c n1.table.kinds ≡ pointer_by n0 a known → n1.program ≡ n0.program
    → n1.table.bound ≡ n0.table.bound → code_of x n2.table.kinds ≡ term_by n1 lo known → n2.program ≡ n1.program → n2.table.bound ≡ n1.table.bound → code_of y ks ≡ term_by n2 hi known
    → IfOk r (λ z. zone_of z [] ≡ elements_code n (pointer_of c []) k l (code_of x []) (code_of y [])) → IfOk r (λ z. zone_of z ks ≡ zone_by n0 (logic.Elements at n m a lo hi) known)
of_elements r ks at n m k l n0 n1 n2 a lo hi known c x y k_is l_is first program bound middle program2 bound2 last made =
    let second = then_part (λ p bs rs. term_code p bs known.plan lo known.held known.readings rs) n0 n1 (code_of x n2.table.kinds) (pointer_by n0 a known).used (λ i. (first i).used) program bound middle in
    let used = (term_code (unit_of n0) n0.table.bound known.plan lo known.held known.readings (pointer_by n0 a known).used).used in
    let third = then_part (λ p bs rs. term_code p bs known.plan hi known.held known.readings rs) n0 n2 (code_of y ks) used (λ i. (second i).used) (program2 ∙ program) (bound2 ∙ bound) last in
    IfOk-weaker r (λ z. zone_of z [] ≡ elements_code n (pointer_of c []) k l (code_of x []) (code_of y [])) (λ z. zone_of z ks ≡ zone_by n0 (logic.Elements at n m a lo hi) known)
    (λ z h. ap (λ (v : ZoneCode). record v { pointer = record v.pointer { used = ks } }) h ∙ (λ i. elements_code n (first i) (k_is i) (l_is i) (second i) (third i))) made

pub of_more_zones :
    {E : Type 0} (r : Result declared_zones.ZonesCode E) (ks : List MonType) (n0 n1 : Names) (z : Zone) (rest : Zones) (known : Known) (c : declared_zone.ZoneCode) (others : declared_zones.ZonesCode)
    → zone_of c n1.table.kinds ≡ zone_by n0 z known → n1.program ≡ n0.program → n1.table.bound ≡ n0.table.bound → zones_of others ks ≡ zones_by n1 rest known
    → IfOk r (λ p. zones_of p [] ≡ another_zone (zone_of c []) (zones_of others [])) → IfOk r (λ p. zones_of p ks ≡ zones_by n0 (Another z rest) known)
of_more_zones r ks n0 n1 z rest known c others first program bound last made =
    let second = then_part (λ p bs rs. zones_code p bs known.plan rest known.held known.readings rs) n0 n1 (zones_of others ks) (zone_by n0 z known).pointer.used (λ i. (first i).pointer.used) program bound last in
    IfOk-weaker r (λ p. zones_of p [] ≡ another_zone (zone_of c []) (zones_of others [])) (λ p. zones_of p ks ≡ zones_by n0 (Another z rest) known)
    (λ p h. ap (λ (y : ZonesCode). record y { used = ks }) h ∙ (λ i. another_zone (first i) (second i))) made
