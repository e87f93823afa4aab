-- The code of chains and of predicates of two parts as the program writes it, from the code of their parts.
use Rattle.std.proofs.Common.{◌≡◌, List, [], ◌++◌, Result, IfOk, refl, ap, sym, ◌∙◌}
use Rattle.std.proofs.lemmas.Result.{IfOk-weaker}
use Rattle.c_syntax.specs.declared.annotation.Relation.{Relation}
use Rattle.c_syntax.specs.declared.logic.Connective.{Connective}
use Rattle.c_syntax.specs.declared.logic.Connective.TheVariants as connective
use Rattle.c_syntax.specs.declared.place.Place.{Place}
use Rattle.c_syntax.specs.Logic.{LogicTerm, Links, NoLink, Linked, Predicate}
use Rattle.c_syntax.specs.Logic as logic
use Rattle.c_syntax.specs.Programs.{TranslationUnit, plain_program}
use Rattle.mon_syntax.specs.declared.tree.MonType.{MonType}
use Rattle.mon_syntax.specs.declared.tree.MonType.TheVariants.{I32}
use Rattle.mon_syntax.specs.Registers.{Bindings, Names}
use Rattle.c_effects.specs.Named.{unit_of}
use Rattle.annot_pieces.specs.declared.piece.Code as declared
use Rattle.annot_pieces.specs.declared.side.Side as declared_side
use Rattle.annot_pieces.specs.declared.side.Side.TheVariants as side
use Rattle.annot_simulation.specs.Code.{Code, Side, OfNumber, OfPointer, again, branch, chain_code, connected, known_at_right, pred_code, related_code}
use Rattle.annot_simulation.specs.Code.{side_code, sure_readings, sure_readings_of_term}
use Rattle.annot_pieces.specs.Plain.{Known, chain_by, code_of, known_with, more_links, pred_by, side_by_names, side_of}
use Rattle.annot_code.proofs.Pairs.{connected_first, related_first, then_part, used_is}

-- ---- sides

-- a side after registers of these types
abbrev re_used : List MonType → Side → Side
re_used ks (OfNumber c) = OfNumber (record c { used = ks })
re_used ks (OfPointer c) = OfPointer (record c { used = ks })

re_used_is : (x : declared_side.Side) (js ks : List MonType) → re_used ks (side_of x js) ≡ side_of x ks
re_used_is (side.Number c) js ks = refl
re_used_is (side.Pointer c) js ks = refl

again_re_used : (x : declared_side.Side) (js ks rs : List MonType) → re_used rs (again (side_of x js) []) ≡ again (side_of x ks) rs
again_re_used (side.Number c) js ks rs = refl
again_re_used (side.Pointer c) js ks rs = refl

next_again : (next x : declared_side.Side) (ks rs : List MonType) → side_of next [] ≡ again (side_of x []) [] → side_of next rs ≡ again (side_of x ks) rs
next_again next x ks rs e = sym (re_used_is next [] rs) ∙ ap (re_used rs) e ∙ again_re_used x [] ks rs

-- the place of a link plays no part
linked_place :
    (p : TranslationUnit) (bound : Bindings) (at at2 : Place) (r : Relation) (t u : LogicTerm) (x : Side) (rest : Links) (known : Known)
    → chain_code p bound known.plan t x (Linked at r u rest) known.held known.readings
    ≡ chain_code p bound known.plan t x (Linked at2 r u rest) known.held known.readings
linked_place p bound at at2 r t u x NoLink known = refl
linked_place p bound at at2 r t u x (Linked at3 r2 v rest) known = refl

module _ {E : Type 0} (r : Result declared.Code E) (ks : List MonType) where
  -- the same code, by another name
  same : (X Y : Code) → X ≡ Y → IfOk r (λ c. code_of c ks ≡ X) → IfOk r (λ c. code_of c ks ≡ Y)
  same X Y e h = IfOk-weaker r (λ c. code_of c ks ≡ X) (λ c. code_of c ks ≡ Y) (λ c h. h ∙ e) h

  -- ---- chains

  -- the place of a link plays no part
  pub of_linked :
      (n : Names) (t u : LogicTerm) (x : Side) (at at2 : Place) (relation : Relation) (rest : Links) (known : Known)
      → IfOk r (λ c. code_of c ks ≡ chain_by n t x (Linked at relation u rest) known) → IfOk r (λ c. code_of c ks ≡ chain_by n t x (Linked at2 relation u rest) known)
  of_linked n t u x at at2 relation rest known made =
      same (chain_by n t x (Linked at relation u rest) known) (chain_by n t x (Linked at2 relation u rest) known)
      (linked_place (unit_of n) n.table.bound at at2 relation t u x rest known) made

  -- the right side of the last relation
  pub of_last :
      (n0 n1 : Names) (t u : LogicTerm) (x y : declared_side.Side) (at : Place) (relation : Relation) (rest : Links) (known : Known) → rest ≡ NoLink
      → side_of y n1.table.kinds ≡ side_by_names n0 u known → IfOk r (λ c. code_of c ks ≡ related_code relation t u (side_of x []) (side_of y n1.table.kinds))
      → IfOk r (λ c. code_of c ks ≡ chain_by n0 t (side_of x n0.table.kinds) (Linked at relation u rest) known)
  of_last n0 n1 t u x y at relation rest known is second made =
      let k0 = n0.table.kinds in
      let right = second ∙ ap (λ l. side_code (unit_of n0) n0.table.bound known.plan u known.held known.readings l) (sym (used_is x k0)) in
      same (related_code relation t u (side_of x []) (side_of y n1.table.kinds)) (chain_by n0 t (side_of x k0) (Linked at relation u rest) known)
      (related_first relation t u x (side_of y n1.table.kinds) [] k0 ∙ ap (λ s. related_code relation t u (side_of x k0) s) right
      ∙ ap (λ l. chain_by n0 t (side_of x k0) (Linked at relation u l) known) (sym is)) made

  -- the right side of a relation that others follow
  pub of_next :
      (n0 n1 : Names) (t u v : LogicTerm) (x y : declared_side.Side) (at at2 : Place) (relation relation2 : Relation) (rest last : Links) (known : Known) → rest ≡ Linked at2 relation2 v last
      → side_of y n1.table.kinds ≡ side_by_names n0 u known → n1.program ≡ n0.program → n1.table.bound ≡ n0.table.bound
      → IfOk r (λ c. code_of c ks ≡ more_links (unit_of n1) n1.table.bound relation t u (side_of x []) (side_of y n1.table.kinds) rest known)
      → IfOk r (λ c. code_of c ks ≡ chain_by n0 t (side_of x n0.table.kinds) (Linked at relation u rest) known)
  of_next n0 n1 t u v x y at at2 relation relation2 rest last known is second program bound made =
      let k0 = n0.table.kinds in
      let right = second ∙ ap (λ l. side_code (unit_of n0) n0.table.bound known.plan u known.held known.readings l) (sym (used_is x k0)) in
      let more = known.readings ++ (sure_readings_of_term t ++ sure_readings_of_term u) in
      same (more_links (unit_of n1) n1.table.bound relation t u (side_of x []) (side_of y n1.table.kinds) rest known) (chain_by n0 t (side_of x k0) (Linked at relation u rest) known)
      (ap (λ (z : Code). connected connective.And z (chain_code (unit_of n1) n1.table.bound known.plan u (again (side_of y n1.table.kinds) z.used) rest known.held more))
      (related_first relation t u x (side_of y n1.table.kinds) [] k0)
      ∙ (λ i. more_links (plain_program (program i)) (bound i) relation t u (side_of x k0) (right i) (is i) known)
      ∙ ap (λ l. chain_by n0 t (side_of x k0) (Linked at relation u l) known) (sym is)) made

  -- a relation, and those that follow it
  pub of_more_links :
      (n0 n1 : Names) (k2 : List MonType) (t u : LogicTerm) (x y next : declared_side.Side) (relation : Relation) (rest : Links) (known more : Known) (first others : declared.Code)
      → side_of next [] ≡ again (side_of y []) [] → code_of first n1.table.kinds ≡ related_code relation t u (side_of x []) (side_of y n0.table.kinds)
      → n1.program ≡ n0.program → n1.table.bound ≡ n0.table.bound → more ≡ known_with (known.readings ++ (sure_readings_of_term t ++ sure_readings_of_term u)) known
      → code_of others k2 ≡ chain_by n1 u (side_of next n1.table.kinds) rest more → IfOk r (λ c. code_of c ks ≡ connected connective.And (code_of first []) (code_of others k2))
      → IfOk r (λ c. code_of c ks ≡ more_links (unit_of n0) n0.table.bound relation t u (side_of x []) (side_of y n0.table.kinds) rest known)
  of_more_links n0 n1 k2 t u x y next relation rest known more first others next_is first_is program bound more_is last made =
      let k0 = n0.table.kinds in
      let left = next_again next y k0 n1.table.kinds next_is ∙ (λ i. again (side_of y k0) (first_is i).used) in
      let others_is = last ∙ (λ i. chain_code (plain_program (program i)) (bound i) (more_is i).plan u (left i) rest (more_is i).held (more_is i).readings) in
      same (connected connective.And (code_of first []) (code_of others k2)) (more_links (unit_of n0) n0.table.bound relation t u (side_of x []) (side_of y k0) rest known)
      (connected_first connective.And (code_of first []) (code_of others k2) n1.table.kinds ∙ (λ i. connected connective.And (first_is i) (others_is i))) made

  pub of_chain :
      (n0 n1 : Names) (t : LogicTerm) (x : declared_side.Side) (at : Place) (links : Links) (known : Known) → side_of x n1.table.kinds ≡ side_by_names n0 t known
      → n1.program ≡ n0.program → n1.table.bound ≡ n0.table.bound → IfOk r (λ c. code_of c ks ≡ chain_by n1 t (side_of x n1.table.kinds) links known)
      → IfOk r (λ c. code_of c ks ≡ pred_by n0 (logic.Chain at t links) known)
  of_chain n0 n1 t x at links known first program bound made =
      same (chain_by n1 t (side_of x n1.table.kinds) links known) (pred_by n0 (logic.Chain at t links) known)
      (λ i. chain_code (plain_program (program i)) (bound i) known.plan t (first i) links known.held known.readings) made

  -- ---- predicates of parts

  pub of_sides :
      (n0 n1 : Names) (k2 : List MonType) (at : Place) (k : Connective) (a b : Predicate) (known more : Known) (x y : declared.Code) → code_of x n1.table.kinds ≡ pred_by n0 a known
      → n1.program ≡ n0.program → n1.table.bound ≡ n0.table.bound → more ≡ known_with (known_at_right k known.readings a) known → code_of y k2 ≡ pred_by n1 b more
      → IfOk r (λ c. code_of c ks ≡ connected k (code_of x []) (code_of y k2)) → IfOk r (λ c. code_of c ks ≡ pred_by n0 (logic.Connected at k a b) known)
  of_sides n0 n1 k2 at k a b known more x y first program bound more_is last made =
      let second = then_part (λ p bs rs. pred_code p bs more.plan b more.held more.readings rs) n0 n1 (code_of y k2) (pred_by n0 a known).used (λ i. (first i).used) program bound last in
      same (connected k (code_of x []) (code_of y k2)) (pred_by n0 (logic.Connected at k a b) known)
      (connected_first k (code_of x []) (code_of y k2) n1.table.kinds ∙ (λ i. connected k (first i) (second i))
      ∙ ap (λ (l : Known). connected k (pred_by n0 a known) (pred_code (unit_of n0) n0.table.bound l.plan b l.held l.readings (pred_by n0 a known).used)) more_is) made

  pub of_one :
      (n0 n1 n2 : Names) (k3 : List MonType) (at : Place) (q a b : Predicate) (known more more2 : Known) (z x y : declared.Code)
      → more ≡ known_with (known.readings ++ sure_readings q) known → more2 ≡ known_with (known.readings ++ sure_readings q) known → code_of z n1.table.kinds ≡ pred_by n0 q known → n1.program ≡ n0.program → n1.table.bound ≡ n0.table.bound
      → code_of x n2.table.kinds ≡ pred_by n1 a more → n2.program ≡ n1.program → n2.table.bound ≡ n1.table.bound → code_of y k3 ≡ pred_by n2 b more2
      → IfOk r (λ c. code_of c ks ≡ branch I32 (code_of z []) (code_of x []) (code_of y k3)) → IfOk r (λ c. code_of c ks ≡ pred_by n0 (logic.Branch at q a b) known)
  of_one n0 n1 n2 k3 at q a b known more more2 z x y more_is more2_is first program bound middle program2 bound2 last made =
      let after = known_with (known.readings ++ sure_readings q) known in
      let second = then_part (λ p bs rs. pred_code p bs more.plan a more.held more.readings rs) n0 n1 (code_of x n2.table.kinds) (pred_by n0 q known).used (λ i. (first i).used) program bound middle
      ∙ ap (λ (k : Known). pred_code (unit_of n0) n0.table.bound k.plan a k.held k.readings (pred_by n0 q known).used) more_is in
      let used = (pred_code (unit_of n0) n0.table.bound after.plan a after.held after.readings (pred_by n0 q known).used).used in
      let third = then_part (λ p bs rs. pred_code p bs more2.plan b more2.held more2.readings rs) n0 n2 (code_of y k3) used (λ i. (second i).used) (program2 ∙ program) (bound2 ∙ bound) last
      ∙ ap (λ (k : Known). pred_code (unit_of n0) n0.table.bound k.plan b k.held k.readings used) more2_is in
      same (branch I32 (code_of z []) (code_of x []) (code_of y k3)) (pred_by n0 (logic.Branch at q a b) known) (λ i. branch I32 (first i) (second i) (third i)) made
