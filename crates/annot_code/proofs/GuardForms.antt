-- What is opened for the chains of a guard, and the code of a quantifier as the program writes it, from the code of their parts.
use Rattle.std.proofs.Common.{◌≡◌, List, [], ◌∷◌, ◌++◌, map, Result, IfOk, ap, sym, ◌∙◌}
use Rattle.std.proofs.lemmas.Result.{IfOk-weaker}
use Rattle.c_syntax.specs.declared.logic.Guard.{Guard}
use Rattle.c_syntax.specs.declared.logic.Guards as declared_guards
use Rattle.c_syntax.specs.declared.logic.Quantifier.{Quantifier}
use Rattle.c_syntax.specs.declared.place.Place.{Place}
use Rattle.c_syntax.specs.Logic.{Guards, LogicTerm, Predicate, plain_binder, plain_guards, plain_term, range_of}
use Rattle.c_syntax.specs.Logic as logic
use Rattle.c_syntax.specs.Programs.{plain_program}
use Rattle.c_model.specs.TermRanges.{lowered}
use Rattle.mon_syntax.specs.declared.tree.MonType.{MonType}
use Rattle.mon_syntax.specs.Registers.{Bindings, Names}
use Rattle.c_effects.specs.Named.{unit_of}
use Rattle.annot_pieces.specs.declared.piece.Code as declared
use Rattle.annot_simulation.specs.Code.{Code, Reading, pred_code, sure_readings_of_term, term_code}
use Rattle.annot_simulation.specs.Held.{Held}
use Rattle.annot_simulation.specs.Opened.{OpenedGuard, Within, close_guards, open_guards}
use Rattle.annot_simulation.proofs.Opened.{guards_opened}
use Rattle.annot_pieces.specs.Plain.{Known, code_of, guarded_of, held_in_guard, opened_guard, pred_by, term_by, used_in_guard, within_guards}
use Rattle.annot_pieces.proofs.Arms.{next_part}

-- what is known where these names are held and these variables were read
abbrev pub known_read : Known → List Held → List Reading → Known
known_read known held readings = record { plan = known.plan; held = held; readings = readings }

-- what is known within guards
abbrev pub known_within : Within → Known → Known
known_within w known = known_read known w.held w.known

-- what is known within a chain, where these names are held
abbrev pub known_inside : Guard → List Held → Known → Known
known_inside g held known = known_read known held (known.readings ++ (sure_readings_of_term (plain_term g.lower) ++ sure_readings_of_term (plain_term g.upper)))

-- a chain in front of what is opened
abbrev pub with_guard : OpenedGuard → Within → Within
with_guard o w = record w { guards = o ∷ w.guards }

-- a chain, and what is opened within it
pub opened_more :
    (g : Guard) (rest : declared_guards.Guards) (n0 n1 n2 n3 : Names) (known inside : Known) (x y : declared.Code) (o : OpenedGuard) (held : List Held)
    → code_of x n1.table.kinds ≡ term_by n0 (plain_term g.lower) known → n1.program ≡ n0.program → n1.table.bound ≡ n0.table.bound
    → code_of y n2.table.kinds ≡ term_by n1 (plain_term g.upper) known → n2.program ≡ n1.program → n2.table.bound ≡ n1.table.bound
    → o ≡ opened_guard g (code_of x []) (code_of y n2.table.kinds) → held ≡ held_in_guard g known.held n2.table.kinds
    → n3.table.kinds ≡ used_in_guard g n2.table.kinds → n3.program ≡ n2.program → n3.table.bound ≡ n2.table.bound → inside ≡ known_inside g held known
    → with_guard o (within_guards n3 (plain_guards rest) inside) ≡ within_guards n0 (guarded_of g rest) known
opened_more g rest n0 n1 n2 n3 known inside x y o held first program bound second program2 bound2 o_is held_is kinds program3 bound3 inside_is =
    let u = term_by n0 (plain_term g.lower) known in
    let v = term_code (unit_of n0) n0.table.bound known.plan (plain_term g.upper) known.held known.readings u.used in
    let second_is : code_of y n2.table.kinds ≡ v =
    next_part (λ p bs rs. term_code p bs known.plan (plain_term g.upper) known.held known.readings rs) n0 n1 (code_of y n2.table.kinds) u (λ i. (first i).used) program bound second in
    let used : n2.table.kinds ≡ v.used = λ i. (second_is i).used in
    let guard : o ≡ opened_guard g u v = o_is ∙ (λ i. opened_guard g (first i) (second_is i)) in
    let names : held ≡ held_in_guard g known.held v.used = held_is ∙ ap (held_in_guard g known.held) used in
    let same : inside ≡ known_inside g (held_in_guard g known.held v.used) known = inside_is ∙ ap (λ h. known_inside g h known) names in
    let programs = program3 ∙ program2 ∙ program in
    let bounds = bound3 ∙ bound2 ∙ bound in
    let taken : n3.table.kinds ≡ used_in_guard g v.used = kinds ∙ ap (used_in_guard g) used in
    let unit : unit_of n3 ≡ unit_of n0 = ap plain_program programs in
    λ i. with_guard (guard i) (open_guards (unit i) (bounds i) (same i).plan (plain_guards rest) (same i).held (same i).readings (taken i))

module _ {E : Type 0} (r : Result declared.Code E) (ks : List MonType) where
  -- the code within guards, and what is closed around it
  pub of_quantified :
      (at : Place) (q : Quantifier) (gs : Guards) (e : Predicate) (n0 n1 : Names) (k2 : List MonType) (known within : Known) (os : List OpenedGuard) (x : declared.Code)
      → os ≡ (within_guards n0 gs known).guards → n1.table.kinds ≡ (within_guards n0 gs known).used → n1.program ≡ n0.program → n1.table.bound ≡ n0.table.bound
      → within ≡ known_within (within_guards n0 gs known) known → code_of x k2 ≡ pred_by n1 e within → IfOk r (λ c. code_of c ks ≡ close_guards q os (code_of x k2))
      → IfOk r (λ c. code_of c ks ≡ pred_by n0 (logic.Quantified at q gs e) known)
  of_quantified at q gs e n0 n1 k2 known within os x os_is kinds program bound within_is inner made =
      let w = within_guards n0 gs known in
      let unit : unit_of n1 ≡ unit_of n0 = ap plain_program program in
      let inside : code_of x k2 ≡ pred_code (unit_of n0) n0.table.bound known.plan e w.held w.known w.used =
      inner ∙ (λ i. pred_code (unit i) (bound i) (within_is i).plan e (within_is i).held (within_is i).readings (kinds i)) in
      let whole = guards_opened (unit_of n0) n0.table.bound known.plan q gs (pred_code (unit_of n0) n0.table.bound known.plan e) known.held known.readings n0.table.kinds in
      IfOk-weaker r (λ c. code_of c ks ≡ close_guards q os (code_of x k2)) (λ c. code_of c ks ≡ pred_by n0 (logic.Quantified at q gs e) known)
      (λ c h. h ∙ (λ i. close_guards q (os_is i) (inside i)) ∙ sym whole) made
