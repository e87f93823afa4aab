use Rattle.std.proofs.Common.{◌≡◌, ℕ, ◌+◌, ◌∷◌, drop, map, nat_eq, refl, sym, ap, ◌∙◌, arith}
use Rattle.indexmap.specs.IndexMap.{get}
use Rattle.c_syntax.specs.Programs.{plain_func}
use Rattle.c_model.specs.Meaning.{is_definition}
use Rattle.mon_syntax.specs.Indices.{index_of}
use Rattle.mon_syntax.specs.Indices.{index_from}
use Rattle.mon_syntax.proofs.Indices.{left_at, none_left}
use Rattle.mon_syntax.proofs.Indices.{defined, noted, passed}
use Rattle.mon_syntax.proofs.definition.Definitions.new.Goals as goal
use Rattle.mon_syntax.proofs.definition.Definitions.new.Goals.{then-is_some+in_ok-note, else-is_some}

pub funcs-preserved : goal.funcs-preserved
funcs-preserved c =
    let fs = c.deref-f-items.result.now in
    let f = plain_func c.f-item.result in
    let rest = map plain_func (drop (c.funcs.f-index + 1) fs) in
    let found = get nat_eq c.funcs.indices in
    let count = c.funcs.count in
    let left = left_at (map plain_func) fs c.funcs.f-index _ _ c.funcs-test.true c.f-item.is refl in
    let kept : (n : ℕ) → index_from (found n) count (index_of n (f ∷ rest)) ≡ index_of n (map plain_func fs) = λ n. ap (λ l. index_from (found n) count (index_of n l)) (sym left) ∙ c.funcs.invariant.0 n in
    let is : is_definition f ≡ c.is_some.result = defined c.f-item.result.body ∙ sym c.is_some.ensures in
    elim c.if-is_some.branch [
      | then-is_some+in_ok-note w ↦ (
        (λ n. (λ i. index_from (get nat_eq (w.indices-is i) n) (w.count-is i) (index_of n rest)) ∙ noted n count f rest found (get nat_eq w.note.new.indices) (is ∙ w.if-is_some.true) (w.in_ok-note.ensures n) ∙ kept n),
        omega (arith, w.count-is, c.funcs.invariant.1),
      )
      | else-is_some w ↦ (
        (λ n. (λ i. index_from (get nat_eq (w.indices-is i) n) (w.count-is i) (index_of n rest)) ∙ passed n count f rest (found n) (is ∙ w.if-is_some.false) ∙ kept n),
        omega (arith, w.count-is, c.funcs.invariant.1),
      )
    ]

pub invariant_of-result : goal.invariant_of-result
invariant_of-result c =
    let found = c.in_ok-objects.ensures in
    record {
      indexed = λ n.
          let fs = c.deref-f-items.result.now in
          ap (λ l. index_from (get nat_eq c.funcs.indices n) c.funcs.count (index_of n l)) (sym (none_left (map plain_func) fs c.funcs.f-index (omega (arith, c.funcs-test.false))))
          ∙ c.funcs.invariant.0 n ∙ ap (λ fs. index_of n (map plain_func fs)) c.deref-f-items.ensures.value;
      globals = found.globals;
      which = found.which;
      literals = found.literals;
    }
