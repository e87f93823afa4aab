use Rattle.std.proofs.Common.{◌≡◌, ◌<◌, ◌+◌, ℕ, drop, length, map, refl, ap, subst, sym, ◌∙◌, ◌++◌, ◌∷◌, []}
use Rattle.std.specs.Prelude.{nat_eq}
use Rattle.c_syntax.specs.Programs.{plain_func, plain_program}
use Rattle.mon_syntax.specs.Trees.{plain_func as plain_monitored_func}
use Rattle.c_initialisers.specs.Letters.{InitialsHaveLetters}
use Rattle.instrument.specs.Limits.{FunctionHasNumbers, FunctionsHaveNumbers}
use Rattle.instrument.specs.Translation.{front_temporaries, functions_from}
use Rattle.c_effects.proofs.Sequences.{left_at, none_left, complete}
use Rattle.instrument.proofs.Definitions.{count_after, more_functions}
use Rattle.instrument.proofs.program.functions.Goals as goal

pub returns-clause-code : goal.returns-clause-code
returns-clause-code c =
    let p = plain_program c.args.p.now in
    let fs = c.deref-f-items.result.now in
    complete (map plain_monitored_func c.funcs.functions.items) (none_left (λ l. functions_from p c.args.main (length c.funcs.functions.items) (map plain_func l)) fs c.funcs.f-index c.funcs-test.false) c.funcs.invariant.code
    ∙ ap (λ l. functions_from p c.args.main 0 (map plain_func l)) c.deref-f-items.ensures.value

pub returns-clause-numbers : goal.returns-clause-numbers
returns-clause-numbers c =
    let p = plain_program c.args.p.now in
    let fs = c.deref-f-items.result.now in
    subst (λ l. FunctionsHaveNumbers p c.args.main 0 (map plain_func l)) c.deref-f-items.ensures.value
    (c.funcs.invariant.numbers (subst (FunctionsHaveNumbers p c.args.main (length c.funcs.functions.items)) (sym (none_left (map plain_func) fs c.funcs.f-index c.funcs-test.false)) tt))

pub funcs-preserved : goal.funcs-preserved
funcs-preserved c =
    let p = plain_program c.args.p.now in
    let main = c.args.main in
    let fs = c.deref-f-items.result.now in
    let f = c.f-item.result in
    let old = c.funcs.functions.items in
    let new = c.add.new.to.items in
    let unit : plain_program c.funcs.names.program ≡ p = ap plain_program c.funcs.invariant.program in
    let left = left_at (map plain_func) fs c.funcs.f-index _ _ c.funcs-test.true c.f-item.is refl in
    let put = c.in_ok-add.ensures.code ∙ ap (λ q. map plain_monitored_func old ++ functions_from q main (length old) (plain_func f ∷ [])) unit in
    record {
      code = more_functions p main fs c.funcs.f-index f old new c.funcs-test.true c.f-item.is put c.funcs.invariant.code;
      program = c.in_ok-add.ensures.program ∙ c.funcs.invariant.program;
      numbers = λ rest. c.funcs.invariant.numbers (subst (FunctionsHaveNumbers p main (length old)) (sym left) (
        λ defined. subst (λ q. FunctionHasNumbers q (front_temporaries q (nat_eq (length old) main)) (plain_func f)) unit (c.in_ok-add.ensures.numbers defined),
        subst (λ (k : ℕ). FunctionsHaveNumbers p main k (map plain_func (drop (c.funcs.f-index + 1) fs))) (count_after p main f old new put) rest,
      ));
      letters = subst (λ q. (main < length old → InitialsHaveLetters q.globals) → main < length new → InitialsHaveLetters q.globals) unit c.in_ok-add.ensures.letters c.funcs.invariant.letters;
    }
