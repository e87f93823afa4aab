use Rattle.std.proofs.Common.{◌≡◌, ◌∙◌, sym, ap, arith, nat_eq, map, drop, []}
use Rattle.std.proofs.lemmas.List.{drop_all}
use Rattle.indexmap.specs.IndexMap.{get}
use Rattle.c_syntax.specs.Programs.{plain_func}
use Rattle.c_function_rules.proofs.Headings.{told_from, all_told}
use Rattle.c_function_rules.proofs.heading.denoted.Goals as goal

pub returns : goal.returns
returns c = λ x.
    let past = c.loop-f-test.false in
    let none : drop c.loop-f.f-index c.args.funcs.now ≡ [] = drop_all c.loop-f.f-index c.args.funcs.now (omega (arith, past)) in
    ap (λ fs. told_from (get nat_eq c.loop-f.numbers x) (map plain_func fs) x) (sym none) ∙ c.loop-f.invariant x ∙ all_told (map plain_func c.args.funcs.now) x
