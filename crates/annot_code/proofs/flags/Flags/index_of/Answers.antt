use Rattle.std.proofs.Common.{◌≡◌, ◌+◌, Some, None, length, map, nat_eq, ap, sym, ◌∙◌, rules}
use Rattle.std.proofs.lemmas.List.{length-map}
use Rattle.std.proofs.lemmas.Result.{IfOk-weaker}
use Rattle.indexmap.specs.IndexMap.{get}
use Rattle.c_syntax.specs.Programs.{plain_behavior}
use Rattle.annot_simulation.specs.ContractCode.{flag_named}
use Rattle.annot_code.proofs.Checks.{flag_is, index_or}
use Rattle.annot_code.proofs.flags.Flags.index_of.Goals as goal

pub returns-in-Some : goal.returns-in-Some
returns-in-Some c =
    let self = c.args.self.now in
    let bs = map plain_behavior self.behaviors.now in
    let there : get nat_eq self.indices c.args.name ≡ Some c.in-Some.index.now = search rules in
    ap (λ o. self.first + index_or (length bs) o) (sym there ∙ self.found c.args.name) ∙ sym (flag_is c.args.name self.first bs)

pub returns-in-None : goal.returns-in-None
returns-in-None c =
    let self = c.args.self.now in
    let bs = map plain_behavior self.behaviors.now in
    let there : get nat_eq self.indices c.args.name ≡ None = search rules in
    IfOk-weaker c.numbered.result (λ i. i ≡ length self.behaviors.now) (λ i. self.first + i ≡ flag_named c.args.name self.first bs)
    (λ i h. ap (λ n. self.first + n) (h ∙ sym (length-map self.behaviors.now plain_behavior)) ∙ ap (λ o. self.first + index_or (length bs) o) (sym there ∙ self.found c.args.name)
    ∙ sym (flag_is c.args.name self.first bs)) c.numbered.ensures.number
