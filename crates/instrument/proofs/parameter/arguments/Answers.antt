use Rattle.std.proofs.Common.{◌≡◌, ◌+◌, length, drop, map, refl, ◌∙◌, arith}
use Rattle.c_syntax.specs.Statements.{plain_decl}
use Rattle.instrument.specs.Translation.{register_name}
use Rattle.c_effects.proofs.Sequences.{left_at}
use Rattle.instrument.proofs.Entries.{argument_more}
use Rattle.mon_syntax.specs.Trees.{MonRegister}
use Rattle.instrument.proofs.parameter.arguments.Goals as goal

pub params-preserved : goal.params-preserved
params-preserved c =
    let texts = c.args.texts.now in
    let d = plain_decl c.d-item.result in
    let left = left_at (map plain_decl) c.args.params.now c.params.d-index _ _ c.params-test.true c.d-item.is refl in
    let count : c.len.result ≡ length c.params.all.items = omega (arith, c.len.ensures, c.params.all.ok) in
    let name = c.in_ok-name.ensures ∙ (λ i. register_name (count i) (c.own_name.ensures i)) in
    argument_more texts c.params.all.items c.push.new.self.items (record { kind = c.value_type-kind.result; name = c.in_ok-name.name }) d (map plain_decl (drop (c.params.d-index + 1) c.args.params.now)) left c.in_ok-push.ensures.items
    (λ i. let r : MonRegister = record { kind = c.value_type-kind.ensures i; name = name i } in r) c.params.invariant
