use Rattle.std.proofs.Common.{◌≡◌, ◌∙◌, ℤ, pos, ◌+ℤ◌, ap, subst, rules, to_z, of_z, option_map}
use Rattle.std.proofs.lemmas.Int.{ints, to_z-of_z}
use Rattle.std.specs.Prelude.{IfOk, OnOk}
use Rattle.std.specs.Int.{w128}
use Rattle.c_syntax.specs.declared.types.CInt.TheVariants.{I32}
use Rattle.c_syntax.specs.Expressions.{plain_expr}
use Rattle.c_model.specs.Integers.{fits}
use Rattle.c_model.specs.DeclarationTyping.{with_enumerator}
use Rattle.c_model.specs.UnitTyping.{value_typed}
use Rattle.c_scopes.specs.Sights.{plain_sight}
use Rattle.c_typing.proofs.noted_file.see_next.Goals as goal

pub see_value-requires : goal.see_value-requires
see_value-requires c =
    let same : to_z w128 (of_z w128 c.args.next) ≡ c.args.next = search (rules, ints, to_z-of_z) in
    let value : to_z w128 (of_z w128 c.value_typed-value.result) ≡ c.value_typed-value.result = search (rules, ints, to_z-of_z) in
    ap (fits I32) (value ∙ c.value_typed-value.ensures ∙ ap (λ n. value_typed (plain_sight c.args.sight.now) n (option_map plain_expr c.args.e.now.value)) same) ∙ c.requires.fits

pub returns-clause-seen : goal.returns-clause-seen
returns-clause-seen c =
    let s = plain_sight c.args.sight.now in
    let same : to_z w128 (of_z w128 c.args.next) ≡ c.args.next = search (rules, ints, to_z-of_z) in
    let value : to_z w128 (of_z w128 c.value_typed-value.result) ≡ c.value_typed-value.result = search (rules, ints, to_z-of_z) in
    let is = value ∙ c.value_typed-value.ensures ∙ ap (λ n. value_typed s n (option_map plain_expr c.args.e.now.value)) same in
    subst (λ z. OnOk c.see_value.result (plain_sight c.see_value.new.sight ≡ with_enumerator s c.args.e.now.name z)) is c.see_value.ensures.seen

pub returns-clause-next : goal.returns-clause-next
returns-clause-next c =
    let s = plain_sight c.args.sight.now in
    let same : to_z w128 (of_z w128 c.args.next) ≡ c.args.next = search (rules, ints, to_z-of_z) in
    let value : to_z w128 (of_z w128 c.value_typed-value.result) ≡ c.value_typed-value.result = search (rules, ints, to_z-of_z) in
    let is = value ∙ c.value_typed-value.ensures ∙ ap (λ n. value_typed s n (option_map plain_expr c.args.e.now.value)) same in
    subst (λ z. IfOk c.see_value.result (λ (y : ℤ). y ≡ z +ℤ pos 1)) is c.see_value.ensures.next
