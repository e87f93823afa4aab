use Rattle.std.proofs.Common.{◌≡◌, ◌<◌, ◌^◌, pos, Some, FitsSigned, rules, sym, ap, ◌∙◌}
use Rattle.std.specs.Prelude.{option_map}
use Rattle.std.specs.Int.{w128}
use Rattle.std.proofs.lemmas.Int.{to_z-of_z}
use Rattle.mon_syntax.specs.Arithmetic.{byte_count, wrap}
use Rattle.mon_syntax.specs.Flat.{flat_load}
use Rattle.mon_syntax.specs.FlatMemory.{pointer_in}
use Rattle.c_machine.proofs.Wrapped.{wrap_bits}
use Rattle.c_machine.proofs.memory.load_often.Goals as goal

pub returns-in-Some : goal.returns-in-Some
returns-in-Some c =
    let t = c.args.t in
    let memory = c.args.memory.now in
    let fw : FitsSigned w128 c.wrap.result = search rules in
    let fc : FitsSigned w128 c.cast_signed.result = search rules in
    let fb : c.in-Some.bits < 2 ^ 128 = search rules in
    let at = c.pointer_in.ensures ∙ ap pointer_in (to_z-of_z w128 c.args.p c.ranges.p) in
    let found : flat_load memory (pointer_in c.args.p) (byte_count t) ≡ Some c.in-Some.bits =
    (λ i. flat_load memory (sym at i) (sym c.byte_count.ensures.exact i)) ∙ c.in-Some.ensures.found in
    let value = to_z-of_z w128 _ fw ∙ c.wrap.ensures ∙ ap (wrap t) (to_z-of_z w128 _ fc ∙ c.cast_signed.ensures) ∙ wrap_bits t c.in-Some.bits fb in
    ap Some value ∙ sym (ap (option_map (λ n. wrap t (pos n))) found)
