use Rattle.std.proofs.Common.{◌≡◌, map, subst, sym}
use Rattle.c_syntax.specs.Logic.{plain_guards}
use Rattle.c_model.specs.QuantifierTyping.{guards_of}
use Rattle.annot_typing.specs.Quantifiers.{guards_before, plain_chain}
use Rattle.annot_typing.proofs.Quantifiers.{before_none, before_popped}
use Rattle.annot_typing.proofs.quantifier.guards_of.Goals as goal

pub chains-init : goal.chains-init
chains-init c = before_none (map plain_chain c.args.chains.items)

pub chains-preserved : goal.chains-preserved
chains-preserved c =
    let all = c.chains.left.items in
    let rest = c.in_ok-rest.rest.value in
    let whole = guards_of (map plain_chain c.args.chains.items) in
    let before : guards_before (map plain_chain all) (plain_guards rest) ≡ whole =
    subst (λ gs. guards_before (map plain_chain all) (plain_guards gs) ≡ whole) (sym c.in_ok-rest.ensures.ok) c.chains.invariant in
    before_popped all c.pop.new.self.items c.in-Some.chain (plain_guards rest) whole c.in-Some.ensures.items before
