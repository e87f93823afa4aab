use Rattle.std.proofs.Common.{◌≡◌, ◌+◌, ◌∷◌, ◌++◌, map, OnOk, refl, ap, sym, ◌∙◌, rules}
use Rattle.std.proofs.lemmas.Result.{IfOk-weaker}
use Rattle.c_syntax.specs.Formulas.{plain_cast_type}
use Rattle.c_syntax.specs.Logic.{plain_binder}
use Rattle.c_model.specs.Quantifiers.{first_of}
use Rattle.c_model.specs.TermRanges.{raised}
use Rattle.mon_syntax.specs.Trees.{Register, plain_expr}
use Rattle.annot_simulation.specs.Opened.{held_within, open_binders}
use Rattle.annot_pieces.specs.Plain.{plain_opened}
use Rattle.annot_pieces.specs.Tables.{plain_held, plain_helds}
use Rattle.annot_pieces.proofs.Around.{next_held, next_opened, pushed}
use Rattle.annot_pieces.proofs.Others.{others, parted}
use Rattle.annot_pieces.proofs.binder.+open_binders.Goals as goal

pub returns-in_ok-register-in-len1-up-clause-opened : goal.returns-in_ok-register-in-len1-up-clause-opened
returns-in_ok-register-in-len1-up-clause-opened t c =
    let b = c.b-item.result in
    let k = c.args.chain.kind in
    let to = Register c.args.chain.last in
    let most = c.args.chain.most in
    let one = c.in_ok-one-in-len1-up.one in
    let rs = c.args.names.now.table.kinds in
    let js = c.open_binder.new.names.table.kinds in
    let rest = map plain_binder (others c.args.binders.now) in
    let next = plain_expr c.in_ok-register-in-len1-up.field-0 in
    let all : map plain_binder c.args.binders.now ≡ plain_binder b ∷ rest = ap (map plain_binder) (parted c.args.binders.now b c.in-len1-up.len_at_least c.b-item.is) in
    let first : c.first_of.result ≡ first_of (plain_cast_type b.kind) (raised b.above c.args.lower.least) = search rules in
    let more = next_opened k to most (plain_binder b) rest rs js one (plain_expr c.args.lower.value) c.args.lower.least c.in_ok-one-in-len1-up.ensures.binder next (one.first + 3) c.first_of.result
    c.in_ok-one-in-len1-up.ensures.kinds refl c.in_ok-register-in-len1-up.ensures first in
    let last : OnOk c.open_binders.result (map plain_opened c.open_binders.new.opened.items ≡ map plain_opened c.push.new.self.items ++ open_binders k to most next c.first_of.result rest js) = search rules in
    pushed plain_opened c.open_binders.result c.args.opened.now.items c.push.new.self.items c.open_binders.new.opened.items one (open_binders k to most next c.first_of.result rest js)
    (open_binders k to most (plain_expr c.args.lower.value) c.args.lower.least (map plain_binder c.args.binders.now) rs) c.in_ok-push-in-len1-up.ensures.items
    (more ∙ sym (ap (λ xs. open_binders k to most (plain_expr c.args.lower.value) c.args.lower.least xs rs) all)) last

pub returns-in_ok-register-in-len1-up-clause-held : goal.returns-in_ok-register-in-len1-up-clause-held
returns-in_ok-register-in-len1-up-clause-held t c =
    let b = c.b-item.result in
    let k = c.args.chain.kind in
    let to = Register c.args.chain.last in
    let most = c.args.chain.most in
    let one = c.in_ok-one-in-len1-up.one in
    let rs = c.args.names.now.table.kinds in
    let js = c.open_binder.new.names.table.kinds in
    let rest = map plain_binder (others c.args.binders.now) in
    let held = plain_helds c.args.held.items in
    let names = plain_helds c.in_ok-held-in-len1-up.held.items in
    let name = plain_held (record { number = b.place.offset; register = one.first + 3; kind = k }) in
    let all : map plain_binder c.args.binders.now ≡ plain_binder b ∷ rest = ap (map plain_binder) (parted c.args.binders.now b c.in-len1-up.len_at_least c.b-item.is) in
    let names_are : names ≡ name ∷ held = c.in_ok-held-in-len1-up.ensures ∙ ap (λ hs. name ∷ plain_helds hs) c.deref.ensures.value in
    let more = next_held k to most (plain_binder b) rest rs js one (plain_expr c.args.lower.value) c.args.lower.least c.in_ok-one-in-len1-up.ensures.binder held names (one.first + 3) c.in_ok-one-in-len1-up.ensures.kinds refl names_are in
    IfOk-weaker c.open_binders.result (λ r. plain_helds r.items ≡ held_within k to most rest names js) (λ r. plain_helds r.items ≡ held_within k to most (map plain_binder c.args.binders.now) held rs)
    (λ r h. h ∙ more ∙ sym (ap (λ xs. held_within k to most xs held rs) all)) c.open_binders.ensures.held
