use Rattle.std.proofs.Common.{List, [], ◌∷◌, sym, ap, ◌∙◌, map}
use Rattle.std.proofs.lemmas.Result.{on_ok_weaker}
use Rattle.std.proofs.lemmas.List.{map-append}
use Rattle.c_syntax.specs.declared.token.Token.{Token}
use Rattle.c_syntax.specs.Tokens.{PlainToken, plain_token}
use Rattle.c_model.specs.CTokens.{with_string}
use Rattle.c_lexer.proofs.CTurns.{with_string_last}
use Rattle.c_lexer.proofs.source.put_string.Goals as goal

pub returns-in-Some-clause-ok : goal.returns-in-Some-clause-ok
returns-in-Some-clause-ok c =
    on_ok_weaker c.join.result (λ e. e ∙ sym (with_string_last (map plain_token c.pop.new.self.items) (plain_token c.in-Some.last) c.args.place c.args.bytes.items) ∙ ap (λ (ts : List PlainToken). with_string ts c.args.place c.args.bytes.items)
    (sym (map-append plain_token c.pop.new.self.items (c.in-Some.last ∷ []))) ∙ ap (λ (ts : List Token). with_string (map plain_token ts) c.args.place c.args.bytes.items) (sym c.in-Some.ensures.items)) c.join.ensures.ok
