use Rattle.std.proofs.Common.{◌≡◌, ℕ, sym, nat_eq, option_map}
use Rattle.indexmap.specs.IndexMap.{get}
use Rattle.c_syntax.specs.Programs.{plain_func}
use Rattle.c_syntax.specs.Statements.{plain_stmt}
use Rattle.c_model.specs.StatementTyping.{typed_labels}
use Rattle.c_scopes.specs.Sights.{plain_sight}
use Rattle.c_scopes.proofs.Least.{both_made}
use Rattle.c_function_rules.specs.Functions.{names_behind, parts_in_turn, with_function_by}
use Rattle.c_function_rules.proofs.Functions.{both_on}
use Rattle.c_function_rules.proofs.function.type_function.Goals as goal

pub returns-clause-typed : goal.returns-clause-typed
returns-clause-typed c =
    both_made (λ u g. g) (λ (u : Unit {0}). u) (λ (u : Unit {0}). plain_func c.type_but_labels-typed.new.f) (typed_labels (option_map plain_stmt c.args.f.now.body))
    (parts_in_turn (get nat_eq c.args.numbers.now) (plain_sight c.args.sight.now) (get nat_eq c.args.names.now) (plain_func c.args.f.now)) c.check_labels-labels.result c.type_but_labels-typed.result c.both.result
    c.check_labels-labels.ensures c.type_but_labels-typed.ensures.typed (sym c.both.ensures.is)

pub returns-clause-behind : goal.returns-clause-behind
returns-clause-behind c =
    both_on (plain_sight c.type_but_labels-typed.new.sight ≡ with_function_by (get nat_eq c.args.numbers.now) (plain_sight c.args.sight.now) (plain_func c.type_but_labels-typed.new.f))
    c.check_labels-labels.result c.type_but_labels-typed.result c.both.result (sym c.both.ensures.is) c.type_but_labels-typed.ensures.behind

pub returns-clause-names : goal.returns-clause-names
returns-clause-names c =
    both_on ((x : ℕ) → get nat_eq c.type_but_labels-typed.new.names x ≡ names_behind (plain_sight c.args.sight.now) (get nat_eq c.args.names.now) (plain_func c.type_but_labels-typed.new.f) x)
    c.check_labels-labels.result c.type_but_labels-typed.result c.both.result (sym c.both.ensures.is) c.type_but_labels-typed.ensures.names
