-- A declarator is read within the limit of its tokens as it is read of one token more than the limit allows.
use Rattle.std.proofs.Common.{◌≡◌, ℕ, ◌+◌, ◌-◌, ◌<◌, ◌≤◌, List, length, take, drop, Ok, Err, ap, subst, ◌∙◌, arith}
use Rattle.grammar.specs.Syntax.{Over}
use Rattle.c_syntax.specs.declared.token.Token.{Token}
use Rattle.c_syntax.specs.declared.fault.ReadFault.{ReadFault}
use Rattle.c_model.specs.declared.declarations.Named.{Named}
use Rattle.c_model.specs.Vocabulary.{Vocabulary}
use Rattle.c_model.specs.ExpressionGrammar.{most_in_expression}
use Rattle.c_model.specs.Terminals.{expression_limit}
use Rattle.c_model.specs.DeclarationGrammar.{Declarator, AbstractDeclarator, dtor, full_dtor, abstract_dtor, full_abstract_dtor}
use Rattle.c_expr_parser.specs.Reading.{LeftWithin, Resumed}
use Rattle.token_reader.specs.Reading.{plain_list, Fails}
use Rattle.c_expr_parser.proofs.Windows.{take_long, whole, over, goes_on, fails, bound}
use Rattle.c_declaration_parser.proofs.ExactDeclarations.{first_dtor, more_dtor, first_abstract, more_abstract, dtor_good, abstract_dtor_good}

pub declarator_whole : (ws : Vocabulary) (k : Named) (ts : List Token) → length ts ≤ most_in_expression → (full_dtor ws k).parse (plain_list ts) ≡ (dtor ws k).parse (plain_list ts)
unfolding full_dtor
declarator_whole ws k ts h = whole ws (dtor ws k) first_dtor more_dtor (dtor_good ws k).here ts h

pub declarator_behind : (ws : Vocabulary) (k : Named) (ts near : List Token) (x : Declarator) (rest r : List Token) → near ≡ take (most_in_expression + 1) ts → most_in_expression < length ts
    → (dtor ws k).parse (plain_list near) ≡ Ok (x, plain_list rest) → (length rest ≡ 0 → ⊥) → length rest ≤ length near → r ≡ drop (most_in_expression + 1 - length rest) ts → (full_dtor ws k).parse (plain_list ts) ≡ Ok (x, plain_list r)
unfolding full_dtor
declarator_behind ws k ts near x rest r is h e z l d = rw d (goes_on ws (dtor ws k) first_dtor more_dtor (dtor_good ws k).here ts near is h x rest e z (omega (arith, l, ap length is, take_long (most_in_expression + 1) ts (omega (arith, h)))))

pub declarator_over : (ws : Vocabulary) (k : Named) (ts near : List Token) (x : Declarator) (rest : List Token) → near ≡ take (most_in_expression + 1) ts → most_in_expression < length ts
    → (dtor ws k).parse (plain_list near) ≡ Ok (x, plain_list rest) → length rest ≡ 0 → (full_dtor ws k).parse (plain_list ts) ≡ Err (Over expression_limit (length ts - (most_in_expression + 1) + 1))
unfolding full_dtor
declarator_over ws k ts near x rest is h e z = over ws (dtor ws k) first_dtor more_dtor (dtor_good ws k).here ts near is h x rest e z

pub declarator_fails : (ws : Vocabulary) (k : Named) (ts near : List Token) (e r : ReadFault) → near ≡ take (most_in_expression + 1) ts → most_in_expression < length ts → Fails e ((dtor ws k).parse (plain_list near))
    → Resumed e (length ts - (most_in_expression + 1)) r → Fails r ((full_dtor ws k).parse (plain_list ts))
unfolding full_dtor
declarator_fails ws k ts near e r is h f q = fails ws (dtor ws k) first_dtor more_dtor (dtor_good ws k).here ts near is h e r f q

pub declarator_bound : (ws : Vocabulary) (k : Named) (ts near : List Token) (e : ReadFault) → near ≡ take (most_in_expression + 1) ts → most_in_expression < length ts → Fails e ((dtor ws k).parse (plain_list near))
    → LeftWithin e (most_in_expression + 1)
declarator_bound ws k ts near e is h f = subst (λ (k : ℕ). LeftWithin e k) (ap length is ∙ take_long (most_in_expression + 1) ts (omega (arith, h))) (bound ws (dtor ws k) first_dtor more_dtor (dtor_good ws k).here near e f)

pub abstract_whole : (ws : Vocabulary) (ts : List Token) → length ts ≤ most_in_expression → (full_abstract_dtor ws).parse (plain_list ts) ≡ (abstract_dtor ws).parse (plain_list ts)
unfolding full_abstract_dtor
abstract_whole ws ts h = whole ws (abstract_dtor ws) first_abstract more_abstract (abstract_dtor_good ws).here ts h

pub abstract_behind : (ws : Vocabulary) (ts near : List Token) (x : AbstractDeclarator) (rest r : List Token) → near ≡ take (most_in_expression + 1) ts → most_in_expression < length ts
    → (abstract_dtor ws).parse (plain_list near) ≡ Ok (x, plain_list rest) → (length rest ≡ 0 → ⊥) → length rest ≤ length near → r ≡ drop (most_in_expression + 1 - length rest) ts → (full_abstract_dtor ws).parse (plain_list ts) ≡ Ok (x, plain_list r)
unfolding full_abstract_dtor
abstract_behind ws ts near x rest r is h e z l d =
    rw d (goes_on ws (abstract_dtor ws) first_abstract more_abstract (abstract_dtor_good ws).here ts near is h x rest e z (omega (arith, l, ap length is, take_long (most_in_expression + 1) ts (omega (arith, h)))))

pub abstract_over : (ws : Vocabulary) (ts near : List Token) (x : AbstractDeclarator) (rest : List Token) → near ≡ take (most_in_expression + 1) ts → most_in_expression < length ts
    → (abstract_dtor ws).parse (plain_list near) ≡ Ok (x, plain_list rest) → length rest ≡ 0 → (full_abstract_dtor ws).parse (plain_list ts) ≡ Err (Over expression_limit (length ts - (most_in_expression + 1) + 1))
unfolding full_abstract_dtor
abstract_over ws ts near x rest is h e z = over ws (abstract_dtor ws) first_abstract more_abstract (abstract_dtor_good ws).here ts near is h x rest e z

pub abstract_fails : (ws : Vocabulary) (ts near : List Token) (e r : ReadFault) → near ≡ take (most_in_expression + 1) ts → most_in_expression < length ts → Fails e ((abstract_dtor ws).parse (plain_list near))
    → Resumed e (length ts - (most_in_expression + 1)) r → Fails r ((full_abstract_dtor ws).parse (plain_list ts))
unfolding full_abstract_dtor
abstract_fails ws ts near e r is h f q = fails ws (abstract_dtor ws) first_abstract more_abstract (abstract_dtor_good ws).here ts near is h e r f q

pub abstract_bound : (ws : Vocabulary) (ts near : List Token) (e : ReadFault) → near ≡ take (most_in_expression + 1) ts → most_in_expression < length ts → Fails e ((abstract_dtor ws).parse (plain_list near))
    → LeftWithin e (most_in_expression + 1)
abstract_bound ws ts near e is h f = subst (λ (k : ℕ). LeftWithin e k) (ap length is ∙ take_long (most_in_expression + 1) ts (omega (arith, h))) (bound ws (abstract_dtor ws) first_abstract more_abstract (abstract_dtor_good ws).here near e f)

-- ---- what the code of each production cites

pub ruleset declarator_rules = (declarator_whole, declarator_behind, declarator_over, declarator_fails, declarator_bound)

pub ruleset abstract_rules = (abstract_whole, abstract_behind, abstract_over, abstract_fails, abstract_bound)
