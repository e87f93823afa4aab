-- A clause is read within the limit of its tokens as it is read of one token more than the limit allows.
use Rattle.std.proofs.Common.{◌≡◌, ℕ, ◌+◌, ◌-◌, ◌<◌, ◌≤◌, List, [], length, take, drop, Option, Ok, Err, ap, subst, ◌∙◌, arith}
use Rattle.grammar.specs.Syntax.{Over}
use Rattle.c_syntax.specs.declared.token.Token.{Token}
use Rattle.c_syntax.specs.declared.fault.ReadFault.{ReadFault}
use Rattle.c_syntax.specs.declared.place.Place.{Place}
use Rattle.c_syntax.specs.Logic.{Annotation}
use Rattle.c_model.specs.Vocabulary.{Vocabulary}
use Rattle.c_model.specs.ExpressionGrammar.{most_in_expression}
use Rattle.c_model.specs.Terminals.{expression_limit}
use Rattle.c_model.specs.declared.formulas.ClauseGroup.{ClauseGroup}
use Rattle.c_model.specs.ClauseGrammar.{form_clause, full_clause, cover_clause, full_cover, assigns, full_assigns, loop_clause, full_loop_clause}
use Rattle.c_expr_parser.specs.Reading.{LeftWithin, Resumed}
use Rattle.token_reader.specs.Reading.{plain_list, Fails}
use Rattle.c_expr_parser.proofs.Windows.{take_long, whole, over, goes_on, fails, bound}
use Rattle.acsl_parser.proofs.ClauseTokens.{first_clause}
use Rattle.acsl_parser.proofs.ExactAnnotations.{clause_exact, cover_exact, assigns_exact, loop_clause_exact}

pub full_clause_whole : (ws : Vocabulary) (g : ClauseGroup) (n : ℕ) (ts : List Token) → length ts ≤ most_in_expression → (full_clause ws g n).parse (plain_list ts) ≡ (form_clause ws g n).parse (plain_list ts)
unfolding full_clause
full_clause_whole ws g n ts h = whole ws (form_clause ws g n) first_clause [] (clause_exact ws g n) ts h

pub full_clause_behind : (ws : Vocabulary) (g : ClauseGroup) (n : ℕ) (ts near : List Token) (x : Annotation) (rest r : List Token) → near ≡ take (most_in_expression + 1) ts → most_in_expression < length ts
    → (form_clause ws g n).parse (plain_list near) ≡ Ok (x, plain_list rest) → (length rest ≡ 0 → ⊥) → length rest ≤ length near → r ≡ drop (most_in_expression + 1 - length rest) ts → (full_clause ws g n).parse (plain_list ts) ≡ Ok (x, plain_list r)
unfolding full_clause
full_clause_behind ws g n ts near x rest r is h e z l d = rw d (goes_on ws (form_clause ws g n) first_clause [] (clause_exact ws g n) ts near is h x rest e z (omega (arith, l, ap length is, take_long (most_in_expression + 1) ts (omega (arith, h)))))

pub full_clause_over : (ws : Vocabulary) (g : ClauseGroup) (n : ℕ) (ts near : List Token) (x : Annotation) (rest : List Token) → near ≡ take (most_in_expression + 1) ts → most_in_expression < length ts
    → (form_clause ws g n).parse (plain_list near) ≡ Ok (x, plain_list rest) → length rest ≡ 0 → (full_clause ws g n).parse (plain_list ts) ≡ Err (Over expression_limit (length ts - (most_in_expression + 1) + 1))
unfolding full_clause
full_clause_over ws g n ts near x rest is h e z = over ws (form_clause ws g n) first_clause [] (clause_exact ws g n) ts near is h x rest e z

pub full_clause_fails : (ws : Vocabulary) (g : ClauseGroup) (n : ℕ) (ts near : List Token) (e r : ReadFault) → near ≡ take (most_in_expression + 1) ts → most_in_expression < length ts → Fails e ((form_clause ws g n).parse (plain_list near))
    → Resumed e (length ts - (most_in_expression + 1)) r → Fails r ((full_clause ws g n).parse (plain_list ts))
unfolding full_clause
full_clause_fails ws g n ts near e r is h f q = fails ws (form_clause ws g n) first_clause [] (clause_exact ws g n) ts near is h e r f q

pub full_clause_bound : (ws : Vocabulary) (g : ClauseGroup) (n : ℕ) (ts near : List Token) (e : ReadFault) → near ≡ take (most_in_expression + 1) ts → most_in_expression < length ts → Fails e ((form_clause ws g n).parse (plain_list near))
    → LeftWithin e (most_in_expression + 1)
full_clause_bound ws g n ts near e is h f = subst (λ (k : ℕ). LeftWithin e k) (ap length is ∙ take_long (most_in_expression + 1) ts (omega (arith, h))) (bound ws (form_clause ws g n) first_clause [] (clause_exact ws g n) near e f)

-- ---- the same of clauses that name behaviors

pub full_cover_whole : (ws : Vocabulary) (n : ℕ) (ts : List Token) → length ts ≤ most_in_expression → (full_cover ws n).parse (plain_list ts) ≡ (cover_clause ws n).parse (plain_list ts)
unfolding full_cover
full_cover_whole ws n ts h = whole ws (cover_clause ws n) first_clause [] (cover_exact ws n) ts h

pub full_cover_behind : (ws : Vocabulary) (n : ℕ) (ts near : List Token) (x : Annotation) (rest r : List Token) → near ≡ take (most_in_expression + 1) ts → most_in_expression < length ts
    → (cover_clause ws n).parse (plain_list near) ≡ Ok (x, plain_list rest) → (length rest ≡ 0 → ⊥) → length rest ≤ length near → r ≡ drop (most_in_expression + 1 - length rest) ts → (full_cover ws n).parse (plain_list ts) ≡ Ok (x, plain_list r)
unfolding full_cover
full_cover_behind ws n ts near x rest r is h e z l d = rw d (goes_on ws (cover_clause ws n) first_clause [] (cover_exact ws n) ts near is h x rest e z (omega (arith, l, ap length is, take_long (most_in_expression + 1) ts (omega (arith, h)))))

pub full_cover_over : (ws : Vocabulary) (n : ℕ) (ts near : List Token) (x : Annotation) (rest : List Token) → near ≡ take (most_in_expression + 1) ts → most_in_expression < length ts
    → (cover_clause ws n).parse (plain_list near) ≡ Ok (x, plain_list rest) → length rest ≡ 0 → (full_cover ws n).parse (plain_list ts) ≡ Err (Over expression_limit (length ts - (most_in_expression + 1) + 1))
unfolding full_cover
full_cover_over ws n ts near x rest is h e z = over ws (cover_clause ws n) first_clause [] (cover_exact ws n) ts near is h x rest e z

pub full_cover_fails : (ws : Vocabulary) (n : ℕ) (ts near : List Token) (e r : ReadFault) → near ≡ take (most_in_expression + 1) ts → most_in_expression < length ts → Fails e ((cover_clause ws n).parse (plain_list near))
    → Resumed e (length ts - (most_in_expression + 1)) r → Fails r ((full_cover ws n).parse (plain_list ts))
unfolding full_cover
full_cover_fails ws n ts near e r is h f q = fails ws (cover_clause ws n) first_clause [] (cover_exact ws n) ts near is h e r f q

pub full_cover_bound : (ws : Vocabulary) (n : ℕ) (ts near : List Token) (e : ReadFault) → near ≡ take (most_in_expression + 1) ts → most_in_expression < length ts → Fails e ((cover_clause ws n).parse (plain_list near))
    → LeftWithin e (most_in_expression + 1)
full_cover_bound ws n ts near e is h f = subst (λ (k : ℕ). LeftWithin e k) (ap length is ∙ take_long (most_in_expression + 1) ts (omega (arith, h))) (bound ws (cover_clause ws n) first_clause [] (cover_exact ws n) near e f)

-- ---- the same of clauses of loops

pub full_loop_clause_whole : (ws : Vocabulary) (n : ℕ) (ts : List Token) → length ts ≤ most_in_expression → (full_loop_clause ws n).parse (plain_list ts) ≡ (loop_clause ws n).parse (plain_list ts)
unfolding full_loop_clause
full_loop_clause_whole ws n ts h = whole ws (loop_clause ws n) first_clause [] (loop_clause_exact ws n) ts h

pub full_loop_clause_behind : (ws : Vocabulary) (n : ℕ) (ts near : List Token) (x : Place × Option Annotation) (rest r : List Token) → near ≡ take (most_in_expression + 1) ts → most_in_expression < length ts
    → (loop_clause ws n).parse (plain_list near) ≡ Ok (x, plain_list rest) → (length rest ≡ 0 → ⊥) → length rest ≤ length near → r ≡ drop (most_in_expression + 1 - length rest) ts → (full_loop_clause ws n).parse (plain_list ts) ≡ Ok (x, plain_list r)
unfolding full_loop_clause
full_loop_clause_behind ws n ts near x rest r is h e z l d = rw d (goes_on ws (loop_clause ws n) first_clause [] (loop_clause_exact ws n) ts near is h x rest e z
    (omega (arith, l, ap length is, take_long (most_in_expression + 1) ts (omega (arith, h)))))

pub full_loop_clause_over : (ws : Vocabulary) (n : ℕ) (ts near : List Token) (x : Place × Option Annotation) (rest : List Token) → near ≡ take (most_in_expression + 1) ts → most_in_expression < length ts
    → (loop_clause ws n).parse (plain_list near) ≡ Ok (x, plain_list rest) → length rest ≡ 0 → (full_loop_clause ws n).parse (plain_list ts) ≡ Err (Over expression_limit (length ts - (most_in_expression + 1) + 1))
unfolding full_loop_clause
full_loop_clause_over ws n ts near x rest is h e z = over ws (loop_clause ws n) first_clause [] (loop_clause_exact ws n) ts near is h x rest e z

pub full_loop_clause_fails : (ws : Vocabulary) (n : ℕ) (ts near : List Token) (e r : ReadFault) → near ≡ take (most_in_expression + 1) ts → most_in_expression < length ts → Fails e ((loop_clause ws n).parse (plain_list near))
    → Resumed e (length ts - (most_in_expression + 1)) r → Fails r ((full_loop_clause ws n).parse (plain_list ts))
unfolding full_loop_clause
full_loop_clause_fails ws n ts near e r is h f q = fails ws (loop_clause ws n) first_clause [] (loop_clause_exact ws n) ts near is h e r f q

pub full_loop_clause_bound : (ws : Vocabulary) (n : ℕ) (ts near : List Token) (e : ReadFault) → near ≡ take (most_in_expression + 1) ts → most_in_expression < length ts → Fails e ((loop_clause ws n).parse (plain_list near))
    → LeftWithin e (most_in_expression + 1)
full_loop_clause_bound ws n ts near e is h f = subst (λ (k : ℕ). LeftWithin e k) (ap length is ∙ take_long (most_in_expression + 1) ts (omega (arith, h))) (bound ws (loop_clause ws n) first_clause [] (loop_clause_exact ws n) near e f)

-- ---- the same of what is passed over

pub full_assigns_whole : (ws : Vocabulary) (ts : List Token) → length ts ≤ most_in_expression → (full_assigns ws).parse (plain_list ts) ≡ (assigns ws).parse (plain_list ts)
unfolding full_assigns
full_assigns_whole ws ts h = whole ws (assigns ws) first_clause [] (assigns_exact ws) ts h

pub full_assigns_behind : (ws : Vocabulary) (ts near : List Token) (x : Place) (rest r : List Token) → near ≡ take (most_in_expression + 1) ts → most_in_expression < length ts
    → (assigns ws).parse (plain_list near) ≡ Ok (x, plain_list rest) → (length rest ≡ 0 → ⊥) → length rest ≤ length near → r ≡ drop (most_in_expression + 1 - length rest) ts → (full_assigns ws).parse (plain_list ts) ≡ Ok (x, plain_list r)
unfolding full_assigns
full_assigns_behind ws ts near x rest r is h e z l d = rw d (goes_on ws (assigns ws) first_clause [] (assigns_exact ws) ts near is h x rest e z (omega (arith, l, ap length is, take_long (most_in_expression + 1) ts (omega (arith, h)))))

pub full_assigns_over : (ws : Vocabulary) (ts near : List Token) (x : Place) (rest : List Token) → near ≡ take (most_in_expression + 1) ts → most_in_expression < length ts
    → (assigns ws).parse (plain_list near) ≡ Ok (x, plain_list rest) → length rest ≡ 0 → (full_assigns ws).parse (plain_list ts) ≡ Err (Over expression_limit (length ts - (most_in_expression + 1) + 1))
unfolding full_assigns
full_assigns_over ws ts near x rest is h e z = over ws (assigns ws) first_clause [] (assigns_exact ws) ts near is h x rest e z

pub full_assigns_fails : (ws : Vocabulary) (ts near : List Token) (e r : ReadFault) → near ≡ take (most_in_expression + 1) ts → most_in_expression < length ts → Fails e ((assigns ws).parse (plain_list near))
    → Resumed e (length ts - (most_in_expression + 1)) r → Fails r ((full_assigns ws).parse (plain_list ts))
unfolding full_assigns
full_assigns_fails ws ts near e r is h f q = fails ws (assigns ws) first_clause [] (assigns_exact ws) ts near is h e r f q

pub full_assigns_bound : (ws : Vocabulary) (ts near : List Token) (e : ReadFault) → near ≡ take (most_in_expression + 1) ts → most_in_expression < length ts → Fails e ((assigns ws).parse (plain_list near))
    → LeftWithin e (most_in_expression + 1)
full_assigns_bound ws ts near e is h f = subst (λ (k : ℕ). LeftWithin e k) (ap length is ∙ take_long (most_in_expression + 1) ts (omega (arith, h))) (bound ws (assigns ws) first_clause [] (assigns_exact ws) near e f)

-- ---- what the code of each production cites

pub ruleset full_clause_rules = (full_clause_whole, full_clause_behind, full_clause_over, full_clause_fails, full_clause_bound)

pub ruleset full_cover_rules = (full_cover_whole, full_cover_behind, full_cover_over, full_cover_fails, full_cover_bound)

pub ruleset full_loop_clause_rules = (full_loop_clause_whole, full_loop_clause_behind, full_loop_clause_over, full_loop_clause_fails, full_loop_clause_bound)

pub ruleset full_assigns_rules = (full_assigns_whole, full_assigns_behind, full_assigns_over, full_assigns_fails, full_assigns_bound)
