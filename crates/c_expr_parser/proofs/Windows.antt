-- What is read within the limit of tokens is what is read of one token more than it allows.
use Rattle.std.proofs.Common.{◌≡◌, ℕ, zero, suc, ◌+◌, ◌-◌, ◌<◌, ◌≤◌, Bool, List, [], ◌∷◌, ◌++◌, length, take, drop, map, Ok, Err, refl, sym, ap, subst, ◌∙◌, arith}
use Rattle.std.proofs.lemmas.List.{length-map}
use Rattle.grammar.specs.Syntax.{Syntax, At, Over, at_most}
use Rattle.grammar.specs.Exact.{IsExact}
use Rattle.grammar.proofs.Limits.{at_most_short, near_ok_ends, near_ok, near_at_ends, near_at, near_over}
use Rattle.grammar.proofs.Theorem.{at_within, over_within}
use Rattle.c_syntax.specs.declared.place.Place.{Place}
use Rattle.c_syntax.specs.declared.token.Token.{Token}
use Rattle.c_syntax.specs.Expressions.{Expression}
use Rattle.c_syntax.specs.Tokens.{PlainToken, plain_token}
use Rattle.c_model.specs.Vocabulary.{Vocabulary}
use Rattle.c_model.specs.ExpressionGrammar.{kind, first_expression, most_in_expression, expression, placed_expression, nameless_expression, expression_behind, expression_at, full_expression, full_placed_expression, full_nameless_expression}
use Rattle.c_model.specs.ExpressionGrammar.{full_expression_behind as full_behind_name, full_expression_at}
use Rattle.c_model.specs.declared.operands.Level.{Level}
use Rattle.c_model.specs.Terminals.{expression_limit}
use Rattle.c_syntax.specs.declared.fault.ReadFault.{ReadFault}
use Rattle.c_syntax.specs.declared.fault.ReadFault.TheVariants as fault
use Rattle.c_expr_parser.specs.Reading.{LeftWithin, Resumed}
use Rattle.token_reader.specs.Reading.{plain_list, label, Fails}
use Rattle.c_expr_parser.proofs.ExactExpressions.{first_but_name, placed_rest_kinds, more_operand, more_expression, more_commas, expression_good, placed_good, nameless_good, behind_name_good, levels_good}

take_drop : {T : Type 0} (n : ℕ) (ts : List T) → ts ≡ take n ts ++ drop n ts
take_drop zero ts = refl
take_drop (suc n) [] = refl
take_drop (suc n) (t ∷ ts) = ap (λ w. t ∷ w) (take_drop n ts)

map_append : {S T : Type 0} (f : S → T) (a b : List S) → map f (a ++ b) ≡ map f a ++ map f b
map_append f [] b = refl
map_append f (x ∷ a) b = ap (λ w. f x ∷ w) (map_append f a b)

pub map_drop : {S T : Type 0} (f : S → T) (n : ℕ) (ts : List S) → map f (drop n ts) ≡ drop n (map f ts)
map_drop f zero ts = refl
map_drop f (suc n) [] = refl
map_drop f (suc n) (t ∷ ts) = map_drop f n ts

pub take_long : {T : Type 0} (n : ℕ) (ts : List T) → n ≤ length ts → length (take n ts) ≡ n
take_long zero ts h = refl
take_long (suc n) [] h = absurd (omega arith)
take_long (suc n) (t ∷ ts) h = ap suc (take_long n ts (omega arith))

pub drop_long : {T : Type 0} (n : ℕ) (ts : List T) → length (drop n ts) ≡ length ts - n
drop_long zero ts = omega arith
drop_long (suc n) [] = omega arith
drop_long (suc n) (t ∷ ts) = let e = drop_long n ts in omega (arith, e)

-- ---- within a limit

module _ {A : Type 0} {null : Bool} (ws : Vocabulary) (most : ℕ) (G : Syntax PlainToken A) (first more : List ℕ) (g : IsExact (kind ws) G null first (λ _. more)) where
  abbrev limited : Syntax PlainToken A
  limited = at_most expression_limit most G

  pub whole_within : (ts : List Token) → length ts ≤ most → limited.parse (plain_list ts) ≡ G.parse (plain_list ts)
  whole_within ts h = at_most_short (kind ws) expression_limit most G null first (λ _. more) g (plain_list ts) (omega (arith, length-map ts plain_token))

  module _ (ts near : List Token) (is : near ≡ take (most + 1) ts) (h : most < length ts) where
    abbrev far : List Token
    far = drop (most + 1) ts

    parts : plain_list ts ≡ plain_list near ++ plain_list far
    parts = rw is (ap plain_list (take_drop (most + 1) ts) ∙ map_append plain_token (take (most + 1) ts) far)

    long : length (plain_list near) ≡ suc most
    long = let e : most + 1 ≡ suc most = omega arith in length-map near plain_token ∙ ap length is ∙ take_long (most + 1) ts (omega arith) ∙ e

    far_long : length (plain_list far) ≡ length ts - (most + 1)
    far_long = length-map far plain_token ∙ drop_long (most + 1) ts

    pub passes_within : (x : A) (rest : List Token) → G.parse (plain_list near) ≡ Ok (x, plain_list rest) → length rest ≡ 0 → limited.parse (plain_list ts) ≡ Err (Over expression_limit (length ts - (most + 1) + 1))
    passes_within x rest e z = near_ok_ends (kind ws) expression_limit most G null first (λ _. more) g (plain_list ts) (plain_list near) (plain_list far) parts long x (plain_list rest) e (omega (arith, z, length-map rest plain_token))
        ∙ ap (λ (k : ℕ). Err (Over expression_limit (k + 1))) far_long

    pub goes_on_within : (x : A) (rest : List Token) → G.parse (plain_list near) ≡ Ok (x, plain_list rest) → (length rest ≡ 0 → ⊥) → length rest ≤ most + 1
        → limited.parse (plain_list ts) ≡ Ok (x, plain_list (drop (most + 1 - length rest) ts))
    goes_on_within x rest e z l =
        let r = length-map rest plain_token in
        let k : length (plain_list ts) - (length (plain_list rest) + length (plain_list far)) ≡ most + 1 - length rest = omega (arith, r, far_long, length-map ts plain_token, h, l) in
        near_ok (kind ws) expression_limit most G null first (λ _. more) g (plain_list ts) (plain_list near) (plain_list far) parts long x (plain_list rest) e (λ q. z (omega (arith, q, r)))
        ∙ ap (λ (n : ℕ). Ok (x, drop n (plain_list ts))) k ∙ ap (λ (w : List PlainToken). Ok (x, w)) (sym (map_drop plain_token (most + 1 - length rest) ts))

    pub fails_within : (e r : ReadFault) → Fails e (G.parse (plain_list near)) → Resumed e (length ts - (most + 1)) r → Fails r (limited.parse (plain_list ts))
    fails_within (fault.At zero) r f q = rw q (near_at_ends (kind ws) expression_limit most G null first (λ _. more) g (plain_list ts) (plain_list near) (plain_list far) parts long f
        ∙ ap (λ (k : ℕ). Err (Over expression_limit (k + 1))) far_long)
    fails_within (fault.At (suc n)) r f q = rw q (near_at (kind ws) expression_limit most G null first (λ _. more) g (plain_list ts) (plain_list near) (plain_list far) parts long (suc n) f (λ z. absurd cc)
        ∙ ap (λ (k : ℕ). Err (At (suc n + k))) far_long)
    fails_within (fault.Over limit n) r f q = rw q (near_over (kind ws) expression_limit most G null first (λ _. more) g (plain_list ts) (plain_list near) (plain_list far) parts long (label limit) n f
        ∙ ap (λ (k : ℕ). Err (Over (label limit) (n + k))) far_long)
    fails_within fault.Memory r f q = rw q tt

-- ---- within that of whole expressions

module _ {A : Type 0} {null : Bool} (ws : Vocabulary) (G : Syntax PlainToken A) (first more : List ℕ) (g : IsExact (kind ws) G null first (λ _. more)) where
  abbrev whole_limited : Syntax PlainToken A
  whole_limited = at_most expression_limit most_in_expression G

  pub whole : (ts : List Token) → length ts ≤ most_in_expression → whole_limited.parse (plain_list ts) ≡ G.parse (plain_list ts)
  whole = whole_within ws most_in_expression G first more g

  module _ (ts near : List Token) (is : near ≡ take (most_in_expression + 1) ts) (h : most_in_expression < length ts) where
    pub over : (x : A) (rest : List Token) → G.parse (plain_list near) ≡ Ok (x, plain_list rest) → length rest ≡ 0 → whole_limited.parse (plain_list ts) ≡ Err (Over expression_limit (length ts - (most_in_expression + 1) + 1))
    over = passes_within ws most_in_expression G first more g ts near is h

    pub goes_on : (x : A) (rest : List Token) → G.parse (plain_list near) ≡ Ok (x, plain_list rest) → (length rest ≡ 0 → ⊥) → length rest ≤ most_in_expression + 1
        → whole_limited.parse (plain_list ts) ≡ Ok (x, plain_list (drop (most_in_expression + 1 - length rest) ts))
    goes_on = goes_on_within ws most_in_expression G first more g ts near is h

    pub fails : (e r : ReadFault) → Fails e (G.parse (plain_list near)) → Resumed e (length ts - (most_in_expression + 1)) r → Fails r (whole_limited.parse (plain_list ts))
    fails = fails_within ws most_in_expression G first more g ts near is h

  pub bound : (ts : List Token) (e : ReadFault) → Fails e (G.parse (plain_list ts)) → LeftWithin e (length ts)
  bound ts (fault.At n) f = let h = at_within G null first (λ _. more) g (plain_list ts) n f in omega (arith, h, length-map ts plain_token)
  bound ts (fault.Over limit n) f = let h = over_within G null first (λ _. more) g (plain_list ts) (label limit) n f in omega (arith, h, length-map ts plain_token)
  bound ts fault.Memory f = tt

pub full_expression_whole : (ws : Vocabulary) (ts : List Token) → length ts ≤ most_in_expression → (full_expression ws).parse (plain_list ts) ≡ (expression ws).parse (plain_list ts)
unfolding full_expression
full_expression_whole ws ts h = whole ws (expression ws) first_expression more_commas (expression_good ws).here ts h

pub full_expression_behind : (ws : Vocabulary) (ts near : List Token) (x : Expression) (rest r : List Token) → near ≡ take (most_in_expression + 1) ts → most_in_expression < length ts
    → (expression ws).parse (plain_list near) ≡ Ok (x, plain_list rest) → (length rest ≡ 0 → ⊥) → length rest ≤ length near → r ≡ drop (most_in_expression + 1 - length rest) ts → (full_expression ws).parse (plain_list ts) ≡ Ok (x, plain_list r)
unfolding full_expression
full_expression_behind ws ts near x rest r is h e z l d = rw d (goes_on ws (expression ws) first_expression more_commas (expression_good ws).here ts near is h x rest e z
    (omega (arith, l, ap length is, take_long (most_in_expression + 1) ts (omega (arith, h)))))

pub full_expression_over : (ws : Vocabulary) (ts near : List Token) (x : Expression) (rest : List Token) → near ≡ take (most_in_expression + 1) ts → most_in_expression < length ts → (expression ws).parse (plain_list near) ≡ Ok (x, plain_list rest)
    → length rest ≡ 0 → (full_expression ws).parse (plain_list ts) ≡ Err (Over expression_limit (length ts - (most_in_expression + 1) + 1))
unfolding full_expression
full_expression_over ws ts near x rest is h e z = over ws (expression ws) first_expression more_commas (expression_good ws).here ts near is h x rest e z

pub full_expression_fails : (ws : Vocabulary) (ts near : List Token) (e r : ReadFault) → near ≡ take (most_in_expression + 1) ts → most_in_expression < length ts → Fails e ((expression ws).parse (plain_list near))
    → Resumed e (length ts - (most_in_expression + 1)) r → Fails r ((full_expression ws).parse (plain_list ts))
unfolding full_expression
full_expression_fails ws ts near e r is h f q = fails ws (expression ws) first_expression more_commas (expression_good ws).here ts near is h e r f q

pub full_expression_bound : (ws : Vocabulary) (ts near : List Token) (e : ReadFault) → near ≡ take (most_in_expression + 1) ts → most_in_expression < length ts → Fails e ((expression ws).parse (plain_list near))
    → LeftWithin e (most_in_expression + 1)
full_expression_bound ws ts near e is h f = subst (λ (k : ℕ). LeftWithin e k) (ap length is ∙ take_long (most_in_expression + 1) ts (omega (arith, h))) (bound ws (expression ws) first_expression more_commas (expression_good ws).here near e f)

pub full_placed_expression_whole : (ws : Vocabulary) (ts : List Token) → length ts ≤ most_in_expression → (full_placed_expression ws).parse (plain_list ts) ≡ (placed_expression ws).parse (plain_list ts)
unfolding full_placed_expression
full_placed_expression_whole ws ts h = whole ws (placed_expression ws) first_expression more_commas (placed_good ws).here ts h

pub full_placed_expression_behind : (ws : Vocabulary) (ts near : List Token) (x : Expression × Place) (rest r : List Token) → near ≡ take (most_in_expression + 1) ts → most_in_expression < length ts
    → (placed_expression ws).parse (plain_list near) ≡ Ok (x, plain_list rest) → (length rest ≡ 0 → ⊥) → length rest ≤ length near → r ≡ drop (most_in_expression + 1 - length rest) ts
    → (full_placed_expression ws).parse (plain_list ts) ≡ Ok (x, plain_list r)
unfolding full_placed_expression
full_placed_expression_behind ws ts near x rest r is h e z l d = rw d (goes_on ws (placed_expression ws) first_expression more_commas (placed_good ws).here ts near is h x rest e z
    (omega (arith, l, ap length is, take_long (most_in_expression + 1) ts (omega (arith, h)))))

pub full_placed_expression_over : (ws : Vocabulary) (ts near : List Token) (x : Expression × Place) (rest : List Token) → near ≡ take (most_in_expression + 1) ts → most_in_expression < length ts
    → (placed_expression ws).parse (plain_list near) ≡ Ok (x, plain_list rest)
    → length rest ≡ 0 → (full_placed_expression ws).parse (plain_list ts) ≡ Err (Over expression_limit (length ts - (most_in_expression + 1) + 1))
unfolding full_placed_expression
full_placed_expression_over ws ts near x rest is h e z = over ws (placed_expression ws) first_expression more_commas (placed_good ws).here ts near is h x rest e z

pub full_placed_expression_fails : (ws : Vocabulary) (ts near : List Token) (e r : ReadFault) → near ≡ take (most_in_expression + 1) ts → most_in_expression < length ts → Fails e ((placed_expression ws).parse (plain_list near))
    → Resumed e (length ts - (most_in_expression + 1)) r → Fails r ((full_placed_expression ws).parse (plain_list ts))
unfolding full_placed_expression
full_placed_expression_fails ws ts near e r is h f q = fails ws (placed_expression ws) first_expression more_commas (placed_good ws).here ts near is h e r f q

pub full_placed_expression_bound : (ws : Vocabulary) (ts near : List Token) (e : ReadFault) → near ≡ take (most_in_expression + 1) ts → most_in_expression < length ts → Fails e ((placed_expression ws).parse (plain_list near))
    → LeftWithin e (most_in_expression + 1)
full_placed_expression_bound ws ts near e is h f = subst
    (λ (k : ℕ). LeftWithin e k) (ap length is ∙ take_long (most_in_expression + 1) ts (omega (arith, h))) (bound ws (placed_expression ws) first_expression more_commas (placed_good ws).here near e f)

pub full_nameless_expression_whole : (ws : Vocabulary) (ts : List Token) → length ts ≤ most_in_expression → (full_nameless_expression ws).parse (plain_list ts) ≡ (nameless_expression ws).parse (plain_list ts)
unfolding full_nameless_expression
full_nameless_expression_whole ws ts h = whole ws (nameless_expression ws) first_but_name more_commas (nameless_good ws).here ts h

pub full_nameless_expression_behind : (ws : Vocabulary) (ts near : List Token) (x : Expression × Place) (rest r : List Token) → near ≡ take (most_in_expression + 1) ts → most_in_expression < length ts
    → (nameless_expression ws).parse (plain_list near) ≡ Ok (x, plain_list rest) → (length rest ≡ 0 → ⊥) → length rest ≤ length near → r ≡ drop (most_in_expression + 1 - length rest) ts
    → (full_nameless_expression ws).parse (plain_list ts) ≡ Ok (x, plain_list r)
unfolding full_nameless_expression
full_nameless_expression_behind ws ts near x rest r is h e z l d = rw d (goes_on ws (nameless_expression ws) first_but_name more_commas (nameless_good ws).here ts near is h x rest e z
    (omega (arith, l, ap length is, take_long (most_in_expression + 1) ts (omega (arith, h)))))

pub full_nameless_expression_over : (ws : Vocabulary) (ts near : List Token) (x : Expression × Place) (rest : List Token) → near ≡ take (most_in_expression + 1) ts → most_in_expression < length ts
    → (nameless_expression ws).parse (plain_list near) ≡ Ok (x, plain_list rest)
    → length rest ≡ 0 → (full_nameless_expression ws).parse (plain_list ts) ≡ Err (Over expression_limit (length ts - (most_in_expression + 1) + 1))
unfolding full_nameless_expression
full_nameless_expression_over ws ts near x rest is h e z = over ws (nameless_expression ws) first_but_name more_commas (nameless_good ws).here ts near is h x rest e z

pub full_nameless_expression_fails : (ws : Vocabulary) (ts near : List Token) (e r : ReadFault) → near ≡ take (most_in_expression + 1) ts → most_in_expression < length ts → Fails e ((nameless_expression ws).parse (plain_list near))
    → Resumed e (length ts - (most_in_expression + 1)) r → Fails r ((full_nameless_expression ws).parse (plain_list ts))
unfolding full_nameless_expression
full_nameless_expression_fails ws ts near e r is h f q = fails ws (nameless_expression ws) first_but_name more_commas (nameless_good ws).here ts near is h e r f q

pub full_nameless_expression_bound : (ws : Vocabulary) (ts near : List Token) (e : ReadFault) → near ≡ take (most_in_expression + 1) ts → most_in_expression < length ts → Fails e ((nameless_expression ws).parse (plain_list near))
    → LeftWithin e (most_in_expression + 1)
full_nameless_expression_bound ws ts near e is h f = subst
    (λ (k : ℕ). LeftWithin e k) (ap length is ∙ take_long (most_in_expression + 1) ts (omega (arith, h))) (bound ws (nameless_expression ws) first_but_name more_commas (nameless_good ws).here near e f)

pub full_level_whole : (ws : Vocabulary) (v : Level) (ts : List Token) → length ts ≤ most_in_expression → (full_expression_at ws v).parse (plain_list ts) ≡ (expression_at ws v).parse (plain_list ts)
unfolding full_expression_at
full_level_whole ws v ts h = whole ws (expression_at ws v) first_expression more_expression (levels_good ws v).here ts h

pub full_level_behind : (ws : Vocabulary) (v : Level) (ts near : List Token) (x : Expression) (rest r : List Token) → near ≡ take (most_in_expression + 1) ts → most_in_expression < length ts
    → (expression_at ws v).parse (plain_list near) ≡ Ok (x, plain_list rest) → (length rest ≡ 0 → ⊥) → length rest ≤ length near → r ≡ drop (most_in_expression + 1 - length rest) ts
    → (full_expression_at ws v).parse (plain_list ts) ≡ Ok (x, plain_list r)
unfolding full_expression_at
full_level_behind ws v ts near x rest r is h e z l d = rw d (goes_on ws (expression_at ws v) first_expression more_expression (levels_good ws v).here ts near is h x rest e z
    (omega (arith, l, ap length is, take_long (most_in_expression + 1) ts (omega (arith, h)))))

pub full_level_over : (ws : Vocabulary) (v : Level) (ts near : List Token) (x : Expression) (rest : List Token) → near ≡ take (most_in_expression + 1) ts → most_in_expression < length ts
    → (expression_at ws v).parse (plain_list near) ≡ Ok (x, plain_list rest)
    → length rest ≡ 0 → (full_expression_at ws v).parse (plain_list ts) ≡ Err (Over expression_limit (length ts - (most_in_expression + 1) + 1))
unfolding full_expression_at
full_level_over ws v ts near x rest is h e z = over ws (expression_at ws v) first_expression more_expression (levels_good ws v).here ts near is h x rest e z

pub full_level_fails : (ws : Vocabulary) (v : Level) (ts near : List Token) (e r : ReadFault) → near ≡ take (most_in_expression + 1) ts → most_in_expression < length ts → Fails e ((expression_at ws v).parse (plain_list near))
    → Resumed e (length ts - (most_in_expression + 1)) r → Fails r ((full_expression_at ws v).parse (plain_list ts))
unfolding full_expression_at
full_level_fails ws v ts near e r is h f q = fails ws (expression_at ws v) first_expression more_expression (levels_good ws v).here ts near is h e r f q

pub full_level_bound : (ws : Vocabulary) (v : Level) (ts near : List Token) (e : ReadFault) → near ≡ take (most_in_expression + 1) ts → most_in_expression < length ts → Fails e ((expression_at ws v).parse (plain_list near))
    → LeftWithin e (most_in_expression + 1)
full_level_bound ws v ts near e is h f = subst (λ (k : ℕ). LeftWithin e k) (ap length is ∙ take_long (most_in_expression + 1) ts (omega (arith, h))) (bound ws (expression_at ws v) first_expression more_expression (levels_good ws v).here near e f)

-- ---- behind a name, which is one of the tokens

abbrev pub most_behind : ℕ
most_behind = most_in_expression - 1

pub full_behind_name_whole : (ws : Vocabulary) (x : ℕ × Place) (ts : List Token) → length ts ≤ most_behind → (full_behind_name ws x).parse (plain_list ts) ≡ (expression_behind ws x).parse (plain_list ts)
unfolding full_behind_name
full_behind_name_whole ws x ts h = whole_within ws most_behind (expression_behind ws x) (more_operand ++ placed_rest_kinds) (more_operand ++ more_commas) (behind_name_good ws x).here ts h

pub full_behind_name_behind : (ws : Vocabulary) (x : ℕ × Place) (ts near : List Token) (y : Expression × Place) (rest r : List Token) → near ≡ take (most_behind + 1) ts → most_behind < length ts
    → (expression_behind ws x).parse (plain_list near) ≡ Ok (y, plain_list rest) → (length rest ≡ 0 → ⊥) → length rest ≤ length near → r ≡ drop (most_behind + 1 - length rest) ts
    → (full_behind_name ws x).parse (plain_list ts) ≡ Ok (y, plain_list r)
unfolding full_behind_name
full_behind_name_behind ws x ts near y rest r is h e z l d =
    rw d (goes_on_within ws most_behind (expression_behind ws x) (more_operand ++ placed_rest_kinds) (more_operand ++ more_commas) (behind_name_good ws x).here ts near is h y rest e z
    (omega (arith, l, ap length is, take_long (most_behind + 1) ts (omega (arith, h)))))

pub full_behind_name_over : (ws : Vocabulary) (x : ℕ × Place) (ts near : List Token) (y : Expression × Place) (rest : List Token) → near ≡ take (most_behind + 1) ts → most_behind < length ts
    → (expression_behind ws x).parse (plain_list near) ≡ Ok (y, plain_list rest) → length rest ≡ 0 → (full_behind_name ws x).parse (plain_list ts) ≡ Err (Over expression_limit (length ts - (most_behind + 1) + 1))
unfolding full_behind_name
full_behind_name_over ws x ts near y rest is h e z =
    passes_within ws most_behind (expression_behind ws x) (more_operand ++ placed_rest_kinds) (more_operand ++ more_commas) (behind_name_good ws x).here ts near is h y rest e z

pub full_behind_name_fails : (ws : Vocabulary) (x : ℕ × Place) (ts near : List Token) (e r : ReadFault) → near ≡ take (most_behind + 1) ts → most_behind < length ts → Fails e ((expression_behind ws x).parse (plain_list near))
    → Resumed e (length ts - (most_behind + 1)) r → Fails r ((full_behind_name ws x).parse (plain_list ts))
unfolding full_behind_name
full_behind_name_fails ws x ts near e r is h f q =
    fails_within ws most_behind (expression_behind ws x) (more_operand ++ placed_rest_kinds) (more_operand ++ more_commas) (behind_name_good ws x).here ts near is h e r f q

pub full_behind_name_bound : (ws : Vocabulary) (x : ℕ × Place) (ts near : List Token) (e : ReadFault) → near ≡ take (most_behind + 1) ts → most_behind < length ts → Fails e ((expression_behind ws x).parse (plain_list near))
    → LeftWithin e (most_behind + 1)
full_behind_name_bound ws x ts near e is h f =
    subst (λ (k : ℕ). LeftWithin e k) (ap length is ∙ take_long (most_behind + 1) ts (omega (arith, h)))
    (bound ws (expression_behind ws x) (more_operand ++ placed_rest_kinds) (more_operand ++ more_commas) (behind_name_good ws x).here near e f)

-- ---- what the code of each production cites

pub ruleset full_expression_rules = (full_expression_whole, full_expression_behind, full_expression_over, full_expression_fails, full_expression_bound)

pub ruleset full_placed_expression_rules = (full_placed_expression_whole, full_placed_expression_behind, full_placed_expression_over, full_placed_expression_fails, full_placed_expression_bound)

pub ruleset full_nameless_expression_rules = (full_nameless_expression_whole, full_nameless_expression_behind, full_nameless_expression_over, full_nameless_expression_fails, full_nameless_expression_bound)

pub ruleset full_level_rules = (full_level_whole, full_level_behind, full_level_over, full_level_fails, full_level_bound)

pub ruleset full_behind_name_rules = (full_behind_name_whole, full_behind_name_behind, full_behind_name_over, full_behind_name_fails, full_behind_name_bound)
