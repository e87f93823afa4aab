-- The productions of monitored C are those of the head of their grammar.
use Rattle.std.proofs.Common.{ℕ, zero, suc, Bool, true, false, [], ◌∷◌, Option, Some, None, refl, inl, cond}
use Rattle.grammar.specs.Syntax.{Syntax, none, gives, one, ◌then◌, choice, deep}
use Rattle.grammar.specs.Exact.{Same}
use Rattle.grammar.proofs.Forms.{to_left}
use Rattle.grammar_laws.specs.Plain.{◌or◌}
use Rattle.grammar_laws.proofs.Inclusions.{Within, both, forth, back, itself, ◌so◌, either, first, second, each, on, in_turn, turns, deeper, after_either}
use Rattle.grammar_laws.proofs.Inclusions.{apart_after, either_before, handed, handed_back, given_first, given_back, nothing}
use Rattle.c_syntax.specs.declared.place.Place.{Place}
use Rattle.c_syntax.specs.Tokens.{PlainToken}
use Rattle.c_model.specs.Punctuators.{minus, times, assign, tilde, semicolon, comma, right_paren, left_paren, left_brace}
use Rattle.c_model.specs.Terminals.{placed, nesting_limit, expression_limit}
use Rattle.mon_syntax.specs.Parsed.{NameUse, ParsedExpression, Name, ParsedStatement, Set, Take, Return, Store}
use Rattle.mon_syntax.specs.Grammar.{Vocabulary, kind, mark_kind, name_kind, type_kind, constant_kind, if_kind, else_kind, while_kind, goto_kind, return_kind}
use Rattle.mon_syntax.specs.Grammar.{number_kind, text_kind, static_kind, char_kind, void_kind, type_of, is_number, first_argument, first_statement}
use Rattle.mon_syntax.specs.Grammar.{first_expression, first_function, nothing_read, fixed, mark, name, InBody, opened, behind_opened}
use Rattle.mon_syntax.specs.Grammar.{expression_in, expression_with, other_expression, second_operand, behind_two, plain_operand, behind_paren, expression}
use Rattle.mon_syntax.specs.Grammar.{expression_but_name, call_of, ended, set_to_call, set_to_name, set_to, behind_name, statement_with}
use Rattle.mon_syntax.specs.Grammar.{statement_in, statements, one_more, next_argument, one_more_in_loop, returned, pointed_type, stored, one_more_global}
use Rattle.mon_syntax.specs.Grammar.{one_more_function, globals, functions, initialize_kind, initialize_pointer_kind, is_same_name, marked_name, mark_end}
use Rattle.mon_syntax.specs.Grammar.{number_mark, pointer_mark, store_mark}
use Rattle.mon_syntax.specs.Arithmetic.{byte_count, is_pointer}
use Rattle.mon_syntax.specs.declared.tree.MonType.{MonType}
use Rattle.mon_syntax.specs.Grammar as parsed
use Rattle.grammar_laws.specs.MonitoredProductions as production

abbrev no : PlainToken → ℕ
no t = 0

module _ (ws : Vocabulary) where
  abbrev Tree : Type 1
  Tree = Syntax PlainToken ParsedExpression

  abbrev Open : Syntax PlainToken Place
  Open = mark ws left_paren

  abbrev Named : Tree
  Named = name ws then λ x. gives (Name x)

  -- ---- expressions

  number_line : Same (parsed.signed_number ws) (production.signed_number ws)
  unfolding parsed.signed_number
  number_line = both (each (kind ws) (mark_kind minus ∷ []) no [] (itself _) (itself _)) (each no [] (kind ws) (mark_kind minus ∷ []) (itself _) (itself _))

  constant_line : (O : Syntax PlainToken Place) → Same (parsed.constant ws O) (production.constant ws O)
  unfolding parsed.constant
  constant_line O =
      both (on (one (placed (parsed.constant_of ws))) (λ t. on O (λ _. in_turn (forth number_line) (λ z. itself _))))
      (on (one (placed (parsed.constant_of ws))) (λ t. on O (λ _. in_turn (back number_line) (λ z. itself _))))

  module _ (O : Syntax PlainToken Place) (B : Tree) where
    abbrev E : Tree
    E = expression_with ws O B

    abbrev Rest : ParsedExpression → Tree
    Rest left = second_operand ws E left

    abbrev Behind : Tree
    Behind = behind_paren ws O B

    abbrev Alternatives : Tree
    Alternatives = production.binary ws E or production.negation ws E or production.complement ws E or production.cast ws O E or production.load ws O E

    constant_in : Within (parsed.constant ws O) E
    unfolding expression_with other_expression
    constant_in = second (kind ws) (name_kind ∷ []) _ (first (kind ws) (constant_kind ∷ []) _ (itself (parsed.constant ws O)))

    name_in : Within Named E
    unfolding expression_with
    name_in = first (kind ws) (name_kind ∷ []) _ (itself Named)

    paren_in : Within (O then λ _. B) E
    unfolding expression_with other_expression
    paren_in = second (kind ws) (name_kind ∷ []) _ (second (kind ws) (constant_kind ∷ []) _ (itself (O then λ _. B)))

    plain_in : Within (plain_operand ws O) E
    unfolding plain_operand
    plain_in = either (kind ws) (name_kind ∷ []) name_in constant_in

    to_binary : Within (Open then λ _. E then Rest) Alternatives
    unfolding second_operand
    to_binary = first no [] _ (itself _)

    two_forth : Within (O then λ at. behind_two ws E B at) ((O then λ at. parsed.cast ws E at) or (E then Rest))
    unfolding behind_two
    two_forth =
        after_either (kind ws) (type_kind ∷ []) O _ _ (first no [] _ (itself _))
        (second no [] _ (forth (to_left O (λ _. B) Rest) so in_turn paren_in (λ left. itself (Rest left))))

    to_cast : Within (Open then λ _. O then λ at. parsed.cast ws E at) Alternatives
    unfolding parsed.cast
    to_cast = second no [] _ (second no [] _ (second no [] _ (first no [] _ (itself _))))

    behind_forth : Within (Open then λ _. Behind) Alternatives
    unfolding behind_paren parsed.negation parsed.complement parsed.load pointed_type
    behind_forth =
        after_either (kind ws) (mark_kind minus ∷ []) Open _ _ (second no [] _ (first no [] _ (itself _)))
        (after_either (kind ws) (mark_kind tilde ∷ []) Open _ _ (second no [] _ (second no [] _ (first no [] _ (itself _))))
        (after_either (kind ws) (mark_kind times ∷ []) Open _ _ (second no [] _ (second no [] _ (second no [] _ (second no [] _ (itself _)))))
        (after_either (kind ws) (mark_kind left_paren ∷ []) Open _ _
        (on Open (λ _. two_forth) so apart_after no [] Open (λ _. O then λ at. parsed.cast ws E at) (λ _. E then Rest) so either no [] to_cast to_binary)
        (on Open (λ _. in_turn plain_in (λ left. itself (Rest left))) so to_binary))))

    two_back : Within (O then λ at. behind_two ws E B at) Behind
    unfolding behind_paren
    two_back = second (kind ws) (mark_kind minus ∷ []) _ (second (kind ws) (mark_kind tilde ∷ []) _ (second (kind ws) (mark_kind times ∷ []) _ (first (kind ws) (mark_kind left_paren ∷ []) _ (itself _))))

    last_back : Within (plain_operand ws O then Rest) Behind
    unfolding behind_paren
    last_back = second (kind ws) (mark_kind minus ∷ []) _ (second (kind ws) (mark_kind tilde ∷ []) _ (second (kind ws) (mark_kind times ∷ []) _ (second (kind ws) (mark_kind left_paren ∷ []) _ (itself _))))

    name_plain : Within Named (plain_operand ws O)
    unfolding plain_operand
    name_plain = first (kind ws) (name_kind ∷ []) _ (itself Named)

    constant_plain : Within (parsed.constant ws O) (plain_operand ws O)
    unfolding plain_operand
    constant_plain = second (kind ws) (name_kind ∷ []) _ (itself (parsed.constant ws O))

    paren_two : Within (O then λ _. B then Rest) (O then λ at. behind_two ws E B at)
    unfolding behind_two
    paren_two = on O (λ at. second (kind ws) (type_kind ∷ []) _ (itself _))

    abbrev Apart : Tree
    Apart = choice (kind ws) (name_kind ∷ []) (Named then Rest) (choice (kind ws) (constant_kind ∷ []) (parsed.constant ws O then Rest) ((O then λ _. B) then Rest))

    apart_sum : Within (E then Rest) Apart
    unfolding expression_with other_expression
    apart_sum =
        either_before (kind ws) (name_kind ∷ []) Rest (first (kind ws) (name_kind ∷ []) _ (itself _))
        (either_before (kind ws) (constant_kind ∷ []) Rest (second (kind ws) (name_kind ∷ []) _ (first (kind ws) (constant_kind ∷ []) _ (itself _)))
        (second (kind ws) (name_kind ∷ []) _ (second (kind ws) (constant_kind ∷ []) _ (itself _))))

    sum_back : Within (E then Rest) Behind
    sum_back =
        apart_sum
        so either (kind ws) (name_kind ∷ []) (in_turn name_plain (λ left. itself (Rest left)) so last_back)
        (either (kind ws) (constant_kind ∷ []) (in_turn constant_plain (λ left. itself (Rest left)) so last_back) (back (to_left O (λ _. B) Rest) so paren_two so two_back))

    binary_back : Within (production.binary ws E) (Open then λ _. E then Rest)
    unfolding second_operand
    binary_back = itself _

    cast_back : Within (production.cast ws O E) (Open then λ _. O then λ at. behind_two ws E B at)
    unfolding behind_two parsed.cast
    cast_back = on Open (λ _. on O (λ at. first (kind ws) (type_kind ∷ []) _ (itself _)))

    negation_back : Within (production.negation ws E) (Open then λ _. Behind)
    unfolding behind_paren parsed.negation
    negation_back = on Open (λ _. first (kind ws) (mark_kind minus ∷ []) _ (itself _))

    complement_back : Within (production.complement ws E) (Open then λ _. Behind)
    unfolding behind_paren parsed.complement
    complement_back = on Open (λ _. second (kind ws) (mark_kind minus ∷ []) _ (first (kind ws) (mark_kind tilde ∷ []) _ (itself _)))

    load_back : Within (production.load ws O E) (Open then λ _. Behind)
    unfolding behind_paren parsed.load pointed_type
    load_back = on Open (λ _. second (kind ws) (mark_kind minus ∷ []) _ (second (kind ws) (mark_kind tilde ∷ []) _ (first (kind ws) (mark_kind times ∷ []) _ (itself _))))

    behind_back : Within Alternatives (Open then λ _. Behind)
    behind_back =
        either no [] (binary_back so on Open (λ _. sum_back)) (either no [] negation_back (either no [] complement_back (either no [] (cast_back so on Open (λ _. two_back)) load_back)))

    abbrev Head : Tree
    Head = Named or parsed.constant ws Open or (Open then λ _. Behind)

    head_forth : Within (expression_with ws Open Behind) Head
    unfolding expression_with other_expression
    head_forth = each (kind ws) (name_kind ∷ []) no [] (itself _) (each (kind ws) (constant_kind ∷ []) no [] (itself _) (itself _))

    head_back : Within Head (expression_with ws Open Behind)
    unfolding expression_with other_expression
    head_back = each no [] (kind ws) (name_kind ∷ []) (itself _) (each no [] (kind ws) (constant_kind ∷ []) (itself _) (itself _))

    expr_choice : Same (expression_with ws Open Behind) (production.expr ws O E)
    expr_choice = both (head_forth so each no [] no [] (itself Named) (each no [] no [] (forth (constant_line Open)) behind_forth)) (each no [] no [] (itself Named) (each no [] no [] (back (constant_line Open)) behind_back) so head_back)

  abbrev too_deep : Syntax PlainToken Place
  too_deep = deep expression_limit (kind ws) (mark_kind left_paren ∷ []) Open

  deeper_forth : Within too_deep (deep expression_limit no [] Open)
  deeper_forth = deeper expression_limit (kind ws) (mark_kind left_paren ∷ []) no [] (itself Open)

  deeper_back : Within (deep expression_limit no [] Open) too_deep
  deeper_back = deeper expression_limit no [] (kind ws) (mark_kind left_paren ∷ []) (itself Open)

  constant_within : {O P : Syntax PlainToken Place} → Within O P → Within (production.constant ws O) (production.constant ws P)
  constant_within w = on (one (placed (parsed.constant_of ws))) (λ t. in_turn w (λ _. itself _))

  least_choice : Same (expression_in ws zero) (production.least_expr ws (deep expression_limit no [] Open))
  unfolding expression_in opened behind_opened expression_with other_expression
  least_choice =
      both (each (kind ws) (name_kind ∷ []) no [] (itself _) (each (kind ws) (constant_kind ∷ []) no [] (forth (constant_line too_deep) so constant_within deeper_forth) (in_turn deeper_forth (λ _. itself none))))
      (each no [] (kind ws) (name_kind ∷ []) (itself _) (each no [] (kind ws) (constant_kind ∷ []) (constant_within deeper_back so back (constant_line too_deep)) (in_turn deeper_back (λ _. itself none))))

  pub least_expression_line : Same (expression_in ws zero) (production.least_expr ws (deep expression_limit no [] Open))
  least_expression_line = least_choice

  in_depth : (n : ℕ) → Same (expression_in ws (suc n)) (expression_with ws Open (behind_paren ws (opened ws n) (behind_opened ws n)))
  unfolding expression_in opened behind_opened
  in_depth n = both (itself _) (itself _)

  at_depth : (n : ℕ) → Same (production.expr ws (opened ws n) (expression_with ws (opened ws n) (behind_opened ws n))) (production.expr ws (opened ws n) (expression_in ws n))
  unfolding expression_in
  at_depth n = both (itself _) (itself _)

  pub expression_line : (n : ℕ) → Same (expression_in ws (suc n)) (production.expr ws (opened ws n) (expression_in ws n))
  expression_line n =
      let s = expr_choice (opened ws n) (behind_opened ws n) in
      both (forth (in_depth n) so forth s so forth (at_depth n)) (back (at_depth n) so back s so back (in_depth n))

  -- ---- calls

  pub argument_line : Same (parsed.argument ws) (production.argument ws)
  unfolding parsed.argument
  argument_line =
      both
      (either (kind ws) (number_kind ∷ []) (second no [] _ (first no [] _ (itself _)))
      (either (kind ws) (text_kind ∷ []) (second no [] _ (second no [] _ (itself _))) (first no [] _ (itself _))))
      (either no [] (second (kind ws) (number_kind ∷ []) _ (second (kind ws) (text_kind ∷ []) _ (itself _)))
      (either no [] (first (kind ws) (number_kind ∷ []) _ (itself _)) (second (kind ws) (number_kind ∷ []) _ (first (kind ws) (text_kind ∷ []) _ (itself _)))))

  some_line : Same (parsed.some_arguments ws) (production.some_arguments ws)
  unfolding parsed.some_arguments next_argument
  some_line =
      both (on (parsed.argument ws) (λ x. turns (kind ws) (λ _. mark_kind comma ∷ []) no (λ _. []) (λ xs. itself _) (x ∷ [])))
      (on (parsed.argument ws) (λ x. turns no (λ _. []) (kind ws) (λ _. mark_kind comma ∷ []) (λ xs. itself _) (x ∷ [])))

  pub call_line : (some : Bool) (f : NameUse) → Same (call_of ws some f) (production.call ws some f)
  unfolding call_of parsed.arguments
  call_line true f = both (on Open (λ at. in_turn (forth some_line) (λ xs. itself _))) (on Open (λ at. in_turn (back some_line) (λ xs. itself _)))
  call_line false f =
      both (on Open (λ at. in_turn (each (kind ws) first_argument no [] (forth some_line) (itself _)) (λ xs. itself _)))
      (on Open (λ at. in_turn (each no [] (kind ws) first_argument (back some_line) (itself _)) (λ xs. itself _)))

  -- ---- statements that begin with a name

  name_expression : Within Named (expression ws)
  unfolding expression expression_in expression_with
  name_expression = first (kind ws) (name_kind ∷ []) _ (itself Named)

  but_name_expression : Within (expression_but_name ws) (expression ws)
  unfolding expression expression_but_name expression_in expression_with
  but_name_expression = second (kind ws) (name_kind ∷ []) _ (itself _)

  expression_parts : Within (expression ws) (Named or expression_but_name ws)
  unfolding expression expression_but_name expression_in expression_with
  expression_parts = each (kind ws) (name_kind ∷ []) no [] (itself _) (itself _)

  abbrev Assign : Syntax PlainToken Place
  Assign = mark ws assign

  abbrev set_at : NameUse → Place → ParsedExpression → Syntax PlainToken ParsedStatement
  set_at x at e = mark ws semicolon then λ _. gives (Set x at e)

  abbrev take_at : NameUse → Place → Syntax PlainToken ParsedStatement
  take_at x at = name ws then λ f. call_of ws false f then λ c. mark ws semicolon then λ _. gives (Take x at c)

  set_forth : (x : NameUse) (at : Place) → Within (set_to ws x at) ((expression ws then set_at x at) or take_at x at)
  unfolding set_to set_to_name set_to_call ended
  set_forth x at =
      either (kind ws) (name_kind ∷ []) (after_either (kind ws) (mark_kind left_paren ∷ []) (name ws) _ _ (second no [] _ (itself _))
      (first no [] _ (handed (name ws) Name (set_at x at) so in_turn name_expression (λ e. itself (set_at x at e))))) (first no [] _ (in_turn but_name_expression (λ e. itself (set_at x at e))))

  set_back : (x : NameUse) (at : Place) → Within ((expression ws then set_at x at) or take_at x at) (set_to ws x at)
  unfolding set_to set_to_name set_to_call ended
  set_back x at =
      either no [] (in_turn expression_parts (λ e. itself (set_at x at e)) so either_before no [] (set_at x at)
      (handed_back (name ws) Name (set_at x at) (λ y. inl (inl refl)) so first (kind ws) (name_kind ∷ []) _ (on (name ws) (λ y. second (kind ws) (mark_kind left_paren ∷ []) _ (itself _))))
      (second (kind ws) (name_kind ∷ []) _ (itself _)))
      (first (kind ws) (name_kind ∷ []) _ (on (name ws) (λ y. first (kind ws) (mark_kind left_paren ∷ []) _ (itself _))))

  abbrev begun_by_name : Bool → Syntax PlainToken ParsedStatement
  begun_by_name no_step = name ws then λ x. behind_name ws no_step x

  name_forth : (no_step : Bool) → Within (begun_by_name no_step) (production.set ws or production.called ws no_step)
  unfolding behind_name ended
  name_forth no_step =
      after_either (kind ws) (mark_kind assign ∷ []) (name ws) _ _
      (first no [] _ (on (name ws) (λ x. on Assign (λ at. set_forth x at) so apart_after no [] Assign (λ at. expression ws then set_at x at) (λ at. take_at x at))
      so apart_after no [] (name ws) (λ x. Assign then λ at. expression ws then set_at x at) (λ x. Assign then λ at. take_at x at))) (second no [] _ (itself _))

  name_back : (no_step : Bool) → Within (production.set ws or production.called ws no_step) (begun_by_name no_step)
  unfolding behind_name ended
  name_back no_step =
      either no []
      (either no [] (on (name ws) (λ x. first (kind ws) (mark_kind assign ∷ []) _ (on Assign (λ at. first no [] _ (itself _) so set_back x at))))
      (on (name ws) (λ x. first (kind ws) (mark_kind assign ∷ []) _ (on Assign (λ at. second no [] _ (itself _) so set_back x at)))))
      (on (name ws) (λ x. second (kind ws) (mark_kind assign ∷ []) _ (itself _)))

  -- ---- other statements

  -- one of two productions, by a test
  choose_line : (b : Bool) {N N' P P' : Syntax PlainToken ParsedStatement} → Same N N' → Same P P' → N.begun [] → P.begun [] → Same (cond b P N) (cond b none N' or cond b P' none)
  choose_line true {N} {N'} {P} n p e f = both (second no [] none (forth p)) (either no [] (nothing P f) (back p))
  choose_line false {N} n p e f = both (first no [] none (forth n)) (either no [] (back n) (nothing N e))

  -- "(" NAME and what stands after it
  abbrev Marked : NameUse → Syntax PlainToken ParsedStatement → Syntax PlainToken ParsedStatement
  Marked x K = Open then λ _. one (placed (is_same_name x.number)) then λ _. K

  marked_forth : (x : NameUse) (K : Syntax PlainToken ParsedStatement) → K.begun [] → Within (marked_name ws x then λ _. K) (Marked x K)
  unfolding marked_name
  marked_forth x K e =
      back (to_left Open (λ _. one (placed (is_same_name x.number)) then λ t. gives t.1) (λ _. K))
      so on Open (λ _. handed_back (one (placed (is_same_name x.number))) (λ t. t.1) (λ _. K) (λ _. e))

  marked_back : (x : NameUse) (K : Syntax PlainToken ParsedStatement) → Within (Marked x K) (marked_name ws x then λ _. K)
  unfolding marked_name
  marked_back x K =
      on Open (λ _. handed (one (placed (is_same_name x.number))) (λ t. t.1) (λ _. K)) so forth (to_left Open (λ _. one (placed (is_same_name x.number)) then λ t. gives t.1) (λ _. K))

  abbrev Ended : ParsedStatement → Syntax PlainToken ParsedStatement
  Ended a = mark ws right_paren then λ _. mark ws semicolon then λ _. gives a

  abbrev Sized : ℕ → ParsedStatement → Syntax PlainToken ParsedStatement
  Sized size a = mark ws comma then λ _. one (placed (is_number size)) then λ _. Ended a

  number_line_of : (size : ℕ) (x : NameUse) (a : ParsedStatement) → Same (number_mark ws size x a) (fixed ws initialize_kind then λ _. Marked x (Sized size a))
  unfolding number_mark mark_end ended
  number_line_of size x a =
      both (on (fixed ws initialize_kind) (λ _. marked_forth x (Sized size a) (inl (inl refl)))) (on (fixed ws initialize_kind) (λ _. marked_back x (Sized size a)))

  pointer_line : (x : NameUse) (a : ParsedStatement) → Same (pointer_mark ws x a) (fixed ws initialize_pointer_kind then λ _. Marked x (Ended a))
  unfolding pointer_mark mark_end ended
  pointer_line x a = both (on (fixed ws initialize_pointer_kind) (λ _. marked_forth x (Ended a) (inl (inl refl)))) (on (fixed ws initialize_pointer_kind) (λ _. marked_back x (Ended a)))

  pub mark_line : (t : MonType) (x : NameUse) (a : ParsedStatement) → Same (store_mark ws t x a) (production.store_mark ws t x a)
  unfolding store_mark number_mark pointer_mark
  mark_line t x a = choose_line (is_pointer t) (number_line_of (byte_count t) x a) (pointer_line x a) (inl (inl refl)) (inl (inl refl))

  store_line : Same (parsed.store ws) (production.store ws)
  unfolding parsed.store stored pointed_type
  store_line =
      both
      (on (mark ws times) (λ _. on Open (λ _. on (production.pointed_type ws) (λ t. on (name ws) (λ x. on Assign (λ at. on (expression ws) (λ e. on (mark ws semicolon) (λ _. forth (mark_line t x (Store t x at e))))))))))
      (on (mark ws times) (λ _. on Open (λ _. on (production.pointed_type ws) (λ t. on (name ws) (λ x. on Assign (λ at. on (expression ws) (λ e. on (mark ws semicolon) (λ _. back (mark_line t x (Store t x at e))))))))))

  body_line : (S : InBody ws) → Same (parsed.body ws S) (production.body ws S)
  unfolding parsed.body statements one_more
  body_line S =
      both (on (mark ws left_brace) (λ _. in_turn (turns (kind ws) (λ _. first_statement) no (λ _. []) (λ xs. itself _) []) (λ xs. itself _)))
      (on (mark ws left_brace) (λ _. in_turn (turns no (λ _. []) (kind ws) (λ _. first_statement) (λ xs. itself _) []) (λ xs. itself _)))

  selection_line : (S : InBody ws) → Same (parsed.selection ws S) (production.selection ws S)
  unfolding parsed.selection
  selection_line S =
      both
      (on (fixed ws if_kind) (λ _. on Open (λ _. on (expression ws) (λ e. on (mark ws right_paren) (λ _. in_turn (forth (body_line S)) (λ a. on (fixed ws else_kind) (λ _. in_turn (forth (body_line S)) (λ b. itself _))))))))
      (on (fixed ws if_kind) (λ _. on Open (λ _. on (expression ws) (λ e. on (mark ws right_paren) (λ _. in_turn (back (body_line S)) (λ a. on (fixed ws else_kind) (λ _. in_turn (back (body_line S)) (λ b. itself _))))))))

  iteration_line : (S : InBody ws) → Same (parsed.iteration ws S) (production.iteration ws S)
  unfolding parsed.iteration one_more_in_loop
  iteration_line S =
      both
      (on (fixed ws while_kind) (λ _. on Open (λ _. on (one (placed (is_number 1))) (λ _. on (mark ws right_paren) (λ _. on (mark ws left_brace) (λ _.
      in_turn (turns (kind ws) (λ _. first_statement) no (λ _. []) (λ x. itself _) nothing_read) (λ x. itself _)))))))
      (on (fixed ws while_kind) (λ _. on Open (λ _. on (one (placed (is_number 1))) (λ _. on (mark ws right_paren) (λ _. on (mark ws left_brace) (λ _.
      in_turn (turns no (λ _. []) (kind ws) (λ _. first_statement) (λ x. itself _) nothing_read) (λ x. itself _)))))))

  labelled_line : (S : InBody ws) → Same (parsed.labelled ws S) (production.labelled ws S)
  unfolding parsed.labelled ended
  labelled_line S = both (in_turn (forth (body_line S)) (λ a. itself _)) (in_turn (back (body_line S)) (λ a. itself _))

  jump_line : Same (parsed.jump ws) (production.jump ws)
  unfolding parsed.jump ended
  jump_line = both (itself _) (itself _)

  abbrev return_at : Place → Option ParsedExpression → Syntax PlainToken ParsedStatement
  return_at at e = mark ws semicolon then λ _. gives (Return at e)

  return_line : Same (parsed.return_statement ws) (production.return_statement ws)
  unfolding parsed.return_statement returned ended
  return_line =
      both
      (on (fixed ws return_kind) (λ at. either (kind ws) first_expression
      (handed (expression ws) Some (return_at at) so in_turn (first no [] _ (itself _)) (λ e. itself (return_at at e)))
      (given_back None (return_at at) so in_turn (second no [] _ (itself (gives None))) (λ e. itself (return_at at e)))))
      (on (fixed ws return_kind) (λ at. either_before no [] (return_at at)
      (handed_back (expression ws) Some (return_at at) (λ e. inl (inl refl)) so first (kind ws) first_expression _ (itself _))
      (given_first None (return_at at) (inl (inl refl)) so second (kind ws) first_expression _ (itself _))))

  statement_choice : (S : InBody ws) (no_step : Bool) → Same (statement_with ws S no_step) (production.statement ws S no_step)
  unfolding statement_with
  statement_choice S no_step =
      both
      (either (kind ws) (name_kind ∷ []) (name_forth no_step so either no [] (first no [] _ (itself (production.set ws))) (second no [] _ (first no [] _ (itself (production.called ws no_step)))))
      (second no [] _ (second no [] _
      (each (kind ws) (mark_kind times ∷ []) no [] (forth store_line)
      (either (kind ws) (mark_kind left_brace ∷ []) (second no [] _ (second no [] _ (first no [] _ (forth (labelled_line S)))))
      (either (kind ws) (if_kind ∷ []) (first no [] _ (forth (selection_line S)))
      (either (kind ws) (while_kind ∷ []) (second no [] _ (first no [] _ (forth (iteration_line S))))
      (second no [] _ (second no [] _ (second no [] _ (each (kind ws) (goto_kind ∷ []) no [] (forth jump_line) (forth return_line))))))))))))
      (either no [] (first (kind ws) (name_kind ∷ []) _ (first no [] _ (itself (production.set ws)) so name_back no_step))
      (either no [] (first (kind ws) (name_kind ∷ []) _ (second no [] _ (itself (production.called ws no_step)) so name_back no_step))
      (second (kind ws) (name_kind ∷ []) _
      (each no [] (kind ws) (mark_kind times ∷ []) (back store_line)
      (either no [] (second (kind ws) (mark_kind left_brace ∷ []) _ (first (kind ws) (if_kind ∷ []) _ (back (selection_line S))))
      (either no [] (second (kind ws) (mark_kind left_brace ∷ []) _ (second (kind ws) (if_kind ∷ []) _ (first (kind ws) (while_kind ∷ []) _ (back (iteration_line S)))))
      (either no [] (first (kind ws) (mark_kind left_brace ∷ []) _ (back (labelled_line S)))
      (second (kind ws) (mark_kind left_brace ∷ []) _ (second (kind ws) (if_kind ∷ []) _ (second (kind ws) (while_kind ∷ []) _
      (each no [] (kind ws) (goto_kind ∷ []) (back jump_line) (back return_line))))))))))))

  statement_in_depth : (n : ℕ) (no_step : Bool) → Same (statement_in ws (suc n) no_step) (statement_with ws (statement_in ws n) no_step)
  unfolding statement_in
  statement_in_depth n no_step = both (itself _) (itself _)

  pub statement_line : (n : ℕ) (no_step : Bool) → Same (statement_in ws (suc n) no_step) (production.statement ws (statement_in ws n) no_step)
  statement_line n no_step =
      let s = statement_choice (statement_in ws n) no_step in
      both (forth (statement_in_depth n no_step) so forth s) (back s so back (statement_in_depth n no_step))

  pub deepest_line : (no_step : Bool) → Same (statement_in ws zero no_step) (deep nesting_limit no [] (production.statement ws (λ _. none) no_step))
  unfolding statement_in
  deepest_line no_step =
      let s = statement_choice (λ _. none) no_step in
      both (deeper nesting_limit (kind ws) first_statement no [] (forth s)) (deeper nesting_limit no [] (kind ws) first_statement (back s))

  -- ---- texts

  pub text_line : Same (parsed.text ws) (production.text ws)
  unfolding parsed.text globals one_more_global functions one_more_function
  text_line =
      both
      (on (one (parsed.is_head ws)) (λ _. in_turn (turns (kind ws) (λ _. static_kind ∷ []) no (λ _. []) (λ gs. itself _) []) (λ gs.
      in_turn (turns (kind ws) (λ _. first_function) no (λ _. []) (λ fs. itself _) []) (λ fs. itself _))))
      (on (one (parsed.is_head ws)) (λ _. in_turn (turns no (λ _. []) (kind ws) (λ _. static_kind ∷ []) (λ gs. itself _) []) (λ gs.
      in_turn (turns no (λ _. []) (kind ws) (λ _. first_function) (λ fs. itself _) []) (λ fs. itself _))))

  pub global_line : Same (parsed.global ws) (production.global ws)
  unfolding parsed.global parsed.zeros parsed.literal parsed.length_of_global
  global_line =
      both (after_either (kind ws) (char_kind ∷ []) (fixed ws static_kind) _ _ (first no [] _ (itself _)) (second no [] _ (itself _)))
      (either no [] (on (fixed ws static_kind) (λ _. first (kind ws) (char_kind ∷ []) _ (itself _))) (on (fixed ws static_kind) (λ _. second (kind ws) (char_kind ∷ []) _ (itself _))))

  parameters_line : Same (parsed.parameters ws) (production.parameters ws)
  unfolding parsed.parameters parsed.some_parameters parsed.next_parameter parsed.parameter
  parameters_line =
      both (each (kind ws) (void_kind ∷ []) no [] (itself _) (on (production.parameter ws) (λ p. turns (kind ws) (λ _. mark_kind comma ∷ []) no (λ _. []) (λ ps. itself _) (p ∷ []))))
      (each no [] (kind ws) (void_kind ∷ []) (itself _) (on (production.parameter ws) (λ p. turns no (λ _. []) (kind ws) (λ _. mark_kind comma ∷ []) (λ ps. itself _) (p ∷ []))))

  registers_line : Same (parsed.registers ws) (production.registers ws)
  unfolding parsed.registers parsed.register
  registers_line = both (turns (kind ws) (λ _. type_kind ∷ []) no (λ _. []) (λ rs. itself _) []) (turns no (λ _. []) (kind ws) (λ _. type_kind ∷ []) (λ rs. itself _) [])

  result_line : Same (parsed.result ws) ((one (placed (type_of ws)) then λ t. gives (Some t.0)) or (fixed ws void_kind then λ _. gives None))
  unfolding parsed.result
  result_line = both (each (kind ws) (type_kind ∷ []) no [] (itself _) (itself _)) (each no [] (kind ws) (type_kind ∷ []) (itself _) (itself _))

  pub function_line : Same (parsed.function ws) (production.function ws)
  unfolding parsed.function parsed.function_body statements one_more
  function_line =
      both
      (in_turn (forth result_line) (λ r. on (name ws) (λ f. on Open (λ _. in_turn (forth parameters_line) (λ ps. on (mark ws right_paren) (λ _. on (mark ws left_brace) (λ _. in_turn (forth registers_line) (λ rs.
      in_turn (turns (kind ws) (λ _. first_statement) no (λ _. []) (λ xs. itself _) []) (λ xs. itself _)))))))))
      (in_turn (back result_line) (λ r. on (name ws) (λ f. on Open (λ _. in_turn (back parameters_line) (λ ps. on (mark ws right_paren) (λ _. on (mark ws left_brace) (λ _. in_turn (back registers_line) (λ rs.
      in_turn (turns no (λ _. []) (kind ws) (λ _. first_statement) (λ xs. itself _) []) (λ xs. itself _)))))))))
