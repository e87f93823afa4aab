-- What the productions of declarations give, step by step.
use Rattle.std.proofs.Common.{◌≡◌, ℕ, zero, suc, ◌-◌, ◌<◌, Bool, true, false, cond, List, [], ◌∷◌, length, Ok, Err, refl, arith}
use Rattle.grammar.specs.Syntax.{At, Over, sees}
use Rattle.grammar.proofs.Productions.{turn, turn_fails, turn_ends, turn_to}
use Rattle.c_syntax.specs.declared.token.Token.{Token}
use Rattle.c_syntax.specs.declared.fault.ReadFault.{ReadFault}
use Rattle.c_syntax.specs.Ctypes.{PlainType}
use Rattle.c_syntax.specs.Statements.{Initialiser, Declaration}
use Rattle.c_syntax.specs.Programs.{StructMember, EnumConstant}
use Rattle.c_syntax.specs.Tokens.{PlainToken}
use Rattle.c_model.specs.declared.declarations.Storage.{Storage}
use Rattle.c_model.specs.Vocabulary.{Vocabulary}
use Rattle.c_model.specs.Punctuators.{comma, left_brace}
use Rattle.c_model.specs.Terminals.{nesting_limit}
use Rattle.c_model.specs.ExpressionGrammar.{name_kind, mark_kind, kind, first_type}
use Rattle.c_model.specs.DeclarationGrammar.{first_item_of_list, TagHead, Definitions, storage_words, item_once, more_items, item_of_list, list_of, list_in, next_declared, next_parameter, next_member, member}
use Rattle.c_model.specs.DeclarationGrammar.{more_members, constant, braces_of, braces_in}
use Rattle.c_model.specs.DeclarationGrammar.{storage_word, more_storage}
use Rattle.token_reader.specs.Reading.{plain_list, Fails}
use Rattle.c_expr_parser.proofs.ExactExpressions.{more_expression}
use Rattle.c_declaration_parser.specs.Reading.{other_declared, other_parameters, other_members}
use Rattle.token_reader.proofs.Faults.{again}
use Rattle.token_reader.proofs.Shorter.{shorter}
use Rattle.c_declaration_parser.proofs.Turns.{turn_to_fails, turn_to_ends}
use Rattle.c_declaration_parser.proofs.ExactDeclarations.{more_constant, items_fit, item_once_good, item_of_list_good, list_in_good, next_declared_good, next_parameter_good}
use Rattle.c_declaration_parser.proofs.ExactDeclarations.{next_member_good, constant_good, member_good}
use Rattle.c_declaration_parser.proofs.ExactDeclarations.{braces_in_good, storage_word_good, storage_fit}

module _ (ws : Vocabulary) where
  pub declared_turn : (t : PlainType) (x y : List Declaration) (ts rest : List PlainToken) → sees (kind ws) (mark_kind comma ∷ []) ts ≡ true → (next_declared ws t x).parse ts ≡ Ok (y, rest) →
      (other_declared ws t x).parse ts ≡ (other_declared ws t y).parse rest
  unfolding other_declared
  declared_turn t x y ts rest s e = turn (mark_kind comma ∷ []) (next_declared ws t) (λ z. (next_declared_good ws t z).here) refl x y ts rest s e

  pub declared_fails : (t : PlainType) (x : List Declaration) (ts : List PlainToken) (e : ReadFault) → sees (kind ws) (mark_kind comma ∷ []) ts ≡ true → Fails e ((next_declared ws t x).parse ts) → Fails e ((other_declared ws t x).parse ts)
  unfolding other_declared
  declared_fails t x ts e s = again e (λ d. turn_fails (mark_kind comma ∷ []) (next_declared ws t) (λ z. (next_declared_good ws t z).here) refl x ts d s)

  pub declared_ends : (t : PlainType) (x : List Declaration) (ts : List PlainToken) → sees (kind ws) (mark_kind comma ∷ []) ts ≡ false → (other_declared ws t x).parse ts ≡ Ok (x, ts)
  unfolding other_declared
  declared_ends t x ts s = turn_ends (mark_kind comma ∷ []) (next_declared ws t) (λ z. (next_declared_good ws t z).here) refl x ts s

  pub declared_shorter : (t : PlainType) (x y : List Declaration) (ts rest : List Token) → (next_declared ws t x).parse (plain_list ts) ≡ Ok (y, plain_list rest) → length rest < length ts
  declared_shorter t x y ts rest e = shorter (next_declared ws t x) (next_declared_good ws t x).here ts rest y e

  pub parameters_turn : (x y : List Declaration) (ts rest : List PlainToken) → sees (kind ws) (mark_kind comma ∷ []) ts ≡ true → (next_parameter ws x).parse ts ≡ Ok (y, rest) → (other_parameters ws x).parse ts ≡ (other_parameters ws y).parse rest
  unfolding other_parameters
  parameters_turn x y ts rest s e = turn (mark_kind comma ∷ []) (next_parameter ws) (λ z. (next_parameter_good ws z).here) refl x y ts rest s e

  pub parameters_fails : (x : List Declaration) (ts : List PlainToken) (e : ReadFault) → sees (kind ws) (mark_kind comma ∷ []) ts ≡ true → Fails e ((next_parameter ws x).parse ts) → Fails e ((other_parameters ws x).parse ts)
  unfolding other_parameters
  parameters_fails x ts e s = again e (λ d. turn_fails (mark_kind comma ∷ []) (next_parameter ws) (λ z. (next_parameter_good ws z).here) refl x ts d s)

  pub parameters_ends : (x : List Declaration) (ts : List PlainToken) → sees (kind ws) (mark_kind comma ∷ []) ts ≡ false → (other_parameters ws x).parse ts ≡ Ok (x, ts)
  unfolding other_parameters
  parameters_ends x ts s = turn_ends (mark_kind comma ∷ []) (next_parameter ws) (λ z. (next_parameter_good ws z).here) refl x ts s

  pub parameters_shorter : (x y : List Declaration) (ts rest : List Token) → (next_parameter ws x).parse (plain_list ts) ≡ Ok (y, plain_list rest) → length rest < length ts
  parameters_shorter x y ts rest e = shorter (next_parameter ws x) (next_parameter_good ws x).here ts rest y e

  pub member_turn : (t : PlainType) (x y : List StructMember) (ts rest : List PlainToken) → sees (kind ws) (mark_kind comma ∷ []) ts ≡ true → (next_member ws t x).parse ts ≡ Ok (y, rest) →
      (other_members ws t x).parse ts ≡ (other_members ws t y).parse rest
  unfolding other_members
  member_turn t x y ts rest s e = turn (mark_kind comma ∷ []) (next_member ws t) (λ z. (next_member_good ws t z).here) refl x y ts rest s e

  pub member_fails : (t : PlainType) (x : List StructMember) (ts : List PlainToken) (e : ReadFault) → sees (kind ws) (mark_kind comma ∷ []) ts ≡ true → Fails e ((next_member ws t x).parse ts) → Fails e ((other_members ws t x).parse ts)
  unfolding other_members
  member_fails t x ts e s = again e (λ d. turn_fails (mark_kind comma ∷ []) (next_member ws t) (λ z. (next_member_good ws t z).here) refl x ts d s)

  pub member_ends : (t : PlainType) (x : List StructMember) (ts : List PlainToken) → sees (kind ws) (mark_kind comma ∷ []) ts ≡ false → (other_members ws t x).parse ts ≡ Ok (x, ts)
  unfolding other_members
  member_ends t x ts s = turn_ends (mark_kind comma ∷ []) (next_member ws t) (λ z. (next_member_good ws t z).here) refl x ts s

  pub member_shorter : (t : PlainType) (x y : List StructMember) (ts rest : List Token) → (next_member ws t x).parse (plain_list ts) ≡ Ok (y, plain_list rest) → length rest < length ts
  member_shorter t x y ts rest e = shorter (next_member ws t x) (next_member_good ws t x).here ts rest y e

  pub storage_turn : (x y : Storage) (ts rest : List PlainToken) → sees (kind ws) (storage_words x) ts ≡ true → (storage_word ws x).parse ts ≡ Ok (y, rest) → (more_storage ws x).parse ts ≡ (more_storage ws y).parse rest
  unfolding more_storage
  storage_turn x y ts rest s e = turn_to storage_words (storage_word ws) (λ z. (storage_word_good ws z).here) (storage_fit ws) x y ts rest s e

  pub storage_fails : (x : Storage) (ts : List PlainToken) (e : ReadFault) → sees (kind ws) (storage_words x) ts ≡ true → Fails e ((storage_word ws x).parse ts) → Fails e ((more_storage ws x).parse ts)
  unfolding more_storage
  storage_fails x ts e s = turn_to_fails storage_words (storage_word ws) (λ z. (storage_word_good ws z).here) (storage_fit ws) x ts e s

  pub storage_ends : (x : Storage) (ts : List PlainToken) → sees (kind ws) (storage_words x) ts ≡ false → (more_storage ws x).parse ts ≡ Ok (x, ts)
  unfolding more_storage
  storage_ends x ts s = turn_to_ends storage_words (storage_word ws) (λ z. (storage_word_good ws z).here) (storage_fit ws) x ts s

  pub storage_shorter : (x y : Storage) (ts rest : List Token) → (storage_word ws x).parse (plain_list ts) ≡ Ok (y, plain_list rest) → length rest < length ts
  storage_shorter x y ts rest e = shorter (storage_word ws x) (storage_word_good ws x).here ts rest y e

  pub constants_turn : (x y : List EnumConstant × Bool) (ts rest : List PlainToken) → sees (kind ws) (cond x.1 (name_kind ∷ []) []) ts ≡ true → (item_once ws (constant ws) x).parse ts ≡ Ok (y, rest) →
      (more_items ws (name_kind ∷ []) (constant ws) x).parse ts ≡ (more_items ws (name_kind ∷ []) (constant ws) y).parse rest
  unfolding more_items
  constants_turn x y ts rest s e =
      turn_to (λ y. cond y.1 (name_kind ∷ []) []) (item_once ws (constant ws)) (λ z. (item_once_good ws (name_kind ∷ []) more_constant (constant_good ws) refl z).here) (items_fit (name_kind ∷ []) more_constant) x y ts rest s e

  pub constants_fails : (x : List EnumConstant × Bool) (ts : List PlainToken) (e : ReadFault) → sees (kind ws) (cond x.1 (name_kind ∷ []) []) ts ≡ true → Fails e ((item_once ws (constant ws) x).parse ts) →
      Fails e ((more_items ws (name_kind ∷ []) (constant ws) x).parse ts)
  unfolding more_items
  constants_fails x ts e s = turn_to_fails (λ y. cond y.1 (name_kind ∷ []) []) (item_once ws (constant ws)) (λ z. (item_once_good ws (name_kind ∷ []) more_constant (constant_good ws) refl z).here) (items_fit (name_kind ∷ []) more_constant) x ts e s

  pub constants_ends : (x : List EnumConstant × Bool) (ts : List PlainToken) → sees (kind ws) (cond x.1 (name_kind ∷ []) []) ts ≡ false → (more_items ws (name_kind ∷ []) (constant ws) x).parse ts ≡ Ok (x, ts)
  unfolding more_items
  constants_ends x ts s = turn_to_ends (λ y. cond y.1 (name_kind ∷ []) []) (item_once ws (constant ws)) (λ z. (item_once_good ws (name_kind ∷ []) more_constant (constant_good ws) refl z).here) (items_fit (name_kind ∷ []) more_constant) x ts s

  pub constants_shorter : (x y : List EnumConstant × Bool) (ts rest : List Token) → (item_once ws (constant ws) x).parse (plain_list ts) ≡ Ok (y, plain_list rest) → length rest < length ts
  constants_shorter x y ts rest e = shorter (item_once ws (constant ws) x) (item_once_good ws (name_kind ∷ []) more_constant (constant_good ws) refl x).here ts rest y e

  -- ---- braces in others

  module _ (d : ℕ) where
    pub inits_turn : (x y : List Initialiser × Bool) (ts rest : List PlainToken) → sees (kind ws) (cond x.1 first_item_of_list []) ts ≡ true → (item_once ws (item_of_list ws (list_in ws d)) x).parse ts ≡ Ok (y, rest) →
        (more_items ws first_item_of_list (item_of_list ws (list_in ws d)) x).parse ts ≡ (more_items ws first_item_of_list (item_of_list ws (list_in ws d)) y).parse rest
    unfolding more_items
    inits_turn x y ts rest s e =
        turn_to (λ y. cond y.1 first_item_of_list []) (item_once ws (item_of_list ws (list_in ws d))) (λ z. (item_once_good ws first_item_of_list more_expression (item_of_list_good ws (list_in_good ws d)) refl z).here)
        (items_fit first_item_of_list more_expression) x y ts rest s e

    pub inits_fails : (x : List Initialiser × Bool) (ts : List PlainToken) (e : ReadFault) → sees (kind ws) (cond x.1 first_item_of_list []) ts ≡ true → Fails e ((item_once ws (item_of_list ws (list_in ws d)) x).parse ts) →
        Fails e ((more_items ws first_item_of_list (item_of_list ws (list_in ws d)) x).parse ts)
    unfolding more_items
    inits_fails x ts e s =
        turn_to_fails (λ y. cond y.1 first_item_of_list []) (item_once ws (item_of_list ws (list_in ws d))) (λ z. (item_once_good ws first_item_of_list more_expression (item_of_list_good ws (list_in_good ws d)) refl z).here)
        (items_fit first_item_of_list more_expression) x ts e s

    pub inits_ends : (x : List Initialiser × Bool) (ts : List PlainToken) → sees (kind ws) (cond x.1 first_item_of_list []) ts ≡ false → (more_items ws first_item_of_list (item_of_list ws (list_in ws d)) x).parse ts ≡ Ok (x, ts)
    unfolding more_items
    inits_ends x ts s =
        turn_to_ends (λ y. cond y.1 first_item_of_list []) (item_once ws (item_of_list ws (list_in ws d))) (λ z. (item_once_good ws first_item_of_list more_expression (item_of_list_good ws (list_in_good ws d)) refl z).here)
        (items_fit first_item_of_list more_expression) x ts s

    pub inits_shorter : (x y : List Initialiser × Bool) (ts rest : List Token) → (item_once ws (item_of_list ws (list_in ws d)) x).parse (plain_list ts) ≡ Ok (y, plain_list rest) → length rest < length ts
    inits_shorter x y ts rest e = shorter (item_once ws (item_of_list ws (list_in ws d)) x) (item_once_good ws first_item_of_list more_expression (item_of_list_good ws (list_in_good ws d)) refl x).here ts rest y e

    pub members_turn : (x y : List StructMember × Definitions) (ts rest : List PlainToken) → sees (kind ws) first_type ts ≡ true → (member ws (braces_in ws d) x).parse ts ≡ Ok (y, rest) →
        (more_members ws (braces_in ws d) x).parse ts ≡ (more_members ws (braces_in ws d) y).parse rest
    unfolding more_members
    members_turn x y ts rest s e = turn first_type (member ws (braces_in ws d)) (λ z. (member_good ws (braces_in_good ws d) z).here) refl x y ts rest s e

    pub members_fails : (x : List StructMember × Definitions) (ts : List PlainToken) (e : ReadFault) → sees (kind ws) first_type ts ≡ true → Fails e ((member ws (braces_in ws d) x).parse ts) → Fails e ((more_members ws (braces_in ws d) x).parse ts)
    unfolding more_members
    members_fails x ts e s = again e (λ f. turn_fails first_type (member ws (braces_in ws d)) (λ z. (member_good ws (braces_in_good ws d) z).here) refl x ts f s)

    pub members_ends : (x : List StructMember × Definitions) (ts : List PlainToken) → sees (kind ws) first_type ts ≡ false → (more_members ws (braces_in ws d) x).parse ts ≡ Ok (x, ts)
    unfolding more_members
    members_ends x ts s = turn_ends first_type (member ws (braces_in ws d)) (λ z. (member_good ws (braces_in_good ws d) z).here) refl x ts s

    pub members_shorter : (x y : List StructMember × Definitions) (ts rest : List Token) → (member ws (braces_in ws d) x).parse (plain_list ts) ≡ Ok (y, plain_list rest) → length rest < length ts
    members_shorter x y ts rest e = shorter (member ws (braces_in ws d) x) (member_good ws (braces_in_good ws d) x).here ts rest y e

  pub list_is : (d : ℕ) (ts : List PlainToken) → 0 < d → (list_in ws d).parse ts ≡ (list_of ws (list_in ws (d - 1))).parse ts
  unfolding list_in
  list_is zero ts h = absurd (omega arith)
  list_is (suc d) ts h = let e : suc d - 1 ≡ d = omega arith in rw e refl

  pub list_over : (d : ℕ) (ts : List PlainToken) → d ≡ 0 → sees (kind ws) (mark_kind left_brace ∷ []) ts ≡ true → (list_in ws d).parse ts ≡ Err (Over nesting_limit (length ts))
  unfolding list_in
  list_over zero ts h s = rw s refl
  list_over (suc d) ts h s = absurd (omega arith)

  pub list_at : (d : ℕ) (ts : List PlainToken) → d ≡ 0 → sees (kind ws) (mark_kind left_brace ∷ []) ts ≡ false → (list_in ws d).parse ts ≡ Err (At (length ts))
  unfolding list_in
  list_at zero ts h s = rw s refl
  list_at (suc d) ts h s = absurd (omega arith)

  pub braces_is : (n : ℕ) (h : TagHead) (d : Definitions) (ts : List PlainToken) → 0 < n → (braces_in ws n h d).parse ts ≡ (braces_of ws (braces_in ws (n - 1)) h d).parse ts
  unfolding braces_in
  braces_is zero h d ts l = absurd (omega arith)
  braces_is (suc n) h d ts l = let e : suc n - 1 ≡ n = omega arith in rw e refl

  pub braces_over : (n : ℕ) (h : TagHead) (d : Definitions) (ts : List PlainToken) → n ≡ 0 → sees (kind ws) (mark_kind left_brace ∷ []) ts ≡ true → (braces_in ws n h d).parse ts ≡ Err (Over nesting_limit (length ts))
  unfolding braces_in
  braces_over zero h d ts l s = rw s refl
  braces_over (suc n) h d ts l s = absurd (omega arith)

  pub braces_at : (n : ℕ) (h : TagHead) (d : Definitions) (ts : List PlainToken) → n ≡ 0 → sees (kind ws) (mark_kind left_brace ∷ []) ts ≡ false → (braces_in ws n h d).parse ts ≡ Err (At (length ts))
  unfolding braces_in
  braces_at zero h d ts l s = rw s refl
  braces_at (suc n) h d ts l s = absurd (omega arith)

-- ---- what the code of each production cites

pub ruleset declared_rules = (declared_turn, declared_fails, declared_ends, declared_shorter)

pub ruleset parameters_rules = (parameters_turn, parameters_fails, parameters_ends, parameters_shorter)

pub ruleset member_rules = (member_turn, member_fails, member_ends, member_shorter)

pub ruleset storage_rules = (storage_turn, storage_fails, storage_ends, storage_shorter)

pub ruleset constants_rules = (constants_turn, constants_fails, constants_ends, constants_shorter)

pub ruleset inits_rules = (inits_turn, inits_fails, inits_ends, inits_shorter)

pub ruleset members_rules = (members_turn, members_fails, members_ends, members_shorter)

pub ruleset list_rules = (list_is, list_over, list_at)

pub ruleset braces_rules = (braces_is, braces_over, braces_at)
