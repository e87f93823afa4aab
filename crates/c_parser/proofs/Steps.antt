-- What a production gives, step by step.
use Rattle.std.proofs.Common.{◌≡◌, ℕ, zero, suc, ◌-◌, ◌<◌, true, false, List, length, Ok, Err, refl, arith}
use Rattle.grammar.specs.Syntax.{At, Over, sees}
use Rattle.grammar.proofs.Productions.{turn, turn_fails, turn_ends}
use Rattle.c_syntax.specs.declared.token.Token.{Token}
use Rattle.c_syntax.specs.Tokens.{PlainToken}
use Rattle.c_syntax.specs.Statements.{BlockItem}
use Rattle.c_model.specs.declared.declarations.AnnotationState.{AnnotationState}
use Rattle.c_model.specs.Vocabulary.{Vocabulary}
use Rattle.c_model.specs.ExpressionGrammar.{kind}
use Rattle.c_model.specs.Terminals.{nesting_limit}
use Rattle.c_model.specs.ProgramGrammar.{first_loop, first_statement, first_branch, first_item, first_case, after_misplaced, after_loop, ReadCase, items_once, items, case_items_once, case_items, next_case, cases, loop_of, statement_of}
use Rattle.c_model.specs.ProgramGrammar.{branch_of, inside_of, too_deep, statement_in, branch_in, behind_in, inside_in}
use Rattle.c_syntax.specs.Logic.{Annotation}
use Rattle.c_syntax.specs.Programs.{FunctionContract}
use Rattle.c_model.specs.ClauseGrammar.{LoopClauses, ReadAnnotation, Assertions, Contracted, Looped}
use Rattle.c_parser.specs.Reading.{deep_fault}
use Rattle.c_syntax.specs.declared.fault.ReadFault.{ReadFault}
use Rattle.token_reader.specs.Reading.{plain_list, Fails}
use Rattle.token_reader.proofs.Faults.{again}
use Rattle.c_parser.proofs.ExactStatements.{items_once_good, case_items_once_good, next_case_good}
use Rattle.token_reader.proofs.Shorter.{shorter}
use Rattle.c_parser.proofs.ExactPrograms.{statement_good, inside_good}

-- ---- limits

module _ (ws : Vocabulary) where
  pub statement_is : (d : ℕ) (n : AnnotationState) (ts : List PlainToken) → 0 < d → (statement_in ws d n).parse ts ≡ (statement_of ws (statement_in ws (d - 1)) (inside_in ws (d - 1)) (branch_in ws (d - 1)) n).parse ts
  unfolding statement_in
  statement_is zero n ts h = absurd (omega arith)
  statement_is (suc d) n ts h = let e : suc d - 1 ≡ d = omega arith in rw e refl

  pub statement_over : (d : ℕ) (n : AnnotationState) (ts : List PlainToken) → d ≡ 0 → sees (kind ws) first_statement ts ≡ true → (statement_in ws d n).parse ts ≡ Err (Over nesting_limit (length ts))
  unfolding statement_in
  statement_over zero n ts h s = rw s refl
  statement_over (suc d) n ts h s = absurd (omega arith)

  pub statement_at : (d : ℕ) (n : AnnotationState) (ts : List PlainToken) → d ≡ 0 → sees (kind ws) first_statement ts ≡ false → (statement_in ws d n).parse ts ≡ Err (At (length ts))
  unfolding statement_in
  statement_at zero n ts h s = rw s refl
  statement_at (suc d) n ts h s = absurd (omega arith)

  pub branch_is : (d : ℕ) (n : AnnotationState) (ts : List PlainToken) → 0 < d → (branch_in ws d n).parse ts ≡ (branch_of ws (statement_in ws d) (behind_in ws (d - 1)) n).parse ts
  unfolding branch_of statement_in
  branch_is zero n ts h = absurd (omega arith)
  branch_is (suc d) n ts h = let e : suc d - 1 ≡ d = omega arith in rw e refl

  pub branch_deep : (d : ℕ) (n : AnnotationState) (ts : List PlainToken) → d ≡ 0 → (branch_in ws d n).parse ts ≡ deep_fault ws ts
  unfolding statement_in too_deep
  branch_deep zero n ts h = refl
  branch_deep (suc d) n ts h = absurd (omega arith)

  -- what stands behind an annotation: a loop behind its clauses, or a branch
  pub behind_asserts : (d : ℕ) (asserts : List Annotation) (m : ℕ) (n : AnnotationState) (ts : List PlainToken) → (d ≡ 0 → ⊥)
      → (behind_in ws d (Assertions asserts, m) n).parse ts ≡ (branch_in ws d (after_misplaced n (Assertions asserts, m))).parse ts
  unfolding statement_in inside_of
  behind_asserts zero asserts m n ts h = absurd (h refl)
  behind_asserts (suc d) asserts m n ts h = refl

  pub behind_contract : (d : ℕ) (c : FunctionContract) (m : ℕ) (n : AnnotationState) (ts : List PlainToken) → (d ≡ 0 → ⊥) → (behind_in ws d (Contracted c, m) n).parse ts ≡ (branch_in ws d (after_misplaced n (Contracted c, m))).parse ts
  unfolding statement_in inside_of
  behind_contract zero c m n ts h = absurd (h refl)
  behind_contract (suc d) c m n ts h = refl

  pub behind_loop_is : (d : ℕ) (l : LoopClauses) (m : ℕ) (n : AnnotationState) (ts : List PlainToken) → 0 < d → sees (kind ws) first_loop ts ≡ true
      → (behind_in ws d (Looped l, m) n).parse ts ≡ (loop_of ws (branch_in ws (d - 1)) l.clauses (after_loop n l m)).parse ts
  unfolding statement_in inside_of
  behind_loop_is zero l m n ts h s = absurd (omega arith)
  behind_loop_is (suc d) l m n ts h s = let e : suc d - 1 ≡ d = omega arith in rw (e, s) refl

  pub behind_no_loop : (d : ℕ) (l : LoopClauses) (m : ℕ) (n : AnnotationState) (ts : List PlainToken) → 0 < d → sees (kind ws) first_loop ts ≡ false
      → (behind_in ws d (Looped l, m) n).parse ts ≡ (branch_in ws d (after_misplaced n (Looped l, m))).parse ts
  unfolding statement_in inside_of branch_of statement_of
  behind_no_loop zero l m n ts h s = absurd (omega arith)
  behind_no_loop (suc d) l m n ts h s = rw s refl

  pub behind_deep : (d : ℕ) (x : ReadAnnotation × ℕ) (n : AnnotationState) (ts : List PlainToken) → d ≡ 0 → (behind_in ws d x n).parse ts ≡ deep_fault ws ts
  unfolding statement_in too_deep
  behind_deep zero x n ts h = refl
  behind_deep (suc d) x n ts h = absurd (omega arith)

  -- what stands inside a statement of that depth, where an annotation begins it
  pub inside_is : (d : ℕ) (x : ReadAnnotation × ℕ) (n : AnnotationState) (ts : List PlainToken) → (d ≡ 0 → ⊥) → (inside_in ws d x n).parse ts ≡ (behind_in ws (d - 1) x n).parse ts
  unfolding statement_in
  inside_is zero x n ts h = absurd (h refl)
  inside_is (suc d) x n ts h = let e : suc d - 1 ≡ d = omega arith in rw e refl

  pub inside_deep : (d : ℕ) (x : ReadAnnotation × ℕ) (n : AnnotationState) (ts : List PlainToken) → d ≡ 0 → (inside_in ws d x n).parse ts ≡ deep_fault ws ts
  unfolding statement_in too_deep
  inside_deep zero x n ts h = refl
  inside_deep (suc d) x n ts h = absurd (omega arith)

-- ---- a turn of a repetition: one more, a fault, and none

module _ (ws : Vocabulary) where
  module _ (d : ℕ) where
    pub items_turn : (x y : List BlockItem × AnnotationState) (ts rest : List PlainToken) → sees (kind ws) first_item ts ≡ true → (items_once ws (statement_in ws d) (inside_in ws d) x).parse ts ≡ Ok (y, rest)
        → (items ws (statement_in ws d) (inside_in ws d) x).parse ts ≡ (items ws (statement_in ws d) (inside_in ws d) y).parse rest
    unfolding items
    items_turn x y ts rest s e = turn first_item (items_once ws (statement_in ws d) (inside_in ws d)) (λ z. (items_once_good ws (statement_good ws d) (inside_good ws d) z).here) refl x y ts rest s e

    pub items_fails : (x : List BlockItem × AnnotationState) (ts : List PlainToken) (e : ReadFault) → sees (kind ws) first_item ts ≡ true → Fails e ((items_once ws (statement_in ws d) (inside_in ws d) x).parse ts)
        → Fails e ((items ws (statement_in ws d) (inside_in ws d) x).parse ts)
    unfolding items
    items_fails x ts e s = again e (λ f. turn_fails first_item (items_once ws (statement_in ws d) (inside_in ws d)) (λ z. (items_once_good ws (statement_good ws d) (inside_good ws d) z).here) refl x ts f s)

    pub items_ends : (x : List BlockItem × AnnotationState) (ts : List PlainToken) → sees (kind ws) first_item ts ≡ false → (items ws (statement_in ws d) (inside_in ws d) x).parse ts ≡ Ok (x, ts)
    unfolding items
    items_ends x ts s = turn_ends first_item (items_once ws (statement_in ws d) (inside_in ws d)) (λ z. (items_once_good ws (statement_good ws d) (inside_good ws d) z).here) refl x ts s

    pub items_shorter : (x y : List BlockItem × AnnotationState) (ts rest : List Token) → (items_once ws (statement_in ws d) (inside_in ws d) x).parse (plain_list ts) ≡ Ok (y, plain_list rest) → length rest < length ts
    items_shorter x y ts rest e = shorter (items_once ws (statement_in ws d) (inside_in ws d) x) (items_once_good ws (statement_good ws d) (inside_good ws d) x).here ts rest y e

    -- ---- `switch`

    pub case_items_turn : (x y : List BlockItem × AnnotationState) (ts rest : List PlainToken) → sees (kind ws) first_branch ts ≡ true → (case_items_once ws (statement_in ws d) (inside_in ws d) x).parse ts ≡ Ok (y, rest)
        → (case_items ws (statement_in ws d) (inside_in ws d) x).parse ts ≡ (case_items ws (statement_in ws d) (inside_in ws d) y).parse rest
    unfolding case_items
    case_items_turn x y ts rest s e = turn first_branch (case_items_once ws (statement_in ws d) (inside_in ws d)) (λ z. (case_items_once_good ws (statement_good ws d) (inside_good ws d) z).here) refl x y ts rest s e

    pub case_items_fails : (x : List BlockItem × AnnotationState) (ts : List PlainToken) (e : ReadFault) → sees (kind ws) first_branch ts ≡ true → Fails e ((case_items_once ws (statement_in ws d) (inside_in ws d) x).parse ts)
        → Fails e ((case_items ws (statement_in ws d) (inside_in ws d) x).parse ts)
    unfolding case_items
    case_items_fails x ts e s = again e (λ f. turn_fails first_branch (case_items_once ws (statement_in ws d) (inside_in ws d)) (λ z. (case_items_once_good ws (statement_good ws d) (inside_good ws d) z).here) refl x ts f s)

    pub case_items_ends : (x : List BlockItem × AnnotationState) (ts : List PlainToken) → sees (kind ws) first_branch ts ≡ false → (case_items ws (statement_in ws d) (inside_in ws d) x).parse ts ≡ Ok (x, ts)
    unfolding case_items
    case_items_ends x ts s = turn_ends first_branch (case_items_once ws (statement_in ws d) (inside_in ws d)) (λ z. (case_items_once_good ws (statement_good ws d) (inside_good ws d) z).here) refl x ts s

    pub case_items_shorter : (x y : List BlockItem × AnnotationState) (ts rest : List Token) → (case_items_once ws (statement_in ws d) (inside_in ws d) x).parse (plain_list ts) ≡ Ok (y, plain_list rest) → length rest < length ts
    case_items_shorter x y ts rest e = shorter (case_items_once ws (statement_in ws d) (inside_in ws d) x) (case_items_once_good ws (statement_good ws d) (inside_good ws d) x).here ts rest y e

    pub cases_turn : (x y : List ReadCase × AnnotationState) (ts rest : List PlainToken) → sees (kind ws) first_case ts ≡ true → (next_case ws (statement_in ws d) (inside_in ws d) x).parse ts ≡ Ok (y, rest)
        → (cases ws (statement_in ws d) (inside_in ws d) x).parse ts ≡ (cases ws (statement_in ws d) (inside_in ws d) y).parse rest
    unfolding cases
    cases_turn x y ts rest s e = turn first_case (next_case ws (statement_in ws d) (inside_in ws d)) (λ z. (next_case_good ws (statement_good ws d) (inside_good ws d) z).here) refl x y ts rest s e

    pub cases_fails : (x : List ReadCase × AnnotationState) (ts : List PlainToken) (e : ReadFault) → sees (kind ws) first_case ts ≡ true → Fails e ((next_case ws (statement_in ws d) (inside_in ws d) x).parse ts)
        → Fails e ((cases ws (statement_in ws d) (inside_in ws d) x).parse ts)
    unfolding cases
    cases_fails x ts e s = again e (λ f. turn_fails first_case (next_case ws (statement_in ws d) (inside_in ws d)) (λ z. (next_case_good ws (statement_good ws d) (inside_good ws d) z).here) refl x ts f s)

    pub cases_ends : (x : List ReadCase × AnnotationState) (ts : List PlainToken) → sees (kind ws) first_case ts ≡ false → (cases ws (statement_in ws d) (inside_in ws d) x).parse ts ≡ Ok (x, ts)
    unfolding cases
    cases_ends x ts s = turn_ends first_case (next_case ws (statement_in ws d) (inside_in ws d)) (λ z. (next_case_good ws (statement_good ws d) (inside_good ws d) z).here) refl x ts s

    pub cases_shorter : (x y : List ReadCase × AnnotationState) (ts rest : List Token) → (next_case ws (statement_in ws d) (inside_in ws d) x).parse (plain_list ts) ≡ Ok (y, plain_list rest) → length rest < length ts
    cases_shorter x y ts rest e = shorter (next_case ws (statement_in ws d) (inside_in ws d) x) (next_case_good ws (statement_good ws d) (inside_good ws d) x).here ts rest y e

-- ---- what the code of each production cites

pub ruleset case_items_rules = (case_items_turn, case_items_fails, case_items_ends, case_items_shorter)

pub ruleset cases_rules = (cases_turn, cases_fails, cases_ends, cases_shorter)

pub ruleset items_rules = (items_turn, items_fails, items_ends, items_shorter)

pub ruleset statement_rules = (statement_is, statement_over, statement_at)

pub ruleset branch_rules = (branch_is, branch_deep)

pub ruleset behind_rules = (behind_asserts, behind_contract, behind_deep)

pub ruleset behind_loop_rules = (behind_loop_is, behind_no_loop)

pub ruleset inside_rules = (inside_is, inside_deep)
