-- The productions of declarators and declarations are those of the head of their grammar.
use Rattle.std.proofs.Common.{ℕ, List, [], ◌∷◌, refl, inl, inr}
use Rattle.grammar.specs.Syntax.{Syntax, gives, ◌then◌, many}
use Rattle.grammar.specs.Exact.{Same}
use Rattle.grammar.proofs.Forms.{to_left}
use Rattle.grammar_laws.specs.Plain.{repeated}
use Rattle.grammar_laws.proofs.Inclusions.{Within, both, forth, back, itself, ◌so◌, each, on, in_turn, turns, handed, handed_back, capped_within}
use Rattle.grammar_laws.proofs.TypeProductions.{stars_line}
use Rattle.grammar_laws.proofs.FileProductions.{declared_line, next_line}
use Rattle.c_syntax.specs.Ctypes.{PlainType}
use Rattle.c_syntax.specs.Statements.{Declaration, BlockItem, Declare}
use Rattle.c_syntax.specs.Tokens.{PlainToken}
use Rattle.c_model.specs.declared.declarations.Named.{Named}
use Rattle.c_model.specs.declared.declarations.Named.TheVariants as named
use Rattle.c_model.specs.Vocabulary.{Vocabulary}
use Rattle.c_model.specs.Terminals.{expression_limit}
use Rattle.c_model.specs.Punctuators.{semicolon, comma, left_bracket}
use Rattle.c_model.specs.ExpressionGrammar.{most_in_expression, kind, mark_kind, first_expression, mark, type_words, written_length, length_or_none, bracket}
use Rattle.c_model.specs.ExpressionGrammar.{next_bracket, brackets}
use Rattle.c_model.specs.DeclarationGrammar.{Declarator, declared_name, full_dtor, next_declared, more_declared, declared_once, initialised, ended}
use Rattle.c_model.specs.DeclarationGrammar as parsed
use Rattle.grammar_laws.specs.DeclarationProductions as production

abbrev no : PlainToken → ℕ
no t = 0

module _ (ws : Vocabulary) where
  pub lengths_line : Same (parsed.lengths ws) (production.lengths ws)
  unfolding parsed.lengths brackets next_bracket bracket length_or_none written_length
  lengths_line =
      both
      (turns (kind ws) (λ _. mark_kind left_bracket ∷ []) no (λ _. []) (λ ns. in_turn (on (mark ws left_bracket) (λ _. in_turn (each (kind ws) first_expression no [] (itself _) (itself _)) (λ n. itself _))) (λ n. itself _)) [])
      (turns no (λ _. []) (kind ws) (λ _. mark_kind left_bracket ∷ []) (λ ns. in_turn (on (mark ws left_bracket) (λ _. in_turn (each no [] (kind ws) first_expression (itself _) (itself _)) (λ n. itself _))) (λ n. itself _)) [])

  pub dtor_line : (k : Named) → Same (full_dtor ws k) (production.dtor ws k)
  unfolding full_dtor parsed.dtor
  dtor_line k =
      both (capped_within expression_limit most_in_expression (in_turn (forth (stars_line ws)) (λ s. on (declared_name ws k) (λ x. in_turn (forth lengths_line) (λ ns. itself _)))))
      (capped_within expression_limit most_in_expression (in_turn (back (stars_line ws)) (λ s. on (declared_name ws k) (λ x. in_turn (back lengths_line) (λ ns. itself _)))))

  module _ (t : PlainType) where
    abbrev More : List Declaration → Syntax PlainToken (List Declaration)
    More gs = many (kind ws) (λ _. mark_kind comma ∷ []) (next_declared ws t) gs

    abbrev Semicolon : List Declaration → Syntax PlainToken (List Declaration)
    Semicolon gs = mark ws semicolon then λ _. gives gs

    abbrev Declared : List Declaration → Syntax PlainToken BlockItem
    Declared ds = gives (Declare ds)

    abbrev Rest : List Declaration → Syntax PlainToken BlockItem
    Rest ds = more_declared ws t ds then Declared

    abbrev Plain : List Declaration → Syntax PlainToken BlockItem
    Plain ds = repeated (production.next_declared ws t) ds then λ gs. mark ws semicolon then λ _. Declared gs

    rest_forth : (ds : List Declaration) → Within (Rest ds) (Plain ds)
    unfolding more_declared ended
    rest_forth ds =
        back (to_left (More ds) Semicolon Declared)
        so in_turn (turns (kind ws) (λ _. mark_kind comma ∷ []) no (λ _. []) (λ gs. forth (next_line ws t gs)) ds) (λ gs. handed_back (mark ws semicolon) (λ _. gs) Declared (λ _. refl))

    rest_back : (ds : List Declaration) → Within (Plain ds) (Rest ds)
    unfolding more_declared ended
    rest_back ds =
        in_turn (turns no (λ _. []) (kind ws) (λ _. mark_kind comma ∷ []) (λ gs. back (next_line ws t gs)) ds) (λ gs. handed (mark ws semicolon) (λ _. gs) Declared)
        so forth (to_left (More ds) Semicolon Declared)

    rest_empty : (ds : List Declaration) → (Rest ds).begun []
    unfolding more_declared
    rest_empty ds = inl (inl (0, inr refl))

    abbrev Dtor : Syntax PlainToken Declarator
    Dtor = full_dtor ws named.Ordinary

    list_line : Same (parsed.declared_list ws t) (production.declared_list ws t)
    unfolding parsed.declared_list declared_once
    list_line =
        both
        (each (kind ws) (mark_kind semicolon ∷ []) no [] (itself _)
        (back (to_left Dtor (λ d. initialised ws t d then λ x. gives (x ∷ [])) Rest)
        so on Dtor (λ d. handed_back (initialised ws t d) (λ x. x ∷ []) Rest (λ x. rest_empty (x ∷ [])) so in_turn (forth (declared_line ws t d)) (λ x. rest_forth (x ∷ [])))))
        (each no [] (kind ws) (mark_kind semicolon ∷ []) (itself _)
        (on Dtor (λ d. in_turn (back (declared_line ws t d)) (λ x. rest_back (x ∷ [])) so handed (initialised ws t d) (λ x. x ∷ []) Rest)
        so forth (to_left Dtor (λ d. initialised ws t d then λ x. gives (x ∷ [])) Rest)))

  pub decl_line : Same (parsed.declaration ws) (production.decl ws)
  unfolding parsed.declaration
  decl_line = both (on (type_words ws) (λ t. forth (list_line t))) (on (type_words ws) (λ t. back (list_line t)))
