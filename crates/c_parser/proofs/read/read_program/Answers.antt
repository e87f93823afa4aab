use Rattle.std.proofs.Common.{List, Ok, Some, None, length, map, option_map, refl, ap, sym, subst, ◌≡◌, ◌∙◌}
use Rattle.std.proofs.lemmas.Bool.{eqb-true, eq-eqb}
use Rattle.c_syntax.specs.Tokens.{plain_tokens, plain_token}
use Rattle.c_syntax.specs.declared.token.Token.{Token}
use Rattle.c_syntax.specs.Programs.{TranslationUnit, plain_text}
use Rattle.c_model.specs.Vocabulary.{word_of}
use Rattle.c_model.specs.Phases.{IsRead, place_fault}
use Rattle.c_model.specs.ProgramGrammar.{FileParts, texts_of, more_external}
use Rattle.token_reader.specs.Reading.{Fails}
use Rattle.c_parser.specs.Reading.{plain_parts}
use Rattle.c_parser.specs.Answers.{plain_fault}
use Rattle.c_parser.proofs.Answers.{read_placed, read_misplaced, read_part, read_fault}
use Rattle.c_parser.proofs.read.read_program.Goals as goal

pub returns-in-None : goal.returns-in-None
returns-in-None c =
    let ts = plain_tokens c.args.tokens.now in
    record {
      read = subst (λ (p : TranslationUnit). IsRead ts p) (sym c.make_unit-program.ensures) (read_placed
          ts c.in_ok-words.words.items c.in_ok-names.names.items (map plain_text c.in_ok-texts.texts.items) (map plain_token c.as_slice-4.result.now)
          (c.in_ok-words.ensures ∙ ap (map word_of) c.as_slice-2.ensures.value) (c.in_ok-names.ensures ∙ c.as_slice.ensures.value)
          (c.in_ok-texts.ensures ∙ ap (λ (l : List Token). texts_of (map plain_token l)) c.as_slice-3.ensures.value) (ap (map plain_token) c.as_slice-4.ensures.value)
          (plain_parts c.in-Ok.parts) c.in-Ok.rest.now
          (subst (λ (x : FileParts). (more_external x).parse (map plain_token c.as_slice-4.result.now) ≡ Ok (plain_parts c.in-Ok.parts, map plain_token c.in-Ok.rest.now)) c.no_parts.ensures c.in-Ok.ensures)
          (eqb-true (length c.in-Ok.rest.now) 0 (sym c.if-is_empty.ensures))
          (subst (λ (p : TranslationUnit). place_fault (p, c.in-Ok.parts.annotations.misplaced) ≡ None) c.make_unit-program.ensures (sym c.place_fault.ensures ∙ ap (option_map plain_fault) c.in-None.is)));
    }

pub returns-in-Some : goal.returns-in-Some
returns-in-Some c =
    let ts = plain_tokens c.args.tokens.now in
    record {
      read = read_misplaced
          ts c.in_ok-words.words.items c.in_ok-names.names.items (map plain_text c.in_ok-texts.texts.items) (map plain_token c.as_slice-4.result.now)
          (c.in_ok-words.ensures ∙ ap (map word_of) c.as_slice-2.ensures.value) (c.in_ok-names.ensures ∙ c.as_slice.ensures.value)
          (c.in_ok-texts.ensures ∙ ap (λ (l : List Token). texts_of (map plain_token l)) c.as_slice-3.ensures.value) (ap (map plain_token) c.as_slice-4.ensures.value)
          (plain_parts c.in-Ok.parts) c.in-Ok.rest.now (plain_fault c.in-Some.fault) _
          (subst (λ (x : FileParts). (more_external x).parse (map plain_token c.as_slice-4.result.now) ≡ Ok (plain_parts c.in-Ok.parts, map plain_token c.in-Ok.rest.now)) c.no_parts.ensures c.in-Ok.ensures)
          (eqb-true (length c.in-Ok.rest.now) 0 (sym c.if-is_empty.ensures))
          (subst (λ (p : TranslationUnit). place_fault (p, c.in-Ok.parts.annotations.misplaced) ≡ Some (plain_fault c.in-Some.fault)) c.make_unit-program.ensures (sym c.place_fault.ensures ∙ ap (option_map plain_fault) c.in-Some.is))
          c.refused_at_place.ensures;
    }

pub returns-else-is_empty : goal.returns-else-is_empty
returns-else-is_empty c =
    let ts = plain_tokens c.args.tokens.now in
    record {
      read = read_part ts c.in_ok-words.words.items ts.names (map plain_text c.in_ok-texts.texts.items) (map plain_token c.as_slice-4.result.now)
          (c.in_ok-words.ensures ∙ ap (map word_of) c.as_slice-2.ensures.value) refl
          (c.in_ok-texts.ensures ∙ ap (λ (l : List Token). texts_of (map plain_token l)) c.as_slice-3.ensures.value) (ap (map plain_token) c.as_slice-4.ensures.value)
          (plain_parts c.in-Ok.parts) c.in-Ok.rest.now c.left.result _
          (subst (λ (x : FileParts). (more_external x).parse (map plain_token c.as_slice-4.result.now) ≡ Ok (plain_parts c.in-Ok.parts, map plain_token c.in-Ok.rest.now)) c.no_parts.ensures c.in-Ok.ensures)
          (λ z. let k = eq-eqb (length c.in-Ok.rest.now) 0 z in let f = c.if-is_empty.ensures in cc) c.left.ensures c.refuse.ensures;
    }

pub returns-in-Err : goal.returns-in-Err
returns-in-Err c =
    let ts = plain_tokens c.args.tokens.now in
    record {
      read = read_fault ts c.in_ok-words.words.items ts.names (map plain_text c.in_ok-texts.texts.items) (map plain_token c.as_slice-4.result.now)
          (c.in_ok-words.ensures ∙ ap (map word_of) c.as_slice-2.ensures.value) refl
          (c.in_ok-texts.ensures ∙ ap (λ (l : List Token). texts_of (map plain_token l)) c.as_slice-3.ensures.value) (ap (map plain_token) c.as_slice-4.ensures.value)
          c.in-Err.fault _ (subst (λ (x : FileParts). Fails c.in-Err.fault ((more_external x).parse (map plain_token c.as_slice-4.result.now))) c.no_parts.ensures c.in-Err.ensures) c.refuse-in-Err.ensures;
    }
