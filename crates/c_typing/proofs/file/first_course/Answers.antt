use Rattle.std.proofs.Common.{rules, ◌≡◌, ◌∙◌, ap, map, nat_eq, [], None}
use Rattle.std.specs.Map.{lookup}
use Rattle.indexmap.specs.IndexMap.{get}
use Rattle.c_syntax.specs.Programs.{plain_layout, plain_text, plain_program}
use Rattle.c_model.specs.UnitTyping.{levels_from}
use Rattle.c_scopes.specs.Entities.{plain_entities}
use Rattle.c_scopes.specs.Signatures.{plain_signature}
use Rattle.c_scopes.specs.TypeNames.{plain_type_name}
use Rattle.c_typing.proofs.file.first_course.Goals as goal

pub returns-clause-first : goal.returns-clause-first
returns-clause-first c =
    let p = plain_program c.args.program.now in
    let names : c.replace-2.result.items ≡ p.names = search rules in
    let texts : map plain_text c.replace.result.items ≡ p.texts = search rules in
    let functions : map plain_signature c.new-3.result.signatures.items ≡ [] = search rules in
    let entities : plain_entities c.new-4.result ≡ [] = search rules in
    let types : map plain_type_name c.new-5.result.list.items ≡ [] = search rules in
    let structs : map plain_layout c.replace-3.result.items ≡ p.structs = search rules in
    let levels : c.in_ok-levels.levels.items ≡ levels_from [] p.structs = c.in_ok-levels.ensures ∙ ap (λ ss. levels_from [] (map plain_layout ss)) c.deref.ensures.value in
    let enums : c.new-7.result.list.items ≡ [] = search rules in
    let tags : c.new-8.result.list.items ≡ [] = search rules in
    let numbers : get nat_eq c.new-9.result ≡ (λ x. None) = ap (λ es x. lookup (nat_eq x) es) c.new-9.ensures.empty in
    λ i. record {
      sight = record {
        names = names i;
        texts = texts i;
        functions = functions i;
        entities = entities i;
        innermost = 0;
        types = types i;
        structs = structs i;
        levels = levels i;
        enum_tags = c.args.enum_tags.list.items;
        enums = enums i;
      };
      tags = tags i;
      names = numbers i;
    }
