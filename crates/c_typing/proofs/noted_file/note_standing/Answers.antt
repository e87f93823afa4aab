use Rattle.std.proofs.Common.{◌≡◌, ◌∙◌, ℕ, ap, map, nat_eq}
use Rattle.indexmap.specs.IndexMap.{get}
use Rattle.c_syntax.specs.Programs.{plain_enum, plain_func, plain_program}
use Rattle.c_model.specs.UnitTyping.{sight_with, tags_of}
use Rattle.c_scopes.specs.Sights.{plain_sight}
use Rattle.c_function_rules.specs.Functions.{denoted}
use Rattle.c_typing.specs.NotedContracts.{defined_numbers, numbers_in}
use Rattle.c_typing.specs.Files.{first_in, plain_file_item, without_kinds, without_sight}
use Rattle.c_typing.proofs.NotedFiles.{known_start, noted_found}
use Rattle.c_typing.proofs.noted_file.note_standing.Goals as goal

pub note_each-noted-requires : goal.note_each-noted-requires
note_each-noted-requires c =
    let p = plain_program c.args.program.now in
    let told : (x : ℕ) → get nat_eq c.in_ok-numbers.numbers x ≡ denoted p.funcs x = λ x. c.in_ok-numbers.ensures x ∙ ap (λ fs. denoted (map plain_func fs) x) c.deref.ensures.value in
    let defined : (x : ℕ) → numbers_in c.in_ok-definitions.definitions x ≡ defined_numbers x p.funcs = λ x. c.in_ok-definitions.ensures x ∙ ap (λ fs. defined_numbers x (map plain_func fs)) c.deref-2.ensures.value in
    let tags : c.in_ok-tags.tags.list.items ≡ tags_of p.enums = c.in_ok-tags.ensures ∙ ap (λ es. tags_of (map plain_enum es)) c.deref-3.ensures.value in
    let left : plain_program c.take_declared.new.program ≡ without_kinds p = c.in_ok-items.ensures.left in
    let first : plain_sight c.in_ok-course.course.sight ≡ sight_with p p.structs = ap (λ d. d.sight) c.in_ok-course.ensures.first ∙ (λ i. first_in (left i) (tags i)) in
    known_start p c.requires (get nat_eq c.in_ok-numbers.numbers) (plain_sight c.in_ok-course.course.sight) (map plain_file_item c.in_ok-items.items.items) told first c.in_ok-items.ensures.items

pub returns : goal.returns
returns c =
    let p = plain_program c.args.program.now in
    let q = plain_program c.finish.new.program in
    let told : (x : ℕ) → get nat_eq c.in_ok-numbers.numbers x ≡ denoted p.funcs x = λ x. c.in_ok-numbers.ensures x ∙ ap (λ fs. denoted (map plain_func fs) x) c.deref.ensures.value in
    let defined : (x : ℕ) → numbers_in c.in_ok-definitions.definitions x ≡ defined_numbers x p.funcs = λ x. c.in_ok-definitions.ensures x ∙ ap (λ fs. defined_numbers x (map plain_func fs)) c.deref-2.ensures.value in
    let tags : c.in_ok-tags.tags.list.items ≡ tags_of p.enums = c.in_ok-tags.ensures ∙ ap (λ es. tags_of (map plain_enum es)) c.deref-3.ensures.value in
    let left : plain_program c.take_declared.new.program ≡ without_kinds p = c.in_ok-items.ensures.left in
    let first : plain_sight c.in_ok-course.course.sight ≡ sight_with p p.structs = ap (λ d. d.sight) c.in_ok-course.ensures.first ∙ (λ i. first_in (left i) (tags i)) in
    let o : plain_program c.first_course.new.program ≡ without_sight (without_kinds p) = c.in_ok-course.ensures.left ∙ ap without_sight left in
    noted_found p c.requires q (plain_program c.first_course.new.program) (get nat_eq c.in_ok-numbers.numbers) (numbers_in c.in_ok-definitions.definitions) (plain_sight c.in_ok-course.course.sight)
    (plain_sight c.note_each-noted.new.sight) (map plain_file_item c.in_ok-items.items.items)
    (map plain_file_item c.note_each-noted.new.items.items) c.note_each-noted.result c.finish.result told defined first c.in_ok-items.ensures.items o c.note_each-noted.ensures.noted c.note_each-noted.ensures.behind c.finish.ensures
