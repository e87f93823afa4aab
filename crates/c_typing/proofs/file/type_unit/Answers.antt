use Rattle.std.proofs.Common.{◌≡◌, ◌∙◌, ℕ, ap, map, nat_eq}
use Rattle.indexmap.specs.IndexMap.{get}
use Rattle.c_syntax.specs.Programs.{plain_enum, plain_func, plain_program}
use Rattle.c_model.specs.UnitTyping.{first_sight, items_of_file, tags_of}
use Rattle.c_function_rules.specs.Functions.{denoted}
use Rattle.c_typing.specs.Files.{bare, course_at, emptied, first_in, plain_course, plain_file_item, without_sight}
use Rattle.c_typing.proofs.Turns.{unit_found}
use Rattle.c_typing.proofs.file.type_unit.Goals as goal

pub returns : goal.returns
returns c =
    let p = plain_program c.args.program.now in
    let q = plain_program c.finish.new.program in
    let d = plain_course c.type_each-typed.new.course in
    let is = map plain_file_item c.type_each-typed.new.items.items in
    let told : (x : ℕ) → get nat_eq c.in_ok-numbers.numbers x ≡ denoted p.funcs x = λ x. c.in_ok-numbers.ensures x ∙ ap (λ fs. denoted (map plain_func fs) x) c.deref.ensures.value in
    let tags : c.in_ok-tags.tags.list.items ≡ tags_of p.enums = c.in_ok-tags.ensures ∙ ap (λ es. tags_of (map plain_enum es)) c.deref-2.ensures.value in
    let left : plain_program c.take_items.new.program ≡ emptied p = c.in_ok-items.ensures.left in
    let first : plain_course c.in_ok-course.course ≡ course_at (first_sight p) = c.in_ok-course.ensures.first ∙ (λ i. course_at (first_in (left i) (tags i))) in
    let items : map plain_file_item c.in_ok-items.items.items ≡ map bare (items_of_file p) = c.in_ok-items.ensures.items in
    let o : plain_program c.first_course.new.program ≡ without_sight (emptied p) = c.in_ok-course.ensures.left ∙ ap without_sight left in
    unit_found p q (get nat_eq c.in_ok-numbers.numbers) (plain_course c.in_ok-course.course) d (map plain_file_item c.in_ok-items.items.items) is c.type_each-typed.result c.finish.result (plain_program c.first_course.new.program) told first items o
    c.type_each-typed.ensures c.finish.ensures
