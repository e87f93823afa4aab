use Rattle.std.proofs.Common.{◌∷◌, [], rules, nat_eq, subst, sym}
use Rattle.indexmap.specs.IndexMap.{get}
use Rattle.c_syntax.specs.Statements.{Declaration, plain_decl}
use Rattle.c_syntax.specs.Programs.{Function, plain_func}
use Rattle.c_model.specs.UnitTyping.{AFunction, AGlobal, ATypedef}
use Rattle.c_scopes.specs.Answers.{Answers}
use Rattle.c_scopes.specs.Sights.{plain_sight}
use Rattle.c_declaration_rules.specs.OpenStructs.{IsOpen}
use Rattle.c_declaration_rules.proofs.OpenStructs.{kept_open}
use Rattle.c_typing.specs.Files.{Course, defined_in_turn, global_in_turn, item_in_turn, plain_course, typedef_in_turn}
use Rattle.c_scopes.proofs.Lists.{made_of}
use Rattle.c_typing.proofs.ItemParts.{still_open}
use Rattle.c_typing.proofs.item.type_item.Goals as goal

pub type_member-requires : goal.type_member-requires
type_member-requires c = subst (IsOpen (plain_sight c.args.course.now.sight).structs) (sym c.replace-last.ensures.value) c.requires

pub returns-in-Head-clause-begun : goal.returns-in-Head-clause-begun
returns-in-Head-clause-begun c =
    let before = (plain_sight c.args.course.now.sight).structs in
    let structs = (plain_sight c.type_head.new.course.sight).structs in
    let last = subst (IsOpen before) (sym c.replace-last.ensures.value) c.requires in
    kept_open c.keep.result c.type_head.result structs c.keep.new.begun c.replace-last.new.dest c.replace-last.result c.keep.ensures.same (still_open c.type_head.result before structs c.replace-last.result c.type_head.ensures.structs last)
    c.keep.ensures.kept c.keep.ensures.refused (subst (IsOpen structs) (sym c.replace-last.ensures.after) (c.new.ensures structs))

pub returns-in-Enum-clause-begun : goal.returns-in-Enum-clause-begun
returns-in-Enum-clause-begun c =
    let before = (plain_sight c.args.course.now.sight).structs in
    let structs = (plain_sight c.type_enum.new.course.sight).structs in
    let last = subst (IsOpen before) (sym c.replace-last.ensures.value) c.requires in
    kept_open c.keep-in-Enum.result c.type_enum.result structs c.keep-in-Enum.new.begun c.replace-last.new.dest c.replace-last.result c.keep-in-Enum.ensures.same
    (still_open c.type_enum.result before structs c.replace-last.result c.type_enum.ensures.structs last) c.keep-in-Enum.ensures.kept c.keep-in-Enum.ensures.refused
    (subst (IsOpen structs) (sym c.replace-last.ensures.after) (c.new.ensures structs))

pub returns-in-Typedef-clause-begun : goal.returns-in-Typedef-clause-begun
returns-in-Typedef-clause-begun c =
    let structs = (plain_sight c.type_alias.new.course.sight).structs in
    subst (IsOpen structs) (sym c.replace-last.ensures.after) (c.new.ensures structs)

pub returns-in-Global-clause-begun : goal.returns-in-Global-clause-begun
returns-in-Global-clause-begun c =
    let structs = (plain_sight c.type_object.new.course.sight).structs in
    subst (IsOpen structs) (sym c.replace-last.ensures.after) (c.new.ensures structs)

pub returns-in-Function-clause-begun : goal.returns-in-Function-clause-begun
returns-in-Function-clause-begun c =
    let structs = (plain_sight c.type_defined.new.course.sight).structs in
    subst (IsOpen structs) (sym c.replace-last.ensures.after) (c.new.ensures structs)

pub returns-in-Typedef-clause-typed : goal.returns-in-Typedef-clause-typed
returns-in-Typedef-clause-typed c =
    let s = plain_course c.args.course.now in
    let d = plain_decl c.in-Typedef.d in
    let d' = plain_decl c.type_alias.new.d in
    let s' = plain_course c.type_alias.new.course in
    let h : Answers (λ (u : Unit {0}). (s', d')) (typedef_in_turn s d) c.type_alias.result = search rules in
    let whole : Answers (λ (u : Unit {0}). (s', ATypedef d' ∷ [])) (item_in_turn (get nat_eq c.args.numbers.now) s (ATypedef d)) c.type_alias.result =
    made_of (λ (x : Course × Declaration). (x.0, ATypedef x.1 ∷ [])) (λ (u : Unit {0}). (s', d')) (typedef_in_turn s d) c.type_alias.result h in
    search (rules, whole)

pub returns-in-Global-clause-typed : goal.returns-in-Global-clause-typed
returns-in-Global-clause-typed c =
    let s = plain_course c.args.course.now in
    let d = plain_decl c.in-Global.d in
    let d' = plain_decl c.type_object.new.d in
    let s' = plain_course c.type_object.new.course in
    let h : Answers (λ (u : Unit {0}). (s', d')) (global_in_turn s d) c.type_object.result = search rules in
    let whole : Answers (λ (u : Unit {0}). (s', AGlobal d' ∷ [])) (item_in_turn (get nat_eq c.args.numbers.now) s (AGlobal d)) c.type_object.result =
    made_of (λ (x : Course × Declaration). (x.0, AGlobal x.1 ∷ [])) (λ (u : Unit {0}). (s', d')) (global_in_turn s d) c.type_object.result h in
    search (rules, whole)

pub returns-in-Function-clause-typed : goal.returns-in-Function-clause-typed
returns-in-Function-clause-typed c =
    let numbers = get nat_eq c.args.numbers.now in
    let s = plain_course c.args.course.now in
    let f = plain_func c.in-Function.f in
    let f' = plain_func c.type_defined.new.f in
    let s' = plain_course c.type_defined.new.course in
    let h : Answers (λ (u : Unit {0}). (s', f')) (defined_in_turn numbers s f) c.type_defined.result = search rules in
    let whole : Answers (λ (u : Unit {0}). (s', AFunction f' ∷ [])) (item_in_turn (get nat_eq c.args.numbers.now) s (AFunction f)) c.type_defined.result =
    made_of (λ (x : Course × Function). (x.0, AFunction x.1 ∷ [])) (λ (u : Unit {0}). (s', f')) (defined_in_turn numbers s f) c.type_defined.result h in
    search (rules, whole)
