use Rattle.std.proofs.Common.{◌≡◌, ◌++◌, ◌≤◌, drop, length, take}
use Rattle.c_syntax.specs.Statements.{plain_items, plain_cases}
use Rattle.c_model.specs.AnnotationTyping.{noted_items, noted_cases}
use Rattle.c_scopes.specs.KnownLabels.{marks_of}
use Rattle.c_scopes.specs.Sights.{plain_sight}
use Rattle.c_function_rules.specs.Blocks.{behind_items}
use Rattle.c_scopes.proofs.BlockItems.{behind_block}
use Rattle.c_scopes.proofs.CaseLists.{behind_cases}
use Rattle.c_typing.specs.NotedLabels.{IsInBody, marks_in_items, seen_in_body}
use Rattle.c_typing.proofs.noted.+noted.Given as goal

abbrev pub invariant-note_items-loop-i : goal.invariant-note_items-loop-i
invariant-note_items-loop-i l = record {
  unvisited : goal.unvisited-note_items-loop-i l;
  within : l.i ≤ length l.items.items;
  noted : noted_items (seen_in_body (plain_sight l.initial.sight) l.begin (marks_of l.initial.labels)) (plain_items l.initial.items.items)
      ≡ behind_block (plain_items (take l.i l.items.items)) (noted_items (seen_in_body (plain_sight l.sight) l.begin (marks_of l.labels)) (plain_items (drop l.i l.initial.items.items)));
  sight : plain_sight l.sight ≡ behind_items (plain_sight l.initial.sight) (plain_items (take l.i l.items.items));
  labels : marks_of l.labels ≡ marks_of l.initial.labels ++ marks_in_items (plain_sight l.initial.sight) (plain_items (take l.i l.items.items));
  body : IsInBody (plain_sight l.sight) l.begin (marks_of l.labels);
}

abbrev pub invariant-note_cases-loop-i : goal.invariant-note_cases-loop-i
invariant-note_cases-loop-i l = record {
  unvisited : goal.unvisited-note_cases-loop-i l;
  within : l.i ≤ length l.cases.items;
  noted : noted_cases (seen_in_body (plain_sight l.initial.sight) l.begin (marks_of l.initial.labels)) (plain_cases l.initial.cases.items)
      ≡ behind_cases (plain_cases (take l.i l.cases.items)) (noted_cases (seen_in_body (plain_sight l.sight) l.begin (marks_of l.labels)) (plain_cases (drop l.i l.initial.cases.items)));
  same : plain_sight l.sight ≡ plain_sight l.initial.sight;
  long : length (marks_of l.initial.labels) ≤ length (marks_of l.labels);
  labels : take (length (marks_of l.initial.labels)) (marks_of l.labels) ≡ marks_of l.initial.labels;
  body : IsInBody (plain_sight l.sight) l.begin (marks_of l.labels);
}
