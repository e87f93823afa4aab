use Rattle.std.proofs.Common.{sym, ap, ◌∙◌, map}
use Rattle.std.specs.Prelude.{codes}
use Rattle.mon_syntax.specs.Trees.{plain_func}
use Rattle.c_lower.specs.Code.{entries_from, entry_named}
use Rattle.c_lower.proofs.Starts.{all_counted}
use Rattle.c_lower.proofs.program.written.Goals as goal

pub returns-clause-entries : goal.returns-clause-entries
returns-clause-entries c =
    c.in_ok-entries.ensures
    ∙ all_counted (map plain_func c.deref.result.now) c.emit_functions.new.entries.items c.emit_functions.new.code c.len.result
    c.in_ok-emit_functions.ensures.entries c.in_ok-emit_functions.ensures.code c.len.ensures
    ∙ ap (λ l. entries_from 0 (map plain_func l)) c.deref.ensures.value

pub returns-clause-main : goal.returns-clause-main
returns-clause-main c =
    let all = c.deref-3.ensures.value ∙ returns-clause-entries c ∙ ap (λ l. entries_from 0 (map plain_func l)) (sym c.deref-2.ensures.value) in
    c.main_entry-main.ensures 0 all ∙ ap (λ l. entry_named (codes "main") 0 (map plain_func l)) c.deref-2.ensures.value
