-- Ours: parts of mon_syntax/specs/Checking, as the code does them.
-- Functions from what is checked of them.
use Rattle.std.specs.Prelude.{ℕ, List, [], map, ◌&&◌, if◌then◌else◌}
use Rattle.mon_syntax.specs.declared.tree.MonType.{MonType}
use Rattle.mon_syntax.specs.Trees.{MonStatements, MonFunction}
use Rattle.mon_syntax.specs.Parsed.{ParsedFunction}
use Rattle.mon_syntax.specs.Grammar.{Vocabulary, word_at}
use Rattle.mon_syntax.specs.Checking.{Header, Checked, ◌>>=◌, name_fault, is_free, find_function, checked_registers, named_register, word_bytes, scope_of}
use Rattle.mon_syntax.specs.Checking.{checked_statements, checked_function}
use Rattle.mon_typing.specs.Headers.{is_at}
use Rattle.mon_typing.specs.Scopes.{numbered}

-- all registers of a function after those that are known, by their names' numbers, the parameters first
abbrev pub registers_behind : Vocabulary → List ℕ → List (ℕ × MonType) → ParsedFunction → Checked (List (ℕ × MonType))
registers_behind ws globals known f = checked_registers ws globals known f.parameters >>= λ ps. checked_registers ws globals ps f.registers

abbrev pub registers_of : Vocabulary → List ℕ → ParsedFunction → Checked (List (ℕ × MonType))
registers_of ws globals f = registers_behind ws globals [] f

-- the statements of a function among functions of these headers and globals
abbrev pub body_of : List (List ℕ) → Vocabulary → List Header → List ℕ → ParsedFunction → Checked MonStatements
body_of names ws gs globals f = registers_of ws globals f >>= λ rs. checked_statements (scope_of names ws gs globals rs) f.result [] f.body

-- a function with this body
abbrev pub named_function : List (List ℕ) → ParsedFunction → MonStatements → MonFunction
named_function names f body = record {
  result = f.result;
  name = word_bytes names f.name.number;
  parameters = map (named_register names) (numbered f.parameters);
  registers = map (named_register names) (numbered f.registers);
  body = body;
}

-- the function of this number, which is the first of its name
abbrev pub next_function : List (List ℕ) → Vocabulary → List Header → List ℕ → ℕ → ParsedFunction → Checked MonFunction
next_function names ws gs globals i f =
    if is_free (word_at ws f.name.number) && is_at i (find_function 0 gs f.name.number) then checked_function names ws gs globals f
    else name_fault f.name.place
