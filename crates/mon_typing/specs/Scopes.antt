-- Ours: plain forms.
-- What is known of a text's names, without references.
use Rattle.std.specs.Prelude.{ℕ, List, map, Bool, not, ◌&&◌, nat_eq}
use Rattle.std.specs.List.{list_any}
use Rattle.mon_syntax.specs.declared.tree.MonType.{MonType}
use Rattle.mon_syntax.specs.Parsed.{ParsedRegister}
use Rattle.mon_syntax.specs.Grammar.{Vocabulary}
use Rattle.mon_syntax.specs.Checking.{is_new}
use Rattle.mon_syntax.specs.Checking as plain
use Rattle.mon_typing.specs.declared.scope.Scope.{Scope}
use Rattle.mon_typing.specs.Headers.{plain_header}

abbrev pub plain_scope : Scope → plain.Scope
plain_scope s = record {
  names = s.names.now;
  words = s.words.now;
  functions = map plain_header s.functions.now.headers.items;
  globals = s.globals.now.numbers.keys;
  registers = s.registers.now.kinds.entries;
}

-- registers by their names' numbers
abbrev pub numbered : List ParsedRegister → List (ℕ × MonType)
numbered rs = map (λ (r : ParsedRegister). (r.name.number, r.kind)) rs

-- a name of this number is free, and no global and no register that is known has it
abbrev pub is_new_register : Vocabulary → List ℕ → List (ℕ × MonType) → ℕ → Bool
is_new_register ws globals known n = is_new ws globals n && not (list_any (λ (x : ℕ × MonType). nat_eq x.0 n) known)
