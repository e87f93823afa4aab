use Rattle.std.proofs.Common.{rules, ap, is_ok}
use Rattle.std.proofs.ResultArms.{chosen}
use Rattle.c_scopes.proofs.FormatParts.{on_ok, puts_percent, puts_number, puts_character, puts_string}
use Rattle.c_scopes.proofs.format.put_directive.Goals as goal

pub returns-in_ok-push-in-Percent : goal.returns-in_ok-push-in-Percent
returns-in_ok-push-in-Percent c = puts_percent c.args.specifier _ c.args.text.now.items c.push.new.self.items (search rules) (chosen _ _ _ _ c.push.ensures.items (ap is_ok c.in_ok-push-in-Percent.was))

pub returns-in-Number : goal.returns-in-Number
returns-in-Number c = on_ok c.put_piece.result c.put_piece.ensures.pieces (λ e. puts_number c.in-Number.k c.args.specifier _ _ c.args.text.now.items c.put_piece.new.text.items (search rules) e c.put_piece.ensures.text)

pub returns-in-Character : goal.returns-in-Character
returns-in-Character c =
    on_ok c.put_piece-in-Character.result c.put_piece-in-Character.ensures.pieces (λ e.
    puts_character c.args.specifier _ _ c.args.text.now.items c.put_piece-in-Character.new.text.items (search rules) e c.put_piece-in-Character.ensures.text)

pub returns-in-String : goal.returns-in-String
returns-in-String c =
    on_ok c.put_piece-in-String.result c.put_piece-in-String.ensures.pieces (λ e.
    puts_string c.args.specifier _ _ c.args.text.now.items c.put_piece-in-String.new.text.items (search rules) e c.put_piece-in-String.ensures.text)
