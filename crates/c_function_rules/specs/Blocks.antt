-- Ours: how what is in sight grows, as C99 6.2.1 p7 says.
-- What is in sight after items.
use Rattle.c_syntax.specs.Statements.{BlockItems, NoItem, Then}
use Rattle.c_model.specs.ExpressionTyping.{Sight}
use Rattle.c_model.specs.StatementTyping.{behind}

abbrev pub behind_items : Sight → BlockItems → Sight
behind_items s NoItem = s
behind_items s (Then i rest) = behind_items (behind s i) rest
