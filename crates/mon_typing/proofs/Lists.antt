-- Statements after others.
use Rattle.std.proofs.Common.{◌≡◌, List, [], ◌∷◌, ◌++◌, Ok, refl, ap}
use Rattle.mon_syntax.specs.declared.tree.MonStmt.{MonStmt}
use Rattle.mon_syntax.specs.Trees.{MonStatements, NoStatement, Then, plain_stmt, plain_stmts}
use Rattle.mon_syntax.specs.Checking.{Checked, ◌>>=◌}

abbrev pub behind : List MonStmt → MonStatements → MonStatements
behind [] xs = xs
behind (a ∷ rest) xs = Then (plain_stmt a) (behind rest xs)

pub behind_none : (done : List MonStmt) → behind done NoStatement ≡ plain_stmts done
behind_none [] = refl
behind_none (a ∷ rest) = ap (Then (plain_stmt a)) (behind_none rest)

pub behind_one : (done : List MonStmt) (a : MonStmt) (xs : MonStatements) → behind (done ++ a ∷ []) xs ≡ behind done (Then (plain_stmt a) xs)
behind_one [] a xs = refl
behind_one (b ∷ rest) a xs = ap (Then (plain_stmt b)) (behind_one rest a xs)

-- what is checked after statements that are checked
abbrev pub checked_behind : List MonStmt → Checked MonStatements → Checked MonStatements
checked_behind done c = c >>= λ xs. Ok (behind done xs)
