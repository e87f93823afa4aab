-- The first of places in the text, in any order of asking; and the places in a block or in cases.
use Rattle.std.proofs.Common.{◌≡◌, ℕ, ◌<◌, Bool, true, false, cond, nat_lt, Option, Some, None, refl, ap, ◌∙◌, arith}
use Rattle.std.proofs.lemmas.Bool.Decides.{nat_tests}
use Rattle.std.specs.Prelude.{Vec}
use Rattle.std.specs.declared.alloc.Global.{Global}
use Rattle.c_syntax.specs.declared.expression.Expr.{Expr}
use Rattle.c_syntax.specs.declared.place.Place.{Place}
use Rattle.c_syntax.specs.declared.statement.Case.{Case}
use Rattle.c_syntax.specs.declared.statement.Item.{Item}
use Rattle.c_syntax.specs.declared.statement.StmtKind.{StmtKind}
use Rattle.c_syntax.specs.declared.statement.StmtKind as code
use Rattle.c_syntax.specs.Statements.{plain_stmt_kind, plain_items, plain_cases}
use Rattle.c_syntax.proofs.Rows.{block_is, switch_is}
use Rattle.c_model.specs.QuantifierGuards.{first_place}
use Rattle.c_model.specs.UnguardedPrograms.{unguarded_in_statement, unguarded_in_items, unguarded_in_cases}

-- one after another
pub first_none : (a : Option Place) → first_place a None ≡ a
first_none None = refl
first_none (Some p) = refl

three : (p q r : Place) → first_place (first_place (Some p) (Some q)) (Some r) ≡ first_place (Some p) (first_place (Some q) (Some r))
three p q r = by (nat_lt q.offset p.offset) refl (nat_lt r.offset q.offset) refl (nat_lt r.offset p.offset) refl
  where
    by : (a : Bool) → nat_lt q.offset p.offset ≡ a → (b : Bool) → nat_lt r.offset q.offset ≡ b → (c : Bool) → nat_lt r.offset p.offset ≡ c
        → first_place (cond a (Some q) (Some p)) (Some r) ≡ first_place (Some p) (cond b (Some r) (Some q))
    by true e true f true g = ap (λ t. cond t (Some r) (Some q)) f ∙ ap (λ t. cond t (Some r) (Some p)) (same g)
      where
        same : nat_lt r.offset p.offset ≡ true → true ≡ nat_lt r.offset p.offset
        same g = grind (arith, nat_tests)
    by true e true f false g = absurd (grind (arith, nat_tests))
    by true e false f c g = ap (λ t. cond t (Some r) (Some q)) f ∙ ap (λ t. cond t (Some q) (Some p)) (same e)
      where
        same : nat_lt q.offset p.offset ≡ true → true ≡ nat_lt q.offset p.offset
        same e = grind (arith, nat_tests)
    by false e true f c g = refl
    by false e false f true g = absurd (grind (arith, nat_tests))
    by false e false f false g = ap (λ t. cond t (Some r) (Some p)) g ∙ ap (λ t. cond t (Some q) (Some p)) (same e)
      where
        same : nat_lt q.offset p.offset ≡ false → false ≡ nat_lt q.offset p.offset
        same e = grind (arith, nat_tests)

pub first_all : (a b c : Option Place) → first_place (first_place a b) c ≡ first_place a (first_place b c)
first_all None b c = refl
first_all (Some p) None c = refl
first_all (Some p) (Some q) None = first_none (first_place (Some p) (Some q))
first_all (Some p) (Some q) (Some r) = three p q r

-- ---- statements at a known variant

pub in_block : (at : Place) (k : StmtKind) (v : Vec Item Global) → k ≡ code.Block v → unguarded_in_statement (plain_stmt_kind at k) ≡ unguarded_in_items (plain_items v.items)
in_block at k v is = ap unguarded_in_statement (ap (plain_stmt_kind at) is ∙ block_is at v)

pub in_switch : (at : Place) (k : StmtKind) (e : Expr) (v : Vec Case Global) → k ≡ code.Switch e v → unguarded_in_statement (plain_stmt_kind at k) ≡ unguarded_in_cases (plain_cases v.items)
in_switch at k e v is = ap unguarded_in_statement (ap (plain_stmt_kind at) is ∙ switch_is at e v)
