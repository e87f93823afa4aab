-- Bodies and functions.
use Rattle.std.proofs.Common.{◌≡◌, ℕ, sym, ap, ◌∙◌, subst, length, Some, Result}
use Rattle.std.specs.Prelude.{Vec}
use Rattle.std.specs.declared.alloc.Global.{Global}
use Rattle.c_syntax.specs.declared.statement.Item.{Item}
use Rattle.c_syntax.specs.declared.place.Place.{Place}
use Rattle.c_syntax.specs.declared.statement.StmtKind.{StmtKind}
use Rattle.c_syntax.specs.declared.statement.StmtKind as code
use Rattle.c_syntax.specs.Ctypes.{PlainType}
use Rattle.c_syntax.specs.Statements.{Block, BlockItems, plain_stmt_kind, plain_items}
use Rattle.c_syntax.proofs.Rows.{block_is}
use Rattle.c_model.specs.ExpressionTyping.{Sight}
use Rattle.c_model.specs.StatementTyping.{typed_items}
use Rattle.c_model.specs.UnitTyping.{typed_body}
use Rattle.c_scopes.specs.declared.fault.TypeFault.{TypeFault}
use Rattle.c_scopes.specs.Answers.{Answers}
use Rattle.c_scopes.specs.Sights.{left}
use Rattle.c_function_rules.specs.Blocks.{behind_items}
use Rattle.c_model.specs.TypedTrees.{around_body}
use Rattle.c_scopes.proofs.Lists.{made_of}
use Rattle.c_function_rules.proofs.Blocks.{left_body}

module _ (s u v : Sight) (count innermost : ℕ) (is : BlockItems) (counted : count ≡ length s.entities) (kept : innermost ≡ s.innermost) (sight : u ≡ behind_items s is) (ends : v ≡ left count innermost u)
  where
    pub body_left : v ≡ s
    body_left = ends ∙ ap (λ n. left n innermost u) counted ∙ ap (λ n. left (length s.entities) n u) kept ∙ ap (left (length s.entities) s.innermost) sight ∙ left_body s is

module _ (s : Sight) (at : Place) (k : StmtKind) (v w : Vec Item Global) (result : Result (Unit {0}) TypeFault) (is : k ≡ code.Block v)
  where
    there : plain_stmt_kind at k ≡ Block at (plain_items v.items)
    there = ap (plain_stmt_kind at) is ∙ block_is at v

    pub body_in_place : (t : PlainType) → Answers (λ (u : Unit {0}). plain_items w.items) (typed_items s (around_body t) (plain_items v.items)) result
        → Answers (λ (u : Unit {0}). Some (plain_stmt_kind at (code.Block w))) (typed_body s t (Some (plain_stmt_kind at k))) result
    body_in_place t h =
        subst (λ b. Answers (λ (u : Unit {0}). Some (plain_stmt_kind at (code.Block w))) (typed_body s t (Some b)) result) (sym there)
        (subst (λ b. Answers (λ (u : Unit {0}). Some b) (typed_body s t (Some (Block at (plain_items v.items)))) result) (sym (block_is at w))
        (made_of (λ is. Some (Block at is)) (λ (u : Unit {0}). plain_items w.items) (typed_items s (around_body t) (plain_items v.items)) result h))
