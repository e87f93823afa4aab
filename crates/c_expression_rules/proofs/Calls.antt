-- The number of arguments.
use Rattle.std.proofs.Common.{◌≡◌, suc, List, [], ◌∷◌, length, map, Bool, true, false, nat_eq, refl, ap, ◌∙◌, Some}
use Rattle.std.proofs.lemmas.List.{length-map}
use Rattle.c_syntax.specs.declared.place.Place.{Place}
use Rattle.c_syntax.specs.declared.expression.Expr.{Expr}
use Rattle.c_syntax.specs.Ctypes.{plain_type}
use Rattle.c_syntax.specs.Expressions.{Node, Call, plain_exprs}
use Rattle.c_model.specs.Checked.{Good, where_so, refusing}
use Rattle.c_model.specs.ExpressionTyping.{call, argument_count, no_type, use_as}
use Rattle.c_scopes.specs.declared.signature.Signature.{Signature}
use Rattle.c_scopes.specs.Signatures.{plain_signature}

count_is : (xs : List Expr) → argument_count (plain_exprs xs) ≡ length xs
count_is [] = refl
count_is (x ∷ xs) = ap suc (count_is xs)

module _ (at : Place) (f : Signature) (es : List Expr)
  where
    at_count : (b : Bool) → nat_eq (length es) (length f.params.items) ≡ b → call at (plain_signature f) (plain_exprs es) ≡ where_so b (no_type at) (Good (Node at (plain_type f.result) (Call (use_as f.name f.decl) (plain_exprs es))))
    at_count b is =
        ap (λ n. where_so (nat_eq n (length (map plain_type f.params.items))) (no_type at) (Good (Node at (plain_type f.result) (Call (use_as f.name f.decl) (plain_exprs es))))) (count_is es)
        ∙ ap (λ n. where_so (nat_eq (length es) n) (no_type at) (Good (Node at (plain_type f.result) (Call (use_as f.name f.decl) (plain_exprs es))))) (length-map f.params.items plain_type)
        ∙ ap (λ t. where_so t (no_type at) (Good (Node at (plain_type f.result) (Call (use_as f.name f.decl) (plain_exprs es))))) is

    pub as_many : nat_eq (length es) (length f.params.items) ≡ true → call at (plain_signature f) (plain_exprs es) ≡ Good (Node at (plain_type f.result) (Call (use_as f.name f.decl) (plain_exprs es)))
    as_many is = at_count true is

    pub another_number : nat_eq (length es) (length f.params.items) ≡ false → refusing (call at (plain_signature f) (plain_exprs es)) ≡ Some (no_type at)
    another_number is = ap refusing (at_count false is)
