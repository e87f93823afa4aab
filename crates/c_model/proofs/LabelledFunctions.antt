-- What typing makes of a function, whose labels are told apart besides.
use Rattle.std.proofs.Common.{◌≡◌, refl, List}
use Rattle.c_syntax.specs.Programs.{Function, TranslationUnit}
use Rattle.c_model.specs.Checked.{Checked, Good, Bad}
use Rattle.c_model.specs.ExpressionTyping.{Sight}
use Rattle.c_model.specs.StatementTyping.{typed_labels}
use Rattle.c_model.specs.UnitTyping.{typed_parts, typed_function}
use Rattle.c_model.proofs.TypedParts.{Gives, gives_both, gives_if}
use Rattle.c_model.proofs.TypedDeclarations.{anything}

pub gives_function : (R : Function → Type 0) (p : TranslationUnit) (s : Sight) (before : List Function) (f : Function) → Gives R (typed_parts p s before f) → Gives R (typed_function p s before f)
gives_function R p s before f w = gives_both (λ u. Unit {0}) R R (typed_labels f.body) (typed_parts p s before f) (λ u g. Good g) (anything (typed_labels f.body)) w (λ u g v x. x)

-- what tells nothing but that it is so
told : (c : Checked (Unit {0})) → Gives (λ u. c ≡ Good tt) c
told (Good u) = refl
told (Bad f fs) = tt

-- the same where its labels are known to be distinct
pub gives_labelled : (R : Function → Type 0) (p : TranslationUnit) (s : Sight) (before : List Function) (f : Function) → (typed_labels f.body ≡ Good tt → Gives R (typed_parts p s before f)) → Gives R (typed_function p s before f)
gives_labelled R p s before f w =
    let labels = typed_labels f.body in
    gives_both (λ u. labels ≡ Good tt) (λ g. labels ≡ Good tt → R g) R labels (typed_parts p s before f) (λ u g. Good g) (told labels) (gives_if (labels ≡ Good tt) R (typed_parts p s before f) w) (λ u g e r. r e)
