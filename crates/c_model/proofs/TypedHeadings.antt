-- What holds of a function's heading that is typed, by what holds of its name, its result and its parameters.
use Rattle.std.proofs.Common.{List}
use Rattle.c_syntax.specs.Ctypes.{PlainType}
use Rattle.c_syntax.specs.Statements.{Declaration}
use Rattle.c_syntax.specs.Programs.{Function}
use Rattle.c_model.specs.Meaning.{is_definition}
use Rattle.c_model.specs.Checked.{Checked, Good, Bad, where_so}
use Rattle.c_model.specs.ExpressionTyping.{no_name, Sight, inner, typed_type}
use Rattle.c_model.specs.DeclarationTyping.{typed_result}
use Rattle.c_model.specs.UnitTyping.{is_compatible_with_all, function_name, typed_parameters, fitting_type, typed_type_of_function, typed_heading}
use Rattle.c_model.proofs.TypedParts.{Gives, gives_both, gives_where}

anything : {A : Type 0} (c : Checked A) → Gives (λ u. Unit {0}) c
anything (Good a) = tt
anything (Bad f fs) = tt

pub gives_heading : (N : Unit {0} → Type 0) (P : PlainType → Type 0) (Q : List Declaration → Type 0) (R : Function → Type 0) (s : Sight) (before : List Function) (f : Function) → Gives N (function_name s f)
    → Gives P (typed_result s (is_definition f) f.place f.result) → Gives Q (typed_parameters (inner s) (is_definition f) f.params)
    → ((n : Unit {0}) (t : PlainType) (ds : List Declaration) → N n → P t → Q ds → R (record f { result = t; params = ds })) → Gives R (typed_heading s before f)
gives_heading N P Q R s before f hn hp hq k =
    gives_both N (λ g. (n : Unit {0}) → N n → R g) R (function_name s f) (typed_type_of_function s before f) (λ n g. Good g) hn
    (gives_both P IsFitting (λ g. (n : Unit {0}) → N n → R g) (typed_result s (is_definition f) f.place f.result) (fitting_type s before f) (λ t g. Good (record g { result = t })) hp
    (gives_both (λ u. Unit {0}) Q IsFitting (typed_type s f.place f.result) (typed_parameters (inner s) (is_definition f) f.params) (λ t ds.
    let g = record f { result = t; params = ds } in where_so (is_compatible_with_all before g) (no_name f.place) (Good g)) (anything (typed_type s f.place f.result)) hq (λ u ds i w.
    gives_where IsFitting (is_compatible_with_all before (record f { result = u; params = ds })) (no_name f.place) (Good (record f { result = u; params = ds })) (λ e. λ t p n m. k n t ds m p w)))
    (λ t g p h. h t p)) (λ n g m h. h n m)
  where
    IsFitting : Function → Type 0
    IsFitting g = (t : PlainType) → P t → (n : Unit {0}) → N n → R (record g { result = t })
