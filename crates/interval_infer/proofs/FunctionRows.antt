-- Functions one after another, and a function of its contract and its body.
use Rattle.std.proofs.Common.{◌≡◌, List, [], ◌∷◌, ◌++◌, refl, sym, ap, ◌∙◌, subst, append_assoc, map, Option, Result, option_map}
use Rattle.std.proofs.lemmas.List.{map-append}
use Rattle.c_syntax.specs.declared.program.Contract.{Contract}
use Rattle.c_syntax.specs.declared.program.Func.{Func}
use Rattle.c_syntax.specs.declared.statement.Stmt.{Stmt}
use Rattle.c_syntax.specs.Ctypes.{plain_type}
use Rattle.c_syntax.specs.Programs.{Function, FunctionContract, plain_contract, plain_func}
use Rattle.c_syntax.specs.Statements.{Statement, plain_stmt}
use Rattle.c_model.specs.Checked.{Checked, Good, Bad, both_parts}
use Rattle.c_model.specs.AnnotationRanges.{ranged_body, ranged_function, ranged_functions, ranged_maybe, seen_result}
use Rattle.c_scopes.specs.declared.fault.TypeFault.{TypeFault}
use Rattle.c_scopes.specs.Answers.{Answers, both}
use Rattle.c_scopes.proofs.Least.{both_made}

-- ---- a function of its parts

pub function_of : (f : Func) (c : Option Contract) (b : Option Stmt) (q r z : Result (Unit {0}) TypeFault)
    → Answers (λ (u : Unit {0}). option_map plain_contract c) (ranged_maybe (seen_result (plain_type f.result)) (option_map plain_contract f.contract)) q
    → Answers (λ (u : Unit {0}). option_map plain_stmt b) (ranged_body (option_map plain_stmt f.body)) r → z ≡ both q r
    → Answers (λ (u : Unit {0}). plain_func (record f { contract = c; body = b })) (ranged_function (plain_func f)) z
function_of f c b q r z hc hb j =
    both_made (λ (c : Option FunctionContract) (b : Option Statement). record (plain_func f) { contract = c; body = b }) (λ (u : Unit {0}). option_map plain_contract c) (λ (u : Unit {0}). option_map plain_stmt b)
    (ranged_maybe (seen_result (plain_type f.result)) (option_map plain_contract f.contract)) (ranged_body (option_map plain_stmt f.body)) q r z hc hb (sym j)

-- ---- one more function after others

abbrev then_function : List Function → Function → List Function
then_function fs f = fs ++ f ∷ []

first_function : (d : Checked Function) → both_parts d (Good []) (λ f rest. Good (f ∷ rest)) ≡ both_parts (Good []) d (λ fs f. Good (then_function fs f))
first_function (Good f) = refl
first_function (Bad g gs) = refl

in_turn : (c : Checked Function) (d : Checked (List Function)) (e : Checked Function)
    → both_parts c (both_parts d e (λ fs f. Good (then_function fs f))) (λ f rest. Good (f ∷ rest)) ≡ both_parts (both_parts c d (λ f rest. Good (f ∷ rest))) e (λ fs f. Good (then_function fs f))
in_turn (Good c) (Good d) (Good e) = refl
in_turn (Good c) (Good d) (Bad g gs) = refl
in_turn (Good c) (Bad f fs) (Good e) = refl
in_turn (Good c) (Bad f fs) (Bad g gs) = refl
in_turn (Bad h hs) (Good d) (Good e) = refl
in_turn (Bad h hs) (Good d) (Bad g gs) = refl
in_turn (Bad h hs) (Bad f fs) (Good e) = refl
in_turn (Bad h hs) (Bad f fs) (Bad g gs) = ap (Bad h) (sym (append_assoc hs (f ∷ fs) (g ∷ gs)))

functions_last : (fs : List Function) (f : Function) → ranged_functions (fs ++ f ∷ []) ≡ both_parts (ranged_functions fs) (ranged_function f) (λ fs f. Good (then_function fs f))
functions_last [] f = first_function (ranged_function f)
functions_last (g ∷ fs) f =
    ap (λ c. both_parts (ranged_function g) c (λ f rest. Good (f ∷ rest))) (functions_last fs f) ∙ in_turn (ranged_function g) (ranged_functions fs) (ranged_function f)

-- one more function has its ranges
pub functions_step : (xs xs' ys ys' : List Func) (x y : Func) (d r : Result (Unit {0}) TypeFault) → xs' ≡ xs ++ x ∷ [] → ys' ≡ ys ++ y ∷ []
    → Answers (λ (u : Unit {0}). map plain_func ys) (ranged_functions (map plain_func xs)) d → Answers (λ (u : Unit {0}). plain_func y) (ranged_function (plain_func x)) r
    → Answers (λ (u : Unit {0}). map plain_func ys') (ranged_functions (map plain_func xs')) (both d r)
functions_step xs xs' ys ys' x y d r ex ey hd hr =
    let before = ap (map plain_func) ex ∙ map-append plain_func xs (x ∷ []) in
    let after = ap (map plain_func) ey ∙ map-append plain_func ys (y ∷ []) in
    subst (λ zs. Answers (λ (u : Unit {0}). zs) (ranged_functions (map plain_func xs')) (both d r)) (sym after)
    (subst (λ c. Answers (λ (u : Unit {0}). then_function (map plain_func ys) (plain_func y)) c (both d r)) (sym (ap ranged_functions before ∙ functions_last (map plain_func xs) (plain_func x)))
    (both_made then_function (λ (u : Unit {0}). map plain_func ys) (λ (u : Unit {0}). plain_func y) (ranged_functions (map plain_func xs)) (ranged_function (plain_func x)) d r (both d r) hd hr refl))
