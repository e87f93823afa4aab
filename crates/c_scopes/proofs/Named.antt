-- What is found by the number of the first of its name or place: a function, a name of a type, and a string literal.
use Rattle.std.proofs.Common.{◌≡◌, ℕ, suc, ◌+◌, List, [], ◌∷◌, refl, ap, ◌∙◌, arith, length, map, cond, nat_eq, get_or, Bool, true, false, Option, Some, None, option_map}
use Rattle.std.proofs.lemmas.Bool.Decides.{nat_tests}
use Rattle.std.specs.Map.{lookup}
use Rattle.c_syntax.specs.declared.program.Text.{Text}
use Rattle.c_syntax.specs.Ctypes.{PlainType, plain_type}
use Rattle.c_syntax.specs.Programs.{plain_text}
use Rattle.c_model.specs.ExpressionTyping as plain
use Rattle.c_model.specs.ExpressionTyping.{function_called, literal_at, type_named}
use Rattle.c_scopes.specs.declared.signature.Signature.{Signature}
use Rattle.c_scopes.specs.declared.type_name.TypeName.{TypeName}
use Rattle.c_scopes.specs.Firsts.{AreFirst}
use Rattle.c_scopes.specs.Literals.{offset_of_literal}
use Rattle.c_scopes.specs.Signatures.{name_of_function, plain_signature}
use Rattle.c_scopes.specs.TypeNames.{name_of_type, plain_type_name}
use Rattle.c_scopes.proofs.Firsts.{found, not_found, seek}

-- ---- functions

abbrev signature_at : ℕ → Signature → plain.Signature
signature_at k f = plain_signature f

called_is : (x k : ℕ) (fs : List Signature) → seek name_of_function signature_at x k fs ≡ function_called x (map plain_signature fs)
called_is x k [] = refl
called_is x k (f ∷ fs) = ap (cond (nat_eq x f.name) (Some (plain_signature f))) (called_is x (suc k) fs)

pub called : (fs : List Signature) (firsts : List (ℕ × ℕ)) (x n : ℕ) (f : Signature) → AreFirst (map name_of_function fs) firsts → Some n ≡ lookup (nat_eq x) firsts → f ≡ get_or fs n f
    → Some (plain_signature f) ≡ function_called x (map plain_signature fs)
called fs firsts x n f first e at = found name_of_function signature_at x fs firsts n 0 f first e at ∙ called_is x 0 fs

pub none_called : (fs : List Signature) (firsts : List (ℕ × ℕ)) (x : ℕ) → AreFirst (map name_of_function fs) firsts → None ≡ lookup (nat_eq x) firsts → None ≡ function_called x (map plain_signature fs)
none_called fs firsts x first e = not_found name_of_function signature_at x fs firsts 0 first e ∙ called_is x 0 fs

-- ---- names of types

abbrev type_at : ℕ → TypeName → PlainType
type_at k t = plain_type t.ctype

named_is : (x k : ℕ) (ts : List TypeName) → seek name_of_type type_at x k ts ≡ type_named x (map plain_type_name ts)
named_is x k [] = refl
named_is x k (t ∷ ts) = ap (cond (nat_eq x t.name) (Some (plain_type t.ctype))) (named_is x (suc k) ts)

pub named : (ts : List TypeName) (firsts : List (ℕ × ℕ)) (x n : ℕ) (t : TypeName) → AreFirst (map name_of_type ts) firsts → Some n ≡ lookup (nat_eq x) firsts → t ≡ get_or ts n t
    → Some (plain_type t.ctype) ≡ type_named x (map plain_type_name ts)
named ts firsts x n t first e at = found name_of_type type_at x ts firsts n 0 t first e at ∙ named_is x 0 ts

pub none_named : (ts : List TypeName) (firsts : List (ℕ × ℕ)) (x : ℕ) → AreFirst (map name_of_type ts) firsts → None ≡ lookup (nat_eq x) firsts → None ≡ type_named x (map plain_type_name ts)
none_named ts firsts x first e = not_found name_of_type type_at x ts firsts 0 first e ∙ named_is x 0 ts

-- ---- string literals

abbrev literal_with : ℕ → Text → ℕ × List ℕ
literal_with k t = (k, (plain_text t).bytes)

-- the number of a literal, and the count of its bytes
abbrev counted : Option (ℕ × List ℕ) → Option (ℕ × ℕ)
counted o = option_map (λ (l : ℕ × List ℕ). (l.0, length l.1)) o

same_test : (x y : ℕ) → nat_eq x y ≡ nat_eq y x
same_test x y = by (nat_eq y x) refl
  where
    by : (b : Bool) → nat_eq y x ≡ b → nat_eq x y ≡ b
    by true e = let same : y ≡ x = grind (arith, nat_tests, e) in grind (arith, nat_tests, same)
    by false e = grind (arith, nat_tests, e)

literal_is : (x k : ℕ) (ts : List Text) → seek offset_of_literal literal_with x k ts ≡ literal_at x k (map plain_text ts)
literal_is x k [] = refl
literal_is x k (t ∷ ts) = (λ i. cond (same_test x t.place.offset i) (Some (k, (plain_text t).bytes)) (literal_is x (suc k) ts i))

pub literal_found : (ts : List Text) (firsts : List (ℕ × ℕ)) (x n : ℕ) (t : Text) (bytes : List ℕ) → AreFirst (map offset_of_literal ts) firsts → Some n ≡ lookup (nat_eq x) firsts → t ≡ get_or ts n t
    → bytes ≡ (plain_text t).bytes → counted (Some (n, bytes)) ≡ counted (literal_at x 0 (map plain_text ts))
literal_found ts firsts x n t bytes first e at same =
    let number : n ≡ 0 + n = omega arith in
    (λ i. counted (Some (number i, same i))) ∙ ap counted (found offset_of_literal literal_with x ts firsts n 0 t first e at ∙ literal_is x 0 ts)

pub bytes_found : (ts : List Text) (firsts : List (ℕ × ℕ)) (x n : ℕ) (t : Text) (bytes : List ℕ) → AreFirst (map offset_of_literal ts) firsts → Some n ≡ lookup (nat_eq x) firsts → t ≡ get_or ts n t
    → bytes ≡ (plain_text t).bytes → Some bytes ≡ option_map (λ (l : ℕ × List ℕ). l.1) (literal_at x 0 (map plain_text ts))
bytes_found ts firsts x n t bytes first e at same =
    ap Some same ∙ ap (option_map (λ (l : ℕ × List ℕ). l.1)) (found offset_of_literal literal_with x ts firsts n 0 t first e at ∙ literal_is x 0 ts)

pub no_bytes : (ts : List Text) (firsts : List (ℕ × ℕ)) (x : ℕ) → AreFirst (map offset_of_literal ts) firsts → None ≡ lookup (nat_eq x) firsts
    → None ≡ option_map (λ (l : ℕ × List ℕ). l.1) (literal_at x 0 (map plain_text ts))
no_bytes ts firsts x first e = ap (option_map (λ (l : ℕ × List ℕ). l.1)) (not_found offset_of_literal literal_with x ts firsts 0 first e ∙ literal_is x 0 ts)

pub no_literal : (ts : List Text) (firsts : List (ℕ × ℕ)) (x : ℕ) → AreFirst (map offset_of_literal ts) firsts → None ≡ lookup (nat_eq x) firsts
    → counted None ≡ counted (literal_at x 0 (map plain_text ts))
no_literal ts firsts x first e = ap counted (not_found offset_of_literal literal_with x ts firsts 0 first e ∙ literal_is x 0 ts)
