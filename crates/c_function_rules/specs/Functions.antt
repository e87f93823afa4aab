-- Ours: the typing of functions (C99 6.9.1; c_model/specs/UnitTyping) in words of what the code keeps of those before: what each name
-- denotes in the file, and which names are declared so far.
use Rattle.std.specs.Prelude.{ℕ, List, [], ◌∷◌, ◌++◌, nat_eq, Option, Some, None, Bool, true, false, not, ◌&&◌, ◌||◌, cond}
use Rattle.c_syntax.specs.Programs.{Function}
use Rattle.c_model.specs.Meaning.{is_definition}
use Rattle.c_model.specs.Checked.{Checked, Good, one_part, both_parts, where_so}
use Rattle.c_model.specs.ExpressionTyping.{no_name, Signature, Sight, function_called, same_type, inner, typed_type}
use Rattle.c_model.specs.DeclarationTyping.{typed_result}
use Rattle.c_model.specs.StatementTyping.{typed_labels}
use Rattle.c_model.specs.UnitTyping.{definition_of, types_of, same_signature, same_types, with_parameters, function_name, typed_parameters, typed_body}
use Rattle.c_function_rules.specs.declared.heading.Callee.{Callee}
use Rattle.c_function_rules.specs.declared.heading.Noted.{Noted}

-- ---- what names denote

-- the first function of a name
abbrev pub first_named : ℕ → List Function → Option Function
first_named x [] = None
first_named x (f ∷ fs) = cond (nat_eq f.name x) (Some f) (first_named x fs)

abbrev pub denoted_by : Option ℕ → Option Function → Option Callee
denoted_by (Some n) o = Some (record { decl = n; defined = true })
denoted_by None None = None
denoted_by None (Some f) = Some (record { decl = f.place.offset; defined = false })

-- the definition of a name among functions, or its first prototype
abbrev pub denoted : List Function → ℕ → Option Callee
denoted fs x = denoted_by (definition_of x fs) (first_named x fs)

-- whether a function tells more of its name than those before it
abbrev pub tells_more : Option Callee → Function → Bool
tells_more None f = true
tells_more (Some d) f = is_definition f && not d.defined

abbrev pub told : Option Callee → Function → Option Callee
told o f = cond (tells_more o f) (Some (record { decl = f.place.offset; defined = is_definition f })) o

-- what names denote with one more function
abbrev pub with_told : (ℕ → Option Callee) → Function → ℕ → Option Callee
with_told numbers f x = cond (nat_eq f.name x) (told (numbers x) f) (numbers x)

-- ---- headings

abbrev pub was_defined : Option Noted → Bool
was_defined None = false
was_defined (Some n) = n.defined

-- whether each of a function's name has its type
abbrev pub alike_with : Function → List Function → Bool
alike_with f [] = true
alike_with f (g ∷ gs) = cond (nat_eq g.name f.name) (same_signature f g) true && alike_with f gs

-- of each name that functions declare, whether one of them defines it, and whether all have the type of the first
abbrev pub known : List Function → ℕ → Option Noted
known [] x = None
known (f ∷ fs) x = cond (nat_eq f.name x) (Some (record { defined = is_definition f || was_defined (known fs x); alike = alike_with f fs })) (known fs x)

-- whether a function has the type that its callers are told
abbrev pub has_type : Signature → Function → Bool
has_type g f = same_type g.result f.result && same_types g.params (types_of f.params)

-- whether the declarations of a name have one type with one more, by the first of them
abbrev pub is_alike : Option Signature → Option Noted → Function → Bool
is_alike None o f = true
is_alike (Some g) None f = true
is_alike (Some g) (Some n) f = n.alike && has_type g f

-- what is known of names with one more function
abbrev pub with_known : Option Signature → (ℕ → Option Noted) → Function → ℕ → Option Noted
with_known g names f x =
    cond (nat_eq f.name x) (Some (record { defined = was_defined (names f.name) || is_definition f; alike = is_alike g (names f.name) f })) (names x)

-- whether a function fits those before it, by the first of its name and by what is known of it
abbrev pub fits_earlier : Option Signature → Option Noted → Function → Bool
fits_earlier g None f = true
fits_earlier None (Some n) f = true
fits_earlier (Some g) (Some n) f = n.alike && has_type g f && not (is_definition f && n.defined)

-- whether it fits those that are in sight
abbrev pub fits_in : Sight → (ℕ → Option Noted) → Function → Bool
fits_in s names f = fits_earlier (function_called f.name s.functions) (names f.name) f

abbrev pub fitting : Sight → (ℕ → Option Noted) → Function → Checked Function
fitting s names f = where_so (fits_in s names f) (no_name f.place) (Good f)

-- a function whose types, as they are written, fit those before it
abbrev pub fitting_type_by : Sight → (ℕ → Option Noted) → Function → Checked Function
fitting_type_by s names f =
    both_parts (typed_type s f.place f.result) (typed_parameters (inner s) (is_definition f) f.params) (λ t ds.
    fitting s names (record f { result = t; params = ds }))

abbrev pub type_of_function : Sight → (ℕ → Option Noted) → Function → Checked Function
type_of_function s names f =
    both_parts (typed_result s (is_definition f) f.place f.result) (fitting_type_by s names f) (λ t g. Good (record g { result = t }))

-- a function's name and type
abbrev pub heading : Sight → (ℕ → Option Noted) → Function → Checked Function
heading s names f = both_parts (function_name s f) (type_of_function s names f) (λ n g. Good g)

abbrev pub decl_of : Option Callee → ℕ
decl_of None = 0
decl_of (Some d) = d.decl

abbrev pub is_defined : Option Callee → Bool
is_defined None = false
is_defined (Some d) = d.defined

-- what a declaration tells its callers, by what its name denotes
abbrev pub declared : Option Callee → Function → Signature
declared o f = record { name = f.name; decl = decl_of o; defined = is_defined o; params = types_of f.params; result = f.result }

-- what is in sight after a function's heading
abbrev pub with_function_by : (ℕ → Option Callee) → Sight → Function → Sight
with_function_by numbers s f = record s { functions = s.functions ++ declared (numbers f.name) f ∷ [] }

abbrev pub names_behind : Sight → (ℕ → Option Noted) → Function → ℕ → Option Noted
names_behind s names f = with_known (function_called f.name s.functions) names f

-- ---- functions

-- the body of a function that is in sight
abbrev pub typed_parts : Sight → Function → Checked Function
typed_parts s f = one_part (typed_body (with_parameters (inner s) f.params) f.result f.body) (λ b. Good (record f { body = b }))

-- a function but for its labels
abbrev pub parts_in_turn : (ℕ → Option Callee) → Sight → (ℕ → Option Noted) → Function → Checked Function
parts_in_turn numbers s names f = one_part (heading s names f) (λ f. typed_parts (with_function_by numbers s f) f)

abbrev pub function_in_turn : (ℕ → Option Callee) → Sight → (ℕ → Option Noted) → Function → Checked Function
function_in_turn numbers s names f = both_parts (typed_labels f.body) (parts_in_turn numbers s names f) (λ u g. Good g)
