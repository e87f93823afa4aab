-- What clap finds by a name.
use Rattle.std.proofs.Common.{◌≡◌, ◌∙◌, ℕ, Bool, cond, true, false, ◌||◌, refl, sym, ap, List, [], ◌∷◌, ◌++◌, map, Option, Some, None, option_map, bytes_eq}
use Rattle.std.specs.Prelude.{find, slice_get}
use Rattle.std.proofs.lemmas.Slice.Eq.{bytes_eq-Decides}
use Rattle.clap.specs.Walk.{Row, Rule, at_row, has_row, arg_by_id, arg_by_index, arg_by_long, arg_by_short, first_of}
use Rattle.command_words.specs.Given.{Text, Named, Given, has, text_of}
use Rattle.command_words.specs.Rules.{rule_for, operand_rule, row}

abbrev pub named : Text → List Named → Option Named
named name options = find (λ o. bytes_eq o.0 name) options

abbrev pub rules : Text → List Named → List Rule
rules operand options = map rule_for options ++ operand_rule operand ∷ []

long_more : (name : Text) (o : Named) (rest : List Rule) → arg_by_long (rule_for o ∷ rest) name ≡ cond (bytes_eq o.0 name) (Some (rule_for o)) (arg_by_long rest name)
long_more name (n, true) rest = go (bytes_eq n name)
  where
    go : (b : Bool) → cond (b || false) (Some (rule_for (n, true))) (arg_by_long rest name) ≡ cond b (Some (rule_for (n, true))) (arg_by_long rest name)
    go true = refl
    go false = refl
long_more name (n, false) rest = go (bytes_eq n name)
  where
    go : (b : Bool) → cond (b || false) (Some (rule_for (n, false))) (arg_by_long rest name) ≡ cond b (Some (rule_for (n, false))) (arg_by_long rest name)
    go true = refl
    go false = refl

-- an argument by its long name
pub by_long : (operand name : Text) (options : List Named) → arg_by_long (rules operand options) name ≡ option_map rule_for (named name options)
by_long operand name [] = refl
by_long operand name (o ∷ options) = long_more name o (rules operand options) ∙ go (bytes_eq o.0 name) (by_long operand name options)
  where
    go : (b : Bool) → arg_by_long (rules operand options) name ≡ option_map rule_for (named name options)
        → cond b (Some (rule_for o)) (arg_by_long (rules operand options) name) ≡ option_map rule_for (cond b (Some o) (named name options))
    go true e = refl
    go false e = e

-- no argument has a short name
pub by_short : (operand : Text) (x : ℕ) (options : List Named) → arg_by_short (rules operand options) x ≡ None
by_short operand x [] = refl
by_short operand x ((n, true) ∷ options) = by_short operand x options
by_short operand x ((n, false) ∷ options) = by_short operand x options

-- the operand has the only place
pub by_first : (operand : Text) (options : List Named) → arg_by_index (rules operand options) 1 ≡ Some (operand_rule operand)
by_first operand [] = refl
by_first operand ((n, true) ∷ options) = by_first operand options
by_first operand ((n, false) ∷ options) = by_first operand options

pub by_second : (operand : Text) (options : List Named) → arg_by_index (rules operand options) 2 ≡ None
by_second operand [] = refl
by_second operand ((n, true) ∷ options) = by_second operand options
by_second operand ((n, false) ∷ options) = by_second operand options

id_more : (name : Text) (o : Named) (rest : List Rule) → arg_by_id (rule_for o ∷ rest) name ≡ cond (bytes_eq o.0 name) (Some (rule_for o)) (arg_by_id rest name)
id_more name (n, true) rest = refl
id_more name (n, false) rest = refl

-- an argument by its id: an option of this name, or the operand
pub by_id : (operand name : Text) (options : List Named) (o : Named) → named name options ≡ Some o
    → arg_by_id (rules operand options) name ≡ Some (rule_for o)
by_id operand name [] o e = absurd cc
by_id operand name (p ∷ options) o e = id_more name p (rules operand options) ∙ go (bytes_eq p.0 name) e (λ f. by_id operand name options o f)
  where
    go : (b : Bool) → cond b (Some p) (named name options) ≡ Some o
        → (named name options ≡ Some o → arg_by_id (rules operand options) name ≡ Some (rule_for o))
        → cond b (Some (rule_for p)) (arg_by_id (rules operand options) name) ≡ Some (rule_for o)
    go true e more = ap (option_map rule_for) e
    go false e more = more e

pub same : (text : Text) → bytes_eq text text ≡ true
same text = (bytes_eq-Decides text text).1 refl

pub by_operand : (operand : Text) (options : List Named) → named operand options ≡ None
    → arg_by_id (rules operand options) operand ≡ Some (operand_rule operand)
by_operand operand [] e = rw (same operand) refl
by_operand operand (p ∷ options) e = id_more operand p (rules operand options) ∙ go (bytes_eq p.0 operand) e (λ f. by_operand operand options f)
  where
    go : (b : Bool) → cond b (Some p) (named operand options) ≡ None
        → (named operand options ≡ None → arg_by_id (rules operand options) operand ≡ Some (operand_rule operand))
        → cond b (Some (rule_for p)) (arg_by_id (rules operand options) operand) ≡ Some (operand_rule operand)
    go true e more = absurd cc
    go false e more = more e

-- what is found has the name that was asked for
pub named_so : (name : Text) (options : List Named) (o : Named) → named name options ≡ Some o → o.0 ≡ name
named_so name [] o e = absurd cc
named_so name (p ∷ options) o e = go (bytes_eq p.0 name) refl e (λ f. named_so name options o f)
  where
    go : (b : Bool) → bytes_eq p.0 name ≡ b → cond b (Some p) (named name options) ≡ Some o → (named name options ≡ Some o → o.0 ≡ name) → o.0 ≡ name
    go true t e more = let is : p ≡ o = cc in sym (ap (λ (q : Named). q.0) is) ∙ (bytes_eq-Decides p.0 name).0 t
    go false t e more = more e

-- ---- rows

pub has_rows : (given : List Given) (name : Text) → has_row name (map row given) ≡ has given name
has_rows [] name = refl
has_rows (g ∷ given) name = ap (λ b. bytes_eq g.0 name || b) (has_rows given name)

pub at_rows : (given : List Given) (name : Text) (change : Row → List Row) (missing : List Row) → has given name ≡ false → at_row name change missing (map row given) ≡ map row given ++ missing
at_rows [] name change missing e = refl
at_rows (g ∷ given) name change missing e = go (bytes_eq g.0 name) e (λ f. at_rows given name change missing f)
  where
    go : (b : Bool) → (b || has given name) ≡ false → (has given name ≡ false → at_row name change missing (map row given) ≡ map row given ++ missing)
        → cond b (change (row g) ++ map row given) (row g ∷ at_row name change missing (map row given)) ≡ row g ∷ (map row given ++ missing)
    go true e more = absurd cc
    go false e more = ap (λ rs. row g ∷ rs) (more e)

pub first_rows : (name : Text) (given : List Given) → first_of name (map row given) ≡ text_of name given
first_rows name [] = refl
first_rows name (g ∷ given) = go (bytes_eq g.0 name) (first_rows name given)
  where
    first : Option Row → Option Text
    first o = Rattle.std.specs.Prelude.option_and_then (λ (r : Row). slice_get r.values 0) o

    go : (b : Bool) → first_of name (map row given) ≡ text_of name given
        → Rattle.std.specs.Prelude.option_and_then (λ (r : Row). slice_get r.values 0) (cond b (Some (row g)) (find (λ r. bytes_eq r.id name) (map row given)))
        ≡ option_map (λ h. h.1) (cond b (Some g) (find (λ h. bytes_eq h.0 name) given))
    go true e = refl
    go false e = e
