-- The values of a call's arguments, one after another.
use Rattle.std.proofs.Common.{◌≡◌, ℕ, ◌+◌, ◌<◌, ◌≤◌, List, [], ◌∷◌, ◌++◌, length, drop, get_or, Ok, Err, refl, sym, ap, ◌∙◌, append_assoc, drop-cons, add-one}
use Rattle.std.proofs.lemmas.List.{append-nil, drop_all}
use Rattle.c_syntax.specs.declared.place.Place.{Place}
use Rattle.mon_syntax.specs.declared.tree.MonType.{MonType}
use Rattle.mon_syntax.specs.declared.tree.MonType.TheVariants.{I8}
use Rattle.mon_syntax.specs.Trees.{MonExpression}
use Rattle.mon_syntax.specs.Valid.{Types}
use Rattle.mon_syntax.specs.Parsed.{ParsedArgument}
use Rattle.mon_syntax.specs.Checking.{Scope, Checked, ◌>>=◌, ◌>>◌, type_fault, value_of_type, others, no_more, arguments_of}
use Rattle.mon_typing.specs.declared.fault.CheckFault.{CheckFault}
use Rattle.mon_typing.specs.Answers.{Fails}
use Rattle.mon_typing.specs.Arguments.{first_of}
use Rattle.mon_typing.proofs.Parts.{takes, fails_at, fails_after, fails_along}

abbrev Arguments : Type 0
Arguments = List ParsedArgument

abbrev Values : Type 0
Values = List MonExpression

-- what is checked after values that are checked
abbrev pub behind_values : Values → Checked Values → Checked Values
behind_values done c = c >>= λ es. Ok (done ++ es)

one_more : (done : Values) (e : MonExpression) (c : Checked Values) → behind_values done (c >>= λ es. Ok (e ∷ es)) ≡ behind_values (done ++ e ∷ []) c
one_more done e (Ok es) = ap Ok (sym (append_assoc done (e ∷ []) es))
one_more done e (Err f) = refl

-- what stands past the end of a list of types
abbrev pub no_type : MonType
no_type = I8

at_next : (ts : Types) (i : ℕ) (d : MonType) → i < length ts → drop i ts ≡ get_or ts i d ∷ drop (i + 1) ts
at_next ts i d lt = rw add-one (drop-cons ts i d lt)

module _ (s : Scope) (at : Place) where
  -- the first value, and then the others
  others_behind : Types → MonExpression → Arguments → Checked Values
  others_behind ts e more = arguments_of s at ts more >>= λ es. Ok (e ∷ es)

  pub next_value : (ts : Types) (i : ℕ) (d : MonType) (xs more : Arguments) (done next : Values) (e : MonExpression) (total : Checked Values) → i < length ts → first_of s at (value_of_type s (get_or ts i d)) xs ≡ Ok (e, more)
      → next ≡ done ++ e ∷ [] → behind_values done (arguments_of s at (drop i ts) xs) ≡ total → behind_values next (arguments_of s at (drop (i + 1) ts) more) ≡ total
  unfolding others_behind
  next_value ts i d xs more done next e total lt first with_it so_far =
      ap (λ (d : Values). behind_values d (arguments_of s at (drop (i + 1) ts) more)) with_it ∙ sym (one_more done e (arguments_of s at (drop (i + 1) ts) more))
      ∙ sym (ap (behind_values done) (ap (λ (l : Types). arguments_of s at l xs) (at_next ts i d lt) ∙ takes s at (value_of_type s (get_or ts i d)) xs (others_behind (drop (i + 1) ts)) e more first)) ∙ so_far

  pub value_fails : (ts : Types) (i : ℕ) (d : MonType) (xs : Arguments) (done : Values) (f : CheckFault) (total : Checked Values) → i < length ts → Fails f (first_of s at (value_of_type s (get_or ts i d)) xs)
      → behind_values done (arguments_of s at (drop i ts) xs) ≡ total → Fails f total
  unfolding others_behind
  value_fails ts i d xs done f total lt fails so_far =
      fails_along f _ _ (sym so_far)
      (fails_after f (arguments_of s at (drop i ts) xs) (λ es. Ok (done ++ es))
      (fails_along f _ _ (ap (λ (l : Types). arguments_of s at l xs) (at_next ts i d lt)) (fails_at s at (value_of_type s (get_or ts i d)) xs (others_behind (drop (i + 1) ts)) f fails)))

  -- ---- no more of them

  none_behind : (done : Values) (c : Checked (Unit {0})) → behind_values done (c >> type_fault at) ≡ (c >> type_fault at)
  none_behind done (Ok u) = refl
  none_behind done (Err e) = refl

  ended : (done : Values) (xs : Arguments) → behind_values done (no_more s at xs []) ≡ no_more s at xs done
  ended done [] = ap Ok (append-nil done)
  ended done (x ∷ xs) = none_behind done (others s (x ∷ xs))

  pub all_taken : (ts : Types) (i : ℕ) (xs : Arguments) (done : Values) (total : Checked Values) → length ts ≤ i → behind_values done (arguments_of s at (drop i ts) xs) ≡ total → no_more s at xs done ≡ total
  all_taken ts i xs done total past so_far = sym (ended done xs) ∙ sym (ap (λ (l : Types). behind_values done (arguments_of s at l xs)) (drop_all i ts past)) ∙ so_far
