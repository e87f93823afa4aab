-- Ours: parts of mon_syntax/specs/Checking, as the code does them.
-- Arguments of calls, one after another.
use Rattle.std.specs.Prelude.{ℕ, List, [], ◌∷◌, None, Ok}
use Rattle.c_syntax.specs.declared.annotation.Kind.{Kind}
use Rattle.c_syntax.specs.declared.place.Place.{Place}
use Rattle.mon_syntax.specs.declared.tree.AccessSize.{AccessSize}
use Rattle.mon_syntax.specs.declared.tree.CopySize.{CopySize}
use Rattle.mon_syntax.specs.declared.tree.MemoryCall.TheVariants as memory_call
use Rattle.mon_syntax.specs.declared.tree.MemoryCall.{MemoryCall}
use Rattle.mon_syntax.specs.declared.tree.MonType.{MonType}
use Rattle.mon_syntax.specs.declared.tree.MonType.TheVariants.{I128}
use Rattle.mon_typing.specs.declared.call.RangeQuestion.{RangeQuestion}
use Rattle.mon_typing.specs.declared.call.RangeQuestion.TheVariants as question
use Rattle.mon_syntax.specs.Trees as tree
use Rattle.mon_syntax.specs.Trees.{MonExpression, MonStatement}
use Rattle.mon_syntax.specs.Parsed.{ParsedArgument}
use Rattle.mon_syntax.specs.Checking.{Scope, Checked, ◌>>=◌, value_of_type, small_number, size_named}
use Rattle.mon_syntax.specs.Checking.{copy_size_named, string, kind_named, no_more, next, arguments_of}

-- the first argument, and the others
abbrev pub first_of : {A : Type 0} → Scope → Place → (ParsedArgument → Checked A) → List ParsedArgument → Checked (A × List ParsedArgument)
first_of s at f xs = next s at f xs (λ x more. Ok (x, more))

-- one argument of the type, and no others
abbrev pub only_value : Scope → Place → MonType → List ParsedArgument → Checked MonExpression
only_value s at t xs = next s at (value_of_type s t) xs (λ e more. no_more s at more e)

-- a string, and no others
abbrev pub only_string : Scope → Place → List ParsedArgument → Checked (List ℕ)
only_string s at xs = next s at (string s) xs (λ w more. no_more s at more w.0)

-- the kind of an annotation, and no others
abbrev pub only_kind : Scope → Place → List ParsedArgument → Checked Kind
only_kind s at xs = next s at (kind_named s) xs (λ k more. no_more s at more k)

-- a number of bytes, and no others
abbrev pub only_size : Scope → Place → List ParsedArgument → Checked AccessSize
only_size s at xs = next s at (size_named s) xs (λ a more. no_more s at more a)

abbrev pub only_copy_size : Scope → Place → List ParsedArgument → Checked CopySize
only_copy_size s at xs = next s at (copy_size_named s) xs (λ a more. no_more s at more a)

-- the number of bytes of a question whether they hold a number, after its other arguments
abbrev pub number_size : Scope → Place → MonExpression → MonExpression → List ParsedArgument → Checked MonStatement
number_size s at p o xs = next s at (size_named s) xs (λ a more. no_more s at more (tree.Act None (memory_call.Number a) (p ∷ o ∷ [])))

-- the call of a question about a range, by its alignment
abbrev pub range_question : RangeQuestion → AccessSize → MemoryCall
range_question question.Valid a = memory_call.Valid a
range_question question.ValidRead a = memory_call.ValidRead a
range_question question.Initialized a = memory_call.Initialized a

-- the alignment of a question about a range, after its other arguments
abbrev pub range_size : Scope → Place → MonExpression → MonExpression → MonExpression → List ParsedArgument → (AccessSize → MemoryCall) → Checked MonStatement
range_size s at p o n xs f = next s at (size_named s) xs (λ a more. no_more s at more (tree.Act None (f a) (p ∷ o ∷ n ∷ [])))

-- its length and its alignment
abbrev pub range_length : Scope → Place → MonExpression → MonExpression → List ParsedArgument → (AccessSize → MemoryCall) → Checked MonStatement
range_length s at p o xs f = next s at (value_of_type s I128) xs (λ n more. range_size s at p o n more f)

-- that of a copy
abbrev pub copy_size : Scope → Place → MonExpression → MonExpression → List ParsedArgument → Checked MonStatement
copy_size s at p q xs = next s at (copy_size_named s) xs (λ a more. no_more s at more (tree.Act None (memory_call.Copy a) (p ∷ q ∷ [])))

-- an assert's kind, after its other arguments
abbrev pub assert_kind : Scope → Place → MonExpression → MonExpression → ℕ → ℕ → List ParsedArgument → Checked MonStatement
assert_kind s at d v n line xs = next s at (kind_named s) xs (λ k more. no_more s at more (tree.Assert d v n line k))

-- its number, its line and its kind
abbrev pub assert_numbers : Scope → Place → MonExpression → MonExpression → List ParsedArgument → Checked MonStatement
assert_numbers s at d v xs = next s at (small_number s) xs (λ n more. next s at (small_number s) more (λ line rest. assert_kind s at d v n line rest))

-- a call of the function of this number, which takes arguments of these types
abbrev pub call_of_number : Scope → Place → ℕ → List MonType → List ParsedArgument → Checked MonStatement
call_of_number s at n ts xs = arguments_of s at ts xs >>= λ es. Ok (tree.Call None n es)
