-- Ours: the command line of this program.
-- What the words after a command give: one operand and each option of the command at most once, in any order. A `--` ends the
-- options: each word after it is an operand.
use Rattle.std.specs.Prelude.{ℕ, Bool, false, nat_eq, if◌then◌else◌, List, [], ◌∷◌, ◌++◌, Option, Some, None, codes, bytes_eq}
use Rattle.std.specs.Prelude.{find, option_map}
use Rattle.std.specs.List.{list_any}
use Rattle.c_model.specs.Words.{without_front, ◌>>=◌}

abbrev pub Text : Type 0
Text = List ℕ

-- an option by its name without hyphens, and whether it has a value
abbrev pub Named : Type 0
Named = Text × Bool

-- the name of a command's operand, and its options
pub record Form : Type 0 where
  pub operand : Text
  pub options : List Named

-- a name and its text: of the operand, of an option with its value, or of an option without one, whose text is `true`
abbrev pub Given : Type 0
Given = Text × Text

-- what a word is: a whole argument, an option whose value is the next word, or neither
pub data Word : Type 0 where
  whole : Given → Word
  awaits : Text → Word
  refused : Word

-- a word that begins with `-` and is longer
abbrev pub is_dashed : Text → Bool
is_dashed [] = false
is_dashed (b ∷ []) = false
is_dashed (b ∷ (c ∷ text)) = nat_eq b 45

abbrev pub dashed : Text → Text
dashed name = 45 ∷ (45 ∷ name)

abbrev pub alone : Named → Word
alone o = if o.1 then awaits o.0 else whole (o.0, codes "true")

abbrev pub with_text : Named → Text → Word
with_text o text = if o.1 then whole (o.0, text) else refused

abbrev pub behind_equals : Named → Option Text → Word → Word
behind_equals o (Some text) other = with_text o text
behind_equals o None other = other

-- a word is `--NAME` or `--NAME=VALUE` of an option, or an operand if it doesn't begin with `-` or is no longer
abbrev pub word_of : Text → List Named → Text → Word
word_of operand [] word = if is_dashed word then refused else whole (operand, word)
word_of operand (o ∷ more) word = if bytes_eq (dashed o.0) word then alone o
    else behind_equals o (without_front (dashed o.0 ++ codes "=") word) (word_of operand more word)

abbrev pub has : List Given → Text → Bool
has given name = list_any (λ g. bytes_eq g.0 name) given

-- one more, if there is none of this name
abbrev pub add : Given → List Given → Option (List Given)
add g given = if has given g.0 then None else Some (given ++ g ∷ [])

abbrev pub operands_after : Text → List Given → List Text → Option (List Given)
operands_after operand given [] = Some given
operands_after operand given (word ∷ words) = add (operand, word) given >>= λ more. operands_after operand more words

-- what follows a word, by what it is
abbrev pub after_word : List Given → (List Given → Option (List Given)) → (Text → Option (List Given)) → Word → Option (List Given)
after_word given next wait (whole g) = add g given >>= next
after_word given next wait (awaits name) = wait name
after_word given next wait refused = None

-- what the words give after what was given before
abbrev mutual
  pub given_after : Form → List Given → List Text → Option (List Given)
  given_after form given [] = Some given
  given_after form given (word ∷ words) = if bytes_eq word (codes "--") then operands_after form.operand given words
      else after_word given (λ more. given_after form more words) (with_value form given words) (word_of form.operand form.options word)

  pub with_value : Form → List Given → List Text → Text → Option (List Given)
  with_value form given [] name = None
  with_value form given (value ∷ words) name = if is_dashed value then None else (add (name, value) given >>= λ more. given_after form more words)

abbrev pub given_by : Form → List Text → Option (List Given)
given_by form words = given_after form [] words

-- the text of this name
abbrev pub text_of : Text → List Given → Option Text
text_of name given = option_map (λ g. g.1) (find (λ g. bytes_eq g.0 name) given)
