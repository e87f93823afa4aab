-- Classes of bytes (C99 6.4).
use Rattle.std.specs.Prelude.{ℕ, List, Bool, ◌||◌, ◌&&◌, nat_le, nat_eq}
use Rattle.std.specs.List.{starts_with}

-- blanks: space, horizontal and vertical tab, line feed, form feed, carriage return
abbrev pub is_blank : ℕ → Bool
is_blank b = nat_eq b 32 || (nat_le 9 b && nat_le b 13)

-- a digit (C99 6.4.2.1)
abbrev pub is_digit : ℕ → Bool
is_digit b = nat_le 48 b && nat_le b 57

-- a letter or `_` (C99 6.4.2.1)
abbrev pub is_nondigit : ℕ → Bool
is_nondigit b = (nat_le 65 b && nat_le b 90) || (nat_le 97 b && nat_le b 122) || nat_eq b 95

abbrev pub is_part : ℕ → Bool
is_part b = is_nondigit b || is_digit b

-- what no literal is directly followed by: a letter, a digit, `_` or `.`
abbrev pub in_literal : ℕ → Bool
in_literal b = is_part b || nat_eq b 46

-- the text begins with these bytes
abbrev pub begins_with : List ℕ → List ℕ → Bool
begins_with text bs = starts_with nat_eq bs text
