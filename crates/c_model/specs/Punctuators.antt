-- The punctuators (C99 6.4.6), by their places in the list of all.
use Rattle.std.specs.Prelude.{ℕ}

abbrev pub shift_left_assign : ℕ
shift_left_assign = 0

abbrev pub shift_right_assign : ℕ
shift_right_assign = 1

abbrev pub increment : ℕ
increment = 2

abbrev pub decrement : ℕ
decrement = 3

abbrev pub arrow : ℕ
arrow = 4

abbrev pub shift_left : ℕ
shift_left = 5

abbrev pub shift_right : ℕ
shift_right = 6

abbrev pub less_equal : ℕ
less_equal = 7

abbrev pub greater_equal : ℕ
greater_equal = 8

abbrev pub equal : ℕ
equal = 9

abbrev pub not_equal : ℕ
not_equal = 10

abbrev pub and_and : ℕ
and_and = 11

abbrev pub or_or : ℕ
or_or = 12

abbrev pub add_assign : ℕ
add_assign = 13

abbrev pub subtract_assign : ℕ
subtract_assign = 14

abbrev pub multiply_assign : ℕ
multiply_assign = 15

abbrev pub divide_assign : ℕ
divide_assign = 16

abbrev pub remainder_assign : ℕ
remainder_assign = 17

abbrev pub and_assign : ℕ
and_assign = 18

abbrev pub or_assign : ℕ
or_assign = 19

abbrev pub xor_assign : ℕ
xor_assign = 20

abbrev pub plus : ℕ
plus = 21

abbrev pub minus : ℕ
minus = 22

abbrev pub times : ℕ
times = 23

abbrev pub divide : ℕ
divide = 24

abbrev pub percent : ℕ
percent = 25

abbrev pub less : ℕ
less = 26

abbrev pub greater : ℕ
greater = 27

abbrev pub assign : ℕ
assign = 28

abbrev pub exclamation : ℕ
exclamation = 29

abbrev pub tilde : ℕ
tilde = 30

abbrev pub ampersand : ℕ
ampersand = 31

abbrev pub bar : ℕ
bar = 32

abbrev pub caret : ℕ
caret = 33

abbrev pub question : ℕ
question = 34

abbrev pub colon : ℕ
colon = 35

abbrev pub semicolon : ℕ
semicolon = 36

abbrev pub comma : ℕ
comma = 37

abbrev pub dot : ℕ
dot = 38

abbrev pub left_paren : ℕ
left_paren = 39

abbrev pub right_paren : ℕ
right_paren = 40

abbrev pub left_bracket : ℕ
left_bracket = 41

abbrev pub right_bracket : ℕ
right_bracket = 42

abbrev pub left_brace : ℕ
left_brace = 43

abbrev pub right_brace : ℕ
right_brace = 44

-- ---- those of annotations alone (ACSL 2.2)

abbrev pub equivalent : ℕ
equivalent = 45

abbrev pub implies : ℕ
implies = 46

abbrev pub caret_caret : ℕ
caret_caret = 47

abbrev pub dots : ℕ
dots = 48
