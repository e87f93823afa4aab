-- What printf prints (C99 7.19.6.1).
use Rattle.std.specs.Prelude.{Bool, true, false, List, [], ◌∷◌}
use Rattle.std.specs.Fmt.{signed_decimal}
use Rattle.c_syntax.specs.declared.place.Place.{Place}
use Rattle.c_model.specs.Integers.{byte_of}
use Rattle.c_model.specs.Memory.{Pointer, Value, Integer, Points, NoValue}
use Rattle.c_model.specs.State.{Over, Undefined, Evaluation, ◌>>◌, give, done, stop, print, print_all}
use Rattle.c_model.specs.Strings.{string_at}
use Rattle.c_model.specs.Formats.{Piece, Bytes, Number, Character, String}

-- behind a string's last byte, which a 0 follows or one that can't be read
abbrev pub at_end_of_string : Place → Bool → Evaluation (Unit {0})
at_end_of_string at true = done
at_end_of_string at false = stop (Over (Undefined at))

-- the bytes of the string at a pointer, without its 0 (p8)
abbrev pub print_string : Place → Pointer → Evaluation (Unit {0})
print_string at p = λ s. (print_all (string_at s.store p).0 >> at_end_of_string at (string_at s.store p).1) s

-- the pieces of a format in order, of which each but text takes the next argument (p2, p8)
abbrev pub print_pieces : Place → List Piece → List Value → Evaluation Value
print_pieces at [] vs = give NoValue
print_pieces at (Bytes bs ∷ pieces) vs = print_all bs >> print_pieces at pieces vs
print_pieces at (Number k ∷ pieces) (Integer z ∷ vs) = print_all (signed_decimal z) >> print_pieces at pieces vs
print_pieces at (Character ∷ pieces) (Integer z ∷ vs) = print (byte_of z) >> print_pieces at pieces vs
print_pieces at (String ∷ pieces) (Points p ∷ vs) = print_string at p >> print_pieces at pieces vs
print_pieces at (piece ∷ pieces) vs = stop (Over (Undefined at))
