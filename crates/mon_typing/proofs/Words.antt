-- The names of a text's tokens are words.
use Rattle.std.proofs.Common.{◌≡◌, ℕ, Bool, true, false, cond, List, [], ◌∷◌, ◌++◌, bytes_eq, sym, ap, subst, ◌∙◌}
use Rattle.std.specs.List.{list_any, list_all, AllByRecursion}
use Rattle.c_model.specs.declared.monitored_tokens.Piece.{Piece}
use Rattle.c_model.specs.declared.monitored_tokens.Piece.TheVariants as piece
use Rattle.c_model.specs.Characters.{is_part}
use Rattle.c_model.specs.Names.{with_name}
use Rattle.c_model.specs.MonitoredTokens.{Pieces, Ended, Broken, Cut, pieces_of}
use Rattle.c_model.specs.MonitoredTokenLaws.{bytes_of, IsName, Spells, AreSpelled, word_then, words_of, with_names}
use Rattle.c_model.proofs.NameLaws.{names_in_order, names_distinct}
use Rattle.c_model.proofs.PieceLaws.{pieces_spelled}
use Rattle.mon_syntax.specs.Names.{begins_name}
use Rattle.mon_typing.specs.Laws.{IsWord, TokensHaveNames}
use Rattle.mon_typing.proofs.Holds.{first_true, second_true}

abbrev AreWords : List (List ℕ) → Type 0
AreWords ws = AllByRecursion IsWord ws

each_part : (bs : List ℕ) → list_all is_part bs ≡ true → AllByRecursion (λ b. is_part b ≡ true) bs
each_part [] h = tt
each_part (b ∷ bs) h = (first_true (is_part b) (list_all is_part bs) h, each_part bs (second_true (is_part b) (list_all is_part bs) h))

name_is_word : (bytes behind : List ℕ) → IsName bytes behind → IsWord bytes
name_is_word bytes behind n = record { begins = ap begins_name n.joined ∙ n.begins; parts = each_part bytes n.parts; short = n.short }

then_words : (before : List ℕ) (p : Piece) (bytes behind : List ℕ) (ws : List (List ℕ)) → Spells before p bytes behind → AreWords ws → AreWords (word_then p bytes ws)
then_words before piece.Blank bytes behind ws s w = w
then_words before piece.Word bytes behind ws s w = (name_is_word bytes behind s, w)
then_words before (piece.Number v) bytes behind ws s w = w
then_words before piece.Chars bytes behind ws s w = w
then_words before (piece.Mark m) bytes behind ws s w = w
then_words before piece.Head bytes behind ws s w = w

words_are : (before : List ℕ) (ps : Pieces) → AreSpelled before ps → AreWords (words_of ps)
words_are before (Ended at) s = tt
words_are before (Broken at f rest) s = tt
words_are before (Cut at p bytes more) s = then_words before p bytes (bytes_of more) (words_of more) s.0 (words_are (before ++ bytes) more s.1)

one_more : (names : List (List ℕ)) (w : List ℕ) → AreWords names → IsWord w → AreWords (names ++ w ∷ [])
one_more [] w all h = (h, tt)
one_more (n ∷ names) w all h = (all.0, one_more names w all.1 h)

one_name : (names : List (List ℕ)) (w : List ℕ) (b : Bool) → AreWords names → IsWord w → AreWords (cond b names (names ++ w ∷ []))
one_name names w true all h = all
one_name names w false all h = one_more names w all h

all_names : (names ws : List (List ℕ)) → AreWords names → AreWords ws → AreWords (with_names names ws)
all_names names [] all h = all
all_names names (w ∷ ws) all h = all_names (with_name names w) ws (one_name names w (list_any (bytes_eq w) names) all h.0) h.1

pub tokens_have_names : TokensHaveNames
tokens_have_names text tokens is = record {
  words = subst AreWords (sym (names_in_order text tokens is)) (all_names [] (words_of (pieces_of text)) tt (words_are [] (pieces_of text) (pieces_spelled text)));
  distinct = names_distinct text tokens is;
}
