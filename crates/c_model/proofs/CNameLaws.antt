-- The names of a C text.
use Rattle.std.proofs.Common.{◌≡◌, ℕ, ltb, List, [], length, Result, Ok, Err, inl, inr, refl, sym, ap, subst, ◌∙◌}
use Rattle.c_syntax.specs.declared.place.Place.{Place}
use Rattle.c_syntax.specs.Tokens.{PlainTokens}
use Rattle.c_syntax.specs.Programs.{PlainRefusal}
use Rattle.c_model.specs.declared.c_tokens.Mode.{Mode}
use Rattle.c_model.specs.declared.c_tokens.Mode.TheVariants.{Code, Block, Line}
use Rattle.c_model.specs.declared.c_tokens.Piece.{Piece}
use Rattle.c_model.specs.declared.c_tokens.Piece.TheVariants as piece
use Rattle.c_model.specs.declared.c_tokens.Fault.TheVariants as fault
use Rattle.c_model.specs.MonitoredTokens.{Read, whole, nothing_read}
use Rattle.c_model.specs.MonitoredTokenLaws.{with_names, AreDistinct}
use Rattle.c_model.specs.Pieces.{Pieces, Ended, Broken, Cut, pieces_of}
use Rattle.c_model.specs.CTokens.{add, refused, closed, most_tokens, build, tokens_of}
use Rattle.c_model.specs.CTokenLaws.{word_then, words_of}
use Rattle.c_model.proofs.Spelling.{chosen}
use Rattle.c_model.proofs.NameLaws.{with_names_distinct}

add_names : (r : Read) (at : Place) (p : Piece) (bytes : List ℕ) (ws : List (List ℕ)) → with_names (add r at p bytes).names ws ≡ with_names r.names (word_then p bytes ws)
unfolding add
add_names r at piece.Blank bytes ws = refl
add_names r at (piece.Open m) bytes ws = refl
add_names r at piece.Close bytes ws = refl
add_names r at piece.Word bytes ws = refl
add_names r at (piece.Number v t) bytes ws = refl
add_names r at (piece.Letter c) bytes ws = refl
add_names r at piece.Chars bytes ws = refl
add_names r at (piece.Mark k) bytes ws = refl

closed_names : (r : Read) (at : Place) (m : Mode) → (closed r at m).names ≡ r.names
closed_names r at Code = refl
closed_names r at Block = refl
closed_names r at Line = refl

same_tokens : (x y : PlainTokens) → (let r : Result PlainTokens PlainRefusal = Ok x in r) ≡ Ok y → x ≡ y
same_tokens x y e = cc

build_names : (r : Read) (ps : Pieces) (tokens : PlainTokens) → build r ps ≡ Ok tokens → tokens.names ≡ with_names r.names (words_of ps)
unfolding build
build_names r (Ended at m) tokens e = elim (chosen (ltb most_tokens (length (closed r at m).list)) (Err (refused at fault.Limit [])) (Ok (whole (closed r at m) at)) (Ok tokens) e) [
  | inl h ↦ absurd (let f = h.1 in cc)
  | inr h ↦ ap (λ (x : PlainTokens). x.names) (sym (same_tokens (whole (closed r at m) at) tokens h.1)) ∙ closed_names r at m
]
build_names r (Broken at f rest) tokens e = absurd cc
build_names r (Cut at p bytes more) tokens e = elim (chosen (ltb most_tokens (length (add r at p bytes).list)) (Err (refused at fault.Limit [])) (build (add r at p bytes) more) (Ok tokens) e) [
  | inl h ↦ absurd (let f = h.1 in cc)
  | inr h ↦ build_names (add r at p bytes) more tokens h.1 ∙ add_names r at p bytes (words_of more)
]

pub names_in_order : (text : List ℕ) (tokens : PlainTokens) → tokens_of text ≡ Ok tokens → tokens.names ≡ with_names [] (words_of (pieces_of text))
unfolding tokens_of
names_in_order text tokens e = build_names nothing_read (pieces_of text) tokens e

pub names_distinct : (text : List ℕ) (tokens : PlainTokens) → tokens_of text ≡ Ok tokens → AreDistinct tokens.names
names_distinct text tokens e = subst AreDistinct (sym (names_in_order text tokens e)) (with_names_distinct [] (words_of (pieces_of text)) tt)
