-- The list of the tokens of a C text: its order, its strings, its length and its end.
use Rattle.std.proofs.Common.{◌≡◌, ℕ, zero, suc, ◌<◌, ◌≤◌, Bool, true, false, ◌&&◌, ltb, List, [], ◌∷◌, ◌++◌, length, take, Result, Ok, Err, inl, inr, refl, sym, ap, subst, ◌∙◌, arith, append_assoc, length-append}
use Rattle.std.proofs.lemmas.Bool.{ltb-false}
use Rattle.std.proofs.lemmas.List.{append-nil}
use Rattle.c_syntax.specs.declared.place.Place.{Place}
use Rattle.c_syntax.specs.Tokens as token
use Rattle.c_syntax.specs.Tokens.{PlainTokenKind, PlainToken, PlainTokens}
use Rattle.c_syntax.specs.Programs.{PlainRefusal}
use Rattle.c_model.specs.declared.c_tokens.Mode.{Mode}
use Rattle.c_model.specs.declared.c_tokens.Mode.TheVariants.{Code, Block, Line}
use Rattle.c_model.specs.declared.c_tokens.Piece.{Piece}
use Rattle.c_model.specs.declared.c_tokens.Piece.TheVariants as piece
use Rattle.c_model.specs.declared.c_tokens.Found.{Found}
use Rattle.c_model.specs.declared.c_tokens.Fault.{Fault}
use Rattle.c_model.specs.declared.c_tokens.Fault.TheVariants as fault
use Rattle.c_model.specs.Places.{next, first_place}
use Rattle.c_model.specs.MonitoredTokens as monitored
use Rattle.c_model.specs.MonitoredTokens.{Read, fresh_behind, whole, nothing_read}
use Rattle.c_model.specs.MonitoredTokenLaws.{place_of}
use Rattle.c_model.specs.Pieces.{Pieces, Ended, Broken, Cut, piece_at, mode_after, cut, pieces_of}
use Rattle.c_model.specs.CTokens.{joined_string, with_string, add, refused, closed, most_tokens, build, tokens_of}
use Rattle.c_model.specs.CTokenLaws.{bytes_of, ArePlaced, Ascend, is_string, StringsApart}
use Rattle.c_model.proofs.Spelling.{chosen}
use Rattle.c_model.proofs.CPieceLaws.{pieces_joined, pieces_placed}

-- ---- each piece has a byte

abbrev AreSome : Pieces → Type 0
AreSome (Ended at m) = Unit {0}
AreSome (Broken at f rest) = Unit {0}
AreSome (Cut at p bytes more) = (0 < length bytes) × AreSome more

cut_some : (k : ℕ) (at : Place) (fresh : Bool) (m : Mode) (bs : List ℕ) → AreSome (cut k at fresh m bs)
unfolding cut
cut_some k at fresh m [] = tt
cut_some (suc k) at fresh m (b ∷ bs) = cut_some k (next at b) (fresh_behind fresh b) m bs
cut_some zero at fresh m (b ∷ bs) = by (piece_at m fresh (b ∷ bs)) refl (λ n m2. cut_some n (next at b) (fresh_behind fresh b) m2 bs)
  where
    by : (r : Result Found Fault) → piece_at m fresh (b ∷ bs) ≡ r → ((n : ℕ) (m2 : Mode) → AreSome (cut n (next at b) (fresh_behind fresh b) m2 bs)) → AreSome (cut 0 at fresh m (b ∷ bs))
    by (Err f) e rest = rw (e, cut) tt
    by (Ok x) e rest = rw (e, cut) (let some : 0 < length (b ∷ take x.more bs) = omega arith in some, rest x.more (mode_after m x.piece))

-- ---- what is put after a list

abbrev pub AllBelow : ℕ → List PlainToken → Type 0
AllBelow n [] = Unit {0}
AllBelow n (t ∷ ts) = (t.place.offset < n) × AllBelow n ts

-- a word begins below the number
abbrev pub WordBelow : ℕ → PlainTokenKind → ℕ → Type 0
WordBelow n (token.Word w) offset = offset < n
WordBelow n _ offset = Unit {0}

abbrev pub WordsBelow : ℕ → List PlainToken → Type 0
WordsBelow n [] = Unit {0}
WordsBelow n (t ∷ ts) = WordBelow n t.kind t.place.offset × WordsBelow n ts

word_below : (n offset : ℕ) (k : PlainTokenKind) → offset < n → WordBelow n k offset
word_below n offset (token.Word w) h = h
word_below n offset (token.Number z c) h = tt
word_below n offset (token.Letter z) h = tt
word_below n offset (token.Chars bytes) h = tt
word_below n offset (token.Mark m) h = tt
word_below n offset token.AnnotOpen h = tt
word_below n offset token.AnnotClose h = tt
word_below n offset (token.Head k m) h = tt

words_of : (n : ℕ) (ts : List PlainToken) → AllBelow n ts → WordsBelow n ts
words_of n [] below = tt
words_of n (t ∷ ts) below = (word_below n t.place.offset t.kind below.0, words_of n ts below.1)

words_push : (n : ℕ) (ts : List PlainToken) (t : PlainToken) → WordsBelow n ts → WordBelow n t.kind t.place.offset → WordsBelow n (ts ++ t ∷ [])
words_push n [] t below h = (h, tt)
words_push n (u ∷ ts) t below h = (below.0, words_push n ts t below.1 h)

below_more : (n k : ℕ) (ts : List PlainToken) → n ≤ k → AllBelow n ts → AllBelow k ts
below_more n k [] h below = tt
below_more n k (t ∷ ts) h below = (omega (arith, below.0), below_more n k ts h below.1)

below_push : (n : ℕ) (ts : List PlainToken) (t : PlainToken) → AllBelow n ts → t.place.offset < n → AllBelow n (ts ++ t ∷ [])
below_push n [] t below h = (h, tt)
below_push n (u ∷ ts) t below h = (below.0, below_push n ts t below.1 h)

ascend_push : (ts : List PlainToken) (t : PlainToken) → Ascend ts → AllBelow t.place.offset ts → Ascend (ts ++ t ∷ [])
ascend_push [] t up below = tt
ascend_push (u ∷ []) t up below = (below.0, tt)
ascend_push (u ∷ v ∷ ts) t up below = (up.0, ascend_push (v ∷ ts) t up.1 below.1)

and_false : (a : Bool) → a && false ≡ false
and_false true = refl
and_false false = refl

apart_push : (ts : List PlainToken) (t : PlainToken) → is_string t.kind ≡ false → StringsApart ts → StringsApart (ts ++ t ∷ [])
apart_push [] t other apart = tt
apart_push (u ∷ []) t other apart = (ap (λ (b : Bool). is_string u.kind && b) other ∙ and_false (is_string u.kind), tt)
apart_push (u ∷ v ∷ ts) t other apart = (apart.0, apart_push (v ∷ ts) t other apart.1)

-- a string after one token: its place and kind stay
record Joins (t : PlainToken) (at : Place) (bs : List ℕ) : Type 0 where
  first : PlainToken
  others : List PlainToken
  is : joined_string t at bs ≡ first ∷ others
  place : first.place ≡ t.place
  kind : is_string first.kind ≡ is_string t.kind
  below : (n : ℕ) → t.place.offset < n → at.offset < n → AllBelow n (joined_string t at bs)
  ascend : t.place.offset < at.offset → Ascend (joined_string t at bs)
  apart : StringsApart (joined_string t at bs)

joins : (t : PlainToken) (at : Place) (bs : List ℕ) → Joins t at bs
joins t at bs = by t.kind t.place
  where
    by : (k : PlainTokenKind) (p : Place) → Joins (record { place = p; kind = k }) at bs
    by (token.Chars cs) p = record { first = _; others = _; is = refl; place = refl; kind = refl; below = λ n h g. (h, tt); ascend = λ h. tt; apart = tt }
    by (token.Word n) p = record { first = _; others = _; is = refl; place = refl; kind = refl; below = λ n h g. (h, (g, tt)); ascend = λ h. (h, tt); apart = (refl, tt) }
    by (token.Number v c) p = record { first = _; others = _; is = refl; place = refl; kind = refl; below = λ n h g. (h, (g, tt)); ascend = λ h. (h, tt); apart = (refl, tt) }
    by (token.Letter v) p = record { first = _; others = _; is = refl; place = refl; kind = refl; below = λ n h g. (h, (g, tt)); ascend = λ h. (h, tt); apart = (refl, tt) }
    by (token.Mark m) p = record { first = _; others = _; is = refl; place = refl; kind = refl; below = λ n h g. (h, (g, tt)); ascend = λ h. (h, tt); apart = (refl, tt) }
    by token.AnnotOpen p = record { first = _; others = _; is = refl; place = refl; kind = refl; below = λ n h g. (h, (g, tt)); ascend = λ h. (h, tt); apart = (refl, tt) }
    by token.AnnotClose p = record { first = _; others = _; is = refl; place = refl; kind = refl; below = λ n h g. (h, (g, tt)); ascend = λ h. (h, tt); apart = (refl, tt) }
    by (token.Head k n) p = record { first = _; others = _; is = refl; place = refl; kind = refl; below = λ n h g. (h, (g, tt)); ascend = λ h. (h, tt); apart = (refl, tt) }

-- the first token of a list with a string after it
record Begins (u : PlainToken) (ts : List PlainToken) : Type 0 where
  first : PlainToken
  others : List PlainToken
  is : ts ≡ first ∷ others
  place : first.place ≡ u.place
  kind : is_string first.kind ≡ is_string u.kind

string_begins : (u : PlainToken) (ts : List PlainToken) (at : Place) (bs : List ℕ) → Begins u (with_string (u ∷ ts) at bs)
string_begins u [] at bs = let j = joins u at bs in record { first = j.first; others = j.others; is = j.is; place = j.place; kind = j.kind }
string_begins u (v ∷ ts) at bs = record { first = u; others = with_string (v ∷ ts) at bs; is = refl; place = refl; kind = refl }

string_below : (n : ℕ) (ts : List PlainToken) (at : Place) (bs : List ℕ) → AllBelow n ts → at.offset < n → AllBelow n (with_string ts at bs)
string_below n [] at bs below h = (h, tt)
string_below n (t ∷ []) at bs below h = (joins t at bs).below n below.0 h
string_below n (t ∷ u ∷ ts) at bs below h = (below.0, string_below n (u ∷ ts) at bs below.1 h)

string_ascends : (ts : List PlainToken) (at : Place) (bs : List ℕ) → Ascend ts → AllBelow at.offset ts → Ascend (with_string ts at bs)
string_ascends [] at bs up below = tt
string_ascends (t ∷ []) at bs up below = (joins t at bs).ascend below.0
string_ascends (t ∷ u ∷ ts) at bs up below =
    let b = string_begins u ts at bs in
    let rest = string_ascends (u ∷ ts) at bs up.1 below.1 in
    subst (λ (l : List PlainToken). Ascend (t ∷ l)) (sym b.is) (subst (λ (p : Place). t.place.offset < p.offset) (sym b.place) up.0, subst Ascend b.is rest)

string_apart : (ts : List PlainToken) (at : Place) (bs : List ℕ) → StringsApart ts → StringsApart (with_string ts at bs)
string_apart [] at bs apart = tt
string_apart (t ∷ []) at bs apart = (joins t at bs).apart
string_apart (t ∷ u ∷ ts) at bs apart =
    let b = string_begins u ts at bs in
    let rest = string_apart (u ∷ ts) at bs apart.1 in
    subst (λ (l : List PlainToken). StringsApart (t ∷ l)) (sym b.is) (ap (λ (c : Bool). is_string t.kind && c) b.kind ∙ apart.0, subst StringsApart b.is rest)

-- ---- what is read, after so many bytes

record InOrder (n : ℕ) (ts : List PlainToken) : Type 0 where
  below : AllBelow n ts
  ascend : Ascend ts
  apart : StringsApart ts

put_in_order : (n k : ℕ) (ts : List PlainToken) (at : Place) (kind : PlainTokenKind) → InOrder n ts → at.offset ≡ n → n < k → is_string kind ≡ false → InOrder k (ts ++ monitored.token at kind ∷ [])
put_in_order n k ts at kind h e lt other = record {
  below = below_push k ts (monitored.token at kind) (below_more n k ts (omega arith) h.below) (omega (arith, e));
  ascend = ascend_push ts (monitored.token at kind) h.ascend (subst (λ (i : ℕ). AllBelow i ts) (sym e) h.below);
  apart = apart_push ts (monitored.token at kind) other h.apart;
}

add_in_order : (n k : ℕ) (r : Read) (at : Place) (p : Piece) (bytes : List ℕ) → InOrder n r.list → at.offset ≡ n → n < k → InOrder k (add r at p bytes).list
unfolding add
add_in_order n k r at piece.Blank bytes h e lt = record { below = below_more n k r.list (omega arith) h.below; ascend = h.ascend; apart = h.apart }
add_in_order n k r at (piece.Open m) bytes h e lt = put_in_order n k r.list at token.AnnotOpen h e lt refl
add_in_order n k r at piece.Close bytes h e lt = put_in_order n k r.list at token.AnnotClose h e lt refl
add_in_order n k r at piece.Word bytes h e lt = put_in_order n k r.list at _ h e lt refl
add_in_order n k r at (piece.Number v t) bytes h e lt = put_in_order n k r.list at _ h e lt refl
add_in_order n k r at (piece.Letter c) bytes h e lt = put_in_order n k r.list at _ h e lt refl
add_in_order n k r at piece.Chars bytes h e lt = record {
  below = string_below k r.list at _ (below_more n k r.list (omega arith) h.below) (omega (arith, e));
  ascend = string_ascends r.list at _ h.ascend (subst (λ (i : ℕ). AllBelow i r.list) (sym e) h.below);
  apart = string_apart r.list at _ h.apart;
}
add_in_order n k r at (piece.Mark i) bytes h e lt = put_in_order n k r.list at _ h e lt refl

order_more : (n k : ℕ) (ts : List PlainToken) → n ≤ k → InOrder n ts → InOrder k ts
order_more n k ts le h = record { below = below_more n k ts le h.below; ascend = h.ascend; apart = h.apart }

-- the end of an annotation with `//@` may stand at the end of the text
closed_in_order : (n : ℕ) (r : Read) (at : Place) (m : Mode) → InOrder n r.list → at.offset ≡ n → InOrder (suc n) (closed r at m).list
closed_in_order n r at Code h e = order_more n (suc n) r.list (omega arith) h
closed_in_order n r at Block h e = order_more n (suc n) r.list (omega arith) h
closed_in_order n r at Line h e = put_in_order n (suc n) r.list at token.AnnotClose h e (omega arith) refl

closed_words : (n : ℕ) (r : Read) (at : Place) (m : Mode) → AllBelow n r.list → WordsBelow n (closed r at m).list
closed_words n r at Code h = words_of n r.list h
closed_words n r at Block h = words_of n r.list h
closed_words n r at Line h = words_push n r.list (monitored.token at token.AnnotClose) (words_of n r.list h) tt

same_tokens : (x y : PlainTokens) → (let r : Result PlainTokens PlainRefusal = Ok x in r) ≡ Ok y → x ≡ y
same_tokens x y e = cc

-- what holds of the tokens of pieces after these bytes
record Listed (before : List ℕ) (ps : Pieces) (tokens : PlainTokens) : Type 0 where
  below : AllBelow (suc (length (before ++ bytes_of ps))) tokens.list
  words : WordsBelow (length (before ++ bytes_of ps)) tokens.list
  ascend : Ascend tokens.list
  apart : StringsApart tokens.list
  few : length tokens.list ≤ most_tokens
  end : tokens.end ≡ place_of (before ++ bytes_of ps)

listed : (before : List ℕ) (r : Read) (ps : Pieces) (tokens : PlainTokens) → ArePlaced before ps → AreSome ps → InOrder (length before) r.list → build r ps ≡ Ok tokens → Listed before ps tokens
unfolding build
listed before r (Ended at m) tokens placed some order e = elim (chosen (ltb most_tokens (length (closed r at m).list)) (Err (refused at fault.Limit [])) (Ok (whole (closed r at m) at)) (Ok tokens) e) [
  | inl h ↦ absurd (let f = h.1 in cc)
  | inr h ↦
      let same = same_tokens (whole (closed r at m) at) tokens h.1 in
      let c = closed_in_order (length before) r at m order (ap (λ (p : Place). p.offset) placed) in
      record {
        below = subst (λ (t : PlainTokens). AllBelow (suc (length (before ++ []))) t.list) same
            (subst (λ (bs : List ℕ). AllBelow (suc (length bs)) (closed r at m).list) (sym (append-nil before)) c.below);
        words = subst (λ (t : PlainTokens). WordsBelow (length (before ++ [])) t.list) same
            (subst (λ (bs : List ℕ). WordsBelow (length bs) (closed r at m).list) (sym (append-nil before)) (closed_words (length before) r at m order.below));
        ascend = subst (λ (t : PlainTokens). Ascend t.list) same c.ascend;
        apart = subst (λ (t : PlainTokens). StringsApart t.list) same c.apart;
        few = subst (λ (t : PlainTokens). length t.list ≤ most_tokens) same (ltb-false _ _ h.0);
        end = ap (λ (t : PlainTokens). t.end) (sym same) ∙ placed ∙ ap place_of (sym (append-nil before));
      }
]
listed before r (Broken at f rest) tokens placed some order e = absurd cc
listed before r (Cut at p bytes more) tokens placed some order e = elim (chosen (ltb most_tokens (length (add r at p bytes).list)) (Err (refused at fault.Limit [])) (build (add r at p bytes) more) (Ok tokens) e) [
  | inl h ↦ absurd (let f = h.1 in cc)
  | inr h ↦
      let next = add_in_order (length before) (length (before ++ bytes)) r at p bytes order (ap (λ (q : Place). q.offset) placed.0) (omega (arith, length-append before bytes, some.0)) in
      let rest = listed (before ++ bytes) (add r at p bytes) more tokens placed.1 some.1 next h.1 in
      record {
        below = subst (λ (bs : List ℕ). AllBelow (suc (length bs)) tokens.list) (append_assoc before bytes (bytes_of more)) rest.below;
        words = subst (λ (bs : List ℕ). WordsBelow (length bs) tokens.list) (append_assoc before bytes (bytes_of more)) rest.words;
        ascend = rest.ascend;
        apart = rest.apart;
        few = rest.few;
        end = rest.end ∙ ap place_of (append_assoc before bytes (bytes_of more));
      }
]

list_of : (text : List ℕ) (tokens : PlainTokens) → tokens_of text ≡ Ok tokens → Listed [] (pieces_of text) tokens
unfolding tokens_of
list_of text tokens e = listed [] nothing_read (pieces_of text) tokens (pieces_placed text) (cut_some 0 first_place true Code text) (record { below = tt; ascend = tt; apart = tt }) e

pub tokens_ascend : (text : List ℕ) (tokens : PlainTokens) → tokens_of text ≡ Ok tokens → Ascend tokens.list
tokens_ascend text tokens e = (list_of text tokens e).ascend

-- each token begins in the text, or at its end
pub tokens_below : (text : List ℕ) (tokens : PlainTokens) → tokens_of text ≡ Ok tokens → AllBelow (suc (length text)) tokens.list
tokens_below text tokens e = subst (λ (bs : List ℕ). AllBelow (suc (length bs)) tokens.list) (pieces_joined text) (list_of text tokens e).below

pub strings_joined : (text : List ℕ) (tokens : PlainTokens) → tokens_of text ≡ Ok tokens → StringsApart tokens.list
strings_joined text tokens e = (list_of text tokens e).apart

pub tokens_few : (text : List ℕ) (tokens : PlainTokens) → tokens_of text ≡ Ok tokens → length tokens.list ≤ most_tokens
tokens_few text tokens e = (list_of text tokens e).few

pub end_behind : (text : List ℕ) (tokens : PlainTokens) → tokens_of text ≡ Ok tokens → tokens.end ≡ place_of text
end_behind text tokens e = (list_of text tokens e).end ∙ ap place_of (pieces_joined text)

-- each word begins in the text
pub words_below : (text : List ℕ) (tokens : PlainTokens) → tokens_of text ≡ Ok tokens → WordsBelow (length text) tokens.list
words_below text tokens e = subst (λ (bs : List ℕ). WordsBelow (length bs) tokens.list) (pieces_joined text) (list_of text tokens e).words
