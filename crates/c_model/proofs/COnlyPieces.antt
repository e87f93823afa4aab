-- The pieces of a C text are the only ones that are placed, spelled and broken as the laws say.
use Rattle.std.proofs.Common.{◌≡◌, ℕ, Bool, true, false, List, [], ◌∷◌, ◌++◌, length, take, Err, codes, refl, sym, ap, ◌∙◌, true≢false}
use Rattle.c_syntax.specs.declared.place.Place.{Place}
use Rattle.c_model.specs.declared.c_tokens.Mode.{Mode}
use Rattle.c_model.specs.declared.c_tokens.Mode.TheVariants.{Code}
use Rattle.c_model.specs.declared.c_tokens.Piece.TheVariants as piece
use Rattle.c_model.specs.Places.{next, walk, first_place}
use Rattle.c_model.specs.MonitoredTokens.{fresh_behind, fresh_after}
use Rattle.c_model.specs.MonitoredTokenLaws.{place_of}
use Rattle.c_model.specs.Pieces.{found, Pieces, Ended, Broken, Cut, open_block, open_line, other_at, piece_at, mode_after, cut, pieces_of}
use Rattle.c_model.specs.CTokenLaws.{bytes_of, ArePlaced, AreSpelled, AreBroken}
use Rattle.c_model.proofs.Spelling.{front_is}
use Rattle.c_model.proofs.PieceLaws.{walk-append, walk_place, fresh-append, fresh_starts}
use Rattle.c_model.proofs.COnePiece.{spelled_found}
use Rattle.c_model.proofs.COneFault.{breaks_found}

-- the bytes of the piece before are passed over
cut_past : (w r : List ℕ) (at : Place) (fresh : Bool) (m : Mode) → cut (length w) at fresh m (w ++ r) ≡ cut 0 (walk at w) (fresh_after fresh w) m r
unfolding cut
cut_past [] r at fresh m = refl
cut_past (b ∷ w) r at fresh m = cut_past w r (next at b) (fresh_behind fresh b) m

-- the text after these bytes, cut
abbrev cut_behind : List ℕ → Mode → List ℕ → Pieces
cut_behind before m bs = cut 0 (walk first_place before) (fresh_after true before) m bs

only_cut : (before : List ℕ) (m : Mode) (ps : Pieces) → ArePlaced before ps → AreSpelled before m ps → AreBroken before m ps → ps ≡ cut_behind before m (bytes_of ps)
unfolding cut
only_cut before m (Ended at n) placed spelled broken = let there = placed ∙ sym (walk_place before) in λ i. Ended (there i) (spelled i)
only_cut before m (Broken at f rest) placed spelled broken =
    let h = breaks_found before m f rest broken in
    let there = placed ∙ sym (walk_place before) in
    let is : piece_at m (fresh_after true before) (h.first ∷ h.others) ≡ Err f = ap (λ (fresh : Bool). piece_at m fresh (h.first ∷ h.others)) (fresh_starts before) ∙ h.is in
    let one : cut_behind before m (h.first ∷ h.others) ≡ Broken (walk first_place before) f (h.first ∷ h.others) = rw (is, cut) refl in
    (λ i. Broken (there i) f (h.joined i)) ∙ sym one ∙ ap (cut_behind before m) (sym h.joined)
only_cut before m (Cut at p bytes more) placed spelled broken =
    let behind = bytes_of more in
    let h = spelled_found before m p bytes behind spelled.0 in
    let w : List ℕ = h.first ∷ h.others in
    let there = placed.0 ∙ sym (walk_place before) in
    let is : piece_at m (fresh_after true before) (h.first ∷ (h.others ++ behind)) ≡ found p (length h.others) = ap (λ (fresh : Bool). piece_at m fresh (h.first ∷ (h.others ++ behind))) (fresh_starts before) ∙ h.is in
    let m2 = mode_after m p in
    let rest : Pieces = cut (length h.others) (next (walk first_place before) h.first) (fresh_behind (fresh_after true before) h.first) m2 (h.others ++ behind) in
    let one : cut_behind before m (h.first ∷ (h.others ++ behind)) ≡ Cut (walk first_place before) p (h.first ∷ take (length h.others) (h.others ++ behind)) rest = rw (is, cut) refl in
    let front : bytes ≡ h.first ∷ take (length h.others) (h.others ++ behind) = h.joined ∙ ap (λ (t : List ℕ). h.first ∷ t) (sym (front_is h.others behind)) in
    let place : walk first_place (before ++ bytes) ≡ walk (walk first_place before) w = ap (λ (t : List ℕ). walk first_place (before ++ t)) h.joined ∙ walk-append first_place before w in
    let line : fresh_after true (before ++ bytes) ≡ fresh_after (fresh_after true before) w = ap (λ (t : List ℕ). fresh_after true (before ++ t)) h.joined ∙ fresh-append true before w in
    let past : cut_behind (before ++ bytes) m2 behind ≡ rest = (λ i. cut 0 (place i) (line i) m2 behind) ∙ sym (cut_past h.others behind (next (walk first_place before) h.first) (fresh_behind (fresh_after true before) h.first) m2) in
    let same : more ≡ rest = only_cut (before ++ bytes) m2 more placed.1 spelled.1 broken ∙ past in
    (λ i. Cut (there i) p (front i) (same i)) ∙ sym one ∙ ap (λ (t : List ℕ). cut_behind before m (t ++ behind)) (sym h.joined)

pub only_pieces : (text : List ℕ) (ps : Pieces) → bytes_of ps ≡ text → ArePlaced [] ps → AreSpelled [] Code ps → AreBroken [] Code ps → ps ≡ pieces_of text
only_pieces text ps joined placed spelled broken = only_cut [] Code ps placed spelled broken ∙ ap (cut 0 first_place true Code) joined

-- ---- annotations aren't comments

abbrev begins_blank : Pieces → Bool
begins_blank (Cut at piece.Blank bytes more) = true
begins_blank _ = false

-- an annotation that is passed over as a blank isn't spelled so
block_passed_over : Pieces
block_passed_over = Cut first_place piece.Blank (codes "/*@ assert 0; */") (Ended (place_of (codes "/*@ assert 0; */")) Code)

no_block_passed_over : AreSpelled [] Code block_passed_over → ⊥
unfolding block_passed_over cut piece_at other_at open_block open_line
no_block_passed_over spelled = true≢false (ap begins_blank (only_pieces (codes "/*@ assert 0; */") block_passed_over refl (refl, refl) spelled tt))

line_passed_over : Pieces
line_passed_over = Cut first_place piece.Blank (codes "//@ assert 0;") (Ended (place_of (codes "//@ assert 0;")) Code)

no_line_passed_over : AreSpelled [] Code line_passed_over → ⊥
unfolding line_passed_over cut piece_at other_at open_block open_line
no_line_passed_over spelled = true≢false (ap begins_blank (only_pieces (codes "//@ assert 0;") line_passed_over refl (refl, refl) spelled tt))
