-- A C text is refused exactly at its first fault, or at one token too many.
use Rattle.std.proofs.Common.{◌≡◌, ℕ, ltb, List, [], ◌++◌, length, Result, Ok, Err, inl, inr, refl, sym, ap, ◌∙◌, append_assoc}
use Rattle.std.proofs.lemmas.Bool.{ltb-true, ltb-false, lt-ltb, le-ltb}
use Rattle.std.proofs.lemmas.List.{append-nil}
use Rattle.c_syntax.specs.Tokens.{PlainTokens}
use Rattle.c_syntax.specs.Programs.{PlainRefusal}
use Rattle.c_model.specs.declared.c_tokens.Fault.TheVariants as fault
use Rattle.c_model.specs.MonitoredTokens.{Read, whole, nothing_read}
use Rattle.c_model.specs.MonitoredTokenLaws.{place_of}
use Rattle.c_model.specs.Pieces.{Pieces, Ended, Broken, Cut, pieces_of}
use Rattle.c_model.specs.CTokens.{add, refused, closed, most_tokens, build, tokens_of}
use Rattle.c_model.specs.CTokenLaws.{bytes_of, ArePlaced, ReadUpTo, IsFaulty, IsRefused}
use Rattle.c_model.proofs.Spelling.{chosen}
use Rattle.c_model.proofs.CPieceLaws.{pieces_joined, pieces_placed}

same_refusal : (x y : PlainRefusal) → (let r : Result PlainTokens PlainRefusal = Err x in r) ≡ Err y → x ≡ y
same_refusal x y e = cc

-- the parts of a refusal, from pieces whose first is after these bytes
record Faulty (before : List ℕ) (start : Read) (ps : Pieces) (x : PlainRefusal) : Type 0 where
  front : List ℕ
  read : Read
  behind : Pieces
  parts : bytes_of ps ≡ front ++ bytes_of behind
  sound : ReadUpTo start ps front read behind
  faulty : IsFaulty read behind x
  place : x.place ≡ place_of (before ++ front)

faults : (before : List ℕ) (start : Read) (ps : Pieces) (x : PlainRefusal) → ArePlaced before ps → build start ps ≡ Err x → Faulty before start ps x
unfolding build
faults before start (Ended at m) x placed e = elim (chosen (ltb most_tokens (length (closed start at m).list)) (Err (refused at fault.Limit [])) (Ok (whole (closed start at m) at)) (Err x) e) [
  | inl h ↦
      let same = same_refusal (refused at fault.Limit []) x h.1 in
      record {
        front = [];
        read = start;
        behind = Ended at m;
        parts = refl;
        sound = (refl, refl, refl);
        faulty = (sym same, ltb-true _ _ h.0);
        place = ap (λ (r : PlainRefusal). r.place) (sym same) ∙ placed ∙ ap place_of (sym (append-nil before));
      }
  | inr h ↦ absurd (let f = h.1 in cc)
]
faults before start (Broken at f rest) x placed e =
    let same = same_refusal (refused at f rest) x e in
    record {
      front = [];
      read = start;
      behind = Broken at f rest;
      parts = refl;
      sound = (refl, refl, refl);
      faulty = sym same;
      place = ap (λ (r : PlainRefusal). r.place) (sym same) ∙ placed ∙ ap place_of (sym (append-nil before));
    }
faults before start (Cut at p bytes more) x placed e = elim (chosen (ltb most_tokens (length (add start at p bytes).list)) (Err (refused at fault.Limit [])) (build (add start at p bytes) more) (Err x) e) [
  | inl h ↦
      let same = same_refusal (refused at fault.Limit []) x h.1 in
      record {
        front = [];
        read = start;
        behind = Cut at p bytes more;
        parts = refl;
        sound = inl (refl, refl, refl);
        faulty = (sym same, ltb-true _ _ h.0);
        place = ap (λ (r : PlainRefusal). r.place) (sym same) ∙ placed.0 ∙ ap place_of (sym (append-nil before));
      }
  | inr h ↦
      let rest = faults (before ++ bytes) (add start at p bytes) more x placed.1 h.1 in
      record {
        front = bytes ++ rest.front;
        read = rest.read;
        behind = rest.behind;
        parts = ap (λ (t : List ℕ). bytes ++ t) rest.parts ∙ sym (append_assoc bytes rest.front (bytes_of rest.behind));
        sound = inr (rest.front, refl, ltb-false _ _ h.0, rest.sound);
        faulty = rest.faulty;
        place = rest.place ∙ ap place_of (append_assoc before bytes rest.front);
      }
]

pub refused_there : (text : List ℕ) (x : PlainRefusal) → tokens_of text ≡ Err x → IsRefused text x
unfolding tokens_of
refused_there text x e =
    let h = faults [] nothing_read (pieces_of text) x (pieces_placed text) e in
    record { front = h.front; read = h.read; behind = h.behind; parts = sym (pieces_joined text) ∙ h.parts; sound = h.sound; faulty = h.faulty; place = h.place }

faulty_build : (r : Read) (ps : Pieces) (x : PlainRefusal) → IsFaulty r ps x → build r ps ≡ Err x
unfolding build
faulty_build r (Ended at m) x h = let t = lt-ltb _ _ h.1 in rw t (ap (λ (y : PlainRefusal). Err y) (sym h.0))
faulty_build r (Broken at f rest) x h = ap (λ (y : PlainRefusal). Err y) (sym h)
faulty_build r (Cut at p bytes more) x h = let t = lt-ltb _ _ h.1 in rw t (ap (λ (y : PlainRefusal). Err y) (sym h.0))

-- what is read up to something faulty is refused
refuses : (start : Read) (ps : Pieces) (front : List ℕ) (read : Read) (behind : Pieces) (x : PlainRefusal) → ReadUpTo start ps front read behind → IsFaulty read behind x → build start ps ≡ Err x
unfolding build
refuses start (Ended at m) front read behind x h f = (λ i. build (sym h.1 i) (sym h.2 i)) ∙ faulty_build read behind x f
refuses start (Broken at g rest) front read behind x h f = (λ i. build (sym h.1 i) (sym h.2 i)) ∙ faulty_build read behind x f
refuses start (Cut at p bytes more) front read behind x (inl h) f = (λ i. build (sym h.1 i) (sym h.2 i)) ∙ faulty_build read behind x f
refuses start (Cut at p bytes more) front read behind x (inr h) f =
    let t = le-ltb _ _ h.2 in
    rw t (refuses (add start at p bytes) more h.0 read behind x h.3 f)

pub refused_back : (text : List ℕ) (x : PlainRefusal) → IsRefused text x → tokens_of text ≡ Err x
unfolding tokens_of
refused_back text x h = refuses nothing_read (pieces_of text) h.front h.read h.behind x h.sound h.faulty
