-- A monitored text is refused exactly at its first fault.
use Rattle.std.proofs.Common.{◌≡◌, ℕ, List, [], ◌++◌, Result, Err, refl, sym, ap, subst, ◌∙◌, append_assoc}
use Rattle.std.proofs.lemmas.List.{append-nil}
use Rattle.c_syntax.specs.Tokens.{PlainTokens}
use Rattle.c_syntax.specs.Programs.{PlainRefusal}
use Rattle.c_model.specs.declared.monitored_tokens.Fault.{Fault}
use Rattle.c_model.specs.MonitoredTokens.{Pieces, Ended, Broken, Cut, Read, add, refused, build, nothing_read, pieces_of, monitored_tokens}
use Rattle.c_model.specs.MonitoredTokenLaws.{bytes_of, place_of, BreakBehind, Breaks, IsRefused}
use Rattle.c_model.proofs.PieceLaws.{AreSound, pieces_joined, pieces_sound}

same_refusal : (x y : PlainRefusal) → (let r : Result PlainTokens PlainRefusal = Err x in r) ≡ Err y → x ≡ y
same_refusal x y e = cc

-- the parts of a refusal, from pieces whose first is after these bytes
record Broke (before : List ℕ) (ps : Pieces) (x : PlainRefusal) : Type 0 where
  front : List ℕ
  rest : List ℕ
  fault : Fault
  parts : bytes_of ps ≡ front ++ rest
  pieces : BreakBehind ps front fault rest
  broken : Breaks (before ++ front) fault rest
  refusal : x ≡ refused (place_of (before ++ front)) fault rest

breaks : (before : List ℕ) (r : Read) (ps : Pieces) (x : PlainRefusal) → AreSound before ps → build r ps ≡ Err x → Broke before ps x
unfolding build
breaks before r (Ended at) x sound e = absurd cc
breaks before r (Broken at f rest) x sound e =
    let back = append-nil before in
    record {
      front = [];
      rest = rest;
      fault = f;
      parts = refl;
      pieces = (refl, refl, refl);
      broken = subst (λ (l : List ℕ). Breaks l f rest) (sym back) sound.1;
      refusal = sym (same_refusal (refused at f rest) x e) ∙ ap (λ p. refused p f rest) (sound.0 ∙ ap place_of (sym back));
    }
breaks before r (Cut at p bytes more) x sound e =
    let h = breaks (before ++ bytes) (add r at p bytes) more x sound.2 e in
    let join = append_assoc before bytes h.front in
    record {
      front = bytes ++ h.front;
      rest = h.rest;
      fault = h.fault;
      parts = ap (λ (t : List ℕ). bytes ++ t) h.parts ∙ sym (append_assoc bytes h.front h.rest);
      pieces = (h.front, refl, h.pieces);
      broken = subst (λ (l : List ℕ). Breaks l h.fault h.rest) join h.broken;
      refusal = h.refusal ∙ ap (λ (l : List ℕ). refused (place_of l) h.fault h.rest) join;
    }

pub refused_there : (text : List ℕ) (x : PlainRefusal) → monitored_tokens text ≡ Err x → IsRefused text x
unfolding monitored_tokens
refused_there text x e =
    let h = breaks [] nothing_read (pieces_of text) x (pieces_sound text) e in
    record { front = h.front; rest = h.rest; fault = h.fault; parts = sym (pieces_joined text) ∙ h.parts; pieces = h.pieces; broken = h.broken; refusal = h.refusal }

-- pieces that break are refused
refuses : (before : List ℕ) (r : Read) (ps : Pieces) (front rest : List ℕ) (f : Fault) → AreSound before ps → BreakBehind ps front f rest → build r ps ≡ Err (refused (place_of (before ++ front)) f rest)
unfolding build
refuses before r (Ended at) front rest f sound h = absurd h
refuses before r (Broken at g end) front rest f sound h =
    let place = sound.0 ∙ ap place_of (sym (append-nil before)) ∙ ap (λ (l : List ℕ). place_of (before ++ l)) (sym h.0) in
    λ i. Err (refused (place i) (h.1 i) (h.2 i))
refuses before r (Cut at p bytes more) front rest f sound h =
    let join : (before ++ bytes) ++ h.0 ≡ before ++ front = append_assoc before bytes h.0 ∙ ap (λ (l : List ℕ). before ++ l) (sym h.1) in
    refuses (before ++ bytes) (add r at p bytes) more h.0 rest f sound.2 h.2 ∙ ap (λ (l : List ℕ). let r : Result PlainTokens PlainRefusal = Err (refused (place_of l) f rest) in r) join

pub refused_back : (text : List ℕ) (x : PlainRefusal) → IsRefused text x → monitored_tokens text ≡ Err x
unfolding monitored_tokens
refused_back text x h = refuses [] nothing_read (pieces_of text) h.front h.rest h.fault (pieces_sound text) h.pieces ∙ ap (λ (y : PlainRefusal). Err y) (sym h.refusal)
