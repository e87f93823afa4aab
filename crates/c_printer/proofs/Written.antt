-- What was written in parts was written as one text.
use Rattle.std.proofs.Common.{◌≡◌, ℕ, List, [], ◌++◌, Option, Some, None, refl, sym, ap, ◌∙◌, subst, append_assoc, true≢false}
use Rattle.std.proofs.lemmas.List.{append-nil}
use Rattle.std.proofs.lemmas.Option.{none-some}
use Rattle.std.specs.Option.{is_some}
use Rattle.std.specs.Prelude.{true, false, Result, MatchResult}
use Rattle.std.proofs.lemmas.Result.{MatchResult-weaker}
use Rattle.ea_ports.specs.declared.SinkFault.{SinkFault}
use Rattle.ea_ports.specs.Port.{more}
use Rattle.ea_ports.specs.Buffered.{port_of, Wrote, Lost}
use Rattle.ea_ports.proofs.Buffered.{wrote_none, wrote_wrote, wrote_lost, lost_more}
use Rattle.c_printer.specs.Printing.{Pipe, Printed, Whole, Cut, Shut, PrintCut, begun, pipe_of}

-- a sink that refused is none that didn't
clash : {fault : SinkFault} {refusal : Option SinkFault} → refusal ≡ None → refusal ≡ Some fault → ⊥
clash {fault} none some = none-some fault (sym none ∙ some)

abbrev fault_or : SinkFault → Option SinkFault → SinkFault
fault_or other None = other
fault_or other (Some fault) = fault

-- ---- two parts, one after the other

behind_whole : {p q r : Pipe} {a b : List ℕ} → p.refusal ≡ None → q.refusal ≡ None → Wrote p.port q.port a → Printed q r b → Printed p r (a ++ b)
behind_whole p0 q0 w (Whole _ r0 v) = Whole p0 r0 (wrote_wrote w v)
behind_whole p0 q0 w (Cut fault _ r1 l) = Cut fault p0 r1 (wrote_lost w l)
behind_whole p0 q0 w (Shut fault q1 same) = absurd (clash q0 q1)

behind_cut : {p q r : Pipe} {a b : List ℕ} (fault : SinkFault) → p.refusal ≡ None → q.refusal ≡ Some fault → Lost p.port q.port.told q.port.faults a fault → Printed q r b → Printed p r (a ++ b)
behind_cut fault p0 q1 l (Whole q0 _ _) = absurd (clash q0 q1)
behind_cut fault p0 q1 l (Cut _ q0 _ _) = absurd (clash q0 q1)
behind_cut {p} {q} {a = a} {b} fault p0 q1 l (Shut _ _ same) = subst (λ (x : Pipe). Printed p x (a ++ b)) (sym same) (Cut fault p0 q1 (lost_more b l))

behind_shut : {p q r : Pipe} (a : List ℕ) {b : List ℕ} (fault : SinkFault) → p.refusal ≡ Some fault → q ≡ p → Printed q r b → Printed p r (a ++ b)
behind_shut a fault p1 same (Whole q0 _ _) = absurd (clash q0 (ap (λ x. x.refusal) same ∙ p1))
behind_shut a fault p1 same (Cut _ q0 _ _) = absurd (clash q0 (ap (λ x. x.refusal) same ∙ p1))
behind_shut a fault p1 same (Shut _ _ still) = Shut fault p1 (still ∙ same)

pub then : {p q r : Pipe} {a b : List ℕ} → Printed p q a → Printed q r b → Printed p r (a ++ b)
then (Whole p0 q0 w) v = behind_whole p0 q0 w v
then (Cut fault p0 q1 l) v = behind_cut fault p0 q1 l v
then {a = a} (Shut fault p1 same) v = behind_shut a fault p1 same v

-- the text of a construct is these bytes
pub shown : {p q : Pipe} {x y : List ℕ} → x ≡ y → Printed p q y → Printed p q x
shown {p} {q} same w = subst (λ l. Printed p q l) (sym same) w

-- nothing is written
pub nothing : (p : Pipe) → Printed p p []
nothing p = at p.refusal refl
  where
    at : (r : Option SinkFault) → p.refusal ≡ r → Printed p p []
    at None same = Whole same same (wrote_none p.port)
    at (Some fault) same = Shut fault same refl

-- nothing is written where the sink refused before
pub still_shut : (p : Pipe) (bytes : List ℕ) → is_some p.refusal ≡ true → Printed p p bytes
still_shut p bytes some = at p.refusal refl some
  where
    at : (r : Option SinkFault) → p.refusal ≡ r → is_some r ≡ true → Printed p p bytes
    at None same so = absurd (true≢false (sym so))
    at (Some fault) same so = Shut fault same refl

pub none_where : (r : Option SinkFault) → is_some r ≡ false → r ≡ None
none_where None so = refl
none_where (Some fault) so = absurd (true≢false so)

-- ---- a list of parts, of which this rest is left

pub record UpTo (p q : Pipe) (rest all : List ℕ) : Type 0 where
  pub before : List ℕ
  pub written : Printed p q before
  pub is : all ≡ before ++ rest

pub up_none : (p : Pipe) (all : List ℕ) → UpTo p p all all
up_none p all = record { before = []; written = nothing p; is = refl }

pub up_more : {p q r : Pipe} {rest all : List ℕ} (part left : List ℕ) → rest ≡ part ++ left → UpTo p q rest all → Printed q r part → UpTo p r left all
up_more part left first up w = record {
  before = up.before ++ part;
  written = then up.written w;
  is = up.is ∙ ap (λ l. up.before ++ l) first ∙ sym (append_assoc up.before part left);
}

pub up_all : {p q : Pipe} {rest all : List ℕ} → rest ≡ [] → UpTo p q rest all → Printed p q all
up_all none up = shown (up.is ∙ ap (λ l. up.before ++ l) none ∙ append-nil up.before) up.written

-- and then the rest is written
pub up_behind : {p q r : Pipe} {rest all end : List ℕ} → rest ≡ end → UpTo p q rest all → Printed q r end → Printed p r all
up_behind same up w = shown (up.is ∙ ap (λ l. up.before ++ l) same) (then up.written w)

-- the sink refused before, so that the rest makes no difference
pub up_shut : {p q : Pipe} {rest all : List ℕ} → is_some q.refusal ≡ true → UpTo p q rest all → Printed p q all
up_shut {q = q} {rest} some up = shown up.is (then up.written (still_shut q rest some))

-- ---- the end of a text

cut_at : {told told' : Option (List ℕ)} {faults faults' : ℕ} {text : List ℕ} {fault : SinkFault} → Lost (port_of told [] faults) told' faults' text fault → PrintCut text told told' faults faults' fault
cut_at lost = record {
  sent = lost.sent;
  begins = record { rest = lost.lost; is = lost.bytes_are };
  told_is = lost.told_is;
  count = lost.count;
}

module _ {text : List ℕ} {told : Option (List ℕ)} {faults : ℕ} {q : Pipe} where
  -- the sink refused a piece
  pub ends_cut : (fault : SinkFault) → Printed (pipe_of told begun faults) q text → q.refusal ≡ Some fault → PrintCut text told q.port.told faults q.port.faults fault
  ends_cut fault (Whole _ q0 _) q1 = absurd (clash q0 q1)
  ends_cut fault (Cut other _ q1 lost) q2 = cut_at (subst (λ f. Lost (port_of told [] faults) q.port.told q.port.faults text f) (ap (fault_or other) (sym q1 ∙ q2)) lost)
  ends_cut fault (Shut other p1 _) q1 = absurd (none-some other p1)

  -- the pieces were put
  pieces_put : Printed (pipe_of told begun faults) q text → q.refusal ≡ None → Wrote (port_of told [] faults) q.port text
  pieces_put (Whole _ _ w) q0 = w
  pieces_put (Cut other _ q1 _) q0 = absurd (clash q0 q1)
  pieces_put (Shut other p1 _) q0 = absurd (none-some other p1)

  -- and then the rest was put, or the sink refused it
  pub ends_put : (told' : Option (List ℕ)) (none : List ℕ) (faults' : ℕ) (r : Result (Unit {0}) SinkFault) → Printed (pipe_of told begun faults) q text → q.refusal ≡ None → none ≡ []
      → MatchResult r (λ _. Wrote q.port (port_of told' none faults') []) (λ fault. Lost q.port told' faults' [] fault) → MatchResult r (λ _. (told' ≡ more told text) × (faults' ≡ faults)) (λ fault. PrintCut text told told' faults faults' fault)
  ends_put told' none faults' r printed q0 empty rest = MatchResult-weaker r rest all_put last_cut
    where
      pieces : Wrote (port_of told [] faults) q.port text
      pieces = pieces_put printed q0

      all_put : (done : Unit {0}) → Wrote q.port (port_of told' none faults') [] → (told' ≡ more told text) × (faults' ≡ faults)
      all_put done last =
          let all = wrote_wrote pieces last in
          let same : text ≡ all.sent = sym (append-nil text) ∙ all.bytes_are ∙ ap (λ l. all.sent ++ l) empty ∙ append-nil all.sent in
          (all.told_is ∙ ap (λ l. more told l) (sym same), all.faults_is)

      last_cut : (fault : SinkFault) → Lost q.port told' faults' [] fault → PrintCut text told told' faults faults' fault
      last_cut fault last = cut_at (subst (λ l. Lost (port_of told [] faults) told' faults' l fault) (append-nil text) (wrote_lost pieces last))
