-- What was written in several pieces was written in one.
use Rattle.std.proofs.Common.{◌≡◌, ℕ, List, [], ◌∷◌, ◌++◌, Option, refl, sym, ap, ◌∙◌, subst, append_assoc, arith}
use Rattle.std.proofs.lemmas.List.{append-nil, take-append-drop, take_more}
use Rattle.std.specs.Prelude.{suc, ◌+◌, ◌-◌, ◌<◌, take, drop, get_or, set, length, Result, Ok, Err, MatchResult}
use Rattle.ea_ports.specs.Port.{more, Puts, SinkCount}
use Rattle.ea_ports.proofs.Told.{more-nil, more-more}
use Rattle.ea_ports.specs.declared.SinkFault.{SinkFault}
use Rattle.ea_ports.specs.declared.SinkFault.TheVariants.{Failed, Memory}
use Rattle.ea_ports.specs.Buffered.{Port, port_of, Wrote, FaultCount, Lost}

pub wrote_none : (p : Port) → Wrote p p []
wrote_none p = record { sent = []; told_is = sym (more-nil p.told); bytes_are = append-nil p.waiting; faults_is = refl }

join : (w a b s w1 c : List ℕ) → w ++ a ≡ s ++ w1 → w1 ++ b ≡ c → w ++ (a ++ b) ≡ s ++ c
join w a b s w1 c e f = sym (append_assoc w a b) ∙ ap (λ l. l ++ b) e ∙ append_assoc s w1 b ∙ ap (λ l. s ++ l) f

pub wrote_wrote : {p q r : Port} {a b : List ℕ} → Wrote p q a → Wrote q r b → Wrote p r (a ++ b)
wrote_wrote {p} {q} {r} {a} {b} v w = record {
  sent = v.sent ++ w.sent;
  told_is = w.told_is ∙ ap (λ t. more t w.sent) v.told_is ∙ more-more p.told v.sent w.sent;
  bytes_are = join p.waiting a b v.sent q.waiting (w.sent ++ r.waiting) v.bytes_are w.bytes_are ∙ sym (append_assoc v.sent w.sent r.waiting);
  faults_is = w.faults_is ∙ v.faults_is;
}

counted : (a b now : ℕ) (f : SinkFault) → a ≡ b → FaultCount a now f → FaultCount b now f
counted a b now f e h = subst (λ n. FaultCount n now f) e h

pub wrote_lost : {p q : Port} {told : Option (List ℕ)} {faults : ℕ} {fault : SinkFault} {a b : List ℕ} → Wrote p q a → Lost q told faults b fault → Lost p told faults (a ++ b) fault
wrote_lost {p} {q} {faults = faults} {fault = fault} {a} {b} v w = record {
  sent = v.sent ++ w.sent;
  lost = w.lost;
  told_is = w.told_is ∙ ap (λ t. more t w.sent) v.told_is ∙ more-more p.told v.sent w.sent;
  bytes_are = join p.waiting a b v.sent q.waiting (w.sent ++ w.lost) v.bytes_are w.bytes_are ∙ sym (append_assoc v.sent w.sent w.lost);
  count = counted q.faults p.faults faults fault v.faults_is w.count;
}

-- the count of a refusal, by the clause of a sink
refused_count : (before now : ℕ) (fault : SinkFault) → SinkCount {T = Unit {0}} before now (Err fault) → FaultCount before now fault
refused_count before now Failed h = h
refused_count before now Memory h = h

-- the bytes that waited and these were put, or the sink refused
pub put_all : (told told' : Option (List ℕ)) (waiting bytes all : List ℕ) (faults faults' : ℕ) (r : Result (Unit {0}) SinkFault) → all ≡ waiting ++ bytes → Puts told told' all r → SinkCount faults faults' r
    → MatchResult r (λ _. Wrote (port_of told waiting faults) (port_of told' [] faults') bytes) (λ fault. Lost (port_of told waiting faults) told' faults' bytes fault)
put_all told told' waiting bytes all faults faults' (Ok done) same put count = record {
  sent = all;
  told_is = put;
  bytes_are = sym same ∙ sym (append-nil all);
  faults_is = count;
}
put_all told told' waiting bytes all faults faults' (Err fault) same put count = record {
  sent = take put.0 all;
  lost = drop put.0 all;
  told_is = put.1;
  bytes_are = sym same ∙ sym (take-append-drop put.0 all);
  count = refused_count faults faults' fault count;
}

-- a room with its last place set
pub last_set : (room : List ℕ) (n byte : ℕ) → length room ≡ n + 1 → set room n byte ≡ take n room ++ byte ∷ []
last_set [] n byte h = absurd (omega (arith, h))
last_set (x ∷ []) n byte h = let e : n ≡ 0 = omega (arith, h) in rw e refl
last_set (x ∷ y ∷ room) n byte h =
    let e : n ≡ suc (n - 1) = omega (arith, h) in
    let f : length (y ∷ room) ≡ (n - 1) + 1 = omega (arith, h) in
    rw e (ap (λ l. x ∷ l) (last_set (y ∷ room) (n - 1) byte f))

-- bytes after those at which the sink refused are lost too
pub lost_more : {p : Port} {told : Option (List ℕ)} {faults : ℕ} {fault : SinkFault} {a : List ℕ} (b : List ℕ) → Lost p told faults a fault → Lost p told faults (a ++ b) fault
lost_more {p} {a = a} b v = record {
  sent = v.sent;
  lost = v.lost ++ b;
  told_is = v.told_is;
  bytes_are = sym (append_assoc p.waiting a b) ∙ ap (λ l. l ++ b) v.bytes_are ∙ append_assoc v.sent v.lost b;
  count = v.count;
}

-- a list written byte by byte
pub wrote_next : {p q r : Port} (bytes : List ℕ) (i : ℕ) → i < length bytes → Wrote p q (take i bytes) → Wrote q r (get_or bytes i 0 ∷ []) → Wrote p r (take (i + 1) bytes)
wrote_next bytes i within v w = rw (take_more bytes i 0 within) (wrote_wrote v w)

pub lost_next : {p q : Port} {told : Option (List ℕ)} {faults : ℕ} {fault : SinkFault} (bytes : List ℕ) (i : ℕ) → i < length bytes → Wrote p q (take i bytes) → Lost q told faults (get_or bytes i 0 ∷ []) fault → Lost p told faults bytes fault
lost_next {p} {told = told} {faults} {fault} bytes i within v w =
    let front : Lost p told faults (take (i + 1) bytes) fault = rw (take_more bytes i 0 within) (wrote_lost v w) in
    subst (λ l. Lost p told faults l fault) (take-append-drop (i + 1) bytes) (lost_more (drop (i + 1) bytes) front)
