-- A text that its grammar refuses is refused at one token, and reading it gives that fault.
use Rattle.std.proofs.Common.{◌≡◌, ℕ, suc, ◌<◌, List, [], ◌∷◌, ◌++◌, length, refl, sym, ap, subst, ◌∙◌, arith, append_assoc, length-append}
use Rattle.grammar.specs.Syntax.{Syntax, ParseFault, At, Over}
use Rattle.grammar.specs.Exact.{StopsAt, RefusedAt, RefusedOver, Refused, FrontsBegin, OneLimit}
use Rattle.grammar.proofs.Bounds.{split_same}

-- what the longer of two fronts of a text has beyond the shorter
record GoesOn {T : Type 0} (a b c : List T) : Type 0 where
  token : T
  rest : List T
  more : List T
  next : b ≡ token ∷ rest
  is : c ≡ a ++ (token ∷ more)

goes_on : {T : Type 0} (a b c d : List T) → a ++ b ≡ c ++ d → length a < length c → GoesOn a b c
goes_on [] b [] d e lt = absurd (omega (arith, lt))
goes_on [] b (t ∷ c) d e lt = record { token = t; rest = c ++ d; more = c; next = e; is = refl }
goes_on (x ∷ a) b [] d e lt = absurd (omega (arith, lt))
goes_on (x ∷ a) b (y ∷ c) d e lt =
    let same : a ++ b ≡ c ++ d = cc in
    let head : x ≡ y = cc in
    let g = goes_on a b c d same (omega (arith, lt)) in
    record { token = g.token; rest = g.rest; more = g.more; next = g.next; is = λ i. sym head i ∷ g.is i }

module _ {T A : Type 0} (G : Syntax T A) (fronts : FrontsBegin G) (text : List T) where
  -- no run that begins the production is longer than one that stops
  not_shorter : (a b c d : List T) → StopsAt G text a b → StopsAt G text c d → length a < length c → ⊥
  not_shorter a b c d s t lt =
      let g = goes_on a b c d (sym s.parts ∙ t.parts) lt in
      s.ended g.token g.rest g.next (fronts (a ++ (g.token ∷ [])) g.more (subst G.begun (g.is ∙ sym (append_assoc a (g.token ∷ []) g.more)) t.begun))

  same_left : (a b c d : List T) → StopsAt G text a b → StopsAt G text c d → length b ≡ length d
  same_left a b c d s t =
      let le = not_shorter a b c d s t in
      let ge = not_shorter c d a b t s in
      omega (arith, le, ge, ap length s.parts, ap length t.parts, length-append a b, length-append c d)

  one_at : (n m : ℕ) → RefusedAt G text n → RefusedAt G text m → n ≡ m
  one_at n m r s = r.place ∙ same_left r.front r.rest s.front s.rest r.longest s.longest ∙ sym s.place

  one_place : (i j n m : ℕ) → RefusedOver G text i n → RefusedOver G text j m → n ≡ m
  one_place i j n m r s =
      let le = r.first j s.front s.token s.rest s.parts s.late in
      let ge = s.first i r.front r.token r.rest r.parts r.late in
      omega (arith, le, ge, r.place, s.place, ap length r.parts, ap length s.parts, length-append r.front (r.token ∷ r.rest), length-append s.front (s.token ∷ s.rest))

  at_or_over : (i n m : ℕ) → RefusedAt G text n → RefusedOver G text i m → ⊥
  at_or_over i n m r s = r.within i s.front s.token s.rest s.parts s.late

  module _ (single : OneLimit G) where
    one_label : (i j n m : ℕ) → RefusedOver G text i n → RefusedOver G text j m → i ≡ j
    one_label i j n m r s =
        let left : suc (length r.rest) ≡ suc (length s.rest) = sym r.place ∙ one_place i j n m r s ∙ s.place in
        let p = split_same r.front s.front (r.token ∷ r.rest) (s.token ∷ s.rest) (sym r.parts ∙ s.parts) left in
        let front : r.front ≡ s.front = p.0 in
        let all : r.token ∷ r.rest ≡ s.token ∷ s.rest = p.1 in
        let token : r.token ≡ s.token = cc in
        single i j s.front s.token (subst (λ (t : T). G.late i s.front t) token (subst (λ (a : List T). G.late i a r.token) front r.late)) s.late

    pub one_fault : (f g : ParseFault) → Refused G text f → Refused G text g → f ≡ g
    one_fault (At n) (At m) r s = ap At (one_at n m r s)
    one_fault (At n) (Over j m) r s = absurd (at_or_over j n m r s)
    one_fault (Over i n) (At m) r s = absurd (at_or_over i m n s r)
    one_fault (Over i n) (Over j m) r s = ap (λ (l : ℕ). Over l n) (one_label i j n m r s) ∙ ap (Over j) (one_place i j n m r s)
