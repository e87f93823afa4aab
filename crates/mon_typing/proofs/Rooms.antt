-- What globals take of their segment.
use Rattle.std.proofs.Common.{◌≡◌, ℕ, zero, suc, ◌+◌, ◌^◌, ◌<◌, ◌≤◌, Bool, true, false, cond, ltb, List}
use Rattle.std.proofs.Common.{[], ◌∷◌, ◌++◌, length, drop, get_or, map, Some, None, Option, unsigned_abs, refl, sym, ap, ◌∙◌, append_assoc, drop-cons, add-one, arith}
use Rattle.std.proofs.Math.Dec.{nltb→le}
use Rattle.std.specs.Prelude.{T, not}
use Rattle.std.proofs.Common.{subst}
use Rattle.std.proofs.lemmas.List.{map-append}
use Rattle.c_model.specs.Limits.{globals_bytes}
use Rattle.c_model.specs.Memory.{rounded}
use Rattle.mon_syntax.specs.declared.tree.MonGlobal.{MonGlobal}
use Rattle.mon_syntax.specs.Trees as tree
use Rattle.mon_syntax.specs.Trees.{MonitoredGlobal}
use Rattle.mon_syntax.specs.Parsed as plain
use Rattle.mon_syntax.specs.Spelled.{first_too_large}
use Rattle.mon_parser.specs.declared.parsed.ParsedGlobal.{ParsedGlobal}
use Rattle.mon_parser.specs.ParsedTrees.{plain_global}
use Rattle.mon_typing.specs.Globals.{named_global}

at_next : (gs : List ParsedGlobal) (i : ℕ) (g : ParsedGlobal) → i < length gs → g ≡ get_or gs i g → drop i gs ≡ g ∷ drop (i + 1) gs
at_next gs i g lt is = rw add-one (drop-cons gs i g lt ∙ ap (λ (x : ParsedGlobal). x ∷ drop (suc i) gs) (sym is))

abbrev too_large : List ParsedGlobal → ℕ → Option plain.NameUse
too_large gs t = first_too_large t (map plain_global gs)

-- ---- globals that have room

-- a global that has room, after those that take so many bytes
record HasRoom (t a : ℕ) (rest : Option plain.NameUse) : Type 0 where
  fits : t + rounded a ≤ globals_bytes
  others : rest ≡ None

room_at : (t a : ℕ) (x : plain.NameUse) (rest : Option plain.NameUse) (b : Bool) → ltb globals_bytes (t + rounded a) ≡ b → cond b (Some x) rest ≡ None → HasRoom t a rest
room_at t a x rest true is e = absurd cc
room_at t a x rest false is e = record { fits = nltb→le globals_bytes (t + rounded a) (subst (λ c. T (not c)) (sym is) tt); others = e }

pub small_at : (gs : List ParsedGlobal) (t i : ℕ) (g : ParsedGlobal) → too_large gs t ≡ None → i < length gs → g ≡ get_or gs i g → unsigned_abs g.size < 2 ^ 32
small_at [] t i g e lt is = absurd (omega (arith, lt))
small_at (h ∷ gs) t zero g e lt is =
    let r = room_at t (unsigned_abs h.size) (plain_global h).name _ (ltb globals_bytes (t + rounded (unsigned_abs h.size))) refl e in
    let same : unsigned_abs g.size ≡ unsigned_abs h.size = ap (λ (x : ParsedGlobal). unsigned_abs x.size) is in
    omega (arith, r.fits, same)
small_at (h ∷ gs) t (suc i) g e lt is =
    let r = room_at t (unsigned_abs h.size) (plain_global h).name _ (ltb globals_bytes (t + rounded (unsigned_abs h.size))) refl e in
    let le : i < length gs = omega arith in
    small_at gs (t + rounded (unsigned_abs h.size)) i g r.others le is

-- what parsed globals take
abbrev pub room_of : List plain.ParsedGlobal → ℕ
room_of [] = 0
room_of (g ∷ gs) = rounded (unsigned_abs g.size) + room_of gs

pub have_room : (gs : List plain.ParsedGlobal) (t : ℕ) → t ≤ globals_bytes → first_too_large t gs ≡ None → t + room_of gs ≤ globals_bytes
have_room [] t le e = omega (arith, le)
have_room (g ∷ gs) t le e =
    let r = room_at t (unsigned_abs g.size) g.name _ (ltb globals_bytes (t + rounded (unsigned_abs g.size))) refl e in
    let go = have_room gs (t + rounded (unsigned_abs g.size)) r.fits r.others in
    omega (arith, go)

-- ---- globals with their names, one after another

pub next_named : (names : List (List ℕ)) (gs : List ParsedGlobal) (i : ℕ) (g : ParsedGlobal) (done more : List MonGlobal) (one : MonGlobal) (total : List MonitoredGlobal) → i < length gs → g ≡ get_or gs i g → more ≡ done ++ one ∷ []
    → tree.plain_global one ≡ named_global names (plain_global g)
    → map tree.plain_global done ++ map (named_global names) (map plain_global (drop i gs)) ≡ total → map tree.plain_global more ++ map (named_global names) (map plain_global (drop (i + 1) gs)) ≡ total
next_named names gs i g done more one total lt is with_it e so_far =
    let rest : List MonitoredGlobal = map (named_global names) (map plain_global (drop (i + 1) gs)) in
    ap (λ (l : List MonGlobal). map tree.plain_global l ++ rest) with_it ∙ ap (λ (l : List MonitoredGlobal). l ++ rest) (map-append tree.plain_global done (one ∷ []))
    ∙ append_assoc (map tree.plain_global done) (tree.plain_global one ∷ []) rest ∙ ap (λ (x : MonitoredGlobal). map tree.plain_global done ++ (x ∷ rest)) e
    ∙ sym (ap (λ (l : List ParsedGlobal). map tree.plain_global done ++ map (named_global names) (map plain_global l)) (at_next gs i g lt is)) ∙ so_far
