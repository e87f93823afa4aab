-- The layout of a struct with one more member.
use Rattle.std.proofs.Common.{◌≡◌, ℕ, zero, suc, ◌+◌, ◌-◌, ◌≤◌, ◌<◌, List, [], ◌∷◌, ◌++◌, length, map, slice_get, Some, None, refl, sym, ap, ◌∙◌, Bool, true, false, nat_lt, if◌then◌else◌, arith}
use Rattle.std.proofs.lemmas.Bool.Decides.{nat_tests}
use Rattle.c_syntax.specs.Ctypes.{plain_type}
use Rattle.c_syntax.specs.declared.program.Member.{Member}
use Rattle.c_syntax.specs.Programs.{StructMember, StructType, plain_member}
use Rattle.c_syntax.specs.Layouts.{align_of, aligned, size_of}
use Rattle.c_model.specs.DeclarationTyping.{end_of, greater, laid_out, placed_from, widest}
use Rattle.c_declaration_rules.specs.Layouts.{IsLaidBehind}

-- ---- the greater of two

pub greater_by : (a b : ℕ) (t : Bool) → nat_lt a b ≡ t → greater a b ≡ (if t then b else a)
greater_by a b t e = ap (λ t. if t then b else a) e

greater_first : (a b : ℕ) → b ≤ a → greater a b ≡ a
greater_first a b le = by (nat_lt a b) refl
  where
    by : (t : Bool) → nat_lt a b ≡ t → greater a b ≡ a
    by true e = absurd (grind (arith, nat_tests, e))
    by false e = greater_by a b false e

greater_second : (a b : ℕ) → a ≤ b → greater a b ≡ b
greater_second a b le = by (nat_lt a b) refl
  where
    by : (t : Bool) → nat_lt a b ≡ t → greater a b ≡ b
    by true e = greater_by a b true e
    by false e = greater_by a b false e ∙ (let l : b ≤ a = grind (arith, nat_tests, e) in omega (arith, l, le))

pub greater_right : (a b : ℕ) → b ≤ greater a b
greater_right a b = by (nat_lt a b) refl
  where
    by : (t : Bool) → nat_lt a b ≡ t → b ≤ greater a b
    by true e = let g = greater_by a b true e in omega (arith, g)
    by false e = let g = greater_by a b false e in let l : b ≤ a = grind (arith, nat_tests, e) in omega (arith, g, l)

pub greater_assoc : (a b c : ℕ) → greater (greater a b) c ≡ greater a (greater b c)
greater_assoc a b c = by (nat_lt a b) refl (nat_lt b c) refl
  where
    by : (p : Bool) → nat_lt a b ≡ p → (q : Bool) → nat_lt b c ≡ q → greater (greater a b) c ≡ greater a (greater b c)
    by true ep true eq =
        let l : a < b = grind (arith, nat_tests, ep) in let m : b < c = grind (arith, nat_tests, eq) in
        ap (λ x. greater x c) (greater_by a b true ep) ∙ greater_by b c true eq ∙ sym (ap (greater a) (greater_by b c true eq) ∙ greater_second a c (omega (arith, l, m)))
    by true ep false eq = ap (λ x. greater x c) (greater_by a b true ep) ∙ greater_by b c false eq ∙ sym (ap (greater a) (greater_by b c false eq) ∙ greater_by a b true ep)
    by false ep true eq = ap (λ x. greater x c) (greater_by a b false ep) ∙ ap (greater a) (sym (greater_by b c true eq))
    by false ep false eq =
        let l : b ≤ a = grind (arith, nat_tests, ep) in let m : c ≤ b = grind (arith, nat_tests, eq) in
        ap (λ x. greater x c) (greater_by a b false ep) ∙ greater_first a c (omega (arith, l, m)) ∙ sym (ap (greater a) (greater_by b c false eq) ∙ greater_by a b false ep)

-- ---- alignments

module _ (structs : List StructType)
  where
    widest_some : (ms : List StructMember) → 1 ≤ widest structs ms
    widest_some [] = omega arith
    widest_some (m ∷ ms) = let h = widest_some ms in let g = greater_right (align_of structs m.ctype) (widest structs ms) in omega (arith, h, g)

    pub widest_start : (ms : List StructMember) → greater 1 (widest structs ms) ≡ widest structs ms
    widest_start ms = greater_second 1 (widest structs ms) (widest_some ms)

    pub widest_more : (ms : List StructMember) (m : StructMember) → widest structs (ms ++ m ∷ []) ≡ greater (widest structs ms) (align_of structs m.ctype)
    widest_more [] m = greater_comm (align_of structs m.ctype)
      where
        greater_comm : (a : ℕ) → greater a 1 ≡ greater 1 a
        greater_comm a = by (nat_lt 1 a) refl
          where
            by : (t : Bool) → nat_lt 1 a ≡ t → greater a 1 ≡ greater 1 a
            by true e = let l : 1 < a = grind (arith, nat_tests, e) in greater_first a 1 (omega (arith, l)) ∙ sym (greater_by 1 a true e)
            by false e = let l : a ≤ 1 = grind (arith, nat_tests, e) in greater_second a 1 l ∙ sym (greater_by 1 a false e)
    widest_more (x ∷ xs) m =
        ap (greater (align_of structs x.ctype)) (widest_more xs m) ∙ sym (greater_assoc (align_of structs x.ctype) (widest structs xs) (align_of structs m.ctype))

    -- ---- places

    pub end_more : (ms : List StructMember) (m : StructMember) → end_of structs (ms ++ m ∷ []) ≡ m.offset + size_of structs m.ctype
    end_more [] m = refl
    end_more (x ∷ []) m = refl
    end_more (x ∷ y ∷ ys) m = end_more (y ∷ ys) m

    end_at : (ms : List Member) (n : ℕ) (m : Member) → suc n ≡ length ms → slice_get ms n ≡ Some m → m.offset + size_of structs (plain_type m.ctype) ≡ end_of structs (map plain_member ms)
    end_at [] n m e h = absurd (omega (arith, e))
    end_at (x ∷ []) zero m e h = let same : m ≡ x = cc in ap (λ (y : Member). y.offset + size_of structs (plain_type y.ctype)) same
    end_at (x ∷ []) (suc n) m e h = absurd (omega (arith, e))
    end_at (x ∷ y ∷ ys) zero m e h = absurd (omega (arith, e))
    end_at (x ∷ y ∷ ys) (suc n) m e h = end_at (y ∷ ys) n m (omega (arith, e)) h

    -- the last member of a struct
    pub end_last : (ms : List Member) (m : Member) → slice_get ms (length ms - 1) ≡ Some m → m.offset + size_of structs (plain_type m.ctype) ≡ end_of structs (map plain_member ms)
    end_last [] m h = absurd cc
    end_last (x ∷ xs) m h = end_at (x ∷ xs) (length (x ∷ xs) - 1) m (omega arith) h

    none_at : (ms : List Member) (n : ℕ) → slice_get ms n ≡ None → length ms ≤ n
    none_at [] n h = omega arith
    none_at (x ∷ xs) zero h = absurd cc
    none_at (x ∷ xs) (suc n) h = let le = none_at xs n h in omega (arith, le)

    pub end_none : (ms : List Member) → slice_get ms (length ms - 1) ≡ None → 0 ≡ end_of structs (map plain_member ms)
    end_none [] h = refl
    end_none (x ∷ xs) h = let le = none_at (x ∷ xs) (length (x ∷ xs) - 1) h in absurd (omega (arith, le))

    -- where members end that stand behind this offset
    abbrev pub end_from : ℕ → List StructMember → ℕ
    end_from end [] = end
    end_from end (m ∷ ms) = end_of structs (m ∷ ms)

    pub end_step : (m : StructMember) (ms : List StructMember) → end_of structs (m ∷ ms) ≡ end_from (m.offset + size_of structs m.ctype) ms
    end_step m [] = refl
    end_step m (n ∷ ms) = refl

    pub placed_behind : (end : ℕ) (ms : List StructMember) (m : StructMember) → placed_from structs end ms ≡ ms
        → placed_from structs end (ms ++ m ∷ []) ≡ ms ++ record m { offset = aligned (align_of structs m.ctype) (end_from end ms) } ∷ []
    placed_behind end [] m e = refl
    placed_behind end (x ∷ xs) m e =
        let o : aligned (align_of structs x.ctype) end ≡ x.offset = ap first_offset e in
        let t : placed_from structs (aligned (align_of structs x.ctype) end + size_of structs x.ctype) xs ≡ xs = ap rest_of e in
        let next = aligned (align_of structs x.ctype) end + size_of structs x.ctype in
        ap (λ y. y ∷ placed_from structs next (xs ++ m ∷ [])) (ap (λ k. record x { offset = k }) o)
        ∙ ap (λ l. x ∷ l) (placed_behind next xs m t ∙ ap (λ k. xs ++ record m { offset = aligned (align_of structs m.ctype) k } ∷ []) (ap (λ k. end_from (k + size_of structs x.ctype) xs) o ∙ sym (end_step x xs)))
      where
        first_offset : List StructMember → ℕ
        first_offset [] = 0
        first_offset (y ∷ ys) = y.offset

        rest_of : List StructMember → List StructMember
        rest_of [] = []
        rest_of (y ∷ ys) = ys

    pub start_is : (ms : List StructMember) → end_from 0 ms ≡ end_of structs ms
    start_is [] = refl
    start_is (m ∷ ms) = refl

    -- a struct is laid out with a member behind its others
    pub grown_is : (s : StructType) (m : StructMember) (offset align size : ℕ) → IsLaidBehind structs s.members m.ctype offset align size
        → laid_out structs (record s { members = s.members ++ m ∷ [] }) ≡ record s { members = s.members ++ record m { offset = offset } ∷ []; align = align; size = size }
    grown_is s m offset align size g =
        let placed : placed_from structs 0 (s.members ++ m ∷ []) ≡ s.members ++ record m { offset = offset } ∷ [] =
        placed_behind 0 s.members m g.placed ∙ ap (λ k. s.members ++ record m { offset = aligned (align_of structs m.ctype) k } ∷ []) (start_is s.members) ∙ ap (λ k. s.members ++ record m { offset = k } ∷ []) (sym g.offset_is) in
        let widest_is : widest structs (s.members ++ record m { offset = offset } ∷ []) ≡ align = widest_more s.members (record m { offset = offset }) ∙ sym g.align_is in
        ap (λ ms. record s { members = ms; align = widest structs ms; size = aligned (widest structs ms) (end_of structs ms) }) placed
        ∙ ap (λ a. record s { members = s.members ++ record m { offset = offset } ∷ []; align = a; size = aligned a (end_of structs (s.members ++ record m { offset = offset } ∷ [])) }) widest_is
        ∙ ap (λ e. record s { members = s.members ++ record m { offset = offset } ∷ []; align = align; size = aligned align e }) (end_more s.members (record m { offset = offset }))
        ∙ ap (λ z. record s { members = s.members ++ record m { offset = offset } ∷ []; align = align; size = z }) (sym g.size_is)
