-- What stands around the code within binders and guards, as it is opened and closed one at a time.
use Rattle.std.proofs.Common.{◌≡◌, ℕ, suc, ◌+◌, ℤ, List, [], ◌∷◌, ◌++◌, length, map, Result, Ok, Err, IfOk, OnOk, refl, ap, sym, ◌∙◌, append_assoc, arith}
use Rattle.std.proofs.lemmas.List.{map-append}
use Rattle.std.proofs.lemmas.Result.{IfOk-weaker}
use Rattle.c_syntax.specs.declared.logic.Quantifier.{Quantifier}
use Rattle.c_syntax.specs.Logic.{Binder}
use Rattle.c_model.specs.Quantifiers.{first_of, undecided}
use Rattle.c_model.specs.TermRanges.{raised}
use Rattle.mon_syntax.specs.declared.tree.MonType.{MonType}
use Rattle.mon_syntax.specs.declared.tree.MonType.TheVariants.{I32}
use Rattle.mon_syntax.specs.Trees.{MonExpression, Register, Set, Then, plain_expr, plain_stmts}
use Rattle.annot_simulation.specs.Binders.{greatest_of, index_behind, tried_with}
use Rattle.annot_simulation.specs.Code.{Code, branch, truth_code}
use Rattle.annot_simulation.specs.Held.{Held}
use Rattle.annot_simulation.specs.Opened.{OpenedBinder, close_binder, close_binders, close_guard, close_guards, held_within, open_binder, open_binders, used_within, with_bound}
use Rattle.annot_simulation.proofs.Opened.{binders_last, binders_used, guards_last}
use Rattle.annot_pieces.specs.declared.guard.OpenGuard.{OpenGuard}
use Rattle.annot_pieces.specs.declared.opened.OpenBinder.{OpenBinder}
use Rattle.annot_pieces.specs.declared.piece.Code as declared
use Rattle.annot_pieces.specs.Plain.{code_of, plain_guard_opened, plain_guards_opened, plain_opened}

-- ---- what is opened

-- one is put behind others, and further ones behind it
pub pushed :
    {R E A B : Type 0} (f : A → B) (r : Result R E) (old mid new : List A) (x : A) (X Y : List B) → mid ≡ old ++ x ∷ [] → f x ∷ X ≡ Y → OnOk r (map f new ≡ map f mid ++ X)
    → OnOk r (map f new ≡ map f old ++ Y)
pushed f (Ok a) old mid new x X Y mid_is more h =
    h ∙ ap (λ xs. map f xs ++ X) mid_is ∙ ap (λ xs. xs ++ X) (map-append f old (x ∷ [])) ∙ append_assoc (map f old) (f x ∷ []) X ∙ ap (λ xs. map f old ++ xs) more
pushed f (Err e) old mid new x X Y mid_is more h = tt

module _ (k : MonType) (to : MonExpression) (most : ℤ) (b : Binder) (bs : List Binder) (rs js : List MonType) where
  abbrev taken : List MonType
  taken = with_bound k (greatest_of b.kind most) rs

  module _ (one : OpenBinder) (from : MonExpression) (least : ℤ) (opened : plain_opened one ≡ open_binder k to most from least b rs) where
    index_is : (n : ℕ) → n ≡ one.first + 3 → n ≡ index_behind taken
    index_is n e = let first : one.first ≡ length taken = λ i. (opened i).first in omega (arith, e, first)

    -- a binder, and those within it
    pub next_opened :
        (next : MonExpression) (n : ℕ) (first : ℤ) → js ≡ tried_with k taken → n ≡ one.first + 3 → next ≡ Register n → first ≡ first_of b.kind (raised b.above least)
        → plain_opened one ∷ open_binders k to most next first bs js ≡ open_binders k to most from least (b ∷ bs) rs
    next_opened next n first kinds n_is next_is first_is =
        let index : next ≡ Register (index_behind taken) = next_is ∙ ap Register (index_is n n_is) in
        λ i. opened i ∷ open_binders k to most (index i) (first_is i) bs (kinds i)

    -- the names that are held within them
    pub next_held :
        (held names : List Held) (n : ℕ) → js ≡ tried_with k taken → n ≡ one.first + 3 → names ≡ record { number = b.place.offset; register = n; kind = k } ∷ held
        → held_within k to most bs names js ≡ held_within k to most (b ∷ bs) held rs
    next_held held names n kinds n_is names_are =
        let index = index_is n n_is in
        let all : names ≡ record { number = b.place.offset; register = index_behind taken; kind = k } ∷ held =
        names_are ∙ ap (λ n. record { number = b.place.offset; register = n; kind = k } ∷ held) index in
        λ i. held_within k to most bs (all i) (kinds i)

  -- the registers that are taken within them
  pub next_used : js ≡ tried_with k taken → used_within k to most bs js ≡ used_within k to most (b ∷ bs) rs
  next_used kinds = ap (used_within k to most bs) kinds

-- ---- what is closed

module _ {E : Type 0} (r : Result declared.Code E) (q : Quantifier) where
  -- the last binder before the others
  pub last_binder :
      (k : MonType) (to : MonExpression) (bs front : List OpenBinder) (b : OpenBinder) (c d : declared.Code) → bs ≡ front ++ b ∷ [] → code_of d [] ≡ close_binder q k to (plain_opened b) (code_of c [])
      → IfOk r (λ x. code_of x [] ≡ close_binders q k to (map plain_opened front) (code_of d [])) → IfOk r (λ x. code_of x [] ≡ close_binders q k to (map plain_opened bs) (code_of c []))
  last_binder k to bs front b c d all one rest =
      let many : map plain_opened bs ≡ map plain_opened front ++ plain_opened b ∷ [] = ap (map plain_opened) all ∙ map-append plain_opened front (b ∷ []) in
      IfOk-weaker r (λ x. code_of x [] ≡ close_binders q k to (map plain_opened front) (code_of d [])) (λ x. code_of x [] ≡ close_binders q k to (map plain_opened bs) (code_of c []))
      (λ x h. h ∙ ap (close_binders q k to (map plain_opened front)) one ∙ sym (binders_last q k to (map plain_opened front) (plain_opened b) (code_of c []))
      ∙ sym (ap (λ xs. close_binders q k to xs (code_of c [])) many)) rest

  -- the last chain before the others
  pub last_guard :
      (ks js is : List MonType) (gs front : List OpenGuard) (g : OpenGuard) (c d : declared.Code) → gs ≡ front ++ g ∷ [] → code_of d js ≡ close_guard q (plain_guard_opened g) (code_of c is)
      → IfOk r (λ x. code_of x ks ≡ close_guards q (plain_guards_opened front) (code_of d js)) → IfOk r (λ x. code_of x ks ≡ close_guards q (plain_guards_opened gs) (code_of c is))
  last_guard ks js is gs front g c d all one rest =
      let many : plain_guards_opened gs ≡ plain_guards_opened front ++ plain_guard_opened g ∷ [] = ap plain_guards_opened all ∙ map-append plain_guard_opened front (g ∷ []) in
      IfOk-weaker r (λ x. code_of x ks ≡ close_guards q (plain_guards_opened front) (code_of d js)) (λ x. code_of x ks ≡ close_guards q (plain_guards_opened gs) (code_of c is))
      (λ x h. h ∙ ap (close_guards q (plain_guards_opened front)) one ∙ sym (guards_last q (plain_guards_opened front) (plain_guard_opened g) (code_of c is))
      ∙ sym (ap (λ xs. close_guards q xs (code_of c is)) many)) rest

  -- a chain by the code within its binders
  pub guard_closed :
      (ks js : List MonType) (g : OpenGuard) (c d whole otherwise : declared.Code)
      → code_of d [] ≡ close_binders q g.chain.kind (Register g.chain.last) (map plain_opened g.binders.items) (code_of c [])
      → code_of whole [] ≡ record (code_of d []) { stmts = Then (Set g.chain.last (plain_expr g.bound)) (plain_stmts d.stmts.items) } → code_of otherwise [] ≡ truth_code (undecided q) []
      → IfOk r (λ x. code_of x ks ≡ branch I32 (code_of g.related []) (code_of whole []) (code_of otherwise js)) → IfOk r (λ x. code_of x ks ≡ close_guard q (plain_guard_opened g) (code_of c js))
  guard_closed ks js g c d whole otherwise closed whole_is otherwise_is made =
      let k = g.chain.kind in
      let bs = map plain_opened g.binders.items in
      let inner : code_of d js ≡ close_binders q k (Register g.chain.last) bs (code_of c js) =
      ap (λ (z : Code). record z { used = js }) closed ∙ sym (binders_used q k (Register g.chain.last) bs (code_of c []) js) in
      let bounded : Code → Code = λ (z : Code). branch I32 (code_of g.related []) (record z { stmts = Then (Set g.chain.last (plain_expr g.bound)) z.stmts }) (truth_code (undecided q) z.used) in
      let parts : branch I32 (code_of g.related []) (code_of whole []) (code_of otherwise js) ≡ bounded (code_of d js) =
      λ i. branch I32 (code_of g.related []) (record (whole_is i) { used = js }) (record (otherwise_is i) { used = js }) in
      IfOk-weaker r (λ x. code_of x ks ≡ branch I32 (code_of g.related []) (code_of whole []) (code_of otherwise js)) (λ x. code_of x ks ≡ close_guard q (plain_guard_opened g) (code_of c js))
      (λ x h. h ∙ parts ∙ ap bounded inner) made
