-- What stands in registers, as the program writes it.
use Rattle.std.proofs.Common.{◌≡◌, ℕ, Bool, true, false, cond, List, ◌∷◌, nat_eq, Option, Some, None, option_map, refl, sym, ap, ◌∙◌}
use Rattle.c_syntax.specs.declared.logic.Term.{Term}
use Rattle.c_syntax.specs.declared.logic.TermKind.{TermKind}
use Rattle.c_syntax.specs.declared.logic.TermKind as term
use Rattle.c_syntax.specs.declared.annotation.Range.{Range}
use Rattle.c_syntax.specs.declared.place.Place.{Place}
use Rattle.c_syntax.specs.Ctypes.{PlainType, plain_type}
use Rattle.c_syntax.specs.Logic.{plain_term, plain_term_kind}
use Rattle.c_model.specs.PredicateTyping.{place_of_term}
use Rattle.mon_syntax.specs.declared.tree.MonType.{MonType}
use Rattle.c_simulation.specs.Keeping.{Kept}
use Rattle.annot_simulation.specs.Held.{kept_at, kept_code, kept_pointer}
use Rattle.annot_pieces.specs.Plain.{number_in, pointer_in}
use Rattle.annot_pieces.specs.declared.kept.Kept as declared_kept
use Rattle.annot_pieces.specs.Tables.{first_of, plain_kept, register_in, with_register}

-- ---- where a term begins

place_of_kind : (at : Place) (k : TermKind) (t : Option PlainType) (r : Range) → place_of_term (plain_term_kind at k t r) ≡ at
place_of_kind at (term.Number n) t r = refl
place_of_kind at (term.Letter n) t r = refl
place_of_kind at (term.Variable x) t r = refl
place_of_kind at (term.Unary' op pa p a ta ra) t r = refl
place_of_kind at (term.Binary' op pa p a ta ra pb q b tb rb) t r = refl
place_of_kind at (term.Cast' to pa p a ta ra) t r = refl
place_of_kind at (term.Choice' pc o c pa p a ta ra pb q b tb rb) t r = refl
place_of_kind at term.Null t r = refl
place_of_kind at (term.Deref' pa p a ta ra) t r = refl
place_of_kind at (term.Member' d pa p a ta ra) t r = refl
place_of_kind at (term.Address' pa p a ta ra) t r = refl
place_of_kind at (term.Moved' op n pa p a ta ra pb q b tb rb) t r = refl
place_of_kind at (term.Difference' n pa p a ta ra pb q b tb rb) t r = refl
place_of_kind at (term.Told' f pa p a ta ra) t r = refl
place_of_kind at (term.Named x) t r = refl
place_of_kind at (term.At' l pa p a ta ra) t r = refl

pub place_is : (a : Term) → place_of_term (plain_term a) ≡ a.place
place_is a = place_of_kind a.place a.kind.value (option_map plain_type a.ctype) a.range

-- ---- terms that are kept

pub kept_is : (o : Option Kept) (rs : List MonType) → kept_code o rs ≡ number_in (register_in o) rs
kept_is None rs = refl
kept_is (Some k) rs = refl

pub kept_pointer_is : (o : Option Kept) (rs : List MonType) → kept_pointer o rs ≡ pointer_in (register_in o) rs
kept_pointer_is None rs = refl
kept_pointer_is (Some k) rs = refl

-- ---- the table of a plan

-- one more term, and then the others
register_more : (o : Option ℕ) (t : Bool) (k : Kept) (found : Option Kept) → first_of (first_of o (cond t (Some k.register) None)) (register_in found) ≡ first_of o (register_in (cond t (Some k) found))
register_more None true k found = refl
register_more None false k found = refl
register_more (Some r) t k found = refl

pub noted :
    (x : ℕ) (found new : ℕ → Option ℕ) (k : declared_kept.Kept) (rest : List Kept) → new x ≡ with_register found k.term.now.place.offset k.register x
    → first_of (new x) (register_in (kept_at x rest)) ≡ first_of (found x) (register_in (kept_at x (plain_kept k ∷ rest)))
noted x found new k rest is =
    ap (λ o. first_of o (register_in (kept_at x rest))) is ∙ register_more (found x) (nat_eq k.term.now.place.offset x) (plain_kept k) (kept_at x rest)
    ∙ ap (λ (p : Place). first_of (found x) (register_in (cond (nat_eq p.offset x) (Some (plain_kept k)) (kept_at x rest)))) (sym (place_is k.term.now))
