-- What is in sight behind a typed item is the same where the structs of the whole file are known.
use Rattle.std.proofs.Common.{◌≡◌, ℕ, ℤ, pos, ◌+ℤ◌, refl, sym, ap, ◌∙◌, subst, List, [], ◌∷◌, Option, Some, None, true}
use Rattle.c_syntax.specs.declared.place.Place.{Place}
use Rattle.c_syntax.specs.declared.types.CInt.TheVariants.{I32}
use Rattle.c_syntax.specs.Expressions.{Expression}
use Rattle.c_syntax.specs.Programs.{StructType, EnumConstant}
use Rattle.c_model.specs.Integers.{fits}
use Rattle.c_model.specs.Checked.{Good, both_parts}
use Rattle.c_model.specs.ExpressionTyping.{AnEnumerator, Sight, decayed, constant, decayed_of, typed}
use Rattle.c_model.specs.DeclarationTyping.{is_declared_in_file, own_name, typed_value, with_enumerator, typed_enumerators}
use Rattle.c_model.specs.UnitTyping.{value_typed, with_enumerators}
use Rattle.c_model.specs.TypedTrees.{WellTyped, WhereAny}
use Rattle.c_model.specs.FileItems.{EnumeratorsTyped}
use Rattle.c_model.specs.TextTypingLaws.{IsWholeSight}
use Rattle.c_model.proofs.TypedParts.{Gives, gives_one, gives_both, gives_given, gives_where}
use Rattle.c_model.proofs.TypedOperators.{Sound, decayed_sound}
use Rattle.c_model.proofs.TypedSoundness.{typed_sound}
use Rattle.c_model.proofs.TypedDeclarations.{anything, after_entity}
use Rattle.c_model.proofs.StableConstants.{Grows, constant_kept}
use Rattle.c_model.proofs.StableTrees.{well_kept}

-- what is in sight, where all structs, their levels and the tags of all enums of the file are known
abbrev pub with_whole : List StructType → List ℕ → List ℕ → Sight → Sight
with_whole new levels tags s = record s { structs = new; levels = levels; enum_tags = tags }

-- an enumerator's value, which an `int` holds, and which it has where more is known, where its constant is typed as well
record IsValueKept (s : Sight) (next : ℤ) (v : ℤ × Option Expression) : Type 0 where
  holds : fits I32 v.0 ≡ true
  kept : (new : List StructType) (levels tags : List ℕ) → Grows s.structs new → value_typed (with_whole new levels tags s) next v.1 ≡ v.0
  typed : (new : List StructType) (levels tags : List ℕ) → Grows s.structs new → WhereAny (WellTyped (with_whole new levels tags s)) v.1

value_well : (s : Sight) → IsWholeSight s → (e : Expression) → Gives (WellTyped s) (decayed_of (typed s e))
value_well s w e = gives_one (Sound s) (WellTyped s) (typed s e) (λ e. Good (decayed e)) (typed_sound s w.known e) (λ e h. (decayed_sound s e h).sound.well)

value_kept : (s : Sight) → IsWholeSight s → (at : Place) (next : ℤ) (e : Option Expression) → Gives (IsValueKept s next) (typed_value s at next e)
value_kept s w at next None = gives_where (IsValueKept s next) (fits I32 next) _ _ (λ f. record { holds = f; kept = λ new levels tags g. refl; typed = λ new levels tags g. tt })
value_kept s w at next (Some e) =
    gives_one (WellTyped s) (IsValueKept s next) (decayed_of (typed s e)) _ (value_well s w e) (λ x v.
    gives_given (IsValueKept s next) (constant s x) _ _ (λ z c.
    gives_where (IsValueKept s next) (fits I32 z) _ _ (λ f. record {
      holds = f;
      kept = λ new levels tags g. ap (λ (o : Option ℤ). elim o [ None ↦ next | Some z ↦ z ]) (constant_kept s new g x z v c);
      typed = λ new levels tags g. well_kept s new levels tags s.enums g x v;
    })))

-- what is in sight behind enumerators, and the values of these
abbrev pub SeesEnumerators : Sight → ℤ → Sight × List EnumConstant → Type 0
SeesEnumerators s next x =
    (new : List StructType) (levels tags : List ℕ) → Grows s.structs new
    → (with_whole new levels tags x.0 ≡ with_enumerators (with_whole new levels tags s) next x.1) × EnumeratorsTyped (with_whole new levels tags s) next x.1

pub enumerators_seen : (s : Sight) → IsWholeSight s → (next : ℤ) (es : List EnumConstant) → Gives (SeesEnumerators s next) (typed_enumerators s next es)
enumerators_seen s w next [] = λ new levels tags g. (refl, tt)
enumerators_seen s w next (e ∷ es) =
    gives_one (IsValueKept s next) (SeesEnumerators s next) (both_parts (own_name s (is_declared_in_file s e.name) e.place e.name) (typed_value s e.place next e.value) (λ n v. Good v)) _
    (gives_both (λ u. Unit {0}) (IsValueKept s next) (IsValueKept s next) (own_name s (is_declared_in_file s e.name) e.place e.name) (typed_value s e.place next e.value) (λ n v. Good v)
    (anything _) (value_kept s w e.place next e.value) (λ n v u h. h))
    (λ v h.
    gives_one (SeesEnumerators (with_enumerator s e.name v.0) (v.0 +ℤ pos 1)) (SeesEnumerators s next) (typed_enumerators (with_enumerator s e.name v.0) (v.0 +ℤ pos 1) es) _
    (enumerators_seen (with_enumerator s e.name v.0) (after_entity s w (AnEnumerator (record { name = e.name; value = v.0 })) h.holds) (v.0 +ℤ pos 1) es)
    (λ x k new levels tags g.
    let here = with_enumerator (with_whole new levels tags s) e.name in
    let kept = sym (h.kept new levels tags g) in (
      (k new levels tags g).0 ∙ ap (λ z. with_enumerators (here z) (z +ℤ pos 1) x.1) kept,
      (
        h.typed new levels tags g,
        subst (λ z. fits I32 z ≡ true) kept h.holds,
        subst (λ z. EnumeratorsTyped (here z) (z +ℤ pos 1) x.1) kept (k new levels tags g).1,
      ),
    )))
