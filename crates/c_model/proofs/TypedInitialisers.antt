-- What typing makes of an initialiser initialises an object of its type.
use Rattle.std.proofs.Common.{◌≡◌, ℕ, zero, suc, ◌+◌, refl, sym, ap, ◌∙◌, subst, List, [], ◌∷◌, length, map, Option, Some, None, Bool, true, false, ◌&&◌, if◌then◌else◌, nat_le, slice_get}
use Rattle.c_syntax.specs.declared.place.Place.{Place}
use Rattle.c_syntax.specs.Ctypes.{PlainType, Int, Ptr, Array, Struct, Count}
use Rattle.c_syntax.specs.Expressions.{Expression, Node, Text, place_of, type_of}
use Rattle.c_syntax.specs.Statements.{Initialiser, One, Many, Initialisers, NoInitialiser, Listed}
use Rattle.c_syntax.specs.Programs.{StructMember, StructType}
use Rattle.c_syntax.specs.Layouts.{size_of, elements, member_parts, members_of_struct}
use Rattle.c_model.specs.Meaning.{parts_or_itself, string_in}
use Rattle.c_model.specs.Checked.{Good, one_part, both_parts, where_so}
use Rattle.c_model.specs.ExpressionTyping.{no_type, Sight, HasSize, sized, is_scalar, is_character, decayed, in_type, tables_in, is_assigned, typed}
use Rattle.c_model.specs.DeclarationTyping.{place_of_initialiser, Slots, Each, Members, next_slot, member_types, slots_of, bytes_of_text, takes_text, is_text_array, no_more, too_many, initial_value, typed_alone}
use Rattle.c_model.specs.DeclarationTyping.{typed_initialiser, typed_text, typed_items, typed_maybe_initialiser}
use Rattle.c_model.specs.TypedTrees.{IsText, WellTyped, FillsArray, ByText, ByValue, Initialises, PartsInitialised, WhereAny}
use Rattle.c_model.specs.TextTypingLaws.{is_whole, AreWhole, IsWholeSight}
use Rattle.c_model.proofs.TypedParts.{Gives, gives_one, gives_both, gives_where, and_true, scalar_is, gives_too_many}
use Rattle.c_model.proofs.TypedOperators.{Sound, decayed_sound, in_type_well, in_type_type}
use Rattle.c_model.proofs.TypedExpressions.{assigned_casts}
use Rattle.c_model.proofs.TypedSoundness.{typed_sound}

-- ---- types of objects

pub sized_is_whole : (structs : List StructType) (t : PlainType) → sized structs t ≡ HasSize → is_whole t ≡ true
sized_is_whole structs (Int k) e = refl
sized_is_whole structs (Ptr t) e = refl
sized_is_whole structs (Array t (Count n)) e = sized_is_whole structs t e
sized_is_whole structs (Struct n) e = refl
sized_is_whole structs _ e = absurd cc

-- ---- the objects that a list initialises are the parts of its object

abbrev Fits : Slots → List (ℕ × PlainType) → Type 0
Fits slots [] = next_slot slots ≡ None
Fits slots (c ∷ cs) = (rest : Slots) × (next_slot slots ≡ Some (c.1, rest)) × (is_whole c.1 ≡ true) × Fits rest cs

each_fits : (offset size n : ℕ) (t : PlainType) → is_whole t ≡ true → Fits (Each t n) (elements offset size n t)
each_fits offset size zero t w = refl
each_fits offset size (suc n) t w = (Each t n, refl, w, each_fits (offset + size) size n t w)

members_fit : (ms : List StructMember) → AreWhole ms → Fits (Members (map (λ (m : StructMember). m.ctype) ms)) (member_parts ms)
members_fit [] w = refl
members_fit (m ∷ ms) w = (Members (map (λ (m : StructMember). m.ctype) ms), refl, w.0, members_fit ms w.1)

slots_fit : (s : Sight) → IsWholeSight s → (t : PlainType) → is_whole t ≡ true → is_scalar t ≡ false → Fits (slots_of s t) (parts_or_itself (tables_in s) t)
slots_fit s i (Array t (Count n)) w f = each_fits 0 (size_of s.structs t) n t w
slots_fit s i (Struct n) w f = by (slice_get s.structs n) refl
  where
    by : (o : Option StructType) → slice_get s.structs n ≡ o → Fits (Members (member_types o)) (member_parts (members_of_struct o))
    by None e = refl
    by (Some x) e = members_fit x.members (i.members n x e)
slots_fit s i _ w f = absurd cc

scalar_parts : (s : Sight) (t : PlainType) → is_scalar t ≡ true → parts_or_itself (tables_in s) t ≡ (0, t) ∷ []
scalar_parts s (Int k) e = refl
scalar_parts s (Ptr t) e = refl
scalar_parts s _ e = absurd cc

-- ---- strings

string_is : (e : Expression) (k : ℕ) → string_in e ≡ Some k → e ≡ Node (place_of e) (type_of e) (Text k)
string_is (Node at t (Text n)) k e = let same : n ≡ k = cc in ap (λ n. Node at t (Text n)) same
string_is _ k e = absurd cc

text_typed : (s : Sight) (e : Expression) (k : ℕ) → WellTyped s e → string_in e ≡ Some k → IsText s k (type_of e)
text_typed s (Node at t (Text n)) k w e = let same : n ≡ k = cc in subst (λ n. IsText s n t) same w
text_typed s _ k w e = absurd cc

-- a value of a scalar type is no string literal
no_string : (s : Sight) (e : Expression) → WellTyped s e → is_scalar (type_of e) ≡ true → string_in e ≡ None
no_string s (Node at t (Text n)) w c = let f : false ≡ true = ap is_scalar (sym w.ctype) ∙ c in absurd cc
no_string s _ w c = refl

text_fills : (s : Sight) (t : PlainType) (e : Expression) (k : ℕ) → WellTyped s e → string_in e ≡ Some k → is_whole t ≡ true → takes_text s t (Some k) ≡ true → FillsArray s t e
text_fills s (Array t (Count n)) e k w i h c =
    let p = and_true (is_character t) (nat_le (bytes_of_text s k) n) c in
    let x = text_typed s e k w i in record {
      place = place_of e;
      ctype = type_of e;
      text = k;
      is = string_is e k i;
      typed = x;
      element = t;
      count = n;
      array = refl;
      characters = p.0;
      room = ap (λ o. nat_le (elim o [ None ↦ 0 | Some l ↦ length l.bytes ]) n) (sym x.found) ∙ p.1;
    }
text_fills s _ e k w i h c = absurd cc

takes_none : (s : Sight) (t : PlainType) → takes_text s t None ≡ true → ⊥
takes_none s (Array t n) c = absurd cc
takes_none s _ c = absurd cc

-- ---- initialisers

module _ (s : Sight) (i : IsWholeSight s) (is_allowed : Expression → Expression → Bool)
  where
    value_initialises : (here : Place) (t : PlainType) (read e : Expression) → is_whole t ≡ true → Sound s e → Gives (Initialises s t) (initial_value s is_allowed here t read e)
    value_initialises here t read e h v = by (takes_text s t (string_in e)) refl
      where
        fills : (o : Option ℕ) → string_in e ≡ o → takes_text s t o ≡ true → FillsArray s t e
        fills None q c = absurd (takes_none s t c)
        fills (Some k) q c = text_fills s t e k v.well q h c

        by : (b : Bool) → takes_text s t (string_in e) ≡ b → Gives (Initialises s t) (
            if b then Good (One e)
            else where_so (is_scalar t && is_assigned s (decayed e) t && is_allowed read (in_type t (decayed e))) (no_type here) (Good (One (in_type t (decayed e)))))
        by true c = ByText (fills (string_in e) refl c)
        by false c = gives_where (Initialises s t) (is_scalar t && is_assigned s (decayed e) t && is_allowed read (in_type t (decayed e))) _ _ (λ g.
            let p = and_true (is_scalar t && is_assigned s (decayed e) t) (is_allowed read (in_type t (decayed e))) g in
            let q = and_true (is_scalar t) (is_assigned s (decayed e) t) p.0 in
            let w = (decayed_sound s e v).sound.well in
            let well = in_type_well s t (decayed e) w (assigned_casts s i.known t (decayed e) w q.1) in
            ByValue (record { typed = well; ctype = in_type_type t (decayed e); scalar = scalar_is t q.0 })
            (no_string s (in_type t (decayed e)) well (ap is_scalar (in_type_type t (decayed e)) ∙ q.0)))

    expression_initialises : (here : Place) (t : PlainType) → is_whole t ≡ true → (e : Expression) → Gives (Initialises s t) (one_part (typed s e) (initial_value s is_allowed here t e))
    expression_initialises here t h e = gives_one (Sound s) (Initialises s t) (typed s e) (initial_value s is_allowed here t e) (typed_sound s i.known e) (λ x v. value_initialises here t e x h v)

    none_more : (is : Initialisers) → Gives (PartsInitialised s []) (no_more s is)
    none_more NoInitialiser = tt
    none_more (Listed i is) = gives_too_many (PartsInitialised s []) s i

    alone_initialises : (t : PlainType) → is_whole t ≡ true → (is : Initialisers) → Gives (PartsInitialised s ((0, t) ∷ [])) (typed_alone s is_allowed t is)
    alone_initialises t h NoInitialiser = tt
    alone_initialises t h (Listed (One e) is) =
        gives_both (Initialises s t) (PartsInitialised s []) (PartsInitialised s ((0, t) ∷ [])) (one_part (typed s e) (initial_value s is_allowed (place_of e) t e)) (no_more s is)
        (λ i is. Good (Listed i is)) (expression_initialises (place_of e) t h e) (none_more is) (λ i is v w. (v, w))
    alone_initialises t h (Listed (Many at is) more) = tt

    mutual
      pub initialiser_initialises : (here : Place) (t : PlainType) → is_whole t ≡ true → (i : Initialiser) → Gives (Initialises s t) (typed_initialiser s is_allowed here t i)
      initialiser_initialises here t h (One e) = expression_initialises here t h e
      initialiser_initialises here t h (Many at is) = by (text_initialises t h is) (λ f. items_initialise (slots_of s t) (parts_or_itself (tables_in s) t) f is) (is_scalar t) refl (is_text_array t is)
        where
          by : Gives (Initialises s t) (typed_text s is_allowed t is)
              → (Fits (slots_of s t) (parts_or_itself (tables_in s) t) → Gives (PartsInitialised s (parts_or_itself (tables_in s) t)) (typed_items s is_allowed (slots_of s t) is))
              → (b : Bool) → is_scalar t ≡ b → (c : Bool) → Gives (Initialises s t) (
              if b then one_part (typed_alone s is_allowed t is) (λ is. Good (Many at is))
              else (if c then typed_text s is_allowed t is else one_part (typed_items s is_allowed (slots_of s t) is) (λ is. Good (Many at is))))
          by text items true e c = gives_one (PartsInitialised s ((0, t) ∷ [])) (Initialises s t) (typed_alone s is_allowed t is) (λ is. Good (Many at is)) (alone_initialises t h is)
              (λ is v. subst (λ cs. PartsInitialised s cs is) (sym (scalar_parts s t e)) v)
          by text items false e true = text
          by text items false e false = gives_one (PartsInitialised s (parts_or_itself (tables_in s) t)) (Initialises s t) (typed_items s is_allowed (slots_of s t) is) (λ is. Good (Many at is))
              (items (slots_fit s i t h e)) (λ is v. v)

      text_initialises : (t : PlainType) → is_whole t ≡ true → (is : Initialisers) → Gives (Initialises s t) (typed_text s is_allowed t is)
      text_initialises t h NoInitialiser = tt
      text_initialises t h (Listed i is) = initialiser_initialises (place_of_initialiser i) t h i

      items_initialise : (slots : Slots) (cs : List (ℕ × PlainType)) → Fits slots cs → (is : Initialisers) → Gives (PartsInitialised s cs) (typed_items s is_allowed slots is)
      items_initialise slots [] f NoInitialiser = tt
      items_initialise slots (c ∷ cs) f NoInitialiser = tt
      items_initialise slots [] f (Listed i is) = subst (λ o. Gives (PartsInitialised s []) (elim o [
        | None ↦ too_many s i
        | Some p ↦ both_parts (typed_initialiser s is_allowed (place_of_initialiser i) p.0 i) (typed_items s is_allowed p.1 is) (λ i is. Good (Listed i is))
      ])) (sym f) (gives_too_many (PartsInitialised s []) s i)
      items_initialise slots (c ∷ cs) f (Listed i is) = subst (λ o. Gives (PartsInitialised s (c ∷ cs)) (elim o [
        | None ↦ too_many s i
        | Some p ↦ both_parts (typed_initialiser s is_allowed (place_of_initialiser i) p.0 i) (typed_items s is_allowed p.1 is) (λ i is. Good (Listed i is))
      ])) (sym f.1)
          (gives_both (Initialises s c.1) (PartsInitialised s cs) (PartsInitialised s (c ∷ cs)) (typed_initialiser s is_allowed (place_of_initialiser i) c.1 i) (typed_items s is_allowed f.0 is)
          (λ i is. Good (Listed i is)) (initialiser_initialises (place_of_initialiser i) c.1 f.2 i) (items_initialise f.0 cs f.3 is) (λ i is v w. (v, w)))

    pub maybe_initialises : (t : PlainType) → is_whole t ≡ true → (o : Option (Place × Initialiser))
        → Gives (WhereAny (λ (i : Place × Initialiser). Initialises s t i.1)) (typed_maybe_initialiser s is_allowed t o)
    maybe_initialises t h None = tt
    maybe_initialises t h (Some i) = gives_one (Initialises s t) (WhereAny (λ (i : Place × Initialiser). Initialises s t i.1)) (typed_initialiser s is_allowed i.0 t i.1)
        (λ j. Good (Some (i.0, j))) (initialiser_initialises i.0 t h i.1) (λ j v. v)
