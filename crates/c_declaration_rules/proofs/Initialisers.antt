-- Initialisers that are lists.
use Rattle.std.proofs.Common.{◌≡◌, ℕ, suc, ◌<◌, List, [], ◌∷◌, length, drop, get_or, slice_set, arith, refl, sym, ap, ◌∙◌, subst, Bool, true, false, ◌&&◌, if◌then◌else◌, Some, None, option_map, Result, ◌≤◌}
use Rattle.std.specs.Prelude.{Vec}
use Rattle.std.specs.declared.alloc.Global.{Global}
use Rattle.c_syntax.specs.declared.place.Place.{Place}
use Rattle.c_syntax.specs.declared.statement.Init.{Init}
use Rattle.c_syntax.specs.declared.statement.Init as init
use Rattle.c_syntax.specs.Ctypes.{PlainType, Void, Int, Ptr, Array, Struct, Named, StructTag, EnumTag}
use Rattle.c_syntax.specs.Expressions.{Expression, place_of}
use Rattle.c_syntax.specs.Statements.{Initialiser, One, Many, Initialisers, NoInitialiser, Listed, plain_init, plain_inits}
use Rattle.c_syntax.proofs.Rows.{many_is}
use Rattle.c_model.specs.Checked.{Checked, Good, one_part}
use Rattle.c_model.specs.ExpressionTyping.{Sight, is_character, is_scalar, typed}
use Rattle.c_model.specs.DeclarationTyping.{initial_value, is_text_array, next_slot, no_more, slots_of, too_many, typed_alone, typed_initialiser, typed_items, typed_text}
use Rattle.c_scopes.specs.declared.fault.TypeFault.{TypeFault}
use Rattle.c_scopes.specs.Answers.{Answers}
use Rattle.c_declaration_rules.specs.Initialisers.{is_text_alone, slot, without_braces}
use Rattle.c_declaration_rules.proofs.Parts.{one_made}
use Rattle.c_declaration_rules.proofs.Lists.{text_array_is}
use Rattle.c_declaration_rules.proofs.Items.{slot_is, slots_at}

and_first : (a b : Bool) → (a && b) ≡ true → a ≡ true
and_first true b e = refl
and_first false b e = absurd cc

-- the next of the objects that items initialise
pub slot_none : (s : Sight) (t : PlainType) (k : ℕ) → None ≡ slot s t k → next_slot (slots_at s t k) ≡ None
slot_none s t k e = slot_is s t k ∙ ap (option_map (λ u. (u, slots_at s t (suc k)))) (sym e)

pub slot_some : (s : Sight) (t u : PlainType) (k : ℕ) → Some u ≡ slot s t k → next_slot (slots_at s t k) ≡ Some (u, slots_at s t (suc k))
slot_some s t u k e = slot_is s t k ∙ ap (option_map (λ u. (u, slots_at s t (suc k)))) (sym e)

-- a string that is alone
alone : (is : Initialisers) → is_text_alone is ≡ true → (e : Expression) × (is ≡ Listed (One e) NoInitialiser)
alone NoInitialiser h = absurd cc
alone (Listed (One e) NoInitialiser) h = (e, refl)
alone (Listed (One e) (Listed j js)) h = absurd cc
alone (Listed (Many p js) NoInitialiser) h = absurd cc
alone (Listed (Many p js) (Listed k ks)) h = absurd cc

text_is_alone : (t : PlainType) (is : Initialisers) → is_text_array t is ≡ true → is_text_alone is ≡ true
text_is_alone Void is h = absurd cc
text_is_alone (Int k) is h = absurd cc
text_is_alone (Ptr t) is h = absurd cc
text_is_alone (Array t n) is h = and_first (is_text_alone is) (is_character t) (sym (text_array_is t n is) ∙ h)
text_is_alone (Struct n) is h = absurd cc
text_is_alone (Named x) is h = absurd cc
text_is_alone (StructTag x tag) is h = absurd cc
text_is_alone (EnumTag x at) is h = absurd cc

module _ (s : Sight) (ok : Expression → Expression → Bool) (here at : Place) (t : PlainType)
  where
    abbrev whole : Initialisers → Checked Initialiser
    whole is = typed_initialiser s ok here t (Many at is)

    abbrev by : Bool → Bool → Initialisers → Checked Initialiser
    by p q is =
        if p then one_part (typed_alone s ok t is) (λ is. Good (Many at is))
        else (if q then typed_text s ok t is else one_part (typed_items s ok (slots_of s t) is) (λ is. Good (Many at is)))

    module _ (v w : Vec Init Global) (r : Result (Unit {0}) TypeFault)
      where
        abbrev answered : Type 0
        answered = Answers (λ (u : Unit {0}). plain_init (init.Many at w)) (typed_initialiser s ok here t (plain_init (init.Many at v))) r

        of_lists : Answers (λ (u : Unit {0}). Many at (plain_inits w.items)) (whole (plain_inits v.items)) r → Answers (λ (u : Unit {0}). plain_init (init.Many at w)) (typed_initialiser s ok here t (plain_init (init.Many at v))) r
        of_lists h =
            subst (λ x. Answers (λ (u : Unit {0}). x) (typed_initialiser s ok here t (plain_init (init.Many at v))) r) (sym (many_is at w))
            (subst (λ x. Answers (λ (u : Unit {0}). Many at (plain_inits w.items)) (typed_initialiser s ok here t x) r) (sym (many_is at v)) h)

        -- a scalar's
        pub scalar_list : is_scalar t ≡ true → Answers (λ (u : Unit {0}). plain_inits w.items) (typed_alone s ok t (plain_inits v.items)) r
            → Answers (λ (u : Unit {0}). plain_init (init.Many at w)) (typed_initialiser s ok here t (plain_init (init.Many at v))) r
        scalar_list p h =
            of_lists (subst (λ b. Answers (λ (u : Unit {0}). Many at (plain_inits w.items)) (by b (is_text_array t (plain_inits v.items)) (plain_inits v.items)) r) (sym p)
            (one_made (Many at) (λ (u : Unit {0}). plain_inits w.items) (typed_alone s ok t (plain_inits v.items)) r h))

        -- part by part
        pub part_list : is_scalar t ≡ false → is_text_array t (plain_inits v.items) ≡ false → Answers (λ (u : Unit {0}). plain_inits w.items) (typed_items s ok (slots_of s t) (plain_inits v.items)) r
            → Answers (λ (u : Unit {0}). plain_init (init.Many at w)) (typed_initialiser s ok here t (plain_init (init.Many at v))) r
        part_list p q h =
            of_lists (subst (λ b. Answers (λ (u : Unit {0}). Many at (plain_inits w.items)) (by b (is_text_array t (plain_inits v.items)) (plain_inits v.items)) r) (sym p)
            (subst (λ b. Answers (λ (u : Unit {0}). Many at (plain_inits w.items)) (by false b (plain_inits v.items)) r) (sym q)
            (one_made (Many at) (λ (u : Unit {0}). plain_inits w.items) (typed_items s ok (slots_of s t) (plain_inits v.items)) r h)))

    -- a string in braces
    pub text_list : (v : Vec Init Global) (x : Initialiser) (y : Init) (r : Result (Unit {0}) TypeFault) → is_scalar t ≡ false → is_text_array t (plain_inits v.items) ≡ true → plain_init y ≡ without_braces (plain_init (init.Many at v))
        → ((e : Expression) → plain_init y ≡ One e → Answers (λ (u : Unit {0}). x) (one_part (typed s e) (initial_value s ok (place_of e) t e)) r)
        → Answers (λ (u : Unit {0}). x) (typed_initialiser s ok here t (plain_init (init.Many at v))) r
    text_list v x y r p q bare h =
        let a = alone (plain_inits v.items) (text_is_alone t (plain_inits v.items) q) in
        subst (λ i. Answers (λ (u : Unit {0}). x) (typed_initialiser s ok here t i) r) (sym (many_is at v))
        (subst (λ b. Answers (λ (u : Unit {0}). x) (by b (is_text_array t (plain_inits v.items)) (plain_inits v.items)) r) (sym p)
        (subst (λ b. Answers (λ (u : Unit {0}). x) (by false b (plain_inits v.items)) r) (sym q)
        (subst (λ is. Answers (λ (u : Unit {0}). x) (typed_text s ok t is) r) (sym a.1)
        (h a.0 (bare ∙ ap without_braces (many_is at v) ∙ ap (λ is. without_braces (Many at is)) a.1)))))

-- the first item in its place, where those after it may be others by now
pub alone_in_place : (s : Sight) (ok : Expression → Expression → Bool) (t : PlainType) (old cur : List Init) (x y : Init) (r : Result (Unit {0}) TypeFault) → 0 < length old → length cur ≡ length old
    → ((z : Init) → get_or cur 0 z ≡ get_or old 0 z) → x ≡ get_or cur 0 x
    → Answers (λ (u : Unit {0}). Listed (plain_init y) (plain_inits (drop 1 cur))) (typed_alone s ok t (Listed (plain_init x) (plain_inits (drop 1 old)))) r
    → Answers (λ (u : Unit {0}). plain_inits (slice_set cur 0 y)) (typed_alone s ok t (plain_inits old)) r
alone_in_place s ok t [] cur x y r lt len same at h = absurd (omega (arith, lt))
alone_in_place s ok t (z ∷ zs) [] x y r lt len same at h = absurd (omega (arith, len))
alone_in_place s ok t (z ∷ zs) (w ∷ ws) x y r lt len same at h =
    subst (λ w. Answers (λ (u : Unit {0}). Listed (plain_init y) (plain_inits ws)) (typed_alone s ok t (Listed (plain_init w) (plain_inits zs))) r) (at ∙ same x) h

-- ---- items for which there is no object

pub some_behind : (s : Sight) (old : List Init) (x : Init) (is : Initialisers) (r : Result (Unit {0}) TypeFault) → 2 ≤ length old → x ≡ get_or old 1 x
    → Answers (λ (u : Unit {0}). is) (too_many s (plain_init x)) r → Answers (λ (u : Unit {0}). is) (no_more s (plain_inits (drop 1 old))) r
some_behind s [] x is r le at h = absurd (omega (arith, le))
some_behind s (y ∷ []) x is r le at h = absurd (omega (arith, le))
some_behind s (y ∷ z ∷ zs) x is r le at h = subst (λ w. Answers (λ (u : Unit {0}). is) (too_many s (plain_init w)) r) at h
