-- A type that is written or declared within the limits has few enough bytes, with the types in it, also among the structs of the whole file.
use Rattle.std.proofs.Common.{◌≡◌, ℕ, nat_eq, ◌^◌, ℤ, pos, negsuc, refl, sym, ap, ◌∙◌, subst, List, [], ◌∷◌, Option, Some, None, Bool, true, false, not, ◌&&◌, cond, nat_le, nat_lt, slice_get}
use Rattle.c_syntax.specs.declared.place.Place.{Place}
use Rattle.c_syntax.specs.Ctypes.{PlainType, Void, Int, Ptr, Array, Struct, Named, StructTag, EnumTag, PlainLength, Left, Written, Count}
use Rattle.c_syntax.specs.Statements.{Initialiser, Declaration}
use Rattle.c_syntax.specs.Programs.{StructType}
use Rattle.c_syntax.specs.Layouts.{size_of, size_of_struct}
use Rattle.c_model.specs.Library.{is_there}
use Rattle.c_model.specs.Checked.{Checked, Good, Bad, faulty, one_part, both_parts}
use Rattle.c_syntax.specs.Expressions.{place_of}
use Rattle.c_model.specs.ExpressionTyping.{is_unknown, no_name, no_type, too_large, Sight, TypeName, type_named, tagged, is_among, is_void, is_scalar, is_struct, Sized, HasSize, HasNoSize, NotYet, sized, most_bytes, most_levels}
use Rattle.c_model.specs.ExpressionTyping.{levels_of, has_small_parts, is_within_limits, limited, constant, counted, element_type, unknown_struct, typed, typed_type, known_type, typed_length}
use Rattle.c_model.specs.DeclarationTyping.{typed_outer, completed, typed_object_type, elements_of_parameter, pointer_where_array, typed_parameter_type, known_parameter_type, scalar_type, typed_result, parameter_name, typed_parameter}
use Rattle.c_model.proofs.TypedParts.{Gives, gives_one, gives_both, gives_given, gives_where, gives_and, gives_sized, and_true}
use Rattle.c_model.proofs.KnownTypes.{type_is_known, outer_is_known, parameter_is_known}
use Rattle.c_model.proofs.TypedSoundness.{gives_besides}
use Rattle.c_model.proofs.TypedDeclarations.{anything}
use Rattle.c_model.proofs.StableConstants.{Grows, size_kept}

-- a type whose arrays have a size, where these structs are known: their lengths are counts
abbrev pub Firm : List StructType → PlainType → Type 0
Firm ss Void = Unit {0}
Firm ss (Int k) = Unit {0}
Firm ss (Ptr t) = Firm ss t
Firm ss (Array t n) = (sized ss (Array t n) ≡ HasSize) × Firm ss t
Firm ss (Struct n) = Unit {0}
Firm ss (Named x) = Unit {0}
Firm ss (StructTag x tag) = Unit {0}
Firm ss (EnumTag x at) = Unit {0}

abbrev pub AreFirm : List StructType → List TypeName → Type 0
AreFirm ss [] = Unit {0}
AreFirm ss (t ∷ ts) = Firm ss t.ctype × AreFirm ss ts

pub firm_later : (old new : List StructType) → Grows old new → (t : PlainType) → Firm old t → Firm new t
firm_later old new g Void f = tt
firm_later old new g (Int k) f = tt
firm_later old new g (Ptr t) f = firm_later old new g t f
firm_later old new g (Array t n) f = ((size_kept old new g (Array t n) f.0).known, firm_later old new g t f.1)
firm_later old new g (Struct n) f = tt
firm_later old new g (Named x) f = tt
firm_later old new g (StructTag x tag) f = tt
firm_later old new g (EnumTag x at) f = tt

pub are_firm_later : (old new : List StructType) → Grows old new → (ts : List TypeName) → AreFirm old ts → AreFirm new ts
are_firm_later old new g [] f = tt
are_firm_later old new g (t ∷ ts) f = (firm_later old new g t.ctype f.0, are_firm_later old new g ts f.1)

named_firm : (ss : List StructType) (x : ℕ) (ts : List TypeName) (t : PlainType) → AreFirm ss ts → type_named x ts ≡ Some t → Firm ss t
named_firm ss x [] t f e = absurd cc
named_firm ss x (u ∷ ts) t f e = by (nat_eq x u.name) (named_firm ss x ts t f.1) e
  where
    by : (b : Bool) → (type_named x ts ≡ Some t → Firm ss t) → cond b (Some u.ctype) (type_named x ts) ≡ Some t → Firm ss t
    by true next e = let same : u.ctype ≡ t = cc in subst (Firm ss) same f.0
    by false next e = next e

-- ---- types as they are written

abbrev IsCount : PlainLength → Type 0
IsCount Left = ⊥
IsCount (Written e) = ⊥
IsCount (Count n) = Unit {0}

counted_sized : (ss : List StructType) (t : PlainType) (n : PlainLength) → IsCount n → sized ss t ≡ HasSize → sized ss (Array t n) ≡ HasSize
counted_sized ss t Left c k = absurd c
counted_sized ss t (Written e) c k = absurd c
counted_sized ss t (Count n) c k = k

counted_is : (at : Place) (o : Option ℤ) → Gives IsCount (counted at o)
counted_is at None = tt
counted_is at (Some (pos n)) = gives_where IsCount (nat_lt 0 n && nat_lt n (2 ^ 31)) (no_type at) (Good (Count n)) (λ e. tt)
counted_is at (Some (negsuc n)) = tt

length_counted : (s : Sight) (at : Place) (n : PlainLength) → Gives IsCount (typed_length s at n)
length_counted s at Left = tt
length_counted s at (Written e) = gives_one (λ x. Unit {0}) IsCount (typed s e) (λ x. counted (place_of e) (constant s x)) (anything (typed s e)) (λ x v. counted_is (place_of e) (constant s x))
length_counted s at (Count n) = tt

-- the elements of an array
abbrev Sizeable : List StructType → PlainType → Type 0
Sizeable ss t = (sized ss t ≡ HasSize) × Firm ss t

sized_firm : (s : Sight) (at : Place) (c : Checked PlainType) → Gives (Firm s.structs) c → Gives (Sizeable s.structs) (one_part c (element_type s at))
sized_firm s at c g = gives_one (Firm s.structs) (Sizeable s.structs) c (element_type s at) g (λ u h. gives_sized (Sizeable s.structs) s at u (Good u) (λ k. (k, h)))

pub typed_firm : (s : Sight) → AreFirm s.structs s.types → (at : Place) (t : PlainType) → Gives (Firm s.structs) (typed_type s at t)
typed_firm s f at Void = tt
typed_firm s f at (Int k) = tt
typed_firm s f at (Ptr t) = gives_one (Firm s.structs) (Firm s.structs) (typed_type s at t) (λ u. Good (Ptr u)) (typed_firm s f at t) (λ u h. h)
typed_firm s f at (Array t n) =
    gives_both (Sizeable s.structs) IsCount (Firm s.structs) (one_part (typed_type s at t) (element_type s at)) (typed_length s at n) (λ u m. Good (Array u m))
    (sized_firm s at (typed_type s at t) (typed_firm s f at t)) (length_counted s at n) (λ u m h v. (counted_sized s.structs u m v h.0, h.1))
typed_firm s f at (Struct n) = tt
typed_firm s f at (Named x) = gives_given (Firm s.structs) (type_named x s.types) (no_name at) Good (λ t e. named_firm s.structs x s.types t f e)
typed_firm s f at (StructTag x tag) = gives_where (Firm s.structs) (not (is_among x s.enum_tags)) (no_name tag) _ (λ e. by (tagged x 0 s.structs))
  where
    by : (o : Option ℕ) → Firm s.structs (elim o [ None ↦ unknown_struct s x | Some n ↦ Struct n ])
    by None = tt
    by (Some n) = tt
typed_firm s f at (EnumTag x tag) = gives_where (Firm s.structs) (is_among x s.enums) (no_name tag) _ (λ e. tt)

gives_so : {A : Type 0} (P R : A → Type 0) (c : Checked A) → Gives P c → ((a : A) → P a → R a) → Gives R c
gives_so P R (Good a) h k = k a h
gives_so P R (Bad f fs) h k = tt

-- a type as it is written is whole
completed_firm : (s : Sight) (t : PlainType) (i : Option (Place × Initialiser)) → Firm s.structs t → Firm s.structs (completed s t i)
completed_firm s (Array t Left) (Some i) h = let none = h.0 in absurd cc
completed_firm s (Array t Left) None h = h
completed_firm s (Array t (Written e)) i h = h
completed_firm s (Array t (Count n)) i h = h
completed_firm s Void i h = h
completed_firm s (Int k) i h = h
completed_firm s (Ptr t) i h = h
completed_firm s (Struct n) i h = h
completed_firm s (Named x) i h = h
completed_firm s (StructTag x tag) i h = h
completed_firm s (EnumTag x tag) i h = h

written_firm : (s : Sight) → AreFirm s.structs s.types → (at : Place) (t : PlainType) (i : Place × Initialiser) → Gives (λ u. Firm s.structs (completed s u (Some i))) (typed_type s at t)
written_firm s f at t i = gives_so (Firm s.structs) (λ u. Firm s.structs (completed s u (Some i))) (typed_type s at t) (typed_firm s f at t) (λ u h. completed_firm s u (Some i) h)

-- and so is one whose length the initialiser gives
outer_firm : (s : Sight) → AreFirm s.structs s.types → (at : Place) (t : PlainType) (o : Option (Place × Initialiser)) → Gives (λ u. Firm s.structs (completed s u o)) (typed_outer (is_there o) s at t)
outer_firm s f at t None = gives_so (Firm s.structs) (λ u. Firm s.structs (completed s u None)) (typed_type s at t) (typed_firm s f at t) (λ u h. completed_firm s u None h)
outer_firm s f at (Array t Left) (Some i) =
    gives_one (Sizeable s.structs) (λ u. Firm s.structs (completed s u (Some i))) (one_part (typed_type s at t) (element_type s at)) (λ u. Good (Array u Left))
    (sized_firm s at (typed_type s at t) (typed_firm s f at t)) (λ u h. h)
outer_firm s f at (Array t (Written e)) (Some i) = written_firm s f at (Array t (Written e)) i
outer_firm s f at (Array t (Count n)) (Some i) = written_firm s f at (Array t (Count n)) i
outer_firm s f at Void (Some i) = written_firm s f at Void i
outer_firm s f at (Int k) (Some i) = written_firm s f at (Int k) i
outer_firm s f at (Ptr t) (Some i) = written_firm s f at (Ptr t) i
outer_firm s f at (Struct n) (Some i) = written_firm s f at (Struct n) i
outer_firm s f at (Named x) (Some i) = written_firm s f at (Named x) i
outer_firm s f at (StructTag x tag) (Some i) = written_firm s f at (StructTag x tag) i
outer_firm s f at (EnumTag x tag) (Some i) = written_firm s f at (EnumTag x tag) i

-- a parameter's type is the type as it is written, but that an array is a pointer
pointer_firm : (ss : List StructType) (t : PlainType) → Firm ss t → Firm ss (pointer_where_array t)
pointer_firm ss (Array t n) f = f.1
pointer_firm ss Void f = tt
pointer_firm ss (Int i) f = tt
pointer_firm ss (Ptr t) f = f
pointer_firm ss (Struct n) f = tt
pointer_firm ss (Named x) f = tt
pointer_firm ss (StructTag x tag) f = tt
pointer_firm ss (EnumTag x at) f = tt

plain_firm : (s : Sight) → AreFirm s.structs s.types → (at : Place) (t : PlainType) → Gives (Firm s.structs) (one_part (typed_type s at t) (λ u. Good (pointer_where_array u)))
plain_firm s f at t = gives_one (Firm s.structs) (Firm s.structs) (typed_type s at t) (λ u. Good (pointer_where_array u)) (typed_firm s f at t) (λ u h. pointer_firm s.structs u h)

elements_firm : (s : Sight) (at : Place) (t : PlainType) → Firm s.structs t → Gives (Firm s.structs) (elements_of_parameter s at t)
elements_firm s at t f = by (sized s.structs t)
  where
    by : (z : Sized) → Gives (Firm s.structs) (elim z [ HasSize ↦ Good (Ptr t) | HasNoSize ↦ faulty (no_type at) | NotYet ↦ Good (Ptr t) ])
    by HasSize = f
    by HasNoSize = tt
    by NotYet = f

pointed_firm : (s : Sight) → AreFirm s.structs s.types → (at : Place) (t : PlainType) → Gives (Firm s.structs) (one_part (typed_type s at t) (elements_of_parameter s at))
pointed_firm s f at t = gives_one (Firm s.structs) (Firm s.structs) (typed_type s at t) (elements_of_parameter s at) (typed_firm s f at t) (λ u h. elements_firm s at u h)

array_firm : (s : Sight) → AreFirm s.structs s.types → (at : Place) (t : PlainType) (n : PlainLength)
    → Gives (Firm s.structs) (both_parts (one_part (typed_type s at t) (elements_of_parameter s at)) (typed_length s at n) (λ u m. Good u))
array_firm s f at t n =
    gives_both (Firm s.structs) (λ n. Unit {0}) (Firm s.structs) (one_part (typed_type s at t) (elements_of_parameter s at)) (typed_length s at n) (λ u m. Good u)
    (pointed_firm s f at t) (anything (typed_length s at n)) (λ u m h v. h)

parameter_firm : (s : Sight) → AreFirm s.structs s.types → (at : Place) (t : PlainType) → Gives (Firm s.structs) (typed_parameter_type s at t)
parameter_firm s f at (Array t Left) = pointed_firm s f at t
parameter_firm s f at (Array t (Written e)) = array_firm s f at t (Written e)
parameter_firm s f at (Array t (Count m)) = array_firm s f at t (Count m)
parameter_firm s f at Void = plain_firm s f at Void
parameter_firm s f at (Int k) = plain_firm s f at (Int k)
parameter_firm s f at (Ptr t) = plain_firm s f at (Ptr t)
parameter_firm s f at (Struct n) = plain_firm s f at (Struct n)
parameter_firm s f at (Named x) = plain_firm s f at (Named x)
parameter_firm s f at (StructTag x tag) = plain_firm s f at (StructTag x tag)
parameter_firm s f at (EnumTag x tag) = plain_firm s f at (EnumTag x tag)

-- ---- small types

-- each of these structs has few enough bytes
abbrev pub AreSmallStructs : List StructType → Type 0
AreSmallStructs ss = (n : ℕ) (x : StructType) → slice_get ss n ≡ Some x → nat_le x.size most_bytes ≡ true

module _ (new : List StructType)
  where
    -- a type that is small among the structs of the whole file
    abbrev pub Small : PlainType → Type 0
    Small t = has_small_parts new t ≡ true

    pub elements_small : (t : PlainType) (n : PlainLength) → Small (Array t n) → Small t
    elements_small t n h = (and_true (nat_le (size_of new (Array t n)) most_bytes) (has_small_parts new t) h).1

    module _ (all : AreSmallStructs new)
      where
        struct_small : (n : ℕ) → nat_le (size_of_struct (slice_get new n)) most_bytes ≡ true
        struct_small n = by (slice_get new n) refl
          where
            by : (o : Option StructType) → slice_get new n ≡ o → nat_le (size_of_struct o) most_bytes ≡ true
            by None e = refl
            by (Some x) e = all n x e

        small_later : (old : List StructType) → Grows old new → (t : PlainType) → Firm old t → has_small_parts old t ≡ true → Small t
        small_later old g Void f h = refl
        small_later old g (Int k) f h = refl
        small_later old g (Ptr t) f h = small_later old g t f h
        small_later old g (Array t n) f h =
            let p = and_true (nat_le (size_of old (Array t n)) most_bytes) (has_small_parts old t) h in
            let size = (size_kept old new g (Array t n) f.0).size in
            ap (λ b. b && has_small_parts new t) (ap (λ z. nat_le z most_bytes) (sym size) ∙ p.0) ∙ small_later old g t f.1 p.1
        small_later old g (Struct n) f h = struct_small n
        small_later old g (Named x) f h = refl
        small_later old g (StructTag x tag) f h = refl
        small_later old g (EnumTag x at) f h = refl

        module _ (s : Sight) (g : Grows s.structs new)
          where
            within_small : (t : PlainType) → Firm s.structs t → is_within_limits s t ≡ true → Small t
            within_small t f w = small_later s.structs g t f (and_true (nat_le (levels_of s.levels t) most_levels) (has_small_parts s.structs t) w).1

            -- what is made of a type within the limits
            pub limited_small : {B : Type 0} (R : B → Type 0) (at : Place) (t : PlainType) (c : Checked PlainType) (k : PlainType → Checked B) → Gives (λ u. t ≡ u) c → Gives (Firm s.structs) c
                → ((u : PlainType) → Small u → Gives R (k u)) → Gives R (limited s at t (one_part c k))
            limited_small R at t c k g f h = gives_besides R (is_within_limits s t) (too_large at) (one_part c k) (λ w.
                gives_one (λ u. (t ≡ u) × Firm s.structs u) R c k (gives_and (λ u. t ≡ u) (Firm s.structs) c g f) (λ u p. h u (within_small u p.1 (subst (λ v. is_within_limits s v ≡ true) p.0 w))))

            -- the same with another part
            pub limited_small_both : {A B : Type 0} (P : A → Type 0) (R : B → Type 0) (at : Place) (t : PlainType) (c : Checked PlainType) (d : Checked A) (k : PlainType → A → Checked B) → Gives (λ u. t ≡ u) c
                → Gives (Firm s.structs) c → Gives P d → ((u : PlainType) (a : A) → Small u → P a → Gives R (k u a)) → Gives R (limited s at t (both_parts c d k))
            limited_small_both P R at t c d k g f p h = gives_besides R (is_within_limits s t) (too_large at) (both_parts c d k) (λ w.
                gives_both (λ u. (t ≡ u) × Firm s.structs u) P R c d k (gives_and (λ u. t ≡ u) (Firm s.structs) c g f) p (λ u a q v. h u a (within_small u q.1 (subst (λ v. is_within_limits s v ≡ true) q.0 w)) v))

            -- ---- types of what is declared

            module _ (types : AreFirm s.structs s.types)
              where
                pub object_small : (d : Declaration) → Gives Small (typed_object_type s d)
                object_small d =
                    let known = known_type s d.ctype in
                    let outer = typed_outer (is_there d.init) s d.place d.ctype in
                    gives_besides Small (is_within_limits s (completed s known d.init)) (too_large d.place) _ (λ w.
                    gives_one (λ t. (known ≡ t) × Firm s.structs (completed s t d.init)) Small outer _
                    (gives_and (λ t. known ≡ t) (λ t. Firm s.structs (completed s t d.init)) outer (outer_is_known (is_there d.init) s d.place d.ctype) (outer_firm s types d.place d.ctype d.init)) (λ t p.
                    gives_sized Small s d.place (completed s t d.init) (Good (completed s t d.init)) (λ k.
                    within_small (completed s t d.init) p.1 (subst (λ u. is_within_limits s (completed s u d.init) ≡ true) p.0 w))))

                scalar_small : (defined : Bool) (at : Place) (t : PlainType) → Small t → Gives Small (scalar_type s defined at t)
                scalar_small defined at t h = gives_where Small (not (defined && is_struct t && is_unknown (sized s.structs t))) _ _ (λ k. gives_where Small (is_scalar t) _ _ (λ e. h))

                pub result_small : (defined : Bool) (at : Place) (t : PlainType) → Gives Small (typed_result s defined at t)
                result_small defined at t = limited_small Small at (known_type s t) (typed_type s at t) _ (type_is_known s at t) (typed_firm s types at t) (λ u h. by u h (is_void u))
                  where
                    by : (u : PlainType) → Small u → (b : Bool) → Gives Small (cond b (Good u) (scalar_type s defined at u))
                    by u h true = h
                    by u h false = scalar_small defined at u h

                pub parameter_small : (defined : Bool) (d : Declaration) → Gives (λ (e : Declaration). Small e.ctype) (typed_parameter s defined d)
                parameter_small defined d = gives_both (λ u. Unit {0}) Small (λ (e : Declaration). Small e.ctype) (parameter_name s d)
                    (limited s d.place (known_parameter_type s d.ctype) (one_part (typed_parameter_type s d.place d.ctype) (scalar_type s defined d.place))) (λ n t. Good (record d { ctype = t }))
                    (anything _) (limited_small Small d.place (known_parameter_type s d.ctype) (typed_parameter_type s d.place d.ctype) (scalar_type s defined d.place)
                    (parameter_is_known s d.place d.ctype) (parameter_firm s types d.place d.ctype)
                    (λ t h. scalar_small defined d.place t h)) (λ n t u h. h)
