-- Members of structs, in steps.
use Rattle.std.proofs.Common.{◌≡◌, ℕ, zero, suc, ◌<◌, ◌≤◌, List, [], ◌∷◌, length, map, get_or, refl, sym, ap, ◌∙◌, subst, arith, Bool, true, false, nat_le, if◌then◌else◌, slice_get, slice_set, Some, None, Result, Ok, Err}
use Rattle.std.specs.Prelude.{OnOk}
use Rattle.c_syntax.specs.Ctypes.{PlainType}
use Rattle.c_syntax.specs.declared.program.Layout.{Layout}
use Rattle.c_syntax.specs.Programs.{StructMember, StructType, plain_layout}
use Rattle.c_syntax.specs.declared.place.Place.{Place}
use Rattle.c_model.specs.Checked.{Fault, Checked, Good, Bad, both_parts, faulty, one_part, where_so}
use Rattle.c_model.specs.ExpressionTyping.{Sight, Sized, HasSize, HasNoSize, NotYet, element_type, levels_of, most_bytes, no_name, no_type, number_at, sized, too_large, typed_type}
use Rattle.c_model.specs.DeclarationTyping.{greater, member_added, typed_member, typed_member_type, with_member, with_struct}
use Rattle.c_scopes.specs.declared.fault.TypeFault.{TypeFault}
use Rattle.c_scopes.specs.declared.fault.TypeFault.TheVariants.{Refused, Memory}
use Rattle.c_scopes.specs.Answers.{Answers, both}
use Rattle.c_expression_rules.specs.Forms.{typed_elements}
use Rattle.c_scopes.proofs.Least.{one_refused}
use Rattle.c_declaration_rules.specs.declared.layout.Grown.{Grown}
use Rattle.c_declaration_rules.specs.Members.{GrowsTo, checked_member, ended, member_typed, new_member, object_member, small_layout, with_grown, with_last_member}
use Rattle.c_declaration_rules.proofs.Layouts.{grown_is}

-- elements whose type is typed have a size
pub elements_sized : (s : Sight) (at : Place) (t u : PlainType) (a r b : Result (Unit {0}) TypeFault) → Answers (λ (w : Unit {0}). u) (typed_elements s at t) a → r ≡ both a b → OnOk r (sized s.structs u ≡ HasSize)
elements_sized s at t u (Ok w) (Err f) b h j = tt
elements_sized s at t u (Err f) (Err g) b h j = tt
elements_sized s at t u (Err f) (Ok v) (Ok w) h j = absurd cc
elements_sized s at t u (Err (Refused f)) (Ok v) (Err (Refused g)) h j = absurd cc
elements_sized s at t u (Err (Refused f)) (Ok v) (Err Memory) h j = absurd cc
elements_sized s at t u (Err Memory) (Ok v) (Err g) h j = absurd cc
elements_sized s at t u (Ok w) (Ok v) b h j = by (typed_type s at t) h
  where
    sized_is : (k : Sized) (v : PlainType) → sized s.structs v ≡ k → elim k [ HasSize ↦ Good v | HasNoSize ↦ faulty (no_type at) | NotYet ↦ faulty (no_name at) ] ≡ Good u → sized s.structs u ≡ HasSize
    sized_is HasSize v e same = let is : v ≡ u = cc in subst (λ z. sized s.structs z ≡ HasSize) is e
    sized_is HasNoSize v e same = absurd cc
    sized_is NotYet v e same = absurd cc

    by : (c : Checked PlainType) → one_part c (element_type s at) ≡ Good u → sized s.structs u ≡ HasSize
    by (Good v) same = sized_is (sized s.structs v) v refl same
    by (Bad f fs) same = absurd cc

-- a demand with another value behind it
where_moved : {A B T : Type 0} (b : Bool) (f : Fault) (x : A) (y : B) (p : T → A) (r : Result T TypeFault) → Answers p (where_so b f (Good x)) r → Answers (λ (w : T). y) (where_so b f (Good y)) r
where_moved true f x y p (Ok w) h = refl
where_moved true f x y p (Err (Refused g)) h = absurd cc
where_moved true f x y p (Err Memory) h = tt
where_moved false f x y p (Ok w) h = absurd cc
where_moved false f x y p (Err (Refused g)) h = h
where_moved false f x y p (Err Memory) h = tt

module _ (s : Sight) (struct : StructType) (m : StructMember) (t : PlainType) (g : Grown) (grows : GrowsTo s struct t g)
  where
    added_is : member_added s struct t m ≡ with_last_member struct (record m { ctype = t }) g
    added_is = grown_is s.structs struct (record m { ctype = t }) g.offset g.align g.size grows

    -- the size with a member, and whether it passes the limit
    pub sized_member : (r : Result Grown TypeFault) → object_member s m.place m.ctype ≡ Good t → Answers (λ (g : Grown). g) (small_layout m.place g) r → Answers (λ (w : Grown). t) (typed_member_type s struct m) r
    sized_member r is h =
        subst (λ c. Answers (λ (w : Grown). t) (one_part c (λ t. where_so (nat_le (member_added s struct t m).size most_bytes) (too_large m.place) (Good t))) r) (sym is)
        (subst (λ n. Answers (λ (w : Grown). t) (where_so (nat_le n most_bytes) (too_large m.place) (Good t)) r) (sym (ap (λ (z : StructType). z.size) added_is))
        (where_moved (nat_le g.size most_bytes) (too_large m.place) g t (λ g. g) r h))

    pub with_member_is : (k : ℕ) (ends : Bool) → with_member s k struct t m ends ≡ with_grown s k struct (record m { ctype = t }) g ends
    with_member_is k ends =
        ap (λ (a : StructType). with_struct s k (if ends then a else record a { size = 0 }) (greater (number_at s.levels k) (suc (levels_of s.levels t)))) added_is

member_in_turn : (s : Sight) (k : ℕ) (struct : StructType) (m : StructMember) (ends : Bool) → typed_member s k struct m ends ≡ one_part (checked_member s struct m) (λ t. Good (with_member s k struct t m ends))
member_in_turn s k struct m ends = by (new_member m.name m.place struct.members) (typed_member_type s struct m)
  where
    by : (c : Checked (Unit {0})) (d : Checked PlainType) → both_parts c d (λ n t. Good (with_member s k struct t m ends)) ≡ one_part (both_parts c d (λ n t. Good t)) (λ t. Good (with_member s k struct t m ends))
    by (Good u) (Good t) = refl
    by (Good u) (Bad g gs) = refl
    by (Bad f fs) (Good t) = refl
    by (Bad f fs) (Bad g gs) = refl

module _ (s : Sight) (k : ℕ) (struct : StructType) (m : StructMember) (ends : Bool) (there : slice_get s.structs k ≡ Some struct)
  where
    member_here : member_typed s k m ends ≡ one_part (checked_member s struct m) (λ t. Good (with_member s k struct t m ends))
    member_here = ap (λ o. elim o [ None ↦ Good s | Some struct ↦ typed_member s k struct m ends ]) there ∙ member_in_turn s k struct m ends

    -- a typed member is added
    pub member_made : (t : PlainType) (g : Grown) (s' : Sight) → checked_member s struct m ≡ Good t → GrowsTo s struct t g → s' ≡ with_grown s k struct (record m { ctype = t }) g ends → member_typed s k m ends ≡ Good s'
    member_made t g s' is grows sight =
        member_here ∙ ap (λ c. one_part c (λ t. Good (with_member s k struct t m ends))) is ∙ ap Good (with_member_is s struct m t g grows k ends ∙ sym sight)

    pub member_refused : {S T : Type 0} (p : S → PlainType) (q : T → Sight) (h : TypeFault) → Answers p (checked_member s struct m) (Err h) → Answers q (member_typed s k m ends) (Err h)
    member_refused p q h x = subst (λ c. Answers q c (Err h)) (sym member_here) (one_refused (λ t. Good (with_member s k struct t m ends)) p q (checked_member s struct m) h x)

pub no_member : (s : Sight) (k : ℕ) (m : StructMember) (ends : Bool) → slice_get s.structs k ≡ None → member_typed s k m ends ≡ Good s
no_member s k m ends none = ap (λ o. elim o [ None ↦ Good s | Some struct ↦ typed_member s k struct m ends ]) none

-- a struct in its place
pub layouts_set : (ls : List Layout) (k : ℕ) (l : Layout) → map plain_layout (slice_set ls k l) ≡ slice_set (map plain_layout ls) k (plain_layout l)
layouts_set [] k l = refl
layouts_set (x ∷ xs) zero l = refl
layouts_set (x ∷ xs) (suc k) l = ap (λ r. plain_layout x ∷ r) (layouts_set xs k l)

pub at_place : (ls : List Layout) (k : ℕ) (l : Layout) → k < length ls → l ≡ get_or ls k l → slice_get (map plain_layout ls) k ≡ Some (plain_layout l)
at_place [] k l lt e = absurd (omega (arith, lt))
at_place (x ∷ xs) zero l lt e = ap (λ z. Some (plain_layout z)) (sym e)
at_place (x ∷ xs) (suc k) l lt e = at_place xs k l (omega (arith, lt)) e

pub seen_member : (s : Sight) (k : ℕ) (struct : StructType) (m : StructMember) (g : Grown) (ends : Bool) (ls : List Layout) (l l' : Layout) (levels : List ℕ) → k < length ls → l ≡ get_or ls k l
    → slice_get (map plain_layout ls) k ≡ Some struct → plain_layout l' ≡ ended ends (with_last_member (plain_layout l) m g)
    → levels ≡ slice_set s.levels k (greater (number_at s.levels k) (suc (levels_of s.levels m.ctype)))
    → record s { structs = map plain_layout (slice_set ls k l'); levels = levels } ≡ with_grown (record s { structs = map plain_layout ls }) k struct m g ends
seen_member s k struct m g ends ls l l' levels lt at there grows e =
    let same : plain_layout l ≡ struct = let h = at_place ls k l lt at in cc in
    ap (λ n. record s { structs = map plain_layout (slice_set ls k l'); levels = n }) e
    ∙ ap (λ z. record s { structs = z; levels = slice_set s.levels k (greater (number_at s.levels k) (suc (levels_of s.levels m.ctype))) })
    (layouts_set ls k l' ∙ ap (slice_set (map plain_layout ls) k) (grows ∙ ap (λ z. ended ends (with_last_member z m g)) same))

pub no_struct : (ls : List Layout) (k : ℕ) → length ls ≤ k → slice_get (map plain_layout ls) k ≡ None
no_struct [] k le = refl
no_struct (x ∷ xs) zero le = absurd (omega (arith, le))
no_struct (x ∷ xs) (suc k) le = no_struct xs k (omega (arith, le))
