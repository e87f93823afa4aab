-- What typing makes of a declared object is declared, and what is in sight after it is as it is to be.
use Rattle.std.proofs.Common.{◌≡◌, ℕ, refl, ap, ◌∙◌, subst, List, [], ◌∷◌, ◌++◌, Option, Some, None, Bool, true, false, not, ◌&&◌, ◌||◌, cond}
use Rattle.c_syntax.specs.declared.place.Place.{Place}
use Rattle.c_syntax.specs.declared.types.CInt.TheVariants.{I32}
use Rattle.c_syntax.specs.Ctypes.{PlainType}
use Rattle.c_syntax.specs.Expressions.{Expression}
use Rattle.c_syntax.specs.Statements.{Initialiser, Declaration}
use Rattle.c_model.specs.Integers.{fits}
use Rattle.c_model.specs.Library.{is_library_name, is_there}
use Rattle.c_model.specs.Checked.{Checked, Good, Bad, one_part, both_parts}
use Rattle.c_model.specs.ExpressionTyping.{Sight, Entity, AnObject, AnEnumerator, name_at, or_else, has_name, entity_named, function_called, type_named, with_object, declared_here}
use Rattle.c_model.specs.ExpressionTyping.{is_within_limits, too_large, known_type}
use Rattle.c_model.specs.DeclarationTyping.{is_declared_in_file, own_name, typed_outer, completed, typed_object_type, typed_maybe_initialiser, is_static, is_anything, typed_variable, typed_global}
use Rattle.c_model.specs.TypedTrees.{HasKnownSize, Initialises, WhereAny, IsDeclared, IsSight}
use Rattle.c_model.specs.PlacedTrees.{IsOffset}
use Rattle.c_model.specs.TextTypingLaws.{IsWholeSight}
use Rattle.c_model.proofs.TypedParts.{Gives, gives_of, gives_one, gives_both, gives_where, gives_sized, and_true}
use Rattle.c_model.proofs.KnownTypes.{outer_is_known}
use Rattle.c_model.proofs.TypedSoundness.{gives_besides, known_size}
use Rattle.c_model.proofs.TypedInitialisers.{sized_is_whole, maybe_initialises}

pub anything : {A : Type 0} (c : Checked A) → Gives (λ u. Unit {0}) c
anything (Good a) = tt
anything (Bad f fs) = tt

pub not_true : (b : Bool) → not b ≡ true → b ≡ false
not_true true e = absurd cc
not_true false e = refl

pub none_there : {A : Type 0} (o : Option A) → is_there o ≡ false → o ≡ None
none_there None e = refl
none_there (Some a) e = absurd cc

pub or_false : (a b : Bool) → (a || b) ≡ false → (a ≡ false) × (b ≡ false)
or_false true b e = absurd cc
or_false false b e = (refl, e)

-- ---- names, after one more

abbrev named_so : ℕ → Entity → Option Entity
named_so x e = cond (has_name x e) (Some e) None

none_before : (x : ℕ) (es : List Entity) (e : Entity) → entity_named x (es ++ e ∷ []) ≡ None → entity_named x es ≡ None
none_before x [] e n = refl
none_before x (f ∷ es) e n = by (none_before x es e) (entity_named x (es ++ e ∷ [])) refl n
  where
    by : (entity_named x (es ++ e ∷ []) ≡ None → entity_named x es ≡ None) → (o : Option Entity) → entity_named x (es ++ e ∷ []) ≡ o → or_else o (named_so x f) ≡ None
        → or_else (entity_named x es) (named_so x f) ≡ None
    by h (Some q) k n = absurd cc
    by h None k n = ap (λ o. or_else o (named_so x f)) (h k) ∙ n

chosen : (P : Entity → Type 0) (e r : Entity) → P e → (b : Bool) → cond b (Some e) None ≡ Some r → P r
chosen P e r p true k = let same : e ≡ r = cc in subst P same p
chosen P e r p false k = absurd cc

-- what holds of each name that was in sight, and of the new one
pub after_one : (P : Entity → Type 0) (x : ℕ) (es : List Entity) (e : Entity) → ((r : Entity) → entity_named x es ≡ Some r → P r) → P e → (r : Entity) → entity_named x (es ++ e ∷ []) ≡ Some r → P r
after_one P x [] e h p r k = chosen P e r p (has_name x e) k
after_one P x (f ∷ es) e h p r k =
    by (after_one P x es e (λ r j. h r (ap (λ o. or_else o (named_so x f)) j)) p) (entity_named x (es ++ e ∷ [])) refl k
  where
    by : ((r : Entity) → entity_named x (es ++ e ∷ []) ≡ Some r → P r) → (o : Option Entity) → entity_named x (es ++ e ∷ []) ≡ o → or_else o (named_so x f) ≡ Some r → P r
    by g (Some q) j k = let same : q ≡ r = cc in subst P same (g q j)
    by g None j k = h r (ap (λ o. or_else o (named_so x f)) (none_before x es e j) ∙ k)

abbrev pub IsKept : Entity → Type 0
IsKept (AnObject b) = IsOffset b.decl
IsKept (AnEnumerator c) = fits I32 c.value ≡ true

all_kept : (s : Sight) → IsSight s → (x : ℕ) (r : Entity) → entity_named x s.entities ≡ Some r → IsKept r
all_kept s i x (AnObject b) e = i.objects x b e
all_kept s i x (AnEnumerator c) e = i.enumerators x c e

pub after_entity : (s : Sight) → IsWholeSight s → (e : Entity) → IsKept e → IsWholeSight (record s { entities = s.entities ++ e ∷ [] })
after_entity s i e k = record {
  known = record {
    objects = λ x b h. after_one IsKept x s.entities e (all_kept s i.known x) k (AnObject b) h;
    enumerators = λ x c h. after_one IsKept x s.entities e (all_kept s i.known x) k (AnEnumerator c) h;
    results = i.known.results;
  };
  members = i.members;
}

pub after_object : (s : Sight) → IsWholeSight s → (d : Declaration) → IsOffset d.place.offset → IsWholeSight (with_object s d)
after_object s i d o = after_entity s i (AnObject (record { name = d.name; decl = d.place.offset; ctype = d.ctype })) o

-- ---- declared objects

pub own_name_is : (s : Sight) (declared : Bool) (at : Place) (x : ℕ) → Gives (λ u. (is_library_name (name_at s.names x) ≡ false) × (declared ≡ false)) (own_name s declared at x)
own_name_is s declared at x =
    gives_where (λ u. (is_library_name (name_at s.names x) ≡ false) × (declared ≡ false)) (not (is_library_name (name_at s.names x)) && not declared) _ _ (λ t.
    let p = and_true (not (is_library_name (name_at s.names x))) (not declared) t in (not_true _ p.0, not_true _ p.1))

object_type_is : (s : Sight) (d : Declaration) → Gives (HasKnownSize s) (typed_object_type s d)
object_type_is s d =
    let known = known_type s d.ctype in
    gives_besides (HasKnownSize s) (is_within_limits s (completed s known d.init)) (too_large d.place) _ (λ w.
    gives_one (λ t. known ≡ t) (HasKnownSize s) (typed_outer (is_there d.init) s d.place d.ctype) _ (outer_is_known (is_there d.init) s d.place d.ctype) (λ t e.
    gives_sized (HasKnownSize s) s d.place (completed s t d.init) (Good (completed s t d.init)) (λ k.
    known_size s (completed s t d.init) k (subst (λ u. is_within_limits s (completed s u d.init) ≡ true) e w))))

-- what is declared, and what is in sight behind it
pub record IsDeclaredThen (s : Sight) (d : Declaration) : Type 0 where
  pub declared : IsDeclared s d
  pub sight : IsWholeSight (with_object s d)

module _ (s : Sight) (i : IsWholeSight s) (d : Declaration) (o : IsOffset d.place.offset)
  where
    -- an object that isn't declared in this sense, with an initialiser of such a form
    declared_as : (declared : Bool) → (declared ≡ false → declared_here s d.name ≡ None) → (is_allowed : PlainType → Expression → Expression → Bool) → Gives (IsDeclaredThen s)
        (one_part (both_parts (own_name s declared d.place d.name) (typed_object_type s d) (λ n t. Good t)) (λ t.
        one_part (typed_maybe_initialiser (with_object s (record d { ctype = t })) (is_allowed t) t d.init) (λ i. Good (record d { ctype = t; init = i }))))
    declared_as declared new is_allowed =
        gives_one (λ t. ((is_library_name (name_at s.names d.name) ≡ false) × (declared ≡ false)) × HasKnownSize s t) (IsDeclaredThen s)
        (both_parts (own_name s declared d.place d.name) (typed_object_type s d) (λ n t. Good t)) _
        (gives_both (λ u. (is_library_name (name_at s.names d.name) ≡ false) × (declared ≡ false)) (HasKnownSize s)
        (λ t. ((is_library_name (name_at s.names d.name) ≡ false) × (declared ≡ false)) × HasKnownSize s t)
        (own_name s declared d.place d.name) (typed_object_type s d) (λ n t. Good t) (own_name_is s declared d.place d.name) (object_type_is s d) (λ n t v w. (v, w)))
        (λ t v.
        gives_one (WhereAny (λ (x : Place × Initialiser). Initialises (with_object s (record d { ctype = t })) t x.1)) (IsDeclaredThen s)
        (typed_maybe_initialiser (with_object s (record d { ctype = t })) (is_allowed t) t d.init) _
        (maybe_initialises (with_object s (record d { ctype = t })) (after_object s i (record d { ctype = t }) o) (is_allowed t) t (sized_is_whole s.structs t v.1.known) d.init)
        (λ j w. record {
          declared = record { own_name = v.0.0; new = new v.0.1; size = v.1; init = w };
          sight = after_object s i (record d { ctype = t; init = j }) o;
        }))

    pub variable_declared : Gives (IsDeclaredThen s) (typed_variable s d)
    variable_declared = declared_as (is_there (declared_here s d.name)) (none_there (declared_here s d.name)) (λ t. is_anything)

    pub global_declared : Gives (IsDeclaredThen s) (typed_global s d)
    global_declared = declared_as (is_declared_in_file s d.name)
        (λ e. let p = or_false (is_there (declared_here s d.name) || is_there (function_called d.name s.functions)) (is_there (type_named d.name s.types)) e in
        let q = or_false (is_there (declared_here s d.name)) (is_there (function_called d.name s.functions)) p.0 in none_there (declared_here s d.name) q.0)
        (λ t. is_static (with_object s (record d { ctype = t })))

-- the law of block declarations
pub variable_is_declared : (s : Sight) (d e : Declaration) → IsWholeSight s → IsOffset d.place.offset → typed_variable s d ≡ Good e → IsDeclared s e
variable_is_declared s d e i o is = (gives_of (IsDeclaredThen s) (typed_variable s d) e (variable_declared s i d o) is).declared

-- and of globals
pub global_is_declared : (s : Sight) (d e : Declaration) → IsWholeSight s → IsOffset d.place.offset → typed_global s d ≡ Good e → IsDeclared s e
global_is_declared s d e i o is = (gives_of (IsDeclaredThen s) (typed_global s d) e (global_declared s i d o) is).declared
