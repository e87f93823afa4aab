-- The typing of declarations (C99 6.7): the layout of structs, the types of objects, parameters and results, initialisers, of which those
-- of globals are constant, and enumerators.
use Rattle.std.specs.Prelude.{ℕ, zero, suc, ◌+◌, ℤ, pos, ◌+ℤ◌, List, [], ◌∷◌, ◌++◌, length, map, Option, Some, None, Bool, true, false, not, ◌&&◌, ◌||◌}
use Rattle.std.specs.Prelude.{cond, if◌then◌else◌, nat_le, nat_lt, slice_get, slice_set}
use Rattle.c_syntax.specs.declared.place.Place.{Place}
use Rattle.c_syntax.specs.declared.types.CInt.TheVariants.{I32}
use Rattle.c_syntax.specs.declared.types.BlockKind.TheVariants as block
use Rattle.c_syntax.specs.declared.expression.UnOp.TheVariants as unary
use Rattle.c_syntax.specs.declared.expression.BinOp.TheVariants as operator
use Rattle.c_syntax.specs.Ctypes.{PlainType, Ptr, Array, Struct, Left, Count}
use Rattle.c_syntax.specs.Expressions.{Expression, Node, Text, Variable, Unary, Binary, Cast, Index, Dot, Arrow, place_of, type_of}
use Rattle.c_syntax.specs.Statements.{Initialiser, One, Many, Initialisers, NoInitialiser, Listed, Declaration}
use Rattle.c_syntax.specs.Programs.{StructMember, StructType, EnumConstant}
use Rattle.c_syntax.specs.Layouts.{count_of, size_of, align_of, aligned, member_among}
use Rattle.c_model.specs.Integers.{fits}
use Rattle.c_model.specs.Memory.{Value, Block, block_of}
use Rattle.c_model.specs.State.{Scope, State, Outcome, Normal, Stop}
use Rattle.c_model.specs.Meaning.{eval_with, zeros, string_in, is_array, is_pointer, is_of_library}
use Rattle.c_model.specs.Library.{is_library_name, is_there}
use Rattle.c_model.specs.Checked.{Checked, Good, faulty, one_part, both_parts, given, where_so}
use Rattle.c_model.specs.ExpressionTyping.{no_name, no_type, too_large, Entity, AnObject, AnEnumerator, Sight, name_at, function_called}
use Rattle.c_model.specs.ExpressionTyping.{type_named, literal_at, with_object, declared_here, is_void, is_scalar, is_struct, is_character, HasSize}
use Rattle.c_model.specs.ExpressionTyping.{HasNoSize, NotYet, is_unknown, sized, where_sized, most_bytes, number_at, levels_of, limited, decayed}
use Rattle.c_model.specs.ExpressionTyping.{in_type, no_callee, nowhere, tables_in, constant, is_assigned, element_type, decayed_of, typed, typed_type}
use Rattle.c_model.specs.ExpressionTyping.{typed_length, known_type}

-- ---- the layout of structs (C99 6.7.2.1 p13): each member stands at the next multiple of its alignment, and so does the end

abbrev pub greater : ℕ → ℕ → ℕ
greater a b = if nat_lt a b then b else a

abbrev pub placed_from : List StructType → ℕ → List StructMember → List StructMember
placed_from structs end [] = []
placed_from structs end (m ∷ ms) =
    let offset = aligned (align_of structs m.ctype) end in record m { offset = offset } ∷ placed_from structs (offset + size_of structs m.ctype) ms

abbrev pub end_of : List StructType → List StructMember → ℕ
end_of structs [] = 0
end_of structs (m ∷ []) = m.offset + size_of structs m.ctype
end_of structs (m ∷ n ∷ ms) = end_of structs (n ∷ ms)

abbrev pub widest : List StructType → List StructMember → ℕ
widest structs [] = 1
widest structs (m ∷ ms) = greater (align_of structs m.ctype) (widest structs ms)

abbrev pub laid_out : List StructType → StructType → StructType
laid_out structs s =
    let ms = placed_from structs 0 s.members in record s { members = ms; align = widest structs ms; size = aligned (widest structs ms) (end_of structs ms) }

-- ---- names

-- whether file scope declares a name: as an object or an enumerator, as a function, or as a type (C99 6.2.3)
abbrev pub is_declared_in_file : Sight → ℕ → Bool
is_declared_in_file s x = is_there (declared_here s x) || is_there (function_called x s.functions) || is_there (type_named x s.types)

-- a name that may be declared: none of the library's, and none that the scope has (C99 6.7 p3, 7.1.3)
abbrev pub own_name : Sight → Bool → Place → ℕ → Checked (Unit {0})
own_name s declared at x = where_so (not (is_library_name (name_at s.names x)) && not declared) (no_name at) (Good tt)

-- ---- the types of what is declared

-- the type of an object as it is written; the first length of an array may be left out, where so much is said
abbrev pub typed_outer : Bool → Sight → Place → PlainType → Checked PlainType
typed_outer true s at (Array t Left) = one_part (one_part (typed_type s at t) (element_type s at)) (λ u. Good (Array u Left))
typed_outer may_leave s at t = typed_type s at t

-- the bytes of a string literal, where an initialiser that is read is one, in braces or without
abbrev pub text_read : Sight → Initialiser → Option (List ℕ)
text_read s (One (Node at t (Text offset))) = elim (literal_at offset 0 s.texts) [ None ↦ None | Some l ↦ Some l.1 ]
text_read s (Many at (Listed (One (Node p t (Text offset))) NoInitialiser)) = elim (literal_at offset 0 s.texts) [ None ↦ None | Some l ↦ Some l.1 ]
text_read s i = None

abbrev pub count_items : Initialisers → ℕ
count_items NoInitialiser = 0
count_items (Listed i is) = suc (count_items is)

-- as many elements as an initialiser has; one expression is no fitting initialiser, and is a fault at its `=`
abbrev pub items_in : Initialiser → ℕ
items_in (One e) = 1
items_in (Many at is) = count_items is

-- the length that the initialiser of an array gives (C99 6.7.8 p14, p22)
abbrev pub length_by : Sight → PlainType → Initialiser → ℕ
length_by s t i = elim (text_read s i) [ None ↦ items_in i | Some bytes ↦ cond (is_character t) (length bytes + 1) (items_in i) ]

-- the type of an object with its initialiser
abbrev pub completed : Sight → PlainType → Option (Place × Initialiser) → PlainType
completed s (Array t Left) (Some i) = Array t (Count (length_by s t i.1))
completed s t i = t

-- an object is of a type whose size is known (C99 6.7 p7)
abbrev pub object_type : Sight → Place → PlainType → Checked PlainType
object_type s at t = where_sized s at t (Good t)

-- the type of a declared object, whose length its initialiser may give
abbrev pub typed_object_type : Sight → Declaration → Checked PlainType
typed_object_type s d =
    limited s d.place (completed s (known_type s d.ctype) d.init)
    (one_part (typed_outer (is_there d.init) s d.place d.ctype) (λ t. object_type s d.place (completed s t d.init)))

-- a type that only the first array's brackets make no pointer (C99 6.7.5.3 p7); elements of a struct that isn't known yet are pointed to
abbrev pub elements_of_parameter : Sight → Place → PlainType → Checked PlainType
elements_of_parameter s at t = elim (sized s.structs t) [ HasSize ↦ Good (Ptr t) | HasNoSize ↦ faulty (no_type at) | NotYet ↦ Good (Ptr t) ]

-- a name of an array type stands for a pointer too
abbrev pub pointer_where_array : PlainType → PlainType
pointer_where_array (Array t n) = Ptr t
pointer_where_array t = t

abbrev pub typed_parameter_type : Sight → Place → PlainType → Checked PlainType
typed_parameter_type s at (Array t Left) = one_part (typed_type s at t) (elements_of_parameter s at)
typed_parameter_type s at (Array t n) = both_parts (one_part (typed_type s at t) (elements_of_parameter s at)) (typed_length s at n) (λ u m. Good u)
typed_parameter_type s at t = one_part (typed_type s at t) (λ u. Good (pointer_where_array u))

-- the same as far as it is known
abbrev pub known_parameter_type : Sight → PlainType → PlainType
known_parameter_type s t = pointer_where_array (known_type s t)

-- a parameter or a result is a scalar (this profile); a definition needs the size of a struct (C99 6.7.5.3 p4, 6.9.1 p3)
abbrev pub scalar_type : Sight → Bool → Place → PlainType → Checked PlainType
scalar_type s defined at t =
    where_so (not (defined && is_struct t && is_unknown (sized s.structs t))) (no_name at) (where_so (is_scalar t) (no_type at) (Good t))

-- what a function gives: void or a scalar; the type counts as that of its name
abbrev pub typed_result : Sight → Bool → Place → PlainType → Checked PlainType
typed_result s defined at t =
    limited s at (known_type s t) (one_part (typed_type s at t) (λ u. cond (is_void u) (Good u) (scalar_type s defined at u)))

-- ---- initialisers (C99 6.7.8)

abbrev pub place_of_initialiser : Initialiser → Place
place_of_initialiser (One e) = place_of e
place_of_initialiser (Many at is) = at

-- the objects that the items of a list initialise, one after another: so many of a type, or members of these types
pub data Slots : Type 0 where
  Each : PlainType → ℕ → Slots
  Members : List PlainType → Slots

abbrev pub next_slot : Slots → Option (PlainType × Slots)
next_slot (Each t zero) = None
next_slot (Each t (suc n)) = Some (t, Each t n)
next_slot (Members []) = None
next_slot (Members (t ∷ ts)) = Some (t, Members ts)

abbrev pub member_types : Option StructType → List PlainType
member_types None = []
member_types (Some s) = map (λ (m : StructMember). m.ctype) s.members

abbrev pub slots_of : Sight → PlainType → Slots
slots_of s (Array t n) = Each t (count_of n)
slots_of s (Struct n) = Members (member_types (slice_get s.structs n))
slots_of s t = Each t 1

abbrev pub bytes_of_text : Sight → ℕ → ℕ
bytes_of_text s k = elim (slice_get s.texts k) [ None ↦ 0 | Some l ↦ length l.bytes ]

-- an array of characters takes a string, whose last 0 may be left out (C99 6.7.8 p14)
abbrev pub takes_text : Sight → PlainType → Option ℕ → Bool
takes_text s (Array t n) (Some k) = is_character t && nat_le (bytes_of_text s k) (count_of n)
takes_text s _ _ = false

abbrev pub is_text_array : PlainType → Initialisers → Bool
is_text_array (Array t n) (Listed (One (Node at u (Text k))) NoInitialiser) = is_character t
is_text_array t is = false

-- an item for which there is no object (C99 6.7.8 p2): a fault of its expression is that of a smaller part
abbrev pub too_many : {A : Type 0} → Sight → Initialiser → Checked A
too_many s (One e) = one_part (typed s e) (λ x. faulty (no_type (place_of e)))
too_many s (Many at is) = faulty (no_type at)

-- no item, after the one of a scalar
abbrev pub no_more : Sight → Initialisers → Checked Initialisers
no_more s NoInitialiser = Good NoInitialiser
no_more s (Listed i is) = too_many s i

-- initialisers, of which those that are expressions, as they are read and as they are typed, are to be of a form
module _ (s : Sight) (is_allowed : Expression → Expression → Bool) where
  -- one expression for an object of the type; its fault is put here: at the `=`, and in braces at the item
  abbrev pub initial_value : Place → PlainType → Expression → Expression → Checked Initialiser
  initial_value here t read e =
      if takes_text s t (string_in e) then Good (One e)
      else where_so (is_scalar t && is_assigned s (decayed e) t && is_allowed read (in_type t (decayed e))) (no_type here) (Good (One (in_type t (decayed e))))

  -- the one item in braces around a scalar, which has no braces of its own (C99 6.7.8 p11)
  abbrev pub typed_alone : PlainType → Initialisers → Checked Initialisers
  typed_alone t NoInitialiser = Good NoInitialiser
  typed_alone t (Listed (One e) is) =
      both_parts (one_part (typed s e) (initial_value (place_of e) t e)) (no_more s is) (λ i is. Good (Listed i is))
  typed_alone t (Listed (Many at is) more) = faulty (no_type at)

  -- a list in braces is for an array or a struct, part by part; braces around a string are taken off
  abbrev mutual
    pub typed_initialiser : Place → PlainType → Initialiser → Checked Initialiser
    typed_initialiser here t (One e) = one_part (typed s e) (initial_value here t e)
    typed_initialiser here t (Many at is) =
        if is_scalar t then one_part (typed_alone t is) (λ is. Good (Many at is))
        else (if is_text_array t is then typed_text t is else one_part (typed_items (slots_of s t) is) (λ is. Good (Many at is)))

    pub typed_text : PlainType → Initialisers → Checked Initialiser
    typed_text t NoInitialiser = Good (Many (record { line = 0; column = 0; offset = 0 }) NoInitialiser)
    typed_text t (Listed i is) = typed_initialiser (place_of_initialiser i) t i

    -- items, each with its object; the first too many is a fault
    pub typed_items : Slots → Initialisers → Checked Initialisers
    typed_items slots NoInitialiser = Good NoInitialiser
    typed_items slots (Listed i is) = elim (next_slot slots) [
      | None ↦ too_many s i
      | Some p ↦ both_parts (typed_initialiser (place_of_initialiser i) p.0 i) (typed_items p.1 is) (λ i is. Good (Listed i is))
    ]

  abbrev pub typed_maybe_initialiser : PlainType → Option (Place × Initialiser) → Checked (Option (Place × Initialiser))
  typed_maybe_initialiser t None = Good None
  typed_maybe_initialiser t (Some i) = one_part (typed_initialiser i.0 t i.1) (λ j. Good (Some (i.0, j)))

-- ---- the initialisers of globals are constant (C99 6.6 p7, 6.7.8 p4)

-- the address of a global plus a constant, or null, without a value that is read (C99 6.6 p9); and a place of which it is the address
abbrev mutual
  pub is_static_address : (Expression → Bool) → Expression → Bool
  is_static_address is_number (Node at t (Variable x)) = is_of_library x
  is_static_address is_number (Node at t (Unary unary.Address a)) = is_static_place is_number a
  is_static_address is_number (Node at t (Binary operator.Add a b)) =
      is_static_address is_number a && is_number b || is_number a && is_static_address is_number b
  is_static_address is_number (Node at t (Binary operator.Sub a b)) = is_static_address is_number a && is_number b
  is_static_address is_number (Node at t (Cast to a)) =
      is_pointer to && (if is_array (type_of a) then is_static_place is_number a else is_static_address is_number a || is_number a)
  is_static_address is_number _ = false

  pub is_static_place : (Expression → Bool) → Expression → Bool
  is_static_place is_number (Node at t (Variable x)) = not (is_of_library x)
  is_static_place is_number (Node at t (Unary unary.Deref a)) = is_static_address is_number a
  is_static_place is_number (Node at t (Index a b)) =
      is_static_address is_number a && is_number b || is_number a && is_static_address is_number b
  is_static_place is_number (Node at t (Dot a m)) = is_static_place is_number a
  is_static_place is_number (Node at t (Arrow a m)) = is_static_address is_number a
  is_static_place is_number _ = false

abbrev pub blocks_of : List StructType → List Entity → List Block
blocks_of structs [] = []
blocks_of structs (AnObject b ∷ es) = block_of block.Global (zeros (size_of structs b.ctype)) ∷ blocks_of structs es
blocks_of structs (AnEnumerator c ∷ es) = blocks_of structs es

abbrev pub numbers_from : ℕ → List Entity → Scope
numbers_from k [] = []
numbers_from k (AnObject b ∷ es) = (b.decl, k) ∷ numbers_from (suc k) es
numbers_from k (AnEnumerator c ∷ es) = numbers_from k es

-- the globals that are declared so far, in their blocks
abbrev pub with_globals : Sight → State
with_globals s = record nowhere { store = blocks_of s.structs s.entities; scope = numbers_from 1 s.entities }

abbrev pub has_value : Outcome Value → Bool
has_value (Normal v s) = true
has_value (Stop e s) = false

abbrev pub is_text : Expression → Bool
is_text (Node at t (Text offset)) = true
is_text e = false

abbrev pub is_address : Sight → Expression → Bool
is_address s e =
    is_pointer (type_of e) && is_static_address (λ i. is_there (constant s i)) e && has_value (eval_with (tables_in s) e no_callee (with_globals s))

-- an initialiser of a global, as it is read and as it is typed: an integer constant expression, a string, null or an address
abbrev pub is_static : Sight → Expression → Expression → Bool
is_static s read e = is_text read || is_there (constant s e) || is_address s e

abbrev pub is_anything : Expression → Expression → Bool
is_anything read e = true

-- ---- declared objects

-- a declaration whose own name is in sight in its initialiser (C99 6.2.1 p7), there with the length that the initialiser gives
abbrev pub typed_variable : Sight → Declaration → Checked Declaration
typed_variable s d =
    one_part (both_parts (own_name s (is_there (declared_here s d.name)) d.place d.name) (typed_object_type s d) (λ n t. Good t)) (λ t.
    one_part (typed_maybe_initialiser (with_object s (record d { ctype = t })) is_anything t d.init) (λ i.
    Good (record d { ctype = t; init = i })))

-- a global, which is a block of its whole size in its own initialiser
abbrev pub typed_global : Sight → Declaration → Checked Declaration
typed_global s d =
    one_part (both_parts (own_name s (is_declared_in_file s d.name) d.place d.name) (typed_object_type s d) (λ n t. Good t)) (λ t.
    one_part (typed_maybe_initialiser (with_object s (record d { ctype = t })) (is_static (with_object s (record d { ctype = t }))) t d.init) (λ i.
    Good (record d { ctype = t; init = i })))

-- a name of a type, whose size need not be known (C99 6.7.7); and the type of a declaration without declarators, which names nothing
abbrev pub typed_typedef : Sight → Declaration → Checked Declaration
typed_typedef s d =
    cond d.named
    (both_parts (own_name s (is_declared_in_file s d.name) d.place d.name)
    (limited s d.place (known_type s d.ctype) (typed_type s d.place d.ctype)) (λ n t. Good (record d { ctype = t })))
    (one_part (typed_type s d.place d.ctype) (λ t. Good (record d { ctype = t })))

-- a parameter (C99 6.7.5.3): its name, where it has one, is new
abbrev pub parameter_name : Sight → Declaration → Checked (Unit {0})
parameter_name s d = cond d.named (own_name s (is_there (declared_here s d.name)) d.place d.name) (Good tt)

abbrev pub typed_parameter : Sight → Bool → Declaration → Checked Declaration
typed_parameter s defined d =
    both_parts (parameter_name s d)
    (limited s d.place (known_parameter_type s d.ctype)
    (one_part (typed_parameter_type s d.place d.ctype) (scalar_type s defined d.place)))
    (λ n t. Good (record d { ctype = t }))

-- ---- members and enumerators

-- a member behind those of its struct, whose index this is and which ends with it where so much is said (C99 6.7.2.1): its name is new in
-- the struct, its type is an object's, and with it the struct has few enough bytes, its padding at the end among them
abbrev pub member_added : Sight → StructType → PlainType → StructMember → StructType
member_added s struct t m = laid_out s.structs (record struct { members = struct.members ++ record m { ctype = t } ∷ [] })

abbrev pub with_struct : Sight → ℕ → StructType → ℕ → Sight
with_struct s k struct levels = record s { structs = slice_set s.structs k struct; levels = slice_set s.levels k levels }

abbrev pub with_member : Sight → ℕ → StructType → PlainType → StructMember → Bool → Sight
with_member s k struct t m ends =
    let added = member_added s struct t m in
    with_struct s k (if ends then added else record added { size = 0 }) (greater (number_at s.levels k) (suc (levels_of s.levels t)))

abbrev pub typed_member_type : Sight → StructType → StructMember → Checked PlainType
typed_member_type s struct m =
    one_part (limited s m.place (known_type s m.ctype) (one_part (typed_type s m.place m.ctype) (object_type s m.place))) (λ t.
    where_so (nat_le (member_added s struct t m).size most_bytes) (too_large m.place) (Good t))

abbrev pub typed_member : Sight → ℕ → StructType → StructMember → Bool → Checked Sight
typed_member s k struct m ends =
    both_parts (where_so (not (is_there (member_among m.name struct.members))) (no_name m.place) (Good (tt {0})))
    (typed_member_type s struct m) (λ n t. Good (with_member s k struct t m ends))

-- the value of an enumerator, which an `int` holds (C99 6.7.2.2 p2, p3): a constant expression, or one more than the value before
abbrev pub typed_value : Sight → Place → ℤ → Option Expression → Checked (ℤ × Option Expression)
typed_value s at next None = where_so (fits I32 next) (no_type at) (Good (next, None))
typed_value s at next (Some e) =
    one_part (decayed_of (typed s e)) (λ x. given (constant s x) (no_type (place_of e)) (λ z.
    where_so (fits I32 z) (no_type (place_of e)) (Good (z, Some x))))

abbrev pub with_enumerator : Sight → ℕ → ℤ → Sight
with_enumerator s x z = record s { entities = s.entities ++ AnEnumerator (record { name = x; value = z }) ∷ [] }

-- enumerators in their order, each in sight behind its own, with what is in sight behind them
abbrev pub typed_enumerators : Sight → ℤ → List EnumConstant → Checked (Sight × List EnumConstant)
typed_enumerators s next [] = Good (s, [])
typed_enumerators s next (e ∷ es) =
    one_part (both_parts (own_name s (is_declared_in_file s e.name) e.place e.name) (typed_value s e.place next e.value) (λ n v. Good v)) (λ v.
    one_part (typed_enumerators (with_enumerator s e.name v.0) (v.0 +ℤ pos 1) es) (λ p.
    Good (p.0, record e { value = v.1 } ∷ p.1)))
