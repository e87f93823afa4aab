-- States of a run, how it ends, and how evaluations go on from one another (C99 5.1.2.3, 6.2.1, 6.8.6).
use Rattle.std.specs.Prelude.{ℕ, zero, suc, ◌+◌, ◌%◌, ℤ, pos, negsuc, Bool, true, false, cond, nat_eq, nat_lt, List, [], ◌∷◌, ◌++◌, length, replicate, Option}
use Rattle.std.specs.Prelude.{Some, None}
use Rattle.c_syntax.specs.declared.place.Place.{Place}
use Rattle.c_syntax.specs.declared.annotation.Kind.{Kind}
use Rattle.c_syntax.specs.declared.types.How.{How}
use Rattle.c_syntax.specs.declared.types.Segment.{Segment}
use Rattle.c_syntax.specs.declared.types.Segment.TheVariants.{Frames}
use Rattle.c_syntax.specs.declared.types.BlockKind.TheVariants as block
use Rattle.c_syntax.specs.Programs.{StructType}
use Rattle.c_syntax.specs.Statements.{Declaration}
use Rattle.c_syntax.specs.Layouts.{Scalar, size_of}
use Rattle.c_model.specs.Limits.{most_frames}
use Rattle.c_model.specs.Memory.{Pointer, Null, Into, Value, Integer, Points, NoValue, Byte, new_block, Store, load, save, save_bytes, copy_all, tested_value}
use Rattle.c_model.specs.Memory.{kill_from, standard_sizes, full_at_stack_birth, Room, At, NoRoom, heap_room, heap_block}

-- the number of the block of each declaration in sight, the innermost first (C99 6.2.1)
abbrev pub Scope : Type 0
Scope = List (ℕ × ℕ)

-- whether two labels are one
abbrev pub same_label : Option ℕ → Option ℕ → Bool
same_label None None = true
same_label None (Some y) = false
same_label (Some x) None = false
same_label (Some x) (Some y) = nat_eq x y

-- what a label of annotations stands for (ACSL 2.4.3): the scope and the store at its last passage in this call; no name is `Pre`
pub record Mark : Type 0 where
  pub label : Option ℕ
  pub scope : Scope
  pub store : Store

-- what comes after the bytes of an input
pub data InputTail : Type 0 where
  EndOfInput : InputTail
  InputFault : InputTail

pub record Input : Type 0 where
  pub bytes : List ℕ
  pub tail : InputTail

pub record State : Type 0 where
  pub store : Store
  pub scope : Scope
  pub marks : List Mark
  -- active calls
  pub calls : ℕ
  pub steps : ℕ
  pub input : Input
  pub output : List ℕ

-- jumps (C99 6.8.6), with the value that is returned
pub data Leave : Type 0 where
  Breaks : Leave
  Continues : Leave
  Returns : Option Value → Leave

-- how a run of the source ends
pub data Final : Type 0 where
  Exits : ℤ → Final
  -- the annotation's number, its line, its kind, and how it is broken
  Broken : ℕ → ℕ → Kind → How → Final
  -- an undefined operation, at its place
  Undefined : Place → Final
  Spent : Final
  Full : Segment → Final
  ReadFault : Final

pub data End : Type 0 where
  Leaves : Leave → End
  Over : Final → End
  -- what typing rules out has no meaning, and is no end of a run
  Stuck : End

-- a value and the state after it, or an end and the state there
pub data Outcome (A : Type 0) : Type 0 where
  Normal : A → State → Outcome A
  Stop : End → State → Outcome A

-- an evaluation: what happens from a state
abbrev pub Evaluation : Type 0 → Type 0
Evaluation A = State → Outcome A

abbrev pub on_outcome : {A B : Type 0} → Outcome A → (A → Evaluation B) → Outcome B
on_outcome (Normal a s) k = k a s
on_outcome (Stop e s) k = Stop e s

infixl 10 ◌>>=◌
abbrev pub ◌>>=◌ : {A B : Type 0} → Evaluation A → (A → Evaluation B) → Evaluation B
m >>= k = λ s. on_outcome (m s) k

infixl 10 ◌>>◌
abbrev pub ◌>>◌ : {A B : Type 0} → Evaluation A → Evaluation B → Evaluation B
m >> k = λ s. on_outcome (m s) (λ _. k)

abbrev pub give : {A : Type 0} → A → Evaluation A
give a = λ s. Normal a s

abbrev pub done : Evaluation (Unit {0})
done = λ s. Normal tt s

abbrev pub stop : {A : Type 0} → End → Evaluation A
stop e = λ s. Stop e s

-- a value, or an undefined operation at the place
abbrev pub defined : {A : Type 0} → Place → Option A → Evaluation A
defined at None = stop (Over (Undefined at))
defined at (Some a) = give a

-- one step, where one is left
abbrev pub step_from : ℕ → State → Outcome (Unit {0})
step_from zero s = Stop (Over Spent) s
step_from (suc n) s = Normal tt (record s { steps = n })

abbrev pub step : Evaluation (Unit {0})
step = λ s. step_from s.steps s

-- the next byte of the input; at its end -1, and the end stays; a fault ends the run (C99 7.19.7.6)
abbrev pub read_byte : List ℕ → InputTail → Evaluation Value
read_byte [] EndOfInput = give (Integer (negsuc 0))
read_byte [] InputFault = stop (Over ReadFault)
read_byte (b ∷ bs) tail = λ s. Normal (Integer (pos (b % 256))) (record s { input = record { bytes = bs; tail = tail } })

-- one byte of output (C99 7.19.7.9, 7.19.7.3)
abbrev pub print : ℕ → Evaluation (Unit {0})
print byte = λ s. Normal tt (record s { output = s.output ++ byte ∷ [] })

-- bytes, one after another (C99 7.19.3 p11)
abbrev pub print_all : List ℕ → Evaluation (Unit {0})
print_all [] = done
print_all (b ∷ bs) = print b >> print_all bs

-- the block of a declaration
abbrev pub find : ℕ → Scope → Option ℕ
find x [] = None
find x (entry ∷ rest) = cond (nat_eq entry.0 x) (Some entry.1) (find x rest)

-- a pointer to the start of a block
abbrev pub start_of : Option ℕ → Option Pointer
start_of None = None
start_of (Some n) = Some (Into n 0)

-- where the object of a declaration stands
abbrev pub object : Place → ℕ → Evaluation Pointer
object at x = λ s. defined at (start_of (find x s.scope)) s

-- what the store gives, or an undefined operation at the place
abbrev pub computed : {A : Type 0} → Place → (Store → Option A) → Evaluation A
computed at f = λ s. defined at (f s.store) s

-- goes on with a scalar type, which typing promises
abbrev pub as_scalar : {A : Type 0} → Option Scalar → (Scalar → Evaluation A) → Evaluation A
as_scalar None go = stop Stuck
as_scalar (Some k) go = go k

-- the value of an object (C99 6.3.2.1 p2)
abbrev pub read : Place → Pointer → Scalar → Evaluation Value
read at p k = computed at (λ store. load store p k)

-- the value of what an expression designates: one of a scalar type is read; an array's is the pointer to its first element
-- (C99 6.3.2.1 p2, p3), and a struct has none by itself
abbrev pub read_any : Place → Pointer → Option Scalar → Evaluation Value
read_any at p None = give NoValue
read_any at p (Some k) = read at p k

abbrev pub put_store : Store → Evaluation (Unit {0})
put_store store = λ s. Normal tt (record s { store = store })

-- the store becomes another, or an undefined operation at the place
abbrev pub changed : Place → (Store → Option Store) → Evaluation (Unit {0})
changed at f = λ s. (defined at (f s.store) >>= put_store) s

-- the value of an object becomes this one (C99 6.5.16)
abbrev pub write : Place → Pointer → Scalar → Value → Evaluation (Unit {0})
write at p k v = changed at (λ store. save store p k v)

-- these bytes are written
abbrev pub write_bytes : Place → Pointer → List Byte → Evaluation (Unit {0})
write_bytes at p bytes = changed at (λ store. save_bytes store p (length bytes) bytes)

-- the scalars of one object become those of another, each at its offset and of a size (C99 6.5.16.1 p2)
abbrev pub copy_object : Place → Pointer → Pointer → List (ℕ × ℕ) → Evaluation (Unit {0})
copy_object at p q cs = changed at (λ store. copy_all store p q cs)

-- the value that a condition tests (C99 6.8.4.1)
abbrev pub tested : Place → Value → Evaluation Value
tested at v = computed at (λ store. tested_value store v)

-- the birth of the variable with this number and size, where there is room
abbrev pub birth_of : Option Segment → ℕ → ℕ → Evaluation (Unit {0})
birth_of (Some full) x size = stop (Over (Full full))
birth_of None x size = λ s. Normal tt (record s {
  store = s.store ++ new_block block.Stack size ∷ [];
  scope = (x, length s.store + 1) ∷ s.scope;
})

abbrev pub birth : List StructType → Declaration → Evaluation (Unit {0})
birth structs d = λ s. birth_of (full_at_stack_birth standard_sizes s.store (size_of structs d.ctype)) d.place.offset (size_of structs d.ctype) s

abbrev pub births : List StructType → List Declaration → Evaluation (Unit {0})
births structs [] = done
births structs (d ∷ ds) = birth structs d >> births structs ds

-- the birth of a heap block that holds these bytes, where there is room
abbrev pub heap_birth : Room → List Byte → Evaluation Value
heap_birth (NoRoom full) bytes = stop (Over (Full full))
heap_birth (At place) bytes = λ s. Normal (Points (Into (length s.store + 1) 0)) (record s { store = s.store ++ heap_block place bytes ∷ [] })

-- so many bytes of the heap, each of them this one: none give null and take no number (C99 7.20.3)
abbrev pub allocate : ℕ → Byte → Evaluation Value
allocate n b = cond (nat_eq n 0) (give (Points Null)) (λ s. heap_birth (heap_room standard_sizes s.store n) (replicate n b) s)

-- the value of the youngest block
abbrev pub write_youngest : Place → Scalar → Value → Evaluation (Unit {0})
write_youngest at k v = λ s. write at (Into (length s.store) 0) k v s

-- a call sees the globals, and no variable of the call that makes it, and has passed no label
abbrev pub alone : Scope → Evaluation (Unit {0})
alone globals = λ s. Normal tt (record s { scope = globals; marks = [] })

-- one more call is active, 65,536 at most
abbrev pub frame : Evaluation (Unit {0})
frame = λ s. cond (nat_lt s.calls most_frames) (Normal tt (record s { calls = s.calls + 1 })) (Stop (Over (Full Frames)) s)

-- the last passage of a label in this call
abbrev pub mark_of : Option ℕ → List Mark → Option Mark
mark_of label [] = None
mark_of label (m ∷ ms) = cond (same_label label m.label) (Some m) (mark_of label ms)

-- a passage of a label
abbrev pub mark : Option ℕ → Evaluation (Unit {0})
mark label = λ s. Normal tt (record s { marks = record { label = label; scope = s.scope; store = s.store } ∷ s.marks })

-- the state after a block: what was born inside is dead, and the names from before are back; labels that were passed inside stay passed
abbrev pub back_to : State → State → State
back_to old s = record s { store = kill_from (length old.store) s.store; scope = old.scope; calls = old.calls }

-- the state after a call, whose marks are gone with it
abbrev pub back_from_call : State → State → State
back_from_call old s = record (back_to old s) { marks = old.marks }

abbrev pub restored : {A : Type 0} → State → Outcome A → Outcome A
restored old (Normal a s) = Normal a (back_to old s)
restored old (Stop e s) = Stop e (back_to old s)

abbrev pub answered : {A : Type 0} → State → Outcome A → Outcome A
answered old (Normal a s) = Normal a (back_from_call old s)
answered old (Stop e s) = Stop e (back_from_call old s)

-- a block, whichever way it is left
abbrev pub within : {A : Type 0} → Evaluation A → Evaluation A
within m = λ s. restored s (m s)

-- a call, whichever way it is left
abbrev pub called : {A : Type 0} → Evaluation A → Evaluation A
called m = λ s. answered s (m s)
