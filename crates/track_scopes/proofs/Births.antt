-- The entry of a scope: blocks are born in order on both sides, or the same is full on both.
use Rattle.std.proofs.Common.{◌≡◌, ℕ, zero, suc, ◌+◌, ◌<◌, ◌≤◌, ◌^◌, pos, List, [], ◌∷◌, ◌++◌, length, length-set, length-append, Option, Some, None, slice_get, slice_set, refl, sym, ap, ◌∙◌, subst, arith}
use Rattle.std.specs.Prelude.{Result, Ok, Err, Vec, IfOk}
use Rattle.std.specs.declared.alloc.Global.{Global}
use Rattle.c_syntax.specs.declared.types.BlockKind.TheVariants.{Stack}
use Rattle.c_syntax.specs.declared.types.Segment.{Segment}
use Rattle.c_syntax.specs.Programs.{StructType}
use Rattle.c_syntax.specs.Statements.{Declaration}
use Rattle.c_syntax.specs.Layouts.{size_of}
use Rattle.c_model.specs.Formed.{number_of}
use Rattle.c_model.specs.Memory.{Into, Value, Points, new_block, full_at_stack_birth, standard_sizes}
use Rattle.c_model.specs.State.{State, on_outcome, birth_of, births}
use Rattle.c_model.proofs.Blocks.{slice_get-slice_set_other}
use Rattle.mon_syntax.specs.declared.tree.MonStmt.{MonStmt}
use Rattle.mon_syntax.specs.declared.tree.MonType.TheVariants.{U64}
use Rattle.mon_syntax.specs.Trees.{plain_stmts}
use Rattle.mon_syntax.specs.Arithmetic.{lowest_bits}
use Rattle.mon_syntax.specs.Meaning.{Done, Next, then_do, at_next, writes, replied, exec, exec_all}
use Rattle.mon_syntax.specs.Meaning as monitored
use Rattle.mon_syntax.specs.BlockMemory.{over_blocks, birth_of as block_birth, stack_block}
use Rattle.track_scopes.specs.Blocks as target
use Rattle.track_scopes.specs.Blocks.{AreSmall}
use Rattle.track_scopes.specs.Lives.{MonitoredState, Did, with_store, PointInOrder, PointToBorn, Births, AllAre, OneIsFull, Enters}

-- ---- one birth

-- a number of 64 bits is its 64 lowest bits
lowest-small : (n : ℕ) → n < 2 ^ 64 → lowest_bits U64 (pos n) ≡ n
lowest-small n small = omega arith

get_there : {A : Type 0} (l : List A) (k : ℕ) (a : A) → k < length l → slice_get (slice_set l k a) k ≡ Some a
get_there [] k a lt = absurd (omega arith)
get_there (b ∷ l) zero a lt = refl
get_there (b ∷ l) (suc k) a lt = get_there l k a (omega (arith, lt))

module _ (structs : List StructType) (gs : List Value) (calls : monitored.Calls over_blocks) (n : ℕ) where
  -- what a birth does, where this is full
  abbrev birth_does : ℕ → Declaration → List Value → MonitoredState → Option Segment → Did
  birth_does p d regs t o =
      then_do (replied over_blocks (stack_block o (size_of structs d.ctype) t.mem) t) (λ v u. Done (Next (slice_set regs p v)) u [])

  module _ (p : ℕ) (d : Declaration) (regs : List Value) (s : State) (t : MonitoredState) (same : t.mem.store ≡ s.store) (small : size_of structs d.ctype < 2 ^ 64) where
    -- a block is born in monitored C where it is in the program
    birth_is : exec over_blocks gs (target.birth structs p d) calls n regs t ≡ birth_does p d regs t (full_at_stack_birth standard_sizes s.store (size_of structs d.ctype))
    birth_is =
        ap (λ size. then_do (replied over_blocks (block_birth size t.mem) t) (λ v u. Done (Next (slice_set regs p v)) u [])) (lowest-small (size_of structs d.ctype) small)
        ∙ ap (λ store. birth_does p d regs t (full_at_stack_birth standard_sizes store (size_of structs d.ctype))) same

    abbrev born_state : State
    born_state = record s { store = s.store ++ new_block Stack (size_of structs d.ctype) ∷ []; scope = (number_of d, length s.store + 1) ∷ s.scope }

    abbrev born_registers : List Value
    born_registers = slice_set regs p (Points (Into (length t.mem.store + 1) 0))

    abbrev born_target : MonitoredState
    born_target = with_store (t.mem.store ++ new_block Stack (size_of structs d.ctype) ∷ []) t

    -- ---- and then others

    abbrev others : List Declaration → Did
    others ds = exec_all over_blocks gs (target.births structs (suc p) ds) calls n born_registers born_target

    abbrev all : List Declaration → Did
    all ds = exec_all over_blocks gs (target.births structs p (d ∷ ds)) calls n regs t

    does : (ds : List Declaration) (o : Option Segment) → full_at_stack_birth standard_sizes s.store (size_of structs d.ctype) ≡ o
        → all ds ≡ then_do (birth_does p d regs t o) (at_next (exec_all over_blocks gs (target.births structs (suc p) ds) calls n))
    does ds o full = ap (λ q. then_do q (at_next (exec_all over_blocks gs (target.births structs (suc p) ds) calls n))) (birth_is ∙ ap (birth_does p d regs t) full)

    point_to_born : (ds : List Declaration) (after : List Value) → p < length regs → PointToBorn (suc p) ds born_state.store born_registers after → PointToBorn p (d ∷ ds) s.store regs after
    point_to_born ds after there b =
        let number : length born_state.store + 1 ≡ suc (length s.store + 1) = omega (arith, length-append s.store (new_block Stack (size_of structs d.ctype) ∷ [])) in
        record {
          point = (
            b.before p (omega arith) ∙ get_there regs p (Points (Into (length t.mem.store + 1) 0)) there ∙ ap (λ store. Some (Points (Into (length store + 1) 0))) same,
            subst (λ k. PointInOrder after (suc p) k ds) number b.point,
          );
          before = λ r lt. b.before r (omega (arith, lt)) ∙ slice_get-slice_set_other regs p r (Points (Into (length t.mem.store + 1) 0)) (λ e. omega (arith, lt, e));
          long = b.long ∙ length-set regs p (Points (Into (length t.mem.store + 1) 0));
        }

    then_born : (ds : List Declaration) → p < length regs → full_at_stack_birth standard_sizes s.store (size_of structs d.ctype) ≡ None
        → Births structs (suc p) ds born_registers born_state born_target (others ds) → Births structs p (d ∷ ds) regs s t (all ds)
    then_born ds there none (AllAre after e f b) =
        AllAre after
        (ap (λ o. on_outcome (birth_of o (number_of d) (size_of structs d.ctype) s) (λ _. births structs ds)) none ∙ e)
        (does ds None none ∙ ap (writes []) f)
        (point_to_born ds after there b)
    then_born ds there none (OneIsFull g to e output steps f) =
        OneIsFull g to
        (ap (λ o. on_outcome (birth_of o (number_of d) (size_of structs d.ctype) s) (λ _. births structs ds)) none ∙ e) output steps
        (does ds None none ∙ ap (writes []) f)

    is_full : (ds : List Declaration) (g : Segment) → full_at_stack_birth standard_sizes s.store (size_of structs d.ctype) ≡ Some g → Births structs p (d ∷ ds) regs s t (all ds)
    is_full ds g some =
        OneIsFull g s (ap (λ o. on_outcome (birth_of o (number_of d) (size_of structs d.ctype) s) (λ _. births structs ds)) some) refl refl (does ds (Some g) some)

    born_same : born_target.mem.store ≡ born_state.store
    born_same = ap (λ store. store ++ new_block Stack (size_of structs d.ctype) ∷ []) same

  -- ---- births in order

  all_born : (p : ℕ) (ds : List Declaration) (regs : List Value) (s : State) (t : MonitoredState) → AreSmall structs ds → t.mem.store ≡ s.store → p + length ds ≤ length regs
      → Births structs p ds regs s t (exec_all over_blocks gs (target.births structs p ds) calls n regs t)
  all_born p [] regs s t small same long =
      AllAre regs refl (ap (λ store. Done (Next regs) (with_store store t) []) same) (record { point = tt; before = λ r lt. refl; long = refl })
  all_born p (d ∷ ds) regs s t small same long =
      by (all_born (suc p) ds (born_registers p d regs s t same small.0) (born_state p d regs s t same small.0) (born_target p d regs s t same small.0) small.1
      (born_same p d regs s t same small.0) (omega (arith, long, length-set regs p (Points (Into (length t.mem.store + 1) 0)))))
      (full_at_stack_birth standard_sizes s.store (size_of structs d.ctype)) refl
    where
      by : Births structs (suc p) ds (born_registers p d regs s t same small.0) (born_state p d regs s t same small.0) (born_target p d regs s t same small.0) (others p d regs s t same small.0 ds)
          → (o : Option Segment) → full_at_stack_birth standard_sizes s.store (size_of structs d.ctype) ≡ o → Births structs p (d ∷ ds) regs s t (exec_all over_blocks gs (target.births structs p (d ∷ ds)) calls n regs t)
      by rest None none = then_born p d regs s t same small.0 ds (omega (arith, long)) none rest
      by rest (Some g) some = is_full p d regs s t same small.0 ds g some

-- births enter the scope of their variables
pub births_enter : (structs : List StructType) (p : ℕ) (ds : List Declaration) → AreSmall structs ds → Enters structs p ds (target.births structs p ds)
births_enter structs p ds small = λ gs calls n regs s t same long. all_born structs gs calls n p ds regs s t small same long

-- so do statements that are births, if there are any
pub enters : {E : Type 0} (structs : List StructType) (p : ℕ) (ds : List Declaration) (r : Result (Vec MonStmt Global) E) → IfOk r (λ code. plain_stmts code.items ≡ target.births structs p ds)
    → IfOk r (λ code. AreSmall structs ds) → IfOk r (λ code. Enters structs p ds (plain_stmts code.items))
enters structs p ds (Ok code) e small = subst (Enters structs p ds) (sym e) (births_enter structs p ds small)
enters structs p ds (Err e) h small = tt
