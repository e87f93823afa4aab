-- Ours: what both memories have.
-- What a memory is to a monitored program: its values, its numbers and the null pointer, loads and stores, operators on pointers, the calls of the
-- runtime that work on it, strings, the frames of calls, and where globals stand.
use Rattle.std.specs.Prelude.{ℕ, ℤ, Bool, List, Option}
use Rattle.c_syntax.specs.declared.types.Segment.{Segment}
use Rattle.mon_syntax.specs.declared.tree.MonType.{MonType}
use Rattle.mon_syntax.specs.declared.tree.MonOp.{MonOp}
use Rattle.mon_syntax.specs.declared.tree.MemoryCall.{MemoryCall}
use Rattle.mon_syntax.specs.Trees.{MonitoredGlobal}

-- what a change of memory answers: a value and the memory after it, or that a segment is full, or a fault
pub data Reply (Mem Val : Type 0) : Type 0 where
  Gives : Val → Mem → Reply Mem Val
  IsFull : Segment → Reply Mem Val
  Faults : Reply Mem Val

pub record Memory : Type 1 where
  pub Mem : Type 0
  -- what a register holds
  pub Val : Type 0
  -- a number as a value, and the number of a value that is one
  pub number : ℤ → Val
  pub number_of : Val → Option ℤ
  -- the null pointer
  pub null : Val
  -- the value of a type at a pointer, where it can be read
  pub load : MonType → Val → Mem → Option Val
  -- a value of a type at a pointer, where it can be written: the second value at the first one, with its mark
  pub store : MonType → Val → Val → Mem → Option Mem
  -- an operator of which the first operand is a pointer
  pub pointed : MonOp → Val → Val → Mem → Option Val
  -- what a call of the runtime does to it
  pub act : MemoryCall → List Val → Mem → Reply Mem Val
  -- the bytes at a pointer up to the first 0, as far as they can be read, and whether a 0 ends them
  pub string : Val → Mem → List ℕ × Bool
  -- the frame of a call, and its end
  pub enter : Mem → Reply Mem Val
  pub leave : Mem → Mem
  -- the pointers to the starts of globals and literals, which are the first blocks
  pub starts : List MonitoredGlobal → List Val
