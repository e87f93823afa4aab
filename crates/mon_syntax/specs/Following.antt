-- Ours: the relation of two memories.
-- When one memory stands for another: wherever the first has an answer, the second has one that means the same.
use Rattle.std.specs.Prelude.{◌≡◌, ℤ, List, [], ◌∷◌, Option, Some, None}
use Rattle.mon_syntax.specs.declared.tree.MonType.{MonType}
use Rattle.mon_syntax.specs.declared.tree.MonOp.{MonOp}
use Rattle.mon_syntax.specs.declared.tree.MemoryCall.{MemoryCall}
use Rattle.mon_syntax.specs.Memory.{Memory, Reply, Gives, IsFull, Faults}
use Rattle.mon_syntax.specs.Strings.{GoesWith}

-- where there is a first value, there is a second that is related to it
abbrev pub Kept : {A B : Type 0} → (A → B → Type 0) → Option A → Option B → Type 0
Kept Q None b = Unit {0}
Kept Q (Some a) None = ⊥
Kept Q (Some a) (Some b) = Q a b

-- two lists of one length, related place by place
abbrev pub AllKept : {A B : Type 0} → (A → B → Type 0) → List A → List B → Type 0
AllKept Q [] [] = Unit {0}
AllKept Q [] (y ∷ ys) = ⊥
AllKept Q (x ∷ xs) [] = ⊥
AllKept Q (x ∷ xs) (y ∷ ys) = Q x y × AllKept Q xs ys

-- the answers of a change of two memories, in a world: values and memories that are related in a later world, or the same
-- full segment; nothing is asked of the second where the first faults
abbrev pub Replied : {LM LV FM FV : Type 0} (World : Type 0) → (World → World → Type 0) → (World → LV → FV → Type 0) → (World → LM → FM → Type 0) → World
    → Reply LM LV → Reply FM FV → Type 0
Replied World Later Same Holds w (Gives v m) (Gives x n) = (u : World) × Later w u × Same u v x × Holds u m n
Replied World Later Same Holds w (Gives v m) (IsFull h) = ⊥
Replied World Later Same Holds w (Gives v m) Faults = ⊥
Replied World Later Same Holds w (IsFull g) (IsFull h) = g ≡ h
Replied World Later Same Holds w (IsFull g) (Gives x n) = ⊥
Replied World Later Same Holds w (IsFull g) Faults = ⊥
Replied World Later Same Holds w Faults r = Unit {0}

-- the second memory stands for the first
pub record Follows (L F : Memory) : Type 1 where
  -- what is known of the past, as where each block lies that was ever born
  pub World : Type 0
  pub Later : World → World → Type 0
  pub later_refl : (w : World) → Later w w
  pub later_trans : (u v w : World) → Later u v → Later v w → Later u w
  -- one value stands for another, and goes on to do so
  pub Same : World → L.Val → F.Val → Type 0
  pub same_later : (u v : World) (a : L.Val) (b : F.Val) → Later u v → Same u a b → Same v a b
  -- one memory stands for another
  pub Holds : World → L.Mem → F.Mem → Type 0
  pub number : (w : World) (z : ℤ) → Same w (L.number z) (F.number z)
  pub number_of : (w : World) (a : L.Val) (b : F.Val) → Same w a b → Kept (λ i j. i ≡ j) (L.number_of a) (F.number_of b)
  pub null : (w : World) → Same w L.null F.null
  -- each operation keeps this
  pub load : (w : World) (t : MonType) (a : L.Val) (b : F.Val) (m : L.Mem) (n : F.Mem) → Same w a b → Holds w m n
      → Kept (Same w) (L.load t a m) (F.load t b n)
  pub store : (w : World) (t : MonType) (a x : L.Val) (b y : F.Val) (m : L.Mem) (n : F.Mem) → Same w a b → Same w x y → Holds w m n
      → Kept (Holds w) (L.store t a x m) (F.store t b y n)
  pub pointed : (w : World) (op : MonOp) (a x : L.Val) (b y : F.Val) (m : L.Mem) (n : F.Mem) → Same w a b → Same w x y → Holds w m n
      → Kept (Same w) (L.pointed op a x m) (F.pointed op b y n)
  pub act : (w : World) (f : MemoryCall) (xs : List L.Val) (ys : List F.Val) (m : L.Mem) (n : F.Mem) → AllKept (Same w) xs ys → Holds w m n
      → Replied World Later Same Holds w (L.act f xs m) (F.act f ys n)
  pub string : (w : World) (a : L.Val) (b : F.Val) (m : L.Mem) (n : F.Mem) → Same w a b → Holds w m n
      → GoesWith (L.string a m).1 (L.string a m).0 (F.string b n)
  pub enter : (w : World) (m : L.Mem) (n : F.Mem) → Holds w m n → Replied World Later Same Holds w (L.enter m) (F.enter n)
  pub leave : (w : World) (m : L.Mem) (n : F.Mem) → Holds w m n → Holds w (L.leave m) (F.leave n)
