-- Names are found behavior by behavior.
use Rattle.std.proofs.Common.{◌≡◌, ℕ, Bool, true, false, cond, Option, Some, None, refl}
use Rattle.behavior_split.specs.Names.{first_of}

-- one more behavior, and then the others
pub first_more : (o rest : Option ℕ) (t : Bool) (k : ℕ) → first_of (first_of o (cond t (Some k) None)) rest ≡ first_of o (cond t (Some k) rest)
first_more None rest true k = refl
first_more None rest false k = refl
first_more (Some i) rest t k = refl

pub first_none : (o : Option ℕ) → first_of o None ≡ o
first_none None = refl
first_none (Some i) = refl
