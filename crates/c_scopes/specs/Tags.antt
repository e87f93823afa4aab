-- Ours: tags (C99 6.7.2.3), each of which is found without a look at all of them.
use Rattle.std.specs.Prelude.{◌≡◌, ℕ, List, nat_eq}
use Rattle.indexmap.specs.IndexSet.{IndexSet, contains}
use Rattle.c_model.specs.ExpressionTyping.{is_among}

-- the set has these tags
abbrev pub HasTags : {S : Type 0} → IndexSet ℕ S → List ℕ → Type 0
HasTags set tags = (x : ℕ) → contains nat_eq set x ≡ is_among x tags
