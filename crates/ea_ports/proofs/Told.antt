-- What a sink tells after several pieces.
use Rattle.std.proofs.Common.{◌≡◌, List, [], ◌++◌, ℕ, Option, Some, None, refl, ap, append_assoc}
use Rattle.std.proofs.lemmas.List.{append-nil}
use Rattle.ea_ports.specs.Port.{more}

-- no bytes change nothing
pub more-nil : (told : Option (List ℕ)) → more told [] ≡ told
more-nil None = refl
more-nil (Some bytes) = ap Some (append-nil bytes)

-- two pieces are one
pub more-more : (told : Option (List ℕ)) (a b : List ℕ) → more (more told a) b ≡ more told (a ++ b)
more-more None a b = refl
more-more (Some bytes) a b = ap Some (append_assoc bytes a b)
