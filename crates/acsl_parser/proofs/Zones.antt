-- The last zone first.
use Rattle.std.proofs.Common.{◌≡◌, List, [], ◌∷◌, ◌++◌, refl, ap, map}
use Rattle.c_syntax.specs.declared.logic.FormulaZone.{FormulaZone}
use Rattle.c_syntax.specs.Formulas.{FormZone, FormZones, NoZone, Another, plain_form_zone}
use Rattle.c_model.specs.AnnotationGrammar.{zones_of}

-- zones before others
abbrev pub zones_before : List FormZone → FormZones → FormZones
zones_before [] rest = rest
zones_before (z ∷ zs) rest = Another z (zones_before zs rest)

pub before_none : (zs : List FormZone) → zones_before zs NoZone ≡ zones_of zs
before_none [] = refl
before_none (z ∷ zs) = ap (Another z) (before_none zs)

pub before_last : (zs : List FormulaZone) (z : FormulaZone) (rest : FormZones) → zones_before (map plain_form_zone (zs ++ z ∷ [])) rest ≡ zones_before (map plain_form_zone zs) (Another (plain_form_zone z) rest)
before_last [] z rest = refl
before_last (y ∷ zs) z rest = ap (Another (plain_form_zone y)) (before_last zs z rest)
