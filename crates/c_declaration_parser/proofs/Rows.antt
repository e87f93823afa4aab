-- The plain form of a list in braces.
use Rattle.std.proofs.Common.{◌≡◌, List, [], ◌∷◌, map, refl, ap, ◌∙◌}
use Rattle.std.specs.Prelude.{Vec}
use Rattle.std.specs.declared.alloc.Global.{Global}
use Rattle.c_syntax.specs.declared.place.Place.{Place}
use Rattle.c_syntax.specs.declared.statement.Init.{Init}
use Rattle.c_syntax.specs.declared.statement.Init as init
use Rattle.c_syntax.specs.Statements.{Many, Listed, plain_init, plain_inits}
use Rattle.c_syntax.proofs.Rows.{many_is}
use Rattle.c_model.specs.DeclarationGrammar.{initialisers}

inits_are : (all : List Init) → plain_inits all ≡ initialisers (map plain_init all)
inits_are [] = refl
inits_are (i ∷ rest) = ap (Listed (plain_init i)) (inits_are rest)

pub list_is_read : (at : Place) (v : Vec Init Global) → plain_init (init.Many at v) ≡ Many at (initialisers (map plain_init v.items))
list_is_read at v = many_is at v ∙ ap (Many at) (inits_are v.items)
