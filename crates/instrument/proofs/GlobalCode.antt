-- The initialisation of globals, where no register is bound to a variable.
use Rattle.std.proofs.Common.{◌≡◌, ℕ, List, [], ◌∷◌, ◌++◌, Option, Some, None, option_map, refl, sym, ap, ◌∙◌}
use Rattle.c_syntax.specs.declared.place.Place.{Place}
use Rattle.c_syntax.specs.declared.statement.Decl.{Decl}
use Rattle.c_syntax.specs.declared.statement.Init.{Init}
use Rattle.c_syntax.specs.Ctypes.{PlainType, plain_type}
use Rattle.c_syntax.specs.Statements.{Declaration, Initialiser, plain_decl, plain_init}
use Rattle.mon_syntax.specs.declared.tree.MonType.TheVariants.{Ptr}
use Rattle.mon_syntax.specs.Registers.{Bindings, Names, next_register}
use Rattle.mon_syntax.specs.Trees.{Global, MonStatements, NoStatement}
use Rattle.c_model.specs.Formed.{number_of}
use Rattle.c_model.specs.StaticObjects.{static_objects}
use Rattle.c_initialisers.specs.Translation.{initialise}
use Rattle.c_effects.specs.Expressions.{before, object_of_global, set}
use Rattle.c_effects.specs.Named.{unit_of, with_registers}
use Rattle.c_effects.proofs.Sequences.{before_assoc}
use Rattle.instrument.specs.Options.{global_initialised, globals_initialised, started}
use Rattle.instrument.specs.Translation.{global_temporaries, initialise_global, initialise_globals}

started_is : (n : Names) (g : ℕ) (t : PlainType) (o : Option (Place × Initialiser)) → n.table.bound ≡ [] → started n g t o ≡ initialise_global (unit_of n) n.table.kinds g t o
started_is n g t None none = refl
started_is n g t (Some i) none =
    ap (λ (b : Bindings). before (set (next_register n.table) (Global g)) (initialise (unit_of n) b (n.table.kinds ++ Ptr ∷ []) (next_register n.table) t (Some i))) none

pub globals_are : (n : Names) (ds : List Declaration) → n.table.bound ≡ [] → globals_initialised n ds ≡ initialise_globals (unit_of n) n.table.kinds ds
globals_are n [] none = refl
globals_are n (d ∷ ds) none =
    λ i. before (started_is n (object_of_global (number_of d) (static_objects (unit_of n))) d.ctype d.init none i) (globals_are (with_registers (global_temporaries (unit_of n) d.init) n) ds none i)

-- a global that has an initialiser, from its parts
pub started_code : (n n1 : Names) (g pointer : ℕ) (t : PlainType) (o : Option (Place × Initialiser)) (i : Place × Initialiser) (t0 t1 t2 : MonStatements) → o ≡ Some i → pointer ≡ next_register n.table → n1 ≡ with_registers (Ptr ∷ []) n
    → t1 ≡ before t0 (set pointer (Global g)) → t2 ≡ before t1 (initialise (unit_of n1) n1.table.bound n1.table.kinds pointer t o) → t2 ≡ before t0 (started n g t o)
started_code n n1 g pointer t o i t0 t1 t2 is pointer_is names first last =
    last
    ∙ (λ j. before (first j) (initialise (unit_of (names j)) (names j).table.bound (names j).table.kinds (pointer_is j) t (is j)))
    ∙ ap (λ r. before (before t0 (set r (Global g))) (initialise (unit_of n) n.table.bound (n.table.kinds ++ Ptr ∷ []) (next_register n.table) t (Some i))) pointer_is
    ∙ before_assoc t0 (set (next_register n.table) (Global g)) (initialise (unit_of n) n.table.bound (n.table.kinds ++ Ptr ∷ []) (next_register n.table) t (Some i))
    ∙ ap (λ o. before t0 (started n g t o)) (sym is)

pub has_initialiser : (d : Decl) (x : Place × Init) → d.init ≡ Some x → (plain_decl d).init ≡ Some (x.0, plain_init x.1)
has_initialiser d x is = ap (λ o. option_map (λ (i : Place × Init). (i.0, plain_init i.1)) o) is

pub has_none : (n : Names) (d : Decl) → d.init ≡ None → global_initialised n (plain_decl d) ≡ NoStatement
has_none n d is = ap (λ o. started n (object_of_global d.place.offset (static_objects (unit_of n))) (plain_type d.ctype) (option_map (λ (i : Place × Init). (i.0, plain_init i.1)) o)) is
