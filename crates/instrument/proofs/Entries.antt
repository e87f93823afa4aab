-- The entry of a function: its arguments, and the blocks of its parameters one after another.
use Rattle.std.proofs.Common.{◌≡◌, ℕ, suc, ◌+◌, List, [], ◌∷◌, ◌++◌, length, map, sym, ap, ◌∙◌, arith}
use Rattle.std.proofs.lemmas.List.{length-append, map-append}
use Rattle.c_syntax.specs.Statements.{Declaration}
use Rattle.mon_syntax.specs.declared.tree.MonType.TheVariants.{Ptr}
use Rattle.mon_syntax.specs.declared.tree.Register.{Register}
use Rattle.mon_syntax.specs.Registers.{Names, next_register}
use Rattle.mon_syntax.specs.Trees as mon
use Rattle.mon_syntax.specs.Trees.{MonExpression, MonRegister, MonStatements, plain_register}
use Rattle.c_effects.specs.Expressions.{before, one, value_type}
use Rattle.c_effects.specs.Named.{unit_of}
use Rattle.c_effects.proofs.Sequences.{before_assoc, grown}
use Rattle.instrument.specs.Options.{births_by, entering}
use Rattle.instrument.specs.Translation.{arguments_from, own_name, parameters, register_name}

-- ---- arguments

-- the register of one more argument
pub argument_more : {all : List MonRegister} {left : List Declaration} (texts : List (List ℕ)) (done now : List Register) (r : Register) (d : Declaration) (rest : List Declaration) → left ≡ d ∷ rest → now ≡ done ++ r ∷ []
    → plain_register r ≡ record { kind = value_type d.ctype; name = register_name (length done) (own_name texts d) } → map plain_register done ++ arguments_from texts (length done) left ≡ all
    → map plain_register now ++ arguments_from texts (length now) rest ≡ all
argument_more {all = all} texts done now r d rest left_is now_is r_is kept =
    let next : length now ≡ suc (length done) = ap length now_is ∙ length-append done (r ∷ []) ∙ omega arith in
    grown (map plain_register done) (record { kind = value_type d.ctype; name = register_name (length done) (own_name texts d) } ∷ []) (arguments_from texts (length now) rest)
    (ap (arguments_from texts (length done)) left_is ∙ ap (λ k. record { kind = value_type d.ctype; name = register_name (length done) (own_name texts d) } ∷ arguments_from texts k rest) (sym next))
    (ap (map plain_register) now_is ∙ map-append plain_register done (r ∷ []) ∙ ap (λ x. map plain_register done ++ x ∷ []) r_is) kept

-- ---- parameters

pub parameter_code : (n : Names) (block argument : ℕ) (d : Declaration) (ds : List Declaration) (t t1 t2 : MonStatements) (value : MonExpression) → block ≡ next_register n.table → ds ≡ d ∷ [] → t1 ≡ before t (births_by n ds) →
    value ≡ mon.Register argument
    → t2 ≡ before t1 (one (mon.Store block (value_type d.ctype) value)) → t2 ≡ before t (parameters (unit_of n) (next_register n.table) argument (d ∷ []))
parameter_code n block argument d ds t t1 t2 value block_is is born value_is last =
    last ∙ (λ i. before ((born ∙ ap (λ l. before t (births_by n l)) is) i) (one (mon.Store (block_is i) (value_type d.ctype) (value_is i))))
    ∙ before_assoc t (births_by n (d ∷ [])) (one (mon.Store (next_register n.table) (value_type d.ctype) (mon.Register argument)))

-- one more parameter
module _ (n n1 : Names) (argument argument1 : ℕ) (d : Declaration) (rest left : List Declaration) (left_is : left ≡ d ∷ rest) (names : n1 ≡ entering (d ∷ []) n) where
  pub parameter_more : (t t1 all : MonStatements) → argument1 ≡ argument + 1 → t1 ≡ before t (parameters (unit_of n) (next_register n.table) argument (d ∷ []))
      → before t (parameters (unit_of n) (next_register n.table) argument left) ≡ all → before t1 (parameters (unit_of n1) (next_register n1.table) argument1 rest) ≡ all
  parameter_more t t1 all argument_is born kept =
      let next : next_register n1.table ≡ suc (next_register n.table) = ap (λ (m : Names). next_register m.table) names ∙ length-append n.table.kinds (Ptr ∷ []) ∙ omega arith in
      let number : argument1 ≡ suc argument = argument_is ∙ omega arith in
      (λ i. before (born i) (parameters (unit_of (names i)) (next i) (number i) rest))
      ∙ before_assoc t (parameters (unit_of n) (next_register n.table) argument (d ∷ [])) (parameters (unit_of n) (suc (next_register n.table)) (suc argument) rest)
      ∙ ap (λ l. before t (parameters (unit_of n) (next_register n.table) argument l)) (sym left_is) ∙ kept

  pub entering_more : (all : Names) → entering left n ≡ all → entering rest n1 ≡ all
  entering_more all kept = ap (entering rest) names ∙ ap (λ l. entering l n) (sym left_is) ∙ kept
