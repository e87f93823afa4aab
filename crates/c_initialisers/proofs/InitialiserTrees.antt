-- Initialisers and the zeros of what they leave out, part by part.
use Rattle.std.proofs.Common.{◌≡◌, ℕ, zero, suc, ◌+◌, ◌-◌, true, false, List, [], ◌∷◌, ◌++◌, length, drop, Option, Some, None, refl, sym, ap, ◌∙◌, arith}
use Rattle.std.specs.Prelude.{pos, not, if◌then◌else◌}
use Rattle.c_syntax.specs.declared.expression.Expr.{Expr}
use Rattle.c_syntax.specs.declared.place.Place.{Place}
use Rattle.c_syntax.specs.Ctypes.{PlainType}
use Rattle.c_syntax.specs.Expressions.{Expression, plain_expr}
use Rattle.c_syntax.specs.Programs.{StructType, TranslationUnit}
use Rattle.c_syntax.specs.Statements.{Declaration, Initialiser, Many, Initialisers, NoInitialiser, Listed}
use Rattle.c_syntax.specs.Layouts.{scalars_of, size_of}
use Rattle.c_model.specs.Formed.{number_of}
use Rattle.c_model.specs.Library.{is_there}
use Rattle.c_model.specs.Meaning.{string_in}
use Rattle.mon_syntax.specs.declared.tree.MonType.{MonType}
use Rattle.mon_syntax.specs.declared.tree.MonType.TheVariants.{U8}
use Rattle.mon_syntax.specs.Registers.{Names, next_register}
use Rattle.mon_syntax.specs.Trees.{MonExpression, MonStatements, NoStatement, Constant}
use Rattle.c_effects.specs.Expressions.{before, value_type}
use Rattle.c_initialisers.specs.Translation.{bytes_at, fill_one, fill_temporaries, may_be_born, parts_temporaries}
use Rattle.c_effects.specs.Effects.{block_of, moved, scalars_in, store, stored_at, zeros_from}
use Rattle.c_initialisers.specs.Initialisers.{fill_by, fill_first_by, fill_one_by, fill_parts_by, first_part, initialise_object_by, initialise_one_by, next_byte, object_temporaries, parts_in, initialise_by, initialise_local_by}
use Rattle.c_effects.specs.Named.{unit_of, with_registers}
use Rattle.c_effects.specs.Full.{takes}
use Rattle.c_evaluation.specs.Evaluated.{prepare_by, result_by}
use Rattle.c_effects.proofs.Sequences.{before_assoc, nothing, registers_grown}

-- ---- registers

-- further registers, and what is left of those that the program of these names asks for
pub registers_more : {n1 all : Names} {left : List MonType} (n : Names) (ts : List MonType) (rest : TranslationUnit → List MonType) → left ≡ ts ++ rest (unit_of n) → n1 ≡ with_registers ts n → with_registers left n ≡ all
    → with_registers (rest (unit_of n1)) n1 ≡ all
registers_more n ts rest first names kept = ap (λ (m : Names). with_registers (rest (unit_of m)) m) names ∙ registers_grown n ts (rest (unit_of n)) first refl kept

-- ---- bytes

-- one more byte of a string
pub bytes_more : (r k d n : ℕ) (bytes : List ℕ) (b : ℕ) (bs : List ℕ) → Some (b, bs) ≡ next_byte n bytes → bytes_at r k d n bytes ≡ before (stored_at r k d U8 (Constant U8 (pos b))) (bytes_at r k (d + 1) (n - 1) bs)
bytes_more r k d zero bytes b bs e = absurd cc
bytes_more r k d (suc n) [] b bs e = absurd cc
bytes_more r k d (suc n) (x ∷ xs) b bs e =
    let same : x ≡ b = sym (ap (λ (o : Option (ℕ × List ℕ)). elim o [ None ↦ b | Some y ↦ y.0 ]) e) in
    let rest : xs ≡ bs = sym (ap (λ (o : Option (ℕ × List ℕ)). elim o [ None ↦ bs | Some y ↦ y.1 ]) e) in
    let next : suc d ≡ d + 1 = omega arith in
    let less : n ≡ suc n - 1 = omega arith in
    λ i. before (stored_at r k d U8 (Constant U8 (pos (same i)))) (bytes_at r k (next i) (less i) (rest i))

-- zeros are left
pub no_byte : (r k d n : ℕ) (bytes : List ℕ) → None ≡ next_byte n bytes → bytes_at r k d n bytes ≡ zeros_from r k d 0 n
no_byte r k d zero bytes e = refl
no_byte r k d (suc n) [] e = refl
no_byte r k d (suc n) (b ∷ bytes) e = absurd cc

-- ---- parts

-- the scalars of one more part
pub parts_more : (structs : List StructType) (d : ℕ) (cs : List (ℕ × PlainType)) (c : ℕ × PlainType) → Some c ≡ first_part cs → scalars_in structs d cs ≡ moved (d + c.0) (scalars_of structs c.1) ++ scalars_in structs d (drop 1 cs)
parts_more structs d [] c e = absurd cc
parts_more structs d (x ∷ cs) c e = let same : x ≡ c = cc in ap (λ y. moved (d + y.0) (scalars_of structs y.1) ++ scalars_in structs d cs) same

pub no_part : (structs : List StructType) (d : ℕ) (cs : List (ℕ × PlainType)) → None ≡ first_part cs → scalars_in structs d cs ≡ []
no_part structs d [] e = refl
no_part structs d (x ∷ cs) e = absurd cc

-- ---- initialisers

pub none_filled : (n : Names) (r d : ℕ) (cs : List (ℕ × PlainType)) (i : Initialiser) → None ≡ first_part cs → NoStatement ≡ fill_first_by n r d cs i
none_filled n r d [] i e = refl
none_filled n r d (x ∷ cs) i e = absurd cc

nothing_filled : (n : Names) (r d : ℕ) (is : Initialisers) → fill_parts_by n r d [] is ≡ NoStatement
nothing_filled n r d NoInitialiser = refl
nothing_filled n r d (Listed i is) = refl

-- one more initialiser of a list
pub filled_more : (n : Names) (r d : ℕ) (cs : List (ℕ × PlainType)) (i : Initialiser) (is : Initialisers)
    → fill_parts_by n r d cs (Listed i is) ≡ before (fill_first_by n r d cs i) (fill_parts_by (with_registers (fill_temporaries (unit_of n) i) n) r d (drop 1 cs) is)
filled_more n r d [] i is = sym (nothing_filled (with_registers (fill_temporaries (unit_of n) i) n) r d is)
filled_more n r d (c ∷ cs) i is = refl

-- a part takes the value of an expression
filled_as : (n : Names) (r d : ℕ) (t : PlainType) (e : Expression) (o : Option ℕ) (t0 : MonStatements) → string_in e ≡ o
    → before t0 (fill_one (unit_of n) n.table.bound r d n.table.kinds t o e) ≡ before t0 (fill_one_by n r d t e)
filled_as n r d t e o t0 is = ap (λ x. before t0 (fill_one (unit_of n) n.table.bound r d n.table.kinds t x e)) (sym is)

pub filled_value : (n n1 : Names) (r d k : ℕ) (kind : MonType) (t : PlainType) (e : Expression) (v : MonExpression) (t0 t1 t2 : MonStatements) → string_in e ≡ None → v ≡ result_by n e → t1 ≡ before t0 (prepare_by n e)
    → n1 ≡ with_registers (takes (unit_of n) e) n → k ≡ next_register n1.table → kind ≡ value_type t → t2 ≡ before t1 (stored_at r k d kind v) → t2 ≡ before t0 (fill_one_by n r d t e)
filled_value n n1 r d k kind t e v t0 t1 t2 is v_is first names k_is kind_is last =
    let k_at : k ≡ length (n.table.kinds ++ takes (unit_of n) e) = k_is ∙ ap (λ (m : Names). next_register m.table) names in
    last ∙ (λ i. before (first i) (stored_at r (k_at i) d (kind_is i) (v_is i)))
    ∙ before_assoc t0 (prepare_by n e) (stored_at r (length (n.table.kinds ++ takes (unit_of n) e)) d (value_type t) (result_by n e))
    ∙ filled_as n r d t e None t0 is

-- an object of its own
module _ (n : Names) (r : ℕ) (t : PlainType) (e : Expr) where
  abbrev chosen : Option ℕ → MonStatements
  chosen o =
      if not (is_there o) then before (prepare_by n (plain_expr e)) (store r t (result_by n (plain_expr e)))
      else fill_one (unit_of n) n.table.bound r 0 n.table.kinds t (string_in (plain_expr e)) (plain_expr e)

  value_initialised : string_in (plain_expr e) ≡ None → before (prepare_by n (plain_expr e)) (store r t (result_by n (plain_expr e))) ≡ initialise_one_by n r t e
  value_initialised is = ap chosen (sym is)

  -- from its parts
  pub value_done : (v : MonExpression) (t0 t1 t2 : MonStatements) → string_in (plain_expr e) ≡ None → v ≡ result_by n (plain_expr e) → t1 ≡ before t0 (prepare_by n (plain_expr e)) → t2 ≡ before t1 (store r t v)
      → t2 ≡ before t0 (initialise_one_by n r t e)
  value_done v t0 t1 t2 none v_is first last =
      last ∙ (λ i. before (first i) (store r t (v_is i))) ∙ before_assoc t0 (prepare_by n (plain_expr e)) (store r t (result_by n (plain_expr e))) ∙ ap (before t0) (value_initialised none)

-- a list in braces from its parts
module _ (n : Names) (r : ℕ) (u : PlainType) (at : Place) (is js : Initialisers) (cs : List (ℕ × PlainType)) (t0 t1 : MonStatements) (parts : cs ≡ parts_in (unit_of n).structs u) (same : is ≡ js) where
  pub many_filled : (d : ℕ) → t1 ≡ before t0 (fill_parts_by n r d cs is) → t1 ≡ before t0 (fill_by n r d u (Many at js))
  many_filled d last = last ∙ (λ i. before t0 (fill_parts_by n r d (parts i) (same i)))

  pub many_initialised : t1 ≡ before t0 (fill_parts_by n r 0 cs is) → t1 ≡ before t0 (initialise_object_by n r u (Many at js))
  many_initialised last = last ∙ (λ i. before t0 (fill_parts_by n r 0 (parts i) (same i)))

-- and its registers
module _ (n n1 : Names) (at : Place) (is js : Initialisers) (same : is ≡ js) (taken : n1 ≡ with_registers (parts_temporaries (unit_of n) is) n) where
  pub many_names : n1 ≡ with_registers (fill_temporaries (unit_of n) (Many at js)) n
  many_names = taken ∙ ap (λ l. with_registers (parts_temporaries (unit_of n) l) n) same

  pub object_names : n1 ≡ with_registers (object_temporaries (unit_of n) (Many at js)) n
  object_names = taken ∙ ap (λ l. with_registers (parts_temporaries (unit_of n) l) n) same

-- a variable of a function: one for which some stack may have room, and one for which none has
module _ (n : Names) (d : Declaration) (size : ℕ) where
  abbrev made : MonStatements
  made = initialise_by n (block_of n.table.bound (number_of d)) d.ctype d.init

  pub born_initialised : (block : ℕ) (t0 t1 : MonStatements) → size ≡ size_of (unit_of n).structs d.ctype → may_be_born size ≡ true → block ≡ block_of n.table.bound (number_of d) → t1 ≡ before t0 (initialise_by n block d.ctype d.init)
      → t1 ≡ before t0 (initialise_local_by n d)
  born_initialised block t0 t1 size_is born block_is put =
      let there = ap may_be_born (sym size_is) ∙ born in
      put ∙ ap (λ r. before t0 (initialise_by n r d.ctype d.init)) block_is ∙ ap (λ t. before t0 (if t then made else NoStatement)) (sym there)

  pub unborn_left : (t0 : MonStatements) → size ≡ size_of (unit_of n).structs d.ctype → may_be_born size ≡ false → t0 ≡ before t0 (initialise_local_by n d)
  unborn_left t0 size_is unborn = nothing t0 (initialise_local_by n d) (ap (λ t. if t then made else NoStatement) (ap may_be_born (sym size_is) ∙ unborn))
