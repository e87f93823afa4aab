-- What is in sight has registers that point to blocks, or is a global, and what is done at the births and deaths of blocks is valid.
use Rattle.std.proofs.Common.{◌≡◌, ℕ, suc, ◌≤◌, pos, Bool, true, false, cond, nat_eq, List, [], ◌∷◌, ◌++◌, Option, Some, None, slice_get, refl, sym, ap, ◌∙◌, subst, arith}
use Rattle.std.proofs.Math.Nat.{max-le}
use Rattle.c_syntax.specs.Statements.{Declaration}
use Rattle.c_syntax.specs.Programs.{StructType, TranslationUnit}
use Rattle.c_syntax.specs.Layouts.{size_of}
use Rattle.c_model.specs.Formed.{number_of}
use Rattle.c_model.specs.ExpressionTyping.{Object, Entity, AnObject, Sight, entity_named, has_name, or_else, with_object, with_objects, inner}
use Rattle.c_model.specs.ExpressionTyping.{Signature as Known}
use Rattle.mon_syntax.specs.declared.tree.MonType.{MonType}
use Rattle.mon_syntax.specs.declared.tree.MonType.TheVariants.{U64, Ptr}
use Rattle.mon_syntax.specs.Registers.{Bindings, RegisterTable}
use Rattle.mon_syntax.specs.Trees.{MonStatements}
use Rattle.mon_syntax.specs.Trees as tree
use Rattle.mon_syntax.specs.Valid.{Types, Labels, Signature, IsExpression, AreStatements, depth_of_all}
use Rattle.c_effects.specs.Expressions.{before}
use Rattle.track_scopes.specs.Blocks.{births, deaths, with_born}
use Rattle.instrument.specs.Translation.{alive}
use Rattle.annot_simulation.proofs.Depths.{deep_before}
use Rattle.annot_simulation.proofs.ValidParts.{before_valid}
use Rattle.instrument.proofs.Typed.{HasPointer, has_aim, Seen, AreSeen, Knows, is_global, Reaches, size_constant}
use Rattle.instrument.proofs.Tables.{HavePointers, Keeps, PointFrom, AllPoint, point_born}
use Rattle.instrument.proofs.Own.{AreOwn}

-- ---- what is in sight

abbrev pub object_of : Declaration → Object
object_of d = record { name = d.name; decl = number_of d; ctype = d.ctype }

-- the newest entity is found first
pub named_last : (x : ℕ) (es : List Entity) (o : Object) → entity_named x (es ++ AnObject o ∷ []) ≡ cond (nat_eq x o.name) (Some (AnObject o)) (entity_named x es)
named_last x [] o = refl
named_last x (b ∷ es) o =
    ap (λ r. or_else r (cond (has_name x b) (Some b) None)) (named_last x es o) ∙ by (nat_eq x o.name)
  where
    by : (t : Bool) → or_else (cond t (Some (AnObject o)) (entity_named x es)) (cond (has_name x b) (Some b) None) ≡ cond t (Some (AnObject o)) (or_else (entity_named x es) (cond (has_name x b) (Some b) None))
    by true = refl
    by false = refl

-- sizes that are limited
abbrev pub AreSmall : List StructType → List Declaration → Type 0
AreSmall structs [] = Unit {0}
AreSmall structs (d ∷ ds) = (size_of structs d.ctype ≤ 2147483647) × AreSmall structs ds

pub sees_declared : (p : TranslationUnit) (ts : Types) (bound : Bindings) (es : List Entity) (d : Declaration) (o : Object) → o.decl ≡ number_of d → nat_eq (number_of d) 4294967295 ≡ false → Reaches p ts bound (number_of d)
    → AreSeen p ts bound es → AreSeen p ts bound (es ++ AnObject o ∷ [])
sees_declared p ts bound es d o decl own h sees x b e = by (nat_eq x o.name) (sym (named_last x es o) ∙ e)
  where
    by : (t : Bool) → cond t (Some (AnObject o)) (entity_named x es) ≡ Some (AnObject b) → Seen p ts bound b.decl
    by true f =
        let same : o ≡ b = cc in
        subst (λ (i : Object). Seen p ts bound i.decl) same (subst (Seen p ts bound) (sym decl) (record { own = own; has = h }))
    by false f = sees x b f

-- where statements stand: registers point to the blocks of the objects in sight, and calls see these functions
pub record Sees (p : TranslationUnit) (ts : Types) (bound : Bindings) (functions : List Known) (s : Sight) : Type 0 where
  pub knows : Knows p ts bound s
  pub names_are : s.names ≡ p.names
  pub functions_are : s.functions ≡ functions

module _ (p : TranslationUnit) (ts : Types) (functions : List Known) where
  pub sees_inner : (bound : Bindings) (s : Sight) → Sees p ts bound functions s → Sees p ts bound functions (inner s)
  sees_inner bound s v = record {
    knows = record { sees = v.knows.sees; structs_are = v.knows.structs_are; texts_are = v.knows.texts_are; fits = v.knows.fits };
    names_are = v.names_are;
    functions_are = v.functions_are;
  }

  pub sees_object : (bound : Bindings) (s : Sight) (d : Declaration) → nat_eq (number_of d) 4294967295 ≡ false → Reaches p ts bound (number_of d) → Sees p ts bound functions s → Sees p ts bound functions (with_object s d)
  sees_object bound s d own h v = record {
    knows = record { sees = sees_declared p ts bound s.entities d (object_of d) refl own h v.knows.sees; structs_are = v.knows.structs_are; texts_are = v.knows.texts_are; fits = v.knows.fits };
    names_are = v.names_are;
    functions_are = v.functions_are;
  }

  pub sees_one : (bound : Bindings) (s : Sight) (d : Declaration) → nat_eq (number_of d) 4294967295 ≡ false → HasPointer ts bound (number_of d) → Sees p ts bound functions s → Sees p ts bound functions (with_object s d)
  sees_one bound s d own h v = sees_object bound s d own (has_aim ts (is_global p (number_of d)) bound (number_of d) h) v

  pub sees_behind : (bound : Bindings) (s : Sight) (ds : List Declaration) → AreOwn ds → HavePointers ts bound ds → Sees p ts bound functions s → Sees p ts bound functions (with_objects s ds)
  sees_behind bound s [] own h v = v
  sees_behind bound s (d ∷ ds) own h v = sees_behind bound (with_object s d) ds own.1 h.1 (sees_one bound s d own.0 h.0 v)

  -- after further bindings
  pub sees_later : (r after : RegisterTable) (s : Sight) → Keeps ts r after → Sees p ts r.bound functions s → Sees p ts after.bound functions s
  sees_later r after s k v = record {
    knows = record {
      sees = λ x b e. let i = v.knows.sees x b e in record { own = i.own; has = k b.decl (is_global p b.decl) i.has };
      structs_are = v.knows.structs_are;
      texts_are = v.knows.texts_are;
      fits = v.knows.fits;
    };
    names_are = v.names_are;
    functions_are = v.functions_are;
  }

-- ---- births and deaths

deep_births : (structs : List StructType) (r : ℕ) (ds : List Declaration) → depth_of_all (births structs r ds) ≤ 1
deep_births structs r [] = omega arith
deep_births structs r (d ∷ ds) = max-le (omega arith) (deep_births structs (suc r) ds)

pub deep_deaths : (live : List ℕ) → depth_of_all (deaths live) ≤ 1
deep_deaths [] = omega arith
deep_deaths (r ∷ live) = max-le (omega arith) (deep_deaths live)

pub deep_alive : (p : TranslationUnit) (r : ℕ) (ds : List Declaration) (a : MonStatements) (n : ℕ) → depth_of_all a ≤ n → 1 ≤ n → depth_of_all (alive p r ds a) ≤ n
deep_alive p r ds a n h le =
    let x = deep_births p.structs r ds in
    let y = deep_deaths (with_born r ds []) in
    deep_before (births p.structs r ds) (before a (deaths (with_born r ds []))) n (omega (arith, x, le))
    (deep_before a (deaths (with_born r ds [])) n h (omega (arith, y, le)))

module _ (g : ℕ) (gs : List Signature) (ts : Types) (result : Option MonType) (ls : Labels) where
  -- a block is born for an object
  pub birth_valid : (structs : List StructType) (r : ℕ) (d : Declaration) → size_of structs d.ctype ≤ 2147483647 → slice_get ts r ≡ Some Ptr → AreStatements g gs ts result ls (births structs r (d ∷ []))
  birth_valid structs r d o h =
      let size : IsExpression g ts (tree.Constant U64 (pos (size_of structs d.ctype))) U64 = record { typed = (refl, size_constant (size_of structs d.ctype) o); within = omega arith } in
      (((size, tt), h), tt)

  births_valid : (structs : List StructType) (r : ℕ) (ds : List Declaration) → AreSmall structs ds → PointFrom ts r ds → AreStatements g gs ts result ls (births structs r ds)
  births_valid structs r [] o h = tt
  births_valid structs r (d ∷ ds) o h = ((birth_valid structs r d o.0 h.0).0, births_valid structs (suc r) ds o.1 h.1)

  pub deaths_valid : (live : List ℕ) → AllPoint ts live → AreStatements g gs ts result ls (deaths live)
  deaths_valid [] h = tt
  deaths_valid (r ∷ live) h =
      let pointer : IsExpression g ts (tree.Register r) Ptr = record { typed = h.0; within = omega arith } in
      (((pointer, tt), tt), deaths_valid live h.1)

  pub alive_valid : (p : TranslationUnit) (r : ℕ) (ds : List Declaration) (a : MonStatements) → AreSmall p.structs ds → PointFrom ts r ds → AreStatements g gs ts result ls a → AreStatements g gs ts result ls (alive p r ds a)
  alive_valid p r ds a o h k =
      before_valid g gs ts result ls (births p.structs r ds) (before a (deaths (with_born r ds []))) (births_valid p.structs r ds o h)
      (before_valid g gs ts result ls a (deaths (with_born r ds [])) k (deaths_valid (with_born r ds []) (point_born ts r ds [] h tt)))
