-- What is in sight after the items of a block.
use Rattle.std.proofs.Common.{◌≡◌, ℕ, List, [], ◌∷◌, ◌++◌, refl, sym, ap, ◌∙◌, append_assoc, length, Bool, true, false, cond}
use Rattle.std.proofs.lemmas.List.{append-nil}
use Rattle.std.proofs.Math.Seq.{take-append_seam}
use Rattle.c_syntax.specs.declared.statement.Item.{Item}
use Rattle.c_syntax.specs.Statements.{Declaration, BlockItem, Declare, Specify, Run, Asserts, BlockItems, NoItem, Then, ForFirst, NoFirst, First, plain_item, plain_items}
use Rattle.c_model.specs.ExpressionTyping.{Sight, Entity, inner, with_object, with_objects, AnObject}
use Rattle.c_model.specs.StatementTyping.{behind, behind_first}
use Rattle.c_model.specs.UnitTyping.{with_parameter, with_parameters}
use Rattle.c_scopes.specs.Sights.{left}
use Rattle.c_function_rules.specs.Blocks.{behind_items}
use Rattle.c_scopes.proofs.BlockItems.{append, plain_snoc}

behind_snoc : (s : Sight) (is : BlockItems) (i : BlockItem) → behind_items s (append is (Then i NoItem)) ≡ behind (behind_items s is) i
behind_snoc s NoItem i = refl
behind_snoc s (Then j js) i = behind_snoc (behind s j) js i

-- what is in sight after one more item
pub sight_more : (s t t' : Sight) (done done' : List Item) (x : Item) → t ≡ behind_items s (plain_items done) → t' ≡ behind t (plain_item x) → done' ≡ done ++ x ∷ [] → t' ≡ behind_items s (plain_items done')
sight_more s t t' done done' x before now more =
    now ∙ ap (λ u. behind u (plain_item x)) before ∙ sym (behind_snoc s (plain_items done) (plain_item x))
    ∙ ap (behind_items s) (sym (ap plain_items more ∙ plain_snoc done x))

-- ---- what is in sight after a block

-- more objects, and another innermost scope
abbrev wider : Sight → ℕ → List Entity → Sight
wider s n more = record s { entities = s.entities ++ more; innermost = n }

-- what is wider than s
record Widens (s t : Sight) : Type 0 where
  from : ℕ
  more : List Entity
  is : t ≡ wider s from more

widens_inner : (s : Sight) → Widens s (inner s)
widens_inner s = record { from = length s.entities; more = []; is = ap (λ os. record s { entities = os; innermost = length s.entities }) (sym (append-nil s.entities)) }

widens_object : (s t : Sight) (d : Declaration) → Widens s t → Widens s (with_object t d)
widens_object s t d w = record {
  from = w.from;
  more = w.more ++ AnObject (record { name = d.name; decl = d.place.offset; ctype = d.ctype }) ∷ [];
  is = ap (λ u. with_object u d) w.is ∙ ap (λ os. record s { entities = os; innermost = w.from }) (append_assoc s.entities w.more _);
}

widens_objects : (s t : Sight) (ds : List Declaration) → Widens s t → Widens s (with_objects t ds)
widens_objects s t [] w = w
widens_objects s t (d ∷ ds) w = widens_objects s (with_object t d) ds (widens_object s t d w)

widens_behind : (s t : Sight) (i : BlockItem) → Widens s t → Widens s (behind t i)
widens_behind s t (Declare ds) w = widens_objects s t ds w
widens_behind s t (Specify at u) w = w
widens_behind s t (Run a) w = w
widens_behind s t (Asserts annots) w = w

widens_items : (s t : Sight) (is : BlockItems) → Widens s t → Widens s (behind_items t is)
widens_items s t NoItem w = w
widens_items s t (Then i is) w = widens_items s (behind t i) is (widens_behind s t i w)

widens_first : (s t : Sight) (i : ForFirst) → Widens s t → Widens s (behind_first t i)
widens_first s t NoFirst w = w
widens_first s t (First i) w = widens_behind s t i w

left_wider : (s t : Sight) → Widens s t → left (length s.entities) s.innermost t ≡ s
left_wider s t w = ap (left (length s.entities) s.innermost) w.is ∙ ap (λ os. record s { entities = os }) (take-append_seam s.entities w.more)

-- after a block what was in sight before it is
pub left_block : (s : Sight) (is : BlockItems) → left (length s.entities) s.innermost (behind_items (inner s) is) ≡ s
left_block s is = left_wider s _ (widens_items s (inner s) is (widens_inner s))

pub left_for : (s : Sight) (i : ForFirst) → left (length s.entities) s.innermost (behind_first (inner s) i) ≡ s
left_for s i = left_wider s _ (widens_first s (inner s) i (widens_inner s))

widens_same : (s : Sight) → Widens s s
widens_same s = record { from = s.innermost; more = []; is = ap (λ os. record s { entities = os }) (sym (append-nil s.entities)) }

pub left_body : (s : Sight) (is : BlockItems) → left (length s.entities) s.innermost (behind_items s is) ≡ s
left_body s is = left_wider s _ (widens_items s s is (widens_same s))

widens_parameter : (s t : Sight) (d : Declaration) → Widens s t → Widens s (with_parameter t d)
widens_parameter s t d w = by d.named
  where
    by : (b : Bool) → Widens s (cond b (with_object t d) t)
    by true = widens_object s t d w
    by false = w

widens_parameters : (s t : Sight) (ds : List Declaration) → Widens s t → Widens s (with_parameters t ds)
widens_parameters s t [] w = w
widens_parameters s t (d ∷ ds) w = widens_parameters s (with_parameter t d) ds (widens_parameter s t d w)

pub left_parameters : (s : Sight) (ds : List Declaration) → left (length s.entities) s.innermost (with_parameters (inner s) ds) ≡ s
left_parameters s ds = left_wider s _ (widens_parameters s (inner s) ds (widens_inner s))
