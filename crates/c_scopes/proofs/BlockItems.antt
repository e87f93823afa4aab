-- The items of a block, one after another.
use Rattle.std.proofs.Common.{◌≡◌, List, [], ◌∷◌, ◌++◌, refl, sym, ap, ◌∙◌}
use Rattle.c_syntax.specs.declared.statement.Item.{Item}
use Rattle.c_syntax.specs.Statements.{BlockItem, BlockItems, NoItem, Then, plain_item, plain_items}
use Rattle.c_model.specs.Checked.{Checked, Good, Bad, one_part}

abbrev pub append : BlockItems → BlockItems → BlockItems
append NoItem js = js
append (Then i is) js = Then i (append is js)

append_none : (is : BlockItems) → append is NoItem ≡ is
append_none NoItem = refl
append_none (Then i is) = ap (Then i) (append_none is)

append_in_turn : (is js ks : BlockItems) → append (append is js) ks ≡ append is (append js ks)
append_in_turn NoItem js ks = refl
append_in_turn (Then i is) js ks = ap (Then i) (append_in_turn is js ks)

-- items before those of a block
abbrev pub behind_block : BlockItems → Checked BlockItems → Checked BlockItems
behind_block done c = one_part c (λ rest. Good (append done rest))

pub all_items : (done : BlockItems) → behind_block done (Good NoItem) ≡ Good done
all_items done = ap Good (append_none done)

pub plain_snoc : (xs : List Item) (x : Item) → plain_items (xs ++ x ∷ []) ≡ append (plain_items xs) (Then (plain_item x) NoItem)
plain_snoc [] x = refl
plain_snoc (y ∷ ys) x = ap (Then (plain_item y)) (plain_snoc ys x)

items_in_front : (done : BlockItems) (i : BlockItem) (c : Checked BlockItems) → behind_block done (one_part c (λ rest. Good (Then i rest))) ≡ behind_block (append done (Then i NoItem)) c
items_in_front done i (Good rest) = ap Good (sym (append_in_turn done (Then i NoItem) rest))
items_in_front done i (Bad f fs) = refl

module _ (done : BlockItems) (m : Checked BlockItem) (rest : BlockItem → Checked BlockItems)
  where
    next_item : (i : BlockItem) → m ≡ Good i → behind_block done (one_part m (λ i. one_part (rest i) (λ is. Good (Then i is)))) ≡ behind_block (append done (Then i NoItem)) (rest i)
    next_item i is = ap (λ c. behind_block done (one_part c (λ i. one_part (rest i) (λ is. Good (Then i is))))) is ∙ items_in_front done i (rest i)

-- one more item is there
pub items_more : (whole c : Checked BlockItems) (done done' : List Item) (x : Item) (m : Checked BlockItem) (rest : BlockItem → Checked BlockItems) → whole ≡ behind_block (plain_items done) c
    → c ≡ one_part m (λ i. one_part (rest i) (λ is. Good (Then i is))) → m ≡ Good (plain_item x) → done' ≡ done ++ x ∷ [] → whole ≡ behind_block (plain_items done') (rest (plain_item x))
items_more whole c done done' x m rest before is good more =
    before ∙ ap (behind_block (plain_items done)) is ∙ next_item (plain_items done) m rest (plain_item x) good
    ∙ ap (λ is. behind_block is (rest (plain_item x))) (sym (ap plain_items more ∙ plain_snoc done x))
