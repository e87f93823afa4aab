use Rattle.std.proofs.Common.{◌≡◌, ◌∙◌, ◌<◌, ◌+◌, rules, arith, ap, sym, subst, suc, [], ◌∷◌, ◌++◌, drop, length, slice_set, take, true, false, None, Some}
use Rattle.c_syntax.specs.Ctypes.{plain_type}
use Rattle.c_syntax.specs.declared.statement.Init as init
use Rattle.c_syntax.specs.Statements.{One, NoInitialiser, plain_init, plain_inits}
use Rattle.c_model.specs.DeclarationTyping.{initial_value, is_text_array, place_of_initialiser, slots_of, too_many, typed_alone, typed_initialiser, typed_items}
use Rattle.c_model.specs.ExpressionTyping.{is_scalar, typed}
use Rattle.c_model.specs.Checked.{one_part}
use Rattle.c_syntax.specs.Expressions.{Expression, place_of}
use Rattle.c_scopes.specs.Answers.{Answers}
use Rattle.c_scopes.specs.Sights.{plain_sight}
use Rattle.c_scopes.proofs.InPlace.{done, left, seen, split, unvisited_step, within_step}
use Rattle.c_declaration_rules.specs.Initialisers.{allowed, slot, without_braces}
use Rattle.c_declaration_rules.proofs.Initialisers.{part_list, scalar_list, slot_none, slot_some, text_list}
use Rattle.c_declaration_rules.proofs.Lists.{braces_off, same_at}
use Rattle.c_declaration_rules.proofs.Items.{SlotsBehind, item, items_refused, items_step, over_other, slots_at, slots_more}
use Rattle.c_declaration_rules.proofs.initialiser.+initialiser.Goals as goal

pub type_initialiser-returns-then-is_scalar : goal.type_initialiser-returns-then-is_scalar
type_initialiser-returns-then-is_scalar t c =
    let s = plain_sight c.args.sight.now in
    let ok = allowed s c.args.global in
    let ctype = plain_type c.args.t.now in
    let p : is_scalar ctype ≡ true = search rules in
    let h : Answers (λ (u : Unit {0}). plain_inits c.type_alone.new.items.items) (typed_alone s ok ctype (plain_inits c.in-Many.items.items)) c.type_alone.result = search rules in
    let whole = scalar_list s ok c.args.here c.in-Many._brace ctype c.in-Many.items c.type_alone.new.items c.type_alone.result p h in
    let there = subst (λ i. Answers (λ (u : Unit {0}). plain_init (init.Many c.in-Many._brace c.type_alone.new.items)) (typed_initialiser s ok c.args.here ctype (plain_init i)) c.type_alone.result) (sym c.in-Many.is) whole in
    search (rules, there)

pub type_initialiser-returns-else-is_text_array : goal.type_initialiser-returns-else-is_text_array
type_initialiser-returns-else-is_text_array t c =
    let s = plain_sight c.args.sight.now in
    let ok = allowed s c.args.global in
    let ctype = plain_type c.args.t.now in
    let p : is_scalar ctype ≡ false = search rules in
    let q : is_text_array ctype (plain_inits c.in-Many.items.items) ≡ false = search rules in
    let h : Answers (λ (u : Unit {0}). plain_inits c.type_items.new.items.items) (typed_items s ok (slots_of s ctype) (plain_inits c.in-Many.items.items)) c.type_items.result = search rules in
    let whole = part_list s ok c.args.here c.in-Many._brace ctype c.in-Many.items c.type_items.new.items c.type_items.result p q h in
    let there = subst (λ i. Answers (λ (u : Unit {0}). plain_init (init.Many c.in-Many._brace c.type_items.new.items)) (typed_initialiser s ok c.args.here ctype (plain_init i)) c.type_items.result) (sym c.in-Many.is) whole in
    search (rules, there)

pub type_items-loop-i-preserved : goal.type_items-loop-i-preserved
type_items-loop-i-preserved t c =
    let s = plain_sight c.args.sight.now in
    let ok = allowed s c.args.global in
    let ctype = plain_type c.args.t.now in
    let old = c.args.items.now.items in
    let cur = c.loop-i.items.items in
    let i = c.loop-i.i in
    let x = c.index_mut-in-Some.result.now in
    let y = c.type_initialiser-item.new.init in
    let u = plain_type c.in-Some.u.now in
    let sl = slots_of s ctype in
    let lt : i < length cur = search (rules, arith) in
    let was = seen old cur i x lt c.loop-i.invariant.unvisited c.index_mut-in-Some.ensures.value in
    let there : Some u ≡ slot s ctype i = search rules in
    let next = slot_some s ctype u i there in
    let more = slots_more (take i old) x sl (slots_at s ctype i) (slots_at s ctype (suc i)) u c.loop-i.invariant.slots next in
    let k : suc i ≡ i + 1 = omega arith in
    let behind : SlotsBehind (take (i + 1) old) sl (slots_at s ctype (i + 1)) =
    subst (λ l. SlotsBehind l sl (slots_at s ctype (i + 1))) (sym was) (subst (λ k. SlotsBehind (take i old ++ x ∷ []) sl (slots_at s ctype k)) k more) in
    let same : c.index.result.now ≡ x = same_at cur i c.index.result.now x lt c.index.ensures c.index_mut-in-Some.ensures.value in
    let place : c.place_of-place.result ≡ place_of_initialiser (plain_init x) = c.place_of-place.ensures ∙ ap (λ j. place_of_initialiser (plain_init j)) same in
    let first : Answers (λ (v : Unit {0}). plain_init y) (typed_initialiser s ok c.place_of-place.result u (plain_init x)) c.type_initialiser-item.result = search rules in
    let typed : Answers (λ (v : Unit {0}). plain_init y) (item s ok u x) c.type_initialiser-item.result = subst (λ p. Answers (λ (v : Unit {0}). plain_init y) (typed_initialiser s ok p u (plain_init x)) c.type_initialiser-item.result) place first in
    record {
      unvisited = unvisited_step old cur i y c.loop-i.invariant.unvisited;
      within = within_step cur i y lt;
      slots = behind;
      done = rw c.both-done.ensures.is (items_step s ok (take i old) (take (i + 1) old) (take i cur) (take (i + 1) (slice_set cur i y)) x y sl (slots_at s ctype i) (slots_at s ctype (suc i)) u
          c.loop-i.done c.type_initialiser-item.result was (done cur i y lt) c.loop-i.invariant.slots next c.loop-i.invariant.done typed);
    }

pub type_items-returns-in-None : goal.type_items-returns-in-None
type_items-returns-in-None t c =
    let s = plain_sight c.args.sight.now in
    let ok = allowed s c.args.global in
    let ctype = plain_type c.args.t.now in
    let old = c.args.items.now.items in
    let cur = c.loop-i.items.items in
    let i = c.loop-i.i in
    let x = c.index_mut.result.now in
    let now = slice_set cur i c.too_many.new.item in
    let sl = slots_of s ctype in
    let lt : i < length cur = search (rules, arith) in
    let none : None ≡ slot s ctype i = search rules in
    let next = slot_none s ctype i none in
    let rest = left old cur i x lt c.loop-i.invariant.unvisited c.index_mut.ensures.value in
    let all = split old i x (drop (i + 1) old) rest in
    let bad : Answers (λ (v : Unit {0}). plain_init x) (too_many s (plain_init x)) c.too_many.result =
    over_other s (λ (v : Unit {0}). NoInitialiser) (λ (v : Unit {0}). plain_init x) (plain_init x) c.too_many.result (c.too_many.ensures NoInitialiser) in
    let whole = items_refused s ok (take i old) x (drop (i + 1) old) old (plain_inits (take i cur)) (plain_inits now) (plain_init x) sl (slots_at s ctype i) c.loop-i.done c.both.result c.too_many.result all
    c.loop-i.invariant.slots next c.loop-i.invariant.done bad c.both.ensures.is in
    search (rules, whole)

pub type_initialiser-returns-in-Some : goal.type_initialiser-returns-in-Some
type_initialiser-returns-in-Some t c =
    let s = plain_sight c.args.sight.now in
    let ok = allowed s c.args.global in
    let ctype = plain_type c.args.t.now in
    let p : is_scalar ctype ≡ false = search rules in
    let q : is_text_array ctype (plain_inits c.in-Many.items.items) ≡ true = search rules in
    let new : c.replace.new.dest ≡ c.in-Some.inner = search rules in
    let popped : c.in-Many.items.items ≡ c.pop.new.self.items ++ c.in-Some.inner ∷ [] = search rules in
    let bare : plain_init c.replace.new.dest ≡ without_braces (plain_init (init.Many c.in-Many._brace c.in-Many.items)) = ap plain_init new ∙ braces_off c.in-Many._brace c.in-Many.items c.pop.new.self.items c.in-Some.inner popped in
    let h : (e : Expression) → plain_init c.replace.new.dest ≡ One e → Answers (λ (u : Unit {0}). plain_init c.type_bare.new.init) (one_part (typed s e) (initial_value s ok (place_of e) ctype e)) c.type_bare.result =
    λ e k. let z = c.type_bare.ensures e k in search (rules, z) in
    let whole = text_list s ok c.args.here c.in-Many._brace ctype c.in-Many.items (plain_init c.type_bare.new.init) c.replace.new.dest c.type_bare.result p q bare h in
    let there = subst (λ i. Answers (λ (u : Unit {0}). plain_init c.type_bare.new.init) (typed_initialiser s ok c.args.here ctype (plain_init i)) c.type_bare.result) (sym c.in-Many.is) whole in
    there
