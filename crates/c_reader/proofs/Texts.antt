-- A text has one answer: its program, or its refusal.
use Rattle.std.proofs.Common.{◌≡◌, ℕ, List, Option, Some, None, Result, Ok, Err, refl, sym, ap, subst, ◌∙◌}
use Rattle.grammar.specs.Syntax as grammar
use Rattle.grammar.specs.Exact.{Accepts}
use Rattle.grammar.proofs.OneAnswer.{one_fault}
use Rattle.c_syntax.specs.declared.place.Place.{Place}
use Rattle.c_syntax.specs.Tokens.{PlainTokens}
use Rattle.c_syntax.specs.Programs.{TranslationUnit, PlainRefusal}
use Rattle.c_model.specs.CTokens.{tokens_of}
use Rattle.c_model.specs.Checked.{Fault, Checked, Good, Bad, least_fault, refusing}
use Rattle.c_model.specs.UnitTyping.{typed_unit, room_fault, main_fault}
use Rattle.c_model.specs.AnnotationTyping.{noted_unit}
use Rattle.c_model.specs.AnnotationRanges.{ranged_unit}
use Rattle.c_model.specs.ProgramGrammar.{texts_of, unit}
use Rattle.c_model.specs.Phases.{vocabulary, place_fault, IsRead, IsMisplaced, IsSyntaxFault, checked_refusal, main_refusal, AcceptedText, RefusedText, ByTokens, ByGrammar, ByPlaces, ByNamesAndTypes, ForRoom, ForMain, ByAnnotations, ByRanges}
use Rattle.c_model.specs.TokenWords.{syntax_refusal, refused_at_place}
use Rattle.c_parser.proofs.Answers.{fronts, limits}
use Rattle.c_parser.proofs.ExactPrograms.{one_unit}

abbrev pub Answer : Type 0
Answer = Result TranslationUnit PlainRefusal

-- ---- what names, types, room, `main` and ranges say of a tree

abbrev ranged : PlainTokens → Checked TranslationUnit → Answer
ranged ts (Good p) = Ok p
ranged ts (Bad f fs) = Err (checked_refusal ts (least_fault f fs))

abbrev noted : PlainTokens → Checked TranslationUnit → Answer
noted ts (Good p) = ranged ts (ranged_unit p)
noted ts (Bad f fs) = Err (checked_refusal ts (least_fault f fs))

abbrev entered : PlainTokens → TranslationUnit → Option Fault → Answer
entered ts p None = noted ts (noted_unit p)
entered ts p (Some f) = Err (main_refusal f)

abbrev housed : PlainTokens → TranslationUnit → Option Fault → Answer
housed ts p None = entered ts p (main_fault p.names p.funcs)
housed ts p (Some f) = Err (checked_refusal ts f)

abbrev settled : PlainTokens → Checked TranslationUnit → Answer
settled ts (Good p) = housed ts p (room_fault p)
settled ts (Bad f fs) = Err (checked_refusal ts (least_fault f fs))

abbrev pub of_tree : PlainTokens → TranslationUnit → Answer
of_tree ts p = settled ts (typed_unit p)

settled_fault : (ts : PlainTokens) (c : Checked TranslationUnit) (f : Fault) → refusing c ≡ Some f → settled ts c ≡ Err (checked_refusal ts f)
settled_fault ts (Good p) f e = absurd cc
settled_fault ts (Bad g gs) f e = let same : least_fault g gs ≡ f = cc in ap (λ x. Err (checked_refusal ts x)) same

noted_fault : (ts : PlainTokens) (c : Checked TranslationUnit) (f : Fault) → refusing c ≡ Some f → noted ts c ≡ Err (checked_refusal ts f)
noted_fault ts (Good p) f e = absurd cc
noted_fault ts (Bad g gs) f e = let same : least_fault g gs ≡ f = cc in ap (λ x. Err (checked_refusal ts x)) same

ranged_fault : (ts : PlainTokens) (c : Checked TranslationUnit) (f : Fault) → refusing c ≡ Some f → ranged ts c ≡ Err (checked_refusal ts f)
ranged_fault ts (Good p) f e = absurd cc
ranged_fault ts (Bad g gs) f e = let same : least_fault g gs ≡ f = cc in ap (λ x. Err (checked_refusal ts x)) same

-- ---- the answers on a text

-- the tokens are no program
record IsUnread (text : List ℕ) (a : Answer) : Type 0 where
  tokens : PlainTokens
  has : tokens_of text ≡ Ok tokens
  fault : grammar.ParseFault
  found : IsSyntaxFault tokens fault
  is : a ≡ Err (syntax_refusal tokens fault)

-- they are one, in which an annotation is misplaced, or a quantifier has no guard
record IsUnplaced (text : List ℕ) (a : Answer) : Type 0 where
  tokens : PlainTokens
  has : tokens_of text ≡ Ok tokens
  tree : TranslationUnit
  fault : Fault
  found : IsMisplaced tokens tree fault
  is : a ≡ Err (refused_at_place tokens fault.code fault.place)

-- they are one
record HasTree (text : List ℕ) (a : Answer) : Type 0 where
  tokens : PlainTokens
  has : tokens_of text ≡ Ok tokens
  tree : TranslationUnit
  read : IsRead tokens tree
  is : of_tree tokens tree ≡ a

data Answers (text : List ℕ) (a : Answer) : Type 0 where
  NoTokens : (r : PlainRefusal) → tokens_of text ≡ Err r → a ≡ Err r → Answers text a
  NoTree : IsUnread text a → Answers text a
  Unplaced : IsUnplaced text a → Answers text a
  Tree : HasTree text a → Answers text a

-- ---- one answer

one_tokens : (text : List ℕ) (ts us : PlainTokens) → tokens_of text ≡ Ok ts → tokens_of text ≡ Ok us → ts ≡ us
one_tokens text ts us e k = cc

broken_apart : (text : List ℕ) (r : PlainRefusal) (ts : PlainTokens) → tokens_of text ≡ Err r → tokens_of text ≡ Ok ts → ⊥
broken_apart text r ts e k = cc

one_broken : (text : List ℕ) (r s : PlainRefusal) → tokens_of text ≡ Err r → tokens_of text ≡ Err s → r ≡ s
one_broken text r s e k = cc

one_syntax_fault : (ts : PlainTokens) (f g : grammar.ParseFault) → IsSyntaxFault ts f → IsSyntaxFault ts g → f ≡ g
one_syntax_fault ts f g x y = one_fault (unit (vocabulary ts) ts.names (texts_of ts.list)) (fronts (vocabulary ts) ts.names (texts_of ts.list)) ts.list (limits (vocabulary ts) ts.names (texts_of ts.list)) f g x.refused y.refused

both_unread : (text : List ℕ) (a b : Answer) → IsUnread text a → IsUnread text b → a ≡ b
both_unread text a b x y =
    let same = one_tokens text y.tokens x.tokens y.has x.has in
    let moved = subst (λ (ts : PlainTokens). IsSyntaxFault ts y.fault) same y.found in
    let fault = one_syntax_fault x.tokens x.fault y.fault x.found moved in
    x.is ∙ (λ i. Err (syntax_refusal (sym same i) (fault i))) ∙ sym y.is

unread_apart : (text : List ℕ) (a b : Answer) → IsUnread text a → HasTree text b → ⊥
unread_apart text a b x y = x.found.unread (y.tree, None) (subst (λ (ts : PlainTokens). IsRead ts y.tree) (one_tokens text y.tokens x.tokens y.has x.has) y.read).reading

unread_placed : (text : List ℕ) (a b : Answer) → IsUnread text a → IsUnplaced text b → ⊥
unread_placed text a b x y =
    let moved = subst (λ (ts : PlainTokens). IsMisplaced ts y.tree y.fault) (one_tokens text y.tokens x.tokens y.has x.has) y.found in
    x.found.unread (y.tree, moved.at) moved.reading

-- tokens are read in one way, with one place of the first misplaced annotation
one_reading : (ts : PlainTokens) (p q : TranslationUnit) (m n : Option Place) → Accepts (unit (vocabulary ts) ts.names (texts_of ts.list)) ts.list (p, m) → Accepts (unit (vocabulary ts) ts.names (texts_of ts.list)) ts.list (q, n)
    → ◌≡◌ {A = TranslationUnit × Option Place} (p, m) (q, n)
one_reading ts p q m n x y = one_unit (vocabulary ts) ts.names (texts_of ts.list) ts.list (p, m) (q, n) x y

some_fault : (f g : Fault) → Some f ≡ Some g → f ≡ g
some_fault f g e = cc

fault_or_none : (f : Fault) → Some f ≡ None → ⊥
fault_or_none f e = cc

both_unplaced : (text : List ℕ) (a b : Answer) → IsUnplaced text a → IsUnplaced text b → a ≡ b
both_unplaced text a b x y =
    let same = one_tokens text y.tokens x.tokens y.has x.has in
    let moved = subst (λ (ts : PlainTokens). IsMisplaced ts y.tree y.fault) same y.found in
    let one = ap place_fault (one_reading x.tokens x.tree y.tree x.found.at moved.at x.found.reading moved.reading) in
    let fault = some_fault x.fault y.fault (sym x.found.is ∙ one ∙ moved.is) in
    x.is ∙ (λ i. Err (refused_at_place (sym same i) (fault i).code (fault i).place)) ∙ sym y.is

-- what is read with every annotation in its place and every quantifier guarded has no such fault
none_found : (ts : PlainTokens) (p : TranslationUnit) → IsRead ts p → place_fault (p, None) ≡ None
none_found ts p r = rw r.guarded refl

placed_apart : (text : List ℕ) (a b : Answer) → IsUnplaced text a → HasTree text b → ⊥
placed_apart text a b x y =
    let moved = subst (λ (ts : PlainTokens). IsRead ts y.tree) (one_tokens text y.tokens x.tokens y.has x.has) y.read in
    let one = ap place_fault (one_reading x.tokens x.tree y.tree x.found.at None x.found.reading moved.reading) in
    fault_or_none x.fault (sym x.found.is ∙ one ∙ none_found x.tokens y.tree moved)

both_trees : (text : List ℕ) (a b : Answer) → HasTree text a → HasTree text b → a ≡ b
both_trees text a b x y =
    let same = one_tokens text y.tokens x.tokens y.has x.has in
    let tree = ap (λ (z : TranslationUnit × Option Place). z.0) (one_reading x.tokens x.tree y.tree None None x.read.reading (subst (λ (ts : PlainTokens). IsRead ts y.tree) same y.read).reading) in
    sym x.is ∙ (λ i. of_tree (sym same i) (tree i)) ∙ y.is

one_answer : (text : List ℕ) (a b : Answer) → Answers text a → Answers text b → a ≡ b
one_answer text a b (NoTokens r e p) (NoTokens s k q) = p ∙ ap Err (one_broken text r s e k) ∙ sym q
one_answer text a b (NoTokens r e p) (NoTree y) = absurd (broken_apart text r y.tokens e y.has)
one_answer text a b (NoTokens r e p) (Tree y) = absurd (broken_apart text r y.tokens e y.has)
one_answer text a b (NoTokens r e p) (Unplaced y) = absurd (broken_apart text r y.tokens e y.has)
one_answer text a b (Unplaced x) (NoTokens s k q) = absurd (broken_apart text s x.tokens k x.has)
one_answer text a b (Unplaced x) (NoTree y) = absurd (unread_placed text b a y x)
one_answer text a b (Unplaced x) (Unplaced y) = both_unplaced text a b x y
one_answer text a b (Unplaced x) (Tree y) = absurd (placed_apart text a b x y)
one_answer text a b (NoTree x) (Unplaced y) = absurd (unread_placed text a b x y)
one_answer text a b (Tree x) (Unplaced y) = absurd (placed_apart text b a y x)
one_answer text a b (NoTree x) (NoTokens s k q) = absurd (broken_apart text s x.tokens k x.has)
one_answer text a b (NoTree x) (NoTree y) = both_unread text a b x y
one_answer text a b (NoTree x) (Tree y) = absurd (unread_apart text a b x y)
one_answer text a b (Tree x) (NoTokens s k q) = absurd (broken_apart text s x.tokens k x.has)
one_answer text a b (Tree x) (NoTree y) = absurd (unread_apart text b a y x)
one_answer text a b (Tree x) (Tree y) = both_trees text a b x y

-- ---- programs and refusals are answers

accepted : (text : List ℕ) (p : TranslationUnit) → AcceptedText text p → Answers text (Ok p)
accepted text p a = Tree (record {
  tokens = a.tokens;
  has = a.is_typed.tokens;
  tree = a.tree;
  read = a.is_typed.read;
  is = ap (settled a.tokens) a.is_typed.is ∙ ap (housed a.tokens a.typed) a.room ∙ ap (entered a.tokens a.typed) a.main ∙ ap (noted a.tokens) a.is_noted
      ∙ ap (ranged a.tokens) a.ranged;
})

refused : (text : List ℕ) (r : PlainRefusal) → RefusedText text r → Answers text (Err r)
refused text r (ByTokens e) = NoTokens r e refl
refused text r (ByGrammar ts f e g is) = NoTree (record { tokens = ts; has = e; fault = f; found = g; is = ap Err is })
refused text r (ByPlaces ts p f e g is) = Unplaced (record { tokens = ts; has = e; tree = p; fault = f; found = g; is = ap Err is })
refused text r (ByNamesAndTypes ts p f e g k is) = Tree (record { tokens = ts; has = e; tree = p; read = g; is = settled_fault ts (typed_unit p) f k ∙ ap Err (sym is) })
refused text r (ForRoom ts p t f h k is) =
    Tree (record { tokens = ts; has = h.tokens; tree = p; read = h.read; is = ap (settled ts) h.is ∙ ap (housed ts t) k ∙ ap Err (sym is) })
refused text r (ForMain ts p t f h l k is) =
    Tree (record { tokens = ts; has = h.tokens; tree = p; read = h.read; is = ap (settled ts) h.is ∙ ap (housed ts t) l ∙ ap (entered ts t) k ∙ ap Err (sym is) })
refused text r (ByAnnotations ts p t f h l m k is) =
    Tree (record { tokens = ts; has = h.tokens; tree = p; read = h.read; is = ap (settled ts) h.is ∙ ap (housed ts t) l ∙ ap (entered ts t) m ∙ noted_fault ts (noted_unit t) f k ∙ ap Err (sym is) })
refused text r (ByRanges ts p t n f h l m e k is) = Tree (record {
  tokens = ts;
  has = h.tokens;
  tree = p;
  read = h.read;
  is = ap (settled ts) h.is ∙ ap (housed ts t) l ∙ ap (entered ts t) m ∙ ap (noted ts) e ∙ ranged_fault ts (ranged_unit n) f k ∙ ap Err (sym is);
})

-- ---- the laws

abbrev program : TranslationUnit → Answer
program p = Ok p

abbrev refusal : PlainRefusal → Answer
refusal r = Err r

program_is : (p q : TranslationUnit) → program p ≡ program q → p ≡ q
program_is p q e = cc

refusal_is : (r s : PlainRefusal) → refusal r ≡ refusal s → r ≡ s
refusal_is r s e = cc

not_both : (p : TranslationUnit) (r : PlainRefusal) → program p ≡ refusal r → ⊥
not_both p r e = cc

pub one_program : (text : List ℕ) (p q : TranslationUnit) → AcceptedText text p → AcceptedText text q → p ≡ q
one_program text p q a b = program_is p q (one_answer text (Ok p) (Ok q) (accepted text p a) (accepted text q b))

pub apart : (text : List ℕ) (p : TranslationUnit) (r : PlainRefusal) → AcceptedText text p → RefusedText text r → ⊥
apart text p r a b = not_both p r (one_answer text (Ok p) (Err r) (accepted text p a) (refused text r b))

pub one_refusal : (text : List ℕ) (r s : PlainRefusal) → RefusedText text r → RefusedText text s → r ≡ s
one_refusal text r s a b = refusal_is r s (one_answer text (Err r) (Err s) (refused text r a) (refused text s b))
