-- A text has one answer: the program that it spells, or its refusal.
use Rattle.std.proofs.Common.{◌≡◌, ℕ, List, Option, Some, None, Result, Ok, Err, refl, sym, ap, subst, ◌∙◌}
use Rattle.grammar.specs.Syntax as grammar
use Rattle.grammar.specs.Exact.{Refused}
use Rattle.grammar.proofs.Theorem.{fronts_begin}
use Rattle.grammar.proofs.OneAnswer.{one_fault}
use Rattle.c_syntax.specs.Tokens.{PlainTokens}
use Rattle.c_syntax.specs.Programs.{PlainRefusal}
use Rattle.c_model.specs.MonitoredTokens.{monitored_tokens}
use Rattle.c_model.specs.TokenWords.{syntax_refusal}
use Rattle.mon_syntax.specs.Trees.{MonitoredProgram}
use Rattle.mon_syntax.specs.Parsed.{ParsedProgram}
use Rattle.mon_syntax.specs.Grammar.{text}
use Rattle.mon_syntax.specs.Checking.{Checked}
use Rattle.mon_syntax.specs.Spelled.{vocabulary, IsRead, checked, check_refusal, last_refusal, Spells, IsMonitoredRefusal, ByTokens, ByGrammar, ByNamesAndTypes, AsAWhole}
use Rattle.mon_syntax.proofs.ExactTexts.{text_exact}
use Rattle.mon_parser.proofs.Answers.{one}

abbrev Answer : Type 0
Answer = Result MonitoredProgram PlainRefusal

-- ---- what names, types and the last phase say of a tree

abbrev entered : MonitoredProgram → Option PlainRefusal → Answer
entered m None = Ok m
entered m (Some r) = Err r

abbrev settled : PlainTokens → ParsedProgram → Checked MonitoredProgram → Answer
settled ts p (Ok m) = entered m (last_refusal ts.names p)
settled ts p (Err f) = Err (check_refusal ts f)

abbrev of_tree : PlainTokens → ParsedProgram → Answer
of_tree ts p = settled ts p (checked ts p)

-- ---- the answers on a text

-- the tokens are no reading
record IsUnread (source : List ℕ) (a : Answer) : Type 0 where
  tokens : PlainTokens
  has : monitored_tokens source ≡ Ok tokens
  fault : grammar.ParseFault
  refused : Refused (text (vocabulary tokens)) tokens.list fault
  unread : (p : ParsedProgram) → IsRead tokens p → ⊥
  is : a ≡ Err (syntax_refusal tokens fault)

-- they are a reading
record HasTree (source : List ℕ) (a : Answer) : Type 0 where
  tokens : PlainTokens
  has : monitored_tokens source ≡ Ok tokens
  tree : ParsedProgram
  read : IsRead tokens tree
  is : of_tree tokens tree ≡ a

data Answers (source : List ℕ) (a : Answer) : Type 0 where
  NoTokens : (r : PlainRefusal) → monitored_tokens source ≡ Err r → a ≡ Err r → Answers source a
  NoTree : IsUnread source a → Answers source a
  Tree : HasTree source a → Answers source a

-- ---- one answer

one_tokens : (source : List ℕ) (ts us : PlainTokens) → monitored_tokens source ≡ Ok ts → monitored_tokens source ≡ Ok us → ts ≡ us
one_tokens source ts us e k = cc

broken_apart : (source : List ℕ) (r : PlainRefusal) (ts : PlainTokens) → monitored_tokens source ≡ Err r → monitored_tokens source ≡ Ok ts → ⊥
broken_apart source r ts e k = cc

one_broken : (source : List ℕ) (r s : PlainRefusal) → monitored_tokens source ≡ Err r → monitored_tokens source ≡ Err s → r ≡ s
one_broken source r s e k = cc

one_grammar_fault : (ts : PlainTokens) (f g : grammar.ParseFault) → Refused (text (vocabulary ts)) ts.list f → Refused (text (vocabulary ts)) ts.list g → f ≡ g
one_grammar_fault ts = one_fault (text (vocabulary ts)) (fronts_begin (text (vocabulary ts)) _ _ _ (text_exact (vocabulary ts))) ts.list ((text_exact (vocabulary ts)).one_limit)

both_unread : (source : List ℕ) (a b : Answer) → IsUnread source a → IsUnread source b → a ≡ b
both_unread source a b x y =
    let same = one_tokens source y.tokens x.tokens y.has x.has in
    let moved = subst (λ (ts : PlainTokens). Refused (text (vocabulary ts)) ts.list y.fault) same y.refused in
    let fault = one_grammar_fault x.tokens x.fault y.fault x.refused moved in
    x.is ∙ (λ i. Err (syntax_refusal (sym same i) (fault i))) ∙ sym y.is

unread_apart : (source : List ℕ) (a b : Answer) → IsUnread source a → HasTree source b → ⊥
unread_apart source a b x y = x.unread y.tree (subst (λ (ts : PlainTokens). IsRead ts y.tree) (one_tokens source y.tokens x.tokens y.has x.has) y.read)

both_trees : (source : List ℕ) (a b : Answer) → HasTree source a → HasTree source b → a ≡ b
both_trees source a b x y =
    let same = one_tokens source y.tokens x.tokens y.has x.has in
    let tree = one (vocabulary x.tokens) x.tokens.list x.tree y.tree x.read (subst (λ (ts : PlainTokens). IsRead ts y.tree) same y.read) in
    sym x.is ∙ (λ i. of_tree (sym same i) (tree i)) ∙ y.is

one_answer : (source : List ℕ) (a b : Answer) → Answers source a → Answers source b → a ≡ b
one_answer source a b (NoTokens r e p) (NoTokens s k q) = p ∙ ap Err (one_broken source r s e k) ∙ sym q
one_answer source a b (NoTokens r e p) (NoTree y) = absurd (broken_apart source r y.tokens e y.has)
one_answer source a b (NoTokens r e p) (Tree y) = absurd (broken_apart source r y.tokens e y.has)
one_answer source a b (NoTree x) (NoTokens s k q) = absurd (broken_apart source s x.tokens k x.has)
one_answer source a b (NoTree x) (NoTree y) = both_unread source a b x y
one_answer source a b (NoTree x) (Tree y) = absurd (unread_apart source a b x y)
one_answer source a b (Tree x) (NoTokens s k q) = absurd (broken_apart source s x.tokens k x.has)
one_answer source a b (Tree x) (NoTree y) = absurd (unread_apart source b a y x)
one_answer source a b (Tree x) (Tree y) = both_trees source a b x y

-- ---- programs and refusals are answers

spelled : (source : List ℕ) (m : MonitoredProgram) → Spells source m → Answers source (Ok m)
spelled source m s = Tree (record { tokens = s.tokens; has = s.has; tree = s.tree; read = s.read; is = ap (settled s.tokens s.tree) s.is ∙ ap (entered m) s.whole })

refused : (source : List ℕ) (r : PlainRefusal) → IsMonitoredRefusal source r → Answers source (Err r)
refused source r (ByTokens e) = NoTokens r e refl
refused source r (ByGrammar ts f e g u is) = NoTree (record { tokens = ts; has = e; fault = f; refused = g; unread = u; is = ap Err is })
refused source r (ByNamesAndTypes ts p f e g k is) = Tree (record { tokens = ts; has = e; tree = p; read = g; is = ap (settled ts p) k ∙ ap Err (sym is) })
refused source r (AsAWhole ts p m e g k is) = Tree (record { tokens = ts; has = e; tree = p; read = g; is = ap (settled ts p) k ∙ ap (entered m) is })

-- ---- the laws

abbrev program : MonitoredProgram → Answer
program m = Ok m

abbrev refusal : PlainRefusal → Answer
refusal r = Err r

program_is : (m n : MonitoredProgram) → program m ≡ program n → m ≡ n
program_is m n e = cc

no_refusal : (m : MonitoredProgram) (r : PlainRefusal) → program m ≡ refusal r → ⊥
no_refusal m r e = cc

refusal_is : (r s : PlainRefusal) → refusal r ≡ refusal s → r ≡ s
refusal_is r s e = cc

pub one_spelled : (text : List ℕ) (m n : MonitoredProgram) → Spells text m → Spells text n → m ≡ n
one_spelled source m n s t = program_is m n (one_answer source (Ok m) (Ok n) (spelled source m s) (spelled source n t))

pub spelled_apart : (text : List ℕ) (m : MonitoredProgram) (r : PlainRefusal) → Spells text m → IsMonitoredRefusal text r → ⊥
spelled_apart source m r s h = no_refusal m r (one_answer source (Ok m) (Err r) (spelled source m s) (refused source r h))

pub one_monitored_refusal : (text : List ℕ) (r s : PlainRefusal) → IsMonitoredRefusal text r → IsMonitoredRefusal text s → r ≡ s
one_monitored_refusal source r s h k = refusal_is r s (one_answer source (Err r) (Err s) (refused source r h) (refused source s k))
