-- Statements one after another.
use Rattle.std.proofs.Common.{◌≡◌, ℕ, suc, ◌+◌, ◌<◌, ◌≤◌, List, [], ◌∷◌, ◌++◌, length, length-drop, drop, get_or, refl, ap, sym, ◌∙◌, arith}
use Rattle.std.proofs.lemmas.List.{nil_from_length, append-nil, append_assoc}
use Rattle.std.proofs.Math.Seq.{drop-cons}
use Rattle.mon_syntax.specs.declared.tree.MonStmt.{MonStmt}
use Rattle.mon_syntax.specs.declared.tree.MonType.{MonType}
use Rattle.mon_syntax.specs.Trees.{MonStatements, NoStatement, Then, plain_stmt, plain_stmts}
use Rattle.mon_syntax.specs.Registers.{Names, with_table}
use Rattle.c_effects.specs.Expressions.{before, one}
use Rattle.c_effects.specs.Named.{with_registers}

pub before_assoc : (a b c : MonStatements) → before (before a b) c ≡ before a (before b c)
before_assoc NoStatement b c = refl
before_assoc (Then x a) b c = ap (Then x) (before_assoc a b c)

pub before_none : (a : MonStatements) → before a NoStatement ≡ a
before_none NoStatement = refl
before_none (Then x a) = ap (Then x) (before_none a)

-- nothing more stands there
pub nothing : (a part : MonStatements) → part ≡ NoStatement → a ≡ before a part
nothing a part none = sym (before_none a) ∙ ap (before a) (sym none)

-- a statement pushed onto a vector
pub stmts_push : (l : List MonStmt) (s : MonStmt) → plain_stmts (l ++ s ∷ []) ≡ before (plain_stmts l) (one (plain_stmt s))
stmts_push [] s = refl
stmts_push (a ∷ l) s = ap (Then (plain_stmt a)) (stmts_push l s)

-- all statements of a vector moved onto another
pub stmts_append : (l m : List MonStmt) → plain_stmts (l ++ m) ≡ before (plain_stmts l) (plain_stmts m)
stmts_append [] m = refl
stmts_append (a ∷ l) m = ap (Then (plain_stmt a)) (stmts_append l m)

-- ---- a loop over a list: what is left of it, and what the loop keeps

pub left_at : {A B : Type 0} (f : List A → B) (l : List A) (i : ℕ) (x y : A) → i < length l → x ≡ get_or l i x → x ≡ y → f (drop i l) ≡ f (y ∷ drop (i + 1) l)
left_at f l i x y lt e same =
    let next : suc i ≡ i + 1 = omega arith in
    ap f (drop-cons l i x lt) ∙ ap (λ z. f (z ∷ drop (suc i) l)) (sym e ∙ same) ∙ ap (λ j. f (y ∷ drop j l)) next

pub none_left : {A B : Type 0} (f : List A → B) (l : List A) (i : ℕ) → length l ≤ i → f (drop i l) ≡ f []
none_left f l i le = ap f (nil_from_length (drop i l) (omega (arith, length-drop i l)))

-- one more part stands there
pub more : {t' left all : MonStatements} (t part rest : MonStatements) → left ≡ before part rest → t' ≡ before t part → before t left ≡ all → before t' rest ≡ all
more t part rest first put kept =
    ap (λ a. before a rest) put ∙ before_assoc t part rest ∙ ap (before t) (sym first) ∙ kept

-- no part is left
pub all_there : {t left all : MonStatements} → left ≡ NoStatement → before t left ≡ all → t ≡ all
all_there {t} {left} {all} none kept = sym (before_none t) ∙ ap (before t) (sym none) ∙ kept

-- one more part of the code stands there, after which what is left begins with other names
pub more_behind : {N : Type 0} {t' left all : MonStatements} {n : N} (t part : MonStatements) (m : N) (rest : N → MonStatements) → left ≡ before part (rest m) → t' ≡ before t part → n ≡ m
    → before t left ≡ all → before t' (rest n) ≡ all
more_behind {t'} t part m rest first put names kept = ap (λ r. before t' (rest r)) names ∙ more t part (rest m) first put kept

-- ---- lists

-- one more part stands in a list
pub grown : {B : Type 0} {t' left all : List B} (t part rest : List B) → left ≡ part ++ rest → t' ≡ t ++ part → t ++ left ≡ all → t' ++ rest ≡ all
grown t part rest first put kept =
    ap (λ a. a ++ rest) put ∙ append_assoc t part rest ∙ ap (λ a. t ++ a) (sym first) ∙ kept

-- no part is left
pub complete : {B : Type 0} {left all : List B} (t : List B) → left ≡ [] → t ++ left ≡ all → t ≡ all
complete t none kept = sym (append-nil t) ∙ ap (λ a. t ++ a) (sym none) ∙ kept

-- one more part of a list, after which what is left begins with other names
pub grown_behind : {B N : Type 0} {t' left all : List B} {n : N} (t part : List B) (m : N) (rest : N → List B) → left ≡ part ++ rest m → t' ≡ t ++ part → n ≡ m → t ++ left ≡ all
    → t' ++ rest n ≡ all
grown_behind {t' = t'} t part m rest first put names kept = ap (λ r. t' ++ rest r) names ∙ grown t part (rest m) first put kept

-- ---- registers

pub registers_then : (ts us : List MonType) (n : Names) → with_registers us (with_registers ts n) ≡ with_registers (ts ++ us) n
registers_then ts us n = ap (λ (l : List MonType). with_table (record { kinds = l; bound = n.table.bound }) n) (append_assoc n.table.kinds ts us)

-- further registers, and what is left of them
pub registers_grown : {n' all : Names} {left : List MonType} (n : Names) (ts rest : List MonType) → left ≡ ts ++ rest → n' ≡ with_registers ts n → with_registers left n ≡ all → with_registers rest n' ≡ all
registers_grown n ts rest first names kept = ap (with_registers rest) names ∙ registers_then ts rest n ∙ ap (λ l. with_registers l n) (sym first) ∙ kept

pub registers_complete : {all : Names} {left : List MonType} (n : Names) → left ≡ [] → with_registers left n ≡ all → n ≡ all
registers_complete n none kept =
    ap (λ (l : List MonType). with_table (record { kinds = l; bound = n.table.bound }) n) (sym (append-nil n.table.kinds)) ∙ ap (λ l. with_registers l n) (sym none) ∙ kept
