-- What is in sight at marks, while more is declared.
use Rattle.std.proofs.Common.{◌≡◌, ℕ, ◌≤◌, List, [], ◌∷◌, ◌++◌, refl, ap, ◌∙◌, length}
use Rattle.std.proofs.lemmas.List.{take-append-le}
use Rattle.std.proofs.Math.Seq.{take-length}
use Rattle.c_syntax.specs.Statements.{Declaration}
use Rattle.c_model.specs.ExpressionTyping.{AnObject, Sight, inner, with_object}
use Rattle.c_scopes.specs.declared.sight.Mark.{Mark}
use Rattle.c_scopes.specs.KnownLabels.{known_labels, sight_of}
use Rattle.c_scopes.specs.Sights.{left}

-- what is in sight here
pub here_left : (s : Sight) → left (length s.entities) s.innermost s ≡ s
here_left s = ap (λ es. record s { entities = es }) (take-length s.entities)

pub here_is : (s : Sight) (m : Mark) → m ≡ record { count = length s.entities; innermost = s.innermost } → sight_of s m ≡ s
here_is s m is = (λ i. left (is i).count (is i).innermost s) ∙ here_left s

-- marks at which no more is in sight than so many objects and enumerators
abbrev pub AreWithin : ℕ → List (ℕ × Mark) → Type 0
AreWithin n [] = Unit {0}
AreWithin n (l ∷ ls) = (l.1.count ≤ n) × AreWithin n ls

-- the mark where a body begins, and those of labels in it
abbrev pub AreKnown : Sight → Mark → List (ℕ × Mark) → Type 0
AreKnown s begin ls = (begin.count ≤ length s.entities) × AreWithin (length s.entities) ls

-- what is in sight at a mark stays where a scope begins
pub left_inner : (m : Mark) (s : Sight) → left m.count m.innermost (inner s) ≡ left m.count m.innermost s
left_inner m s = refl

pub known_inner : (s : Sight) (ls : List (ℕ × Mark)) → known_labels (inner s) ls ≡ known_labels s ls
known_inner s [] = refl
known_inner s (l ∷ ls) = ap (λ xs. xs ++ (l.0, sight_of s l.1) ∷ []) (known_inner s ls)

-- and while more is declared
pub left_more : (m : Mark) (s : Sight) (d : Declaration) → m.count ≤ length s.entities → left m.count m.innermost (with_object s d) ≡ left m.count m.innermost s
left_more m s d le =
    ap (λ es. record s { entities = es; innermost = m.innermost })
    (take-append-le m.count s.entities (AnObject (record { name = d.name; decl = d.place.offset; ctype = d.ctype }) ∷ []) le)

pub known_kept : (s : Sight) (d : Declaration) (ls : List (ℕ × Mark)) → AreWithin (length s.entities) ls → known_labels (with_object s d) ls ≡ known_labels s ls
known_kept s d [] within = refl
known_kept s d (l ∷ ls) within = (λ i. known_kept s d ls within.1 i ++ (l.0, left_more l.1 s d within.0 i) ∷ [])
