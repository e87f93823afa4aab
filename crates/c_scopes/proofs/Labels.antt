-- Labels that are known, and the mark of the newest of each name.
use Rattle.std.proofs.Common.{◌≡◌, ℕ, List, [], ◌∷◌, ◌++◌, refl, sym, ap, ◌∙◌, subst, arith, map, append_assoc, cond, nat_eq, Bool, true, false, Option, Some, None, option_map}
use Rattle.std.proofs.lemmas.Bool.Decides.{nat_tests}
use Rattle.std.proofs.lemmas.List.{append-nil, map-append}
use Rattle.std.specs.Map.{lookup}
use Rattle.c_model.specs.ExpressionTyping as plain
use Rattle.c_model.specs.ExpressionTyping.{or_else}
use Rattle.c_model.specs.AnnotationSights.{marked}
use Rattle.c_scopes.specs.declared.sight.Mark.{Mark}
use Rattle.c_scopes.specs.declared.label.KnownLabel.{KnownLabel}
use Rattle.c_scopes.specs.KnownLabels.{known_labels, sight_of}
use Rattle.c_scopes.specs.Labels.{AreHidden, AreNewest, hidden_marks, hidden_of, mark_named, plain_mark, plain_marks}
use Rattle.c_scopes.proofs.Newest.{same_ends}

mark_last : (x : ℕ) (ls : List (ℕ × Mark)) (l : ℕ × Mark) → mark_named x (ls ++ l ∷ []) ≡ or_else (cond (nat_eq l.0 x) (Some l.1) None) (mark_named x ls)
mark_last x [] l = by (nat_eq l.0 x)
  where
    by : (b : Bool) → or_else {A = Mark} None (cond b (Some l.1) None) ≡ or_else {A = Mark} (cond b (Some l.1) None) None
    by true = refl
    by false = refl
mark_last x (k ∷ ls) l = ap (λ o. or_else o (cond (nat_eq k.0 x) (Some k.1) None)) (mark_last x ls l) ∙ by (nat_eq l.0 x) (mark_named x ls)
  where
    by : (b : Bool) (o : Option Mark) → or_else (or_else (cond b (Some l.1) None) o) (cond (nat_eq k.0 x) (Some k.1) None) ≡ or_else (cond b (Some l.1) None) (or_else o (cond (nat_eq k.0 x) (Some k.1) None))
    by true o = refl
    by false o = refl

pub marks_last : (ls all : List KnownLabel) (l : KnownLabel) → all ≡ ls ++ l ∷ [] → plain_marks all ≡ plain_marks ls ++ plain_mark l ∷ []
marks_last ls all l is = ap plain_marks is ∙ map-append plain_mark ls (l ∷ [])

-- ---- one more

pub newest_more : (ls more : List (ℕ × Mark)) (name : ℕ) (m : Mark) (newest newest1 : List (ℕ × Mark)) → more ≡ ls ++ (name, m) ∷ [] → ((x : ℕ) → lookup (nat_eq x) newest1 ≡ cond (nat_eq name x) (Some m) (lookup (nat_eq x) newest))
    → AreNewest ls newest → AreNewest more newest1
newest_more ls more name m newest newest1 is with_it are x = with_it x ∙ by (nat_eq name x) ∙ sym (mark_last x ls (name, m)) ∙ ap (mark_named x) (sym is)
  where
    by : (b : Bool) → cond b (Some m) (lookup (nat_eq x) newest) ≡ or_else (cond b (Some m) None) (mark_named x ls)
    by true = refl
    by false = are x

hidden_last : (front ls : List (ℕ × Mark)) (l : ℕ × Mark) → hidden_marks front (ls ++ l ∷ []) ≡ hidden_marks front ls ++ mark_named l.0 (front ++ ls) ∷ []
hidden_last front [] l = ap (λ m. mark_named l.0 m ∷ []) (sym (append-nil front))
hidden_last front (k ∷ ls) l =
    ap (λ m. mark_named k.0 front ∷ m) (hidden_last (front ++ k ∷ []) ls l ∙ ap (λ m. hidden_marks (front ++ k ∷ []) ls ++ mark_named l.0 m ∷ []) (append_assoc front (k ∷ []) ls))

marks_hidden : (ls : List KnownLabel) (l : KnownLabel) → hidden_marks [] (plain_marks (ls ++ l ∷ [])) ≡ hidden_marks [] (plain_marks ls) ++ mark_named l.name (plain_marks ls) ∷ []
marks_hidden ls l = ap (hidden_marks []) (map-append plain_mark ls (l ∷ [])) ∙ hidden_last [] (plain_marks ls) (plain_mark l)

pub hidden_more : (ls more : List KnownLabel) (l : KnownLabel) → more ≡ ls ++ l ∷ [] → l.hidden ≡ mark_named l.name (plain_marks ls) → AreHidden ls → AreHidden more
hidden_more ls more l is h are =
    ap (map hidden_of) is ∙ map-append hidden_of ls (l ∷ []) ∙ ap (λ m. m ++ l.hidden ∷ []) are ∙ ap (λ o. hidden_marks [] (plain_marks ls) ++ o ∷ []) h ∙ sym (marks_hidden ls l)
    ∙ ap (λ m. hidden_marks [] (plain_marks m)) (sym is)

-- ---- one less

-- what is known of the last, and of those before it
pub record IsLast (ls : List KnownLabel) (l : KnownLabel) : Type 0 where
  pub before : AreHidden ls
  pub hidden : l.hidden ≡ mark_named l.name (plain_marks ls)

pub hidden_less : (ls all : List KnownLabel) (l : KnownLabel) → all ≡ ls ++ l ∷ [] → AreHidden all → IsLast ls l
hidden_less ls all l is are =
    let e = sym (map-append hidden_of ls (l ∷ [])) ∙ ap (map hidden_of) (sym is) ∙ are ∙ ap (λ m. hidden_marks [] (plain_marks m)) is ∙ marks_hidden ls l in
    let same = same_ends (map hidden_of ls) (hidden_marks [] (plain_marks ls)) l.hidden (mark_named l.name (plain_marks ls)) e in
    record { before = same.front; hidden = same.last }

pub newest_before : (ls all : List (ℕ × Mark)) (name : ℕ) (m : Mark) (o : Option Mark) (newest newest1 : List (ℕ × Mark)) → all ≡ ls ++ (name, m) ∷ [] → o ≡ mark_named name ls
    → ((x : ℕ) → lookup (nat_eq x) newest1 ≡ cond (nat_eq name x) o (lookup (nat_eq x) newest)) → AreNewest all newest → AreNewest ls newest1
newest_before ls all name m o newest newest1 is hides without are x = without x ∙ by (nat_eq name x) refl
  where
    by : (b : Bool) → nat_eq name x ≡ b → cond b o (lookup (nat_eq x) newest) ≡ mark_named x ls
    by true e = let z : name ≡ x = grind (arith, nat_tests, e) in hides ∙ ap (λ y. mark_named y ls) z
    by false e = are x ∙ ap (mark_named x) is ∙ mark_last x ls (name, m) ∙ ap (λ b. or_else (cond b (Some m) None) (mark_named x ls)) e

-- the name of the last is known
pub last_known : (ls all : List (ℕ × Mark)) (name : ℕ) (m : Mark) (newest : List (ℕ × Mark)) → all ≡ ls ++ (name, m) ∷ [] → AreNewest all newest → lookup (nat_eq name) newest ≡ Some m
last_known ls all name m newest is are =
    let t : nat_eq name name ≡ true = grind (arith, nat_tests) in
    are name ∙ ap (mark_named name) is ∙ mark_last name ls (name, m) ∙ ap (λ b. or_else (cond b (Some m) None) (mark_named name ls)) t

-- ---- the labels with what is in sight of each

marked_last : (x : ℕ) (ls : List (ℕ × plain.Sight)) (l : ℕ × plain.Sight) → marked x (ls ++ l ∷ []) ≡ or_else (marked x ls) (cond (nat_eq l.0 x) (Some l.1) None)
marked_last x [] l = refl
marked_last x (k ∷ ls) l = by (nat_eq k.0 x) (marked_last x ls l)
  where
    by : (b : Bool) → marked x (ls ++ l ∷ []) ≡ or_else (marked x ls) (cond (nat_eq l.0 x) (Some l.1) None)
        → cond b (Some k.1) (marked x (ls ++ l ∷ [])) ≡ or_else (cond b (Some k.1) (marked x ls)) (cond (nat_eq l.0 x) (Some l.1) None)
    by true e = refl
    by false e = e

-- what is in sight of a label is that of its mark
pub marked_is : (s : plain.Sight) (x : ℕ) (ls : List (ℕ × Mark)) → marked x (known_labels s ls) ≡ option_map (sight_of s) (mark_named x ls)
marked_is s x [] = refl
marked_is s x (l ∷ ls) =
    marked_last x (known_labels s ls) (l.0, sight_of s l.1) ∙ ap (λ o. or_else o (cond (nat_eq l.0 x) (Some (sight_of s l.1)) None)) (marked_is s x ls) ∙ by (mark_named x ls) (nat_eq l.0 x)
  where
    by : (o : Option Mark) (b : Bool) → or_else (option_map (sight_of s) o) (cond b (Some (sight_of s l.1)) None) ≡ option_map (sight_of s) (or_else o (cond b (Some l.1) None))
    by (Some m) b = refl
    by None true = refl
    by None false = refl

-- one more label is the newest
pub known_more : (s : plain.Sight) (ls : List (ℕ × Mark)) (l : ℕ × Mark) → known_labels s (ls ++ l ∷ []) ≡ (l.0, sight_of s l.1) ∷ known_labels s ls
known_more s [] l = refl
known_more s (k ∷ ls) l = ap (λ xs. xs ++ (k.0, sight_of s k.1) ∷ []) (known_more s ls l)
