-- Lists of parts, one after another.
use Rattle.std.proofs.Common.{◌≡◌, List, [], ◌∷◌, ◌++◌, refl, sym, ap, ◌∙◌, map, append_assoc, Result, Ok, Err}
use Rattle.std.proofs.lemmas.List.{append-nil, map-append}
use Rattle.c_model.specs.Checked.{Checked, Good, Bad, one_part}
use Rattle.c_scopes.specs.declared.fault.TypeFault.{TypeFault}
use Rattle.c_scopes.specs.declared.fault.TypeFault.TheVariants.{Refused, Memory}
use Rattle.c_scopes.specs.Answers.{Answers}
use Rattle.c_scopes.proofs.Least.{one_refused}

-- parts before those of a list
abbrev pub behind_parts : {A : Type 0} → List A → Checked (List A) → Checked (List A)
behind_parts done c = one_part c (λ rest. Good (done ++ rest))

pub all_parts : {A : Type 0} (done : List A) → behind_parts done (Good []) ≡ Good done
all_parts done = ap Good (append-nil done)

more_parts : {A : Type 0} (done : List A) (x : A) (c : Checked (List A)) → behind_parts done (one_part c (λ rest. Good (x ∷ rest))) ≡ behind_parts (done ++ x ∷ []) c
more_parts done x (Good xs) = ap Good (sym (append_assoc done (x ∷ []) xs))
more_parts done x (Bad f fs) = refl

module _ {A B : Type 0} (done : List A) (m : Checked B) (view : B → A) (rest : B → Checked (List A))
  where
    -- the first of the parts has no fault
    pub next_part : (b : B) → m ≡ Good b → behind_parts done (one_part m (λ x. one_part (rest x) (λ xs. Good (view x ∷ xs)))) ≡ behind_parts (done ++ view b ∷ []) (rest b)
    next_part b is = ap (λ c. behind_parts done (one_part c (λ x. one_part (rest x) (λ xs. Good (view x ∷ xs))))) is ∙ more_parts done (view b) (rest b)

    -- the first of the parts is refused
    pub part_refused : {S T : Type 0} (p : T → B) (s : S → List A) (h : TypeFault) → Answers p m (Err h) → Answers s (behind_parts done (one_part m (λ x. one_part (rest x) (λ xs. Good (view x ∷ xs))))) (Err h)
    part_refused {S = S} p s h a = one_refused (λ (xs : List A). Good (done ++ xs)) s s (one_part m (λ x. one_part (rest x) (λ xs. Good (view x ∷ xs)))) h (one_refused (λ x. one_part (rest x) (λ xs. Good (view x ∷ xs))) p s m h a)

-- one more part is there
pub list_more : {X A B : Type 0} (plain : X → A) (view : B → A) (whole c : Checked (List A)) (done done' : List X) (x : X) (m : Checked B) (rest : B → Checked (List A)) (b : B)
    → whole ≡ behind_parts (map plain done) c → c ≡ one_part m (λ a. one_part (rest a) (λ xs. Good (view a ∷ xs))) → m ≡ Good b → view b ≡ plain x → done' ≡ done ++ x ∷ [] → whole ≡ behind_parts (map plain done') (rest b)
list_more plain view whole c done done' x m rest b before is good same more =
    before ∙ ap (behind_parts (map plain done)) is ∙ next_part (map plain done) m view rest b good
    ∙ ap (λ ys. behind_parts ys (rest b)) (ap (λ y. map plain done ++ y ∷ []) same ∙ sym (ap (map plain) more ∙ map-append plain done (x ∷ [])))

-- what is made of one part
pub made_of : {A B T : Type 0} (f : A → B) (p : T → A) (m : Checked A) (r : Result T TypeFault) → Answers p m r → Answers (λ x. f (p x)) (one_part m (λ a. Good (f a))) r
made_of f p m (Ok t) h = ap (λ c. one_part c (λ a. Good (f a))) h
made_of f p (Good a) (Err (Refused g)) h = absurd cc
made_of f p (Bad g gs) (Err (Refused g')) h = h
made_of f p m (Err Memory) h = tt
