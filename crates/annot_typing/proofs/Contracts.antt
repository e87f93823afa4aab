-- Contracts: clauses and behaviors one after another, and names of behaviors.
use Rattle.std.proofs.Common.{◌≡◌, ℕ, List, [], ◌∷◌, ◌++◌, refl, sym, ap, ◌∙◌, subst, map, nat_eq, ◌||◌, Bool, true, false, not, Result, Ok, Err}
use Rattle.c_syntax.specs.declared.annotation.Kind.{Kind}
use Rattle.c_syntax.specs.declared.logic.Annot.{Annot}
use Rattle.c_syntax.specs.declared.logic.Body.{Body}
use Rattle.c_syntax.specs.declared.program.Behavior.{Behavior}
use Rattle.c_syntax.specs.Logic.{Annotation, ClauseBody, plain_body, plain_annot}
use Rattle.c_syntax.specs.Programs.{FunctionContract, NamedBehavior, plain_behavior}
use Rattle.c_model.specs.Checked.{Checked, Good, one_part, where_so}
use Rattle.c_model.specs.AnnotationSights.{AnnotationSight}
use Rattle.c_model.specs.ContractTyping.{names_of_behaviors, typed_behaviors, typed_clauses, typed_contract, typed_covers}
use Rattle.c_model.specs.ExpressionTyping.{is_among, no_name}
use Rattle.c_model.specs.PredicateTyping.{typed_clause}
use Rattle.c_scopes.specs.Answers.{Answers}
use Rattle.c_scopes.specs.declared.fault.TypeFault.{TypeFault}
use Rattle.c_scopes.proofs.Least.{one_refused}
use Rattle.c_scopes.proofs.Lists.{behind_parts, list_more, part_refused}
use Rattle.c_scopes.proofs.Tags.{among_last}

-- one more clause is typed
pub clauses_more : (seen : Kind → AnnotationSight) (all : List Annotation) (list done done' : List Annot) (a : Annot) (body : Body) (rest : List Annot)
    → typed_clauses seen all ≡ behind_parts (map plain_annot done) (typed_clauses seen (map plain_annot list)) → list ≡ a ∷ rest → typed_clause (seen a.kind) a.kind (plain_body a.body) ≡ Good (plain_body body)
    → done' ≡ done ++ record a { body = body } ∷ [] → typed_clauses seen all ≡ behind_parts (map plain_annot done') (typed_clauses seen (map plain_annot rest))
clauses_more seen all list done done' a body rest before is good more =
    list_more plain_annot (λ b. record (plain_annot a) { body = b }) (typed_clauses seen all) (typed_clauses seen (map plain_annot list)) done done' (record a { body = body })
    (typed_clause (seen a.kind) a.kind (plain_body a.body)) (λ b. typed_clauses seen (map plain_annot rest)) (plain_body body) before (ap (λ l. typed_clauses seen (map plain_annot l)) is) good refl more

-- a clause is refused
pub clause_refused : {S T : Type 0} (p : T → ClauseBody) (q : S → List Annotation) (seen : Kind → AnnotationSight) (all done : List Annotation) (list : List Annot) (a : Annot) (rest : List Annot) (h : TypeFault)
    → typed_clauses seen all ≡ behind_parts done (typed_clauses seen (map plain_annot list)) → list ≡ a ∷ rest → Answers p (typed_clause (seen a.kind) a.kind (plain_body a.body)) (Err h) → Answers q (typed_clauses seen all) (Err h)
clause_refused p q seen all done list a rest h before is refused =
    let view = λ (b : ClauseBody). record (plain_annot a) { body = b } in
    let behind = λ (b : ClauseBody). typed_clauses seen (map plain_annot rest) in
    subst (λ m. Answers q m (Err h)) (sym (before ∙ ap (behind_parts done) (ap (λ l. typed_clauses seen (map plain_annot l)) is)))
    (part_refused done (typed_clause (seen a.kind) a.kind (plain_body a.body)) view behind p q h refused)

-- ---- the same names

abbrev AreSame : List ℕ → List ℕ → Type 0
AreSame ms ns = (x : ℕ) → is_among x ms ≡ is_among x ns

same_more : (n : ℕ) (ms ns : List ℕ) → AreSame ms ns → AreSame (n ∷ ms) (n ∷ ns)
same_more n ms ns same x = ap (λ b. nat_eq x n || b) (same x)

-- behaviors are typed behind names in any order
behaviors_same : (seen : Kind → AnnotationSight) (ms ns : List ℕ) (bs : List NamedBehavior) → AreSame ms ns → typed_behaviors seen ms bs ≡ typed_behaviors seen ns bs
behaviors_same seen ms ns [] same = refl
behaviors_same seen ms ns (b ∷ bs) same =
    let rest = behaviors_same seen (b.name ∷ ms) (b.name ∷ ns) bs (same_more b.name ms ns same) in
    (λ i. where_so (not (same b.name i)) (no_name b.place) (one_part (typed_clauses seen b.clauses) (λ clauses. one_part (rest i) (λ bs. Good (record b { clauses = clauses } ∷ bs)))))

turned : (n : ℕ) (ns : List ℕ) → AreSame (n ∷ ns) (ns ++ n ∷ [])
turned n ns x = either_order (nat_eq x n) (is_among x ns) ∙ sym (among_last x ns n)
  where
    either_order : (a b : Bool) → (a || b) ≡ (b || a)
    either_order true true = refl
    either_order true false = refl
    either_order false true = refl
    either_order false false = refl

so_good : {A : Type 0} (b : Bool) (at : _) (c : Checked A) (a : A) → where_so b at c ≡ Good a → c ≡ Good a
so_good true at c a e = e
so_good false at c a e = absurd cc

so_part : {A B : Type 0} (b : Bool) (at : _) (c : Checked A) (k : A → Checked B) → where_so b at (one_part c k) ≡ one_part (where_so b at c) k
so_part true at c k = refl
so_part false at c k = refl

-- ---- one more behavior

pub behaviors_more : (seen : Kind → AnnotationSight) (all : List NamedBehavior) (list done done' : List Behavior) (a b : Behavior) (rest : List Behavior) (names names' : List ℕ)
    → typed_behaviors seen [] all ≡ behind_parts (map plain_behavior done) (typed_behaviors seen names (map plain_behavior list)) → list ≡ a ∷ rest
    → where_so (not (is_among a.name names)) (no_name a.place) (typed_clauses seen (map plain_annot a.clauses.items)) ≡ Good (map plain_annot b.clauses.items) → b.name ≡ a.name → b.place ≡ a.place
    → names' ≡ names ++ a.name ∷ [] → done' ≡ done ++ b ∷ [] → typed_behaviors seen [] all ≡ behind_parts (map plain_behavior done') (typed_behaviors seen names' (map plain_behavior rest))
behaviors_more seen all list done done' a b rest names names' before is good name place more_names more =
    let clauses = typed_clauses seen (map plain_annot a.clauses.items) in
    let view = λ (cs : List Annotation). record (plain_behavior a) { clauses = cs } in
    let behind = λ (cs : List Annotation). typed_behaviors seen (a.name ∷ names) (map plain_behavior rest) in
    let whole = ap (λ l. typed_behaviors seen names (map plain_behavior l)) is
    ∙ so_part (not (is_among a.name names)) (no_name a.place) clauses (λ cs. one_part (behind cs) (λ xs. Good (view cs ∷ xs))) in
    let same : view (map plain_annot b.clauses.items) ≡ plain_behavior b = (λ i. record { place = sym place i; name = sym name i; clauses = map plain_annot b.clauses.items }) in
    list_more plain_behavior view (typed_behaviors seen [] all) (typed_behaviors seen names (map plain_behavior list)) done done' b
    (where_so (not (is_among a.name names)) (no_name a.place) clauses) behind (map plain_annot b.clauses.items) before whole good same more
    ∙ ap (behind_parts (map plain_behavior done')) (behaviors_same seen (a.name ∷ names) (names ++ a.name ∷ []) (map plain_behavior rest) (turned a.name names)
    ∙ ap (λ ns. typed_behaviors seen ns (map plain_behavior rest)) (sym more_names))

-- a behavior is refused
pub behavior_refused : {S T : Type 0} (p : T → List Annotation) (s : S → List NamedBehavior) (seen : Kind → AnnotationSight) (all done : List NamedBehavior) (list : List Behavior) (a : Behavior) (rest : List Behavior)
    (names : List ℕ) (h : TypeFault) → typed_behaviors seen [] all ≡ behind_parts done (typed_behaviors seen names (map plain_behavior list)) → list ≡ a ∷ rest
    → Answers p (where_so (not (is_among a.name names)) (no_name a.place) (typed_clauses seen (map plain_annot a.clauses.items))) (Err h) → Answers s (typed_behaviors seen [] all) (Err h)
behavior_refused p s seen all done list a rest names h before is refused =
    let clauses = typed_clauses seen (map plain_annot a.clauses.items) in
    let view = λ (cs : List Annotation). record (plain_behavior a) { clauses = cs } in
    let behind = λ (cs : List Annotation). typed_behaviors seen (a.name ∷ names) (map plain_behavior rest) in
    let whole = ap (λ l. typed_behaviors seen names (map plain_behavior l)) is
    ∙ so_part (not (is_among a.name names)) (no_name a.place) clauses (λ cs. one_part (behind cs) (λ xs. Good (view cs ∷ xs))) in
    subst (λ m. Answers s m (Err h)) (sym (before ∙ ap (behind_parts done) whole)) (part_refused done (where_so (not (is_among a.name names)) (no_name a.place) clauses) view behind p s h refused)

pub names_more : (seen seen' : List Behavior) (a : Behavior) (names names' : List ℕ) → names ≡ names_of_behaviors (map plain_behavior seen) → seen' ≡ seen ++ a ∷ [] → names' ≡ names ++ a.name ∷ []
    → names' ≡ names_of_behaviors (map plain_behavior seen')
names_more seen seen' a names names' before is more = more ∙ ap (λ ns. ns ++ a.name ∷ []) before ∙ by seen ∙ ap (λ bs. names_of_behaviors (map plain_behavior bs)) (sym is)
  where
    by : (bs : List Behavior) → names_of_behaviors (map plain_behavior bs) ++ a.name ∷ [] ≡ names_of_behaviors (map plain_behavior (bs ++ a ∷ []))
    by [] = refl
    by (b ∷ bs) = ap (λ ns. b.name ∷ ns) (by bs)

-- ---- behind the clauses of a contract

module _ (seen : Kind → AnnotationSight) (c : FunctionContract) (clauses : List Annotation) (good : typed_clauses seen c.clauses ≡ Good clauses)
  where
    abbrev with_parts : List Annotation → List NamedBehavior → FunctionContract
    with_parts cs bs = record c { clauses = cs; behaviors = bs }

    abbrev covered : List Annotation → List NamedBehavior → Checked FunctionContract
    covered cs bs = one_part (typed_covers (names_of_behaviors c.behaviors) c.covers) (λ u. Good (with_parts cs bs))

    abbrev behind : List Annotation → Checked FunctionContract
    behind cs = one_part (typed_behaviors seen [] c.behaviors) (covered cs)

    -- its behaviors are refused
    pub behaviors_refused : {S T : Type 0} (p : T → List NamedBehavior) (s : S → FunctionContract) (h : TypeFault) → Answers p (typed_behaviors seen [] c.behaviors) (Err h) → Answers s (typed_contract seen c) (Err h)
    behaviors_refused p s h refused =
        subst (λ m. Answers s (one_part m behind) (Err h)) (sym good) (one_refused (covered clauses) p s (typed_behaviors seen [] c.behaviors) h refused)

    module _ (behaviors : List NamedBehavior)
      where
        abbrev whole : Unit {0} → FunctionContract
        whole u = with_parts clauses behaviors

        abbrev good_whole : Unit {0} → Checked FunctionContract
        good_whole u = Good (with_parts clauses behaviors)

        covers_whole : (m : Checked (Unit {0})) (r : Result (Unit {0}) TypeFault) → Answers (λ (u : Unit {0}). u) m r → Answers whole (one_part m good_whole) r
        covers_whole m (Ok u) h = ap (λ m. one_part m good_whole) h
        covers_whole m (Err h) refused = one_refused good_whole (λ (u : Unit {0}). u) whole m h refused

        -- its `complete` and `disjoint` are typed, or refused
        pub covers_answer : (names : List ℕ) (r : Result (Unit {0}) TypeFault) → typed_behaviors seen [] c.behaviors ≡ Good behaviors → names ≡ names_of_behaviors c.behaviors
            → Answers (λ (u : Unit {0}). u) (typed_covers names c.covers) r → Answers whole (typed_contract seen c) r
        covers_answer names r known same covers =
            subst (λ m. Answers whole (one_part m behind) r) (sym good)
            (subst (λ m. Answers whole (one_part m (covered clauses)) r) (sym known)
            (subst (λ ns. Answers whole (one_part (typed_covers ns c.covers) good_whole) r) same (covers_whole (typed_covers names c.covers) r covers)))
