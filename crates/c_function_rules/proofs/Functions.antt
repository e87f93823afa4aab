-- Functions one after another are those that the definition of a file types.
use Rattle.std.proofs.Common.{◌≡◌, ℕ, refl, sym, ap, ◌∙◌, subst, List, [], ◌∷◌, ◌++◌, map, Option, Result, Ok, Err}
use Rattle.std.specs.Prelude.{OnOk}
use Rattle.std.proofs.lemmas.List.{map-append}
use Rattle.c_syntax.specs.Ctypes.{PlainType}
use Rattle.c_syntax.specs.Statements.{Declaration}
use Rattle.c_syntax.specs.Programs.{Function, TranslationUnit}
use Rattle.c_model.specs.Checked.{Checked, Good, one_part, both_parts, where_so}
use Rattle.c_model.specs.Meaning.{is_definition}
use Rattle.c_model.specs.ExpressionTyping.{no_name, inner, Sight, function_called, typed_type}
use Rattle.c_model.specs.DeclarationTyping.{typed_result}
use Rattle.c_model.specs.StatementTyping.{typed_labels}
use Rattle.c_model.specs.UnitTyping as unit
use Rattle.c_model.specs.UnitTyping.{signature, is_compatible_with_all, function_name, typed_parameters, typed_function}
use Rattle.c_scopes.specs.declared.fault.TypeFault.{TypeFault}
use Rattle.c_scopes.specs.Answers.{Answers, both}
use Rattle.c_scopes.proofs.Least.{both_refused}
use Rattle.c_function_rules.specs.declared.heading.Noted.{Noted}
use Rattle.c_function_rules.specs.Functions.{denoted, known, with_known, fits_earlier, fits_in, fitting, fitting_type_by, with_function_by, names_behind, typed_parts, function_in_turn}
use Rattle.c_function_rules.proofs.Headings.{declared_is, known_snoc, fits_is}

-- ---- headings

ok_is : {T : Type 0} {x y : T} → ◌≡◌ {A = Result T TypeFault} (Ok x) (Ok y) → x ≡ y
ok_is j = cc

-- two parts without a fault, and the whole
pub both_then : {A B C S T : Type 0} (k : A → B → Checked C) (p : T → A) (q : Unit {0} → B) (w : S → C) (m : Checked A) (n : Checked B) (a : Result T TypeFault) (b : Result (Unit {0}) TypeFault) (x : T) (r : Result S TypeFault)
    → Answers p m a → Answers q n b → both a b ≡ Ok x → Answers w (k (p x) (q tt)) r → Answers w (both_parts m n k) r
both_then k p q w m n (Ok y) (Ok u) x r ha hb j h =
    subst (λ c. Answers w c r) (sym (ap (λ c. both_parts c n k) ha ∙ ap (λ c. both_parts (Good (p y)) c k) hb ∙ ap (λ z. k (p z) (q tt)) (ok_is j))) h
both_then k p q w m n (Ok y) (Err g) x r ha hb j h = absurd cc
both_then k p q w m n (Err f) (Ok u) x r ha hb j h = absurd cc
both_then k p q w m n (Err f) (Err g) x r ha hb j h = absurd cc

-- what the second of two parts leaves where it has no fault, the whole leaves
pub both_on : (P : Type 0) (a b r : Result (Unit {0}) TypeFault) → both a b ≡ r → OnOk b P → OnOk r P
both_on P a b (Err h) j k = tt
both_on P a (Ok u) (Ok v) j k = k
both_on P (Ok x) (Err g) (Ok v) j k = absurd cc
both_on P (Err f) (Err g) (Ok v) j k = absurd cc

module _ (s : Sight) (names : ℕ → Option Noted) (f : Function) (t : PlainType) (ds : List Declaration) (a b : Result (Unit {0}) TypeFault)
    (ha : Answers (λ (u : Unit {0}). t) (typed_type s f.place f.result) a) (hb : Answers (λ (u : Unit {0}). ds) (typed_parameters (inner s) (is_definition f) f.params) b)
  where
    abbrev g : Function
    g = record f { result = t; params = ds }

    -- whether it fits those before it, where its types have no fault as they are written
    pub fitting_by : (u : Sight) (r : Result (Unit {0}) TypeFault) → ((v : Unit {0}) → b ≡ Ok v → u ≡ s) → ((h : TypeFault) → both a b ≡ Err h → r ≡ Err h)
        → ((v : Unit {0}) → both a b ≡ Ok v → Answers (λ (w : Unit {0}). g) (fitting u names g) r) → Answers (λ (w : Unit {0}). g) (fitting_type_by s names f) r
    fitting_by u r same refused fits_earlier = by (both a b) refl
      where
        second_ok : (a b : Result (Unit {0}) TypeFault) (v : Unit {0}) → both a b ≡ Ok v → b ≡ Ok v
        second_ok a (Ok w) v e = refl
        second_ok (Ok w) (Err g) v e = absurd cc
        second_ok (Err f) (Err g) v e = absurd cc

        by : (c : Result (Unit {0}) TypeFault) → both a b ≡ c → Answers (λ (w : Unit {0}). g) (fitting_type_by s names f) r
        by (Err h) e = subst (Answers (λ (w : Unit {0}). g) (fitting_type_by s names f)) (sym (refused h e))
            (both_refused (λ t ds. fitting s names (record f { result = t; params = ds })) (λ (u : Unit {0}). t) (λ (u : Unit {0}). ds) (λ (w : Unit {0}). g) (typed_type s f.place f.result)
            (typed_parameters (inner s) (is_definition f) f.params) a b h ha hb e)
        by (Ok v) e = both_then (λ t ds. fitting s names (record f { result = t; params = ds })) (λ (u : Unit {0}). t) (λ (u : Unit {0}). ds) (λ (w : Unit {0}). g) (typed_type s f.place f.result)
            (typed_parameters (inner s) (is_definition f) f.params) a b v r ha hb e (subst (λ z. Answers (λ (w : Unit {0}). g) (fitting z names g) r) (same v (second_ok a b v e)) (fits_earlier v e))

-- ---- a function as the definition of a file has it

-- what is in sight and kept is that of the functions before
pub record Behind (p : TranslationUnit) (s : Sight) (kept : ℕ → Option Noted) (before : List Function) : Type 0 where
  pub functions : s.functions ≡ map (signature p.funcs) before
  pub names : (x : ℕ) → kept x ≡ known before x

pub with_is : (p : TranslationUnit) (s : Sight) (f : Function) → with_function_by (denoted p.funcs) s f ≡ unit.with_function p s f
with_is p s f = ap (λ g. record s { functions = s.functions ++ g ∷ [] }) (declared_is p.funcs f)

module _ (p : TranslationUnit) (s : Sight) (names : ℕ → Option Noted) (before : List Function) (b : Behind p s names before)
  where
    fits_all : (f : Function) → fits_in s names f ≡ is_compatible_with_all before f
    fits_all f = (λ i. fits_earlier (function_called f.name (b.functions i)) (b.names f.name i) f) ∙ fits_is p.funcs f before

    pub function_is : (f : Function) → function_in_turn (denoted p.funcs) s names f ≡ typed_function p s before f
    function_is f = (λ i. both_parts (typed_labels f.body) (one_part (both_parts (function_name s f) (both_parts (typed_result s (is_definition f) f.place f.result)
        (both_parts (typed_type s f.place f.result) (typed_parameters (inner s) (is_definition f) f.params) (λ t ds.
        let g = record f { result = t; params = ds } in where_so (fits_all g i) (no_name f.place) (Good g))) (λ t g. Good (record g { result = t }))) (λ n g. Good g)) (λ f. typed_parts (with_is p s f i) f)) (λ u g. Good g))

    -- one more function
    pub behind_more : (f : Function) → Behind p (with_function_by (denoted p.funcs) s f) (names_behind s names f) (before ++ f ∷ [])
    behind_more f = record {
      functions = (λ i. b.functions i ++ declared_is p.funcs f i ∷ []) ∙ sym (map-append (signature p.funcs) before (f ∷ []));
      names = λ x. (λ i. with_known (function_called f.name (b.functions i)) (λ x. b.names x i) f x) ∙ known_snoc p.funcs f before x;
    }
