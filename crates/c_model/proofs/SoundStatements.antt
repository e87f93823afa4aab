-- Each statement leaves a sound state, where calls do.
use Rattle.std.proofs.Common.{ℕ, zero, suc, pos, List, [], ◌∷◌, ◌++◌, inl, inr, Option, Some, None}
use Rattle.std.proofs.Common.{arith}
use Rattle.c_syntax.specs.declared.place.Place.{Place}
use Rattle.c_syntax.specs.Ctypes.{PlainType}
use Rattle.c_syntax.specs.Expressions.{Expression, place_of}
use Rattle.c_syntax.specs.Statements.{Initialiser, One, Many, Initialisers, NoInitialiser, Listed, Declaration, Statement, Empty, Eval, Block, If, While, Do}
use Rattle.c_syntax.specs.Statements.{For, Break, Continue, Return, Labelled, ElsePart, NoElse, Else, ForFirst, NoFirst, First, BlockItem, Switch, Cases}
use Rattle.c_syntax.specs.Statements.{NoCase, AnotherCase}
use Rattle.c_syntax.specs.Statements.{Declare, Specify, Run, Asserts, BlockItems, NoItem, Then}
use Rattle.c_syntax.specs.Programs.{StructType, TranslationUnit}
use Rattle.c_syntax.specs.Layouts.{Scalar, scalar_size, scalar_of, size_of}
use Rattle.c_model.specs.Memory.{Pointer, Value, Integer, Byte, shifted}
use Rattle.c_model.specs.State.{State, Breaks, Continues, Returns, End, Leaves, Stuck, Evaluation}
use Rattle.c_model.specs.State.{◌>>◌, done, stop, as_scalar, find, start_of, object, write, write_bytes, births}
use Rattle.c_model.specs.State.{mark}
use Rattle.c_model.specs.Predicates.{invariants}
use Rattle.c_model.specs.Predicates.{variant}
use Rattle.c_model.specs.Meaning.{Tables, Callee}
use Rattle.c_model.specs.Meaning.{eval_with}
use Rattle.c_model.specs.Meaning.{turn_with, declared_in, declared_first, zero_scalars, zero_parts, string_in}
use Rattle.c_model.specs.Meaning.{write_each, fill_one, parts_or_itself, fill, fill_parts, initialise, initialise_all, condition_with, effect_with, exec_with}
use Rattle.c_model.specs.Meaning.{else_with, first_with, item_with, items_with, body_with}
use Rattle.c_model.specs.Meaning.{chosen_case, after_switch, cases_with}
use Rattle.c_model.specs.Meaning.{zeros, padded, text_at, tables_of}
use Rattle.c_model.specs.FullExpressions.{EachInitial, EachPart, EachDeclared, EachIn, EachInCases, EachInElse, EachInFirst, EachInItem, EachInItems}
use Rattle.c_model.specs.SoundStates.{AreDirect, GivesEnd, Any, IsAmong, Declares, Placed, CallsKeepSound}
use Rattle.c_model.specs.ReadTree.{AreBytes}
use Rattle.c_model.specs.Formed.{declared_within, declared_in_cases, declared_in_else, declared_in_first, declared_in_item, declared_in_items, declared_in_body}
use Rattle.c_model.proofs.BlocksLast.{stay_same}
use Rattle.c_model.proofs.SoundRuns.{after_give, after_defined, after_write, after_scalar, after_tested, sound_eval}
use Rattle.c_model.specs.TypedTrees.{WhereAny}
use Rattle.c_model.specs.Meaning.{string_in, condition_of}
use Rattle.c_model.proofs.SoundMemory.{among_left, among_right}
use Rattle.c_model.proofs.SoundSteps.{Keeps, keeps_bind, keeps_then, keeps_done, keeps_checks, keeps_invariants, keeps_within, keeps_mark, keeps_births}
use Rattle.c_model.proofs.SoundSteps.{keeps_choose, after_switch_any, keeps_turn, keeps_turns, keeps_do_turns, ArePlain, no_bytes, one_more, zeros_plain, after_plain}

pub object_any : {source : TranslationUnit} (at : Place) (x : ℕ) → Keeps source Any (object at x)
object_any at x s st = after_defined Any s at (start_of (find x s.scope)) st (λ p e. tt)

-- bytes one by one
abbrev PlainEach : List Byte → Type 0
PlainEach [] = Unit {0}
PlainEach (b ∷ bs) = ArePlain (b ∷ []) × PlainEach bs

padded_each : (n : ℕ) (bytes : List ℕ) → AreBytes bytes → PlainEach (padded n bytes)
padded_each zero bytes h = tt
padded_each (suc n) [] h = (one_more 0 [] (omega arith) no_bytes, padded_each n [] tt)
padded_each (suc n) (b ∷ bs) h = (one_more b [] h.0 no_bytes, padded_each n bs h.1)

keeps_write_each : {source : TranslationUnit} (at : Place) (p : Pointer) (bytes : List Byte) → PlainEach bytes → Keeps source Any (write_each at p bytes)
keeps_write_each at p [] h = keeps_done
keeps_write_each at p (b ∷ bs) h = keeps_then Any Any (write_bytes at p (b ∷ [])) (write_each at (shifted p 1) bs) (λ s st. after_plain s at p (b ∷ []) st h.0) (keeps_write_each at (shifted p 1) bs h.1)

keeps_zero_scalars : {source : TranslationUnit} (at : Place) (p : Pointer) (cs : List (ℕ × Scalar)) → Keeps source Any (zero_scalars at p cs)
keeps_zero_scalars at p [] = keeps_done
keeps_zero_scalars at p (d ∷ cs) =
    keeps_then Any Any (write_bytes at (shifted p d.0) (zeros (scalar_size d.1))) (zero_scalars at p cs) (λ s st. after_plain s at (shifted p d.0) (zeros (scalar_size d.1)) st (zeros_plain (scalar_size d.1))) (keeps_zero_scalars at p cs)

keeps_zero_parts : {source : TranslationUnit} (structs : List StructType) (at : Place) (p : Pointer) (cs : List (ℕ × PlainType)) → Keeps source Any (zero_parts structs at p cs)
keeps_zero_parts structs at p [] = keeps_done
keeps_zero_parts structs at p (d ∷ cs) = keeps_then Any Any _ (zero_parts structs at p cs) (keeps_zero_scalars at _ _) (keeps_zero_parts structs at p cs)

pub declares_left : (p : TranslationUnit) (a b : List Declaration) → Declares p (a ++ b) → Declares p a
declares_left p a b h d among = h d (among_left d a b among)

pub declares_right : (p : TranslationUnit) (a b : List Declaration) → Declares p (a ++ b) → Declares p b
declares_right p a b h d among = h d (among_right d a b among)

-- those that stand directly in a block are among those within it
among_longer : (d : Declaration) (ds a b : List Declaration) → (IsAmong d a → IsAmong d b) → IsAmong d (ds ++ a) → IsAmong d (ds ++ b)
among_longer d [] a b f h = f h
among_longer d (e ∷ ds) a b f (inl same) = inl same
among_longer d (e ∷ ds) a b f (inr h) = inr (among_longer d ds a b f h)

pub directly_in : (items : BlockItems) (d : Declaration) → IsAmong d (declared_in items) → IsAmong d (declared_in_items items)
directly_in NoItem d h = h
directly_in (Then (Declare ds) rest) d h = among_longer d ds (declared_in rest) (declared_in_items rest) (directly_in rest d) h
directly_in (Then (Specify at t) rest) d h = directly_in rest d h
directly_in (Then (Run a) rest) d h = among_right d (declared_within a) (declared_in_items rest) (directly_in rest d h)
directly_in (Then (Asserts annots) rest) d h = directly_in rest d h

pub directly_first : (first : ForFirst) (d : Declaration) → IsAmong d (declared_first first) → IsAmong d (declared_in_first first)
directly_first NoFirst d h = h
directly_first (First (Declare ds)) d h = h
directly_first (First (Specify at t)) d h = h
directly_first (First (Run a)) d h = absurd h
directly_first (First (Asserts annots)) d h = h

module _ {source : TranslationUnit} (call : Callee) (c : CallsKeepSound source call) (octets : (n : ℕ) → AreBytes (text_at (tables_of source).texts n)) where
  abbrev T : Tables
  T = tables_of source

  keeps_eval : (e : Expression) → AreDirect e → Keeps source Placed (eval_with T e call)
  keeps_eval e h s st = sound_eval call c e h s st

  keeps_eval_done : (e : Expression) → AreDirect e → Keeps source Any (eval_with T e call >> done)
  keeps_eval_done e h = keeps_then Placed Any (eval_with T e call) done (keeps_eval e h) keeps_done

  pub keeps_condition_of : (e : Expression) → AreDirect e → Keeps source Any (condition_of T e call)
  keeps_condition_of e h s st = after_tested s (place_of e) (eval_with T e call s) (sound_eval call c e h s st)

  keeps_fill_one : (at : Place) (t : PlainType) (p : Pointer) (o : Option ℕ) (v : Evaluation Value) → Keeps source Placed v → Keeps source Any (fill_one T at t p o v)
  keeps_fill_one at t p (Some n) v h = keeps_write_each at p (padded (size_of T.structs t) (text_at T.texts n)) (padded_each (size_of T.structs t) (text_at T.texts n) (octets n))
  keeps_fill_one at t p None v h =
      keeps_bind Placed Any v (λ x. as_scalar (scalar_of t) (λ k. write at p k x)) h (λ x u su g. after_scalar Any u (scalar_of t) (λ k. write at p k x) su (λ k. after_write u at p k x su g))

  mutual
    pub keeps_fill : (at : Place) (t : PlainType) (p : Pointer) (i : Initialiser) → EachInitial AreDirect i → Keeps source Any (fill T at t p i call)
    keeps_fill at t p (One e) h = keeps_fill_one at t p (string_in e) (eval_with T e call) (keeps_eval e h)
    keeps_fill at t p (Many brace is) h = keeps_fill_parts at (parts_or_itself T t) p is h

    keeps_fill_parts : (at : Place) (cs : List (ℕ × PlainType)) (p : Pointer) (is : Initialisers) → EachPart AreDirect is → Keeps source Any (fill_parts T at cs p is call)
    keeps_fill_parts at cs p NoInitialiser h = keeps_zero_parts T.structs at p cs
    keeps_fill_parts at [] p (Listed i is) h = keeps_done
    keeps_fill_parts at (d ∷ cs) p (Listed i is) h = keeps_then Any Any (fill T at d.1 (shifted p d.0) i call) (fill_parts T at cs p is call) (keeps_fill at d.1 (shifted p d.0) i h.0) (keeps_fill_parts at cs p is h.1)

  pub keeps_initialise : (d : Declaration) (i : Option (Place × Initialiser)) → WhereAny (λ (i : Place × Initialiser). EachInitial AreDirect i.1) i → Keeps source Any (initialise T d i call)
  keeps_initialise d None h = keeps_done
  keeps_initialise d (Some (at, i)) h = keeps_bind Any Any (object at d.place.offset) (λ p. fill T at d.ctype p i call) (object_any at d.place.offset) (λ p t su _. keeps_fill at d.ctype p i h t su)

  pub keeps_initialise_all : (ds : List Declaration) → EachDeclared AreDirect ds → Keeps source Any (initialise_all T ds call)
  keeps_initialise_all [] h = keeps_done
  keeps_initialise_all (d ∷ ds) h = keeps_then Any Any (initialise T d d.init call) (initialise_all T ds call) (keeps_initialise d d.init h.0) (keeps_initialise_all ds h.1)

  pub keeps_condition : (e : Option Expression) → WhereAny AreDirect e → Keeps source Any (condition_with T e call)
  keeps_condition None h s st = after_give Any s (Integer (pos 1)) st tt
  keeps_condition (Some e) h s st = keeps_condition_of e h s st

  pub keeps_effect : (e : Option Expression) → WhereAny AreDirect e → Keeps source Any (effect_with T e call)
  keeps_effect None h = keeps_done
  keeps_effect (Some e) h = keeps_eval_done e h

  keeps_stop : {A : Type 0} (e : End) → ((s : State) → GivesEnd e s) → Keeps {A = A} source Any (stop e)
  keeps_stop e h s st = record { stay = stay_same s.store; sound = st; gives = h s }

  keeps_switch : (m : Evaluation (Unit {0})) → Keeps source Any m → Keeps source Any (λ s. after_switch (m s))
  keeps_switch m h s st = after_switch_any s (m s) (h s st)

  mutual
    pub keeps_exec : (a : Statement) → EachIn AreDirect a → Declares source (declared_within a) → (n : ℕ) → Keeps source Any (exec_with T a call n)
    keeps_exec (Empty at) h q n = keeps_done
    keeps_exec (Eval at e) h q n = keeps_eval_done e h
    keeps_exec (Block at items) h q n =
        keeps_within _ (keeps_then Any Any (births T.structs (declared_in items)) (items_with T items call n) (keeps_births (declared_in items) (λ d m. q d (directly_in items d m))) (keeps_items items h q n))
    keeps_exec (If at e a b) h q n =
        keeps_bind Any Any (condition_of T e call) _ (keeps_condition_of e h.0) (λ v t su _. keeps_choose v (exec_with T a call n) (else_with T b call n)
        (keeps_exec a h.1 (declares_left source (declared_within a) (declared_in_else b) q) n) (keeps_else b h.2 (declares_right source (declared_within a) (declared_in_else b) q) n) t su)
    keeps_exec (While at annots e a) h q n =
        keeps_turns n (invariants annots >> condition_of T e call) (turn_with (variant annots) (exec_with T a call n) done)
        (keeps_then Any Any (invariants annots) (condition_of T e call) (keeps_invariants annots) (keeps_condition_of e h.0)) (λ again. keeps_turn (variant annots) (exec_with T a call n) done again (keeps_exec a h.1 q n) keeps_done)
    keeps_exec (Do at a e) h q n = keeps_do_turns n (condition_of T e call) (exec_with T a call n) (keeps_condition_of e h.1) (keeps_exec a h.0 q n)
    keeps_exec (For at annots first e behind a) h q n =
        let left = declares_left source (declared_in_first first) (declared_within a) q in
        keeps_within _ (keeps_then Any Any (births T.structs (declared_first first) >> first_with T first call n) _
        (keeps_then Any Any (births T.structs (declared_first first)) (first_with T first call n) (keeps_births (declared_first first) (λ d m. left d (directly_first first d m))) (keeps_first first h.0 left n))
        (keeps_turns n (invariants annots >> condition_with T e call) (turn_with (variant annots) (exec_with T a call n) (effect_with T behind call))
        (keeps_then Any Any (invariants annots) (condition_with T e call) (keeps_invariants annots) (keeps_condition e h.1))
        (λ again. keeps_turn (variant annots) (exec_with T a call n) (effect_with T behind call) again (keeps_exec a h.3 (declares_right source (declared_in_first first) (declared_within a) q) n) (keeps_effect behind h.2))))
    keeps_exec (Break at) h q n = keeps_stop (Leaves Breaks) (λ s. tt)
    keeps_exec (Continue at) h q n = keeps_stop (Leaves Continues) (λ s. tt)
    keeps_exec (Return at None) h q n = keeps_stop (Leaves (Returns None)) (λ s. tt)
    keeps_exec (Return at (Some e)) h q n = keeps_bind Placed Any (eval_with T e call) _ (keeps_eval e h) (λ v t su g. record { stay = stay_same t.store; sound = su; gives = g })
    keeps_exec (Labelled at l a) h q n = keeps_then Any Any (mark (Some l)) (exec_with T a call n) (keeps_mark (Some l)) (keeps_exec a h q n)
    keeps_exec (Switch at e cases) h q n =
        keeps_bind Placed Any (eval_with T e call) _ (keeps_eval e h.0) (λ v t su g. keeps_switch (cases_with T cases call n (chosen_case v cases)) (keeps_cases cases h.1 q n (chosen_case v cases)) t su)

    keeps_cases : (cases : Cases) → EachInCases AreDirect cases → Declares source (declared_in_cases cases) → (n k : ℕ) → Keeps source Any (cases_with T cases call n k)
    keeps_cases NoCase h q n k = keeps_done
    keeps_cases (AnotherCase at v items rest) h q n zero =
        keeps_then Any Any (items_with T items call n) (cases_with T rest call n zero) (keeps_items items h.0 (declares_left source (declared_in_items items) (declared_in_cases rest) q) n)
        (keeps_cases rest h.1 (declares_right source (declared_in_items items) (declared_in_cases rest) q) n zero)
    keeps_cases (AnotherCase at v items rest) h q n (suc k) = keeps_cases rest h.1 (declares_right source (declared_in_items items) (declared_in_cases rest) q) n k

    keeps_else : (b : ElsePart) → EachInElse AreDirect b → Declares source (declared_in_else b) → (n : ℕ) → Keeps source Any (else_with T b call n)
    keeps_else NoElse h q n = keeps_done
    keeps_else (Else a) h q n = keeps_exec a h q n

    pub keeps_first : (first : ForFirst) → EachInFirst AreDirect first → Declares source (declared_in_first first) → (n : ℕ) → Keeps source Any (first_with T first call n)
    keeps_first NoFirst h q n = keeps_done
    keeps_first (First i) h q n = keeps_item i h q n

    pub keeps_item : (i : BlockItem) → EachInItem AreDirect i → Declares source (declared_in_item i) → (n : ℕ) → Keeps source Any (item_with T i call n)
    keeps_item (Declare ds) h q n = keeps_initialise_all ds h
    keeps_item (Specify at t) h q n = keeps_done
    keeps_item (Run a) h q n = keeps_exec a h q n
    keeps_item (Asserts annots) h q n = keeps_checks [] annots

    pub keeps_items : (items : BlockItems) → EachInItems AreDirect items → Declares source (declared_in_items items) → (n : ℕ) → Keeps source Any (items_with T items call n)
    keeps_items NoItem h q n = keeps_done
    keeps_items (Then i rest) h q n =
        keeps_then Any Any (item_with T i call n) (items_with T rest call n) (keeps_item i h.0 (declares_left source (declared_in_item i) (declared_in_items rest) q) n)
        (keeps_items rest h.1 (declares_right source (declared_in_item i) (declared_in_items rest) q) n)

  pub keeps_body_of : (body : Option Statement) → WhereAny (EachIn AreDirect) body → Declares source (declared_in_body body) → (n : ℕ) → Keeps source Any (body_with T body call n)
  keeps_body_of None h q n = keeps_stop Stuck (λ s. tt)
  keeps_body_of (Some a) h q n = keeps_exec a h q n
