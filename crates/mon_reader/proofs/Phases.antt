-- From a phase's refusal to the refusal of the text.
use Rattle.std.proofs.Common.{◌≡◌, ℕ, List, Option, Some, None, option_map, Bool, true, false, if◌then◌else◌, Result, Ok, Err, refl, sym, ap, subst, ◌∙◌}
use Rattle.c_syntax.specs.declared.place.Place.{Place}
use Rattle.c_syntax.specs.declared.refusal.FrontFault.{FrontFault}
use Rattle.c_syntax.specs.declared.refusal.FrontFault.TheVariants as front
use Rattle.c_syntax.specs.Tokens.{PlainTokens}
use Rattle.c_model.specs.Places.{first_place}
use Rattle.c_model.specs.MonitoredTokens.{monitored_tokens}
use Rattle.std.specs.Prelude.{MatchResult}
use Rattle.c_syntax.specs.Programs.{PlainRefusal, plain_refusal}
use Rattle.mon_syntax.specs.declared.tree.MonProgram.{MonProgram}
use Rattle.mon_syntax.specs.Trees.{MonitoredProgram, plain_program}
use Rattle.mon_syntax.specs.Parsed.{NameUse, ParsedFunction, ParsedProgram}
use Rattle.mon_syntax.specs.Checking.{Fault}
use Rattle.mon_syntax.specs.Spelled.{IsRead, checked, check_refusal, no_main, too_large, first_too_large, is_main, main_in, last_of, last_refusal, Spells}
use Rattle.mon_syntax.specs.Spelled.{IsMonitoredRefusal, ByGrammar, ByNamesAndTypes, AsAWhole}
use Rattle.mon_parser.specs.Answers as parser
use Rattle.token_reader.specs.Answers.{RefusesWith}
use Rattle.mon_typing.specs.declared.fault.CheckFault.{CheckFault}
use Rattle.mon_typing.specs.declared.fault.CheckFault.TheVariants.{BadName, BadType, Memory}
use Rattle.mon_typing.specs.Answers.{Fails}
use Rattle.mon_reader.specs.declared.entry.FoundMain.{FoundMain}
use Rattle.mon_reader.specs.declared.entry.FoundMain.TheVariants.{Missing, Wrong, Right}
use Rattle.mon_reader.specs.Entries.{found_main, refusal_by}
use Rattle.mon_reader.specs.Answers as tree
use Rattle.mon_reader.specs.Answers.{Refuses, HasFault, ForFault, IsTreeRefusal, RefusesTree, IsEntered, RefusesFault}

-- ---- names and types

module _ (ts : PlainTokens) (p : ParsedProgram) where
  fault_found : (f : Fault) (e : FrontFault) → checked ts p ≡ Err f → RefusesWith (check_refusal ts f) e → HasFault e ts p
  fault_found f front.Memory k g = tt
  fault_found f (front.Refused x) k g = record { fault = f; found = k; is = g }

  faulty : (f : CheckFault) (e : FrontFault) → Fails f (checked ts p) → RefusesFault ts f e → HasFault e ts p
  faulty (BadName at) e k g = fault_found (record { code = 5; place = at }) e k g
  faulty (BadType at) e k g = fault_found (record { code = 6; place = at }) e k g
  faulty Memory e k g = subst (λ (x : FrontFault). HasFault x ts p) (sym g) tt

  -- ---- the last phase, where there is no such fault

  pub whole_refuses : (m : MonitoredProgram) (r : PlainRefusal) (e : FrontFault) → checked ts p ≡ Ok m → last_refusal ts.names p ≡ Some r → RefusesWith r e → RefusesTree e ts p
  whole_refuses m r front.Memory k h g = tt
  whole_refuses m r (front.Refused x) k h g = tree.AsAWhole m k (h ∙ ap Some (sym g))

  -- by what the text has of a `main`
  last_by : (room : Option PlainRefusal) (f : Option ParsedFunction) → last_of room f ≡ refusal_by room (found_main f)
  last_by None None = refl
  last_by (Some r) None = refl
  last_by None (Some f) = by (is_main f)
    where
      by : (b : Bool) → (if b then None else Some (no_main f.name.place)) ≡ refusal_by None (if b then Right else Wrong f.name.place)
      by true = refl
      by false = refl
  last_by (Some r) (Some f) = by (is_main f)
    where
      by : (b : Bool) → Some r ≡ refusal_by (Some r) (if b then Right else Wrong f.name.place)
      by true = refl
      by false = refl

  pub last_with_room : first_too_large 0 p.globals ≡ None → last_refusal ts.names p ≡ refusal_by None (found_main (main_in ts.names p.functions))
  last_with_room e = ap (λ o. last_of (option_map (too_large ts.names) o) (main_in ts.names p.functions)) e ∙ last_by None (main_in ts.names p.functions)

  pub last_without_room : (x : NameUse) → first_too_large 0 p.globals ≡ Some x
      → last_refusal ts.names p ≡ refusal_by (Some (too_large ts.names x)) (found_main (main_in ts.names p.functions))
  last_without_room x e = ap (λ o. last_of (option_map (too_large ts.names) o) (main_in ts.names p.functions)) e ∙ last_by (Some (too_large ts.names x)) (main_in ts.names p.functions)

  -- a refusal there is
  by_refuses : (m : MonitoredProgram) (o : Option PlainRefusal) (e : FrontFault) → checked ts p ≡ Ok m → last_refusal ts.names p ≡ o → ((o ≡ None) → ⊥)
      → ((r : PlainRefusal) → o ≡ Some r → RefusesWith r e) → RefusesTree e ts p
  by_refuses m None e k h some g = absurd (some refl)
  by_refuses m (Some r) e k h some g = whole_refuses m r e k h (g r refl)

  never : (r : PlainRefusal) (f : FoundMain) → refusal_by (Some r) f ≡ None → ⊥
  never r Missing e = cc
  never r (Wrong at) e = cc
  never r Right e = cc

  room_refused : (x : NameUse) (e : FrontFault) → ((m : MonitoredProgram) × (checked ts p ≡ Ok m)) × (first_too_large 0 p.globals ≡ Some x)
      → ((r : PlainRefusal) → refusal_by (Some (too_large ts.names x)) (found_main (main_in ts.names p.functions)) ≡ Some r → RefusesWith r e) → RefusesTree e ts p
  room_refused x e h g = by_refuses h.0.0 _ e h.0.1 (last_without_room x h.1) (never (too_large ts.names x) (found_main (main_in ts.names p.functions))) g

  -- the same of the names that were read
  module _ (names : List (List ℕ)) (same : names ≡ ts.names) where
    pub room_refuses : (x : NameUse) (e : FrontFault) → ((m : MonitoredProgram) × (checked ts p ≡ Ok m)) × (first_too_large 0 p.globals ≡ Some x)
        → ((r : PlainRefusal) → refusal_by (Some (too_large names x)) (found_main (main_in names p.functions)) ≡ Some r → RefusesWith r e) → RefusesTree e ts p
    room_refuses x e h g =
        room_refused x e h (subst (λ ns. (r : PlainRefusal) → refusal_by (Some (too_large ns x)) (found_main (main_in ns p.functions)) ≡ Some r → RefusesWith r e) same g)

    -- where globals have room
    main_is : first_too_large 0 p.globals ≡ None → (f : FoundMain) → f ≡ found_main (main_in names p.functions) → last_refusal ts.names p ≡ refusal_by None f
    main_is room f is = last_with_room room ∙ ap (refusal_by None) (sym (is ∙ ap (λ ns. found_main (main_in ns p.functions)) same))

    pub missing_refuses : (m : MonitoredProgram) (at : Place) (e : FrontFault) → (checked ts p ≡ Ok m) × (first_too_large 0 p.globals ≡ None)
        → Missing ≡ found_main (main_in names p.functions) → at ≡ first_place → RefusesWith (no_main at) e → RefusesTree e ts p
    missing_refuses m at e k is first g = whole_refuses m (no_main at) e k.0 (main_is k.1 Missing is ∙ ap (λ z. Some (no_main z)) (sym first)) g

    pub wrong_refuses : (m : MonitoredProgram) (at : Place) (e : FrontFault) → (checked ts p ≡ Ok m) × (first_too_large 0 p.globals ≡ None)
        → Wrong at ≡ found_main (main_in names p.functions) → RefusesWith (no_main at) e → RefusesTree e ts p
    wrong_refuses m at e k is g = whole_refuses m (no_main at) e k.0 (main_is k.1 (Wrong at) is) g

-- ---- the text

module _ (text : List ℕ) (ts : PlainTokens) (has : monitored_tokens text ≡ Ok ts) where
  pub refused_by_grammar : (e : FrontFault) → parser.Refuses e ts → Refuses e text
  refused_by_grammar front.Memory g = tt
  refused_by_grammar (front.Refused x) g = ByGrammar ts g.fault has g.refused g.unread g.is

  module _ (p : ParsedProgram) (read : IsRead ts p) where
    refused_as : (r : PlainRefusal) → IsTreeRefusal ts p r → IsMonitoredRefusal text r
    refused_as r (tree.ForFault g) = ByNamesAndTypes ts p g.fault has read g.found g.is
    refused_as r (tree.AsAWhole m k e) = AsAWhole ts p m has read k e

    refused_by_tree : (e : FrontFault) → RefusesTree e ts p → Refuses e text
    refused_by_tree front.Memory g = tt
    refused_by_tree (front.Refused x) g = refused_as (plain_refusal x) g

    -- what is said of the tree holds of the text
    pub answered : (r : Result MonProgram FrontFault) → MatchResult r (λ m. IsEntered ts p (plain_program m)) (λ e. RefusesTree e ts p) → MatchResult r (λ m. Spells text (plain_program m)) (λ e. Refuses e text)
    answered (Ok m) g = record { tokens = ts; has = has; tree = p; read = read; is = g.is; whole = g.whole }
    answered (Err e) g = refused_by_tree e g
