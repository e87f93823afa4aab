-- Parameters that are read have names of C where they have one, and no initialisers, and their numbers ascend.
use Rattle.std.proofs.Common.{◌≡◌, ℕ, ◌<◌, ◌≤◌, true, false, not, ◌&&◌, List, [], ◌∷◌, ◌++◌, map, Option, Some, None, refl, sym, subst, arith}
use Rattle.std.proofs.lemmas.List.{map-append}
use Rattle.std.specs.List.{AllByRecursion}
use Rattle.grammar.specs.Syntax.{◌then◌}
use Rattle.c_syntax.specs.declared.place.Place.{Place}
use Rattle.c_syntax.specs.Ctypes.{PlainType, Void}
use Rattle.c_syntax.specs.Statements.{Declaration}
use Rattle.c_model.specs.Vocabulary.{Vocabulary}
use Rattle.c_model.specs.Punctuators.{comma, right_paren}
use Rattle.c_model.specs.ExpressionGrammar.{name_kind, mark_kind, kind, mark, star_words, more_consts, declared_type}
use Rattle.c_model.specs.ExpressionGrammar.{type_start, type_behind, TypeStart, VoidStart, ConstStart, StructStart, EnumStart, NameStart, IntegerStart}
use Rattle.c_model.specs.DeclarationGrammar.{AbstractDeclarator, parameter_of, is_nothing, lengths, maybe_name, abstract_dtor, full_abstract_dtor}
use Rattle.c_model.specs.DeclarationGrammar.{parameter_rest, void_parameter, parameter_behind, parameter, next_parameter, more_parameters, first_parameter, parameters}
use Rattle.c_model.specs.Formed.{number_of}
use Rattle.c_model.specs.ReadTree.{Between}
use Rattle.c_reader.proofs.PlacedReadings.{From, from_none, from_gives, from_then, from_choice, from_cond, from_at_most, from_any, from_many, between_joined, between_higher, IsPlaceWithin, placed_from}
use Rattle.c_reader.proofs.DeclarationForms.{IsLater, IsNewName, IsNameWithin, name_wider, name_from, all_joined}
use Rattle.c_reader.proofs.StatementForms.{closed_from}

abbrev pub HasNoInitialiser : Declaration → Type 0
HasNoInitialiser d = d.init ≡ None

module _ (size : ℕ) (old : Vocabulary) where
  -- a parameter has the name of a C text, where it has one
  abbrev pub IsNamed : Declaration → Type 0
  IsNamed d = d.named ≡ true → IsNewName size old d.name

  -- from the offset l on, and before the offset n
  record IsParameter (l n : ℕ) (d : Declaration) : Type 0 where
    named : IsNamed d
    bare : HasNoInitialiser d
    from : l ≤ number_of d
    to : number_of d < n

  pub record AreParameters (l n : ℕ) (ds : List Declaration) : Type 0 where
    pub named : AllByRecursion IsNamed ds
    pub bare : AllByRecursion HasNoInitialiser ds
    pub numbers : Between l (map number_of ds) n

  no_parameters : (l n : ℕ) → l ≤ n → AreParameters l n []
  no_parameters l n le = record { named = tt; bare = tt; numbers = le }

  one_parameter : (l n : ℕ) (d : Declaration) → IsParameter l n d → AreParameters l n (d ∷ [])
  one_parameter l n d p = record { named = (p.named, tt); bare = (p.bare, tt); numbers = (p.from, p.to) }

  parameters_joined : (l m n : ℕ) (ds es : List Declaration) → AreParameters l m ds → AreParameters m n es → AreParameters l n (ds ++ es)
  parameters_joined l m n ds es p q = record {
    named = all_joined IsNamed ds es p.named q.named;
    bare = all_joined HasNoInitialiser ds es p.bare q.bare;
    numbers = subst (λ is. Between l is n) (sym (map-append number_of ds es)) (between_joined l m n (map number_of ds) (map number_of es) p.numbers q.numbers);
  }

  parameters_higher : (l m n : ℕ) (ds : List Declaration) → m ≤ n → AreParameters l m ds → AreParameters l n ds
  parameters_higher l m n ds le p = record { named = p.named; bare = p.bare; numbers = between_higher l m n (map number_of ds) le p.numbers }

  place_on : (l m n : ℕ) (at : Place) → m ≤ n → IsPlaceWithin l m at → IsPlaceWithin l n at
  place_on l m n at le p = record { from = p.from; to = omega (arith, le, p.to) }

  -- a name that may be left out
  abbrev IsMaybeName : ℕ → ℕ → Option (ℕ × Place) → Type 0
  IsMaybeName l n None = l ≤ n
  IsMaybeName l n (Some x) = IsNameWithin size old l n x

  maybe_wider : (k l m n : ℕ) (o : Option (ℕ × Place)) → k ≤ l → m ≤ n → IsMaybeName l m o → IsMaybeName k n o
  maybe_wider k l m n None le lf p = omega (arith, le, lf, p)
  maybe_wider k l m n (Some x) le lf p = name_wider size old k l m n x le lf p

  parameter_is : (l m n : ℕ) (t : PlainType) (first : ℕ × Place) (d : AbstractDeclarator) → IsPlaceWithin l m first.1 → IsMaybeName m n d.name → IsParameter l n (parameter_of t first d)
  parameter_is l m n t first d p q = by d.name q
    where
      by : (o : Option (ℕ × Place)) → IsMaybeName m n o
          → IsParameter l n (elim o [
            | Some x ↦ record { place = x.1; name = x.0; named = true; ctype = declared_type t d.stars d.lengths; init = None }
            | None ↦ record { place = first.1; name = first.0; named = false; ctype = declared_type t d.stars d.lengths; init = None }
          ])
      by (Some x) h = record { named = λ e. h.new; bare = refl; from = omega (arith, p.from, p.to, h.from); to = h.to }
      by None h = record { named = λ e. absurd cc; bare = refl; from = p.from; to = omega (arith, p.to, h) }

  -- ---- productions, where what the words are comes later

  module _ (ws : Vocabulary) (later : IsLater old ws) where
    maybe_name_from : (l : ℕ) → From size l (maybe_name ws) (IsMaybeName l)
    unfolding maybe_name
    maybe_name_from l = from_choice (kind ws) (name_kind ∷ []) (from_then (name_from size old ws later l) (λ n x p. from_gives _ p)) (from_gives _ (omega arith))

    abstract_from : (l : ℕ) → From size l (full_abstract_dtor ws) (λ n d. IsMaybeName l n d.name)
    unfolding full_abstract_dtor abstract_dtor
    abstract_from l = from_at_most (from_then (from_any (star_words ws)) (λ m _ le. from_then (maybe_name_from m) (λ i o p. from_then (from_any (lengths ws)) (λ n _ lf.
        from_gives _ (maybe_wider l m i n o le lf p)))))

    rest_from : (l m : ℕ) (t : PlainType) (first : ℕ × Place) → IsPlaceWithin l m first.1 → From size m (parameter_rest ws t first) (IsParameter l)
    unfolding parameter_rest
    rest_from l m t first p = from_then (abstract_from m) (λ n d q. from_gives _ (parameter_is l m n t first d p q))

    void_from : (l m : ℕ) (first : ℕ × Place) → IsPlaceWithin l m first.1 → From size m (void_parameter ws first) (IsParameter l)
    unfolding void_parameter
    void_from l m first p = from_then (from_any (more_consts ws false)) (λ i c le. from_then (abstract_from i) (λ n d q.
        from_cond (not c && is_nothing d) (λ _. from_none) (λ _. from_gives _ (parameter_is l i n Void first d (place_on l m i first.1 le p) q))))

    typed_from : (s : TypeStart) (l m : ℕ) (first : ℕ × Place) → IsPlaceWithin l m first.1 → From size m (type_behind ws s then λ t. parameter_rest ws t first) (IsParameter l)
    typed_from s l m first p = from_then (from_any (type_behind ws s)) (λ i t le. rest_from l i t first (place_on l m i first.1 le p))

    behind_word : (s : TypeStart) (l m : ℕ) (first : ℕ × Place) → IsPlaceWithin l m first.1 → From size m (parameter_behind ws s first) (IsParameter l)
    unfolding parameter_behind
    behind_word VoidStart l m first p = void_from l m first p
    behind_word ConstStart l m first p = typed_from ConstStart l m first p
    behind_word StructStart l m first p = typed_from StructStart l m first p
    behind_word EnumStart l m first p = typed_from EnumStart l m first p
    behind_word (NameStart t) l m first p = typed_from (NameStart t) l m first p
    behind_word (IntegerStart x) l m first p = typed_from (IntegerStart x) l m first p

    parameter_from : (l : ℕ) → From size l (parameter ws) (IsParameter l)
    unfolding parameter
    parameter_from l = from_then (placed_from (type_start ws) l) (λ m s p. behind_word s.0.0 l m (s.0.1, s.1) p)

    next_from : (l m : ℕ) (ds : List Declaration) → AreParameters l m ds → From size m (next_parameter ws ds) (AreParameters l)
    unfolding next_parameter
    next_from l m ds h =
        from_then (from_any (mark ws comma)) (λ i _ le. from_then (parameter_from i) (λ n d p.
        from_gives _ (parameters_joined l i n ds (d ∷ []) (parameters_higher l m i ds le h) (one_parameter i n d p))))

    more_from : (l m : ℕ) (d : Declaration) → IsParameter l m d → From size m (more_parameters ws d) (AreParameters l)
    unfolding more_parameters
    more_from l m d p =
        from_then (from_many (kind ws) (λ _. mark_kind comma ∷ []) {P = AreParameters l} (λ i ds h. next_from l i ds h) m (d ∷ []) (one_parameter l m d p)) (λ i ds h.
        closed_from size old ws (AreParameters l) ds (λ n le. parameters_higher l i n ds le h))

    first_more : (s : TypeStart) (l m : ℕ) (first : ℕ × Place) → IsPlaceWithin l m first.1 → From size m (parameter_behind ws s first then λ p. more_parameters ws p) (AreParameters l)
    first_more s l m first p = from_then (behind_word s l m first p) (λ i d q. more_from l i d q)

    first_from : (s : TypeStart) (l m : ℕ) (first : ℕ × Place) → IsPlaceWithin l m first.1 → From size m (first_parameter ws s first) (AreParameters l)
    unfolding first_parameter
    first_from VoidStart l m first p =
        from_choice (kind ws) (mark_kind right_paren ∷ [])
        (closed_from size old ws (AreParameters l) [] (λ n le. no_parameters l n (omega (arith, le, p.from, p.to))))
        (from_then (void_from l m first p) (λ i d q. more_from l i d q))
    first_from ConstStart l m first p = first_more ConstStart l m first p
    first_from StructStart l m first p = first_more StructStart l m first p
    first_from EnumStart l m first p = first_more EnumStart l m first p
    first_from (NameStart t) l m first p = first_more (NameStart t) l m first p
    first_from (IntegerStart x) l m first p = first_more (IntegerStart x) l m first p

    pub parameters_from : (l : ℕ) → From size l (parameters ws) (AreParameters l)
    unfolding parameters
    parameters_from l =
        from_choice (kind ws) (mark_kind right_paren ∷ []) (closed_from size old ws (AreParameters l) [] (λ n le. no_parameters l n le))
        (from_then (placed_from (type_start ws) l) (λ m s p. first_from s.0.0 l m (s.0.1, s.1) p))
