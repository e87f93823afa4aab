use Rattle.std.proofs.Common.{◌≡◌, ◌+◌, ◌∙◌, ap, take, rules, true, Err, subst, sym, arith, ◌<◌, map, length, slice_set}
use Rattle.c_syntax.specs.Ctypes.{Array, plain_length, plain_type}
use Rattle.c_syntax.specs.Expressions.{Expression, Assign, Binary, Both, Call, Cast, Comma, Either, Index, Node, SizeOfExpr, SizeOfType, place_of, plain_expr, plain_exprs, plain_kind, type_of}
use Rattle.c_syntax.specs.declared.types.CType.{CType}
use Rattle.c_model.specs.Checked.{Good}
use Rattle.c_model.specs.ExpressionTyping.{argument_for, assign, binary, both_of, cast, constant, counted, decayed, decayed_of, either_of, first_type, index, known_type, limited, size_of_expression, typed, typed_length, typed_type}
use Rattle.c_scopes.specs.Answers.{Answers}
use Rattle.c_expression_rules.specs.Constants.{has_small_sizes}
use Rattle.c_expression_rules.specs.Forms.{cast_parts, size_of_parts, typed_call, typed_elements, typed_after_place, typed_kind, typed_of_two, typed_place_and_value, typed_two}
use Rattle.c_scopes.specs.Sights.{plain_sight}
use Rattle.c_expression_rules.specs.Structs.{limit_answer}
use Rattle.c_expression_rules.proofs.Besides.{asked_answers, limit_is, limited_told}
use Rattle.c_expression_rules.proofs.Expressions.{call_form, call_parts, arguments_step, form_is, params_step, refused_as}
use Rattle.c_scopes.proofs.InPlace.{done, seen, unvisited_step, within_step}
use Rattle.c_scopes.proofs.Least.{both_answers, both_made, both_refused, one_refused}
use Rattle.c_expression_rules.proofs.Small.{small_decayed}
use Rattle.c_expression_rules.proofs.SmallForms.{small_typed}
use Rattle.c_scopes.proofs.Told.{array_known}
use Rattle.c_expression_rules.proofs.expression.+expression.Goals as goal

pub type_call_parts-returns : goal.type_call_parts-returns
type_call_parts-returns t c =
    rw c.both.ensures.is (call_parts (plain_sight c.args.sight.now) c.args.place c.args.name (plain_exprs c.args.arguments.now.items) (plain_exprs c.type_arguments-typed.new.arguments.items) c.callee_for-f.result
    c.type_arguments-typed.result (rw c.deref.ensures.value at c.callee_for-f.ensures) (rw (c.known_params.ensures, c.is_printf-printed.ensures) at c.type_arguments-typed.ensures))

pub type_arguments-loop-i-preserved : goal.type_arguments-loop-i-preserved
type_arguments-loop-i-preserved t c =
    let s = plain_sight c.args.sight.now in
    let ts = map plain_type c.args.params.now in
    let old = c.args.arguments.now.items in
    let cur = c.loop-i.arguments.items in
    let i = c.loop-i.i in
    let x = c.index_mut.result.now in
    let y = c.type_argument-e.new.e in
    let lt : i < length cur = search (rules, arith) in
    let was = seen old cur i x lt c.loop-i.invariant.unvisited c.index_mut.ensures.value in
    record {
      unvisited = unvisited_step old cur i y c.loop-i.invariant.unvisited;
      within = within_step cur i y lt;
      rest = params_step ts (take i old) (take (i + 1) old) x (map plain_type c.loop-i.rest.now) (map plain_type c.behind_first-rest.result.now) was c.loop-i.invariant.rest c.behind_first-rest.ensures;
      done = rw c.both-done.ensures.is (arguments_step s c.args.printed ts (take i old) (take (i + 1) old) (take i cur) (take (i + 1) (slice_set cur i y)) x y c.loop-i.done c.type_argument-e.result was
          (done cur i y lt) c.loop-i.invariant.done (rw c.loop-i.invariant.rest at c.type_argument-e.ensures));
    }

pub type_array-returns-clause-typed : goal.type_array-returns-clause-typed
type_array-returns-clause-typed t c =
    let s = plain_sight c.args.sight.now in
    both_made (λ u m. Array u m) (λ (w : Unit {0}). plain_type c.type_elements-elements.new.u) (λ w. plain_length c.type_length-length.new.n) (typed_elements s c.args.place (plain_type c.args.u.now))
    (typed_length s c.args.place (plain_length c.args.n.now)) c.type_elements-elements.result c.type_length-length.result c.both.result c.type_elements-elements.ensures.typed c.type_length-length.ensures.typed
    (sym c.both.ensures.is)

pub type_array-returns-clause-known : goal.type_array-returns-clause-known
type_array-returns-clause-known t c =
    array_known (plain_sight c.args.sight.now) (plain_type c.args.u.now) (plain_type c.type_elements-elements.new.u) (plain_length c.args.n.now) (plain_length c.type_length-length.new.n)
    c.type_elements-elements.result c.type_length-length.result c.both.result c.type_elements-elements.ensures.known c.type_length-length.ensures.known c.both.ensures.is

pub type_argument-returns-in_err-type_value : goal.type_argument-returns-in_err-type_value
type_argument-returns-in_err-type_value t c =
    let s = plain_sight c.args.sight.now in
    let e : c.from_residual.result ≡ Err c.in_err-type_value.field-0.0 = search rules in
    let x = plain_expr c.type_value.new.e in
    rw e (one_refused (argument_for s c.args.printed (first_type (map plain_type c.args.params.now))) (λ (u : Unit {0}). x) (λ (u : Unit {0}). x) (decayed_of (typed s (plain_expr c.args.e.now)))
    c.in_err-type_value.field-0.0 c.in_err-type_value.ensures.typed)

pub type_value-returns-in_err-type_expr-clause-typed : goal.type_value-returns-in_err-type_expr-clause-typed
type_value-returns-in_err-type_expr-clause-typed t c =
    let s = plain_sight c.args.sight.now in
    let e : c.from_residual.result ≡ Err c.in_err-type_expr.field-0.0 = search rules in
    let x = plain_expr c.type_expr.new.e in
    rw e (one_refused (λ (e : Expression). Good (decayed e)) (λ (u : Unit {0}). x) (λ (u : Unit {0}). x) (typed s (plain_expr c.args.e.now)) c.in_err-type_expr.field-0.0 c.in_err-type_expr.ensures.typed)

pub type_count-returns-in_err-type_expr : goal.type_count-returns-in_err-type_expr
type_count-returns-in_err-type_expr t c =
    let s = plain_sight c.args.sight.now in
    let e : c.from_residual.result ≡ Err c.in_err-type_expr.field-0.0 = search rules in
    let old = plain_expr c.args.e.now in
    rw e (one_refused (λ x. counted (place_of old) (constant s x)) (λ (u : Unit {0}). plain_expr c.type_expr.new.e) plain_length (typed s old) c.in_err-type_expr.field-0.0 c.in_err-type_expr.ensures.typed)

pub type_size_of_expr-returns-in_err-type_expr : goal.type_size_of_expr-returns-in_err-type_expr
type_size_of_expr-returns-in_err-type_expr t c =
    let s = plain_sight c.args.sight.now in
    let e : c.from_residual.result ≡ Err c.in_err-type_expr.field-0.0 = search rules in
    let a = plain_expr c.type_expr.new.e in
    rw e (one_refused (λ x. limited s c.args.place (type_of x) (size_of_expression s c.args.place x)) (λ (u : Unit {0}). a) (λ (t : CType). Node c.args.place (plain_type t) (SizeOfExpr a))
    (typed s (plain_expr c.args.a.now)) c.in_err-type_expr.field-0.0 c.in_err-type_expr.ensures.typed)

pub type_cast_parts-returns-in_err-both-clause-typed : goal.type_cast_parts-returns-in_err-both-clause-typed
type_cast_parts-returns-in_err-both-clause-typed t c =
    let s = plain_sight c.args.sight.now in
    let e : c.from_residual.result ≡ Err c.in_err-both.field-0.0 = search rules in
    let to = plain_type c.type_written-written.new.t in
    let a = plain_expr c.type_value-operand.new.e in
    rw e (both_refused (cast s c.args.place) (λ (u : Unit {0}). to) (λ u. a) (λ (t : CType). Node c.args.place (plain_type t) (Cast to a)) (typed_type s c.args.place (plain_type c.args.to.now))
    (decayed_of (typed s (plain_expr c.args.a.now))) c.type_written-written.result c.type_value-operand.result c.in_err-both.field-0.0 c.type_written-written.ensures.typed c.type_value-operand.ensures.typed
    (sym c.in_err-both.ensures.is))

pub type_cast-returns : goal.type_cast-returns
type_cast-returns t c =
    let s = plain_sight c.args.sight.now in
    let to = plain_type c.type_cast_parts-parts.new.to in
    let a = plain_expr c.type_cast_parts-parts.new.a in
    limited_told (λ (t : CType). Node c.args.place (plain_type t) (Cast to a)) s c.args.place (known_type s (plain_type c.args.to.now)) to
    (cast_parts s c.args.place (plain_type c.args.to.now) (plain_expr c.args.a.now)) c.type_cast_parts-parts.result c.limited.result (limit_answer s c.args.place to) c.type_cast_parts-parts.ensures.typed
    c.type_cast_parts-parts.ensures.known (limit_is s c.args.place to) c.limited.ensures

pub type_size_of_expr-returns : goal.type_size_of_expr-returns
type_size_of_expr-returns t c =
    let s = plain_sight c.args.sight.now in
    let a = plain_expr c.type_expr.new.e in
    let is : typed s (plain_expr c.args.a.now) ≡ Good a = search rules in
    asked_answers (λ (t : CType). Node c.args.place (plain_type t) (SizeOfExpr a)) s c.args.place (typed s (plain_expr c.args.a.now)) (size_of_expression s c.args.place) a
    c.size_of_expression-size.result c.limited.result (limit_answer s c.args.place (type_of a)) is c.size_of_expression-size.ensures (limit_is s c.args.place (type_of a)) c.limited.ensures

pub type_size_of_type-returns : goal.type_size_of_type-returns
type_size_of_type-returns t c =
    let s = plain_sight c.args.sight.now in
    let u = plain_type c.type_sized_type-parts.new.u in
    limited_told (λ (t : CType). Node c.args.place (plain_type t) (SizeOfType u)) s c.args.place (known_type s (plain_type c.args.u.now)) u
    (size_of_parts s c.args.place (plain_type c.args.u.now)) c.type_sized_type-parts.result c.limited.result (limit_answer s c.args.place u) c.type_sized_type-parts.ensures.typed
    c.type_sized_type-parts.ensures.known (limit_is s c.args.place u) c.limited.ensures

pub type_expr-returns-clause-typed : goal.type_expr-returns-clause-typed
type_expr-returns-clause-typed t c =
    let s = plain_sight c.args.sight.now in
    let e = c.args.e.now in
    let made : typed_kind s e.place (plain_kind e.kind.value) ≡ Good (Node e.place (plain_type c.in_ok-ctype.ctype) (plain_kind c.type_kind.new.kind)) = search rules in
    form_is s e.place (plain_type e.ctype) (plain_kind e.kind.value) ∙ made

pub type_expr-returns-clause-small : goal.type_expr-returns-clause-small
type_expr-returns-clause-small t c =
    let s = plain_sight c.args.sight.now in
    let e = c.args.e.now in
    let made : typed_kind s e.place (plain_kind e.kind.value) ≡ Good (Node e.place (plain_type c.in_ok-ctype.ctype) (plain_kind c.type_kind.new.kind)) = search rules in
    small_typed s (plain_expr e) (Node e.place (plain_type c.in_ok-ctype.ctype) (plain_kind c.type_kind.new.kind)) (form_is s e.place (plain_type e.ctype) (plain_kind e.kind.value) ∙ made)

pub type_kind-returns-in-Call : goal.type_kind-returns-in-Call
type_kind-returns-in-Call t c =
    let s = plain_sight c.args.sight.now in
    let x = c.in-Call.x in
    let y = c.type_call.new.x in
    let v = c.in-Call.arguments in
    let w = c.type_call.new.arguments in
    let h : Answers (λ (t : CType). Node c.args.place (plain_type t) (Call y (plain_exprs w.items))) (typed_call s c.args.place x.name (plain_exprs v.items)) c.type_call.result = search rules in
    let whole = call_form s c.args.place x y v w c.type_call.result h in
    search (rules, whole)

pub type_place_and_value-returns-clause-typed : goal.type_place_and_value-returns-clause-typed
type_place_and_value-returns-clause-typed t c =
    let s = plain_sight c.args.sight.now in
    both_answers (λ (u : Unit {0}). plain_expr c.type_expr-first.new.e) (λ u. plain_expr c.type_value-second.new.e) (typed s (plain_expr c.args.a.now)) (decayed_of (typed s (plain_expr c.args.b.now)))
    c.type_expr-first.result c.type_value-second.result c.both.result c.type_expr-first.ensures.typed c.type_value-second.ensures.typed (sym c.both.ensures.is)

pub type_three-returns-clause-typed : goal.type_three-returns-clause-typed
type_three-returns-clause-typed t c =
    let s = plain_sight c.args.sight.now in
    both_answers (λ (u : Unit {0}). plain_expr c.type_value-first.new.e) (λ u. (plain_expr c.type_values-second.new.a, plain_expr c.type_values-second.new.b)) (decayed_of (typed s (plain_expr c.args.a.now)))
    (typed_two s (plain_expr c.args.b.now) (plain_expr c.args.c.now)) c.type_value-first.result c.type_values-second.result c.both.result c.type_value-first.ensures.typed c.type_values-second.ensures.typed (sym c.both.ensures.is)

pub type_value-returns-clause-small : goal.type_value-returns-clause-small
type_value-returns-clause-small t c =
    let structs = (plain_sight c.args.sight.now).structs in
    let e = plain_expr c.type_expr.new.e in
    let is : plain_expr c.decay.new.e ≡ decayed e = search rules in
    let small : has_small_sizes structs e ≡ true = search rules in
    ap (has_small_sizes structs) is ∙ small_decayed structs e small

pub type_values-returns-clause-typed : goal.type_values-returns-clause-typed
type_values-returns-clause-typed t c =
    let s = plain_sight c.args.sight.now in
    both_answers (λ (u : Unit {0}). plain_expr c.type_value-first.new.e) (λ u. plain_expr c.type_value-second.new.e) (decayed_of (typed s (plain_expr c.args.a.now))) (decayed_of (typed s (plain_expr c.args.b.now)))
    c.type_value-first.result c.type_value-second.result c.both.result c.type_value-first.ensures.typed c.type_value-second.ensures.typed (sym c.both.ensures.is)

pub type_two-returns-in_err-type_values-in-Binary : goal.type_two-returns-in_err-type_values-in-Binary
type_two-returns-in_err-type_values-in-Binary t c =
    let s = plain_sight c.args.sight.now in
    let f = c.in_err-type_values-in-Binary.field-0.0 in
    let e : c.from_residual.result ≡ Err f = search rules in
    let pair : Unit {0} → Expression × Expression = λ u. (plain_expr c.type_values.new.a, plain_expr c.type_values.new.b) in
    let asked = typed_two s (plain_expr c.in-Binary.a) (plain_expr c.in-Binary.b) in
    let told : CType → Expression = λ t. Node c.args.place (plain_type t) (Binary c.in-Binary.op (plain_expr c.type_values.new.a) (plain_expr c.type_values.new.b)) in
    let h : Answers pair asked (Err f) = search rules in
    let there = one_refused (λ (p : Expression × Expression). binary s c.args.place c.in-Binary.op p.0 p.1) pair told asked f h in
    let was = subst (λ k. Answers told (typed_of_two s c.args.place (plain_kind k)) (Err f)) (sym c.in-Binary.is) there in
    rw e was

pub type_two-returns-in_err-type_values-in-Both : goal.type_two-returns-in_err-type_values-in-Both
type_two-returns-in_err-type_values-in-Both t c =
    let s = plain_sight c.args.sight.now in
    let f = c.in_err-type_values-in-Both.field-0.0 in
    let e : c.from_residual-in_err-type_values-in-Both.result ≡ Err f = search rules in
    let pair : Unit {0} → Expression × Expression = λ u. (plain_expr c.type_values-in-Both.new.a, plain_expr c.type_values-in-Both.new.b) in
    let asked = typed_two s (plain_expr c.in-Both.a) (plain_expr c.in-Both.b) in
    let told : CType → Expression = λ t. Node c.args.place (plain_type t) (Both (plain_expr c.type_values-in-Both.new.a) (plain_expr c.type_values-in-Both.new.b)) in
    let h : Answers pair asked (Err f) = search rules in
    let there = one_refused (λ (p : Expression × Expression). both_of c.args.place p.0 p.1) pair told asked f h in
    let was = subst (λ k. Answers told (typed_of_two s c.args.place (plain_kind k)) (Err f)) (sym c.in-Both.is) there in
    rw e was

pub type_two-returns-in_err-type_values-in-Either : goal.type_two-returns-in_err-type_values-in-Either
type_two-returns-in_err-type_values-in-Either t c =
    let s = plain_sight c.args.sight.now in
    let f = c.in_err-type_values-in-Either.field-0.0 in
    let e : c.from_residual-in_err-type_values-in-Either.result ≡ Err f = search rules in
    let pair : Unit {0} → Expression × Expression = λ u. (plain_expr c.type_values-in-Either.new.a, plain_expr c.type_values-in-Either.new.b) in
    let asked = typed_two s (plain_expr c.in-Either.a) (plain_expr c.in-Either.b) in
    let told : CType → Expression = λ t. Node c.args.place (plain_type t) (Either (plain_expr c.type_values-in-Either.new.a) (plain_expr c.type_values-in-Either.new.b)) in
    let h : Answers pair asked (Err f) = search rules in
    let there = one_refused (λ (p : Expression × Expression). either_of c.args.place p.0 p.1) pair told asked f h in
    let was = subst (λ k. Answers told (typed_of_two s c.args.place (plain_kind k)) (Err f)) (sym c.in-Either.is) there in
    rw e was

pub type_two-returns-in_err-type_values-in-Index : goal.type_two-returns-in_err-type_values-in-Index
type_two-returns-in_err-type_values-in-Index t c =
    let s = plain_sight c.args.sight.now in
    let f = c.in_err-type_values-in-Index.field-0.0 in
    let e : c.from_residual-in_err-type_values-in-Index.result ≡ Err f = search rules in
    let pair : Unit {0} → Expression × Expression = λ u. (plain_expr c.type_values-in-Index.new.a, plain_expr c.type_values-in-Index.new.b) in
    let asked = typed_two s (plain_expr c.in-Index.a) (plain_expr c.in-Index.b) in
    let told : CType → Expression = λ t. Node c.args.place (plain_type t) (Index (plain_expr c.type_values-in-Index.new.a) (plain_expr c.type_values-in-Index.new.b)) in
    let h : Answers pair asked (Err f) = search rules in
    let there = one_refused (λ (p : Expression × Expression). index s c.args.place p.0 p.1) pair told asked f h in
    let was = subst (λ k. Answers told (typed_of_two s c.args.place (plain_kind k)) (Err f)) (sym c.in-Index.is) there in
    rw e was

pub type_after_place-returns-in_err-type_place_and_value-in-Assign : goal.type_after_place-returns-in_err-type_place_and_value-in-Assign
type_after_place-returns-in_err-type_place_and_value-in-Assign t c =
    let s = plain_sight c.args.sight.now in
    let f = c.in_err-type_place_and_value-in-Assign.field-0.0 in
    let e : c.from_residual.result ≡ Err f = search rules in
    let pair : Unit {0} → Expression × Expression = λ u. (plain_expr c.type_place_and_value.new.a, plain_expr c.type_place_and_value.new.b) in
    let asked = typed_place_and_value s (plain_expr c.in-Assign.a) (plain_expr c.in-Assign.b) in
    let told : CType → Expression = λ t. Node c.args.place (plain_type t) (Assign c.in-Assign.op (plain_expr c.type_place_and_value.new.a) (plain_expr c.type_place_and_value.new.b)) in
    let h : Answers pair asked (Err f) = search rules in
    let there = one_refused (λ (p : Expression × Expression). assign s c.args.place c.in-Assign.op p.0 p.1) pair told asked f h in
    let was = subst (λ k. Answers told (typed_after_place s c.args.place (plain_kind k)) (Err f)) (sym c.in-Assign.is) there in
    rw e was

pub type_after_place-returns-in_err-type_place_and_value-in-Comma : goal.type_after_place-returns-in_err-type_place_and_value-in-Comma
type_after_place-returns-in_err-type_place_and_value-in-Comma t c =
    let s = plain_sight c.args.sight.now in
    let f = c.in_err-type_place_and_value-in-Comma.field-0.0 in
    let e : c.from_residual-in_err-type_place_and_value-in-Comma.result ≡ Err f = search rules in
    let pair : Unit {0} → Expression × Expression = λ u. (plain_expr c.type_place_and_value-in-Comma.new.a, plain_expr c.type_place_and_value-in-Comma.new.b) in
    let asked = typed_place_and_value s (plain_expr c.in-Comma.a) (plain_expr c.in-Comma.b) in
    let told : CType → Expression = λ t. Node c.args.place (plain_type t) (Comma (plain_expr c.type_place_and_value-in-Comma.new.a) (plain_expr c.type_place_and_value-in-Comma.new.b)) in
    let h : Answers pair asked (Err f) = search rules in
    let there = one_refused (λ (p : Expression × Expression). Good (Node c.args.place (type_of p.1) (Comma p.0 p.1))) pair told asked f h in
    let was = subst (λ k. Answers told (typed_after_place s c.args.place (plain_kind k)) (Err f)) (sym c.in-Comma.is) there in
    rw e was

pub type_expr-returns-in_err-ctype-clause-typed : goal.type_expr-returns-in_err-ctype-clause-typed
type_expr-returns-in_err-ctype-clause-typed t c =
    let s = plain_sight c.args.sight.now in
    let e = c.args.e.now in
    let is : c.from_residual.result ≡ Err c.in_err-ctype.field-0.0 = search rules in
    let kind = plain_kind e.kind.value in
    let told : CType → Expression = λ t. Node e.place (plain_type t) (plain_kind c.type_kind.new.kind) in
    let f = c.in_err-ctype.field-0.0 in
    let h : Answers told (typed_kind s e.place kind) (Err f) = search rules in
    let there = subst (λ m. Answers told m (Err f)) (sym (form_is s e.place (plain_type e.ctype) kind)) h in
    let left : Unit {0} → Expression = λ u. Node e.place (plain_type e.ctype) (plain_kind c.type_kind.new.kind) in
    rw is (refused_as told left (typed s (plain_expr e)) f there)
