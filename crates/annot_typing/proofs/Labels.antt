-- What is in sight at a label of C, where a body's annotations stand.
use Rattle.std.proofs.Common.{◌≡◌, ℕ, [], sym, ap, ◌∙◌, subst, Bor, Option, Some, None, option_map}
use Rattle.c_syntax.specs.declared.logic.Label.TheVariants.{Marked}
use Rattle.c_model.specs.AnnotationSights.{AnnotationSight, UnderLabel, sight_at, under_label}
use Rattle.c_model.specs.ExpressionTyping.{Sight}
use Rattle.c_scopes.specs.declared.label.Labels.{Labels}
use Rattle.c_scopes.specs.declared.sight.Mark.{Mark}
use Rattle.c_scopes.specs.KnownLabels.{marks_of, sight_of}
use Rattle.c_scopes.specs.Labels.{mark_named}
use Rattle.c_scopes.proofs.Labels.{marked_is}
use Rattle.annot_typing.specs.declared.clause_sight.ClauseSight.{ClauseSight}
use Rattle.annot_typing.specs.declared.clause_sight.ClauseSight.TheVariants as code
use Rattle.annot_typing.specs.Sights.{annotation_sight}

module _ (s : Sight) (k : ClauseSight) (begin : Mark) (ls : Bor Labels) (name : ℕ) (is : k ≡ code.InBody begin ls)
  where
    abbrev here : AnnotationSight
    here = annotation_sight s (code.InBody begin ls)

    -- what is in sight under a label of C
    abbrev bare : Sight → AnnotationSight
    bare v = record { here = v; labels = []; clause = UnderLabel []; binders = [] }

    at_mark : (o : Option Mark) → o ≡ mark_named name (marks_of ls.now) → option_map (under_label here) (option_map (sight_of s) o) ≡ sight_at here (Marked name)
    at_mark o named = ap (option_map (under_label here)) (ap (option_map (sight_of s)) named ∙ sym (marked_is s name (marks_of ls.now)))

    pub label_unknown : None ≡ mark_named name (marks_of ls.now) → None ≡ sight_at (annotation_sight s k) (Marked name)
    label_unknown named = subst (λ k. None ≡ sight_at (annotation_sight s k) (Marked name)) (sym is) (at_mark None named)

    pub label_known : (m : Mark) → Some m ≡ mark_named name (marks_of ls.now) → Some (bare (sight_of s m)) ≡ sight_at (annotation_sight s k) (Marked name)
    label_known m named = subst (λ k. Some (bare (sight_of s m)) ≡ sight_at (annotation_sight s k) (Marked name)) (sym is) (at_mark (Some m) named)
