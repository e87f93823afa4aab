-- Ours: the plain form of what a form of annotations is by its sort (ACSL 2.2).
use Rattle.c_syntax.specs.declared.logic.Term.{Term}
use Rattle.c_syntax.specs.declared.types.CType.{CType}
use Rattle.c_syntax.specs.Ctypes.{PlainType, plain_type}
use Rattle.c_syntax.specs.Logic.{LogicTerm, plain_term, plain_pred}
use Rattle.c_model.specs.PredicateTyping as plain
use Rattle.c_model.specs.PredicateTyping.{ATerm, APredicate, APlace, AnInteger, APointer, NoValue}
use Rattle.annot_typing.specs.declared.sorted.Sorted.{Sorted}
use Rattle.annot_typing.specs.declared.sorted.Sorted.TheVariants as code
use Rattle.annot_typing.specs.declared.sorted.ValueSort.{ValueSort}
use Rattle.annot_typing.specs.declared.sorted.ValueSort.TheVariants as sort

abbrev pub plain_sorted : Sorted → plain.Sorted
plain_sorted (code.Term t) = ATerm (plain_term t)
plain_sorted (code.Predicate p) = APredicate (plain_pred p)
plain_sorted (code.Place t) = APlace (plain_term t)

abbrev pub plain_sort : ValueSort → plain.ValueSort
plain_sort sort.Integer = AnInteger
plain_sort (sort.Pointer t) = APointer (plain_type t.now)
plain_sort sort.NoValue = NoValue

abbrev pub plain_two : (Sorted × Sorted) → (plain.Sorted × plain.Sorted)
plain_two p = (plain_sorted p.0, plain_sorted p.1)

abbrev pub plain_three : (Sorted × (Sorted × Sorted)) → (plain.Sorted × (plain.Sorted × plain.Sorted))
plain_three p = (plain_sorted p.0, plain_two p.1)

-- a pointer, with the type of what it points to
abbrev pub plain_pointer : (CType × Term) → (PlainType × LogicTerm)
plain_pointer p = (plain_type p.0, plain_term p.1)
