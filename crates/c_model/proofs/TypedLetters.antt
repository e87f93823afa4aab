-- Letters in a typed file are values of `char` (C99 6.4.4.4 p10) where those that are read are: typing changes none.
use Rattle.std.proofs.Common.{List, [], ◌∷◌, sym, subst}
use Rattle.c_syntax.specs.declared.place.Place.{Place}
use Rattle.c_syntax.specs.declared.expression.Use.{Use}
use Rattle.c_syntax.specs.Ctypes.{PlainType}
use Rattle.c_syntax.specs.Expressions.{Expression, Node, ExpressionKind, Number, Letter, Text, Variable, Unary, Binary, Both, Either, Choice, Assign, Bump, Call, Cast, SizeOfType, SizeOfExpr, Index, Dot, Arrow, Comma}
use Rattle.c_syntax.specs.Expressions.{Expressions, NoExpression, Following}
use Rattle.c_syntax.specs.Programs.{TranslationUnit}
use Rattle.c_syntax.specs.Trees.{kind_of}
use Rattle.c_model.specs.FullExpressions.{EachExpression}
use Rattle.c_model.specs.LetterValues.{LettersFit, AllLettersFit}
use Rattle.c_model.specs.TypedFileItems.{FileTypedAs}
use Rattle.c_model.specs.TypedTrees.{AsUse, AsNumber, NameTypedAs, TypedAs, KindTypedAs, AllTypedAs, in_casts}
use Rattle.c_model.proofs.TypedEach.{declared_typed, functions_typed}

casts_letters : (ts : List PlainType) (e : Expression) → LettersFit e → LettersFit (in_casts ts e)
casts_letters [] e h = h
casts_letters (t ∷ ts) e h = casts_letters ts e h

name_letters : (at : Place) (u : PlainType) (x : Use) (j : ExpressionKind) → NameTypedAs x j → LettersFit (Node at u j)
name_letters at u x j (AsUse decl e) = subst (λ j. LettersFit (Node at u j)) (sym e) tt
name_letters at u x j (AsNumber n k e) = subst (λ j. LettersFit (Node at u j)) (sym e) tt

mutual
  letters_as : (r e : Expression) → TypedAs r e → LettersFit r → LettersFit e
  letters_as (Node at t k) e h p = subst LettersFit (sym h.2) (casts_letters h.0 h.1 (kind_letters at t k h.1 h.4 p))

  kind_letters : (at : Place) (t : PlainType) (k : ExpressionKind) (x : Expression) → KindTypedAs k (kind_of x) → LettersFit (Node at t k) → LettersFit x
  kind_letters at t (Number n k) (Node a u j) h p = subst (λ j. LettersFit (Node a u j)) (sym h.1) tt
  kind_letters at t (Letter n) (Node a u j) h p = subst (λ j. LettersFit (Node a u j)) (sym h) p
  kind_letters at t (Text n) (Node a u j) h p = subst (λ j. LettersFit (Node a u j)) (sym h.1) tt
  kind_letters at t (Variable x) (Node a u j) h p = name_letters a u x j h
  kind_letters at t (Unary op b) (Node a u j) h p = subst (λ j. LettersFit (Node a u j)) (sym h.1) (letters_as b h.0 h.2 p)
  kind_letters at t (Binary op b c) (Node a u j) h p = subst (λ j. LettersFit (Node a u j)) (sym h.2) (letters_as b h.0 h.3 p.0, letters_as c h.1 h.4 p.1)
  kind_letters at t (Both b c) (Node a u j) h p = subst (λ j. LettersFit (Node a u j)) (sym h.2) (letters_as b h.0 h.3 p.0, letters_as c h.1 h.4 p.1)
  kind_letters at t (Either b c) (Node a u j) h p = subst (λ j. LettersFit (Node a u j)) (sym h.2) (letters_as b h.0 h.3 p.0, letters_as c h.1 h.4 p.1)
  kind_letters at t (Choice b c d) (Node a u j) h p = subst (λ j. LettersFit (Node a u j)) (sym h.3) (letters_as b h.0 h.4 p.0, letters_as c h.1 h.5 p.1, letters_as d h.2 h.6 p.2)
  kind_letters at t (Assign op b c) (Node a u j) h p = subst (λ j. LettersFit (Node a u j)) (sym h.2) (letters_as b h.0 h.3 p.0, letters_as c h.1 h.4 p.1)
  kind_letters at t (Bump op b) (Node a u j) h p = subst (λ j. LettersFit (Node a u j)) (sym h.1) (letters_as b h.0 h.2 p)
  kind_letters at t (Call f es) (Node a u j) h p = subst (λ j. LettersFit (Node a u j)) (sym h.2) (all_letters es h.1 h.3 p)
  kind_letters at t (Cast to b) (Node a u j) h p = subst (λ j. LettersFit (Node a u j)) (sym h.2) (letters_as b h.1 h.3 p)
  kind_letters at t (SizeOfType v) (Node a u j) h p = subst (λ j. LettersFit (Node a u j)) (sym h.1) tt
  kind_letters at t (SizeOfExpr b) (Node a u j) h p = subst (λ j. LettersFit (Node a u j)) (sym h.1) tt
  kind_letters at t (Index b c) (Node a u j) h p = subst (λ j. LettersFit (Node a u j)) (sym h.2) (letters_as b h.0 h.3 p.0, letters_as c h.1 h.4 p.1)
  kind_letters at t (Dot b m) (Node a u j) h p = subst (λ j. LettersFit (Node a u j)) (sym h.1) (letters_as b h.0 h.2 p)
  kind_letters at t (Arrow b m) (Node a u j) h p = subst (λ j. LettersFit (Node a u j)) (sym h.1) (letters_as b h.0 h.2 p)
  kind_letters at t (Comma b c) (Node a u j) h p = subst (λ j. LettersFit (Node a u j)) (sym h.2) (letters_as b h.0 h.3 p.0, letters_as c h.1 h.4 p.1)

  all_letters : (es fs : Expressions) → AllTypedAs es fs → AllLettersFit es → AllLettersFit fs
  all_letters NoExpression fs h p = subst AllLettersFit (sym h) tt
  all_letters (Following e es) fs h p = subst AllLettersFit (sym h.2) (letters_as e h.0 h.3 p.0, all_letters es h.1 h.4 p.1)

-- ---- files

pub typed_letters : (p q : TranslationUnit) → FileTypedAs p q → EachExpression LettersFit p → EachExpression LettersFit q
typed_letters p q h e = record {
  globals = declared_typed LettersFit letters_as p.globals q.globals h.globals e.globals;
  funcs = functions_typed LettersFit letters_as p.funcs q.funcs h.functions e.funcs;
}
