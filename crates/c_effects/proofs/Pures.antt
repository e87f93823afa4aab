-- The translation of an expression without effects is that of `Expressions`, and nothing is left of it for its effects.
use Rattle.std.proofs.Common.{◌≡◌, Bool, true, false, not, ◌&&◌, List, [], ◌++◌, refl, ap, ◌∙◌, append-nil}
use Rattle.c_syntax.specs.declared.expression.UnOp.TheVariants as prefix
use Rattle.c_syntax.specs.Expressions.{Expression, Node, Number, Letter, Text, Variable, Unary, Binary, Both, Either, Choice, Assign, Bump, Call, Cast, SizeOfType, SizeOfExpr, Index, Dot, Arrow, Comma}
use Rattle.c_syntax.specs.Programs.{TranslationUnit}
use Rattle.c_model.specs.Pure.{IsPure}
use Rattle.mon_syntax.specs.declared.tree.MonType.{MonType}
use Rattle.mon_syntax.specs.Registers.{Bindings}
use Rattle.mon_syntax.specs.Trees.{NoStatement}
use Rattle.c_effects.specs.Expressions.{value, place, setup, temporaries}
use Rattle.c_effects.specs.Full.{is_pure, is_settled, keeps}
use Rattle.c_effects.specs.Full.{act, act_takes, location, prepare, result, takes}

pub pure_bool : (e : Expression) → IsPure e → is_pure e ≡ true
pure_bool (Node at t (Number n k)) p = refl
pure_bool (Node at t (Letter n)) p = refl
pure_bool (Node at t (Text n)) p = refl
pure_bool (Node at t (Variable x)) p = refl
pure_bool (Node at t (Unary op a)) p = pure_bool a p
pure_bool (Node at t (Binary op a b)) p = rw (pure_bool a p.0) (pure_bool b p.1)
pure_bool (Node at t (Both a b)) p = rw (pure_bool a p.0) (pure_bool b p.1)
pure_bool (Node at t (Either a b)) p = rw (pure_bool a p.0) (pure_bool b p.1)
pure_bool (Node at t (Choice a b c)) p = rw (pure_bool a p.0) (rw (pure_bool b p.1) (pure_bool c p.2))
pure_bool (Node at t (Cast to a)) p = pure_bool a p
pure_bool (Node at t (SizeOfType u)) p = refl
pure_bool (Node at t (SizeOfExpr a)) p = refl
pure_bool (Node at t (Index a b)) p = rw (pure_bool a p.0) (pure_bool b p.1)
pure_bool (Node at t (Dot a m)) p = pure_bool a p
pure_bool (Node at t (Arrow a m)) p = pure_bool a p
pure_bool (Node at t (Assign op a b)) p = absurd p
pure_bool (Node at t (Bump op a)) p = absurd p
pure_bool (Node at t (Call f es)) p = absurd p
pure_bool (Node at t (Comma a b)) p = rw (pure_bool a p.0) (pure_bool b p.1)

-- a value kept is none, where what is evaluated after it has no effect
kept_none : (b c : Bool) → c ≡ true → (not b && not c) ≡ false
kept_none true c h = refl
kept_none false c h = ap not h

pub keeps_none : (a b : Expression) → IsPure b → keeps a b ≡ false
keeps_none a b p = kept_none (is_settled a) (is_pure b) (pure_bool b p)

module _ (p : TranslationUnit) where
  -- ---- registers

  -- for its effects an expression without any takes none
  pub act_takes_pure : (e : Expression) → IsPure e → act_takes p e ≡ []
  act_takes_pure (Node at t (Number n k)) h = refl
  act_takes_pure (Node at t (Letter n)) h = refl
  act_takes_pure (Node at t (Text n)) h = refl
  act_takes_pure (Node at t (Variable x)) h = refl
  act_takes_pure (Node at t (Unary op a)) h = act_takes_pure a h
  act_takes_pure (Node at t (Binary op a b)) h = rw (act_takes_pure a h.0) (act_takes_pure b h.1)
  act_takes_pure (Node at t (Both a b)) h = rw (pure_bool b h.1) (act_takes_pure a h.0)
  act_takes_pure (Node at t (Either a b)) h = rw (pure_bool b h.1) (act_takes_pure a h.0)
  act_takes_pure (Node at t (Choice a b c)) h = rw (pure_bool b h.1) (rw (pure_bool c h.2) (act_takes_pure a h.0))
  act_takes_pure (Node at t (Cast to a)) h = act_takes_pure a h
  act_takes_pure (Node at t (SizeOfType u)) h = refl
  act_takes_pure (Node at t (SizeOfExpr a)) h = refl
  act_takes_pure (Node at t (Index a b)) h = rw (act_takes_pure a h.0) (act_takes_pure b h.1)
  act_takes_pure (Node at t (Dot a m)) h = act_takes_pure a h
  act_takes_pure (Node at t (Arrow a m)) h = act_takes_pure a h
  act_takes_pure (Node at t (Assign op a b)) h = absurd h
  act_takes_pure (Node at t (Bump op a)) h = absurd h
  act_takes_pure (Node at t (Call f es)) h = absurd h
  act_takes_pure (Node at t (Comma a b)) h = rw (act_takes_pure a h.0) (act_takes_pure b h.1)

  pub takes_pure : (e : Expression) → IsPure e → takes p e ≡ temporaries e
  takes_pure (Node at t (Number n k)) h = refl
  takes_pure (Node at t (Letter n)) h = refl
  takes_pure (Node at t (Text n)) h = refl
  takes_pure (Node at t (Variable x)) h = refl
  takes_pure (Node at t (Unary op a)) h = takes_pure a h
  takes_pure (Node at t (Binary op a b)) h = rw (keeps_none a b h.1) (rw (takes_pure a h.0) (rw (takes_pure b h.1) refl))
  takes_pure (Node at t (Both a b)) h = rw (takes_pure a h.0) (rw (takes_pure b h.1) refl)
  takes_pure (Node at t (Either a b)) h = rw (takes_pure a h.0) (rw (takes_pure b h.1) refl)
  takes_pure (Node at t (Choice a b c)) h = rw (takes_pure a h.0) (rw (takes_pure b h.1) (rw (takes_pure c h.2) refl))
  takes_pure (Node at t (Cast to a)) h = takes_pure a h
  takes_pure (Node at t (SizeOfType u)) h = refl
  takes_pure (Node at t (SizeOfExpr a)) h = refl
  takes_pure (Node at t (Index a b)) h = rw (keeps_none a b h.1) (rw (takes_pure a h.0) (rw (takes_pure b h.1) refl))
  takes_pure (Node at t (Dot a m)) h = takes_pure a h
  takes_pure (Node at t (Arrow a m)) h = takes_pure a h
  takes_pure (Node at t (Assign op a b)) h = absurd h
  takes_pure (Node at t (Bump op a)) h = absurd h
  takes_pure (Node at t (Call f es)) h = absurd h
  takes_pure (Node at t (Comma a b)) h = rw (act_takes_pure a h.0) (takes_pure b h.1)

  module _ (bound : Bindings) where
    -- nothing is done for its effects
    pub act_pure : (e : Expression) (rs : List MonType) → IsPure e → act p bound rs e ≡ NoStatement
    act_pure (Node at t (Number n k)) rs h = refl
    act_pure (Node at t (Letter n)) rs h = refl
    act_pure (Node at t (Text n)) rs h = refl
    act_pure (Node at t (Variable x)) rs h = refl
    act_pure (Node at t (Unary op a)) rs h = act_pure a rs h
    act_pure (Node at t (Binary op a b)) rs h = rw (act_pure a rs h.0) (act_pure b (rs ++ act_takes p a) h.1)
    act_pure (Node at t (Both a b)) rs h = rw (pure_bool b h.1) (act_pure a rs h.0)
    act_pure (Node at t (Either a b)) rs h = rw (pure_bool b h.1) (act_pure a rs h.0)
    act_pure (Node at t (Choice a b c)) rs h = rw (pure_bool b h.1) (rw (pure_bool c h.2) (act_pure a rs h.0))
    act_pure (Node at t (Cast to a)) rs h = act_pure a rs h
    act_pure (Node at t (SizeOfType u)) rs h = refl
    act_pure (Node at t (SizeOfExpr a)) rs h = refl
    act_pure (Node at t (Index a b)) rs h = rw (act_pure a rs h.0) (act_pure b (rs ++ act_takes p a) h.1)
    act_pure (Node at t (Dot a m)) rs h = act_pure a rs h
    act_pure (Node at t (Arrow a m)) rs h = act_pure a rs h
    act_pure (Node at t (Assign op a b)) rs h = absurd h
    act_pure (Node at t (Bump op a)) rs h = absurd h
    act_pure (Node at t (Call f es)) rs h = absurd h
    act_pure (Node at t (Comma a b)) rs h = rw (act_pure a rs h.0) (act_pure b (rs ++ act_takes p a) h.1)

    -- behind what takes no register
    behind_pure : (e : Expression) (rs : List MonType) → IsPure e → rs ++ act_takes p e ≡ rs
    behind_pure e rs h = ap (λ ts. rs ++ ts) (act_takes_pure e h) ∙ append-nil rs

    -- ---- values and places

    mutual
      pub result_pure : (e : Expression) (rs : List MonType) → IsPure e → result p bound rs e ≡ value p bound rs e
      result_pure (Node at t (Number n k)) rs h = refl
      result_pure (Node at t (Letter n)) rs h = refl
      result_pure (Node at t (Text n)) rs h = refl
      result_pure (Node at t (Variable x)) rs h = refl
      result_pure (Node at t (Unary prefix.Deref a)) rs h = rw (result_pure a rs h) refl
      result_pure (Node at t (Unary prefix.Address a)) rs h = location_pure a rs h
      result_pure (Node at t (Unary prefix.Plus a)) rs h = rw (result_pure a rs h) refl
      result_pure (Node at t (Unary prefix.Minus a)) rs h = rw (result_pure a rs h) refl
      result_pure (Node at t (Unary prefix.Not a)) rs h = rw (result_pure a rs h) refl
      result_pure (Node at t (Unary prefix.Flip a)) rs h = rw (result_pure a rs h) refl
      result_pure (Node at t (Binary op a b)) rs h = rw (keeps_none a b h.1) (rw (takes_pure a h.0) (rw (result_pure a rs h.0) (rw (result_pure b (rs ++ temporaries a) h.1) refl)))
      result_pure (Node at t (Both a b)) rs h = rw (takes_pure a h.0) (rw (takes_pure b h.1) refl)
      result_pure (Node at t (Either a b)) rs h = rw (takes_pure a h.0) (rw (takes_pure b h.1) refl)
      result_pure (Node at t (Choice a b c)) rs h = rw (takes_pure a h.0) (rw (takes_pure b h.1) (rw (takes_pure c h.2) refl))
      result_pure (Node at t (Cast to a)) rs h = rw (result_pure a rs h) (rw (location_pure a rs h) refl)
      result_pure (Node at t (SizeOfType u)) rs h = refl
      result_pure (Node at t (SizeOfExpr a)) rs h = refl
      result_pure (Node at t (Index a b)) rs h = rw (keeps_none a b h.1) (rw (takes_pure a h.0) (rw (result_pure a rs h.0) (rw (result_pure b (rs ++ temporaries a) h.1) refl)))
      result_pure (Node at t (Dot a m)) rs h = rw (location_pure a rs h) refl
      result_pure (Node at t (Arrow a m)) rs h = rw (result_pure a rs h) refl
      result_pure (Node at t (Assign op a b)) rs h = absurd h
      result_pure (Node at t (Bump op a)) rs h = absurd h
      result_pure (Node at t (Call f es)) rs h = absurd h
      result_pure (Node at t (Comma a b)) rs h = rw (behind_pure a rs h.0) (result_pure b rs h.1)

      pub location_pure : (e : Expression) (rs : List MonType) → IsPure e → location p bound rs e ≡ place p bound rs e
      location_pure (Node at t (Variable x)) rs h = refl
      location_pure (Node at t (Text n)) rs h = refl
      location_pure (Node at t (Unary prefix.Deref a)) rs h = result_pure a rs h
      location_pure (Node at t (Unary prefix.Address a)) rs h = refl
      location_pure (Node at t (Unary prefix.Plus a)) rs h = refl
      location_pure (Node at t (Unary prefix.Minus a)) rs h = refl
      location_pure (Node at t (Unary prefix.Not a)) rs h = refl
      location_pure (Node at t (Unary prefix.Flip a)) rs h = refl
      location_pure (Node at t (Index a b)) rs h = rw (keeps_none a b h.1) (rw (takes_pure a h.0) (rw (result_pure a rs h.0) (rw (result_pure b (rs ++ temporaries a) h.1) refl)))
      location_pure (Node at t (Dot a m)) rs h = rw (location_pure a rs h) refl
      location_pure (Node at t (Arrow a m)) rs h = rw (result_pure a rs h) refl
      location_pure (Node at t (Number n k)) rs h = refl
      location_pure (Node at t (Letter n)) rs h = refl
      location_pure (Node at t (Binary op a b)) rs h = refl
      location_pure (Node at t (Both a b)) rs h = refl
      location_pure (Node at t (Either a b)) rs h = refl
      location_pure (Node at t (Choice a b c)) rs h = refl
      location_pure (Node at t (Cast to a)) rs h = refl
      location_pure (Node at t (SizeOfType u)) rs h = refl
      location_pure (Node at t (SizeOfExpr a)) rs h = refl
      location_pure (Node at t (Assign op a b)) rs h = absurd h
      location_pure (Node at t (Bump op a)) rs h = absurd h
      location_pure (Node at t (Call f es)) rs h = absurd h
      location_pure (Node at t (Comma a b)) rs h = rw (behind_pure a rs h.0) (location_pure b rs h.1)

    -- ---- statements

    pub prepare_pure : (e : Expression) (rs : List MonType) → IsPure e → prepare p bound rs e ≡ setup p bound rs e
    prepare_pure (Node at t (Number n k)) rs h = refl
    prepare_pure (Node at t (Letter n)) rs h = refl
    prepare_pure (Node at t (Text n)) rs h = refl
    prepare_pure (Node at t (Variable x)) rs h = refl
    prepare_pure (Node at t (Unary op a)) rs h = prepare_pure a rs h
    prepare_pure (Node at t (Binary op a b)) rs h = rw (keeps_none a b h.1) (rw (takes_pure a h.0) (rw (prepare_pure a rs h.0) (rw (prepare_pure b (rs ++ temporaries a) h.1) refl)))
    prepare_pure (Node at t (Both a b)) rs h =
        rw (takes_pure a h.0) (rw (takes_pure b h.1) (rw (prepare_pure a rs h.0) (rw (result_pure a rs h.0) (rw (prepare_pure b (rs ++ temporaries a) h.1) (rw (result_pure b (rs ++ temporaries a) h.1) refl)))))
    prepare_pure (Node at t (Either a b)) rs h =
        rw (takes_pure a h.0) (rw (takes_pure b h.1) (rw (prepare_pure a rs h.0) (rw (result_pure a rs h.0) (rw (prepare_pure b (rs ++ temporaries a) h.1) (rw (result_pure b (rs ++ temporaries a) h.1) refl)))))
    prepare_pure (Node at t (Choice a b c)) rs h =
        rw (takes_pure a h.0) (rw (takes_pure b h.1) (rw (takes_pure c h.2) (rw (prepare_pure a rs h.0) (rw (result_pure a rs h.0) (rw (prepare_pure b (rs ++ temporaries a) h.1) (rw (result_pure b (rs ++ temporaries a) h.1)
        (rw (prepare_pure c (rs ++ temporaries a ++ temporaries b) h.2) (rw (result_pure c (rs ++ temporaries a ++ temporaries b) h.2) refl))))))))
    prepare_pure (Node at t (Cast to a)) rs h = prepare_pure a rs h
    prepare_pure (Node at t (SizeOfType u)) rs h = refl
    prepare_pure (Node at t (SizeOfExpr a)) rs h = refl
    prepare_pure (Node at t (Index a b)) rs h = rw (keeps_none a b h.1) (rw (takes_pure a h.0) (rw (prepare_pure a rs h.0) (rw (prepare_pure b (rs ++ temporaries a) h.1) refl)))
    prepare_pure (Node at t (Dot a m)) rs h = prepare_pure a rs h
    prepare_pure (Node at t (Arrow a m)) rs h = prepare_pure a rs h
    prepare_pure (Node at t (Assign op a b)) rs h = absurd h
    prepare_pure (Node at t (Bump op a)) rs h = absurd h
    prepare_pure (Node at t (Call f es)) rs h = absurd h
    prepare_pure (Node at t (Comma a b)) rs h = rw (act_pure a rs h.0) (rw (behind_pure a rs h.0) (prepare_pure b rs h.1))
