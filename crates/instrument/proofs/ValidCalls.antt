-- Calls in translated programs are valid: the callee is a function of the program that isn't `main`, or one of the library.
use Rattle.c_model.specs.AcceptedPrograms.{IsDefined, AreDefined, AreScalar}
use Rattle.c_model.specs.Library.{is_library_name}
use Rattle.c_model.specs.Formats.{types_of as directives}
use Rattle.c_model.specs.ReadTree.{TextsAreBytes}
use Rattle.instrument.proofs.Resolved.{library_number, resolved_asks}
use Rattle.instrument.proofs.Formats.{Asks, HasFormat, format_scalar, not_printf}
use Rattle.instrument.proofs.ValidPrints.{printf_valid}
use Rattle.instrument.proofs.FullParentheses.{AreShallow}
use Rattle.instrument.proofs.LibraryNames.{IsLibrary, IsPutChar, IsGetChar, IsExit, IsMalloc, IsCalloc, IsFree, IsPrintf, library_is}
use Rattle.std.proofs.Common.{◌≡◌, ℕ, zero, suc, ◌+◌, Bool, true, false, ◌&&◌, if◌then◌else◌, nat_eq, List, [], ◌∷◌, map, Option, Some, None, option_map, slice_get, refl, sym, ap, ◌∙◌, subst, arith}
use Rattle.std.specs.Prelude.{bytes_eq, codes}
use Rattle.std.proofs.lemmas.Bool.Decides.{nat_tests}
use Rattle.c_syntax.specs.declared.expression.Use.{Use}
use Rattle.c_syntax.specs.declared.types.CInt.TheVariants as c
use Rattle.c_syntax.specs.Ctypes.{PlainType, Void, Int, Ptr, int_type}
use Rattle.c_syntax.specs.Expressions.{Expressions}
use Rattle.c_syntax.specs.Statements.{Declaration}
use Rattle.c_syntax.specs.Programs.{Function, TranslationUnit}
use Rattle.c_syntax.specs.Layouts.{IntegerType, PointerType}
use Rattle.c_model.specs.Meaning.{is_definition, is_of_library, definition_at}
use Rattle.c_model.specs.ExpressionTyping.{name_at}
use Rattle.c_model.specs.ExpressionTyping.{Signature as Known, Sight, or_else, library_function, of_library}
use Rattle.c_model.specs.ExpressionTyping as typing
use Rattle.mon_syntax.specs.declared.tree.MonType.{MonType}
use Rattle.mon_syntax.specs.declared.tree.MonType.TheVariants.{I32}
use Rattle.mon_syntax.specs.Trees.{MonExpression, MonFunction}
use Rattle.mon_syntax.specs.Trees as tree
use Rattle.mon_syntax.specs.Valid.{Types, Labels, Signature, TakesValue, AreArguments, IsExpression, IsCall, AreStatements, signature_of, types_of}
use Rattle.c_model.specs.TypedTrees.{HaveTypes, Calls, IsScalar}
use Rattle.c_effects.specs.Expressions.{value_type, one}
use Rattle.instrument.specs.Translation.{function_name, index_of_main, result_of, value_types, arguments_from, function_of, functions_from, translated}
use Rattle.c_effects.specs.Effects.{index_of, first_of, named_call, call}
use Rattle.instrument.proofs.Typed.{count_of_globals}
use Rattle.instrument.proofs.FullValid.{CallValid, CallsValid}
use Rattle.instrument.proofs.ValidRegisters.{types_of_arguments}

-- ---- functions by their indices

get_mapped : {A B : Type 0} (f : A → B) (l : List A) (k : ℕ) (a : A) → slice_get l k ≡ Some a → slice_get (map f l) k ≡ Some (f a)
get_mapped f [] k a e = absurd cc
get_mapped f (b ∷ l) zero a e = ap (option_map f) e
get_mapped f (b ∷ l) (suc k) a e = get_mapped f l k a e

abbrev pub signatures : TranslationUnit → List Signature
signatures p = map signature_of (translated p).functions

module _ (p : TranslationUnit) (m : ℕ) where
  -- the definition with a number stands at its index
  definition_translated : (n k : ℕ) (fs : List Function) (f : Function) → definition_at n fs ≡ Some f → slice_get (functions_from p m k fs) (index_of n fs) ≡ Some (function_of p m (k + index_of n fs) f)
  definition_translated n k [] f e = absurd cc
  definition_translated n k (a ∷ fs) f e = by (is_definition a) (nat_eq a.place.offset n) e (λ j x. definition_translated n j fs f x)
    where
      by : (x y : Bool) → (if x && y then Some a else definition_at n fs) ≡ Some f → ((j : ℕ) → definition_at n fs ≡ Some f → slice_get (functions_from p m j fs) (index_of n fs) ≡ Some (function_of p m (j + index_of n fs) f))
          → slice_get (if x then function_of p m k a ∷ functions_from p m (suc k) fs else functions_from p m k fs) (if x then (if y then 0 else suc (index_of n fs)) else index_of n fs)
          ≡ Some (function_of p m (k + (if x then (if y then 0 else suc (index_of n fs)) else index_of n fs)) f)
      by true true e rest = let same : a ≡ f = cc in let zero_more : k ≡ k + 0 = omega arith in ap (λ (g : Function). Some (function_of p m k g)) same ∙ ap (λ j. Some (function_of p m j f)) zero_more
      by true false e rest = let one_more : suc k + index_of n fs ≡ k + suc (index_of n fs) = omega arith in rest (suc k) e ∙ ap (λ j. Some (function_of p m j f)) one_more
      by false y e rest = rest k e

-- a definition that stands where the first `main` does is `main`
main_there : (names : List (List ℕ)) (n : ℕ) (fs : List Function) (f : Function) → definition_at n fs ≡ Some f → index_of n fs ≡ index_of_main names fs → bytes_eq (name_at names f.name) (codes "main") ≡ true
main_there names n [] f e i = absurd cc
main_there names n (a ∷ fs) f e i = by (is_definition a) (nat_eq a.place.offset n) (bytes_eq (name_at names a.name) (codes "main")) refl e i (λ x y. main_there names n fs f x y)
  where
    by : (x y z : Bool) → bytes_eq (name_at names a.name) (codes "main") ≡ z → (if x && y then Some a else definition_at n fs) ≡ Some f
        → (if x then (if y then 0 else suc (index_of n fs)) else index_of n fs) ≡ (if x then (if z then 0 else suc (index_of_main names fs)) else index_of_main names fs)
        → (definition_at n fs ≡ Some f → index_of n fs ≡ index_of_main names fs → bytes_eq (name_at names f.name) (codes "main") ≡ true) → bytes_eq (name_at names f.name) (codes "main") ≡ true
    by true true true is e i rest = let same : a ≡ f = cc in ap (λ (g : Function). bytes_eq (name_at names g.name) (codes "main")) (sym same) ∙ is
    by true true false is e i rest = absurd cc
    by true false true is e i rest = absurd cc
    by true false false is e i rest = rest e (omega (arith, i))
    by false y z is e i rest = rest e i

types_are : (ds : List Declaration) → map value_type (map (λ (d : Declaration). d.ctype) ds) ≡ value_types ds
types_are [] = refl
types_are (d ∷ ds) = ap (λ l. value_type d.ctype ∷ l) (types_are ds)

-- the functions that a program defines have names of their own
abbrev pub HaveOwnNames : TranslationUnit → Type 0
HaveOwnNames p = (n : ℕ) (f : Function) → definition_at n p.funcs ≡ Some f → is_library_name (name_at p.names f.name) ≡ false

module _ (p : TranslationUnit) (own_names : HaveOwnNames p) (texts : TextsAreBytes p.texts) where
  abbrev m : ℕ
  m = index_of_main p.names p.funcs

  module _ (ts : Types) where
    -- ---- a function of the program

    function_called : (f : Use) (t : PlainType) (es : Expressions) (callee : Known) → IsDefined p f.name callee → f.decl ≡ callee.decl → bytes_eq (name_at p.names f.name) (codes "main") ≡ false → t ≡ callee.result → HaveTypes callee.params es
        → CallValid p (signatures p) ts f t es
    function_called f t es callee d decl other result types = record {
      types = callee.params;
      scalar = d.scalar;
      arguments = types;
      valid = valid;
    }
      where
        index : ℕ
        index = index_of f.decl p.funcs

        code : MonFunction
        code = function_of p m (0 + index) d.function

        found : definition_at f.decl p.funcs ≡ Some d.function
        found = ap (λ n. definition_at n p.funcs) decl ∙ d.at

        own : is_of_library f ≡ false
        own = ap (λ n. nat_eq n 4294967295) decl ∙ d.own

        has : slice_get (signatures p) index ≡ Some (signature_of code)
        has = get_mapped signature_of (functions_from p m 0 p.funcs) index code (definition_translated p m f.decl 0 p.funcs d.function found)

        not_main : nat_eq (0 + index) m ≡ false
        not_main = by (nat_eq (0 + index) m) refl
          where
            by : (b : Bool) → nat_eq (0 + index) m ≡ b → nat_eq (0 + index) m ≡ false
            by false e = e
            by true e =
                let same : index ≡ m = grind (arith, nat_tests) in
                let is : bytes_eq (name_at p.names d.function.name) (codes "main") ≡ true = main_there p.names f.decl p.funcs d.function found same in
                let isnt : bytes_eq (name_at p.names d.function.name) (codes "main") ≡ false = ap (λ x. bytes_eq (name_at p.names x) (codes "main")) d.name ∙ other in
                absurd cc

        named : bytes_eq code.name (codes "main") ≡ false
        named = ap (λ b. bytes_eq (if b then codes "main" else function_name (0 + index) (name_at p.names d.function.name)) (codes "main")) not_main

        parameters : map value_type callee.params ≡ types_of (arguments_from p.names 0 d.function.params)
        parameters = ap (λ l. map value_type l) d.params ∙ types_are d.function.params ∙ sym (types_of_arguments p.names 0 d.function.params)

        valid : (into_result : Option MonType) (ls : Labels) (into : Option ℕ) (args : List MonExpression) → TakesValue ts into (result_of t) → AreArguments (count_of_globals p) ts args (map value_type callee.params) → AreShallow args
            → AreStatements (count_of_globals p) (signatures p) ts into_result ls (call p into f es args)
        valid into_result ls into args takes given few =
            let is_call : IsCall (count_of_globals p) (signatures p) ts into index args = record {
              callee = signature_of code;
              has = has;
              not_main = named;
              arguments = subst (AreArguments (count_of_globals p) ts args) parameters given;
              takes = subst (λ u. TakesValue ts into (result_of u)) (result ∙ d.result) takes;
            } in
            subst (λ b. AreStatements (count_of_globals p) (signatures p) ts into_result ls (if b then named_call p into (name_at p.names f.name) es args else one (tree.Call into index args))) (sym own) (is_call, tt)

    -- ---- functions of the library

    first_valid : (args : List MonExpression) → AreArguments (count_of_globals p) ts args (I32 ∷ []) → IsExpression (count_of_globals p) ts (first_of args) I32
    first_valid [] h = absurd h
    first_valid (e ∷ args) h = h.0

    library_called : (f : Use) (t : PlainType) (es : Expressions) (callee : Known) (params : List PlainType) → is_of_library f ≡ true → library_function f.name (name_at p.names f.name) ≡ Some callee → t ≡ callee.result
        → Asks p (name_at p.names f.name) es callee.params params → HaveTypes params es → CallValid p (signatures p) ts f t es
    library_called f t es callee params own found result asks types = by (library_is f.name name callee found)
      where
        name : List ℕ
        name = name_at p.names f.name

        -- statements that stand for a call with arguments of these types, whose value this register takes, are valid
        Valid : List PlainType → PlainType → List ℕ → Type 0
        Valid us u y = (r : Option MonType) (ls : Labels) (into : Option ℕ) (args : List MonExpression) → TakesValue ts into (result_of u) → AreArguments (count_of_globals p) ts args (map value_type us) → AreShallow args
            → AreStatements (count_of_globals p) (signatures p) ts r ls (named_call p into y es args)

        called : (us : List PlainType) (u : PlainType) (y : List ℕ) → params ≡ us → callee.result ≡ u → name ≡ y → AreScalar us → Valid us u y → CallValid p (signatures p) ts f t es
        called us u y asked gives is scalars valid = record {
          types = us;
          scalar = scalars;
          arguments = subst (λ us. HaveTypes us es) asked types;
          valid = λ r ls into args takes given few.
              subst (λ b. AreStatements (count_of_globals p) (signatures p) ts r ls (if b then named_call p into name es args else one (tree.Call into (index_of f.decl p.funcs) args))) (sym own)
              (subst (λ y. AreStatements (count_of_globals p) (signatures p) ts r ls (named_call p into y es args)) (sym is)
              (valid r ls into args (subst (λ u. TakesValue ts into (result_of u)) (result ∙ gives) takes) given few));
        }

        -- but printf
        plain : (g : Known) (y : List ℕ) → callee ≡ g → name ≡ y → bytes_eq y (codes "printf") ≡ false → AreScalar g.params → Valid g.params g.result y → CallValid p (signatures p) ts f t es
        plain g y same is other scalars valid =
            called g.params g.result y (asks.plain (ap (λ x. bytes_eq x (codes "printf")) is ∙ other) ∙ ap (λ (g : Known). g.params) same) (ap (λ (g : Known). g.result) same) is scalars valid

        printf_called : name ≡ codes "printf" → callee ≡ of_library f.name (Ptr (Int c.I8) ∷ []) Void → CallValid p (signatures p) ts f t es
        printf_called is same =
            let format = asks.format (ap (λ x. bytes_eq x (codes "printf")) is) in
            let us = Ptr (Int c.I8) ∷ directives format.pieces in
            called us Void (codes "printf") format.types (ap (λ (g : Known). g.result) same) is (format_scalar format.pieces)
            (λ r ls into args takes given few. printf_valid p (signatures p) ts r ls es us args (subst (HasFormat p.texts es) format.types format) texts given few)

        an_int : IsScalar int_type
        an_int = record { scalar = IntegerType c.I32; is = refl }

        a_size : IsScalar (Int c.U64)
        a_size = record { scalar = IntegerType c.U64; is = refl }

        a_pointer : IsScalar (Ptr Void)
        a_pointer = record { scalar = PointerType; is = refl }

        by : IsLibrary f.name name callee → CallValid p (signatures p) ts f t es
        by (IsPutChar is same) =
            plain (of_library f.name (int_type ∷ []) int_type) (codes "putchar") same is refl (an_int, tt) (λ r ls into args takes given few. ((takes, first_valid args given), tt))
        by (IsGetChar is same) = plain (of_library f.name [] int_type) (codes "getchar") same is refl tt (λ r ls into args takes given few. (takes, tt))
        by (IsExit is same) = plain (of_library f.name (int_type ∷ []) Void) (codes "exit") same is refl (an_int, tt) (λ r ls into args takes given few. (first_valid args given, tt))
        by (IsMalloc is same) = plain (of_library f.name (Int c.U64 ∷ []) (Ptr Void)) (codes "malloc") same is refl (a_size, tt) (λ r ls into args takes given few. ((given, takes), tt))
        by (IsCalloc is same) =
            plain (of_library f.name (Int c.U64 ∷ Int c.U64 ∷ []) (Ptr Void)) (codes "calloc") same is refl (a_size, (a_size, tt)) (λ r ls into args takes given few. ((given, takes), tt))
        by (IsFree is same) = plain (of_library f.name (Ptr Void ∷ []) Void) (codes "free") same is refl (a_pointer, tt) (λ r ls into args takes given few. ((given, takes), tt))
        by (IsPrintf is same) = printf_called is same

    chosen_callee : (s : Sight) (f : Use) (t : PlainType) (es : Expressions) (o : Option Known) → typing.function_called f.name s.functions ≡ o → s.names ≡ p.names → s.texts ≡ p.texts → AreDefined p s.functions → (k : Calls s f t es)
        → or_else o (library_function f.name (typing.name_at s.names f.name)) ≡ Some k.callee → CallValid p (signatures p) ts f t es
    chosen_callee s f t es (Some g) e names literals known k found =
        let same : g ≡ k.callee = cc in
        let other : bytes_eq (name_at p.names f.name) (codes "main") ≡ false = ap (λ l. bytes_eq (name_at l f.name) (codes "main")) (sym names) ∙ k.not_main in
        let d = known f.name k.callee (e ∙ ap Some same) k.defined in
        let printf = not_printf (name_at p.names f.name) (ap (λ x. is_library_name (name_at p.names x)) (sym d.name) ∙ own_names k.callee.decl d.function d.at) in
        let asks = resolved_asks p s names literals f t es k in
        function_called f t es k.callee d k.decl other k.result (subst (λ us. HaveTypes us es) (asks.plain printf) k.arguments)
    chosen_callee s f t es None e names literals known k found =
        let here : library_function f.name (name_at p.names f.name) ≡ Some k.callee = ap (λ l. library_function f.name (name_at l f.name)) (sym names) ∙ found in
        library_called f t es k.callee k.params (ap (λ n. nat_eq n 4294967295) k.decl ∙ library_number f.name (name_at p.names f.name) k.callee here) here k.result (resolved_asks p s names literals f t es k) k.arguments

    -- calls are valid where functions are in sight that are defined so
    pub calls_valid : (s : Sight) → s.names ≡ p.names → s.texts ≡ p.texts → AreDefined p s.functions → CallsValid p (signatures p) ts s
    calls_valid s names literals known f t es k = chosen_callee s f t es (typing.function_called f.name s.functions) refl names literals known k k.found
