-- The tree that is read of a text of bytes has its places in the order of the text, annotations and declarations where the grammar puts them, short
-- expressions, letters that are values of `char`, and names of C.
use Rattle.std.proofs.Common.{◌≡◌, ℕ, suc, ◌+◌, ◌<◌, ◌≤◌, ◌^◌, List, [], ◌∷◌, length, map, None, Ok, refl, sym, subst, arith}
use Rattle.std.proofs.lemmas.List.{length-map}
use Rattle.std.specs.List.{AllByRecursion}
use Rattle.c_syntax.specs.Tokens as token
use Rattle.c_syntax.specs.Tokens.{PlainTokenKind, PlainToken, PlainTokens}
use Rattle.c_syntax.specs.declared.place.Place.{Place}
use Rattle.c_syntax.specs.Statements.{Declaration}
use Rattle.c_syntax.specs.Programs.{Function, TranslationUnit}
use Rattle.c_model.specs.CTokens.{tokens_of}
use Rattle.c_model.specs.Vocabulary.{Vocabulary, word_of}
use Rattle.c_model.specs.ProgramGrammar.{FileParts, texts_of, unit_with}
use Rattle.c_model.specs.Phases.{vocabulary, IsRead}
use Rattle.c_model.specs.FullExpressions.{EachInFunctions}
use Rattle.c_model.specs.FormedContracts.{ContractsFormed}
use Rattle.c_model.specs.Formed.{AreReadAsserts, AreReadLoopClauses, IsShortReading, AreNamed, AreNamedParameters, FunctionsNamed, declared_in_body}
use Rattle.c_model.specs.ReadTree.{Between, IsShort, FunctionsRead, AreBytes, TextsAreBytes, ReadTree}
use Rattle.c_model.specs.LetterValues.{LettersFit}
use Rattle.c_reader.proofs.TokenForms.{IsLexed}
use Rattle.c_reader.proofs.ExpressionForms.{IsFormed}
use Rattle.c_reader.proofs.EachForms.{declared_follow, functions_follow}
use Rattle.c_reader.proofs.DeclarationForms.{IsNewName}
use Rattle.c_reader.proofs.ParameterForms.{IsNamed}
use Rattle.c_reader.proofs.FileForms.{offset_of_function, IsFunction, IsFile, unit_from}
use Rattle.c_reader.proofs.FileOrder.{file_in_order}
use Rattle.c_reader.proofs.TextTokens.{IsWord, lexed, new_name_is}

-- ---- names

module _ (names : List (List ℕ)) (words : AllByRecursion IsWord names) where
  named : (ds : List Declaration) → AllByRecursion (λ (d : Declaration). IsNewName (length names) (map word_of names) d.name) ds → AreNamed names ds
  named [] h = tt
  named (d ∷ ds) h = (new_name_is names d.name words h.0, named ds h.1)

  parameters_named : (ds : List Declaration) → AllByRecursion (IsNamed (length names) (map word_of names)) ds → AreNamedParameters names ds
  parameters_named [] h = tt
  parameters_named (d ∷ ds) h = (λ e. new_name_is names d.name words (h.0 e), parameters_named ds h.1)

  functions_named : (n : ℕ) (fs : List Function) → AllByRecursion (IsFunction (length names) (map word_of names) n) fs → FunctionsNamed names fs
  functions_named n [] h = tt
  functions_named n (f ∷ fs) h = (
    record {
      name = new_name_is names f.name words h.0.declares.name;
      params = parameters_named f.params h.0.declares.params;
      body = named (declared_in_body f.body) h.0.declares.body;
    },
    functions_named n fs h.1,
  )

-- ---- functions

module _ (size : ℕ) (old : Vocabulary) where
  functions_read : (n : ℕ) (fs : List Function) → AllByRecursion (IsFunction size old n) fs → FunctionsRead AreReadAsserts AreReadLoopClauses fs
  functions_read n [] h = tt
  functions_read n (f ∷ fs) h = (h.0.read, functions_read n fs h.1)

  contracts_formed : (n : ℕ) (fs : List Function) → AllByRecursion (IsFunction size old n) fs → ContractsFormed IsShortReading fs
  contracts_formed n [] h = tt
  contracts_formed n (f ∷ fs) h = (h.0.contract, contracts_formed n fs h.1)

  functions_short : (n : ℕ) (fs : List Function) → AllByRecursion (IsFunction size old n) fs → EachInFunctions IsFormed fs
  functions_short n [] h = tt
  functions_short n (f ∷ fs) h = (h.0.short, functions_short n fs h.1)

-- numbers that ascend are no more than the offsets before the last
few_numbers : (l n : ℕ) (is : List ℕ) → Between l is n → l + length is ≤ n
few_numbers l n [] h = omega (arith, h)
few_numbers l n (i ∷ is) h = let le = few_numbers (suc i) n is h.1 in omega (arith, h.0, le)

few_functions : (n : ℕ) (fs : List Function) → n ≤ 4294967295 → Between 0 (map offset_of_function fs) n → length fs < 2 ^ 32
few_functions n fs le h =
    let few = few_numbers 0 n (map offset_of_function fs) h in
    let same = length-map fs offset_of_function in
    omega (arith, le, few, same)

-- ---- literals

texts_are_bytes : (size : ℕ) (ts : List PlainToken) → AllByRecursion (IsLexed size) ts → TextsAreBytes (texts_of ts)
texts_are_bytes size [] h = tt
texts_are_bytes size (t ∷ ts) h = by t.kind t.place h.0 (texts_are_bytes size ts h.1)
  where
    by : (k : PlainTokenKind) (at : Place) → IsLexed size (record { place = at; kind = k }) → TextsAreBytes (texts_of ts) → TextsAreBytes (texts_of (record { place = at; kind = k } ∷ ts))
    by (token.Chars bytes) at g rest = (g.0, rest)
    by (token.Word n) at g rest = rest
    by (token.Number z c) at g rest = rest
    by (token.Letter z) at g rest = rest
    by (token.Mark m) at g rest = rest
    by token.AnnotOpen at g rest = rest
    by token.AnnotClose at g rest = rest
    by (token.Head c n) at g rest = rest

-- ---- files

file_is_read : (ts : PlainTokens) (n : ℕ) (x : FileParts) → n ≤ 4294967295 → AllByRecursion IsWord ts.names → AllByRecursion (IsLexed (length ts.names)) ts.list → IsFile (length ts.names) (vocabulary ts) n x
    → ReadTree (unit_with ts.names (texts_of ts.list) x)
file_is_read ts n x le words list h =
    let size = length ts.names in
    let ws = vocabulary ts in
    record {
      order = file_in_order size ws n x h ts.names (texts_of ts.list) le;
      functions = functions_read size ws n x.functions h.functions;
      contracts = contracts_formed size ws n x.functions h.functions;
      annotations_apart = λ o. (let once = h.annots.once o in omega (arith, once));
      functions_short = functions_follow IsFormed IsShort (λ e p. p.short) x.functions (functions_short size ws n x.functions h.functions);
      globals_short = declared_follow IsFormed IsShort (λ e p. p.short) x.globals h.globals.short;
      characters = record {
        globals = declared_follow IsFormed LettersFit (λ e p. p.letters) x.globals h.globals.short;
        funcs = functions_follow IsFormed LettersFit (λ e p. p.letters) x.functions (functions_short size ws n x.functions h.functions);
      };
      functions_named = functions_named ts.names words n x.functions h.functions;
      globals_named = named ts.names words x.globals h.globals.declares.names;
      texts = texts_are_bytes size ts.list list;
      few_functions = few_functions n x.functions le h.ascend;
      no_strays = refl;
    }

pub tree_is_read : (text : List ℕ) (ts : PlainTokens) (p : TranslationUnit) → AreBytes text → length text < 4294967295 → tokens_of text ≡ Ok ts → IsRead ts p → ReadTree p
tree_is_read text ts p bytes few has read =
    let lex = lexed text ts bytes few has in
    let u = (unit_from (length ts.names) (vocabulary ts) ts.names (texts_of ts.list)).holds ts.list (p, None) lex.end lex.list lex.reach read.reading.reading in
    let below : lex.end ≤ 4294967295 = omega (arith, few, lex.below) in
    subst ReadTree (sym u.is) (file_is_read ts lex.end u.parts below lex.names lex.list u.file)
