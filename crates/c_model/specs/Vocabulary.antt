-- What the words of C are (C99 6.4.1, 6.7.2, 7.17).
use Rattle.std.specs.Prelude.{ℕ, List, [], ◌∷◌, true, false, Option, Some, None, option_map, if◌then◌else◌, nat_eq, slice_get, codes}
use Rattle.c_syntax.specs.declared.types.CInt.{CInt}
use Rattle.c_syntax.specs.declared.types.CInt.TheVariants.{I8, U8, I16, U16, I32, U32, I64, U64}
use Rattle.c_syntax.specs.declared.logic.BlockFact.TheVariants.{BaseAddr, BlockLength, Offset}
use Rattle.c_syntax.specs.declared.logic.MemoryQuestion.TheVariants.{Valid, ValidRead, Initialized}
use Rattle.c_syntax.specs.declared.logic.Quantifier.TheVariants.{ForAll, Exists}
use Rattle.c_model.specs.declared.vocabulary.Keyword.{Keyword}
use Rattle.c_model.specs.declared.vocabulary.Keyword.TheVariants.{Char, Short, Int, Long, Signed, Unsigned, Void, Const, Static, If, Else, While, Do, For}
use Rattle.c_model.specs.declared.vocabulary.Keyword.TheVariants.{Break, Continue, Return, Sizeof, Struct, Enum, Typedef, Switch, Case, Default, Kept}
use Rattle.c_model.specs.declared.vocabulary.TypeName.TheVariants.{Library, Declared, DeclaredClause}
use Rattle.c_model.specs.declared.vocabulary.ClauseWord.TheVariants as clause
use Rattle.c_model.specs.declared.vocabulary.LogicWord.{LogicWord}
use Rattle.c_model.specs.declared.vocabulary.LogicWord.TheVariants as logic
use Rattle.c_model.specs.declared.vocabulary.Word.{Word}
use Rattle.c_model.specs.declared.vocabulary.Word.TheVariants as word
use Rattle.c_model.specs.declared.vocabulary.SignWords.{SignWords}
use Rattle.c_model.specs.declared.vocabulary.SignWords.TheVariants as sign
use Rattle.c_model.specs.declared.vocabulary.SizeWords.{SizeWords}
use Rattle.c_model.specs.declared.vocabulary.SizeWords.TheVariants as size
use Rattle.c_model.specs.declared.vocabulary.IntegerWords.{IntegerWords}
use Rattle.c_model.specs.Terminals.{found_in}

abbrev pub Words : Type 0
Words = List (List ℕ × Word)

-- the keywords (C99 6.4.1); those that no text of this profile has are refused as tokens
abbrev pub keywords : Words
keywords =
    (codes "char", word.Keyword Char) ∷ (codes "short", word.Keyword Short) ∷ (codes "int", word.Keyword Int) ∷ (codes "long", word.Keyword Long)
    ∷ (codes "signed", word.Keyword Signed) ∷ (codes "unsigned", word.Keyword Unsigned) ∷ (codes "void", word.Keyword Void)
    ∷ (codes "const", word.Keyword Const) ∷ (codes "static", word.Keyword Static) ∷ (codes "if", word.Keyword If) ∷ (codes "else", word.Keyword Else)
    ∷ (codes "while", word.Keyword While) ∷ (codes "do", word.Keyword Do) ∷ (codes "for", word.Keyword For) ∷ (codes "break", word.Keyword Break)
    ∷ (codes "continue", word.Keyword Continue) ∷ (codes "return", word.Keyword Return) ∷ (codes "sizeof", word.Keyword Sizeof)
    ∷ (codes "struct", word.Keyword Struct) ∷ (codes "enum", word.Keyword Enum) ∷ (codes "typedef", word.Keyword Typedef)
    ∷ (codes "switch", word.Keyword Switch) ∷ (codes "case", word.Keyword Case) ∷ (codes "default", word.Keyword Default) ∷ []

-- the keywords that no production has
abbrev pub kept_keywords : Words
kept_keywords =
    (codes "auto", word.Keyword Kept) ∷ (codes "register", word.Keyword Kept) ∷ (codes "extern", word.Keyword Kept) ∷ (codes "inline", word.Keyword Kept)
    ∷ (codes "restrict", word.Keyword Kept) ∷ (codes "volatile", word.Keyword Kept) ∷ (codes "goto", word.Keyword Kept)
    ∷ (codes "union", word.Keyword Kept) ∷ (codes "float", word.Keyword Kept) ∷ (codes "double", word.Keyword Kept) ∷ (codes "_Bool", word.Keyword Kept)
    ∷ (codes "_Complex", word.Keyword Kept) ∷ (codes "_Imaginary", word.Keyword Kept) ∷ []

-- types of the library (C99 7.17), and words of annotations (ACSL 2.2.3, 2.3, 2.4)
abbrev pub other_words : Words
other_words =
    (codes "size_t", word.TypeName (Library U64)) ∷ (codes "ptrdiff_t", word.TypeName (Library I64)) ∷ (codes "assert", word.Clause clause.Assert)
    ∷ (codes "integer", word.Integer) ∷ (codes "requires", word.Clause clause.Requires) ∷ (codes "assumes", word.Clause clause.Assumes)
    ∷ (codes "ensures", word.Clause clause.Ensures) ∷ (codes "behavior", word.Clause clause.Behavior)
    ∷ (codes "complete", word.Clause clause.Complete) ∷ (codes "disjoint", word.Clause clause.Disjoint)
    ∷ (codes "behaviors", word.Clause clause.Behaviors) ∷ (codes "assigns", word.Clause clause.Assigns) ∷ (codes "loop", word.Clause clause.Loop)
    ∷ (codes "invariant", word.Clause clause.Invariant) ∷ (codes "variant", word.Clause clause.Variant) ∷ []

-- the words that begin with `\`, by what stands after it (ACSL 2.2)
abbrev pub logic_words : List (List ℕ × LogicWord)
logic_words =
    (codes "true", logic.Truth true) ∷ (codes "false", logic.Truth false) ∷ (codes "null", logic.Null) ∷ (codes "base_addr", logic.Told BaseAddr)
    ∷ (codes "block_length", logic.Told BlockLength) ∷ (codes "offset", logic.Told Offset) ∷ (codes "valid", logic.Asks Valid)
    ∷ (codes "valid_read", logic.Asks ValidRead) ∷ (codes "initialized", logic.Asks Initialized) ∷ (codes "separated", logic.Separated)
    ∷ (codes "result", logic.Result) ∷ (codes "old", logic.Old) ∷ (codes "at", logic.At) ∷ (codes "forall", logic.Quantifier ForAll)
    ∷ (codes "exists", logic.Quantifier Exists) ∷ []

-- a word that begins with `\` stands in annotations alone
abbrev pub name_or_logic : List ℕ → Word
name_or_logic [] = word.Name
name_or_logic (b ∷ bs) = if nat_eq b 92 then word.Logic (found_in logic_words bs logic.Kept) else word.Name

-- what a word is: one of these, or a name
unfoldable pub word_of : List ℕ → Word
word_of w = found_in keywords w (found_in kept_keywords w (found_in other_words w (name_or_logic w)))

-- what the words of a text are, by number
abbrev pub Vocabulary : Type 0
Vocabulary = List Word

abbrev pub word_at : Vocabulary → ℕ → Word
word_at ws n = elim (slice_get ws n) [ None ↦ word.Name | Some w ↦ w ]

-- what a word is once a `typedef` declares it (C99 6.7.7): a clause of annotations is told by its word all the same
abbrev pub declared_word : Word → Word
declared_word (word.Clause c) = word.TypeName (DeclaredClause c)
declared_word _ = word.TypeName Declared

-- ---- the words that name an integer type, in any order (C99 6.7.2 p2)

abbrev pub no_words : IntegerWords
no_words = record { sign = sign.Nothing; size = size.Nothing }

abbrev pub sign_with : SignWords → Keyword → Option SignWords
sign_with sign.Nothing Signed = Some sign.Signed
sign_with sign.Nothing Unsigned = Some sign.Unsigned
sign_with _ _ = None

abbrev pub size_with : SizeWords → Keyword → Option SizeWords
size_with size.Nothing Char = Some size.Char
size_with size.Nothing Short = Some size.Short
size_with size.Nothing Int = Some size.Int
size_with size.Nothing Long = Some size.Long
size_with size.Short Int = Some size.ShortInt
size_with size.Int Short = Some size.ShortInt
size_with size.Int Long = Some size.LongInt
size_with size.Long Int = Some size.LongInt
size_with size.Long Long = Some size.LongLong
size_with size.LongInt Long = Some size.LongLongInt
size_with size.LongLong Int = Some size.LongLongInt
size_with _ _ = None

-- the words with one more, where it can stand with them
abbrev pub words_with : IntegerWords → Keyword → Option IntegerWords
words_with x w = elim (sign_with x.sign w) [
  | Some s ↦ Some (record { sign = s; size = x.size })
  | None ↦ option_map (λ z. record { sign = x.sign; size = z }) (size_with x.size w)
]

abbrev pub signed_or_not : SignWords → CInt → CInt → CInt
signed_or_not sign.Unsigned s u = u
signed_or_not _ s u = s

-- the type that they name; `char` is signed, and `long long` as wide as `long` (this profile)
abbrev pub integer_type : IntegerWords → CInt
integer_type x = elim x.size [
  | size.Nothing ↦ signed_or_not x.sign I32 U32
  | size.Char ↦ signed_or_not x.sign I8 U8
  | size.Short ↦ signed_or_not x.sign I16 U16
  | size.ShortInt ↦ signed_or_not x.sign I16 U16
  | size.Int ↦ signed_or_not x.sign I32 U32
  | size.Long ↦ signed_or_not x.sign I64 U64
  | size.LongInt ↦ signed_or_not x.sign I64 U64
  | size.LongLong ↦ signed_or_not x.sign I64 U64
  | size.LongLongInt ↦ signed_or_not x.sign I64 U64
]
