-- Ours: the words of monitored C.
-- What the words of monitored C are.
use Rattle.std.specs.Prelude.{ℕ, List, [], ◌∷◌, codes}
use Rattle.c_model.specs.Terminals.{found_in}
use Rattle.mon_syntax.specs.declared.tree.MonType.TheVariants.{I8, U8, I16, U16, I32, U32, I64, U64, I128, Ptr}
use Rattle.mon_syntax.specs.declared.word.Runtime.TheVariants as runtime
use Rattle.mon_syntax.specs.declared.word.Word.{Word}
use Rattle.mon_syntax.specs.declared.word.Word.TheVariants.{TypeName, Constant, Void, If, Else, While, Goto, Return, Static, Const, Char, Initialize}
use Rattle.mon_syntax.specs.declared.word.Word.TheVariants.{InitializePointer, Runtime, Name}

abbrev pub Words : Type 0
Words = List (List ℕ × Word)

abbrev pub type_words : Words
type_words =
    (codes "i8", TypeName I8) ∷ (codes "u8", TypeName U8) ∷ (codes "i16", TypeName I16) ∷ (codes "u16", TypeName U16) ∷ (codes "i32", TypeName I32) ∷
    (codes "u32", TypeName U32)
    ∷ (codes "i64", TypeName I64) ∷ (codes "u64", TypeName U64) ∷ (codes "i128", TypeName I128) ∷ (codes "ptr", TypeName Ptr) ∷ []

abbrev pub constant_words : Words
constant_words =
    (codes "I8", Constant I8) ∷ (codes "U8", Constant U8) ∷ (codes "I16", Constant I16) ∷ (codes "U16", Constant U16) ∷ (codes "I32", Constant I32)
    ∷ (codes "U32", Constant U32) ∷ (codes "I64", Constant I64) ∷ (codes "U64", Constant U64) ∷ (codes "I128", Constant I128) ∷ (codes "PTR", Constant Ptr) ∷ []

abbrev pub keywords : Words
keywords =
    (codes "void", Void) ∷ (codes "if", If) ∷ (codes "else", Else) ∷ (codes "while", While) ∷ (codes "goto", Goto) ∷ (codes "return", Return)
    ∷ (codes "static", Static) ∷ (codes "const", Const) ∷ (codes "char", Char)
    ∷ (codes "__e_acsl_initialize", Initialize) ∷ (codes "__e_acsl_initialize_ptr", InitializePointer) ∷ []

abbrev pub runtime_words : Words
runtime_words =
    (codes "__e_acsl_step", Runtime runtime.Step) ∷ (codes "__e_acsl_assert", Runtime runtime.Assert) ∷ (codes "putchar", Runtime runtime.PutChar)
    ∷ (codes "exit", Runtime runtime.Exit) ∷ (codes "__e_acsl_print_text", Runtime runtime.PrintText)
    ∷ (codes "__e_acsl_print_i64", Runtime runtime.PrintSigned) ∷ (codes "__e_acsl_print_u64", Runtime runtime.PrintUnsigned)
    ∷ (codes "__e_acsl_store_block", Runtime runtime.StoreBlock) ∷ (codes "__e_acsl_delete_block", Runtime runtime.DeleteBlock)
    ∷ (codes "__e_acsl_copy", Runtime runtime.Copy) ∷ (codes "__e_acsl_valid", Runtime runtime.Valid)
    ∷ (codes "__e_acsl_valid_read", Runtime runtime.ValidRead) ∷ (codes "__e_acsl_initialized", Runtime runtime.Initialized)
    ∷ (codes "__e_acsl_number", Runtime runtime.Number) ∷ (codes "__e_acsl_pointer", Runtime runtime.Pointer)
    ∷ (codes "__e_acsl_inside", Runtime runtime.Inside) ∷ (codes "__e_acsl_base_addr", Runtime runtime.BaseAddr)
    ∷ (codes "__e_acsl_block_length", Runtime runtime.BlockLength) ∷ (codes "__e_acsl_offset", Runtime runtime.Offset)
    ∷ (codes "__e_acsl_separated", Runtime runtime.Separated) ∷ (codes "__e_acsl_malloc", Runtime runtime.Malloc)
    ∷ (codes "__e_acsl_calloc", Runtime runtime.Calloc) ∷ (codes "__e_acsl_free", Runtime runtime.Free)
    ∷ (codes "__e_acsl_print_str", Runtime runtime.PrintString) ∷ (codes "getchar", Runtime runtime.GetChar) ∷ []

-- what a word is: one of these, or a name
unfoldable pub word_of : List ℕ → Word
word_of w = found_in type_words w (found_in constant_words w (found_in keywords w (found_in runtime_words w Name)))
