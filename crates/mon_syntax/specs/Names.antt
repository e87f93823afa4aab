-- Ours: the names that monitored C keeps.
-- The words of monitored C, and the names that are free.
use Rattle.std.specs.Prelude.{◌≡◌, ℕ, ◌≤◌, List, [], ◌∷◌, length, Bool, false, true, codes, bytes_eq}
use Rattle.std.specs.List.{list_any, AllByRecursion}
use Rattle.c_model.specs.Characters.{is_nondigit, is_part}
use Rattle.mon_syntax.specs.declared.tree.MonType.{MonType}
use Rattle.mon_syntax.specs.declared.tree.MonType.TheVariants.{I8, U8, I16, U16, I32, U32, I64, U64, I128, Ptr}

abbrev pub type_word : MonType → List ℕ
type_word I8 = codes "i8"
type_word U8 = codes "u8"
type_word I16 = codes "i16"
type_word U16 = codes "u16"
type_word I32 = codes "i32"
type_word U32 = codes "u32"
type_word I64 = codes "i64"
type_word U64 = codes "u64"
type_word I128 = codes "i128"
type_word Ptr = codes "ptr"

-- the word of a constant of a type
abbrev pub constant_word : MonType → List ℕ
constant_word I8 = codes "I8"
constant_word U8 = codes "U8"
constant_word I16 = codes "I16"
constant_word U16 = codes "U16"
constant_word I32 = codes "I32"
constant_word U32 = codes "U32"
constant_word I64 = codes "I64"
constant_word U64 = codes "U64"
constant_word I128 = codes "I128"
constant_word Ptr = codes "PTR"

-- what no register, label or function is called: types, constants, keywords, and the names of the runtime
unfoldable pub reserved_words : List (List ℕ)
reserved_words =
    codes "i8" ∷ codes "u8" ∷ codes "i16" ∷ codes "u16" ∷ codes "i32" ∷ codes "u32" ∷ codes "i64" ∷ codes "u64" ∷ codes "i128" ∷ codes "ptr"
    ∷ codes "I8" ∷ codes "U8" ∷ codes "I16" ∷ codes "U16" ∷ codes "I32" ∷ codes "U32" ∷ codes "I64" ∷ codes "U64" ∷ codes "I128" ∷ codes "PTR"
    ∷ codes "static" ∷ codes "const" ∷ codes "char" ∷ codes "void" ∷ codes "if" ∷ codes "else" ∷ codes "while" ∷ codes "goto" ∷ codes "return"
    ∷ codes "__e_acsl_step" ∷ codes "__e_acsl_assert" ∷ codes "__e_acsl_store_block" ∷ codes "__e_acsl_delete_block" ∷ codes "__e_acsl_copy"
    ∷ codes "__e_acsl_valid" ∷ codes "__e_acsl_valid_read" ∷ codes "__e_acsl_initialized" ∷ codes "__e_acsl_number" ∷ codes "__e_acsl_pointer"
    ∷ codes "__e_acsl_inside" ∷ codes "__e_acsl_base_addr" ∷ codes "__e_acsl_block_length" ∷ codes "__e_acsl_offset" ∷ codes "__e_acsl_separated"
    ∷ codes "__e_acsl_malloc" ∷ codes "__e_acsl_calloc" ∷ codes "__e_acsl_free" ∷ codes "__e_acsl_initialize" ∷ codes "__e_acsl_initialize_ptr"
    ∷ codes "__e_acsl_print_text" ∷ codes "__e_acsl_print_i64" ∷ codes "__e_acsl_print_u64" ∷ codes "__e_acsl_print_str"
    ∷ codes "putchar" ∷ codes "getchar" ∷ codes "exit" ∷ []

abbrev pub is_reserved : List ℕ → Bool
is_reserved w = list_any (bytes_eq w) reserved_words

abbrev pub begins_name : List ℕ → Bool
begins_name [] = false
begins_name (b ∷ bs) = is_nondigit b

-- a free name of at most 255 bytes (this profile): a letter or `_`, and then letters, digits and `_`
pub record IsFreeName (w : List ℕ) : Type 0 where
  pub begins : begins_name w ≡ true
  pub parts : AllByRecursion (λ b. is_part b ≡ true) w
  pub short : length w ≤ 255
  pub free : is_reserved w ≡ false
