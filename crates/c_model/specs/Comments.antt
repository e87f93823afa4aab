-- Comments (C99 6.4.9) and the extent of annotations (ACSL, lexical rules).
use Rattle.std.specs.Prelude.{ℕ, suc, List, [], ◌∷◌, Option, Some, None, option_map, Bool, true, false, not, ◌||◌, ◌&&◌, nat_eq, if◌then◌else◌, codes}
use Rattle.c_model.specs.declared.c_tokens.Mode.{Mode}
use Rattle.c_model.specs.declared.c_tokens.Mode.TheVariants.{Code, Block, Line}
use Rattle.c_model.specs.Characters.{is_blank, begins_with}

-- ---- where a byte stands

abbrev pub is_code : Mode → Bool
is_code Code = true
is_code Block = false
is_code Line = false

abbrev pub is_block : Mode → Bool
is_block Code = false
is_block Block = true
is_block Line = false

abbrev pub is_line : Mode → Bool
is_line Code = false
is_line Block = false
is_line Line = true

-- in an annotation `@` is a blank
abbrev pub is_gap : Mode → ℕ → Bool
is_gap m b = is_blank b || (not (is_code m) && nat_eq b 64)

-- the first `*/` ends an annotation that `/*@` began, whatever it stands in (this profile)
abbrev pub ends_block : Mode → List ℕ → Bool
ends_block m bs = is_block m && begins_with (codes "*/") bs

-- ---- comments

abbrev pub in_line : ℕ → Bool
in_line b = not (nat_eq b 10)

-- the bytes up to the first `*/` and with it
abbrev pub block_len : List ℕ → Option ℕ
block_len [] = None
block_len (b ∷ bs) = if begins_with (codes "*/") (b ∷ bs) then Some 2 else option_map suc (block_len bs)

-- a comment with `//` goes up to the line's end, and not past the end of an annotation that it stands in
abbrev pub comment_len : Mode → List ℕ → ℕ
comment_len m [] = 0
comment_len m (b ∷ bs) = if nat_eq b 10 || ends_block m (b ∷ bs) then 0 else suc (comment_len m bs)

-- ---- annotations without a token: blanks, `@` and comments with `//` alone

-- whether a comment is open after the byte at the front; nothing where this begins a token
abbrev pub comment_behind : Bool → List ℕ → Option Bool
comment_behind is_open [] = None
comment_behind is_open (b ∷ bs) =
    if is_open then Some (in_line b)
    else (if is_gap Block b then Some false
    else (if begins_with (codes "//") (b ∷ bs) then Some true else None))

-- the bytes after `/*@` up to the first `*/` and with it, where they have no token; whether a comment is open
abbrev pub blank_block : Bool → List ℕ → Option ℕ
blank_block is_open [] = None
blank_block is_open (b ∷ bs) =
    if begins_with (codes "*/") (b ∷ bs) then Some 2
    else elim (comment_behind is_open (b ∷ bs)) [ None ↦ None | Some c ↦ option_map suc (blank_block c bs) ]

-- whether the bytes after `//@` up to the line's end have no token
abbrev pub is_blank_line : List ℕ → Bool
is_blank_line [] = true
is_blank_line (b ∷ bs) = nat_eq b 10 || (if is_gap Line b then is_blank_line bs else begins_with (codes "//") (b ∷ bs))
