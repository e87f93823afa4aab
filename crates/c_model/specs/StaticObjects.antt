-- The objects that live throughout a run (C99 6.2.4 p3): globals, and the arrays of string literals (C99 6.4.5 p5). They are born in the order of
-- the text.
use Rattle.std.specs.Prelude.{ℕ, suc, ◌+◌, List, [], ◌∷◌, length, map, true, false, nat_lt}
use Rattle.c_syntax.specs.declared.place.Place.{Place}
use Rattle.c_syntax.specs.Statements.{Declaration}
use Rattle.c_syntax.specs.Programs.{StructType, StringLiteral, TranslationUnit}
use Rattle.c_syntax.specs.Layouts.{size_of}
use Rattle.c_model.specs.State.{Scope}

pub data StaticObject : Type 0 where
  OfGlobal : Declaration → StaticObject
  OfLiteral : StringLiteral → StaticObject

-- the literals that stand before a global, the global itself, and then the rest
abbrev pub with_global : Declaration → (List StringLiteral → List StaticObject) → List StringLiteral → List StaticObject
with_global d rest [] = OfGlobal d ∷ rest []
with_global d rest (l ∷ ls) =
    elim (nat_lt l.place.offset d.place.offset) [ true ↦ OfLiteral l ∷ with_global d rest ls | false ↦ OfGlobal d ∷ rest (l ∷ ls) ]

-- globals and literals, each of them in the order of the text, as one list in that order
abbrev pub in_text_order : List Declaration → List StringLiteral → List StaticObject
in_text_order [] ls = map OfLiteral ls
in_text_order (d ∷ ds) ls = with_global d (in_text_order ds) ls

abbrev pub static_objects : TranslationUnit → List StaticObject
static_objects p = in_text_order p.globals p.texts

abbrev pub place_of_object : StaticObject → Place
place_of_object (OfGlobal d) = d.place
place_of_object (OfLiteral l) = l.place

-- how many bytes an object has: a literal ends in a 0 (C99 6.4.5 p5)
abbrev pub size_of_object : List StructType → StaticObject → ℕ
size_of_object structs (OfGlobal d) = size_of structs d.ctype
size_of_object structs (OfLiteral l) = length l.bytes + 1

-- ---- blocks, where that of the first of these objects has the number k

-- the globals, each with the number of its block
abbrev pub scope_from : ℕ → List StaticObject → Scope
scope_from k [] = []
scope_from k (OfGlobal d ∷ os) = (d.place.offset, k) ∷ scope_from (suc k) os
scope_from k (OfLiteral l ∷ os) = scope_from (suc k) os

-- the numbers of the literals' blocks
abbrev pub literals_from : ℕ → List StaticObject → List ℕ
literals_from k [] = []
literals_from k (OfGlobal d ∷ os) = literals_from (suc k) os
literals_from k (OfLiteral l ∷ os) = k ∷ literals_from (suc k) os
