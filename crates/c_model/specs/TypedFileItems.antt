-- The items of a typed file beside those of the read one, one by one in the order of the text.
use Rattle.std.specs.Prelude.{◌≡◌, ℕ, List, [], ◌∷◌}
use Rattle.c_syntax.specs.declared.place.Place.{Place}
use Rattle.c_syntax.specs.Statements.{Declaration}
use Rattle.c_syntax.specs.Programs.{StructMember, StructType, EnumType, Function, TranslationUnit}
use Rattle.c_model.specs.UnitTyping.{FileItem, StructHead, Member, AnEnum, ATypedef, AGlobal, AFunction}
use Rattle.c_model.specs.TypedReadings.{DeclarationTypedAs, DeclarationsTypedAs, SameDeclaration, SameDeclarations, EnumTypedAs, FunctionTypedAs}

-- what is typed of an item; a struct stands in the table of structs
abbrev pub FileItemTypedAs : FileItem → FileItem → Type 0
FileItemTypedAs (StructHead k s) j = j ≡ StructHead k s
FileItemTypedAs (Member k m ends) j = j ≡ Member k m ends
FileItemTypedAs (AnEnum e) j = (x : EnumType) × (j ≡ AnEnum x) × EnumTypedAs e x
FileItemTypedAs (ATypedef d) j = (x : Declaration) × (j ≡ ATypedef x) × SameDeclaration d x
FileItemTypedAs (AGlobal d) j = (x : Declaration) × (j ≡ AGlobal x) × DeclarationTypedAs d x
FileItemTypedAs (AFunction f) j = (x : Function) × (j ≡ AFunction x) × FunctionTypedAs f x

abbrev pub FileItemsTypedAs : List FileItem → List FileItem → Type 0
FileItemsTypedAs [] js = js ≡ []
FileItemsTypedAs (i ∷ is) js = (k : FileItem) × (ks : List FileItem) × (js ≡ k ∷ ks) × FileItemTypedAs i k × FileItemsTypedAs is ks

-- items without those of structs, of which neither typing in their order nor what is in sight behind them speaks
abbrev pub ordinary : List FileItem → List FileItem
ordinary [] = []
ordinary (StructHead k s ∷ is) = ordinary is
ordinary (Member k m ends ∷ is) = ordinary is
ordinary (AnEnum e ∷ is) = AnEnum e ∷ ordinary is
ordinary (ATypedef d ∷ is) = ATypedef d ∷ ordinary is
ordinary (AGlobal d ∷ is) = AGlobal d ∷ ordinary is
ordinary (AFunction f ∷ is) = AFunction f ∷ ordinary is

-- enums and functions, one by one
abbrev pub EnumsTypedAs : List EnumType → List EnumType → Type 0
EnumsTypedAs [] fs = fs ≡ []
EnumsTypedAs (e ∷ es) fs = (x : EnumType) × (xs : List EnumType) × (fs ≡ x ∷ xs) × EnumTypedAs e x × EnumsTypedAs es xs

abbrev pub FunctionsTypedAs : List Function → List Function → Type 0
FunctionsTypedAs [] gs = gs ≡ []
FunctionsTypedAs (f ∷ fs) gs = (x : Function) × (xs : List Function) × (gs ≡ x ∷ xs) × FunctionTypedAs f x × FunctionsTypedAs fs xs

-- places and names of members
abbrev pub members_named : List StructMember → List (Place × ℕ)
members_named [] = []
members_named (m ∷ ms) = (m.place, m.name) ∷ members_named ms

-- a struct that is laid out is the read one but for types, offsets and sizes
pub record StructTypedAs (s x : StructType) : Type 0 where
  pub place : x.place ≡ s.place
  pub tag : x.tag ≡ s.tag
  pub members : members_named x.members ≡ members_named s.members

abbrev pub StructsTypedAs : List StructType → List StructType → Type 0
StructsTypedAs [] [] = Unit {0}
StructsTypedAs [] (x ∷ xs) = ⊥
StructsTypedAs (s ∷ ss) [] = ⊥
StructsTypedAs (s ∷ ss) (x ∷ xs) = StructTypedAs s x × StructsTypedAs ss xs

-- a file that is the read one but for types, casts, constants and the layout of structs
pub record FileTypedAs (p q : TranslationUnit) : Type 0 where
  pub names : q.names ≡ p.names
  pub texts : q.texts ≡ p.texts
  pub strays : q.strays ≡ p.strays
  pub structs : StructsTypedAs p.structs q.structs
  pub enums : EnumsTypedAs p.enums q.enums
  pub typedefs : SameDeclarations p.typedefs q.typedefs
  pub globals : DeclarationsTypedAs p.globals q.globals
  pub functions : FunctionsTypedAs p.funcs q.funcs
