-- What is known of a file as it is typed (C99 6.2.1 p7, 6.7, 6.9): item by item in the order of the text, each with what is in sight where
-- it stands, and what is in sight and typed behind it.
use Rattle.std.specs.Prelude.{◌≡◌, List, [], ◌∷◌, ◌++◌}
use Rattle.c_syntax.specs.Statements.{Declaration}
use Rattle.c_syntax.specs.Programs.{EnumType, Function, TranslationUnit}
use Rattle.c_model.specs.ExpressionTyping.{with_object}
use Rattle.c_model.specs.UnitTyping.{FileItem, StructHead, Member, AnEnum, ATypedef, AGlobal}
use Rattle.c_model.specs.UnitTyping.{AFunction, with_type, with_function, Progress, items_of_file, at_start, with_progress}
use Rattle.c_model.specs.TypedTrees.{IsDeclared, FunctionTyped}
use Rattle.c_model.specs.TypedReadings.{DeclarationTypedAs, SameDeclaration, EnumTypedAs, FunctionTypedAs}

-- a global with what is in sight where it stands
pub record GlobalStands (d : Declaration) (r : Progress) (q : Progress) : Type 0 where
  pub global : Declaration
  pub read : DeclarationTypedAs d global
  pub declared : IsDeclared r.sight global
  pub is : q ≡ record r { sight = with_object r.sight global; globals = r.globals ++ global ∷ [] }

-- a function with what is in sight where it stands, itself included
pub record FunctionStands (p : TranslationUnit) (f : Function) (r : Progress) (q : Progress) : Type 0 where
  pub func : Function
  pub read : FunctionTypedAs f func
  pub typed : FunctionTyped (with_function p r.sight func) func
  pub is : q ≡ record r { sight = with_function p r.sight func; funcs = r.funcs ++ func ∷ [] }

pub record TypedefStands (d : Declaration) (r : Progress) (q : Progress) : Type 0 where
  pub typedef : Declaration
  pub read : SameDeclaration d typedef
  pub is : q ≡ record r { sight = with_type r.sight typedef; typedefs = r.typedefs ++ typedef ∷ [] }

pub record EnumStands (e : EnumType) (r : Progress) (q : Progress) : Type 0 where
  pub enum : EnumType
  pub read : EnumTypedAs e enum
  pub is : q.enums ≡ r.enums ++ enum ∷ []
  pub typedefs : q.typedefs ≡ r.typedefs
  pub globals : q.globals ≡ r.globals
  pub funcs : q.funcs ≡ r.funcs

-- structs add nothing else
pub record KeepsOthers (r : Progress) (q : Progress) : Type 0 where
  pub enums : q.enums ≡ r.enums
  pub typedefs : q.typedefs ≡ r.typedefs
  pub globals : q.globals ≡ r.globals
  pub funcs : q.funcs ≡ r.funcs

abbrev pub ItemStands : TranslationUnit → Progress → FileItem → Progress → Type 0
ItemStands p r (StructHead k s) q = KeepsOthers r q
ItemStands p r (Member k m ends) q = KeepsOthers r q
ItemStands p r (AnEnum e) q = EnumStands e r q
ItemStands p r (ATypedef d) q = TypedefStands d r q
ItemStands p r (AGlobal d) q = GlobalStands d r q
ItemStands p r (AFunction f) q = FunctionStands p f r q

abbrev pub ItemsStand : TranslationUnit → Progress → List FileItem → Progress → Type 0
ItemsStand p r [] q = q ≡ r
ItemsStand p r (i ∷ is) q = (next : Progress) × ItemStands p r i next × ItemsStand p next is q

-- a file that is typed as another
pub record UnitStands (p q : TranslationUnit) : Type 0 where
  pub last : Progress
  pub items : ItemsStand p (at_start p) (items_of_file p) last
  pub is : q ≡ with_progress p last
