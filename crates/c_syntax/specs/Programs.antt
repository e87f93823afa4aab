-- The plain form of functions and whole files (C99 6.9), and of refusals: without vectors.
use Rattle.std.specs.Prelude.{ℕ, List, map, Option, option_map}
use Rattle.c_syntax.specs.declared.place.Place.{Place}
use Rattle.c_syntax.specs.declared.program.Member.{Member}
use Rattle.c_syntax.specs.declared.program.Layout.{Layout}
use Rattle.c_syntax.specs.declared.program.Enumerator.{Enumerator}
use Rattle.c_syntax.specs.declared.program.EnumDef.{EnumDef}
use Rattle.c_syntax.specs.declared.program.Behavior.{Behavior}
use Rattle.c_syntax.specs.declared.program.Contract.{Contract}
use Rattle.c_syntax.specs.declared.program.Func.{Func}
use Rattle.c_syntax.specs.declared.program.Text.{Text}
use Rattle.c_syntax.specs.declared.program.Program.{Program}
use Rattle.c_syntax.specs.declared.refusal.Refusal.{Refusal}
use Rattle.c_syntax.specs.Ctypes.{PlainType, plain_type}
use Rattle.c_syntax.specs.Expressions.{Expression, plain_expr}
use Rattle.c_syntax.specs.Logic.{Annotation, plain_annot}
use Rattle.c_syntax.specs.Statements.{Declaration, plain_decl, Statement, plain_stmt}

pub record StructMember : Type 0 where
  pub place : Place
  pub name : ℕ
  pub ctype : PlainType
  pub offset : ℕ

pub record StructType : Type 0 where
  pub place : Place
  pub tag : Option ℕ
  pub members : List StructMember
  pub size : ℕ
  pub align : ℕ

pub record EnumConstant : Type 0 where
  pub place : Place
  pub name : ℕ
  pub value : Option Expression

pub record EnumType : Type 0 where
  pub place : Place
  pub tag : Option ℕ
  pub items : List EnumConstant

pub record NamedBehavior : Type 0 where
  pub place : Place
  pub name : ℕ
  pub clauses : List Annotation

pub record FunctionContract : Type 0 where
  pub place : Place
  pub clauses : List Annotation
  pub behaviors : List NamedBehavior
  pub covers : List Annotation

pub record Function : Type 0 where
  pub place : Place
  pub name : ℕ
  pub result : PlainType
  pub params : List Declaration
  pub contract : Option FunctionContract
  pub body : Option Statement
  pub close : Place

-- a string literal (C99 6.4.5)
pub record StringLiteral : Type 0 where
  pub place : Place
  pub bytes : List ℕ

-- a translation unit (C99 6.9)
pub record TranslationUnit : Type 0 where
  pub names : List (List ℕ)
  pub texts : List StringLiteral
  pub structs : List StructType
  pub enums : List EnumType
  -- what `typedef` declares, and declarations without declarators, each at its `;`, which have no name
  pub typedefs : List Declaration
  pub globals : List Declaration
  pub funcs : List Function
  pub strays : List Annotation

-- a refusal: its code, its place and its word
pub record PlainRefusal : Type 0 where
  pub code : ℕ
  pub place : Place
  pub construct : List ℕ

abbrev pub plain_member : Member → StructMember
plain_member m = record { place = m.place; name = m.name; ctype = plain_type m.ctype; offset = m.offset }

abbrev pub plain_layout : Layout → StructType
plain_layout l = record { place = l.place; tag = l.tag; members = map plain_member l.members.items; size = l.size; align = l.align }

abbrev pub plain_enumerator : Enumerator → EnumConstant
plain_enumerator e = record { place = e.place; name = e.name; value = option_map plain_expr e.value }

abbrev pub plain_enum : EnumDef → EnumType
plain_enum e = record { place = e.place; tag = e.tag; items = map plain_enumerator e.items.items }

abbrev pub plain_behavior : Behavior → NamedBehavior
plain_behavior b = record { place = b.place; name = b.name; clauses = map plain_annot b.clauses.items }

abbrev pub plain_contract : Contract → FunctionContract
plain_contract c = record {
  place = c.place;
  clauses = map plain_annot c.clauses.items;
  behaviors = map plain_behavior c.behaviors.items;
  covers = map plain_annot c.covers.items;
}

abbrev pub plain_func : Func → Function
plain_func f = record {
  place = f.place;
  name = f.name;
  result = plain_type f.result;
  params = map plain_decl f.params.items;
  contract = option_map plain_contract f.contract;
  body = option_map plain_stmt f.body;
  close = f.close;
}

abbrev pub plain_text : Text → StringLiteral
plain_text t = record { place = t.place; bytes = t.bytes }

abbrev pub plain_program : Program → TranslationUnit
plain_program p = record {
  names = p.names.items;
  texts = map plain_text p.texts.items;
  structs = map plain_layout p.structs.items;
  enums = map plain_enum p.enums.items;
  typedefs = map plain_decl p.typedefs.items;
  globals = map plain_decl p.globals.items;
  funcs = map plain_func p.funcs.items;
  strays = map plain_annot p.strays.items;
}

abbrev pub plain_refusal : Refusal → PlainRefusal
plain_refusal r = record { code = r.code; place = r.place; construct = r.construct }
