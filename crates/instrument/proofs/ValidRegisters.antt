-- The registers of translated functions: their names are free, and each has its own; and their types.
pub use Rattle.instrument.proofs.TypedDefinitions.{kinds}
use Rattle.std.proofs.Common.{◌≡◌, ℕ, suc, ◌+◌, ◌<◌, ◌≤◌, ◌^◌, Bool, true, false, ◌||◌, if◌then◌else◌, List, [], ◌∷◌, ◌++◌, length, drop, nat_lt, Option, Some, None, refl, sym, ap, ◌∙◌, subst, append_assoc, arith}
use Rattle.std.proofs.lemmas.List.{length-append, length-map, map-append}
use Rattle.std.specs.Prelude.{bytes_eq}
use Rattle.c_syntax.specs.Statements.{Declaration, Statement}
use Rattle.c_syntax.specs.Programs.{FunctionContract, Function, TranslationUnit}
use Rattle.c_model.specs.ContractChecks.{entry_checks, leave_checks}
use Rattle.c_model.specs.ExpressionTyping.{name_at}
use Rattle.std.proofs.lemmas.Bool.Decides.{nat_tests}
use Rattle.c_model.specs.Limits.{globals_bytes}
use Rattle.c_model.specs.Memory.{rounded}
use Rattle.c_model.specs.Checked.{Fault}
use Rattle.c_model.specs.StaticObjects.{StaticObject, OfGlobal, OfLiteral, static_objects, size_of_object}
use Rattle.c_model.specs.UnitTyping.{room_fault, room_fault_from, room_with}
use Rattle.c_model.proofs.StaticObjects.{globals_of, literals_of, globals_are, literals_are}
use Rattle.c_model.specs.Formed.{AreNamed, IsName, AreNamedParameters, FunctionNamed}
use Rattle.mon_syntax.specs.declared.tree.MonType.{MonType}
use Rattle.mon_syntax.specs.Registers.{Bindings, RegisterTable, no_registers, with_kinds}
use Rattle.mon_syntax.specs.Trees.{MonRegister, MonitoredGlobal}
use Rattle.mon_syntax.specs.Globals.{globals_taken, size_of_global}
use Rattle.mon_syntax.specs.Valid.{Types, AreRegisters, AreGlobals, names_before, has_label, types_of}
use Rattle.c_effects.specs.Expressions.{value_type}
use Rattle.instrument.specs.Translation.{register_name, name_of_register, own_name, value_types, arguments_from, registers_from, registers_of, all_kinds, after_body}
use Rattle.instrument.specs.Translation.{at_leave, at_start, behind_pre, first_flag, held_of, own_types, plan_of, global_name, text_name, monitored_global, globals_with, literals_with}
use Rattle.instrument.specs.Translation.{monitored_from, monitored_globals}
use Rattle.instrument.specs.Translation as target
use Rattle.annot_simulation.specs.ContractCode.{behind_entry, behind_leave}
use Rattle.annot_simulation.specs.Held.{Held}
use Rattle.annot_simulation.proofs.CheckPrefixes.{checks_begin}
use Rattle.c_simulation.specs.Keeping.{Kept}
use Rattle.instrument.proofs.Names.{IsNumber, AllParts, register_is_free, registers_differ, named_free, named_differ, named_no_value, global_is_free}
use Rattle.instrument.proofs.Names.{globals_differ, text_is_free, texts_differ, text_no_global, global_no_text, register_no_global, register_no_text, named_no_global, named_no_text}
use Rattle.instrument.proofs.Typed.{begins_front}
use Rattle.c_model.specs.ReadTree.{TextsAreBytes}
use Rattle.annot_simulation.specs.Validity.{Begins}
use Rattle.instrument.proofs.Tables.{begins_itself, begins_then, entered_begins, label_begins, statement_begins}

-- ---- types of arguments

pub types_of_arguments : (names : List (List ℕ)) (k : ℕ) (ds : List Declaration) → types_of (arguments_from names k ds) ≡ value_types ds
types_of_arguments names k [] = refl
types_of_arguments names k (d ∷ ds) = ap (λ l. value_type d.ctype ∷ l) (types_of_arguments names (suc k) ds)

-- ---- names that others haven't

abbrev pub AllOf : (List ℕ → Type 0) → List (List ℕ) → Type 0
AllOf P [] = Unit {0}
AllOf P (w ∷ ws) = P w × AllOf P ws

pub all_of : (P Q : List ℕ → Type 0) (ws : List (List ℕ)) → ((w : List ℕ) → P w → Q w) → AllOf P ws → AllOf Q ws
all_of P Q [] f h = tt
all_of P Q (w ∷ ws) f h = (f w h.0, all_of P Q ws f h.1)

pub not_among : (name : List ℕ) (ws : List (List ℕ)) → AllOf (λ w. bytes_eq name w ≡ false) ws → has_label ws name ≡ false
not_among name [] h = refl
not_among name (w ∷ ws) h = ap (λ b. b || has_label ws name) h.0 ∙ not_among name ws h.1

-- names of registers in front, of which none with these numbers is one: neither that of an argument, nor that of another register
record AboveArguments (k : ℕ) (w : List ℕ) : Type 0 where
  pub argument : (j : ℕ) (name : List ℕ) → k ≤ j → IsNumber j → bytes_eq (register_name j name) w ≡ false
  pub other : (j : ℕ) (t : MonType) → bytes_eq (name_of_register j t) w ≡ false

record AboveOthers (k : ℕ) (w : List ℕ) : Type 0 where
  pub other : (j : ℕ) (t : MonType) → k ≤ j → IsNumber j → bytes_eq (name_of_register j t) w ≡ false

others_valid : (k : ℕ) (ts : Types) (before : List (List ℕ)) → IsNumber (k + length ts) → AllOf (AboveOthers k) before → AreRegisters before (registers_from k ts)
others_valid k [] before le h = tt
others_valid k (t ∷ ts) before le h = (
  named_free k t (omega (arith, le)),
  not_among (name_of_register k t) before (all_of (AboveOthers k) (λ w. bytes_eq (name_of_register k t) w ≡ false) before (λ w a. a.other k t (omega arith) (omega (arith, le))) h),
  others_valid (suc k) ts (name_of_register k t ∷ before) (omega (arith, le)) (
    record { other = λ j u lt few. named_differ j k u t few (omega (arith, le)) (λ e. omega (arith, e, lt)) },
    all_of (AboveOthers k) (AboveOthers (suc k)) before (λ w a. record { other = λ j u lt few. a.other j u (omega (arith, lt)) few }) h,
  ),
)

-- the names of declarations, where they have any, are those of C
abbrev OwnParts : List (List ℕ) → List Declaration → Type 0
OwnParts names [] = Unit {0}
OwnParts names (d ∷ ds) = AllParts (own_name names d) × OwnParts names ds

own_parts : (names : List (List ℕ)) (d : Declaration) → (d.named ≡ true → IsName (name_at names d.name)) → AllParts (own_name names d)
own_parts names d h = by d.named h
  where
    by : (b : Bool) → (b ≡ true → IsName (name_at names d.name)) → AllParts (if b then name_at names d.name else [])
    by true g = (g refl).parts
    by false g = tt

parameters_parts : (names : List (List ℕ)) (ds : List Declaration) → AreNamedParameters names ds → OwnParts names ds
parameters_parts names [] h = tt
parameters_parts names (d ∷ ds) h = (own_parts names d h.0, parameters_parts names ds h.1)

-- arguments, and other registers after them
arguments_valid : (names : List (List ℕ)) (k : ℕ) (ds : List Declaration) (before : List (List ℕ)) (n : ℕ) (ts : Types) → OwnParts names ds → IsNumber (k + length ds) → IsNumber (n + length ts) → AllOf (AboveArguments k) before
    → AreRegisters before (arguments_from names k ds ++ registers_from n ts)
arguments_valid names k [] before n ts o le few h = others_valid n ts before few (all_of (AboveArguments k) (AboveOthers n) before (λ w a. record { other = λ j t lt small. a.other j t }) h)
arguments_valid names k (d ∷ ds) before n ts o le few h =
    let name = own_name names d in (
      register_is_free k name (omega (arith, le)) o.0,
      not_among (register_name k name) before (all_of (AboveArguments k) (λ w. bytes_eq (register_name k name) w ≡ false) before (λ w a. a.argument k name (omega arith) (omega (arith, le))) h),
      arguments_valid names (suc k) ds (register_name k name ∷ before) n ts o.1 (omega (arith, le)) few (
        record { argument = λ j other lt small. registers_differ j k other name small (omega (arith, le)) (λ e. omega (arith, e, lt)); other = λ j t. named_no_value j k t name },
        all_of (AboveArguments k) (AboveArguments (suc k)) before (λ w a. record { argument = λ j other lt small. a.argument j other (omega (arith, lt)) small; other = a.other }) h,
      ),
    )

-- ---- globals and literals

-- the names of globals, of which each fulfils this
abbrev NamesAre : (List ℕ → Type 0) → List MonitoredGlobal → Type 0
NamesAre P [] = Unit {0}
NamesAre P (g ∷ gs) = P g.name × NamesAre P gs

names_are : (P : List ℕ → Type 0) (before : List (List ℕ)) (gs : List MonitoredGlobal) → AllOf P before → NamesAre P gs → AllOf P (names_before before gs)
names_are P before [] h k = h
names_are P before (g ∷ gs) h k = names_are P (g.name ∷ before) gs (k.0, h) k.1

above_global : (k : ℕ) (name : List ℕ) → AboveArguments 0 (global_name k name)
above_global k name = record { argument = λ j a le few. register_no_global j k a name; other = λ j t. named_no_global j k t name }

above_text : (k : ℕ) → AboveArguments 0 (text_name k)
above_text k = record { argument = λ j a le few. register_no_text j k a; other = λ j t. named_no_text j k t }

objects_above : (p : TranslationUnit) (k n : ℕ) (os : List StaticObject) → NamesAre (AboveArguments 0) (monitored_from p k n os)
objects_above p k n [] = tt
objects_above p k n (OfGlobal d ∷ os) = (above_global k (name_at p.names d.name), objects_above p (k + 1) n os)
objects_above p k n (OfLiteral l ∷ os) = (above_text n, objects_above p k (n + 1) os)

-- no register has the name of a global
above_globals : (p : TranslationUnit) → AllOf (AboveArguments 0) (names_before [] (monitored_globals p))
above_globals p = names_are (AboveArguments 0) [] (monitored_globals p) tt (objects_above p 0 0 (static_objects p))

-- names in front, of which none is that of a global or of a literal with these numbers
record AboveObjects (k n : ℕ) (w : List ℕ) : Type 0 where
  pub global : (j : ℕ) (name : List ℕ) → k ≤ j → IsNumber j → bytes_eq (global_name j name) w ≡ false
  pub text : (j : ℕ) → n ≤ j → IsNumber j → bytes_eq (text_name j) w ≡ false

objects_valid : (p : TranslationUnit) (k n : ℕ) (os : List StaticObject) (before : List (List ℕ)) → IsNumber (k + length (globals_of os)) → IsNumber (n + length (literals_of os)) → AreNamed p.names (globals_of os) → TextsAreBytes (literals_of os)
    → AllOf (AboveObjects k n) before → AreGlobals before (monitored_from p k n os)
objects_valid p k n [] before few small named bytes h = tt
objects_valid p k n (OfGlobal d ∷ os) before few small named bytes h =
    let name = name_at p.names d.name in (
      global_is_free k name (omega (arith, few)) named.0.parts,
      not_among (global_name k name) before (all_of (AboveObjects k n) (λ w. bytes_eq (global_name k name) w ≡ false) before (λ w a. a.global k name (omega arith) (omega (arith, few))) h),
      tt,
      objects_valid p (k + 1) n os (global_name k name ∷ before) (omega (arith, few)) small named.1 bytes (
        record { global = λ j other lt less. globals_differ j k other name less (omega (arith, few)) (λ e. omega (arith, e, lt)); text = λ j lt less. text_no_global j k name },
        all_of (AboveObjects k n) (AboveObjects (k + 1) n) before (λ w a. record { global = λ j other lt less. a.global j other (omega (arith, lt)) less; text = a.text }) h,
      ),
    )
objects_valid p k n (OfLiteral l ∷ os) before few small named bytes h = (
  text_is_free n (omega (arith, small)),
  not_among (text_name n) before (all_of (AboveObjects k n) (λ w. bytes_eq (text_name n) w ≡ false) before (λ w a. a.text n (omega arith) (omega (arith, small))) h),
  bytes.0,
  objects_valid p k (n + 1) os (text_name n ∷ before) few (omega (arith, small)) named bytes.1 (
    record { global = λ j other lt less. global_no_text j n other; text = λ j lt less. texts_differ j n less (omega (arith, small)) (λ e. omega (arith, e, lt)) },
    all_of (AboveObjects k n) (AboveObjects k (n + 1)) before (λ w a. record { global = a.global; text = λ j lt less. a.text j (omega (arith, lt)) less }) h,
  ),
)

-- there are so many globals and so many literals
parts_long : (os : List StaticObject) → length os ≡ length (globals_of os) + length (literals_of os)
parts_long [] = refl
parts_long (OfGlobal d ∷ os) = let h = parts_long os in omega (arith, h)
parts_long (OfLiteral l ∷ os) = let h = parts_long os in omega (arith, h)

pub all_globals_valid : (p : TranslationUnit) → IsNumber (length (static_objects p)) → AreNamed p.names p.globals → TextsAreBytes p.texts → AreGlobals [] (monitored_globals p)
all_globals_valid p few named bytes =
    let long = parts_long (static_objects p) in
    objects_valid p 0 0 (static_objects p) [] (omega (arith, few, long)) (omega (arith, few, long)) (subst (AreNamed p.names) (sym (globals_are p)) named) (subst TextsAreBytes (sym (literals_are p)) bytes) tt

-- ---- their room (C99 5.2.4.1)

room_here : (b : Bool) (x : Fault) (o : Option Fault) → (if b then Some x else o) ≡ None → (b ≡ false) × (o ≡ None)
room_here true x o e = absurd cc
room_here false x o e = (refl, e)

not_less : (a b : ℕ) → nat_lt a b ≡ false → b ≤ a
not_less a b e = grind (arith, nat_tests)

size_is : (p : TranslationUnit) (k n : ℕ) (o : StaticObject) → size_of_global (monitored_global p k n o) ≡ size_of_object p.structs o
size_is p k n (OfGlobal d) = refl
size_is p k n (OfLiteral l) = refl

objects_room : (p : TranslationUnit) (k n taken : ℕ) (os : List StaticObject) → room_fault_from p.structs taken os ≡ None → taken ≤ globals_bytes → taken + globals_taken (monitored_from p k n os) ≤ globals_bytes
objects_room p k n taken [] e le = omega (arith, le)
objects_room p k n taken (o ∷ os) e le =
    let here = room_here (nat_lt globals_bytes (room_with p.structs taken o)) _ _ e in
    let fits : room_with p.structs taken o ≤ globals_bytes = not_less globals_bytes (room_with p.structs taken o) here.0 in
    let rest = objects_room p (globals_with k o) (literals_with n o) (room_with p.structs taken o) os here.1 fits in
    let same : rounded (size_of_global (monitored_global p k n o)) ≡ rounded (size_of_object p.structs o) = ap rounded (size_is p k n o) in
    omega (arith, rest, same)

pub room_is : (p : TranslationUnit) → room_fault p ≡ None → globals_taken (monitored_globals p) ≤ globals_bytes
room_is p e = let r = objects_room p 0 0 0 (static_objects p) e (omega arith) in omega (arith, r)

-- ---- those of a function

types_of_registers : (k : ℕ) (ts : Types) → types_of (registers_from k ts) ≡ ts
types_of_registers k [] = refl
types_of_registers k (t ∷ ts) = ap (λ l. t ∷ l) (types_of_registers (suc k) ts)

pub body_begins : (p : TranslationUnit) (plan : List Kept) (body : Option Statement) (r : RegisterTable) → Begins r.kinds (after_body p plan body r).kinds
body_begins p plan None r = begins_itself r.kinds
body_begins p plan (Some a) r = statement_begins p plan a r

pub entry_begins : (p : TranslationUnit) (bound : Bindings) (h : ℕ) (rs : Types) (c : FunctionContract) → Begins rs (behind_entry p bound h rs c)
entry_begins p bound h rs c = let all = behind_entry p bound h rs c in checks_begin all p bound [] [] c.behaviors h (entry_checks c) None rs (begins_itself all)

pub leave_begins : (p : TranslationUnit) (bound : Bindings) (plan : List Kept) (held : List Held) (h : ℕ) (rs : Types) (c : FunctionContract) → Begins rs (behind_leave p bound plan held h rs c)
leave_begins p bound plan held h rs c = let all = behind_leave p bound plan held h rs c in checks_begin all p bound plan held c.behaviors h (leave_checks c) None rs (begins_itself all)

pub all_begin : (p : TranslationUnit) (front : Types) (f : Function) (o : Option FunctionContract) → Begins (at_start p front f).kinds (all_kinds p front f o)
all_begin p front f None =
    begins_then (at_start p front f).kinds (behind_pre p front f).kinds (all_kinds p front f None) (label_begins p (plan_of f) None (at_start p front f)) (body_begins p (plan_of f) f.body (behind_pre p front f))
all_begin p front f (Some c) =
    let start = (at_start p front f).kinds in
    let pre = behind_pre p front f in
    let inside = target.at_body p front f c in
    let all = all_kinds p front f (Some c) in
    begins_then start pre.kinds all (label_begins p (plan_of f) None (at_start p front f))
    (begins_then pre.kinds inside.kinds all (entry_begins p pre.bound (first_flag f) pre.kinds c)
    (begins_then inside.kinds (at_leave p front f c) all (body_begins p (plan_of f) f.body inside) (leave_begins p pre.bound (plan_of f) (held_of f) (first_flag f) (at_leave p front f c) c)))

drop_values : (ds : List Declaration) (rest : Types) → drop (length ds) (value_types ds ++ rest) ≡ rest
drop_values [] rest = refl
drop_values (d ∷ ds) rest = drop_values ds rest

-- those of arguments are the first, then those of the function's own, and those before the parameters' blocks come next
pub front_begins : (p : TranslationUnit) (front : Types) (f : Function) → Begins (value_types f.params ++ (own_types f ++ front)) (kinds p front f)
front_begins p front f =
    begins_then (value_types f.params ++ (own_types f ++ front)) (at_start p front f).kinds (kinds p front f)
    (entered_begins f.params (with_kinds (own_types f ++ front) (with_kinds (value_types f.params) no_registers))) (all_begin p front f f.contract)

pub own_begin : (p : TranslationUnit) (front : Types) (f : Function) → Begins (value_types f.params ++ own_types f) (kinds p front f)
own_begin p front f =
    begins_front (value_types f.params ++ own_types f) front (kinds p front f) (subst (λ ts. Begins ts (kinds p front f)) (sym (append_assoc (value_types f.params) (own_types f) front)) (front_begins p front f))

pub values_begin : (p : TranslationUnit) (front : Types) (f : Function) → Begins (value_types f.params) (kinds p front f)
values_begin p front f = begins_front (value_types f.params) (own_types f ++ front) (kinds p front f) (front_begins p front f)

module _ (p : TranslationUnit) (front : Types) (f : Function) where
  others_are : drop (length f.params) (kinds p front f) ≡ (values_begin p front f).rest
  others_are = ap (drop (length f.params)) (values_begin p front f).is ∙ drop_values f.params (values_begin p front f).rest

  pub function_types : types_of (arguments_from p.names 0 f.params ++ registers_of p front f) ≡ kinds p front f
  function_types =
      map-append (λ (r : MonRegister). r.kind) (arguments_from p.names 0 f.params) (registers_of p front f)
      ∙ ap (λ l. l ++ types_of (registers_of p front f)) (types_of_arguments p.names 0 f.params)
      ∙ ap (λ l. value_types f.params ++ l) (types_of_registers (length f.params) (drop (length f.params) (kinds p front f)) ∙ others_are)
      ∙ sym (values_begin p front f).is

  pub own_types_are : Begins (value_types f.params ++ own_types f) (types_of (arguments_from p.names 0 f.params ++ registers_of p front f))
  own_types_are = subst (Begins (value_types f.params ++ own_types f)) (sym function_types) (own_begin p front f)

  pub registers_valid : FunctionNamed p.names f → length (kinds p front f) < 2 ^ 64 → AreRegisters (names_before [] (monitored_globals p)) (arguments_from p.names 0 f.params ++ registers_of p front f)
  registers_valid named few =
      let a : length (kinds p front f) ≡ length (value_types f.params ++ (values_begin p front f).rest) = ap (λ (l : Types). length l) (values_begin p front f).is in
      let b = length-append (value_types f.params) (values_begin p front f).rest in
      let c : length (value_types f.params) ≡ length f.params = length-map f.params (λ (d : Declaration). value_type d.ctype) in
      let d : length (drop (length f.params) (kinds p front f)) ≡ length (values_begin p front f).rest = ap (λ (l : Types). length l) others_are in
      arguments_valid p.names 0 f.params (names_before [] (monitored_globals p)) (length f.params) (drop (length f.params) (kinds p front f)) (parameters_parts p.names f.params named.params) (omega (arith, a, b, c, few))
      (omega (arith, a, b, c, d, few))
      (above_globals p)
