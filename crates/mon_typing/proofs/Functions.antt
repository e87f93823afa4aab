-- The registers of a function, and a function from its parts.
use Rattle.std.proofs.Common.{◌≡◌, ℕ, ◌+◌, ◌<◌, Bool, true, false, not, ◌&&◌, cond, List, [], ◌∷◌, ◌++◌, length, drop, get_or, map, nat_eq, Ok, Err, refl, sym, ap, ◌∙◌, append_assoc, drop-cons, add-one}
use Rattle.std.proofs.lemmas.List.{append-nil, map-append}
use Rattle.std.proofs.Math.Seq.{drop-append_seam}
use Rattle.indexmap.specs.IndexMap.{insert_entry}
use Rattle.mon_syntax.specs.declared.tree.MonType.{MonType}
use Rattle.mon_syntax.specs.declared.tree.MonType.TheVariants.{I8}
use Rattle.mon_syntax.specs.declared.tree.Register.{Register}
use Rattle.mon_syntax.specs.Trees as tree
use Rattle.mon_syntax.specs.Trees.{MonRegister, MonStatements}
use Rattle.mon_syntax.specs.Parsed as plain
use Rattle.mon_syntax.specs.Grammar.{Vocabulary}
use Rattle.mon_syntax.specs.Checking.{Header, Checked, ◌>>=◌, name_fault, is_new, checked_registers, named_register, word_bytes, scope_of, function_of, checked_statements, checked_function}
use Rattle.mon_parser.specs.declared.parsed.ParsedRegister.{ParsedRegister}
use Rattle.mon_parser.specs.ParsedTrees.{plain_register}
use Rattle.mon_typing.specs.declared.fault.CheckFault.{CheckFault}
use Rattle.mon_typing.specs.Answers.{Fails}
use Rattle.mon_typing.specs.Functions.{registers_of, body_of, named_function}
use Rattle.mon_typing.specs.Scopes.{numbered, is_new_register}
use Rattle.mon_typing.proofs.Parts.{fails_after}
use Rattle.mon_typing.proofs.Registers.{insert_new}

abbrev Registers : Type 0
Registers = List (ℕ × MonType)

-- what stands past the end of a list of registers
abbrev pub no_register : ParsedRegister
no_register = record { kind = I8; name = record { place = record { line = 0; column = 0; offset = 0 }; number = 0 } }

at_next : (rs : List ParsedRegister) (i : ℕ) (d : ParsedRegister) → i < length rs → drop i rs ≡ get_or rs i d ∷ drop (i + 1) rs
at_next rs i d lt = rw add-one (drop-cons rs i d lt)

not_known : (free any : Bool) → (free && not any) ≡ true → any ≡ false
not_known true true h = absurd cc
not_known true false h = refl
not_known false any h = absurd cc

-- the registers, from one of them on
from : Vocabulary → List ℕ → Registers → plain.ParsedRegister → List plain.ParsedRegister → Bool → Checked Registers
from ws globals known r rs b = cond b (checked_registers ws globals (known ++ (r.name.number, r.kind) ∷ []) rs) (name_fault r.name.place)

pub next_register : (ws : Vocabulary) (globals : List ℕ) (rs : List ParsedRegister) (i : ℕ) (d : ParsedRegister) (known more : Registers) (total : Checked Registers)
    → i < length rs → is_new_register ws globals known (get_or rs i d).name.number ≡ true
    → more ≡ insert_entry nat_eq known (get_or rs i d).name.number (get_or rs i d).kind → checked_registers ws globals known (map plain_register (drop i rs)) ≡ total → checked_registers ws globals more (map plain_register (drop (i + 1) rs)) ≡ total
unfolding from
next_register ws globals rs i d known more total lt new is so_far =
    let r : ParsedRegister = get_or rs i d in
    let rest : List plain.ParsedRegister = map plain_register (drop (i + 1) rs) in
    let last : insert_entry nat_eq known r.name.number r.kind ≡ known ++ (r.name.number, r.kind) ∷ [] = insert_new r.name.number r.kind known (not_known (is_new ws globals r.name.number) _ new) in
    ap (λ (k : Registers). checked_registers ws globals k rest) (is ∙ last) ∙ sym (ap (from ws globals known (plain_register r) rest) new)
    ∙ sym (ap (λ (l : List ParsedRegister). checked_registers ws globals known (map plain_register l)) (at_next rs i d lt)) ∙ so_far

pub register_clashes : (ws : Vocabulary) (globals : List ℕ) (rs : List ParsedRegister) (i : ℕ) (d : ParsedRegister) (known : Registers) (total : Checked Registers) → i < length rs → is_new_register ws globals known (get_or rs i d).name.number ≡ false
    → checked_registers ws globals known (map plain_register (drop i rs)) ≡ total → total ≡ name_fault (get_or rs i d).name.place
unfolding from
register_clashes ws globals rs i d known total lt old so_far =
    let r : ParsedRegister = get_or rs i d in
    let rest : List plain.ParsedRegister = map plain_register (drop (i + 1) rs) in
    sym so_far ∙ ap (λ (l : List ParsedRegister). checked_registers ws globals known (map plain_register l)) (at_next rs i d lt) ∙ ap (from ws globals known (plain_register r) rest) old

pub next_named : (names : List (List ℕ)) (rs : List ParsedRegister) (i : ℕ) (d : ParsedRegister) (done more : List Register) (one : Register) (total : List MonRegister) → i < length rs → more ≡ done ++ one ∷ []
    → tree.plain_register one ≡ named_register names ((get_or rs i d).name.number, (get_or rs i d).kind)
    → map tree.plain_register done ++ map (named_register names) (numbered (map plain_register (drop i rs))) ≡ total → map tree.plain_register more ++ map (named_register names) (numbered (map plain_register (drop (i + 1) rs))) ≡ total
next_named names rs i d done more one total lt is e so_far =
    let rest : List MonRegister = map (named_register names) (numbered (map plain_register (drop (i + 1) rs))) in
    ap (λ (l : List Register). map tree.plain_register l ++ rest) is ∙ ap (λ (l : List MonRegister). l ++ rest) (map-append tree.plain_register done (one ∷ []))
    ∙ append_assoc (map tree.plain_register done) (tree.plain_register one ∷ []) rest ∙ ap (λ (x : MonRegister). map tree.plain_register done ++ (x ∷ rest)) e
    ∙ sym (ap (λ (l : List ParsedRegister). map tree.plain_register done ++ map (named_register names) (numbered (map plain_register l))) (at_next rs i d lt)) ∙ so_far

-- ---- the registers that are known are those of the function

behind_known : (ws : Vocabulary) (globals : List ℕ) (known all : Registers) (r : plain.ParsedRegister) (rs : List plain.ParsedRegister) (b : Bool)
    → (checked_registers ws globals (known ++ (r.name.number, r.kind) ∷ []) rs ≡ Ok all → all ≡ (known ++ (r.name.number, r.kind) ∷ []) ++ numbered rs) → from ws globals known r rs b ≡ Ok all → all ≡ known ++ ((r.name.number, r.kind) ∷ numbered rs)
unfolding from
behind_known ws globals known all r rs true h e = h e ∙ append_assoc known ((r.name.number, r.kind) ∷ []) (numbered rs)
behind_known ws globals known all r rs false h e = absurd cc

pub known_are : (ws : Vocabulary) (globals : List ℕ) (known all : Registers) (rs : List plain.ParsedRegister) → checked_registers ws globals known rs ≡ Ok all → all ≡ known ++ numbered rs
unfolding from
known_are ws globals known all [] e = let f : known ≡ all = cc in sym f ∙ sym (append-nil known)
known_are ws globals known all (r ∷ rs) e = behind_known ws globals known all r rs (is_new_register ws globals known r.name.number) (known_are ws globals (known ++ (r.name.number, r.kind) ∷ []) all rs) e

from_second : {B C D : Type 0} (e : CheckFault) (c : Checked B) (h : B → Checked C) (k : B → C → Checked D) → Fails e (c >>= h) → Fails e (c >>= λ b. h b >>= k b)
from_second e (Ok b) h k f = fails_after e (h b) (k b) f
from_second {B} {C} {D} e (Err x) h k f = fails_after e (Err x) (λ (c : C). Err x) f

body_ok : {A B : Type 0} (c : Checked A) (g : A → Checked B) (y : B) → (c >>= g) ≡ Ok y → (x : A) × (c ≡ Ok x) × (g x ≡ Ok y)
body_ok (Ok x) g y e = (x, refl, e)
body_ok (Err f) g y e = absurd cc

all_fail : {A B C D : Type 0} (e : CheckFault) (c : Checked A) (g : A → Checked B) (h : B → Checked C) (k : A → B → C → Checked D) → Fails e ((c >>= g) >>= h) → Fails e (c >>= λ a. g a >>= λ b. h b >>= k a b)
all_fail {A} {B} {C} {D} e (Ok a) g h k f = from_second e (g a) h (k a) f
all_fail {A} {B} {C} {D} e (Err x) g h k f = fails_after e (Err x) (λ (c : C). Err x) f

module _ (names : List (List ℕ)) (ws : Vocabulary) (gs : List Header) (globals : List ℕ) (f : plain.ParsedFunction) where
  abbrev statements : Registers → Checked MonStatements
  statements all = checked_statements (scope_of names ws gs globals all) f.result [] f.body

  pub body_fails : (e : CheckFault) → Fails e (body_of names ws gs globals f) → Fails e (checked_function names ws gs globals f)
  body_fails e k = all_fail e (checked_registers ws globals [] f.parameters) (λ ps. checked_registers ws globals ps f.registers) statements (λ ps rs body. Ok (function_of names f ps rs body)) k

  pub function_checked : (body : MonStatements) → body_of names ws gs globals f ≡ Ok body → checked_function names ws gs globals f ≡ Ok (named_function names f body)
  function_checked body h =
      let s = body_ok (registers_of ws globals f) statements body h in
      let all = s.0 in
      let b = body_ok (checked_registers ws globals [] f.parameters) (λ ps. checked_registers ws globals ps f.registers) all s.1 in
      let first : b.0 ≡ numbered f.parameters = known_are ws globals [] b.0 f.parameters b.1 in
      let second : drop (length b.0) all ≡ numbered f.registers = ap (drop (length b.0)) (known_are ws globals b.0 all f.registers b.2) ∙ drop-append_seam b.0 (numbered f.registers) in
      (λ i. b.1 i >>= λ ps. checked_registers ws globals ps f.registers >>= λ rs. statements rs >>= λ body. Ok (function_of names f ps rs body))
      ∙ (λ i. b.2 i >>= λ rs. statements rs >>= λ body. Ok (function_of names f b.0 rs body))
      ∙ ap (λ (c : Checked MonStatements). c >>= λ body. Ok (function_of names f b.0 all body)) s.2
      ∙ (λ i. Ok (record { result = f.result; name = word_bytes names f.name.number; parameters = map (named_register names) (first i); registers = map (named_register names) (second i); body = body }))
