-- Names by number: of registers, over the parameters and the others, of globals, and of functions.
use Rattle.std.proofs.Common.{◌≡◌, ℕ, true, false, ltb, ◌-◌, ◌<◌, ◌≤◌, List, [], ◌++◌, length, map, get_or, sym, ap, ◌∙◌, arith, subst, length-append}
use Rattle.std.proofs.Math.Dec.{nltb→le, ltb→lt}
use Rattle.std.specs.Prelude.{T, not}
use Rattle.std.specs.Prelude.{option_map, slice_get}
use Rattle.std.proofs.Math.Seq.{get_or-append_right}
use Rattle.std.proofs.lemmas.Option.{slice_get_past, slice_get-get_or, slice_get-map}
use Rattle.mon_syntax.specs.declared.tree.Register.{Register}
use Rattle.mon_syntax.specs.declared.tree.MonFunc.{MonFunc}
use Rattle.mon_syntax.specs.declared.tree.MonGlobal.{MonGlobal}
use Rattle.mon_syntax.specs.Trees.{MonFunction, plain_func, plain_global, plain_register}
use Rattle.mon_syntax.specs.Text.{bytes_or_none, function_name, global_or_none, name_or_none}
use Rattle.c_printer.specs.Sight.{names_of}

pub name_behind : (ps rs : List Register) (r : ℕ) (x : Register) → false ≡ ltb r (length ps) → true ≡ ltb (r - length ps) (length rs) → x ≡ get_or rs (r - length ps) x → x.name ≡ name_or_none (slice_get (map plain_register (ps ++ rs)) r)
name_behind ps rs r x past_first in_second same =
    let behind : length ps ≤ r = nltb→le r (length ps) (subst (λ b. T (not b)) past_first tt) in
    let within : r - length ps < length rs = ltb→lt (r - length ps) (length rs) (subst T in_second tt) in
    let inside : r < length (ps ++ rs) = omega (arith, length-append ps rs, behind, within) in
    ap (λ y. y.name) (same ∙ sym (get_or-append_right ps rs r x behind)) ∙ ap (λ o. name_or_none (option_map plain_register o)) (sym (slice_get-get_or (ps ++ rs) r x inside)) ∙ ap name_or_none (sym (slice_get-map plain_register (ps ++ rs) r))

pub name_past : (ps rs : List Register) (r : ℕ) → false ≡ ltb r (length ps) → false ≡ ltb (r - length ps) (length rs) → [] ≡ name_or_none (slice_get (map plain_register (ps ++ rs)) r)
name_past ps rs r past_first past_second =
    let behind : length ps ≤ r = nltb→le r (length ps) (subst (λ b. T (not b)) past_first tt) in
    let past : length rs ≤ r - length ps = nltb→le (r - length ps) (length rs) (subst (λ b. T (not b)) past_second tt) in
    let outside : length (ps ++ rs) ≤ r = omega (arith, length-append ps rs, behind, past) in
    ap (λ o. name_or_none (option_map plain_register o)) (sym (slice_get_past (ps ++ rs) r outside)) ∙ ap name_or_none (sym (slice_get-map plain_register (ps ++ rs) r))

pub global_within : (gs : List MonGlobal) (k : ℕ) (x : MonGlobal) → true ≡ ltb k (length gs) → x ≡ get_or gs k x → x.name ≡ global_or_none (slice_get (map plain_global gs) k)
global_within gs k x in_list same =
    let within : k < length gs = ltb→lt k (length gs) (subst T in_list tt) in
    ap (λ y. y.name) same ∙ ap (λ o. global_or_none (option_map plain_global o)) (sym (slice_get-get_or gs k x within)) ∙ ap global_or_none (sym (slice_get-map plain_global gs k))

pub global_past : (gs : List MonGlobal) (k : ℕ) → false ≡ ltb k (length gs) → [] ≡ global_or_none (slice_get (map plain_global gs) k)
global_past gs k past =
    let outside : length gs ≤ k = nltb→le k (length gs) (subst (λ b. T (not b)) past tt) in
    ap (λ o. global_or_none (option_map plain_global o)) (sym (slice_get_past gs k outside)) ∙ ap global_or_none (sym (slice_get-map plain_global gs k))

abbrev named : MonFunction → List ℕ
named f = f.name

name_at : (fs : List MonFunc) (k : ℕ) → function_name (names_of fs) k ≡ bytes_or_none (option_map named (option_map plain_func (slice_get fs k)))
name_at fs k = ap bytes_or_none (slice_get-map named (map plain_func fs) k ∙ ap (option_map named) (slice_get-map plain_func fs k))

pub function_within : (fs : List MonFunc) (k : ℕ) (x : MonFunc) → true ≡ ltb k (length fs) → x ≡ get_or fs k x → x.name ≡ function_name (names_of fs) k
function_within fs k x in_list same =
    let within : k < length fs = ltb→lt k (length fs) (subst T in_list tt) in
    ap (λ y. y.name) same ∙ ap (λ o. bytes_or_none (option_map named (option_map plain_func o))) (sym (slice_get-get_or fs k x within)) ∙ sym (name_at fs k)

pub function_past : (fs : List MonFunc) (k : ℕ) → false ≡ ltb k (length fs) → [] ≡ function_name (names_of fs) k
function_past fs k past =
    let outside : length fs ≤ k = nltb→le k (length fs) (subst (λ b. T (not b)) past tt) in
    ap (λ o. bytes_or_none (option_map named (option_map plain_func o))) (sym (slice_get_past fs k outside)) ∙ sym (name_at fs k)
