-- What the writer of code needs of the definitions.
use Rattle.std.proofs.Common.{◌≡◌, ℕ, ◌+◌, ◌-◌, List, [], ◌∷◌, ◌++◌, length, sym, ap, ◌∙◌, arith, append_assoc, length-append}
use Rattle.mon_syntax.specs.Trees.{MonExpression, MonStatement, MonStatements, If, Loop}
use Rattle.c_lower.specs.declared.code.Instr.{Instr}
use Rattle.c_lower.specs.declared.code.Instr.TheVariants as instr
use Rattle.c_lower.specs.Code.{OpenLabel, expression_code, choice_code, statement_code, statements_code}

-- a statement's code before other code
abbrev pub in_front : MonStatement → List OpenLabel → List Instr → List Instr
in_front a ls old = statement_code a (length old) ls ++ old

choice_flat : (ce ca cb old : List Instr)
    → ce ++ (instr.SkipIfZero (length ca + 1) ∷ (ca ++ (instr.GoOn (length cb) ∷ (cb ++ old)))) ≡ choice_code ce ca cb ++ old
choice_flat ce ca cb old = sym (simp append_assoc)

-- the second branch, the jump after it, the first branch, and the test
pub if_written : (e : MonExpression) (a b : MonStatements) (ls : List OpenLabel) (old c1 c2 c3 : List Instr) (n0 n2 : ℕ) → n0 ≡ length old
    → c1 ≡ statements_code b (length old) ls ++ old → c2 ≡ instr.GoOn (length c1 - n0) ∷ c1 → n2 ≡ length c2
    → c3 ≡ statements_code a (length c2) ls ++ c2
    → expression_code e ++ instr.SkipIfZero (length c3 - n2 + 1) ∷ c3 ≡ in_front (If e a b) ls old
if_written e a b ls old c1 c2 c3 n0 n2 m0 e1 e2 m2 e3 =
    let ce = expression_code e in
    let cb = statements_code b (length old) ls in
    let l1 = ap length e1 ∙ length-append cb old in
    let d1 : length c1 - n0 ≡ length cb = omega (arith, l1, m0) in
    let f2 : c2 ≡ instr.GoOn (length cb) ∷ (cb ++ old) = e2 ∙ ap (λ n. instr.GoOn n ∷ c1) d1 ∙ ap (λ l. instr.GoOn (length cb) ∷ l) e1 in
    let l2 : length c2 ≡ 1 + length cb + length old = omega (arith, ap length f2, length-append cb old) in
    let ca = statements_code a (1 + length cb + length old) ls in
    let f3 : c3 ≡ ca ++ c2 = e3 ∙ ap (λ n. statements_code a n ls ++ c2) l2 in
    let l3 = ap length f3 ∙ length-append ca c2 in
    let d3 : length c3 - n2 + 1 ≡ length ca + 1 = omega (arith, l3, m2) in
    ap (λ n. ce ++ instr.SkipIfZero n ∷ c3) d3
    ∙ ap (λ l. ce ++ instr.SkipIfZero (length ca + 1) ∷ l) (f3 ∙ ap (λ l. ca ++ l) f2)
    ∙ choice_flat ce ca cb old

loop_flat : (before behind old : List Instr) (n : ℕ)
    → instr.GoOn (length behind + 1) ∷ (instr.Step ∷ ((behind ++ before) ++ instr.GoBack n ∷ old))
    ≡ (instr.GoOn (length behind + 1) ∷ (instr.Step ∷ (behind ++ (before ++ instr.GoBack n ∷ [])))) ++ old
loop_flat before behind old n = sym (simp append_assoc)

-- the jump back, what stands before the step, and what stands after it; what the step and the first jump make of them
pub loop_written : (a b : MonStatements) (ls : List OpenLabel) (old c1 c2 c3 : List Instr) (n0 n2 : ℕ) → n0 ≡ length old → c1 ≡ instr.GoBack 0 ∷ old
    → c2 ≡ statements_code a (length c1) ls ++ c1 → n2 ≡ length c2 → c3 ≡ statements_code b (length c2) ls ++ c2
    → (front : List Instr) × (c3 ≡ front ++ instr.GoBack 0 ∷ old)
    × (instr.GoOn (length c3 - n2 + 1) ∷ (instr.Step ∷ (front ++ instr.GoBack (length c3 - n0) ∷ old)) ≡ in_front (Loop a b) ls old)
loop_written a b ls old c1 c2 c3 n0 n2 m0 e1 e2 m2 e3 =
    let l1 : length c1 ≡ 1 + length old = omega (arith, ap length e1) in
    let ca = statements_code a (1 + length old) ls in
    let f2 : c2 ≡ ca ++ instr.GoBack 0 ∷ old = e2 ∙ ap (λ n. statements_code a n ls ++ c1) l1 ∙ ap (λ l. ca ++ l) e1 in
    let l2 : length c2 ≡ length ca + 1 + length old = omega (arith, ap length f2, length-append ca (instr.GoBack 0 ∷ old)) in
    let cb = statements_code b (length ca + 1 + length old) ls in
    let f3 : c3 ≡ cb ++ c2 = e3 ∙ ap (λ n. statements_code b n ls ++ c2) l2 in
    let f3' : c3 ≡ (cb ++ ca) ++ instr.GoBack 0 ∷ old = f3 ∙ ap (λ l. cb ++ l) f2 ∙ sym (append_assoc cb ca (instr.GoBack 0 ∷ old)) in
    let l3 = ap length f3 ∙ length-append cb c2 in
    let d3 : length c3 - n2 + 1 ≡ length cb + 1 = omega (arith, l3, m2) in
    let d4 : length c3 - n0 ≡ length cb + length ca + 1 = omega (arith, l3, l2, m0) in (
      cb ++ ca,
      f3',
      ap (λ n. instr.GoOn n ∷ (instr.Step ∷ ((cb ++ ca) ++ instr.GoBack (length c3 - n0) ∷ old))) d3
          ∙ ap (λ n. instr.GoOn (length cb + 1) ∷ (instr.Step ∷ ((cb ++ ca) ++ instr.GoBack n ∷ old))) d4
          ∙ loop_flat ca cb old (length cb + length ca + 1),
    )
