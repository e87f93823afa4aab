-- The lines that are put together by pieces.
use Rattle.std.proofs.Common.{◌≡◌, ℕ, List, [], ◌∷◌, ◌++◌, ap, ◌∙◌, append_assoc, codes}
use Rattle.c_model.specs.Reports.{line_of}

pub refused_joined : (code line column word : List ℕ) {text front front' all all' : List ℕ} → text ≡ codes "eacsl: refused E" ++ (code ++ (codes " at " ++ (line ++ (codes ":" ++ (column ++ codes ": "))))) → front ≡ text → front' ≡ front
    → all ≡ front' ++ word → all' ≡ all ++ 10 ∷ [] → all' ≡ line_of (codes "refused E" ++ (code ++ (codes " at " ++ (line ++ (codes ":" ++ (column ++ (codes ": " ++ word)))))))
refused_joined code line column word e1 e2 e3 e4 e5 = e5 ∙ ap (λ l. l ++ 10 ∷ []) (e4 ∙ ap (λ l. l ++ word) (e3 ∙ e2 ∙ e1)) ∙ regroup
  where
    regroup : ((codes "eacsl: refused E" ++ (code ++ (codes " at " ++ (line ++ (codes ":" ++ (column ++ codes ": ")))))) ++ word) ++ 10 ∷ [] ≡ line_of
        (codes "refused E" ++ (code ++ (codes " at " ++ (line ++ (codes ":" ++ (column ++ (codes ": " ++ word)))))))
    regroup = simp append_assoc

pub broken_joined : (number line kind how : List ℕ) {text front front' one two three all : List ℕ} → text ≡ codes "eacsl: annotation " ++ (number ++ (codes ", line " ++ (line ++ codes ": "))) → front ≡ text → front' ≡ front → one ≡ front' ++ kind
    → two ≡ one ++ codes " is " → three ≡ two ++ how → all ≡ three ++ 10 ∷ [] → all ≡ line_of (codes "annotation " ++ (number ++ (codes ", line " ++ (line ++ (codes ": " ++ (kind ++ (codes " is " ++ how)))))))
broken_joined number line kind how e1 e2 e3 e4 e5 e6 e7 = e7 ∙ ap (λ l. l ++ 10 ∷ []) (e6 ∙ ap (λ l. l ++ how) (e5 ∙ ap (λ l. l ++ codes " is ") (e4 ∙ ap (λ l. l ++ kind) (e3 ∙ e2 ∙ e1)))) ∙ regroup
  where
    regroup : ((((codes "eacsl: annotation " ++ (number ++ (codes ", line " ++ (line ++ codes ": ")))) ++ kind) ++ codes " is ") ++ how) ++ 10 ∷ [] ≡ line_of
        (codes "annotation " ++ (number ++ (codes ", line " ++ (line ++ (codes ": " ++ (kind ++ (codes " is " ++ how)))))))
    regroup = simp append_assoc
