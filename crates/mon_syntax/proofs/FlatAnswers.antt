-- The field `act` at questions about memory: they change nothing, and their answers stand for each other.
use Rattle.std.proofs.Common.{◌≡◌, ℕ, ℤ, Bool, List, [], ◌∷◌, sym, ap, ap₂, ◌∙◌, subst}
use Rattle.c_model.specs.Integers.{truth}
use Rattle.c_model.specs.Memory.{Pointer, Value, Integer, Points, Store}
use Rattle.mon_syntax.specs.declared.tree.AccessSize.{AccessSize}
use Rattle.mon_syntax.specs.Arithmetic.{access_bytes}
use Rattle.mon_syntax.specs.Flat.{Flat, flat_separated}
use Rattle.mon_syntax.specs.FlatMemory as flat
use Rattle.mon_syntax.specs.FlatMemory.{pointer_in}
use Rattle.mon_syntax.specs.BlockMemory as blocks
use Rattle.mon_syntax.specs.BlockMemory.{Blocks}
use Rattle.c_model.specs.MemoryQuestions.{Address, address_of, address_farther, are_separated}
use Rattle.mon_syntax.specs.Following.{AllKept, Replied}
use Rattle.mon_syntax.specs.FlatRelation.{World, Later, SamePointer, Same, Holds}
use Rattle.mon_syntax.proofs.FlatWorlds.{later_refl}
use Rattle.mon_syntax.proofs.FlatAddresses.{pointer_is}
use Rattle.mon_syntax.proofs.FlatQuestions.{separated_alike}

-- the number that a pointer's value is
number_in_value : (w : World) (p : Pointer) (b : ℤ) (s : Same w (Points p) b) → s.0 ≡ pointer_in b
number_in_value w p b s = sym (ap pointer_in s.1 ∙ pointer_is w p s.0 s.2)

module _ (w : World) (asked : Store → Address → ℤ → ℕ → Bool) (flat_asked : Flat → ℕ → ℤ → ℤ → ℕ → Bool)
    (alike : (m : Blocks) (f : Flat) (o : ℤ) → Holds w m f → (p : Pointer) (x : ℕ) → SamePointer w p x → (n : ℤ) (a : ℕ)
    → asked m.store (address_farther (address_of p) o) n a ≡ flat_asked f x o n a) where
  range_answer : (a : ℕ) (p : Pointer) (b o i n k : ℤ) (m : Blocks) (f : Flat) → Same w (Points p) b → o ≡ i → n ≡ k → Holds w m f
      → truth (asked m.store (address_farther (address_of p) o) n a) ≡ truth (flat_asked f (pointer_in b) i k a)
  range_answer a p b o i n k m f s e g h =
      ap truth (alike m f o h p s.0 s.2 n a ∙ ap (λ z. flat_asked f z o n a) (number_in_value w p b s) ∙ ap₂ (λ y z. flat_asked f (pointer_in b) y z a) e g)

  pub range_question_alike : (a : AccessSize) (xs : List Value) (ys : List ℤ) (m : Blocks) (f : Flat) → AllKept (Same w) xs ys → Holds w m f
      → Replied World Later Same Holds w (blocks.range_question asked a xs m) (flat.range_question flat_asked a ys f)
  range_question_alike a (Points p ∷ Integer o ∷ Integer n ∷ []) (b ∷ i ∷ k ∷ []) m f s h =
      (w, later_refl w, range_answer (access_bytes a) p b o i n k m f s.0 s.1.0 s.1.1.0 h, h)
  range_question_alike a (Points p ∷ Integer o ∷ Integer n ∷ []) [] m f s h = absurd s
  range_question_alike a (Points p ∷ Integer o ∷ Integer n ∷ []) (b ∷ []) m f s h = absurd s.1
  range_question_alike a (Points p ∷ Integer o ∷ Integer n ∷ []) (b ∷ i ∷ []) m f s h = absurd s.1.1
  range_question_alike a (Points p ∷ Integer o ∷ Integer n ∷ []) (b ∷ i ∷ k ∷ j ∷ ys) m f s h = absurd s.1.1.1
  range_question_alike a xs ys m f s h = tt

module _ (w : World) (told : Store → Address → Value) (flat_told : Flat → ℕ → ℤ → ℤ)
    (alike : (m : Blocks) (f : Flat) (o : ℤ) → Holds w m f → (p : Pointer) (x : ℕ) → SamePointer w p x → Same w (told m.store (address_farther (address_of p) o)) (flat_told f x o)) where
  place_answer : (p : Pointer) (b o i : ℤ) (m : Blocks) (f : Flat) → Same w (Points p) b → o ≡ i → Holds w m f
      → Same w (told m.store (address_farther (address_of p) o)) (flat_told f (pointer_in b) i)
  place_answer p b o i m f s e h =
      subst (Same w (told m.store (address_farther (address_of p) o))) (ap₂ (flat_told f) (number_in_value w p b s) e) (alike m f o h p s.0 s.2)

  pub place_question_alike : (xs : List Value) (ys : List ℤ) (m : Blocks) (f : Flat) → AllKept (Same w) xs ys → Holds w m f
      → Replied World Later Same Holds w (blocks.place_question told xs m) (flat.place_question flat_told ys f)
  place_question_alike (Points p ∷ Integer o ∷ []) (b ∷ i ∷ []) m f s h = (w, later_refl w, place_answer p b o i m f s.0 s.1.0 h, h)
  place_question_alike (Points p ∷ Integer o ∷ []) [] m f s h = absurd s
  place_question_alike (Points p ∷ Integer o ∷ []) (b ∷ []) m f s h = absurd s.1
  place_question_alike (Points p ∷ Integer o ∷ []) (b ∷ i ∷ j ∷ ys) m f s h = absurd s.1.1
  place_question_alike xs ys m f s h = tt

separated_answer : (w : World) (p q : Pointer) (b c o i n k u v l j : ℤ) → Same w (Points p) b → o ≡ i → n ≡ k → Same w (Points q) c → u ≡ v → l ≡ j
    → truth (are_separated (address_farther (address_of p) o) n (address_farther (address_of q) u) l) ≡ truth (flat_separated (pointer_in b) i k (pointer_in c) v j)
separated_answer w p q b c o i n k u v l j s e g t d a =
    ap truth (separated_alike w p q s.0 t.0 o u s.2 t.2 n l ∙ ap₂ (λ y z. flat_separated y o n z u l) (number_in_value w p b s) (number_in_value w q c t)
    ∙ ap₂ (λ y z. flat_separated (pointer_in b) y z (pointer_in c) u l) e g ∙ ap₂ (λ y z. flat_separated (pointer_in b) i k (pointer_in c) y z) d a)

pub separated_question_alike : (w : World) (xs : List Value) (ys : List ℤ) (m : Blocks) (f : Flat) → AllKept (Same w) xs ys → Holds w m f
    → Replied World Later Same Holds w (blocks.separated_question xs m) (flat.separated_question ys f)
separated_question_alike w (Points p ∷ Integer o ∷ Integer n ∷ Points q ∷ Integer u ∷ Integer l ∷ []) (b ∷ i ∷ k ∷ c ∷ v ∷ j ∷ []) m f s h =
    (w, later_refl w, separated_answer w p q b c o i n k u v l j s.0 s.1.0 s.1.1.0 s.1.1.1.0 s.1.1.1.1.0 s.1.1.1.1.1.0, h)
separated_question_alike w (Points p ∷ Integer o ∷ Integer n ∷ Points q ∷ Integer u ∷ Integer l ∷ []) [] m f s h = absurd s
separated_question_alike w (Points p ∷ Integer o ∷ Integer n ∷ Points q ∷ Integer u ∷ Integer l ∷ []) (b ∷ []) m f s h = absurd s.1
separated_question_alike w (Points p ∷ Integer o ∷ Integer n ∷ Points q ∷ Integer u ∷ Integer l ∷ []) (b ∷ i ∷ []) m f s h = absurd s.1.1
separated_question_alike w (Points p ∷ Integer o ∷ Integer n ∷ Points q ∷ Integer u ∷ Integer l ∷ []) (b ∷ i ∷ k ∷ []) m f s h = absurd s.1.1.1
separated_question_alike w (Points p ∷ Integer o ∷ Integer n ∷ Points q ∷ Integer u ∷ Integer l ∷ []) (b ∷ i ∷ k ∷ c ∷ []) m f s h = absurd s.1.1.1.1
separated_question_alike w (Points p ∷ Integer o ∷ Integer n ∷ Points q ∷ Integer u ∷ Integer l ∷ []) (b ∷ i ∷ k ∷ c ∷ v ∷ []) m f s h = absurd s.1.1.1.1.1
separated_question_alike w (Points p ∷ Integer o ∷ Integer n ∷ Points q ∷ Integer u ∷ Integer l ∷ []) (b ∷ i ∷ k ∷ c ∷ v ∷ j ∷ g ∷ ys) m f s h = absurd s.1.1.1.1.1.1
separated_question_alike w xs ys m f s h = tt
