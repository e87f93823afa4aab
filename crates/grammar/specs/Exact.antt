-- Ours: the words in which each parser is proved.
-- What it means that a production is read exactly, and what follows for its answers.
use Rattle.std.specs.Prelude.{◌≡◌, ℕ, suc, List, [], ◌∷◌, ◌++◌, length, Result, Ok, Err, ◌<◌, ◌≤◌, ◌⊎◌, Bool, true, false}
use Rattle.grammar.specs.Syntax.{Syntax, ParseFault, At, Over, among, sees}

-- both are at their end, or go on with the same token
abbrev pub SameHead : {T : Type 0} → List T → List T → Type 0
SameHead [] [] = Unit {0}
SameHead [] (u ∷ us) = ⊥
SameHead (t ∷ ts) [] = ⊥
SameHead (t ∷ ts) (u ∷ us) = t ≡ u

-- p read x and left rest: its tokens are a reading, and p saw no more than one token after them
pub record Takes {T A : Type 0} (p : List T → Result (A × List T) ParseFault) (R : List T → A → Type 0) (ts : List T) (x : A) (rest : List T) : Type 0 where
  pub front : List T
  pub parts : ts ≡ front ++ rest
  pub is : R front x
  pub local : (u : List T) → SameHead rest u → p (front ++ u) ≡ Ok (x, u)

-- p stopped with n tokens left: those before are begun, and p saw no more than one token after them
pub record Fails {T A : Type 0} (p : List T → Result (A × List T) ParseFault) (B : List T → Type 0) (ts : List T) (n : ℕ) : Type 0 where
  pub front : List T
  pub rest : List T
  pub parts : ts ≡ front ++ rest
  pub left : n ≡ length rest
  pub is : B front
  pub local : (u : List T) → SameHead rest u → p (front ++ u) ≡ Err (At (length u))

-- p stopped at the limit with this label with n tokens left: the first of them is late, whatever comes after it
pub record Overs {T A : Type 0} (p : List T → Result (A × List T) ParseFault) (L : ℕ → List T → T → Type 0) (ts : List T) (label n : ℕ) : Type 0 where
  pub front : List T
  pub token : T
  pub rest : List T
  pub parts : ts ≡ front ++ (token ∷ rest)
  pub left : n ≡ suc (length rest)
  pub is : L label front token
  pub local : (u : List T) → p (front ++ (token ∷ u)) ≡ Err (Over label (suc (length u)))

-- all tokens were taken, more were wanted, or a limit was passed
abbrev pub RunsOut : {T A : Type 0} → Result (A × List T) ParseFault → Type 0
RunsOut (Ok x) = x.1 ≡ []
RunsOut (Err (At n)) = n ≡ 0
RunsOut (Err (Over i n)) = Unit {0}

-- a limit is passed with at least m tokens left
pub record Late {T A : Type 0} (r : Result (A × List T) ParseFault) (m : ℕ) : Type 0 where
  pub label : ℕ
  pub left : ℕ
  pub enough : m ≤ left
  pub is : r ≡ Err (Over label left)

-- G is read exactly, where K is the kind of a token.
-- null: no token can be a reading; first: the kinds that can begin a reading (the first set);
-- more x: the kinds with which a complete reading of the value x can go on (against the follow set)
pub record IsExact {T : Type 0} (K : T → ℕ) {A : Type 0} (G : Syntax T A) (null : Bool) (first : List ℕ) (more : A → List ℕ) : Type 0 where
  pub takes : (ts : List T) (x : A) (rest : List T) → G.parse ts ≡ Ok (x, rest) → Takes G.parse G.reads ts x rest
  pub fails : (ts : List T) (n : ℕ) → G.parse ts ≡ Err (At n) → Fails G.parse G.begun ts n
  pub overs : (ts : List T) (i n : ℕ) → G.parse ts ≡ Err (Over i n) → Overs G.parse G.late ts i n
  -- a reading is read again, whatever follows that can't go on with it
  pub again : (a : List T) (x : A) (b : List T) → G.reads a x → sees K (more x) b ≡ false
      → (G.parse (a ++ b) ≡ Ok (x, b)) ⊎ Late (G.parse (a ++ b)) (suc (length b))
  -- no late token is read over
  pub lates : (i : ℕ) (a : List T) (t : T) (u : List T) → G.late i a t → Late (G.parse (a ++ (t ∷ u))) (suc (length u))
  -- a late token can follow
  pub late_begins : (i : ℕ) (a : List T) (t : T) → G.late i a t → G.begun (a ++ (t ∷ []))
  pub runs : (a : List T) → G.begun a → RunsOut (G.parse a)
  pub begins : (a : List T) (x : A) → G.reads a x → G.begun a
  pub fronts : (a b : List T) → G.begun (a ++ b) → G.begun a
  pub empty : G.begun []
  pub starts : (t : T) (ts : List T) → G.begun (t ∷ ts) → among (K t) first ≡ true
  pub filled : (x : A) → G.reads [] x → null ≡ true
  -- tokens are a reading with one value at most
  pub single : (a : List T) (x y : A) → G.reads a x → G.reads a y → x ≡ y
  -- what goes on after a complete reading is a token of the kinds that its value can go on with
  pub goes_on : (a : List T) (x : A) (t : T) (u : List T) → G.reads a x → G.begun (a ++ (t ∷ u)) → among (K t) (more x) ≡ true
  -- no token passes two limits
  pub one_limit : (i j : ℕ) (a : List T) (t : T) → G.late i a t → G.late j a t → i ≡ j

-- Both are exact, H reads, begins and limits what G does, and on texts below n tokens they are the same.
pub record IsGood {T : Type 0} (K : T → ℕ) {A : Type 0} (n : ℕ) (G H : Syntax T A) (null : Bool) (first : List ℕ) (more : A → List ℕ) : Type 0 where
  pub here : IsExact K G null first more
  pub there : IsExact K H null first more
  pub reads : (a : List T) (x : A) → G.reads a x → H.reads a x
  pub begun : (a : List T) → G.begun a → H.begun a
  pub late : (i : ℕ) (a : List T) (t : T) → G.late i a t → H.late i a t
  pub agree : (ts : List T) → length ts < n → G.parse ts ≡ H.parse ts
  pub reads_back : (a : List T) (x : A) → length a < n → H.reads a x → G.reads a x
  pub begun_back : (a : List T) → length a < n → H.begun a → G.begun a
  pub late_back : (i : ℕ) (a : List T) (t : T) → suc (length a) < n → H.late i a t → G.late i a t

-- ---- what answers mean, in the words of the grammar

-- no token of the text passes a limit
abbrev pub WithinLimits : {T A : Type 0} → Syntax T A → List T → Type 0
WithinLimits {T} G ts = (i : ℕ) (front : List T) (t : T) (rest : List T) → ts ≡ front ++ (t ∷ rest) → G.late i front t → ⊥

-- The whole text is a reading with the value x, and passes no limit.
pub record Accepts {T A : Type 0} (G : Syntax T A) (ts : List T) (x : A) : Type 0 where
  pub reading : G.reads ts x
  pub within : (i : ℕ) (front : List T) (t : T) (rest : List T) → ts ≡ front ++ (t ∷ rest) → G.late i front t → ⊥

-- The tokens before the place begin the production, and with the token at the place they don't.
pub record StopsAt {T A : Type 0} (G : Syntax T A) (text front rest : List T) : Type 0 where
  pub parts : text ≡ front ++ rest
  pub begun : G.begun front
  pub ended : (t : T) (ts : List T) → rest ≡ t ∷ ts → G.begun (front ++ (t ∷ [])) → ⊥

-- The longest run of tokens that begins the production is this reading of it, and no limit is passed.
pub record Found {T A : Type 0} (G : Syntax T A) (text : List T) (x : A) (rest : List T) : Type 0 where
  pub front : List T
  pub reading : G.reads front x
  pub longest : StopsAt G text front rest
  pub within : WithinLimits G text

-- The token with left tokens from it on can't follow those before it, and no limit is passed.
pub record RefusedAt {T A : Type 0} (G : Syntax T A) (text : List T) (left : ℕ) : Type 0 where
  pub front : List T
  pub rest : List T
  pub longest : StopsAt G text front rest
  pub place : left ≡ length rest
  pub within : WithinLimits G text

-- The same, and the tokens before that one are no reading.
pub record Unread {T A : Type 0} (G : Syntax T A) (text : List T) (left : ℕ) : Type 0 where
  pub refused : RefusedAt G text left
  pub unread : (x : A) → G.reads refused.front x → ⊥

-- The token with left tokens from it on can follow those before it, passes the limit with this label, and is the first that passes any.
pub record RefusedOver {T A : Type 0} (G : Syntax T A) (text : List T) (label left : ℕ) : Type 0 where
  pub front : List T
  pub token : T
  pub rest : List T
  pub parts : text ≡ front ++ (token ∷ rest)
  pub place : left ≡ suc (length rest)
  pub late : G.late label front token
  pub begun : G.begun (front ++ (token ∷ []))
  pub first : (i : ℕ) (a : List T) (t : T) (u : List T) → text ≡ a ++ (t ∷ u) → G.late i a t → length front ≤ length a

abbrev pub Refused : {T A : Type 0} → Syntax T A → List T → ParseFault → Type 0
Refused G text (At n) = RefusedAt G text n
Refused G text (Over i n) = RefusedOver G text i n

-- a text is accepted with one value at most
abbrev pub AtMostOne : {T A : Type 0} → Syntax T A → Type 0
AtMostOne {T} {A} G = (ts : List T) (x y : A) → Accepts G ts x → Accepts G ts y → x ≡ y

-- what begins a run that begins the production begins it too
abbrev pub FrontsBegin : {T A : Type 0} → Syntax T A → Type 0
FrontsBegin {T} G = (a b : List T) → G.begun (a ++ b) → G.begun a

-- every reading begins the production
abbrev pub ReadingsBegin : {T A : Type 0} → Syntax T A → Type 0
ReadingsBegin {T} {A} G = (a : List T) (x : A) → G.reads a x → G.begun a

-- what is accepted is what is read to the end
abbrev pub ReadsAccepted : {T A : Type 0} → Syntax T A → Type 0
ReadsAccepted {T} {A} G = (ts : List T) (x : A) → Accepts G ts x → G.parse ts ≡ Ok (x, [])

abbrev pub AcceptsRead : {T A : Type 0} → Syntax T A → Type 0
AcceptsRead {T} {A} G = (ts : List T) (x : A) → G.parse ts ≡ Ok (x, []) → Accepts G ts x

-- no token passes two limits
abbrev pub OneLimit : {T A : Type 0} → Syntax T A → Type 0
OneLimit {T} G = (i j : ℕ) (a : List T) (t : T) → G.late i a t → G.late j a t → i ≡ j

-- The same readings, begun by the same tokens and with the same limits, however they are read.
pub record Same {T A : Type 0} (G H : Syntax T A) : Type 0 where
  pub reads : (a : List T) (x : A) → G.reads a x → H.reads a x
  pub reads_back : (a : List T) (x : A) → H.reads a x → G.reads a x
  pub begun : (a : List T) → G.begun a → H.begun a
  pub begun_back : (a : List T) → H.begun a → G.begun a
  pub late : (i : ℕ) (a : List T) (t : T) → G.late i a t → H.late i a t
  pub late_back : (i : ℕ) (a : List T) (t : T) → H.late i a t → G.late i a t
