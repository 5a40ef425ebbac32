-- What the rules of a grammar are made of. A rule says which symbols spell which value: tokens of a
-- program, or bytes of a text.
use Rattle.std.specs.Prelude.{◌≡◌, ◌⊎◌, ◌<◌, Bool, true, ℕ, zero, suc, List, [], ◌∷◌, ◌++◌, Option, Some, None, if◌then◌else◌}
use Rattle.std.specs.declared.ops.ControlFlow.{ControlFlow}
use Rattle.std.specs.declared.ops.ControlFlow.TheVariants.{Continue, Break}

abbrev pub Rule : Type 0 → Type 0 → Type 1
Rule T A = List T → A → Type 0

-- the first symbol, where there is one
abbrev pub head : {T : Type 0} → List T → Option T
head [] = None
head (t ∷ ts) = Some t

-- one after the other, where the second may depend on the value of the first
pub record Joined {T A B : Type 0} (first : Rule T A) (second : A → Rule T B) (text : List T)
    (b : B) : Type 0 where
  pub front : List T
  pub back : List T
  pub value : A
  pub split : text ≡ front ++ back
  pub one : first front value
  pub other : second value back b

infixl 10 ◌>>=◌
abbrev pub ◌>>=◌ : {T A B : Type 0} → Rule T A → (A → Rule T B) → Rule T B
first >>= second = Joined first second

infixl 10 ◌>>◌
abbrev pub ◌>>◌ : {T A B : Type 0} → Rule T A → Rule T B → Rule T B
first >> second = Joined first (λ _. second)

-- one or the other
infixr 9 ◌or◌
abbrev pub ◌or◌ : {T A : Type 0} → Rule T A → Rule T A → Rule T A
(first or second) text a = first text a ⊎ second text a

-- no symbol, for this value
pub record Gives {T A : Type 0} (value : A) (text : List T) (a : A) : Type 0 where
  pub empty : text ≡ []
  pub same : a ≡ value

-- the rule, for a value that is made of its value
abbrev pub Made : {T A B : Type 0} → Rule T A → (A → B) → Rule T B
Made rule f = Joined rule (λ a. Gives (f a))

-- one symbol, by what it is worth
pub record One {T A : Type 0} (worth : T → Option A) (text : List T) (a : A) : Type 0 where
  pub symbol : T
  pub alone : text ≡ symbol ∷ []
  pub is_worth : worth symbol ≡ Some a

-- a symbol that passes a test, as itself
abbrev pub passing : {T : Type 0} → (T → Bool) → T → Option T
passing test t = if test t then Some t else None

-- a value that passes a test
pub record Tested {T A : Type 0} (rule : Rule T A) (test : A → Bool) (text : List T) (a : A)
    : Type 0 where
  pub spelled : rule text a
  pub passes : test a ≡ true

-- the rule where the condition holds, else nothing
pub record When {T A : Type 0} (condition : Bool) (rule : Rule T A) (text : List T) (a : A)
    : Type 0 where
  pub holds : condition ≡ true
  pub spelled : rule text a

-- the rule where a level of nesting is left, else nothing
pub record Nests {T A : Type 0} (level : ℕ) (rule : Rule T A) (text : List T) (a : A)
    : Type 0 where
  pub some : 0 < level
  pub spelled : rule text a

-- so many pieces, each from the value of the last, and then an end
abbrev pub Chain : {T A B : Type 0} → (A → Rule T A) → (A → Rule T B) → ℕ → A → Rule T B
Chain piece end zero a = end a
Chain piece end (suc count) a = Joined (piece a) (Chain piece end count)

-- any number of pieces, each from the value of the last, and then an end
pub record Closed {T A B : Type 0} (piece : A → Rule T A) (end : A → Rule T B) (a : A)
    (text : List T) (b : B) : Type 0 where
  pub count : ℕ
  pub chain : Chain piece end count a text b

-- any number of them
abbrev pub Many : {T A : Type 0} → Rule T A → Rule T (List A)
Many rule = Closed (λ all. Made rule (λ a. all ++ a ∷ [])) (λ all. Gives all) []

-- it or nothing
abbrev pub Perhaps : {T A : Type 0} → Rule T A → Rule T (Option A)
Perhaps rule = Made rule Some or Gives None

-- the next piece, or the end, told apart
abbrev pub Step : {T A B : Type 0} → (A → Rule T A) → (A → Rule T B) → A
    → Rule T (ControlFlow B A)
Step piece end a = Made (end a) Break or Made (piece a) Continue
