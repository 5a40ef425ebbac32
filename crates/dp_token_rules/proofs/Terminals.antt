-- Sorts of tokens told apart, and a token of each sort.
use denote.RattleType.{RattleType}
use denote.Enum.Enum.{Sum, tag}
use denote.Enum.Declared.{tag_of, variants}
use Rattle.std.specs.List.{list_all}
use Rattle.std.specs.Str.{str_eq_ignore_ascii_case}
use Rattle.std.proofs.Common.{◌≡◌, inl, inr, ℕ, zero, suc, ◌+◌, ◌<◌, Bool, true, false, not, ◌||◌, List, [], ◌∷◌, ◌++◌, map, length, codes, get_or, Some, None, sym, refl, ap, ◌∙◌, cond, eqb-true, arith}
use Rattle.std.proofs.lemmas.List.{get_or-map, get_or-append-add}
use Rattle.std.proofs.lemmas.List.FromFn.{get_or-range_with_len}
use Rattle.dp_lexer.specs.declared.token.Token.{Token}
use Rattle.dp_lexer.specs.declared.token.TokenKind.{TokenKind}
use Rattle.dp_lexer.specs.contracts.token.Word.{the_type}
use Rattle.dp_lexer.specs.declared.token.Word.{Word}
use Rattle.dp_lexer.specs.declared.token.Word.TheVariants as word
use Rattle.dp_token_rules.specs.declared.terminal.Terminal.{Terminal}
use Rattle.dp_token_rules.specs.declared.terminal.Terminal.TheVariants as terminal
use Rattle.dp_token_rules.specs.Terminals.{terminal_of, reserved_terminal, number_of, same_terminal, is, head}
use Rattle.dp_token_rules.specs.Rules.{line_at, Mark}
pub use Rattle.dp_grammar.proofs.Truth.{and_parts, both, not_true, not_false, or_left, or_right, or_false, or_cases}

-- ---- tests

-- what does not pass the weaker test does not pass the test
pub contrary : (a b : Bool) → (a ≡ true → b ≡ true) → b ≡ false → a ≡ false
contrary true b to none = let is : b ≡ true = to refl in absurd (cc)
contrary false b to none = refl

-- tests that rule each other out
pub flip : (s t : Terminal → Bool) → ((x : Terminal) → s x ≡ true → t x ≡ false) → (x : Terminal) → t x ≡ true
    → s x ≡ false
flip s t apart x passes = go (s x) refl
  where
    go : (v : Bool) → s x ≡ v → s x ≡ false
    go true is = let u : t x ≡ false = apart x is in absurd (cc)
    go false is = is

-- ---- sorts, by their numbers

abbrev all_words : List Word
all_words =
    word.Array ∷ word.As ∷ word.Break ∷ word.Continue ∷ word.Die ∷ word.Do ∷ word.Echo ∷ word.Else ∷ word.ElseIf
    ∷ word.Exit ∷ word.False ∷ word.For ∷ word.Foreach ∷ word.Function ∷ word.Global ∷ word.If ∷ word.Include
    ∷ word.Isset ∷ word.Null ∷ word.Require ∷ word.Return ∷ word.True ∷ word.Unset ∷ word.While ∷ word.Identical
    ∷ word.NotIdentical ∷ word.Spaceship ∷ word.CoalesceAssign ∷ word.Equal ∷ word.NotEqual ∷ word.LessOrEqual
    ∷ word.GreaterOrEqual ∷ word.BothOf ∷ word.EitherOf ∷ word.Coalesce ∷ word.Increment ∷ word.Decrement
    ∷ word.AddAssign ∷ word.SubtractAssign ∷ word.MultiplyAssign ∷ word.ConcatAssign ∷ word.RemainderAssign
    ∷ word.Arrow ∷ word.Assign ∷ word.Less ∷ word.Greater ∷ word.Plus ∷ word.Minus ∷ word.Star ∷ word.Percent
    ∷ word.Dot ∷ word.Bang ∷ word.Question ∷ word.Colon ∷ word.Comma ∷ word.Semicolon ∷ word.OpenParenthesis
    ∷ word.CloseParenthesis ∷ word.OpenBracket ∷ word.CloseBracket ∷ word.OpenBrace ∷ word.CloseBrace ∷ []

abbrev plain_terminals : List Terminal
plain_terminals =
    terminal.End ∷ terminal.Variable ∷ terminal.Superglobal ∷ terminal.Name ∷ terminal.Reserved ∷ terminal.Const
    ∷ terminal.Number ∷ terminal.Text ∷ []

abbrev pub all_terminals : List Terminal
all_terminals = plain_terminals ++ map terminal.Of all_words

-- without fields, one variant has one value
abbrev AreBare : List (List RattleType) → Type 0
AreBare [] = Unit {0}
AreBare ([] ∷ rows) = AreBare rows
AreBare ((_ ∷ _) ∷ rows) = ⊥

tag_one : (rows : List (List RattleType)) → AreBare rows → (a b : Sum rows) → tag rows a ≡ tag rows b → a ≡ b
tag_one [] bare a b e = absurd a
tag_one ([] ∷ rows) bare (inl x) (inl y) e = refl
tag_one ([] ∷ rows) bare (inl x) (inr y) e = absurd (omega arith)
tag_one ([] ∷ rows) bare (inr x) (inl y) e = absurd (omega arith)
tag_one ([] ∷ rows) bare (inr x) (inr y) e = ap inr (tag_one rows bare x y (omega arith))
tag_one ((_ ∷ _) ∷ rows) bare a b e = absurd bare

tag_within : (rows : List (List RattleType)) (a : Sum rows) → tag rows a < length rows
tag_within [] a = absurd a
tag_within (row ∷ rows) (inl x) = omega arith
tag_within (row ∷ rows) (inr y) = let h = tag_within rows y in omega (arith, h)

same_word : (v w : Word) → tag_of the_type v ≡ tag_of the_type w → v ≡ w
same_word v w e = the_type.to_one v w (tag_one (variants the_type) tt (the_type.to v) (the_type.to w) e)

abbrev terminal_at : ℕ → Terminal
terminal_at n = get_or all_terminals n terminal.End

place_within : (w : Word) → tag_of the_type w < 62
place_within w = tag_within (variants the_type) (the_type.to w)

word_at : (w : Word) → get_or all_words (tag_of the_type w) word.Array ≡ w
word_at w =
    let from_zero : 0 + tag_of the_type w ≡ tag_of the_type w = omega arith in
    same_word _ w (sym (get_or-map (tag_of the_type) all_words (tag_of the_type w) word.Array 0 (place_within w))
    ∙ get_or-range_with_len 0 62 (tag_of the_type w) 0 (place_within w) ∙ from_zero)

pub at_number : (s : Terminal) → terminal_at (number_of s) ≡ s
at_number terminal.End = refl
at_number terminal.Variable = refl
at_number terminal.Superglobal = refl
at_number terminal.Name = refl
at_number terminal.Reserved = refl
at_number terminal.Const = refl
at_number terminal.Number = refl
at_number terminal.Text = refl
at_number (terminal.Of w) =
    get_or-append-add plain_terminals (map terminal.Of all_words) (tag_of the_type w) terminal.End
    ∙ get_or-map terminal.Of all_words (tag_of the_type w) word.Array terminal.End (place_within w)
    ∙ ap terminal.Of (word_at w)

pub same_number : (s c : Terminal) → same_terminal s c ≡ true → number_of s ≡ number_of c
same_number s c e = eqb-true (number_of s) (number_of c) e

-- the same sort, as one value
pub same_is : (s c : Terminal) → same_terminal s c ≡ true → s ≡ c
same_is s c e = sym (at_number s) ∙ ap terminal_at (same_number s c e) ∙ at_number c

-- a token of a sort passes what the sort passes
pub mark_same : (t : Terminal → Bool) (c s : Terminal) → is c s ≡ true → t s ≡ t c
mark_same t c s e = ap t (same_is s c e)

pub mark_passes : (t : Terminal → Bool) (c : Terminal) → t c ≡ true → (s : Terminal) → is c s ≡ true → t s ≡ true
mark_passes t c passes s e = mark_same t c s e ∙ passes

pub mark_fails : (t : Terminal → Bool) (c : Terminal) → t c ≡ false → (s : Terminal) → is c s ≡ true → t s ≡ false
mark_fails t c fails s e = mark_same t c s e ∙ fails

-- what passes a test that the sort does not pass is not of the sort
pub mark_apart : (t : Terminal → Bool) (c : Terminal) → t c ≡ false → (s : Terminal) → t s ≡ true → is c s ≡ false
mark_apart t c fails = flip (is c) t (mark_fails t c fails)

-- ---- tests of sorts, decided by trying each sort

all_get : (t : Terminal → Bool) (l : List Terminal) (n : ℕ) (d : Terminal) → list_all t l ≡ true → t d ≡ true
    → t (get_or l n d) ≡ true
all_get t [] n d all default = default
all_get t (x ∷ l) zero d all default = (and_parts (t x) (list_all t l) all).0
all_get t (x ∷ l) (suc n) d all default = all_get t l n d (and_parts (t x) (list_all t l) all).1 default

-- what each sort passes, any sort passes
pub each_terminal : (t : Terminal → Bool) → list_all t all_terminals ≡ true → (s : Terminal) → t s ≡ true
each_terminal t all s =
    ap t (sym (at_number s))
    ∙ all_get t all_terminals (number_of s) terminal.End all (and_parts (t terminal.End) _ all).0

-- a test that no sort passes without the other
pub implied : (t u : Terminal → Bool) → list_all (λ s. not (t s) || u s) all_terminals ≡ true → (s : Terminal)
    → t s ≡ true → u s ≡ true
implied t u all s is = ap (λ b. not b || u s) (sym is) ∙ each_terminal (λ s. not (t s) || u s) all s

-- tests that no sort passes both
pub excluded : (t u : Terminal → Bool) → list_all (λ s. not (t s) || not (u s)) all_terminals ≡ true → (s : Terminal)
    → t s ≡ true → u s ≡ false
excluded t u all s is =
    go (u s) (ap (λ b. not b || not (u s)) (sym is) ∙ each_terminal (λ s. not (t s) || not (u s)) all s)
  where
    go : (b : Bool) → not b ≡ true → b ≡ false
    go true e = absurd (cc)
    go false e = refl

-- ---- tokens

-- a test that no reserved word passes
pub reserved_fails : (t : Terminal → Bool) (name : List ℕ) → t terminal.Const ≡ false → t terminal.Reserved ≡ false
    → t (reserved_terminal name) ≡ false
reserved_fails t name const other = go (str_eq_ignore_ascii_case name (codes "const"))
  where
    go : (b : Bool) → t (cond b terminal.Const terminal.Reserved) ≡ false
    go true = const
    go false = other

-- a token of this kind, somewhere on the first line
abbrev pub placed : TokenKind → Token
placed k = record { kind = k; start = 0; end = 0; line = 1 }

pub line_is : (s : Terminal) (t : Token) → same_terminal (terminal_of t.kind) s ≡ true → line_at s t ≡ Some t.line
line_is s t e = ap (λ b. cond b (Some t.line) None) e

pub line_back : (s : Terminal) (t : Token) (a : ℕ) → line_at s t ≡ Some a
    → (same_terminal (terminal_of t.kind) s ≡ true) × (a ≡ t.line)
line_back s t a = go (same_terminal (terminal_of t.kind) s) refl
  where
    go : (b : Bool) → same_terminal (terminal_of t.kind) s ≡ b → cond b (Some t.line) None ≡ Some a
        → (same_terminal (terminal_of t.kind) s ≡ true) × (a ≡ t.line)
    go true is e = (is, cc)
    go false is e = absurd (cc)

pub mark_of : (s : Terminal) (t : Token) → same_terminal (terminal_of t.kind) s ≡ true → Mark s (t ∷ []) t.line
mark_of s t e = record { symbol = t; alone = refl; is_worth = line_is s t e }

pub mark_alone : (s : Terminal) (k : TokenKind) → same_terminal (terminal_of k) s ≡ true → Mark s (placed k ∷ []) 1
mark_alone s k e = mark_of s (placed k) e

-- the one token of a mark
pub mark_token : (s : Terminal) (text : List Token) (a : ℕ) → Mark s text a
    → (t : Token) × (text ≡ t ∷ []) × (same_terminal (terminal_of t.kind) s ≡ true) × (a ≡ t.line)
mark_token s text a one = let b = line_back s one.symbol a one.is_worth in (one.symbol, one.alone, b.0, b.1)

-- the first token, where one of this sort comes next
pub first_of_sort : (s : Terminal) (ts : List Token) → same_terminal terminal.End s ≡ false
    → same_terminal (head ts) s ≡ true
    → (x : Token) × (rest : List Token) × (ts ≡ x ∷ rest) × (same_terminal (terminal_of x.kind) s ≡ true)
first_of_sort s [] none e = absurd (cc)
first_of_sort s (x ∷ rest) none e = (x, rest, refl, e)

-- the first token, where the next passes a test that the end does not pass
pub first_of : (t : Terminal → Bool) (ts : List Token) → t terminal.End ≡ false → t (head ts) ≡ true
    → (x : Token) × (rest : List Token) × (ts ≡ x ∷ rest) × (t (terminal_of x.kind) ≡ true)
first_of t [] none e = absurd (cc)
first_of t (x ∷ rest) none e = (x, rest, refl, e)
