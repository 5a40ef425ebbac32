-- Further parts of the theory of outcomes, where levels of nesting are counted.
use Rattle.std.specs.List.{list_all}
use Rattle.std.proofs.Common.{◌≡◌, ℕ, ◌<◌, ◌≤◌, Bool, true, false, not, ◌||◌, List, [], ◌∷◌, ◌++◌, Option, Some, None, is_some, sym, refl, ap, ◌∙◌, append_assoc, cond, arith}
use Rattle.dp_lexer.specs.declared.token.Token.{Token}
use Rattle.dp_lexer.specs.declared.token.TokenKind.{TokenKind}
use Rattle.dp_lexer.specs.declared.token.TokenKind.TheVariants as kind
use Rattle.dp_lexer.specs.Keywords.{is_reserved}
use Rattle.dp_token_rules.specs.declared.terminal.Terminal.{Terminal}
use Rattle.dp_token_rules.specs.declared.terminal.Terminal.TheVariants as terminal
use Rattle.dp_token_rules.specs.Terminals.{terminal_of, reserved_terminal, is, is_superglobal, head}
use Rattle.dp_token_rules.specs.inner.Input.{Outcome, Reader, ◌>>=◌, ◌>>◌, one, enter}
use Rattle.dp_token_rules.specs.Rules.{One, Nests}
use Rattle.dp_token_rules.specs.TokenValues.{Text, unless, variable_in, name_in, number_in, text_in, by_terminal, by_kind}
use Rattle.dp_token_rules.proofs.Terminals.{all_terminals, first_of, excluded}
use Rattle.dp_token_rules.proofs.Answers.{Rules, Stop, Anything, JoinedAt, EitherAt, OneAt, MadeAt, Answers, Follows, GoesOn, StartsIn, given, one_starts, starts_apart, anything_follows, one_answers, joined_answers, either_answers, nests_answers}

pub level_self : (l : ℕ) → l ≤ l
level_self l = omega arith

-- ---- one token by its sort or its kind

pub some_worth : {A : Type 0} (o : Option A) → is_some o ≡ true → (a : A) × (o ≡ Some a)
some_worth (Some a) e = (a, refl)
some_worth None e = absurd (cc)

pub sort_starts : {L A : Type 0} (worth : Terminal → Option A)
    → StartsIn {L = L} (OneAt (by_terminal worth)) (λ s. is_some (worth s))
sort_starts worth = one_starts (by_terminal worth) (λ s. is_some (worth s)) (λ t a e. ap is_some e)

-- a token of a sort that is worth something
pub one_of_sort : {A : Type 0} (worth : Terminal → Option A) (x : Token) → is_some (worth (terminal_of x.kind)) ≡ true
    → (a : A) × One (by_terminal worth) (x ∷ []) a
one_of_sort worth x e =
    let w = some_worth (worth (terminal_of x.kind)) e in (w.0, record { symbol = x; alone = refl; is_worth = w.1 })

variable_sort : (k : TokenKind) (a : Text) → variable_in k ≡ Some a → is terminal.Variable (terminal_of k) ≡ true
variable_sort (kind.Variable name) a e = go (is_superglobal name) e
  where
    go : (b : Bool) → unless b name ≡ Some a
        → is terminal.Variable (cond b terminal.Superglobal terminal.Variable) ≡ true
    go true e = absurd (cc)
    go false e = refl
variable_sort _ a e = absurd (cc)

name_sort : (k : TokenKind) (a : Text) → name_in k ≡ Some a → is terminal.Name (terminal_of k) ≡ true
name_sort (kind.Name name) a e = go (is_reserved name) e
  where
    go : (b : Bool) → unless b name ≡ Some a
        → is terminal.Name (cond b (reserved_terminal name) terminal.Name) ≡ true
    go true e = absurd (cc)
    go false e = refl
name_sort _ a e = absurd (cc)

pub variable_starts : {L : Type 0} → StartsIn {L = L} (OneAt (by_kind variable_in)) (is terminal.Variable)
variable_starts = one_starts (by_kind variable_in) (is terminal.Variable) (λ t a e. variable_sort t.kind a e)

pub name_starts : {L : Type 0} → StartsIn {L = L} (OneAt (by_kind name_in)) (is terminal.Name)
name_starts = one_starts (by_kind name_in) (is terminal.Name) (λ t a e. name_sort t.kind a e)

pub number_starts : {L : Type 0} → StartsIn {L = L} (OneAt (by_kind number_in)) (is terminal.Number)
number_starts = one_starts (by_kind number_in) (is terminal.Number) (λ t a e. of t.kind e)
  where
    of : (k : TokenKind) → {a : _} → number_in k ≡ Some a → is terminal.Number (terminal_of k) ≡ true
    of (kind.Number n) e = refl
    of _ e = absurd (cc)

pub text_starts : {L : Type 0} → StartsIn {L = L} (OneAt (by_kind text_in)) (is terminal.Text)
text_starts = one_starts (by_kind text_in) (is terminal.Text) (λ t a e. of t.kind a e)
  where
    of : (k : TokenKind) (a : Text) → text_in k ≡ Some a → is terminal.Text (terminal_of k) ≡ true
    of (kind.Text bytes) a e = refl
    of _ a e = absurd (cc)

-- ---- one after the other

-- one token, and what is behind it
pub one_then : {A B : Type 0} (worth : Token → Option A) (rule : A → Rules ℕ B) (stop : Stop B) (level : ℕ)
    (ts : List Token) (p : A → Reader B)
    → GoesOn ◌≤◌ level rule → ((a : A) (r : List Token) → Answers ◌≤◌ (rule a) stop level r (p a r))
    → Answers ◌≤◌ (JoinedAt (OneAt worth) rule) stop level ts ((one worth >>= p) ts)
one_then worth rule stop level ts p goes_on reads =
    joined_answers ◌≤◌ level_self (OneAt worth) rule Anything stop level ts (anything_follows rule stop)
    (one worth ts) p goes_on (one_answers ◌≤◌ level_self worth Anything level ts) (λ a r _. reads a r)

pub joined_follows : {A B C : Type 0} (first_stop : Stop A) (first : A → Rules ℕ B) (middle_stop : Stop B)
    (second : B → Rules ℕ C) (stop : Stop C)
    → Follows first_stop first middle_stop → Follows middle_stop second stop
    → Follows first_stop (λ a. JoinedAt (first a) second) stop
joined_follows first_stop first middle_stop second stop one other m a ts c r j is =
    ap (λ l. first_stop a (head l)) (ap (λ l. l ++ r) j.split ∙ append_assoc j.front j.back r)
    ∙ one m a j.front j.value (j.back ++ r) j.one (other m j.value j.back c r j.other is)

pub made_follows : {A B C : Type 0} (first_stop : Stop A) (rule : A → Rules ℕ B) (f : A → B → C) (rule_stop : Stop B)
    (stop : Stop C)
    → ((a : A) (b : B) (s : Terminal) → stop (f a b) s ≡ true → rule_stop b s ≡ true)
    → Follows first_stop rule rule_stop → Follows first_stop (λ a. MadeAt (rule a) (f a)) stop
made_follows first_stop rule f rule_stop stop weaker follows m a ts c r h is =
    let g = given (rule a m) (f a) ts c h in
    follows m a ts g.0 r g.1 (weaker a g.0 (head r) (ap (λ x. stop x (head r)) (sym g.2) ∙ is))

-- ---- choices by the sort of the next token

pub choice_answers : {A : Type 0} (first second : Rules ℕ A) (t u : Terminal → Bool) (stop : Stop A) (level : ℕ)
    (ts : List Token) → list_all (λ s. not (u s) || not (t s)) all_terminals ≡ true → StartsIn first t
    → StartsIn second u
    → (o p : Outcome A) → (t (head ts) ≡ true → Answers ◌≤◌ first stop level ts o)
    → (t (head ts) ≡ false → Answers ◌≤◌ second stop level ts p)
    → Answers ◌≤◌ (EitherAt first second) stop level ts (cond (t (head ts)) o p)
choice_answers first second t u stop level ts apart one other o p reads_one reads_other =
    either_answers ◌≤◌ level_self first second t stop level ts one
    (starts_apart second stop t u (excluded u t apart) other) o p reads_one reads_other

-- ---- one level of nesting

abbrev pub NestedAt : {A : Type 0} → Rules ℕ A → Rules ℕ A
NestedAt rule = λ m. Nests m (rule m)

-- Where no level is left, the first token begins a spelling where two are.
pub nested_answers : {A : Type 0} (test : Terminal → Bool) (rule : Rules ℕ A) (stop : Stop A) (level : ℕ)
    (ts : List Token) (p : Reader A) → test terminal.End ≡ false → test (head ts) ≡ true
    → ((x : Token) → test (terminal_of x.kind) ≡ true → (more : List Token) × (a : A) × rule 2 (x ∷ more) a)
    → (0 < level → Answers ◌≤◌ rule stop level ts (p ts))
    → Answers ◌≤◌ (NestedAt rule) stop level ts ((enter level >> p) ts)
nested_answers test rule stop level ts p no_end here opens reads =
    nests_answers ◌≤◌ level_self (λ m. m) rule stop level ts (λ m above. above) p
    (λ none. let f = first_of test ts no_end here in let o = opens f.0 f.3 in
    (2, omega (arith, none), f.0, f.1, o.0, o.1, f.2, record { some = omega arith; spelled = o.2 }))
    reads
