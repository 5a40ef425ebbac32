-- Operands joined by operators of several ranks: what the readers of links and of ladders answer.
use Rattle.std.proofs.Common.{◌≡◌, ℕ, ◌<◌, ◌≤◌, Bool, true, false, ◌&&◌, List, [], ◌∷◌, ◌++◌, Ok, is_some, refl, lt-ltb, arith}
use Rattle.dp_lexer.specs.declared.token.Token.{Token}
use Rattle.dp_expressions.specs.declared.rank.Rank.{Rank}
use Rattle.dp_expressions.specs.declared.rank.Rank.TheVariants as rank
use Rattle.dp_token_rules.specs.declared.terminal.Terminal.{Terminal}
use Rattle.dp_tree.specs.declared.tree.Expression.{Expression}
use Rattle.dp_tree.specs.declared.tree.Link.{Link}
use Rattle.dp_token_rules.specs.Terminals.{head}
use Rattle.dp_token_rules.specs.inner.Input.{Reader, ◌>>=◌, made, gives}
use Rattle.dp_expressions.specs.Grammar.{operator_in, link, chained, may_go_on, LinkOf, NextLink, Links, Ladder, ranks}
use Rattle.dp_expressions.specs.inner.Readers.{link_of, links_step, links_of, ladder, ladder_from}
use Rattle.dp_token_rules.proofs.Terminals.{and_parts, both, excluded}
use Rattle.dp_token_rules.proofs.Answers.{Rules, GivesAt, OneAt, MadeAt, StepAt, Answers, Follows, Can, GoesOn, StartsIn, give, joined_starts, made_starts, starts_in_more, gives_apart, gives_follow, made_answers, gives_answers, joined_answers, when_holds}
use Rattle.dp_token_rules.proofs.Loops.{step_stop, closed_follows, closed_answers, piece_first}
use Rattle.dp_expressions.proofs.Heights.{height, rank_height, looser, stop_at, looser_less, rank_operators}
use Rattle.dp_expressions.proofs.Least.{gives_it, then_nothing, least_ladder}
use Rattle.dp_expressions.proofs.Factored.{From}
use Rattle.dp_token_rules.proofs.More.{level_self, sort_starts, one_then, joined_follows, made_follows}
use Rattle.dp_token_rules.specs.TokenValues.{by_terminal}

abbrev pub operates : Rank → Terminal → Bool
operates r s = is_some (operator_in r s)

-- an operator goes on more loosely than what binds more tightly
operator_looser : (h : ℕ) (r : Rank) → h < rank_height r → (s : Terminal) → operates r s ≡ true → looser h s ≡ true
operator_looser h r below s is =
    let at : height s ≡ rank_height r = rank_operators r s is in lt-ltb h (height s) (omega arith)

-- behind a rank is no operator of it
no_operator : (r : Rank) (s : Terminal) → looser (rank_height r) s ≡ true → operates r s ≡ false
no_operator rank.Product s = excluded (looser 3) (operates rank.Product) refl s
no_operator rank.Sum s = excluded (looser 4) (operates rank.Sum) refl s
no_operator rank.Concatenation s = excluded (looser 5) (operates rank.Concatenation) refl s
no_operator rank.Comparison s = excluded (looser 6) (operates rank.Comparison) refl s
no_operator rank.Equality s = excluded (looser 7) (operates rank.Equality) refl s
no_operator rank.And s = excluded (looser 8) (operates rank.And) refl s
no_operator rank.Or s = excluded (looser 9) (operates rank.Or) refl s

and_no : (a b : Bool) → b ≡ false → (a && b) ≡ false
and_no true b e = e
and_no false b e = refl

-- ---- the links of one rank

module _ (operand : Rules ℕ Expression) (r : Rank) where
  abbrev LinkAt : Rules ℕ Link
  LinkAt m = LinkOf (operand m) r

  abbrev NextLinkAt : List Link → Rules ℕ (List Link)
  NextLinkAt links m = NextLink (operand m) r links

  abbrev pub LinksAt : Rules ℕ (List Link)
  LinksAt m = Links (operand m) r

  abbrev goes_on : List Link → Terminal → Bool
  goes_on links s = may_go_on r links && operates r s

  link_starts : StartsIn LinkAt (operates r)
  link_starts =
      joined_starts (OneAt (by_terminal (operator_in r))) (λ by. MadeAt operand (link by)) (operates r)
      (sort_starts (operator_in r))

  next_starts : (links : List Link) → StartsIn (NextLinkAt links) (goes_on links)
  next_starts links m text a h =
      let s = made_starts LinkAt (λ l. links ++ l ∷ []) (operates r) link_starts m text a h.spelled in
      (s.0, s.1, s.2, both (may_go_on r links) (operates r _) h.holds s.3)

  -- what a test lets stand behind, it lets stand behind further links, if it lets the operators
  pub links_pass : (t : Terminal → Bool) → ((s : Terminal) → operates r s ≡ true → t s ≡ true)
      → Follows {A = Expression} (λ _ s. t s) (λ _. LinksAt) (λ _ s. t s)
  links_pass t passes m e = closed_follows NextLinkAt (λ links. GivesAt links) (λ _ s. t s) (λ _ s. t s)
      (λ links. starts_in_more (NextLinkAt links) (goes_on links) t
      (λ s e. passes s (and_parts (may_go_on r links) (operates r s) e).1) (next_starts links))
      (gives_follow (λ links. links) (λ _ s. t s) (λ _ s. t s) (λ links s e. e)) m []

  module _ (h : ℕ) (below : h < rank_height r) where
    next_between : (links : List Link) → StartsIn (NextLinkAt links) (looser h)
    next_between links =
        starts_in_more (NextLinkAt links) (goes_on links) (looser h)
        (λ s e. operator_looser h r below s (and_parts (may_go_on r links) (operates r s) e).1) (next_starts links)

    at_end : Follows {L = ℕ} {A = List Link} {B = List Link} (stop_at h) (λ links. GivesAt links)
        (stop_at (rank_height r))
    at_end =
        gives_follow (λ links. links) (stop_at h) (stop_at (rank_height r))
        (λ links s e. looser_less h (rank_height r) (omega arith) s e)

    -- what may be behind an operand goes on with its links
    pub links_follow : Follows {A = Expression} (stop_at h) (λ _. LinksAt) (stop_at (rank_height r))
    links_follow m e =
        closed_follows NextLinkAt (λ links. GivesAt links) (stop_at h) (stop_at (rank_height r)) next_between at_end m
        []

    module _ (level : ℕ) (can : Can ◌≤◌ level operand) (reader : Reader Expression)
        (reads : (ts : List Token) → Answers ◌≤◌ operand (stop_at h) level ts (reader ts)) where
      link_answers : (ts : List Token) → Answers ◌≤◌ LinkAt (stop_at h) level ts (link_of reader r ts)
      unfolding link_of
      link_answers ts =
          one_then (by_terminal (operator_in r)) (λ by. MadeAt operand (link by)) (stop_at h) level ts
          (λ by. made reader (link by))
          (λ m above by. let c = can m above in (c.0, link by c.1, give (operand m) (link by) c.0 c.1 c.2))
          (λ by us. made_answers ◌≤◌ level_self operand (link by) (stop_at h) (stop_at h) level us (λ a s e. e)
          (reader us) (reads us))

      step_answers : (links : List Link) (ts : List Token)
          → Answers ◌≤◌ (StepAt NextLinkAt (λ x. GivesAt x) links)
          (step_stop (stop_at h) (stop_at (rank_height r))) level ts (links_step reader r links ts)
      step_answers links ts =
          piece_first ◌≤◌ level_self NextLinkAt (λ x. GivesAt x) (stop_at h) (stop_at (rank_height r)) level links ts
          (goes_on links) (made (link_of reader r) (λ l. links ++ l ∷ []) ts) (Ok (links, ts))
          (next_starts links)
          (gives_apart links (stop_at (rank_height r)) (goes_on links)
          (λ s e. and_no (may_go_on r links) (operates r s) (no_operator r s e)))
          (λ here. when_holds ◌≤◌ level_self (may_go_on r links) (MadeAt LinkAt (λ l. links ++ l ∷ []))
          (stop_at h) level ts (and_parts (may_go_on r links) (operates r (head ts)) here).0
          (made (link_of reader r) (λ l. links ++ l ∷ []) ts)
          (made_answers ◌≤◌ level_self LinkAt (λ l. links ++ l ∷ []) (stop_at h) (stop_at h) level ts (λ a s e. e)
          (link_of reader r ts) (link_answers ts)))
          (λ _. gives_answers ◌≤◌ level_self links (stop_at (rank_height r)) level ts)

      pub links_answers : (ts : List Token)
          → Answers ◌≤◌ LinksAt (stop_at (rank_height r)) level ts (links_of reader r ts)
      unfolding links_of
      links_answers ts =
          closed_answers ◌≤◌ level_self NextLinkAt (λ x. GivesAt x) (stop_at h)
          (stop_at (rank_height r)) level next_between at_end (λ m above links. ([], links, gives_it links))
          (links_step reader r) step_answers [] ts

-- ---- ladders

-- how loosely a ladder of these ranks goes on
abbrev pub ladder_height : List Rank → ℕ
ladder_height [] = 2
ladder_height (r ∷ more) = rank_height r

-- the ranks in the order of their heights
abbrev pub InOrder : List Rank → Type 0
InOrder [] = Unit {0}
InOrder (r ∷ more) = (ladder_height more < rank_height r) × InOrder more

pub in_order : InOrder ranks
in_order = (omega arith, (omega arith, (omega arith, (omega arith, (omega arith, (omega arith, (omega arith, tt)))))))

module _ (operand : Rules ℕ Expression) where
  abbrev pub LadderAt : List Rank → Rules ℕ Expression
  LadderAt rs m = Ladder rs (operand m)

  abbrev pub FromAt : List Rank → Expression → Rules ℕ Expression
  FromAt rs first m = From rs (operand m) first

  abbrev ChainedAt : Rank → List Rank → Expression → Rules ℕ Expression
  ChainedAt r more first = MadeAt (LinksAt (LadderAt more) r) (λ links. chained first links)

  chained_follow : (r : Rank) (more : List Rank) → ladder_height more < rank_height r
      → Follows (stop_at (ladder_height more)) (ChainedAt r more) (stop_at (rank_height r))
  chained_follow r more below =
      made_follows (stop_at (ladder_height more)) (λ _. LinksAt (LadderAt more) r) (λ first links. chained first links)
      (stop_at (rank_height r)) (stop_at (rank_height r)) (λ a b s e. e)
      (links_follow (LadderAt more) r (ladder_height more) below)

  chained_goes_on : (level : ℕ) (r : Rank) (more : List Rank) → GoesOn ◌≤◌ level (ChainedAt r more)
  chained_goes_on level r more m above first = (
    [],
    first,
    give (Links (Ladder more (operand m)) r) (λ links. chained first links) [] []
        (record { count = 0; chain = gives_it [] }),
  )

  pub from_pass : (t : Terminal → Bool) → ((r : Rank) (s : Terminal) → operates r s ≡ true → t s ≡ true)
      → (rs : List Rank) → Follows (λ _ s. t s) (FromAt rs) (λ _ s. t s)
  from_pass t passes [] = gives_follow (λ e. e) (λ _ s. t s) (λ _ s. t s) (λ e s is. is)
  from_pass t passes (r ∷ more) =
      joined_follows (λ _ s. t s) (FromAt more) (λ _ s. t s) (ChainedAt r more) (λ _ s. t s) (from_pass t passes more)
      (made_follows (λ _ s. t s) (λ _. LinksAt (LadderAt more) r) (λ first links. chained first links) (λ _ s. t s)
      (λ _ s. t s) (λ a b s e. e) (links_pass (LadderAt more) r t (passes r)))

  -- a ladder of no more than its first operand
  pub no_links : (rs : List Rank) (first : Expression) (m : ℕ) → FromAt rs first m [] first
  no_links [] first m = gives_it first
  no_links (r ∷ more) first m =
      then_nothing (FromAt more first m) (λ left. ChainedAt r more left m) [] first first (no_links more first m)
      (give (Links (Ladder more (operand m)) r) (λ links. chained first links) [] []
      (record { count = 0; chain = gives_it [] }))

  module _ (level : ℕ) (can : Can ◌≤◌ level operand) (reader : Reader Expression)
      (reads : (ts : List Token) → Answers ◌≤◌ operand (stop_at 2) level ts (reader ts)) where
    pub some_ladder : (rs : List Rank) → Can ◌≤◌ level (LadderAt rs)
    some_ladder rs m above = let c = can m above in (c.0, c.1, least_ladder rs (operand m) c.0 c.1 c.2)

    chained_answers : (r : Rank) (more : List Rank) → ladder_height more < rank_height r
        → ((ts : List Token)
        → Answers ◌≤◌ (LadderAt more) (stop_at (ladder_height more)) level ts (ladder more reader ts))
        → (first : Expression) (ts : List Token)
        → Answers ◌≤◌ (ChainedAt r more first) (stop_at (rank_height r)) level ts
        ((links_of (ladder more reader) r >>= (λ links. gives (chained first links))) ts)
    chained_answers r more below tighter first ts =
        made_answers ◌≤◌ level_self (LinksAt (LadderAt more) r) (λ links. chained first links) (stop_at (rank_height r))
        (stop_at (rank_height r)) level ts (λ a s e. e)
        (links_of (ladder more reader) r ts) (links_answers (LadderAt more) r (ladder_height more) below level
        (some_ladder more) (ladder more reader) tighter ts)

    pub ladder_answers : (rs : List Rank) → InOrder rs → (ts : List Token)
        → Answers ◌≤◌ (LadderAt rs) (stop_at (ladder_height rs)) level ts (ladder rs reader ts)
    unfolding ladder
    ladder_answers [] order ts = reads ts
    ladder_answers (r ∷ more) order ts =
        joined_answers ◌≤◌ level_self (LadderAt more) (ChainedAt r more) (stop_at (ladder_height more))
        (stop_at (rank_height r)) level ts (chained_follow r more order.0)
        (ladder more reader ts) (λ first. links_of (ladder more reader) r >>= (λ links. gives (chained first links)))
        (chained_goes_on level r more) (ladder_answers more order.1 ts)
        (λ first us _. chained_answers r more order.0 (ladder_answers more order.1) first us)

    pub ladder_from_answers : (rs : List Rank) → InOrder rs → (first : Expression) (ts : List Token)
        → Answers ◌≤◌ (FromAt rs first) (stop_at (ladder_height rs)) level ts (ladder_from rs reader first ts)
    unfolding ladder_from
    ladder_from_answers [] order first ts = gives_answers ◌≤◌ level_self first (stop_at 2) level ts
    ladder_from_answers (r ∷ more) order first ts =
        joined_answers ◌≤◌ level_self (FromAt more first) (ChainedAt r more) (stop_at (ladder_height more))
        (stop_at (rank_height r)) level ts (chained_follow r more order.0)
        (ladder_from more reader first ts) (λ left. links_of (ladder more reader) r
        >>= (λ links. gives (chained left links))) (chained_goes_on level r more)
        (ladder_from_answers more order.1 first ts)
        (λ left us _. chained_answers r more order.0 (ladder_answers more order.1) left us)
