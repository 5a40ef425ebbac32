-- What the links that came back to the gates come to.
use Rattle.std.proofs.Common.{◌≡◌, ◌⊎◌, ◌≤◌, ◌<◌, ℕ, zero, suc, ◌+◌, Bool, true, List, [], ◌∷◌, ◌++◌, length, Option, Some, None, Result, Ok, Err, refl, sym, ◌∙◌, ap, subst, inl, inr, arith, if◌then◌else◌, append_assoc, append-nil, length-append}
use Rattle.std.proofs.lemmas.Bool.{cond_both}
use Rattle.std.specs.Io.KnownBytes.{Appends}
use mathlib.Core.List.{IsPrefix}
use Rattle.dp_outside.specs.Causes.{Rose}
use Rattle.dp_outside.specs.Links.{CountsReturned, Link}
use Rattle.dp_outside.specs.Reports.{BeginsEmpty, StaysSilent, grown}
use Rattle.dp_packet.specs.declared.packet.ProxyReply.{ProxyReply}
use Rattle.dp_wire.specs.Frames.{up_to_nul}
use Rattle.dp_proxy.specs.declared.calls.Call.{Call}
use Rattle.dp_proxy.specs.Calls.{call_of}
use Rattle.dp_registry.specs.declared.entry.Entry.{Entry}
use Rattle.dp_registry.specs.declared.entry.Entry.TheVariants.{Admit, Dismiss}
use Rattle.dp_registry.specs.declared.pass.Pass.{Pass}
use Rattle.dp_registry.specs.declared.refusal.Refusal.{Refusal}
use Rattle.dp_registry.specs.declared.refusal.Refusal.TheVariants as refusal
use Rattle.dp_registry.specs.Journal.{Holder, holder, live_under, next_session, least}
use Rattle.dp_registry.specs.Verdicts.{is_crowded, full, noted, unless_busy, admitting, admit_verdict, admit_reply_of}
use Rattle.dp_desk.specs.Desks.{Known, Entered}
use Rattle.dp_desk.proofs.Keeps.{prefix_self, prefix_trans}
use Rattle.dp_desk.specs.Made.{Made, made}
use Rattle.dp_relay.specs.declared.ends.RelayEnd.{RelayEnd}
use Rattle.dp_relay.specs.declared.ends.RelayEnd.TheVariants.{Joined, BadInit, NoSession, DialFault}
use Rattle.dp_relay.specs.declared.ends.RelayEnd.TheVariants.{NoThread, ReadFault, BadFrame, Memory}
use Rattle.dp_relay.specs.declared.errors.RelayError.{RelayError}
use Rattle.dp_relay.specs.declared.errors.RelayError.TheVariants as failure
use Rattle.dp_crews.specs.declared.tallies.Tally.{Tally}
use Rattle.dp_crews.specs.Bounds.{AtLeast, IsKeyed, IsUnfit, NamesCall, OfGiven}
use Rattle.dp_relay.specs.Ends.{Ends, Gave, IsFresh, link_of}
use Rattle.dp_relay.specs.Engines.{ComesWith, EngineServed, HadSession, IsBadFirst, IsKeyless}
use Rattle.dp_crews.specs.Gates.{Steps, Visited}
use Rattle.dp_relay.specs.Registrations.{Came, Noted, Unanswered, Unnoted}
use Rattle.dp_crews.specs.Tallies.{counted, tallied, tally}
use Rattle.dp_crews.specs.Workers.{Booked, EnginePost, Post, ServedEngine, ServedIde, with_link}
use Rattle.dp_crews.proofs.CountLaws.{counts_noted}
use Rattle.dp_relay.proofs.MadeLaws.{makes_one}

-- ---- at least so many

pub at_least_on : {X : Type 0} (P : X → Type 0) (n : ℕ) (xs ys : List X) → AtLeast P n ys → AtLeast P n (xs ++ ys)
at_least_on P n [] ys some = some
at_least_on P zero (x ∷ xs) ys some = tt
at_least_on P (suc n) (x ∷ xs) ys some = inr (at_least_on P (suc n) xs ys some)

both_by : {X : Type 0} (P : X → Type 0) (n m k : ℕ) (xs ys : List X) → k ≡ n + m → AtLeast P n xs → AtLeast P m ys
    → AtLeast P k (xs ++ ys)
both_by P zero m k xs ys same one other =
    let is : m ≡ k = omega (arith, same) in subst (λ l. AtLeast P l (xs ++ ys)) is (at_least_on P m xs ys other)
both_by P (suc n) m zero xs ys same one other = absurd (omega (arith, same))
both_by P (suc n) m (suc k) [] ys same one other = absurd one
both_by P (suc n) m (suc k) (x ∷ xs) ys same one other = elim one [
  | inl here ↦ inl (here.0, both_by P n m k xs ys (omega (arith, same)) here.1 other)
  | inr later ↦ inr (both_by P (suc n) m (suc k) xs ys same later other)
]

pub at_least_both : {X : Type 0} (P : X → Type 0) (n m : ℕ) (xs ys : List X) → AtLeast P n xs → AtLeast P m ys
    → AtLeast P (n + m) (xs ++ ys)
at_least_both P n m xs ys one other = both_by P n m (n + m) xs ys refl one other

-- one fewer, and fewer
at_least_less : {X : Type 0} (P : X → Type 0) (n : ℕ) (xs : List X) → AtLeast P (suc n) xs → AtLeast P n xs
at_least_less P zero xs some = tt
at_least_less P (suc n) [] some = absurd some
at_least_less P (suc n) (x ∷ xs) some = elim some [
  | inl here ↦ inl (here.0, at_least_less P n xs here.1)
  | inr later ↦ inr (at_least_less P (suc n) xs later)
]

pub at_least_fewer : {X : Type 0} (P : X → Type 0) (n m k : ℕ) (xs : List X) → m ≡ k + n → AtLeast P m xs
    → AtLeast P n xs
at_least_fewer P n m zero xs same some =
    let is : m ≡ n = omega (arith, same) in subst (λ l. AtLeast P l xs) is some
at_least_fewer P n zero (suc k) xs same some = absurd (omega (arith, same))
at_least_fewer P n (suc m) (suc k) xs same some =
    at_least_fewer P n m k xs (omega (arith, same)) (at_least_less P m xs some)

-- one more behind
pub at_least_one : {X : Type 0} (P : X → Type 0) (x : X) → P x → AtLeast P 1 (x ∷ [])
at_least_one P x here = inl (here, tt)

-- ---- what a link tells

pub grown_twice : {A : Type 0} (o : Option (List A)) (l m : List A) → grown (grown o l) m ≡ grown o (l ++ m)
grown_twice None l m = refl
grown_twice (Some told) l m = ap (λ k. Some k) (append_assoc told l m)

pub grown_none : {A : Type 0} (o : Option (List A)) → grown o [] ≡ o
grown_none None = refl
grown_none (Some told) = ap (λ k. Some k) (append-nil told)

abbrev IsTold : Option (List ℕ) → Type 0
IsTold None = ⊥
IsTold (Some bytes) = Unit {0}

-- what was read of a link that had given nothing is what it has given
module _ (meets : List ℕ → Type 0) (read : List ℕ) (is : meets read) where
  given_is : (before after : Option (List ℕ)) → BeginsEmpty before → Appends before after read
      → StaysSilent before after
      → OfGiven meets after
  given_is None None empty more silent = tt
  given_is None (Some bytes) empty more silent = absurd (subst IsTold silent tt)
  given_is (Some told) None empty more silent = tt
  given_is (Some told) (Some bytes) empty more silent =
      subst meets (sym (more ∙ ap (λ l. l ++ read) empty)) is

pub of_given : (meets : List ℕ → Type 0) (x y : Ends) (read : List ℕ) → IsFresh x → Gave x y read → meets read
    → OfGiven meets y.given
of_given meets x y read fresh gave is = given_is meets read is x.given y.given fresh.unread gave.given gave.untold_given

-- ---- one IDE

-- a registration or a stop was noted only where the command names one
module _ (v w : Known) (host read : List ℕ) where
  abbrev Named : Type 0
  Named = (w.made ≡ v.made) ⊎ ((call : Call) × (call_of (up_to_nul read) ≡ Some call))

  noted_named : (at : List Entry) (found : Option Call) → call_of (up_to_nul read) ≡ found → Noted v at host found w
      → Named
  noted_named at None is n = inl (ap (λ (k : Known). k.made) n.1)
  noted_named at (Some call) is n = inr (call, is)

  unnoted_named : (at : List Entry) (found : Option Call) → call_of (up_to_nul read) ≡ found → Unnoted v at host found w
      → Named
  unnoted_named at None is n = inl (ap (λ (k : Known). k.made) n)
  unnoted_named at (Some call) is n = inr (call, is)

  unanswered_named : Unanswered v w host (up_to_nul read) → Named
  unanswered_named u = elim u [
    | inl same ↦ inl (ap (λ (k : Known). k.made) same)
    | inr found ↦ elim found.1 [
      | inl none ↦ unnoted_named found.0 (call_of (up_to_nul read)) refl none
      | inr one ↦ noted_named found.0 (call_of (up_to_nul read)) refl one
    ]
  ]

  came_named : (x y : Ends) (result : Result ProxyReply RelayError) → Came v w host x y read result → Named
  came_named x y (Ok answer) c = noted_named c.2.0.at (call_of (up_to_nul read)) refl c.2.0.noted
  came_named x y (Err failure.WriteFault) c = noted_named c.2.0.2.at (call_of (up_to_nul read)) refl c.2.0.2.noted
  came_named x y (Err failure.Memory) c = unanswered_named c.2.0
  came_named x y (Err failure.TooLong) c = inl (ap (λ (k : Known). k.made) c.2)
  came_named x y (Err failure.ReadFault) c = inl (ap (λ (k : Known). k.made) c.2)

-- so many IDEs: their links, and how many of these name a call
pub record Asks (count : ℕ) (x y : Post) : Type 0 where
  pub links : List Link
  pub retired : y.gate.retired ≡ grown x.gate.retired links
  pub number : length links ≡ count
  pub calls : ℕ
  pub made : y.clerk.made.registers ≤ x.clerk.made.registers + calls
  pub admits : y.clerk.made.admits ≡ x.clerk.made.admits
  pub named : AtLeast NamesCall calls links

asks_one : (x y : Post) → ServedIde x y → Asks 1 x y
asks_one x y s =
    let one = makes_one x.clerk y.clerk s.host s.before s.after s.result s.registered in
    let admits : y.clerk.made.admits ≡ x.clerk.made.admits = elim one.made [
      | inl same ↦ ap (λ (m : Made). m.admits) same
      | inr more ↦ omega (arith, ap (λ (m : Made). m.admits) more)
    ] in
    elim (came_named x.clerk y.clerk s.host s.registered.read s.before s.after s.result s.registered.came) [
      | inl same ↦ record {
        links = link_of s.after ∷ [];
        retired = s.visited.retired;
        number = refl;
        calls = 0;
        made = omega (arith, ap (λ (m : Made). m.registers) same);
        admits = admits;
        named = tt;
      }
      | inr call ↦ record {
        links = link_of s.after ∷ [];
        retired = s.visited.retired;
        number = refl;
        calls = 1;
        made = elim one.made [
          | inl same ↦ omega (arith, ap (λ (m : Made). m.registers) same)
          | inr more ↦ omega (arith, ap (λ (m : Made). m.registers) more)
        ];
        admits = admits;
        named = at_least_one NamesCall (link_of s.after)
            (of_given (λ given. (c : Call) × (call_of (up_to_nul given) ≡ Some c)) s.before s.after s.registered.read
            s.visited.fresh s.registered.gave call);
      }
    ]

pub asks_all : (count : ℕ) (x y : Post) → Steps ServedIde count x y → Asks count x y
asks_all zero x y same =
    record {
      links = [];
      retired = ap (λ (k : Post). k.gate.retired) same ∙ sym (grown_none x.gate.retired);
      number = refl;
      calls = 0;
      made = omega (arith, ap (λ (k : Post). k.clerk.made.registers) same);
      admits = ap (λ (k : Post). k.clerk.made.admits) same;
      named = tt;
    }
asks_all (suc count) x y s =
    let a : Asks count x s.0 = asks_all count x s.0 s.1 in
    let b : Asks 1 s.0 y = asks_one s.0 y s.2 in
    record {
      links = a.links ++ b.links;
      retired = b.retired ∙ (ap (λ o. grown o b.links) a.retired ∙ grown_twice x.gate.retired a.links b.links);
      number = omega (arith, length-append a.links b.links, a.number, b.number);
      calls = a.calls + b.calls;
      made = omega (arith, a.made, b.made);
      admits = b.admits ∙ a.admits;
      named = at_least_both NamesCall a.calls b.calls a.links b.links a.named b.named;
    }

-- ---- one engine

abbrev why_of : Result Pass Refusal → Refusal
why_of (Ok pass) = refusal.Memory
why_of (Err why) = why

abbrev IsRoom : Bool → Result Pass Refusal → Type 0
IsRoom crowded (Err (refusal.Full events live)) = crowded ≡ true
IsRoom crowded verdict = Unit {0}

unless_room : (b : Bool) (busy : Option ℕ) (pass : Pass) → IsRoom b (unless_busy busy pass)
unless_room b None pass = tt
unless_room b (Some session) pass = tt

admitting_room : (b : Bool) (h : Option Holder) (sessions : List ℕ) (session : ℕ)
    → IsRoom b (admitting h sessions session)
admitting_room b None sessions session = tt
admitting_room b (Some h) sessions session =
    unless_room b (if h.multiple then None else least sessions)
    (record { session = session; host = h.host; port = h.port })

admit_room : (at : List Entry) (key : List ℕ) → IsRoom (is_crowded at) (admit_verdict at key)
admit_room at key =
    cond_both (is_crowded at) (Err (full at)) (admitting (holder at key) (live_under key at) (next_session at))
    (IsRoom (is_crowded at)) (λ e. e)
    (λ e. admitting_room (is_crowded at) (holder at key) (live_under key at) (next_session at))

noted_grows : {R : Type 0} (at : List Entry) (entry : R → Entry) (reply : Option R) → IsPrefix at (noted at entry reply)
noted_grows at entry None = prefix_self at
noted_grows at entry (Some r) = (entry r ∷ [], refl)

entered_grows : {R : Type 0} (v w : Known) (at : List Entry) (entry : R → Entry) (reply : Option R)
    → Entered v at entry reply w → IsPrefix v.seen w.seen
entered_grows v w at entry reply e =
    subst (IsPrefix v.seen) (sym e.seen)
    (prefix_trans v.seen at (noted at entry reply) e.begins (noted_grows at entry reply))

same_grows : (v w : Known) → w ≡ v → IsPrefix v.seen w.seen
same_grows v w same = subst (λ (k : Known). IsPrefix v.seen k.seen) (sym same) (prefix_self v.seen)

had_grows : (v w : Known) (key : List ℕ) (pass : Pass) → HadSession v w key pass → IsPrefix v.seen w.seen
had_grows v w key pass s =
    prefix_trans v.seen s.between.seen w.seen
    (entered_grows v s.between s.admitted.at (λ reply. Admit key reply) (admit_reply_of (Ok pass)) s.admitted.entered)
    (entered_grows s.between w s.dismissed.at Dismiss (Some pass.session) s.dismissed.entered)

-- there was no room for a session, as the clerk has seen
abbrev pub SawNoRoom : Known → Type 0
SawNoRoom w = (at : List Entry) × IsPrefix at w.seen × (is_crowded at ≡ true)

-- so many engines: their links, and how many of these are keyed, and unfit
pub record Serves (count : ℕ) (x y : EnginePost) : Type 0 where
  pub links : List Link
  pub retired : y.gate.retired ≡ grown x.gate.retired links
  pub number : length links ≡ count
  pub keys : ℕ
  pub with_key : y.clerk.made.admits + y.tally.full ≡ x.clerk.made.admits + x.tally.full + keys
  pub keyed : AtLeast IsKeyed keys links
  pub misfits : ℕ
  pub without_key : y.tally.unfit ≡ x.tally.unfit + misfits
  pub unfit : AtLeast IsUnfit misfits links
  pub later : x.gate.returned ≤ y.gate.returned
  pub failed : (y.tally.failed ≡ x.tally.failed) ⊎ Rose x.gate.returned y.gate.returned
  pub full : (y.tally.full ≡ x.tally.full) ⊎ SawNoRoom y.clerk
  pub grows : IsPrefix x.clerk.seen y.clerk.seen
  pub registers : y.clerk.made.registers ≡ x.clerk.made.registers

module _ (x y : EnginePost) (before after : Ends) (ide : Option Ends) (visited : Visited x.gate y.gate before after)
  where
    -- an engine that came with a key, and was counted in the journal alone
    keyed_one : (read key : List ℕ) → Gave before after read → ComesWith read key → y.tally ≡ x.tally
        → Booked 1 x.clerk y.clerk x.tally y.tally → IsPrefix x.clerk.seen y.clerk.seen → Serves 1 x y
    keyed_one read key gave comes same b grows =
        record {
          links = link_of after ∷ [];
          retired = visited.retired;
          number = refl;
          keys = 1;
          with_key = omega (arith, b.all, ap counted same, ap (λ (t : Tally). t.full) same);
          keyed = at_least_one IsKeyed (link_of after)
              (of_given (λ given. (k : List ℕ) × ComesWith given k) before after read visited.fresh gave (key, comes));
          misfits = 0;
          without_key = omega (arith, ap (λ (t : Tally). t.unfit) same);
          unfit = tt;
          later = visited.returned_later;
          failed = inl (ap (λ (t : Tally). t.failed) same);
          full = inl (ap (λ (t : Tally). t.full) same);
          grows = grows;
          registers = b.registers;
        }

    -- one that came without
    unfit_one : (read : List ℕ) → Gave before after read
        → (IsKeyless read after.left ⊎ ((offset : ℕ) × IsBadFirst read offset))
        → y.tally ≡ tally x.tally.full (x.tally.unfit + 1) x.tally.failed x.tally.starved → y.clerk ≡ x.clerk
        → Serves 1 x y
    unfit_one read gave why is same =
        record {
          links = link_of after ∷ [];
          retired = visited.retired;
          number = refl;
          keys = 0;
          with_key = omega (arith, ap (λ (k : Known). k.made.admits) same, ap (λ (t : Tally). t.full) is);
          keyed = tt;
          misfits = 1;
          without_key = ap (λ (t : Tally). t.unfit) is;
          unfit = at_least_one IsUnfit (link_of after)
              (of_given (λ given. IsKeyless given after.left ⊎ ((offset : ℕ) × IsBadFirst given offset)) before after
              read visited.fresh gave why);
          later = visited.returned_later;
          failed = inl (ap (λ (t : Tally). t.failed) is);
          full = inl (ap (λ (t : Tally). t.full) is);
          grows = same_grows x.clerk y.clerk same;
          registers = ap (λ (k : Known). k.made.registers) same;
        }

    -- one of which nothing is known
    other_one : y.clerk.made.admits ≡ x.clerk.made.admits → y.clerk.made.registers ≡ x.clerk.made.registers
        → y.tally.full ≡ x.tally.full → y.tally.unfit ≡ x.tally.unfit
        → (y.tally.failed ≡ x.tally.failed) ⊎ Rose x.gate.returned y.gate.returned
        → IsPrefix x.clerk.seen y.clerk.seen → Serves 1 x y
    other_one admits registers no_full no_unfit failed grows =
        record {
          links = link_of after ∷ [];
          retired = visited.retired;
          number = refl;
          keys = 0;
          with_key = omega (arith, admits, no_full);
          keyed = tt;
          misfits = 0;
          without_key = omega (arith, no_unfit);
          unfit = tt;
          later = visited.returned_later;
          failed = failed;
          full = inl no_full;
          grows = grows;
          registers = registers;
        }

    -- one that found no room
    full_one : (read key : List ℕ) → Gave before after read → ComesWith read key → SawNoRoom y.clerk
        → y.tally ≡ tally (x.tally.full + 1) x.tally.unfit x.tally.failed x.tally.starved
        → Booked 1 x.clerk y.clerk x.tally y.tally → IsPrefix x.clerk.seen y.clerk.seen → Serves 1 x y
    full_one read key gave comes crowded is b grows =
        record {
          links = link_of after ∷ [];
          retired = visited.retired;
          number = refl;
          keys = 1;
          with_key = omega (arith, b.all, ap counted is, ap (λ (t : Tally). t.full) is);
          keyed = at_least_one IsKeyed (link_of after)
              (of_given (λ given. (k : List ℕ) × ComesWith given k) before after read visited.fresh gave (key, comes));
          misfits = 0;
          without_key = omega (arith, ap (λ (t : Tally). t.unfit) is);
          unfit = tt;
          later = visited.returned_later;
          failed = inl (ap (λ (t : Tally). t.failed) is);
          full = inr crowded;
          grows = grows;
          registers = b.registers;
        }

    -- a link that failed comes back as such
    returned_rose : (count : ℕ) → 0 < count → CountsReturned count x.gate.returned y.gate.returned
        → Rose x.gate.returned y.gate.returned
    returned_rose zero some c = absurd (omega (arith, some))
    returned_rose (suc n) some c = c

    abbrev End : RelayEnd → Type 0
    End end = EngineServed x.clerk y.clerk (with_link x.means before) (with_link y.means after) ide end

    refused_one : (why : Refusal) → End (NoSession why) → y.tally ≡ tallied x.tally (NoSession why)
        → Booked 1 x.clerk y.clerk x.tally y.tally → Serves 1 x y
    refused_one (refusal.Full events sessions) s is b =
        let c = s.0.called in
        full_one s.0.read s.0.key s.0.heard.gave s.0.comes
        (elim c.answer [
          | inl out ↦ absurd (s.1 (ap why_of out))
          | inr same ↦ (
            c.at,
            subst (IsPrefix c.at) (sym c.entered.seen) (prefix_self c.at),
            subst (IsRoom (is_crowded c.at)) (sym same) (admit_room c.at s.0.key),
          )
        ])
        is b (entered_grows x.clerk y.clerk c.at (λ reply. Admit s.0.key reply)
        (admit_reply_of (Err (refusal.Full events sessions))) c.entered)
    refused_one (refusal.Taken host port) s is b =
        keyed_one s.0.read s.0.key s.0.heard.gave s.0.comes is b (entered_grows x.clerk y.clerk s.0.called.at
        (λ reply. Admit s.0.key reply) (admit_reply_of (Err (refusal.Taken host port))) s.0.called.entered)
    refused_one refusal.Unknown s is b =
        keyed_one s.0.read s.0.key s.0.heard.gave s.0.comes is b (entered_grows x.clerk y.clerk s.0.called.at
        (λ reply. Admit s.0.key reply) (admit_reply_of (Err refusal.Unknown)) s.0.called.entered)
    refused_one refusal.NotYours s is b =
        keyed_one s.0.read s.0.key s.0.heard.gave s.0.comes is b (entered_grows x.clerk y.clerk s.0.called.at
        (λ reply. Admit s.0.key reply) (admit_reply_of (Err refusal.NotYours)) s.0.called.entered)
    refused_one (refusal.Busy session) s is b =
        keyed_one s.0.read s.0.key s.0.heard.gave s.0.comes is b (entered_grows x.clerk y.clerk s.0.called.at
        (λ reply. Admit s.0.key reply) (admit_reply_of (Err (refusal.Busy session))) s.0.called.entered)
    refused_one refusal.Memory s is b = absurd (s.1 refl)

    end_one : (end : RelayEnd) → End end → y.tally ≡ tallied x.tally end → Booked 1 x.clerk y.clerk x.tally y.tally
        → Serves 1 x y
    end_one BadInit s is b = unfit_one s.0.read s.0.heard.gave (inl s.0.cause) is s.0.clerk
    end_one (BadFrame offset) s is b = unfit_one s.0.read s.0.heard.gave (inr (offset, s.0.cause)) is s.0.clerk
    end_one ReadFault s is b =
        other_one (ap (λ (k : Known). k.made.admits) s.0.clerk) b.registers (ap (λ (t : Tally). t.full) is)
        (ap (λ (t : Tally). t.unfit) is)
        (inr (returned_rose (after.source_faults + after.sink_faults) (omega (arith, s.1.1)) visited.returned))
        (same_grows x.clerk y.clerk s.0.clerk)
    end_one Memory s is b = elim s [
      | inl first ↦ other_one (ap (λ (k : Known). k.made.admits) first.0.clerk) b.registers
          (ap (λ (t : Tally). t.full) is) (ap (λ (t : Tally). t.unfit) is) (inl (ap (λ (t : Tally). t.failed) is))
          (same_grows x.clerk y.clerk first.0.clerk)
      | inr asked ↦ other_one (omega (arith, ap (λ (m : Made). m.admits) asked.called.entered.made)) b.registers
          (ap (λ (t : Tally). t.full) is) (ap (λ (t : Tally). t.unfit) is) (inl (ap (λ (t : Tally). t.failed) is))
          (entered_grows x.clerk y.clerk asked.called.at (λ reply. Admit asked.key reply)
          (admit_reply_of (Err refusal.Memory)) asked.called.entered)
    ]
    end_one (NoSession why) s is b = refused_one why s is b
    end_one DialFault s is b =
        keyed_one s.read s.key s.heard.gave s.comes is b (had_grows x.clerk y.clerk s.key s.pass s.session)
    end_one NoThread s is b =
        keyed_one s.read s.key s.heard.gave s.comes is b (had_grows x.clerk y.clerk s.key s.pass s.session)
    end_one (Joined number up down) s is b =
        keyed_one s.packets.read s.key s.packets.gave s.comes is b (had_grows x.clerk y.clerk s.key s.pass s.session)

serves_one : (x y : EnginePost) → ServedEngine x y → Serves 1 x y
serves_one x y s =
    end_one x y s.before s.after s.ide s.visited s.end s.served s.tally
    (counts_noted x.clerk y.clerk x.tally y.tally (with_link x.means s.before) (with_link y.means s.after) s.ide s.end
    s.served s.tally)

rose_on : (a b c : ℕ) → Rose a b → b ≤ c → Rose a c
rose_on a b c rose more = omega (arith, rose, more)

rose_before : (a b c : ℕ) → a ≤ b → Rose b c → Rose a c
rose_before a b c more rose = omega (arith, rose, more)

pub serves_all : (count : ℕ) (x y : EnginePost) → Steps ServedEngine count x y → Serves count x y
serves_all zero x y same =
    record {
      links = [];
      retired = ap (λ (k : EnginePost). k.gate.retired) same ∙ sym (grown_none x.gate.retired);
      number = refl;
      keys = 0;
      with_key = omega (
        arith,
        ap (λ (k : EnginePost). k.clerk.made.admits) same,
        ap (λ (k : EnginePost). k.tally.full) same,
      );
      keyed = tt;
      misfits = 0;
      without_key = omega (arith, ap (λ (k : EnginePost). k.tally.unfit) same);
      unfit = tt;
      later = omega (arith, ap (λ (k : EnginePost). k.gate.returned) same);
      failed = inl (ap (λ (k : EnginePost). k.tally.failed) same);
      full = inl (ap (λ (k : EnginePost). k.tally.full) same);
      grows = same_grows x.clerk y.clerk (ap (λ (k : EnginePost). k.clerk) same);
      registers = ap (λ (k : EnginePost). k.clerk.made.registers) same;
    }
serves_all (suc count) x y s =
    let a : Serves count x s.0 = serves_all count x s.0 s.1 in
    let b : Serves 1 s.0 y = serves_one s.0 y s.2 in
    record {
      links = a.links ++ b.links;
      retired = b.retired ∙ (ap (λ o. grown o b.links) a.retired ∙ grown_twice x.gate.retired a.links b.links);
      number = omega (arith, length-append a.links b.links, a.number, b.number);
      keys = a.keys + b.keys;
      with_key = omega (arith, a.with_key, b.with_key);
      keyed = at_least_both IsKeyed a.keys b.keys a.links b.links a.keyed b.keyed;
      misfits = a.misfits + b.misfits;
      without_key = omega (arith, a.without_key, b.without_key);
      unfit = at_least_both IsUnfit a.misfits b.misfits a.links b.links a.unfit b.unfit;
      later = omega (arith, a.later, b.later);
      failed = elim b.failed [
        | inl same ↦ elim a.failed [
          | inl first ↦ inl (same ∙ first)
          | inr rose ↦ inr (rose_on x.gate.returned s.0.gate.returned y.gate.returned rose b.later)
        ]
        | inr rose ↦ inr (rose_before x.gate.returned s.0.gate.returned y.gate.returned a.later rose)
      ];
      full = elim b.full [
        | inl same ↦ elim a.full [
          | inl first ↦ inl (same ∙ first)
          | inr saw ↦ inr (saw.0, prefix_trans saw.0 s.0.clerk.seen y.clerk.seen saw.1 b.grows, saw.2)
        ]
        | inr saw ↦ inr saw
      ];
      grows = prefix_trans x.clerk.seen s.0.clerk.seen y.clerk.seen a.grows b.grows;
      registers = b.registers ∙ a.registers;
    }
