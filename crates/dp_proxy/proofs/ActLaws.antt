-- The rows of the table of acts, and what they leave of the live sessions.
use Rattle.std.proofs.Common.{◌≡◌, ◌⊎◌, ℕ, ◌<◌, true, false, if◌then◌else◌, List, [], ◌∷◌, ◌++◌, Option, Some, None, Result, Ok, Err, IfOk, Contains}
use Rattle.std.proofs.Common.{refl, sym, ap, subst, ◌∙◌, inl, inr, arith}
use Rattle.std.proofs.lemmas.Bool.{ne_eqb}
use Rattle.std.proofs.lemmas.Option.{same_Some}
use Rattle.dp_registry.specs.declared.entry.Entry.{Entry}
use Rattle.dp_registry.specs.declared.entry.Entry.TheVariants as entry
use Rattle.dp_registry.specs.declared.entry.AdmitReply.{AdmitReply}
use Rattle.dp_registry.specs.declared.pass.Pass.{Pass}
use Rattle.dp_registry.specs.declared.refusal.Refusal.{Refusal}
use Rattle.dp_registry.specs.Journal.{dismisses, given, live, is_live, IsNew}
use Rattle.dp_registry.specs.declared.refusal.Refusal.TheVariants as refusal
use Rattle.dp_outside.specs.Names.{IsKey}
use Rattle.dp_registry.specs.Verdicts.{admit_verdict, admit_reply_of, noted, reply_of, IsAnswer}
use Rattle.dp_registry.proofs.Lists.{from_filter}
use Rattle.dp_registry.proofs.LiveSessions.{still_lives, noted_lives}
use Rattle.dp_lanes.specs.declared.lane.Lane.{Lane}
use Rattle.dp_lanes.specs.declared.lane.LaneKind.{LaneKind}
use Rattle.dp_lanes.specs.declared.lane.LaneKind.TheVariants.{Up, Down}
use Rattle.dp_lanes.specs.Places.{kind_of, received_in, left_of, Follows}
use Rattle.dp_proxy.specs.declared.calls.Call.{Call}
use Rattle.dp_proxy.specs.declared.calls.Call.TheVariants.{Register, Stop}
use Rattle.dp_proxy.specs.declared.events.Act.{Act}
use Rattle.dp_proxy.specs.declared.events.Act.TheVariants.{Ide, Engine, Given, Moved, Closed}
use Rattle.dp_proxy.specs.declared.errors.ProxyError.TheVariants.{BadInit, BadFrame}
use Rattle.dp_proxy.specs.declared.events.Effect.{Effect}
use Rattle.dp_proxy.specs.declared.events.Effect.TheVariants.{Nothing, Reply, Admitted, Turned}
use Rattle.dp_proxy.specs.declared.input.Hearing.TheVariants.{More, Silence, Asked}
use Rattle.dp_proxy.specs.declared.passes.Passing.TheVariants.{Answered, Broken}
use Rattle.dp_proxy.specs.declared.passes.Passing.TheVariants as passing
use Rattle.dp_proxy.specs.declared.kept.Kept.{Kept}
use Rattle.dp_proxy.specs.declared.kept.Kept.TheVariants as keep
use Rattle.dp_proxy.specs.declared.kept.Step.{Step}
use Rattle.dp_proxy.specs.Calls.{call_of}
use Rattle.dp_proxy.specs.Links.{passed, ends}
use Rattle.dp_proxy.specs.Pasts.{Link, New, Asking, Settled, Joined, Ended, Refused, Lead, lead, without_effect, question, listening, answered, opened}
use Rattle.dp_proxy.specs.Replies.{entry_of, verdict_on, reply_frame, registered, registered_by}
use Rattle.dp_proxy.specs.Invariant.{IsOver, IsKept, session_in}
use Rattle.dp_proxy.specs.Steps.{ComesWithKey}
use Rattle.dp_proxy.specs.inner.Lanes.{FollowBoth}
use Rattle.dp_proxy.specs.inner.Acts.{Hears, Passes, Leads, LeavesOthers, IsOwn}

-- ---- rows

pub ide_comes : (journal : List Entry) (host : List ℕ) → lead journal New (Ide host) ≡ without_effect journal
    (Asking host [])
unfolding lead
ide_comes journal host = refl

pub engine_comes : (journal : List Entry) (key : List ℕ) (verdict : Result Pass Refusal)
    → verdict ≡ admit_verdict journal key
    → lead journal New (Engine key) ≡ opened journal key verdict
unfolding lead
engine_comes journal key verdict e = ap (opened journal key) (sym e)

pub given_before : (journal : List Entry) (bytes : List ℕ) → lead journal New (Given bytes) ≡ without_effect journal New
unfolding lead
given_before journal bytes = refl

pub moved_before : (journal : List Entry) (bytes : List ℕ) → lead journal New (Moved bytes) ≡ without_effect journal New
unfolding lead
moved_before journal bytes = refl

pub closed_before : (journal : List Entry) → lead journal New Closed ≡ without_effect journal New
unfolding lead
closed_before journal = refl

pub heard_more : (journal : List Entry) (host heard : List ℕ) (act : Act) (link : Link) → question heard act ≡ None
    → listening host heard act ≡ link
    → lead journal (Asking host heard) act ≡ without_effect journal link
unfolding lead
heard_more journal host heard act link none e =
    ap (λ q. answered journal host q (listening host heard act)) none ∙ ap (without_effect journal) e

abbrev pub settled : List Entry → List ℕ → List ℕ → Lead
settled journal host command = record {
  link = Settled host (reply_frame journal host command);
  journal = registered journal host command;
  effect = Some (Reply (reply_frame journal host command));
}

pub heard_all : (journal : List Entry) (host heard : List ℕ) (act : Act) (command : List ℕ)
    → question heard act ≡ Some command
    → lead journal (Asking host heard) act ≡ settled journal host command
unfolding lead
heard_all journal host heard act command e = ap (λ q. answered journal host q (listening host heard act)) e

module _ (journal : List Entry) (key : List ℕ) (pass : Pass) (acts : List Act) (act : Act) where
  abbrev pub on : Lead
  on = record { link = Joined key pass (acts ++ act ∷ []); journal = journal; effect = passed acts act }

  abbrev pub over : Lead
  over =
      record {
        link = Ended key pass acts;
        journal = journal ++ entry.Dismiss pass.session
            ∷ [];
        effect = passed acts act;
      }

  pub joined_on : ends acts act ≡ false → lead journal (Joined key pass acts) act ≡ on
  unfolding lead
  joined_on e = ap (λ t. if t then over else on) e

  pub joined_over : ends acts act ≡ true → lead journal (Joined key pass acts) act ≡ over
  unfolding lead
  joined_over e = ap (λ t. if t then over else on) e

pub over_still : (journal : List Entry) (link : Link) (act : Act) → IsOver link
    → lead journal link act ≡ without_effect journal link
unfolding lead
over_still journal New act h = absurd h
over_still journal (Asking host heard) act h = absurd h
over_still journal (Settled host reply) act h = refl
over_still journal (Joined key pass acts) act h = absurd h
over_still journal (Ended key pass acts) act h = refl
over_still journal (Refused key why) act h = refl

-- ---- live sessions

pub same_leaves : (journal next : List Entry) (kept : Option Kept) → next ≡ journal → LeavesOthers journal next kept
same_leaves journal next kept e = λ s lives other. subst (λ (j : List Entry). Contains (live j) s) (sym e) lives

entry_ends_none : (s : ℕ) (host : List ℕ) (call : Call) (reply : ℕ) → dismisses s (entry_of host call reply) ≡ false
entry_ends_none s host (Register port key multiple) reply = refl
entry_ends_none s host (Stop key) reply = refl

pub call_leaves : (journal : List Entry) (host : List ℕ) (call : Option Call)
    → LeavesOthers journal (registered_by journal host call) None
call_leaves journal host None = λ s lives other. lives
call_leaves journal host (Some call) = λ s lives other.
    noted_lives journal s lives (entry_of host call) (reply_of (verdict_on journal host call))
    (entry_ends_none s host call)

pub registered_leaves : (journal next : List Entry) (host command : List ℕ)
    → (next ≡ journal) ⊎ (next ≡ registered journal host command)
    → LeavesOthers journal next None
registered_leaves journal next host command (inl e) = same_leaves journal next None e
registered_leaves journal next host command (inr e) = λ s lives other.
    subst (λ (j : List Entry). Contains (live j) s) (sym e) (call_leaves journal host (call_of command) s lives other)

pub dismissed_leaves : (journal next : List Entry) (pass : Pass) (up down : Lane)
    → next ≡ journal ++ entry.Dismiss pass.session ∷ []
    → LeavesOthers journal next (Some (keep.Joined pass up down))
dismissed_leaves journal next pass up down e = λ s lives other.
    subst (λ (j : List Entry). Contains (live j) s) (sym e)
    (still_lives journal s lives (entry.Dismiss pass.session) (ne_eqb pass.session s (λ same. other (ap Some same))))

pub admit_leaves : (journal next : List Entry) (key : List ℕ) (reply : Option AdmitReply)
    → next ≡ noted journal (λ r. entry.Admit key r) reply
    → LeavesOthers journal next None
admit_leaves journal next key reply e = λ s lives other.
    subst (λ (j : List Entry). Contains (live j) s) (sym e) (noted_lives journal s lives (λ r. entry.Admit key r) reply
    (λ r. refl))

pub new_is_own : (journal : List Entry) (pass : Pass) (up down : Lane) → IsNew journal pass.session
    → IsOwn journal None (Some (keep.Joined pass up down))
new_is_own journal pass up down new = λ s e. inr (λ lives.
    let same : pass.session ≡ s = same_Some pass.session s e in
    let less : s < pass.session = new.above s (from_filter (is_live journal) (given journal) s lives).0 in
    omega arith)

pub none_is_own : (journal : List Entry) (kept after : Option Kept) → session_in after ≡ None → IsOwn journal kept after
none_is_own journal kept after e = λ s f. let clash : None ≡ Some s = sym e ∙ f in absurd cc

-- ---- what one act leads to

pub over_comes : (link : Link) (act : Act) → IsOver link → ComesWithKey link act
over_comes New act h = absurd h
over_comes (Asking host heard) act h = absurd h
over_comes (Settled host reply) act h = tt
over_comes (Joined key pass acts) act h = absurd h
over_comes (Ended key pass acts) act h = tt
over_comes (Refused key why) act h = tt

module _ (journal next : List Entry) (link : Link) (act : Act) where
  -- an effect
  effect_leads : (t : Lead) (kept : Option Kept) (effect : Effect) → lead journal link act ≡ t → ComesWithKey link act
      → t.effect ≡ Some effect
      → next ≡ t.journal → IsKept kept t.link → Leads journal link act next (record { kept = kept; answer = Ok effect })
  effect_leads t kept effect e comes told noted is = record {
    answers = (comes, ap (λ (u : Lead). u.effect) e ∙ told);
    moves = (noted ∙ sym (ap (λ (u : Lead). u.journal) e), subst (λ (u : Lead). IsKept kept u.link) (sym e) is);
  }

  pub without_effect_leads : (after : Link) (kept : Option Kept) → lead journal link act ≡ without_effect journal after
      → ComesWithKey link act → next ≡ journal → IsKept kept after
      → Leads journal link act next (record { kept = kept; answer = Ok Nothing })
  without_effect_leads after kept e comes same is = effect_leads
      (without_effect journal after) kept Nothing e comes refl same is

-- an engine

module _ (journal next : List Entry) (key : List ℕ) (is_key : IsKey key) where
  pub refused_leads : (why : Refusal) → (why ≡ refusal.Memory → ⊥) → IsAnswer (admit_verdict journal key) (Err why)
      → next ≡ noted journal (λ r. entry.Admit key r) (admit_reply_of (Err why))
      → Leads journal New (Engine key) next (record { kept = Some keep.Over; answer = Ok (Turned why) })
  refused_leads why known (inl memory) put = absurd (known (same_err why refusal.Memory memory)) where
    same_err : (a b : Refusal) → ◌≡◌ {A = Result Pass Refusal} (Err a) (Err b) → a ≡ b
    same_err a b e = cc
  refused_leads why known (inr verdict) put =
      effect_leads journal next New (Engine key) (opened journal key (Err why)) (Some keep.Over) (Turned why)
      (engine_comes journal key (Err why) verdict) is_key refl put tt

  pub admitted_leads : (pass : Pass) (up down : Lane) → Follows Up up [] → Follows Down down []
      → IsAnswer (admit_verdict journal key) (Ok pass)
      → next ≡ noted journal (λ r. entry.Admit key r) (admit_reply_of (Ok pass))
      → Leads journal New (Engine key) next (record {
        kept = Some (keep.Joined pass up down);
        answer = Ok
            (Admitted pass.session pass.host pass.port);
      })
  admitted_leads pass up down p q (inl memory) put = absurd (not_ok pass refusal.Memory memory) where
    not_ok : (a : Pass) (b : Refusal) → ◌≡◌ {A = Result Pass Refusal} (Ok a) (Err b) → ⊥
    not_ok a b e = cc
  admitted_leads pass up down p q (inr verdict) put =
      effect_leads journal next New (Engine key) (opened journal key (Ok pass)) (Some (keep.Joined pass up down))
      (Admitted pass.session pass.host pass.port)
      (engine_comes journal key (Ok pass) verdict) is_key refl put
      (record { key = key; acts = []; is = refl; packets = p; commands = q })

-- an engine without a key
pub keyless_leads : (journal next : List Entry) (key : List ℕ) → (IsKey key → ⊥) → next ≡ journal
    → Leads journal New (Engine key) next (record { kept = None; answer = Err BadInit })
keyless_leads journal next key isnt same = record { answers = isnt; moves = (same, refl) }

-- an IDE that asks

module _ (journal next : List Entry) (host heard : List ℕ) (act : Act) where
  pub more_leads : (now : List ℕ) (kept : Option Kept) → Hears heard act More now → IsKept kept (Asking host now)
      → next ≡ journal
      → Leads journal (Asking host heard) act next (record { kept = kept; answer = Ok Nothing })
  more_leads now kept h is same =
      without_effect_leads journal next (Asking host heard) act (Asking host now) kept
      (heard_more journal host heard act (Asking host now) h.0 (h.2 host)) tt same is

  pub silent_leads : (now : List ℕ) → Hears heard act Silence now → next ≡ journal
      → Leads journal (Asking host heard) act next (record { kept = Some keep.Over; answer = Ok Nothing })
  silent_leads now h same =
      without_effect_leads journal next (Asking host heard) act (Settled host []) (Some keep.Over)
      (heard_more journal host heard act (Settled host []) h.0 (h.1 host)) tt same tt

  pub question_leads : (command frame : List ℕ) → Hears heard act Asked command → frame
      ≡ reply_frame journal host command
      → next ≡ registered journal host command
      → Leads journal (Asking host heard) act next (record { kept = Some keep.Over; answer = Ok (Reply frame) })
  question_leads command frame h is put =
      effect_leads journal next (Asking host heard) act (settled journal host command) (Some keep.Over) (Reply frame)
      (heard_all journal host heard act command h) tt
      (ap (λ (f : List ℕ). Some (Reply f)) (sym is)) put tt

-- a session

module _ (journal next : List Entry) (key : List ℕ) (pass : Pass) (acts : List Act) (act : Act) where
  pub on_leads : (up down : Lane) (effect : Effect) → Passes acts act (Answered effect)
      → FollowBoth (acts ++ act ∷ []) up down → next ≡ journal
      → Leads journal (Joined key pass acts) act next (record
      { kept = Some (keep.Joined pass up down); answer = Ok effect })
  on_leads up down effect p f same =
      effect_leads journal next (Joined key pass acts) act (on journal key pass acts act)
      (Some (keep.Joined pass up down)) effect
      (joined_on journal key pass acts act p.1) tt p.0 same
      (record { key = key; acts = acts ++ act ∷ []; is = refl; packets = f.packets; commands = f.commands })

  pub closed_leads : Passes acts act passing.Closed → next ≡ journal ++ entry.Dismiss pass.session ∷ []
      → Leads journal (Joined key pass acts) act next (record { kept = Some keep.Over; answer = Ok Nothing })
  closed_leads p put =
      effect_leads journal next (Joined key pass acts) act (over journal key pass acts act) (Some keep.Over) Nothing
      (joined_over journal key pass acts act p.1) tt p.0 put tt

  pub broken_leads : (offset : ℕ) → Passes acts act (Broken offset) → next ≡ journal ++ entry.Dismiss pass.session ∷ []
      → Leads journal (Joined key pass acts) act next (record { kept = Some keep.Over; answer = Err (BadFrame offset) })
  broken_leads offset p put =
      let e = joined_over journal key pass acts act p.1 in
      record {
        answers = (tt, ap (λ (u : Lead). u.effect) e ∙ p.0, p.2);
        moves = (
          put ∙ sym (ap (λ (u : Lead). u.journal) e),
          subst (λ (u : Lead). IsKept (Some keep.Over) u.link)
              (sym e) tt,
        );
      }

-- lanes in which nothing came
pub fresh_follows : (kind : LaneKind) (lane : Lane) → kind_of lane ≡ kind → (received_in lane).held ≡ []
    → (received_in lane).dropped ≡ 0 → Follows kind lane []
fresh_follows kind lane way held dropped = record { way = way; rest = by kind } where
  by : (k : LaneKind) → received_in lane ≡ left_of k []
  by Up = λ i. record { held = held i; dropped = dropped i }
  by Down = λ i. record { held = held i; dropped = dropped i }

-- an engine that was refused, or out of memory
pub refused_answer : {E : Type 0} (journal next : List Entry) (key : List ℕ) → IsKey key
    → (why : Refusal) (r : Result Step E) → IfOk r (λ step. why ≡ refusal.Memory → ⊥)
    → IfOk r (λ step. step ≡ record { kept = Some keep.Over; answer = Ok (Turned why) })
    → IsAnswer (admit_verdict journal key) (Err why)
    → next ≡ noted journal (λ r. entry.Admit key r) (admit_reply_of (Err why))
    → IfOk r (Leads journal New (Engine key) next)
refused_answer journal next key k why (Ok step) known e verdict put =
    subst (Leads journal New (Engine key) next) (sym e) (refused_leads journal next key k why known verdict put)
refused_answer journal next key k why (Err m) known e verdict put = tt
