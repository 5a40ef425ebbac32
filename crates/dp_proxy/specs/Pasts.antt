-- What has come of a list of events: the journal of the registry, and what is known of each link.
-- All is kept whole here: a proxy that works keeps only what has not been handed out.
use Rattle.std.specs.Prelude.{ℕ, ◌==◌, if◌then◌else◌, List, [], ◌∷◌, ◌++◌, fold}
use Rattle.std.specs.Prelude.{Option, Some, None, Result, Ok, Err}
use Rattle.dp_registry.specs.declared.entry.Entry.{Entry}
use Rattle.dp_registry.specs.declared.entry.Entry.TheVariants as entry
use Rattle.dp_registry.specs.declared.pass.Pass.{Pass}
use Rattle.dp_registry.specs.declared.refusal.Refusal.{Refusal}
use Rattle.dp_registry.specs.Verdicts.{admit_verdict, admit_reply_of, noted}
use Rattle.dp_wire.specs.Frames.{has_no_nul, up_to_nul}
use Rattle.dp_proxy.specs.declared.events.Act.{Act}
use Rattle.dp_proxy.specs.declared.events.Act.TheVariants.{Ide, Engine, Given, Closed}
use Rattle.dp_proxy.specs.declared.events.Effect.{Effect}
use Rattle.dp_proxy.specs.declared.events.Effect.TheVariants.{Nothing, Reply, Admitted, Turned}
use Rattle.dp_proxy.specs.declared.events.Event.{Event}
use Rattle.dp_proxy.specs.Links.{passed, ends}
use Rattle.dp_proxy.specs.Replies.{reply_frame, registered}

-- What is known of a link: nothing; that of an IDE which has sent these bytes and is not answered;
-- that of one which was sent this reply, or closed before it sent a byte; that of an engine with a
-- session, which is open after these acts or ended behind them; or that of one that was refused.
pub data Link : Type 0 where
  New : Link
  Asking : (host heard : List ℕ) → Link
  Settled : (host reply : List ℕ) → Link
  Joined : (key : List ℕ) → Pass → List Act → Link
  Ended : (key : List ℕ) → Pass → List Act → Link
  Refused : (key : List ℕ) → Refusal → Link

-- What an act leads to: what is known of its link then, the journal, and the effect; none where the
-- link is broken.
pub record Lead : Type 0 where
  pub link : Link
  pub journal : List Entry
  pub effect : Option Effect

abbrev pub without_effect : List Entry → Link → Lead
without_effect journal link = record { link = link; journal = journal; effect = Some Nothing }

-- ---- an IDE that asks

-- the command that is asked with this act: what came before the first NUL, or all at the closing
abbrev pub question : List ℕ → Act → Option (List ℕ)
question heard (Given bytes) =
    if has_no_nul (heard ++ bytes) then None else Some (up_to_nul (heard ++ bytes))
question (byte ∷ heard) Closed = Some (byte ∷ heard)
question heard act = None

-- where none is asked
abbrev pub listening : List ℕ → List ℕ → Act → Link
listening host heard (Given bytes) = Asking host (heard ++ bytes)
listening host heard Closed = Settled host []
listening host heard act = Asking host heard

abbrev pub answered : List Entry → List ℕ → Option (List ℕ) → Link → Lead
answered journal host None link = without_effect journal link
answered journal host (Some command) link = record {
  link = Settled host (reply_frame journal host command);
  journal = registered journal host command;
  effect = Some (Reply (reply_frame journal host command));
}

-- ---- an engine that comes, and its session

abbrev pub admitted : List ℕ → Result Pass Refusal → Link
admitted key (Ok pass) = Joined key pass []
admitted key (Err why) = Refused key why

abbrev pub admission : Result Pass Refusal → Effect
admission (Ok pass) = Admitted pass.session pass.host pass.port
admission (Err why) = Turned why

abbrev pub opened : List Entry → List ℕ → Result Pass Refusal → Lead
opened journal key verdict = record {
  link = admitted key verdict;
  journal = noted journal (λ reply. entry.Admit key reply) (admit_reply_of verdict);
  effect = Some (admission verdict);
}

abbrev pub carried : List Entry → List ℕ → Pass → List Act → Act → Lead
carried journal key pass acts act =
    if ends acts act
    then record {
      link = Ended key pass acts;
      journal = journal ++ entry.Dismiss pass.session ∷ [];
      effect = passed acts act;
    } else record {
      link = Joined key pass (acts ++ act ∷ []);
      journal = journal;
      effect = passed acts act;
    }

-- ---- events

-- what an act on a link leads to, where so much is known of it
unfoldable pub lead : List Entry → Link → Act → Lead
lead journal New (Ide host) = without_effect journal (Asking host [])
lead journal New (Engine key) = opened journal key (admit_verdict journal key)
lead journal New act = without_effect journal New
lead journal (Asking host heard) act =
    answered journal host (question heard act) (listening host heard act)
lead journal (Settled host reply) act = without_effect journal (Settled host reply)
lead journal (Joined key pass acts) act = carried journal key pass acts act
lead journal (Ended key pass acts) act = without_effect journal (Ended key pass acts)
lead journal (Refused key why) act = without_effect journal (Refused key why)

pub record Past : Type 0 where
  pub journal : List Entry
  pub link : ℕ → Link

abbrev pub start : Past
start = record { journal = []; link = λ number. New }

abbrev pub lead_at : Past → ℕ → Act → Lead
lead_at past number act = lead past.journal (past.link number) act

-- an act changes what is known of its own link, and the journal
abbrev pub came : Past → ℕ → Act → Past
came past number act = record {
  journal = (lead_at past number act).journal;
  link = λ other. if other == number then (lead_at past number act).link else past.link other;
}

-- what has come of these events
abbrev pub past_of : List Event → Past
past_of events = fold (λ past event. came past event.link event.act) start events

-- what happened on the link of a session until it ended
abbrev pub acts_of : Link → List Act
acts_of (Joined key pass acts) = acts
acts_of (Ended key pass acts) = acts
acts_of link = []
