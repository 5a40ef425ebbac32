-- What the code of the gateway leads to, in the words of the definitions.
use Rattle.std.specs.Prelude.{◌≡◌, ◌<◌, ◌≤◌, ℕ, List, [], length, ⊤, Option, None, Some, option_map, Result, Ok, Err}
use Rattle.serde_json.specs.Data.{Data}
use Rattle.serde_json.specs.declared.value.Value.{Value}
use Rattle.serde_json.specs.View.{view}
use Rattle.dp_conversation.specs.Folds.{Reply}
use Rattle.dp_command.specs.declared.command.Continuation.{Continuation}
use Rattle.dp_engine.specs.declared.session.Report.{Report}
use Rattle.dp_engine.specs.declared.session.SessionEnd.{SessionEnd}
use Rattle.dp_engine.specs.Answers.{Turn, turn, turn_with}
use Rattle.dp_engine.specs.Responses.{fault_in}
use Rattle.dp_engine.specs.Session.{written_between}
use Rattle.dp_wire.specs.Frames.{command_limit}
use Rattle.dp_dap.specs.declared.effects.DapAnswer.{DapAnswer}
use Rattle.dp_dap.specs.declared.effects.Effect.{Effect}
use Rattle.dp_dap_messages.specs.declared.effects.News.{News}
use Rattle.dp_dap_messages.specs.declared.effects.News.TheVariants as news
use Rattle.dp_dap_messages.specs.declared.effects.Refusal.{Refusal}
use Rattle.dp_dap_messages.specs.declared.effects.Refusal.TheVariants as refusal
use Rattle.dp_dap_messages.specs.declared.effects.StopReason.{StopReason}
use Rattle.dp_dap.specs.declared.effects.Unanswered.{Unanswered}
use Rattle.dp_dap.specs.declared.effects.Unanswered.TheVariants.{Refused, Memory}
use Rattle.dp_dap.specs.Answers as spec
use Rattle.dp_dap.specs.Known.{Known}
use Rattle.dp_dap_messages.specs.Lines.{going_line}

-- a body alone
pub record IsBare (body : Option Value) (effect : Effect) : Type 0 where
  pub is_body : effect.body ≡ body
  pub written : effect.written ≡ []
  pub is_news : effect.news ≡ news.Nothing
  pub goes_on : effect.ended ≡ None

-- an effect of the code, after which this is known
abbrev pub effect_of : Effect → Known → spec.Effect
effect_of effect next = record {
  body = option_map view effect.body;
  written = effect.written;
  news = effect.news;
  next = next;
  ended = effect.ended;
}

-- what a request leads to was done, and this is known then
abbrev pub DidSo : Result spec.Effect Refusal → Effect → Known → Type 0
DidSo result effect new = result ≡ Ok (effect_of effect new)

-- a report of a line: the turn of the session, but for which nothing has changed
pub record Reports (line : List ℕ) (report : Report) (old new : Known) : Type 0 where
  pub turned : turn_with report new.session ≡ turn old.session line
  pub written : report.written ≡ written_between old.session new.session
  pub kept : new ≡ (record old { session = new.session })

-- the report of a line that is not refused
pub record IsReplied (line : List ℕ) (report : Report) (old new : Known) : Type 0 where
  pub fits : length line ≤ command_limit
  pub reports : Reports line report old new
  pub no_fault : fault_in report.response.body ≡ None

-- a look was answered, and nothing has changed
pub record Looks (result : Result Turn Refusal) (report : Report) (old new : Known) : Type 0 where
  pub is_turn : result ≡ Ok (turn_with report new.session)
  pub stays : new ≡ old

-- why a line is refused: it is too long and was not sent, or the session answered an error
abbrev pub IsNotReplied : List ℕ → Unanswered → Known → Known → Type 0
IsNotReplied line (Refused refusal.BadArguments) old new =
    (command_limit < length line) × (new ≡ old)
IsNotReplied line (Refused (refusal.Code code)) old new =
    (report : Report) × (length line ≤ command_limit) × Reports line report old new
    × (fault_in report.response.body ≡ Some code)
IsNotReplied line (Refused other) old new = ⊥
IsNotReplied line Memory old new = ⊤

-- the session went on, the program wrote this on the way, and the references are forgotten
abbrev pub Advances : Continuation → List ℕ → Known → Known → Type 0
Advances mode written old new =
    let taken = spec.turned old.session (going_line mode) in
    (written ≡ written_between old.session taken.next)
    × (new ≡ (record old { session = taken.next; places = [] }))

-- what became of the program then is told, whatever else is
abbrev pub Settles : StopReason → News → Known → Known → Type 0
Settles why news old new =
    (shown : Option Data) (written : List ℕ)
    → spec.settled (spec.has_ended old.session.phase) why shown written old
    ≡ record { body = shown; written = written; news = news; next = new; ended = None }

-- it was refused, and nothing has changed
abbrev pub Refuses : {A : Type 0} → Result A Refusal → Unanswered → Known → Known → Type 0
Refuses result (Refused why) old new = (result ≡ Err why) × (new ≡ old)
Refuses result Memory old new = ⊤

-- the answer is this reply, after which this is known
abbrev pub Answers : Reply Known SessionEnd → DapAnswer → Known → Type 0
Answers reply answer new = reply ≡ record {
  packets = answer.messages;
  program = answer.program;
  state = new;
  ended = answer.ended;
}
