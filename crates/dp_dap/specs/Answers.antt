-- What a request leads to: the table of requests, and their refusals in the order in which they are
-- tried. What the program does is in the turns of the session alone, one for each line.
use Rattle.std.specs.Prelude.{ℕ, zero, suc, ◌+◌, nat_le, Bool, true, false, not, ◌&&◌, List, [], ◌∷◌, ◌++◌, length, map, filter, Option, Some, None, is_some, option_and_then, option_map, unwrap_or, slice_get, Result, Ok, Err, if◌then◌else◌, codes}
use Rattle.std.specs.List.{find}
use Rattle.std.specs.Option.{option_map_or}
use Rattle.std.specs.Str.{bytes_eq}
use Rattle.serde_json.specs.Data.{Data, boolean}
use Rattle.serde_json.specs.Written.{compact_text}
use Rattle.dp_bodies.specs.Requests.{Request}
use Rattle.dp_conversation.specs.Folds.{Reply}
use Rattle.dp_command.specs.declared.command.Continuation.{Continuation}
use Rattle.dp_command.specs.declared.command.Continuation.TheVariants as going
use Rattle.dp_command.specs.declared.line.Line.{Line}
use Rattle.dp_command.specs.Canonical.{canonical}
use Rattle.dp_command.specs.Numbers.{greatest}
use Rattle.dp_bytes.specs.Decimals.{decimal_in}
use Rattle.dp_bytes.specs.Names.{without_slash}
use Rattle.dp_engine.specs.declared.session.SessionEnd.{SessionEnd}
use Rattle.dp_engine.specs.declared.session.SessionEnd.TheVariants.{Finished}
use Rattle.dp_engine.specs.declared.states.Phase.{Phase}
use Rattle.dp_engine.specs.declared.states.Phase.TheVariants as phase
use Rattle.dp_engine.specs.Answers.{Turn, turn}
use Rattle.dp_engine.specs.Responses.{fault_in}
use Rattle.dp_engine.specs.Session.{State, written_between}
use Rattle.dp_packet.specs.declared.packet.Body.{Body}
use Rattle.dp_packet.specs.declared.packet.Body.TheVariants as body
use Rattle.dp_packet.specs.declared.packet.StackLine.{StackLine}
use Rattle.dp_packet.specs.declared.property.Property.{Property}
use Rattle.dp_state.specs.declared.moments.Outcome.{Outcome}
use Rattle.dp_state.specs.declared.moments.Outcome.TheVariants.{Done, Exit, Fatal, Bound}
use Rattle.dp_wire.specs.Frames.{command_limit}
use Rattle.dp_dap_messages.specs.declared.arguments.Asked.{Asked}
use Rattle.dp_dap_messages.specs.declared.arguments.Hits.{Hits}
use Rattle.dp_dap_messages.specs.declared.arguments.Hits.TheVariants.{Any, On, Bad}
use Rattle.dp_dap_messages.specs.declared.arguments.Wish.{Wish}
use Rattle.dp_dap_messages.specs.declared.arguments.Wish.TheVariants as wish
use Rattle.dp_dap.specs.declared.breakpoints.Kept.{Kept}
use Rattle.dp_dap_messages.specs.declared.effects.News.{News}
use Rattle.dp_dap_messages.specs.declared.effects.News.TheVariants as news
use Rattle.dp_dap_messages.specs.declared.effects.Refusal.{Refusal}
use Rattle.dp_dap_messages.specs.declared.effects.Refusal.TheVariants as refusal
use Rattle.dp_dap_messages.specs.declared.effects.StopReason.{StopReason}
use Rattle.dp_dap_messages.specs.declared.effects.StopReason.TheVariants as reason
use Rattle.dp_dap_messages.specs.declared.lines.Place.{Place}
use Rattle.dp_dap_messages.specs.declared.table.RequestName.{RequestName}
use Rattle.dp_dap_messages.specs.declared.table.RequestName.TheVariants as name
use Rattle.dp_dap_messages.specs.declared.table.Stage.{Stage}
use Rattle.dp_dap_messages.specs.declared.table.Stage.TheVariants as stage
use Rattle.dp_dap_messages.specs.Arguments.{wish_of}
use Rattle.dp_dap.specs.Known.{Known}
use Rattle.dp_dap_messages.specs.Lines.{contexts_line, eval_line, feature_line, finish_line, frame_line, going_line, place_line, remove_line, set_line, stack_line}
use Rattle.dp_dap_messages.specs.Messages.{capabilities, frames_body, list, news_events, numbered, one_member, one_thread, output_events, refused, result_body, success, unverified, verified}
use Rattle.dp_dap_messages.specs.Table.{allows, name_of}
use Rattle.dp_view.specs.Children.{properties_in}
use Rattle.dp_dap_messages.specs.Values.{context_places, frame, places_of, scopes, some_of, value_text, variables}

-- what a request that is not refused leads to: the body of its response, what the program wrote,
-- what became of it, what the gateway knows then, and how it has ended, if it has
pub record Effect : Type 0 where
  pub body : Option Data
  pub written : List ℕ
  pub news : News
  pub next : Known
  pub ended : Option SessionEnd

-- a body alone
abbrev pub bare : Option Data → Known → Effect
bare shown next =
    record { body = shown; written = []; news = news.Nothing; next = next; ended = None }

-- ---- the session

-- what a line leads to
abbrev pub turned : State → Line → Turn
turned state line = turn state (canonical line)

abbrev pub fits : Line → Bool
fits line = nat_le (length (canonical line)) command_limit

-- the answer to a turn: an error is a refusal
abbrev pub unless_fault : Turn → Result Turn Refusal
unless_fault taken =
    option_map_or (λ code. Err (refusal.Code code)) (fault_in taken.response.body) (Ok taken)

-- the answer to a line: one that is too long is not sent
abbrev pub replied : Known → Line → Result Turn Refusal
replied known line =
    if fits line then unless_fault (turned known.session line) else Err refusal.BadArguments

abbrev pub and_then : {A B : Type 0} → (A → Result B Refusal) → Result A Refusal → Result B Refusal
and_then f (Ok a) = f a
and_then f (Err why) = Err why

-- ---- initialize

abbrev pub initialized : Known → Effect
initialized known =
    let first = turned known.session (feature_line (codes "max_children")) in
    let second = turned first.next (feature_line (codes "max_data")) in
    record {
      body = Some capabilities;
      written = [];
      news = news.Initialized;
      next = record known { stage = stage.Ready; session = second.next };
      ended = None;
    }

-- ---- going on

-- the number that a program's end is replied with
abbrev pub exit_code : Outcome → ℕ
exit_code Done = 0
exit_code (Exit code) = code
exit_code (Fatal kind file line) = 255
exit_code Bound = 255

abbrev pub code_of : Option SessionEnd → ℕ
code_of (Some (Finished o)) = exit_code o
code_of other = 255

-- the program has come to its end
abbrev pub has_ended : Phase → Bool
has_ended phase.Stopping = true
has_ended other = false

-- it has ended, and the session gets one run more, which ends it; or it stands
abbrev pub settled : Bool → StopReason → Option Data → List ℕ → Known → Effect
settled true why shown written known =
    let last = turned known.session (going_line going.Run) in
    record {
      body = shown;
      written = written;
      news = news.Ended (code_of last.ended);
      next = record known { stage = stage.Over; session = last.next; over = last.ended };
      ended = None;
    }
settled false why shown written known =
    record {
      body = shown;
      written = written;
      news = news.Stopped why;
      next = record known { stage = stage.Stopped };
      ended = None;
    }

-- the references are forgotten
abbrev pub gone_on : Continuation → StopReason → Option Data → Known → Effect
gone_on mode why shown known =
    let taken = turned known.session (going_line mode) in
    settled (has_ended taken.next.phase) why shown (written_between known.session taken.next)
    (record known { session = taken.next; places = [] })

-- the program starts once launch and configurationDone have both come
abbrev pub start : Option Bool → Bool → Known → Effect
start (Some true) true known = gone_on going.StepInto reason.Entry None known
start (Some false) true known = gone_on going.Run reason.Breakpoint None known
start (Some stops) false known = bare None known
start None configured known = bare None known

abbrev pub launched : Bool → Known → Effect
launched stops known =
    start (Some stops) known.configured (record known { launched = Some stops })

abbrev pub configured : Known → Effect
configured known = start known.launched true (record known { configured = true })

abbrev pub continued : Continuation → Known → Effect
continued going.Run known =
    gone_on going.Run reason.Breakpoint
    (Some (one_member (codes "allThreadsContinued") (boolean true))) known
continued mode known = gone_on mode reason.Step None known

-- ---- breakpoints

abbrev pub is_of : List ℕ → Kept → Bool
is_of path kept = bytes_eq (without_slash kept.path) (without_slash path)

-- one of the path is removed from the session
abbrev pub removed_one : List ℕ → Kept → State → State
removed_one path kept state =
    if is_of path kept then (turned state (remove_line kept.id)).next else state

-- those of the path are removed, in their order
abbrev pub removed : List ℕ → List Kept → State → State
removed path [] state = state
removed path (k ∷ ks) state = removed path ks (removed_one path k state)

abbrev pub cleared : List ℕ → Known → Known
cleared path known = record known {
  session = removed path known.kept known.session;
  kept = filter (λ k. not (is_of path k)) known.kept;
}

-- the id of a breakpoint that was set
abbrev pub id_in : Turn → ℕ
id_in taken =
    unwrap_or (option_and_then (decimal_in greatest) (option_map (λ a. a.1)
    (find (λ a. bytes_eq a.0 (codes "id")) taken.response.attributes))) 0

abbrev pub with_kept : List ℕ → Turn → Known → Known
with_kept path taken known = record known {
  session = taken.next;
  kept = known.kept ++ record { path = path; id = id_in taken } ∷ [];
}

-- one breakpoint: what is replied of it, and what is known then
abbrev pub set_by : List ℕ → ℕ → Known → Result Turn Refusal → Data × Known
set_by path line known (Ok taken) =
    (verified (id_in taken) line, with_kept path taken known)
set_by path line known (Err why) = (unverified why, known)

abbrev pub set_on : List ℕ → Asked → Hits → Known → Data × Known
set_on path asked Bad known = (unverified refusal.BadArguments, known)
set_on path asked Any known =
    set_by path asked.line known (replied known (set_line path asked.line None asked.condition))
set_on path asked (On hits) known =
    set_by path asked.line known
    (replied known (set_line path asked.line (Some hits) asked.condition))

abbrev pub set_one : List ℕ → Asked → Known → Data × Known
set_one path asked known = set_on path asked asked.hits known

abbrev pub set_all : List ℕ → List Asked → Known → List Data × Known
set_all path [] known = ([], known)
set_all path (a ∷ rest) known =
    let one = set_one path a known in
    let others = set_all path rest one.1 in
    (one.0 ∷ others.0, others.1)

abbrev pub breakpoints_set : List ℕ → List Asked → Known → Effect
breakpoints_set path asked known =
    let all = set_all path asked (cleared path known) in
    bare (Some (list (codes "breakpoints") all.0)) all.1

-- ---- looking

abbrev pub stacks_in : Body → List StackLine
stacks_in (body.Stacks lines) = lines
stacks_in other = []

abbrev pub contexts_in : Body → List (List ℕ × ℕ)
contexts_in (body.Contexts contexts) = contexts
contexts_in other = []

abbrev pub shown_in : Body → List Property
shown_in (body.Properties properties) = properties
shown_in other = []

abbrev pub stack_shown : ℕ → ℕ → Known → Result Effect Refusal
stack_shown first most known =
    and_then (λ taken. let lines = stacks_in taken.response.body in
    Ok (bare (Some (frames_body (map frame (some_of first most lines)) (length lines))) known))
    (replied known stack_line)

-- the most references at a time
abbrev pub reference_limit : ℕ
reference_limit = 1000000

-- places are listed, as long as there are not too many
abbrev pub with_places : List Place → Data → Known → Result Effect Refusal
with_places more shown known =
    if nat_le (length known.places + length more) reference_limit
    then Ok (bare (Some shown) (record known { places = known.places ++ more }))
    else Err refusal.TooManyReferences

abbrev pub contexts_shown : ℕ → Known → Turn → Result Effect Refusal
contexts_shown level known taken =
    let contexts = contexts_in taken.response.body in
    with_places (context_places level contexts)
    (list (codes "scopes") (scopes (length known.places) contexts)) known

-- In a break the line of a frame is refused by 301 alone: there is no such frame.
abbrev pub frame_known : Known → ℕ → Result Turn Refusal → Result Turn Refusal
frame_known known level (Ok taken) = replied known contexts_line
frame_known known level (Err why) = Err refusal.BadArguments

abbrev pub scopes_shown : ℕ → Known → Result Effect Refusal
scopes_shown zero known = Err refusal.BadArguments
scopes_shown (suc level) known =
    and_then (contexts_shown level known)
    (frame_known known level (replied known (frame_line level)))

-- what a place holds: the variables of a context, or the entries of an array
abbrev pub held_at : Option (List ℕ) → List Property → List Property
held_at None properties = properties
held_at (Some name) [] = []
held_at (Some name) (p ∷ ps) = properties_in p

abbrev pub held_shown : Place → Known → Turn → Result Effect Refusal
held_shown place known taken =
    let shown = held_at place.name (shown_in taken.response.body) in
    with_places (places_of place shown)
    (list (codes "variables") (variables (length known.places) shown)) known

abbrev pub place_shown : Option Place → Known → Result Effect Refusal
place_shown None known = Err refusal.BadArguments
place_shown (Some place) known =
    and_then (held_shown place known) (replied known (place_line place))

abbrev pub place_at : ℕ → Known → Option Place
place_at zero known = None
place_at (suc index) known = slice_get known.places index

-- ---- evaluating

abbrev pub result_in : List Property → List ℕ
result_in [] = []
result_in (p ∷ ps) = value_text p.shape

abbrev pub evaluated : List ℕ → Known → Result Effect Refusal
evaluated expression known =
    and_then (λ taken. Ok (record {
      body = Some (result_body (result_in (shown_in taken.response.body)));
      written = written_between known.session taken.next;
      news = news.Nothing;
      next = record known { session = taken.next };
      ended = None;
    })) (replied known (eval_line expression))

-- ---- the end

-- the session is ended too
abbrev pub closed : Bool → Known → Effect
closed detaches known =
    let taken = turned known.session (finish_line detaches) in
    record {
      body = None;
      written = [];
      news = news.Nothing;
      next = record known { session = taken.next };
      ended = taken.ended;
    }

abbrev pub disconnected : Stage → Bool → Known → Effect
disconnected stage.Over detaches known =
    record { body = None; written = []; news = news.Nothing; next = known; ended = known.over }
disconnected other detaches known = closed detaches known

-- ---- requests

-- what is asked for is done, or refused
abbrev pub performed : Wish → Known → Result Effect Refusal
performed wish.Initialize known = Ok (initialized known)
performed (wish.Launch stops) known = Ok (launched stops known)
performed wish.ConfigurationDone known = Ok (configured known)
performed wish.SetExceptionBreakpoints known = Ok (bare None known)
performed (wish.SetBreakpoints path asked) known = Ok (breakpoints_set path asked known)
performed wish.Threads known = Ok (bare (Some one_thread) known)
performed (wish.StackTrace first most) known = stack_shown first most known
performed (wish.Scopes frame) known = scopes_shown frame known
performed (wish.Variables reference) known = place_shown (place_at reference known) known
performed (wish.GoOn mode) known = Ok (continued mode known)
performed (wish.Evaluate expression) known = evaluated expression known
performed (wish.Disconnect detaches) known = Ok (disconnected known.stage detaches known)

-- it has come before
abbrev pub comes_again : RequestName → Known → Bool
comes_again name.Launch known = is_some known.launched
comes_again name.ConfigurationDone known = known.configured
comes_again other known = false

abbrev pub by_wish : Option Wish → Known → Result Effect Refusal
by_wish None known = Err refusal.BadArguments
by_wish (Some asked) known = performed asked known

abbrev pub by_name : Option RequestName → Option Data → Known → Result Effect Refusal
by_name None arguments known = Err refusal.Unsupported
by_name (Some asked) arguments known =
    if allows asked known.stage && not (comes_again asked known)
    then by_wish (wish_of asked arguments) known else Err refusal.NotNow

-- what a request leads to, or why it is refused
abbrev pub tried : Request → Known → Result Effect Refusal
tried request known = by_name (name_of request.command) request.arguments known

-- ---- answers

abbrev pub with_messages : List Data → List ℕ → Known → Option SessionEnd → Reply Known SessionEnd
with_messages messages written next ended = record {
  packets = map compact_text messages;
  program = written;
  state = record next { sent = next.sent + length messages };
  ended = ended;
}

-- the response, then what the program wrote, then what became of it
abbrev pub messages_of : ℕ → Request → Effect → List Data
messages_of sent request effect =
    success (sent + 1) request effect.body
    ∷ numbered (sent + 1) (output_events effect.written ++ news_events effect.news)

abbrev pub with_result : Request → Known → Result Effect Refusal → Reply Known SessionEnd
with_result request known (Ok effect) =
    with_messages (messages_of known.sent request effect) effect.written effect.next effect.ended
with_result request known (Err why) =
    with_messages (refused (known.sent + 1) request why ∷ []) [] known None

-- the answer to a request
unfoldable pub answer : Known → Request → Reply Known SessionEnd
answer known request = with_result request known (tried request known)
