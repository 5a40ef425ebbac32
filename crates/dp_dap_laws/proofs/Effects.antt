-- What requests lead to in the session of the gateway: what the program writes is told with them, and no write is
-- accepted but that of an evaluation.
use Rattle.std.proofs.Common.{◌≡◌, ◌≢◌, ℕ, Bool, true, false, List, [], ◌∷◌, Option, Some, None, Result, Ok, Err, refl, sym, subst, ap, ◌∙◌, arith, nat_le, zero, suc, ◌+◌, ◌++◌, codes, length, map}
use Rattle.std.specs.Prelude.{IfSome, if◌then◌else◌, ◌&&◌, not, option_and_then, option_map}
use Rattle.std.specs.List.{AllByRecursion, list_all}
use Rattle.std.specs.Option.{option_map_or}
use Rattle.std.specs.Str.{chars}
use Rattle.std.proofs.lemmas.Bool.{and_parts, leb-true}
use Rattle.base64.specs.GeneralPurpose.{IsBytes}
use Rattle.serde_json.specs.Data.{Data, Items, no_items, item}
use Rattle.serde_json.specs.Find.{as_array, as_str}
use Rattle.dp_bodies.specs.Texts.{low_bytes, php_text}
use Rattle.dp_command.specs.Canonical.{canonical}
use Rattle.dp_command.specs.declared.command.Continuation.{Continuation}
use Rattle.dp_command.specs.declared.command.Continuation.TheVariants as going
use Rattle.dp_command.specs.declared.line.Line.{Line}
use Rattle.dp_dap_messages.specs.declared.arguments.Asked.{Asked}
use Rattle.dp_dap_messages.specs.declared.arguments.Hits.{Hits}
use Rattle.dp_dap_messages.specs.declared.arguments.Hits.TheVariants.{Any, On, Bad}
use Rattle.dp_dap_messages.specs.declared.arguments.Wish.TheVariants as wish
use Rattle.dp_dap.specs.declared.breakpoints.Kept.{Kept}
use Rattle.dp_dap_messages.specs.declared.effects.News.TheVariants as news
use Rattle.dp_dap_messages.specs.declared.effects.Refusal.{Refusal}
use Rattle.dp_dap_messages.specs.declared.effects.Refusal.TheVariants as refusal
use Rattle.dp_dap_messages.specs.declared.effects.StopReason.{StopReason}
use Rattle.dp_dap_messages.specs.declared.effects.StopReason.TheVariants as reason
use Rattle.dp_dap_messages.specs.declared.lines.Place.{Place}
use Rattle.dp_dap_messages.specs.declared.table.RequestName.{RequestName}
use Rattle.dp_dap_messages.specs.declared.table.RequestName.TheVariants as name
use Rattle.dp_dap_messages.specs.declared.table.Stage.{Stage}
use Rattle.dp_dap_messages.specs.declared.table.Stage.TheVariants as stage
use Rattle.dp_dap.specs.Answers.{Effect, and_then, bare, breakpoints_set, by_name, by_wish, cleared, comes_again, configured, contexts_shown, continued, disconnected, evaluated, fits, frame_known, gone_on, has_ended, held_shown, initialized, is_of, launched, place_at, place_shown, reference_limit, removed, replied, result_in, scopes_shown, set_all, set_by, set_on, set_one, settled, shown_in, stack_shown, stacks_in, start, turned, unless_fault, with_places}
use Rattle.dp_dap_messages.specs.Arguments.{both, breakpoint_in, breakpoints, breakpoints_in, given, some_text, text, wish_of, with_parts}
use Rattle.dp_dap.specs.Known.{Known}
use Rattle.dp_dap_messages.specs.Lines.{eval_line, feature_line, finish_line, frame_line, going_line, place_line, remove_line, set_line, stack_line}
use Rattle.dp_dap_messages.specs.Messages.{frames_body, result_body}
use Rattle.dp_dap_messages.specs.Table.{allows}
use Rattle.dp_dap_messages.specs.Values.{frame, some_of}
use Rattle.dp_dap_laws.proofs.Leads.{Leads, Quiet, leads_one, quiet_both, quiet_none, quiet_one}
use Rattle.dp_dap_laws.proofs.Lines.{feature_same, finish_same, going_keeps, remove_same, run_over, set_same}
use Rattle.dp_engine.specs.declared.states.Phase.{Phase}
use Rattle.dp_engine.specs.declared.states.Phase.TheVariants.{Starting, Break, Stopping}
use Rattle.dp_engine.specs.Answers.{Turn}
use Rattle.dp_engine.specs.Responses.{fault_in}
use Rattle.dp_engine.specs.Session.{State, written_between}

-- what a request leads to, whose name is known: lines of the session, in which the program writes just what is told
pub record Does (session : State) (asked : RequestName) (effect : Effect) : Type 0 where
  pub lines : List (List ℕ)
  pub leads : Leads session lines effect.next.session effect.written
  pub quiet : asked ≢ name.Evaluate → effect.next.session.writes ≡ session.writes

abbrev pub DoesIf : State → RequestName → Result Effect Refusal → Type 0
DoesIf session asked (Ok effect) = Does session asked effect
DoesIf session asked (Err why) = Unit {0}

quiet_does : (session : State) (asked : RequestName) (effect : Effect) → Quiet session effect.next.session
    → effect.written ≡ [] → Does session asked effect
quiet_does session asked effect q none = record {
  lines = q.lines;
  leads = subst (λ (w : List ℕ). Leads session q.lines effect.next.session w) (sym none) q.leads;
  quiet = λ other. q.writes;
}

-- ---- going on

gone_does : (mode : Continuation) (why : StopReason) (shown : Option Data) (known : Known) (asked : RequestName)
    → Does known.session asked (gone_on mode why shown known)
gone_does mode why shown known asked = by taken.next.phase refl where
  taken : Turn
  taken = turned known.session (going_line mode)

  one : (lines : List (List ℕ)) × Leads known.session lines taken.next (written_between known.session taken.next)
  one = leads_one known.session (canonical (going_line mode))

  by : (phase : Phase) → taken.next.phase ≡ phase
      → Does known.session asked (settled (has_ended phase) why shown (written_between known.session taken.next)
      (record known { session = taken.next; places = [] }))
  by Starting e =
      record { lines = one.0; leads = one.1; quiet = λ other. going_keeps mode known.session }
  by Break e =
      record { lines = one.0; leads = one.1; quiet = λ other. going_keeps mode known.session }
  by Stopping e = record {
    lines = one.0;
    leads =
        subst (λ (s : State). Leads known.session one.0 s (written_between known.session taken.next))
        (sym (run_over taken.next e)) one.1;
    quiet = λ other. ap (λ (s : State). s.writes) (run_over taken.next e) ∙ going_keeps mode known.session;
  }

start_does : (stops : Option Bool) (ready : Bool) (known : Known) (asked : RequestName)
    → Does known.session asked (start stops ready known)
start_does (Some true) true known asked = gone_does going.StepInto reason.Entry None known asked
start_does (Some false) true known asked = gone_does going.Run reason.Breakpoint None known asked
start_does (Some true) false known asked = quiet_does known.session asked _ (quiet_none known.session) refl
start_does (Some false) false known asked = quiet_does known.session asked _ (quiet_none known.session) refl
start_does None ready known asked = quiet_does known.session asked _ (quiet_none known.session) refl

launched_does : (stops : Bool) (known : Known) (asked : RequestName) → Does known.session asked (launched stops known)
launched_does stops known asked =
    start_does (Some stops) known.configured (record known { launched = Some stops }) asked

configured_does : (known : Known) (asked : RequestName) → Does known.session asked (configured known)
configured_does known asked = start_does known.launched true (record known { configured = true }) asked

continued_does : (mode : Continuation) (known : Known) (asked : RequestName)
    → Does known.session asked (continued mode known)
continued_does going.Run known asked = gone_does going.Run reason.Breakpoint _ known asked
continued_does going.StepInto known asked = gone_does going.StepInto reason.Step None known asked
continued_does going.StepOver known asked = gone_does going.StepOver reason.Step None known asked
continued_does going.StepOut known asked = gone_does going.StepOut reason.Step None known asked

-- ---- the beginning and the end

initialized_does : (known : Known) (asked : RequestName) → Does known.session asked (initialized known)
initialized_does known asked =
    let first = (turned known.session (feature_line (codes "max_children"))).next in
    let second = (turned first (feature_line (codes "max_data"))).next in
    quiet_does known.session asked (initialized known)
    (quiet_both known.session first second
    (quiet_one known.session (canonical (feature_line (codes "max_children")))
    (feature_same known.session (codes "max_children")))
    (quiet_one first (canonical (feature_line (codes "max_data"))) (feature_same first (codes "max_data")))) refl

disconnected_does : (now : Stage) (detaches : Bool) (known : Known) (asked : RequestName)
    → Does known.session asked (disconnected now detaches known)
disconnected_does now detaches known asked = by now where
  last : Quiet known.session (turned known.session (finish_line detaches)).next
  last = quiet_one known.session (canonical (finish_line detaches)) (finish_same known.session detaches)

  by : (now : Stage) → Does known.session asked (disconnected now detaches known)
  by stage.Over = quiet_does known.session asked _ (quiet_none known.session) refl
  by stage.New = quiet_does known.session asked _ last refl
  by stage.Ready = quiet_does known.session asked _ last refl
  by stage.Stopped = quiet_does known.session asked _ last refl

-- ---- breakpoints

removed_quiet : (path : List ℕ) (kept : List Kept) (state : State) → Quiet state (removed path kept state)
removed_quiet path [] state = quiet_none state
removed_quiet path (k ∷ ks) state = by (is_of path k) (λ later. removed_quiet path ks later) where
  gone : State
  gone = (turned state (remove_line k.id)).next

  by : (here : Bool) → ((later : State) → Quiet later (removed path ks later))
      → Quiet state (removed path ks (if here then gone else state))
  by true others =
      quiet_both state gone (removed path ks gone)
      (quiet_one state (canonical (remove_line k.id)) (remove_same state k.id)) (others gone)
  by false others = others state

set_quiet : (path : List ℕ) (number : ℕ) (known : Known) (line : Line)
    → Quiet known.session (turned known.session line).next
    → Quiet known.session (set_by path number known (replied known line)).1.session
set_quiet path number known line q = by (fits line) where
  told : (fault : Option ℕ)
      → Quiet known.session (set_by path number known
      (option_map_or (λ code. Err (refusal.Code code)) fault (Ok (turned known.session line)))).1.session
  told (Some code) = quiet_none known.session
  told None = q

  by : (short : Bool)
      → Quiet known.session (set_by path number known
      (if short then unless_fault (turned known.session line) else Err refusal.BadArguments)).1.session
  by true = told (fault_in (turned known.session line).response.body)
  by false = quiet_none known.session

-- its condition is bytes
abbrev HasBytes : Asked → Type 0
HasBytes asked = IfSome asked.condition IsBytes

set_one_quiet : (path : List ℕ) (asked : Asked) (hits : Hits) (known : Known) → HasBytes asked
    → Quiet known.session (set_on path asked hits known).1.session
set_one_quiet path asked Bad known bytes = quiet_none known.session
set_one_quiet path asked Any known bytes =
    set_quiet path asked.line known (set_line path asked.line None asked.condition)
    (quiet_one known.session (canonical (set_line path asked.line None asked.condition))
    (set_same known.session path asked.line None asked.condition bytes))
set_one_quiet path asked (On hits) known bytes =
    set_quiet path asked.line known (set_line path asked.line (Some hits) asked.condition)
    (quiet_one known.session (canonical (set_line path asked.line (Some hits) asked.condition))
    (set_same known.session path asked.line (Some hits) asked.condition bytes))

set_all_quiet : (path : List ℕ) (asked : List Asked) (known : Known) → AllByRecursion HasBytes asked
    → Quiet known.session (set_all path asked known).1.session
set_all_quiet path [] known bytes = quiet_none known.session
set_all_quiet path (a ∷ rest) known bytes =
    let next = (set_one path a known).1 in
    quiet_both known.session next.session (set_all path rest next).1.session
    (set_one_quiet path a a.hits known bytes.0) (set_all_quiet path rest next bytes.1)

breakpoints_does : (path : List ℕ) (wanted : List Asked) (known : Known) (asked : RequestName)
    → AllByRecursion HasBytes wanted → Does known.session asked (breakpoints_set path wanted known)
breakpoints_does path wanted known asked bytes =
    let begun = cleared path known in
    quiet_does known.session asked (breakpoints_set path wanted known)
    (quiet_both known.session begun.session (set_all path wanted begun).1.session
    (removed_quiet path known.kept known.session) (set_all_quiet path wanted begun bytes)) refl

-- ---- looks

-- an answer to a line
then_does : (session : State) (asked : RequestName) (f : Turn → Result Effect Refusal) (r : Result Turn Refusal)
    → ((taken : Turn) → DoesIf session asked (f taken)) → DoesIf session asked (and_then f r)
then_does session asked f (Ok taken) h = h taken
then_does session asked f (Err why) h = tt

abbrev stacked : ℕ → ℕ → Known → Turn → Result Effect Refusal
stacked first most known taken =
    let lines = stacks_in taken.response.body in
    Ok (bare (Some (frames_body (map frame (some_of first most lines)) (length lines))) known)

stack_does : (first most : ℕ) (known : Known) (asked : RequestName)
    → DoesIf known.session asked (stack_shown first most known)
stack_does first most known asked =
    then_does known.session asked (stacked first most known) (replied known stack_line)
    (λ taken. quiet_does known.session asked _ (quiet_none known.session) refl)

listed_does : (more : List Place) (shown : Data) (known : Known) (asked : RequestName)
    → DoesIf known.session asked (with_places more shown known)
listed_does more shown known asked = by (nat_le (length known.places + length more) reference_limit) where
  by : (few : Bool)
      → DoesIf known.session asked
      (if few then Ok (bare (Some shown) (record known { places = known.places ++ more }))
      else Err refusal.TooManyReferences)
  by true = quiet_does known.session asked _ (quiet_none known.session) refl
  by false = tt

scopes_does : (wanted : ℕ) (known : Known) (asked : RequestName)
    → DoesIf known.session asked (scopes_shown wanted known)
scopes_does zero known asked = tt
scopes_does (suc level) known asked =
    then_does known.session asked (contexts_shown level known)
    (frame_known known level (replied known (frame_line level))) (λ taken. listed_does _ _ known asked)

variables_does : (place : Option Place) (known : Known) (asked : RequestName)
    → DoesIf known.session asked (place_shown place known)
variables_does None known asked = tt
variables_does (Some place) known asked =
    then_does known.session asked (held_shown place known) (replied known (place_line place))
    (λ taken. listed_does _ _ known asked)

-- ---- evaluating

abbrev answered_by : Known → Turn → Result Effect Refusal
answered_by known taken = Ok (record {
  body = Some (result_body (result_in (shown_in taken.response.body)));
  written = written_between known.session taken.next;
  news = news.Nothing;
  next = record known { session = taken.next };
  ended = None;
})

evaluated_does : (expression : List ℕ) (known : Known)
    → DoesIf known.session name.Evaluate (evaluated expression known)
evaluated_does expression known = by (fits (eval_line expression)) where
  taken : Turn
  taken = turned known.session (eval_line expression)

  one : (lines : List (List ℕ)) × Leads known.session lines taken.next (written_between known.session taken.next)
  one = leads_one known.session (canonical (eval_line expression))

  told : (fault : Option ℕ)
      → DoesIf known.session name.Evaluate
      (and_then (answered_by known) (option_map_or (λ code. Err (refusal.Code code)) fault (Ok taken)))
  told (Some code) = tt
  told None = record { lines = one.0; leads = one.1; quiet = λ other. absurd (other refl) }

  by : (short : Bool)
      → DoesIf known.session name.Evaluate
      (and_then (answered_by known) (if short then unless_fault taken else Err refusal.BadArguments))
  by true = told (fault_in taken.response.body)
  by false = tt

-- ---- the conditions of breakpoints are bytes

low_are_bytes : (characters : List ℕ) → list_all (λ c. nat_le c 255) characters ≡ true → IsBytes characters
low_are_bytes [] e i = omega arith
low_are_bytes (c ∷ cs) e zero =
    let low = leb-true c 255 (and_parts (nat_le c 255) (list_all (λ c. nat_le c 255) cs) e).0 in omega (arith, low)
low_are_bytes (c ∷ cs) e (suc i) =
    low_are_bytes cs (and_parts (nat_le c 255) (list_all (λ c. nat_le c 255) cs) e).1 i

text_bytes : (value : Data) → IfSome (text value) IsBytes
text_bytes value = by (as_str value) where
  low : (characters : List ℕ) → IfSome (low_bytes characters) IsBytes
  low characters = cases (list_all (λ c. nat_le c 255) characters) refl where
    cases : (b : Bool) → list_all (λ c. nat_le c 255) characters ≡ b
        → IfSome (if b then Some characters else None) IsBytes
    cases true e = low_are_bytes characters e
    cases false e = tt

  by : (written : Option (List ℕ)) → IfSome (option_and_then php_text written) IsBytes
  by None = tt
  by (Some t) = low (chars t)

condition_bytes : (value : Option Data)
    → IfSome (option_map_or some_text value (Some None)) (λ condition. IfSome condition IsBytes)
condition_bytes None = tt
condition_bytes (Some value) = by (text value) (text_bytes value) where
  by : (t : Option (List ℕ)) → IfSome t IsBytes
      → IfSome (option_map Some t) (λ condition. IfSome condition IsBytes)
  by None h = tt
  by (Some t) h = h

parts_bytes : (line : Option ℕ) (condition hits : Option (Option (List ℕ)))
    → IfSome condition (λ condition. IfSome condition IsBytes)
    → IfSome (with_parts line condition hits) HasBytes
parts_bytes (Some line) (Some condition) (Some hits) h = h
parts_bytes (Some line) (Some condition) None h = tt
parts_bytes (Some line) None hits h = tt
parts_bytes None condition hits h = tt

items_bytes : (items : Items) → IfSome (breakpoints_in items) (AllByRecursion HasBytes)
items_bytes no_items = tt
items_bytes (item value rest) =
    by (breakpoint_in value) (breakpoints_in rest) (parts_bytes _ _ _ (condition_bytes _)) (items_bytes rest) where
      by : (first : Option Asked) (others : Option (List Asked)) → IfSome first HasBytes
          → IfSome others (AllByRecursion HasBytes)
          → IfSome (both (λ a l. a ∷ l) first others) (AllByRecursion HasBytes)
      by (Some a) (Some l) h k = (h, k)
      by (Some a) None h k = tt
      by None others h k = tt

all_bytes : (value : Option Data) → IfSome (option_map_or breakpoints value (Some [])) (AllByRecursion HasBytes)
all_bytes None = tt
all_bytes (Some value) = by (as_array value) where
  by : (items : Option Items) → IfSome (option_and_then breakpoints_in items) (AllByRecursion HasBytes)
  by None = tt
  by (Some items) = items_bytes items

-- ---- each request

set_does : (path : Option (List ℕ)) (wanted : Option (List Asked)) (known : Known) (asked : RequestName)
    → IfSome wanted (AllByRecursion HasBytes)
    → DoesIf known.session asked (by_wish (both wish.SetBreakpoints path wanted) known)
set_does (Some path) (Some wanted) known asked bytes = breakpoints_does path wanted known asked bytes
set_does (Some path) None known asked bytes = tt
set_does None wanted known asked bytes = tt

trace_does : (first most : Option ℕ) (known : Known) (asked : RequestName)
    → DoesIf known.session asked (by_wish (both wish.StackTrace first most) known)
trace_does (Some first) (Some most) known asked = stack_does first most known asked
trace_does (Some first) None known asked = tt
trace_does None most known asked = tt

evaluate_does : (first : Bool) (expression : Option (List ℕ)) (known : Known)
    → DoesIf known.session name.Evaluate
    (by_wish (if first then option_map wish.Evaluate expression else None) known)
evaluate_does true (Some expression) known = evaluated_does expression known
evaluate_does true None known = tt
evaluate_does false expression known = tt

frame_does : (wanted : Option ℕ) (known : Known) (asked : RequestName)
    → DoesIf known.session asked (by_wish (option_map wish.Scopes wanted) known)
frame_does None known asked = tt
frame_does (Some wanted) known asked = scopes_does wanted known asked

reference_does : (reference : Option ℕ) (known : Known) (asked : RequestName)
    → DoesIf known.session asked (by_wish (option_map wish.Variables reference) known)
reference_does None known asked = tt
reference_does (Some reference) known asked = variables_does (place_at reference known) known asked

wish_does : (asked : RequestName) (arguments : Option Data) (known : Known)
    → DoesIf known.session asked (by_wish (wish_of asked arguments) known)
wish_does name.Initialize arguments known = initialized_does known name.Initialize
wish_does name.Launch arguments known = launched_does _ known name.Launch
wish_does name.ConfigurationDone arguments known = configured_does known name.ConfigurationDone
wish_does name.SetExceptionBreakpoints arguments known =
    quiet_does known.session name.SetExceptionBreakpoints _ (quiet_none known.session) refl
wish_does name.SetBreakpoints arguments known =
    set_does _ _ known name.SetBreakpoints (all_bytes (given (codes "breakpoints") arguments))
wish_does name.Threads arguments known =
    quiet_does known.session name.Threads _ (quiet_none known.session) refl
wish_does name.StackTrace arguments known = trace_does _ _ known name.StackTrace
wish_does name.Scopes arguments known = frame_does _ known name.Scopes
wish_does name.Variables arguments known = reference_does _ known name.Variables
wish_does name.Continue arguments known = continued_does going.Run known name.Continue
wish_does name.Next arguments known = continued_does going.StepOver known name.Next
wish_does name.StepIn arguments known = continued_does going.StepInto known name.StepIn
wish_does name.StepOut arguments known = continued_does going.StepOut known name.StepOut
wish_does name.Evaluate arguments known = evaluate_does _ _ known
wish_does name.Disconnect arguments known = disconnected_does known.stage _ known name.Disconnect

-- what a request that is not refused leads to; it has a name
abbrev pub DoesNamed : State → Option RequestName → Result Effect Refusal → Type 0
DoesNamed session called (Ok effect) = (asked : RequestName) × (called ≡ Some asked) × Does session asked effect
DoesNamed session called (Err why) = Unit {0}

with_name : (session : State) (asked : RequestName) (r : Result Effect Refusal) → DoesIf session asked r
    → DoesNamed session (Some asked) r
with_name session asked (Ok effect) h = (asked, refl, h)
with_name session asked (Err why) h = tt

pub named_does : (called : Option RequestName) (arguments : Option Data) (known : Known)
    → DoesNamed known.session called (by_name called arguments known)
named_does None arguments known = tt
named_does (Some asked) arguments known = by (allows asked known.stage && not (comes_again asked known)) where
  by : (now : Bool)
      → DoesNamed known.session (Some asked)
      (if now then by_wish (wish_of asked arguments) known else Err refusal.NotNow)
  by true = with_name known.session asked _ (wish_does asked arguments known)
  by false = tt
