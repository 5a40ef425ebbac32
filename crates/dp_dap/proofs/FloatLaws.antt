-- No message of the gateway has a number that is a float, so that the text of each is known.
use Rattle.std.proofs.Common.{◌≡◌, ℕ, zero, suc, Bool, true, false, not, ◌&&◌, ◌||◌, cond, List, [], ◌∷◌, map, length, ◌+◌, Option, Some, None, Result, Ok, Err, refl, ap, subst, ◌∙◌, ◌++◌, codes}
use Rattle.std.specs.Prelude.{⊤, nat_le}
use Rattle.serde_json.specs.Data.{Data, boolean}
use Rattle.serde_json.specs.View.{items_of}
use Rattle.serde_json.specs.Written.{has_float, items_have_float}
use Rattle.dp_bodies.specs.Requests.{Request}
use Rattle.dp_command.specs.declared.command.Continuation.{Continuation}
use Rattle.dp_command.specs.declared.command.Continuation.TheVariants as going
use Rattle.dp_engine.specs.Answers.{Turn}
use Rattle.dp_engine.specs.Session.{written_between}
use Rattle.dp_packet.specs.declared.packet.StackLine.{StackLine}
use Rattle.dp_packet.specs.declared.property.Property.{Property}
use Rattle.dp_dap_messages.specs.declared.arguments.Asked.{Asked}
use Rattle.dp_dap_messages.specs.declared.arguments.Hits.{Hits}
use Rattle.dp_dap_messages.specs.declared.arguments.Hits.TheVariants.{Any, On, Bad}
use Rattle.dp_dap_messages.specs.declared.arguments.Wish.{Wish}
use Rattle.dp_dap_messages.specs.declared.arguments.Wish.TheVariants as wish
use Rattle.dp_dap_messages.specs.declared.effects.News.TheVariants as news
use Rattle.dp_dap_messages.specs.declared.effects.Refusal.{Refusal}
use Rattle.dp_dap_messages.specs.declared.effects.Refusal.TheVariants as refusal
use Rattle.dp_dap_messages.specs.declared.effects.StopReason.{StopReason}
use Rattle.dp_dap_messages.specs.declared.effects.StopReason.TheVariants as reason
use Rattle.dp_dap_messages.specs.declared.lines.Place.{Place}
use Rattle.dp_dap_messages.specs.declared.table.RequestName.{RequestName}
use Rattle.dp_dap_messages.specs.declared.table.Stage.{Stage}
use Rattle.dp_dap_messages.specs.declared.table.Stage.TheVariants as stage
use Rattle.dp_dap.specs.Answers as spec
use Rattle.dp_dap.specs.Answers.{Effect}
use Rattle.dp_dap_messages.specs.Arguments.{wish_of}
use Rattle.dp_dap.specs.Known.{Known}
use Rattle.dp_dap_messages.specs.Lines.{eval_line, frame_line, going_line, place_line, set_line, stack_line}
use Rattle.dp_dap_messages.specs.Messages.{HasNoFloat, frames_body, list, one_member, result_body}
use Rattle.dp_dap_messages.specs.Table.{allows, name_of}
use Rattle.dp_dap_messages.specs.Values.{context_places, frame, listed_with, places_of, scopes, some_of, variables}

-- ---- lists of values

-- a list whose values have none
abbrev pub AreFree : List Data → Type 0
AreFree values = items_have_float (items_of values) ≡ false

frames_free : (lines : List StackLine) → AreFree (map frame lines)
frames_free [] = refl
frames_free (l ∷ ls) = frames_free ls

scopes_free : (listed : ℕ) (contexts : List (List ℕ × ℕ)) → AreFree (scopes listed contexts)
scopes_free listed [] = refl
scopes_free listed (c ∷ cs) = scopes_free (listed + 1) cs

variables_free : (listed : ℕ) (properties : List Property) → AreFree (variables listed properties)
variables_free listed [] = refl
variables_free listed (p ∷ ps) = variables_free (listed_with listed p) ps

list_free : (name : List ℕ) (values : List Data) → AreFree values → has_float (list name values) ≡ false
list_free name values free = ap (λ b. b || false) free

frames_body_free : (frames : List Data) (total : ℕ) → AreFree frames → has_float (frames_body frames total) ≡ false
frames_body_free frames total free = ap (λ b. b || false) free

set_by_free : (path : List ℕ) (line : ℕ) (known : Known) (r : Result Turn Refusal)
    → has_float (spec.set_by path line known r).0 ≡ false
set_by_free path line known (Ok taken) = refl
set_by_free path line known (Err why) = refl

set_on_free : (path : List ℕ) (asked : Asked) (hits : Hits) (known : Known)
    → has_float (spec.set_on path asked hits known).0 ≡ false
set_on_free path asked Bad known = refl
set_on_free path asked Any known =
    set_by_free path asked.line known (spec.replied known (set_line path asked.line None asked.condition))
set_on_free path asked (On hits) known =
    set_by_free path asked.line known (spec.replied known (set_line path asked.line (Some hits) asked.condition))

set_all_free : (path : List ℕ) (asked : List Asked) (known : Known) → AreFree (spec.set_all path asked known).0
set_all_free path [] known = refl
set_all_free path (a ∷ rest) known =
    ap (λ b. b || items_have_float (items_of (spec.set_all path rest (spec.set_one path a known).1).0))
    (set_on_free path a a.hits known)
    ∙ set_all_free path rest (spec.set_one path a known).1

-- ---- effects

abbrev pub Free : Result Effect Refusal → Type 0
Free (Ok effect) = HasNoFloat effect.body
Free (Err why) = ⊤

settled_free : (over : Bool) (why : StopReason) (shown : Option Data) (written : List ℕ) (known : Known)
    → HasNoFloat shown → HasNoFloat (spec.settled over why shown written known).body
settled_free true why shown written known free = free
settled_free false why shown written known free = free

gone_on_free : (mode : Continuation) (why : StopReason) (shown : Option Data) (known : Known)
    → HasNoFloat shown → HasNoFloat (spec.gone_on mode why shown known).body
gone_on_free mode why shown known free =
    let taken = spec.turned known.session (going_line mode) in
    settled_free (spec.has_ended taken.next.phase) why shown (written_between known.session taken.next)
    (record known { session = taken.next; places = [] }) free

start_free : (stops : Option Bool) (configured : Bool) (known : Known)
    → HasNoFloat (spec.start stops configured known).body
start_free (Some true) true known = gone_on_free going.StepInto reason.Entry None known tt
start_free (Some false) true known = gone_on_free going.Run reason.Breakpoint None known tt
start_free (Some true) false known = tt
start_free (Some false) false known = tt
start_free None configured known = tt

continued_free : (mode : Continuation) (known : Known) → HasNoFloat (spec.continued mode known).body
continued_free going.Run known =
    gone_on_free going.Run reason.Breakpoint (Some (one_member (codes "allThreadsContinued") (boolean true))) known refl
continued_free going.StepInto known = gone_on_free going.StepInto reason.Step None known tt
continued_free going.StepOver known = gone_on_free going.StepOver reason.Step None known tt
continued_free going.StepOut known = gone_on_free going.StepOut reason.Step None known tt

disconnected_free : (now : Stage) (detaches : Bool) (known : Known)
    → HasNoFloat (spec.disconnected now detaches known).body
disconnected_free stage.New detaches known = tt
disconnected_free stage.Ready detaches known = tt
disconnected_free stage.Stopped detaches known = tt
disconnected_free stage.Over detaches known = tt

and_then_free : {A : Type 0} (f : A → Result Effect Refusal) (r : Result A Refusal) → ((a : A) → Free (f a))
    → Free (spec.and_then f r)
and_then_free f (Ok a) free = free a
and_then_free f (Err why) free = tt

listed_free : (more : List Place) (shown : Data) (known : Known) → has_float shown ≡ false
    → Free (spec.with_places more shown known)
listed_free more shown known free =
    either (nat_le (length known.places + length more) spec.reference_limit)
  where
    either : (b : Bool)
        → Free (cond b (Ok (spec.bare (Some shown) (record known { places = known.places ++ more })))
        (Err refusal.TooManyReferences))
    either true = free
    either false = tt

contexts_free : (level : ℕ) (known : Known) (taken : Turn) → Free (spec.contexts_shown level known taken)
contexts_free level known taken =
    let contexts = spec.contexts_in taken.response.body in
    let shown = scopes (length known.places) contexts in
    listed_free (context_places level contexts) (list (codes "scopes") shown) known
    (list_free (codes "scopes") shown (scopes_free (length known.places) contexts))

scopes_shown_free : (number : ℕ) (known : Known) → Free (spec.scopes_shown number known)
scopes_shown_free zero known = tt
scopes_shown_free (suc level) known =
    and_then_free (spec.contexts_shown level known)
    (spec.frame_known known level (spec.replied known (frame_line level))) (contexts_free level known)

held_free : (place : Place) (known : Known) (taken : Turn) → Free (spec.held_shown place known taken)
held_free place known taken =
    let properties = spec.held_at place.name (spec.shown_in taken.response.body) in
    let shown = variables (length known.places) properties in
    listed_free (places_of place properties) (list (codes "variables") shown) known
    (list_free (codes "variables") shown (variables_free (length known.places) properties))

place_shown_free : (place : Option Place) (known : Known) → Free (spec.place_shown place known)
place_shown_free None known = tt
place_shown_free (Some place) known =
    and_then_free (spec.held_shown place known) (spec.replied known (place_line place)) (held_free place known)

-- what a turn leads to where the stack was asked for, and where an expression was evaluated
abbrev pub stack_of : ℕ → ℕ → Known → Turn → Result Effect Refusal
stack_of first most known taken =
    let lines = spec.stacks_in taken.response.body in
    Ok (spec.bare (Some (frames_body (map frame (some_of first most lines)) (length lines))) known)

abbrev pub evaluated_of : Known → Turn → Result Effect Refusal
evaluated_of known taken = Ok (record {
  body = Some (result_body (spec.result_in (spec.shown_in taken.response.body)));
  written = written_between known.session taken.next;
  news = news.Nothing;
  next = record known { session = taken.next };
  ended = None;
})

stack_free : (first most : ℕ) (known : Known) (taken : Turn) → Free (stack_of first most known taken)
stack_free first most known taken =
    let lines = spec.stacks_in taken.response.body in
    frames_body_free (map frame (some_of first most lines)) (length lines) (frames_free (some_of first most lines))

performed_free : (asked : Wish) (known : Known) → Free (spec.performed asked known)
performed_free wish.Initialize known = refl
performed_free (wish.Launch stops) known =
    start_free (Some stops) known.configured (record known { launched = Some stops })
performed_free wish.ConfigurationDone known =
    start_free known.launched true (record known { configured = true })
performed_free wish.SetExceptionBreakpoints known = tt
performed_free (wish.SetBreakpoints path asked) known =
    let cleared = spec.cleared path known in
    list_free (codes "breakpoints") (spec.set_all path asked cleared).0 (set_all_free path asked cleared)
performed_free wish.Threads known = refl
performed_free (wish.StackTrace first most) known =
    and_then_free (stack_of first most known) (spec.replied known stack_line) (stack_free first most known)
performed_free (wish.Scopes number) known = scopes_shown_free number known
performed_free (wish.Variables reference) known = place_shown_free (spec.place_at reference known) known
performed_free (wish.GoOn mode) known = continued_free mode known
performed_free (wish.Evaluate expression) known =
    and_then_free (evaluated_of known) (spec.replied known (eval_line expression)) (λ taken. refl)
performed_free (wish.Disconnect detaches) known = disconnected_free known.stage detaches known

by_wish_free : (asked : Option Wish) (known : Known) → Free (spec.by_wish asked known)
by_wish_free None known = tt
by_wish_free (Some asked) known = performed_free asked known

by_name_free : (name : Option RequestName) (arguments : Option Data) (known : Known)
    → Free (spec.by_name name arguments known)
by_name_free None arguments known = tt
by_name_free (Some asked) arguments known =
    either (allows asked known.stage && not (spec.comes_again asked known))
  where
    either : (b : Bool) → Free (cond b (spec.by_wish (wish_of asked arguments) known) (Err refusal.NotNow))
    either true = by_wish_free (wish_of asked arguments) known
    either false = tt

-- what a request leads to has none
tried_free : (request : Request) (known : Known) → Free (spec.tried request known)
tried_free request known = by_name_free (name_of request.command) request.arguments known

-- the body of what a request leads to has none
pub body_free : (request : Request) (known : Known) (effect : Effect) → spec.tried request known ≡ Ok effect
    → HasNoFloat effect.body
body_free request known effect e = subst Free e (tried_free request known)
