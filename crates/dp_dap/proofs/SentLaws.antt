-- What a request leads to leaves the count of the messages that were sent, which its answer raises; so the answer to a
-- request is known by what it led to.
use Rattle.std.proofs.Common.{◌≡◌, ℕ, zero, suc, Bool, true, false, not, ◌&&◌, cond, List, [], ◌∷◌, length, ◌+◌, Option, Some, None, Result, Ok, Err, refl, sym, ap, subst, ◌∙◌, ◌++◌, codes}
use Rattle.std.specs.Prelude.{⊤, nat_le}
use Rattle.serde_json.specs.Data.{Data, boolean}
use Rattle.dp_bodies.specs.Requests.{Request}
use Rattle.dp_command.specs.declared.command.Continuation.{Continuation}
use Rattle.dp_command.specs.declared.command.Continuation.TheVariants as going
use Rattle.dp_engine.specs.Answers.{Turn}
use Rattle.dp_engine.specs.Session.{written_between}
use Rattle.dp_dap_messages.specs.declared.arguments.Asked.{Asked}
use Rattle.dp_dap_messages.specs.declared.arguments.Hits.{Hits}
use Rattle.dp_dap_messages.specs.declared.arguments.Hits.TheVariants.{Any, On, Bad}
use Rattle.dp_dap_messages.specs.declared.arguments.Wish.{Wish}
use Rattle.dp_dap_messages.specs.declared.arguments.Wish.TheVariants as wish
use Rattle.dp_dap_messages.specs.declared.effects.Refusal.{Refusal}
use Rattle.dp_dap_messages.specs.declared.effects.Refusal.TheVariants as refusal
use Rattle.dp_dap_messages.specs.declared.effects.StopReason.{StopReason}
use Rattle.dp_dap_messages.specs.declared.effects.StopReason.TheVariants as reason
use Rattle.dp_dap_messages.specs.declared.lines.Place.{Place}
use Rattle.dp_dap_messages.specs.declared.table.RequestName.{RequestName}
use Rattle.dp_dap_messages.specs.declared.table.Stage.{Stage}
use Rattle.dp_dap_messages.specs.declared.table.Stage.TheVariants as stage
use Rattle.dp_dap.specs.Answers as spec
use Rattle.dp_dap.specs.Answers.{Effect, answer}
use Rattle.dp_dap_messages.specs.Arguments.{wish_of}
use Rattle.dp_dap.specs.Known.{Known}
use Rattle.dp_dap_messages.specs.Lines.{eval_line, frame_line, going_line, place_line, set_line, stack_line}
use Rattle.dp_dap_messages.specs.Messages.{list, one_member}
use Rattle.dp_dap_messages.specs.Table.{allows, name_of}
use Rattle.dp_dap_messages.specs.Values.{context_places, places_of, scopes, variables}
use Rattle.dp_dap.proofs.FloatLaws.{evaluated_of, stack_of}

-- so many messages were sent, behind it as before
abbrev Keeps : ℕ → Result Effect Refusal → Type 0
Keeps sent (Ok effect) = effect.next.sent ≡ sent
Keeps sent (Err why) = ⊤

settled_keeps : (over : Bool) (why : StopReason) (shown : Option Data) (written : List ℕ) (known : Known)
    → (spec.settled over why shown written known).next.sent ≡ known.sent
settled_keeps true why shown written known = refl
settled_keeps false why shown written known = refl

gone_on_keeps : (mode : Continuation) (why : StopReason) (shown : Option Data) (known : Known)
    → (spec.gone_on mode why shown known).next.sent ≡ known.sent
gone_on_keeps mode why shown known =
    let taken = spec.turned known.session (going_line mode) in
    settled_keeps (spec.has_ended taken.next.phase) why shown (written_between known.session taken.next)
    (record known { session = taken.next; places = [] })

start_keeps : (stops : Option Bool) (configured : Bool) (known : Known)
    → (spec.start stops configured known).next.sent ≡ known.sent
start_keeps (Some true) true known = gone_on_keeps going.StepInto reason.Entry None known
start_keeps (Some false) true known = gone_on_keeps going.Run reason.Breakpoint None known
start_keeps (Some true) false known = refl
start_keeps (Some false) false known = refl
start_keeps None configured known = refl

continued_keeps : (mode : Continuation) (known : Known) → (spec.continued mode known).next.sent ≡ known.sent
continued_keeps going.Run known =
    gone_on_keeps going.Run reason.Breakpoint (Some (one_member (codes "allThreadsContinued") (boolean true))) known
continued_keeps going.StepInto known = gone_on_keeps going.StepInto reason.Step None known
continued_keeps going.StepOver known = gone_on_keeps going.StepOver reason.Step None known
continued_keeps going.StepOut known = gone_on_keeps going.StepOut reason.Step None known

set_by_keeps : (path : List ℕ) (line : ℕ) (known : Known) (r : Result Turn Refusal)
    → (spec.set_by path line known r).1.sent ≡ known.sent
set_by_keeps path line known (Ok taken) = refl
set_by_keeps path line known (Err why) = refl

set_on_keeps : (path : List ℕ) (asked : Asked) (hits : Hits) (known : Known)
    → (spec.set_on path asked hits known).1.sent ≡ known.sent
set_on_keeps path asked Bad known = refl
set_on_keeps path asked Any known =
    set_by_keeps path asked.line known (spec.replied known (set_line path asked.line None asked.condition))
set_on_keeps path asked (On hits) known =
    set_by_keeps path asked.line known (spec.replied known (set_line path asked.line (Some hits) asked.condition))

set_all_keeps : (path : List ℕ) (asked : List Asked) (known : Known)
    → (spec.set_all path asked known).1.sent ≡ known.sent
set_all_keeps path [] known = refl
set_all_keeps path (a ∷ rest) known =
    set_all_keeps path rest (spec.set_one path a known).1 ∙ set_on_keeps path a a.hits known

disconnected_keeps : (now : Stage) (detaches : Bool) (known : Known)
    → (spec.disconnected now detaches known).next.sent ≡ known.sent
disconnected_keeps stage.New detaches known = refl
disconnected_keeps stage.Ready detaches known = refl
disconnected_keeps stage.Stopped detaches known = refl
disconnected_keeps stage.Over detaches known = refl

listed_keeps : (more : List Place) (shown : Data) (known : Known) → Keeps known.sent (spec.with_places more shown known)
listed_keeps more shown known = either (nat_le (length known.places + length more) spec.reference_limit)
  where
    either : (b : Bool) → Keeps known.sent
        (cond b (Ok (spec.bare (Some shown) (record known { places = known.places ++ more })))
        (Err refusal.TooManyReferences))
    either true = refl
    either false = tt

then_keeps : (sent : ℕ) (f : Turn → Result Effect Refusal) (r : Result Turn Refusal)
    → ((taken : Turn) → Keeps sent (f taken)) → Keeps sent (spec.and_then f r)
then_keeps sent f (Ok taken) keeps = keeps taken
then_keeps sent f (Err why) keeps = tt

contexts_keep : (level : ℕ) (known : Known) (taken : Turn) → Keeps known.sent (spec.contexts_shown level known taken)
contexts_keep level known taken =
    let contexts = spec.contexts_in taken.response.body in
    listed_keeps (context_places level contexts) (list (codes "scopes") (scopes (length known.places) contexts)) known

scopes_keep : (number : ℕ) (known : Known) → Keeps known.sent (spec.scopes_shown number known)
scopes_keep zero known = tt
scopes_keep (suc level) known =
    then_keeps known.sent (spec.contexts_shown level known)
    (spec.frame_known known level (spec.replied known (frame_line level))) (contexts_keep level known)

held_keeps : (place : Place) (known : Known) (taken : Turn) → Keeps known.sent (spec.held_shown place known taken)
held_keeps place known taken =
    let shown = spec.held_at place.name (spec.shown_in taken.response.body) in
    listed_keeps (places_of place shown) (list (codes "variables") (variables (length known.places) shown)) known

place_keeps : (place : Option Place) (known : Known) → Keeps known.sent (spec.place_shown place known)
place_keeps None known = tt
place_keeps (Some place) known =
    then_keeps known.sent (spec.held_shown place known) (spec.replied known (place_line place)) (held_keeps place known)

performed_keeps : (asked : Wish) (known : Known) → Keeps known.sent (spec.performed asked known)
performed_keeps wish.Initialize known = refl
performed_keeps (wish.Launch stops) known =
    start_keeps (Some stops) known.configured (record known { launched = Some stops })
performed_keeps wish.ConfigurationDone known = start_keeps known.launched true (record known { configured = true })
performed_keeps wish.SetExceptionBreakpoints known = refl
performed_keeps (wish.SetBreakpoints path asked) known = set_all_keeps path asked (spec.cleared path known)
performed_keeps wish.Threads known = refl
performed_keeps (wish.StackTrace first most) known =
    then_keeps known.sent (stack_of first most known) (spec.replied known stack_line) (λ taken. refl)
performed_keeps (wish.Scopes number) known = scopes_keep number known
performed_keeps (wish.Variables reference) known = place_keeps (spec.place_at reference known) known
performed_keeps (wish.GoOn mode) known = continued_keeps mode known
performed_keeps (wish.Evaluate expression) known =
    then_keeps known.sent (evaluated_of known) (spec.replied known (eval_line expression)) (λ taken. refl)
performed_keeps (wish.Disconnect detaches) known = disconnected_keeps known.stage detaches known

by_wish_keeps : (asked : Option Wish) (known : Known) → Keeps known.sent (spec.by_wish asked known)
by_wish_keeps None known = tt
by_wish_keeps (Some asked) known = performed_keeps asked known

by_name_keeps : (name : Option RequestName) (arguments : Option Data) (known : Known)
    → Keeps known.sent (spec.by_name name arguments known)
by_name_keeps None arguments known = tt
by_name_keeps (Some asked) arguments known = either (allows asked known.stage && not (spec.comes_again asked known))
  where
    either : (b : Bool) → Keeps known.sent (cond b (spec.by_wish (wish_of asked arguments) known) (Err refusal.NotNow))
    either true = by_wish_keeps (wish_of asked arguments) known
    either false = tt

tried_keeps : (request : Request) (known : Known) (effect : Effect) → spec.tried request known ≡ Ok effect
    → effect.next.sent ≡ known.sent
tried_keeps request known effect did =
    subst (Keeps known.sent) did (by_name_keeps (name_of request.command) request.arguments known)

-- ---- answers

-- the answer to a request that was done
pub answered_so : (request : Request) (old : Known) (effect : Effect) → spec.tried request old ≡ Ok effect
    → answer old request ≡ spec.with_result request effect.next (Ok effect)
unfolding answer
answered_so request old effect did =
    ap (spec.with_result request old) did
    ∙ ap (λ (sent : ℕ).
    spec.with_messages (spec.messages_of sent request effect) effect.written effect.next effect.ended)
    (sym (tried_keeps request old effect did))

-- the answer to one that is refused, which has changed nothing
pub refused_so : (request : Request) (old new : Known) (why : Refusal) → spec.tried request old ≡ Err why → new ≡ old
    → answer old request ≡ spec.with_result request new (Err why)
unfolding answer
refused_so request old new why did same =
    ap (spec.with_result request old) did ∙ ap (λ (k : Known). spec.with_result request k (Err why)) (sym same)
