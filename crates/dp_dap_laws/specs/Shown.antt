-- What a session over the gateway tells of its program.
use Rattle.std.specs.Prelude.{◌≡◌, ℕ, Bool, false, ◌&&◌, if◌then◌else◌, List, [], ◌∷◌, ◌++◌, map, option_and_then, codes}
use Rattle.std.specs.List.{flat_map, list_any}
use Rattle.std.specs.Option.{option_map_or}
use Rattle.serde_json.specs.Data.{Data}
use Rattle.serde_json.specs.Find.{as_bool, get}
use Rattle.serde_json.specs.Written.{compact_text}
use Rattle.dp_bodies.specs.Requests.{says}
use Rattle.dp_dap.specs.Dap.{answers_to, ending, rest}
use Rattle.dp_dap_messages.specs.Values.{php}
use Rattle.dp_session_laws.specs.AllOutput.{IsRunWith}
use Rattle.dp_tree.specs.declared.bundle.Bundle.{Bundle}

-- it is the answer to a request that was not refused
abbrev pub succeeds : Data → Bool
succeeds message =
    option_map_or (λ b. b) (option_and_then as_bool (get (codes "success") message)) false

-- it is the answer to an evaluation that succeeded
abbrev pub is_evaluated : Data → Bool
is_evaluated message = says (codes "command") (codes "evaluate") message && succeeds message

-- what an output event tells, as it stands there; nothing of any other message
abbrev pub output_in : Data → List Data
output_in message =
    if says (codes "event") (codes "output") message
    then option_map_or (λ text. text ∷ [])
    (option_and_then (get (codes "output")) (get (codes "body") message)) []
    else []

-- The messages that are sent to these bodies: the texts of their output events, in order, and
-- behind them what the program writes once the gateway is over, are what the program writes with
-- the writes that were accepted, and it ends as with them; of one that was killed they are a front
-- of that. Where no message answers an evaluation that succeeded, they are what the program writes
-- where nobody watches it.
pub record ShowsRun (bundle : Bundle) (bound : ℕ) (bodies : List (List ℕ)) : Type 0 where
  pub messages : List Data
  pub sent : (answers_to bundle bound bodies).packets ≡ map compact_text messages
  pub texts : List (List ℕ)
  pub outputs : flat_map output_in messages ≡ map php texts
  pub run : IsRunWith bundle bound (answers_to bundle bound bodies).state.session.writes
      (flat_map (λ text. text) texts ++ rest bundle bound bodies) (ending bundle bound bodies)
  pub plain : list_any is_evaluated messages ≡ false
      → IsRunWith bundle bound []
      (flat_map (λ text. text) texts ++ rest bundle bound bodies) (ending bundle bound bodies)
