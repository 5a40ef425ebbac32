-- A session over the gateway: what the requests among the bodies come to, up to the one that ends
-- it. No other evaluator is named: what the program does is in the turns of the session.
use Rattle.std.specs.Prelude.{ℕ, Bool, List, Option, is_some, take_while}
use Rattle.std.specs.List.{flat_map}
use Rattle.std.specs.Option.{option_map_or}
use Rattle.dp_bodies.specs.Frames.{body_frame}
use Rattle.dp_bodies.specs.Requests.{request_in}
use Rattle.dp_conversation.specs.Folds.{Reply, nothing_sent, replies}
use Rattle.dp_tree.specs.declared.bundle.Bundle.{Bundle}
use Rattle.dp_state.specs.declared.moments.Outcome.{Outcome}
use Rattle.dp_engine.specs.declared.session.SessionEnd.{SessionEnd}
use Rattle.dp_engine.specs.Served.{ending_after, rest_after}
use Rattle.dp_dap.specs.Answers.{answer}
use Rattle.dp_dap.specs.Known.{Known, opening}

-- the text is a request
abbrev pub is_request : List ℕ → Bool
is_request text = is_some (request_in text)

-- the answer to a text that is a request
abbrev pub reply : Known → List ℕ → Reply Known SessionEnd
reply known text = option_map_or (answer known) (request_in text) (nothing_sent known)

-- what these bodies come to: of the first that is no request nothing is answered
abbrev pub answers_to : Bundle → ℕ → List (List ℕ) → Reply Known SessionEnd
answers_to bundle bound texts =
    replies reply (opening bundle bound) (take_while is_request texts)

-- the bytes that the gateway sends
unfoldable pub dap : Bundle → ℕ → List (List ℕ) → List ℕ
dap bundle bound texts = flat_map body_frame (answers_to bundle bound texts).packets

-- what the program writes once the gateway is over
abbrev pub rest_of : Reply Known SessionEnd → List ℕ
rest_of all = rest_after all.ended all.state.session

abbrev pub rest : Bundle → ℕ → List (List ℕ) → List ℕ
rest bundle bound texts = rest_of (answers_to bundle bound texts)

-- how it ends; not at all where it was killed
abbrev pub ending_of : Reply Known SessionEnd → Option Outcome
ending_of all = ending_after all.ended all.state.session

abbrev pub ending : Bundle → ℕ → List (List ℕ) → Option Outcome
ending bundle bound texts = ending_of (answers_to bundle bound texts)
