-- No message of the gateway has a number that is a float, so that the text of each is known; and messages told one
-- after another.
use Rattle.std.proofs.Common.{◌≡◌, ℕ, false, ◌||◌, List, [], ◌∷◌, ◌++◌, map, length, ◌+◌, Option, Some, None, refl, ap, ◌∙◌, arith}
use Rattle.serde_json.specs.Data.{Data}
use Rattle.serde_json.specs.Written.{compact_text, has_float}
use Rattle.dp_bodies.specs.Requests.{Request}
use Rattle.dp_dap_messages.specs.declared.effects.Refusal.{Refusal}
use Rattle.dp_dap_messages.specs.Messages.{HasNoFloat, event, numbered, refused, success}

pub event_free : (seq : ℕ) (name : List ℕ) (body : Option Data) → HasNoFloat body
    → has_float (event seq name body) ≡ false
event_free seq name None free = refl
event_free seq name (Some body) free = ap (λ b. b || false) free

pub success_free : (seq : ℕ) (request : Request) (body : Option Data) → HasNoFloat body
    → has_float (success seq request body) ≡ false
success_free seq request None free = refl
success_free seq request (Some body) free = ap (λ b. b || false) free

pub refused_free : (seq : ℕ) (request : Request) (why : Refusal) → has_float (refused seq request why) ≡ false
refused_free seq request why = refl

-- events that are told behind others have their numbers behind theirs
pub told_in_turn : (sent : ℕ) (events more : List (List ℕ × Option Data))
    → map compact_text (numbered sent (events ++ more))
    ≡ map compact_text (numbered sent events) ++ map compact_text (numbered (sent + length events) more)
told_in_turn sent [] more =
    let none : sent ≡ sent + 0 = omega arith in ap (λ n. map compact_text (numbered n more)) none
told_in_turn sent (e ∷ es) more =
    let same : (sent + 1) + length es ≡ sent + length (e ∷ es) = omega arith in
    ap (λ texts. compact_text (event (sent + 1) e.0 e.1) ∷ texts)
    (told_in_turn (sent + 1) es more
    ∙ ap (λ n. map compact_text (numbered (sent + 1) es) ++ map compact_text (numbered n more)) same)
