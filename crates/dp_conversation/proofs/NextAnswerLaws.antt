-- A session that is fed goes on.
use Rattle.std.proofs.Common.{◌≡◌, ℕ, List, [], ◌∷◌, ◌++◌, refl, ap, ◌∙◌, append_assoc}
use Rattle.std.specs.List.{flat_map, AllByRecursion}
use Rattle.dp_wire.specs.Frames.{IsCommand, command_frame, commands_in, rest_of}
use Rattle.dp_wire.proofs.FrameLaws.{commands-text}
use Rattle.dp_wire.proofs.SplitLaws.{framed, commands_split}
use Rattle.dp_conversation.specs.NextAnswer.{FeedingGoesOn}
use Rattle.dp_conversation.specs.Folds.{Reply, replies}
use Rattle.dp_conversation.proofs.ServiceLaws.{replies_append}

-- whole commands at the front of bytes are the first of their commands
commands_front : (lines : List (List ℕ)) (rest : List ℕ) → AllByRecursion IsCommand lines
    → commands_in (flat_map command_frame lines ++ rest) ≡ lines ++ commands_in rest
commands_front [] rest each = refl
commands_front (line ∷ lines) rest each =
    ap commands_in (append_assoc (command_frame line) (flat_map command_frame lines) rest
    ∙ framed line (flat_map command_frame lines ++ rest))
    ∙ commands-text line (flat_map command_frame lines ++ rest) each.0.no_nul each.0.fits
    ∙ ap (λ l. line ∷ l) (commands_front lines rest each.1)

-- the commands of more bytes are the first ones, and those of what was left with more
pub commands_go_on : (bytes more : List ℕ)
    → commands_in (bytes ++ more) ≡ commands_in bytes ++ commands_in (rest_of bytes ++ more)
commands_go_on bytes more =
    let split = commands_split bytes in
    ap commands_in (ap (λ l. l ++ more) split.whole
    ∙ append_assoc (flat_map command_frame (commands_in bytes)) (rest_of bytes) more)
    ∙ commands_front (commands_in bytes) (rest_of bytes ++ more) split.each

pub feeding : {S E : Type 0} (step : S → List ℕ → Reply S E) (start : S) (bytes more : List ℕ)
    → FeedingGoesOn step start bytes more
feeding step start bytes more =
    ap (replies step start) (commands_go_on bytes more)
    ∙ replies_append step start (commands_in bytes) (commands_in (rest_of bytes ++ more))
