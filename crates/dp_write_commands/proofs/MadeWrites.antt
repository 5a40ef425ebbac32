-- Writes that are made, and what is told of them.
use Rattle.std.proofs.Common.{◌≡◌, ℕ, Option, Some, None, refl, sym, ap, ◌∙◌}
use Rattle.std.specs.Prelude.{option_map, Result, Ok, Err, ⊤}
use Rattle.dp_features.specs.Features.{Features}
use Rattle.dp_meaning.specs.declared.writes.WriteFault.{WriteFault}
use Rattle.dp_meaning.specs.declared.writes.WriteFault.TheVariants.{NoFrame, NoPlace}
use Rattle.dp_meaning.specs.declared.writes.Write.TheVariants as write
use Rattle.dp_meaning.specs.Writes.{evaluated, evaluation_setting, left_by, or_unchanged, place_answer, value_answer, with_place}
use Rattle.dp_packet.specs.declared.error_codes.ErrorCode.{ErrorCode}
use Rattle.dp_packet.specs.declared.error_codes.ErrorCode.TheVariants.{CannotGetProperty, StackDepthInvalid}
use Rattle.dp_packet.specs.declared.packet.Body.TheVariants as body
use Rattle.dp_packet.specs.declared.packet.Response.{Response}
use Rattle.dp_packet.specs.Parts.{Text}
use Rattle.dp_state.specs.declared.moments.Path.{Path}
use Rattle.dp_state.specs.declared.state.State.{State}
use Rattle.dp_tree.specs.declared.bundle.Bundle.{Bundle}
use Rattle.dp_tree.specs.declared.tree.Expression.{Expression}
use Rattle.dp_value.specs.declared.value.Value.{Value}
use Rattle.dp_view.specs.declared.errors.ViewError.{ViewError}
use Rattle.dp_view.specs.declared.errors.ViewError.TheVariants.{Code, Memory}
use Rattle.dp_write_commands.specs.Responses.{response_to, success}
use Rattle.dp_meaning.specs.inner.WriteAnswers.{answer_by}
use Rattle.dp_write_commands.specs.inner.Writes.{Finds, Makes, Puts, coded, kept_by, with_response}

module _ (features : Features) (command id : Text) (before after : State) where
  -- a place that was given a value
  place_made : (asked : Result State WriteFault) → coded asked ≡ Ok after
      → (response_to features command id (place_answer asked) ≡ Ok (success command id body.Nothing))
      × (after ≡ or_unchanged before asked)
  place_made (Ok s) e = let same : s ≡ after = cc in (refl, sym same)
  place_made (Err NoFrame) e = absurd cc
  place_made (Err NoPlace) e = absurd cc

  place_refused : (asked : Result State WriteFault) (code : ErrorCode) → coded asked ≡ Err code
      → response_to features command id (place_answer asked) ≡ Err code
  place_refused (Ok s) code e = absurd cc
  place_refused (Err NoFrame) code e = let same : StackDepthInvalid ≡ code = cc in ap (λ c. Err c) same
  place_refused (Err NoPlace) code e = let same : CannotGetProperty ≡ code = cc in ap (λ c. Err c) same

  -- an evaluation that holds and is told
  evaluation_made : (asked : Option (Value × State)) (value : Option Value) (r : Response)
      → asked ≡ option_map (λ v. (v, after)) value → response_to features command id (answer_by value) ≡ Ok r
      → (response_to features command id (value_answer asked) ≡ Ok r) × (after ≡ left_by before asked)
  evaluation_made asked None r e h = absurd cc
  evaluation_made asked (Some v) r e h = (
    ap (λ (o : Option (Value × State)). response_to features command id (value_answer o)) e ∙ h,
    sym
        (ap (left_by before) e),
  )

  evaluation_refused : (asked : Option (Value × State)) (value : Option Value) (code : ErrorCode)
      → asked ≡ option_map (λ v. (v, after)) value → response_to features command id (answer_by value) ≡ Err code
      → response_to features command id (value_answer asked) ≡ Err code
  evaluation_refused asked None code e h =
      ap (λ (o : Option (Value × State)). response_to features command id (value_answer o)) e ∙ h
  evaluation_refused asked (Some v) code e h =
      ap (λ (o : Option (Value × State)). response_to features command id (value_answer o)) e ∙ h

module _ (bundle : Bundle) (features : Features) (command id : Text) (before after : State) where
  -- a place that a value was tried at
  pub place_tried : (level context : ℕ) (path : Path) (value : Value) (r : Response) (done : Result ⊤ ViewError)
      → r ≡ success command id body.Nothing
      → Puts (with_place level context path value before) before after done
      → Makes bundle features before after command id (write.Place level context path value) (with_response r done)
  place_tried level context path value r (Ok done) is h =
      let made = place_made features command id before after (with_place level context path value before) h in
      (made.0 ∙ ap (λ (x : Response). Ok x) (sym is), made.1)
  place_tried level context path value r (Err (Code code)) is h =
      (place_refused features command id before after (with_place level context path value before) code h.0, h.1)
  place_tried level context path value r (Err Memory) is h = h

  -- an evaluation that was tried
  pub evaluation_tried : (e : Expression) (value : Option Value) (left : State) (made : Result Response ViewError)
      → evaluated (evaluation_setting bundle) e before ≡ option_map (λ v. (v, left)) value
      → Finds made (response_to features command id (answer_by value)) → after ≡ kept_by made left before
      → Makes bundle features before after command id (write.Evaluate e) made
  evaluation_tried e value left (Ok r) is h k =
      let made = evaluation_made features command id before left
      (evaluated (evaluation_setting bundle) e before) value r is h in (made.0, k ∙ made.1)
  evaluation_tried e value left (Err (Code code)) is h k = (
    evaluation_refused features command id before left (evaluated (evaluation_setting bundle) e before) value code is
        h,
    k,
  )
  evaluation_tried e value left (Err Memory) is h k = k
