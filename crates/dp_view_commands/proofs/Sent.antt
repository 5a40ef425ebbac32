-- Of each view: its response is sent as a packet and tells no error.
use Rattle.std.proofs.Common.{◌≡◌, ◌≢◌, ℕ, Bool, true, false, cond, Option, Some, None, length, refl, subst}
use Rattle.std.specs.Prelude.{◌||◌, option_map, Result, Ok, Err, IfOk}
use Rattle.std.proofs.lemmas.Bool.{leb-true}
use Rattle.dp_command.specs.declared.command.LookRequest.{LookRequest}
use Rattle.dp_command.specs.declared.command.LookRequest.TheVariants as request
use Rattle.dp_command.specs.declared.command.SourceRange.{SourceRange}
use Rattle.dp_features.specs.Features.{Features}
use Rattle.dp_packet.specs.declared.error_codes.ErrorCode.{ErrorCode}
use Rattle.dp_packet.specs.declared.error_codes.ErrorCode.TheVariants.{InvalidOptions, CannotGetProperty}
use Rattle.dp_packet.specs.declared.packet.Body.{Body}
use Rattle.dp_packet.specs.declared.packet.Body.TheVariants as body
use Rattle.dp_packet.specs.declared.packet.Packet.TheVariants as packet
use Rattle.dp_packet.specs.declared.packet.Response.{Response}
use Rattle.dp_packet.specs.Packets.{has_words}
use Rattle.dp_packet.specs.Parts.{Text}
use Rattle.dp_packet.specs.Text.{text}
use Rattle.dp_state.specs.declared.state.State.{State}
use Rattle.dp_tree.specs.declared.bundle.Bundle.{Bundle}
use Rattle.dp_view.specs.declared.errors.ViewError.{ViewError}
use Rattle.dp_view.specs.Answers.{and_then}
use Rattle.dp_view.specs.Named.{named_property, named_value}
use Rattle.dp_view.specs.Properties.{context_at}
use Rattle.dp_view.specs.Stacks.{stack_at}
use Rattle.dp_wire.specs.Frames.{packet_limit}
use Rattle.dp_view_commands.specs.Results.{Answers, IsSent}
use Rattle.dp_view_commands.specs.Views.{Part, is_short, is_zero, lines_part, part_of, response_with, source_file, view_response, within_limit}

-- ---- what is shown, where something is

then_if : {A B : Type 0} (Q : B → Type 0) (f : A → Result B ErrorCode) (r : Result A ErrorCode)
    → ((a : A) → IfOk (f a) Q) → IfOk (and_then f r) Q
then_if Q f (Ok a) q = q a
then_if Q f (Err code) q = tt

abbrev IsPlain : Body → Type 0
IsPlain (body.Fault code) = ⊥
IsPlain other = Unit {0}

abbrev IsPlainPart : Part → Type 0
IsPlainPart part = IsPlain part.1

lines_plain : (range : SourceRange) (t : Option Text) → IfOk (lines_part range t) IsPlainPart
lines_plain range None = tt
lines_plain range (Some t) = tt

source_plain : (b : Bool) (range : SourceRange) (t : Option Text)
    → IfOk (cond b (Err InvalidOptions) (lines_part range t)) IsPlainPart
source_plain true range t = tt
source_plain false range t = lines_plain range t

part_plain : (bundle : Bundle) (here : ℕ) (features : Features) (s : State) (asked : LookRequest)
    → IfOk (part_of bundle here features s asked) IsPlainPart
part_plain bundle here features s request.StackDepth = tt
part_plain bundle here features s (request.StackGet level) =
    then_if IsPlainPart _ (stack_at bundle s level) (λ lines. tt)
part_plain bundle here features s request.ContextNames = tt
part_plain bundle here features s (request.ContextGet level id) =
    then_if IsPlainPart _ (context_at s level id _) (λ shown. tt)
part_plain bundle here features s (request.PropertyGet place page most) =
    then_if IsPlainPart _ (named_property s place.level place.context place.name _) (λ shown. tt)
part_plain bundle here features s (request.PropertyValue place most) =
    then_if IsPlainPart _ (named_value s place.level place.context place.name most) (λ shown. tt)
part_plain bundle here features s (request.Source range) =
    source_plain (is_zero range.first || is_zero range.last) range
    (option_map (λ f. f.text) (source_file bundle here range.file))

-- ---- responses

words : (b : Body) → IsPlain b → has_words b ≡ true
words (body.Fault code) p = absurd p
words other p = refl

no_fault : (b : Body) → IsPlain b → (code : ℕ) → b ≢ body.Fault code
no_fault b p code e = subst IsPlain e p

limit_sent : (r : Response) → IsPlain r.body → IfOk (within_limit r) IsSent
limit_sent r plain = by (is_short r) refl where
  by : (t : Bool) → is_short r ≡ t → IfOk (cond t (Ok r) (Err CannotGetProperty)) IsSent
  by true t =
      record {
        known = words r.body plain;
        short = leb-true (length (text (packet.Response r))) packet_limit t;
        no_error
            = no_fault r.body plain;
      }
  by false t = tt

answered_sent : (command id : Text) (part : Result Part ErrorCode) → IfOk part IsPlainPart
    → IfOk (and_then (λ p. within_limit (response_with command id p)) part) IsSent
answered_sent command id (Ok part) plain = limit_sent (response_with command id part) plain
answered_sent command id (Err code) plain = tt

module _ (bundle : Bundle) (here : ℕ) (features : Features) (s : State) (command id : Text) (asked : LookRequest) where
  response_sent : IfOk (view_response bundle here features s command id asked) IsSent
  unfolding view_response
  response_sent =
      answered_sent command id (part_of bundle here features s asked) (part_plain bundle here features s asked)

  pub sent : (r : Response) → view_response bundle here features s command id asked ≡ Ok r → IsSent r
  sent r e = subst (λ (made : Result Response ErrorCode). IfOk made IsSent) e response_sent

  -- what a call answers
  pub answer_sent : (result : Result Response ViewError)
      → Answers result (view_response bundle here features s command id asked) → IfOk result IsSent
  answer_sent (Ok r) e = sent r e
  answer_sent (Err why) e = tt
