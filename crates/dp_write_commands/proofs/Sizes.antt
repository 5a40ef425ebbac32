-- How long responses are, and that a response shows within its limit what it has room for.
use Rattle.std.proofs.Common.{◌≡◌, ℕ, ◌+◌, ◌≤◌, ◌<◌, Bool, true, false, cond, [], ◌∷◌, length, codes, nat_le, refl, sym, ap, ◌∙◌, arith}
use Rattle.std.specs.Prelude.{Result, Ok, Err}
use Rattle.std.proofs.lemmas.Bool.{leb-false, leb-true}
use Rattle.std.proofs.lemmas.Bool.Decides.{nat_tests}
use Rattle.dp_features.specs.Features.{Features}
use Rattle.dp_markup.specs.Texts.{attribute_text, nodes_text}
use Rattle.dp_packet.specs.declared.error_codes.ErrorCode.{ErrorCode}
use Rattle.dp_packet.specs.declared.error_codes.ErrorCode.TheVariants.{ErrorEvaluatingCode, CannotGetProperty}
use Rattle.dp_packet.specs.declared.packet.Body.{Body}
use Rattle.dp_packet.specs.declared.packet.Body.TheVariants as body
use Rattle.dp_packet.specs.declared.packet.Packet.TheVariants as packet
use Rattle.dp_packet.specs.declared.packet.Response.{Response}
use Rattle.dp_packet.specs.declared.property.Property.{Property}
use Rattle.dp_packet.specs.inner.Sizes.{attribute_size}
use Rattle.dp_packet.specs.Packets.{body_nodes, response_element}
use Rattle.dp_packet.specs.Parts.{Text}
use Rattle.dp_packet.specs.Properties.{property_node}
use Rattle.dp_packet.specs.Text.{text}
use Rattle.dp_packet.proofs.SizeLaws.{alone_length, attribute_length, packet_length, written_length}
use Rattle.dp_value.specs.declared.value.Value.{Value}
use Rattle.dp_value.specs.Value.{data_of}
use Rattle.dp_view.specs.declared.errors.ViewError.{ViewError}
use Rattle.dp_view.specs.declared.errors.ViewError.TheVariants.{Code, Memory}
use Rattle.dp_view.specs.Properties.{shown}
use Rattle.dp_view_limits.specs.Limits.{limited_shown, property_size}
use Rattle.dp_wire.specs.Frames.{packet_limit}
use Rattle.dp_view.specs.Answers.{Gives}
use Rattle.dp_write_commands.specs.Responses.{paging, success, value_response, within_limit}
use Rattle.dp_write_commands.specs.inner.Writes.{Finds, around}

-- ---- sizes

whole_is : (command id : Text) (b : Body)
    → length (text (packet.Response (success command id b))) ≡ 110 + attribute_size
    (codes "command", command) + attribute_size (codes "transaction_id", id) + length (nodes_text (body_nodes b))
whole_is command id b =
    let r : Response = success command id b in omega (
      arith,
      packet_length (packet.Response r),
      written_length
          (response_element r),
    )

pub around_is : (command id : Text)
    → around command id ≡ 110 + length (attribute_text (codes "command", command)) + length
    (attribute_text (codes "transaction_id", id))
unfolding around
around_is command id =
    omega (
      arith,
      whole_is command id (body.Properties []),
      attribute_length (codes "command") command,
      attribute_length
          (codes "transaction_id") id,
    )

-- with a property
filled_is : (command id : Text) (q : Property)
    → length (text (packet.Response (success command id (body.Properties (q ∷ []))))) ≡ around command id +
    property_size q
unfolding around
filled_is command id q =
    omega (
      arith,
      whole_is command id (body.Properties (q ∷ [])),
      whole_is command id (body.Properties []),
      alone_length
          (property_node q),
    )

-- ---- limits

abbrev ok_of : {A : Type 0} → A → Result A ErrorCode
ok_of a = Ok a

fits : (r : Response) → length (text (packet.Response r)) ≤ packet_limit → within_limit r ≡ Ok r
fits r low =
    let yes : nat_le (length (text (packet.Response r))) packet_limit ≡ true = grind (arith, nat_tests) in
    ap (λ (b : Bool). cond b (ok_of r) (Err ErrorEvaluatingCode)) yes

passes : (r : Response) → packet_limit < length (text (packet.Response r)) → within_limit r ≡ Err ErrorEvaluatingCode
passes r high =
    let no : nat_le (length (text (packet.Response r))) packet_limit ≡ false = grind (arith, nat_tests) in
    ap (λ (b : Bool). cond b (ok_of r) (Err ErrorEvaluatingCode)) no

module _ (features : Features) (command id : Text) (value : Value) (room : ℕ)
    (whole : room + around command id ≡ packet_limit) where
  abbrev made : Property
  made = shown (paging features) (data_of value)

  abbrev filled : Property → Response
  filled q = success command id (body.Properties (q ∷ []))

  -- what is refused for want of room is refused
  pub refused_is : (code : ErrorCode) → limited_shown (data_of value) (paging features) room ≡ Err code
      → Finds {A = Response} (Err (Code ErrorEvaluatingCode)) (within_limit (value_response features command id value))
  refused_is code e = by (nat_le (property_size made) room) refl e where
    by : (b : Bool) → nat_le (property_size made) room ≡ b → cond b (ok_of made) (Err CannotGetProperty) ≡ Err code
        → within_limit (value_response features command id value) ≡ Err ErrorEvaluatingCode
    by true t h = absurd cc
    by false t h =
        let long = leb-false (property_size made) room t in
        passes (filled made) (omega (arith, long, whole, filled_is command id made))

  -- and what there is room for is shown
  pub shown_is : (q : Property) (result : Result Response ViewError)
      → limited_shown (data_of value) (paging features) room ≡ Ok q → Gives (filled q) result
      → Finds result (within_limit (value_response features command id value))
  shown_is q result e gives = by (nat_le (property_size made) room) refl e where
    told : (r : Result Response ViewError) → made ≡ q → property_size made ≤ room → Gives (filled q) r
        → Finds r (within_limit (filled made))
    told (Ok r) same short is =
        fits (filled made) (omega (arith, short, whole, filled_is command id made)) ∙ ap
        (λ (q : Property). ok_of (filled q)) same ∙ ap (λ (r : Response). ok_of r) (sym is)
    told (Err (Code code)) same short is = absurd is
    told (Err Memory) same short is = tt

    by : (b : Bool) → nat_le (property_size made) room ≡ b → cond b (ok_of made) (Err CannotGetProperty) ≡ Ok q
        → Finds result (within_limit (value_response features command id value))
    by true t h = let same : made ≡ q = cc in told result same (leb-true (property_size made) room t) gives
    by false t h = absurd cc
