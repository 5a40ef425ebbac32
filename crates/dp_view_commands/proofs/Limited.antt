-- What is shown within what a response has room for is what the response shows within its limit.
use Rattle.std.proofs.Common.{◌≡◌, ℕ, ◌+◌, ◌≤◌, ◌<◌, Bool, true, false, cond, length, nat_le, refl, sym, ap, subst, ◌∙◌, arith}
use Rattle.std.specs.Prelude.{Result, Ok, Err, IsOk}
use Rattle.std.proofs.lemmas.Bool.{leb-false, leb-true}
use Rattle.std.proofs.lemmas.Bool.Decides.{nat_tests}
use Rattle.dp_packet.specs.declared.error_codes.ErrorCode.{ErrorCode}
use Rattle.dp_packet.specs.declared.error_codes.ErrorCode.TheVariants.{CannotGetProperty}
use Rattle.dp_packet.specs.declared.packet.Packet.TheVariants as packet
use Rattle.dp_packet.specs.declared.packet.Response.{Response}
use Rattle.dp_packet.specs.Parts.{Text}
use Rattle.dp_packet.specs.Text.{text}
use Rattle.dp_view.specs.declared.errors.ViewError.{ViewError}
use Rattle.dp_view.specs.declared.errors.ViewError.TheVariants.{Code, Memory}
use Rattle.dp_view.specs.Answers as viewed
use Rattle.dp_view.specs.Answers.{and_then}
use Rattle.dp_view_limits.specs.Limits.{within}
use Rattle.dp_wire.specs.Frames.{packet_limit}
use Rattle.dp_view_commands.specs.Views.{Part, answered, is_short, response_with, within_limit}
use Rattle.dp_view.specs.Answers.{Gives}

-- ---- limits

abbrev ok_of : {A : Type 0} → A → Result A ErrorCode
ok_of a = Ok a

fits_in : (r : Response) (rest size base : ℕ) → rest + base ≡ packet_limit
    → length (text (packet.Response r)) ≡ base + size → size ≤ rest → within_limit r ≡ Ok r
fits_in r rest size base room whole le =
    let low : length (text (packet.Response r)) ≤ packet_limit = omega arith in
    let yes : is_short r ≡ true = grind (arith, nat_tests) in
    ap (λ (b : Bool). cond b (ok_of r) (Err CannotGetProperty)) yes

passes : (r : Response) (rest size base : ℕ) → rest + base ≡ packet_limit
    → length (text (packet.Response r)) ≡ base + size → rest < size → within_limit r ≡ Err CannotGetProperty
passes r rest size base room whole lt =
    let high : packet_limit < length (text (packet.Response r)) = omega arith in
    let no : is_short r ≡ false = grind (arith, nat_tests) in
    ap (λ (b : Bool). cond b (ok_of r) (Err CannotGetProperty)) no

module _ {A : Type 0} (size : A → ℕ) (part : A → Part) (command id : Text) (rest base : ℕ)
    (room : rest + base ≡ packet_limit)
    (whole : (a : A) → length (text (packet.Response (response_with command id (part a)))) ≡ base + size a) where
  abbrev shown : Result A ErrorCode → Result Response ErrorCode
  shown x = answered command id (and_then (λ a. Ok (part a)) x)

  is_made : (x : Result A ErrorCode) (a : A) → and_then (within rest size) x ≡ Ok a
      → shown x ≡ Ok (response_with command id (part a))
  is_made (Err code) a e = absurd cc
  is_made (Ok b) a e = by (nat_le (size b) rest) refl e where
    by : (t : Bool) → nat_le (size b) rest ≡ t → cond t (ok_of b) (Err CannotGetProperty) ≡ Ok a
        → shown (Ok b) ≡ Ok (response_with command id (part a))
    by false t h = absurd cc
    by true t h =
        let same : b ≡ a = cc in
        fits_in (response_with command id (part b)) rest (size b) base room (whole b) (leb-true (size b) rest t)
        ∙ ap (λ (a : A). ok_of (response_with command id (part a))) same

  is_refused : (x : Result A ErrorCode) (code : ErrorCode) → and_then (within rest size) x ≡ Err code
      → shown x ≡ Err code
  is_refused (Err other) code e = let same : other ≡ code = cc in ap (λ c. Err c) same
  is_refused (Ok b) code e = by (nat_le (size b) rest) refl e where
    by : (t : Bool) → nat_le (size b) rest ≡ t → cond t (ok_of b) (Err CannotGetProperty) ≡ Err code
        → shown (Ok b) ≡ Err code
    by true t h = absurd cc
    by false t h =
        let same : CannotGetProperty ≡ code = cc in
        passes (response_with command id (part b)) rest (size b) base room (whole b) (leb-false (size b) rest t)
        ∙ ap (λ c. Err c) same

  -- what a call answers, by what it answered within its room
  pub refused_answers : (x : Result A ErrorCode) (why : ViewError) → viewed.Refuses why (and_then (within rest size) x)
      → viewed.Refuses why (shown x)
  refused_answers x (Code code) e = is_refused x code e
  refused_answers x Memory e = by (and_then (within rest size) x) refl e where
    by : (l : Result A ErrorCode) → and_then (within rest size) x ≡ l → IsOk l → IsOk (shown x)
    by (Ok a) is ok = subst (λ (r : Result Response ErrorCode). IsOk r) (sym (is_made x a is)) refl
    by (Err code) is ok = absurd cc

  pub made_answers : (x : Result A ErrorCode) (a : A) (result : Result Response ViewError)
      → and_then (within rest size) x ≡ Ok a → Gives (response_with command id (part a)) result
      → viewed.Answers (λ r. r) result (shown x)
  made_answers x a (Ok r) is gives = is_made x a is ∙ ap (λ (r : Response). ok_of r) (sym gives)
  made_answers x a (Err (Code code)) is gives = absurd gives
  made_answers x a (Err Memory) is gives = subst (λ (r : Result Response ErrorCode). IsOk r) (sym (is_made x a is)) refl

  -- the same where something is looked for first
  module _ {Z : Type 0} (first : Result Z ErrorCode) where
    pub refused_after : (x : Result A ErrorCode) (why : ViewError)
        → viewed.AnswersAfter {X = A} (λ a. a) (Err why) first (and_then (within rest size) x)
        → viewed.AnswersAfter {X = Response} (λ r. r) (Err why) first (shown x)
    refused_after x (Code code) e = is_refused x code e
    refused_after x Memory e = e

    pub made_after : (x : Result A ErrorCode) (a : A) (result : Result Response ViewError)
        → and_then (within rest size) x ≡ Ok a → IsOk first → Gives (response_with command id (part a)) result
        → viewed.AnswersAfter (λ r. r) result first (shown x)
    made_after x a (Ok r) is there gives = is_made x a is ∙ ap (λ (r : Response). ok_of r) (sym gives)
    made_after x a (Err (Code code)) is there gives = absurd gives
    made_after x a (Err Memory) is there gives = there

-- what comes first was there
pub was_there : {A B C : Type 0} (f : A → Result B ErrorCode) (g : B → Result C ErrorCode)
    (first : Result A ErrorCode) (c : C)
    → and_then g (and_then f first) ≡ Ok c → IsOk first
was_there f g (Ok a) c e = refl
was_there f g (Err code) c e = absurd cc
