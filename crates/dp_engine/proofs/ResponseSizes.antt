-- Every response of a session fits a packet, where its line is short enough.
use Rattle.std.proofs.Common.{◌≡◌, ℕ, ◌*◌, ◌≤◌, Bool, true, false, cond, List, [], ◌∷◌, codes, length, Option, Some, None, refl, sym, ap, subst, ◌∙◌, arith, eqb}
use Rattle.std.specs.Prelude.{All, map, option_map, slice_get, unwrap_or, Result, Ok, Err, IfOk, IfSome}
use Rattle.std.specs.List.{AllByRecursion}
use Rattle.std.specs.Option.{option_map_or}
use Rattle.std.proofs.lemmas.Fmt.{length-decimal-le}
use Rattle.dp_tree.specs.declared.bundle.Bundle.{Bundle}
use Rattle.dp_tree.specs.declared.bundle.BundleFile.{BundleFile}
use Rattle.dp_tree.specs.FileNames.{AreFileNames, IsFileName}
use Rattle.dp_command.specs.declared.command.Command.{Command}
use Rattle.dp_command.specs.declared.line.Line.{Line}
use Rattle.dp_command.specs.declared.names.CommandName.{CommandName}
use Rattle.dp_command.specs.declared.names.CommandName.TheVariants as name
use Rattle.dp_command.specs.Commands.{command_of, request_of}
use Rattle.dp_command.specs.Letters as letter
use Rattle.dp_command.specs.Names.{name_of}
use Rattle.dp_command.specs.Options.{Options, given, text_given}
use Rattle.dp_command.specs.Refusals.{id_of}
use Rattle.dp_packet.specs.declared.error_codes.ErrorCode.{ErrorCode}
use Rattle.dp_packet.specs.declared.error_codes.ErrorCode.TheVariants.{ParseError}
use Rattle.dp_packet.specs.Messages.{message_of, number}
use Rattle.dp_packet.specs.declared.packet.Body.{Body}
use Rattle.dp_packet.specs.declared.packet.Response.{Response}
use Rattle.dp_packet.specs.declared.packet.Packet.{Packet}
use Rattle.dp_packet.specs.declared.packet.Packet.TheVariants as packet
use Rattle.dp_packet.specs.Packets.{element_of}
use Rattle.dp_packet.specs.Parts.{Attributes, Text}
use Rattle.dp_packet.proofs.CodeLaws.{code_has_message, number_below}
use Rattle.dp_packet.proofs.LengthLaws.{bare_response_short, fault_short, init_short, packet_short, packet_some, text_short, uri_short, written_short}
use Rattle.dp_packet.specs.Uris.{file_uri}
use Rattle.dp_wire.specs.Frames.{IsPacketText, command_limit}
use Rattle.dp_engine.specs.Responses.{init_text, main_name, fault_response, feature_response, response, response_text, set_response, success_response, status_attributes, status_response}
use Rattle.dp_engine.specs.ShortLines.{IsShort}
use Rattle.dp_engine.specs.inner.Sizes.{Fits, IsShortRequest}

-- ---- messages

message_short : (code : ErrorCode) → length (message_of (number code)) ≤ 32
message_short ParseError = omega arith
message_short other = omega arith

-- ---- kinds of responses

module _ (command id : Text) (short_name : length command ≤ 64) (short_id : length id ≤ 64) where
  pub status_fits : (status reason : Text) → length status ≤ 16 → length reason ≤ 16
      → Fits (status_response command id status reason)
  unfolding response_text
  status_fits status reason p q =
      record { known = refl; short = omega (arith, bare_response_short command id (status_attributes status reason)) }

  pub set_fits : (feature : Text) → length feature ≤ 1048576 → Fits (set_response command id feature)
  unfolding response_text
  set_fits feature p =
      record {
        known = refl;
        short = omega (
          arith,
          bare_response_short command id
              ((codes "feature", feature) ∷ (codes "success", codes "1") ∷ []),
        );
      }

  pub success_fits : (success : Bool) → Fits (success_response command id success)
  unfolding response_text
  success_fits true =
      record { known = refl; short = omega (arith, bare_response_short command id ((codes "success", codes "1") ∷ [])) }
  success_fits false =
      record { known = refl; short = omega (arith, bare_response_short command id ((codes "success", codes "0") ∷ [])) }

  abbrev pub IsShortValue : Option Text → Type 0
  IsShortValue None = Unit {0}
  IsShortValue (Some value) = length value ≤ 64

  abbrev told : Text → Text → Attributes
  told feature supported = (codes "feature_name", feature) ∷ (codes "supported", supported) ∷ []

  pub feature_fits : (feature supported : Text) (value : Option Text) → length feature ≤ 1048576 → length supported ≤ 16
      → IsShortValue value
      → Fits (feature_response command id feature supported value)
  unfolding response_text
  feature_fits feature supported None p q r =
      record { known = refl; short = omega (arith, bare_response_short command id (told feature supported)) }
  feature_fits feature supported (Some value) p q r =
      let whole : Packet = packet.Response (feature_response command id feature supported (Some value)) in
      let short = packet_short whole _ (written_short (element_of whole) (6 * length value) (text_short value)) in
      record { known = refl; short = omega (arith, short, r) }

  value_short : (value : Option Text) → IfSome value (λ text. length text ≤ 64) → IsShortValue value
  value_short None p = tt
  value_short (Some value) p = p

  -- of a value that is short
  pub feature_fits_if : (feature supported : Text) (value : Option Text) → length feature ≤ 1048576
      → length supported ≤ 16 → IfSome value (λ text. length text ≤ 64)
      → Fits (feature_response command id feature supported value)
  feature_fits_if feature supported value p q r = feature_fits feature supported value p q (value_short value r)

  pub fault_fits : (code : ErrorCode) → Fits (fault_response command id code)
  unfolding response_text
  fault_fits code =
      let below = number_below code in
      let digits = length-decimal-le 3 (number code) (omega arith) (omega (arith, below)) (omega (arith, below)) in
      record {
        known = code_has_message code;
        short = omega (arith, fault_short command id [] (number code), digits, message_short code);
      }

-- a response that was made fits where the one that was asked for does
pub made_fits : {E : Type 0} (command id : Text) (attributes asked : Attributes) (what : Body)
    (made : Result Response E)
    → IfOk made (λ r. r ≡ response command id attributes what) → attributes ≡ asked
    → Fits (response command id asked what) → IfOk made Fits
made_fits command id attributes asked what (Ok r) is same fits =
    subst Fits (sym (is ∙ ap (λ (a : Attributes). response command id a what) same)) fits
made_fits command id attributes asked what (Err e) is same fits = tt

-- ---- requests

given_short : (letter : ℕ) (options : Options) (most : ℕ)
    → AllByRecursion (λ (o : ℕ × List ℕ). length o.1 ≤ most) options → length (text_given letter options) ≤ most
given_short letter [] most h = omega arith
given_short letter (o ∷ options) most h = cases (eqb o.0 letter) (given_short letter options most h.1) where
  cases : (b : Bool) → length (text_given letter options) ≤ most
      → length (unwrap_or (cond b (Some o.1) (given letter options)) []) ≤ most
  cases true later = h.0
  cases false later = later

pub request_short : (line : Line) (name : CommandName) → IsShort line → IsShortRequest (request_of name line)
unfolding request_of
request_short line name.FeatureGet h = given_short letter.n line.options command_limit h.values
request_short line name.FeatureSet h = given_short letter.n line.options command_limit h.values
request_short line other h = tt

pub command_short : (line : Line) (command : Command) → IsShort line → command_of line ≡ Some command
    → IsShortRequest command.request
command_short line command h e = cases (name_of line.name) e where
  cases : (name : Option CommandName)
      → option_map (λ (n : CommandName). record { id = id_of line; request = request_of n line }) name ≡ Some command
      → IsShortRequest command.request
  cases None e = absurd cc
  cases (Some name) e =
      let same : request_of name line ≡ command.request = cc in subst IsShortRequest same (request_short line name h)

-- ---- the first packet

-- the name of the main file of a program whose files have names of files
pub main_short : (bundle : Bundle) → AreFileNames (map (λ f. f.name) bundle.files) → length (main_name bundle) ≤ 255
main_short bundle names = by bundle.files names.named where
  by : (files : List BundleFile) → All IsFileName (map (λ f. f.name) files)
      → length (option_map_or (λ file. file.name) (slice_get files 0) []) ≤ 255
  by [] all = omega arith
  by (file ∷ files) all = (all 0 file.name (omega arith)).short

pub init_fits : (bundle : Bundle) (key : List ℕ) → length key ≤ 128 → length (main_name bundle) ≤ 255
    → IsPacketText (init_text bundle key)
unfolding init_text
init_fits bundle key p q = record {
  some_byte = packet_some (packet.Init (record { idekey = key; fileuri = file_uri (main_name bundle) }));
  fits = omega (arith, init_short key (file_uri (main_name bundle)), uri_short (main_name bundle));
}
