-- Which text is a request: Debug Adapter Protocol, "ProtocolMessage" and "Request".
use Rattle.std.specs.Prelude.{ℕ, nat_le, ◌==◌, List, Option, Some, None, option_map, option_and_then, if◌then◌else◌, codes}
use Rattle.std.specs.Option.{option_map_or}
use Rattle.std.specs.Prelude.{Bool, false}
use Rattle.std.specs.Str.{bytes_eq, is_utf8}
use Rattle.serde_json.specs.Data.{Data}
use Rattle.serde_json.specs.Find.{get, as_number, as_str, as_u64}
use Rattle.serde_json.specs.Read.{read}
use Rattle.serde_json.specs.View.{view}
use Rattle.dp_bodies.specs.declared.request.DapRequest.{DapRequest}

-- the most that a number of a request is
abbrev pub number_limit : ℕ
number_limit = 2147483647

-- a whole number from 0 to that limit; written with a point, an exponent or as `-0` it is none
abbrev pub whole : Data → Option ℕ
whole value =
    option_and_then (λ n. if nat_le n number_limit then Some n else None)
    (option_and_then as_u64 (as_number value))

pub record Request : Type 0 where
  pub seq : ℕ
  pub command : List ℕ
  pub arguments : Option Data

-- the member of this name is this text
abbrev pub says : List ℕ → List ℕ → Data → Bool
says name text value = option_map_or (bytes_eq text) (option_and_then as_str (get name value)) false

-- the number of a message: from 1 on
abbrev pub seq_of : Data → Option ℕ
seq_of value =
    option_and_then (λ n. if n == 0 then None else Some n)
    (option_and_then whole (get (codes "seq") value))

abbrev pub command_of : Data → Option (List ℕ)
command_of value = option_and_then as_str (get (codes "command") value)

-- the request that an object with these members is
abbrev pub with_parts : Option ℕ → Option (List ℕ) → Option Data → Option Request
with_parts (Some seq) (Some command) arguments =
    Some (record { seq = seq; command = command; arguments = arguments })
with_parts (Some seq) None arguments = None
with_parts None command arguments = None

abbrev pub request_of : Data → Option Request
request_of value =
    if says (codes "type") (codes "request") value
    then with_parts (seq_of value) (command_of value) (get (codes "arguments") value) else None

-- the request that a text is, if it is one
abbrev pub request_in : List ℕ → Option Request
request_in text = if is_utf8 text then option_and_then request_of (read text) else None

-- a request of the program, as a definition sees it
abbrev pub request_seen : DapRequest → Request
request_seen request = record {
  seq = request.seq;
  command = request.command;
  arguments = option_map view request.arguments;
}
