-- The statuses that the program ends with where it did not end as a PHP program did, by name.
use Rattle.std.specs.Prelude.{ℕ}
-- the greatest status of a PHP program that came to its end, or exited; and that of bytes that are
-- no command or no packet where one should stand
pub use Rattle.dp_records.specs.Statuses.{exit_limit, bad_status as packet_status}

-- the words ask for nothing
abbrev pub usage_status : ℕ
usage_status = 200

-- a file is too long or no program
abbrev pub source_status : ℕ
source_status = 201

-- the shelf failed, or lacks a file
abbrev pub shelf_status : ℕ
shelf_status = 202

-- an output failed
abbrev pub output_status : ℕ
output_status = 203

-- a file is no script, or no list of events
abbrev pub script_status : ℕ
script_status = 204

-- something else was found than a script wants
abbrev pub differs_status : ℕ
differs_status = 205

-- the peer ended before it should
abbrev pub peer_end_status : ℕ
peer_end_status = 206

-- the input, or the network, failed
abbrev pub network_status : ℕ
network_status = 208

-- memory ran out
abbrev pub memory_status : ℕ
memory_status = 209

-- a record tells something else than its session does
abbrev pub lies_status : ℕ
lies_status = 211
