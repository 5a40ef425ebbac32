-- The words of a command line, without the program's name, and what they ask for.
use Rattle.std.specs.Prelude.{◌≡◌, ℕ, zero, suc, ◌≤◌, Bool, true, false, ◌&&◌, not, if◌then◌else◌, List, [], ◌∷◌, length, All, codes, ◌==◌, Option, Some, None, option_map}
use Rattle.std.specs.List.{list_all}
use Rattle.std.specs.Str.{bytes_eq}
use Rattle.dp_tree.specs.FileNames.{file_count_limit, file_name_limit}
use Rattle.dp_outside.specs.Names.{IsHost, IsKey}
use Rattle.dp_bytes.specs.Names.{without_slash}
use Rattle.dp_bytes.specs.Decimals.{decimal_in}
use Rattle.dp_wire.specs.Frames.{has_no_nul}

-- the name of a file: 1 to 255 bytes without NUL
pub record IsFileName (name : List ℕ) : Type 0 where
  pub some : 1 ≤ length name
  pub short : length name ≤ file_name_limit
  pub no_nul : has_no_nul name ≡ true

-- a word that begins with `-` asks for an option, and none is known
abbrev pub is_option : List ℕ → Bool
is_option [] = false
is_option (byte ∷ word) = byte == 45

-- a word that is the name of a file, and asks for no option
pub record IsFileWord (word : List ℕ) : Type 0 where
  pub is_name : IsFileName word
  pub is_none : is_option word ≡ false

-- ---- the words behind a command

-- how many moments a program may have where the words do not say it, and the most that they may ask
-- for
abbrev pub default_bound : ℕ
default_bound = 1000000

abbrev pub bound_limit : ℕ
bound_limit = 100000000

abbrev pub not_zero : Option ℕ → Option ℕ
not_zero None = None
not_zero (Some zero) = None
not_zero (Some (suc n)) = Some (suc n)

-- the bound that a word is: a decimal from 1 to the most
abbrev pub bound_of : List ℕ → Option ℕ
bound_of word = not_zero (decimal_in bound_limit word)

-- a program that is asked for: how many moments it may have, and the names of its files
pub record Invocation : Type 0 where
  pub bound : ℕ
  pub names : List (List ℕ)

abbrev pub with_bound : List (List ℕ) → Option Invocation
with_bound [] = None
with_bound (number ∷ names) =
    option_map (λ bound. record { bound = bound; names = names }) (bound_of number)

-- the words are the names, behind `--bound N` or without it
abbrev pub invocation_of : List (List ℕ) → Option Invocation
invocation_of [] = Some (record { bound = default_bound; names = [] })
invocation_of (word ∷ words) =
    if bytes_eq word (codes "--bound") then with_bound words
    else Some (record { bound = default_bound; names = word ∷ words })

-- whether no two names are the same without one leading `/` of each
abbrev pub are_apart : List (List ℕ) → Bool
are_apart [] = true
are_apart (name ∷ names) =
    list_all (λ other. not (bytes_eq (without_slash name) (without_slash other))) names
    && are_apart names

-- the names of a program's files: 1 to the most, apart also without one leading `/`
pub record AreFileWords (names : List (List ℕ)) : Type 0 where
  pub some : 1 ≤ length names
  pub few : length names ≤ file_count_limit
  pub named : All IsFileWord names
  pub apart : are_apart names ≡ true

-- what stands behind `run`, and behind `dap`
pub record RunWords (words : List (List ℕ)) (ask : Invocation) : Type 0 where
  pub invocation : invocation_of words ≡ Some ask
  pub files : AreFileWords ask.names

-- the words are `run [--bound N] FILE..`
pub record IsRun (words : List (List ℕ)) (ask : Invocation) : Type 0 where
  pub behind : List (List ℕ)
  pub words_are : words ≡ codes "run" ∷ behind
  pub follows : RunWords behind ask

-- the session of a key over a program
pub record IsSession (key : List ℕ) (ask : Invocation) : Type 0 where
  pub is_key : IsKey key
  pub is_none : is_option key ≡ false
  pub files : AreFileWords ask.names

-- what stands behind `talk`, `tape` and `audit`
pub record TalkWords (words : List (List ℕ)) (key : List ℕ) (ask : Invocation) : Type 0 where
  pub invocation : invocation_of words
      ≡ Some (record { bound = ask.bound; names = key ∷ ask.names })
  pub session : IsSession key ask

-- the words are `talk [--bound N] KEY FILE..`
pub record IsTalk (words : List (List ℕ)) (key : List ℕ) (ask : Invocation) : Type 0 where
  pub behind : List (List ℕ)
  pub words_are : words ≡ codes "talk" ∷ behind
  pub speaks : TalkWords behind key ask

-- the words are `tape [--bound N] KEY FILE..`
pub record IsTape (words : List (List ℕ)) (key : List ℕ) (ask : Invocation) : Type 0 where
  pub behind : List (List ℕ)
  pub words_are : words ≡ codes "tape" ∷ behind
  pub speaks : TalkWords behind key ask

-- the words are `audit [--bound N] KEY FILE..`
pub record IsAudit (words : List (List ℕ)) (key : List ℕ) (ask : Invocation) : Type 0 where
  pub behind : List (List ℕ)
  pub words_are : words ≡ codes "audit" ∷ behind
  pub speaks : TalkWords behind key ask

-- the words are `dap [--bound N] FILE..`
pub record IsDap (words : List (List ℕ)) (ask : Invocation) : Type 0 where
  pub behind : List (List ℕ)
  pub words_are : words ≡ codes "dap" ∷ behind
  pub follows : RunWords behind ask

-- a word that is the name or address of a machine, and asks for no option
pub record IsHostWord (word : List ℕ) : Type 0 where
  pub is_host : IsHost word
  pub is_none : is_option word ≡ false

abbrev pub port_limit : ℕ
port_limit = 65535

-- the port that a word is: a decimal from 1 to the most
abbrev pub port_of : List ℕ → Option ℕ
port_of word = not_zero (decimal_in port_limit word)

-- where an IDE waits for an engine
pub record Address : Type 0 where
  pub host : List ℕ
  pub port : ℕ

-- what stands behind `engine`, and behind `async`
pub record EngineWords (words : List (List ℕ)) (address : Address) (key : List ℕ) (ask : Invocation)
    : Type 0 where
  pub number : List ℕ
  pub invocation : invocation_of words
      ≡ Some (record { bound = ask.bound; names = address.host ∷ number ∷ key ∷ ask.names })
  pub host : IsHostWord address.host
  pub port : port_of number ≡ Some address.port
  pub session : IsSession key ask

-- the words are `engine [--bound N] HOST PORT KEY FILE..`
pub record IsEngine (words : List (List ℕ)) (address : Address) (key : List ℕ) (ask : Invocation)
    : Type 0 where
  pub behind : List (List ℕ)
  pub words_are : words ≡ codes "engine" ∷ behind
  pub dials : EngineWords behind address key ask

-- the words are `async [--bound N] HOST PORT KEY FILE..`
pub record IsAsync (words : List (List ℕ)) (address : Address) (key : List ℕ) (ask : Invocation)
    : Type 0 where
  pub behind : List (List ℕ)
  pub words_are : words ≡ codes "async" ∷ behind
  pub dials : EngineWords behind address key ask

-- the words are `ide PORT SCRIPT`
pub record IsIde (words : List (List ℕ)) (port : ℕ) (script : List ℕ) : Type 0 where
  pub number : List ℕ
  pub words_are : words ≡ codes "ide" ∷ number ∷ script ∷ []
  pub is_port : port_of number ≡ Some port
  pub is_script : IsFileWord script

-- what stands behind `replay`
pub record ReplayWords (words : List (List ℕ)) (events : List ℕ) (ask : Invocation) : Type 0 where
  pub invocation : invocation_of words
      ≡ Some (record { bound = ask.bound; names = events ∷ ask.names })
  pub is_events : IsFileWord events
  pub files : AreFileWords ask.names

-- the words are `replay [--bound N] EVENTS FILE..`
pub record IsReplay (words : List (List ℕ)) (events : List ℕ) (ask : Invocation) : Type 0 where
  pub behind : List (List ℕ)
  pub words_are : words ≡ codes "replay" ∷ behind
  pub replays : ReplayWords behind events ask

-- the most sessions that a soak may have, and the greatest seed: 2^64 - 1
abbrev pub soak_limit : ℕ
soak_limit = 10000

abbrev pub seed_limit : ℕ
seed_limit = 18446744073709551615

-- how many sessions a word asks for: a decimal from 1 to the most
abbrev pub session_count_of : List ℕ → Option ℕ
session_count_of word = not_zero (decimal_in soak_limit word)

-- the words are `soak N SEED`
pub record IsSoak (words : List (List ℕ)) (count seed : ℕ) : Type 0 where
  pub number : List ℕ
  pub drawn : List ℕ
  pub words_are : words ≡ codes "soak" ∷ number ∷ drawn ∷ []
  pub is_count : session_count_of number ≡ Some count
  pub is_seed : decimal_in seed_limit drawn ≡ Some seed

-- the most registrations, and the most sessions, that a proxy may serve
abbrev pub served_limit : ℕ
served_limit = 65535

-- how many a proxy serves: a decimal from 1 to the most
abbrev pub served_count_of : List ℕ → Option ℕ
served_count_of word = not_zero (decimal_in served_limit word)

-- what a proxy is to do: at which ports IDEs and engines come, and how many of each it serves
pub record Service : Type 0 where
  pub ides : ℕ
  pub engines : ℕ
  pub registrations : ℕ
  pub sessions : ℕ

-- the words are `proxy IDEPORT ENGINEPORT REGISTRATIONS SESSIONS`
pub record IsProxy (words : List (List ℕ)) (service : Service) : Type 0 where
  pub ides : List ℕ
  pub engines : List ℕ
  pub registrations : List ℕ
  pub sessions : List ℕ
  pub words_are : words ≡ codes "proxy" ∷ ides ∷ engines ∷ registrations ∷ sessions ∷ []
  pub is_ides : port_of ides ≡ Some service.ides
  pub is_engines : port_of engines ≡ Some service.engines
  pub is_registrations : served_count_of registrations ≡ Some service.registrations
  pub is_sessions : served_count_of sessions ≡ Some service.sessions

-- ---- what is asked for

pub data Task : Type 0 where
  run : Invocation → Task
  talk : (key : List ℕ) → Invocation → Task
  tape : (key : List ℕ) → Invocation → Task
  audit : (key : List ℕ) → Invocation → Task
  dap : Invocation → Task
  engine : Address → (key : List ℕ) → Invocation → Task
  async : Address → (key : List ℕ) → Invocation → Task
  ide : (port : ℕ) → (script : List ℕ) → Task
  replay : (events : List ℕ) → Invocation → Task
  soak : (count seed : ℕ) → Task
  proxy : Service → Task
  show : Task

-- the words ask for this
abbrev pub IsInvocation : List (List ℕ) → Task → Type 0
IsInvocation words (run ask) = IsRun words ask
IsInvocation words (talk key ask) = IsTalk words key ask
IsInvocation words (tape key ask) = IsTape words key ask
IsInvocation words (audit key ask) = IsAudit words key ask
IsInvocation words (dap ask) = IsDap words ask
IsInvocation words (engine address key ask) = IsEngine words address key ask
IsInvocation words (async address key ask) = IsAsync words address key ask
IsInvocation words (ide port script) = IsIde words port script
IsInvocation words (replay events ask) = IsReplay words events ask
IsInvocation words (soak count seed) = IsSoak words count seed
IsInvocation words (proxy service) = IsProxy words service
IsInvocation words show = words ≡ codes "show" ∷ []

-- the program that all its files make, where they are those of one
abbrev pub invocation_in : Task → Option Invocation
invocation_in (run ask) = Some ask
invocation_in (talk key ask) = Some ask
invocation_in (tape key ask) = Some ask
invocation_in (audit key ask) = Some ask
invocation_in (dap ask) = Some ask
invocation_in (engine address key ask) = Some ask
invocation_in (async address key ask) = Some ask
invocation_in (ide port script) = None
invocation_in (replay events ask) = None
invocation_in (soak count seed) = None
invocation_in (proxy service) = None
invocation_in show = None

abbrev pub requested_names : Option Invocation → List (List ℕ)
requested_names None = []
requested_names (Some ask) = ask.names

-- the names of the files that it is for, in order
abbrev pub files_in : Task → List (List ℕ)
files_in (ide port script) = script ∷ []
files_in (replay events ask) = events ∷ ask.names
files_in task = requested_names (invocation_in task)

-- whether files are fetched for it
abbrev pub uses_shelf : Task → Bool
uses_shelf (soak count seed) = false
uses_shelf (proxy service) = false
uses_shelf show = false
uses_shelf task = true

-- whether it is done over the network
abbrev pub uses_net : Task → Bool
uses_net (engine address key ask) = true
uses_net (async address key ask) = true
uses_net (ide port script) = true
uses_net (proxy service) = true
uses_net task = false

-- whether threads are started for it
abbrev pub uses_spawner : Task → Bool
uses_spawner (async address key ask) = true
uses_spawner (proxy service) = true
uses_spawner task = false
