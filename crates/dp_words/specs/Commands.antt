-- What the code's commands ask for, apart from where their words lie in memory.
use Rattle.std.specs.Prelude.{map, string_bytes}
use Rattle.dp_words.specs.declared.words.Address.{Address as CodeAddress}
use Rattle.dp_words.specs.declared.words.Command.{Command}
use Rattle.dp_words.specs.declared.words.Program.{Program}
use Rattle.dp_words.specs.declared.words.Proxy.{Proxy}
use Rattle.dp_words.specs.declared.words.Command.TheVariants as told
use Rattle.dp_words.specs.Words.{Address, Invocation, Service, Task, run, talk, tape, audit, dap, engine, async, ide, replay, soak, proxy, show}

-- a program that is asked for
abbrev pub invocation_seen : Program → Invocation
invocation_seen program =
    record { bound = program.bound; names = map string_bytes program.files.now }

-- the address of an IDE
abbrev pub address_seen : CodeAddress → Address
address_seen address = record { host = address.host.now; port = address.port }

-- what a proxy is to do
abbrev pub service_seen : Proxy → Service
service_seen request = record {
  ides = request.ide_port;
  engines = request.engine_port;
  registrations = request.registrations;
  sessions = request.sessions;
}

-- a command
abbrev pub task_of : Command → Task
task_of (told.Run program) = run (invocation_seen program)
task_of (told.Talk request) = talk request.key.now (invocation_seen request.program)
task_of (told.Tape request) = tape request.key.now (invocation_seen request.program)
task_of (told.Audit request) = audit request.key.now (invocation_seen request.program)
task_of (told.Dap program) = dap (invocation_seen program)
task_of (told.Engine request) =
    engine (address_seen request.address) request.talk.key.now
    (invocation_seen request.talk.program)
task_of (told.Async request) =
    async (address_seen request.address) request.talk.key.now
    (invocation_seen request.talk.program)
task_of (told.Ide request) = ide request.port request.script.now
task_of (told.Replay request) = replay request.events.now (invocation_seen request.program)
task_of (told.Soak request) = soak request.count request.seed
task_of (told.Proxy request) = proxy (service_seen request)
task_of told.Show = show
