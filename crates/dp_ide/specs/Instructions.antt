-- What the instructions of a script ask for, over the messages that come.
use Rattle.std.specs.Prelude.{◌≡◌, ℕ, true, not, List, [], ◌∷◌, ◌++◌, Option, Some, None, flat_map, codes, decimal, ⊤}
use Rattle.std.specs.List.{list_all}
use Rattle.dp_markup.specs.Grammar.{value_of}
use Rattle.dp_markup.specs.Texts.{written}
use Rattle.dp_wire.specs.Frames.{command_frame}
use Rattle.dp_ide.specs.declared.instruction.Act.{Act}
use Rattle.dp_ide.specs.declared.instruction.Act.TheVariants.{Send, Attr, Code, Prop, Out, Print}
use Rattle.dp_ide.specs.declared.instruction.Instruction.{Instruction}
use Rattle.dp_ide.specs.declared.heard.Message.{Message}
use Rattle.dp_ide.specs.Messages.{is_init, answers, output_in, code_in, content_in}

-- What has been heard: the last message, which is the init or the response to the last command; the
-- program's output since it was last asked for; and what was printed of it.
pub record Heard : Type 0 where
  pub last : Message
  pub output : List ℕ
  pub printed : List ℕ

-- ---- what is expected

pub record Expectation : Type 0 where
  pub wanted : List ℕ
  pub found : Option (List ℕ)

abbrev pub wants : List ℕ → Option (List ℕ) → Option Expectation
wants wanted found = Some (record { wanted = wanted; found = found })

-- what an instruction expects, and what is found in its place
abbrev pub expected : Act → Heard → Option Expectation
expected (Attr name text) heard = wants text (value_of heard.last.root.attributes name)
expected (Code n) heard = wants (decimal n) (Some (decimal (code_in heard.last.packet)))
expected (Prop name text) heard = wants text (content_in name heard.last.packet)
expected (Out text) heard = wants text (Some heard.output)
expected (Send line id) heard = None
expected Print heard = None

-- an expectation, if there is one, is met
abbrev pub IsMet : Option Expectation → Type 0
IsMet None = ⊤
IsMet (Some expectation) = expectation.found ≡ Some expectation.wanted

-- ---- what is played

-- The messages are the answer to the command with this id, behind others that are passed over.
-- Output that these carry is kept.
pub record Answered (id : List ℕ) (before : Heard) (messages : List Message) (after : Heard)
    : Type 0 where
  pub passed : List Message
  pub answer : Message
  pub whole : messages ≡ passed ++ answer ∷ []
  pub none : list_all (λ message. not (answers id message.packet)) passed ≡ true
  pub is : answers id answer.packet ≡ true
  pub heard : after ≡ record before {
    last = answer;
    output = before.output ++ flat_map (λ message. output_in message.packet) passed;
  }

-- what has been heard once an instruction that awaits no message is played
abbrev pub afterwards : Act → Heard → Heard
afterwards (Out text) heard = record heard { output = [] }
afterwards Print heard =
    record heard { printed = heard.printed ++ written heard.last.root ++ codes "\n" }
afterwards other heard = heard

-- the instruction is played over these messages, and this has been heard then
abbrev pub Does : Act → Heard → List Message → Heard → Type 0
Does (Send line id) before messages after = Answered id before messages after
Does act before messages after =
    IsMet (expected act before) × (messages ≡ []) × (after ≡ afterwards act before)

-- the instructions are played one after another
abbrev pub Goes : List Instruction → Heard → List Message → Heard → Type 0
Goes [] before messages after = (messages ≡ []) × (after ≡ before)
Goes (one ∷ more) before messages after =
    (now : List Message) × (later : List Message) × (heard : Heard) × (messages ≡ now ++ later)
    × Does one.act before now heard × Goes more heard later after

-- The first message is the init. The instructions are played behind it.
pub record Played (instructions : List Instruction) (messages : List Message) (heard : Heard)
    : Type 0 where
  pub init : Message
  pub later : List Message
  pub whole : messages ≡ init ∷ later
  pub is : is_init init.packet ≡ true
  pub goes : Goes instructions (record { last = init; output = []; printed = [] }) later heard

-- ---- what is sent

abbrev pub sent_by : Act → List ℕ
sent_by (Send line id) = command_frame line
sent_by other = []

-- the bytes of the commands of these instructions, in order
abbrev pub sent : List Instruction → List ℕ
sent instructions = flat_map (λ one. sent_by one.act) instructions
