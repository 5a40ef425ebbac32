-- What the words give, command by command.
use Rattle.std.specs.Prelude.{ℕ, Bool, List, [], ◌∷◌, ◌++◌, Option, Some, None, option_map, codes}
use Rattle.std.specs.List.{list_all}
use Rattle.clap.specs.Walk.{Row, Text}
use Rattle.clap.specs.declared.builder.value_parser.Reading.TheVariants.{AsWritten}
use Rattle.clap.specs.declared.parser.matches.ValueSource.TheVariants.{CommandLine}
use Rattle.dp_words.specs.Words.{Invocation, bound_of, default_bound}
use Rattle.dp_words.specs.Plain.{is_plain}
use Rattle.dp_words.specs.inner.Shapes.{engine_words, ide_words, proxy_words, replay_words, soak_words, talk_words}

pub data Given : Type 0 where
  run_given : (bound : Option Text) → (files : List Text) → Given
  talk_given : (bound : Option Text) → (key : Text) → (files : List Text) → Given
  tape_given : (bound : Option Text) → (key : Text) → (files : List Text) → Given
  audit_given : (bound : Option Text) → (key : Text) → (files : List Text) → Given
  dap_given : (bound : Option Text) → (files : List Text) → Given
  engine_given : (bound : Option Text) → (host port key : Text) → (files : List Text) → Given
  async_given : (bound : Option Text) → (host port key : Text) → (files : List Text) → Given
  ide_given : (port script : Text) → Given
  replay_given : (bound : Option Text) → (events : Text) → (files : List Text) → Given
  soak_given : (count seed : Text) → Given
  proxy_given : (ides engines registrations sessions : Text) → Given
  show_given : Given

-- ---- the words

abbrev pub name_in : Given → Text
name_in (run_given bound files) = codes "run"
name_in (talk_given bound key files) = codes "talk"
name_in (tape_given bound key files) = codes "tape"
name_in (audit_given bound key files) = codes "audit"
name_in (dap_given bound files) = codes "dap"
name_in (engine_given bound host port key files) = codes "engine"
name_in (async_given bound host port key files) = codes "async"
name_in (ide_given port script) = codes "ide"
name_in (replay_given bound events files) = codes "replay"
name_in (soak_given count seed) = codes "soak"
name_in (proxy_given ides engines registrations sessions) = codes "proxy"
name_in show_given = codes "show"

abbrev pub bound_in : Given → Option Text
bound_in (run_given bound files) = bound
bound_in (talk_given bound key files) = bound
bound_in (tape_given bound key files) = bound
bound_in (audit_given bound key files) = bound
bound_in (dap_given bound files) = bound
bound_in (engine_given bound host port key files) = bound
bound_in (async_given bound host port key files) = bound
bound_in (ide_given port script) = None
bound_in (replay_given bound events files) = bound
bound_in (soak_given count seed) = None
bound_in (proxy_given ides engines registrations sessions) = None
bound_in show_given = None

-- those of the command that stand before the files
abbrev pub first_in : Given → List Text
first_in (run_given bound files) = []
first_in (talk_given bound key files) = key ∷ []
first_in (tape_given bound key files) = key ∷ []
first_in (audit_given bound key files) = key ∷ []
first_in (dap_given bound files) = []
first_in (engine_given bound host port key files) = host ∷ port ∷ key ∷ []
first_in (async_given bound host port key files) = host ∷ port ∷ key ∷ []
first_in (ide_given port script) = port ∷ script ∷ []
first_in (replay_given bound events files) = events ∷ []
first_in (soak_given count seed) = count ∷ seed ∷ []
first_in (proxy_given ides engines registrations sessions) =
    ides ∷ engines ∷ registrations ∷ sessions ∷ []
first_in show_given = []

abbrev pub files_in : Given → List Text
files_in (run_given bound files) = files
files_in (talk_given bound key files) = files
files_in (tape_given bound key files) = files
files_in (audit_given bound key files) = files
files_in (dap_given bound files) = files
files_in (engine_given bound host port key files) = files
files_in (async_given bound host port key files) = files
files_in (ide_given port script) = []
files_in (replay_given bound events files) = files
files_in (soak_given count seed) = []
files_in (proxy_given ides engines registrations sessions) = []
files_in show_given = []

-- words behind `--bound N`, or without it
abbrev pub bounded : Option Text → List Text → List Text
bounded None words = words
bounded (Some number) words = codes "--bound" ∷ number ∷ words

abbrev pub words_in : Given → List Text
words_in g = name_in g ∷ bounded (bound_in g) (first_in g ++ files_in g)

abbrev pub are_plain_in : Given → Bool
are_plain_in g = list_all is_plain (first_in g ++ files_in g)

-- ---- the bound

abbrev pub bound_given : Option Text → Option ℕ
bound_given None = Some default_bound
bound_given (Some word) = bound_of word

-- the program of these names
abbrev pub requested : Option Text → List Text → Option Invocation
requested bound names = option_map (λ n. record { bound = n; names = names }) (bound_given bound)

-- ---- what the matches hold

abbrev pub row : Text → List Text → Row
row id values = record {
  id = id;
  values = values;
  count = None;
  source = Some CommandLine;
  reading = AsWritten;
}

abbrev pub bound_rows : Option Text → List Row
bound_rows None = []
bound_rows (Some number) = row (codes "bound") (number ∷ []) ∷ []

-- each word by its name
abbrev pub word_rows : List Text → List Text → List Row
word_rows [] words = []
word_rows (id ∷ ids) [] = []
word_rows (id ∷ ids) (word ∷ words) = row id (word ∷ []) ∷ word_rows ids words

abbrev pub files_rows : List Text → List Row
files_rows [] = []
files_rows (file ∷ files) = row (codes "FILE") (file ∷ files) ∷ []

abbrev pub ids_in : Given → List Text
ids_in (run_given bound files) = []
ids_in (talk_given bound key files) = talk_words
ids_in (tape_given bound key files) = talk_words
ids_in (audit_given bound key files) = talk_words
ids_in (dap_given bound files) = []
ids_in (engine_given bound host port key files) = engine_words
ids_in (async_given bound host port key files) = engine_words
ids_in (ide_given port script) = ide_words
ids_in (replay_given bound events files) = replay_words
ids_in (soak_given count seed) = soak_words
ids_in (proxy_given ides engines registrations sessions) = proxy_words
ids_in show_given = []

abbrev pub rows_in : Given → List Row
rows_in g =
    (bound_rows (bound_in g) ++ word_rows (ids_in g) (first_in g)) ++ files_rows (files_in g)
