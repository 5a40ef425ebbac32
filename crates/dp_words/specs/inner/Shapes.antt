-- The command that reads the words: a row for each command of the program, by the names of what
-- stands behind it.
use Rattle.std.specs.Prelude.{true, false, List, [], ◌∷◌, ◌++◌, map, Some, codes}
use Rattle.clap.specs.Simple.{App, Shape, new_rule, new_shape}
use Rattle.clap.specs.Walk.{Rule, Text}
use Rattle.dp_tree.specs.FileNames.{file_count_limit}
use Rattle.clap.specs.declared.builder.action.ArgAction.TheVariants.{Set, Append}

-- `--bound N`
abbrev pub bound_rule : Rule
bound_rule = record (new_rule (codes "bound")) { long = Some (codes "bound"); action = Some Set }

-- one word, by its name
abbrev pub word_rule : Text → Rule
word_rule id = record (new_rule id) { action = Some Set; required = true }

-- FILE..: as many words as a program may have files
abbrev pub files_rule : Rule
files_rule = record (new_rule (codes "FILE")) {
  action = Some Append;
  range = Some (record { start_inclusive = 1; end_inclusive = file_count_limit });
  required = true;
}

abbrev pub with_rules : Text → List Rule → Shape
with_rules name rules = record (new_shape name) { rules = rules }

-- the words of these names, in their order
abbrev pub words_of : List Text → List Rule
words_of = map word_rule

-- `NAME [--bound N]`
abbrev pub bounded : Text → Shape
bounded name = with_rules name (bound_rule ∷ [])

-- `NAME [--bound N] .. FILE..`, with these words
abbrev pub program_row : Text → List Text → Shape
program_row name ids = with_rules name (bound_rule ∷ (words_of ids ++ files_rule ∷ []))

-- `NAME ..`, with these words
abbrev pub plain_row : Text → List Text → Shape
plain_row name ids = with_rules name (words_of ids)

-- ---- the names of the words

abbrev pub talk_words : List Text
talk_words = codes "KEY" ∷ []

abbrev pub engine_words : List Text
engine_words = codes "HOST" ∷ codes "PORT" ∷ codes "KEY" ∷ []

abbrev pub ide_words : List Text
ide_words = codes "PORT" ∷ codes "SCRIPT" ∷ []

abbrev pub replay_words : List Text
replay_words = codes "EVENTS" ∷ []

abbrev pub soak_words : List Text
soak_words = codes "N" ∷ codes "SEED" ∷ []

abbrev pub proxy_words : List Text
proxy_words =
    codes "IDEPORT" ∷ codes "ENGINEPORT" ∷ codes "REGISTRATIONS" ∷ codes "SESSIONS" ∷ []

-- ---- the commands

abbrev pub run : Shape
run = program_row (codes "run") []

abbrev pub talk : Shape
talk = program_row (codes "talk") talk_words

abbrev pub tape : Shape
tape = program_row (codes "tape") talk_words

abbrev pub audit : Shape
audit = program_row (codes "audit") talk_words

abbrev pub dap : Shape
dap = program_row (codes "dap") []

abbrev pub engine : Shape
engine = program_row (codes "engine") engine_words

abbrev pub async : Shape
async = program_row (codes "async") engine_words

abbrev pub ide : Shape
ide = plain_row (codes "ide") ide_words

abbrev pub replay : Shape
replay = program_row (codes "replay") replay_words

abbrev pub soak : Shape
soak = plain_row (codes "soak") soak_words

abbrev pub proxy : Shape
proxy = plain_row (codes "proxy") proxy_words

abbrev pub show : Shape
show = plain_row (codes "show") []

abbrev pub top : Shape
top = record (new_shape (codes "dbgp")) {
  no_binary_name = true;
  disable_help_flag = true;
  disable_help_subcommand = true;
  disable_version_flag = true;
  subcommand_required = true;
}

abbrev pub settings : App
settings = record { top = top; subs = [] }

abbrev pub program : App
program = record {
  top = record top { is_leaf = false };
  subs = run ∷ talk ∷ tape ∷ audit ∷ dap ∷ engine ∷ async ∷ ide ∷ replay ∷ soak ∷ proxy ∷ show
      ∷ [];
}
