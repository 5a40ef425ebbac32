-- What the matches of the words hold, and what is read of it.
use Rattle.std.specs.Prelude.{◌≡◌, ℕ, ◌-◌, true, List, length, map, drop, Option, Some, option_map, codes, String, string_bytes}
use Rattle.std.specs.Option.{option_map_or}
use Rattle.std.specs.declared.alloc.Global.{Global}
use Rattle.clap.specs.Simple.{subcommand_rows_of}
use Rattle.clap.specs.Walk.{Row, Text, all_of, first_of}
use Rattle.clap.specs.declared.parser.matches.ArgMatches.{ArgMatches}
use Rattle.dp_words.specs.Words.{Invocation}
use Rattle.dp_words.specs.inner.Given.{Given, are_plain_in, bound_given, name_in, rows_in, words_in}

-- how many files there are
abbrev pub count_in : List Row → ℕ
count_in rows =
    option_map_or (λ (words : List (List ℕ)). length words) (all_of (codes "FILE") rows) 0

-- the program that they ask for: its files are the last of the words
abbrev pub program_in : List Row → List (String Global) → Option Invocation
program_in rows words = option_map (λ bound. record {
  bound = bound;
  names = map string_bytes (drop (length words - count_in rows) words);
}) (bound_given (first_of (codes "bound") rows))

-- the words, the name of the command and its rows are those of what is given
pub record IsGiven (words : List Text) (name : Text) (rows : List Row) : Type 0 where
  pub given : Given
  pub words_are : words ≡ words_in given
  pub plain : are_plain_in given ≡ true
  pub name_is : name ≡ name_in given
  pub rows_are : rows ≡ rows_in given

-- likewise the words and their matches
pub record AreRows (words : List Text) (matches : ArgMatches) : Type 0 where
  pub given : Given
  pub words_are : words ≡ words_in given
  pub plain : are_plain_in given ≡ true
  pub rows : subcommand_rows_of matches ≡ Some (name_in given, rows_in given)
