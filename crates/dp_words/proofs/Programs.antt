-- How the whole command is read.
use Rattle.std.proofs.Common.{◌≡◌, true, false, List, [], ◌∷◌, ◌++◌, Option, Some, None, is_some, refl, sym, ap, ap₂, ◌∙◌, codes, append_assoc, append-nil}
use Rattle.std.specs.Prelude.{fold, find, option_map}
use Rattle.clap.specs.Simple.{Shape, built, entered, is_simple, subcommand_of, names_of}
use Rattle.clap.specs.Kinds.{Kinds, or_else}
use Rattle.clap.specs.Faults.{fault_of, entered_fault, walk_fault, turn_fault, settle_fault, defaults_fault, check_fault, other_fault, is_simple_and_free}
use Rattle.clap.specs.Walk.{Names, Text, Walk, idle, walked, walk, nothing_held, rows_after, settled, finished, answers_to, subcommand_or_other}
use Rattle.clap.proofs.OnLiterals.{clap_on_literals}
use Rattle.dp_words.specs.inner.Shapes.{engine_words, program, replay_words, talk_words}
use Rattle.dp_words.proofs.Leaves.{I, P, S, above, alone, begun, fault, fault_met, met, no_flag, plain_is, relay}
use Rattle.dp_words.specs.Plain.{is_plain}
use Rattle.clap.specs.declared.error.kind.ErrorKind.TheVariants as kind

abbrev pub names : Names
names = names_of (built program)

-- a command was met, and the words behind it
abbrev pub stopped_at : Text → List Text → Walk
stopped_at name behind = record (begun None) { stopped = Some (name, behind) }

pub stop_more : (name : Text) (vs ws : List Text)
    → fold (walked [] names) (stopped_at name vs) ws ≡ stopped_at name (vs ++ ws)
unfolding walked
stop_more name vs [] = ap (stopped_at name) (sym (append-nil vs))
stop_more name vs (w ∷ ws) = stop_more name (vs ++ w ∷ []) ws ∙ ap (stopped_at name) (append_assoc vs (w ∷ []) ws)

pub stop_taken : (name : Text) (vs ws : List Text) → walk_fault above names (stopped_at name vs) ws ≡ []
unfolding walked walk_fault
stop_taken name vs [] = refl
stop_taken name vs (w ∷ ws) = stop_taken name (vs ++ w ∷ []) ws

-- what is wrong once the walk over all words has come to its end
abbrev pub end_fault : Walk → Kinds
end_fault w =
    or_else (entered_fault (built program) w.stopped)
    (or_else (settle_fault [] false w.held)
    (or_else (defaults_fault (settled [] w.held).rows [])
    (check_fault above (finished [] w.held) (is_some (entered (built program) w.stopped)))))

-- a command of this name, with this shape
pub record Known (name : Text) (s : Shape) : Type 0 where
  pub met_so : walked [] names (begun None) name ≡ stopped_at name []
  pub taken : turn_fault above names (begun None) name ≡ []
  pub found : (behind : List Text) → end_fault (stopped_at name behind) ≡ or_else (fault s behind) []
  pub rows : (behind : List Text)
      → entered (built program) (Some (name, behind)) ≡ Some (name, rows_after s.rules [] behind)

pub walk_known : (name : Text) (s : Shape) → Known name s → (behind : List Text)
    → walk [] names nothing_held (name ∷ behind) ≡ stopped_at name behind
walk_known name s k behind = ap (λ (x : Walk). fold (walked [] names) x behind) k.met_so ∙ stop_more name [] behind

pub fault_known : (name : Text) (s : Shape) → Known name s → (behind : List Text)
    → fault_of program (name ∷ behind) ≡ or_else (fault s behind) []
unfolding walk_fault
fault_known name s k behind =
    ap₂ or_else (ap₂ or_else k.taken (ap (λ (x : Walk). walk_fault above names x behind) k.met_so ∙ stop_taken name
    [] behind))
    (ap end_fault (walk_known name s k behind) ∙ k.found behind)

pub rows_known : (name : Text) (s : Shape) → Known name s → (behind : List Text)
    → subcommand_of program (name ∷ behind) ≡ Some (name, rows_after s.rules [] behind)
rows_known name s k behind =
    ap (λ (x : Walk). entered (built program) x.stopped) (walk_known name s k behind) ∙ k.rows behind

pub run_known : Known (codes "run") (P (codes "run") [])
unfolding clap_on_literals
run_known = record { met_so = refl; taken = refl; found = λ b. refl; rows = λ b. refl }

pub talk_known : Known (codes "talk") (P (codes "talk") talk_words)
unfolding clap_on_literals
talk_known = record { met_so = refl; taken = refl; found = λ b. refl; rows = λ b. refl }

pub tape_known : Known (codes "tape") (P (codes "tape") talk_words)
unfolding clap_on_literals
tape_known = record { met_so = refl; taken = refl; found = λ b. refl; rows = λ b. refl }

pub audit_known : Known (codes "audit") (P (codes "audit") talk_words)
unfolding clap_on_literals
audit_known = record { met_so = refl; taken = refl; found = λ b. refl; rows = λ b. refl }

pub dap_known : Known (codes "dap") (P (codes "dap") [])
unfolding clap_on_literals
dap_known = record { met_so = refl; taken = refl; found = λ b. refl; rows = λ b. refl }

pub engine_known : Known (codes "engine") (P (codes "engine") engine_words)
unfolding clap_on_literals
engine_known = record { met_so = refl; taken = refl; found = λ b. refl; rows = λ b. refl }

pub async_known : Known (codes "async") (P (codes "async") engine_words)
unfolding clap_on_literals
async_known = record { met_so = refl; taken = refl; found = λ b. refl; rows = λ b. refl }

pub ide_known : Known (codes "ide") (I (codes "ide"))
unfolding clap_on_literals
ide_known = record { met_so = refl; taken = refl; found = λ b. refl; rows = λ b. refl }

pub replay_known : Known (codes "replay") (P (codes "replay") replay_words)
unfolding clap_on_literals
replay_known = record { met_so = refl; taken = refl; found = λ b. refl; rows = λ b. refl }

pub soak_known : Known (codes "soak") (S (codes "soak"))
unfolding clap_on_literals
soak_known = record { met_so = refl; taken = refl; found = λ b. refl; rows = λ b. refl }

pub proxy_known : Known (codes "proxy") (relay (codes "proxy"))
unfolding clap_on_literals
proxy_known = record { met_so = refl; taken = refl; found = λ b. refl; rows = λ b. refl }

pub show_known : Known (codes "show") (alone (codes "show"))
unfolding clap_on_literals
show_known = record { met_so = refl; taken = refl; found = λ b. refl; rows = λ b. refl }

-- no words, and a word that is no command
pub no_words : fault_of program [] ≡ kind.MissingSubcommand ∷ []
unfolding clap_on_literals
no_words = refl

abbrev pub stray : Kinds
stray = kind.UnknownArgument ∷ kind.InvalidSubcommand ∷ []

-- what is wrong with a first word that names this command
abbrev pub first_fault : Text → Option Text → Kinds
first_fault name sub =
    or_else (other_fault above sub name (begun None).held) (fault_met above 1
    (subcommand_or_other [] sub idle 1 name (begun None).held))

pub first_unknown : (name : Text) → is_plain name ≡ true → find (answers_to name) names ≡ None
    → turn_fault above names (begun None) name ≡ stray
first_unknown name plain none =
    ap (λ (s : Option (Text × List Text)). first_fault name (option_map (λ x. x.0) s)) none
    ∙ ap₂ or_else (no_flag above name (begun None).held (plain_is name plain))
    (ap (fault_met above 1) (met [] idle 1 name (begun None).held (plain_is name plain)))

pub unknown : (name : Text) (behind : List Text) → is_plain name ≡ true → find (answers_to name) names ≡ None
    → fault_of program (name ∷ behind) ≡ stray
unfolding walk_fault
unknown name behind plain none =
    ap (λ (k : Kinds). or_else (or_else k (walk_fault above names (walked [] names (begun None) name) behind))
    (end_fault (walk [] names nothing_held (name ∷ behind))))
    (first_unknown name plain none)

-- ---- the command is a simple one

pub simple : is_simple program ≡ true
unfolding clap_on_literals
simple = refl

pub free : is_simple_and_free program ≡ true
unfolding clap_on_literals
free = refl
