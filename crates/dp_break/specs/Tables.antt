-- The breakpoints that are held, and what holds of them.
use Rattle.std.specs.Prelude.{◌≡◌, ℕ, ◌+◌, ◌≤◌, nat_le, Bool, true, false, not, ◌&&◌, ◌||◌, List, [], ◌∷◌, length, All, Option, is_some, refl}
use Rattle.std.specs.Coded.{Coded, code_by, coded×, coded_list, coded_ℕ}
use Rattle.std.specs.Option.{option_map_or}
use Rattle.dp_lexer.specs.Pieces.{longest_name}
use Rattle.dp_packet.specs.declared.packet.BreakKind.{BreakKind}
use Rattle.dp_packet.specs.declared.packet.BreakKind.TheVariants.{Line, Call, Return, Conditional}
use Rattle.dp_break.specs.contracts.breakpoint.Breakpoint as breakpoint
use Rattle.dp_break.specs.declared.breakpoint.Breakpoint.{Breakpoint}
use Rattle.dp_break.specs.Conditions.{has_no_tree, tree_of}
use Rattle.dp_break.specs.Hits.{is_of_function}

-- the breakpoints, and the id that the next one has
pub record Table : Type 0 where
  pub held : List Breakpoint
  pub next : ℕ

-- a table is stored as the pair of its parts
abbrev pub table_code : Coded Table
table_code =
    code_by (List Breakpoint × ℕ) (coded× (coded_list breakpoint.the_row.coded) coded_ℕ)
    (λ t. (t.held, t.next)) (λ p. record { held = p.0; next = p.1 }) (λ _. refl)

abbrev pub empty : Table
empty = record { held = []; next = 1 }

-- ---- limits

-- the most breakpoints
abbrev pub breakpoint_limit : ℕ
breakpoint_limit = 1000

-- the number that no breakpoint has as its id
abbrev pub last_id : ℕ
last_id = 4294967295

-- ---- what is held

-- the parts that a breakpoint of a kind has: its line, its function, its expression
abbrev pub has_parts : BreakKind → Option ℕ → Option (List ℕ) → Option (List ℕ) → Bool
has_parts Line line function expression = is_some line
has_parts Call line function expression = is_some function && not (is_some line)
has_parts Return line function expression = is_some function && not (is_some line)
has_parts Conditional line function expression = is_some expression

pub record IsSound (b : Breakpoint) : Type 0 where
  pub parts : has_parts b.kind b.line b.function b.expression ≡ true
  -- only one on a function may be of any file
  pub placed : is_of_function b.kind || is_some b.file ≡ true
  pub named : option_map_or (λ name. nat_le (length name) longest_name) b.function true ≡ true
  pub tree : b.parsed ≡ tree_of b.expression
  pub formed : has_no_tree b.expression ≡ false

-- their ids ascend, from this number on and below that one
abbrev pub Ascend : ℕ → List Breakpoint → ℕ → Type 0
Ascend least [] next = least ≤ next
Ascend least (b ∷ more) next = (least ≤ b.id) × Ascend (b.id + 1) more next

pub record IsTable (t : Table) : Type 0 where
  pub few : length t.held ≤ breakpoint_limit
  pub ascend : Ascend 1 t.held t.next
  pub last : t.next ≤ last_id
  pub sound : All IsSound t.held
