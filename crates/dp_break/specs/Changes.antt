-- What the calls make of the breakpoints that are held.
use Rattle.std.specs.Prelude.{◌≡◌, ℕ, ◌+◌, ◌<◌, ◌==◌, Bool, true, not, ◌&&◌, if◌then◌else◌, List, [], ◌∷◌, ◌++◌, length, filter, find, map, Option, Some, None, is_some, unwrap_or}
use Rattle.dp_tree.specs.declared.bundle.Bundle.{Bundle}
use Rattle.dp_tree.specs.declared.tree.Expression.{Expression}
use Rattle.dp_break.specs.declared.breakpoint.BreakChange.{BreakChange}
use Rattle.dp_break.specs.declared.breakpoint.Breakpoint.{Breakpoint}
use Rattle.dp_break.specs.declared.breakpoint.BreakRequest.{BreakRequest}
use Rattle.dp_break.specs.Conditions.{tree_of}
use Rattle.dp_break.specs.Hits.{is_of_function}
use Rattle.dp_break.specs.Lines.{line_in}
use Rattle.dp_break.specs.Refusals.{change_kept, place_kept, request_refusal}
use Rattle.dp_break.specs.Tables.{Table, has_parts}

-- the breakpoint of this id
abbrev pub held_as : List Breakpoint → ℕ → Option Breakpoint
held_as held id = find (λ b. b.id == id) held

-- ---- a new breakpoint

-- what a request has that is none of this bundle's or of its kind is no request
pub record IsRequest (bundle : Bundle) (r : BreakRequest) : Type 0 where
  pub file : r.file < length bundle.files
  pub parts : has_parts r.kind r.line r.function r.expression ≡ true
  -- only one on a function may be of any file
  pub anyfile : r.anyfile ≡ true → is_of_function r.kind ≡ true

-- the breakpoint that is asked for, with this id, the tree of its expression and the line that is
-- kept; it has not hit yet
abbrev pub new_breakpoint :
    ℕ → Option Expression → Option ℕ → Bool → BreakRequest → Breakpoint
new_breakpoint id tree line resolve r = record {
  id = id;
  kind = r.kind;
  enabled = r.enabled;
  file = if r.anyfile then None else Some r.file;
  line = line;
  function = r.function;
  hits = 0;
  hit_value = r.hit_value;
  hit_rule = r.hit_rule;
  temporary = r.temporary;
  resolved = resolve && is_some line;
  expression = r.expression;
  parsed = tree;
}

-- the one that a request that is accepted makes of a table
abbrev pub added : Bool → Bundle → Table → BreakRequest → Breakpoint
added resolve bundle t r =
    new_breakpoint t.next (tree_of r.expression) (line_in (place_kept resolve bundle t r)) resolve r

-- it goes last, and its id is not used again
abbrev pub with_new : Breakpoint → Table → Table
with_new b t = record { held = t.held ++ b ∷ []; next = t.next + 1 }

-- a request is accepted, and gets this id
pub record Adds (resolve : Bool) (bundle : Bundle) (before : Table) (r : BreakRequest) (id : ℕ)
    (after : Table) : Type 0 where
  pub accepted : request_refusal resolve bundle before r ≡ None
  pub numbered : id ≡ before.next
  pub held : after ≡ with_new (added resolve bundle before r) before

-- ---- a change

-- a value that was given, or the one of before
abbrev pub given_or : {A : Type 0} → Option A → A → A
given_or given before = unwrap_or given before

abbrev pub line_given_or : Option ℕ → Option ℕ → Option ℕ
line_given_or None before = before
line_given_or (Some line) before = Some line

-- what was given is changed, and nothing else: the count stays; of the line this one is kept
abbrev pub changed_to : BreakChange → Option ℕ → Bool → Breakpoint → Breakpoint
changed_to c line resolve b = record b {
  enabled = given_or c.enabled b.enabled;
  line = line_given_or line b.line;
  hit_value = given_or c.hit_value b.hit_value;
  hit_rule = given_or c.hit_rule b.hit_rule;
  resolved = if is_some line then resolve else b.resolved;
}

-- what a change that is accepted makes of a breakpoint
abbrev pub changed : Bool → Bundle → BreakChange → Breakpoint → Breakpoint
changed resolve bundle c b = changed_to c (line_in (change_kept resolve bundle c b)) resolve b

abbrev pub with_change : Bool → Bundle → ℕ → BreakChange → Table → Table
with_change resolve bundle id c t =
    record t { held = map (λ b. if b.id == id then changed resolve bundle c b else b) t.held }

-- ---- a removal

abbrev pub without : ℕ → Table → Table
without id t = record t { held = filter (λ b. not (b.id == id)) t.held }
