-- Properties that stand in others. Each of them, however deep, is what is shown of a path of its
-- own, so that the full name that it shows asks for it.
use Rattle.std.specs.Prelude.{◌≡◌, ℕ, zero, suc, ◌-◌, List, [], ◌∷◌, ◌++◌, length, slice_get, Option, Some, option_and_then, Ok}
use Rattle.dp_packet.specs.declared.property.Property.{Property}
use Rattle.dp_packet.specs.declared.property.Shape.{Shape}
use Rattle.dp_packet.specs.declared.property.Shape.TheOpen.{Shape-F}
use Rattle.dp_packet.specs.declared.property.Shape.TheViews.{out-Shape}
use Rattle.dp_state.specs.declared.moments.Path.{Path}
use Rattle.dp_state.specs.declared.state.State.{State}
use Rattle.dp_value.specs.declared.key.Key.{Key}
use Rattle.dp_view.specs.declared.paging.Paging.{Paging}
use Rattle.dp_view.specs.Properties.{property_at, variable_path}

-- the properties that an array shows of its entries
abbrev pub entries_in : Shape-F Shape Property → List Property
entries_in (Shape-F.Array count page pagesize entries) = entries
entries_in s = []

abbrev pub properties_in : Property → List Property
properties_in q = entries_in (out-Shape q.shape)

-- the property at these positions, each of them in the one before
abbrev pub below : List ℕ → Property → Option Property
below [] q = Some q
below (at ∷ places) q = option_and_then (below places) (slice_get (properties_in q) at)

-- how much is shown so many levels down: of page 0, and so many levels less
abbrev pub deeper : ℕ → Paging → Paging
deeper zero p = p
deeper (suc n) p = record p { depth = p.depth - suc n; page = 0 }

-- a path that goes on by keys
abbrev pub with_keys : Path → List Key → Path
with_keys path keys = record path { keys = path.keys ++ keys }

-- a property so many levels below that of a path is what is shown of the path that goes on by as
-- many keys
pub record IsOfPath (s : State) (level id : ℕ) (path : Path) (p : Paging) (levels : ℕ)
    (q : Property) : Type 0 where
  pub keys : List Key
  pub as_many : length keys ≡ levels
  pub shown : property_at s level id (with_keys path keys) (deeper levels p) ≡ Ok q

-- so is each property at and below this one, which is shown of a path
abbrev pub HasPaths : State → ℕ → ℕ → Path → Paging → Property → Type 0
HasPaths s level id path p made =
    (places : List ℕ) (q : Property) → below places made ≡ Some q
    → IsOfPath s level id path p (length places) q

-- a property is shown of a variable
pub record IsOfVariable (s : State) (level id : ℕ) (p : Paging) (q : Property) : Type 0 where
  pub name : List ℕ
  pub paths : HasPaths s level id (variable_path name) p q

-- so is each property of a context
abbrev pub AreOfVariables : State → ℕ → ℕ → Paging → List Property → Type 0
AreOfVariables s level id p made =
    (at : ℕ) (q : Property) → slice_get made at ≡ Some q → IsOfVariable s level id p q
