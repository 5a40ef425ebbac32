-- What two have told of one thing, of which only what one has told and the other has not is kept.
use Rattle.std.specs.Prelude.{◌≡◌, ◌⊎◌, ℕ, Bool, true, false, List, [], ◌++◌}
use Rattle.dp_records.specs.declared.balances.Balance.{Balance}

-- however both go on, they do not come to the same
abbrev pub AreApart : List ℕ → List ℕ → Type 0
AreApart one other = (more others : List ℕ) → one ++ more ≡ other ++ others → ⊥

-- Both have told this much alike, and at most one of them more.
pub record AreAlike (first second : List ℕ) (ahead behind : List ℕ) : Type 0 where
  pub common : List ℕ
  pub one : first ≡ common ++ ahead
  pub other : second ≡ common ++ behind
  pub either : (ahead ≡ []) ⊎ (behind ≡ [])

abbrev pub Weighs : Bool → List ℕ → List ℕ → List ℕ → List ℕ → Type 0
Weighs true ahead behind first second = AreAlike first second ahead behind
Weighs false ahead behind first second = AreApart first second

-- the session has told the first, and the record the second
abbrev pub IsBalance : Balance → List ℕ → List ℕ → Type 0
IsBalance balance first second =
    Weighs balance.same balance.session.items balance.record.items first second

-- what the session had told grew by these bytes
abbrev pub SessionReports : Balance → Balance → List ℕ → Type 0
SessionReports old new bytes =
    (told other : List ℕ) → IsBalance old told other → IsBalance new (told ++ bytes) other

-- and here what the record had
abbrev pub RecordReports : Balance → Balance → List ℕ → Type 0
RecordReports old new bytes =
    (told other : List ℕ) → IsBalance old told other → IsBalance new told (other ++ bytes)

-- bytes were taken off what was owed, as far as both go
pub record IsPaid (owed left bytes rest : List ℕ) : Type 0 where
  pub common : List ℕ
  pub from : owed ≡ common ++ left
  pub by : bytes ≡ common ++ rest
  pub either : (left ≡ []) ⊎ (rest ≡ [])
