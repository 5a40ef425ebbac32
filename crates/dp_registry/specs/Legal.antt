-- Which journals can come to be.
use Rattle.std.specs.Prelude.{◌≡◌, ⊤, ◌≤◌, List, [], ◌∷◌, ◌++◌, length, Some, Contains}
use Rattle.dp_registry.specs.declared.entry.Entry.{Entry}
use Rattle.dp_registry.specs.declared.entry.Entry.TheVariants.{Register, Stop, Admit, Dismiss}
use Rattle.dp_registry.specs.Journal.{live}
use Rattle.dp_outside.specs.Names.{IsHost, IsKey}
use Rattle.dp_registry.specs.Verdicts.{register_verdict, stop_verdict, admit_verdict, reply_of}
use Rattle.dp_registry.specs.Verdicts.{admit_reply_of, load, most_entries, most_live}

-- the entry's reply is the verdict of the entries before it, and what it dismisses is live there
abbrev pub IsFit : List Entry → Entry → Type 0
IsFit before (Register host port key multiple reply) =
    IsHost host × IsKey key × (reply_of (register_verdict before host port key) ≡ Some reply)
IsFit before (Stop host key reply) =
    IsHost host × IsKey key × (reply_of (stop_verdict before host key) ≡ Some reply)
IsFit before (Admit key reply) =
    IsKey key × (admit_reply_of (admit_verdict before key) ≡ Some reply)
IsFit before (Dismiss session) = Contains (live before) session

-- each entry is fit for the entries before it
abbrev pub AreFit : List Entry → List Entry → Type 0
AreFit before [] = ⊤
AreFit before (e ∷ es) = IsFit before e × AreFit (before ++ e ∷ []) es

pub record IsLegal (journal : List Entry) : Type 0 where
  pub fit : AreFit [] journal
  pub within : load journal ≤ most_entries
  pub few : length (live journal) ≤ most_live
