-- Verdicts as the functions inside find them.
use Rattle.std.specs.Prelude.{⊤, ℕ, Bool, true, false, List, Option, Some, None, Result, Ok, Err}
use Rattle.dp_registry.specs.declared.entry.AdmitReply.{AdmitReply}
use Rattle.dp_registry.specs.declared.entry.AdmitReply.TheVariants as admission
use Rattle.dp_registry.specs.declared.pass.Pass.{Pass}
use Rattle.dp_registry.specs.declared.refusal.Refusal.{Refusal}
use Rattle.dp_registry.specs.declared.refusal.Refusal.TheVariants.{Taken, Unknown, NotYours, Busy}
use Rattle.dp_registry.specs.Journal.{Holder}

-- a key may be registered, or another holds it
abbrev pub registered : Option (List ℕ × ℕ) → Result ⊤ Refusal
registered None = Ok tt
registered (Some taken) = Err (Taken taken.0 taken.1)

-- nobody holds the key, or the host does or not
abbrev pub stopped : Option Bool → Result ⊤ Refusal
stopped None = Err Unknown
stopped (Some false) = Err NotYours
stopped (Some true) = Ok tt

abbrev pub admitted : AdmitReply → Result Pass Refusal
admitted (admission.Given session host port) =
    Ok (record { session = session; host = host; port = port })
admitted admission.Unknown = Err Unknown
admitted (admission.Busy session) = Err (Busy session)

abbrev pub holder_from : List ℕ × ℕ × Bool → Holder
holder_from h = record { host = h.0; port = h.1; multiple = h.2 }
