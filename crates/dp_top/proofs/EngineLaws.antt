-- What serving a session over a dialled link came to decides the end of `engine`.
use Rattle.std.proofs.Common.{◌≡◌, ℕ, ◌+◌, ◌≤◌, List, [], ◌∷◌, None, Some, Result, Ok, Err, ap, ◌∙◌, subst, inl, inr, arith}
use Rattle.std.specs.Prelude.{MatchResult}
use Rattle.dp_outside.specs.Causes.{Rose}
use Rattle.dp_outside.specs.Changes.{Change}
use Rattle.dp_outside.specs.Links.{CountsReturned, Link}
use Rattle.dp_outside.specs.Reports.{grown}
use Rattle.dp_tree.specs.declared.bundle.Bundle.{Bundle}
use Rattle.dp_program.specs.declared.errors.ProgramError.{ProgramError}
use Rattle.dp_program.specs.Programs.{NamesMake, ProgramCaused}
use Rattle.dp_top.specs.declared.failures.Failure.TheVariants as failure
use Rattle.dp_top.specs.declared.failures.Refused.{Refused}
use Rattle.dp_words.specs.Words.{Address, Invocation}
use Rattle.dp_top.specs.Engine.{Engages, EngineFails, IsApart, IsIdle}
use Rattle.dp_top.specs.Links.{IsDialled, IsUndialled, dial_of}
use Rattle.dp_top.specs.Runs.{IsProgramReported}
use Rattle.dp_top.specs.Seen.{Net, Seen, changed}
use Rattle.dp_top.specs.inner.Dialled.{EngagedSo, UnengagedSo}
use Rattle.dp_top.specs.inner.Sessions.{ServedSo, UnservedSo}

-- the address of this host, and the port of another
abbrev at_host : List ℕ → Address → Address
at_host host address = record { host = host; port = address.port }

-- a dial that failed
pub not_given : (address : Address) (host : List ℕ) (old new : Net) → host ≡ address.host
    → new.dials ≡ grown old.dials (dial_of (at_host host address) None ∷ []) → new.retired ≡ old.retired
    → new.requested ≡ old.requested → new.shut ≡ old.shut → Rose old.faults new.faults
    → new.returned ≡ old.returned → IsUndialled address old new
not_given address host old new same dialled retired requested shut rose returned = record {
  dialled = dialled ∙ ap (λ (h : List ℕ). grown old.dials (dial_of (at_host h address) None ∷ [])) same;
  retired = retired;
  requested = requested;
  shut = shut;
  faults = rose;
  returned = returned;
}

-- a dial that gave a link, which came back
pub taken_back : (address : Address) (host : List ℕ) (given back : Link) (first source last sink : ℕ)
    (old over new : Net) → host ≡ address.host → first ≡ 0 → last ≡ 0
    → over.dials ≡ grown old.dials (dial_of (at_host host address) (Some given) ∷ []) → over.retired ≡ old.retired
    → over.requested ≡ old.requested → over.shut ≡ old.shut → old.faults ≤ over.faults
    → over.returned ≡ old.returned → new.dials ≡ over.dials → new.retired ≡ grown over.retired (back ∷ [])
    → new.requested ≡ over.requested → new.shut ≡ over.shut → new.faults ≡ over.faults
    → CountsReturned (source + sink) over.returned new.returned
    → IsDialled address (record { told_before = given.left; told = back.left; faults_before = first; faults = source })
    (record { told_before = given.taken; told = back.taken; faults_before = last; faults = sink }) old new
taken_back address host given back first source last sink old over new same none nothing dials kept asked closed later
    returned told came requested shut stays counts = record {
      given = given;
      back = back;
      used = record {
        source_is = λ i. record { told_before = given.left; told = back.left; faults_before = none i; faults = source };
        sink_is =
            λ i. record { told_before = given.taken; told = back.taken; faults_before = nothing i; faults = sink };
      };
      dialled =
          told ∙ dials ∙ ap (λ (h : List ℕ). grown old.dials (dial_of (at_host h address) (Some given) ∷ [])) same;
      retired = came ∙ ap (λ r. grown r (back ∷ [])) kept;
      requested = requested ∙ asked;
      shut = shut ∙ closed;
      faults = omega (arith, later, stays);
      returned = subst (λ (n : ℕ). CountsReturned (source + sink) n new.returned) returned counts;
    }

pub served_over : (program : Bundle) (address : Address) (key : List ℕ) (ask : Invocation) (source sink out : Change)
    (old new : Net) → IsDialled address source sink old new
    → (result : Result ℕ Refused)
    → MatchResult result (λ status. ServedSo failure.Network status program key ask source sink out)
    (λ why. UnservedSo failure.Network why.failure why.name.now program key ask source sink out)
    → MatchResult result (λ status. EngagedSo status program address key ask out old new)
    (λ why. UnengagedSo why.failure why.name.now program address key ask out old new)
served_over program address key ask source sink out old new dialled (Ok status) h =
    record {
      served = h.served;
      source = source;
      sink = sink;
      dialled = dialled;
      serves = h.serves;
      reported = h.reported;
    }
served_over program address key ask source sink out old new dialled (Err why) (inl memory) =
    inl (
      memory.0,
      record {
        source = source;
        sink = sink;
        source_stays = memory.1.input_stays;
        sink_stays = memory.1.out_stays;
        dialled = dialled;
        out_stays = memory.1.err_stays;
      },
    )
served_over program address key ask source sink out old new dialled (Err why) (inr h) =
    inr (inr (record {
      served = h.served;
      source = source;
      sink = sink;
      dialled = dialled;
      serves = h.serves;
      reported = h.reported;
    }))

module _ (address : Address) (key : List ℕ) (ask : Invocation) (old new : Seen) (apart : IsApart old new) where
  pub program_engaged : (program : Bundle) → NamesMake old.shelf.files ask.names (Ok program)
      → (result : Result ℕ Refused)
      → MatchResult result (λ status. EngagedSo status program address key ask
      (changed old.out new.out) old.net new.net)
      (λ why. UnengagedSo why.failure why.name.now program address key ask (changed old.out new.out) old.net new.net)
      → MatchResult result (λ status. Engages status address key ask old new)
      (λ why. EngineFails why.failure why.name.now address key ask old new)
  program_engaged program made (Ok status) h = record {
    served = h.served;
    is = record {
      program = program;
      made = made;
      source = h.source;
      sink = h.sink;
      dialled = h.dialled;
      serves =
          h.serves;
      apart = apart;
    };
    reported = h.reported;
  }
  program_engaged program made (Err why) (inl memory) = inl (
    memory.0,
    inr (inl (record {
      source = memory.1.source;
      sink = memory.1.sink;
      source_stays = memory.1.source_stays;
      sink_stays = memory.1.sink_stays;
      dialled = memory.1.dialled;
      out = memory.1.out_stays;
      apart = apart;
    })),
  )
  program_engaged program made (Err why) (inr (inl none)) =
      inr (inr (inl (
        none.is_why,
        none.is_name,
        record {
          program = program;
          made = made;
          undialled = none.undialled;
          out
              = none.out_stays;
          apart = apart;
        },
      )))
  program_engaged program made (Err why) (inr (inr h)) = inr (inr (inr (record {
    served = h.served;
    is = record {
      program = program;
      made = made;
      source = h.source;
      sink = h.sink;
      dialled = h.dialled;
      serves =
          h.serves;
      apart = apart;
    };
    reported = h.reported;
  })))

  pub none_engaged : (refused : Refused) (why : ProgramError)
      → ProgramCaused why old.shelf.files old.shelf.faults new.shelf.faults ask.names
      → IsProgramReported refused.failure refused.name.now ask why → IsIdle old new
      → EngineFails refused.failure refused.name.now address key ask old new
  none_engaged refused why caused told idle =
      inr (inl (record { cause = why; caused = caused; reported = told; idle = idle }))
