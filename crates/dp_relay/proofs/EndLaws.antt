-- What sources gave and sinks took, one after another.
use Rattle.std.proofs.Common.{ℕ, List, [], ◌++◌, refl, None, Some}
use Rattle.std.specs.declared.option.Option.{Option}
use Rattle.std.proofs.KnownBytes.{Appends-trans, Appends-nil, Consumes-trans, Consumes-nil}
use Rattle.dp_outside.specs.Reports.{StaysSilent}
use Rattle.dp_relay.specs.Ends.{Gives, Takes}

pub silent : {A : Type 0} (a : Option A) → StaysSilent a a
silent None = refl
silent (Some told) = tt

pub silent_on : {A : Type 0} (a b c : Option A) → StaysSilent a b → StaysSilent b c → StaysSilent a c
silent_on None None c p q = q
silent_on None (Some told) c p q = absurd cc
silent_on (Some told) b c p q = tt

pub gives_none : (ahead before : Option (List ℕ)) → Gives ahead ahead before before []
gives_none ahead before = record {
  given = Appends-nil before;
  left = Consumes-nil ahead;
  untold_given = silent before;
  untold_left = silent ahead;
}

pub gives_on : (ahead mid rest before then after : Option (List ℕ)) (bytes more : List ℕ)
    → Gives ahead mid before then bytes → Gives mid rest then after more
    → Gives ahead rest before after (bytes ++ more)
gives_on ahead mid rest before then after bytes more g h = record {
  given = Appends-trans before then after bytes more g.given h.given;
  left = Consumes-trans ahead mid rest bytes more g.left h.left;
  untold_given = silent_on before then after g.untold_given h.untold_given;
  untold_left = silent_on ahead mid rest g.untold_left h.untold_left;
}

pub takes_none : (before : Option (List ℕ)) → Takes before before []
takes_none before = record { taken = Appends-nil before; untold = silent before }

pub takes_on : (before then after : Option (List ℕ)) (bytes more : List ℕ) → Takes before then bytes
    → Takes then after more → Takes before after (bytes ++ more)
takes_on before then after bytes more g h = record {
  taken = Appends-trans before then after bytes more g.taken h.taken;
  untold = silent_on before then after g.untold h.untold;
}
