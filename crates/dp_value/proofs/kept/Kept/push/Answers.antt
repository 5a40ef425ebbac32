use Rattle.std.proofs.Common.{ap, subst}
use Rattle.dp_value.specs.declared.kept.Kept.{Kept}
use Rattle.dp_value.specs.Key.{key_eq}
use Rattle.dp_value.specs.Place.{IsAbsent}
use Rattle.dp_value.specs.inner.Kept.{is_rising, kept_keys}
use Rattle.dp_value.proofs.kept.Kept.push.Goals as goal

pub put_in-requires : goal.put_in-requires
put_in-requires c =
    subst (λ (k : Kept). IsAbsent (key_eq c.args.key) (kept_keys k)) c.in-Indexed.is
    (c.requires (ap is_rising c.in-Indexed.is))

pub returns-in-Indexed-clause-ok : goal.returns-in-Indexed-clause-ok
returns-in-Indexed-clause-ok c = rw c.in-Indexed.is c.put_in.ensures.ok

pub returns-in-Indexed-clause-err : goal.returns-in-Indexed-clause-err
returns-in-Indexed-clause-err c = rw c.in-Indexed.is c.put_in.ensures.err
