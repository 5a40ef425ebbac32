use Rattle.dp_value.specs.Value.{data_of}
use Rattle.dp_view_limits.proofs.Left.{fits_is}
use Rattle.dp_view_limits.proofs.Written.{shown_is}
use Rattle.dp_view_limits.proofs.sizes.shown_fits.Goals as goal

pub returns : goal.returns
returns c =
    fits_is c.after_shown.result c.args.most c.from.result _ _ c.from.ensures c.after_shown.ensures
    (shown_is c.args.p.now (data_of c.args.value.now))
