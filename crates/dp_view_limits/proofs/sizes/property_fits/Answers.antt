use Rattle.dp_value.specs.Value.{data_of}
use Rattle.dp_view_limits.proofs.Left.{fits_is}
use Rattle.dp_view_limits.proofs.Written.{path_is}
use Rattle.dp_view_limits.proofs.sizes.property_fits.Goals as goal

pub returns : goal.returns
returns c =
    fits_is c.after_path.result c.args.most c.from.result _ _ c.from.ensures c.after_path.ensures
    (path_is c.args.id c.args.path.now c.args.p.now (data_of c.args.value.now))
