-- What the features of a session say of breakpoints.
use Rattle.dp_break.specs.declared.wishes.Wishes.{Wishes}
use Rattle.dp_features.specs.Features.{Features, notifies, resolves}

-- they go to the next line that has code, and the IDE is told so
abbrev pub wishes_of : Features → Wishes
wishes_of features = record { resolve = resolves features; notify = notifies features }
