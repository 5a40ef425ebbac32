-- The names that a shelf tells, and how they grow.
use Rattle.std.proofs.Common.{◌≡◌, List, [], ◌++◌, None, Some, refl, sym, ap, append-nil, append_assoc}
use Rattle.std.specs.declared.option.Option.{Option}
use Rattle.dp_outside.specs.Reports.{grown}

-- by nothing
pub grown_by_none : {A : Type 0} (told : Option (List A)) → told ≡ grown told []
grown_by_none None = refl
grown_by_none (Some told) = ap (λ l. Some l) (sym (append-nil told))

-- by these, and then by those
pub grown_again : {A : Type 0} (told : Option (List A)) (more last : List A)
    → grown (grown told more) last ≡ grown told (more ++ last)
grown_again None more last = refl
grown_again (Some told) more last = ap (λ l. Some l) (append_assoc told more last)
