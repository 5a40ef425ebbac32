-- What a result carries, one fact for another.
use Rattle.std.proofs.Common.{Result, Ok, Err, OnOk}

pub if_so : {T E : Type 0} (result : Result T E) (P Q : Type 0) → (P → Q) → OnOk result P → OnOk result Q
if_so (Ok x) P Q f p = f p
if_so (Err e) P Q f p = tt
