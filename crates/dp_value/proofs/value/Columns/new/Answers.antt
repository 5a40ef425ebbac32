use Rattle.std.proofs.Common.{[], refl, arith, ap, sym, ◌∙◌, length}
use Rattle.dp_value.specs.Table.{IsTable, empty}
use Rattle.dp_value.proofs.RisingLemmas.{rising-distinct}
use Rattle.dp_value.proofs.RowLemmas.{AreNull-none}
use Rattle.dp_value.proofs.value.Columns.new.Goals as goal

pub invariant_of-result : goal.invariant_of-result
invariant_of-result c =
    let none : IsTable empty = record {
      distinct = rising-distinct [] tt;
      up_to = λ k d h. absurd (omega (arith, h));
      light = omega arith;
    } in
    record {
      rows = record {
        keys = record { within = omega arith; rises = rw c.new.ensures.items tt };
        nulls = AreNull-none 0 _ (omega arith);
        same_length = ap length c.new-2.ensures.items ∙ sym (ap length c.new.ensures.items);
      };
      table = rw c.new.ensures.items none;
      weight = rw c.new.ensures.items refl;
    }
