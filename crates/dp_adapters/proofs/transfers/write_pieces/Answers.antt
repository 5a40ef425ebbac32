use Rattle.std.proofs.Common.{rules, ◌≡◌, [], ◌++◌, take, drop_of_length-le}
use Rattle.std.specs.Io.KnownBytes.{Keeps}
use Rattle.std.proofs.KnownBytes.{Appends-kept, Appends-trans}
use Rattle.dp_adapters.proofs.Fronts.{all_written, front_written, piece_written}
use Rattle.dp_adapters.proofs.transfers.write_pieces.Goals as goal

pub returns-in_err-count : goal.returns-in_err-count
returns-in_err-count g c =
    let (done, split, appended) = c.pieces.invariant in
    let kept : Keeps (g.W.Write.contents c.pieces.writer) (g.W.Write.contents c.write_some.new.writer) = search rules in
    search (rules, front_written _ _ _ done c.pieces.rest.now split (Appends-kept _ _ _ done appended kept))

pub pieces-preserved : goal.pieces-preserved
pieces-preserved g c =
    let (done, split, appended) = c.pieces.invariant in
    let rest = c.pieces.rest.now in
    let n = c.in_ok-count.count in (
      done ++ take n rest,
      piece_written _ done rest n split,
      Appends-trans _ _ _ _ _ appended
          c.in_ok-count.ensures.bytes,
    )

pub returns : goal.returns
returns g c =
    let (done, split, appended) = c.pieces.invariant in
    let rest = c.pieces.rest.now in
    let none : rest ≡ [] = drop_of_length-le rest {i = 0} (search rules) in
    all_written _ _ _ done rest split none appended
