use Rattle.dp_polled.proofs.Keeps.{begins}
use Rattle.dp_polled.proofs.post.Post.new.Goals as goal

pub vacant-requires : goal.vacant-requires
vacant-requires c = begins
