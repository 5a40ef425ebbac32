use Rattle.dp_headline.proofs.laws.in_plain_words.Goals as goal
use Rattle.dp_proxy_laws.proofs.PlainLaws.{plainly}
use Rattle.dp_proxy_laws.specs.PlainWords.{given_on}
use Rattle.dp_session_laws.proofs.Whole.{whole_packets}
use Rattle.dp_top.specs.Engines.{engines_of}

pub returns : goal.returns
returns c = λ bundle bound key pass acts of_bytes short_key short_name good.
    plainly (engines_of bundle bound) key pass acts
    (whole_packets bundle bound key (given_on acts) of_bytes short_key short_name) good
