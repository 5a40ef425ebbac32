use Rattle.std.proofs.Common.{ℕ, Vec, ◌++◌, ap, ◌∙◌, arith}
use Rattle.std.specs.declared.alloc.Global.{Global}
use Rattle.std.proofs.lemmas.List.Elements.{All-from_get_or}
use Rattle.percent_encoding.specs.Percent.{percent_encode}
use Rattle.dp_packet.specs.declared.uris.TheConstants.{ESCAPED}
use Rattle.dp_packet.specs.Uris.{file_uri}
use Rattle.dp_bytes.specs.Names.{without_slash}
use Rattle.dp_packet.proofs.UriLaws.{IsByte, same_bytes, small_rest}
use Rattle.dp_packet.proofs.uris.file_uri.Goals as goal

pub returns : goal.returns
unfolding file_uri
returns c =
    let name = All-from_get_or IsByte c.args.name.now 0 (λ i within. omega (arith, c.type_inv.name i)) in
    c.of.ensures ∙ ap (λ (v : Vec ℕ Global). v.items) c.into_bytes.ensures.value ∙ c.in_ok-append_to.ensures.ok
    ∙ (λ i. c.in_ok-uri.ensures.ok i
    ++ (c.percent_encode.ensures.text ∙ ap (percent_encode ESCAPED) c.without_slash.ensures
    ∙ same_bytes (without_slash c.args.name.now) (small_rest c.args.name.now name)) i)
