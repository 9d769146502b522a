use Rattle.std.proofs.Common.{arith}
use Rattle.std.proofs.lemmas.List.Elements.{All-from_get_or}
use Rattle.percent_encoding.proofs.PercentLemmas.{IsByte}
use Rattle.ftl_files.proofs.UriLemmas.{uri_of_names_path}
use Rattle.ftl_files.proofs.uris.uri_of_path.Goals as goal

pub returns-clause-names : goal.returns-clause-names
returns-clause-names c =
    let path = c.args.path.now in
    let small = All-from_get_or IsByte path 0 (λ i within. omega (arith, c.type_inv.path i)) in
    rw (c.in_ok-append_to.ensures.ok, c.in_ok-uri.ensures.ok, c.percent_encode.ensures.text, c.as_bytes.ensures.value)
    (uri_of_names_path path small)
