-- The URI of a path names it.
use Rattle.std.proofs.Common.{◌≡◌, ℕ, List, ◌∷◌, ◌++◌, true, false, Some, refl, sym, ap, ◌∙◌, All}
use Rattle.std.specs.Prelude.{codes}
use Rattle.percent_encoding.specs.AsciiSet.{contains, should_percent_encode}
use Rattle.percent_encoding.specs.Percent.{percent_encode}
use Rattle.percent_encoding.proofs.PercentLemmas.{IsByte, percent_encode_kept, round_trip}
use Rattle.ftl_files.specs.Uris.{escaped_path, uri_of, NamesPath}
use Rattle.ftl_files.specs.declared.uris.TheConstants.{ESCAPED}

slash_is_not_escaped : should_percent_encode ESCAPED 47 ≡ false
unfolding should_percent_encode
slash_is_not_escaped = refl

percent_is_escaped : contains ESCAPED 37 ≡ true
percent_is_escaped = refl

file_uri_has_path : (rest : List ℕ) → escaped_path (codes "file://" ++ 47 ∷ rest) ≡ Some (47 ∷ rest)
file_uri_has_path rest = refl

pub uri_of_names_path : (path : List ℕ) → All IsByte path → NamesPath (uri_of path) path
uri_of_names_path path small rest is =
    let kept = ap (percent_encode ESCAPED) is ∙ percent_encode_kept ESCAPED 47 rest slash_is_not_escaped in
    let escaped = ap (λ e. escaped_path (codes "file://" ++ e)) kept ∙ file_uri_has_path (percent_encode ESCAPED rest)
    ∙ ap Some (sym kept) in
    (percent_encode ESCAPED path, escaped, round_trip ESCAPED path percent_is_escaped small)
