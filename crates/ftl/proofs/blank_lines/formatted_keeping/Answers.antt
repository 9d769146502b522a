use Rattle.std.proofs.Common.{string_bytes, subst}
use Rattle.ftl.specs.BlankLines.{IsKept}
use Rattle.ftl.proofs.blank_lines.formatted_keeping.Goals as goal

pub returns-clause-text : goal.returns-clause-text
returns-clause-text c =
    let (tiles, tiling, text_is, outcome_is, canonical_is) = c.in_ok-normal.ensures.text in (
      tiles,
      tiling,
      subst (λ n. IsKept c.args.edition c.args.text.now n (string_bytes c.in_ok-text.text)) text_is
          c.in_ok-text.ensures,
      outcome_is,
      canonical_is,
    )
