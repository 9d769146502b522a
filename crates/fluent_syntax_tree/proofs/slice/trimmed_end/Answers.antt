use Rattle.std.proofs.Common.{subst, sym, ap, ◌∙◌}
use Rattle.std.specs.Str.{IsCharBoundary}
use Rattle.fluent_syntax_tree.specs.Text.{trimmed_len}
use Rattle.fluent_syntax_tree.proofs.Trimmed.{trimmed_len_is_boundary}
use Rattle.fluent_syntax_tree.proofs.slice.trimmed_end.Goals as goal

pub returns-clause-boundary : goal.returns-clause-boundary
returns-clause-boundary c =
    let end = c.trimmed_len.ensures ∙ ap trimmed_len c.as_bytes.ensures.value in
    subst (IsCharBoundary c.args.text.now) (sym end) (trimmed_len_is_boundary c.args.text.now)
