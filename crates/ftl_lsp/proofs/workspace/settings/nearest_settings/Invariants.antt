use denote.Text.{Utf8}
use denote.Shadow.{shadow}
use Rattle.ftl_lsp.proofs.workspace.settings.nearest_settings.Given as goal

-- what is looked at is text
abbrev pub invariant-loop : goal.invariant-loop
invariant-loop g l =
    (goal.iterator-loop g).can_next l.iterator' × (goal.iterator-loop g).is_finite l.iterator' × shadow (Utf8 l.nearest)
