-- A new text as it is written.
use Rattle.std.specs.Prelude.{◌≡◌, ℕ, ◌-◌, ◌<◌, List, [], ◌∷◌, ◌++◌, drop, take, string_bytes}
use Rattle.fluent_syntax_tree.specs.declared.spans.Span.{Span}
use Rattle.fluent_syntax_edits.specs.Changes.{Change, after_line_ends, attempts}
use Rattle.fluent_syntax_edits.specs.declared.drafts.Draft.{Draft}
use Rattle.fluent_syntax_edits.specs.declared.drafts.Replacement.{Replacement}

-- The text up to the stretch has been added to the draft, and what comes in its place for the change.
pub record IsAdded (t : List ℕ) (change : Change) (s : Span) (old new : Draft) : Type 0 where
  pub replacement : Replacement
  pub span : replacement.span ≡ s
  pub line_ends : ℕ
  pub few : line_ends < attempts change
  pub text : string_bytes replacement.text ≡ after_line_ends line_ends change t s.end
  pub replacements : new.replacements.items ≡ old.replacements.items ++ replacement ∷ []
  pub written :
      string_bytes new.text
      ≡ string_bytes old.text ++ (take (s.start - old.end) (drop old.end t) ++ string_bytes replacement.text)
  pub end : new.end ≡ s.end
