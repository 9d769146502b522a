-- How a string goes on.
use Rattle.std.specs.Prelude.{ℕ, List, Bool}
use Rattle.fluent_syntax_grammar.specs.Spellings.{is_units, is_escape}
use Rattle.fluent_syntax_writer.specs.declared.canonical.spellings.Next.{Next}
use Rattle.fluent_syntax_writer.specs.declared.canonical.spellings.Next.TheVariants.{Units, Escape}

-- whether the rest of a string may follow
abbrev pub may_follow : Next → List ℕ → Bool
may_follow (Units digits) bs = is_units digits bs
may_follow Escape bs = is_escape bs
