-- How many keys of which kind selects have, by tables.
use Rattle.std.specs.Prelude.{ℕ}
use Rattle.fluent_syntax_names.specs.PluralCategories.{count_at}
use Rattle.fluent_syntax_names.specs.declared.select_counts.KeyKind.{KeyKind}
use Rattle.fluent_syntax_names.specs.declared.select_counts.KeyKind.TheVariants.{Category, Stranger}
use Rattle.fluent_syntax_names.specs.declared.selects.Selects.{Selects}

abbrev pub counts_by : Selects → KeyKind → (select : ℕ) → ℕ
counts_by selects Category select = count_at selects.category_counts.now.table select
counts_by selects Stranger select = count_at selects.stranger_counts.now.table select
