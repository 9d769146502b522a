use Rattle.std.proofs.Common.{◌≡◌, ℕ, take}
use Rattle.fluent_syntax_names.specs.PluralCategories.{count_at, key_count}
use Rattle.fluent_syntax_names.proofs.select_counts.select_counts.Given as goal

abbrev pub invariant-loop-mention : goal.invariant-loop-mention
invariant-loop-mention l = record {
  counted : (select : ℕ) → count_at l.counts.table select
      ≡ key_count l.text (take l.mention-index l.mentions) l.kind select;
}
