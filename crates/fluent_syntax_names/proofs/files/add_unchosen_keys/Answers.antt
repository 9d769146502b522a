use Rattle.std.proofs.Common.{None, map, ap, ◌∙◌}
use Rattle.fluent_syntax_names.specs.Findings.{finding_at}
use Rattle.fluent_syntax_names.specs.PluralCategories.{words_of}
use Rattle.fluent_syntax_names.specs.declared.finding.Kind.TheVariants.{PluralCategory}
use Rattle.fluent_syntax_names.proofs.Adding.{appended_list_is_added}
use Rattle.fluent_syntax_names.proofs.files.add_unchosen_keys.Goals as goal

pub returns : goal.returns
returns c =
    let known = ap words_of c.in-Some.is in
    let found = c.in_ok-found.ensures ∙ ap (map (λ key. finding_at PluralCategory c.args.number key None))
    (c.deref.ensures.value ∙ c.in_ok-keys.ensures) in
    rw known (appended_list_is_added c.append.result _ _ c.in_ok-found.found.items _ c.append.ensures.items found)
