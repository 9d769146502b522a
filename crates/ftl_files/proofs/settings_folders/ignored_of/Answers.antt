use Rattle.std.proofs.Common.{◌≡◌, ◌∷◌, ◌++◌, ◌+◌, ◌∙◌, [], ap, map, drop, sym}
use Rattle.std.proofs.lemmas.List.{append-nil, drop_all, drop_more}
use Rattle.std.proofs.lemmas.Result.{err_from_is_err_and}
use Rattle.toml.specs.View.{items_of, view}
use Rattle.toml.proofs.Views.{view-Array}
use Rattle.ftl_files.specs.IgnoreRules.{rule_text}
use Rattle.ftl_files.specs.declared.ignore_rules.IgnoreRule.{IgnoreRule}
use Rattle.toml.specs.Data.{Data, array, string}
use Rattle.ftl_files.proofs.ListedNames.{list_of_names_is_listed, name_in_none_is_not_listed}
use Rattle.ftl_files.proofs.settings_folders.ignored_of.Goals as goal

abbrev named : IgnoreRule → Data
named rule = string (rule_text rule)

pub returns-in_err-rule_of-clause-refused : goal.returns-in_err-rule_of-clause-refused
returns-in_err-rule_of-clause-refused c =
    let p = err_from_is_err_and c.from_residual.result c.from_residual.ensures.1 in
    let values = map view c.deref-text-items.result.now in
    let before = c.loop-text.rules.items in
    let value = view c.text-item.result in
    let after = map view (drop (c.loop-text.text-index + 1) c.deref-text-items.result.now) in
    let items = c.deref-text-items.result.now in
    let left : drop c.loop-text.text-index items ≡ c.text-item.result ∷ drop (c.loop-text.text-index + 1) items =
    drop_more items c.loop-text.text-index c.text-item.result c.loop-text-test.true
    ∙ ap (λ x. x ∷ drop (c.loop-text.text-index + 1) items) (sym c.text-item.is) in
    let at : values ≡ map named before ++ value ∷ after =
    c.loop-text.invariant.named ∙ ap (λ vs. map named before ++ map view vs) left in
    let array : view c.in-Some.value.now ≡ array (items_of values) =
    ap view c.in-Array.is ∙ view-Array c.in-Array.texts
    ∙ ap (λ vs. array (items_of (map view vs))) (sym c.deref-text-items.ensures.value) in
    rw (p.1, p.2, c.in-Some.is, array)
    (λ other rules is. name_in_none_is_not_listed named values before value after rules at
    (c.in_err-rule_of.ensures.refused other) is)

pub returns-in_err-add_rule-clause-refused : goal.returns-in_err-add_rule-clause-refused
returns-in_err-add_rule-clause-refused c =
    let p = err_from_is_err_and c.from_residual-in_err-add_rule.result c.from_residual-in_err-add_rule.ensures.1 in
    rw p.1 (λ other. absurd (other p.2))

pub returns-clause-says : goal.returns-clause-says
returns-clause-says c =
    let values = map view c.deref-text-items.result.now in
    let none : drop c.loop-text.text-index c.deref-text-items.result.now ≡ [] =
    drop_all c.loop-text.text-index c.deref-text-items.result.now c.loop-text-test.false in
    let all : values ≡ map named c.loop-text.rules.items =
    (rw none at c.loop-text.invariant.named) ∙ append-nil (map named c.loop-text.rules.items) in
    let array : view c.in-Some.value.now ≡ array (items_of values) =
    ap view c.in-Array.is ∙ view-Array c.in-Array.texts
    ∙ ap (λ vs. array (items_of (map view vs))) (sym c.deref-text-items.ensures.value) in
    rw (c.in-Some.is, array) (list_of_names_is_listed named values c.loop-text.rules.items all)
