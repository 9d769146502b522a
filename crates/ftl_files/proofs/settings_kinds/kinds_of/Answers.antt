use Rattle.std.proofs.Common.{◌≡◌, ◌∷◌, ◌++◌, ◌+◌, ◌∙◌, [], ap, map, drop, sym}
use Rattle.std.proofs.lemmas.List.{append-nil, drop_all, drop_more}
use Rattle.std.proofs.lemmas.Result.{err_from_is_err_and}
use Rattle.toml.specs.View.{items_of, view}
use Rattle.toml.proofs.Views.{view-Array}
use Rattle.ftl_files.specs.Kinds.{reported_name}
use Rattle.ftl_files.specs.declared.kinds.ReportedKind.{ReportedKind}
use Rattle.toml.specs.Data.{Data, array, string}
use Rattle.ftl_files.proofs.ListedNames.{list_of_names_is_listed, name_in_none_is_not_listed}
use Rattle.ftl_files.proofs.settings_kinds.kinds_of.Goals as goal

abbrev named : ReportedKind → Data
named kind = string (reported_name kind)

pub returns-in_err-kind_of-clause-refused : goal.returns-in_err-kind_of-clause-refused
returns-in_err-kind_of-clause-refused c =
    let p = err_from_is_err_and c.from_residual.result c.from_residual.ensures.1 in
    let values = map view c.deref-name-items.result.now in
    let before = c.loop-name.kinds.items in
    let value = view c.name-item.result in
    let after = map view (drop (c.loop-name.name-index + 1) c.deref-name-items.result.now) in
    let items = c.deref-name-items.result.now in
    let left : drop c.loop-name.name-index items ≡ c.name-item.result ∷ drop (c.loop-name.name-index + 1) items =
    drop_more items c.loop-name.name-index c.name-item.result c.loop-name-test.true
    ∙ ap (λ x. x ∷ drop (c.loop-name.name-index + 1) items) (sym c.name-item.is) in
    let at : values ≡ map named before ++ value ∷ after =
    c.loop-name.invariant.named ∙ ap (λ vs. map named before ++ map view vs) left in
    let array : view c.in-Some.value.now ≡ array (items_of values) =
    ap view c.in-Array.is ∙ view-Array c.in-Array.names
    ∙ ap (λ vs. array (items_of (map view vs))) (sym c.deref-name-items.ensures.value) in
    rw (p.1, p.2, c.in-Some.is, array)
    (λ other kinds is. name_in_none_is_not_listed named values before value after kinds at
    (c.in_err-kind_of.ensures.refused other) is)

pub returns-in_err-add_kind-clause-refused : goal.returns-in_err-add_kind-clause-refused
returns-in_err-add_kind-clause-refused c =
    let p = err_from_is_err_and c.from_residual-in_err-add_kind.result c.from_residual-in_err-add_kind.ensures.1 in
    rw p.1 (λ other. absurd (other p.2))

pub returns-clause-says : goal.returns-clause-says
returns-clause-says c =
    let values = map view c.deref-name-items.result.now in
    let none : drop c.loop-name.name-index c.deref-name-items.result.now ≡ [] =
    drop_all c.loop-name.name-index c.deref-name-items.result.now c.loop-name-test.false in
    let all : values ≡ map named c.loop-name.kinds.items =
    (rw none at c.loop-name.invariant.named) ∙ append-nil (map named c.loop-name.kinds.items) in
    let array : view c.in-Some.value.now ≡ array (items_of values) =
    ap view c.in-Array.is ∙ view-Array c.in-Array.names
    ∙ ap (λ vs. array (items_of (map view vs))) (sym c.deref-name-items.ensures.value) in
    rw (c.in-Some.is, array) (list_of_names_is_listed named values c.loop-name.kinds.items all)
