use Rattle.std.proofs.Common.{◌∙◌, sym}
use Rattle.std.proofs.lemmas.Bool.{both_ways}
use Rattle.std.proofs.lemmas.Result.{err_from_is_err_and}
use Rattle.std.specs.Prelude.{codes}
use Rattle.toml.specs.View.{table_view}
use Rattle.toml.proofs.Views.{table_get}
use Rattle.ftl_files.proofs.KindLists.{common_by_values}
use Rattle.ftl_files.proofs.Refusing.{document_with_fault_says_no_settings}
use Rattle.ftl_files.proofs.settings.settings_of.Goals as goal

pub returns-clause-says : goal.returns-clause-says
returns-clause-says c =
    let entries = c.in-Ok.table.entries in
    let reference = table_get c.get.result (codes "reference") entries c.get.ensures.value in
    let ignored = table_get c.get-2.result (codes "ignore") entries c.get-2.ensures.value in
    let warned = table_get c.get-3.result (codes "warn") entries c.get-3.ensures.value in
    let denied = table_get c.get-4.result (codes "deny") entries c.get-4.ensures.value in
    let excluded = table_get c.get-5.result (codes "exclude") entries c.get-5.ensures.value in
    let edition = table_get c.get-6.result (codes "edition") entries c.get-6.ensures.value in
    let output = table_get c.get-7.result (codes "output") entries c.get-7.ensures.value in
    let nesting = table_get c.get-8.result (codes "nesting") entries c.get-8.ensures.value in
    let color = table_get c.get-9.result (codes "color") entries c.get-9.ensures.value in
    let apart = rw (c.deref.ensures.value, c.deref-2.ensures.value) at c.in_ok-check_apart.ensures.apart in
    let blank_lines = table_get c.get-10.result (codes "blank-lines") entries c.get-10.ensures.value in
    let folders = table_get c.get-11.result (codes "folders") entries c.get-11.ensures.value in (
      table_view c.in-Ok.table,
      c.in-Ok.ensures.ok,
      record {
        known = c.in_ok-check_keys.ensures.known;
        reference = rw reference at c.in_ok-reference.ensures.says;
        ignored = rw ignored at c.in_ok-ignored.ensures.says;
        warned = rw warned at c.in_ok-warned.ensures.says;
        denied = rw denied at c.in_ok-denied.ensures.says;
        apart = apart;
        excluded = rw excluded at c.in_ok-excluded.ensures.says;
        edition = rw edition at c.in_ok-edition.ensures.says;
        output = rw output at c.in_ok-output.ensures.says;
        nesting = rw nesting at c.in_ok-nesting.ensures.says;
        color = rw color at c.in_ok-color.ensures.says;
        blank_lines = rw blank_lines at c.in_ok-blank_lines.ensures.says;
        folders = rw folders at c.in_ok-folders.ensures.says;
      },
    )

pub returns-in_err-reference-clause-refused : goal.returns-in_err-reference-clause-refused
returns-in_err-reference-clause-refused c =
    let p = err_from_is_err_and c.from_residual-in_err-reference.result c.from_residual-in_err-reference.ensures.1 in
    let value = table_get c.get.result (codes "reference") c.in-Ok.table.entries c.get.ensures.value in
    let refused = rw value at c.in_err-reference.ensures.refused in
    rw (p.1, p.2) (document_with_fault_says_no_settings c.args.text.now (table_view c.in-Ok.table) _ c.in-Ok.ensures.ok
    (λ other settings says. refused other settings.reference says.reference))

pub returns-in_err-ignored-clause-refused : goal.returns-in_err-ignored-clause-refused
returns-in_err-ignored-clause-refused c =
    let p = err_from_is_err_and c.from_residual-in_err-ignored.result c.from_residual-in_err-ignored.ensures.1 in
    let value = table_get c.get-2.result (codes "ignore") c.in-Ok.table.entries c.get-2.ensures.value in
    let refused = rw value at c.in_err-ignored.ensures.refused in
    rw (p.1, p.2) (document_with_fault_says_no_settings c.args.text.now (table_view c.in-Ok.table) _ c.in-Ok.ensures.ok
    (λ other settings says. refused other settings.ignored.items says.ignored))

pub returns-in_err-warned-clause-refused : goal.returns-in_err-warned-clause-refused
returns-in_err-warned-clause-refused c =
    let p = err_from_is_err_and c.from_residual-in_err-warned.result c.from_residual-in_err-warned.ensures.1 in
    let value = table_get c.get-3.result (codes "warn") c.in-Ok.table.entries c.get-3.ensures.value in
    let refused = rw value at c.in_err-warned.ensures.refused in
    rw (p.1, p.2) (document_with_fault_says_no_settings c.args.text.now (table_view c.in-Ok.table) _ c.in-Ok.ensures.ok
    (λ other settings says. refused other settings.warned.items says.warned))

pub returns-in_err-denied-clause-refused : goal.returns-in_err-denied-clause-refused
returns-in_err-denied-clause-refused c =
    let p = err_from_is_err_and c.from_residual-in_err-denied.result c.from_residual-in_err-denied.ensures.1 in
    let value = table_get c.get-4.result (codes "deny") c.in-Ok.table.entries c.get-4.ensures.value in
    let refused = rw value at c.in_err-denied.ensures.refused in
    rw (p.1, p.2) (document_with_fault_says_no_settings c.args.text.now (table_view c.in-Ok.table) _ c.in-Ok.ensures.ok
    (λ other settings says. refused other settings.denied.items says.denied))

pub returns-in_err-check_apart-clause-refused : goal.returns-in_err-check_apart-clause-refused
returns-in_err-check_apart-clause-refused c =
    let p =
    err_from_is_err_and c.from_residual-in_err-check_apart.result c.from_residual-in_err-check_apart.ensures.1 in
    let entries = c.in-Ok.table.entries in
    let warn = rw (table_get c.get-3.result (codes "warn") entries c.get-3.ensures.value) at c.in_ok-warned.ensures.says
    in
    let deny = rw (table_get c.get-4.result (codes "deny") entries c.get-4.ensures.value) at c.in_ok-denied.ensures.says
    in
    let refused = rw (c.deref.ensures.value, c.deref-2.ensures.value) at c.in_err-check_apart.ensures.refused in
    rw (p.1, p.2) (document_with_fault_says_no_settings c.args.text.now (table_view c.in-Ok.table) _ c.in-Ok.ensures.ok
    (λ other settings says. both_ways _ says.apart
    (sym (common_by_values _ _ c.in_ok-warned.warned.items c.in_ok-denied.denied.items settings.warned.items
    settings.denied.items warn deny says.warned says.denied) ∙ refused)))

pub returns-in_err-excluded-clause-refused : goal.returns-in_err-excluded-clause-refused
returns-in_err-excluded-clause-refused c =
    let p = err_from_is_err_and c.from_residual-in_err-excluded.result c.from_residual-in_err-excluded.ensures.1 in
    let value = table_get c.get-5.result (codes "exclude") c.in-Ok.table.entries c.get-5.ensures.value in
    let refused = rw value at c.in_err-excluded.ensures.refused in
    rw (p.1, p.2) (document_with_fault_says_no_settings c.args.text.now (table_view c.in-Ok.table) _ c.in-Ok.ensures.ok
    (λ other settings says. refused other settings.excluded.items says.excluded))

pub returns-in_err-edition-clause-refused : goal.returns-in_err-edition-clause-refused
returns-in_err-edition-clause-refused c =
    let p = err_from_is_err_and c.from_residual-in_err-edition.result c.from_residual-in_err-edition.ensures.1 in
    let value = table_get c.get-6.result (codes "edition") c.in-Ok.table.entries c.get-6.ensures.value in
    let refused = rw value at c.in_err-edition.ensures.refused in
    rw (p.1, p.2) (document_with_fault_says_no_settings c.args.text.now (table_view c.in-Ok.table) _ c.in-Ok.ensures.ok
    (λ other settings says. refused settings.edition says.edition))

pub returns-in_err-output-clause-refused : goal.returns-in_err-output-clause-refused
returns-in_err-output-clause-refused c =
    let p = err_from_is_err_and c.from_residual-in_err-output.result c.from_residual-in_err-output.ensures.1 in
    let value = table_get c.get-7.result (codes "output") c.in-Ok.table.entries c.get-7.ensures.value in
    let refused = rw value at c.in_err-output.ensures.refused in
    rw (p.1, p.2) (document_with_fault_says_no_settings c.args.text.now (table_view c.in-Ok.table) _ c.in-Ok.ensures.ok
    (λ other settings says. refused settings.output says.output))

pub returns-in_err-nesting-clause-refused : goal.returns-in_err-nesting-clause-refused
returns-in_err-nesting-clause-refused c =
    let p = err_from_is_err_and c.from_residual-in_err-nesting.result c.from_residual-in_err-nesting.ensures.1 in
    let value = table_get c.get-8.result (codes "nesting") c.in-Ok.table.entries c.get-8.ensures.value in
    let refused = rw value at c.in_err-nesting.ensures.refused in
    rw (p.1, p.2) (document_with_fault_says_no_settings c.args.text.now (table_view c.in-Ok.table) _ c.in-Ok.ensures.ok
    (λ other settings says. refused settings.nesting says.nesting))

pub returns-in_err-color-clause-refused : goal.returns-in_err-color-clause-refused
returns-in_err-color-clause-refused c =
    let p = err_from_is_err_and c.from_residual-in_err-color.result c.from_residual-in_err-color.ensures.1 in
    let value = table_get c.get-9.result (codes "color") c.in-Ok.table.entries c.get-9.ensures.value in
    let refused = rw value at c.in_err-color.ensures.refused in
    rw (p.1, p.2) (document_with_fault_says_no_settings c.args.text.now (table_view c.in-Ok.table) _ c.in-Ok.ensures.ok
    (λ other settings says. refused settings.color says.color))

pub returns-in_err-blank_lines-clause-refused : goal.returns-in_err-blank_lines-clause-refused
returns-in_err-blank_lines-clause-refused c =
    let p =
    err_from_is_err_and c.from_residual-in_err-blank_lines.result c.from_residual-in_err-blank_lines.ensures.1 in
    let value = table_get c.get-10.result (codes "blank-lines") c.in-Ok.table.entries c.get-10.ensures.value in
    let refused = rw value at c.in_err-blank_lines.ensures.refused in
    rw (p.1, p.2) (document_with_fault_says_no_settings c.args.text.now (table_view c.in-Ok.table) _ c.in-Ok.ensures.ok
    (λ other settings says. refused settings.blank_lines says.blank_lines))

pub returns-in_err-folders-clause-refused : goal.returns-in_err-folders-clause-refused
returns-in_err-folders-clause-refused c =
    let p = err_from_is_err_and c.from_residual-in_err-folders.result c.from_residual-in_err-folders.ensures.1 in
    let value = table_get c.get-11.result (codes "folders") c.in-Ok.table.entries c.get-11.ensures.value in
    let refused = rw value at c.in_err-folders.ensures.refused in
    rw (p.1, p.2) (document_with_fault_says_no_settings c.args.text.now (table_view c.in-Ok.table) _ c.in-Ok.ensures.ok
    (λ other settings says. refused other settings.folders.items says.folders))
