-- What is shown to the user besides answers and diagnostics.
use Rattle.std.specs.Prelude.{ℕ, List, ◌++◌, codes, string_bytes}
use Rattle.std.specs.Fmt.{decimal}
use Rattle.fluent_syntax_names.specs.declared.finding.Severity.{Severity}
use Rattle.fluent_syntax_names.specs.declared.finding.Severity.TheVariants.{Error, Warning}
use Rattle.serde_json.specs.Data.{Data, number, unsigned, string, object, member, no_members}
use Rattle.ftl_lsp.specs.DiagnosticForms.{severity_number}
use Rattle.ftl_lsp.specs.LeftOut.{left_out_sentence}
use Rattle.ftl_lsp.specs.declared.sessions.notices.Notice.{Notice}
use Rattle.ftl_lsp.specs.declared.sessions.notices.Notice.TheVariants.{TooDeep, HasError, LeftOut, NotReadBack}
use Rattle.ftl_lsp.specs.declared.sessions.notices.Notice.TheVariants.{NotRenamed, WrongSettings}

abbrev pub severity_of : Notice → Severity
severity_of (TooDeep name) = Warning
severity_of (HasError name line) = Warning
severity_of (NotReadBack name) = Warning
severity_of (LeftOut name reason) = Warning
severity_of (NotRenamed name) = Warning
severity_of (WrongSettings folder fault) = Error

abbrev pub sentence_of : Notice → List ℕ
sentence_of (TooDeep name) = string_bytes name ++ codes " is not formatted: it nests too deep"
sentence_of (HasError name line) =
    string_bytes name ++ (codes " is not formatted: line " ++ (decimal line ++ codes " has an error"))
sentence_of (NotReadBack name) =
    string_bytes name ++ codes " is not formatted: what would be written does not read back"
sentence_of (LeftOut name reason) = left_out_sentence (string_bytes name) reason
sentence_of (NotRenamed name) = string_bytes name ++ codes " is left out, so nothing is renamed there"
sentence_of (WrongSettings folder fault) = string_bytes folder ++ (codes "/ftl.toml: " ++ string_bytes fault)

-- the notification that shows it
abbrev pub notice_form : Notice → Data
notice_form notice =
    object (member (codes "jsonrpc") (string (codes "2.0"))
    (member (codes "method") (string (codes "window/showMessage"))
    (member (codes "params")
    (object (member (codes "message") (string (sentence_of notice))
    (member (codes "type") (number (unsigned (severity_number (severity_of notice)))) no_members)))
    no_members)))
