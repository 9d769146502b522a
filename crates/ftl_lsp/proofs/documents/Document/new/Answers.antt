use Rattle.std.proofs.Common.{◌∙◌, ◌-◌, ◌≤◌, All, ap, length, List, ℕ, map, subst, sym, take, Err, inl}
use Rattle.std.proofs.lemmas.List.{length-map, take-map}
use Rattle.ftl_lsp.specs.declared.limits.TheConstants.{DIAGNOSTICS_LIMIT}
use Rattle.fluent_syntax_grammar.specs.Body.{faults}
use Rattle.fluent_syntax_tree.specs.Entry.{BodyTree}
use Rattle.fluent_syntax_tree.specs.declared.spans.Span.{Span}
use Rattle.fluent_syntax_parser.specs.Answers.{Answers, ErrorsInText}
use Rattle.fluent_syntax_parser.specs.declared.fault.ParseFault.{ParseFault}
use Rattle.ftl.proofs.FaultLines.{made_of_faults}
use Rattle.ftl_lsp.specs.Diagnostics.{DiagnosesText, diagnostic_of, fault_shown, shown}
use Rattle.ftl_lsp.proofs.documents.Document.new.Goals as goal

pub invariant_of-result-in-Ok-Err-Syntax : goal.invariant_of-result-in-Ok-Err-Syntax
invariant_of-result-in-Ok-Err-Syntax c =
    let syntax = c.in-Ok-Err-Syntax in
    let h = syntax.ensures.tiling in
    let answer =
    subst (λ r. Answers (λ (s : Span). s) (λ (b : BodyTree Span). b) h.0 r) syntax.field-0-is h.2 in
    let stated =
    subst (λ (f : ParseFault Span). Answers (λ (s : Span). s) (λ (b : BodyTree Span). b) h.0 (Err f))
    syntax.field-0-0-is answer in
    let t = c.as_str.result.now in
    let errors = syntax.errors.items in
    let same = c.as_str-in-Ok-Err-Syntax.ensures.value ∙ sym c.as_str.ensures.value in
    let all = made_of_faults (fault_shown t) errors (faults h.0) stated.1 in
    let first = c.first_errors-first.ensures.first ∙ ap (take DIAGNOSTICS_LIMIT) c.deref.ensures.value in
    let shows = c.in_ok-diagnostics-in-Ok-Err-Syntax.ensures
    ∙ ap (λ (t : List ℕ). map (diagnostic_of t) c.first_errors-first.result.now) same
    ∙ ap (map (diagnostic_of t)) first ∙ sym (take-map (diagnostic_of t) DIAGNOSTICS_LIMIT errors)
    ∙ ap (take DIAGNOSTICS_LIMIT) all ∙ take-map (fault_shown t) DIAGNOSTICS_LIMIT (faults h.0) in
    let len = c.len.ensures ∙ sym c.deref.ensures.len ∙ ap length c.deref.ensures.value in
    let count = sym (length-map errors (diagnostic_of t)) ∙ ap length all ∙ length-map (faults h.0) (fault_shown t) in
    let more = c.saturating_sub-more_errors.ensures ∙ ap (λ n. n - DIAGNOSTICS_LIMIT) (len ∙ count) in
    record {
      diagnosed =
          ∣ subst (λ (t : List ℕ). DiagnosesText t
          (map shown c.in_ok-diagnostics-in-Ok-Err-Syntax.diagnostics.items) c.saturating_sub-more_errors.result)
          c.as_str.ensures.value
          (inl (
            h.0,
            h.1,
            shows,
            more,
            syntax.ensures.shallow (λ e. let is = syntax.field-0-is in let fault = syntax.field-0-0-is in cc),
          )) ∣₁;
    }

pub diagnostics_of-requires : goal.diagnostics_of-requires
diagnostics_of-requires c =
    let syntax = c.in-Ok-Err-Syntax in
    let t = c.as_str.result.now in
    let answer = subst (λ r. ErrorsInText t r) syntax.field-0-is syntax.ensures.places in
    let placed = subst (λ (f : ParseFault Span). ErrorsInText t (Err f)) syntax.field-0-0-is answer in
    let same = c.as_str-in-Ok-Err-Syntax.ensures.value ∙ sym c.as_str.ensures.value in
    c.first_errors-first.ensures.places _
    (subst (λ (t : List ℕ). All (λ e. e.pos.start ≤ length t) c.deref.result.now) (sym same)
    (subst (λ es. All (λ e. e.pos.start ≤ length t) es) (sym c.deref.ensures.value) placed))
