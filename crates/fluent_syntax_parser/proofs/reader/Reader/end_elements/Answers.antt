use Rattle.std.proofs.Common.{◌≡◌, [], ◌∷◌, ◌++◌, ◌∙◌, ap, arith, false, length, map, sym, true}
use Rattle.std.specs.Prelude.{slice_range, vec_len}
use Rattle.std.proofs.lemmas.List.{append-nil}
use Rattle.std.proofs.lemmas.Result.{IfOk-equal}
use Rattle.fluent_syntax_grammar.specs.Elements.{is_nonblank, trimmed_end}
use Rattle.fluent_syntax_tree.specs.Tree.{text_element}
use Rattle.fluent_syntax_tree.specs.View.{element_view}
use Rattle.fluent_syntax_parser.specs.Elements.{rest_end}
use Rattle.fluent_syntax_parser.specs.Lines.{ending_view}
use Rattle.fluent_syntax_parser.proofs.entry_forms.FieldForms.{zero_count_is_empty}
use Rattle.fluent_syntax_parser.proofs.patterns.Rest.{lone_run_is_spelled_trimmed}
use Rattle.fluent_syntax_parser.proofs.reader.Reader.end_elements.Goals as goal

pub returns-then-not-is_nonblank : goal.returns-then-not-is_nonblank
returns-then-not-is_nonblank g c =
    let f = g.M.MakeTexts.source c.args.self.now.texts.now in
    let t = c.args.self.now.source.bytes.now in
    let run = c.args.opening.run in
    let old = map (element_view g.M.MakeTexts.made) c.args.elements.now.items in
    let lines = c.args.lines in
    let size : length lines.items ≡ vec_len lines = omega (arith, lines.ok.0) in
    let none = zero_count_is_empty lines.items _ size c.if-not-is_empty.ensures in
    let stays : is_nonblank (slice_range t run.start (rest_end run.end (ending_view c.args.opening.ending))) ≡ false =
    ap (λ end. is_nonblank (slice_range t run.start end)) (sym c.text_end-end.ensures)
    ∙ sym c.if-not-is_nonblank.ensures in
    rw none
    (sym (ap (λ es. old ++ es)
    (lone_run_is_spelled_trimmed f t run (ending_view c.args.opening.ending) c.requires.0 c.requires.1 false stays)
    ∙ append-nil old))

pub returns : goal.returns
returns g c =
    let f = g.M.MakeTexts.source c.args.self.now.texts.now in
    let t = c.args.self.now.source.bytes.now in
    let run = c.args.opening.run in
    let old = map (element_view g.M.MakeTexts.made) c.args.elements.now.items in
    let lines = c.args.lines in
    let size : length lines.items ≡ vec_len lines = omega (arith, lines.ok.0) in
    let none = zero_count_is_empty lines.items _ size c.if-not-is_empty.ensures in
    let stays : is_nonblank (slice_range t run.start (rest_end run.end (ending_view c.args.opening.ending))) ≡ true =
    ap (λ end. is_nonblank (slice_range t run.start end)) (sym c.text_end-end.ensures)
    ∙ sym c.if-not-is_nonblank.ensures in
    let trimmed = c.trimmed_end-end.ensures ∙ ap (trimmed_end t run.start) c.text_end-end.ensures in
    rw none
    (IfOk-equal c.add_text.result _ _ _ c.add_text.ensures
    (ap (λ es. old ++ es)
    (ap (λ end. text_element (f (record { start = run.start; end = end })) ∷ []) trimmed
    ∙ sym (lone_run_is_spelled_trimmed f t run
    (ending_view c.args.opening.ending) c.requires.0 c.requires.1 true stays))))
