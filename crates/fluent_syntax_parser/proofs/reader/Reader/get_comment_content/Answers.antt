use Rattle.std.proofs.Common.{◌∙◌, ◌++◌, sym, refl, ap, append_assoc, arith, map}
use Rattle.std.proofs.lemmas.List.{map-append}
use Rattle.std.proofs.lemmas.Result.{err_from_is_err_and}
use Rattle.fluent_syntax_grammar.specs.Comments.{one_more, other_level, no_comment_line}
use Rattle.fluent_syntax_grammar.specs.Construct.{stops, goes_on, given}
use Rattle.fluent_syntax_parser.specs.CommentLines.{line_of}
use Rattle.fluent_syntax_parser.specs.Outcomes.{no_memory, refused}
use Rattle.fluent_syntax_parser.proofs.entry_forms.CommentEntries.{comment_of_made_lines_is_made}
use Rattle.fluent_syntax_parser.proofs.readers.Fails.{memory_is_err}
use Rattle.fluent_syntax_parser.proofs.reader.Reader.get_comment_content.Goals as goal

pub returns-in_err-first-clause-parses : goal.returns-in_err-first-clause-parses
returns-in_err-first-clause-parses g c =
    let p = err_from_is_err_and c.from_residual.result c.from_residual.ensures.1 in
    rw (p.1, p.2) (refused (λ k from to h. stops (c.in_err-first.ensures.parses k from to h)))

pub loop-line-init : goal.loop-line-init
loop-line-init g c =
    let v = g.M.MakeTexts.made in
    let first =
    c.in_ok-add_line.ensures
    ∙ ap (λ xs. map v xs ++ map (g.M.MakeTexts.source c.args.self.now.texts.now) (line_of c.in_ok-first.first))
    c.new-content.ensures.items in
    record {
      forward = omega (arith, c.requires.hash, c.in_ok-first.ensures.within.0);
      within = c.in_ok-first.ensures.within.1;
      lines = record {
        lines = line_of c.in_ok-first.first;
        same = first;
        read = λ more j h. goes_on c.in_ok-first.ensures.parses (goes_on h given);
      };
    }

pub loop-line-preserved : goal.loop-line-preserved
loop-line-preserved g c =
    let inv = c.loop-line.invariant in
    let old = inv.lines in
    let read = c.in-Ok.ensures in
    let level = sym c.comment_level.ensures.level ∙ c.loop-line-test.true in
    let line = line_of c.in-Ok.line in
    let f = g.M.MakeTexts.source c.args.self.now.texts.now in
    record {
      forward = omega (arith, inv.forward, read.within.0);
      within = read.within.1;
      lines = record {
        lines = old.lines ++ line;
        same =
            c.in_ok-add_line-in-Ok.ensures ∙ ap (λ xs. xs ++ map f line) old.same
            ∙ sym (map-append f old.lines line);
        read = λ more j h.
            rw (append_assoc old.lines line more) (old.read (line ++ more) j (one_more level read.parses h));
      };
    }

pub returns-in-Err-clause-parses : goal.returns-in-Err-clause-parses
returns-in-Err-clause-parses g c =
    let level = sym c.comment_level.ensures.level ∙ c.loop-line-test.true in
    comment_of_made_lines_is_made c.loop-line.invariant.lines
    (no_comment_line level (c.in-Err.ensures.parses _ _ _ (refl, refl, refl)))

pub returns-clause-parses : goal.returns-clause-parses
returns-clause-parses g c =
    comment_of_made_lines_is_made c.loop-line.invariant.lines
    (other_level (λ level. c.loop-line-test.false (c.comment_level.ensures.level ∙ level)))

pub returns-in_err-add_line-clause-parses : goal.returns-in_err-add_line-clause-parses
returns-in_err-add_line-clause-parses g c =
    rw (memory_is_err c.from_residual-in_err-add_line.result c.from_residual-in_err-add_line.ensures.1) no_memory

pub returns-in_err-add_line-in-Ok-clause-parses : goal.returns-in_err-add_line-in-Ok-clause-parses
returns-in_err-add_line-in-Ok-clause-parses g c =
    rw (memory_is_err c.from_residual-in_err-add_line-in-Ok.result
    c.from_residual-in_err-add_line-in-Ok.ensures.1) no_memory
