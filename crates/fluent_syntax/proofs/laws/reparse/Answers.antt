use Rattle.std.proofs.Common.{Global, false, string_bytes, subst}
use Rattle.fluent_syntax_tree.specs.Entry.{body_map}
use Rattle.fluent_syntax_tree.specs.Spans.{bytes_at}
use Rattle.fluent_syntax_tree.specs.View.{resource_view}
use Rattle.fluent_syntax_tree.specs.declared.edition.Edition.TheVariants.{One}
use Rattle.fluent_syntax_grammar.specs.Joined.{joined_body}
use Rattle.fluent_syntax_grammar.specs.Written.{written}
use Rattle.fluent_syntax_grammar.proofs.marks.Entries.{written_is_read_back}
use Rattle.fluent_syntax_grammar.proofs.marks.JoinedTrees.{joined_reads_back}
use Rattle.fluent_syntax_parser.specs.Answers.{AnswersTiling}
use Rattle.fluent_syntax.proofs.RoundTripLemmas.{memory_error_writes_nothing, reading_that_gives_tree_answers_tiling}
use Rattle.fluent_syntax.proofs.laws.reparse.Goals as goal

pub returns-in-Err-clause-answers : goal.returns-in-Err-clause-answers
returns-in-Err-clause-answers g c =
    memory_error_writes_nothing (string_bytes {Z = Global}) (resource_view g.S.Slice.text c.args.r.now)

pub returns-clause-answers : goal.returns-clause-answers
returns-clause-answers g c =
    subst (λ t. AnswersTiling string_bytes (body_map (bytes_at t)) One t c.parse.result) c.in-Ok.ensures
    c.parse.ensures.tiling

pub returns-clause-back : goal.returns-clause-back
returns-clause-back g c = λ canonical.
    let tree = resource_view g.S.Slice.text c.args.r.now in
    reading_that_gives_tree_answers_tiling string_bytes (written false tree) tree c.parse.result
    (written_is_read_back One tree false canonical)
    (returns-clause-answers g c)

pub returns-clause-joined : goal.returns-clause-joined
returns-clause-joined g c = λ canonical.
    let tree = resource_view g.S.Slice.text c.args.r.now in
    reading_that_gives_tree_answers_tiling string_bytes (written false tree) (joined_body tree) c.parse.result
    (joined_reads_back tree canonical)
    (returns-clause-answers g c)
