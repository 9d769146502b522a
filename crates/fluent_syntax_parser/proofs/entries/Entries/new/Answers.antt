use Rattle.fluent_syntax_parser.proofs.tilings.Rests.{start_of_text_is_read_so_far}
use Rattle.fluent_syntax_parser.proofs.entries.Entries.new.Goals as goal

pub invariant_of-result-clause-reached : goal.invariant_of-result-clause-reached
invariant_of-result-clause-reached c =
    ∣ start_of_text_is_read_so_far c.args.options.comments c.args.options.edition _ ∣₁
