use Rattle.fluent_syntax_parser.specs.Rest.{faults_of}
use Rattle.fluent_syntax_parser.proofs.tilings.Rests.{end_of_entry_past_block_is_read_so_far}
use Rattle.fluent_syntax_parser.proofs.entries.Entries.add_next_entry.Goals as goal

pub invariant_of-self-clause-reached : goal.invariant_of-self-clause-reached
invariant_of-self-clause-reached g c =
    let options = c.args.self.now.options in
    let put = rw c.in-Some.is at c.in_ok-span.ensures.next in
    end_of_entry_past_block_is_read_so_far options.comments options.edition c.args.self.now.source.bytes.now _ _ _
    put.tree
    (faults_of put.error) put.in_place c.args.self.now.reached
