use Rattle.std.proofs.Common.{[]}
use Rattle.fluent_syntax_parser.specs.Rest.{tree_of}
use Rattle.fluent_syntax_parser.proofs.tilings.Rests.{end_of_entry_past_block_is_read_so_far}
use Rattle.fluent_syntax_parser.proofs.entries.Entries.next_error.Goals as goal

pub invariant_of-self-clause-reached : goal.invariant_of-self-clause-reached
invariant_of-self-clause-reached c =
    let options = c.args.self.now.options in
    let found = c.in-Some.ensures.next in
    end_of_entry_past_block_is_read_so_far options.comments options.edition c.args.self.now.source.bytes.now _ _ _
    found.0 [] found.1
    c.args.self.now.reached

pub returns-in-Some-2-clause-next : goal.returns-in-Some-2-clause-next
returns-in-Some-2-clause-next c = (tree_of c.in-Some-2._entry, rw c.in-Some-2.is at c.in_ok-_entry.ensures.next)
