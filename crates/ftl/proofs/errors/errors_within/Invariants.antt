use Rattle.std.proofs.Common.{◌≡◌, ◌≤◌, ◌-◌, length}
use Rattle.std.specs.Prelude.{All}
use Rattle.fluent_syntax_grammar.specs.Nesting.{TextDeeper}
use Rattle.fluent_syntax_grammar.specs.Tiling.{TileIn}
use Rattle.fluent_syntax_parser.specs.declared.options.Comments.TheVariants.{Kept}
use Rattle.ftl.proofs.ErrorsTo.{ErrorsTo}
use Rattle.ftl.proofs.errors.errors_within.Given as goal

abbrev pub invariant-loop-errors : goal.invariant-loop-errors
invariant-loop-errors l = let t = l.text in
    let deeper = TextDeeper l.fn.edition t (TileIn l.fn.edition t) l.fn.nesting in record {
      text : l.entries.source.bytes.now ≡ t;
      options : l.entries.options ≡ record { edition = l.fn.edition; comments = Kept; nesting = l.fn.nesting };
      errors : ErrorsTo l.fn.edition t l.entries.ptr l.errors.items;
      places : All (λ e. e.pos.start ≤ length t) l.errors.items;
      deeper : (deeper l.entries.ptr → deeper 0) × (deeper 0 → deeper l.entries.ptr);
    }

abbrev pub decreases-loop-errors : goal.decreases-loop-errors
decreases-loop-errors l = length l.text - l.entries.ptr
