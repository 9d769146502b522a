use Rattle.std.proofs.Common.{length, ◌-◌, ◌≡◌, ◌≤◌, ℕ, List, Option}
use Rattle.fluent_syntax_tree.specs.Entry.{BodyTree}
use Rattle.fluent_syntax_tree.specs.declared.edition.Edition.{Edition}
use Rattle.fluent_syntax_tree.specs.declared.spans.Span.{Span}
use Rattle.fluent_syntax_grammar.specs.Nesting.{TextDeeper}
use Rattle.fluent_syntax_grammar.specs.Places.{BlankBlock}
use Rattle.fluent_syntax_grammar.specs.Tiling.{Fault}
use Rattle.fluent_syntax_parser.specs.Rest.{Rest, RestAt, TileDeeper, TileIn}
use Rattle.fluent_syntax_parser.proofs.source.Source.tile_start.Given as goal

abbrev pub invariant-loop-comments : goal.invariant-loop-comments
invariant-loop-comments l = record {
  forward : l.ptr ≤ l.start;
  within : l.start ≤ length l.self.bytes.now;
  rest : (edition : Edition) (entries : BodyTree Span) (errors : List (Option Fault)) →
      RestAt l.comments edition l.self.bytes.now l.start entries errors →
      Rest l.comments edition l.self.bytes.now l.ptr entries errors;
  deeper : (edition : Edition) (n : ℕ) →
      TileDeeper edition l.self.bytes.now (TileIn l.comments edition l.self.bytes.now) n l.start →
      TextDeeper edition l.self.bytes.now (TileIn l.comments edition l.self.bytes.now) n l.ptr;
  shallow : (edition : Edition) (n : ℕ) →
      TextDeeper edition l.self.bytes.now (TileIn l.comments edition l.self.bytes.now) n l.ptr →
      TileDeeper edition l.self.bytes.now (TileIn l.comments edition l.self.bytes.now) n l.start;
  blank : BlankBlock l.self.bytes.now l.ptr (length l.self.bytes.now) → l.start ≡ length l.self.bytes.now;
}

abbrev pub decreases-loop-comments : goal.decreases-loop-comments
decreases-loop-comments l = length l.self.bytes.now - l.start
