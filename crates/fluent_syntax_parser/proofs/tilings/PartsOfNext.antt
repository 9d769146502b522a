-- The texts of the entry that is read next are parts of the source.
use Rattle.std.proofs.Common.{ℕ, ◌≤◌, List, length, Option, Some, None}
use Rattle.std.specs.Prelude.{IfOk, IfSome, Result, Ok, Err}
use Rattle.std.specs.Str.{IsUtf8}
use Rattle.std.proofs.Math.Bridge.{le_prop}
use Rattle.std.proofs.Math.Logic.{∥∥₁_elim}
use Rattle.fluent_syntax_tree.specs.Entry.{EntryTree}
use Rattle.fluent_syntax_tree.specs.Every.{entry_every}
use Rattle.fluent_syntax_tree.specs.Spans.{IsTextRange}
use Rattle.fluent_syntax_tree.specs.declared.ast.Entry.{Entry}
use Rattle.fluent_syntax_tree.specs.declared.edition.Edition.{Edition}
use Rattle.fluent_syntax_tree.specs.declared.errors.ParserError.{ParserError}
use Rattle.fluent_syntax_tree.specs.declared.spans.Span.{Span}
use Rattle.fluent_syntax_tree.proofs.EveryProps.{entry_every-prop}
use Rattle.fluent_syntax_grammar.specs.Tiling.{Fault}
use Rattle.fluent_syntax_parser.specs.Rest.{EntryTo, NextTo, ReadSoFar, faults_of, tree_of}
use Rattle.fluent_syntax_parser.proofs.tilings.PartsOfEntries.{entry_of_rest_has_parts_in_text}
use Rattle.fluent_syntax_parser.proofs.tilings.PartsOfEntries.{rest_of_text_has_entries}
use Rattle.fluent_syntax_parser.proofs.tilings.Rests.{entry_at_leads_to_its_end}
use Rattle.fluent_syntax_parser.specs.declared.options.Comments.{Comments}

module _ (t : List ℕ) where
  IsTextRange-prop : (span : Span) → IsProp (IsTextRange t span)
  IsTextRange-prop span = hlevel le_prop

  module _ (comments : Comments) (edition : Edition) (utf8 : IsUtf8 t) where
    -- the texts of an entry that comes after what was reached
    entry_read_so_far_has_parts_in_text : (i j : ℕ) (e : EntryTree Span) (faults : List (Option Fault)) → j ≤ length t →
        ∥ ReadSoFar comments edition t i ∥₁ → EntryTo comments edition t i j e faults → entry_every (IsTextRange t) e
    entry_read_so_far_has_parts_in_text i j e faults inside reached there =
        let left = rest_of_text_has_entries t edition comments j inside in
        ∥∥₁_elim reached (entry_every-prop (IsTextRange t) IsTextRange-prop e)
        (λ r. entry_of_rest_has_parts_in_text t edition comments r.entries e left.0 _ utf8
        (r.rest _ _ (there _ _ left.2)))

    -- the texts of what is read next, where something is
    pub next_entry_has_parts_in_text : {E : Type 0} (i start j : ℕ)
        (result : Result (Option (Entry Span × Option ParserError)) E) →
        j ≤ length t → ∥ ReadSoFar comments edition t i ∥₁ → IfOk result (NextTo comments edition t i start j) →
        IfOk result (λ found. IfSome found (λ read. entry_every (IsTextRange t) (tree_of read.0)))
    next_entry_has_parts_in_text i start j (Ok None) inside reached next = tt
    next_entry_has_parts_in_text i start j (Ok (Some read)) inside reached next =
        entry_read_so_far_has_parts_in_text i j (tree_of read.0) (faults_of read.1) inside reached
        (entry_at_leads_to_its_end comments edition t i start j (tree_of read.0) (faults_of read.1) next)
    next_entry_has_parts_in_text i start j (Err e) inside reached next = tt
