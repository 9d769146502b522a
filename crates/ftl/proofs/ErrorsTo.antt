-- Errors that are gathered entry by entry.
use Rattle.std.proofs.Common.{ℕ, List, [], ◌∷◌, ◌++◌, map, Option, Some, None, sym, ◌∙◌}
use Rattle.std.proofs.lemmas.List.{append-nil, append_assoc, map-append}
use Rattle.std.proofs.lemmas.List.Elements.{All-push}
use Rattle.std.specs.Prelude.{All, IfSome}
use Rattle.fluent_syntax_tree.specs.Entry.{BodyTree, EntryTree}
use Rattle.fluent_syntax_tree.specs.declared.edition.Edition.{Edition}
use Rattle.fluent_syntax_tree.specs.declared.errors.ParserError.{ParserError}
use Rattle.fluent_syntax_tree.specs.declared.spans.Span.{Span}
use Rattle.fluent_syntax_grammar.specs.Tiling.{Fault}
use Rattle.fluent_syntax_parser.specs.Faults.{fault_of}
use Rattle.fluent_syntax_parser.specs.Rest.{EntryTo, Rest, faults_of}
use Rattle.fluent_syntax_parser.specs.declared.options.Comments.TheVariants.{Kept}
use Rattle.ftl.specs.Errors.{HasErrors, with_error}

module _ (edition : Edition) (t : List ℕ) where
  -- These are the errors of the text up to the place.
  pub record ErrorsTo (i : ℕ) (errors : List ParserError) : Type 0 where
    pub spans : BodyTree Span
    pub rest : (entries : BodyTree Span) (others : List (Option Fault)) → Rest Kept edition t i entries others →
        Rest Kept edition t 0 (spans ++ entries) (map fault_of errors ++ others)

  pub no_errors_are_before_start : ErrorsTo 0 []
  no_errors_are_before_start = record { spans = []; rest = λ entries others rest. rest }

  -- with nothing left, they are all errors
  pub errors_before_end_are_all : (i : ℕ) (errors : List ParserError) → ErrorsTo i errors →
      Rest Kept edition t i [] [] → HasErrors edition t errors
  errors_before_end_are_all i errors so_far none =
      let whole = so_far.rest [] [] none in
      (whole.tiles, whole.tiled, sym (whole.errors_are ∙ append-nil (map fault_of errors)))

  -- with the next one, if there is one, they are those up to where that entry ends
  pub errors_grow_by_those_of_entry : (i j : ℕ) (errors : List ParserError) (e : EntryTree Span)
      (error : Option ParserError) →
      ErrorsTo i errors → EntryTo Kept edition t i j e (faults_of error) → ErrorsTo j (with_error errors error)
  errors_grow_by_those_of_entry i j errors e None so_far next = record {
    spans = so_far.spans ++ e ∷ [];
    rest = λ entries others rest. rw (append_assoc so_far.spans (e ∷ []) entries)
        (so_far.rest _ _ (next entries others rest));
  }
  errors_grow_by_those_of_entry i j errors e (Some error) so_far next = record {
    spans = so_far.spans ++ e ∷ [];
    rest = λ entries others rest. rw (
      append_assoc so_far.spans (e ∷ []) entries,
      map-append fault_of errors (error ∷ []),
      append_assoc (map fault_of errors) (fault_of error ∷ []) others,
    )
        (so_far.rest _ _ (next entries others rest));
  }

-- what holds of all errors and of the next one, if there is one, holds of all with it
pub all_hold_with_one_more_error : (P : ParserError → Type 0) (errors : List ParserError) (error : Option ParserError) →
    All P errors → IfSome error P → All P (with_error errors error)
all_hold_with_one_more_error P errors None all next = all
all_hold_with_one_more_error P errors (Some error) all next = All-push P errors error all next
