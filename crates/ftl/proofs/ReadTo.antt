-- Texts that are read entry by entry.
use Rattle.std.proofs.Common.{◌≡◌, ℕ, List, [], ◌∷◌, ◌++◌, map, Option, Some, None, refl, sym, ◌∙◌, ap}
use Rattle.std.proofs.lemmas.List.{append-nil, append_assoc, map-append}
use Rattle.fluent_syntax_tree.specs.Entry.{BodyTree, EntryTree, body_map, entry_map}
use Rattle.fluent_syntax_tree.specs.Spans.{bytes_at}
use Rattle.fluent_syntax_tree.specs.declared.edition.Edition.{Edition}
use Rattle.fluent_syntax_tree.specs.declared.errors.ParserError.{ParserError}
use Rattle.fluent_syntax_tree.specs.declared.spans.Span.{Span}
use Rattle.fluent_syntax_grammar.specs.Grammar.{family}
use Rattle.fluent_syntax_grammar.specs.Body.{body, faults}
use Rattle.fluent_syntax_grammar.specs.Tiling.{Fault, Tile, Tiled}
use Rattle.fluent_syntax_grammar.specs.Written.{Text}
use Rattle.fluent_syntax_parser.specs.Rest.{EntryTo, Rest, TileIn, faults_of}
use Rattle.fluent_syntax_parser.specs.declared.options.Comments.{Comments}
use Rattle.ftl.specs.Answer.{outcome_after, outcome_of, outcome_with}
use Rattle.ftl.specs.declared.outcome.Outcome.{Outcome}
use Rattle.ftl.specs.declared.outcome.Outcome.TheVariants.{Clean, SyntaxErrors}

-- the outcome where these errors were reported
abbrev errors_outcome : List (Option Fault) → Outcome
errors_outcome [] = Clean
errors_outcome (f ∷ fs) = SyntaxErrors

errors_outcome-faults : (fs : List Fault) → errors_outcome (map Some fs) ≡ outcome_with fs
errors_outcome-faults [] = refl
errors_outcome-faults (f ∷ fs) = refl

errors_outcome-last : (fs : List (Option Fault)) (error : Option ParserError)
    → outcome_after (errors_outcome fs) error ≡ errors_outcome (fs ++ faults_of error)
errors_outcome-last [] None = refl
errors_outcome-last [] (Some error) = refl
errors_outcome-last (f ∷ fs) None = refl
errors_outcome-last (f ∷ fs) (Some error) = refl

module _ (comments : Comments) (edition : Edition) (t : List ℕ) where
  -- The text was read up to the place, and these are its entries with their texts, and the outcome so far.
  pub record ReadTo (i : ℕ) (tree : BodyTree Text) (outcome : Outcome) : Type 0 where
    pub spans : BodyTree Span
    pub errors : List (Option Fault)
    pub tree_is : tree ≡ body_map (bytes_at t) spans
    pub outcome_is : outcome ≡ errors_outcome errors
    pub rest : (entries : BodyTree Span) (others : List (Option Fault)) → Rest comments edition t i entries others →
        Rest comments edition t 0 (spans ++ entries) (errors ++ others)

  pub nothing_is_read_before_start : ReadTo 0 [] Clean
  nothing_is_read_before_start = record {
    spans = [];
    errors = [];
    tree_is = refl;
    outcome_is = refl;
    rest = λ entries others rest. rest;
  }

  module _ (i : ℕ) (tree : BodyTree Text) (outcome : Outcome) (before : ReadTo i tree outcome) where
    -- with nothing left, this is the tree of the text
    pub all_is_read_before_end : Rest comments edition t i [] [] →
        (tiles : List Tile) × Tiled t (TileIn comments edition t (family edition t)) 0 tiles ×
        (tree ≡ body_map (bytes_at t) (body tiles)) × (outcome ≡ outcome_of tiles)
    all_is_read_before_end none =
        let whole = before.rest [] [] none in
        let gives = whole.yields ∙ append-nil before.spans in
        let errors_are = whole.errors_are ∙ append-nil before.errors in (
          whole.tiles,
          whole.tiled,
          before.tree_is ∙ ap (body_map (bytes_at t)) (sym gives),
          before.outcome_is ∙ ap errors_outcome (sym errors_are) ∙ errors_outcome-faults (faults whole.tiles),
        )

    -- with the next entry, the text is read up to where that ends
    pub reading_goes_on_by_entry : (j : ℕ) (e : EntryTree Span) (error : Option ParserError) →
        EntryTo comments edition t i j e (faults_of error) →
        ReadTo j (tree ++ entry_map (bytes_at t) e ∷ []) (outcome_after outcome error)
    reading_goes_on_by_entry j e error next = record {
      spans = before.spans ++ e ∷ [];
      errors = before.errors ++ faults_of error;
      tree_is = ap (λ es. es ++ entry_map (bytes_at t) e ∷ []) before.tree_is
          ∙ sym (map-append (entry_map (bytes_at t)) before.spans (e ∷ []));
      outcome_is = ap (λ o. outcome_after o error) before.outcome_is ∙ errors_outcome-last before.errors error;
      rest = λ entries others rest. rw (
        append_assoc before.spans (e ∷ []) entries,
        append_assoc before.errors (faults_of error) others,
      )
          (before.rest _ _ (next entries others rest));
    }
