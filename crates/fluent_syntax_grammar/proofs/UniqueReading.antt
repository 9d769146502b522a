-- The laws of unique reading hold.
use Rattle.std.proofs.Common.{ℕ, List, [], ◌∷◌, ap, sym, ◌∙◌, arith}
use Rattle.fluent_syntax_tree.specs.Every.{list_every}
use Rattle.fluent_syntax_grammar.specs.Grammar.{family}
use Rattle.fluent_syntax_grammar.specs.Tiling.{Tile, entry, refused, dropped, OneTiling, OneRuntimeTiling}
use Rattle.fluent_syntax_grammar.specs.Body.{faults}
use Rattle.fluent_syntax_grammar.specs.UniqueReading.{IsUnambiguous, FaultMeans, KindsMean, RuntimeKindsMean}
use Rattle.fluent_syntax_grammar.specs.UniqueReading.{HasNoComments, SameMessagesAndTerms, NoNewErrors}
use Rattle.fluent_syntax_grammar.specs.UniqueReading.{SameWithoutComments, messages_and_terms}
use Rattle.fluent_syntax_tree.specs.declared.edition.Edition.{Edition}
use Rattle.fluent_syntax_grammar.proofs.FunctionalWords.{token_is_functional, inline_blank_is_functional}
use Rattle.fluent_syntax_grammar.proofs.FunctionalWords.{blank_is_functional}
use Rattle.fluent_syntax_grammar.proofs.FunctionalWords.{blank_block_is_functional, optional_eol_is_functional}
use Rattle.fluent_syntax_grammar.proofs.FunctionalWords.{rest_of_line_is_functional, identifier_is_functional}
use Rattle.fluent_syntax_grammar.proofs.FunctionalWords.{number_is_functional, string_is_functional}
use Rattle.fluent_syntax_grammar.proofs.FunctionalRules as rules
use Rattle.fluent_syntax_grammar.proofs.FunctionalEntries.{pattern_is_functional, attribute_is_functional}
use Rattle.fluent_syntax_grammar.proofs.FunctionalEntries.{attributes_are_functional, message_is_functional}
use Rattle.fluent_syntax_grammar.proofs.FunctionalEntries.{term_is_functional}
use Rattle.fluent_syntax_grammar.proofs.FunctionalEntries.{comment_line_is_functional, comment_lines_are_functional}
use Rattle.fluent_syntax_grammar.proofs.FunctionalEntries.{comment_is_functional, entry_is_functional}
use Rattle.fluent_syntax_grammar.proofs.Nesting.{family_is_functional}
use Rattle.fluent_syntax_grammar.proofs.OneTiling as tilings
use Rattle.fluent_syntax_grammar.proofs.SoundStrings.{InText}
use Rattle.fluent_syntax_grammar.proofs.SoundTiling.{IsTileWellFormed, tiles_are_well_formed}
use Rattle.fluent_syntax_grammar.proofs.SoundTiling.{runtime_tiles_are_well_formed}
use Rattle.fluent_syntax_grammar.proofs.Boundaries.{places_in_text_are_boundaries}
use Rattle.fluent_syntax_grammar.proofs.Aligned.{aligned}
use Rattle.fluent_syntax_grammar.proofs.Runtime.{body_without_comments_is_of_bare_tiles}
use Rattle.fluent_syntax_grammar.proofs.Runtime.{body_of_bare_tiles_is_bare_tiles, aligned_keep_names}
use Rattle.fluent_syntax_grammar.proofs.Runtime.{aligned_is_faultless, aligned_is_equally_bare}
use Rattle.fluent_syntax_grammar.proofs.BareEntries.{runtime_tiles_are_bare}

module _ (edition : Edition) (t : List ℕ) where
  pub grammar_is_unambiguous : IsUnambiguous edition t
  grammar_is_unambiguous =
      let R = family edition t in
      let h = family_is_functional edition t in
      record {
        token = token_is_functional t;
        inline_blank = inline_blank_is_functional t;
        blank = blank_is_functional t;
        blank_block = blank_block_is_functional t;
        line_end = optional_eol_is_functional t;
        rest_of_line = rest_of_line_is_functional t;
        identifier = identifier_is_functional t;
        number = number_is_functional t;
        string_literal = string_is_functional t;
        inline_expression = rules.inline_is_functional t R h;
        attribute_accessor = rules.accessor_is_functional t;
        call_arguments = rules.call_is_functional t R h;
        more_arguments = rules.arguments_are_functional t R h;
        expression = rules.expression_is_functional edition t R h;
        placeable = rules.placeable_is_functional t R h;
        variant_key = rules.key_is_functional t;
        variant_list = rules.variants_are_functional edition t R h _;
        more_variants = rules.variants_are_functional edition t R h;
        pieces = rules.pieces_are_functional t R h;
        line_ending = rules.ending_is_functional t;
        line = rules.line_is_functional t R h;
        lines = rules.lines_are_functional t R h;
        layout = rules.layout_is_functional t R h;
        pattern = pattern_is_functional edition t;
        attribute = attribute_is_functional edition t;
        attributes = attributes_are_functional edition t;
        message = message_is_functional edition t;
        term = term_is_functional edition t;
        comment_line = comment_line_is_functional t;
        comment_lines = comment_lines_are_functional t;
        comment = comment_is_functional t;
        entry = entry_is_functional edition t;
        dropped_line = tilings.whole_line_is_functional t;
      }

  pub text_has_one_tiling : OneTiling edition t
  text_has_one_tiling = tilings.tilings_of_text_are_same edition t

  pub one_runtime_tiling : OneRuntimeTiling edition t
  one_runtime_tiling = tilings.runtime_tilings_of_text_are_equal edition t

  faults_of_tiles_mean_their_kinds : (tiles : List Tile) →
      list_every (IsTileWellFormed edition t (InText t) (places_in_text_are_boundaries t)) tiles →
      list_every (FaultMeans t) (faults tiles)
  faults_of_tiles_mean_their_kinds [] g = tt
  faults_of_tiles_mean_their_kinds (entry s e ∷ tiles) (g, h) = faults_of_tiles_mean_their_kinds tiles h
  faults_of_tiles_mean_their_kinds (refused f ∷ tiles) (g, h) = (g.4, faults_of_tiles_mean_their_kinds tiles h)
  faults_of_tiles_mean_their_kinds (dropped ∷ tiles) (g, h) = faults_of_tiles_mean_their_kinds tiles h

  pub kinds_mean_their_constructs : KindsMean edition t
  kinds_mean_their_constructs = λ tiles a. faults_of_tiles_mean_their_kinds tiles
      (tiles_are_well_formed edition t (InText t) (places_in_text_are_boundaries t) 0 tiles (omega arith) a)

  pub runtime_kinds_mean : RuntimeKindsMean edition t
  runtime_kinds_mean =
      λ tiles a. faults_of_tiles_mean_their_kinds tiles
      (runtime_tiles_are_well_formed edition t (InText t) (places_in_text_are_boundaries t) 0 tiles (omega arith) a)

  pub has_no_comments : HasNoComments edition t
  has_no_comments = λ tiles a. body_of_bare_tiles_is_bare_tiles tiles (runtime_tiles_are_bare edition t 0 tiles a)
      ∙ sym (body_without_comments_is_of_bare_tiles tiles)

  pub same_messages_and_terms : SameMessagesAndTerms edition t
  same_messages_and_terms = λ xs ys a b.
      ap messages_and_terms (body_of_bare_tiles_is_bare_tiles ys (runtime_tiles_are_bare edition t 0 ys b))
      ∙ (aligned_keep_names xs ys (aligned edition t xs ys a b) ∙
      sym (ap messages_and_terms (body_without_comments_is_of_bare_tiles xs)))

  pub no_new_errors : NoNewErrors edition t
  no_new_errors = λ xs ys a b e. aligned_is_faultless xs ys (aligned edition t xs ys a b) e

  pub same_without_comments : SameWithoutComments edition t
  same_without_comments = λ xs ys a b e.
      body_of_bare_tiles_is_bare_tiles ys (runtime_tiles_are_bare edition t 0 ys b)
      ∙ (aligned_is_equally_bare xs ys (aligned edition t xs ys a b) e ∙
      sym (body_without_comments_is_of_bare_tiles xs))
