-- What `Format` answers for texts that it answered.
use Rattle.std.proofs.Common.{◌≡◌, List, [], ◌∷◌, false, refl, sym, ap, ◌∙◌, subst}
use Rattle.fluent_syntax_tree.specs.Entry.{message, term, comment, junk, BodyTree}
use Rattle.fluent_syntax_tree.specs.declared.edition.Edition.TheVariants.{One}
use Rattle.fluent_syntax_grammar.specs.Body.{faults}
use Rattle.fluent_syntax_grammar.specs.Bytes.{hyphen}
use Rattle.fluent_syntax_grammar.specs.Joined.{joined_body}
use Rattle.fluent_syntax_grammar.specs.RoundTrip.{ReadsAs, tree_of}
use Rattle.fluent_syntax_grammar.specs.Tiling.{Fault}
use Rattle.fluent_syntax_grammar.specs.Written.{Text, written}
use Rattle.fluent_syntax_grammar.proofs.OneTiling.{tilings_of_text_are_same}
use Rattle.fluent_syntax_grammar.proofs.marks.Again.{text_is_written_again}
use Rattle.ftl.specs.Answer.{IsAnswer, outcome_with}
use Rattle.ftl.specs.Formatted.{names, FormatsAgain}
use Rattle.ftl.specs.declared.command.Command.TheVariants.{Format}
use Rattle.ftl.specs.declared.outcome.Outcome.{Outcome}
use Rattle.ftl.specs.declared.outcome.Outcome.TheVariants.{Clean}

joining_keeps_names : (tree : BodyTree Text) → names (joined_body tree) ≡ names tree
joining_keeps_names [] = refl
joining_keeps_names (message m ∷ es) = ap (λ l. m.id ∷ l) (joining_keeps_names es)
joining_keeps_names (term m ∷ es) = ap (λ l. (hyphen ∷ m.id) ∷ l) (joining_keeps_names es)
joining_keeps_names (comment level content ∷ es) = joining_keeps_names es
joining_keeps_names (junk content ∷ es) = joining_keeps_names es

clean_outcome_has_no_faults : (fs : List Fault) → outcome_with fs ≡ Clean → fs ≡ []
clean_outcome_has_no_faults [] h = refl
clean_outcome_has_no_faults (f ∷ fs) h = absurd cc

-- of a text that reads as the tree
module _ (t : Text) (tree : BodyTree Text) (reads : ReadsAs One t tree) (text : Text) (outcome : Outcome)
    (answer : IsAnswer Format t text outcome) where
  answer_has_tiles_of_reading : answer.tiles ≡ reads.tiles
  answer_has_tiles_of_reading = tilings_of_text_are_same One t answer.tiles reads.tiles answer.has_tiles reads.tiling

  answer_is_clean : outcome ≡ Clean
  answer_is_clean = answer.outcome_is ∙ ap outcome_with (ap faults answer_has_tiles_of_reading ∙ reads.no_faults)

  answer_has_tree_of_reading : tree_of t answer.tiles ≡ tree
  answer_has_tree_of_reading = ap (tree_of t) answer_has_tiles_of_reading ∙ reads.same

  answer_is_written_tree : text ≡ written false tree
  answer_is_written_tree = answer.text_is ∙ ap (written false) answer_has_tree_of_reading

pub formatting_is_idempotent : (t : Text) → FormatsAgain t
formatting_is_idempotent t formatted again outcome next first second canonical =
    let tree = tree_of t first.tiles in
    let whole = joined_body tree in
    let law = text_is_written_again t first.tiles first.has_tiles canonical in
    let reads : ReadsAs One formatted whole =
    subst (λ x. ReadsAs One x whole) (sym first.text_is) law.0 in
    let is_written : again ≡ written false whole = answer_is_written_tree formatted whole reads again next second in
    let reads_again : ReadsAs One again whole =
    subst (λ x. ReadsAs One x whole) (sym is_written) law.1 in
    let reads_as = answer_has_tree_of_reading formatted whole reads again next second in
    record {
      is_clean = answer_is_clean formatted whole reads again next second;
      reads_as = reads_as;
      same_names = ap names reads_as ∙ joining_keeps_names tree;
      is_written = is_written;
      is_same = λ clean.
          is_written ∙ (law.2 (clean_outcome_has_no_faults (faults first.tiles) (sym first.outcome_is ∙ clean))
          ∙ sym first.text_is);
      is_settled = λ third last answer. (
        answer_is_clean again whole reads_again third last answer,
        answer_is_written_tree again whole reads_again third last answer ∙ sym is_written,
      );
    }
