use Rattle.fluent_syntax_c.specs.SeveralEdits.{AreEdited, AreNotEdited}
use Rattle.fluent_syntax_c.specs.declared.status.Refusal.TheVariants.{Argument, Depth, Input}
use Rattle.fluent_syntax_c.proofs.Statuses.{iff_is_transitive, new_text_is_left, unmade_edit_has_reason}
use Rattle.fluent_syntax_c.proofs.several_edits.ftl_edit_all.Goals as goal

pub returns : goal.returns
returns c =
    let made = c.all_edited_bytes-made in
    let given = c.give_edited.ensures in
    let t = c.args.input.now in
    let es = c.args.edits.now in
    record {
      gives = record {
        leaves =
            new_text_is_left (AreEdited c.args.edition t es) made.result _ _ _ _ made.ensures.edited given.leaves;
        argument = iff_is_transitive (given.refused Argument) made.ensures.argument;
        input = λ known has. iff_is_transitive (given.refused Input) (made.ensures.input known has);
        deeper = λ stated. made.ensures.deeper ((given.refused Depth).0 stated);
        not_edited = λ why is.
            unmade_edit_has_reason (AreNotEdited c.args.edition t es) made.result why (given.not_edited why is)
            made.ensures.not_edited;
      };
    }
