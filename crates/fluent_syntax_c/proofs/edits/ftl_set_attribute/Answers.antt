use Rattle.fluent_syntax_c.proofs.PartsRead.{edit_is_given}
use Rattle.fluent_syntax_c.proofs.edits.ftl_set_attribute.Goals as goal

pub returns : goal.returns
returns c = record {
  gives =
      edit_is_given c.args.edition c.args.nesting _ _ _ _ c.edited_bytes-made.result _ _ _ _
      c.edited_bytes-made.ensures.edited c.edited_bytes-made.ensures.not_edited
      c.edited_bytes-made.ensures.argument c.edited_bytes-made.ensures.input c.edited_bytes-made.ensures.deep
      c.edited_bytes-made.ensures.deeper c.edited_bytes-made.ensures.shallow c.edited_bytes-made.ensures.tree
      c.give_edited.ensures.leaves c.give_edited.ensures.refused c.give_edited.ensures.not_edited;
}
