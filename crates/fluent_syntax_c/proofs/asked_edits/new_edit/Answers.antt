use Rattle.std.proofs.Common.{refl}
use Rattle.fluent_syntax_c.proofs.PartChanges.{edit_of_attribute_is_spelled, edit_of_insertion_is_spelled}
use Rattle.fluent_syntax_c.proofs.PartChanges.{edit_of_replacement_is_spelled, edit_of_value_is_spelled}
use Rattle.fluent_syntax_c.proofs.PartsRead.{IfNone-none, part_that_is_no_entry_spells_no_insertion}
use Rattle.fluent_syntax_c.proofs.PartsRead.{part_that_is_no_entry_spells_no_replacement}
use Rattle.fluent_syntax_c.proofs.PartsRead.{part_that_is_no_value_spells_no_attribute}
use Rattle.fluent_syntax_c.proofs.PartsRead.{part_that_is_no_value_spells_no_change}
use Rattle.fluent_syntax_c.proofs.asked_edits.new_edit.Goals as goal

pub returns-in_err-one_value-in-SetValue-clause-none : goal.returns-in_err-one_value-in-SetValue-clause-none
returns-in_err-one_value-in-SetValue-clause-none c = λ edition p is.
    IfNone-none c.from_residual.result c.from_residual.ensures
    (part_that_is_no_value_spells_no_change c.args.action edition p c.args.part.now is c.in-SetValue.is
    c.in_err-one_value-in-SetValue.ensures.none)

pub returns-in_err-one_value-in-SetAttribute-clause-none : goal.returns-in_err-one_value-in-SetAttribute-clause-none
returns-in_err-one_value-in-SetAttribute-clause-none c = λ edition p is.
    IfNone-none c.from_residual-in_err-one_value-in-SetAttribute.result
    c.from_residual-in_err-one_value-in-SetAttribute.ensures
    (part_that_is_no_value_spells_no_attribute c.args.action edition p c.args.part.now is _ c.in-SetAttribute.is
    c.in_err-one_value-in-SetAttribute.ensures.none)

pub returns-in_err-one_entry-in-Replace-clause-none : goal.returns-in_err-one_entry-in-Replace-clause-none
returns-in_err-one_entry-in-Replace-clause-none c = λ edition p is.
    IfNone-none c.from_residual-in_err-one_entry-in-Replace.result
    c.from_residual-in_err-one_entry-in-Replace.ensures
    (part_that_is_no_entry_spells_no_replacement c.args.action edition p c.args.part.now is c.in-Replace.is
    c.in_err-one_entry-in-Replace.ensures.none)

pub returns-in_err-one_entry-in-Insert-clause-none : goal.returns-in_err-one_entry-in-Insert-clause-none
returns-in_err-one_entry-in-Insert-clause-none c = λ edition p is.
    IfNone-none c.from_residual-in_err-one_entry-in-Insert.result c.from_residual-in_err-one_entry-in-Insert.ensures
    (part_that_is_no_entry_spells_no_insertion c.args.action edition p c.args.part.now is c.in-Insert.is
    c.in_err-one_entry-in-Insert.ensures.none)

pub returns-in_ok-one_value-in-SetValue-clause-some : goal.returns-in_ok-one_value-in-SetValue-clause-some
returns-in_ok-one_value-in-SetValue-clause-some c = λ edition p is.
    edit_of_value_is_spelled c.args.action edition p c.args.part.now is c.args.index _ c.set_value.result
    c.in-SetValue.is _ c.in_ok-one_value-in-SetValue.ensures.some _ c.set_value.ensures (refl, refl)

pub returns-in_ok-one_value-in-SetAttribute-clause-some : goal.returns-in_ok-one_value-in-SetAttribute-clause-some
returns-in_ok-one_value-in-SetAttribute-clause-some c = λ edition p is.
    edit_of_attribute_is_spelled c.args.action edition p c.args.part.now is c.args.index _ c.set_attribute.result _
    c.in-SetAttribute.is _ c.attribute_number-number.ensures _ c.in_ok-one_value-in-SetAttribute.ensures.some
    c.set_attribute.ensures

pub returns-in_ok-one_entry-in-Replace-clause-some : goal.returns-in_ok-one_entry-in-Replace-clause-some
returns-in_ok-one_entry-in-Replace-clause-some c = λ edition p is.
    edit_of_replacement_is_spelled c.args.action edition p c.args.part.now is c.args.index _ c.replace.result
    c.in-Replace.is _ c.in_ok-one_entry-in-Replace.ensures.some c.replace.ensures

pub returns-in_ok-one_entry-in-Insert-clause-some : goal.returns-in_ok-one_entry-in-Insert-clause-some
returns-in_ok-one_entry-in-Insert-clause-some c = λ edition p is.
    edit_of_insertion_is_spelled c.args.action edition p c.args.part.now is c.args.index _ c.insert.result
    c.in-Insert.is _ c.in_ok-one_entry-in-Insert.ensures.some c.insert.ensures
