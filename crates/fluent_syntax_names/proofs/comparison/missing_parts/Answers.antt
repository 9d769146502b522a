use Rattle.std.proofs.Common.{[]}
use Rattle.fluent_syntax_names.specs.Findings.{defined_in}
use Rattle.fluent_syntax_names.specs.MessageReferences.{references_of, messages_of}
use Rattle.fluent_syntax_names.specs.QualifiedNames.{Text, nameless}
use Rattle.fluent_syntax_names.specs.MissingParts.{Other, used_in, other_of}
use Rattle.fluent_syntax_names.specs.FirstPlaces.{place_of}
use Rattle.fluent_syntax_names.specs.Rows.{reachable_of, row_of}
use Rattle.fluent_syntax_names.specs.Tables.{has_name}
use Rattle.fluent_syntax_names.proofs.ReachableWithin.{reachable_by_equal_lists}
use Rattle.fluent_syntax_names.proofs.Gathering.{noted_names_are_all}
use Rattle.fluent_syntax_names.proofs.MissingParts.{missing_parts_are_same_for_equal_tables}
use Rattle.fluent_syntax_names.proofs.ReachableMessages.{reachable_messages_decide_reach}
use Rattle.fluent_syntax_names.proofs.comparison.missing_parts.Goals as goal

pub returns-clause-missing_parts : goal.returns-clause-missing_parts
returns-clause-missing_parts c =
    let one = c.args.one.now in
    let other = c.args.other.now in
    let defined = place_of c.note_definitions.new.table.table in
    let used = place_of c.note_uses.new.table.table in
    let message_references = c.in_ok-message_references.message_references in
    let defines =
    noted_names_are_all (place_of c.new-defined.result.table) defined c.new-defined.ensures
    (defined_in other.text.now nameless other.mentions.items)
    (rw c.deref.ensures.value at c.in_ok-note_definitions.ensures) in
    let uses =
    noted_names_are_all (place_of c.new-used.result.table) used c.new-used.ensures
    (used_in other.text.now nameless other.mentions.items)
    (rw c.deref-2.ensures.value at c.in_ok-note_uses.ensures) in
    let adds_references = rw c.deref-3.ensures.value at c.in_ok-message_references.ensures in
    let reachable =
    λ (name : Text). reachable_by_equal_lists (row_of message_references)
    (messages_of (references_of other)) adds_references.has_messages name in
    let places = rw c.deref-4.ensures.value at c.in_ok-places.ensures in
    let own_places = rw c.deref-5.ensures.value at c.in_ok-own_places.ensures in
    let tables : Other = record {
      defines = has_name defined;
      uses = has_name used;
      reachable = reachable_of message_references;
      place = place_of c.in_ok-places.places.table;
      own_place = place_of c.in_ok-own_places.own_places.table;
    } in
    let same =
    missing_parts_are_same_for_equal_tables one.text.now tables
    (other_of one other) defines uses reachable places own_places nameless
    one.mentions.items [] in
    let finding_of = rw c.deref-6.ensures.value at c.missing_parts_by.ensures in
    rw (← same) finding_of

pub returns-clause-reachable : goal.returns-clause-reachable
returns-clause-reachable c = reachable_messages_decide_reach (references_of c.args.other.now)

pub returns-in_err-note_definitions-clause-reachable : goal.returns-in_err-note_definitions-clause-reachable
returns-in_err-note_definitions-clause-reachable c = reachable_messages_decide_reach (references_of c.args.other.now)

pub returns-in_err-note_uses-clause-reachable : goal.returns-in_err-note_uses-clause-reachable
returns-in_err-note_uses-clause-reachable c = reachable_messages_decide_reach (references_of c.args.other.now)

pub returns-in_err-message_references-clause-reachable : goal.returns-in_err-message_references-clause-reachable
returns-in_err-message_references-clause-reachable c = reachable_messages_decide_reach (references_of c.args.other.now)

pub returns-in_err-places-clause-reachable : goal.returns-in_err-places-clause-reachable
returns-in_err-places-clause-reachable c = reachable_messages_decide_reach (references_of c.args.other.now)

pub returns-in_err-own_places-clause-reachable : goal.returns-in_err-own_places-clause-reachable
returns-in_err-own_places-clause-reachable c = reachable_messages_decide_reach (references_of c.args.other.now)
