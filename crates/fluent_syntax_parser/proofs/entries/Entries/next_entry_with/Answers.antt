use Rattle.std.proofs.Common.{◌∷◌, ◌++◌, [], Some, ap, arith, length, sym, ◌∙◌}
use Rattle.std.specs.Prelude.{option_to_list}
use Rattle.fluent_syntax_parser.proofs.tilings.ErrorPlaces.{error_of_entry_read_so_far_is_in_text}
use Rattle.fluent_syntax_parser.proofs.entry_forms.MadeEntries.{equal_somes_have_equal_values}
use Rattle.fluent_syntax_parser.proofs.tilings.Rests.{entry_at_leads_to_its_end}
use Rattle.fluent_syntax_parser.proofs.entries.Entries.next_entry_with.Goals as goal

pub returns-in_default-only_item : goal.returns-in_default-only_item
returns-in_default-only_item g c =
    let put = rw c.in-Some.is at c.in_ok-_span.ensures.next in
    let some =
    sym c.in_default-only_item.is
    ∙ c.only_item.ensures (Some put.entry)
    (put.added ∙ ap (λ xs. xs ++ put.entry ∷ []) c.new-body.ensures.items) in
    cc

pub returns-clause-next : goal.returns-clause-next
returns-clause-next g c =
    let put = rw (c.in-Some.is) at c.in_ok-_span.ensures.next in
    let in_place = rw c.in-Some.is at c.in_ok-_span.ensures.in_place in
    let same =
    sym c.in-Some-only_item.is
    ∙ c.only_item.ensures (Some put.entry)
    (put.added ∙ ap (λ xs. xs ++ put.entry ∷ []) c.new-body.ensures.items) in
    let stated =
    c.only_item-2.ensures put.error
    (put.errors_are ∙ ap (λ xs. xs ++ option_to_list put.error) c.new-errors.ensures.items) in
    rw (equal_somes_have_equal_values c.in-Some-only_item.entry put.entry same, stated)
    (put.tree, rw in_place at put.in_place, put.same)

pub returns-clause-places : goal.returns-clause-places
returns-clause-places g c =
    let t = c.args.self.now.source.bytes.now in
    let options = c.args.self.now.options in
    let put = rw c.in-Some.is at c.in_ok-_span.ensures.next in
    let in_place = rw c.in-Some.is at c.in_ok-_span.ensures.in_place in
    let source = ap (λ source. length source.bytes.now) c.in_ok-_span.ensures.reads.text in
    let stated =
    c.only_item-2.ensures put.error
    (put.errors_are ∙ ap (λ xs. xs ++ option_to_list put.error) c.new-errors.ensures.items) in
    let there =
    entry_at_leads_to_its_end options.comments options.edition t _ _ _ put.tree _ (rw in_place at put.in_place) in
    rw stated
    (error_of_entry_read_so_far_is_in_text t options.comments options.edition _ _ put.tree put.error
    (omega (arith, source, c.add_next_entry.new.self.within)) c.args.self.now.reached there)
