use Rattle.std.proofs.Common.{◌≡◌, ◌<◌, List, Some, Vec, ℕ, length, get_or, sym, ap, ◌∙◌, subst}
use Rattle.std.specs.declared.alloc.Global.{Global}
use Rattle.fluent_syntax_names.specs.NamedLists.{numbers_of}
use Rattle.fluent_syntax_names.specs.Rows.{row_at, rows_of, texts_of}
use Rattle.fluent_syntax_names.proofs.MessageReferences.{row_is_its_texts}
use Rattle.fluent_syntax_names.proofs.message_references.MessageReferences.targets_of.Goals as goal

pub returns-in-Some-get : goal.returns-in-Some-get
returns-in-Some-get c =
    let names = c.args.self.now.targets in
    let u = c.in-Some.number in
    let row = c.in-Some-get.targets.now in
    let lookup = c.in-Some-get.ensures.lookup in
    let read =
    subst (λ (l : List (Vec (Vec ℕ Global) Global)). (u < length l) × (row ≡ get_or l u row)) c.deref.ensures.value
    (lookup.3.0, lookup.1) in
    let number : numbers_of names c.args.name.now ≡ Some u = sym c.place_of.ensures ∙ c.in-Some.is in
    ap texts_of c.deref-in-Some-get.ensures.value
    ∙ sym (row_is_its_texts names u row read.0 read.1)
    ∙ sym (ap (row_at (rows_of names)) number)
