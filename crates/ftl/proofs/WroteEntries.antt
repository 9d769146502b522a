-- What came of entries that came to a writer one by one.
use Rattle.std.proofs.Common.{◌≡◌, ◌∙◌, ◌&&◌, [], ◌∷◌, ◌++◌, Bool, String, Global, ap, sym}
use Rattle.fluent_syntax_tree.specs.Entry.{BodyTree, EntryTree}
use Rattle.fluent_syntax_tree.specs.declared.edition.Edition.{Edition}
use Rattle.fluent_syntax_grammar.specs.Rules.{Rules, body_obeys, entry_obeys}
use Rattle.fluent_syntax_grammar.specs.Written.{Text}
use Rattle.fluent_syntax_writer.proofs.rules.Sets.{and_is_associative, and_with_true_is_same}
use Rattle.fluent_syntax_json.specs.declared.writing.body_writer.BodyWriter.{BodyWriter}
use Rattle.ftl.specs.Formatting.{AddsJson, AddsNormal, HasJson, HasNormal}
use Rattle.ftl.specs.OneByOne.{WroteEntries, wrote_none, one_more}
use Rattle.ftl.specs.declared.writers.NormalWriter.{NormalWriter}

-- whether a tree and one more entry obey the rules
body_obeys-append : (rules : Rules) (tree : BodyTree Text) (e : EntryTree Text) →
    body_obeys rules (tree ++ e ∷ []) ≡ (body_obeys rules tree && entry_obeys rules e)
body_obeys-append rules [] e = and_with_true_is_same (entry_obeys rules e)
body_obeys-append rules (x ∷ tree) e =
    ap (λ b. entry_obeys rules x && b) (body_obeys-append rules tree e)
    ∙ sym (and_is_associative (entry_obeys rules x) (body_obeys rules tree) (entry_obeys rules e))

-- and whether this is known, if it is asked
pub asked_rules_hold_after : (asks : Bool) (rules : Rules) (tree : BodyTree Text) (e : EntryTree Text) (all : Bool) →
    all ≡ (asks && body_obeys rules tree) → (all && entry_obeys rules e)
    ≡ (asks && body_obeys rules (tree ++ e ∷ []))
asked_rules_hold_after asks rules tree e all is =
    ap (λ b. b && entry_obeys rules e) is ∙ and_is_associative asks (body_obeys rules tree) (entry_obeys rules e)
    ∙ ap (λ b. asks && b) (sym (body_obeys-append rules tree e))

pub written_entries_are_normal : {edition : Edition} {asks : Bool} {start now : NormalWriter} {tree : BodyTree Text}
    → WroteEntries AddsNormal start tree now
    → HasNormal edition asks [] start → HasNormal edition asks tree now
written_entries_are_normal wrote_none none = none
written_entries_are_normal (one_more wrote next) none = next.added (written_entries_are_normal wrote none)

pub written_entries_are_json : {start now : BodyWriter (String Global)} {tree : BodyTree Text}
    → WroteEntries AddsJson start tree now → HasJson [] start → HasJson tree now
written_entries_are_json wrote_none none = none
written_entries_are_json (one_more wrote next) none = next.added (written_entries_are_json wrote none)
