-- To which messages entries refer, and where that leads.
use Rattle.std.specs.Prelude.{ℕ, zero, suc, List, [], ◌∷◌, ◌++◌, map, filter, Option, Some, None, option_map}
use Rattle.std.specs.Str.{bytes_eq}
use Rattle.fluent_syntax_tree.specs.declared.spans.Span.{Span}
use Rattle.fluent_syntax_names.specs.declared.mention.Mention.{Mention}
use Rattle.fluent_syntax_names.specs.declared.mention.Mention.TheVariants as says
use Rattle.fluent_syntax_names.specs.declared.name_index.NameIndex.{NameIndex}
use Rattle.fluent_syntax_names.specs.declared.qualified_names.EntryName.{EntryName}
use Rattle.fluent_syntax_names.specs.Cycles.{Link}
use Rattle.fluent_syntax_names.specs.Findings.{owner_after}
use Rattle.fluent_syntax_names.specs.Mentions.{Mentions}
use Rattle.fluent_syntax_names.specs.QualifiedNames.{Text, message_name, nameless, qualified_name}

-- ---- References to messages

-- the entry refers to the message, by any of its patterns
abbrev pub reference_to : Text → EntryName → Span → Link
reference_to text owner message =
    record { from = qualified_name text owner; to = qualified_name text (message_name message) }

-- the reference that the mention makes in the entry, before others. A reference to an attribute is one to its message.
-- Terms get no variables of the program, so a reference to a term leads nowhere.
abbrev pub refers : Text → EntryName → Mention Span → List Link → List Link
refers text owner (says.MessageReference x a) tail = reference_to text owner x ∷ tail
refers text owner _ tail = tail

-- the references of a file to messages, in the order of its text, before others
abbrev pub references_in : Text → EntryName → Mentions Span → List Link → List Link
references_in text owner [] tail = tail
references_in text owner (m ∷ ms) tail = refers text owner m (references_in text (owner_after owner m) ms tail)

abbrev pub references_of : NameIndex → List Link
references_of file = references_in file.text.now nameless file.mentions.items []

-- the messages that the entry of that name refers to, in order, each as often as it does
abbrev pub messages_of : List Link → Text → List Text
messages_of all name = map (λ link. link.to) (filter (λ link. bytes_eq name link.from) all)

-- ---- Where they lead

-- these messages, then those that they refer to, and so on, each as often as it is referred to; there is no such list
-- where it would have more than `room`
abbrev pub reachable_within : (Text → List Text) → (room : ℕ) → (messages : List Text) → Option (List Text)
reachable_within targets zero [] = Some []
reachable_within targets zero (x ∷ xs) = None
reachable_within targets (suc room) [] = Some []
reachable_within targets (suc room) (x ∷ xs) =
    option_map (λ ys. x ∷ ys) (reachable_within targets room (xs ++ targets x))

-- so many are followed
abbrev pub followed_limit : ℕ
followed_limit = 100

-- the messages that the entry leads to: those that it refers to, then those that these do, and so on
abbrev pub reachable_by : (Text → List Text) → Text → Option (List Text)
reachable_by targets name = reachable_within targets followed_limit (targets name)

abbrev pub reachable_messages : List Link → Text → Option (List Text)
reachable_messages all name = reachable_by (messages_of all) name
