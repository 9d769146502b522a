-- What an edit makes of a tree, and what it writes.
use Rattle.std.specs.Prelude.{ℕ, zero, suc, ◌+◌, ◌-◌, ◌==◌, ◌||◌, List, [], ◌∷◌, ◌++◌, drop, length, replicate}
use Rattle.std.specs.Prelude.{Option, Some, None, Bool, false, slice_get, string_bytes, if◌then◌else◌}
use Rattle.std.specs.List.{insert, remove}
use Rattle.fluent_syntax_tree.specs.Entry.{AttributeTree, BodyTree, EntryTree, message, term, comment, junk}
use Rattle.fluent_syntax_tree.specs.Tree.{PatternTree}
use Rattle.fluent_syntax_tree.specs.View.{entry_view, pattern_view}
use Rattle.fluent_syntax_tree.specs.declared.edition.Edition.{Edition}
use Rattle.fluent_syntax_grammar.specs.Bytes.{cr, lf, space}
use Rattle.fluent_syntax_grammar.specs.Joined.{joined_message, joined_term}
use Rattle.fluent_syntax_grammar.specs.Written.{Text, written}
use Rattle.fluent_syntax_writer.specs.Uncanonical.{broken_rule}
use Rattle.fluent_syntax_writer.specs.declared.canonical.rules.Rule.{Rule}
use Rattle.fluent_syntax_edits.specs.declared.edit.Edit.{Edit}
use Rattle.fluent_syntax_edits.specs.declared.edit.Edit.TheVariants as edit
use Rattle.fluent_syntax_edits.specs.declared.fault.EditFault.{EditFault}
use Rattle.fluent_syntax_edits.specs.declared.fault.EditFault.TheVariants.{NotCanonical, ReadsOtherwise}
use Rattle.fluent_syntax_edits.specs.declared.edited_ranges.ValueTarget.{ValueTarget}
use Rattle.fluent_syntax_edits.specs.declared.edited_ranges.ValueTarget.TheVariants.{Attribute, Value}

-- what is done at the entry of a number
pub data Change : Type 0 where
  -- that entry comes in its place, or before it
  replaces inserts : EntryTree Text → Change
  -- it goes
  removes : Change
  -- that pattern comes in the place of its value, or of that of an attribute
  sets : ValueTarget → PatternTree Text → Change

-- what an edit asks for
abbrev pub change_of : Edit → Change
change_of (edit.Replace e) = replaces (entry_view (λ s. string_bytes s) e)
change_of (edit.Insert e) = inserts (entry_view (λ s. string_bytes s) e)
change_of edit.Remove = removes
change_of (edit.Set target v) = sets target (pattern_view (λ s. string_bytes s) v)

-- ---- what is new

-- The entry with its patterns joined: so an LF that was read of a CRLF ends the text before it, as it will be read.
abbrev pub joined_part : EntryTree Text → EntryTree Text
joined_part (message m) = message (joined_message m)
joined_part (term m) = term (joined_term m)
joined_part (comment level content) = comment level content
joined_part (junk content) = junk content

-- ---- the tree

-- the n-th with f of it in its place
abbrev pub at_number : {X : Type 0} → (X → X) → ℕ → List X → List X
at_number f n [] = []
at_number f zero (x ∷ xs) = f x ∷ xs
at_number f (suc n) (x ∷ xs) = x ∷ at_number f n xs

-- the attributes with that pattern as the value of the n-th
abbrev pub with_attribute : ℕ → PatternTree Text → List (AttributeTree Text) → List (AttributeTree Text)
with_attribute n v attributes = at_number (λ a. record a { value = v }) n attributes

-- the entry with that pattern in the target, if it is a message or a term
abbrev pub with_target : ValueTarget → PatternTree Text → EntryTree Text → EntryTree Text
with_target Value v (message m) = message (record m { value = Some v })
with_target Value v (term m) = term (record m { value = v })
with_target (Attribute n) v (message m) = message (record m { attributes = with_attribute n v m.attributes })
with_target (Attribute n) v (term m) = term (record m { attributes = with_attribute n v m.attributes })
with_target target v e = e

-- the tree with the change made at the n-th entry
abbrev pub tree_after : Change → (n : ℕ) → BodyTree Text → BodyTree Text
tree_after (replaces e) n body = at_number (λ _. e) n body
tree_after (inserts e) n body = insert body n e
tree_after removes n body = remove body n
tree_after (sets target v) n body = at_number (with_target target v) n body

-- ---- the text

-- whether the byte is a space or of a line end
abbrev pub is_blank : ℕ → Bool
is_blank b = b == lf || b == space || b == cr

-- one, if the byte is an LF
abbrev pub line_ends_in : ℕ → ℕ
line_ends_in b = if b == lf then 1 else 0

-- at a blank byte the count and its line end, and 0 after any other byte
abbrev pub counted : Option ℕ → ℕ → ℕ
counted None count = 0
counted (Some b) count = if is_blank b then line_ends_in b + count else 0

-- how many line ends come directly before the place, with nothing but spaces and CRs between them
abbrev pub line_ends_before : List ℕ → ℕ → ℕ
line_ends_before t zero = 0
line_ends_before t (suc k) = counted (slice_get t k) (line_ends_before t k)

-- the text with as many blank lines after it as come before the place
abbrev pub with_blank_lines : List ℕ → (place : ℕ) → Text → Text
with_blank_lines t place text =
    text ++ replicate (line_ends_before t place - line_ends_before text (length text)) lf

-- the text that the serializer writes for an entry by itself
abbrev pub entry_text : EntryTree Text → Text
entry_text e = written false (e ∷ [])

-- a message whose only part is the target, with that pattern: an attribute is its first one
abbrev pub scratch_message : ValueTarget → PatternTree Text → EntryTree Text
scratch_message Value v = message (record { id = 97 ∷ []; value = Some v; attributes = []; comment = None })
scratch_message (Attribute n) v = message (record {
  id = 97 ∷ [];
  value = None;
  attributes = record { id = 97 ∷ []; value = v } ∷ [];
  comment = None;
})

-- how many bytes of that message come before the pattern: `a =`, or `a =`, a line end and `    .a =`
abbrev pub before_pattern : ValueTarget → ℕ
before_pattern Value = 3
before_pattern (Attribute n) = 12

-- what the serializer writes for the pattern after the `=`
abbrev pub pattern_text : ValueTarget → PatternTree Text → Text
pattern_text target v = drop (before_pattern target) (entry_text (scratch_message target v))

-- What comes in place of a stretch of the text that ends there. A new entry or pattern has as many blank lines after
-- it as the old one had.
abbrev pub replacement_text : Change → List ℕ → (end : ℕ) → Text
replacement_text (replaces e) t end = with_blank_lines t end (entry_text e)
replacement_text (inserts e) t end = entry_text e
replacement_text removes t end = []
replacement_text (sets target v) t end = with_blank_lines t end (pattern_text target v)

-- the same after so many line ends
abbrev pub after_line_ends : ℕ → Change → List ℕ → (end : ℕ) → Text
after_line_ends k change t end = replicate k lf ++ replacement_text change t end

-- With how many numbers of line ends, from 0 on, the new text is tried: an entry that is inserted may take one to end
-- the line before it, and one as a blank line after a comment.
abbrev pub attempts : Change → ℕ
attempts (replaces e) = 1
attempts (inserts e) = 3
attempts removes = 1
attempts (sets target v) = 1

-- ---- why the new text would be read otherwise

abbrev pub unless_broken : Option Rule → EditFault
unless_broken None = ReadsOtherwise
unless_broken (Some rule) = NotCanonical rule

-- the first rule of canonical trees that what is new breaks, if it breaks one
abbrev pub refusal : Edition → Change → EditFault
refusal edition (replaces e) = unless_broken (broken_rule edition e)
refusal edition (inserts e) = unless_broken (broken_rule edition e)
refusal edition removes = ReadsOtherwise
refusal edition (sets target v) = unless_broken (broken_rule edition (scratch_message target v))
