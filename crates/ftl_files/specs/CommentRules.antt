-- What the comments of entries say is not reported.
use Rattle.std.specs.Prelude.{◌≡◌, ◌⊎◌, All, ℕ, Bool, true, false, ◌==◌, ◌&&◌, ◌||◌, not, nat_le, nat_eq, max}
use Rattle.std.specs.Prelude.{List, [], ◌∷◌, ◌++◌, Option, None, Some, codes, drop, if◌then◌else◌, length, map}
use Rattle.std.specs.Prelude.{reverse, take}
use Rattle.std.specs.List.{filter_map, list_any, slice_split, starts_with}
use Rattle.fluent_syntax_names.specs.Mentions.{Mentions}
use Rattle.fluent_syntax_names.specs.MissingParts.{is_entry_part}
use Rattle.fluent_syntax_names.specs.declared.differences.Side.{Side}
use Rattle.fluent_syntax_names.specs.declared.differences.Side.TheVariants.{Other, Reference}
use Rattle.fluent_syntax_names.specs.declared.mention.Mention.{Mention}
use Rattle.fluent_syntax_names.specs.declared.mention.Mention.TheVariants as says
use Rattle.fluent_syntax_names.specs.declared.missing_part.MissingPart.{MissingPart}
use Rattle.fluent_syntax_names.specs.declared.name_index.NameIndex.{NameIndex}
use Rattle.fluent_syntax_tree.specs.declared.spans.Span.{Span}
use Rattle.ftl_files.specs.Kinds.{reported_name}
use Rattle.ftl_files.specs.Patterns.{is_empty, name_matches}
use Rattle.ftl_files.specs.declared.comment_rules.CommentedEntry.{CommentedEntry}
use Rattle.ftl_files.specs.declared.kinds.ReportedKind.{ReportedKind}

-- ---- a word

-- whether what follows a kind is nothing, or a `:` and a pattern of the name
abbrev pub rest_covers : (name rest : List ℕ) → Bool
rest_covers name [] = true
rest_covers name (byte ∷ pattern) = byte == 58 && not (is_empty pattern) && name_matches pattern name

-- whether the word leaves out what is of the kind and has the name, as a rule of `ignore` does
abbrev pub word_covers : ReportedKind → (name word : List ℕ) → Bool
word_covers kind name word =
    starts_with nat_eq word (reported_name kind) && rest_covers name (drop (length (reported_name kind)) word)

-- ---- the comment of an entry

-- whether what follows the `#` is nothing, or a space and a text; the line may end with CR LF
abbrev pub is_comment_rest : List ℕ → Bool
is_comment_rest [] = true
is_comment_rest (byte ∷ rest) = byte == 32 || (byte == 13 && is_empty rest)

abbrev pub is_comment_line : List ℕ → Bool
is_comment_line [] = false
is_comment_line (byte ∷ rest) = byte == 35 && is_comment_rest rest

abbrev pub mark : List ℕ
mark = codes "# ftl-ignore:"

-- a space, a comma, a CR
abbrev pub is_separator : ℕ → Bool
is_separator byte = byte == 32 || byte == 44 || byte == 13

-- the words after the mark, if the line begins with it
abbrev pub line_words : List ℕ → List (List ℕ)
line_words line = if starts_with nat_eq line mark then slice_split is_separator (drop (length mark) line) else []

-- those of the lines up to one that is no comment's
abbrev pub words_of : (lines : List (List ℕ)) → List (List ℕ)
words_of [] = []
words_of (line ∷ lines) = if is_comment_line line then line_words line ++ words_of lines else []

-- the lines of the text, the last one first
abbrev pub lines_upwards : (text : List ℕ) → List (List ℕ)
lines_upwards text = reverse (slice_split (λ byte. byte == 10) text)

-- the words of the comment above the entry whose name begins there
abbrev pub comment_words : (text : List ℕ) → (start : ℕ) → List (List ℕ)
comment_words text start = words_of (drop 1 (lines_upwards (take start text)))

-- ---- the entry of a place

-- where the name begins of the message or the term that the mention defines
abbrev pub definition_start : Mention Span → Option ℕ
definition_start (says.Message x v) = Some x.start
definition_start (says.Term x) = Some x.start
definition_start _ = None

abbrev pub definition_starts : Mentions Span → List ℕ
definition_starts ms = filter_map definition_start ms

-- 0 of one that is beyond the place
abbrev pub within : (place start : ℕ) → ℕ
within place start = if nat_le start place then start else 0

-- the greatest of them that is not beyond the place; 0 where there is none
abbrev pub latest : (place : ℕ) → List ℕ → ℕ
latest place [] = 0
latest place (start ∷ starts) = max (within place start) (latest place starts)

-- whether the comment of the entry that the place is in leaves out what is of the kind and has the name
abbrev pub is_left_out : NameIndex → Option Span → ReportedKind → (name : List ℕ) → Bool
is_left_out file None kind name = false
is_left_out file (Some place) kind name =
    list_any (word_covers kind name)
    (comment_words file.text.now (latest place.start (definition_starts file.mentions.items)))

-- whether a comment leaves out what is reported of the part, which the file of this side has: that of its entry in the
-- translation; of an entry that the translation lacks, that of the reference's
abbrev pub is_part_left_out : Side → (own other : NameIndex) → MissingPart → ReportedKind → (name : List ℕ) → Bool
is_part_left_out Other own other missing = is_left_out own (Some missing.name)
is_part_left_out Reference own other missing =
    if is_entry_part missing.part then is_left_out own (Some missing.name) else is_left_out other missing.in_other

-- ---- how they are held

abbrev pub start_of : CommentedEntry → ℕ
start_of entry = entry.start

-- The words are those of the comment above the entry.
abbrev pub IsRead : (text : List ℕ) → CommentedEntry → Type 0
IsRead text entry = map (λ word. word.now) entry.words.items ≡ comment_words text entry.start

-- The line is the last one of the text, and this is before it and its LF.
abbrev pub IsLastLine : (text before line : List ℕ) → Type 0
IsLastLine text before line = All (λ byte. (byte == 10) ≡ false) line
    × (((before ≡ []) × (text ≡ line)) ⊎ (text ≡ before ++ 10 ∷ line))
