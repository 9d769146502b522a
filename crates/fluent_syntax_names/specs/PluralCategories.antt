-- Keys of selects by plural categories that a language never chooses.
use Rattle.std.specs.Prelude.{ℕ, ◌+◌, ◌^◌, ◌-◌, ◌≡◌, ◌≢◌, min, unwrap_or, Bool, false, not, ◌&&◌, ◌||◌, ◌==◌, List}
use Rattle.std.specs.Prelude.{nat_eq, true, length, Option, Some, None, if◌then◌else◌, codes, count_by, find, nat_lt}
use Rattle.std.specs.Prelude.{option_map, slice_get}
use Rattle.std.specs.Borrow.{Bor}
use Rattle.std.specs.BTreeMap.{BTreeMap, get}
use Rattle.std.specs.Char.{is_ascii_digit}
use Rattle.std.specs.List.{list_any, filter_map, starts_with}
use Rattle.std.specs.Ordering.{nat_cmp}
use Rattle.std.specs.Str.{bytes_eq}
use Rattle.fluent_syntax_tree.specs.Bytes.{hyphen}
use Rattle.fluent_syntax_tree.specs.declared.spans.Span.{Span}
use Rattle.fluent_syntax_names.specs.Mentions.{Mentions}
use Rattle.fluent_syntax_names.specs.QualifiedNames.{Text, name_at}
use Rattle.fluent_syntax_names.specs.declared.mention.Mention.{Mention}
use Rattle.fluent_syntax_names.specs.declared.mention.Mention.TheVariants as says
use Rattle.fluent_syntax_names.specs.declared.name_index.NameIndex.{NameIndex}
use Rattle.fluent_syntax_names.specs.declared.plural_categories.LanguageGroup.{LanguageGroup}
use Rattle.fluent_syntax_names.specs.declared.select_counts.KeyKind.{KeyKind}
use Rattle.fluent_syntax_names.specs.declared.select_counts.KeyKind.TheVariants.{Category, Stranger}

-- ---- Categories of languages

abbrev pub Words : Type 0
Words = List (Bor Text)

-- the words that are borrowed, if some are
abbrev pub words_of : Option (Bor Words) → Option Words
words_of = option_map (λ (words : Bor Words). words.now)

abbrev pub is_among : Words → Text → Bool
is_among words name = list_any (λ (word : Bor Text). bytes_eq word.now name) words

abbrev pub ends_code : Option ℕ → Bool
ends_code None = true
ends_code (Some b) = b == hyphen || b == 95

-- whether the name is that of the language with the code: the code alone, or before its script or its region, as `pt`
-- of `pt-BR` and `pt_BR`
abbrev pub has_code : (name code : Text) → Bool
has_code name code = starts_with nat_eq name code && ends_code (slice_get name (length code))

-- whether the language of the name is in the group
abbrev pub has_language : (name : Text) → LanguageGroup → Bool
has_language name group = list_any (λ (code : Bor Text). has_code name code.now) group.languages.now

-- the categories of the first group that has the language of the name
abbrev pub categories_in : List LanguageGroup → (name : Text) → Option Words
categories_in groups name =
    option_map (λ (group : LanguageGroup). group.categories.now)
    (find (has_language name) groups)

-- ---- What keys are

-- a number begins with a digit or a `-`, and a name with a letter
abbrev pub begins_number : Option ℕ → Bool
begins_number None = false
begins_number (Some b) = is_ascii_digit b || b == hyphen

abbrev pub is_number : (key : Text) → Bool
is_number key = begins_number (slice_get key 0)

-- `other`, which each language has, apart
abbrev pub is_category : (key : Text) → Bool
is_category key =
    bytes_eq key (codes "zero") || bytes_eq key (codes "one") || bytes_eq key (codes "two")
    || bytes_eq key (codes "few") || bytes_eq key (codes "many")

abbrev pub is_stranger : (key : Text) → Bool
is_stranger key = not (is_number key || bytes_eq key (codes "other") || is_category key)

abbrev pub has_kind : KeyKind → (key : Text) → Bool
has_kind Category key = is_category key
has_kind Stranger key = is_stranger key

-- ---- What the keys of a select are

-- where the first key of the select begins that has this key, if it is of the kind
abbrev pub select_of : Text → KeyKind → Mention Span → Option ℕ
select_of text kind (says.VariantKey x first) = if has_kind kind (name_at text x) then Some first.start else None
select_of text kind _ = None

abbrev pub is_in : (select : ℕ) → Option ℕ → Bool
is_in select None = false
is_in select (Some place) = place == select

-- how many keys of the kind the select has
abbrev pub key_count : Text → Mentions Span → KeyKind → (select : ℕ) → ℕ
key_count text ms kind select = count_by (λ m. is_in select (select_of text kind m)) ms

-- so many of the kind that the table counts in the select
abbrev pub count_at : BTreeMap ℕ ℕ → (select : ℕ) → ℕ
count_at table select = unwrap_or (get nat_cmp table select) 0

-- the select has one more, short of the largest `usize`, and the others keep their counts
pub record CountsOne (old new : ℕ → ℕ) (select : ℕ) : Type 0 where
  pub one : new select ≡ min (old select + 1) (2 ^ 64 - 1)
  pub others : (other : ℕ) → other ≢ select → new other ≡ old other

-- ---- Keys that are never chosen

-- whether the language never chooses the key: all other keys of its select are numbers or categories, and so is
-- this one, but not of the language; or else it is misspelt, and another is a category that is not `other`
abbrev pub is_never_chosen : Words → (categories strangers : ℕ) → (key : Text) → Bool
is_never_chosen known categories strangers key =
    if is_stranger key then strangers == 1 && nat_lt 0 categories
    else strangers == 0 && is_category key && not (is_among known key)

abbrev pub unchosen_key : Text → Words → (KeyKind → ℕ → ℕ) → Mention Span → Option Span
unchosen_key text known counts (says.VariantKey x first) =
    if is_never_chosen known (counts Category first.start) (counts Stranger first.start) (name_at text x) then Some x
    else None
unchosen_key text known counts _ = None

-- the keys that a language with these categories never chooses, in the order of the text
abbrev pub unchosen_keys : NameIndex → Words → List Span
unchosen_keys file known =
    filter_map (unchosen_key file.text.now known (key_count file.text.now file.mentions.items)) file.mentions.items
