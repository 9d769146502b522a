-- A table of entries with their places, as one mention after another is noted.
use Rattle.std.proofs.Common.{◌≡◌, ℕ, ◌+◌, ◌<◌, ◌≤◌, length, get_or, drop, refl, sym, ap, ◌∙◌, Option, Some, None}
use Rattle.std.proofs.lemmas.List.{drop_all}
use Rattle.fluent_syntax_tree.specs.declared.spans.Span.{Span}
use Rattle.fluent_syntax_names.specs.EntryPlaces.{first_place_in}
use Rattle.fluent_syntax_names.specs.FirstPlaces.{NotesPlaces, first_of}
use Rattle.fluent_syntax_names.specs.Mentions.{Mentions}
use Rattle.fluent_syntax_names.specs.QualifiedNames.{Text}
use Rattle.fluent_syntax_names.specs.Tables.{Lookup}
use Rattle.fluent_syntax_names.specs.declared.mention.Mention.{Mention}
use Rattle.fluent_syntax_names.proofs.Adding.{drop_one_node}

first_of-none : (place : Option Span) → first_of place None ≡ place
first_of-none None = refl
first_of-none (Some x) = refl

first_of_is_associative : (a b c : Option Span) → first_of (first_of a b) c ≡ first_of a (first_of b c)
first_of_is_associative None b c = refl
first_of_is_associative (Some x) b c = refl

module _ (named : Mention Span → Text → Option Span) (ms : Mentions Span) (all now : Lookup) where
  -- the places of the mentions from this one on are still to be noted
  abbrev pub LeavesPlaces : ℕ → Type 0
  LeavesPlaces i = (entry : Text) → first_of (now entry) (first_place_in named (drop i ms) entry) ≡ all entry

  pub places_are_left_after_next_mention : (next : Lookup) (i : ℕ) (m d : Mention Span) → i < length ms
      → m ≡ get_or ms i d → LeavesPlaces i → NotesPlaces now next (named m)
      → (entry : Text) → first_of (next entry) (first_place_in named (drop (i + 1) ms) entry) ≡ all entry
  places_are_left_after_next_mention next i m d within is left noted = λ entry.
      let beyond = first_place_in named (drop (i + 1) ms) entry in
      ap (λ o. first_of o beyond) (noted entry)
      ∙ first_of_is_associative (now entry) (named m entry) beyond
      ∙ ap (λ l. first_of (now entry) (first_place_in named l entry)) (sym (drop_one_node ms i m d within is))
      ∙ left entry

  pub places_at_last_mention_are_all : (i : ℕ) → length ms ≤ i → LeavesPlaces i → (entry : Text) → now entry ≡ all entry
  places_at_last_mention_are_all i end left = λ entry.
      sym (first_of-none (now entry))
      ∙ ap (λ l. first_of (now entry) (first_place_in named l entry)) (sym (drop_all i ms end))
      ∙ left entry
