-- The changes of a document that JSON values give.
use Rattle.std.specs.Prelude.{ℕ, List, [], ◌∷◌, codes, Option, Some, None, option_and_then, option_map}
use Rattle.serde_json.specs.Data.{Data, null, Items, no_items, item}
use Rattle.serde_json.specs.Find.{get, as_number, as_str, as_u64, pointer}
use Rattle.ftl_lsp.specs.declared.documents.positions.Position.{Position}
use Rattle.ftl_lsp.specs.declared.documents.changes.Change.{Change}
use Rattle.ftl_lsp.specs.declared.documents.changes.Change.TheVariants.{Whole, Between}

-- A change: another text, or another stretch between two places.
pub data Edit : Type 0 where
  whole : (text : List ℕ) → Edit
  between : (start end : Position) → (text : List ℕ) → Edit

abbrev pub edit_of : Change → Edit
edit_of (Whole text) = whole text.now
edit_of (Between start end text) = between start end text.now

abbrev pub number_at : (key : List ℕ) → Data → Option ℕ
number_at key d = option_and_then (λ v. option_and_then as_u64 (as_number v)) (get key d)

-- the place that a value gives
abbrev pub position_in : Data → Option Position
position_in d =
    option_and_then
    (λ line. option_map (λ n. record { line = line; character = n }) (number_at (codes "character") d))
    (number_at (codes "line") d)

abbrev pub end_of_range : Data → Option Position
end_of_range d = option_and_then position_in (get (codes "end") d)

-- the change of what is in a range
abbrev pub between_in : (range : Data) → (text : List ℕ) → Option Edit
between_in range text =
    option_and_then
    (λ start. option_map (λ end. between start end text) (end_of_range range))
    (option_and_then position_in (get (codes "start") range))

-- where there is no range, or null, the whole text changes
abbrev pub edit_in_range : (range : Option Data) → (text : List ℕ) → Option Edit
edit_in_range None text = Some (whole text)
edit_in_range (Some null) text = Some (whole text)
edit_in_range (Some range) text = between_in range text

-- the change that a value gives
abbrev pub edit_in : Data → Option Edit
edit_in d = option_and_then (edit_in_range (get (codes "range") d)) (option_and_then as_str (get (codes "text") d))

-- the changes that the values give, in order, if each of them gives one
abbrev pub edits_in : Items → Option (List Edit)
edits_in no_items = Some []
edits_in (item d ds) = option_and_then (λ edit. option_map (λ edits. edit ∷ edits) (edits_in ds)) (edit_in d)

-- the place that a message asks of
abbrev pub position_param_in : Data → Option Position
position_param_in d = option_and_then position_in (pointer (codes "/params/position") d)
