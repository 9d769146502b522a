-- What an edit of a text answers.
use Rattle.std.specs.Prelude.{◌≡◌, ℕ, ◌+◌, ◌<◌, List, ◌++◌, length, drop, take, map}
use Rattle.std.specs.Prelude.{Some, Result, Ok, Err, String, string_bytes}
use Rattle.std.specs.Global.{Global}
use Rattle.fluent_syntax_tree.specs.Entry.{BodyTree}
use Rattle.fluent_syntax_tree.specs.View.{resource_view}
use Rattle.fluent_syntax_tree.specs.declared.ast.Resource.{Resource}
use Rattle.fluent_syntax_tree.specs.declared.errors.ParserError.{ParserError}
use Rattle.fluent_syntax_tree.specs.declared.edition.Edition.{Edition}
use Rattle.fluent_syntax_tree.specs.declared.spans.Span.{Span}
use Rattle.fluent_syntax_grammar.specs.Body.{faults}
use Rattle.fluent_syntax_grammar.specs.RoundTrip.{tree_of}
use Rattle.fluent_syntax_grammar.specs.Tiling.{Fault, Tile, Tiling}
use Rattle.fluent_syntax_grammar.specs.Written.{Text}
use Rattle.fluent_syntax_parser.specs.Faults.{fault_of}
use Rattle.fluent_syntax_edits.specs.Changes.{Change, tree_after, after_line_ends, attempts, refusal}
use Rattle.fluent_syntax_edits.specs.Errors.{moved_fault}
use Rattle.fluent_syntax_edits.specs.EntryPlaces.{RangeOf}
use Rattle.fluent_syntax_edits.specs.declared.fault.EditFault.{EditFault}
use Rattle.fluent_syntax_edits.specs.declared.fault.EditFault.TheVariants.{Memory}

-- ---- what is read

-- The text is read as the tree, and with these errors.
pub record ReadAs (edition : Edition) (t : List ℕ) (r : Resource (String Global)) (es : List ParserError) : Type 0 where
  pub tiles : List Tile
  pub tiling : Tiling edition t tiles
  pub tree : resource_view (λ s. string_bytes s) r ≡ tree_of t tiles
  pub errors : map fault_of es ≡ map Some (faults tiles)

-- The new text u is read as the tree of the text t with that made of it, and with the errors of t, each moved.
pub record ReadsAfter (edition : Edition) (t u : List ℕ) (after : BodyTree Text → BodyTree Text)
    (moved : Fault → Fault) : Type 0 where
  pub tiles : List Tile
  pub others : List Tile
  pub tiling : Tiling edition t tiles
  pub new_tiling : Tiling edition u others
  pub tree : tree_of u others ≡ after (tree_of t tiles)
  pub errors : faults others ≡ map moved (faults tiles)

module _ (edition : Edition) (t : List ℕ) (n : ℕ) (change : Change) where
  -- ---- the new text

  -- The text with what comes in place of the stretch, after so many line ends; around it the bytes are those of the
  -- text.
  abbrev pub new_text : (k : ℕ) → Span → List ℕ
  new_text k s = take s.start t ++ (after_line_ends k change t s.end ++ drop s.end t)

  -- The new text u is read as the tree of the text with the change made in it, and with the text's errors; what comes
  -- after the stretch begins there now.
  abbrev pub ReadsChanged : (s : Span) (to : ℕ) (u : List ℕ) → Type 0
  ReadsChanged s to u = ReadsAfter edition t u (tree_after change n) (moved_fault s to)

  -- The text with so many line ends is read so.
  abbrev pub IsRead : (k : ℕ) → Span → Type 0
  IsRead k s = ReadsChanged s (s.start + length (after_line_ends k change t s.end)) (new_text k s)

  -- ---- the answer

  -- The new text is answered exactly where it is read so, with as few line ends as do. It is refused exactly where the
  -- text has no stretch for the change, or where it would be read otherwise.
  pub data IsEditResult : Result (String Global) EditFault → Type 0 where
    made : {text : String Global} (s : Span) (k : ℕ) → RangeOf edition t n change (Ok s) → k < attempts change →
        string_bytes text ≡ new_text k s → IsRead k s → ((j : ℕ) → j < k → ¬ (IsRead j s)) → IsEditResult (Ok text)
    no_range : {fault : EditFault} → RangeOf edition t n change (Err fault) → IsEditResult (Err fault)
    read_otherwise : (s : Span) → RangeOf edition t n change (Ok s) →
        ((k : ℕ) → k < attempts change → ¬ (IsRead k s)) → IsEditResult (Err (refusal edition change))
    no_memory : IsEditResult (Err Memory)
