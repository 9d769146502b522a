-- What is shown of the errors of a text.
use Rattle.std.specs.Prelude.{◌≡◌, ◌⊎◌, ◌-◌, ◌<◌, ℕ, min, max, take, List, [], ◌∷◌, length, map, codes}
use Rattle.fluent_syntax_tree.specs.Kind.{kind_name, kind_of}
use Rattle.fluent_syntax_tree.specs.declared.edition.Edition.TheVariants.{One}
use Rattle.fluent_syntax_tree.specs.declared.errors.ParserError.{ParserError}
use Rattle.fluent_syntax_grammar.specs.Body.{faults}
use Rattle.fluent_syntax_grammar.specs.Nesting.{NestsDeeper}
use Rattle.fluent_syntax_grammar.specs.Tiling.{Fault, Tile, Tiling}
use Rattle.ftl_lsp.specs.Positions.{position_at}
use Rattle.ftl_lsp.specs.declared.diagnostics.Diagnostic.{Diagnostic}
use Rattle.ftl_lsp.specs.declared.limits.TheConstants.{DIAGNOSTICS_LIMIT, NESTING_LIMIT}
use Rattle.ftl_lsp.specs.declared.documents.positions.Position.{Position}

-- where something is shown, and the name of its kind
pub record Shown : Type 0 where
  pub start : Position
  pub end : Position
  pub code : List ℕ

abbrev pub shown : Diagnostic → Shown
shown d = record { start = d.start; end = d.end; code = d.code.now }

-- where a place of the text is shown: what lies beyond the text counts as its end
module _ (t : List ℕ) where
  abbrev pub shown_at : (from to : ℕ) → List ℕ → Shown
  shown_at from to code =
      record { start = position_at t from; end = position_at t (max (min to (length t)) from); code = code }

  -- of an error
  abbrev pub diagnostic_of : ParserError → Shown
  diagnostic_of e = shown_at e.pos.start e.pos.end (kind_name (kind_of e.kind))

  -- of a fault of the text's tiling
  abbrev pub fault_shown : Fault → Shown
  fault_shown f = shown_at f.pos.start f.pos.end (kind_name f.kind)

-- of a text that nests too deeply
abbrev pub deep_diagnostic : Shown
deep_diagnostic = record {
  start = record { line = 0; character = 0 };
  end = record { line = 0; character = 0 };
  code = codes "TooDeep";
}

-- One for each of the first faults of the tiling, in order, of a text that nests no deeper than the limit, and how many
-- faults there are besides; a lone one of a text that nests deeper, which has more bytes than the limit.
abbrev pub DiagnosesText : List ℕ → List Shown → (more : ℕ) → Type 0
DiagnosesText t found more =
    ((tiles : List Tile) × Tiling One t tiles × (found ≡ map (fault_shown t) (take DIAGNOSTICS_LIMIT (faults tiles))) ×
    (more ≡ length (faults tiles) - DIAGNOSTICS_LIMIT) × (NestsDeeper One t NESTING_LIMIT → ⊥)) ⊎
    ((found ≡ deep_diagnostic ∷ []) × (more ≡ 0) × (NESTING_LIMIT < length t) × NestsDeeper One t NESTING_LIMIT)
