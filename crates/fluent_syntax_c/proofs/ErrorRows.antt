-- Lines and messages of errors.
use Rattle.std.proofs.Common.{◌≡◌, ◌++◌, ℕ, List, map, Some, ap, ◌∙◌, sym, append_assoc, codes}
use Rattle.std.proofs.lemmas.List.Folds.{flat_map-map}
use Rattle.std.specs.Global.{Global}
use Rattle.std.specs.Prelude.{Vec, Result, Ok, Err, IfOk}
use Rattle.std.specs.List.{flat_map}
use Rattle.fluent_syntax_tree.specs.Kind.{ExpectedCharRange, Kind, kind_of}
use Rattle.fluent_syntax_tree.specs.declared.errors.ParserError.{ParserError}
use Rattle.fluent_syntax_grammar.specs.Body.{faults}
use Rattle.fluent_syntax_grammar.specs.Tiling.{Fault, Tile}
use Rattle.fluent_syntax_parser.specs.Faults.{fault_of}
use Rattle.ftl.proofs.FaultLines.{made_of_faults}
use Rattle.ftl.specs.Answer.{error_fault}
use Rattle.fluent_syntax_c.specs.Errors.{error_row}
use Rattle.fluent_syntax_c.specs.Messages.{kind_message, message_line, shown}
use Rattle.fluent_syntax_c.specs.declared.errors.FtlError.{FtlError}

-- errors that report faults have the lines of the faults
lines_of_errors_are_lines_of_their_faults : (line : Kind → List ℕ) (errors : List ParserError) (fs : List Fault) →
    map fault_of errors ≡ map Some fs → flat_map (λ e. line (kind_of e.kind)) errors ≡ flat_map (λ f. line f.kind) fs
lines_of_errors_are_lines_of_their_faults line errors fs errors_are =
    let of_fault : Fault → List ℕ = λ f. line f.kind in
    sym (flat_map-map (λ l. l) (λ e. of_fault (error_fault e)) errors)
    ∙ ap (flat_map (λ l. l)) (made_of_faults of_fault errors fs errors_are)
    ∙ flat_map-map (λ l. l) of_fault fs

-- the message of a kind that is about a range
pub message_of_range_shows_its_bytes : (kind : Kind) (range bytes : List ℕ) → kind ≡ ExpectedCharRange range →
    bytes ≡ range → kind_message kind ≡ codes "Expected one of \"" ++ shown bytes ++ codes "\""
message_of_range_shows_its_bytes kind range bytes is same =
    ap kind_message is ∙ ap (λ t. codes "Expected one of \"" ++ shown t ++ codes "\"") (sym same)

-- three lists joined one by one are the first before the other two
pub append_of_three_regroups : (xs a b c : List ℕ) → xs ++ a ++ b ++ c ≡ xs ++ (a ++ b ++ c)
append_of_three_regroups xs a b c = ap (λ l. l ++ c) (append_assoc xs a b) ∙ append_assoc xs (a ++ b) c

module _ {E : Type 0} (t : List ℕ) (tiles : List Tile) (errors : List ParserError)
    (errors_are : map fault_of errors ≡ map Some (faults tiles)) where
  -- rows of errors that report the faults of tiles are those of the faults
  pub rows_of_errors_are_rows_of_faults : (s : List ℕ) → s ≡ t → (answer : Result (Vec FtlError Global) E) →
      IfOk answer (λ rows. rows.items ≡ map (λ e. error_row s (error_fault e)) errors) →
      IfOk answer (λ rows. rows.items ≡ map (error_row t) (faults tiles))
  rows_of_errors_are_rows_of_faults s same (Ok rows) is =
      is ∙ ap (λ u. map (λ e. error_row u (error_fault e)) errors) same
      ∙ made_of_faults (error_row t) errors (faults tiles) errors_are
  rows_of_errors_are_rows_of_faults s same (Err e) is = is

  -- so are their lines
  pub message_lines_of_errors_are_those_of_faults : (answer : Result (Vec ℕ Global) E) →
      IfOk answer (λ lines. lines.items ≡ flat_map (λ e. message_line (kind_of e.kind)) errors) →
      IfOk answer (λ lines. lines.items ≡ flat_map (λ f. message_line f.kind) (faults tiles))
  message_lines_of_errors_are_those_of_faults (Ok lines) is =
      is ∙ lines_of_errors_are_lines_of_their_faults message_line errors (faults tiles) errors_are
  message_lines_of_errors_are_those_of_faults (Err e) is = is
