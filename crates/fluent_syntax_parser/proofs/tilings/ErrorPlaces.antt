-- The errors of an answer begin within the text.
use Rattle.std.proofs.Common.{◌≡◌, ℕ, ◌≤◌, List, [], ◌∷◌, ◌++◌, length, Option, Some, None, map, refl, ap, arith}
use Rattle.std.specs.Prelude.{option_map, IfSome, Result, Ok, Err}
use Rattle.std.specs.List.{All}
use Rattle.std.proofs.lemmas.List.Elements.{All-nil, All-cons}
use Rattle.std.proofs.Math.Bridge.{le_prop}
use Rattle.std.proofs.Math.Logic.{∥∥₁_elim}
use Rattle.fluent_syntax_tree.specs.Entry.{BodyTree, EntryTree}
use Rattle.fluent_syntax_tree.specs.Kind.{kind_of}
use Rattle.fluent_syntax_tree.specs.declared.ast.Resource.{Resource}
use Rattle.fluent_syntax_tree.specs.declared.edition.Edition.{Edition}
use Rattle.fluent_syntax_tree.specs.declared.errors.ParserError.{ParserError}
use Rattle.fluent_syntax_tree.specs.declared.spans.Span.{Span}
use Rattle.fluent_syntax_grammar.specs.Body.{faults}
use Rattle.fluent_syntax_grammar.specs.UniqueReading.{Ascend}
use Rattle.fluent_syntax_grammar.specs.Tiling.{Fault, Tile}
use Rattle.fluent_syntax_grammar.proofs.JunkAndSpans.{errors_of_text_ascend, runtime_errors_of_text_ascend}
use Rattle.fluent_syntax_parser.specs.Answers.{Answers, AnswersTiling, AnswersRuntimeTiling, ErrorsInText}
use Rattle.fluent_syntax_parser.specs.Rest.{AnswersIn, EntryTo, ReadSoFar, Rest, faults_of}
use Rattle.fluent_syntax_parser.proofs.tilings.PartsOfEntries.{rest_of_text_has_entries}
use Rattle.fluent_syntax_parser.specs.Faults.{fault_of}
use Rattle.fluent_syntax_parser.specs.declared.options.Comments.{Comments}
use Rattle.fluent_syntax_parser.specs.declared.options.Comments.TheVariants.{Kept, Dropped}
use Rattle.fluent_syntax_parser.specs.declared.fault.ParseFault.{ParseFault}
use Rattle.fluent_syntax_parser.specs.declared.fault.ParseFault.TheVariants.{Syntax, Memory}

junk_fault_starts_at : {R : Type 0} (junk : Option R) (pos : ℕ) (fault : R → Fault) (f : Fault) →
    ((r : R) → (fault r).pos.start ≡ pos) → option_map fault junk ≡ Some f → pos ≡ f.pos.start
junk_fault_starts_at None pos fault f same e = absurd (cc)
junk_fault_starts_at (Some r) pos fault f same e =
    let stated : fault r ≡ f = cc in
    let here = ap (λ g. g.pos.start) stated in
    let there = same r in
    cc

-- an error begins where the fault begins that it reports
error_starts_at_its_fault : (e : ParserError) (f : Fault) → fault_of e ≡ Some f → e.pos.start ≡ f.pos.start
error_starts_at_its_fault e f stated = junk_fault_starts_at e.slice e.pos.start (λ slice. record {
  kind = kind_of e.kind;
  pos = record { start = e.pos.start; end = e.pos.end };
  slice = record { start = slice.start; end = slice.end };
}) f (λ slice. refl) stated

module _ (t : List ℕ) where
  faults_that_ascend_start_in_text : (from : ℕ) (fs : List Fault) → Ascend t from fs → from ≤ length t
  faults_that_ascend_start_in_text from [] up = up
  faults_that_ascend_start_in_text from (f ∷ fs) up =
      let after = faults_that_ascend_start_in_text f.slice.end fs up.4 in omega (arith, up.0, up.1)

  -- errors of faults which ascend begin within the text
  pub errors_that_ascend_start_in_text : (from : ℕ) (errors : List ParserError) (fs : List Fault) →
      map fault_of errors ≡ map Some fs → Ascend t from fs → All (λ e. e.pos.start ≤ length t) errors
  errors_that_ascend_start_in_text from [] fs stated up = All-nil (λ e. e.pos.start ≤ length t)
  errors_that_ascend_start_in_text from (e ∷ errors) [] stated up = absurd cc
  errors_that_ascend_start_in_text from (e ∷ errors) (f ∷ fs) stated up =
      let first : fault_of e ≡ Some f = cc in
      let others : map fault_of errors ≡ map Some fs = cc in
      let after = faults_that_ascend_start_in_text f.slice.end fs up.4 in
      let place = error_starts_at_its_fault e f first in
      All-cons (λ e. e.pos.start ≤ length t) e errors (omega (arith, up.3))
      (errors_that_ascend_start_in_text f.slice.end errors fs others up.4)

  -- an error of one of some faults which ascend begins within the text
  error_among_ascending_is_in_text : (before : List (Option Fault)) (error : ParserError) (after : List (Option Fault))
      (from : ℕ) (fs : List Fault) → map Some fs ≡ before ++ fault_of error ∷ after → Ascend t from fs →
      error.pos.start ≤ length t
  error_among_ascending_is_in_text [] error after from [] stated up = absurd cc
  error_among_ascending_is_in_text (f ∷ before) error after from [] stated up = absurd cc
  error_among_ascending_is_in_text [] error after from (g ∷ fs) stated up =
      let here : fault_of error ≡ Some g = cc in
      let later = faults_that_ascend_start_in_text g.slice.end fs up.4 in
      let place = error_starts_at_its_fault error g here in
      omega (arith, up.3)
  error_among_ascending_is_in_text (f ∷ before) error after from (g ∷ fs) stated up =
      let others : map Some fs ≡ before ++ fault_of error ∷ after = cc in
      error_among_ascending_is_in_text before error after g.slice.end fs others up.4

  -- so does one that a text has between others
  pub error_of_rest_is_in_text : (comments : Comments) (edition : Edition) (entries : BodyTree Span)
      (before : List (Option Fault)) (error : ParserError) (after : List (Option Fault)) →
      Rest comments edition t 0 entries (before ++ fault_of error ∷ after) → error.pos.start ≤ length t
  error_of_rest_is_in_text Kept edition entries before error after rest =
      error_among_ascending_is_in_text before error after 0 (faults rest.tiles) rest.errors_are
      (errors_of_text_ascend edition t rest.tiles rest.tiled)
  error_of_rest_is_in_text Dropped edition entries before error after rest =
      error_among_ascending_is_in_text before error after 0 (faults rest.tiles) rest.errors_are
      (runtime_errors_of_text_ascend edition t rest.tiles rest.tiled)

  -- and one of an entry that comes after what was reached
  pub error_of_entry_read_so_far_is_in_text : (comments : Comments) (edition : Edition) (i j : ℕ) (e : EntryTree Span)
      (error : Option ParserError) → j ≤ length t → ∥ ReadSoFar comments edition t i ∥₁ →
      EntryTo comments edition t i j e (faults_of error) → IfSome error (λ error. error.pos.start ≤ length t)
  error_of_entry_read_so_far_is_in_text comments edition i j e None inside reached there = tt
  error_of_entry_read_so_far_is_in_text comments edition i j e (Some error) inside reached there =
      let left = rest_of_text_has_entries t edition comments j inside in
      ∥∥₁_elim reached le_prop
      (λ r. error_of_rest_is_in_text comments edition _ r.errors error left.1 (r.rest _ _ (there _ _ left.2)))

  module _ {S X : Type 0} (text : S → X) (whole : BodyTree Span → BodyTree X) where
    errors_of_answer_are_in_text : (tiles : List Tile) (result : Result (Resource S) (ParseFault S)) →
        Ascend t 0 (faults tiles) → Answers text whole tiles result → ErrorsInText t result
    errors_of_answer_are_in_text tiles (Ok tree) up given = tt
    errors_of_answer_are_in_text tiles (Err (Syntax tree errors)) up (same, stated, some) =
        errors_that_ascend_start_in_text 0 errors.items (faults tiles) stated up
    errors_of_answer_are_in_text tiles (Err Memory) up given = tt

    module _ (edition : Edition) (result : Result (Resource S) (ParseFault S)) where
      errors_in_text : AnswersTiling text whole edition t result → ErrorsInText t result
      errors_in_text (tiles, tiling, given) =
          errors_of_answer_are_in_text tiles result (errors_of_text_ascend edition t tiles tiling) given

      runtime_errors_in_text : AnswersRuntimeTiling text whole edition t result → ErrorsInText t result
      runtime_errors_in_text (tiles, tiling, given) =
          errors_of_answer_are_in_text tiles result (runtime_errors_of_text_ascend edition t tiles tiling) given

      pub errors_of_answer_in_mode_are_in_text : (comments : Comments) →
          AnswersIn text whole comments edition t result → ErrorsInText t result
      errors_of_answer_in_mode_are_in_text Kept answers = errors_in_text answers
      errors_of_answer_in_mode_are_in_text Dropped answers = runtime_errors_in_text answers
