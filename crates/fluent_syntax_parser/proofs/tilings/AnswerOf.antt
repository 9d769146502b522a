-- What is answered for the entries and the errors that were read of a text with some tiles.
use Rattle.std.proofs.Common.{◌≡◌, ℕ, List, [], ◌∷◌, map, Some, Vec, Global, refl, sym, ◌∙◌, ap, subst}
use Rattle.std.specs.Prelude.{◌≢◌, Result, Ok, Err}
use Rattle.fluent_syntax_tree.specs.Entry.{BodyTree, body_map}
use Rattle.fluent_syntax_tree.specs.View.{entry_view}
use Rattle.fluent_syntax_tree.specs.declared.ast.Entry.{Entry}
use Rattle.fluent_syntax_tree.specs.declared.ast.Resource.{Resource}
use Rattle.fluent_syntax_tree.specs.declared.edition.Edition.{Edition}
use Rattle.fluent_syntax_tree.specs.declared.errors.ParserError.{ParserError}
use Rattle.fluent_syntax_tree.specs.declared.spans.Span.{Span}
use Rattle.fluent_syntax_grammar.specs.Body.{body, faults}
use Rattle.fluent_syntax_grammar.specs.Tiling.{Fault, Tile}
use Rattle.fluent_syntax_parser.specs.Answers.{Answers}
use Rattle.fluent_syntax_parser.specs.Rest.{AnswersIn, AnswersSpansIn}
use Rattle.fluent_syntax_parser.specs.Faults.{fault_of}
use Rattle.fluent_syntax_parser.specs.declared.fault.ParseFault.{ParseFault}
use Rattle.fluent_syntax_parser.specs.declared.fault.ParseFault.TheVariants.{Memory, Syntax}
use Rattle.fluent_syntax_parser.specs.declared.options.Comments.{Comments}
use Rattle.fluent_syntax_parser.proofs.readers.SameTrees.{identity_keeps_body}

no_errors_mean_no_faults : (fs : List Fault) → map Some fs ≡ [] → fs ≡ []
no_errors_mean_no_faults [] e = refl
no_errors_mean_no_faults (f ∷ fs) e = absurd (cc)

errors_mean_some_faults : (error : ParserError) (errors : List ParserError) (fs : List Fault) →
    map Some fs ≡ map fault_of (error ∷ errors) → fs ≢ []
errors_mean_some_faults error errors fs stated none = let nothing : map Some fs ≡ [] = ap (λ gs. map Some gs) none in cc

module _ {S X : Type 0} (text : S → X) (whole : BodyTree Span → BodyTree X) (tiles : List Tile)
    (entries : Vec (Entry S) Global) (errors : Vec ParserError Global) (result : Result (Resource S) (ParseFault S))
    (clean : errors.items ≡ [] → result ≡ Ok (record { body = entries }))
    (syntax' : errors.items ≢ [] → result ≡ Err (Syntax (record { body = entries }) errors))
    (same : map (entry_view text) entries.items ≡ whole (body tiles))
    (stated : map Some (faults tiles) ≡ map fault_of errors.items) where
  result_with_errors_answers_tiles : (found : List ParserError) → errors.items ≡ found → Answers text whole tiles result
  result_with_errors_answers_tiles [] none =
      subst (Answers text whole tiles) (sym (clean none))
      (same, no_errors_mean_no_faults (faults tiles) (stated ∙ ap (λ es. map fault_of es) none))
  result_with_errors_answers_tiles (error ∷ others) some =
      let not_none : errors.items ≢ [] = λ none. cc in
      subst (Answers text whole tiles) (sym (syntax' not_none))
      (same, sym stated, errors_mean_some_faults error others (faults tiles) (stated ∙ ap (λ es. map fault_of es) some))

  pub result_answers_tiles : Answers text whole tiles result
  result_answers_tiles = result_with_errors_answers_tiles errors.items refl

-- ---- trees of spans

-- the same where another map of the body gives the same
Answers-equal_bodies : {S X : Type 0} (text : S → X) (whole other : BodyTree Span → BodyTree X) →
    ((b : BodyTree Span) → whole b ≡ other b) → (tiles : List Tile) (result : Result (Resource S) (ParseFault S)) →
    Answers text whole tiles result → Answers text other tiles result
Answers-equal_bodies text whole other same tiles (Ok tree) (there, none) = (there ∙ same (body tiles), none)
Answers-equal_bodies text whole other same tiles (Err (Syntax tree errors)) (there, stated, some) =
    (there ∙ same (body tiles), stated, some)
Answers-equal_bodies text whole other same tiles (Err Memory) there = tt

pub answer_is_in_spans : (comments : Comments) (edition : Edition) (t : List ℕ)
    (result : Result (Resource Span) (ParseFault Span)) →
    AnswersIn (λ s. s) (body_map (λ s. s)) comments edition t result → AnswersSpansIn comments edition t result
answer_is_in_spans comments edition t result (tiles, tiled, there) =
    (tiles, tiled, Answers-equal_bodies (λ s. s) (body_map (λ s. s)) (λ b. b) identity_keeps_body tiles result there)
