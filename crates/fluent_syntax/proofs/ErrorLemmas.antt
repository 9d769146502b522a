-- The errors and the junk of a tiling's answer.
use Rattle.std.proofs.Common.{◌≡◌, ℕ, List, [], ◌∷◌, Option, Some, None, map, refl, sym, ◌∙◌, ap}
use Rattle.std.specs.Prelude.{slice_range, option_map, Result, Ok, Err}
use Rattle.std.specs.List.{flat_map}
use Rattle.fluent_syntax_tree.specs.Entry.{message, term, comment, junk, BodyTree, body_map}
use Rattle.fluent_syntax_tree.specs.Kind.{kind_of}
use Rattle.fluent_syntax_tree.specs.Spans.{bytes_at}
use Rattle.fluent_syntax_tree.specs.View.{resource_view}
use Rattle.fluent_syntax_tree.specs.declared.ast.Resource.{Resource}
use Rattle.fluent_syntax_tree.specs.declared.errors.ParserError.{ParserError}
use Rattle.fluent_syntax_tree.specs.declared.edition.Edition.{Edition}
use Rattle.fluent_syntax_grammar.specs.Tiling.{Fault, Tile}
use Rattle.fluent_syntax_grammar.specs.Body.{body, faults}
use Rattle.fluent_syntax_grammar.specs.UniqueReading.{junk_slice, fault_slice}
use Rattle.fluent_syntax_grammar.specs.UniqueReading as laws
use Rattle.fluent_syntax_grammar.proofs.JunkAndSpans.{junk_is_where_errors_are, runtime_junk_is_where_errors_are}
use Rattle.fluent_syntax_grammar.proofs.JunkAndSpans.{errors_of_text_ascend}
use Rattle.fluent_syntax_grammar.proofs.JunkAndSpans.{runtime_errors_of_text_ascend}
use Rattle.fluent_syntax_parser.specs.Faults.{fault_of}
use Rattle.fluent_syntax_parser.specs.Answers.{Answers}
use Rattle.fluent_syntax_parser.specs.Rest.{AnswersIn}
use Rattle.fluent_syntax_parser.specs.declared.options.Comments.{Comments}
use Rattle.fluent_syntax_parser.specs.declared.options.Comments.TheVariants.{Kept, Dropped}
use Rattle.fluent_syntax_parser.specs.declared.fault.ParseFault.{ParseFault}
use Rattle.fluent_syntax_parser.specs.declared.fault.ParseFault.TheVariants.{Syntax, Memory}
use Rattle.fluent_syntax.specs.Errors.{junk_texts, refused_text, JunkIsRefused, ErrorsAscend}

-- ---- junk

junk_texts-map : {X Y : Type 0} (f : X → Y) (b : BodyTree X) → junk_texts (body_map f b) ≡ map f (junk_texts b)
junk_texts-map f [] = refl
junk_texts-map f (message m ∷ b) = junk_texts-map f b
junk_texts-map f (term m ∷ b) = junk_texts-map f b
junk_texts-map f (comment level lines ∷ b) = junk_texts-map f b
junk_texts-map f (junk x ∷ b) = ap (λ ys. f x ∷ ys) (junk_texts-map f b)

module _ (t : List ℕ) where
  abbrev fault_text : Fault → List ℕ
  fault_text f = bytes_at t f.slice

  mapped_texts_are_fault_texts : {R : Type 0} (o : Option R) (text : R → List ℕ) (fault : R → Fault) →
      ((r : R) → text r ≡ fault_text (fault r)) → option_map text o ≡ option_map fault_text (option_map fault o)
  mapped_texts_are_fault_texts None text fault same = refl
  mapped_texts_are_fault_texts (Some r) text fault same = ap Some (same r)

  refused_text_is_text_of_fault : (e : ParserError) → refused_text t e ≡ option_map fault_text (fault_of e)
  refused_text_is_text_of_fault e =
      mapped_texts_are_fault_texts e.slice (λ r. slice_range t r.start r.end) (λ r. record {
        kind = kind_of e.kind;
        pos = record { start = e.pos.start; end = e.pos.end };
        slice = record { start = r.start; end = r.end };
      }) (λ r. refl)

  refused_texts_are_texts_of_faults : (errors : List ParserError) (fs : List Fault) →
      map fault_of errors ≡ map Some fs → map (refused_text t) errors ≡ map Some (map (bytes_at t) (map fault_slice fs))
  refused_texts_are_texts_of_faults [] [] h = refl
  refused_texts_are_texts_of_faults [] (f ∷ fs) h = cc
  refused_texts_are_texts_of_faults (e ∷ errors) [] h = cc
  refused_texts_are_texts_of_faults (e ∷ errors) (f ∷ fs) h =
      let head : fault_of e ≡ Some f = cc in
      let tail : map fault_of errors ≡ map Some fs = cc in
      let here : refused_text t e ≡ Some (fault_text f) =
      refused_text_is_text_of_fault e ∙ ap (option_map fault_text) head in
      let more = refused_texts_are_texts_of_faults errors fs tail in
      cc

-- ---- answers

module _ {S : Type 0} (text : S → List ℕ) (t : List ℕ) (tiles : List Tile) where
  abbrev Given : Result (Resource S) (ParseFault S) → Type 0
  Given result = Answers text (body_map (bytes_at t)) tiles result

  junk_of_tree_is_slices_of_faults : (tree : Resource S) →
      resource_view text tree ≡ body_map (bytes_at t) (body tiles) →
      flat_map junk_slice (body tiles) ≡ map fault_slice (faults tiles) →
      junk_texts (resource_view text tree) ≡ map (bytes_at t) (map fault_slice (faults tiles))
  junk_of_tree_is_slices_of_faults tree same law =
      ap junk_texts same
      ∙ (junk_texts-map (bytes_at t) (body tiles) ∙ ap (map (bytes_at t)) law)

  junk_of_result_is_refused : (result : Result (Resource S) (ParseFault S)) →
      flat_map junk_slice (body tiles) ≡ map fault_slice (faults tiles) → Given result → JunkIsRefused t text result
  junk_of_result_is_refused (Ok tree) law (same, none) =
      junk_of_tree_is_slices_of_faults tree same law ∙ ap (λ fs. map (bytes_at t) (map fault_slice fs)) none
  junk_of_result_is_refused (Err (Syntax tree errors)) law (same, stated, some) =
      ap (map Some) (junk_of_tree_is_slices_of_faults tree same law)
      ∙ sym (refused_texts_are_texts_of_faults t errors.items (faults tiles) stated)
  junk_of_result_is_refused (Err Memory) law given = tt

  errors_of_result_ascend : (result : Result (Resource S) (ParseFault S)) → laws.Ascend t 0 (faults tiles) →
      Given result → ErrorsAscend t result
  errors_of_result_ascend (Ok tree) law given = tt
  errors_of_result_ascend (Err (Syntax tree errors)) law (same, stated, some) = (faults tiles, stated, law)
  errors_of_result_ascend (Err Memory) law given = tt

module _ {S : Type 0} (text : S → List ℕ) (edition : Edition) (t : List ℕ) (result : Result (Resource S) (ParseFault S))
  where
    pub junk_of_answer_is_refused : (comments : Comments) →
        AnswersIn text (body_map (bytes_at t)) comments edition t result → JunkIsRefused t text result
    junk_of_answer_is_refused Kept (tiles, tiled, given) =
        junk_of_result_is_refused text t tiles result (junk_is_where_errors_are edition t tiles tiled) given
    junk_of_answer_is_refused Dropped (tiles, tiled, given) =
        junk_of_result_is_refused text t tiles result (runtime_junk_is_where_errors_are edition t tiles tiled) given

    pub errors_of_answer_ascend : (comments : Comments) →
        AnswersIn text (body_map (bytes_at t)) comments edition t result → ErrorsAscend t result
    errors_of_answer_ascend Kept (tiles, tiled, given) =
        errors_of_result_ascend text t tiles result (errors_of_text_ascend edition t tiles tiled) given
    errors_of_answer_ascend Dropped (tiles, tiled, given) =
        errors_of_result_ascend text t tiles result (runtime_errors_of_text_ascend edition t tiles tiled) given
