-- What was read without errors, and is safe to write, is rewritten by its normal form.
use Rattle.std.proofs.Common.{◌≡◌, ◌∙◌, IsUtf8, ap, false, subst, sym, true}
use Rattle.fluent_syntax_grammar.specs.Body.{faults}
use Rattle.fluent_syntax_grammar.specs.RoundTrip.{ReadsAs, ReadsBack, tree_of}
use Rattle.fluent_syntax_grammar.specs.Written.{Text, written}
use Rattle.fluent_syntax_grammar.proofs.OneTiling.{tilings_of_text_are_same}
use Rattle.fluent_syntax_tree.specs.Entry.{BodyTree}
use Rattle.fluent_syntax_tree.specs.declared.edition.Edition.{Edition}
use Rattle.fluent_syntax_tree.specs.declared.edition.Edition.TheVariants.{One, Two}
use Rattle.ftl.specs.Answer.{IsAnswer, outcome_with}
use Rattle.ftl.specs.Formatted.{FormatsAgain}
use Rattle.ftl.specs.declared.command.Command.TheVariants.{Format, FormatTwo}
use Rattle.ftl.specs.declared.outcome.Outcome.TheVariants.{Clean}
use Rattle.ftl.specs.Lossless.{is_lossless}
use Rattle.ftl_project.specs.Lossless.{IsRewriting, IsWritten, Settles, format_of}
use Rattle.ftl_project.specs.declared.formatting.replacement.FormatOptions.{FormatOptions}

-- a text that reads as the tree, and is its text, stays so
text_of_tree_settles : (text : Text) (tree : BodyTree Text) → ReadsAs Two text tree → text ≡ written false tree →
    Settles Two tree text
text_of_tree_settles text tree reads is_written again next second =
    let same = tilings_of_text_are_same Two text second.tiles reads.tiles second.has_tiles reads.tiling in
    let same_tree = ap (tree_of text) same ∙ reads.same in (
      second.outcome_is ∙ ap outcome_with (ap faults same ∙ reads.no_faults),
      same_tree,
      second.text_is ∙ ap (written false) same_tree ∙ sym is_written,
    )

-- The text is the answer for one that was read as the tree, which is safe to write, and settles.
abbrev AnswersAndSettles : Edition → (t text : Text) → Type 0
AnswersAndSettles edition t text = (answer : IsAnswer (format_of edition) t text Clean)
    × (is_lossless edition (tree_of t answer.tiles) ≡ true) × Settles edition (tree_of t answer.tiles) text

normal_text_of_lossless_tree_settles : (edition : Edition) (t text : Text) (tree : BodyTree Text) → IsUtf8 t →
    ReadsAs edition t tree →
    text ≡ written false tree → is_lossless edition tree ≡ true → FormatsAgain t → ReadsBack Two tree →
    AnswersAndSettles edition t text
normal_text_of_lossless_tree_settles One t text tree utf8 reads is_written lossless law back =
    let first : IsAnswer Format t text Clean = record {
      is_utf8 = utf8;
      tiles = reads.tiles;
      has_tiles = reads.tiling;
      text_is = is_written ∙ ap (written false) (sym reads.same);
      outcome_is = ap outcome_with (sym reads.no_faults);
    } in
    let is_canonical = ap (is_lossless One) reads.same ∙ lossless in
    (first, is_canonical, λ again next second. law text again Clean next first second is_canonical)
normal_text_of_lossless_tree_settles Two t text tree utf8 reads is_written lossless law back =
    let first : IsAnswer FormatTwo t text Clean = record {
      is_utf8 = utf8;
      tiles = reads.tiles;
      has_tiles = reads.tiling;
      text_is = is_written ∙ ap (written false) (sym reads.same);
      outcome_is = ap outcome_with (sym reads.no_faults);
    } in
    let reads_back = subst (λ x. ReadsAs Two x tree) (sym is_written) (back false lossless) in (
      first,
      ap (is_lossless Two) reads.same ∙ lossless,
      subst (λ r. Settles Two r text) (sym reads.same) (text_of_tree_settles text tree reads_back is_written),
    )

pub normal_text_is_rewriting : (options : FormatOptions) (t normal text : Text) (tree : BodyTree Text) → IsUtf8 t →
    ReadsAs options.reading.edition t tree → normal ≡ written false tree →
    is_lossless options.reading.edition tree ≡ true → FormatsAgain t → ReadsBack Two tree →
    IsWritten options.blank_lines options.reading.edition t normal text → IsRewriting options t text
normal_text_is_rewriting options t normal text tree utf8 reads is_written lossless law back is =
    let (answer, safe, settles) =
    normal_text_of_lossless_tree_settles options.reading.edition t normal tree utf8 reads is_written lossless law
    back in
    record { normal = normal; answer = answer; lossless = safe; settles = settles; written = is }
