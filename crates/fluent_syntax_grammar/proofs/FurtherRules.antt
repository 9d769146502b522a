-- A tree is canonical where it is readable and obeys the four rules more.
use Rattle.std.proofs.Common.{◌≡◌, [], ◌∷◌, Bool, true, false, refl, sym, ap, ◌∙◌}
use Rattle.std.specs.Prelude.{◌&&◌}
use Rattle.fluent_syntax_tree.specs.Entry.{BodyTree}
use Rattle.fluent_syntax_tree.specs.declared.edition.Edition.{Edition}
use Rattle.fluent_syntax_grammar.specs.Spellings.{is_name, is_number, is_string}
use Rattle.fluent_syntax_grammar.specs.Written.{Text}
use Rattle.fluent_syntax_grammar.specs.Rules.{body_obeys}
use Rattle.fluent_syntax_grammar.specs.Readable.{readable_rules, is_readable, is_expression, is_pattern, is_callee}
use Rattle.fluent_syntax_grammar.specs.Readable.{are_arguments, are_lines, is_message}
use Rattle.fluent_syntax_grammar.specs.Canonical.{canonical_rules, further_rules, is_canonical, has_one_default}
use Rattle.fluent_syntax_grammar.specs.Canonical.{is_flush, is_plain_comment}
use Rattle.fluent_syntax_grammar.proofs.RuleConjunction.{ArePartsOf, body_obeys_each}

and_true_is_itself : (x : Bool) → x ≡ (x && true)
and_true_is_itself true = refl
and_true_is_itself false = refl

module _ (edition : Edition) where
  canonical_is_readable_and_further :
      ArePartsOf (readable_rules edition ∷ further_rules edition ∷ []) (λ rules. rules) (canonical_rules edition)
  canonical_is_readable_and_further = record {
    junk_parts = refl;
    message_parts = λ m. and_true_is_itself (is_message m);
    comment_parts = λ content. ap (λ b. are_lines content && b) (and_true_is_itself (is_plain_comment content));
    pattern_parts = λ p. ap (λ b. is_pattern edition p && b) (and_true_is_itself (is_flush edition p));
    expression_parts = λ e. ap (λ b. is_expression e && b) (and_true_is_itself (has_one_default e));
    callee_parts = λ v. and_true_is_itself (is_callee v);
    arguments_parts = λ a. and_true_is_itself (are_arguments a);
    string_parts = λ v. and_true_is_itself (is_string v);
    number_parts = λ v. and_true_is_itself (is_number v);
    name_parts = λ v. and_true_is_itself (is_name v);
  }

  -- A readable tree is canonical exactly where it obeys the four.
  pub readable_is_canonical_by_further_rules : (es : BodyTree Text) → is_readable edition es ≡ true →
      is_canonical edition es ≡ body_obeys (further_rules edition) es
  readable_is_canonical_by_further_rules es h =
      body_obeys_each (readable_rules edition ∷ further_rules edition ∷ []) (λ rules. rules) (canonical_rules edition)
      canonical_is_readable_and_further es
      ∙ ap (λ b. b && (body_obeys (further_rules edition) es && true)) h
      ∙ sym (and_true_is_itself (body_obeys (further_rules edition) es))
