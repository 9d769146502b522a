use Rattle.std.proofs.Common.{◌≡◌, ◌∙◌, ap, rules, string_bytes, subst, sym}
use Rattle.std.specs.Cmp.Lexicographic.{other_text}
use Rattle.std.specs.Option.{is_none}
use Rattle.fluent_syntax_tree.specs.declared.edition.Edition.TheVariants.{Two}
use Rattle.ftl.specs.Formatted.{FormatsAgain}
use Rattle.ftl_project.specs.Lossless.{IsRewriting}
use Rattle.ftl_project.proofs.ReadBack.{normal_text_is_rewriting}
use Rattle.ftl_project.proofs.formatting.replacement.replacement_of.Goals as goal

pub returns-then-eq-clause-is : goal.returns-then-eq-clause-is
returns-then-eq-clause-is c =
    let text = c.args.text.now in
    let law = subst (λ t. FormatsAgain t) c.as_bytes.ensures.value c.formatting_is_idempotent.ensures in
    let back = c.reads_back.ensures.back Two in
    let lossless = sym c.in_ok-broken.ensures.none ∙ ap is_none c.in_default.is in
    let same : string_bytes c.in_ok-formatted.formatted ≡ text = search rules in
    subst (λ t. IsRewriting c.args.options text t) same
    (normal_text_is_rewriting c.args.options text (string_bytes c.in_ok-normal.normal)
    (string_bytes c.in_ok-formatted.formatted) _
    c.utf8.text c.requires.reads c.in_ok-normal.ensures lossless law back c.in_ok-formatted.ensures)

pub returns-else-eq-clause-is : goal.returns-else-eq-clause-is
returns-else-eq-clause-is c =
    let text = c.args.text.now in
    let law = subst (λ t. FormatsAgain t) c.as_bytes.ensures.value c.formatting_is_idempotent.ensures in
    let back = c.reads_back.ensures.back Two in
    let lossless = sym c.in_ok-broken.ensures.none ∙ ap is_none c.in_default.is in (
      normal_text_is_rewriting c.args.options text (string_bytes c.in_ok-normal.normal)
          (string_bytes c.in_ok-formatted.formatted) _
          c.utf8.text c.requires.reads c.in_ok-normal.ensures lossless law back c.in_ok-formatted.ensures,
      λ same. other_text c.as_str.result.now text c.if-eq.ensures (c.as_str.ensures.value ∙ same),
    )
