use Rattle.std.proofs.Common.{◌∙◌, ◌∷◌, None, Some, append_assoc, arith, inr, refl}
use Rattle.std.proofs.lemmas.Str.Pattern.{split_parts}
use Rattle.ftl_files.proofs.OriginalLemmas.{no_original_in_reference, no_original_of_reference}
use Rattle.ftl_files.proofs.OriginalLemmas.{failed_test_means_other_name}
use Rattle.ftl_files.proofs.OriginalLemmas.{reference_is_original, passed_test_means_same_name}
use Rattle.ftl_files.proofs.originals.original_of.Goals as goal

pub returns-clause-some : goal.returns-clause-some
returns-clause-some c =
    let language = c.in-Some-split_once.language in
    let rest = c.in-Some-split_once.rest in
    let parts = split_parts 47 _ (Some (language, rest)) c.in-Some-split_once.ensures.cases (omega arith) in
    record {
      language = language.now;
      rest = 47 ∷ rest.now;
      path_is = c.in-Some.ensures ∙ rw parts.0 (simp append_assoc);
      original_is =
          c.in_ok-original.ensures ∙ simp (c.as_str.ensures.value, c.in_ok-reference.ensures, append_assoc);
      direct = parts.1;
      whole = inr (rest.now, refl);
      other = failed_test_means_other_name _ _ _ c.eq.ensures c.if-eq.false;
    }

pub returns-in_default-split_once-clause-some : goal.returns-in_default-split_once-clause-some
returns-in_default-split_once-clause-some c =
    let direct = split_parts 47 _ None c.in_default-split_once.ensures.cases (omega arith) in
    reference_is_original _ _ _ _ c.lone_original.result c.in-Some.ensures direct c.lone_original.ensures.some

pub returns-in_default-split_once-clause-none : goal.returns-in_default-split_once-clause-none
returns-in_default-split_once-clause-none c none original o =
    no_original_of_reference _ _ _ original _ o c.in-Some.ensures c.in_default-split_once.ensures.cases
    (c.lone_original.ensures.none none)

pub returns-then-eq-clause-none : goal.returns-then-eq-clause-none
returns-then-eq-clause-none c none original o =
    let language = c.in-Some-split_once.language in
    let rest = c.in-Some-split_once.rest in
    let parts = split_parts 47 _ (Some (language, rest)) c.in-Some-split_once.ensures.cases (omega arith) in
    no_original_in_reference _ _ _ original _ language rest o c.in-Some.ensures parts.0
    c.in-Some-split_once.ensures.cases (passed_test_means_same_name _ _ _ c.eq.ensures c.if-eq.true)
