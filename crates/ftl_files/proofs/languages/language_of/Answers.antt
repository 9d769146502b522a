use Rattle.std.proofs.Common.{None, arith}
use Rattle.std.proofs.lemmas.Str.Pattern.{split_after, strip_suffix_char}
use Rattle.ftl_files.proofs.LanguageLemmas.{split_at_slash_gives_folder_name, found_language_is_language}
use Rattle.ftl_files.proofs.LanguageLemmas.{found_language_is_not_none, language_at_front_is_found}
use Rattle.ftl_files.proofs.LanguageLemmas.{relative_path_begins_with_language}
use Rattle.ftl_files.proofs.LanguageLemmas.{path_is_joined}
use Rattle.ftl_files.proofs.languages.language_of.Goals as goal

pub returns-clause-some : goal.returns-clause-some
returns-clause-some c =
    let name = c.in_ok-rest.field-0-0 in
    let rest = c.in_ok-rest.rest in
    let parts = split_at_slash_gives_folder_name _ name rest c.in_ok-rest.ensures.cases in
    let (k, found, front, size) = c.in_ok-strip_suffix.ensures.cases in
    let slash = strip_suffix_char 47 _ c.strip_suffix-2.result c.strip_suffix-2.ensures.cases (omega arith) in
    found_language_is_language _ _ _
    (language_at_front_is_found c.args.languages.now name.now rest.now _ c.args.path.now _ k c.strip_suffix-2.result
    c.in_ok-relative_path.ensures parts.0 parts.1 found.1 front slash)

pub returns-in_err-rest-clause-none : goal.returns-in_err-rest-clause-none
returns-in_err-rest-clause-none c none language l =
    let relative = relative_path_begins_with_language _ _ _ _ l c.in_ok-relative_path.ensures in
    split_after 47 _ l.name l.rest None c.in_err-rest.ensures.cases (omega arith) relative l.direct

pub returns-in_err-strip_suffix-clause-none : goal.returns-in_err-strip_suffix-clause-none
returns-in_err-strip_suffix-clause-none c none language l =
    let name = c.in_ok-rest.field-0-0 in
    let rest = c.in_ok-rest.rest in
    let parts = split_at_slash_gives_folder_name _ name rest c.in_ok-rest.ensures.cases in
    c.in_err-strip_suffix.ensures.cases _ (path_is_joined _ name.now rest.now _ _ c.in_ok-relative_path.ensures parts.0)

pub returns-clause-none : goal.returns-clause-none
returns-clause-none c none language l =
    let name = c.in_ok-rest.field-0-0 in
    let rest = c.in_ok-rest.rest in
    let parts = split_at_slash_gives_folder_name _ name rest c.in_ok-rest.ensures.cases in
    let (k, found, front, size) = c.in_ok-strip_suffix.ensures.cases in
    let slash = strip_suffix_char 47 _ c.strip_suffix-2.result c.strip_suffix-2.ensures.cases (omega arith) in
    found_language_is_not_none _ _ _
    (language_at_front_is_found c.args.languages.now name.now rest.now _ c.args.path.now _ k c.strip_suffix-2.result
    c.in_ok-relative_path.ensures parts.0 parts.1 found.1 front slash) none
