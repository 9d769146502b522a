-- The lines of a comment.
use Rattle.std.proofs.Common.{◌≡◌, false, is_some, refl, true≢false}
use Rattle.serde_json.specs.Data.{Data, null, boolean, number, string, array, object}
use Rattle.serde_json.specs.Find.{as_str}
use Rattle.fluent_syntax_json.specs.Reading.{list_by, lines_in}

-- what is no text has to be a list of lines
pub non_text_is_list_of_lines : (d : Data) → is_some (as_str d) ≡ false → lines_in d ≡ list_by as_str d
non_text_is_list_of_lines null e = refl
non_text_is_list_of_lines (boolean b) e = refl
non_text_is_list_of_lines (number n) e = refl
non_text_is_list_of_lines (string x) e = absurd (true≢false e)
non_text_is_list_of_lines (array ds) e = refl
non_text_is_list_of_lines (object ms) e = refl
