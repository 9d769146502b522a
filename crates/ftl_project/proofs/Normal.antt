-- Where nothing failed in a run that formats in place, each file has become its normal form.
use Rattle.std.proofs.Common.{◌≡◌, ◌⊎◌, ◌∙◌, ℕ, List, [], ◌∷◌, Option, None, Some, Result, Ok, Err, ap, true}
use Rattle.std.proofs.Common.{arith, inl, inr}
use Rattle.std.proofs.Common.{refl, string_bytes, subst, sym, ⊎_elim}
use Rattle.std.proofs.lemmas.List.Elements.{All-cons}
use Rattle.std.specs.Global.{Global}
use Rattle.std.specs.Prelude.{String}
use Rattle.fluent_syntax_grammar.proofs.OneTiling.{tilings_of_text_are_same}
use Rattle.fluent_syntax_grammar.specs.Body.{faults}
use Rattle.fluent_syntax_grammar.specs.RoundTrip.{tree_of}
use Rattle.fluent_syntax_grammar.specs.Tiling.{Fault, Tile, Tiling}
use Rattle.fluent_syntax_grammar.specs.Written.{Text}
use Rattle.fluent_syntax_tree.specs.Entry.{BodyTree}
use Rattle.fluent_syntax_tree.specs.declared.edition.Edition.{Edition}
use Rattle.fluent_syntax_tree.specs.declared.edition.Edition.TheVariants.{One, Two}
use Rattle.ftl.specs.Answer.{IsAnswer, normal_text, outcome_with}
use Rattle.ftl.specs.BlankLines.{IsKept}
use Rattle.ftl.proofs.KeptAgain.{keeping_is_idempotent, kept_text_is_unique}
use Rattle.ftl.specs.Lossless.{is_lossless}
use Rattle.ftl.specs.declared.outcome.Outcome.{Outcome}
use Rattle.ftl.specs.declared.outcome.Outcome.TheVariants.{Clean}
use Rattle.ftl_files.specs.declared.options.BlankLines.{BlankLines}
use Rattle.ftl_files.specs.declared.options.BlankLines.TheVariants.{Keep, Normal}
use Rattle.ftl_project.proofs.Statuses.{status_of_fault_is_at_least_three}
use Rattle.ftl_project.proofs.Reaching.{AllReach-rewrites, AllReach-untouched, AllReach-trans}
use Rattle.ftl_project.proofs.Reaching.{file_that_becomes_next_reaches_it}
use Rattle.ftl_project.specs.Errors.{IsRefused}
use Rattle.ftl_project.specs.Faults.{Failing, IsRead}
use Rattle.ftl_project.specs.Formatting.{AllNormal, FormatsEach, IsProcessed, IsNormal}
use Rattle.ftl_project.specs.Rewriting.{AllReach, BecomesRewriting, IsLossy, Reaches, Rewrites, goes, stays}
use Rattle.ftl_project.specs.Lossless.{IsRewriting, IsWritten, Settles, format_of}
use Rattle.ftl_project.specs.Tally.{Processed, answered, counted, failed}
use Rattle.ftl_project.specs.declared.fault.Fault as run
use Rattle.ftl_project.specs.declared.formatting.replacement.FormatOptions.{FormatOptions}
use Rattle.ftl_project.specs.declared.formatting.replacement.Replacement.{Replacement}
use Rattle.ftl_project.specs.declared.formatting.replacement.Replacement.TheVariants as replacement
use Rattle.ftl_project.specs.declared.tally.Tally.{Tally}
use Rattle.ftl_project.specs.declared.formatting.lossy_entry.LossyEntry.{LossyEntry}

-- ---- a rewriting

-- the tiles of a text that has a normal text, by either edition
answer_has_tiles_of_text : (edition : Edition) (bytes text : Text) (outcome : Outcome)
    (answer : IsAnswer (format_of edition) bytes text outcome) → Tiling edition bytes answer.tiles
answer_has_tiles_of_text One bytes text outcome answer = answer.has_tiles
answer_has_tiles_of_text Two bytes text outcome answer = answer.has_tiles

answer_is_normal_text_of_tiles : (edition : Edition) (bytes text : Text) (outcome : Outcome)
    (answer : IsAnswer (format_of edition) bytes text outcome) → text ≡ normal_text bytes answer.tiles
answer_is_normal_text_of_tiles One bytes text outcome answer = answer.text_is
answer_is_normal_text_of_tiles Two bytes text outcome answer = answer.text_is

-- the tiles are those of the bytes
tiles_of_rewritten_are_its_tiles : (options : FormatOptions) (bytes t : Text) (a : IsRewriting options bytes t)
    (tiles : List Tile) → Tiling options.reading.edition bytes tiles → tiles ≡ a.answer.tiles
tiles_of_rewritten_are_its_tiles options bytes t a tiles tiling =
    let edition = options.reading.edition in
    tilings_of_text_are_same edition bytes tiles a.answer.tiles tiling
    (answer_has_tiles_of_text edition bytes a.normal Clean a.answer)

-- there is one normal text
normal_text_of_rewriting_is_unique : (options : FormatOptions) (bytes t u : Text) (a : IsRewriting options bytes t)
    (b : IsRewriting options bytes u) → b.normal ≡ a.normal
normal_text_of_rewriting_is_unique options bytes t u a b =
    let edition = options.reading.edition in
    answer_is_normal_text_of_tiles edition bytes b.normal Clean b.answer
    ∙ (ap (normal_text bytes) (tiles_of_rewritten_are_its_tiles options bytes t a b.answer.tiles
    (answer_has_tiles_of_text edition bytes b.normal Clean b.answer))
    ∙ sym (answer_is_normal_text_of_tiles edition bytes a.normal Clean a.answer))

-- what is written of a text is one text
written_text_is_unique : (blank_lines : BlankLines) (edition : Edition) (bytes normal t u : Text) →
    IsWritten blank_lines edition bytes normal t → IsWritten blank_lines edition bytes normal u → u ≡ t
written_text_is_unique Normal edition bytes normal t u a b = b ∙ sym a
written_text_is_unique Keep edition bytes normal t u a b = kept_text_is_unique edition bytes normal t u a b

-- there is one at most
rewriting_is_unique : (options : FormatOptions) (bytes t u : Text) → IsRewriting options bytes t →
    IsRewriting options bytes u → u ≡ t
rewriting_is_unique options bytes t u a b =
    let edition = options.reading.edition in
    written_text_is_unique options.blank_lines edition bytes a.normal t u a.written
    (subst (λ normal. IsWritten options.blank_lines edition bytes normal u)
    (normal_text_of_rewriting_is_unique options bytes t u a b)
    b.written)

clean_has_no_faults : (fs : List Fault) → Clean ≡ outcome_with fs → fs ≡ []
clean_has_no_faults [] clean = refl
clean_has_no_faults (f ∷ fs) clean = cc

-- formatting a normal text again changes nothing
normal_text_of_settled_tree_stays : (edition : Edition) (tree : BodyTree Text) (normal again : Text) →
    Settles edition tree normal → IsAnswer (format_of edition) normal again Clean → again ≡ normal
normal_text_of_settled_tree_stays One tree normal again settles answer = (settles again Clean answer).is_same refl
normal_text_of_settled_tree_stays Two tree normal again settles answer = (settles again Clean answer).2

written_text_of_normal_settles : (blank_lines : BlankLines) (edition : Edition) (bytes normal t next u : Text)
    (answer : IsAnswer (format_of edition) bytes normal Clean) →
    is_lossless edition (tree_of bytes answer.tiles) ≡ true → Settles edition (tree_of bytes answer.tiles) normal →
    IsWritten blank_lines edition bytes normal t → IsAnswer (format_of edition) t next Clean →
    IsWritten blank_lines edition t next u → u ≡ t
written_text_of_normal_settles Normal edition bytes normal t next u answer lossless settles is second then =
    let again = subst (λ x. IsAnswer (format_of edition) x next Clean) is second in
    then ∙ (normal_text_of_settled_tree_stays edition (tree_of bytes answer.tiles) normal next settles again ∙ sym is)
written_text_of_normal_settles Keep edition bytes normal t next u answer lossless settles is second then =
    let law = keeping_is_idempotent bytes edition answer.tiles
    (answer_has_tiles_of_text edition bytes normal Clean answer)
    (clean_has_no_faults (faults answer.tiles) answer.outcome_is) lossless t
    (subst (λ n. IsKept edition bytes n t) (answer_is_normal_text_of_tiles edition bytes normal Clean answer) is)
    second.tiles
    (answer_has_tiles_of_text edition t next Clean second) in
    let same = answer_is_normal_text_of_tiles edition t next Clean second ∙ law.same_normal in
    law.settled u (subst (λ n. IsKept edition t n u) same then)

-- it is its own
rewriting_again_changes_nothing : (options : FormatOptions) (bytes t u : Text) → IsRewriting options bytes t →
    IsRewriting options t u → u ≡ t
rewriting_again_changes_nothing options bytes t u a b =
    written_text_of_normal_settles options.blank_lines options.reading.edition bytes a.normal t b.normal u a.answer
    a.lossless a.settles
    a.written b.answer b.written

rewritten_text_is_not_refused : (options : FormatOptions) (bytes t : Text) (errors : _) → IsRewriting options bytes t →
    IsRefused options.reading.edition bytes errors → ⊥
rewritten_text_is_not_refused options bytes t errors a refused =
    refused.3 (ap faults (tiles_of_rewritten_are_its_tiles options bytes t a refused.0 refused.1)
    ∙ clean_has_no_faults (faults a.answer.tiles) a.answer.outcome_is)

rewriting_is_not_lossy : (options : FormatOptions) (bytes t : Text) (entry : LossyEntry) → IsRewriting options bytes t →
    IsLossy options.reading.edition bytes entry → ⊥
rewriting_is_not_lossy options bytes t entry a lossy =
    let reads = lossy.reads in
    let same = ap (tree_of bytes) (sym (tiles_of_rewritten_are_its_tiles options bytes t a reads.tiles reads.tiling))
    ∙ reads.same in
    let lossless = sym (ap (is_lossless options.reading.edition) same) ∙ a.lossless in
    let both = sym lossy.lossy ∙ lossless in
    cc

-- ---- a file whose bytes have one

module _ (options : FormatOptions) (bytes t : Text) (a : IsRewriting options bytes t) where
  file_becomes_rewritten_text : (now new : Option (List ℕ)) → (now ≡ Some bytes) ⊎ (now ≡ Some t) →
      BecomesRewriting options now new → new ≡ Some t
  file_becomes_rewritten_text now new is becomes = ⊎_elim
      (λ e. let step = subst (λ o. BecomesRewriting options o new) e becomes in
      step.2 ∙ ap Some (rewriting_is_unique options bytes t step.0 a step.1))
      (λ e. let step = subst (λ o. BecomesRewriting options o new) e becomes in
      step.2 ∙ ap Some (rewriting_again_changes_nothing options bytes t step.0 a step.1)) is

  reached_file_is_old_or_rewritten : (old new : Option (List ℕ)) → Reaches options old new →
      (old ≡ Some bytes) ⊎ (old ≡ Some t) → (new ≡ Some bytes) ⊎ (new ≡ Some t)
  reached_file_is_old_or_rewritten old new stays is = is
  reached_file_is_old_or_rewritten old new (goes {now = now} more step) is =
      inr (file_becomes_rewritten_text now new (reached_file_is_old_or_rewritten old now more is) step)

  rewritten_file_stays_rewritten : (old new : Option (List ℕ)) → Reaches options old new → old ≡ Some t → new ≡ Some t
  rewritten_file_stays_rewritten old new stays is = is
  rewritten_file_stays_rewritten old new (goes {now = now} more step) is =
      file_becomes_rewritten_text now new (inr (rewritten_file_stays_rewritten old now more is)) step

  -- what was read of the file is those bytes, where they are there
  text_read_from_file_is_its_bytes : (now : Option (List ℕ)) (read : List ℕ) → IsRead now read → now ≡ Some bytes →
      read ≡ bytes
  text_read_from_file_is_its_bytes now read is e = subst (λ o. IsRead o read) e is

-- What was not a fault leaves it as that.
rewritten_file_is_normal : (CallFails : Failing) (options : FormatOptions) (path : List ℕ)
    (old new : List ℕ → Option (List ℕ))
    (result : Replacement) (bytes t : Text) → IsRewriting options bytes t →
    Rewrites CallFails options path old new (Ok result) → (old path ≡ Some bytes) ⊎ (old path ≡ Some t) →
    new path ≡ Some t
rewritten_file_is_normal CallFails options path old new (replacement.Text text) bytes t a (read, is_read, that, puts)
    is =
    file_becomes_rewritten_text options bytes t a (old path) (new path) is
    (file_that_becomes_next_reaches_it (IsRewriting options) (old path) (new path) read (string_bytes text) is_read
    that.0
    puts.0)
rewritten_file_is_normal CallFails options path old new replacement.Same bytes t a (read, is_read, that, untouched) is =
    untouched path ∙ ⊎_elim
    (λ e. e ∙ ap Some (rewriting_is_unique options bytes t bytes a (subst (λ b. IsRewriting options b b)
    (text_read_from_file_is_its_bytes options bytes t a (old path) read is_read e) that))) (λ e. e) is
rewritten_file_is_normal CallFails options path old new (replacement.Errors refused) bytes t a
    (read, is_read, that, untouched) is =
    untouched path ∙ ⊎_elim
    (λ e. absurd (rewritten_text_is_not_refused options bytes t refused.errors.items a (subst
    (λ b. IsRefused options.reading.edition b refused.errors.items)
    (text_read_from_file_is_its_bytes options bytes t a (old path) read is_read e) that)))
    (λ e. e) is
rewritten_file_is_normal CallFails options path old new (replacement.Lossy entry) bytes t a
    (read, is_read, that, untouched) is =
    untouched path ∙ ⊎_elim
    (λ e. absurd (rewriting_is_not_lossy options bytes t entry a (subst (λ b. IsLossy options.reading.edition b entry)
    (text_read_from_file_is_its_bytes options bytes t a (old path) read is_read e) that))) (λ e. e) is

-- ---- a run without faults

no_fault_was_before : (before : Tally) (processed : Processed) → (counted before processed).fault ≡ 0 → before.fault ≡ 0
no_fault_was_before before (answered errors warnings has_problems) none = none
no_fault_was_before before (failed status) none = omega (arith, none)

faultless_status_is_zero : (before : Tally) (status : ℕ) → (counted before (failed status)).fault ≡ 0 → status ≡ 0
faultless_status_is_zero before status none = omega (arith, none)

-- so none of its results is one
faultless_result_was_ok : (result : Result Replacement run.Fault) (before : Tally) (processed : Processed)
    → IsProcessed result processed →
    (counted before processed).fault ≡ 0 → (found : Replacement) × (result ≡ Ok found)
faultless_result_was_ok (Ok found) before processed is none = (found, refl)
faultless_result_was_ok (Err fault) before processed is none =
    let zero_status = faultless_status_is_zero before is.0 (subst (λ m. (counted before m).fault ≡ 0) is.2 none) in
    let least = status_of_fault_is_at_least_three fault is.0 is.1 in
    absurd (omega (arith, zero_status, least))

no_fault_at_start : (CallFails : Failing) (options : FormatOptions) (files : List (String Global))
    (old new : List ℕ → Option (List ℕ)) (before after : Tally) →
    FormatsEach CallFails options files old new before after → after.fault ≡ 0 → before.fault ≡ 0
no_fault_at_start CallFails options [] old new before after each none = sym (ap (λ (t : Tally). t.fault) each.1) ∙ none
no_fault_at_start CallFails options (file ∷ files) old new before after (now, between, formats, rest) none =
    let here = no_fault_at_start CallFails options files now new between after rest none in
    no_fault_was_before before formats.2 (sym (ap (λ (t : Tally). t.fault) formats.4) ∙ here)

AllReach-each : (CallFails : Failing) (options : FormatOptions) (files : List (String Global))
    (old new : List ℕ → Option (List ℕ)) (before after : Tally) →
    FormatsEach CallFails options files old new before after → AllReach options old new
AllReach-each CallFails options [] old new before after each = AllReach-untouched (IsRewriting options) old new each.0
AllReach-each CallFails options (file ∷ files) old new before after (now, between, formats, rest) =
    AllReach-trans (IsRewriting options) old now new
    (AllReach-rewrites CallFails options (string_bytes file) old now formats.0 formats.1)
    (AllReach-each CallFails options files now new between after rest)

-- ---- its files

IsNormal-at : (options : FormatOptions) (old new : Option (List ℕ)) →
    ((bytes t : List ℕ) → old ≡ Some bytes → IsRewriting options bytes t → new ≡ Some t) → IsNormal options old new
IsNormal-at options None new normal = tt
IsNormal-at options (Some bytes) new normal = λ t a. normal bytes t refl a

pub AllNormal-each : (CallFails : Failing) (options : FormatOptions) (files : List (String Global))
    (start old new : List ℕ → Option (List ℕ)) (before after : Tally) → AllReach options start old →
    FormatsEach CallFails options files old new before after → after.fault ≡ 0 → AllNormal options files start new
AllNormal-each CallFails options [] start old new before after reach each none = λ k d below. absurd (omega arith)
AllNormal-each CallFails options (file ∷ files) start old new before after reach (now, between, formats, rest) none =
    let path = string_bytes file in
    let here = no_fault_at_start CallFails options files now new between after rest none in
    let ok = faultless_result_was_ok formats.0 before formats.2 formats.3
    (sym (ap (λ (t : Tally). t.fault) formats.4) ∙ here) in
    let rewrites = subst (λ r. Rewrites CallFails options path old now r) ok.1 formats.1 in
    let beyond = AllReach-each CallFails options files now new between after rest in
    let step = AllReach-rewrites CallFails options path old now formats.0 formats.1 in
    All-cons (λ file. IsNormal options (start (string_bytes file)) (new (string_bytes file))) file files
    (IsNormal-at options (start path) (new path)
    (λ bytes t e a. rewritten_file_stays_rewritten options bytes t a (now path) (new path)
    (beyond path) (rewritten_file_is_normal CallFails options path old now ok.0 bytes t a rewrites
    (reached_file_is_old_or_rewritten options bytes t a (start path) (old path) (reach path) (inl e)))))
    (AllNormal-each CallFails options files start now new between after
    (AllReach-trans (IsRewriting options) start old now reach
    step) rest
    none)
