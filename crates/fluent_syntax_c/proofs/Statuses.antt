-- Statuses and their numbers, and what calls leave by them.
use Rattle.std.proofs.Common.{◌≡◌, ◌==◌, ℕ, List, Option, Some, None, Result, Ok, Err, IfOk, IsOkAnd, cond}
use Rattle.std.proofs.Common.{refl, sym, ap, ◌∙◌}
use Rattle.std.proofs.Common.{subst, inl, inr}
use Rattle.std.specs.Global.{Global}
use Rattle.std.specs.Prelude.{◌↔◌, ◌⊎◌, IfErr, Vec}
use Rattle.std.specs.List.{find}
use Rattle.fluent_syntax_writer.specs.SingleRule.{every_rule}
use Rattle.fluent_syntax_writer.specs.declared.canonical.rules.Rule.{Rule}
use Rattle.fluent_syntax_writer.specs.declared.canonical.rules.Rule.TheVariants as rule
use Rattle.ftl.specs.declared.outcome.Outcome.{Outcome}
use Rattle.ftl.specs.declared.outcome.Outcome.TheVariants as outcome
use Rattle.fluent_syntax_c.specs.declared.status.Refusal.{Refusal}
use Rattle.fluent_syntax_c.specs.declared.status.Refusal.TheVariants.{Argument, Input, Memory, Depth, Tree}
use Rattle.fluent_syntax_c.specs.declared.status.EditRefusal.{EditRefusal}
use Rattle.fluent_syntax_c.specs.declared.status.EditRefusal.TheVariants.{NotFound, NotOneEntry, ReadsOtherwise}
use Rattle.fluent_syntax_c.specs.declared.status.EditRefusal.TheVariants.{NoValue, PartHasErrors, Overlap, NotCanonical}
use Rattle.fluent_syntax_c.specs.declared.status.Status.{Status}
use Rattle.fluent_syntax_c.specs.declared.status.Status.TheVariants.{Clean, SyntaxErrors, TooSmall, Refused, NotEdited}
use Rattle.fluent_syntax_c.specs.Status.{EndsAs, edit_refusal_number, refusal_number, status_number}
use Rattle.fluent_syntax_c.specs.Arguments.{IsNoEdition}
use Rattle.fluent_syntax_c.specs.Output.{LeavesOutput}
use Rattle.fluent_syntax_c.specs.Rows.{IsCallResult, Gives}
use Rattle.fluent_syntax_c.specs.Rules.{rule_number}

-- that a rule is broken, if there is one
abbrev rule_status : Option Rule → Status
rule_status None = Clean
rule_status (Some broken) = NotEdited (NotCanonical broken)

-- the status of a number
abbrev status_of_number : ℕ → Status
status_of_number n =
    cond (n == 0) Clean (cond (n == 1) SyntaxErrors (cond (n == 2) (Refused Argument)
    (cond (n == 3) (Refused Input) (cond (n == 4) (Refused Memory) (cond (n == 5) TooSmall
    (cond (n == 6) (Refused Depth) (cond (n == 7) (Refused Tree) (cond (n == 8) (NotEdited NotFound)
    (cond (n == 9) (NotEdited NotOneEntry) (cond (n == 10) (NotEdited ReadsOtherwise)
    (cond (n == 11) (NotEdited NoValue) (cond (n == 12) (NotEdited PartHasErrors) (cond (n == 13) (NotEdited Overlap)
    (rule_status (find (λ broken. rule_number broken == n) every_rule)))))))))))))))

number_reads_back : (status : Status) → status_of_number (status_number status) ≡ status
number_reads_back Clean = refl
number_reads_back SyntaxErrors = refl
number_reads_back TooSmall = refl
number_reads_back (Refused Argument) = refl
number_reads_back (Refused Input) = refl
number_reads_back (Refused Memory) = refl
number_reads_back (Refused Depth) = refl
number_reads_back (Refused Tree) = refl
number_reads_back (NotEdited NotFound) = refl
number_reads_back (NotEdited NotOneEntry) = refl
number_reads_back (NotEdited ReadsOtherwise) = refl
number_reads_back (NotEdited NoValue) = refl
number_reads_back (NotEdited PartHasErrors) = refl
number_reads_back (NotEdited Overlap) = refl
number_reads_back (NotEdited (NotCanonical rule.Junk)) = refl
number_reads_back (NotEdited (NotCanonical rule.EmptyMessage)) = refl
number_reads_back (NotEdited (NotCanonical rule.LfInComment)) = refl
number_reads_back (NotEdited (NotCanonical rule.EmptyPattern)) = refl
number_reads_back (NotEdited (NotCanonical rule.EmptyText)) = refl
number_reads_back (NotEdited (NotCanonical rule.BraceInText)) = refl
number_reads_back (NotEdited (NotCanonical rule.CrBeforeLf)) = refl
number_reads_back (NotEdited (NotCanonical rule.LfWithinText)) = refl
number_reads_back (NotEdited (NotCanonical rule.TextAfterText)) = refl
number_reads_back (NotEdited (NotCanonical rule.BlankFirstText)) = refl
number_reads_back (NotEdited (NotCanonical rule.LeadingSpace)) = refl
number_reads_back (NotEdited (NotCanonical rule.BlankEnd)) = refl
number_reads_back (NotEdited (NotCanonical rule.LineOfSpaces)) = refl
number_reads_back (NotEdited (NotCanonical rule.MarkedLine)) = refl
number_reads_back (NotEdited (NotCanonical rule.ForbiddenSelector)) = refl
number_reads_back (NotEdited (NotCanonical rule.SecondDefault)) = refl
number_reads_back (NotEdited (NotCanonical rule.TermAttribute)) = refl
number_reads_back (NotEdited (NotCanonical rule.ForbiddenCallee)) = refl
number_reads_back (NotEdited (NotCanonical rule.ForbiddenArgument)) = refl
number_reads_back (NotEdited (NotCanonical rule.RepeatedArgument)) = refl
number_reads_back (NotEdited (NotCanonical rule.MisspelledString)) = refl
number_reads_back (NotEdited (NotCanonical rule.MisspelledNumber)) = refl
number_reads_back (NotEdited (NotCanonical rule.MisspelledName)) = refl
number_reads_back (NotEdited (NotCanonical rule.EmptyComment)) = refl
number_reads_back (NotEdited (NotCanonical rule.BlankCommentLine)) = refl
number_reads_back (NotEdited (NotCanonical rule.HiddenMark)) = refl
number_reads_back (NotEdited (NotCanonical rule.CommonIndent)) = refl
number_reads_back (NotEdited (NotCanonical rule.SpacesOnBlankLine)) = refl
number_reads_back (NotEdited (NotCanonical rule.NoDefault)) = refl

-- no two statuses have one number
status_number_is_injective : (a b : Status) → status_number a ≡ status_number b → a ≡ b
status_number_is_injective a b e = sym (number_reads_back a) ∙ ap status_of_number e ∙ number_reads_back b

-- The number of a refusal is given exactly where the answer is that refusal.
pub refused_status_is_refused_answer_exactly : {X : Type 0} (answer : Result X Refusal) (number : ℕ) (status : Status) →
    number ≡ status_number status → ((why : Refusal) → (status ≡ Refused why) ↔ (answer ≡ Err why)) → (why : Refusal) →
    (number ≡ refusal_number why) ↔ (answer ≡ Err why)
refused_status_is_refused_answer_exactly answer number status is refused why = (
  (λ e. (refused why).0 (status_number_is_injective status (Refused why) (sym is ∙ e))),
  (λ e. is ∙ ap status_number ((refused why).1 e)),
)

-- What is stated exactly of an answer that is given exactly where P holds, is stated exactly there.
pub iff_is_transitive : {Stated Answered P : Type 0} → (Stated ↔ Answered) → (Answered ↔ P) → Stated ↔ P
iff_is_transitive stated answered = ((λ e. answered.0 (stated.0 e)), (λ p. stated.1 (answered.1 p)))

-- Where nothing that nests deeper is answered, no number is wrong and no tree is asked for, what nests deeper is
-- refused: for its bytes, for want of memory, or for its depth.
pub deeper_is_refused_by_three_statuses : {X : Type 0} (answer : Result X Refusal) (number : ℕ) (Deeper : Type 0) →
    ((why : Refusal) → (number ≡ refusal_number why) ↔ (answer ≡ Err why)) →
    IfOk answer (λ given. Deeper → ⊥) → (answer ≡ Err Argument → Deeper → ⊥) → (answer ≡ Err Tree → Deeper → ⊥) →
    Deeper →
    (number ≡ 3) ⊎ (number ≡ 4) ⊎ (number ≡ 6)
deeper_is_refused_by_three_statuses (Ok given) number Deeper refused shallow known tree deeper = absurd (shallow deeper)
deeper_is_refused_by_three_statuses (Err Argument) number Deeper refused shallow known tree deeper =
    absurd (known refl deeper)
deeper_is_refused_by_three_statuses (Err Input) number Deeper refused shallow known tree deeper =
    inl ((refused Input).1 refl)
deeper_is_refused_by_three_statuses (Err Memory) number Deeper refused shallow known tree deeper =
    inr (inl ((refused Memory).1 refl))
deeper_is_refused_by_three_statuses (Err Depth) number Deeper refused shallow known tree deeper =
    inr (inr ((refused Depth).1 refl))
deeper_is_refused_by_three_statuses (Err Tree) number Deeper refused shallow known tree deeper =
    absurd (tree refl deeper)

-- what was given is what was asked for, where the answer is
expected_holds_of_answered_items : {A X E : Type 0} (expected : List A → Outcome → Type 0) (items_of : X → List A)
    (found_of : X → Outcome) (answer : Result X E) → IfOk answer (λ given. expected (items_of given) (found_of given)) →
    (items : List A) (found : Outcome) →
    IsOkAnd answer (λ given. (items_of given ≡ items) × (found_of given ≡ found)) → expected items found
expected_holds_of_answered_items expected items_of found_of (Ok given) is items found same =
    subst (λ xs. expected xs found) same.0 (subst (λ o. expected (items_of given) o) same.1 is)
expected_holds_of_answered_items expected items_of found_of (Err e) is items found same = absurd same

-- a call leaves what another one asked for, if that is all that was asked for
LeavesOutput-as : {A : Type 0} (P Q : List A → Outcome → Type 0) (before after : List A) (count : ℕ) (status : Status) →
    ((items : List A) (found : Outcome) → P items found → Q items found) →
    LeavesOutput P before after count status → LeavesOutput Q before after count status
LeavesOutput-as P Q before after count Clean to h = (h.0, to h.0 outcome.Clean h.1, h.2)
LeavesOutput-as P Q before after count SyntaxErrors to h = (h.0, to h.0 outcome.SyntaxErrors h.1, h.2)
LeavesOutput-as P Q before after count TooSmall to h = (h.0, (h.1.0, to h.0 h.1.0 h.1.1), h.2, h.3)
LeavesOutput-as P Q before after count (Refused why) to h = h
LeavesOutput-as P Q before after count (NotEdited why) to h = h

-- What was asked for was answered, and the answer given.
pub answered_is_left : {A X E : Type 0} (expected : List A → Outcome → Type 0) (items_of : X → List A)
    (found_of : X → Outcome) (answer : Result X E) (before after : List A) (count number : ℕ) →
    IfOk answer (λ given. expected (items_of given) (found_of given)) →
    EndsAs number
    (LeavesOutput (λ items found. IsOkAnd answer (λ given. (items_of given ≡ items) × (found_of given ≡ found)))
    before after count) → EndsAs number (LeavesOutput expected before after count)
answered_is_left expected items_of found_of answer before after count number is h = (
  h.0,
  h.1,
  LeavesOutput-as _ expected before after count h.0
      (expected_holds_of_answered_items expected items_of found_of answer is) h.2,
)

-- Rows that were answered are given.
pub answer_is_given : {A : Type 0} (number : ℕ) (expected : List A → Outcome → Type 0) (AreTexts Long Deeper : Type 0)
    (answer : Result (Vec A Global × Outcome) Refusal) (before after : List A) (count status : ℕ) →
    IsCallResult number expected AreTexts Long Deeper answer →
    EndsAs status
    (LeavesOutput (λ items found. IsOkAnd answer (λ given. (given.0.items ≡ items) × (given.1 ≡ found))) before after
    count) →
    ((why : Refusal) → (status ≡ refusal_number why) ↔ (answer ≡ Err why)) →
    Gives number expected AreTexts Long Deeper before after count status
answer_is_given number expected AreTexts Long Deeper answer before after count status h leaves refused = record {
  leaves =
      answered_is_left expected (λ given. given.0.items) (λ given. given.1) answer before after count status h.rows
      leaves;
  argument = iff_is_transitive (refused Argument) h.argument;
  input = λ known. iff_is_transitive (refused Input) (h.input known);
  deep = λ stated. h.deep ((refused Depth).0 stated);
  deeper = λ stated. h.deeper ((refused Depth).0 stated);
  shallow =
      λ deeper. deeper_is_refused_by_three_statuses answer status Deeper refused h.shallow h.read (λ e d. h.tree e)
      deeper;
}

-- These are the rows, where they are those that are asked for, the edition is known, all texts are UTF-8, and none
-- nests deeper than it may.
pub expected_rows_are_call_result : {A : Type 0} (number : ℕ) (expected : List A → Outcome → Type 0)
    (AreTexts Long Deeper : Type 0)
    (rows : Vec A Global) (outcome : Outcome) → expected rows.items outcome → ¬ (IsNoEdition number) → AreTexts →
    (Deeper → ⊥) → IsCallResult number expected AreTexts Long Deeper (Ok (rows, outcome))
expected_rows_are_call_result number expected AreTexts Long Deeper rows outcome is known texts shallow = record {
  rows = is;
  argument = ((λ e. cc), (λ none. absurd (known none)));
  input = λ known. ((λ e. cc), (λ no. absurd (no texts)));
  deep = λ e. cc;
  deeper = λ e. cc;
  shallow = shallow;
  read = λ e. cc;
  tree = λ e. cc;
}

-- what neither of two gives, one of them does not
pub either_of_two_absurd_is_absurd : {P Q : Type 0} → (P → ⊥) → (Q → ⊥) → P ⊎ Q → ⊥
either_of_two_absurd_is_absurd first second (inl p) = first p
either_of_two_absurd_is_absurd first second (inr q) = second q

-- what an edit made is what was asked for
edited_text_is_expected : (expected : List ℕ → Outcome → Type 0)
    (answer : Result (Result (Vec ℕ Global × Outcome) EditRefusal) Refusal) →
    IfOk answer (λ made. IfOk made (λ given. expected given.0.items given.1)) → (items : List ℕ) (found : Outcome) →
    IsOkAnd answer (λ made. IsOkAnd made (λ given. (given.0.items ≡ items) × (given.1 ≡ found))) →
    expected items found
edited_text_is_expected expected (Ok made) is items found same =
    expected_holds_of_answered_items expected (λ given. given.0.items) (λ given. given.1) made is items found same
edited_text_is_expected expected (Err e) is items found same = absurd same

-- The new text that was answered is left.
pub new_text_is_left : (expected : List ℕ → Outcome → Type 0)
    (answer : Result (Result (Vec ℕ Global × Outcome) EditRefusal) Refusal) (before after : List ℕ)
    (count status : ℕ) → IfOk answer (λ made. IfOk made (λ given. expected given.0.items given.1)) →
    EndsAs status
    (LeavesOutput (λ items found. IsOkAnd answer (λ made. IsOkAnd made
    (λ given. (given.0.items ≡ items) × (given.1 ≡ found)))) before after count) →
    EndsAs status (LeavesOutput expected before after count)
new_text_is_left expected answer before after count status made leaves = (
  leaves.0,
  leaves.1,
  LeavesOutput-as _ expected before after count leaves.0 (edited_text_is_expected expected answer made) leaves.2,
)

-- The new text that was answered is given.
pub new_text_is_given : (number : ℕ) (expected : List ℕ → Outcome → Type 0) (AreTexts Long Deeper : Type 0)
    (answer : Result (Result (Vec ℕ Global × Outcome) EditRefusal) Refusal) (before after : List ℕ)
    (count status : ℕ) → IfOk answer (λ made. IfOk made (λ given. expected given.0.items given.1)) →
    ((answer ≡ Err Argument) ↔ IsNoEdition number) →
    (¬ (IsNoEdition number) → ((answer ≡ Err Input) ↔ ¬ AreTexts)) → (answer ≡ Err Depth → Long) →
    (answer ≡ Err Depth → Deeper) → IfOk answer (λ made. Deeper → ⊥) → (IsNoEdition number → Deeper → ⊥) →
    (answer ≡ Err Tree → ⊥) →
    EndsAs status
    (LeavesOutput (λ items found. IsOkAnd answer (λ made. IsOkAnd made
    (λ given. (given.0.items ≡ items) × (given.1 ≡ found)))) before after count) →
    ((why : Refusal) → (status ≡ refusal_number why) ↔ (answer ≡ Err why)) →
    Gives number expected AreTexts Long Deeper before after count status
new_text_is_given number expected AreTexts Long Deeper answer before after count status made argument input deep deeper
    shallow read tree leaves refused = record {
      leaves = new_text_is_left expected answer before after count status made leaves;
      argument = iff_is_transitive (refused Argument) argument;
      input = λ known. iff_is_transitive (refused Input) (input known);
      deep = λ stated. deep ((refused Depth).0 stated);
      deeper = λ stated. deeper ((refused Depth).0 stated);
      shallow = λ nests.
          deeper_is_refused_by_three_statuses answer status Deeper refused shallow (λ e. read (argument.0 e))
          (λ e d. tree e) nests;
    }

-- An edit that is not made is reported exactly as it was answered.
pub not_edited_exactly : (number : ℕ) (status : Status) (why : EditRefusal) → number ≡ status_number status →
    number ≡ edit_refusal_number why → status ≡ NotEdited why
not_edited_exactly number status why is stated = status_number_is_injective status (NotEdited why) (sym is ∙ stated)

-- no two refusals have one number
pub equal_refusal_numbers_are_of_same_refusal : (why other : Refusal) → refusal_number why ≡ refusal_number other →
    why ≡ other
equal_refusal_numbers_are_of_same_refusal why other e =
    let same : Refused why ≡ Refused other = status_number_is_injective (Refused why) (Refused other) e in cc

-- what is said of an edit that was not made
pub unmade_edit_has_reason : {X : Type 0} (P : EditRefusal → Type 0) (answer : Result (Result X EditRefusal) Refusal)
    (why : EditRefusal) → answer ≡ Ok (Err why) → IfOk answer (λ made. IfErr made P) → P why
unmade_edit_has_reason P answer why e h = subst (λ r. IfOk r (λ made. IfErr made P)) e h
