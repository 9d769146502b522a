-- Edits: what was read of the source and of the part that is new.
use Rattle.std.proofs.Common.{◌≡◌, ◌≢◌, ◌<◌, ◌∷◌, [], ℕ, List, Option, Some, None, Result, Ok, Err, String, IfSome}
use Rattle.std.proofs.Common.{IfNone, IfOk, IsOkAnd, Bor, length, map}
use Rattle.std.proofs.Common.{refl, sym, ap, ◌∙◌, subst}
use Rattle.std.specs.Global.{Global}
use Rattle.std.specs.Prelude.{◌↔◌, ◌⊎◌, IfErr, Vec}
use Rattle.std.specs.Str.{IsUtf8}
use Rattle.fluent_syntax_tree.specs.Entry.{AttributeTree, BodyTree, EntryTree}
use Rattle.fluent_syntax_tree.specs.Tree.{PatternTree}
use Rattle.fluent_syntax_tree.specs.View.{entry_view, resource_view}
use Rattle.fluent_syntax_tree.specs.declared.ast.Entry.{Entry}
use Rattle.fluent_syntax_tree.specs.declared.edition.Edition.{Edition}
use Rattle.fluent_syntax_tree.specs.declared.edition.Edition.TheVariants.{One, Two}
use Rattle.fluent_syntax_grammar.specs.Body.{faults}
use Rattle.fluent_syntax_grammar.specs.Joined.{joined_pattern}
use Rattle.fluent_syntax_grammar.specs.RoundTrip.{ReadsAs, tree_of}
use Rattle.fluent_syntax_grammar.specs.Tiling.{Fault}
use Rattle.fluent_syntax_grammar.specs.Written.{Text}
use Rattle.fluent_syntax_grammar.proofs.OneTiling.{tilings_of_text_are_same}
use Rattle.fluent_syntax_edits.specs.Changes.{Change, inserts, replaces, joined_part}
use Rattle.fluent_syntax_edits.specs.Edits.{IsEditResult}
use Rattle.fluent_syntax_edits.specs.declared.fault.EditFault.{EditFault}
use Rattle.fluent_syntax_edits.specs.AttributeChanges.{sets_attribute}
use Rattle.ftl.specs.Answer.{outcome_of, outcome_with}
use Rattle.ftl.specs.declared.outcome.Outcome.{Outcome}
use Rattle.ftl.specs.declared.outcome.Outcome.TheVariants.{Clean, SyntaxErrors}
use Rattle.fluent_syntax_c.specs.Arguments.{IsNoEdition, edition_number}
use Rattle.fluent_syntax_c.specs.Depth.{EditionReadsDeeper}
use Rattle.fluent_syntax_c.specs.Edits.{GivesEdit, IsEdited, IsEditionTextTree, IsNotEdited, IsTextTree, SetsValue}
use Rattle.fluent_syntax_c.specs.Edits.{Spells, attribute_number, part_source, place_of, value_message}
use Rattle.fluent_syntax_c.specs.Output.{LeavesOutput}
use Rattle.fluent_syntax_c.specs.Status.{EndsAs, edit_refusal_number, refusal_number}
use Rattle.fluent_syntax_c.specs.declared.status.EditRefusal.{EditRefusal}
use Rattle.fluent_syntax_c.specs.declared.status.Refusal.{Refusal}
use Rattle.fluent_syntax_c.specs.declared.status.Refusal.TheVariants.{Argument, Input, Depth, Tree}
use Rattle.fluent_syntax_c.proofs.Statuses.{either_of_two_absurd_is_absurd, new_text_is_given, unmade_edit_has_reason}
use Rattle.fluent_syntax_c.specs.declared.edited.Action.{Action}
use Rattle.fluent_syntax_c.specs.declared.edited.Action.TheVariants.{SetValue, SetAttribute, Replace, Insert}
use Rattle.fluent_syntax_c.specs.declared.text_trees.TextTree.{TextTree}

-- no two editions have one number
pub edition_number_is_injective : (a b : Edition) → edition_number a ≡ edition_number b → a ≡ b
edition_number_is_injective One One e = refl
edition_number_is_injective One Two e = cc
edition_number_is_injective Two One e = cc
edition_number_is_injective Two Two e = refl

-- what has no errors has no faults
clean_text_has_no_faults : (fs : List Fault) → outcome_with fs ≡ Clean → fs ≡ []
clean_text_has_no_faults [] e = refl
clean_text_has_no_faults (f ∷ fs) e = cc

module _ (edition : Edition) (t : List ℕ) (read : TextTree) (is : IsTextTree edition t read) where
  -- a text without errors reads as its tree
  pub clean_reading_reads_as_its_tree : (tree : BodyTree Text) → read.outcome ≡ Clean →
      resource_view (λ text. text.now) read.tree ≡ tree → ReadsAs edition t tree
  clean_reading_reads_as_its_tree tree clean same = record {
    tiles = is.tiles;
    tiling = is.has_tiles;
    no_faults = clean_text_has_no_faults (faults is.tiles) (sym is.outcome_is ∙ clean);
    same = sym is.tree_is ∙ same;
  }

  -- what a text reads as without errors is its tree
  pub readable_text_is_read_to_its_tree : (tree : BodyTree Text) → ReadsAs edition t tree →
      resource_view (λ text. text.now) read.tree ≡ tree
  readable_text_is_read_to_its_tree tree reads =
      let same = tilings_of_text_are_same edition t is.tiles reads.tiles is.has_tiles reads.tiling in
      is.tree_is ∙ ap (tree_of t) same ∙ reads.same

  pub readable_text_is_read_clean : (tree : BodyTree Text) → ReadsAs edition t tree → read.outcome ≡ Clean
  readable_text_is_read_clean tree reads =
      let same = tilings_of_text_are_same edition t is.tiles reads.tiles is.has_tiles reads.tiling in
      is.outcome_is ∙ ap outcome_of same ∙ ap outcome_with reads.no_faults

  -- the only entry of a text without errors is what it reads as
  pub clean_text_of_one_entry_reads_as_it : (answer : Option (Bor (Entry (Bor (List ℕ)))))
      (entries : List (Entry (Bor (List ℕ)))) → entries ≡ read.tree.body.items → read.outcome ≡ Clean →
      IfSome answer (λ entry. map (entry_view (λ text. text.now)) entries
      ≡ entry_view (λ text. text.now) entry.now ∷ []) →
      IfSome answer (λ entry. ReadsAs edition t (entry_view (λ text. text.now) entry.now ∷ []))
  clean_text_of_one_entry_reads_as_it (Some entry) entries same clean found =
      clean_reading_reads_as_its_tree _ clean (ap (map (entry_view (λ text. text.now))) (sym same) ∙ found)
  clean_text_of_one_entry_reads_as_it None entries same clean found = found

  pub no_entry_reads : (answer : Option (Bor (Entry (Bor (List ℕ))))) (entries : List (Entry (Bor (List ℕ)))) →
      entries ≡ read.tree.body.items →
      IfNone answer ((e : EntryTree Text) → map (entry_view (λ text. text.now)) entries ≡ e ∷ [] → ⊥) →
      IfNone answer ((e : EntryTree Text) → ReadsAs edition t (e ∷ []) → ⊥)
  no_entry_reads None entries same none = λ e reads.
      none e (ap (map (entry_view (λ text. text.now))) same ∙ readable_text_is_read_to_its_tree (e ∷ []) reads)
  no_entry_reads (Some entry) entries same none = none

  pub errors_read_none : read.outcome ≡ SyntaxErrors → (e : EntryTree Text) → ReadsAs edition t (e ∷ []) → ⊥
  errors_read_none errors e reads = let clean = readable_text_is_read_clean (e ∷ []) reads in cc

-- a text reads as one tree
pub text_reads_as_one_entry : (edition : Edition) (t : List ℕ) (e other : EntryTree Text) → ReadsAs edition t (e ∷ []) →
    ReadsAs edition t (other ∷ []) → e ≡ other
text_reads_as_one_entry edition t e other reads again =
    let same = tilings_of_text_are_same edition t reads.tiles again.tiles reads.tiling again.tiling in
    let trees : e ∷ [] ≡ other ∷ [] = sym reads.same ∙ ap (tree_of t) same ∙ again.same in cc

-- what is said of nothing, where there is nothing
pub IfNone-none : {X : Type 0} {P : Type 0} (answer : Option X) → answer ≡ None → P → IfNone answer P
IfNone-none answer e p = rw e p

pub IfNone-weaker : {X : Type 0} {P Q : Type 0} (answer : Option X) → (P → Q) → IfNone answer P → IfNone answer Q
IfNone-weaker None to p = to p
IfNone-weaker (Some x) to p = p

module _ (action : Action) (edition : Edition) (p : Text) (part : TextTree)
    (is : IsTextTree edition (part_source action p) part) where
  -- what has no value spells no change of one, and what has no entry no change of one
  pub part_that_is_no_value_spells_no_change : action ≡ SetValue →
      ((edition : Edition) (t : List ℕ) → IsTextTree edition t part →
      (v : PatternTree Text) → ReadsAs edition t (value_message v ∷ []) → ⊥) →
      (own : List (AttributeTree Text)) (change : Change) → Spells edition action own p change → ⊥
  part_that_is_no_value_spells_no_change e none own change spells =
      let spelled = subst (λ a. Spells edition a own p change) e spells in
      none edition (part_source SetValue p) (subst (λ a. IsTextTree edition (part_source a p) part) e is) spelled.0
      spelled.1

  pub part_that_is_no_value_spells_no_attribute : (name : Bor (List ℕ)) → action ≡ SetAttribute name →
      ((edition : Edition) (t : List ℕ) → IsTextTree edition t part →
      (v : PatternTree Text) → ReadsAs edition t (value_message v ∷ []) → ⊥) →
      (own : List (AttributeTree Text)) (change : Change) → Spells edition action own p change → ⊥
  part_that_is_no_value_spells_no_attribute name e none own change spells =
      let spelled = subst (λ a. Spells edition a own p change) e spells in
      none edition (part_source SetValue p) (subst (λ a. IsTextTree edition (part_source a p) part) e is) spelled.0
      spelled.1

  pub part_that_is_no_entry_spells_no_replacement : action ≡ Replace →
      ((edition : Edition) (t : List ℕ) → IsTextTree edition t part →
      (e : EntryTree Text) → ReadsAs edition t (e ∷ []) → ⊥) →
      (own : List (AttributeTree Text)) (change : Change) → Spells edition action own p change → ⊥
  part_that_is_no_entry_spells_no_replacement e none own change spells =
      let spelled = subst (λ a. Spells edition a own p change) e spells in
      none edition p (subst (λ a. IsTextTree edition (part_source a p) part) e is) spelled.0 spelled.1

  pub part_that_is_no_entry_spells_no_insertion : action ≡ Insert →
      ((edition : Edition) (t : List ℕ) → IsTextTree edition t part →
      (e : EntryTree Text) → ReadsAs edition t (e ∷ []) → ⊥) →
      (own : List (AttributeTree Text)) (change : Change) → Spells edition action own p change → ⊥
  part_that_is_no_entry_spells_no_insertion e none own change spells =
      let spelled = subst (λ a. Spells edition a own p change) e spells in
      none edition p (subst (λ a. IsTextTree edition (part_source a p) part) e is) spelled.0 spelled.1

  module _ (t : List ℕ) (source : TextTree) (read : IsTextTree edition t source) (n : ℕ)
      (own : List (AttributeTree Text)) (answer : Result (String Global) EditFault) where
    edit_result_of_source_is_edit_result : (change : Change) →
        IsEditResult source.edition source.text.now n change answer → IsEditResult edition t n change answer
    edit_result_of_source_is_edit_result change answers =
        subst (λ u. IsEditResult edition u n change answer) read.text_is
        (subst (λ by. IsEditResult by source.text.now n change answer) read.edition_is answers)

    -- the change that a part spells, and what is answered for it
    pub part_that_is_value_spells_its_setting : action ≡ SetValue → (v : PatternTree Text) →
        ((edition : Edition) (t : List ℕ) →
        IsTextTree edition t part → ReadsAs edition t (value_message v ∷ [])) → (change : Change) →
        IsEditResult source.edition source.text.now n change answer → SetsValue change v →
        (change : Change) × Spells edition action own p change × IsEditResult edition t n change answer
    part_that_is_value_spells_its_setting e v reads change answers sets =
        let spelled = subst (λ a. IsTextTree edition (part_source a p) part) e is in
        let reading = reads edition (part_source SetValue p) spelled in (
          change,
          subst (λ a. Spells edition a own p change) (sym e) (v, reading, sets),
          edit_result_of_source_is_edit_result change answers,
        )

    pub part_that_is_value_spells_its_attribute : (name : Bor (List ℕ)) → action ≡ SetAttribute name → (k : ℕ) →
        k ≡ attribute_number name.now own → (v : PatternTree Text) →
        ((edition : Edition) (t : List ℕ) → IsTextTree edition t part → ReadsAs edition t (value_message v ∷ [])) →
        IsEditResult source.edition source.text.now n (sets_attribute k (joined_pattern v)) answer →
        (change : Change) × Spells edition action own p change × IsEditResult edition t n change answer
    part_that_is_value_spells_its_attribute name e k number v reads answers =
        let spelled = subst (λ a. IsTextTree edition (part_source a p) part) e is in
        let reading = reads edition (part_source SetValue p) spelled in
        let change = sets_attribute k (joined_pattern v) in (
          change,
          subst (λ a. Spells edition a own p change) (sym e)
              (v, reading, ap (λ m. sets_attribute m (joined_pattern v)) number),
          edit_result_of_source_is_edit_result change answers,
        )

    pub part_that_is_entry_spells_its_replacement : action ≡ Replace → (entry : EntryTree Text) →
        ((edition : Edition) (t : List ℕ) → IsTextTree edition t part → ReadsAs edition t (entry ∷ [])) →
        IsEditResult source.edition source.text.now n (replaces (joined_part entry)) answer →
        (change : Change) × Spells edition action own p change × IsEditResult edition t n change answer
    part_that_is_entry_spells_its_replacement e entry reads answers =
        let reading = reads edition p (subst (λ a. IsTextTree edition (part_source a p) part) e is) in (
          replaces (joined_part entry),
          subst (λ a. Spells edition a own p (replaces (joined_part entry))) (sym e) (entry, reading, refl),
          edit_result_of_source_is_edit_result (replaces (joined_part entry)) answers,
        )

    pub part_that_is_entry_spells_its_insertion : action ≡ Insert → (entry : EntryTree Text) →
        ((edition : Edition) (t : List ℕ) → IsTextTree edition t part → ReadsAs edition t (entry ∷ [])) →
        IsEditResult source.edition source.text.now n (inserts (joined_part entry)) answer →
        (change : Change) × Spells edition action own p change × IsEditResult edition t n change answer
    part_that_is_entry_spells_its_insertion e entry reads answers =
        let reading = reads edition p (subst (λ a. IsTextTree edition (part_source a p) part) e is) in (
          inserts (joined_part entry),
          subst (λ a. Spells edition a own p (inserts (joined_part entry))) (sym e) (entry, reading, refl),
          edit_result_of_source_is_edit_result (inserts (joined_part entry)) answers,
        )

-- where the edit is made, by the tree that was read
pub edit_place_is_by_tree : (edition : Edition) (t : List ℕ) (source : TextTree) (is : IsTextTree edition t source)
    (action : Action) (name : Text) (place found : Option ℕ) →
    place ≡ place_of action name (resource_view (λ text. text.now) source.tree) → place ≡ found →
    place_of action name (tree_of t is.tiles) ≡ found
edit_place_is_by_tree edition t source is action name place found stated e =
    ap (place_of action name) (sym is.tree_is) ∙ sym stated ∙ e

-- what holds by the edition by which two texts were read, holds by its number
pub both_have_one_edition : (number : ℕ) (input : List ℕ) (action : Action) (source other : TextTree) (u p : List ℕ) →
    IsEditionTextTree number input source → IsEditionTextTree number u other → u ≡ part_source action p →
    (P : ℕ → Type 0) → ((edition : Edition) → IsTextTree edition input source →
    IsTextTree edition (part_source action p) other → P (edition_number edition)) → P number
both_have_one_edition number input action source other u p one two same P call =
    let editions : two.0 ≡ one.0 = edition_number_is_injective two.0 one.0 (two.1 ∙ sym one.1) in
    let text = subst (λ t. IsTextTree two.0 t other) same two.2 in
    let part = subst (λ e. IsTextTree e (part_source action p) other) editions text in
    subst P one.1 (call one.0 one.2 part)

-- what holds anyway, where there is an answer of which something is known
pub IfOk-anyway : {X E P : Type 0} (Q : X → Type 0) (answer : Result X E) → IfOk answer Q → P → IfOk answer (λ x. P)
IfOk-anyway Q (Ok x) q p = p
IfOk-anyway Q (Err e) q p = q

-- The edit that was made, or the reason why it was not, is given.
pub edit_is_given : (number nesting : ℕ) (t name : List ℕ) (action : Action) (part : List ℕ)
    (answer : Result (Result (Vec ℕ Global × Outcome) EditRefusal) Refusal) (before after : List ℕ)
    (count status : ℕ) →
    IfOk answer (λ made. IfOk made (λ given. IsEdited number t name action part given.0.items given.1)) →
    IfOk answer (λ made. IfErr made (IsNotEdited number t name action part)) →
    ((answer ≡ Err Argument) ↔ IsNoEdition number) →
    (¬ (IsNoEdition number) → ((answer ≡ Err Input) ↔ ¬ (IsUtf8 t × IsUtf8 name × IsUtf8 part))) →
    (answer ≡ Err Depth → (nesting < length t) ⊎ (nesting < length (part_source action part))) →
    (answer ≡ Err Depth → EditionReadsDeeper number t nesting
    ⊎ EditionReadsDeeper number (part_source action part) nesting) →
    IfOk answer (λ made. EditionReadsDeeper number t nesting
    ⊎ EditionReadsDeeper number (part_source action part) nesting → ⊥) → answer ≢ Err Tree →
    EndsAs status
    (LeavesOutput (λ items found. IsOkAnd answer (λ made. IsOkAnd made
    (λ given. (given.0.items ≡ items) × (given.1 ≡ found)))) before after count) →
    ((why : Refusal) → (status ≡ refusal_number why) ↔ (answer ≡ Err why)) →
    ((why : EditRefusal) → status ≡ edit_refusal_number why → answer ≡ Ok (Err why)) →
    GivesEdit number t name action part nesting before after count status
edit_is_given number nesting t name action part answer before after count status edited not_edited argument input deep
    deeper shallow tree leaves refused stated = record {
      gives =
          new_text_is_given number (IsEdited number t name action part) _ _ _ answer before after count status edited
          argument input deep deeper shallow
          (λ none nests. either_of_two_absurd_is_absurd (λ d. none d.0 d.1) (λ d. none d.0 d.1) nests) tree leaves
          refused;
      not_edited = λ why is.
          unmade_edit_has_reason (IsNotEdited number t name action part) answer why (stated why is) not_edited;
    }
