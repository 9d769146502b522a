-- Several edits: what each asks for.
use Rattle.std.proofs.Common.{◌≡◌, ◌∷◌, [], ℕ, List, Option, Some, Result, Ok, Err, IfOk, Bor, String}
use Rattle.std.proofs.Common.{◌+◌, ◌<◌, ◌≤◌, ◌++◌, suc, drop, get_or, length, map, inl, inr, arith}
use Rattle.std.proofs.Common.{refl, sym, ap, ◌∙◌, subst}
use Rattle.std.proofs.Math.Seq.{drop-cons}
use Rattle.std.proofs.lemmas.List.{append-nil, append_assoc, drop_all, get_or_default, map-append}
use Rattle.std.specs.List.{All, Any}
use Rattle.std.specs.Global.{Global}
use Rattle.std.specs.Prelude.{◌⊎◌, IfErr}
use Rattle.fluent_syntax_tree.specs.Entry.{AttributeTree, EntryTree}
use Rattle.fluent_syntax_tree.specs.Tree.{PatternTree}
use Rattle.fluent_syntax_tree.specs.View.{resource_view}
use Rattle.fluent_syntax_tree.specs.declared.edition.Edition.{Edition}
use Rattle.fluent_syntax_grammar.specs.Joined.{joined_pattern}
use Rattle.fluent_syntax_grammar.specs.RoundTrip.{ReadsAs, tree_of}
use Rattle.fluent_syntax_grammar.specs.Tiling.{Tile}
use Rattle.fluent_syntax_grammar.specs.Written.{Text}
use Rattle.fluent_syntax_edits.specs.AttributeChanges.{sets_attribute}
use Rattle.fluent_syntax_edits.specs.Changes.{Change, inserts, joined_part, replaces}
use Rattle.fluent_syntax_edits.specs.SeveralEdits.{IsTextOfReplacements, NumberedChange, numbered_change}
use Rattle.fluent_syntax_edits.specs.declared.fault.EditFault.{EditFault}
use Rattle.fluent_syntax_edits.specs.declared.numbered_edits.NumberedEdit.{NumberedEdit}
use Rattle.fluent_syntax_c.specs.Arguments.{IsNoEdition, edition_number}
use Rattle.fluent_syntax_c.specs.Edits.{Asks, IsEditionTextTree, IsTextTree, SetsValue, Spells, attribute_number}
use Rattle.fluent_syntax_c.specs.Edits.{attributes_at, part_source, place_of, value_message}
use Rattle.fluent_syntax_c.specs.SeveralEdits.{AskFor, AsksFor, HasAction, more, none}
use Rattle.fluent_syntax_c.specs.declared.edited.Action.{Action}
use Rattle.fluent_syntax_c.specs.declared.edited.Action.TheVariants.{SetValue, SetAttribute, Replace, Insert}
use Rattle.fluent_syntax_c.specs.declared.several_edits.FtlEdit.{FtlEdit}
use Rattle.fluent_syntax_c.specs.declared.status.Refusal.{Refusal}
use Rattle.fluent_syntax_c.specs.declared.status.Refusal.TheVariants.{Depth, Input, Memory}
use Rattle.fluent_syntax_c.specs.declared.text_trees.TextTree.{TextTree}
use Rattle.fluent_syntax_c.proofs.PartsRead.{edit_place_is_by_tree, edition_number_is_injective}

-- the change of an edit that was made of a part
answered_edit_has_change : {E : Type 0} (r : Result NumberedEdit E) (n : ℕ) (change : Change) (P : Change → Type 0) →
    IfOk r (λ edit. numbered_change edit ≡ record { number = n; change = change }) → P change →
    IfOk r (λ edit. (x : Change) × (numbered_change edit ≡ record { number = n; change = x }) × P x)
answered_edit_has_change (Ok edit) n change P is p = (change, is, p)
answered_edit_has_change (Err e) n change P is p = tt

module _ {E : Type 0} (action : Action) (edition : Edition) (p : Text) (part : TextTree)
    (is : IsTextTree edition (part_source action p) part) (n : ℕ) (own : List (AttributeTree Text))
    (r : Result NumberedEdit E) where
  -- The edit is of a change that the part spells.
  abbrev IsSpelled : Type 0
  IsSpelled =
      IfOk r (λ edit. (x : Change) × (numbered_change edit ≡ record { number = n; change = x })
      × Spells edition action own p x)

  pub edit_of_value_is_spelled : action ≡ SetValue → (v : PatternTree Text) →
      ((edition : Edition) (t : List ℕ) → IsTextTree edition t part → ReadsAs edition t (value_message v ∷ [])) →
      (change : Change) → IfOk r (λ edit. numbered_change edit ≡ record { number = n; change = change }) →
      SetsValue change v → IsSpelled
  edit_of_value_is_spelled e v reads change answers sets =
      let reading = reads edition (part_source SetValue p) (subst (λ a. IsTextTree edition (part_source a p) part) e is)
      in
      answered_edit_has_change r n change (λ x. Spells edition action own p x) answers
      (subst (λ a. Spells edition a own p change) (sym e) (v, reading, sets))

  pub edit_of_attribute_is_spelled : (name : Bor (List ℕ)) → action ≡ SetAttribute name → (k : ℕ) →
      k ≡ attribute_number name.now own → (v : PatternTree Text) →
      ((edition : Edition) (t : List ℕ) → IsTextTree edition t part → ReadsAs edition t (value_message v ∷ [])) →
      IfOk r (λ edit. numbered_change edit ≡ record { number = n; change = sets_attribute k (joined_pattern v) }) →
      IsSpelled
  edit_of_attribute_is_spelled name e k number v reads answers =
      let reading = reads edition (part_source SetValue p) (subst (λ a. IsTextTree edition (part_source a p) part) e is)
      in
      let change = sets_attribute k (joined_pattern v) in
      answered_edit_has_change r n change (λ x. Spells edition action own p x) answers
      (subst (λ a. Spells edition a own p change) (sym e)
      (v, reading, ap (λ m. sets_attribute m (joined_pattern v)) number))

  pub edit_of_replacement_is_spelled : action ≡ Replace → (entry : EntryTree Text) →
      ((edition : Edition) (t : List ℕ) → IsTextTree edition t part → ReadsAs edition t (entry ∷ [])) →
      IfOk r (λ edit. numbered_change edit ≡ record { number = n; change = replaces (joined_part entry) }) → IsSpelled
  edit_of_replacement_is_spelled e entry reads answers =
      let reading = reads edition p (subst (λ a. IsTextTree edition (part_source a p) part) e is) in
      answered_edit_has_change r n (replaces (joined_part entry)) (λ x. Spells edition action own p x) answers
      (subst (λ a. Spells edition a own p (replaces (joined_part entry))) (sym e) (entry, reading, refl))

  pub edit_of_insertion_is_spelled : action ≡ Insert → (entry : EntryTree Text) →
      ((edition : Edition) (t : List ℕ) → IsTextTree edition t part → ReadsAs edition t (entry ∷ [])) →
      IfOk r (λ edit. numbered_change edit ≡ record { number = n; change = inserts (joined_part entry) }) → IsSpelled
  edit_of_insertion_is_spelled e entry reads answers =
      let reading = reads edition p (subst (λ a. IsTextTree edition (part_source a p) part) e is) in
      answered_edit_has_change r n (inserts (joined_part entry)) (λ x. Spells edition action own p x) answers
      (subst (λ a. Spells edition a own p (inserts (joined_part entry))) (sym e) (entry, reading, refl))

module _ (edition : Edition) (t : List ℕ) (source : TextTree) (is : IsTextTree edition t source) where
  -- an edit that was made of the part asks for its change
  pub spelled_edit_is_asked_for : (action : Action) (name p : Text) (place : Option ℕ) (n : ℕ) (c : NumberedChange)
      (change : Change) → place ≡ place_of action name (resource_view (λ text. text.now) source.tree) →
      place ≡ Some n → c ≡ record { number = n; change = change } →
      Spells edition action (attributes_at n (resource_view (λ text. text.now) source.tree)) p change →
      Asks (edition_number edition) t name action p edition is.tiles c.number c.change
  spelled_edit_is_asked_for action name p place n c change stated found e spells =
      let number : c.number ≡ n = ap (λ (x : NumberedChange). x.number) e in record {
        has_number = refl;
        has_tiles = is.has_tiles;
        place =
            edit_place_is_by_tree edition t source is action name place (Some n) stated found ∙ ap Some (sym number);
        spells =
            subst
            (λ (x : NumberedChange).
            Spells edition action (attributes_at x.number (tree_of t is.tiles)) p x.change)
            (sym e) (subst (λ b. Spells edition action (attributes_at n b) p change) is.tree_is spells);
      }

  -- what was answered of the source
  pub answer_of_source_is_of_text : (cs : List NumberedChange) (r : Result (String Global) EditFault) →
      IsTextOfReplacements source.edition source.text.now cs r → IsTextOfReplacements edition t cs r
  answer_of_source_is_of_text cs r answers =
      subst (λ u. IsTextOfReplacements edition u cs r) is.text_is
      (subst (λ by. IsTextOfReplacements by source.text.now cs r) is.edition_is answers)

-- what holds of an answer, and so what follows from it
pub IfOk-IfOk-to : {X E F : Type 0} (r : Result (Result X E) F) (P Q : X → Type 0) → ((x : X) → P x → Q x) →
    IfOk r (λ a. IfOk a P) → IfOk r (λ a. IfOk a Q)
IfOk-IfOk-to (Ok (Ok x)) P Q to p = to x p
IfOk-IfOk-to (Ok (Err e)) P Q to p = p
IfOk-IfOk-to (Err f) P Q to p = p

pub IfOk-IfErr-to : {X E F : Type 0} (r : Result (Result X E) F) (P Q : E → Type 0) → ((e : E) → P e → Q e) →
    IfOk r (λ a. IfErr a P) → IfOk r (λ a. IfErr a Q)
IfOk-IfErr-to (Ok (Ok x)) P Q to p = p
IfOk-IfErr-to (Ok (Err e)) P Q to p = to e p
IfOk-IfErr-to (Err f) P Q to p = p

-- the part is read by the edition of the number
pub part_is_read_by_edition : (number : ℕ) (by : Edition) (u w : List ℕ) (read : TextTree) →
    IsEditionTextTree number u read → edition_number by ≡ number → u ≡ w → IsTextTree by w read
part_is_read_by_edition number by u w read (other, has, is) stated same =
    let one : other ≡ by = edition_number_is_injective other by (has ∙ sym stated) in
    subst (λ t. IsTextTree by t read) same (subst (λ e. IsTextTree e u read) one is)

module _ (number : ℕ) (t : List ℕ) (edition : Edition) (tiles : List Tile) (edits : List FtlEdit) (i : ℕ)
    (old : List NumberedEdit) where
  -- Whatever the rest of the edits ask for: with these it is what all ask for.
  abbrev pub AskedBefore : Type 0
  AskedBefore =
      (cs : List NumberedChange) → AskFor number t edition tiles (drop i edits) cs →
      AskFor number t edition tiles edits (map numbered_change old ++ cs)

  -- one more
  pub one_more_is_asked_for : (d : FtlEdit) (new : List NumberedEdit) (e : NumberedEdit) → i < length edits →
      new ≡ old ++ e ∷ [] → AsksFor number t edition tiles (get_or edits i d) (numbered_change e) → AskedBefore →
      (cs : List NumberedChange) → AskFor number t edition tiles (drop (i + 1) edits) cs →
      AskFor number t edition tiles edits (map numbered_change new ++ cs)
  one_more_is_asked_for d new e l added asks before cs those =
      let next : suc i ≡ i + 1 = omega arith in
      let rest : drop i edits ≡ get_or edits i d ∷ drop (i + 1) edits =
      drop-cons edits i d l ∙ ap (λ k. get_or edits i d ∷ drop k edits) next in
      let grown : map numbered_change new ++ cs ≡ map numbered_change old ++ (numbered_change e ∷ cs) =
      ap (λ es. map numbered_change es ++ cs) added
      ∙ (ap (λ xs. xs ++ cs) (map-append numbered_change old (e ∷ []))
      ∙ append_assoc (map numbered_change old) (numbered_change e ∷ []) cs) in
      subst (λ xs. AskFor number t edition tiles edits xs) (sym grown)
      (before (numbered_change e ∷ cs)
      (subst (λ es. AskFor number t edition tiles es (numbered_change e ∷ cs)) (sym rest) (more asks those)))

  -- all
  pub all_are_asked_for : length edits ≤ i → AskedBefore →
      AskFor number t edition tiles edits (map numbered_change old)
  all_are_asked_for l before =
      subst (λ xs. AskFor number t edition tiles edits xs) (append-nil (map numbered_change old))
      (before [] (subst (λ es. AskFor number t edition tiles es []) (sym (drop_all i edits l)) none))

-- what holds of one holds of some
pub Any-at : {X : Type 0} (P : X → Type 0) (xs : List X) (i : ℕ) (d : X) → i < length xs → P (get_or xs i d) → Any P xs
Any-at P xs i d l p = (i, get_or xs i d, l, get_or_default xs i (get_or xs i d) d l, p)

-- an answer that is refused for want of memory or by its depth alone
pub refused_answer_is_not_input : {X : Type 0} (r : Result X Refusal) →
    IfErr r (λ why. (why ≡ Memory) ⊎ (why ≡ Depth)) → r ≡ Err Input → ⊥
refused_answer_is_not_input (Ok x) h e = cc
refused_answer_is_not_input (Err why) (inl m) e = let same : Memory ≡ Input = cc in cc
refused_answer_is_not_input (Err why) (inr d) e = let same : Depth ≡ Input = cc in cc

pub known_arguments_are_not_refused : (number : ℕ) (es : List FtlEdit) → ¬ (IsNoEdition number) → All HasAction es →
    IsNoEdition number ⊎ ¬ (All HasAction es) → ⊥
known_arguments_are_not_refused number es known has (inl unknown) = known unknown
known_arguments_are_not_refused number es known has (inr without) = without has
