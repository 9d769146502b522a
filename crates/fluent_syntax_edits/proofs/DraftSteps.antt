-- What a draft is, edit by edit.
use Rattle.std.proofs.Common.{◌≡◌, ◌⊎◌, inl, inr, ℕ, ◌-◌, ◌+◌, ◌<◌, ◌≤◌, List, [], ◌∷◌, ◌++◌, drop, take, length}
use Rattle.std.proofs.Common.{get_or, map, Result, Ok, Err, string_bytes, refl, sym, ◌∙◌, ap, subst}
use Rattle.std.proofs.lemmas.List.{append-nil, append_assoc}
use Rattle.fluent_syntax_tree.specs.declared.edition.Edition.{Edition}
use Rattle.fluent_syntax_tree.specs.declared.spans.Span.{Span}
use Rattle.fluent_syntax_edits.specs.Changes.{Change, after_line_ends, change_of}
use Rattle.fluent_syntax_edits.specs.Drafts.{IsAdded}
use Rattle.fluent_syntax_edits.specs.EntryPlaces.{HasEntryPlaces, RangeBy, RangeOf}
use Rattle.fluent_syntax_edits.specs.SeveralEdits.{FirstFault, IsReplacement, NumberedChange, Replaces, done, later}
use Rattle.fluent_syntax_edits.specs.SeveralEdits.{next, no_range, numbered_change, spliced}
use Rattle.fluent_syntax_edits.specs.declared.drafts.Draft.{Draft}
use Rattle.fluent_syntax_edits.specs.declared.drafts.Replacement.{Replacement}
use Rattle.fluent_syntax_edits.specs.declared.entry_places.EntryPlace.{EntryPlace}
use Rattle.fluent_syntax_edits.specs.declared.fault.EditFault.{EditFault}
use Rattle.fluent_syntax_edits.specs.declared.fault.EditFault.TheVariants.{Memory}
use Rattle.fluent_syntax_edits.specs.declared.numbered_edits.NumberedEdit.{NumberedEdit}
use Rattle.fluent_syntax_edits.proofs.Dropped.{mapped_rest_is_item_and_rest}

module _ (edition : Edition) (t : List ℕ) where
  pub range_by_places_is_range : (n : ℕ) (change : Change) (ps qs : List EntryPlace) (r : Result Span EditFault) →
      HasEntryPlaces edition t ps → qs ≡ ps → (r ≡ Err Memory) ⊎ RangeBy edition t n change qs r →
      (r ≡ Err Memory) ⊎ RangeOf edition t n change r
  range_by_places_is_range n change ps qs r has e (inl memory) = inl memory
  range_by_places_is_range n change ps qs r (tiles, tiling, same) e (inr by) = inr (record {
    tiles = tiles;
    tiling = tiling;
    by = subst (λ (xs : List EntryPlace). RangeBy edition t n change xs r) (e ∙ same) by;
  })

  pub found_range_is_range : (n : ℕ) (change : Change) (s : Span) → let r : Result Span EditFault = Ok s in
      (r ≡ Err Memory) ⊎ RangeOf edition t n change r → RangeOf edition t n change r
  found_range_is_range n change s (inl e) = cc
  found_range_is_range n change s (inr x) = x

  -- Whatever comes in the place of the rest of the changes, or is their fault: with what the draft has, it is that of
  -- all.
  pub record IsDraftBefore (all rest : List NumberedChange) (d : Draft) : Type 0 where
    pub replaces : (more : List Replacement) → Replaces edition t d.end rest more →
        Replaces edition t 0 all (d.replacements.items ++ more)
    pub fault : (fault : EditFault) → FirstFault edition t d.end rest fault → FirstFault edition t 0 all fault
    pub text : (more : List Replacement) →
        string_bytes d.text ++ spliced t d.end more ≡ spliced t 0 (d.replacements.items ++ more)

  -- no edit yet
  pub empty_draft_is_before_all : (all : List NumberedChange) (d : Draft) → string_bytes d.text ≡ [] →
      d.replacements.items ≡ [] → d.end ≡ 0 → IsDraftBefore all all d
  empty_draft_is_before_all all d empty none start = record {
    replaces = λ more those.
        subst (λ (rs : List Replacement). Replaces edition t 0 all (rs ++ more)) (sym none)
        (subst (λ (k : ℕ). Replaces edition t k all more) start those);
    fault = λ fault first. subst (λ (k : ℕ). FirstFault edition t k all fault) start first;
    text = λ more.
        ap (λ (bs : List ℕ). bs ++ spliced t d.end more) empty
        ∙ (ap (λ (k : ℕ). spliced t k more) start
        ∙ ap (λ (rs : List Replacement). spliced t 0 (rs ++ more)) (sym none));
  }

  module _ (edits : List NumberedEdit) (i : ℕ) (e : NumberedEdit) (there : i < length edits)
      (at : e ≡ get_or edits i e) (d : Draft) where
    -- the next edit comes after the draft
    pub draft_is_before_edit :
        IsDraftBefore (map numbered_change edits) (map numbered_change (drop i edits)) d →
        IsDraftBefore (map numbered_change edits) (numbered_change e ∷ map numbered_change (drop (i + 1) edits)) d
    draft_is_before_edit before =
        subst (λ (rest : List NumberedChange). IsDraftBefore (map numbered_change edits) rest d)
        (mapped_rest_is_item_and_rest numbered_change edits i (i + 1) e there at refl) before

    -- it has no stretch, or there is no memory
    pub fault_of_range_is_first : (fault : EditFault) → let r : Result Span EditFault = Err fault in
        IsDraftBefore (map numbered_change edits) (map numbered_change (drop i edits)) d →
        (r ≡ Err Memory) ⊎ RangeOf edition t e.index (change_of e.edit) r →
        (fault ≡ Memory) ⊎ FirstFault edition t 0 (map numbered_change edits) fault
    fault_of_range_is_first fault before (inl memory) = inl (cc)
    fault_of_range_is_first fault before (inr x) =
        inr ((draft_is_before_edit before).fault fault (no_range x))

  -- one edit more
  pub draft_grows_by_edit : (all rest : List NumberedChange) (c : NumberedChange) (s : Span) (old new : Draft) →
      IsDraftBefore all (c ∷ rest) old → RangeOf edition t c.number c.change (Ok s) → old.end ≤ s.start →
      IsAdded t c.change s old new → IsDraftBefore all rest new
  draft_grows_by_edit all rest c s old new before range order added = record {
    replaces = λ more those.
        let here : IsReplacement edition t c r = record {
          line_ends = added.line_ends;
          few = added.few;
          range = subst (λ (x : Span). RangeOf edition t c.number c.change (Ok x)) (sym added.span) range;
          text = added.text
              ∙ ap (λ (x : Span). after_line_ends added.line_ends c.change t x.end) (sym added.span);
        } in
        let from : old.end ≤ r.span.start = subst (λ (x : Span). old.end ≤ x.start) (sym added.span) order in
        let rest_of = subst (λ (k : ℕ). Replaces edition t k rest more) ends those in
        subst (λ (rs : List Replacement). Replaces edition t 0 all rs) (sym (grown more))
        (before.replaces (r ∷ more) (next here from rest_of));
    fault = λ fault first.
        before.fault fault (later s range order (subst (λ (k : ℕ). FirstFault edition t k rest fault) added.end first));
    text = λ more.
        ap (λ (bs : List ℕ). bs ++ spliced t new.end more) written
        ∙ (ap (λ (k : ℕ). (string_bytes old.text ++ (kept ++ string_bytes r.text)) ++ spliced t k more) ends
        ∙ (append_assoc (string_bytes old.text) (kept ++ string_bytes r.text) (spliced t r.span.end more)
        ∙ (ap (λ bs. string_bytes old.text ++ bs)
        (append_assoc kept (string_bytes r.text) (spliced t r.span.end more))
        ∙ (before.text (r ∷ more) ∙ ap (λ rs. spliced t 0 rs) (sym (grown more))))));
  }
    where
      r : Replacement
      r = added.replacement

      kept : List ℕ
      kept = take (r.span.start - old.end) (drop old.end t)

      ends : new.end ≡ r.span.end
      ends = added.end ∙ ap (λ (x : Span). x.end) (sym added.span)

      written : string_bytes new.text ≡ string_bytes old.text ++ (kept ++ string_bytes r.text)
      written = added.written
          ∙ ap (λ (x : Span).
          string_bytes old.text ++ (take (x.start - old.end) (drop old.end t) ++ string_bytes r.text))
          (sym added.span)

      grown : (more : List Replacement) →
          new.replacements.items ++ more ≡ old.replacements.items ++ (r ∷ more)
      grown more =
          ap (λ rs. rs ++ more) added.replacements ∙ append_assoc old.replacements.items (r ∷ []) more

  -- no edit more
  pub draft_of_all_replaces : (all : List NumberedChange) (d : Draft) → IsDraftBefore all [] d →
      Replaces edition t 0 all d.replacements.items
  draft_of_all_replaces all d before =
      subst (λ (rs : List Replacement). Replaces edition t 0 all rs) (append-nil d.replacements.items)
      (before.replaces [] done)

  pub draft_of_all_is_spliced : (all : List NumberedChange) (d : Draft) → IsDraftBefore all [] d →
      string_bytes d.text ++ drop d.end t ≡ spliced t 0 d.replacements.items
  draft_of_all_is_spliced all d before =
      before.text [] ∙ ap (λ rs. spliced t 0 rs) (append-nil d.replacements.items)
