-- What a table of many names holds.
use Rattle.std.proofs.Common.{◌≡◌, ◌∙◌, ◌≤◌, ℕ, List, [], ◌∷◌, ◌++◌, Bool, true, false, not, ap, arith, length}
use Rattle.std.proofs.Common.{length-append, subst, sym}
use Rattle.std.specs.BTreeMap.{is_at}
use Rattle.std.specs.BTreeSet.{insert_key}
use Rattle.std.specs.Cmp.Lexicographic.{slice_cmp}
use Rattle.std.specs.List.{list_any}
use Rattle.std.specs.Ordering.{nat_cmp}
use Rattle.std.specs.declared.cmp.Ordering.{Ordering}
use Rattle.std.specs.declared.cmp.Ordering.TheVariants.{Equal}
use Rattle.fluent_syntax_grammar.specs.Arguments.{is_used}
use Rattle.fluent_syntax_grammar.specs.NameKeys.{NotesAll, is_key}
use Rattle.fluent_syntax_grammar.proofs.NameKeys.{some_key_equals_name_if_is_key, inserted_key_notes_its_name}
use Rattle.fluent_syntax_parser.specs.Noted.{Notes}

used_is_not_new : (held used new : Bool) → new ≡ not held → held ≡ used → used ≡ not new
used_is_not_new true used new e same = rw e (sym same)
used_is_not_new false used new e same = rw e (sym same)

module _ {K : Type 0} (text : K → List ℕ) where
  -- one name more, where they are many then
  pub keys_note_name_among_many : (cmp : K → K → Ordering) → ((x y : K) → cmp x y ≡ Equal → text x ≡ text y) →
      (keys new : List K)
      (names : List (List ℕ)) (k : K) (n : List ℕ) → NotesAll text keys names → new ≡ insert_key cmp keys k →
      text k ≡ n → 31 ≤ length names → Notes text new (names ++ n ∷ [])
  keys_note_name_among_many cmp same keys new names k n all e f l =
      let size = length-append names (n ∷ []) in (
        λ few. absurd (omega arith),
        λ many. rw e (subst (λ n. NotesAll text (insert_key cmp keys k) (names ++ n ∷ [])) f
            (inserted_key_notes_its_name text cmp same keys names k all)),
      )

  -- a name is new to the table just where none of the names there is it
  pub is_used-new : (keys : List K) (names : List (List ℕ)) (key n : List ℕ) (new : Bool) →
      new ≡ not (list_any (is_at (λ k. slice_cmp nat_cmp key (text k))) keys) → key ≡ n → NotesAll text keys names →
      is_used n names ≡ not new
  is_used-new keys names key n new e same all =
      used_is_not_new _ _ _ e
      (some_key_equals_name_if_is_key text key keys ∙ ap (λ name. is_key text keys name) same ∙ all n)
