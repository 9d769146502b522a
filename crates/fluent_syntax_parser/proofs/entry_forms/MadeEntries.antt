-- Entries whose texts were made, and the trees of spans that they represent.
use Rattle.std.proofs.Common.{◌≡◌, ◌<◌, ℕ, suc, ◌-◌, List, [], ◌∷◌, ◌++◌, length, Bool, true, false, map}
use Rattle.std.proofs.Common.{Option, Some, None, option_map, refl, sym, ap, subst, arith, ◌∙◌}
use Rattle.std.specs.Prelude.{is_some, option_to_list, slice_get, Result, Ok, Err, IfOk}
use Rattle.std.proofs.lemmas.List.{append-nil, append_assoc, map-append, same_from_push}
use Rattle.fluent_syntax_tree.specs.Entry.{BodyTree, EntryTree, body_map, comment, entry_map, group, junk, message}
use Rattle.fluent_syntax_tree.specs.Entry.{regular, resource, term}
use Rattle.fluent_syntax_tree.specs.View.{comment_view, entry_view}
use Rattle.fluent_syntax_tree.specs.declared.ast.Comment.{Comment}
use Rattle.fluent_syntax_tree.specs.declared.ast.Entry.{Entry}
use Rattle.fluent_syntax_tree.specs.declared.ast.Entry.TheVariants as entries
use Rattle.fluent_syntax_tree.specs.declared.edition.Edition.{Edition}
use Rattle.fluent_syntax_tree.specs.declared.errors.ParserError.{ParserError}
use Rattle.fluent_syntax_tree.specs.declared.spans.Span.{Span}
use Rattle.fluent_syntax_grammar.specs.Body.{attached}
use Rattle.fluent_syntax_grammar.specs.Tiling.{Fault}
use Rattle.fluent_syntax_parser.specs.Faults.{fault_of}
use Rattle.fluent_syntax_parser.specs.MadeEntries.{MadeBody, NextMade, commented, ends_with_comment, is_comment}
use Rattle.fluent_syntax_parser.specs.Rest.{EntryAt, EntryTo, NextTo, Rest, faults_of, may_attach, tree_of}
use Rattle.fluent_syntax_parser.specs.declared.options.Comments.{Comments}
use Rattle.fluent_syntax_parser.specs.declared.options.Halt.{Halt}
use Rattle.fluent_syntax_parser.proofs.readers.SameTrees.{identity_keeps_entry}

-- ---- optional values

abbrev option_item_or : {B : Type 0} → B → Option B → B
option_item_or b None = b
option_item_or b (Some c) = c

mapped_some_comes_from_some : {A B : Type 0} (g : A → B) (o : Option A) (b : B) → Some b ≡ option_map g o →
    (a : A) × (o ≡ Some a) × (b ≡ g a)
mapped_some_comes_from_some g None b e = cc
mapped_some_comes_from_some g (Some a) b e = (a, refl, ap (option_item_or b) e)

pub equal_somes_have_equal_values : {X : Type 0} (a b : X) → Some a ≡ Some b → a ≡ b
equal_somes_have_equal_values a b e = ap (option_item_or a) e

-- what is taken from the end of a list that holds one item at most
pub taken_is_only_item : {X : Type 0} (item taken : Option X) (left : List X) →
    option_to_list item ≡ left ++ option_to_list taken →
    (0 < length (option_to_list item) → is_some taken ≡ true) → taken ≡ item
taken_is_only_item None None left same some = refl
taken_is_only_item None (Some y) [] same some = cc
taken_is_only_item None (Some y) (x ∷ left) same some = cc
taken_is_only_item (Some x) None left same some = let taken = some (omega arith) in cc
taken_is_only_item (Some x) (Some y) left same some = ap Some (sym (same_from_push [] left x y same).1)

mapped_none_comes_from_none : {A B : Type 0} (g : A → B) (o : Option A) → None ≡ option_map g o → o ≡ None
mapped_none_comes_from_none g None e = refl
mapped_none_comes_from_none g (Some a) e = cc

-- ---- entries with a comment

-- the tree with the comment, where it is a message or a term
abbrev with_lines : {X : Type 0} → List X → EntryTree X → Option (EntryTree X)
with_lines content (message m) = Some (message (record m { comment = Some content }))
with_lines content (term m) = Some (term (record m { comment = Some content }))
with_lines content (comment level c) = None
with_lines content (junk x) = None

attached_is_with_lines : (content : List Span) (e : EntryTree Span) → attached content e ≡ with_lines content e
attached_is_with_lines content (message m) = refl
attached_is_with_lines content (term m) = refl
attached_is_with_lines content (comment level c) = refl
attached_is_with_lines content (junk x) = refl

with_lines-entry_map : {X : Type 0} (f : Span → X) (content : List Span) (e : EntryTree Span) →
    with_lines (map f content) (entry_map f e) ≡ option_map (entry_map f) (with_lines content e)
with_lines-entry_map f content (message m) = refl
with_lines-entry_map f content (term m) = refl
with_lines-entry_map f content (comment level c) = refl
with_lines-entry_map f content (junk x) = refl

with_lines-entry_view : {S X : Type 0} (v : S → X) (c : Comment S) (e : Entry S) →
    with_lines (comment_view v c) (entry_view v e) ≡ option_map (entry_view v) (commented c e)
with_lines-entry_view v c (entries.Message m) = refl
with_lines-entry_view v c (entries.Term m) = refl
with_lines-entry_view v c (entries.Comment d) = refl
with_lines-entry_view v c (entries.GroupComment d) = refl
with_lines-entry_view v c (entries.ResourceComment d) = refl
with_lines-entry_view v c (entries.Junk x) = refl

-- ---- comments of level 1

may_attach-entry_map : {X : Type 0} (f : Span → X) (e : EntryTree Span) → may_attach (entry_map f e) ≡ may_attach e
may_attach-entry_map f (message m) = refl
may_attach-entry_map f (term m) = refl
may_attach-entry_map f (comment regular c) = refl
may_attach-entry_map f (comment group c) = refl
may_attach-entry_map f (comment resource c) = refl
may_attach-entry_map f (junk x) = refl

may_attach-entry_view : {S X : Type 0} (v : S → X) (e : Entry S) → may_attach (entry_view v e) ≡ is_comment e
may_attach-entry_view v (entries.Message m) = refl
may_attach-entry_view v (entries.Term m) = refl
may_attach-entry_view v (entries.Comment d) = refl
may_attach-entry_view v (entries.GroupComment d) = refl
may_attach-entry_view v (entries.ResourceComment d) = refl
may_attach-entry_view v (entries.Junk x) = refl

is_comment_has_comment : {S : Type 0} (e : Entry S) → is_comment e ≡ true → (c : Comment S) × (e ≡ entries.Comment c)
is_comment_has_comment (entries.Message m) h = cc
is_comment_has_comment (entries.Term m) h = cc
is_comment_has_comment (entries.Comment c) h = (c, refl)
is_comment_has_comment (entries.GroupComment c) h = cc
is_comment_has_comment (entries.ResourceComment c) h = cc
is_comment_has_comment (entries.Junk x) h = cc

-- the last entry, as a slice gives it
abbrev pub last_seen : {S : Type 0} → Option (Entry S) → Bool
last_seen None = false
last_seen (Some e) = is_comment e

ends_with_comment-cons : {S : Type 0} (e : Entry S) (es : List (Entry S)) →
    last_seen (slice_get (e ∷ es) (length es)) ≡ ends_with_comment (e ∷ es)
ends_with_comment-cons e [] = refl
ends_with_comment-cons e (d ∷ es) = ends_with_comment-cons d es

pub last_entry_decides_ends_with_comment : {S : Type 0} (es : List (Entry S)) →
    last_seen (slice_get es (length es - 1)) ≡ ends_with_comment es
last_entry_decides_ends_with_comment [] = refl
last_entry_decides_ends_with_comment (e ∷ es) =
    let before : suc (length es) - 1 ≡ length es = omega arith in
    ap (λ n. last_seen (slice_get (e ∷ es) n)) before ∙ ends_with_comment-cons e es

ends_with_appended : {S : Type 0} (es : List (Entry S)) (e : Entry S) → ends_with_comment (es ++ e ∷ []) ≡ is_comment e
ends_with_appended [] e = refl
ends_with_appended (d ∷ []) e = refl
ends_with_appended (d ∷ x ∷ es) e = ends_with_appended (x ∷ es) e

abbrev lines_or : {X : Type 0} → List X → EntryTree X → List X
lines_or xs (comment level lines) = lines
lines_or xs e = xs

-- one more in the middle
one_is_cons : {X : Type 0} (before : List X) (x : X) (after : List X) → before ++ x ∷ [] ++ after ≡ before ++ x ∷ after
one_is_cons before x after = append_assoc before (x ∷ []) after

module _ {S X : Type 0} (f : Span → X) (v : S → X) where
  module _ (c : Comment S) (e : Entry S) (content : List Span) (tree : EntryTree Span)
      (lines : comment_view v c ≡ map f content) (same : entry_view v e ≡ entry_map f tree) where
    attached_view_is_attached_tree : option_map (entry_view v) (commented c e)
        ≡ option_map (entry_map f) (attached content tree)
    attached_view_is_attached_tree =
        sym (with_lines-entry_view v c e) ∙ ap (λ xs. with_lines xs (entry_view v e)) lines
        ∙ ap (λ x. with_lines (map f content) x) same ∙ with_lines-entry_map f content tree
        ∙ ap (option_map (entry_map f)) (sym (attached_is_with_lines content tree))

    -- the entry with the comment represents the tree with it
    pub attached_entry_has_attached_tree : (with_comment : Entry S) → commented c e ≡ Some with_comment →
        (x : EntryTree Span) × (attached content tree ≡ Some x) × (entry_view v with_comment ≡ entry_map f x)
    attached_entry_has_attached_tree with_comment h =
        mapped_some_comes_from_some (entry_map f) (attached content tree) (entry_view v with_comment)
        (ap (option_map (entry_view v)) (sym h) ∙ attached_view_is_attached_tree)

    pub unattached_entry_has_unattached_tree : commented c e ≡ None → attached content tree ≡ None
    unattached_entry_has_unattached_tree h = mapped_none_comes_from_none (entry_map f) (attached content tree)
        (ap (option_map (entry_view v)) (sym h) ∙ attached_view_is_attached_tree)

  -- what represents a comment of level 1
  tree_of_comment_is_comment : (tree : EntryTree Span) (xs : List X) → comment regular xs ≡ entry_map f tree →
      (content : List Span) × (tree ≡ comment regular content) × (xs ≡ map f content)
  tree_of_comment_is_comment (message m) xs e = cc
  tree_of_comment_is_comment (term m) xs e = cc
  tree_of_comment_is_comment (comment regular c) xs e = (c, refl, ap (lines_or xs) e)
  tree_of_comment_is_comment (comment group c) xs e = cc
  tree_of_comment_is_comment (comment resource c) xs e = cc
  tree_of_comment_is_comment (junk x) xs e = cc

  tree_of_other_entry_may_not_attach : (e : Entry S) (tree : EntryTree Span) → entry_view v e ≡ entry_map f tree →
      is_comment e ≡ false → may_attach tree ≡ false
  tree_of_other_entry_may_not_attach e tree same h =
      sym (may_attach-entry_map f tree) ∙ ap may_attach (sym same) ∙ may_attach-entry_view v e ∙ h

  -- The entry is a comment of level 1, and so is the tree that it represents.
  pub record IsCommentEntry (e : Entry S) (tree : EntryTree Span) : Type 0 where
    pub lines : Comment S
    pub is : e ≡ entries.Comment lines
    pub content : List Span
    pub tree_is : tree ≡ comment regular content
    pub same : comment_view v lines ≡ map f content

  module _ (before body : List (Entry S)) (e : Entry S) (tree : EntryTree Span) (added : body ≡ before ++ e ∷ [])
      (same : entry_view v e ≡ entry_map f tree) where
    last_entry_is_comment_as_body_ends : (b : Bool) → ends_with_comment body ≡ b → is_comment e ≡ b
    last_entry_is_comment_as_body_ends b h = sym (ends_with_appended before e) ∙ ap ends_with_comment (sym added) ∙ h

    pub body_that_ends_with_comment_added_it : ends_with_comment body ≡ true → IsCommentEntry e tree
    body_that_ends_with_comment_added_it h =
        let seen = is_comment_has_comment e (last_entry_is_comment_as_body_ends true h) in
        let of_tree = tree_of_comment_is_comment tree _ (sym (ap (entry_view v) seen.1) ∙ same) in
        record { lines = seen.0; is = seen.1; content = of_tree.0; tree_is = of_tree.1; same = of_tree.2 }

    pub body_that_ends_otherwise_added_no_comment : ends_with_comment body ≡ false → may_attach tree ≡ false
    body_that_ends_otherwise_added_no_comment h =
        tree_of_other_entry_may_not_attach e tree same (last_entry_is_comment_as_body_ends false h)

  -- ---- what was read up to a place, before whatever is left from there on

  pub record MadeTo (comments : Comments) (edition : Edition) (t : List ℕ) (i : ℕ) (body : List (Entry S))
      (errors : List ParserError) : Type 0 where
    pub trees : BodyTree Span
    pub same : map (entry_view v) body ≡ body_map f trees
    pub rest : (others : BodyTree Span) (faults : List (Option Fault)) → Rest comments edition t i others faults →
        Rest comments edition t 0 (trees ++ others) (map fault_of errors ++ faults)

  module _ (comments : Comments) (edition : Edition) (t : List ℕ) where
    pub nothing_is_made_at_start : MadeTo comments edition t 0 [] []
    nothing_is_made_at_start = record { trees = []; same = refl; rest = λ others faults h. h }

    module _ (i : ℕ) (body : List (Entry S)) (errors : List ParserError)
        (read : MadeTo comments edition t i body errors)
      where
        -- with nothing left, all was read
        pub body_made_to_end_is_whole : Rest comments edition t i [] [] → MadeBody f v comments edition t body errors
        body_made_to_end_is_whole none = record {
          trees = read.trees;
          same = read.same;
          rest = rw (← append-nil read.trees, ← append-nil (map fault_of errors)) (read.rest [] [] none);
        }

        -- with the next entry and its error, what was read reaches to where that ends
        pub made_body_grows_by_entry : (j : ℕ) (e : Entry S) (tree : EntryTree Span) (faults : List (Option Fault)) →
            EntryTo comments edition t i j tree faults → entry_view v e ≡ entry_map f tree → (longer : List (Entry S)) →
            longer ≡ body ++ e ∷ [] → (stated : List ParserError) →
            map fault_of stated ≡ map fault_of errors ++ faults →
            MadeTo comments edition t j longer stated
        made_body_grows_by_entry j e tree faults next same longer all stated more = record {
          trees = read.trees ++ tree ∷ [];
          same =
              ap (map (entry_view v)) all ∙ map-append (entry_view v) body (e ∷ [])
              ∙ ap (λ xs. xs ++ entry_view v e ∷ []) read.same ∙ ap (λ x. body_map f read.trees ++ x ∷ []) same
              ∙ sym (map-append (entry_map f) read.trees (tree ∷ []));
          rest = λ others after h. rw
              (one_is_cons read.trees tree others, more, append_assoc (map fault_of errors) faults after)
              (read.rest _ _ (next others after h));
        }

-- what one more error says, if there is one
pub faults_of_stated_errors_append : (errors stated : List ParserError) (error : Option ParserError) →
    stated ≡ errors ++ option_to_list error → map fault_of stated ≡ map fault_of errors ++ faults_of error
faults_of_stated_errors_append errors stated None same = ap (map fault_of) same ∙ map-append fault_of errors []
faults_of_stated_errors_append errors stated (Some e) same =
    ap (map fault_of) same ∙ map-append fault_of errors (e ∷ [])

-- ---- entries of spans

pub made_entry_of_spans_is_entry : (comments : Comments) (edition : Edition) (t : List ℕ) (i start j : ℕ)
    (e : Entry Span)
    (faults : List (Option Fault)) (tree : EntryTree Span) → EntryAt comments edition t i start j tree faults →
    entry_view (λ s. s) e ≡ entry_map (λ s. s) tree → EntryAt comments edition t i start j (tree_of e) faults
made_entry_of_spans_is_entry comments edition t i start j e faults tree next same =
    subst (λ x. EntryAt comments edition t i start j x faults) (sym (same ∙ identity_keeps_entry tree)) next

-- the same of what comes next
made_next_of_spans_is_next : (comments : Comments) (edition : Edition) (t : List ℕ) (i start j : ℕ)
    (found : Option (Entry Span × Option ParserError)) →
    NextMade (λ s. s) (λ s. s) comments edition t i start j found → NextTo comments edition t i start j found
made_next_of_spans_is_next comments edition t i start j None none = none
made_next_of_spans_is_next comments edition t i start j (Some (e, error)) (tree, in_place, same) =
    made_entry_of_spans_is_entry comments edition t i start j e (faults_of error) tree in_place same

pub made_answer_of_spans_is_answer : (comments : Comments) (edition : Edition) (t : List ℕ) (i start j : ℕ)
    (r : Result (Option (Entry Span × Option ParserError)) Halt) →
    IfOk r (NextMade (λ s. s) (λ s. s) comments edition t i start j) → IfOk r (NextTo comments edition t i start j)
made_answer_of_spans_is_answer comments edition t i start j (Ok found) next =
    made_next_of_spans_is_next comments edition t i start j found next
made_answer_of_spans_is_answer comments edition t i start j (Err halt) next = next
