-- What is read of a text entry by entry, with its texts made: f is what the text of each span represents, and v what a
-- text that was made does.
use Rattle.std.specs.Prelude.{◌≡◌, ℕ, List, [], ◌∷◌, ◌++◌, map, Option, Some, None, Bool, true, false, option_to_list}
use Rattle.fluent_syntax_tree.specs.Entry.{BodyTree, EntryTree, body_map, entry_map, junk}
use Rattle.fluent_syntax_tree.specs.View.{comment_view, entry_view}
use Rattle.fluent_syntax_tree.specs.declared.ast.Comment.{Comment}
use Rattle.fluent_syntax_tree.specs.declared.ast.Entry.{Entry}
use Rattle.fluent_syntax_tree.specs.declared.ast.Entry.TheVariants as entries
use Rattle.fluent_syntax_tree.specs.declared.edition.Edition.{Edition}
use Rattle.fluent_syntax_tree.specs.declared.errors.ParserError.{ParserError}
use Rattle.fluent_syntax_tree.specs.declared.spans.Span.{Span}
use Rattle.fluent_syntax_parser.specs.Faults.{fault_of, refused_as}
use Rattle.fluent_syntax_parser.specs.Rest.{EntryAt, GivesTile, Attaches, Rest, faults_of}
use Rattle.fluent_syntax_parser.specs.declared.fault.Refusal.{Refusal}
use Rattle.fluent_syntax_parser.specs.declared.options.Comments.{Comments}

-- whether the entry is a comment of level 1
abbrev pub is_comment : {S : Type 0} → Entry S → Bool
is_comment (entries.Comment c) = true
is_comment e = false

-- the entry with the comment, where it is a message or a term
abbrev pub commented : {S : Type 0} → Comment S → Entry S → Option (Entry S)
commented c (entries.Message m) = Some (entries.Message (record m { comment = Some c }))
commented c (entries.Term m) = Some (entries.Term (record m { comment = Some c }))
commented c e = None

-- whether the last entry is a comment of level 1
abbrev pub ends_with_comment : {S : Type 0} → List (Entry S) → Bool
ends_with_comment [] = false
ends_with_comment (e ∷ []) = is_comment e
ends_with_comment (e ∷ d ∷ es) = ends_with_comment (d ∷ es)

-- The comment is attached to the entry after it, and both are one; or it can't, and the entry is dropped.
abbrev pub AttachedLast : {S : Type 0} → (before : List (Entry S)) → Comment S → Entry S → (new : List (Entry S)) → Bool
    → Type 0
AttachedLast before c e new true = (x : Entry _) × (commented c e ≡ Some x) × (new ≡ before ++ x ∷ [])
AttachedLast before c e new false = (commented c e ≡ None) × (new ≡ before ++ entries.Comment c ∷ [])

module _ {S X : Type 0} (f : Span → X) (v : S → X) where
  -- A tile that nests no deeper than n is from i to j, and gives that entry and that error, if there is one.
  pub record MappedTile (edition : Edition) (t : List ℕ) (n i j : ℕ) (e : Entry S) (error : Option ParserError) :
      Type 0 where
    pub tree : EntryTree Span
    pub yields : GivesTile edition t n i j tree error
    pub same : entry_view v e ≡ entry_map f tree

  -- After that comment of level 1, which ends at the place, there is that entry, with it or it itself, and the rest
  -- from the other place on.
  abbrev pub AttachesMade : Edition → List ℕ → Comment S → ℕ → Entry S → ℕ → Type 0
  AttachesMade edition t c ptr e j =
      (content : List Span) → comment_view v c ≡ map f content →
      (tree : EntryTree Span) × Attaches edition t content ptr tree j × (entry_view v e ≡ entry_map f tree)

  -- After the comment of level 1 that the entries end with, and that ends at the place, that entry is there in its
  -- place, with it or it itself, and the rest from the other place on.
  abbrev pub AttachesLast : Edition → List ℕ → (ptr end : ℕ) → (old new : List (Entry S)) → Type 0
  AttachesLast edition t ptr end old new =
      (before : List (Entry S)) (c : Comment S) → old ≡ before ++ entries.Comment c ∷ [] →
      (e : Entry S) × (new ≡ before ++ e ∷ []) × AttachesMade edition t c ptr e end

  -- There is junk from i to j, which is added with the error of the refusal.
  pub record AddsJunk (t : List ℕ) (refusal : Refusal) (i j : ℕ) (old new : List (Entry S))
      (errors stated : List ParserError) : Type 0 where
    pub entry : Entry S
    pub error : ParserError
    pub added : new ≡ old ++ entry ∷ []
    pub errors_are : stated ≡ errors ++ error ∷ []
    pub same : entry_view v entry ≡ junk (f (record { start = i; end = j }))
    pub fault : fault_of error ≡ Some (refused_as t refusal (record { start = i; end = j }))

  -- A tile that nests no deeper than n is from i to j, and its entry is added, and its error, if there is one.
  pub record AddsTile (edition : Edition) (t : List ℕ) (n i j : ℕ) (old new : List (Entry S))
      (errors stated : List ParserError) : Type 0 where
    pub entry : Entry S
    pub error : Option ParserError
    pub added : new ≡ old ++ entry ∷ []
    pub errors_are : stated ≡ errors ++ option_to_list error
    pub tile : MappedTile edition t n i j entry error

  -- An entry that comes next from i on is there from the start to j, before whatever the rest is from there on, and is
  -- added, and its error, if there is one.
  pub record AddsEntry (comments : Comments) (edition : Edition) (t : List ℕ) (i start j : ℕ) (old new : List (Entry S))
      (errors stated : List ParserError) : Type 0 where
    pub entry : Entry S
    pub error : Option ParserError
    pub added : new ≡ old ++ entry ∷ []
    pub errors_are : stated ≡ errors ++ option_to_list error
    pub tree : EntryTree Span
    pub in_place : EntryAt comments edition t i start j tree (faults_of error)
    pub same : entry_view v entry ≡ entry_map f tree

  -- What comes next from the place on is added, and is there; or nothing is added, and nothing is left.
  abbrev pub AddsNext : Comments → Edition → List ℕ → ℕ → (old new : List (Entry S)) →
      (errors stated : List ParserError) → Option Span → Type 0
  AddsNext comments edition t i old new errors stated None =
      Rest comments edition t i [] [] × (new ≡ old) × (stated ≡ errors)
  AddsNext comments edition t i old new errors stated (Some span) =
      AddsEntry comments edition t i span.start span.end old new errors stated

  -- What comes next from the place on, or nothing where nothing is left; what is read is there from the start to the
  -- other place.
  abbrev pub NextMade : Comments → Edition → List ℕ → (i start j : ℕ) → Option (Entry S × Option ParserError) →
      Type 0
  NextMade comments edition t i start j None = Rest comments edition t i [] []
  NextMade comments edition t i start j (Some read) =
      (tree : EntryTree Span) × EntryAt comments edition t i start j tree (faults_of read.1)
      × (entry_view v read.0 ≡ entry_map f tree)

  -- The text consists of these entries and errors.
  pub record MadeBody (comments : Comments) (edition : Edition) (t : List ℕ) (body : List (Entry S))
      (errors : List ParserError) : Type 0 where
    pub trees : BodyTree Span
    pub same : map (entry_view v) body ≡ body_map f trees
    pub rest : Rest comments edition t 0 trees (map fault_of errors)
