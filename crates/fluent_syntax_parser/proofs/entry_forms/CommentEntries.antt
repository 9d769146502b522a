-- Comments by their level.
use Rattle.std.proofs.Common.{◌≡◌, ◌≢◌, ℕ, List, [], ◌++◌, map, ap, arith, append-nil}
use Rattle.std.proofs.lemmas.Bool.Decides.{nat_tests}
use Rattle.fluent_syntax_tree.specs.Entry.{Level, comment, entry_map, resource}
use Rattle.fluent_syntax_tree.specs.declared.spans.Span.{Span}
use Rattle.fluent_syntax_grammar.specs.Comments.{comment_entry, comment_lines, comment_of, hashes, level_of}
use Rattle.fluent_syntax_grammar.specs.Construct.{Read, chosen}
use Rattle.fluent_syntax_parser.specs.Made.{IsMade, made}
use Rattle.fluent_syntax_parser.proofs.readers.Made.{made_was_read}

pub level_of-other : (hashes : ℕ) → hashes ≢ 1 → hashes ≢ 2 → level_of hashes ≡ resource
level_of-other hashes one two = grind (arith, nat_tests)

-- a comment whose level is known, with f of each text
pub comment_entry_is_made : (t : List ℕ) (i j count : ℕ) {X : Type 0} {f : Span → X} (made_lines : List X) →
    hashes t i ≡ count →
    IsMade (entry_map f) (comment_of t count) i (comment (level_of count) made_lines) j → (level : Level) →
    level_of count ≡ level → IsMade (entry_map f) (comment_entry t) i (comment level made_lines) j
comment_entry_is_made t i j count made_lines hashed h level same =
    rw (← same) (made_was_read h (λ a read e. made (chosen (rw hashed read)) e))

-- The lines so far: what those from here on add, the comment has after them. What was made represents them.
pub record MadeLines {S X : Type 0} (t : List ℕ) (level : ℕ) (f : Span → X) (v : S → X) (i : ℕ) (content : List S)
    (j : ℕ) : Type 0 where
  pub lines : List Span
  pub same : map v content ≡ map f lines
  pub read : (more : List Span) (end : ℕ) → comment_lines t level j (Read more end) →
      comment_of t level i (Read (comment (level_of level) (lines ++ more)) end)

pub comment_of_made_lines_is_made : {S X : Type 0} {t : List ℕ} {level : ℕ} {f : Span → X} {v : S →
    X} {i j end : ℕ} {content : List S} → MadeLines t level f v i content j → comment_lines t level j (Read [] end) →
    IsMade (entry_map f) (comment_of t level) i (comment (level_of level) (map v content)) end
comment_of_made_lines_is_made {level = level} {end = end} g h =
    made {a = comment (level_of level) g.lines} (rw (← append-nil g.lines) (g.read [] end h))
    (ap (comment (level_of level)) g.same)
