-- Places of a text, longest runs, line ends and blanks. A text is its list of bytes. A place is a number: 0 is before
-- the first byte, and the text's length is after the last one.
use Rattle.std.specs.Prelude.{◌≡◌, ℕ, ◌+◌, ◌-◌, ◌<◌, ◌≤◌, List, slice_get, Option, Some, None, Bool, true, false, ◌&&◌}
use Rattle.std.specs.Prelude.{◌||◌, ◌==◌, not, is_some, if◌then◌else◌}
use Rattle.fluent_syntax_grammar.specs.Bytes.{lf, cr, space, is_space}

-- whether there is a byte, and it passes the test
abbrev pub holds : (ℕ → Bool) → Option ℕ → Bool
holds test None = false
holds test (Some b) = test b

-- The longest stretch from i on, each place of which passes the test, ends at j.
pub record LongestRun (test : ℕ → Bool) (i j : ℕ) : Type 0 where
  pub forward : i ≤ j
  pub each : (k : ℕ) → i ≤ k → k < j → test k ≡ true
  pub longest : test j ≡ false

-- j is n bytes after i.
pub record Steps (n i j : ℕ) : Type 0 where
  pub by : j ≡ i + n

-- j is that place.
pub record JumpsTo (place i j : ℕ) : Type 0 where
  pub there : j ≡ place

module _ (t : List ℕ) where
  -- whether a byte that passes the test is at the place
  abbrev pub has : (ℕ → Bool) → ℕ → Bool
  has test i = holds test (slice_get t i)

  -- whether the byte b is at the place
  abbrev pub has_byte : ℕ → ℕ → Bool
  has_byte b i = has (λ c. c == b) i

  -- The longest run of bytes of the set, perhaps empty, reaches from the one place to the other.
  abbrev pub ByteRun : (ℕ → Bool) → ℕ → ℕ → Type 0
  ByteRun set = LongestRun (has set)

  -- Where a line end that begins at the place ends. A line end is LF, or CR followed by LF; a CR elsewhere is an
  -- ordinary byte.
  abbrev pub after_eol : ℕ → Option ℕ
  after_eol i =
      if has_byte lf i then Some (i + 1)
      else if has_byte cr i && has_byte lf (i + 1) then Some (i + 2)
      else None

  -- whether a line end begins at the place
  abbrev pub has_eol : ℕ → Bool
  has_eol i = has_byte lf i || has_byte cr i && has_byte lf (i + 1)

  -- whether there is a byte that begins no line end
  abbrev pub is_line_place : ℕ → Bool
  is_line_place i = is_some (slice_get t i) && not (has_eol i)

  -- Inline blank: the longest run of spaces, perhaps empty.
  abbrev pub InlineBlank : ℕ → ℕ → Type 0
  InlineBlank = ByteRun is_space

  -- whether there is a space or a line end begins at the place
  abbrev pub is_blank_place : ℕ → Bool
  is_blank_place i = has_byte space i || has_eol i

  -- Blank: the longest run of spaces, LFs and CRLFs, perhaps empty. (The LF of a CRLF is a blank place too.)
  abbrev pub Blank : ℕ → ℕ → Type 0
  Blank = LongestRun is_blank_place

  -- A line starts at place 0 and after every LF.
  abbrev pub starts_line : ℕ → Bool
  starts_line i = i == 0 || has_byte lf (i - 1)

-- Blank block: the longest run of whole lines that are spaces, perhaps none, and a line end. Spaces that no line end
-- follows are not in it.
pub data BlankBlock (t : List ℕ) : ℕ → ℕ → Type 0 where
  no_line : {i k : ℕ} → InlineBlank t i k → after_eol t k ≡ None → BlankBlock t i i
  line : {i k m j : ℕ} → InlineBlank t i k → after_eol t k ≡ Some m → BlankBlock t m j → BlankBlock t i j
