-- More bytes after a frame change nothing of it.
use Rattle.std.proofs.Common.{◌≡◌, ◌≢◌, ℕ, ◌+◌, ◌-◌, ◌<◌, ◌≤◌, List, ◌∷◌, ◌++◌, length, take, drop, get_or, Option}
use Rattle.std.proofs.Common.{Some, None, refl, sym, ap, ◌∙◌, subst, arith, append_assoc, codes}
use Rattle.std.proofs.lemmas.List.{take-append-drop, length-append, length-drop, length-take-le, drop_more, drop-drop}
use Rattle.std.proofs.lemmas.List.{take-append-le}
use Rattle.std.proofs.Math.ListN.{get_or-append}
use Rattle.std.specs.List.{slice_range}
use Rattle.ftl_lsp.specs.HeaderEnds.{IsCrlfAt, IsHeaderEnd, HeaderOf, NoHeader}
use Rattle.ftl_lsp.specs.Fields.{HasLength}
use Rattle.ftl_lsp.specs.Frames.{IsFrame, IsFraming}
use Rattle.ftl_lsp.specs.Frames.IsFraming.{frame, partial_header, partial_body, long_header, no_length}
use Rattle.ftl_lsp.specs.Frames.IsFraming.{long_body}
use Rattle.ftl_lsp.specs.declared.sessions.frames.Framing.{Framing}
use Rattle.ftl_lsp.specs.declared.sessions.frames.Framing.TheVariants.{Frame, Partial}

module _ (t more : List ℕ) where
  -- a line end within the text is one of the longer text
  crlf_stays_before_more_bytes : (k : ℕ) → k + 1 < length t → IsCrlfAt t k → IsCrlfAt (t ++ more) k
  crlf_stays_before_more_bytes k h b =
      (get_or-append t more 0 k (omega arith) ∙ b.0, get_or-append t more 0 (k + 1) h ∙ b.1)

  crlf_before_more_bytes_was_there : (k : ℕ) → k + 1 < length t → IsCrlfAt (t ++ more) k → IsCrlfAt t k
  crlf_before_more_bytes_was_there k h b =
      (sym (get_or-append t more 0 k (omega arith)) ∙ b.0, sym (get_or-append t more 0 (k + 1) h) ∙ b.1)

  pub header_stays_before_more_bytes : (at : ℕ) → HeaderOf t at → HeaderOf (t ++ more) at
  header_stays_before_more_bytes at h =
      let within : at + 4 ≤ length t = h.within in record {
        ends = record {
          line = crlf_stays_before_more_bytes at (omega arith) h.ends.line;
          empty = crlf_stays_before_more_bytes (at + 2) (omega arith) h.ends.empty;
          first = λ k l b. h.ends.first k l (
            crlf_before_more_bytes_was_there k (omega arith) b.0,
            crlf_before_more_bytes_was_there (k + 2) (omega arith) b.1,
          );
        };
        short = h.short;
        within = omega (arith, length-append t more);
      }

  length_of_header_stays_before_more : (at : ℕ) (n : Option ℕ) → HeaderOf t at → HasLength (take at t) n →
      HasLength (take at (t ++ more)) n
  length_of_header_stays_before_more at n h has =
      let within : at + 4 ≤ length t = h.within in
      let inside : at ≤ length t = omega arith in
      subst (λ u. HasLength u n) (sym (take-append-le at t more inside)) has

  missing_header_stays_before_more : 4096 ≤ length t → NoHeader t → NoHeader (t ++ more)
  missing_header_stays_before_more long none k short b =
      none k short
      (crlf_before_more_bytes_was_there k (omega arith) b.0, crlf_before_more_bytes_was_there (k + 2) (omega arith) b.1)

  -- what a text begins with, a longer one begins with too, unless it was too short to say
  pub framing_stays_before_more_bytes : (f : Framing) → f ≢ Partial → IsFraming t f → IsFraming (t ++ more) f
  framing_stays_before_more_bytes f whole (frame at n h has small within) =
      frame at n (header_stays_before_more_bytes at h) (length_of_header_stays_before_more at (Some n) h has) small
      (omega (arith, length-append t more))
  framing_stays_before_more_bytes f whole (partial_header none short) = absurd (whole refl)
  framing_stays_before_more_bytes f whole (partial_body at n h has small short) = absurd (whole refl)
  framing_stays_before_more_bytes f whole (long_header none long) =
      long_header (missing_header_stays_before_more long none) (omega (arith, length-append t more))
  framing_stays_before_more_bytes f whole (no_length at h has) =
      no_length at (header_stays_before_more_bytes at h) (length_of_header_stays_before_more at None h has)
  framing_stays_before_more_bytes f whole (long_body at n h has large) =
      long_body at n (header_stays_before_more_bytes at h) (length_of_header_stays_before_more at (Some n) h has) large

-- ---- the parts of a frame

-- one byte, and what is after it
rest_is_byte_and_next_rest : (t : List ℕ) (at next byte : ℕ) → at < length t → at + 1 ≡ next → get_or t at 0 ≡ byte →
    drop at t ≡ byte ∷ drop next t
rest_is_byte_and_next_rest t at next byte l there is =
    drop_more t at 0 l ∙ ap (λ k. get_or t at 0 ∷ drop k t) there ∙ ap (λ x. x ∷ drop next t) is

-- an empty line, and what is after it
header_ends_in_empty_line : (t : List ℕ) (at : ℕ) → HeaderOf t at → drop at t ≡ codes "\r\n\r\n" ++ drop (at + 4) t
header_ends_in_empty_line t at h =
    let within : at + 4 ≤ length t = h.within in
    let line = h.ends.line in
    let empty = h.ends.empty in
    let three : at + 3 ≡ at + 2 + 1 = omega arith in
    rest_is_byte_and_next_rest t at (at + 1) 13 (omega arith) refl line.0
    ∙ ap (λ l. 13 ∷ l) (rest_is_byte_and_next_rest t (at + 1) (at + 2) 10 (omega arith) (omega arith) line.1)
    ∙ ap (λ l. 13 ∷ 10 ∷ l) (rest_is_byte_and_next_rest t (at + 2) (at + 3) 13 (omega arith) (omega arith) empty.0)
    ∙ ap (λ l. 13 ∷ 10 ∷ 13 ∷ l)
    (rest_is_byte_and_next_rest t (at + 3) (at + 4) 10 (omega arith) (omega arith)
    (ap (λ k. get_or t k 0) three ∙ empty.1))

-- a body, and what is after it
rest_is_body_and_next_rest : (t : List ℕ) (at n : ℕ) → drop at t ≡ slice_range t at (at + n) ++ drop (at + n) t
rest_is_body_and_next_rest t at n =
    let size : n ≡ at + n - at = omega arith in
    sym (take-append-drop n (drop at t))
    ∙ ap (λ l. take n (drop at t) ++ l) (drop-drop n at t)
    ∙ ap (λ m. take m (drop at t) ++ drop (at + n) t) size

text_is_header_body_and_rest : (t : List ℕ) (at n : ℕ) → HeaderOf t at →
    t ≡ take at t ++ codes "\r\n\r\n" ++ slice_range t (at + 4) (at + 4 + n) ++ drop (at + 4 + n) t
text_is_header_body_and_rest t at n h =
    let front = take at t in
    let empty = codes "\r\n\r\n" in
    let body = slice_range t (at + 4) (at + 4 + n) in
    let rest = drop (at + 4 + n) t in
    sym (take-append-drop at t)
    ∙ ap (λ l. front ++ l)
    (header_ends_in_empty_line t at h ∙ ap (λ l. empty ++ l) (rest_is_body_and_next_rest t (at + 4) n))
    ∙ sym (append_assoc front empty (body ++ rest)) ∙ sym (append_assoc (front ++ empty) body rest)

-- where a frame lies, there are its header, its body and what comes after it
pub framed_bytes_are_frame : (t : List ℕ) (start end : ℕ) → IsFraming t (Frame start end) →
    IsFrame t (slice_range t start end) (drop end t)
framed_bytes_are_frame t start end (frame at n h has small within) =
    let size : length (slice_range t (at + 4) (at + 4 + n)) ≡ n =
    length-take-le (at + 4 + n - (at + 4)) (drop (at + 4) t) (omega (arith, length-drop (at + 4) t)) ∙ omega arith in
    let inside : at ≤ length t = omega arith in
    let front : length (take at t) ≡ at = length-take-le at t inside in
    record {
      header = take at t;
      whole = text_is_header_body_and_rest t at n h;
      first = subst (IsHeaderEnd t) (sym front) h.ends;
      short = subst (λ k. k + 4 ≤ 4096) (sym front) h.short;
      says = subst (λ k. HasLength (take at t) (Some k)) (sym size) has;
      small = subst (λ k. k ≤ 67108864) (sym size) small;
    }
