use Rattle.std.proofs.Common.{◌≡◌, ◌==◌, ◌++◌, ◌+◌, ◌<◌, ◌≤◌, ◌∙◌, ℕ, List, [], ◌∷◌, Vec, true, false, ap, arith, drop}
use Rattle.std.proofs.Common.{◌≢◌, append_assoc, get_or, length, refl, sym}
use Rattle.std.proofs.lemmas.List.{append-nil, drop_all, drop_more}
use Rattle.std.specs.Global.{Global}
use Rattle.fluent_syntax_grammar.specs.Bytes.{lf}
use Rattle.fluent_syntax_grammar.specs.Written.{Text}
use Rattle.ftl.specs.BlankLines.{with_line_ends}
use Rattle.ftl.proofs.blank_lines.with_line_ends.Goals as goal
use Rattle.ftl.proofs.blank_lines.with_line_ends.Goals.{then-next-places+then-places-next+in_ok-push, else-next-places}
use Rattle.ftl.proofs.blank_lines.with_line_ends.Goals.{else-next-places-via-then-next-places+else-places-next}
use Rattle.ftl.proofs.blank_lines.with_line_ends.Goals.{else-next-places-via-else-next-places}

-- what comes of the byte at the place and of those after it, with an LF before it or without
line_end_is_put_at_its_place : (at b : ℕ) (bytes : Text) (place : ℕ) (places : List ℕ) → (place == at) ≡ true →
    with_line_ends at (b ∷ bytes) (place ∷ places) ≡ lf ∷ b ∷ with_line_ends (at + 1) bytes places
line_end_is_put_at_its_place at b bytes place places e = rw e refl

no_line_end_is_put_before_its_place : (at b : ℕ) (bytes : Text) (place : ℕ) (places : List ℕ) → (place == at) ≡ false →
    with_line_ends at (b ∷ bytes) (place ∷ places) ≡ b ∷ with_line_ends (at + 1) bytes (place ∷ places)
no_line_end_is_put_before_its_place at b bytes place places e = rw e refl

no_line_end_is_put_after_last_place : (at b : ℕ) (bytes : Text) →
    with_line_ends at (b ∷ bytes) [] ≡ b ∷ with_line_ends (at + 1) bytes []
no_line_end_is_put_after_last_place at b [] = refl
no_line_end_is_put_after_last_place at b (x ∷ bytes) = refl

module _ (t : Text) (ps : List ℕ) (at next : ℕ) (inside : at < length t) where
  abbrev byte : ℕ
  byte = get_or t at 0

  rest_begins_with_byte : drop at t ≡ byte ∷ drop (at + 1) t
  rest_begins_with_byte = drop_more t at 0 inside

  step_at_place_puts_line_end : next < length ps → get_or ps next 0 ≡ at →
      with_line_ends at (drop at t) (drop next ps)
      ≡ lf ∷ byte ∷ with_line_ends (at + 1) (drop (at + 1) t) (drop (next + 1) ps)
  step_at_place_puts_line_end more e =
      let test : (get_or ps next 0 == at) ≡ true = grind (arith, e) in
      ap (λ bytes. with_line_ends at bytes (drop next ps)) rest_begins_with_byte
      ∙ (ap (with_line_ends at (byte ∷ drop (at + 1) t)) (drop_more ps next 0 more)
      ∙ line_end_is_put_at_its_place at byte (drop (at + 1) t) (get_or ps next 0) (drop (next + 1) ps) test)

  step_before_place_puts_byte : next < length ps → get_or ps next 0 ≢ at →
      with_line_ends at (drop at t) (drop next ps)
      ≡ byte ∷ with_line_ends (at + 1) (drop (at + 1) t) (drop next ps)
  step_before_place_puts_byte more e =
      let place = get_or ps next 0 in
      let there = drop_more ps next 0 more in
      let test : (get_or ps next 0 == at) ≡ false = grind (arith, e) in
      ap (λ bytes. with_line_ends at bytes (drop next ps)) rest_begins_with_byte
      ∙ (ap (with_line_ends at (byte ∷ drop (at + 1) t)) there
      ∙ (no_line_end_is_put_before_its_place at byte (drop (at + 1) t) place (drop (next + 1) ps) test
      ∙ ap (λ places. byte ∷ with_line_ends (at + 1) (drop (at + 1) t) places) (sym there)))

  step_after_last_place_puts_byte : length ps ≤ next →
      with_line_ends at (drop at t) (drop next ps)
      ≡ byte ∷ with_line_ends (at + 1) (drop (at + 1) t) (drop next ps)
  step_after_last_place_puts_byte all =
      let there = drop_all next ps all in
      ap (λ bytes. with_line_ends at bytes (drop next ps)) rest_begins_with_byte
      ∙ (ap (with_line_ends at (byte ∷ drop (at + 1) t)) there
      ∙ (no_line_end_is_put_after_last_place at byte (drop (at + 1) t)
      ∙ ap (λ places. byte ∷ with_line_ends (at + 1) (drop (at + 1) t) places) (sym there)))

-- the byte added after what came before it
added_bytes_keep_whole_text : (b : ℕ) (front before made now rest left all : List ℕ) → made ≡ before ++ front →
    now ≡ made ++ b ∷ [] → left ≡ front ++ b ∷ rest → before ++ left ≡ all → now ++ rest ≡ all
added_bytes_keep_whole_text b front before made now rest left all is_made is_now is_left is =
    ap (λ l. l ++ rest) is_now
    ∙ (append_assoc made (b ∷ []) rest
    ∙ (ap (λ l. l ++ b ∷ rest) is_made
    ∙ (append_assoc before front (b ∷ rest)
    ∙ (ap (λ l. before ++ l) (sym is_left) ∙ is))))

pub loop-at-preserved : goal.loop-at-preserved
loop-at-preserved c =
    let t = c.as_bytes-bytes.result.now in
    let ps = c.args.places.now in
    let at = c.loop-at.at in
    let next = c.loop-at.next in
    let before = c.loop-at.made.items in
    let pushed = c.in_ok-push-2.ensures.items in
    let same : (v w : Vec ℕ Global) → v ≡ w → v.items ≡ w.items ++ [] = λ v w e.
    ap (λ (v : Vec ℕ Global). v.items) e ∙ sym (append-nil w.items) in
    elim c.if-next-places.branch [
      | then-next-places+then-places-next+in_ok-push w ↦ record {
        next = omega (arith, w.next-is, w.if-next-places.true);
        rest = rw w.next-is (added_bytes_keep_whole_text _ (lf ∷ []) before _ _ _ _ _
            (ap (λ (v : Vec ℕ Global). v.items) w.made-is ∙ w.in_ok-push.ensures.items) pushed
            (step_at_place_puts_line_end t ps at next c.loop-at-test.true w.if-next-places.true w.if-places-next.true)
            c.loop-at.invariant.rest);
      }
      | else-next-places w ↦ elim w.else-next-places.branch [
        | else-next-places-via-then-next-places+else-places-next v ↦ record {
          next = omega (arith, w.next-is, v.if-next-places.true);
          rest = rw w.next-is (added_bytes_keep_whole_text _ [] before _ _ _ _ _ (same _ _ w.made-is) pushed
              (step_before_place_puts_byte t ps at next c.loop-at-test.true v.if-next-places.true
              v.if-places-next.false)
              c.loop-at.invariant.rest);
        }
        | else-next-places-via-else-next-places v ↦ record {
          next = omega (arith, w.next-is, c.loop-at.invariant.next);
          rest = rw w.next-is (added_bytes_keep_whole_text _ [] before _ _ _ _ _ (same _ _ w.made-is) pushed
              (step_after_last_place_puts_byte t ps at next c.loop-at-test.true v.if-next-places.false)
              c.loop-at.invariant.rest);
        }
      ]
    ]
