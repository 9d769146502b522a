-- Lines, patterns and variants over a sound family are sound.
use Rattle.std.proofs.Common.{◌≡◌, ℕ, zero, suc, ◌+◌, ◌-◌, ◌≤◌, List, [], ◌∷◌, Option, Some, None, Bool, true, false}
use Rattle.std.proofs.Common.{refl, sym, ◌∙◌, subst, arith, inl, inr}
use Rattle.std.specs.Prelude.{slice_get, ◌==◌, if◌then◌else◌}
use Rattle.fluent_syntax_tree.specs.Kind.{Kind, TermAttributeAsPlaceable}
use Rattle.fluent_syntax_grammar.specs.Meaning.{kind_means}
use Rattle.fluent_syntax_tree.specs.Tree.{inline, InlineTree, KeyTree, PatternTree}
use Rattle.fluent_syntax_tree.specs.Every.{key_every, expression_every, variants_every, pattern_every, option_every}
use Rattle.fluent_syntax_tree.specs.Every.{list_every, variant_every, inline_every}
use Rattle.fluent_syntax_grammar.specs.Bytes.{lf, is_space}
use Rattle.fluent_syntax_grammar.specs.Places.{has, after_eol, InlineBlank}
use Rattle.fluent_syntax_grammar.specs.Construct.{Read, Refused, ◌>>=◌, stops, goes_on, yields, given}
use Rattle.fluent_syntax_grammar.specs.Construct.{at_place, passed, chosen, branch_on, fails, More, no_item, item}
use Rattle.fluent_syntax_grammar.specs.Construct.{many, list_ends, list_stops, item_and_more, stops_later}
use Rattle.fluent_syntax_grammar.specs.Family.{Family}
use Rattle.fluent_syntax_grammar.specs.Layout.{Piece, Ending, lf_at, crlf_at, Line}
use Rattle.fluent_syntax_grammar.specs.Lines.{ending_of, ending, text_run, next_piece_at, next_piece, more_pieces, line}
use Rattle.fluent_syntax_grammar.specs.Lines.{next_line, more_lines, no_byte, other_line, own_line}
use Rattle.fluent_syntax_grammar.specs.Expressions.{selector_fault, is_term_attribute, variants_of_select, select_with}
use Rattle.fluent_syntax_grammar.specs.Expressions.{expression}
use Rattle.fluent_syntax_grammar.specs.Patterns.{layout_at, layout, pattern}
use Rattle.fluent_syntax_grammar.specs.Variants.{variant_of, variant_after, next_variant, more_variants}
use Rattle.fluent_syntax_grammar.specs.Grammar.{next, within, family}
use Rattle.fluent_syntax_tree.specs.declared.edition.Edition.{Edition}
use Rattle.fluent_syntax_tree.specs.declared.spans.Span.{Span}
use Rattle.fluent_syntax_grammar.proofs.HoareTriple.{HoareTriple, yields_reads_its_value_in_place, holds_weaker}
use Rattle.fluent_syntax_grammar.proofs.HoareTriple.{holds_bind, yields_meets_triple}
use Rattle.fluent_syntax_grammar.proofs.HoareTriple.{fails_meets_triple, holds_skip, holds_peek, holds_branch_on}
use Rattle.fluent_syntax_grammar.proofs.Cuts.{AreBoundaries, byte_below_128_is_ascii, byte_of_ascii_set_is_ascii}
use Rattle.fluent_syntax_grammar.proofs.Cuts.{space_is_ascii_set}
use Rattle.fluent_syntax_grammar.proofs.Cuts.{eol_is_lf_or_crlf, eol_goes_on}
use Rattle.fluent_syntax_grammar.proofs.Cuts.{eol_ends_at_boundary, longest_run_places, byte_run_ends_at_boundary}
use Rattle.fluent_syntax_grammar.proofs.Sound.{IsSpan, Inside, Ended, IsFault, Sound, fault_holds_of_earlier_start}
use Rattle.fluent_syntax_grammar.proofs.Sound.{bind_is_sound}
use Rattle.fluent_syntax_grammar.proofs.Sound.{yields_is_sound, fails_is_sound, branch_on_is_sound, here_is_sound}
use Rattle.fluent_syntax_grammar.proofs.Sound.{part_is_sound_after_good_value, IsPlain, good_more, many_is_sound}
use Rattle.fluent_syntax_grammar.proofs.Sound.{inline_blank_is_sound}
use Rattle.fluent_syntax_grammar.proofs.Sound.{blank_is_sound, blank_block_is_sound, run_is_onward}
use Rattle.fluent_syntax_grammar.proofs.SoundWords.{optional_is_sound, token_is_sound}
use Rattle.fluent_syntax_grammar.proofs.LayoutInBounds.{PieceInBounds, EndingInBounds, LineInBounds, LayoutInBounds}
use Rattle.fluent_syntax_grammar.proofs.LayoutInBounds.{piece_is_in_later_bounds, pieces_are_in_earlier_bounds}
use Rattle.fluent_syntax_grammar.proofs.LayoutInBounds.{pattern_in_bounds}
use Rattle.fluent_syntax_grammar.proofs.SoundRules.{IsSoundFamily, key_is_sound, only_star_is_sound}
use Rattle.fluent_syntax_grammar.proofs.SoundRules.{variants_end_is_sound, fault_is_plain, arrow_is_sound, AtArrow}
use Rattle.fluent_syntax_grammar.proofs.SoundRules.{place_after_arrow_is_inside, placeable_is_sound, inline_is_sound}
use Rattle.fluent_syntax_grammar.proofs.SoundRules.{arguments_are_sound}
use Rattle.fluent_syntax_grammar.proofs.Facts.{holds-some, one_and_one_on_is_two_on, two_on_is_not_next}
use Rattle.fluent_syntax_grammar.proofs.Facts.{next_number_passes_its_test}

either_ending_is_in_bounds : (P : ℕ → Type 0) (s i : ℕ) (test : Bool) → (test ≡ true → EndingInBounds P s (lf_at i)) →
    (test ≡ false → EndingInBounds P s (crlf_at i)) → EndingInBounds P s (if test then lf_at i else crlf_at i)
either_ending_is_in_bounds P s i true f g = f refl
either_ending_is_in_bounds P s i false f g = g refl

module _ (t : List ℕ) (P : ℕ → Type 0) (cuts : AreBoundaries t P) where
  lf_ending_is_in_bounds : (s i k : ℕ) → Inside P s i → after_eol t i ≡ Some k → (k == i + 1) ≡ true →
      EndingInBounds P s (lf_at i)
  lf_ending_is_in_bounds s i k p e f =
      elim (eol_is_lf_or_crlf t i k e) [
        | inl x ↦ (p.late, p.place, cuts.after i (byte_below_128_is_ascii t lf i (omega arith) x.0))
        | inr x ↦ absurd (two_on_is_not_next i k x.2 f)
      ]

  crlf_ending_is_in_bounds : (s i k : ℕ) → Inside P s i → after_eol t i ≡ Some k → (k == i + 1) ≡ false →
      EndingInBounds P s (crlf_at i)
  crlf_ending_is_in_bounds s i k p e f = elim (eol_is_lf_or_crlf t i k e) [
    | inl x ↦ absurd (next_number_passes_its_test i k x.1 f)
    | inr x ↦ (let a = byte_below_128_is_ascii t lf (i + 1) (omega arith) x.1 in
        (p.late, cuts.before (i + 1) a, subst P (one_and_one_on_is_two_on i) (cuts.after (i + 1) a)))
  ]

  ending_by_eol_is_in_bounds : (s i j : ℕ) (x : Ending) → Inside P s i → (o : Option ℕ) → after_eol t i ≡ o →
      ending_of t i o i (Read x j) → Ended P s (EndingInBounds P s) x j
  ending_by_eol_is_in_bounds s i j x p None e given = record { late = p.late; place = p.place; good = tt }
  ending_by_eol_is_in_bounds s i j x p (Some k) e (goes_on {j = m} (passed w) y) =
      let late = p.late in
      let there = w.there in
      let f = eol_goes_on t i k e in
      let value = yields_reads_its_value_in_place (if k == i + 1 then lf_at i else crlf_at i) x m j y in
      let same = value.1 in
      let place : k ≡ j = omega arith in
      record {
        late = omega arith;
        place = subst P place (eol_ends_at_boundary t P cuts i k e);
        good =
            subst (EndingInBounds P s) value.0
            (either_ending_is_in_bounds P s i (k == i + 1) (lf_ending_is_in_bounds s i k p e)
            (crlf_ending_is_in_bounds s i k p e));
      }

  read_ending_is_in_bounds : (s i j : ℕ) (x : Ending) → Inside P s i → ending t i (Read x j) →
      Ended P s (EndingInBounds P s) x j
  read_ending_is_in_bounds s i j x p (goes_on at_place (chosen y)) =
      ending_by_eol_is_in_bounds s i j x p (after_eol t i) refl y

  ending_by_eol_is_never_refused : (X : Type 0) (i from to : ℕ) (k : Kind) (o : Option ℕ) →
      ending_of t i o i (Refused k from to) → X
  ending_by_eol_is_never_refused X i from to k None x = elim x [ ]
  ending_by_eol_is_never_refused X i from to k (Some m) (stops x) = elim x [ ]
  ending_by_eol_is_never_refused X i from to k (Some m) (goes_on x y) = elim y [ ]

  ending_is_never_refused : (X : Type 0) (i from to : ℕ) (k : Kind) → ending t i (Refused k from to) → X
  ending_is_never_refused X i from to k (stops x) = elim x [ ]
  ending_is_never_refused X i from to k (goes_on at_place (chosen y)) =
      ending_by_eol_is_never_refused X i from to k (after_eol t i) y

  pub ending_reads_soundly : (s : ℕ) →
      HoareTriple (Inside P s) (ending t) (Ended P s (EndingInBounds P s)) (IsFault t s)
  ending_reads_soundly s =
      record {
        on_read = λ i j x p y. read_ending_is_in_bounds s i j x p y;
        on_refused = λ i from to k p y. ending_is_never_refused (IsFault t s k from to) i from to k y;
      }

-- pieces that lie between a place and where their reading ended
pub record EndedPieces (P : ℕ → Type 0) (s : ℕ) (ps : List Piece) (j : ℕ) : Type 0 where
  pub late : s ≤ j
  pub place : P j
  pub good : list_every (PieceInBounds P s j) ps

module _ (t : List ℕ) (P : ℕ → Type 0) (cuts : AreBoundaries t P) (R : Family) (h : IsSoundFamily t P R) where
  -- a piece that lies between a place and where its reading ended
  abbrev EndedPiece : ℕ → More Piece (Unit {0}) → ℕ → Type 0
  EndedPiece s no_item j = Inside P s j
  EndedPiece s (item p u) j = Inside P s j × PieceInBounds P s j p

  read_run_is_in_bounds : (s i j : ℕ) (p : Piece) → Inside P s i → text_run t i (Read p j) →
      Inside P s j × PieceInBounds P s j p
  read_run_is_in_bounds s i j p q (goes_on at_place (goes_on (passed {j = to} w) (goes_on at_place given))) =
      let late = q.late in
      let forward = w.forward in
      let place = (run_is_onward t P cuts).place i to q.place w in
      (record { late = omega arith; place = place }, (late, forward, omega arith, q.place, place))

  text_run_is_never_refused : (X : Type 0) (i from to : ℕ) (k : Kind) → text_run t i (Refused k from to) → X
  text_run_is_never_refused X i from to k (stops x) = elim x [ ]
  text_run_is_never_refused X i from to k (goes_on at_place (stops x)) = elim x [ ]
  text_run_is_never_refused X i from to k (goes_on at_place (goes_on (passed w) (stops x))) = elim x [ ]
  text_run_is_never_refused X i from to k (goes_on at_place (goes_on (passed w) (goes_on at_place x))) = elim x [ ]

  text_run_reads_soundly : (s : ℕ) →
      HoareTriple (Inside P s) (text_run t) (λ p j. Inside P s j × PieceInBounds P s j p) (IsFault t s)
  text_run_reads_soundly s = record {
    on_read = λ i j p q x. read_run_is_in_bounds s i j p q x;
    on_refused = λ i from to k q x. text_run_is_never_refused (IsFault t s k from to) i from to k x;
  }

  piece_by_byte_reads_soundly : (s : ℕ) (o : Option ℕ) →
      HoareTriple (λ i. Inside P s i × (slice_get t i ≡ o)) (next_piece_at t R o) (EndedPiece s) (IsFault t s)
  piece_by_byte_reads_soundly s None = yields_meets_triple (λ i p. p.0)
  piece_by_byte_reads_soundly s (Some b) = holds_peek (λ eol. holds_branch_on
      (λ e. yields_meets_triple (λ i p. p.0.0))
      (λ e. holds_branch_on
      (λ f. fails_meets_triple
      (λ i p. let q = p.0.0 in
      record {
        late = q.late;
        in_text = cuts.in_text i q.place;
        one = refl;
        plain = tt;
        means = holds-some (λ c. c == 125) (slice_get t i) b p.0.1 f;
      }))
      (λ f. holds_branch_on
      (λ g. holds_bind {mid = Ended P s (expression_every (IsSpan P))}
      (holds_weaker {pre = Inside P s} (λ i p. p.0.0) (λ a j x. x) (λ k from to x. x)
      (placeable_is_sound t P cuts R h).holds)
      (λ x. yields_meets_triple (λ i p. (record { late = p.late; place = p.place }, p.good))))
      (λ g. holds_bind
      (holds_weaker {pre = Inside P s} (λ i p. p.0.0) (λ a j x. x) (λ k from to x. x) (text_run_reads_soundly s))
      (λ x. yields_meets_triple (λ i p. p))))))

  next_piece_reads_soundly : (s : ℕ) → HoareTriple (Inside P s) (next_piece t R) (EndedPiece s) (IsFault t s)
  next_piece_reads_soundly s = holds_peek (piece_by_byte_reads_soundly s)

  read_pieces_are_in_bounds : (u : Unit {0}) (s i j : ℕ) (ps : List Piece) → Inside P s i →
      many (λ u. next_piece t R) (λ p ps. p ∷ ps) [] u i (Read ps j) → EndedPieces P s ps j
  read_pieces_are_in_bounds u s i j ps p (list_ends x) = let q = (next_piece_reads_soundly s).on_read i j _ p x in
      record { late = q.late; place = q.place; good = tt }
  read_pieces_are_in_bounds u s i j ps p (item_and_more {later = v} {j = m} {a = piece} {rest = rest} x y) =
      let q = (next_piece_reads_soundly s).on_read i m _ p x in
      let late = (q.0).late in
      let r = read_pieces_are_in_bounds v m m j rest (record { late = omega arith; place = (q.0).place }) y in
      let on = r.late in
      record {
        late = omega arith;
        place = r.place;
        good = (piece_is_in_later_bounds P s m j on piece q.1, pieces_are_in_earlier_bounds P m s j late rest r.good);
      }

  refused_pieces_have_fault_in_text : (u : Unit {0}) (s i from to : ℕ) (k : Kind) → Inside P s i →
      many (λ u. next_piece t R) (λ p ps. p ∷ ps) [] u i (Refused k from to) → IsFault t s k from to
  refused_pieces_have_fault_in_text u s i from to k p (list_stops x) =
      (next_piece_reads_soundly s).on_refused i from to k p x
  refused_pieces_have_fault_in_text u s i from to k p (stops_later {later = v} {j = m} {a = piece} x y) =
      let q = (next_piece_reads_soundly s).on_read i m _ p x in refused_pieces_have_fault_in_text v s m from to k q.0 y

  pub pieces_are_sound : (s : ℕ) → HoareTriple (Inside P s) (more_pieces t R) (EndedPieces P s) (IsFault t s)
  pieces_are_sound s = record {
    on_read = λ i j ps p x. read_pieces_are_in_bounds tt s i j ps p x;
    on_refused = λ i from to k p x. refused_pieces_have_fault_in_text tt s i from to k p x;
  }

  places_of_leading_blank_are_boundaries : (i f m : ℕ) → P i → InlineBlank t i f → m ≤ f - i → P (i + m)
  places_of_leading_blank_are_boundaries i f m p w l = let forward = w.forward in
      longest_run_places t P cuts (has t is_space) (λ k e. byte_of_ascii_set_is_ascii t is_space k space_is_ascii_set e)
      i f p w (i + m)
      (omega arith) (omega arith)

  read_line_is_in_bounds : (s i j : ℕ) (l : Line) → Inside P s i → line t R i (Read l j) →
      Ended P s (LineInBounds P) l j
  read_line_is_in_bounds s i j l p
      (goes_on at_place
      (goes_on (passed {j = f} w) (goes_on at_place (goes_on {j = m} {a = ps} x (goes_on {j = n} {a = e} y z))))) =
      let late = p.late in
      let forward = w.forward in
      let place = byte_run_ends_at_boundary t P cuts is_space space_is_ascii_set i f p.place w in
      let r = (pieces_are_sound f).on_read f m ps (record { late = omega arith; place = place }) x in
      let on = r.late in
      let q = (ending_reads_soundly t P cuts m).on_read m n e (record { late = omega arith; place = r.place }) y in
      let end = q.late in
      let value =
      yields_reads_its_value_in_place (record { start = i; spaces = f - i; pieces = ps; ending = e }) l n j z in
      let same = value.1 in
      record {
        late = omega arith;
        place = subst P same q.place;
        good = subst (LineInBounds P) value.0 (record {
          leading = λ m l. places_of_leading_blank_are_boundaries i f m p.place w l;
          end = m;
          late = omega arith;
          pieces = pieces_are_in_earlier_bounds P f (i + (f - i)) m (omega arith) ps r.good;
          ending = q.good;
        });
      }

  refused_line_is_fault : (s i from to : ℕ) (k : Kind) → Inside P s i → line t R i (Refused k from to) →
      IsFault t s k from to
  refused_line_is_fault s i from to k p (stops x) = elim x [ ]
  refused_line_is_fault s i from to k p (goes_on at_place (stops x)) = elim x [ ]
  refused_line_is_fault s i from to k p (goes_on at_place (goes_on (passed w) (stops x))) = elim x [ ]
  refused_line_is_fault s i from to k p (goes_on at_place (goes_on (passed {j = f} w) (goes_on at_place (stops x)))) =
      let late = p.late in
      let forward = w.forward in
      fault_holds_of_earlier_start s f (omega arith) k from to
      ((pieces_are_sound f).on_refused f from to k
      (record {
        late = omega arith;
        place =
            byte_run_ends_at_boundary t P cuts is_space space_is_ascii_set i f p.place w;
      }) x)
  refused_line_is_fault s i from to k p
      (goes_on at_place (goes_on (passed w) (goes_on at_place (goes_on {j = m} x (stops y))))) =
      ending_is_never_refused t P cuts (IsFault t s k from to) m from to k y
  refused_line_is_fault s i from to k p
      (goes_on at_place (goes_on (passed w) (goes_on at_place (goes_on x (goes_on y z))))) =
      elim z [ ]

  line_is_sound : {s : ℕ} → Sound t P s (line t R) (LineInBounds P)
  line_is_sound {s = s} =
      record { holds = record { on_read = read_line_is_in_bounds s; on_refused = refused_line_is_fault s } }

  own_line_is_sound : {s : ℕ} → Sound t P s (line t R >>= λ l. yields (item l tt))
      (good_more {S = Unit {0}} (LineInBounds P))
  own_line_is_sound = bind_is_sound line_is_sound (λ l g. yields_is_sound g)

  read_next_line_is_in_bounds : (s i j : ℕ) (l : More Line (Unit {0})) → Inside P s i → next_line t R i (Read l j) →
      Ended P s (good_more (LineInBounds P)) l j
  read_next_line_is_in_bounds s i j l p (no_byte w e) = let late = p.late in let forward = w.forward in
      record {
        late = omega arith;
        place =
            byte_run_ends_at_boundary t P cuts is_space space_is_ascii_set i j p.place w;
        good = tt;
      }
  read_next_line_is_in_bounds s i j l p (other_line w e f) = record { late = p.late; place = p.place; good = tt }
  read_next_line_is_in_bounds s i j l p (own_line w e f x) = own_line_is_sound.holds.on_read i j l p x

  refused_next_line_has_fault_in_text : (s i from to : ℕ) (k : Kind) → Inside P s i →
      next_line t R i (Refused k from to) → IsFault t s k from to
  refused_next_line_has_fault_in_text s i from to k p (own_line w e f x) =
      own_line_is_sound.holds.on_refused i from to k p x

  pub lines_are_sound : {s : ℕ} → Sound t P s (more_lines t R) (list_every (LineInBounds P))
  lines_are_sound {s = s} =
      many_is_sound
      (λ u. record {
        holds =
            record { on_read = read_next_line_is_in_bounds s; on_refused = refused_next_line_has_fault_in_text s };
      })
      tt (λ l ls g k. (g, k))

  opening_line_is_in_bounds : (start end : ℕ) (ps : List Piece) (e : Ending) → P start → EndedPieces P start ps end →
      EndingInBounds P end e → LineInBounds P (record { start = start; spaces = 0; pieces = ps; ending = e })
  opening_line_is_in_bounds start end ps e p r g =
      let on = r.late in
      record {
        leading = λ m l. (let x : start ≡ start + m = omega arith in subst P x p);
        end = end;
        late = omega arith;
        pieces = pieces_are_in_earlier_bounds P start (start + 0) end (omega arith) ps r.good;
        ending = g;
      }

  abbrev Opening : (start : ℕ) → List Piece → Ending → Line
  Opening start ps e = record { start = start; spaces = 0; pieces = ps; ending = e }

  ending_after_pieces_reads_soundly : (m : ℕ) (ps : List Piece) → P m →
      HoareTriple (EndedPieces P m ps) (ending t) (Ended P m (λ e. LineInBounds P (Opening m ps e))) (IsFault t m)
  ending_after_pieces_reads_soundly m ps pm = record {
    on_read = λ i j e p y.
        (let late = p.late in
        let q = (ending_reads_soundly t P cuts i).on_read i j e (record { late = omega arith; place = p.place }) y in
        let end = q.late in
        record { late = omega arith; place = q.place; good = opening_line_is_in_bounds m i ps e pm p q.good });
    on_refused = λ i from to k p y. ending_is_never_refused t P cuts (IsFault t m k from to) i from to k y;
  }

  layout_by_eol_reads_soundly : (s : ℕ) (o : Option ℕ) →
      HoareTriple (λ i. Inside P s i × (after_eol t i ≡ o)) (layout_at t R o) (Ended P s (LayoutInBounds P))
      (IsFault t s)
  layout_by_eol_reads_soundly s None = holds_weaker {pre = Inside P s} (λ i p. p.0) (λ a j x. x) (λ k from to x. x)
      (here_is_sound (λ m q. record {
        holds = holds_bind (pieces_are_sound m) (λ ps. holds_bind (ending_after_pieces_reads_soundly m ps q.place) (λ e.
            part_is_sound_after_good_value {Mid = λ e. LineInBounds P (Opening m ps e)}
            (λ g. bind_is_sound lines_are_sound (λ ls k. yields_is_sound (record { opening = g; lines = k })))));
      })).holds
  layout_by_eol_reads_soundly s (Some k) = holds_bind {mid = λ u. Inside P s}
      (holds_skip (λ i j p w. let q = p.0 in let late = q.late in let there = w.there in
      let f = eol_goes_on t i k p.1 in
      record { late = omega arith; place = subst P (sym there) (eol_ends_at_boundary t P cuts i k p.1) }))
      (λ u. (bind_is_sound (blank_block_is_sound t P cuts)
      (λ u v. bind_is_sound lines_are_sound (λ ls g. yields_is_sound (record { opening = tt; lines = g })))).holds)

  pub layout_is_sound : {s : ℕ} → Sound t P s (layout t R) (LayoutInBounds P)
  layout_is_sound {s = s} =
      bind_is_sound (inline_blank_is_sound t P cuts)
      (λ u v. record { holds = holds_peek (layout_by_eol_reads_soundly s) })

module _ (edition : Edition) (t : List ℕ) (P : ℕ →
    Type 0) (cuts : AreBoundaries t P) (R : Family) (h : IsSoundFamily t P R)
  where
    pub pattern_over_is_sound : {s : ℕ} → Sound t P s (pattern edition t R) (option_every (pattern_every (IsSpan P)))
    pattern_over_is_sound =
        bind_is_sound (layout_is_sound t P cuts R h) (λ y g. yields_is_sound (pattern_in_bounds t P cuts edition y g))

    variant_of_is_sound : {s : ℕ} (starred star : Bool) (key : KeyTree Span) (p : Option (PatternTree Span)) →
        key_every (IsSpan P) key → option_every (pattern_every (IsSpan P)) p →
        Sound t P s (variant_of t starred star key p) (good_more (variant_every (IsSpan P)))
    variant_of_is_sound starred star key None g k = fails_is_sound cuts.in_text tt (λ i. tt)
    variant_of_is_sound starred star key (Some p) g k = bind_is_sound (blank_is_sound t P cuts)
        (λ u v. yields_is_sound (g, k))

    variant_after_is_sound : {s : ℕ} (starred star : Bool) →
        Sound t P s (variant_after edition t R starred star) (good_more (variant_every (IsSpan P)))
    variant_after_is_sound starred star =
        bind_is_sound (blank_is_sound t P cuts)
        (λ u v. bind_is_sound (key_is_sound t P cuts) (λ key g. bind_is_sound (blank_is_sound t P cuts) (λ u v.
        bind_is_sound (token_is_sound t P cuts 93 refl)
        (λ u v. bind_is_sound pattern_over_is_sound (λ value k. variant_of_is_sound starred star key value g k)))))

    next_variant_is_sound : {s : ℕ} (starred : Bool) →
        Sound t P s (next_variant edition t R starred) (good_more (variant_every (IsSpan P)))
    next_variant_is_sound starred =
        bind_is_sound (optional_is_sound t P cuts 42 refl) (λ star u. bind_is_sound
        (only_star_is_sound t P cuts starred star) (λ u v.
        bind_is_sound (optional_is_sound t P cuts 91 refl)
        (λ bracket u. branch_on_is_sound (λ e. variant_after_is_sound starred star)
        (λ e. variants_end_is_sound t P cuts edition starred star))))

    pub variants_are_sound : {s : ℕ} (starred : Bool) →
        Sound t P s (more_variants edition t R starred) (variants_every (IsSpan P))
    variants_are_sound starred = many_is_sound next_variant_is_sound tt (λ v vs g k. (g, k))

    variants_after_arrow_read_soundly : (s : ℕ) →
        HoareTriple (AtArrow t P cuts s true) (variants_of_select edition t R) (Ended P s (variants_every (IsSpan P)))
        (IsFault t s)
    variants_after_arrow_read_soundly s =
        holds_bind {mid = λ u. Inside P s} (holds_skip (place_after_arrow_is_inside t P cuts s))
        (λ u. (bind_is_sound (inline_blank_is_sound t P cuts)
        (λ u v. bind_is_sound (arrow_is_sound t P cuts)
        (λ u v. bind_is_sound (blank_is_sound t P cuts) (λ u v. variants_are_sound false)))).holds)

    select_after_arrow_reads_soundly : (s : ℕ) (e : InlineTree Span) → inline_every (IsSpan P) e → (o : Option Kind) →
        ((k : Kind) → o ≡ Some k → (i : ℕ) → IsPlain k × kind_means t k i) →
        HoareTriple (AtArrow t P cuts s true) (select_with edition t R e o) (Ended P s (expression_every (IsSpan P)))
        (IsFault t s)
    select_after_arrow_reads_soundly s e g None m =
        holds_bind (variants_after_arrow_read_soundly s)
        (λ vs. yields_meets_triple (λ i p. record { late = p.late; place = p.place; good = (g, p.good) }))
    select_after_arrow_reads_soundly s e g (Some k) m =
        fails_meets_triple (λ i p. let q = p.0 in let n = m k refl i in
        record { late = q.late; in_text = cuts.in_text i q.place; one = refl; plain = n.0; means = n.1 })

    expression_after_blank_reads_soundly : (s : ℕ) (e : InlineTree Span) → inline_every (IsSpan P) e → (arrow : Bool) →
        HoareTriple (AtArrow t P cuts s arrow)
        (branch_on arrow (select_with edition t R e (selector_fault e))
        (branch_on (is_term_attribute e) (fails TermAttributeAsPlaceable) (yields (inline e))))
        (Ended P s (expression_every (IsSpan P))) (IsFault t s)
    expression_after_blank_reads_soundly s e g arrow = holds_branch_on
        (λ y. holds_weaker (λ i p. (p.0, p.1 ∙ y)) (λ a j x. x) (λ k from to x. x)
        (select_after_arrow_reads_soundly s e g (selector_fault e) (fault_is_plain t e)))
        (λ y. holds_weaker {pre = Inside P s} (λ i p. p.0) (λ a j x. x) (λ k from to x. x)
        (branch_on_is_sound (λ z. fails_is_sound cuts.in_text tt (λ i. tt)) (λ z. yields_is_sound g)).holds)

    pub expression_is_sound : {s : ℕ} → Sound t P s (expression edition t R) (expression_every (IsSpan P))
    expression_is_sound {s = s} = bind_is_sound (inline_is_sound t P cuts R h)
        (λ e g. bind_is_sound (blank_is_sound t P cuts) (λ u v.
        record {
          holds =
              holds_bind {mid = AtArrow t P cuts s} (holds_peek (λ a. yields_meets_triple (λ i p. p)))
              (λ arrow. expression_after_blank_reads_soundly s e g arrow);
        }))

    next_is_sound : IsSoundFamily t P (next edition t R)
    next_is_sound =
        record { expression = λ s. expression_is_sound; argument_list = λ s. arguments_are_sound t P cuts R h [] }

module _ (edition : Edition) (t : List ℕ) (P : ℕ → Type 0) (cuts : AreBoundaries t P) where
  depth_zero_is_sound : IsSoundFamily t P (within edition t zero)
  unfolding within
  depth_zero_is_sound = record {
    expression =
        λ s. record { holds = record { on_read = λ i j a p x. absurd x; on_refused = λ i from to k p x. absurd x } };
    argument_list =
        λ s. record { holds = record { on_read = λ i j a p x. absurd x; on_refused = λ i from to k p x. absurd x } };
  }

  next_depth_is_sound : (n : ℕ) → IsSoundFamily t P (within edition t n) → IsSoundFamily t P (within edition t (suc n))
  unfolding within
  next_depth_is_sound n h = next_is_sound edition t P cuts (within edition t n) h

  pub within_is_sound : (n : ℕ) → IsSoundFamily t P (within edition t n)
  within_is_sound zero = depth_zero_is_sound
  within_is_sound (suc n) = next_depth_is_sound n (within_is_sound n)

  -- what nests is sound, to any depth
  pub family_is_sound : IsSoundFamily t P (family edition t)
  unfolding family
  family_is_sound = record {
    expression = λ s. record {
      holds = record {
        on_read = λ i j a p x. ((within_is_sound x.0).expression s).holds.on_read i j a p x.1;
        on_refused = λ i from to k p x. ((within_is_sound x.0).expression s).holds.on_refused i from to k p x.1;
      };
    };
    argument_list = λ s. record {
      holds = record {
        on_read = λ i j a p x. ((within_is_sound x.0).argument_list s).holds.on_read i j a p x.1;
        on_refused = λ i from to k p x. ((within_is_sound x.0).argument_list s).holds.on_refused i from to k p x.1;
      };
    };
  }
