-- Where the errors of a text are once a stretch of it has changed.
use Rattle.std.specs.Prelude.{ℕ, ◌+◌, ◌-◌, Bool, nat_le, if◌then◌else◌}
use Rattle.fluent_syntax_tree.specs.declared.spans.Span.{Span}
use Rattle.fluent_syntax_grammar.specs.Tiling.{Fault}

-- where a place is that the text has after the end of a stretch, if `to` is where it ends now
abbrev pub moved_place : (stays : Bool) → (end to : ℕ) → ℕ → ℕ
moved_place stays end to k = if stays then k else to + (k - end)

abbrev pub moved_span : (stays : Bool) → (end to : ℕ) → Span → Span
moved_span stays end to s =
    record { start = moved_place stays end to s.start; end = moved_place stays end to s.end }

-- An error whose junk ends before the stretch or where it starts stays. Any other is after it, and moves.
abbrev pub moved_fault : (replaced : Span) (to : ℕ) → Fault → Fault
moved_fault replaced to f =
    let stays = nat_le f.slice.end replaced.start in record {
      kind = f.kind;
      pos = moved_span stays replaced.end to f.pos;
      slice = moved_span stays replaced.end to f.slice;
    }
