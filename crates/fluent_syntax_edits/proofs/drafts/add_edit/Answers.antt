use Rattle.std.proofs.Common.{◌-◌, drop, refl, string_bytes, take}
use Rattle.std.proofs.lemmas.List.{append_assoc}
use Rattle.fluent_syntax_edits.proofs.drafts.add_edit.Goals as goal

pub returns : goal.returns
returns c =
    let old = c.args.draft.now in
    let (line_ends, few, text) = rw c.as_bytes-2.ensures.value at c.in_ok-text.ensures in record {
      replacement = record { span = c.args.span; text = c.in_ok-text.text };
      span = refl;
      line_ends = line_ends;
      few = few;
      text = text;
      replacements = c.in_ok-push.ensures.items;
      written =
          rw (c.in_ok-push_str-2.ensures.bytes, c.in_ok-push_str.ensures.bytes)
          (rw (c.range.ensures.value, c.as_str.ensures.value)
          (append_assoc (string_bytes old.text) (take (c.args.span.start - old.end) (drop old.end c.args.source.now))
          (string_bytes c.in_ok-text.text)));
      end = refl;
    }
