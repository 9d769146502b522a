use Rattle.std.proofs.Common.{◌∙◌, ap, refl, sym}
use Rattle.fluent_syntax_writer.proofs.rules.Sets.{and_with_true_is_same}
use Rattle.ftl.proofs.writers.NormalWriter.new.Goals as goal

pub returns : goal.returns
returns c = record {
  start = c.string_with_room.result;
  is_empty = c.string_with_room.ensures;
  wrote = c.new.ensures.wrote_none;
  no_junk = ap (λ options. options.with_junk) c.new.ensures.options ∙ c.default.ensures;
  by_edition = refl;
  canonical = sym (and_with_true_is_same c.args.asks);
}
