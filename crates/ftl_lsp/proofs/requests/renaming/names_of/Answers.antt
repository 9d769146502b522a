use Rattle.std.proofs.Common.{ap, sym, ◌∙◌}
use Rattle.fluent_syntax_grammar.specs.Spellings.{is_name}
use Rattle.ftl_lsp.proofs.requests.renaming.names_of.Goals as goal

pub returns-then-is_identifier : goal.returns-then-is_identifier
returns-then-is_identifier c = λ texts d context wanted. record {
  uri = c.args.context.now.uri.now;
  named = context.named;
  found = context.found;
  is_open = context.is_open;
  position = context.position;
  asked = context.asked;
  byte = c.args.context.now.byte;
  there = context.there;
  old_name = c.in-Some.ensures texts d context;
  old_spelling = ap is_name (sym c.shown_text.ensures) ∙ sym c.if-is_identifier.ensures;
  new = c.args.new_name.now;
  wanted = wanted;
  identifier_of = c.in_ok-identifier.ensures.identifier;
  spelling = c.in_ok-identifier.ensures.spelling;
}
