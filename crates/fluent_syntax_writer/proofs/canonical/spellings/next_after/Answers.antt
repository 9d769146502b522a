use Rattle.std.proofs.Common.{sym, ◌∙◌}
use Rattle.fluent_syntax_writer.proofs.rules.Strings.{is_units-digit}
use Rattle.fluent_syntax_writer.proofs.canonical.spellings.next_after.Goals as goal

pub returns-then-is_ascii_hexdigit : goal.returns-then-is_ascii_hexdigit
returns-then-is_ascii_hexdigit c = λ rest.
    let digit = sym c.is_ascii_hexdigit.ensures.value ∙ c.if-is_ascii_hexdigit.true in
    rw c.in-Units.is (is_units-digit c.in-Units.digits c.args.byte rest c.if-digits-eq0.false digit)
