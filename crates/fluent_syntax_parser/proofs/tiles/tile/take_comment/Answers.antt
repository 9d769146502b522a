use Rattle.std.proofs.Common.{length, ap, sym, ◌∙◌, arith}
use Rattle.std.proofs.lemmas.List.{length_push, same_from_push}
use Rattle.fluent_syntax_tree.specs.declared.ast.Entry.TheVariants as entries
use Rattle.fluent_syntax_parser.proofs.tiles.tile.take_comment.Goals as goal

pub returns-in-None : goal.returns-in-None
returns-in-None g c = λ before comm last.
    let some = c.in-None.ensures.variant.1
    (omega (arith, c.args.body.now.ok.0, ap length last, length_push before (entries.Comment comm))) in
    cc

pub returns-in-Some : goal.returns-in-Some
returns-in-Some g c = λ before comm last.
    let same = same_from_push _ before _ (entries.Comment comm) (sym c.in-Some.ensures.items ∙ last) in
    (c.as_comment.ensures comm same.1, same.0)
