use Rattle.std.proofs.Common.{◌∷◌, [], ◌∙◌, ◌≤◌, ap, arith, length, not}
use Rattle.std.specs.Cmp.Lexicographic.{slice_cmp}
use Rattle.std.specs.Ordering.{nat_cmp}
use Rattle.std.proofs.lemmas.List.{length-map, map-append}
use Rattle.std.proofs.lemmas.Map.Lookups.{exact_bytes}
use Rattle.fluent_syntax_tree.specs.Spans.{bytes_at}
use Rattle.fluent_syntax_parser.specs.Gathered.{names_in_order}
use Rattle.fluent_syntax_parser.proofs.expressions.Noted.{keys_note_name_among_many, is_used-new}
use Rattle.fluent_syntax_parser.proofs.expression.argument_names.SeenNames.note_new.Goals as goal

pub returns-then-not-is_new-clause-new : goal.returns-then-not-is_new-clause-new
returns-then-not-is_new-clause-new c =
    let t = c.args.source.now.bytes.now in
    let names = c.args.self.now.names in
    let size = length-map names.items (bytes_at t) in
    let many : 32 ≤ length (names_in_order t names.items) =
    omega (arith, size, c.if-len-lt-TABLE_THRESHOLD.false, c.len.ensures, names.ok.0) in
    is_used-new (λ k. k.now) c.args.self.now.table.keys _ _ _ _ c.in_ok-is_new.ensures.added c.bytes_of.ensures
    (c.requires.1 many) ∙ ap not c.if-not-is_new.true

pub returns-clause-new : goal.returns-clause-new
returns-clause-new c =
    let t = c.args.source.now.bytes.now in
    let names = c.args.self.now.names in
    let size = length-map names.items (bytes_at t) in
    let many : 32 ≤ length (names_in_order t names.items) =
    omega (arith, size, c.if-len-lt-TABLE_THRESHOLD.false, c.len.ensures, names.ok.0) in
    is_used-new (λ k. k.now) c.args.self.now.table.keys _ _ _ _ c.in_ok-is_new.ensures.added c.bytes_of.ensures
    (c.requires.1 many) ∙ ap not c.if-not-is_new.false

pub returns-clause-noted : goal.returns-clause-noted
returns-clause-noted c = λ is_new.
    let t = c.args.source.now.bytes.now in
    let old = c.args.self.now.names.items in
    let size = length-map old (bytes_at t) in
    let many : 32 ≤ length (names_in_order t old) =
    omega (arith, size, c.if-len-lt-TABLE_THRESHOLD.false, c.len.ensures, c.args.self.now.names.ok.0) in
    let noted = keys_note_name_among_many (λ k. k.now) (λ x y. slice_cmp nat_cmp x.now y.now)
    (λ x y e. exact_bytes x.now y.now e)
    c.args.self.now.table.keys _ (names_in_order t old) c.bytes_of.result _ (c.requires.1 many)
    c.in_ok-is_new.ensures.keys c.bytes_of.ensures (omega (arith, many)) in
    (c.in_ok-push.ensures.items, rw (c.in_ok-push.ensures.items, map-append (bytes_at t) old (c.args.name ∷ [])) noted)
