use Rattle.std.proofs.Common.{ap, inl, inr, rules, sym, Some, ◌∙◌}
use Rattle.std.proofs.lemmas.List.Elements.{All-push}
use Rattle.std.proofs.lemmas.Map.Iter.{btree_map_turn}
use Rattle.std.specs.Map.Iter.{deref_pair}
use Rattle.std.specs.Prelude.{option_map}
use Rattle.std.specs.String.{string_cmp_total}
use Rattle.ftl_lsp.specs.Contexts.{IsIndexed}
use Rattle.ftl_lsp.specs.OpenDocuments.{open_text, texts_of}
use Rattle.ftl_lsp.proofs.RenamingLemmas.{absent_is_none}
use Rattle.ftl_lsp.proofs.documents.index.indexed_documents.Goals as goal

pub loop-uri-preserved-in_ok-push : goal.loop-uri-preserved-in_ok-push
loop-uri-preserved-in_ok-push c =
    let texts = texts_of c.args.documents.now in
    let turn = btree_map_turn deref_pair c.loop-uri.yielded c.into_iter-uri-iterator.result c.loop-uri.uri-iterator
    c.next.new.self c.next.result (c.in-Some.uri, c.in-Some.opened) c.loop-uri.yielded_by c.in-Some.is
    c.next.ensures.steps string_cmp_total c.args.documents.now (search rules) (search rules) in
    let document = c.in_ok-indexed_document.ensures in
    rw c.in_ok-push.ensures.items
    (All-push (IsIndexed texts) _ _ c.loop-uri.invariant
    (inl (ap texts (document.uri ∙ c.deref.ensures) ∙ ap (option_map open_text) turn.1 ∙
    ap Some (sym document.text))))

pub loop-path-preserved-then-has-2 : goal.loop-path-preserved-then-has-2
loop-path-preserved-then-has-2 c =
    let texts = texts_of c.args.documents.now in
    let named = c.indexed_file.ensures.uri ∙ sym c.as_str-then-not-is_open.ensures.value in
    rw c.in_ok-push-2.ensures.items
    (All-push (IsIndexed texts) _ _ c.loop-path.invariant
    (inr (ap texts named ∙ absent_is_none open_text _ c.if-not-contains_key.ensures, c.indexed_file.ensures.version)))
