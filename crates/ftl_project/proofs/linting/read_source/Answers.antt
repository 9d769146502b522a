use Rattle.std.proofs.Common.{◌≡◌, inl, refl, string_bytes, subst, sym}
use Rattle.std.specs.Prelude.{IfSome}
use Rattle.ftl_project.proofs.linting.read_source.Goals as goal

pub returns-in-Ok-add_source-clause-source : goal.returns-in-Ok-add_source-clause-source
returns-in-Ok-add_source-clause-source g c =
    let at = g.S.Store.bytes_at c.args.store.now in
    let added = c.in-Ok-add_source.ensures in
    let read = subst (λ p. IfSome (at p) (λ b. string_bytes c.in-Ok.text ≡ b)) c.as_str-path.ensures.value
    c.in-Ok.ensures.text in
    inl (
      added.0,
      record {
        path_is = added.1;
        text_is = subst (λ t. IfSome (at (string_bytes c.args.file.now.path)) (λ b. t ≡ b)) (sym added.2) read;
        asked_is = added.3;
        ignored_is = added.4;
      },
      added.5,
      refl,
    )
