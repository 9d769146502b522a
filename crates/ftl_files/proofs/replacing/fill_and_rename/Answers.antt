use Rattle.std.proofs.Common.{◌≡◌, ◌++◌, ◌∙◌, List, ℕ, Some, subst}
use Rattle.std.proofs.lemmas.Option.{MatchOption-at_some}
use Rattle.ftl_files.specs.Files.{GoesOn, IsSynced, at_path}
use Rattle.ftl_files.proofs.Replaced.{written_and_synced_file_replaces}
use Rattle.ftl_files.proofs.replacing.fill_and_rename.Goals as goal

pub returns-clause-any_moment : goal.returns-clause-any_moment
returns-clause-any_moment g c =
    let files = g.F.FileSystem.files in
    let written = files c.write.new.self in
    let write = subst (λ p. GoesOn (files c.args.system.now) written (at_path p)) c.requires c.write.ensures.changes in
    let had = subst
    (λ p. (bytes : List ℕ) → (files c.args.system.now).bytes_at p ≡ Some bytes → written.bytes_at p ≡ Some (bytes
    ++ c.args.text.now))
    c.requires (λ bytes is. MatchOption-at_some _ _ bytes is c.in_ok-write.ensures.written) in
    let synced = subst (λ p. IsSynced (files c.sync.new.self) p) (c.write.ensures.path ∙ c.requires)
    c.in_ok-sync.ensures.synced in
    written_and_synced_file_replaces _ _ _ _ c.args.temporary.now c.args.path.now c.args.text.now write
    c.sync.ensures.same
    c.rename.ensures.changes
    had synced
