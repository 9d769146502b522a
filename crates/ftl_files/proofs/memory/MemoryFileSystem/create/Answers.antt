use Rattle.std.proofs.Common.{◌≡◌, ◌∙◌, None, ap, rules}
use Rattle.ftl_files.specs.Files.{at_free_path}
use Rattle.ftl_files.specs.Memory.{bytes_at, files_of}
use Rattle.ftl_files.proofs.Changed.{goes_on_to_change}
use Rattle.ftl_files.proofs.memory.MemoryFileSystem.create.Goals as goal

pub returns-clause-changes : goal.returns-clause-changes
returns-clause-changes c =
    let before = c.args.self.now.changes.items in
    let free : bytes_at before c.args.path.now ≡ None = search rules in
    let made = c.in_ok-change.ensures.changed in
    goes_on_to_change _ _ made.0 (at_free_path (files_of before) c.args.path.now) made.3
    (λ path left is was. (is ∙ made.1, ap (bytes_at before) (is ∙ made.1) ∙ free))
