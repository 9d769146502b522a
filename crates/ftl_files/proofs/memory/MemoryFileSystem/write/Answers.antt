use Rattle.std.proofs.Common.{◌∙◌, string_bytes}
use Rattle.ftl_files.specs.Files.{at_path}
use Rattle.ftl_files.proofs.Changed.{goes_on_to_change}
use Rattle.ftl_files.proofs.memory.MemoryFileSystem.write.Goals as goal

pub returns-clause-changes : goal.returns-clause-changes
returns-clause-changes c =
    let made = c.in_ok-change.ensures.changed in
    goes_on_to_change _ _ made.0 (at_path (string_bytes c.args.file.now.path)) made.3
    (λ path left is was. is ∙ made.1 ∙ c.as_str-path.ensures.value)
