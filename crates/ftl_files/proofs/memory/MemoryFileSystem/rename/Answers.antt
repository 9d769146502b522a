use Rattle.std.proofs.Common.{◌≡◌, ◌∙◌, Some, inl, inr, rules, subst, sym}
use Rattle.ftl_files.specs.Files.{GoesOn, at_path, renamed}
use Rattle.ftl_files.specs.Memory.{bytes_at, bytes_of, files_of}
use Rattle.ftl_files.proofs.Changed.{goes_on_to_change}
use Rattle.ftl_files.proofs.Steps.{GoesOn-trans}
use Rattle.ftl_files.proofs.memory.MemoryFileSystem.rename.Goals as goal

-- the new name was given, and the old one not yet taken
pub returns-in_err-change-2-clause-changes : goal.returns-in_err-change-2-clause-changes
returns-in_err-change-2-clause-changes c =
    let before = c.args.self.now.changes.items in
    let changes = renamed (files_of before) c.args.from.now c.args.to.now in
    let made = c.in_ok-change.ensures.changed in
    let had_bytes : bytes_at before c.args.from.now ≡ Some c.in-Some.bytes.now = search rules in
    let came : bytes_of made.0.bytes ≡ Some c.in-Some.bytes.now = search rules in
    let first = goes_on_to_change _ _ made.0 changes made.3
    (λ path left is was. inr (is ∙ made.1, (c.in-Some.bytes.now, was ∙ came, inl had_bytes))) in
    subst (λ l. GoesOn (files_of before) (files_of l) changes) (sym c.in_err-change-2.ensures.failed) first

pub returns-clause-changes : goal.returns-clause-changes
returns-clause-changes c =
    let before = c.args.self.now.changes.items in
    let changes = renamed (files_of before) c.args.from.now c.args.to.now in
    let made = c.in_ok-change.ensures.changed in
    let taken = c.in_ok-change-2.ensures.changed in
    let had_bytes : bytes_at before c.args.from.now ≡ Some c.in-Some.bytes.now = search rules in
    let came : bytes_of made.0.bytes ≡ Some c.in-Some.bytes.now = search rules in
    let first = goes_on_to_change _ _ made.0 changes made.3
    (λ path left is was. inr (is ∙ made.1, (c.in-Some.bytes.now, was ∙ came, inl had_bytes))) in
    let second = goes_on_to_change _ _ taken.0 (at_path c.args.from.now) taken.3 (λ path left is was. is ∙ taken.1) in
    GoesOn-trans _ _ _ changes (at_path c.args.from.now) changes first second (λ p left is. is)
    (λ p left same. inl same)
