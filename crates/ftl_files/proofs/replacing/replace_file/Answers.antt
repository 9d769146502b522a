use Rattle.std.proofs.Common.{◌≡◌, [], IfSome, Some, subst, sym}
use Rattle.ftl_files.specs.Files.{GoesOn, at_path, filled, nowhere}
use Rattle.ftl_files.proofs.Replaced.{replaced_file_is_durable, OnOk-weaker, removal_is_part_of_replaced}
use Rattle.ftl_files.proofs.Replaced.{making_and_filling_is_replacing}
use Rattle.ftl_files.proofs.replacing.replace_file.Goals as goal

pub returns-in-Ok-clause-any_moment : goal.returns-in-Ok-clause-any_moment
returns-in-Ok-clause-any_moment g c =
    let files = g.F.FileSystem.files in
    let path = c.args.path.now in
    let text = c.args.text.now in
    let fill = subst
    (λ b. GoesOn (files c.create_temporary.new.system) (files c.fill_and_rename.new.system)
    (filled (files c.create_temporary.new.system) b path text))
    c.as_str.ensures.value c.fill_and_rename.ensures.any_moment in
    making_and_filling_is_replacing _ _ _ _ _ path text nowhere c.create_temporary.ensures.any_moment fill
    c.sync_name.ensures.same
    (λ p left none. absurd none) c.in_ok-temporary.ensures.free c.in_ok-temporary.ensures.empty

pub returns-clause-any_moment : goal.returns-clause-any_moment
returns-clause-any_moment g c =
    let files = g.F.FileSystem.files in
    let path = c.args.path.now in
    let text = c.args.text.now in
    let fill = subst
    (λ b. GoesOn (files c.create_temporary.new.system) (files c.fill_and_rename.new.system)
    (filled (files c.create_temporary.new.system) b path text))
    c.as_str.ensures.value c.fill_and_rename.ensures.any_moment in
    let remove = subst
    (λ b. GoesOn (files c.fill_and_rename.new.system) (files c.remove.new.self) (at_path b))
    c.as_str-in-Err.ensures.value c.remove.ensures.changes in
    making_and_filling_is_replacing _ _ _ _ _ path text _ c.create_temporary.ensures.any_moment fill remove
    (removal_is_part_of_replaced (files c.args.system.now) _ path text c.in_ok-temporary.ensures.free)
    c.in_ok-temporary.ensures.free c.in_ok-temporary.ensures.empty

pub returns-in-Ok-clause-durable : goal.returns-in-Ok-clause-durable
returns-in-Ok-clause-durable g c =
    let files = g.F.FileSystem.files in
    let empty = subst
    (λ b. IfSome ((files c.args.system.now).bytes_at c.args.path.now)
    (λ _. (files c.create_temporary.new.system).bytes_at b ≡ Some []))
    (sym c.as_str.ensures.value) c.in_ok-temporary.ensures.empty in
    OnOk-weaker _ _ _ c.sync_name.ensures.named
    (replaced_file_is_durable (files c.args.system.now) (files c.create_temporary.new.system)
    (files c.fill_and_rename.new.system)
    (files c.sync_name.new.self) c.as_str.result.now c.args.path.now c.args.text.now empty c.in-Ok.ensures.synced
    c.sync_name.ensures.same)
