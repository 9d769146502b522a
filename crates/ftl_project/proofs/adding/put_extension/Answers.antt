use Rattle.std.proofs.Common.{refl}
use Rattle.ftl_project.specs.Adding.{Extends}
use Rattle.ftl_project.proofs.Reaching.{AllReach-replaced, AllReach-untouched}
use Rattle.ftl_project.proofs.adding.put_extension.Goals as goal

pub returns-in_default : goal.returns-in_default
returns-in_default g c = λ read is extends.
    let at = g.S.Store.bytes_at in
    AllReach-untouched (Extends c.args.edition) (at c.args.store.now) (at c.args.store.now) (λ path. refl)

pub returns-in-Ok : goal.returns-in-Ok
returns-in-Ok g c = λ read is extends.
    let at = g.S.Store.bytes_at in
    AllReach-replaced (Extends c.args.edition) c.args.path.now (at c.args.store.now) (at c.replace.new.self) read _ is
    (rw c.in-Some.is at extends) (rw c.as_bytes.ensures.value at c.replace.ensures.whole) c.replace.ensures.others

pub returns-in-Err : goal.returns-in-Err
returns-in-Err g c = λ read is extends.
    let at = g.S.Store.bytes_at in
    AllReach-replaced (Extends c.args.edition) c.args.path.now (at c.args.store.now) (at c.replace.new.self) read _ is
    (rw c.in-Some.is at extends) (rw c.as_bytes.ensures.value at c.replace.ensures.whole) c.replace.ensures.others
