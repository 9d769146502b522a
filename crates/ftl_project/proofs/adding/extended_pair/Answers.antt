use Rattle.std.proofs.Common.{◌∙◌, string_bytes, subst, sym}
use Rattle.ftl_project.specs.Adding.{Extends}
use Rattle.ftl_project.specs.Faults.{IsRead}
use Rattle.ftl_project.proofs.Reaching.{AllReach-trans, AllReach-untouched}
use Rattle.ftl_project.specs.Rewriting.{AllReachBy}
use Rattle.ftl_project.proofs.adding.extended_pair.Goals as goal
use Rattle.ftl_project.proofs.adding.extended_pair.Goals.{in-Write+in_ok-put_extension, in_default}

pub returns-in_err-reference : goal.returns-in_err-reference
returns-in_err-reference g c =
    let at = g.S.Store.bytes_at in
    AllReach-untouched (Extends c.args.options.reading.edition) (at c.args.store.now) (at c.reference_text.new.store)
    c.reference_text.ensures

pub returns-in_err-old : goal.returns-in_err-old
returns-in_err-old g c =
    let at = g.S.Store.bytes_at in
    AllReach-untouched (Extends c.args.options.reading.edition) (at c.args.store.now) (at c.translation_text.new.store)
    (λ path. c.translation_text.ensures.untouched path ∙ c.reference_text.ensures path)

pub returns-in_err-extension : goal.returns-in_err-extension
returns-in_err-extension g c =
    let at = g.S.Store.bytes_at in
    AllReach-untouched (Extends c.args.options.reading.edition) (at c.args.store.now) (at c.translation_text.new.store)
    (λ path. c.translation_text.ensures.untouched path ∙ c.reference_text.ensures path)

pub returns : goal.returns
returns g c =
    let at = g.S.Store.bytes_at in
    let edition = c.args.options.reading.edition in
    let read_so = AllReach-untouched (Extends edition) (at c.args.store.now) (at c.translation_text.new.store)
    (λ path. c.translation_text.ensures.untouched path ∙ c.reference_text.ensures path) in
    elim c.match-options.branch [
      | in-Write+in_ok-put_extension w ↦
          (let read = subst (λ bytes. IsRead bytes (string_bytes c.in_ok-old.old))
          (sym (c.translation_text.ensures.untouched _)) (c.in_ok-old.ensures.text w.in-Write.is) in
          let put = rw w.as_str-in-Write.ensures.value at w.put_extension.ensures in
          subst (λ store. AllReachBy (Extends edition) (at c.args.store.now) (at store)) (sym w.store-is)
          (AllReach-trans (Extends edition) (at c.args.store.now) (at c.translation_text.new.store)
          (at w.put_extension.new.store) read_so
          (put (string_bytes c.in_ok-old.old) read c.in_ok-extension.ensures)))
      | in_default w ↦
          subst (λ store. AllReachBy (Extends edition) (at c.args.store.now) (at store)) (sym w.store-is) read_so
    ]
