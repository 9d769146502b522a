use Rattle.std.proofs.Common.{◌≡◌, ◌+◌, ◌<◌, ◌≤◌, ◌++◌, List, length, sym, ap, ◌∙◌, subst, arith}
use Rattle.std.proofs.lemmas.Grind.{common_steps}
use Rattle.std.proofs.lemmas.List.{length-append}
use Rattle.fluent_syntax_names.specs.MessageReferences.{followed_limit}
use Rattle.fluent_syntax_names.specs.Rows.{reachable_of, row_of, texts_at}
use Rattle.fluent_syntax_names.specs.QualifiedNames.{Text}
use Rattle.fluent_syntax_names.proofs.ReachableWithin.{FollowedTo, following_goes_on_with_targets}
use Rattle.fluent_syntax_names.proofs.ReachableWithin.{too_many_targets_reach_nothing, followed_names_are_all_reachable}
use Rattle.fluent_syntax_names.proofs.ReachableWithin.{too_many_names_reach_nothing}
use Rattle.fluent_syntax_names.proofs.MessageReferences.{lengths_add_up, name_is_read, length-texts_at, length-texts_of}
use Rattle.fluent_syntax_names.proofs.message_references.MessageReferences.reachable_messages.Goals as goal

pub returns-then-not-branch : goal.returns-then-not-branch
returns-then-not-branch c =
    let self = c.args.self.now in
    let first = row_of self c.args.name.now in
    let fits = c.in_ok-add_followed.ensures.fits in
    let size = ap length c.targets_of.ensures in
    let long : followed_limit < length first =
    grind (arith, common_steps, fits, size, length-texts_of c.targets_of.result.now) in
    sym (too_many_names_reach_nothing (row_of self) followed_limit first long)

pub returns-then-not-branch-2 : goal.returns-then-not-branch-2
returns-then-not-branch-2 c =
    let self = c.args.self.now in
    let messages = c.loop-index.messages.items in
    let i = c.loop-index.index in
    let x = c.index.result.now.now in
    let read = name_is_read messages i c.index.result.now (omega arith) (omega arith) c.index.ensures in
    let fits = c.in_ok-add_followed-2.ensures.fits in
    let sizes = lengths_add_up messages c.targets_of-targets.result.now (row_of self x) c.targets_of-targets.ensures in
    let long : followed_limit < length (texts_at messages) + length (row_of self x) =
    grind (arith, common_steps, fits, sizes) in
    sym (too_many_targets_reach_nothing (row_of self) followed_limit (reachable_of self c.args.name.now)
    (texts_at messages) i read.few
    c.loop-index.invariant.left x read.within read.is long)

pub loop-index-preserved : goal.loop-index-preserved
loop-index-preserved c =
    let self = c.args.self.now in
    let messages = c.loop-index.messages.items in
    let new = c.add_followed-in-loop-index.new.names.items in
    let i = c.loop-index.index in
    let x = c.index.result.now.now in
    let read = name_is_read messages i c.index.result.now (omega arith) (omega arith) c.index.ensures in
    let fits = c.in_ok-add_followed-2.ensures.fits in
    let sizes = lengths_add_up messages c.targets_of-targets.result.now (row_of self x) c.targets_of-targets.ensures in
    let enough : length (texts_at messages) + length (row_of self x) ≤ followed_limit =
    grind (arith, common_steps, fits, sizes) in
    let longer : texts_at messages ++ row_of self x ≡ texts_at new =
    sym (c.in_ok-add_followed-2.ensures.added c.if-not-branch-2.false
    ∙ ap (λ (l : List Text). texts_at messages ++ l) c.targets_of-targets.ensures) in
    let size : length (texts_at messages) + length (row_of self x) ≡ length new =
    sym (length-append (texts_at messages) (row_of self x)) ∙ ap length longer ∙ length-texts_at new in
    let left =
    following_goes_on_with_targets (row_of self) followed_limit (reachable_of self c.args.name.now)
    (texts_at messages) i read.few
    c.loop-index.invariant.left x read.within read.is in
    record {
      few = omega (arith, enough, size);
      within = omega (arith, size, read.within);
      left = subst (λ (l : List Text).
          FollowedTo (row_of self) followed_limit (reachable_of self c.args.name.now) l (i + 1)) longer left;
    }

pub returns : goal.returns
returns c =
    let self = c.args.self.now in
    let messages = c.loop-index.messages.items in
    let few : length (texts_at messages) ≤ followed_limit = omega (arith, length-texts_at messages) in
    sym (followed_names_are_all_reachable (row_of self) followed_limit (reachable_of self c.args.name.now)
    (texts_at messages)
    c.loop-index.index few c.loop-index.invariant.left (omega (arith, length-texts_at messages)))
