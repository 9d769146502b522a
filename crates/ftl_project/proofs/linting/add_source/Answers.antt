use Rattle.std.proofs.Common.{◌∙◌, refl}
use Rattle.ftl_project.proofs.linting.add_source.Goals as goal

pub returns : goal.returns
returns c = (
  record {
    path = c.in_ok-path.path;
    text = c.args.text;
    is_asked = c.args.file.now.is_asked;
    ignored = c.args.file.now.ignored;
  },
  c.in_ok-path.ensures.ok ∙ c.as_str.ensures.value,
  refl,
  refl,
  refl,
  c.in_ok-push.ensures.items,
)
