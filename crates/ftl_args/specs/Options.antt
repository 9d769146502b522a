-- What counts of options and settings.
use Rattle.std.specs.Prelude.{unwrap_or}
use Rattle.std.specs.Option.{option_or}
use Rattle.fluent_syntax_tree.specs.declared.edition.Edition.TheVariants.{One}
use Rattle.ftl_files.specs.declared.options.Form.{Form}
use Rattle.ftl_files.specs.declared.options.Form.TheVariants as form
use Rattle.ftl_files.specs.declared.options.Reading.{Reading}
use Rattle.ftl_files.specs.declared.options.Output.{Output}
use Rattle.ftl_files.specs.declared.options.Output.TheVariants.{Full, Github, Json, Lines}
use Rattle.ftl_files.specs.declared.settings.Settings.{Settings}
use Rattle.ftl_args.specs.declared.options.Options.{Options}

-- what the options say, and where they leave it open what the settings say
abbrev pub options_or : Options → Settings → Options
options_or options settings = record {
  edition = option_or options.edition settings.edition;
  output = option_or options.output settings.output;
  nesting = option_or options.nesting settings.nesting;
  color = option_or options.color settings.color;
  blank_lines = option_or options.blank_lines settings.blank_lines;
}

-- edition one, and a nesting of 2,000, where nothing else is said
abbrev pub reading_of : Options → Reading
reading_of options = record {
  edition = unwrap_or options.edition One;
  nesting = unwrap_or options.nesting 2000;
}

abbrev pub form_of : Output → Form
form_of Lines = form.Lines
form_of Full = form.Full
form_of Json = form.Json
form_of Github = form.Github
