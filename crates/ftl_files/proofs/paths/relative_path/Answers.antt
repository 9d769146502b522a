use Rattle.std.proofs.lemmas.Str.Pattern.{strip_prefix_char}
use Rattle.std.proofs.Common.{arith}
use Rattle.ftl_files.proofs.PathLemmas.{path_in_folder_is_its_relative}
use Rattle.ftl_files.proofs.paths.relative_path.Goals as goal

pub returns : goal.returns
returns c =
    let (n, front, beyond, size) = c.in_ok-strip_prefix.ensures.cases in
    let slash = strip_prefix_char 47 _ c.strip_prefix-2.result c.strip_prefix-2.ensures.cases (omega arith) in
    path_in_folder_is_its_relative _ _ _ n _ front.1 beyond slash
