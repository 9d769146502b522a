-- Why files are left out where names are looked for.
use Rattle.std.specs.Prelude.{ℕ, List, ◌++◌, codes}
use Rattle.ftl_lsp.specs.declared.workspace.left_out.LeftOutReason.{LeftOutReason}
use Rattle.ftl_lsp.specs.declared.workspace.left_out.LeftOutReason.TheVariants.{NotUtf8, NotRead, TooDeep, TooMuch}

abbrev pub reason_text : LeftOutReason → List ℕ
reason_text NotUtf8 = codes "is not UTF-8"
reason_text NotRead = codes "has more than 1048576 bytes or can't be read"
reason_text TooDeep = codes "nests too deep"
reason_text TooMuch = codes "is one of too many: its folder has more than 33554432 bytes"

-- that the file is left out, and why
abbrev pub left_out_sentence : (name : List ℕ) → LeftOutReason → List ℕ
left_out_sentence name reason =
    name ++ (codes " " ++ (reason_text reason ++ codes ", so undefined names of its language are not reported"))
