use Rattle.ftl_lsp.proofs.requests.renaming.rename_edits.Goals as goal

pub returns-in_ok-renaming-in-Ok : goal.returns-in_ok-renaming-in-Ok
returns-in_ok-renaming-in-Ok c = λ texts d context wanted.
    c.in_ok-renaming-in-Ok.ensures texts d context (c.in-Ok.ensures texts d context wanted)
