use Rattle.ftl_lsp.proofs.sessions.notices.Notice.sentence.Goals as goal

pub returns-in-HasError : goal.returns-in-HasError
returns-in-HasError c = rw c.in-HasError.is c.format-in-HasError.ensures.ok

pub returns-in-NotReadBack : goal.returns-in-NotReadBack
returns-in-NotReadBack c = rw c.in-NotReadBack.is c.format-in-NotReadBack.ensures.ok

pub returns-in-WrongSettings : goal.returns-in-WrongSettings
returns-in-WrongSettings c = rw c.in-WrongSettings.is c.format-in-WrongSettings.ensures.ok
