-- The names of the methods.
use Rattle.std.specs.Prelude.{ℕ, List, codes}
use Rattle.ftl_lsp.specs.declared.sessions.methods.Method.{Method}
use Rattle.ftl_lsp.specs.declared.sessions.methods.Method.TheVariants.{Initialize, Shutdown, DocumentSymbol}
use Rattle.ftl_lsp.specs.declared.sessions.methods.Method.TheVariants.{Formatting, FoldingRange, DidOpen, DidChange}
use Rattle.ftl_lsp.specs.declared.sessions.methods.Method.TheVariants.{DidClose, DidSave, Exit}
use Rattle.ftl_lsp.specs.declared.sessions.methods.Method.TheVariants.{Definition, References, DocumentHighlight}
use Rattle.ftl_lsp.specs.declared.sessions.methods.Method.TheVariants.{Hover, Rename, Completion, WorkspaceSymbol}
use Rattle.ftl_lsp.specs.declared.sessions.methods.Method.TheVariants.{SemanticTokens, Initialized}
use Rattle.ftl_lsp.specs.declared.sessions.methods.Method.TheVariants.{CodeAction, DidChangeWatchedFiles, PrepareRename}
use Rattle.ftl_lsp.specs.declared.sessions.methods.Method.TheVariants.{SelectionRange, DidChangeWorkspaceFolders}
use Rattle.ftl_lsp.specs.declared.sessions.methods.Method.TheVariants.{RangeFormatting}

abbrev pub name_of : Method → List ℕ
name_of Initialize = codes "initialize"
name_of Shutdown = codes "shutdown"
name_of DocumentSymbol = codes "textDocument/documentSymbol"
name_of Formatting = codes "textDocument/formatting"
name_of FoldingRange = codes "textDocument/foldingRange"
name_of Definition = codes "textDocument/definition"
name_of References = codes "textDocument/references"
name_of DocumentHighlight = codes "textDocument/documentHighlight"
name_of Hover = codes "textDocument/hover"
name_of Rename = codes "textDocument/rename"
name_of Completion = codes "textDocument/completion"
name_of WorkspaceSymbol = codes "workspace/symbol"
name_of SemanticTokens = codes "textDocument/semanticTokens/full"
name_of DidOpen = codes "textDocument/didOpen"
name_of DidChange = codes "textDocument/didChange"
name_of DidClose = codes "textDocument/didClose"
name_of DidSave = codes "textDocument/didSave"
name_of Exit = codes "exit"
name_of Initialized = codes "initialized"
name_of DidChangeWatchedFiles = codes "workspace/didChangeWatchedFiles"
name_of DidChangeWorkspaceFolders = codes "workspace/didChangeWorkspaceFolders"
name_of PrepareRename = codes "textDocument/prepareRename"
name_of SelectionRange = codes "textDocument/selectionRange"
name_of CodeAction = codes "textDocument/codeAction"
name_of RangeFormatting = codes "textDocument/rangeFormatting"
