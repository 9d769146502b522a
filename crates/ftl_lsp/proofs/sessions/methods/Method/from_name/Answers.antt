use Rattle.std.proofs.Common.{◌≡◌, sym}
use Rattle.ftl_lsp.specs.Methods.{name_of}
use Rattle.ftl_lsp.specs.declared.sessions.methods.Method.TheVariants.{Initialize, Shutdown, DocumentSymbol}
use Rattle.ftl_lsp.specs.declared.sessions.methods.Method.TheVariants.{Formatting, FoldingRange, Definition}
use Rattle.ftl_lsp.specs.declared.sessions.methods.Method.TheVariants.{References, DocumentHighlight, Hover, Rename}
use Rattle.ftl_lsp.specs.declared.sessions.methods.Method.TheVariants.{Completion, WorkspaceSymbol, SemanticTokens}
use Rattle.ftl_lsp.specs.declared.sessions.methods.Method.TheVariants.{DidOpen, DidChange, DidClose, DidSave, Exit}
use Rattle.ftl_lsp.specs.declared.sessions.methods.Method.TheVariants.{Initialized, DidChangeWatchedFiles}
use Rattle.ftl_lsp.specs.declared.sessions.methods.Method.TheVariants.{DidChangeWorkspaceFolders}
use Rattle.ftl_lsp.specs.declared.sessions.methods.Method.TheVariants.{CodeAction, PrepareRename, RangeFormatting}
use Rattle.ftl_lsp.specs.declared.sessions.methods.Method.TheVariants.{SelectionRange}
use Rattle.ftl_lsp.proofs.sessions.methods.Method.from_name.Goals as goal

pub returns-in_default-clause-other : goal.returns-in_default-clause-other
returns-in_default-clause-other c =
    λ method. elim method as (λ known. name_of known ≡ c.args.name.now → ⊥) [
      | Initialize ↦ λ e. c.in_default.not-initialize (sym e)
      | Shutdown ↦ λ e. c.in_default.not-shutdown (sym e)
      | DocumentSymbol ↦ λ e. c.in_default.not-text (sym e)
      | Formatting ↦ λ e. c.in_default.not-text-2 (sym e)
      | FoldingRange ↦ λ e. c.in_default.not-text-3 (sym e)
      | Definition ↦ λ e. c.in_default.not-text-4 (sym e)
      | References ↦ λ e. c.in_default.not-text-5 (sym e)
      | DocumentHighlight ↦ λ e. c.in_default.not-text-6 (sym e)
      | Hover ↦ λ e. c.in_default.not-text-7 (sym e)
      | Rename ↦ λ e. c.in_default.not-text-8 (sym e)
      | Completion ↦ λ e. c.in_default.not-text-9 (sym e)
      | WorkspaceSymbol ↦ λ e. c.in_default.not-text-10 (sym e)
      | SemanticTokens ↦ λ e. c.in_default.not-text-11 (sym e)
      | DidOpen ↦ λ e. c.in_default.not-text-12 (sym e)
      | DidChange ↦ λ e. c.in_default.not-text-13 (sym e)
      | DidClose ↦ λ e. c.in_default.not-text-14 (sym e)
      | DidSave ↦ λ e. c.in_default.not-text-15 (sym e)
      | Exit ↦ λ e. c.in_default.not-exit (sym e)
      | Initialized ↦ λ e. c.in_default.not-initialized (sym e)
      | DidChangeWatchedFiles ↦ λ e. c.in_default.not-text-16 (sym e)
      | DidChangeWorkspaceFolders ↦ λ e. c.in_default.not-text-17 (sym e)
      | PrepareRename ↦ λ e. c.in_default.not-text-18 (sym e)
      | SelectionRange ↦ λ e. c.in_default.not-text-19 (sym e)
      | CodeAction ↦ λ e. c.in_default.not-text-20 (sym e)
      | RangeFormatting ↦ λ e. c.in_default.not-text-21 (sym e)
    ]
