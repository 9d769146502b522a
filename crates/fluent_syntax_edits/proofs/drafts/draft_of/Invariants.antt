use Rattle.std.proofs.Common.{drop, map}
use Rattle.std.specs.Str.{IsCharBoundary}
use Rattle.fluent_syntax_edits.specs.SeveralEdits.{numbered_change}
use Rattle.fluent_syntax_edits.proofs.DraftSteps.{IsDraftBefore}
use Rattle.fluent_syntax_edits.proofs.drafts.draft_of.Given as goal

abbrev pub invariant-loop-edit : goal.invariant-loop-edit
invariant-loop-edit l =
    let rest = map numbered_change (drop l.edit-index l.edits) in
    record {
      before : IsDraftBefore l.edition l.source (map numbered_change l.edits) rest l.draft;
      cuts : IsCharBoundary l.source l.draft.end;
    }
