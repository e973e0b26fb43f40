use Rattle.std.proofs.Common.{◌≡◌}
use Rattle.std.specs.Io.KnownBytes.{Keeps}
use Rattle.std.specs.Io.Buffered.{reader_remaining}
use Rattle.lrat_forms.specs.Comments.{uncommented_known}
use Rattle.lrat_forms.specs.declared.comments.Line.TheVariants.{Comment}
use Rattle.lrat_forms.proofs.comments.Uncommented.pass_comment.Given as goal

-- what is left stays the same, in a comment
abbrev pub invariant-loop : goal.invariant-loop
invariant-loop g l = record {
  keeps : Keeps (uncommented_known l.fn.self.line (reader_remaining g.I.Read.remaining l.fn.self.inner)) (uncommented_known l.self.line (reader_remaining g.I.Read.remaining l.self.inner));
  comment : l.self.line ≡ Comment;
  owed : l.self.owed ≡ l.fn.self.owed;
}
