use Rattle.std.proofs.Common.{ap, arith, length}
use Rattle.std.proofs.lemmas.Bool.{false≢true}
use Rattle.archive_notes.specs.ArchiveNotes.{IsDefinitionAt}
use Rattle.archive_notes.proofs.NoneFound.{none_at_all, none_more}
use Rattle.archive_notes.proofs.members.defines.Goals as goal

pub loop-j-preserved : goal.loop-j-preserved
loop-j-preserved c =
    none_more (IsDefinitionAt c.args.object.now c.args.name.now) c.loop-j.j c.loop-j.invariant (λ p. false≢true (c.if-is_definition_at.ensures.1 p))

pub returns : goal.returns
returns c = (
  λ t. absurd (false≢true t),
  λ d. absurd (none_at_all _ _ c.loop-j.j c.loop-j.invariant (omega (arith, c.loop-j-test.false, c.len-j-end.ensures, ap length c.symbols.ensures)) d.0 d.1),
)
