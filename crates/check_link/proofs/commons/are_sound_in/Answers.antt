use Rattle.std.proofs.Common.{subst, sym}
use Rattle.std.specs.Prelude.{All}
use Rattle.check_link.specs.Soundness.{IsSoundEntry}
use Rattle.check_link.proofs.commons.are_sound_in.Goals as goal

pub returns : goal.returns
returns c = (
  λ e. subst (All IsSoundEntry) c.symbols.ensures (c.all_sound.ensures.0 e),
  λ all. c.all_sound.ensures.1 (subst (All IsSoundEntry) (sym c.symbols.ensures) all),
)
