use Rattle.std.proofs.Common.{subst, sym, length, List, ◌≤◌}
use Rattle.std.specs.Prelude.{All}
use Rattle.elf_model.specs.Link.Pieces as pieces
use Rattle.check_load.specs.Views.{loaded_views}
use Rattle.check_link.proofs.PieceLemmas.{all_short, objects_end}
use Rattle.check_link.proofs.pieces.pieces_of.Goals as goal

pub returns-clause-sizes : goal.returns-clause-sizes
returns-clause-sizes c =
    subst (λ (ps : List pieces.Piece). All (λ p. length p.bytes ≤ p.size) ps)
    (sym (objects_end c.loop-k.found.items c.args.objects.now c.loop-k.k _ c.loop-k-test.false c.loop-k.invariant))
    (all_short (loaded_views c.args.objects.now))
