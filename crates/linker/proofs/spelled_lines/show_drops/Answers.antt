use Rattle.std.proofs.Common.{arith}
use Rattle.search.specs.Views.{loaded_views}
use Rattle.linker.proofs.PlaceLines.{drop_rows-fit}
use Rattle.linker.proofs.spelled_lines.show_drops.Goals as goal

pub returns : goal.returns
returns c = drop_rows-fit (loaded_views c.args.objects.now) 0 (omega (arith, c.show_count.ensures)) c.requires
