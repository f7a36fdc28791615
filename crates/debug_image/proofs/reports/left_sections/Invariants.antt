use Rattle.std.proofs.Common.{◌≡◌, ◌+◌, ◌%◌, ◌^◌, drop}
use Rattle.search.specs.Views.{loaded_views}
use Rattle.debug_image.specs.Reports.{left_sections}
use Rattle.debug_image.proofs.reports.left_sections.Given as goal

abbrev pub invariant-loop-k : goal.invariant-loop-k
invariant-loop-k l =
    (l.count + left_sections l.flags l.k (drop l.k (loaded_views l.objects))) % 2 ^ 64 ≡ left_sections l.flags 0 (loaded_views l.objects) % 2 ^ 64
